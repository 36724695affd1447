use Rattle.std.proofs.Common.{◌≡◌, IfOk, ap, subst, ◌∙◌}
use Rattle.std.specs.Fmt.{is_char_start}
use Rattle.std.specs.List.{count_by}
use Rattle.py_blocks.proofs.Beginning.{count-chars}
use Rattle.py_blocks.proofs.counting.push_text.Goals as goal

pub returns-clause-counted : goal.returns-clause-counted
returns-clause-counted c =
    let same = ap (count_by is_char_start) c.as_bytes.ensures.value ∙ count-chars c.args.text.now c.utf8.text in
    subst (λ n. IfOk c.push_counted.result (λ count. count ≡ n)) same c.push_counted.ensures.counted
