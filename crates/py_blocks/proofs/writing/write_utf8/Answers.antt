use Rattle.std.proofs.Common.{length, chars, ap, ◌∙◌, arith}
use Rattle.std.proofs.lemmas.List.{drop_all}
use Rattle.std.proofs.lemmas.Str.{chars-nil}
use Rattle.py_blocks.proofs.Written.{Wrote-utf8}
use Rattle.py_blocks.proofs.writing.write_utf8.Goals as goal

pub returns-clause-stops : goal.returns-clause-stops
returns-clause-stops c =
    let text = c.args.text.now in
    ap chars (c.range_from.ensures.value ∙ drop_all (length text) text (omega arith)) ∙ chars-nil

pub returns-clause-wrote : goal.returns-clause-wrote
returns-clause-wrote c =
    Wrote-utf8 c.args.text.now c.args.bytes.now.items _ _ c.in_ok-push_text.field-0 c.utf8.text c.in_ok-push_text.ensures.appended c.in_ok-push_text.ensures.counted (returns-clause-stops c)
