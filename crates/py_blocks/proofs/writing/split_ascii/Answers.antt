use Rattle.std.proofs.Common.{◌≡◌, ◌++◌, length, take, drop, refl, sym, ap, subst, ◌∙◌, arith}
use Rattle.std.specs.Str.{IsAscii}
use Rattle.std.proofs.lemmas.List.{take-append-drop}
use Rattle.std.proofs.lemmas.Str.{IsCharBoundary-from_take, IsUtf8-from_ascii}
use Rattle.py_blocks.proofs.Written.{Wrote-ascii}
use Rattle.py_blocks.proofs.writing.split_ascii.Goals as goal

pub split_at-requires : goal.split_at-requires
split_at-requires c =
    let text = c.args.text.now in
    let ascii : IsAscii (take c.near_ascii_front.result text) = rw c.as_bytes.ensures.value at c.near_ascii_front.ensures.ascii in
    IsCharBoundary-from_take text c.near_ascii_front.result c.utf8.text (omega (arith, ap length c.as_bytes.ensures.value)) (IsUtf8-from_ascii (take c.near_ascii_front.result text) ascii)

pub returns-clause-wrote : goal.returns-clause-wrote
returns-clause-wrote c before =
    let text = c.args.text.now in
    let front = c.split_at.result.0.now in
    let back = c.split_at.result.1.now in
    let same : take c.near_ascii_front.result text ≡ front = sym c.split_at.ensures.front in
    let ascii : IsAscii front = subst IsAscii same (subst (λ bs. IsAscii (take c.near_ascii_front.result bs)) c.as_bytes.ensures.value c.near_ascii_front.ensures.ascii) in
    let split : text ≡ front ++ back = sym (take-append-drop c.near_ascii_front.result text) ∙ ap (λ bs. bs ++ drop c.near_ascii_front.result text) same ∙ ap (λ bs. front ++ bs) (sym c.split_at.ensures.back) in
    Wrote-ascii c.args.encoding text front back before (before ++ front) c.requires ascii split refl
