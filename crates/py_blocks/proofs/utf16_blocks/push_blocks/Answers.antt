use Rattle.std.proofs.Common.{◌≡◌, ◌+◌, ◌-◌, ◌++◌, take, drop, chars, ap, subst, ◌∙◌, arith}
use Rattle.std.specs.List.{All}
use Rattle.std.specs.Char.{IsScalar}
use Rattle.std.proofs.lemmas.Str.{IsUtf8-from_ascii, chars-IsAscii}
use Rattle.py_blocks.specs.Texts.{text_of}
use Rattle.py_blocks.specs.Runs.{utf16}
use Rattle.py_blocks.proofs.Appended.{text_of-push_str}
use Rattle.py_blocks.proofs.Running.{IsRun-none}
use Rattle.py_blocks.proofs.Blocks.{IsRun-behind}
use Rattle.py_blocks.proofs.OwnAscii.{scalars_utf8}
use Rattle.py_blocks.proofs.utf16_blocks.push_blocks.Goals as goal

pub loop-place-init : goal.loop-place-init
loop-place-init c = IsRun-none _ _ _

pub from_utf8_unchecked-requires : goal.from_utf8_unchecked-requires
from_utf8_unchecked-requires c = IsUtf8-from_ascii c.in-Some.block c.in-Some.ensures.ascii

pub loop-place-preserved : goal.loop-place-preserved
loop-place-preserved c =
    let block = c.in-Some.block in
    let same : chars block ≡ block = chars-IsAscii block c.in-Some.ensures.ascii in
    let scalars : All IsScalar block = subst (All IsScalar) same (scalars_utf8 block (IsUtf8-from_ascii block c.in-Some.ensures.ascii)) in
    let pushed : text_of c.push_str.new.self ≡ text_of c.loop-place.text ++ block =
    text_of-push_str c.loop-place.text c.push_str.new.self c.from_utf8_unchecked.result.now c.in_ok-push_str.ensures.bytes
    ∙ ap (λ bytes. text_of c.loop-place.text ++ bytes) (ap chars c.from_utf8_unchecked.ensures ∙ same) in
    let size : 32 ≡ c.loop-place.place + 32 - c.loop-place.place = omega arith in
    IsRun-behind (utf16 c.args.big) c.args.bytes.now _ _ _ c.loop-place.place 32 block _ c.loop-place.invariant c.loop-place-test.true scalars c.in-Some.ensures.written (ap (λ size. take size (drop c.loop-place.place c.args.bytes.now)) size) pushed
