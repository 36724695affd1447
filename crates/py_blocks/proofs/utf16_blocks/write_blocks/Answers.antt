use Rattle.std.proofs.Common.{◌≡◌, ℕ, Bool, List, length, take, drop, chars, subst, ap, arith}
use Rattle.std.specs.Str.{IsAscii}
use Rattle.std.proofs.lemmas.Str.{IsCharBoundary-from_take, IsUtf8-from_ascii}
use Rattle.py_blocks.specs.Runs.{utf16}
use Rattle.py_blocks.specs.Writing.{Wrote}
use Rattle.py_blocks.proofs.Blocks.{Wrote-chars}
use Rattle.py_blocks.proofs.utf16_blocks.write_blocks.Goals as goal

pub range_from-requires : goal.range_from-requires
range_from-requires c some =
    let text = c.args.text.now in
    let front = c.in_ok-front.front in
    let ascii : IsAscii (take front text) = subst (λ bytes. IsAscii (take front bytes)) c.as_bytes.ensures.value c.in_ok-front.ensures.ascii in
    IsCharBoundary-from_take text front c.utf8.text (omega (arith, c.in_ok-front.ensures.within, ap length c.as_bytes.ensures.value)) (IsUtf8-from_ascii (take front text) ascii)

-- the bytes that were written of are those of the text
at_text : (big : Bool) (read text behind before after : List ℕ) (front : ℕ) → read ≡ text → behind ≡ drop front text → IsAscii (take front read) → Wrote (utf16 big) read before after front (drop front read) → Wrote (utf16 big) (chars text) before after front (chars behind)
at_text big read text behind before after front same rest ascii wrote =
    rw (rest, ← same) (Wrote-chars (utf16 big) read before after front ascii wrote)

pub returns-clause-wrote : goal.returns-clause-wrote
returns-clause-wrote c =
    at_text c.args.big c.as_bytes.result.now c.args.text.now c.range_from.result.now _ _ _ c.as_bytes.ensures.value c.range_from.ensures.value c.in_ok-front.ensures.ascii c.in_ok-front.ensures.wrote
