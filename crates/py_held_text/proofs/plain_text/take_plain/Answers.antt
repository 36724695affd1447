use Rattle.std.proofs.Common.{◌≡◌, ◌+◌, ℕ, length, chars, ap, ◌∙◌, sym, refl, arith}
use Rattle.py_blocks.proofs.Beginning.{count-chars}
use Rattle.py_blocks.proofs.Written.{chars_within}
use Rattle.py_held_text.proofs.Plain.{stop-wanted, stop-short}
use Rattle.py_held_text.proofs.plain_text.take_plain.Goals as goal

pub returns-then-chars-want-clause-count : goal.returns-then-chars-want-clause-count
returns-then-chars-want-clause-count c = ap (λ (n : ℕ). c.args.plain.now.count + n) (c.count_starts-chars.ensures ∙ count-chars c.args.part.now c.requires.utf8)

pub returns-then-chars-want-clause-decoded : goal.returns-then-chars-want-clause-decoded
returns-then-chars-want-clause-decoded c = record {
  used = refl;
  chars = c.count_starts-chars.ensures ∙ count-chars c.args.part.now c.requires.utf8;
  stop = stop-wanted c.args.want c.count_starts-chars.result c.if-chars-want.true;
  cut = refl;
}

pub returns-else-chars-want-clause-count : goal.returns-else-chars-want-clause-count
returns-else-chars-want-clause-count c = ap (λ (n : ℕ). c.args.plain.now.count + n) (c.count_starts-chars.ensures ∙ count-chars c.args.part.now c.requires.utf8)

pub returns-else-chars-want-clause-decoded : goal.returns-else-chars-want-clause-decoded
returns-else-chars-want-clause-decoded c =
    let count : c.count_starts-chars.result ≡ length (chars c.args.part.now) = c.count_starts-chars.ensures ∙ count-chars c.args.part.now c.requires.utf8 in
    record {
      used = refl;
      chars = count;
      stop = stop-short c.args.want c.count_starts-chars.result (omega (arith, count, chars_within c.args.part.now c.requires.utf8, c.requires.few)) c.if-chars-want.false;
      cut = refl;
    }
