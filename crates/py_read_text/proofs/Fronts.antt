-- A front of what is owed, laid on the raw's bytes.
use Rattle.std.proofs.Common.{◌≡◌, ◌≢◌, ℕ, ◌+◌, ◌-◌, ◌≤◌, ◌⊎◌, inl, inr, min, zero, suc, List, [], ◌∷◌, ◌++◌, length, take, drop, refl, sym, ◌∙◌, ap, subst, arith, append-nil, length-append, length-drop}
use Rattle.std.proofs.lemmas.List.{take_all, take-append-le, take_min}
use Rattle.std.proofs.Math.Seq.{take-append-add}
use Rattle.py_flat.specs.Bytes.{lay}
use Rattle.py_flat.specs.Owed.{Owed}
use Rattle.py_flat.proofs.Laying.{lay_behind}
use Rattle.py_plain_text.specs.TextOver.{TextOver}
use Rattle.py_stream.specs.Writing.{OwesUpTo, LaysFrontOf}
use Rattle.py_stream.specs.Buffer.{Buffer, WhereShown, flat_of, BufferLays}
use Rattle.py_raw.specs.RawStream.{Keeps}
use Rattle.py_raw.proofs.Telling.{tells_still}
use Rattle.py_read_text.specs.Owing.{all_owed, all_from, IsJoined, PassesOwed, LaysFront, LaysOwed}
use Rattle.py_read_text.proofs.Laying.{lays_then}

-- nothing is laid on
pub lays_none : (bytes : List ℕ) (from : ℕ) (owed after : List ℕ) → after ≡ bytes → LaysFront bytes from owed after
lays_none bytes from owed after same = record { count = 0; laid = same }

-- a front of nothing is nothing
pub laid_none : (bytes : List ℕ) (from : ℕ) (owed after : List ℕ) → owed ≡ [] → LaysFront bytes from owed after → after ≡ bytes
laid_none bytes from owed after none lays = lays.laid ∙ ap (lay bytes from) (ap (take lays.count) none ∙ take_all lays.count [] (omega arith))

-- a front of some bytes is one of these and more
pub lays_more : (bytes : List ℕ) (from : ℕ) (owed more after : List ℕ) → LaysFront bytes from owed after → LaysFront bytes from (owed ++ more) after
lays_more bytes from owed more after lays =
    let count : ℕ = min lays.count (length owed) in
    record { count = count; laid = lays.laid ∙ ap (lay bytes from) (sym (take-append-le count owed more (omega arith) ∙ take_min lays.count owed)) }

-- what a buffer lays on, of what it owed and of what it was given behind that
pub lays_both : (bytes : List ℕ) (owed : Owed) (place : ℕ) (own after : List ℕ) → OwesUpTo owed place → LaysFrontOf bytes owed place own after → LaysFront bytes (place - length owed.bytes) (owed.bytes ++ own) after
lays_both bytes owed place own after (inl none) lays =
    let at : place - length owed.bytes ≡ place = omega (arith, ap length none) in
    let front : lay bytes owed.place (take lays.passed owed.bytes) ≡ bytes = ap (lay bytes owed.place) (ap (take lays.passed) none ∙ take_all lays.passed [] (omega arith)) in
    record { count = lays.more; laid = lays.laid ∙ (ap (λ (all : List ℕ). lay all place (take lays.more own)) front ∙ (ap (λ (from : ℕ). lay bytes from (take lays.more own)) (sym at) ∙ ap (λ (all : List ℕ). lay bytes (place - length owed.bytes) (take lays.more (all ++ own))) (sym none))) }
lays_both bytes owed place own after (inr ends) lays = by_more lays.more refl
  where
    at : place - length owed.bytes ≡ owed.place
    at = omega (arith, ends)

    by_more : (more : ℕ) → lays.more ≡ more → LaysFront bytes (place - length owed.bytes) (owed.bytes ++ own) after
    by_more zero is =
        let front : LaysFront bytes owed.place owed.bytes after = record { count = lays.passed; laid = lays.laid ∙ ap (λ (count : ℕ). lay (lay bytes owed.place (take lays.passed owed.bytes)) place (take count own)) is } in
        subst (λ (from : ℕ). LaysFront bytes from (owed.bytes ++ own) after) (sym at) (lays_more bytes owed.place owed.bytes own after front)
    by_more (suc more) is =
        let some : lays.more ≢ 0 = λ none. omega (arith, is, none) in
        let all : take lays.passed owed.bytes ≡ owed.bytes = take_all lays.passed owed.bytes (lays.order some) in
        record {
          count = length owed.bytes + lays.more;
          laid = lays.laid
              ∙ (ap (λ (front : List ℕ). lay (lay bytes owed.place front) place (take lays.more own)) all
              ∙ (ap (λ (from : ℕ). lay (lay bytes owed.place owed.bytes) from (take lays.more own)) (sym ends)
              ∙ (lay_behind bytes owed.place owed.bytes (take lays.more own)
              ∙ (ap (lay bytes owed.place) (sym (take-append-add owed.bytes own lays.more))
              ∙ ap (λ (from : ℕ). lay bytes from (take (length owed.bytes + lays.more) (owed.bytes ++ own))) (sym at)))));
        }

-- what is laid on of a front that is owed, and then of what is left of it and of what is given behind it
pub lays_behind : (bytes : List ℕ) (from behind : ℕ) (all left given mid after : List ℕ) (passed : ℕ) → passed ≤ length all → left ≡ drop passed all → behind ≡ from + passed → LaysFront bytes from all mid → lay mid behind left ≡ lay bytes from all → LaysFront mid behind (left ++ given) after → LaysFront bytes from (all ++ given) after
lays_behind bytes from behind all left given mid after passed most is at first flat second =
    let then = lays_then bytes from all given passed first.count second.count mid most first.laid (ap (λ (own : List ℕ). lay mid (from + passed) own) (sym is) ∙ (ap (λ (own : ℕ). lay mid own left) (sym at) ∙ flat)) in
    record {
      count = then.0;
      laid = second.laid ∙ (ap (λ (own : ℕ). lay mid own (take second.count (left ++ given))) at ∙ (ap (λ (own : List ℕ). lay mid (from + passed) (take second.count (own ++ given))) is ∙ then.1));
    }

-- what is owed, laid where a place before which it ends says
pub lays_at_end : (bytes : List ℕ) (owed : Owed) (place : ℕ) → OwesUpTo owed place → lay bytes owed.place owed.bytes ≡ lay bytes (place - length owed.bytes) owed.bytes
lays_at_end bytes owed place (inl none) = ap (lay bytes owed.place) none ∙ ap (lay bytes (place - length owed.bytes)) (sym none)
lays_at_end bytes owed place (inr ends) = ap (λ (from : ℕ). lay bytes from owed.bytes) (omega (arith, ends))

-- what a buffer lays on that is given no bytes
pub lays_alone : (before after : Buffer) → OwesUpTo before.owed before.place → WhereShown before (BufferLays before [] after.raw.bytes) → WhereShown before (LaysFront before.raw.bytes (before.place - length before.owed.bytes) before.owed.bytes after.raw.bytes)
lays_alone before after ends lays = λ told. subst (λ (owed : List ℕ). LaysFront before.raw.bytes (before.place - length before.owed.bytes) owed after.raw.bytes) (append-nil before.owed.bytes) (lays_both before.raw.bytes before.owed before.place [] after.raw.bytes ends (lays told))

-- what is owed reaches no further back than the start
pub owed_within : (owed : Owed) (place : ℕ) → OwesUpTo owed place → length owed.bytes ≤ place
owed_within owed place (inl none) = omega (arith, ap length none)
owed_within owed place (inr ends) = omega (arith, ends)

-- of a text.

front_none : (front back : List ℕ) → front ++ back ≡ [] → front ≡ []
front_none [] back none = refl
front_none (byte ∷ more) back none = absurd (cc)

-- all that is owed begins where what the buffer owes does; or nothing is owed
from_is : (text : TextOver Buffer) → IsJoined text → (all_owed text ≡ []) ⊎ (all_from text ≡ text.buffer.place - length text.buffer.owed.bytes)
from_is text joined = by_stands joined.stands
  where
    by_stands : ((text.buffer.owed.bytes ≡ []) × (text.owed ≡ [])) ⊎ (text.place.at ≡ text.buffer.place + length text.owed) → (all_owed text ≡ []) ⊎ (all_from text ≡ text.buffer.place - length text.buffer.owed.bytes)
    by_stands (inl none) = inl (ap (λ (front : List ℕ). front ++ text.owed) none.0 ∙ none.1)
    by_stands (inr at) = inr (omega (arith, at, length-append text.buffer.owed.bytes text.owed))

pub all_within : (text : TextOver Buffer) → IsJoined text → length (all_owed text) ≤ text.place.at
all_within text joined = by_stands joined.stands
  where
    by_stands : ((text.buffer.owed.bytes ≡ []) × (text.owed ≡ [])) ⊎ (text.place.at ≡ text.buffer.place + length text.owed) → length (all_owed text) ≤ text.place.at
    by_stands (inl none) = omega (arith, ap length none.0, ap length none.1, length-append text.buffer.owed.bytes text.owed)
    by_stands (inr at) = omega (arith, at, length-append text.buffer.owed.bytes text.owed, owed_within text.buffer.owed text.buffer.place joined.below)

-- what a buffer lays on that is given no bytes, seen of its text
pub lays_owed : (before : TextOver Buffer) (given after : List ℕ) → IsJoined before → LaysFront before.buffer.raw.bytes (before.buffer.place - length before.buffer.owed.bytes) before.buffer.owed.bytes after → LaysFront before.buffer.raw.bytes (all_from before) (all_owed before ++ given) after
lays_owed before given after joined lays = by_from (from_is before joined)
  where
    by_from : (all_owed before ≡ []) ⊎ (all_from before ≡ before.buffer.place - length before.buffer.owed.bytes) → LaysFront before.buffer.raw.bytes (all_from before) (all_owed before ++ given) after
    by_from (inl none) = lays_none before.buffer.raw.bytes (all_from before) (all_owed before ++ given) after (laid_none before.buffer.raw.bytes (before.buffer.place - length before.buffer.owed.bytes) before.buffer.owed.bytes after (front_none before.buffer.owed.bytes before.owed none) lays)
    by_from (inr at) = subst (λ (from : ℕ). LaysFront before.buffer.raw.bytes from (all_owed before ++ given) after) (sym at)
        (lays_more before.buffer.raw.bytes (before.buffer.place - length before.buffer.owed.bytes) (all_owed before) given after
        (lays_more before.buffer.raw.bytes (before.buffer.place - length before.buffer.owed.bytes) before.buffer.owed.bytes before.owed after lays))

-- the bytes that a text stands for: the raw's, with all laid on that is owed
flat_all : (text : TextOver Buffer) → IsJoined text → lay (flat_of text.buffer).bytes text.buffer.place text.owed ≡ lay text.buffer.raw.bytes (all_from text) (all_owed text)
flat_all text joined = by_stands joined.stands joined.below
  where
    by_stands : ((text.buffer.owed.bytes ≡ []) × (text.owed ≡ [])) ⊎ (text.place.at ≡ text.buffer.place + length text.owed) → OwesUpTo text.buffer.owed text.buffer.place → lay (flat_of text.buffer).bytes text.buffer.place text.owed ≡ lay text.buffer.raw.bytes (all_from text) (all_owed text)
    by_stands (inl none) below =
        ap (lay (flat_of text.buffer).bytes text.buffer.place) none.1
        ∙ (ap (lay text.buffer.raw.bytes text.buffer.owed.place) none.0
        ∙ ap (lay text.buffer.raw.bytes (all_from text)) (sym (ap (λ (front : List ℕ). front ++ text.owed) none.0 ∙ none.1)))
    by_stands (inr at) (inl none) =
        let from : text.buffer.place ≡ all_from text = omega (arith, at, length-append text.buffer.owed.bytes text.owed, ap length none) in
        ap (λ (bytes : List ℕ). lay bytes text.buffer.place text.owed) (ap (lay text.buffer.raw.bytes text.buffer.owed.place) none)
        ∙ (ap (λ (place : ℕ). lay text.buffer.raw.bytes place text.owed) from
        ∙ ap (λ (front : List ℕ). lay text.buffer.raw.bytes (all_from text) (front ++ text.owed)) (sym none))
    by_stands (inr at) (inr ends) =
        let from : text.buffer.owed.place ≡ all_from text = omega (arith, at, length-append text.buffer.owed.bytes text.owed, ends) in
        ap (λ (place : ℕ). lay (flat_of text.buffer).bytes place text.owed) (sym ends)
        ∙ (lay_behind text.buffer.raw.bytes text.buffer.owed.place text.buffer.owed.bytes text.owed
        ∙ ap (λ (place : ℕ). lay text.buffer.raw.bytes place (all_owed text)) from)

-- what is laid on by two calls, the first of which leaves the text as it stands
pub lays_on : (old mid new : TextOver Buffer) (given : List ℕ) → IsJoined old → IsJoined mid → mid.place.at ≡ old.place.at → Keeps old.buffer.raw mid.buffer.raw → PassesOwed old.buffer.raw (all_owed old) mid.buffer.raw (all_owed mid) → WhereShown old.buffer (lay (flat_of mid.buffer).bytes mid.buffer.place mid.owed ≡ lay (flat_of old.buffer).bytes old.buffer.place old.owed) → LaysOwed old (all_owed old ++ []) mid → LaysOwed mid (all_owed mid ++ given) new → LaysOwed old (all_owed old ++ given) new
lays_on old mid new given was is place keeps owes flat first second = λ told.
    let behind : all_from mid ≡ all_from old + owes.passed = omega (arith, place, ap length owes.rest, length-drop owes.passed (all_owed old), owes.most, all_within old was) in
    lays_behind old.buffer.raw.bytes (all_from old) (all_from mid) (all_owed old) (all_owed mid) given mid.buffer.raw.bytes new.buffer.raw.bytes owes.passed owes.most owes.rest behind (subst (λ (owed : List ℕ). LaysFront old.buffer.raw.bytes (all_from old) owed mid.buffer.raw.bytes) (append-nil (all_owed old)) (first told))
    (sym (flat_all mid is) ∙ (flat told ∙ flat_all old was))
    (second (tells_still old.buffer.raw mid.buffer.raw keeps ∙ told))

-- nothing was laid on
pub lays_still : (text : TextOver Buffer) (owed : List ℕ) → LaysOwed text owed text
lays_still text owed = λ told. lays_none text.buffer.raw.bytes (all_from text) owed text.buffer.raw.bytes refl

-- what is laid on of what is owed, in a call that gives bytes
pub lays_given : (before : TextOver Buffer) (given : List ℕ) (after : TextOver Buffer) → LaysOwed before (all_owed before ++ []) after → LaysOwed before (all_owed before ++ given) after
lays_given before given after lays = λ told.
    lays_more before.buffer.raw.bytes (all_from before) (all_owed before) given after.buffer.raw.bytes
    (subst (λ (owed : List ℕ). LaysFront before.buffer.raw.bytes (all_from before) owed after.buffer.raw.bytes) (append-nil (all_owed before)) (lays told))
