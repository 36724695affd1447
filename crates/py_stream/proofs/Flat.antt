-- What bytes that a stream takes, and those that it passes on, are to the flat file that it stands for: of one that owes what lies
-- right before its place.
use Rattle.std.proofs.Common.{◌≡◌, ℕ, ◌+◌, ◌-◌, ◌<◌, ◌≤◌, List, [], ◌++◌, length, take, drop, sym, ◌∙◌, ap, subst, arith, ⊎_elim, append_assoc, length-append, length-drop}
use Rattle.std.proofs.Math.ListN.{drop_of_length-le}
use Rattle.std.proofs.Math.Seq.{take-append-add}
use Rattle.std.proofs.lemmas.Bool.{cases_lt}
use Rattle.std.proofs.lemmas.List.{length-take-le, take_all, take-append-le, take-append-drop}
use Rattle.py_flat.specs.declared.life.Life.{Life}
use Rattle.py_flat.specs.declared.life.Life.TheVariants as life
use Rattle.py_flat.specs.Bytes.{lay}
use Rattle.py_flat.specs.ExactStep.{after_write}
use Rattle.py_flat.specs.BinaryStep.{Fails}
use Rattle.py_flat.proofs.Laying.{lay_behind, lay_resumes}
use Rattle.py_raw.specs.RawStream.{WhereTold}
use Rattle.py_stream.specs.Stream.{Stream, buffering_of, file_of}
use Rattle.py_stream.specs.Keeping.{KeepsOn}
use Rattle.py_stream.specs.Taking.{Took, FailsTaking}
use Rattle.py_stream.specs.Writing.{LaysFront}

-- Where the stream stands.

-- the stream's place once bytes were taken
pub took_ends : (old new : Stream) (bytes : List ℕ) → Took old bytes new → new.place ≡ old.place + length bytes
took_ends old new bytes took = omega (arith, took.was.ends, took.behind.ends, took.within, took.place, ap length took.owed, length-drop took.passed (old.owed.bytes ++ bytes), length-append old.owed.bytes bytes)

-- the stream's place once the first n bytes were taken, and the raw failed
pub fails_ends : (old new : Stream) (bytes : List ℕ) (fails : FailsTaking old bytes new) → new.place ≡ old.place + fails.taken
fails_ends old new bytes fails = grind (arith, length-drop, length-append, length-take-le)

-- Over plain lists: a raw's bytes, those that it is owed, and a call's own after them.

-- a front of all was laid on, and the rest is owed
flat_laid : (raw : List ℕ) (place : ℕ) (owed own : List ℕ) (kept laid : ℕ) → kept ≤ laid → laid ≤ length owed + length own → lay (lay raw place (take laid (owed ++ own))) (place + kept) (drop kept (owed ++ own)) ≡ lay (lay raw place owed) (place + length owed) own
flat_laid raw place owed own kept laid fits within = lay_resumes raw place (owed ++ own) kept laid fits (omega (arith, length-append owed own)) ∙ sym (lay_behind raw place owed own)

laid_within : (raw : List ℕ) (place : ℕ) (owed own : List ℕ) (count : ℕ) → count ≤ length owed → lay raw place (take count (owed ++ own)) ≡ lay (lay raw place (take count owed)) (place + length owed) (take (count - length owed) own)
laid_within raw place owed own count within = grind (arith, take-append-le)

laid_beyond : (raw : List ℕ) (place : ℕ) (owed own : List ℕ) (count : ℕ) → length owed ≤ count → lay raw place (take count (owed ++ own)) ≡ lay (lay raw place owed) (place + length owed) (take (count - length owed) own)
laid_beyond raw place owed own count beyond =
    let parts : length owed + (count - length owed) ≡ count = omega arith in
    grind (arith, take-append-add, lay_behind)

-- a front of all, laid on: first what was owed, then the call's own
pub laid_in_order : (raw : List ℕ) (place : ℕ) (owed own : List ℕ) (count : ℕ) → lay raw place (take count (owed ++ own)) ≡ lay (lay raw place (take count owed)) (place + length owed) (take (count - length owed) own)
laid_in_order raw place owed own count = grind (arith, laid_within, laid_beyond, take_all, cases_lt)

-- a front of what some bytes begin with
pub take_front : (owed own : List ℕ) (taken count : ℕ) → taken ≤ length own → count ≤ length owed + taken → take count (owed ++ own) ≡ take count (owed ++ take taken own)
take_front owed own taken count fits within =
    ap (λ (t : List ℕ). take count (owed ++ t)) (sym (take-append-drop taken own))
    ∙ ap (take count) (sym (append_assoc owed (take taken own) (drop taken own)))
    ∙ take-append-le count (owed ++ take taken own) (drop taken own) (omega (arith, length-append owed (take taken own), length-take-le taken own fits))

-- some of a call's own bytes are laid on, in a flat file: at least n
pub record LaysOwn (before : List ℕ) (place least : ℕ) (own after : List ℕ) : Type 0 where
  pub count : ℕ
  pub least_is : least ≤ count
  pub fits : count ≤ length own
  pub bytes : after ≡ lay before place (take count own)

-- the raw has some front of all, and what is still owed of those that were taken is laid on after
failed_flat : (raw : List ℕ) (place : ℕ) (owed own : List ℕ) (taken kept laid : ℕ) → taken ≤ length own → kept ≤ length owed + taken → kept ≤ laid → laid ≤ length owed + length own → (kept < length owed + taken → laid ≤ length owed + taken) → LaysOwn (lay raw place owed) (place + length owed) taken own (lay (lay raw place (take laid (owed ++ own))) (place + kept) (drop kept (owed ++ take taken own)))
failed_flat raw place owed own taken kept laid fits within least most owes =
    let front : List ℕ = take taken own in
    let long : length front ≡ taken = length-take-le taken own fits in
    ⊎_elim
    (λ owing. record {
      count = taken;
      least_is = omega arith;
      fits = fits;
      bytes = ap (λ (t : List ℕ). lay (lay raw place t) (place + kept) (drop kept (owed ++ front))) (take_front owed own taken laid fits (owes owing))
          ∙ flat_laid raw place owed front kept laid least (omega (arith, long, owes owing));
    })
    (λ all. (grind (arith, drop_of_length-le, length-append, laid_beyond)))
    (cases_lt kept (length owed + taken))

-- What was taken.

-- the bytes of the flat file that a stream stands for
abbrev pub flat_of : Stream → List ℕ
flat_of stream = (file_of stream).bytes

-- told: the flat file has the bytes that were taken, after the place
pub took_bytes : (old new : Stream) (bytes : List ℕ) → Took old bytes new → WhereTold old.raw (flat_of new ≡ lay (flat_of old) old.place bytes)
took_bytes old new bytes took tells = grind (arith, flat_laid)

-- a live stream's file, by its bytes and its place
pub file_now : (old new : Stream) → KeepsOn old new → new.life ≡ old.life → file_of new ≡ record (file_of old) { bytes = flat_of new; place = new.place }
file_now old new kept same = grind arith

-- the stream's flat file once bytes were taken is as after a write
pub took_file : (old new : Stream) (bytes : List ℕ) → old.life ≡ life.Live → Took old bytes new → WhereTold old.raw (file_of new ≡ after_write (file_of old) bytes)
took_file old new bytes live took tells = grind (arith, took_bytes, took_ends, file_now)

-- the stream's place where no bytes were taken
pub took_none_ends : (old new : Stream) → Took old [] new → new.place ≡ old.place
took_none_ends old new took = omega (arith, took_ends old new [] took)

-- the stream's flat file where no bytes were taken is as it was
pub took_none_file : (old new : Stream) → old.life ≡ life.Live → Took old [] new → WhereTold old.raw (file_of new ≡ file_of old)
took_none_file old new live took tells =
    file_now old new took.kept (took.live ∙ sym live)
    ∙ ap (λ (all : List ℕ). record (file_of old) { bytes = all; place = new.place }) (took_bytes old new [] took tells)
    ∙ ap (λ (at : ℕ). record (file_of old) { place = at }) (took_none_ends old new took)

-- the flat file of a stream that failed
pub failed_file : (old new : Stream) (left : Life) (bytes : List ℕ) → KeepsOn old new → new.life ≡ left → flat_of new ≡ bytes → Fails (file_of old) left bytes (file_of new)
failed_file old new left bytes kept is are = record { life_is = is; bytes_are = are; can = kept.can; buffering = ap buffering_of kept.buffer }

-- Where the raw failed.

-- told: the flat file has some of the call's bytes, after the place, and at least those that were taken
pub fails_bytes : (old new : Stream) (bytes : List ℕ) (fails : FailsTaking old bytes new) → WhereTold old.raw (LaysOwn (flat_of old) old.place fails.taken bytes (flat_of new))
fails_bytes old new bytes fails tells =
    let owed : List ℕ = old.owed.bytes in
    let further = fails.told tells in
    let owing : length (owed ++ take fails.taken bytes) ≡ length owed + fails.taken = omega (arith, length-append owed (take fails.taken bytes), length-take-le fails.taken bytes fails.fits) in
    subst (λ (place : ℕ). LaysOwn (flat_of old) place fails.taken bytes (flat_of new)) fails.was.ends
    (rw (further.bytes, fails.place, fails.owed)
    (failed_flat old.raw.bytes old.owed.place owed bytes fails.taken fails.passed further.laid fails.fits fails.within further.least_is (omega (arith, further.most, length-append owed bytes)) (λ owes. omega (arith, owing, further.owes (omega (arith, owing, owes))))))

-- What the raw has.

-- told: the raw has the bytes in order, of which the first were taken
pub lays_taken : (old new : Stream) (own : List ℕ) (taken : ℕ) → taken ≤ length own → Took old (take taken own) new → WhereTold old.raw (LaysFront old own new.raw.bytes)
lays_taken old new own taken fits took tells = grind (arith, laid_in_order, take_front, length-take-le)

-- told: the raw has the bytes in order, where it failed
pub fails_lays : (old new : Stream) (bytes : List ℕ) → FailsTaking old bytes new → WhereTold old.raw (LaysFront old bytes new.raw.bytes)
fails_lays old new bytes fails tells = grind (arith, laid_in_order)
