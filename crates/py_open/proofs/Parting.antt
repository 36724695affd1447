-- A session that isn't detached hands its raw back, with all that is owed in one piece.
use Rattle.std.proofs.Common.{◌≡◌, ◌≢◌, ℕ, ◌+◌, ◌-◌, ◌≤◌, ◌⊎◌, inl, inr, Bool, true, false, List, [], length, Option, Some, None, IsSome, IfSome, option_map, unwrap_or, if◌then◌else◌, refl, sym, ap, ◌∙◌, subst, arith}
use Rattle.std.proofs.lemmas.List.{length-append}
use Rattle.py_flat.specs.declared.life.Life.{Life}
use Rattle.py_flat.specs.declared.life.Life.TheVariants as life
use Rattle.py_plain_text.specs.TextOver.{TextOver}
use Rattle.py_raw.specs.RawStream.{Raw}
use Rattle.py_stream.specs.declared.detached.Detached.{Detached}
use Rattle.py_stream.specs.Stream.{Stream, size_of, buffering_of}
use Rattle.py_stream.specs.Writing.{OwesUpTo}
use Rattle.py_stream.specs.Buffer.{Buffer, size_shown, buffer_of}
use Rattle.py_stream.specs.Handing.{PartsOutcome}
use Rattle.py_read_text.specs.Owing.{all_owed, IsJoined, JoinsAt}
use Rattle.py_read_text.specs.TextState.{TextState}
use Rattle.py_textio.specs.declared.text_detached.TextDetached.{TextDetached}
use Rattle.py_textio.specs.Handing as text
use Rattle.py_open.specs.TextHanding.{place_owed}

pub has_parts : {R : Type 0} (shows : R → Raw) (stream : Stream) (result : Option (Detached R)) → PartsOutcome shows stream result → stream.life ≢ life.Detached → IsSome result
has_parts shows stream (Some detached) outcome attached = grind arith
has_parts shows stream None outcome attached = absurd (attached outcome)

-- a text that isn't detached hands its buffer back
pub has_buffer : {B : Type 0} (shows : B → Buffer) (state : TextState) (result : Option (TextDetached B)) → text.PartsOutcome shows state result → state.text.life ≢ life.Detached → IsSome result
has_buffer shows state (Some detached) outcome attached = grind arith
has_buffer shows state None outcome attached = absurd (attached outcome)

-- the size that a stream shows is that of its buffer
shown_size : (size : Option ℕ) → unwrap_or (size_shown (buffering_of size)) 0 ≡ unwrap_or size 0
shown_size (Some size) = refl
shown_size None = refl

-- behind what the text owes itself there is room for what its buffer owes
pub has_room : (stream : Stream) (taken : ℕ) (text : TextOver Buffer) (owed room : ℕ) (own : List ℕ) → buffer_of stream taken ≡ text.buffer → owed ≤ size_of stream → (own ≢ [] → unwrap_or (size_shown text.buffer.buffering) 0 ≤ room) → own ≢ [] → owed ≤ room
has_room stream taken text owed room own same fits has some =
    let size : unwrap_or (size_shown text.buffer.buffering) 0 ≡ size_of stream = ap (λ (buffer : Buffer). unwrap_or (size_shown buffer.buffering) 0) (sym same) ∙ shown_size stream.buffer in
    omega (arith, fits, has some, size)

-- what is owed stands before the text
owed_before : {from taken : ℕ} {current : Life} → (buffer : Buffer) (own : List ℕ) (at : ℕ) → JoinsAt buffer own from at taken current → length buffer.owed.bytes ≤ at - length own
owed_before buffer own at joined = by joined.stands joined.below
  where
    by : ((buffer.owed.bytes ≡ []) × (own ≡ [])) ⊎ (at ≡ buffer.place + length own) → OwesUpTo buffer.owed buffer.place → length buffer.owed.bytes ≤ at - length own
    by (inl none) below = omega (arith, ap length none.0)
    by (inr stands) (inl none) = omega (arith, ap length none)
    by (inr stands) (inr below) = omega (arith, stands, below)

-- the place from which a number of bytes is taken
pub may_take : (text : TextOver Buffer) (own : List ℕ) (place : Option ℕ) (count : ℕ) → IsJoined text → own ≡ text.owed → place ≡ (if text.buffer.can.seekable then Some (text.place.at - length text.owed) else None) → count ≡ length text.buffer.owed.bytes → IfSome place (λ at. count ≤ at)
may_take text own place count joined is place_is count_is = subst (λ (p : Option ℕ). IfSome p (λ at. count ≤ at)) (sym place_is) (by text.buffer.can.seekable)
  where
    by : (seekable : Bool) → IfSome (if seekable then Some (text.place.at - length text.owed) else None) (λ at. count ≤ at)
    by true = omega (arith, count_is, owed_before text.buffer text.owed text.place.at joined)
    by false = tt

taken_from : (seekable : Bool) (at own count all : ℕ) → all ≡ count + own → option_map (λ (place : ℕ). place - count) (if seekable then Some (at - own) else None) ≡ (if seekable then Some (at - all) else None)
taken_from true at own count all is =
    let same : at - own - count ≡ at - all = omega (arith, is) in
    ap Some same
taken_from false at own count all is = refl

-- the place that is handed back
pub place_so : (text : TextOver Buffer) (place : Option ℕ) (count : ℕ) → place ≡ (if text.buffer.can.seekable then Some (text.place.at - length text.owed) else None) → count ≡ length text.buffer.owed.bytes → option_map (λ (at : ℕ). at - count) place ≡ place_owed text
place_so text place count place_is count_is =
    let all : length (all_owed text) ≡ count + length text.owed = length-append text.buffer.owed.bytes text.owed ∙ ap (λ (n : ℕ). n + length text.owed) (sym count_is) in
    ap (option_map (λ (at : ℕ). at - count)) place_is ∙ taken_from text.buffer.can.seekable text.place.at (length text.owed) count (length (all_owed text)) all
