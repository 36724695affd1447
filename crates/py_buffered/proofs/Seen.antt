-- A buffered stream, and what it is seen as by its kind.
use Rattle.std.proofs.Common.{◌≡◌, ℕ, Bool, true, false, if◌then◌else◌, refl, sym, ap, ◌∙◌, subst₂}
use Rattle.py_stream.specs.Stream.{Stream}
use Rattle.py_stream.specs.Buffer.{Buffer, buffer_of}
use Rattle.py_buffered_core.specs.Buffered.{BufferedView, seen_of, as_buffer}

-- a count that is none where nothing is written
counted : (writes : Bool) (count : ℕ) → (writes ≡ false → count ≡ 0) → (if writes then count else 0) ≡ count
counted true count none = refl
counted false count none = sym (none refl)

module _ {V : Type 0} (seen : Stream → ℕ → V) (stream : V → Stream) (keeps_stream : (whole : Stream) (count : ℕ) → stream (seen whole count) ≡ whole) where
  -- what holds of two streams holds of what they are seen as
  pub holds_seen : (P : Stream → Stream → Type 0) (old new : BufferedView) (view : V) → seen (seen_of old) old.taken ≡ view → P (seen_of old) (seen_of new) → P (stream view) (stream (seen (seen_of new) new.taken))
  holds_seen P old new view view_is holds = subst₂ P (sym (keeps_stream (seen_of old) old.taken) ∙ ap stream view_is) (sym (keeps_stream (seen_of new) new.taken)) holds

  module _ (taken : V → ℕ) (writes : Bool) (keeps_taken : (whole : Stream) (count : ℕ) → taken (seen whole count) ≡ (if writes then count else 0)) where
    -- what a stream shows to the layer above, by what it is seen as
    shown_so : (view : BufferedView) → (writes ≡ false → view.taken ≡ 0) → buffer_of (stream (seen (seen_of view) view.taken)) (taken (seen (seen_of view) view.taken)) ≡ as_buffer view
    shown_so view none = ap (λ whole. buffer_of whole (taken (seen (seen_of view) view.taken))) (keeps_stream (seen_of view) view.taken) ∙ ap (buffer_of (seen_of view)) (keeps_taken (seen_of view) view.taken ∙ counted writes view.taken none)

    -- what holds of what two streams show to the layer above holds of it by what they are seen as
    pub holds_shown : (P : Buffer → Buffer → Type 0) (old new : BufferedView) (view : V) → seen (seen_of old) old.taken ≡ view → (writes ≡ false → old.taken ≡ 0) → (writes ≡ false → new.taken ≡ 0) → P (as_buffer old) (as_buffer new) → P (buffer_of (stream view) (taken view)) (buffer_of (stream (seen (seen_of new) new.taken)) (taken (seen (seen_of new) new.taken)))
    holds_shown P old new view view_is was is holds = subst₂ P (sym (shown_so old was) ∙ ap (λ whole. buffer_of (stream whole) (taken whole)) view_is) (sym (shown_so new is)) holds

    -- a stream that forgets a wait, by what it is seen as
    pub forgets : (old new : BufferedView) (view : V) → seen (seen_of old) old.taken ≡ view → (writes ≡ false → old.taken ≡ 0) → seen_of new ≡ record (seen_of old) { short = false } → new.taken ≡ old.taken → seen (seen_of new) new.taken ≡ seen (record (stream view) { short = false }) (taken view)
    forgets old new view view_is was whole same =
        subst₂ (λ (before : Stream) (count : ℕ). seen (seen_of new) new.taken ≡ seen (record before { short = false }) count) (sym (keeps_stream (seen_of old) old.taken) ∙ ap stream view_is) (sym (keeps_taken (seen_of old) old.taken ∙ counted writes old.taken was) ∙ ap taken view_is)
        (ap (λ after. seen after new.taken) whole ∙ ap (seen (record (seen_of old) { short = false })) same)

    -- how many bytes a write of a stream that is written took
    pub counts_so : (P : Stream → Stream → ℕ) (old new : BufferedView) (view : V) → seen (seen_of old) old.taken ≡ view → writes ≡ true → new.taken ≡ P (seen_of old) (seen_of new) → taken (seen (seen_of new) new.taken) ≡ P (stream view) (stream (seen (seen_of new) new.taken))
    counts_so P old new view view_is written is =
        holds_seen (λ before after. taken (seen (seen_of new) new.taken) ≡ P before after) old new view view_is (keeps_taken (seen_of new) new.taken ∙ ap (λ writes. if writes then new.taken else 0) written ∙ is)
