-- A text whose buffer was asked where it ends.
use Rattle.std.proofs.Common.{◌≡◌, ℕ, Bool, true, false, IsTrue, List, Option, None, Result, Ok, Err, refl, sym, ap, ◌∙◌, subst}
use Rattle.py_flat.specs.declared.fault.IoFault.{IoFault}
use Rattle.py_flat.specs.declared.fault.IoFault.TheVariants as fault
use Rattle.py_flat.specs.declared.life.Life.TheVariants as life
use Rattle.py_flat.specs.Bytes.{lay}
use Rattle.py_flat.specs.Calls.{Tell}
use Rattle.py_flat.specs.Refusals.{refusal}
use Rattle.py_plain_text.specs.TextFile.{Front, TextSettings}
use Rattle.py_raw.specs.RawStream.{tells, Keeps, KeepsBytes}
use Rattle.py_raw.proofs.Telling.{tells_its_bytes, tells_still, keeps_same}
use Rattle.py_stream.specs.Buffer.{Buffer, flat_of, EndsAt, EndsBy, AnswersEnd}
use Rattle.py_held_text.specs.Held.{HeldView}
use Rattle.py_read_text.specs.Knowing.{TextView, KnowsTold, IsText}

-- a live buffer that can be moved says where it ends
accepts_end : (buffer : Buffer) → buffer.life ≡ life.Live → buffer.can.seekable ≡ true → refusal (flat_of buffer) Tell ≡ None
accepts_end buffer live can = rw live (rw can refl)

pub ends_so : (before after : Buffer) (result : Result ℕ IoFault) → before.life ≡ life.Live → before.can.seekable ≡ true → AnswersEnd before result after → EndsAt before result after
ends_so before after result live can answers = subst (λ (why : Option IoFault). EndsBy why before result after) (accepts_end before live can) answers

-- all of a buffer is as it was but for its life and its raw, which keeps its bytes
record IsAsked (before after : Buffer) : Type 0 where
  same : after ≡ record before { raw = after.raw; short = false; life = after.life }
  raw : Keeps before.raw after.raw
  bytes : KeepsBytes before.raw after.raw

is_asked : (before after : Buffer) (result : Result ℕ IoFault) → EndsAt before result after → IsAsked before after
is_asked before after (Ok end) ends = record { same = ends.asks.same; raw = ends.asks.raw; bytes = ends.asks.bytes }
is_asked before after (Err fault.RawFault) ends = record { same = ends.asks.same; raw = ends.asks.raw; bytes = ends.asks.bytes }
is_asked before after (Err fault.NoMemory) ends = subst (IsAsked before) (sym ends.same) (record { same = refl; raw = keeps_same before.raw; bytes = λ told. refl })
is_asked before after (Err other) ends = absurd ends

-- the text stays as it is
pub text_asked : (before after : Buffer) (held : HeldView) (front : Option Front) (at taken : ℕ) (dirty : Bool) (settings : TextSettings) (result : Result ℕ IoFault) → before.life ≡ life.Live → EndsAt before result after → IsText before held front at taken dirty settings → IsText after held front at taken dirty settings
text_asked before after held front at taken dirty settings result live ends is =
    let asked = is_asked before after result ends in
    subst (λ (buffer : Buffer). IsText buffer held front at taken dirty settings) (sym asked.same) (record {
      reads_by = is.reads_by;
      asks = is.asks;
      buffered = is.buffered;
      kept = is.kept;
      owes = is.owes;
      ahead = is.ahead;
      stands = is.stands;
      far = is.far;
      forth = is.forth;
      from = is.from;
      few = is.few;
      has = is.has;
      inside = is.inside;
      clean = is.clean;
      still = is.still;
      whole = is.whole;
      told = λ told lives can.
          let was : IsTrue (tells before.raw) = sym (tells_still before.raw after.raw asked.raw) ∙ told in
          subst (λ (bytes : List ℕ). KnowsTold settings (lay bytes before.owed.place before.owed.bytes) before.place front at taken held) (sym (asked.bytes (tells_its_bytes before.raw was))) (is.told was live can);
    })

-- by the text as it is known
pub ends_now : (now old : TextView) (after : Buffer) (result : Result ℕ IoFault) → old ≡ now → now.buffer.life ≡ life.Live → now.buffer.can.seekable ≡ true → AnswersEnd old.buffer result after → EndsAt now.buffer result after
ends_now now old after result same live can answers =
    subst (λ (view : TextView). EndsAt view.buffer result after) same
    (ends_so old.buffer after result (ap (λ (view : TextView). view.buffer.life) same ∙ live) (ap (λ (view : TextView). view.buffer.can.seekable) same ∙ can) answers)
