-- What a chunk that came, or none, leaves of a text.
use Rattle.std.proofs.Common.{◌≡◌, ◌≢◌, ◌<◌, ◌≤◌, ℕ, Bool, true, false, List, [], ◌∷◌, ◌++◌, length, nat_eq, Option, Some, None, Result, Ok, Err, Vec, refl, sym, ap, ◌∙◌, subst, arith}
use Rattle.std.specs.declared.alloc.Global.{Global}
use Rattle.py_flat.specs.declared.fault.IoFault.{IoFault}
use Rattle.py_flat.specs.declared.fault.IoFault.TheVariants as fault
use Rattle.py_flat.specs.declared.life.Life.TheVariants as life
use Rattle.py_flat.specs.Calls.{Read1, Bytes, NotReady, Refused}
use Rattle.py_plain_text.specs.TextFile.{Front, TextSettings}
use Rattle.py_stream.specs.Replies.{bytes_reply}
use Rattle.py_stream.specs.Buffer.{Buffer, flat_of, AnswersAsBuffer}
use Rattle.py_flat.specs.Bytes.{left_at}
use Rattle.py_raw.proofs.Telling.{tells_still}
use Rattle.py_held_text.specs.Held.{HeldView}
use Rattle.py_read_text.specs.declared.read_text.Chunk.TheVariants as chunk
use Rattle.py_read_text.specs.Knowing.{TextView, IsText}
use Rattle.py_read_text.specs.Reading.{Gave, GaveNothing, Waited, ReadOutcome, IsAtEnd, HoldsAsBefore, Brings, BringsNothing, FetchOutcome}
use Rattle.py_read_text.proofs.Fetching.{reads_live}
use Rattle.py_read_text.proofs.Holding.{text_room, text_read_nothing, text_brought}

-- a reading of so many bytes of a text's buffer
pub read_of : (before after : Buffer) (size : ℕ) (held : HeldView) (front : Option Front) (at taken : ℕ) (dirty : Bool) (settings : TextSettings) (result : Result (Option (Vec ℕ Global)) IoFault) → 0 < size → before.life ≡ life.Live → before.can.readable ≡ true → IsText before held front at taken dirty settings → AnswersAsBuffer before (Read1 (Some size)) (bytes_reply result) after → ReadOutcome before size result after
read_of before after size held front at taken dirty settings result some live reads is answers = reads_live before after size result (record { live = live; reads = reads; buffered = is.buffered; kept = is.kept }) some answers

pub gave_of : (before after : Buffer) (size : ℕ) (held : HeldView) (front : Option Front) (at taken : ℕ) (dirty : Bool) (settings : TextSettings) (part : Vec ℕ Global) → 0 < size → before.life ≡ life.Live → before.can.readable ≡ true → IsText before held front at taken dirty settings → AnswersAsBuffer before (Read1 (Some size)) (Bytes part.items) after → Gave before size part.items after
gave_of before after size held front at taken dirty settings part some live reads is answers = read_of before after size held front at taken dirty settings (Ok (Some part)) some live reads is answers

pub waited_of : (before after : Buffer) (size : ℕ) (held : HeldView) (front : Option Front) (at taken : ℕ) (dirty : Bool) (settings : TextSettings) → 0 < size → before.life ≡ life.Live → before.can.readable ≡ true → IsText before held front at taken dirty settings → AnswersAsBuffer before (Read1 (Some size)) NotReady after → Waited before after
waited_of before after size held front at taken dirty settings some live reads is answers = read_of before after size held front at taken dirty settings (Ok None) some live reads is answers

pub failed_of : (before after : Buffer) (size : ℕ) (held : HeldView) (front : Option Front) (at taken : ℕ) (dirty : Bool) (settings : TextSettings) (why : IoFault) → 0 < size → before.life ≡ life.Live → before.can.readable ≡ true → IsText before held front at taken dirty settings → AnswersAsBuffer before (Read1 (Some size)) (Refused why) after → ReadOutcome before size (Err why) after
failed_of before after size held front at taken dirty settings why some live reads is answers = read_of before after size held front at taken dirty settings (Err why) some live reads is answers

-- no byte came
pub kept_so : (before after : Buffer) (held new : HeldView) (front : Option Front) (at taken : ℕ) (dirty : Bool) (settings : TextSettings) (waited faulted : Bool) → before.life ≡ life.Live → GaveNothing before waited faulted after → new ≡ record held { room = new.room } → IsText before held front at taken dirty settings → IsText after new front at taken dirty settings
kept_so before after held new front at taken dirty settings waited faulted live nothing room is =
    subst (λ (own : HeldView). IsText after own front at taken dirty settings) (sym room) (text_room after held front at taken new.room dirty settings (text_read_nothing before after held front at taken dirty settings waited faulted live nothing.reads nothing.place is))

-- a part that is empty is nothing
pub gave_none : (before after : Buffer) (size : ℕ) (part : List ℕ) → Gave before size part after → part ≡ [] → GaveNothing before false false after
gave_none before after size part gave none = record { reads = gave.reads; brings = gave.brings; place = omega (arith, gave.place, ap length none) }

-- nothing is left behind the place of a buffer that gave nothing
pub at_end : (before after : Buffer) (size : ℕ) (part : List ℕ) → Gave before size part after → part ≡ [] → IsAtEnd after
at_end before after size part gave none = λ told.
    let was = sym (tells_still before.raw after.raw gave.reads.keeps.raw) ∙ told in
    let place : after.place ≡ before.place = (gave_none before after size part gave none).place in
    ap (λ (bytes : List ℕ). left_at bytes after.place) (gave.reads.bytes was) ∙ (ap (left_at (flat_of before).bytes) place ∙ (gave.told was).end none)

-- bytes came
pub brought_so : (before after : Buffer) (held mid new : HeldView) (size : ℕ) (front : Option Front) (at taken room : ℕ) (dirty : Bool) (settings : TextSettings) (part piece : List ℕ) → before.life ≡ life.Live → before.can.readable ≡ true → Gave before size part after → mid ≡ record held { room = mid.room } → piece ≡ part → new ≡ record mid { bytes = mid.bytes ++ piece; room = room } → IsText before held front at taken dirty settings → IsText after new front at taken dirty settings
brought_so before after held mid new size front at taken room dirty settings part piece live reads gave mid_is same put is =
    subst (λ (own : HeldView). IsText after own front at taken dirty settings) (sym (put ∙ (ap (λ (bytes : List ℕ). record mid { bytes = mid.bytes ++ bytes; room = room }) same ∙ ap (λ (own : HeldView). record own { bytes = own.bytes ++ part; room = room }) mid_is)))
    (text_brought before after held part room front at taken dirty settings live reads gave.reads gave.place gave.told is)

-- a reading that failed
pub failed_so : (before after : Buffer) (held new : HeldView) (size : ℕ) (front : Option Front) (at taken : ℕ) (dirty : Bool) (settings : TextSettings) (why : IoFault) → before.life ≡ life.Live → ReadOutcome before size (Err why) after → new ≡ record held { room = new.room } → IsText before held front at taken dirty settings → IsText after new front at taken dirty settings
failed_so before after held new size front at taken dirty settings fault.RawFault live nothing room is = kept_so before after held new front at taken dirty settings false true live nothing room is
failed_so before after held new size front at taken dirty settings fault.NoMemory live nothing room is = kept_so before after held new front at taken dirty settings false false live nothing room is
failed_so before after held new size front at taken dirty settings other live nothing room is = absurd nothing

brings_nothing : (old new : TextView) (waited faulted : Bool) → HoldsAsBefore old new → GaveNothing old.buffer waited faulted new.buffer → BringsNothing old waited faulted new
brings_nothing old new waited faulted held nothing = record { held = held; reads = nothing.reads; brings = nothing.brings; place = nothing.place }

fails_at : (old new : TextView) (size : ℕ) (why : IoFault) → HoldsAsBefore old new → ReadOutcome old.buffer size (Err why) new.buffer → FetchOutcome old (Err why) new
fails_at old new size fault.RawFault held nothing = brings_nothing old new false true held nothing
fails_at old new size fault.NoMemory held nothing = brings_nothing old new false false held nothing
fails_at old new size other held nothing = absurd nothing

pub fails_so : (now old new : TextView) (size : ℕ) (why : IoFault) → old ≡ now → HoldsAsBefore old new → ReadOutcome old.buffer size (Err why) new.buffer → FetchOutcome now (Err why) new
fails_so now old new size why same held nothing = subst (λ (view : TextView). FetchOutcome view (Err why) new) same (fails_at old new size why held nothing)

pub end_so : (now old new : TextView) (size : ℕ) (part : List ℕ) → old ≡ now → HoldsAsBefore old new → Gave old.buffer size part new.buffer → part ≡ [] → FetchOutcome now (Ok chunk.End) new
end_so now old new size part same held gave none = subst (λ (view : TextView). FetchOutcome view (Ok chunk.End) new) same (brings_nothing old new false false held (gave_none old.buffer new.buffer size part gave none), at_end old.buffer new.buffer size part gave none)

pub waited_so : (now old new : TextView) → old ≡ now → HoldsAsBefore old new → Waited old.buffer new.buffer → FetchOutcome now (Ok chunk.Waits) new
waited_so now old new same held waited = subst (λ (view : TextView). FetchOutcome view (Ok chunk.Waits) new) same (brings_nothing old new true false held waited.nothing, waited.empty)

pub empty_part : (size : ℕ) (part : List ℕ) → size ≡ length part → true ≡ nat_eq size 0 → part ≡ []
empty_part size [] is tested = refl
empty_part size (byte ∷ part) is tested = absurd (grind arith)

pub some_part : (size : ℕ) (part : List ℕ) → size ≡ length part → false ≡ nat_eq size 0 → part ≢ []
some_part size [] is tested none = absurd (grind arith)
some_part size (byte ∷ more) is tested none = absurd (cc)

-- some bytes came
pub more_so : (now old new : TextView) (size : ℕ) (mid : HeldView) (part piece : List ℕ) (room : ℕ) → size ≤ now.settings.chunk_size → old ≡ now → Gave old.buffer size part new.buffer → part ≢ [] → mid ≡ record old.held { room = mid.room } → piece ≡ part → new.held ≡ record mid { bytes = mid.bytes ++ piece; room = room } → FetchOutcome now (Ok chunk.More) new
more_so now old new size mid part piece room small is gave some mid_is same put =
    let taken : HeldView = record old.held { bytes = old.held.bytes ++ part; room = room } in
    let put_so : new.held ≡ taken = put ∙ (ap (λ (bytes : List ℕ). record mid { bytes = mid.bytes ++ bytes; room = room }) same ∙ ap (λ (own : HeldView). record own { bytes = own.bytes ++ part; room = room }) mid_is) in
    let brought : Brings old new = record {
      part = part;
      some = some;
      few = omega (arith, gave.fits, small, ap (λ (view : TextView). view.settings.chunk_size) is);
      held = put_so ∙ ap (λ (own : ℕ). record old.held { bytes = old.held.bytes ++ part; room = own }) (sym (ap (λ (own : HeldView). own.room) put));
      reads = gave.reads;
      brings = gave.brings;
      place = gave.place;
    } in
    subst (λ (view : TextView). FetchOutcome view (Ok chunk.More) new) is brought
