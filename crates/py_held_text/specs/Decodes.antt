-- What a decoding of the bytes in hand changes, and why it goes no further.
use Rattle.std.specs.Prelude.{◌≡◌, ℕ, ◌+◌, ◌*◌, ◌^◌, ◌<◌, ◌≤◌, Bool, true, false, ◌||◌, List, [], ◌++◌, length, take, drop, Option, Some, None, Result, Ok, Err, if◌then◌else◌}
use Rattle.py_flat.specs.declared.fault.IoFault.{IoFault}
use Rattle.py_flat.specs.declared.fault.IoFault.TheVariants.{NoMemory}
use Rattle.py_plain.specs.Items.{Item, AtRange, ends, characters_of, refusal_of}
use Rattle.py_plain.specs.NewlineRule.{read_so_far, holds_after}
use Rattle.py_plain.specs.Pieces.{items_before}
use Rattle.py_held_text.specs.declared.held_stop.HeldStop.{HeldStop}
use Rattle.py_held_text.specs.declared.held_stop.HeldStop.TheVariants.{Drained, Refused}
use Rattle.py_held_text.specs.Held.{HeldView, ahead, mark_by, whole_of, left_with, left_so_far}
use Rattle.py_held_text.specs.Known.{may_cut}

-- how bytes are read stays
pub record KeepsSettings (old new : HeldView) : Type 0 where
  pub encoding : new.encoding ≡ old.encoding
  pub handler : new.handler ≡ old.handler
  pub newline : new.newline ≡ old.newline

-- how many characters are known, with the one that a held CR becomes
abbrev pub known_with_cr : HeldView → ℕ
known_with_cr held = length held.known + (if held.cr then 1 else 0)

-- some items are decoded of one, and then what is decoded of another, whatever comes behind as both have it
abbrev pub Passes : (before behind : HeldView) → List ℕ → Type 0
Passes before behind more = (items : List Item) × (ahead before true more ≡ items_before items (ahead behind true more))

-- some characters are decoded of one, and then those of another, whatever comes behind as both have it; `last` says that none come behind
-- that
abbrev pub Gives : (last : Bool) → (came : List ℕ) → (before behind : HeldView) → List ℕ → Type 0
Gives last came before behind more = characters_of (ahead before last more).items ≡ came ++ characters_of (ahead behind last more).items

-- Some bytes in hand were used, and what is known has grown by what the rule gives of the characters that came: at most six for each of
-- them. What is left stays, whatever bytes come behind those in hand, none where these are the last; the place behind the bytes that were
-- used is a boundary between items. The base stays, and the front before it, and those bytes stand behind it. The mark is set where those
-- bytes begin, behind what was known and the LF that a held CR is: a CR is held only where the rule holds one, and this is no place for a
-- mark where an LF goes with the CR, or nothing came that tells whether one does. A decoding of the last bytes is remembered
pub record Decodes (last : Bool) (old new : HeldView) : Type 0 where
  pub settings : KeepsSettings old new
  pub used : ℕ
  pub within : used ≤ length old.bytes
  pub bytes : new.bytes ≡ drop used old.bytes
  pub place : new.place ≡ old.place + used
  pub order : new.order ≡ old.order
  pub room : old.room ≤ new.room
  pub back : new.back ≡ old.back ++ take used old.bytes
  pub whole : whole_of new ≡ whole_of old
  pub front : new.front ≡ old.front
  pub given : new.given ≡ old.given
  pub holds : holds_after old.newline old.cr [] ≡ old.cr
  pub came : List ℕ
  pub mark : new.mark ≡ mark_by old.mark (may_cut old.cr came) (known_with_cr old) (length old.back)
  pub ended : new.ended ≡ (last || old.ended)
  pub grows : new.known ≡ old.known ++ read_so_far old.newline old.cr came
  pub few : known_with_cr new ≤ known_with_cr old + 6 * used
  pub left : (more : List ℕ) → (last ≡ true → more ≡ []) → left_with new more ≡ left_with old more
  pub so_far : last ≡ false → (more : List ℕ) → left_so_far new more ≡ left_so_far old more
  pub items : (more : List ℕ) → (last ≡ true → more ≡ []) → Passes old new more
  pub gives : (more : List ℕ) → (last ≡ true → more ≡ []) → Gives true came old new more
  pub gives_so_far : last ≡ false → (more : List ℕ) → Gives false came old new more

-- no item stands in hand, and no refused range; where nothing comes behind, there are no bytes
pub record IsDrained (last : Bool) (held : HeldView) : Type 0 where
  pub items : (ahead held last []).items ≡ []
  pub refusal : refusal_of (ahead held last []).ending ≡ None
  pub none : last ≡ true → held.bytes ≡ []

-- a range comes next that the handler refuses, whatever bytes come behind those in hand, none where these are the last
pub record RefusesNext (last : Bool) (held : HeldView) (start end : ℕ) : Type 0 where
  pub whole : (more : List ℕ) → (last ≡ true → more ≡ []) → ahead held true more ≡ ends held.order (AtRange start end)
  pub so_far : last ≡ false → (more : List ℕ) → ahead held false more ≡ ends held.order (AtRange start end)

-- a range that the handler refuses comes next, whatever bytes come behind those in hand
abbrev pub IsStopped : HeldView → Type 0
IsStopped held = (range : ℕ × ℕ) × RefusesNext false held range.0 range.1

-- why the bytes in hand give no more
abbrev pub StoppedAt : (last : Bool) → HeldView → HeldStop → Type 0
StoppedAt last held Drained = IsDrained last held
StoppedAt last held (Refused start end) = RefusesNext last held start end

-- a decoding, behind which more may come, where others in hand may give more: of all of them some were used; or why there are none
abbrev pub MayGoOn : (all : Bool) → HeldView → Option HeldStop → HeldView → Type 0
MayGoOn all old None new = all ≡ true → length new.bytes < length old.bytes
MayGoOn all old (Some stop) new = StoppedAt false new stop

-- bytes in hand were decoded, behind which more may come; running out of memory leaves all as it was
abbrev pub DecodeOutcome : (all : Bool) → HeldView → Result (Option HeldStop) IoFault → HeldView → Type 0
DecodeOutcome all old (Ok stop) new = Decodes false old new × MayGoOn all old stop new
DecodeOutcome all old (Err why) new = (why ≡ NoMemory) × (new ≡ old)

-- the bytes in hand were decoded, behind which none come; running out of memory leaves all as it was
abbrev pub DecodeLastOutcome : HeldView → Result HeldStop IoFault → HeldView → Type 0
DecodeLastOutcome old (Ok stop) new = Decodes true old new × StoppedAt true new stop
DecodeLastOutcome old (Err why) new = (why ≡ NoMemory) × (new ≡ old)

-- as many characters came as were wanted, no more than memory holds, and so some bytes were used
pub record GaveWanted (want : ℕ) (old new : HeldView) : Type 0 where
  pub some : length new.bytes < length old.bytes
  pub fits : want < 2 ^ 63

-- where a decoding of the first n bytes in hand may go on and these are all of them, it gave as many characters as are wanted
abbrev pub PartStop : (last : Bool) → (size want : ℕ) → HeldView → Option HeldStop → HeldView → Type 0
PartStop last size want old None new = size ≡ length old.bytes → GaveWanted want old new
PartStop last size want old (Some stop) new = StoppedAt last new stop

-- the first n bytes in hand were decoded; running out of memory leaves all as it was
abbrev pub PartOutcome : (last : Bool) → (size want : ℕ) → HeldView → Result (Option HeldStop) IoFault → HeldView → Type 0
PartOutcome last size want old (Ok stop) new = Decodes last old new × PartStop last size want old stop new
PartOutcome last size want old (Err why) new = (why ≡ NoMemory) × (new ≡ old)
