-- How a text gathers what a call asks for.
use Rattle.std.proofs.Common.{◌≡◌, ◌≢◌, ℕ, zero, suc, ◌≤◌, inl, Bool, true, false, nat_le, if◌then◌else◌, List, [], ◌∷◌, ◌++◌, length, Option, Some, None, Result, Ok, Err, refl, sym, ap, ◌∙◌, subst, arith, ◌-◌}
use Rattle.py_flat.specs.declared.fault.IoFault.{IoFault}
use Rattle.py_flat.specs.declared.fault.IoFault.TheVariants as fault
use Rattle.py_flat.specs.declared.life.Life.TheVariants as life
use Rattle.py_flat.specs.Limits.{greatest_place}
use Rattle.std.proofs.lemmas.List.{length-take}
use Rattle.std.proofs.lemmas.Bool.{le-leb}
use Rattle.py_flat.specs.Lines.{lf, line_after, first_line}
use Rattle.py_plain.specs.NewlineRule.{line_end}
use Rattle.py_raw.proofs.Telling.{keeps_same}
use Rattle.py_plain_text.specs.TextFile.{Front, TextSettings}
use Rattle.py_stream.specs.Buffer.{Buffer, flat_of}
use Rattle.py_held_text.specs.declared.wanted.Wanted.{Wanted}
use Rattle.py_held_text.specs.declared.wanted.Wanted.TheVariants.{Characters, Line}
use Rattle.py_held_text.specs.Held.{HeldView}
use Rattle.py_held_text.specs.Decodes.{IsDrained}
use Rattle.py_held_text.specs.Finding.{enough}
use Rattle.py_read_text.specs.declared.looking.Gathered.{Gathered}
use Rattle.py_read_text.specs.declared.looking.Gathered.TheVariants as gathered
use Rattle.py_read_text.specs.declared.read_text.Chunk.TheVariants as chunk
use Rattle.py_read_text.specs.Knowing.{TextView, IsText}
use Rattle.py_read_text.specs.Ahead.{ReadsOn}
use Rattle.py_read_text.specs.Reading.{Coming, Follows, Calls, HeldAt, IsTold, IsReady, IsAtEnd, GatheredAt, gathers_wait, GatherOutcome, StopOutcome, FetchOutcome, asks_none, KeepsPlace, Gathers}
use Rattle.py_read_text.proofs.Fetching.{calls_on, on_itself, on_then}
use Rattle.py_read_text.proofs.Ahead.{needs_chunk}
use Rattle.py_read_text.proofs.Owing.{passes_none}
use Rattle.py_read_text.proofs.Fronts.{lays_none}
use Rattle.py_read_text.proofs.Answering.{last_at_range}
use Rattle.py_read_text.proofs.Ranges.{in_hand}
use Rattle.py_read_text.proofs.Knowing.{ends_behind}
use Rattle.py_read_text.proofs.Holding.{text_follows}

-- a buffer that wasn't called
pub calls_itself : (buffer : Buffer) → buffer.place ≤ greatest_place → Calls buffer false false buffer
calls_itself buffer far = record {
  keeps = record { raw = keeps_same buffer.raw; can = refl; buffering = refl; exported = refl };
  wait = λ waited. absurd (cc);
  fault = λ faulted. absurd (cc);
  waits = λ exact. refl;
  faults = λ exact sound. refl;
  life_is = refl;
  far = far;
  bytes = λ told. refl;
  spares = λ can none. record { bytes = λ told. refl; written = λ told. refl; owed = none };
  stays = λ closed. refl;
  passes = passes_none buffer.raw buffer.owed.bytes;
  lays = λ ends told. lays_none buffer.raw.bytes (buffer.place - length buffer.owed.bytes) buffer.owed.bytes buffer.raw.bytes refl;
  stands = λ stood. stood;
  owes = λ ends. ends;
  none = λ none. none;
  first = inl refl;
}

pub begins : (text : TextView) (asked : Wanted) → text.buffer.place ≤ greatest_place → Gathers text asked text
begins text asked far = record { place = record { front = refl; at = refl; taken = refl; dirty = refl; settings = refl }; reads = calls_itself text.buffer far; brings = on_itself text.buffer; forth = omega arith; nothing = λ none. refl; needs = λ told. inl (omega arith) }

-- what is in hand tells by itself what a text comes to
pub gathered_look : (text : TextView) (asked : Wanted) (stop : Gathered) → HeldAt (Coming false) asked text.held stop → IsTold stop → GatheredAt text asked stop
gathered_look text asked (gathered.Enough front) at told = at
gathered_look text asked (gathered.Before front) at told = (at.0, at.1, λ shown. (at.2.0, last_at_range text (Coming false) at.2.0 at.2.1 (λ last. absurd (cc))))
gathered_look text asked (gathered.Refuses start end) at told = (at.0, λ shown. last_at_range text (Coming false) (start, end) at.1 (λ last. absurd (cc)), in_hand text false start end at.1)
gathered_look text asked gathered.Ends at told = absurd told
gathered_look text asked gathered.Waits at told = absurd told

pub gathered_end : (text : TextView) (asked : Wanted) (stop : Gathered) → HeldAt (Coming true) asked text.held stop → IsReady (Ok stop) → IsAtEnd text.buffer → GatheredAt text asked stop
gathered_end text asked (gathered.Enough front) at ready end = at
gathered_end text asked (gathered.Before front) at ready end = (at.0, at.1, λ shown. (at.2.0, last_at_range text (Coming true) at.2.0 at.2.1 (λ last. end shown)))
gathered_end text asked (gathered.Refuses start end_of) at ready end = (at.0, λ shown. last_at_range text (Coming true) (start, end_of) at.1 (λ last. end shown), in_hand text true start end_of at.1)
gathered_end text asked gathered.Ends at ready end = (at.0, at.1, end)
gathered_end text asked gathered.Waits at ready end = absurd ready

quiet_told : (stop : Gathered) → IsTold stop → gathers_wait (Ok stop) ≡ false
quiet_told (gathered.Enough front) told = refl
quiet_told (gathered.Before front) told = refl
quiet_told (gathered.Refuses start end) told = refl
quiet_told gathered.Ends told = refl
quiet_told gathered.Waits told = absurd told

quiet_ready : (stop : Gathered) → IsReady (Ok stop) → gathers_wait (Ok stop) ≡ false
quiet_ready (gathered.Enough front) ready = refl
quiet_ready (gathered.Before front) ready = refl
quiet_ready (gathered.Refuses start end) ready = refl
quiet_ready gathered.Ends ready = refl
quiet_ready gathered.Waits ready = absurd ready

-- Outcomes.

pub looked : (old new : TextView) (asked : Wanted) (stop : Gathered) → Calls old.buffer false false new.buffer → HeldAt (Coming false) asked new.held stop → IsTold stop → GatherOutcome old asked (Ok stop) new
looked old new asked stop reads at told = (subst (λ (waited : Bool). Calls old.buffer waited false new.buffer) (sym (quiet_told stop told)) reads, gathered_look new asked stop at told)

pub ended : (old new : TextView) (asked : Wanted) (result : Result Gathered IoFault) → Calls old.buffer false false new.buffer → StopOutcome true asked result new.held → IsReady result → IsAtEnd new.buffer → GatherOutcome old asked result new
ended old new asked (Ok stop) reads at ready end = (subst (λ (waited : Bool). Calls old.buffer waited false new.buffer) (sym (quiet_ready stop ready)) reads, gathered_end new asked stop at ready end)
ended old new asked (Err why) reads at ready end = subst (λ (own : IoFault). GatherOutcome old asked (Err own) new) (sym at) (reads, tt)

pub starved : (old new : TextView) (asked : Wanted) (why : IoFault) → Calls old.buffer false false new.buffer → why ≡ fault.NoMemory → GatherOutcome old asked (Err why) new
starved old new asked why reads is = subst (λ (own : IoFault). GatherOutcome old asked (Err own) new) (sym is) (reads, tt)

pub failed : (old mid new : TextView) (asked : Wanted) (why : IoFault) → Calls old.buffer false false mid.buffer → FetchOutcome mid (Err why) new → GatherOutcome old asked (Err why) new
failed old mid new asked fault.RawFault reads outcome = (calls_on old.buffer mid.buffer new.buffer false true reads outcome.reads, tt)
failed old mid new asked fault.NoMemory reads outcome = (calls_on old.buffer mid.buffer new.buffer false false reads outcome.reads, tt)
failed old mid new asked other reads outcome = absurd outcome

-- a read of the buffer that was refused leaves its place
pub fails_there : (mid new : TextView) (why : IoFault) → FetchOutcome mid (Err why) new → new.buffer.place ≡ mid.buffer.place
fails_there mid new fault.RawFault outcome = outcome.place
fails_there mid new fault.NoMemory outcome = outcome.place
fails_there mid new other outcome = absurd outcome

-- and was only read from
pub fails_on : (mid new : TextView) (why : IoFault) → FetchOutcome mid (Err why) new → ReadsOn mid.buffer new.buffer
fails_on mid new fault.RawFault outcome = outcome.brings
fails_on mid new fault.NoMemory outcome = outcome.brings
fails_on mid new other outcome = absurd outcome

held_room : (asked : Wanted) (held : HeldView) (room : ℕ) → HeldAt (Coming false) asked held gathered.Waits → HeldAt (Coming false) asked (record held { room = room }) gathered.Waits
held_room asked held room at = (at.0, record { items = at.1.items; refusal = at.1.refusal; none = at.1.none })

pub waited : (old mid new : TextView) (asked : Wanted) → Calls old.buffer false false mid.buffer → HeldAt (Coming false) asked mid.held gathered.Waits → FetchOutcome mid (Ok chunk.Waits) new → GatherOutcome old asked (Ok gathered.Waits) new
waited old mid new asked reads at outcome =
    let kept = subst (λ (held : HeldView). HeldAt (Coming false) asked held gathered.Waits) (sym outcome.0.held) (held_room asked mid.held new.held.room at) in
    (calls_on old.buffer mid.buffer new.buffer true false reads outcome.0.reads, (kept.0, kept.1, outcome.1))

has_size : (fits : Bool) (size : ℕ) → fits ≡ true → (if fits then Some size else None) ≢ None
has_size true size is none = absurd (cc)
has_size false size is none = absurd (cc)

-- a call that asks for no character has enough
none_enough : (asked : Wanted) (rule : _) (known : List ℕ) → asks_none asked ≡ true → enough asked rule known ≢ None
none_enough (Characters (Some zero)) rule known none is = has_size (nat_le 0 (length known)) 0 (le-leb 0 (length known) (omega arith)) is
none_enough (Line (Some zero)) rule known none is =
    let size : ℕ = length (first_line (line_end rule) (Some 0) (known ++ lf ∷ [])) in
    let least : size ≤ length known = omega (arith, length-take 0 (line_after (line_end rule) false (known ++ lf ∷ []))) in
    has_size (nat_le size (length known)) size (le-leb size (length known) least) is
none_enough (Characters None) rule known none is = absurd (cc)
none_enough (Characters (Some (suc size))) rule known none is = absurd (cc)
none_enough (Line None) rule known none is = absurd (cc)
none_enough (Line (Some (suc size))) rule known none is = absurd (cc)

pub asks_some : (asked : Wanted) (rule : _) (known : List ℕ) (Fact : Type 0) → enough asked rule known ≡ None → asks_none asked ≡ true → Fact
asks_some asked rule known Fact short none = absurd (none_enough asked rule known none short)

places_on : (old mid new : TextView) → KeepsPlace old mid → KeepsPlace mid new → KeepsPlace old new
places_on old mid new first second = record { front = second.front ∙ first.front; at = second.at ∙ first.at; taken = second.taken ∙ first.taken; dirty = second.dirty ∙ first.dirty; settings = second.settings ∙ first.settings }

-- bytes came, of a call that asks for some character
gathers_at : (old before mid new : TextView) (asked : Wanted) → old.buffer.life ≡ life.Live → old.buffer.can.readable ≡ true → Gathers old asked before → mid.buffer ≡ before.buffer → KeepsPlace before mid → IsText mid.buffer mid.held mid.front mid.at mid.taken mid.dirty mid.settings → enough asked mid.held.newline mid.held.known ≡ None → IsDrained false mid.held → FetchOutcome mid (Ok chunk.More) new → KeepsPlace mid new → Gathers old asked new
gathers_at old before mid new asked live can so_far same place is short drained came kept =
    let reads : Calls old.buffer false false mid.buffer = subst (Calls old.buffer false false) (sym same) so_far.reads in
    let forth : old.buffer.place ≤ mid.buffer.place = omega (arith, so_far.forth, ap (λ (own : Buffer). own.place) same) in
    record {
      place = places_on old before new so_far.place (places_on before mid new place kept);
      reads = calls_on old.buffer mid.buffer new.buffer false false reads came.reads;
      brings = on_then old.buffer mid.buffer new.buffer reads (subst (ReadsOn old.buffer) (sym same) so_far.brings) came.brings;
      forth = omega (arith, forth, came.place);
      nothing = λ none. asks_some asked mid.held.newline mid.held.known (new.buffer ≡ old.buffer) short none;
      needs = needs_chunk old mid new asked live can (places_on old before mid so_far.place place) reads forth is short drained came;
    }

-- what is in hand was looked at, whatever comes behind
pub holds_looked : (buffer : Buffer) (old new : HeldView) (front : Option Front) (at taken : ℕ) (dirty : Bool) (settings : TextSettings) → Follows (Coming false) old new → IsText buffer old front at taken dirty settings → IsText buffer new front at taken dirty settings
holds_looked buffer old new front at taken dirty settings follows is = text_follows buffer old new front at taken dirty settings (Coming false) follows (λ told more front last. absurd (cc)) is

-- a text as it is seen, with something else in hand
abbrev with_held : TextView → HeldView → TextView
with_held text held = record text { held = held }

pub gathers_more : (old before seen new : TextView) (held : HeldView) (asked : Wanted) → old.buffer.life ≡ life.Live → old.buffer.can.readable ≡ true → Gathers old asked before → seen ≡ before → IsText seen.buffer seen.held seen.front seen.at seen.taken seen.dirty seen.settings → Follows (Coming false) seen.held held → enough asked held.newline held.known ≡ None → IsDrained false held → FetchOutcome (with_held seen held) (Ok chunk.More) new → KeepsPlace (with_held seen held) new → Gathers old asked new
gathers_more old before seen new held asked live can so_far is text follows short drained came kept =
    gathers_at old before (with_held seen held) new asked live can so_far (ap (λ (view : TextView). view.buffer) is)
    (record { front = ap (λ (view : TextView). view.front) is; at = ap (λ (view : TextView). view.at) is; taken = ap (λ (view : TextView). view.taken) is; dirty = ap (λ (view : TextView). view.dirty) is; settings = ap (λ (view : TextView). view.settings) is })
    (holds_looked seen.buffer seen.held held seen.front seen.at seen.taken seen.dirty seen.settings follows text) short drained came kept

-- what is in hand was looked at where nothing comes behind
pub holds_ended : (buffer : Buffer) (old new : HeldView) (front : Option Front) (at taken : ℕ) (dirty : Bool) (settings : TextSettings) → IsAtEnd buffer → Follows (Coming true) old new → IsText buffer old front at taken dirty settings → IsText buffer new front at taken dirty settings
holds_ended buffer old new front at taken dirty settings end follows is = text_follows buffer old new front at taken dirty settings (Coming true) follows (λ told more front last. ends_behind (flat_of buffer).bytes buffer.place (end told) more front) is
