-- What an engine holds, what one transfer brings it, and what stays of it from transfer to transfer.
use Rattle.std.proofs.Common.{List, ◌≡◌, ℕ, ◌+◌, ◌≤◌, Bool, IsTrue, length, take, drop, if◌then◌else◌, refl, sym, ap, ◌∙◌, arith, Result, Ok, Err, ◌<◌, min, nat_lt}
use Rattle.std.proofs.lemmas.List.{length-drop, take-take, drop-take, drop-drop, length-take-le}
use Rattle.std.proofs.lemmas.Bool.{eq-eqb, lt-ltb}
use Rattle.py_flat.specs.Bytes.{left_at}
use Rattle.py_flat.specs.declared.life.Life.{Life}
use Rattle.py_flat.specs.declared.life.Life.TheVariants as life
use Rattle.py_raw.specs.RawStream.{Raw, tells, WhereTold, Keeps, StaysOpen}
use Rattle.py_raw.proofs.Telling.{tells_its_bytes, tells_still, keeps_same}
use Rattle.py_raw.proofs.ReadingOn.{Keeps-then}
use Rattle.py_window.specs.Window.{WindowView, IsWindow, place_of, ahead_of, is_settled, advanced, HoldsBytes, end_of, FillOutcome, PassOutcome}
use Rattle.py_engine.specs.Engine.{EngineView, Stands}
use Rattle.py_engine.specs.Reading.{reading_of, IsReading, KeepsEngine, FailsByRaw, UsesUp, FillsOutcome, PassesOutcome, Fills, stepped}
use Rattle.py_stream.specs.declared.access.Access.{Access}
use Rattle.py_stream.specs.Answers.{EachBrings}
use Rattle.py_stream.specs.Reading.{KeepsReading}
use Rattle.py_stream.proofs.Begun.{came_unread, each_but_one, each_then as stream_each_then, came_once, came_more, came_none, each_brought, last_brought, read_once, read_never, each_still, each_seen}
use Rattle.py_engine.proofs.Standing.{near, stands_reading}
use Rattle.py_flat.specs.declared.fault.IoFault.{IoFault}
use Rattle.py_flat.specs.declared.fault.IoFault.TheVariants as fault
use Rattle.py_stream.specs.LiveRaw.{LiveView}
use Rattle.py_window.specs.declared.window.Filled.{Filled}
use Rattle.py_window.specs.declared.window.Filled.TheVariants as filled
use Rattle.py_lines.proofs.Asking.{some_length}
use Rattle.py_engine.proofs.Stepping.{engine_of}
use Rattle.py_stream.specs.declared.stop.Stop.TheVariants as stop
use Rattle.py_stream.specs.declared.stop.Step.{Step}
use Rattle.py_stream.specs.declared.stop.Step.TheVariants as step
use Rattle.py_stream.specs.ReadingOn.{StepsNone, StepOutcome, ReadsInto, HoldsLess}

-- Engines.

-- the bytes held from the place on come next among those of which the window holds some
pub bytes_ahead : (bytes : List ℕ) (window : WindowView) → window.cursor ≤ length window.held → HoldsBytes bytes window → take (length (ahead_of window)) (left_at bytes (place_of window)) ≡ ahead_of window
bytes_ahead bytes window within told =
    let count : ℕ = length (ahead_of window) in
    ap (take count) (sym (drop-drop window.cursor window.begin bytes))
    ∙ (sym (drop-take window.cursor count (left_at bytes window.begin))
    ∙ (ap (λ (n : ℕ). drop window.cursor (take n (left_at bytes window.begin))) (sym (omega (arith, length-drop window.cursor window.held)))
    ∙ ap (drop window.cursor) told))

-- the bytes held from the place on are the raw's
pub ahead_told : (raw : Raw) (window : WindowView) → window.cursor ≤ length window.held → HoldsBytes raw.bytes window → take (length (ahead_of window)) (left_at raw.bytes (place_of window)) ≡ ahead_of window
ahead_told raw window within told = bytes_ahead raw.bytes window within told

-- a front of the bytes held from the place on is the raw's too
pub held_next : (raw : Raw) (window : WindowView) (count : ℕ) → window.cursor ≤ length window.held → count ≤ length (ahead_of window) → HoldsBytes raw.bytes window → take count (left_at raw.bytes (place_of window)) ≡ take count (ahead_of window)
held_next raw window count within fits told = sym (take-take count (length (ahead_of window)) (left_at raw.bytes (place_of window)) fits) ∙ ap (take count) (ahead_told raw window within told)

-- an engine whose raw isn't called keeps what a step of a reading keeps
keeps_at : (old : EngineView) (window : WindowView) (current : Life) → window.size ≡ old.window.size → IsReading (record old { window = window; life = current }) → KeepsEngine old (record old { window = window; life = current })
keeps_at old window current size is = record { raw = keeps_same old.raw; stays = refl; bytes = λ tells. refl; written = λ tells. refl; size = size; access = refl; short = refl; is = is }

-- two steps, one after the other, keep what each keeps
pub keeps_then : (old mid new : EngineView) → KeepsEngine old mid → KeepsEngine mid new → KeepsEngine old new
keeps_then old mid new first second = grind (arith, Keeps-then)

-- a raw that told its bytes and its place before a step tells both after it
pub still_tells : (old new : EngineView) → KeepsEngine old new → WhereTold old.raw (IsTrue (tells new.raw))
still_tells old new kept told = tells_still old.raw new.raw kept.raw ∙ told

-- a raw that tells has the bytes that it had
pub keeps_told : (old new : EngineView) → KeepsEngine old new → WhereTold old.raw (new.raw.bytes ≡ old.raw.bytes)
keeps_told old new kept told = kept.bytes (tells_its_bytes old.raw told)

-- each step of an engine is one of a reading
pub keeps_reading : (old new : EngineView) → KeepsEngine old new → KeepsReading (reading_of old) (reading_of new)
keeps_reading old new kept = grind (arith, near)

-- How many transfers were made, by the bytes that they brought.

-- each transfer of two steps brought a byte, but for those of the second that brought none
pub each_then : (old mid new : EngineView) (others empties : ℕ) → KeepsEngine old mid → EachBrings 0 0 (reading_of old) (reading_of mid) → EachBrings others empties (reading_of mid) (reading_of new) → EachBrings others empties (reading_of old) (reading_of new)
each_then old mid new others empties kept first second = stream_each_then (reading_of old) (reading_of mid) (reading_of new) others empties kept.raw first second

-- each transfer brought a byte, but for one that brought nothing
pub each_but_last : (old new : EngineView) (empties : ℕ) → UsesUp empties old new → EachBrings 1 empties (reading_of old) (reading_of new)
each_but_last old new empties uses = each_but_one (reading_of old) (reading_of new) empties uses.end uses.transferred.transfers uses.came

-- each transfer brought a byte, but for one that failed
pub each_but_failed : (old new : EngineView) → FailsByRaw old new → EachBrings 1 0 (reading_of old) (reading_of new)
each_but_failed old new fails = each_but_one (reading_of old) (reading_of new) 0 fails.end fails.transfers (came_unread (reading_of old) (reading_of new) fails.end fails.reads)

-- the cursor moved on, of a window that owes nothing
pub settled_advanced : (window : WindowView) (count : ℕ) → window.from ≡ window.to → (advanced count window).from ≡ (advanced count window).to
settled_advanced window count settled = ap (λ (n : ℕ). if is_settled window then window.cursor + count else n) settled

-- a window whose cursor moved on over bytes held is a window
pub window_advanced : (window : WindowView) (count : ℕ) → window.from ≡ window.to → IsWindow window → count ≤ length (ahead_of window) → IsWindow (advanced count window)
window_advanced window count settled is fits = grind (arith, eq-eqb, length-drop)

-- a cursor that moves on by none stays
pub advanced_none : (window : WindowView) → window.from ≡ window.to → IsWindow window → window ≡ advanced 0 window
advanced_none window settled is = grind (arith, eq-eqb)

-- an engine whose cursor moved on over bytes held keeps what a step of a reading keeps
pub keeps_advanced : (old : EngineView) (count : ℕ) → IsReading old → count ≤ length (ahead_of old.window) → KeepsEngine old (record old { window = advanced count old.window })
keeps_advanced old count is fits = grind (arith, keeps_at, window_advanced, settled_advanced)

-- whether the last answer was short is nothing that has to hold
pub reading_whole : (engine : EngineView) (short : Bool) → IsReading engine → IsReading (record engine { short = short })
reading_whole engine short is = record { reads = is.reads; window_is = is.window_is; is_open = is.is_open; attached = is.attached; ahead = is.ahead; stands = is.stands; told = is.told }

-- an engine that failed
pub keeps_failed : (engine : EngineView) → IsReading engine → KeepsEngine engine (record engine { life = life.Failed })
keeps_failed engine is = grind (arith, keeps_at)

-- an engine by its parts
abbrev pub made : Raw → ℕ → WindowView → Access → Life → Bool → EngineView
made raw raw_place window opened current short = record { raw = raw; raw_place = raw_place; window = window; access = opened; life = current; short = short }

-- an engine whose cursor moved on, by its parts
pub made_advanced : (engine : EngineView) (raw : Raw) (raw_place : ℕ) (window now : WindowView) (opened : Access) (current : Life) (short : Bool) (count : ℕ) → made raw raw_place window opened current short ≡ engine → now ≡ advanced count window → record engine { window = advanced count engine.window } ≡ made raw raw_place now opened current short
made_advanced engine raw raw_place window now opened current short count same moved = ap (λ (view : EngineView). record view { window = advanced count view.window }) (sym same) ∙ ap (λ (view : WindowView). made raw raw_place view opened current short) (sym moved)

-- one transfer into the window
pub fills_so : (live new : LiveView) (raw_place : ℕ) (moved : Bool) (before after : WindowView) (result : Result Filled IoFault) → IsReading (engine_of live raw_place before) → live.life ≡ life.Live → Keeps live.raw new.raw → StaysOpen live.raw new.raw → FillOutcome live moved before result new after → FillsOutcome (engine_of live raw_place before) moved result (engine_of new (end_of after) after)
fills_so live new raw_place moved before after (Ok (filled.More count)) is lives keeps stays came = grind (arith, some_length, each_brought, came_more, last_brought, read_once)
fills_so live new raw_place moved before after (Ok filled.End) is lives keeps stays came = grind (arith, came_none, read_once)
fills_so live new raw_place moved before after (Ok filled.Waits) is lives keeps stays came = grind (arith, came_unread, came_more, read_never)
fills_so live new raw_place moved before after (Err fault.RawFault) is lives keeps stays came = grind arith
fills_so live new raw_place moved before after (Err fault.NoMemory) is lives keeps stays came = grind arith
fills_so live new raw_place moved before after (Err why) is lives keeps stays never = absurd never

-- one transfer past the window, into a caller's buffer
pub passes_so : (live new : LiveView) (raw_place : ℕ) (moved : Bool) (before after : WindowView) (buffer : List ℕ) (result : Result Filled IoFault) → IsReading (engine_of live raw_place before) → live.life ≡ life.Live → Keeps live.raw new.raw → StaysOpen live.raw new.raw → PassOutcome live moved before result buffer new after → PassesOutcome (engine_of live raw_place before) moved result buffer (engine_of new (end_of after) after)
passes_so live new raw_place moved before after buffer (Ok (filled.More count)) is lives keeps stays came = grind (arith, some_length, length-take-le, each_brought, came_once, came_more, last_brought, read_once)
passes_so live new raw_place moved before after buffer (Ok filled.End) is lives keeps stays came = grind (arith, came_none, read_once)
passes_so live new raw_place moved before after buffer (Ok filled.Waits) is lives keeps stays came = grind (arith, came_unread, came_more, read_never)
passes_so live new raw_place moved before after buffer (Err fault.RawFault) is lives keeps stays came = grind arith
passes_so live new raw_place moved before after buffer (Err fault.NoMemory) is lives keeps stays came = grind arith
passes_so live new raw_place moved before after buffer (Err why) is lives keeps stays never = absurd never

-- an engine that reads stands as each does once its cursor moved on over bytes held
pub stands_advanced : (engine : EngineView) (used : ℕ) → IsReading engine → used ≤ length (ahead_of engine.window) → Stands (record engine { window = advanced used engine.window })
stands_advanced engine used is fits = stands_reading (record engine { window = advanced used engine.window }) (keeps_advanced engine used is fits).is

-- all that is held goes into a buffer that it doesn't fill
pub holds_less : (old : EngineView) (count : ℕ) (buffer : List ℕ) → IsReading old → old.life ≡ life.Live → count ≡ min (length (ahead_of old.window)) (length buffer) → count < length buffer → take count buffer ≡ take count (ahead_of old.window) → HoldsLess (reading_of old) count buffer (reading_of old)
holds_less old count buffer is live least less front = grind (arith, length-drop, held_next)

-- what is held fills a buffer
pub held_enough : (old : EngineView) (count : ℕ) (buffer : List ℕ) → IsReading old → old.life ≡ life.Live → count ≡ length buffer → count ≤ length (ahead_of old.window) → take count buffer ≡ take count (ahead_of old.window) → ReadsInto (reading_of old) (record { count = count; stop = stop.Enough }) buffer (reading_of (record old { window = advanced count old.window }))
held_enough old count buffer is live all fits front = grind (arith, length-take-le, length-drop, keeps_reading, keeps_advanced, held_next, each_still)

-- a transfer that brought nothing, or would have blocked
steps_none : (old new : EngineView) (empties : ℕ) → UsesUp empties old new → StepsNone empties (reading_of old) (reading_of new)
steps_none old new empties uses = grind (arith, keeps_reading, each_but_last)

-- fewer bytes came than are wanted
less_steps : (some count wanted : ℕ) → count < wanted → step.On count ≡ stepped (filled.More some) count wanted
less_steps some count wanted less = sym (ap (λ (is : Bool). let step : Step = if is then step.On count else step.Stopped count stop.Enough in step) (lt-ltb count wanted less))

-- what came into the window comes next
window_told : (old new : EngineView) (some count : ℕ) (rest : List ℕ) → Fills old some new → count ≤ length (ahead_of new.window) → take count rest ≡ take count (ahead_of new.window) → WhereTold old.raw (take count (left_at old.raw.bytes (end_of old.window)) ≡ take count rest)
window_told old new some count rest fills fits front tells = grind (arith, take-take, length-drop)

-- a transfer into the window, of which less came than what is left of a buffer
pub window_on : (old new : EngineView) (moved : Bool) (some : Filled) (count : ℕ) (rest : List ℕ) → 0 < length rest → FillsOutcome old moved (Ok some) new → count ≡ min (length (ahead_of new.window)) (length rest) → count < length rest → take count rest ≡ take count (ahead_of new.window) → StepOutcome (reading_of old) moved (Ok (stepped some count (length rest))) rest (reading_of new)
window_on old new moved (filled.More some) count rest asks fills least less front = grind (arith, less_steps, keeps_reading, length-drop, window_told)
window_on old new moved filled.End count rest asks fills least less front = grind (arith, steps_none)
window_on old new moved filled.Waits count rest asks fills least less front = grind (arith, steps_none)

-- a transfer into the window that fills what is left of a buffer
pub window_full : (old new : EngineView) (moved : Bool) (some : Filled) (count : ℕ) (rest : List ℕ) → 0 < length rest → FillsOutcome old moved (Ok some) new → count ≡ min (length (ahead_of new.window)) (length rest) → count ≡ length rest → take count rest ≡ take count (ahead_of new.window) → StepOutcome (reading_of old) moved (Ok (stepped some count (length rest))) rest (reading_of (record new { window = advanced count new.window }))
window_full old new moved (filled.More some) count rest asks fills least full front = grind (arith, nat_lt, keeps_reading, keeps_then, keeps_advanced, length-drop, each_seen, window_told)
window_full old new moved filled.End count rest asks fills least full front = absurd (omega (arith, asks, least, full, ap length fills.0.none))
window_full old new moved filled.Waits count rest asks fills least full front = absurd (omega (arith, asks, least, full, ap length fills.0.none))
