-- The answers of readings by at most one transfer.
use Rattle.std.proofs.Common.{[], ◌≡◌, ◌≢◌, ℕ, suc, zero, ◌<◌, ◌≤◌, true, false, List, ◌∷◌, ◌++◌, length, take, drop, min, Option, Some, Ok, Err, refl, sym, ap, ◌∙◌, subst, arith}
use Rattle.std.proofs.lemmas.List.{length-take, length-drop, take_all, take_min, take-append-drop, drop_all}
use Rattle.py_flat.specs.declared.fault.IoFault.{IoFault}
use Rattle.py_flat.specs.declared.fault.IoFault.TheVariants as fault
use Rattle.py_flat.specs.declared.life.Life.TheVariants as life
use Rattle.py_flat.specs.Bytes.{left_at}
use Rattle.py_flat.specs.Calls.{FileCall, Read1, Peek, FileReply, Bytes, NotReady, Refused}
use Rattle.py_flat.specs.BinaryStep.{IsFrontOf}
use Rattle.py_raw.specs.RawStream.{WhereTold, LeavesCounts}
use Rattle.py_stream.specs.declared.stop.Stop.{Stop}
use Rattle.py_stream.specs.declared.stop.Stop.TheVariants as stops
use Rattle.py_stream.specs.Stream.{Stream, file_of}
use Rattle.py_stream.specs.Kinds.{is_single, asks_nothing}
use Rattle.py_stream.specs.Answers.{Answers}
use Rattle.py_stream.specs.Reading.{LeavesHeld, has_answer, is_wait}
use Rattle.py_stream.proofs.ReadingAnswers.{Reads, answers_begun, answers_coming}
use Rattle.py_stream.proofs.ReadingStops.{asks_for, moves_by, moves_within, single_call, GivesOnce, answers_once, unready_once, faulted_once, unmoved_once}
use Rattle.py_window.specs.Window.{WindowView, IsWindow, place_of, end_of, ahead_of, advanced}
use Rattle.py_engine.specs.Engine.{EngineView, BeginOutcome}
use Rattle.py_engine.specs.Reading.{reading_of, IsReading, KeepsEngine, Transferred, ReadyOutcome}
use Rattle.py_engine.proofs.Transfers.{ahead_told, keeps_then, keeps_reading, still_tells, keeps_told, keeps_advanced, each_but_failed, advanced_none, reading_whole}
use Rattle.py_engine.proofs.Reading.{reading_begins}

-- How readings by one transfer begin.

-- a call that asks for some byte
pub asks_some : (size : ℕ) (call : FileCall) → is_single call ≡ true → asks_for size call ≢ 0 → asks_nothing call ≡ false
asks_some size call single some = (single_call (Some size) call single).some some

-- an engine's invariant doesn't hang on whether its last answer was short
begun_is : (first begun : EngineView) → IsReading first → BeginOutcome first (Ok tt) begun → IsReading begun
begun_is first begun is began = subst IsReading (sym began.1) (reading_whole first false is)

-- a call of the engine with which it begins is one of the engine that was
from_begun : (first begun : EngineView) (call : FileCall) (reply : FileReply) (after : Stream) → BeginOutcome first (Ok tt) begun → Answers (reading_of begun) call reply after → Answers (reading_of first) call reply after
from_begun first begun call reply after began answers = answers_begun (reading_of first) (reading_of begun) call reply after (ap reading_of began.1) answers

-- The bytes held.

take_both : (n m : ℕ) (bytes : List ℕ) → take n (take m bytes) ≡ take m (take n bytes)
take_both zero m bytes = sym (take_all m [] (omega arith))
take_both (suc n) zero bytes = refl
take_both (suc n) (suc m) [] = refl
take_both (suc n) (suc m) (byte ∷ more) = ap (λ (rest : List ℕ). byte ∷ rest) (take_both n m more)

-- what is asked of the bytes held is a front of what is asked of all that is left
front_held : (n : ℕ) (ahead left : List ℕ) → take (length ahead) left ≡ ahead → IsFrontOf (take n ahead) (take n left)
front_held n ahead left held =
    let count : ℕ = length ahead in
    (drop count (take n left), ap (λ (part : List ℕ). take n part ++ drop count (take n left)) (sym held) ∙ (ap (λ (part : List ℕ). part ++ drop count (take n left)) (take_both n count left) ∙ take-append-drop count (take n left)))

-- the bytes held come next in the raw
ahead_next : (old mid : EngineView) → KeepsEngine old mid → mid.life ≡ life.Live → place_of mid.window ≡ place_of old.window → WhereTold old.raw (take (length (ahead_of mid.window)) (left_at old.raw.bytes (place_of old.window)) ≡ ahead_of mid.window)
ahead_next old mid kept live place tells = grind (arith, keeps_told, ahead_told, still_tells)

-- where the window is used up, the raw stands at the stream's place
used_up_stands : (window : WindowView) → IsWindow window → ahead_of window ≡ [] → end_of window ≡ place_of window
used_up_stands window is none = omega (arith, is.cursor, ap length none, length-drop window.cursor window.held)

-- By where the one transfer stopped.

pub moved_to_ready : (old mid : EngineView) (stop : Stop) → ReadyOutcome old (Ok stop) mid → Transferred old mid × (place_of mid.window ≡ place_of old.window)
moved_to_ready old mid stops.Enough ready = (ready.0, ready.1)
moved_to_ready old mid stops.End ready = (ready.0, ready.1)
moved_to_ready old mid stops.Waits ready = (ready.0, ready.1)

-- where there is an answer, the raw counted neither a fault nor a wait
ready_counts : (old mid : EngineView) (stop : Stop) → ReadyOutcome old (Ok stop) mid → has_answer stop true ≡ true → LeavesCounts old.raw mid.raw
ready_counts old mid stops.Enough ready answered = record { no_fault = ready.0.no_fault; no_wait = ready.3 }
ready_counts old mid stops.End ready answered = record { no_fault = ready.0.no_fault; no_wait = ready.4 }
ready_counts old mid stops.Waits ready answered = absurd (cc)

-- where bytes were held, all is as it was
ready_still : (old mid : EngineView) (stop : Stop) → ReadyOutcome old (Ok stop) mid → place_of old.window < end_of old.window → mid ≡ old
ready_still old mid stops.Enough ready some = ready.4 (λ same. absurd (omega (arith, some, same)))
ready_still old mid stops.End ready some = absurd (omega (arith, some, ready.5))
ready_still old mid stops.Waits ready some = absurd (omega (arith, some, ready.5))

-- so the raw wasn't called for some of them, and the same are held
leaves_held : (old mid : EngineView) (stop : Stop) (count : ℕ) → ReadyOutcome old (Ok stop) mid → place_of old.window < end_of old.window → LeavesHeld (reading_of old) (reading_of (record mid { window = advanced count mid.window }))
leaves_held old mid stop count ready some = let same : mid ≡ old = ready_still old mid stop ready some in record { raw = ap (λ (engine : EngineView). engine.raw) same; held = ap (λ (engine : EngineView). (reading_of engine).held) same }

-- nothing of the bytes held is given only where nothing is asked or left
nothing_left : (old mid : EngineView) (asked : ℕ) (stop : Stop) → ReadyOutcome old (Ok stop) mid → has_answer stop true ≡ true → WhereTold old.raw (take asked (ahead_of mid.window) ≡ [] → take asked (left_at old.raw.bytes (place_of old.window)) ≡ [])
nothing_left old mid asked stop ready answered tells none = grind (arith, length-take, drop_all, take_all)

whole_answer : (stop : Stop) (mid : EngineView) → has_answer stop true ≡ true → record mid { short = is_wait stop } ≡ record mid { short = false }
whole_answer stop mid answered = grind arith

-- what is given of the bytes held
gives_held : (old mid : EngineView) (call : FileCall) (stop : Stop) → asks_nothing call ≡ false → IsReading old → ReadyOutcome old (Ok stop) mid → has_answer stop true ≡ true → GivesOnce (reading_of old) call (take (asks_for old.window.size call) (ahead_of mid.window)) (reading_of (record mid { window = advanced (moves_by call (length (take (asks_for old.window.size call) (ahead_of mid.window)))) mid.window }))
gives_held old mid call stop asks is ready answered =
    let asked : ℕ = asks_for old.window.size call in
    let part : List ℕ = take asked (ahead_of mid.window) in
    let size : length part ≡ min asked (length (ahead_of mid.window)) = length-take asked (ahead_of mid.window) in
    let new : EngineView = record mid { window = advanced (moves_by call (length part)) mid.window } in
    let moved : Transferred old mid × (place_of mid.window ≡ place_of old.window) = moved_to_ready old mid stop ready in
    grind (arith, keeps_reading old new (keeps_then old mid new moved.0.kept (keeps_advanced mid (moves_by call (length part)) moved.0.kept.is (omega (arith, moves_within call (length part), size)))), ready_counts old mid stop ready answered, leaves_held, moved.0.once, moved.1, size, front_held, ahead_next, nothing_left)

-- An engine that reads on from the bytes held goes on so.

-- once it has an answer
pub answered_reads : (begun mid new : EngineView) (stop : Stop) → ReadyOutcome begun (Ok stop) mid → new ≡ record mid { short = is_wait stop } → IsReading new
answered_reads begun mid new stop ready is = subst IsReading (sym is) (reading_whole mid (is_wait stop) (moved_to_ready begun mid stop ready).0.kept.is)

-- once it gave some of these
pub advanced_reads : (engine new : EngineView) (count : ℕ) → IsReading engine → count ≤ length (ahead_of engine.window) → new ≡ record engine { window = advanced count engine.window } → IsReading new
advanced_reads engine new count reads fits is = subst IsReading (sym is) (keeps_advanced engine count reads fits).is

-- The calls.

-- a call that gives of the bytes held
pub once_held : (first begun mid answered new : EngineView) (call : FileCall) (stop : Stop) (part : List ℕ) → is_single call ≡ true → asks_nothing call ≡ false → IsReading first → BeginOutcome first (Ok tt) begun → ReadyOutcome begun (Ok stop) mid → has_answer stop true ≡ true → answered ≡ record mid { short = is_wait stop } → part ≡ take (asks_for begun.window.size call) (ahead_of answered.window) → new ≡ record answered { window = advanced (moves_by call (length part)) answered.window } → Answers (reading_of first) call (Bytes part) (reading_of new)
once_held first begun mid answered new call stop part single asks is began ready answers answered_is part_is new_is =
    let same : answered ≡ record mid { short = false } = answered_is ∙ whole_answer stop mid answers in
    let asked : ℕ = asks_for begun.window.size call in
    let gave : List ℕ = take asked (ahead_of mid.window) in
    let given : part ≡ gave = part_is ∙ ap (λ (engine : EngineView). take asked (ahead_of engine.window)) same in
    let left : EngineView = record mid { window = advanced (moves_by call (length gave)) mid.window; short = false } in
    let left_is : new ≡ left = new_is ∙ (ap (λ (bytes : List ℕ). record answered { window = advanced (moves_by call (length bytes)) answered.window }) given ∙ ap (λ (engine : EngineView). record engine { window = advanced (moves_by call (length gave)) engine.window }) same) in
    let all : Answers (reading_of begun) call (Bytes gave) (reading_of left) = answers_once (reading_of begun) (reading_of (record mid { window = advanced (moves_by call (length gave)) mid.window })) call gave single (reading_begins first begun is began).reads (gives_held begun mid call stop asks (begun_is first begun is began) ready answers) in
    from_begun first begun call (Bytes part) (reading_of new) began
    (subst (λ (bytes : List ℕ). Answers (reading_of begun) call (Bytes bytes) (reading_of new)) (sym given)
    (subst (λ (engine : EngineView). Answers (reading_of begun) call (Bytes gave) (reading_of engine)) (sym left_is) all))

-- a call that shows all bytes held, and moves nothing
pub once_looked : (first begun mid new : EngineView) (stop : Stop) → IsReading first → BeginOutcome first (Ok tt) begun → ReadyOutcome begun (Ok stop) mid → has_answer stop true ≡ true → new ≡ record mid { short = is_wait stop } → Answers (reading_of first) Peek (Bytes (ahead_of new.window)) (reading_of new)
once_looked first begun mid new stop is began ready answers new_is =
    let moved : Transferred begun mid × (place_of mid.window ≡ place_of begun.window) = moved_to_ready begun mid stop ready in
    let same : new ≡ record mid { short = false } = new_is ∙ whole_answer stop mid answers in
    let window : new.window ≡ mid.window = ap (λ (engine : EngineView). engine.window) same in
    let fits : length (ahead_of mid.window) ≤ begun.window.size = omega (arith, moved.0.kept.is.window_is.held, moved.0.kept.size, length-drop mid.window.cursor mid.window.held) in
    once_held first begun mid new new Peek stop (ahead_of new.window) refl refl is began ready answers new_is
    (sym (take_all begun.window.size (ahead_of new.window) (omega (arith, fits, ap (λ (view : WindowView). length (ahead_of view)) window))))
    (ap (λ (view : WindowView). let left : EngineView = record new { window = view } in left) (subst (λ (view : WindowView). view ≡ advanced 0 view) (sym window) (advanced_none mid.window moved.0.kept.is.ahead.settled moved.0.kept.is.window_is)))

-- a call that the raw made wait
pub once_unready : (first begun mid new : EngineView) (call : FileCall) (stop : Stop) → is_single call ≡ true → asks_nothing call ≡ false → IsReading first → BeginOutcome first (Ok tt) begun → ReadyOutcome begun (Ok stop) mid → has_answer stop true ≡ false → new ≡ record mid { short = is_wait stop } → Answers (reading_of first) call NotReady (reading_of new)
once_unready first begun mid new call stop single asks is began ready unready new_is = grind (arith, from_begun, unready_once, reading_begins, keeps_reading, used_up_stands)

-- a call whose one transfer failed, or wanted memory
pub once_failed : (first begun new : EngineView) (call : FileCall) (why : IoFault) → is_single call ≡ true → asks_nothing call ≡ false → IsReading first → BeginOutcome first (Ok tt) begun → ReadyOutcome begun (Err why) new → Answers (reading_of first) call (Refused why) (reading_of new)
once_failed first begun new call why single asks is began wants = grind (arith, from_begun, faulted_once, reading_begins, keeps_reading, each_but_failed, unmoved_once)

-- a `read1` that had no memory for what is held
pub once_starved : (first begun mid new : EngineView) (size : Option ℕ) (stop : Stop) → asks_nothing (Read1 size) ≡ false → IsReading first → BeginOutcome first (Ok tt) begun → ReadyOutcome begun (Ok stop) mid → has_answer stop true ≡ true → new ≡ record mid { short = is_wait stop } → Answers (reading_of first) (Read1 size) (Refused fault.NoMemory) (reading_of new)
once_starved first begun mid new size stop asks is began ready answers new_is =
    let same : new ≡ record mid { short = false } = new_is ∙ whole_answer stop mid answers in
    let moved = moved_to_ready begun mid stop ready in
    let counts = ready_counts begun mid stop ready answers in
    let reads : Reads (reading_of begun) = (reading_begins first begun is began).reads in
    from_begun first begun (Read1 size) (Refused fault.NoMemory) (reading_of new) began
    (subst (λ (engine : EngineView). Answers (reading_of begun) (Read1 size) (Refused fault.NoMemory) (reading_of engine)) (sym same)
    (answers_coming (reading_of begun) (reading_of mid) (Read1 size) (Refused fault.NoMemory) false refl ((single_call (reading_of begun).buffer (Read1 size) refl).suits (file_of (reading_of begun)) reads.readable) reads
    (grind (arith, keeps_reading, ready_still))))

-- as many bytes as were copied of those held are what is asked of them
pub copied : (count asked : ℕ) (part ahead : List ℕ) → count ≡ min (length ahead) asked → part ≡ take count ahead → part ≡ take asked ahead
copied count asked part ahead least is = is ∙ (ap (λ (n : ℕ). take n ahead) (omega (arith, least)) ∙ take_min asked ahead)
