-- What a reading that goes on answers, by where it stopped: of all that is left, of a size, of a line, of lines.
use Rattle.std.proofs.Common.{◌≡◌, ◌≢◌, ℕ, ◌+◌, ◌<◌, ◌≤◌, inl, inr, Bool, true, false, ◌||◌, IsTrue, List, [], ◌∷◌, ◌++◌, length, take, drop, replicate, Option, None, Result, Ok, Err, refl, sym, ap, ◌∙◌, subst, arith, rules, append_assoc}
use Rattle.std.proofs.lemmas.List.{append-nil, nil_from_length, length-append, length-replicate, length-take, take_all, take-take, take-append-drop}
use Rattle.std.proofs.Math.ListN.{drop_of_length-le}
use Rattle.std.proofs.Math.Seq.{take-append_seam}
use Rattle.std.proofs.lemmas.Bool.{eqb-true}
use Rattle.std.specs.Bool.{◌==◌}
use Rattle.py_flat.specs.declared.fault.IoFault.{IoFault}
use Rattle.py_flat.specs.declared.fault.IoFault.TheVariants as fault
use Rattle.py_flat.specs.declared.life.Life.TheVariants as life
use Rattle.py_flat.specs.Lines.{lines_of, joined}
use Rattle.py_flat.specs.Calls.{FileCall, Read, ReadLine, ReadLines, NotReady, Refused, FileReply, Bytes, Lines}
use Rattle.py_flat.specs.ExactStep.{rest}
use Rattle.py_flat.specs.BinaryStep.{IsFrontOf}
use Rattle.py_lines.specs.Collecting.{LineView, LinesView, line_wanted, lines_wanted}
use Rattle.py_raw.specs.RawStream.{WhereTold}
use Rattle.py_stream.specs.declared.stop.Stop.{Stop}
use Rattle.py_stream.specs.declared.stop.Stop.TheVariants as stops
use Rattle.py_stream.specs.Stream.{Stream, file_of}
use Rattle.py_stream.specs.Kinds.{has_room, takes_space_first, asks_none, by_several}
use Rattle.py_stream.proofs.Begun.{each_more}
use Rattle.py_stream.specs.Answers.{Answers, ahead}
use Rattle.py_stream.specs.Reading.{LeavesHeld, ComesNext, Gives, StarvesReading, StopOutcome, RestOutcome, has_answer, answered_at, wanted_by, reply_by, GathersEnough, GathersFront, Gathers, IsOpen, ComesHeld, WantsHeld, StarvesWanting, GatherOutcome}
use Rattle.py_stream.proofs.ReadingAnswers.{reading_on, on_suits, nothing_held, in_hand_held, wanted_within, is_several, Reads, ReadingBegins, answers_begun}
use Rattle.py_stream.proofs.ReadingStops.{next_parts, answers_unready, several_asks, answers_faulted, unmoved, answers_failing, answers_stopped}
use Rattle.py_flat.specs.Bytes.{left_at}
use Rattle.py_stream.proofs.LineReadings.{all_by_several, begun as begins}
use Rattle.py_stream.specs.ReadingOn.{BeginsReading}

-- By where the reading stopped.

not_asked : (asks : Bool) → (IsTrue asks → ⊥) → asks ≡ false
not_asked asks none = grind arith

or_right : (first second : Bool) → IsTrue second → IsTrue (first || second)
or_right first second is = grind arith

-- where memory ran out, before anything moved or after bytes had left the raw
starved : (before after : Stream) (call : FileCall) (part : List ℕ) → by_several before.buffer call ≡ true → Reads before → StarvesReading before after → GatherOutcome (wanted_by call) before (Err fault.NoMemory) part after → (IsTrue (has_room call || takes_space_first call) → IsTrue before.raw.takes_memory) → Answers before call (Refused fault.NoMemory) after
starved before after call part several begun (inl same) outcome takes =
    let on = (is_several before.buffer call several).on in
    subst (Answers before call (Refused fault.NoMemory)) (sym same) (unmoved before call (reading_on call on) (on_suits (file_of before) call on begun.readable) begun (λ room. takes (ap (λ (has : Bool). has || takes_space_first call) room)))
starved before after call part several begun (inr fails) outcome takes =
    answers_failing before after call several begun fails (λ bound is. outcome.within bound (wanted_within call bound (is_several before.buffer call several).on is)) (λ room. takes (ap (λ (has : Bool). has || takes_space_first call) room)) (λ first. takes (or_right (has_room call) (takes_space_first call) first)) (λ held. (outcome.idle held).0) (outcome.starves fails.failed)

-- a reading that was refused once it had begun
pub refused_stop : (before after : Stream) (call : FileCall) (part : List ℕ) (why : IoFault) → by_several before.buffer call ≡ true → Reads before → GatherOutcome (wanted_by call) before (Err why) part after → (why ≡ fault.NoMemory → IsTrue (has_room call || takes_space_first call) → IsTrue before.raw.takes_memory) → Answers before call (Refused why) after
refused_stop before after call part fault.RawFault several begun outcome takes =
    let on = (is_several before.buffer call several).on in
    answers_faulted before after call (reading_on call on) (on_suits (file_of before) call on begun.readable) begun outcome.stops (λ bound is. outcome.within bound (wanted_within call bound on is)) (λ stays. absurd (let goes = (is_several before.buffer call several).goes in cc)) (not_asked (asks_none before.buffer call) (λ asks. (outcome.idle (nothing_held before call on asks)).1 refl)) (λ single. absurd (let never = (is_several before.buffer call several).many in cc)) (λ buffered has. (outcome.idle (in_hand_held before call on has)).1 refl)
refused_stop before after call part fault.NoMemory several begun outcome takes = starved before after call part several begun outcome.stops outcome (takes refl)
refused_stop before after call part why several begun outcome takes = absurd outcome.stops

-- By the stream that a reading came to.

-- a reading with an answer
pub answered_from : (first before mid after : Stream) (call : FileCall) (part : List ℕ) (stop : Stop) (empty : Bool) → by_several before.buffer call ≡ true → ReadingBegins first before → GatherOutcome (wanted_by call) before (Ok stop) part mid → (empty ≡ false → part ≢ []) → has_answer stop empty ≡ true → after ≡ answered_at stop mid → Answers first call (reply_by call part) after
answered_from first before mid after call part stop empty several begun outcome some answered is =
    answers_begun first before call (reply_by call part) after begun.from (subst (Answers before call (reply_by call part)) (sym is) (answers_stopped before mid call part stop several begun.reads outcome (grind arith)))

-- a reading without an answer, by the stream that it came to
pub unready_from : (first before mid after : Stream) (call : FileCall) (part : List ℕ) (stop : Stop) (empty : Bool) → by_several before.buffer call ≡ true → ReadingBegins first before → GatherOutcome (wanted_by call) before (Ok stop) part mid → (empty ≡ true → part ≡ []) → has_answer stop empty ≡ false → after ≡ answered_at stop mid → Answers first call NotReady after
unready_from first before mid after call part stops.Waits true several begun outcome none unready is =
    let stopped = outcome.stops in
    let on = (is_several before.buffer call several).on in
    let given : Gives before [] mid = subst (λ (bytes : List ℕ). Gives before bytes mid) (none refl) stopped.0 in
    answers_begun first before call NotReady after begun.from (subst (Answers before call NotReady) (sym is) (answers_unready before mid call (reading_on call on) (on_suits (file_of before) call on begun.reads.readable) begun.reads given stopped.1 stopped.2 stopped.3 (several_asks before mid call several (λ held. (outcome.idle held).0) (each_more before mid 1 1 0 1 (omega arith) (omega arith) stopped.4))))
unready_from first before mid after call part stop empty several begun outcome none unready is = absurd (grind arith)

-- what a reading answers that stopped: what it gives, where it has an answer
abbrev pub said_at : Bool → FileReply → FileReply
said_at true given = given
said_at false given = NotReady

-- a test says whether there are any items
abbrev pub TellsEmpty : {A : Type 0} → List A → Bool → Type 0
TellsEmpty items empty = (empty ≡ true → items ≡ []) × (empty ≡ false → items ≢ [])

-- a reading that stopped, as its steps come, with an answer or without
pub stopped_from : (first before mid after : Stream) (call : FileCall) (part : List ℕ) (given : FileReply) (stop : Stop) (empty answered : Bool) → by_several before.buffer call ≡ true → BeginsReading first (Ok tt) before → GatherOutcome (wanted_by call) before (Ok stop) part mid → reply_by call part ≡ given → TellsEmpty part empty → has_answer stop empty ≡ answered → after ≡ answered_at stop mid → Answers first call (said_at answered given) after
stopped_from first before mid after call part given stop empty true several began outcome is tells answered left = subst (λ (reply : FileReply). Answers first call reply after) is (answered_from first before mid after call part stop empty several (begins first before began) outcome tells.1 answered left)
stopped_from first before mid after call part given stop empty false several began outcome is tells answered left = unready_from first before mid after call part stop empty several (begins first before began) outcome tells.0 answered left

-- a reading of lines that was refused once it had begun
pub refused_from : (first before after : Stream) (call : FileCall) (part : List ℕ) (why : IoFault) → by_several before.buffer call ≡ true → (has_room call || takes_space_first call) ≡ false → BeginsReading first (Ok tt) before → GatherOutcome (wanted_by call) before (Err why) part after → Answers first call (Refused why) after
refused_from first before after call part why several roomless began outcome = let begun : ReadingBegins first before = begins first before began in answers_begun first before call (Refused why) after begun.from (refused_stop before after call part why several begun.reads outcome (λ wants takes. absurd (cc)))

-- What was gathered.

-- bytes that come next are a front of what is left
pub comes_front : (left part : List ℕ) → take (length part) left ≡ part → IsFrontOf part left
comes_front left part next = (drop (length part) left, ap (λ (front : List ℕ). front ++ drop (length part) left) (sym next) ∙ take-append-drop (length part) left)

-- nothing comes any more: all that is wanted came
pub gathers_at_end : (wanted : List ℕ → List ℕ) (before : Stream) (part : List ℕ) → wanted part ≡ part → WhereTold before.raw (ComesNext before part) → WhereTold before.raw (length (file_of before).bytes ≤ before.place + length part) → GathersEnough wanted before part
gathers_at_end wanted before part alone told last = record {
  alone = alone;
  exact = λ tells.
      let behind : left_at (file_of before).bytes (before.place + length part) ≡ [] = drop_of_length-le (file_of before).bytes (last tells) in
      ap wanted (next_parts (file_of before).bytes part before.place (told tells) ∙ (ap (λ (xs : List ℕ). part ++ xs) behind ∙ append-nil part)) ∙ alone;
}

-- more may come: what came is a front of what is wanted
pub gathers_waiting : (wanted : List ℕ → List ℕ) (before : Stream) (part : List ℕ) → wanted part ≡ part → ((more : List ℕ) → IsFrontOf part (wanted (part ++ more))) → WhereTold before.raw (ComesNext before part) → GathersFront wanted before part
gathers_waiting wanted before part alone more told = record {
  alone = alone;
  front = λ tells. subst (λ (whole : List ℕ). IsFrontOf part (wanted whole)) (sym (next_parts (file_of before).bytes part before.place (told tells))) (more (left_at (file_of before).bytes (before.place + length part)));
}

-- some of whatever comes after bytes is wanted
abbrev pub WantsOn : (List ℕ → List ℕ) → List ℕ → Type 0
WantsOn wanted part = (more : List ℕ) → more ≢ [] → length part < length (wanted (part ++ more))

-- bytes after which some more is wanted aren't all
pub open_asking : (wanted : List ℕ → List ℕ) (part : List ℕ) → WantsOn wanted part → IsOpen wanted part
open_asking wanted part asks whole = omega (arith, asks (0 ∷ []) (λ none. cc), ap length (whole (0 ∷ [])))

-- where a part has all bytes held, and some more is wanted after it, more is wanted than is held
pub wants_past : (wanted : List ℕ → List ℕ) (before : Stream) (part : List ℕ) → WantsOn wanted part → ahead before ≤ length part → WhereTold before.raw (ComesNext before part) → WantsHeld wanted before → ⊥
wants_past wanted before part asks long told held =
    let count : ℕ = ahead before in
    let front : ComesHeld before (take count part) = λ tells. sym (take-take count (length part) (rest (file_of before)) long) ∙ ap (take count) (told tells) in
    let whole : take count part ++ (drop count part ++ (0 ∷ [])) ≡ part ++ (0 ∷ []) = sym (append_assoc (take count part) (drop count part) (0 ∷ [])) ∙ ap (λ (bytes : List ℕ). bytes ++ (0 ∷ [])) (take-append-drop count part) in
    omega (arith, asks (0 ∷ []) (λ none. cc), long, subst (λ (left : List ℕ). length (wanted left) ≤ count) whole (held (take count part) (drop count part ++ (0 ∷ [])) front))

-- a reading that wasn't refused
pub gathers_ok : (wanted : List ℕ → List ℕ) (before : Stream) (stop : Stop) (part : List ℕ) (after : Stream) → StopOutcome before part (Ok stop) after → Gathers wanted before part (Ok stop) → (WantsHeld wanted before → LeavesHeld before after) → GatherOutcome wanted before (Ok stop) part after
gathers_ok wanted before stop part after stopped gathered idle = record { stops = stopped; gathers = gathered; starves = tt; idle = λ held. (idle held, λ fails. absurd (cc)); within = tt }

-- Readings of all that is left.

-- no number bounds all that may be left
rest_unbound : (most : ℕ) → ((bytes : List ℕ) → length (wanted_by (Read None) bytes) ≤ most) → ⊥
rest_unbound most bound = omega (arith, bound (replicate (most + 1) 0), length-replicate {A = ℕ} (most + 1) 0)

-- all that is left isn't known to be held
rest_not_held : (before : Stream) → WantsHeld (wanted_by (Read None)) before → ⊥
rest_not_held before held =
    let front : List ℕ = take (ahead before) (rest (file_of before)) in
    let more : List ℕ = replicate (ahead before + 1) 0 in
    omega (arith, held front more (λ tells. refl), length-append front more, length-replicate {A = ℕ} (ahead before + 1) 0)

-- some more may always come
open_rest : (part : List ℕ) → IsOpen (wanted_by (Read None)) part
open_rest part whole = omega (arith, ap length (whole (0 ∷ [])), length-append part (0 ∷ []))

starves_wanting_rest : (before after : Stream) → before.life ≡ life.Live → StarvesReading before after → after.life ≡ life.Failed → WhereTold before.raw (rest (file_of before) ≢ [])
starves_wanting_rest before after live starves failed = grind arith

-- a reading of all that is left, with an answer or without
pub rest_gathers : (before after : Stream) (part : List ℕ) (stop : Stop) → RestOutcome before (Ok stop) part after → GatherOutcome (wanted_by (Read None)) before (Ok stop) part after
rest_gathers before after part stops.Enough outcome = absurd outcome
rest_gathers before after part stops.End outcome = gathers_ok (wanted_by (Read None)) before stops.End part after outcome (gathers_at_end (wanted_by (Read None)) before part refl outcome.0.told (λ tells. let place = outcome.0.place in omega (arith, place, outcome.2 tells)), open_rest part) (λ held. absurd (rest_not_held before held))
rest_gathers before after part stops.Waits outcome = gathers_ok (wanted_by (Read None)) before stops.Waits part after outcome (gathers_waiting (wanted_by (Read None)) before part refl (λ more. (more, refl)) outcome.0.told, open_rest part) (λ held. absurd (rest_not_held before held))

rest_stopped : (before after : Stream) (part : List ℕ) (why : IoFault) → StarvesWanting (wanted_by (Read None)) before (Err why) after → StopOutcome before part (Err why) after → GatherOutcome (wanted_by (Read None)) before (Err why) part after
rest_stopped before after part why starves outcome = grind (arith, rest_not_held, rest_unbound)

-- a reading of all that is left that was refused
pub refused_rest : (before after : Stream) (part : List ℕ) (why : IoFault) → Reads before → RestOutcome before (Err why) part after → Answers before (Read None) (Refused why) after
refused_rest before after part fault.RawFault begun outcome = refused_stop before after (Read None) part fault.RawFault (all_by_several before.buffer) begun (rest_stopped before after part fault.RawFault tt outcome) (λ wants takes. absurd (cc))
refused_rest before after part fault.NoMemory begun starves = refused_stop before after (Read None) part fault.NoMemory (all_by_several before.buffer) begun (rest_stopped before after part fault.NoMemory (starves_wanting_rest before after begun.live starves) starves) (λ wants takes. absurd (cc))
refused_rest before after part why begun outcome = absurd outcome

-- Of a size.

-- a call that wants n bytes
abbrev pub WantsSize : FileCall → ℕ → Type 0
WantsSize call size = (left : List ℕ) → wanted_by call left ≡ take size left

-- less than a call wants isn't all of it
open_size : (call : FileCall) (size : ℕ) (part : List ℕ) → WantsSize call size → length part < size → IsOpen (wanted_by call) part
open_size call size part wants less whole =
    let longer : List ℕ = part ++ (0 ∷ []) in
    omega (arith, ap length (sym (take_all size longer (omega (arith, length-append part (0 ∷ [])))) ∙ sym (wants longer) ∙ whole (0 ∷ [])), length-append part (0 ∷ []))

-- what bounds all that a call wants bounds its size
size_bound : (call : FileCall) (size most : ℕ) → WantsSize call size → ((bytes : List ℕ) → length (wanted_by call bytes) ≤ most) → size ≤ most
size_bound call size most wants bound =
    let zeros : List ℕ = replicate size 0 in
    omega (arith, bound zeros, ap length (wants zeros ∙ take_all size zeros (omega (arith, length-replicate {A = ℕ} size 0))), length-replicate {A = ℕ} size 0)

-- what is held bounds it, where no more is wanted
size_held : (before : Stream) (call : FileCall) (size : ℕ) → WantsSize call size → WantsHeld (wanted_by call) before → size ≤ ahead before
size_held before call size wants held =
    let front : List ℕ = take (ahead before) (rest (file_of before)) in
    let zeros : List ℕ = replicate size 0 in
    let long : length (front ++ zeros) ≡ length front + size = length-append front zeros ∙ ap (λ (n : ℕ). length front + n) (length-replicate {A = ℕ} size 0) in
    omega (arith, long, held front zeros (λ tells. refl), ap length (wants (front ++ zeros)), length-take size (front ++ zeros))

-- more than is held is wanted
past_held : (before : Stream) (call : FileCall) (size : ℕ) → WantsSize call size → ahead before < size → WantsHeld (wanted_by call) before → ⊥
past_held before call size wants past held = omega (arith, past, size_held before call size wants held)

-- no more is wanted than is held: the raw wasn't called
idle_size : (before after : Stream) (call : FileCall) (size : ℕ) → WantsSize call size → (size ≤ ahead before → LeavesHeld before after) → WantsHeld (wanted_by call) before → LeavesHeld before after
idle_size before after call size wants idle held = idle (size_held before call size wants held)

-- a reading of n bytes
pub gathers_size : (before after : Stream) (call : FileCall) (size : ℕ) (part : List ℕ) (stop : Stop) → WantsSize call size → length part ≤ size → (stop ≡ stops.Enough → length part ≡ size) → (stop ≢ stops.Enough → length part < size) → StopOutcome before part (Ok stop) after → (size ≤ ahead before → LeavesHeld before after) → GatherOutcome (wanted_by call) before (Ok stop) part after
gathers_size before after call size part stops.Enough wants fits full less outcome idle =
    gathers_ok (wanted_by call) before stops.Enough part after outcome (grind (arith, take_all)) (idle_size before after call size wants idle)
gathers_size before after call size part stops.End wants fits full less outcome idle =
    gathers_ok (wanted_by call) before stops.End part after outcome (
      gathers_at_end (wanted_by call) before part (wants part ∙ take_all size part fits) outcome.0.told (λ tells. let place = outcome.0.place in omega (arith, place, outcome.2 tells)),
      open_size call size part wants (less (λ same. cc)),
    ) (idle_size before after call size wants idle)
gathers_size before after call size part stops.Waits wants fits full less outcome idle =
    gathers_ok (wanted_by call) before stops.Waits part after outcome (
      (let alone : wanted_by call part ≡ part = wants part ∙ take_all size part fits in search (rules, take_all, comes_front, take-take)),
      open_size call size part wants (less (λ same. cc)),
    ) (idle_size before after call size wants idle)

some_taken : (size : ℕ) (left : List ℕ) → 0 < size → left ≢ [] → take size left ≢ []
some_taken size left asks some = grind arith

-- a reading that was refused, for which more is wanted than was held
pub refuses_size : (before after : Stream) (call : FileCall) (size : ℕ) (part : List ℕ) (why : IoFault) → WantsSize call size → ahead before < size → before.life ≡ life.Live → after.place ≤ before.place + size → StopOutcome before part (Err why) after → GatherOutcome (wanted_by call) before (Err why) part after
refuses_size before after call size part why wants past live within outcome =
    let none : WantsHeld (wanted_by call) before → ⊥ = past_held before call size wants past in
    let wanted : wanted_by call (rest (file_of before)) ≡ take size (rest (file_of before)) = wants (rest (file_of before)) in
    let moves : (most : ℕ) → ((bytes : List ℕ) → length (wanted_by call bytes) ≤ most) → after.place ≤ before.place + most = λ most bound. omega (arith, within, size_bound call size most wants bound) in
    grind (arith, some_taken, starves_wanting_rest)

-- what a vector has whose front was read into, and which was cut to what came
pub cut_to : (buffer more : List ℕ) (count size : ℕ) → length buffer ≡ size → take count (take size (buffer ++ more)) ≡ take count buffer
cut_to buffer more count size long = ap (λ (n : ℕ). take count (take n (buffer ++ more))) (sym long) ∙ ap (take count) (take-append_seam buffer more)

-- Whether there are any items.

-- items of which none are counted are none
pub none_counted : {A : Type 0} → (items : List A) (count : ℕ) (empty : Bool) → count ≡ length items → empty ≡ (count == 0) → empty ≡ true → items ≡ []
none_counted items count empty size is none = nil_from_length items (sym size ∙ eqb-true count 0 (sym is ∙ none))

-- where some items are counted, there are some
pub some_counted : {A : Type 0} → (items : List A) (count : ℕ) (empty : Bool) → count ≡ length items → empty ≡ (count == 0) → empty ≡ false → items ≢ []
some_counted items count empty size is some none = grind arith

-- a count tells whether there are any items
pub counted_empty : {A : Type 0} → (items : List A) (count : ℕ) (empty : Bool) → count ≡ length items → empty ≡ (count == 0) → TellsEmpty items empty
counted_empty items count empty size is = (none_counted items count empty size is, some_counted items count empty size is)

-- a count of lines tells whether they have any bytes
pub lines_empty : (lines : List (List ℕ)) (part : List ℕ) (count : ℕ) (empty : Bool) → count ≡ length lines → empty ≡ (count == 0) → joined lines ≡ part → lines_of (joined lines) ≡ lines → TellsEmpty part empty
lines_empty lines part count empty size is all cut = grind (arith, none_counted, some_counted)

-- Of a line, or lines.

-- what a line was gathered by
pub line_gathered : (view : LineView) (limit : Option ℕ) (before after : Stream) (result : Result Stop IoFault) (part : List ℕ) → view ≡ record { line = []; limit = limit } → GatherOutcome (line_wanted view) before result part after → GatherOutcome (wanted_by (ReadLine limit)) before result part after
line_gathered view limit before after result part is outcome = subst (λ (seen : LineView). GatherOutcome (line_wanted seen) before result part after) is outcome

-- what lines were gathered by
pub lines_gathered : (view : LinesView) (hint : Option ℕ) (before after : Stream) (result : Result Stop IoFault) (part : List ℕ) → view.hint ≡ hint → GatherOutcome (lines_wanted view) before result part after → GatherOutcome (wanted_by (ReadLines hint)) before result part after
lines_gathered view hint before after result part is outcome = subst (λ (some : Option ℕ). GatherOutcome (wanted_by (ReadLines some)) before result part after) is outcome

-- a line, as the steps of its reading come
pub stopped_line : (first before mid after : Stream) (view : LineView) (limit : Option ℕ) (part line : List ℕ) (stop : Stop) (count : ℕ) (empty answered : Bool) → BeginsReading first (Ok tt) before → view ≡ record { line = []; limit = limit } → GatherOutcome (line_wanted view) before (Ok stop) part mid → line ≡ part → count ≡ length line → empty ≡ (count == 0) → has_answer stop empty ≡ answered → after ≡ answered_at stop mid → Answers first (ReadLine limit) (said_at answered (Bytes line)) after
stopped_line first before mid after view limit part line stop count empty answered began is outcome same size counts says left = stopped_from first before mid after (ReadLine limit) part (Bytes line) stop empty answered refl began (line_gathered view limit before mid (Ok stop) part is outcome) (ap Bytes (sym same)) (counted_empty part count empty (size ∙ ap length same) counts) says left

-- lines, as the steps of their reading come
pub stopped_lines : (first before mid after : Stream) (view : LinesView) (hint : Option ℕ) (part : List ℕ) (lines : List (List ℕ)) (stop : Stop) (count : ℕ) (answered : Bool) → BeginsReading first (Ok tt) before → view.hint ≡ hint → GatherOutcome (lines_wanted view) before (Ok stop) part mid → joined lines ≡ part → lines_of (joined lines) ≡ lines → count ≡ length lines → has_answer stop (count == 0) ≡ answered → after ≡ answered_at stop mid → Answers first (ReadLines hint) (said_at answered (Lines lines)) after
stopped_lines first before mid after view hint part lines stop count answered began is outcome all cut size says left = stopped_from first before mid after (ReadLines hint) part (Lines lines) stop (count == 0) answered refl began (lines_gathered view hint before mid (Ok stop) part is outcome) (ap Lines (sym (ap lines_of all) ∙ cut)) (lines_empty lines part count (count == 0) size refl all cut) says left
