-- Readings of an engine that the bytes held answer, whatever it owes; and others where it doesn't read on from these as it stands.
use Rattle.std.proofs.Common.{[], ◌∷◌, ◌≡◌, ◌≢◌, ℕ, zero, suc, ◌+◌, ◌<◌, ◌≤◌, ◌⊎◌, inl, inr, ⊎_elim, nat_lt, if◌then◌else◌, unwrap_or, length-append, Bool, true, false, IsTrue, List, length, ◌++◌, take, drop, ◌-◌, min, Option, Some, None, Result, Ok, Err, refl, sym, ap, ◌∙◌, subst, arith}
use Rattle.py_flat.specs.declared.fault.IoFault.{IoFault}
use Rattle.py_flat.specs.declared.fault.IoFault.TheVariants as fault
use Rattle.py_flat.specs.declared.life.Life.{Life}
use Rattle.py_flat.specs.declared.life.Life.TheVariants as life
use Rattle.std.proofs.Math.Seq.{take-append_seam}
use Rattle.std.proofs.lemmas.Bool.{ltb-true}
use Rattle.py_flat.proofs.Cutting.{joined_lines}
use Rattle.py_lines.proofs.Lines.{within_some}
use Rattle.std.proofs.lemmas.List.{length-drop, length-take, take-take, take_min, take_all, take-append-drop}
use Rattle.py_flat.specs.Bytes.{left_at}
use Rattle.py_flat.specs.Owed.{Owed}
use Rattle.py_flat.specs.Calls.{FileCall, FileReply, NotReady, Bytes, Lines, Refused, Read, Read1, ReadInto, ReadInto1, ReadLine, ReadLines, Peek}
use Rattle.py_raw.specs.RawStream.{Raw, WhereTold, WhereTransfers}
use Rattle.py_stream.specs.declared.access.Access.{Access}
use Rattle.py_stream.specs.declared.access.Access.TheVariants as access
use Rattle.py_stream.specs.Access.{is_read}
use Rattle.py_stream.specs.Stream.{Stream, file_of}
use Rattle.py_stream.specs.Kinds.{is_reading, is_single, asks_none, asks_nothing, has_room, reads_on, is_zero, asks_zero, takes_space_first, says_no_memory}
use Rattle.py_stream.specs.Held.{GivesHeld}
use Rattle.py_stream.specs.Keeping.{IsSound}
use Rattle.py_stream.specs.Moving.{owed_at}
use Rattle.py_stream.specs.Answers.{Answers, IsAhead, ahead, FlushesFirst, InHandOf}
use Rattle.py_stream.specs.Settling.{SettleOutcome}
use Rattle.py_stream.specs.Reading.{wanted_by, reply_by, has_answer, is_wait}
use Rattle.py_stream.specs.Replies.{look_reply}
use Rattle.py_stream.specs.declared.stop.Stop.{Stop}
use Rattle.py_flat.specs.ExactStep.{rest}
use Rattle.py_lines.specs.Collecting.{HasEnough, WantsMore, EndsIn, LinesView, IsNewLines, lines_wanted, lines_collected}
use Rattle.py_flat.specs.Lines.{joined, lines_of, until_above}
use Rattle.py_stream.proofs.ReadingOn.{wants_past}
use Rattle.py_stream.proofs.ReadingStops.{asks_for, moves_by}
use Rattle.py_engine.proofs.SingleReading.{asks_some, moved_to_ready, answered_reads, advanced_reads, once_failed, once_unready, once_held, once_looked, once_starved}
use Rattle.py_stream.proofs.Refusing.{refused_alone}
use Rattle.py_stream.proofs.ReadingAnswers.{reading_call, in_hand_held, accepted, reading_refused}
use Rattle.py_stream.proofs.Holding.{asks_nothing_answers, single_reads, held_answers, held_answers_told, held_answers_once, held_peek, reading_lacks, ReadsHeld, HasToPass, reading_suits, reading_blocked, reading_failed, reading_starved}
use Rattle.py_stream.proofs.Settled.{settled_reads}
use Rattle.py_window.specs.Window.{WindowView, IsWindow, place_of, ahead_of, advanced, flat_over, HoldsBytes}
use Rattle.py_engine.specs.Engine.{EngineView, stream_of, Stands, IsEngine, HasShape, HoldsRead, BeginOutcome}
use Rattle.py_engine.specs.Reading.{reading_of, AnswersSized, IsReading, ReadyOutcome}
use Rattle.py_engine.specs.Random.{GoesToRaw, AnswersFrom, WentAhead, GoesAhead, WantsPast, gave, AnswersSome, AnswersOnce, AnswersFirst, OnceOutcome, SomeOutcome}
use Rattle.py_engine.proofs.Transfers.{bytes_ahead}
use Rattle.py_engine.proofs.Standing.{is_placed, is_sound, owes_nothing, none_over, readable, same_stream, begins, stands_whole, answers_from_begun}
use Rattle.py_window.proofs.Overlaying.{pending_many}

-- How a reading begins.

-- the life refuses a reading
pub begins_not : (old new : EngineView) (call : FileCall) (why : IoFault) → is_reading call ≡ true → Stands old → BeginOutcome old (Err why) new → Answers (stream_of old) call (Refused why) (stream_of new)
begins_not old new call why reads is began = reading_refused (stream_of old) (stream_of new) call why reads (is_placed old is) (begins old new (Err why) began)

-- a live stream that is read
pub reads_held : (engine : EngineView) → Stands engine → is_read engine.access ≡ true → engine.life ≡ life.Live → engine.short ≡ false → ReadsHeld (stream_of engine)
reads_held engine is reads live whole = record { sound = is_sound engine is; live = live; whole = whole; readable = readable engine.access engine.raw.seekable reads; size = engine.window.size; buffered = refl }

-- a reading of one that is written too, which has to go to the raw
has_to_pass : (engine : EngineView) (call : FileCall) → Stands engine → engine.access ≡ access.Update → engine.life ≡ life.Live → engine.short ≡ false → GoesToRaw (stream_of engine) call → HasToPass (stream_of engine) call
has_to_pass engine call is opened live whole goes = record { held = reads_held engine is (ap is_read opened) live whole; writes = grind arith; reads = goes.reads; some = goes.some; apart = goes.apart }

-- Passing all on for a reading.

module _ (old new : EngineView) (is : Stands old) (opened : old.access ≡ access.Update) (live : old.life ≡ life.Live) (whole : old.short ≡ false) (apart : IsAhead (stream_of old) → ⊥) (calm : (stream_of old).owed.bytes ≡ [] → WhereTransfers old.raw (new.raw.transfers ≤ old.raw.transfers)) where
  pub goes_ahead : SettleOutcome (stream_of old) (Ok tt) (stream_of new) → IsReading new → AnswersFrom (stream_of old) (stream_of new)
  goes_ahead settled reading call reply after goes takes answers =
      let pass : HasToPass (stream_of old) call = has_to_pass old call is opened live whole goes in
      settled_reads (stream_of old) (stream_of new) after call reply goes.reads (record {
        settled = record {
          live = live;
          writes = pass.writes;
          buffered = refl;
          accepted = refused_alone (stream_of old) call ((reading_call call goes.reads).unended (file_of (stream_of old))) ∙ accepted (stream_of old) call goes.reads (reading_suits (stream_of old) call goes.reads pass.held) live;
          settled_by = settled;
        };
        apart = apart;
        hand = goes.apart;
        asks = goes.some;
        takes = λ wanting first. subst IsTrue settled.0.passes.kept.raw.takes_memory (takes wanting first);
        calm = calm;
        ahead = record { none = ap (λ (owed : Owed). owed.bytes) (owes_nothing new reading); stands = λ _. reading.ahead.stands };
      }) answers

  -- the raw would have blocked
  pub goes_unready : (taken : ℕ) → SettleOutcome (stream_of old) (Err (fault.WouldBlock taken)) (stream_of new) → GoesAhead old (Ok false) new
  goes_unready taken waits call goes = reading_blocked (stream_of old) (stream_of new) call taken (has_to_pass old call is opened live whole goes) waits

  -- it failed, or memory ran out
  pub goes_not : (why : IoFault) → ((taken : ℕ) → why ≡ fault.WouldBlock taken → ⊥) → SettleOutcome (stream_of old) (Err why) (stream_of new) → GoesAhead old (Err why) new
  goes_not fault.RawFault other fails call goes = reading_failed (stream_of old) (stream_of new) call (has_to_pass old call is opened live whole goes) apart calm fails
  goes_not fault.NoMemory other lacks call goes = reading_starved (stream_of old) (stream_of new) call (has_to_pass old call is opened live whole goes) apart calm lacks
  goes_not (fault.WouldBlock taken) other waits call goes = absurd (other taken refl)
  goes_not why other never call goes = absurd never

-- Whether a reading goes on from the bytes held.

-- what a reading from there answers
pub reads_seen : (old new : EngineView) (call : FileCall) (reply : FileReply) → IsReading old → IsReading new → Answers (reading_of old) call reply (reading_of new) → Answers (stream_of old) call reply (stream_of new)
reads_seen old new call reply is now answers = subst (λ (after : Stream). Answers (stream_of old) call reply after) (sym (same_stream new now)) (subst (λ (before : Stream). Answers before call reply (reading_of new)) (sym (same_stream old is)) answers)

-- A cursor that moves on over bytes held, whatever is pending.

-- the flat bytes are as they were
pub flat_moved : (bytes : List ℕ) (window : WindowView) (count : ℕ) → flat_over bytes (advanced count window) ≡ flat_over bytes window
flat_moved bytes window count = grind arith

-- and holds what it held
holds_moved : (opened : Access) (bytes : List ℕ) (window : WindowView) (count : ℕ) → is_read opened ≡ true → HoldsRead opened bytes window → HoldsRead opened bytes (advanced count window)
holds_moved access.Read bytes window count reads holds = holds
holds_moved access.Update bytes window count reads holds = subst (λ (flat : List ℕ). HoldsBytes flat window) (sym (flat_moved bytes window count)) holds
holds_moved access.Write bytes window count reads holds = tt
holds_moved access.Append bytes window count reads holds = tt

-- so it stands as each does
pub stands_moved : (raw : Raw) (raw_place : ℕ) (window : WindowView) (opened : Access) (current : Life) (count : ℕ) → is_read opened ≡ true → count ≤ length (ahead_of window) → IsEngine raw raw_place window opened current → IsEngine raw raw_place (advanced count window) opened current
stands_moved raw raw_place window opened current count reads fits is = record {
  window_is = grind (arith, length-drop);
  is_open = is.is_open;
  attached = is.attached;
  shape = grind arith;
  stands = is.stands;
  told = λ tells live. holds_moved opened raw.bytes window count reads (is.told tells live);
}

-- Readings, once they began.

module _ (old begun : EngineView) (call : FileCall) (began : BeginOutcome old (Ok tt) begun) (goes : GoesToRaw (stream_of begun) call) where
  -- what stopped the passing on answers the reading
  pub went_not : (new : EngineView) (why : IoFault) → GoesAhead begun (Err why) new → Answers (stream_of old) call (Refused why) (stream_of new)
  went_not new why stops = answers_from_begun old begun call (Refused why) (stream_of new) began (stops call goes)

  -- it isn't ready, where the raw would have blocked
  pub went_unready : (new : EngineView) (done : Bool) → done ≡ false → GoesAhead begun (Ok done) new → Answers (stream_of old) call NotReady (stream_of new)
  went_unready new true never stops = absurd (cc)
  went_unready new false never stops = answers_from_begun old begun call NotReady (stream_of new) began (stops call goes)

  -- all was passed on
  pub went_reads : (mid : EngineView) (done : Bool) → done ≡ true → GoesAhead begun (Ok done) mid → IsReading mid
  went_reads mid true all went = went.reads
  went_reads mid false all went = absurd (cc)

  -- what a reading from there answers
  pub went_on : (mid new : EngineView) (done : Bool) (reply : FileReply) → done ≡ true → GoesAhead begun (Ok done) mid → IsReading new → (IsTrue (says_no_memory reply) → IsTrue (takes_space_first call) → IsTrue mid.raw.takes_memory) → Answers (reading_of mid) call reply (reading_of new) → Answers (stream_of old) call reply (stream_of new)
  went_on mid new true reply all went reads takes answers = answers_from_begun old begun call reply (stream_of new) began (went.answers call reply (stream_of new) goes takes (reads_seen mid new call reply went.reads reads answers))
  went_on mid new false reply all went reads takes answers = absurd (cc)

-- a reading of all that is left has to go to the raw
pub rest_goes : (engine : EngineView) → GoesToRaw (stream_of engine) (Read None)
rest_goes engine = record { reads = refl; some = refl; apart = λ has. absurd (has.of) }

-- a size that isn't 0 asks for some
not_zero : (size : ℕ) → 0 < size → is_zero size ≡ false
not_zero size some = grind arith

-- so has one of more bytes than are held
pub size_goes : (engine : EngineView) (size : ℕ) → IsWindow engine.window → length (ahead_of engine.window) < size → GoesToRaw (stream_of engine) (Read (Some size))
size_goes engine size is more = record { reads = refl; some = not_zero size (omega (arith, more)); apart = λ has. absurd (omega (arith, has.of, more, is.cursor, length-drop engine.window.cursor engine.window.held)) }

-- of bytes into a buffer too
pub into_goes : (engine : EngineView) (size : ℕ) → IsWindow engine.window → length (ahead_of engine.window) < size → GoesToRaw (stream_of engine) (ReadInto size)
into_goes engine size is more = record { reads = refl; some = not_zero size (omega (arith, more)); apart = λ has. absurd (omega (arith, has.of, more, is.cursor, length-drop engine.window.cursor engine.window.held)) }

-- Of the bytes held.

-- a front of some bytes is as many of them as it has
front_alone : (size : ℕ) (part ahead : List ℕ) → part ≡ take size ahead → take (length part) ahead ≡ part
front_alone size part ahead front = ap (λ (bytes : List ℕ). take (length bytes) ahead) front ∙ (ap (λ (n : ℕ). take n ahead) (length-take size ahead ∙ omega arith) ∙ (take_min size ahead ∙ sym front))

-- where the cursor moved on, the stream's place did, and with it the place of what is owed where that is nothing
moved_stream : (old : EngineView) (count : ℕ) → IsWindow old.window → count ≤ length (ahead_of old.window) → stream_of (record old { window = advanced count old.window }) ≡ record (stream_of old) { place = (stream_of old).place + count; owed = owed_at ((stream_of old).place + count) (stream_of old).owed }
moved_stream old count is fits = grind (arith, pending_many)

-- a front of the bytes held comes next in the flat bytes
front_told : (window : WindowView) (bytes : List ℕ) (count : ℕ) → IsWindow window → HoldsBytes bytes window → count ≤ length (ahead_of window) → take count (left_at bytes (place_of window)) ≡ take count (ahead_of window)
front_told window bytes count is holds fits = sym (take-take count (length (ahead_of window)) (left_at bytes (place_of window)) fits) ∙ ap (take count) (bytes_ahead bytes window is.cursor holds)

-- told, a live stream that is read holds the flat bytes
pub holds_flat : (opened : Access) (bytes : List ℕ) (raw_place : ℕ) (window : WindowView) → is_read opened ≡ true → HasShape opened raw_place window → HoldsRead opened bytes window → HoldsBytes (flat_over bytes window) window
holds_flat access.Update bytes raw_place window reads shape holds = holds
holds_flat access.Read bytes raw_place window reads shape holds = subst (λ (flat : List ℕ). HoldsBytes flat window) (sym (none_over bytes window shape.settled)) holds
holds_flat access.Write bytes raw_place window reads shape holds = absurd (cc)
holds_flat access.Append bytes raw_place window reads shape holds = absurd (cc)

-- a front of the bytes held is given
pub gives_front : (old new : EngineView) (part : List ℕ) (size : ℕ) → Stands old → is_read old.access ≡ true → old.life ≡ life.Live → part ≡ take size (ahead_of old.window) → new ≡ record old { window = advanced (length part) old.window } → GivesHeld (stream_of old) part (stream_of new)
gives_front old new part size is reads live front same =
    let held : length (ahead_of old.window) ≡ length old.window.held - old.window.cursor = length-drop old.window.cursor old.window.held in
    let fits : length part ≤ length (ahead_of old.window) = omega (arith, ap length front, length-take size (ahead_of old.window)) in
    let stands : Stands (record old { window = advanced (length part) old.window }) = stands_moved old.raw old.raw_place old.window old.access old.life (length part) reads fits is in
    let alone : take (length part) (ahead_of old.window) ≡ part = front_alone size part (ahead_of old.window) front in
    record {
      sound = subst (λ (engine : EngineView). IsSound (stream_of engine)) (sym same) (is_sound (record old { window = advanced (length part) old.window }) stands);
      within = omega (arith, fits, held);
      same = ap stream_of same ∙ moved_stream old (length part) is.window_is fits;
      told = λ tells. front_told old.window (flat_over old.raw.bytes old.window) (length part) is.window_is (holds_flat old.access old.raw.bytes old.raw_place old.window reads is.shape (is.told tells live)) fits ∙ alone;
    }

-- the lines that a collector has, which had none before
pub lines_are_in : (view new : LinesView) (hint : Option ℕ) (bytes : List ℕ) (used : ℕ) (lines : List (List ℕ)) → IsNewLines hint view → HasEnough (lines_wanted view) (lines_collected view) bytes used (lines_collected new) → joined lines ≡ lines_collected new → HasEnough (wanted_by (ReadLines hint)) [] bytes used (joined lines)
lines_are_in view new hint bytes used lines none has all =
    let empty : lines_collected view ≡ [] = ap (λ (some : List (List ℕ)). joined some ++ view.part) none.0 ∙ none.1 in
    subst (HasEnough (wanted_by (ReadLines hint)) [] bytes used) (sym all)
    (subst (λ (most : Option ℕ). HasEnough (wanted_by (ReadLines most)) [] bytes used (lines_collected new)) none.2
    (subst (λ (before : List ℕ). HasEnough (wanted_by (ReadLines view.hint)) before bytes used (lines_collected new)) empty has))

-- lines taken until they are above a hint are, or are all
abbrev IsAboveOrAll : (hint total : ℕ) (lines taken : List (List ℕ)) → Type 0
IsAboveOrAll hint total lines taken = (hint < total + length (joined taken)) ⊎ (taken ≡ lines)

until_by : (above : Bool) (hint total : ℕ) (line : List ℕ) (lines : List (List ℕ)) → nat_lt hint (total + length line) ≡ above → IsAboveOrAll hint (total + length line) lines (until_above hint (total + length line) lines) → (let taken : List (List ℕ) = line ∷ (if above then [] else until_above hint (total + length line) lines) in IsAboveOrAll hint total (line ∷ lines) taken)
until_by true hint total line lines is rest = inl (omega (arith, ltb-true hint (total + length line) is, length-append line []))
until_by false hint total line lines is rest =
    ⊎_elim
    (λ (above : hint < total + length line + length (joined (until_above hint (total + length line) lines))). inl (omega (arith, above, length-append line (joined (until_above hint (total + length line) lines)))))
    (λ (all : until_above hint (total + length line) lines ≡ lines). inr (ap (λ (more : List (List ℕ)). line ∷ more) all))
    rest

until_all : (hint total : ℕ) (lines : List (List ℕ)) → IsAboveOrAll hint total lines (until_above hint total lines)
until_all hint total [] = inr refl
until_all hint total (line ∷ lines) = until_by (nat_lt hint (total + length line)) hint total line lines refl (until_all hint (total + length line) lines)

-- all lines of bytes have all of them
all_past : (bytes more : List ℕ) → more ≢ [] → length bytes < length (joined (lines_of (bytes ++ more)))
all_past bytes [] some = absurd (some refl)
all_past bytes (byte ∷ more) some = omega (arith, ap length (joined_lines (bytes ++ (byte ∷ more))), length-append bytes (byte ∷ more))

-- bytes that aren't above a hint have no lines that are, so that more is wanted
pub short_past : (hint : Option ℕ) (bytes : List ℕ) → (unwrap_or hint 0 ≡ 0) ⊎ (length bytes ≤ unwrap_or hint 0) → WantsPast (wanted_by (ReadLines hint)) bytes
short_past None bytes within more some = all_past bytes more some
short_past (Some zero) bytes within more some = all_past bytes more some
short_past (Some (suc hint)) bytes (inl none) more some = absurd (omega (arith, none))
short_past (Some (suc hint)) bytes (inr within) more some =
    subst (λ (lines : List (List ℕ)). length bytes < length (joined lines)) (sym (within_some hint (bytes ++ more)))
    (⊎_elim
    (λ (above : suc hint < 0 + length (joined (until_above (suc hint) 0 (lines_of (bytes ++ more))))). omega (arith, above, within))
    (λ (all : until_above (suc hint) 0 (lines_of (bytes ++ more)) ≡ lines_of (bytes ++ more)). subst (λ (lines : List (List ℕ)). length bytes < length (joined lines)) (sym all) (all_past bytes more some))
    (until_all (suc hint) 0 (lines_of (bytes ++ more))))

-- A reading that began.

-- the engine with which it began stands as it did
pub stands_begun : (old begun : EngineView) → Stands old → BeginOutcome old (Ok tt) begun → Stands begun
stands_begun old begun is began = subst Stands (sym began.1) (stands_whole old is)

-- and its stream has what every reading needs
pub held_begun : (old begun : EngineView) → Stands old → is_read old.access ≡ true → BeginOutcome old (Ok tt) begun → ReadsHeld (stream_of begun)
held_begun old begun is reads began = reads_held begun (stands_begun old begun is began) (ap (λ (engine : EngineView). is_read engine.access) began.1 ∙ reads) (ap (λ (engine : EngineView). engine.life) began.1 ∙ began.0) (ap (λ (engine : EngineView). engine.short) began.1)

-- the bytes held answer a call by one transfer that has to pass on first only where some are held and nothing is owed
once_apart : (engine : EngineView) (call : FileCall) → is_single call ≡ true → FlushesFirst (stream_of engine) call → InHandOf (stream_of engine) call → (0 < length (ahead_of engine.window) → (stream_of engine).owed.bytes ≡ [] → ⊥) → ⊥
once_apart engine call single first has apart = grind (arith, length-drop)

-- a line that goes on after a piece may have some byte
limit_some : (limit : Option ℕ) (piece line : List ℕ) → WantsMore (wanted_by (ReadLine limit)) [] piece line → asks_zero limit ≡ false
limit_some None piece line more = refl
limit_some (Some zero) piece line more = absurd (omega (arith, more.asks (0 ∷ []) (λ none. cc)))
limit_some (Some (suc most)) piece line more = refl

module _ (old begun : EngineView) (is : Stands old) (reads : is_read old.access ≡ true) (began : BeginOutcome old (Ok tt) begun) where
  -- it stands as each does
  begun_is : Stands begun
  begun_is = stands_begun old begun is began

  -- it is read
  begun_reads : is_read begun.access ≡ true
  begun_reads = ap (λ (engine : EngineView). is_read engine.access) began.1 ∙ reads

  -- its stream has what every reading needs
  begun_held : ReadsHeld (stream_of begun)
  begun_held = held_begun old begun is reads began

  -- told, the bytes held from the place on come next
  begun_told : WhereTold begun.raw (take (length (ahead_of begun.window)) (rest (file_of (stream_of begun))) ≡ ahead_of begun.window)
  begun_told tells = bytes_ahead (flat_over begun.raw.bytes begun.window) begun.window begun_is.window_is.cursor (holds_flat begun.access begun.raw.bytes begun.raw_place begun.window begun_reads begun_is.shape (begun_is.told tells begun_held.live))

  -- nothing is asked for
  pub none_asked : (call : FileCall) → asks_none (Some begun.window.size) call ≡ true → Answers (stream_of old) call (Bytes []) (stream_of begun)
  none_asked call asks = answers_from_begun old begun call (Bytes []) (stream_of begun) began (asks_nothing_answers (stream_of begun) call begun_held asks)

  -- there was no memory
  pub lacks : (call : FileCall) → is_reading call ≡ true → has_room call ≡ false → Answers (stream_of old) call (Refused fault.NoMemory) (stream_of begun)
  lacks call reads room = answers_from_begun old begun call (Refused fault.NoMemory) (stream_of begun) began (reading_lacks (stream_of begun) call reads room begun_held)

  -- a reading of n bytes is given those held, which are as many
  pub sized_held : (new : EngineView) (call : FileCall) (size : ℕ) (part : List ℕ) → reads_on call ≡ true → ((left : List ℕ) → wanted_by call left ≡ take size left) → size ≤ length (ahead_of begun.window) → part ≡ take size (ahead_of begun.window) → new ≡ record begun { window = advanced (length part) begun.window } → Answers (stream_of old) call (reply_by call part) (stream_of new)
  sized_held new call size part on wants enough front same =
      let long : length part ≡ size = omega (arith, ap length front, length-take size (ahead_of begun.window), enough) in
      let gives : GivesHeld (stream_of begun) part (stream_of new) = gives_front begun new part size begun_is begun_reads begun_held.live front same in
      answers_from_begun old begun call (reply_by call part) (stream_of new) began
      (held_answers (stream_of begun) (stream_of new) call part begun_held on (wants part ∙ take_all size part (omega (arith, long))) (λ more. wants (part ++ more) ∙ (ap (λ (n : ℕ). take n (part ++ more)) (sym long) ∙ take-append_seam part more)) gives)

  -- n bytes are given
  pub size_held : (new : EngineView) (size : ℕ) (part : List ℕ) → size ≤ length (ahead_of begun.window) → part ≡ take size (ahead_of begun.window) → new ≡ record begun { window = advanced (length part) begun.window } → Answers (stream_of old) (Read (Some size)) (Bytes part) (stream_of new)
  size_held new size part enough front same = sized_held new (Read (Some size)) size part refl (λ left. refl) enough front same

  -- they are copied into a buffer
  pub into_held : (new : EngineView) (size count : ℕ) (buffer : List ℕ) → size ≤ length (ahead_of begun.window) → count ≡ min (length (ahead_of begun.window)) size → take count buffer ≡ take count (ahead_of begun.window) → new ≡ record begun { window = advanced count begun.window } → Answers (stream_of old) (ReadInto size) (Bytes (take count buffer)) (stream_of new)
  into_held new size count buffer enough least front same =
      let all : count ≡ size = omega (arith, least, enough) in
      let part : take count buffer ≡ take size (ahead_of begun.window) = front ∙ ap (λ (n : ℕ). take n (ahead_of begun.window)) all in
      let long : length (take count buffer) ≡ count = omega (arith, ap length part, length-take size (ahead_of begun.window), enough, all) in
      sized_held new (ReadInto size) size (take count buffer) refl (λ left. refl) enough part (same ∙ ap (λ (n : ℕ). record begun { window = advanced n begun.window }) (sym long))

  -- what is wanted is given, where the bytes held have it
  held_given : (new : EngineView) (call : FileCall) (used : ℕ) (piece part : List ℕ) → reads_on call ≡ true → piece ≡ ahead_of begun.window → HasEnough (wanted_by call) [] piece used part → new ≡ record begun { window = advanced (length part) begun.window } → Answers (stream_of old) call (reply_by call part) (stream_of new)
  held_given new call used piece part on lent enough same =
      let left : List ℕ = rest (file_of (stream_of begun)) in
      let gives : GivesHeld (stream_of begun) part (stream_of new) = gives_front begun new part used begun_is begun_reads begun_held.live (enough.takes ∙ ap (take used) lent) same in
      let behind : List ℕ = drop (length (ahead_of begun.window)) left in
      answers_from_begun old begun call (reply_by call part) (stream_of new) began
      (held_answers_told (stream_of begun) (stream_of new) call part begun_held on enough.alone
      (λ tells. ap (wanted_by call) (sym (take-append-drop (length (ahead_of begun.window)) left) ∙ (ap (λ (bytes : List ℕ). bytes ++ behind) (begun_told tells ∙ sym lent))) ∙ enough.exact behind) gives)

  -- lines are given that are above the hint among the bytes held
  pub lines_held : (new : EngineView) (hint : Option ℕ) (used : ℕ) (piece : List ℕ) (lines : List (List ℕ)) → piece ≡ ahead_of begun.window → HasEnough (wanted_by (ReadLines hint)) [] piece used (joined lines) → lines_of (joined lines) ≡ lines → new ≡ record begun { window = advanced used begun.window } → Answers (stream_of old) (ReadLines hint) (Lines lines) (stream_of new)
  lines_held new hint used piece lines lent enough cut same =
      let long : used ≡ length (joined lines) = omega (arith, ap length enough.takes, length-take used piece, enough.fits) in
      subst (λ (given : List (List ℕ)). Answers (stream_of old) (ReadLines hint) (Lines given) (stream_of new)) cut
      (held_given new (ReadLines hint) used piece (joined lines) refl lent enough (same ∙ ap (λ (n : ℕ). record begun { window = advanced n begun.window }) long))

  -- a line is given that ends among the bytes held
  pub line_held : (new : EngineView) (limit : Option ℕ) (used : ℕ) (piece line : List ℕ) → piece ≡ ahead_of begun.window → EndsIn (record { line = []; limit = limit }) piece (Some used) → line ≡ take used (ahead_of begun.window) → new ≡ record begun { window = advanced (length line) begun.window } → Answers (stream_of old) (ReadLine limit) (Bytes line) (stream_of new)
  line_held new limit used piece line lent ends front same = held_given new (ReadLine limit) used piece line refl lent (subst (HasEnough (wanted_by (ReadLine limit)) [] piece used) (sym (front ∙ ap (take used) (sym lent))) ends.0) same

  -- the bytes held don't answer a call by themselves that wants more than these
  held_past : (call : FileCall) (piece : List ℕ) → reads_on call ≡ true → piece ≡ ahead_of begun.window → WantsPast (wanted_by call) piece → InHandOf (stream_of begun) call → ⊥
  held_past call piece on lent past has =
      wants_past (wanted_by call) (stream_of begun) piece past (omega (arith, ap length lent, length-drop begun.window.cursor begun.window.held))
      (λ tells. subst (λ (bytes : List ℕ). take (length bytes) (rest (file_of (stream_of begun))) ≡ bytes) (sym lent) (begun_told tells)) (in_hand_held (stream_of begun) call on has)

  -- a line has to go to the raw that goes on after all bytes held
  pub line_goes : (limit : Option ℕ) (piece : List ℕ) → piece ≡ ahead_of begun.window → EndsIn (record { line = []; limit = limit }) piece None → GoesToRaw (stream_of begun) (ReadLine limit)
  line_goes limit piece lent ends = let more : WantsMore (wanted_by (ReadLine limit)) [] piece piece = ends.0 in record {
    reads = refl;
    some = limit_some limit piece piece more;
    apart = λ hand. held_past (ReadLine limit) piece refl lent more.asks hand.of;
  }

  -- lines have to go to the raw that aren't above the hint among the bytes held
  pub lines_go : (hint : Option ℕ) (piece : List ℕ) → piece ≡ ahead_of begun.window → WantsPast (wanted_by (ReadLines hint)) piece → GoesToRaw (stream_of begun) (ReadLines hint)
  lines_go hint piece lent past = record { reads = refl; some = refl; apart = λ hand. held_past (ReadLines hint) piece refl lent past hand.of }

  -- a call by one transfer is given some of the bytes held
  pub once_given : (new : EngineView) (call : FileCall) (size : ℕ) (part : List ℕ) → is_single call ≡ true → moves_by call (length part) ≡ length part → asks_for begun.window.size call ≡ size → size ≢ 0 → (0 < length (ahead_of begun.window)) × (FlushesFirst (stream_of begun) call → (stream_of begun).owed.bytes ≡ []) → part ≡ take size (ahead_of begun.window) → new ≡ record begun { window = advanced (length part) begun.window } → Answers (stream_of old) call (Bytes part) (stream_of new)
  once_given new call size part single moves asked asks ready front same =
      let least : length part ≡ min size (length (ahead_of begun.window)) = ap length front ∙ length-take size (ahead_of begun.window) in
      answers_from_begun old begun call (Bytes part) (stream_of new) began
      (held_answers_once (stream_of begun) (stream_of new) call part begun_held ready.1 single moves (λ none. omega (arith, ap length none, least, asks, ready.0)) (omega (arith, least, asked)) (gives_front begun new part size begun_is begun_reads begun_held.live front same))

  -- the bytes held are shown
  pub held_shown : 0 < length (ahead_of begun.window) → Answers (stream_of old) Peek (Bytes (ahead_of begun.window)) (stream_of begun)
  held_shown some = answers_from_begun old begun Peek (Bytes (ahead_of begun.window)) (stream_of begun) began (held_peek (stream_of begun) (ahead_of begun.window) begun_held (λ none. omega (arith, some, ap length none)) (omega (arith, length-drop begun.window.cursor begun.window.held)) begun_told)

-- what a reading of n bytes answers that goes on once all was passed on
pub size_on : (old begun mid new : EngineView) (size many : ℕ) (done : Bool) (reply : FileReply) → Stands old → BeginOutcome old (Ok tt) begun → length (ahead_of begun.window) < size → done ≡ true → GoesAhead begun (Ok done) mid → IsReading new → many ≡ size → AnswersSized (reading_of mid) many reply (reading_of new) → Answers (stream_of old) (Read (Some size)) reply (stream_of new)
size_on old begun mid new size many done reply is began more all went reads same answers =
    went_on old begun (Read (Some size)) began (size_goes begun size (stands_begun old begun is began).window_is more) mid new done reply all went reads (λ wanting first. answers.readinto.wants wanting refl)
    (subst (λ (n : ℕ). Answers (reading_of mid) (Read (Some n)) reply (reading_of new)) same answers.read)

-- Calls by one transfer.

-- an engine begins as it is that lives, and whose last answer wasn't short
pub begun_self : (engine : EngineView) → engine.life ≡ life.Live → engine.short ≡ false → BeginOutcome engine (Ok tt) engine
begun_self engine live whole = (live, ap (λ (short : Bool). let same : EngineView = record engine { short = short } in same) whole)

-- they take no space first
single_space : (call : FileCall) → is_single call ≡ true → IsTrue (takes_space_first call) → ⊥
single_space call single first = grind arith

-- one has to go to the raw that asks for some byte, where no byte is held or some is owed
pub once_goes : (engine : EngineView) (call : FileCall) → is_single call ≡ true → asks_nothing call ≡ false → FlushesFirst (stream_of engine) call → (0 < length (ahead_of engine.window) → (stream_of engine).owed.bytes ≡ [] → ⊥) → GoesToRaw (stream_of engine) call
once_goes engine call single some first apart = record { reads = single_reads call single; some = some; apart = λ has. once_apart engine call single first has.of apart }

-- an engine reads on whose one transfer failed
failed_reads : (old new : EngineView) (why : IoFault) → IsReading old → ReadyOutcome old (Err why) new → IsReading new
failed_reads old new fault.RawFault is fails = fails.0.kept.is
failed_reads old new fault.NoMemory is wants = subst IsReading (sym wants.1) is
failed_reads old new why is never = absurd never

-- the bytes held answer a call that needn't pass on first
pub some_now : (engine : EngineView) (wanted : ℕ) → Stands engine → is_read engine.access ≡ true → BeginOutcome engine (Ok tt) engine → wanted ≢ 0 → 0 < length (ahead_of engine.window) → AnswersSome engine wanted engine
some_now engine wanted is reads began asks some = record {
  reads = reads;
  readinto1 = once_given engine engine is reads began (gave wanted engine) (ReadInto1 wanted) wanted (take wanted (ahead_of engine.window)) refl refl refl asks (some, λ none. absurd (omega (arith, some, none, length-drop engine.window.cursor engine.window.held))) refl refl;
  look = λ _. held_shown engine engine is reads began some;
}

-- the bytes held answer at once
pub once_now : (engine : EngineView) (wanted : ℕ) → Stands engine → is_read engine.access ≡ true → BeginOutcome engine (Ok tt) engine → wanted ≢ 0 → (0 < length (ahead_of engine.window)) × ((stream_of engine).owed.bytes ≡ []) → AnswersOnce engine wanted engine
once_now engine wanted is reads began asks ready = record {
  live = began.0;
  reads = reads;
  some = λ _. some_now engine wanted is reads began asks ready.0;
  read1 = λ size same. once_given engine engine is reads began (gave wanted engine) (Read1 size) wanted (take wanted (ahead_of engine.window)) refl refl same asks (ready.0, λ _. ready.1) refl refl;
  lacks = λ size same. lacks engine engine is reads began (Read1 size) refl refl;
}

module _ (old went_to : EngineView) (began : BeginOutcome old (Ok tt) old) (apart : 0 < length (ahead_of old.window) → (stream_of old).owed.bytes ≡ [] → ⊥) (went : WentAhead old went_to) where
  -- it begins again where all was passed on
  begun_ahead : BeginOutcome went_to (Ok tt) went_to
  begun_ahead = begun_self went_to went.live went.whole

  -- what a call answers from there
  once_on : (new : EngineView) (call : FileCall) (reply : FileReply) → is_single call ≡ true → asks_nothing call ≡ false → FlushesFirst (stream_of old) call → IsReading new → Answers (reading_of went_to) call reply (reading_of new) → Answers (stream_of old) call reply (stream_of new)
  once_on new call reply single some first reads answers = went_on old old call began (once_goes old call single some first apart) went_to new true reply refl went reads (λ wanting takes. absurd (single_space call single takes)) answers

  -- its one transfer failed
  pub once_not : (new : EngineView) (wanted : ℕ) (why : IoFault) → ReadyOutcome went_to (Err why) new → OnceOutcome old wanted (Err why) new
  once_not new wanted why fails call single some first = once_on new call (Refused why) single some first (failed_reads went_to new why went.reads fails) (once_failed went_to went_to new call why single some went.reads begun_ahead fails)

  -- it has its answer, or the raw made it wait
  pub once_ready : (mid new : EngineView) (wanted : ℕ) (stop : Stop) (shown : Bool) → wanted ≢ 0 → ReadyOutcome went_to (Ok stop) mid → shown ≡ has_answer stop true → new ≡ record mid { short = is_wait stop } → OnceOutcome old wanted (Ok shown) new
  once_ready mid new wanted stop false asks ready shows new_is =
      λ call single some first. once_on new call NotReady single some first (answered_reads went_to mid new stop ready new_is) (once_unready went_to went_to mid new call stop single some went.reads begun_ahead ready (sym shows) new_is)
  once_ready mid new wanted stop true asks ready shows new_is =
      let reads : IsReading new = answered_reads went_to mid new stop ready new_is in
      let part : List ℕ = take wanted (ahead_of new.window) in
      let gave_reads : IsReading (gave wanted new) = advanced_reads new (gave wanted new) (length part) reads (omega (arith, length-take wanted (ahead_of new.window))) refl in
      record {
        live = ap (λ (engine : EngineView). engine.life) new_is ∙ (moved_to_ready went_to mid stop ready).0.live;
        some = λ none. record {
          reads = reads.reads;
          readinto1 = once_on (gave wanted new) (ReadInto1 wanted) (Bytes part) refl (asks_some old.window.size (ReadInto1 wanted) refl asks) none gave_reads
              (once_held went_to went_to mid new (gave wanted new) (ReadInto1 wanted) stop part refl (asks_some old.window.size (ReadInto1 wanted) refl asks) went.reads begun_ahead ready (sym shows) new_is refl refl);
          look = λ _. once_on new Peek (Bytes (ahead_of new.window)) refl refl none reads (once_looked went_to went_to mid new stop went.reads begun_ahead ready (sym shows) new_is);
        };
        reads = reads.reads;
        read1 = λ size same. once_on (gave wanted new) (Read1 size) (Bytes part) refl (asks_some old.window.size (Read1 size) refl (λ none. asks (sym same ∙ none))) tt gave_reads
            (once_held went_to went_to mid new (gave wanted new) (Read1 size) stop part refl (asks_some old.window.size (Read1 size) refl (λ none. asks (sym same ∙ none))) went.reads begun_ahead ready (sym shows) new_is
            (ap (λ (n : ℕ). take n (ahead_of new.window)) (sym (ap (unwrap_or size) went.size ∙ same))) refl);
        lacks = λ size same. once_on new (Read1 size) (Refused fault.NoMemory) refl (asks_some old.window.size (Read1 size) refl (λ none. asks (sym same ∙ none))) tt reads
            (once_starved went_to went_to mid new size stop (asks_some old.window.size (Read1 size) refl (λ none. asks (sym same ∙ none))) went.reads begun_ahead ready (sym shows) new_is);
      }

-- where no byte is held, every call by one transfer has to pass on first
flushes_all : (stream : Stream) (call : FileCall) → ahead stream ≡ 0 → FlushesFirst stream call
flushes_all stream (Read1 size) none = tt
flushes_all stream call none = none

-- a window that is used up holds none from the place on
pub used_up_ahead : (engine : EngineView) → ahead_of engine.window ≡ [] → ahead (stream_of engine) ≡ 0
used_up_ahead engine none = omega (arith, ap length none, length-drop engine.window.cursor engine.window.held)

-- where none was held, what comes of a passing on and one transfer answers a call that needn't pass on first
pub some_once : (old new : EngineView) (wanted : ℕ) (result : Result Bool IoFault) → ahead (stream_of old) ≡ 0 → OnceOutcome old wanted result new → SomeOutcome old wanted result new
some_once old new wanted (Ok true) none once = once.some none
some_once old new wanted (Ok false) none once = (none, once)
some_once old new wanted (Err why) none once = (none, once)

-- what stopped a call answers it, where no byte was held
pub some_stops : (old new : EngineView) (call : FileCall) (reply : FileReply) → is_single call ≡ true → asks_nothing call ≡ false → (ahead (stream_of old) ≡ 0) × AnswersFirst old reply new → Answers (stream_of old) call reply (stream_of new)
some_stops old new call reply single some stops = stops.1 call single some (flushes_all (stream_of old) call stops.0)

-- a `peek` that began
pub look_once : (old begun new : EngineView) (result : Result Bool IoFault) → BeginOutcome old (Ok tt) begun → SomeOutcome begun begun.window.size result new → Answers (stream_of old) Peek (look_reply result (ahead_of new.window)) (stream_of new)
look_once old begun new (Ok true) began some = answers_from_begun old begun Peek (Bytes (ahead_of new.window)) (stream_of new) began (some.look refl)
look_once old begun new (Ok false) began some = answers_from_begun old begun Peek NotReady (stream_of new) began (some_stops begun new Peek NotReady refl refl some)
look_once old begun new (Err why) began some = answers_from_begun old begun Peek (Refused why) (stream_of new) began (some_stops begun new Peek (Refused why) refl refl some)
