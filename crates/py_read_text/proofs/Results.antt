-- A call of a text that reads, from its parts.
use Rattle.std.proofs.Common.{◌≡◌, ℕ, max, inl, inr, ◌⊎◌, Bool, true, false, IsTrue, List, [], Option, Some, None, Result, Ok, Err, if◌then◌else◌, refl, sym, ap, ◌∙◌, subst, arith}
use Rattle.py_flat.specs.declared.fault.IoFault.{IoFault}
use Rattle.py_flat.specs.declared.fault.IoFault.TheVariants as fault
use Rattle.py_flat.specs.declared.life.Life.{Life}
use Rattle.py_flat.specs.declared.life.Life.TheVariants as life
use Rattle.py_flat.specs.FlatFile.{Abilities}
use Rattle.py_flat.specs.Causes.{Rose, rose, counted}
use Rattle.py_flat.specs.Calls.{FileReply, Refused}
use Rattle.py_flat.specs.AllowedStep.{raw_faulted, out_of_memory}
use Rattle.py_plain.specs.Units.{Unknown}
use Rattle.py_plain_text.specs.TextFile.{Front, TextFile, TextPlace, TextSettings}
use Rattle.py_plain_text.specs.TextOver.{TextOver}
use Rattle.py_plain_text.specs.TextCalls.{Read, ReadLine}
use Rattle.py_plain_text.specs.TextAllowed.{reaches_raw, TextFileStep}
use Rattle.py_raw.proofs.Telling.{tells_still}
use Rattle.py_stream.specs.Kinds.{says_fault, says_no_memory}
use Rattle.py_stream.specs.Buffer.{Buffer, WhereShown, flat_of}
use Rattle.py_held_text.specs.declared.wanted.Wanted.{Wanted}
use Rattle.py_held_text.specs.declared.wanted.Wanted.TheVariants.{Characters, Line}
use Rattle.py_read_text.specs.declared.looking.Gathered.{Gathered}
use Rattle.py_read_text.specs.declared.looking.Gathered.TheVariants as gathered
use Rattle.py_read_text.specs.declared.read_text.Answer.{Answer}
use Rattle.py_read_text.specs.Waiting.{ShowsAll}
use Rattle.py_read_text.specs.Ahead.{AsksAsNeeded, ReadsOn}
use Rattle.py_read_text.specs.TextState.{TextState}
use Rattle.py_read_text.specs.Owing.{IsJoined, given_by, WriteMovesBy, Starves, Closes}
use Rattle.py_read_text.specs.Answers.{refused_here, calls_nothing, may_read, IsReplyTo, IsComplete, IsShort, PlaceMoves, ReadsOneLine, WriteMoves, LifeMoves, settings_after, closes_again, WantsMemory, ClosesWithRaw, TextPasses, MovesByOwn, TextKeeps, TextHolds, TextBlames, TextTells, TextSeeks, Answers}
use Rattle.py_read_text.specs.Knowing.{TextView, place_of, over_of, state_of, shown_file}
use Rattle.py_read_text.specs.Reading.{call_of, asks_none, Calls, KeepsPlace, HoldsNothing, gathers_wait, GatherOutcome, GathersAsNeeded, Finishes, OnlyWhereWaits, WaitsOrLacks, reply_of, waited_in}
use Rattle.py_read_text.proofs.Steps.{accepts_here}
use Rattle.py_read_text.proofs.Owing.{passes_behind, owes_none, open_called}
use Rattle.py_read_text.proofs.Fronts.{lays_owed}

-- The same text.

abbrev file_at : List ℕ → Option Front → (at taken : ℕ) → Bool → Abilities → TextSettings → Life → TextFile
file_at bytes front at taken dirty can settings current = record { bytes = bytes; place = record { front = front; at = at; order = Unknown; taken = taken; dirty = dirty }; can = can; settings = settings; life = current }

pub same_file : (old new : TextView) → (flat_of new.buffer).bytes ≡ (flat_of old.buffer).bytes → new.buffer.can ≡ old.buffer.can → new.buffer.life ≡ old.buffer.life → KeepsPlace old new → shown_file new ≡ shown_file old
same_file old new bytes can current place =
    let was : List ℕ = (flat_of old.buffer).bytes in
    ap (λ (own : List ℕ). file_at own new.front new.at new.taken new.dirty new.buffer.can new.settings new.buffer.life) bytes
    ∙ (ap (λ (own : Option Front). file_at was own new.at new.taken new.dirty new.buffer.can new.settings new.buffer.life) place.front
    ∙ (ap (λ (own : ℕ). file_at was old.front own new.taken new.dirty new.buffer.can new.settings new.buffer.life) place.at
    ∙ (ap (λ (own : ℕ). file_at was old.front old.at own new.dirty new.buffer.can new.settings new.buffer.life) place.taken
    ∙ (ap (λ (own : Bool). file_at was old.front old.at old.taken own new.buffer.can new.settings new.buffer.life) place.dirty
    ∙ (ap (λ (own : Abilities). file_at was old.front old.at old.taken old.dirty own new.settings new.buffer.life) can
    ∙ (ap (λ (own : TextSettings). file_at was old.front old.at old.taken old.dirty old.buffer.can own new.buffer.life) place.settings
    ∙ ap (λ (own : Life). file_at was old.front old.at old.taken old.dirty old.buffer.can old.settings own) current))))))

pub same_place : (old new : TextView) → KeepsPlace old new → place_of new ≡ place_of old
same_place old new place = rw (place.front, place.at, place.taken, place.dirty) refl

-- What every reading of a live text has.

never_again : (asked : Wanted) (current : Life) → closes_again current (call_of asked) ≡ false
never_again (Characters size) current = refl
never_again (Line limit) current = refl

asks_so : (asked : Wanted) → calls_nothing (call_of asked) ≡ asks_none asked
asks_so asked = grind arith

wants_none : (asked : Wanted) (reply : FileReply) (buffer : Buffer) → WantsMemory (call_of asked) reply buffer
wants_none (Characters size) reply buffer = tt
wants_none (Line limit) reply buffer = tt

never_closes : (asked : Wanted) (current : Life) (before after : Buffer) (reply : FileReply) → ClosesWithRaw (call_of asked) before reply after × Closes current (call_of asked) before reply after
never_closes (Characters size) current before after reply = (tt, tt)
never_closes (Line limit) current before after reply = (tt, tt)

writes_no_place : (asked : Wanted) (from to : ℕ) → WriteMovesBy (call_of asked) 0 from to
writes_no_place (Characters size) from to = tt
writes_no_place (Line limit) from to = tt

reads_some : (asked : Wanted) → may_read (call_of asked) ≡ true
reads_some (Characters size) = refl
reads_some (Line limit) = refl

settings_so : (asked : Wanted) (reply : FileReply) (settings : TextSettings) → settings_after (call_of asked) reply settings ≡ settings
settings_so (Characters size) reply settings = refl
settings_so (Line limit) reply settings = refl

lives_so : (writes : Bool) (asked : Wanted) (reply : FileReply) (before after : Life) → after ≡ (if says_fault reply then life.Failed else before) → LifeMoves writes (call_of asked) reply before after
lives_so writes (Characters size) reply before after is = grind arith
lives_so writes (Line limit) reply before after is = grind arith

writes_none : (asked : Wanted) (before : TextOver Buffer) (reply : FileReply) (after : TextOver Buffer) → WriteMoves before (call_of asked) reply after
writes_none (Characters size) before reply after = tt
writes_none (Line limit) before reply after = tt

passes_none : (before : TextState) (asked : Wanted) (reply : FileReply) (after : TextState) → TextPasses before (call_of asked) reply after
passes_none before (Characters size) reply after = tt
passes_none before (Line limit) reply after = tt

moves_any : (asked : Wanted) (before after : TextOver Buffer) → MovesByOwn (call_of asked) before after
moves_any (Characters size) before after = tt
moves_any (Line limit) before after = tt

holds_any : (asked : Wanted) (before : TextOver Buffer) (reply : FileReply) (after : TextOver Buffer) → TextHolds before (call_of asked) reply after
holds_any (Characters size) before reply after = tt
holds_any (Line limit) before reply after = tt

keeps_any : (asked : Wanted) (reply : FileReply) (after : TextState) → TextKeeps (call_of asked) reply after
keeps_any (Characters size) reply after = tt
keeps_any (Line limit) reply after = tt

tells_none : (asked : Wanted) (reply : FileReply) (text : TextOver Buffer) → TextTells (call_of asked) reply text
tells_none (Characters size) reply text = tt
tells_none (Line limit) reply text = tt

seeks_none : (asked : Wanted) (reply : FileReply) (text : TextOver Buffer) (place : TextPlace) → TextSeeks (call_of asked) reply text place
seeks_none (Characters size) reply text place = tt
seeks_none (Line limit) reply text place = tt

completes : (asked : Wanted) (reply : FileReply) (short : Bool) (old new : Buffer) (writes : Bool) → IsReplyTo writes (call_of asked) reply → IsShort reply short → (IsTrue short → Rose old.raw.waits new.raw.waits) → (IsTrue (says_fault reply) → Rose old.raw.faults new.raw.faults) → rose old.raw.waits new.raw.waits ≡ false → rose old.raw.faults new.raw.faults ≡ false → IsComplete (call_of asked) reply short
completes (Characters size) reply short old new writes is shorts waits faults calm sound = grind arith
completes (Line limit) reply short old new writes is shorts waits faults calm sound = grind arith

-- the parts of a call: what was read, by whether it waited; and what was answered, short or not
pub record Parts (old : TextView) (asked : Wanted) (waited short : Bool) (reply : FileReply) (new : TextView) : Type 0 where
  pub was : IsJoined (over_of old)
  pub reads : Calls old.buffer waited (says_fault reply) new.buffer
  pub waits : IsTrue short → waited ≡ true
  pub quiet : short ≡ false → says_no_memory reply ≡ false → waited ≡ false
  pub nothing : asks_none asked ≡ true → new.buffer ≡ old.buffer
  pub settings : new.settings ≡ old.settings
  pub answer : (writes : Bool) → IsReplyTo writes (call_of asked) reply
  pub shorts : IsShort reply short
  pub place : PlaceMoves (call_of asked) short reply (place_of old) new.buffer.place (place_of new)
  pub lines : ReadsOneLine old.settings.newline (call_of asked) reply
  pub blames : TextBlames (call_of asked) reply old.settings (place_of old) new.buffer.place
  pub joined : IsJoined (over_of new)
  pub needs : GathersAsNeeded old asked new
  pub brings : ReadsOn old.buffer new.buffer
  pub told : WhereShown old.buffer (TextFileStep (shown_file old) (call_of asked) reply short (says_fault reply) (shown_file new))
  pub hides : IsTrue short → HoldsNothing new.buffer × WhereShown old.buffer (ShowsAll (shown_file new) new.buffer.place)

starved_place : (asked : Wanted) (short : Bool) (before after : TextPlace) (end : ℕ) → short ≡ false → PlaceMoves (call_of asked) short (Refused fault.NoMemory) before end after → after ≡ before
starved_place (Characters None) short before after end whole place = (subst (λ (own : Bool). PlaceMoves (Read None) own (Refused fault.NoMemory) before end after) whole place)
starved_place (Characters (Some size)) short before after end whole place = (subst (λ (own : Bool). PlaceMoves (Read (Some size)) own (Refused fault.NoMemory) before end after) whole place)
starved_place (Line limit) short before after end whole place = (subst (λ (own : Bool). PlaceMoves (ReadLine limit) own (Refused fault.NoMemory) before end after) whole place)

starves_so : (old new : TextView) (asked : Wanted) (waited short : Bool) (reply : FileReply) → Parts old asked waited short reply new → Starves (over_of old) (call_of asked) reply (over_of new)
starves_so old new asked waited short (Refused fault.NoMemory) parts = inl (record { life_is = parts.reads.life_is; settings = parts.settings; place = starved_place asked short (place_of old) (place_of new) new.buffer.place parts.shorts parts.place })
starves_so old new asked waited short reply parts = tt

counts_most : (waited : Bool) (old new : ℕ) → new ≡ (if waited then counted old 1 else old) → (new ≡ old) ⊎ (new ≡ counted old 1)
counts_most true old new is = inr is
counts_most false old new is = inl is

pub answers : (old new : TextView) (asked : Wanted) (waited short : Bool) (reply : FileReply) → old.buffer.life ≡ life.Live → old.buffer.can.readable ≡ true → Parts old asked waited short reply new → Answers (state_of old false) (call_of asked) reply (state_of new short)
answers old new asked waited short reply live can parts =
    let accepted : refused_here (shown_file old) (call_of asked) ≡ None = accepts_here (shown_file old) asked live can in
    let causes_wait : IsTrue short → Rose old.buffer.raw.waits new.buffer.raw.waits = λ is. parts.reads.wait (parts.waits is) in
    record {
      keeps = parts.reads.keeps;
      refused = λ why is. let never = sym accepted ∙ is in absurd (cc);
      again = λ is. let never = sym (never_again asked old.buffer.life) ∙ is in absurd (cc);
      causes = record { waits = causes_wait; faults = parts.reads.fault };
      counted = λ exact.
          let counts = parts.reads.waits exact in
          record {
            faults = λ sound. parts.reads.faults exact sound;
            ends = λ own. record {
              waits = λ whole has. counts ∙ ap (λ (own : Bool). if own then counted old.buffer.raw.waits 1 else old.buffer.raw.waits) (parts.quiet whole has);
              once = λ is. counts ∙ ap (λ (own : Bool). if own then counted old.buffer.raw.waits 1 else old.buffer.raw.waits) (parts.waits is);
              most = counts_most waited old.buffer.raw.waits new.buffer.raw.waits counts;
            };
          };
      shorts = parts.shorts;
      nothing = λ none. parts.nothing (sym (asks_so asked) ∙ none);
      moves = record {
        settings = parts.settings ∙ sym (settings_so asked reply old.settings);
        life_is = lives_so old.buffer.can.writable asked reply old.buffer.life new.buffer.life parts.reads.life_is;
        place = parts.place;
        written = writes_none asked (over_of old) reply (over_of new);
      };
      answer = λ accepts. parts.answer old.buffer.can.writable;
      complete = λ accepts calm sound. completes asked reply short old.buffer new.buffer old.buffer.can.writable (parts.answer old.buffer.can.writable) parts.shorts causes_wait parts.reads.fault calm sound;
      wants = wants_none asked reply old.buffer;
      lines = parts.lines;
      blames = parts.blames;
      tells = tells_none asked reply (over_of old);
      seeks = seeks_none asked reply (over_of old) (place_of new);
      joined = parts.joined;
      owes = owes_none (over_of old) (call_of asked) (over_of new) (writes_no_place asked old.at new.at) (passes_behind old.buffer.raw new.buffer.raw old.buffer.owed.bytes new.buffer.owed.bytes [] parts.reads.passes);
      lays = λ told. lays_owed (over_of old) (given_by old.settings (call_of asked)) new.buffer.raw.bytes parts.was (parts.reads.lays parts.was.below told);
      starves = starves_so old new asked waited short reply parts;
      closes = (never_closes asked old.buffer.life old.buffer new.buffer reply).1;
      stays = λ is. open_called old.buffer new.buffer (says_fault reply) live parts.reads.life_is parts.reads.stays;
      unclosed = λ some closed. parts.reads.stays closed;
      shut = λ own. (never_closes asked old.buffer.life old.buffer new.buffer reply).0;
      spares = parts.reads.spares;
      tied = record { owed = λ can. refl; life_is = λ can was had. refl };
      stands = parts.reads.stands;
      told = parts.told;
      needs = λ gives. parts.needs;
      brings = λ gives. parts.brings;
      hides = λ is gives own. let hidden = parts.hides is in record { empty = hidden.0; shows = hidden.1 };
      stops = λ is. record { full = λ some. absurd (some refl); some = λ none own. let never = sym (reads_some asked) ∙ none in absurd (cc) };
      passes = passes_none (state_of old false) asked reply (state_of new short);
      by_own = moves_any asked (over_of old) (over_of new);
      kept = keeps_any asked reply (state_of new short);
      holds = holds_any asked (over_of old) reply (over_of new);
    }

-- A call that stopped before anything was answered.

pub reaches : (file : TextFile) (asked : Wanted) → file.life ≡ life.Live → file.can.readable ≡ true → IsTrue (reaches_raw file (call_of asked))
reaches file (Characters size) live can = rw live (rw can refl)
reaches file (Line limit) live can = rw live (rw can refl)

stops_place : (asked : Wanted) (why : IoFault) (old new : TextView) (far : ℕ) → KeepsPlace old new → PlaceMoves (call_of asked) false (Refused why) (place_of old) far (place_of new)
stops_place (Characters None) why old new far place = same_place old new place
stops_place (Characters (Some size)) why old new far place = same_place old new place
stops_place (Line limit) why old new far place = same_place old new place

stopped_lines : (asked : Wanted) (why : IoFault) (newline : _) → ReadsOneLine newline (call_of asked) (Refused why)
stopped_lines (Characters size) why newline = tt
stopped_lines (Line limit) why newline = tt

fault_blames : (asked : Wanted) (settings : TextSettings) (place : TextPlace) (far : ℕ) → TextBlames (call_of asked) (Refused fault.RawFault) settings place far
fault_blames (Characters size) settings place far = tt
fault_blames (Line limit) settings place far = tt

starved_blames : (asked : Wanted) (settings : TextSettings) (place : TextPlace) (far : ℕ) → TextBlames (call_of asked) (Refused fault.NoMemory) settings place far
starved_blames (Characters size) settings place far = tt
starved_blames (Line limit) settings place far = tt

faults_reply : (asked : Wanted) (writes : Bool) → IsReplyTo writes (call_of asked) (Refused fault.RawFault)
faults_reply (Characters size) writes = tt
faults_reply (Line limit) writes = tt

starves_reply : (asked : Wanted) (writes : Bool) → IsReplyTo writes (call_of asked) (Refused fault.NoMemory)
starves_reply (Characters size) writes = tt
starves_reply (Line limit) writes = tt

pub faults_step : (file after : TextFile) (asked : Wanted) → file.life ≡ life.Live → file.can.readable ≡ true → after.life ≡ life.Failed → after.bytes ≡ file.bytes → after.can ≡ file.can → after.settings ≡ file.settings → TextFileStep file (call_of asked) (Refused fault.RawFault) false true after
faults_step file after (Characters size) live can failed bytes abilities settings = raw_faulted refl refl (reaches file (Characters size) live can, (0, omega arith, record { life_is = failed; bytes_are = bytes; can = abilities; settings = settings }))
faults_step file after (Line limit) live can failed bytes abilities settings = raw_faulted refl refl (reaches file (Line limit) live can, (0, omega arith, record { life_is = failed; bytes_are = bytes; can = abilities; settings = settings }))

pub starves_step : (file after : TextFile) (asked : Wanted) → file.life ≡ life.Live → file.can.readable ≡ true → after ≡ file → TextFileStep file (call_of asked) (Refused fault.NoMemory) false false after
starves_step file after (Characters size) live can same = out_of_memory refl (inl (rw live (rw can refl), same))
starves_step file after (Line limit) live can same = out_of_memory refl (inl (rw live (rw can refl), same))

pub stopped : (old new : TextView) (asked : Wanted) (why : IoFault) → old.buffer.life ≡ life.Live → old.buffer.can.readable ≡ true → IsJoined (over_of old) → IsJoined (over_of new) → KeepsPlace old new → (asks_none asked ≡ true → new.buffer ≡ old.buffer) → GathersAsNeeded old asked new → ReadsOn old.buffer new.buffer → GatherOutcome old asked (Err why) new → Answers (state_of old false) (call_of asked) (Refused why) (state_of new false)
stopped old new asked fault.RawFault live can was joined place nothing needs brings outcome =
    let reads = outcome.0 in
    answers old new asked false false (Refused fault.RawFault) live can (record {
      was = was;
      reads = reads;
      waits = λ is. absurd (cc);
      quiet = λ whole has. refl;
      nothing = nothing;
      settings = place.settings;
      answer = faults_reply asked;
      shorts = refl;
      place = stops_place asked fault.RawFault old new new.buffer.place place;
      lines = stopped_lines asked fault.RawFault old.settings.newline;
      blames = fault_blames asked old.settings (place_of old) new.buffer.place;
      joined = joined;
      needs = needs;
      brings = brings;
      told = λ told. faults_step (shown_file old) (shown_file new) asked live can reads.life_is (reads.bytes told) reads.keeps.can place.settings;
      hides = λ is. absurd (cc);
    })
stopped old new asked fault.NoMemory live can was joined place nothing needs brings outcome =
    let reads = outcome.0 in
    answers old new asked false false (Refused fault.NoMemory) live can (record {
      was = was;
      reads = reads;
      waits = λ is. absurd (cc);
      quiet = λ whole has. refl;
      nothing = nothing;
      settings = place.settings;
      answer = starves_reply asked;
      shorts = refl;
      place = stops_place asked fault.NoMemory old new new.buffer.place place;
      lines = stopped_lines asked fault.NoMemory old.settings.newline;
      blames = starved_blames asked old.settings (place_of old) new.buffer.place;
      joined = joined;
      needs = needs;
      brings = brings;
      told = λ told. starves_step (shown_file old) (shown_file new) asked live can (same_file old new (reads.bytes told) reads.keeps.can reads.life_is place);
      hides = λ is. absurd (cc);
    })
stopped old new asked other live can was joined place nothing needs brings outcome = absurd outcome.1

-- A call that was answered.

waits_only : (stop : Gathered) (short : Bool) → OnlyWhereWaits stop short → IsTrue short → gathers_wait (Ok stop) ≡ true
waits_only gathered.Waits short only is = refl
waits_only (gathered.Enough front) short only is = absurd (cc)
waits_only (gathered.Before front) short only is = absurd (cc)
waits_only (gathered.Refuses start end) short only is = absurd (cc)
waits_only gathered.Ends short only is = absurd (cc)

quiet_so : (stop : Gathered) (result : Result Answer IoFault) → WaitsOrLacks stop result → waited_in result ≡ false → says_no_memory (reply_of result) ≡ false → gathers_wait (Ok stop) ≡ false
quiet_so gathered.Waits result lacks whole has = let wants = lacks whole in absurd (cc)
quiet_so (gathered.Enough front) result lacks whole has = refl
quiet_so (gathered.Before front) result lacks whole has = refl
quiet_so (gathered.Refuses start end) result lacks whole has = refl
quiet_so gathered.Ends result lacks whole has = refl

pub finished : (old mid new : TextView) (asked : Wanted) (stop : Gathered) (result : Result Answer IoFault) → old.buffer.life ≡ life.Live → old.buffer.can.readable ≡ true → IsJoined (over_of old) → IsJoined (over_of new) → KeepsPlace old mid → (asks_none asked ≡ true → mid.buffer ≡ old.buffer) → GathersAsNeeded old asked mid → ReadsOn old.buffer mid.buffer → GatherOutcome old asked (Ok stop) mid → OnlyWhereWaits stop (waited_in result) → WaitsOrLacks stop result → Finishes mid asked result new → Answers (state_of old false) (call_of asked) (reply_of result) (state_of new (waited_in result))
finished old mid new asked stop result live can was joined place nothing needs brings outcome only lacks done =
    let reads : Calls old.buffer (gathers_wait (Ok stop)) false new.buffer = subst (Calls old.buffer (gathers_wait (Ok stop)) false) (sym done.buffer) outcome.0 in
    let same : WhereShown old.buffer (shown_file mid ≡ shown_file old) = λ told. same_file old mid (outcome.0.bytes told) outcome.0.keeps.can outcome.0.life_is place in
    let tells_mid = tells_still old.buffer.raw mid.buffer.raw outcome.0.keeps.raw in
    answers old new asked (gathers_wait (Ok stop)) (waited_in result) (reply_of result) live can (record {
      was = was;
      reads = subst (λ (faulted : Bool). Calls old.buffer (gathers_wait (Ok stop)) faulted new.buffer) (sym done.sound) reads;
      waits = λ is. waits_only stop (waited_in result) only is;
      quiet = λ whole has. quiet_so stop result lacks whole has;
      nothing = λ none. done.buffer ∙ nothing none;
      settings = done.settings ∙ place.settings;
      answer = done.answer;
      shorts = done.shorts;
      place = subst (λ (own : TextPlace). PlaceMoves (call_of asked) (waited_in result) (reply_of result) own new.buffer.place (place_of new)) (same_place old mid place)
          (subst (λ (buffer : Buffer). PlaceMoves (call_of asked) (waited_in result) (reply_of result) (place_of mid) buffer.place (place_of new)) (sym done.buffer) done.place);
      lines = subst (λ (settings : TextSettings). ReadsOneLine settings.newline (call_of asked) (reply_of result)) place.settings done.lines;
      blames = subst (λ (settings : TextSettings). TextBlames (call_of asked) (reply_of result) settings (place_of old) new.buffer.place) place.settings
          (subst (λ (own : TextPlace). TextBlames (call_of asked) (reply_of result) mid.settings own new.buffer.place) (same_place old mid place)
          (subst (λ (buffer : Buffer). TextBlames (call_of asked) (reply_of result) mid.settings (place_of mid) buffer.place) (sym done.buffer) done.blames));
      joined = joined;
      needs = λ told. subst (λ (buffer : Buffer). AsksAsNeeded (shown_file old) (call_of asked) old.settings.chunk_size (max old.buffer.place old.at) buffer.place) (sym done.buffer) (needs told);
      brings = subst (ReadsOn old.buffer) (sym done.buffer) brings;
      told = λ told. subst (λ (faulted : Bool). TextFileStep (shown_file old) (call_of asked) (reply_of result) (waited_in result) faulted (shown_file new)) (sym done.sound)
          (subst (λ (file : TextFile). TextFileStep file (call_of asked) (reply_of result) (waited_in result) false (shown_file new)) (same told) (done.told (tells_mid ∙ told)));
      hides = λ is. let hidden = done.hides is in (hidden.0, λ told. hidden.1 (tells_mid ∙ told));
    })
