-- A call of a text that is refused leaves all as it was.
use Rattle.std.proofs.Common.{◌≡◌, ◌≢◌, zero, suc, true, nat_eq, pos, ℕ, inl, Bool, false, List, Option, Some, None, Result, Ok, Err, refl, sym, ap, ◌∙◌, subst, arith}
use Rattle.std.proofs.lemmas.Bool.Decides.{nat_tests}
use Rattle.py_flat.specs.declared.fault.IoFault.{IoFault}
use Rattle.py_flat.specs.declared.fault.IoFault.TheVariants as fault
use Rattle.py_flat.specs.declared.life.Life.{Life}
use Rattle.py_flat.specs.declared.life.Life.TheVariants as life
use Rattle.py_flat.specs.Calls.{FileReply, Done, Refused}
use Rattle.py_flat.specs.Refusals.{or_else, refused_if, life_fault}
use Rattle.py_flat.specs.AllowedStep.{settled}
use Rattle.py_flat.proofs.Settling.{blames}
use Rattle.py_plain_text.specs.TextFile.{TextFile, TextPlace, TextSettings}
use Rattle.py_plain_text.specs.TextOver.{TextOver}
use Rattle.py_plain_text.specs.TextCalls.{TextFileCall, Read, ReadLine, WriteText, SeekText, Tell, Reconfigure, SetChunkSize, Flush, Close, Detach, OtherKind}
use Rattle.py_plain_text.specs.TextRefusals.{life_refusal, lacks, cookie_refusal, end_refusal, refusal}
use Rattle.py_plain_text.specs.TextExact.{with_chunk_size}
use Rattle.py_plain_text.specs.TextAllowed.{SettledBy, TextFileStep}
use Rattle.py_raw.proofs.Telling.{keeps_same}
use Rattle.py_stream.specs.Kinds.{says_fault}
use Rattle.py_stream.specs.Replies.{count_reply, done_reply}
use Rattle.py_stream.specs.Buffer.{Buffer}
use Rattle.py_held_text.specs.declared.wanted.Wanted.{Wanted}
use Rattle.py_held_text.specs.declared.wanted.Wanted.TheVariants.{Characters, Line}
use Rattle.py_read_text.specs.TextState.{TextState}
use Rattle.py_read_text.specs.Owing.{all_owed, IsJoined, Starves, Closes}
use Rattle.py_read_text.specs.Answers.{refused_here, IsShort, PlaceMoves, ReadsOneLine, WriteMoves, LifeMoves, settings_after, closes_again, WantsMemory, ClosesWithRaw, TextPasses, TextKeeps, TextHolds, TextBlames, TextTells, TextSeeks, Answers}
use Rattle.py_read_text.specs.Reading.{call_of}
use Rattle.py_read_text.proofs.Owing.{passes_none, moves_none, owes_none, open_still}
use Rattle.py_read_text.proofs.Steps.{accepts, refused_so}
use Rattle.py_textio.specs.Written.{WrittenView, place_now, over_of, state_of, file_now}
use Rattle.py_textio.proofs.Faults.{IsOwn, own_refusal}
use Rattle.py_textio.proofs.Over.{stays_put}
use Rattle.py_read_text.proofs.Fronts.{lays_still}

whole_refused : (why : IoFault) → blames why ≡ false → IsShort (Refused why) false
whole_refused (fault.WouldBlock taken) own = absurd (cc)
whole_refused why own = refl

quiet_refused : (why : IoFault) → blames why ≡ false → says_fault (Refused why) ≡ false
quiet_refused fault.RawFault own = absurd (cc)
quiet_refused why own = refl

life_refused : (writes : Bool) (call : TextFileCall) (why : IoFault) (current : Life) → blames why ≡ false → LifeMoves writes call (Refused why) current current
life_refused writes call fault.RawFault current own = absurd (cc)
life_refused writes call fault.NoMemory current own = inl refl
life_refused writes Close why current own = refl
life_refused writes call why current own = refl

written_refused : (text : TextOver Buffer) (call : TextFileCall) (why : IoFault) → blames why ≡ false → WriteMoves text call (Refused why) text
written_refused text (WriteText written) (fault.WouldBlock taken) own = absurd (cc)
written_refused text (WriteText written) fault.RawFault own = absurd (cc)
written_refused text (WriteText written) fault.NoMemory own = inl (refl, refl)
written_refused text (WriteText written) why own = refl
written_refused text call why own = tt

keeps_refused : (call : TextFileCall) (why : IoFault) (after : TextState) → TextKeeps call (Refused why) after
keeps_refused (WriteText text) why after = tt
keeps_refused call why after = tt

settings_refused : (call : TextFileCall) (why : IoFault) (settings : TextSettings) → settings ≡ settings_after call (Refused why) settings
settings_refused (Reconfigure changes) why settings = refl
settings_refused (SetChunkSize size) why settings = refl
settings_refused call why settings = refl

place_refused : (call : TextFileCall) (why : IoFault) (place : TextPlace) (far : ℕ) → PlaceMoves call false (Refused why) place far place
place_refused (Read None) why place far = refl
place_refused (Read (Some size)) why place far = refl
place_refused (ReadLine limit) why place far = refl
place_refused (WriteText text) why place far = tt
place_refused (SeekText sought whence) why place far = tt
place_refused call why place far = refl

wants_refused : (call : TextFileCall) (why : IoFault) (buffer : Buffer) → blames why ≡ false → WantsMemory call (Refused why) buffer
wants_refused Flush fault.NoMemory buffer own = absurd (cc)
wants_refused Flush why buffer own = tt
wants_refused Close fault.NoMemory buffer own = absurd (cc)
wants_refused Close why buffer own = tt
wants_refused Detach fault.NoMemory buffer own = absurd (cc)
wants_refused Detach why buffer own = tt
wants_refused call why buffer own = tt

shut_refused : (call : TextFileCall) (why : IoFault) (buffer : Buffer) → ClosesWithRaw call buffer (Refused why) buffer
shut_refused Close why buffer = record { shut = λ whole none closed. closed; parted = λ parts. refl }
shut_refused call why buffer = tt

starves_refused : (text : TextOver Buffer) (call : TextFileCall) (why : IoFault) → Starves text call (Refused why) text
starves_refused text call fault.NoMemory = inl (record { life_is = refl; settings = refl; place = refl })
starves_refused text call why = tt

closes_refused : (current : Life) (call : TextFileCall) (why : IoFault) (buffer : Buffer) → Closes current call buffer (Refused why) buffer
closes_refused current Close fault.RawFault buffer = λ was. was
closes_refused current Close why buffer = tt
closes_refused current call why buffer = tt

step_refused : (file : TextFile) (call : TextFileCall) (why : IoFault) → refusal file call ≡ Some why → TextFileStep file call (Refused why) false false file
step_refused file call why is = settled (subst (λ (refused : Option IoFault). SettledBy file call refused (Refused why) file) (sym is) (refl, refl))

-- What refuses a reading.

by_life : (file : TextFile) (asked : Wanted) (current : Life) (why : IoFault) → file.life ≡ current → life_fault current ≡ Some why → refusal file (call_of asked) ≡ Some why
by_life file asked life.Live why is refuses = absurd (cc)
by_life file (Characters size) life.Failed why is refuses = rw is refuses
by_life file (Characters size) life.Closed why is refuses = rw is refuses
by_life file (Characters size) life.Detached why is refuses = rw is refuses
by_life file (Line limit) life.Failed why is refuses = rw is refuses
by_life file (Line limit) life.Closed why is refuses = rw is refuses
by_life file (Line limit) life.Detached why is refuses = rw is refuses

unread : (file : TextFile) (asked : Wanted) → file.life ≡ life.Live → file.can.readable ≡ false → refusal file (call_of asked) ≡ Some fault.Unsupported
unread file (Characters size) live can = rw live (rw can refl)
unread file (Line limit) live can = rw live (rw can refl)

-- whether a fault is that of a refused range
abbrev of_range : IoFault → Bool
of_range (fault.UnicodeDecodeError start end) = true
of_range why = false

same_range : (one other : IoFault) → Some one ≡ Some other → of_range one ≡ false → of_range other ≡ false
same_range one other same is = let own : one ≡ other = cc in ap of_range (sym own) ∙ is

-- what refuses a reading before its bytes are looked at is no refused range
refuses_no_range : (file : TextFile) (asked : Wanted) (current : Life) (readable : Bool) (why : IoFault) → file.life ≡ current → file.can.readable ≡ readable → refusal file (call_of asked) ≡ Some why → of_range why ≡ false
refuses_no_range file asked life.Live true why is can here = let never = sym (accepts file asked is can) ∙ here in absurd (cc)
refuses_no_range file asked life.Live false why is can here = same_range fault.Unsupported why (sym (unread file asked is can) ∙ here) refl
refuses_no_range file asked life.Failed readable why is can here = same_range fault.Failed why (sym (by_life file asked life.Failed fault.Failed is refl) ∙ here) refl
refuses_no_range file asked life.Closed readable why is can here = same_range fault.Closed why (sym (by_life file asked life.Closed fault.Closed is refl) ∙ here) refl
refuses_no_range file asked life.Detached readable why is can here = same_range fault.Detached why (sym (by_life file asked life.Detached fault.Detached is refl) ∙ here) refl

seeks_refused : (text : TextOver Buffer) (file : TextFile) (call : TextFileCall) (why : IoFault) → refusal file call ≡ Some why → TextSeeks call (Refused why) text text.place
seeks_refused text file (SeekText sought whence) fault.CannotRestore is = let never : true ≡ false = subst IsOwn is (own_refusal file (SeekText sought whence)) in absurd (cc)
seeks_refused text file (SeekText sought whence) (fault.WouldBlock taken) is = let never : true ≡ false = subst IsOwn is (own_refusal file (SeekText sought whence)) in absurd (cc)
seeks_refused text file (SeekText sought whence) fault.RawFault is = inl refl
seeks_refused text file (SeekText sought whence) fault.NoMemory is = inl refl
seeks_refused text file (SeekText sought whence) why is = refl
seeks_refused text file call why is = tt

-- what is refused before it does any work is no cookie that doesn't fit
passes_refused : (before : TextState) (file : TextFile) (call : TextFileCall) (why : IoFault) (after : TextState) → refusal file call ≡ Some why → TextPasses before call (Refused why) after
passes_refused before file (SeekText sought whence) fault.CannotRestore after is = let never : true ≡ false = subst IsOwn is (own_refusal file (SeekText sought whence)) in absurd (cc)
passes_refused before file (SeekText sought whence) why after is = tt
passes_refused before file (WriteText text) why after is = tt
passes_refused before file Flush why after is = tt
passes_refused before file Close why after is = tt
passes_refused before file Detach why after is = tt
passes_refused before file call why after is = tt

-- what refuses, where nothing or something more is looked at last
refuses_before : (first last more : Option IoFault) (why : IoFault) → (last ≡ Some why → more ≡ Some why) → or_else first last ≡ Some why → or_else first more ≡ Some why
refuses_before (Some other) last more why goes is = is
refuses_before None last more why goes is = goes is

-- what is refused before the buffer is asked for anything is refused
refused_too : (file : TextFile) (call : TextFileCall) (why : IoFault) → refused_here file call ≡ Some why → refusal file call ≡ Some why
refused_too file (SeekText sought (pos (suc (suc zero)))) why is =
    let call : TextFileCall = SeekText sought (pos 2) in
    refuses_before (life_refusal file.life call) _ _ why (refuses_before (refused_if (lacks file call) fault.Unsupported) _ _ why (refuses_before (cookie_refusal file sought) None (end_refusal file (pos 2)) why (λ never. absurd (cc)))) is
refused_too file (SeekText sought whence) why is = is
refused_too file call why is = is

lines_refused : (call : TextFileCall) (why : IoFault) (newline : _) → ReadsOneLine newline call (Refused why)
lines_refused (ReadLine limit) why newline = tt
lines_refused call why newline = tt

blames_refused : (file : TextFile) (call : TextFileCall) (why : IoFault) (settings : TextSettings) (place : TextPlace) (far : ℕ) → refusal file call ≡ Some why → TextBlames call (Refused why) settings place far
blames_refused file (Read size) (fault.UnicodeDecodeError start end) settings place far is = let never = refuses_no_range file (Characters size) file.life file.can.readable (fault.UnicodeDecodeError start end) refl refl is in absurd (cc)
blames_refused file (Read size) why settings place far is = tt
blames_refused file (ReadLine limit) (fault.UnicodeDecodeError start end) settings place far is = let never = refuses_no_range file (Line limit) file.life file.can.readable (fault.UnicodeDecodeError start end) refl refl is in absurd (cc)
blames_refused file (ReadLine limit) why settings place far is = tt
blames_refused file call why settings place far is = tt

tells_refused : (call : TextFileCall) (why : IoFault) (text : TextOver Buffer) → TextTells call (Refused why) text
tells_refused Tell why text = tt
tells_refused call why text = tt

holds_refused : (before : TextOver Buffer) (call : TextFileCall) (why : IoFault) (after : TextOver Buffer) → TextHolds before call (Refused why) after
holds_refused before (WriteText text) why after = tt
holds_refused before call why after = tt

-- a call that is refused
pub refused : (text : WrittenView) (was : Bool) (call : TextFileCall) (why : IoFault) → refused_here (file_now text) call ≡ Some why → blames why ≡ false → closes_again text.life call ≡ false → IsJoined (over_of text) → Answers (state_of text was) call (Refused why) (state_of text false)
refused text was call why here own once joined =
    let quiet = quiet_refused why own in
    let is = refused_too (file_now text) call why here in
    record {
      keeps = record { raw = keeps_same text.text.buffer.raw; can = refl; buffering = refl; exported = refl };
      refused = λ other also. record { says = (let same : Some why ≡ Some other = sym here ∙ also in let whys : why ≡ other = cc in ap Refused whys); same = refl };
      again = λ closes. let never = sym once ∙ closes in absurd (cc);
      causes = record { waits = λ short. absurd (cc); faults = λ fails. let never = sym quiet ∙ fails in absurd (cc) };
      counted = λ exact. record { faults = λ sound. refl; ends = λ own. record { waits = λ whole has. refl; once = λ short. absurd (cc); most = inl refl } };
      shorts = whole_refused why own;
      nothing = λ none. refl;
      moves = record { settings = settings_refused call why text.text.settings; life_is = life_refused text.text.buffer.can.writable call why text.life own; place = place_refused call why (place_now text) text.text.buffer.place; written = written_refused (over_of text) call why own };
      lines = lines_refused call why text.text.settings.newline;
      blames = blames_refused (file_now text) call why text.text.settings (place_now text) text.text.buffer.place is;
      tells = tells_refused call why (over_of text);
      seeks = seeks_refused (over_of text) (file_now text) call why is;
      joined = joined;
      owes = owes_none (over_of text) call (over_of text) (moves_none call (place_now text).at) (passes_none text.text.buffer.raw (all_owed (over_of text)));
      lays = lays_still (over_of text) _;
      starves = starves_refused (over_of text) call why;
      closes = closes_refused text.life call why text.text.buffer;
      stays = λ is. open_still text.text.buffer;
      unclosed = λ some closed. refl;
      stops = λ short. absurd (cc);
      answer = λ accepts. let never = sym here ∙ accepts in absurd (cc);
      complete = λ accepts calm sound. let never = sym here ∙ accepts in absurd (cc);
      wants = wants_refused call why text.text.buffer own;
      shut = λ none. shut_refused call why text.text.buffer;
      spares = λ can none. record { bytes = λ told. refl; written = λ told. refl; owed = none };
      tied = record { owed = λ can. refl; life_is = λ can was had. was };
      stands = λ stood. stood;
      told = λ told. subst (λ (faulted : Bool). TextFileStep (file_now text) call (Refused why) false faulted (file_now text)) (sym quiet) (step_refused (file_now text) call why is);
      needs = λ gives told. inl (omega arith);
      brings = λ gives can none. record { forth = omega arith; brought = λ told. omega arith };
      hides = λ short. absurd (cc);
      passes = passes_refused (state_of text was) (file_now text) call why (state_of text false) is;
      by_own = stays_put call (over_of text);
      kept = keeps_refused call why (state_of text false);
      holds = holds_refused (over_of text) call why (over_of text);
    }

-- What refuses.

never_again : (asked : Wanted) (current : Life) → closes_again current (call_of asked) ≡ false
never_again (Characters size) current = refl
never_again (Line limit) current = refl

pub own_life : (current : Life) (why : IoFault) → life_fault current ≡ Some why → blames why ≡ false
own_life life.Live why is = absurd (cc)
own_life life.Failed why is = let same : fault.Failed ≡ why = cc in ap blames (sym same)
own_life life.Closed why is = let same : fault.Closed ≡ why = cc in ap blames (sym same)
own_life life.Detached why is = let same : fault.Detached ≡ why = cc in ap blames (sym same)

-- a reading that the life refuses
pub refused_by_life : (now : TextState) (text : WrittenView) (was : Bool) (asked : Wanted) (current : Life) (why : IoFault) → state_of text was ≡ now → text.life ≡ current → life_fault current ≡ Some why → IsJoined (over_of text) → Answers now (call_of asked) (Refused why) (state_of text false)
refused_by_life now text was asked current why same is refuses joined =
    subst (λ (before : TextState). Answers before (call_of asked) (Refused why) (state_of text false)) same
    (refused text was (call_of asked) why (refused_so (file_now text) asked ∙ by_life (file_now text) asked current why is refuses) (own_life current why refuses) (never_again asked text.life) joined)

-- a reading of a buffer that can't be read
pub refused_unread : (now : TextState) (text : WrittenView) (was : Bool) (asked : Wanted) → state_of text was ≡ now → text.life ≡ life.Live → text.text.buffer.can.readable ≡ false → IsJoined (over_of text) → Answers now (call_of asked) (Refused fault.Unsupported) (state_of text false)
refused_unread now text was asked same live can joined =
    subst (λ (before : TextState). Answers before (call_of asked) (Refused fault.Unsupported) (state_of text false)) same
    (refused text was (call_of asked) fault.Unsupported (refused_so (file_now text) asked ∙ unread (file_now text) asked live can) refl (never_again asked text.life) joined)

-- what refuses a call that texts don't have
abbrev pub other_fault : Life → IoFault
other_fault life.Live = fault.Unsupported
other_fault life.Failed = fault.Failed
other_fault life.Closed = fault.Closed
other_fault life.Detached = fault.Detached

other_by : (file : TextFile) (current : Life) → file.life ≡ current → refusal file OtherKind ≡ Some (other_fault current)
other_by file life.Live is = rw is refl
other_by file life.Failed is = rw is refl
other_by file life.Closed is = rw is refl
other_by file life.Detached is = rw is refl

own_other : (current : Life) → blames (other_fault current) ≡ false
own_other life.Live = refl
own_other life.Failed = refl
own_other life.Closed = refl
own_other life.Detached = refl

pub refused_other : (now : TextState) (text : WrittenView) (was : Bool) (current : Life) (why : IoFault) → state_of text was ≡ now → text.life ≡ current → why ≡ other_fault current → IsJoined (over_of text) → Answers now OtherKind (Refused why) (state_of text false)
refused_other now text was current why same is says joined =
    subst (λ (before : TextState). Answers before OtherKind (Refused why) (state_of text false)) same
    (subst (λ (own : IoFault). Answers (state_of text was) OtherKind (Refused own) (state_of text false)) (sym says)
    (refused text was OtherKind (other_fault current) (other_by (file_now text) current is) (own_other current) refl joined))

-- Closing.

close_by : (file : TextFile) (current : Life) (why : IoFault) → file.life ≡ current → current ≢ life.Closed → life_fault current ≡ Some why → refusal file Close ≡ Some why
close_by file life.Live why is other refuses = absurd (cc)
close_by file life.Failed why is other refuses = rw is refuses
close_by file life.Closed why is other refuses = absurd (other refl)
close_by file life.Detached why is other refuses = rw is refuses

not_again : (current : Life) → current ≢ life.Closed → closes_again current Close ≡ false
not_again life.Live other = refl
not_again life.Failed other = refl
not_again life.Closed other = absurd (other refl)
not_again life.Detached other = refl

-- a close that the life refuses
pub refused_close : (now : TextState) (text : WrittenView) (was : Bool) (current : Life) (why : IoFault) → state_of text was ≡ now → text.life ≡ current → current ≢ life.Closed → life_fault current ≡ Some why → IsJoined (over_of text) → Answers now Close (Refused why) (state_of text false)
refused_close now text was current why same is other refuses joined =
    subst (λ (before : TextState). Answers before Close (Refused why) (state_of text false)) same
    (refused text was Close why (close_by (file_now text) current why is other refuses) (own_life current why refuses) (ap (λ (own : Life). closes_again own Close) is ∙ not_again current other) joined)

closed_accepts : (file : TextFile) → file.life ≡ life.Closed → refusal file Close ≡ None
closed_accepts file is = rw is refl

closed_step : (file : TextFile) → file.life ≡ life.Closed → TextFileStep file Close Done false false file
closed_step file is =
    let same : file ≡ record file { life = life.Closed } = ap (λ (current : Life). let own : TextFile = record file { life = current } in own) is in
    settled (subst (λ (none : Option IoFault). SettledBy file Close none Done file) (sym (closed_accepts file is)) (ap (λ (left : TextFile). let pair : FileReply × TextFile = (Done, left) in pair) same))

-- a close of a closed text is done again
pub closed_again : (now : TextState) (text : WrittenView) (was : Bool) → state_of text was ≡ now → text.life ≡ life.Closed → IsJoined (over_of text) → Answers now Close Done (state_of text false)
closed_again now text was same is joined =
    subst (λ (before : TextState). Answers before Close Done (state_of text false)) same
    (record {
      keeps = record { raw = keeps_same text.text.buffer.raw; can = refl; buffering = refl; exported = refl };
      refused = λ why here. let never = sym (closed_accepts (file_now text) is) ∙ here in absurd (cc);
      again = λ closes. record { says = refl; same = refl };
      causes = record { waits = λ short. absurd (cc); faults = λ fails. absurd (cc) };
      counted = λ exact. record { faults = λ sound. refl; ends = λ own. record { waits = λ whole has. refl; once = λ short. absurd (cc); most = inl refl } };
      shorts = refl;
      nothing = λ none. refl;
      moves = record { settings = refl; life_is = is; place = refl; written = tt };
      lines = tt;
      blames = tt;
      tells = tt;
      seeks = tt;
      joined = joined;
      owes = owes_none (over_of text) Close (over_of text) tt (passes_none text.text.buffer.raw (all_owed (over_of text)));
      lays = lays_still (over_of text) _;
      starves = tt;
      closes = λ live. let never : life.Closed ≡ life.Live = sym is ∙ live in absurd (cc);
      stays = λ not. absurd (cc);
      unclosed = λ some closed. refl;
      stops = λ short. absurd (cc);
      answer = λ accepts. tt;
      complete = λ accepts calm sound. record { answer = tt; whole = refl };
      wants = tt;
      shut = λ own. record { shut = λ whole none closed. closed; parted = λ parts. refl };
      spares = λ can none. record { bytes = λ told. refl; written = λ told. refl; owed = none };
      tied = record { owed = λ can. refl; life_is = λ can was had. was };
      stands = λ stood. stood;
      told = λ told. closed_step (file_now text) is;
      needs = λ gives. absurd (cc);
      brings = λ gives. absurd (cc);
      hides = λ short. absurd (cc);
      passes = λ live. let never : life.Closed ≡ life.Live = sym is ∙ live in absurd (cc);
      by_own = refl;
      kept = tt;
      holds = tt;
    })

-- Chunks of another size.

pub tested_some : (size : ℕ) → size ≢ 0 → nat_eq size 0 ≡ false
tested_some zero some = absurd (some refl)
tested_some (suc size) some = grind (arith, nat_tests)

chunk_by : (file : TextFile) (size : ℕ) (current : Life) (why : IoFault) → file.life ≡ current → life_fault current ≡ Some why → refusal file (SetChunkSize size) ≡ Some why
chunk_by file size life.Live why is refuses = absurd (cc)
chunk_by file size life.Failed why is refuses = rw is refuses
chunk_by file size life.Closed why is refuses = rw is refuses
chunk_by file size life.Detached why is refuses = rw is refuses

-- a chunk size that the life refuses
pub refused_chunk : (now : TextState) (text : WrittenView) (was : Bool) (size : ℕ) (current : Life) (why : IoFault) → state_of text was ≡ now → text.life ≡ current → life_fault current ≡ Some why → IsJoined (over_of text) → Answers now (SetChunkSize size) (Refused why) (state_of text false)
refused_chunk now text was size current why same is refuses joined =
    subst (λ (before : TextState). Answers before (SetChunkSize size) (Refused why) (state_of text false)) same
    (refused text was (SetChunkSize size) why (chunk_by (file_now text) size current why is refuses) (own_life current why refuses) refl joined)

no_chunk : (file : TextFile) (size : ℕ) → file.life ≡ life.Live → nat_eq size 0 ≡ true → refusal file (SetChunkSize size) ≡ Some fault.BadArgument
no_chunk file size live none = rw live (rw none refl)

-- a chunk of no bytes
pub refused_none : (now : TextState) (text : WrittenView) (was : Bool) (size : ℕ) → state_of text was ≡ now → text.life ≡ life.Live → nat_eq size 0 ≡ true → IsJoined (over_of text) → Answers now (SetChunkSize size) (Refused fault.BadArgument) (state_of text false)
refused_none now text was size same live none joined =
    subst (λ (before : TextState). Answers before (SetChunkSize size) (Refused fault.BadArgument) (state_of text false)) same
    (refused text was (SetChunkSize size) fault.BadArgument (no_chunk (file_now text) size live none) refl refl joined)

some_chunk : (file : TextFile) (size : ℕ) → file.life ≡ life.Live → nat_eq size 0 ≡ false → refusal file (SetChunkSize size) ≡ None
some_chunk file size live some = rw live (rw some refl)

abbrev pub with_chunk : WrittenView → ℕ → WrittenView
with_chunk view size = record view { text = record view.text { settings = record view.text.settings { chunk_size = size } } }

chunk_step : (file : TextFile) (size : ℕ) → file.life ≡ life.Live → nat_eq size 0 ≡ false → TextFileStep file (SetChunkSize size) Done false false (with_chunk_size file size)
chunk_step file size live some = settled (subst (λ (none : Option IoFault). SettledBy file (SetChunkSize size) none Done (with_chunk_size file size)) (sym (some_chunk file size live some)) refl)

-- chunks of another size
pub chunks_so : (now : TextState) (text new : WrittenView) (was : Bool) (size : ℕ) → state_of text was ≡ now → text.life ≡ life.Live → nat_eq size 0 ≡ false → IsJoined (over_of text) → new ≡ with_chunk text size → Answers now (SetChunkSize size) Done (state_of new false)
chunks_so now text new was size same live some joined is =
    subst (λ (view : WrittenView). Answers now (SetChunkSize size) Done (state_of view false)) (sym is)
    (subst (λ (before : TextState). Answers before (SetChunkSize size) Done (state_of (with_chunk text size) false)) same
    (record {
      keeps = record { raw = keeps_same text.text.buffer.raw; can = refl; buffering = refl; exported = refl };
      refused = λ why here. let never = sym (some_chunk (file_now text) size live some) ∙ here in absurd (cc);
      again = λ closes. absurd (cc);
      causes = record { waits = λ short. absurd (cc); faults = λ fails. absurd (cc) };
      counted = λ exact. record { faults = λ sound. refl; ends = λ own. record { waits = λ whole has. refl; once = λ short. absurd (cc); most = inl refl } };
      shorts = refl;
      nothing = λ none. refl;
      moves = record { settings = refl; life_is = refl; place = refl; written = tt };
      lines = tt;
      blames = tt;
      tells = tt;
      seeks = tt;
      joined = joined;
      owes = owes_none (over_of text) (SetChunkSize size) (over_of (with_chunk text size)) tt (passes_none text.text.buffer.raw (all_owed (over_of text)));
      lays = lays_still (over_of text) _;
      starves = tt;
      closes = tt;
      stays = λ is. open_still text.text.buffer;
      unclosed = λ some closed. refl;
      stops = λ short. absurd (cc);
      answer = λ accepts. refl;
      complete = λ accepts calm sound. record { answer = refl; whole = refl };
      wants = tt;
      shut = λ own. tt;
      spares = λ can none. record { bytes = λ told. refl; written = λ told. refl; owed = none };
      tied = record { owed = λ can. refl; life_is = λ can was had. was };
      stands = λ stood. stood;
      told = λ told. chunk_step (file_now text) size live some;
      needs = λ gives. absurd (cc);
      brings = λ gives. absurd (cc);
      hides = λ short. absurd (cc);
      passes = tt;
      by_own = tt;
      kept = tt;
      holds = tt;
    }))

-- Flushing.

flush_by : (file : TextFile) (current : Life) (why : IoFault) → file.life ≡ current → life_fault current ≡ Some why → refusal file Flush ≡ Some why
flush_by file life.Live why is refuses = absurd (cc)
flush_by file life.Failed why is refuses = rw is refuses
flush_by file life.Closed why is refuses = rw is refuses
flush_by file life.Detached why is refuses = rw is refuses

-- a flush that the life refuses
pub refused_flush : (now : TextState) (text : WrittenView) (was : Bool) (current : Life) (why : IoFault) → state_of text was ≡ now → text.life ≡ current → life_fault current ≡ Some why → IsJoined (over_of text) → Answers now Flush (Refused why) (state_of text false)
refused_flush now text was current why same is refuses joined =
    subst (λ (before : TextState). Answers before Flush (Refused why) (state_of text false)) same
    (refused text was Flush why (flush_by (file_now text) current why is refuses) (own_life current why refuses) refl joined)

-- Writing.

write_by : (file : TextFile) (text : List ℕ) (current : Life) (why : IoFault) → file.life ≡ current → life_fault current ≡ Some why → refusal file (WriteText text) ≡ Some why
write_by file text life.Live why is refuses = absurd (cc)
write_by file text life.Failed why is refuses = rw is refuses
write_by file text life.Closed why is refuses = rw is refuses
write_by file text life.Detached why is refuses = rw is refuses

-- a write that the life refuses
pub refused_write : (now : TextState) (text : WrittenView) (was : Bool) (written : List ℕ) (current : Life) (why : IoFault) → state_of text was ≡ now → text.life ≡ current → life_fault current ≡ Some why → IsJoined (over_of text) → Answers now (WriteText written) (Refused why) (state_of text false)
refused_write now text was written current why same is refuses joined =
    subst (λ (before : TextState). Answers before (WriteText written) (Refused why) (state_of text false)) same
    (refused text was (WriteText written) why (write_by (file_now text) written current why is refuses) (own_life current why refuses) refl joined)

unwritable : (file : TextFile) (text : List ℕ) → file.life ≡ life.Live → file.can.writable ≡ false → refusal file (WriteText text) ≡ Some fault.Unsupported
unwritable file text live can = rw live (rw can refl)

-- a write to a buffer that can't be written
pub refused_unwritten : (now : TextState) (text : WrittenView) (was : Bool) (written : List ℕ) → state_of text was ≡ now → text.life ≡ life.Live → text.text.buffer.can.writable ≡ false → IsJoined (over_of text) → Answers now (WriteText written) (Refused fault.Unsupported) (state_of text false)
refused_unwritten now text was written same live can joined =
    subst (λ (before : TextState). Answers before (WriteText written) (Refused fault.Unsupported) (state_of text false)) same
    (refused text was (WriteText written) fault.Unsupported (unwritable (file_now text) written live can) refl refl joined)

-- A call of a live text whose last answer was short.

pub over_short : (now : TextState) (text : WrittenView) (was : Bool) (call : TextFileCall) (reply : FileReply) (after : TextState) → state_of text was ≡ now → TextPasses (state_of text was) call reply after → Answers (state_of text false) call reply after → Answers now call reply after
over_short now text was call reply after same passes answers = subst (λ (before : TextState). Answers before call reply after) same (record {
  keeps = answers.keeps;
  refused = λ why is. let left = answers.refused why is in record { says = left.says; same = left.same };
  again = λ closes. let left = answers.again closes in record { says = left.says; same = left.same };
  causes = answers.causes;
  counted = λ exact.
      let counts = answers.counted exact in
      record { faults = counts.faults; ends = λ own. let ends = counts.ends own in record { waits = ends.waits; once = ends.once; most = ends.most } };
  shorts = answers.shorts;
  nothing = answers.nothing;
  moves = record { settings = answers.moves.settings; life_is = answers.moves.life_is; place = answers.moves.place; written = answers.moves.written };
  lines = answers.lines;
  blames = answers.blames;
  tells = answers.tells;
  seeks = answers.seeks;
  joined = answers.joined;
  owes = answers.owes;
  lays = answers.lays;
  starves = answers.starves;
  answer = answers.answer;
  complete = answers.complete;
  wants = answers.wants;
  closes = answers.closes;
  stays = answers.stays;
  unclosed = answers.unclosed;
  shut = answers.shut;
  spares = answers.spares;
  tied = record { owed = answers.tied.owed; life_is = answers.tied.life_is };
  stands = answers.stands;
  told = answers.told;
  needs = answers.needs;
  brings = answers.brings;
  hides = λ is gives own. let hidden = answers.hides is gives own in record { empty = hidden.empty; shows = hidden.shows };
  stops = answers.stops;
  passes = passes;
  by_own = answers.by_own;
  kept = answers.kept;
  holds = answers.holds;
})

pub passes_read : (asked : Wanted) (before : TextState) (reply : FileReply) (after : TextState) → TextPasses before (call_of asked) reply after
passes_read (Characters size) before reply after = tt
passes_read (Line limit) before reply after = tt

pub passes_write : (text : WrittenView) (was : Bool) (written : List ℕ) (result : Result ℕ IoFault) (after : TextState) → TextPasses (state_of text false) (WriteText written) (count_reply result) after → TextPasses (state_of text was) (WriteText written) (count_reply result) after
passes_write text was written (Ok count) after passes = passes
passes_write text was written (Err why) after passes = tt

pub passes_closing : (text : WrittenView) (was : Bool) (result : Result (Unit {0}) IoFault) (after : TextState) → TextPasses (state_of text false) Close (done_reply result) after → TextPasses (state_of text was) Close (done_reply result) after
passes_closing text was (Ok done) after passes = passes
passes_closing text was (Err why) after passes = tt
