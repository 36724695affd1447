-- A text that was detached refuses every call but the getters, and stays as it is, with its raw.
use Rattle.std.proofs.Common.{◌≡◌, ℕ, inl, Bool, false, Option, Some, None, refl, sym, ap, ◌∙◌, subst, arith}
use Rattle.py_flat.specs.declared.fault.IoFault.{IoFault}
use Rattle.py_flat.specs.declared.fault.IoFault.TheVariants as fault
use Rattle.py_flat.specs.declared.life.Life.TheVariants as life
use Rattle.py_flat.specs.AllowedStep.{settled}
use Rattle.py_flat.specs.FlatFile.{Abilities, Buffering}
use Rattle.py_flat.specs.Calls.{Refused}
use Rattle.py_plain_text.specs.TextFile.{TextFile, TextPlace, TextSettings}
use Rattle.py_plain_text.specs.TextOver.{TextOver}
use Rattle.py_plain_text.specs.TextCalls.{TextFileCall, Read, ReadLine, WriteText, SeekText, Tell, Reconfigure, SetChunkSize, Flush, Close, Detach, is_getter}
use Rattle.py_plain_text.specs.TextRefusals.{refusal}
use Rattle.py_plain_text.specs.TextAllowed.{SettledBy, TextFileStep}
use Rattle.py_raw.specs.RawStream.{Raw}
use Rattle.py_raw.proofs.Telling.{keeps_same}
use Rattle.py_stream.specs.Buffer.{Buffer}
use Rattle.py_read_text.specs.TextState.{TextState, file_of}
use Rattle.py_read_text.specs.Owing.{all_owed, IsJoined, Closes}
use Rattle.py_read_text.specs.Answers.{refused_here, Answers, settings_after, LifeMoves, PlaceMoves, ReadsOneLine, WriteMoves, closes_again, WantsMemory, ClosesWithRaw, TextPasses, TextKeeps, TextHolds, TextBlames, TextTells, TextSeeks, MovesByOwn}
use Rattle.py_read_text.proofs.Owing.{passes_none, moves_none, owes_none, open_still}
use Rattle.py_read_text.proofs.Fronts.{lays_still}
use Rattle.py_textio.proofs.Detached.{gone_refuses, refused_gone}
use Rattle.py_open.specs.TextHanding.{gone_text}

-- What such a refusal leaves, by the call.

never_closes : (call : TextFileCall) → closes_again life.Detached call ≡ false
never_closes Close = refl
never_closes call = refl

settings_stay : (call : TextFileCall) (settings : TextSettings) → settings ≡ settings_after call (Refused fault.Detached) settings
settings_stay (Reconfigure changes) settings = refl
settings_stay (SetChunkSize size) settings = refl
settings_stay call settings = refl

life_stays : (writes : Bool) (call : TextFileCall) → LifeMoves writes call (Refused fault.Detached) life.Detached life.Detached
life_stays writes Close = refl
life_stays writes call = refl

place_stays : (call : TextFileCall) (place : TextPlace) → PlaceMoves call false (Refused fault.Detached) place 0 place
place_stays (Read None) place = refl
place_stays (Read (Some size)) place = refl
place_stays (ReadLine limit) place = refl
place_stays (WriteText text) place = tt
place_stays (SeekText sought whence) place = tt
place_stays call place = refl

written_stays : (text : TextOver Buffer) (call : TextFileCall) → WriteMoves text call (Refused fault.Detached) text
written_stays text (WriteText written) = refl
written_stays text call = tt

wants_none : (call : TextFileCall) (buffer : Buffer) → WantsMemory call (Refused fault.Detached) buffer
wants_none Flush buffer = tt
wants_none Close buffer = tt
wants_none Detach buffer = tt
wants_none call buffer = tt

closes_none : (call : TextFileCall) (buffer : Buffer) → Closes life.Detached call buffer (Refused fault.Detached) buffer
closes_none Close buffer = tt
closes_none call buffer = tt

shut_still : (call : TextFileCall) (buffer : Buffer) → ClosesWithRaw call buffer (Refused fault.Detached) buffer
shut_still Close buffer = record { shut = λ whole none closed. closed; parted = λ parts. refl }
shut_still call buffer = tt

passes_nothing : (before : TextState) (call : TextFileCall) (after : TextState) → TextPasses before call (Refused fault.Detached) after
passes_nothing before (WriteText text) after = tt
passes_nothing before Flush after = tt
passes_nothing before Close after = tt
passes_nothing before call after = tt

moves_none_own : (call : TextFileCall) (text : TextOver Buffer) → MovesByOwn call text text
moves_none_own Flush text = refl
moves_none_own Close text = refl
moves_none_own Detach text = refl
moves_none_own call text = tt

keeps_none : (call : TextFileCall) (after : TextState) → TextKeeps call (Refused fault.Detached) after
keeps_none (WriteText text) after = tt
keeps_none call after = tt

lines_none : (call : TextFileCall) (newline : _) → ReadsOneLine newline call (Refused fault.Detached)
lines_none (ReadLine limit) newline = tt
lines_none call newline = tt

blames_none : (call : TextFileCall) (settings : TextSettings) (place : TextPlace) (far : ℕ) → TextBlames call (Refused fault.Detached) settings place far
blames_none (Read size) settings place far = tt
blames_none (ReadLine limit) settings place far = tt
blames_none call settings place far = tt

tells_none : (call : TextFileCall) (text : TextOver Buffer) → TextTells call (Refused fault.Detached) text
tells_none Tell text = tt
tells_none call text = tt

seeks_none : (call : TextFileCall) (text : TextOver Buffer) → TextSeeks call (Refused fault.Detached) text text.place
seeks_none (SeekText sought whence) text = refl
seeks_none call text = tt

holds_none : (before : TextOver Buffer) (call : TextFileCall) (after : TextOver Buffer) → TextHolds before call (Refused fault.Detached) after
holds_none before (WriteText text) after = tt
holds_none before call after = tt

gone_joined : (can : Abilities) (buffering : Buffering) (settings : TextSettings) (raw : Raw) → IsJoined (gone_text can buffering settings raw).text
gone_joined can buffering settings raw = record { below = inl refl; stands = inl (refl, refl); behind = omega arith; far = omega arith; few = omega arith; lives = λ live. absurd (cc) }

gone_step : (file : TextFile) (call : TextFileCall) → refusal file call ≡ Some fault.Detached → TextFileStep file call (Refused fault.Detached) false false file
gone_step file call is = settled (subst (λ (refused : Option IoFault). SettledBy file call refused (Refused fault.Detached) file) (sym is) (refl, refl))

pub gone_answers : (can : Abilities) (buffering : Buffering) (settings : TextSettings) (raw : Raw) (call : TextFileCall) → is_getter call ≡ false → Answers (gone_text can buffering settings raw) call (Refused fault.Detached) (gone_text can buffering settings raw)
gone_answers can buffering settings raw call asks =
    let gone : TextState = gone_text can buffering settings raw in
    let is : refused_here (file_of gone) call ≡ Some fault.Detached = refused_gone (file_of gone) call refl asks in
    record {
      keeps = record { raw = keeps_same raw; can = refl; buffering = refl; exported = refl };
      refused = λ other here. record { says = (let same : Some fault.Detached ≡ Some other = sym is ∙ here in let whys : fault.Detached ≡ other = cc in ap Refused whys); same = refl };
      again = λ closes. let never = sym (never_closes call) ∙ closes in absurd (cc);
      causes = record { waits = λ short. absurd (cc); faults = λ fails. absurd (cc) };
      counted = λ exact. record { faults = λ sound. refl; ends = λ own. record { waits = λ whole has. refl; once = λ short. absurd (cc); most = inl refl } };
      shorts = refl;
      nothing = λ none. refl;
      moves = record { settings = settings_stay call settings; life_is = life_stays can.writable call; place = place_stays call gone.text.place; written = written_stays gone.text call };
      lines = lines_none call settings.newline;
      blames = blames_none call gone.text.settings gone.text.place gone.text.buffer.place;
      tells = tells_none call gone.text;
      seeks = seeks_none call gone.text;
      joined = gone_joined can buffering settings raw;
      owes = owes_none gone.text call gone.text (moves_none call gone.text.place.at) (passes_none raw (all_owed gone.text));
      lays = lays_still gone.text _;
      starves = tt;
      closes = closes_none call gone.text.buffer;
      stays = λ closing. open_still gone.text.buffer;
      unclosed = λ some closed. refl;
      stops = λ short. absurd (cc);
      answer = λ accepts. let never = sym is ∙ accepts in absurd (cc);
      complete = λ accepts calm sound. let never = sym is ∙ accepts in absurd (cc);
      wants = wants_none call gone.text.buffer;
      shut = λ none. shut_still call gone.text.buffer;
      spares = λ reads none. record { bytes = λ told. refl; written = λ told. refl; owed = none };
      tied = record { owed = λ reads. refl; life_is = λ reads was had. was };
      stands = λ stood. stood;
      told = λ told. gone_step (file_of gone) call (gone_refuses (file_of gone) call refl asks);
      needs = λ gives told. inl (omega arith);
      brings = λ gives can none. record { forth = omega arith; brought = λ told. omega arith };
      hides = λ short. absurd (cc);
      passes = passes_nothing gone call gone;
      by_own = moves_none_own call gone.text;
      kept = keeps_none call gone;
      holds = holds_none gone.text call gone.text;
    }
