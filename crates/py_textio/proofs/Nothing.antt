-- A reading of no characters.
use Rattle.std.proofs.Common.{◌≡◌, ℕ, zero, suc, ◌+◌, inl, Bool, true, false, ◌||◌, nat_lt, [], length, Option, Some, None, refl, sym, ap, ◌∙◌, subst, arith}
use Rattle.std.proofs.lemmas.Bool.{le-ltb}
use Rattle.py_flat.specs.declared.fault.IoFault.{IoFault}
use Rattle.py_flat.specs.declared.life.Life.TheVariants as life
use Rattle.py_flat.specs.Calls.{FileReply, Text}
use Rattle.py_flat.specs.AllowedStep.{settled}
use Rattle.py_plain_text.specs.TextFile.{TextFile, TextPlace}
use Rattle.py_plain_text.specs.Rest.{text_rest}
use Rattle.py_plain_text.specs.TextStep.{place_taking, after_taking, asks_past, range_refusal, answered_text}
use Rattle.py_plain_text.specs.TextExact.{carried_out}
use Rattle.py_plain_text.specs.TextAllowed.{SettledBy, TextFileStep}
use Rattle.py_raw.proofs.Telling.{keeps_same}
use Rattle.py_held_text.specs.declared.wanted.Wanted.{Wanted}
use Rattle.py_held_text.specs.declared.wanted.Wanted.TheVariants.{Characters, Line}
use Rattle.py_read_text.specs.Owing.{all_owed, IsJoined}
use Rattle.py_read_text.specs.Answers.{PlaceMoves, ReadsOneLine, Answers}
use Rattle.py_read_text.specs.Reading.{call_of, asks_none}
use Rattle.py_read_text.proofs.Steps.{accepts}
use Rattle.py_read_text.proofs.Owing.{passes_none, owes_none, open_still}
use Rattle.py_textio.specs.Written.{WrittenView, place_now, over_of, state_of, file_now}
use Rattle.py_read_text.proofs.Fronts.{lays_still}

no_more : (count : ℕ) → nat_lt count 0 ≡ false
no_more count = le-ltb count 0 (omega arith)

never_passes : (passes : Bool) (range : Option (ℕ × ℕ)) → passes ≡ false → range_refusal passes range ≡ None
never_passes passes None is = refl
never_passes passes (Some range) is = rw is refl

takes_none : (place : TextPlace) → place ≡ place_taking place 0 false
takes_none place =
    let count : place.taken ≡ place.taken + 0 = omega arith in
    let dirty : place.dirty ≡ place.dirty || false = either place.dirty in
    ap (λ (taken : ℕ). let own : TextPlace = record place { taken = taken } in own) count ∙ ap (λ (own : Bool). let all : TextPlace = record place { taken = place.taken + 0; dirty = own } in all) dirty
  where
    either : (own : Bool) → own ≡ own || false
    either true = refl
    either false = refl

same_taken : (file : TextFile) → file ≡ after_taking file 0 false
same_taken file = ap (λ (place : TextPlace). let own : TextFile = record file { place = place } in own) (takes_none file.place)

abbrev pair_of : FileReply → TextFile → FileReply × TextFile
pair_of reply file = (reply, file)

none_read : (file : TextFile) → pair_of (Text []) file ≡ carried_out file (call_of (Characters (Some 0)))
none_read file =
    let rest = text_rest file in
    ap (λ (after : TextFile). pair_of (Text []) after) (same_taken file)
    ∙ sym (ap (λ (refused : Option IoFault). answered_text file refused [] (after_taking file 0 false)) (never_passes (asks_past (Some 0) rest.characters) rest.refusal (no_more (length rest.characters))))

none_line : (file : TextFile) → pair_of (Text []) file ≡ carried_out file (call_of (Line (Some 0)))
none_line file = grind arith

none_step : (file : TextFile) (asked : Wanted) → file.life ≡ life.Live → file.can.readable ≡ true → asks_none asked ≡ true → TextFileStep file (call_of asked) (Text []) false false file
none_step file (Characters None) live can none = absurd (cc)
none_step file (Characters (Some zero)) live can none = settled (subst (λ (refused : Option IoFault). SettledBy file (call_of (Characters (Some 0))) refused (Text []) file) (sym (accepts file (Characters (Some 0)) live can)) (none_read file))
none_step file (Characters (Some (suc size))) live can none = absurd (cc)
none_step file (Line None) live can none = absurd (cc)
none_step file (Line (Some zero)) live can none = settled (subst (λ (refused : Option IoFault). SettledBy file (call_of (Line (Some 0))) refused (Text []) file) (sym (accepts file (Line (Some 0)) live can)) (none_line file))
none_step file (Line (Some (suc size))) live can none = absurd (cc)

none_moves : (asked : Wanted) (place : TextPlace) (end : ℕ) → asks_none asked ≡ true → PlaceMoves (call_of asked) false (Text []) place end place
none_moves (Characters None) place end none = absurd (cc)
none_moves (Characters (Some zero)) place end none = record { taken = takes_none place; within = λ limit is. omega arith }
none_moves (Characters (Some (suc size))) place end none = absurd (cc)
none_moves (Line None) place end none = absurd (cc)
none_moves (Line (Some zero)) place end none = record { taken = takes_none place; within = λ limit is. omega arith }
none_moves (Line (Some (suc size))) place end none = absurd (cc)

none_lines : (asked : Wanted) (newline : _) → asks_none asked ≡ true → ReadsOneLine newline (call_of asked) (Text [])
none_lines (Characters size) newline none = tt
none_lines (Line None) newline none = absurd (cc)
none_lines (Line (Some zero)) newline none = refl
none_lines (Line (Some (suc size))) newline none = absurd (cc)

none_answers : (asked : Wanted) (old : WrittenView) (was : Bool) → old.life ≡ life.Live → old.text.buffer.can.readable ≡ true → asks_none asked ≡ true → IsJoined (over_of old) → Answers (state_of old was) (call_of asked) (Text []) (state_of old false)
none_answers (Characters size) old was live can none joined = record {
  keeps = record { raw = keeps_same old.text.buffer.raw; can = refl; buffering = refl; exported = refl };
  refused = λ why is. let never = sym (accepts (file_now old) (Characters size) live can) ∙ is in absurd (cc);
  again = λ closes. absurd (cc);
  causes = record { waits = λ short. absurd (cc); faults = λ fails. absurd (cc) };
  counted = λ exact. record { faults = λ sound. refl; ends = λ own. record { waits = λ whole has. refl; once = λ short. absurd (cc); most = inl refl } };
  shorts = refl;
  nothing = λ is. refl;
  moves = record { settings = refl; life_is = refl; place = none_moves (Characters size) (place_now old) old.text.buffer.place none; written = tt };
  lines = tt;
  blames = tt;
  tells = tt;
  seeks = tt;
  joined = joined;
  owes = owes_none (over_of old) (call_of (Characters size)) (over_of old) tt (passes_none old.text.buffer.raw (all_owed (over_of old)));
  lays = lays_still (over_of old) _;
  starves = tt;
  closes = tt;
  stays = λ is. open_still old.text.buffer;
  unclosed = λ some closed. refl;
  stops = λ short. absurd (cc);
  answer = λ accepts. tt;
  complete = λ accepts calm sound. record { answer = tt; whole = refl };
  wants = tt;
  shut = λ own. tt;
  spares = λ can none. record { bytes = λ told. refl; written = λ told. refl; owed = none };
  tied = record { owed = λ can. refl; life_is = λ can was had. was };
  stands = λ stood. stood;
  told = λ told. none_step (file_now old) (Characters size) live can none;
  needs = λ gives told. inl (omega arith);
  brings = λ gives can none. record { forth = omega arith; brought = λ told. omega arith };
  hides = λ short. absurd (cc);
  passes = tt;
  by_own = tt;
  kept = tt;
  holds = tt;
}
none_answers (Line limit) old was live can none joined = record {
  keeps = record { raw = keeps_same old.text.buffer.raw; can = refl; buffering = refl; exported = refl };
  refused = λ why is. let never = sym (accepts (file_now old) (Line limit) live can) ∙ is in absurd (cc);
  again = λ closes. absurd (cc);
  causes = record { waits = λ short. absurd (cc); faults = λ fails. absurd (cc) };
  counted = λ exact. record { faults = λ sound. refl; ends = λ own. record { waits = λ whole has. refl; once = λ short. absurd (cc); most = inl refl } };
  shorts = refl;
  nothing = λ is. refl;
  moves = record { settings = refl; life_is = refl; place = none_moves (Line limit) (place_now old) old.text.buffer.place none; written = tt };
  lines = none_lines (Line limit) old.text.settings.newline none;
  blames = tt;
  tells = tt;
  seeks = tt;
  joined = joined;
  owes = owes_none (over_of old) (call_of (Line limit)) (over_of old) tt (passes_none old.text.buffer.raw (all_owed (over_of old)));
  lays = lays_still (over_of old) _;
  starves = tt;
  closes = tt;
  stays = λ is. open_still old.text.buffer;
  unclosed = λ some closed. refl;
  stops = λ short. absurd (cc);
  answer = λ accepts. tt;
  complete = λ accepts calm sound. record { answer = tt; whole = refl };
  wants = tt;
  shut = λ own. tt;
  spares = λ can none. record { bytes = λ told. refl; written = λ told. refl; owed = none };
  tied = record { owed = λ can. refl; life_is = λ can was had. was };
  stands = λ stood. stood;
  told = λ told. none_step (file_now old) (Line limit) live can none;
  needs = λ gives told. inl (omega arith);
  brings = λ gives can none. record { forth = omega arith; brought = λ told. omega arith };
  hides = λ short. absurd (cc);
  passes = tt;
  by_own = tt;
  kept = tt;
  holds = tt;
}

-- a reading of no characters of a text, however it is seen
pub reads_none : (now : WrittenView) (asked : Wanted) (reply : FileReply) (was : Bool) → now.life ≡ life.Live → now.text.buffer.can.readable ≡ true → asks_none asked ≡ true → reply ≡ Text [] → IsJoined (over_of now) → Answers (state_of now was) (call_of asked) reply (state_of now false)
reads_none now asked reply was live can none says joined = subst (λ (own : FileReply). Answers (state_of now was) (call_of asked) own (state_of now false)) (sym says) (none_answers asked now was live can none joined)
