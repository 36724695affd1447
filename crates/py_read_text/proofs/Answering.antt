-- What a text answers of what was gathered.
use Rattle.std.proofs.Common.{◌≡◌, ◌≢◌, ℕ, ◌+◌, ◌≤◌, max, Bool, true, false, ◌||◌, List, [], ◌∷◌, ◌++◌, length, take, Option, Some, None, IfSome, String, Ok, Err, refl, sym, ap, ◌∙◌, subst, arith}
use Rattle.std.proofs.lemmas.List.{append-nil, length-append, length-take, length-take-le, length-drop, take_all, drop_all}
use Rattle.std.specs.declared.alloc.Global.{Global}
use Rattle.py_flat.specs.declared.fault.IoFault.TheVariants as fault
use Rattle.py_flat.specs.declared.life.Life.TheVariants as life
use Rattle.py_flat.specs.Bytes.{left_at}
use Rattle.py_flat.specs.BinaryStep.{IsFrontOf}
use Rattle.py_flat.specs.Calls.{Text, NotReady, Refused}
use Rattle.py_plain.specs.declared.encoding.Encoding.{Encoding}
use Rattle.py_plain.specs.declared.handler.Handler.{Handler}
use Rattle.py_plain.specs.Handlers.{treatment}
use Rattle.py_plain.specs.Items.{Walk, AtEnd, ends, characters_of, refusal_of}
use Rattle.py_plain.specs.Pieces.{walk_at}
use Rattle.py_flat.specs.Lines.{line_after}
use Rattle.py_plain.specs.NewlineRule.{line_end, read_all}
use Rattle.py_codec.specs.Answers.{text_of}
use Rattle.py_plain_text.specs.TextFile.{TextFile, TextPlace, TextSettings, clean_at}
use Rattle.py_plain_text.specs.TextStep.{asks_any, place_taking, after_taking, at_the_end}
use Rattle.py_plain_text.specs.TextAllowed.{TextFileStep}
use Rattle.py_stream.specs.Buffer.{WhereShown, flat_of}
use Rattle.py_held_text.specs.declared.wanted.Wanted.{Wanted}
use Rattle.py_held_text.specs.declared.wanted.Wanted.TheVariants.{Characters, Line}
use Rattle.py_held_text.specs.Held.{HeldView, ahead, left_so_far}
use Rattle.py_held_text.specs.Decodes.{IsDrained}
use Rattle.py_held_text.specs.Finding.{answer_of, enough, enough_before}
use Rattle.py_read_text.specs.declared.read_text.Answer.TheVariants as answer
use Rattle.py_read_text.specs.Waiting.{bytes_between, ShowsAll}
use Rattle.py_read_text.specs.Answers.{IsReplyTo, PlaceMoves, BlamesTaken, ReadsOneLine, may_refuse, TextBlames}
use Rattle.py_read_text.specs.Knowing.{TextView, place_of, shown_file, from_place, front_of, KnowsTold, ReadsBy, IsText}
use Rattle.py_read_text.specs.Reading.{call_of, size_of, asks_all, ComesLast, RefusesAt, RangeInHand, IsAtEnd, HoldsNothing, GiveOutcome, GiveAllOutcome, Finishes}
use Rattle.py_read_text.proofs.Following.{all_none, so_far_empty}
use Rattle.py_read_text.proofs.Ranges.{asks_past_range}
use Rattle.py_read_text.proofs.Knowing.{knows_given, without_front}
use Rattle.py_read_text.proofs.Enough.{is_enough, is_short, is_before}
use Rattle.py_read_text.proofs.OneLine.{reads_one}
use Rattle.py_read_text.proofs.Steps.{Tied, step_enough, step_before, step_refuses, step_last, step_all, step_waits, step_unready, enough_sized, before_sized}

-- what holds of every text, of one as it is seen
abbrev pub Holds : TextView → Type 0
Holds text = IsText text.buffer text.held text.front text.at text.taken text.dirty text.settings

-- a live text that reads is tied to the bytes below, where its buffer tells
pub tied_of : (text : TextView) → text.buffer.life ≡ life.Live → text.buffer.can.readable ≡ true → IsText text.buffer text.held text.front text.at text.taken text.dirty text.settings → WhereShown text.buffer (Tied text)
tied_of text live reads is = λ told. record { live = live; reads = reads; rule = (is.reads_by reads).newline; knows = is.told told live reads }

-- The place.

gives_text : (asked : Wanted) (cs : List ℕ) (writes : Bool) → IsReplyTo writes (call_of asked) (Text cs)
gives_text (Characters size) cs writes = tt
gives_text (Line limit) cs writes = tt

within_limit : (own : Option ℕ) (count : ℕ) → IfSome own (λ size. count ≤ size) → (limit : ℕ) → own ≡ Some limit → count ≤ limit
within_limit None count fits limit is = absurd (cc)
within_limit (Some size) count fits limit is = let same : size ≡ limit = cc in subst (λ (n : ℕ). count ≤ n) same fits

moves_whole : (asked : Wanted) (old new : TextPlace) (end : ℕ) (cs : List ℕ) → asks_all asked ≡ false → IfSome (size_of asked) (λ size. length cs ≤ size) → new ≡ place_taking old (length cs) (asks_any (size_of asked)) → PlaceMoves (call_of asked) false (Text cs) old end new
moves_whole (Characters None) old new end cs sized fits taken = absurd (cc)
moves_whole (Characters (Some size)) old new end cs sized fits taken = record { taken = taken; within = within_limit (Some size) (length cs) fits }
moves_whole (Line limit) old new end cs sized fits taken = record { taken = taken; within = within_limit limit (length cs) fits }

moves_short : (asked : Wanted) (old new : TextPlace) (end : ℕ) (cs : List ℕ) → IfSome (size_of asked) (λ size. length cs ≤ size) → new ≡ place_taking old (length cs) true → PlaceMoves (call_of asked) true (Text cs) old end new
moves_short (Characters None) old new end cs fits taken = record { taken = taken; within = within_limit None (length cs) fits }
moves_short (Characters (Some size)) old new end cs fits taken = record { taken = taken; within = within_limit (Some size) (length cs) fits }
moves_short (Line limit) old new end cs fits taken = record { taken = taken; within = within_limit limit (length cs) fits }

blames_none : (asked : Wanted) (cs : List ℕ) (settings : TextSettings) (place : TextPlace) (far : ℕ) → TextBlames (call_of asked) (Text cs) settings place far
blames_none (Characters size) cs settings place far = tt
blames_none (Line limit) cs settings place far = tt

-- what a giving does to the model's file
gave_file : (old new : TextView) (count : ℕ) (asks : Bool) (text : String Global) → GiveOutcome old count asks (Ok text) new → shown_file new ≡ after_taking (shown_file old) count asks
gave_file old new count asks text gave = ap shown_file gave.1

gave_place : (old new : TextView) (count : ℕ) (asks : Bool) (text : String Global) → count ≤ length old.held.known → GiveOutcome old count asks (Ok text) new → place_of new ≡ place_taking (place_of old) (length (text_of text)) asks
gave_place old new count asks text within gave =
    let size : length (text_of text) ≡ count = ap length gave.0 ∙ length-take-le count old.held.known within in
    ap place_of gave.1 ∙ ap (λ (n : ℕ). place_taking (place_of old) n asks) (sym size)

-- a whole answer of a front of the known characters
whole_of : (old new : TextView) (asked : Wanted) (count : ℕ) (text : String Global) → asks_all asked ≡ false → count ≤ length old.held.known → IfSome (size_of asked) (λ size. count ≤ size) → ReadsOneLine old.settings.newline (call_of asked) (Text (take count old.held.known)) → GiveOutcome old count (asks_any (size_of asked)) (Ok text) new
    → WhereShown old.buffer (TextFileStep (shown_file old) (call_of asked) (Text (take count old.held.known)) false false (after_taking (shown_file old) count (asks_any (size_of asked))))
    → Finishes old asked (Ok (answer.Whole text)) new
whole_of old new asked count text sized within fits one gave step =
    let size : length (text_of text) ≡ count = ap length gave.0 ∙ length-take-le count old.held.known within in
    record {
      buffer = ap (λ (view : TextView). view.buffer) gave.1;
      settings = ap (λ (view : TextView). view.settings) gave.1;
      answer = gives_text asked (text_of text);
      shorts = refl;
      sound = refl;
      place = moves_whole asked (place_of old) (place_of new) old.buffer.place (text_of text) sized (subst (λ (n : ℕ). IfSome (size_of asked) (λ most. n ≤ most)) (sym size) fits) (gave_place old new count (asks_any (size_of asked)) text within gave);
      lines = subst (λ (cs : List ℕ). ReadsOneLine old.settings.newline (call_of asked) (Text cs)) (sym gave.0) one;
      blames = blames_none asked (text_of text) old.settings (place_of old) old.buffer.place;
      told = λ told. subst (λ (cs : List ℕ). TextFileStep (shown_file old) (call_of asked) (Text cs) false false (shown_file new)) (sym gave.0)
          (subst (TextFileStep (shown_file old) (call_of asked) (Text (take count old.held.known)) false false) (sym (gave_file old new count (asks_any (size_of asked)) text gave)) (step told));
      hides = λ waits. absurd (cc);
    }

pub finishes_enough : (old new : TextView) (asked : Wanted) (count : ℕ) (text : String Global) → old.held.newline ≡ old.settings.newline → WhereShown old.buffer (Tied old) → enough asked old.held.newline old.held.known ≡ Some count → GiveOutcome old count (asks_any (size_of asked)) (Ok text) new → Finishes old asked (Ok (answer.Whole text)) new
finishes_enough old new asked count text rule tied is gave =
    let ready = is_enough asked old.held.newline old.held.known count is in
    whole_of old new asked count text (enough_sized asked old.held.newline old.held.known count is) ready.within ready.size (reads_one asked old.held.newline old.settings.newline (old.held.known ++ []) (take count old.held.known) rule (ready.answer [])) gave (λ told. step_enough old asked count (tied told) is)

pub finishes_before : (old new : TextView) (asked : Wanted) (count : ℕ) (text : String Global) → old.held.newline ≡ old.settings.newline → WhereShown old.buffer (Tied old) → enough_before asked old.held.newline old.held.known ≡ Some count → WhereShown old.buffer ((range : ℕ × ℕ) × ComesLast old (Some range)) → GiveOutcome old count (asks_any (size_of asked)) (Ok text) new → Finishes old asked (Ok (answer.Whole text)) new
finishes_before old new asked count text rule tied is last gave =
    let ready = is_before asked old.held.newline old.held.known count is in
    whole_of old new asked count text (before_sized asked old.held.newline old.held.known count is) ready.within ready.size (reads_one asked old.held.newline old.settings.newline old.held.known (take count old.held.known) rule ready.answer) gave (λ told. step_before old asked count (Some (last told).0) (tied told) (last told).1 is)

refuses_text : (asked : Wanted) (start end : ℕ) (writes : Bool) → IsReplyTo writes (call_of asked) (Refused (fault.UnicodeDecodeError start end))
refuses_text (Characters size) start end writes = tt
refuses_text (Line limit) start end writes = tt

stays_refused : (asked : Wanted) (start end : ℕ) (place : TextPlace) (far : ℕ) → PlaceMoves (call_of asked) false (Refused (fault.UnicodeDecodeError start end)) place far place
stays_refused (Characters None) start end place far = refl
stays_refused (Characters (Some size)) start end place far = refl
stays_refused (Line limit) start end place far = refl

blames_taken : (asked : Wanted) (start end : ℕ) (settings : TextSettings) (place : TextPlace) (far : ℕ) → BlamesTaken (size_of asked) settings place start end far → TextBlames (call_of asked) (Refused (fault.UnicodeDecodeError start end)) settings place far
blames_taken (Characters size) start end settings place far taken = taken
blames_taken (Line limit) start end settings place far taken = taken

-- where the handler by which what is in hand is read may refuse bytes, that of the settings may
refuses_by : (text : TextView) → ReadsBy text.settings text.held → may_refuse text.held.encoding text.held.handler ≡ true → may_refuse text.settings.encoding text.settings.handler ≡ true
refuses_by text reads refuses =
    sym (ap (λ (encoding : Encoding). may_refuse encoding text.held.handler) reads.encoding ∙ ap (λ (handler : Handler). may_refuse text.settings.encoding handler) reads.handler) ∙ refuses

refused_lines : (asked : Wanted) (start end : ℕ) (newline : _) → ReadsOneLine newline (call_of asked) (Refused (fault.UnicodeDecodeError start end))
refused_lines (Characters size) start end newline = tt
refused_lines (Line limit) start end newline = tt

-- a refused range that the answer would pass
pub finishes_refused : (text : TextView) (asked : Wanted) (start end : ℕ) → text.buffer.can.readable ≡ true → Holds text → WhereShown text.buffer (Tied text) → RangeInHand text start end → enough_before asked text.held.newline text.held.known ≡ None → WhereShown text.buffer (ComesLast text (Some (start, end))) → Finishes text asked (Err (fault.UnicodeDecodeError start end)) text
finishes_refused text asked start end reads holds tied range is last = record {
  buffer = refl;
  settings = refl;
  answer = refuses_text asked start end;
  shorts = refl;
  sound = refl;
  place = stays_refused asked start end (place_of text) text.buffer.place;
  lines = refused_lines asked start end text.settings.newline;
  blames = blames_taken asked start end text.settings (place_of text) text.buffer.place (record { asks = asks_past_range asked text.held.newline text.held.known is; refuses = refuses_by text (holds.reads_by reads) range.refuses; forth = omega (arith, holds.forth, range.forth); some = range.some; within = omega (arith, holds.stands, range.within) });
  told = λ told. step_refuses text asked start end (tied told) (last told) is;
  hides = λ waits. absurd (cc);
}

-- Where nothing comes behind.

pub last_at_end : (text : TextView) → text.held.bytes ≡ [] → text.held.cr ≡ false → left_at (flat_of text.buffer).bytes text.buffer.place ≡ [] → ComesLast text None
last_at_end text none whole end =
    let held : HeldView = text.held in
    let left : List ℕ = left_at (flat_of text.buffer).bytes text.buffer.place in
    let empty : Walk = ends held.order AtEnd in
    let walk : ahead held true left ≡ empty = ap (λ (all : List ℕ). walk_at held.encoding (treatment held.handler held.encoding) true held.order held.place (all ++ left)) none ∙ ap (λ (all : List ℕ). walk_at held.encoding (treatment held.handler held.encoding) true held.order held.place all) end in
    record {
      characters = ap (λ (own : Walk). held.known ++ read_all held.newline held.cr (characters_of own.items)) walk ∙ (ap (λ (cr : Bool). held.known ++ read_all held.newline cr []) whole ∙ (ap (λ (cs : List ℕ). held.known ++ cs) (all_none held.newline) ∙ append-nil held.known));
      refusal_is = ap (λ (own : Walk). refusal_of own.ending) walk;
    }

-- a refused range comes next
pub last_at_range : (text : TextView) (Behind : List ℕ → Type 0) (range : ℕ × ℕ) → RefusesAt Behind text.held range → Behind (left_at (flat_of text.buffer).bytes text.buffer.place) → ComesLast text (Some range)
last_at_range text Behind range refuses may =
    let held : HeldView = text.held in
    let left : List ℕ = left_at (flat_of text.buffer).bytes text.buffer.place in
    let walk = refuses.next left may in
    record {
      characters = ap (λ (own : Walk). held.known ++ read_all held.newline held.cr (characters_of own.items)) walk ∙ (ap (λ (cr : Bool). held.known ++ read_all held.newline cr []) refuses.whole ∙ (ap (λ (cs : List ℕ). held.known ++ cs) (all_none held.newline) ∙ append-nil held.known));
      refusal_is = ap (λ (own : Walk). refusal_of own.ending) walk;
    }

fits_answer : (asked : Wanted) (rule : _) (known : List ℕ) (count : ℕ) → count ≤ length known → take count known ≡ answer_of asked rule known → IfSome (size_of asked) (λ size. count ≤ size)
fits_answer (Characters None) rule known count within is = tt
fits_answer (Characters (Some size)) rule known count within is = omega (arith, ap length is, length-take-le count known within, length-take size known)
fits_answer (Line None) rule known count within is = tt
fits_answer (Line (Some limit)) rule known count within is = omega (arith, ap length is, length-take-le count known within, length-take limit (line_after (line_end rule) false known))

pub finishes_last : (old new : TextView) (asked : Wanted) (count : ℕ) (text : String Global) → old.held.newline ≡ old.settings.newline → WhereShown old.buffer (Tied old) → old.held.bytes ≡ [] → old.held.cr ≡ false → IsAtEnd old.buffer → asks_all asked ≡ false → count ≤ length old.held.known → take count old.held.known ≡ answer_of asked old.held.newline old.held.known → GiveOutcome old count (asks_any (size_of asked)) (Ok text) new → Finishes old asked (Ok (answer.Whole text)) new
finishes_last old new asked count text rule tied none whole end sized within is gave =
    whole_of old new asked count text sized within (fits_answer asked old.held.newline old.held.known count within is) (reads_one asked old.held.newline old.settings.newline old.held.known (take count old.held.known) rule (sym is)) gave
    (λ told. step_last old asked count (tied told) (last_at_end old none whole (end told)) sized within is)

-- a read of all goes to the end
pub finishes_all : (old new : TextView) (text : String Global) → WhereShown old.buffer (Tied old) → IsText old.buffer old.held old.front old.at old.taken old.dirty old.settings → old.held.bytes ≡ [] → old.held.cr ≡ false → IsAtEnd old.buffer → GiveAllOutcome old (Ok text) new → Finishes old (Characters None) (Ok (answer.Whole text)) new
finishes_all old new text tied is none whole end gave =
    let forth : old.at ≤ old.buffer.place = omega (arith, is.forth, is.stands) in
    record {
      buffer = ap (λ (view : TextView). view.buffer) gave.1;
      settings = ap (λ (view : TextView). view.settings) gave.1;
      answer = λ writes. tt;
      shorts = refl;
      sound = refl;
      place = record { clean = ap place_of gave.1; forth = forth };
      lines = tt;
      blames = tt;
      told = λ told.
          let knows = (tied told).knows in
          let bytes : List ℕ = (flat_of old.buffer).bytes in
          let there : old.buffer.place ≡ max old.at (length bytes) = omega (arith, knows.within, forth, ap length (end told), length-drop old.buffer.place bytes) in
          let after : shown_file new ≡ at_the_end (shown_file old) = ap shown_file gave.1 ∙ ap (λ (at : ℕ). let file : TextFile = record (shown_file old) { place = clean_at at (place_of old).order } in file) there in
          subst (λ (cs : List ℕ). TextFileStep (shown_file old) (call_of (Characters None)) (Text cs) false false (shown_file new)) (sym gave.0)
          (subst (TextFileStep (shown_file old) (call_of (Characters None)) (Text old.held.known) false false) (sym after) (step_all old (tied told) (last_at_end old none whole (end told))));
      hides = λ waits. absurd (cc);
    }

pub finishes_all_of : (old new : TextView) (asked : Wanted) (text : String Global) → asks_all asked ≡ true → WhereShown old.buffer (Tied old) → Holds old → old.held.bytes ≡ [] → old.held.cr ≡ false → IsAtEnd old.buffer → GiveAllOutcome old (Ok text) new → Finishes old asked (Ok (answer.Whole text)) new
finishes_all_of old new (Characters None) text all tied is none whole end gave = finishes_all old new text tied is none whole end gave
finishes_all_of old new (Characters (Some size)) text all tied is none whole end gave = absurd (cc)
finishes_all_of old new (Line limit) text all tied is none whole end gave = absurd (cc)

-- a front that is all of a list
pub all_of : (known : List ℕ) (count : ℕ) → count ≤ length known → take count known ≡ known → count ≡ length known
all_of known count within is = omega (arith, ap length is, length-take-le count known within)

pub some_of : (known : List ℕ) (count : ℕ) → count ≡ length known → count ≢ 0 → known ≢ []
some_of known count size some = λ none. some (size ∙ ap length none)

pub none_of : (known : List ℕ) (count : ℕ) → count ≡ length known → count ≡ 0 → known ≡ []
none_of [] count size none = refl
none_of (c ∷ cs) count size none = absurd (omega (arith, size, none))

-- Where the raw would have blocked.

-- where all known characters were given, nothing that is sure is held back
pub shows_all : (text : TextView) → text.at ≤ text.buffer.place → text.held.known ≡ [] → IsDrained false text.held → KnowsTold text.settings (flat_of text.buffer).bytes text.buffer.place text.front text.at text.taken text.held → ShowsAll (shown_file text) text.buffer.place
shows_all text forth none drained knows =
    let bytes : List ℕ = (flat_of text.buffer).bytes in
    let left : List ℕ = left_at bytes text.buffer.place in
    let nothing : IsFrontOf [] left = (left, refl) in
    let same : bytes_between bytes text.at text.buffer.place ++ [] ≡ bytes_between bytes text.at text.buffer.place = append-nil (bytes_between bytes text.at text.buffer.place) in
    let front : List ℕ = front_of text.settings bytes text.front in
    let sure : length (left_so_far text.held []).characters ≡ 0 = ap length (so_far_empty text.held drained.items ∙ none) in
    record {
      forth = forth;
      characters = subst (λ (all : List ℕ). length (front ++ (left_so_far (from_place text.settings text.at) all).characters) ≤ text.taken) same (omega (arith, knows.shows [] nothing, sure, length-append front (left_so_far (from_place text.settings text.at) (bytes_between bytes text.at text.buffer.place ++ [])).characters));
      refusal = subst (λ (all : List ℕ). (left_so_far (from_place text.settings text.at) all).refusal ≡ None) same (knows.sound [] nothing drained.refusal);
    }

unready_text : (asked : Wanted) (writes : Bool) → IsReplyTo writes (call_of asked) NotReady
unready_text (Characters size) writes = tt
unready_text (Line limit) writes = tt

blames_unready : (asked : Wanted) (settings : TextSettings) (place : TextPlace) (far : ℕ) → TextBlames (call_of asked) NotReady settings place far
blames_unready (Characters size) settings place far = tt
blames_unready (Line limit) settings place far = tt

unready_lines : (asked : Wanted) (newline : _) → ReadsOneLine newline (call_of asked) NotReady
unready_lines (Characters size) newline = tt
unready_lines (Line limit) newline = tt

stays_unready : (asked : Wanted) (place : TextPlace) (far : ℕ) → PlaceMoves (call_of asked) true NotReady place far place
stays_unready (Characters None) place far = refl
stays_unready (Characters (Some size)) place far = refl
stays_unready (Line limit) place far = refl

pub finishes_unready : (text : TextView) (asked : Wanted) → text.buffer.life ≡ life.Live → text.buffer.can.readable ≡ true → IsText text.buffer text.held text.front text.at text.taken text.dirty text.settings → text.held.known ≡ [] → IsDrained false text.held → HoldsNothing text.buffer → Finishes text asked (Ok answer.NotReady) text
finishes_unready text asked live reads is none drained holds =
    let tied = tied_of text live reads is in
    record {
      buffer = refl;
      settings = refl;
      answer = unready_text asked;
      shorts = refl;
      sound = refl;
      place = stays_unready asked (place_of text) text.buffer.place;
      lines = unready_lines asked text.settings.newline;
      blames = blames_unready asked text.settings (place_of text) text.buffer.place;
      told = λ told. step_unready text asked (tied told);
      hides = λ waits. (holds, λ told. shows_all text (omega (arith, is.forth, is.stands)) none drained (tied told).knows);
    }

pub finishes_short : (old new : TextView) (asked : Wanted) (count : ℕ) (text : String Global) → old.buffer.life ≡ life.Live → old.buffer.can.readable ≡ true → IsText old.buffer old.held old.front old.at old.taken old.dirty old.settings → enough asked old.held.newline old.held.known ≡ None → IsDrained false old.held → HoldsNothing old.buffer → count ≡ length old.held.known → old.held.known ≢ [] → GiveOutcome old count true (Ok text) new → Finishes old asked (Ok (answer.Short text)) new
finishes_short old new asked count text live reads is short drained holds size some gave =
    let known : List ℕ = old.held.known in
    let tied = tied_of old live reads is in
    let all : text_of text ≡ known = gave.0 ∙ take_all count known (omega (arith, size)) in
    let left : TextView = record old { held = without_front old.held count new.held.room; taken = old.taken + count; dirty = old.dirty || true } in
    let none : left.held.known ≡ [] = drop_all count known (omega (arith, size)) in
    record {
      buffer = ap (λ (view : TextView). view.buffer) gave.1;
      settings = ap (λ (view : TextView). view.settings) gave.1;
      answer = gives_text asked (text_of text);
      shorts = λ empty. some (sym all ∙ empty);
      sound = refl;
      place = moves_short asked (place_of old) (place_of new) old.buffer.place (text_of text) (subst (λ (cs : List ℕ). IfSome (size_of asked) (λ most. length cs ≤ most)) (sym all) (is_short asked old.held.newline known short).size) (gave_place old new count true text (omega (arith, size)) gave);
      lines = reads_one asked old.held.newline old.settings.newline known (text_of text) (is.reads_by reads).newline ((is_short asked old.held.newline known short).answer ∙ sym all);
      blames = blames_none asked (text_of text) old.settings (place_of old) old.buffer.place;
      told = λ told. subst (λ (cs : List ℕ). TextFileStep (shown_file old) (call_of asked) (Text cs) true false (shown_file new)) (sym all)
          (subst (TextFileStep (shown_file old) (call_of asked) (Text known) true false) (sym (gave_file old new count true text gave ∙ ap (λ (n : ℕ). after_taking (shown_file old) n true) size)) (step_waits old asked (tied told) short some));
      hides = λ waits. subst (λ (view : TextView). HoldsNothing view.buffer × WhereShown old.buffer (ShowsAll (shown_file view) view.buffer.place)) (sym gave.1)
          (holds, λ told. shows_all left (omega (arith, is.forth, is.stands)) none (record { items = drained.items; refusal = drained.refusal; none = drained.none }) (knows_given old.settings (flat_of old.buffer).bytes old.buffer.place old.front old.at old.taken old.held count new.held.room (omega (arith, size)) is.has (tied told).knows));
    }
