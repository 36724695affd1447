-- An answer of a text is the front of what is left, and what is left after it is the rest.
use Rattle.std.proofs.Common.{◌≡◌, ◌≢◌, ℕ, ◌+◌, inl, inr, max, Bool, true, false, List, [], ◌++◌, length, drop, Option, Some, None, refl, sym, ap, subst, ◌∙◌, arith}
use Rattle.std.proofs.Math.Seq.{drop-append_seam}
use Rattle.std.proofs.lemmas.List.{append-nil, drop_all, drop-drop}
use Rattle.py_flat.specs.declared.fault.IoFault.{IoFault}
use Rattle.py_flat.specs.declared.fault.IoFault.TheVariants as fault
use Rattle.py_flat.specs.declared.life.Life.{Life}
use Rattle.py_flat.specs.declared.life.Life.TheVariants as life
use Rattle.py_flat.specs.Bytes.{first_of}
use Rattle.py_flat.specs.Lines.{first_line}
use Rattle.py_flat.specs.Calls.{FileReply, Text, NotReady, Refused}
use Rattle.py_flat.specs.BinaryStep.{IsFrontOf}
use Rattle.py_flat.specs.AllowedStep.{settled, waited_for, raw_faulted, out_of_memory}
use Rattle.py_flat.proofs.Cutting.{front_of_front, first_of_is_front, first_line_is_front}
use Rattle.py_plain.specs.declared.newlines.Newlines.{Newlines}
use Rattle.py_plain.specs.declared.newlines.Newlines.TheVariants as newlines
use Rattle.py_plain.specs.Handlers.{treatment}
use Rattle.py_plain.specs.Items.{Walk, AtEnd, ends, walk_from, characters_of, refusal_of}
use Rattle.py_plain.specs.NewlineRule.{line_end, translated}
use Rattle.py_plain_text.specs.Rest.{front_characters, decoded, text_rest}
use Rattle.py_plain_text.specs.TextFile.{TextFile}
use Rattle.py_plain_text.specs.TextStep.{range_refusal, asks_any, after_taking, at_the_end, answered_text, ReadsTextPart}
use Rattle.py_plain_text.specs.Cookie as cookie
use Rattle.py_plain_text.specs.Landing.{Landed, Stands, CantRestore, lands}
use Rattle.py_plain_text.specs.TextCalls.{TextFileCall, Read, ReadLine, WriteText, SeekText, Flush, Close, Detach, Closed}
use Rattle.py_plain_text.specs.TextRefusals.{refusal}
use Rattle.py_plain_text.specs.TextExact.{carried_out, sought_cookie, after_landing}
use Rattle.py_plain_text.specs.TextAllowed.{DetachesIn, Accepted, SettledBy, WaitedBy, LeftStarved, Starved, TextFileStep}
use Rattle.py_open.specs.TextLaws.{LosesNothing, moves_on}
use Rattle.py_open.proofs.Blaming.{settled_not}

-- all characters of a text before those that were taken are left out
abbrev pub all_characters : TextFile → List ℕ
all_characters file = front_characters file.settings file.place.order file.bytes file.place.front ++ translated file.settings.newline (characters_of (decoded file).items)

taking : (file : TextFile) (answer : List ℕ) (asks : Bool) → IsFrontOf answer (text_rest file).characters → LosesNothing file answer (after_taking file (length answer) asks)
taking file answer asks front =
    let left : List ℕ = drop file.place.taken (all_characters file) in
    let behind : drop (file.place.taken + length answer) (all_characters file) ≡ front.0 = sym (drop-drop (length answer) file.place.taken (all_characters file)) ∙ ap (drop (length answer)) (sym front.1) ∙ drop-append_seam answer front.0 in
    record {
      characters = sym front.1 ∙ ap (λ (rest : List ℕ). answer ++ rest) (sym behind);
      refusal = refl;
    }

translated_none : (rule : Newlines) → translated rule [] ≡ []
translated_none newlines.Universal = refl
translated_none newlines.Passthrough = refl
translated_none newlines.Lf = refl
translated_none newlines.Cr = refl
translated_none newlines.Crlf = refl

-- nothing is left at the end
end_walk : (file : TextFile) → decoded (at_the_end file) ≡ ends file.place.order AtEnd
end_walk file =
    let place : ℕ = max file.place.at (length file.bytes) in
    let none : drop place file.bytes ≡ [] = drop_all place file.bytes (omega arith) in
    ap (walk_from file.settings.encoding (treatment file.settings.handler file.settings.encoding) true file.place.order place 0) none

-- a read of all takes all that is left, where no refused range ends it
taking_all : (file : TextFile) → (text_rest file).refusal ≡ None → LosesNothing file (text_rest file).characters (at_the_end file)
taking_all file unrefused =
    let none : (text_rest (at_the_end file)).characters ≡ [] = ap (λ (w : Walk). translated file.settings.newline (characters_of w.items)) (end_walk file) ∙ translated_none file.settings.newline in
    record {
      characters = sym (append-nil (text_rest file).characters) ∙ ap (λ (rest : List ℕ). (text_rest file).characters ++ rest) (sym none);
      refusal = ap (λ (w : Walk). refusal_of w.ending) (end_walk file) ∙ sym unrefused;
    }

-- An exact answer.

-- a text that was answered is what was to be answered, and no refusal came first
pub record Answered (refused : Option IoFault) (expected answer : List ℕ) (left after : TextFile) : Type 0 where
  pub unrefused : refused ≡ None
  pub says : answer ≡ expected
  pub leaves : after ≡ left

answered : (file : TextFile) (refused : Option IoFault) (expected answer : List ℕ) (left after : TextFile) → (Text answer, after) ≡ answered_text file refused expected left → Answered refused expected answer left after
answered file None expected answer left after exact =
    let says : Text answer ≡ Text expected = ap (λ (p : FileReply × TextFile). p.0) exact in
    record { unrefused = refl; says = cc; leaves = ap (λ (p : FileReply × TextFile). p.1) exact }
answered file (Some why) expected answer left after exact =
    let wrong : Text answer ≡ Refused why = ap (λ (p : FileReply × TextFile). p.0) exact in absurd (cc)

unrefused_range : (range : Option (ℕ × ℕ)) → range_refusal true range ≡ None → range ≡ None
unrefused_range None none = refl
unrefused_range (Some range) none = absurd (cc)

along : (file : TextFile) (refused : Option IoFault) (expected answer : List ℕ) (left after : TextFile) → Answered refused expected answer left after → LosesNothing file expected left → LosesNothing file answer after
along file refused expected answer left after done kept =
    subst (λ (cs : List ℕ). LosesNothing file cs after) (sym done.says) (subst (λ (f : TextFile). LosesNothing file expected f) (sym done.leaves) kept)

-- whether a reply is a text, or a refusal
abbrev says_text : FileReply → Bool
says_text (Text characters) = true
says_text reply = false

abbrev says_refused : FileReply → Bool
says_refused (Refused why) = true
says_refused reply = false

reply_is : (reply : FileReply) (after : TextFile) (pair : FileReply × TextFile) → (reply, after) ≡ pair → reply ≡ pair.0
reply_is reply after pair is = ap (λ (p : FileReply × TextFile). p.0) is

landing_no_text : (file : TextFile) (sought : cookie.Cookie) (landed : Landed) → says_text (after_landing file sought landed).0 ≡ false
landing_no_text file sought (Stands place) = refl
landing_no_text file sought (CantRestore place) = refl

-- a reply of another kind is no text
no_text : (answer : List ℕ) (reply : FileReply) → Text answer ≡ reply → says_text reply ≡ false → ⊥
no_text answer reply same none =
    let never : true ≡ false = ap says_text same ∙ none in
    absurd (cc)

no_refusal : (why : IoFault) (reply : FileReply) → Refused why ≡ reply → says_refused reply ≡ false → ⊥
no_refusal why reply same none =
    let never : true ≡ false = ap says_refused same ∙ none in
    absurd (cc)

carried_loses_nothing : (file : TextFile) (call : TextFileCall) (answer : List ℕ) (after : TextFile) → (Text answer, after) ≡ carried_out file call → LosesNothing file answer after
carried_loses_nothing file (Read None) answer after exact =
    let rest = text_rest file in
    let done = answered file (range_refusal true rest.refusal) rest.characters answer (at_the_end file) after exact in
    along file _ rest.characters answer (at_the_end file) after done (taking_all file (unrefused_range rest.refusal done.unrefused))
carried_loses_nothing file (Read (Some size)) answer after exact =
    let part : List ℕ = first_of (Some size) (text_rest file).characters in
    let asks : Bool = asks_any (Some size) in
    let left : TextFile = after_taking file (length part) asks in
    along file _ part answer left after (answered file _ part answer left after exact) (taking file part asks (first_of_is_front (Some size) (text_rest file).characters))
carried_loses_nothing file (ReadLine limit) answer after exact =
    let line : List ℕ = first_line (line_end file.settings.newline) limit (text_rest file).characters in
    let asks : Bool = asks_any limit in
    let left : TextFile = after_taking file (length line) asks in
    along file _ line answer left after (answered file _ line answer left after exact) (taking file line asks (first_line_is_front (line_end file.settings.newline) limit (text_rest file).characters))
carried_loses_nothing file (SeekText bytes whence) answer after exact =
    let sought : cookie.Cookie = sought_cookie file bytes whence in
    absurd (no_text answer _ (reply_is (Text answer) after _ exact) (landing_no_text file sought (lands file sought)))
carried_loses_nothing file call answer after exact = absurd (no_text answer _ (reply_is (Text answer) after _ exact) refl)

detaches_no_text : (current : Life) (file : TextFile) (answer : List ℕ) (after : TextFile) → DetachesIn current file (Text answer) after → ⊥
detaches_no_text life.Failed file answer after is = no_text answer _ is.says refl
detaches_no_text life.Live file answer after is = no_text answer _ (reply_is (Text answer) after _ is) refl
detaches_no_text life.Closed file answer after is = no_text answer _ (reply_is (Text answer) after _ is) refl
detaches_no_text life.Detached file answer after is = no_text answer _ (reply_is (Text answer) after _ is) refl

accepted_loses_nothing : (file : TextFile) (call : TextFileCall) (answer : List ℕ) (after : TextFile) → Accepted file call (Text answer) after → LosesNothing file answer after
accepted_loses_nothing file Detach answer after is = absurd (detaches_no_text file.life file answer after is)
accepted_loses_nothing file call answer after is = carried_loses_nothing file call answer after is

settled_loses_nothing : (file : TextFile) (call : TextFileCall) (refused : Option IoFault) (answer : List ℕ) (after : TextFile) → SettledBy file call refused (Text answer) after → LosesNothing file answer after
settled_loses_nothing file call None answer after is = accepted_loses_nothing file call answer after is
settled_loses_nothing file call (Some why) answer after is = absurd (no_text answer _ is.0 refl)

-- A short answer.

part_loses_nothing : (file : TextFile) (wanted answer : List ℕ) (after : TextFile) → IsFrontOf wanted (text_rest file).characters → ReadsTextPart file wanted (Text answer) after → LosesNothing file answer after
part_loses_nothing file wanted answer after front (inl none) = absurd (no_text answer _ none.0 refl)
part_loses_nothing file wanted answer after front (inr short) =
    let part : List ℕ = short.0 in
    let says : Text answer ≡ Text part = short.3 in
    let same : answer ≡ part = cc in
    let kept = taking file part true (front_of_front part wanted (text_rest file).characters short.1 front) in
    subst (λ (cs : List ℕ). LosesNothing file cs after) (sym same) (subst (λ (f : TextFile). LosesNothing file part f) (sym short.4) kept)

waited_loses_nothing : (file : TextFile) (call : TextFileCall) (answer : List ℕ) (after : TextFile) → WaitedBy file call (Text answer) after → LosesNothing file answer after
waited_loses_nothing file (Read size) answer after part = part_loses_nothing file _ answer after (first_of_is_front size (text_rest file).characters) part
waited_loses_nothing file (ReadLine limit) answer after part = part_loses_nothing file _ answer after (first_line_is_front (line_end file.settings.newline) limit (text_rest file).characters) part
waited_loses_nothing file (WriteText text) answer after part = absurd (no_text answer _ part.0 refl)
waited_loses_nothing file (SeekText bytes whence) answer after (inl part) = absurd (no_text answer _ part.0 refl)
waited_loses_nothing file (SeekText bytes whence) answer after (inr part) = absurd (no_text answer _ part.1 refl)
waited_loses_nothing file Flush answer after part = absurd (no_text answer _ part.0 refl)
waited_loses_nothing file Close answer after part = absurd (no_text answer _ part.0 refl)
waited_loses_nothing file Detach answer after part = absurd (no_text answer _ part.0 refl)
waited_loses_nothing file call answer after part = absurd part

-- no answer loses anything
pub answer_loses_nothing : (before : TextFile) (call : TextFileCall) (answer : List ℕ) (waited faulted : Bool) (after : TextFile) → TextFileStep before call (Text answer) waited faulted after → LosesNothing before answer after
answer_loses_nothing before call answer waited faulted after (settled is) = settled_loses_nothing before call (refusal before call) answer after is
answer_loses_nothing before call answer waited faulted after (waited_for rose part) = waited_loses_nothing before call answer after part.1
answer_loses_nothing before call answer waited faulted after (raw_faulted rose said left) = absurd (no_text answer _ said refl)
answer_loses_nothing before call answer waited faulted after (out_of_memory said left) = absurd (no_text answer _ said refl)

-- Answers that aren't ready.

unready_part : (file : TextFile) (wanted : List ℕ) (after : TextFile) → ReadsTextPart file wanted NotReady after → after ≡ file
unready_part file wanted after (inl none) = none.1
unready_part file wanted after (inr short) = let wrong : NotReady ≡ Text short.0 = short.3 in absurd (cc)

unready_waiting : (file : TextFile) (call : TextFileCall) (after : TextFile) → WaitedBy file call NotReady after → after ≡ file
unready_waiting file (Read size) after part = unready_part file _ after part
unready_waiting file (ReadLine limit) after part = unready_part file _ after part
unready_waiting file (WriteText text) after part = let wrong : NotReady ≡ Refused _ = part.0 in absurd (cc)
unready_waiting file (SeekText bytes whence) after (inl part) = part.1
unready_waiting file (SeekText bytes whence) after (inr part) = let wrong : NotReady ≡ Refused (fault.WouldBlock 0) = part.1 in absurd (cc)
unready_waiting file Flush after part = part.1
unready_waiting file Close after part = part.1
unready_waiting file Detach after part = part.1
unready_waiting file call after part = absurd part

pub unready_leaves_text : (before : TextFile) (call : TextFileCall) (waited faulted : Bool) (after : TextFile) → TextFileStep before call NotReady waited faulted after → after ≡ before
unready_leaves_text before call waited faulted after (settled is) = absurd (settled_not before call NotReady NotReady after refl is refl)
unready_leaves_text before call waited faulted after (waited_for rose part) = unready_waiting before call after part.1
unready_leaves_text before call waited faulted after (raw_faulted rose said left) = let wrong : NotReady ≡ Refused fault.RawFault = said in absurd (cc)
unready_leaves_text before call waited faulted after (out_of_memory said left) = let wrong : NotReady ≡ Refused fault.NoMemory = said in absurd (cc)

-- Refusals.

refused_answer : (file : TextFile) (refused : Option IoFault) (expected : List ℕ) (why : IoFault) (left after : TextFile) → (Refused why, after) ≡ answered_text file refused expected left → after ≡ file
refused_answer file None expected why left after exact = absurd (no_refusal why _ (reply_is (Refused why) after _ exact) refl)
refused_answer file (Some own) expected why left after exact = ap (λ (p : FileReply × TextFile). p.1) exact

refused_carried : (file : TextFile) (call : TextFileCall) (why : IoFault) (after : TextFile) → moves_on call ≡ false → (Refused why, after) ≡ carried_out file call → after ≡ file
refused_carried file (Read size) why after still exact = refused_answer file _ _ why _ after exact
refused_carried file (ReadLine limit) why after still exact = refused_answer file _ _ why _ after exact
refused_carried file (SeekText bytes whence) why after still exact = absurd (cc)
refused_carried file call why after still exact = absurd (no_refusal why _ (reply_is (Refused why) after _ exact) refl)

detaches_no_refusal : (current : Life) (file : TextFile) (why : IoFault) (after : TextFile) → DetachesIn current file (Refused why) after → ⊥
detaches_no_refusal life.Failed file why after is = no_refusal why _ is.says refl
detaches_no_refusal life.Live file why after is = no_refusal why _ (reply_is (Refused why) after _ is) refl
detaches_no_refusal life.Closed file why after is = no_refusal why _ (reply_is (Refused why) after _ is) refl
detaches_no_refusal life.Detached file why after is = no_refusal why _ (reply_is (Refused why) after _ is) refl

refused_accepted : (file : TextFile) (call : TextFileCall) (why : IoFault) (after : TextFile) → moves_on call ≡ false → Accepted file call (Refused why) after → after ≡ file
refused_accepted file Detach why after still is = absurd (detaches_no_refusal file.life file why after is)
refused_accepted file call why after still is = refused_carried file call why after still is

refused_settled : (file : TextFile) (call : TextFileCall) (refused : Option IoFault) (why : IoFault) (after : TextFile) → moves_on call ≡ false → SettledBy file call refused (Refused why) after → after ≡ file
refused_settled file call None why after still is = refused_accepted file call why after still is
refused_settled file call (Some own) why after still is = is.1

refused_part : (file : TextFile) (wanted : List ℕ) (why : IoFault) (after : TextFile) → ReadsTextPart file wanted (Refused why) after → after ≡ file
refused_part file wanted why after (inl none) = none.1
refused_part file wanted why after (inr short) = absurd (no_refusal why _ short.3 refl)

refused_waiting : (file : TextFile) (call : TextFileCall) (why : IoFault) (after : TextFile) → moves_on call ≡ false → WaitedBy file call (Refused why) after → after ≡ file
refused_waiting file (Read size) why after still part = refused_part file _ why after part
refused_waiting file (ReadLine limit) why after still part = refused_part file _ why after part
refused_waiting file (WriteText text) why after still part = absurd (cc)
refused_waiting file (SeekText bytes whence) why after still part = absurd (cc)
refused_waiting file Flush why after still part = part.1
refused_waiting file Close why after still part = part.1
refused_waiting file Detach why after still part = part.1
refused_waiting file call why after still part = absurd part

-- a refusal that is no fault of the raw, and no want of memory, leaves all
pub refusal_leaves_text : (before : TextFile) (call : TextFileCall) (why : IoFault) (waited faulted : Bool) (after : TextFile) → moves_on call ≡ false → why ≢ fault.RawFault → why ≢ fault.NoMemory → TextFileStep before call (Refused why) waited faulted after → after ≡ before
refusal_leaves_text before call why waited faulted after still other has (settled is) = refused_settled before call (refusal before call) why after still is
refusal_leaves_text before call why waited faulted after still other has (waited_for rose part) = refused_waiting before call why after still part.1
refusal_leaves_text before call why waited faulted after still other has (raw_faulted rose said left) = let same : Refused why ≡ Refused fault.RawFault = said in absurd (other (cc))
refusal_leaves_text before call why waited faulted after still other has (out_of_memory said left) = let same : Refused why ≡ Refused fault.NoMemory = said in absurd (has (cc))

-- Want of memory.

starved_unwritten : (file : TextFile) (call : TextFileCall) (after : TextFile) → file.can.writable ≡ false → Starved file call after → LeftStarved file call after
starved_unwritten file call after unwritten (inl kept) = kept.1
starved_unwritten file call after unwritten (inr midway) = let never : true ≡ false = sym midway.1.0 ∙ unwritten in absurd (cc)

lacking_waiting : (file : TextFile) (call : TextFileCall) (after : TextFile) → WaitedBy file call (Refused fault.NoMemory) after → ⊥
lacking_waiting file (Read size) after (inl part) = let wrong : Refused fault.NoMemory ≡ NotReady = part.0 in absurd (cc)
lacking_waiting file (Read size) after (inr part) = no_refusal fault.NoMemory _ part.3 refl
lacking_waiting file (ReadLine limit) after (inl part) = let wrong : Refused fault.NoMemory ≡ NotReady = part.0 in absurd (cc)
lacking_waiting file (ReadLine limit) after (inr part) = no_refusal fault.NoMemory _ part.3 refl
lacking_waiting file (WriteText text) after part = let wrong : Refused fault.NoMemory ≡ Refused (fault.WouldBlock _) = part.0 in absurd (cc)
lacking_waiting file (SeekText bytes whence) after (inl part) = let wrong : Refused fault.NoMemory ≡ Refused (fault.WouldBlock 0) = part.0 in absurd (cc)
lacking_waiting file (SeekText bytes whence) after (inr part) = let wrong : Refused fault.NoMemory ≡ Refused (fault.WouldBlock 0) = part.1 in absurd (cc)
lacking_waiting file Flush after part = let wrong : Refused fault.NoMemory ≡ Refused (fault.WouldBlock 0) = part.0 in absurd (cc)
lacking_waiting file Close after part = let wrong : Refused fault.NoMemory ≡ Refused (fault.WouldBlock 0) = part.0 in absurd (cc)
lacking_waiting file Detach after part = let wrong : Refused fault.NoMemory ≡ Refused (fault.WouldBlock 0) = part.0 in absurd (cc)
lacking_waiting file call after part = part

-- want of memory leaves a text that can't write, but for where a seek may leave it
pub lacking_leaves_text : (before : TextFile) (call : TextFileCall) (waited faulted : Bool) (after : TextFile) → before.can.writable ≡ false → TextFileStep before call (Refused fault.NoMemory) waited faulted after → LeftStarved before call after
lacking_leaves_text before call waited faulted after unwritten (settled is) = absurd (settled_not before call (Refused fault.NoMemory) (Refused fault.NoMemory) after refl is refl)
lacking_leaves_text before call waited faulted after unwritten (waited_for rose part) = absurd (lacking_waiting before call after part.1)
lacking_leaves_text before call waited faulted after unwritten (raw_faulted rose said left) = let wrong : Refused fault.NoMemory ≡ Refused fault.RawFault = said in absurd (cc)
lacking_leaves_text before call waited faulted after unwritten (out_of_memory said left) = starved_unwritten before call after unwritten left
