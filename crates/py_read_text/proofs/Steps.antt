-- What a text answers is what the model allows.
use Rattle.std.proofs.Common.{◌≡◌, ◌≢◌, ℕ, ◌≤◌, inl, inr, Bool, true, false, IsTrue, List, [], ◌++◌, length, take, drop, Option, Some, None, refl, sym, ap, ◌∙◌, subst}
use Rattle.std.proofs.lemmas.List.{length-take-le}
use Rattle.std.proofs.Math.Seq.{drop-append_seam}
use Rattle.py_flat.specs.declared.fault.IoFault.{IoFault}
use Rattle.py_flat.specs.declared.fault.IoFault.TheVariants as fault
use Rattle.py_flat.specs.declared.life.Life.TheVariants as life
use Rattle.py_flat.specs.Bytes.{left_at}
use Rattle.py_flat.specs.Calls.{FileReply, Text, NotReady, Refused}
use Rattle.py_flat.specs.BinaryStep.{IsFrontOf}
use Rattle.py_flat.specs.AllowedStep.{settled, waited_for}
use Rattle.py_plain.specs.Items.{characters_of}
use Rattle.py_plain.specs.NewlineRule.{read_all}
use Rattle.py_plain_text.specs.Rest.{Rest, text_rest}
use Rattle.py_plain_text.specs.TextFile.{TextFile}
use Rattle.py_plain_text.specs.TextStep.{asks_any, range_refusal, after_taking, at_the_end, answered_text, ReadsTextPart}
use Rattle.py_plain_text.specs.TextRefusals.{refusal}
use Rattle.py_plain_text.specs.TextAllowed.{SettledBy, WaitedBy, does_work, TextFileStep}
use Rattle.py_stream.specs.Buffer.{flat_of}
use Rattle.py_held_text.specs.declared.wanted.Wanted.{Wanted}
use Rattle.py_held_text.specs.declared.wanted.Wanted.TheVariants.{Characters, Line}
use Rattle.py_held_text.specs.Held.{ahead, left_with}
use Rattle.py_held_text.specs.Finding.{answer_of, enough, enough_before}
use Rattle.py_read_text.specs.Answers.{refused_here}
use Rattle.py_read_text.specs.Knowing.{TextView, shown_file, from_place, KnowsTold}
use Rattle.py_read_text.specs.Reading.{call_of, size_of, asks_all, passes, rest_of, ComesLast}
use Rattle.py_read_text.proofs.Enough.{is_enough, is_short, is_before, passes_range}

-- a live text that reads, with what it knows where its buffer tells
pub record Tied (text : TextView) : Type 0 where
  pub live : text.buffer.life ≡ life.Live
  pub reads : text.buffer.can.readable ≡ true
  pub rule : text.held.newline ≡ text.settings.newline
  pub knows : KnowsTold text.settings (flat_of text.buffer).bytes text.buffer.place text.front text.at text.taken text.held

pub behind_given : (given cs : List ℕ) (taken : ℕ) → length given ≡ taken → drop taken (given ++ cs) ≡ cs
behind_given given cs taken count = ap (λ (n : ℕ). drop n (given ++ cs)) (sym count) ∙ drop-append_seam given cs

-- what is left of the text that it stands for
pub rest_is : (text : TextView) → Tied text → text_rest (shown_file text) ≡ rest_of text
rest_is text told =
    let knows = told.knows in
    let from : Rest = left_with (from_place text.settings text.at) (left_at (flat_of text.buffer).bytes text.at) in
    ap (λ (rest : Rest). let left : Rest = record { characters = drop text.taken rest.characters; refusal = rest.refusal } in left) knows.left
    ∙ ap (λ (cs : List ℕ). let left : Rest = record { characters = cs; refusal = (rest_of text).refusal } in left) (behind_given knows.given (rest_of text).characters text.taken knows.count)

-- The exact answer.

-- what a whole answer leaves
abbrev pub after_whole : TextFile → Wanted → List ℕ → TextFile
after_whole file (Characters None) characters = at_the_end file
after_whole file (Characters (Some size)) characters = after_taking file (length characters) (asks_any (Some size))
after_whole file (Line limit) characters = after_taking file (length characters) (asks_any limit)

-- the model's answer of what is left
abbrev pub answered : TextFile → Wanted → Rest → FileReply × TextFile
answered file asked rest = answered_text file (range_refusal (passes asked file.settings.newline rest.characters) rest.refusal) (answer_of asked file.settings.newline rest.characters) (after_whole file asked (answer_of asked file.settings.newline rest.characters))

pub accepts : (file : TextFile) (asked : Wanted) → file.life ≡ life.Live → file.can.readable ≡ true → refusal file (call_of asked) ≡ None
accepts file (Characters size) live reads = rw live (rw reads refl)
accepts file (Line limit) live reads = rw live (rw reads refl)

pub refused_so : (file : TextFile) (asked : Wanted) → refused_here file (call_of asked) ≡ refusal file (call_of asked)
refused_so file (Characters size) = refl
refused_so file (Line limit) = refl

pub accepts_here : (file : TextFile) (asked : Wanted) → file.life ≡ life.Live → file.can.readable ≡ true → refused_here file (call_of asked) ≡ None
accepts_here file asked live can = refused_so file asked ∙ accepts file asked live can

accepted : (file : TextFile) (asked : Wanted) (reply : FileReply) (after : TextFile) → (reply, after) ≡ answered file asked (text_rest file) → SettledBy file (call_of asked) None reply after
accepted file (Characters None) reply after exact = exact
accepted file (Characters (Some size)) reply after exact = exact
accepted file (Line limit) reply after exact = exact

-- an answer that is the model's of what is left
settles : (text : TextView) (asked : Wanted) (reply : FileReply) (after : TextFile) → Tied text → (reply, after) ≡ answered (shown_file text) asked (rest_of text) → TextFileStep (shown_file text) (call_of asked) reply false false after
settles text asked reply after told exact =
    let file : TextFile = shown_file text in
    settled (subst (λ (refused : Option IoFault). SettledBy file (call_of asked) refused reply after) (sym (accepts file asked told.live told.reads))
    (accepted file asked reply after (exact ∙ ap (answered file asked) (sym (rest_is text told)))))

no_refusal : (range : Option (ℕ × ℕ)) → range_refusal false range ≡ None
no_refusal None = refl
no_refusal (Some range) = refl

-- an answer with which nothing is passed
answered_whole : (file : TextFile) (asked : Wanted) (rest : Rest) (cs : List ℕ) → passes asked file.settings.newline rest.characters ≡ false → answer_of asked file.settings.newline rest.characters ≡ cs → answered file asked rest ≡ (Text cs, after_whole file asked cs)
answered_whole file asked rest cs stops is =
    ap (λ (passing : Bool). answered_text file (range_refusal passing rest.refusal) (answer_of asked file.settings.newline rest.characters) (after_whole file asked (answer_of asked file.settings.newline rest.characters))) stops
    ∙ (ap (λ (refused : Option IoFault). answered_text file refused (answer_of asked file.settings.newline rest.characters) (after_whole file asked (answer_of asked file.settings.newline rest.characters))) (no_refusal rest.refusal)
    ∙ ap (λ (answer : List ℕ). answered_text file None answer (after_whole file asked answer)) is)

unrefused : (passing : Bool) (range : Option (ℕ × ℕ)) → range ≡ None → range_refusal passing range ≡ None
unrefused passing range none = ap (range_refusal passing) none

-- an answer behind which no range is refused
answered_last : (file : TextFile) (asked : Wanted) (rest : Rest) (cs : List ℕ) → rest.refusal ≡ None → answer_of asked file.settings.newline rest.characters ≡ cs → answered file asked rest ≡ (Text cs, after_whole file asked cs)
answered_last file asked rest cs none is =
    ap (λ (refused : Option IoFault). answered_text file refused (answer_of asked file.settings.newline rest.characters) (after_whole file asked (answer_of asked file.settings.newline rest.characters))) (unrefused (passes asked file.settings.newline rest.characters) rest.refusal none)
    ∙ ap (λ (answer : List ℕ). answered_text file None answer (after_whole file asked answer)) is

-- the range that an answer would pass
answered_range : (file : TextFile) (asked : Wanted) (rest : Rest) (start end : ℕ) → rest.refusal ≡ Some (start, end) → passes asked file.settings.newline rest.characters ≡ true → answered file asked rest ≡ (Refused (fault.UnicodeDecodeError start end), file)
answered_range file asked rest start end range passing =
    let answer : List ℕ = answer_of asked file.settings.newline rest.characters in
    ap (λ (own : Bool). answered_text file (range_refusal own rest.refusal) answer (after_whole file asked answer)) passing
    ∙ ap (λ (own : Option (ℕ × ℕ)). answered_text file (range_refusal true own) answer (after_whole file asked answer)) range

-- what taking a count leaves is what a whole answer of so many characters leaves
taking_whole : (file : TextFile) (asked : Wanted) (count : ℕ) (cs : List ℕ) → asks_all asked ≡ false → length cs ≡ count → after_whole file asked cs ≡ after_taking file count (asks_any (size_of asked))
taking_whole file (Characters None) count cs sized size = absurd (cc)
taking_whole file (Characters (Some most)) count cs sized size = ap (λ (n : ℕ). after_taking file n (asks_any (Some most))) size
taking_whole file (Line limit) count cs sized size = ap (λ (n : ℕ). after_taking file n (asks_any limit)) size

-- a read of all is never enough
pub enough_sized : (asked : Wanted) (rule : _) (known : List ℕ) (count : ℕ) → enough asked rule known ≡ Some count → asks_all asked ≡ false
enough_sized (Characters None) rule known count is = absurd (cc)
enough_sized (Characters (Some size)) rule known count is = refl
enough_sized (Line limit) rule known count is = refl

pub before_sized : (asked : Wanted) (rule : _) (known : List ℕ) (count : ℕ) → enough_before asked rule known ≡ Some count → asks_all asked ≡ false
before_sized (Characters None) rule known count is = absurd (cc)
before_sized (Characters (Some size)) rule known count is = refl
before_sized (Line limit) rule known count is = refl

-- Steps.

-- the first of the known characters, and what taking them leaves
answer_pair : (file : TextFile) (asked : Wanted) (known : List ℕ) (count : ℕ) → asks_all asked ≡ false → count ≤ length known → ◌≡◌ {A = FileReply × TextFile} (Text (take count known), after_taking file count (asks_any (size_of asked))) (Text (take count known), after_whole file asked (take count known))
answer_pair file asked known count sized within = ap (λ (left : TextFile). let pair : FileReply × TextFile = (Text (take count known), left) in pair) (sym (taking_whole file asked count (take count known) sized (length-take-le count known within)))

-- told: known characters that are enough
pub step_enough : (text : TextView) (asked : Wanted) (count : ℕ) → Tied text → enough asked text.held.newline text.held.known ≡ Some count → TextFileStep (shown_file text) (call_of asked) (Text (take count text.held.known)) false false (after_taking (shown_file text) count (asks_any (size_of asked)))
step_enough text asked count told is =
    let known : List ℕ = text.held.known in
    let own = subst (λ (rule : _). enough asked rule known ≡ Some count) told.rule is in
    let ready = is_enough asked text.settings.newline known count own in
    let behind : List ℕ = read_all text.held.newline text.held.cr (characters_of (ahead text.held true (left_at (flat_of text.buffer).bytes text.buffer.place)).items) in
    settles text asked (Text (take count known)) (after_taking (shown_file text) count (asks_any (size_of asked))) told
    (answer_pair (shown_file text) asked known count (enough_sized asked text.settings.newline known count own) ready.within
    ∙ sym (answered_whole (shown_file text) asked (rest_of text) (take count known) (ready.stops behind) (ready.answer behind)))

last_rest : (text : TextView) (range : Option (ℕ × ℕ)) → ComesLast text range → rest_of text ≡ (let rest : Rest = record { characters = text.held.known; refusal = range } in rest)
last_rest text range last =
    ap (λ (cs : List ℕ). let rest : Rest = record { characters = cs; refusal = (rest_of text).refusal } in rest) last.characters
    ∙ ap (λ (own : Option (ℕ × ℕ)). let rest : Rest = record { characters = text.held.known; refusal = own } in rest) last.refusal_is

-- a refused range comes next, before which the answer ends
pub step_before : (text : TextView) (asked : Wanted) (count : ℕ) (range : Option (ℕ × ℕ)) → Tied text → ComesLast text range → enough_before asked text.held.newline text.held.known ≡ Some count → TextFileStep (shown_file text) (call_of asked) (Text (take count text.held.known)) false false (after_taking (shown_file text) count (asks_any (size_of asked)))
step_before text asked count range told last is =
    let known : List ℕ = text.held.known in
    let own = subst (λ (rule : _). enough_before asked rule known ≡ Some count) told.rule is in
    let ready = is_before asked text.settings.newline known count own in
    settles text asked (Text (take count known)) (after_taking (shown_file text) count (asks_any (size_of asked))) told
    (answer_pair (shown_file text) asked known count (before_sized asked text.settings.newline known count own) ready.within
    ∙ sym (ap (answered (shown_file text) asked) (last_rest text range last)
    ∙ answered_whole (shown_file text) asked (record { characters = known; refusal = range }) (take count known) ready.stops ready.answer))

-- a refused range comes next, which the answer would pass
pub step_refuses : (text : TextView) (asked : Wanted) (start end : ℕ) → Tied text → ComesLast text (Some (start, end)) → enough_before asked text.held.newline text.held.known ≡ None → TextFileStep (shown_file text) (call_of asked) (Refused (fault.UnicodeDecodeError start end)) false false (shown_file text)
step_refuses text asked start end told last is =
    let known : List ℕ = text.held.known in
    let own = subst (λ (rule : _). enough_before asked rule known ≡ None) told.rule is in
    settles text asked (Refused (fault.UnicodeDecodeError start end)) (shown_file text) told
    (sym (ap (answered (shown_file text) asked) (last_rest text (Some (start, end)) last)
    ∙ answered_range (shown_file text) asked (record { characters = known; refusal = Some (start, end) }) start end refl (passes_range asked text.settings.newline known own)))

-- nothing comes behind the known characters: a line, or so many of them
pub step_last : (text : TextView) (asked : Wanted) (count : ℕ) → Tied text → ComesLast text None → asks_all asked ≡ false → count ≤ length text.held.known → take count text.held.known ≡ answer_of asked text.held.newline text.held.known → TextFileStep (shown_file text) (call_of asked) (Text (take count text.held.known)) false false (after_taking (shown_file text) count (asks_any (size_of asked)))
step_last text asked count told last sized within is =
    let known : List ℕ = text.held.known in
    let own = subst (λ (rule : _). take count known ≡ answer_of asked rule known) told.rule is in
    settles text asked (Text (take count known)) (after_taking (shown_file text) count (asks_any (size_of asked))) told
    (answer_pair (shown_file text) asked known count sized within
    ∙ sym (ap (answered (shown_file text) asked) (last_rest text None last)
    ∙ answered_last (shown_file text) asked (record { characters = known; refusal = None }) (take count known) refl (sym own)))

-- nothing comes behind the known characters: all of them
pub step_all : (text : TextView) → Tied text → ComesLast text None → TextFileStep (shown_file text) (call_of (Characters None)) (Text text.held.known) false false (at_the_end (shown_file text))
step_all text told last =
    let known : List ℕ = text.held.known in
    settles text (Characters None) (Text known) (at_the_end (shown_file text)) told
    (sym (ap (answered (shown_file text) (Characters None)) (last_rest text None last)
    ∙ answered_last (shown_file text) (Characters None) (record { characters = known; refusal = None }) known refl refl))

-- Where the raw would have blocked.

pub works : (file : TextFile) (asked : Wanted) → file.life ≡ life.Live → file.can.readable ≡ true → IsTrue (does_work file (call_of asked))
works file (Characters size) live reads = rw live (rw reads refl)
works file (Line limit) live reads = rw live (rw reads refl)

-- what waits is what the model asks for
pub waited_by : (file : TextFile) (asked : Wanted) (reply : FileReply) (after : TextFile) → ReadsTextPart file (answer_of asked file.settings.newline (text_rest file).characters) reply after → WaitedBy file (call_of asked) reply after
waited_by file (Characters size) reply after part = part
waited_by file (Line limit) reply after part = part

-- told: all known characters are given short
pub step_waits : (text : TextView) (asked : Wanted) → Tied text → enough asked text.held.newline text.held.known ≡ None → text.held.known ≢ [] → TextFileStep (shown_file text) (call_of asked) (Text text.held.known) true false (after_taking (shown_file text) (length text.held.known) true)
step_waits text asked told is some =
    let file : TextFile = shown_file text in
    let known : List ℕ = text.held.known in
    let own = subst (λ (rule : _). enough asked rule known ≡ None) told.rule is in
    let behind : List ℕ = read_all text.held.newline text.held.cr (characters_of (ahead text.held true (left_at (flat_of text.buffer).bytes text.buffer.place)).items) in
    let front : IsFrontOf known (answer_of asked text.settings.newline (text_rest file).characters) = subst (λ (rest : Rest). IsFrontOf known (answer_of asked text.settings.newline rest.characters)) (sym (rest_is text told)) ((is_short asked text.settings.newline known own).front behind) in
    waited_for refl (works file asked told.live told.reads, waited_by file asked (Text known) (after_taking file (length known) true) (inr (known, front, some, refl, refl)))

-- told: nothing is known
pub step_unready : (text : TextView) (asked : Wanted) → Tied text → TextFileStep (shown_file text) (call_of asked) NotReady true false (shown_file text)
step_unready text asked told =
    let file : TextFile = shown_file text in
    waited_for refl (works file asked told.live told.reads, waited_by file asked NotReady file (inl (refl, refl)))
