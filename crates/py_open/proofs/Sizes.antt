-- No reply hangs on how large buffers and chunks are.
use Rattle.std.proofs.Common.{inl, ◌≡◌, ◌≢◌, ℕ, zero, suc, pos, Bool, true, false, List, [], ◌∷◌, Option, Some, None, refl, sym, ap, subst, ◌∙◌, if◌then◌else◌}
use Rattle.py_flat.specs.declared.fault.IoFault.{IoFault}
use Rattle.py_flat.specs.declared.fault.IoFault.TheVariants as fault
use Rattle.py_flat.specs.declared.life.Life.{Life}
use Rattle.py_flat.specs.declared.life.Life.TheVariants as life
use Rattle.py_flat.specs.Bytes.{lay}
use Rattle.py_flat.specs.Calls.{FileCall, Read, Read1, ReadInto1, Peek, Seek, Close, Detach, FileReply, Refused}
use Rattle.py_flat.specs.FlatFile.{Abilities, Buffering, Buffered, FlatFile}
use Rattle.py_flat.specs.Refusals.{refusal, is_getter, is_other_getter, life_fault, lets_through, lacks, argument_refusal, or_else, refused_if}
use Rattle.py_flat.specs.ExactStep.{answered, carried_out}
use Rattle.py_flat.specs.BinaryStep.{Settled, SettledBy, Accepted, DetachesIn}
use Rattle.py_plain_text.specs.TextFile.{TextFile}
use Rattle.py_plain_text.specs.TextExact.{with_chunk_size}
use Rattle.py_textio.proofs.Sizes.{goes_alike, settled_alike}
use Rattle.py_calls.specs.declared.call.Call.{Call}
use Rattle.py_calls.specs.declared.call.Call.TheVariants as call
use Rattle.py_calls.specs.declared.reply.Reply.{Reply}
use Rattle.py_calls.specs.Calls.{text_call, file_call}
use Rattle.py_open.specs.Session.{SessionFile, OfText, OfBinary, SessionView, TextSession, BinarySession, FileLeft, LeftBy, IsDetached, TextLeft, SettlesTextFile, unwritten_in, FileSettlesBy, Settles, file_seen, life_of, life_in}
use Rattle.py_open.specs.Run.{AllSettle, all_said}
use Rattle.py_open.specs.Laws.{left_exactly, with_buffer, AlikeButSizes, is_text, tells_size, NoneTellsSize, IsSmoothRun}
use Rattle.py_open.proofs.TextLeft.{left_exact}
use Rattle.py_open.proofs.Runs.{text_hands_none, left_alive, smooth_settles}

-- two steps are alike: their replies, and the files that they leave but for the sizes; neither failed
record StepsAlike (reply replied : FileReply) (left right : SessionFile) : Type 0 where
  says : replied ≡ reply
  alike : AlikeButSizes left right
  lives : life_in left ≢ life.Failed

-- Texts.

goes_on : (made : Call) → tells_size true made ≡ false → goes_alike (text_call made) ≡ true
goes_on call.ChunkSize is = absurd (cc)
goes_on made is = refl

-- what is left of two such texts is alike
left_sized : (was current : Life) (file : TextFile) (chunk : ℕ) → left_exactly was current (with_chunk_size file chunk) ≡ with_chunk_size (left_exactly was current file) chunk
left_sized life.Detached current file chunk = refl
left_sized was life.Detached file chunk = refl
left_sized was current file chunk = refl

settles_alike : (one : TextFile) (chunk : ℕ) (made : Call) (reply replied : FileReply) (left right : TextFile) → one.life ≢ life.Failed → tells_size true made ≡ false → SettlesTextFile one (text_call made) reply left → SettlesTextFile (with_chunk_size one chunk) (text_call made) replied right → StepsAlike reply replied (OfText left) (OfText right)
settles_alike one chunk made reply replied left right lives none here there =
    let both = settled_alike one chunk (text_call made) reply replied here.file there.file (goes_on made none) lives here.settled there.settled in
    let none_here : unwritten_in reply ≡ [] = text_hands_none one made reply here.file (inl lives) here.settled in
    let none_there : unwritten_in replied ≡ [] = ap unwritten_in both.says ∙ none_here in
    let behind : TextLeft one.life (with_chunk_size here.file both.chunk) replied right = subst (λ (file : TextFile). TextLeft one.life file replied right) both.leaves there.left in
    let left_is : left ≡ left_exactly one.life here.file.life here.file = left_exact one.life here.file.life here.file reply left refl none_here here.left in
    let right_is : right ≡ left_exactly one.life here.file.life (with_chunk_size here.file both.chunk) = left_exact one.life here.file.life (with_chunk_size here.file both.chunk) replied right refl none_there behind in
    record {
      says = both.says;
      alike = (both.chunk, right_is ∙ (left_sized one.life here.file.life here.file both.chunk ∙ ap (λ (file : TextFile). with_chunk_size file both.chunk) (sym left_is)));
      lives = λ failed. left_alive one.life here.file.life here.file both.lives (sym (ap (λ (file : TextFile). file.life) left_is) ∙ failed);
    }

texts_alike : (one other : TextFile) (made : Call) (reply replied : FileReply) (left right : TextFile) → AlikeButSizes (OfText one) (OfText other) → one.life ≢ life.Failed → tells_size true made ≡ false → Settles (OfText one) made reply (OfText left) → Settles (OfText other) made replied (OfText right) → StepsAlike reply replied (OfText left) (OfText right)
texts_alike one other made reply replied left right alike lives none here there =
    settles_alike one alike.0 made reply replied left right lives none here (subst (λ (file : TextFile). Settles (OfText file) made replied (OfText right)) alike.1 there)

-- Streams of bytes.

-- calls of which one transfer is made alone
abbrev is_one : FileCall → Bool
is_one (Read1 size) = true
is_one (ReadInto1 size) = true
is_one Peek = true
is_one made = false

-- what refuses a call, by whether its life lets it through
abbrev refusal_with : Bool → FlatFile → FileCall → Option IoFault
refusal_with lets file made = if is_getter made then None else or_else (refused_if (is_other_getter made) fault.Unsupported) (or_else (if lets then None else life_fault file.life) (or_else (refused_if (lacks file made) fault.Unsupported) (argument_refusal file made)))

lets_alike : (current : Life) (was is : ℕ) (made : FileCall) → lets_through current (Buffered is) made ≡ lets_through current (Buffered was) made
lets_alike life.Live was is made = refl
lets_alike life.Failed was is made = refl
lets_alike life.Closed was is made = refl
lets_alike life.Detached was is made = refl

refused_with : (lets : Bool) (file : FlatFile) (was is : ℕ) (made : FileCall) → refusal_with lets (with_buffer file is) made ≡ refusal_with lets (with_buffer file was) made
refused_with lets file was is (Seek offset (pos (suc (suc zero)))) = refl
refused_with lets file was is (Seek offset (pos (suc zero))) = refl
refused_with lets file was is (Seek offset whence) = refl
refused_with lets file was is made = refl

-- what refuses a call hangs on no size of a buffer
refused_alike : (file : FlatFile) (was is : ℕ) (made : FileCall) → refusal (with_buffer file is) made ≡ refusal (with_buffer file was) made
refused_alike file was is made =
    ap (λ (lets : Bool). refusal_with lets (with_buffer file is) made) (lets_alike file.life was is made)
    ∙ refused_with (lets_through file.life (Buffered was) made) file was is made

-- what two files answer and leave: the same, but for the size of the buffer; neither failed, and nothing is handed over
record AnswersAlike (was is : ℕ) (one other : FileReply × FlatFile) : Type 0 where
  says : other.0 ≡ one.0
  own : one.1 ≡ with_buffer one.1 was
  leaves : other.1 ≡ with_buffer one.1 is
  lives : one.1.life ≢ life.Failed
  none : unwritten_in one.0 ≡ []

closes_not : life.Closed ≢ life.Failed
closes_not is = absurd (cc)

detaches_not : life.Detached ≢ life.Failed
detaches_not is = absurd (cc)

carried_alike : (file : FlatFile) (was is : ℕ) (made : FileCall) → is_one made ≡ false → file.life ≢ life.Failed → AnswersAlike was is (carried_out (with_buffer file was) made) (carried_out (with_buffer file is) made)
carried_alike file was is (Read1 size) none lives = absurd (cc)
carried_alike file was is (ReadInto1 size) none lives = absurd (cc)
carried_alike file was is Peek none lives = absurd (cc)
carried_alike file was is Close none lives = record { says = refl; own = refl; leaves = refl; lives = closes_not; none = refl }
carried_alike file was is Detach none lives = record { says = refl; own = refl; leaves = refl; lives = detaches_not; none = refl }
carried_alike file was is (Seek offset (pos (suc (suc zero)))) none lives = record { says = refl; own = refl; leaves = refl; lives = lives; none = refl }
carried_alike file was is (Seek offset (pos (suc zero))) none lives = record { says = refl; own = refl; leaves = refl; lives = lives; none = refl }
carried_alike file was is (Seek offset whence) none lives = record { says = refl; own = refl; leaves = refl; lives = lives; none = refl }
carried_alike file was is made none lives = record { says = refl; own = refl; leaves = refl; lives = lives; none = refl }

answered_alike : (refused : Option IoFault) (file : FlatFile) (was is : ℕ) (made : FileCall) → is_one made ≡ false → file.life ≢ life.Failed → AnswersAlike was is (answered (with_buffer file was) made refused) (answered (with_buffer file is) made refused)
answered_alike None file was is made none lives = carried_alike file was is made none lives
answered_alike (Some why) file was is made none lives = record { says = refl; own = refl; leaves = refl; lives = lives; none = refl }

detached_exactly : (current : Life) (file : FlatFile) (reply : FileReply) (after : FlatFile) → current ≢ life.Failed → DetachesIn current file reply after → (reply, after) ≡ carried_out file Detach
detached_exactly life.Failed file reply after lives is = absurd (lives refl)
detached_exactly current file reply after lives is = is

accepted_exactly : (file : FlatFile) (size : ℕ) (made : FileCall) (reply : FileReply) (after : FlatFile) → is_one made ≡ false → file.life ≢ life.Failed → Accepted (with_buffer file size) made reply after → (reply, after) ≡ carried_out (with_buffer file size) made
accepted_exactly file size Detach reply after none lives is = detached_exactly file.life (with_buffer file size) reply after lives is
accepted_exactly file size (Read1 most) reply after none lives is = absurd (cc)
accepted_exactly file size (ReadInto1 most) reply after none lives is = absurd (cc)
accepted_exactly file size Peek reply after none lives is = absurd (cc)
accepted_exactly file size (Read None) reply after none lives is = is
accepted_exactly file size (Read (Some most)) reply after none lives is = is
accepted_exactly file size made reply after none lives is = is

-- a settled call of a file with a buffer that didn't fail is answered exactly, but for those of one transfer
settled_exactly : (refused : Option IoFault) (file : FlatFile) (size : ℕ) (made : FileCall) (reply : FileReply) (after : FlatFile) → is_one made ≡ false → file.life ≢ life.Failed → SettledBy (with_buffer file size) made refused reply after → (reply, after) ≡ answered (with_buffer file size) made refused
settled_exactly None file size made reply after none lives is = accepted_exactly file size made reply after none lives is
settled_exactly (Some why) file size made reply after none lives is = ap (λ (says : FileReply). (says, after)) is.0 ∙ ap (λ (left : FlatFile). (Refused why, left)) is.1

settled_alike_in : (file : FlatFile) (was is : ℕ) (made : FileCall) (reply replied : FileReply) (left right : FlatFile) → is_one made ≡ false → file.life ≢ life.Failed → Settled (with_buffer file was) made reply left → Settled (with_buffer file is) made replied right → AnswersAlike was is (reply, left) (replied, right)
settled_alike_in file was is made reply replied left right none lives one other =
    let refused : Option IoFault = refusal (with_buffer file was) made in
    let here = settled_exactly refused file was made reply left none lives one in
    let there = settled_exactly refused file is made replied right none lives (subst (λ (why : Option IoFault). SettledBy (with_buffer file is) made why replied right) (refused_alike file was is made) other) in
    subst (λ (p : FileReply × FlatFile). AnswersAlike was is (reply, left) p) (sym there)
    (subst (λ (p : FileReply × FlatFile). AnswersAlike was is p (answered (with_buffer file is) made refused)) (sym here) (answered_alike refused file was is made none lives))

-- two files are the same whose parts are
same_parts : (one other : FlatFile) → one.bytes ≡ other.bytes → one.place ≡ other.place → one.can ≡ other.can → one.buffering ≡ other.buffering → one.life ≡ other.life → one ≡ other
same_parts one other bytes place can buffering current =
    ap (λ (b : List ℕ). record one { bytes = b }) bytes
    ∙ (ap (λ (p : ℕ). record one { bytes = other.bytes; place = p }) place
    ∙ (ap (λ (c : Abilities). record one { bytes = other.bytes; place = other.place; can = c }) can
    ∙ (ap (λ (b : Buffering). record one { bytes = other.bytes; place = other.place; can = other.can; buffering = b }) buffering
    ∙ ap (λ (l : Life). record other { life = l }) current)))

-- a detached file of which nothing was handed over has the bytes, at place 0
gone_as : (file : FlatFile) (reply : FileReply) (after : FlatFile) → unwritten_in reply ≡ [] → IsDetached file reply after → after ≡ record file { place = 0; life = life.Detached }
gone_as file reply after none is =
    same_parts after (record file { place = 0; life = life.Detached })
    (sym (is.bytes ∙ ap (λ (bytes : List ℕ). lay after.bytes is.at bytes) none))
    is.place is.can is.buffering is.life_is

-- what a session leaves of two such files is alike too
record LeftAlike (was is : ℕ) (left right : FlatFile) : Type 0 where
  own : left ≡ with_buffer left was
  leaves : right ≡ with_buffer left is
  lives : left.life ≢ life.Failed

left_same : (was is : ℕ) (file left right : FlatFile) → file ≡ with_buffer file was → file.life ≢ life.Failed → left ≡ file → right ≡ with_buffer file is → LeftAlike was is left right
left_same was is file left right own lives here there = record {
  own = here ∙ (own ∙ ap (λ (f : FlatFile). with_buffer f was) (sym here));
  leaves = there ∙ ap (λ (f : FlatFile). with_buffer f is) (sym here);
  lives = λ failed. lives (sym (ap (λ (f : FlatFile). f.life) here) ∙ failed);
}

left_gone : (was is : ℕ) (file : FlatFile) (reply : FileReply) (left right : FlatFile) → file ≡ with_buffer file was → unwritten_in reply ≡ [] → IsDetached file reply left → IsDetached (with_buffer file is) reply right → LeftAlike was is left right
left_gone was is file reply left right own none here there =
    left_same was is (record file { place = 0; life = life.Detached }) left right
    (ap (λ (f : FlatFile). record f { place = 0; life = life.Detached }) own) detaches_not
    (gone_as file reply left none here) (gone_as (with_buffer file is) reply right none there)

left_alike : (was is : ℕ) (before current : Life) (file : FlatFile) (reply : FileReply) (left right : FlatFile) → file ≡ with_buffer file was → file.life ≢ life.Failed → unwritten_in reply ≡ [] → LeftBy IsDetached before current file reply left → LeftBy IsDetached before current (with_buffer file is) reply right → LeftAlike was is left right
left_alike was is life.Detached current file reply left right own lives none here there = left_same was is file left right own lives here there
left_alike was is life.Live life.Detached file reply left right own lives none here there = left_gone was is file reply left right own none here there
left_alike was is life.Failed life.Detached file reply left right own lives none here there = left_gone was is file reply left right own none here there
left_alike was is life.Closed life.Detached file reply left right own lives none here there = left_gone was is file reply left right own none here there
left_alike was is before current file reply left right own lives none here there = left_same was is file left right own lives here there

-- a call of a stream of bytes that is made by one transfer asks for what that brings
is_one_as : (made : Call) → tells_size false made ≡ false → is_one (file_call made) ≡ false
is_one_as (call.Read1 size) is = absurd (cc)
is_one_as (call.ReadInto1 size) is = absurd (cc)
is_one_as call.Peek is = absurd (cc)
is_one_as made is = refl

bytes_of : (was is : ℕ) (reply replied : FileReply) (left right : FlatFile) → replied ≡ reply → LeftAlike was is left right → StepsAlike reply replied (OfBinary left) (OfBinary right)
bytes_of was is reply replied left right says left_so = record { says = says; alike = (was, is, left_so.own, left_so.leaves); lives = left_so.lives }

bytes_by : (asks : Bool) (file : FlatFile) (was is : ℕ) (made : Call) (reply replied : FileReply) (left right : FlatFile) → is_one (file_call made) ≡ false → file.life ≢ life.Failed → FileSettlesBy asks (with_buffer file was) made reply left → FileSettlesBy asks (with_buffer file is) made replied right → StepsAlike reply replied (OfBinary left) (OfBinary right)
bytes_by true file was is made reply replied left right none lives here there =
    bytes_of was is reply replied left right (there.says ∙ sym here.says) (left_same was is (with_buffer file was) left right refl lives here.same there.same)
bytes_by false file was is made reply replied left right none lives here there =
    let both = settled_alike_in file was is (file_call made) reply replied here.file there.file none lives here.settled there.settled in
    let behind : FileLeft file.life (with_buffer here.file is) reply right = subst (λ (says : FileReply). FileLeft file.life (with_buffer here.file is) says right) both.says (subst (λ (f : FlatFile). FileLeft file.life f replied right) both.leaves there.left) in
    bytes_of was is reply replied left right both.says (left_alike was is file.life here.file.life here.file reply left right both.own both.lives both.none here.left behind)

bytes_alike : (one other : FlatFile) (made : Call) (reply replied : FileReply) (left right : FlatFile) → AlikeButSizes (OfBinary one) (OfBinary other) → one.life ≢ life.Failed → tells_size false made ≡ false → Settles (OfBinary one) made reply (OfBinary left) → Settles (OfBinary other) made replied (OfBinary right) → StepsAlike reply replied (OfBinary left) (OfBinary right)
bytes_alike one other made reply replied left right alike lives none here there =
    bytes_by (is_getter (file_call made)) one alike.0 alike.1 made reply replied left right (is_one_as made none) lives
    (subst (λ (file : FlatFile). Settles (OfBinary file) made reply (OfBinary left)) alike.2 here)
    (subst (λ (file : FlatFile). Settles (OfBinary file) made replied (OfBinary right)) alike.3 there)

-- Runs.

step_alike : (one other : SessionFile) (made : Call) (reply replied : FileReply) (left right : SessionFile) → AlikeButSizes one other → life_in one ≢ life.Failed → tells_size (is_text one) made ≡ false → Settles one made reply left → Settles other made replied right → StepsAlike reply replied left right × (is_text left ≡ is_text one)
step_alike (OfText one) (OfText other) made reply replied (OfText left) (OfText right) alike lives none here there = (texts_alike one other made reply replied left right alike lives none here there, refl)
step_alike (OfBinary one) (OfBinary other) made reply replied (OfBinary left) (OfBinary right) alike lives none here there = (bytes_alike one other made reply replied left right alike lives none here there, refl)
step_alike (OfText one) (OfBinary other) made reply replied left right alike lives none here there = absurd alike
step_alike (OfBinary one) (OfText other) made reply replied left right alike lives none here there = absurd alike
step_alike (OfText one) (OfText other) made reply replied (OfBinary left) right alike lives none here there = absurd here
step_alike (OfText one) (OfText other) made reply replied (OfText left) (OfBinary right) alike lives none here there = absurd there
step_alike (OfBinary one) (OfBinary other) made reply replied (OfText left) right alike lives none here there = absurd here
step_alike (OfBinary one) (OfBinary other) made reply replied (OfBinary left) (OfText right) alike lives none here there = absurd there

all_alike : (one other : SessionFile) (calls : List Call) (replies others : List FileReply) (left right : SessionFile) → AlikeButSizes one other → life_in one ≢ life.Failed → NoneTellsSize (is_text one) calls → AllSettle one calls replies left → AllSettle other calls others right → (others ≡ replies) × AlikeButSizes left right
all_alike one other [] [] [] left right alike lives none here there = (refl, subst (λ (file : SessionFile). AlikeButSizes left file) (sym there) (subst (λ (file : SessionFile). AlikeButSizes file other) (sym here) alike))
all_alike one other (made ∷ calls) (reply ∷ replies) (replied ∷ others) left right alike lives none here there =
    let both = step_alike one other made reply replied here.0 there.0 alike lives none.0 here.1 there.1 in
    let on : NoneTellsSize (is_text here.0) calls = subst (λ (text : Bool). NoneTellsSize text calls) (sym both.1) none.1 in
    let rest = all_alike here.0 there.0 calls replies others left right both.0.alike both.0.lives on here.2 there.2 in
    (ap (λ (said : FileReply). said ∷ others) both.0.says ∙ ap (λ (more : List FileReply). reply ∷ more) rest.0, rest.1)
all_alike one other [] (reply ∷ replies) others left right alike lives none here there = absurd here
all_alike one other (made ∷ calls) [] others left right alike lives none here there = absurd here
all_alike one other [] [] (replied ∷ others) left right alike lives none here there = absurd there
all_alike one other (made ∷ calls) (reply ∷ replies) [] left right alike lives none here there = absurd there

pub life_seen : (session : SessionView) → life_in (file_seen session) ≡ life_of session
life_seen (TextSession text) = refl
life_seen (BinarySession stream) = refl

pub runs_alike : (one other : SessionView) (calls : List Call) (replies others : List Reply) (left right : SessionView) → AlikeButSizes (file_seen one) (file_seen other) → life_of one ≢ life.Failed → NoneTellsSize (is_text (file_seen one)) calls → IsSmoothRun one calls replies left → IsSmoothRun other calls others right → (all_said others ≡ all_said replies) × AlikeButSizes (file_seen left) (file_seen right)
runs_alike one other calls replies others left right alike lives none here there =
    all_alike (file_seen one) (file_seen other) calls (all_said replies) (all_said others) (file_seen left) (file_seen right) alike (λ failed. lives (sym (life_seen one) ∙ failed)) none
    (smooth_settles one calls replies left here.run here.told here.smooth here.memory)
    (smooth_settles other calls others right there.run there.told there.smooth there.memory)
