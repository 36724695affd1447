-- What a text answers, and what a call leaves of it, hangs on no chunk size.
use Rattle.std.proofs.Common.{◌≡◌, ◌≢◌, ℕ, zero, suc, pos, Bool, true, false, List, [], ◌∷◌, Option, Some, None, not, length, refl, sym, ap, subst, ◌∙◌}
use Rattle.py_flat.specs.declared.fault.IoFault.{IoFault}
use Rattle.py_flat.specs.declared.fault.IoFault.TheVariants as fault
use Rattle.py_flat.specs.declared.life.Life.{Life}
use Rattle.py_flat.specs.declared.life.Life.TheVariants as life
use Rattle.py_flat.specs.Bytes.{first_of}
use Rattle.py_flat.specs.Calls.{FileReply, Refused}
use Rattle.py_flat.specs.Lines.{first_line, is_ended}
use Rattle.py_plain.specs.NewlineRule.{line_end}
use Rattle.py_plain_text.specs.TextFile.{TextFile}
use Rattle.py_plain_text.specs.Rest.{text_rest}
use Rattle.py_plain_text.specs.TextStep.{asks_past, asks_any, range_refusal, after_taking, after_text_read, answered_text}
use Rattle.py_plain_text.specs.TextCalls.{TextFileCall, Read, ReadLine, SeekText, SetChunkSize, Close, Detach, ChunkSize}
use Rattle.py_plain_text.specs.TextRefusals.{refusal}
use Rattle.py_plain_text.specs.TextExact.{answered, after_landing, carried_out, with_chunk_size}
use Rattle.py_plain_text.specs.Cookie.{Cookie, boundary_cookie, cookie_of, flags_of}
use Rattle.py_plain_text.specs.Landing.{Landed, Stands, CantRestore, lands}
use Rattle.py_plain_text.specs.Telling.{told}
use Rattle.py_plain_text.specs.TextAllowed.{Settled, SettledBy, Accepted, DetachesIn}
use Rattle.py_read_text.specs.TextState.{TextState, file_of}
use Rattle.py_read_text.specs.Answers.{refused_here, Answers, IsAnswerTo}
use Rattle.py_textio.specs.Sizes.{AreAlike, IsSmoothCall, AnswersAll}
use Rattle.py_textio.proofs.Smooth.{settles}

same_text : (refused : Option IoFault) (cs : List ℕ) (one other left right : TextFile) → (answered_text one refused cs left).0 ≡ (answered_text other refused cs right).0
same_text (Some why) cs one other left right = refl
same_text None cs one other left right = refl

pub same_read : (refused : Option IoFault) (file : TextFile) (chunk : ℕ) (size : Option ℕ) → (answered (with_chunk_size file chunk) (Read size) refused).0 ≡ (answered file (Read size) refused).0
same_read (Some why) file chunk size = refl
same_read None file chunk size =
    let cs : List ℕ = (text_rest file).characters in
    same_text (range_refusal (asks_past size cs) (text_rest file).refusal) (first_of size cs) (with_chunk_size file chunk) file (after_text_read (with_chunk_size file chunk) size (first_of size cs)) (after_text_read file size (first_of size cs))

pub same_line : (refused : Option IoFault) (file : TextFile) (chunk : ℕ) (limit : Option ℕ) → (answered (with_chunk_size file chunk) (ReadLine limit) refused).0 ≡ (answered file (ReadLine limit) refused).0
same_line (Some why) file chunk limit = refl
same_line None file chunk limit =
    let cs : List ℕ = (text_rest file).characters in
    let line : List ℕ = first_line (line_end file.settings.newline) limit cs in
    same_text (range_refusal (not (is_ended (line_end file.settings.newline) limit cs)) (text_rest file).refusal) line (with_chunk_size file chunk) file (after_taking (with_chunk_size file chunk) (length line) (asks_any limit)) (after_taking file (length line) (asks_any limit))

left_text : (refused : Option IoFault) (cs : List ℕ) (file left : TextFile) (chunk : ℕ) → (answered_text (with_chunk_size file chunk) refused cs (with_chunk_size left chunk)).1 ≡ with_chunk_size (answered_text file refused cs left).1 chunk
left_text (Some why) cs file left chunk = refl
left_text None cs file left chunk = refl

pub left_read : (refused : Option IoFault) (file : TextFile) (chunk : ℕ) (size : Option ℕ) → (answered (with_chunk_size file chunk) (Read size) refused).1 ≡ with_chunk_size (answered file (Read size) refused).1 chunk
left_read (Some why) file chunk size = refl
left_read None file chunk None =
    let cs : List ℕ = (text_rest file).characters in
    left_text (range_refusal (asks_past None cs) (text_rest file).refusal) cs file (after_text_read file None cs) chunk
left_read None file chunk (Some size) =
    let cs : List ℕ = (text_rest file).characters in
    left_text (range_refusal (asks_past (Some size) cs) (text_rest file).refusal) (first_of (Some size) cs) file (after_text_read file (Some size) (first_of (Some size) cs)) chunk

pub left_line : (refused : Option IoFault) (file : TextFile) (chunk : ℕ) (limit : Option ℕ) → (answered (with_chunk_size file chunk) (ReadLine limit) refused).1 ≡ with_chunk_size (answered file (ReadLine limit) refused).1 chunk
left_line (Some why) file chunk limit = refl
left_line None file chunk limit =
    let cs : List ℕ = (text_rest file).characters in
    let line : List ℕ = first_line (line_end file.settings.newline) limit cs in
    left_text (range_refusal (not (is_ended (line_end file.settings.newline) limit cs)) (text_rest file).refusal) line file (after_taking file (length line) (asks_any limit)) chunk

-- Any call.

-- calls that tell no chunk size
abbrev pub goes_alike : TextFileCall → Bool
goes_alike ChunkSize = false
goes_alike call = true

-- two answers are alike, and leave files that are alike but for the chunk size; neither failed
pub record StepsAlike (one other : FileReply × TextFile) : Type 0 where
  pub says : other.0 ≡ one.0
  pub chunk : ℕ
  pub leaves : other.1 ≡ with_chunk_size one.1 chunk
  pub lives : one.1.life ≢ life.Failed

texts_alike : (refused : Option IoFault) (cs : List ℕ) (file left : TextFile) (chunk : ℕ) → file.life ≢ life.Failed → left.life ≡ file.life → StepsAlike (answered_text file refused cs left) (answered_text (with_chunk_size file chunk) refused cs (with_chunk_size left chunk))
texts_alike (Some why) cs file left chunk lives same = record { says = refl; chunk = chunk; leaves = refl; lives = lives }
texts_alike None cs file left chunk lives same = record { says = refl; chunk = chunk; leaves = refl; lives = λ failed. lives (sym same ∙ failed) }

closes_not : life.Closed ≢ life.Failed
closes_not is = absurd (cc)

detaches_not : life.Detached ≢ life.Failed
detaches_not is = absurd (cc)

landing_alike : (file : TextFile) (chunk : ℕ) (sought : Cookie) (landed : Landed) → file.life ≢ life.Failed → StepsAlike (after_landing file sought landed) (after_landing (with_chunk_size file chunk) sought landed)
landing_alike file chunk sought (Stands place) lives = record { says = refl; chunk = chunk; leaves = refl; lives = lives }
landing_alike file chunk sought (CantRestore place) lives = record { says = refl; chunk = chunk; leaves = refl; lives = lives }

carried_alike : (file : TextFile) (chunk : ℕ) (call : TextFileCall) → goes_alike call ≡ true → file.life ≢ life.Failed → StepsAlike (answered file call None) (answered (with_chunk_size file chunk) call None)
carried_alike file chunk (Read None) is lives =
    let cs : List ℕ = (text_rest file).characters in
    texts_alike (range_refusal (asks_past None cs) (text_rest file).refusal) cs file (after_text_read file None cs) chunk lives refl
carried_alike file chunk (Read (Some size)) is lives =
    let cs : List ℕ = (text_rest file).characters in
    texts_alike (range_refusal (asks_past (Some size) cs) (text_rest file).refusal) (first_of (Some size) cs) file (after_text_read file (Some size) (first_of (Some size) cs)) chunk lives refl
carried_alike file chunk (ReadLine limit) is lives =
    let cs : List ℕ = (text_rest file).characters in
    let line : List ℕ = first_line (line_end file.settings.newline) limit cs in
    texts_alike (range_refusal (not (is_ended (line_end file.settings.newline) limit cs)) (text_rest file).refusal) line file (after_taking file (length line) (asks_any limit)) chunk lives refl
carried_alike file chunk (SetChunkSize size) is lives = record { says = refl; chunk = size; leaves = refl; lives = lives }
carried_alike file chunk Close is lives = record { says = refl; chunk = chunk; leaves = refl; lives = closes_not }
carried_alike file chunk Detach is lives = record { says = refl; chunk = chunk; leaves = refl; lives = detaches_not }
carried_alike file chunk (SeekText bytes (pos (suc zero))) is lives = landing_alike file chunk (told file) (lands file (told file)) lives
carried_alike file chunk (SeekText bytes (pos (suc (suc zero)))) is lives =
    let end : Cookie = boundary_cookie (length file.bytes) (flags_of file.place.order) in
    landing_alike file chunk end (lands file end) lives
carried_alike file chunk (SeekText bytes whence) is lives = landing_alike file chunk (cookie_of bytes) (lands file (cookie_of bytes)) lives
carried_alike file chunk ChunkSize is lives = absurd (cc)
carried_alike file chunk call is lives = record { says = refl; chunk = chunk; leaves = refl; lives = lives }

detached_exactly : (current : Life) (file : TextFile) (reply : FileReply) (after : TextFile) → current ≢ life.Failed → DetachesIn current file reply after → (reply, after) ≡ carried_out file Detach
detached_exactly life.Failed file reply after lives is = absurd (lives refl)
detached_exactly current file reply after lives is = is

accepted_exactly : (file : TextFile) (call : TextFileCall) (reply : FileReply) (after : TextFile) → file.life ≢ life.Failed → Accepted file call reply after → (reply, after) ≡ answered file call None
accepted_exactly file Detach reply after lives is = detached_exactly file.life file reply after lives is
accepted_exactly file call reply after lives is = is

-- a settled call of a text that didn't fail is answered exactly
settled_exactly : (refused : Option IoFault) (file : TextFile) (call : TextFileCall) (reply : FileReply) (after : TextFile) → file.life ≢ life.Failed → SettledBy file call refused reply after → (reply, after) ≡ answered file call refused
settled_exactly None file call reply after lives is = accepted_exactly file call reply after lives is
settled_exactly (Some why) file call reply after lives is = ap (λ (says : FileReply). (says, after)) is.0 ∙ ap (λ (left : TextFile). (Refused why, left)) is.1

answered_alike : (refused : Option IoFault) (file : TextFile) (chunk : ℕ) (call : TextFileCall) → goes_alike call ≡ true → file.life ≢ life.Failed → StepsAlike (answered file call refused) (answered (with_chunk_size file chunk) call refused)
answered_alike None file chunk call is lives = carried_alike file chunk call is lives
answered_alike (Some why) file chunk call is lives = record { says = refl; chunk = chunk; leaves = refl; lives = lives }

-- what refuses a call hangs on no chunk size
refused_alike : (file : TextFile) (chunk : ℕ) (call : TextFileCall) → refusal (with_chunk_size file chunk) call ≡ refusal file call
refused_alike file chunk (SeekText cookie (pos (suc (suc zero)))) = refl
refused_alike file chunk (SeekText cookie whence) = refl
refused_alike file chunk call = refl

-- settled calls of two texts that are alike are answered alike
pub settled_alike : (file : TextFile) (chunk : ℕ) (call : TextFileCall) (reply replied : FileReply) (left right : TextFile) → goes_alike call ≡ true → file.life ≢ life.Failed → Settled file call reply left → Settled (with_chunk_size file chunk) call replied right → StepsAlike (reply, left) (replied, right)
settled_alike file chunk call reply replied left right is lives one other =
    let here = settled_exactly (refusal file call) file call reply left lives one in
    let there = settled_exactly (refusal file call) (with_chunk_size file chunk) call replied right lives (subst (λ (refused : Option IoFault). SettledBy (with_chunk_size file chunk) call refused replied right) (refused_alike file chunk call) other) in
    subst (λ (p : FileReply × TextFile). StepsAlike (reply, left) p) (sym there) (subst (λ (p : FileReply × TextFile). StepsAlike p (answered (with_chunk_size file chunk) call (refusal file call))) (sym here) (answered_alike (refusal file call) file chunk call is lives))

-- Calls of texts over buffers.

-- no call tells a chunk size by the clause of all calls
unanswered : (call : TextFileCall) (reply : FileReply) → goes_alike call ≡ false → IsAnswerTo call reply → reply ≢ Refused fault.NoMemory → ⊥
unanswered ChunkSize (Refused fault.NoMemory) is answers had = absurd (had refl)
unanswered ChunkSize reply is answers had = answers
unanswered call reply is answers had = absurd (cc)

-- two calls are answered alike, and leave texts that are alike; neither failed
pub record CallsAlike (reply replied : FileReply) (left right : TextState) : Type 0 where
  pub says : replied ≡ reply
  pub alike : AreAlike left right
  pub lives : left.text.life ≢ life.Failed

settled_calls : (one other : TextState) (call : TextFileCall) (reply replied : FileReply) (left right : TextState) → goes_alike call ≡ true → AreAlike one other → one.text.life ≢ life.Failed → Settled (file_of one) call reply (file_of left) → Settled (file_of other) call replied (file_of right) → CallsAlike reply replied left right
settled_calls one other call reply replied left right goes alike lives here there =
    let both = settled_alike (file_of one) alike.0 call reply replied (file_of left) (file_of right) goes lives here (subst (λ (file : TextFile). Settled file call replied (file_of right)) alike.1 there) in
    record { says = both.says; alike = (both.chunk, both.leaves); lives = both.lives }

-- nothing refuses a call that asks for one
unrefused : (file : TextFile) (call : TextFileCall) → goes_alike call ≡ false → refused_here file call ≡ None
unrefused file ChunkSize is = refl
unrefused file call is = absurd (cc)

calls_alike : (goes : Bool) (one other : TextState) (call : TextFileCall) (reply replied : FileReply) (left right : TextState) → goes_alike call ≡ goes → AreAlike one other → one.text.life ≢ life.Failed → Answers one call reply left → IsSmoothCall one reply left → Answers other call replied right → IsSmoothCall other replied right → CallsAlike reply replied left right
calls_alike true one other call reply replied left right goes alike lives step smooth stepped smoothly = settled_calls one other call reply replied left right goes alike lives (settles one call reply left step smooth) (settles other call replied right stepped smoothly)
calls_alike false one other call reply replied left right goes alike lives step smooth stepped smoothly = absurd (unanswered call reply goes (step.complete (unrefused (file_of one) call goes) smooth.waits smooth.faults).answer smooth.memory)

pub all_alike : (one other : TextState) (calls : List TextFileCall) (replies others : List FileReply) (left right : TextState) → AreAlike one other → one.text.life ≢ life.Failed → AnswersAll one calls replies left → AnswersAll other calls others right → (others ≡ replies) × AreAlike left right
all_alike one other [] [] [] left right alike lives steps stepped =
    (refl, (alike.0, ap file_of stepped ∙ (alike.1 ∙ ap (λ (text : TextState). with_chunk_size (file_of text) alike.0) (sym steps))))
all_alike one other (call ∷ calls) (reply ∷ replies) (replied ∷ others) left right alike lives steps stepped =
    let here = calls_alike (goes_alike call) one other call reply replied steps.0 stepped.0 refl alike lives steps.1 steps.2 stepped.1 stepped.2 in
    let rest = all_alike steps.0 stepped.0 calls replies others left right here.alike here.lives steps.3 stepped.3 in
    (ap (λ (said : FileReply). said ∷ others) here.says ∙ ap (λ (more : List FileReply). reply ∷ more) rest.0, rest.1)
all_alike one other [] (reply ∷ replies) others left right alike lives steps stepped = absurd steps
all_alike one other (call ∷ calls) [] others left right alike lives steps stepped = absurd steps
all_alike one other [] [] (replied ∷ others) left right alike lives steps stepped = absurd stepped
all_alike one other (call ∷ calls) (reply ∷ replies) [] left right alike lives steps stepped = absurd stepped
