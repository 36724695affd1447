-- What a stream answers is what a session may answer.
use Rattle.std.proofs.Common.{◌≡◌, ◌⊎◌, ⊎_elim, refl, ℕ, false, IsTrue, List, length, take, drop, ◌++◌, Option, Result, sym, ap, ◌∙◌, subst, arith}
use Rattle.std.proofs.lemmas.List.{take_all, take-append-le}
use Rattle.py_flat.specs.declared.fault.IoFault.{IoFault}
use Rattle.py_flat.specs.declared.fault.IoFault.TheVariants as fault
use Rattle.py_flat.specs.Calls.{FileCall, ReadInto, ReadInto1, Peek, OtherGetter, FileReply, Refused}
use Rattle.py_stream.specs.Stream.{Stream}
use Rattle.py_stream.specs.Kinds.{has_room}
use Rattle.py_stream.specs.Answers.{AnswersWith, Answers}
use Rattle.py_stream.specs.Replies.{into_reply}
use Rattle.py_stream.proofs.Begun.{answers_with}
use Rattle.py_stream.proofs.Refusing.{refused_with}
use Rattle.py_calls.specs.declared.call.Call.{Call}
use Rattle.py_calls.specs.declared.call.Call.TheVariants as call
use Rattle.py_calls.specs.Calls.{file_call}
use Rattle.py_binary.specs.Binary.{has_reply_room}
use Rattle.py_binary.specs.Kinds.{IsHeld}

-- a call for which the reply has its room has it for itself
has_own_room : (call : FileCall) → IsTrue (has_reply_room call) → IsTrue (has_room call)
has_own_room (ReadInto size) room = absurd (cc)
has_own_room (ReadInto1 size) room = absurd (cc)
has_own_room Peek room = absurd (cc)
has_own_room call room = room

pub with_reply_room : (old : Stream) (call : FileCall) (reply : FileReply) (new : Stream) → Answers old call reply new → AnswersWith has_reply_room old call reply new
with_reply_room old call reply new answers = answers_with has_room has_reply_room old new call reply (has_own_room call) answers

-- a call is answered, with room for the reply only, by any reply that says the same
pub with_said : (old : Stream) (call : FileCall) (reply said : FileReply) (new : Stream) → said ≡ reply → Answers old call reply new → AnswersWith has_reply_room old call said new
with_said old call reply said new is a = subst (λ (r : FileReply). AnswersWith has_reply_room old call r new) (sym is) (with_reply_room old call reply new a)

-- what only a text is asked is unsupported, in every life
pub other_refuses : (old new : Stream) (made : Call) → IsHeld old → (made ≡ call.ChunkSize) ⊎ ((made ≡ call.Encoding) ⊎ (made ≡ call.Errors)) → new ≡ record old { short = false } → AnswersWith has_reply_room old (file_call made) (Refused fault.Unsupported) new
other_refuses old new made held is same =
    let asks : file_call made ≡ OtherGetter = ⊎_elim (λ (size : made ≡ call.ChunkSize). ap file_call size) (λ more. ⊎_elim (λ (encoding : made ≡ call.Encoding). ap file_call encoding) (λ (errors : made ≡ call.Errors). ap file_call errors) more) is in
    subst (λ (asked : FileCall). AnswersWith has_reply_room old asked (Refused fault.Unsupported) new) (sym asks)
    (with_reply_room old OtherGetter (Refused fault.Unsupported) new (refused_with old new OtherGetter fault.Unsupported (record { far = held.far; near = held.near }) refl refl refl refl same))

-- a reading into a buffer of n bytes is answered, with room for the reply only, by a reply that has the buffer's bytes
pub into_answers : (old : Stream) (call : ℕ → FileCall) (size len : ℕ) (items before buffer : List ℕ) (answer : Result (Option ℕ) IoFault) (said : FileReply) (new : Stream) → length before ≡ len → len ≡ size → length buffer ≡ length before → said ≡ into_reply answer (take len (buffer ++ drop (length buffer) items)) → Answers old (call (length before)) (into_reply answer buffer) new → AnswersWith has_reply_room old (call size) said new
into_answers old call size len items before buffer answer said new long sized kept is a =
    let all : length buffer ≡ len = kept ∙ long in
    let whole : take len (buffer ++ drop (length buffer) items) ≡ buffer = take-append-le len buffer (drop (length buffer) items) (omega arith) ∙ take_all len buffer (omega arith) in
    with_said old (call size) (into_reply answer buffer) said new (is ∙ ap (into_reply answer) whole) (subst (λ (count : ℕ). Answers old (call count) (into_reply answer buffer) new) (long ∙ sized) a)
