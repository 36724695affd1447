use Rattle.std.proofs.Common.{◌≡◌, ℕ, ◌+◌, Bool, true, false, not, ◌&&◌, List, [], ◌∷◌, length, refl, ap, ◌∙◌, subst, arith}
use Rattle.py_flat.specs.Owed.{Owed}
use Rattle.py_flat.specs.FlatFile.{Abilities}
use Rattle.py_flat.specs.Calls.{FileCall, FileReply}
use Rattle.py_stream.specs.Stream.{Stream, nothing_owed}
use Rattle.py_stream.specs.Kinds.{is_reading, is_seek}
use Rattle.py_stream.specs.Answers.{Answers, CameByReads}
use Rattle.py_stream.specs.Laws.{AnswersEach, none_seeks}
use Rattle.py_stream.proofs.Begun.{came_still, came_unread, came_more, came_then}
use Rattle.py_stream.proofs.laws.a_reader_stands_where_its_reads_brought_it.Goals as goal

-- one call that is no seek
came_in_one : (before : Stream) (call : FileCall) (reply : FileReply) (after : Stream) → before.can.writable ≡ false → before.owed ≡ nothing_owed before.place → is_seek call ≡ false → Answers before call reply after → CameByReads 1 before after
came_in_one before call reply after can owed still answers = by (is_reading call) refl
  where
    by : (reads : Bool) → is_reading call ≡ reads → CameByReads 1 before after
    by true reads = answers.brings (cc) (record { none = ap (λ (owed : Owed). owed.bytes) owed; stands = λ writes. absurd (cc (can, writes)) })
    by false reads = came_more before after 0 1 (omega arith) (came_unread before after ((answers.spares can owed).still (cc)) (answers.unread reads))

seeks_not : (here there : Bool) → (not here && there) ≡ true → (here ≡ false) × (there ≡ true)
seeks_not true there is = absurd (cc)
seeks_not false there is = (refl, is)

came_in_all : (before : Stream) (calls : List FileCall) (replies : List FileReply) (after : Stream) → before.can.writable ≡ false → before.owed ≡ nothing_owed before.place → none_seeks calls ≡ true → AnswersEach before calls replies after → CameByReads (length calls) before after
came_in_all before [] [] after can owed none same = came_still before after 0 (ap (λ (stream : Stream). stream.raw.reads) same) (ap (λ (stream : Stream). stream.raw_place) same)
came_in_all before (call ∷ calls) (reply ∷ replies) after can owed none (mid, answers, behind) =
    let still = seeks_not (is_seek call) (none_seeks calls) none in
    let more : 1 + length calls ≡ length (call ∷ calls) = omega arith in
    subst (λ (n : ℕ). CameByReads n before after) more
    (came_then before mid after 1 (length calls) answers.keeps.raw (came_in_one before call reply mid can owed still.0 answers)
    (came_in_all mid calls replies after (ap (λ (can : Abilities). can.writable) answers.keeps.can ∙ can) (answers.spares can owed).owed still.1 behind))
came_in_all before [] (reply ∷ replies) after can owed none never = absurd never
came_in_all before (call ∷ calls) [] after can owed none never = absurd never

pub returns : goal.returns
returns c = came_in_all
