-- Calls of a stream in memory that come to the same.
use Rattle.std.proofs.Common.{◌≡◌, ℕ, Bool, true, false, IsTrue, List, Option, Some, None, refl, sym, subst, ◌∙◌}
use Rattle.py_flat.specs.declared.fault.IoFault.{IoFault}
use Rattle.py_flat.specs.FlatFile.{FlatFile}
use Rattle.py_flat.specs.Calls.{FileCall, Read, Read1, ReadInto, ReadInto1, FileReply, Refused}
use Rattle.py_flat.specs.ExactStep.{carried_out}
use Rattle.py_memio.specs.InMemory.{file_in_memory, refusal_in_memory, may_lack_memory, CarriedOutInMemory, AnswersWith, AnswersInMemory}

carried_same : (before : FlatFile) (call other : FileCall) (reply : FileReply) (after : FlatFile) → may_lack_memory other ≡ may_lack_memory call → carried_out before other ≡ carried_out before call → CarriedOutInMemory before call reply after → CarriedOutInMemory before other reply after
carried_same before call other (Refused why) after lacks same answers = (subst IsTrue (sym lacks) answers.0, answers.1, answers.2)
carried_same before call other reply after lacks same answers = answers ∙ sym same

with_same : (refusal : Option IoFault) (before : FlatFile) (call other : FileCall) (reply : FileReply) (after : FlatFile) → may_lack_memory other ≡ may_lack_memory call → carried_out before other ≡ carried_out before call → AnswersWith refusal before call reply after → AnswersWith refusal before other reply after
with_same (Some why) before call other reply after lacks same answers = answers
with_same None before call other reply after lacks same answers = carried_same before call other reply after lacks same answers

-- a call answers as another that is refused by the same, may lack memory likewise, and is carried out the same
pub answers_same : (lent : Bool) (before : FlatFile) (call other : FileCall) (reply : FileReply) (after : FlatFile) → refusal_in_memory lent before other ≡ refusal_in_memory lent before call → may_lack_memory other ≡ may_lack_memory call → carried_out before other ≡ carried_out before call → AnswersInMemory lent before call reply after → AnswersInMemory lent before other reply after
answers_same lent before call other reply after refused lacks same answers =
    subst (λ (refusal : Option IoFault). AnswersWith refusal before other reply after) (sym refused) (with_same (refusal_in_memory lent before call) before call other reply after lacks same answers)

refused_read1 : (lent closed : Bool) (items : List ℕ) (place : ℕ) (size : Option ℕ) → refusal_in_memory lent (file_in_memory items place closed) (Read1 size) ≡ refusal_in_memory lent (file_in_memory items place closed) (Read size)
refused_read1 true true items place size = refl
refused_read1 true false items place size = refl
refused_read1 false true items place size = refl
refused_read1 false false items place size = refl

carried_read1 : (closed : Bool) (items : List ℕ) (place : ℕ) (size : Option ℕ) → carried_out (file_in_memory items place closed) (Read1 size) ≡ carried_out (file_in_memory items place closed) (Read size)
carried_read1 closed items place None = refl
carried_read1 closed items place (Some size) = refl

-- `read1` of a stream in memory is its `read`
pub read1_is_read : (lent closed : Bool) (items : List ℕ) (place : ℕ) (size : Option ℕ) (reply : FileReply) (after : FlatFile) → AnswersInMemory lent (file_in_memory items place closed) (Read size) reply after → AnswersInMemory lent (file_in_memory items place closed) (Read1 size) reply after
read1_is_read lent closed items place size reply after = answers_same lent (file_in_memory items place closed) (Read size) (Read1 size) reply after (refused_read1 lent closed items place size) refl (carried_read1 closed items place size)

refused_readinto1 : (lent closed : Bool) (items : List ℕ) (place size : ℕ) → refusal_in_memory lent (file_in_memory items place closed) (ReadInto1 size) ≡ refusal_in_memory lent (file_in_memory items place closed) (ReadInto size)
refused_readinto1 true true items place size = refl
refused_readinto1 true false items place size = refl
refused_readinto1 false true items place size = refl
refused_readinto1 false false items place size = refl

-- `readinto1` of a stream in memory is its `readinto`
pub readinto1_is_readinto : (lent closed : Bool) (items : List ℕ) (place size : ℕ) (reply : FileReply) (after : FlatFile) → AnswersInMemory lent (file_in_memory items place closed) (ReadInto size) reply after → AnswersInMemory lent (file_in_memory items place closed) (ReadInto1 size) reply after
readinto1_is_readinto lent closed items place size reply after = answers_same lent (file_in_memory items place closed) (ReadInto size) (ReadInto1 size) reply after (refused_readinto1 lent closed items place size) refl refl
