-- What a settled call says: it blames neither the raw nor memory, and a refusal leaves all as it was.
use Rattle.std.proofs.Common.{◌≡◌, ◌≢◌, ℕ, Bool, true, false, nat_lt, if◌then◌else◌, List, Option, Some, None, ℤ, refl, ap, ◌∙◌}
use Rattle.py_flat.specs.declared.fault.IoFault.{IoFault}
use Rattle.py_flat.specs.declared.fault.IoFault.TheVariants as fault
use Rattle.py_flat.specs.declared.life.Life.{Life}
use Rattle.py_flat.specs.declared.life.Life.TheVariants as life
use Rattle.py_flat.specs.Calls.{FileCall, Read, Read1, ReadLine, ReadLines, Peek, ReadInto, ReadInto1, Write, WriteLines, Seek, Tell, Truncate, Flush, Close, Detach, Readable, Writable, Seekable, Closed, OtherKind, OtherGetter, FileReply, NotReady, Refused}
use Rattle.py_flat.specs.FlatFile.{FlatFile}
use Rattle.py_flat.specs.Limits.{greatest_place}
use Rattle.py_flat.specs.Refusals.{or_else, refused_if, is_getter, is_other_getter, life_fault, lets_through, life_refusal, lacks, seek_base, moved_by, too_far, target_refusal, seek_refusal, argument_refusal, refusal}
use Rattle.py_flat.specs.ExactStep.{carried_out}
use Rattle.py_flat.specs.BinaryStep.{asked, transferred, CarriedOut, DetachesIn, Accepted, SettledBy, Settled, BinaryStep}
use Rattle.py_flat.specs.AllowedStep.{settled, waited_for, raw_faulted, out_of_memory}

-- Replies that are no answer.

abbrev pub says_no : FileReply → Bool
says_no NotReady = true
says_no (Refused fault) = true
says_no _ = false

carried_out_answers : (file : FlatFile) (call : FileCall) → says_no (carried_out file call).0 ≡ false
carried_out_answers file (Read size) = refl
carried_out_answers file (Read1 size) = refl
carried_out_answers file (ReadLine limit) = refl
carried_out_answers file (ReadLines hint) = refl
carried_out_answers file Peek = refl
carried_out_answers file (ReadInto size) = refl
carried_out_answers file (ReadInto1 size) = refl
carried_out_answers file (Write bytes) = refl
carried_out_answers file (WriteLines lines) = refl
carried_out_answers file (Seek offset whence) = refl
carried_out_answers file Tell = refl
carried_out_answers file (Truncate size) = refl
carried_out_answers file Flush = refl
carried_out_answers file Close = refl
carried_out_answers file Detach = refl
carried_out_answers file Readable = refl
carried_out_answers file Writable = refl
carried_out_answers file Seekable = refl
carried_out_answers file Closed = refl
carried_out_answers file OtherKind = refl
carried_out_answers file OtherGetter = refl

transferred_answers : (file : FlatFile) (call : FileCall) (part : List ℕ) → says_no (transferred file call part).0 ≡ false
transferred_answers file (Write bytes) part = refl
transferred_answers file Peek part = refl
transferred_answers file _ part = refl

carrying_answers : (file : FlatFile) (call : FileCall) (wanted : Option (List ℕ)) (reply : FileReply) (after : FlatFile) → CarriedOut file call wanted reply after → says_no reply ≡ false
carrying_answers file call (Some wanted) reply after h = ap (λ (p : FileReply × FlatFile). says_no p.0) h.outcome ∙ transferred_answers file call h.part
carrying_answers file call None reply after h = ap (λ (p : FileReply × FlatFile). says_no p.0) h ∙ carried_out_answers file call

detaching_answers : (life : Life) (file : FlatFile) (reply : FileReply) (after : FlatFile) → DetachesIn life file reply after → says_no reply ≡ false
detaching_answers life.Failed file reply after h = ap says_no h.says
detaching_answers _ file reply after h = ap (λ (p : FileReply × FlatFile). says_no p.0) h ∙ carried_out_answers file Detach

-- an accepted call answers
pub accepted_answers : (file : FlatFile) (call : FileCall) (reply : FileReply) (after : FlatFile) → Accepted file call reply after → says_no reply ≡ false
accepted_answers file Detach reply after h = detaching_answers file.life file reply after h
accepted_answers file call reply after h = carrying_answers file call (asked file call) reply after h

-- Faults that blame the raw or memory.

abbrev pub blames : IoFault → Bool
blames fault.RawFault = true
blames fault.NoMemory = true
blames (fault.WouldBlock taken) = true
blames _ = false

abbrev pub may_blame : Option IoFault → Bool
may_blame None = false
may_blame (Some fault) = blames fault

or_else_blames_nobody : (first later : Option IoFault) → may_blame first ≡ false → may_blame later ≡ false → may_blame (or_else first later) ≡ false
or_else_blames_nobody None later a b = b
or_else_blames_nobody (Some fault) later a b = a

refused_if_blames_nobody : (test : Bool) (fault : IoFault) → blames fault ≡ false → may_blame (refused_if test fault) ≡ false
refused_if_blames_nobody true fault h = h
refused_if_blames_nobody false fault h = refl

life_fault_blames_nobody : (life : Life) → may_blame (life_fault life) ≡ false
life_fault_blames_nobody life.Live = refl
life_fault_blames_nobody life.Failed = refl
life_fault_blames_nobody life.Closed = refl
life_fault_blames_nobody life.Detached = refl

none_or : (test : Bool) (fault : Option IoFault) → may_blame fault ≡ false → may_blame (if test then None else fault) ≡ false
none_or true fault h = refl
none_or false fault h = h

target_blames_nobody : (target : Option ℕ) → may_blame (target_refusal target) ≡ false
target_blames_nobody None = refl
target_blames_nobody (Some target) = refused_if_blames_nobody (nat_lt greatest_place target) fault.TooFar refl

seek_blames_nobody : (base : Option ℕ) (offset : ℤ) → may_blame (seek_refusal base offset) ≡ false
seek_blames_nobody None offset = refl
seek_blames_nobody (Some base) offset = target_blames_nobody (moved_by base offset)

too_far_blames_nobody : (place : ℕ) → may_blame (too_far place) ≡ false
too_far_blames_nobody place = refused_if_blames_nobody (nat_lt greatest_place place) fault.TooFar refl

argument_blames_nobody : (file : FlatFile) (call : FileCall) → may_blame (argument_refusal file call) ≡ false
argument_blames_nobody file (Seek offset whence) = seek_blames_nobody (seek_base file whence) offset
argument_blames_nobody file (Write bytes) = too_far_blames_nobody _
argument_blames_nobody file (WriteLines lines) = too_far_blames_nobody _
argument_blames_nobody file (Truncate (Some size)) = too_far_blames_nobody size
argument_blames_nobody file _ = refl

-- what a call is refused by is its own fault
pub refusal_blames_nobody : (file : FlatFile) (call : FileCall) → may_blame (refusal file call) ≡ false
refusal_blames_nobody file call = none_or (is_getter call) _ (or_else_blames_nobody (refused_if (is_other_getter call) fault.Unsupported) _ (refused_if_blames_nobody (is_other_getter call) fault.Unsupported refl) (or_else_blames_nobody (life_refusal file call) _ (none_or (lets_through file.life file.buffering call) (life_fault file.life) (life_fault_blames_nobody file.life)) (or_else_blames_nobody (refused_if (lacks file call) fault.Unsupported) (argument_refusal file call) (refused_if_blames_nobody (lacks file call) fault.Unsupported refl) (argument_blames_nobody file call))))

-- Settled calls.

-- whether a reply blames the raw or memory, or says that the raw wasn't ready
abbrev pub reply_blames : FileReply → Bool
reply_blames NotReady = true
reply_blames (Refused fault) = blames fault
reply_blames _ = false

answer_blames_nobody : (reply : FileReply) → says_no reply ≡ false → reply_blames reply ≡ false
answer_blames_nobody NotReady h = cc
answer_blames_nobody (Refused fault) h = cc
answer_blames_nobody _ h = refl

settled_by_blames_nobody : (file : FlatFile) (call : FileCall) (refused : Option IoFault) (reply : FileReply) (after : FlatFile) → may_blame refused ≡ false → SettledBy file call refused reply after → reply_blames reply ≡ false
settled_by_blames_nobody file call (Some fault) reply after own h = ap reply_blames h.0 ∙ own
settled_by_blames_nobody file call None reply after own h = answer_blames_nobody reply (accepted_answers file call reply after h)

pub settled_blames_nobody : (file : FlatFile) (call : FileCall) (reply : FileReply) (after : FlatFile) → Settled file call reply after → reply_blames reply ≡ false
settled_blames_nobody file call reply after h = settled_by_blames_nobody file call (refusal file call) reply after (refusal_blames_nobody file call) h

refusal_by_leaves_all : (file : FlatFile) (call : FileCall) (refused : Option IoFault) (fault : IoFault) (after : FlatFile) → SettledBy file call refused (Refused fault) after → after ≡ file
refusal_by_leaves_all file call (Some own) fault after h = h.1
refusal_by_leaves_all file call None fault after h = let e : true ≡ false = accepted_answers file call (Refused fault) after h in cc

-- a settled refusal leaves all as it was
pub refusal_leaves_all : (file : FlatFile) (call : FileCall) (fault : IoFault) (after : FlatFile) → Settled file call (Refused fault) after → after ≡ file
refusal_leaves_all file call fault after h = refusal_by_leaves_all file call (refusal file call) fault after h

-- a call in which neither waits nor faults rose, and that had memory, is settled
pub smooth_is_settled : (before : FlatFile) (call : FileCall) (reply : FileReply) (after : FlatFile) → BinaryStep before call reply false false after → reply ≢ Refused fault.NoMemory → Settled before call reply after
smooth_is_settled before call reply after (settled h) had = h
smooth_is_settled before call reply after (waited_for rose h) had = absurd (cc rose)
smooth_is_settled before call reply after (raw_faulted rose said h) had = absurd (cc rose)
smooth_is_settled before call reply after (out_of_memory said h) had = absurd (had said)
