-- A call that neither waited nor failed, and had memory, is settled.
use Rattle.std.proofs.Common.{◌≡◌, ◌≢◌, ℕ, Bool, true, false, IsTrue, refl, sym, ◌∙◌}
use Rattle.std.proofs.lemmas.Bool.{le-leb}
use Rattle.py_flat.specs.declared.fault.IoFault.TheVariants as fault
use Rattle.py_flat.specs.AllowedStep.{settled, waited_for, raw_faulted, out_of_memory}
use Rattle.py_flat.specs.Calls.{FileReply, Refused}
use Rattle.py_flat.specs.Causes.{Rose, rose}
use Rattle.py_plain_text.specs.TextFile.{TextFile}
use Rattle.py_plain_text.specs.TextCalls.{TextFileCall}
use Rattle.py_plain_text.specs.TextAllowed.{Settled, TextFileStep}
use Rattle.py_stream.specs.Kinds.{says_fault}
use Rattle.py_read_text.specs.TextState.{TextState, file_of}
use Rattle.py_read_text.specs.Answers.{Answers}
use Rattle.py_textio.specs.Sizes.{IsSmoothCall}

-- what has no cause isn't so
pub uncaused : (said : Bool) (old new : ℕ) → (IsTrue said → Rose old new) → rose old new ≡ false → said ≡ false
uncaused true old new cause none =
    let risen : Rose old new = cause refl in
    let tested : rose old new ≡ true = le-leb _ new risen in
    let wrong : true ≡ false = sym tested ∙ none in
    absurd (cc)
uncaused false old new cause none = refl

-- a step of a text that has neither cause, and had memory
pub text_alone : (before : TextFile) (call : TextFileCall) (reply : FileReply) (waited faulted : Bool) (after : TextFile) → waited ≡ false → faulted ≡ false → reply ≢ Refused fault.NoMemory → TextFileStep before call reply waited faulted after → Settled before call reply after
text_alone before call reply waited faulted after no_wait no_fault had (settled exact) = exact
text_alone before call reply waited faulted after no_wait no_fault had (waited_for rose part) = let wrong : true ≡ false = sym rose ∙ no_wait in absurd (cc)
text_alone before call reply waited faulted after no_wait no_fault had (raw_faulted rose said left) = let wrong : true ≡ false = sym rose ∙ no_fault in absurd (cc)
text_alone before call reply waited faulted after no_wait no_fault had (out_of_memory said left) = absurd (had said)

-- a smooth call of a text over a buffer
pub settles : (before : TextState) (call : TextFileCall) (reply : FileReply) (after : TextState) → Answers before call reply after → IsSmoothCall before reply after → Settled (file_of before) call reply (file_of after)
settles before call reply after step smooth =
    text_alone (file_of before) call reply after.short (says_fault reply) (file_of after)
    (uncaused after.short before.text.buffer.raw.waits after.text.buffer.raw.waits step.causes.waits smooth.waits)
    (uncaused (says_fault reply) before.text.buffer.raw.faults after.text.buffer.raw.faults step.causes.faults smooth.faults)
    smooth.memory (step.told smooth.told)
