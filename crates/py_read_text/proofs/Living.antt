-- Only a detaching leaves a text detached.
use Rattle.std.proofs.Common.{◌≡◌, ◌≢◌, inl, inr, Bool, false, refl, sym, ◌∙◌}
use Rattle.py_flat.specs.declared.fault.IoFault.TheVariants as fault
use Rattle.py_flat.specs.declared.life.Life.{Life}
use Rattle.py_flat.specs.declared.life.Life.TheVariants as life
use Rattle.py_flat.specs.Calls.{FileReply, Done, Refused}
use Rattle.py_plain_text.specs.TextCalls.{TextFileCall, Close, Detach, is_detach}
use Rattle.py_read_text.specs.TextState.{TextState}
use Rattle.py_read_text.specs.Answers.{Answers, LifeMoves, life_after, hands_back}

after_call : (call : TextFileCall) (reply : FileReply) (current : Life) → is_detach call ≡ false → current ≢ life.Detached → life_after call reply current ≢ life.Detached
after_call Detach reply current other is = absurd (cc)
after_call Close Done current other is = λ gone. absurd (cc)
after_call Close (Refused fault.RawFault) current other is = λ gone. absurd (cc)
after_call call (Refused fault.RawFault) current other is = λ gone. absurd (cc)
after_call call reply current other is = is

kept_so : (writes : Bool) (call : TextFileCall) (reply : FileReply) (before after : Life) → is_detach call ≡ false → LifeMoves writes call reply before after → before ≢ life.Detached → after ≢ life.Detached
kept_so writes call (Refused fault.NoMemory) before after other (inl same) is = λ gone. is (sym same ∙ gone)
kept_so writes call (Refused fault.NoMemory) before after other (inr failed) is = λ gone. let never : life.Failed ≡ life.Detached = sym failed.1 ∙ gone in absurd (cc)
kept_so writes call reply before after other moves is = λ gone. after_call call reply before other is (sym moves ∙ gone)

-- a text that isn't detached isn't so after any other call
pub lives_on : (before : TextState) (call : TextFileCall) (reply : FileReply) (after : TextState) → is_detach call ≡ false → before.text.life ≢ life.Detached → Answers before call reply after → after.text.life ≢ life.Detached
lives_on before call reply after other is answers = kept_so before.text.buffer.can.writable call reply before.text.life after.text.life other answers.moves.life_is is

-- nor does another hand the buffer back
pub hands_none : (call : TextFileCall) (reply : FileReply) → is_detach call ≡ false → hands_back call reply ≡ false
hands_none Detach reply other = absurd (cc)
hands_none call reply other = refl
