-- What is left of a session's text that answered a call.
use Rattle.std.proofs.Common.{◌≡◌, ◌≢◌, ℕ, ◌-◌, Bool, true, false, List, [], length, Option, Some, None, if◌then◌else◌, refl, sym, ap, ◌∙◌, subst}
use Rattle.py_flat.specs.declared.fault.IoFault.{IoFault}
use Rattle.py_flat.specs.declared.fault.IoFault.TheVariants as fault
use Rattle.py_flat.specs.declared.life.Life.{Life}
use Rattle.py_flat.specs.declared.life.Life.TheVariants as life
use Rattle.py_flat.specs.Bytes.{lay}
use Rattle.py_flat.specs.Calls.{FileReply, Unwritten, Refused}
use Rattle.py_flat.specs.FlatFile.{Abilities, Buffering}
use Rattle.py_plain_text.specs.TextFile.{TextFile, TextPlace, TextSettings}
use Rattle.py_plain_text.specs.TextCalls.{TextFileCall, Detach}
use Rattle.py_raw.specs.RawStream.{Raw}
use Rattle.py_read_text.specs.TextState as state
use Rattle.py_read_text.specs.TextState.{TextState}
use Rattle.py_read_text.specs.Owing.{all_owed}
use Rattle.py_read_text.specs.Answers as over
use Rattle.py_read_text.proofs.Living.{lives_on}
use Rattle.py_open.specs.TextSession.{OwesNothing}
use Rattle.py_open.specs.TextHanding.{left_by, left_of, gone_text, HandsOwed, AnswersCall}
use Rattle.py_open.proofs.TextKeeping.{not_detached}
use Rattle.py_open.proofs.Detaching.{laid_all}
use Rattle.py_open.specs.Session.{IsDetachedText, LeftBy, TextLeft, unwritten_in}
use Rattle.py_open.specs.Laws.{without_place, left_exactly}

-- What stays.

left_raw : (was current : Life) (text : TextState) → (left_by was current text).text.buffer.raw ≡ text.text.buffer.raw
left_raw life.Detached current text = refl
left_raw was life.Detached text = refl
left_raw was current text = refl

left_can : (was current : Life) (text : TextState) → (left_by was current text).text.buffer.can ≡ text.text.buffer.can
left_can life.Detached current text = refl
left_can was life.Detached text = refl
left_can was current text = refl

left_buffering : (was current : Life) (text : TextState) → (left_by was current text).text.buffer.buffering ≡ text.text.buffer.buffering
left_buffering life.Detached current text = refl
left_buffering was life.Detached text = refl
left_buffering was current text = refl

left_settings : (was current : Life) (text : TextState) → (left_by was current text).text.settings ≡ text.text.settings
left_settings life.Detached current text = refl
left_settings was life.Detached text = refl
left_settings was current text = refl

left_life : (was current : Life) (text : TextState) → text.text.life ≡ current → (left_by was current text).text.life ≡ current
left_life life.Detached current text is = is
left_life was life.Detached text is = refl
left_life was current text is = is

left_none : (was current : Life) (text : TextState) → all_owed text.text ≡ [] → all_owed (left_by was current text).text ≡ []
left_none life.Detached current text none = none
left_none was life.Detached text none = refl
left_none was current text none = none

owes_left : (was current : Life) (text : TextState) → OwesNothing text → OwesNothing (left_by was current text)
owes_left life.Detached current text none = none
owes_left was life.Detached text none = record { none = refl; own = refl; life_is = refl }
owes_left was current text none = none

-- a call that leaves the life leaves the text
left_again : (was current : Life) (text : TextState) → current ≡ was → left_by was current text ≡ text
left_again life.Detached current text is = refl
left_again was life.Detached text is = absurd (cc)
left_again was current text is = refl

left_closed : (was : Life) (text : TextState) → left_by was life.Closed text ≡ text
left_closed life.Detached text = refl
left_closed was text = refl

-- So of a call.

pub call_raw : (before : TextState) (call : TextFileCall) (reply : FileReply) (after : TextState) → (step : AnswersCall before call reply after) → after.text.buffer.raw ≡ step.answered.text.buffer.raw
call_raw before call reply after step = ap (λ (t : TextState). t.text.buffer.raw) step.leaves ∙ left_raw before.text.life step.answered.text.life step.answered

pub call_can : (before : TextState) (call : TextFileCall) (reply : FileReply) (after : TextState) → (step : AnswersCall before call reply after) → after.text.buffer.can ≡ step.answered.text.buffer.can
call_can before call reply after step = ap (λ (t : TextState). t.text.buffer.can) step.leaves ∙ left_can before.text.life step.answered.text.life step.answered

pub call_buffering : (before : TextState) (call : TextFileCall) (reply : FileReply) (after : TextState) → (step : AnswersCall before call reply after) → after.text.buffer.buffering ≡ step.answered.text.buffer.buffering
call_buffering before call reply after step = ap (λ (t : TextState). t.text.buffer.buffering) step.leaves ∙ left_buffering before.text.life step.answered.text.life step.answered

pub call_settings : (before : TextState) (call : TextFileCall) (reply : FileReply) (after : TextState) → (step : AnswersCall before call reply after) → after.text.settings ≡ step.answered.text.settings
call_settings before call reply after step = ap (λ (t : TextState). t.text.settings) step.leaves ∙ left_settings before.text.life step.answered.text.life step.answered

pub call_life : (before : TextState) (call : TextFileCall) (reply : FileReply) (after : TextState) → (step : AnswersCall before call reply after) → after.text.life ≡ step.answered.text.life
call_life before call reply after step = ap (λ (t : TextState). t.text.life) step.leaves ∙ left_life before.text.life step.answered.text.life step.answered refl

pub call_none : (before : TextState) (call : TextFileCall) (reply : FileReply) (after : TextState) → (step : AnswersCall before call reply after) → all_owed step.answered.text ≡ [] → all_owed after.text ≡ []
call_none before call reply after step none = ap (λ (t : TextState). all_owed t.text) step.leaves ∙ left_none before.text.life step.answered.text.life step.answered none

-- what leaves the text that answered as it was leaves the session so
pub call_again : (before : TextState) (call : TextFileCall) (reply : FileReply) (after : TextState) → (step : AnswersCall before call reply after) → step.answered ≡ record before { short = false } → after ≡ record before { short = false }
call_again before call reply after step same = step.leaves ∙ (left_again before.text.life step.answered.text.life step.answered (ap (λ (t : TextState). t.text.life) same) ∙ same)

-- a call that closes it leaves the session so
pub call_closed : (before : TextState) (call : TextFileCall) (reply : FileReply) (after : TextState) → (step : AnswersCall before call reply after) → step.answered.text.life ≡ life.Closed → after ≡ step.answered
call_closed before call reply after step closed = step.leaves ∙ (ap (λ (current : Life). left_by before.text.life current step.answered) closed ∙ left_closed before.text.life step.answered)

-- what isn't written, and owed nothing, owes nothing then

owes_call : (before : TextState) (call : TextFileCall) (reply : FileReply) (a : TextState) → over.Answers before call reply a → before.text.buffer.can.writable ≡ false → OwesNothing before → OwesNothing (left_by before.text.life a.text.life a)
owes_call before Detach (Unwritten bytes place) a answers reads none = subst (λ (current : Life). OwesNothing (left_by before.text.life current a)) (sym answers.moves.life_is) (by before.text.life refl)
  where
    by : (was : Life) → before.text.life ≡ was → OwesNothing (left_by was life.Detached a)
    by life.Detached is = let wrong = (answers.refused fault.Detached (rw is refl)).says in absurd (cc)
    by was is = record { none = refl; own = refl; life_is = refl }
owes_call before call reply a answers reads none = owes_left before.text.life a.text.life a (record {
  none = (answers.spares reads none.none).owed;
  own = answers.tied.owed reads ∙ none.own;
  life_is = answers.tied.life_is reads none.life_is refl;
})

pub call_owes : (before : TextState) (call : TextFileCall) (reply : FileReply) (after : TextState) → AnswersCall before call reply after → before.text.buffer.can.writable ≡ false → OwesNothing before → OwesNothing after
call_owes before call reply after step reads none = subst OwesNothing (sym step.leaves) (owes_call before call reply step.answered step.answers reads none)

-- The flat file.

-- where what is handed over belongs, if that is told
pub told_at : (seekable : Bool) (at place : ℕ) → (if seekable then Some at else None) ≡ Some place → at ≡ place
told_at true at place is = cc
told_at false at place is = cc

-- a text is detached by nothing but a `detach` that was answered, which leaves its bytes without those that it hands over
detached_left : (before : TextState) (call : TextFileCall) (reply : FileReply) (a : TextState) → before.text.life ≢ life.Detached → a.text.life ≡ life.Detached → over.Answers before call reply a → HandsOwed before call reply a → IsDetachedText (state.file_of a) reply (state.file_of (gone_text a.text.buffer.can a.text.buffer.buffering a.text.settings a.text.buffer.raw))
detached_left before Detach (Unwritten bytes place) a was is answers hands = record {
  life_is = refl;
  can = refl;
  settings = refl;
  place = refl;
  at = a.text.place.at - length (all_owed a.text);
  told = λ there same. told_at a.text.buffer.can.seekable (a.text.place.at - length (all_owed a.text)) there (sym hands.place_is ∙ same);
  bytes = laid_all a.text.buffer a.text.owed a.text.place.at answers.joined ∙ ap (λ (owed : List ℕ). lay a.text.buffer.raw.bytes (a.text.place.at - length (all_owed a.text)) owed) (sym hands.bytes_are);
}
detached_left before Detach (Refused why) a was is answers hands = absurd (not_detached before.text.buffer.can.writable why before.text.life a.text.life answers.moves.life_is was is)
detached_left before Detach reply a was is answers hands = absurd (was (sym answers.moves.life_is ∙ is))
detached_left before call reply a was is answers hands = absurd (lives_on before call reply a refl was answers is)

pub left_text : (was current : Life) (before : TextState) (call : TextFileCall) (reply : FileReply) (a : TextState) → before.text.life ≡ was → a.text.life ≡ current → over.Answers before call reply a → HandsOwed before call reply a → LeftBy IsDetachedText was current (state.file_of a) reply (state.file_of (left_by was current a))
left_text life.Detached current before call reply a was is answers hands = refl
left_text life.Live life.Detached before call reply a was is answers hands = detached_left before call reply a (λ gone. let wrong : life.Live ≡ life.Detached = sym was ∙ gone in absurd (cc)) is answers hands
left_text life.Failed life.Detached before call reply a was is answers hands = detached_left before call reply a (λ gone. let wrong : life.Failed ≡ life.Detached = sym was ∙ gone in absurd (cc)) is answers hands
left_text life.Closed life.Detached before call reply a was is answers hands = detached_left before call reply a (λ gone. let wrong : life.Closed ≡ life.Detached = sym was ∙ gone in absurd (cc)) is answers hands
left_text was current before call reply a was_is is answers hands = refl

-- a file that keeps its life is left as it is
pub left_as_it_is : (was : Life) (file : TextFile) (reply : FileReply) → LeftBy IsDetachedText was was file reply file
left_as_it_is life.Detached file reply = refl
left_as_it_is was file reply = refl

-- Exactly.

-- two texts are the same whose parts are
same_parts : (one other : TextFile) → one.bytes ≡ other.bytes → one.place ≡ other.place → one.can ≡ other.can → one.settings ≡ other.settings → one.life ≡ other.life → one ≡ other
same_parts one other bytes place can settings current =
    ap (λ (b : List ℕ). let file : TextFile = record one { bytes = b } in file) bytes
    ∙ (ap (λ (p : TextPlace). let file : TextFile = record one { bytes = other.bytes; place = p } in file) place
    ∙ (ap (λ (c : Abilities). let file : TextFile = record one { bytes = other.bytes; place = other.place; can = c } in file) can
    ∙ (ap (λ (s : TextSettings). let file : TextFile = record one { bytes = other.bytes; place = other.place; can = other.can; settings = s } in file) settings
    ∙ ap (λ (l : Life). let file : TextFile = record other { life = l } in file) current)))

gone_as : (file : TextFile) (reply : FileReply) (after : TextFile) → file.life ≡ life.Detached → unwritten_in reply ≡ [] → IsDetachedText file reply after → after ≡ without_place file
gone_as file reply after gone none is =
    same_parts after (without_place file)
    (sym (is.bytes ∙ ap (λ (bytes : List ℕ). lay after.bytes is.at bytes) none))
    is.place is.can is.settings (is.life_is ∙ sym gone)

-- of a text that hands nothing over it is told what is left
pub left_exact : (was current : Life) (file : TextFile) (reply : FileReply) (after : TextFile) → file.life ≡ current → unwritten_in reply ≡ [] → LeftBy IsDetachedText was current file reply after → after ≡ left_exactly was current file
left_exact life.Detached current file reply after is none left = left
left_exact life.Live life.Detached file reply after is none left = gone_as file reply after is none left
left_exact life.Failed life.Detached file reply after is none left = gone_as file reply after is none left
left_exact life.Closed life.Detached file reply after is none left = gone_as file reply after is none left
left_exact was current file reply after is none left = left
