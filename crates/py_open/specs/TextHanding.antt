-- Handing a text's raw back: by a detaching, which leaves it with the session, and in the end.
use Rattle.std.specs.Prelude.{◌≡◌, ◌≢◌, ℕ, ◌-◌, List, length, Option, Some, None, Result, Ok, Err, if◌then◌else◌}
use Rattle.py_flat.specs.declared.fault.IoFault.{IoFault}
use Rattle.py_flat.specs.declared.life.Life.{Life}
use Rattle.py_flat.specs.declared.life.Life.TheVariants as life
use Rattle.py_flat.specs.Calls.{FileReply, Unwritten, Refused}
use Rattle.py_flat.specs.FlatFile.{Abilities, Buffering}
use Rattle.py_plain_text.specs.TextFile.{TextSettings}
use Rattle.py_plain_text.specs.TextOver.{TextOver}
use Rattle.py_plain_text.specs.TextCalls.{TextFileCall, Detach}
use Rattle.py_raw.specs.RawStream.{Raw}
use Rattle.py_stream.specs.Buffer.{Buffer}
use Rattle.py_read_text.specs.TextState.{TextState}
use Rattle.py_read_text.specs.Owing.{all_owed}
use Rattle.py_read_text.specs.Answers.{Answers}
use Rattle.py_textio.specs.Handing.{detached_text}
use Rattle.py_open.specs.declared.unwritten.TextUnwritten.{TextUnwritten}

-- The place.

-- the place of the first byte that is owed, behind the last of which the text stands; with none owed the byte of the text place; none where
-- the raw can't seek
abbrev pub place_owed : TextOver Buffer → Option ℕ
place_owed text = if text.buffer.can.seekable then Some (text.place.at - length (all_owed text)) else None

abbrev pub place_by : Life → TextOver Buffer → Option ℕ
place_by life.Detached text = None
place_by current text = place_owed text

-- the place that is handed back with the raw: this, and none of a session that was detached, whose reply had it
abbrev pub place_handed : TextOver Buffer → Option ℕ
place_handed text = place_by text.life text

-- Detaching.

-- what a detaching answers
abbrev pub unwritten_reply : Result TextUnwritten IoFault → FileReply
unwritten_reply (Ok parts) = Unwritten parts.bytes.items parts.place
unwritten_reply (Err why) = Refused why

-- what is left of a session whose text was detached: what it could do, its buffer's size, its settings, and the raw
abbrev pub gone_text : Abilities → Buffering → TextSettings → Raw → TextState
gone_text can buffering settings raw =
    let none = detached_text can settings in
    record none { text = record none.text { buffer = record none.text.buffer { raw = raw; buffering = buffering } } }

-- what is left of a text, by its session's life before the call and its own after it: one that was detached before stays as it is
abbrev pub left_by : (was is : Life) → TextState → TextState
left_by life.Detached is state = state
left_by was life.Detached state = gone_text state.text.buffer.can state.text.buffer.buffering state.text.settings state.text.buffer.raw
left_by was is state = state

-- what a call leaves of the text that answered it, by the session's life before
abbrev pub left_of : Life → TextState → TextState
left_of was state = left_by was state.text.life state

-- a detaching hands over all that is owed then, what the buffer owes and behind it what the text itself does, with its place; of a failed
-- text just what was owed, and it calls no raw
pub record HandsAll (before : TextState) (bytes : List ℕ) (place : Option ℕ) (answered : TextState) : Type 0 where
  pub bytes_are : bytes ≡ all_owed answered.text
  pub place_is : place ≡ place_owed answered.text
  pub at_once : before.text.life ≡ life.Failed → (answered.text.buffer ≡ before.text.buffer) × (answered.text.owed ≡ before.text.owed)

-- that of a failed text is never refused
abbrev pub HandsOwed : TextState → TextFileCall → FileReply → TextState → Type 0
HandsOwed before Detach (Unwritten bytes place) answered = HandsAll before bytes place answered
HandsOwed before Detach reply answered = before.text.life ≢ life.Failed
HandsOwed before call reply answered = Unit {0}

-- a call that the text answered; what it left is the session's, which is short where the text was
pub record AnswersCall (before : TextState) (call : TextFileCall) (reply : FileReply) (after : TextState) : Type 0 where
  pub answered : TextState
  pub answers : Answers before call reply answered
  pub hands : HandsOwed before call reply answered
  pub leaves : after ≡ left_of before.text.life answered
  pub marks : after.short ≡ answered.short
