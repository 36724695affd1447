-- A call for which the buffer was called, of a text that is written: the parts of its clause.
use Rattle.std.specs.Prelude.{◌≡◌, Bool, true, false, IsTrue, [], ◌++◌, None}
use Rattle.py_flat.specs.Calls.{FileReply}
use Rattle.py_flat.specs.Causes.{rose}
use Rattle.py_plain_text.specs.TextCalls.{TextFileCall}
use Rattle.py_plain_text.specs.TextAllowed.{TextFileStep}
use Rattle.py_stream.specs.Kinds.{says_fault}
use Rattle.py_stream.specs.Buffer.{WhereShown}
use Rattle.py_read_text.specs.Ahead.{ReadsNoFurther}
use Rattle.py_read_text.specs.Answers.{refused_here, calls_nothing, passes_on, gives_text, may_read, IsReplyTo, IsComplete, IsShort, PlaceMoves, ReadsOneLine, WriteMoves, LifeMoves, settings_after, closes_again, WantsMemory, ClosesWithRaw, HidesNothing, TextPasses, MovesByOwn, TextKeeps, TextHolds, TextBlames, TextSeeks}
use Rattle.py_read_text.specs.Owing.{all_owed, IsJoined, given_by, OwesOn, LaysOwed, Starves, StopsOwing, KeepsOpen, StaysWhileOwing, may_close, Closes}
use Rattle.py_textio.specs.Written.{WrittenView, place_now, over_of, state_of, file_now, CallsBuffer}

pub record Works (old : WrittenView) (call : TextFileCall) (reply : FileReply) (new : WrittenView) (short : Bool) : Type 0 where
  -- the call is accepted, and asks for something that only the buffer has
  pub accepted : refused_here (file_now old) call ≡ None
  pub once : closes_again old.life call ≡ false
  pub some : calls_nothing call ≡ false
  pub busy : passes_on old.pending call ≡ true
  pub writes : old.text.buffer.can.writable ≡ true
  -- the buffer was called
  pub calls : CallsBuffer old.text.buffer short (says_fault reply) new.text.buffer
  pub shorts : IsShort reply short
  -- what moved
  pub settings : new.text.settings ≡ settings_after call reply old.text.settings
  pub life_is : LifeMoves true call reply old.life new.life
  pub place : PlaceMoves call short reply (place_now old) new.text.buffer.place (place_now new)
  pub written : WriteMoves (over_of old) call reply (over_of new)
  pub lines : ReadsOneLine old.text.settings.newline call reply
  pub blames : TextBlames call reply old.text.settings (place_now old) new.text.buffer.place
  pub seeks : TextSeeks call reply (over_of old) (place_now new)
  pub joined : IsJoined (over_of new)
  -- what became of the bytes that were owed, and of the raw
  pub owes : OwesOn (over_of old) call (over_of new)
  pub lays : LaysOwed (over_of old) (all_owed (over_of old) ++ given_by old.text.settings call) (over_of new)
  pub starves : Starves (over_of old) call reply (over_of new)
  pub closes : Closes old.life call old.text.buffer reply new.text.buffer
  pub stays : may_close call reply ≡ false → KeepsOpen old.text.buffer new.text.buffer
  pub unclosed : StaysWhileOwing old.text.buffer (over_of new)
  pub stops : IsTrue short → StopsOwing (may_read call) (over_of new)
  pub by_own : MovesByOwn call (over_of old) (over_of new)
  -- what was answered
  pub answer : IsReplyTo true call reply
  pub complete : rose old.text.buffer.raw.waits new.text.buffer.raw.waits ≡ false → rose old.text.buffer.raw.faults new.text.buffer.raw.faults ≡ false → IsComplete call reply short
  pub wants : WantsMemory call reply old.text.buffer
  pub shut : old.pending ≡ [] → ClosesWithRaw call old.text.buffer reply new.text.buffer
  pub told : WhereShown old.text.buffer (TextFileStep (file_now old) call reply short (says_fault reply) (file_now new))
  pub needs : gives_text call ≡ true → ReadsNoFurther (state_of old false) call (state_of new short)
  pub hides : IsTrue short → gives_text call ≡ true → new.pending ≡ [] → HidesNothing (state_of old false) (state_of new short)
  pub passes : TextPasses (state_of old false) call reply (state_of new short)
  pub kept : TextKeeps call reply (state_of new short)
  pub holds : TextHolds (over_of old) call reply (over_of new)
