-- The exact step of a text is allowed.
use Rattle.std.proofs.Common.{◌≡◌, inl, ℕ, Bool, true, false, List, [], Option, Some, None, if◌then◌else◌, refl, ap}
use Rattle.py_flat.specs.declared.fault.IoFault.{IoFault}
use Rattle.py_flat.specs.declared.life.Life.{Life}
use Rattle.py_flat.specs.declared.life.Life.TheVariants as life
use Rattle.py_flat.specs.Calls.{FileReply}
use Rattle.py_flat.specs.BinaryStep.{StandAt}
use Rattle.py_plain_text.specs.TextFile.{TextFile}
use Rattle.py_plain_text.specs.TextCalls.{TextFileCall, Read, ReadLine, WriteText, SeekText, Tell, Reconfigure, SetChunkSize, Flush, Close, Detach, ChunkSize, Readable, Writable, Seekable, Closed, Encoding, Errors, OtherKind}
use Rattle.py_plain_text.specs.TextRefusals.{refusal}
use Rattle.py_plain_text.specs.TextExact.{handed_place, carried_out, answered, exact}
use Rattle.py_plain_text.specs.TextAllowed.{DetachesIn, Accepted, SettledBy, Settled, LeftStarved}

-- no bytes stand anywhere
nothing_stands : (bytes : List ℕ) (seekable : Bool) (at : ℕ) → StandAt [] seekable (if seekable then Some at else None) bytes
nothing_stands bytes true at = refl
nothing_stands bytes false at = (0, refl)

-- a text that is detached as the exact step says gives back what it may
detaches : (life : Life) (file : TextFile) (reply : FileReply) (after : TextFile) → (reply, after) ≡ carried_out file Detach → DetachesIn life file reply after
detaches life.Live file reply after is = is
detaches life.Failed file reply after is = record {
  bytes = [];
  place = handed_place file;
  says = ap (λ p. p.0) is;
  stand = nothing_stands file.bytes file.can.seekable file.place.at;
  leaves = ap (λ p. p.1) is;
}
detaches life.Closed file reply after is = is
detaches life.Detached file reply after is = is

accepted : (file : TextFile) (call : TextFileCall) (reply : FileReply) (after : TextFile) → (reply, after) ≡ carried_out file call → Accepted file call reply after
accepted file Detach reply after is = detaches file.life file reply after is
accepted file (Read size) reply after is = is
accepted file (ReadLine limit) reply after is = is
accepted file (WriteText text) reply after is = is
accepted file (SeekText bytes whence) reply after is = is
accepted file Tell reply after is = is
accepted file (Reconfigure changes) reply after is = is
accepted file (SetChunkSize size) reply after is = is
accepted file Flush reply after is = is
accepted file Close reply after is = is
accepted file ChunkSize reply after is = is
accepted file Readable reply after is = is
accepted file Writable reply after is = is
accepted file Seekable reply after is = is
accepted file Closed reply after is = is
accepted file Encoding reply after is = is
accepted file Errors reply after is = is
accepted file OtherKind reply after is = is

settled-by : (file : TextFile) (call : TextFileCall) (refused : Option IoFault) (reply : FileReply) (after : TextFile) → (reply, after) ≡ answered file call refused → SettledBy file call refused reply after
settled-by file call (Some why) reply after is = (ap (λ p. p.0) is, ap (λ p. p.1) is)
settled-by file call None reply after is = accepted file call reply after is

-- the exact step settles a call
pub exact-settles : (file : TextFile) (call : TextFileCall) (reply : FileReply) (after : TextFile) → (reply, after) ≡ exact file call → Settled file call reply after
exact-settles file call reply after is = settled-by file call (refusal file call) reply after is

-- what is as it was may be left where memory ran out
pub leaves_starved : (file after : TextFile) (call : TextFileCall) → after ≡ file → LeftStarved file call after
leaves_starved file after (SeekText bytes whence) same = inl same
leaves_starved file after call same = same
