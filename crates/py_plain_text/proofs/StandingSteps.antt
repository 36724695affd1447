-- What may come of a call over any raw leaves a live text where a cookie tells its place.
use Rattle.std.proofs.Common.{◌≡◌, inl, inr, ℕ, ◌+◌, Bool, true, false, not, ◌&&◌, is_none, List, length as len, Option, Some, None, refl, sym, ap, subst, ◌∙◌}
use Rattle.std.proofs.lemmas.Bool.{and_parts, false≢true}
use Rattle.py_flat.specs.declared.fault.IoFault.{IoFault}
use Rattle.py_flat.specs.declared.fault.IoFault.TheVariants as fault
use Rattle.py_flat.specs.declared.life.Life.{Life}
use Rattle.py_flat.specs.declared.life.Life.TheVariants as life
use Rattle.py_flat.specs.AllowedStep.{settled, waited_for, raw_faulted, out_of_memory}
use Rattle.py_flat.specs.Calls.{FileReply}
use Rattle.py_flat.specs.BinaryStep.{is_live}
use Rattle.py_flat.specs.Refusals.{or_else, too_far}
use Rattle.py_plain_text.specs.TextFile.{TextFile}
use Rattle.py_plain_text.specs.TextStep.{ReadsTextPart}
use Rattle.py_plain_text.specs.Cookie.{order_of}
use Rattle.py_plain_text.specs.Landing.{start_of}
use Rattle.py_plain_text.specs.TextWriting.{written_bytes, written_refusal}
use Rattle.py_plain_text.specs.TextCalls.{TextFileCall, Read, ReadLine, WriteText, SeekText, Tell, Reconfigure, SetChunkSize, Flush, Close, Detach, ChunkSize, Readable, Writable, Seekable, Closed, Encoding, Errors, OtherKind, is_own}
use Rattle.py_plain_text.specs.TextRefusals.{refusal, dirty_refusal, encode_error}
use Rattle.py_plain_text.specs.TextExact.{in_life, sought_cookie, carried_out}
use Rattle.py_plain_text.specs.TextAllowed.{DetachesIn, Accepted, SettledBy, WaitedBy, FailsWriting, life_after_fault, LeftStarved, TextFileStep}
use Rattle.py_plain_text.specs.CookieLaws.{StandsInText}
use Rattle.py_plain_text.proofs.Standing.{LetThrough, or_none, test_none, not_false, all_none, at_a_byte, in_a_life, same_text, taken_stands, write_stands, call_stands}

-- Settled calls.

as_carried_out : (file : TextFile) → StandsInText file → (call : TextFileCall) → LetThrough file call → (reply : FileReply) (after : TextFile) → (reply, after) ≡ carried_out file call → StandsInText after
as_carried_out file stands call free reply after is = subst StandsInText (sym (ap (λ (p : FileReply × TextFile). p.1) is)) (call_stands file stands call free)

detached_stands : (file : TextFile) → StandsInText file → LetThrough file Detach → (was : Life) (reply : FileReply) (after : TextFile) → DetachesIn was file reply after → StandsInText after
detached_stands file stands free life.Failed reply after back =
    subst StandsInText (sym back.leaves) (in_a_life file stands (in_life file life.Detached) (same_text file (in_life file life.Detached) refl refl refl refl) refl refl)
detached_stands file stands free life.Live reply after is = as_carried_out file stands Detach free reply after is
detached_stands file stands free life.Closed reply after is = as_carried_out file stands Detach free reply after is
detached_stands file stands free life.Detached reply after is = as_carried_out file stands Detach free reply after is

accepted_stands : (file : TextFile) → StandsInText file → (call : TextFileCall) → LetThrough file call → (reply : FileReply) (after : TextFile) → Accepted file call reply after → StandsInText after
accepted_stands file stands Detach free reply after is = detached_stands file stands free file.life reply after is
accepted_stands file stands (Read size) free reply after is = as_carried_out file stands (Read size) free reply after is
accepted_stands file stands (ReadLine limit) free reply after is = as_carried_out file stands (ReadLine limit) free reply after is
accepted_stands file stands (WriteText text) free reply after is = as_carried_out file stands (WriteText text) free reply after is
accepted_stands file stands (SeekText bytes whence) free reply after is = as_carried_out file stands (SeekText bytes whence) free reply after is
accepted_stands file stands Tell free reply after is = as_carried_out file stands Tell free reply after is
accepted_stands file stands (Reconfigure changes) free reply after is = as_carried_out file stands (Reconfigure changes) free reply after is
accepted_stands file stands (SetChunkSize size) free reply after is = as_carried_out file stands (SetChunkSize size) free reply after is
accepted_stands file stands Flush free reply after is = as_carried_out file stands Flush free reply after is
accepted_stands file stands Close free reply after is = as_carried_out file stands Close free reply after is
accepted_stands file stands ChunkSize free reply after is = as_carried_out file stands ChunkSize free reply after is
accepted_stands file stands Readable free reply after is = as_carried_out file stands Readable free reply after is
accepted_stands file stands Writable free reply after is = as_carried_out file stands Writable free reply after is
accepted_stands file stands Seekable free reply after is = as_carried_out file stands Seekable free reply after is
accepted_stands file stands Closed free reply after is = as_carried_out file stands Closed free reply after is
accepted_stands file stands Encoding free reply after is = as_carried_out file stands Encoding free reply after is
accepted_stands file stands Errors free reply after is = as_carried_out file stands Errors free reply after is
accepted_stands file stands OtherKind free reply after is = as_carried_out file stands OtherKind free reply after is

settled_stands : (file : TextFile) → StandsInText file → (call : TextFileCall) (why : Option IoFault) → refusal file call ≡ why → (reply : FileReply) (after : TextFile) → SettledBy file call why reply after → StandsInText after
settled_stands file stands call (Some why) is reply after settles = subst StandsInText (sym settles.1) stands
settled_stands file stands call None is reply after settles = accepted_stands file stands call is reply after settles

-- Waits.

as_before : (file after : TextFile) → StandsInText file → after ≡ file → StandsInText after
as_before file after stands is = subst StandsInText (sym is) stands

part_stands : (file : TextFile) → StandsInText file → file.can.readable ≡ true → (wanted : List ℕ) (reply : FileReply) (after : TextFile) → ReadsTextPart file wanted reply after → StandsInText after
part_stands file stands readable wanted reply after (inl none) = as_before file after stands none.1
part_stands file stands readable wanted reply after (inr some) = subst StandsInText (sym some.4) (taken_stands file stands readable (len some.0) true (λ no. absurd (false≢true (sym no))))

waited_stands : (file : TextFile) → StandsInText file → (call : TextFileCall) → LetThrough file call → (reply : FileReply) (after : TextFile) → WaitedBy file call reply after → StandsInText after
waited_stands file stands (Read size) free reply after waits = part_stands file stands (not_false file.can.readable (all_none file (Read size) free).0) _ reply after waits
waited_stands file stands (ReadLine limit) free reply after waits = part_stands file stands (not_false file.can.readable (all_none file (ReadLine limit) free).0) _ reply after waits
waited_stands file stands (WriteText text) free reply after waits =
    let wrong = or_none (dirty_refusal file) (or_else (encode_error (written_refusal file.settings text)) (too_far (file.place.at + len (written_bytes file.settings text)))) (all_none file (WriteText text) free).1 in
    subst StandsInText (sym waits.1) (write_stands file stands (test_none file.place.dirty fault.SeekFirst wrong.0) (written_bytes file.settings text))
waited_stands file stands (SeekText bytes whence) free reply after (inl again) = as_before file after stands again.1
waited_stands file stands (SeekText bytes whence) free reply after (inr at_start) =
    subst StandsInText (sym at_start.2) (at_a_byte file stands (start_of (sought_cookie file bytes whence)) (order_of (sought_cookie file bytes whence).dec_flags))
waited_stands file stands Flush free reply after waits = as_before file after stands waits.1
waited_stands file stands Close free reply after waits = as_before file after stands waits.1
waited_stands file stands Detach free reply after waits = as_before file after stands waits.1
waited_stands file stands Tell free reply after waits = absurd waits
waited_stands file stands (Reconfigure changes) free reply after waits = absurd waits
waited_stands file stands (SetChunkSize size) free reply after waits = absurd waits
waited_stands file stands ChunkSize free reply after waits = absurd waits
waited_stands file stands Readable free reply after waits = absurd waits
waited_stands file stands Writable free reply after waits = absurd waits
waited_stands file stands Seekable free reply after waits = absurd waits
waited_stands file stands Closed free reply after waits = absurd waits
waited_stands file stands Encoding free reply after waits = absurd waits
waited_stands file stands Errors free reply after waits = absurd waits
waited_stands file stands OtherKind free reply after waits = absurd waits

is_let_through : (why : Option IoFault) → is_none why ≡ true → why ≡ None
is_let_through None is = refl
is_let_through (Some fault) is = absurd (cc)

-- Faults and running out of memory.

-- no text that failed is live
not_live : (file after : TextFile) (call : TextFileCall) (left : Life) → is_live left ≡ false → FailsWriting file call left after → is_live after.life ≡ true → StandsInText after
not_live file after call left dead fails lives = absurd (false≢true (sym dead ∙ (sym (ap is_live fails.2.life_is) ∙ lives)))

dead_after : (call : TextFileCall) → is_live (life_after_fault call) ≡ false
dead_after Close = refl
dead_after (Read size) = refl
dead_after (ReadLine limit) = refl
dead_after (WriteText text) = refl
dead_after (SeekText bytes whence) = refl
dead_after Tell = refl
dead_after (Reconfigure changes) = refl
dead_after (SetChunkSize size) = refl
dead_after Flush = refl
dead_after Detach = refl
dead_after ChunkSize = refl
dead_after Readable = refl
dead_after Writable = refl
dead_after Seekable = refl
dead_after Closed = refl
dead_after Encoding = refl
dead_after Errors = refl
dead_after OtherKind = refl

starved_stands : (file after : TextFile) → StandsInText file → (call : TextFileCall) → LeftStarved file call after → StandsInText after
starved_stands file after stands (SeekText bytes whence) (inl same) = as_before file after stands same
starved_stands file after stands (SeekText bytes whence) (inr at_start) =
    subst StandsInText (sym at_start.1) (at_a_byte file stands (start_of (sought_cookie file bytes whence)) (order_of (sought_cookie file bytes whence).dec_flags))
starved_stands file after stands call same = as_before file after stands same

pub step_stands : (before : TextFile) (call : TextFileCall) (reply : FileReply) (waited faulted : Bool) (after : TextFile) → StandsInText before → TextFileStep before call reply waited faulted after → is_live after.life ≡ true → StandsInText after
step_stands before call reply waited faulted after stands (settled settles) lives = settled_stands before stands call (refusal before call) refl reply after settles
step_stands before call reply waited faulted after stands (waited_for rose waits) lives =
    let works = and_parts (is_live before.life) (is_none (refusal before call) && not (is_own call)) waits.0 in
    let free = and_parts (is_none (refusal before call)) (not (is_own call)) works.1 in
    waited_stands before stands call (is_let_through (refusal before call) free.0) reply after waits.1
step_stands before call reply waited faulted after stands (raw_faulted rose says fails) lives = not_live before after call (life_after_fault call) (dead_after call) fails.1 lives
step_stands before call reply waited faulted after stands (out_of_memory says (inl left)) lives = starved_stands before after stands call left.1
step_stands before call reply waited faulted after stands (out_of_memory says (inr fails)) lives = not_live before after call life.Failed refl fails.1.1 lives
