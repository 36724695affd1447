-- What refuses a call of a text before it does any work blames nothing but the text and the call.
use Rattle.std.proofs.Common.{◌≡◌, ℕ, ◌+◌, zero, suc, ℤ, pos, Bool, true, false, not, nat_eq, length, Option, Some, None, if◌then◌else◌, List, [], refl, sym, ap, ◌∙◌}
use Rattle.py_flat.specs.declared.fault.IoFault.{IoFault}
use Rattle.py_flat.specs.declared.fault.IoFault.TheVariants as fault
use Rattle.py_flat.specs.declared.life.Life.{Life}
use Rattle.py_flat.specs.declared.life.Life.TheVariants as life
use Rattle.py_flat.specs.FlatFile.{Abilities}
use Rattle.py_flat.specs.Refusals.{or_else, refused_if, life_fault, too_far}
use Rattle.py_flat.proofs.Settling.{blames}
use Rattle.py_plain.specs.declared.handler.Handler.{Handler}
use Rattle.py_plain_text.specs.TextFile.{TextFile}
use Rattle.py_plain_text.specs.TextCalls.{TextFileCall, WriteText, SeekText, Reconfigure, SetChunkSize, changes_reading, is_getter}
use Rattle.py_plain_text.specs.TextRefusals.{refusal, lets_through, life_refusal, lacks, whence_refusal, counts_on, cookie_refusal, end_refusal, encode_error, dirty_refusal, fits_handler, handler_refusal, argument_refusal}
use Rattle.py_plain_text.specs.TextWriting.{written_bytes, written_refusal}
use Rattle.py_read_text.specs.Answers.{refused_here}

-- a fault that only work has: the raw's, a want of memory, or that a cookie doesn't fit the bytes
abbrev pub of_work : IoFault → Bool
of_work fault.CannotRestore = true
of_work why = blames why

-- a refusal by nothing but the text and the call
abbrev pub IsOwn : Option IoFault → Type 0
IsOwn None = Unit {0}
IsOwn (Some why) = of_work why ≡ false

own_or : (first second : Option IoFault) → IsOwn first → IsOwn second → IsOwn (or_else first second)
own_or None second one other = other
own_or (Some why) second one other = one

own_if : (is : Bool) (why : IoFault) → of_work why ≡ false → IsOwn (refused_if is why)
own_if true why own = own
own_if false why own = tt

own_choice : (is : Bool) (first second : Option IoFault) → IsOwn first → IsOwn second → IsOwn (if is then first else second)
own_choice true first second one other = one
own_choice false first second one other = other

own_life : (current : Life) → IsOwn (life_fault current)
own_life life.Live = tt
own_life life.Failed = refl
own_life life.Closed = refl
own_life life.Detached = refl

own_far : (place : ℕ) → IsOwn (too_far place)
own_far place = own_if _ fault.TooFar refl

own_encode : (run : Option (ℕ × ℕ)) → IsOwn (encode_error run)
own_encode None = tt
own_encode (Some run) = refl

own_whence : (whence : ℤ) → IsOwn (whence_refusal whence)
own_whence (pos zero) = tt
own_whence whence = own_if (not (counts_on whence)) fault.BadWhence refl

own_end : (file : TextFile) (whence : ℤ) → IsOwn (end_refusal file whence)
own_end file (pos (suc (suc zero))) = own_far (length file.bytes)
own_end file whence = tt

own_handler : (can : Abilities) (handler : Option Handler) → IsOwn (handler_refusal can handler)
own_handler can None = tt
own_handler can (Some handler) = own_if (not (fits_handler can handler)) fault.UnknownHandler refl

own_dirty : (file : TextFile) → IsOwn (dirty_refusal file)
own_dirty file = own_if file.place.dirty fault.SeekFirst refl

own_argument : (file : TextFile) (call : TextFileCall) → IsOwn (argument_refusal file call)
own_argument file (WriteText text) = own_or (dirty_refusal file) _ (own_dirty file) (own_or (encode_error (written_refusal file.settings text)) (too_far (file.place.at + length (written_bytes file.settings text))) (own_encode (written_refusal file.settings text)) (own_far (file.place.at + length (written_bytes file.settings text))))
own_argument file (SeekText sought whence) = own_or (whence_refusal whence) _ (own_whence whence) (own_or (cookie_refusal file sought) (end_refusal file whence) (own_if _ fault.InvalidCookie refl) (own_end file whence))
own_argument file (Reconfigure changes) = own_or (if changes_reading changes then dirty_refusal file else None) (handler_refusal file.can changes.handler) (own_choice (changes_reading changes) (dirty_refusal file) None (own_dirty file) tt) (own_handler file.can changes.handler)
own_argument file (SetChunkSize size) = own_if (nat_eq size 0) fault.BadArgument refl
own_argument file call = tt

pub own_refusal : (file : TextFile) (call : TextFileCall) → IsOwn (refusal file call)
own_refusal file call =
    own_choice (is_getter call) None _ tt
    (own_or (life_refusal file.life call) _ (own_choice (lets_through file.life call) None (life_fault file.life) tt (own_life file.life))
    (own_or (refused_if (lacks file call) fault.Unsupported) (argument_refusal file call) (own_if (lacks file call) fault.Unsupported refl) (own_argument file call)))

own_so : (refusal : Option IoFault) (why : IoFault) → IsOwn refusal → refusal ≡ Some why → of_work why ≡ false
own_so None why own is = absurd (cc)
own_so (Some other) why own is = let same : other ≡ why = cc in ap of_work (sym same) ∙ own

work_blames : (why : IoFault) → of_work why ≡ false → blames why ≡ false
work_blames fault.CannotRestore own = absurd (cc)
work_blames why own = own

-- what refuses a seek before its buffer is asked for anything
pub own_seek : (file : TextFile) (sought : List ℕ) (whence : ℤ) (why : IoFault) → refused_here file (SeekText sought whence) ≡ Some why → blames why ≡ false
own_seek file sought whence why is = work_blames why (own_so _ why (own_refusal (record file { bytes = [] }) (SeekText sought whence)) is)
