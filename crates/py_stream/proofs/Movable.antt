-- A seek of a stream that may be moved, and of one that may not.
use Rattle.std.proofs.Common.{◌≡◌, ℤ, Bool, true, false, Ok, refl, sym, ap, ◌∙◌, arith}
use Rattle.py_flat.specs.declared.fault.IoFault.TheVariants as fault
use Rattle.py_flat.specs.Calls.{Seek, Refused}
use Rattle.py_stream.specs.Stream.{Stream}
use Rattle.py_stream.specs.Answers.{Answers}
use Rattle.py_stream.specs.Keeping.{IsSound}
use Rattle.py_stream.specs.LiveRaw.{is_movable}
use Rattle.py_stream.specs.Moving.{Begins}
use Rattle.py_stream.proofs.PassingOn.{begun}
use Rattle.py_stream.proofs.Refusing.{IsPlaced, refused_by_ability}
use Rattle.py_stream.proofs.Sizing.{MaySeek}

-- a seek goes on of a stream that may be moved, as it was asked once the call had begun
pub seeks_on : (old started seen : Stream) (moves : Bool) → IsSound old → Begins old (Ok tt) started → seen ≡ started → moves ≡ is_movable seen.can → moves ≡ true → MaySeek (begun old)
seeks_on old started seen moves sound began is asked can = grind arith

-- a seek of a stream that may not be moved is refused as unsupported
pub seeks_not : (old started seen : Stream) (moves : Bool) (offset whence : ℤ) → IsPlaced old → Begins old (Ok tt) started → seen ≡ started → moves ≡ is_movable seen.can → moves ≡ false → Answers old (Seek offset whence) (Refused fault.Unsupported) started
seeks_not old started seen moves offset whence placed began is asked cannot =
    let still : is_movable old.can ≡ false = ap (λ (stream : Stream). is_movable stream.can) (sym began.1 ∙ sym is) ∙ sym asked ∙ cannot in
    refused_by_ability old started (Seek offset whence) placed refl refl began.0 (grind arith) began.1
