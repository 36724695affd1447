-- What refuses a session over a raw that was opened as it is planned.
use Rattle.std.proofs.Common.{◌≡◌, ◌≢◌, ℕ, ◌⊎◌, inl, inr, Bool, true, false, IsFalse, Option, Some, None, IsSome, refl, sym, ◌∙◌, arith}
use Rattle.py_flat.specs.declared.fault.IoFault.{IoFault}
use Rattle.py_flat.specs.declared.fault.IoFault.TheVariants as fault
use Rattle.py_raw.specs.RawMode.{raw_mode_text}
use Rattle.py_raw.specs.Opener.{IsOpened}
use Rattle.py_raw.specs.RawStream.{Raw}
use Rattle.py_stream.specs.declared.access.Access.{Access}
use Rattle.py_stream.specs.declared.access.Access.TheVariants as access
use Rattle.py_stream.specs.Access.{is_able}
use Rattle.py_calls.specs.declared.plan.OpenPlan.{OpenPlan}
use Rattle.py_calls.specs.declared.mode.FileMode.{FileMode}
use Rattle.py_calls.specs.declared.mode.FileMode.TheVariants.{Read, Write, Exclusive, Append}
use Rattle.py_calls.specs.Mode.{letter_of}
use Rattle.py_calls.specs.declared.mode.Mode.{Mode}
use Rattle.py_calls.specs.declared.plan.PlanKind.{PlanKind}
use Rattle.py_calls.specs.declared.plan.PlanKind.TheVariants as kind
use Rattle.py_calls.specs.Plan.{buffer_of, IsPlannedAs, IsPlanned}
use Rattle.py_open.specs.Opening.{access_by, access_of, suits_plan, RefusesSession}
use Rattle.py_open.specs.Paths.{raw_mode, RefusesOpened, RefusesOrLacks}

-- a raw is able to do what it is opened for, or has to be moved and can't seek
abbrev IsAble : Access → Option ℕ → Raw → Type 0
IsAble opened buffer raw = (is_able opened buffer raw ≡ true) ⊎ ((opened ≡ access.Update) × IsSome buffer × IsFalse raw.seekable)

updates : (buffer : Option ℕ) (raw : Raw) (seeks : Bool) → raw.readable ≡ true → raw.writable ≡ true → raw.seekable ≡ seeks → IsAble access.Update buffer raw
updates None raw seeks reads writes is = inl (rw (reads, writes) refl)
updates (Some size) raw true reads writes is = inl (rw (reads, writes, is) refl)
updates (Some size) raw false reads writes is = inr (refl, refl, is)

opened_able : (file : FileMode) (plus : Bool) (buffer : Option ℕ) (raw : Raw) → IsOpened (raw_mode_text (letter_of file) plus) raw → IsAble (access_by file plus) buffer raw
opened_able Read false buffer raw opened = inl opened.reads
opened_able Read true buffer raw opened = updates buffer raw raw.seekable opened.reads opened.writes refl
opened_able Write false buffer raw opened = inl opened.writes
opened_able Write true buffer raw opened = updates buffer raw raw.seekable opened.reads opened.writes refl
opened_able Exclusive false buffer raw opened = inl opened.writes
opened_able Exclusive true buffer raw opened = updates buffer raw raw.seekable opened.reads opened.writes refl
opened_able Append false buffer raw opened = inl opened.writes
opened_able Append true buffer raw opened = inl opened.writes

-- a raw that isn't able can't seek, and has to be moved
unable : (raw back : Raw) (plan : OpenPlan) → IsAble (access_of plan.mode) (buffer_of plan.kind) raw → suits_plan plan raw ≡ false → back ≡ raw → RefusesOpened raw plan fault.Unsupported back
unable raw back plan (inl able) lacking same = let both : true ≡ false = sym able ∙ lacking in absurd (cc)
unable raw back plan (inr still) lacking same = ((still.0, still.1), still.2, same)

-- a session over a raw that was opened is refused when out of memory, by a fault of the raw, or where it has to be moved and can't seek
refused_session : (raw back : Raw) (plan : OpenPlan) (refused : IoFault) → IsOpened (raw_mode plan) raw → buffer_of plan.kind ≢ Some 0 → RefusesSession raw plan refused back → RefusesOrLacks raw plan refused back
refused_session raw back plan fault.NoMemory opened some why = inl refl
refused_session raw back plan fault.RawFault opened some why = inr why
refused_session raw back plan fault.Closed opened some why = let closed : true ≡ false = sym why.0 ∙ opened.live in cc
refused_session raw back plan fault.Unsupported opened some why = inr (unable raw back plan (opened_able plan.mode.file plan.mode.plus (buffer_of plan.kind) raw opened) why.1 why.2)
refused_session raw back plan fault.BadArgument opened some why = absurd (some why.2)
refused_session raw back plan _ opened some why = absurd why

-- what can be opened has no buffer of no bytes
some_bytes : (mode : Mode) (planned : PlanKind) → IsPlannedAs mode planned → buffer_of planned ≢ Some 0
some_bytes mode (kind.Text text) may is = let none : text.buffer_size ≡ 0 = cc in let some = may.buffer in omega arith
some_bytes mode (kind.Buffered size) may is = let none : size ≡ 0 = cc in omega arith
some_bytes mode kind.Bare may is = cc

-- a session over an opened raw is refused by running out of memory, or as an opened raw is
pub refused_by : (raw back : Raw) (plan : OpenPlan) (refused : IoFault) → IsPlanned plan → IsOpened (raw_mode plan) raw → RefusesSession raw plan refused back → RefusesOrLacks raw plan refused back
refused_by raw back plan refused may opened why = refused_session raw back plan refused opened (some_bytes plan.mode plan.kind may) why
