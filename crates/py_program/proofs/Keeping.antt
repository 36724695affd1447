-- What the paths hold, once a path that was opened was put away again.
use Rattle.std.proofs.Common.{◌≡◌, ◌≢◌, ℕ, ◌⊎◌, Bool, true, false, inl, inr, IsTrue, List, [], Option, Some, None, is_none, unwrap_or, bytes_eq, refl, sym, ◌∙◌, ap, subst}
use Rattle.std.proofs.lemmas.Slice.Eq.{bytes_eq-Decides}
use Rattle.py_flat.specs.declared.fault.IoFault.{IoFault}
use Rattle.py_flat.specs.declared.fault.IoFault.TheVariants as fault
use Rattle.py_flat.specs.FlatFile.{Abilities}
use Rattle.py_plain_text.specs.TextFile.{TextFile}
use Rattle.py_raw.specs.RawStream.{Raw}
use Rattle.py_raw.proofs.Telling.{tells_its_bytes}
use Rattle.py_raw.specs.RawMode.{raw_mode_text}
use Rattle.py_raw.specs.Sink.{SinkView}
use Rattle.py_raw.specs.Opener.{OpenerView, HoldsTheSame, OthersHoldTheSame, misses, opened_bytes}
use Rattle.py_stream.specs.Stream.{Stream}
use Rattle.py_stream.specs.Opening.{Lacking, Untouched, Opens}
use Rattle.py_calls.specs.declared.plan.PlanKind.{PlanKind}
use Rattle.py_calls.specs.declared.plan.PlanKind.TheVariants as kind
use Rattle.py_calls.specs.declared.mode.FileMode.{FileMode}
use Rattle.py_calls.specs.declared.mode.FileMode.TheVariants.{Read, Write, Exclusive, Append}
use Rattle.py_calls.specs.declared.plan.OpenPlan.{OpenPlan}
use Rattle.py_calls.specs.Mode.{letter_of}
use Rattle.py_stream.specs.declared.access.Access.{Access}
use Rattle.py_stream.specs.declared.access.Access.TheVariants as access
use Rattle.py_stream.specs.Access.{can_of, is_able}
use Rattle.py_open.specs.Session.{SessionView, TextSession, BinarySession, raw_of}
use Rattle.py_open.specs.Opening.{access_by, access_of, OpensBy}
use Rattle.py_open.specs.Run.{RefusesOpening}
use Rattle.py_open.specs.Laws.{OnlyReads}
use Rattle.py_open.proofs.Reached.{opening_keeps}
use Rattle.py_open.proofs.Runs.{run_spares}
use Rattle.py_program.specs.declared.status.Status.{Status}
use Rattle.py_program.specs.declared.status.Status.TheVariants as status
use Rattle.py_open.specs.Paths.{raw_mode, RefusesOpened}
use Rattle.py_program.specs.Outcome.{Outside, Asked, closed_calls, RanCalls, HasLines, PrintsSome, RawOutcome, OpensPath}

-- a path is a given one or another
same_or_other : (test : Bool) (other path : List ℕ) → bytes_eq other path ≡ test → (other ≡ path) ⊎ (other ≢ path)
same_or_other true other path is = inl ((bytes_eq-Decides other path).0 is)
same_or_other false other path is = inr (λ same. let both : true ≡ false = sym ((bytes_eq-Decides other path).1 same) ∙ is in cc)

-- every path holds what it held, where one does and the others do
all_hold : (path : List ℕ) (old new : OpenerView) → new.holds path ≡ old.holds path → OthersHoldTheSame path old new → HoldsTheSame old new
all_hold path old new here others other =
    elim (same_or_other (bytes_eq other path) other path refl) [
      | inl same ↦ ap new.holds same ∙ here ∙ ap old.holds (sym same)
      | inr differs ↦ others other differs
    ]

-- what is found at a path is held there
found_held : (held : Option (List ℕ)) → is_none held ≡ false → Some (unwrap_or held []) ≡ held
found_held (Some bytes) found = refl
found_held None found = cc

-- two changes, each of which leaves the other paths, leave them together
others_of_both : (path : List ℕ) (old mid new : OpenerView) → OthersHoldTheSame path old mid → OthersHoldTheSame path mid new → OthersHoldTheSame path old new
others_of_both path old mid new first second other differs = second other differs ∙ first other differs

-- A raw that is only read keeps its bytes.

bytes_to_read : (opened : Access) (raw : Raw) (buffer : Option ℕ) (stream : Stream) → opened ≡ access.Read → Opens (is_able opened buffer) (can_of opened) raw buffer stream → OnlyReads (BinarySession stream)
bytes_to_read opened raw buffer stream reads opens = (ap (λ (can : Abilities). can.writable) (opens.can_do ∙ ap (λ (by : Access). can_of by raw.seekable) reads), opens.owed)

-- a session that is opened to be read only reads
pub opened_to_read : (planned : PlanKind) (opened : Access) (raw : Raw) (session : SessionView) → opened ≡ access.Read → OpensBy planned opened raw session → OnlyReads session
opened_to_read (kind.Text planned) opened raw (TextSession view) reads opens = (
  ap (λ (file : TextFile). file.can.writable) opens.file ∙ ap (λ (by : Access). (can_of by raw.seekable).writable) reads,
  record { none = opens.none; own = opens.own; life_is = opens.life_is ∙ sym (ap (λ (file : TextFile). file.life) opens.file) },
)
opened_to_read (kind.Buffered size) opened raw (BinarySession stream) reads opens = bytes_to_read opened raw (Some size) stream reads opens
opened_to_read kind.Bare opened raw (BinarySession stream) reads opens = bytes_to_read opened raw None stream reads opens
opened_to_read (kind.Text planned) opened raw (BinarySession stream) reads opens = absurd opens
opened_to_read (kind.Buffered size) opened raw (TextSession text) reads opens = absurd opens
opened_to_read kind.Bare opened raw (TextSession text) reads opens = absurd opens

run_keeps : (raw back : Raw) (asked : Asked) (lines : List ℕ) → access_of asked.plan.mode ≡ access.Read → RanCalls raw asked back lines → IsTrue raw.tells_bytes → back.bytes ≡ raw.bytes
run_keeps raw back asked lines reads ran tells =
    let opened = opening_keeps asked.plan.kind (access_of asked.plan.mode) raw ran.run.opened ran.run.opens in
    ap (λ (last : Raw). last.bytes) ran.raw_is
    ∙ run_spares ran.run.opened (closed_calls asked.calls) ran.replies ran.session ran.run.run (opened_to_read asked.plan.kind (access_of asked.plan.mode) raw ran.run.opened reads ran.run.opens) (opened.keeps.tells_bytes ∙ tells)
    ∙ opened.bytes tells

lacking_keeps : (appends : Bool) (raw back : Raw) → Lacking appends raw back → IsTrue raw.tells_bytes → back.bytes ≡ raw.bytes
lacking_keeps true raw back lacks tells = lacks.0.bytes tells
lacking_keeps false raw back lacks tells = ap (λ (same : Raw). same.bytes) lacks

none_keeps : (raw back : Raw) (asked : Asked) → (back ≡ raw) ⊎ RefusesOpening raw asked.plan fault.NoMemory back → IsTrue raw.tells_bytes → back.bytes ≡ raw.bytes
none_keeps raw back asked (inl same) tells = ap (λ (as_was : Raw). as_was.bytes) same
none_keeps raw back asked (inr refused) tells = lacking_keeps (can_of (access_of asked.plan.mode) raw.seekable).appending raw back refused.1 tells

refused_keeps : (raw back : Raw) (plan : OpenPlan) (refused : IoFault) → RefusesOpened raw plan refused back → IsTrue raw.tells_bytes → back.bytes ≡ raw.bytes
refused_keeps raw back plan fault.RawFault why tells = why.3.bytes tells
refused_keeps raw back plan fault.Unsupported why tells = ap (λ (same : Raw). same.bytes) why.2
refused_keeps raw back plan _ why tells = absurd why

lines_keep : (raw back : Raw) (asked : Asked) (lines : List ℕ) → access_of asked.plan.mode ≡ access.Read → HasLines raw asked back lines → IsTrue raw.tells_bytes → back.bytes ≡ raw.bytes
lines_keep raw back asked lines reads (inl ran) tells = run_keeps raw back asked lines reads ran tells
lines_keep raw back asked lines reads (inr refused) tells = refused_keeps raw back asked.plan refused.refused refused.why tells

some_keeps : (raw back : Raw) (asked : Asked) (old new : SinkView) → access_of asked.plan.mode ≡ access.Read → PrintsSome raw asked back old new → IsTrue raw.tells_bytes → back.bytes ≡ raw.bytes
some_keeps raw back asked old new reads prints tells = lines_keep raw back asked prints.0 reads prints.1 tells

outcome_keeps : (raw back : Raw) (asked : Asked) (ended : Status) (old new : SinkView) → access_of asked.plan.mode ≡ access.Read → RawOutcome raw asked ended back old new → IsTrue raw.tells_bytes → back.bytes ≡ raw.bytes
outcome_keeps raw back asked status.Done old new reads does tells = run_keeps raw back asked does.0 reads does.1 tells
outcome_keeps raw back asked status.Refused old new reads does tells = refused_keeps raw back asked.plan does.1.refused does.1.why tells
outcome_keeps raw back asked status.SinkFailed old new reads does tells = some_keeps raw back asked old new reads does.0 tells
outcome_keeps raw back asked status.NoMemory old new reads (inl prints) tells = some_keeps raw back asked old new reads prints tells
outcome_keeps raw back asked status.NoMemory old new reads (inr none) tells = none_keeps raw back asked none.hands tells
outcome_keeps raw back asked status.WordsMalformed old new reads does tells = absurd does
outcome_keeps raw back asked status.ScriptMalformed old new reads does tells = absurd does
outcome_keeps raw back asked status.SourceFailed old new reads does tells = absurd does
outcome_keeps raw back asked status.OpenerFailed old new reads does tells = absurd does

-- Paths.

-- what is opened to be read alone has the file letter of reading
pub file_read : (file : FileMode) (plus : Bool) → access_by file plus ≡ access.Read → file ≡ Read
file_read Read plus reads = refl
file_read Write true reads = cc
file_read Write false reads = cc
file_read Exclusive true reads = cc
file_read Exclusive false reads = cc
file_read Append plus reads = cc

-- what is opened to be read holds what it held
read_holds : (file : FileMode) (plus : Bool) (held : Option (List ℕ)) → file ≡ Read → misses (raw_mode_text (letter_of file) plus) held ≡ false → Some (opened_bytes (raw_mode_text (letter_of file) plus) held) ≡ held
read_holds file plus held reads found =
    let P : FileMode → Type 0 = λ named. misses (raw_mode_text (letter_of named) plus) held ≡ false in
    let Q : FileMode → Type 0 = λ named. Some (opened_bytes (raw_mode_text (letter_of named) plus) held) ≡ held in
    subst Q (sym reads) (found_held held (subst P reads found))

-- every other path holds what it held, whatever became of the calls
pub path_spares : (path : List ℕ) (asked : Asked) (ended : Status) (before after : Outside) → OpensPath path asked ended before after → IsTrue before.opener.tells → OthersHoldTheSame path before.opener after.opener
path_spares path asked ended before after opened tells = others_of_both path before.opener opened.mid after.opener (opened.opens.told tells).others (opened.puts tells).others

-- a path that was opened to be read holds what it held, whatever became of the calls
pub path_keeps : (path : List ℕ) (asked : Asked) (ended : Status) (before after : Outside) → access_of asked.plan.mode ≡ access.Read → OpensPath path asked ended before after → IsTrue before.opener.tells → HoldsTheSame before.opener after.opener
path_keeps path asked ended before after reads opened tells =
    let told = opened.opens.told tells in
    let same = outcome_keeps opened.raw opened.back asked ended before.sink after.sink reads opened.does (tells_its_bytes opened.raw told.tells) in
    all_hold path before.opener after.opener
    ((opened.puts tells).held ∙ ap Some (same ∙ told.bytes) ∙ read_holds asked.plan.mode.file asked.plan.mode.plus (before.opener.holds path) (file_read asked.plan.mode.file asked.plan.mode.plus reads) told.found)
    (path_spares path asked ended before after opened tells)

-- a path whose raw was refused holds what its opening left
pub path_left : (path : List ℕ) (asked : Asked) (before after : Outside) → OpensPath path asked status.Refused before after → IsTrue before.opener.tells → after.opener.holds path ≡ Some (opened_bytes (raw_mode asked.plan) (before.opener.holds path))
path_left path asked before after opened tells =
    let told = opened.opens.told tells in
    (opened.puts tells).held ∙ ap Some (refused_keeps opened.raw opened.back asked.plan opened.does.1.refused opened.does.1.why (tells_its_bytes opened.raw told.tells) ∙ told.bytes)
