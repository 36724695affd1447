-- What comes of a path that was opened, once the raw was put away again.
use Rattle.std.proofs.Common.{◌≡◌, ℕ, true, false, inl, inr, IsTrue, IsSome, List, Option, Some, Result, Ok, Err, refl, sym, ◌∙◌, ap, subst}
use Rattle.py_raw.specs.declared.opener.OpenError.{OpenError}
use Rattle.py_raw.specs.declared.opener.OpenError.TheVariants as open_error
use Rattle.py_raw.specs.RawStream.{Raw}
use Rattle.py_raw.proofs.Telling.{tells_still}
use Rattle.py_raw.specs.Sink.{SinkView}
use Rattle.py_raw.specs.Opener.{OpenerView, OpenKeeps, Opens, DoneKeeps, DoneOutcome, PutsAway}
use Rattle.py_open.specs.Opening.{access_of}
use Rattle.py_program.specs.declared.status.Status.{Status}
use Rattle.py_program.specs.declared.status.Status.TheVariants as status
use Rattle.py_open.specs.Session.{raw_of}
use Rattle.py_open.specs.Laws.{flat_left}
use Rattle.py_open.proofs.Runs.{run_keeps_raw, run_in_step, opened_in_step}
use Rattle.py_open.proofs.Resting.{run_rests}
use Rattle.py_open.proofs.Ending.{step_passes, shown_where_told}
use Rattle.py_open.specs.Paths.{raw_mode}
use Rattle.py_program.specs.Outcome.{Asked, RanCalls, RawOutcome, OpensPath, PathHoldsFlat, CallsOutcome, after_done}
use Rattle.py_open.proofs.Reached.{opening_keeps}
use Rattle.py_program.proofs.Printed.{rose_later}

-- once a raw was put away, the path holds its bytes where the opener tells, whatever that answered
puts_away : (path : List ℕ) (asked : Asked) (raw back : Raw) (before mid after : OpenerView) (done : Result (Unit {0}) OpenError) → OpenKeeps before mid → Opens before path (raw_mode asked.plan) raw mid → DoneOutcome back mid path done after → IsTrue before.tells → PutsAway back mid path after
puts_away path asked raw back before mid after (Ok done) keeps opens puts tells = puts (keeps.tells ∙ tells)
puts_away path asked raw back before mid after (Err open_error.Fault) keeps opens puts tells = let both : true ≡ false = sym (keeps.tells ∙ tells) ∙ puts.untold in cc
puts_away path asked raw back before mid after (Err open_error.Memory) keeps opens puts tells =
    let put = puts (keeps.tells ∙ tells) in
    let P : Option (List ℕ) → Type 0 = λ held. IsSome held in
    record { held = put.held (subst P (sym (opens.told tells).held) refl); others = put.others }

-- once a raw was put away, the path holds the flat bytes where a close or detach of a live session was done: nothing calls the raw after that
holds_flat : (path : List ℕ) (asked : Asked) (raw back : Raw) (before mid after : OpenerView) (old new : SinkView) (lines : List ℕ) → Opens before path (raw_mode asked.plan) raw mid → (IsTrue before.tells → PutsAway back mid path after) → (ran : RanCalls raw asked back lines) → PathHoldsFlat path ran.run.opened ran.session (record { opener = before; sink = old }) (record { opener = after; sink = new })
holds_flat path asked raw back before mid after old new lines opens puts ran front rest replies others live_view next call reply first step second live ended passes tells =
    let told = opens.told tells in
    let begun = opening_keeps asked.plan.kind (access_of asked.plan.mode) raw ran.run.opened ran.run.opens in
    let kept = run_keeps_raw ran.run.opened front replies live_view first in
    let in_step = run_in_step ran.run.opened front replies live_view first (opened_in_step raw asked.plan ran.run.opened ran.run.opens) in
    let flat = step_passes live_view call reply next step in_step live passes in
    (puts tells).held
    ∙ ap Some (ap (λ (raw : Raw). raw.bytes) (ran.raw_is ∙ run_rests next rest others ran.session second ended) ∙ shown_where_told live_view ((raw_of next).bytes ≡ flat_left live_view call) flat.holds (tells_still (raw_of ran.run.opened) (raw_of live_view) kept ∙ tells_still raw (raw_of ran.run.opened) begun.keeps ∙ told.tells))

-- all that comes of a path that was opened, by how the calls ended
opened : (path : List ℕ) (asked : Asked) (ended : Status) (raw back : Raw) (before mid after : OpenerView) (old new : SinkView) (done : Result (Unit {0}) OpenError) → OpenKeeps before mid → Opens before path (raw_mode asked.plan) raw mid → RawOutcome raw asked ended back old new → DoneKeeps back mid after → DoneOutcome back mid path done after → OpensPath path asked ended (record { opener = before; sink = old }) (record { opener = after; sink = new })
opened path asked ended raw back before mid after old new done keeps opens does kept puts = record {
  raw = raw;
  mid = mid;
  back = back;
  open_keeps = keeps;
  opens = opens;
  does = does;
  done_keeps = kept;
  puts = puts_away path asked raw back before mid after done keeps opens puts;
  flat = λ lines ran. holds_flat path asked raw back before mid after old new lines opens (puts_away path asked raw back before mid after done keeps opens puts) ran;
}

put_away_outcome : (path : List ℕ) (asked : Asked) (ended : Status) (raw back : Raw) (before mid after : OpenerView) (old new : SinkView) (done : Result (Unit {0}) OpenError) → OpenKeeps before mid → Opens before path (raw_mode asked.plan) raw mid → RawOutcome raw asked ended back old new → DoneKeeps back mid after → DoneOutcome back mid path done after → CallsOutcome path asked (after_done ended done) (record { opener = before; sink = old }) (record { opener = after; sink = new })
put_away_outcome path asked status.Done raw back before mid after old new (Ok done) keeps opens does kept puts = opened path asked status.Done raw back before mid after old new (Ok done) keeps opens does kept puts
put_away_outcome path asked status.Done raw back before mid after old new (Err open_error.Fault) keeps opens does kept puts =
    inr (opened path asked status.Done raw back before mid after old new (Err open_error.Fault) keeps opens does kept puts, rose_later before.faults mid.faults after.faults keeps.faults puts.cause, sym keeps.tells ∙ puts.untold)
put_away_outcome path asked status.Done raw back before mid after old new (Err open_error.Memory) keeps opens does kept puts =
    inr (inl (opened path asked status.Done raw back before mid after old new (Err open_error.Memory) keeps opens does kept puts))
put_away_outcome path asked status.Refused raw back before mid after old new done keeps opens does kept puts = opened path asked status.Refused raw back before mid after old new done keeps opens does kept puts
put_away_outcome path asked status.SinkFailed raw back before mid after old new done keeps opens does kept puts = opened path asked status.SinkFailed raw back before mid after old new done keeps opens does kept puts
put_away_outcome path asked status.NoMemory raw back before mid after old new done keeps opens does kept puts = inl (opened path asked status.NoMemory raw back before mid after old new done keeps opens does kept puts)
put_away_outcome path asked status.WordsMalformed raw back before mid after old new done keeps opens does kept puts = absurd does
put_away_outcome path asked status.ScriptMalformed raw back before mid after old new done keeps opens does kept puts = absurd does
put_away_outcome path asked status.SourceFailed raw back before mid after old new done keeps opens does kept puts = absurd does
put_away_outcome path asked status.OpenerFailed raw back before mid after old new done keeps opens does kept puts = absurd does

-- all that comes of a path that was opened, by the status of the calls and of putting the raw away
pub ended_outcome : (path : List ℕ) (asked : Asked) (ended last : Status) (raw back : Raw) (before mid after : OpenerView) (old new : SinkView) (done : Result (Unit {0}) OpenError) → last ≡ after_done ended done → OpenKeeps before mid → Opens before path (raw_mode asked.plan) raw mid → RawOutcome raw asked ended back old new → DoneKeeps back mid after → DoneOutcome back mid path done after → CallsOutcome path asked last (record { opener = before; sink = old }) (record { opener = after; sink = new })
ended_outcome path asked ended last raw back before mid after old new done is keeps opens does kept puts =
    subst (λ (as_told : Status). CallsOutcome path asked as_told (record { opener = before; sink = old }) (record { opener = after; sink = new })) (sym is) (put_away_outcome path asked ended raw back before mid after old new done keeps opens does kept puts)
