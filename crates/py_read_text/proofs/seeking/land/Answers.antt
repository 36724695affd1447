use Rattle.std.proofs.Common.{sym}
use Rattle.py_plain_text.specs.CookieView.{cookie_shown}
use Rattle.py_read_text.proofs.Feeding.{lands_inside, lands_unfit, lands_waiting, lands_failing, fed_starved, lands_back}
use Rattle.py_read_text.proofs.seeking.land.Goals as goal

pub returns-in-Ok-Fits : goal.returns-in-Ok-Fits
returns-in-Ok-Fits g c = record { outcome = lands_inside _ _ _ _ _ _ c.in-Ok-Fits.text c.in-Ok-Fits.skipped _ (rw c.start_of.ensures at c.in-Ok.ensures.outcome) (rw c.in-Ok-Fits.field-0-is at c.in-Ok-Fits.ensures.outcome) }

pub returns-in-Ok-Unfit : goal.returns-in-Ok-Unfit
returns-in-Ok-Unfit g c = record { outcome = lands_unfit _ _ _ _ _ _ _ (rw c.start_of.ensures at c.in-Ok.ensures.outcome) (rw c.in-Ok-Unfit.field-0-is at c.in-Ok-Unfit.ensures.outcome) }

pub returns-in-Ok-Waits : goal.returns-in-Ok-Waits
returns-in-Ok-Waits g c = record { outcome = lands_waiting _ _ _ _ _ _ _ (rw c.start_of.ensures at c.in-Ok.ensures.outcome) (rw c.in-Ok-Waits.field-0-is at c.in-Ok-Waits.ensures.outcome) }

pub returns-then-is_no_memory : goal.returns-then-is_no_memory
returns-then-is_no_memory g c =
    let gone = rw c.start_of.ensures at c.in-Ok.ensures.outcome in
    let read = fed_starved _ _ c.args.coder.encoding c.args.coder.errors (cookie_shown c.args.cookie.now) c.in-Err-read_fed.fault _ (sym c.if-is_no_memory.ensures) c.in-Err-read_fed.ensures.outcome in
    record { outcome = lands_back _ _ _ _ _ _ _ _ c.go_back.result gone read (rw c.requires.stood at c.go_back.ensures.back) }

pub returns-else-is_no_memory : goal.returns-else-is_no_memory
returns-else-is_no_memory g c = record { outcome = lands_failing _ _ _ _ _ _ c.in-Err-read_fed.fault _ (rw c.start_of.ensures at c.in-Ok.ensures.outcome) (sym c.if-is_no_memory.ensures) c.in-Err-read_fed.ensures.outcome }
