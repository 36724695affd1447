use Rattle.std.proofs.Common.{sym, ◌∙◌, arith}
use Rattle.py_read_text.proofs.Feeding.{unfit_unread, unfit_unfed}
use Rattle.py_read_text.proofs.seeking.read_fed.Goals as goal
use Rattle.py_read_text.proofs.seeking.read_fed.Goals.{then-not-readable-via-then-not-readable, then-not-readable-via-else-not-readable+then-size-eq0, then-not-readable-via-else-not-readable+else-size-eq0+then-size-gt-MOST_FED}

pub returns-then-not-readable : goal.returns-then-not-readable
returns-then-not-readable g c = record {
  outcome = elim c.then-not-readable.branch [
    | then-not-readable-via-then-not-readable w ↦ unfit_unread _ _ _ _ _ c.requires.can c.requires.none (sym c.readable.ensures ∙ w.if-not-readable.true)
    | then-not-readable-via-else-not-readable+then-size-eq0 w ↦ unfit_unfed _ _ _ _ _ c.requires.can c.requires.none (λ one most. omega (arith, one, w.if-size-eq0.true, c.fed_by-size.ensures))
    | then-not-readable-via-else-not-readable+else-size-eq0+then-size-gt-MOST_FED w ↦ unfit_unfed _ _ _ _ _ c.requires.can c.requires.none (λ one most. omega (arith, most, w.if-size-gt-MOST_FED.true, c.fed_by-size.ensures))
  ];
}
