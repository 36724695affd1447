use Rattle.std.proofs.Common.{length, Err, ap, ◌∙◌, ℕ}
use Rattle.py_flat.specs.Lines.{Lf, Cr, lf, cr}
use Rattle.py_plain.proofs.LineEnds.{lf_finds, cr_finds, lf_ends, cr_ends, byte_found, byte_missed, all_left}
use Rattle.py_plain.proofs.find_newline.find_byte.Goals as goal

pub returns-in-Some-clause-lf : goal.returns-in-Some-clause-lf
returns-in-Some-clause-lf c = λ same. byte_found Lf c.args.byte lf lf_finds lf_ends same c.args.bytes.now c.in-Some.at c.in-Some.ensures.0 c.in-Some.ensures.1

pub returns-in-Some-clause-cr : goal.returns-in-Some-clause-cr
returns-in-Some-clause-cr c = λ same. byte_found Cr c.args.byte cr cr_finds cr_ends same c.args.bytes.now c.in-Some.at c.in-Some.ensures.0 c.in-Some.ensures.1

pub returns-in-None-clause-lf : goal.returns-in-None-clause-lf
returns-in-None-clause-lf c = λ same. ap (λ (n : ℕ). Err n) (all_left (length c.args.bytes.now)) ∙ byte_missed Lf c.args.byte lf lf_finds same c.args.bytes.now c.in-None.ensures

pub returns-in-None-clause-cr : goal.returns-in-None-clause-cr
returns-in-None-clause-cr c = λ same. ap (λ (n : ℕ). Err n) (all_left (length c.args.bytes.now)) ∙ byte_missed Cr c.args.byte cr cr_finds same c.args.bytes.now c.in-None.ensures
