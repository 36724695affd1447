use Rattle.py_plain_text.specs.TextCalls.{Read, ReadLine}
use Rattle.py_plain_text.specs.TextRefusals.{refusal}
use Rattle.py_textio.proofs.Sizes.{same_read, same_line, left_read, left_line, all_alike}
use Rattle.py_textio.proofs.laws.no_answer_hangs_on_the_sizes.Goals as goal

pub returns-clause-read : goal.returns-clause-read
returns-clause-read c = λ file chunk size. same_read (refusal file (Read size)) file chunk size

pub returns-clause-line : goal.returns-clause-line
returns-clause-line c = λ file chunk limit. same_line (refusal file (ReadLine limit)) file chunk limit

pub returns-clause-read_leaves : goal.returns-clause-read_leaves
returns-clause-read_leaves c = λ file chunk size. left_read (refusal file (Read size)) file chunk size

pub returns-clause-line_leaves : goal.returns-clause-line_leaves
returns-clause-line_leaves c = λ file chunk limit. left_line (refusal file (ReadLine limit)) file chunk limit

pub returns-clause-texts : goal.returns-clause-texts
returns-clause-texts c = all_alike
