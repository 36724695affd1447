use Rattle.py_plain_text.proofs.Surely.{surely_characters, surely_refused}
use Rattle.py_plain_text.proofs.laws.what_is_surely_left_stays.Goals as goal

pub returns-clause-characters : goal.returns-clause-characters
returns-clause-characters c = λ file more last reads lies. surely_characters file more last reads lies

pub returns-clause-refusal : goal.returns-clause-refusal
returns-clause-refusal c = λ file more last reads lies range is. surely_refused file more last reads lies range is
