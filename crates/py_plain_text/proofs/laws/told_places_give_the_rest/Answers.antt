use Rattle.py_plain_text.proofs.Least.{told_least}
use Rattle.py_plain_text.proofs.Told.{told_back, told_inside_one}
use Rattle.py_plain_text.proofs.Fitting.{told_built, told_parsed}
use Rattle.py_plain_text.proofs.laws.told_places_give_the_rest.Goals as goal

pub returns-clause-back : goal.returns-clause-back
returns-clause-back c = λ file stands. (told_back file stands).0

pub returns-clause-few : goal.returns-clause-few
returns-clause-few c = λ file stands. (told_back file stands).1

pub returns-clause-inside : goal.returns-clause-inside
returns-clause-inside c = λ file stands skipped. told_inside_one file stands skipped

pub returns-clause-built : goal.returns-clause-built
returns-clause-built c = λ file stands reach. told_built file stands reach

pub returns-clause-parsed : goal.returns-clause-parsed
returns-clause-parsed c = λ file stands reach. told_parsed file stands reach

pub returns-clause-least : goal.returns-clause-least
returns-clause-least c = λ file stands readable boundary among gives. told_least file stands readable boundary among gives
