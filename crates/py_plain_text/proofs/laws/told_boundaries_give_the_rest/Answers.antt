use Rattle.py_plain_text.proofs.Cookies.{told-boundary-back}
use Rattle.py_plain_text.proofs.laws.told_boundaries_give_the_rest.Goals as goal

pub returns : goal.returns
returns c = λ file boundary found. told-boundary-back file boundary found
