use Rattle.py_telling.proofs.Fronts.{told_past_front, none_in_front, told_in_front, told_front_spot}
use Rattle.py_telling.proofs.laws.told_behind_a_front.Goals as goal

pub returns-clause-behind : goal.returns-clause-behind
returns-clause-behind c = λ file front is past. told_past_front file front is past

pub returns-clause-none : goal.returns-clause-none
returns-clause-none c = λ file front reads is less. none_in_front file front reads is less

pub returns-clause-inside : goal.returns-clause-inside
returns-clause-inside c = λ file front reads is less. told_in_front file front reads is less

pub returns-clause-spot : goal.returns-clause-spot
returns-clause-spot c = λ file front reads unknown stands is less. told_front_spot file front reads unknown stands is less
