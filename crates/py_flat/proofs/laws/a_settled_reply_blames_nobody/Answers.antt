use Rattle.std.proofs.Common.{◌≡◌, true, false, ap, sym, ◌∙◌}
use Rattle.py_flat.proofs.Settling.{reply_blames, settled_blames_nobody}
use Rattle.py_flat.proofs.laws.a_settled_reply_blames_nobody.Goals as goal

pub returns-clause-no_raw_fault : goal.returns-clause-no_raw_fault
returns-clause-no_raw_fault c = λ before call reply after h e. let k : true ≡ false = sym (ap reply_blames e) ∙ settled_blames_nobody before call reply after h in cc

pub returns-clause-no_want_of_memory : goal.returns-clause-no_want_of_memory
returns-clause-no_want_of_memory c = λ before call reply after h e. let k : true ≡ false = sym (ap reply_blames e) ∙ settled_blames_nobody before call reply after h in cc

pub returns-clause-no_wait : goal.returns-clause-no_wait
returns-clause-no_wait c = λ before call reply after taken h e. let k : true ≡ false = sym (ap reply_blames e) ∙ settled_blames_nobody before call reply after h in cc

pub returns-clause-ready : goal.returns-clause-ready
returns-clause-ready c = λ before call reply after h e. let k : true ≡ false = sym (ap reply_blames e) ∙ settled_blames_nobody before call reply after h in cc
