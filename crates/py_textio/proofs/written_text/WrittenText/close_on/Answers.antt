use Rattle.std.specs.Prelude.{vec_capacity, vec_len}
use Rattle.std.proofs.Common.{◌-◌}
use Rattle.py_plain_text.specs.TextCalls.{Close}
use Rattle.py_textio.proofs.Settling.{text_answers}
use Rattle.py_textio.proofs.written_text.WrittenText.close_on.Goals as goal

pub returns : goal.returns
returns g c = text_answers c.args.self.now _ c.close-closed.new.self c.self.inside.pending.items (vec_capacity c.self.inside.pending - vec_len c.self.inside.pending) 0 _ _ Close _ _ c.self.view_is c.self.invariant.0 c.requires.live c.requires.none c.life-self-inside.ensures.life c.close-closed.ensures
