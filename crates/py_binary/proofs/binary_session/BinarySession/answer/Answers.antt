use Rattle.std.proofs.Common.{◌≡◌, sym, ◌∙◌}
use Rattle.py_calls.specs.Calls.{file_call}
use Rattle.py_binary.specs.Binary.{gone_stream}
use Rattle.py_binary.specs.Kinds.{shown}
use Rattle.py_binary.proofs.Sessions.{seen_gone}
use Rattle.py_binary.proofs.Leaving.{gone_answers}
use Rattle.py_binary.proofs.binary_session.BinarySession.answer.Goals as goal

pub returns-then-is_some : goal.returns-then-is_some
returns-then-is_some g c =
    let gone = seen_gone _ c.self.inside.stream c.self.inside.raw (sym c.if-is_some.ensures) in
    let is : c.args.self.now ≡ gone_stream (shown c.self.inside.stream).can (shown c.self.inside.stream).buffer gone.0 = sym c.self.view_is ∙ gone.1 in
    rw (is, c.refuse_detached.ensures) (gone_answers (shown c.self.inside.stream).can (shown c.self.inside.stream).buffer gone.0 (file_call c.args.call.now) c.requires.asks)
