use Rattle.std.proofs.Common.{◌≡◌, refl, sym, ◌∙◌}
use Rattle.py_flat.specs.Calls.{Detach, Refused}
use Rattle.py_binary.specs.Binary.{gone_stream}
use Rattle.py_binary.specs.Kinds.{shown}
use Rattle.py_binary.proofs.Sessions.{seen_gone, seen_kept, session_served, served_held}
use Rattle.py_binary.proofs.Answering.{with_reply_room}
use Rattle.py_binary.proofs.Leaving.{gone_answers, answers_call, detach_answers, no_answer}
use Rattle.py_binary.proofs.binary_session.BinarySession.detach.Goals as goal

pub returns-then-is_some : goal.returns-then-is_some
returns-then-is_some g c =
    let gone = seen_gone _ c.self.inside.stream c.self.inside.raw (sym c.if-is_some.ensures) in
    let is : c.args.self.now ≡ gone_stream (shown c.self.inside.stream).can (shown c.self.inside.stream).buffer gone.0 = sym c.self.view_is ∙ gone.1 in
    rw is (gone_answers (shown c.self.inside.stream).can (shown c.self.inside.stream).buffer gone.0 Detach refl)

pub returns-in-None : goal.returns-in-None
returns-in-None g c =
    let attached = (served_held c.self.inside.stream (session_served c.self.inside.stream c.self.inside.raw (sym c.if-is_some.ensures) c.self.invariant)).attached in
    rw (sym c.self.view_is, seen_kept _ c.self.inside.stream c.self.inside.raw (sym c.if-is_some.ensures), c.replace.ensures.after, c.from_vec.ensures) (detach_answers (shown c.self.inside.stream) (shown c.detach_stream.new.stream) _ c.in-Ok.detached.unwritten.items c.in-Ok.detached.place attached c.in-Ok.ensures.0)

pub returns-in-Err : goal.returns-in-Err
returns-in-Err g c =
    let kept = sym c.if-is_some.ensures in
    let served = session_served c.self.inside.stream c.self.inside.raw kept c.self.invariant in
    rw (sym c.self.view_is, seen_kept _ c.self.inside.stream c.self.inside.raw kept, seen_kept _ c.detach_stream.new.stream c.self.inside.raw kept)
    (answers_call (shown c.self.inside.stream) Detach (Refused c.in-Err.fault) (shown c.detach_stream.new.stream) (served_held c.self.inside.stream served) (no_answer Detach c.in-Err.fault) (with_reply_room _ _ _ _ c.in-Err.ensures.0))
