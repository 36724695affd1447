use Rattle.py_open.specs.Session.{TextSession, BinarySession, IsKept}
use Rattle.py_open.proofs.Closing.{step_kept, step_closes}
use Rattle.py_open.proofs.session.answer_kind.Goals as goal

pub returns-in-Text-clause-kept : goal.returns-in-Text-clause-kept
returns-in-Text-clause-kept g c =
    let kept : IsKept (TextSession c.in-Text.text) = rw c.in-Text.is at c.requires.kept in
    step_kept (TextSession c.in-Text.text) c.args.call.now c.answer_text.result (TextSession c.answer_text.new.text) c.answer_text.ensures kept

pub returns-in-Text-clause-closes : goal.returns-in-Text-clause-closes
returns-in-Text-clause-closes g c =
    let kept : IsKept (TextSession c.in-Text.text) = rw c.in-Text.is at c.requires.kept in
    rw c.in-Text.is (step_closes (TextSession c.in-Text.text) c.args.call.now c.answer_text.result (TextSession c.answer_text.new.text) c.answer_text.ensures kept)

pub returns-in-Binary-clause-kept : goal.returns-in-Binary-clause-kept
returns-in-Binary-clause-kept g c =
    let kept : IsKept (BinarySession c.in-Binary.session) = rw c.in-Binary.is at c.requires.kept in
    step_kept (BinarySession c.in-Binary.session) c.args.call.now c.call.result (BinarySession c.call.new.self) c.call.ensures kept

pub returns-in-Binary-clause-closes : goal.returns-in-Binary-clause-closes
returns-in-Binary-clause-closes g c =
    let kept : IsKept (BinarySession c.in-Binary.session) = rw c.in-Binary.is at c.requires.kept in
    rw c.in-Binary.is (step_closes (BinarySession c.in-Binary.session) c.args.call.now c.call.result (BinarySession c.call.new.self) c.call.ensures kept)
