use Rattle.std.proofs.Common.{sym}
use Rattle.py_held_text.proofs.Plain.{own-only, shared-none}
use Rattle.py_held_text.proofs.plain_text.copy_plain.Goals as goal

pub returns-then-plain-eq0-clause-copied : goal.returns-then-plain-eq0-clause-copied
returns-then-plain-eq0-clause-copied c = sym (own-only c.args.known.now c.args.plain.now.bytes c.args.decoded c.args.bytes.now c.if-plain-eq0.true)

pub returns-clause-shared : goal.returns-clause-shared
returns-clause-shared c = shared-none c.put.new.self c.default.result c.args.decoded c.args.bytes.now c.default.ensures
