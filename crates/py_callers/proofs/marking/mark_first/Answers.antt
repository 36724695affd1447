use Rattle.std.proofs.Common.{rules, ◌≡◌, slice_set, None}
use Rattle.py_memio.specs.BytesIO.{export_refusal, use_refusal, with_bytes}
use Rattle.py_callers.proofs.OneByte.{marks}
use Rattle.py_callers.proofs.marking.mark_first.Goals.{in-Some, in_default}
use Rattle.py_callers.proofs.marking.mark_first.Goals as goal

-- the export may be used
used : (c : goal.After-release) → use_refusal c.getbuffer.new.self c.in_ok-export.export.0 ≡ None
used c = search rules

-- the first byte of the stream is written over, where it has one
written : (c : goal.After-release) → c.match-first_mut.stream ≡ with_bytes c.getbuffer.new.self (slice_set c.getbuffer.new.self.file.bytes 0 c.args.mark)
written c = elim c.match-first_mut.branch [ in-Some w ↦ search rules | in_default w ↦ search rules ]

pub returns : goal.returns
returns c =
    let now = c.args.stream.now in
    marks c.args.mark now (export_refusal now) c.in_ok-export.export c.getbuffer.new.self c.match-first_mut.stream c.release.result c.release.new.self c.in_ok-export.ensures.answer c.in_ok-export.ensures.fresh (used c) (written c) c.release.ensures.answer
