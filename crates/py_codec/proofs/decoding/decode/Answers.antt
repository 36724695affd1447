use Rattle.std.proofs.Common.{◌∙◌, ap, chars, inl, inr}
use Rattle.std.proofs.lemmas.Str.{chars-nil}
use Rattle.std.proofs.lemmas.List.{take_rest}
use Rattle.py_codec.specs.Treating.{decode_fault}
use Rattle.py_codec.proofs.Continuing.{Continues-start, Continues-run, Continues-given, answer-unfinished, answer-refused}
use Rattle.py_codec.proofs.decoding.decode.Goals as goal

pub loop-run-init : goal.loop-run-init
loop-run-init g c = Continues-start _ _ _ c.args.bytes.now _ (ap chars c.in-Ok.ensures.bytes ∙ chars-nil)

pub loop-run-preserved : goal.loop-run-preserved
loop-run-preserved g c =
    let run = rw (take_rest c.args.bytes.now c.loop-run.place) at c.in-Ok-push_run.ensures in
    let behind = Continues-run _ _ _ c.args.bytes.now c.loop-run.place _ _ _ run c.loop-run.invariant in
    let shown = rw c.in-Ok-Some.field-0-is at c.in-Ok-Some.ensures.shown in
    let within = rw c.in-Ok-Some.field-0-is at c.in-Ok-Some.ensures.within in
    Continues-given _ _ _ c.args.bytes.now _ c.in-Ok-Some.used _ _ shown.0 within.0 within.1 shown.1 shown.2 behind

pub returns-in-Ok-None : goal.returns-in-Ok-None
returns-in-Ok-None g c =
    let bytes = c.args.bytes.now in
    let run = rw (take_rest bytes c.loop-run.place) at c.in-Ok-push_run.ensures in
    let behind = Continues-run _ _ _ bytes c.loop-run.place _ _ _ run c.loop-run.invariant in
    let shown = rw c.in-Ok-None.field-0-is at c.in-Ok-None.ensures.shown in
    answer-unfinished _ _ _ bytes _ _ _ (decode_fault g.H.ErrorHandler.decodes c.args.errors c.args.encoding bytes) shown.0 shown.1 behind

pub returns-in-Err : goal.returns-in-Err
returns-in-Err g c =
    let bytes = c.args.bytes.now in
    let refusal = decode_fault g.H.ErrorHandler.decodes c.args.errors c.args.encoding bytes in
    let run = rw (take_rest bytes c.loop-run.place) at c.in-Ok-push_run.ensures in
    let behind = Continues-run _ _ _ bytes c.loop-run.place _ _ _ run c.loop-run.invariant in
    elim c.in-Err.ensures.shown [
      | inl memory ↦ inl memory
      | inr refused ↦ inr (answer-refused _ _ _ bytes _ refused.0 _ refusal c.in-Err.fault refused.1 refused.2 behind)
    ]
