use Rattle.std.proofs.Common.{◌≡◌, ◌+◌, ◌-◌, take, drop, ap, ◌∙◌, arith}
use Rattle.std.proofs.lemmas.Str.Ascii.{IsAscii-nil}
use Rattle.py_plain.specs.Encode.{text_bytes}
use Rattle.py_blocks.specs.Runs.{utf16}
use Rattle.py_blocks.proofs.Written.{Wrote-none, IsAscii-piece}
use Rattle.py_blocks.proofs.Blocks.{Wrote-block}
use Rattle.py_blocks.proofs.utf16_blocks.push_wide.Goals as goal

pub loop-front-init : goal.loop-front-init
loop-front-init c = record {
  within = omega arith;
  ascii = IsAscii-nil;
  wrote = Wrote-none _ c.args.text.now c.args.bytes.now.items;
}

pub loop-front-preserved : goal.loop-front-preserved
loop-front-preserved c =
    let block = c.in-Some.block in
    let size : 16 ≡ c.loop-front.front + 16 - c.loop-front.front = omega arith in
    let written = ap (λ size. text_bytes (utf16 c.args.big) (take size (drop c.loop-front.front c.args.text.now))) size ∙ c.in-Some.ensures.written in
    record {
      within = omega arith;
      ascii = IsAscii-piece c.args.text.now c.loop-front.front _ 16 (omega arith) c.loop-front.invariant.ascii c.in-Some.ensures.ascii;
      wrote = Wrote-block 16 block c.loop-front.invariant.wrote c.loop-front-test.true written c.in_ok-extend_from_slice.ensures.items;
    }
