use Rattle.py_plain.proofs.TextBytes.{Writes-more, Writes-none}
use Rattle.py_plain.proofs.plain_encode.push_text.Goals as goal

pub returns-then-not-branch : goal.returns-then-not-branch
returns-then-not-branch c =
    let here = rw c.if-not-branch.true at c.in_ok-push_character.ensures in
    rw (c.truncate.ensures.items, c.len-before.ensures, c.args.out.now.ok.0) (Writes-none _ _ _ _ _ _ _ c.loop-character-test.true c.character-item.is c.loop-character.invariant here)

pub loop-character-preserved : goal.loop-character-preserved
loop-character-preserved c =
    let here = rw c.if-not-branch.false at c.in_ok-push_character.ensures in
    Writes-more _ _ _ _ _ _ _ c.loop-character-test.true c.character-item.is c.loop-character.invariant here
