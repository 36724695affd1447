use Rattle.py_blocks.proofs.Appended.{text_of-push, take-push}
use Rattle.py_codec.proofs.replacing.push_characters.Goals as goal

pub loop-character-preserved : goal.loop-character-preserved
loop-character-preserved c =
    let pushed = text_of-push c.loop-character.text c.push.new.self c.character-item.result c.in_ok-push.ensures.bytes in
    take-push c.args.characters.now _ _ _ c.loop-character.character-index c.character-item.result c.loop-character-test.true c.character-item.is c.loop-character.invariant pushed
