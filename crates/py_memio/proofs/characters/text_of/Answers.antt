use Rattle.std.proofs.Common.{◌∙◌, ap, ◌++◌, ◌∷◌, [], chars}
use Rattle.std.proofs.lemmas.Str.{chars-nil}
use Rattle.py_memio.proofs.Spelling.{characters-push, front_more}
use Rattle.py_memio.proofs.characters.text_of.Goals as goal

pub loop-character-preserved : goal.loop-character-preserved
loop-character-preserved c =
    let at = c.loop-character.character-index in
    let item = c.character-item.result in
    characters-push c.loop-character.text c.push.new.self item c.in_ok-push.ensures.bytes
    ∙ ap (λ t. t ++ item ∷ []) c.loop-character.invariant
    ∙ front_more c.args.characters.now at item c.loop-character-test.true c.character-item.is

pub loop-character-init : goal.loop-character-init
loop-character-init c = ap chars c.in_ok-text.ensures.bytes ∙ chars-nil
