use Rattle.std.proofs.Common.{◌≡◌, ◌<◌, ◌∙◌, length, get_or, chars, sym, ap, arith}
use Rattle.std.proofs.lemmas.Iterator.{YieldsList-from_chars}
use Rattle.std.proofs.lemmas.Iterator.Consumers.{YieldsList-turn, YieldsList-end}
use Rattle.std.proofs.lemmas.List.{length_push, take_all}
use Rattle.py_memio.proofs.Spelling.{front_laid}
use Rattle.py_memio.proofs.characters.spell.Goals as goal
use Rattle.py_memio.proofs.characters.spell.Goals.{In-Some}

-- this turn's character is the next of the text
turn : (c : In-Some) → (length c.loop-character.yielded < length (chars c.args.text.now)) × (c.in-Some.character ≡ get_or (chars c.args.text.now) (length c.loop-character.yielded) c.in-Some.character)
turn c = YieldsList-turn (YieldsList-from_chars c.args.text.now c.utf8.text cc) c.loop-character.yielded _ c.loop-character.yielded_by _ _ c.in-Some.character c.in-Some.is c.next.ensures.steps

room : (c : In-Some) → c.loop-character.at < length c.loop-character.characters
room c = let next = (turn c).0 in omega arith

pub offset_bounds-characters-at : goal.offset_bounds-characters-at
offset_bounds-characters-at c = let here = room c in omega arith

pub bounds-characters-at : goal.bounds-characters-at
bounds-characters-at c = room c

pub loop-character-preserved : goal.loop-character-preserved
loop-character-preserved c =
    let next = turn c in
    let at = c.loop-character.invariant.at in
    let inside : c.loop-character.at < length (chars c.args.text.now) = omega (arith, next.0) in
    record {
      at = omega (arith, length_push c.loop-character.yielded c.in-Some.character);
      laid = front_laid c.loop-character.characters (chars c.args.text.now) c.loop-character.at c.in-Some.character (room c) inside (next.1 ∙ ap (λ k. get_or (chars c.args.text.now) k c.in-Some.character) (sym at)) c.loop-character.invariant.laid;
    }

pub returns : goal.returns
returns c =
    let all = YieldsList-end (YieldsList-from_chars c.args.text.now c.utf8.text cc) c.loop-character.yielded _ c.loop-character.yielded_by _ _ c.in-None.is c.next.ensures.steps in
    let slots = take_all c.loop-character.at c.loop-character.characters (omega (arith, all.1)) in
    let text = take_all c.loop-character.at (chars c.args.text.now) (omega (arith, all.1)) in
    sym slots ∙ c.loop-character.invariant.laid ∙ text
