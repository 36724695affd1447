use Rattle.std.proofs.Common.{chars, refl}
use Rattle.std.proofs.lemmas.Str.{IsCharBoundary-start}
use Rattle.py_held_text.proofs.Knowing.{all-front}
use Rattle.py_held_text.proofs.answer.last_answer.Goals as goal

pub returns-in-Characters-None-clause-front : goal.returns-in-Characters-None-clause-front
returns-in-Characters-None-clause-front c =
    let text = c.args.text.now in
    all-front (chars text) text text 0 c.args.count c.utf8.text (IsCharBoundary-start text c.utf8.text) refl c.requires.count refl
