use Rattle.std.proofs.Common.{List, ℕ, ◌≡◌, [], ◌++◌, chars, ap, ◌∙◌}
use Rattle.std.proofs.lemmas.Str.{chars-nil}
use Rattle.py_plain.specs.Items.{characters_of}
use Rattle.py_plain.specs.Handlers.{treatment}
use Rattle.py_codec.specs.Answers.{text_of}
use Rattle.py_codec.specs.Decoding.{walk_here}
use Rattle.py_codec.specs.Front.{items_for}
use Rattle.py_codec.proofs.front.front_text.Goals as goal

pub returns-in-Ok-clause-front : goal.returns-in-Ok-clause-front
returns-in-Ok-clause-front g c =
    let walk = walk_here c.args.encoding (treatment c.args.handler c.args.encoding) c.args.last c.args.bytes.now 0 in
    let given : List ℕ = characters_of (items_for c.args.want walk.items) in
    let shown = c.in-Ok.ensures.front in
    let none : text_of c.new-text.result ≡ [] = ap chars c.new-text.ensures.bytes ∙ chars-nil in
    (shown.0, shown.1, shown.2 ∙ ap (λ cs. cs ++ given) none, shown.3)
