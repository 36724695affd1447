use Rattle.std.proofs.Common.{◌++◌, chars, ap, ◌∙◌}
use Rattle.std.proofs.lemmas.Str.{chars-nil}
use Rattle.py_codec.proofs.substituting.string_of.Goals as goal

pub returns : goal.returns
returns c = c.in_ok-push_characters.ensures ∙ ap (λ t. t ++ c.args.characters.now) (ap chars c.new-text.ensures.bytes ∙ chars-nil)
