use Rattle.std.proofs.Common.{◌≡◌, drop, map}
use Rattle.py_script.specs.Settings.{none_given, given_with_words}
use Rattle.py_script.proofs.settings.parse_settings.Given as goal

abbrev pub invariant-loop-word : goal.invariant-loop-word
invariant-loop-word l = given_with_words l.given (map (λ word. word.now) (drop l.word-index l.words)) ≡ given_with_words none_given (map (λ word. word.now) l.words)
