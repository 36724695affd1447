use Rattle.std.proofs.Common.{◌≡◌, drop, map, string_bytes}
use Rattle.py_script.specs.Options.{nothing_given, given_with_words}
use Rattle.py_script.proofs.options.parse_options.Given as goal

abbrev pub invariant-loop-word : goal.invariant-loop-word
invariant-loop-word l = given_with_words l.given (map string_bytes (drop l.word-index l.words)) ≡ given_with_words nothing_given (map string_bytes l.words)
