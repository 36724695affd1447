use Rattle.std.proofs.Common.{◌≡◌, drop, map}
use Rattle.py_script.specs.Words.{words_bytes}
use Rattle.py_script.proofs.Behind.{behind}
use Rattle.py_script.proofs.hex_words.words_bytes.Given as goal

abbrev pub invariant-loop-word : goal.invariant-loop-word
invariant-loop-word l = behind l.lines (words_bytes (map (λ word. word.now) (drop l.word-index l.words))) ≡ words_bytes (map (λ word. word.now) l.words)
