use Rattle.std.proofs.Common.{ℕ, List, chars, length}
use denote.Text.{Utf8}
use denote.Shadow.{shadow}
use Rattle.py_plain.specs.declared.handler.Handler.TheVariants.{Strict}
use Rattle.py_plain.specs.Encode.{encode_treatment}
use Rattle.py_codec.proofs.EncodedFrom.{Encodes}
use Rattle.py_codec.proofs.refusing.first_run_of_bytes.Given as goal

abbrev pub invariant-loop-character : goal.invariant-loop-character
invariant-loop-character l = record {
  is_text : shadow (Utf8 l.left);
  encodes : (out : List ℕ) × Encodes l.encoding (encode_treatment Strict l.encoding) (chars l.text) l.place out (chars l.left);
}

abbrev pub decreases-loop-character : goal.decreases-loop-character
decreases-loop-character l = length (chars l.left)
