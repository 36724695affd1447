use Rattle.std.proofs.Common.{chars, length}
use denote.Text.{Utf8}
use denote.Shadow.{shadow}
use Rattle.py_codec.specs.Treating.{encode_treatment_by}
use Rattle.py_codec.proofs.EncodedFrom.{Encodes}
use Rattle.py_codec.proofs.encoding.encode_each.Given as goal

abbrev pub invariant-loop-count : goal.invariant-loop-count
invariant-loop-count g l = record {
  is_text : shadow (Utf8 l.left);
  encodes : Encodes l.encoding (encode_treatment_by g.H.ErrorHandler.encodes l.errors l.encoding (chars l.text)) (chars l.text) l.place l.bytes.items (chars l.left);
}

abbrev pub decreases-loop-count : goal.decreases-loop-count
decreases-loop-count g l = length (chars l.left)
