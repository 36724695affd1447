use Rattle.std.proofs.Common.{refl}
use Rattle.std.specs.Fmt.{digits}
use Rattle.py_plain.specs.Utf8.{is_within}
use Rattle.py_plain.specs.Utf16.{is_high, is_low}
use Rattle.py_plain.specs.OneByte.{is_ascii}
use Rattle.py_plain_text.proofs.examples.a_range_is_refused_from_its_first_ascii_byte.Goals as goal

-- src/examples.rt:47:1
pub returns : goal.returns
unfolding digits is_within is_high is_low is_ascii
returns c = record { escaped = refl }
