-- The first unit of some bytes in any encoding.
use Rattle.std.specs.Prelude.{ℕ, Bool, true, false, List, Option}
use Rattle.py_plain.specs.declared.encoding.Encoding.{Encoding}
use Rattle.py_plain.specs.declared.encoding.Encoding.TheVariants.{Utf8, Latin1, Ascii, Utf16Le, Utf16Be}
use Rattle.py_plain.specs.declared.unit.Unit.{Unit}
use Rattle.py_plain.specs.Utf8.{utf8_unit}
use Rattle.py_plain.specs.Utf16.{utf16_unit}
use Rattle.py_plain.specs.OneByte.{latin1_unit, ascii_unit}

-- the order of the bytes of a unit, as a mark at the start of a stream says it: none has been read, or little or big end first
pub data Order : Type 0 where
  Unknown : Order
  Little : Order
  Big : Order

-- what some bytes begin with, read in an order; `at_start` says that they stand at byte place 0. None of these encodings has a
-- mark, and each has its own order. One that has one reads FF FE or FE FF as a mark where the order is unknown at the start, and a
-- first byte of it alone as cut
abbrev pub first_unit : Encoding → Order → Bool → List ℕ → Option Unit
first_unit Utf8 order at_start bytes = utf8_unit bytes
first_unit Latin1 order at_start bytes = latin1_unit bytes
first_unit Ascii order at_start bytes = ascii_unit bytes
first_unit Utf16Le order at_start bytes = utf16_unit false bytes
first_unit Utf16Be order at_start bytes = utf16_unit true bytes

-- the order that holds after a unit: after a mark, the one that it says. So FE FF and then 00 61 are a mark and `a`, cut anywhere:
-- after the piece FE FF the order is big end first, and the piece FE alone leaves its byte unused, in the order as before
abbrev pub order_after : Encoding → Order → Option Unit → Order
order_after encoding order unit = order
