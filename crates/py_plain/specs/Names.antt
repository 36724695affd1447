-- The names of encodings and handlers (Python's documentation of `codecs`).
use Rattle.std.specs.Prelude.{ℕ, List, codes}
use Rattle.py_plain.specs.declared.encoding.Encoding.{Encoding}
use Rattle.py_plain.specs.declared.encoding.Encoding.TheVariants.{Utf8, Latin1, Ascii, Utf16Le, Utf16Be}
use Rattle.py_plain.specs.declared.handler.Handler.{Handler}
use Rattle.py_plain.specs.declared.handler.Handler.TheVariants.{Strict, Ignore, Replace, XmlCharRefReplace, BackslashReplace, SurrogatePass, SurrogateEscape}

abbrev pub encoding_name : Encoding → List ℕ
encoding_name Utf8 = codes "utf-8"
encoding_name Latin1 = codes "latin-1"
encoding_name Ascii = codes "ascii"
encoding_name Utf16Le = codes "utf-16-le"
encoding_name Utf16Be = codes "utf-16-be"

abbrev pub handler_name : Handler → List ℕ
handler_name Strict = codes "strict"
handler_name Ignore = codes "ignore"
handler_name Replace = codes "replace"
handler_name XmlCharRefReplace = codes "xmlcharrefreplace"
handler_name BackslashReplace = codes "backslashreplace"
handler_name SurrogatePass = codes "surrogatepass"
handler_name SurrogateEscape = codes "surrogateescape"
