-- Lines of bytes and of texts, and what is read as a line of a file.
use Rattle.std.specs.Prelude.{◌≡◌, ℕ, Bool, false, ◌&&◌, ◌||◌, nat_eq, List, [], ◌∷◌, Option, Some, None, Result, Ok, Err, if◌then◌else◌}
use Rattle.py_flat.specs.declared.fault.IoFault.{IoFault}
use Rattle.py_flat.specs.declared.fault.IoFault.TheVariants as fault
use Rattle.py_flat.specs.Lines.{LineEnd, Lf, Cr, CrLf, AnyEnd, lf, cr}
use Rattle.py_flat.specs.Calls as say
use Rattle.py_flat.specs.Calls.{FileReply}
use Rattle.py_adapters.specs.declared.line_value.LineValue.{LineValue}
use Rattle.py_adapters.specs.declared.line_value.LineValue.TheVariants.{Bytes, Text}

-- the bytes or characters of a line
abbrev pub units_of : LineValue → List ℕ
units_of (Bytes units) = units
units_of (Text units) = units

-- what a `readline` says by its answer
abbrev pub line_reply : Result (Option LineValue) IoFault → FileReply
line_reply (Ok (Some (Bytes line))) = say.Bytes line
line_reply (Ok (Some (Text line))) = say.Text line
line_reply (Ok None) = say.NotReady
line_reply (Err why) = say.Refused why

-- whether some units are a whole line end: LF; CR; CR LF; any of these
abbrev pub is_end : LineEnd → List ℕ → Bool
is_end Lf (c ∷ []) = nat_eq c lf
is_end Cr (c ∷ []) = nat_eq c cr
is_end CrLf (c ∷ d ∷ []) = nat_eq c cr && nat_eq d lf
is_end AnyEnd (c ∷ []) = nat_eq c lf || nat_eq c cr
is_end AnyEnd (c ∷ d ∷ []) = nat_eq c cr && nat_eq d lf
is_end end cs = false

-- a list without the longest line end that it ends with; one that ends with none is as it was
abbrev pub without_end : LineEnd → List ℕ → List ℕ
without_end end [] = []
without_end end (c ∷ cs) = if is_end end (c ∷ cs) then [] else c ∷ without_end end cs

-- a line without the end that it ends with
abbrev pub chopped : LineEnd → LineValue → LineValue
chopped end (Bytes line) = Bytes (without_end end line)
chopped end (Text line) = Text (without_end end line)

-- a line that has nothing is the end of the file; another is given without its one LF, whatever the source's lines end with
abbrev pub unless_empty : List ℕ → LineValue → Result (Option LineValue) IoFault
unless_empty [] line = Err fault.EndOfFile
unless_empty (c ∷ cs) line = Ok (Some (chopped Lf line))

-- what is made of the answer of a `readline`
abbrev pub line_of_file : Result (Option LineValue) IoFault → Result (Option LineValue) IoFault
line_of_file (Ok (Some line)) = unless_empty (units_of line) line
line_of_file answer = answer

-- one `readline` was made, and the answer is what is made of its own
pub record ReadsLine {Source : Type 0} (answers : Source → Option ℕ → FileReply → Source → Type 0) (before : Source) (limit : Option ℕ) (result : Result (Option LineValue) IoFault) (after : Source) : Type 0 where
  pub came : Result (Option LineValue) IoFault
  pub answered : answers before limit (line_reply came) after
  pub says : result ≡ line_of_file came
