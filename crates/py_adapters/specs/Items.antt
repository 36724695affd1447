-- The lines of a source, one after the other, with their ends or without.
use Rattle.std.specs.Prelude.{◌≡◌, ℕ, ◌<◌, ◌-◌, List, [], ◌∷◌, Option, Some, None, Result, Ok, Err}
use Rattle.py_flat.specs.declared.fault.IoFault.{IoFault}
use Rattle.py_flat.specs.Lines.{LineEnd}
use Rattle.py_flat.specs.Calls.{FileReply}
use Rattle.py_plain.specs.NewlineRule.{line_end}
use Rattle.py_plain.specs.declared.newlines.Newlines.{Newlines}
use Rattle.py_adapters.specs.declared.line_value.LineValue.{LineValue}
use Rattle.py_adapters.specs.Lines.{units_of, line_reply, chopped}
use Rattle.py_adapters.specs.declared.source_lines.LineEnds.{LineEnds}
use Rattle.py_adapters.specs.declared.source_lines.LineEnds.TheVariants as ends

-- a line with its end, or without the one that it ends with
abbrev pub in_ends : LineEnds → LineEnd → LineValue → LineValue
in_ends ends.Kept end line = line
in_ends ends.Dropped end line = chopped end line

-- a line is an item; one that has nothing is the end
abbrev pub end_if_empty : List ℕ → LineValue → Option (Result (Option LineValue) IoFault)
end_if_empty [] line = None
end_if_empty (c ∷ cs) line = Some (Ok (Some line))

-- the item that an answer of `readline` makes, which has its end or not
abbrev pub item_of : LineEnds → LineEnd → Result (Option LineValue) IoFault → Option (Result (Option LineValue) IoFault)
item_of ends end (Ok (Some line)) = end_if_empty (units_of line) (in_ends ends end line)
item_of ends end (Ok None) = Some (Ok None)
item_of ends end (Err why) = Some (Err why)

-- how many items may come after this one: one fewer after a line and a wait, and none after a refusal and the end
abbrev pub left_after : ℕ → Option (Result (Option LineValue) IoFault) → ℕ
left_after left (Some (Ok answer)) = left - 1
left_after left item = 0

-- one `readline` was made, and the item is what is made of its answer by the rule of the source's line ends
pub record MakesItem {Source : Type 0} (answers : Source → Option ℕ → FileReply → Source → Type 0) (rule : Source → Newlines) (how : LineEnds) (before : Source) (item : Option (Result (Option LineValue) IoFault)) (after : Source) : Type 0 where
  pub came : Result (Option LineValue) IoFault
  pub answered : answers before None (line_reply came) after
  pub says : item ≡ item_of how (line_end (rule before)) came

-- The next item of n that may still come. Where none may come any more, the source isn't called
pub record GivesItem {Source : Type 0} (answers : Source → Option ℕ → FileReply → Source → Type 0) (rule : Source → Newlines) (how : LineEnds) (before : Source) (left : ℕ) (item : Option (Result (Option LineValue) IoFault)) (after : Source) (more : ℕ) : Type 0 where
  pub ended : left ≡ 0 → (item ≡ None) × (after ≡ before)
  pub makes : 0 < left → MakesItem answers rule how before item after
  pub rest : more ≡ left_after left item
