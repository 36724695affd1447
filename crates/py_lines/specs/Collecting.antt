-- Collecting bytes until there are enough, whatever pieces they come in.
use Rattle.std.specs.Prelude.{◌≡◌, ◌≢◌, ℕ, zero, suc, ◌+◌, ◌-◌, ◌<◌, ◌≤◌, Bool, true, false, List, [], ◌∷◌, ◌++◌, length, take, Option, Some, None, Result, Ok, Err, Vec, vec_capacity}
use Rattle.std.specs.declared.alloc.Global.{Global}
use Rattle.std.specs.declared.alloc.AllocError.{AllocError}
use Rattle.py_flat.specs.Lines.{Lf, has_end_after, first_line, lines_within, lines_of, joined}
use Rattle.py_flat.specs.BinaryStep.{IsFrontOf}
use Rattle.py_lines.specs.declared.collector.Collected.{Collected}
use Rattle.py_lines.specs.declared.collector.Collected.TheVariants as collected

-- enough: the bytes used end what is wanted, whatever comes after
pub record HasEnough (wanted : List ℕ → List ℕ) (before bytes : List ℕ) (used : ℕ) (after : List ℕ) : Type 0 where
  pub fits : used ≤ length bytes
  pub takes : after ≡ before ++ take used bytes
  pub exact : (more : List ℕ) → wanted (before ++ (bytes ++ more)) ≡ after
  pub alone : wanted after ≡ after

-- all was used, and what is wanted goes on after it, by some of whatever comes there
pub record WantsMore (wanted : List ℕ → List ℕ) (before bytes after : List ℕ) : Type 0 where
  pub takes : after ≡ before ++ bytes
  pub goes_on : (more : List ℕ) → IsFrontOf after (wanted (after ++ more))
  pub asks : (more : List ℕ) → more ≢ [] → length after < length (wanted (after ++ more))
  pub alone : wanted after ≡ after

-- what a piece comes to: enough, not yet enough, or running out of memory
abbrev pub CollectOutcome : (List ℕ → List ℕ) → List ℕ → List ℕ → Result Collected AllocError → List ℕ → Type 0
CollectOutcome wanted before bytes (Ok (collected.Enough used)) after = HasEnough wanted before bytes used after
CollectOutcome wanted before bytes (Ok collected.All) after = WantsMore wanted before bytes after
CollectOutcome wanted before bytes (Err none) after = Unit {0}

-- One line.

-- the line so far, and the greatest length that it may have
pub record LineView : Type 0 where
  pub line : List ℕ
  pub limit : Option ℕ

abbrev pub line_wanted : LineView → List ℕ → List ℕ
line_wanted view rest = first_line Lf view.limit rest

-- how much the limit leaves
abbrev pub limit_left : Option ℕ → ℕ → Option ℕ
limit_left None taken = None
limit_left (Some limit) taken = Some (limit - taken)

-- the line isn't ended: its own end lies after it
abbrev pub LineIsOpen : LineView → Type 0
LineIsOpen view = (more : List ℕ) → first_line Lf view.limit (view.line ++ more) ≡ view.line ++ first_line Lf (limit_left view.limit (length view.line)) more

-- a line no longer than its limit
abbrev pub WithinLimit : Option ℕ → ℕ → Type 0
WithinLimit None taken = Unit {0}
WithinLimit (Some limit) taken = taken ≤ limit

-- n bytes more fit
abbrev pub FitsLimit : LineView → ℕ → Type 0
FitsLimit view more = WithinLimit view.limit (length view.line + more)

abbrev pub TakesBytes : LineView → List ℕ → Result (Unit {0}) AllocError → LineView → Type 0
TakesBytes old bytes (Ok done) new = new ≡ record old { line = old.line ++ bytes }
TakesBytes old bytes (Err none) new = new.limit ≡ old.limit

-- where a line ends in a piece: with the first n bytes of it, whatever comes after them; or it goes on after all of the piece
abbrev pub EndsIn : LineView → List ℕ → Option ℕ → Type 0
EndsIn view bytes (Some used) = HasEnough (line_wanted view) view.line bytes used (view.line ++ take used bytes) × FitsLimit view used
EndsIn view bytes None = WantsMore (line_wanted view) view.line bytes (view.line ++ bytes) × LineIsOpen (record view { line = view.line ++ bytes }) × FitsLimit view (length bytes)

-- Lines.

-- the lines that are ended; the bytes after the last end; the hint; and how many bytes it still allows, if it bounds them
pub record LinesView : Type 0 where
  pub lines : List (List ℕ)
  pub part : List ℕ
  pub hint : Option ℕ
  pub left : Option ℕ

-- lines, and bytes after them as a line of their own
abbrev pub lines_and_part : List (List ℕ) → List ℕ → List (List ℕ)
lines_and_part lines [] = lines
lines_and_part lines part = lines ++ (part ∷ [])

-- all bytes of the collected lines, and of the part after them
abbrev pub lines_collected : LinesView → List ℕ
lines_collected view = joined view.lines ++ view.part

abbrev pub lines_wanted : LinesView → List ℕ → List ℕ
lines_wanted view rest = joined (lines_within view.hint rest)

-- all lines, of which the last may lack its end
abbrev pub all_lines : LinesView → List (List ℕ)
all_lines view = lines_and_part view.lines view.part

-- one line with its end: what comes after it begins another
abbrev pub IsOneLine : List ℕ → Type 0
IsOneLine line = (more : List ℕ) → lines_of (line ++ more) ≡ line ∷ lines_of more

-- each line is ended, and no line ends in the part after them
pub record AreCut (lines : List (List ℕ)) (part : List ℕ) : Type 0 where
  pub ended : (more : List ℕ) → lines_of (joined lines ++ more) ≡ lines ++ lines_of more
  pub unended : has_end_after Lf false part ≡ false

-- there is room for one line more, where bytes stand after the last end
abbrev pub HasRoomForPart : Vec (List ℕ) Global → List ℕ → Type 0
HasRoomForPart lines part = part ≢ [] → length lines.items < vec_capacity lines

abbrev pub IsNewLines : Option ℕ → LinesView → Type 0
IsNewLines hint view = (view.lines ≡ []) × (view.part ≡ []) × (view.hint ≡ hint)

-- what a hint leaves after lines of `total` bytes, which aren't above it; no hint, or one of 0, limits nothing
abbrev pub HintLeaves : Option ℕ → ℕ → Option ℕ → Type 0
HintLeaves None total left = left ≡ None
HintLeaves (Some zero) total left = left ≡ None
HintLeaves (Some (suc hint)) total left = (total ≤ suc hint) × (left ≡ Some (suc hint - total))

-- the hint allows more lines
abbrev pub LinesAreOpen : LinesView → Type 0
LinesAreOpen view = HintLeaves view.hint (length (joined view.lines)) view.left

-- the hint allows no more: these lines are wanted, whatever comes after
abbrev pub AreEnough : LinesView → Type 0
AreEnough view = (more : List ℕ) → lines_within view.hint (joined view.lines ++ more) ≡ view.lines

abbrev pub AreEnoughIf : Bool → LinesView → Type 0
AreEnoughIf true view = AreEnough view
AreEnoughIf false view = LinesAreOpen view

-- the part was taken as a line, with the bytes up to its end
abbrev pub TakesLine : LinesView → List ℕ → Result (Vec ℕ Global) AllocError → LinesView → Type 0
TakesLine old rest (Ok line) new = (line.items ≡ old.part ++ rest) × IsOneLine line.items × (new ≡ record old { part = [] })
TakesLine old rest (Err none) new = new ≡ old

-- a line was ended
pub record EndsLine (old : LinesView) (rest : List ℕ) (enough : Bool) (new : LinesView) : Type 0 where
  pub lines : new.lines ≡ old.lines ++ ((old.part ++ rest) ∷ [])
  pub part : new.part ≡ []
  pub hint : new.hint ≡ old.hint
  pub enough_is : AreEnoughIf enough new

-- when out of memory the part may be lost
abbrev pub EndLineOutcome : LinesView → List ℕ → Result Bool AllocError → LinesView → Type 0
EndLineOutcome old rest (Ok enough) new = EndsLine old rest enough new
EndLineOutcome old rest (Err none) new = new.hint ≡ old.hint

-- bytes were put after the part
abbrev pub KeepOutcome : LinesView → List ℕ → Result (Unit {0}) AllocError → LinesView → Type 0
KeepOutcome old bytes (Ok done) new = (new ≡ record old { part = old.part ++ bytes }) × AreCut new.lines new.part
KeepOutcome old bytes (Err none) new = new ≡ old

-- whether a collector is open after a piece
abbrev pub StaysOpenAt : Type 0 → Result Collected AllocError → Type 0
StaysOpenAt Open (Ok collected.All) = Open
StaysOpenAt Open other = Unit {0}
