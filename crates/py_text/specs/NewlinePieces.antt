-- The newline rule over a text that comes in pieces.
use Rattle.std.specs.Prelude.{◌≡◌, ℕ, ◌-◌, ◌≤◌, Bool, false, not, ◌&&◌, List, [], ◌∷◌, ◌++◌, length, Result, Ok, Err, String}
use Rattle.std.specs.declared.alloc.Global.{Global}
use Rattle.py_flat.specs.declared.fault.IoFault.{IoFault}
use Rattle.py_flat.specs.declared.fault.IoFault.TheVariants.{NoMemory}
use Rattle.py_plain.specs.declared.newlines.Newlines.{Newlines}
use Rattle.py_plain.specs.NewlineRule.{read_so_far, holds_after, released, universal, ends_held}
use Rattle.py_codec.specs.Answers.{text_of}

-- a rule, and whether a CR is held
pub record NewlineView : Type 0 where
  pub newline : Newlines
  pub held : Bool

-- a rule that has read nothing
abbrev pub fresh : Newlines → NewlineView
fresh newline = record { newline = newline; held = false }

-- a CR is held after a piece: where the rule holds one, and more may come
abbrev pub holds_behind : NewlineView → (last : Bool) → List ℕ → Bool
holds_behind view last piece = not last && holds_after view.newline view.held piece

-- the text of a piece: what the rule gives of it, and of the last one also an LF for a CR that it holds
abbrev pub text_with : NewlineView → (last : Bool) → List ℕ → List ℕ
text_with view last piece = read_so_far view.newline view.held piece ++ released (last && holds_after view.newline view.held piece)

-- what stands after a piece
abbrev pub after_piece : NewlineView → (last : Bool) → List ℕ → NewlineView
after_piece view last piece = record view { held = holds_behind view last piece }

-- an answer is the text of a piece; running out of memory leaves all as it was
abbrev pub NewlineStep : NewlineView → (last : Bool) → List ℕ → Result (String Global) IoFault → NewlineView → Type 0
NewlineStep before last piece (Ok text) after = (text_of text ≡ text_with before last piece) × (after ≡ after_piece before last piece)
NewlineStep before last piece (Err why) after = (why ≡ NoMemory) × (after ≡ before)

-- what stands after some pieces, none of them the last
abbrev pub after_pieces : NewlineView → List (List ℕ) → NewlineView
after_pieces view [] = view
after_pieces view (piece ∷ pieces) = after_pieces (after_piece view false piece) pieces

-- the texts of some pieces, none of them the last, joined
abbrev pub texts_of : NewlineView → List (List ℕ) → List ℕ
texts_of view [] = []
texts_of view (piece ∷ pieces) = text_with view false piece ++ texts_of (after_piece view false piece) pieces

-- a run of a text is copied, and what is left goes on after it, with a CR held or none: the universal rule gives the run, and
-- then what it gives of what is left
pub record IsCopied (text run : List ℕ) (held : Bool) (left : List ℕ) : Type 0 where
  pub gives : universal false text ≡ run ++ universal held left
  pub holds : ends_held false text ≡ ends_held held left

-- less is left than there was, or nothing of nothing
abbrev pub IsLess : (before left : List ℕ) → Type 0
IsLess before left = length left ≤ length before - 1
