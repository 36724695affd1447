-- The pieces that a decoder was given, one after another, and what it answered.
use Rattle.std.specs.Prelude.{◌≡◌, ℕ, ◌-◌, false, List, [], ◌∷◌, ◌++◌, length, Ok}
use Rattle.py_incremental.specs.Incremental.{DecoderView, decoding_with, holding}

-- a piece that a decoder was given while more might come, and the text that it answered
pub record Fed : Type 0 where
  pub piece : List ℕ
  pub text : List ℕ

-- the pieces of a run, joined
abbrev pub pieces_of : List Fed → List ℕ
pieces_of [] = []
pieces_of (fed ∷ run) = fed.piece ++ pieces_of run

-- the texts of a run, joined
abbrev pub texts_of : List Fed → List ℕ
texts_of [] = []
texts_of (fed ∷ run) = fed.text ++ texts_of run

-- a decoder answers each piece of a run with its text, and what that left unused is held for the next
abbrev pub FedRun : (before : DecoderView) → List Fed → (after : DecoderView) → Type 0
FedRun before [] after = after ≡ before
FedRun before (fed ∷ run) after = (used : ℕ) × (decoding_with before false fed.piece ≡ Ok (fed.text, used)) × FedRun (holding before false fed.piece used) run after

-- the bytes that a decoder has had after a run: those that it held, and the pieces
abbrev pub bytes_behind : DecoderView → List Fed → List ℕ
bytes_behind before run = before.held ++ pieces_of run

-- how many of the bytes that it has had a decoder used up after a run: all but those that it holds
abbrev pub used_up : (before : DecoderView) → List Fed → (after : DecoderView) → ℕ
used_up before run after = length (bytes_behind before run) - length after.held
