-- What a call that decodes or encodes answers.
use Rattle.std.specs.Prelude.{◌≡◌, ℕ, ◌⊎◌, List, Result, Ok, Err, Vec}
use Rattle.std.specs.declared.alloc.Global.{Global}
use Rattle.py_flat.specs.declared.fault.IoFault.{IoFault}
use Rattle.py_flat.specs.declared.fault.IoFault.TheVariants as fault
pub use Rattle.py_blocks.specs.Texts.{text_of}

-- the characters of a text, and how much of the argument was used; or a refusal
abbrev pub Expected : Type 0
Expected = Result (List ℕ × ℕ) IoFault

-- the bytes of a vector
abbrev pub bytes_of : Vec ℕ Global → List ℕ
bytes_of bytes = bytes.items

-- an answer is what was expected, or out of memory; `shown` reads a list off the value
abbrev pub IsAnswer : {T : Type 0} → (shown : T → List ℕ) → Result (T × ℕ) IoFault → Expected → Type 0
IsAnswer shown (Ok answer) expected = expected ≡ Ok (shown answer.0, answer.1)
IsAnswer shown (Err why) expected = (why ≡ fault.NoMemory) ⊎ (expected ≡ Err why)
