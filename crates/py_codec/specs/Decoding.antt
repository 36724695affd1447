-- What a decoding answers: the characters of the items of the whole list and the bytes used, or the refusal that ends them.
use Rattle.std.specs.Prelude.{ℕ, Bool, List, length, drop, Ok, Err}
use Rattle.py_flat.specs.declared.fault.IoFault.{IoFault}
use Rattle.py_plain.specs.declared.encoding.Encoding.{Encoding}
use Rattle.py_plain.specs.Units.{Order, Unknown}
use Rattle.py_plain.specs.Handlers.{Treatment}
use Rattle.py_plain.specs.Items.{Ending, AtEnd, AtRange, AtCut, Walk, walk_from, characters_of}
use Rattle.py_codec.specs.declared.handler_ref.HandlerRef.{HandlerRef}
use Rattle.py_codec.specs.ErrorHandler.{DecodeMeaning}
use Rattle.py_codec.specs.Treating.{treatment_by, decode_fault}
use Rattle.py_codec.specs.Answers.{Expected}

-- a walk that wasn't refused used all bytes, or those before a suffix that may still become a character
abbrev pub ended : List ℕ → (total : ℕ) → (refusal : (start end : ℕ) → IoFault) → Ending → Expected
ended characters total refusal AtEnd = Ok (characters, total)
ended characters total refusal (AtCut start) = Ok (characters, start)
ended characters total refusal (AtRange start end) = Err (refusal start end)

-- the answer of a walk over n bytes
abbrev pub decoding_of : Walk → (total : ℕ) → (refusal : (start end : ℕ) → IoFault) → Expected
decoding_of walk total refusal = ended (characters_of walk.items) total refusal walk.ending

-- the walk over some bytes by a handler; `last` says that no bytes follow
abbrev pub walk_by : {H : Type 0} → (H → DecodeMeaning) → HandlerRef H → Encoding → (last : Bool) → List ℕ → Walk
walk_by meaning errors encoding last bytes = walk_from encoding (treatment_by meaning errors encoding bytes) last Unknown 0 0 bytes

-- the walk over some bytes from a place on, in an order
abbrev pub walk_past : Encoding → Treatment → (last : Bool) → List ℕ → Order → (place : ℕ) → Walk
walk_past encoding treat last bytes order place = walk_from encoding treat last order place 0 (drop place bytes)

-- that walk where no order is known
abbrev pub walk_here : Encoding → Treatment → (last : Bool) → List ℕ → (place : ℕ) → Walk
walk_here encoding treat last bytes place = walk_past encoding treat last bytes Unknown place

-- what a call that decodes some bytes by a handler answers, or out of memory
abbrev pub decoding_by : {H : Type 0} → (H → DecodeMeaning) → HandlerRef H → Encoding → (last : Bool) → List ℕ → Expected
decoding_by meaning errors encoding last bytes = decoding_of (walk_by meaning errors encoding last bytes) (length bytes) (decode_fault meaning errors encoding bytes)
