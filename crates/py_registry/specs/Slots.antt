-- What a user's own codec answers.
use Rattle.std.specs.Prelude.{ℕ, List, Result}
use Rattle.py_codec.specs.declared.handler_ref.HandlerRef.{HandlerRef}
use Rattle.py_codec.specs.declared.handler_ref.HandlerRef.TheVariants.{Builtin, Custom}
use Rattle.py_codec.specs.ErrorHandler.{DecodeMeaning, EncodeMeaning}

-- what a handler of a user's own answers, to ranges and to runs
pub record HandlerMeaning : Type 0 where
  pub decodes : DecodeMeaning
  pub encodes : EncodeMeaning

-- a handler by what it answers
abbrev pub meaning_of : {H : Type 0} → (H → DecodeMeaning) → (H → EncodeMeaning) → HandlerRef H → HandlerRef HandlerMeaning
meaning_of decodes encodes (Builtin handler) = Builtin handler
meaning_of decodes encodes (Custom handler) = Custom (record { decodes = decodes handler; encodes = encodes handler })

-- what the slot of a number answers to a text or to bytes by a handler: a list, or the range that is refused
abbrev pub SlotMeaning : Type 0
SlotMeaning = (slot : ℕ) → List ℕ → HandlerRef HandlerMeaning → Result (List ℕ) (ℕ × ℕ)
