-- What the steps of a decoding append to a text, and what they answer.
use Rattle.std.specs.Prelude.{◌≡◌, ℕ, ◌⊎◌, List, ◌++◌, Option, Some, None, Result, Ok, Err}
use Rattle.py_flat.specs.declared.fault.IoFault.{IoFault}
use Rattle.py_flat.specs.declared.fault.IoFault.TheVariants as fault
use Rattle.py_plain.specs.Handlers.{Handled, Replaced, Refuses}
use Rattle.py_plain.specs.Items.{FirstItem, Given, RefusedRange, Unfinished}

-- what stands for a refused range was appended, and the bytes that it used are answered; or the range is refused and
-- nothing was, or out of memory
abbrev pub Replaces : Handled → (refusal : IoFault) → (before after : List ℕ) → Result ℕ IoFault → Type 0
Replaces handled refusal before after (Ok used) = (characters : List ℕ) × (handled ≡ Replaced characters used) × (after ≡ before ++ characters)
Replaces handled refusal before after (Err why) = (why ≡ fault.NoMemory) ⊎ ((handled ≡ Refuses) × (why ≡ refusal) × (after ≡ before))

-- what the first item of some bytes gives was appended, and the bytes that it used are answered, none where it is unfinished; or it
-- is refused, by `refusal` of the range's length, and nothing was appended, or memory ran out
abbrev pub Reads : FirstItem → (refusal : ℕ → IoFault) → (before after : List ℕ) → Result (Option ℕ) IoFault → Type 0
Reads first refusal before after (Ok (Some used)) = (characters : List ℕ) × (first ≡ Given characters used) × (after ≡ before ++ characters)
Reads first refusal before after (Ok None) = (first ≡ Unfinished) × (after ≡ before)
Reads first refusal before after (Err why) = (why ≡ fault.NoMemory) ⊎ ((size : ℕ) × (first ≡ RefusedRange size) × (why ≡ refusal size) × (after ≡ before))
