-- How the front of a decoding is passed, some items at a time.
use Rattle.std.specs.Prelude.{◌≡◌, ℕ, ◌-◌, ◌≤◌, List, [], ◌++◌, length}
use Rattle.py_plain.specs.Items.{Item, Walk, characters_of}
use Rattle.py_plain.specs.Pieces.{items_before}
use Rattle.py_codec.specs.declared.front.FrontStop.{FrontStop}
use Rattle.py_codec.specs.declared.front.Passed.{Passed}
use Rattle.py_codec.specs.declared.front.Passed.TheVariants.{Items, Stopped}
use Rattle.py_codec.specs.Front.{items_for, bytes_in, front_stop}

-- some items were passed from one walk to another behind them, all of them needed for n characters, and their characters were
-- appended; `used`, `chars` and `count` are their bytes, their characters and their number
pub record Passes (walk behind : Walk) (want : ℕ) (before after : List ℕ) (used chars count : ℕ) : Type 0 where
  pub items : List Item
  pub front : items_for want walk.items ≡ items ++ items_for (want - chars) behind.items
  pub whole : walk ≡ items_before items behind
  pub appended : after ≡ before ++ characters_of items
  pub used_is : used ≡ bytes_in items
  pub chars_is : chars ≡ length (characters_of items)
  pub count_is : count ≡ length items

-- a walk has no items, and why a front that lacks characters has no more
abbrev pub Stops : Walk → FrontStop → Type 0
Stops walk stop = (walk.items ≡ []) × (stop ≡ front_stop 1 walk.ending)

-- some items were passed, in a step for each, which have some of the bytes that are left; or there are none, which took one step at
-- most; `ahead` is the walk after n bytes
abbrev pub PassOutcome : (want left : ℕ) → (walk : Walk) → (ahead : ℕ → Walk) → (before after : List ℕ) → (steps : ℕ) → Passed → Type 0
PassOutcome want left walk ahead before after steps (Items used chars) = Passes walk (ahead used) want before after used chars steps × (1 ≤ used) × (used ≤ left)
PassOutcome want left walk ahead before after steps (Stopped stop) = Stops walk stop × (after ≡ before) × (steps ≤ 1)
