-- What an answer of a user's own handler stands for whose restart lies in its bounds.
use Rattle.std.proofs.Common.{◌≡◌, ℕ, ◌-◌, ◌<◌, ◌≤◌, true, nat_lt, nat_le, List, ap, ◌∙◌}
use Rattle.std.proofs.lemmas.Bool.{and_from, cond-true, lt-ltb, le-leb}
use Rattle.py_plain.specs.Handlers.{Replaced, Refuses}
use Rattle.py_codec.specs.ErrorHandler.{DecodeAnswer, ReplacedBy}
use Rattle.py_codec.specs.Treating.{is_restart, handled_by}

-- a restart past the start of a range, and not past its end, passes the test of the bounds
pub is_restart-in : (start end restart : ℕ) → start < restart → restart ≤ end → is_restart start end restart ≡ true
is_restart-in start end restart past inside = and_from (nat_lt start restart) (nat_le restart end) (lt-ltb start restart past) (le-leb restart end inside)

-- an answer whose restart lies in the bounds stands for its text, in place of the bytes up to the restart
pub handled_by-in : (start end restart : ℕ) (characters : List ℕ) (answer : DecodeAnswer) → start < restart → restart ≤ end → answer ≡ ReplacedBy characters restart → handled_by start end answer ≡ Replaced characters (restart - start)
handled_by-in start end restart characters answer past inside is =
    ap (λ a. handled_by start end a) is ∙ cond-true (is_restart start end restart) (Replaced characters (restart - start)) Refuses (is_restart-in start end restart past inside)
