-- How readings begin that go on until they have all that is wanted, and what those of lines ask for.
use Rattle.std.proofs.Common.{◌≡◌, ◌≢◌, ℕ, zero, suc, ◌-◌, Bool, true, false, List, [], length, Option, None, Some, Ok, refl, ap, ◌∙◌, arith}
use Rattle.std.specs.Bool.{◌==◌}
use Rattle.std.specs.Option.{option_eq}
use Rattle.py_flat.specs.Lines.{lines_within, joined}
use Rattle.py_flat.specs.Calls.{Read}
use Rattle.py_lines.specs.Collecting.{LinesView, LinesAreOpen}
use Rattle.py_lines.proofs.Asking.{lines_ask}
use Rattle.py_stream.specs.Stream.{Stream}
use Rattle.py_stream.specs.Kinds.{by_several}
use Rattle.py_stream.specs.ReadingOn.{BeginsReading}
use Rattle.py_stream.proofs.ReadingAnswers.{ReadingBegins}

-- what is known of a stream with which a reading begins
pub begun : (first before : Stream) → BeginsReading first (Ok tt) before → ReadingBegins first before
begun first before began = grind arith

-- a reading of all that is left makes as many transfers as it takes, with a buffer or without one
pub all_by_several : (buffer : Option ℕ) → by_several buffer (Read None) ≡ true
all_by_several buffer = grind arith

-- how much a hint leaves before the first line
abbrev left_of : Option ℕ → Option ℕ
left_of None = None
left_of (Some zero) = None
left_of (Some (suc hint)) = Some (suc hint - 0)

-- what lines are gathered by at first
abbrev no_lines : Option ℕ → LinesView
no_lines hint = record { lines = []; part = []; hint = hint; left = left_of hint }

-- a hint allows some lines at first
no_lines_open : (hint : Option ℕ) → LinesAreOpen (no_lines hint)
no_lines_open hint = grind arith

-- some line is wanted of whatever comes
pub lines_hold_some : (hint : Option ℕ) (more : List ℕ) → more ≢ [] → joined (lines_within hint more) ≢ []
lines_hold_some hint more some none = absurd (omega (arith, lines_ask (no_lines hint) more (record { ended = λ behind. refl; unended = refl }) (no_lines_open hint) some, ap length none))

-- a limit that was tested for leaving nothing
pub not_nothing : (limit : Option ℕ) (test : Bool) → test ≡ option_eq (λ (n m : ℕ). n == m) limit (Some 0) → test ≡ false → limit ≢ Some 0
not_nothing limit test is none same = absurd (let tested : test ≡ true = is ∙ ap (λ (some : Option ℕ). option_eq (λ (n m : ℕ). n == m) some (Some 0)) same in cc)
