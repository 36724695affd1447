-- The calls of a script, one line at a time.
use Rattle.std.proofs.Common.{◌≡◌, ℕ, ◌+◌, ◌<◌, true, false, List, [], ◌∷◌, ◌++◌, Option, Some, None, map, length, get_or, drop, drop-cons, add-one, refl, Bor}
use Rattle.py_calls.specs.declared.call.Call.{Call}
use Rattle.py_script.specs.Script.{is_skipped, line_call, lines_calls}
use Rattle.py_script.proofs.Behind.{behind, behind_more}

-- the calls of the lines from one on
abbrev pub calls_from : List (Bor (List ℕ)) → ℕ → Option (List Call)
calls_from lines i = lines_calls (map (λ line. line.now) (drop i lines))

-- a line that is skipped
pub calls_from_skipped : (lines : List (Bor (List ℕ))) (i : ℕ) (default : Bor (List ℕ)) → i < length lines → is_skipped (get_or lines i default).now ≡ true → calls_from lines i ≡ calls_from lines (i + 1)
calls_from_skipped lines i default within skipped = rw (drop-cons lines i default, add-one) (rw skipped refl)

-- a line that makes a call
pub calls_from_more : (calls : List Call) (call : Call) (lines : List (Bor (List ℕ))) (i : ℕ) (default : Bor (List ℕ)) → i < length lines → is_skipped (get_or lines i default).now ≡ false → line_call (get_or lines i default).now ≡ Some call → behind calls (calls_from lines i) ≡ behind (calls ++ call ∷ []) (calls_from lines (i + 1))
calls_from_more calls call lines i default within stays makes =
    rw (drop-cons lines i default, add-one) (rw (stays, makes) (behind_more calls call _))

-- a malformed line
pub calls_from_none : (lines : List (Bor (List ℕ))) (i : ℕ) (default : Bor (List ℕ)) → i < length lines → is_skipped (get_or lines i default).now ≡ false → line_call (get_or lines i default).now ≡ None → calls_from lines i ≡ None
calls_from_none lines i default within stays makes = rw (drop-cons lines i default) (rw (stays, makes) refl)
