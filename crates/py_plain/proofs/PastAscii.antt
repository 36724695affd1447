-- The bytes before the first ASCII one.
use Rattle.std.proofs.Common.{◌≡◌, ℕ, ◌+◌, ◌<◌, ◌≤◌, List, [], ◌∷◌, ◌++◌, length, take, drop, get_or, sym, ap, ◌∙◌, true, false}
use Rattle.std.proofs.lemmas.Bool.{lt-ltb, le-ltb, cond-true, cond-false}
use Rattle.std.proofs.lemmas.List.{append_assoc, take_more, drop_more}
use Rattle.py_plain.specs.OneByte.{is_ascii}
use Rattle.py_plain.specs.Handlers.{front_past_ascii}

pub is_ascii-below : (byte : ℕ) → byte < 0x80 → is_ascii byte ≡ true
unfolding is_ascii
is_ascii-below byte below = lt-ltb byte 0x80 below

pub is_ascii-above : (byte : ℕ) → 0x80 ≤ byte → is_ascii byte ≡ false
unfolding is_ascii
is_ascii-above byte above = le-ltb byte 0x80 above

-- the front ends at an ASCII byte
pub front-ends : (bytes : List ℕ) (at : ℕ) → at < length bytes → get_or bytes at 0 < 0x80 → front_past_ascii (drop at bytes) ≡ []
front-ends bytes at inside below =
    ap front_past_ascii (drop_more bytes at 0 inside) ∙ cond-true _ _ _ (is_ascii-below (get_or bytes at 0) below)

-- the front goes on past a byte that isn't ASCII
pub front-goes_on : (bytes : List ℕ) (at : ℕ) → at < length bytes → 0x80 ≤ get_or bytes at 0 → take at bytes ++ front_past_ascii (drop at bytes) ≡ take (at + 1) bytes ++ front_past_ascii (drop (at + 1) bytes)
front-goes_on bytes at inside above =
    ap (λ more. take at bytes ++ more) (ap front_past_ascii (drop_more bytes at 0 inside) ∙ cond-false _ _ _ (is_ascii-above (get_or bytes at 0) above))
    ∙ sym (append_assoc (take at bytes) (get_or bytes at 0 ∷ []) (front_past_ascii (drop (at + 1) bytes)))
    ∙ ap (λ front. front ++ front_past_ascii (drop (at + 1) bytes)) (sym (take_more bytes at 0 inside))
