-- What a transfer brings into the front of a buffer, as far as it may be filled.
use Rattle.std.proofs.Common.{◌≡◌, ◌≢◌, ℕ, zero, suc, ◌+◌, ◌<◌, ◌≤◌, IsTrue, List, [], ◌∷◌, ◌++◌, length, take, drop, Option, Some, None, Ok, refl, arith}
use Rattle.std.proofs.lemmas.List.{length-append, length-take-le, take-append-le}
use Rattle.py_flat.specs.Limits.{greatest_place}
use Rattle.py_raw.specs.RawStream.{Raw, WhereTold, ReadBytes, ReadOutcome}
use Rattle.py_raw.proofs.Telling.{tells_its_bytes}
use Rattle.py_stream.specs.LiveRaw.{TransferOutcome}

-- where none came into a buffer that isn't empty, the end is reached, or the greatest place
none_comes : (old new : Raw) (place room : ℕ) (before part : List ℕ) (count : ℕ) → (IsTrue old.tells_bytes → length old.bytes ≤ greatest_place) → room ≤ length before → (room < length before → place + room ≡ greatest_place) → ReadBytes old (take room before) count part new → count ≡ 0 → before ≢ [] → WhereTold old (old.place ≡ place → length old.bytes ≤ place)
none_comes old new place room [] part count bounded fits full is none some tells at = absurd (some refl)
none_comes old new place zero (byte ∷ more) part count bounded fits full is none some tells at = omega (arith, bounded (tells_its_bytes old tells), full (omega arith))
none_comes old new place (suc room) (byte ∷ more) part count bounded fits full is none some tells at = omega (arith, (is.told tells).end none (λ (empty : byte ∷ take room more ≡ []). cc), at)

-- one transfer into as much of a buffer as may be filled
pub comes_at : (old new : Raw) (place room : ℕ) (before part : List ℕ) (count : Option ℕ) → (IsTrue old.tells_bytes → length old.bytes ≤ greatest_place) → place + room ≤ greatest_place → room ≤ length before → (room < length before → place + room ≡ greatest_place) → length part ≡ length (take room before) → ReadOutcome old (take room before) (Ok count) part new → TransferOutcome old place before (part ++ drop room before) (Ok count) new
comes_at old new place room before part None bounded within fits full long is = is
comes_at old new place room before part (Some count) bounded within fits full long is = grind (arith, length-append, length-take-le, take-append-le, none_comes)
