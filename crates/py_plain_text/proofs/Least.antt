-- The boundary that is told is the least that gives what is left.
use Rattle.std.proofs.Common.{◌≡◌, ◌⊎◌, inl, inr, ℕ, zero, suc, ◌+◌, ◌<◌, ◌≤◌, length as len, slice_index_or, Bool, true, false, List, [], ◌∷◌, map, find, Option, Some, refl, sym, ap, subst, ◌∙◌, arith}
use Rattle.std.specs.Bool.{⊤}
use Rattle.std.specs.List.{Contains}
use Rattle.std.proofs.lemmas.Bool.{cond-true, cond-false, false≢true}
use Rattle.py_plain.specs.Handlers.{reads_texts}
use Rattle.py_plain.specs.Items.{Item, Ending}
use Rattle.py_plain_text.specs.TextFile.{TextFile}
use Rattle.py_plain_text.specs.Rest.{decoded}
use Rattle.py_plain_text.specs.Landing.{start_of, skips}
use Rattle.py_plain_text.specs.Telling.{gives_rest, end_of_item, boundaries, told_at, told}
use Rattle.py_plain_text.specs.CookieLaws.{StandsInText}
use Rattle.py_plain_text.proofs.Inside.{Walks, Begins, begins}

-- a number is among some
abbrev IsAmong : ℕ → List ℕ → Type 0
IsAmong n [] = ⊥
IsAmong n (x ∷ xs) = (n ≡ x) ⊎ IsAmong n xs

among_at : (n : ℕ) (xs : List ℕ) (k : ℕ) → k < len xs → slice_index_or xs k n ≡ n → IsAmong n xs
among_at n [] k less is = absurd (omega (arith, less))
among_at n (x ∷ xs) zero less is = inl (sym is)
among_at n (x ∷ xs) (suc k) less is = inr (among_at n xs k (omega (arith, less)) is)

-- numbers that rise from one on
abbrev Rises : ℕ → List ℕ → Type 0
Rises low [] = ⊤
Rises low (x ∷ xs) = (low ≤ x) × Rises x xs

rises_above : (low n : ℕ) (xs : List ℕ) → Rises low xs → IsAmong n xs → low ≤ n
rises_above low n [] rises among = absurd among
rises_above low n (x ∷ xs) rises (inl here) = omega (arith, rises.0, here)
rises_above low n (x ∷ xs) rises (inr behind) = omega (arith, rises.0, rises_above x n xs rises.1 behind)

-- the first that passes a test is no greater than any that does
record IsFirst (test : ℕ → Bool) (xs : List ℕ) (n : ℕ) : Type 0 where
  first : ℕ
  found : find test xs ≡ Some first
  least : first ≤ n

first_by : (test : ℕ → Bool) (low n x : ℕ) (xs : List ℕ) → Rises low (x ∷ xs) → IsAmong n (x ∷ xs) → test n ≡ true → (IsAmong n xs → IsFirst test xs n) → (passes : Bool) → test x ≡ passes → IsFirst test (x ∷ xs) n
first_by test low n x xs rises (inl here) is behind true passes = record { first = x; found = cond-true (test x) (Some x) (find test xs) passes; least = omega (arith, here) }
first_by test low n x xs rises (inl here) is behind false fails = absurd (false≢true (sym fails ∙ (sym (ap test here) ∙ is)))
first_by test low n x xs rises (inr among) is behind true passes = record { first = x; found = cond-true (test x) (Some x) (find test xs) passes; least = rises_above x n xs rises.1 among }
first_by test low n x xs rises (inr among) is behind false fails =
    let more : IsFirst test xs n = behind among in
    record { first = more.first; found = cond-false (test x) (Some x) (find test xs) fails ∙ more.found; least = more.least }

first_of_rising : (test : ℕ → Bool) (low n : ℕ) (xs : List ℕ) → Rises low xs → IsAmong n xs → test n ≡ true → IsFirst test xs n
first_of_rising test low n [] rises among is = absurd among
first_of_rising test low n (x ∷ xs) rises among is = first_by test low n x xs rises among is (λ behind. first_of_rising test x n xs rises.1 behind is) (test x) refl

ends_rise : (file : TextFile) → reads_texts file.settings.handler ≡ true → (ending : Ending) (place : ℕ) (items : List Item) → Walks file place items ending → Rises place (map end_of_item items)
ends_rise file reads ending place [] walks = tt
ends_rise file reads ending place (item ∷ items) walks =
    let begin : Begins file place item items ending = begins file reads place item items ending walks in
    let there : place + item.length ≡ item.start + item.length = omega (arith, begin.start) in
    (omega (arith, begin.start), subst (λ (p : ℕ). Rises p (map end_of_item items)) there (ends_rise file reads ending (place + item.length) items begin.behind))

pub told_least : (file : TextFile) → StandsInText file → file.can.readable ≡ true → (boundary : ℕ) → Contains (boundaries file) boundary → gives_rest file boundary ≡ true → (start_of (told file) ≤ boundary) × (skips (told file) ≡ false)
told_least file stands readable boundary there gives =
    let rises : Rises file.place.at (boundaries file) = (omega arith, ends_rise file (stands.reads readable) (decoded file).ending file.place.at (decoded file).items (record { items_are = refl; ending_is = refl })) in
    let first : IsFirst (gives_rest file) (boundaries file) boundary = first_of_rising (gives_rest file) file.place.at boundary (boundaries file) rises (among_at boundary (boundaries file) there.0 there.1 there.2) gives in
    subst (λ (found : Option ℕ). (start_of (told_at file found) ≤ boundary) × (skips (told_at file found) ≡ false)) (sym first.found) (first.least, refl)
