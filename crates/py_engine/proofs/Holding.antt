-- What an engine that is read and written holds stays the flat bytes, step by step.
use Rattle.std.proofs.Common.{◌≡◌, ℕ, ◌+◌, ◌-◌, ◌<◌, ◌≤◌, true, List, ◌++◌, length, take, drop, Bool, if◌then◌else◌, refl, sym, ap, ◌∙◌, subst, arith, ⊎_elim, ne_eqb}
use Rattle.std.proofs.lemmas.Bool.{cases_lt, eq-eqb}
use Rattle.std.proofs.lemmas.List.{length-take-le, take-take, drop-take}
use Rattle.py_flat.specs.Bytes.{lay, left_at, filled_to}
use Rattle.py_flat.proofs.Laying.{take_laid}
use Rattle.py_stream.specs.declared.access.Access.{Access}
use Rattle.py_stream.specs.declared.access.Access.TheVariants as access
use Rattle.py_stream.specs.Access.{is_written}
use Rattle.py_window.specs.Window.{WindowView, IsWindow, place_of, pending_of, room_of, pushed, emptied_at, cut_within, cut_at, flat_over, HoldsBytes}
use Rattle.py_engine.specs.Engine.{HoldsRead, OwesBefore, HasShape}
use Rattle.py_window.proofs.Collecting.{cut_shows}
use Rattle.py_window.proofs.Overlaying.{overlays, pending_many}

-- a stream that owes what ends at its place has the shape of each that is written
pub behind_shape : (opened : Access) (raw_place : ℕ) (window : WindowView) → is_written opened ≡ true → IsWindow window → OwesBefore raw_place window → HasShape opened raw_place window
behind_shape access.Read raw_place window writes is owes = absurd (cc)
behind_shape access.Update raw_place window writes is owes = record { after_begin = omega (arith, owes.stands); before_end = omega (arith, owes.stands, is.ordered, is.within); owed = λ _. omega (arith, owes.stands) }
behind_shape other raw_place window writes is owes = owes

-- nothing is held
pub holds_none : (opened : Access) (bytes : List ℕ) (place : ℕ) (window : WindowView) → HoldsRead opened bytes (emptied_at place window)
holds_none access.Read bytes place window = refl
holds_none access.Update bytes place window = refl
holds_none other bytes place window = tt

-- bytes were put at the cursor
pub holds_pushed : (opened : Access) (raw bytes : List ℕ) (window : WindowView) → is_written opened ≡ true → IsWindow window → 0 < length bytes → length bytes ≤ room_of window → place_of window + length bytes ≤ 9223372036854775807 → HoldsRead opened raw window → HoldsRead opened raw (pushed bytes window)
holds_pushed access.Read raw bytes window writes is some room far holds = absurd (cc)
holds_pushed access.Update raw bytes window writes is some room far holds = ((overlays window bytes is some room far).lays raw holds).holds
holds_pushed other raw bytes window writes is some room far holds = tt

-- What is owed was cut back.

-- what stands up to a place among bytes that are laid on doesn't hang on those after it
laid_up_to : (raw owed : List ℕ) (place many : ℕ) → 0 < many → many ≤ length owed → take (place + many) (lay raw place (take many owed)) ≡ take (place + many) (lay raw place owed)
laid_up_to raw owed place many some within =
    let long : length (take many owed) ≡ many = length-take-le many owed within in
    take_laid raw place (take many owed) many (omega (arith, some, long)) (omega (arith, long))
    ∙ (ap (λ (front : List ℕ). filled_to raw place ++ front) (take-take many many owed (omega arith))
    ∙ sym (take_laid raw place owed many (omega (arith, some, within)) within))

-- a part of what is held, up to there
held_up_to : (raw owed held : List ℕ) (begin from many : ℕ) → 0 < many → many ≤ length owed → from + many ≤ length held → take (length held) (drop begin (lay raw (begin + from) owed)) ≡ held → take (from + many) (drop begin (lay raw (begin + from) (take many owed))) ≡ take (from + many) held
held_up_to raw owed held begin from many some within fits holds =
    let place : ℕ = begin + from in
    let parts : begin + (from + many) ≡ place + many = omega arith in
    let front : (bytes : List ℕ) → take (from + many) (drop begin bytes) ≡ drop begin (take (place + many) bytes) = λ (bytes : List ℕ). sym (drop-take begin (from + many) bytes) ∙ ap (λ (n : ℕ). drop begin (take n bytes)) parts in
    front (lay raw place (take many owed))
    ∙ (ap (drop begin) (laid_up_to raw owed place many some within)
    ∙ (sym (front (lay raw place owed))
    ∙ (sym (take-take (from + many) (length held) (drop begin (lay raw place owed)) fits)
    ∙ ap (take (from + many)) holds)))

-- cut back to a place among what is owed, which ends at the place; whatever was held behind that
holds_within : (raw : List ℕ) (end : ℕ) (window : WindowView) → IsWindow window → window.to ≡ window.cursor → window.begin + window.from < end → end ≤ place_of window → pending_of (cut_within end window) ≡ take (end - (window.begin + window.from)) (pending_of window) → HoldsBytes (flat_over raw window) window → HoldsBytes (flat_over raw (cut_within end window)) (cut_within end window)
holds_within raw end window is to behind within pending holds =
    let many : ℕ = end - (window.begin + window.from) in
    let count : ℕ = end - window.begin in
    let long : length (take count window.held) ≡ count = length-take-le count window.held (omega (arith, within, is.cursor)) in
    let same : count ≡ window.from + many = omega (arith, behind) in
    ap (λ (owed : List ℕ). take (length (take count window.held)) (left_at (lay raw (window.begin + window.from) owed) window.begin)) pending
    ∙ (ap (λ (n : ℕ). take n (left_at (lay raw (window.begin + window.from) (take many (pending_of window))) window.begin)) (long ∙ same)
    ∙ (held_up_to raw (pending_of window) window.held window.begin window.from many (omega (arith, behind)) (omega (arith, within, pending_many window is, to)) (omega (arith, within, is.cursor, behind)) holds
    ∙ ap (λ (n : ℕ). take n window.held) (sym same)))

pub holds_cut : (opened : Access) (raw : List ℕ) (end : ℕ) (window : WindowView) → is_written opened ≡ true → IsWindow window → window.to ≡ window.cursor → window.begin + window.from ≤ end → end ≤ place_of window → HoldsRead opened raw window → HoldsRead opened raw (cut_at end window)
holds_cut access.Read raw end window writes is to behind within holds = absurd (cc)
holds_cut access.Update raw end window writes is to behind within holds = ⊎_elim
    (λ (beyond : window.begin + window.from < end).
    let other = ne_eqb end (window.begin + window.from) (λ same. absurd (omega (arith, beyond, same))) in
    let pending : pending_of (cut_within end window) ≡ take (end - (window.begin + window.from)) (pending_of window) = subst (λ (same : Bool). pending_of (if same then emptied_at end window else cut_within end window) ≡ take (end - (window.begin + window.from)) (pending_of window)) other (cut_shows window end is to behind within).bytes_are in
    subst (λ (same : Bool). HoldsBytes (flat_over raw (if same then emptied_at end window else cut_within end window)) (if same then emptied_at end window else cut_within end window)) (sym other) (holds_within raw end window is to beyond within pending holds))
    (λ (there : end ≤ window.begin + window.from). subst (λ (same : Bool). HoldsBytes (flat_over raw (if same then emptied_at end window else cut_within end window)) (if same then emptied_at end window else cut_within end window)) (sym (eq-eqb end (window.begin + window.from) (omega (arith, there, behind)))) refl)
    (cases_lt (window.begin + window.from) end)
holds_cut other raw end window writes is to behind within holds = tt
