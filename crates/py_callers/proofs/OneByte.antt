-- A stream whose bytes were lent out, marked and taken back.
use Rattle.std.proofs.Common.{◌≡◌, ℕ, Bool, true, false, ◌||◌, nat_eq, List, [], ◌∷◌, ◌++◌, slice_set, length, Option, Some, None, Result, Ok, Err, refl, sym, ap, subst, ◌∙◌, if◌then◌else◌}
use Rattle.std.specs.List.{list_any}
use Rattle.std.proofs.lemmas.Cmp.{nat_eq_equiv}
use Rattle.py_flat.specs.declared.fault.IoFault.{IoFault}
use Rattle.py_memio.specs.declared.export.Export.{Export}
use Rattle.py_memio.specs.BytesIO.{BytesView, without, is_out, exported, with_bytes, use_refusal, GivesExport, Releases}
use Rattle.py_memio.proofs.Lent.{writes_stand}
use Rattle.py_callers.specs.Marking.{marked, MarkOutcome}

left_but : (number own : ℕ) (more : List ℕ) (same found : Bool) → (found ≡ false → without number (more ++ number ∷ []) ≡ more) → (same || found) ≡ false → (if same then more ++ number ∷ [] else own ∷ without number (more ++ number ∷ [])) ≡ own ∷ more
left_but number own more true found rest fresh = absurd (cc)
left_but number own more false found rest fresh = ap (λ (left : List ℕ). own ∷ left) (rest fresh)

-- a number that isn't out, put behind those that are and taken back
taken_back : (number : ℕ) (out : List ℕ) → list_any (λ own. nat_eq own number) out ≡ false → without number (out ++ number ∷ []) ≡ out
taken_back number [] fresh = ap (λ (same : Bool). if same then [] else number ∷ []) (nat_eq_equiv.refl number)
taken_back number (own ∷ more) fresh = left_but number own more (nat_eq own number) (list_any (λ n. nat_eq n number) more) (taken_back number more) fresh

-- the first byte, written over
set_first : (mark : ℕ) (bytes : List ℕ) → slice_set bytes 0 mark ≡ marked mark bytes
set_first mark [] = refl
set_first mark (b ∷ bs) = refl

as_many : (mark : ℕ) (bytes : List ℕ) → length (marked mark bytes) ≡ length bytes
as_many mark [] = refl
as_many mark (b ∷ bs) = refl

-- the marked bytes came back, and the export was released
comes_back : (mark : ℕ) (before : BytesView) (refusal : Option IoFault) (number : ℕ) (result : Result (Unit {0}) IoFault) (after : BytesView) → refusal ≡ None → number ≡ before.exports.next → is_out before.exports number ≡ false → Releases refusal (with_bytes (exported before) (marked mark before.file.bytes)) number result after → MarkOutcome None mark before result after
comes_back mark before (Some why) number result after used next fresh releases = absurd (cc)
comes_back mark before None number (Err why) after used next fresh releases = absurd (cc)
comes_back mark before None number (Ok done) after used next fresh releases =
    let bytes : List ℕ = before.file.bytes in
    let out : List ℕ = before.exports.out in
    let left : without number (out ++ before.exports.next ∷ []) ≡ out = ap (λ (n : ℕ). without number (out ++ n ∷ [])) (sym next) ∙ taken_back number out fresh in
    releases.1
    ∙ ap (λ (own : List ℕ). let view : BytesView = record (exported before) { file = record before.file { bytes = own }; exports = record (exported before).exports { out = without number (out ++ before.exports.next ∷ []) } } in view) (writes_stand (exported before) (marked mark bytes) (as_many mark bytes))
    ∙ ap (λ (numbers : List ℕ). let view : BytesView = record (exported before) { file = record before.file { bytes = marked mark bytes }; exports = record (exported before).exports { out = numbers } } in view) left

-- an export was given, used to write over the first byte, and released
pub marks : (mark : ℕ) (before : BytesView) (refusal : Option IoFault) (export : Export) (lent stream : BytesView) (result : Result (Unit {0}) IoFault) (after : BytesView) → GivesExport refusal before (Ok export) lent → is_out before.exports export.0 ≡ false → use_refusal lent export.0 ≡ None → stream ≡ with_bytes lent (slice_set lent.file.bytes 0 mark) → Releases (use_refusal stream export.0) stream export.0 result after → MarkOutcome refusal mark before result after
marks mark before (Some why) export lent stream result after gives fresh used written releases = absurd (cc)
marks mark before None export lent stream result after gives fresh used written releases =
    let number : ℕ = export.0 in
    let is : stream ≡ with_bytes (exported before) (marked mark before.file.bytes) = written ∙ ap (λ (view : BytesView). with_bytes view (slice_set view.file.bytes 0 mark)) gives.1 ∙ ap (with_bytes (exported before)) (set_first mark before.file.bytes) in
    comes_back mark before (use_refusal stream number) number result after (ap (λ (view : BytesView). use_refusal view number) written ∙ used) gives.0 fresh (subst (λ (view : BytesView). Releases (use_refusal stream number) view number result after) is releases)
