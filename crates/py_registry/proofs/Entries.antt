-- Lists of entries: where the first entry stands whose key is accepted, and what an edit leaves of other keys.
use Rattle.std.proofs.Common.{◌≡◌, ℕ, zero, suc, ◌+◌, ◌<◌, nat_lt, Bool, true, false, cond, List, [], ◌∷◌, length, slice_get, Option, Some, None, refl, sym, ap, ◌∙◌, arith}
use Rattle.std.specs.Map.{lookup, remove_entry}
use Rattle.std.proofs.lemmas.Bool.{ltb-true, ltb-false}
use Rattle.std.proofs.lemmas.Option.{same_Some}
use Rattle.indexmap.specs.IndexMap.{insert_entry}
use Rattle.py_registry.specs.Entries.{IsEntry, IsNoEntry}

module _ {K V : Type 0} where
  -- no entry before a place has a key that is accepted
  abbrev pub NoneBefore : (K → Bool) → List (K × V) → ℕ → Type 0
  NoneBefore accepts entries place = (k : ℕ) → k < place → (entry : K × V) → slice_get entries k ≡ Some entry → accepts entry.0 ≡ false

  before-next_by : (accepts : K → Bool) (entries : List (K × V)) (place : ℕ) (found : K × V) → NoneBefore accepts entries place → slice_get entries place ≡ Some found → accepts found.0 ≡ false → (k : ℕ) → k < place + 1 → (b : Bool) → nat_lt k place ≡ b → (entry : K × V) → slice_get entries k ≡ Some entry → accepts entry.0 ≡ false
  before-next_by accepts entries place found before there not k below true is entry at = before k (ltb-true k place is) entry at
  before-next_by accepts entries place found before there not k below false is entry at =
      let here : k ≡ place = omega (arith, ltb-false k place is) in
      let own : entry ≡ found = same_Some entry found (sym at ∙ (ap (slice_get entries) here ∙ there)) in
      ap (λ (e : K × V). accepts e.0) own ∙ not

  -- where the key at a place isn't accepted either, no entry before the next place has one
  pub before-next : (accepts : K → Bool) (entries : List (K × V)) (place : ℕ) (found : K × V) → NoneBefore accepts entries place → slice_get entries place ≡ Some found → accepts found.0 ≡ false → NoneBefore accepts entries (place + 1)
  before-next accepts entries place found before there not k below entry at = before-next_by accepts entries place found before there not k below (nat_lt k place) refl entry at

  entry-found_first : (accepts : K → Bool) (entry found : K × V) (entries : List (K × V)) → Some entry ≡ Some found → accepts found.0 ≡ true → IsEntry accepts (entry ∷ entries) 0 found.1
  entry-found_first accepts entry found entries same here =
      let own : entry ≡ found = same_Some entry found same in
      let accepted : accepts entry.0 ≡ true = ap (λ (e : K × V). accepts e.0) own ∙ here in
      record {
        inside = omega arith;
        found = ap (λ (b : Bool). cond b (Some entry.1) (lookup accepts entries)) accepted ∙ ap (λ (e : K × V). Some e.1) own;
        without = ap (λ (b : Bool). cond b entries (entry ∷ remove_entry accepts entries)) accepted;
      }

  -- the first entry that is accepted stands where none before it is
  pub entry-found : (accepts : K → Bool) (entries : List (K × V)) (place : ℕ) (found : K × V) → NoneBefore accepts entries place → slice_get entries place ≡ Some found → accepts found.0 ≡ true → IsEntry accepts entries place found.1
  entry-found accepts [] place found before there here = absurd (cc)
  entry-found accepts (entry ∷ entries) zero found before there here = entry-found_first accepts entry found entries there here
  entry-found accepts (entry ∷ entries) (suc place) found before there here =
      let behind = entry-found accepts entries place found (λ k below. before (suc k) (omega arith)) there here in
      let not : accepts entry.0 ≡ false = before 0 (omega arith) entry refl in
      let inside : place < length entries = behind.inside in
      record {
        inside = omega arith;
        found = ap (λ (b : Bool). cond b (Some entry.1) (lookup accepts entries)) not ∙ behind.found;
        without = ap (λ (b : Bool). cond b entries (entry ∷ remove_entry accepts entries)) not ∙ ap (λ (es : List (K × V)). entry ∷ es) behind.without;
      }

  -- where no key is accepted there is no entry
  pub entry-none : (accepts : K → Bool) (entries : List (K × V)) → NoneBefore accepts entries (length entries) → IsNoEntry accepts entries
  entry-none accepts [] before = record { found = refl; without = refl }
  entry-none accepts (entry ∷ entries) before =
      let behind = entry-none accepts entries (λ k below. before (suc k) (omega arith)) in
      let not : accepts entry.0 ≡ false = before 0 (omega arith) entry refl in
      record {
        found = ap (λ (b : Bool). cond b (Some entry.1) (lookup accepts entries)) not ∙ behind.found;
        without = ap (λ (b : Bool). cond b entries (entry ∷ remove_entry accepts entries)) not ∙ ap (λ (es : List (K × V)). entry ∷ es) behind.without;
      }

  module _ (eq : K → K → Bool) where
    put-own_first : (key : K) (entry : K × V) (value : V) (entries behind : List (K × V)) (b : Bool) → eq key entry.0 ≡ b → lookup (eq key) behind ≡ Some value → lookup (eq key) (cond b ((entry.0, value) ∷ entries) (entry ∷ behind)) ≡ Some value
    put-own_first key entry value entries behind true is found = ap (λ (b : Bool). cond b (Some value) (lookup (eq key) entries)) is
    put-own_first key entry value entries behind false is found = ap (λ (b : Bool). cond b (Some entry.1) (lookup (eq key) behind)) is ∙ found

    -- a value that was put under a key is found
    pub put-own : (key : K) (value : V) (entries : List (K × V)) → eq key key ≡ true → lookup (eq key) (insert_entry eq entries key value) ≡ Some value
    put-own key value [] own = ap (λ (b : Bool). cond b (Some value) None) own
    put-own key value (entry ∷ entries) own =
        put-own_first key entry value entries (insert_entry eq entries key value) (eq key entry.0) refl (put-own key value entries own)

    put-other_first : (other : K → Bool) (key : K) (entry : K × V) (value : V) (entries behind : List (K × V)) (b : Bool) → eq key entry.0 ≡ b → (eq key entry.0 ≡ true → other entry.0 ≡ false) → lookup other behind ≡ lookup other entries → lookup other (cond b ((entry.0, value) ∷ entries) (entry ∷ behind)) ≡ lookup other (entry ∷ entries)
    put-other_first other key entry value entries behind true is apart same =
        ap (λ (b : Bool). cond b (Some value) (lookup other entries)) (apart is) ∙ sym (ap (λ (b : Bool). cond b (Some entry.1) (lookup other entries)) (apart is))
    put-other_first other key entry value entries behind false is apart same = ap (λ (found : Option V). cond (other entry.0) (Some entry.1) found) same

    -- a key that isn't the one that is put has what it had
    pub put-other : (other : K → Bool) (key : K) (value : V) (entries : List (K × V)) → ((k : K) → eq key k ≡ true → other k ≡ false) → eq key key ≡ true → lookup other (insert_entry eq entries key value) ≡ lookup other entries
    put-other other key value [] apart own = ap (λ (b : Bool). cond b (Some value) None) (apart key own)
    put-other other key value (entry ∷ entries) apart own =
        put-other_first other key entry value entries (insert_entry eq entries key value) (eq key entry.0) refl (apart entry.0) (put-other other key value entries apart own)

  without-other_first : (accepts other : K → Bool) (entry : K × V) (entries behind : List (K × V)) (b : Bool) → accepts entry.0 ≡ b → (accepts entry.0 ≡ true → other entry.0 ≡ false) → lookup other behind ≡ lookup other entries → lookup other (cond b entries (entry ∷ behind)) ≡ lookup other (entry ∷ entries)
  without-other_first accepts other entry entries behind true is apart same = sym (ap (λ (b : Bool). cond b (Some entry.1) (lookup other entries)) (apart is))
  without-other_first accepts other entry entries behind false is apart same = ap (λ (found : Option V). cond (other entry.0) (Some entry.1) found) same

  -- a key that isn't accepted where the one that is left out is accepted has what it had
  pub without-other : (accepts other : K → Bool) (entries : List (K × V)) → ((k : K) → accepts k ≡ true → other k ≡ false) → lookup other (remove_entry accepts entries) ≡ lookup other entries
  without-other accepts other [] apart = refl
  without-other accepts other (entry ∷ entries) apart =
      without-other_first accepts other entry entries (remove_entry accepts entries) (accepts entry.0) refl (apart entry.0) (without-other accepts other entries apart)
