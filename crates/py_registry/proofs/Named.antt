-- Entries by texts, seen as entries by names.
use Rattle.std.proofs.Common.{◌≡◌, ℕ, zero, suc, Bool, slice_get, option_map, true, false, cond, List, [], ◌∷◌, remove, length, String, string_bytes, chars, Option, Some, refl, sym, ap, ◌∙◌}
use Rattle.std.specs.Str.{IsUtf8, bytes_eq}
use Rattle.std.specs.Map.{lookup}
use Rattle.std.specs.String.{string_eq}
use Rattle.std.specs.Cmp.Lexicographic.{bytes_decides}
use Rattle.std.specs.declared.alloc.Global.{Global}
use Rattle.std.proofs.lemmas.Option.{slice_get-map}
use Rattle.std.proofs.lemmas.Str.{IsUtf8-string_bytes, encodes-chars}
use Rattle.std.specs.Str.{encode_utf8_all}
use Rattle.indexmap.specs.IndexMap.{insert_entry}
use Rattle.py_codec.specs.Answers.{text_of}
use Rattle.py_registry.specs.Names.{Named, named, same_name}

one-truth : (a b : Bool) → (a ≡ true → b ≡ true) → (b ≡ true → a ≡ true) → a ≡ b
one-truth true b to from = sym (to refl)
one-truth false true to from = from refl
one-truth false false to from = refl

-- texts are the same name that have the same bytes
pub same-text : (one other : List ℕ) → IsUtf8 one → IsUtf8 other → bytes_eq one other ≡ same_name (chars one) (chars other)
same-text one other one_is other_is =
    one-truth (bytes_eq one other) (same_name (chars one) (chars other))
    (λ same. (bytes_decides (chars one) (chars other)).1 (ap chars ((bytes_decides one other).0 same)))
    (λ same. (bytes_decides one other).1 (sym (encodes-chars one one_is) ∙ (ap encode_utf8_all ((bytes_decides (chars one) (chars other)).0 same) ∙ encodes-chars other other_is)))

-- whether two names are the same doesn't depend on which stands first
same-turned : (one other : List ℕ) → same_name one other ≡ same_name other one
same-turned one other =
    one-truth (same_name one other) (same_name other one)
    (λ same. (bytes_decides other one).1 (sym ((bytes_decides one other).0 same)))
    (λ same. (bytes_decides one other).1 (sym ((bytes_decides other one).0 same)))

same-kept : (given kept : List ℕ) → IsUtf8 given → IsUtf8 kept → bytes_eq given kept ≡ same_name (chars kept) (chars given)
same-kept given kept given_is kept_is = same-text given kept given_is kept_is ∙ same-turned (chars given) (chars kept)

module _ {V : Type 0} where
  -- a text's entry is that of its name
  pub lookup-named : (bytes : List ℕ) → IsUtf8 bytes → (entries : List (String Global × V)) → lookup (λ kept. bytes_eq bytes (string_bytes kept)) entries ≡ lookup (λ kept. same_name kept (chars bytes)) (named entries)
  lookup-named bytes is [] = refl
  lookup-named bytes is (entry ∷ entries) =
      ap (λ (b : Bool). cond b (Some entry.1) (lookup (λ kept. bytes_eq bytes (string_bytes kept)) entries)) (same-kept bytes (string_bytes entry.0) is (IsUtf8-string_bytes entry.0))
      ∙ ap (λ (found : Option V). cond (same_name (text_of entry.0) (chars bytes)) (Some entry.1) found) (lookup-named bytes is entries)

  named-cond : (b : Bool) (one other : List (String Global × V)) → named (cond b one other) ≡ cond b (named one) (named other)
  named-cond true one other = refl
  named-cond false one other = refl

  -- an entry that is put by a text is put by its name
  pub insert-named : (name : String Global) (value : V) (entries : List (String Global × V)) → named (insert_entry string_eq entries name value) ≡ insert_entry (λ name kept. same_name kept name) (named entries) (text_of name) value
  insert-named name value [] = refl
  insert-named name value (entry ∷ entries) =
      named-cond (string_eq name entry.0) ((entry.0, value) ∷ entries) (entry ∷ insert_entry string_eq entries name value)
      ∙ (ap (λ (b : Bool). cond b ((text_of entry.0, value) ∷ named entries) ((text_of entry.0, entry.1) ∷ named (insert_entry string_eq entries name value))) (same-kept (string_bytes name) (string_bytes entry.0) (IsUtf8-string_bytes name) (IsUtf8-string_bytes entry.0))
      ∙ ap (λ (behind : Named V). cond (same_name (text_of entry.0) (text_of name)) ((text_of entry.0, value) ∷ named entries) ((text_of entry.0, entry.1) ∷ behind)) (insert-named name value entries))

  -- an entry that is removed leaves the names of the others
  pub remove-named : (entries : List (String Global × V)) (place : ℕ) → named (remove entries place) ≡ remove (named entries) place
  remove-named [] zero = refl
  remove-named [] (suc place) = refl
  remove-named (entry ∷ entries) zero = refl
  remove-named (entry ∷ entries) (suc place) = ap (λ (es : Named V). (text_of entry.0, entry.1) ∷ es) (remove-named entries place)

  -- an entry stands where its text's does
  pub slice_get-named : (entries : List (String Global × V)) (place : ℕ) (text : String Global) (value : V) → Some (text, value) ≡ slice_get entries place → slice_get (named entries) place ≡ Some (text_of text, value)
  slice_get-named entries place text value there =
      slice_get-map (λ (entry : String Global × V). (text_of entry.0, entry.1)) entries place ∙ sym (ap (option_map (λ (entry : String Global × V). (text_of entry.0, entry.1))) there)

  -- entries by names are as many as by texts
  pub length-named : (entries : List (String Global × V)) → length (named entries) ≡ length entries
  length-named [] = refl
  length-named (entry ∷ entries) = ap suc (length-named entries)
