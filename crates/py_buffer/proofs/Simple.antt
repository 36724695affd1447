-- The descriptor of bytes one by one doesn't leave them.
use Rattle.std.proofs.Common.{◌≡◌, ◌≢◌, ℕ, ◌+◌, ◌*◌, ◌^◌, ◌<◌, pos, Bool, List, [], ◌∷◌, length, sym, subst, arith}
use Rattle.std.proofs.lemmas.Int.{ints}
use Rattle.py_buffer.specs.declared.descriptor.BufferDescriptor.{BufferDescriptor}
use Rattle.py_buffer.specs.Descriptor.{Dimension, Each, IsSound, IsValid, items_in, bound_of, reach_of}
use Rattle.py_buffer.specs.Segments.{IsWithin, is_row, last_of, spans}
use Rattle.py_buffer.specs.Buffers.{IsOver, IsSimple}
use Rattle.py_buffer.proofs.Rows.{covers_by_rows}

-- the one dimension of so many bytes
abbrev one_by_one : ℕ → List Dimension
one_by_one n = (n, pos 1, pos 0) ∷ []

simple_is_valid : (descriptor : BufferDescriptor) (n : ℕ) (readonly : Bool) → IsSimple descriptor n readonly → n < 2 ^ 63 → IsValid descriptor
simple_is_valid descriptor n readonly simple small =
    let dimensions = sym simple.dimension in
    let itemsize = sym simple.itemsize in
    record {
      some_bytes = omega (arith, itemsize);
      some_dimension = subst (λ (ds : List Dimension). ds ≢ []) dimensions (λ none. absurd (cc));
      sound = subst (λ (ds : List Dimension). Each IsSound ds) dimensions (((λ zero. absurd (cc)), omega (arith, ints)), tt);
      all_bytes = subst (λ (ds : List Dimension). items_in ds * descriptor.itemsize ≡ descriptor.len) dimensions (subst (λ (size : ℕ). items_in (one_by_one n) * size ≡ descriptor.len) itemsize (omega (arith, simple.len)));
      bounded = subst (λ (ds : List Dimension). bound_of ds < 2 ^ 64) dimensions (omega arith);
      within_reach = subst (λ (ds : List Dimension). reach_of ds + descriptor.itemsize < 2 ^ 63) dimensions (omega (arith, simple.itemsize));
    }

pub simple_is_over : (descriptor : BufferDescriptor) (bytes : List ℕ) (readonly : Bool) → IsSimple descriptor (length bytes) readonly → length bytes < 2 ^ 63 → IsOver descriptor bytes
simple_is_over descriptor bytes readonly simple small =
    let n = length bytes in
    let valid = simple_is_valid descriptor n readonly simple small in
    let one_row : Each (IsWithin n) (spans (is_row 1 (last_of (one_by_one n))) 1 (one_by_one n)) = ((omega (arith, ints), omega (arith, ints)), tt) in
    let rows = subst (λ (size : ℕ). Each (IsWithin n) (spans (is_row size (last_of (one_by_one n))) size (one_by_one n))) (sym simple.itemsize) one_row in
    record {
      valid = valid;
      covers = covers_by_rows descriptor n valid (subst (λ (ds : List Dimension). Each (IsWithin n) (spans (is_row descriptor.itemsize (last_of ds)) descriptor.itemsize ds)) (sym simple.dimension) rows);
    }
