-- Bytes that are written keep their number.
use Rattle.std.proofs.Common.{◌≡◌, ℕ, ◌≤◌, List, ◌++◌, length, drop, sym, subst, arith}
use Rattle.std.proofs.lemmas.List.{length-take, length-append, length-drop, take_at}
use Rattle.py_buffer.specs.Segments.{Covers}
use Rattle.py_buffer.specs.Buffers.{BufferView, WrittenView, IsOver, IsWritable, refilled, with_bytes, with_front}

pub whole_over : (buffer : WrittenView) (bytes : List ℕ) → IsWritable buffer.desc buffer.size → length bytes ≡ buffer.size → IsOver buffer.desc (with_bytes buffer bytes).borrow.now
whole_over buffer bytes is as_many = record { valid = is.valid; covers = subst (Covers buffer.desc) (sym as_many) is.covers }

pub front_keeps : (buffer : WrittenView) (bytes : List ℕ) → length bytes ≤ length buffer.borrow.now → length (with_front buffer bytes).borrow.now ≡ length buffer.borrow.now
front_keeps buffer bytes few =
    let old : List ℕ = buffer.borrow.now in
    omega (arith, few, length-append bytes (drop (length bytes) old), length-drop (length bytes) old)

pub owned_keep : (buffer : BufferView) (bytes : List ℕ) → length (refilled buffer bytes).bytes ≡ length buffer.bytes
owned_keep buffer bytes =
    let old : List ℕ = buffer.bytes in
    omega (arith, length-take (length old) (bytes ++ drop (length bytes) old), length-append bytes (drop (length bytes) old), length-drop (length bytes) old)

pub written_stand : (buffer : BufferView) (bytes : List ℕ) → length bytes ≡ length buffer.bytes → (refilled buffer bytes).bytes ≡ bytes
written_stand buffer bytes as_many = take_at bytes (drop (length bytes) buffer.bytes) (length buffer.bytes) as_many
