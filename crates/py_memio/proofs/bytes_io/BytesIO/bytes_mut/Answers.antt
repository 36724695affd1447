use Rattle.std.proofs.Common.{◌≡◌, ℕ, ◌++◌, length, take, drop, ap, sym, ◌∙◌, refl}
use Rattle.py_memio.specs.InMemory.{file_in_memory}
use Rattle.py_memio.specs.BytesIO.{BytesView, next_number, with_bytes}
use Rattle.py_memio.proofs.bytes_io.BytesIO.bytes_mut.Goals as goal

pub returns : goal.returns
returns c =
    let same = c.self.view_is in
    let inside = c.self.inside in
    let counts : inside.bytes.len ≡ length inside.bytes.items = sym c.as_mut_slice.ensures.len ∙ ap length c.as_mut_slice.ensures.value in (
      (
        refl,
        λ w.
            ap (λ (n : ℕ). let view : BytesView = record { file = file_in_memory (take n (w ++ drop (length w) inside.bytes.items)) inside.place inside.closed; exports = record { out = inside.out.items; next = next_number inside.next }; taken = inside.taken } in view) counts
            ∙ ap (λ (view : BytesView). with_bytes view w) same,
      ),
      record { writes_back = tt; value = c.as_mut_slice.ensures.value ∙ ap (λ (view : BytesView). view.file.bytes) same },
    )
