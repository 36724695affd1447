use Rattle.std.proofs.Common.{refl, ◌∙◌}
use Rattle.std.specs.Int.{w32, w64}
use Rattle.std.proofs.lemmas.Int.{to_z-of_z}
use Rattle.py_plain_text.proofs.text_cookie.cookie_of.Goals as goal

pub returns : goal.returns
returns c =
    let start = to_z-of_z w64 c.start_in.result (record { sfits = c.start_in.type_inv }) ∙ c.start_in.ensures in
    let flags = to_z-of_z w32 c.number_at.result (record { sfits = c.number_at.type_inv }) ∙ c.number_at.ensures in
    let fed = to_z-of_z w32 c.number_at-2.result (record { sfits = c.number_at-2.type_inv }) ∙ c.number_at-2.ensures in
    let skipped = to_z-of_z w32 c.number_at-3.result (record { sfits = c.number_at-3.type_inv }) ∙ c.number_at-3.ensures in
    let bytes = to_z-of_z w32 c.number_at-4.result (record { sfits = c.number_at-4.type_inv }) ∙ c.number_at-4.ensures in
    rw (start, flags, fed, skipped, bytes, c.byte_at.ensures) refl
