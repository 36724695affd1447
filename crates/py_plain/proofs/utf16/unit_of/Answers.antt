use Rattle.std.proofs.Common.{inl, inr, sym, ◌∙◌, arith}
use Rattle.py_plain.proofs.Surrogates.{neither}
use Rattle.py_plain.proofs.utf16.unit_of.Goals as goal

pub unwrap-requires : goal.unwrap-requires
unwrap-requires c =
    let out = neither c.args.unit (sym c.is_high.ensures ∙ c.if-is_high.false) (sym c.is_low.ensures ∙ c.if-is_low.false) in
    c.from_u32.ensures.succeeds (elim out [ inl below ↦ inl (omega arith) | inr above ↦ inr (omega arith, omega arith) ])
