use Rattle.std.proofs.Common.{rules, ◌≡◌, ℕ, List, Option, Bor, Err, chars, option_map, sym, ◌∙◌}
use Rattle.py_registry.specs.Coding.{codec_encoding}
use Rattle.py_registry.proofs.Chosen.{chosen-known, chosen-refuses}
use Rattle.py_registry.proofs.registry.CodecsRegistry.encode_by.Goals as goal

pub returns-in_err-bytes-clause-first : goal.returns-in_err-bytes-clause-first
returns-in_err-bytes-clause-first g c encoding handler is there why refuses expected =
    let given : Option (List ℕ) = option_map (λ (errors : Bor (List ℕ)). chars errors.now) c.args.errors in
    let chosen = chosen-known g.S.SearchFunction.finds g.S.SearchFunction.text_slots c.args.self.now c.args.only_text (chars c.args.name.now) given encoding handler is there in
    let work = codec_encoding g.S.SearchFunction.slot_encodes g.H.ErrorHandler.decodes g.H.ErrorHandler.encodes (chars c.args.text.now) in
    let first : c.encode.result ≡ Err why = chosen-refuses work c.encode.result encoding handler c.in_ok-codec.codec c.in_ok-codec.handler (sym chosen ∙ c.in_ok-codec.ensures.answer) c.encode.ensures.first why refuses expected in
    let left : c.from_residual-in_err-bytes.result ≡ Err c.in_err-bytes.field-0.0 = search rules in
    left ∙ (sym c.in_err-bytes.was ∙ first)
