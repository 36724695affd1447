use Rattle.std.proofs.Common.{◌≡◌, Some, chars, string_bytes, sym, ap, subst, ◌∙◌}
use Rattle.std.specs.Str.{IsUtf8}
use Rattle.std.proofs.lemmas.Bool.{false≢true}
use Rattle.std.proofs.lemmas.Str.{IsUtf8-string_bytes}
use Rattle.py_script.proofs.OptionLemmas.{text_of_utf8, text_of_other}
use Rattle.py_script.proofs.hex_words.text_of.Goals as goal

pub returns-in-Ok : goal.returns-in-Ok
returns-in-Ok c =
    let same : string_bytes c.in-Ok.text ≡ c.args.bytes.items = ap (λ bytes. bytes.items) c.in-Ok.ensures.ok in
    let utf8 : IsUtf8 c.args.bytes.items = subst IsUtf8 same (IsUtf8-string_bytes c.in-Ok.text) in
    ap Some (c.from_string.ensures ∙ ap chars same) ∙ sym (text_of_utf8 c.args.bytes.items utf8)

pub returns : goal.returns
returns c = sym (text_of_other c.args.bytes.items (λ utf8. false≢true (c.in-Err.ensures.succeeds utf8)))
