use Rattle.std.proofs.Common.{◌≡◌, ◌-◌, ◌≤◌, ◌++◌, List, ℕ, IfOk, drop, chars, length, ap, sym, subst, ◌∙◌, arith}
use Rattle.std.specs.Str.{IsUtf8}
use Rattle.py_codec.specs.Answers.{text_of}
use Rattle.py_held_text.specs.Known.{KnownView}
use Rattle.py_held_text.specs.Plain.{plain_of, known_of}
use Rattle.py_held_text.proofs.Plain.{own-only, if-text, plain-last}
use Rattle.py_held_text.proofs.plain_text.take_known.Goals as goal

pub returns-then-size-eq0-clause-text : goal.returns-then-size-eq0-clause-text
returns-then-size-eq0-clause-text c =
    let own = own-only c.args.known.now c.args.size c.args.decoded c.args.bytes.now.items c.if-size-eq0.true in
    subst (λ (known : KnownView). IfOk c.give.result (λ text. text_of text ≡ known.characters)) (sym own)
    (if-text c.give.result _ _ c.find_last-all.ensures.answer c.give.ensures.text)

pub from_utf8_unchecked-requires : goal.from_utf8_unchecked-requires
from_utf8_unchecked-requires c =
    let items : List ℕ = c.args.bytes.now.items in
    let left = plain-last c.args.size c.args.decoded items _ c.requires.within (omega (arith, c.requires.decoded, c.args.bytes.now.ok)) (c.fit.ensures ∙ (c.cut_front.ensures ∙ ap (λ bytes. drop (c.args.decoded - c.args.size) bytes.items) c.replace-text.ensures.value)) in
    subst IsUtf8 (sym left) c.requires.utf8

pub returns-clause-text : goal.returns-clause-text
returns-clause-text c =
    let items : List ℕ = c.args.bytes.now.items in
    let left = plain-last c.args.size c.args.decoded items _ c.requires.within (omega (arith, c.requires.decoded, c.args.bytes.now.ok)) (c.fit.ensures ∙ (c.cut_front.ensures ∙ ap (λ bytes. drop (c.args.decoded - c.args.size) bytes.items) c.replace-text.ensures.value)) in
    ap (λ vec. chars vec.items) c.from_utf8_unchecked.ensures.value
    ∙ (ap chars left
    ∙ ap (λ (known : KnownView). (known_of known c.args.size c.args.decoded items).characters) (sym (c.requires.alone (omega (arith, c.if-size-eq0.false)))))
