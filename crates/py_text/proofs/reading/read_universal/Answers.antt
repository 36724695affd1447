use Rattle.std.proofs.Common.{rules, ◌≡◌, length, List, ℕ, [], ◌++◌, chars, ap, sym, ◌∙◌}
use Rattle.std.proofs.lemmas.List.{nil_from_length}
use Rattle.std.proofs.lemmas.Str.{chars-nil}
use Rattle.std.specs.Str.{IsUtf8}
use Rattle.py_plain.specs.NewlineRule.{universal}
use Rattle.py_codec.specs.Answers.{text_of}
use Rattle.py_blocks.proofs.Appended.{text_of-push_str}
use Rattle.py_text.proofs.Copying.{goes-on, none-left, none-held}
use Rattle.py_text.proofs.reading.read_universal.Goals as goal

pub loop-left-init : goal.loop-left-init
loop-left-init c = (c.utf8.text, ap (λ (t : List ℕ). t ++ universal c.args.held (chars c.args.text.now)) (ap chars c.in_ok-out.ensures.bytes ∙ chars-nil), search rules)

pub loop-left-preserved : goal.loop-left-preserved
loop-left-preserved c =
    let utf8 : IsUtf8 c.cut_at_cr-cut.result.left.now = search rules in
    let cut = c.cut_at_cr-cut.result in
    let mid : List ℕ = chars c.in_ok-release.field-0.now in
    let out : List ℕ = text_of c.release.new.out in (
      utf8,
      goes-on out (text_of c.push_str.new.self) (chars cut.run.now) mid (chars cut.left.now) (universal c.args.held (chars c.args.text.now)) cut.held (text_of-push_str c.release.new.out c.push_str.new.self cut.run.now c.in_ok-push_str.ensures.bytes) (c.in_ok-release.ensures.gives ∙ c.loop-left.invariant.1) c.cut_at_cr-cut.ensures.copied,
      sym c.cut_at_cr-cut.ensures.copied.holds ∙ (c.in_ok-release.ensures.holds ∙ c.loop-left.invariant.2),
    )

pub returns-clause-gives : goal.returns-clause-gives
returns-clause-gives c =
    let empty : length c.loop-left.left.now ≡ 0 = search rules in
    let none : c.loop-left.left.now ≡ [] = nil_from_length c.loop-left.left.now empty in
    none-left (text_of c.loop-left.out) c.loop-left.left.now (universal c.args.held (chars c.args.text.now)) c.loop-left.held none c.loop-left.invariant.1

pub returns-clause-holds : goal.returns-clause-holds
returns-clause-holds c =
    let empty : length c.loop-left.left.now ≡ 0 = search rules in
    let none : c.loop-left.left.now ≡ [] = nil_from_length c.loop-left.left.now empty in
    none-held c.loop-left.left.now c.loop-left.held _ none c.loop-left.invariant.2
