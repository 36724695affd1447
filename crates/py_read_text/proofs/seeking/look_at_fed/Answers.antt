use Rattle.std.proofs.Common.{◌≡◌, ◌&&◌, ℕ, Bool, List, length, take, chars, ap, ◌∙◌, subst}
use Rattle.py_codec.specs.Answers.{text_of}
use Rattle.py_blocks.specs.Fronts.{IsFrontOf}
use Rattle.py_plain_text.specs.CookieView.{cookie_shown}
use Rattle.py_plain_text.specs.Landing.{skipped_by}
use Rattle.py_read_text.proofs.Feeding.{fits_so}
use Rattle.py_read_text.proofs.seeking.look_at_fed.Goals as goal

pub returns : goal.returns
returns c =
    let whole : chars c.deref.result.now ≡ text_of c.in_ok-text.text = ap chars c.deref.ensures in
    record { outcome = fits_so _ _ _ _ c.in_ok-text.text c.front_of-skipped.result (λ file feeds. c.restores.ensures.restorable file feeds ∙ ap (λ (fits : Bool). file.can.readable && fits) c.if-not-restores.false) (c.restores.ensures.feeds c.if-not-restores.false) (c.restores.ensures.inside c.if-not-restores.false) c.in_ok-text.ensures.characters c.in_ok-text.ensures.few (subst (λ (cs : List ℕ). IsFrontOf cs c.front_of-skipped.result) whole c.front_of-skipped.ensures.front) (c.front_of-skipped.ensures.count ∙ (ap (λ (count : ℕ). length (take count (chars c.deref.result.now))) c.skipped_by.ensures ∙ ap (λ (cs : List ℕ). length (take (skipped_by (cookie_shown c.args.cookie.now)) cs)) whole)) }
