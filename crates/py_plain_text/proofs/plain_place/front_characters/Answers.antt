use Rattle.std.proofs.Common.{◌≡◌, drop, option_map, IfOk, sym, ap, subst, ◌∙◌}
use Rattle.py_plain.specs.Units.{Unknown}
use Rattle.py_plain_text.specs.Rest.{front_characters}
use Rattle.py_plain_text.specs.PlainSteps.{settings_shown, front_shown}
use Rattle.py_plain_text.proofs.Places.{front_is}
use Rattle.py_plain_text.proofs.plain_place.front_characters.Goals as goal

pub returns : goal.returns
returns c =
    let front = c.in-Some.front in
    let all = ap (λ cs. drop front.skipped cs) (c.deref.ensures.value ∙ c.in_ok-decoded.ensures.characters Unknown) ∙ front_is c.args.settings front c.args.bytes.now in
    let this = ap (λ f. front_characters (settings_shown c.args.settings) Unknown c.args.bytes.now (option_map front_shown f)) (sym c.in-Some.is) in
    subst (λ items. IfOk c.past.result (λ v. v.items ≡ items)) (all ∙ this) c.past.ensures
