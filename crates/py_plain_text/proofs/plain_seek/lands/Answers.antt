use Rattle.std.proofs.Common.{rules, ◌≡◌, true, sym, ap, ◌∙◌}
use Rattle.std.specs.Prelude.{nat_abs}
use Rattle.std.specs.Int.{w32, w64}
use Rattle.std.proofs.lemmas.Int.{to_z-of_z}
use mir.Val.{SFits}
use Rattle.py_plain_text.specs.TextFile.{TextPlace, clean_at}
use Rattle.py_plain.specs.Units.{Unknown}
use Rattle.py_plain_text.specs.Cookie.{Cookie, order_of}
use Rattle.py_plain_text.specs.CookieView.{cookie_shown}
use Rattle.py_plain_text.specs.Landing.{Stands, CantRestore, start_of, skips}
use Rattle.py_plain_text.specs.PlainCookies.{text_at}
use Rattle.py_plain_text.proofs.Inside.{landed}
use Rattle.py_plain_text.proofs.PlainLanding.{cant_restore, skips_some, place_is}
use Rattle.py_plain_text.proofs.plain_seek.lands.Goals as goal

pub returns-then-not-branch-clause-lands : goal.returns-then-not-branch-clause-lands
returns-then-not-branch-clause-lands c = λ place.
    let cookie : Cookie = cookie_shown c.args.cookie.now in
    let start_fits : SFits w64 c.args.cookie.now.start_pos = search rules in
    let skipped_fits : SFits w32 c.args.cookie.now.chars_to_skip = search rules in
    let start = c.unsigned_abs-start.ensures.value ∙ ap nat_abs (to_z-of_z w64 c.args.cookie.now.start_pos start_fits) in
    let count = c.unsigned_abs-skipped.ensures.value ∙ ap nat_abs (to_z-of_z w32 c.args.cookie.now.chars_to_skip skipped_fits) in
    let skipped : skips cookie ≡ true = skips_some cookie c.unsigned_abs-skipped.result count c.if-skipped-eq0.false in
    cant_restore (text_at c.args.bytes.now c.args.settings place) cookie skipped (sym (c.in_ok-is_restorable.ensures.is place) ∙ c.if-not-branch.true)
    ∙ ap (λ (p : TextPlace). CantRestore p)
    (ap (λ o. clean_at (start_of cookie) (order_of o)) c.requires.flags
    ∙ (ap (λ n. clean_at n Unknown) (sym start) ∙ sym c.clean_at-then-not-branch.ensures))

pub returns-clause-lands : goal.returns-clause-lands
returns-clause-lands c = λ place.
    let cookie : Cookie = cookie_shown c.args.cookie.now in
    let start_fits : SFits w64 c.args.cookie.now.start_pos = search rules in
    let fed_fits : SFits w32 c.args.cookie.now.bytes_to_feed = search rules in
    let skipped_fits : SFits w32 c.args.cookie.now.chars_to_skip = search rules in
    let start = c.unsigned_abs-start.ensures.value ∙ ap nat_abs (to_z-of_z w64 c.args.cookie.now.start_pos start_fits) in
    let fed = c.unsigned_abs-length.ensures.value ∙ ap nat_abs (to_z-of_z w32 c.args.cookie.now.bytes_to_feed fed_fits) in
    let count = c.unsigned_abs-skipped.ensures.value ∙ ap nat_abs (to_z-of_z w32 c.args.cookie.now.chars_to_skip skipped_fits) in
    let skipped : skips cookie ≡ true = skips_some cookie c.unsigned_abs-skipped.result count c.if-skipped-eq0.false in
    landed (text_at c.args.bytes.now c.args.settings place) cookie skipped (sym (c.in_ok-is_restorable.ensures.is place) ∙ c.if-not-branch.false)
    ∙ ap (λ (p : TextPlace). Stands p)
    (place_is cookie c.unsigned_abs-start.result c.unsigned_abs-length.result c.unsigned_abs-skipped.result c.requires.flags start fed count)
