use Rattle.std.proofs.Common.{rules, ◌≡◌, ◌+◌, ◌-◌, ℕ, List, length, take, drop, sym, ap, ◌∙◌, arith}
use Rattle.std.specs.Prelude.{nat_abs}
use Rattle.std.specs.Int.{w32, w64}
use Rattle.std.proofs.lemmas.Int.{to_z-of_z}
use Rattle.std.proofs.lemmas.List.{length-take, length-drop}
use mir.Val.{SFits}
use Rattle.py_plain_text.specs.Cookie.{Cookie}
use Rattle.py_plain_text.specs.CookieView.{cookie_shown}
use Rattle.py_plain_text.specs.Landing.{start_of, fed_by}
use Rattle.py_plain_text.proofs.PlainLanding.{restorable_is, feeds_is, skips_is, slice_is}
use Rattle.py_plain_text.proofs.plain_seek.is_restorable.Goals as goal

pub returns-in-Some-clause-is : goal.returns-in-Some-clause-is
returns-in-Some-clause-is c = λ place.
    let cookie : Cookie = cookie_shown c.args.cookie.now in
    let bytes : List ℕ = c.args.bytes.now in
    let start : ℕ = c.unsigned_abs-start.result in
    let fed : ℕ = c.unsigned_abs-fed.result in
    let slice : List ℕ = take ((start + fed) - start) (drop start bytes) in
    let start_fits : SFits w64 c.args.cookie.now.start_pos = search rules in
    let fed_fits : SFits w32 c.args.cookie.now.bytes_to_feed = search rules in
    let skipped_fits : SFits w32 c.args.cookie.now.chars_to_skip = search rules in
    let size_fits : SFits w32 c.args.cookie.now.bytes_to_skip = search rules in
    let start_is : start ≡ start_of cookie = c.unsigned_abs-start.ensures.value ∙ ap nat_abs (to_z-of_z w64 c.args.cookie.now.start_pos start_fits) in
    let fed_is : fed ≡ fed_by cookie = c.unsigned_abs-fed.ensures.value ∙ ap nat_abs (to_z-of_z w32 c.args.cookie.now.bytes_to_feed fed_fits) in
    let skipped_is = c.unsigned_abs.ensures.value ∙ ap nat_abs (to_z-of_z w32 c.args.cookie.now.chars_to_skip skipped_fits) in
    let size_is = c.unsigned_abs-in-Some.ensures.value ∙ ap nat_abs (to_z-of_z w32 c.args.cookie.now.bytes_to_skip size_fits) in
    let within = c.feeds_some.ensures.within c.if-not-feeds_some.false in
    let long : length slice ≡ fed_by cookie = omega (arith, within.2, fed_is, length-take ((start + fed) - start) (drop start bytes), length-drop start bytes) in
    let feeds = feeds_is c.args.settings bytes place cookie start fed start_is fed_is (sym c.feeds_some.ensures.is ∙ c.if-not-feeds_some.false) in
    let only = rw c.in-Some.is at (c.in_ok-characters.ensures.only (start_of cookie)) in
    let skips = skips_is cookie c.deref.result.now c.in-Some.characters.items c.unsigned_abs.result c.unsigned_abs-in-Some.result c.skips_within.result c.skips_within.ensures c.deref.ensures.value skipped_is size_is in
    restorable_is c.args.settings bytes place cookie slice c.in-Some.characters.items c.skips_within.result c.requires.flags (slice_is bytes cookie start fed start_is fed_is) long feeds only skips
