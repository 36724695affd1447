use Rattle.std.proofs.Common.{◌<◌, ◌∙◌, sym, nat_eq, nat_lt, nat_abs, arith}
use Rattle.std.proofs.lemmas.Bool.{and_parts}
use Rattle.std.proofs.lemmas.Bool.Decides.{nat_tests}
use Rattle.py_plain.specs.Units.{Unknown}
use Rattle.py_plain_text.specs.CookieView.{cookie_shown}
use Rattle.py_plain_text.specs.Landing.{skipped_by}
use Rattle.py_telling.proofs.Feeding.{skipped_within}
use Rattle.py_telling.proofs.restoring.restores.Goals as goal

pub returns-clause-inside : goal.returns-clause-inside
returns-clause-inside c = λ fits place.
    let cookie = cookie_shown c.args.cookie.now in
    let count = c.count_in_item.result in
    let parts = and_parts (nat_lt (skipped_by cookie) count) (nat_eq (skipped_by cookie) (nat_abs cookie.bytes_to_skip)) (sym c.skips_fewer.ensures ∙ fits) in
    let fewer : skipped_by cookie < count = grind (arith, nat_tests, parts.0) in
    skipped_within c.args.encoding c.args.handler c.requires c.args.cookie.now.need_eof Unknown place c.args.fed.now count (skipped_by cookie) (c.count_in_item.ensures Unknown place) fewer
