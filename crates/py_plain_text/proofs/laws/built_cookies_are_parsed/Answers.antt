use Rattle.std.proofs.Common.{rules}
use Rattle.py_plain_text.specs.CookieView.{cookie_shown}
use Rattle.py_plain_text.proofs.Building.{FieldsFit, built_back}
use Rattle.py_plain_text.proofs.laws.built_cookies_are_parsed.Goals as goal

pub returns : goal.returns
returns c = λ bytes is.
    let fit : FieldsFit (cookie_shown c.args.cookie) = record { start_pos = search rules; dec_flags = search rules; bytes_to_feed = search rules; chars_to_skip = search rules; bytes_to_skip = search rules } in
    built_back (cookie_shown c.args.cookie) fit bytes is
