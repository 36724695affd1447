use Rattle.std.proofs.Common.{rules, ◌≡◌, refl, ◌∙◌, sym, true, Some, None, Bool, false}
use Rattle.std.specs.Int.{from_bool, w32, w64}
use Rattle.std.proofs.lemmas.Int.{to_z-of_z}
use mir.Val.{SFits}
use Rattle.std.proofs.lemmas.Bool.{cond-true}
use Rattle.py_plain_text.specs.Cookie.{Cookie, is_buildable, built, cookie_bytes, flag_byte}
use Rattle.py_plain_text.specs.CookieView.{cookie_shown}
use Rattle.py_plain_text.proofs.text_cookie.TextIOCookie.build.Goals as goal

flag_same : (flag : Bool) → from_bool flag ≡ flag_byte flag
flag_same true = refl
flag_same false = refl

pub returns : goal.returns
returns c =
    let cookie : Cookie = cookie_shown c.args.self.now in
    let buildable : is_buildable cookie ≡ true = sym c.is_buildable.ensures ∙ c.if-not-is_buildable.false in
    let bytes : built cookie ≡ Some (cookie_bytes cookie) = cond-true (is_buildable cookie) (Some (cookie_bytes cookie)) None buildable in
    let first = c.copy_from_slice.ensures.after ∙ c.to_le_bytes.ensures in
    let flags = c.copy_from_slice-2.ensures.after ∙ c.to_le_bytes-2.ensures in
    let fed = c.copy_from_slice-3.ensures.after ∙ c.to_le_bytes-3.ensures in
    let skipped = c.copy_from_slice-4.ensures.after ∙ c.to_le_bytes-4.ensures in
    let last = c.copy_from_slice-5.ensures.after ∙ c.to_le_bytes-5.ensures in
    let eof = c.from.ensures ∙ flag_same c.args.self.now.need_eof in
    let start_fits : SFits w64 c.args.self.now.start_pos = search rules in
    let flags_fit : SFits w32 c.args.self.now.dec_flags = search rules in
    let fed_fits : SFits w32 c.args.self.now.bytes_to_feed = search rules in
    let skipped_fits : SFits w32 c.args.self.now.chars_to_skip = search rules in
    let last_fits : SFits w32 c.args.self.now.bytes_to_skip = search rules in
    rw (bytes, first, flags, fed, skipped, last, eof, to_z-of_z w64 _ start_fits, to_z-of_z w32 _ flags_fit, to_z-of_z w32 _ fed_fits, to_z-of_z w32 _ skipped_fits, to_z-of_z w32 _ last_fits) (record { bytes = refl })
