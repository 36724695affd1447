use Rattle.std.proofs.Common.{rules, ◌≡◌, ◌++◌, ◌∷◌, [], OnOk, Bool, true, false, ℕ, List, refl, subst, ◌∙◌}
use Rattle.std.specs.Int.{from_bool, w32, w64}
use Rattle.std.proofs.lemmas.Int.{to_z-of_z}
use mir.Val.{SFits}
use Rattle.py_plain_text.specs.Cookie.{cookie_bytes, flag_byte}
use Rattle.py_plain_text.specs.CookieView.{cookie_shown}
use Rattle.py_script.specs.Words.{spaced}
use Rattle.py_script.specs.ReplyLine.{hex_of}
use Rattle.py_script.proofs.reply_line.push_cookie.Goals as goal

flag_same : (flag : Bool) → from_bool flag ≡ flag_byte flag
flag_same true = refl
flag_same false = refl

pub returns : goal.returns
returns c =
    let start_fits : SFits w64 c.args.cookie.start_pos = search rules in
    let flags_fit : SFits w32 c.args.cookie.dec_flags = search rules in
    let fed_fits : SFits w32 c.args.cookie.bytes_to_feed = search rules in
    let skipped_fits : SFits w32 c.args.cookie.chars_to_skip = search rules in
    let last_fits : SFits w32 c.args.cookie.bytes_to_skip = search rules in
    let eof = c.from.ensures ∙ flag_same c.args.cookie.need_eof in
    let bytes : c.deref.result.now ≡ cookie_bytes (cookie_shown c.args.cookie) =
    rw (c.deref.ensures.value, c.in_ok-extend_from_slice-4.ensures.items, c.in_ok-push.ensures.items, c.in_ok-extend_from_slice-3.ensures.items, c.in_ok-extend_from_slice-2.ensures.items, c.in_ok-extend_from_slice.ensures.items, c.in_ok-bytes.ensures.items, c.to_le_bytes.ensures, c.to_le_bytes-2.ensures, c.to_le_bytes-3.ensures, c.to_le_bytes-4.ensures, c.to_le_bytes-5.ensures, eof, to_z-of_z w64 _ start_fits, to_z-of_z w32 _ flags_fit, to_z-of_z w32 _ fed_fits, to_z-of_z w32 _ skipped_fits, to_z-of_z w32 _ last_fits) refl in
    subst (λ (some : List ℕ). OnOk c.push_hex.result (c.push_hex.new.line.items ≡ c.args.line.now.items ++ spaced (hex_of some ∷ []))) bytes c.push_hex.ensures
