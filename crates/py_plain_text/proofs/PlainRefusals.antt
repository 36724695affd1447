-- What the plain text's refusals of a seek say.
use Rattle.std.proofs.Common.{◌≡◌, ℕ, zero, suc, ◌≤◌, ℤ, pos, negsuc, Bool, true, false, not, ◌&&◌, nat_lt, List, length as len, Option, Some, None, is_some, if◌then◌else◌, refl, sym, ap, ◌∙◌}
use Rattle.std.proofs.lemmas.Bool.{and_parts, le-ltb}
use Rattle.py_flat.specs.declared.fault.IoFault.{IoFault}
use Rattle.py_flat.specs.declared.fault.IoFault.TheVariants as fault
use Rattle.py_flat.specs.Limits.{greatest_place}
use Rattle.py_flat.specs.Refusals.{or_else, refused_if}
use Rattle.py_plain.specs.declared.encoding.Encoding.{Encoding}
use Rattle.py_plain_text.specs.declared.text_cookie.TextIOCookie.{TextIOCookie}
use Rattle.py_plain_text.specs.TextFile.{TextFile}
use Rattle.py_plain_text.specs.Cookie.{Cookie, cookie_length, cookie_of, parsed, is_natural, is_buildable}
use Rattle.py_plain_text.specs.CookieView.{cookie_shown}
use Rattle.py_plain_text.specs.Landing.{accepts_flags, is_valid_cookie}
use Rattle.py_plain_text.specs.TextRefusals.{counts_on, are_zeros, whence_refusal, cookie_refusal, end_refusal, argument_refusal}
use Rattle.py_plain_text.specs.TextCalls.{SeekText}
use Rattle.py_plain_text.specs.PlainCookies.{IsSound, sought_refusal}

-- a list of bytes that isn't too long has no end past the greatest place
pub end_none : (file : TextFile) (whence : ℤ) → len file.bytes ≤ greatest_place → end_refusal file whence ≡ None
end_none file (pos zero) less = refl
end_none file (pos (suc zero)) less = refl
end_none file (pos (suc (suc zero))) less = ap (λ (b : Bool). refused_if b fault.TooFar) (le-ltb greatest_place (len file.bytes) less)
end_none file (pos (suc (suc (suc n)))) less = refl
end_none file (negsuc n) less = refl

or_none : (first : Option IoFault) → or_else first None ≡ first
or_none (Some why) = refl
or_none None = refl

refused_by : (first why behind : Option IoFault) → is_some first ≡ false → behind ≡ None → why ≡ or_else first (or_else why behind)
refused_by (Some other) why behind none last = absurd (cc)
refused_by None why behind none last = sym (ap (or_else why) last ∙ or_none why)

-- where the whence is known, the cookie decides
pub arguments_refused : (file : TextFile) (cookie : List ℕ) (whence : ℤ) (first why : Option IoFault) → first ≡ whence_refusal whence → is_some first ≡ false → why ≡ cookie_refusal file cookie → len file.bytes ≤ greatest_place → why ≡ argument_refusal file (SeekText cookie whence)
arguments_refused file cookie whence first why known some is less =
    refused_by first why (end_refusal file whence) some (end_none file whence less)
    ∙ (ap (λ (f : Option IoFault). or_else f (or_else why (end_refusal file whence))) known
    ∙ ap (λ (f : Option IoFault). or_else (whence_refusal whence) (or_else f (end_refusal file whence))) is)

none_first : (first later : Option IoFault) → or_else first later ≡ None → (first ≡ None) × (later ≡ None)
none_first (Some why) later none = absurd (cc)
none_first None later none = (refl, none)

not_refused : (test : Bool) (why : IoFault) → refused_if (not test) why ≡ None → test ≡ true
not_refused true why none = refl
not_refused false why none = absurd (cc)

no_order : (encoding : Encoding) (flags : ℤ) → accepts_flags encoding flags ≡ true → flags ≡ pos 0
no_order encoding (pos zero) is = refl
no_order encoding (pos (suc n)) is = absurd (cc)
no_order encoding (negsuc n) is = absurd (cc)

valid_by : (encoding : Encoding) (cookie : Cookie) (long : Bool) → is_valid_cookie encoding (if long then None else Some cookie) ≡ true → (is_buildable cookie ≡ true) × (accepts_flags encoding cookie.dec_flags ≡ true)
valid_by encoding cookie true is = absurd (cc)
valid_by encoding cookie false is = and_parts (is_buildable cookie) (accepts_flags encoding cookie.dec_flags) is

first_of_five : (a b c d e : Bool) → (a && b && c && d && e) ≡ true → a ≡ true
first_of_five true b c d e is = refl
first_of_five false b c d e is = absurd (cc)

natural_start : (cookie : Cookie) → is_buildable cookie ≡ true → is_natural cookie.start_pos ≡ true
natural_start cookie is =
    first_of_five (is_natural cookie.start_pos) (is_natural cookie.dec_flags) (is_natural cookie.bytes_to_feed) (is_natural cookie.chars_to_skip) (is_natural cookie.bytes_to_skip) is

-- a cookie that isn't refused is one that a text can land by
pub accepted_sound : (file : TextFile) (bytes : List ℕ) (whence : ℤ) (cookie : TextIOCookie) → sought_refusal file bytes whence ≡ None → cookie_shown cookie ≡ cookie_of bytes → IsSound cookie
accepted_sound file bytes whence cookie none is =
    let encoding : Encoding = file.settings.encoding in
    let arguments = (none_first (refused_if (counts_on whence && not (are_zeros bytes)) fault.Unsupported) (or_else (whence_refusal whence) (or_else (cookie_refusal file bytes) (end_refusal file whence))) none).1 in
    let behind = (none_first (whence_refusal whence) (or_else (cookie_refusal file bytes) (end_refusal file whence)) arguments).1 in
    let free = (none_first (cookie_refusal file bytes) (end_refusal file whence) behind).0 in
    let known : is_valid_cookie encoding (parsed bytes) ≡ true = not_refused (is_valid_cookie encoding (parsed bytes)) fault.InvalidCookie free in
    let this : is_valid_cookie encoding (if nat_lt cookie_length (len bytes) then None else Some (cookie_shown cookie)) ≡ true =
    ap (λ (k : Cookie). is_valid_cookie encoding (if nat_lt cookie_length (len bytes) then None else Some k)) is ∙ known in
    let valid = valid_by encoding (cookie_shown cookie) (nat_lt cookie_length (len bytes)) this in
    record {
      natural = natural_start (cookie_shown cookie) valid.0;
      flags = no_order encoding cookie.dec_flags valid.1;
    }
