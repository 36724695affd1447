-- In an encoding without a mark the order of a text stays unknown.
use Rattle.std.proofs.Common.{◌≡◌, ℕ, zero, suc, pos, negsuc, ℤ, Bool, true, false, not, nat_lt, List, length as len, Option, Some, None, is_some, if◌then◌else◌, refl, ap, ◌∙◌}
use Rattle.std.proofs.lemmas.Bool.{and_parts}
use Rattle.py_flat.specs.declared.fault.IoFault.{IoFault}
use Rattle.py_flat.specs.declared.fault.IoFault.TheVariants as fault
use Rattle.py_flat.specs.Refusals.{or_else}
use Rattle.py_plain.specs.declared.encoding.Encoding as coding
use Rattle.py_plain.specs.Units.{Order, Unknown}
use Rattle.py_plain_text.specs.TextFile.{TextFile}
use Rattle.py_plain_text.specs.TextStep.{answered_text}
use Rattle.py_plain_text.specs.Cookie.{Cookie, cookie_length, cookie_of, order_of, is_buildable, parsed}
use Rattle.py_plain_text.specs.Landing.{Stands, CantRestore, skips, is_restorable, start_place, place_inside, accepts_flags, is_valid_cookie}
use Rattle.py_plain_text.specs.TextCalls.{TextFileCall, Read, ReadLine, WriteText, SeekText, Tell, Reconfigure, SetChunkSize, Flush, Close, Detach, ChunkSize, Readable, Writable, Seekable, Closed, Encoding, Errors, OtherKind}
use Rattle.py_plain_text.specs.TextRefusals.{refusal, whence_refusal, cookie_refusal, end_refusal}
use Rattle.py_plain_text.specs.TextExact.{after_landing, sought_cookie, carried_out, answered, exact}
use Rattle.py_plain_text.proofs.Cookies.{flags-order}
use Rattle.py_plain_text.proofs.Standing.{LetThrough, or_none, test_none, not_false, all_none}
use Rattle.py_plain_text.proofs.Sought.{told_flags}

-- the order of a text
abbrev HasNone : TextFile → Type 0
HasNone file = file.place.order ≡ Unknown

none_said : (encoding : coding.Encoding) (flags : ℤ) → accepts_flags encoding flags ≡ true → order_of flags ≡ Unknown
none_said encoding (pos zero) is = refl
none_said encoding (pos (suc n)) is = absurd (cc)
none_said encoding (negsuc n) is = absurd (cc)

valid_by : (encoding : coding.Encoding) (bytes : List ℕ) (long : Bool) → is_valid_cookie encoding (if long then None else Some (cookie_of bytes)) ≡ true → order_of (cookie_of bytes).dec_flags ≡ Unknown
valid_by encoding bytes true is = absurd (cc)
valid_by encoding bytes false is = none_said encoding (cookie_of bytes).dec_flags (and_parts (is_buildable (cookie_of bytes)) (accepts_flags encoding (cookie_of bytes).dec_flags) is).1

-- a cookie that is accepted says none
accepted_order : (file : TextFile) (bytes : List ℕ) (whence : ℤ) → LetThrough file (SeekText bytes whence) → order_of (cookie_of bytes).dec_flags ≡ Unknown
accepted_order file bytes whence free =
    let wrong = or_none (whence_refusal whence) (or_else (cookie_refusal file bytes) (end_refusal file whence)) (all_none file (SeekText bytes whence) free).1 in
    let cookie = or_none (cookie_refusal file bytes) (end_refusal file whence) wrong.1 in
    valid_by file.settings.encoding bytes (nat_lt cookie_length (len bytes)) (not_false (is_valid_cookie file.settings.encoding (parsed bytes)) (test_none (not (is_valid_cookie file.settings.encoding (parsed bytes))) fault.InvalidCookie cookie.0))

sought_order : (file : TextFile) (bytes : List ℕ) (whence : ℤ) → LetThrough file (SeekText bytes whence) → HasNone file → order_of (sought_cookie file bytes whence).dec_flags ≡ Unknown
sought_order file bytes (pos zero) free none = accepted_order file bytes (pos zero) free
sought_order file bytes (pos (suc zero)) free none = ap order_of (told_flags file) ∙ (flags-order file.place.order ∙ none)
sought_order file bytes (pos (suc (suc zero))) free none = flags-order file.place.order ∙ none
sought_order file bytes (pos (suc (suc (suc n)))) free none = accepted_order file bytes (pos (suc (suc (suc n)))) free
sought_order file bytes (negsuc n) free none = accepted_order file bytes (negsuc n) free

landed_order : (file : TextFile) (cookie : Cookie) (skipped restorable : Bool) → (after_landing file cookie (if not skipped then Stands (start_place cookie) else if restorable then Stands (place_inside cookie) else CantRestore (start_place cookie))).1.place.order ≡ order_of cookie.dec_flags
landed_order file cookie false restorable = refl
landed_order file cookie true true = refl
landed_order file cookie true false = refl

answered_order : (file after : TextFile) (why : Option IoFault) (characters : List ℕ) → HasNone file → HasNone after → HasNone (answered_text file why characters after).1
answered_order file after (Some why) characters first second = first
answered_order file after None characters first second = second

-- an encoding that is given begins without one
with_none : (given : Bool) (order : Order) → order ≡ Unknown → (if given then Unknown else order) ≡ Unknown
with_none true order none = refl
with_none false order none = none

call_order : (file : TextFile) (call : TextFileCall) → LetThrough file call → HasNone file → HasNone (carried_out file call).1
call_order file (Read None) free none = answered_order file _ _ _ none none
call_order file (Read (Some size)) free none = answered_order file _ _ _ none none
call_order file (ReadLine limit) free none = answered_order file _ _ _ none none
call_order file (WriteText text) free none = none
call_order file (SeekText bytes whence) free none =
    let cookie : Cookie = sought_cookie file bytes whence in
    landed_order file cookie (skips cookie) (is_restorable file cookie) ∙ sought_order file bytes whence free none
call_order file (Reconfigure changes) free none = with_none (is_some changes.encoding) file.place.order none
call_order file (SetChunkSize size) free none = none
call_order file Close free none = none
call_order file Detach free none = none
call_order file Flush free none = none
call_order file Tell free none = none
call_order file ChunkSize free none = none
call_order file Readable free none = none
call_order file Writable free none = none
call_order file Seekable free none = none
call_order file Closed free none = none
call_order file Encoding free none = none
call_order file Errors free none = none
call_order file OtherKind free none = none

by_refusal : (file : TextFile) (call : TextFileCall) (why : Option IoFault) → refusal file call ≡ why → HasNone file → HasNone (answered file call why).1
by_refusal file call (Some why) is none = none
by_refusal file call None is none = call_order file call is none

pub exact_order : (file : TextFile) (call : TextFileCall) → file.place.order ≡ Unknown → (exact file call).1.place.order ≡ Unknown
exact_order file call none = by_refusal file call (refusal file call) refl none
