-- A text that is told, written, sought and read by its calls.
use Rattle.std.proofs.Common.{◌≡◌, ℕ, zero, pos, nat_eq, Bool, true, false, not, List, [], ◌∷◌, length as len, find, Option, Some, None, refl, sym, ap, ◌∙◌}
use Rattle.std.proofs.lemmas.Bool.{cond-true}
use Rattle.py_flat.specs.declared.fault.IoFault.{IoFault}
use Rattle.py_flat.specs.declared.fault.IoFault.TheVariants as fault
use Rattle.py_flat.specs.declared.life.Life.{Life}
use Rattle.py_flat.specs.declared.life.Life.TheVariants as life
use Rattle.py_flat.specs.Calls.{FileReply, Text, Count, Cookie as CookieReply}
use Rattle.py_flat.specs.Refusals.{or_else, refused_if}
use Rattle.py_plain.specs.Units.{Order, Unknown}
use Rattle.py_plain_text.specs.TextFile.{TextFile, clean_at}
use Rattle.py_plain_text.specs.Cookie.{Cookie, boundary_cookie, cookie_bytes, flags_of}
use Rattle.py_plain_text.specs.Telling.{placed, gives_rest, boundaries, told_at, told}
use Rattle.py_plain_text.specs.TextCalls.{TextFileCall, Read, WriteText, SeekText, Tell}
use Rattle.py_plain_text.specs.TextRefusals.{refusal, life_refusal, dirty_refusal, argument_refusal}
use Rattle.py_plain_text.specs.TextExact.{text_sought, answered, exact}
use Rattle.py_plain_text.specs.TextExamples.{replies_of}
use Rattle.py_plain_text.specs.CookieLaws.{StandsInText, LiesInReach}
use Rattle.py_plain_text.proofs.Standing.{or_none, test_none, all_none}
use Rattle.py_plain_text.proofs.Building.{cookie_back}
use Rattle.py_plain_text.proofs.Inside.{same_way}
use Rattle.py_plain_text.proofs.Told.{gives_here}
use Rattle.py_plain_text.proofs.Fitting.{told_fits}
use Rattle.py_plain_text.proofs.Sought.{told_then_sought}
use Rattle.py_text_laws.specs.Written.{NeedsNoHandler, is_kept}
use Rattle.py_text_laws.proofs.ReadBack.{after, exact_written, lives_by, read_back}

-- what an accepted write says of the text: it is live
lives_written : (file : TextFile) (text : List ℕ) → refusal file (WriteText text) ≡ None → file.life ≡ life.Live
lives_written file text accepted = lives_by file.life (or_else (refused_if (not file.can.writable) fault.Unsupported) (argument_refusal file (WriteText text))) text accepted

-- and nothing was read from it
clean_written : (file : TextFile) (text : List ℕ) → refusal file (WriteText text) ≡ None → file.place.dirty ≡ false
clean_written file text accepted =
    test_none file.place.dirty fault.SeekFirst (or_none (dirty_refusal file) _ (all_none file (WriteText text) accepted).1).0

-- a text from which nothing was read is told by its byte
pub told_by_byte : (file : TextFile) → StandsInText file → file.place.dirty ≡ false → file.place.order ≡ Unknown → told file ≡ boundary_cookie file.place.at 0
told_by_byte file stands clean order =
    let still = stands.clean clean in
    let found : find (gives_rest file) (boundaries file) ≡ Some file.place.at = cond-true (gives_rest file file.place.at) _ _ (gives_here file still.0 still.1) in
    ap (told_at file) found
    ∙ (ap (λ (o : Order). boundary_cookie file.place.at (flags_of o)) (same_way (nat_eq file.place.at file.place.at) file.place.order)
    ∙ ap (λ (o : Order). boundary_cookie file.place.at (flags_of o)) order)

free_to_tell : (was : Life) (seekable : Bool) → was ≡ life.Live → seekable ≡ true → or_else (life_refusal was Tell) (or_else (refused_if (not seekable) fault.Unsupported) None) ≡ None
free_to_tell was seekable lives able = rw (lives, able) refl

pub exact_told : (file : TextFile) → file.life ≡ life.Live → file.can.seekable ≡ true → exact file Tell ≡ (CookieReply (cookie_bytes (told file)), file)
exact_told file lives able = ap (answered file Tell) (free_to_tell file.life file.can.seekable lives able)

-- what is answered with a cookie was not refused
pub answered_free : (file : TextFile) (call : TextFileCall) (why : Option IoFault) (bytes : List ℕ) → (answered file call why).0 ≡ CookieReply bytes → why ≡ None
answered_free file call None bytes is = refl
answered_free file call (Some fault) bytes is = absurd (cc)

-- a text in which another was written is sought to the cookie that was told before
pub exact_sought : (file : TextFile) (text : List ℕ) → StandsInText file → LiesInReach file → file.place.order ≡ Unknown → file.place.dirty ≡ false → file.life ≡ life.Live → file.can.seekable ≡ true → file.can.appending ≡ false → exact (after file text) (SeekText (cookie_bytes (told file)) (pos zero)) ≡ (CookieReply (cookie_bytes (told file)), placed (after file text) (clean_at file.place.at Unknown))
exact_sought file text stands reach order clean lives able forward =
    let cookie : List ℕ = cookie_bytes (told file) in
    let here : told file ≡ boundary_cookie file.place.at 0 = told_by_byte file stands clean order in
    let through : refusal (after file text) (SeekText cookie (pos zero)) ≡ None =
    answered_free file (SeekText cookie (pos zero)) (refusal file (SeekText cookie (pos zero))) cookie (told_then_sought file stands reach lives able forward order).0 in
    ap (answered (after file text) (SeekText cookie (pos zero))) through
    ∙ (ap (text_sought (after file text)) (cookie_back (told file) (told_fits file stands reach).fields)
    ∙ (ap (text_sought (after file text)) here
    ∙ ap (λ (c : Cookie). (CookieReply (cookie_bytes c), placed (after file text) (clean_at file.place.at Unknown))) (sym here)))

-- replies to calls, the first of which is known
replies_on : (file next : TextFile) (call : TextFileCall) (reply : FileReply) (calls : List TextFileCall) (replies : List FileReply) → exact file call ≡ (reply, next) → replies_of next calls ≡ replies → replies_of file (call ∷ calls) ≡ reply ∷ replies
replies_on file next call reply calls replies is behind =
    ap (λ (step : FileReply × TextFile). step.0 ∷ replies_of step.1 calls) is ∙ ap (λ (rs : List FileReply). reply ∷ rs) behind

pub told_to_read : (file : TextFile) (text : List ℕ) → StandsInText file → LiesInReach file → file.place.order ≡ Unknown → file.can.readable ≡ true → file.can.seekable ≡ true → file.can.appending ≡ false → NeedsNoHandler file.settings.encoding text → is_kept file.settings.newline text ≡ true → refusal file (WriteText text) ≡ None → replies_of file (Tell ∷ WriteText text ∷ SeekText (cookie_bytes (told file)) (pos zero) ∷ Read (Some (len text)) ∷ []) ≡ CookieReply (cookie_bytes (told file)) ∷ Count (len text) ∷ CookieReply (cookie_bytes (told file)) ∷ Text text ∷ []
told_to_read file text stands reach order readable able forward none kept accepted =
    let cookie : List ℕ = cookie_bytes (told file) in
    let lives = lives_written file text accepted in
    let back : TextFile = placed (after file text) (clean_at file.place.at Unknown) in
    let last : List TextFileCall = Read (Some (len text)) ∷ [] in
    let read : replies_of back last ≡ Text text ∷ [] = ap (λ (r : FileReply). r ∷ []) (read_back file text none kept accepted readable Unknown) in
    let seek = replies_on (after file text) back (SeekText cookie (pos zero)) (CookieReply cookie) last (Text text ∷ []) (exact_sought file text stands reach order (clean_written file text accepted) lives able forward) read in
    let write = replies_on file (after file text) (WriteText text) (Count (len text)) (SeekText cookie (pos zero) ∷ last) (CookieReply cookie ∷ Text text ∷ []) (exact_written file text accepted) seek in
    replies_on file file Tell (CookieReply cookie) (WriteText text ∷ SeekText cookie (pos zero) ∷ last) (Count (len text) ∷ CookieReply cookie ∷ Text text ∷ []) (exact_told file lives able) write
