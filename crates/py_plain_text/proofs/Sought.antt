-- A text that is sought to the cookie that it told has the same left.
use Rattle.std.proofs.Common.{◌≡◌, ℕ, zero, pos, nat_eq, Bool, true, false, not, ◌&&◌, ◌||◌, List, find, Option, Some, None, refl, sym, ap, subst, ◌∙◌}
use Rattle.py_flat.specs.declared.fault.IoFault.{IoFault}
use Rattle.py_flat.specs.declared.fault.IoFault.TheVariants as fault
use Rattle.py_flat.specs.declared.life.Life.{Life}
use Rattle.py_flat.specs.declared.life.Life.TheVariants as life
use Rattle.py_flat.specs.Calls.{FileReply, Cookie as CookieReply}
use Rattle.py_flat.specs.Refusals.{or_else, refused_if}
use Rattle.py_plain.specs.Units.{Order, Unknown}
use Rattle.py_plain_text.specs.TextFile.{TextFile}
use Rattle.py_plain_text.specs.Rest.{text_rest}
use Rattle.py_plain_text.specs.Cookie.{Cookie, cookie_bytes, flags_of, parsed}
use Rattle.py_plain_text.specs.Landing.{Landed, Stands, CantRestore, accepts_flags, is_valid_cookie, lands}
use Rattle.py_plain_text.specs.Telling.{Inside, gives_rest, boundaries, inside_of, told_inside, told_at, told}
use Rattle.py_plain_text.specs.TextCalls.{SeekText}
use Rattle.py_plain_text.specs.TextRefusals.{refusal, life_refusal}
use Rattle.py_plain_text.specs.TextExact.{after_landing, text_sought, carried_out, answered, exact}
use Rattle.py_plain_text.specs.CookieLaws.{GivesBack, StandsInText, LiesInReach}
use Rattle.py_plain_text.proofs.Building.{cookie_back}
use Rattle.py_plain_text.proofs.Inside.{same_way}
use Rattle.py_plain_text.proofs.Told.{told_back}
use Rattle.py_plain_text.proofs.Fitting.{told_fits, told_parsed}

-- a cookie that is told says the text's own order
inside_flags : (file : TextFile) (found : Option Inside) → (told_inside file found).dec_flags ≡ pos (flags_of file.place.order)
inside_flags file None = refl
inside_flags file (Some inside) = refl

flags_at : (file : TextFile) (found : Option ℕ) → (told_at file found).dec_flags ≡ pos (flags_of file.place.order)
flags_at file (Some boundary) = ap (λ (o : Order). pos (flags_of o)) (same_way (nat_eq boundary file.place.at) file.place.order)
flags_at file None = inside_flags file (inside_of file file.place.front)

pub told_flags : (file : TextFile) → (told file).dec_flags ≡ pos (flags_of file.place.order)
told_flags file = flags_at file (find (gives_rest file) (boundaries file))

told_valid : (file : TextFile) → StandsInText file → LiesInReach file → file.place.order ≡ Unknown → is_valid_cookie file.settings.encoding (parsed (cookie_bytes (told file))) ≡ true
told_valid file stands reach order =
    ap (is_valid_cookie file.settings.encoding) (told_parsed file stands reach)
    ∙ (ap (λ (b : Bool). b && accepts_flags file.settings.encoding (told file).dec_flags) (told_fits file stands reach).natural
    ∙ (ap (accepts_flags file.settings.encoding) (told_flags file)
    ∙ ap (λ (o : Order). accepts_flags file.settings.encoding (pos (flags_of o))) order))

free_by : (was : Life) (seekable appending valid : Bool) (cookie : List ℕ) → was ≡ life.Live → seekable ≡ true → appending ≡ false → valid ≡ true → or_else (life_refusal was (SeekText cookie (pos zero))) (or_else (refused_if (not seekable || (appending || false)) fault.Unsupported) (or_else None (or_else (refused_if (not valid) fault.InvalidCookie) None))) ≡ None
free_by was seekable appending valid cookie lives able forward is = rw (lives, able, forward, is) refl

-- a seek to it is let through
let_through : (file : TextFile) → StandsInText file → LiesInReach file → file.life ≡ life.Live → file.can.seekable ≡ true → file.can.appending ≡ false → file.place.order ≡ Unknown → refusal file (SeekText (cookie_bytes (told file)) (pos zero)) ≡ None
let_through file stands reach lives able forward order =
    free_by file.life file.can.seekable file.can.appending (is_valid_cookie file.settings.encoding (parsed (cookie_bytes (told file)))) (cookie_bytes (told file)) lives able forward (told_valid file stands reach order)

-- where a text was put
abbrev Back : TextFile → FileReply → TextFile → Type 0
Back file reply after = (reply ≡ CookieReply (cookie_bytes (told file))) × (text_rest after ≡ text_rest file)

landing_back : (file : TextFile) (landed : Landed) → GivesBack file landed → Back file (after_landing file (told file) landed).0 (after_landing file (told file) landed).1
landing_back file (Stands place) back = (refl, back)
landing_back file (CantRestore place) back = absurd back

sought_back : (file : TextFile) → StandsInText file → LiesInReach file → Back file (carried_out file (SeekText (cookie_bytes (told file)) (pos zero))).0 (carried_out file (SeekText (cookie_bytes (told file)) (pos zero))).1
sought_back file stands reach =
    subst (λ (c : Cookie). Back file (text_sought file c).0 (text_sought file c).1) (sym (cookie_back (told file) (told_fits file stands reach).fields))
    (landing_back file (lands file (told file)) (told_back file stands).0)

pub told_then_sought : (file : TextFile) → StandsInText file → LiesInReach file → file.life ≡ life.Live → file.can.seekable ≡ true → file.can.appending ≡ false → file.place.order ≡ Unknown → Back file (exact file (SeekText (cookie_bytes (told file)) (pos zero))).0 (exact file (SeekText (cookie_bytes (told file)) (pos zero))).1
told_then_sought file stands reach lives able forward order =
    subst (λ (why : Option IoFault). Back file (answered file (SeekText (cookie_bytes (told file)) (pos zero)) why).0 (answered file (SeekText (cookie_bytes (told file)) (pos zero)) why).1) (sym (let_through file stands reach lives able forward order))
    (sought_back file stands reach)
