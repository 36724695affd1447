-- What the plain text answers with a cookie is what the model says.
use Rattle.std.proofs.Common.{◌≡◌, inl, inr, ℕ, ℤ, List, Bool, true, false, ◌&&◌, is_none, Option, Some, None, Ok, if◌then◌else◌, refl, sym, ap, ◌∙◌}
use Rattle.py_flat.specs.declared.fault.IoFault.{IoFault}
use Rattle.py_flat.specs.declared.fault.IoFault.TheVariants as fault
use Rattle.py_flat.specs.declared.life.Life.TheVariants as life
use Rattle.py_flat.specs.Calls.{FileReply, Cookie as CookieReply, Refused}
use Rattle.py_flat.specs.BinaryStep.{is_live}
use Rattle.py_plain_text.specs.declared.plain_text.PlainText.TheInside.{Inside}
use Rattle.py_plain_text.specs.declared.text_cookie.TextIOCookie.{TextIOCookie}
use Rattle.py_plain_text.specs.TextFile.{TextFile}
use Rattle.py_plain_text.specs.TextAllowed.{does_work}
use Rattle.py_plain_text.specs.Cookie.{Cookie, cookie_bytes}
use Rattle.py_plain_text.specs.CookieView.{cookie_shown}
use Rattle.py_plain_text.specs.Landing.{lands}
use Rattle.py_plain_text.specs.Telling.{told}
use Rattle.py_plain_text.specs.TextCalls.{SeekText, Tell}
use Rattle.py_plain_text.specs.TextRefusals.{refusal}
use Rattle.py_plain_text.specs.TextExact.{sought_cookie, text_sought, answered, exact}
use Rattle.py_plain_text.specs.PlainSteps.{PlainAnswer, PlainStep}
use Rattle.py_plain_text.specs.PlainCookies.{cookie_reply, text_at, sought_refusal}
use Rattle.py_plain_text.specs.PlainView.{shown}

told_exactly : (file : TextFile) (cookie : Cookie) → refusal file Tell ≡ None → cookie ≡ told file → (CookieReply (cookie_bytes cookie), file) ≡ exact file Tell
told_exactly file cookie free is = ap (λ (k : Cookie). (CookieReply (cookie_bytes k), file)) is ∙ sym (ap (answered file Tell) free)

free_to_tell : (text : Inside) → text.closed ≡ false → refusal (shown text) Tell ≡ None
free_to_tell text live = rw live refl

-- a live text told its place
pub tells : (text : Inside) (bytes : List ℕ) (cookie : TextIOCookie) → text.closed ≡ false → bytes ≡ text.bytes.items → cookie_shown cookie ≡ told (text_at bytes text.settings text.place) → PlainAnswer (shown text) Tell (cookie_reply (Ok cookie)) (shown text)
tells text bytes cookie live same is =
    inr (told_exactly (shown text) (cookie_shown cookie) (free_to_tell text live) (is ∙ ap (λ (bs : List ℕ). told (text_at bs text.settings text.place)) same))

-- Seeking.

-- what a live text refuses is what its bytes, its settings and its place say
refused_as : (text : Inside) (cookie : List ℕ) (whence : ℤ) → text.closed ≡ false → refusal (shown text) (SeekText cookie whence) ≡ sought_refusal (text_at text.bytes.items text.settings text.place) cookie whence
refused_as text cookie whence live = rw live refl

refused_with : (text : Inside) (bytes cookie : List ℕ) (whence number : ℤ) (why : Option IoFault) → text.closed ≡ false → bytes ≡ text.bytes.items → number ≡ whence → sought_refusal (text_at bytes text.settings text.place) cookie number ≡ why → refusal (shown text) (SeekText cookie whence) ≡ why
refused_with text bytes cookie whence number why live same counts is =
    refused_as text cookie whence live
    ∙ (ap (λ (bs : List ℕ). sought_refusal (text_at bs text.settings text.place) cookie whence) (sym same)
    ∙ (ap (λ (z : ℤ). sought_refusal (text_at bytes text.settings text.place) cookie z) (sym counts) ∙ is))

-- a seek that is refused
pub seek_refused : (text : Inside) (bytes cookie : List ℕ) (whence number : ℤ) (why : IoFault) → text.closed ≡ false → bytes ≡ text.bytes.items → number ≡ whence → sought_refusal (text_at bytes text.settings text.place) cookie number ≡ Some why → PlainStep (shown text) (SeekText cookie whence) (Refused why) (shown text)
seek_refused text bytes cookie whence number why live same counts is =
    inr (sym (ap (answered (shown text) (SeekText cookie whence)) (refused_with text bytes cookie whence number (Some why) live same counts is)))

works : (text : Inside) (cookie : List ℕ) (whence : ℤ) → text.closed ≡ false → refusal (shown text) (SeekText cookie whence) ≡ None → does_work (shown text) (SeekText cookie whence) ≡ true
works text cookie whence live free =
    ap (λ (b : Bool). is_live (if b then life.Closed else life.Live) && (is_none (refusal (shown text) (SeekText cookie whence)) && true)) live
    ∙ ap (λ (r : Option IoFault). is_none r && true) free

-- a seek for which there was no memory
pub seek_starved : (text : Inside) (bytes cookie : List ℕ) (whence number : ℤ) → text.closed ≡ false → bytes ≡ text.bytes.items → number ≡ whence → sought_refusal (text_at bytes text.settings text.place) cookie number ≡ None → PlainStep (shown text) (SeekText cookie whence) (Refused fault.NoMemory) (shown text)
seek_starved text bytes cookie whence number live same counts is =
    inl (refl, works text cookie whence live (refused_with text bytes cookie whence number None live same counts is), refl)

-- a text lands by its bytes and its settings
pub lands_as : (text : Inside) (bytes : List ℕ) (cookie : Cookie) → bytes ≡ text.bytes.items → lands (shown text) cookie ≡ lands (text_at bytes text.settings text.place) cookie
lands_as text bytes cookie same = ap (λ (bs : List ℕ). lands (text_at bs text.settings text.place) cookie) (sym same)

-- and goes to the cookie that they say
pub sought_as : (text : Inside) (bytes cookie : List ℕ) (whence number : ℤ) → bytes ≡ text.bytes.items → number ≡ whence → sought_cookie (text_at bytes text.settings text.place) cookie number ≡ sought_cookie (shown text) cookie whence
sought_as text bytes cookie whence number same counts =
    ap (λ (bs : List ℕ). sought_cookie (text_at bs text.settings text.place) cookie number) same
    ∙ ap (λ (z : ℤ). sought_cookie (text_at text.bytes.items text.settings text.place) cookie z) counts

-- a seek that came out
pub seek_done : (text : Inside) (bytes cookie : List ℕ) (whence number : ℤ) (sought : Cookie) (reply : FileReply) (after : TextFile) → text.closed ≡ false → bytes ≡ text.bytes.items → number ≡ whence → sought_refusal (text_at bytes text.settings text.place) cookie number ≡ None → sought ≡ sought_cookie (shown text) cookie whence → (reply, after) ≡ text_sought (shown text) sought → PlainStep (shown text) (SeekText cookie whence) reply after
seek_done text bytes cookie whence number sought reply after live same counts free is done =
    inr (done
    ∙ (ap (text_sought (shown text)) is
    ∙ sym (ap (answered (shown text) (SeekText cookie whence)) (refused_with text bytes cookie whence number None live same counts free))))
