-- A cookie that is sought after other calls.
use Rattle.std.proofs.Common.{◌≡◌, ℕ, zero, ℤ, pos, ◌&&◌, Bool, true, false, List, [], ◌∷◌, Option, Some, None, refl, sym, ap, ◌∙◌, subst}
use Rattle.py_flat.specs.declared.fault.IoFault.{IoFault}
use Rattle.py_flat.specs.declared.life.Life.TheVariants as life
use Rattle.py_flat.specs.Bytes.{first_of}
use Rattle.py_flat.specs.Calls.{FileReply, Cookie as CookieReply}
use Rattle.py_plain.specs.Units.{Unknown}
use Rattle.py_plain_text.specs.TextFile.{TextPlace, TextFile}
use Rattle.py_plain_text.specs.Rest.{Rest, text_rest}
use Rattle.py_plain_text.specs.Cookie.{Cookie, cookie_of, cookie_bytes}
use Rattle.py_plain_text.specs.Landing.{Landed, Stands, CantRestore, lands}
use Rattle.py_plain_text.specs.Telling.{placed, told}
use Rattle.py_plain_text.specs.TextStep.{answered_text, after_text_read, text_read, text_line}
use Rattle.py_plain_text.specs.TextCalls.{TextFileCall, Read, ReadLine, WriteText, SeekText, Tell, Reconfigure, SetChunkSize, Flush, Close, Detach}
use Rattle.py_plain_text.specs.TextRefusals.{refusal}
use Rattle.py_plain_text.specs.TextExact.{sought_cookie, after_landing, carried_out, answered, exact}
use Rattle.py_plain_text.specs.TextExamples.{text_after}
use Rattle.py_plain_text.specs.CookieLaws.{StandsInText, LiesInReach}
use Rattle.py_plain_text.proofs.Sought.{told_then_sought}
use Rattle.py_text_laws.specs.Back.{only_moves, only_move}
use Rattle.py_text_laws.proofs.SoughtBack.{answered_free}

-- What other calls leave.

-- all of a text is as it was but its place
abbrev OnlyMoved : TextFile → TextFile → Type 0
OnlyMoved before after = after ≡ placed before after.place

moved_reading : (file : TextFile) (why : Option IoFault) (characters : List ℕ) (after : TextFile) → OnlyMoved file after → OnlyMoved file (answered_text file why characters after).1
moved_reading file (Some why) characters after moved = refl
moved_reading file None characters after moved = moved

moved_to : (file : TextFile) (size : Option ℕ) (characters : List ℕ) → OnlyMoved file (after_text_read file size characters)
moved_to file None characters = refl
moved_to file (Some size) characters = refl

moved_landing : (file : TextFile) (goal : Cookie) (landed : Landed) → OnlyMoved file (after_landing file goal landed).1
moved_landing file goal (Stands place) = refl
moved_landing file goal (CantRestore place) = refl

moved_carrying : (file : TextFile) (call : TextFileCall) → only_moves call ≡ true → OnlyMoved file (carried_out file call).1
moved_carrying file (Read size) is = moved_reading file _ (first_of size (text_rest file).characters) (after_text_read file size (first_of size (text_rest file).characters)) (moved_to file size (first_of size (text_rest file).characters))
moved_carrying file (ReadLine limit) is = moved_reading file _ _ _ refl
moved_carrying file (WriteText text) is = absurd (cc)
moved_carrying file (SeekText bytes whence) is = moved_landing file (sought_cookie file bytes whence) (lands file (sought_cookie file bytes whence))
moved_carrying file (Reconfigure changes) is = absurd (cc)
moved_carrying file (SetChunkSize size) is = absurd (cc)
moved_carrying file Close is = absurd (cc)
moved_carrying file Detach is = absurd (cc)
moved_carrying file call is = refl

moved_answering : (file : TextFile) (call : TextFileCall) (why : Option IoFault) → only_moves call ≡ true → OnlyMoved file (answered file call why).1
moved_answering file call (Some why) is = refl
moved_answering file call None is = moved_carrying file call is

both : (first second : Bool) → (first && second) ≡ true → (first ≡ true) × (second ≡ true)
both true second is = (refl, is)
both false second is = absurd (cc)

moved_after : (file : TextFile) (calls : List TextFileCall) → only_move calls ≡ true → OnlyMoved file (text_after file calls)
moved_after file [] is = refl
moved_after file (call ∷ calls) is =
    let parts = both (only_moves call) (only_move calls) is in
    let next : TextFile = (exact file call).1 in
    moved_after next calls parts.1 ∙ ap (λ (own : TextFile). placed own (text_after next calls).place) (moved_answering file call (refusal file call) parts.0)

-- The cookie.

landing_from : (file : TextFile) (place : TextPlace) (goal : Cookie) (landed : Landed) → after_landing (placed file place) goal landed ≡ after_landing file goal landed
landing_from file place goal (Stands there) = refl
landing_from file place goal (CantRestore there) = refl

-- a seek that isn't refused goes to the same place, wherever a text stands
pub sought_from : (file : TextFile) (place : TextPlace) (bytes : List ℕ) → refusal file (SeekText bytes (pos zero)) ≡ None → exact (placed file place) (SeekText bytes (pos zero)) ≡ exact file (SeekText bytes (pos zero))
sought_from file place bytes free =
    ap (answered (placed file place) (SeekText bytes (pos zero))) free
    ∙ (landing_from file place (cookie_of bytes) (lands file (cookie_of bytes))
    ∙ sym (ap (answered file (SeekText bytes (pos zero))) free))

-- a text that other calls moved is put back by the cookie that it told
pub record BroughtBack (file now : TextFile) : Type 0 where
  pub reply : (exact now (SeekText (cookie_bytes (told file)) (pos zero))).0 ≡ CookieReply (cookie_bytes (told file))
  pub rest : text_rest (exact now (SeekText (cookie_bytes (told file)) (pos zero))).1 ≡ text_rest file

pub brought_back : (file : TextFile) (calls : List TextFileCall) → StandsInText file → LiesInReach file → file.life ≡ life.Live → file.can.seekable ≡ true → file.can.appending ≡ false → file.place.order ≡ Unknown → only_move calls ≡ true → BroughtBack file (text_after file calls)
brought_back file calls stands reach lives able forward order is =
    let cookie : List ℕ = cookie_bytes (told file) in
    let back = told_then_sought file stands reach lives able forward order in
    let free = answered_free file (SeekText cookie (pos zero)) (refusal file (SeekText cookie (pos zero))) cookie back.0 in
    let place : TextPlace = (text_after file calls).place in
    let same = sought_from file place cookie free in
    subst (BroughtBack file) (sym (moved_after file calls is))
    (record {
      reply = ap (λ (step : FileReply × TextFile). step.0) same ∙ back.0;
      rest = ap (λ (step : FileReply × TextFile). text_rest step.1) same ∙ back.1;
    })
