-- A session over a raw that tells, as an opener opens it, is the model's file of the raw's bytes.
use Rattle.std.proofs.Common.{◌≡◌, ℕ, Bool, true, false, IsTrue, List, length, Option, Some, None, ap, ◌∙◌, if◌then◌else◌}
use Rattle.py_flat.specs.declared.life.Life.{Life}
use Rattle.py_flat.specs.declared.life.Life.TheVariants as life
use Rattle.py_flat.specs.Bytes.{lay}
use Rattle.py_flat.specs.Owed.{Owed}
use Rattle.py_flat.specs.FlatFile.{Abilities, FlatFile}
use Rattle.py_plain_text.specs.TextFile.{TextSettings}
use Rattle.py_read_text.specs.TextState.{TextState, file_of as text_seen}
use Rattle.py_raw.specs.RawStream.{Raw, tells}
use Rattle.py_raw.specs.Opener.{OpenerView, Opens as OpensRaw, opened_bytes}
use Rattle.py_raw.proofs.Telling.{tells_its_bytes, tells_its_place}
use Rattle.py_stream.specs.Stream.{Stream, buffering_of, file_of}
use Rattle.py_stream.specs.Opening.{Opens, begins_at, tells_start}
use Rattle.py_stream.specs.Access.{can_of, is_able}
use Rattle.py_stream.specs.declared.access.Access.{Access}
use Rattle.py_calls.specs.declared.plan.PlanKind.{PlanKind}
use Rattle.py_calls.specs.declared.plan.PlanKind.TheVariants as kind
use Rattle.py_calls.specs.declared.mode.Mode.{Mode}
use Rattle.py_calls.specs.declared.plan.OpenPlan.{OpenPlan}
use Rattle.py_open.specs.TextOpening.{text_opened, OpensText}
use Rattle.py_open.specs.Session.{OfText, OfBinary, SessionView, TextSession, BinarySession, file_seen}
use Rattle.py_open.specs.Opening.{access_of, text_settings, OpensBy, OpensSession}
use Rattle.py_open.specs.OpenedFile.{begins_with, file_by, opened_file}
use Rattle.py_open.specs.Paths.{raw_mode}

-- where a stream begins on a raw that can seek and stands at its start
begins : (appends : Bool) (raw : Raw) (bytes : List ℕ) → raw.seekable ≡ true → raw.place ≡ 0 → raw.bytes ≡ bytes → begins_at appends raw ≡ begins_with appends bytes
begins true raw bytes seeks place are = ap (λ (can : Bool). if can then length raw.bytes else raw.place) seeks ∙ ap (λ (all : List ℕ). length all) are
begins false raw bytes seeks place are = place

stream_file : (stream : Stream) (bytes : List ℕ) (place : ℕ) (can : Abilities) (buffer : Option ℕ) → lay stream.raw.bytes stream.owed.place stream.owed.bytes ≡ bytes → stream.place ≡ place → stream.can ≡ can → stream.buffer ≡ buffer → stream.life ≡ life.Live → file_of stream ≡ record { bytes = bytes; place = place; can = can; buffering = buffering_of buffer; life = life.Live }
stream_file stream bytes place can buffer bytes_are place_is can_is buffer_is live =
    let F : List ℕ → ℕ → Abilities → Option ℕ → Life → FlatFile = λ b p c s l. record { bytes = b; place = p; can = c; buffering = buffering_of s; life = l } in
    ap (λ (b : List ℕ). F b stream.place stream.can stream.buffer stream.life) bytes_are
    ∙ ap (λ (p : ℕ). F bytes p stream.can stream.buffer stream.life) place_is
    ∙ ap (λ (c : Abilities). F bytes place c stream.buffer stream.life) can_is
    ∙ ap (λ (s : Option ℕ). F bytes place can s stream.life) buffer_is
    ∙ ap (λ (l : Life). F bytes place can buffer l) live

by_ability : (seeks : Bool) {bytes place : Bool} → IsTrue bytes → IsTrue place → IsTrue (if seeks then bytes else place)
by_ability true bytes place = bytes
by_ability false bytes place = place

-- a raw that tells its bytes and its place tells where a stream begins on it
starts_told : (appends : Bool) (raw : Raw) → IsTrue (tells raw) → IsTrue (tells_start appends raw)
starts_told true raw told = by_ability raw.seekable (tells_its_bytes raw told) (tells_its_place raw told)
starts_told false raw told = tells_its_place raw told

binary_file : (raw : Raw) (access : Access) (buffer : Option ℕ) (bytes : List ℕ) (stream : Stream) → Opens (is_able access buffer) (can_of access) raw buffer stream → tells raw ≡ true → raw.seekable ≡ true → raw.place ≡ 0 → raw.bytes ≡ bytes → file_of stream ≡ record { bytes = bytes; place = begins_with (can_of access true).appending bytes; can = can_of access true; buffering = buffering_of buffer; life = life.Live }
binary_file raw access buffer bytes stream opens told seeks place are =
    let able : can_of access raw.seekable ≡ can_of access true = ap (can_of access) seeks in
    stream_file stream bytes (begins_with (can_of access true).appending bytes) (can_of access true) buffer
    (ap (λ (owed : Owed). lay stream.raw.bytes owed.place owed.bytes) opens.owed ∙ opens.untouched.bytes (tells_its_bytes raw told) ∙ are)
    (opens.place (starts_told (can_of access raw.seekable).appending raw told) ∙ begins (can_of access raw.seekable).appending raw bytes seeks place are ∙ ap (λ (can : Abilities). begins_with can.appending bytes) able)
    (opens.can_do ∙ able)
    opens.buffer_is
    opens.life_is

text_file : (raw : Raw) (opened : Access) (buffer : ℕ) (settings : TextSettings) (bytes : List ℕ) (text : TextState) → OpensText raw opened buffer settings text → tells raw ≡ true → raw.seekable ≡ true → raw.place ≡ 0 → raw.bytes ≡ bytes → text_seen text ≡ text_opened bytes (begins_with (can_of opened true).appending bytes) (can_of opened true) settings
text_file raw opened buffer settings bytes text opens told seeks place are =
    opens.file
    ∙ ap (λ (all : List ℕ). text_opened all text.text.buffer.place (can_of opened raw.seekable) settings) (opens.untouched.bytes (tells_its_bytes raw told) ∙ are)
    ∙ ap (λ (at : ℕ). text_opened bytes at (can_of opened raw.seekable) settings) (opens.place (starts_told (can_of opened true).appending raw told) ∙ begins (can_of opened true).appending raw bytes seeks place are)
    ∙ ap (λ (can : Abilities). text_opened bytes (begins_with (can_of opened true).appending bytes) can settings) (ap (can_of opened) seeks)

-- a session over such a raw is the model's file
pub file_opened : (planned : PlanKind) (mode : Mode) (raw : Raw) (bytes : List ℕ) (session : SessionView) → OpensBy planned (access_of mode) raw session → tells raw ≡ true → raw.seekable ≡ true → raw.place ≡ 0 → raw.bytes ≡ bytes → file_seen session ≡ file_by planned mode bytes
file_opened (kind.Text planned) mode raw bytes (TextSession text) opens tells seeks place are = ap OfText (text_file raw (access_of mode) _ (text_settings planned) bytes text opens tells seeks place are)
file_opened (kind.Buffered size) mode raw bytes (BinarySession stream) opens tells seeks place are = ap OfBinary (binary_file raw (access_of mode) (Some size) bytes stream opens tells seeks place are)
file_opened kind.Bare mode raw bytes (BinarySession stream) opens tells seeks place are = ap OfBinary (binary_file raw (access_of mode) None bytes stream opens tells seeks place are)
file_opened (kind.Text planned) mode raw bytes (BinarySession stream) opens tells seeks place are = absurd opens
file_opened (kind.Buffered size) mode raw bytes (TextSession text) opens tells seeks place are = absurd opens
file_opened kind.Bare mode raw bytes (TextSession text) opens tells seeks place are = absurd opens

-- a session over the raw that an opener that tells opened for a plan is the model's file of what the path held
pub file_at_path : (before after : OpenerView) (path : List ℕ) (raw : Raw) (plan : OpenPlan) (session : SessionView) → OpensRaw before path (raw_mode plan) raw after → IsTrue before.tells → OpensSession raw plan session → file_seen session ≡ opened_file plan (opened_bytes (raw_mode plan) (before.holds path))
file_at_path before after path raw plan session opens tells opened =
    let told = opens.told tells in
    file_opened plan.kind plan.mode raw (opened_bytes (raw_mode plan) (before.holds path)) session opened told.tells told.seeks told.place told.bytes
