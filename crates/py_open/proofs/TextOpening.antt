-- A text session is opened as its buffer is, and the text stands over that.
use Rattle.std.proofs.Common.{◌≡◌, ◌<◌, ◌≤◌, ℕ, inl, Bool, true, false, not, nat_eq, IsTrue, List, length, Some, None, sym, ap, ◌∙◌, subst, arith}
use Rattle.std.proofs.lemmas.Bool.{and_parts}
use Rattle.py_flat.specs.declared.fault.IoFault.TheVariants as fault
use Rattle.py_flat.specs.declared.life.Life.{Life}
use Rattle.py_flat.specs.declared.life.Life.TheVariants as life
use Rattle.py_flat.specs.Bytes.{lay}
use Rattle.py_flat.specs.ExactStep.{is_closed}
use Rattle.py_flat.specs.FlatFile.{Abilities}
use Rattle.py_flat.specs.Limits.{greatest_place}
use Rattle.py_flat.specs.Owed.{Owed}
use Rattle.py_flat.specs.Refusals.{is_unbuffered, or_else, refused_if, life_fault}
use Rattle.py_plain.specs.Units.{Unknown}
use Rattle.py_plain_text.specs.TextFile.{TextFile, TextSettings, clean_at}
use Rattle.py_plain_text.specs.TextOver.{TextOver, text_file_of}
use Rattle.py_plain_text.specs.TextRefusals.{fits_handler}
use Rattle.py_raw.specs.RawStream.{Raw, WhereBytes, LeavesCounts}
use Rattle.py_stream.specs.declared.access.Access.{Access}
use Rattle.py_stream.specs.Access.{can_of, is_able, is_appended}
use Rattle.py_stream.specs.Stream.{Stream, nothing_owed, buffering_of}
use Rattle.py_stream.specs.Buffer.{Buffer, buffer_of, flat_of}
use Rattle.py_stream.specs.Opening.{Opens, Untouched}
use Rattle.py_stream.specs.Writing.{OwesUpTo}
use Rattle.py_text.specs.declared.coder.Coder.{Coder}
use Rattle.py_text.specs.declared.text_settings.TextSettings as declared
use Rattle.py_read_text.specs.TextState.{TextState, file_of, settings_of}
use Rattle.py_read_text.specs.Opening.{Wraps, opening_refusal}
use Rattle.py_open.specs.TextOpening.{OpensText, text_opened}
use Rattle.py_open.specs.TextSession.{IsTextSession, IsInReach, KeepsBeside}

-- what was opened below a text
abbrev pub OpensBelow : Raw → Access → ℕ → Stream → Type 0
OpensBelow raw opened size stream = Opens (is_able opened (Some size)) (can_of opened) raw (Some size) stream

lay_none : (bytes : List ℕ) (place : ℕ) (owed : Owed) → owed ≡ nothing_owed place → lay bytes owed.place owed.bytes ≡ bytes
lay_none bytes place owed none = ap (λ (own : Owed). lay bytes own.place own.bytes) none

file_so : (raw : Raw) (opened : Access) (size : ℕ) (coder : Coder) (settings : declared.TextSettings) (stream : Stream) (taken : ℕ) (state : TextState) → OpensBelow raw opened size stream → Wraps (buffer_of stream taken) coder settings state → file_of state ≡ text_opened state.text.buffer.raw.bytes state.text.buffer.place (can_of opened raw.seekable) (settings_of coder settings)
file_so raw opened size coder settings stream taken state opens wraps =
    let buffer : Buffer = state.text.buffer in
    let owed : buffer.owed ≡ nothing_owed stream.place = ap (λ (own : Buffer). own.owed) wraps.same ∙ opens.owed in
    let can : buffer.can ≡ can_of opened raw.seekable = ap (λ (own : Buffer). own.can) wraps.same ∙ opens.can_do in
    let place : stream.place ≡ buffer.place = sym (ap (λ (own : Buffer). own.place) wraps.same) in
    ap (λ (text : TextOver Buffer). text_file_of flat_of text) wraps.text
    ∙ (ap (λ (bytes : List ℕ). let file : TextFile = record { bytes = bytes; place = clean_at stream.place Unknown; can = buffer.can; settings = settings_of coder settings; life = life.Live } in file) (lay_none buffer.raw.bytes stream.place buffer.owed owed)
    ∙ (ap (λ (own : Abilities). let file : TextFile = record { bytes = buffer.raw.bytes; place = clean_at stream.place Unknown; can = own; settings = settings_of coder settings; life = life.Live } in file) can
    ∙ ap (λ (at : ℕ). text_opened buffer.raw.bytes at (can_of opened raw.seekable) (settings_of coder settings)) place))

-- the bytes that a raw tells are no more than a stream can have
abbrev pub IsTold : Raw → Type 0
IsTold raw = WhereBytes raw (length raw.bytes ≤ greatest_place)

in_reach : (raw : Raw) (state : TextState) → {can : Abilities} {settings : TextSettings} → file_of state ≡ text_opened state.text.buffer.raw.bytes state.text.buffer.place can settings → Untouched raw state.text.buffer.raw → IsTold raw → IsInReach state
in_reach raw state is untouched told = λ tells.
    let bytes : IsTrue raw.tells_bytes = sym untouched.keeps.tells_bytes ∙ (and_parts state.text.buffer.raw.tells_bytes state.text.buffer.raw.tells_place tells).0 in
    subst (λ (all : List ℕ). length all ≤ greatest_place) (sym (ap (λ (file : TextFile). file.bytes) is ∙ untouched.bytes bytes)) (told bytes)

pub opens_text : (raw : Raw) (opened : Access) (size : ℕ) (coder : Coder) (settings : declared.TextSettings) (stream : Stream) (taken : ℕ) (state : TextState) → IsTold raw → OpensBelow raw opened size stream → Wraps (buffer_of stream taken) coder settings state → OpensText raw opened size (settings_of coder settings) state
opens_text raw opened size coder settings stream taken state told opens wraps =
    let raw_is : stream.raw ≡ state.text.buffer.raw = sym (ap (λ (own : Buffer). own.raw) wraps.same) in
    let place_is : state.text.buffer.place ≡ stream.place = ap (λ (own : Buffer). own.place) wraps.same in
    record {
      was_open = opens.was_open;
      able = opens.is_able;
      untouched = subst (λ (own : Raw). Untouched raw own) raw_is opens.untouched;
      counts = subst (λ (own : Raw). LeavesCounts raw own) raw_is opens.counts;
      file = file_so raw opened size coder settings stream taken state opens wraps;
      reach = in_reach raw state (file_so raw opened size coder settings stream taken state opens wraps) (subst (λ (own : Raw). Untouched raw own) raw_is opens.untouched) told;
      place = λ tells. place_is ∙ opens.place tells;
      start = λ still. place_is ∙ opens.start still;
      stands = λ tells. ap (λ (own : Raw). own.place) (sym raw_is) ∙ (opens.stands tells ∙ sym place_is);
      raw_place = ap (λ (own : Buffer). own.raw_place) wraps.same ∙ (opens.raw_place ∙ sym place_is);
      buffer_is = ap (λ (own : Buffer). own.buffering) wraps.same ∙ ap buffering_of opens.buffer_is;
      life_is = ap (λ (own : Buffer). own.life) wraps.same ∙ opens.life_is;
      none = ap (λ (own : Buffer). own.owed) wraps.same ∙ (opens.owed ∙ ap nothing_owed (sym place_is));
      own = ap (λ (text : TextOver Buffer). text.owed) wraps.text;
      whole = wraps.whole;
    }

pub session_begins : (raw : Raw) (opened : Access) (size : ℕ) (coder : Coder) (settings : declared.TextSettings) (stream : Stream) (taken : ℕ) (state : TextState) → IsTold raw → OpensBelow raw opened size stream → Wraps (buffer_of stream taken) coder settings state → IsTextSession state
session_begins raw opened size coder settings stream taken state told opens wraps =
    let text = opens_text raw opened size coder settings stream taken state told opens wraps in
    let live : state.text.life ≡ life.Live = ap (λ (own : TextOver Buffer). own.life) wraps.text in
    let tells : state.text.buffer.raw.tells_place ≡ raw.tells_place = text.untouched.keeps.tells_place in
    record {
      kept = λ gone. let never : life.Live ≡ life.Detached = sym live ∙ gone in absurd (cc);
      attached = λ gone. let never : life.Live ≡ life.Detached = sym text.life_is ∙ gone in absurd (cc);
      buffered = ap is_unbuffered text.buffer_is;
      stands = λ lives told. text.stands (sym tells ∙ told) ∙ sym text.raw_place;
      joined = wraps.joined;
      held = record {
        unwritten = λ can. record { none = text.none; own = text.own; life_is = text.life_is ∙ sym live };
        is_open = λ other. record { raw = text.untouched.stays ∙ opens.was_open; buffer = ap is_closed text.life_is };
      };
    }

-- what is kept beside it
pub begins_beside : (raw : Raw) (opened : Access) (size : ℕ) (coder : Coder) (settings : declared.TextSettings) (stream : Stream) (taken : ℕ) (state : TextState) (appends : Bool) → OpensBelow raw opened size stream → Wraps (buffer_of stream taken) coder settings state → appends ≡ is_appended opened → KeepsBeside state.text.buffer appends size
begins_beside raw opened size coder settings stream taken state appends opens wraps is = record {
  appends_is = ap (λ (own : Buffer). own.can.appending) wraps.same ∙ (ap (λ (can : Abilities). can.appending) opens.can_do ∙ sym is);
  size_is = ap (λ (own : Buffer). own.buffering) wraps.same ∙ ap buffering_of opens.buffer_is;
}

-- What a text asks of the buffer that it is opened over.

pub stands_still : (raw : Raw) (opened : Access) (size : ℕ) (stream : Stream) (taken : ℕ) → OpensBelow raw opened size stream → (buffer_of stream taken).can.seekable ≡ false → (buffer_of stream taken).place ≡ 0
stands_still raw opened size stream taken opens still = opens.start (sym (ap (λ (can : Abilities). can.seekable) opens.can_do) ∙ still)

pub owes_up_to : (raw : Raw) (opened : Access) (size : ℕ) (stream : Stream) (taken : ℕ) → OpensBelow raw opened size stream → OwesUpTo (buffer_of stream taken).owed (buffer_of stream taken).place
owes_up_to raw opened size stream taken opens = inl (ap (λ (owed : Owed). owed.bytes) opens.owed)

some_bytes : (size : ℕ) → 0 < size → nat_eq size 0 ≡ false
some_bytes size some = grind arith

-- nothing refuses a text over it
pub accepted : (raw : Raw) (opened : Access) (size : ℕ) (coder : Coder) (settings : declared.TextSettings) (stream : Stream) (taken : ℕ) → OpensBelow raw opened size stream → 0 < settings.chunk_size → fits_handler (can_of opened raw.seekable) coder.errors ≡ true → opening_refusal (buffer_of stream taken) coder settings ≡ None
accepted raw opened size coder settings stream taken opens asks fits =
    ap (λ (current : Life). or_else (life_fault current) (or_else (refused_if (nat_eq settings.chunk_size 0) fault.BadArgument) (or_else (refused_if false fault.BufferError) (refused_if (not (fits_handler stream.can coder.errors)) fault.UnknownHandler)))) opens.life_is
    ∙ (ap (λ (none : Bool). or_else (refused_if none fault.BadArgument) (or_else (refused_if false fault.BufferError) (refused_if (not (fits_handler stream.can coder.errors)) fault.UnknownHandler))) (some_bytes settings.chunk_size asks)
    ∙ (ap (λ (can : Abilities). refused_if (not (fits_handler can coder.errors)) fault.UnknownHandler) opens.can_do
    ∙ ap (λ (fit : Bool). refused_if (not fit) fault.UnknownHandler) fits))
