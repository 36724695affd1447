-- Moving the buffer to a place, and reading what a cookie feeds there.
use Rattle.std.specs.Prelude.{◌≡◌, ◌≢◌, ◌⊎◌, ℕ, ◌+◌, ◌*◌, ◌≤◌, ◌&&◌, ℤ, String, Bool, true, false, IsTrue, List, [], length, take, if◌then◌else◌, None, Result, Ok, Err}
use Rattle.py_flat.specs.declared.fault.IoFault.{IoFault}
use Rattle.py_flat.specs.declared.fault.IoFault.TheVariants as fault
use Rattle.py_flat.specs.declared.life.Life.TheVariants as life
use Rattle.py_flat.specs.Limits.{greatest_place}
use Rattle.py_flat.specs.Bytes.{left_at}
use Rattle.py_flat.specs.BinaryStep.{IsFrontOf}
use Rattle.py_flat.specs.Refusals.{is_unbuffered}
use Rattle.py_flat.specs.Calls as reply
use Rattle.py_flat.specs.Calls.{FileReply, Refused}
use Rattle.py_plain_text.specs.Cookie.{Cookie, cookie_bytes}
use Rattle.py_plain_text.specs.Landing.{start_of, fed_by, skipped_by, fed_bytes, skips, start_place, place_inside, is_restorable}
use Rattle.py_plain_text.specs.TextFile.{clean_at, TextFile}
use Rattle.py_plain_text.specs.TextCalls.{SeekText}
use Rattle.py_plain_text.specs.TextRefusals.{refusal}
use Rattle.py_plain_text.specs.TextExact.{sought_cookie}
use Rattle.py_stream.specs.Kinds.{says_wait}
use Rattle.py_stream.specs.Buffer.{Buffer, WhereShown, flat_of}
use Rattle.std.specs.declared.alloc.Global.{Global}
use Rattle.py_plain.specs.declared.encoding.Encoding.{Encoding}
use Rattle.py_plain.specs.declared.handler.Handler.{Handler}
use Rattle.py_plain.specs.Units.{Unknown}
use Rattle.py_plain.specs.Handlers.{treatment}
use Rattle.py_plain.specs.Items.{walk_from, characters_of}
use Rattle.py_codec.specs.Answers.{text_of}
use Rattle.py_telling.specs.Restoring.{FeedsOf}
use Rattle.py_blocks.specs.declared.fronts.TextFront.{TextFront}
use Rattle.py_blocks.specs.Fronts.{IsFrontOf as IsTextFrontOf}
use Rattle.py_read_text.specs.declared.seeking.Fed.{Fed}
use Rattle.py_read_text.specs.declared.seeking.Fed.TheVariants as fed
use Rattle.py_read_text.specs.declared.seeking.Landing.{Landing}
use Rattle.py_read_text.specs.declared.seeking.Landing.TheVariants as landing
use Rattle.py_read_text.specs.Answers.{refused_here, SeeksBy, FeedsWhereSkips}
use Rattle.py_read_text.specs.Knowing.{TextView, place_of, shown_file}
use Rattle.py_read_text.specs.Reading.{Calls}
use Rattle.py_read_text.specs.TextState.{TextState, file_of}

-- a live buffer that can be moved, of which no bytes are lent out
pub record CanGo (buffer : Buffer) : Type 0 where
  pub live : buffer.life ≡ life.Live
  pub seeks : buffer.can.seekable ≡ true
  pub appends : buffer.can.appending ≡ false
  pub kept : buffer.exported ≡ false

-- a buffer stands at a place and owes nothing; or the raw would have blocked as the buffer passed on what it owes, or failed, or memory ran
-- out, of a raw that takes some: then it stands where it stood
abbrev pub GoOutcome : Buffer → (place : ℕ) → Result (Unit {0}) IoFault → Buffer → Type 0
GoOutcome before place (Ok done) after = Calls before false false after × (after.place ≡ place) × (after.owed.bytes ≡ [])
GoOutcome before place (Err (fault.WouldBlock taken)) after = Calls before true false after × (after.place ≡ before.place) × (taken ≡ 0) × (before.owed.bytes ≢ [])
GoOutcome before place (Err fault.RawFault) after = Calls before false true after × (after.place ≡ before.place)
GoOutcome before place (Err fault.NoMemory) after = Calls before false false after × (after.place ≡ before.place) × IsTrue before.raw.takes_memory
GoOutcome before place (Err other) after = ⊥

-- a live buffer that owes nothing, and of which no bytes are lent out
pub record CanFeed (buffer : Buffer) : Type 0 where
  pub live : buffer.life ≡ life.Live
  pub buffered : is_unbuffered buffer.buffering ≡ false
  pub kept : buffer.exported ≡ false
  pub none : buffer.owed.bytes ≡ []
  pub far : buffer.place ≤ greatest_place

-- bytes came of those that a cookie feeds, no more than n of them: told, a front of what is left
pub record Feeds (before : Buffer) (size : ℕ) (fed : List ℕ) (waited faulted : Bool) (after : Buffer) : Type 0 where
  pub calls : Calls before waited faulted after
  pub few : length fed ≤ size
  pub place : after.place ≡ before.place + length fed
  pub reads : (fed ≡ []) ⊎ (before.can.readable ≡ true)
  pub told : WhereShown before (IsFrontOf fed (left_at (flat_of before).bytes before.place))

-- all n bytes came, or all that are left; or the raw would have blocked before, or failed, or memory ran out
abbrev pub FeedOutcome : Buffer → (size : ℕ) → Result Bool IoFault → (fed : List ℕ) → Buffer → Type 0
FeedOutcome before size (Ok true) fed after = Feeds before size fed false false after × WhereShown before (fed ≡ take size (left_at (flat_of before).bytes before.place))
FeedOutcome before size (Ok false) fed after = Feeds before size fed true false after
FeedOutcome before size (Err fault.RawFault) fed after = Feeds before size fed false true after
FeedOutcome before size (Err fault.NoMemory) fed after = Feeds before size fed false false after
FeedOutcome before size (Err other) fed after = ⊥

-- What lies at a cookie's start.

-- a text that reads by these settings, in which the bytes lie that a buffer has from its place on, where the cookie begins
pub record SeenFrom (buffer : Buffer) (encoding : Encoding) (handler : Handler) (goal : Cookie) (file : TextFile) : Type 0 where
  pub encoding_is : file.settings.encoding ≡ encoding
  pub handler_is : file.settings.handler ≡ handler
  pub can : file.can ≡ buffer.can
  pub bytes : take (fed_by goal) (left_at (flat_of buffer).bytes buffer.place) ≡ fed_bytes file goal

-- told, whether a cookie that skips fits
abbrev pub FitsTold : Buffer → Encoding → Handler → Cookie → Bool → Type 0
FitsTold buffer encoding handler goal fits = WhereShown buffer ((file : TextFile) → SeenFrom buffer encoding handler goal file → is_restorable file goal ≡ fits)

-- the bytes fed are one item, of which these are the characters, and what is skipped is a front of them
pub record Fits (encoding : Encoding) (handler : Handler) (goal : Cookie) (fed : List ℕ) (text : String Global) (skipped : TextFront) : Type 0 where
  pub size : length fed ≡ fed_by goal
  pub some : 1 ≤ length fed
  pub few : length fed ≤ 4
  pub alone : (place : ℕ) → text_of text ≡ characters_of (walk_from encoding (treatment handler encoding) true Unknown place 0 fed).items
  pub most : length (text_of text) ≤ 6 * length fed
  pub front : IsTextFrontOf (text_of text) skipped
  pub skips : skipped.chars ≡ skipped_by goal

-- whether some bytes fit that a cookie feeds, in each text in which they lie at its start
abbrev pub FitsBytes : Encoding → Handler → Cookie → List ℕ → Bool → Type 0
FitsBytes encoding handler goal bytes fits = (file : TextFile) → FeedsOf encoding handler goal bytes file → is_restorable file goal ≡ (file.can.readable && fits)

-- what such bytes come to
abbrev pub LookedAt : Encoding → Handler → Cookie → List ℕ → Result Fed IoFault → Type 0
LookedAt encoding handler goal bytes (Ok (fed.Fits text skipped)) = Fits encoding handler goal bytes text skipped × FitsBytes encoding handler goal bytes true
LookedAt encoding handler goal bytes (Ok fed.Unfit) = FitsBytes encoding handler goal bytes false
LookedAt encoding handler goal bytes (Ok fed.Waits) = ⊥
LookedAt encoding handler goal bytes (Err why) = why ≡ fault.NoMemory

-- what was read of them came to
abbrev pub FedOutcome : Buffer → Encoding → Handler → Cookie → Result Fed IoFault → (fed : List ℕ) → Buffer → Type 0
FedOutcome before encoding handler goal (Ok (fed.Fits text skipped)) bytes after = Feeds before 4 bytes false false after × Fits encoding handler goal bytes text skipped × FitsTold before encoding handler goal true
FedOutcome before encoding handler goal (Ok fed.Unfit) bytes after = Feeds before 4 bytes false false after × FitsTold before encoding handler goal false
FedOutcome before encoding handler goal (Ok fed.Waits) bytes after = Feeds before 4 bytes true false after
FedOutcome before encoding handler goal (Err fault.RawFault) bytes after = Feeds before 4 bytes false true after
FedOutcome before encoding handler goal (Err fault.NoMemory) bytes after = Feeds before 4 bytes false false after
FedOutcome before encoding handler goal (Err other) bytes after = ⊥

-- a buffer went back to a place, since memory ran out; or it stays where it stands
abbrev pub GoesBack : Buffer → (place : ℕ) → Landing → Buffer → Type 0
GoesBack before place (landing.Back fault.NoMemory) after = GoOutcome before place (Ok tt) after
GoesBack before place (landing.Start why) after = GoOutcome before place (Err why) after
GoesBack before place other after = ⊥

-- the buffer was called, in a call that is refused so
abbrev pub CallsBy : Buffer → IoFault → Buffer → Type 0
CallsBy before fault.CannotRestore after = Calls before false false after
CallsBy before (fault.WouldBlock taken) after = Calls before true false after × (taken ≡ 0)
CallsBy before fault.RawFault after = Calls before false true after
CallsBy before fault.NoMemory after = Calls before false false after
CallsBy before other after = ⊥

-- told, a text over a buffer that reads by these settings, and whether a cookie that skips fits it
abbrev pub RestoresTold : Buffer → Encoding → Handler → Cookie → Bool → Type 0
RestoresTold buffer encoding handler goal fits = WhereShown buffer ((file : TextFile) → file.settings.encoding ≡ encoding → file.settings.handler ≡ handler → file.can ≡ buffer.can → file.bytes ≡ (flat_of buffer).bytes → is_restorable file goal ≡ fits)

-- a buffer stands behind bytes that were fed from a cookie's start on, and owes nothing
pub record StandsFed (before : Buffer) (goal : Cookie) (fed : List ℕ) (after : Buffer) : Type 0 where
  pub few : length fed ≤ 4
  pub place : after.place ≡ start_of goal + length fed
  pub none : after.owed.bytes ≡ []
  pub reads : (fed ≡ []) ⊎ (before.can.readable ≡ true)
  pub told : WhereShown before (IsFrontOf fed (left_at (flat_of before).bytes (start_of goal)))

-- the bytes fed fit
pub record LandsInside (before : Buffer) (encoding : Encoding) (handler : Handler) (goal : Cookie) (text : String Global) (skipped : TextFront) (fed : List ℕ) (after : Buffer) : Type 0 where
  pub calls : Calls before false false after
  pub stands : StandsFed before goal fed after
  pub fits : Fits encoding handler goal fed text skipped
  pub restores : RestoresTold before encoding handler goal true

-- they don't, or didn't come; out of memory also on the way back, over a raw that takes memory
pub record LandsAtStart (before : Buffer) (encoding : Encoding) (handler : Handler) (goal : Cookie) (why : IoFault) (fed : List ℕ) (after : Buffer) : Type 0 where
  pub calls : CallsBy before why after
  pub stands : StandsFed before goal fed after
  pub unfit : why ≡ fault.CannotRestore → RestoresTold before encoding handler goal false
  pub memory : why ≡ fault.NoMemory → IsTrue before.raw.takes_memory

-- the buffer didn't go there, or went back, and stands where it stood; it had to wait only where it owed something
pub record LandsBack (before : Buffer) (why : IoFault) (after : Buffer) : Type 0 where
  pub calls : CallsBy before why after
  pub place : after.place ≡ before.place
  pub other : why ≢ fault.CannotRestore
  pub owed : says_wait (Refused why) ≡ true → before.owed.bytes ≢ []

abbrev pub LandOutcome : Buffer → Encoding → Handler → Cookie → Landing → (fed : List ℕ) → Buffer → Type 0
LandOutcome before encoding handler goal (landing.Inside text skipped) fed after = LandsInside before encoding handler goal text skipped fed after
LandOutcome before encoding handler goal (landing.Start why) fed after = LandsAtStart before encoding handler goal why fed after
LandOutcome before encoding handler goal (landing.Back why) fed after = LandsBack before why after

-- The text.

-- a seek of a live text goes by a cookie, and nothing refuses it; told, it is the cookie of the model
pub record Seeks (before : TextState) (sought : List ℕ) (whence : ℤ) (goal : Cookie) : Type 0 where
  pub accepted : refused_here (file_of before) (SeekText sought whence) ≡ None
  pub by : SeeksBy before.text sought whence goal
  pub told : WhereShown before.text.buffer ((refusal (file_of before) (SeekText sought whence) ≡ None) × (sought_cookie (file_of before) sought whence ≡ goal))

-- a text was put, clean, at the start of a cookie that skips
pub record StandsAtStart (goal : Cookie) (new : TextView) : Type 0 where
  pub skips : IsTrue (skips goal)
  pub place : place_of new ≡ start_place goal

-- a text stayed as its buffer was to pass on what it owed
abbrev pub StaysOwing : TextView → TextView → Type 0
StaysOwing old new = (place_of new ≡ place_of old) × (old.buffer.owed.bytes ≢ [])

-- the buffer was called, and the settings stay
pub record SeeksOver (old : TextView) (waited faulted : Bool) (new : TextView) : Type 0 where
  pub calls : Calls old.buffer waited faulted new.buffer
  pub settings : new.settings ≡ old.settings

-- a text goes to a byte place, clean, and its buffer owes nothing; or the raw would have blocked as the buffer passed on what it owed, or
-- failed, or memory ran out, and it stays
abbrev pub TextGoes : TextView → (place : ℕ) → Result (Unit {0}) IoFault → TextView → Type 0
TextGoes old place (Ok done) new = SeeksOver old false false new × (place_of new ≡ clean_at place Unknown) × (new.buffer.owed.bytes ≡ [])
TextGoes old place (Err (fault.WouldBlock taken)) new = SeeksOver old true false new × (taken ≡ 0) × (place_of new ≡ place_of old) × (old.buffer.owed.bytes ≢ [])
TextGoes old place (Err fault.RawFault) new = SeeksOver old false true new × (place_of new ≡ place_of old)
TextGoes old place (Err fault.NoMemory) new = SeeksOver old false false new × (place_of new ≡ place_of old)
TextGoes old place (Err other) new = ⊥

-- a text stands where the cookie says, or at its start, told, since its bytes don't fit, and its buffer owes nothing; or the raw would have
-- blocked, or failed, or memory ran out: the text stays, or it stands at the start of a cookie that skips, out of memory only over a raw
-- that takes memory
abbrev pub SeekOutcome : TextView → (goal : Cookie) → Result (Unit {0}) IoFault → TextView → Type 0
SeekOutcome old goal (Ok done) new = SeeksOver old false false new × (place_of new ≡ (if skips goal then place_inside goal else start_place goal)) × (new.buffer.owed.bytes ≡ []) × FeedsWhereSkips old.buffer goal × WhereShown old.buffer (IsTrue (skips goal) → is_restorable (shown_file old) goal ≡ true)
SeekOutcome old goal (Err fault.CannotRestore) new = SeeksOver old false false new × StandsAtStart goal new × (new.buffer.owed.bytes ≡ []) × WhereShown old.buffer (is_restorable (shown_file old) goal ≡ false)
SeekOutcome old goal (Err (fault.WouldBlock taken)) new = SeeksOver old true false new × (taken ≡ 0) × (StaysOwing old new ⊎ StandsAtStart goal new)
SeekOutcome old goal (Err fault.RawFault) new = SeeksOver old false true new × ((place_of new ≡ place_of old) ⊎ StandsAtStart goal new)
SeekOutcome old goal (Err fault.NoMemory) new = SeeksOver old false false new × ((place_of new ≡ place_of old) ⊎ (IsTrue old.buffer.raw.takes_memory × StandsAtStart goal new))
SeekOutcome old goal (Err other) new = ⊥

-- what a seek answers: the cookie that it went by
abbrev pub sought_reply : Cookie → Result (Unit {0}) IoFault → FileReply
sought_reply goal (Ok done) = reply.Cookie (cookie_bytes goal)
sought_reply goal (Err why) = Refused why
