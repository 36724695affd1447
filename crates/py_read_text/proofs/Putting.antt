-- A text that goes to a place.
use Rattle.std.proofs.Common.{◌≡◌, ℕ, ◌+◌, ◌≤◌, max, inl, inr, ◌⊎◌, pos, ◌&&◌, Bool, true, false, IsTrue, String, List, [], ◌++◌, length, drop, Option, Some, None, Result, Ok, Err, if◌then◌else◌, refl, sym, ap, ◌∙◌, subst, arith}
use Rattle.std.proofs.lemmas.List.{length-append, length-drop, drop-drop}
use Rattle.std.proofs.Math.Seq.{drop-append_seam}
use Rattle.py_flat.specs.declared.fault.IoFault.{IoFault}
use Rattle.py_flat.specs.declared.fault.IoFault.TheVariants as fault
use Rattle.py_flat.specs.declared.life.Life.TheVariants as life
use Rattle.py_flat.specs.Bytes.{left_at}
use Rattle.py_flat.specs.FlatFile.{Abilities}
use Rattle.py_plain.specs.declared.encoding.Encoding.{Encoding}
use Rattle.py_plain.specs.declared.handler.Handler.{Handler}
use Rattle.py_plain.specs.Units.{Order, Unknown}
use Rattle.std.specs.declared.alloc.Global.{Global}
use Rattle.py_blocks.specs.declared.fronts.TextFront.{TextFront}
use Rattle.py_plain_text.specs.TextFile.{Front, TextPlace, TextSettings, TextFile, clean_at}
use Rattle.py_plain_text.specs.Cookie.{Cookie, order_of}
use Rattle.py_plain_text.specs.Landing.{start_of, fed_by, skipped_by, skips, start_place, place_inside, is_restorable, feeds_some, skips_within, only_item, fed_walk}
use Rattle.py_raw.proofs.Telling.{tells_still}
use Rattle.py_stream.specs.Buffer.{Buffer, WhereShown, flat_of}
use Rattle.py_held_text.specs.Held.{HeldView, cleared}
use Rattle.py_read_text.specs.Knowing.{TextView, place_of, shown_file, ReadsBy, IsText}
use Rattle.py_read_text.specs.Reading.{Calls}
use Rattle.py_read_text.specs.Seeking.{GoOutcome, CallsBy, RestoresTold, LandsInside, LandsAtStart, LandsBack, TextGoes, StandsAtStart, SeekOutcome}
use Rattle.py_read_text.proofs.Placing.{text_put, text_cleared}
use Rattle.py_read_text.proofs.Holding.{text_room, text_read_nothing}

-- The buffer was moved.

pub text_gone : (before after : Buffer) (held new : HeldView) (front : Option Front) (at taken : ℕ) (dirty : Bool) (place : ℕ) (settings : TextSettings) → GoOutcome before place (Ok tt) after → new ≡ cleared held place new.room → IsText before held front at taken dirty settings → IsText after new None place 0 false settings
text_gone before after held new front at taken dirty place settings gone new_is is =
    subst (λ (own : HeldView). IsText after own None place 0 false settings) (sym new_is)
    (text_cleared before after held front at taken dirty place new.room settings gone.0.keeps (inl gone.2) gone.0.far (sym gone.1) is)

-- it wasn't
pub text_ungone : (before after : Buffer) (held : HeldView) (front : Option Front) (at taken : ℕ) (dirty : Bool) (place : ℕ) (settings : TextSettings) (why : IoFault) → before.life ≡ life.Live → GoOutcome before place (Err why) after → IsText before held front at taken dirty settings → IsText after held front at taken dirty settings
text_ungone before after held front at taken dirty place settings (fault.WouldBlock count) live gone is = text_read_nothing before after held front at taken dirty settings true false live gone.0 gone.1 is
text_ungone before after held front at taken dirty place settings fault.RawFault live gone is = text_read_nothing before after held front at taken dirty settings false true live gone.0 gone.1 is
text_ungone before after held front at taken dirty place settings fault.NoMemory live gone is = text_read_nothing before after held front at taken dirty settings false false live gone.0 gone.1 is
text_ungone before after held front at taken dirty place settings other live gone is = absurd gone

pub goes_so : (old new : TextView) (place : ℕ) → GoOutcome old.buffer place (Ok tt) new.buffer → new.settings ≡ old.settings → place_of new ≡ clean_at place Unknown → TextGoes old place (Ok tt) new
goes_so old new place gone settings there = (record { calls = gone.0; settings = settings }, there, gone.2)

pub goes_not : (old new : TextView) (place : ℕ) (why : IoFault) → GoOutcome old.buffer place (Err why) new.buffer → new.settings ≡ old.settings → place_of new ≡ place_of old → TextGoes old place (Err why) new
goes_not old new place (fault.WouldBlock count) gone settings same = (record { calls = gone.0; settings = settings }, gone.2, same, gone.3)
goes_not old new place fault.RawFault gone settings same = (record { calls = gone.0; settings = settings }, same)
goes_not old new place fault.NoMemory gone settings same = (record { calls = gone.0; settings = settings }, same)
goes_not old new place other gone settings same = absurd gone

-- a cookie that skips nothing
pub sought_plainly : (old new : TextView) (goal : Cookie) (place : ℕ) (result : Result (Unit {0}) IoFault) → skips goal ≡ false → order_of goal.dec_flags ≡ Unknown → place ≡ start_of goal → TextGoes old place result new → SeekOutcome old goal result new
sought_plainly old new goal place (Ok done) none order there goes = (
  goes.0,
  goes.1 ∙ (ap (λ (at : ℕ). clean_at at Unknown) there ∙ (ap (clean_at (start_of goal)) (sym order) ∙ ap (λ (b : Bool). if b then place_inside goal else start_place goal) (sym none))),
  goes.2,
  λ skip. absurd (let never = sym none ∙ skip in cc),
  λ told skip. absurd (let never = sym none ∙ skip in cc),
)
sought_plainly old new goal place (Err (fault.WouldBlock count)) none order there goes = (goes.0, goes.1, inl (goes.2, goes.3))
sought_plainly old new goal place (Err fault.RawFault) none order there goes = (goes.0, inl goes.1)
sought_plainly old new goal place (Err fault.NoMemory) none order there goes = (goes.0, inl goes.1)
sought_plainly old new goal place (Err other) none order there goes = absurd goes

-- Behind what a cookie fed.

-- a call that is refused so
record CallsSome (before after : Buffer) : Type 0 where
  waited : Bool
  faulted : Bool
  calls : Calls before waited faulted after

calls_some : (before after : Buffer) (why : IoFault) → CallsBy before why after → CallsSome before after
calls_some before after fault.CannotRestore calls = record { waited = false; faulted = false; calls = calls }
calls_some before after (fault.WouldBlock count) calls = record { waited = true; faulted = false; calls = calls.0 }
calls_some before after fault.RawFault calls = record { waited = false; faulted = true; calls = calls }
calls_some before after fault.NoMemory calls = record { waited = false; faulted = false; calls = calls }
calls_some before after other calls = absurd calls

-- some bytes that are a front of what is left from a place on, and what is left behind them
front_split : (bytes fed : List ℕ) (start : ℕ) (more : List ℕ) → fed ++ more ≡ left_at bytes start → left_at bytes start ≡ fed ++ left_at bytes (start + length fed)
front_split bytes fed start more is =
    sym is ∙ ap (λ (rest : List ℕ). fed ++ rest)
    (sym (sym (drop-drop (length fed) start bytes) ∙ (ap (drop (length fed)) (sym is) ∙ drop-append_seam fed more)))

front_within : (bytes fed : List ℕ) (start : ℕ) (more : List ℕ) → fed ++ more ≡ left_at bytes start → start + length fed ≤ max start (length bytes)
front_within bytes fed start more is = omega (arith, ap length is, length-append fed more, length-drop start bytes)

ahead_fed : (before after : Buffer) (start : ℕ) (fed : List ℕ) → after.can ≡ before.can → after.place ≡ start + length fed → after.owed.bytes ≡ [] → (fed ≡ []) ⊎ (before.can.readable ≡ true) → (start ≡ after.place) ⊎ ((after.owed.bytes ≡ []) × (after.can.readable ≡ true))
ahead_fed before after start fed can place none (inl empty) = inl (omega (arith, place, ap length empty))
ahead_fed before after start fed can place none (inr reads) = inr (none, ap (λ (abilities : Abilities). abilities.readable) can ∙ reads)

-- room was taken for bytes
pub text_roomy : (buffer : Buffer) (held new : HeldView) (front : Option Front) (at taken : ℕ) (dirty : Bool) (settings : TextSettings) → new ≡ record held { room = new.room } → IsText buffer held front at taken dirty settings → IsText buffer new front at taken dirty settings
text_roomy buffer held new front at taken dirty settings same is = subst (λ (own : HeldView). IsText buffer own front at taken dirty settings) (sym same) (text_room buffer held front at taken new.room dirty settings is)

-- a text stands, clean, at the start of a cookie
pub text_started : (before after : Buffer) (held mid new : HeldView) (front : Option Front) (at taken : ℕ) (dirty : Bool) (settings : TextSettings) (encoding : Encoding) (handler : Handler) (goal : Cookie) (why : IoFault) (place : ℕ) (fed piece : List ℕ) → LandsAtStart before encoding handler goal why fed after → place ≡ start_of goal → mid ≡ cleared held place mid.room → piece ≡ fed → new ≡ record mid { bytes = mid.bytes ++ piece; room = new.room } → IsText before held front at taken dirty settings → IsText after new None place 0 false settings
text_started before after held mid new front at taken dirty settings encoding handler goal why place fed piece lands there mid_is piece_is new_is is =
    let some = calls_some before after why lands.calls in
    let stands = lands.stands in
    let calls = some.calls in
    let far : after.place ≡ place + length fed = omega (arith, stands.place, there) in
    let here : (bytes : List ℕ) → left_at bytes (start_of goal) ≡ left_at bytes place = λ bytes. ap (left_at bytes) (sym there) in
    subst (λ (own : HeldView). IsText after own None place 0 false settings) (sym (new_is ∙ (ap (λ (bytes : List ℕ). record mid { bytes = mid.bytes ++ bytes; room = new.room }) piece_is ∙ ap (λ (own : HeldView). record own { bytes = own.bytes ++ fed; room = new.room }) mid_is)))
    (text_put before after held front at taken dirty place new.room fed settings calls.keeps (inl stands.none) calls.far (sym far) (ahead_fed before after place fed calls.keeps.can far stands.none stands.reads)
    (λ told.
    let was = sym (tells_still before.raw after.raw calls.keeps.raw) ∙ told in
    let own = stands.told was in
    subst (λ (end : ℕ). left_at (flat_of after).bytes place ≡ fed ++ left_at (flat_of after).bytes end) (sym far)
    (subst (λ (bytes : List ℕ). left_at bytes place ≡ fed ++ left_at bytes (place + length fed)) (sym (calls.bytes was)) (front_split (flat_of before).bytes fed place own.0 (own.1 ∙ here (flat_of before).bytes))))
    (λ told.
    let was = sym (tells_still before.raw after.raw calls.keeps.raw) ∙ told in
    let own = stands.told was in
    omega (arith, far, front_within (flat_of before).bytes fed place own.0 (own.1 ∙ here (flat_of before).bytes), ap length (calls.bytes was)))
    is)

-- it stays as it was
pub text_back : (before after : Buffer) (held : HeldView) (front : Option Front) (at taken : ℕ) (dirty : Bool) (settings : TextSettings) (why : IoFault) → before.life ≡ life.Live → LandsBack before why after → IsText before held front at taken dirty settings → IsText after held front at taken dirty settings
text_back before after held front at taken dirty settings why live lands is =
    let some = calls_some before after why lands.calls in
    text_read_nothing before after held front at taken dirty settings some.waited some.faulted live some.calls lands.place is

-- What a seek by a cookie that skips came to.

-- a text that can't be read restores nothing
unreadable : (file : TextFile) (goal : Cookie) → file.can.readable ≡ false → is_restorable file goal ≡ false
unreadable file goal none =
    let walk = fed_walk file goal in
    ap (λ (can : Bool). can && (feeds_some file goal && skips_within goal (only_item (fed_by goal) walk.items walk.ending))) none

-- what is in hand is read as the settings say, where the buffer can be read
abbrev ReadsAs : TextView → Encoding → Handler → Type 0
ReadsAs old encoding handler = old.buffer.can.readable ≡ true → (old.settings.encoding ≡ encoding) × (old.settings.handler ≡ handler)

restores_so : (old : TextView) (encoding : Encoding) (handler : Handler) (goal : Cookie) → ReadsAs old encoding handler → RestoresTold old.buffer encoding handler goal false → WhereShown old.buffer (is_restorable (shown_file old) goal ≡ false)
restores_so old encoding handler goal by restores told = by_reads old.buffer.can.readable refl
  where
    by_reads : (reads : Bool) → old.buffer.can.readable ≡ reads → is_restorable (shown_file old) goal ≡ false
    by_reads false none = unreadable (shown_file old) goal none
    by_reads true reads = restores told (shown_file old) (by reads).0 (by reads).1 refl refl

pub started_so : (old new : TextView) (encoding : Encoding) (handler : Handler) (goal : Cookie) (why : IoFault) (fed : List ℕ) → IsTrue (skips goal) → ReadsAs old encoding handler → LandsAtStart old.buffer encoding handler goal why fed new.buffer → new.settings ≡ old.settings → place_of new ≡ start_place goal → SeekOutcome old goal (Err why) new
started_so old new encoding handler goal why fed skip by lands settings there = by_why why lands.calls lands.unfit lands.memory
  where
    start : StandsAtStart goal new
    start = record { skips = skip; place = there }

    by_why : (why : IoFault) → CallsBy old.buffer why new.buffer → (why ≡ fault.CannotRestore → RestoresTold old.buffer encoding handler goal false) → (why ≡ fault.NoMemory → IsTrue old.buffer.raw.takes_memory) → SeekOutcome old goal (Err why) new
    by_why fault.CannotRestore calls unfit memory = (record { calls = calls; settings = settings }, start, lands.stands.none, restores_so old encoding handler goal by (unfit refl))
    by_why (fault.WouldBlock count) calls unfit memory = (record { calls = calls.0; settings = settings }, calls.1, inr start)
    by_why fault.RawFault calls unfit memory = (record { calls = calls; settings = settings }, inr start)
    by_why fault.NoMemory calls unfit memory = (record { calls = calls; settings = settings }, inr (memory refl, start))
    by_why other calls unfit memory = absurd calls

pub inside_so : (old new : TextView) (encoding : Encoding) (handler : Handler) (goal : Cookie) (text : String Global) (skipped : TextFront) (fed : List ℕ) → IsTrue (skips goal) → goal.dec_flags ≡ pos 0 → ReadsAs old encoding handler → LandsInside old.buffer encoding handler goal text skipped fed new.buffer → new.settings ≡ old.settings → place_of new ≡ record { front = Some (record { start = start_of goal; length = length fed; skipped = skipped.chars }); at = start_of goal + length fed; order = Unknown; taken = 0; dirty = true } → SeekOutcome old goal (Ok tt) new
inside_so old new encoding handler goal text skipped fed skip flags by lands settings there = (
  record { calls = lands.calls; settings = settings },
  there ∙ (rw (lands.fits.size, lands.fits.skips) (sym (ap (λ (order : Order). let place : TextPlace = record { front = Some (record { start = start_of goal; length = fed_by goal; skipped = skipped_by goal }); at = start_of goal + fed_by goal; order = order; taken = 0; dirty = true } in place) (ap order_of flags))) ∙ ap (λ (b : Bool). if b then place_inside goal else start_place goal) (sym skip)),
  lands.stands.none,
  λ needed. (readable, omega (arith, lands.fits.size, lands.fits.some), omega (arith, lands.fits.size, lands.fits.few)),
  λ told needed. lands.restores told (shown_file old) (by readable).0 (by readable).1 refl refl,
)
  where
    readable : old.buffer.can.readable ≡ true
    readable = by_reads lands.stands.reads
      where
        by_reads : (fed ≡ []) ⊎ (old.buffer.can.readable ≡ true) → old.buffer.can.readable ≡ true
        by_reads (inr reads) = reads
        by_reads (inl none) = absurd (omega (arith, lands.fits.some, ap length none))

-- By what is in hand once room was taken.

-- what is read by
reads_as : (old : TextView) (encoding : Encoding) (handler : Handler) → (old.buffer.can.readable ≡ true → ReadsBy old.settings old.held) → encoding ≡ old.held.encoding → handler ≡ old.held.handler → ReadsAs old encoding handler
reads_as old encoding handler by one two = λ reads. (sym (one ∙ (by reads).encoding), sym (two ∙ (by reads).handler))

pub started_now : (now old new : TextView) (encoding : Encoding) (handler : Handler) (goal : Cookie) (why : IoFault) (fed : List ℕ) → old ≡ now → IsTrue (skips goal) → (old.buffer.can.readable ≡ true → ReadsBy old.settings old.held) → encoding ≡ old.held.encoding → handler ≡ old.held.handler → LandsAtStart old.buffer encoding handler goal why fed new.buffer → new.settings ≡ old.settings → place_of new ≡ start_place goal → SeekOutcome now goal (Err why) new
started_now now old new encoding handler goal why fed same skip by one two lands settings there =
    subst (λ (view : TextView). SeekOutcome view goal (Err why) new) same
    (started_so old new encoding handler goal why fed skip (reads_as old encoding handler by one two) lands settings there)

pub inside_now : (now old new : TextView) (encoding : Encoding) (handler : Handler) (goal : Cookie) (text : String Global) (skipped : TextFront) (fed : List ℕ) → old ≡ now → IsTrue (skips goal) → goal.dec_flags ≡ pos 0 → (old.buffer.can.readable ≡ true → ReadsBy old.settings old.held) → encoding ≡ old.held.encoding → handler ≡ old.held.handler → LandsInside old.buffer encoding handler goal text skipped fed new.buffer → new.settings ≡ old.settings → place_of new ≡ record { front = Some (record { start = start_of goal; length = length fed; skipped = skipped.chars }); at = start_of goal + length fed; order = Unknown; taken = 0; dirty = true } → SeekOutcome now goal (Ok tt) new
inside_now now old new encoding handler goal text skipped fed same skip flags by one two lands settings there =
    subst (λ (view : TextView). SeekOutcome view goal (Ok tt) new) same
    (inside_so old new encoding handler goal text skipped fed skip flags (reads_as old encoding handler by one two) lands settings there)

-- the start of a cookie whose flags say no order
pub start_is : (goal : Cookie) (place : ℕ) → goal.dec_flags ≡ pos 0 → place ≡ start_of goal → clean_at place Unknown ≡ start_place goal
start_is goal place flags there = ap (λ (at : ℕ). clean_at at Unknown) there ∙ ap (clean_at (start_of goal)) (sym (ap order_of flags))

-- the place inside an item, by its numbers
abbrev pub inside_place : (start size count skipped : ℕ) → TextPlace
inside_place start size count skipped = record { front = Some (record { start = start; length = size; skipped = skipped }); at = start + count; order = Unknown; taken = 0; dirty = true }

pub inside_is : (start begin size count whole skipped : ℕ) → start ≡ begin → size ≡ whole → count ≡ whole → inside_place start size count skipped ≡ inside_place begin whole whole skipped
inside_is start begin size count whole skipped there one two = rw (there, one, two) refl
