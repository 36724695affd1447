-- What a cookie that skips feeds, and where it puts the buffer.
use Rattle.std.proofs.Common.{◌≡◌, ◌⊎◌, inl, inr, ℕ, ◌*◌, ◌<◌, ◌≤◌, ◌&&◌, nat_eq, nat_le, Bool, true, false, IsTrue, String, List, [], length, take, Result, Ok, Err, refl, sym, ap, ◌∙◌, subst, arith}
use Rattle.std.proofs.lemmas.Bool.Decides.{nat_tests}
use Rattle.std.proofs.lemmas.List.{length-take-le}
use Rattle.std.specs.declared.alloc.Global.{Global}
use Rattle.py_flat.specs.declared.fault.IoFault.{IoFault}
use Rattle.py_flat.specs.declared.fault.IoFault.TheVariants as fault
use Rattle.py_flat.specs.Bytes.{left_at}
use Rattle.py_flat.specs.FlatFile.{Abilities}
use Rattle.py_plain.specs.declared.encoding.Encoding.{Encoding}
use Rattle.py_plain.specs.declared.handler.Handler.{Handler}
use Rattle.py_plain.specs.Units.{Unknown}
use Rattle.py_plain.specs.Handlers.{treatment}
use Rattle.py_plain.specs.Items.{walk_from, characters_of}
use Rattle.py_codec.specs.Answers.{text_of}
use Rattle.py_blocks.specs.declared.fronts.TextFront.{TextFront}
use Rattle.py_blocks.specs.Fronts.{IsFrontOf as IsTextFrontOf}
use Rattle.py_plain_text.specs.TextFile.{TextFile}
use Rattle.py_plain_text.specs.Cookie.{Cookie}
use Rattle.py_plain_text.specs.Landing.{start_of, fed_by, skipped_by, fed_bytes, feeds_some, skips_within, only_item, fed_walk}
use Rattle.py_flat.specs.BinaryStep.{IsFrontOf}
use Rattle.py_raw.specs.RawStream.{tells}
use Rattle.py_raw.proofs.Telling.{tells_still}
use Rattle.py_flat.specs.Calls.{Refused}
use Rattle.py_stream.specs.Kinds.{says_no_memory}
use Rattle.py_stream.specs.Buffer.{Buffer, WhereShown, flat_of}
use Rattle.py_read_text.specs.Reading.{Calls}
use Rattle.py_read_text.specs.declared.seeking.Fed.{Fed}
use Rattle.py_read_text.specs.declared.seeking.Fed.TheVariants as fed
use Rattle.py_read_text.specs.declared.seeking.Landing.{Landing}
use Rattle.py_read_text.specs.declared.seeking.Landing.TheVariants as landing
use Rattle.py_read_text.specs.Seeking.{CanGo, GoOutcome, CanFeed, Feeds, FeedOutcome, SeenFrom, FitsTold, FitsBytes, LookedAt, FedOutcome, GoesBack, RestoresTold, StandsFed, LandsInside, LandsAtStart, LandsBack, LandOutcome}
use Rattle.py_read_text.proofs.Fetching.{calls_on}
use Rattle.py_read_text.proofs.Going.{feeds_none, still_goes}

-- A cookie that nothing can fit.

and_false : (b : Bool) → (b && false) ≡ false
and_false true = refl
and_false false = refl

-- a text that can't be read
unread : (before : Buffer) (encoding : Encoding) (handler : Handler) (goal : Cookie) → before.can.readable ≡ false → FitsTold before encoding handler goal false
unread before encoding handler goal none told file seen =
    let walk = fed_walk file goal in
    ap (λ (can : Bool). can && (feeds_some file goal && skips_within goal (only_item (fed_by goal) walk.items walk.ending))) (ap (λ (abilities : Abilities). abilities.readable) seen.can ∙ none)

-- a cookie that feeds no byte, or too many
none_fed : (file : TextFile) (goal : Cookie) → (1 ≤ fed_by goal → fed_by goal ≤ 4 → ⊥) → feeds_some file goal ≡ false
none_fed file goal never = by_size (nat_le 1 (fed_by goal)) (nat_le (fed_by goal) 4) refl refl
  where
    by_size : (some few : Bool) → nat_le 1 (fed_by goal) ≡ some → nat_le (fed_by goal) 4 ≡ few → feeds_some file goal ≡ false
    by_size false few is most = ap (λ (b : Bool). b && (nat_le (fed_by goal) 4 && nat_eq (length (fed_bytes file goal)) (fed_by goal))) is
    by_size true false is most = ap (λ (b : Bool). nat_le 1 (fed_by goal) && (b && nat_eq (length (fed_bytes file goal)) (fed_by goal))) most ∙ and_false (nat_le 1 (fed_by goal))
    by_size true true is most = absurd (never (grind (arith, nat_tests, is)) (grind (arith, nat_tests, most)))

unfed : (before : Buffer) (encoding : Encoding) (handler : Handler) (goal : Cookie) → (1 ≤ fed_by goal → fed_by goal ≤ 4 → ⊥) → FitsTold before encoding handler goal false
unfed before encoding handler goal never told file seen =
    let walk = fed_walk file goal in
    ap (λ (feeds : Bool). file.can.readable && (feeds && skips_within goal (only_item (fed_by goal) walk.items walk.ending))) (none_fed file goal never)
    ∙ and_false file.can.readable

pub unfit_unread : (before : Buffer) (encoding : Encoding) (handler : Handler) (goal : Cookie) (bytes : List ℕ) → CanFeed before → bytes ≡ [] → before.can.readable ≡ false → FedOutcome before encoding handler goal (Ok fed.Unfit) bytes before
unfit_unread before encoding handler goal bytes can none unable = (feeds_none before 4 bytes can none, unread before encoding handler goal unable)

pub unfit_unfed : (before : Buffer) (encoding : Encoding) (handler : Handler) (goal : Cookie) (bytes : List ℕ) → CanFeed before → bytes ≡ [] → (1 ≤ fed_by goal → fed_by goal ≤ 4 → ⊥) → FedOutcome before encoding handler goal (Ok fed.Unfit) bytes before
unfit_unfed before encoding handler goal bytes can none never = (feeds_none before 4 bytes can none, unfed before encoding handler goal never)

-- What was read.

feeds_few : (before after : Buffer) (size : ℕ) (bytes : List ℕ) (waited faulted : Bool) → size ≤ 4 → Feeds before size bytes waited faulted after → Feeds before 4 bytes waited faulted after
feeds_few before after size bytes waited faulted few feeds = record { calls = feeds.calls; few = omega (arith, few, feeds.few); place = feeds.place; reads = feeds.reads; told = feeds.told }

-- the bytes fed are those of a text
fits_by : (before : Buffer) (encoding : Encoding) (handler : Handler) (goal : Cookie) (size : ℕ) (bytes : List ℕ) (fits : Bool) → before.can.readable ≡ true → size ≡ fed_by goal → WhereShown before (bytes ≡ take size (left_at (flat_of before).bytes before.place)) → FitsBytes encoding handler goal bytes fits → FitsTold before encoding handler goal fits
fits_by before encoding handler goal size bytes fits can sized came restores told file seen =
    restores file (record { encoding_is = seen.encoding_is; handler_is = seen.handler_is; fed_are = came told ∙ (ap (λ (count : ℕ). take count (left_at (flat_of before).bytes before.place)) sized ∙ seen.bytes) })
    ∙ ap (λ (reads : Bool). reads && fits) (ap (λ (abilities : Abilities). abilities.readable) seen.can ∙ can)

-- they are one item, in which what is skipped lies
pub fits_so : (encoding : Encoding) (handler : Handler) (goal : Cookie) (bytes : List ℕ) (text : String Global) (skipped : TextFront) → FitsBytes encoding handler goal bytes true → (1 ≤ length bytes) × (length bytes ≤ 4) × (length bytes ≡ fed_by goal) → ((place : ℕ) → skipped_by goal < length (characters_of (walk_from encoding (treatment handler encoding) true Unknown place 0 bytes).items)) → ((place : ℕ) → text_of text ≡ characters_of (walk_from encoding (treatment handler encoding) true Unknown place 0 bytes).items) → length (text_of text) ≤ 6 * length bytes → IsTextFrontOf (text_of text) skipped → skipped.chars ≡ length (take (skipped_by goal) (text_of text)) → LookedAt encoding handler goal bytes (Ok (fed.Fits text skipped))
fits_so encoding handler goal bytes text skipped restores feeds inside alone most front count =
    let lies : skipped_by goal ≤ length (text_of text) = omega (arith, inside 0, ap length (alone 0)) in (
      record { size = feeds.2; some = feeds.0; few = feeds.1; alone = alone; most = most; front = front; skips = count ∙ length-take-le (skipped_by goal) (text_of text) lies },
      restores,
    )

pub fed_looked : (before mid : Buffer) (encoding : Encoding) (handler : Handler) (goal : Cookie) (size : ℕ) (bytes : List ℕ) (result : Result Fed IoFault) → before.can.readable ≡ true → size ≡ fed_by goal → size ≤ 4 → FeedOutcome before size (Ok true) bytes mid → LookedAt encoding handler goal bytes result → FedOutcome before encoding handler goal result bytes mid
fed_looked before mid encoding handler goal size bytes (Ok (fed.Fits text skipped)) can sized few came looked = (feeds_few before mid size bytes false false few came.0, looked.0, fits_by before encoding handler goal size bytes true can sized came.1 looked.1)
fed_looked before mid encoding handler goal size bytes (Ok fed.Unfit) can sized few came looked = (feeds_few before mid size bytes false false few came.0, fits_by before encoding handler goal size bytes false can sized came.1 looked)
fed_looked before mid encoding handler goal size bytes (Ok fed.Waits) can sized few came looked = absurd looked
fed_looked before mid encoding handler goal size bytes (Err fault.NoMemory) can sized few came looked = feeds_few before mid size bytes false false few came.0
fed_looked before mid encoding handler goal size bytes (Err other) can sized few came looked = absurd (cc)

pub fed_waits : (before mid : Buffer) (encoding : Encoding) (handler : Handler) (goal : Cookie) (size : ℕ) (bytes : List ℕ) → size ≤ 4 → FeedOutcome before size (Ok false) bytes mid → FedOutcome before encoding handler goal (Ok fed.Waits) bytes mid
fed_waits before mid encoding handler goal size bytes few came = feeds_few before mid size bytes true false few came

pub fed_fails : (before mid : Buffer) (encoding : Encoding) (handler : Handler) (goal : Cookie) (size : ℕ) (bytes : List ℕ) (why : IoFault) → size ≤ 4 → FeedOutcome before size (Err why) bytes mid → FedOutcome before encoding handler goal (Err why) bytes mid
fed_fails before mid encoding handler goal size bytes fault.RawFault few came = feeds_few before mid size bytes false true few came
fed_fails before mid encoding handler goal size bytes fault.NoMemory few came = feeds_few before mid size bytes false false few came
fed_fails before mid encoding handler goal size bytes other few came = absurd came

-- Where the buffer is put.

-- behind a move, a text that is seen over the buffer before is seen over it there
seen_there : (before mid : Buffer) (encoding : Encoding) (handler : Handler) (goal : Cookie) (file : TextFile) → Calls before false false mid → mid.place ≡ start_of goal → IsTrue (tells before.raw) → file.settings.encoding ≡ encoding → file.settings.handler ≡ handler → file.can ≡ before.can → file.bytes ≡ (flat_of before).bytes → SeenFrom mid encoding handler goal file
seen_there before mid encoding handler goal file calls there told encoding_is handler_is can bytes = record {
  encoding_is = encoding_is;
  handler_is = handler_is;
  can = can ∙ sym calls.keeps.can;
  bytes =
      ap (λ (own : List ℕ). take (fed_by goal) (left_at own mid.place)) (calls.bytes told ∙ sym bytes)
      ∙ ap (λ (at : ℕ). take (fed_by goal) (left_at file.bytes at)) there;
}

restores_there : (before mid : Buffer) (encoding : Encoding) (handler : Handler) (goal : Cookie) (fits : Bool) → Calls before false false mid → mid.place ≡ start_of goal → FitsTold mid encoding handler goal fits → RestoresTold before encoding handler goal fits
restores_there before mid encoding handler goal fits calls there restores told file encoding_is handler_is can bytes =
    restores (tells_still before.raw mid.raw calls.keeps.raw ∙ told) file (seen_there before mid encoding handler goal file calls there told encoding_is handler_is can bytes)

stands_fed : (before mid after : Buffer) (goal : Cookie) (bytes : List ℕ) (waited faulted : Bool) → GoOutcome before (start_of goal) (Ok tt) mid → Feeds mid 4 bytes waited faulted after → StandsFed before goal bytes after
stands_fed before mid after goal bytes waited faulted gone feeds = record {
  few = feeds.few;
  place = omega (arith, feeds.place, gone.1);
  none = feeds.calls.none gone.2;
  reads = read_before feeds.reads;
  told = λ told. subst (IsFrontOf bytes) (ap (λ (own : List ℕ). left_at own mid.place) (gone.0.bytes told) ∙ ap (left_at (flat_of before).bytes) gone.1) (feeds.told (tells_still before.raw mid.raw gone.0.keeps.raw ∙ told));
}
  where
    read_before : (bytes ≡ []) ⊎ (mid.can.readable ≡ true) → (bytes ≡ []) ⊎ (before.can.readable ≡ true)
    read_before (inl none) = inl none
    read_before (inr reads) = inr (ap (λ (abilities : Abilities). abilities.readable) (sym gone.0.keeps.can) ∙ reads)

pub lands_inside : (before mid after : Buffer) (encoding : Encoding) (handler : Handler) (goal : Cookie) (text : String Global) (skipped : TextFront) (bytes : List ℕ) → GoOutcome before (start_of goal) (Ok tt) mid → FedOutcome mid encoding handler goal (Ok (fed.Fits text skipped)) bytes after → LandsInside before encoding handler goal text skipped bytes after
lands_inside before mid after encoding handler goal text skipped bytes gone came = record {
  calls = calls_on before mid after false false gone.0 came.0.calls;
  stands = stands_fed before mid after goal bytes false false gone came.0;
  fits = came.1;
  restores = restores_there before mid encoding handler goal true gone.0 gone.1 came.2;
}

pub lands_unfit : (before mid after : Buffer) (encoding : Encoding) (handler : Handler) (goal : Cookie) (bytes : List ℕ) → GoOutcome before (start_of goal) (Ok tt) mid → FedOutcome mid encoding handler goal (Ok fed.Unfit) bytes after → LandsAtStart before encoding handler goal fault.CannotRestore bytes after
lands_unfit before mid after encoding handler goal bytes gone came = record {
  calls = calls_on before mid after false false gone.0 came.0.calls;
  stands = stands_fed before mid after goal bytes false false gone came.0;
  unfit = λ is. restores_there before mid encoding handler goal false gone.0 gone.1 came.1;
  memory = λ is. absurd (cc);
}

pub lands_waiting : (before mid after : Buffer) (encoding : Encoding) (handler : Handler) (goal : Cookie) (bytes : List ℕ) → GoOutcome before (start_of goal) (Ok tt) mid → FedOutcome mid encoding handler goal (Ok fed.Waits) bytes after → LandsAtStart before encoding handler goal (fault.WouldBlock 0) bytes after
lands_waiting before mid after encoding handler goal bytes gone came = record {
  calls = (calls_on before mid after true false gone.0 came.calls, refl);
  stands = stands_fed before mid after goal bytes true false gone came;
  unfit = λ is. absurd (cc);
  memory = λ is. absurd (cc);
}

pub lands_failing : (before mid after : Buffer) (encoding : Encoding) (handler : Handler) (goal : Cookie) (why : IoFault) (bytes : List ℕ) → GoOutcome before (start_of goal) (Ok tt) mid → says_no_memory (Refused why) ≡ false → FedOutcome mid encoding handler goal (Err why) bytes after → LandsAtStart before encoding handler goal why bytes after
lands_failing before mid after encoding handler goal fault.RawFault bytes gone other came = record {
  calls = calls_on before mid after false true gone.0 came.calls;
  stands = stands_fed before mid after goal bytes false true gone came;
  unfit = λ is. absurd (cc);
  memory = λ is. absurd (cc);
}
lands_failing before mid after encoding handler goal fault.NoMemory bytes gone other came = absurd (cc)
lands_failing before mid after encoding handler goal why bytes gone other came = absurd came

-- out of memory
pub fed_starved : (before after : Buffer) (encoding : Encoding) (handler : Handler) (goal : Cookie) (why : IoFault) (bytes : List ℕ) → says_no_memory (Refused why) ≡ true → FedOutcome before encoding handler goal (Err why) bytes after → Feeds before 4 bytes false false after
fed_starved before after encoding handler goal fault.NoMemory bytes is came = came
fed_starved before after encoding handler goal fault.RawFault bytes is came = absurd (cc)
fed_starved before after encoding handler goal why bytes is came = absurd came

-- it didn't go there
pub lands_not : (before after : Buffer) (place : ℕ) (why : IoFault) → GoOutcome before place (Err why) after → LandsBack before why after
lands_not before after place (fault.WouldBlock taken) gone = record { calls = (gone.0, gone.2); place = gone.1; other = λ is. absurd (cc); owed = λ is. gone.3 }
lands_not before after place fault.RawFault gone = record { calls = gone.0; place = gone.1; other = λ is. absurd (cc); owed = λ is. absurd (cc) }
lands_not before after place fault.NoMemory gone = record { calls = gone.0; place = gone.1; other = λ is. absurd (cc); owed = λ is. absurd (cc) }
lands_not before after place other gone = absurd gone

-- Out of memory, on the way back.

-- a buffer can go on from where it was moved and read
pub goes_on_from : (before mid after : Buffer) (goal : Cookie) (bytes : List ℕ) → CanGo before → GoOutcome before (start_of goal) (Ok tt) mid → Feeds mid 4 bytes false false after → CanGo after
goes_on_from before mid after goal bytes can gone feeds =
    let calls = calls_on before mid after false false gone.0 feeds.calls in
    still_goes before after can calls.keeps calls.life_is

pub lands_back : (before mid read after : Buffer) (encoding : Encoding) (handler : Handler) (goal : Cookie) (bytes : List ℕ) (landing : Landing) → GoOutcome before (start_of goal) (Ok tt) mid → Feeds mid 4 bytes false false read → GoesBack read before.place landing after → LandOutcome before encoding handler goal landing bytes after
lands_back before mid read after encoding handler goal bytes (landing.Back fault.NoMemory) gone feeds back = record {
  calls = calls_on before read after false false (calls_on before mid read false false gone.0 feeds.calls) back.0;
  place = back.1;
  other = λ is. absurd (cc);
  owed = λ is. absurd (cc);
}
lands_back before mid read after encoding handler goal bytes (landing.Start why) gone feeds back = by_why why back
  where
    stood : StandsFed before goal bytes read
    stood = stands_fed before mid read goal bytes false false gone feeds

    calls : Calls before false false read
    calls = calls_on before mid read false false gone.0 feeds.calls

    stands : after.place ≡ read.place → after.owed.bytes ≡ [] → StandsFed before goal bytes after
    stands place none = record { few = stood.few; place = place ∙ stood.place; none = none; reads = stood.reads; told = stood.told }

    by_why : (why : IoFault) → GoOutcome read before.place (Err why) after → LandsAtStart before encoding handler goal why bytes after
    by_why fault.RawFault back = record { calls = calls_on before read after false true calls back.0; stands = stands back.1 (back.0.none stood.none); unfit = λ is. absurd (cc); memory = λ is. absurd (cc) }
    by_why fault.NoMemory back = record { calls = calls_on before read after false false calls back.0; stands = stands back.1 (back.0.none stood.none); unfit = λ is. absurd (cc); memory = λ is. sym calls.keeps.raw.takes_memory ∙ back.2 }
    by_why (fault.WouldBlock taken) back = absurd (back.3 stood.none)
    by_why other back = absurd back
lands_back before mid read after encoding handler goal bytes (landing.Back why) gone feeds back = absurd back
lands_back before mid read after encoding handler goal bytes (landing.Inside text skipped) gone feeds back = absurd back
