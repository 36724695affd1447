-- A call behind what handed on, as a call of the text before.
use Rattle.std.proofs.Common.{◌≡◌, ◌≢◌, ℕ, zero, suc, ℤ, pos, ◌+◌, ◌≤◌, inl, inr, ◌⊎◌, Bool, true, false, List, [], ◌∷◌, ◌++◌, length, None, Ok, refl, sym, ap, ◌∙◌, subst, arith}
use Rattle.std.proofs.lemmas.List.{length-append, length-drop}
use Rattle.py_flat.specs.declared.life.Life.{Life}
use Rattle.py_flat.specs.declared.life.Life.TheVariants as life
use Rattle.py_flat.specs.FlatFile.{Abilities}
use Rattle.py_flat.specs.declared.fault.IoFault.TheVariants as fault
use Rattle.py_flat.specs.Calls.{FileReply, Cookie as Told, Done, Refused}
use Rattle.py_flat.specs.Causes.{Rose, rose}
use Rattle.py_plain_text.specs.TextFile.{TextFile, TextPlace, TextSettings}
use Rattle.py_plain_text.specs.TextOver.{TextOver}
use Rattle.py_plain_text.specs.Cookie.{Cookie, cookie_bytes}
use Rattle.py_plain_text.specs.Landing.{start_of, fed_by}
use Rattle.py_plain_text.specs.TextCalls.{TextFileCall, SeekText, Flush, Close, Detach}
use Rattle.py_plain_text.specs.TextAllowed.{TextFileStep}
use Rattle.py_raw.specs.RawStream.{Keeps}
use Rattle.py_raw.proofs.Telling.{tells_still}
use Rattle.py_stream.specs.Kinds.{says_fault}
use Rattle.py_stream.specs.Buffer.{Buffer, WhereShown, KeepsBuffer}
use Rattle.py_held_text.specs.declared.wanted.Wanted.{Wanted}
use Rattle.py_held_text.specs.declared.wanted.Wanted.TheVariants.{Characters, Line}
use Rattle.py_read_text.specs.Reading.{call_of, asks_none}
use Rattle.py_read_text.proofs.Steps.{accepts_here}
use Rattle.py_read_text.specs.TextState.{TextState}
use Rattle.py_read_text.specs.Owing.{all_owed, behind_own, begins_at, PassesOwed, given_by, WriteMovesBy, OwesOn, own_from, flushes_behind, GaveOwn, Starves, KeepsOpen, Closes, IsJoined, LaysOwed}
use Rattle.py_read_text.proofs.Owing.{has_own, passes_then, passes_behind, open_then, owing_then}
use Rattle.py_read_text.specs.Ahead.{AsksAsNeeded, starts_at, ReadsNoFurther}
use Rattle.py_read_text.specs.Answers.{refused_here, calls_nothing, passes_on, gives_text, LifeMoves, PlaceMoves, ReadsOneLine, WriteMoves, settings_after, IsReplyTo, WantsMemory, closes_again, TextPasses, MovesByOwn, TextHolds, TextBlames, TellsWithin, SeeksBy, PutAtStart, TextSeeks, Answers}
use Rattle.py_read_text.specs.Knowing.{place_of}
use Rattle.py_textio.specs.Written.{WrittenView, behind_owed, place_now, over_of, state_of, file_now, CallsBuffer, HandsOnBut, HandsOn, SettleOutcome}
use Rattle.py_textio.specs.Working.{Works}
use Rattle.py_textio.proofs.Working.{answers_work}
use Rattle.py_textio.proofs.Ended.{back-some}
use Rattle.py_read_text.proofs.Fronts.{lays_on}

-- The buffer, called twice.

pub keeps_on : (before mid after : Buffer) → KeepsBuffer before mid → KeepsBuffer mid after → KeepsBuffer before after
keeps_on before mid after first second = grind arith

pub rose_on : (before mid after : ℕ) → before ≤ mid → Rose mid after → Rose before after
rose_on before mid after on is = grind arith

pub rose_still : (before mid after : ℕ) → before ≤ mid → mid ≤ after → rose before after ≡ false → rose mid after ≡ false
rose_still before mid after first second still = grind arith

pub calls_on : (before mid after : Buffer) (waited faulted : Bool) → CallsBuffer before false false mid → CallsBuffer mid waited faulted after → CallsBuffer before waited faulted after
calls_on before mid after waited faulted first second = record {
  keeps = keeps_on before mid after first.keeps second.keeps;
  wait = λ waits. rose_on before.raw.waits mid.raw.waits after.raw.waits first.keeps.raw.waits (second.wait waits);
  fault = λ faults. rose_on before.raw.faults mid.raw.faults after.raw.faults first.keeps.raw.faults (second.fault faults);
  faults = λ exact sound. second.faults (first.keeps.raw.counts_exactly ∙ exact) sound ∙ first.faults exact refl;
  stands = λ stood. second.stands (first.stands stood);
}

-- The text, which stays.

pub same_file : (old mid : WrittenView) → mid.text.buffer.can ≡ old.text.buffer.can → mid.life ≡ old.life → (file_now mid).bytes ≡ (file_now old).bytes → place_now mid ≡ place_now old → mid.text.settings ≡ old.text.settings → file_now mid ≡ file_now old
same_file old mid can current bytes place settings =
    ap (λ (own : List ℕ). let file : TextFile = record { bytes = own; place = place_now mid; can = mid.text.buffer.can; settings = mid.text.settings; life = mid.life } in file) bytes
    ∙ (ap (λ (own : TextPlace). let file : TextFile = record { bytes = (file_now old).bytes; place = own; can = mid.text.buffer.can; settings = mid.text.settings; life = mid.life } in file) place
    ∙ (ap (λ (own : Abilities). let file : TextFile = record { bytes = (file_now old).bytes; place = place_now old; can = own; settings = mid.text.settings; life = mid.life } in file) can
    ∙ (ap (λ (own : TextSettings). let file : TextFile = record { bytes = (file_now old).bytes; place = place_now old; can = old.text.buffer.can; settings = own; life = mid.life } in file) settings
    ∙ ap (λ (own : Life). let file : TextFile = record { bytes = (file_now old).bytes; place = place_now old; can = old.text.buffer.can; settings = old.text.settings; life = own } in file) current)))

pub handed_file : {given : List ℕ} → (old mid : WrittenView) (waited faulted : Bool) → HandsOnBut given old waited faulted mid → mid.life ≡ old.life → WhereShown old.text.buffer (file_now mid ≡ file_now old)
handed_file old mid waited faulted hands current = λ told. same_file old mid hands.calls.keeps.can current (hands.bytes told) hands.place hands.settings

same_writes : (old mid : WrittenView) → mid.text.buffer.can ≡ old.text.buffer.can → mid.text.buffer.can.writable ≡ old.text.buffer.can.writable
same_writes old mid can = ap (λ (abilities : Abilities). abilities.writable) can

-- Where the buffer stands.

-- a call that leaves all as it was
pub stays_put : (call : TextFileCall) (text : TextOver Buffer) → MovesByOwn call text text
stays_put Flush text = refl
stays_put Close text = refl
stays_put Detach text = refl
stays_put call text = tt

-- a call behind one that left the place behind what the text itself owed
pub moves_on : (call : TextFileCall) (old mid new : TextOver Buffer) → behind_own mid ≡ behind_own old → MovesByOwn call mid new → MovesByOwn call old new
moves_on Flush old mid new same moves = moves ∙ same
moves_on Close old mid new same moves = moves ∙ same
moves_on Detach old mid new same moves = moves ∙ same
moves_on call old mid new same moves = tt

behind_at : (place : TextPlace) (owed : List ℕ) → (behind_owed place owed).at ≡ place.at + length owed
behind_at place [] = omega arith
behind_at place (byte ∷ more) = omega arith

-- a text that stays as it is, and that read up to where its buffer stands: the place behind what it owes itself stays
pub behind_still : (old new : WrittenView) → old.text.at ≡ old.text.buffer.place → new.text.at ≡ new.text.buffer.place → place_now new ≡ place_now old → behind_own (over_of new) ≡ behind_own (over_of old)
behind_still old new stood there place = omega (arith, stood, there, behind_at (place_of old.text) old.pending, behind_at (place_of new.text) new.pending, ap (λ (own : TextPlace). own.at) place)

-- a call behind what handed on of a text that owed something is a call of that text
-- What is owed, by two calls.

-- of a call that gives no bytes, the settings being as they were
pub owes_behind : (old mid new : TextOver Buffer) (call : TextFileCall) → Keeps old.buffer.raw mid.buffer.raw → PassesOwed old.buffer.raw (all_owed old) mid.buffer.raw (all_owed mid) → mid.settings ≡ old.settings → mid.place ≡ old.place → OwesOn mid call new → OwesOn old call new
owes_behind old mid new call keeps first settings place second = record {
  taken = second.taken;
  whole = subst (λ (own : TextSettings). (second.taken ≡ []) ⊎ (second.taken ≡ given_by own call)) settings second.whole;
  place = subst (λ (own : TextPlace). WriteMovesBy call (length second.taken) own.at new.place.at) place second.place;
  passes = passes_then old.buffer.raw mid.buffer.raw new.buffer.raw (all_owed old ++ second.taken) (all_owed mid ++ second.taken) (all_owed new) keeps (passes_behind old.buffer.raw mid.buffer.raw (all_owed old) (all_owed mid) second.taken first) second.passes;
}

-- bytes that went on of a text whose buffer had taken all that it owed
gave_behind : (old mid : WrittenView) (flushes : Bool) (given : ℕ) (new : TextOver Buffer) → HandsOn old false false mid → mid.pending ≡ [] → GaveOwn flushes given (over_of mid) new → GaveOwn flushes given (over_of old) new
gave_behind old mid flushes given new hands none gave = by_gave gave
  where
    at : (place_now mid).at ≡ (place_now old).at
    at = ap (λ (place : TextPlace). place.at) hands.place

    from : own_from (over_of old) ≤ own_from (over_of mid)
    from = omega (arith, at, ap length none)

    -- no more bytes are left with the buffer than both owed
    left : length mid.text.buffer.owed.bytes + hands.owes.passed ≡ length old.text.buffer.owed.bytes + length old.pending
    left = omega (arith, hands.owes.most, ap length hands.owes.rest, length-drop hands.owes.passed (all_owed (over_of old)), length-append mid.text.buffer.owed.bytes mid.pending, length-append old.text.buffer.owed.bytes old.pending, ap length none)

    by_gave : GaveOwn flushes given (over_of mid) new → GaveOwn flushes given (over_of old) new
    by_gave (inr took) = inr took
    by_gave (inl took) = inl (
      took.0,
      record {
        further = omega (arith, took.1.further, from);
        stands = λ tells. omega (arith, took.1.stands (hands.calls.keeps.raw.tells_place ∙ tells), from);
        answered = λ tells. omega (arith, took.1.answered (hands.calls.keeps.raw.tells_transfers ∙ tells), hands.owes.answered tells, left);
      },
    )

starves_behind : (old mid : WrittenView) (call : TextFileCall) (reply : FileReply) (new : TextOver Buffer) → HandsOn old false false mid → old.pending ≢ [] → mid.pending ≡ [] → mid.life ≡ old.life → Starves (over_of mid) call reply new → Starves (over_of old) call reply new
starves_behind old mid call (Refused fault.NoMemory) new hands owes none current (inl stays) = inl (record { life_is = stays.life_is ∙ current; settings = stays.settings ∙ hands.settings; place = stays.place ∙ hands.place })
starves_behind old mid call (Refused fault.NoMemory) new hands owes none current (inr (inl failed)) = inr (inl (record { life_is = failed.life_is; takes = sym hands.calls.keeps.raw.takes_memory ∙ failed.takes; has = has_own (over_of old) call owes; gave = subst (λ (settings : TextSettings). GaveOwn (flushes_behind settings call) (length (given_by settings call)) (over_of old) new) hands.settings (gave_behind old mid (flushes_behind mid.text.settings call) (length (given_by mid.text.settings call)) new hands none failed.gave) }))
starves_behind old mid call (Refused fault.NoMemory) new hands owes none current (inr (inr moved)) = inr (inr (record { seeks = moved.seeks; takes = sym hands.calls.keeps.raw.takes_memory ∙ moved.takes; life_is = moved.life_is ∙ current; settings = moved.settings ∙ hands.settings }))
starves_behind old mid call reply new hands owes none current starves = tt

-- Where a seek leaves a text, behind a call that left its place and the place behind what it itself owed.

tells_on : (old mid : TextOver Buffer) (bytes : List ℕ) → mid.place ≡ old.place → behind_own mid ≡ behind_own old → TellsWithin bytes mid → TellsWithin bytes old
tells_on old mid bytes place behind tells = record {
  told = tells.told;
  bytes_are = tells.bytes_are;
  builds = tells.builds;
  forth = subst (λ (own : TextPlace). begins_at own ≤ start_of tells.told) place tells.forth;
  within = subst (λ (far : ℕ). start_of tells.told + fed_by tells.told ≤ far) behind tells.within;
  few = tells.few;
}

pub sought_on : (old mid : TextOver Buffer) (sought : List ℕ) (whence : ℤ) (goal : Cookie) → mid.place ≡ old.place → behind_own mid ≡ behind_own old → SeeksBy mid sought whence goal → SeeksBy old sought whence goal
sought_on old mid sought (pos (suc zero)) goal place behind by = tells_on old mid (cookie_bytes goal) place behind by
sought_on old mid sought (pos (suc (suc zero))) goal place behind by = by
sought_on old mid sought whence goal place behind by = by

put_on : (old mid : TextOver Buffer) (sought : List ℕ) (whence : ℤ) (after : TextPlace) → mid.place ≡ old.place → behind_own mid ≡ behind_own old → PutAtStart mid sought whence after → PutAtStart old sought whence after
put_on old mid sought whence after place behind put = record { goal = put.goal; by = sought_on old mid sought whence put.goal place behind put.by; skips = put.skips; place = put.place }

left_on : (old mid : TextOver Buffer) (sought : List ℕ) (whence : ℤ) (after : TextPlace) → mid.place ≡ old.place → behind_own mid ≡ behind_own old → (after ≡ mid.place) ⊎ PutAtStart mid sought whence after → (after ≡ old.place) ⊎ PutAtStart old sought whence after
left_on old mid sought whence after place behind (inl still) = inl (still ∙ place)
left_on old mid sought whence after place behind (inr put) = inr (put_on old mid sought whence after place behind put)

-- a call left what a seek goes by: the place, the place behind what the text itself owed, what its buffer can, whether its raw takes memory;
-- and if something is owed, something was
pub record LeavesSought (old mid : TextOver Buffer) : Type 0 where
  pub place : mid.place ≡ old.place
  pub behind : behind_own mid ≡ behind_own old
  pub can : mid.buffer.can ≡ old.buffer.can
  pub takes : mid.buffer.raw.takes_memory ≡ old.buffer.raw.takes_memory
  pub owed : all_owed mid ≢ [] → all_owed old ≢ []

waited_on : (old mid : TextOver Buffer) (sought : List ℕ) (whence : ℤ) (after : TextPlace) → LeavesSought old mid → ((after ≡ mid.place) × (all_owed mid ≢ [])) ⊎ PutAtStart mid sought whence after → ((after ≡ old.place) × (all_owed old ≢ [])) ⊎ PutAtStart old sought whence after
waited_on old mid sought whence after leaves (inl still) = inl (still.0 ∙ leaves.place, leaves.owed still.1)
waited_on old mid sought whence after leaves (inr put) = inr (put_on old mid sought whence after leaves.place leaves.behind put)

pub seeks_on : (old mid : TextOver Buffer) (call : TextFileCall) (reply : FileReply) (after : TextPlace) → LeavesSought old mid → TextSeeks call reply mid after → TextSeeks call reply old after
seeks_on old mid (SeekText sought whence) (Told bytes) after leaves put = record { goal = put.goal; by = sought_on old mid sought whence put.goal leaves.place leaves.behind put.by; says = put.says; place = put.place; inside = λ skips. let feeds = put.inside skips in (ap (λ (own : Abilities). own.readable) (sym leaves.can) ∙ feeds.0, feeds.1, feeds.2) }
seeks_on old mid (SeekText sought whence) (Refused fault.CannotRestore) after leaves put = put_on old mid sought whence after leaves.place leaves.behind put
seeks_on old mid (SeekText sought whence) (Refused (fault.WouldBlock taken)) after leaves left = waited_on old mid sought whence after leaves left
seeks_on old mid (SeekText sought whence) (Refused fault.RawFault) after leaves left = left_on old mid sought whence after leaves.place leaves.behind left
seeks_on old mid (SeekText sought whence) (Refused fault.NoMemory) after leaves (inl still) = inl (still ∙ leaves.place)
seeks_on old mid (SeekText sought whence) (Refused fault.NoMemory) after leaves (inr put) = inr (sym leaves.takes ∙ put.0, put_on old mid sought whence after leaves.place leaves.behind put.1)
seeks_on old mid (SeekText sought whence) reply after leaves still = still ∙ leaves.place
seeks_on old mid call reply after leaves none = tt

-- a text doesn't stand before where what it owes its buffer begins
pub reaches_place : (place : TextPlace) (owed : List ℕ) → place.at ≤ (behind_owed place owed).at
reaches_place place [] = omega arith
reaches_place place (byte ∷ more) = omega arith

-- a reading behind what was handed on asks for no more chunks
needs_over : (old mid new : WrittenView) (call : TextFileCall) (short : Bool) → HandsOn old false false mid → mid.life ≡ old.life → old.text.at ≡ old.text.buffer.place → mid.text.at ≡ mid.text.buffer.place → ReadsNoFurther (state_of mid false) call (state_of new short) → ReadsNoFurther (state_of old false) call (state_of new short)
needs_over old mid new call short hands current stood there needs told =
    let start : starts_at (state_of mid false) ≡ starts_at (state_of old false) = omega (arith, stood, there, reaches_place (place_of old.text) old.pending, reaches_place (place_of mid.text) mid.pending, ap (λ (place : TextPlace). place.at) hands.place) in
    subst (λ (file : TextFile). AsksAsNeeded file call old.text.settings.chunk_size (starts_at (state_of old false)) new.text.buffer.place) (handed_file old mid false false hands current told)
    (subst (λ (settings : TextSettings). AsksAsNeeded (file_now mid) call settings.chunk_size (starts_at (state_of old false)) new.text.buffer.place) hands.settings
    (subst (λ (at : ℕ). AsksAsNeeded (file_now mid) call mid.text.settings.chunk_size at new.text.buffer.place) start (needs (tells_still old.text.buffer.raw mid.text.buffer.raw hands.calls.keeps.raw ∙ told))))

pub answers_over : (old mid : WrittenView) (call : TextFileCall) (reply : FileReply) (new : WrittenView) (short : Bool) → IsJoined (over_of old) → IsJoined (over_of mid) → old.text.buffer.can.writable ≡ true → old.life ≡ life.Live → mid.life ≡ life.Live → old.text.at ≡ old.text.buffer.place → mid.text.at ≡ mid.text.buffer.place → HandsOn old false false mid → mid.pending ≡ [] → passes_on old.pending call ≡ true → old.pending ≢ [] → calls_nothing call ≡ false → closes_again life.Live call ≡ false → refused_here (file_now old) call ≡ None → refused_here (file_now mid) call ≡ None → WriteMoves (over_of old) call reply (over_of new) → TextPasses (state_of old false) call reply (state_of new short) → WantsMemory call reply old.text.buffer → Closes old.life call old.text.buffer reply new.text.buffer → (gives_text call ≡ true → ReadsNoFurther (state_of old false) call (state_of new short)) → TextHolds (over_of old) call reply (over_of new) → Answers (state_of mid false) call reply (state_of new short) → Works old call reply new short
answers_over old mid call reply new short was is writes live lives stood there hands none busy owes some once accepted still written passes wants closes needs holds answers =
    let can : mid.text.buffer.can ≡ old.text.buffer.can = hands.calls.keeps.can in
    let current : mid.life ≡ old.life = lives ∙ sym live in
    let mid_writes : mid.text.buffer.can.writable ≡ true = same_writes old mid can ∙ writes in
    let behind : behind_own (over_of mid) ≡ behind_own (over_of old) = behind_still old mid stood there hands.place in
    record {
      accepted = accepted;
      once = ap (λ (own : Life). closes_again own call) live ∙ once;
      some = some;
      busy = busy;
      writes = writes;
      calls = calls_on old.text.buffer mid.text.buffer new.text.buffer short (says_fault reply) hands.calls (record {
        keeps = answers.keeps;
        wait = answers.causes.waits;
        fault = answers.causes.faults;
        faults = λ exact sound. (answers.counted exact).faults sound;
        stands = answers.stands;
      });
      shorts = answers.shorts;
      settings = subst (λ (own : TextSettings). new.text.settings ≡ settings_after call reply own) hands.settings answers.moves.settings;
      life_is = subst (λ (own : Bool). LifeMoves own call reply old.life new.life) mid_writes (subst (λ (own : Life). LifeMoves mid.text.buffer.can.writable call reply own new.life) current answers.moves.life_is);
      place = subst (λ (own : TextPlace). PlaceMoves call short reply own new.text.buffer.place (place_now new)) hands.place answers.moves.place;
      written = written;
      lines = subst (λ (own : TextSettings). ReadsOneLine own.newline call reply) hands.settings answers.lines;
      blames = subst (λ (own : TextSettings). TextBlames call reply own (place_now old) new.text.buffer.place) hands.settings
          (subst (λ (own : TextPlace). TextBlames call reply mid.text.settings own new.text.buffer.place) hands.place answers.blames);
      seeks = seeks_on (over_of old) (over_of mid) call reply (place_now new) (record { place = hands.place; behind = behind; can = can; takes = hands.calls.keeps.raw.takes_memory; owed = λ left. back-some old.text.buffer.owed.bytes old.pending owes }) answers.seeks;
      joined = answers.joined;
      owes = owes_behind (over_of old) (over_of mid) (over_of new) call hands.calls.keeps.raw hands.owes hands.settings hands.place answers.owes;
      lays = subst (λ (own : TextSettings). LaysOwed (over_of old) (all_owed (over_of old) ++ given_by own call) (over_of new)) hands.settings
          (lays_on (over_of old) (over_of mid) (over_of new) (given_by mid.text.settings call) was is (ap (λ (place : TextPlace). place.at) hands.place) hands.calls.keeps.raw hands.owes hands.bytes hands.lays answers.lays);
      starves = starves_behind old mid call reply (over_of new) hands owes none current answers.starves;
      closes = closes;
      stays = λ is. open_then old.text.buffer mid.text.buffer new.text.buffer hands.stays (answers.stays is);
      unclosed = owing_then old.text.buffer mid.text.buffer (over_of new) hands.stays answers.unclosed;
      stops = answers.stops;
      answer = subst (λ (own : Bool). IsReplyTo own call reply) mid_writes (answers.answer still);
      complete = λ calm sound. answers.complete still
          (rose_still old.text.buffer.raw.waits mid.text.buffer.raw.waits new.text.buffer.raw.waits hands.calls.keeps.raw.waits answers.keeps.raw.waits calm)
          (rose_still old.text.buffer.raw.faults mid.text.buffer.raw.faults new.text.buffer.raw.faults hands.calls.keeps.raw.faults answers.keeps.raw.faults sound);
      wants = wants;
      shut = λ none. absurd (owes none);
      told = λ told. subst (λ (file : TextFile). TextFileStep file call reply short (says_fault reply) (file_now new)) (handed_file old mid false false hands current told) (answers.told (tells_still old.text.buffer.raw mid.text.buffer.raw hands.calls.keeps.raw ∙ told));
      needs = needs;
      hides = λ is gives none. let hidden = answers.hides is gives none in record { empty = hidden.empty; shows = λ told. hidden.shows (tells_still old.text.buffer.raw mid.text.buffer.raw hands.calls.keeps.raw ∙ told) };
      passes = passes;
      by_own = moves_on call (over_of old) (over_of mid) (over_of new) behind answers.by_own;
      kept = answers.kept;
      holds = holds;
    }

-- A call of a live text that owed something, behind what was handed on.

unwritten_read : (asked : Wanted) (before : TextOver Buffer) (reply : FileReply) (after : TextOver Buffer) → WriteMoves before (call_of asked) reply after
unwritten_read (Characters size) before reply after = tt
unwritten_read (Line limit) before reply after = tt

unpassed_read : (asked : Wanted) (before : TextState) (reply : FileReply) (after : TextState) → TextPasses before (call_of asked) reply after
unpassed_read (Characters size) before reply after = tt
unpassed_read (Line limit) before reply after = tt

unheld_read : (asked : Wanted) (before : TextOver Buffer) (reply : FileReply) (after : TextOver Buffer) → TextHolds before (call_of asked) reply after
unheld_read (Characters size) before reply after = tt
unheld_read (Line limit) before reply after = tt

unwanted_read : (asked : Wanted) (reply : FileReply) (buffer : Buffer) → WantsMemory (call_of asked) reply buffer
unwanted_read (Characters size) reply buffer = tt
unwanted_read (Line limit) reply buffer = tt

unclosed_read : (asked : Wanted) (current : Life) (before : Buffer) (reply : FileReply) (after : Buffer) → Closes current (call_of asked) before reply after
unclosed_read (Characters size) current before reply after = tt
unclosed_read (Line limit) current before reply after = tt

once_read : (asked : Wanted) → closes_again life.Live (call_of asked) ≡ false
once_read (Characters size) = refl
once_read (Line limit) = refl

some_read : (asked : Wanted) → asks_none asked ≡ false → calls_nothing (call_of asked) ≡ false
some_read asked some = grind arith

busy_read : (owed : List ℕ) (asked : Wanted) → owed ≢ [] → passes_on owed (call_of asked) ≡ true
busy_read [] asked some = absurd (some refl)
busy_read (byte ∷ more) (Characters size) some = refl
busy_read (byte ∷ more) (Line limit) some = refl

pub read_over : (old mid new : WrittenView) (asked : Wanted) (reply : FileReply) (short : Bool) → IsJoined (over_of old) → IsJoined (over_of mid) → old.text.buffer.can.writable ≡ true → old.life ≡ life.Live → old.text.at ≡ old.text.buffer.place → mid.text.at ≡ mid.text.buffer.place → old.pending ≢ [] → old.text.buffer.can.readable ≡ true → asks_none asked ≡ false → SettleOutcome old (Ok tt) mid → Answers (state_of mid false) (call_of asked) reply (state_of new short) → Answers (state_of old false) (call_of asked) reply (state_of new short)
read_over old mid new asked reply short was is writes live stood there owes can some outcome answers =
    let hands = outcome.0 in
    let still : mid.text.buffer.can.readable ≡ true = ap (λ (own : Abilities). own.readable) hands.calls.keeps.can ∙ can in
    answers_work old (call_of asked) reply new short (answers_over old mid (call_of asked) reply new short was is writes live outcome.2 stood there hands outcome.1 (busy_read old.pending asked owes) owes (some_read asked some) (once_read asked) (accepts_here (file_now old) asked live can) (accepts_here (file_now mid) asked outcome.2 still) (unwritten_read asked (over_of old) reply (over_of new)) (unpassed_read asked (state_of old false) reply (state_of new short)) (unwanted_read asked reply old.text.buffer) (unclosed_read asked old.life old.text.buffer reply new.text.buffer) (λ gives. needs_over old mid new (call_of asked) short hands (outcome.2 ∙ sym live) stood there (answers.needs gives)) (unheld_read asked (over_of old) reply (over_of new)) answers)

pub busy_other : (owed : List ℕ) (call : TextFileCall) → owed ≢ [] → passes_on owed call ≡ true
busy_other [] call some = absurd (some refl)
busy_other (byte ∷ more) call some = grind arith

wants_flush : (old mid : Buffer) (reply : FileReply) → KeepsBuffer old mid → WantsMemory Flush reply mid → WantsMemory Flush reply old
wants_flush old mid reply keeps wants = grind arith

wants_close : (old mid : Buffer) (reply : FileReply) → KeepsBuffer old mid → WantsMemory Close reply mid → WantsMemory Close reply old
wants_close old mid reply keeps wants = grind arith

closes_behind : (was current : Life) (reply : FileReply) (before mid after : Buffer) → was ≡ life.Live → KeepsOpen before mid → Closes was Close mid reply after → Closes current Close before reply after
closes_behind was current Done before mid after live kept closes = λ lives. ((closes live).0, λ closed. (closes live).1 (kept.stays closed).1)
closes_behind was current (Refused fault.RawFault) before mid after live kept closes = λ was_there. closes (kept.attached was_there)
closes_behind was current reply before mid after live kept closes = tt

passes_close : (old mid : TextState) (reply : FileReply) (after : TextState) → mid.text.life ≡ life.Live → TextPasses mid Close reply after → TextPasses old Close reply after
passes_close old mid reply after lives passes = grind arith

passes_flush : (old mid : TextState) (reply : FileReply) (after : TextState) → TextPasses mid Flush reply after → TextPasses old Flush reply after
passes_flush old mid reply after passes = grind arith

pub flush_over : (old mid new : WrittenView) (reply : FileReply) (short : Bool) → IsJoined (over_of old) → IsJoined (over_of mid) → old.text.buffer.can.writable ≡ true → old.life ≡ life.Live → old.text.at ≡ old.text.buffer.place → mid.text.at ≡ mid.text.buffer.place → old.pending ≢ [] → SettleOutcome old (Ok tt) mid → Answers (state_of mid false) Flush reply (state_of new short) → Answers (state_of old false) Flush reply (state_of new short)
flush_over old mid new reply short was is writes live stood there owes outcome answers =
    let hands = outcome.0 in
    answers_work old Flush reply new short (answers_over old mid Flush reply new short was is writes live outcome.2 stood there hands outcome.1 (busy_other old.pending Flush owes) owes refl refl (rw live refl) (rw outcome.2 refl) tt (passes_flush (state_of old false) (state_of mid false) reply (state_of new short) answers.passes) (wants_flush old.text.buffer mid.text.buffer reply hands.calls.keeps answers.wants) tt (λ gives. absurd (cc)) tt answers)

pub close_over : (old mid new : WrittenView) (reply : FileReply) (short : Bool) → IsJoined (over_of old) → IsJoined (over_of mid) → old.text.buffer.can.writable ≡ true → old.life ≡ life.Live → old.text.at ≡ old.text.buffer.place → mid.text.at ≡ mid.text.buffer.place → old.pending ≢ [] → SettleOutcome old (Ok tt) mid → Answers (state_of mid false) Close reply (state_of new short) → Answers (state_of old false) Close reply (state_of new short)
close_over old mid new reply short was is writes live stood there owes outcome answers =
    let hands = outcome.0 in
    answers_work old Close reply new short (answers_over old mid Close reply new short was is writes live outcome.2 stood there hands outcome.1 (busy_other old.pending Close owes) owes refl refl (rw live refl) (rw outcome.2 refl) tt (passes_close (state_of old false) (state_of mid false) reply (state_of new short) outcome.2 answers.passes) (wants_close old.text.buffer mid.text.buffer reply hands.calls.keeps answers.wants) (closes_behind mid.life old.life reply old.text.buffer mid.text.buffer new.text.buffer outcome.2 hands.stays answers.closes) (λ gives. absurd (cc)) tt answers)
