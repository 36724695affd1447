-- A detaching: what a flush that begins it answers is the answer of the detaching, and a failed text is handed over as it is.
use Rattle.std.proofs.Common.{◌≡◌, ◌≢◌, ℕ, ◌+◌, ◌-◌, inl, inr, ◌⊎◌, ◌||◌, ◌&&◌, Bool, true, false, IsTrue, is_none, List, [], ◌∷◌, length, Option, Some, None, Result, Ok, Err, if◌then◌else◌, refl, sym, ap, ◌∙◌, subst, arith}
use Rattle.py_flat.specs.declared.fault.IoFault.{IoFault}
use Rattle.py_flat.specs.declared.fault.IoFault.TheVariants as fault
use Rattle.py_flat.specs.declared.life.Life.{Life}
use Rattle.py_flat.specs.declared.life.Life.TheVariants as life
use Rattle.py_flat.specs.Bytes.{lay}
use Rattle.py_flat.specs.Calls.{FileReply, Done, Unwritten, Refused}
use Rattle.py_flat.specs.FlatFile.{Abilities}
use Rattle.py_flat.specs.AllowedStep.{settled, waited_for, raw_faulted, out_of_memory}
use Rattle.py_flat.specs.BinaryStep.{StandAt, is_live}
use Rattle.py_flat.proofs.Laying.{lay_reads_back}
use Rattle.py_plain_text.specs.TextFile.{TextFile, TextPlace, TextSettings}
use Rattle.py_plain_text.specs.TextOver.{TextOver}
use Rattle.py_plain_text.specs.TextCalls.{TextFileCall, Flush, Detach}
use Rattle.py_plain_text.specs.TextRefusals.{refusal}
use Rattle.py_plain_text.specs.TextExact.{in_life, handed_place}
use Rattle.py_plain_text.specs.TextAllowed.{SettledBy, DetachesIn, does_work, reaches_raw, Starved, TextFileStep}
use Rattle.py_raw.proofs.Telling.{keeps_same}
use Rattle.py_stream.specs.Replies.{done_reply}
use Rattle.py_stream.specs.Buffer.{Buffer, flat_of}
use Rattle.py_read_text.specs.TextState.{TextState, file_of, settings_of}
use Rattle.py_read_text.specs.Owing.{all_owed, behind_own, IsJoined, JoinsAt, Starves}
use Rattle.py_read_text.specs.Answers.{passes_on, IsReplyTo, IsComplete, LifeMoves, WantsMemory, Answers}
use Rattle.py_read_text.proofs.Owing.{passes_none, owes_none, open_still, joined_in}
use Rattle.py_read_text.proofs.Fronts.{lays_still}
use Rattle.py_read_text.proofs.Living.{lives_on}
use Rattle.py_textio.specs.declared.text_left.TextLeft.{TextLeft}
use Rattle.py_textio.specs.Handing.{place_handed, handed_over, owed_then, HandsOver, RefusesDetach, left_behind, detached_text, kept_abilities, can_of, seen_as, IsAttached, BeginsDetachIn, BeginsDetach}
use Rattle.py_textio.proofs.Detached.{detached_answers}

-- What refuses it: of a text that didn't fail what refuses a flush.

same_refusal : (file : TextFile) (current : Life) → file.life ≡ current → current ≢ life.Failed → refusal file Detach ≡ refusal file Flush
same_refusal file life.Live is other = rw is refl
same_refusal file life.Failed is other = absurd (other refl)
same_refusal file life.Closed is other = rw is refl
same_refusal file life.Detached is other = rw is refl

same_passes : (owed : List ℕ) → passes_on owed Detach ≡ passes_on owed Flush
same_passes [] = refl
same_passes (byte ∷ more) = refl

-- A flush that is refused.

same_work : (file : TextFile) → refusal file Detach ≡ refusal file Flush → does_work file Detach ≡ does_work file Flush
same_work file same = ap (λ (refused : Option IoFault). is_live file.life && (is_none refused && true)) same

same_reach : (file : TextFile) → refusal file Detach ≡ refusal file Flush → reaches_raw file Detach ≡ reaches_raw file Flush
same_reach file same = ap (λ (works : Bool). works || false) (same_work file same)

settles_so : (file : TextFile) (why : IoFault) (after : TextFile) (refused : Option IoFault) → SettledBy file Flush refused (Refused why) after → SettledBy file Detach refused (Refused why) after
settles_so file why after (Some fault) is = is
settles_so file why after None is = let wrong : Refused why ≡ Done = ap (λ (pair : FileReply × TextFile). pair.0) is in absurd (cc)

starves_step : (file after : TextFile) → refusal file Detach ≡ refusal file Flush → Starved file Flush after → Starved file Detach after
starves_step file after same (inl still) = inl (subst IsTrue (sym (ap (λ (reaches : Bool). reaches || false) (same_reach file same))) still.0, still.1)
starves_step file after same (inr fails) = inr (subst IsTrue (sym (same_reach file same)) fails.0, fails.1)

step_refused : (file : TextFile) (why : IoFault) (waited faulted : Bool) (after : TextFile) → refusal file Detach ≡ refusal file Flush → TextFileStep file Flush (Refused why) waited faulted after → TextFileStep file Detach (Refused why) waited faulted after
step_refused file why waited faulted after same (settled is) = settled (subst (λ (refused : Option IoFault). SettledBy file Detach refused (Refused why) after) (sym same) (settles_so file why after (refusal file Flush) is))
step_refused file why waited faulted after same (waited_for waits is) = waited_for waits (subst IsTrue (sym (same_work file same)) is.0, is.1)
step_refused file why waited faulted after same (raw_faulted faults says is) = raw_faulted faults says (subst IsTrue (sym (same_reach file same)) is.0, is.1)
step_refused file why waited faulted after same (out_of_memory says is) = out_of_memory says (starves_step file after same is)

life_refused : (writes : Bool) (why : IoFault) (before after : Life) → LifeMoves writes Flush (Refused why) before after → LifeMoves writes Detach (Refused why) before after
life_refused writes fault.NoMemory before after moves = moves
life_refused writes fault.RawFault before after moves = moves
life_refused writes why before after moves = moves

starves_refused : (before after : TextOver Buffer) (why : IoFault) → Starves before Flush (Refused why) after → Starves before Detach (Refused why) after
starves_refused before after fault.NoMemory (inl stays) = inl stays
starves_refused before after fault.NoMemory (inr (inl failed)) = inr (inl (record { life_is = failed.life_is; takes = failed.takes; has = failed.has; gave = failed.gave }))
starves_refused before after fault.NoMemory (inr (inr moved)) = let never : false ≡ true = moved.seeks in absurd (cc)
starves_refused before after why starves = tt

reply_refused : (writes : Bool) (why : IoFault) → IsReplyTo writes Flush (Refused why) → IsReplyTo writes Detach (Refused why)
reply_refused writes (fault.WouldBlock taken) is = is
reply_refused writes fault.RawFault is = tt
reply_refused writes fault.NoMemory is = tt
reply_refused writes why is = absurd is

complete_refused : (why : IoFault) (short : Bool) → IsComplete Flush (Refused why) short → IsComplete Detach (Refused why) short
complete_refused fault.NoMemory short is = record { answer = tt; whole = is.whole }
complete_refused why short is = absurd is.answer

wants_refused : (why : IoFault) (buffer : Buffer) → WantsMemory Flush (Refused why) buffer → WantsMemory Detach (Refused why) buffer
wants_refused fault.NoMemory buffer wants = wants
wants_refused why buffer wants = tt

-- a flush that is refused, of a text that didn't fail, is a detaching that is refused
pub refuses_so : (old new : TextState) (why : IoFault) → old.text.life ≢ life.Failed → Answers old Flush (Refused why) new → Answers old Detach (Refused why) new
refuses_so old new why other answers =
    let same = same_refusal (file_of old) old.text.life refl other in
    record {
      keeps = answers.keeps;
      refused = λ refuses here. answers.refused refuses (sym same ∙ here);
      again = λ closes. absurd (cc);
      causes = answers.causes;
      counted = λ exact. let counts = answers.counted exact in record { faults = counts.faults; ends = λ own. counts.ends (sym (same_passes old.text.owed) ∙ own) };
      shorts = answers.shorts;
      nothing = λ none. absurd (cc);
      moves = record { settings = answers.moves.settings; life_is = life_refused old.text.buffer.can.writable why old.text.life new.text.life answers.moves.life_is; place = answers.moves.place; written = tt };
      lines = tt;
      blames = tt;
      tells = tt;
      seeks = tt;
      joined = answers.joined;
      owes = record { taken = answers.owes.taken; whole = answers.owes.whole; place = tt; passes = answers.owes.passes };
      lays = answers.lays;
      starves = starves_refused old.text new.text why answers.starves;
      closes = tt;
      stays = λ is. answers.stays refl;
      unclosed = answers.unclosed;
      stops = answers.stops;
      answer = λ accepts. reply_refused old.text.buffer.can.writable why (answers.answer (sym same ∙ accepts));
      complete = λ accepts calm sound. complete_refused why new.short (answers.complete (sym same ∙ accepts) calm sound);
      wants = wants_refused why old.text.buffer answers.wants;
      shut = λ own. tt;
      spares = answers.spares;
      tied = record { owed = answers.tied.owed; life_is = λ can was had. answers.tied.life_is can was refl };
      stands = answers.stands;
      told = λ told. step_refused (file_of old) why new.short _ (file_of new) same (answers.told told);
      needs = λ gives. absurd (cc);
      brings = λ gives. absurd (cc);
      hides = λ is gives. absurd (cc);
      passes = tt;
      by_own = answers.by_own;
      kept = tt;
      holds = tt;
    }

-- A flush that was done.

-- the text behind it, once it is detached
abbrev detached_as : TextState → TextState
detached_as state = record state { text = record state.text { life = life.Detached } }

accepts_live : (file : TextFile) (call : TextFileCall) → file.life ≡ life.Live → refusal file Flush ≡ None
accepts_live file call live = rw live refl

-- it left the text file as it was
flushed_file : (file : TextFile) (short : Bool) (after : TextFile) → file.life ≡ life.Live → short ≡ false → TextFileStep file Flush Done short false after → after ≡ file
flushed_file file short after live whole (settled is) = ap (λ (pair : FileReply × TextFile). pair.1) (subst (λ (refused : Option IoFault). SettledBy file Flush refused Done after) (accepts_live file Flush live) is)
flushed_file file short after live whole (waited_for waits is) = absurd (cc)
flushed_file file short after live whole (raw_faulted faults says is) = absurd (cc)
flushed_file file short after live whole (out_of_memory says is) = absurd (cc)

at_all : (at : ℕ) → at - length {A = ℕ} [] ≡ at
at_all at = omega arith

place_so : (text : TextOver Buffer) → place_handed text [] ≡ handed_place (file_of (record { text = text; short = false }))
place_so text = ap (λ (at : ℕ). if text.buffer.can.seekable then Some at else None) (at_all text.place.at)

detach_step : (file : TextFile) (place : Option ℕ) (after : TextFile) → file.life ≡ life.Live → refusal file Detach ≡ None → place ≡ handed_place file → after ≡ in_life file life.Detached → TextFileStep file Detach (Unwritten [] place) false false after
detach_step file place after live accepts place_is same =
    settled (subst (λ (refused : Option IoFault). SettledBy file Detach refused (Unwritten [] place) after) (sym accepts)
    (subst (λ (current : Life). DetachesIn current file (Unwritten [] place) after) (sym live)
    (ap (λ (at : Option ℕ). let pair : FileReply × TextFile = (Unwritten [] at, after) in pair) place_is
    ∙ ap (λ (own : TextFile). let pair : FileReply × TextFile = (Unwritten [] (handed_place file), own) in pair) same)))

detached_done : (old new : TextState) → old.text.life ≡ life.Live → Answers old Flush Done new → Answers old Detach (Unwritten [] (place_handed old.text [])) (detached_as new)
detached_done old new live answers =
    let accepts : refusal (file_of old) Flush ≡ None = accepts_live (file_of old) Flush live in
    let same : refusal (file_of old) Detach ≡ refusal (file_of old) Flush = same_refusal (file_of old) life.Live live (λ wrong. absurd (cc)) in
    let whole : new.short ≡ false = answers.shorts in
    record {
      keeps = answers.keeps;
      refused = λ refuses here. let never = sym (same ∙ accepts) ∙ here in absurd (cc);
      again = λ closes. absurd (cc);
      causes = record { waits = answers.causes.waits; faults = λ fails. absurd (cc) };
      counted = λ exact.
          let counts = answers.counted exact in
          record {
            faults = λ sound. counts.faults refl;
            ends = λ own. let ends = counts.ends (sym (same_passes old.text.owed) ∙ own) in record { waits = λ calm has. ends.waits calm refl; once = ends.once; most = ends.most };
          };
      shorts = whole;
      nothing = λ none. absurd (cc);
      moves = record { settings = answers.moves.settings; life_is = refl; place = answers.moves.place; written = tt };
      lines = tt;
      blames = tt;
      tells = tt;
      seeks = tt;
      joined = joined_in life.Detached (λ live. absurd (cc)) answers.joined;
      owes = record { taken = answers.owes.taken; whole = answers.owes.whole; place = tt; passes = answers.owes.passes };
      lays = answers.lays;
      starves = tt;
      closes = tt;
      stays = λ is. answers.stays refl;
      unclosed = answers.unclosed;
      stops = λ short. absurd (cc);
      answer = λ taken. tt;
      complete = λ taken calm sound. record { answer = tt; whole = whole };
      wants = tt;
      shut = λ own. tt;
      spares = answers.spares;
      tied = record { owed = answers.tied.owed; life_is = λ can was had. absurd (cc) };
      stands = answers.stands;
      told = λ told. subst (λ (short : Bool). TextFileStep (file_of old) Detach (Unwritten [] (place_handed old.text [])) short false (file_of (detached_as new))) (sym whole)
          (detach_step (file_of old) (place_handed old.text []) (file_of (detached_as new)) live (same ∙ accepts) (place_so old.text) (ap (λ (file : TextFile). in_life file life.Detached) (flushed_file (file_of old) new.short (file_of new) live whole (answers.told told))));
      needs = λ gives. absurd (cc);
      brings = λ gives. absurd (cc);
      hides = λ is gives. absurd (cc);
      passes = λ lives. let passed = answers.passes in record { own = passed.own; none = passed.none; holds = passed.holds };
      by_own = answers.by_own;
      kept = tt;
      holds = tt;
    }

-- the text that was handed over, by its parts
handed_so : (old new : TextState) → new.text.owed ≡ [] → new.text.place ≡ old.text.place → new.text.settings ≡ old.text.settings → new.short ≡ false → detached_as new ≡ handed_over old new.text.buffer []
handed_so old new owed place settings whole = rw (owed, place, settings, whole) refl

pub hands_live : (old new : TextState) → old.text.life ≡ life.Live → Answers old Flush Done new → Answers old Detach (Unwritten [] (place_handed old.text [])) (handed_over old new.text.buffer [])
hands_live old new live answers =
    subst (λ (after : TextState). Answers old Detach (Unwritten [] (place_handed old.text [])) after)
    (handed_so old new answers.passes.own answers.moves.place answers.moves.settings answers.shorts)
    (detached_done old new live answers)

-- A failed text.

accepts_failed : (file : TextFile) → file.life ≡ life.Failed → refusal file Detach ≡ None
accepts_failed file is = rw is refl

-- what the text itself owes begins where the buffer stands
begins_there : {from taken : ℕ} {current : Life} → (buffer : Buffer) (owed : List ℕ) (at : ℕ) → JoinsAt buffer owed from at taken current → (owed ≡ []) ⊎ (at - length owed ≡ buffer.place)
begins_there buffer owed at joined = by joined.stands
  where
    by : ((buffer.owed.bytes ≡ []) × (owed ≡ [])) ⊎ (at ≡ buffer.place + length owed) → (owed ≡ []) ⊎ (at - length owed ≡ buffer.place)
    by (inl none) = inl none.1
    by (inr stands) = inr (omega (arith, stands))

stand_so : (bytes owed : List ℕ) (place from : ℕ) (seekable : Bool) → (owed ≡ []) ⊎ (from ≡ place) → StandAt owed seekable (if seekable then Some from else None) (lay bytes place owed)
stand_so bytes owed place from true (inl none) = rw none refl
stand_so bytes owed place from true (inr is) = rw is (lay_reads_back bytes place owed)
stand_so bytes owed place from false begins = (place, lay_reads_back bytes place owed)

pub hands_failed : (old : TextState) → old.text.life ≡ life.Failed → IsJoined old.text → Answers old Detach (Unwritten old.text.owed (place_handed old.text old.text.owed)) (handed_over old old.text.buffer old.text.owed)
hands_failed old failed joined =
    let file : TextFile = file_of old in
    let accepts : refusal file Detach ≡ None = accepts_failed file failed in
    record {
      keeps = record { raw = keeps_same old.text.buffer.raw; can = refl; buffering = refl; exported = refl };
      refused = λ why here. let never = sym accepts ∙ here in absurd (cc);
      again = λ closes. absurd (cc);
      causes = record { waits = λ short. absurd (cc); faults = λ fails. absurd (cc) };
      counted = λ exact. record { faults = λ sound. refl; ends = λ own. record { waits = λ whole has. refl; once = λ short. absurd (cc); most = inl refl } };
      shorts = refl;
      nothing = λ none. refl;
      moves = record { settings = refl; life_is = refl; place = refl; written = tt };
      lines = tt;
      blames = tt;
      tells = tt;
      seeks = tt;
      joined = joined_in life.Detached (λ live. absurd (cc)) joined;
      owes = owes_none old.text Detach (handed_over old old.text.buffer old.text.owed).text tt (passes_none old.text.buffer.raw (all_owed old.text));
      lays = lays_still old.text _;
      starves = tt;
      closes = tt;
      stays = λ is. open_still old.text.buffer;
      unclosed = λ some closed. refl;
      stops = λ short. absurd (cc);
      answer = λ taken. tt;
      complete = λ taken calm sound. record { answer = tt; whole = refl };
      wants = tt;
      shut = λ own. tt;
      spares = λ can none. record { bytes = λ told. refl; written = λ told. refl; owed = none };
      tied = record { owed = λ can. refl; life_is = λ can was had. absurd (cc) };
      stands = λ stood. stood;
      told = λ told. settled (subst (λ (refused : Option IoFault). SettledBy file Detach refused (Unwritten old.text.owed (place_handed old.text old.text.owed)) (in_life file life.Detached)) (sym accepts)
          (subst (λ (current : Life). DetachesIn current file (Unwritten old.text.owed (place_handed old.text old.text.owed)) (in_life file life.Detached)) (sym failed)
          (record {
            bytes = old.text.owed;
            place = place_handed old.text old.text.owed;
            says = refl;
            stand = stand_so (flat_of old.text.buffer).bytes old.text.owed old.text.buffer.place (old.text.place.at - length old.text.owed) old.text.buffer.can.seekable (begins_there old.text.buffer old.text.owed old.text.place.at joined);
            leaves = refl;
          })));
      needs = λ gives. absurd (cc);
      brings = λ gives. absurd (cc);
      hides = λ short. absurd (cc);
      passes = λ lives. let never : life.Failed ≡ life.Live = sym failed ∙ lives in absurd (cc);
      by_own = refl;
      kept = tt;
      holds = tt;
    }

-- How it comes out.

-- a detaching that is refused
refuses_in : (old new : TextState) (current : Life) (why : IoFault) → old.text.life ≡ current → BeginsDetachIn current old (Err why) new → RefusesDetach old why new
refuses_in old new life.Live why is begins = record { answers = refuses_so old new why (λ failed. let never : life.Live ≡ life.Failed = sym is ∙ failed in absurd (cc)) begins; other = λ failed. let never : life.Live ≡ life.Failed = sym is ∙ failed in absurd (cc) }
refuses_in old new life.Failed why is begins = absurd (let wrong : Err why ≡ Ok tt = begins.0 in cc)
refuses_in old new life.Closed why is begins = record { answers = refuses_so old new why (λ failed. let never : life.Closed ≡ life.Failed = sym is ∙ failed in absurd (cc)) begins; other = λ failed. let never : life.Closed ≡ life.Failed = sym is ∙ failed in absurd (cc) }
refuses_in old new life.Detached why is begins = record { answers = refuses_so old new why (λ failed. let never : life.Detached ≡ life.Failed = sym is ∙ failed in absurd (cc)) begins; other = λ failed. let never : life.Detached ≡ life.Failed = sym is ∙ failed in absurd (cc) }

gone_refuses : (left : TextLeft) (why : IoFault) → why ≡ fault.Detached → RefusesDetach (seen_as None left) why (seen_as None left)
gone_refuses left why is = subst (λ (says : IoFault). RefusesDetach (seen_as None left) says (seen_as None left)) (sym is) (record { answers = detached_answers (can_of left) (settings_of left.coder left.settings) Detach refl; other = λ failed. absurd (cc) })

pub detach_fails : (old new : Option TextState) (left : TextLeft) (why : IoFault) → BeginsDetach old (Err why) new → RefusesDetach (seen_as old left) why (seen_as new left)
detach_fails (Some old) (Some new) left why begins = refuses_in old new old.text.life why refl begins
detach_fails (Some old) None left why never = absurd never
detach_fails None (Some new) left why never = absurd never
detach_fails None None left why is = gone_refuses left why (let same : Err why ≡ Err fault.Detached = is in cc)

-- what is left of it
left_so : (old now : TextOver Buffer) (kept : TextLeft) → now.buffer.can ≡ old.buffer.can → now.settings ≡ old.settings → can_of kept ≡ kept_abilities now.buffer.can → settings_of kept.coder kept.settings ≡ now.settings → seen_as None kept ≡ left_behind old
left_so old now kept can settings can_is settings_is =
    ap (λ (own : Abilities). detached_text own (settings_of kept.coder kept.settings)) (can_is ∙ ap kept_abilities can)
    ∙ ap (λ (own : TextSettings). detached_text (kept_abilities old.buffer.can) own) (settings_is ∙ settings)

-- the parts that are handed over of a text that was flushed, or failed
pub record IsHanded (now : TextState) (kept : TextLeft) (buffer : Buffer) (unwritten : List ℕ) (place : Option ℕ) : Type 0 where
  pub buffer_is : buffer ≡ now.text.buffer
  pub unwritten_is : unwritten ≡ now.text.owed
  pub place_is : place ≡ place_handed now.text now.text.owed
  pub can : can_of kept ≡ kept_abilities now.text.buffer.can
  pub settings : settings_of kept.coder kept.settings ≡ now.text.settings

flushed_place : (old now : TextOver Buffer) → now.owed ≡ [] → now.place ≡ old.place → now.buffer.can ≡ old.buffer.can → place_handed now now.owed ≡ place_handed old []
flushed_place old now owed place can =
    ap (place_handed now) owed
    ∙ (ap (λ (own : TextPlace). if now.buffer.can.seekable then Some (own.at - length {A = ℕ} []) else None) place
    ∙ ap (λ (own : Abilities). if own.seekable then Some (old.place.at - length {A = ℕ} []) else None) can)

-- its buffer took all that the text itself owed
flushed_to : (old now : TextOver Buffer) → now.owed ≡ [] → behind_own now ≡ behind_own old → now.buffer.place ≡ behind_own old
flushed_to old now none same = omega (arith, same, ap length none)

over_live : (old now : TextState) (kept : TextLeft) (buffer : Buffer) (unwritten : List ℕ) (place : Option ℕ) → old.text.life ≡ life.Live → Answers old Flush Done now → IsHanded now kept buffer unwritten place → HandsOver old buffer unwritten place (seen_as None kept)
over_live old now kept buffer unwritten place live answers is =
    let none : unwritten ≡ [] = is.unwritten_is ∙ answers.passes.own in
    let can : now.text.buffer.can ≡ old.text.buffer.can = answers.keeps.can in
    let at : place ≡ place_handed old.text [] = is.place_is ∙ flushed_place old.text now.text answers.passes.own answers.moves.place can in
    subst (λ (own : List ℕ). HandsOver old buffer own place (seen_as None kept)) (sym none)
    (subst (λ (own : Option ℕ). HandsOver old buffer [] own (seen_as None kept)) (sym at)
    (subst (λ (own : Buffer). HandsOver old own [] (place_handed old.text []) (seen_as None kept)) (sym is.buffer_is)
    (record {
      answers = hands_live old now live answers;
      unwritten_is = sym (ap (λ (current : Life). owed_then current old.text.owed) live);
      place_is = refl;
      at_once = λ failed. let never : life.Live ≡ life.Failed = sym live ∙ failed in absurd (cc);
      lives = λ was. answers.joined.lives (answers.moves.life_is ∙ live);
      stands = λ was. flushed_to old.text now.text answers.passes.own answers.by_own;
      left = left_so old.text now.text kept can answers.moves.settings is.can is.settings;
    })))

over_failed : (old now : TextState) (kept : TextLeft) (buffer : Buffer) (unwritten : List ℕ) (place : Option ℕ) → old.text.life ≡ life.Failed → now ≡ record old { short = false } → IsJoined old.text → IsHanded now kept buffer unwritten place → HandsOver old buffer unwritten place (seen_as None kept)
over_failed old now kept buffer unwritten place failed same joined is =
    let text : now.text ≡ old.text = ap (λ (state : TextState). state.text) same in
    subst (λ (own : List ℕ). HandsOver old buffer own place (seen_as None kept)) (sym (is.unwritten_is ∙ ap (λ (own : TextOver Buffer). own.owed) text))
    (subst (λ (own : Option ℕ). HandsOver old buffer old.text.owed own (seen_as None kept)) (sym (is.place_is ∙ ap (λ (own : TextOver Buffer). place_handed own own.owed) text))
    (subst (λ (own : Buffer). HandsOver old own old.text.owed (place_handed old.text old.text.owed) (seen_as None kept)) (sym (is.buffer_is ∙ ap (λ (own : TextOver Buffer). own.buffer) text))
    (record {
      answers = hands_failed old failed joined;
      unwritten_is = sym (ap (λ (current : Life). owed_then current old.text.owed) failed);
      place_is = refl;
      at_once = λ was. refl;
      lives = λ live. let never : life.Failed ≡ life.Live = sym failed ∙ live in absurd (cc);
      stands = λ live. let never : life.Failed ≡ life.Live = sym failed ∙ live in absurd (cc);
      left = left_so old.text now.text kept (ap (λ (own : TextOver Buffer). own.buffer.can) text) (ap (λ (own : TextOver Buffer). own.settings) text) is.can is.settings;
    })))

over_in : (old now : TextState) (kept : TextLeft) (buffer : Buffer) (unwritten : List ℕ) (place : Option ℕ) (current : Life) → old.text.life ≡ current → BeginsDetachIn current old (Ok tt) now → IsHanded now kept buffer unwritten place → HandsOver old buffer unwritten place (seen_as None kept)
over_in old now kept buffer unwritten place life.Live is begins handed = over_live old now kept buffer unwritten place is begins handed
over_in old now kept buffer unwritten place life.Failed is begins handed = over_failed old now kept buffer unwritten place is begins.1 begins.2 handed
over_in old now kept buffer unwritten place life.Closed is begins handed = absurd (let wrong = (begins.refused fault.Closed (rw is refl)).says in cc)
over_in old now kept buffer unwritten place life.Detached is begins handed = absurd (let wrong = (begins.refused fault.Detached (rw is refl)).says in cc)

-- a text that is handed over
pub detach_hands_over : (old : Option TextState) (now : TextState) (left kept : TextLeft) (buffer : Buffer) (unwritten : List ℕ) (place : Option ℕ) → BeginsDetach old (Ok tt) (Some now) → IsHanded now kept buffer unwritten place → HandsOver (seen_as old left) buffer unwritten place (seen_as None kept)
detach_hands_over (Some old) now left kept buffer unwritten place begins handed = over_in old now kept buffer unwritten place old.text.life refl begins handed
detach_hands_over None now left kept buffer unwritten place never handed = absurd never

-- a detaching that began is of a text that has its buffer
pub begins_some : (old : Option TextState) → BeginsDetach old (Ok tt) None → ⊥
begins_some (Some old) never = never
begins_some None is = let wrong : Ok tt ≡ Err fault.Detached = is in absurd (cc)

-- one that was refused leaves a text that has its buffer as one that has it
begins_attached : (old new : TextState) (current : Life) (why : IoFault) → old.text.life ≡ current → old.text.life ≢ life.Detached → BeginsDetachIn current old (Err why) new → new.text.life ≢ life.Detached
begins_attached old new life.Live why is attached begins = lives_on old Flush (Refused why) new refl attached begins
begins_attached old new life.Failed why is attached begins = absurd (let wrong : Err why ≡ Ok tt = begins.0 in cc)
begins_attached old new life.Closed why is attached begins = lives_on old Flush (Refused why) new refl attached begins
begins_attached old new life.Detached why is attached begins = absurd (attached is)

pub still_attached : (old new : Option TextState) (why : IoFault) → IsAttached old → BeginsDetach old (Err why) new → IsAttached new
still_attached (Some old) (Some new) why attached begins = begins_attached old new old.text.life why refl attached begins
still_attached (Some old) None why attached never = absurd never
still_attached None (Some new) why attached never = absurd never
still_attached None None why attached is = tt

-- of a text that didn't fail a detaching begins as a flush
pub begins_flush : (old new : TextState) (current : Life) (result : Result (Unit {0}) IoFault) → current ≢ life.Failed → Answers old Flush (done_reply result) new → BeginsDetachIn current old result new
begins_flush old new life.Live result other answers = answers
begins_flush old new life.Failed result other answers = absurd (other refl)
begins_flush old new life.Closed result other answers = answers
begins_flush old new life.Detached result other answers = answers
