-- A seek to the end, behind asking the buffer where that is.
use Rattle.std.proofs.Common.{◌≡◌, ◌≢◌, ℕ, ◌<◌, ◌≤◌, inl, inr, ◌⊎◌, pos, Bool, true, false, ◌&&◌, ◌||◌, not, IsTrue, List, [], ◌∷◌, ◌++◌, length, Option, Some, None, Err, refl, sym, ap, ◌∙◌, subst, arith}
use Rattle.std.proofs.lemmas.Bool.{le-ltb}
use Rattle.py_flat.specs.declared.fault.IoFault.{IoFault}
use Rattle.py_flat.specs.declared.fault.IoFault.TheVariants as fault
use Rattle.py_flat.specs.declared.life.Life.{Life}
use Rattle.py_flat.specs.declared.life.Life.TheVariants as life
use Rattle.py_flat.specs.Bytes.{lay}
use Rattle.py_flat.specs.Limits.{greatest_place}
use Rattle.py_flat.specs.Owed.{Owed}
use Rattle.py_flat.specs.FlatFile.{Abilities}
use Rattle.py_flat.specs.Refusals.{or_else, refused_if, too_far}
use Rattle.py_flat.specs.Causes.{counted}
use Rattle.py_flat.specs.Calls.{FileReply, Refused}
use Rattle.py_flat.specs.ExactStep.{is_closed}
use Rattle.py_flat.specs.AllowedStep.{raw_faulted, out_of_memory}
use Rattle.py_flat.specs.BinaryStep.{is_live}
use Rattle.py_plain_text.specs.TextFile.{TextPlace, TextSettings, TextFile}
use Rattle.py_plain_text.specs.TextOver.{TextOver}
use Rattle.py_plain_text.specs.Cookie.{boundary_cookie, flags_of}
use Rattle.py_plain_text.specs.TextCalls.{SeekText}
use Rattle.py_plain_text.specs.TextRefusals.{life_refusal, lacks, whence_refusal, cookie_refusal, refusal}
use Rattle.py_plain_text.specs.TextAllowed.{does_work, asks_end, reaches_raw, TextFileStep}
use Rattle.py_plain_text.specs.TextWriting.{writes_texts}
use Rattle.py_plain.specs.Units.{Order}
use Rattle.py_raw.specs.RawStream.{Raw}
use Rattle.py_raw.proofs.Telling.{tells_its_bytes, tells_still, keeps_same}
use Rattle.py_stream.specs.Kinds.{says_wait, says_fault}
use Rattle.py_stream.specs.Stream.{nothing_owed}
use Rattle.py_stream.specs.Buffer.{Buffer, WhereShown, flat_of, KeepsBuffer, AsksForEnd, EndsAt}
use Rattle.py_read_text.specs.TextState.{TextState, file_of}
use Rattle.py_read_text.specs.Owing.{all_owed, all_from, behind_own, own_from, FailedWithOwn, GaveOwn, Starves, IsJoined, PassesOwed, LaysFront, LaysOwed, KeepsOpen}
use Rattle.py_read_text.specs.Knowing.{TextView, place_of, over_of as read_of}
use Rattle.py_read_text.specs.Reading.{KeepsPlace}
use Rattle.py_read_text.specs.Seeking.{Seeks}
use Rattle.py_read_text.specs.Answers.{refused_here, passes_on, IsReplyTo, LifeMoves, StandsWhileLive, Answers}
use Rattle.py_read_text.proofs.Owing.{owes_none, open_then, open_of, owing_open, owing_then}
use Rattle.py_read_text.proofs.Fronts.{lays_none}
use Rattle.py_textio.specs.Written.{WrittenView, behind_owed, place_now, over_of, state_of, file_now, StandsToWrite, IsWritten}
use Rattle.py_textio.specs.Seeking.{StaysOver, SaysTextEnd, FailsAtTextEnd, StarvesAtTextEnd, EndOutcome}
use Rattle.py_textio.proofs.Seeking.{passes_seek, same_but_bytes}
use Rattle.py_textio.proofs.Over.{keeps_on, rose_on, rose_still, same_file, owes_behind, seeks_on}
use Rattle.py_textio.proofs.Settling.{kept_place}

-- The buffer that was asked.

keeps_asked : (before after : Buffer) → AsksForEnd before after → KeepsBuffer before after
keeps_asked before after asks = record {
  raw = asks.raw;
  can = ap (λ (own : Buffer). own.can) asks.same;
  buffering = ap (λ (own : Buffer). own.buffering) asks.same;
  exported = ap (λ (own : Buffer). own.exported) asks.same;
}

stood_asked : (before after : Buffer) → AsksForEnd before after → after.place ≡ before.place
stood_asked before after asks = ap (λ (own : Buffer). own.place) asks.same

owed_asked : (before after : Buffer) → AsksForEnd before after → after.owed ≡ before.owed
owed_asked before after asks = ap (λ (own : Buffer). own.owed) asks.same

flat_asked : (before after : Buffer) → AsksForEnd before after → WhereShown before ((flat_of after).bytes ≡ (flat_of before).bytes)
flat_asked before after asks told =
    ap (λ (own : Owed). lay after.raw.bytes own.place own.bytes) (owed_asked before after asks)
    ∙ ap (λ (bytes : List ℕ). lay bytes before.owed.place before.owed.bytes) (asks.bytes (tells_its_bytes before.raw told))

open_asked : (before after : Buffer) → AsksForEnd before after → after.life ≡ before.life → KeepsOpen before after
open_asked before after asks current = record {
  attached = λ was gone. was (sym current ∙ gone);
  stays = λ closed. (asks.stays, asks.stays ∙ (closed ∙ ap is_closed (sym current)));
}

-- one that was left as it was, for want of memory, is as if asked
starved_asks : (before after : Buffer) → after ≡ record before { short = false } → AsksForEnd before after
starved_asks before after same = subst (AsksForEnd before) (sym same) (record {
  same = refl;
  raw = keeps_same before.raw;
  stays = refl;
  bytes = λ told. refl;
  written = λ told. refl;
  reads = λ told. refl;
  no_wait = λ exact. refl;
})

-- The text over it, which stays.

-- the buffer was asked for its end, and the text stays as it is
record AskedOver (old new : WrittenView) : Type 0 where
  asks : AsksForEnd old.text.buffer new.text.buffer
  over : StaysOver old new

place_over : (old new : WrittenView) → AskedOver old new → place_now new ≡ place_now old
place_over old new asked = ap (λ (place : TextPlace). behind_owed place new.pending) (kept_place old.text new.text asked.over.keeps) ∙ ap (behind_owed (place_of old.text)) asked.over.pending

at_over : (old new : WrittenView) → AskedOver old new → (place_now new).at ≡ (place_now old).at
at_over old new asked = ap (λ (place : TextPlace). place.at) (place_over old new asked)

behind_over : (old new : WrittenView) → AskedOver old new → behind_own (over_of new) ≡ behind_own (over_of old)
behind_over old new asked = omega (arith, stood_asked old.text.buffer new.text.buffer asked.asks, ap length asked.over.pending)

owed_over : (old new : WrittenView) → AskedOver old new → all_owed (over_of new) ≡ all_owed (over_of old)
owed_over old new asked =
    ap (λ (own : Owed). own.bytes ++ new.pending) (owed_asked old.text.buffer new.text.buffer asked.asks)
    ∙ ap (λ (own : List ℕ). old.text.buffer.owed.bytes ++ own) asked.over.pending

from_over : (old new : WrittenView) → AskedOver old new → all_from (over_of new) ≡ all_from (over_of old)
from_over old new asked = omega (arith, at_over old new asked, ap length (owed_over old new asked))

own_over : (old new : WrittenView) → AskedOver old new → own_from (over_of new) ≡ own_from (over_of old)
own_over old new asked = omega (arith, at_over old new asked, ap length asked.over.pending)

passes_over : (old new : WrittenView) → AskedOver old new → PassesOwed old.text.buffer.raw (all_owed (over_of old)) new.text.buffer.raw (all_owed (over_of new))
passes_over old new asked = record { passed = 0; most = omega arith; answered = asked.asks.written; rest = owed_over old new asked }

bytes_over : (old new : WrittenView) → AskedOver old new → WhereShown old.text.buffer ((file_now new).bytes ≡ (file_now old).bytes)
bytes_over old new asked told =
    ap (λ (owed : List ℕ). lay (flat_of new.text.buffer).bytes new.text.buffer.place owed) asked.over.pending
    ∙ (ap (λ (at : ℕ). lay (flat_of new.text.buffer).bytes at old.pending) (stood_asked old.text.buffer new.text.buffer asked.asks)
    ∙ ap (λ (bytes : List ℕ). lay bytes old.text.buffer.place old.pending) (flat_asked old.text.buffer new.text.buffer asked.asks told))

can_over : (old new : WrittenView) → AskedOver old new → new.text.buffer.can ≡ old.text.buffer.can
can_over old new asked = (keeps_asked old.text.buffer new.text.buffer asked.asks).can

writes_over : (old new : WrittenView) → AskedOver old new → new.text.buffer.can.writable ≡ old.text.buffer.can.writable
writes_over old new asked = ap (λ (can : Abilities). can.writable) (can_over old new asked)

file_over : (old new : WrittenView) → AskedOver old new → new.life ≡ old.life → WhereShown old.text.buffer (file_now new ≡ file_now old)
file_over old new asked current told = same_file old new (can_over old new asked) current (bytes_over old new asked told) (place_over old new asked) asked.over.keeps.settings

-- What refuses a seek to the end.

accepts_over : (old new : WrittenView) (sought : List ℕ) → AskedOver old new → new.life ≡ old.life → refused_here (file_now old) (SeekText sought (pos 2)) ≡ None → refused_here (file_now new) (SeekText sought (pos 2)) ≡ None
accepts_over old new sought asked current accepted =
    ap (λ (file : TextFile). refused_here file (SeekText sought (pos 2))) (same_but_bytes old new (can_over old new asked) current (place_over old new asked) asked.over.keeps.settings)
    ∙ accepted

-- the last of some refusals alone is another
last_none : (first second third fourth : Option IoFault) (one other : Option IoFault) → or_else first (or_else second (or_else third (or_else fourth one))) ≡ None → other ≡ None → or_else first (or_else second (or_else third (or_else fourth other))) ≡ None
last_none None None None None one other none is = is
last_none None None None (Some why) one other none is = absurd (cc)
last_none None None (Some why) fourth one other none is = absurd (cc)
last_none None (Some why) third fourth one other none is = absurd (cc)
last_none (Some why) second third fourth one other none is = absurd (cc)

near_end : (end : ℕ) → end ≤ greatest_place → too_far end ≡ None
near_end end within = ap (λ (far : Bool). refused_if far fault.TooFar) (le-ltb greatest_place end within)

-- one that is accepted before the end is known is accepted where that is near enough
accepts_near : (file : TextFile) (sought : List ℕ) → length file.bytes ≤ greatest_place → refused_here file (SeekText sought (pos 2)) ≡ None → refusal file (SeekText sought (pos 2)) ≡ None
accepts_near file sought near accepted = last_none (life_refusal file.life (SeekText sought (pos 2))) (refused_if (lacks file (SeekText sought (pos 2))) fault.Unsupported) (whence_refusal (pos 2)) (cookie_refusal file sought) (too_far 0) (too_far (length file.bytes)) accepted (near_end (length file.bytes) near)

second_none : (first : Option IoFault) (lacking : Bool) (why : IoFault) (later : Option IoFault) → or_else first (or_else (refused_if lacking why) later) ≡ None → lacking ≡ false
second_none None false why later none = refl
second_none None true why later none = absurd (cc)
second_none (Some other) lacking why later none = absurd (cc)

-- it may go to the raw, also where the end may refuse it
always : (works : Bool) → works || true ≡ true
always true = refl
always false = refl

reaches_end : (file : TextFile) (sought : List ℕ) → file.life ≡ life.Live → refused_here file (SeekText sought (pos 2)) ≡ None → IsTrue (reaches_raw file (SeekText sought (pos 2)))
reaches_end file sought live accepted =
    let able : lacks file (SeekText sought (pos 2)) ≡ false = second_none _ (lacks file (SeekText sought (pos 2))) fault.Unsupported _ accepted in
    let asks : asks_end file (SeekText sought (pos 2)) ≡ true = ap (λ (current : Life). is_live current && not (lacks file (SeekText sought (pos 2)))) live ∙ ap not able in
    ap (λ (own : Bool). does_work file (SeekText sought (pos 2)) || own) asks ∙ always (does_work file (SeekText sought (pos 2)))

-- A seek behind asking.

-- bytes of the text's own that the raw took before the buffer failed
gave_over : (old mid : WrittenView) (new : TextOver Buffer) → AskedOver old mid → FailedWithOwn (over_of mid) new → FailedWithOwn (over_of old) new
gave_over old mid new asked gave =
    let from = own_over old mid asked in
    let left : length mid.text.buffer.owed.bytes ≡ length old.text.buffer.owed.bytes = ap (λ (own : Owed). length own.bytes) (owed_asked old.text.buffer mid.text.buffer asked.asks) in (
      gave.0,
      record {
        further = omega (arith, gave.1.further, from);
        stands = λ tells. omega (arith, gave.1.stands (asked.asks.raw.tells_place ∙ tells), from);
        answered = λ tells. omega (arith, gave.1.answered (asked.asks.raw.tells_transfers ∙ tells), asked.asks.written tells, left);
      },
    )

starves_over : (old mid : WrittenView) (sought : List ℕ) (reply : FileReply) (new : TextOver Buffer) → AskedOver old mid → mid.life ≡ old.life → Starves (over_of mid) (SeekText sought (pos 2)) reply new → Starves (over_of old) (SeekText sought (pos 2)) reply new
starves_over old mid sought (Refused fault.NoMemory) new asked current (inl stays) = inl (record { life_is = stays.life_is ∙ current; settings = stays.settings ∙ asked.over.keeps.settings; place = stays.place ∙ place_over old mid asked })
starves_over old mid sought (Refused fault.NoMemory) new asked current (inr (inl failed)) = inr (inl (record { life_is = failed.life_is; takes = sym asked.asks.raw.takes_memory ∙ failed.takes; has = subst (λ (own : List ℕ). own ++ [] ≢ []) asked.over.pending failed.has; gave = by_gave failed.gave }))
  where
    by_gave : GaveOwn false 0 (over_of mid) new → GaveOwn false 0 (over_of old) new
    by_gave (inl took) = inl (gave_over old mid new asked took)
    by_gave (inr all) = let never : false ≡ true = all.0 in absurd (cc)
starves_over old mid sought (Refused fault.NoMemory) new asked current (inr (inr moved)) = inr (inr (record { seeks = moved.seeks; takes = sym asked.asks.raw.takes_memory ∙ moved.takes; life_is = moved.life_is ∙ current; settings = moved.settings ∙ asked.over.keeps.settings }))
starves_over old mid sought reply new asked current starves = tt

-- what is laid on by the seek alone
lays_over : (old mid : WrittenView) (new : TextOver Buffer) → AskedOver old mid → LaysOwed (over_of mid) (all_owed (over_of mid) ++ []) new → LaysOwed (over_of old) (all_owed (over_of old) ++ []) new
lays_over old mid new asked lays = λ told.
    subst (λ (bytes : List ℕ). LaysFront bytes (all_from (over_of old)) (all_owed (over_of old) ++ []) new.buffer.raw.bytes) (asked.asks.bytes (tells_its_bytes old.text.buffer.raw told))
    (subst (λ (from : ℕ). LaysFront mid.text.buffer.raw.bytes from (all_owed (over_of old) ++ []) new.buffer.raw.bytes) (from_over old mid asked)
    (subst (λ (owed : List ℕ). LaysFront mid.text.buffer.raw.bytes (all_from (over_of mid)) (owed ++ []) new.buffer.raw.bytes) (owed_over old mid asked)
    (lays (tells_still old.text.buffer.raw mid.text.buffer.raw asked.asks.raw ∙ told))))

most_still : (old mid new : ℕ) → mid ≡ old → (new ≡ mid) ⊎ (new ≡ counted mid 1) → (new ≡ old) ⊎ (new ≡ counted old 1)
most_still old mid new same (inl still) = inl (still ∙ same)
most_still old mid new same (inr once) = inr (once ∙ ap (λ (count : ℕ). counted count 1) same)

-- a seek to the end behind asking where that is, is one of the text before
pub sought_behind_end : (old mid : WrittenView) (end : ℕ) (sought : List ℕ) (reply : FileReply) (new : TextState) → old.life ≡ life.Live → IsJoined (over_of old) → refused_here (file_now old) (SeekText sought (pos 2)) ≡ None → SaysTextEnd old end mid → Answers (state_of mid false) (SeekText sought (pos 2)) reply new → Answers (state_of old false) (SeekText sought (pos 2)) reply new
sought_behind_end old mid end sought reply new live joined accepted says answers =
    let asks = says.says.asks in
    let asked : AskedOver old mid = record { asks = asks; over = says.over } in
    let kept = keeps_asked old.text.buffer mid.text.buffer asks in
    let stays = open_asked old.text.buffer mid.text.buffer asks says.says.life_is in
    let writes = writes_over old mid asked in
    let still = accepts_over old mid sought asked says.life_is accepted in
    record {
      keeps = keeps_on old.text.buffer mid.text.buffer new.text.buffer kept answers.keeps;
      refused = λ why here. let never = sym accepted ∙ here in absurd (cc);
      again = λ closes. absurd (cc);
      causes = record {
        waits = λ short. rose_on old.text.buffer.raw.waits mid.text.buffer.raw.waits new.text.buffer.raw.waits asks.raw.waits (answers.causes.waits short);
        faults = λ fails. rose_on old.text.buffer.raw.faults mid.text.buffer.raw.faults new.text.buffer.raw.faults asks.raw.faults (answers.causes.faults fails);
      };
      counted = λ exact.
          let counts = answers.counted (asks.raw.counts_exactly ∙ exact) in
          let calm = asks.no_wait exact in
          record {
            faults = λ sound. counts.faults sound ∙ says.says.no_fault exact;
            ends = λ own.
                let ends = counts.ends (ap (λ (owed : List ℕ). passes_on owed (SeekText sought (pos 2))) says.over.pending ∙ own) in
                record {
                  waits = λ whole has. ends.waits whole has ∙ calm;
                  once = λ short. ends.once short ∙ ap (λ (count : ℕ). counted count 1) calm;
                  most = most_still old.text.buffer.raw.waits mid.text.buffer.raw.waits new.text.buffer.raw.waits calm ends.most;
                };
          };
      shorts = answers.shorts;
      nothing = λ none. absurd (cc);
      moves = record {
        settings = answers.moves.settings ∙ says.over.keeps.settings;
        life_is = subst (λ (own : Bool). LifeMoves own (SeekText sought (pos 2)) reply old.life new.text.life) writes (subst (λ (own : Life). LifeMoves mid.text.buffer.can.writable (SeekText sought (pos 2)) reply own new.text.life) says.life_is answers.moves.life_is);
        place = tt;
        written = tt;
      };
      lines = tt;
      blames = tt;
      tells = tt;
      seeks = seeks_on (over_of old) (over_of mid) (SeekText sought (pos 2)) reply new.text.place (record { place = place_over old mid asked; behind = behind_over old mid asked; can = kept.can; takes = asks.raw.takes_memory; owed = λ left none. left (owed_over old mid asked ∙ none) }) answers.seeks;
      joined = answers.joined;
      owes = owes_behind (over_of old) (over_of mid) new.text (SeekText sought (pos 2)) asks.raw (passes_over old mid asked) says.over.keeps.settings (place_over old mid asked) answers.owes;
      lays = lays_over old mid new.text asked answers.lays;
      starves = starves_over old mid sought reply new.text asked says.life_is answers.starves;
      answer = λ accepts. subst (λ (own : Bool). IsReplyTo own (SeekText sought (pos 2)) reply) writes (answers.answer still);
      complete = λ accepts calm sound. answers.complete still
          (rose_still old.text.buffer.raw.waits mid.text.buffer.raw.waits new.text.buffer.raw.waits asks.raw.waits answers.keeps.raw.waits calm)
          (rose_still old.text.buffer.raw.faults mid.text.buffer.raw.faults new.text.buffer.raw.faults asks.raw.faults answers.keeps.raw.faults sound);
      wants = tt;
      closes = tt;
      stays = λ opens. open_then old.text.buffer mid.text.buffer new.text.buffer stays (answers.stays opens);
      unclosed = owing_then old.text.buffer mid.text.buffer new.text stays answers.unclosed;
      shut = λ own. tt;
      spares = λ can none.
          let spared = answers.spares (writes ∙ can) (owed_asked old.text.buffer mid.text.buffer asks ∙ (none ∙ ap nothing_owed (sym (stood_asked old.text.buffer mid.text.buffer asks)))) in
          record {
            bytes = λ told. spared.bytes (asks.raw.tells_bytes ∙ told) ∙ asks.bytes told;
            written = λ told. spared.written (asks.raw.tells_transfers ∙ told) ∙ asks.written told;
            owed = spared.owed;
          };
      tied = record {
        owed = λ can. answers.tied.owed (writes ∙ can) ∙ says.over.pending;
        life_is = λ can was had. answers.tied.life_is (writes ∙ can) (says.says.life_is ∙ (was ∙ sym says.life_is)) had;
      };
      stands = λ stood. answers.stands says.says.stands;
      told = λ told. subst (λ (file : TextFile). TextFileStep file (SeekText sought (pos 2)) reply new.short (says_fault reply) (file_of new)) (file_over old mid asked says.life_is told) (answers.told (tells_still old.text.buffer.raw mid.text.buffer.raw asks.raw ∙ told));
      needs = λ gives. absurd (cc);
      brings = λ gives. absurd (cc);
      hides = λ waits gives. absurd (cc);
      stops = answers.stops;
      passes = passes_seek (state_of old false) (state_of mid false) new sought (pos 2) reply answers.passes;
      by_own = tt;
      kept = tt;
      holds = tt;
    }

-- Where it goes.

order_behind : (place : TextPlace) (owed : List ℕ) → (behind_owed place owed).order ≡ place.order
order_behind place [] = refl
order_behind place (byte ∷ more) = refl

-- the cookie of the end that was answered
pub seeks_at_end : (old mid : WrittenView) (end : ℕ) (sought : List ℕ) → refused_here (file_now old) (SeekText sought (pos 2)) ≡ None → SaysTextEnd old end mid → Seeks (state_of mid false) sought (pos 2) (boundary_cookie end 0)
seeks_at_end old mid end sought accepted says =
    let asked : AskedOver old mid = record { asks = says.says.asks; over = says.over } in
    let still = accepts_over old mid sought asked says.life_is accepted in
    let size : WhereShown mid.text.buffer (length (file_now mid).bytes ≡ end) = λ told. let was = sym (tells_still old.text.buffer.raw mid.text.buffer.raw says.says.asks.raw) ∙ told in ap length (bytes_over old mid asked was) ∙ sym (says.told was) in
    record {
      accepted = still;
      by = (end, says.within, refl);
      told = λ told. (
        accepts_near (file_now mid) sought (omega (arith, size told, says.within)) still,
        ap (λ (far : ℕ). boundary_cookie far (flags_of (place_now mid).order)) (size told) ∙ ap (λ (order : Order). boundary_cookie end (flags_of order)) (order_behind (place_of mid.text) mid.pending),
      );
    }

-- Where the end isn't answered.

-- the raw failed
pub end_fails : (old new : WrittenView) (sought : List ℕ) → old.life ≡ life.Live → old.text.buffer.life ≡ life.Live → IsJoined (over_of new) → refused_here (file_now old) (SeekText sought (pos 2)) ≡ None → FailsAtTextEnd old new → Answers (state_of old false) (SeekText sought (pos 2)) (Refused fault.RawFault) (state_of new false)
end_fails old new sought live lives joined accepted fails =
    let asks = fails.fails.asks in
    let asked : AskedOver old new = record { asks = asks; over = fails.over } in
    let stays = open_of old.text.buffer new.text.buffer lives (inr fails.fails.life_is) (λ closed. asks.stays) in
    record {
      keeps = keeps_asked old.text.buffer new.text.buffer asks;
      refused = λ why here. let never = sym accepted ∙ here in absurd (cc);
      again = λ closes. absurd (cc);
      causes = record { waits = λ short. absurd (cc); faults = λ faults. fails.fails.cause };
      counted = λ exact. record {
        faults = λ sound. absurd (cc);
        ends = λ own. record { waits = λ whole has. asks.no_wait exact; once = λ short. absurd (cc); most = inl (asks.no_wait exact) };
      };
      shorts = refl;
      nothing = λ none. absurd (cc);
      moves = record { settings = fails.over.keeps.settings; life_is = fails.life_is; place = tt; written = tt };
      lines = tt;
      blames = tt;
      tells = tt;
      seeks = inl (place_over old new asked);
      joined = joined;
      owes = owes_none (over_of old) (SeekText sought (pos 2)) (over_of new) tt (passes_over old new asked);
      lays = λ told. lays_none old.text.buffer.raw.bytes (all_from (over_of old)) _ new.text.buffer.raw.bytes (asks.bytes (tells_its_bytes old.text.buffer.raw told));
      starves = tt;
      answer = λ accepts. tt;
      complete = λ accepts calm sound. absurd (grind (arith, fails.fails.cause, sound));
      wants = tt;
      closes = tt;
      stays = λ opens. stays;
      unclosed = owing_open old.text.buffer (over_of new) stays;
      shut = λ own. tt;
      spares = λ can none. record { bytes = asks.bytes; written = asks.written; owed = owed_asked old.text.buffer new.text.buffer asks ∙ (none ∙ ap nothing_owed (sym (stood_asked old.text.buffer new.text.buffer asks))) };
      tied = record { owed = λ can. fails.over.pending; life_is = λ can was had. fails.fails.life_is ∙ sym fails.life_is };
      stands = λ stood current. let never = sym fails.fails.life_is ∙ current in absurd (cc);
      told = λ told. raw_faulted refl refl (reaches_end (file_now old) sought live accepted, (0, omega arith, record { life_is = fails.life_is; bytes_are = bytes_over old new asked told; can = can_over old new asked; settings = fails.over.keeps.settings }));
      needs = λ gives. absurd (cc);
      brings = λ gives. absurd (cc);
      hides = λ waits. absurd (cc);
      stops = λ waits. absurd (cc);
      passes = tt;
      by_own = tt;
      kept = tt;
      holds = tt;
    }

-- memory ran out
pub end_starves : (old new : WrittenView) (sought : List ℕ) → old.life ≡ life.Live → IsJoined (over_of new) → refused_here (file_now old) (SeekText sought (pos 2)) ≡ None → StarvesAtTextEnd old new → Answers (state_of old false) (SeekText sought (pos 2)) (Refused fault.NoMemory) (state_of new false)
end_starves old new sought live joined accepted starves =
    let asks = starved_asks old.text.buffer new.text.buffer starves.same in
    let asked : AskedOver old new = record { asks = asks; over = starves.over } in
    let current : new.text.buffer.life ≡ old.text.buffer.life = ap (λ (own : Buffer). own.life) starves.same in
    let raw : new.text.buffer.raw ≡ old.text.buffer.raw = ap (λ (own : Buffer). own.raw) starves.same in
    let waits : new.text.buffer.raw.waits ≡ old.text.buffer.raw.waits = ap (λ (own : Raw). own.waits) raw in
    let stays = open_asked old.text.buffer new.text.buffer asks current in
    record {
      keeps = keeps_asked old.text.buffer new.text.buffer asks;
      refused = λ why here. let never = sym accepted ∙ here in absurd (cc);
      again = λ closes. absurd (cc);
      causes = record { waits = λ short. absurd (cc); faults = λ faults. absurd (cc) };
      counted = λ exact. record {
        faults = λ sound. ap (λ (own : Raw). own.faults) raw;
        ends = λ own. record { waits = λ whole has. waits; once = λ short. absurd (cc); most = inl waits };
      };
      shorts = refl;
      nothing = λ none. absurd (cc);
      moves = record { settings = starves.over.keeps.settings; life_is = inl starves.life_is; place = tt; written = tt };
      lines = tt;
      blames = tt;
      tells = tt;
      seeks = inl (place_over old new asked);
      joined = joined;
      owes = owes_none (over_of old) (SeekText sought (pos 2)) (over_of new) tt (passes_over old new asked);
      lays = λ told. lays_none old.text.buffer.raw.bytes (all_from (over_of old)) _ new.text.buffer.raw.bytes (asks.bytes (tells_its_bytes old.text.buffer.raw told));
      starves = inl (record { life_is = starves.life_is; settings = starves.over.keeps.settings; place = place_over old new asked });
      answer = λ accepts. tt;
      complete = λ accepts calm sound. record { answer = tt; whole = refl };
      wants = tt;
      closes = tt;
      stays = λ opens. stays;
      unclosed = owing_open old.text.buffer (over_of new) stays;
      shut = λ own. tt;
      spares = λ can none. record { bytes = asks.bytes; written = asks.written; owed = owed_asked old.text.buffer new.text.buffer asks ∙ (none ∙ ap nothing_owed (sym (stood_asked old.text.buffer new.text.buffer asks))) };
      tied = record { owed = λ can. starves.over.pending; life_is = λ can was had. current ∙ (was ∙ sym starves.life_is) };
      stands = λ stood. subst StandsWhileLive (sym starves.same) stood;
      told = λ told. out_of_memory refl (inl (ap (λ (reaches : Bool). reaches || false) (reaches_end (file_now old) sought live accepted), inl (file_over old new asked starves.life_is told)));
      needs = λ gives. absurd (cc);
      brings = λ gives. absurd (cc);
      hides = λ waits. absurd (cc);
      stops = λ waits. absurd (cc);
      passes = tt;
      by_own = tt;
      kept = tt;
      holds = tt;
    }

-- by what asking for it came to
pub end_stops : (old new : WrittenView) (sought : List ℕ) (why : IoFault) → old.life ≡ life.Live → old.text.buffer.life ≡ life.Live → IsJoined (over_of new) → refused_here (file_now old) (SeekText sought (pos 2)) ≡ None → EndOutcome old (Err why) new → Answers (state_of old false) (SeekText sought (pos 2)) (Refused why) (state_of new (says_wait (Refused why)))
end_stops old new sought fault.RawFault live lives joined accepted outcome = end_fails old new sought live lives joined accepted outcome
end_stops old new sought fault.NoMemory live lives joined accepted outcome = end_starves old new sought live joined accepted outcome
end_stops old new sought other live lives joined accepted outcome = absurd outcome

-- Asking for it.

-- what holds of every text, once its buffer was asked for its end
written_asked : (old new : TextView) (pending : List ℕ) (before after : Life) → IsWritten old pending before → AsksForEnd old.buffer new.buffer → KeepsPlace old new → IsJoined (read_of new) → (after ≡ life.Live → new.buffer.life ≡ life.Live) → (old.buffer.can.writable ≡ false → after ≡ new.buffer.life) → IsWritten new pending after
written_asked old new pending before after is asks place joined lives tied =
    let kept = keeps_asked old.buffer new.buffer asks in
    let writes : new.buffer.can.writable ≡ old.buffer.can.writable = ap (λ (can : Abilities). can.writable) kept.can in
    record {
      kept = kept.exported ∙ is.kept;
      asks = subst (λ (settings : TextSettings). 0 < settings.chunk_size) (sym place.settings) is.asks;
      clean = λ dirty. let was = is.clean (sym place.dirty ∙ dirty) in (place.taken ∙ was.0, place.front ∙ was.1);
      handler = λ can. ap (λ (settings : TextSettings). writes_texts settings.handler) place.settings ∙ is.handler (sym writes ∙ can);
      lives = lives;
      stands = stood is.stands;
      joined = joined;
      far = omega (arith, is.far, stood_asked old.buffer new.buffer asks);
      unwritten = λ never. ((is.unwritten (sym writes ∙ never)).0, tied (sym writes ∙ never));
    }
  where
    stood : (pending ≡ []) ⊎ StandsToWrite old → (pending ≡ []) ⊎ StandsToWrite new
    stood (inl none) = inl none
    stood (inr stands) = inr (record { taken = place.taken ∙ stands.0.taken; dirty = place.dirty ∙ stands.0.dirty }, omega (arith, stood_asked old.buffer new.buffer asks, place.at, stands.1), place.front ∙ stands.2)

unsaid_asks : (before after : Buffer) (why : IoFault) → EndsAt before (Err why) after → AsksForEnd before after
unsaid_asks before after fault.RawFault fails = fails.asks
unsaid_asks before after fault.NoMemory starves = starved_asks before after starves.same
unsaid_asks before after other never = absurd never

-- so, where it wasn't answered
pub unsaid_written : (old new : TextView) (pending : List ℕ) (before after : Life) (why : IoFault) → IsWritten old pending before → EndsAt old.buffer (Err why) new.buffer → KeepsPlace old new → IsJoined (read_of new) → after ≡ new.buffer.life → IsWritten new pending after
unsaid_written old new pending before after why is ends place joined current = written_asked old new pending before after is (unsaid_asks old.buffer new.buffer why ends) place joined (λ lives. sym current ∙ lives) (λ never. current)
