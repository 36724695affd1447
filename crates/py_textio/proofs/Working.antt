-- A call for which the buffer was called meets the clause of all calls.
use Rattle.std.proofs.Common.{◌≡◌, Bool, false, sym, ◌∙◌, subst}
use Rattle.py_flat.specs.Calls.{FileReply}
use Rattle.py_plain_text.specs.TextOver.{TextOver}
use Rattle.py_plain_text.specs.TextCalls.{TextFileCall, Tell}
use Rattle.py_stream.specs.Buffer.{Buffer}
use Rattle.py_read_text.specs.Answers.{calls_nothing, LifeMoves, IsReplyTo, TextTells, Answers}
use Rattle.py_textio.specs.Written.{WrittenView, over_of, state_of}
use Rattle.py_textio.specs.Working.{Works}

-- a call for which the buffer is called tells no place
tells_not : (call : TextFileCall) (reply : FileReply) (text : TextOver Buffer) → calls_nothing call ≡ false → TextTells call reply text
tells_not Tell reply text some = absurd (cc)
tells_not call reply text some = tt

pub answers_work : (old : WrittenView) (call : TextFileCall) (reply : FileReply) (new : WrittenView) (short : Bool) → Works old call reply new short → Answers (state_of old false) call reply (state_of new short)
answers_work old call reply new short works = record {
  keeps = works.calls.keeps;
  refused = λ why is. let never = sym works.accepted ∙ is in absurd (cc);
  again = λ closes. let never = sym works.once ∙ closes in absurd (cc);
  causes = record { waits = works.calls.wait; faults = works.calls.fault };
  counted = λ exact. record { faults = λ sound. works.calls.faults exact sound; ends = λ own. let never = sym works.busy ∙ own in absurd (cc) };
  shorts = works.shorts;
  nothing = λ none. let never = sym works.some ∙ none in absurd (cc);
  moves = record {
    settings = works.settings;
    life_is = subst (λ (writes : Bool). LifeMoves writes call reply old.life new.life) (sym works.writes) works.life_is;
    place = works.place;
    written = works.written;
  };
  lines = works.lines;
  blames = works.blames;
  tells = tells_not call reply (over_of old) works.some;
  seeks = works.seeks;
  joined = works.joined;
  owes = works.owes;
  lays = works.lays;
  starves = works.starves;
  closes = works.closes;
  stays = works.stays;
  unclosed = works.unclosed;
  stops = works.stops;
  answer = λ accepts. subst (λ (writes : Bool). IsReplyTo writes call reply) (sym works.writes) works.answer;
  complete = λ accepts calm sound. works.complete calm sound;
  wants = works.wants;
  shut = works.shut;
  spares = λ can none. let never = sym works.writes ∙ can in absurd (cc);
  tied = record { owed = λ can. let never = sym works.writes ∙ can in absurd (cc); life_is = λ can was had. let never = sym works.writes ∙ can in absurd (cc) };
  stands = works.calls.stands;
  told = works.told;
  needs = works.needs;
  brings = λ gives can. let never = sym works.writes ∙ can in absurd (cc);
  hides = λ is gives none. works.hides is gives none;
  passes = works.passes;
  by_own = works.by_own;
  kept = works.kept;
  holds = works.holds;
}
