-- A look whose bytes are copied for a reply, or for which there is no memory.
use denote.Bor.{Bor}
use Rattle.std.proofs.Common.{◌≡◌, ℕ, Bool, false, IsTrue, List, Option, Some, None, Result, Ok, Err, inl, inr, refl, sym, ap, subst, arith}
use Rattle.py_flat.specs.declared.fault.IoFault.{IoFault}
use Rattle.py_flat.specs.declared.fault.IoFault.TheVariants as fault
use Rattle.py_flat.specs.declared.life.Life.{Life}
use Rattle.py_flat.specs.declared.life.Life.TheVariants as life
use Rattle.py_flat.specs.Calls.{Peek, FileReply, Bytes, NotReady, Refused}
use Rattle.py_flat.specs.FlatFile.{FlatFile}
use Rattle.py_flat.specs.Refusals.{refusal}
use Rattle.py_flat.specs.AllowedStep.{settled, waited_for, raw_faulted, out_of_memory}
use Rattle.py_flat.specs.BinaryStep.{reaches_raw, SettledBy, Starved, BinaryStep}
use Rattle.py_stream.specs.Stream.{Stream, file_of}
use Rattle.py_stream.specs.Writing.{Writes}
use Rattle.py_stream.specs.Answers.{AnswersWith, Answers, PlaceStarves}
use Rattle.py_stream.specs.Replies.{lent_reply}
use Rattle.py_binary.specs.Binary.{has_reply_room}
use Rattle.py_binary.specs.Kinds.{CopiesLent}
use Rattle.py_binary.proofs.Answering.{with_said}

-- a look that is accepted may go to the raw
look_reaches : (file : FlatFile) → refusal file Peek ≡ None → IsTrue (reaches_raw file Peek)
look_reaches file accepted = grind arith

lent_by : (file after : FlatFile) (part : List ℕ) (refused : Option IoFault) → refusal file Peek ≡ refused → SettledBy file Peek refused (Bytes part) after → Starved file Peek after
lent_by file after part (Some why) is by = let wrong : Bytes part ≡ Refused why = by.0 in absurd (cc)
lent_by file after part None is by = (look_reaches file is, ap (λ (answer : FileReply × FlatFile). answer.1) by.outcome)

-- a look that lent bytes leaves the flat file as it was
lent_starves : (file after : FlatFile) (part : List ℕ) (waited : Bool) → BinaryStep file Peek (Bytes part) waited false after → Starved file Peek after
lent_starves file after part waited (settled by) = lent_by file after part (refusal file Peek) refl by
lent_starves file after part waited (waited_for so by) = let wrong : Bytes part ≡ NotReady = by.1.0 in absurd (cc)
lent_starves file after part waited (raw_faulted so says by) = let wrong : Bytes part ≡ Refused fault.RawFault = says in absurd (cc)
lent_starves file after part waited (out_of_memory says by) = let wrong : Bytes part ≡ Refused fault.NoMemory = says in absurd (cc)

starves_at : (current : Life) (before after : ℕ) → after ≡ before → PlaceStarves current None before after
starves_at life.Live before after is = is
starves_at current before after is = omega arith

-- what a stream that writes does for a look, it does whatever is answered
writes_lent : (old new : Stream) (part : List ℕ) → Writes old Peek (Bytes part) new → Writes old Peek (Refused fault.NoMemory) new
writes_lent old new part w = record {
  owes = w.owes;
  takes = w.takes;
  room = λ writing. absurd (cc);
  leaves = w.leaves;
  stands = w.stands;
  lays = w.lays;
  passes = tt;
  full = tt;
  starves = λ wants writing. absurd (cc);
  straight = tt;
  settles = w.settles;
  unclosed = w.unclosed;
  rests = w.rests;
}

-- a look whose bytes there is no memory for
starved_look : (old new : Stream) (part : List ℕ) → Answers old Peek (Bytes part) new → AnswersWith has_reply_room old Peek (Refused fault.NoMemory) new
starved_look old new part a = record {
  keeps = a.keeps;
  refused = λ why refused. let wrong : Bytes part ≡ Refused why = (a.refused why refused).says in absurd (cc);
  again = λ closes. absurd (cc);
  shut = a.shut;
  parted = λ parts. absurd (cc);
  causes = record { waits = a.causes.waits; faults = λ faulted. absurd (cc) };
  counted = λ exact. record { faults = λ sound. (a.counted exact).faults refl; waits = (a.counted exact).waits; once = (a.counted exact).once };
  shorts = a.shorts;
  moves = record { life_is = a.moves.life_is; place = starves_at new.life old.place new.place a.moves.place; far = a.moves.far; within = tt };
  ends = tt;
  seeks = tt;
  wants = λ wanting room. absurd (cc);
  goes_on = a.goes_on;
  goes_past = λ reading given. absurd (cc);
  starves = λ wanting reading. absurd (cc);
  first = λ wanting takes. absurd (cc);
  nothing = λ asks. absurd (cc);
  idle = λ keeps. absurd (cc);
  single = a.single;
  once = a.once;
  passes_first = λ buffered single some given. absurd (cc);
  brings = a.brings;
  unread = a.unread;
  in_hand = λ has. record { raw = (a.in_hand has).raw; fault = refl };
  owing = a.owing;
  needs = λ reading none. absurd (cc);
  needs_reads = λ reading. absurd (cc);
  spares = a.spares;
  writes = λ writing. writes_lent old new part (a.writes writing);
  answer = λ accepted. tt;
  at_once = λ failed is. absurd (cc);
  complete = λ accepted calm sound. (tt, (a.complete accepted calm sound).1);
  told = λ tells. out_of_memory refl (lent_starves (file_of old) (file_of new) part new.short (a.told tells));
  reach = a.reach;
  near = a.near;
  hides = a.hides;
}

-- a look is answered, with room for the reply only, by a copy of the bytes that it lent, or for want of memory for one
pub copied_answers : (old : Stream) (answer : Result (Option (Bor (List ℕ))) IoFault) (said : FileReply) (new : Stream) → Answers old Peek (lent_reply answer) new → CopiesLent answer said → AnswersWith has_reply_room old Peek said new
copied_answers old (Ok (Some part)) said new a (inl same) = with_said old Peek (Bytes part.now) said new same a
copied_answers old (Ok (Some part)) said new a (inr lacks) = subst (λ (reply : FileReply). AnswersWith has_reply_room old Peek reply new) (sym lacks) (starved_look old new part.now a)
copied_answers old (Ok None) said new a same = with_said old Peek NotReady said new same a
copied_answers old (Err why) said new a same = with_said old Peek (Refused why) said new same a
