-- A session that has no memory for the bytes of a reply calls no stream.
use Rattle.std.proofs.Common.{◌≡◌, ℕ, Bool, true, false, IsTrue, [], Option, Some, None, inl, refl, sym, ◌∙◌, arith}
use Rattle.py_flat.specs.declared.fault.IoFault.TheVariants as fault
use Rattle.py_flat.specs.declared.life.Life.TheVariants as life
use Rattle.py_flat.specs.Calls.{ReadInto, Refused}
use Rattle.py_flat.specs.AllowedStep.{out_of_memory}
use Rattle.py_flat.specs.BinaryStep.{reaches_raw}
use Rattle.py_stream.specs.Stream.{Stream, file_of}
use Rattle.py_stream.specs.Kinds.{calls_none}
use Rattle.py_stream.specs.Writing.{Writes}
use Rattle.py_stream.specs.Answers.{AnswersWith, refused_by}
use Rattle.py_stream.proofs.Begun.{near_seen, ahead_seen, came_still, each_still, reads_none}
use Rattle.py_stream.proofs.Refused.{lays_nothing, starves_alive, starves_there}
use Rattle.py_raw.proofs.Telling.{keeps_same}
use Rattle.py_binary.specs.Binary.{has_reply_room}
use Rattle.py_binary.specs.Kinds.{IsHeld}

never_idle : (buffer : Option ℕ) (writes : Bool) (size : ℕ) → calls_none buffer writes (ReadInto size) ≡ false
never_idle None writes size = refl
never_idle (Some held) writes size = refl

accepts : (stream : Stream) (size : ℕ) → stream.life ≡ life.Live → stream.can.readable ≡ true → refused_by stream (ReadInto size) ≡ None
accepts stream size live reads = rw live (rw reads refl)

reaches : (stream : Stream) (size : ℕ) → stream.life ≡ life.Live → stream.can.readable ≡ true → IsTrue (reaches_raw (file_of stream) (ReadInto size))
reaches stream size live reads = rw live (rw reads refl)

writes_none : (stream : Stream) (size : ℕ) → stream.life ≡ life.Live → Writes stream (ReadInto size) (Refused fault.NoMemory) (record stream { short = false })
writes_none stream size live = record {
  owes = λ writing. absurd (cc);
  takes = λ writing. absurd (cc);
  room = λ writing. absurd (cc);
  leaves = λ _. record { passed = 0; most = omega arith; answered = λ tells. refl; bytes = refl; place = λ _. omega arith };
  stands = λ is reads. absurd (cc);
  lays = λ tells. lays_nothing stream [] stream.raw.bytes refl;
  passes = tt;
  full = tt;
  starves = λ wants writing. absurd (cc);
  straight = tt;
  settles = λ at. at;
  unclosed = λ _. refl;
  rests = λ _. refl;
}

-- a live stream that reads
pub starved_into : (stream : Stream) (size : ℕ) → IsHeld stream → stream.life ≡ life.Live → stream.can.readable ≡ true → AnswersWith has_reply_room stream (ReadInto size) (Refused fault.NoMemory) (record stream { short = false })
starved_into stream size is live reads = record {
  keeps = record { buffer = refl; can = refl; raw = keeps_same stream.raw; bare = λ _ none. none };
  refused = λ why refused. let wrong : None ≡ Some why = sym (accepts stream size live reads) ∙ refused in absurd (cc);
  again = λ closes. absurd (cc);
  shut = λ _ none closed. closed;
  parted = λ _. refl;
  causes = record { waits = λ short. absurd (cc); faults = λ faulted. absurd (cc) };
  counted = λ exact. record { faults = λ sound. refl; waits = λ short goes. refl; once = λ short. absurd (cc) };
  shorts = refl;
  moves = record { life_is = starves_alive stream.buffer (ReadInto size) stream.life; place = starves_there stream.buffer (ReadInto size) stream.life stream.place; far = is.far; within = tt };
  ends = tt;
  seeks = tt;
  wants = λ wanting room. absurd (cc);
  goes_on = λ reading ahead. ahead_seen stream false ahead;
  goes_past = λ reading given. absurd (cc);
  starves = λ wanting reading. record {
    ahead = λ none. record {
      unmoved = λ lives. refl;
      moved = λ failed. let wrong : life.Live ≡ life.Failed = sym live ∙ failed in absurd (cc);
      stands = λ failed. let wrong : life.Live ≡ life.Failed = sym live ∙ failed in absurd (cc);
    };
    left = λ failed. let wrong : life.Live ≡ life.Failed = sym live ∙ failed in absurd (cc);
    unread = λ lives tells. refl;
  };
  first = λ wanting takes. absurd (cc);
  nothing = λ asks. record { raw = refl; fault = refl };
  idle = λ keeps. absurd (let never = never_idle stream.buffer stream.can.writable size in cc);
  single = λ one none tells. omega arith;
  once = λ one tells. inl refl;
  passes_first = λ buffered single some given. absurd (cc);
  in_hand = λ has. record { raw = refl; fault = refl };
  owing = λ has. record { owed = refl; held = refl };
  brings = λ reading none. came_still stream (record stream { short = false }) 1 refl refl;
  unread = λ reads. absurd (cc);
  needs = λ reading none. record {
    enough = λ whole within buffered. record { raw = refl; fault = refl };
    whole = λ whole. each_still stream (record stream { short = false }) 0 0 refl refl;
    needed = λ whole. inl refl;
    last = each_still stream (record stream { short = false }) 1 1 refl refl;
  };
  needs_reads = λ reading. reads_none stream (ReadInto size) (Refused fault.NoMemory) (record stream { short = false }) (λ tells. refl);
  spares = λ reading none. record { bytes = λ tells. refl; written = λ tells. refl; owed = none; still = λ moves. refl };
  writes = λ writing. writes_none stream size live;
  answer = λ accepted. tt;
  at_once = λ failed is. absurd (cc);
  complete = λ accepted calm sound. (tt, refl);
  told = λ tells. out_of_memory refl (reaches stream size live reads, inl refl);
  reach = λ reading tells. omega arith;
  near = λ lives. near_seen stream false (is.near lives);
  hides = λ short. absurd (cc);
}
