-- Lines that are printed one after the other.
use Rattle.std.proofs.Common.{◌≡◌, ℕ, ◌+◌, ◌≤◌, ◌<◌, IsTrue, List, [], ◌∷◌, ◌++◌, length, take, drop, get_or, Err, refl, sym, ◌∙◌, ap, subst, append_assoc, append-nil, arith}
use Rattle.std.proofs.lemmas.List.{take-append-drop, take_more}
use Rattle.py_flat.specs.Causes.{Rose}
use Rattle.py_flat.specs.BinaryStep.{IsFrontOf}
use Rattle.py_raw.specs.Sink.{SinkView, SinkKeeps, SinkFails, NoSinkFault}
use Rattle.py_calls.specs.declared.reply.Reply.{Reply}
use Rattle.py_script.specs.ReplyLine.{reply_line, reply_lines}
use Rattle.py_program.specs.declared.status.Status.{Status}
use Rattle.py_program.specs.declared.status.Status.TheVariants as status
use Rattle.py_program.specs.Outside.{Prints, PrintsFront, PrintOutcome}

-- a write that failed left a front of the line
pub fails_at_front : (old new : SinkView) (line : List ℕ) → SinkFails old line new → PrintsFront old line new
fails_at_front old new line fails told =
    let part = fails.told told in
    (take part.0 line, (drop part.0 line, take-append-drop part.0 line), part.2)

-- a count that rose later rose
pub rose_later : (old mid new : ℕ) → old ≤ mid → Rose mid new → Rose old new
rose_later old mid new le rose = omega arith

-- what is printed after what was printed
pub prints_more : (old mid new : SinkView) (before line : List ℕ) → SinkKeeps old mid → Prints old before mid → Prints mid line new → Prints old (before ++ line) new
prints_more old mid new before line keeps printed more told =
    more (subst IsTrue (sym keeps.tells) told) ∙ ap (λ bytes. bytes ++ line) (printed told) ∙ append_assoc old.written before line

-- a front of a line after what was printed is a front of all
front_behind : (old mid new : SinkView) (before line whole : List ℕ) → SinkKeeps old mid → Prints old before mid → IsFrontOf (before ++ line) whole → PrintsFront mid line new → PrintsFront old whole new
front_behind old mid new before line whole keeps printed (rest, joins) stops told =
    let part = stops (subst IsTrue (sym keeps.tells) told) in
    let joined : (before ++ part.0) ++ (part.1.0 ++ rest) ≡ whole =
    sym (append_assoc (before ++ part.0) part.1.0 rest) ∙ ap (λ bytes. bytes ++ rest) (append_assoc before part.0 part.1.0 ∙ ap (λ bytes. before ++ bytes) part.1.1) ∙ joins in
    (before ++ part.0, (part.1.0 ++ rest, joined), part.2 ∙ ap (λ bytes. bytes ++ part.0) (printed told) ∙ append_assoc old.written before part.0)

-- where a line wasn't printed, a front of all was printed
pub stops_behind : (old mid new : SinkView) (before line whole : List ℕ) (ended : Status) → SinkKeeps old mid → Prints old before mid → IsFrontOf (before ++ line) whole → PrintOutcome mid line (Err ended) new → PrintOutcome old whole (Err ended) new
stops_behind old mid new before line whole status.SinkFailed keeps printed front (cause, stops) = (rose_later old.faults mid.faults new.faults keeps.faults cause, front_behind old mid new before line whole keeps printed front stops)
stops_behind old mid new before line whole status.NoMemory keeps printed front stops = front_behind old mid new before line whole keeps printed front stops
stops_behind old mid new before line whole status.Done keeps printed front stops = absurd stops
stops_behind old mid new before line whole status.WordsMalformed keeps printed front stops = absurd stops
stops_behind old mid new before line whole status.ScriptMalformed keeps printed front stops = absurd stops
stops_behind old mid new before line whole status.Refused keeps printed front stops = absurd stops
stops_behind old mid new before line whole status.SourceFailed keeps printed front stops = absurd stops
stops_behind old mid new before line whole status.OpenerFailed keeps printed front stops = absurd stops

-- a sink keeps over two calls what it keeps over each
pub sink_keeps_more : (old mid new : SinkView) → SinkKeeps old mid → SinkKeeps mid new → SinkKeeps old new
sink_keeps_more old mid new first second = record { tells = second.tells ∙ first.tells; faults = omega arith; counts_exactly = second.counts_exactly ∙ first.counts_exactly }

-- two calls of a sink count no fault where neither of them did
pub no_fault_more : (old mid new : SinkView) → SinkKeeps old mid → NoSinkFault old mid → NoSinkFault mid new → NoSinkFault old new
no_fault_more old mid new keeps first second exact = second (keeps.counts_exactly ∙ exact) ∙ first exact

-- the lines of replies and of more replies are the lines of both
pub lines_joined : (first second : List Reply) → reply_lines (first ++ second) ≡ reply_lines first ++ reply_lines second
lines_joined [] second = refl
lines_joined (reply ∷ first) second = ap (λ bytes. reply_line reply ++ bytes) (lines_joined first second) ∙ sym (append_assoc (reply_line reply) (reply_lines first) (reply_lines second))

-- the lines of one more reply
pub lines_more : (replies : List Reply) (i : ℕ) (reply : Reply) → i < length replies → reply ≡ get_or replies i reply → reply_lines (take (i + 1) replies) ≡ reply_lines (take i replies) ++ reply_line reply
lines_more replies i reply within is =
    ap reply_lines (take_more replies i reply within ∙ ap (λ more. take i replies ++ more ∷ []) (sym is))
    ∙ lines_joined (take i replies) (reply ∷ [])
    ∙ ap (λ line. reply_lines (take i replies) ++ line) (append-nil (reply_line reply))

-- the lines of one more reply are a front of the lines of all
pub lines_front : (replies : List Reply) (i : ℕ) (reply : Reply) → i < length replies → reply ≡ get_or replies i reply → IsFrontOf (reply_lines (take i replies) ++ reply_line reply) (reply_lines replies)
lines_front replies i reply within is = (
  reply_lines (drop (i + 1) replies),
  ap (λ bytes. bytes ++ reply_lines (drop (i + 1) replies)) (sym (lines_more replies i reply within is))
      ∙ sym (lines_joined (take (i + 1) replies) (drop (i + 1) replies))
      ∙ ap reply_lines (take-append-drop (i + 1) replies),
)
