-- The first line, from the clause of the run that read it.
use Rattle.std.proofs.Common.{inl, inr, ◌≡◌, ◌⊎◌, ℕ, ◌≤◌, Bool, true, false, not, IsTrue, List, [], ◌∷◌, ◌++◌, length, length-append, Option, Some, None, Ok, codes, if◌then◌else◌, refl, sym, ap, ◌∙◌, subst, arith}
use Rattle.std.proofs.lemmas.Bool.{le-leb}
use Rattle.py_flat.specs.declared.fault.IoFault.{IoFault}
use Rattle.py_flat.specs.declared.fault.IoFault.TheVariants as fault
use Rattle.py_flat.specs.declared.life.Life.{Life}
use Rattle.py_flat.specs.declared.life.Life.TheVariants as life
use Rattle.py_flat.specs.Bytes.{left_at, lay}
use Rattle.py_flat.specs.Lines.{Lf, first_line}
use Rattle.py_flat.specs.Causes.{Rose, rose, counted}
use Rattle.py_flat.specs.Calls.{ReadLine, FileReply, Bytes, Refused}
use Rattle.py_flat.specs.FlatFile.{FlatFile, Abilities, Buffering}
use Rattle.py_flat.specs.Owed.{Owed}
use Rattle.py_flat.specs.Refusals.{or_else, refused_if, lets_through, life_fault, refusal}
use Rattle.py_flat.specs.ExactStep.{rest}
use Rattle.py_flat.specs.AllowedStep.{settled, waited_for, raw_faulted, out_of_memory}
use Rattle.py_flat.specs.BinaryStep.{SettledBy, Settled, BinaryStep}
use Rattle.py_raw.specs.RawStream.{Raw, tells}
use Rattle.py_raw.proofs.Telling.{tells_its_bytes, tells_its_place, tells_still}
use Rattle.py_stream.specs.Stream.{Stream, file_of}
use Rattle.py_stream.specs.Kinds.{says_fault}
use Rattle.py_stream.specs.Opening.{Opens}
use Rattle.py_calls.specs.declared.call.Call.TheVariants as call
use Rattle.py_calls.specs.declared.reply.Reply.{Reply}
use Rattle.py_calls.specs.Calls.{said}
use Rattle.py_calls.specs.declared.mode.FileMode.TheVariants as mode
use Rattle.py_calls.specs.declared.mode.EncodeMode.TheVariants as encode
use Rattle.py_calls.specs.declared.plan.OpenPlan.{OpenPlan}
use Rattle.py_calls.specs.declared.plan.PlanKind.TheVariants as kind
use Rattle.py_binary.specs.Binary.{AnswersBinary}
use Rattle.py_stream.specs.Access.{can_of, is_able}
use Rattle.py_stream.specs.declared.access.Access.TheVariants as access
use Rattle.py_open.specs.Session.{SessionView, TextSession, BinarySession, Answers, raw_of}
use Rattle.py_open.specs.Opening.{OpensSession}
use Rattle.py_open.specs.Run.{IsRun, RunsCalls}
use Rattle.py_open.proofs.Steps.{left_raw}
use Rattle.py_callers.specs.FirstLine.{AnswersLine}

-- Counts.

-- what has its cause in a count that didn't rise from an earlier time on didn't come about
uncaused : (first mid last : ℕ) (came : Bool) → first ≤ mid → (IsTrue came → Rose mid last) → rose first last ≡ false → came ≡ false
uncaused first mid last true on caused calm = absurd (let later : Rose mid last = caused refl in let rises : rose first last ≡ true = le-leb (counted first 1) last (omega arith) in cc)
uncaused first mid last false on caused calm = refl

-- The file of a session that opened to read.

reads : (current : Life) (buffering : Buffering) (readable : Bool) → current ≡ life.Live → readable ≡ true → or_else (if lets_through current buffering (ReadLine None) then None else life_fault current) (or_else (refused_if (not readable) fault.Unsupported) None) ≡ None
reads life.Live buffering true live can = refl
reads life.Live buffering false live can = cc
reads life.Failed buffering readable live can = cc
reads life.Closed buffering readable live can = cc
reads life.Detached buffering readable live can = cc

line_settled : (file : FlatFile) (reply : FileReply) (after : FlatFile) → refusal file (ReadLine None) ≡ None → Settled file (ReadLine None) reply after → reply ≡ Bytes (first_line Lf None (rest file))
line_settled file reply after accepted h =
    let carried : SettledBy file (ReadLine None) None reply after = subst (λ (refused : Option IoFault). SettledBy file (ReadLine None) refused reply after) accepted h in
    ap (λ (p : FileReply × FlatFile). p.0) carried

line_stepped : (file : FlatFile) (reply : FileReply) (after : FlatFile) → refusal file (ReadLine None) ≡ None → BinaryStep file (ReadLine None) reply false false after → (reply ≡ Bytes (first_line Lf None (rest file))) ⊎ (reply ≡ Refused fault.NoMemory)
line_stepped file reply after accepted (settled h) = inl (line_settled file reply after accepted h)
line_stepped file reply after accepted (waited_for rises h) = absurd (cc rises)
line_stepped file reply after accepted (raw_faulted rises says h) = absurd (cc rises)
line_stepped file reply after accepted (out_of_memory says h) = inr says

abbrev OpensToRead : Raw → Stream → Type 0
OpensToRead raw stream = Opens (is_able access.Read (Some 8192)) (can_of access.Read) raw (Some 8192) stream

-- where the raw tells, the file has left what the raw has
rest_of : (raw : Raw) (stream : Stream) → OpensToRead raw stream → IsTrue (tells raw) → rest (file_of stream) ≡ left_at raw.bytes raw.place
rest_of raw stream opens told =
    ap (λ (owed : Owed). left_at (lay stream.raw.bytes owed.place owed.bytes) stream.place) opens.owed
    ∙ ap (λ (bytes : List ℕ). left_at bytes stream.place) (opens.untouched.bytes (tells_its_bytes raw told))
    ∙ ap (left_at raw.bytes) (opens.place (tells_its_place raw told))

accepts : (raw : Raw) (stream : Stream) → OpensToRead raw stream → refusal (file_of stream) (ReadLine None) ≡ None
accepts raw stream opens = reads stream.life (file_of stream).buffering stream.can.readable opens.life_is (ap (λ (can : Abilities). can.readable) opens.can_do)

-- The call.

stream_line : (raw : Raw) (stream : Stream) (reply : Reply) (after : Stream) → OpensToRead raw stream → AnswersBinary stream (call.ReadLine None) reply after → AnswersLine raw (said reply) after.raw
stream_line raw stream reply after opens step =
    let answered : Stream = step.answered in
    let back : after.raw ≡ answered.raw = ap (λ (s : Stream). s.raw) step.leaves ∙ left_raw stream.life answered.life answered in
    subst (λ (shown : Raw). AnswersLine raw (said reply) shown) (sym back) (record {
      line = λ seen smooth.
          let whole : answered.short ≡ false = uncaused raw.waits stream.raw.waits answered.raw.waits answered.short opens.untouched.keeps.waits step.answers.causes.waits smooth.waits in
          let sound : says_fault (said reply) ≡ false = uncaused raw.faults stream.raw.faults answered.raw.faults (says_fault (said reply)) opens.untouched.keeps.faults step.answers.causes.faults smooth.faults in
          let told : BinaryStep (file_of stream) (ReadLine None) (said reply) answered.short (says_fault (said reply)) (file_of answered) = step.answers.told (tells_still raw stream.raw opens.untouched.keeps ∙ seen) in
          let step' : BinaryStep (file_of stream) (ReadLine None) (said reply) false false (file_of answered) = rw (whole, sound) at told in
          subst (λ (left : List ℕ). (said reply ≡ Bytes (first_line Lf None left)) ⊎ (said reply ≡ Refused fault.NoMemory)) (rest_of raw stream opens seen) (line_stepped (file_of stream) (said reply) (file_of answered) (accepts raw stream opens) step');
      fault = λ says. let on : raw.faults ≤ stream.raw.faults = opens.untouched.keeps.faults in let rises : Rose stream.raw.faults answered.raw.faults = step.answers.causes.faults says in omega arith;
    })

answered_line : (raw : Raw) (stream : Stream) (reply : Reply) (mid session : SessionView) → OpensToRead raw stream → Answers (BinarySession stream) (call.ReadLine None) reply mid → session ≡ mid → AnswersLine raw (said reply) (raw_of session)
answered_line raw stream reply (TextSession text) session opens step is = absurd step
answered_line raw stream reply (BinarySession after) session opens step is = subst (λ (view : SessionView). AnswersLine raw (said reply) (raw_of view)) (sym is) (stream_line raw stream reply after opens step)

abbrev pub plan_read : OpenPlan
plan_read = record { mode = record { file = mode.Read; encode = encode.Bytes; plus = false }; kind = kind.Buffered 8192 }

session_line : (raw : Raw) (opened : SessionView) (session : SessionView) (reply : Reply) → OpensSession raw plan_read opened → IsRun opened (call.ReadLine None ∷ []) (reply ∷ []) session → AnswersLine raw (said reply) (raw_of session)
session_line raw (TextSession text) session reply opens run = absurd opens
session_line raw (BinarySession stream) session reply opens run = answered_line raw stream reply run.0 session opens run.1 run.2

-- What follows from the clauses that `run_planned` ensures.

-- the one reply of a run is the last of it
only : (first : Reply) (front : List Reply) (reply : Reply) → first ∷ [] ≡ front ++ (reply ∷ []) → first ∷ [] ≡ reply ∷ []
only first [] reply e = e
only first (one ∷ more) reply e = absurd (let n : length (first ∷ []) ≡ length ((one ∷ more) ++ (reply ∷ [])) = ap length e in omega (arith, length-append more (reply ∷ [])))

single : (raw : Raw) (plan : OpenPlan) (session : SessionView) (replies front : List Reply) (reply : Reply) → RunsCalls raw plan (call.ReadLine None ∷ []) session replies → replies ≡ front ++ (reply ∷ []) → RunsCalls raw plan (call.ReadLine None ∷ []) session (reply ∷ [])
single raw plan session [] front reply runs e = absurd runs.run
single raw plan session (first ∷ []) front reply runs e = subst (λ (replies : List Reply). RunsCalls raw plan (call.ReadLine None ∷ []) session replies) (only first front reply e) runs
single raw plan session (first ∷ (second ∷ more)) front reply runs e = absurd runs.run.2

pub outcome_line : (raw back : Raw) (session : SessionView) (replies front : List Reply) (reply : Reply) → RunsCalls raw plan_read (call.ReadLine None ∷ []) session replies → replies ≡ front ++ (reply ∷ []) → back ≡ raw_of session → AnswersLine raw (said reply) back
outcome_line raw back session replies front reply run last same =
    let runs : RunsCalls raw plan_read (call.ReadLine None ∷ []) session (reply ∷ []) = single raw plan_read session replies front reply run last in
    subst (λ (shown : Raw). AnswersLine raw (said reply) shown) (sym same) (session_line raw runs.opened session reply runs.opens runs.run)
