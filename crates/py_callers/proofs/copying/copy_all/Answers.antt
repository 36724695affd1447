use Rattle.std.proofs.Common.{rules, ◌≡◌, inl, inr, ℕ, Bool, true, false, not, List, length, Option, Some, None, Result, Ok, Err, refl, sym, ◌∙◌, subst}
use Rattle.py_flat.specs.declared.fault.IoFault.{IoFault}
use Rattle.py_flat.specs.Calls.{Read, Write, Flush, Bytes, Count, Done, NotReady, Refused}
use Rattle.py_stream.specs.Stream.{Stream}
use Rattle.py_stream.specs.Answers.{Answers, TakesOf}
use Rattle.py_callers.specs.Copying.{CopyOutcome}
use Rattle.py_callers.proofs.ThreeCalls.{copied_as, not_true}
use Rattle.py_callers.proofs.copying.copy_all.Goals as goal

pub returns-in_err-bytes-clause-outcome : goal.returns-in_err-bytes-clause-outcome
returns-in_err-bytes-clause-outcome g c =
    let says : c.from_residual.result ≡ Err c.in_err-bytes.field-0.0 = search rules in
    subst (λ (answer : Result Bool IoFault). CopyOutcome c.args.reader.now c.args.writer.now.stream answer c.read.new.self c.args.writer.now.stream) (sym says) (inl (c.in_err-bytes.ensures, refl))

pub returns-in_default-clause-outcome : goal.returns-in_default-clause-outcome
returns-in_default-clause-outcome g c =
    let waits : Answers c.args.reader.now (Read None) NotReady c.read.new.self = rw c.in_default.is at c.in_ok-bytes.ensures in
    (waits.shorts, inr (record { reads = waits; same = refl }))

pub returns-in_err-write-clause-outcome : goal.returns-in_err-write-clause-outcome
returns-in_err-write-clause-outcome g c =
    let says : c.from_residual-in_err-write.result ≡ Err c.in_err-write.field-0.0 = search rules in
    let reads : Answers c.args.reader.now (Read None) (Bytes c.in-Some.bytes.items) c.read.new.self = rw c.in-Some.is at c.in_ok-bytes.ensures in
    let refused : Answers c.args.writer.now.stream (Write c.in-Some.bytes.items) (Refused c.in_err-write.field-0.0) c.write.new.self.stream = subst (λ (bytes : List ℕ). Answers c.args.writer.now.stream (Write bytes) (Refused c.in_err-write.field-0.0) c.write.new.self.stream) c.deref.ensures.value c.in_err-write.ensures.answers in
    subst (λ (answer : Result Bool IoFault). CopyOutcome c.args.reader.now c.args.writer.now.stream answer c.read.new.self c.write.new.self.stream) (sym says) (inr (c.in-Some.bytes.items, reads, inl refused))

-- what came was read, written and passed on, and a wait cut the reading short, or none did
copies_so : (short : Bool) (reader writer read written after : Stream) (part : List ℕ) → read.short ≡ short → Answers reader (Read None) (Bytes part) read → Answers writer (Write part) (Count (length part)) written → Answers written Flush Done after → CopyOutcome reader writer (Ok (not short)) read after
copies_so true reader writer read written after part is reads writes flushes = (is, inl (record { part = part; written = written; reads = reads; writes = writes; flushes = flushes }))
copies_so false reader writer read written after part is reads writes flushes = (is, record { part = part; written = written; reads = reads; writes = writes; flushes = flushes })

-- a write into a buffer that answered took all that it was given
wrote_all : (writer after : Stream) (size count : ℕ) (given part : List ℕ) → writer.buffer ≡ Some size → given ≡ part → Answers writer (Write given) (Count count) after → Answers writer (Write part) (Count (length part)) after
wrote_all writer after size count given part sized same answers =
    let took : Answers writer (Write part) (Count count) after = subst (λ (bytes : List ℕ). Answers writer (Write bytes) (Count count) after) same answers in
    let all : count ≡ length part = subst (λ (buffer : Option ℕ). TakesOf buffer part count) sized took.moves.place.0 in
    subst (λ (taken : ℕ). Answers writer (Write part) (Count taken) after) all took

pub returns-in_err-flush-clause-outcome : goal.returns-in_err-flush-clause-outcome
returns-in_err-flush-clause-outcome g c =
    let says : c.from_residual-in_err-flush.result ≡ Err c.in_err-flush.field-0.0 = search rules in
    let reads : Answers c.args.reader.now (Read None) (Bytes c.in-Some.bytes.items) c.read.new.self = rw c.in-Some.is at c.in_ok-bytes.ensures in
    let wrote = wrote_all c.args.writer.now.stream c.write.new.self.stream c.buffer_size.result c.in_ok-write.field-0 c.deref.result.now c.in-Some.bytes.items c.buffer_size.ensures c.deref.ensures.value c.in_ok-write.ensures.answers in
    subst (λ (answer : Result Bool IoFault). CopyOutcome c.args.reader.now c.args.writer.now.stream answer c.read.new.self c.flush.new.self.stream) (sym says) (inr (c.in-Some.bytes.items, reads, inr (c.write.new.self.stream, wrote, c.in_err-flush.ensures.answers)))

pub returns-clause-outcome : goal.returns-clause-outcome
returns-clause-outcome g c =
    let wrote = wrote_all c.args.writer.now.stream c.write.new.self.stream c.buffer_size.result c.in_ok-write.field-0 c.deref.result.now c.in-Some.bytes.items c.buffer_size.ensures c.deref.ensures.value c.in_ok-write.ensures.answers in
    copies_so c.short.result c.args.reader.now c.args.writer.now.stream c.read.new.self c.write.new.self.stream c.flush.new.self.stream c.in-Some.bytes.items (sym c.short.ensures) (rw c.in-Some.is at c.in_ok-bytes.ensures) wrote c.in_ok-flush.ensures.answers

pub returns-clause-copied : goal.returns-clause-copied
returns-clause-copied g c = λ is.
    let whole : not c.short.result ≡ true = cc (is) in
    let reads : Answers c.args.reader.now (Read None) (Bytes c.in-Some.bytes.items) c.read.new.self = rw c.in-Some.is at c.in_ok-bytes.ensures in
    let wrote = wrote_all c.args.writer.now.stream c.write.new.self.stream c.buffer_size.result c.in_ok-write.field-0 c.deref.result.now c.in-Some.bytes.items c.buffer_size.ensures c.deref.ensures.value c.in_ok-write.ensures.answers in
    copied_as c.args.reader.now c.read.new.self c.args.writer.now.stream c.write.new.self.stream c.flush.new.self.stream c.in-Some.bytes.items c.in-Some.bytes.items (length c.in-Some.bytes.items) refl refl reads (sym c.short.ensures ∙ not_true c.short.result whole) wrote c.in_ok-flush.ensures.answers
