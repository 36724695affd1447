use Rattle.std.proofs.Common.{◌≡◌, ℕ, ◌+◌, ◌≤◌, true, List, length, None, IsSome, arith}
use Rattle.py_flat.specs.Limits.{greatest_place}
use Rattle.py_flat.specs.Lines.{joined}
use Rattle.py_flat.specs.Calls.{Write, WriteLines, FileReply, Count, Done}
use Rattle.py_flat.specs.Refusals.{refusal}
use Rattle.py_flat.specs.BinaryStep.{Transfers}
use Rattle.py_stream.specs.Stream.{Stream, file_of}
use Rattle.py_stream.specs.Answers.{Answers}
use Rattle.py_stream.specs.Laws.{GoesSmoothly, TakesJust}
use Rattle.py_stream.proofs.laws.a_smooth_write_takes_all.Goals as goal

-- a live stream that can be written refuses no write whose end it can have
write_passes : (before : Stream) (bytes : List ℕ) (reply : FileReply) (after : Stream) → before.can.writable ≡ true → before.place + length bytes ≤ greatest_place → GoesSmoothly before reply after → refusal (file_of before) (Write bytes) ≡ None
write_passes before bytes reply after can fits goes = grind arith

writes_all : (before : Stream) (bytes : List ℕ) (reply : FileReply) (after : Stream) → Answers before (Write bytes) reply after → before.can.writable ≡ true → IsSome before.buffer → before.place + length bytes ≤ greatest_place → GoesSmoothly before reply after → TakesJust before (Count (length bytes)) bytes reply after
writes_all before bytes reply after answers can buffered fits goes =
    let passes : refusal (file_of before) (Write bytes) ≡ None = write_passes before bytes reply after can fits goes in
    grind (arith, answers.complete passes goes.no_wait goes.no_fault, answers.told goes.told)

pub returns-clause-write : goal.returns-clause-write
returns-clause-write c = writes_all

writes_some : (before : Stream) (bytes : List ℕ) (reply : FileReply) (after : Stream) → Answers before (Write bytes) reply after → before.can.writable ≡ true → before.buffer ≡ None → before.place + length bytes ≤ greatest_place → GoesSmoothly before reply after → Transfers (file_of before) (Write bytes) bytes reply (file_of after)
writes_some before bytes reply after answers can bare fits goes =
    let passes : refusal (file_of before) (Write bytes) ≡ None = write_passes before bytes reply after can fits goes in
    grind (arith, answers.complete passes goes.no_wait goes.no_fault, answers.told goes.told)

pub returns-clause-front : goal.returns-clause-front
returns-clause-front c = writes_some

-- a live stream that can be written refuses no lines whose end it can have
lines_pass : (before : Stream) (lines : List (List ℕ)) (reply : FileReply) (after : Stream) → before.can.writable ≡ true → before.place + length (joined lines) ≤ greatest_place → GoesSmoothly before reply after → refusal (file_of before) (WriteLines lines) ≡ None
lines_pass before lines reply after can fits goes = grind arith

writes_lines : (before : Stream) (lines : List (List ℕ)) (reply : FileReply) (after : Stream) → Answers before (WriteLines lines) reply after → before.can.writable ≡ true → before.place + length (joined lines) ≤ greatest_place → GoesSmoothly before reply after → TakesJust before Done (joined lines) reply after
writes_lines before lines reply after answers can fits goes = grind (arith, lines_pass before lines reply after can fits goes)

pub returns-clause-writelines : goal.returns-clause-writelines
returns-clause-writelines c = writes_lines
