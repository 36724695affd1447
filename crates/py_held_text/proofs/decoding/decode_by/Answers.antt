use Rattle.std.proofs.Common.{List, ℕ, ◌≡◌, ap, ◌∙◌, arith}
use Rattle.py_plain.specs.Handlers.{treatment}
use Rattle.py_plain.specs.Items.{characters_of}
use Rattle.py_plain.specs.NewlineRule.{read_so_far}
use Rattle.py_codec.specs.Answers.{text_of}
use Rattle.py_codec.specs.Decoding.{walk_here}
use Rattle.py_codec.specs.Front.{items_for}
use Rattle.py_held_text.proofs.Decoded.{read-count}
use Rattle.py_held_text.proofs.decoding.decode_by.Goals as goal

pub overflow_sub-chars : goal.overflow_sub-chars
overflow_sub-chars c =
    let cs : List ℕ = characters_of (items_for c.args.want (walk_here c.args.coder.encoding (treatment c.args.coder.errors c.args.coder.encoding) c.args.last c.args.bytes.now 0).items) in
    let raw : text_of c.in_ok-raw.raw ≡ cs = c.in_ok-raw.ensures.text in
    let read : text_of c.in_ok-read.read ≡ read_so_far c.args.newline c.args.cr cs = c.in_ok-read.ensures.gives ∙ ap (read_so_far c.args.newline c.args.cr) raw in
    omega (arith, c.in_ok-raw.ensures.part.chars, c.len-size.ensures, c.len.ensures, read-count c.args.newline c.args.cr cs c.in_ok-raw.raw c.in_ok-read.read raw read)

pub returns-clause-chars : goal.returns-clause-chars
returns-clause-chars c =
    let cs : List ℕ = characters_of (items_for c.args.want (walk_here c.args.coder.encoding (treatment c.args.coder.errors c.args.coder.encoding) c.args.last c.args.bytes.now 0).items) in
    let raw : text_of c.in_ok-raw.raw ≡ cs = c.in_ok-raw.ensures.text in
    let read : text_of c.in_ok-read.read ≡ read_so_far c.args.newline c.args.cr cs = c.in_ok-read.ensures.gives ∙ ap (read_so_far c.args.newline c.args.cr) raw in
    omega (arith, c.in_ok-raw.ensures.part.chars, c.len-size.ensures, c.len.ensures, read-count c.args.newline c.args.cr cs c.in_ok-raw.raw c.in_ok-read.read raw read)
