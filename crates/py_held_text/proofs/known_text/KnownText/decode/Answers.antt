use Rattle.std.proofs.Common.{◌++◌, ◌+◌, Bool, List, ℕ, [], drop, chars, string_bytes, sym, ap, ◌∙◌, arith}
use Rattle.py_plain.specs.Handlers.{treatment}
use Rattle.py_plain.specs.Items.{characters_of}
use Rattle.py_plain.specs.NewlineRule.{read_so_far, holds_after}
use Rattle.py_codec.specs.Decoding.{walk_here}
use Rattle.py_codec.specs.Front.{items_for}
use Rattle.py_held_text.specs.Known.{KnownView, reading}
use Rattle.py_held_text.proofs.Knowing.{known-same, same-bytes, on-err, counted-fits, known-grown, text-grown}
use Rattle.py_held_text.proofs.Reading.{holds-still}
use Rattle.py_held_text.proofs.known_text.KnownText.decode.Goals as goal

pub invariant_of-self : goal.invariant_of-self
invariant_of-self c = known-same c.self.inside.newline _ _ c.self.inside.given c.self.inside.count c.self.inside.searched c.self.inside.cr (same-bytes c.decode_by.new.text c.self.inside.text c.in_err-decoded.ensures.same) c.self.invariant

pub returns-in_err-decoded-clause-same : goal.returns-in_err-decoded-clause-same
returns-in_err-decoded-clause-same c =
    on-err c.from_residual-in_err-decoded.result
    (ap (λ (bytes : List ℕ). record { newline = c.self.inside.newline; characters = chars (drop c.self.inside.given bytes); cr = c.self.inside.cr }) (same-bytes c.decode_by.new.text c.self.inside.text c.in_err-decoded.ensures.same)
    ∙ (c.self.view_is ∙ c.compact.ensures))

pub overflow_add-self : goal.overflow_add-self
overflow_add-self c =
    let cs : List ℕ = characters_of (items_for c.args.want (walk_here c.args.coder.encoding (treatment c.args.coder.errors c.args.coder.encoding) c.args.last c.args.bytes.now 0).items) in
    let more : List ℕ = read_so_far c.self.inside.newline c.self.inside.cr cs in
    omega (arith, c.in_ok-decoded.ensures.chars, counted-fits c.self.inside.newline c.self.inside.text c.decode_by.new.text c.self.inside.given c.self.inside.count c.self.inside.searched c.self.inside.cr more c.self.invariant c.in_ok-decoded.ensures.appended)

pub invariant_of-self-2 : goal.invariant_of-self-2
invariant_of-self-2 c =
    let cs : List ℕ = characters_of (items_for c.args.want (walk_here c.args.coder.encoding (treatment c.args.coder.errors c.args.coder.encoding) c.args.last c.args.bytes.now 0).items) in
    let more : List ℕ = read_so_far c.self.inside.newline c.self.inside.cr cs in
    known-grown c.self.inside.newline c.self.inside.text c.decode_by.new.text c.self.inside.given c.self.inside.count c.self.inside.searched c.self.inside.cr more c.in_ok-decoded.decoded.cr _ c.self.invariant c.in_ok-decoded.ensures.appended
    (ap (λ (n : ℕ). c.self.inside.count + n) c.in_ok-decoded.ensures.chars)
    (ap (λ (held : Bool). holds_after c.self.inside.newline held []) c.in_ok-decoded.ensures.holds ∙ (holds-still c.self.inside.newline c.self.inside.cr cs ∙ sym c.in_ok-decoded.ensures.holds))

pub returns-clause-reading : goal.returns-clause-reading
returns-clause-reading c =
    let cs : List ℕ = characters_of (items_for c.args.want (walk_here c.args.coder.encoding (treatment c.args.coder.errors c.args.coder.encoding) c.args.last c.args.bytes.now 0).items) in
    let more : List ℕ = read_so_far c.self.inside.newline c.self.inside.cr cs in
    let known : List ℕ = chars (drop c.self.inside.given (string_bytes c.self.inside.text)) in
    ap (λ (t : List ℕ). record { newline = c.self.inside.newline; characters = t; cr = c.in_ok-decoded.decoded.cr }) (text-grown c.self.inside.newline c.self.inside.text c.decode_by.new.text c.self.inside.given c.self.inside.count c.self.inside.searched c.self.inside.cr more c.self.invariant c.in_ok-decoded.ensures.appended)
    ∙ (ap (λ (held : Bool). record { newline = c.self.inside.newline; characters = known ++ more; cr = held }) c.in_ok-decoded.ensures.holds
    ∙ ap (λ (known : KnownView). reading known cs) (c.self.view_is ∙ c.compact.ensures))
