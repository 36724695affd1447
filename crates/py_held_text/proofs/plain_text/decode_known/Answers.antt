use Rattle.std.proofs.Common.{◌≡◌, ◌+◌, ◌≤◌, ◌<◌, ◌^◌, List, ℕ, OnOk, length, take, drop, chars, refl, sym, ap, subst, ◌∙◌, arith}
use Rattle.std.proofs.lemmas.List.{length-drop, length-take, length-take-le}
use Rattle.py_plain.specs.Handlers.{treatment}
use Rattle.py_plain.specs.Items.{characters_of}
use Rattle.py_codec.specs.Decoding.{walk_here}
use Rattle.py_codec.specs.Front.{items_for}
use Rattle.py_blocks.proofs.Written.{chars_within}
use Rattle.py_held_text.specs.Known.{KnownView, reading, IsPart}
use Rattle.py_held_text.specs.Plain.{plain_of, known_of, IsShared, IsPlainly}
use Rattle.py_held_text.proofs.Plain.{plain-length, plain-part, wholly, known-more, shared-more, copied-reading, copied-shared, copied-still, copied-same}
use Rattle.py_held_text.proofs.plain_text.decode_known.Goals as goal

pub take_plain-requires-clause-fits : goal.take_plain-requires-clause-fits
take_plain-requires-clause-fits c =
    let plain = c.args.plain.now in
    let bytes = c.args.bytes.now in
    let shared = c.requires.shared in
    omega (arith, shared.counted, chars_within (plain_of plain.bytes c.args.decoded bytes) shared.utf8, plain-length plain.bytes c.args.decoded bytes shared.within (omega (arith, c.requires.within)), shared.within, c.requires.within, c.requires.fits, length-take c.args.size c.behind.result.now)

pub returns-then-is_empty-clause-part : goal.returns-then-is_empty-clause-part
returns-then-is_empty-clause-part c =
    let part : List ℕ = take c.args.size (drop c.args.decoded c.args.bytes.now) in
    let plain = c.requires.plain c.if-is_plain.true in
    let plainly = subst (λ (bytes : List ℕ). IsPlainly c.args.want (take c.args.size bytes) c.take_plain.result) c.behind.ensures c.take_plain.ensures.decoded in
    plain-part c.args.coder.errors c.args.coder.encoding c.args.last c.args.want part c.take_plain.result plain.is_utf8 plain.utf8 plain.few
    (omega (arith, c.requires.fits, c.requires.within, length-take-le c.args.size (drop c.args.decoded c.args.bytes.now) (omega (arith, c.requires.within, length-drop c.args.decoded c.args.bytes.now)))) plainly

pub returns-then-is_empty-clause-reading : goal.returns-then-is_empty-clause-reading
returns-then-is_empty-clause-reading c =
    let own = c.args.known.now in
    let behind : List ℕ = drop c.args.decoded c.args.bytes.now in
    let part : List ℕ = take c.args.size behind in
    let plain = c.requires.plain c.if-is_plain.true in
    let plainly = subst (λ (bytes : List ℕ). IsPlainly c.args.want (take c.args.size bytes) c.take_plain.result) c.behind.ensures c.take_plain.ensures.decoded in
    let all : length part ≡ c.args.size = length-take-le c.args.size behind (omega (arith, c.requires.within, length-drop c.args.decoded c.args.bytes.now)) in
    let part_is : part ≡ take (length part) behind = ap (λ (n : ℕ). take n behind) (sym all) in
    let more : c.take_plain.new.plain.bytes ≡ c.args.plain.now.bytes + length part = c.take_plain.ensures.bytes ∙ ap (λ (bytes : List ℕ). c.args.plain.now.bytes + length (take c.args.size bytes)) c.behind.ensures in
    let cs : List ℕ = characters_of (items_for c.args.want (walk_here c.args.coder.encoding (treatment c.args.coder.errors c.args.coder.encoding) c.args.last part 0).items) in
    let whole = wholly c.args.coder.errors c.args.coder.encoding c.args.last c.args.want part plain.is_utf8 plain.utf8 plain.few in
    ap (λ (known : KnownView). known_of known c.take_plain.new.plain.bytes (c.args.decoded + c.take_plain.result.front.used) c.args.bytes.now) c.let_go.ensures
    ∙ (ap (λ (n : ℕ). known_of own c.take_plain.new.plain.bytes (c.args.decoded + n) c.args.bytes.now) plainly.used
    ∙ known-more own c.args.plain.now c.take_plain.new.plain c.args.decoded c.args.bytes.now part cs (c.is_empty.ensures c.if-is_empty.true) c.requires.shared part_is more whole.characters plain.reads plain.holds)

pub returns-then-is_empty-clause-shared : goal.returns-then-is_empty-clause-shared
returns-then-is_empty-clause-shared c =
    let own = c.args.known.now in
    let behind : List ℕ = drop c.args.decoded c.args.bytes.now in
    let part : List ℕ = take c.args.size behind in
    let plain = c.requires.plain c.if-is_plain.true in
    let plainly = subst (λ (bytes : List ℕ). IsPlainly c.args.want (take c.args.size bytes) c.take_plain.result) c.behind.ensures c.take_plain.ensures.decoded in
    let all : length part ≡ c.args.size = length-take-le c.args.size behind (omega (arith, c.requires.within, length-drop c.args.decoded c.args.bytes.now)) in
    let part_is : part ≡ take (length part) behind = ap (λ (n : ℕ). take n behind) (sym all) in
    let more : c.take_plain.new.plain.bytes ≡ c.args.plain.now.bytes + length part = c.take_plain.ensures.bytes ∙ ap (λ (bytes : List ℕ). c.args.plain.now.bytes + length (take c.args.size bytes)) c.behind.ensures in
    let counted : c.take_plain.new.plain.count ≡ c.args.plain.now.count + length (chars part) = c.take_plain.ensures.count ∙ ap (λ (bytes : List ℕ). c.args.plain.now.count + length (chars (take c.args.size bytes))) c.behind.ensures in
    subst (λ (known : KnownView). IsShared known c.take_plain.new.plain (c.args.decoded + c.take_plain.result.front.used) c.args.bytes.now) (sym c.let_go.ensures)
    (subst (λ (n : ℕ). IsShared own c.take_plain.new.plain (c.args.decoded + n) c.args.bytes.now) (sym plainly.used)
    (shared-more own c.args.plain.now c.take_plain.new.plain c.args.decoded c.args.bytes.now part (c.is_empty.ensures c.if-is_empty.true) c.requires.shared plain.utf8 part_is more counted c.take_plain.ensures.searched))

pub returns-in-Some-clause-part : goal.returns-in-Some-clause-part
returns-in-Some-clause-part c =
    let found = rw c.in-Some.is at c.in_ok-front.ensures.part in
    subst (λ (bytes : List ℕ). IsPart c.args.want (walk_here c.args.coder.encoding (treatment c.args.coder.errors c.args.coder.encoding) c.args.last (take c.args.size bytes) 0) (walk_here c.args.coder.encoding (treatment c.args.coder.errors c.args.coder.encoding) c.args.last (take c.args.size bytes)) c.in-Some.front) c.behind.ensures found

pub returns-clause-reading : goal.returns-clause-reading
returns-clause-reading c =
    let read = subst (λ (bytes : List ℕ). OnOk c.decode.result (c.decode.new.self ≡ reading c.copy_plain.new.known (characters_of (items_for c.args.want (walk_here c.args.coder.encoding (treatment c.args.coder.errors c.args.coder.encoding) c.args.last (take c.args.size bytes) 0).items)))) c.behind.ensures c.decode.ensures.reading in
    copied-reading c.decode.result c.copy_plain.new.known c.decode.new.self _ c.copy_plain.new.plain.bytes c.args.decoded c.args.bytes.now _ c.in_ok-copy_plain.ensures.none c.in_ok-copy_plain.ensures.copied read

pub returns-clause-shared : goal.returns-clause-shared
returns-clause-shared c =
    copied-shared c.decode.result c.copy_plain.new.known c.decode.new.self c.copy_plain.new.plain c.args.decoded c.args.bytes.now _ c.in_ok-copy_plain.ensures.none c.decode.ensures.reading c.copy_plain.ensures.shared

pub returns-clause-still : goal.returns-clause-still
returns-clause-still c =
    copied-still c.decode.result c.copy_plain.new.known c.decode.new.self c.copy_plain.new.plain c.args.decoded c.args.bytes.now c.decode.ensures.same c.copy_plain.ensures.shared

pub returns-clause-same : goal.returns-clause-same
returns-clause-same c =
    copied-same c.decode.result c.copy_plain.new.known c.decode.new.self _ c.copy_plain.new.plain.bytes c.args.decoded c.args.bytes.now c.in_ok-copy_plain.ensures.none c.in_ok-copy_plain.ensures.copied c.decode.ensures.same
