-- When the known characters are the whole answer of a call.
use Rattle.std.proofs.Common.{◌≡◌, ℕ, ◌+◌, ◌-◌, ◌≤◌, ◌<◌, min, Bool, true, false, ◌||◌, not, nat_le, nat_lt, if◌then◌else◌, List, [], ◌∷◌, ◌++◌, length, take, Option, Some, None, IfSome, refl, sym, ap, subst, ◌∙◌, arith}
use Rattle.std.proofs.lemmas.List.{append-nil, length-append, length-take, length-take-le, take-append-le, take_all, take-take}
use Rattle.std.proofs.lemmas.Bool.{leb-true, leb-false, le-leb}
use Rattle.std.proofs.lemmas.Bool.Decides.{nat_tests}
use Rattle.std.proofs.Math.Bool.{or-true}
use Rattle.std.proofs.Math.Seq.{take-append_seam, take-append-add}
use Rattle.py_flat.specs.Bytes.{first_of}
use Rattle.py_flat.specs.Lines.{LineEnd, lf, line_after, has_end_after, first_line, is_ended}
use Rattle.py_flat.specs.BinaryStep.{IsFrontOf}
use Rattle.py_flat.proofs.Cutting.{first_line_is_front}
use Rattle.py_plain.specs.declared.newlines.Newlines.{Newlines}
use Rattle.py_plain.specs.NewlineRule.{line_end}
use Rattle.py_held_text.specs.declared.wanted.Wanted.{Wanted}
use Rattle.py_held_text.specs.declared.wanted.Wanted.TheVariants.{Characters, Line}
use Rattle.py_held_text.specs.Finding.{answer_of, enough, enough_before}
use Rattle.py_read_text.specs.Reading.{size_of, passes}
use Rattle.py_read_text.proofs.Lines.{with_lf, is_line, is_open}

-- a front is the first of a list
front_taken : (part whole : List ℕ) → IsFrontOf part whole → take (length part) whole ≡ part
front_taken part whole front = ap (take (length part)) (sym front.1) ∙ take-append_seam part front.0

-- a front of what a size takes
front_within : (size : ℕ) (part whole : List ℕ) → length part ≤ size → IsFrontOf part whole → IsFrontOf part (take size whole)
front_within size part whole fits front =
    let room : ℕ = size - length part in
    let parts : size ≡ length part + room = omega arith in
    (take room front.0, sym (ap (take size) (sym front.1) ∙ ap (λ (n : ℕ). take n (part ++ front.0)) parts ∙ take-append-add part front.0 room))

-- the first of the known characters are the answer, whatever comes after them
pub record IsEnough (asked : Wanted) (rule : Newlines) (known : List ℕ) (count : ℕ) : Type 0 where
  pub within : count ≤ length known
  pub size : IfSome (size_of asked) (λ size. count ≤ size)
  pub answer : (more : List ℕ) → answer_of asked rule (known ++ more) ≡ take count known
  pub stops : (more : List ℕ) → passes asked rule (known ++ more) ≡ false

-- the known characters are only a front of the answer, unless nothing comes after them
pub record IsShort (asked : Wanted) (rule : Newlines) (known : List ℕ) : Type 0 where
  pub size : IfSome (size_of asked) (λ size. length known ≤ size)
  pub answer : answer_of asked rule known ≡ known
  pub front : (more : List ℕ) → IsFrontOf known (answer_of asked rule (known ++ more))

-- Sizes.

size_enough : (fits : Bool) (rule : Newlines) (size : ℕ) (known : List ℕ) (count : ℕ) → nat_le size (length known) ≡ fits → (if fits then Some size else None) ≡ Some count → IsEnough (Characters (Some size)) rule known count
size_enough false rule size known count test is = absurd (cc)
size_enough true rule size known count test is =
    let same : size ≡ count = cc in
    let fits : size ≤ length known = grind (arith, nat_tests) in
    record {
      within = omega arith;
      size = omega arith;
      answer = λ more. take-append-le size known more fits ∙ ap (λ (n : ℕ). take n known) same;
      stops = λ more. let long = length-append known more in grind (arith, nat_tests);
    }

size_short : (fits : Bool) (rule : Newlines) (size : ℕ) (known : List ℕ) → nat_le size (length known) ≡ fits → (if fits then Some size else None) ≡ None → IsShort (Characters (Some size)) rule known
size_short true rule size known test is = absurd (cc)
size_short false rule size known test is =
    let less : length known < size = grind (arith, nat_tests) in
    record {
      size = omega arith;
      answer = take_all size known (omega arith);
      front = λ more. front_within size known (known ++ more) (omega arith) (more, refl);
    }

-- Lines.

-- the first of the first of a list
take_least : (fits : Bool) (m n : ℕ) (xs : List ℕ) → nat_le m n ≡ fits → take m (take n xs) ≡ take (min m n) xs
take_least true m n xs test =
    let less : m ≤ n = leb-true m n test in
    take-take m n xs less ∙ ap (λ (k : ℕ). take k xs) (omega (arith, less))
take_least false m n xs test =
    let less : n < m = leb-false m n test in
    take_all m (take n xs) (omega (arith, less, length-take n xs)) ∙ ap (λ (k : ℕ). take k xs) (omega (arith, less))

-- the line that lies among the known characters, without a limit, or one that the limit ends
line_cut : (end : LineEnd) (limit : Option ℕ) (known : List ℕ) → length (with_lf end false known) ≤ length known → (more : List ℕ) → (first_line end limit (known ++ more) ≡ take (length (first_line end limit (known ++ lf ∷ []))) known) × (is_ended end limit (known ++ more) ≡ true)
line_cut end None known fits more =
    let line = is_line end false known more fits in
    (line.line, ap (λ (ended : Bool). ended || false) line.ended)
line_cut end (Some size) known fits more =
    let line = is_line end false known more fits in
    let whole : ℕ = length (with_lf end false known) in
    let least : length (take size (with_lf end false known)) ≡ min size whole = length-take size (with_lf end false known) in
    (ap (take size) line.line ∙ (take_least (nat_le size whole) size whole known refl ∙ ap (λ (n : ℕ). take n known) (sym least)), ap (λ (ended : Bool). ended || nat_le size (length (known ++ more))) line.ended)

-- the limit ends the line among the known characters
line_limited : (end : LineEnd) (size : ℕ) (known : List ℕ) → length known < length (with_lf end false known) → size ≤ length known → (more : List ℕ) → (first_line end (Some size) (known ++ more) ≡ take (length (first_line end (Some size) (known ++ lf ∷ []))) known) × (is_ended end (Some size) (known ++ more) ≡ true)
line_limited end size known open_line fits more =
    let front = is_open end false known more open_line in
    let count : length (take size (with_lf end false known)) ≡ size = length-take-le size (with_lf end false known) (omega arith) in
    let long : size ≤ length (known ++ more) = omega (arith, length-append known more) in (
      ap (take size) (sym front.1) ∙ (take-append-le size known front.0 fits ∙ ap (λ (n : ℕ). take n known) (sym count)),
      ap (λ (reached : Bool). has_end_after end false (known ++ more) || reached) (le-leb size (length (known ++ more)) long) ∙ or-true (has_end_after end false (known ++ more)),
    )

-- a limit that the line in hand doesn't reach leaves the line without it
limit_short : (size : ℕ) (line known : List ℕ) → length known < length (take size line) → (length known < length line) × (length known ≤ size)
limit_short size line known less = (omega (arith, less, length-take size line), omega (arith, less, length-take size line))

first_size : (limit : Option ℕ) (cs : List ℕ) → IfSome limit (λ size. length (first_of limit cs) ≤ size)
first_size None cs = tt
first_size (Some size) cs = omega (arith, length-take size cs)

-- what a line in hand says, by whether the line alone is one
line_says : (whole : Bool) (end : LineEnd) (limit : Option ℕ) (known : List ℕ) → nat_le (length (with_lf end false known)) (length known) ≡ whole → length (first_line end limit (known ++ lf ∷ [])) ≤ length known → (more : List ℕ) → (first_line end limit (known ++ more) ≡ take (length (first_line end limit (known ++ lf ∷ []))) known) × (is_ended end limit (known ++ more) ≡ true)
line_says true end limit known test fits more = line_cut end limit known (leb-true (length (with_lf end false known)) (length known) test) more
line_says false end None known test fits more = absurd (let less = leb-false (length (with_lf end false known)) (length known) test in omega (arith, less, fits))
line_says false end (Some size) known test fits more =
    let less = leb-false (length (with_lf end false known)) (length known) test in
    line_limited end size known less (omega (arith, less, fits, length-take size (with_lf end false known))) more

line_enough : (fits : Bool) (rule : Newlines) (limit : Option ℕ) (known : List ℕ) (count : ℕ) → nat_le (length (first_line (line_end rule) limit (known ++ lf ∷ []))) (length known) ≡ fits → (if fits then Some (length (first_line (line_end rule) limit (known ++ lf ∷ []))) else None) ≡ Some count → IsEnough (Line limit) rule known count
line_enough false rule limit known count test is = absurd (cc)
line_enough true rule limit known count test is =
    let end : LineEnd = line_end rule in
    let size : ℕ = length (first_line end limit (known ++ lf ∷ [])) in
    let same : size ≡ count = cc in
    let within : size ≤ length known = leb-true size (length known) test in
    let says = line_says (nat_le (length (with_lf end false known)) (length known)) end limit known refl within in
    record {
      within = omega (arith, within, same);
      size = subst (λ (n : ℕ). IfSome limit (λ most. n ≤ most)) same (first_size limit (with_lf end false known));
      answer = λ more. (says more).0 ∙ ap (λ (n : ℕ). take n known) same;
      stops = λ more. ap not (says more).1;
    }

-- a front of a list that is one of the list's is the list
front_whole : (xs ys : List ℕ) → IsFrontOf xs ys → IsFrontOf ys xs → ys ≡ xs
front_whole xs ys longer shorter =
    let size : length xs ≡ length ys = omega (arith, ap length longer.1, length-append xs longer.0, ap length shorter.1, length-append ys shorter.0) in
    sym (take_all (length xs) ys (omega (arith, size))) ∙ front_taken xs ys longer

-- characters that the line may go past
line_open : (end : LineEnd) (limit : Option ℕ) (known : List ℕ) → length known < length (first_line end limit (known ++ lf ∷ [])) → (more : List ℕ) → IsFrontOf known (first_line end limit (known ++ more))
line_open end None known less more = is_open end false known more less
line_open end (Some size) known less more =
    let short = limit_short size (with_lf end false known) known less in
    front_within size known (line_after end false (known ++ more)) short.1 (is_open end false known more short.0)

line_sized : (end : LineEnd) (limit : Option ℕ) (known : List ℕ) → length known < length (first_line end limit (known ++ lf ∷ [])) → IfSome limit (λ size. length known ≤ size)
line_sized end None known less = tt
line_sized end (Some size) known less = (limit_short size (with_lf end false known) known less).1

line_short : (fits : Bool) (rule : Newlines) (limit : Option ℕ) (known : List ℕ) → nat_le (length (first_line (line_end rule) limit (known ++ lf ∷ []))) (length known) ≡ fits → (if fits then Some (length (first_line (line_end rule) limit (known ++ lf ∷ []))) else None) ≡ None → IsShort (Line limit) rule known
line_short true rule limit known test is = absurd (cc)
line_short false rule limit known test is =
    let end : LineEnd = line_end rule in
    let less = leb-false (length (first_line end limit (known ++ lf ∷ []))) (length known) test in
    let front = line_open end limit known less in
    record {
      size = line_sized end limit known less;
      answer = front_whole known (first_line end limit known) (subst (λ (cs : List ℕ). IsFrontOf known (first_line end limit cs)) (append-nil known) (front [])) (first_line_is_front end limit known);
      front = front;
    }

-- Whatever is asked for.

pub is_enough : (asked : Wanted) (rule : Newlines) (known : List ℕ) (count : ℕ) → enough asked rule known ≡ Some count → IsEnough asked rule known count
is_enough (Characters None) rule known count is = absurd (cc)
is_enough (Characters (Some size)) rule known count is = size_enough (nat_le size (length known)) rule size known count refl is
is_enough (Line limit) rule known count is = line_enough (nat_le (length (first_line (line_end rule) limit (known ++ lf ∷ []))) (length known)) rule limit known count refl is

pub is_short : (asked : Wanted) (rule : Newlines) (known : List ℕ) → enough asked rule known ≡ None → IsShort asked rule known
is_short (Characters None) rule known is = record { size = tt; answer = refl; front = λ more. (more, refl) }
is_short (Characters (Some size)) rule known is = size_short (nat_le size (length known)) rule size known refl is
is_short (Line limit) rule known is = line_short (nat_le (length (first_line (line_end rule) limit (known ++ lf ∷ []))) (length known)) rule limit known refl is

-- Before a refused range.

-- the answer ends before a refused range that comes right behind the known characters
pub record IsBefore (asked : Wanted) (rule : Newlines) (known : List ℕ) (count : ℕ) : Type 0 where
  pub within : count ≤ length known
  pub size : IfSome (size_of asked) (λ size. count ≤ size)
  pub answer : answer_of asked rule known ≡ take count known
  pub stops : passes asked rule known ≡ false

size_before : (fits : Bool) (rule : Newlines) (size : ℕ) (known : List ℕ) (count : ℕ) → nat_le size (length known) ≡ fits → (if fits then Some size else None) ≡ Some count → IsBefore (Characters (Some size)) rule known count
size_before false rule size known count test is = absurd (cc)
size_before true rule size known count test is =
    let same : size ≡ count = cc in
    let fits : size ≤ length known = grind (arith, nat_tests) in
    record {
      within = omega arith;
      size = omega arith;
      answer = ap (λ (n : ℕ). take n known) same;
      stops = grind (arith, nat_tests);
    }

line_before : (ended : Bool) (rule : Newlines) (limit : Option ℕ) (known : List ℕ) (count : ℕ) → is_ended (line_end rule) limit known ≡ ended → (if ended then Some (length (first_line (line_end rule) limit known)) else None) ≡ Some count → IsBefore (Line limit) rule known count
line_before false rule limit known count test is = absurd (cc)
line_before true rule limit known count test is =
    let line : List ℕ = first_line (line_end rule) limit known in
    let same : length line ≡ count = cc in
    let front = first_line_is_front (line_end rule) limit known in
    record {
      within = omega (arith, same, ap length front.1, length-append line front.0);
      size = subst (λ (n : ℕ). IfSome limit (λ most. n ≤ most)) same (first_size limit (line_after (line_end rule) false known));
      answer = sym (front_taken line known front) ∙ ap (λ (n : ℕ). take n known) same;
      stops = ap not test;
    }

pub is_before : (asked : Wanted) (rule : Newlines) (known : List ℕ) (count : ℕ) → enough_before asked rule known ≡ Some count → IsBefore asked rule known count
is_before (Characters None) rule known count is = absurd (cc)
is_before (Characters (Some size)) rule known count is = size_before (nat_le size (length known)) rule size known count refl is
is_before (Line limit) rule known count is = line_before (is_ended (line_end rule) limit known) rule limit known count refl is

passes_at : (ended : Bool) (size : ℕ) → (if ended then Some size else None) ≡ None → not ended ≡ true
passes_at true size is = absurd (cc)
passes_at false size is = refl

passes_size : (fits : Bool) (size : ℕ) (known : List ℕ) → nat_le size (length known) ≡ fits → (if fits then Some size else None) ≡ None → nat_lt (length known) size ≡ true
passes_size true size known test is = absurd (cc)
passes_size false size known test is = grind (arith, nat_tests)

-- the answer would pass a refused range that comes right behind the known characters
pub passes_range : (asked : Wanted) (rule : Newlines) (known : List ℕ) → enough_before asked rule known ≡ None → passes asked rule known ≡ true
passes_range (Characters None) rule known is = refl
passes_range (Characters (Some size)) rule known is = passes_size (nat_le size (length known)) size known refl is
passes_range (Line limit) rule known is = passes_at (is_ended (line_end rule) limit known) (length (first_line (line_end rule) limit known)) is
