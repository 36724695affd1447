-- What a collector has that was handed all bytes at once.
use Rattle.std.proofs.Common.{◌≡◌, ℕ, ◌≤◌, List, [], ◌++◌, length, take, Ok, sym, ap, ◌∙◌, arith}
use Rattle.std.proofs.lemmas.List.{append-nil, length-take-le}
use Rattle.py_lines.specs.declared.collector.Collected.{Collected}
use Rattle.py_lines.specs.declared.collector.Collected.TheVariants as collected
use Rattle.py_lines.specs.Collecting.{CollectOutcome}

-- how many of some bytes a collector took
abbrev pub used_of : Collected → ℕ → ℕ
used_of (collected.Enough used) all = used
used_of collected.All all = all

-- what a collector has of all bytes: just what it wants of them, their first
pub record HasAll (wanted bytes after : List ℕ) (used : ℕ) : Type 0 where
  pub is : after ≡ wanted
  pub count : used ≡ length after
  pub fits : length after ≤ length bytes

pub has_all : (wanted : List ℕ → List ℕ) (before bytes : List ℕ) (came : Collected) (after : List ℕ) → before ≡ [] → CollectOutcome wanted before bytes (Ok came) after → HasAll (wanted bytes) bytes after (used_of came (length bytes))
has_all wanted before bytes (collected.Enough used) after none has =
    let taken : after ≡ take used bytes = has.takes ∙ ap (λ (none : List ℕ). none ++ take used bytes) none in
    let counts : length after ≡ used = ap length taken ∙ length-take-le used bytes has.fits in
    let fits : used ≤ length bytes = has.fits in
    record {
      is = sym (has.exact []) ∙ ap wanted (ap (λ (none : List ℕ). none ++ (bytes ++ [])) none ∙ append-nil bytes);
      count = sym counts;
      fits = omega arith;
    }
has_all wanted before bytes collected.All after none more =
    let taken : after ≡ bytes = more.takes ∙ ap (λ (none : List ℕ). none ++ bytes) none in
    let counts : length after ≡ length bytes = ap length taken in
    record {
      is = sym more.alone ∙ ap wanted taken;
      count = sym counts;
      fits = omega arith;
    }
