-- Bytes that are characters by themselves, and of which none is a CR, are walked at once.
use Rattle.std.proofs.Common.{◌≡◌, inl, inr, ℕ, zero, suc, ◌+◌, ◌-◌, ◌<◌, ◌≤◌, Bool, true, false, not, nat_eq, nat_lt, List, [], ◌∷◌, ◌++◌, length as len, get_or, take, drop, Some, refl, sym, ap, ◌∙◌, arith}
use Rattle.std.proofs.lemmas.Bool.{and_parts, cases_lt, cond-true, lt-ltb, ltb-true, not-true}
use Rattle.std.proofs.lemmas.List.{get_or-take, get_or-drop, get_or_append_left, drop_more, length-take, length-drop, length-append}
use Rattle.py_flat.specs.Lines.{cr}
use Rattle.py_plain.specs.declared.encoding.Encoding.{Encoding}
use Rattle.py_plain.specs.declared.encoding.Encoding.TheVariants.{Utf8, Latin1, Ascii, Utf16Le, Utf16Be}
use Rattle.py_plain.specs.declared.handler.Handler.{Handler}
use Rattle.py_plain.specs.declared.newlines.Newlines.{Newlines}
use Rattle.py_plain.specs.declared.unit.Unit.{Unit as Read}
use Rattle.py_plain.specs.declared.unit.Unit.TheVariants.{Character, Malformed}
use Rattle.py_plain.specs.OneByte.{is_ascii}
use Rattle.py_plain.specs.Utf8.{Lead, unit_after}
use Rattle.py_plain.specs.Units.{Unknown, first_unit}
use Rattle.py_plain.specs.Handlers.{Treatment, treatment}
use Rattle.py_plain.specs.Items.{item_of, first_item}
use Rattle.py_plain.proofs.Rows.{lead-ascii}
use Rattle.py_telling.specs.declared.walked.Walked.{Walked}
use Rattle.py_telling.specs.Spots.{is_universal, adds, spot_behind, items_from}
use Rattle.py_telling.specs.Plain.{is_plain, ArePlain, has_ascii}
use Rattle.py_telling.specs.Walks.{TellsAlike, IsWalked}
use Rattle.py_telling.proofs.Counting.{none_and}
use Rattle.py_telling.proofs.GoingOn.{Leads, alike_later}

-- a front, and the bytes behind it
pub plain_further : (bytes : List ℕ) (run to : ℕ) → run ≤ to → to ≤ len bytes → ArePlain run bytes → ArePlain (len (take (to - run) (drop run bytes))) (take (to - run) (drop run bytes)) → ArePlain to bytes
plain_further bytes run to from within before behind at below = elim (cases_lt at run) [
  | inl less ↦ before at less
  | inr past ↦ (
      let there : run + (at - run) ≡ at = omega (arith, past) in
      let same : get_or (take (to - run) (drop run bytes)) (at - run) 0 ≡ get_or bytes at 0 =
      get_or-take (to - run) (drop run bytes) (at - run) 0 (omega (arith, below, past))
      ∙ (get_or-drop run bytes (at - run) 0 ∙ ap (λ (k : ℕ). get_or bytes k 0) there) in
      ap is_plain (sym same) ∙ behind (at - run) (omega (arith, below, past, within, length-take (to - run) (drop run bytes), length-drop run bytes))
      )
]

-- One byte.

plain_unit : (encoding : Encoding) (start : Bool) (byte : ℕ) (rest : List ℕ) → has_ascii encoding ≡ true → byte < 0x80 → first_unit encoding Unknown start (byte ∷ rest) ≡ Some (Character byte 1)
unfolding is_ascii
plain_unit Utf8 start byte rest has below = ap (λ (row : Lead). Some (unit_after byte row rest)) (lead-ascii byte (omega arith) (omega (arith, below)))
plain_unit Latin1 start byte rest has below = refl
plain_unit Ascii start byte rest has below = ap (λ (unit : Read). Some unit) (cond-true (nat_lt byte 0x80) (Character byte 1) (Malformed 1) (lt-ltb byte 0x80 below))
plain_unit Utf16Le start byte rest has below = absurd (cc)
plain_unit Utf16Be start byte rest has below = absurd (cc)

leads_plain : (encoding : Encoding) (handler : Handler) (newline : Newlines) (last : Bool) (place : ℕ) (bytes : List ℕ) (walked later : Walked) → has_ascii encoding ≡ true → walked.held ≡ false → walked.passed < len bytes → is_plain (get_or bytes walked.passed 0) ≡ true → later.passed ≡ walked.passed + 1 → later.count ≡ walked.count + 1 → later.held ≡ false → Leads encoding handler newline last place bytes walked later
leads_plain encoding handler newline last place bytes walked later has free inside plain passed counted held =
    let treat : Treatment = treatment handler encoding in
    let at : ℕ = walked.passed in
    let c : ℕ = get_or bytes at 0 in
    let rest : List ℕ = drop (at + 1) bytes in
    let parts = and_parts (nat_lt c 0x80) (not (nat_eq c cr)) plain in
    let one : adds walked.held (c ∷ []) ≡ 1 = ap (λ (h : Bool). adds h (c ∷ [])) free in
    record {
      characters = c ∷ [];
      used = 1;
      first =
          ap (first_item encoding treat last Unknown (place + at)) (drop_more bytes at 0 inside)
          ∙ ap (item_of treat last (place + at) (c ∷ rest)) (plain_unit encoding (nat_eq (place + at) 0) c rest has (ltb-true c 0x80 parts.0));
      some = omega arith;
      passed = passed;
      counted = counted ∙ ap (λ (n : ℕ). walked.count + n) (sym one);
      held = held ∙ sym (none_and (is_universal newline) (nat_eq c cr) (not-true (nat_eq c cr) parts.1));
    }

-- So many.

-- a boundary behind so many plain bytes
pub record RunsTo (run : ℕ) (walked later : Walked) : Type 0 where
  pub passed : later.passed ≡ walked.passed + run
  pub counted : later.count ≡ walked.count + run
  pub free : walked.held ≡ false
  pub held : later.held ≡ false

-- from one of the bytes on, so many are plain
abbrev pub PlainFrom : (at run : ℕ) → List ℕ → Type 0
PlainFrom at run bytes = (k : ℕ) → k < run → is_plain (get_or bytes (at + k) 0) ≡ true

alike_same : (encoding : Encoding) (handler : Handler) (newline : Newlines) (last : Bool) (place count : ℕ) (bytes : List ℕ) (walked later : Walked) → later.passed ≡ walked.passed → later.count ≡ walked.count → later.held ≡ walked.held → TellsAlike encoding handler newline last place count bytes walked → TellsAlike encoding handler newline last place count bytes later
alike_same encoding handler newline last place count bytes walked later passed counted held before =
    before
    ∙ (ap (λ (at : ℕ). spot_behind newline (count - walked.count) walked.held (place + at) (items_from encoding handler last place at bytes)) (sym passed)
    ∙ (ap (λ (n : ℕ). spot_behind newline (count - n) walked.held (place + later.passed) (items_from encoding handler last place later.passed bytes)) (sym counted)
    ∙ ap (λ (h : Bool). spot_behind newline (count - later.count) h (place + later.passed) (items_from encoding handler last place later.passed bytes)) (sym held)))

pub alike_run : (encoding : Encoding) (handler : Handler) (newline : Newlines) (last : Bool) (place count : ℕ) (bytes : List ℕ) (run : ℕ) (walked later : Walked) → has_ascii encoding ≡ true → walked.passed + run ≤ len bytes → walked.count + run ≤ count → PlainFrom walked.passed run bytes → RunsTo run walked later → TellsAlike encoding handler newline last place count bytes walked → TellsAlike encoding handler newline last place count bytes later
alike_run encoding handler newline last place count bytes zero walked later has inside enough plain runs before =
    alike_same encoding handler newline last place count bytes walked later (omega (arith, runs.passed)) (omega (arith, runs.counted)) (runs.held ∙ sym runs.free) before
alike_run encoding handler newline last place count bytes (suc run) walked later has inside enough plain runs before =
    let middle : Walked = record { passed = walked.passed + run; count = walked.count + run; held = false } in
    let so_far : RunsTo run walked middle = record { passed = refl; counted = refl; free = runs.free; held = refl } in
    alike_later encoding handler newline last place count bytes middle later (omega (arith, inside)) (omega (arith, enough)) (omega (arith, enough, runs.counted))
    (leads_plain encoding handler newline last place bytes middle later has refl (omega (arith, inside)) (plain run (omega arith)) (omega (arith, runs.passed)) (omega (arith, runs.counted)) runs.held)
    (alike_run encoding handler newline last place count bytes run walked middle has (omega (arith, inside)) (omega (arith, enough)) (λ k less. plain k (omega (arith, less))) so_far before)

pub walked_run : (encoding : Encoding) (handler : Handler) (newline : Newlines) (bytes : List ℕ) (given run : ℕ) (walked later : Walked) → has_ascii encoding ≡ true → walked.passed + run ≤ len bytes → walked.count + run ≤ given → PlainFrom walked.passed run bytes → RunsTo run walked later → IsWalked encoding handler newline bytes given walked → IsWalked encoding handler newline bytes given later
walked_run encoding handler newline bytes given run walked later has inside enough plain runs before = record {
  within = omega (arith, inside, runs.passed);
  counted = omega (arith, enough, runs.counted);
  alike = λ last place count more above.
      alike_run encoding handler newline last place count (bytes ++ more) run walked later has (omega (arith, inside, length-append bytes more)) (omega (arith, enough, above))
      (λ k less. ap is_plain (get_or_append_left bytes more 0 (walked.passed + k) (omega (arith, less, inside))) ∙ plain k less) runs
      (before.alike last place count more above);
}

-- the plain bytes that the rest of some bytes begins with
pub plain_from : (bytes : List ℕ) (at run : ℕ) → ArePlain run (drop at bytes) → PlainFrom at run bytes
plain_from bytes at run plain k less = ap is_plain (sym (get_or-drop at bytes k 0)) ∙ plain k less
