-- All that holds of what is in hand, where the known text is a text of its own or the bytes that are kept.
use Rattle.std.proofs.Common.{◌≡◌, ℕ, ◌+◌, ◌-◌, ◌≤◌, Bool, List, [], IfSome, true, false, ◌++◌, length as len, drop, Option, None, refl, sym, ap, subst, ◌∙◌, arith}
use Rattle.py_flat.specs.Limits.{greatest_place}
use Rattle.py_plain.specs.declared.newlines.Newlines.{Newlines}
use Rattle.py_plain.specs.Handlers.{reads_texts}
use Rattle.py_telling.proofs.GoingOn.{nothing_walked}
use Rattle.py_telling.specs.declared.walked.Walked.{Walked}
use Rattle.py_text.specs.declared.coder.Coder.{Coder}
use Rattle.py_held_text.specs.declared.base.Mark.{Mark}
use Rattle.py_held_text.specs.declared.plain_text.PlainText.{PlainText}
use Rattle.py_held_text.specs.Bases.{GaveSurely}
use Rattle.py_held_text.specs.Held.{HeldView, view_of, nothing_held, cleared, IsMark}
use Rattle.py_held_text.specs.Known.{KnownView}
use Rattle.py_held_text.specs.Plain.{plain_of, known_of, nothing_known, IsShared}
use Rattle.py_held_text.proofs.Bases.{front-from, sure-front}
use Rattle.py_held_text.proofs.Holding.{held-by}
use Rattle.py_held_text.proofs.Reading.{one-if}
use Rattle.py_held_text.proofs.Keeping.{IsKept, unwalked, walked-same, keeps-nothing, kept-known, kept-pushed, kept-forgot}
use Rattle.py_held_text.proofs.Plain.{IsNone, own-only, nothing-plain, shared-empty, shown-same, shared-none, shared-as, plain-forgot, plain-pushed}

abbrev pub IsStored : Coder → KnownView → PlainText → (front gone decoded total : ℕ) → List ℕ → (given : ℕ) → Option Mark → (ended : Bool) → (place : ℕ) → Walked → Type 0
IsStored coder own plain front gone decoded total items given mark ended place walked =
    IsKept coder (known_of own plain.bytes decoded items) front gone decoded total items given mark ended place walked × IsShared own plain decoded items

-- the same bytes stand there, with other room
pub stored-items : (coder : Coder) (own : KnownView) (plain : PlainText) (front gone decoded total total_now : ℕ) (items now : List ℕ) (given : ℕ) (mark : Option Mark) (ended : Bool) (place : ℕ) (walked : Walked) → now ≡ items → total_now ≡ total → IsStored coder own plain front gone decoded total items given mark ended place walked → IsStored coder own plain front gone decoded total_now now given mark ended place walked
stored-items coder own plain front gone decoded total total_now items now given mark ended place walked is same stored =
    subst (λ (all : List ℕ). IsStored coder own plain front gone decoded total_now all given mark ended place walked) (sym is)
    (subst (λ (n : ℕ). IsStored coder own plain front gone decoded n items given mark ended place walked) (sym same) stored)

-- bytes are put behind those in hand
pub stored-pushed : (coder : Coder) (own : KnownView) (plain : PlainText) (front gone decoded total total_now : ℕ) (items now part : List ℕ) (given : ℕ) (mark : Option Mark) (ended : Bool) (place : ℕ) (walked : Walked) → total ≡ len items → now ≡ items ++ part → total_now ≡ total + len part → place + total_now ≤ greatest_place + decoded → IsStored coder own plain front gone decoded total items given mark ended place walked → IsStored coder own plain front gone decoded total_now now given mark ended place walked
stored-pushed coder own plain front gone decoded total total_now items now part given mark ended place walked whole is more near stored =
    let same : plain_of plain.bytes decoded now ≡ plain_of plain.bytes decoded items = plain-pushed plain.bytes decoded items now part stored.1.within (omega (arith, stored.0.1.within, whole)) is in (
      subst (λ (known : KnownView). IsKept coder known front gone decoded total_now now given mark ended place walked) (sym (shown-same own plain.bytes decoded decoded now items same))
          (kept-pushed coder (known_of own plain.bytes decoded items) front gone decoded total total_now items now part given mark ended place walked whole is more near stored.0),
      shared-as own plain decoded decoded items now stored.1.within same stored.1,
    )

-- bytes before the base are removed, none of which is known text
pub stored-forgot : (coder : Coder) (own : KnownView) (plain : PlainText) (front gone decoded total total_now removed : ℕ) (items now : List ℕ) (given : ℕ) (mark : Option Mark) (ended : Bool) (place : ℕ) (walked : Walked) → removed ≤ gone → removed + plain.bytes ≤ decoded → now ≡ drop removed items → total_now + removed ≡ total → IsStored coder own plain front gone decoded total items given mark ended place walked → IsStored coder own plain front (gone - removed) (decoded - removed) total_now now given mark ended place walked
stored-forgot coder own plain front gone decoded total total_now removed items now given mark ended place walked before apart is less stored =
    let same : plain_of plain.bytes (decoded - removed) now ≡ plain_of plain.bytes decoded items = plain-forgot plain.bytes removed decoded items now apart is in (
      subst (λ (known : KnownView). IsKept coder known front (gone - removed) (decoded - removed) total_now now given mark ended place walked) (sym (shown-same own plain.bytes (decoded - removed) decoded now items same))
          (kept-forgot coder (known_of own plain.bytes decoded items) front gone decoded total total_now removed items now given mark ended place walked before is less stored.0),
      shared-as own plain decoded (decoded - removed) items now (omega (arith, apart)) same stored.1,
    )

-- the same is known, in one way or the other
pub stored-known : (coder : Coder) (own after : KnownView) (plain now : PlainText) (front gone decoded total : ℕ) (items bytes : List ℕ) (given : ℕ) (mark : Option Mark) (ended : Bool) (place : ℕ) (walked : Walked) → bytes ≡ items → known_of after now.bytes decoded bytes ≡ known_of own plain.bytes decoded bytes → IsShared after now decoded bytes → IsStored coder own plain front gone decoded total items given mark ended place walked → IsStored coder after now front gone decoded total items given mark ended place walked
stored-known coder own after plain now front gone decoded total items bytes given mark ended place walked seen same shared stored = (
  kept-known coder (known_of own plain.bytes decoded items) (known_of after now.bytes decoded items) front gone decoded total items given mark ended place walked
      (subst (λ (b : List ℕ). known_of after now.bytes decoded b ≡ known_of own plain.bytes decoded b) seen same) stored.0,
  subst (IsShared after now decoded) seen shared,
)

unwalked-is : (walked : Walked) → (walked.passed ≡ 0) × ((walked.count ≡ 0) × (walked.held ≡ false)) → walked ≡ unwalked
unwalked-is walked none =
    ap (λ (n : ℕ). record { passed = n; count = walked.count; held = walked.held }) none.0
    ∙ (ap (λ (n : ℕ). record { passed = 0; count = n; held = walked.held }) none.1.0
    ∙ ap (λ (b : Bool). record { passed = 0; count = 0; held = b }) none.1.1)

-- nothing is known, and no bytes are decoded since the base
pub stored-nothing : (coder : Coder) (newline : Newlines) (own : KnownView) (plain : PlainText) (gone total : ℕ) (items : List ℕ) (place : ℕ) (walked : Walked) → reads_texts coder.errors ≡ true → own ≡ nothing_known newline → IsNone plain → (walked.passed ≡ 0) × ((walked.count ≡ 0) × (walked.held ≡ false)) → gone ≤ total → place + total ≤ greatest_place + gone → IsStored coder own plain 0 gone gone total items 0 None false place walked
stored-nothing coder newline own plain gone total items place walked reads none empty start within near =
    let shown : known_of own plain.bytes gone items ≡ nothing_known newline = own-only own plain.bytes gone items empty.0 ∙ none in
    let kept : IsKept coder (nothing_known newline) 0 gone gone total items 0 None false place unwalked = (
      (
        reads,
        keeps-nothing coder newline (nothing_known newline) gone place items refl,
        nothing_walked coder.encoding coder.errors newline (drop gone items) 0,
      ),
      record {
        from = omega arith;
        within = within;
        behind = omega arith;
        near = near;
        among = omega arith;
        few = omega arith;
        marked = tt;
      },
    ) in (
      subst (λ (w : Walked). IsKept coder (known_of own plain.bytes gone items) 0 gone gone total items 0 None false place w) (sym (unwalked-is walked start))
          (subst (λ (k : KnownView). IsKept coder k 0 gone gone total items 0 None false place unwalked) (sym shown) kept),
      shared-none own plain gone items empty,
    )

-- nothing is known then
pub nothing-shown : (newline : Newlines) (own : KnownView) (plain : PlainText) (decoded : ℕ) (items : List ℕ) → own ≡ nothing_known newline → IsNone plain → known_of own plain.bytes decoded items ≡ nothing_known newline
nothing-shown newline own plain decoded items none empty = own-only own plain.bytes decoded items empty.0 ∙ none

pub nothing-viewed : (coder : Coder) (newline : Newlines) (own : KnownView) (plain : PlainText) (items : List ℕ) (place room : ℕ) → own ≡ nothing_known newline → IsNone plain → items ≡ [] → view_of coder (known_of own plain.bytes 0 items) 0 0 0 items 0 None false place room ≡ nothing_held coder newline place room
nothing-viewed coder newline own plain items place room none empty no_items =
    ap (λ (k : KnownView). view_of coder k 0 0 0 items 0 None false place room) (nothing-shown newline own plain 0 items none empty)
    ∙ ap (λ (b : List ℕ). view_of coder (nothing_known newline) 0 0 0 b 0 None false place room) no_items

-- nothing is in hand but characters that stand before the base
pub stored-behind : (coder : Coder) (own after : KnownView) (plain : PlainText) (front size gone decoded total : ℕ) (items : List ℕ) (given : ℕ) (mark : Option Mark) (ended : Bool) (place room there now : ℕ) (walked : Walked) (old : HeldView) → view_of coder (known_of own plain.bytes decoded items) front gone decoded items given mark ended place room ≡ cleared old there now → decoded ≤ len items → after.cr ≡ false → after.newline ≡ own.newline → size ≡ len after.characters → IsStored coder own plain front gone decoded total items given mark ended place walked → IsStored coder after plain size gone decoded total items given mark ended place walked
stored-behind coder own after plain front size gone decoded total items given mark ended place room there now walked old is all no_cr same size_is stored =
    let none : plain.bytes ≡ 0 = nothing-plain own plain decoded items stored.1 all (ap (λ (held : HeldView). held.known) is) in
    let held = stored.0.1 in
    let start : HeldView = held-by coder after 0 [] 0 None false (drop decoded items) place 0 in
    let stands : view_of coder after size gone decoded items given mark ended place 0 ≡ front-from start after.characters =
    ap (λ (v : HeldView). let own : HeldView = record start { cr = after.cr; front = size; back = v.back; given = v.given; mark = v.mark; ended = v.ended } in own) is
    ∙ (ap (λ (n : ℕ). let own : HeldView = record start { cr = after.cr; front = n } in own) size_is
    ∙ ap (λ (cr : Bool). let own : HeldView = record start { cr = cr; front = len after.characters } in own) no_cr) in
    let kept : IsKept coder after size gone decoded total items given mark ended place walked = (
      (
        stored.0.0.0,
        λ going. subst GaveSurely (sym stands) (sure-front start after.characters),
        walked-same coder.encoding coder.errors own.newline after.newline (drop gone items) (drop gone items) given walked (sym same) refl stored.0.0.2,
      ),
      record {
        from = held.from;
        within = held.within;
        behind = held.behind;
        near = held.near;
        among = omega (arith, size_is);
        few = omega (arith, size_is, ap (λ (held : HeldView). held.given) is, ap one-if no_cr);
        marked = subst (λ (m : Option Mark). IfSome m (IsMark (len after.characters) (decoded - gone) after.cr)) (sym (ap (λ (held : HeldView). held.mark) is)) tt;
      },
    ) in (
      subst (λ (known : KnownView). IsKept coder known size gone decoded total items given mark ended place walked) (sym (own-only after plain.bytes decoded items none)) kept,
      shared-empty own after plain decoded items none same stored.1,
    )
