-- As long as no decoding knew that no bytes come behind those in hand, these surely gave what was given: it stays so. So it is with how far
-- the bytes from the base on were walked.
use Rattle.std.proofs.Common.{◌≡◌, ℕ, zero, suc, ◌+◌, ◌-◌, ◌≤◌, nat_lt, Bool, true, false, ◌||◌, if◌then◌else◌, true≢false, List, [], ◌++◌, length as len, take, drop, Option, Some, None, IfSome, refl, sym, ap, subst, ◌∙◌, arith}
use Rattle.std.proofs.lemmas.Bool.{ltb-true, ltb-false}
use Rattle.std.proofs.lemmas.List.{length-append, length-drop, drop-drop, drop-append-le, take-append-le}
use Rattle.py_flat.specs.Limits.{greatest_place}
use Rattle.py_plain.specs.declared.encoding.Encoding.{Encoding}
use Rattle.py_plain.specs.declared.handler.Handler.{Handler}
use Rattle.py_plain.specs.declared.newlines.Newlines.{Newlines}
use Rattle.py_plain.specs.declared.newlines.Newlines.TheVariants as rule
use Rattle.py_plain.specs.NewlineRule.{read_all, holds_after}
use Rattle.py_plain.specs.Handlers.{reads_texts}
use Rattle.py_plain.specs.Items.{characters_of}
use Rattle.py_telling.specs.declared.walked.Walked.{Walked}
use Rattle.py_telling.specs.Walks.{IsWalked}
use Rattle.py_telling.proofs.GoingOn.{nothing_walked, walked_before, walked_on}
use Rattle.py_codec.specs.declared.front.FrontDecoded.{FrontDecoded}
use Rattle.py_text.specs.declared.coder.Coder.{Coder}
use Rattle.py_held_text.specs.declared.base.Mark.{Mark}
use Rattle.py_held_text.specs.declared.base.BaseMove.{BaseMove}
use Rattle.py_held_text.specs.Held.{HeldView, back_of, view_of, base_behind, IsMark, IsHeld}
use Rattle.py_held_text.specs.Known.{KnownView, reading}
use Rattle.py_held_text.specs.Decodes.{Decodes, IsStopped}
use Rattle.py_held_text.specs.Bases.{KeepsSure}
use Rattle.py_held_text.proofs.Backing.{back-none, back-more, given-by}
use Rattle.py_held_text.proofs.Bases.{sure-front, sure-decoded, sure-released, sure-given, sure-put}
use Rattle.py_held_text.proofs.Reading.{one-if}
use Rattle.py_held_text.proofs.Holding.{held-by, marked-by, PartDecoded, part-items, decodes-by}

-- what is known is the same
pub keeps-known : (coder : Coder) (known after : KnownView) (front gone decoded given place : ℕ) (items : List ℕ) (mark : Option Mark) (ended : Bool) → after ≡ known → KeepsSure (view_of coder known front gone decoded items given mark ended place 0) → KeepsSure (view_of coder after front gone decoded items given mark ended place 0)
keeps-known coder known after front gone decoded given place items mark ended is keeps = subst (λ (k : KnownView). KeepsSure (view_of coder k front gone decoded items given mark ended place 0)) (sym is) keeps

-- nothing is known yet
pub keeps-nothing : (coder : Coder) (newline : Newlines) (known : KnownView) (gone place : ℕ) (items : List ℕ) → known ≡ record { newline = newline; characters = []; cr = false } → KeepsSure (view_of coder known 0 gone gone items 0 None false place 0)
keeps-nothing coder newline known gone place items is =
    let none : KnownView = record { newline = newline; characters = []; cr = false } in
    subst (λ (k : KnownView). KeepsSure (view_of coder k 0 gone gone items 0 None false place 0)) (sym is)
    (subst (λ (back : List ℕ). KeepsSure (held-by coder none 0 back 0 None false (drop gone items) place 0)) (sym (back-none gone items))
    (λ going. sure-front (held-by coder none 0 [] 0 None false (drop gone items) place 0) []))

-- bytes before the base are removed
pub keeps-forgot : (coder : Coder) (known : KnownView) (front gone decoded given place removed : ℕ) (items now : List ℕ) (mark : Option Mark) (ended : Bool) → removed ≤ gone → gone ≤ decoded → now ≡ drop removed items → KeepsSure (view_of coder known front gone decoded items given mark ended place 0) → KeepsSure (view_of coder known front (gone - removed) (decoded - removed) now given mark ended place 0)
keeps-forgot coder known front gone decoded given place removed items now mark ended before from now_is keeps =
    let size : (decoded - removed) - (gone - removed) ≡ decoded - gone = omega (arith, before, from) in
    let there : removed + (gone - removed) ≡ gone = omega (arith, before) in
    let whole : removed + (decoded - removed) ≡ decoded = omega (arith, before, from) in
    let left : List ℕ = drop removed items in
    subst (λ (all : List ℕ). KeepsSure (view_of coder known front (gone - removed) (decoded - removed) all given mark ended place 0)) (sym now_is)
    (subst (λ (n : ℕ). KeepsSure (held-by coder known front (take n (drop (gone - removed) left)) given mark ended (drop (decoded - removed) left) place 0)) (sym size)
    (subst (λ (bytes : List ℕ). KeepsSure (held-by coder known front (take (decoded - gone) bytes) given mark ended (drop (decoded - removed) left) place 0)) (sym (drop-drop (gone - removed) removed items ∙ ap (λ (n : ℕ). drop n items) there))
    (subst (λ (bytes : List ℕ). KeepsSure (held-by coder known front (back_of gone decoded items) given mark ended bytes place 0)) (sym (drop-drop (decoded - removed) removed items ∙ ap (λ (n : ℕ). drop n items) whole)) keeps)))

-- bytes are put behind those in hand
pub keeps-pushed : (coder : Coder) (known : KnownView) (front gone decoded given place : ℕ) (items now part : List ℕ) (mark : Option Mark) (ended : Bool) → gone ≤ decoded → decoded ≤ len items → now ≡ items ++ part → KeepsSure (view_of coder known front gone decoded items given mark ended place 0) → KeepsSure (view_of coder known front gone decoded now given mark ended place 0)
keeps-pushed coder known front gone decoded given place items now part mark ended from within now_is keeps =
    let back : back_of gone decoded (items ++ part) ≡ back_of gone decoded items =
    ap (take (decoded - gone)) (drop-append-le gone items part (omega (arith, from, within)))
    ∙ take-append-le (decoded - gone) (drop gone items) part (omega (arith, from, within, length-drop gone items)) in
    subst (λ (all : List ℕ). KeepsSure (view_of coder known front gone decoded all given mark ended place 0)) (sym now_is)
    (subst (λ (b : List ℕ). KeepsSure (held-by coder known front b given mark ended (drop decoded (items ++ part)) place 0)) (sym back)
    (subst (λ (b : List ℕ). KeepsSure (held-by coder known front (back_of gone decoded items) given mark ended b place 0)) (sym (drop-append-le decoded items part within))
    (λ going. sure-put part (view_of coder known front gone decoded items given mark ended place 0) 0 (keeps going))))

-- bytes were decoded
pub moves-by : (coder : Coder) (known after : KnownView) (front gone from given : ℕ) (mark now : Option Mark) (ended ended_now : Bool) (items bytes : List ℕ) (size place room want : ℕ) (last : Bool) (decoded : FrontDecoded) → reads_texts coder.errors ≡ true → holds_after known.newline known.cr [] ≡ known.cr → (last ≡ true → size ≡ len bytes) → PartDecoded coder last want (take size bytes) decoded → after ≡ reading known (characters_of (part-items coder last want (take size bytes))) → decoded.used ≤ len (take size bytes) → gone ≤ from → bytes ≡ drop from items → now ≡ marked-by mark known (characters_of (part-items coder last want (take size bytes))) (back_of gone from items) → ended_now ≡ (last || ended) → Decodes last (view_of coder known front gone from items given mark ended place room) (view_of coder after front gone (from + decoded.used) items given now ended_now (place + decoded.used) room)
moves-by coder known after front gone from given mark now ended ended_now items bytes size place room want last decoded reads holds all part after_is within behind bytes_are now_is ended_is =
    let new : HeldView = view_of coder after front gone (from + decoded.used) items given now ended_now (place + decoded.used) room in
    let rest : List ℕ = drop (from + decoded.used) items in
    let rest_is : rest ≡ drop decoded.used bytes = sym (drop-drop decoded.used from items) ∙ ap (drop decoded.used) (sym bytes_are) in
    subst (λ (b : List ℕ). Decodes last (held-by coder known front (back_of gone from items) given mark ended b place room) new) bytes_are
    (decodes-by coder known after front (back_of gone from items) (back_of gone (from + decoded.used) items) given mark now ended ended_now bytes rest size place room room want last decoded reads holds all part after_is within rest_is (back-more gone from decoded.used items bytes behind bytes_are) now_is ended_is (omega arith))

pub keeps-decoded : (last : Bool) (old new : HeldView) → reads_texts old.handler ≡ true → Decodes last old new → KeepsSure old → KeepsSure new
keeps-decoded true old new reads decodes keeps = λ going. absurd (true≢false (sym decodes.ended ∙ going))
keeps-decoded false old new reads decodes keeps = λ going. sure-decoded old new reads decodes (keeps (sym decodes.ended ∙ going))

-- a CR that was held was given as an LF
pub keeps-released : (coder : Coder) (known after : KnownView) (front gone decoded given place room : ℕ) (items : List ℕ) (mark : Option Mark) (ended : Bool) (old : HeldView) → old ≡ view_of coder known front gone decoded items given mark ended place room → (old.ended ≡ false → IsStopped old) → after ≡ record known { characters = known.characters ++ read_all known.newline known.cr []; cr = false } → KeepsSure (view_of coder known front gone decoded items given mark ended place 0) → KeepsSure (view_of coder after front gone decoded items given mark ended place 0)
keeps-released coder known after front gone decoded given place room items mark ended old old_is stops after_is keeps =
    let stops_there = subst (λ (held : HeldView). held.ended ≡ false → IsStopped held) old_is stops in
    let stops_here : ended ≡ false → IsStopped (view_of coder known front gone decoded items given mark ended place 0) = λ going. ((stops_there going).0, record { whole = (stops_there going).1.whole; so_far = (stops_there going).1.so_far }) in
    subst (λ (k : KnownView). KeepsSure (view_of coder k front gone decoded items given mark ended place 0)) (sym after_is)
    (λ going. sure-released (view_of coder known front gone decoded items given mark ended place 0) (stops_here going) (keeps going))

-- a front of what is known was given
pub keeps-given : (coder : Coder) (known after : KnownView) (items : List ℕ) (front gone decoded given place count : ℕ) (mark : Option Mark) (ended : Bool) (base : BaseMove) → gone ≤ decoded → IfSome mark (IsMark (len known.characters) (decoded - gone) known.cr) → count ≤ len known.characters → base ≡ base_behind count front given mark → after ≡ record known { characters = drop count known.characters } → KeepsSure (view_of coder known front gone decoded items given mark ended place 0) → KeepsSure (view_of coder after base.front (gone + base.passed) decoded items base.given base.mark ended place 0)
keeps-given coder known after items front gone decoded given place count mark ended base from marked within base_is after_is keeps =
    subst KeepsSure (sym (given-by coder known after items items front gone decoded given place 0 0 count mark ended base from marked base_is after_is refl))
    (λ going. sure-given (view_of coder known front gone decoded items given mark ended place 0) count 0 within (keeps going))

-- How far the bytes from the base on were walked.

-- nothing was walked
abbrev pub unwalked : Walked
unwalked = record { passed = 0; count = 0; held = false }

-- the same bytes are walked by the same rule
pub walked-same : (encoding : Encoding) (handler : Handler) (newline rule : Newlines) (bytes items : List ℕ) (given : ℕ) (walked : Walked) → newline ≡ rule → bytes ≡ items → IsWalked encoding handler newline bytes given walked → IsWalked encoding handler rule items given walked
walked-same encoding handler newline rule bytes items given walked rule_is bytes_are is =
    subst (λ (n : Newlines). IsWalked encoding handler n items given walked) rule_is
    (subst (λ (b : List ℕ). IsWalked encoding handler newline b given walked) bytes_are is)

pub walked-known : (coder : Coder) (known after : KnownView) (gone given : ℕ) (items : List ℕ) (walked : Walked) → after.newline ≡ known.newline → IsWalked coder.encoding coder.errors known.newline (drop gone items) given walked → IsWalked coder.encoding coder.errors after.newline (drop gone items) given walked
walked-known coder known after gone given items walked rule_is is =
    walked-same coder.encoding coder.errors known.newline after.newline (drop gone items) (drop gone items) given walked (sym rule_is) refl is

-- bytes are put behind those in hand
walked-pushed : (encoding : Encoding) (handler : Handler) (newline : Newlines) (gone given : ℕ) (items now part : List ℕ) (walked : Walked) → gone ≤ len items → now ≡ items ++ part → IsWalked encoding handler newline (drop gone items) given walked → IsWalked encoding handler newline (drop gone now) given walked
walked-pushed encoding handler newline gone given items now part walked within now_is is =
    walked-same encoding handler newline newline (drop gone items ++ part) (drop gone now) given walked refl (sym (ap (drop gone) now_is ∙ drop-append-le gone items part within))
    (walked_before encoding handler newline (drop gone items) part given walked is)

-- where the base stays, more characters were given since
grown-if : (behind : Bool) (one other : BaseMove) (given : ℕ) → 1 ≤ one.passed → given ≤ other.given → (if behind then one else other).passed ≡ 0 → given ≤ (if behind then one else other).given
grown-if true one other given some more stays = omega (arith, some, stays)
grown-if false one other given some more stays = more

grown : (count front given known back : ℕ) (cr : Bool) (mark : Option Mark) → IfSome mark (IsMark known back cr) → (base_behind count front given mark).passed ≡ 0 → given ≤ (base_behind count front given mark).given
grown count front given known back cr None marked stays = omega arith
grown count front given known back cr (Some mark) marked stays = grown-if (nat_lt mark.count count) _ _ given marked.some (omega arith) stays

walked-behind : (encoding : Encoding) (handler : Handler) (newline : Newlines) (gone given passed later : ℕ) (items : List ℕ) (walked now : Walked) → (passed ≡ 0 → given ≤ later) → (passed ≡ 0 → now ≡ walked) → (1 ≤ passed → now ≡ unwalked) → IsWalked encoding handler newline (drop gone items) given walked → IsWalked encoding handler newline (drop (gone + passed) items) later now
walked-behind encoding handler newline gone given zero later items walked now more same none is =
    let here : gone ≡ gone + 0 = omega arith in
    subst (IsWalked encoding handler newline (drop (gone + 0) items) later) (sym (same refl))
    (walked-same encoding handler newline newline (drop gone items) (drop (gone + 0) items) later walked refl (ap (λ (n : ℕ). drop n items) here)
    (walked_on encoding handler newline (drop gone items) given later walked (more refl) is))
walked-behind encoding handler newline gone given (suc passed) later items walked now more same none is =
    subst (IsWalked encoding handler newline (drop (gone + suc passed) items) later) (sym (none (omega arith)))
    (nothing_walked encoding handler newline (drop (gone + suc passed) items) later)

-- a front of what is known was given
walked-given : (encoding : Encoding) (handler : Handler) (newline : Newlines) (gone front given count known back : ℕ) (cr : Bool) (items : List ℕ) (mark : Option Mark) (base : BaseMove) (walked now : Walked) → IfSome mark (IsMark known back cr) → base ≡ base_behind count front given mark → (base.passed ≡ 0 → now ≡ walked) → (1 ≤ base.passed → now ≡ unwalked) → IsWalked encoding handler newline (drop gone items) given walked → IsWalked encoding handler newline (drop (gone + base.passed) items) base.given now
walked-given encoding handler newline gone front given count known back cr items mark base walked now marked base_is same none is =
    walked-behind encoding handler newline gone given base.passed base.given items walked now
    (subst (λ (own : BaseMove). own.passed ≡ 0 → given ≤ own.given) (sym base_is) (grown count front given known back cr mark marked)) same none is

-- All that holds of what is in hand.

abbrev pub IsKept : Coder → KnownView → (front gone decoded total : ℕ) → List ℕ → (given : ℕ) → Option Mark → (ended : Bool) → (place : ℕ) → Walked → Type 0
IsKept coder known front gone decoded total items given mark ended place walked = ((reads_texts coder.errors ≡ true) × KeepsSure (view_of coder known front gone decoded items given mark ended place 0) × IsWalked coder.encoding coder.errors known.newline (drop gone items) given walked) × IsHeld total gone decoded place (len known.characters) front given known.cr mark

-- nothing changed but what isn't seen
pub kept-known : (coder : Coder) (known after : KnownView) (front gone decoded total : ℕ) (items : List ℕ) (given : ℕ) (mark : Option Mark) (ended : Bool) (place : ℕ) (walked : Walked) → after ≡ known → IsKept coder known front gone decoded total items given mark ended place walked → IsKept coder after front gone decoded total items given mark ended place walked
kept-known coder known after front gone decoded total items given mark ended place walked is kept = subst (λ (k : KnownView). IsKept coder k front gone decoded total items given mark ended place walked) (sym is) kept

pub kept-items : (coder : Coder) (known : KnownView) (front gone decoded total total_now : ℕ) (items now : List ℕ) (given : ℕ) (mark : Option Mark) (ended : Bool) (place : ℕ) (walked : Walked) → now ≡ items → total_now ≡ total → IsKept coder known front gone decoded total items given mark ended place walked → IsKept coder known front gone decoded total_now now given mark ended place walked
kept-items coder known front gone decoded total total_now items now given mark ended place walked is same kept =
    subst (λ (all : List ℕ). IsKept coder known front gone decoded total_now all given mark ended place walked) (sym is)
    (subst (λ (n : ℕ). IsKept coder known front gone decoded n items given mark ended place walked) (sym same) kept)

pub kept-forgot : (coder : Coder) (known : KnownView) (front gone decoded total total_now removed : ℕ) (items now : List ℕ) (given : ℕ) (mark : Option Mark) (ended : Bool) (place : ℕ) (walked : Walked) → removed ≤ gone → now ≡ drop removed items → total_now + removed ≡ total → IsKept coder known front gone decoded total items given mark ended place walked → IsKept coder known front (gone - removed) (decoded - removed) total_now now given mark ended place walked
kept-forgot coder known front gone decoded total total_now removed items now given mark ended place walked before is less kept =
    let held = kept.1 in
    let size : (decoded - removed) - (gone - removed) ≡ decoded - gone = omega (arith, before, held.from) in
    let there : removed + (gone - removed) ≡ gone = omega (arith, before) in
    let behind : drop gone items ≡ drop (gone - removed) now = sym (ap (drop (gone - removed)) is ∙ (drop-drop (gone - removed) removed items ∙ ap (λ (n : ℕ). drop n items) there)) in (
      (
        kept.0.0,
        keeps-forgot coder known front gone decoded given place removed items now mark ended before held.from is kept.0.1,
        walked-same coder.encoding coder.errors known.newline known.newline (drop gone items) (drop (gone - removed) now) given walked refl behind kept.0.2,
      ),
      record {
        from = omega (arith, held.from);
        within = omega (arith, held.within, held.from, less);
        behind = omega (arith, held.behind, held.from, before);
        near = omega (arith, held.near, held.from, before, less);
        among = held.among;
        few = omega (arith, held.few, held.from, before);
        marked = subst (λ (n : ℕ). IfSome mark (IsMark (len known.characters) n known.cr)) (sym size) held.marked;
      },
    )

pub kept-pushed : (coder : Coder) (known : KnownView) (front gone decoded total total_now : ℕ) (items now part : List ℕ) (given : ℕ) (mark : Option Mark) (ended : Bool) (place : ℕ) (walked : Walked) → total ≡ len items → now ≡ items ++ part → total_now ≡ total + len part → place + total_now ≤ greatest_place + decoded → IsKept coder known front gone decoded total items given mark ended place walked → IsKept coder known front gone decoded total_now now given mark ended place walked
kept-pushed coder known front gone decoded total total_now items now part given mark ended place walked whole is more near kept =
    let held = kept.1 in (
      (
        kept.0.0,
        keeps-pushed coder known front gone decoded given place items now part mark ended held.from (omega (arith, held.within, whole)) is kept.0.1,
        walked-pushed coder.encoding coder.errors known.newline gone given items now part walked (omega (arith, held.from, held.within, whole)) is kept.0.2,
      ),
      record {
        from = held.from;
        within = omega (arith, held.within, more);
        behind = held.behind;
        near = near;
        among = held.among;
        few = held.few;
        marked = held.marked;
      },
    )

all-few : (newline : Newlines) (cr : Bool) → len (read_all newline cr []) ≤ one-if cr
all-few rule.Universal true = omega arith
all-few rule.Universal false = omega arith
all-few rule.Passthrough cr = omega arith
all-few rule.Lf cr = omega arith
all-few rule.Cr cr = omega arith
all-few rule.Crlf cr = omega arith

mark-released : (mark : Option Mark) (known after back : ℕ) (cr : Bool) → known ≤ after → after ≤ known + one-if cr → IfSome mark (IsMark known back cr) → IfSome mark (IsMark after back false)
mark-released None known after back cr grows few is = tt
mark-released (Some mark) known after back cr grows few is = record { count = omega (arith, is.count, grows); some = is.some; passed = is.passed; few = omega (arith, is.few, few) }

pub kept-released : (coder : Coder) (known after : KnownView) (front gone decoded total room : ℕ) (items : List ℕ) (given : ℕ) (mark : Option Mark) (ended : Bool) (place : ℕ) (walked : Walked) (old : HeldView) → old ≡ view_of coder known front gone decoded items given mark ended place room → (old.ended ≡ false → IsStopped old) → after ≡ record known { characters = known.characters ++ read_all known.newline known.cr []; cr = false } → IsKept coder known front gone decoded total items given mark ended place walked → IsKept coder after front gone decoded total items given mark ended place walked
kept-released coder known after front gone decoded total room items given mark ended place walked old old_is stops after_is kept =
    let held = kept.1 in
    let more : List ℕ = read_all known.newline known.cr [] in
    let grows : len (known.characters ++ more) ≡ len known.characters + len more = length-append known.characters more in
    let few = all-few known.newline known.cr in (
      (
        kept.0.0,
        keeps-released coder known after front gone decoded given place room items mark ended old old_is stops after_is kept.0.1,
        walked-known coder known after gone given items walked (ap (λ (k : KnownView). k.newline) after_is) kept.0.2,
      ),
      subst (λ (k : KnownView). IsHeld total gone decoded place (len k.characters) front given k.cr mark) (sym after_is) (record {
        from = held.from;
        within = held.within;
        behind = held.behind;
        near = held.near;
        among = omega (arith, held.among, grows);
        few = omega (arith, held.few, grows, few);
        marked = mark-released mark (len known.characters) (len (known.characters ++ more)) (decoded - gone) known.cr (omega (arith, grows)) (omega (arith, grows, few)) held.marked;
      }),
    )

pub kept-given : (coder : Coder) (known after : KnownView) (front gone decoded total : ℕ) (items : List ℕ) (given count : ℕ) (mark : Option Mark) (ended : Bool) (place : ℕ) (base : BaseMove) (walked now : Walked) → count ≤ len known.characters → base ≡ base_behind count front given mark → after ≡ record known { characters = drop count known.characters } → (base.passed ≡ 0 → now ≡ walked) → (1 ≤ base.passed → now ≡ unwalked) → IsKept coder known front gone decoded total items given mark ended place walked → IsKept coder after base.front (gone + base.passed) decoded total items base.given base.mark ended place now
kept-given coder known after front gone decoded total items given count mark ended place base walked now within base_is after_is same none kept = (
  (
    kept.0.0,
    keeps-given coder known after items front gone decoded given place count mark ended base kept.1.from kept.1.marked within base_is after_is kept.0.1,
    walked-given coder.encoding coder.errors after.newline gone front given count (len known.characters) (decoded - gone) known.cr items mark base walked now kept.1.marked base_is same none (walked-known coder known after gone given items walked (ap (λ (k : KnownView). k.newline) after_is) kept.0.2),
  ),
  subst (λ (k : KnownView). IsHeld total (gone + base.passed) decoded place (len k.characters) base.front base.given k.cr base.mark) (sym after_is)
      (subst (Holds known.cr) (sym base_is) (by-mark known.cr mark kept.1)),
)
  where
    left : len (drop count known.characters) ≡ len known.characters - count
    left = length-drop count known.characters

    Holds : Bool → BaseMove → Type 0
    Holds cr own = IsHeld total (gone + own.passed) decoded place (len (drop count known.characters)) own.front own.given cr own.mark

    by-count : (cr : Bool) (mark : Mark) (past : Bool) → nat_lt mark.count count ≡ past → IsHeld total gone decoded place (len known.characters) front given cr (Some mark) → Holds cr (if past then record { passed = mark.passed; front = 0; given = count - mark.count; mark = None } else record { passed = 0; front = front - count; given = given + (count - front); mark = Some (record mark { count = mark.count - count }) })
    by-count cr mark true is held =
        let past = ltb-true mark.count count is in
        let own = held.marked in
        record {
          from = omega (arith, held.from, own.passed);
          within = held.within;
          behind = omega (arith, held.behind);
          near = held.near;
          among = omega arith;
          few = omega (arith, own.few, own.passed, held.from, left, past, within);
          marked = tt;
        }
    by-count cr mark false is held =
        let before = ltb-false mark.count count is in
        let own = held.marked in
        let same : decoded - (gone + 0) ≡ decoded - gone = omega arith in
        record {
          from = omega (arith, held.from);
          within = held.within;
          behind = omega (arith, held.behind);
          near = held.near;
          among = omega (arith, held.among, left);
          few = omega (arith, held.few, held.among, left, within);
          marked = record { count = omega (arith, own.count, left); some = own.some; passed = omega (arith, own.passed); few = omega (arith, own.few, left, before, within) };
        }

    by-mark : (cr : Bool) (mark : Option Mark) → IsHeld total gone decoded place (len known.characters) front given cr mark → Holds cr (base_behind count front given mark)
    by-mark cr None held = record {
      from = omega (arith, held.from);
      within = held.within;
      behind = omega (arith, held.behind);
      near = held.near;
      among = omega (arith, held.among, left);
      few = omega (arith, held.few, held.among, left, within);
      marked = tt;
    }
    by-mark cr (Some mark) held = by-count cr mark (nat_lt mark.count count) refl held
