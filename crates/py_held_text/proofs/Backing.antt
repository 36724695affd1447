-- The bytes that were decoded since the base, and how many characters stand for them.
use Rattle.std.proofs.Common.{◌≡◌, ℕ, ◌+◌, ◌-◌, ◌*◌, ◌≤◌, ◌||◌, Bool, true, false, nat_eq, nat_lt, if◌then◌else◌, List, [], ◌++◌, length as len, take, drop, Option, Some, None, IfSome, ap, subst, ◌∙◌, sym, arith}
use Rattle.std.proofs.lemmas.List.{length-append, length-drop, length-take-le, drop-drop, drop-take, take-append-drop}
use Rattle.std.proofs.Math.Seq.{take-add}
use Rattle.py_plain.specs.declared.encoding.Encoding.{Encoding}
use Rattle.py_plain.specs.declared.handler.Handler.{Handler}
use Rattle.py_plain.specs.declared.newlines.Newlines.{Newlines}
use Rattle.py_telling.specs.declared.told.Told.{Told}
use Rattle.py_telling.specs.ToldView.{IsToldAmong}
use Rattle.py_plain.specs.NewlineRule.{read_so_far, holds_after}
use Rattle.py_text.specs.declared.coder.Coder.{Coder}
use Rattle.py_held_text.specs.declared.base.Mark.{Mark}
use Rattle.py_held_text.specs.declared.base.BaseMove.{BaseMove}
use Rattle.py_held_text.proofs.Marking.{either-mark, no-cut, not-base}
use Rattle.py_held_text.specs.Held.{back_of, comes_next, mark_by, base_behind, given_on, held_anew, IsMark, IsHeld}
use Rattle.py_held_text.specs.Known.{KnownView, reading, may_cut}
use Rattle.py_held_text.proofs.Reading.{one-if, read-few}
use Rattle.py_held_text.proofs.Alone.{given-alone}
use Rattle.py_held_text.proofs.Holding.{held-by}

-- more bytes were decoded
pub back-more : (gone from used : ℕ) (items bytes : List ℕ) → gone ≤ from → bytes ≡ drop from items → back_of gone (from + used) items ≡ back_of gone from items ++ take used bytes
back-more gone from used items bytes within bytes_are =
    let count : ℕ = from - gone in
    let size : (from + used) - gone ≡ count + used = omega (arith, within) in
    let there : gone + count ≡ from = omega (arith, within) in
    let behind : drop count (drop gone items) ≡ bytes = drop-drop count gone items ∙ (ap (λ (n : ℕ). drop n items) there ∙ sym bytes_are) in
    ap (λ (n : ℕ). take n (drop gone items)) size
    ∙ (take-add count used (drop gone items)
    ∙ ap (λ (t : List ℕ). take count (drop gone items) ++ take used t) behind)

-- how many there are
pub back-length : (gone decoded : ℕ) (items : List ℕ) → gone ≤ decoded → decoded ≤ len items → len (back_of gone decoded items) ≡ decoded - gone
back-length gone decoded items from within = length-take-le (decoded - gone) (drop gone items) (omega (arith, from, within, length-drop gone items))

-- all from the base on
back-whole : (gone decoded : ℕ) (items : List ℕ) → gone ≤ decoded → drop gone items ≡ back_of gone decoded items ++ drop decoded items
back-whole gone decoded items from =
    let there : gone + (decoded - gone) ≡ decoded = omega (arith, from) in
    sym (take-append-drop (decoded - gone) (drop gone items)) ∙ ap (λ (t : List ℕ). back_of gone decoded items ++ t) (drop-drop (decoded - gone) gone items ∙ ap (λ (n : ℕ). drop n items) there)

-- none was decoded
pub back-none : (gone : ℕ) (items : List ℕ) → back_of gone gone items ≡ []
back-none gone items =
    let none : gone - gone ≡ 0 = omega arith in
    ap (λ (n : ℕ). take n (drop gone items)) none

-- the base moves on
back-passed : (gone decoded passed : ℕ) (items : List ℕ) → gone + passed ≤ decoded → back_of (gone + passed) decoded items ≡ drop passed (back_of gone decoded items)
back-passed gone decoded passed items within =
    let rest : ℕ = decoded - (gone + passed) in
    let size : decoded - gone ≡ passed + rest = omega (arith, within) in
    sym (ap (λ (n : ℕ). drop passed (take n (drop gone items))) size ∙ (drop-take passed rest (drop gone items) ∙ ap (take rest) (drop-drop passed gone items)))

-- What is in hand.

pub anew-by : (coder reading_coder : Coder) (known after : KnownView) (newline : Newlines) (items : List ℕ) (front gone decoded given place room : ℕ) (mark : Option Mark) (ended : Bool) → gone ≤ decoded → decoded ≤ len items → after ≡ record { newline = newline; characters = []; cr = false } → held-by reading_coder after 0 (back_of gone gone items) 0 None false (drop gone items) (place - (decoded - gone)) room ≡ held_anew reading_coder newline (held-by coder known front (back_of gone decoded items) given mark ended (drop decoded items) place room)
anew-by coder reading_coder known after newline items front gone decoded given place room mark ended from within after_is =
    ap (λ (k : KnownView). held-by reading_coder k 0 (back_of gone gone items) 0 None false (drop gone items) (place - (decoded - gone)) room) after_is
    ∙ (ap (λ (b : List ℕ). held-by reading_coder (record { newline = newline; characters = []; cr = false }) 0 b 0 None false (drop gone items) (place - (decoded - gone)) room) (back-none gone items)
    ∙ (ap (λ (b : List ℕ). held-by reading_coder (record { newline = newline; characters = []; cr = false }) 0 [] 0 None false b (place - (decoded - gone)) room) (back-whole gone decoded items from)
    ∙ ap (λ (n : ℕ). held-by reading_coder (record { newline = newline; characters = []; cr = false }) 0 [] 0 None false (back_of gone decoded items ++ drop decoded items) (place - n) room) (sym (back-length gone decoded items from within))))

-- the base passes no more than what was decoded
passed-if : (behind : Bool) (one other : BaseMove) (back : ℕ) → one.passed ≤ back → other.passed ≤ back → (if behind then one else other).passed ≤ back
passed-if true one other back first second = first
passed-if false one other back first second = second

passed-within : (count front given known back : ℕ) (cr : Bool) (mark : Option Mark) → IfSome mark (IsMark known back cr) → (base_behind count front given mark).passed ≤ back
passed-within count front given known back cr None marked = omega arith
passed-within count front given known back cr (Some mark) marked = passed-if (nat_lt mark.count count) _ _ back marked.passed (omega arith)

pub given-by : (coder : Coder) (known after : KnownView) (items items_now : List ℕ) (front gone decoded given place room old_room count : ℕ) (mark : Option Mark) (ended : Bool) (base : BaseMove) → gone ≤ decoded → IfSome mark (IsMark (len known.characters) (decoded - gone) known.cr) → base ≡ base_behind count front given mark → after ≡ record known { characters = drop count known.characters } → items_now ≡ items → held-by coder after base.front (back_of (gone + base.passed) decoded items_now) base.given base.mark ended (drop decoded items_now) place room ≡ record (given_on count (held-by coder known front (back_of gone decoded items) given mark ended (drop decoded items) place old_room)) { room = room }
given-by coder known after items items_now front gone decoded given place room old_room count mark ended base from marked base_is after_is items_are =
    let own : BaseMove = base_behind count front given mark in
    let rest : KnownView = record known { characters = drop count known.characters } in
    let fits : gone + own.passed ≤ decoded = omega (arith, from, passed-within count front given (len known.characters) (decoded - gone) known.cr mark marked) in
    ap (λ (k : KnownView). held-by coder k base.front (back_of (gone + base.passed) decoded items_now) base.given base.mark ended (drop decoded items_now) place room) after_is
    ∙ (ap (λ (all : List ℕ). held-by coder rest base.front (back_of (gone + base.passed) decoded all) base.given base.mark ended (drop decoded all) place room) items_are
    ∙ (ap (λ (b : BaseMove). held-by coder rest b.front (back_of (gone + b.passed) decoded items) b.given b.mark ended (drop decoded items) place room) base_is
    ∙ ap (λ (b : List ℕ). held-by coder rest own.front b own.given own.mark ended (drop decoded items) place room) (back-passed gone decoded own.passed items fits)))

-- what is told of the bytes from the base on
pub told-by : (encoding : Encoding) (handler : Handler) (newline rule : Newlines) (last : Bool) (gone decoded place given : ℕ) (items bytes : List ℕ) (told : Told) → gone ≤ decoded → decoded ≤ len items → rule ≡ newline → bytes ≡ drop gone items → IsToldAmong encoding handler rule last (place - (decoded - gone)) given bytes told → IsToldAmong encoding handler newline last (place - len (back_of gone decoded items)) given (back_of gone decoded items ++ drop decoded items) told
told-by encoding handler newline rule last gone decoded place given items bytes told from within rule_is bytes_are is =
    subst (λ (n : ℕ). IsToldAmong encoding handler newline last (place - n) given (back_of gone decoded items ++ drop decoded items) told) (sym (back-length gone decoded items from within))
    (subst (λ (b : List ℕ). IsToldAmong encoding handler newline last (place - (decoded - gone)) given b told) (bytes_are ∙ back-whole gone decoded items from)
    (subst (λ (n : Newlines). IsToldAmong encoding handler n last (place - (decoded - gone)) given bytes told) rule_is is))

-- what is told by them stands no earlier than the base, and reaches no further than the bytes in hand
pub told-forth : (gone decoded place start : ℕ) (items : List ℕ) → gone ≤ decoded → decoded ≤ len items → place - (decoded - gone) ≤ start → place - len (back_of gone decoded items) ≤ start
told-forth gone decoded place start items from within forth = omega (arith, forth, back-length gone decoded items from within)

pub told-fits : (gone decoded place far : ℕ) (items bytes : List ℕ) → gone ≤ decoded → decoded ≤ len items → decoded ≤ place + gone → bytes ≡ drop gone items → far ≤ (place - (decoded - gone)) + len bytes → far ≤ place + len (drop decoded items)
told-fits gone decoded place far items bytes from within behind bytes_are fits = omega (arith, from, within, behind, fits, ap len bytes_are, length-drop gone items, length-drop decoded items)

-- How many characters.

kept-more : (mark : Option Mark) (cr now : Bool) (known after back used : ℕ) → known ≤ after → after + one-if now ≤ known + one-if cr + 6 * used → IfSome mark (IsMark known back cr) → IfSome mark (IsMark after (back + used) now)
kept-more None cr now known after back used grows few marked = tt
kept-more (Some mark) cr now known after back used grows few marked = record {
  count = omega (arith, marked.count, grows);
  some = marked.some;
  passed = omega (arith, marked.passed);
  few = omega (arith, marked.few, few);
}

marked-more : (mark : Option Mark) (cr now cut : Bool) (known after back used : ℕ) → known ≤ after → (cut ≡ false → known + one-if cr ≤ after) → after + one-if now ≤ known + one-if cr + 6 * used → IfSome mark (IsMark known back cr) → IfSome (mark_by mark cut (known + one-if cr) back) (IsMark after (back + used) now)
marked-more mark cr now cut known after back used grows given few marked =
    either-mark (IsMark after (back + used) now) ((cut || nat_eq back 0) || comes_next mark) mark (record { count = known + one-if cr; passed = back })
    (kept-more mark cr now known after back used grows few marked)
    (λ sets. record { count = given (no-cut cut (nat_eq back 0) (comes_next mark) sets); some = not-base cut back (comes_next mark) sets; passed = omega arith; few = omega (arith, few) })

-- what holds of what is in hand, once more was decoded
pub held-more : (known after : KnownView) (cs : List ℕ) (mark now : Option Mark) (cut : Bool) (total gone decoded used place front given count passed : ℕ) → IsHeld total gone decoded place (len known.characters) front given known.cr mark → holds_after known.newline known.cr [] ≡ known.cr → after ≡ reading known cs → len cs ≤ 6 * used → decoded + used ≤ total → now ≡ mark_by mark cut count passed → cut ≡ may_cut known.cr cs → count ≡ len known.characters + one-if known.cr → passed ≡ decoded - gone → IsHeld total gone (decoded + used) (place + used) (len after.characters) front given after.cr now
held-more known after cs mark now cut total gone decoded used place front given count passed is holds after_is few within now_is cut_is count_is passed_is =
    let behind : (decoded + used) - gone ≡ (decoded - gone) + used = omega (arith, is.from) in
    let grows : len (reading known cs).characters ≡ len known.characters + len (read_so_far known.newline known.cr cs) = length-append known.characters (read_so_far known.newline known.cr cs) in
    let read = read-few known.newline known.cr cs in
    let here : ℕ = len known.characters + one-if known.cr in
    let now_here : now ≡ mark_by mark cut here (decoded - gone) = now_is ∙ (ap (λ (n : ℕ). mark_by mark cut n passed) count_is ∙ ap (mark_by mark cut here) passed_is) in
    subst (λ (k : KnownView). IsHeld total gone (decoded + used) (place + used) (len k.characters) front given k.cr now) (sym after_is) (record {
      from = omega (arith, is.from);
      within = within;
      behind = omega (arith, is.behind);
      near = omega (arith, is.near);
      among = omega (arith, is.among, grows);
      few = omega (arith, is.few, is.from, grows, read, few);
      marked = subst (λ (n : ℕ). IfSome now (IsMark (len (reading known cs).characters) n (reading known cs).cr)) (sym behind)
          (subst (λ (m : Option Mark). IfSome m (IsMark (len (reading known cs).characters) ((decoded - gone) + used) (reading known cs).cr)) (sym now_here)
          (marked-more mark known.cr (reading known cs).cr cut (len known.characters) (len (reading known cs).characters) (decoded - gone) used (omega (arith, grows)) (λ apart. omega (arith, grows, given-alone known.newline known.cr cs (sym cut_is ∙ apart) holds)) (omega (arith, grows, read, few)) is.marked));
    })
