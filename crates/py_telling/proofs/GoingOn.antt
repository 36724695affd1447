-- A walk goes on from where it came to, whatever comes behind the bytes.
use Rattle.std.proofs.Common.{◌≡◌, ℕ, ◌+◌, ◌-◌, ◌<◌, ◌≤◌, Bool, true, false, ◌&&◌, nat_eq, List, [], ◌∷◌, ◌++◌, length as len, drop, Option, Some, None, IsSome, IfSome, sym, ap, subst, ◌∙◌, arith, append-nil, append_assoc}
use Rattle.std.proofs.lemmas.List.{length-append, length-drop, take-append-le, drop-append-le}
use Rattle.py_plain.specs.declared.encoding.Encoding.{Encoding}
use Rattle.py_plain.specs.declared.handler.Handler.{Handler}
use Rattle.py_plain.specs.declared.newlines.Newlines.{Newlines}
use Rattle.py_plain.specs.declared.unit.Unit.{Unit as Read}
use Rattle.py_plain.specs.declared.unit.Unit.TheVariants.{Character, Malformed, Cut}
use Rattle.py_plain.specs.UnitLaws.{IsWithin}
use Rattle.py_plain.specs.Units.{Unknown, first_unit}
use Rattle.py_plain.specs.Handlers.{Treatment, treatment, reads_texts}
use Rattle.py_plain.specs.Items.{Item, Given, item_handled, item_of, first_item}
use Rattle.py_plain.specs.Pieces.{LooksAtRange}
use Rattle.py_plain.proofs.AnyUnits.{unit_some, unit_within_any, StaysIf, stays}
use Rattle.py_plain.proofs.Looking.{reading}
use Rattle.py_telling.specs.declared.seen_item.SeenItem.TheVariants as seen
use Rattle.py_telling.specs.declared.walked.Walked.{Walked}
use Rattle.py_telling.specs.Seen.{Shows}
use Rattle.py_telling.specs.Spots.{adds, holds, spot_behind, items_from}
use Rattle.py_telling.specs.Walks.{TellsAlike, IsWalked}
use Rattle.py_telling.proofs.Walking.{item_at, items_step, first_from, seen_character, seen_replaced, adds_all, holds_none, spot_step}

-- An item that comes first stays so, whatever comes behind the bytes.

stayed : (unit : Read) (longer : Option Read) → IsSome longer → IfSome longer (λ later. later ≡ unit) → longer ≡ Some unit
stayed unit None some same = absurd (cc)
stayed unit (Some later) some same = ap (λ (u : Read). Some u) same

unit_front : (treat : Treatment) (last : Bool) (place : ℕ) (bytes more cs : List ℕ) (used : ℕ) (unit longer : Option Read) → LooksAtRange treat → IsSome longer → StaysIf unit longer → IfSome unit (λ first. IsWithin first (len bytes)) → item_of treat false place bytes unit ≡ Given cs used → item_of treat last place (bytes ++ more) longer ≡ Given cs used
unit_front treat last place bytes more cs used None longer looks some stays within is = absurd (cc)
unit_front treat last place bytes more cs used (Some (Character c n)) longer looks some stays within is =
    ap (item_of treat last place (bytes ++ more)) (stayed (Character c n) longer some stays) ∙ is
unit_front treat last place bytes more cs used (Some (Malformed n)) longer looks some stays within is =
    ap (item_of treat last place (bytes ++ more)) (stayed (Malformed n) longer some stays)
    ∙ (ap (item_handled n) (looks.same place n (bytes ++ more) bytes (take-append-le n bytes more within.1)) ∙ is)
unit_front treat last place bytes more cs used (Some (Cut n)) longer looks some stays within is = absurd (cc)

first_front : (encoding : Encoding) (handler : Handler) → reads_texts handler ≡ true → (last : Bool) (place at : ℕ) (bytes more cs : List ℕ) (used : ℕ) → at < len bytes → first_from encoding handler false place at bytes ≡ Given cs used → first_from encoding handler last place at (bytes ++ more) ≡ Given cs used
first_front encoding handler reads last place at bytes more cs used inside is =
    let treat : Treatment = treatment handler encoding in
    let here : List ℕ = drop at bytes in
    let start : Bool = nat_eq (place + at) 0 in
    let longer : 0 < len (here ++ more) = omega (arith, inside, length-drop at bytes, length-append here more) in
    ap (first_item encoding treat last Unknown (place + at)) (drop-append-le at bytes more (omega (arith, inside)))
    ∙ unit_front treat last (place + at) here more cs used (first_unit encoding Unknown start here) (first_unit encoding Unknown start (here ++ more)) (reading handler encoding reads)
    (unit_some encoding Unknown start (here ++ more) longer) (stays encoding Unknown start here more) (unit_within_any encoding Unknown start here) is

-- One item more.

-- the item where a walk came to leads it to a later boundary
pub record Leads (encoding : Encoding) (handler : Handler) (newline : Newlines) (last : Bool) (place : ℕ) (bytes : List ℕ) (walked later : Walked) : Type 0 where
  pub characters : List ℕ
  pub used : ℕ
  pub first : first_from encoding handler last place walked.passed bytes ≡ Given characters used
  pub some : 1 ≤ used
  pub passed : later.passed ≡ walked.passed + used
  pub counted : later.count ≡ walked.count + adds walked.held characters
  pub held : later.held ≡ holds newline walked.held characters

pub leads_character : (encoding : Encoding) (handler : Handler) (newline : Newlines) (last : Bool) (place : ℕ) (bytes : List ℕ) (walked later : Walked) (c used : ℕ) → 1 ≤ used → later.passed ≡ walked.passed + used → later.count ≡ walked.count + adds walked.held (c ∷ []) → later.held ≡ holds newline walked.held (c ∷ []) → Shows (first_from encoding handler last place walked.passed bytes) (seen.Character c used) → Leads encoding handler newline last place bytes walked later
leads_character encoding handler newline last place bytes walked later c used some passed counted held shows = record {
  characters = c ∷ [];
  used = used;
  first = seen_character (first_from encoding handler last place walked.passed bytes) c used shows;
  some = some;
  passed = passed;
  counted = counted;
  held = held;
}

pub leads_replaced : (encoding : Encoding) (handler : Handler) (newline : Newlines) (last : Bool) (place : ℕ) (bytes : List ℕ) (walked later : Walked) (count used : ℕ) → 1 ≤ used → later.passed ≡ walked.passed + used → later.count ≡ walked.count + count → later.held ≡ (walked.held && nat_eq count 0) → Shows (first_from encoding handler last place walked.passed bytes) (seen.Replaced count used) → Leads encoding handler newline last place bytes walked later
leads_replaced encoding handler newline last place bytes walked later count used some passed counted held shows =
    let stands = seen_replaced (first_from encoding handler last place walked.passed bytes) count used shows in
    record {
      characters = stands.characters;
      used = used;
      first = stands.is;
      some = some;
      passed = passed;
      counted = omega (arith, counted, adds_all walked.held stands.characters stands.stand.unbroken, stands.stand.long);
      held = held ∙ sym (holds_none newline walked.held count stands.characters stands.stand.long stands.stand.unbroken);
    }

pub alike_later : (encoding : Encoding) (handler : Handler) (newline : Newlines) (last : Bool) (place count : ℕ) (bytes : List ℕ) (walked later : Walked) → walked.passed < len bytes → walked.count < count → later.count ≤ count → Leads encoding handler newline last place bytes walked later → TellsAlike encoding handler newline last place count bytes walked → TellsAlike encoding handler newline last place count bytes later
alike_later encoding handler newline last place count bytes walked later inside more within leads before =
    let cs : List ℕ = leads.characters in
    let here : ℕ = place + walked.passed in
    let left : ℕ = count - walked.count in
    let items : List Item = items_from encoding handler last place (walked.passed + leads.used) bytes in
    let far : here + leads.used ≡ place + later.passed = omega (arith, leads.passed) in
    let fewer : left - adds walked.held cs ≡ count - later.count = omega (arith, leads.counted) in
    before
    ∙ (ap (spot_behind newline left walked.held here) (items_step encoding handler last place walked.passed bytes cs leads.used inside leads.some leads.first)
    ∙ (spot_step newline left walked.held here (item_at here cs leads.used) items (omega (arith, more)) (omega (arith, within, leads.counted))
    ∙ (ap (λ (n : ℕ). spot_behind newline n (holds newline walked.held cs) (here + leads.used) items) fewer
    ∙ (ap (λ (h : Bool). spot_behind newline (count - later.count) h (here + leads.used) items) (sym leads.held)
    ∙ (ap (λ (p : ℕ). spot_behind newline (count - later.count) later.held p items) far
    ∙ ap (λ (at : ℕ). spot_behind newline (count - later.count) later.held (place + later.passed) (items_from encoding handler last place at bytes)) (sym leads.passed))))))

leads_front : (encoding : Encoding) (handler : Handler) (newline : Newlines) → reads_texts handler ≡ true → (last : Bool) (place : ℕ) (bytes more : List ℕ) (walked later : Walked) → walked.passed < len bytes → Leads encoding handler newline false place bytes walked later → Leads encoding handler newline last place (bytes ++ more) walked later
leads_front encoding handler newline reads last place bytes more walked later inside leads = record {
  characters = leads.characters;
  used = leads.used;
  first = first_front encoding handler reads last place walked.passed bytes more leads.characters leads.used inside leads.first;
  some = leads.some;
  passed = leads.passed;
  counted = leads.counted;
  held = leads.held;
}

pub walked_later : (encoding : Encoding) (handler : Handler) (newline : Newlines) → reads_texts handler ≡ true → (last : Bool) (bytes : List ℕ) (given : ℕ) (walked later : Walked) → last ≡ false → walked.passed < len bytes → walked.count < given → later.passed ≤ len bytes → later.count ≤ given → ((place : ℕ) → Leads encoding handler newline last place bytes walked later) → IsWalked encoding handler newline bytes given walked → IsWalked encoding handler newline bytes given later
walked_later encoding handler newline reads last bytes given walked later goes_on inside less within counted leads before = record {
  within = within;
  counted = counted;
  alike = λ last_there place count more enough.
      alike_later encoding handler newline last_there place count (bytes ++ more) walked later (omega (arith, inside, length-append bytes more)) (omega (arith, less, enough)) (omega (arith, counted, enough))
      (leads_front encoding handler newline reads last_there place bytes more walked later inside (subst (λ (l : Bool). Leads encoding handler newline l place bytes walked later) goes_on (leads place)))
      (before.alike last_there place count more enough);
}

-- What stays walked.

-- where nothing comes behind the bytes in hand
pub walked_here : (encoding : Encoding) (handler : Handler) (newline : Newlines) (last : Bool) (place given : ℕ) (bytes : List ℕ) (walked : Walked) → IsWalked encoding handler newline bytes given walked → TellsAlike encoding handler newline last place given bytes walked
walked_here encoding handler newline last place given bytes walked is =
    subst (λ (all : List ℕ). TellsAlike encoding handler newline last place given all walked) (append-nil bytes) (is.alike last place given [] (omega arith))

-- nothing was walked
pub nothing_walked : (encoding : Encoding) (handler : Handler) (newline : Newlines) (bytes : List ℕ) (given : ℕ) → IsWalked encoding handler newline bytes given (record { passed = 0; count = 0; held = false })
nothing_walked encoding handler newline bytes given = record {
  within = omega arith;
  counted = omega arith;
  alike = λ last place count more enough.
      let all : count ≡ count - 0 = omega arith in
      let here : place ≡ place + 0 = omega arith in
      ap (λ (n : ℕ). spot_behind newline n false place (items_from encoding handler last place 0 (bytes ++ more))) all
      ∙ ap (λ (p : ℕ). spot_behind newline (count - 0) false p (items_from encoding handler last place 0 (bytes ++ more))) here;
}

-- bytes come behind
pub walked_before : (encoding : Encoding) (handler : Handler) (newline : Newlines) (bytes part : List ℕ) (given : ℕ) (walked : Walked) → IsWalked encoding handler newline bytes given walked → IsWalked encoding handler newline (bytes ++ part) given walked
walked_before encoding handler newline bytes part given walked is = record {
  within = omega (arith, is.within, length-append bytes part);
  counted = is.counted;
  alike = λ last place count more enough.
      subst (λ (all : List ℕ). TellsAlike encoding handler newline last place count all walked) (sym (append_assoc bytes part more)) (is.alike last place count (part ++ more) enough);
}

-- more characters are given
pub walked_on : (encoding : Encoding) (handler : Handler) (newline : Newlines) (bytes : List ℕ) (given later : ℕ) (walked : Walked) → given ≤ later → IsWalked encoding handler newline bytes given walked → IsWalked encoding handler newline bytes later walked
walked_on encoding handler newline bytes given later walked more is = record {
  within = is.within;
  counted = omega (arith, is.counted, more);
  alike = λ last place count behind enough. is.alike last place count behind (omega (arith, more, enough));
}
