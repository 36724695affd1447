-- What looking at what is in hand leaves.
use Rattle.std.proofs.Common.{◌≡◌, ℕ, ◌+◌, ◌≤◌, Bool, true, false, ◌&&◌, ◌||◌, nat_eq, if◌then◌else◌, List, [], ◌∷◌, ◌++◌, length, Option, Some, None, IfSome, refl, sym, ap, subst, ◌∙◌, arith}
use Rattle.std.proofs.lemmas.List.{append-nil, length-append, length-drop}
use Rattle.py_flat.specs.Lines.{lf, cr}
use Rattle.py_plain.specs.declared.newlines.Newlines.{Newlines}
use Rattle.py_plain.specs.declared.newlines.Newlines.TheVariants as newlines
use Rattle.py_plain.specs.Items.{Item, characters_of, refusal_of}
use Rattle.py_plain.specs.NewlineRule.{released, passes, universal, read_so_far, read_all}
use Rattle.py_plain_text.specs.Rest.{Rest}
use Rattle.py_held_text.specs.Held.{HeldView, ahead, comes_next, left_with, left_so_far}
use Rattle.py_held_text.specs.declared.base.Mark.{Mark}
use Rattle.py_held_text.specs.declared.held_stop.HeldStop.{HeldStop}
use Rattle.py_held_text.specs.declared.held_stop.HeldStop.TheVariants as stops
use Rattle.py_held_text.specs.Decodes.{known_with_cr, Decodes, IsDrained, StoppedAt}
use Rattle.py_held_text.specs.Known.{may_cut}
use Rattle.py_held_text.proofs.Bases.{same-decoded, bases-decoded, bases-follow}
use Rattle.py_read_text.specs.Knowing.{HasFront}
use Rattle.py_read_text.specs.Reading.{Coming, Follows}

-- The rule, of no characters.

pub so_far_none : (rule : Newlines) (held : Bool) → read_so_far rule held [] ≡ []
so_far_none newlines.Universal held = refl
so_far_none newlines.Passthrough held = refl
so_far_none newlines.Lf held = refl
so_far_none newlines.Cr held = refl
so_far_none newlines.Crlf held = refl

pub all_none : (rule : Newlines) → read_all rule false [] ≡ []
all_none newlines.Universal = refl
all_none newlines.Passthrough = refl
all_none newlines.Lf = refl
all_none newlines.Cr = refl
all_none newlines.Crlf = refl

-- a CR that isn't held any more lets no fewer pass
passes_more : (is_cr is_lf held : Bool) (c : ℕ) → length (if is_cr || (held && is_lf) then [] else c ∷ []) ≤ length (if is_cr || (false && is_lf) then [] else c ∷ [])
passes_more true is_lf held c = omega arith
passes_more false is_lf true c = by_lf is_lf c
  where
    by_lf : (is_lf : Bool) (c : ℕ) → length (if false || (true && is_lf) then [] else c ∷ []) ≤ length (if false || (false && is_lf) then [] else c ∷ [])
    by_lf true c = omega arith
    by_lf false c = omega arith
passes_more false is_lf false c = omega arith

universal_released : (held : Bool) (cs : List ℕ) → length (universal held cs) ≤ length (released held) + length (universal false cs)
universal_released held [] = omega arith
universal_released held (c ∷ cs) =
    let behind : List ℕ = universal (nat_eq c cr) cs in
    omega (arith, length-append (released held) (passes held c ++ behind), length-append (passes held c) behind, length-append (passes false c) behind, passes_more (nat_eq c cr) (nat_eq c lf) held c)

-- a CR that is released hides nothing that was sure
so_far_released : (rule : Newlines) (held : Bool) (cs : List ℕ) → length (read_so_far rule held cs) ≤ length (read_all rule held []) + length (read_so_far rule false cs)
so_far_released newlines.Universal held cs = universal_released held cs
so_far_released newlines.Passthrough held cs = omega arith
so_far_released newlines.Lf held cs = omega arith
so_far_released newlines.Cr held cs = omega arith
so_far_released newlines.Crlf held cs = omega arith

-- Following.

pub follows_itself : (Behind : List ℕ → Type 0) (held : HeldView) → Follows Behind held held
follows_itself Behind held = record {
  settings = record { encoding = refl; handler = refl; newline = refl };
  stands = refl;
  forth = omega arith;
  order = refl;
  base = refl;
  whole = refl;
  front = refl;
  has = λ has. has;
  given = refl;
  bases = λ more may gone is. is;
  ended = λ more may was. was;
  few = omega arith;
  left = λ more may. refl;
  shows = λ more may. omega arith;
  sound = λ more may none. none;
}

-- room was taken, or let go of
pub follows_room : (Behind : List ℕ → Type 0) (held : HeldView) (room : ℕ) → Follows Behind held (record held { room = room })
follows_room Behind held room = record {
  settings = record { encoding = refl; handler = refl; newline = refl };
  stands = refl;
  forth = omega arith;
  order = refl;
  base = refl;
  whole = refl;
  front = refl;
  has = λ has. record { among = has.among; marked = has.marked };
  given = refl;
  bases = λ more may gone is. bases-follow more held (record held { room = room }) gone (record { settings = record { encoding = refl; handler = refl; newline = refl }; order = refl; base = refl; whole = refl }) refl refl refl refl refl (omega arith) refl ([], refl) is;
  ended = λ more may was. was;
  few = omega arith;
  left = λ more may. refl;
  shows = λ more may. omega arith;
  sound = λ more may none. none;
}

pub follows_on : (Behind : List ℕ → Type 0) (old mid new : HeldView) → Follows Behind old mid → Follows Behind mid new → Follows Behind old new
follows_on Behind old mid new first second = record {
  settings = record { encoding = second.settings.encoding ∙ first.settings.encoding; handler = second.settings.handler ∙ first.settings.handler; newline = second.settings.newline ∙ first.settings.newline };
  stands = second.stands ∙ first.stands;
  forth = omega (arith, first.forth, second.forth);
  order = second.order ∙ first.order;
  base = second.base ∙ first.base;
  whole = second.whole ∙ first.whole;
  front = second.front ∙ first.front;
  has = λ has. second.has (first.has has);
  given = second.given ∙ first.given;
  bases = λ more may gone is. second.bases more may gone (first.bases more may gone is);
  ended = λ more may was. second.ended more may (first.ended more may was);
  few = omega (arith, first.few, second.few);
  left = λ more may. second.left more may ∙ first.left more may;
  shows = λ more may. omega (arith, first.shows more may, second.shows more may);
  sound = λ more may none. first.sound more may (second.sound more may none);
}

-- what follows whatever comes behind follows also what may
pub follows_of : (Behind Wider : List ℕ → Type 0) (old new : HeldView) → ((more : List ℕ) → Behind more → Wider more) → Follows Wider old new → Follows Behind old new
follows_of Behind Wider old new wider follows = record {
  settings = follows.settings;
  stands = follows.stands;
  forth = follows.forth;
  order = follows.order;
  base = follows.base;
  whole = follows.whole;
  front = follows.front;
  has = follows.has;
  given = follows.given;
  bases = λ more may. follows.bases more (wider more may);
  ended = λ more may. follows.ended more (wider more may);
  few = follows.few;
  left = λ more may. follows.left more (wider more may);
  shows = λ more may. follows.shows more (wider more may);
  sound = λ more may none. follows.sound more (wider more may) none;
}

decoded_stands : (last : Bool) (old new : HeldView) → Decodes last old new → new.place + length new.bytes ≡ old.place + length old.bytes
decoded_stands last old new decodes = omega (arith, decodes.place, ap length decodes.bytes, length-drop decodes.used old.bytes, decodes.within)

-- the front stands before a mark that is set behind all that is known
set_front : (stays : Bool) (front count passed : ℕ) (mark : Option Mark) → front ≤ count → IfSome mark (λ (own : Mark). front ≤ own.count) → IfSome (if stays then mark else Some (record { count = count; passed = passed })) (λ (own : Mark). front ≤ own.count)
set_front true front count passed mark among marked = marked
set_front false front count passed mark among marked = among

decoded_front : (last : Bool) (old new : HeldView) → Decodes last old new → HasFront old → HasFront new
decoded_front last old new decodes has = record {
  among = omega (arith, has.among, decodes.front, ap length decodes.grows, length-append old.known (read_so_far old.newline old.cr decodes.came));
  marked = subst (λ (front : ℕ). IfSome new.mark (λ (own : Mark). front ≤ own.count)) (sym decodes.front)
      (subst (λ (mark : Option Mark). IfSome mark (λ (own : Mark). old.front ≤ own.count)) (sym decodes.mark)
      (set_front ((may_cut old.cr decodes.came || nat_eq (length old.back) 0) || comes_next old.mark) old.front (known_with_cr old) (length old.back) old.mark (omega (arith, has.among)) has.marked));
}

-- bytes behind which more may come were decoded
pub decoded : (old new : HeldView) → Decodes false old new → Follows (Coming false) old new
decoded old new decodes = record {
  settings = decodes.settings;
  stands = decoded_stands false old new decodes;
  forth = omega (arith, decodes.place);
  order = decodes.order;
  base = (same-decoded false old new decodes).base;
  whole = decodes.whole;
  front = decodes.front;
  has = decoded_front false old new decodes;
  given = decodes.given;
  bases = λ more may gone is. bases-decoded more false old new gone (λ last. absurd (cc)) decodes is;
  ended = λ more may was knew. was (sym decodes.ended ∙ knew);
  few = omega (arith, decodes.place, decodes.few);
  left = λ more may. decodes.left more (λ last. absurd (cc));
  shows = λ more may. omega (arith, ap (λ (rest : Rest). length rest.characters) (decodes.so_far refl more));
  sound = λ more may none. sym (ap (λ (rest : Rest). rest.refusal) (decodes.so_far refl more)) ∙ none;
}

-- what is surely left where no item stands in hand
pub so_far_empty : (held : HeldView) → (ahead held false []).items ≡ [] → (left_so_far held []).characters ≡ held.known
so_far_empty held none = ap (λ (items : List Item). held.known ++ read_so_far held.newline held.cr (characters_of items)) none ∙ (ap (λ (cs : List ℕ). held.known ++ cs) (so_far_none held.newline held.cr) ∙ append-nil held.known)

-- the last bytes were decoded, of which none gave anything while more might come
pub decoded_last : (old new : HeldView) → IsDrained false old → Decodes true old new → Follows (Coming true) old new
decoded_last old new drained decodes =
    let grows : length old.known ≤ length new.known = omega (arith, ap length decodes.grows, length-append old.known (read_so_far old.newline old.cr decodes.came)) in
    record {
      settings = decodes.settings;
      stands = decoded_stands true old new decodes;
      forth = omega (arith, decodes.place);
      order = decodes.order;
      base = (same-decoded true old new decodes).base;
      whole = decodes.whole;
      front = decodes.front;
      has = decoded_front true old new decodes;
      given = decodes.given;
      bases = λ more none gone is. bases-decoded more true old new gone none decodes is;
      ended = λ more none was knew. none refl;
      few = omega (arith, decodes.place, decodes.few);
      left = λ more none. decodes.left more none;
      shows = λ more none. subst (λ (cs : List ℕ). length (left_so_far old cs).characters ≤ length (left_so_far new cs).characters) (sym (none refl))
          (let seen : List ℕ = read_so_far new.newline new.cr (characters_of (ahead new false []).items) in omega (arith, ap length (so_far_empty old drained.items), grows, length-append new.known seen));
      sound = λ more none says. subst (λ (cs : List ℕ). (left_so_far old cs).refusal ≡ None) (sym (none refl)) drained.refusal;
    }

-- a held CR was given as an LF, where no item comes next
abbrev pub after_release : HeldView → HeldView
after_release held = record held { known = held.known ++ read_all held.newline held.cr []; cr = false }

cr_few : (rule : Newlines) (held : Bool) → length (read_all rule held []) ≤ (if held then 1 else 0)
cr_few newlines.Universal true = omega arith
cr_few newlines.Universal false = omega arith
cr_few newlines.Passthrough held = omega arith
cr_few newlines.Lf held = omega arith
cr_few newlines.Cr held = omega arith
cr_few newlines.Crlf held = omega arith

released_left : (held : HeldView) (more : List ℕ) → (ahead held true more).items ≡ [] → left_with (after_release held) more ≡ left_with held more
released_left held more none =
    let stop : Option (ℕ × ℕ) = refusal_of (ahead held true more).ending in
    let given : List ℕ = read_all held.newline held.cr [] in
    let new : (left_with (after_release held) more).characters ≡ held.known ++ given = ap (λ (items : List Item). (held.known ++ given) ++ read_all held.newline false (characters_of items)) none ∙ (ap (λ (cs : List ℕ). (held.known ++ given) ++ cs) (all_none held.newline) ∙ append-nil (held.known ++ given)) in
    let old : (left_with held more).characters ≡ held.known ++ given = ap (λ (items : List Item). held.known ++ read_all held.newline held.cr (characters_of items)) none in
    ap (λ (cs : List ℕ). let rest : Rest = record { characters = cs; refusal = stop } in rest) (new ∙ sym old)

released_shows : (held : HeldView) (more : List ℕ) → length (left_so_far held more).characters ≤ length (left_so_far (after_release held) more).characters
released_shows held more =
    let cs : List ℕ = characters_of (ahead held false more).items in
    let given : List ℕ = read_all held.newline held.cr [] in
    omega (arith, length-append held.known (read_so_far held.newline held.cr cs), length-append (held.known ++ given) (read_so_far held.newline false cs), length-append held.known given, so_far_released held.newline held.cr cs)

pub let_go : (Behind : List ℕ → Type 0) (held : HeldView) → ((more : List ℕ) → Behind more → (ahead held true more).items ≡ []) → Follows Behind held (after_release held)
let_go Behind held none = record {
  settings = record { encoding = refl; handler = refl; newline = refl };
  stands = refl;
  forth = omega arith;
  order = refl;
  base = refl;
  whole = refl;
  front = refl;
  has = λ has. record { among = omega (arith, has.among, length-append held.known (read_all held.newline held.cr [])); marked = has.marked };
  given = refl;
  bases = λ more may gone is. bases-follow more held (after_release held) gone (record { settings = record { encoding = refl; handler = refl; newline = refl }; order = refl; base = refl; whole = refl }) refl refl refl refl refl (omega (arith, length-append held.known (read_all held.newline held.cr []))) (released_left held more (none more may)) ([], refl) is;
  ended = λ more may was. was;
  few = omega (arith, length-append held.known (read_all held.newline held.cr []), cr_few held.newline held.cr);
  left = λ more may. released_left held more (none more may);
  shows = λ more may. released_shows held more;
  sound = λ more may says. says;
}

-- Looking at what is in hand.

-- once more bytes were decoded, and their characters looked at
pub looked : (first old mid new : HeldView) → Follows (Coming false) first old → Decodes false old mid → new ≡ mid → Follows (Coming false) first new
looked first old mid new follows decodes same = subst (Follows (Coming false) first) (sym same) (follows_on (Coming false) first old mid follows (decoded old mid decodes))

-- no memory was there for an LF, or it was given for a held CR, where no item is left
pub kept_cr : (old mid new : HeldView) → IsDrained false old → Decodes true old mid → new ≡ mid → Follows (Coming true) old new
kept_cr old mid new drained decodes same = subst (Follows (Coming true) old) (sym same) (decoded_last old mid drained decodes)

pub gave_cr : (old mid new : HeldView) (stop : HeldStop) → IsDrained false old → Decodes true old mid → StoppedAt true mid stop → stop ≡ stops.Drained → new ≡ after_release mid → Follows (Coming true) old new
gave_cr old mid new stop drained decodes stopped is released =
    let last : IsDrained true mid = subst (StoppedAt true mid) is stopped in
    subst (Follows (Coming true) old) (sym released)
    (follows_on (Coming true) old mid (after_release mid) (decoded_last old mid drained decodes)
    (let_go (Coming true) mid (λ more none. ap (λ (cs : List ℕ). (ahead mid true cs).items) (none refl) ∙ last.items)))
