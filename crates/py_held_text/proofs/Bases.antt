-- What is known of the base and of the mark stays so.
use Rattle.std.proofs.Common.{◌≡◌, ℕ, ◌+◌, ◌-◌, ◌≤◌, ◌<◌, ◌||◌, Bool, true, false, true≢false, nat_eq, nat_lt, if◌then◌else◌, List, [], ◌++◌, length, take, drop, ◌⊎◌, inl, inr, Option, Some, None, IfSome, is_some, refl, sym, ap, subst, ◌∙◌, arith}
use Rattle.std.proofs.lemmas.Bool.{ltb-true, ltb-false}
use Rattle.std.proofs.lemmas.List.{append-nil, append_assoc, length-append, length-drop, length-take-le, drop-append-le}
use Rattle.std.proofs.Math.Seq.{drop-append_seam}
use Rattle.py_plain.specs.declared.encoding.Encoding.{Encoding}
use Rattle.py_plain.specs.declared.handler.Handler.{Handler}
use Rattle.py_plain.specs.declared.newlines.Newlines.{Newlines}
use Rattle.py_plain.specs.declared.newlines.Newlines.TheVariants as rule
use Rattle.py_plain.specs.Units.{Order, Unknown}
use Rattle.py_plain.specs.Items.{Item, Ending, AtEnd, AtRange, AtCut, Walk, characters_of, refusal_of}
use Rattle.py_plain.specs.Handlers.{Treatment, treatment, reads_texts}
use Rattle.py_plain.specs.Pieces.{LooksAtRange, walk_at, items_before, place_behind, unused, unless_refused}
use Rattle.py_plain.specs.NewlineRule.{read_so_far, read_all, holds_after, translated_to}
use Rattle.py_plain.proofs.Joining.{two}
use Rattle.py_plain.proofs.Looking.{reading as looks_at}
use Rattle.py_plain_text.specs.Rest.{Rest}
use Rattle.py_telling.specs.InHand.{surely_given}
use Rattle.py_telling.proofs.Anywhere.{alike_anywhere}
use Rattle.py_held_text.specs.declared.base.Mark.{Mark}
use Rattle.py_held_text.specs.declared.base.BaseMove.{BaseMove}
use Rattle.py_held_text.specs.Held.{HeldView, ahead, base_of, whole_of, comes_next, base_behind, given_on, left_with, left_so_far, read_until, left_surely}
use Rattle.py_held_text.proofs.Marking.{either-mark, no-cut}
use Rattle.py_held_text.proofs.Alone.{behind-alone, given-alone}
use Rattle.py_held_text.specs.Decodes.{KeepsSettings, known_with_cr, Passes, Gives, Decodes, IsStopped}
use Rattle.py_held_text.specs.Known.{may_cut}
use Rattle.py_held_text.specs.Bases.{from_base, rebased, with_gone, without, IsBack, KnowsBase, MarkStands, KnowsBases, SureBase, SureMark, SureBases, GaveSurely}
use Rattle.py_held_text.proofs.Walking.{both-before}
use Rattle.py_held_text.proofs.Given.{given-to-mark, given-past-mark, given-behind}

abbrev rest-of : List ℕ → Option (ℕ × ℕ) → Rest
rest-of characters refusal = record { characters = characters; refusal = refusal }

-- Items.

-- a text that has the items of another has those of a third
pub passes-both : (one two three : HeldView) (more : List ℕ) → Passes one two more → Passes two three more → Passes one three more
passes-both one two three more first second = (first.0 ++ second.0, first.1 ∙ (ap (items_before first.0) second.1 ∙ sym (both-before first.0 second.0 (ahead three true more))))

-- a text has no items before itself
pub passes-none : (held : HeldView) (more : List ℕ) → Passes held held more
passes-none held more = ([], refl)

-- The same base.

-- two texts in hand have one base, and the same bytes from there on
pub record SameBase (old new : HeldView) : Type 0 where
  pub settings : KeepsSettings old new
  pub order : new.order ≡ old.order
  pub base : base_of new ≡ base_of old
  pub whole : whole_of new ≡ whole_of old

abbrev from-there : Encoding → Handler → Newlines → Order → (place : ℕ) → (bytes : List ℕ) → (room : ℕ) → HeldView
from-there encoding handler newline order place bytes room = record { encoding = encoding; handler = handler; newline = newline; known = []; cr = false; front = 0; back = []; given = 0; mark = None; ended = false; bytes = bytes; place = place; order = order; room = room }

from-same : (old new : HeldView) (passed : ℕ) → SameBase old new → from_base new passed ≡ record (from_base old passed) { room = new.room }
from-same old new passed same =
    let place : ℕ = base_of new + passed in
    let bytes : List ℕ = drop passed (whole_of new) in
    ap (λ (e : Encoding). from-there e new.handler new.newline new.order place bytes new.room) same.settings.encoding
    ∙ (ap (λ (h : Handler). from-there old.encoding h new.newline new.order place bytes new.room) same.settings.handler
    ∙ (ap (λ (n : Newlines). from-there old.encoding old.handler n new.order place bytes new.room) same.settings.newline
    ∙ (ap (λ (o : Order). from-there old.encoding old.handler old.newline o place bytes new.room) same.order
    ∙ (ap (λ (b : ℕ). from-there old.encoding old.handler old.newline old.order (b + passed) bytes new.room) same.base
    ∙ ap (λ (w : List ℕ). from-there old.encoding old.handler old.newline old.order (base_of old + passed) (drop passed w) new.room) same.whole))))

left-same : (old new : HeldView) (passed : ℕ) → SameBase old new → (more : List ℕ) → left_with (from_base new passed) more ≡ left_with (from_base old passed) more
left-same old new passed same more = ap (λ (held : HeldView). left_with held more) (from-same old new passed same)

surely-same : (old new : HeldView) (passed : ℕ) → SameBase old new → (more : List ℕ) → left_surely (from_base new passed) more ≡ left_surely (from_base old passed) more
surely-same old new passed same more = ap (λ (held : HeldView). left_surely held more) (from-same old new passed same)

pub ahead-same : (old new : HeldView) (passed : ℕ) → SameBase old new → (more : List ℕ) → ahead (from_base new passed) true more ≡ ahead (from_base old passed) true more
ahead-same old new passed same more = ap (λ (held : HeldView). ahead held true more) (from-same old new passed same)

-- What is in hand was looked at.

-- what is left without the characters that stand before the base
behind-front : {one other : ℕ} {rest left : Rest} → one ≡ other → rest ≡ left → without other left ≡ without one rest
behind-front {one} {other} {rest} {left} front same = ap (λ (n : ℕ). without n left) (sym front) ∙ ap (without one) (sym same)

pub base-follows : (more : List ℕ) (old new : HeldView) (gone : List ℕ) → SameBase old new → new.front ≡ old.front → new.given ≡ old.given → left_with new more ≡ left_with old more → Passes old new more → KnowsBase more old gone → KnowsBase more new gone
base-follows more old new gone same front given left items is =
    let both = passes-both (rebased old) old new more is.items items in
    record {
      count = is.count ∙ sym given;
      left = left-same old new 0 same more ∙ (is.left ∙ ap (with_gone gone) (behind-front front left));
      items = (both.0, ahead-same old new 0 same more ∙ both.1);
    }

mark-follows : (more : List ℕ) (old new : HeldView) (mark : Mark) → SameBase old new → length old.known ≤ length new.known → length old.back ≤ length new.back → left_with new more ≡ left_with old more → Passes old new more → MarkStands more old mark → MarkStands more new mark
mark-follows more old new mark same grows further left items is =
    let both = passes-both (from_base old mark.passed) old new more is.behind items in
    record {
      count = omega (arith, is.count, grows);
      passed = omega (arith, is.passed, further);
      left = left-same old new mark.passed same more ∙ (is.left ∙ ap (without mark.count) (sym left));
      before = (is.before.0, ahead-same old new 0 same more ∙ (is.before.1 ∙ ap (items_before is.before.0) (sym (ahead-same old new mark.passed same more))));
      behind = (both.0, ahead-same old new mark.passed same more ∙ both.1);
    }

marks-follow : (more : List ℕ) (old new : HeldView) (mark : Option Mark) → SameBase old new → length old.known ≤ length new.known → length old.back ≤ length new.back → left_with new more ≡ left_with old more → Passes old new more → IfSome mark (MarkStands more old) → IfSome mark (MarkStands more new)
marks-follow more old new None same grows further left items is = tt
marks-follow more old new (Some mark) same grows further left items is = mark-follows more old new mark same grows further left items is

-- a CR that was held was given as an LF, or room was taken: no byte was decoded, and what is left stays
pub bases-follow : (more : List ℕ) (old new : HeldView) (gone : List ℕ) → SameBase old new → new.place ≡ old.place → new.back ≡ old.back → new.front ≡ old.front → new.given ≡ old.given → new.mark ≡ old.mark → length old.known ≤ length new.known → left_with new more ≡ left_with old more → Passes old new more → KnowsBases more old gone → KnowsBases more new gone
bases-follow more old new gone same place back front given mark grows left items is = record {
  back = omega (arith, is.back, ap length back, place);
  base = base-follows more old new gone same front given left items is.base;
  mark = subst (λ (own : Option Mark). IfSome own (MarkStands more new)) (sym mark) (marks-follow more old new old.mark same grows (omega (arith, ap length back)) left items is.mark);
}

-- Nothing is known but what stands before the base.

abbrev pub front-from : HeldView → List ℕ → HeldView
front-from start cs = record start { known = cs; cr = false; front = length cs; back = []; given = 0; mark = None; ended = false }

-- nothing is known yet
abbrev pub nothing-from : HeldView → HeldView
nothing-from start = front-from start []

rebased-front : (start : HeldView) (cs : List ℕ) → rebased (front-from start cs) ≡ nothing-from start
rebased-front start cs =
    let here : (start.place - 0) + 0 ≡ start.place = omega arith in
    ap (λ (place : ℕ). from-there start.encoding start.handler start.newline start.order place start.bytes start.room) here

pub bases-front : (more : List ℕ) (start : HeldView) (cs : List ℕ) → KnowsBases more (front-from start cs) []
bases-front more start cs =
    let stop : Option (ℕ × ℕ) = refusal_of (ahead start true more).ending in
    let behind : List ℕ = read_all start.newline false (characters_of (ahead start true more).items) in
    record {
      back = omega arith;
      base = record {
        count = refl;
        left = ap (λ (held : HeldView). left_with held more) (rebased-front start cs) ∙ ap (λ (own : List ℕ). rest-of own stop) (sym (drop-append_seam cs behind));
        items = ([], ap (λ (held : HeldView). ahead held true more) (rebased-front start cs));
      };
      mark = tt;
    }

pub bases-nothing : (more : List ℕ) (start : HeldView) → KnowsBases more (nothing-from start) []
bases-nothing more start = bases-front more start []

pub sure-front : (start : HeldView) (cs : List ℕ) → GaveSurely (front-from start cs)
sure-front start cs = λ more.
    let stop : Option (ℕ × ℕ) = refusal_of (ahead start false more).ending in
    let behind : List ℕ = read_until (is_some stop) start.newline false (characters_of (ahead start false more).items) in (
      [],
      record {
        back = omega arith;
        base = record {
          count = refl;
          left = ap (λ (held : HeldView). left_surely held more) (rebased-front start cs) ∙ ap (λ (own : List ℕ). rest-of own stop) (sym (drop-append_seam cs behind));
        };
        mark = tt;
      },
    )

-- Bytes were decoded.

back-grows : (last : Bool) (old new : HeldView) → (decodes : Decodes last old new) → length new.back ≡ length old.back + decodes.used
back-grows last old new decodes = omega (arith, ap length decodes.back, length-append old.back (take decodes.used old.bytes), length-take-le decodes.used old.bytes decodes.within)

known-grows : (last : Bool) (old new : HeldView) → Decodes last old new → length old.known ≤ length new.known
known-grows last old new decodes = omega (arith, ap length decodes.grows, length-append old.known (read_so_far old.newline old.cr decodes.came))

-- also by the LF that a held CR is, where no LF goes with it
released-grows : (last : Bool) (old new : HeldView) → (decodes : Decodes last old new) → may_cut old.cr decodes.came ≡ false → known_with_cr old ≤ length new.known
released-grows last old new decodes apart = omega (arith, ap length decodes.grows, length-append old.known (read_so_far old.newline old.cr decodes.came), given-alone old.newline old.cr decodes.came apart decodes.holds)

pub same-decoded : (last : Bool) (old new : HeldView) → Decodes last old new → SameBase old new
same-decoded last old new decodes = record {
  settings = decodes.settings;
  order = decodes.order;
  base = omega (arith, back-grows last old new decodes, decodes.place);
  whole = decodes.whole;
}

-- the place behind the bytes that were decoded
from-here : (held : HeldView) → IsBack held → from_base held (length held.back) ≡ from-there held.encoding held.handler held.newline held.order held.place held.bytes held.room
from-here held behind =
    let place : base_of held + length held.back ≡ held.place = omega (arith, behind) in
    ap (λ (p : ℕ). from-there held.encoding held.handler held.newline held.order p (drop (length held.back) (whole_of held)) held.room) place
    ∙ ap (λ (b : List ℕ). from-there held.encoding held.handler held.newline held.order held.place b held.room) (drop-append_seam held.back held.bytes)

-- what is left there, behind the LF that a held CR is
left-here : (held behind : HeldView) (came : List ℕ) → IsBack held → may_cut held.cr came ≡ false → holds_after held.newline held.cr [] ≡ held.cr → (more : List ℕ) → Gives true came held behind more → left_with (from_base held (length held.back)) more ≡ without (known_with_cr held) (left_with held more)
left-here held behind came back apart holds more gives =
    let all : List ℕ = characters_of (ahead held true more).items in
    let stop : Option (ℕ × ℕ) = refusal_of (ahead held true more).ending in
    ap (λ (own : HeldView). left_with own more) (from-here held back)
    ∙ ap (λ (cs : List ℕ). rest-of cs stop) (sym (behind-alone true held.newline held.cr held.known came (characters_of (ahead behind true more).items) all apart holds gives))

surely-here : (held behind : HeldView) (came : List ℕ) → IsBack held → may_cut held.cr came ≡ false → holds_after held.newline held.cr [] ≡ held.cr → (more : List ℕ) → Gives false came held behind more → left_surely (from_base held (length held.back)) more ≡ without (known_with_cr held) (left_surely held more)
surely-here held behind came back apart holds more gives =
    let all : List ℕ = characters_of (ahead held false more).items in
    let stop : Option (ℕ × ℕ) = refusal_of (ahead held false more).ending in
    ap (λ (own : HeldView). left_surely own more) (from-here held back)
    ∙ ap (λ (cs : List ℕ). rest-of cs stop) (sym (behind-alone (is_some stop) held.newline held.cr held.known came (characters_of (ahead behind false more).items) all apart holds gives))

ahead-here : (held : HeldView) → IsBack held → (more : List ℕ) → ahead (from_base held (length held.back)) true more ≡ ahead held true more
ahead-here held behind more = ap (λ (own : HeldView). ahead own true more) (from-here held behind)

-- a mark that was set before bytes were decoded
new-mark : (more : List ℕ) (last : Bool) (old new : HeldView) (gone : List ℕ) → (last ≡ true → more ≡ []) → IsBack old → (decodes : Decodes last old new) → may_cut old.cr decodes.came ≡ false → KnowsBase more old gone → MarkStands more new (record { count = known_with_cr old; passed = length old.back })
new-mark more last old new gone ends behind decodes apart is =
    let same = same-decoded last old new decodes in
    let there : ℕ = length old.back in
    let seen : ahead (from_base new there) true more ≡ ahead old true more = ahead-same old new there same more ∙ ahead-here old behind more in
    let items = decodes.items more ends in
    record {
      count = released-grows last old new decodes apart;
      passed = omega (arith, back-grows last old new decodes);
      left = left-same old new there same more ∙ (left-here old new decodes.came behind apart decodes.holds more (decodes.gives more ends) ∙ ap (without (known_with_cr old)) (sym (decodes.left more ends)));
      before = (is.items.0, ahead-same old new 0 same more ∙ (is.items.1 ∙ ap (items_before is.items.0) (sym seen)));
      behind = (items.0, seen ∙ items.1);
    }

pub bases-decoded : (more : List ℕ) (last : Bool) (old new : HeldView) (gone : List ℕ) → (last ≡ true → more ≡ []) → Decodes last old new → KnowsBases more old gone → KnowsBases more new gone
bases-decoded more last old new gone ends decodes is = record {
  back = omega (arith, back-grows last old new decodes, decodes.place, is.back);
  base = base-follows more old new gone (same-decoded last old new decodes) decodes.front decodes.given (decodes.left more ends) (decodes.items more ends) is.base;
  mark = subst (λ (mark : Option Mark). IfSome mark (MarkStands more new)) (sym decodes.mark)
      (either-mark (MarkStands more new) ((may_cut old.cr decodes.came || nat_eq (length old.back) 0) || comes_next old.mark) old.mark (record { count = known_with_cr old; passed = length old.back })
      (marks-follow more old new old.mark (same-decoded last old new decodes) (known-grows last old new decodes) (omega (arith, back-grows last old new decodes)) (decodes.left more ends) (decodes.items more ends) is.mark)
      (λ sets. new-mark more last old new gone ends is.back decodes (no-cut (may_cut old.cr decodes.came) (nat_eq (length old.back) 0) (comes_next old.mark) sets) is.base));
}

-- What is surely left.

-- a decoding that a refused range ends while more may come is the same where none comes
refused-while : (encoding : Encoding) (treat : Treatment) → LooksAtRange treat → (order : Order) (place : ℕ) (bytes : List ℕ) (ending : Ending) (range : ℕ × ℕ) → (walk_at encoding treat false order place bytes).ending ≡ ending → refusal_of ending ≡ Some range → walk_at encoding treat true order place bytes ≡ walk_at encoding treat false order place bytes
refused-while encoding treat looks order place bytes AtEnd range is refused = absurd (cc)
refused-while encoding treat looks order place bytes (AtCut at) range is refused = absurd (cc)
refused-while encoding treat looks order place bytes (AtRange start end) range is refused =
    let first : Walk = walk_at encoding treat false order place bytes in
    ap (walk_at encoding treat true order place) (sym (append-nil bytes))
    ∙ (sym (two encoding treat looks true order place bytes [])
    ∙ (ap (λ (e : Ending). items_before first.items (unless_refused first.order e (walk_at encoding treat true first.order (place_behind place bytes e) (unused place bytes e ++ [])))) is
    ∙ (ap (λ (e : Ending). let own : Walk = record first { items = first.items ++ []; ending = e } in own) (sym is)
    ∙ ap (λ (items : List Item). record first { items = items }) (append-nil first.items))))

-- where no range is refused, it is what is left so far
surely-open : (held : HeldView) (more : List ℕ) → refusal_of (ahead held false more).ending ≡ None → left_surely held more ≡ left_so_far held more
surely-open held more none =
    let walk : Walk = ahead held false more in
    ap (λ (stop : Option (ℕ × ℕ)). rest-of (held.known ++ read_until (is_some stop) held.newline held.cr (characters_of walk.items)) (refusal_of walk.ending)) none

-- where one is, it is what is left
surely-stopped : (held : HeldView) (more : List ℕ) (range : ℕ × ℕ) → reads_texts held.handler ≡ true → refusal_of (ahead held false more).ending ≡ Some range → left_surely held more ≡ left_with held more
surely-stopped held more range reads refused =
    let walk : Walk = ahead held false more in
    ap (λ (stop : Option (ℕ × ℕ)). rest-of (held.known ++ read_until (is_some stop) held.newline held.cr (characters_of walk.items)) (refusal_of walk.ending)) refused
    ∙ ap (λ (w : Walk). rest-of (held.known ++ read_all held.newline held.cr (characters_of w.items)) (refusal_of w.ending)) (sym (refused-while held.encoding (treatment held.handler held.encoding) (looks_at held.handler held.encoding reads) held.order held.place (held.bytes ++ more) walk.ending range refl refused))

surely-decoded : (more : List ℕ) (old new : HeldView) → reads_texts old.handler ≡ true → Decodes false old new → left_surely new more ≡ left_surely old more
surely-decoded more old new reads decodes = by-stop (refusal_of (ahead old false more).ending) refl
  where
    stop-same : refusal_of (ahead new false more).ending ≡ refusal_of (ahead old false more).ending
    stop-same = ap (λ (rest : Rest). rest.refusal) (decodes.so_far refl more)

    by-stop : (stop : Option (ℕ × ℕ)) → refusal_of (ahead old false more).ending ≡ stop → left_surely new more ≡ left_surely old more
    by-stop None is = surely-open new more (stop-same ∙ is) ∙ (decodes.so_far refl more ∙ sym (surely-open old more is))
    by-stop (Some range) is =
        surely-stopped new more range (ap reads_texts decodes.settings.handler ∙ reads) (stop-same ∙ is)
        ∙ (decodes.left more (λ last. absurd (true≢false (sym last))) ∙ sym (surely-stopped old more range reads is))

sure-base : (more : List ℕ) (old new : HeldView) (gone : List ℕ) → SameBase old new → new.front ≡ old.front → new.given ≡ old.given → left_surely new more ≡ left_surely old more → SureBase more old gone → SureBase more new gone
sure-base more old new gone same front given left is = record {
  count = is.count ∙ sym given;
  left = surely-same old new 0 same more ∙ (is.left ∙ ap (with_gone gone) (behind-front front left));
}

sure-mark : (more : List ℕ) (old new : HeldView) (mark : Option Mark) → SameBase old new → length old.back ≤ length new.back → left_surely new more ≡ left_surely old more → IfSome mark (SureMark more old) → IfSome mark (SureMark more new)
sure-mark more old new None same further left is = tt
sure-mark more old new (Some mark) same further left is = record {
  passed = omega (arith, is.passed, further);
  left = surely-same old new mark.passed same more ∙ (is.left ∙ ap (without mark.count) (sym left));
}

-- more may come behind the bytes that were decoded
pub sure-decoded : (old new : HeldView) → reads_texts old.handler ≡ true → Decodes false old new → GaveSurely old → GaveSurely new
sure-decoded old new reads decodes gave = λ more. ((gave more).0, by-bases more (gave more).0 (gave more).1)
  where
    same : SameBase old new
    same = same-decoded false old new decodes

    by-bases : (more gone : List ℕ) → SureBases more old gone → SureBases more new gone
    by-bases more gone is =
        let left = surely-decoded more old new reads decodes in
        record {
          back = omega (arith, back-grows false old new decodes, decodes.place, is.back);
          base = sure-base more old new gone same decodes.front decodes.given left is.base;
          mark = subst (λ (mark : Option Mark). IfSome mark (SureMark more new)) (sym decodes.mark)
              (either-mark (SureMark more new) ((may_cut old.cr decodes.came || nat_eq (length old.back) 0) || comes_next old.mark) old.mark (record { count = known_with_cr old; passed = length old.back })
              (sure-mark more old new old.mark same (omega (arith, back-grows false old new decodes)) left is.mark)
              (λ sets. record {
                passed = omega (arith, back-grows false old new decodes);
                left =
                    surely-same old new (length old.back) same more
                    ∙ (surely-here old new decodes.came is.back (no-cut (may_cut old.cr decodes.came) (nat_eq (length old.back) 0) (comes_next old.mark) sets) decodes.holds more (decodes.gives_so_far refl more) ∙ ap (without (known_with_cr old)) (sym left));
              }));
        }

-- A CR that was held was given as an LF.

abbrev pub released-known : HeldView → HeldView
released-known held = record held { known = held.known ++ read_all held.newline held.cr []; cr = false }

none-held : (newline : Newlines) → read_all newline false [] ≡ []
none-held rule.Universal = refl
none-held rule.Passthrough = refl
none-held rule.Lf = refl
none-held rule.Cr = refl
none-held rule.Crlf = refl

-- a refused range comes right behind it
surely-released : (more : List ℕ) (held : HeldView) → IsStopped held → left_surely (released-known held) more ≡ left_surely held more
surely-released more held stops =
    let given : List ℕ = held.known ++ read_all held.newline held.cr [] in
    let over : (known : List ℕ) (cr : Bool) → Walk → Rest = λ known cr walk. rest-of (known ++ read_until (is_some (refusal_of walk.ending)) held.newline cr (characters_of walk.items)) (refusal_of walk.ending) in
    let stopped = stops.1.so_far refl more in
    ap (over given false) stopped
    ∙ (ap (λ (cs : List ℕ). rest-of cs (Some stops.0)) (ap (λ (cs : List ℕ). given ++ cs) (none-held held.newline) ∙ append-nil given)
    ∙ sym (ap (over held.known held.cr) stopped))

pub sure-released : (held : HeldView) → IsStopped held → GaveSurely held → GaveSurely (released-known held)
sure-released held stops gave = λ more.
    let is = (gave more).1 in
    let same : SameBase held (released-known held) = record { settings = record { encoding = refl; handler = refl; newline = refl }; order = refl; base = refl; whole = refl } in
    let left = surely-released more held stops in (
      (gave more).0,
      record {
        back = is.back;
        base = sure-base more held (released-known held) (gave more).0 same refl refl left is.base;
        mark = sure-mark more held (released-known held) held.mark same (omega arith) left is.mark;
      },
    )

-- Characters were given.

-- some characters were given, and the base stands where this says
abbrev gave : (count : ℕ) → BaseMove → (room : ℕ) → HeldView → HeldView
gave count base room held = record held { known = drop count held.known; front = base.front; back = drop base.passed held.back; given = base.given; mark = base.mark; room = room }

-- the base stays
abbrev stays : HeldView → (count : ℕ) → Option Mark → BaseMove
stays held count mark = record { passed = 0; front = held.front - count; given = held.given + (count - held.front); mark = mark }

-- the characters behind the front that were given
abbrev past-front : HeldView → (count : ℕ) → List ℕ
past-front held count = take (count - held.front) (drop held.front held.known)

past-front-length : (held : HeldView) (count : ℕ) → count ≤ length held.known → length (past-front held count) ≡ count - held.front
past-front-length held count within = length-take-le (count - held.front) (drop held.front held.known) (omega (arith, within, length-drop held.front held.known))

base-stays : (more : List ℕ) (held : HeldView) (gone : List ℕ) (count room : ℕ) (mark : Option Mark) → count ≤ length held.known → KnowsBase more held gone → KnowsBase more (gave count (stays held count mark) room held) (gone ++ past-front held count)
base-stays more held gone count room mark within is =
    let sure : List ℕ = read_all held.newline held.cr (characters_of (ahead held true more).items) in
    record {
      count = omega (arith, is.count, length-append gone (past-front held count), past-front-length held count within);
      left = is.left ∙ ap (λ (cs : List ℕ). rest-of cs (refusal_of (ahead held true more).ending)) (given-behind gone held.known sure held.front count within);
      items = is.items;
    }

-- what a decoding surely gives behind what is known
abbrev surely-behind : HeldView → List ℕ → List ℕ
surely-behind held more = read_until (is_some (refusal_of (ahead held false more).ending)) held.newline held.cr (characters_of (ahead held false more).items)

sure-stays : (more : List ℕ) (held : HeldView) (gone : List ℕ) (count room : ℕ) (mark : Option Mark) → count ≤ length held.known → SureBase more held gone → SureBase more (gave count (stays held count mark) room held) (gone ++ past-front held count)
sure-stays more held gone count room mark within is = record {
  count = omega (arith, is.count, length-append gone (past-front held count), past-front-length held count within);
  left = is.left ∙ ap (λ (cs : List ℕ). rest-of cs (refusal_of (ahead held false more).ending)) (given-behind gone held.known (surely-behind held more) held.front count within);
}

abbrev nearer : ℕ → Mark → Mark
nearer count mark = record mark { count = mark.count - count }

mark-stays : (more : List ℕ) (held : HeldView) (count room : ℕ) (mark : Mark) → count ≤ length held.known → count ≤ mark.count → MarkStands more held mark → MarkStands more (gave count (stays held count (Some (nearer count mark))) room held) (nearer count mark)
mark-stays more held count room mark within before is =
    let sure : List ℕ = read_all held.newline held.cr (characters_of (ahead held true more).items) in
    record {
      count = omega (arith, is.count, length-drop count held.known);
      passed = is.passed;
      left = is.left ∙ ap (λ (cs : List ℕ). rest-of cs (refusal_of (ahead held true more).ending)) (given-to-mark held.known sure mark.count count within before);
      before = is.before;
      behind = is.behind;
    }

sure-mark-stays : (more : List ℕ) (held : HeldView) (count room : ℕ) (mark : Mark) → count ≤ length held.known → count ≤ mark.count → SureMark more held mark → SureMark more (gave count (stays held count (Some (nearer count mark))) room held) (nearer count mark)
sure-mark-stays more held count room mark within before is = record {
  passed = is.passed;
  left = is.left ∙ ap (λ (cs : List ℕ). rest-of cs (refusal_of (ahead held false more).ending)) (given-to-mark held.known (surely-behind held more) mark.count count within before);
}

-- the base moves to the mark
abbrev moves : (count : ℕ) → Mark → BaseMove
moves count mark = record { passed = mark.passed; front = 0; given = count - mark.count; mark = None }

-- the characters behind the mark that were given
abbrev past-mark : HeldView → (count : ℕ) → Mark → List ℕ
past-mark held count mark = take (count - mark.count) (drop mark.count held.known)

from-moved : (held : HeldView) (count room : ℕ) (mark : Mark) → mark.passed ≤ length held.back → IsBack held → rebased (gave count (moves count mark) room held) ≡ record (from_base held mark.passed) { room = room }
from-moved held count room mark passed behind =
    let place : (held.place - length (drop mark.passed held.back)) + 0 ≡ base_of held + mark.passed = omega (arith, passed, behind, length-drop mark.passed held.back) in
    ap (λ (p : ℕ). from-there held.encoding held.handler held.newline held.order p (drop mark.passed held.back ++ held.bytes) room) place
    ∙ ap (λ (b : List ℕ). from-there held.encoding held.handler held.newline held.order (base_of held + mark.passed) b room) (sym (drop-append-le mark.passed held.back held.bytes passed))

base-moves : (more : List ℕ) (held : HeldView) (count room : ℕ) (mark : Mark) → count ≤ length held.known → mark.count ≤ count → IsBack held → MarkStands more held mark → KnowsBase more (gave count (moves count mark) room held) (past-mark held count mark)
base-moves more held count room mark within past behind is =
    let there = from-moved held count room mark is.passed behind in
    let sure : List ℕ = read_all held.newline held.cr (characters_of (ahead held true more).items) in
    record {
      count = omega (arith, length-take-le (count - mark.count) (drop mark.count held.known) (omega (arith, within, length-drop mark.count held.known)));
      left =
          ap (λ (own : HeldView). left_with own more) there
          ∙ (is.left ∙ ap (λ (cs : List ℕ). rest-of cs (refusal_of (ahead held true more).ending)) (given-past-mark held.known sure mark.count count within past));
      items = (is.behind.0, ap (λ (at : HeldView). ahead at true more) there ∙ is.behind.1);
    }

sure-moves : (more : List ℕ) (held : HeldView) (count room : ℕ) (mark : Mark) → count ≤ length held.known → mark.count ≤ count → IsBack held → SureMark more held mark → SureBase more (gave count (moves count mark) room held) (past-mark held count mark)
sure-moves more held count room mark within past behind is = record {
  count = omega (arith, length-take-le (count - mark.count) (drop mark.count held.known) (omega (arith, within, length-drop mark.count held.known)));
  left =
      ap (λ (own : HeldView). left_surely own more) (from-moved held count room mark is.passed behind)
      ∙ (is.left ∙ ap (λ (cs : List ℕ). rest-of cs (refusal_of (ahead held false more).ending)) (given-past-mark held.known (surely-behind held more) mark.count count within past));
}

-- what is known once characters were given: the base passed some bytes, which are whole items; it moved only to where one was given since
pub record GivenOn (more : List ℕ) (held new : HeldView) : Type 0 where
  pub gone : List ℕ
  pub bases : KnowsBases more new gone
  pub passed : ℕ
  pub within : passed ≤ length held.back
  pub base : base_of new ≡ base_of held + passed
  pub whole : whole_of new ≡ drop passed (whole_of held)
  pub items : Passes (rebased held) (rebased new) more
  pub moved : (1 ≤ new.given) ⊎ ((passed ≡ 0) × (held.given ≤ new.given))

given-stays : (more : List ℕ) (held : HeldView) (gone : List ℕ) (count room : ℕ) (mark : Option Mark) → count ≤ length held.known → KnowsBases more held gone → IfSome mark (MarkStands more (gave count (stays held count mark) room held)) → GivenOn more held (gave count (stays held count mark) room held)
given-stays more held gone count room mark within is marked = record {
  gone = gone ++ past-front held count;
  bases = record { back = is.back; base = base-stays more held gone count room mark within is.base; mark = marked };
  passed = 0;
  within = omega arith;
  base = omega arith;
  whole = refl;
  items = ([], refl);
  moved = inr (refl, omega arith);
}

given-moves : (more : List ℕ) (held : HeldView) (gone : List ℕ) (count room : ℕ) (mark : Mark) → count ≤ length held.known → mark.count < count → KnowsBases more held gone → MarkStands more held mark → GivenOn more held (gave count (moves count mark) room held)
given-moves more held gone count room mark within past is own = record {
  gone = past-mark held count mark;
  bases = record {
    back = omega (arith, is.back, length-drop mark.passed held.back);
    base = base-moves more held count room mark within (omega (arith, past)) is.back own;
    mark = tt;
  };
  passed = mark.passed;
  within = own.passed;
  base = omega (arith, is.back, own.passed, length-drop mark.passed held.back);
  whole = sym (drop-append-le mark.passed held.back held.bytes own.passed);
  items = (own.before.0, own.before.1 ∙ ap (items_before own.before.0) (sym (ap (λ (at : HeldView). ahead at true more) (from-moved held count room mark own.passed is.back))));
  moved = inl (omega (arith, past));
}

-- a front of what is known was given
pub bases-given : (more : List ℕ) (held : HeldView) (gone : List ℕ) (count room : ℕ) → count ≤ length held.known → KnowsBases more held gone → GivenOn more held (record (given_on count held) { room = room })
bases-given more held gone count room within is = by-mark held.mark is.mark
  where
    by-count : (mark : Mark) (past : Bool) → nat_lt mark.count count ≡ past → MarkStands more held mark → GivenOn more held (gave count (if past then moves count mark else stays held count (Some (nearer count mark))) room held)
    by-count mark true is_past own = given-moves more held gone count room mark within (ltb-true mark.count count is_past) is own
    by-count mark false is_past own = given-stays more held gone count room (Some (nearer count mark)) within is (mark-stays more held count room mark within (ltb-false mark.count count is_past) own)

    by-mark : (mark : Option Mark) → IfSome mark (MarkStands more held) → GivenOn more held (gave count (base_behind count held.front held.given mark) room held)
    by-mark None own = given-stays more held gone count room None within is tt
    by-mark (Some mark) own = by-count mark (nat_lt mark.count count) refl own

-- so what is surely left goes on
sure-bases-given : (more : List ℕ) (held : HeldView) (gone : List ℕ) (count room : ℕ) → count ≤ length held.known → SureBases more held gone → (own : List ℕ) × SureBases more (record (given_on count held) { room = room }) own
sure-bases-given more held gone count room within is = by-mark held.mark is.mark
  where
    by-count : (mark : Mark) (past : Bool) → nat_lt mark.count count ≡ past → SureMark more held mark → (own : List ℕ) × SureBases more (gave count (if past then moves count mark else stays held count (Some (nearer count mark))) room held) own
    by-count mark true is_past own = (
      past-mark held count mark,
      record {
        back = omega (arith, is.back, length-drop mark.passed held.back);
        base = sure-moves more held count room mark within (omega (arith, ltb-true mark.count count is_past)) is.back own;
        mark = tt;
      },
    )
    by-count mark false is_past own = (
      gone ++ past-front held count,
      record {
        back = is.back;
        base = sure-stays more held gone count room (Some (nearer count mark)) within is.base;
        mark = sure-mark-stays more held count room mark within (ltb-false mark.count count is_past) own;
      },
    )

    by-mark : (mark : Option Mark) → IfSome mark (SureMark more held) → (own : List ℕ) × SureBases more (gave count (base_behind count held.front held.given mark) room held) own
    by-mark None own = (gone ++ past-front held count, record { back = is.back; base = sure-stays more held gone count room None within is.base; mark = tt })
    by-mark (Some mark) own = by-count mark (nat_lt mark.count count) refl own

pub sure-given : (held : HeldView) (count room : ℕ) → count ≤ length held.known → GaveSurely held → GaveSurely (record (given_on count held) { room = room })
sure-given held count room within gave = λ more. sure-bases-given more held (gave more).0 count room within (gave more).1

-- Bytes were put behind those in hand.

abbrev pub put-behind : HeldView → List ℕ → (room : ℕ) → HeldView
put-behind held part room = record held { bytes = held.bytes ++ part; room = room }

-- they come behind those from a place on
put-from : (held : HeldView) (part more : List ℕ) (passed : ℕ) → passed ≤ length held.back → drop passed (held.back ++ (held.bytes ++ part)) ++ more ≡ drop passed (whole_of held) ++ (part ++ more)
put-from held part more passed within =
    ap (λ (xs : List ℕ). drop passed xs ++ more) (sym (append_assoc held.back held.bytes part))
    ∙ (ap (λ (xs : List ℕ). xs ++ more) (drop-append-le passed (whole_of held) part (omega (arith, within, length-append held.back held.bytes)))
    ∙ append_assoc (drop passed (whole_of held)) part more)

-- what is left of some bytes at a place, behind what is known
abbrev left-over : HeldView → (known : List ℕ) → (cr : Bool) → (place : ℕ) → List ℕ → Rest
left-over held known cr place all =
    let walk : Walk = walk_at held.encoding (treatment held.handler held.encoding) true held.order place all in
    rest-of (known ++ read_all held.newline cr (characters_of walk.items)) (refusal_of walk.ending)

abbrev sure-over : HeldView → (known : List ℕ) → (cr : Bool) → (place : ℕ) → List ℕ → Rest
sure-over held known cr place all =
    let walk : Walk = walk_at held.encoding (treatment held.handler held.encoding) false held.order place all in
    rest-of (known ++ read_until (is_some (refusal_of walk.ending)) held.newline cr (characters_of walk.items)) (refusal_of walk.ending)

abbrev walk-over : HeldView → (place : ℕ) → List ℕ → Walk
walk-over held place all = walk_at held.encoding (treatment held.handler held.encoding) true held.order place all

mark-put : (more part : List ℕ) (held : HeldView) (room : ℕ) (mark : Mark) → MarkStands (part ++ more) held mark → MarkStands more (put-behind held part room) mark
mark-put more part held room mark is =
    let base : ℕ = base_of held in
    let there = put-from held part more mark.passed is.passed in
    let here = sym (append_assoc held.bytes part more) in
    record {
      count = is.count;
      passed = is.passed;
      left =
          ap (left-over held [] false (base + mark.passed)) there
          ∙ (is.left ∙ ap (without mark.count) (ap (left-over held held.known held.cr held.place) here));
      before = (is.before.0, ap (walk-over held (base + 0)) (put-from held part more 0 (omega arith)) ∙ (is.before.1 ∙ ap (λ (all : List ℕ). items_before is.before.0 (walk-over held (base + mark.passed) all)) (sym there)));
      behind = (is.behind.0, ap (walk-over held (base + mark.passed)) there ∙ (is.behind.1 ∙ ap (λ (all : List ℕ). items_before is.behind.0 (walk-over held held.place all)) here));
    }

-- with bytes behind them, from the base on or from a place behind it
pub ahead-put : (more part : List ℕ) (held : HeldView) (room passed : ℕ) → passed ≤ length held.back → ahead (from_base (put-behind held part room) passed) true more ≡ ahead (from_base held passed) true (part ++ more)
ahead-put more part held room passed within = ap (walk-over held (base_of held + passed)) (put-from held part more passed within)

pub bases-put : (more part : List ℕ) (held : HeldView) (gone : List ℕ) (room : ℕ) → KnowsBases (part ++ more) held gone → KnowsBases more (put-behind held part room) gone
bases-put more part held gone room is = record {
  back = is.back;
  base = record {
    count = is.base.count;
    left =
        ap (left-over held [] false (base_of held + 0)) (put-from held part more 0 (omega arith))
        ∙ (is.base.left ∙ ap (λ (rest : Rest). with_gone gone (without held.front rest)) (ap (left-over held held.known held.cr held.place) here));
    items = (is.base.items.0, ap (walk-over held (base_of held + 0)) (put-from held part more 0 (omega arith)) ∙ (is.base.items.1 ∙ ap (λ (all : List ℕ). items_before is.base.items.0 (walk-over held held.place all)) here));
  };
  mark = by-mark held.mark is.mark;
}
  where
    here : held.bytes ++ (part ++ more) ≡ (held.bytes ++ part) ++ more
    here = sym (append_assoc held.bytes part more)

    by-mark : (mark : Option Mark) → IfSome mark (MarkStands (part ++ more) held) → IfSome mark (MarkStands more (put-behind held part room))
    by-mark None own = tt
    by-mark (Some mark) own = mark-put more part held room mark own

pub sure-put : (part : List ℕ) (held : HeldView) (room : ℕ) → GaveSurely held → GaveSurely (put-behind held part room)
sure-put part held room gave = λ more. ((gave (part ++ more)).0, by-bases more (gave (part ++ more)).0 (gave (part ++ more)).1)
  where
    here : (more : List ℕ) → left_surely held (part ++ more) ≡ left_surely (put-behind held part room) more
    here more = ap (sure-over held held.known held.cr held.place) (sym (append_assoc held.bytes part more))

    there : (more : List ℕ) (passed : ℕ) → passed ≤ length held.back → left_surely (from_base (put-behind held part room) passed) more ≡ left_surely (from_base held passed) (part ++ more)
    there more passed within = ap (sure-over held [] false (base_of held + passed)) (put-from held part more passed within)

    by-mark : (more : List ℕ) (mark : Option Mark) → IfSome mark (SureMark (part ++ more) held) → IfSome mark (SureMark more (put-behind held part room))
    by-mark more None own = tt
    by-mark more (Some mark) own = record { passed = own.passed; left = there more mark.passed own.passed ∙ (own.left ∙ ap (without mark.count) (here more)) }

    by-bases : (more gone : List ℕ) → SureBases (part ++ more) held gone → SureBases more (put-behind held part room) gone
    by-bases more gone is = record {
      back = is.back;
      base = record { count = is.base.count; left = there more 0 (omega arith) ∙ (is.base.left ∙ ap (λ (rest : Rest). with_gone gone (without held.front rest)) (here more)) };
      mark = by-mark more held.mark is.mark;
    }

-- What the bytes from the base on surely give.

until-translated : (released : Bool) (newline : Newlines) (cs : List ℕ) → translated_to released newline cs ≡ read_until released newline false cs
until-translated true newline cs = refl
until-translated false newline cs = append-nil (read_so_far newline false cs)

-- it has what was given since
pub sure-told : (held : HeldView) → held.order ≡ Unknown → GaveSurely held → held.given ≤ length (surely_given held.encoding held.handler held.newline false (whole_of held))
sure-told held unknown gave =
    let gone : List ℕ = (gave []).0 in
    let base = (gave []).1.base in
    let bytes : List ℕ = whole_of held in
    let there : ℕ = base_of held + 0 in
    let walk : Order → ℕ → List ℕ → Walk = λ order place all. walk_at held.encoding (treatment held.handler held.encoding) false order place all in
    let reads : (released : Bool) → List ℕ → List ℕ = λ released cs. translated_to released held.newline cs in
    let gives : Walk → List ℕ = λ own. read_until (is_some (refusal_of own.ending)) held.newline false (characters_of own.items) in
    let near : Walk = walk Unknown 0 bytes in
    let far : Walk = walk Unknown there bytes in
    let alike = alike_anywhere held.handler held.encoding false Unknown 0 there bytes in
    let all : reads (is_some (refusal_of near.ending)) (characters_of near.items) ≡ gone ++ drop held.front (left_surely held []).characters =
    ap (λ (released : Bool). reads released (characters_of near.items)) alike.refused
    ∙ (ap (reads (is_some (refusal_of far.ending))) alike.characters
    ∙ (until-translated (is_some (refusal_of far.ending)) held.newline (characters_of far.items)
    ∙ (ap (λ (order : Order). gives (walk order there bytes)) (sym unknown)
    ∙ (ap (λ (xs : List ℕ). gives (walk held.order there xs)) (sym (append-nil bytes))
    ∙ ap (λ (rest : Rest). rest.characters) base.left)))) in
    omega (arith, base.count, ap length all, length-append gone (drop held.front (left_surely held []).characters))
