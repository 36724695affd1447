use Rattle.std.proofs.Common.{◌≡◌, ◌+◌, ◌-◌, ◌≤◌, Result, Ok, ℕ, List, Option, Some, None, true, [], length, take, drop, vec_len, vec_capacity, refl, sym, ap, subst, ◌∙◌, arith}
use Rattle.std.proofs.lemmas.List.{length-drop, length-take, drop-drop}
use Rattle.py_flat.specs.declared.fault.IoFault.{IoFault}
use Rattle.py_held_text.specs.declared.held_stop.HeldStop.{HeldStop}
use Rattle.py_held_text.specs.declared.held_stop.HeldStop.TheVariants as stop
use Rattle.py_plain.specs.Items.{characters_of}
use Rattle.py_plain.specs.NewlineRule.{holds_after}
use Rattle.py_held_text.specs.Held.{HeldView, view_of, back_of}
use Rattle.py_held_text.specs.Known.{KnownView, reading}
use Rattle.py_held_text.specs.Plain.{known_of, IsShared, IsPlainPart}
use Rattle.py_held_text.specs.Decodes.{known_with_cr, PartOutcome}
use Rattle.py_held_text.proofs.Decoded.{part-all, lacks-drained, lacks-refused, lacks-none}
use Rattle.py_held_text.proofs.Backing.{back-length, held-more}
use Rattle.py_held_text.proofs.Keeping.{moves-by, keeps-decoded, walked-known}
use Rattle.py_held_text.proofs.Holding.{refused-within, marked-by, part-items, drained-by, refuses-by, all-of}
use Rattle.py_held_text.proofs.Plain.{wholly, ok-any}
use Rattle.py_held_text.proofs.Storing.{stored-known}
use Rattle.py_held_text.proofs.held_text.HeldText.decode_part.Goals.{in-Refused, in-Drained+then-is_all, in-Drained+else-is_all, in-Wanted}
use Rattle.py_held_text.proofs.held_text.HeldText.decode_part.Goals as goal

pub overflow_add-result : goal.overflow_add-result
overflow_add-result c =
    let bytes = drop c.self.inside.decoded c.deref.result.now in
    let range = refused-within c.self.inside.coder c.args.last c.args.want (take c.args.size bytes) c.in_ok-decoded.decoded.front c.in-Refused.start c.in-Refused.end c.in_ok-decoded.ensures.part c.in-Refused.is in
    omega (arith, range.0, range.1, c.self.invariant.0.1.within, c.self.invariant.0.1.near, length-take c.args.size bytes, length-drop c.self.inside.decoded c.deref.result.now, c.deref.ensures.len)

pub overflow_add-result-in-Refused : goal.overflow_add-result-in-Refused
overflow_add-result-in-Refused c =
    let bytes = drop c.self.inside.decoded c.deref.result.now in
    let range = refused-within c.self.inside.coder c.args.last c.args.want (take c.args.size bytes) c.in_ok-decoded.decoded.front c.in-Refused.start c.in-Refused.end c.in_ok-decoded.ensures.part c.in-Refused.is in
    omega (arith, range.0, range.1, c.self.invariant.0.1.within, c.self.invariant.0.1.near, length-take c.args.size bytes, length-drop c.self.inside.decoded c.deref.result.now, c.deref.ensures.len)

pub invariant_of-self : goal.invariant_of-self
invariant_of-self c =
    let inside = c.self.inside in
    stored-known inside.coder inside.known c.decode_known.new.known inside.plain c.decode_known.new.plain inside.front inside.gone inside.decoded (vec_len inside.bytes) inside.bytes.items c.deref.result.now inside.given inside.mark inside.ended inside.place inside.walked c.deref.ensures.value c.in_err-decoded.ensures.same c.in_err-decoded.ensures.still c.self.invariant

pub invariant_of-self-2 : goal.invariant_of-self-2
invariant_of-self-2 c =
    let inside = c.self.inside in
    let items = inside.bytes.items in
    let bytes = drop inside.decoded c.deref.result.now in
    let used = c.in_ok-decoded.decoded.front.used in
    let known : KnownView = known_of inside.known inside.plain.bytes inside.decoded items in
    let after : KnownView = known_of c.decode_known.new.known c.decode_known.new.plain.bytes (inside.decoded + used) items in
    let part_within : used ≤ length (take c.args.size bytes) = omega (arith, c.in_ok-decoded.ensures.within, c.requires.within, ap (λ (held : HeldView). length held.bytes) c.self.view_is, length-take c.args.size bytes, length-drop inside.decoded c.deref.result.now, length-drop inside.decoded items, ap length c.deref.ensures.value) in
    let within : inside.decoded + used ≤ vec_len inside.bytes = omega (arith, part_within, c.self.invariant.0.1.within, length-take c.args.size bytes, length-drop inside.decoded c.deref.result.now, c.deref.ensures.len) in
    let bytes_are : bytes ≡ drop inside.decoded items = ap (drop inside.decoded) c.deref.ensures.value in
    let came : List ℕ = characters_of (part-items inside.coder c.args.last c.args.want (take c.args.size bytes)) in
    let after_is : after ≡ reading known came = subst (λ (b : List ℕ). known_of c.decode_known.new.known c.decode_known.new.plain.bytes (inside.decoded + used) b ≡ reading (known_of inside.known inside.plain.bytes inside.decoded b) came) c.deref.ensures.value c.in_ok-decoded.ensures.reading in
    let count_is = c.known_with_cr-count.ensures.count ∙ ap known_with_cr (sym c.self.view_is) in
    let holds = subst (λ (held : HeldView). holds_after held.newline held.cr [] ≡ held.cr) (sym c.self.view_is) c.known_with_cr-count.ensures.holds in
    let now_is : c.next_mark-self-inside.result ≡ marked-by inside.mark known came (back_of inside.gone inside.decoded items) = c.next_mark-self-inside.ensures ∙ rw (c.in_ok-decoded.ensures.cut, count_is, back-length inside.gone inside.decoded items c.self.invariant.0.1.from (omega (arith, c.self.invariant.0.1.within, inside.bytes.ok))) refl in
    let seen : c.args.self.now.bytes ≡ bytes = ap (λ (held : HeldView). held.bytes) (sym c.self.view_is) ∙ sym bytes_are in
    let all : c.args.last ≡ true → c.args.size ≡ length bytes = λ last. c.requires.all last ∙ ap length seen in
    let moves = moves-by inside.coder known after inside.front inside.gone inside.decoded inside.given inside.mark c.next_mark-self-inside.result inside.ended c.is_ended-ended.result items bytes c.args.size inside.place 0 c.args.want c.args.last c.in_ok-decoded.decoded.front c.self.invariant.0.0.0 holds all c.in_ok-decoded.ensures.part after_is part_within c.self.invariant.0.1.from bytes_are now_is c.is_ended-ended.ensures in (
      (
        (
          c.self.invariant.0.0.0,
          keeps-decoded c.args.last _ _ c.self.invariant.0.0.0 moves c.self.invariant.0.0.1,
          walked-known inside.coder known after inside.gone inside.given items inside.walked (ap (λ (known : KnownView). known.newline) after_is) c.self.invariant.0.0.2,
        ),
        held-more known after came inside.mark c.next_mark-self-inside.result c.in_ok-decoded.decoded.cut (vec_len inside.bytes) inside.gone inside.decoded used inside.place inside.front inside.given _ _ c.self.invariant.0.1 holds after_is (omega (arith, c.in_ok-decoded.ensures.part.few, c.in_ok-decoded.ensures.part.chars)) within c.next_mark-self-inside.ensures c.in_ok-decoded.ensures.cut count_is refl,
      ),
      subst (IsShared c.decode_known.new.known c.decode_known.new.plain (inside.decoded + used)) c.deref.ensures.value c.in_ok-decoded.ensures.shared,
    )

pub returns-clause-used : goal.returns-clause-used
returns-clause-used c = λ is.
    let inside = c.self.inside in
    let items = inside.bytes.items in
    let bytes = drop inside.decoded c.deref.result.now in
    let bytes_are : bytes ≡ drop inside.decoded items = ap (drop inside.decoded) c.deref.ensures.value in
    let shown = subst (λ (held : HeldView). IsPlainPart held.encoding held.newline c.args.want (take c.args.size held.bytes)) (sym c.self.view_is) (c.requires.plain is) in
    let plain = subst (λ (b : List ℕ). IsPlainPart inside.coder.encoding inside.known.newline c.args.want (take c.args.size b)) (sym bytes_are) shown in
    let whole = wholly inside.coder.errors inside.coder.encoding c.args.last c.args.want (take c.args.size bytes) plain.is_utf8 plain.utf8 plain.few in
    let used : c.in_ok-decoded.decoded.front.used ≡ length (take c.args.size bytes) = c.in_ok-decoded.ensures.part.used ∙ whole.used in
    ok-any c.match-front.result
    (omega (arith, used, c.requires.within, length-take c.args.size bytes, ap length bytes_are, length-drop inside.decoded items, length-drop (inside.decoded + c.in_ok-decoded.decoded.front.used) items, ap (λ (held : HeldView). length held.bytes) c.self.view_is))

pub returns-clause-outcome : goal.returns-clause-outcome
returns-clause-outcome c =
    let coder = c.self.inside.coder in
    let items = c.self.inside.bytes.items in
    let from = c.self.inside.decoded in
    let known : KnownView = known_of c.self.inside.known c.self.inside.plain.bytes from items in
    let bytes = drop from c.deref.result.now in
    let decoded = c.in_ok-decoded.decoded.front in
    let after : KnownView = known_of c.decode_known.new.known c.decode_known.new.plain.bytes (from + decoded.used) items in
    let rest = drop (from + decoded.used) items in
    let front = c.self.inside.front in
    let gone = c.self.inside.gone in
    let given = c.self.inside.given in
    let mark = c.self.inside.mark in
    let ended = c.self.inside.ended in
    let ended_now = c.is_ended-ended.result in
    let back_now = back_of gone (from + decoded.used) items in
    let part = c.in_ok-decoded.ensures.part in
    let within : decoded.used ≤ length (take c.args.size bytes) = omega (arith, c.in_ok-decoded.ensures.within, c.requires.within, ap (λ (held : HeldView). length held.bytes) c.self.view_is, length-take c.args.size bytes, length-drop from c.deref.result.now, length-drop from items, ap length c.deref.ensures.value) in
    let room = vec_capacity c.self.inside.bytes - vec_len c.self.inside.bytes in
    let place = c.self.inside.place in
    let bytes_are : bytes ≡ drop from items = ap (drop from) c.deref.ensures.value in
    let rest_is : rest ≡ drop decoded.used bytes = sym (drop-drop decoded.used from items) ∙ ap (drop decoded.used) (sym bytes_are) in
    let now = c.next_mark-self-inside.result in
    let came : List ℕ = characters_of (part-items coder c.args.last c.args.want (take c.args.size bytes)) in
    let after_is : after ≡ reading known came = subst (λ (b : List ℕ). known_of c.decode_known.new.known c.decode_known.new.plain.bytes (from + decoded.used) b ≡ reading (known_of c.self.inside.known c.self.inside.plain.bytes from b) came) c.deref.ensures.value c.in_ok-decoded.ensures.reading in
    let count_is = c.known_with_cr-count.ensures.count ∙ ap known_with_cr (sym c.self.view_is) in
    let holds = subst (λ (held : HeldView). holds_after held.newline held.cr [] ≡ held.cr) (sym c.self.view_is) c.known_with_cr-count.ensures.holds in
    let now_is : now ≡ marked-by mark known came (back_of gone from items) = c.next_mark-self-inside.ensures ∙ rw (c.in_ok-decoded.ensures.cut, count_is, back-length gone from items c.self.invariant.0.1.from (omega (arith, c.self.invariant.0.1.within, c.self.inside.bytes.ok))) refl in
    let seen : c.args.self.now.bytes ≡ bytes = ap (λ (held : HeldView). held.bytes) (sym c.self.view_is) ∙ sym bytes_are in
    let all : c.args.last ≡ true → c.args.size ≡ length bytes = λ last. c.requires.all last ∙ ap length seen in
    let new : HeldView = view_of coder after front gone (from + decoded.used) items given now ended_now (place + decoded.used) room in
    let moves = moves-by coder known after front gone from given mark now ended ended_now items bytes c.args.size place room c.args.want c.args.last decoded c.self.invariant.0.0.0 holds all part after_is within c.self.invariant.0.1.from bytes_are now_is c.is_ended-ended.ensures in
    let shown : (result : Result (Option HeldStop) IoFault) → PartOutcome c.args.last c.args.size c.args.want (view_of coder known front gone from items given mark ended place room) result new → PartOutcome c.args.last c.args.size c.args.want c.args.self.now result new = λ result outcome.
    subst (λ (old : HeldView). PartOutcome c.args.last c.args.size c.args.want old result new) c.self.view_is outcome in
    let total : length bytes ≡ c.len.result - from = omega (arith, length-drop from c.deref.result.now, c.deref.ensures.len, c.len.ensures) in
    elim c.match-front.branch [
      | in-Refused w ↦ subst (λ (result : Result (Option HeldStop) IoFault). PartOutcome c.args.last c.args.size c.args.want c.args.self.now result new) (sym w.result-is)
          (shown (Ok (Some (stop.Refused (place + w.in-Refused.start) (place + w.in-Refused.end)))) (
            moves,
            refuses-by coder after front back_now given now ended_now bytes rest c.args.size place room c.args.want c.args.last decoded w.in-Refused.start w.in-Refused.end c.self.invariant.0.0.0 all part (part-all c.args.want _ _ decoded part (lacks-refused _ _ w.in-Refused.start w.in-Refused.end (sym part.stop ∙ w.in-Refused.is))) within rest_is w.in-Refused.is,
          ))
      | in-Drained+then-is_all w ↦
          let is : c.args.size ≡ length bytes = w.if-is_all.true ∙ sym total in
          subst (λ (result : Result (Option HeldStop) IoFault). PartOutcome c.args.last c.args.size c.args.want c.args.self.now result new) (sym w.result-is)
          (shown (Ok (Some stop.Drained)) (
            moves,
            (let whole = all-of coder c.args.last c.args.want bytes c.args.size decoded is part in
                drained-by coder after front back_now given now ended_now bytes rest place room c.args.want c.args.last decoded whole (part-all c.args.want _ _ decoded whole (lacks-drained _ _ (sym part.stop ∙ w.in-Drained.is))) (omega (arith, within, length-take c.args.size bytes)) rest_is w.in-Drained.is),
          ))
      | in-Drained+else-is_all w ↦ subst (λ (result : Result (Option HeldStop) IoFault). PartOutcome c.args.last c.args.size c.args.want c.args.self.now result new) (sym w.result-is)
          (shown (Ok None) (moves, λ is. absurd (w.if-is_all.false (is ∙ (sym (ap length bytes_are) ∙ total)))))
      | in-Wanted w ↦ subst (λ (result : Result (Option HeldStop) IoFault). PartOutcome c.args.last c.args.size c.args.want c.args.self.now result new) (sym w.result-is)
          (shown (Ok None) (
            moves,
            λ is.
                let none = lacks-none _ _ (sym part.stop ∙ w.in-Wanted.is) in
                record {
                  some = omega (arith, none, c.requires.some, part.few, within, length-take c.args.size bytes, ap length rest_is, ap length bytes_are, length-drop decoded.used bytes);
                  fits = omega (arith, none, part.fits);
                },
          ))
    ]
