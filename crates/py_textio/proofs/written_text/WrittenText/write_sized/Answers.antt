use Rattle.std.proofs.Common.{◌≡◌, ◌⊎◌, ◌≤◌, ◌<◌, ℕ, ◌+◌, inl, inr, chars, length, Ok, Err, sym, ap, ◌∙◌, arith}
use Rattle.py_flat.specs.Limits.{greatest_place}
use Rattle.py_plain_text.specs.TextFile.{TextSettings}
use Rattle.py_plain_text.specs.TextWriting.{written_bytes}
use Rattle.py_textio.proofs.Writing.{may_write, write_far, put_is, put_some, unput, hand_at, keeps_at, once_at, written_all, written_on, written_not}
use Rattle.py_textio.proofs.Settling.{then_second}
use Rattle.py_textio.proofs.written_text.WrittenText.write_sized.Goals as goal

-- a size that is past the room for it is told exactly
past : (at bytes exact : ℕ) → (at + bytes ≤ greatest_place) ⊎ (bytes ≡ exact) → greatest_place < at + bytes → greatest_place < at + exact
past at bytes exact (inl fits) far = omega (arith, fits, far)
past at bytes exact (inr is) far = omega (arith, is, far)

pub returns-in_default : goal.returns-in_default
returns-in_default g c =
    write_far c.args.self.now (chars c.args.text.now) c.requires.live c.requires.writes c.requires.clean c.requires.whole (past _ _ _ c.requires.bytes c.in_default.ensures) c.life.ensures.joined

pub returns-in-Ok-hand_on : goal.returns-in-Ok-hand_on
returns-in-Ok-hand_on g c =
    let may = may_write c.args.self.now (chars c.args.text.now) c.requires.live c.requires.writes c.requires.clean c.requires.whole (omega (arith, c.requires.most, c.in-Some.ensures.1)) in
    let back = c.in-Ok.ensures.outcome in
    let put = put_is c.args.self.now c.go_back.new.self c.put.new.self (chars c.args.text.now) back c.in-Ok-put.ensures.put in
    written_all c.args.self.now c.go_back.new.self c.hand_on.new.self (chars c.args.text.now) c.put.new.self.room c.in-Ok-put.bytes c.args.size.chars may back c.requires.chars (hand_at c.put.new.self _ c.hand_on.new.self c.in-Ok-put.bytes c.flushes-flushes.result _ (Ok c.in-Ok-hand_on.field-0) put c.flushes-flushes.ensures c.in-Ok-hand_on.ensures.outcome) (keeps_at c.put.new.self _ c.hand_on.new.self c.flushes-flushes.result _ (Ok c.in-Ok-hand_on.field-0) put c.flushes-flushes.ensures c.in-Ok-hand_on.ensures.keeps) (once_at c.put.new.self _ c.hand_on.new.self c.flushes-flushes.result _ (Ok c.in-Ok-hand_on.field-0) put c.flushes-flushes.ensures c.in-Ok-hand_on.ensures.once) c.in-Ok-hand_on.ensures.joined

pub returns-in-Err-hand_on : goal.returns-in-Err-hand_on
returns-in-Err-hand_on g c =
    let may = may_write c.args.self.now (chars c.args.text.now) c.requires.live c.requires.writes c.requires.clean c.requires.whole (omega (arith, c.requires.most, c.in-Some.ensures.1)) in
    let back = c.in-Ok.ensures.outcome in
    let put = put_is c.args.self.now c.go_back.new.self c.put.new.self (chars c.args.text.now) back c.in-Ok-put.ensures.put in
    written_on c.args.self.now c.go_back.new.self c.hand_on.new.self (chars c.args.text.now) c.put.new.self.room c.in-Ok-put.bytes c.in-Err-hand_on.fault may back (c.in-Ok-put.ensures.count ∙ ap (λ (settings : TextSettings). length (written_bytes settings (chars c.args.text.now))) back.hands.settings) (hand_at c.put.new.self _ c.hand_on.new.self c.in-Ok-put.bytes c.flushes-flushes.result _ (Err c.in-Err-hand_on.fault) put c.flushes-flushes.ensures c.in-Err-hand_on.ensures.outcome) c.in-Err-hand_on.ensures.joined

pub returns-in-Err : goal.returns-in-Err
returns-in-Err g c =
    let may = may_write c.args.self.now (chars c.args.text.now) c.requires.live c.requires.writes c.requires.clean c.requires.whole (omega (arith, c.requires.most, c.in-Some.ensures.1)) in
    written_not c.args.self.now c.go_back.new.self (chars c.args.text.now) c.in-Err.fault may c.in-Err.ensures.outcome c.in-Err.ensures.joined

pub hand_on-requires-clause-some : goal.hand_on-requires-clause-some
hand_on-requires-clause-some g c =
    let counts = c.in-Ok-put.ensures.count ∙ ap (λ (settings : TextSettings). length (written_bytes settings (chars c.args.text.now))) c.in-Ok.ensures.outcome.hands.settings in
    λ flushes. put_some c.args.self.now (chars c.args.text.now) c.in-Ok-put.bytes counts c.requires.whole (then_second _ _ (sym c.flushes-flushes.ensures ∙ flushes))

pub returns-in-Err-put : goal.returns-in-Err-put
returns-in-Err-put g c =
    let may = may_write c.args.self.now (chars c.args.text.now) c.requires.live c.requires.writes c.requires.clean c.requires.whole (omega (arith, c.requires.most, c.in-Some.ensures.1)) in
    unput c.args.self.now c.go_back.new.self c.put.new.self (chars c.args.text.now) c.in-Err-put.fault may c.in-Ok.ensures.outcome c.in-Err-put.ensures.memory c.in-Err-put.ensures.same c.in-Ok.ensures.joined
