use Rattle.std.proofs.Common.{ap, ◌∙◌, refl}
use Rattle.py_plain_text.specs.CookieView.{cookie_shown}
use Rattle.py_read_text.specs.Knowing.{TextView}
use Rattle.py_read_text.proofs.Inside.{put_inside}
use Rattle.py_read_text.proofs.Putting.{text_roomy, text_started, text_back, started_now, inside_now, inside_is, start_is}
use Rattle.py_read_text.proofs.read_text.ReadText.go_inside.Goals as goal

pub invariant_of-self-in_err-reserve-2 : goal.invariant_of-self-in_err-reserve-2
invariant_of-self-in_err-reserve-2 g c = text_roomy _ _ _ _ _ _ _ _ c.reserve.ensures.rest c.self.invariant

pub invariant_of-self-in-Start : goal.invariant_of-self-in-Start
invariant_of-self-in-Start g c =
    text_started _ _ _ _ _ _ _ _ _ _ _ _ _ c.in-Start.fault _ _ _ c.in-Start.ensures.outcome c.start_of-start.ensures c.clear.ensures.cleared c.deref.ensures.value c.push.ensures.pushed (text_roomy _ _ _ _ _ _ _ _ c.reserve.ensures.rest c.self.invariant)

pub returns-in-Start-clause-outcome : goal.returns-in-Start-clause-outcome
returns-in-Start-clause-outcome g c = started_now _ _ _ _ _ _ c.in-Start.fault _ c.self.view_is c.requires.skips c.self.invariant.reads_by c.coder-coder.ensures.encoding c.coder-coder.ensures.handler c.in-Start.ensures.outcome refl (start_is (cookie_shown c.args.cookie.now) _ c.requires.flags c.start_of-start.ensures)

pub invariant_of-self-in-Back : goal.invariant_of-self-in-Back
invariant_of-self-in-Back g c =
    let live = ap (λ (view : TextView). view.buffer.life) c.self.view_is ∙ c.requires.live in
    text_back _ _ _ _ _ _ _ _ c.in-Back.fault live c.in-Back.ensures.outcome (text_roomy _ _ _ _ _ _ _ _ c.reserve.ensures.rest c.self.invariant)

pub invariant_of-self-in-Inside : goal.invariant_of-self-in-Inside
invariant_of-self-in-Inside g c =
    let live = ap (λ (view : TextView). view.buffer.life) c.self.view_is ∙ c.requires.live in
    put_inside _ _ c.self.inside.held c.reserve.new.self c.stand_behind.new.self _ c.self.inside.at c.self.inside.taken c.self.inside.dirty _ c.coder-coder.result (cookie_shown c.args.cookie.now) c.in-Inside.text c.in-Inside.skipped c.land.new.fed.items c.start_of-start.result c.len.result c.len-in-Inside.result c.self.invariant live c.requires.flags c.requires.skips c.coder-coder.ensures.reads c.coder-coder.ensures.encoding c.coder-coder.ensures.handler c.in-Inside.ensures.outcome c.reserve.ensures.rest c.start_of-start.ensures (c.len.ensures ∙ c.land.new.fed.ok.0) (c.len-in-Inside.ensures ∙ c.land.new.fed.ok.0) c.stand_behind.ensures.stands

pub returns-in-Inside-clause-outcome : goal.returns-in-Inside-clause-outcome
returns-in-Inside-clause-outcome g c = inside_now _ _ _ _ _ (cookie_shown c.args.cookie.now) c.in-Inside.text c.in-Inside.skipped _ c.self.view_is c.requires.skips c.requires.flags c.self.invariant.reads_by c.coder-coder.ensures.encoding c.coder-coder.ensures.handler c.in-Inside.ensures.outcome refl (inside_is _ _ _ _ _ c.in-Inside.skipped.chars c.start_of-start.ensures (c.len-in-Inside.ensures ∙ c.land.new.fed.ok.0) (c.len.ensures ∙ c.land.new.fed.ok.0))
