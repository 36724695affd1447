use Rattle.std.proofs.Common.{◌≡◌, ◌≢◌, ◌≤◌, not, None, ap, ◌∙◌, subst, arith}
use Rattle.py_plain.specs.Handlers.{reads_texts}
use Rattle.py_plain_text.specs.Telling.{told}
use Rattle.py_telling.specs.ToldView.{told_shown}
use Rattle.py_stream.specs.Buffer.{WhereShown}
use Rattle.py_read_text.specs.Knowing.{TextView, front_told, front_shown, shown_file}
use Rattle.py_read_text.proofs.Telling.{shown_inside, put_inside, tells_taken, tells_inside}
use Rattle.py_read_text.proofs.read_text.ReadText.tell.Goals as goal
use Rattle.py_read_text.proofs.read_text.ReadText.tell.Goals.{else-is_none-via-then-is_none+else-self-eq0, else-is_none-via-else-is_none}

pub returns-then-front-gt0-clause-told : goal.returns-then-front-gt0-clause-told
returns-then-front-gt0-clause-told g c =
    let live = ap (λ (view : TextView). view.buffer.life) c.self.view_is ∙ c.requires.live in
    let reads = subst (λ (handler : _). reads_texts handler ≡ _) c.coder.ensures.handler c.coder.ensures.reads in
    let some : 1 ≤ c.self.inside.held.front = omega (arith, c.front.ensures, c.if-front-gt0.true) in
    let put = put_inside c.self.inside.inside _ c.unwrap_or-put.result _ _ _ c.unwrap_or-put.ensures c.self.invariant.inside some in
    let seen : TextView = record { buffer = _; held = c.self.inside.held; front = front_shown c.self.inside.inside; at = c.self.inside.at; taken = c.self.inside.taken; dirty = c.self.inside.dirty; settings = _ } in
    subst (λ (view : TextView). WhereShown view.buffer (told_shown c.further.result ≡ told (shown_file view))) c.self.view_is
    (tells_inside seen c.further.result (front_told c.unwrap_or-put.result) c.self.invariant live put.0 some reads c.further.ensures.start c.further.ensures.length c.further.ensures.skipped)

pub returns-clause-told : goal.returns-clause-told
returns-clause-told g c =
    let live = ap (λ (view : TextView). view.buffer.life) c.self.view_is ∙ c.requires.live in
    let reads = subst (λ (handler : _). reads_texts handler ≡ _) c.coder.ensures.handler c.coder.ensures.reads in
    let some : front_shown c.self.inside.inside ≡ None → c.self.inside.taken ≢ 0 = elim c.else-is_none.branch [
      | else-is_none-via-then-is_none+else-self-eq0 w ↦ λ none. w.if-self-eq0.false
      | else-is_none-via-else-is_none w ↦ λ none. absurd (shown_inside c.self.inside.inside (c.is_none.ensures ∙ ap not w.if-is_none.false) none)
    ] in
    let none : c.self.inside.held.front ≡ 0 = omega (arith, c.front.ensures, c.if-front-gt0.false) in
    let seen : TextView = record { buffer = _; held = c.self.inside.held; front = front_shown c.self.inside.inside; at = c.self.inside.at; taken = c.self.inside.taken; dirty = c.self.inside.dirty; settings = _ } in
    subst (λ (view : TextView). WhereShown view.buffer (told_shown c.tell.result ≡ told (shown_file view))) c.self.view_is
    (tells_taken seen c.tell.result c.self.invariant live some none reads c.tell.ensures.told c.tell.ensures.sure)
