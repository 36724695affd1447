use Rattle.std.proofs.Common.{◌≡◌, ◌≤◌, ◌∙◌, ◌-◌, ◌+◌, ◌++◌, List, ℕ, length, take, drop, replicate, chars, vec_len, ap, arith}
use Rattle.std.proofs.lemmas.List.{take_at, take_all}
use Rattle.py_raw.proofs.Lay.{lay_widened}
use Rattle.py_memio.proofs.characters.lay_text.Goals as goal

pub returns : goal.returns
returns c =
    let old : List ℕ = c.args.characters.now.items in
    let place : ℕ = c.args.place in
    let laid : List ℕ = chars c.args.text.now in
    let wide : List ℕ = c.as_mut_slice.result.now in
    let whole : length c.overwrite.new.characters ≡ c.resize.new.self.len = omega (arith, c.overwrite.auto.characters, c.as_mut_slice.ensures.len) in
    let reach : ℕ = c.max.result in
    let kept : take reach old ≡ old = take_all reach old (omega arith) in
    let size : ℕ = vec_len c.args.characters.now in
    let gap : reach - size ≡ place + length laid - length old = omega arith in
    let is : wide ≡ old ++ replicate (place + length laid - length old) 0 =
    c.as_mut_slice.ensures.value
    ∙ c.in_ok-resize.ensures.items
    ∙ ap (λ (t : List ℕ). t ++ replicate (reach - size) 0) kept
    ∙ ap (λ (n : ℕ). old ++ replicate n 0) gap in
    let some : 1 ≤ length laid = omega arith in
    take_at _ _ _ whole
    ∙ c.overwrite.ensures
    ∙ ap (λ (n : ℕ). take place wide ++ laid ++ drop (place + n) wide) c.requires.counted
    ∙ lay_widened old place laid wide some is
