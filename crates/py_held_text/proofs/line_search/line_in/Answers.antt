use Rattle.std.proofs.Common.{◌+◌, ◌∙◌, sym, arith}
use Rattle.py_held_text.proofs.Parts.{cut}
use Rattle.py_held_text.proofs.Lines.{last-found, in-hand, goes-on, not-in-hand, rest-place, begin-within, searched-within, text-bytes}
use Rattle.py_held_text.proofs.line_search.line_in.Goals.{else-end-text-via-then-end-text+else-may_go_on, else-end-text-via-else-end-text}
use Rattle.py_held_text.proofs.line_search.line_in.Goals as goal

pub range_from-requires : goal.range_from-requires
range_from-requires c = λ some. (cut c.args.text.now c.requires.front c.requires.rest c.args.searched.now c.utf8.text c.requires.whole c.requires.bytes_are).boundary

pub overflow_add-end : goal.overflow_add-end
overflow_add-end c = omega (arith, begin-within c.args.text.now _ (c.args.searched.now + c.in-Ok.size) c.utf8.text (last-found c.args.newline _ c.args.searched.now c.in-Ok.size c.requires (rest-place c.args.newline c.args.text.now c.range_from.result.now c.args.searched.now _ c.utf8.text c.requires c.range_from.ensures.value c.in-Ok.ensures.place)))

pub overflow_add-searched : goal.overflow_add-searched
overflow_add-searched c = omega (arith, searched-within c.args.text.now (c.args.searched.now + c.in-Err.further) c.utf8.text (not-in-hand c.args.newline _ c.args.searched.now c.in-Err.further c.requires (rest-place c.args.newline c.args.text.now c.range_from.result.now c.args.searched.now _ c.utf8.text c.requires c.range_from.ensures.value c.in-Err.ensures.place)).1)

pub returns-then-may_go_on-clause-line : goal.returns-then-may_go_on-clause-line
returns-then-may_go_on-clause-line c = goes-on c.args.newline _ c.args.searched.now c.in-Ok.size c.requires (rest-place c.args.newline c.args.text.now c.range_from.result.now c.args.searched.now _ c.utf8.text c.requires c.range_from.ensures.value c.in-Ok.ensures.place) (c.if-end-text.true ∙ text-bytes c.args.text.now c.utf8.text) (sym c.may_go_on.ensures ∙ c.if-may_go_on.true)

pub returns-else-end-text-clause-line : goal.returns-else-end-text-clause-line
returns-else-end-text-clause-line c = in-hand c.args.newline _ c.args.searched.now c.in-Ok.size c.requires (rest-place c.args.newline c.args.text.now c.range_from.result.now c.args.searched.now _ c.utf8.text c.requires c.range_from.ensures.value c.in-Ok.ensures.place)
    (elim c.else-end-text.branch [
      | else-end-text-via-then-end-text+else-may_go_on w ↦ λ reaches. sym w.may_go_on.ensures ∙ w.if-may_go_on.false
      | else-end-text-via-else-end-text w ↦ λ reaches. absurd (w.if-end-text.false (reaches ∙ sym (text-bytes c.args.text.now c.utf8.text)))
    ])

pub returns-in-Err-clause-line : goal.returns-in-Err-clause-line
returns-in-Err-clause-line c = (not-in-hand c.args.newline _ c.args.searched.now c.in-Err.further c.requires (rest-place c.args.newline c.args.text.now c.range_from.result.now c.args.searched.now _ c.utf8.text c.requires c.range_from.ensures.value c.in-Err.ensures.place)).0

pub returns-in-Err-clause-searched : goal.returns-in-Err-clause-searched
returns-in-Err-clause-searched c = (not-in-hand c.args.newline _ c.args.searched.now c.in-Err.further c.requires (rest-place c.args.newline c.args.text.now c.range_from.result.now c.args.searched.now _ c.utf8.text c.requires c.range_from.ensures.value c.in-Err.ensures.place)).1
