use Rattle.std.proofs.Common.{◌+◌, arith}
use Rattle.py_held_text.proofs.Parts.{cut}
use Rattle.py_held_text.proofs.Lines.{last-found, last-missed, rest-place, begin-within, text-bytes}
use Rattle.py_held_text.proofs.line_search.last_line_in.Goals as goal

pub range_from-requires : goal.range_from-requires
range_from-requires c = λ some. (cut c.args.text.now c.requires.front c.requires.rest c.args.searched c.utf8.text c.requires.whole c.requires.bytes_are).boundary

pub overflow_add-result : goal.overflow_add-result
overflow_add-result c = omega (arith, begin-within c.args.text.now _ (c.args.searched + c.in-Ok.size) c.utf8.text (last-found c.args.newline _ c.args.searched c.in-Ok.size c.requires (rest-place c.args.newline c.args.text.now c.range_from.result.now c.args.searched _ c.utf8.text c.requires c.range_from.ensures.value c.in-Ok.ensures.place)))

pub returns-in-Ok : goal.returns-in-Ok
returns-in-Ok c = last-found c.args.newline _ c.args.searched c.in-Ok.size c.requires (rest-place c.args.newline c.args.text.now c.range_from.result.now c.args.searched _ c.utf8.text c.requires c.range_from.ensures.value c.in-Ok.ensures.place)

pub returns-in-Err : goal.returns-in-Err
returns-in-Err c = last-missed c.args.newline _ c.args.searched c.in-Err.field-0 _ c.requires (rest-place c.args.newline c.args.text.now c.range_from.result.now c.args.searched _ c.utf8.text c.requires c.range_from.ensures.value c.in-Err.ensures.place) (text-bytes c.args.text.now c.utf8.text)
