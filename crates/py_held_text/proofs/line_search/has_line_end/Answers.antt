use Rattle.std.proofs.Common.{sym}
use Rattle.py_held_text.proofs.Parts.{cut}
use Rattle.py_held_text.proofs.Lines.{ends-found, ends-missed, rest-place}
use Rattle.py_held_text.proofs.line_search.has_line_end.Goals as goal

pub range_from-requires : goal.range_from-requires
range_from-requires c = λ some. (cut c.args.text.now c.requires.front c.requires.rest c.args.searched c.utf8.text c.requires.whole c.requires.bytes_are).boundary

pub returns-in-Ok : goal.returns-in-Ok
returns-in-Ok c = sym (ends-found c.args.newline _ c.args.searched c.in-Ok.field-0 c.requires (rest-place c.args.newline c.args.text.now c.range_from.result.now c.args.searched _ c.utf8.text c.requires c.range_from.ensures.value c.in-Ok.ensures.place))

pub returns-in-Err : goal.returns-in-Err
returns-in-Err c = sym (ends-missed c.args.newline _ c.args.searched c.in-Err.field-0 c.requires (rest-place c.args.newline c.args.text.now c.range_from.result.now c.args.searched _ c.utf8.text c.requires c.range_from.ensures.value c.in-Err.ensures.place))
