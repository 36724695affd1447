use Rattle.std.proofs.Common.{ap, ◌∙◌}
use Rattle.std.specs.Fmt.{is_char_start}
use Rattle.std.specs.List.{count_by}
use Rattle.py_blocks.proofs.Beginning.{count-chars}
use Rattle.py_text.proofs.measuring.character_count.Goals as goal

pub returns : goal.returns
returns c = c.count_starts.ensures ∙ (ap (count_by is_char_start) c.as_bytes.ensures.value ∙ count-chars c.args.text.now c.utf8.text)
