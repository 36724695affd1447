use Rattle.std.proofs.Common.{ap, chars, false, ◌∙◌, sym}
use Rattle.std.proofs.lemmas.Str.{chars-nil}
use Rattle.py_flat.specs.Calls.{Text}
use Rattle.py_textio.proofs.Nothing.{reads_none}
use Rattle.py_textio.proofs.written_text.WrittenText.read.Goals as goal

pub returns-then-asks_none : goal.returns-then-asks_none
returns-then-asks_none g c = reads_none c.args.self.now c.args.wanted _ false c.requires.live c.requires.reads (sym c.asks_none.ensures ∙ c.if-asks_none.true) (ap Text (ap chars c.new.ensures.bytes ∙ chars-nil)) c.life.ensures.joined
