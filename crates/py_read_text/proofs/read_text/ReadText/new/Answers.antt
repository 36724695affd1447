use Rattle.std.proofs.Common.{sym, ◌∙◌, subst, false}
use Rattle.py_held_text.specs.Held.{HeldView}
use Rattle.py_read_text.specs.TextState.{settings_of}
use Rattle.py_read_text.specs.Knowing.{IsText}
use Rattle.py_read_text.proofs.Beginning.{text_begun}
use Rattle.py_read_text.proofs.read_text.ReadText.new.Goals as goal

pub invariant_of-result : goal.invariant_of-result
invariant_of-result g c =
    subst (λ (held : HeldView). IsText (g.B.BufferedStream.shows c.args.buffer) held _ c.args.place 0 false (settings_of c.args.coder c.args.settings)) (sym c.new.ensures)
    (text_begun _ c.args.coder c.reading_coder-reading.result c.args.settings c.args.place c.requires.asks c.buffer_size.ensures.buffered c.requires.kept c.requires.owes c.requires.stands c.requires.far (λ can. c.reading_coder-reading.ensures.same (c.readable.ensures ∙ can)))
