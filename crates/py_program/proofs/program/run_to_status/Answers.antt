use Rattle.std.proofs.Common.{sym, refl, ap, ◌∙◌, subst, List, ℕ, Option, Some, option_map}
use Rattle.py_script.specs.declared.command.Command.{Command as Seen}
use Rattle.py_script.specs.CommandWords.{Help, Version, command_shown}
use Rattle.py_script.specs.Help.{help_text, version_text}
use Rattle.py_program.specs.Outside.{texts, PrintOutcome}
use Rattle.py_program.proofs.OwnTexts.{text_printed}
use Rattle.py_program.proofs.program.run_to_status.Goals as goal

pub returns-in-Ok-Some-Help-clause-outcome : goal.returns-in-Ok-Some-Help-clause-outcome
returns-in-Ok-Some-Help-clause-outcome g c =
    text_printed (texts c.args.words.now) Help help_text (g.I.Source.shows c.args.script.now) (g.O.Opener.shows c.args.opener.now) (g.K.Sink.shows c.args.out.now) (g.K.Sink.shows c.print_text.new.out) c.print_text.result c.status_of.result
    (sym c.in-Ok-Some-Help.ensures ∙ ap (λ (command : Option Seen). option_map command_shown command) (c.in-Ok-Some-Help.field-0-is ∙ ap Some c.in-Ok-Some-Help.field-0-0-is)) refl c.print_text.ensures.keeps
    (subst (λ (text : List ℕ). PrintOutcome (g.K.Sink.shows c.args.out.now) text c.print_text.result (g.K.Sink.shows c.print_text.new.out)) c.help_text.ensures.value c.print_text.ensures.outcome)
    c.print_text.ensures.memory c.status_of.ensures

pub returns-in-Ok-Some-Version-clause-outcome : goal.returns-in-Ok-Some-Version-clause-outcome
returns-in-Ok-Some-Version-clause-outcome g c =
    text_printed (texts c.args.words.now) Version version_text (g.I.Source.shows c.args.script.now) (g.O.Opener.shows c.args.opener.now) (g.K.Sink.shows c.args.out.now) (g.K.Sink.shows c.print_text-in-Ok-Some-Version.new.out) c.print_text-in-Ok-Some-Version.result c.status_of-in-Ok-Some-Version.result
    (sym c.in-Ok-Some-Version.ensures ∙ ap (λ (command : Option Seen). option_map command_shown command) (c.in-Ok-Some-Version.field-0-is ∙ ap Some c.in-Ok-Some-Version.field-0-0-is)) refl c.print_text-in-Ok-Some-Version.ensures.keeps
    (subst (λ (text : List ℕ). PrintOutcome (g.K.Sink.shows c.args.out.now) text c.print_text-in-Ok-Some-Version.result (g.K.Sink.shows c.print_text-in-Ok-Some-Version.new.out)) c.version_text.ensures c.print_text-in-Ok-Some-Version.ensures.outcome)
    c.print_text-in-Ok-Some-Version.ensures.memory c.status_of-in-Ok-Some-Version.ensures
