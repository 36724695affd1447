-- What comes of printing a text of the program's own.
use Rattle.std.proofs.Common.{◌≡◌, ◌≢◌, ℕ, inr, List, Some, Result, Ok, Err, MatchResult, refl, sym, subst}
use Rattle.py_raw.specs.Source.{SourceView}
use Rattle.py_raw.specs.Sink.{SinkView, SinkKeeps}
use Rattle.py_raw.specs.Opener.{OpenerView}
use Rattle.py_script.specs.CommandWords.{Command, command_of}
use Rattle.py_program.specs.declared.status.Status.{Status}
use Rattle.py_program.specs.declared.status.Status.TheVariants as status
use Rattle.py_program.specs.Outside.{PrintOutcome}
use Rattle.py_program.specs.Outcome.{own_text, TextPrinted, PrintsText, Outcome}

prints_text : (words : List (List ℕ)) (command : Command) (text : List ℕ) (ended : Status) (source : SourceView) (opener : OpenerView) (old new : SinkView) → command_of words ≡ Some command → own_text command ≡ Some text → SinkKeeps old new → TextPrinted text ended old new → PrintsText words ended source source (record { opener = opener; sink = old }) (record { opener = opener; sink = new })
prints_text words command text ended source opener old new form asked keeps prints = record { command = command; form = form; text = text; asked = asked; source = refl; opener = refl; sink = keeps; prints = prints }

pub text_printed : (words : List (List ℕ)) (command : Command) (text : List ℕ) (source : SourceView) (opener : OpenerView) (old new : SinkView) (printed : Result (Unit {0}) Status) (ended : Status) → command_of words ≡ Some command → own_text command ≡ Some text → SinkKeeps old new → PrintOutcome old text printed new → printed ≢ Err status.NoMemory → MatchResult printed (λ done. ended ≡ status.Done) (λ stop. ended ≡ stop) → Outcome ended words source source (record { opener = opener; sink = old }) (record { opener = opener; sink = new })
text_printed words command text source opener old new (Ok done) ended form asked keeps prints had is =
    subst (λ (last : Status). Outcome last words source source (record { opener = opener; sink = old }) (record { opener = opener; sink = new })) (sym is) (inr (prints_text words command text status.Done source opener old new form asked keeps prints))
text_printed words command text source opener old new (Err status.SinkFailed) ended form asked keeps prints had is =
    subst (λ (last : Status). Outcome last words source source (record { opener = opener; sink = old }) (record { opener = opener; sink = new })) (sym is) (inr (prints_text words command text status.SinkFailed source opener old new form asked keeps prints))
text_printed words command text source opener old new (Err status.NoMemory) ended form asked keeps prints had is = absurd (had refl)
text_printed words command text source opener old new (Err status.Done) ended form asked keeps prints had is = absurd prints
text_printed words command text source opener old new (Err status.WordsMalformed) ended form asked keeps prints had is = absurd prints
text_printed words command text source opener old new (Err status.ScriptMalformed) ended form asked keeps prints had is = absurd prints
text_printed words command text source opener old new (Err status.Refused) ended form asked keeps prints had is = absurd prints
text_printed words command text source opener old new (Err status.SourceFailed) ended form asked keeps prints had is = absurd prints
text_printed words command text source opener old new (Err status.OpenerFailed) ended form asked keeps prints had is = absurd prints
