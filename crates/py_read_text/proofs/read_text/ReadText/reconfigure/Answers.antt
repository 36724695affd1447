use Rattle.std.proofs.Common.{sym, ap, ◌∙◌, subst, unwrap_or}
use Rattle.py_text.specs.Settings.{changes_of}
use Rattle.py_read_text.specs.Knowing.{TextView, IsSetTo}
use Rattle.py_read_text.proofs.Changing.{set_to, set_read, set_unread}
use Rattle.py_read_text.proofs.read_text.ReadText.reconfigure.Goals as goal
use Rattle.py_read_text.proofs.read_text.ReadText.reconfigure.Goals.{then-changes_reading, else-changes_reading}

pub returns-clause-changed : goal.returns-clause-changed
returns-clause-changed g c =
    let given = c.args.changes in
    let coder = c.coder_after-coder.ensures in
    let settings = c.settings_after-settings.ensures in
    let lines = settings.lines ∙ ap (λ (view : TextView). unwrap_or given.line_buffering view.settings.line_buffering) c.self.view_is in
    let through = settings.through ∙ ap (λ (view : TextView). unwrap_or given.write_through view.settings.write_through) c.self.view_is in
    elim c.if-changes_reading.branch [
      | then-changes_reading w ↦ set_read c.args.self.now _ _ (changes_of given) c.coder_after-coder.result c.settings_after-settings.result.newline _ _
          (subst (IsSetTo (set_to c.args.self.now.settings c.coder_after-coder.result c.settings_after-settings.result.newline) c.args.self.now) (sym w.self-is) w.read_as.ensures)
          c.write_as.ensures.set
          (coder.encoding ∙ ap (λ (view : TextView). unwrap_or given.encoding view.settings.encoding) c.self.view_is)
          (coder.errors ∙ ap (λ (view : TextView). unwrap_or given.errors view.settings.handler) c.self.view_is)
          (settings.newline ∙ ap (λ (view : TextView). unwrap_or given.newline view.settings.newline) c.self.view_is)
          lines through
      | else-changes_reading w ↦ set_unread c.args.self.now _ _ (changes_of given) _ _ (sym c.changes_reading.ensures ∙ w.if-changes_reading.false) w.self-is c.write_as.ensures.set lines through
    ]
