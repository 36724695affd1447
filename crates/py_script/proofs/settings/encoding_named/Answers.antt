use Rattle.std.proofs.Common.{chars, ◌∙◌}
use Rattle.py_script.proofs.SettingLemmas.{probed}
use Rattle.py_script.proofs.settings.encoding_named.Goals as goal

pub returns-in-Ok : goal.returns-in-Ok
returns-in-Ok c = c.probed_encoding.ensures ∙ probed c.in_ok-registry.registry (chars c.args.name.now) c.in-Ok.probe c.in_ok-registry.ensures c.in-Ok.ensures
