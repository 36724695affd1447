use Rattle.std.proofs.Common.{◌-◌, vec_len, vec_capacity, refl, sym}
use Rattle.py_text.specs.Settings.{changes_of}
use Rattle.py_textio.specs.Written.{WrittenView}
use Rattle.py_textio.proofs.Changing.{unset, set_now}
use Rattle.py_textio.proofs.written_text.WrittenText.reconfigure.Goals as goal

pub returns-in-Some : goal.returns-in-Some
returns-in-Some g c = unset c.args.self.now (changes_of c.args.changes) c.in-Some.fault c.requires.live (sym c.in-Some.ensures) c.life.ensures.joined

pub returns : goal.returns
returns g c =
    let pending = c.self.inside.pending in
    let new : WrittenView = record { text = c.reconfigure.new.self; pending = pending.items; room = vec_capacity pending - vec_len pending; life = c.self.inside.life } in
    set_now c.args.self.now _ new (changes_of c.args.changes) c.self.view_is c.requires.live (sym c.in_default.ensures) c.reconfigure.ensures.changed refl refl c.life.ensures.joined
