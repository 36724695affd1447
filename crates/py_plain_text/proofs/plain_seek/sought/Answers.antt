use Rattle.py_plain_text.specs.PlainCookies.{text_at}
use Rattle.py_plain_text.proofs.PlainRefusals.{accepted_sound}
use Rattle.py_plain_text.proofs.plain_seek.sought.Goals as goal

pub returns-in_default-clause-sound : goal.returns-in_default-clause-sound
returns-in_default-clause-sound c =
    accepted_sound (text_at c.args.bytes.now c.args.settings c.args.place.now) c.args.cookie.now c.args.whence c.cookie_of.result c.requires.accepted c.cookie_of.ensures
