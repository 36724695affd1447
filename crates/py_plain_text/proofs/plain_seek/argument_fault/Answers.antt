use Rattle.std.proofs.Common.{rules, ◌≡◌, ◌≤◌, None, length, refl}
use Rattle.py_flat.specs.Limits.{greatest_place}
use Rattle.py_plain_text.specs.TextRefusals.{whence_refusal}
use Rattle.py_plain_text.specs.PlainCookies.{text_at}
use Rattle.py_plain_text.proofs.PlainRefusals.{arguments_refused}
use Rattle.py_plain_text.proofs.plain_seek.argument_fault.Goals as goal

pub returns-in-0-to-2 : goal.returns-in-0-to-2
returns-in-0-to-2 c = λ settings place.
    let reach : length c.args.bytes.now ≤ greatest_place = search rules in
    let known : None ≡ whence_refusal c.args.whence = search rules in
    arguments_refused (text_at c.args.bytes.now settings place) c.args.cookie.now c.args.whence None c.cookie_fault.result known refl (c.cookie_fault.ensures settings.encoding) reach
