use Rattle.py_plain_text.specs.Cookie.{cookie_bytes}
use Rattle.py_plain_text.specs.CookieView.{cookie_shown}
use Rattle.py_script.proofs.ReplyLemmas.{cookie_small}
use Rattle.py_script.proofs.WordLaws.{seektext_line}
use Rattle.py_script.proofs.laws.answered_cookies_can_be_sought.Goals as goal

pub returns : goal.returns
returns c = seektext_line (cookie_bytes (cookie_shown c.args.cookie)) (cookie_small (cookie_shown c.args.cookie))
