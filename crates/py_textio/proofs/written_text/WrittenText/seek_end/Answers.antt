use Rattle.std.proofs.Common.{◌≡◌, false, pos, sym, ap, subst}
use Rattle.py_plain_text.specs.Cookie.{Cookie, boundary_cookie, is_buildable}
use Rattle.py_plain_text.specs.CookieView.{cookie_shown}
use Rattle.py_read_text.specs.Seeking.{Seeks}
use Rattle.py_read_text.specs.Answers.{cookie_reply}
use Rattle.py_textio.specs.Written.{state_of}
use Rattle.py_textio.proofs.Ends.{sought_behind_end, seeks_at_end, end_stops}
use Rattle.py_textio.proofs.Seeking.{builds_by}
use Rattle.py_textio.proofs.written_text.WrittenText.seek_end.Goals as goal

pub returns-in-Ok-clause-answers : goal.returns-in-Ok-clause-answers
returns-in-Ok-clause-answers g c =
    let says = c.in-Ok.ensures.outcome in
    let is : cookie_shown c.cookie.result ≡ boundary_cookie c.in-Ok.end 0 = c.cookie.ensures in
    sought_behind_end c.args.self.now c.bytes_end.new.self c.in-Ok.end c.args.cookie.now (cookie_reply c.seek_to.result) _ c.requires.moves.live c.life.ensures.joined c.requires.accepted says
    (c.seek_to.ensures.answers c.args.cookie.now (pos 2) (subst (λ (goal : Cookie). Seeks (state_of c.bytes_end.new.self false) c.args.cookie.now (pos 2) goal) (sym is) (seeks_at_end c.args.self.now c.bytes_end.new.self c.in-Ok.end c.args.cookie.now c.requires.accepted says)))

pub returns-in-Ok-clause-builds : goal.returns-in-Ok-clause-builds
returns-in-Ok-clause-builds g c =
    let is : cookie_shown c.cookie.result ≡ boundary_cookie c.in-Ok.end 0 = c.cookie.ensures in
    builds_by c.seek_to.result _ c.seek_to.ensures.goal (ap is_buildable is)

pub returns-in-Err-clause-answers : goal.returns-in-Err-clause-answers
returns-in-Err-clause-answers g c = end_stops c.args.self.now c.bytes_end.new.self c.args.cookie.now c.in-Err.fault c.requires.moves.live (c.life.ensures.lives c.requires.moves.live) c.in-Err.ensures.joined c.requires.accepted c.in-Err.ensures.outcome
