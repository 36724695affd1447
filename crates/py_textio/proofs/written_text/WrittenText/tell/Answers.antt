use Rattle.std.proofs.Common.{◌≡◌, ◌≢◌, ◌-◌, [], vec_len, vec_capacity, rules, arith}
use Rattle.py_plain_text.specs.CookieView.{cookie_shown}
use Rattle.py_plain_text.proofs.Building.{FieldsFit}
use Rattle.py_textio.proofs.Settling.{some_pending}
use Rattle.py_textio.proofs.Telling.{none_pending, tells_read, tells_owed}
use Rattle.py_textio.proofs.written_text.WrittenText.tell.Goals as goal

pub returns-then-is_empty-clause-tells : goal.returns-then-is_empty-clause-tells
returns-then-is_empty-clause-tells g c =
    let pending = c.self.inside.pending in
    let none : pending.items ≡ [] = none_pending _ pending.items (omega arith) c.if-is_empty.ensures in
    let fit : FieldsFit (cookie_shown c.cookie.result) = record { start_pos = search rules; dec_flags = search rules; bytes_to_feed = search rules; chars_to_skip = search rules; bytes_to_skip = search rules } in
    tells_read _ _ pending.items (vec_capacity pending - vec_len pending) c.self.inside.life c.tell.result c.cookie.result c.self.view_is c.requires.live c.self.invariant.0 none fit c.cookie.ensures c.tell.ensures.told c.tell.ensures.forth c.tell.ensures.fits c.tell.ensures.within.length

pub returns-clause-tells : goal.returns-clause-tells
returns-clause-tells g c =
    let pending = c.self.inside.pending in
    let some : pending.items ≢ [] = some_pending _ pending.items (omega arith) c.if-is_empty.ensures in
    let fit : FieldsFit (cookie_shown c.cookie-2.result) = record { start_pos = search rules; dec_flags = search rules; bytes_to_feed = search rules; chars_to_skip = search rules; bytes_to_skip = search rules } in
    tells_owed _ _ pending.items (vec_capacity pending - vec_len pending) c.self.inside.life _ c.cookie-2.result c.self.view_is c.self.invariant.0 some fit c.cookie-2.ensures (omega (arith, c.at.ensures, c.len.ensures))
