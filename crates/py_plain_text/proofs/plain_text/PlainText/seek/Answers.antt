use Rattle.std.proofs.Common.{◌≡◌, subst, sym, ◌∙◌}
use Rattle.std.specs.Int.{w64}
use Rattle.std.proofs.lemmas.Int.{to_z-of_z}
use Rattle.py_flat.specs.Calls.{Refused}
use Rattle.py_flat.specs.declared.fault.IoFault.TheVariants as fault
use Rattle.py_plain_text.specs.TextFile.{TextFile}
use Rattle.py_plain_text.specs.Cookie.{Cookie}
use Rattle.py_plain_text.specs.CookieView.{cookie_shown}
use Rattle.py_plain_text.specs.Landing.{lands}
use Rattle.py_plain_text.specs.TextCalls.{SeekText}
use Rattle.py_plain_text.specs.TextExact.{text_sought}
use Rattle.py_plain_text.specs.PlainSteps.{place_shown, PlainStep}
use Rattle.py_plain_text.specs.PlainCookies.{cookie_reply, landed_by}
use Rattle.py_plain_text.proofs.PlainAnswers.{seek_refused, seek_starved, lands_as, sought_as, seek_done}
use Rattle.py_plain_text.proofs.plain_text.PlainText.seek.Goals as goal

pub returns-in-Some : goal.returns-in-Some
returns-in-Some c =
    let counts = to_z-of_z w64 c.args.whence c.ranges.whence in
    let is = sym (c.seek_fault.ensures c.self.inside.settings c.self.inside.place) ∙ c.in-Some.is in
    subst (λ (f : TextFile). PlainStep f (SeekText c.args.cookie.now c.args.whence) (Refused c.in-Some.fault) f) c.self.view_is
    (seek_refused c.self.inside c.deref.result.now c.args.cookie.now c.args.whence _ c.in-Some.fault c.if-self.false c.deref.ensures.value counts is)

pub returns-in_default-sought : goal.returns-in_default-sought
returns-in_default-sought c =
    let counts = to_z-of_z w64 c.args.whence c.ranges.whence in
    let free = sym (c.seek_fault.ensures c.self.inside.settings c.self.inside.place) ∙ c.in_default.is in
    subst (λ (f : TextFile). PlainStep f (SeekText c.args.cookie.now c.args.whence) (Refused fault.NoMemory) f) c.self.view_is
    (seek_starved c.self.inside c.deref.result.now c.args.cookie.now c.args.whence _ c.if-self.false c.deref.ensures.value counts free)

pub returns-in_default-lands : goal.returns-in_default-lands
returns-in_default-lands c =
    let counts = to_z-of_z w64 c.args.whence c.ranges.whence in
    let free = sym (c.seek_fault.ensures c.self.inside.settings c.self.inside.place) ∙ c.in_default.is in
    subst (λ (f : TextFile). PlainStep f (SeekText c.args.cookie.now c.args.whence) (Refused fault.NoMemory) f) c.self.view_is
    (seek_starved c.self.inside c.deref.result.now c.args.cookie.now c.args.whence _ c.if-self.false c.deref.ensures.value counts free)

pub put-requires-clause-lands : goal.put-requires-clause-lands
put-requires-clause-lands c =
    let sought : Cookie = cookie_shown c.in-Ok.sought in
    let here = lands_as c.self.inside c.deref-3.result.now sought c.deref-3.ensures.value ∙ c.in-Ok-lands.ensures.lands c.self.inside.place in
    subst (λ (f : TextFile). lands f sought ≡ landed_by c.in-Ok-lands.landing.1 (place_shown c.in-Ok-lands.landing.0)) c.self.view_is here

pub returns : goal.returns
returns c =
    let sought : Cookie = cookie_shown c.in-Ok.sought in
    let counts = to_z-of_z w64 c.args.whence c.ranges.whence in
    let free = sym (c.seek_fault.ensures c.self.inside.settings c.self.inside.place) ∙ c.in_default.is in
    let is = c.in-Ok.ensures.cookie ∙ sought_as c.self.inside c.deref-2.result.now c.args.cookie.now c.args.whence _ c.deref-2.ensures.value counts in
    let came = subst (λ (f : TextFile). (cookie_reply c.put.result, c.put.new.self) ≡ text_sought f sought) (sym c.self.view_is) c.put.ensures in
    subst (λ (f : TextFile). PlainStep f (SeekText c.args.cookie.now c.args.whence) (cookie_reply c.put.result) c.put.new.self) c.self.view_is
    (seek_done c.self.inside c.deref.result.now c.args.cookie.now c.args.whence _ sought (cookie_reply c.put.result) c.put.new.self c.if-self.false c.deref.ensures.value counts free is came)
