-- Private: the kinds of sessions.
use Rattle.py_open.specs.declared.session.Kind.{Kind}
use Rattle.py_open.specs.declared.session.Kind.TheVariants as kind
use Rattle.py_open.specs.Session.{SessionView, TextSession, BinarySession, IsKept}

-- what a kind of session is seen as
abbrev pub seen : {R : Type 0} → Kind R → SessionView
seen (kind.Text text) = TextSession text
seen (kind.Binary stream) = BinarySession stream

-- what holds of every session
abbrev pub IsSession : {R : Type 0} → Kind R → Type 0
IsSession kind = IsKept (seen kind)
