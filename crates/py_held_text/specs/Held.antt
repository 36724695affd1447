-- What a text stream has in hand: characters that it knows, and bytes that it took and hasn't decoded yet.
use Rattle.std.specs.Prelude.{ℕ, ◌+◌, ◌-◌, ◌*◌, ◌≤◌, nat_eq, nat_lt, Bool, true, false, ◌||◌, List, [], ◌++◌, length, take, drop, Option, Some, None, IfSome, is_some, if◌then◌else◌}
use Rattle.py_flat.specs.Limits.{greatest_place}
use Rattle.py_plain.specs.declared.encoding.Encoding.{Encoding}
use Rattle.py_plain.specs.declared.handler.Handler.{Handler}
use Rattle.py_plain.specs.declared.newlines.Newlines.{Newlines}
use Rattle.py_plain.specs.Units.{Order, Unknown}
use Rattle.py_plain.specs.Handlers.{treatment}
use Rattle.py_plain.specs.Items.{Walk, characters_of, refusal_of}
use Rattle.py_plain.specs.Pieces.{walk_at}
use Rattle.py_plain.specs.NewlineRule.{read_so_far, read_all}
use Rattle.py_plain_text.specs.Rest.{Rest}
use Rattle.py_text.specs.declared.coder.Coder.{Coder}
use Rattle.py_held_text.specs.declared.base.Mark.{Mark}
use Rattle.py_held_text.specs.declared.base.BaseMove.{BaseMove}
use Rattle.py_held_text.specs.Known.{KnownView}

-- how the bytes are read; the characters that are known and not given; whether a CR is held behind them, which the next
-- character releases; the front, how many of the known characters stand before the base, since the text was put inside an item; the bytes
-- that were decoded since the base, a boundary between items, how many characters were given since, and a later base that is to come;
-- whether a decoding knew that no bytes come behind those in hand; the bytes behind them that aren't decoded, the place of the first of
-- those in the stream, and the order that they are read in; and for how many bytes more there is room
pub record HeldView : Type 0 where
  pub encoding : Encoding
  pub handler : Handler
  pub newline : Newlines
  pub known : List ℕ
  pub cr : Bool
  pub front : ℕ
  pub back : List ℕ
  pub given : ℕ
  pub mark : Option Mark
  pub ended : Bool
  pub bytes : List ℕ
  pub place : ℕ
  pub order : Order
  pub room : ℕ

-- of some bytes those that are decoded, but for the first few, which stand before the base
abbrev pub back_of : (gone decoded : ℕ) → List ℕ → List ℕ
back_of gone decoded bytes = take (decoded - gone) (drop gone bytes)

-- what is in hand, by its parts: so many of the known characters stand before the base; of some bytes the first n are decoded, and of these
-- the first few stand before the base
abbrev pub view_of : Coder → KnownView → (front gone decoded : ℕ) → List ℕ → (given : ℕ) → Option Mark → (ended : Bool) → (place room : ℕ) → HeldView
view_of coder known front gone decoded bytes given mark ended place room = record { encoding = coder.encoding; handler = coder.errors; newline = known.newline; known = known.characters; cr = known.cr; front = front; back = back_of gone decoded bytes; given = given; mark = mark; ended = ended; bytes = drop decoded bytes; place = place; order = Unknown; room = room }

-- nothing is in hand, at a place of the stream
abbrev pub nothing_held : Coder → Newlines → (place room : ℕ) → HeldView
nothing_held coder newline place room = record { encoding = coder.encoding; handler = coder.errors; newline = newline; known = []; cr = false; front = 0; back = []; given = 0; mark = None; ended = false; bytes = []; place = place; order = Unknown; room = room }

-- nothing is in hand any more, at another place of the stream
abbrev pub cleared : HeldView → (place room : ℕ) → HeldView
cleared held place room = record held { known = []; cr = false; front = 0; back = []; given = 0; mark = None; ended = false; bytes = []; place = place; order = Unknown; room = room }

-- The base.

-- all bytes from the base on
abbrev pub whole_of : HeldView → List ℕ
whole_of held = held.back ++ held.bytes

-- the place of the base in the stream
abbrev pub base_of : HeldView → ℕ
base_of held = held.place - length held.back

-- all bytes from the base on are in hand again and none is decoded, to be read by other settings
abbrev pub held_anew : Coder → Newlines → HeldView → HeldView
held_anew coder newline held = record { encoding = coder.encoding; handler = coder.errors; newline = newline; known = []; cr = false; front = 0; back = []; given = 0; mark = None; ended = false; bytes = whole_of held; place = base_of held; order = Unknown; room = held.room }

-- whether the next character stands behind a mark
abbrev pub comes_next : Option Mark → Bool
comes_next None = false
comes_next (Some mark) = nat_eq mark.count 0

-- the mark once more is decoded, by how many characters are known here and how many bytes stand between the base and here: it is set here,
-- unless this may be inside a CR LF, as `cut` says, or is the base, or the base moves to the mark that there is with the next character
abbrev pub mark_by : Option Mark → (cut : Bool) → (count passed : ℕ) → Option Mark
mark_by mark cut count passed = if (cut || nat_eq passed 0) || comes_next mark then mark else Some (record { count = count; passed = passed })

-- where the base stands once n characters more were given: where one of them stands behind the mark, there, and then no known character
-- stands before it; else where it stood, and those of the front don't count as given since
abbrev pub base_behind : (count front given : ℕ) → Option Mark → BaseMove
base_behind count front given None = record { passed = 0; front = front - count; given = given + (count - front); mark = None }
base_behind count front given (Some mark) =
    if nat_lt mark.count count then record { passed = mark.passed; front = 0; given = count - mark.count; mark = None }
    else record { passed = 0; front = front - count; given = given + (count - front); mark = Some (record mark { count = mark.count - count }) }

-- n characters were given: they aren't known any more, nor do they stand before the base, which moves to a mark that one of them stands
-- behind
abbrev pub given_on : ℕ → HeldView → HeldView
given_on count held =
    let base : BaseMove = base_behind count held.front held.given held.mark in
    record held { known = drop count held.known; front = base.front; back = drop base.passed held.back; given = base.given; mark = base.mark }

-- a mark stands among the known characters and the bytes that were decoded since the base, never at the base, and behind it stand at most
-- six characters for each of those bytes
pub record IsMark (known back : ℕ) (cr : Bool) (mark : Mark) : Type 0 where
  pub count : mark.count ≤ known
  pub some : 1 ≤ mark.passed
  pub passed : mark.passed ≤ back
  pub few : known + (if cr then 1 else 0) + 6 * mark.passed ≤ mark.count + 6 * back

-- of n bytes the first m are decoded, and of these the first few stand before the base; those behind them, which stand at a place, end no
-- further than a stream can. The front is of known characters; besides it at most six characters were given and are known for each byte
-- since the base, and so it is with the mark
pub record IsHeld (total gone decoded place known front given : ℕ) (cr : Bool) (mark : Option Mark) : Type 0 where
  pub from : gone ≤ decoded
  pub within : decoded ≤ total
  pub behind : decoded ≤ place + gone
  pub near : place + total ≤ greatest_place + decoded
  pub among : front ≤ known
  pub few : given + known + (if cr then 1 else 0) ≤ front + 6 * (decoded - gone)
  pub marked : IfSome mark (IsMark known (decoded - gone) cr)

-- What is left.

-- the decoding of the bytes in hand and of those that come behind them; `last` says that none come behind those
abbrev pub ahead : HeldView → (last : Bool) → List ℕ → Walk
ahead held last more = walk_at held.encoding (treatment held.handler held.encoding) last held.order held.place (held.bytes ++ more)

-- what is left of a text: what is known, then the newline rule over the decoding of what is in hand and comes behind it
abbrev pub left_with : HeldView → List ℕ → Rest
left_with held more = record {
  characters = held.known ++ read_all held.newline held.cr (characters_of (ahead held true more).items);
  refusal = refusal_of (ahead held true more).ending;
}

-- what is surely left while more may come: a CR that it ends with isn't counted under the universal rule
abbrev pub left_so_far : HeldView → List ℕ → Rest
left_so_far held more = record {
  characters = held.known ++ read_so_far held.newline held.cr (characters_of (ahead held false more).items);
  refusal = refusal_of (ahead held false more).ending;
}

-- what a rule gives behind a held CR, if one is held; `released` says that one that is held then is given as an LF
abbrev pub read_until : (released : Bool) → Newlines → (cr : Bool) → List ℕ → List ℕ
read_until true newline cr cs = read_all newline cr cs
read_until false newline cr cs = read_so_far newline cr cs

-- what is surely left while more may come, with the CR that a refused range comes right behind
abbrev pub left_surely : HeldView → List ℕ → Rest
left_surely held more = record {
  characters = held.known ++ read_until (is_some (refusal_of (ahead held false more).ending)) held.newline held.cr (characters_of (ahead held false more).items);
  refusal = refusal_of (ahead held false more).ending;
}
