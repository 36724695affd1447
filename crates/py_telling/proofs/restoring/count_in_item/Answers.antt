use Rattle.std.proofs.Common.{inl, inr}
use Rattle.py_telling.proofs.Walking.{seen_refused, seen_unfinished}
use Rattle.py_telling.proofs.Feeding.{count_character, count_replaced, count_part, count_part_replaced, count_none}
use Rattle.py_telling.proofs.restoring.count_in_item.Goals as goal

pub returns-then-used-bytes : goal.returns-then-used-bytes
returns-then-used-bytes c = λ order place.
    let shows = rw c.in-Character.is at (c.first_seen.ensures.shown order place) in
    let within = rw c.in-Character.is at c.first_seen.ensures.within in
    count_character c.args.encoding c.args.handler c.args.last order place c.args.bytes.now c.in-Character.character c.in-Character.used within.0 c.if-used-bytes.true shows

pub returns-else-used-bytes : goal.returns-else-used-bytes
returns-else-used-bytes c = λ order place.
    let shows = rw c.in-Character.is at (c.first_seen.ensures.shown order place) in
    let within = rw c.in-Character.is at c.first_seen.ensures.within in
    count_part c.args.encoding c.args.handler c.args.last order place c.args.bytes.now c.in-Character.character c.in-Character.used c.requires.some within.0 c.if-used-bytes.false shows

pub returns-then-used-bytes-2 : goal.returns-then-used-bytes-2
returns-then-used-bytes-2 c = λ order place.
    let shows = rw c.in-Replaced.is at (c.first_seen.ensures.shown order place) in
    let within = rw c.in-Replaced.is at c.first_seen.ensures.within in
    count_replaced c.args.encoding c.args.handler c.args.last order place c.args.bytes.now c.in-Replaced.count c.in-Replaced.used within.0 c.if-used-bytes-2.true shows

pub returns-else-used-bytes-2 : goal.returns-else-used-bytes-2
returns-else-used-bytes-2 c = λ order place.
    let shows = rw c.in-Replaced.is at (c.first_seen.ensures.shown order place) in
    let within = rw c.in-Replaced.is at c.first_seen.ensures.within in
    count_part_replaced c.args.encoding c.args.handler c.args.last order place c.args.bytes.now c.in-Replaced.count c.in-Replaced.used c.requires.some within.0 c.if-used-bytes-2.false shows

pub returns-in-Refused : goal.returns-in-Refused
returns-in-Refused c = λ order place.
    elim c.in-Refused.is [
      | inl refused ↦ (let shows = rw refused at (c.first_seen.ensures.shown order place) in count_none c.args.encoding c.args.handler c.args.last order place c.args.bytes.now (seen_refused _ shows))
      | inr unfinished ↦ (let shows = rw unfinished at (c.first_seen.ensures.shown order place) in count_none c.args.encoding c.args.handler c.args.last order place c.args.bytes.now (seen_unfinished _ shows))
    ]
