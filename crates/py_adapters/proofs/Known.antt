-- What a call of a stream does to what std knows of it.
use Rattle.std.proofs.Common.{◌≡◌, ℕ, ◌+◌, ◌-◌, ◌<◌, ◌≤◌, ℤ, Bool, true, false, ◌&&◌, IsTrue, List, [], ◌++◌, length, take, drop, Option, Some, None, Result, Ok, Err, IfErr, refl, sym, ap, ◌∙◌, subst, le_refl, append_assoc, take-append-drop, arith}
use Rattle.std.proofs.lemmas.List.{append-nil, length-append, length-drop, length-take-le, take_at, take_rest, drop-drop, drop_at, drop_all}
use Rattle.std.proofs.lemmas.Slice.{take-put_mid_below}
use Rattle.std.proofs.KnownBytes.{Appends-kept, Consumes-trans}
use borrow.Rule.Slice.PartMut.{put_mid}
use lib.Seq.{take-add}
use Rattle.std.specs.Io.{WritesAtMost}
use Rattle.std.specs.Io.KnownBytes.{Keeps, Appends, Consumes, ReadConsumes, WriteAppends}
use Rattle.std.specs.IoError.{error_kind}
use Rattle.std.specs.declared.io.ErrorKind.TheVariants as kind
use Rattle.std.specs.declared.io.Error.{Error}
use Rattle.py_flat.specs.declared.fault.IoFault.{IoFault}
use Rattle.py_flat.specs.declared.fault.IoFault.TheVariants as fault
use Rattle.py_flat.specs.Bytes.{filled_to, lay}
use Rattle.py_flat.specs.Calls.{FileCall, FileReply, Count, Refused, ReadInto1, Write, Seek, Flush}
use Rattle.py_flat.specs.ExactStep.{rest}
use Rattle.py_flat.specs.Conversions.{kind_of}
use Rattle.py_raw.specs.RawStream.{tells}
use Rattle.py_raw.proofs.Telling.{tells_still}
use Rattle.py_stream.specs.Stream.{Stream, file_of}
use Rattle.py_stream.specs.Kinds.{says_fault}
use Rattle.py_stream.specs.Replies.{into_reply, count_reply}
use Rattle.py_stream.specs.Writing.{LaysTaken}
use Rattle.py_stream.specs.Answers.{Answers}
use Rattle.py_stream.specs.Buffer.{Buffer, flat_of, stream_shown, AnswersAsBuffer}
use Rattle.py_adapters.specs.Known.{if_told, left_in, bytes_in, written_in, GivesNext, TakesFront}
use Rattle.py_adapters.specs.Answers.{AnsweredBy, MadeBy, SaysRead, SaysWritten}
use Rattle.py_adapters.proofs.Told.{reading_gives, flush_keeps, flush_still, seek_keeps, laid_grows}

-- Where bytes are told: of those that aren't nothing is claimed.

gives_none : (size : ℕ) (reply : FileReply) → GivesNext None size reply None
gives_none size reply = grind arith

gives_if : (was is : Bool) (before after : List ℕ) (size : ℕ) (reply : FileReply) → is ≡ was → (IsTrue was → GivesNext (Some before) size reply (Some after)) → GivesNext (if_told was before) size reply (if_told is after)
gives_if true true before after size reply same so = so refl
gives_if true false before after size reply same so = absurd (cc)
gives_if false false before after size reply same so = gives_none size reply
gives_if false true before after size reply same so = absurd (cc)

pub keeps_if : (was is : Bool) (before after : List ℕ) → is ≡ was → (IsTrue was → after ≡ before) → Keeps (if_told was before) (if_told is after)
keeps_if true true before after same so = so refl
keeps_if true false before after same so = absurd (cc)
keeps_if false is before after same so = tt

appends_if : (was is : Bool) (before after own : List ℕ) → is ≡ was → (IsTrue was → after ≡ before ++ own) → Appends (if_told was before) (if_told is after) own
appends_if true true before after own same so = so refl
appends_if true false before after own same so = absurd (cc)
appends_if false is before after own same so = tt

-- Readings.

still : (before : Stream) (size : ℕ) (reply : FileReply) (after : Stream) → Answers before (ReadInto1 size) reply after → reply ≡ Refused fault.RawFault → after.place ≡ before.place
still before size reply after answers says = let moves = answers.moves.place in grind arith

-- a stream gives the next of its bytes
pub stream_gives : (before : Stream) (size : ℕ) (reply : FileReply) (after : Stream) → Answers before (ReadInto1 size) reply after → GivesNext (left_in before) size reply (left_in after)
stream_gives before size reply after answers =
    gives_if (tells before.raw) (tells after.raw) (rest (file_of before)) (rest (file_of after)) size reply (tells_still before.raw after.raw answers.keeps.raw)
    (λ told. reading_gives (file_of before) size reply after.short (says_fault reply) (file_of after) (answers.told told) (still before size reply after answers))

-- what is given is what std's reading consumes
pub consumes : (before after : Option (List ℕ)) (old new : List ℕ) (came : Result (Option ℕ) IoFault) (result : Result ℕ Error) → length new ≡ length old → GivesNext before (length old) (into_reply came new) after → SaysRead came result → ReadConsumes before after result new
consumes before after old new (Ok (Some count)) (Ok said) same gives says = (rw says gives.0, λ none some. gives.1 (ap (λ (n : ℕ). take n new) (sym says ∙ none)) (omega arith))
consumes before after old new (Ok (Some count)) (Err error) same gives says = absurd says
consumes before after old new (Ok None) (Ok said) same gives says = absurd says
consumes before after old new (Ok None) (Err error) same gives says = gives
consumes before after old new (Err why) (Ok said) same gives says = absurd says
consumes before after old new (Err why) (Err error) same gives says = gives

-- what std's reading says in each of its arms

pub says_some : (came : Result (Option ℕ) IoFault) (result : Result ℕ Error) (count : ℕ) → came ≡ Ok (Some count) → result ≡ Ok count → SaysRead came result
says_some came result count is says = rw is (rw says refl)

pub says_wait : (came : Result (Option ℕ) IoFault) (result : Result ℕ Error) (error : Error) → came ≡ Ok None → result ≡ Err error → error_kind error ≡ kind.WouldBlock → SaysRead came result
says_wait came result error is says what = rw is (rw says what)

pub says_refused : (came : Result (Option ℕ) IoFault) (result : Result ℕ Error) (why : IoFault) (error : Error) → came ≡ Err why → result ≡ Err error → error_kind error ≡ kind_of why → SaysRead came result
says_refused came result why error is says what = rw is (rw says what)

-- Writes.

-- what std's write says in each of its arms

pub says_taken : (came : Result ℕ IoFault) (taken : ℕ) (result : Result ℕ Error) (count : ℕ) → came ≡ Ok count → result ≡ Ok count → SaysWritten came taken result
says_taken came taken result count is says = rw is (rw says refl)

pub says_cut : (came : Result ℕ IoFault) (taken counted : ℕ) (result said : Result ℕ Error) (why : IoFault) → came ≡ Err why → counted ≡ taken → result ≡ said → SaysWritten (Err why) counted said → SaysWritten came taken result
says_cut came taken counted result said why is same says what = rw is (rw says (rw (sym same) what))

grown : (before after : Buffer) (own : List ℕ) (taken : ℕ) → after.place ≡ before.place + taken → LaysTaken (stream_shown before) own taken (stream_shown after) → IsTrue (tells before.raw) → filled_to (flat_of after).bytes after.place ≡ filled_to (flat_of before).bytes before.place ++ take taken own
grown before after own taken goes laid told =
    let at = laid told in
    ap (λ (bytes : List ℕ). filled_to bytes after.place) at.3 ∙ (ap (λ (place : ℕ). filled_to (lay (flat_of before).bytes before.place (take at.0 own)) place) goes ∙ laid_grows (flat_of before).bytes before.place own taken at.0 at.1 at.2)

-- the bytes up to the place grow by those that a write took, by which the place moves
record Grows (before : Buffer) (own : List ℕ) (after : Buffer) : Type 0 where
  taken : ℕ
  within : taken ≤ length own
  place : after.place ≡ before.place + taken
  counted : after.taken ≡ taken
  appends : Appends (written_in before) (written_in after) (take taken own)

write_grows : (before after : Buffer) (own : List ℕ) (reply : FileReply) → AnswersAsBuffer before (Write own) reply after → Grows before own after
write_grows before after own reply answers =
    let both = answers.owes.both in
    record {
      taken = both.taken;
      within = both.within;
      place = both.place;
      counted = omega (arith, answers.taken, both.place);
      appends = appends_if (tells before.raw) (tells after.raw) (filled_to (flat_of before).bytes before.place) (filled_to (flat_of after).bytes after.place) (take both.taken own) (tells_still before.raw after.raw answers.keeps.raw) (λ told. grown before after own both.taken both.place both.told told);
    }

-- a write that was done took what it counts
counts : (before after : Buffer) (own : List ℕ) (count : ℕ) → AnswersAsBuffer before (Write own) (Count count) after → after.place ≡ before.place + count
counts before after own count answers = let moves = answers.moves.place in grind arith

keeps_appended : (before after : Option (List ℕ)) → Appends before after [] → Keeps before after
keeps_appended None after same = tt
keeps_appended (Some bytes) None same = absurd same
keeps_appended (Some bytes) (Some own) same = same ∙ append-nil bytes

keeps_of : (before after : Buffer) (own : List ℕ) (grows : Grows before own after) → grows.taken ≡ 0 → Keeps (written_in before) (written_in after)
keeps_of before after own grows none = keeps_appended (written_in before) (written_in after) (rw none at grows.appends)

-- what std's write says is what was taken
pub appends : (before after : Buffer) (own : List ℕ) (came : Result ℕ IoFault) (result : Result ℕ Error) → AnswersAsBuffer before (Write own) (count_reply came) after → SaysWritten came after.taken result → WriteAppends (written_in before) (written_in after) result own
appends before after own (Ok count) (Ok said) answers says =
    let grows = write_grows before after own (Count count) answers in
    let same : grows.taken ≡ said = omega (arith, grows.place, counts before after own count answers, says) in
    rw same at grows.appends
appends before after own (Ok count) (Err error) answers says = absurd says
appends before after own (Err why) (Ok said) answers says =
    let grows = write_grows before after own (Refused why) answers in
    let same : grows.taken ≡ said = sym (says.0 ∙ grows.counted) in
    rw same at grows.appends
appends before after own (Err why) (Err error) answers says =
    let grows = write_grows before after own (Refused why) answers in
    keeps_of before after own grows (sym grows.counted ∙ says.0)

pub takes_within : (before after : Buffer) (own : List ℕ) (came : Result ℕ IoFault) (result : Result ℕ Error) → AnswersAsBuffer before (Write own) (count_reply came) after → SaysWritten came after.taken result → WritesAtMost result own
takes_within before after own (Ok count) (Ok said) answers says = let grows = write_grows before after own (Count count) answers in omega (arith, grows.place, grows.within, counts before after own count answers, says)
takes_within before after own (Ok count) (Err error) answers says = absurd says
takes_within before after own (Err why) (Ok said) answers says = let grows = write_grows before after own (Refused why) answers in omega (arith, grows.counted, grows.within, says.0)
takes_within before after own (Err why) (Err error) answers says = tt

-- a write that was done took all that it was given
all_counted : (before after : Buffer) (own : List ℕ) (count : ℕ) → AnswersAsBuffer before (Write own) (Count count) after → count ≡ length own
all_counted before after own count answers = let moves = answers.moves.place in grind arith

counted_some : (before after : Buffer) (own : List ℕ) (came : Result ℕ IoFault) (count : ℕ) → 0 < length own → AnswersAsBuffer before (Write own) (count_reply came) after → SaysWritten came after.taken (Ok count) → 0 < count
counted_some before after own (Ok came) count some answers says = omega (arith, some, says, all_counted before after own came answers)
counted_some before after own (Err why) count some answers says = rw says.0 says.1

-- so one of some bytes that answers how many it took, took some
pub takes_some : {Own : Type 0} (shows : Own → Buffer) (own : Own → FileCall → FileReply → Own → Type 0) (bytes : List ℕ) (count : ℕ) (before after : Own) → 0 < length bytes → AnsweredBy (λ (came : Result ℕ IoFault). MadeBy shows own before (Write bytes) (count_reply came) after) (λ (came : Result ℕ IoFault). SaysWritten came (shows after).taken (Ok count)) → 0 < count
takes_some shows own bytes count before after some by = counted_some (shows before) (shows after) bytes by.came count some by.answered.1 by.said

-- Readings and writes of all that was asked for.

-- what holds of every error holds of an answer's
pub of_error : {A : Type 0} (result : Result A Error) (P : Type 0) → P → IfErr result (λ error. P)
of_error (Ok value) P so = tt
of_error (Err error) P so = so

-- what was taken, where some bytes are left to be
pub takes_front : (a b c : Option (List ℕ)) (own done left : List ℕ) → own ≡ done ++ left → 0 < length left → Appends a b done → Keeps b c → TakesFront a own c
takes_front a b c own done left split some appended kept =
    record {
      count = length done;
      within = omega (arith, ap length split, length-append done left);
      took = subst (Appends a c) (sym (ap (take (length done)) split ∙ take_at done left (length done) refl)) (Appends-kept a b c done appended kept);
    }

-- what was taken is gone from the front of what is left to be
pub moves_front : (own done left : List ℕ) (count : ℕ) → own ≡ done ++ left → own ≡ (done ++ take count left) ++ take (length left - count) (drop count left)
moves_front own done left count split =
    split ∙ ap (λ (xs : List ℕ). done ++ xs) (sym (take-append-drop count left)) ∙ sym (append_assoc done (take count left) (drop count left)) ∙ ap (λ (xs : List ℕ). (done ++ take count left) ++ xs) (sym (take_rest left count))

-- a part up to a buffer's end, once it was written, is what stands there
pub part_put : (own new : List ℕ) (start : ℕ) → start ≤ length own → drop start (put_mid start (length own - start) own new) ≡ new
part_put own new start within =
    drop_at (take start own) (new ++ drop (length own - start) (drop start own)) start (length-take-le start own within) ∙ ap (λ (xs : List ℕ). new ++ xs) (drop_all (length own - start) (drop start own) (omega (arith, length-drop start own))) ∙ append-nil new

-- a front of such a part stands behind what stood before it
pub front_put : (own new : List ℕ) (start count : ℕ) → start ≤ length own → take (start + count) (put_mid start (length own - start) own new) ≡ take start own ++ take count new
front_put own new start count within =
    let whole : List ℕ = put_mid start (length own - start) own new in
    take-add start count whole ∙ ap (λ (xs : List ℕ). xs ++ take count (drop start whole)) (take-put_mid_below _ _ _ _ _ (le_refl _) within) ∙ ap (λ (xs : List ℕ). take start own ++ take count xs) (part_put own new start within)

-- and that stays
pub front_stays : (own new : List ℕ) (start : ℕ) → start ≤ length own → take start (put_mid start (length own - start) own new) ≡ take start own
front_stays own new start within = take-put_mid_below _ _ _ _ _ (le_refl _) within

-- so does what a reading of it gave
pub gives_front : (a b c : Option (List ℕ)) (own new : List ℕ) (start count : ℕ) → start ≤ length own → Consumes a b (take start own) → Consumes b c (take count new) → Consumes a c (take (start + count) (put_mid start (length own - start) own new))
gives_front a b c own new start count within came more = subst (Consumes a c) (sym (front_put own new start count within)) (Consumes-trans a b c (take start own) (take count new) came more)

-- and what the buffer has after that stays
pub gives_behind : (old own part new : List ℕ) (start count : ℕ) → start ≤ length own → part ≡ drop start own → drop start own ≡ drop start old → drop count new ≡ drop count part → drop (start + count) (put_mid start (length own - start) own new) ≡ drop (start + count) old
gives_behind old own part new start count within is same behind =
    sym (drop-drop count start (put_mid start (length own - start) own new)) ∙ ap (drop count) (part_put own new start within) ∙ behind ∙ ap (drop count) (is ∙ same) ∙ drop-drop count start old

-- Flushes and seeks.

lent_not : (exported : Bool) → (exported && false) ≡ false
lent_not true = refl
lent_not false = refl

flush_place : (before after : Buffer) (reply : FileReply) → AnswersAsBuffer before Flush reply after → IsTrue (tells before.raw) → after.place ≡ before.place
flush_place before after reply answers told = flush_still (flat_of before) (flat_of after) reply after.short (says_fault reply) (answers.told (lent_not before.exported) told) (λ faulted. let moves = answers.moves.place in grind arith)

-- a flush keeps the bytes up to the place
pub flush_stays : (before after : Buffer) (reply : FileReply) → AnswersAsBuffer before Flush reply after → Keeps (written_in before) (written_in after)
flush_stays before after reply answers =
    keeps_if (tells before.raw) (tells after.raw) (filled_to (flat_of before).bytes before.place) (filled_to (flat_of after).bytes after.place) (tells_still before.raw after.raw answers.keeps.raw)
    (λ told. ap (λ (bytes : List ℕ). filled_to bytes after.place) (flush_keeps (flat_of before) (flat_of after) reply after.short (says_fault reply) (answers.told (lent_not before.exported) told)) ∙ ap (λ (place : ℕ). filled_to (flat_of before).bytes place) (flush_place before after reply answers told))

-- a seek keeps all bytes
pub seek_stays : (before after : Buffer) (offset whence : ℤ) (reply : FileReply) → AnswersAsBuffer before (Seek offset whence) reply after → Keeps (bytes_in before) (bytes_in after)
seek_stays before after offset whence reply answers =
    keeps_if (tells before.raw) (tells after.raw) (flat_of before).bytes (flat_of after).bytes (tells_still before.raw after.raw answers.keeps.raw)
    (λ told. seek_keeps (flat_of before) (flat_of after) offset whence reply after.short (says_fault reply) (answers.told (lent_not before.exported) told))
