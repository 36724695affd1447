-- A stream in memory is a buffered stream.
use Rattle.std.proofs.Common.{◌≡◌, ℕ, zero, suc, ◌+◌, ◌-◌, ◌≤◌, max, ℤ, pos, inl, inr, ◌⊎◌, Bool, true, false, ◌&&◌, ◌||◌, IsTrue, List, [], length, take, drop, Option, Some, None, is_none, nat_lt, unwrap_or, refl, sym, ap, subst, ◌∙◌, arith, if◌then◌else◌}
use Rattle.std.proofs.lemmas.List.{length-take, length-drop, take_all, drop_all}
use Rattle.py_flat.specs.declared.fault.IoFault.{IoFault}
use Rattle.py_flat.specs.declared.fault.IoFault.TheVariants as fault
use Rattle.py_flat.specs.declared.life.Life.TheVariants as life
use Rattle.py_flat.specs.Limits.{greatest_place}
use Rattle.py_flat.specs.Bytes.{lay}
use Rattle.py_flat.specs.Calls.{FileCall, Read1, Write, Seek, Flush, Close, FileReply, Bytes, Count, Place, Done, Refused}
use Rattle.py_flat.specs.FlatFile.{FlatFile, InMemory}
use Rattle.py_flat.specs.Refusals.{refusal, is_close, too_far, target_refusal, moved_by}
use Rattle.py_flat.specs.ExactStep.{is_closed, one_transfer, seek_target, carried_out}
use Rattle.py_flat.specs.AllowedStep.{settled, out_of_memory}
use Rattle.py_flat.specs.BinaryStep.{payload, SettledBy, BinaryStep}
use Rattle.py_flat.proofs.Settling.{blames, may_blame, refusal_blames_nobody}
use Rattle.py_stream.specs.Kinds.{is_reading, says_fault}
use Rattle.py_stream.specs.Answers.{IsAnswerTo, IsReplyTo, IsShort, SeekGoes, Within, UnlessStopped}
use Rattle.py_stream.specs.Buffer.{Buffer, taken_by, refusal_lent, refused_here, LeavesBuffer, BufferMoves, BufferPasses, BufferLays, BufferTakes, asks_for, closes_twice, GoesFromEnd, BufferSeeksFromEnd, BufferSeeksByEnd, BufferOwes, is_made, AnswersAsBuffer}
use Rattle.py_memio.specs.InMemory.{life_of, file_in_memory, refusal_in_memory, may_lack_memory, CarriedOutInMemory, AnswersWith, AnswersInMemory}
use Rattle.py_memio.specs.BytesIO.{Exports, BytesView, has_some, is_lent, buffer_with, as_buffer}
use Rattle.py_memio.proofs.Calm.{Calmly, calm, refusedly, lays_none, owes_still}

-- a call that doesn't change the length is refused by the flat file alone
unlent : (lent : Bool) (by_lending by_file : Option IoFault) → (if lent && false then by_lending else by_file) ≡ by_file
unlent true by_lending by_file = refl
unlent false by_lending by_file = refl

-- Done calls.

fits_rest : (size : Option ℕ) (bytes : List ℕ) → length (one_transfer InMemory size bytes) ≤ length bytes
fits_rest None bytes = omega arith
fits_rest (Some size) bytes = omega (arith, length-take size bytes)

within_size : (size : Option ℕ) (bytes : List ℕ) → Within (asks_for InMemory (Read1 size)) (one_transfer InMemory size bytes)
within_size None bytes = tt
within_size (Some size) bytes = omega (arith, length-take size bytes)

-- a stream in memory as a buffered stream, by what its fields are
abbrev seen : (lent closed : Bool) → List ℕ → (place was : ℕ) → Buffer
seen lent closed items place was = buffer_with (file_in_memory items place closed) lent was

-- nothing fails a stream in memory
never_fails : (closed : Bool) → life_of closed ≡ life.Failed → ⊥
never_fails true fails = cc
never_fails false fails = cc

-- what is left to show of a call that isn't refused
calmly_by : (lent closed ends : Bool) (items left : List ℕ) (place new was taken : ℕ) (call : FileCall) (reply : FileReply)
    → taken ≡ taken_by call place new was
    → says_fault reply ≡ false
    → refused_here (seen lent closed items place was) call ≡ None
    → (closes_twice (seen lent closed items place was) call ≡ true → LeavesBuffer (seen lent closed items place was) call Done reply (seen lent ends left new taken))
    → IsShort call reply false
    → BufferMoves (seen lent closed items place was) call reply (seen lent ends left new taken)
    → BufferSeeksByEnd (seen lent closed items place was) call reply (seen lent ends left new taken)
    → IsReplyTo (Some 0) true call reply × IsAnswerTo call reply
    → BinaryStep (file_in_memory items place closed) call reply false false (file_in_memory left new ends)
    → (IsTrue (is_reading call) → new ≤ max place (length items))
    → (is_close call ≡ false → ends ≡ closed)
    → BufferOwes (seen lent closed items place was) call (seen lent ends left new taken)
    → BufferLays (seen lent closed items place was) (payload call) left
    → BufferPasses (seen lent closed items place was) call reply (seen lent ends left new taken)
    → BufferTakes call place new
    → Calmly (file_in_memory items place closed) lent was call reply (file_in_memory left new ends) taken
calmly_by lent closed ends items left place new was taken call reply counts quiet accepts again shorts moves seeks answer told reach stays owes lays passes takes = record {
  can = refl;
  writes = refl;
  buffering = refl;
  counts = counts;
  quiet = quiet;
  refused = λ why here. let none = sym accepts ∙ here in absurd (cc);
  again = again;
  shorts = shorts;
  moves = moves;
  ends = seeks;
  answer = λ accepted. answer;
  told = λ open_to. told;
  reach = reach;
  unfailed = never_fails ends;
  stays = λ closes. ap (λ (ended : Bool). is_closed (life_of ended)) (stays closes);
  owes = owes;
  lays = lays;
  passes = passes;
  takes = takes;
}

read_calmly : (lent : Bool) (items : List ℕ) (place was : ℕ) (size : Option ℕ) → (place + length (one_transfer InMemory size (drop place items))) ≤ greatest_place → Calmly (file_in_memory items place false) lent was (Read1 size) (Bytes (one_transfer InMemory size (drop place items))) (file_in_memory items (place + length (one_transfer InMemory size (drop place items))) false) was
read_calmly lent items place was size far =
    let given = one_transfer InMemory size (drop place items) in
    let fits = fits_rest size (drop place items) in
    calmly_by lent false false items items place (place + length given) was was (Read1 size) (Bytes given) refl refl (unlent lent (Some fault.BufferError) None) (λ twice. absurd (cc)) refl (record { life_is = refl; place = refl; far = far; within = within_size size (drop place items) }) tt (tt, tt) (settled refl) (λ reads. omega (arith, fits, length-drop place items)) (λ closes. refl) (owes_still (file_in_memory items place false) (file_in_memory items (place + length given) false) lent (Read1 size) was was (λ writing. absurd (cc))) (lays_none _ _ _ _) tt tt

-- all bytes that are written are taken, and have their place
write_owes : (items : List ℕ) (place was taken : ℕ) (bytes : List ℕ) → BufferOwes (seen false false items place was) (Write bytes) (seen false false (lay items place bytes) (place + length bytes) taken)
write_owes items place was taken bytes =
    let all : take (length bytes) bytes ≡ bytes = take_all (length bytes) bytes (omega arith) in
    record {
      both = record { taken = length bytes; within = omega arith; place = refl; owes = λ some. absurd (some refl); none = λ _ told. absurd (cc); told = λ told. (length bytes, omega arith, omega arith, ap (lay items place) (sym all)) };
      takes = λ up_to. record {
        taken = length bytes;
        within = omega arith;
        place = refl;
        passed = length bytes;
        most = omega arith;
        answered = λ told. absurd (cc);
        forth = λ behind. refl;
        owed = sym (drop_all (length bytes) (take (length bytes) bytes) (omega (arith, ap length all)));
        up_to = inl refl;
        told = λ told. (length bytes, omega arith, omega arith, ap (lay items place) (sym all));
        just = λ lives behind told. ap (lay items place) (sym (take_all (length bytes) (take (length bytes) bytes) (omega (arith, ap length all)) ∙ all));
      };
    }

write_calmly : (items : List ℕ) (place was : ℕ) (bytes : List ℕ) (taken : ℕ) → taken ≡ place + length bytes - place → place + length bytes ≤ greatest_place → too_far (place + length bytes) ≡ None → Calmly (file_in_memory items place false) false was (Write bytes) (Count (length bytes)) (file_in_memory (lay items place bytes) (place + length bytes) false) taken
write_calmly items place was bytes taken counts far accepts =
    let laid = lay items place bytes in
    let told = subst (λ (refused : Option IoFault). SettledBy (file_in_memory items place false) (Write bytes) refused (Count (length bytes)) (file_in_memory laid (place + length bytes) false)) (sym accepts) refl in
    calmly_by false false false items laid place (place + length bytes) was taken (Write bytes) (Count (length bytes)) counts refl accepts (λ twice. absurd (cc)) refl (record { life_is = refl; place = (refl, refl); far = far; within = tt }) tt (tt, tt) (settled told) (λ reads. absurd (cc)) (λ closes. refl) (write_owes items place was taken bytes) (record { passed = 0; more = length bytes; laid = ap (lay items place) (sym (take_all (length bytes) bytes (omega arith))); order = λ _. omega arith }) tt (omega arith, omega arith)

seek_calmly : (lent : Bool) (items : List ℕ) (place was : ℕ) (offset whence : ℤ) (target : ℕ) → target ≤ greatest_place → refusal (file_in_memory items place false) (Seek offset whence) ≡ None → seek_target (file_in_memory items place false) offset whence ≡ target → SeekGoes place offset whence target → BufferSeeksByEnd (buffer_with (file_in_memory items place false) lent was) (Seek offset whence) (Place target) (buffer_with (file_in_memory items target false) lent was) → refused_here (buffer_with (file_in_memory items place false) lent was) (Seek offset whence) ≡ None → Calmly (file_in_memory items place false) lent was (Seek offset whence) (Place target) (file_in_memory items target false) was
seek_calmly lent items place was offset whence target far accepts goes_to goes seeks here =
    let told = subst (λ (refused : Option IoFault). SettledBy (file_in_memory items place false) (Seek offset whence) refused (Place target) (file_in_memory items target false)) (sym accepts) (ap (λ (at : ℕ). let step : FileReply × FlatFile = (Place at, file_in_memory items at false) in step) (sym goes_to)) in
    calmly_by lent false false items items place target was was (Seek offset whence) (Place target) refl refl here (λ twice. absurd (cc)) refl (record { life_is = refl; place = (refl, goes); far = far; within = tt }) seeks (tt, tt) (settled told) (λ reads. absurd (cc)) (λ closes. refl) (owes_still (file_in_memory items place false) (file_in_memory items target false) lent (Seek offset whence) was was (λ writing. absurd (cc))) (lays_none _ _ _ _) tt tt

flush_calmly : (lent : Bool) (items : List ℕ) (place was : ℕ) → place ≤ greatest_place → Calmly (file_in_memory items place false) lent was Flush Done (file_in_memory items place false) was
flush_calmly lent items place was far =
    calmly_by lent false false items items place place was was Flush Done refl refl (unlent lent (Some fault.BufferError) None) (λ twice. absurd (cc)) refl (record { life_is = refl; place = refl; far = far; within = tt }) tt (tt, tt) (settled refl) (λ reads. absurd (cc)) (λ closes. refl) (owes_still (file_in_memory items place false) (file_in_memory items place false) lent Flush was was (λ writing. absurd (cc))) (lays_none _ _ _ _) (record { none = refl; holds = λ told. refl }, λ writes. record { ends = omega arith; stands = refl }) tt

close_calmly : (closed : Bool) (items : List ℕ) (place was : ℕ) → place ≤ greatest_place → Calmly (file_in_memory items place closed) false was Close Done (file_in_memory items place true) was
close_calmly true items place was far =
    calmly_by false true true items items place place was was Close Done refl refl refl (λ twice. record { says = refl; same = refl }) refl (record { life_is = refl; place = refl; far = far; within = tt }) tt (tt, tt) (settled refl) (λ reads. absurd (cc)) (λ closes. absurd (cc)) (owes_still (file_in_memory items place true) (file_in_memory items place true) false Close was was (λ writing. absurd (cc))) (lays_none _ _ _ _) (λ live. record { none = refl; holds = λ told. refl }) tt
close_calmly false items place was far =
    calmly_by false false true items items place place was was Close Done refl refl refl (λ twice. absurd (cc)) refl (record { life_is = refl; place = refl; far = far; within = tt }) tt (tt, tt) (settled refl) (λ reads. absurd (cc)) (λ closes. absurd (cc)) (owes_still (file_in_memory items place false) (file_in_memory items place true) false Close was was (λ writing. absurd (cc))) (lays_none _ _ _ _) (λ live. record { none = refl; holds = λ told. refl }) tt

-- Running out of memory.

read_starves : (lent : Bool) (items : List ℕ) (place was : ℕ) (size : Option ℕ) → place ≤ greatest_place → Calmly (file_in_memory items place false) lent was (Read1 size) (Refused fault.NoMemory) (file_in_memory items place false) was
read_starves lent items place was size far =
    calmly_by lent false false items items place place was was (Read1 size) (Refused fault.NoMemory) refl refl (unlent lent (Some fault.BufferError) None) (λ twice. absurd (cc)) refl (record { life_is = refl; place = refl; far = far; within = tt }) tt (tt, tt) (out_of_memory refl (refl, refl)) (λ reads. omega arith) (λ closes. refl) (owes_still (file_in_memory items place false) (file_in_memory items place false) lent (Read1 size) was was (λ writing. absurd (cc))) (lays_none _ _ _ _) tt tt

write_starves : (items : List ℕ) (place was : ℕ) (bytes : List ℕ) (taken : ℕ) → taken ≡ place - place → place ≤ greatest_place → too_far (place + length bytes) ≡ None → Calmly (file_in_memory items place false) false was (Write bytes) (Refused fault.NoMemory) (file_in_memory items place false) taken
write_starves items place was bytes taken counts far accepts =
    let starved = subst (λ (refused : Option IoFault). IsTrue ((is_none refused && true) || false)) (sym accepts) refl in
    calmly_by false false false items items place place was taken (Write bytes) (Refused fault.NoMemory) counts refl accepts (λ twice. absurd (cc)) refl (record { life_is = inl refl; place = refl; far = far; within = tt }) tt (tt, tt) (out_of_memory refl (starved, inl refl)) (λ reads. absurd (cc)) (λ closes. refl) (owes_still (file_in_memory items place false) (file_in_memory items place false) false (Write bytes) was taken (λ writing. (refl, refl))) (lays_none _ _ _ _) tt (omega arith, omega arith)

-- Refused calls.

own_by : (refused : Option IoFault) (why : IoFault) → may_blame refused ≡ false → refused ≡ Some why → blames why ≡ false
own_by refused why own is = sym (ap may_blame is) ∙ own

-- what a call is refused by, unless it is a seek from the end
plainly : (file : FlatFile) (lent : Bool) (was : ℕ) (call : FileCall) (why : IoFault) (taken : ℕ) → (file.life ≡ life.Failed → ⊥) → file.can.writable ≡ true → blames why ≡ false → taken ≡ taken_by call file.place file.place was → file.place ≤ greatest_place → refused_here (buffer_with file lent was) call ≡ Some why → refusal_in_memory lent file call ≡ Some why → closes_twice (buffer_with file lent was) call ≡ false → BufferSeeksByEnd (buffer_with file lent was) call (Refused why) (buffer_with file lent taken) → Calmly file lent was call (Refused why) file taken
plainly file lent was call why taken unfailed writes own counts far here refused once ends =
    refusedly file lent was call why taken unfailed writes own counts far
    (λ other also. let same = sym here ∙ also in cc)
    once ends
    (λ accepts. let none = sym here ∙ accepts in absurd (cc))
    (λ unlent_call. subst (λ (lends : Bool). (if lends then refusal_lent file call else refusal file call) ≡ Some why) unlent_call refused)

goes_refused : (before after : Buffer) (target : Option ℕ) (refused : Option IoFault) (why : IoFault) → after.place ≡ before.place → after.life ≡ before.life → after.owed ≡ before.owed → after.short ≡ false → refused ≡ Some why → GoesFromEnd before target refused (Refused why) after
goes_refused before after (Some target) (Some own) why place current owed whole is = let same : own ≡ why = cc in record { says = ap Refused (sym same); place = place; life_is = current; owed = owed; whole = whole }
goes_refused before after None (Some own) why place current owed whole is = let same : own ≡ why = cc in record { says = ap Refused (sym same); place = place; life_is = current; owed = owed; whole = whole }
goes_refused before after target None why place current owed whole is = absurd (cc)

end_goes : (before after : Buffer) (offset : ℤ) (why : IoFault) → BufferSeeksFromEnd before offset (Refused why) after → UnlessStopped (Refused why) (BufferSeeksFromEnd before offset (Refused why) after)
end_goes before after offset fault.RawFault goes = tt
end_goes before after offset fault.NoMemory goes = tt
end_goes before after offset (fault.WouldBlock taken) goes = tt
end_goes before after offset why goes = goes

too_far_answers : (offset : ℤ) (far : Bool) (why : IoFault) → (if far then Some fault.TooFar else None) ≡ Some why → IsReplyTo (Some 0) true (Seek offset (pos 2)) (Refused why) × IsAnswerTo (Seek offset (pos 2)) (Refused why)
too_far_answers offset true why is = let same : fault.TooFar ≡ why = cc in subst (λ (own : IoFault). IsReplyTo (Some 0) true (Seek offset (pos 2)) (Refused own) × IsAnswerTo (Seek offset (pos 2)) (Refused own)) same (tt, tt)
too_far_answers offset false why is = absurd (cc)

end_answers : (offset : ℤ) (target : Option ℕ) (why : IoFault) → target_refusal target ≡ Some why → IsReplyTo (Some 0) true (Seek offset (pos 2)) (Refused why) × IsAnswerTo (Seek offset (pos 2)) (Refused why)
end_answers offset None why is = let same : fault.NegativeSeek ≡ why = cc in subst (λ (own : IoFault). IsReplyTo (Some 0) true (Seek offset (pos 2)) (Refused own) × IsAnswerTo (Seek offset (pos 2)) (Refused own)) same (tt, tt)
end_answers offset (Some target) why is = too_far_answers offset (nat_lt greatest_place target) why is

-- a seek from the end of a live stream, of which the end is asked first
end_refused : (lent : Bool) (items : List ℕ) (place was : ℕ) (offset : ℤ) (why : IoFault) → place ≤ greatest_place → length items ≤ greatest_place → target_refusal (moved_by (length items) offset) ≡ Some why → Calmly (file_in_memory items place false) lent was (Seek offset (pos 2)) (Refused why) (file_in_memory items place false) was
end_refused lent items place was offset why far small is =
    let file : FlatFile = file_in_memory items place false in
    refusedly file lent was (Seek offset (pos 2)) why was (never_fails false) refl (own_by (refusal file (Seek offset (pos 2))) why (refusal_blames_nobody file (Seek offset (pos 2))) is) refl far
    (λ other also. absurd (cc))
    refl
    (λ asks. end_goes (buffer_with file lent was) (buffer_with file lent was) offset why (record {
      end = length items;
      within = small;
      owed = λ some. absurd (some refl);
      told = λ told. refl;
      target = goes_refused (buffer_with file lent was) (buffer_with file lent was) (moved_by (length items) offset) (target_refusal (moved_by (length items) offset)) why refl refl refl refl is;
    }))
    (λ accepts. end_answers offset (moved_by (length items) offset) why is)
    (λ unlent_call. is)

-- All calls.

-- what a call comes to that is shown of the reply, the file and the count that it is known to have
known : (file : FlatFile) (lent : Bool) (was : ℕ) (call : FileCall) (own reply : FileReply) (new left : FlatFile) (count taken : ℕ) → Calmly file lent was call own new count → reply ≡ own → left ≡ new → taken ≡ count → AnswersAsBuffer (buffer_with file lent was) call reply (buffer_with left lent taken)
known file lent was call own reply new left count taken calmly says leaves counts =
    let shown = calm file lent was call own new count calmly in
    let replied = subst (λ (r : FileReply). AnswersAsBuffer (buffer_with file lent was) call r (buffer_with new lent count)) (sym says) shown in
    let counted = subst (λ (n : ℕ). AnswersAsBuffer (buffer_with file lent was) call reply (buffer_with new lent n)) (sym counts) replied in
    subst (λ (f : FlatFile). AnswersAsBuffer (buffer_with file lent was) call reply (buffer_with f lent taken)) (sym leaves) counted

-- an accepted call is carried out, or lacks memory
carried_or_starved : (before : FlatFile) (call : FileCall) (reply : FileReply) (after : FlatFile) → CarriedOutInMemory before call reply after → (IsTrue (may_lack_memory call) × (reply ≡ Refused fault.NoMemory) × (after ≡ before)) ⊎ ((reply ≡ (carried_out before call).0) × (after ≡ (carried_out before call).1))
carried_or_starved before call (Refused why) after step = inl (step.0, ap Refused step.1, step.2)
carried_or_starved before call reply after step = inr (ap (λ (p : FileReply × FlatFile). p.0) step, ap (λ (p : FileReply × FlatFile). p.1) step)

-- what is known of a call of a stream in memory
pub record Knows (lent closed : Bool) (items : List ℕ) (place was : ℕ) (call : FileCall) (after : FlatFile) (taken : ℕ) : Type 0 where
  pub near : place ≤ greatest_place
  pub small : length items ≤ greatest_place
  pub shut : closed ≡ true → lent ≡ false
  pub far : after.place ≤ greatest_place
  pub counts : taken ≡ taken_by call place after.place was

-- how many bytes were taken, and how far the place is, by the file that is left
counts_at : (lent closed : Bool) (items : List ℕ) (place was : ℕ) (call : FileCall) (after : FlatFile) (taken : ℕ) (new : FlatFile) → Knows lent closed items place was call after taken → after ≡ new → taken ≡ taken_by call place new.place was
counts_at lent closed items place was call after taken new knows is = knows.counts ∙ ap (λ (f : FlatFile). taken_by call place f.place was) is

far_at : (after new : FlatFile) → after.place ≤ greatest_place → after ≡ new → new.place ≤ greatest_place
far_at after new far is = subst (λ (f : FlatFile). f.place ≤ greatest_place) is far

refused_call : (lent closed : Bool) (items : List ℕ) (place was : ℕ) (call : FileCall) (why : IoFault) (taken : ℕ) → place ≤ greatest_place → length items ≤ greatest_place → (closed ≡ true → lent ≡ false) → IsTrue (is_made call) → taken ≡ taken_by call place place was → refusal_in_memory lent (file_in_memory items place closed) call ≡ Some why → Calmly (file_in_memory items place closed) lent was call (Refused why) (file_in_memory items place closed) taken
refused_call lent closed items place was (Read1 size) why taken near small shut made counts is =
    let file : FlatFile = file_in_memory items place closed in
    let by_file = sym (unlent lent (refusal_lent file (Read1 size)) (refusal file (Read1 size))) ∙ is in
    plainly file lent was (Read1 size) why taken (never_fails closed) refl (own_by (refusal file (Read1 size)) why (refusal_blames_nobody file (Read1 size)) by_file) counts near is is refl tt
refused_call lent closed items place was Flush why taken near small shut made counts is =
    let file : FlatFile = file_in_memory items place closed in
    let by_file = sym (unlent lent (refusal_lent file Flush) (refusal file Flush)) ∙ is in
    plainly file lent was Flush why taken (never_fails closed) refl (own_by (refusal file Flush) why (refusal_blames_nobody file Flush) by_file) counts near is is refl tt
refused_call true true items place was (Write bytes) why taken near small shut made counts is = let none = shut refl in absurd (cc)
refused_call true false items place was (Write bytes) why taken near small shut made counts is =
    plainly (file_in_memory items place false) true was (Write bytes) why taken (never_fails false) refl (own_by (Some fault.BufferError) why refl is) counts near is is refl tt
refused_call false closed items place was (Write bytes) why taken near small shut made counts is =
    let file : FlatFile = file_in_memory items place closed in
    plainly file false was (Write bytes) why taken (never_fails closed) refl (own_by (refusal file (Write bytes)) why (refusal_blames_nobody file (Write bytes)) is) counts near is is refl tt
refused_call true true items place was Close why taken near small shut made counts is = let none = shut refl in absurd (cc)
refused_call true false items place was Close why taken near small shut made counts is =
    plainly (file_in_memory items place false) true was Close why taken (never_fails false) refl (own_by (Some fault.BufferError) why refl is) counts near is is refl tt
refused_call false true items place was Close why taken near small shut made counts is = absurd (cc)
refused_call false false items place was Close why taken near small shut made counts is = absurd (cc)
refused_call lent false items place was (Seek offset (pos (suc (suc zero)))) why taken near small shut made counts is =
    let by_file = sym (unlent lent (refusal_lent (file_in_memory items place false) (Seek offset (pos 2))) (refusal (file_in_memory items place false) (Seek offset (pos 2)))) ∙ is in
    subst (λ (n : ℕ). Calmly (file_in_memory items place false) lent was (Seek offset (pos 2)) (Refused why) (file_in_memory items place false) n) (sym counts) (end_refused lent items place was offset why near small by_file)
refused_call lent true items place was (Seek offset (pos (suc (suc zero)))) why taken near small shut made counts is =
    let file : FlatFile = file_in_memory items place true in
    let by_file = sym (unlent lent (refusal_lent file (Seek offset (pos 2))) (refusal file (Seek offset (pos 2)))) ∙ is in
    plainly file lent was (Seek offset (pos 2)) why taken (never_fails true) refl (own_by (refusal file (Seek offset (pos 2))) why (refusal_blames_nobody file (Seek offset (pos 2))) by_file) counts near is is refl (λ asks. absurd (cc))
refused_call lent closed items place was (Seek offset whence) why taken near small shut made counts is =
    let file : FlatFile = file_in_memory items place closed in
    let by_file = sym (unlent lent (refusal_lent file (Seek offset whence)) (refusal file (Seek offset whence))) ∙ is in
    plainly file lent was (Seek offset whence) why taken (never_fails closed) refl (own_by (refusal file (Seek offset whence)) why (refusal_blames_nobody file (Seek offset whence)) by_file) counts near is is refl tt
refused_call lent closed items place was call why taken near small shut made counts is = absurd (cc)

-- how an accepted call came out: it lacks memory, or is carried out
abbrev pub CameOut : FlatFile → FileCall → FileReply → FlatFile → Type 0
CameOut before call reply after = (IsTrue (may_lack_memory call) × (reply ≡ Refused fault.NoMemory) × (after ≡ before)) ⊎ ((reply ≡ (carried_out before call).0) × (after ≡ (carried_out before call).1))

read_came : (lent : Bool) (items : List ℕ) (place was : ℕ) (size : Option ℕ) (reply : FileReply) (after : FlatFile) (taken : ℕ) → Knows lent false items place was (Read1 size) after taken → CameOut (file_in_memory items place false) (Read1 size) reply after → AnswersAsBuffer (buffer_with (file_in_memory items place false) lent was) (Read1 size) reply (buffer_with after lent taken)
read_came lent items place was size reply after taken knows (inl starved) =
    let file : FlatFile = file_in_memory items place false in
    known file lent was (Read1 size) (Refused fault.NoMemory) reply file after was taken (read_starves lent items place was size knows.near) starved.1 starved.2 knows.counts
read_came lent items place was size reply after taken knows (inr done) =
    let file : FlatFile = file_in_memory items place false in
    let new : FlatFile = (carried_out file (Read1 size)).1 in
    known file lent was (Read1 size) (carried_out file (Read1 size)).0 reply new after was taken (read_calmly lent items place was size (far_at after new knows.far done.1)) done.0 done.1 knows.counts

write_came : (items : List ℕ) (place was : ℕ) (bytes : List ℕ) (reply : FileReply) (after : FlatFile) (taken : ℕ) → Knows false false items place was (Write bytes) after taken → too_far (place + length bytes) ≡ None → CameOut (file_in_memory items place false) (Write bytes) reply after → AnswersAsBuffer (buffer_with (file_in_memory items place false) false was) (Write bytes) reply (buffer_with after false taken)
write_came items place was bytes reply after taken knows accepts (inl starved) =
    let file : FlatFile = file_in_memory items place false in
    known file false was (Write bytes) (Refused fault.NoMemory) reply file after taken taken (write_starves items place was bytes taken (counts_at false false items place was (Write bytes) after taken file knows starved.2) knows.near accepts) starved.1 starved.2 refl
write_came items place was bytes reply after taken knows accepts (inr done) =
    let file : FlatFile = file_in_memory items place false in
    let new : FlatFile = (carried_out file (Write bytes)).1 in
    known file false was (Write bytes) (Count (length bytes)) reply new after taken taken (write_calmly items place was bytes taken (counts_at false false items place was (Write bytes) after taken new knows done.1) (far_at after new knows.far done.1) accepts) done.0 done.1 refl

flush_came : (lent : Bool) (items : List ℕ) (place was : ℕ) (reply : FileReply) (after : FlatFile) (taken : ℕ) → Knows lent false items place was Flush after taken → CameOut (file_in_memory items place false) Flush reply after → AnswersAsBuffer (buffer_with (file_in_memory items place false) lent was) Flush reply (buffer_with after lent taken)
flush_came lent items place was reply after taken knows (inl starved) = let never = starved.0 in absurd (cc)
flush_came lent items place was reply after taken knows (inr done) =
    let file : FlatFile = file_in_memory items place false in
    known file lent was Flush Done reply file after was taken (flush_calmly lent items place was knows.near) done.0 done.1 knows.counts

close_came : (closed : Bool) (items : List ℕ) (place was : ℕ) (reply : FileReply) (after : FlatFile) (taken : ℕ) → Knows false closed items place was Close after taken → CameOut (file_in_memory items place closed) Close reply after → AnswersAsBuffer (buffer_with (file_in_memory items place closed) false was) Close reply (buffer_with after false taken)
close_came closed items place was reply after taken knows (inl starved) = let never = starved.0 in absurd (cc)
close_came closed items place was reply after taken knows (inr done) =
    known (file_in_memory items place closed) false was Close Done reply (file_in_memory items place true) after was taken (close_calmly closed items place was knows.near) done.0 done.1 knows.counts

lands : (target : Option ℕ) → target_refusal target ≡ None → target ≡ Some (unwrap_or target 0)
lands None is = absurd (cc)
lands (Some target) is = refl

goes_by : (before after : Buffer) (target : Option ℕ) (refused : Option IoFault) (place : ℕ) → target ≡ Some place → refused ≡ None → GoesFromEnd before target refused (Place place) after
goes_by before after (Some target) None place is accepts = let same : target ≡ place = cc in ap Place (sym same)
goes_by before after None refused place is accepts = absurd (cc)
goes_by before after target (Some why) place is accepts = absurd (cc)

seek_came : (lent : Bool) (items : List ℕ) (place was : ℕ) (offset whence : ℤ) (reply : FileReply) (after : FlatFile) (taken : ℕ) → Knows lent false items place was (Seek offset whence) after taken → refusal (file_in_memory items place false) (Seek offset whence) ≡ None → CameOut (file_in_memory items place false) (Seek offset whence) reply after → AnswersAsBuffer (buffer_with (file_in_memory items place false) lent was) (Seek offset whence) reply (buffer_with after lent taken)
seek_came lent items place was offset whence reply after taken knows accepts (inl starved) = let never = starved.0 in absurd (cc)
seek_came lent items place was offset (pos zero) reply after taken knows accepts (inr done) =
    let file : FlatFile = file_in_memory items place false in
    let target : ℕ = unwrap_or (moved_by 0 offset) 0 in
    let new : FlatFile = file_in_memory items target false in
    known file lent was (Seek offset (pos 0)) (Place target) reply new after was taken (seek_calmly lent items place was offset (pos 0) target (far_at after new knows.far done.1) accepts refl (lands (moved_by 0 offset) accepts) tt (unlent lent (refusal_lent file (Seek offset (pos 0))) (refusal file (Seek offset (pos 0))) ∙ accepts)) done.0 done.1 knows.counts
seek_came lent items place was offset (pos (suc zero)) reply after taken knows accepts (inr done) =
    let file : FlatFile = file_in_memory items place false in
    let target : ℕ = unwrap_or (moved_by place offset) 0 in
    let new : FlatFile = file_in_memory items target false in
    known file lent was (Seek offset (pos 1)) (Place target) reply new after was taken (seek_calmly lent items place was offset (pos 1) target (far_at after new knows.far done.1) accepts refl (lands (moved_by place offset) accepts) tt (unlent lent (refusal_lent file (Seek offset (pos 1))) (refusal file (Seek offset (pos 1))) ∙ accepts)) done.0 done.1 knows.counts
seek_came lent items place was offset (pos (suc (suc zero))) reply after taken knows accepts (inr done) =
    let file : FlatFile = file_in_memory items place false in
    let target : ℕ = unwrap_or (moved_by (length items) offset) 0 in
    let new : FlatFile = file_in_memory items target false in
    let goes = goes_by (buffer_with file lent was) (buffer_with new lent was) (moved_by (length items) offset) (target_refusal (moved_by (length items) offset)) target (lands (moved_by (length items) offset) accepts) accepts in
    known file lent was (Seek offset (pos 2)) (Place target) reply new after was taken (seek_calmly lent items place was offset (pos 2) target (far_at after new knows.far done.1) accepts refl tt (λ asks. record { end = length items; within = knows.small; owed = λ some. absurd (some refl); told = λ told. refl; target = goes }) refl) done.0 done.1 knows.counts
seek_came lent items place was offset whence reply after taken knows accepts (inr done) = absurd (cc)

accepted : (lent closed : Bool) (items : List ℕ) (place was : ℕ) (call : FileCall) (reply : FileReply) (after : FlatFile) (taken : ℕ) → Knows lent closed items place was call after taken → IsTrue (is_made call) → refusal_in_memory lent (file_in_memory items place closed) call ≡ None → CameOut (file_in_memory items place closed) call reply after → AnswersAsBuffer (buffer_with (file_in_memory items place closed) lent was) call reply (buffer_with after lent taken)
accepted lent false items place was (Read1 size) reply after taken knows made is came = read_came lent items place was size reply after taken knows came
accepted lent true items place was (Read1 size) reply after taken knows made is came = let never = sym (unlent lent (Some fault.Closed) (Some fault.Closed)) ∙ is in absurd (cc)
accepted lent false items place was Flush reply after taken knows made is came = flush_came lent items place was reply after taken knows came
accepted lent true items place was Flush reply after taken knows made is came = let never = sym (unlent lent (Some fault.Closed) (Some fault.Closed)) ∙ is in absurd (cc)
accepted false false items place was (Write bytes) reply after taken knows made is came = write_came items place was bytes reply after taken knows is came
accepted false true items place was (Write bytes) reply after taken knows made is came = absurd (cc)
accepted true false items place was (Write bytes) reply after taken knows made is came = absurd (cc)
accepted true true items place was (Write bytes) reply after taken knows made is came = absurd (cc)
accepted false closed items place was Close reply after taken knows made is came = close_came closed items place was reply after taken knows came
accepted true false items place was Close reply after taken knows made is came = absurd (cc)
accepted true true items place was Close reply after taken knows made is came = absurd (cc)
accepted lent false items place was (Seek offset whence) reply after taken knows made is came =
    let file : FlatFile = file_in_memory items place false in
    seek_came lent items place was offset whence reply after taken knows (sym (unlent lent (refusal_lent file (Seek offset whence)) (refusal file (Seek offset whence))) ∙ is) came
accepted lent true items place was (Seek offset whence) reply after taken knows made is came = let never = sym (unlent lent (Some fault.Closed) (Some fault.Closed)) ∙ is in absurd (cc)
accepted lent closed items place was call reply after taken knows made is came = absurd (cc)

answered_by : (lent closed : Bool) (items : List ℕ) (place was : ℕ) (call : FileCall) (reply : FileReply) (after : FlatFile) (taken : ℕ) (refused : Option IoFault) → Knows lent closed items place was call after taken → IsTrue (is_made call) → refusal_in_memory lent (file_in_memory items place closed) call ≡ refused → AnswersWith refused (file_in_memory items place closed) call reply after → AnswersAsBuffer (buffer_with (file_in_memory items place closed) lent was) call reply (buffer_with after lent taken)
answered_by lent closed items place was call reply after taken (Some why) knows made is answers =
    let file : FlatFile = file_in_memory items place closed in
    known file lent was call (Refused why) reply file after taken taken (refused_call lent closed items place was call why taken knows.near knows.small knows.shut made (counts_at lent closed items place was call after taken file knows answers.1) is) answers.0 answers.1 refl
answered_by lent closed items place was call reply after taken None knows made is answers =
    accepted lent closed items place was call reply after taken knows made is (carried_or_starved (file_in_memory items place closed) call reply after answers)

-- a call of a stream in memory is one of a buffered stream
pub answers_as_buffer : (lent closed : Bool) (items : List ℕ) (place was : ℕ) (call : FileCall) (reply : FileReply) (after : FlatFile) (taken : ℕ) → Knows lent closed items place was call after taken → IsTrue (is_made call) → AnswersInMemory lent (file_in_memory items place closed) call reply after → AnswersAsBuffer (buffer_with (file_in_memory items place closed) lent was) call reply (buffer_with after lent taken)
answers_as_buffer lent closed items place was call reply after taken knows made answers =
    answered_by lent closed items place was call reply after taken (refusal_in_memory lent (file_in_memory items place closed) call) knows made refl answers

-- a `BytesIO` by what its fields are
abbrev pub seen_as : List ℕ → (place was : ℕ) → (closed : Bool) → Exports → BytesView
seen_as items place was closed exports = record { file = file_in_memory items place closed; exports = exports; taken = was }

-- a call of a `BytesIO`, by what its fields are before and after, is one of a buffered stream
pub meets : {before after : BytesView} {items left : List ℕ} {place was far taken : ℕ} {exports kept : Exports} (closed ends : Bool) (call : FileCall) (reply : FileReply) → seen_as items place was closed exports ≡ before → seen_as left far taken ends kept ≡ after → place ≤ greatest_place → far ≤ greatest_place → length items ≤ greatest_place → (closed ≡ true → exports.out ≡ []) → IsTrue (is_made call) → after.exports ≡ before.exports → after.taken ≡ taken_by call before.file.place after.file.place before.taken → AnswersInMemory (is_lent before) before.file call reply after.file → AnswersAsBuffer (as_buffer before) call reply (as_buffer after)
meets {after = after} {items = items} {place = place} {was = was} {exports = exports} closed ends call reply view new near far small shut made =
    subst (λ (seen : BytesView). after.exports ≡ seen.exports → after.taken ≡ taken_by call seen.file.place after.file.place seen.taken → AnswersInMemory (is_lent seen) seen.file call reply after.file → AnswersAsBuffer (as_buffer seen) call reply (as_buffer after)) view
    (λ same counts answers.
    let lent : Bool = has_some exports.out in
    let knows : Knows lent closed items place was call after.file after.taken = record { near = near; small = small; shut = λ is. ap has_some (shut is); far = subst (λ (seen : BytesView). seen.file.place ≤ greatest_place) new far; counts = counts } in
    subst (λ (lends : Bool). AnswersAsBuffer (buffer_with (file_in_memory items place closed) lent was) call reply (buffer_with after.file lends after.taken)) (sym (ap (λ (seen : Exports). has_some seen.out) same)) (answers_as_buffer lent closed items place was call reply after.file after.taken knows made answers))
