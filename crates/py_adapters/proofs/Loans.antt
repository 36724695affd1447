-- Bytes that are held: looked at, lent, and passed over.
use Rattle.std.proofs.Common.{◌≡◌, ℕ, ◌≤◌, Bool, true, false, IsTrue, List, [], ◌∷◌, length, take, drop, Option, Some, None, Result, Ok, Err, IfSome, IfOk, refl, sym, ap, ◌∙◌, subst, arith}
use denote.Bor.{Bor}
use Rattle.std.proofs.lemmas.List.{drop_at, take_all, length-take}
use Rattle.std.specs.Io.{StartsWith}
use Rattle.std.specs.Io.KnownBytes.{Keeps, Consumes, IsAtEnd}
use Rattle.std.specs.Io.BufRead.{DropsConsumable}
use Rattle.py_flat.specs.declared.fault.IoFault.{IoFault}
use Rattle.py_flat.specs.declared.fault.IoFault.TheVariants as fault
use Rattle.py_flat.specs.declared.life.Life.{Life}
use Rattle.py_flat.specs.declared.life.Life.TheVariants as life
use Rattle.py_flat.specs.Calls.{FileReply, Bytes, Refused, ReadInto1, Peek}
use Rattle.py_flat.specs.Refusals.{life_fault}
use Rattle.py_flat.specs.ExactStep.{rest}
use Rattle.py_raw.specs.RawStream.{tells}
use Rattle.py_raw.proofs.Telling.{tells_still}
use Rattle.py_stream.specs.Stream.{Stream, file_of}
use Rattle.py_stream.specs.Kinds.{says_fault}
use Rattle.py_stream.specs.Replies.{look_reply}
use Rattle.py_stream.specs.Answers.{Answers, ahead}
use Rattle.py_memio.specs.InMemory.{refusal_in_memory}
use Rattle.py_memio.specs.BytesIO.{BytesView, is_lent, LendsBytes}
use Rattle.py_buffered.specs.Ahead.{while_live, lent_by, LooksAhead, LendsAhead, PassesOver}
use Rattle.py_adapters.specs.Known.{if_told, left_in, PassesInMemory}
use Rattle.py_adapters.proofs.Told.{LooksOn, memory_gives, looking_on}
use Rattle.py_adapters.proofs.Known.{keeps_if, stream_gives}

looked_still : (before : Stream) (reply : FileReply) (after : Stream) → Answers before Peek reply after → reply ≡ Refused fault.RawFault → after.place ≡ before.place
looked_still before reply after answers says = let moves = answers.moves.place in grind arith

looks_on : (before : Stream) (reply : FileReply) (after : Stream) → Answers before Peek reply after → IsTrue (tells before.raw) → LooksOn (file_of before) reply (file_of after)
looks_on before reply after answers told = looking_on (file_of before) reply after.short (says_fault reply) (file_of after) (answers.told told) (looked_still before reply after answers)

-- looking ahead leaves what is left
pub look_keeps : (before : Stream) (result : Result Bool IoFault) (after : Stream) → LooksAhead before result after → Keeps (left_in before) (left_in after)
look_keeps before result after looks =
    keeps_if (tells before.raw) (tells after.raw) (rest (file_of before)) (rest (file_of after)) (tells_still before.raw after.raw looks.answers.keeps.raw) (λ told. (looks_on before (look_reply result looks.lent) after looks.answers told).0)

end_if : (is : Bool) (bytes : List ℕ) → (IsTrue is → bytes ≡ []) → IsAtEnd (if_told is bytes)
end_if true bytes so = so refl
end_if false bytes so = tt

none_of : (bytes : List ℕ) → length bytes ≡ 0 → bytes ≡ []
none_of [] none = refl
none_of (byte ∷ more) none = absurd (omega (arith, none))

-- where nothing is lent then, nothing is left
pub look_ends : (before : Stream) (result : Result Bool IoFault) (after : Stream) → LooksAhead before result after → IfOk result (λ shown. shown ≡ true → lent_by after ≡ 0 → IsAtEnd (left_in after))
look_ends before (Ok true) after looks = λ shown none.
    end_if (tells after.raw) (rest (file_of after))
    (λ told.
    let on : LooksOn (file_of before) (Bytes looks.lent) (file_of after) = looks_on before (Bytes looks.lent) after looks.answers (sym (tells_still before.raw after.raw looks.answers.keeps.raw) ∙ told) in
    on.0 ∙ on.1 (ap Bytes (none_of looks.lent ((looks.lends refl).many ∙ none))))
look_ends before (Ok false) after looks = λ shown none. absurd (cc)
look_ends before (Err why) after looks = tt

starts_if : (is : Bool) (bytes lent : List ℕ) → (IsTrue is → take (length lent) bytes ≡ lent) → IfSome (if_told is bytes) (λ xs. StartsWith xs lent)
starts_if true bytes lent so = so refl
starts_if false bytes lent so = tt

-- what is lent is the next of what is left
pub lent_next : (stream : Stream) (lent : List ℕ) → LendsAhead stream lent → IfSome (left_in stream) (λ xs. StartsWith xs lent)
lent_next stream lent lends = starts_if (tells stream.raw) (rest (file_of stream)) lent lends.told

-- what is given is dropped, where it is as many bytes as are asked for
drops_given : (before after : Option (List ℕ)) (part : List ℕ) (limit amount : ℕ) → Consumes before after part → (amount ≤ limit → length part ≡ amount) → DropsConsumable before after (Some limit) amount
drops_given None after part limit amount gives many = tt
drops_given (Some xs) None part limit amount gives many = absurd gives
drops_given (Some xs) (Some ys) part limit amount gives many = λ within. ap Some (sym (ap (drop amount) gives ∙ drop_at part ys amount (many within)))

-- where none may be dropped, nothing changes
drops_none : (before after : Option (List ℕ)) (limit amount : ℕ) → after ≡ before → limit ≡ 0 → DropsConsumable before after (Some limit) amount
drops_none None after limit amount same none = tt
drops_none (Some xs) after limit amount same none = λ within. same ∙ ap (λ (n : ℕ). Some (drop n xs)) (let zero_is : 0 ≡ amount = omega (arith, within, none) in zero_is)

-- what the life refuses lends nothing
refused_none : (current : Life) (why : IoFault) (count : ℕ) → life_fault current ≡ Some why → while_live current count ≡ 0
refused_none life.Live why count refused = absurd (cc)
refused_none other why count refused = refl

left_whole : (before after : Stream) → after ≡ record before { short = false } → left_in after ≡ left_in before
left_whole before after same = ap left_in same

-- passing over drops as many bytes, within those that are lent
pub pass_drops : (before : Stream) (amount : ℕ) (result : Result ℕ IoFault) (after : Stream) → PassesOver before amount result after → DropsConsumable (left_in before) (left_in after) (Some (lent_by before)) amount
pass_drops before amount (Ok count) after passes =
    let given = passes.1 in
    drops_given (left_in before) (left_in after) given.0 (lent_by before) amount (stream_gives before count (Bytes given.0) after given.2).0 (λ within. omega (arith, given.1, passes.0, within))
pass_drops before amount (Err why) after passes = drops_none (left_in before) (left_in after) (lent_by before) amount (left_whole before after passes.1) (refused_none before.life why (ahead before) passes.0)

-- In memory.

live_most : (current : Life) (count : ℕ) → while_live current count ≤ count
live_most life.Live count = omega arith
live_most other count = omega arith

-- passing over does so too in memory
pub memory_drops : (before : BytesView) (amount : ℕ) (result : Result ℕ IoFault) (after : BytesView) → PassesInMemory before amount result after → DropsConsumable (Some (rest before.file)) (Some (rest after.file)) (Some (while_live before.file.life (length (rest before.file)))) amount
memory_drops before amount (Ok count) after passes =
    let part : List ℕ = take amount (rest before.file) in
    let gives = memory_gives (refusal_in_memory (is_lent before) before.file (ReadInto1 amount)) before.file amount (Bytes part) after.file passes.answer in
    drops_given (Some (rest before.file)) (Some (rest after.file)) part (while_live before.file.life (length (rest before.file))) amount gives.0 (λ within. omega (arith, within, live_most before.file.life (length (rest before.file)), length-take amount (rest before.file)))
memory_drops before amount (Err why) after passes =
    let keeps = memory_gives (refusal_in_memory (is_lent before) before.file (ReadInto1 amount)) before.file amount (Refused why) after.file passes.answer in
    drops_none (Some (rest before.file)) (Some (rest after.file)) (while_live before.file.life (length (rest before.file))) amount (ap Some keeps) (refused_none before.file.life why (length (rest before.file)) passes.refused)

live_all : (current : Life) (count : ℕ) → life_fault current ≡ None → while_live current count ≡ count
live_all life.Live count lives = refl
live_all life.Failed count lives = absurd (cc)
live_all life.Closed count lives = absurd (cc)
live_all life.Detached count lives = absurd (cc)

lent_whole : (refused : Option IoFault) (bytes : List ℕ) (lent : Bor (List ℕ)) → LendsBytes refused bytes (Ok lent) → (refused ≡ None) × (lent.now ≡ bytes)
lent_whole (Some why) bytes lent never = absurd (cc)
lent_whole None bytes lent is = (refl, is)

lent_refused : (refused : Option IoFault) (bytes : List ℕ) (why : IoFault) → LendsBytes refused bytes (Err why) → refused ≡ Some why
lent_refused (Some own) bytes why is = cc
lent_refused None bytes why never = absurd never

-- a stream in memory lends what is left
pub memory_lends : (view : BytesView) (lent : Bor (List ℕ)) → LendsBytes (life_fault view.file.life) (rest view.file) (Ok lent) → (life_fault view.file.life ≡ None) × (length lent.now ≡ while_live view.file.life (length (rest view.file))) × StartsWith (rest view.file) lent.now
memory_lends view lent lends =
    let whole = lent_whole (life_fault view.file.life) (rest view.file) lent lends in
    (whole.0, ap length whole.1 ∙ sym (live_all view.file.life (length (rest view.file)) whole.0), subst (λ (bytes : List ℕ). take (length bytes) (rest view.file) ≡ bytes) (sym whole.1) (take_all (length (rest view.file)) (rest view.file) (omega arith)))

-- a closed one lends none
pub memory_closed : (view : BytesView) (why : IoFault) → LendsBytes (life_fault view.file.life) (rest view.file) (Err why) → (life_fault view.file.life ≡ Some why) × (0 ≡ while_live view.file.life (length (rest view.file)))
memory_closed view why lends =
    let refused = lent_refused (life_fault view.file.life) (rest view.file) why lends in
    (refused, sym (refused_none view.file.life why (length (rest view.file)) refused))

-- where it lends none, nothing is left
pub memory_ends : (view : BytesView) → life_fault view.file.life ≡ None → while_live view.file.life (length (rest view.file)) ≡ 0 → rest view.file ≡ []
memory_ends view lives none = none_of (rest view.file) (sym (live_all view.file.life (length (rest view.file)) lives) ∙ none)

-- What std's traits say of a loan.

-- what was kept begins with what is lent of it
pub lent_front : (before after : Option (List ℕ)) (lent : List ℕ) → Keeps before after → IfSome after (λ xs. StartsWith xs lent) → IfSome before (λ xs. StartsWith xs lent)
lent_front None after lent keeps next = tt
lent_front (Some xs) None lent keeps next = absurd keeps
lent_front (Some xs) (Some ys) lent keeps next = subst (λ (bytes : List ℕ). StartsWith bytes lent) keeps next

-- it ends where none is lent of it
pub lent_end : (before after : Option (List ℕ)) (count lends : ℕ) → Keeps before after → count ≡ lends → (lends ≡ 0 → IsAtEnd after) → IfSome before (λ xs. count ≡ 0 → xs ≡ [])
lent_end None after count lends keeps many ends = tt
lent_end (Some xs) None count lends keeps many ends = absurd keeps
lent_end (Some xs) (Some ys) count lends keeps many ends = λ none. sym keeps ∙ ends (sym many ∙ none)

-- and what is lent may be consumed
pub lent_within : (before : Option (List ℕ)) (count lends : ℕ) → count ≡ lends → IfSome before (λ xs. count ≤ lends)
lent_within None count lends many = tt
lent_within (Some xs) count lends many = omega (arith, many)
