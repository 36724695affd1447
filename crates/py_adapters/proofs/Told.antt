-- What the step of the model makes of a stream's bytes, of those that are left, and of those up to its place.
use Rattle.std.proofs.Common.{◌≡◌, ℕ, zero, suc, ◌+◌, ◌<◌, ◌≤◌, ℤ, Bool, true, false, nat_eq, if◌then◌else◌, List, [], ◌∷◌, ◌++◌, length, take, drop, Option, Some, None, refl, sym, ap, ◌∙◌, subst, arith, append_assoc, add-zero}
use Rattle.std.proofs.lemmas.List.{take_all, take-take, take-append-drop, append-nil, length-take-le, drop-drop, drop_at, drop_all}
use Rattle.py_flat.specs.declared.fault.IoFault.{IoFault}
use Rattle.py_flat.specs.declared.fault.IoFault.TheVariants as fault
use Rattle.py_flat.specs.Bytes.{filled_to, lay}
use Rattle.py_flat.specs.FlatFile.{FlatFile, Buffering, Unbuffered, Buffered, InMemory}
use Rattle.py_flat.specs.Calls.{FileReply, Bytes, NotReady, Refused, ReadInto1, Peek, Seek, Flush}
use Rattle.py_flat.specs.Refusals.{refusal}
use Rattle.py_flat.specs.ExactStep.{rest, buffer_full, gives, after_read}
use Rattle.py_flat.specs.AllowedStep.{settled, waited_for, raw_faulted, out_of_memory}
use Rattle.py_flat.specs.BinaryStep.{IsFrontOf, Transfers, CarriedOut, SettledBy, BinaryStep, if_over_raw}
use Rattle.py_flat.proofs.Laying.{filled_laid}
use Rattle.py_memio.specs.InMemory.{CarriedOutInMemory, AnswersWith}
use Rattle.py_adapters.specs.Known.{GivesNext}

-- Readings.

-- where a front that isn't asked to be empty is empty, there is nothing
nothing_taken : (n : ℕ) (xs : List ℕ) → 0 < n → take n xs ≡ [] → xs ≡ []
nothing_taken n [] some none = refl
nothing_taken zero (x ∷ xs) some none = absurd (omega arith)
nothing_taken (suc n) (x ∷ xs) some none = absurd (cc)

-- the place moves past a front that is given
gave : (file : FlatFile) (size : ℕ) (part : List ℕ) → IsFrontOf part (take size (rest file)) → (part ≡ [] → take size (rest file) ≡ []) → GivesNext (Some (rest file)) size (Bytes part) (Some (rest (after_read file (length part))))
gave file size part front some =
    let left : List ℕ = rest file in
    let whole : part ++ (front.0 ++ drop size left) ≡ left = sym (append_assoc part front.0 (drop size left)) ∙ (ap (λ (xs : List ℕ). xs ++ drop size left) front.1 ∙ take-append-drop size left) in
    let behind : drop (length part) left ≡ front.0 ++ drop size left = ap (λ (xs : List ℕ). drop (length part) xs) (sym whole) ∙ drop_at part (front.0 ++ drop size left) (length part) refl in
    let goes : drop (file.place + length part) file.bytes ≡ drop (length part) left = sym (drop-drop (length part) file.place file.bytes) in (
      sym whole ∙ ap (λ (xs : List ℕ). part ++ xs) (sym (goes ∙ behind)),
      λ none asked. goes ∙ drop_all (length part) left (omega (arith, ap length (nothing_taken size left asked (some none)))),
    )

gave_exact : (file : FlatFile) (size : ℕ) (reply : FileReply) (after : FlatFile) → ◌≡◌ {A = FileReply × FlatFile} (reply, after) (gives file (take size (rest file))) → GivesNext (Some (rest file)) size reply (Some (rest after))
gave_exact file size reply after exact =
    let part : List ℕ = take size (rest file) in
    subst (λ (outcome : FileReply × FlatFile). GivesNext (Some (rest file)) size outcome.0 (Some (rest outcome.1))) (sym exact) (gave file size part ([], append-nil part) (λ none. none))

gave_part : (file : FlatFile) (size : ℕ) (reply : FileReply) (after : FlatFile) → Transfers file (ReadInto1 size) (take size (rest file)) reply after → GivesNext (Some (rest file)) size reply (Some (rest after))
gave_part file size reply after moved = subst (λ (outcome : FileReply × FlatFile). GivesNext (Some (rest file)) size outcome.0 (Some (rest outcome.1))) (sym moved.outcome) (gave file size moved.part moved.front moved.some)

gave_by : (buffering : Buffering) (file : FlatFile) (size : ℕ) (reply : FileReply) (after : FlatFile) → CarriedOut file (ReadInto1 size) (if_over_raw buffering (take size (rest file))) reply after → GivesNext (Some (rest file)) size reply (Some (rest after))
gave_by InMemory file size reply after carried = gave_exact file size reply after carried
gave_by Unbuffered file size reply after carried = gave_part file size reply after carried
gave_by (Buffered holds) file size reply after carried = gave_part file size reply after carried

-- a call that gives none leaves those that are left
stays : (file : FlatFile) (size : ℕ) (why : IoFault) (reply : FileReply) (after : FlatFile) → reply ≡ Refused why → rest after ≡ rest file → GivesNext (Some (rest file)) size reply (Some (rest after))
stays file size why reply after says same = subst (λ (own : FileReply). GivesNext (Some (rest file)) size own (Some (rest after))) (sym says) same

gave_settled : (refused : Option IoFault) (file : FlatFile) (size : ℕ) (reply : FileReply) (after : FlatFile) → SettledBy file (ReadInto1 size) refused reply after → GivesNext (Some (rest file)) size reply (Some (rest after))
gave_settled (Some why) file size reply after by = stays file size why reply after by.0 (ap rest by.1)
gave_settled None file size reply after by = gave_by file.buffering file size reply after by

-- a reading by one transfer gives the next of the bytes that are left; a fault leaves its place
pub reading_gives : (file : FlatFile) (size : ℕ) (reply : FileReply) (short faulted : Bool) (after : FlatFile) → BinaryStep file (ReadInto1 size) reply short faulted after → (reply ≡ Refused fault.RawFault → after.place ≡ file.place) → GivesNext (Some (rest file)) size reply (Some (rest after))
reading_gives file size reply short faulted after (settled by) still = gave_settled (refusal file (ReadInto1 size)) file size reply after by
reading_gives file size reply short faulted after (waited_for waited by) still = subst (λ (own : FileReply). GivesNext (Some (rest file)) size own (Some (rest after))) (sym by.1.0) (ap rest by.1.1)
reading_gives file size reply short faulted after (raw_faulted faults says left) still =
    let bytes : after.bytes ≡ file.bytes = left.1.2.bytes_are ∙ ap (lay file.bytes file.place) (take_all left.1.0 [] (omega arith)) in
    stays file size fault.RawFault reply after says (ap (λ (own : List ℕ). drop after.place own) bytes ∙ ap (λ (place : ℕ). drop place file.bytes) (still says))
reading_gives file size reply short faulted after (out_of_memory says left) still = stays file size fault.NoMemory reply after says (ap rest left.1)

in_memory : (file : FlatFile) (size : ℕ) (reply : FileReply) (after : FlatFile) → CarriedOutInMemory file (ReadInto1 size) reply after → GivesNext (Some (rest file)) size reply (Some (rest after))
in_memory file size (Refused why) after by = ap rest by.2
in_memory file size reply after by = gave_exact file size reply after by

-- so does one of a stream in memory
pub memory_gives : (refused : Option IoFault) (file : FlatFile) (size : ℕ) (reply : FileReply) (after : FlatFile) → AnswersWith refused file (ReadInto1 size) reply after → GivesNext (Some (rest file)) size reply (Some (rest after))
memory_gives (Some why) file size reply after by = stays file size why reply after by.0 (ap rest by.1)
memory_gives None file size reply after by = in_memory file size reply after by

-- Looking ahead.

-- a `peek` leaves what is left, and shows nothing only where nothing is
abbrev pub LooksOn : FlatFile → FileReply → FlatFile → Type 0
LooksOn file reply after = (rest after ≡ rest file) × (reply ≡ Bytes [] → rest file ≡ [])

-- where one transfer without a size asks for nothing, there is nothing
full_by : (all : Bool) (size : ℕ) (bytes : List ℕ) → nat_eq size 0 ≡ all → (if all then bytes else take size bytes) ≡ [] → bytes ≡ []
full_by true size bytes same none = none
full_by false size bytes same none = nothing_taken size bytes (grind arith) none

full_none : (buffering : Buffering) (bytes : List ℕ) → buffer_full buffering bytes ≡ [] → bytes ≡ []
full_none Unbuffered bytes none = none
full_none (Buffered size) bytes none = full_by (nat_eq size 0) size bytes refl none
full_none InMemory bytes none = none

-- bytes that are given alike are the same
bytes_are : (xs ys : List ℕ) → Bytes xs ≡ Bytes ys → xs ≡ ys
bytes_are xs ys same = cc

looked : (file : FlatFile) (reply : FileReply) (after : FlatFile) → Transfers file Peek (buffer_full file.buffering (rest file)) reply after → LooksOn file reply after
looked file reply after moved =
    let says : reply ≡ Bytes moved.part = ap (λ (outcome : FileReply × FlatFile). outcome.0) moved.outcome in (
      ap (λ (outcome : FileReply × FlatFile). rest outcome.1) moved.outcome,
      λ none. full_none file.buffering (rest file) (moved.some (bytes_are moved.part [] (sym says ∙ none))),
    )

looked_settled : (refused : Option IoFault) (file : FlatFile) (reply : FileReply) (after : FlatFile) → SettledBy file Peek refused reply after → LooksOn file reply after
looked_settled (Some why) file reply after by = (ap rest by.1, λ none. absurd (let says : Refused why ≡ Bytes [] = sym by.0 ∙ none in cc))
looked_settled None file reply after by = looked file reply after by

pub looking_on : (file : FlatFile) (reply : FileReply) (short faulted : Bool) (after : FlatFile) → BinaryStep file Peek reply short faulted after → (reply ≡ Refused fault.RawFault → after.place ≡ file.place) → LooksOn file reply after
looking_on file reply short faulted after (settled by) still = looked_settled (refusal file Peek) file reply after by
looking_on file reply short faulted after (waited_for waited by) still = (ap rest by.1.1, λ none. absurd (let says : NotReady ≡ Bytes [] = sym by.1.0 ∙ none in cc))
looking_on file reply short faulted after (raw_faulted faults says left) still =
    let bytes : after.bytes ≡ file.bytes = left.1.2.bytes_are ∙ ap (lay file.bytes file.place) (take_all left.1.0 [] (omega arith)) in (
      ap (λ (own : List ℕ). drop after.place own) bytes ∙ ap (λ (place : ℕ). drop place file.bytes) (still says),
      λ none. absurd (let never : Refused fault.RawFault ≡ Bytes [] = sym says ∙ none in cc),
    )
looking_on file reply short faulted after (out_of_memory says left) still = (ap rest left.1, λ none. absurd (let never : Refused fault.NoMemory ≡ Bytes [] = sym says ∙ none in cc))

-- All bytes.

settled_flush : (file after : FlatFile) (reply : FileReply) (why : Option IoFault) → SettledBy file Flush why reply after → after.bytes ≡ file.bytes
settled_flush file after reply (Some why) by = ap (λ (own : FlatFile). own.bytes) by.1
settled_flush file after reply None by = ap (λ (outcome : FileReply × FlatFile). outcome.1.bytes) by

settled_still : (file after : FlatFile) (reply : FileReply) (why : Option IoFault) → SettledBy file Flush why reply after → after.place ≡ file.place
settled_still file after reply (Some why) by = ap (λ (own : FlatFile). own.place) by.1
settled_still file after reply None by = ap (λ (outcome : FileReply × FlatFile). outcome.1.place) by

-- a flush keeps them
pub flush_keeps : (file after : FlatFile) (reply : FileReply) (short faulted : Bool) → BinaryStep file Flush reply short faulted after → after.bytes ≡ file.bytes
flush_keeps file after reply short faulted (settled by) = settled_flush file after reply (refusal file Flush) by
flush_keeps file after reply short faulted (waited_for waited by) = ap (λ (own : FlatFile). own.bytes) by.1.1
flush_keeps file after reply short faulted (raw_faulted faults says left) = left.1.2.bytes_are ∙ ap (lay file.bytes file.place) (take_all left.1.0 [] (omega arith))
flush_keeps file after reply short faulted (out_of_memory says left) = ap (λ (own : FlatFile). own.bytes) left.1

-- and the place, where a fault does
pub flush_still : (file after : FlatFile) (reply : FileReply) (short faulted : Bool) → BinaryStep file Flush reply short faulted after → (reply ≡ Refused fault.RawFault → after.place ≡ file.place) → after.place ≡ file.place
flush_still file after reply short faulted (settled by) still = settled_still file after reply (refusal file Flush) by
flush_still file after reply short faulted (waited_for waited by) still = ap (λ (own : FlatFile). own.place) by.1.1
flush_still file after reply short faulted (raw_faulted faults says left) still = still says
flush_still file after reply short faulted (out_of_memory says left) still = ap (λ (own : FlatFile). own.place) left.1

settled_seek : (file after : FlatFile) (offset whence : ℤ) (reply : FileReply) (why : Option IoFault) → SettledBy file (Seek offset whence) why reply after → after.bytes ≡ file.bytes
settled_seek file after offset whence reply (Some why) by = ap (λ (own : FlatFile). own.bytes) by.1
settled_seek file after offset whence reply None by = ap (λ (outcome : FileReply × FlatFile). outcome.1.bytes) by

-- so does a seek
pub seek_keeps : (file after : FlatFile) (offset whence : ℤ) (reply : FileReply) (short faulted : Bool) → BinaryStep file (Seek offset whence) reply short faulted after → after.bytes ≡ file.bytes
seek_keeps file after offset whence reply short faulted (settled by) = settled_seek file after offset whence reply (refusal file (Seek offset whence)) by
seek_keeps file after offset whence reply short faulted (waited_for waited by) = ap (λ (own : FlatFile). own.bytes) by.1.1
seek_keeps file after offset whence reply short faulted (raw_faulted faults says left) = left.1.2.bytes_are ∙ ap (lay file.bytes file.place) (take_all left.1.0 [] (omega arith))
seek_keeps file after offset whence reply short faulted (out_of_memory says left) = ap (λ (own : FlatFile). own.bytes) left.1

-- The bytes up to the place.

laid_some : (bytes : List ℕ) (place : ℕ) (own : List ℕ) (taken count : ℕ) → taken ≤ count → count ≤ length own → 0 < count → filled_to (lay bytes place (take count own)) (place + taken) ≡ filled_to bytes place ++ take taken own
laid_some bytes place own taken count covers within some =
    let many : length (take count own) ≡ count = length-take-le count own within in
    filled_laid bytes place (take count own) taken (omega (arith, many)) (omega (arith, many)) ∙ ap (λ (xs : List ℕ). filled_to bytes place ++ xs) (take-take taken count own covers)

-- where at least as many bytes are laid as were taken, those up to the place grow by those that were taken
pub laid_grows : (bytes : List ℕ) (place : ℕ) (own : List ℕ) (taken count : ℕ) → taken ≤ count → count ≤ length own → filled_to (lay bytes place (take count own)) (place + taken) ≡ filled_to bytes place ++ take taken own
laid_grows bytes place own zero zero covers within = ap (filled_to bytes) (add-zero place) ∙ sym (append-nil (filled_to bytes place))
laid_grows bytes place own (suc taken) zero covers within = absurd (omega arith)
laid_grows bytes place own taken (suc count) covers within = laid_some bytes place own taken (suc count) covers within (omega arith)
