-- A settled reply of a text blames neither the raw nor memory.
use Rattle.std.proofs.Common.{◌≡◌, ◌≢◌, ℕ, Bool, true, false, List, Option, Some, None, refl, sym, ap, ◌∙◌}
use Rattle.py_flat.specs.declared.fault.IoFault.{IoFault}
use Rattle.py_flat.specs.declared.fault.IoFault.TheVariants as fault
use Rattle.py_flat.specs.declared.life.Life.{Life}
use Rattle.py_flat.specs.declared.life.Life.TheVariants as life
use Rattle.py_flat.specs.Calls.{FileReply, NotReady, Refused}
use Rattle.py_flat.proofs.Settling.{blames}
use Rattle.py_plain_text.specs.Cookie as cookie
use Rattle.py_plain_text.specs.Landing.{Landed, Stands, CantRestore, lands}
use Rattle.py_plain_text.specs.Rest.{text_rest}
use Rattle.py_plain_text.specs.TextFile.{TextFile}
use Rattle.py_plain_text.specs.TextStep.{range_refusal, answered_text}
use Rattle.py_plain_text.specs.TextCalls.{TextFileCall, Read, ReadLine, SeekText, Detach}
use Rattle.py_plain_text.specs.TextRefusals.{refusal}
use Rattle.py_plain_text.specs.TextExact.{carried_out, sought_cookie, after_landing}
use Rattle.py_plain_text.specs.TextAllowed.{DetachesIn, Accepted, SettledBy, Settled}
use Rattle.py_textio.proofs.Faults.{IsOwn, own_refusal}

-- a reply that isn't ready, or of which the fault is the raw's or a want of memory
abbrev pub blames_other : FileReply → Bool
blames_other NotReady = true
blames_other (Refused why) = blames why
blames_other reply = false

-- what refuses a call by nothing but the text and the call blames no other
own_blames : (why : IoFault) → IsOwn (Some why) → blames why ≡ false
own_blames fault.CannotRestore own = refl
own_blames why own = own

-- What an accepted call answers.

-- a pair of a reply and a text, by what it is
says_of : (reply : FileReply) (after : TextFile) (pair : FileReply × TextFile) → (reply, after) ≡ pair → blames_other pair.0 ≡ false → blames_other reply ≡ false
says_of reply after pair is own = ap (λ (p : FileReply × TextFile). blames_other p.0) is ∙ own

own_range : (passes : Bool) (range : Option (ℕ × ℕ)) → IsOwn (range_refusal passes range)
own_range passes None = tt
own_range true (Some range) = refl
own_range false (Some range) = tt

own_text : (file : TextFile) (refused : Option IoFault) (characters : List ℕ) (after : TextFile) → IsOwn refused → blames_other (answered_text file refused characters after).0 ≡ false
own_text file None characters after own = refl
own_text file (Some why) characters after own = own_blames why own

own_landing : (file : TextFile) (sought : cookie.Cookie) (landed : Landed) → blames_other (after_landing file sought landed).0 ≡ false
own_landing file sought (Stands place) = refl
own_landing file sought (CantRestore place) = refl

own_carried : (file : TextFile) (call : TextFileCall) → blames_other (carried_out file call).0 ≡ false
own_carried file (Read size) = own_text file _ _ _ (own_range _ (text_rest file).refusal)
own_carried file (ReadLine limit) = own_text file _ _ _ (own_range _ (text_rest file).refusal)
own_carried file (SeekText bytes whence) = own_landing file (sought_cookie file bytes whence) (lands file (sought_cookie file bytes whence))
own_carried file call = refl

own_detach : (current : Life) (file : TextFile) (reply : FileReply) (after : TextFile) → DetachesIn current file reply after → blames_other reply ≡ false
own_detach life.Failed file reply after is = ap blames_other is.says
own_detach life.Live file reply after is = says_of reply after (carried_out file Detach) is (own_carried file Detach)
own_detach life.Closed file reply after is = says_of reply after (carried_out file Detach) is (own_carried file Detach)
own_detach life.Detached file reply after is = says_of reply after (carried_out file Detach) is (own_carried file Detach)

own_accepted : (file : TextFile) (call : TextFileCall) (reply : FileReply) (after : TextFile) → Accepted file call reply after → blames_other reply ≡ false
own_accepted file Detach reply after is = own_detach file.life file reply after is
own_accepted file call reply after is = says_of reply after (carried_out file call) is (own_carried file call)

own_settled : (file : TextFile) (call : TextFileCall) (refused : Option IoFault) (reply : FileReply) (after : TextFile) → IsOwn refused → SettledBy file call refused reply after → blames_other reply ≡ false
own_settled file call None reply after own is = own_accepted file call reply after is
own_settled file call (Some why) reply after own is = ap blames_other is.0 ∙ own_blames why own

-- a settled reply blames no other
pub settled_own : (file : TextFile) (call : TextFileCall) (reply : FileReply) (after : TextFile) → Settled file call reply after → blames_other reply ≡ false
settled_own file call reply after is = own_settled file call (refusal file call) reply after (own_refusal file call) is

-- so it is none of those that do
pub settled_not : (file : TextFile) (call : TextFileCall) (reply other : FileReply) (after : TextFile) → blames_other other ≡ true → Settled file call reply after → reply ≢ other
settled_not file call reply other after blamed is same =
    let never : true ≡ false = sym blamed ∙ (ap blames_other (sym same) ∙ settled_own file call reply after is) in
    absurd (cc)
