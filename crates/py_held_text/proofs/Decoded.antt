-- All items of some bytes, decoded at once, and read by the newline rule.
use Rattle.std.proofs.Common.{◌≡◌, ◌⊎◌, inl, inr, ℕ, zero, suc, ◌+◌, ◌-◌, ◌*◌, ◌^◌, ◌<◌, ◌≤◌, Bool, false, true, List, [], ◌∷◌, ◌++◌, length as len, take, drop, chars, encode_utf8_all, Result, Ok, Err, IfOk, String, string_bytes, refl, sym, ap, subst, ◌∙◌, arith, append-nil}
use Rattle.std.specs.declared.alloc.Global.{Global}
use Rattle.std.specs.String.{string_len}
use Rattle.std.proofs.lemmas.List.{length-append, nil_from_length}
use Rattle.std.proofs.lemmas.Str.{IsUtf8-string_bytes, encodes-chars, chars-nil}
use Rattle.memchr.specs.Find.{Nowhere, Passes, is_byte}
use Rattle.py_flat.specs.Lines.{cr}
use Rattle.py_flat.specs.declared.fault.IoFault.{IoFault}
use Rattle.py_plain.specs.declared.encoding.Encoding.{Encoding}
use Rattle.py_plain.specs.declared.handler.Handler.{Handler}
use Rattle.py_plain.specs.declared.newlines.Newlines.{Newlines}
use Rattle.py_plain.specs.declared.newlines.Newlines.TheVariants as rule
use Rattle.py_plain.specs.Units.{Order, Unknown}
use Rattle.py_plain.specs.Handlers.{Treatment, treatment}
use Rattle.py_plain.specs.Items.{Item, Ending, AtEnd, AtRange, AtCut, Walk, walk_from, characters_of}
use Rattle.py_plain.specs.NewlineRule.{universal, ends_held, read_so_far, holds_after}
use Rattle.py_plain.specs.Pieces.{items_before}
use Rattle.py_plain.proofs.Walks.{walk-order}
use Rattle.py_telling.proofs.Anywhere.{alike_anywhere}
use Rattle.py_codec.specs.declared.front.FrontDecoded.{FrontDecoded}
use Rattle.py_codec.specs.declared.front.FrontStop.TheVariants as ends
use Rattle.py_codec.specs.Answers.{text_of}
use Rattle.py_codec.specs.Decoding.{walk_here, walk_past}
use Rattle.py_codec.specs.Front.{items_for, bytes_in, front_stop, GivesFront}
use Rattle.py_blocks.proofs.Appended.{chars-fit}
use Rattle.py_text.specs.NewlinePieces.{IsCopied}
use Rattle.py_text.proofs.Copying.{Lacks, lacks-passed, copied}
use Rattle.py_held_text.specs.Known.{IsPart, IsPlain}
use Rattle.py_held_text.specs.Plain.{KeepsFronts}
use Rattle.py_held_text.proofs.Reading.{universal-spelled}

-- items that have fewer characters than are wanted are all
all-for : (want : ℕ) (items : List Item) → len (characters_of (items_for want items)) < want → items_for want items ≡ items
all-for zero items less = absurd (omega (arith, less))
all-for (suc more) [] less = refl
all-for (suc more) (item ∷ items) less =
    let behind : List Item = items_for (suc more - len item.characters) items in
    ap (λ (is : List Item). item ∷ is) (all-for (suc more - len item.characters) items (omega (arith, less, length-append item.characters (characters_of behind))))

stop-some : (missing : ℕ) (ending : Ending) → 1 ≤ missing → front_stop missing ending ≡ front_stop 1 ending
stop-some zero ending some = absurd (omega (arith, some))
stop-some (suc missing) AtEnd some = refl
stop-some (suc missing) (AtRange start end) some = refl
stop-some (suc missing) (AtCut start) some = refl

-- a front that stops for another cause than that it has as many as are wanted lacks some
pub lacks-drained : (missing : ℕ) (ending : Ending) → front_stop missing ending ≡ ends.Drained → 1 ≤ missing
lacks-drained zero ending is = absurd (cc)
lacks-drained (suc missing) ending is = omega arith

pub lacks-refused : (missing : ℕ) (ending : Ending) (start end : ℕ) → front_stop missing ending ≡ ends.Refused start end → 1 ≤ missing
lacks-refused zero ending start end is = absurd (cc)
lacks-refused (suc missing) ending start end is = omega arith

-- one that has as many lacks none
pub lacks-none : (missing : ℕ) (ending : Ending) → front_stop missing ending ≡ ends.Wanted → missing ≡ 0
lacks-none zero ending is = refl
lacks-none (suc missing) AtEnd is = absurd (cc)
lacks-none (suc missing) (AtRange start end) is = absurd (cc)
lacks-none (suc missing) (AtCut start) is = absurd (cc)

-- a part that lacks characters is all
pub record IsAll (want : ℕ) (walk : Walk) (front : FrontDecoded) : Type 0 where
  pub stop : front.stop ≡ front_stop 1 walk.ending
  pub items : items_for want walk.items ≡ walk.items

pub part-all : (want : ℕ) (walk : Walk) (behind : ℕ → Walk) (front : FrontDecoded) → IsPart want walk behind front → 1 ≤ want - front.chars → IsAll want walk front
part-all want walk behind front part some = record {
  stop = part.stop ∙ stop-some (want - front.chars) walk.ending some;
  items = all-for want walk.items (omega (arith, some, part.chars));
}

-- a part of bytes too few for as many characters as are wanted is all of them, wherever they stand
pub all-anywhere : (handler : Handler) (encoding : Encoding) (last : Bool) (bytes : List ℕ) (want place : ℕ) (front : FrontDecoded) → IsPart want (walk_here encoding (treatment handler encoding) last bytes 0) (walk_here encoding (treatment handler encoding) last bytes) front → front.used ≤ len bytes → 6 * len bytes < want → characters_of (items_for want (walk_here encoding (treatment handler encoding) last bytes 0).items) ≡ characters_of (walk_from encoding (treatment handler encoding) last Unknown place 0 bytes).items
all-anywhere handler encoding last bytes want place front part within few =
    let walk : Walk = walk_here encoding (treatment handler encoding) last bytes 0 in
    let all = part-all want walk (walk_here encoding (treatment handler encoding) last bytes) front part (omega (arith, part.few, within, few)) in
    ap characters_of all.items ∙ (alike_anywhere handler encoding last Unknown 0 place bytes).characters

-- what was given of a decoding
abbrev Gives : (encoding : Encoding) (treat : Treatment) (last : Bool) (bytes : List ℕ) (want : ℕ) (text : String Global) (steps later : ℕ) → FrontDecoded → Type 0
Gives encoding treat last bytes want text steps later front = GivesFront want (items_for want (walk_here encoding treat last bytes 0).items) (walk_here encoding treat last bytes 0) (walk_past encoding treat last bytes) [] (text_of text) steps later front

part : (encoding : Encoding) (treat : Treatment) (last : Bool) (bytes : List ℕ) (want : ℕ) (text : String Global) (steps later : ℕ) (front : FrontDecoded) → len (characters_of (items_for want (walk_here encoding treat last bytes 0).items)) ≤ 6 * bytes_in (items_for want (walk_here encoding treat last bytes 0).items) → Gives encoding treat last bytes want text steps later front → IsPart want (walk_here encoding treat last bytes 0) (walk_here encoding treat last bytes) front
part encoding treat last bytes want text steps later front few gives =
    let walk : Walk = walk_here encoding treat last bytes 0 in
    let items : List Item = items_for want walk.items in
    let reached : Order = gives.1.0 in
    let unknown : reached ≡ Unknown = sym (walk-order encoding treat last reached front.used 0 (drop front.used bytes)) ∙ (ap (λ (w : Walk). w.order) (sym gives.1.1) ∙ walk-order encoding treat last Unknown 0 0 (drop 0 bytes)) in
    record {
      used = gives.0.used;
      chars = gives.0.chars;
      few = omega (arith, gives.0.used, gives.0.chars, few);
      fits = omega (arith, gives.0.chars, chars-fit text, ap (λ (t : List ℕ). len t) gives.2);
      stop = gives.0.stop ∙ ap (λ (n : ℕ). front_stop (want - n) walk.ending) (sym gives.0.chars);
      goes_on = gives.1.1 ∙ ap (λ (order : Order). items_before items (walk_past encoding treat last bytes order front.used)) unknown;
    }

-- what a decoding that was answered is
pub part-if : (encoding : Encoding) (treat : Treatment) (last : Bool) (bytes : List ℕ) (want steps later : ℕ) (result : Result (String Global × FrontDecoded) IoFault) → len (characters_of (items_for want (walk_here encoding treat last bytes 0).items)) ≤ 6 * bytes_in (items_for want (walk_here encoding treat last bytes 0).items) → IfOk result (λ t. Gives encoding treat last bytes want t.0 steps later t.1) → IfOk result (λ t. IsPart want (walk_here encoding treat last bytes 0) (walk_here encoding treat last bytes) t.1)
part-if encoding treat last bytes want steps later (Ok t) few gives = part encoding treat last bytes want t.0 steps later t.1 few gives
part-if encoding treat last bytes want steps later (Err why) few gives = tt

pub text-if : (encoding : Encoding) (treat : Treatment) (last : Bool) (bytes : List ℕ) (want steps later : ℕ) (result : Result (String Global × FrontDecoded) IoFault) → IfOk result (λ t. Gives encoding treat last bytes want t.0 steps later t.1) → IfOk result (λ t. text_of t.0 ≡ characters_of (items_for want (walk_here encoding treat last bytes 0).items))
text-if encoding treat last bytes want steps later (Ok t) gives = gives.2
text-if encoding treat last bytes want steps later (Err why) gives = tt

-- By the universal rule.

-- a text in which no CR stands
pub plain-text : (cs : List ℕ) → IsCopied cs cs false (chars []) → IsPlain cs true
plain-text cs copied = λ is. (
  copied.gives ∙ (ap (λ (t : List ℕ). cs ++ universal false t) chars-nil ∙ append-nil cs),
  copied.holds ∙ ap (ends_held false) chars-nil,
)

-- bytes in which no CR stands
pub keeps-fronts : (bytes : List ℕ) → Nowhere (Passes (is_byte cr) bytes) 0 (len bytes) → KeepsFronts rule.Universal bytes
keeps-fronts bytes none size within utf8 =
    let text : List ℕ = take size bytes in
    let lacks : Lacks cr (encode_utf8_all (chars text)) = subst (Lacks cr) (sym (encodes-chars text utf8)) (lacks-passed cr bytes size (λ k low high. none k low (omega (arith, high, within)))) in
    let same = copied (chars text) [] lacks in (
      ap (universal false) (sym (append-nil (chars text))) ∙ (same.0 ∙ append-nil (chars text)),
      ap (ends_held false) (sym (append-nil (chars text))) ∙ same.1,
    )

-- a text behind none
pub behind-empty : (text more : String Global) → string_len text ≡ 0 → text_of more ≡ text_of text ++ text_of more
behind-empty text more none = ap (λ (t : List ℕ). t ++ text_of more) (sym (ap chars (nil_from_length (string_bytes text) (omega (arith, none, text.bytes.ok.0))) ∙ chars-nil))

-- a string has so many bytes
pub string-spelled : (text : String Global) → string_len text ≡ len (encode_utf8_all (text_of text))
string-spelled text = text.bytes.ok.0 ∙ ap (λ (t : List ℕ). len t) (sym (encodes-chars (string_bytes text) (IsUtf8-string_bytes text)))

pub string-fits : (text : String Global) → string_len text < 2 ^ 63
string-fits text = omega (arith, text.bytes.ok.0, text.bytes.ok.1, text.bytes.small)

-- by each rule but the universal one characters are as they came
pub as-came : (newline : Newlines) (cr : Bool) (cs : List ℕ) → (newline ≡ rule.Passthrough) ⊎ ((newline ≡ rule.Lf) ⊎ ((newline ≡ rule.Cr) ⊎ (newline ≡ rule.Crlf))) → (cs ≡ read_so_far newline cr cs) × (false ≡ holds_after newline cr cs)
as-came rule.Universal cr cs is = absurd (elim is [ inl one ↦ cc | inr more ↦ elim more [ inl one ↦ cc | inr last ↦ elim last [ inl one ↦ cc | inr one ↦ cc ] ] ])
as-came rule.Passthrough cr cs is = (refl, refl)
as-came rule.Lf cr cs is = (refl, refl)
as-came rule.Cr cr cs is = (refl, refl)
as-came rule.Crlf cr cs is = (refl, refl)

same-count : (cs : List ℕ) (raw read : String Global) → text_of raw ≡ cs → text_of read ≡ cs → len cs + string_len read ≡ string_len raw + len cs
same-count cs raw read raw_is read_is = omega (arith, string-spelled read, string-spelled raw, ap (λ (t : List ℕ). len (encode_utf8_all t)) (read_is ∙ sym raw_is))

-- what a rule gives of what was decoded has as many characters as this
pub read-count : (newline : Newlines) (cr : Bool) (cs : List ℕ) (raw read : String Global) → text_of raw ≡ cs → text_of read ≡ read_so_far newline cr cs → len cs + string_len read ≡ string_len raw + len (read_so_far newline cr cs)
read-count rule.Universal cr cs raw read raw_is read_is =
    omega (arith, string-spelled read, string-spelled raw, universal-spelled cr cs, ap (λ (t : List ℕ). len (encode_utf8_all t)) read_is, ap (λ (t : List ℕ). len (encode_utf8_all t)) raw_is)
read-count rule.Passthrough cr cs raw read raw_is read_is = same-count cs raw read raw_is read_is
read-count rule.Lf cr cs raw read raw_is read_is = same-count cs raw read raw_is read_is
read-count rule.Cr cr cs raw read raw_is read_is = same-count cs raw read raw_is read_is
read-count rule.Crlf cr cs raw read raw_is read_is = same-count cs raw read raw_is read_is
