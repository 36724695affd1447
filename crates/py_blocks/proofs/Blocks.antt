-- Blocks of ASCII in UTF-16: the halves of their bytes, what they are written as, and runs and fronts of them.
use Rattle.std.proofs.Common.{◌≡◌, ℕ, zero, suc, ◌+◌, ◌-◌, ◌*◌, ◌%◌, ◌^◌, ◌<◌, ◌≤◌, Bool, true, false, not, leb, cond, List, [], ◌∷◌, ◌++◌, map, length, take, drop, replicate, Some, refl, sym, ap, subst, ◌∙◌, arith, w8}
use lib.Lanes.{zip2, mask_l, pick_l, top}
use borrow.Author.Tests.{leb-false}
use Rattle.std.specs.Bool.{OnTrue}
use Rattle.std.specs.Char.{IsScalar}
use Rattle.std.specs.List.{All, range_with_len}
use Rattle.std.specs.Str.{IsAscii, chars}
use Rattle.std.proofs.Math.Seq.{take-add, take-append_seam}
use Rattle.std.proofs.lemmas.List.{append_assoc, length-map, length-take, length-drop, take_all, take-append-drop, drop-drop}
use Rattle.std.proofs.lemmas.List.Elements.{All-nil, All-cons, All-head, All-tail, All-append, All-weaker}
use Rattle.std.proofs.lemmas.Simd.{tops_compared, zip2_splat_left, mask_l-mod, pick_l_whole}
use Rattle.std.proofs.lemmas.Str.{chars-append, chars-IsAscii, IsUtf8-from_ascii}
use Rattle.py_plain.specs.declared.encoding.Encoding.{Encoding}
use Rattle.py_plain.specs.Encode.{own_bytes, text_bytes}
use Rattle.py_blocks.specs.Runs.{IsRun, utf16}
use Rattle.py_blocks.specs.Blocks.{paired}
use Rattle.py_blocks.specs.Writing.{Wrote}
use Rattle.py_blocks.proofs.Written.{joined_both, text_bytes-both, Wrote-more}
use Rattle.py_blocks.proofs.OwnUnits.{own_unit}
use Rattle.py_blocks.proofs.Running.{IsRun-window}

-- Bytes below a limit.

bit_clear : (b : Bool) (n : ℕ) → cond b 1 0 + n ≡ 0 → b ≡ false
bit_clear true n none = absurd (omega arith)
bit_clear false n none = refl

none_set : (p : ℕ → Bool) (bytes : List ℕ) → mask_l (map p bytes) ≡ 0 → All (λ byte. p byte ≡ false) bytes
none_set p [] none = All-nil (λ byte. p byte ≡ false)
none_set p (b ∷ bytes) none = All-cons (λ byte. p byte ≡ false) b bytes (bit_clear (p b) _ none) (none_set p bytes (omega arith))

-- the mask of the bytes that reach a limit is empty
pub below-none : (bytes : List ℕ) (limit : ℕ) → length bytes ≡ 16 → mask_l (map (top 7) (zip2 (λ a b. cond (leb a b) 255 0) (replicate 16 limit) bytes)) % 2 ^ 64 ≡ 0 → All (λ byte. byte < limit) bytes
below-none bytes limit long empty =
    let flags : map (top 7) (zip2 (λ a b. cond (leb a b) 255 0) (replicate 16 limit) bytes) ≡ map (leb limit) bytes =
    tops_compared w8 leb (replicate 16 limit) bytes ∙ zip2_splat_left leb limit 16 bytes long in
    let none : mask_l (map (leb limit) bytes) ≡ 0 =
    sym (mask_l-mod (map (leb limit) bytes) 64 (omega (arith, length-map bytes (leb limit)))) ∙ ap (λ flags. mask_l flags % 2 ^ 64) (sym flags) ∙ empty in
    All-weaker (λ byte. leb limit byte ≡ false) (λ byte. byte < limit) (λ byte. leb-false limit byte) bytes (none_set (leb limit) bytes none)

pub OnTrue-twice : (b : Bool) (P : Type 0) → (b ≡ true → P) → OnTrue (not (not b)) P
OnTrue-twice true P is = is refl
OnTrue-twice false P is = tt

-- The two halves of a block's bytes.

-- every second place
abbrev pub every_second : (count from : ℕ) → List ℕ
every_second zero from = []
every_second (suc count) from = from ∷ every_second count (from + 2)

-- places of one list of 16 and of another after it in turn
abbrev pub in_turn : (count from : ℕ) → List ℕ
in_turn zero from = []
in_turn (suc count) from = from ∷ (from + 16) ∷ in_turn count (from + 1)

pub paired-halves : (wide : List ℕ) → length wide ≡ 32 → paired (pick_l 0 (take 16 wide ++ take 16 (drop 16 wide)) (every_second 16 0)) (pick_l 0 (take 16 wide ++ take 16 (drop 16 wide)) (every_second 16 1)) ≡ wide
unfolding paired
paired-halves wide long =
    let same : take 16 wide ++ take 16 (drop 16 wide) ≡ wide =
    ap (λ back. take 16 wide ++ back) (take_all 16 (drop 16 wide) (omega (arith, length-drop 16 wide))) ∙ take-append-drop 16 wide in
    subst (λ bytes. paired (pick_l 0 bytes (every_second 16 0)) (pick_l 0 bytes (every_second 16 1)) ≡ wide) (sym same) (pick_l_whole 0 wide 32 long)

pub paired-joined : (first second : List ℕ) → length first ≡ 16 → length second ≡ 16 → pick_l 0 (first ++ second) (in_turn 16 0) ≡ paired first second
unfolding paired
paired-joined first second one other =
    subst (λ f. pick_l 0 (f ++ second) (in_turn 16 0) ≡ paired f second) (pick_l_whole 0 first 16 one)
    (subst (λ s. pick_l 0 (pick_l 0 first (range_with_len 0 16) ++ s) (in_turn 16 0) ≡ paired (pick_l 0 first (range_with_len 0 16)) s) (pick_l_whole 0 second 16 other) refl)

-- What ASCII is written as.

own_ascii : (big : Bool) (greater lesser : ℕ) → greater < 1 → lesser < 0x80 → own_bytes (utf16 big) lesser ≡ Some (cond big (greater ∷ lesser ∷ []) (lesser ∷ greater ∷ []))
own_ascii true greater lesser none ascii =
    let is : lesser ≡ greater * 256 + lesser = omega arith in
    ap (own_bytes (utf16 true)) is ∙ own_unit true greater lesser (omega arith) (omega arith)
own_ascii false greater lesser none ascii =
    let is : lesser ≡ greater * 256 + lesser = omega arith in
    ap (own_bytes (utf16 false)) is ∙ own_unit false lesser greater (omega arith) (omega arith)

-- the units of characters of ASCII, by the order of their bytes
pub text_bytes-paired : (big : Bool) (greater lesser : List ℕ) → length greater ≡ length lesser → All (λ byte. byte < 1) greater → All (λ byte. byte < 0x80) lesser → text_bytes (utf16 big) lesser ≡ Some (cond big (paired greater lesser) (paired lesser greater))
unfolding paired
text_bytes-paired true [] [] same none ascii = refl
text_bytes-paired false [] [] same none ascii = refl
text_bytes-paired big [] (l ∷ lesser) same none ascii = absurd (omega arith)
text_bytes-paired big (g ∷ greater) [] same none ascii = absurd (omega arith)
text_bytes-paired true (g ∷ greater) (l ∷ lesser) same none ascii =
    joined_both (g ∷ l ∷ []) (paired greater lesser) (own_bytes (utf16 true) l) (text_bytes (utf16 true) lesser)
    (own_ascii true g l (All-head (λ byte. byte < 1) g greater none) (All-head (λ byte. byte < 0x80) l lesser ascii))
    (text_bytes-paired true greater lesser (omega arith) (All-tail (λ byte. byte < 1) g greater none) (All-tail (λ byte. byte < 0x80) l lesser ascii))
text_bytes-paired false (g ∷ greater) (l ∷ lesser) same none ascii =
    joined_both (l ∷ g ∷ []) (paired lesser greater) (own_bytes (utf16 false) l) (text_bytes (utf16 false) lesser)
    (own_ascii false g l (All-head (λ byte. byte < 1) g greater none) (All-head (λ byte. byte < 0x80) l lesser ascii))
    (text_bytes-paired false greater lesser (omega arith) (All-tail (λ byte. byte < 1) g greater none) (All-tail (λ byte. byte < 0x80) l lesser ascii))

-- the UTF-16 of ASCII characters is pairs of a zero and the character, in the order of the bytes
pub text_bytes-ordered : (big : Bool) (greater lesser first second : List ℕ) → first ≡ cond big greater lesser → second ≡ cond big lesser greater → length greater ≡ length lesser → All (λ byte. byte < 1) greater → All (λ byte. byte < 0x80) lesser → text_bytes (utf16 big) lesser ≡ Some (paired first second)
text_bytes-ordered true greater lesser first second one other same none ascii = rw (one, other) (text_bytes-paired true greater lesser same none ascii)
text_bytes-ordered false greater lesser first second one other same none ascii = rw (one, other) (text_bytes-paired false greater lesser same none ascii)

-- first and second bytes in pairs are the UTF-16 of those that are ASCII, where the greater ones by the order are zeros
pub text_bytes-halves : (big : Bool) (first second greater lesser : List ℕ) → greater ≡ cond big first second → lesser ≡ cond big second first → length first ≡ length second → All (λ byte. byte < 1) greater → All (λ byte. byte < 0x80) lesser → text_bytes (utf16 big) lesser ≡ Some (paired first second)
text_bytes-halves true first second greater lesser one other same none ascii =
    text_bytes-ordered true greater lesser first second (sym one) (sym other) (ap length one ∙ same ∙ ap length (sym other)) none ascii
text_bytes-halves false first second greater lesser one other same none ascii =
    text_bytes-ordered false greater lesser first second (sym other) (sym one) (ap length one ∙ sym same ∙ ap length (sym other)) none ascii

-- Runs and fronts.

-- a text after a run
pub IsRun-behind : (encoding : Encoding) (bytes before between after : List ℕ) (used size : ℕ) (text own : List ℕ) → IsRun encoding bytes before between used → used + size ≤ length bytes → All IsScalar text → text_bytes encoding text ≡ Some own → take size (drop used bytes) ≡ own → after ≡ between ++ text → IsRun encoding bytes before after (used + size)
IsRun-behind encoding bytes before between after used size text own run inside scalars written is appended = record {
  text = run.text ++ text;
  scalars = All-append IsScalar run.text text run.scalars scalars;
  within = inside;
  written = text_bytes-both encoding run.text text (take used bytes) own run.written written ∙ ap (λ (b : List ℕ). Some b) (ap (λ b. take used bytes ++ b) (sym is) ∙ sym (take-add used size bytes));
  appended = appended ∙ ap (λ t. t ++ text) run.appended ∙ append_assoc before run.text text;
}

-- a run after a run
pub IsRun-both : (encoding : Encoding) (bytes before between after : List ℕ) (used size : ℕ) → IsRun encoding bytes before between used → IsRun encoding (drop used bytes) between after size → IsRun encoding bytes before after (used + size)
IsRun-both encoding bytes before between after used size run more =
    IsRun-behind encoding bytes before between after used size more.text (take size (drop used bytes)) run (omega (arith, run.within, more.within, length-drop used bytes)) more.scalars more.written refl more.appended

-- a run, then a run of the slice of bytes that are after it, are one run
pub IsRun-sliced : (encoding : Encoding) (bytes before between after : List ℕ) (used size : ℕ) → IsRun encoding bytes before between used → IsRun encoding (take (length bytes - used) (drop used bytes)) between after size → IsRun encoding bytes before after (used + size)
IsRun-sliced encoding bytes before between after used size run more =
    IsRun-both encoding bytes before between after used size run (IsRun-window encoding (drop used bytes) _ between after (length bytes - used) size refl more)

-- a block after a front of it
pub Wrote-block : {encoding : Encoding} {text before between after : List ℕ} {front : ℕ} (size : ℕ) (wide : List ℕ) → Wrote encoding text before between front (drop front text) → front + size ≤ length text → text_bytes encoding (take size (drop front text)) ≡ Some wide → after ≡ between ++ wide → Wrote encoding text before after (front + size) (drop (front + size) text)
Wrote-block {encoding} {text} {before} {between} {after} {front} size wide wrote inside own appended =
    let block : Wrote encoding (drop front text) between after size (drop (front + size) text) = record {
      front = take size (drop front text);
      written = wide;
      split = sym (take-append-drop size (drop front text)) ∙ ap (λ behind. take size (drop front text) ++ behind) (drop-drop size front text);
      counted = omega (arith, length-take size (drop front text), length-drop front text);
      own = own;
      appended = appended;
    } in
    Wrote-more wrote block

-- a front of ASCII is one of the text that the bytes are
pub Wrote-chars : (encoding : Encoding) (text before after : List ℕ) (front : ℕ) → IsAscii (take front text) → Wrote encoding text before after front (drop front text) → Wrote encoding (chars text) before after front (chars (drop front text))
Wrote-chars encoding text before after front ascii wrote =
    let same : take front text ≡ wrote.front =
    ap (λ n. take n text) wrote.counted ∙ ap (take (length wrote.front)) wrote.split ∙ take-append_seam wrote.front (drop front text) in
    let ascii' : IsAscii wrote.front = subst IsAscii same ascii in
    record {
      front = wrote.front;
      written = wrote.written;
      split = ap chars wrote.split ∙ chars-append wrote.front (drop front text) (IsUtf8-from_ascii wrote.front ascii') ∙ ap (λ cs. cs ++ chars (drop front text)) (chars-IsAscii wrote.front ascii');
      counted = wrote.counted;
      own = wrote.own;
      appended = wrote.appended;
    }
