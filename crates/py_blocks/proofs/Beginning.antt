-- How many bytes of UTF-8 begin a character.
use Rattle.std.proofs.Common.{◌≡◌, ℕ, zero, suc, ◌+◌, ◌-◌, ◌*◌, ◌/◌, ◌%◌, ◌^◌, ◌<◌, ◌≤◌, Bool, true, false, ltb, cond, List, [], ◌∷◌, ◌++◌, map, length, take, drop, replicate, refl, sym, ap, ◌∙◌, arith, w8}
use lib.Lanes.{zip2, Each1, mask_l, top}
use lib.Utf8.{encode, next}
use Rattle.std.specs.Int.RustNames.{count_ones}
use Rattle.std.specs.Fmt.{is_char_start}
use Rattle.std.specs.List.{count_by}
use Rattle.std.specs.Bool.{MatchBool}
use Rattle.std.specs.Str.{IsAscii, IsUtf8, chars, encode_utf8_all}
use Rattle.std.proofs.lemmas.Bool.Decides.{nat_tests}
use Rattle.std.proofs.Math.Seq.{take-add}
use native.Mathlib.Nat.{pow-suc, mul_comm, mul_assoc, zero-div, div-one, div-div-eq-div-mul}
use Rattle.std.proofs.Math.Pow.{pow_mono}
use Rattle.std.proofs.lemmas.List.{append_assoc, length-append, map-append, length-take, length-drop, length-map, drop-map, drop-drop, take_all}
use Rattle.std.proofs.lemmas.List.Sums.{sum_by-cons, sum_by-append, sum_by-take-drop, count_by-le-length}
use Rattle.std.proofs.lemmas.Simd.{bitmask_splat, mask_l-lt, ones-mask_l, zip2_splat, map-map}
use Rattle.std.proofs.lemmas.Str.{encodes-chars, IsUtf8-from_ascii, chars-IsAscii}

start-count : (b : ℕ) (bytes : List ℕ) → is_char_start b ≡ true → count_by is_char_start (b ∷ bytes) ≡ 1 + count_by is_char_start bytes
start-count b bytes starts = sum_by-cons (λ x. cond (is_char_start x) 1 0) b bytes ∙ ap (λ t. cond t 1 0 + count_by is_char_start bytes) starts

more-count : (b : ℕ) (bytes : List ℕ) → is_char_start b ≡ false → count_by is_char_start (b ∷ bytes) ≡ count_by is_char_start bytes
more-count b bytes more =
    let step = sum_by-cons (λ x. cond (is_char_start x) 1 0) b bytes ∙ ap (λ t. cond t 1 0 + count_by is_char_start bytes) more in
    omega (arith, step)

start-ascii : (b : ℕ) → b < 128 → is_char_start b ≡ true
start-ascii b below = grind (arith, nat_tests)

start-lead : (b : ℕ) → 192 ≤ b → is_char_start b ≡ true
start-lead b above = grind (arith, nat_tests)

more-next : (c : ℕ) → is_char_start (next c) ≡ false
more-next c = grind (arith, nat_tests)

-- a character begins at one of its bytes
count-cases : (c : ℕ) (one two three : Bool) → ltb c 128 ≡ one → count_by is_char_start (cond one (c ∷ []) (cond two ((192 + c / 64) ∷ next c ∷ []) (cond three ((224 + c / 4096) ∷ next (c / 64) ∷ next c ∷ []) ((240 + c / 262144) ∷ next (c / 4096) ∷ next (c / 64) ∷ next c ∷ [])))) ≡ 1
count-cases c true two three is = start-count c [] (start-ascii c (grind (arith, nat_tests)))
count-cases c false true three is =
    start-count (192 + c / 64) (next c ∷ []) (start-lead (192 + c / 64) (omega arith)) ∙ ap (λ n. 1 + n) (more-count (next c) [] (more-next c))
count-cases c false false true is =
    start-count (224 + c / 4096) (next (c / 64) ∷ next c ∷ []) (start-lead (224 + c / 4096) (omega arith))
    ∙ ap (λ n. 1 + n) (more-count (next (c / 64)) (next c ∷ []) (more-next (c / 64)) ∙ more-count (next c) [] (more-next c))
count-cases c false false false is =
    start-count (240 + c / 262144) (next (c / 4096) ∷ next (c / 64) ∷ next c ∷ []) (start-lead (240 + c / 262144) (omega arith))
    ∙ ap (λ n. 1 + n) (more-count (next (c / 4096)) (next (c / 64) ∷ next c ∷ []) (more-next (c / 4096)) ∙ more-count (next (c / 64)) (next c ∷ []) (more-next (c / 64)) ∙ more-count (next c) [] (more-next c))

count-encode : (c : ℕ) → count_by is_char_start (encode c) ≡ 1
unfolding encode
count-encode c = count-cases c (ltb c 128) (ltb c 2048) (ltb c 65536) refl

-- the bytes of characters have as many that begin one
pub count-encodes : (cs : List ℕ) → count_by is_char_start (encode_utf8_all cs) ≡ length cs
count-encodes [] = refl
count-encodes (c ∷ cs) =
    let step = sum_by-append (λ x. cond (is_char_start x) 1 0) (encode c) (encode_utf8_all cs) in
    omega (arith, step, count-encode c, count-encodes cs)

-- a text has as many characters as bytes that begin one
pub count-chars : (text : List ℕ) → IsUtf8 text → count_by is_char_start text ≡ length (chars text)
count-chars text utf8 = ap (count_by is_char_start) (sym (encodes-chars text utf8)) ∙ count-encodes (chars text)

-- each byte of ASCII begins a character
pub count-ascii : (bytes : List ℕ) (tested : Bool) (No : Type 0) → MatchBool tested (IsAscii bytes) No → tested ≡ true → length bytes ≡ count_by is_char_start bytes
count-ascii bytes true No ascii is = sym (count-chars bytes (IsUtf8-from_ascii bytes ascii) ∙ ap length (chars-IsAscii bytes ascii))
count-ascii bytes false No ascii is = absurd (cc)

-- a byte begins no character where it is below 0x40 once 0x80 is added, past 0xFF from 0 on
abbrev pub is_other : ℕ → Bool
is_other b = ltb ((b + 128) % 256) 64

one-other : (b : ℕ) → b < 256 → cond (is_char_start b) 1 0 + cond (is_other b) 1 0 ≡ 1
one-other b below = grind (arith, nat_tests)

pub count-others : (bytes : List ℕ) → Each1 (λ b. b < 256) bytes → count_by is_char_start bytes + count_by is_other bytes ≡ length bytes
count-others [] below = refl
count-others (b ∷ bytes) below =
    omega (arith, one-other b below.0, count-others bytes below.1, sum_by-cons (λ x. cond (is_char_start x) 1 0) b bytes, sum_by-cons (λ x. cond (is_other x) 1 0) b bytes)

below-drop : (skipped : ℕ) (bytes : List ℕ) → Each1 (λ b. b < 256) bytes → Each1 (λ b. b < 256) (drop skipped bytes)
below-drop zero bytes below = below
below-drop (suc skipped) [] below = below
below-drop (suc skipped) (b ∷ bytes) below = below-drop skipped bytes below.1

-- a mask without its lowest bits is that of what stands behind as many
lowest : (m : Bool) (n : ℕ) → (cond m 1 0 + 2 * n) / 2 ≡ n
lowest true n = omega arith
lowest false n = omega arith

mask-drop : (marks : List Bool) (skipped : ℕ) → mask_l marks / 2 ^ skipped ≡ mask_l (drop skipped marks)
mask-drop marks zero = div-one (mask_l marks)
mask-drop [] (suc skipped) = zero-div (2 ^ suc skipped)
mask-drop (m ∷ marks) (suc skipped) =
    ap (λ n. mask_l (m ∷ marks) / n) (pow-suc 2 skipped ∙ mul_comm (2 ^ skipped) 2) ∙ sym (div-div-eq-div-mul (mask_l (m ∷ marks)) 2 (2 ^ skipped)) ∙ ap (λ n. n / 2 ^ skipped) (lowest m (mask_l marks))
    ∙ mask-drop marks skipped

-- the mask of the bytes of a block that begin no character
mask-others : (bytes : List ℕ) (size : ℕ) → length bytes ≡ size → size ≤ 64
    → mask_l (map (top 7) (zip2 (λ a b. cond (ltb a b) 255 0) (zip2 (λ a b. (a + b) % 256) bytes (replicate size 128)) (replicate size 64))) % 2 ^ 64 ≡ mask_l (map is_other bytes)
mask-others bytes size long le =
    ap (λ sums. mask_l (map (top 7) (zip2 (λ a b. cond (ltb a b) 255 0) sums (replicate size 64))) % 2 ^ 64) (zip2_splat (λ a b. (a + b) % 256) bytes size 128 long)
    ∙ bitmask_splat w8 ltb (map (λ b. (b + 128) % 256) bytes) size 64 (length-map bytes (λ b. (b + 128) % 256) ∙ long) le
    ∙ ap mask_l (map-map (λ sum. ltb sum 64) (λ b. (b + 128) % 256) bytes)

-- without its lowest bits it has as many ones as bytes behind as many begin no character
pub count-mask : (bytes : List ℕ) (size skipped : ℕ) → length bytes ≡ size → size ≤ 64
    → count_ones (mask_l (map (top 7) (zip2 (λ a b. cond (ltb a b) 255 0) (zip2 (λ a b. (a + b) % 256) bytes (replicate size 128)) (replicate size 64))) % 2 ^ 64 / 2 ^ skipped) ≡ count_by is_other (drop skipped bytes)
count-mask bytes size skipped long le =
    ap (λ mask. count_ones (mask / 2 ^ skipped)) (mask-others bytes size long le)
    ∙ ap count_ones (mask-drop (map is_other bytes) skipped ∙ ap mask_l (drop-map is_other skipped bytes)) ∙ ones-mask_l is_other (drop skipped bytes)

pub count-block-mask : (bytes : List ℕ) (size : ℕ) → length bytes ≡ size → size ≤ 64
    → count_ones (mask_l (map (top 7) (zip2 (λ a b. cond (ltb a b) 255 0) (zip2 (λ a b. (a + b) % 256) bytes (replicate size 128)) (replicate size 64))) % 2 ^ 64) ≡ count_by is_other bytes
count-block-mask bytes size long le = ap count_ones (mask-others bytes size long le) ∙ ones-mask_l is_other bytes

-- the mask of some bytes, and behind it that of others
mask-append : (marks more : List Bool) → mask_l (marks ++ more) ≡ mask_l marks + 2 ^ length marks * mask_l more
mask-append [] more = omega arith
mask-append (m ∷ marks) more =
    let double : 2 ^ suc (length marks) * mask_l more ≡ 2 * (2 ^ length marks * mask_l more) =
    ap (λ n. n * mask_l more) (pow-suc 2 (length marks) ∙ mul_comm (2 ^ length marks) 2) ∙ mul_assoc 2 (2 ^ length marks) (mask_l more) in
    omega (arith, mask-append marks more, double)

-- two masks as one, of eight bytes and of those behind some of eight more: no more than sixteen bits
pub two-masks : (first second : List ℕ) (skipped : ℕ) → length first ≡ 8 → length second ≡ 8
    → mask_l (map (top 7) (zip2 (λ a b. cond (ltb a b) 255 0) (zip2 (λ a b. (a + b) % 256) first (replicate 8 128)) (replicate 8 64))) % 2 ^ 64
    + mask_l (map (top 7) (zip2 (λ a b. cond (ltb a b) 255 0) (zip2 (λ a b. (a + b) % 256) second (replicate 8 128)) (replicate 8 64))) % 2 ^ 64 / 2 ^ skipped * 256
    ≡ mask_l (map is_other (first ++ drop skipped second))
two-masks first second skipped long also =
    let behind = ap (λ mask. mask / 2 ^ skipped) (mask-others second 8 also (omega arith)) ∙ mask-drop (map is_other second) skipped ∙ ap mask_l (drop-map is_other skipped second) in
    let both = ap mask_l (map-append is_other first (drop skipped second)) ∙ mask-append (map is_other first) (map is_other (drop skipped second)) in
    let eight : 2 ^ length (map is_other first) ≡ 256 = ap (λ n. 2 ^ n) (length-map first is_other ∙ long) in
    let same : 2 ^ length (map is_other first) * mask_l (map is_other (drop skipped second)) ≡ 256 * mask_l (map is_other (drop skipped second)) = ap (λ n. n * mask_l (map is_other (drop skipped second))) eight in
    omega (arith, mask-others first 8 long (omega arith), behind, both, same)

pub two-below : (first second : List ℕ) (skipped : ℕ) → length first ≡ 8 → length second ≡ 8 → mask_l (map is_other (first ++ drop skipped second)) < 2 ^ 16
two-below first second skipped long also =
    let bytes = first ++ drop skipped second in
    let size : length (map is_other bytes) ≤ 16 = omega (arith, length-map bytes is_other, length-append first (drop skipped second), length-drop skipped second, long, also) in
    omega (arith, mask_l-lt (map is_other bytes), pow_mono size)

pub count-two : (first second : List ℕ) (skipped : ℕ) → length first ≡ 8 → length second ≡ 8
    → count_ones (mask_l (map (top 7) (zip2 (λ a b. cond (ltb a b) 255 0) (zip2 (λ a b. (a + b) % 256) first (replicate 8 128)) (replicate 8 64))) % 2 ^ 64
    + mask_l (map (top 7) (zip2 (λ a b. cond (ltb a b) 255 0) (zip2 (λ a b. (a + b) % 256) second (replicate 8 128)) (replicate 8 64))) % 2 ^ 64 / 2 ^ skipped * 256)
    ≡ count_by is_other (first ++ drop skipped second)
count-two first second skipped long also = ap count_ones (two-masks first second skipped long also) ∙ ones-mask_l is_other (first ++ drop skipped second)

-- and so many of those behind begin one
pub starts-behind : (bytes : List ℕ) (size skipped : ℕ) → length bytes ≡ size → Each1 (λ b. b < 256) bytes → skipped ≤ size
    → size - skipped ≡ count_by is_char_start (drop skipped bytes) + count_by is_other (drop skipped bytes)
starts-behind bytes size skipped long below le =
    omega (arith, count-others (drop skipped bytes) (below-drop skipped bytes below), length-drop skipped bytes)

-- a count of a front and of what stands after it
pub count-further : (bytes : List ℕ) (place size : ℕ) → count_by is_char_start (take place bytes) + count_by is_char_start (take size (drop place bytes)) ≡ count_by is_char_start (take (place + size) bytes)
count-further bytes place size =
    sym (ap (count_by is_char_start) (take-add place size bytes) ∙ sum_by-append (λ x. cond (is_char_start x) 1 0) (take place bytes) (take size (drop place bytes)))

pub count-from : (bytes : List ℕ) (place : ℕ) → count_by is_char_start (take place bytes) + count_by is_char_start (drop place bytes) ≡ count_by is_char_start bytes
count-from bytes place = sum_by-take-drop (λ x. cond (is_char_start x) 1 0) bytes place

pub count-behind : (bytes : List ℕ) (place : ℕ) → count_by is_char_start (take place bytes) + count_by is_char_start (take (length bytes - place) (drop place bytes)) ≡ count_by is_char_start bytes
count-behind bytes place =
    ap (λ behind. count_by is_char_start (take place bytes) + count_by is_char_start behind) (take_all (length bytes - place) (drop place bytes) (omega (arith, length-drop place bytes)))
    ∙ sum_by-take-drop (λ x. cond (is_char_start x) 1 0) bytes place

-- a front has no more than its length
pub count-within : (bytes : List ℕ) (place : ℕ) → count_by is_char_start (take place bytes) ≤ place
count-within bytes place = omega (arith, count_by-le-length is_char_start (take place bytes), length-take place bytes)

-- a front as far as an end, from a front before it: its bytes and its count
pub appended-to : (bytes before now after : List ℕ) (place end : ℕ) → place ≤ end → now ≡ before ++ take place bytes → after ≡ now ++ take (end - place) (drop place bytes) → after ≡ before ++ take end bytes
appended-to bytes before now after place end le so_far more =
    let same : place + (end - place) ≡ end = omega arith in
    more ∙ ap (λ front. front ++ take (end - place) (drop place bytes)) so_far ∙ append_assoc before (take place bytes) (take (end - place) (drop place bytes))
    ∙ ap (λ front. before ++ front) (sym (take-add place (end - place) bytes) ∙ ap (λ n. take n bytes) same)

pub count-to : (bytes : List ℕ) (place end : ℕ) → place ≤ end → count_by is_char_start (take place bytes) + count_by is_char_start (take (end - place) (drop place bytes)) ≡ count_by is_char_start (take end bytes)
count-to bytes place end le =
    let same : place + (end - place) ≡ end = omega arith in
    count-further bytes place (end - place) ∙ ap (λ n. count_by is_char_start (take n bytes)) same

-- so it is of those from a place on
same-place : (bytes : List ℕ) (from place : ℕ) → from ≤ place → drop (place - from) (drop from bytes) ≡ drop place bytes
same-place bytes from place le =
    let same : from + (place - from) ≡ place = omega arith in
    drop-drop (place - from) from bytes ∙ ap (λ n. drop n bytes) same

-- the last sixteen bytes are those from their place on
pub count-last : (bytes : List ℕ) (place last : ℕ) → last ≤ place → last + 16 ≡ length bytes → count_by is_char_start (take place bytes) + count_by is_char_start (drop (place - last) (take 16 (drop last bytes))) ≡ count_by is_char_start bytes
count-last bytes place last before end =
    let all : take 16 (drop last bytes) ≡ drop last bytes = take_all 16 (drop last bytes) (omega (arith, length-drop last bytes)) in
    ap (λ behind. count_by is_char_start (take place bytes) + count_by is_char_start behind) (ap (drop (place - last)) all ∙ same-place bytes last place before) ∙ count-from bytes place

-- of sixteen bytes at most the first eight, and of the last eight those behind these
pub count-ends : (bytes : List ℕ) (last : ℕ) → last + 8 ≡ length bytes → last ≤ 8 → count_by is_char_start (take 8 bytes ++ drop (8 - last) (take 8 (drop last bytes))) ≡ count_by is_char_start bytes
count-ends bytes last end few =
    let all : take 8 (drop last bytes) ≡ drop last bytes = take_all 8 (drop last bytes) (omega (arith, length-drop last bytes)) in
    sum_by-append (λ x. cond (is_char_start x) 1 0) (take 8 bytes) (drop (8 - last) (take 8 (drop last bytes)))
    ∙ ap (λ behind. count_by is_char_start (take 8 bytes) + count_by is_char_start behind) (ap (drop (8 - last)) all ∙ same-place bytes last 8 few)
    ∙ count-from bytes 8

pub starts-two : (first second : List ℕ) (skipped : ℕ) → length first ≡ 8 → length second ≡ 8 → Each1 (λ b. b < 256) first → Each1 (λ b. b < 256) second → skipped ≤ 8
    → 16 - skipped ≡ count_by is_char_start (first ++ drop skipped second) + count_by is_other (first ++ drop skipped second)
starts-two first second skipped long also below beneath le =
    omega (arith, long, count-others first below, starts-behind second 8 skipped also beneath le, sum_by-append (λ x. cond (is_char_start x) 1 0) first (drop skipped second), sum_by-append (λ x. cond (is_other x) 1 0) first (drop skipped second))
