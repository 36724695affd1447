-- Fronts of a text that were written, one after another.
use Rattle.std.proofs.Common.{◌≡◌, ℕ, ◌+◌, ◌≤◌, ◌<◌, Bool, true, false, nat_lt, List, [], ◌∷◌, ◌++◌, length, Option, Some, None, take, drop, refl, sym, ap, subst, ◌∙◌, arith}
use Rattle.std.specs.List.{All}
use Rattle.std.specs.Str.{IsUtf8, IsAscii, chars}
use Rattle.std.proofs.lemmas.Bool.{cond-true, lt-ltb}
use Rattle.std.proofs.lemmas.List.{append_assoc, append-nil, length-append, take-take, drop-take, take-append-drop}
use Rattle.std.proofs.lemmas.List.Elements.{All-head, All-tail}
use Rattle.std.proofs.lemmas.Str.Ascii.{All-from_ascii}
use Rattle.std.proofs.lemmas.Str.{length-le-encodes, encodes-chars, chars-append, chars-IsAscii, IsUtf8-from_ascii, IsAscii-append}
use Rattle.py_plain.specs.declared.encoding.Encoding.{Encoding}
use Rattle.py_plain.specs.declared.encoding.Encoding.TheVariants.{Utf8, Latin1, Ascii, Utf16Le, Utf16Be}
use Rattle.py_plain.specs.Encode.{utf16_bytes, own_bytes, joined_bytes, text_bytes}
use Rattle.py_plain.proofs.TextBytes.{text_bytes-append}
use Rattle.py_blocks.specs.Runs.{utf16}
use Rattle.py_blocks.specs.Writing.{IsOneByte, Wrote}
use Rattle.py_blocks.proofs.OwnAscii.{text_bytes-utf8}

-- a text has no more characters than bytes
pub chars_within : (text : List ℕ) → IsUtf8 text → length (chars text) ≤ length text
chars_within text utf8 = omega (arith, length-le-encodes (chars text), ap length (encodes-chars text utf8))

own-ascii : (encoding : Encoding) (c : ℕ) → IsOneByte encoding → c < 0x80 → own_bytes encoding c ≡ Some (c ∷ [])
own-ascii Utf8 c one below = absurd one
own-ascii Latin1 c one below = cond-true (nat_lt c 0x100) (Some (c ∷ [])) None (lt-ltb c 0x100 (omega arith))
own-ascii Ascii c one below = cond-true (nat_lt c 0x80) (Some (c ∷ [])) None (lt-ltb c 0x80 below)
own-ascii Utf16Le c one below = absurd one
own-ascii Utf16Be c one below = absurd one

pub joined_both : (front back : List ℕ) (one more : Option (List ℕ)) → one ≡ Some front → more ≡ Some back → joined_bytes one more ≡ Some (front ++ back)
joined_both front back one more first second = rw (first, second) refl

-- the bytes of two texts joined
pub text_bytes-both : (encoding : Encoding) (front back front_bytes back_bytes : List ℕ) → text_bytes encoding front ≡ Some front_bytes → text_bytes encoding back ≡ Some back_bytes → text_bytes encoding (front ++ back) ≡ Some (front_bytes ++ back_bytes)
text_bytes-both encoding front back front_bytes back_bytes own more =
    text_bytes-append encoding front back ∙ joined_both front_bytes back_bytes (text_bytes encoding front) (text_bytes encoding back) own more

-- nothing was written yet
pub Wrote-none : (encoding : Encoding) (text before : List ℕ) → Wrote encoding text before before 0 text
Wrote-none encoding text before = record { front = []; written = []; split = refl; counted = refl; own = refl; appended = sym (append-nil before) }

-- a front, and then a front of the rest
pub Wrote-more : {encoding : Encoding} {text before middle after : List ℕ} {count more : ℕ} {left rest : List ℕ} → Wrote encoding text before middle count left → Wrote encoding left middle after more rest → Wrote encoding text before after (count + more) rest
Wrote-more {encoding} {rest = rest} first second = record {
  front = first.front ++ second.front;
  written = first.written ++ second.written;
  split = first.split ∙ ap (λ cs. first.front ++ cs) second.split ∙ sym (append_assoc first.front second.front rest);
  counted = omega (arith, first.counted, second.counted, length-append first.front second.front);
  own = text_bytes-both encoding first.front second.front first.written second.written first.own second.own;
  appended = second.appended ∙ ap (λ bs. bs ++ second.written) first.appended ∙ append_assoc _ first.written second.written;
}

-- a character that was written is a front of its text
pub Wrote-character : (encoding : Encoding) (c : ℕ) (text behind before after own : List ℕ) → text ≡ c ∷ behind → own_bytes encoding c ≡ Some own → after ≡ before ++ own → Wrote encoding text before after 1 behind
Wrote-character encoding c text behind before after own is has appended = record {
  front = c ∷ [];
  written = own;
  split = is;
  counted = refl;
  own = ap (λ bytes. joined_bytes bytes (Some [])) has ∙ ap (λ (bs : List ℕ). Some bs) (append-nil own);
  appended = appended;
}

-- a front and the character after it
pub Wrote-next : {encoding : Encoding} {text before middle after behind : List ℕ} {count c : ℕ} {left own : List ℕ} → Wrote encoding text before middle count left → left ≡ c ∷ behind → own_bytes encoding c ≡ Some own → after ≡ middle ++ own → Wrote encoding text before after (count + 1) behind
Wrote-next {encoding} {middle = middle} {after = after} {behind = behind} {c = c} {left = left} {own = own} first is has appended =
    Wrote-more first (Wrote-character encoding c left behind middle after own is has appended)

-- ASCII is its own bytes in an encoding that has one byte for each of its characters
text_bytes-ascii : (encoding : Encoding) (text : List ℕ) → IsOneByte encoding → All (λ c. c < 0x80) text → text_bytes encoding text ≡ Some text
text_bytes-ascii encoding [] one all = refl
text_bytes-ascii encoding (c ∷ text) one all =
    joined_both (c ∷ []) text (own_bytes encoding c) (text_bytes encoding text) (own-ascii encoding c one (All-head (λ c. c < 0x80) c text all)) (text_bytes-ascii encoding text one (All-tail (λ c. c < 0x80) c text all))

pub Wrote-ascii : (encoding : Encoding) (text front behind before after : List ℕ) → IsOneByte encoding → IsAscii front → text ≡ front ++ behind → after ≡ before ++ front → Wrote encoding (chars text) before after (length front) (chars behind)
Wrote-ascii encoding text front behind before after one ascii is appended = record {
  front = front;
  written = front;
  split = ap chars is ∙ chars-append front behind (IsUtf8-from_ascii front ascii) ∙ ap (λ cs. cs ++ chars behind) (chars-IsAscii front ascii);
  counted = refl;
  own = text_bytes-ascii encoding front one (All-from_ascii front ascii);
  appended = appended;
}

-- a whole text in UTF-8
pub Wrote-utf8 : (text before after left : List ℕ) (count : ℕ) → IsUtf8 text → after ≡ before ++ text → count ≡ length (chars text) → left ≡ [] → Wrote Utf8 (chars text) before after count left
Wrote-utf8 text before after left count utf8 appended counted none = record {
  front = chars text;
  written = text;
  split = sym (append-nil (chars text)) ∙ ap (λ cs. chars text ++ cs) (sym none);
  counted = counted;
  own = text_bytes-utf8 (chars text) ∙ ap (λ (bs : List ℕ). Some bs) (encodes-chars text utf8);
  appended = appended;
}

-- a character of UTF-16 has bytes
pub own-utf16 : (big : Bool) (c : ℕ) → own_bytes (utf16 big) c ≡ Some (utf16_bytes big c)
own-utf16 true c = refl
own-utf16 false c = refl

-- how far a front goes
pub Wrote-count : {encoding : Encoding} {text before after : List ℕ} {count : ℕ} {left : List ℕ} → Wrote encoding text before after count left → count + length left ≡ length text
Wrote-count {left = left} wrote = omega (arith, wrote.counted, length-append wrote.front left, ap length wrote.split)

-- one piece of ASCII more
pub IsAscii-piece : (bs : List ℕ) (n m k : ℕ) → m ≡ k → IsAscii (take n bs) → IsAscii (take m (drop n bs)) → IsAscii (take (n + k) bs)
IsAscii-piece bs n m k same front piece =
    let whole : take n bs ++ take k (drop n bs) ≡ take (n + k) bs =
    ap (λ xs. xs ++ take k (drop n bs)) (sym (take-take n (n + k) bs (omega arith))) ∙ ap (λ xs. take n (take (n + k) bs) ++ xs) (sym (drop-take n k bs)) ∙ take-append-drop n (take (n + k) bs) in
    subst IsAscii whole (IsAscii-append (take n bs) (take k (drop n bs)) front (subst (λ j. IsAscii (take j (drop n bs))) same piece))
