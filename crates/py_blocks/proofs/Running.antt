-- A run of whole characters, one character longer.
use Rattle.std.proofs.Common.{◌≡◌, ℕ, ◌+◌, ◌≤◌, List, [], ◌∷◌, ◌++◌, length, take, drop, Some, Result, Ok, Err, IfOk, OnOk, refl, sym, ap, subst, ◌∙◌, arith}
use Rattle.std.specs.Char.{IsScalar}
use Rattle.std.specs.Str.{IsAscii, IsUtf8, chars}
use Rattle.std.proofs.Math.Seq.{take-add}
use Rattle.std.proofs.lemmas.List.{append-nil, append_assoc, length-take, take-take}
use Rattle.std.proofs.lemmas.List.Elements.{All-nil, All-cons, All-append}
use Rattle.py_plain.specs.declared.encoding.Encoding.{Encoding}
use Rattle.py_plain.specs.declared.encoding.Encoding.TheVariants.{Utf8, Latin1, Ascii, Utf16Le, Utf16Be}
use Rattle.py_plain.specs.Encode.{own_bytes, joined_bytes, text_bytes}
use Rattle.py_plain.proofs.OwnText.{joined_bytes-parts}
use Rattle.py_blocks.specs.Runs.{IsRun}
use Rattle.py_blocks.specs.Writing.{IsOneByte}
use Rattle.py_blocks.proofs.OwnAscii.{scalars_utf8, own_in_latin1, own_in_ascii}

-- what a text with a character after it is written as
text_bytes-push : (encoding : Encoding) (cs bytes : List ℕ) (c : ℕ) (own : List ℕ) → text_bytes encoding cs ≡ Some bytes → own_bytes encoding c ≡ Some own → text_bytes encoding (cs ++ c ∷ []) ≡ Some (bytes ++ own)
text_bytes-push encoding [] bytes c own is one =
    let none : [] ≡ bytes = cc in
    ap (λ b. joined_bytes b (Some [])) one ∙ ap (λ (b : List ℕ). Some b) (append-nil own ∙ ap (λ b. b ++ own) none)
text_bytes-push encoding (d ∷ cs) bytes c own is one =
    let parts = joined_bytes-parts (own_bytes encoding d) (text_bytes encoding cs) bytes is in
    ap (λ b. joined_bytes b (text_bytes encoding (cs ++ c ∷ []))) parts.front_is
    ∙ ap (λ b. joined_bytes (Some parts.front) b) (text_bytes-push encoding cs parts.back c own parts.back_is one)
    ∙ ap (λ (b : List ℕ). Some b) (sym (append_assoc parts.front parts.back own) ∙ ap (λ b. b ++ own) (sym parts.whole))

-- a run of no characters
pub IsRun-none : (encoding : Encoding) (bytes before : List ℕ) → IsRun encoding bytes before before 0
IsRun-none encoding bytes before = record {
  text = [];
  scalars = All-nil IsScalar;
  within = omega arith;
  written = refl;
  appended = sym (append-nil before);
}

-- a run with one character more after it
pub IsRun-more : (encoding : Encoding) (bytes before between after : List ℕ) (used size c : ℕ) (own : List ℕ) → IsRun encoding bytes before between used → used + size ≤ length bytes → IsScalar c → own_bytes encoding c ≡ Some own → take size (drop used bytes) ≡ own → after ≡ between ++ c ∷ [] → IsRun encoding bytes before after (used + size)
IsRun-more encoding bytes before between after used size c own run inside scalar one is pushed = record {
  text = run.text ++ c ∷ [];
  scalars = All-append IsScalar run.text (c ∷ []) run.scalars (All-cons IsScalar c [] scalar (All-nil IsScalar));
  within = inside;
  written = text_bytes-push encoding run.text (take used bytes) c own run.written one ∙ ap (λ (b : List ℕ). Some b) (ap (λ b. take used bytes ++ b) (sym is) ∙ sym (take-add used size bytes));
  appended = pushed ∙ ap (λ t. t ++ c ∷ []) run.appended ∙ append_assoc before run.text (c ∷ []);
}

-- a run of a front of some bytes is one of the bytes
pub IsRun-window : (encoding : Encoding) (bytes near before after : List ℕ) (most used : ℕ) → near ≡ take most bytes → IsRun encoding near before after used → IsRun encoding bytes before after used
IsRun-window encoding bytes near before after most used is run =
    let within : used ≤ length (take most bytes) = rw (← is) run.within in
    record {
      text = run.text;
      scalars = run.scalars;
      within = omega (arith, length-take most bytes);
      written = run.written ∙ ap (λ (b : List ℕ). Some b) (ap (take used) is ∙ take-take used most bytes (omega (arith, length-take most bytes)));
      appended = run.appended;
    }

-- a front of UTF-8 that was appended, and that the encoding has as UTF-8 has it
pub IsRun-front : (encoding : Encoding) (near before after : List ℕ) (front : ℕ) → front ≤ length near → IsUtf8 (take front near) → text_bytes encoding (chars (take front near)) ≡ Some (take front near) → after ≡ before ++ chars (take front near) → IsRun encoding near before after front
IsRun-front encoding near before after front within utf8 written appended = record {
  text = chars (take front near);
  scalars = scalars_utf8 (take front near) utf8;
  within = within;
  written = written;
  appended = appended;
}

-- a call that answered a front of UTF-8, and didn't fail, appended the characters of that front as a run
pub front_run : {E : Type 0} (encoding : Encoding) (near before after : List ℕ) (front : ℕ) (result : Result ℕ E) → front ≤ length near → IsUtf8 (take front near) → text_bytes encoding (chars (take front near)) ≡ Some (take front near) → IfOk result (λ used. used ≡ front) → OnOk result (after ≡ before ++ chars (take front near)) → IfOk result (IsRun encoding near before after)
front_run encoding near before after front (Ok used) within utf8 written all appended = subst (IsRun encoding near before after) (sym all) (IsRun-front encoding near before after front within utf8 written appended)
front_run encoding near before after front (Err why) within utf8 written all appended = tt

pub window_run : {E : Type 0} (encoding : Encoding) (bytes near before after : List ℕ) (most : ℕ) (result : Result ℕ E) → near ≡ take most bytes → IfOk result (IsRun encoding near before after) → IfOk result (IsRun encoding bytes before after)
window_run encoding bytes near before after most (Ok used) is run = IsRun-window encoding bytes near before after most used is run
window_run encoding bytes near before after most (Err why) is run = tt

-- bytes of ASCII in an encoding that has one byte for each of its characters
pub one_byte : (encoding : Encoding) (bytes : List ℕ) → IsOneByte encoding → IsAscii bytes → text_bytes encoding (chars bytes) ≡ Some bytes
one_byte Latin1 bytes is ascii = own_in_latin1 bytes ascii
one_byte Ascii bytes is ascii = own_in_ascii bytes ascii
one_byte Utf8 bytes is ascii = absurd is
one_byte Utf16Le bytes is ascii = absurd is
one_byte Utf16Be bytes is ascii = absurd is
