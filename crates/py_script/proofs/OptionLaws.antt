-- Options in any order, each once.
use Rattle.std.proofs.Common.{◌≡◌, ℕ, nat_lt, Bool, true, false, cond, List, [], ◌∷◌, ◌++◌, length, codes, chars, Option, Some, None, option_map, refl, sym, ap, ◌∙◌, arith}
use Rattle.std.specs.List.{position_or_len, after_first}
use Rattle.std.specs.Option.{option_and_then}
use Rattle.std.specs.Str.{bytes_eq}
use Rattle.py_script.specs.declared.options.WordOption.{WordOption}
use Rattle.py_script.specs.declared.options.WordOption.TheVariants.{Buffering, Encoding, Errors, Newline, ChunkSize}
use Rattle.py_script.specs.declared.options.Given.{Given}
use Rattle.py_script.specs.Words.{decimal_value, integer_value, hex_text}
use Rattle.py_script.specs.Options.{named_option, is_equals, name_of, option_of, nothing_given, given_with, given_with_word, given_with_words, arguments_by, arguments_of}

-- steps that may fail, one after the other
and_then_assoc : {A B C : Type 0} (f : A → Option B) (h : B → Option C) (o : Option A) → option_and_then (λ x. option_and_then h (f x)) o ≡ option_and_then h (option_and_then f o)
and_then_assoc f h None = refl
and_then_assoc f h (Some x) = refl

and_then_same : {A B : Type 0} (f h : A → Option B) (o : Option A) → ((x : A) → f x ≡ h x) → option_and_then f o ≡ option_and_then h o
and_then_same f h None same = refl
and_then_same f h (Some x) same = same x

and_then_none : {A B : Type 0} (f : A → Option B) (o : Option A) → ((x : A) → f x ≡ None) → option_and_then f o ≡ None
and_then_none f None fails = refl
and_then_none f (Some x) fails = fails x

-- two options, one after the other
abbrev both : Given → Option WordOption → Option WordOption → Option Given
both given first second = option_and_then (λ next. option_and_then (given_with next) second) (option_and_then (given_with given) first)

-- two options, one after the other, may change places
pair_commutes : (given : Given) (x y : WordOption) → both given (Some x) (Some y) ≡ both given (Some y) (Some x)
pair_commutes given (Buffering m) (Buffering n) = grind arith
pair_commutes given (Buffering m) y = grind arith
pair_commutes given (Encoding m) (Encoding n) = grind arith
pair_commutes given (Encoding m) y = grind arith
pair_commutes given (Errors m) (Errors n) = grind arith
pair_commutes given (Errors m) y = grind arith
pair_commutes given (Newline m) (Newline n) = grind arith
pair_commutes given (Newline m) y = grind arith
pair_commutes given (ChunkSize m) (ChunkSize n) = grind arith
pair_commutes given (ChunkSize m) y = grind arith

both_commute : (given : Given) (first second : Option WordOption) → both given first second ≡ both given second first
both_commute given None None = refl
both_commute given None (Some y) = sym (and_then_none (λ next. None) (given_with given y) (λ next. refl))
both_commute given (Some x) None = and_then_none (λ next. None) (given_with given x) (λ next. refl)
both_commute given (Some x) (Some y) = pair_commutes given x y

words_commute : (given : Given) (first second : List ℕ) (words : List (List ℕ)) → given_with_words given (first ∷ second ∷ words) ≡ given_with_words given (second ∷ first ∷ words)
words_commute given first second words =
    and_then_assoc (λ next. given_with_word next second) (λ next. given_with_words next words) (given_with_word given first)
    ∙ ap (option_and_then (λ next. given_with_words next words)) (both_commute given (option_of first) (option_of second))
    ∙ sym (and_then_assoc (λ next. given_with_word next first) (λ next. given_with_words next words) (given_with_word given second))

words_commute_behind : (given : Given) (front words : List (List ℕ)) (first second : List ℕ) → given_with_words given (front ++ first ∷ second ∷ words) ≡ given_with_words given (front ++ second ∷ first ∷ words)
words_commute_behind given [] words first second = words_commute given first second words
words_commute_behind given (word ∷ front) words first second = and_then_same _ _ (given_with_word given word) (λ next. words_commute_behind next front words first second)

-- where two neighbouring words of options change places the arguments stay the same
pub any_order : (front words : List (List ℕ)) (first second : List ℕ) → arguments_of (front ++ first ∷ second ∷ words) ≡ arguments_of (front ++ second ∷ first ∷ words)
any_order front words first second = ap (option_map arguments_by) (words_commute_behind nothing_given front words first second)

-- the kind of an option: two of one kind are one too many
abbrev kind : WordOption → ℕ
kind (Buffering size) = 0
kind (Encoding name) = 1
kind (Errors name) = 2
kind (Newline text) = 3
kind (ChunkSize size) = 4

abbrev Clash : Given → Option WordOption → Option WordOption → Type 0
Clash given first second = both given first second ≡ None

clash_pair : (given : Given) (x y : WordOption) → kind x ≡ kind y → Clash given (Some x) (Some y)
clash_pair given (Buffering m) (Buffering n) same = grind arith
clash_pair given (Buffering m) y same = absurd (omega (arith, same))
clash_pair given (Encoding m) (Encoding n) same = grind arith
clash_pair given (Encoding m) y same = absurd (omega (arith, same))
clash_pair given (Errors m) (Errors n) same = grind arith
clash_pair given (Errors m) y same = absurd (omega (arith, same))
clash_pair given (Newline m) (Newline n) same = grind arith
clash_pair given (Newline m) y same = absurd (omega (arith, same))
clash_pair given (ChunkSize m) (ChunkSize n) same = grind arith
clash_pair given (ChunkSize m) y same = absurd (omega (arith, same))

-- two values of options of one kind are one too many
clash_map : {A : Type 0} (given : Given) (make : A → WordOption) (o p : Option A) → ((m n : A) → Clash given (Some (make m)) (Some (make n))) → Clash given (option_map make o) (option_map make p)
clash_map given make None p pair = refl
clash_map given make (Some m) None pair = and_then_none (λ next. None) (given_with given (make m)) (λ next. refl)
clash_map given make (Some m) (Some n) pair = pair m n

clash_either : (given : Given) (b : Bool) (o o' p p' : Option WordOption) → Clash given o p → Clash given o' p' → Clash given (cond b o o') (cond b p p')
clash_either given true o o' p p' clash clash' = clash
clash_either given false o o' p p' clash clash' = clash'

-- two values of one name are one too many
clash_named : (given : Given) (name v w : List ℕ) → Clash given (named_option name v) (named_option name w)
clash_named given name v w =
    clash_either given (bytes_eq name (codes "buffering")) _ _ _ _ (clash_map given Buffering (integer_value v) (integer_value w) (λ m n. clash_pair given (Buffering m) (Buffering n) refl))
    (clash_either given (bytes_eq name (codes "encoding")) _ _ _ _ (clash_pair given (Encoding (chars v)) (Encoding (chars w)) refl)
    (clash_either given (bytes_eq name (codes "errors")) _ _ _ _ (clash_pair given (Errors (chars v)) (Errors (chars w)) refl)
    (clash_either given (bytes_eq name (codes "newline")) _ _ _ _ (clash_map given Newline (hex_text v) (hex_text w) (λ m n. clash_pair given (Newline m) (Newline n) refl))
    (clash_either given (bytes_eq name (codes "chunk")) _ _ _ _ (clash_map given ChunkSize (decimal_value v) (decimal_value w) (λ m n. clash_pair given (ChunkSize m) (ChunkSize n) refl))
    refl))))

clash_if : (given : Given) (a b : Bool) (o p : Option WordOption) → Clash given o p → Clash given (cond a o None) (cond b p None)
clash_if given false b o p clash = refl
clash_if given true false o p clash = and_then_none (λ next. None) (option_and_then (given_with given) o) (λ next. refl)
clash_if given true true o p clash = clash

-- two words of one name are one too many
clash_words : (given : Given) (first second : List ℕ) → name_of first ≡ name_of second → Clash given (option_of first) (option_of second)
clash_words given first second same =
    clash_if given (nat_lt (position_or_len is_equals first) (length first)) (nat_lt (position_or_len is_equals second) (length second)) (named_option (name_of first) (after_first is_equals first)) (named_option (name_of second) (after_first is_equals second))
    (rw same (clash_named given (name_of second) (after_first is_equals first) (after_first is_equals second)))

-- two words of one name are one too many, wherever the second stands
clash_between : (given : Given) (between words : List (List ℕ)) (first second : List ℕ) → name_of first ≡ name_of second → given_with_words given (first ∷ between ++ second ∷ words) ≡ None
clash_between given [] words first second same =
    and_then_assoc (λ next. given_with_word next second) (λ next. given_with_words next words) (given_with_word given first)
    ∙ ap (option_and_then (λ next. given_with_words next words)) (clash_words given first second same)
clash_between given (word ∷ between) words first second same =
    words_commute given first word (between ++ second ∷ words)
    ∙ and_then_none (λ next. given_with_words next (first ∷ between ++ second ∷ words)) (given_with_word given word) (λ next. clash_between next between words first second same)

-- two words of one name are one too many, wherever both stand
clash_behind : (given : Given) (front between words : List (List ℕ)) (first second : List ℕ) → name_of first ≡ name_of second → given_with_words given (front ++ (first ∷ between ++ second ∷ words)) ≡ None
clash_behind given [] between words first second same = clash_between given between words first second same
clash_behind given (word ∷ front) between words first second same = and_then_none (λ next. given_with_words next (front ++ (first ∷ between ++ second ∷ words))) (given_with_word given word) (λ next. clash_behind next front between words first second same)

-- words with two of one name among them are malformed
pub each_once : (front between words : List (List ℕ)) (first second : List ℕ) → name_of first ≡ name_of second → arguments_of (front ++ (first ∷ between ++ second ∷ words)) ≡ None
each_once front between words first second same = ap (option_map arguments_by) (clash_behind nothing_given front between words first second same)
