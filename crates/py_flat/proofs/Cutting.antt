-- Lines are pieces of the list that they are cut from.
use Rattle.std.proofs.Common.{◌≡◌, ◌≢◌, ℕ, zero, suc, Bool, true, false, nat_eq, ◌||◌, if◌then◌else◌, List, [], ◌∷◌, ◌++◌, take, drop, Option, Some, None, refl, sym, ◌∙◌, ap, append_assoc, append-nil}
use Rattle.std.proofs.lemmas.List.{take-append-drop}
use Rattle.py_flat.specs.Bytes.{first_of}
use Rattle.py_flat.specs.Lines.{LineEnd, lf, cr, ends_line, ends_pair, line_after, first_line, onto_first, lines_of, joined}
use Rattle.py_flat.specs.BinaryStep.{IsFrontOf}

-- Lines joined again.

joined_onto_first : (c : ℕ) (lines : List (List ℕ)) → joined (onto_first c lines) ≡ c ∷ joined lines
joined_onto_first c [] = refl
joined_onto_first c (line ∷ lines) = refl

joined_after : (ends : Bool) (c : ℕ) (lines : List (List ℕ)) → joined (if ends then (c ∷ []) ∷ lines else onto_first c lines) ≡ c ∷ joined lines
joined_after true c lines = refl
joined_after false c lines = joined_onto_first c lines

-- the lines of some bytes are all of them
pub joined_lines : (bytes : List ℕ) → joined (lines_of bytes) ≡ bytes
joined_lines [] = refl
joined_lines (c ∷ cs) = joined_after (nat_eq c lf) c (lines_of cs) ∙ ap (λ t. c ∷ t) (joined_lines cs)

-- Fronts.

pub front_of_front : (first second whole : List ℕ) → IsFrontOf first second → IsFrontOf second whole → IsFrontOf first whole
front_of_front first second whole (more, e) (rest, k) = (more ++ rest, sym (append_assoc first more rest) ∙ ap (λ t. t ++ rest) e ∙ k)

pub take_is_front : (size : ℕ) (bytes : List ℕ) → IsFrontOf (take size bytes) bytes
take_is_front size bytes = (drop size bytes, take-append-drop size bytes)

pub first_of_is_front : (size : Option ℕ) (bytes : List ℕ) → IsFrontOf (first_of size bytes) bytes
first_of_is_front None bytes = ([], append-nil bytes)
first_of_is_front (Some size) bytes = take_is_front size bytes

front_after : (ends : Bool) (c : ℕ) (part cs : List ℕ) → IsFrontOf part cs → IsFrontOf (c ∷ (if ends then [] else part)) (c ∷ cs)
front_after true c part cs h = (cs, refl)
front_after false c part cs (more, e) = (more, ap (λ t. c ∷ t) e)

line_is_front : (end : LineEnd) (after_cr : Bool) (cs : List ℕ) → IsFrontOf (line_after end after_cr cs) cs
line_is_front end after_cr [] = ([], refl)
line_is_front end after_cr (c ∷ cs) = front_after (ends_line end c cs || ends_pair end after_cr c) c (line_after end (nat_eq c cr) cs) cs (line_is_front end (nat_eq c cr) cs)

-- a line is the first of its list
pub first_line_is_front : (end : LineEnd) (limit : Option ℕ) (cs : List ℕ) → IsFrontOf (first_line end limit cs) cs
first_line_is_front end limit cs = front_of_front (first_line end limit cs) (line_after end false cs) cs (first_of_is_front limit (line_after end false cs)) (line_is_front end false cs)

-- the first line of a list that isn't empty holds something, where its limit isn't 0
pub first_line_holds_some : (end : LineEnd) (limit : Option ℕ) (cs : List ℕ) → cs ≢ [] → limit ≢ Some 0 → first_line end limit cs ≢ []
first_line_holds_some end limit [] some room = absurd (some refl)
first_line_holds_some end None (c ∷ cs) some room = λ e. cc
first_line_holds_some end (Some zero) (c ∷ cs) some room = absurd (room refl)
first_line_holds_some end (Some (suc n)) (c ∷ cs) some room = λ e. cc
