-- What a text asks its buffer for: no chunk that it needn't.
use Rattle.std.proofs.Common.{◌≡◌, ℕ, zero, suc, ◌+◌, ◌≤◌, ◌<◌, inr, min, max, Bool, true, false, ◌||◌, nat_le, nat_eq, if◌then◌else◌, List, [], ◌∷◌, ◌++◌, length, take, Option, Some, None, refl, sym, ap, subst, ◌∙◌, arith}
use Rattle.std.proofs.lemmas.List.{append-nil, length-append, length-take, take-append-le}
use Rattle.std.proofs.lemmas.Bool.{leb-false}
use Rattle.py_flat.specs.declared.life.Life.TheVariants as life
use Rattle.py_flat.specs.Bytes.{left_at}
use Rattle.py_flat.specs.BinaryStep.{IsFrontOf}
use Rattle.py_flat.specs.Lines.{LineEnd, lf, cr, begins_with_lf, ends_line, ends_pair, line_after, first_line}
use Rattle.py_plain.specs.declared.newlines.Newlines.{Newlines}
use Rattle.py_plain.specs.Items.{characters_of}
use Rattle.py_plain.specs.NewlineRule.{line_end, read_all}
use Rattle.py_plain_text.specs.TextFile.{TextFile}
use Rattle.py_plain_text.specs.Rest.{Rest}
use Rattle.py_raw.proofs.Telling.{tells_still}
use Rattle.py_stream.specs.Buffer.{WhereShown, flat_of}
use Rattle.py_held_text.specs.declared.wanted.Wanted.{Wanted}
use Rattle.py_held_text.specs.declared.wanted.Wanted.TheVariants.{Characters, Line}
use Rattle.py_held_text.specs.Held.{ahead, left_so_far}
use Rattle.py_held_text.specs.Decodes.{IsDrained}
use Rattle.py_held_text.specs.Finding.{enough}
use Rattle.py_read_text.specs.Waiting.{bytes_between}
use Rattle.py_read_text.specs.Ahead.{known_at, IsLacking, LeavesOpen, AsksAsNeeded}
use Rattle.py_read_text.specs.Knowing.{TextView, from_place, front_of, shown_file, IsText}
use Rattle.py_read_text.specs.Reading.{call_of, Calls, KeepsPlace, Brings, GathersAsNeeded}
use Rattle.py_read_text.proofs.Following.{so_far_empty}
use Rattle.py_read_text.proofs.Steps.{Tied, rest_is}
use Rattle.py_read_text.proofs.Answering.{tied_of}
use Rattle.py_read_text.proofs.Results.{same_file}

-- Lines that don't end among some elements, also where an LF comes next.

begins_front : (cs : List ℕ) (n : ℕ) → begins_with_lf (cs ++ lf ∷ []) ≡ true → begins_with_lf (take n cs ++ lf ∷ []) ≡ true
begins_front cs zero is = refl
begins_front [] (suc n) is = refl
begins_front (c ∷ cs) (suc n) is = is

ends_front : (end : LineEnd) (c : ℕ) (cs : List ℕ) (n : ℕ) → ends_line end c (cs ++ lf ∷ []) ≡ false → ends_line end c (take n cs ++ lf ∷ []) ≡ false
ends_front end c cs n lasts = grind (arith, begins_front)

-- one more element, with which it doesn't end
goes_past : (end : LineEnd) (after_cr : Bool) (n c : ℕ) (cs : List ℕ) → length (c ∷ cs) < length (line_after end after_cr (c ∷ (cs ++ lf ∷ []))) → (length cs < length (line_after end (nat_eq c cr) (cs ++ lf ∷ [])) → n < length (line_after end (nat_eq c cr) (take n cs ++ lf ∷ []))) → (ended : Bool) → (ends_line end c (cs ++ lf ∷ []) || ends_pair end after_cr c) ≡ ended → suc n < length (line_after end after_cr (c ∷ (take n cs ++ lf ∷ [])))
goes_past end after_cr n c cs lasts front true is = absurd (let one = subst (λ (ended : Bool). suc (length cs) < length (c ∷ (if ended then [] else line_after end (nat_eq c cr) (cs ++ lf ∷ [])))) is lasts in omega (arith, one))
goes_past end after_cr n c cs lasts front false is =
    let rest = subst (λ (ended : Bool). suc (length cs) < length (c ∷ (if ended then [] else line_after end (nat_eq c cr) (cs ++ lf ∷ [])))) is lasts in
    let goes_on : (ends_line end c (take n cs ++ lf ∷ []) || ends_pair end after_cr c) ≡ false = grind (arith, ends_front) in
    subst (λ (ended : Bool). suc n < length (c ∷ (if ended then [] else line_after end (nat_eq c cr) (take n cs ++ lf ∷ [])))) (sym goes_on) (omega (arith, front (omega (arith, rest))))

-- such a line doesn't end among the first of them either
open_front : (end : LineEnd) (after_cr : Bool) (n : ℕ) (cs : List ℕ) → length cs < length (line_after end after_cr (cs ++ lf ∷ [])) → n ≤ length cs → n < length (line_after end after_cr (take n cs ++ lf ∷ []))
open_front end after_cr zero cs lasts within = omega arith
open_front end after_cr (suc n) [] lasts within = absurd (omega (arith, within))
open_front end after_cr (suc n) (c ∷ cs) lasts within = goes_past end after_cr n c cs lasts (λ more. open_front end (nat_eq c cr) n cs more (omega (arith, within))) (ends_line end c (cs ++ lf ∷ []) || ends_pair end after_cr c) refl

-- with a limit too
open_first : (end : LineEnd) (limit : Option ℕ) (n : ℕ) (cs : List ℕ) → length cs < length (first_line end limit (cs ++ lf ∷ [])) → n ≤ length cs → n < length (first_line end limit (take n cs ++ lf ∷ []))
open_first end None n cs lasts within = open_front end false n cs lasts within
open_first end (Some size) n cs lasts within =
    let line : List ℕ = line_after end false (cs ++ lf ∷ []) in
    let least : length (take size line) ≡ min size (length line) = length-take size line in
    omega (arith, lasts, least, within, length-take size (line_after end false (take n cs ++ lf ∷ [])), open_front end false n cs (omega (arith, lasts, least)) within)

-- What isn't enough.

size_lacks : (fits : Bool) (size many : ℕ) → nat_le size many ≡ fits → (if fits then Some size else None) ≡ None → many < size
size_lacks true size many test is = absurd (cc)
size_lacks false size many test is = leb-false size many test

-- known characters that aren't enough: nor are fewer of what is left, which begins with them
lacks_front : (asked : Wanted) (rule : Newlines) (known behind : List ℕ) (count : ℕ) → enough asked rule known ≡ None → count ≤ length known → IsLacking (call_of asked) rule count (known ++ behind)
lacks_front (Characters None) rule known behind count short within = tt
lacks_front (Characters (Some size)) rule known behind count short within = omega (arith, within, size_lacks (nat_le size (length known)) size (length known) refl short)
lacks_front (Line limit) rule known behind count short within =
    let line : List ℕ = first_line (line_end rule) limit (known ++ lf ∷ []) in
    let lasts : length known < length line = size_lacks (nat_le (length line) (length known)) (length line) (length known) refl short in
    subst (λ (front : List ℕ). count < length (first_line (line_end rule) limit (front ++ lf ∷ []))) (sym (take-append-le count known behind within)) (open_first (line_end rule) limit count known lasts within)

-- a text that isn't answered by what it knows, and has nothing more in hand that it could decode: the bytes that it took leave the call open
leaves_open : (text : TextView) (asked : Wanted) → text.at ≤ text.buffer.place → Tied text → enough asked text.held.newline text.held.known ≡ None → IsDrained false text.held → LeavesOpen (shown_file text) (call_of asked) text.buffer.place
leaves_open text asked forth tied short drained =
    let bytes : List ℕ = (flat_of text.buffer).bytes in
    let known : List ℕ = text.held.known in
    let nothing : IsFrontOf [] (left_at bytes text.buffer.place) = (left_at bytes text.buffer.place, refl) in
    let same : bytes_between bytes text.at text.buffer.place ++ [] ≡ bytes_between bytes text.at text.buffer.place = append-nil (bytes_between bytes text.at text.buffer.place) in
    let sure : length (left_so_far text.held []).characters ≡ length known = ap length (so_far_empty text.held drained.items) in
    let front : List ℕ = front_of text.settings bytes text.front in
    let few : length (front ++ (left_so_far (from_place text.settings text.at) (bytes_between bytes text.at text.buffer.place)).characters) ≤ text.taken + length known =
    subst (λ (all : List ℕ). length (front ++ (left_so_far (from_place text.settings text.at) all).characters) ≤ text.taken + length known) same
    (omega (arith, tied.knows.shows [] nothing, sure, length-append front (left_so_far (from_place text.settings text.at) (bytes_between bytes text.at text.buffer.place ++ [])).characters)) in
    let count : ℕ = known_at (shown_file text) text.buffer.place in
    let behind : List ℕ = read_all text.held.newline text.held.cr (characters_of (ahead text.held true (left_at bytes text.buffer.place)).items) in
    record {
      lacks = subst (λ (left : List ℕ). IsLacking (call_of asked) text.settings.newline count left) (sym (ap (λ (rest : Rest). rest.characters) (rest_is text tied)))
          (subst (λ (rule : Newlines). IsLacking (call_of asked) rule count (known ++ behind)) tied.rule (lacks_front asked text.held.newline known behind count short (omega (arith, few))));
      sound = subst (λ (all : List ℕ). (left_so_far (from_place text.settings text.at) all).refusal ≡ None) same (tied.knows.sound [] nothing drained.refusal);
    }

-- Chunks.

-- a chunk that came for a call that was open still
pub needs_chunk : (old mid new : TextView) (asked : Wanted) → old.buffer.life ≡ life.Live → old.buffer.can.readable ≡ true → KeepsPlace old mid → Calls old.buffer false false mid.buffer → old.buffer.place ≤ mid.buffer.place → IsText mid.buffer mid.held mid.front mid.at mid.taken mid.dirty mid.settings → enough asked mid.held.newline mid.held.known ≡ None → IsDrained false mid.held → Brings mid new → GathersAsNeeded old asked new
needs_chunk old mid new asked live can place reads further is short drained came told =
    let tells = tells_still old.buffer.raw mid.buffer.raw reads.keeps.raw ∙ told in
    let tied : Tied mid = tied_of mid (reads.life_is ∙ live) (ap (λ (able : _). able.readable) reads.keeps.can ∙ can) is tells in
    inr (record {
      from = mid.buffer.place;
      forth = omega (arith, further, is.forth, is.stands, place.at);
      within = omega (arith, came.place, came.few, ap (λ (settings : _). settings.chunk_size) place.settings);
      leaves = subst (λ (file : TextFile). LeavesOpen file (call_of asked) mid.buffer.place) (same_file old mid (reads.bytes told) reads.keeps.can reads.life_is place) (leaves_open mid asked (omega (arith, is.forth, is.stands)) tied short drained);
    })

-- the buffer is where it was
pub needs_at : (old mid : TextView) (asked : Wanted) (place : ℕ) → place ≡ mid.buffer.place → GathersAsNeeded old asked mid → WhereShown old.buffer (AsksAsNeeded (shown_file old) (call_of asked) old.settings.chunk_size (max old.buffer.place old.at) place)
needs_at old mid asked place same needs told = subst (λ (end : ℕ). AsksAsNeeded (shown_file old) (call_of asked) old.settings.chunk_size (max old.buffer.place old.at) end) (sym same) (needs told)
