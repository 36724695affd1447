-- A text that was just opened.
use Rattle.std.proofs.Common.{◌≡◌, ℕ, ◌+◌, ◌-◌, ◌≤◌, ◌<◌, max, inl, true, false, List, [], ◌++◌, length, take, Option, None, Result, Ok, refl, sym, ap, ◌∙◌, subst, arith}
use Rattle.std.proofs.lemmas.List.{length-append}
use Rattle.std.proofs.Math.Seq.{take-append_seam}
use Rattle.py_flat.specs.declared.fault.IoFault.{IoFault}
use Rattle.py_flat.specs.declared.life.Life.TheVariants as life
use Rattle.py_flat.specs.Limits.{greatest_place}
use Rattle.py_flat.specs.Bytes.{left_at}
use Rattle.py_flat.specs.Calls.{Tell}
use Rattle.py_flat.specs.Refusals.{refusal, is_unbuffered}
use Rattle.py_plain_text.specs.TextFile.{Front, TextSettings}
use Rattle.py_stream.specs.Writing.{OwesUpTo}
use Rattle.py_stream.specs.Buffer.{Buffer, flat_of, SaysPlace, TellsPlace}
use Rattle.py_held_text.specs.Held.{nothing_held, left_with, left_so_far}
use Rattle.py_held_text.proofs.Bases.{front-from}
use Rattle.py_text.specs.declared.coder.Coder.{Coder}
use Rattle.py_text.specs.declared.text_settings.TextSettings as declared
use Rattle.py_read_text.specs.TextState.{settings_of}
use Rattle.py_read_text.specs.Waiting.{bytes_between}
use Rattle.py_read_text.specs.Knowing.{from_place, with_given, front_of, FrontIs, KnowsTold, IsText}
use Rattle.py_read_text.proofs.Spots.{held_from, spot_front}

-- a live buffer that can seek tells its place
accepts_tell : (buffer : Buffer) → buffer.life ≡ life.Live → buffer.can.seekable ≡ true → refusal (flat_of buffer) Tell ≡ None
accepts_tell buffer live can = rw live (rw can refl)

pub tells_place : (old new : Buffer) (result : Result ℕ IoFault) → old.life ≡ life.Live → old.can.seekable ≡ true → TellsPlace old result new → result ≡ Ok old.place
tells_place old new result live can tells = subst (λ (refused : Option IoFault). SaysPlace refused old.place result) (accepts_tell old live can) tells.says

-- nothing was taken: what is known is the front, and all bytes since are in hand
pub knows_front : (settings : TextSettings) (bytes : List ℕ) (far at room : ℕ) (since : List ℕ) (front : Option Front) (cs : List ℕ) → at + length since ≡ far → left_at bytes at ≡ since ++ left_at bytes far → far ≤ max at (length bytes) → FrontIs settings bytes front at → front_of settings bytes front ≡ cs → KnowsTold settings bytes far front at 0 (front-from (held_from settings at since room) cs)
knows_front settings bytes far at room since front cs reaches split within item is =
    let count : far - at ≡ length since = omega (arith, reaches) in
    let between : bytes_between bytes at far ≡ since = ap (λ (n : ℕ). take n (left_at bytes at)) count ∙ (ap (take (length since)) split ∙ take-append_seam since (left_at bytes far)) in
    let size : length (front_of settings bytes front) ≡ length cs = ap length is in
    record {
      item = item;
      stands = omega (arith, size);
      given = [];
      count = refl;
      within = within;
      left = ap (λ (own : List ℕ). with_given own (left_with (from_place settings at) (left_at bytes at))) is ∙ ap (λ (all : List ℕ). with_given cs (left_with (from_place settings at) all)) split;
      shows = λ more own. subst (λ (all : List ℕ). length (front_of settings bytes front) + length (left_so_far (from_place settings at) (all ++ more)).characters ≤ 0 + length (left_so_far (front-from (held_from settings at since room) cs) more).characters) (sym between)
          (omega (arith, size, length-append cs (left_so_far (held_from settings at since room) more).characters));
      sound = λ more own says. subst (λ (all : List ℕ). (left_so_far (from_place settings at) (all ++ more)).refusal ≡ None) (sym between) says;
      whole = λ none. split;
      spot = spot_front settings bytes far at room since cs split;
    }

-- what is left of them is what is left from the place on, by whichever settings
pub knows_anew : (settings : TextSettings) (bytes : List ℕ) (far at room : ℕ) (since : List ℕ) → at + length since ≡ far → left_at bytes at ≡ since ++ left_at bytes far → far ≤ max at (length bytes) → KnowsTold settings bytes far None at 0 (held_from settings at since room)
knows_anew settings bytes far at room since reaches split within = knows_front settings bytes far at room since None [] reaches split within (λ file encoding handler own order there. tt) refl

pub knows_begun : (settings : TextSettings) (bytes : List ℕ) (place room : ℕ) → KnowsTold settings bytes place None place 0 (record (from_place settings place) { room = room })
knows_begun settings bytes place room = knows_anew settings bytes place place room [] (omega arith) refl (omega arith)

pub text_begun : (buffer : Buffer) (coder reading : Coder) (settings : declared.TextSettings) (place : ℕ) → 0 < settings.chunk_size → is_unbuffered buffer.buffering ≡ false → buffer.exported ≡ false → OwesUpTo buffer.owed buffer.place → place ≡ buffer.place → place ≤ greatest_place → (buffer.can.readable ≡ true → reading ≡ coder) → IsText buffer (nothing_held reading settings.newline place 0) None place 0 false (settings_of coder settings)
text_begun buffer coder reading settings place asks buffered kept owes is far same = record {
  reads_by = λ reads. record { encoding = ap (λ (own : Coder). own.encoding) (same reads); handler = ap (λ (own : Coder). own.errors) (same reads); newline = refl };
  asks = asks;
  buffered = buffered;
  kept = kept;
  owes = owes;
  ahead = inl is;
  stands = omega (arith, is);
  far = omega (arith, is, far);
  forth = omega arith;
  from = omega arith;
  few = omega arith;
  has = record { among = omega arith; marked = tt };
  inside = refl;
  clean = λ clean. refl;
  still = λ can. refl;
  whole = λ zero. omega (arith, is);
  told = λ told live reads. subst (λ (own : ℕ). KnowsTold (settings_of coder settings) (flat_of buffer).bytes own None place 0 (nothing_held reading settings.newline place 0)) is
      (subst (λ (own : Coder). KnowsTold (settings_of coder settings) (flat_of buffer).bytes place None place 0 (nothing_held own settings.newline place 0)) (sym (same reads)) (knows_begun (settings_of coder settings) (flat_of buffer).bytes place 0));
}
