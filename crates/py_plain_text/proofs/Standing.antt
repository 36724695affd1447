-- Calls leave a text where a cookie tells its place.
use Rattle.std.proofs.Common.{◌≡◌, ℕ, zero, suc, ◌+◌, ◌≤◌, Bool, true, false, not, ◌&&◌, ◌||◌, nat_eq, nat_le, List, [], ◌∷◌, ◌++◌, length as len, take, drop, Option, Some, None, is_some, unwrap_or, if◌then◌else◌, refl, sym, ap, subst, ◌∙◌, arith, append-nil}
use Rattle.std.proofs.lemmas.Bool.{and_parts, or_parts, eqb-true, false≢true}
use Rattle.std.proofs.lemmas.Bool.Decides.{nat_tests}
use Rattle.std.proofs.lemmas.List.{length-take, length-drop}
use Rattle.py_flat.specs.declared.fault.IoFault.{IoFault}
use Rattle.py_flat.specs.declared.fault.IoFault.TheVariants as fault
use Rattle.py_flat.specs.FlatFile.{Abilities}
use Rattle.py_flat.specs.Bytes.{first_of}
use Rattle.py_flat.specs.Lines.{first_line}
use Rattle.py_flat.specs.Refusals.{or_else, refused_if, too_far}
use Rattle.py_plain.specs.declared.encoding.Encoding as coding
use Rattle.py_plain.specs.declared.handler.Handler.{Handler}
use Rattle.py_plain.specs.Units.{Order, Unknown}
use Rattle.py_plain.specs.Handlers.{Treatment, treatment, reads_texts}
use Rattle.py_plain.specs.Items.{Item, Walk, Ending, AtEnd, AtRange, AtCut, walk_from}
use Rattle.py_plain.specs.NewlineRule.{line_end}
use Rattle.py_plain.specs.Pieces.{LooksAtRange, walk_at, unless_refused, place_behind, unused}
use Rattle.py_plain.proofs.Joining.{two}
use Rattle.py_plain.proofs.Looking.{reading}
use Rattle.py_plain_text.specs.TextFile.{Front, TextPlace, TextFile, clean_at}
use Rattle.py_plain_text.specs.Rest.{text_rest}
use Rattle.py_plain_text.specs.TextStep.{asks_any, asks_past, range_refusal, answered_text, after_taking}
use Rattle.py_plain_text.specs.TextWriting.{writes_texts, written_bytes, written_refusal}
use Rattle.py_plain_text.specs.Cookie.{Cookie, order_of}
use Rattle.py_plain_text.specs.Landing.{Stands, CantRestore, start_of, fed_by, skipped_by, skips, start_place, only_item, fed_bytes, fed_walk, feeds_some, skips_within, is_restorable, place_inside}
use Rattle.py_plain_text.specs.Telling.{placed}
use Rattle.py_plain_text.specs.TextCalls.{TextFileCall, Read, ReadLine, WriteText, SeekText, Tell, Reconfigure, SetChunkSize, Flush, Close, Detach, ChunkSize, Readable, Writable, Seekable, Closed, Encoding, Errors, OtherKind, Changes, changes_reading}
use Rattle.py_plain_text.specs.TextRefusals.{refusal, life_refusal, lacks, argument_refusal, encode_error, fits_handler, dirty_refusal, handler_refusal}
use Rattle.py_plain_text.specs.TextExact.{with_chunk_size, after_writing, after_changes, sought_cookie, after_landing, text_sought, carried_out, answered, exact}
use Rattle.py_plain_text.specs.TextExamples.{text_after}
use Rattle.py_plain_text.specs.CookieLaws.{alone_at, FrontStands, StandsInText}

-- Refusals.

pub or_none : (first later : Option IoFault) → or_else first later ≡ None → (first ≡ None) × (later ≡ None)
or_none (Some fault) later none = absurd (cc)
or_none None later none = (refl, none)

pub test_none : (test : Bool) (fault : IoFault) → refused_if test fault ≡ None → test ≡ false
test_none true fault none = absurd (cc)
test_none false fault none = refl

-- a call that is let through lacks nothing, and nothing is wrong with its arguments
pub all_none : (file : TextFile) (call : TextFileCall) → or_else (life_refusal file.life call) (or_else (refused_if (lacks file call) fault.Unsupported) (argument_refusal file call)) ≡ None → (lacks file call ≡ false) × (argument_refusal file call ≡ None)
all_none file call none =
    let life = or_none (life_refusal file.life call) (or_else (refused_if (lacks file call) fault.Unsupported) (argument_refusal file call)) none in
    let able = or_none (refused_if (lacks file call) fault.Unsupported) (argument_refusal file call) life.1 in
    (test_none (lacks file call) fault.Unsupported able.0, able.1)

pub not_false : (test : Bool) → not test ≡ false → test ≡ true
not_false true is = refl
not_false false is = absurd (cc)

-- Texts that have the same bytes and are read so.

pub record SameText (file after : TextFile) : Type 0 where
  pub bytes : after.bytes ≡ file.bytes
  pub at : after.place.at ≡ file.place.at
  pub order : after.place.order ≡ file.place.order
  pub encoding : after.settings.encoding ≡ file.settings.encoding
  pub handler : after.settings.handler ≡ file.settings.handler

alone_same : (file after : TextFile) → SameText file after → (start size : ℕ) → alone_at after start size ≡ alone_at file start size
alone_same file after same start size =
    ap (λ (e : coding.Encoding). walk_from e (treatment after.settings.handler e) true after.place.order start 0 (take size (drop start after.bytes))) same.encoding
    ∙ (ap (λ (h : Handler). walk_from file.settings.encoding (treatment h file.settings.encoding) true after.place.order start 0 (take size (drop start after.bytes))) same.handler
    ∙ (ap (λ (o : Order). walk_from file.settings.encoding (treatment file.settings.handler file.settings.encoding) true o start 0 (take size (drop start after.bytes))) same.order
    ∙ ap (λ (bs : List ℕ). walk_from file.settings.encoding (treatment file.settings.handler file.settings.encoding) true file.place.order start 0 (take size (drop start bs))) same.bytes))

front_kept : (file after : TextFile) → SameText file after → (front : Option Front) → FrontStands file front → FrontStands after front
front_kept file after same None stands = tt
front_kept file after same (Some front) stands =
    let walk : alone_at after front.start front.length ≡ alone_at file front.start front.length = alone_same file after same front.start front.length in
    record {
      item = stands.item;
      stands = record {
        some = stands.stands.some;
        few = stands.stands.few;
        within = omega (arith, stands.stands.within, ap len same.bytes);
        items = ap (λ (w : Walk). w.items) walk ∙ stands.stands.items;
        ending = ap (λ (w : Walk). w.ending) walk ∙ stands.stands.ending;
        whole = stands.stands.whole;
      };
      skips = stands.skips;
      behind = same.at ∙ stands.behind;
    }

-- a text at a byte
pub opened_stands : (file : TextFile) → (file.can.readable ≡ true → reads_texts file.settings.handler ≡ true) → (at : ℕ) (order : Order) → StandsInText (placed file (clean_at at order))
opened_stands file reads at order = record { reads = reads; front = tt; clean = λ none. (refl, refl); still = λ none. refl }

pub at_a_byte : (file : TextFile) → StandsInText file → (at : ℕ) (order : Order) → StandsInText (placed file (clean_at at order))
at_a_byte file stands at order = opened_stands file stands.reads at order

-- in another life, or with chunks of another size
pub in_a_life : (file : TextFile) → StandsInText file → (after : TextFile) → SameText file after → after.place ≡ file.place → after.can ≡ file.can → StandsInText after
in_a_life file stands after same place can = record {
  reads = λ is. ap reads_texts same.handler ∙ stands.reads (sym (ap (λ (a : Abilities). a.readable) can) ∙ is);
  front = subst (FrontStands after) (sym (ap (λ (p : TextPlace). p.front) place)) (front_kept file after same file.place.front stands.front);
  clean = λ none.
      let still = stands.clean (sym (ap (λ (p : TextPlace). p.dirty) place) ∙ none) in
      (ap (λ (p : TextPlace). p.front) place ∙ still.0, ap (λ (p : TextPlace). p.taken) place ∙ still.1);
  still = λ none. ap (λ (p : TextPlace). p.dirty) place ∙ stands.still (sym (ap (λ (a : Abilities). a.readable) can) ∙ none);
}

pub same_text : (file after : TextFile) → after.bytes ≡ file.bytes → after.place ≡ file.place → after.settings.encoding ≡ file.settings.encoding → after.settings.handler ≡ file.settings.handler → SameText file after
same_text file after bytes place encoding handler = record {
  bytes = bytes;
  at = ap (λ (p : TextPlace). p.at) place;
  order = ap (λ (p : TextPlace). p.order) place;
  encoding = encoding;
  handler = handler;
}

-- Landing.

pub only_back : (size : ℕ) (items : List Item) (ending : Ending) (cs : List ℕ) → only_item size items ending ≡ Some cs → (item : Item) × ((items ≡ item ∷ []) × (ending ≡ AtEnd) × (item.length ≡ size))
only_back size [] ending cs is = absurd (cc)
only_back size (item ∷ other ∷ items) ending cs is = absurd (cc)
only_back size (item ∷ []) (AtRange start end) cs is = absurd (cc)
only_back size (item ∷ []) (AtCut start) cs is = absurd (cc)
only_back size (item ∷ []) AtEnd cs is = (item, (refl, refl, by (nat_eq item.length size) refl is))
  where
    by : (test : Bool) → nat_eq item.length size ≡ test → (if test then Some item.characters else None) ≡ Some cs → item.length ≡ size
    by true same is = eqb-true item.length size same
    by false same is = absurd (cc)

skipped_some : (cookie : Cookie) (characters : Option (List ℕ)) → skips_within cookie characters ≡ true → (cs : List ℕ) × (characters ≡ Some cs)
skipped_some cookie None is = absurd (cc)
skipped_some cookie (Some cs) is = (cs, refl)

-- what is read whole while more may come is read so finally
pub record IsFinal (encoding : coding.Encoding) (treat : Treatment) (order : Order) (place : ℕ) (bytes : List ℕ) (items : List Item) : Type 0 where
  pub items_are : (walk_at encoding treat true order place bytes).items ≡ items
  pub ending_is : (walk_at encoding treat true order place bytes).ending ≡ AtEnd

pub final_by : (encoding : coding.Encoding) (treat : Treatment) → LooksAtRange treat → (last : Bool) (order : Order) (place : ℕ) (bytes : List ℕ) (items : List Item) → (walk_at encoding treat last order place bytes).items ≡ items → (walk_at encoding treat last order place bytes).ending ≡ AtEnd → IsFinal encoding treat order place bytes items
final_by encoding treat looks true order place bytes items are ending = record { items_are = are; ending_is = ending }
final_by encoding treat looks false order place bytes items are ending =
    let first : Walk = walk_at encoding treat false order place bytes in
    let behind : Ending → Walk = λ e. unless_refused first.order e (walk_at encoding treat true first.order (place_behind place bytes e) (unused place bytes e ++ [])) in
    let whole = sym (two encoding treat looks true order place bytes [] ∙ ap (walk_at encoding treat true order place) (append-nil bytes)) in
    record {
      items_are = ap (λ (w : Walk). w.items) whole ∙ (ap (λ (e : Ending). first.items ++ (behind e).items) ending ∙ (append-nil first.items ∙ are));
      ending_is = ap (λ (w : Walk). w.ending) whole ∙ ap (λ (e : Ending). (behind e).ending) ending;
    }

above_none : (n : ℕ) → not (nat_eq n 0) ≡ true → 1 ≤ n
above_none zero is = absurd (cc)
above_none (suc n) is = omega arith

inside_stands : (file : TextFile) → StandsInText file → (cookie : Cookie) → skips cookie ≡ true → is_restorable file cookie ≡ true → StandsInText (placed file (place_inside cookie))
inside_stands file stands cookie skipped restorable =
    let treat : Treatment = treatment file.settings.handler file.settings.encoding in
    let walk : Walk = fed_walk file cookie in
    let size : ℕ = fed_by cookie in
    let able = and_parts file.can.readable (feeds_some file cookie && skips_within cookie (only_item size walk.items walk.ending)) restorable in
    let fits = and_parts (feeds_some file cookie) (skips_within cookie (only_item size walk.items walk.ending)) able.1 in
    let fed = and_parts (nat_le 1 size) (nat_le size 4 && nat_eq (len (fed_bytes file cookie)) size) fits.0 in
    let lie = and_parts (nat_le size 4) (nat_eq (len (fed_bytes file cookie)) size) fed.1 in
    let some = skipped_some cookie (only_item (fed_by cookie) (fed_walk file cookie).items (fed_walk file cookie).ending) fits.1 in
    let only = only_back (fed_by cookie) (fed_walk file cookie).items (fed_walk file cookie).ending some.0 some.1 in
    let final = final_by file.settings.encoding treat (reading file.settings.handler file.settings.encoding (stands.reads able.0)) cookie.need_eof (order_of cookie.dec_flags) (start_of cookie) (fed_bytes file cookie) (only.0 ∷ []) only.1.0 only.1.1 in
    let one : 1 ≤ fed_by cookie = grind (arith, nat_tests, fed.0) in
    let four : fed_by cookie ≤ 4 = grind (arith, nat_tests, lie.0) in
    let all : len (fed_bytes file cookie) ≡ fed_by cookie = eqb-true (len (fed_bytes file cookie)) (fed_by cookie) lie.1 in
    record {
      reads = stands.reads;
      front = record {
        item = only.0;
        stands = record {
          some = one;
          few = four;
          within = omega (arith, one, all, length-take (fed_by cookie) (drop (start_of cookie) file.bytes), length-drop (start_of cookie) file.bytes);
          items = final.items_are;
          ending = final.ending_is;
          whole = only.1.2;
        };
        skips = above_none (skipped_by cookie) skipped;
        behind = refl;
      };
      clean = λ none. absurd (cc);
      still = λ none. absurd (false≢true (sym none ∙ able.0));
    }

landing_stands : (file : TextFile) → StandsInText file → (cookie : Cookie) (skipped restorable : Bool) → skips cookie ≡ skipped → is_restorable file cookie ≡ restorable → StandsInText (after_landing file cookie (if not skipped then Stands (start_place cookie) else if restorable then Stands (place_inside cookie) else CantRestore (start_place cookie))).1
landing_stands file stands cookie false restorable is may = at_a_byte file stands (start_of cookie) (order_of cookie.dec_flags)
landing_stands file stands cookie true true is may = inside_stands file stands cookie is may
landing_stands file stands cookie true false is may = at_a_byte file stands (start_of cookie) (order_of cookie.dec_flags)

pub seek_stands : (file : TextFile) → StandsInText file → (cookie : Cookie) → StandsInText (text_sought file cookie).1
seek_stands file stands cookie = landing_stands file stands cookie (skips cookie) (is_restorable file cookie) refl refl

-- Each call.

-- characters that were taken: none where none were asked for
pub taken_stands : (file : TextFile) → StandsInText file → file.can.readable ≡ true → (count : ℕ) (asks : Bool) → (asks ≡ false → count ≡ 0) → StandsInText (after_taking file count asks)
taken_stands file stands readable count asks none_asked = record {
  reads = stands.reads;
  front = front_kept file (after_taking file count asks) (record { bytes = refl; at = refl; order = refl; encoding = refl; handler = refl }) file.place.front stands.front;
  clean = λ none.
      let parts = or_parts file.place.dirty asks none in
      let still = stands.clean parts.0 in
      let nothing : count ≡ 0 = none_asked parts.1 in
      (still.0, omega (arith, still.1, nothing));
  still = λ none. absurd (false≢true (sym none ∙ readable));
}

answered_stands : (file after : TextFile) (fault : Option IoFault) (characters : List ℕ) → StandsInText file → StandsInText after → StandsInText (answered_text file fault characters after).1
answered_stands file after (Some fault) characters first second = first
answered_stands file after None characters first second = second

nothing_asked : (limit : Option ℕ) (cs : List ℕ) → asks_any limit ≡ false → len (first_of limit cs) ≡ 0
nothing_asked None cs none = absurd (cc)
nothing_asked (Some zero) cs none = refl
nothing_asked (Some (suc size)) cs none = let isnt : nat_eq (suc size) 0 ≡ false = grind (arith, nat_tests) in absurd (false≢true (sym none ∙ ap not isnt))

read_stands : (file : TextFile) → StandsInText file → file.can.readable ≡ true → (size : Option ℕ) → StandsInText (carried_out file (Read size)).1
read_stands file stands readable None =
    answered_stands file _ (range_refusal (asks_past None (text_rest file).characters) (text_rest file).refusal) (first_of None (text_rest file).characters) stands (at_a_byte file stands _ _)
read_stands file stands readable (Some size) =
    let cs : List ℕ = (text_rest file).characters in
    answered_stands file _ (range_refusal (asks_past (Some size) cs) (text_rest file).refusal) (first_of (Some size) cs) stands
    (taken_stands file stands readable (len (first_of (Some size) cs)) (asks_any (Some size)) (nothing_asked (Some size) cs))

-- where a call is let through, what it needs is there
abbrev pub LetThrough : TextFile → TextFileCall → Type 0
LetThrough file call = refusal file call ≡ None

unchanged : {A : Type 0} (given : Option A) (old : A) → is_some given ≡ false → unwrap_or given old ≡ old
unchanged None old none = refl
unchanged (Some new) old none = absurd (cc)

new_handler : (can : Abilities) (given : Option Handler) (old : Handler) → handler_refusal can given ≡ None → can.readable ≡ true → reads_texts old ≡ true → reads_texts (unwrap_or given old) ≡ true
new_handler can None old free readable reads = reads
new_handler can (Some new) old free readable reads =
    let fits : fits_handler can new ≡ true = not_false (fits_handler can new) (test_none (not (fits_handler can new)) fault.UnknownHandler free) in
    sym (ap (λ (b : Bool). not b || reads_texts new) readable) ∙ (and_parts (not can.readable || reads_texts new) (not can.writable || writes_texts new) fits).0

settings_front : (file : TextFile) → StandsInText file → (changes : Changes) (reading : Bool) → changes_reading changes ≡ reading → (if reading then dirty_refusal file else None) ≡ None → FrontStands (after_changes file changes) file.place.front
settings_front file stands changes true is free =
    let still = stands.clean (test_none file.place.dirty fault.SeekFirst free) in
    subst (FrontStands (after_changes file changes)) (sym still.0) tt
settings_front file stands changes false is free =
    let first = or_parts (is_some changes.encoding) (is_some changes.handler || is_some changes.newline) is in
    let second = or_parts (is_some changes.handler) (is_some changes.newline) first.1 in
    front_kept file (after_changes file changes)
    (record {
      bytes = refl;
      at = refl;
      order = ap (λ (b : Bool). if b then Unknown else file.place.order) first.0;
      encoding = unchanged changes.encoding file.settings.encoding first.0;
      handler = unchanged changes.handler file.settings.handler second.0;
    })
    file.place.front stands.front

settings_stand : (file : TextFile) → StandsInText file → (changes : Changes) → LetThrough file (Reconfigure changes) → StandsInText (after_changes file changes)
settings_stand file stands changes free =
    let wrong = or_none (if changes_reading changes then dirty_refusal file else None) (handler_refusal file.can changes.handler) (all_none file (Reconfigure changes) free).1 in
    record {
      reads = λ readable. new_handler file.can changes.handler file.settings.handler wrong.1 readable (stands.reads readable);
      front = settings_front file stands changes (changes_reading changes) refl wrong.0;
      clean = stands.clean;
      still = stands.still;
    }

pub write_stands : (file : TextFile) → StandsInText file → file.place.dirty ≡ false → (bytes : List ℕ) → StandsInText (after_writing file bytes)
write_stands file stands clean bytes =
    let still = stands.clean clean in
    record {
      reads = stands.reads;
      front = subst (FrontStands (after_writing file bytes)) (sym still.0) tt;
      clean = λ none. still;
      still = stands.still;
    }

-- an accepted call
pub call_stands : (file : TextFile) → StandsInText file → (call : TextFileCall) → LetThrough file call → StandsInText (carried_out file call).1
call_stands file stands (Read size) free =
    read_stands file stands (not_false file.can.readable (all_none file (Read size) free).0) size
call_stands file stands (ReadLine limit) free =
    let readable : file.can.readable ≡ true = not_false file.can.readable (all_none file (ReadLine limit) free).0 in
    let line : List ℕ = first_line (line_end file.settings.newline) limit (text_rest file).characters in
    answered_stands file _ _ line stands (taken_stands file stands readable (len line) (asks_any limit) (nothing_asked limit _))
call_stands file stands (WriteText text) free =
    let wrong = or_none (dirty_refusal file) (or_else (encode_error (written_refusal file.settings text)) (too_far (file.place.at + len (written_bytes file.settings text)))) (all_none file (WriteText text) free).1 in
    write_stands file stands (test_none file.place.dirty fault.SeekFirst wrong.0) (written_bytes file.settings text)
call_stands file stands (SeekText bytes whence) free = seek_stands file stands (sought_cookie file bytes whence)
call_stands file stands (Reconfigure changes) free = settings_stand file stands changes free
call_stands file stands (SetChunkSize size) free = in_a_life file stands (with_chunk_size file size) (same_text file (with_chunk_size file size) refl refl refl refl) refl refl
call_stands file stands Close free = in_a_life file stands (carried_out file Close).1 (same_text file (carried_out file Close).1 refl refl refl refl) refl refl
call_stands file stands Detach free = in_a_life file stands (carried_out file Detach).1 (same_text file (carried_out file Detach).1 refl refl refl refl) refl refl
call_stands file stands Flush free = stands
call_stands file stands Tell free = stands
call_stands file stands ChunkSize free = stands
call_stands file stands Readable free = stands
call_stands file stands Writable free = stands
call_stands file stands Seekable free = stands
call_stands file stands Closed free = stands
call_stands file stands Encoding free = stands
call_stands file stands Errors free = stands
call_stands file stands OtherKind free = stands

by_refusal : (file : TextFile) → StandsInText file → (call : TextFileCall) (why : Option IoFault) → refusal file call ≡ why → StandsInText (answered file call why).1
by_refusal file stands call (Some fault) is = stands
by_refusal file stands call None is = call_stands file stands call is

-- each call leaves a text where a cookie tells its place
pub exact_stands : (file : TextFile) (call : TextFileCall) → StandsInText file → StandsInText (exact file call).1
exact_stands file call stands = by_refusal file stands call (refusal file call) refl

pub runs_stand : (file : TextFile) (calls : List TextFileCall) → StandsInText file → StandsInText (text_after file calls)
runs_stand file [] stands = stands
runs_stand file (call ∷ calls) stands = runs_stand (exact file call).1 calls (exact_stands file call stands)
