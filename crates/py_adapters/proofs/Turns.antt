-- Readings and writes one after another: one more behind those that were made.
use Rattle.std.proofs.Common.{◌≡◌, ◌≢◌, ℕ, zero, suc, ◌+◌, ◌-◌, ◌<◌, ◌≤◌, List, [], ◌∷◌, ◌++◌, length, take, drop, Option, Some, None, Result, Ok, Err, refl, sym, ap, ◌∙◌, subst, append_assoc, arith}
use Rattle.std.proofs.lemmas.List.{append-nil, length-append, length-take-le, take_at, drop_at}
use Rattle.std.specs.IoError.{error_kind}
use Rattle.std.specs.declared.io.Error.{Error}
use Rattle.std.specs.declared.io.ErrorKind.TheVariants as kind
use Rattle.py_flat.specs.declared.fault.IoFault.{IoFault}
use Rattle.py_flat.specs.Lines.{joined}
use Rattle.py_flat.specs.Calls.{FileCall, FileReply, Write}
use Rattle.py_stream.specs.Replies.{into_reply, count_reply}
use Rattle.py_stream.specs.Buffer.{Buffer}
use borrow.Rule.Slice.PartMut.{put_mid}
use Rattle.py_adapters.specs.Answers.{AnsweredBy, MadeBy, SaysRead, SaysWritten, InTurn, MovesInTurn, FillsInTurn, GivesPart, SaysEnded, TakesPart, EndsWriting}
use Rattle.py_adapters.proofs.Known.{part_put, front_put, front_stays}

-- the bytes of a part behind others
pub joined_on : (parts : List (List ℕ)) (part : List ℕ) → joined (parts ++ (part ∷ [])) ≡ joined parts ++ part
joined_on [] part = append-nil part
joined_on (first ∷ parts) part = ap (λ (xs : List ℕ). first ++ xs) (joined_on parts part) ∙ sym (append_assoc first (joined parts) part)

-- one call more, behind those that were made
pub turns_on : {Own : Type 0} (Moves : ℕ → Own → List ℕ → Own → Type 0) (done : ℕ) (before mid after : Own) (parts : List (List ℕ)) (part : List ℕ) → InTurn Moves done before parts mid → part ≢ [] → Moves (done + length (joined parts)) mid part after → InTurn Moves done before (parts ++ (part ∷ [])) after
turns_on {Own} Moves done before mid after [] part same some moves =
    let here : done + 0 ≡ done = omega arith in
    (after, some, subst (λ (at : ℕ). Moves at before part after) here (subst (λ (own : Own). Moves (done + 0) own part after) same moves), refl)
turns_on Moves done before mid after (first ∷ parts) part (next, some_first, moved, turns) some moves =
    let behind : done + length (first ++ joined parts) ≡ (done + length first) + length (joined parts) = omega (arith, length-append first (joined parts)) in
    (next, some_first, moved, turns_on Moves (done + length first) next mid after parts part turns some (subst (λ (at : ℕ). Moves at mid part after) behind moves))

-- some bytes of a list are some
pub some_taken : (xs : List ℕ) (count : ℕ) → 0 < count → count ≤ length xs → take count xs ≢ []
some_taken xs count some within none = absurd (omega (arith, some, sym (length-take-le count xs within), ap length none))

-- Readings.

gave : {Own : Type 0} (answers : Own → ℕ → FileReply → Own → Type 0) (size done asked count : ℕ) (before after : Own) (space : List ℕ) (came : Result (Option ℕ) IoFault) → asked ≡ size - done → answers before asked (into_reply came space) after → SaysRead came (Ok count) → GivesPart answers size done before (take count space) after
gave answers size done asked count before after space (Ok (Some came)) is answered says = rw says (rw (sym is) answered)
gave answers size done asked count before after space (Ok None) is answered says = absurd says
gave answers size done asked count before after space (Err why) is answered says = absurd says

-- a reading that gave some bytes
pub gave_part : {Own : Type 0} (answers : Own → ℕ → FileReply → Own → Type 0) (size done asked count : ℕ) (before after : Own) (space : List ℕ) → asked ≡ size - done → AnsweredBy (λ (came : Result (Option ℕ) IoFault). answers before asked (into_reply came space) after) (λ (came : Result (Option ℕ) IoFault). SaysRead came (Ok count)) → GivesPart answers size done before (take count space) after
gave_part answers size done asked count before after space is by = gave answers size done asked count before after space by.came is by.answered by.said

-- what a reading that gave nothing answered
ended_reply : {Own : Type 0} (answers : Own → ℕ → FileReply → Own → Type 0) (asked left : ℕ) (before after : Own) (space : List ℕ) (came : Result (Option ℕ) IoFault) (error : Error) → asked ≡ left → answers before asked (into_reply came space) after → SaysEnded came error → answers before left (into_reply came []) after
ended_reply answers asked left before after space (Ok (Some zero)) error is answered says = rw (sym is) answered
ended_reply answers asked left before after space (Ok (Some (suc count))) error is answered says = absurd says
ended_reply answers asked left before after space (Ok None) error is answered says = rw (sym is) answered
ended_reply answers asked left before after space (Err why) error is answered says = rw (sym is) answered

says_none : (came : Result (Option ℕ) IoFault) (error : Error) → SaysRead came (Ok 0) → error_kind error ≡ kind.UnexpectedEof → SaysEnded came error
says_none (Ok (Some zero)) error says is = is
says_none (Ok (Some (suc count))) error says is = absurd (cc)
says_none (Ok None) error says is = absurd says
says_none (Err why) error says is = absurd says

says_error : (came : Result (Option ℕ) IoFault) (error : Error) → SaysRead came (Err error) → SaysEnded came error
says_error (Ok (Some count)) error says = absurd says
says_error (Ok None) error says = says
says_error (Err why) error says = says

-- Readings into a buffer, whose front has what came.

-- so many bytes came by readings one after another: they stand at the front of the buffer
pub record CameInTurn {Own : Type 0} (answers : Own → ℕ → FileReply → Own → Type 0) (size at : ℕ) (before : Own) (space : List ℕ) (after : Own) : Type 0 where
  pub parts : List (List ℕ)
  pub front : joined parts ≡ take at space
  pub turns : InTurn (GivesPart answers size) 0 before parts after

-- nothing came yet
pub came_none : {Own : Type 0} (answers : Own → ℕ → FileReply → Own → Type 0) (size : ℕ) (before : Own) (space : List ℕ) → CameInTurn answers size 0 before space before
came_none answers size before space = record { parts = []; front = refl; turns = refl }

-- how many came
many_came : (parts : List (List ℕ)) (at : ℕ) (space : List ℕ) → at ≤ length space → joined parts ≡ take at space → length (joined parts) ≡ at
many_came parts at space within front = ap length front ∙ length-take-le at space within

-- one reading more
pub came_more : {Own : Type 0} (answers : Own → ℕ → FileReply → Own → Type 0) (size start asked count : ℕ) (before mid after : Own) (own new : List ℕ) → CameInTurn answers size start before own mid → start ≤ length own → asked ≡ size - start → 0 < count → count ≤ length new → AnsweredBy (λ (came : Result (Option ℕ) IoFault). answers mid asked (into_reply came new) after) (λ (came : Result (Option ℕ) IoFault). SaysRead came (Ok count)) → CameInTurn answers size (start + count) before (put_mid start (length own - start) own new) after
came_more answers size start asked count before mid after own new came within is some fits by =
    let many : length (joined came.parts) ≡ start = many_came came.parts start own within came.front in
    let part : List ℕ = take count new in
    record {
      parts = came.parts ++ (part ∷ []);
      front = joined_on came.parts part ∙ (ap (λ (xs : List ℕ). xs ++ part) came.front ∙ sym (front_put own new start count within));
      turns = turns_on (GivesPart answers size) 0 before mid after came.parts part came.turns (some_taken new count some fits) (gave_part answers size (0 + length (joined came.parts)) asked count mid after new (omega (arith, is, many)) by);
    }

-- all that was asked for came
pub all_came : {Own : Type 0} (answers : Own → ℕ → FileReply → Own → Type 0) (size at : ℕ) (before after : Own) (space was : List ℕ) (result : Result (Unit {0}) Error) → CameInTurn answers size at before space after → at ≡ size → size ≡ length space → drop at space ≡ drop at was → result ≡ Ok tt → FillsInTurn answers size was space before result after
all_came answers size at before after space was result came is same stays says =
    let many : length (joined came.parts) ≡ at = many_came came.parts at space (omega (arith, is, same)) came.front in
    record {
      by = record {
        parts = came.parts;
        front = ap (λ (count : ℕ). take count space) many ∙ sym came.front;
        mid = after;
        turns = came.turns;
        ends = rw says ((many ∙ is), refl);
      };
      behind = subst (λ (count : ℕ). drop count space ≡ drop count was) (sym many) stays;
    }

-- a reading that gave none ended it
pub came_until : {Own : Type 0} (answers : Own → ℕ → FileReply → Own → Type 0) (size start asked : ℕ) (before mid after : Own) (own new was : List ℕ) (result : Result (Unit {0}) Error) (error : Error) → CameInTurn answers size start before own mid → start < size → size ≡ length own → asked ≡ size - start → drop start own ≡ drop start was → new ≡ drop start own → result ≡ Err error → AnsweredBy (λ (came : Result (Option ℕ) IoFault). answers mid asked (into_reply came new) after) (λ (came : Result (Option ℕ) IoFault). SaysEnded came error) → FillsInTurn answers size was (put_mid start (length own - start) own new) before result after
came_until answers size start asked before mid after own new was result error came less same is stays kept says by =
    let within : start ≤ length own = omega (arith, less, same) in
    let many : length (joined came.parts) ≡ start = many_came came.parts start own within came.front in
    let whole : List ℕ = put_mid start (length own - start) own new in
    record {
      by = record {
        parts = came.parts;
        front = ap (λ (count : ℕ). take count whole) many ∙ (front_stays own new start within ∙ sym came.front);
        mid = mid;
        turns = came.turns;
        ends = rw says (omega (arith, many, less), record { came = by.came; answered = ended_reply answers asked (size - length (joined came.parts)) mid after new by.came error (omega (arith, is, many)) by.answered by.said; said = by.said });
      };
      behind = subst (λ (count : ℕ). drop count whole ≡ drop count was) (sym many) (part_put own new start within ∙ (kept ∙ stays));
    }

-- a reading that was refused, or gave none, by what it said
pub ended_error : (P : Result (Option ℕ) IoFault → Type 0) (error : Error) → AnsweredBy P (λ (came : Result (Option ℕ) IoFault). SaysRead came (Err error)) → AnsweredBy P (λ (came : Result (Option ℕ) IoFault). SaysEnded came error)
ended_error P error by = record { came = by.came; answered = by.answered; said = says_error by.came error by.said }

pub ended_none : (P : Result (Option ℕ) IoFault → Type 0) (count : ℕ) (error : Error) → count ≡ 0 → error_kind error ≡ kind.UnexpectedEof → AnsweredBy P (λ (came : Result (Option ℕ) IoFault). SaysRead came (Ok count)) → AnsweredBy P (λ (came : Result (Option ℕ) IoFault). SaysEnded came error)
ended_none P count error none says by = record { came = by.came; answered = by.answered; said = says_none by.came error (subst (λ (n : ℕ). SaysRead by.came (Ok n)) none by.said) says }

-- Writes of some bytes, of which so many are taken.

-- what is left of some bytes
left_of : (all done left : List ℕ) (parts : List (List ℕ)) → all ≡ done ++ left → joined parts ≡ done → drop (length (joined parts)) all ≡ left
left_of all done left parts split same = ap (λ (count : ℕ). drop count all) (ap length same) ∙ (ap (drop (length done)) split ∙ drop_at done left (length done) refl)

-- one write more
pub took_more : {Own : Type 0} (shows : Own → Buffer) (own : Own → FileCall → FileReply → Own → Type 0) (all done left : List ℕ) (count : ℕ) (before mid after : Own) (parts : List (List ℕ)) → all ≡ done ++ left → joined parts ≡ done → InTurn (TakesPart shows own all) 0 before parts mid → 0 < count → count ≤ length left → AnsweredBy (λ (came : Result ℕ IoFault). MadeBy shows own mid (Write left) (count_reply came) after) (λ (came : Result ℕ IoFault). SaysWritten came (shows after).taken (Ok count)) → (more : List (List ℕ)) × (joined more ≡ done ++ take count left) × InTurn (TakesPart shows own all) 0 before more after
took_more shows own all done left count before mid after parts split same turns some within by =
    let part : List ℕ = take count left in
    let took : TakesPart shows own all (length (joined parts)) mid part after = record {
      came = by.came;
      answered = subst (λ (some : List ℕ). MadeBy shows own mid (Write some) (count_reply by.came) after) (sym (left_of all done left parts split same)) by.answered;
      said = subst (λ (n : ℕ). SaysWritten by.came (shows after).taken (Ok n)) (sym (length-take-le count left within)) by.said;
    } in
    (parts ++ (part ∷ []), joined_on parts part ∙ ap (λ (xs : List ℕ). xs ++ part) same, turns_on (TakesPart shows own all) 0 before mid after parts part turns (some_taken left count some within) (subst (λ (at : ℕ). TakesPart shows own all at mid part after) (omega arith) took))

-- a write that was refused, and took none, ended it
pub took_until : {Own : Type 0} (shows : Own → Buffer) (own : Own → FileCall → FileReply → Own → Type 0) (all done left : List ℕ) (before mid after : Own) (parts : List (List ℕ)) (result : Result (Unit {0}) Error) (error : Error) → all ≡ done ++ left → joined parts ≡ done → InTurn (TakesPart shows own all) 0 before parts mid → 0 < length left → result ≡ Err error → AnsweredBy (λ (came : Result ℕ IoFault). MadeBy shows own mid (Write left) (count_reply came) after) (λ (came : Result ℕ IoFault). SaysWritten came (shows after).taken (Err error)) → MovesInTurn (TakesPart shows own all) (EndsWriting shows own all) all before result after
took_until shows own all done left before mid after parts result error split same turns some says by =
    let behind : drop (length (joined parts)) all ≡ left = left_of all done left parts split same in
    record {
      parts = parts;
      front = ap (λ (count : ℕ). take count all) (ap length same) ∙ (ap (take (length done)) split ∙ (take_at done left (length done) refl ∙ sym same));
      mid = mid;
      turns = turns;
      ends = rw says (omega (arith, some, ap length same, ap length split, length-append done left), record { came = by.came; answered = subst (λ (some : List ℕ). MadeBy shows own mid (Write some) (count_reply by.came) after) (sym behind) by.answered; said = by.said });
    }
