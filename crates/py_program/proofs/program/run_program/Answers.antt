use Rattle.std.proofs.Common.{◌≡◌, ◌≢◌, ◌⊎◌, IsTrue, None, subst, ℕ, rules, arith}
use Rattle.std.proofs.lemmas.Grind.{common_steps}
use Rattle.py_flat.specs.Causes.{Rose}
use Rattle.py_raw.specs.Source.{SourceView}
use Rattle.py_program.specs.Outside.{texts, IsMalformed}
use Rattle.py_program.specs.Outcome.{Outside, asked_in, Ends}
use Rattle.py_program.specs.Meaning.{IsRefusedPlan, MayNotMove, NothingFails}
use Rattle.py_program.proofs.Ending.{paths_kept, others_kept, path_left_by, refused_by_cause, path_missed, path_found}
use Rattle.py_program.proofs.Exact.{prints_replies}
use Rattle.py_program.proofs.Smooth.{does_as_model}
use Rattle.py_program.proofs.Counting.{all_counts, opens_one, opens_none}
use Rattle.py_program.proofs.program.run_program.Goals as goal

pub returns-clause-promises : goal.returns-clause-promises
returns-clause-promises g c =
    let old : SourceView = g.I.Source.shows c.args.script.now in
    let new : SourceView = g.I.Source.shows c.run_to_status.new.script in
    let before : Outside = record { opener = g.O.Opener.shows c.args.opener.now; sink = g.K.Sink.shows c.args.out.now } in
    let after : Outside = record { opener = g.O.Opener.shows c.run_to_status.new.opener; sink = g.K.Sink.shows c.run_to_status.new.out } in
    let ends : Ends c.code.result (texts c.args.words.now) old new before after = record { ended = c.run_to_status.result; code_is = c.code.ensures; outcome = c.run_to_status.ensures.outcome } in
    let refused : c.code.result ≡ 4 → IsRefusedPlan (asked_in c.args.words.now) ⊎ (Rose before.opener.raw_faults after.opener.raw_faults ⊎ MayNotMove before.opener (asked_in c.args.words.now)) = refused_by_cause c.code.result (texts c.args.words.now) old new before after ends in
    let complete : asked_in c.args.words.now ≢ None → ¬ IsRefusedPlan (asked_in c.args.words.now) → NothingFails old new before after → (c.code.result ≡ 0) ⊎ ((c.code.result ≡ 3) ⊎ ((c.code.result ≡ 7) ⊎ ((c.code.result ≡ 4) × MayNotMove before.opener (asked_in c.args.words.now)))) = first_of (search rules, grind (arith, common_steps)) in
    let malformed : c.code.result ≡ 3 → IsTrue old.tells → IsMalformed old.left = first_of (search rules, grind (arith, common_steps)) in
    record {
      statuses = first_of (search rules, grind (arith, common_steps));
      malformed_words = first_of (search rules, grind (arith, common_steps));
      words = first_of (search rules, grind (arith, common_steps));
      source = first_of (search rules, grind (arith, common_steps));
      sink = first_of (search rules, grind (arith, common_steps));
      opener = first_of (search rules, grind (arith, common_steps));
      source_exact = first_of (search rules, grind (arith, common_steps));
      sink_exact = first_of (search rules, grind (arith, common_steps));
      opener_exact = first_of (search rules, grind (arith, common_steps));
      counts = (all_counts c.code.result (texts c.args.words.now) old new before after ends).0;
      once = (all_counts c.code.result (texts c.args.words.now) old new before after ends).1;
      opened = opens_one c.code.result (texts c.args.words.now) old new before after ends;
      none_opened = opens_none c.code.result (texts c.args.words.now) old new before after ends;
      refused = refused;
      planned = first_of (search rules, grind (arith, common_steps));
      unopened = first_of (search rules, grind (arith, common_steps));
      complete = complete;
      malformed_script = malformed;
      script = first_of (search rules, grind (arith, common_steps));
      missing = λ path plan accepted is tells. path_missed (texts c.args.words.now) old new before after path plan (subst (λ (code : ℕ). Ends code (texts c.args.words.now) old new before after) is ends) accepted tells;
      found = λ path plan accepted well tells missed. path_found c.code.result (texts c.args.words.now) old new before after path plan ends accepted well tells missed;
      kept = paths_kept c.code.result (texts c.args.words.now) old new before after ends;
      others = others_kept c.code.result (texts c.args.words.now) old new before after ends;
      left = λ path plan accepted is tells. path_left_by (texts c.args.words.now) old new before after path plan (subst (λ (code : ℕ). Ends code (texts c.args.words.now) old new before after) is ends) accepted tells;
      smooth = does_as_model c.code.result (texts c.args.words.now) old new before after ends complete malformed;
      printed = λ path mode args is form. prints_replies (texts c.args.words.now) old new before after path mode args (subst (λ (code : ℕ). Ends code (texts c.args.words.now) old new before after) is ends) form;
      help = first_of (search rules, grind (arith, common_steps));
      version = first_of (search rules, grind (arith, common_steps));
    }
