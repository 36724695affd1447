use Rattle.std.proofs.Common.{◌≡◌, [], ◌∷◌, ◌++◌, length, List, ℕ, sym, subst, ap, ◌∙◌, rules}
use Rattle.py_lines.specs.Collecting.{LinesView, AreCut, HintLeaves, LinesAreOpen}
use Rattle.py_flat.specs.Lines.{joined}
use Rattle.py_lines.proofs.Lines.{cut_more}
use Rattle.py_lines.proofs.Collectors.{cut_pushed, enough_after, enough_along}
use Rattle.py_lines.proofs.lines_collector.LinesCollector.end_line.Goals as goal

pub invariant_of-self-in-None : goal.invariant_of-self-in-None
invariant_of-self-in-None c =
    let none : c.self.inside.part.items ≡ [] = ap (λ (v : LinesView). v.part) (c.self.view_is ∙ c.in_ok-line.ensures.2) in (
      cut_pushed c.self.inside.lines.items c.push.new.self.items c.self.inside.part.items c.in_ok-line.line.items c.from_vec.result c.self.invariant.0 c.in_ok-line.ensures.1 c.from_vec.ensures c.in_ok-push.ensures.items none,
      λ some. absurd (some none),
    )

pub invariant_of-self-in-Some : goal.invariant_of-self-in-Some
invariant_of-self-in-Some c =
    let none : c.self.inside.part.items ≡ [] = ap (λ (v : LinesView). v.part) (c.self.view_is ∙ c.in_ok-line.ensures.2) in (
      cut_pushed c.self.inside.lines.items c.push.new.self.items c.self.inside.part.items c.in_ok-line.line.items c.from_vec.result c.self.invariant.0 c.in_ok-line.ensures.1 c.from_vec.ensures c.in_ok-push.ensures.items none,
      λ some. absurd (some none),
    )

pub returns-in-Some : goal.returns-in-Some
returns-in-Some c =
    let lines : List (List ℕ) = c.self.inside.lines.items in
    let line : List ℕ = c.in_ok-line.line.items in
    let part : List ℕ = c.self.inside.part.items in
    let opened : HintLeaves c.self.inside.hint (length (joined lines)) c.self.inside.left = subst LinesAreOpen (sym (c.self.view_is ∙ c.in_ok-line.ensures.2)) c.requires.open in
    let cut : AreCut (lines ++ (line ∷ [])) [] = cut_more lines line part c.self.invariant.0 c.in_ok-line.ensures.1 in
    record {
      lines = search rules;
      part = search rules;
      hint = search rules;
      enough_is = enough_along _ (lines ++ (line ∷ [])) c.push.new.self.items part c.self.inside.hint _ c.saturating_sub.result (c.in_ok-push.ensures.items ∙ ap (λ (l : List ℕ). lines ++ (l ∷ [])) c.from_vec.ensures) c.saturating_sub.ensures
          (enough_after c.self.inside.hint c.self.inside.left lines line part c.in-Some.left c.len-length.result cut opened c.in-Some.is (c.len-length.ensures ∙ c.in_ok-line.line.ok.0));
    }
