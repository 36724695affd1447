use Rattle.std.proofs.Common.{◌≡◌, ◌<◌, ℕ, List, length, take, replicate, Some, sym, ap, subst, ◌∙◌, arith}
use Rattle.std.specs.List.{All}
use Rattle.std.proofs.lemmas.List.{take_all}
use Rattle.std.proofs.lemmas.List.Elements.{All-replicate}
use Rattle.std.proofs.lemmas.Str.Ascii.{IsAscii-from_all}
use Rattle.py_plain.specs.Encode.{text_bytes}
use Rattle.py_blocks.specs.Runs.{utf16}
use Rattle.py_blocks.proofs.Blocks.{text_bytes-ordered}
use Rattle.py_blocks.proofs.utf16_blocks.wide_block.Goals as goal

-- a list is its first 16 items where it has as many
whole : (narrow : List ℕ) → length narrow ≡ 16 → take 16 narrow ≡ narrow
whole narrow long = take_all 16 narrow (omega arith)

pub returns-clause-ascii : goal.returns-clause-ascii
returns-clause-ascii c =
    let narrow = c.args.narrow.now in
    IsAscii-from_all narrow (subst (All (λ byte. byte < 128)) (whole narrow c.requires) c.if-not-all_below.ensures)

pub returns-clause-written : goal.returns-clause-written
returns-clause-written c =
    let narrow = c.args.narrow.now in
    let same = whole narrow c.requires in
    let written = text_bytes-ordered c.args.big (replicate 16 0) (take 16 narrow) _ _ c.ordered.ensures.first c.ordered.ensures.second (sym (ap length same ∙ c.requires)) (All-replicate (λ byte. byte < 1) 16 0 (omega arith)) c.if-not-all_below.ensures in
    ap (text_bytes (utf16 c.args.big)) (sym same) ∙ written ∙ ap (λ (wide : List ℕ). Some wide) (sym c.joined.ensures)
