-- What a refused range leaves of what is in hand.
use Rattle.std.proofs.Common.{◌≡◌, ℕ, Bool, true, false, Some, refl, sym, ap, subst}
use Rattle.py_plain.specs.Items.{Walk}
use Rattle.py_held_text.specs.declared.wanted.Wanted.{Wanted}
use Rattle.py_blocks.specs.declared.fronts.TextFront.{TextFront}
use Rattle.py_held_text.specs.Held.{HeldView}
use Rattle.py_held_text.specs.Decodes.{RefusesNext, IsStopped}
use Rattle.py_held_text.specs.Finding.{IsFrontOf, enough_before}
use Rattle.py_read_text.specs.declared.looking.Gathered.TheVariants as gathered
use Rattle.py_read_text.specs.Reading.{Coming, Follows, RefusesAt, HeldAt}
use Rattle.py_read_text.proofs.Following.{after_release, let_go}

-- where no decoding knew that no bytes come behind those in hand, a range that comes next does so whatever comes behind them
pub stops : (last : Bool) (held : HeldView) (start end : ℕ) → RefusesNext last held start end → (last ≡ true → held.ended ≡ true) → held.ended ≡ false → IsStopped held
stops true held start end refuses knew unended = absurd (cc (knew refl, unended))
stops false held start end refuses knew unended = ((start, end), refuses)

pub stopped_follows : (last : Bool) (old new : HeldView) (start end : ℕ) → RefusesNext last old start end → new ≡ after_release old → Follows (Coming last) old new
stopped_follows last old new start end refuses released = subst (Follows (Coming last) old) (sym released) (let_go (Coming last) old (λ more may. ap (λ (walk : Walk). walk.items) (refuses.whole more may)))

pub refuses_at : (last : Bool) (old new : HeldView) (start end : ℕ) → RefusesNext last old start end → new ≡ after_release old → RefusesAt (Coming last) new (start, end)
refuses_at last old new start end refuses released = subst (λ (held : HeldView). RefusesAt (Coming last) held (start, end)) (sym released) (record { next = λ more may. refuses.whole more may; whole = refl })

pub stopped_before : (last : Bool) (old new : HeldView) (start end : ℕ) (asked : Wanted) (front : TextFront) → RefusesNext last old start end → new ≡ after_release old → Some front.chars ≡ enough_before asked new.newline new.known → IsFrontOf new.known front → HeldAt (Coming last) asked new (gathered.Before front)
stopped_before last old new start end asked front refuses released found is = (sym found, is, ((start, end), refuses_at last old new start end refuses released))
