use Rattle.std.proofs.Common.{◌≡◌, Bool, false, sym, subst, rules}
use Rattle.py_telling.specs.ToldView.{IsToldAmong}
use Rattle.py_telling.proofs.InHand.{told_among_hand}
use Rattle.py_telling.proofs.told.told_among.Goals as goal

pub returns-then-not-last-clause-told : goal.returns-then-not-last-clause-told
returns-then-not-last-clause-told c =
    let goes_on : c.args.last ≡ false = search rules in
    subst (λ (last : Bool). IsToldAmong c.args.encoding c.args.handler c.args.newline last c.args.place c.args.given c.args.bytes.now c.spot_among.result.0) (sym goes_on)
    (told_among_hand c.args.encoding c.args.handler c.args.newline false c.args.bytes.now c.args.place c.args.given c.spot_among.result.0 c.requires.reads c.spot_among.ensures.spot)

pub returns-clause-told : goal.returns-clause-told
returns-clause-told c =
    told_among_hand c.args.encoding c.args.handler c.args.newline c.args.last c.args.bytes.now c.args.place c.args.given c.spot_among-2.result.0 c.requires.reads c.spot_among-2.ensures.spot
