use Rattle.std.proofs.Common.{nat_eq, drop, sym, ap}
use Rattle.std.proofs.lemmas.List.{take_rest}
use Rattle.py_plain.specs.Units.{Unknown}
use Rattle.py_plain.specs.Items.{item_of}
use Rattle.py_codec.specs.Treating.{treatment_by}
use Rattle.py_blocks.proofs.Appended.{text_of-push}
use Rattle.py_codec.proofs.decoding.push_item.Goals as goal

pub returns-in-Ok-clause-shown : goal.returns-in-Ok-clause-shown
returns-in-Ok-clause-shown g c =
    let bytes = c.args.bytes.now in
    let treat = treatment_by g.H.ErrorHandler.decodes c.args.errors c.args.encoding bytes in
    let unit = rw (take_rest bytes c.args.place, c.in-Some-Character.field-0-is) at (c.in-Some-Character.ensures.unit Unknown (nat_eq c.args.place 0)) in (
      _,
      ap (item_of treat c.args.last c.args.place (drop c.args.place bytes)) (sym unit),
      text_of-push c.args.text.now c.push.new.self c.in-Some-Character.character c.in-Ok.ensures.bytes,
    )
