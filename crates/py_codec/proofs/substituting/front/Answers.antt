use Rattle.std.proofs.lemmas.Iterator.{YieldsList-from_chars, YieldsList-from_take, items_from_collect}
use Rattle.py_codec.proofs.substituting.front.Goals as goal

pub returns : goal.returns
returns c =
    items_from_collect c.collect.result c.collect.ensures.ran (YieldsList-from_take c.args.count (YieldsList-from_chars c.args.text.now c.utf8.text (cc)) c.take.ensures.count)
