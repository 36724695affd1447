use Rattle.std.proofs.Common.{MatchBool, None, ◌≡◌, sym, ap, ◌∙◌, subst}
use Rattle.py_plain.specs.Encode.{text_bytes}
use Rattle.py_codec.specs.Substituting.{replacement_bytes, IsAppended}
use Rattle.std.specs.Str.{chars}
use Rattle.py_codec.proofs.Wholes.{whole_or_none}
use Rattle.py_codec.proofs.substituting.push_given.Goals as goal

pub returns-in_ok-left-in-Str : goal.returns-in_ok-left-in-Str
returns-in_ok-left-in-Str c =
    let here : text_bytes c.args.encoding (chars c.deref-in-Str.result.now) ≡ replacement_bytes c.args.encoding c.args.given.now =
    ap (λ bs. text_bytes c.args.encoding (chars bs)) c.deref-in-Str.ensures ∙ ap (replacement_bytes c.args.encoding) (sym c.in-Str.is) in
    let ends = c.in_ok-left-in-Str.ensures in
    let done = whole_or_none c.is_empty.result ends.utf8 ends.stops c.is_empty.ensures ends.wrote in
    subst (λ bytes. MatchBool c.is_empty.result (IsAppended bytes c.args.bytes.now.items c.push_written.new.bytes.items) (bytes ≡ None)) here done
