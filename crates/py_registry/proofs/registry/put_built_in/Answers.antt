use Rattle.std.proofs.Common.{◌≡◌, ℕ, List, chars, ap, subst, ◌∙◌}
use Rattle.std.specs.Result.{OnOk}
use Rattle.py_codec.specs.declared.handler_ref.HandlerRef.{HandlerRef}
use Rattle.py_codec.specs.declared.handler_ref.HandlerRef.TheVariants.{Builtin}
use Rattle.py_plain.specs.Names.{handler_name}
use Rattle.py_registry.specs.Names.{Named, with_value}
use Rattle.py_registry.proofs.Spelled.{plain-chars, handler-plain}
use Rattle.py_registry.proofs.registry.put_built_in.Goals as goal

pub returns : goal.returns
returns g c =
    let Handlers : Type 0 = Named (HandlerRef g.row.H.Denot) in
    let Put : List ℕ → Type 0 = λ name. OnOk c.put.result (◌≡◌ {A = Handlers} c.put.new.self (with_value name (Builtin c.args.handler) c.args.handlers.now)) in
    subst Put (ap chars c.in_ok-from_str.ensures.ok ∙ (ap chars c.name.ensures ∙ plain-chars (handler_name c.args.handler) (handler-plain c.args.handler))) c.put.ensures.ok
