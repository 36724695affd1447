-- Private: what a text is planned with.
use Rattle.std.specs.Prelude.{◌≡◌, ℕ, ◌⊎◌, List, Option, IsSome, Result, Ok, Err}
use Rattle.py_flat.specs.declared.fault.IoFault.{IoFault}
use Rattle.py_flat.specs.declared.fault.IoFault.TheVariants.{NoMemory}
use Rattle.py_plain.specs.NewlineArgument.{rule_of}
use Rattle.py_registry.specs.declared.codec.PyCodec.{PyCodec}
use Rattle.py_registry.specs.Machine.{Machine, looked_up}
use Rattle.py_registry.specs.Answers.{AsksFunctions}
use Rattle.py_calls.specs.declared.mode.Mode.{Mode}
use Rattle.py_calls.specs.declared.open_args.OpenArgs.{OpenArgs}
use Rattle.py_calls.specs.declared.plan.PlanKind.{PlanKind}
use Rattle.py_calls.specs.Names.{encoding_name}
use Rattle.py_calls.specs.Plan.{buffer_size_of, planned_coder, text_by}

-- what a text is planned with
abbrev pub text_of : {S H : Type 0} → (finds : S → List ℕ → Option (PyCodec S)) → Machine S H → Mode → OpenArgs → Result PlanKind IoFault
text_of finds machine mode args = text_by (buffer_size_of args.buffering) (rule_of args.newline) args (planned_coder finds machine mode args)

-- there was no memory to ask search functions with
pub record LacksMemory {S H : Type 0} (machine : Machine S H) (args : OpenArgs) (why : IoFault) : Type 0 where
  pub is : why ≡ NoMemory
  pub rule : IsSome (rule_of args.newline)
  pub asks : AsksFunctions machine (encoding_name args.encoding)

abbrev pub TextOutcome : {S H : Type 0} → (finds : S → List ℕ → Option (PyCodec S)) → Machine S H → Mode → OpenArgs → Result PlanKind IoFault → Machine S H → Type 0
TextOutcome finds before mode args (Ok kind) new = (text_of finds before mode args ≡ Ok kind) × (new ≡ looked_up finds before (encoding_name args.encoding))
TextOutcome finds before mode args (Err why) new = ((text_of finds before mode args ≡ Err why) ⊎ LacksMemory before args why) × (new ≡ before)
