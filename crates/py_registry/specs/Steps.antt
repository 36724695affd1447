-- Lists of the machine's steps, and which of them leave a settled name alone.
use Rattle.std.specs.Prelude.{◌≡◌, ℕ, Bool, true, not, List, [], ◌∷◌, Option, ⊤}
use Rattle.py_codec.specs.declared.handler_ref.HandlerRef.{HandlerRef}
use Rattle.py_registry.specs.declared.codec.PyCodec.{PyCodec}
use Rattle.py_registry.specs.Names.{normal_name, same_name}
use Rattle.py_registry.specs.Machine.{Machine, registered, unregistered, stands, settled, looked_up, forgotten, registered_manually, registered_error}

-- one step, for each call that may change a machine: a lookup, or the work of a codec by its name, is one by what the functions
-- find; or a probe, a search along the path that it answered and a settle, with steps of others between them
pub data Step (S H : Type 0) : Type 0 where
  Register : (function : S) → Step S H
  Unregister : (number : ℕ) → Step S H
  ProbeName : (name : List ℕ) → Step S H
  SearchPath : (path : List S) (name : List ℕ) → Step S H
  Settle : (name : List ℕ) (codec : PyCodec S) → Step S H
  LookUp : (finds : S → List ℕ → Option (PyCodec S)) (name : List ℕ) → Step S H
  Forget : (name : List ℕ) → Step S H
  RegisterManual : (name : List ℕ) (codec : PyCodec S) → Step S H
  RegisterError : (name : List ℕ) (handler : HandlerRef H) → Step S H

-- the machine after a step
abbrev pub after_step : {S H : Type 0} → Machine S H → Step S H → Machine S H
after_step machine (Register function) = registered machine function
after_step machine (Unregister number) = unregistered machine number
after_step machine (ProbeName name) = machine
after_step machine (SearchPath path name) = machine
after_step machine (Settle name codec) = settled machine name codec
after_step machine (LookUp finds name) = looked_up finds machine name
after_step machine (Forget name) = forgotten machine name
after_step machine (RegisterManual name codec) = registered_manually machine name codec
after_step machine (RegisterError name handler) = registered_error machine name handler

-- the machine after a list of steps
abbrev pub after_steps : {S H : Type 0} → Machine S H → List (Step S H) → Machine S H
after_steps machine [] = machine
after_steps machine (step ∷ steps) = after_steps (after_step machine step) steps

-- a step neither forgets a name nor registers it by hand, and removes no function
abbrev pub keeps : {S H : Type 0} → (name : List ℕ) → Machine S H → Step S H → Bool
keeps name machine (Unregister number) = not (stands number machine.functions)
keeps name machine (Forget other) = not (same_name (normal_name other) (normal_name name))
keeps name machine (RegisterManual other codec) = not (same_name (normal_name other) (normal_name name))
keeps name machine _ = true

-- each of a list's steps leaves the codec of a name alone, where it is taken
abbrev pub KeepsAll : {S H : Type 0} → (name : List ℕ) → Machine S H → List (Step S H) → Type 0
KeepsAll name machine [] = ⊤
KeepsAll name machine (step ∷ steps) = (keeps name machine step ≡ true) × KeepsAll name (after_step machine step) steps
