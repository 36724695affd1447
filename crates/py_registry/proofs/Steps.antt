-- A name that was settled keeps its codec over steps that leave it alone; the next number never falls.
use Rattle.std.proofs.Common.{◌≡◌, ℕ, ◌<◌, ◌≤◌, Bool, true, false, not, List, [], ◌∷◌, Option, Some, None, is_some, option_map, if◌then◌else◌, refl, sym, ap, ◌∙◌, arith}
use Rattle.py_codec.specs.declared.handler_ref.HandlerRef.{HandlerRef}
use Rattle.py_registry.specs.declared.codec.PyCodec.{PyCodec}
use Rattle.py_registry.specs.declared.codec.PyCodec.TheVariants as own
use Rattle.py_registry.specs.Names.{normal_name, same_name, value_of}
use Rattle.py_registry.specs.BuiltIn.{built_in}
use Rattle.py_registry.specs.Machine.{Machine, registered, removed, stands, or_else, or_given, cached, known, searched, path_of, looked_up, registered_manually, settled, settled_if, standing, handler_of, registered_error}
use Rattle.py_registry.specs.Steps.{Step, Register, Unregister, ProbeName, SearchPath, Settle, LookUp, Forget, RegisterManual, RegisterError, after_step, after_steps, keeps, KeepsAll}
use Rattle.py_registry.proofs.Entries.{put-own, put-other, without-other}
use Rattle.py_registry.proofs.Spelled.{same-self, same-one, same-apart}

not-false : (b : Bool) → not b ≡ true → b ≡ false
not-false true is = absurd (cc)
not-false false is = refl

module _ {S H : Type 0} where
  -- a name has the codec in the cache that was put there under it
  pub manual-own : (machine : Machine S H) (name : List ℕ) (codec : PyCodec S) → cached (registered_manually machine name codec) name ≡ Some codec
  manual-own machine name codec = put-own (λ name kept. same_name kept name) (normal_name name) codec machine.cache (same-self (normal_name name))

  -- another name than the one that a codec is put under has what it had
  manual-other : (machine : Machine S H) (other name : List ℕ) (codec : PyCodec S) → same_name (normal_name other) (normal_name name) ≡ false → cached (registered_manually machine other codec) name ≡ cached machine name
  manual-other machine other name codec apart =
      put-other (λ name kept. same_name kept name) (λ kept. same_name kept (normal_name name)) (normal_name other) codec machine.cache (same-apart (normal_name other) (normal_name name) apart) (same-self (normal_name other))

  settled_by : (machine : Machine S H) (name : List ℕ) (codec : PyCodec S) (there : Option (PyCodec S)) → cached machine name ≡ there → cached (settled machine name codec) name ≡ Some (or_given there codec)
  settled_by machine name codec None is =
      ap (λ (there : Option (PyCodec S)). cached (if is_some there then machine else registered_manually machine name codec) name) is ∙ manual-own machine name codec
  settled_by machine name codec (Some own) is =
      ap (λ (there : Option (PyCodec S)). cached (if is_some there then machine else registered_manually machine name codec) name) is ∙ is

  -- once a name was settled it has the standing codec in the cache
  pub settled-own : (machine : Machine S H) (name : List ℕ) (codec : PyCodec S) → cached (settled machine name codec) name ≡ Some (standing machine name codec)
  settled-own machine name codec = settled_by machine name codec (cached machine name) refl

  settled-other_by : (machine : Machine S H) (other name : List ℕ) (codec own : PyCodec S) (there : Option (PyCodec S)) (same : Bool) → cached machine other ≡ there → same_name (normal_name other) (normal_name name) ≡ same → cached machine name ≡ Some own → cached (settled machine other codec) name ≡ Some own
  settled-other_by machine other name codec own (Some standing) same is names has =
      ap (λ (there : Option (PyCodec S)). cached (if is_some there then machine else registered_manually machine other codec) name) is ∙ has
  settled-other_by machine other name codec own None false is names has =
      ap (λ (there : Option (PyCodec S)). cached (if is_some there then machine else registered_manually machine other codec) name) is ∙ (manual-other machine other name codec names ∙ has)
  settled-other_by machine other name codec own None true is names has =
      let one = same-one (normal_name other) (normal_name name) names in
      let both : None ≡ Some own = sym is ∙ (ap (λ (n : List ℕ). value_of n machine.cache) one ∙ has) in
      absurd (cc)

  settled-keeps : (machine : Machine S H) (other name : List ℕ) (codec own : PyCodec S) → cached machine name ≡ Some own → cached (settled machine other codec) name ≡ Some own
  settled-keeps machine other name codec own has = settled-other_by machine other name codec own (cached machine other) (same_name (normal_name other) (normal_name name)) refl refl has

  settled_if-keeps : (machine : Machine S H) (other name : List ℕ) (codec : Option (PyCodec S)) (own : PyCodec S) → cached machine name ≡ Some own → cached (settled_if machine other codec) name ≡ Some own
  settled_if-keeps machine other name None own has = has
  settled_if-keeps machine other name (Some codec) own has = settled-keeps machine other name codec own has

  if-keeps : (b : Bool) (one other : Machine S H) (name : List ℕ) (own : PyCodec S) → cached one name ≡ Some own → cached other name ≡ Some own → cached (if b then one else other) name ≡ Some own
  if-keeps true one other name own has kept = has
  if-keeps false one other name own has kept = kept

  -- a step that leaves a name alone keeps its codec
  step-keeps : (machine : Machine S H) (name : List ℕ) (own : PyCodec S) (step : Step S H) → cached machine name ≡ Some own → keeps name machine step ≡ true → cached (after_step machine step) name ≡ Some own
  step-keeps machine name own (Register function) has keep = has
  step-keeps machine name own (Unregister number) has keep =
      ap (λ (b : Bool). cached (if b then removed machine number else machine) name) (not-false (stands number machine.functions) keep) ∙ has
  step-keeps machine name own (ProbeName other) has keep = has
  step-keeps machine name own (SearchPath path other) has keep = has
  step-keeps machine name own (Settle other codec) has keep = settled-keeps machine other name codec own has
  step-keeps machine name own (LookUp finds other) has keep =
      if-keeps (is_some (known machine other)) machine (settled_if machine other (searched finds (path_of machine) other)) name own has (settled_if-keeps machine other name (searched finds (path_of machine) other) own has)
  step-keeps machine name own (Forget other) has keep =
      without-other (λ kept. same_name kept (normal_name other)) (λ kept. same_name kept (normal_name name)) machine.cache (same-apart (normal_name other) (normal_name name) (not-false (same_name (normal_name other) (normal_name name)) keep)) ∙ has
  step-keeps machine name own (RegisterManual other codec) has keep = manual-other machine other name codec (not-false (same_name (normal_name other) (normal_name name)) keep) ∙ has
  step-keeps machine name own (RegisterError other handler) has keep = has

  steps-keep : (machine : Machine S H) (name : List ℕ) (own : PyCodec S) (steps : List (Step S H)) → cached machine name ≡ Some own → KeepsAll name machine steps → cached (after_steps machine steps) name ≡ Some own
  steps-keep machine name own [] has keep = has
  steps-keep machine name own (step ∷ steps) has keep = steps-keep (after_step machine step) name own steps (step-keeps machine name own step has keep.0) keep.1

  -- each later probe hits the codec that the settle answered
  pub probe-kept : (machine : Machine S H) (name : List ℕ) (codec : PyCodec S) (steps : List (Step S H)) → KeepsAll name (settled machine name codec) steps → known (after_steps (settled machine name codec) steps) name ≡ Some (standing machine name codec)
  probe-kept machine name codec steps keep =
      let has = steps-keep (settled machine name codec) name (standing machine name codec) steps (settled-own machine name codec) keep in
      ap (λ (there : Option (PyCodec S)). or_else there (option_map own.Builtin (built_in (normal_name name)))) has

  -- each later settle answers the codec that the first one answered
  pub settle-kept : (machine : Machine S H) (name : List ℕ) (codec : PyCodec S) (steps : List (Step S H)) → KeepsAll name (settled machine name codec) steps → (other : PyCodec S) → standing (after_steps (settled machine name codec) steps) name other ≡ standing machine name codec
  settle-kept machine name codec steps keep other =
      ap (λ (there : Option (PyCodec S)). or_given there other) (steps-keep (settled machine name codec) name (standing machine name codec) steps (settled-own machine name codec) keep)

  if-next : (b : Bool) (one other : Machine S H) → one.next ≡ other.next → (if b then one else other).next ≡ other.next
  if-next true one other same = same
  if-next false one other same = refl

  settled_if-next : (machine : Machine S H) (name : List ℕ) (codec : Option (PyCodec S)) → (settled_if machine name codec).next ≡ machine.next
  settled_if-next machine name None = refl
  settled_if-next machine name (Some codec) = if-next (is_some (cached machine name)) machine (registered_manually machine name codec) refl

  looked_up-next : (machine : Machine S H) (finds : S → List ℕ → Option (PyCodec S)) (name : List ℕ) → (looked_up finds machine name).next ≡ machine.next
  looked_up-next machine finds name =
      let after = settled_if machine name (searched finds (path_of machine) name) in
      let kept : after.next ≡ machine.next = settled_if-next machine name (searched finds (path_of machine) name) in
      if-next (is_some (known machine name)) machine after (sym kept) ∙ kept

  step-next : (machine : Machine S H) (step : Step S H) → machine.next ≤ (after_step machine step).next
  step-next machine (Register function) = omega arith
  step-next machine (Unregister number) = omega (arith, if-next (stands number machine.functions) (removed machine number) machine refl)
  step-next machine (ProbeName other) = omega arith
  step-next machine (SearchPath path other) = omega arith
  step-next machine (Settle other codec) = omega (arith, if-next (is_some (cached machine other)) machine (registered_manually machine other codec) refl)
  step-next machine (LookUp finds other) = omega (arith, looked_up-next machine finds other)
  step-next machine (Forget other) = omega arith
  step-next machine (RegisterManual other codec) = omega arith
  step-next machine (RegisterError other handler) = omega arith

  steps-next : (machine : Machine S H) (steps : List (Step S H)) → machine.next ≤ (after_steps machine steps).next
  steps-next machine [] = omega arith
  steps-next machine (step ∷ steps) = omega (arith, step-next machine step, steps-next (after_step machine step) steps)

  -- a number is given once
  pub next-rises : (machine : Machine S H) (function : S) (steps : List (Step S H)) → machine.next < (after_steps (registered machine function) steps).next
  next-rises machine function steps = omega (arith, steps-next (registered machine function) steps)

  -- a handler that is registered is the one that its name stands for
  pub error-own : (machine : Machine S H) (name : List ℕ) (handler : HandlerRef H) → handler_of (registered_error machine name handler) name ≡ Some handler
  error-own machine name handler = put-own (λ name kept. same_name kept name) name handler machine.handlers (same-self name)

  -- another name than the one that a handler is registered under stands for what it stood for
  pub error-other : (machine : Machine S H) (name other : List ℕ) (handler : HandlerRef H) → same_name name other ≡ false → handler_of (registered_error machine name handler) other ≡ handler_of machine other
  error-other machine name other handler apart = put-other (λ name kept. same_name kept name) (λ kept. same_name kept other) name handler machine.handlers (same-apart name other apart) (same-self name)
