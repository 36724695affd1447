-- The codec and the handler that names come to, where the codec is known.
use Rattle.std.proofs.Common.{◌≡◌, ℕ, Bool, true, false, List, Option, Some, Result, Ok, Err, refl, sym, ap, ◌∙◌, subst}
use Rattle.std.specs.Bool.{⊤}
use Rattle.py_flat.specs.declared.fault.IoFault.{IoFault}
use Rattle.py_plain.specs.declared.encoding.Encoding.{Encoding}
use Rattle.py_codec.specs.declared.handler_ref.HandlerRef.{HandlerRef}
use Rattle.py_codec.specs.Refusing.{RefusedFirst}
use Rattle.py_registry.specs.declared.codec.PyCodec.{PyCodec}
use Rattle.py_registry.specs.declared.codec.PyCodec.TheVariants.{Builtin}
use Rattle.py_registry.specs.Coding.{Coded, is_text, is_built_in}
use Rattle.py_registry.specs.Machine.{Machine, known, searched, path_of, or_else, handler_of}
use Rattle.py_registry.specs.Answers.{only_if, chosen, chosen_by, name_or_strict}

only-known : {S : Type 0} (texts : S → ℕ → Bool) (only_text : Bool) (encoding : Encoding) → only_if only_text (is_text texts) (Some (Builtin encoding)) ≡ Some (Builtin encoding)
only-known texts true encoding = refl
only-known texts false encoding = refl

module _ {S H : Type 0} where
  -- a built-in codec that is known and a handler that is there are chosen
  pub chosen-known : (finds : S → List ℕ → Option (PyCodec S)) (texts : S → ℕ → Bool) (machine : Machine S H) (only_text : Bool) (name : List ℕ) (errors : Option (List ℕ)) (encoding : Encoding) (handler : HandlerRef H) → known machine name ≡ Some (Builtin encoding) → handler_of machine (name_or_strict errors) ≡ Some handler → chosen_by finds texts machine only_text name errors ≡ Ok (Builtin encoding, handler)
  chosen-known finds texts machine only_text name errors encoding handler is there =
      ap (λ (codec : Option (PyCodec S)). chosen (only_if only_text (is_text texts) (or_else codec (searched finds (path_of machine) name))) (handler_of machine (name_or_strict errors))) is
      ∙ (ap (λ (codec : Option (PyCodec S)). chosen codec (handler_of machine (name_or_strict errors))) (only-known texts only_text encoding)
      ∙ ap (λ (errors : Option (HandlerRef H)). chosen (Some (Builtin encoding)) errors) there)

  IsBuiltIn : Result (PyCodec S × HandlerRef H) IoFault → Type 0
  IsBuiltIn (Ok pair) = is_built_in pair.0 ≡ true
  IsBuiltIn (Err why) = ⊤

  module _ {T : Type 0} (work : PyCodec S → HandlerRef H → Coded) (result : Result T IoFault) where
    IsRefusedFirst : Result (PyCodec S × HandlerRef H) IoFault → Type 0
    IsRefusedFirst (Ok pair) = RefusedFirst pair.1 (work pair.0 pair.1) result
    IsRefusedFirst (Err why) = ⊤

    -- what a built-in codec that was chosen refuses first is what the known one refuses
    pub chosen-refuses : (encoding : Encoding) (handler : HandlerRef H) (codec : PyCodec S) (errors : HandlerRef H) → ◌≡◌ {A = Result (PyCodec S × HandlerRef H) IoFault} (Ok (Builtin encoding, handler)) (Ok (codec, errors)) → (is_built_in codec ≡ true → RefusedFirst errors (work codec errors) result) → RefusedFirst handler (work (Builtin encoding) handler) result
    unfolding IsBuiltIn IsRefusedFirst
    chosen-refuses encoding handler codec errors same first = subst IsRefusedFirst (sym same) (first (subst IsBuiltIn same refl))
