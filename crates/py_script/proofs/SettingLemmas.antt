-- What a new registry knows of a name.
use Rattle.std.proofs.Common.{◌≡◌, ℕ, List, Option, Some, None, Ok, option_map, sym, refl, ap, ◌∙◌}
use Rattle.py_plain.specs.declared.encoding.Encoding.{Encoding}
use Rattle.py_codec.specs.declared.no_handler.NoHandler.{NoHandler}
use Rattle.py_registry.specs.declared.codec.PyCodec.{PyCodec}
use Rattle.py_registry.specs.declared.codec.PyCodec.TheVariants as codec
use Rattle.py_registry.specs.declared.no_search.NoSearch.{NoSearch}
use Rattle.py_registry.specs.declared.path.Probe.{Probe}
use Rattle.py_registry.specs.declared.path.Probe.TheVariants.{Hit, Search}
use Rattle.py_registry.specs.Names.{normal_name}
use Rattle.py_registry.specs.BuiltIn.{built_in}
use Rattle.py_registry.specs.Machine.{Machine, fresh, known, path_of}
use Rattle.py_registry.specs.Answers.{IsProbe}
use Rattle.py_script.specs.Settings.{encoding_named, probed_encoding}

-- what is built in, as a codec
abbrev own_codec : Option Encoding → Option (PyCodec NoSearch)
own_codec own = option_map codec.Builtin own

own_hit : (own : Option Encoding) (encoding : Encoding) → own_codec own ≡ Some (codec.Builtin encoding) → Some encoding ≡ own
own_hit None encoding is = absurd (cc)
own_hit (Some other) encoding is = cc

own_slot : (own : Option Encoding) (owner : NoSearch) (slot : ℕ) → own_codec own ≡ Some (codec.Slot owner slot) → None ≡ own
own_slot None owner slot is = refl
own_slot (Some other) owner slot is = absurd (cc)

own_none : (own : Option Encoding) → own_codec own ≡ None → None ≡ own
own_none None is = refl
own_none (Some other) is = absurd (cc)

-- a new registry knows of a name what is built in under it
fresh_knows : (machine : Machine NoSearch NoHandler) (name : List ℕ) (found : Option (PyCodec NoSearch)) → machine ≡ fresh → known machine name ≡ found → own_codec (built_in (normal_name name)) ≡ found
fresh_knows machine name found new is = sym (ap (λ (at : Machine NoSearch NoHandler). known at name) new) ∙ is

pub probed : (machine : Machine NoSearch NoHandler) (name : List ℕ) (probe : Probe NoSearch) → machine ≡ fresh → IsProbe (known machine name) (path_of machine) (Ok probe) → probed_encoding probe ≡ encoding_named name
probed machine name (Hit (codec.Builtin encoding)) new is = own_hit (built_in (normal_name name)) encoding (fresh_knows machine name (Some (codec.Builtin encoding)) new is)
probed machine name (Hit (codec.Slot owner slot)) new is = own_slot (built_in (normal_name name)) owner slot (fresh_knows machine name (Some (codec.Slot owner slot)) new is)
probed machine name (Search functions) new is = own_none (built_in (normal_name name)) (fresh_knows machine name None new is.0)
