-- The registry's machine: the next number, the numbered search functions in order, the cache of codecs, and the handlers.
use Rattle.std.specs.Prelude.{ℕ, ◌+◌, ◌^◌, ◌<◌, ⊤, Bool, nat_eq, List, [], ◌∷◌, ◌++◌, map, codes, Option, Some, None, is_some, option_map, if◌then◌else◌}
use Rattle.py_plain.specs.declared.handler.Handler.TheVariants.{Strict, Ignore, Replace, XmlCharRefReplace, BackslashReplace, SurrogatePass, SurrogateEscape}
use Rattle.py_codec.specs.declared.handler_ref.HandlerRef.{HandlerRef}
use Rattle.py_codec.specs.declared.handler_ref.HandlerRef.TheVariants as given
use Rattle.py_registry.specs.declared.codec.PyCodec.{PyCodec}
use Rattle.py_registry.specs.declared.codec.PyCodec.TheVariants as codec
use Rattle.std.specs.Map.{lookup, remove_entry}
use Rattle.py_registry.specs.Names.{Named, normal_name, value_of, with_value, without_name}
use Rattle.py_registry.specs.BuiltIn.{built_in}

-- what a registry is: its next number, its functions, its cache and its handlers
pub record Machine (S H : Type 0) : Type 0 where
  pub next : ℕ
  pub functions : List (ℕ × S)
  pub cache : Named (PyCodec S)
  pub handlers : Named (HandlerRef H)

-- the number of the next function; past the greatest of its type where none is left
abbrev pub next_number : Option ℕ → ℕ
next_number None = 2 ^ 64
next_number (Some number) = number

-- a number that is left is one of its type
abbrev pub IsNext : Option ℕ → Type 0
IsNext None = ⊤
IsNext (Some number) = number < 2 ^ 64

-- the seven handlers under their names
abbrev pub seven_handlers : {H : Type 0} → Named (HandlerRef H)
seven_handlers =
    (codes "strict", given.Builtin Strict)
    ∷ (codes "ignore", given.Builtin Ignore)
    ∷ (codes "replace", given.Builtin Replace)
    ∷ (codes "xmlcharrefreplace", given.Builtin XmlCharRefReplace)
    ∷ (codes "backslashreplace", given.Builtin BackslashReplace)
    ∷ (codes "surrogatepass", given.Builtin SurrogatePass)
    ∷ (codes "surrogateescape", given.Builtin SurrogateEscape)
    ∷ []

-- a registry at first
abbrev pub fresh : {S H : Type 0} → Machine S H
fresh = record { next = 0; functions = []; cache = []; handlers = seven_handlers }

-- the functions in the order in which they were registered
abbrev pub path_of : {S H : Type 0} → Machine S H → List S
path_of machine = map (λ numbered. numbered.1) machine.functions

-- a function is registered under the next number
abbrev pub registered : {S H : Type 0} → Machine S H → S → Machine S H
registered machine function = record machine { next = machine.next + 1; functions = machine.functions ++ (machine.next, function) ∷ [] }

-- a function of a number stands
abbrev pub stands : {S : Type 0} → (number : ℕ) → List (ℕ × S) → Bool
stands number functions = is_some (lookup (λ own. nat_eq own number) functions)

-- the function of a number goes, and the cache is emptied
abbrev pub removed : {S H : Type 0} → Machine S H → (number : ℕ) → Machine S H
removed machine number = record machine { functions = remove_entry (λ own. nat_eq own number) machine.functions; cache = [] }

-- where the function of a number stands it goes, and the cache is emptied; else all stays
abbrev pub unregistered : {S H : Type 0} → Machine S H → (number : ℕ) → Machine S H
unregistered machine number = if stands number machine.functions then removed machine number else machine

-- one value, or else another
abbrev pub or_else : {T : Type 0} → Option T → Option T → Option T
or_else (Some value) other = Some value
or_else None other = other

-- the codec that a name has in the cache
abbrev pub cached : {S H : Type 0} → Machine S H → (name : List ℕ) → Option (PyCodec S)
cached machine name = value_of (normal_name name) machine.cache

-- the codec of a name that no function has to be asked for: in the cache, or else built in
abbrev pub known : {S H : Type 0} → Machine S H → (name : List ℕ) → Option (PyCodec S)
known machine name = or_else (cached machine name) (option_map codec.Builtin (built_in (normal_name name)))

-- the codec that the first of some functions finds that finds one
abbrev pub searched : {S : Type 0} → (S → List ℕ → Option (PyCodec S)) → List S → (name : List ℕ) → Option (PyCodec S)
searched finds [] name = None
searched finds (function ∷ functions) name = or_else (finds function (normal_name name)) (searched finds functions name)

-- the codec of a name: known, or else the one that the functions find
abbrev pub found : {S H : Type 0} → (S → List ℕ → Option (PyCodec S)) → Machine S H → (name : List ℕ) → Option (PyCodec S)
found finds machine name = or_else (known machine name) (searched finds (path_of machine) name)

-- a name has a codec in the cache, whatever it had
abbrev pub registered_manually : {S H : Type 0} → Machine S H → (name : List ℕ) → PyCodec S → Machine S H
registered_manually machine name codec = record machine { cache = with_value (normal_name name) codec machine.cache }

-- a name has a codec in the cache, unless it had one
abbrev pub settled : {S H : Type 0} → Machine S H → (name : List ℕ) → PyCodec S → Machine S H
settled machine name codec = if is_some (cached machine name) then machine else registered_manually machine name codec

-- the value that is there, or else a given one
abbrev pub or_given : {T : Type 0} → Option T → T → T
or_given (Some value) given = value
or_given None given = given

-- the codec that stands in the cache once a name was settled
abbrev pub standing : {S H : Type 0} → Machine S H → (name : List ℕ) → PyCodec S → PyCodec S
standing machine name codec = or_given (cached machine name) codec

-- a name has no codec in the cache
abbrev pub forgotten : {S H : Type 0} → Machine S H → (name : List ℕ) → Machine S H
forgotten machine name = record machine { cache = without_name (normal_name name) machine.cache }

-- a codec that was found is settled
abbrev pub settled_if : {S H : Type 0} → Machine S H → (name : List ℕ) → Option (PyCodec S) → Machine S H
settled_if machine name None = machine
settled_if machine name (Some codec) = settled machine name codec

-- a lookup settles what the functions found, and nothing that is known
abbrev pub looked_up : {S H : Type 0} → (S → List ℕ → Option (PyCodec S)) → Machine S H → (name : List ℕ) → Machine S H
looked_up finds machine name = if is_some (known machine name) then machine else settled_if machine name (searched finds (path_of machine) name)

-- the handler of a name, as it is given
abbrev pub handler_of : {S H : Type 0} → Machine S H → (name : List ℕ) → Option (HandlerRef H)
handler_of machine name = value_of name machine.handlers

-- a name stands for a handler, whatever it stood for
abbrev pub registered_error : {S H : Type 0} → Machine S H → (name : List ℕ) → HandlerRef H → Machine S H
registered_error machine name handler = record machine { handlers = with_value name handler machine.handlers }
