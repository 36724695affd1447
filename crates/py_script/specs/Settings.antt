-- The settings of a line `reconfigure`: this project's script language, docs/PROGRAM.md.
use Rattle.std.specs.Prelude.{ℕ, ◌==◌, nat_lt, Bool, true, false, List, [], ◌∷◌, Option, Some, None, option_map, codes, if◌then◌else◌}
use Rattle.std.specs.List.{slice_split}
use Rattle.std.specs.Option.{option_and_then}
use Rattle.std.specs.Str.{bytes_eq}
use Rattle.py_plain.specs.declared.encoding.Encoding.{Encoding}
use Rattle.py_plain.specs.declared.handler.Handler.{Handler}
use Rattle.py_plain.specs.declared.newlines.Newlines.{Newlines}
use Rattle.py_plain.specs.declared.newlines.Newlines.TheVariants.{Universal, Passthrough}
use Rattle.py_plain.specs.NewlineArgument.{rule_of}
use Rattle.py_codec.specs.declared.handler_ref.HandlerRef.{HandlerRef}
use Rattle.py_codec.specs.declared.handler_ref.HandlerRef.TheVariants.{Builtin}
use Rattle.py_codec.specs.declared.no_handler.NoHandler.{NoHandler}
use Rattle.py_registry.specs.declared.codec.PyCodec.TheVariants as codec
use Rattle.py_registry.specs.declared.no_search.NoSearch.{NoSearch}
use Rattle.py_registry.specs.declared.path.Probe.{Probe}
use Rattle.py_registry.specs.declared.path.Probe.TheVariants.{Hit}
use Rattle.py_registry.specs.Names.{normal_name}
use Rattle.py_registry.specs.BuiltIn.{built_in}
use Rattle.py_registry.specs.Machine.{fresh, handler_of}
use Rattle.py_text.specs.declared.reconfigure.Reconfigure.{Reconfigure}
use Rattle.py_text.specs.Settings.{no_changes}
use Rattle.py_script.specs.declared.settings.Setting.{Setting}
use Rattle.py_script.specs.declared.settings.Setting.TheVariants as setting
use Rattle.py_script.specs.declared.settings.Settings.{Settings}
use Rattle.py_script.specs.Words.{text_of, word_text}

-- the encoding that is built in under a name, spelled as a registry spells names
abbrev pub encoding_named : List ℕ → Option Encoding
encoding_named name = built_in (normal_name name)

-- the encoding that a probe gives; None where it gives none that is built in
abbrev pub probed_encoding : Probe NoSearch → Option Encoding
probed_encoding (Hit (codec.Builtin encoding)) = Some encoding
probed_encoding probe = None

-- a handler that is built in
abbrev pub own_handler : Option (HandlerRef NoHandler) → Option Handler
own_handler (Some (Builtin handler)) = Some handler
own_handler other = None

-- the handler that a new registry has under a name
abbrev pub handler_named : List ℕ → Option Handler
handler_named name = own_handler (handler_of {S = NoSearch} {H = NoHandler} fresh name)

-- the encoding of a value; None where it names none
abbrev pub encoding_value : List ℕ → Option Encoding
encoding_value value = option_and_then encoding_named (text_of value)

-- the handler of a value; None where it names none
abbrev pub handler_value : List ℕ → Option Handler
handler_value value = option_and_then handler_named (text_of value)

-- the newline rule of an argument; None where it is none
abbrev pub text_rule : Option (List ℕ) → Option Newlines
text_rule argument = option_and_then (λ text. rule_of (Some text)) argument

-- the newline rule of a value: `none` stands for no newline argument, and nothing, as `-`, for the empty text; None where it is no newline argument in hex
abbrev pub newline_value : List ℕ → Option Newlines
newline_value [] = Some Passthrough
newline_value (digit ∷ digits) =
    if bytes_eq (digit ∷ digits) (codes "none") then Some Universal
    else text_rule (word_text (digit ∷ digits))

-- whether a value says yes (1) or no (0); None where it says neither
abbrev pub switch_value : List ℕ → Option Bool
switch_value value =
    if bytes_eq value (codes "0") then Some false
    else if bytes_eq value (codes "1") then Some true
    else None

-- the setting of a name and its value; None where there is no such name, or the value is malformed
abbrev pub setting_named : List ℕ → List ℕ → Option Setting
setting_named name value =
    if bytes_eq name (codes "encoding") then option_map setting.Encoding (encoding_value value)
    else if bytes_eq name (codes "errors") then option_map setting.Errors (handler_value value)
    else if bytes_eq name (codes "newline") then option_map setting.Newline (newline_value value)
    else if bytes_eq name (codes "line") then option_map setting.LineBuffering (switch_value value)
    else if bytes_eq name (codes "through") then option_map setting.WriteThrough (switch_value value)
    else None

-- the setting of the pieces of a word; None where they aren't a name and a value
abbrev pub setting_by : List (List ℕ) → Option Setting
setting_by (name ∷ value ∷ []) = setting_named name value
setting_by pieces = None

-- the setting of a word: a name, one `=` and a value
abbrev pub setting_of : List ℕ → Option Setting
setting_of word = setting_by (slice_split (λ byte. byte == 61) word)

-- where a setting stands in its line, counted from 1
abbrev pub place_of : Setting → ℕ
place_of (setting.Encoding encoding) = 1
place_of (setting.Errors handler) = 2
place_of (setting.Newline rule) = 3
place_of (setting.LineBuffering value) = 4
place_of (setting.WriteThrough value) = 5

-- the settings with one
abbrev pub with_setting : Reconfigure → Setting → Reconfigure
with_setting changes (setting.Encoding encoding) = record changes { encoding = Some encoding }
with_setting changes (setting.Errors handler) = record changes { errors = Some handler }
with_setting changes (setting.Newline rule) = record changes { newline = Some rule }
with_setting changes (setting.LineBuffering value) = record changes { line_buffering = Some value }
with_setting changes (setting.WriteThrough value) = record changes { write_through = Some value }

-- no setting
abbrev pub none_given : Settings
none_given = record { changes = no_changes; last = 0 }

-- the settings with one more; None where it, or one that stands behind it, was given before
abbrev pub given_with : Settings → Setting → Option Settings
given_with given more =
    if nat_lt given.last (place_of more) then Some (record { changes = with_setting given.changes more; last = place_of more })
    else None

-- the settings with that of a word; None where it is none, or doesn't stand in its order
abbrev pub given_with_word : Settings → List ℕ → Option Settings
given_with_word given word = option_and_then (given_with given) (setting_of word)

-- the settings with those of some words
abbrev pub given_with_words : Settings → List (List ℕ) → Option Settings
given_with_words given [] = Some given
given_with_words given (word ∷ words) = option_and_then (λ next. given_with_words next words) (given_with_word given word)

-- the settings of the words after `reconfigure`; None where these are malformed
abbrev pub changes_of_words : List (List ℕ) → Option Reconfigure
changes_of_words words = option_map (λ given. given.changes) (given_with_words none_given words)
