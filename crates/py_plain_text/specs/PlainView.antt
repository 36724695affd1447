-- What the fields of the program's plain text show.
use Rattle.std.specs.Prelude.{if◌then◌else◌}
use Rattle.py_flat.specs.declared.life.Life.TheVariants as life
use Rattle.py_plain_text.specs.declared.plain_text.PlainText.TheInside.{Inside}
use Rattle.py_plain_text.specs.TextFile.{TextSettings, TextFile}
use Rattle.py_plain_text.specs.PlainSteps.{settings_shown, plain_at, place_shown, PlaceFits}

-- all settings of a plain text
abbrev pub all_settings : Inside → TextSettings
all_settings text =
    record (settings_shown text.settings) { line_buffering = text.line_buffering; write_through = text.write_through }

-- the text that the fields of a plain text stand for
abbrev pub shown : Inside → TextFile
shown text =
    record (plain_at text.bytes.items text.settings (place_shown text.place)) { settings = all_settings text; life = if text.closed then life.Closed else life.Live }

-- a plain text stands in a place that fits its bytes
abbrev pub IsPlaced : Inside → Type 0
IsPlaced text = PlaceFits text.bytes.items text.settings text.place
