-- A wait hides nothing: what has been answered of a text once its raw would have blocked.
use Rattle.std.specs.Prelude.{◌≡◌, ℕ, ◌-◌, ◌≤◌, false, List, ◌++◌, length, take, None}
use Rattle.py_flat.specs.Bytes.{left_at}
use Rattle.py_plain.specs.Handlers.{treatment}
use Rattle.py_plain.specs.Items.{Walk, walk_from, characters_of, refusal_of}
use Rattle.py_plain.specs.NewlineRule.{read_so_far}
use Rattle.py_plain_text.specs.TextFile.{TextFile}
use Rattle.py_plain_text.specs.Rest.{front_characters}

-- the bytes up to a place that were taken since another
abbrev pub bytes_between : List ℕ → (from to : ℕ) → List ℕ
bytes_between bytes from to = take (to - from) (left_at bytes from)

-- the decoding of the bytes up to a place that were taken since the text place, while more may come behind them
abbrev pub taken_walk : TextFile → ℕ → Walk
taken_walk file to = walk_from file.settings.encoding (treatment file.settings.handler file.settings.encoding) false file.place.order file.place.at 0 (bytes_between file.bytes file.place.at to)

-- what a text surely gives from its place on, those that were taken among it, whose bytes are known up to a place: what is left of the front, and what
-- those bytes give behind it
abbrev pub sure_at : TextFile → ℕ → List ℕ
sure_at file to = front_characters file.settings file.place.order file.bytes file.place.front ++ read_so_far file.settings.newline false (characters_of (taken_walk file to).items)

-- told: every character that the front and the bytes up to a place surely give has been answered, and no refused range stands among them
pub record ShowsAll (file : TextFile) (to : ℕ) : Type 0 where
  pub forth : file.place.at ≤ to
  pub characters : length (sure_at file to) ≤ file.place.taken
  pub refusal : refusal_of (taken_walk file to).ending ≡ None
