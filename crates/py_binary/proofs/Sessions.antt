-- A session and its stream, before and after a `detach`.
use Rattle.std.proofs.Common.{◌≡◌, ℕ, true, false, is_some, Option, Some, None, refl, sym, ap, ◌∙◌}
use Rattle.py_flat.specs.FlatFile.{Abilities}
use Rattle.py_raw.specs.RawStream.{Raw}
use Rattle.py_stream.specs.Stream.{Stream, detached_stream}
use Rattle.py_binary.specs.declared.kind.Kind.{Kind}
use Rattle.py_binary.specs.declared.kind.Kind.TheVariants as kind
use Rattle.py_binary.specs.Binary.{gone_stream}
use Rattle.py_binary.specs.Kinds.{shown, seen, IsHeld, IsServed, IsSession}

-- a detached session shows the raw that it keeps
pub seen_gone : {R : Type 0} (shows : R → Raw) (stream : Kind R) (raw : Option R) → is_some raw ≡ true → (kept : Raw) × (seen shows stream raw ≡ gone_stream (shown stream).can (shown stream).buffer kept)
seen_gone shows stream None is = absurd (cc)
seen_gone shows stream (Some raw) is = (shows raw, refl)

-- a session that isn't detached shows its stream
pub seen_kept : {R : Type 0} (shows : R → Raw) (stream : Kind R) (raw : Option R) → is_some raw ≡ false → seen shows stream raw ≡ shown stream
seen_kept shows stream None is = refl
seen_kept shows stream (Some raw) is = absurd (cc)

pub session_served : {R : Type 0} (stream : Kind R) (raw : Option R) → is_some raw ≡ false → IsSession stream raw → IsServed stream
session_served stream None is holds = holds
session_served stream (Some raw) is holds = absurd (cc)

pub served_held : {R : Type 0} (stream : Kind R) → IsServed stream → IsHeld (shown stream)
served_held (kind.Buffered stream) served = served.held
served_held (kind.Unbuffered stream) served = served.held

-- what holds of a session is left by forgetting a wait
pub session_on : {R : Type 0} (old new : Kind R) (raw : Option R) → IsSession old raw → shown new ≡ record (shown old) { short = false } → (IsServed old → IsServed new) → IsSession new raw
session_on old new None holds whole serves = serves holds
session_on old new (Some raw) holds whole serves =
    let is : shown new ≡ detached_stream (shown old).can (shown old).buffer = whole ∙ ap (λ (stream : Stream). record stream { short = false }) holds in
    is
    ∙ ap (λ (can : Abilities). detached_stream can (shown old).buffer) (sym (ap (λ (stream : Stream). stream.can) is))
    ∙ ap (λ (buffer : Option ℕ). detached_stream (shown new).can buffer) (sym (ap (λ (stream : Stream). stream.buffer) is))
