-- What a writer holds after a write that is passed on.
use Rattle.std.proofs.Common.{◌≡◌, ◌≤◌, ℕ, Bool, true, false, List, [], length, take, Option, None, Some, Result, Ok, Err, sym, subst, ◌∙◌, append-nil, arith}
use Rattle.std.specs.Io.KnownBytes.{Appends, Keeps}
use Rattle.std.specs.IoError.{error_kind}
use Rattle.std.specs.declared.io.Error.{Error}
use Rattle.py_raw_files.specs.Handle.{StopsThrough, PassesThrough, asks_to_wait}

nothing_put : (old new : Option (List ℕ)) → Keeps old new → Appends old new []
nothing_put None new keeps = tt
nothing_put (Some held) None keeps = absurd keeps
nothing_put (Some held) (Some still) keeps = keeps ∙ sym (append-nil held)

put_and_kept : (old mid new : Option (List ℕ)) (part : List ℕ) → Appends old mid part → Keeps mid new → Appends old new part
put_and_kept None mid new part puts keeps = tt
put_and_kept (Some held) None new part puts keeps = absurd puts
put_and_kept (Some held) (Some more) None part puts keeps = absurd keeps
put_and_kept (Some held) (Some more) (Some still) part puts keeps = keeps ∙ puts

-- nothing was put, whether the writer would block or failed
pub none_through : (waits : Bool) (old new : Option (List ℕ)) (piece : List ℕ) → Keeps old new → StopsThrough waits old new piece
none_through true old new piece keeps = keeps
none_through false old new piece keeps = record { count = 0; within = omega arith; held = nothing_put old new keeps }

-- the write took a front, and then passing it on failed, which is no wait
pub front_through : (waits : Bool) (old mid new : Option (List ℕ)) (piece : List ℕ) (count : ℕ) → waits ≡ false → count ≤ length piece → Appends old mid (take count piece) → Keeps mid new → StopsThrough waits old new piece
front_through true old mid new piece count fails within puts keeps = absurd (cc)
front_through false old mid new piece count fails within puts keeps = record { count = count; within = within; held = put_and_kept old mid new (take count piece) puts keeps }

unknown_stops : (waits : Bool) (new : Option (List ℕ)) (piece : List ℕ) → StopsThrough waits None new piece
unknown_stops true new piece = tt
unknown_stops false new piece = record { count = 0; within = omega arith; held = tt }

unknown_passes : (new : Option (List ℕ)) (answer : Result ℕ Error) (piece : List ℕ) → PassesThrough None new answer piece
unknown_passes new (Ok count) piece = tt
unknown_passes new (Err error) piece = unknown_stops (asks_to_wait (error_kind error)) new piece

-- a write that is passed on does so after a writer kept what it held, too
pub kept_before : (old mid new : Option (List ℕ)) (answer : Result ℕ Error) (piece : List ℕ) → Keeps old mid → PassesThrough mid new answer piece → PassesThrough old new answer piece
kept_before None mid new answer piece keeps passes = unknown_passes new answer piece
kept_before (Some held) None new answer piece keeps passes = absurd keeps
kept_before (Some held) (Some still) new answer piece keeps passes = subst (λ (bytes : List ℕ). PassesThrough (Some bytes) new answer piece) keeps passes
