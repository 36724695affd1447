-- What `==` of lists of lines tells.
use Rattle.std.proofs.Common.{◌≡◌, ℕ, List, nat_eq}
use Rattle.std.specs.Bool.{Decides}
use Rattle.std.specs.Cmp.Lexicographic.{pointwise, pointwise_decides, bytes_decides}

-- lines are equal where they are the same
pub lines_decide : (xs ys : List (List ℕ)) → Decides (pointwise (pointwise nat_eq) xs ys) (xs ≡ ys)
lines_decide = pointwise_decides bytes_decides
