-- How long the body is that encode is held to.
use Rattle.std.specs.Prelude.{◌≡◌, List, ℕ, ◌+◌, ◌*◌, length}
use Rattle.vectors.specs.Case.{column_size}
use Rattle.vectors.specs.declared.case.Head.{Head}

-- a body for the number, the kinds, five columns and the row of intervals
pub record EncodeBody (h : Head) (body : List ℕ) : Type 0 where
  pub whole : length body ≡ 2 + 2 * h.objects + 5 * column_size h.objects h.width
