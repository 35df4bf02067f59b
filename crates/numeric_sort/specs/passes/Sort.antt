-- What `sort` compares by: the total order, and after all values that it has a place for, the NaN.
use Rattle.std.specs.Prelude.{◌||◌, if◌then◌else◌, is_nan, Float}
use Rattle.std.specs.Ordering.{bool_cmp}
use Rattle.std.specs.declared.cmp.Ordering.{Ordering}
use Rattle.numeric.specs.TotalOrder.{total_order}

-- x is less where y does not stand at or before it, and equal where each stands at or before the other
abbrev pub comparison : Float → Float → Ordering
comparison x y =
    if is_nan x || is_nan y then bool_cmp (is_nan x) (is_nan y) else bool_cmp (total_order y x) (total_order x y)
