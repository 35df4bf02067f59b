-- A rhythm group's own interval, and its ratio to that of the group before (scope:
-- same_rhythm_hit_object_grouping.rs). A group is the list of its notes' deltas; what is near is told by a margin, 5.0
-- in the scope, and a setting of a call since 7/12.
use Rattle.std.specs.Prelude.{ℕ, zero, suc, cond, List, [], ◌∷◌, get_or, Float}
use Rattle.std.specs.Float.{binary64}
use Rattle.std.specs.Float.Ieee.{div}
use Rattle.numeric.specs.Constants.{one64}
use Rattle.numeric.specs.Near.{is_near}
use Rattle.numeric.specs.RoundTiesEven.{round_ties_even}
use Rattle.grouping_normalizer.specs.Normalizer.{normal_of}
use Rattle.std.specs.Prelude.{Option, None, Some}
use Rattle.grouping_same_rhythm.specs.declared.owns.Recent.{Recent}

-- what the second delta counts as among all of its group, as the nearest whole number; a single note has none
unfoldable pub modal_delta : Float → List Float → Option Float
modal_delta margin [] = None
modal_delta margin (d ∷ []) = None
modal_delta margin (d ∷ e ∷ deltas) = Some (round_ties_even (normal_of margin (d ∷ e ∷ deltas) e))

-- one that is near the previous group's own gives way to it
unfoldable pub snapped : Float → Option Float → Option Float → Option Float
snapped margin None previous = None
snapped margin (Some x) None = Some x
snapped margin (Some x) (Some y) = cond (is_near margin x y) (Some y) (Some x)

-- each group's own interval, behind a group whose own is `previous`
unfoldable pub owns_after : Float → Option Float → List (List Float) → List (Option Float)
owns_after margin previous [] = []
owns_after margin previous (group ∷ groups) =
    snapped margin (modal_delta margin group) previous
    ∷ owns_after margin (snapped margin (modal_delta margin group) previous) groups

unfoldable pub owns_of : Float → List (List Float) → List (Option Float)
owns_of margin groups = owns_after margin None groups

-- own over previous own, and 1.0 where one of them is absent
unfoldable pub ratio_of : Option Float → Option Float → Float
ratio_of None previous = one64
ratio_of (Some x) None = one64
ratio_of (Some x) (Some y) = div binary64 x y

-- the own interval k groups before group g, absent where there is no such group
unfoldable pub own_before : List (Option Float) → ℕ → ℕ → Option Float
own_before owns g zero = get_or owns g None
own_before owns zero (suc k) = None
own_before owns (suc g) (suc k) = own_before owns g k

-- those of group g and of the three before it
unfoldable pub recent_of : List (Option Float) → ℕ → Recent
recent_of owns g = record {
  newest = own_before owns g 0;
  second = own_before owns g 1;
  third = own_before owns g 2;
  fourth = own_before owns g 3;
}
