-- An object of one chart has the value of an object of another where both stand alike in their groups. For crates above this one.
use mathlib.Core.Path.{◌≡◌, refl, sym, ◌∙◌}
use mathlib.Core.Bool.{false}
use mathlib.Core.List.{List}
use Prim.Native.Nat.{ℕ, ◌-◌, ◌≤◌}
use native.Mathlib.Omega.{arith}
use borrow.Author.Tests.{le-ltb}
use lib.ListN.{get_or}
use lib.Ieee.{Float, nan, binary64, mul}
use Rattle.grouping_colour.specs.MonoStreak.{streak_of}
use Rattle.grouping_preprocessor.specs.Preprocessor.{streak_place_of, alternating_of, pattern_place_of, hit_of, interval_of}
use Rattle.evaluator_colour.specs.Formulas.{object_sum}
use Rattle.evaluator_colour.specs.RatioPenalty.{ratio_penalty}
use Rattle.evaluator_colour.proofs.PenaltyCases.{tested}
use Rattle.evaluator_values.specs.Colour.{is_first, standing_at, colour_at}
use Rattle.evaluator_values.proofs.StandingLaws.{same_standing}

-- object i of the one chart stands in its groups as object i' of the other does, by the numbers of the two
pub standing_alike : (limit : ℕ) (kinds : List ℕ) (i : ℕ) (kinds' : List ℕ) (i' : ℕ)
    → get_or (interval_of limit kinds) i 0 ≡ get_or (interval_of limit kinds') i' 0
    → get_or (pattern_place_of kinds) i 0 ≡ get_or (pattern_place_of kinds') i' 0
    → get_or (streak_place_of kinds) i 0 ≡ get_or (streak_place_of kinds') i' 0
    → is_first (streak_of kinds) i ≡ is_first (streak_of kinds') i'
    → is_first (alternating_of kinds) i ≡ is_first (alternating_of kinds') i'
    → is_first (hit_of kinds) i ≡ is_first (hit_of kinds') i'
    → standing_at limit kinds i ≡ standing_at limit kinds' i'
unfolding standing_at
standing_alike limit kinds i kinds' i' n q p s a h =
    same_standing (record { interval = n; pattern_place = q; streak_place = p; streak = s; pattern = a; hit = h })

-- from object 4 on the penalty hangs on the two ratios alone
penalty-late : (tolerance : Float) (i j : ℕ) (c p : Float) → 4 ≤ i → 4 ≤ j → ratio_penalty tolerance i c p ≡ ratio_penalty tolerance j c p
penalty-late tolerance i j c p h k =
    sym (tested tolerance i c p false _ false (le-ltb i 2 (omega arith)) refl (le-ltb i 4 h))
    ∙ tested tolerance j c p false _ false (le-ltb j 2 (omega arith)) refl (le-ltb j 4 k)

-- the value, from object 4 on, where the two ratios are the same too
pub colour-alike : (limit : ℕ) (tolerance : Float) (kinds : List ℕ) (ratios : List Float) (i : ℕ) (kinds' : List ℕ) (ratios' : List Float) (i' : ℕ)
    → standing_at limit kinds i ≡ standing_at limit kinds' i' → get_or ratios i nan ≡ get_or ratios' i' nan
    → get_or ratios (i - 2) nan ≡ get_or ratios' (i' - 2) nan → 4 ≤ i → 4 ≤ i'
    → colour_at limit tolerance kinds ratios i ≡ colour_at limit tolerance kinds' ratios' i'
unfolding colour_at
colour-alike limit tolerance kinds ratios i kinds' ratios' i' l this earlier h k =
    (λ t. mul binary64 (object_sum (l t)) (ratio_penalty tolerance i (this t) (earlier t)))
    ∙ rw (penalty-late tolerance i i' (get_or ratios' i' nan) (get_or ratios' (i' - 2) nan) h k)
