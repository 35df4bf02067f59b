-- The colour value of each object of a chart (scope: the call colour).
use Rattle.std.specs.Prelude.{ℕ, ◌-◌, Bool, true, cond, not, List, eqb, length, get_or, Float}
use Rattle.std.specs.Float.{nan, binary64}
use Rattle.std.specs.Float.Ieee.{mul}
use Rattle.lent.specs.Scan.{tabulate}
use Rattle.grouping_chart.specs.Chart.{Chart}
use Rattle.grouping_chart.specs.Settings.{Settings}
use Rattle.grouping_colour.specs.MonoStreak.{streak_of}
use Rattle.grouping_preprocessor.specs.Preprocessor.{streak_place_of, alternating_of, pattern_place_of, hit_of}
use Rattle.grouping_preprocessor.specs.Preprocessor.{interval_of}
use Rattle.evaluator_colour.specs.declared.Standing.{Standing}
use Rattle.evaluator_colour.specs.Formulas.{object_sum}
use Rattle.evaluator_colour.specs.RatioPenalty.{ratio_penalty}

-- whether object i is the first of its group, by each object's group number
unfoldable pub is_first : List ℕ → ℕ → Bool
is_first numbers i = cond (eqb i 0) true (not (eqb (get_or numbers i 0) (get_or numbers (i - 1) 0)))

-- how object i stands in its groups, under the search limit
unfoldable pub standing_at : ℕ → List ℕ → ℕ → Standing
standing_at limit kinds i = record {
  interval = get_or (interval_of limit kinds) i 0;
  pattern_place = get_or (pattern_place_of kinds) i 0;
  streak_place = get_or (streak_place_of kinds) i 0;
  streak = is_first (streak_of kinds) i;
  pattern = is_first (alternating_of kinds) i;
  hit = is_first (hit_of kinds) i;
}

-- its sum times its ratio penalty, which goes by its own ratio and that of the object two before
unfoldable pub colour_at : ℕ → Float → List ℕ → List Float → ℕ → Float
colour_at limit tolerance kinds ratios i =
    mul binary64 (object_sum (standing_at limit kinds i))
    (ratio_penalty tolerance i (get_or ratios i nan) (get_or ratios (i - 2) nan))

unfoldable pub colour_values : ℕ → Float → List ℕ → List Float → List Float
colour_values limit tolerance kinds ratios = tabulate (colour_at limit tolerance kinds ratios) (length kinds)

-- the colour values of a chart
abbrev pub values_of : Settings → Chart → List Float
values_of s c = colour_values s.search_limit s.tolerance c.kinds c.ratios
