-- A stretch of a chart, which has object a and not object b (scope: Stretch, as amended by 2/12 and 4/12): which
-- stretches are refused; the mean of one, the colour values of its notes added from left to right and divided by how
-- many they are; and its tenths, to the nearest.
use Rattle.std.specs.Prelude.{◌≡◌, ℕ, ◌-◌, Bool, ◌||◌, cond, List, [], ◌∷◌, ltb, leb, ℤ, pos, length, Float}
use Rattle.std.specs.Prelude.{Err}
use Rattle.std.specs.Float.{binary64}
use Rattle.std.specs.Float.Ieee.{add, div, of_int}
use Rattle.numeric.specs.Constants.{zero64}
use Rattle.numeric.specs.Tenths.{tenths_of}
use Rattle.lent.specs.Over.{part}
use Rattle.grouping_chart.specs.Object.{notes}
use Rattle.grouping_chart.specs.Chart.{Chart}
use Rattle.grouping_chart.specs.Outcome.{refused_then}
use Rattle.grouping_chart.specs.Settings.{Settings}
use Rattle.grouping_chart.specs.Refusal.{Check, passed, Verdict}
use Rattle.grouping_chart.specs.declared.refusal.Reason.TheVariants.{OutOfRange, NoNotes}
use Rattle.grouping_interval.specs.Notes.{of_notes}
use Rattle.evaluator_values.specs.Colour.{values_of}

-- of a list with an element for each object, those from a to b, b not included
abbrev pub from_to : {A : Type 0} → ℕ → ℕ → List A → List A
from_to a b xs = part a (b - a) xs

unfoldable pub has_note : List ℕ → Bool
has_note kinds = ltb 0 (length (notes kinds))

-- whether a stretch is good: 9 where it is empty or ends past the chart, else 11 where it has no note
unfoldable pub stretch_refusal : List ℕ → ℕ → ℕ → Check
stretch_refusal kinds a b =
    cond (leb b a || ltb (length kinds) b) (Err OutOfRange) (cond (has_note (from_to a b kinds)) passed (Err NoNotes))

-- a stretch of which nothing is refused, of a chart with these kinds
abbrev pub GoodStretch : List ℕ → ℕ → ℕ → Type 0
GoodStretch kinds a b = stretch_refusal kinds a b ≡ passed

-- and what is refused of it comes after what is refused of the chart
abbrev pub stretch_verdict : Verdict → List ℕ → ℕ → ℕ → Verdict
stretch_verdict v kinds a b = refused_then v (stretch_refusal kinds a b)

-- the values that a stretch's mean is made of, those of its notes
unfoldable pub stretch_values : Settings → Chart → ℕ → ℕ → List Float
stretch_values s c a b = of_notes (from_to a b c.kinds) (from_to a b (values_of s c))

-- each sum rounded
unfoldable pub sum_from : Float → List Float → Float
sum_from sum [] = sum
sum_from sum (x ∷ xs) = sum_from (add binary64 sum x) xs

-- divided by how many there are
unfoldable pub average_of : List Float → Float
average_of values = div binary64 (sum_from zero64 values) (of_int binary64 (pos (length values)))

unfoldable pub chart_mean : Settings → Chart → ℕ → ℕ → Float
chart_mean s c a b = average_of (stretch_values s c a b)

unfoldable pub chart_tenths : Settings → Chart → ℕ → ℕ → ℤ
chart_tenths s c a b = tenths_of (chart_mean s c a b)
