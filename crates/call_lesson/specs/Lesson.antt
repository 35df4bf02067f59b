-- A lesson: stretches that are marked as a set (change requests: 9/12). They are lent as pairs, each of an offset,
-- which is a stretch's first object, and a length. Which lessons are refused, and what is answered of a pair: what
-- the call stretch answers of that stretch.
use Rattle.std.specs.Prelude.{ℕ, ◌≡◌, ◌+◌, Bool, true, ◌&&◌, cond, List, [], ◌∷◌, eqb, ltb, leb, length, zip, Float, ℤ}
use Rattle.std.specs.Prelude.{Err}
use Rattle.grouping_chart.specs.Chart.{Chart}
use Rattle.grouping_chart.specs.Outcome.{refused_then}
use Rattle.grouping_chart.specs.Settings.{Settings}
use Rattle.grouping_chart.specs.Refusal.{Check, passed, Verdict, accepted, and_then, refused_or}
use Rattle.grouping_chart.specs.declared.refusal.Reason.TheVariants.{UnequalLengths, BadLesson}
use Rattle.call_colour.specs.Stretch.{stretch_refusal, chart_mean, chart_tenths}

-- the two lists, of which each has an element for each pair
pub record Stretches : Type 0 where
  pub offsets : List ℕ
  pub lengths : List ℕ

abbrev pub stretches : List ℕ → List ℕ → Stretches
stretches offsets lengths = record { offsets = offsets; lengths = lengths }

-- counted on the offsets
abbrev pub pair_count : Stretches → ℕ
pair_count l = length l.offsets

-- an offset and its length
abbrev pub Pair : Type 0
Pair = ℕ × ℕ

abbrev pub pairs : Stretches → List Pair
pairs l = zip l.offsets l.lengths

-- a pair's stretch ends before the sum of the two, which is a number of ℕ and never wraps
abbrev pub pair_end : Pair → ℕ
pair_end p = p.0 + p.1

abbrev pub most_pairs : ℕ
most_pairs = 32

-- whether each number is above the one before it
unfoldable pub rising : List ℕ → Bool
rising [] = true
rising (x ∷ []) = true
rising (x ∷ (y ∷ ys)) = ltb x y && rising (y ∷ ys)

-- whether there are as many lengths as offsets
unfoldable pub count_refusal : Stretches → Check
count_refusal l = cond (eqb (length l.lengths) (pair_count l)) passed (Err UnequalLengths)

-- whether there are few enough pairs, and their offsets rise
unfoldable pub set_refusal : Stretches → Check
set_refusal l = cond (leb (pair_count l) most_pairs && rising l.offsets) passed (Err BadLesson)

-- whether a pair's stretch is good
abbrev pub pair_refusal : List ℕ → Pair → Check
pair_refusal kinds p = stretch_refusal kinds p.0 (pair_end p)

-- the first pair that is refused, with its number, where the list begins with pair i
unfoldable pub first_pair_refused : List ℕ → ℕ → List Pair → Verdict
first_pair_refused kinds i [] = accepted
first_pair_refused kinds i (p ∷ ps) = refused_or (pair_refusal kinds p) i (first_pair_refused kinds (i + 1) ps)

-- what is refused of the set comes after what is refused of the chart, and what is refused of a pair comes last
abbrev pub lesson_verdict : Verdict → List ℕ → Stretches → Verdict
lesson_verdict v kinds l = and_then (refused_then v (set_refusal l)) (first_pair_refused kinds 0 (pairs l))

-- a lesson of which nothing is refused, of a chart with these kinds
abbrev pub GoodLesson : List ℕ → Stretches → Type 0
GoodLesson kinds l = (count_refusal l ≡ passed) × (lesson_verdict accepted kinds l ≡ accepted)

-- what a pair's stretch is answered
abbrev pub pair_mean : Settings → Chart → Pair → Float
pair_mean s c p = chart_mean s c p.0 (pair_end p)

abbrev pub pair_tenths : Settings → Chart → Pair → ℤ
pair_tenths s c p = chart_tenths s c p.0 (pair_end p)
