-- Charts at the boundary of each refusal, as one list of input and outcome: `verdict` computes to each outcome.
use mathlib.Core.Path.{◌≡◌, refl}
use mathlib.Core.List.{List, [], ◌∷◌, map}
use Prim.Native.Nat.{ℕ}
use lib.Ieee.{Float, binary64, of_bits, le}
use Rattle.std.specs.Prelude.{Err}
use Rattle.grouping_chart.specs.declared.refusal.Reason.TheVariants.{UnequalLengths, ShortSlice, UnknownKind, BadStart, BadDelta, BadRatio}
use Rattle.grouping_chart.specs.Chart.{Chart, equally_long}
use Rattle.numeric.specs.Range.{within}
use Rattle.grouping_chart.specs.Refusal.{Check, passed, Verdict, accepted, refusal, refused, time_good, ratio_good}
use Rattle.grouping_chart.specs.Refusal.{delta_refusal, object_order, first_refused, verdict}

-- An f64 is written by its bits, so that the next one in size is the next number.
abbrev one : ℕ
one = 0x3ff0_0000_0000_0000

-- 16,777,216 and −16,777,216, and the next f64 beyond each
abbrev most : ℕ
most = 0x4170_0000_0000_0000

abbrev over-most : ℕ
over-most = 0x4170_0000_0000_0001

abbrev least : ℕ
least = 0xc170_0000_0000_0000

abbrev under_least : ℕ
under_least = 0xc170_0000_0000_0001

-- 2^−24 and the next f64 below
abbrev smallest : ℕ
smallest = 0x3e70_0000_0000_0000

abbrev under_smallest : ℕ
under_smallest = 0x3e6f_ffff_ffff_ffff

abbrev not_a_number : ℕ
not_a_number = 0x7ff8_0000_0000_0000

abbrev infinite : ℕ
infinite = 0x7ff0_0000_0000_0000

abbrev minus_infinite : ℕ
minus_infinite = 0xfff0_0000_0000_0000

record Example : Type 0 where
  chart : Chart
  beside : Check
  outcome : Verdict

floats : List ℕ → List Float
floats = map (of_bits binary64)

-- a call on four lists, of which nothing else is refused
lists : List ℕ → List ℕ → List ℕ → List ℕ → Verdict → Example
lists kinds starts deltas ratios outcome = record {
  chart = record { kinds = kinds; starts = floats starts; deltas = floats deltas; ratios = floats ratios };
  beside = passed;
  outcome = outcome;
}

-- a call that is refused 3 where its chart is looked at
short : List ℕ → List ℕ → List ℕ → List ℕ → Verdict → Example
short kinds starts deltas ratios outcome = record { chart = (lists kinds starts deltas ratios outcome).chart; beside = Err ShortSlice; outcome = outcome }

-- a call on one object
object : ℕ → ℕ → ℕ → ℕ → Verdict → Example
object k s d r outcome = lists (k ∷ []) (s ∷ []) (d ∷ []) (r ∷ []) outcome

examples : List Example
examples =
    object 0 0 0 one accepted
    ∷ object 1 0 0 one accepted
    ∷ object 2 0 0 one accepted
    ∷ object 3 0 0 one (refused UnknownKind)
    ∷ object 255 not_a_number 0 one (refused UnknownKind)
    ∷ object 0 most 0 one accepted
    ∷ object 0 least 0 one accepted
    ∷ object 0 over-most 0 one (refused BadStart)
    ∷ object 0 under_least 0 one (refused BadStart)
    ∷ object 0 not_a_number 0 one (refused BadStart)
    ∷ object 0 infinite 0 one (refused BadStart)
    ∷ object 0 minus_infinite 0 one (refused BadStart)
    ∷ object 0 0 most one accepted
    ∷ object 0 0 least one accepted
    ∷ object 0 0 over-most one (refused BadDelta)
    ∷ object 0 0 under_least one (refused BadDelta)
    ∷ object 0 0 not_a_number one (refused BadDelta)
    ∷ object 0 0 infinite one (refused BadDelta)
    ∷ object 0 0 minus_infinite one (refused BadDelta)
    ∷ object 0 0 0 smallest accepted
    ∷ object 0 0 0 most accepted
    ∷ object 0 0 0 under_smallest (refused BadRatio)
    ∷ object 0 0 0 over-most (refused BadRatio)
    ∷ object 0 0 0 0 (refused BadRatio)
    ∷ object 0 0 0 not_a_number (refused BadRatio)
    ∷ object 0 0 0 infinite (refused BadRatio)
    ∷ object 0 0 0 minus_infinite (refused BadRatio)
    ∷ object 0 infinite infinite infinite (refused BadStart)
    ∷ object 0 0 infinite infinite (refused BadDelta)
    ∷ lists [] [] [] [] accepted
    ∷ lists (0 ∷ 1 ∷ 2 ∷ []) (0 ∷ 0 ∷ 0 ∷ []) (0 ∷ 0 ∷ 0 ∷ []) (one ∷ one ∷ one ∷ []) accepted
    ∷ lists (0 ∷ 1 ∷ 3 ∷ []) (0 ∷ 0 ∷ 0 ∷ []) (0 ∷ infinite ∷ 0 ∷ []) (one ∷ one ∷ one ∷ []) (Err (refusal BadDelta 1))
    ∷ lists (0 ∷ 3 ∷ []) (0 ∷ 0 ∷ []) (0 ∷ 0 ∷ []) (one ∷ []) (refused UnequalLengths)
    ∷ short (3 ∷ []) (0 ∷ []) (0 ∷ []) (one ∷ []) (refused ShortSlice)
    ∷ short (3 ∷ []) [] [] [] (refused UnequalLengths)
    ∷ []

shown : map (λ (e : Example). verdict e.chart e.beside) examples ≡ map (λ (e : Example). e.outcome) examples
unfolding examples object short lists floats of_bits le within time_good ratio_good delta_refusal object_order first_refused equally_long verdict
shown = refl
