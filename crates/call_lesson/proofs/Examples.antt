-- Lessons on the kinds d n k n, which are 0, 2, 1 and 2: what is refused of a set and of each pair, the sums past 2^64 among them. The definitions compute to
-- these.
use mathlib.Core.Path.{◌≡◌, refl}
use mathlib.Core.List.{List, [], ◌∷◌, map}
use Prim.Native.Nat.{ℕ}
use lib.ListN.{length, replicate}
use Rattle.std.specs.Prelude.{Err}
use Rattle.lent.specs.Over.{part}
use Rattle.grouping_chart.specs.Object.{is_note, notes}
use Rattle.grouping_chart.specs.Outcome.{refused_then}
use Rattle.grouping_chart.specs.Refusal.{Check, passed, Verdict, accepted, refusal}
use Rattle.grouping_chart.specs.declared.refusal.Reason.TheVariants.{OutOfRange, NoNotes, BadLesson, UnequalLengths}
use Rattle.call_colour.specs.Stretch.{has_note, stretch_refusal}
use Rattle.call_lesson.specs.Lesson.{stretches, rising, count_refusal, set_refusal, pair_refusal, first_pair_refused, lesson_verdict}

abbrev pub kinds : List ℕ
kinds = 0 ∷ 2 ∷ 1 ∷ 2 ∷ []

-- 2^64 - 1, the most that a host can lend
abbrev pub most : ℕ
most = 18446744073709551615

pub record PairExample : Type 0 where
  pub offset : ℕ
  pub length : ℕ
  pub asked : Check

unfoldable pub pair : ℕ → ℕ → Check → PairExample
pair offset length asked = record { offset = offset; length = length; asked = asked }

unfoldable pub pair_examples : List PairExample
unfolding pair
pair_examples =
    -- all four objects; the last three; the k alone; a NonHit alone has no note
    pair 0 4 passed
    ∷ pair 1 3 passed
    ∷ pair 2 1 passed
    ∷ pair 3 1 (Err NoNotes)
    -- empty, also where it begins at the chart's end; one object too many
    ∷ pair 0 0 (Err OutOfRange)
    ∷ pair 4 0 (Err OutOfRange)
    ∷ pair 1 4 (Err OutOfRange)
    ∷ pair 4 1 (Err OutOfRange)
    -- sums that would wrap to 0, to 1 and to 4
    ∷ pair most 1 (Err OutOfRange)
    ∷ pair 2 most (Err OutOfRange)
    ∷ pair most 5 (Err OutOfRange)
    ∷ []

pub pairs_right : map (λ (e : PairExample). pair_refusal kinds (e.offset, e.length)) pair_examples ≡ map (λ (e : PairExample). e.asked) pair_examples
unfolding pair pair_examples stretch_refusal has_note notes is_note part
pairs_right = refl

pub record Example : Type 0 where
  pub offsets : List ℕ
  pub lengths : List ℕ
  pub verdict : Verdict

unfoldable pub example : List ℕ → List ℕ → Verdict → Example
example offsets lengths verdict = record { offsets = offsets; lengths = lengths; verdict = verdict }

unfoldable pub examples : List Example
unfolding example
examples =
    -- no pairs; two that overlap
    example [] [] accepted
    ∷ example (0 ∷ 1 ∷ []) (4 ∷ 2 ∷ []) accepted
    -- the first faulty pair: 11 of pair 0 comes before 9 of pair 1, and 9 of pair 1 before 11 of pair 2
    ∷ example (1 ∷ 2 ∷ []) (1 ∷ 9 ∷ []) (Err (refusal NoNotes 0))
    ∷ example (0 ∷ 2 ∷ 3 ∷ []) (1 ∷ 9 ∷ 1 ∷ []) (Err (refusal OutOfRange 1))
    -- equal offsets and falling ones, before either pair is looked at
    ∷ example (0 ∷ 0 ∷ []) (1 ∷ 2 ∷ []) (Err (refusal BadLesson 0))
    ∷ example (9 ∷ 1 ∷ []) (0 ∷ 1 ∷ []) (Err (refusal BadLesson 0))
    -- 33 pairs are too many
    ∷ example (0 ∷ 1 ∷ 2 ∷ 3 ∷ 4 ∷ 5 ∷ 6 ∷ 7 ∷ 8 ∷ 9 ∷ 10 ∷ 11 ∷ 12 ∷ 13 ∷ 14 ∷ 15 ∷ 16 ∷ 17 ∷ 18 ∷ 19 ∷ 20 ∷ 21 ∷ 22 ∷ 23 ∷ 24
    ∷ 25 ∷ 26 ∷ 27 ∷ 28 ∷ 29 ∷ 30 ∷ 31 ∷ 32 ∷ []) (replicate 33 1) (Err (refusal BadLesson 0))
    ∷ []

pub lessons_right : map (λ (e : Example). lesson_verdict accepted kinds (stretches e.offsets e.lengths)) examples ≡ map (λ (e : Example). e.verdict) examples
unfolding example examples refused_then set_refusal rising first_pair_refused stretch_refusal has_note notes is_note part
lessons_right = refl

-- an offset without a length, and a length without an offset
pub counts_right : (count_refusal (stretches (0 ∷ []) []) ≡ Err UnequalLengths) × (count_refusal (stretches [] (1 ∷ [])) ≡ Err UnequalLengths)
unfolding count_refusal
counts_right = (refl, refl)
