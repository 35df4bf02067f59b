-- Under a margin that is not negative the groups, their own intervals, their intervals and their patterns are those under its size.
use mathlib.Core.Path.{◌≡◌, refl}
use mathlib.Core.Bool.{false, cond}
use mathlib.Core.List.{List, [], ◌∷◌}
use lib.ListN.{get_or}
use lib.Ieee.{Float, inf, binary64, sub}
use Rattle.std.specs.Prelude.{Option, None, Some}
use Rattle.numeric.specs.Constants.{zero64}
use Rattle.numeric.specs.Near.{abs_of}
use Rattle.numeric.specs.RoundTiesEven.{round_ties_even}
use Rattle.numeric.proofs.ZeroSign.{NotNegative, near_unsigned}
use Rattle.grouping_marks.specs.Marks.{group_numbers}
use Rattle.grouping_marks.specs.Parted.{parted}
use Rattle.grouping_normalizer.proofs.UnsignedLaws.{normal_unsigned}
use Rattle.grouping_interval.specs.Notes.{note_objects, of_notes}
use Rattle.grouping_interval.proofs.UnsignedLaws as interval
use Rattle.grouping_same_rhythm.specs.Own.{modal_delta, snapped, owns_after, owns_of}
use Rattle.grouping_same_rhythm.specs.SameRhythm.{rhythm_marks, group_objects, group_deltas, firsts_of, starts_of}
use Rattle.grouping_same_rhythm.specs.SameRhythm.{between, intervals_after, intervals_of, group_intervals}
use Rattle.grouping_same_rhythm.specs.SamePatterns.{pattern_ratio, pattern_number, pattern_of}

module _ {margin : Float} (h : NotNegative margin) where
  -- ---- own intervals
  modal_unsigned : (deltas : List Float) → modal_delta margin deltas ≡ modal_delta (abs_of margin) deltas
  unfolding modal_delta
  modal_unsigned [] = refl
  modal_unsigned (d ∷ []) = refl
  modal_unsigned (d ∷ e ∷ deltas) = λ i. Some (round_ties_even (normal_unsigned h i (d ∷ e ∷ deltas) e))

  snapped_unsigned : (own previous : Option Float) → snapped margin own previous ≡ snapped (abs_of margin) own previous
  unfolding snapped
  snapped_unsigned None previous = refl
  snapped_unsigned (Some x) None = refl
  snapped_unsigned (Some x) (Some y) = λ i. cond (near_unsigned h i x y) (Some y) (Some x)

  after_unsigned : (previous : Option Float) (groups : List (List Float)) → owns_after margin previous groups ≡ owns_after (abs_of margin) previous groups
  unfolding owns_after
  after_unsigned previous [] = refl
  after_unsigned previous (group ∷ groups) =
      λ i. let own = snapped_unsigned (modal_unsigned group i) previous i in own ∷ after_unsigned own groups i

  pub owns_unsigned : owns_of margin ≡ owns_of (abs_of margin)
  unfolding owns_of
  owns_unsigned = λ i groups. after_unsigned None groups i

  -- ---- groups
  pub marks_unsigned : rhythm_marks margin ≡ rhythm_marks (abs_of margin)
  unfolding rhythm_marks
  marks_unsigned = λ i kinds deltas. interval.marks_unsigned h i (of_notes kinds deltas)

  pub objects_unsigned : group_objects margin ≡ group_objects (abs_of margin)
  unfolding group_objects
  objects_unsigned = λ i kinds deltas. parted (marks_unsigned i kinds deltas) (note_objects kinds)

  pub deltas_unsigned : group_deltas margin ≡ group_deltas (abs_of margin)
  unfolding group_deltas
  deltas_unsigned = λ i kinds deltas. parted (marks_unsigned i kinds deltas) (of_notes kinds deltas)

  -- ---- their intervals
  between_unsigned : between margin ≡ between (abs_of margin)
  unfolding between
  between_unsigned = λ i previous start. cond (near_unsigned h i start previous) zero64 (sub binary64 start previous)

  gaps_unsigned : (previous : Float) (starts : List Float) → intervals_after margin previous starts ≡ intervals_after (abs_of margin) previous starts
  unfolding intervals_after
  gaps_unsigned previous [] = refl
  gaps_unsigned previous (start ∷ starts) = λ i. between_unsigned i previous start ∷ gaps_unsigned start starts i

  all_unsigned : (starts : List Float) → intervals_of margin starts ≡ intervals_of (abs_of margin) starts
  unfolding intervals_of
  all_unsigned [] = refl
  all_unsigned (start ∷ starts) = λ i. inf false ∷ gaps_unsigned start starts i

  pub intervals_unsigned : group_intervals margin ≡ group_intervals (abs_of margin)
  unfolding group_intervals
  intervals_unsigned = λ i kinds starts deltas. all_unsigned (starts_of starts (firsts_of (objects_unsigned i kinds deltas))) i

  -- ---- patterns
  pub number_unsigned : pattern_number margin ≡ pattern_number (abs_of margin)
  unfolding pattern_number
  number_unsigned = λ i intervals g. get_or (group_numbers (interval.marks_unsigned h i intervals)) g 0

  pub pattern_unsigned : pattern_of margin ≡ pattern_of (abs_of margin)
  unfolding pattern_of
  pattern_unsigned = λ i intervals g. record {
    number = number_unsigned i intervals g;
    ratio = pattern_ratio (parted (interval.marks_unsigned h i intervals) intervals) (number_unsigned i intervals g);
  }
