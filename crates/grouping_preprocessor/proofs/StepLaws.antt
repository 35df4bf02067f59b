-- What each pass left in its regions, by what its calls ensure: every mark is written, so the marks are those of the definition, and whatever
-- is made of them follows.
use mathlib.Core.Path.{◌≡◌, sym, ap, ◌∙◌}
use mathlib.Core.List.{List}
use Prim.Native.Nat.{ℕ}
use native.Mathlib.Omega.{arith}
use lib.ListN.{length, take}
use lib.Seq.{length-take-le}
use Rattle.lent.specs.Over.{over}
use Rattle.lent.proofs.OverLaws.{front}
use Rattle.lent.proofs.PieceLaws.{over_whole}
use Rattle.grouping_marks.specs.Marks.{group_count, group_sizes, group_firsts}
use Rattle.grouping_marks.proofs.MarksLaws.{count_le, length-sizes, length-firsts}
use Rattle.grouping_hits.specs.RepeatingHitPatterns.{hit_marks, second_lengths, intervals}
use Rattle.grouping_hits.proofs.LengthLaws.{length-second_lengths}
use Rattle.grouping_colour.specs.MonoStreak.{streak_marks}
use Rattle.grouping_colour.specs.AlternatingMonoPattern.{pattern_marks, coupled}
use Rattle.grouping_colour.proofs.LengthLaws.{length-streak_marks, length-pattern_marks, length-coupled}
use Rattle.grouping_preprocessor.specs.passes.Steps.{hits_by}

-- a front of as many places as there are groups
pub ruleset fronts = (count_le, length-take-le)

-- ---- the marks, written whole

pub streaks_marked : (kinds old now : List ℕ) → length old ≡ length kinds → now ≡ over (streak_marks kinds) old → now ≡ streak_marks kinds
streaks_marked kinds old now l e = e ∙ over_whole (streak_marks kinds) old (length-streak_marks kinds ∙ sym l)

pub patterns_marked : (lengths old now : List ℕ) → length old ≡ length lengths → now ≡ over (pattern_marks lengths) old → now ≡ pattern_marks lengths
patterns_marked lengths old now l e = e ∙ over_whole (pattern_marks lengths) old (length-pattern_marks lengths ∙ sym l)

module _ (lengths counts types : List ℕ) where
  pub hits_marked : (old flags now : List ℕ) → length old ≡ length lengths → flags ≡ over (coupled lengths counts types) old → now ≡ hit_marks flags
      → now ≡ hits_by lengths counts types
  hits_marked old flags now l e f = f ∙ ap hit_marks (e ∙ over_whole (coupled lengths counts types) old (length-coupled lengths counts types ∙ sym l))

pub seconds_whole : (lengths marks marks' old now : List ℕ) → length old ≡ length lengths → marks ≡ marks' → now ≡ over (second_lengths lengths marks) old
    → now ≡ second_lengths lengths marks'
seconds_whole lengths marks marks' old now l e f =
    f
    ∙ ap (λ (m : List ℕ). over (second_lengths lengths m) old) e
    ∙ over_whole (second_lengths lengths marks') old (length-second_lengths lengths marks' ∙ sym l)

-- marks that are copied over all of a region
pub copied : (marks old now : List ℕ) → length marks ≡ length old → now ≡ over marks old → now ≡ marks
copied marks old now l e = e ∙ over_whole marks old l

-- ---- the intervals

module _ (limit : ℕ) (lengths counts types marks found₀ : List ℕ) (h : ℕ) (g : h ≡ group_count marks) (l : length lengths ≡ length marks)
    (t : length types ≡ length marks) where
  sizes_front : (now : List ℕ) → now ≡ over (group_sizes marks) counts → take h now ≡ group_sizes marks
  sizes_front now e = rw e (front (group_sizes marks) counts h (length-sizes marks ∙ sym g))

  firsts_front : (xs now : List ℕ) → length xs ≡ length marks → now ≡ over (group_firsts marks xs) xs → take h now ≡ group_firsts marks xs
  firsts_front xs now e f = rw f (front (group_firsts marks xs) xs h (length-firsts marks xs (omega arith) ∙ sym g))

  pub intervals_whole : (counts' lengths' types' found : List ℕ) → counts' ≡ over (group_sizes marks) counts
      → lengths' ≡ over (group_firsts marks lengths) lengths → types' ≡ over (group_firsts marks types) types
      → found ≡ over (intervals limit (take h counts') (take h lengths') (take h types')) found₀
      → found ≡ over (intervals limit (group_sizes marks) (group_firsts marks lengths) (group_firsts marks types)) found₀
  intervals_whole counts' lengths' types' found e₁ e₂ e₃ e₄ =
      rw (sizes_front counts' e₁, firsts_front lengths lengths' l e₂, firsts_front types types' t e₃) at e₄
