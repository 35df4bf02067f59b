-- The marks are written over all of their region, and the rest is made of them.
use native.Mathlib.Omega.{arith}
use mathlib.Core.Path.{sym, ap, ◌∙◌}
use mathlib.Core.List.{List}
use Prim.Native.Nat.{ℕ}
use Rattle.lent.specs.Over.{over}
use Rattle.grouping_marks.specs.Marks.{group_count, group_numbers, group_sizes, group_firsts}
use Rattle.grouping_marks.proofs.MarksLaws.{count_le}
use Rattle.grouping_colour.proofs.StreakListLaws.{streak_of_made, streak_lengths_made, streak_types_made}
use Rattle.grouping_preprocessor.proofs.StepLaws.{streaks_marked, copied}
use Rattle.grouping_preprocessor.proofs.find_streaks.Goals as goal

pub returns : goal.returns
returns c =
    let m = streaks_marked _ _ _ c.requires.regions.0 c.mark_streaks.ensures in
    let k = c.args.kind.now in
    record {
      count = c.group_sizes.ensures.count ∙ ap group_count m;
      few = omega (arith, c.group_sizes.ensures.count, count_le c.mark_streaks.new.marks);
      marks = m;
      streak = c.group_numbers.ensures ∙ ap group_numbers (copied _ _ _ (omega arith) c.copy.ensures ∙ m) ∙ sym (streak_of_made k);
      types =
          c.group_firsts.ensures
          ∙ (λ i. over (group_firsts (m i) (c.widen.ensures i)) c.args.types.now)
          ∙ ap (λ (l : List ℕ). over l c.args.types.now) (sym (streak_types_made k));
      lengths =
          c.group_sizes.ensures.sizes
          ∙ ap (λ (l : List ℕ). over (group_sizes l) c.args.lengths.now) m
          ∙ ap (λ (l : List ℕ). over l c.args.lengths.now) (sym (streak_lengths_made k));
    }
