-- The marks are written over all of their region, and the rest is made of them.
use native.Mathlib.Omega.{arith}
use mathlib.Core.Path.{ap, ◌∙◌}
use mathlib.Core.List.{List}
use Prim.Native.Nat.{ℕ}
use Rattle.lent.specs.Over.{over}
use Rattle.grouping_marks.specs.Marks.{group_count, group_numbers, group_places, group_sizes, group_firsts}
use Rattle.grouping_marks.proofs.MarksLaws.{count_le}
use Rattle.grouping_preprocessor.proofs.StepLaws.{patterns_marked, copied}
use Rattle.grouping_preprocessor.proofs.find_patterns.Goals as goal

pub returns : goal.returns
returns c =
    let m = patterns_marked _ _ _ c.requires.regions.1.0 c.mark_patterns.ensures in
    let x = c.args.lengths.now in
    let t = c.args.types.now in
    record {
      count = c.group_sizes-patterns.ensures.count ∙ ap group_count m;
      few = omega (arith, c.group_sizes-patterns.ensures.count, count_le c.mark_patterns.new.marks);
      lengths = c.keep_firsts.ensures ∙ ap (λ (l : List ℕ). over (group_firsts l x) x) m;
      types = c.keep_firsts-2.ensures ∙ ap (λ (l : List ℕ). over (group_firsts l t) t) m;
      marks = m;
      numbers = c.group_numbers.ensures ∙ ap group_numbers (copied _ _ _ (omega arith) c.copy.ensures ∙ m);
      places = c.group_places.ensures ∙ ap group_places (copied _ _ _ (omega arith) c.copy-2.ensures ∙ m);
      counts = c.group_sizes-patterns.ensures.sizes ∙ ap (λ (l : List ℕ). over (group_sizes l) c.args.counts.now) m;
    }
