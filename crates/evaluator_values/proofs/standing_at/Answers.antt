-- The object's numbers, what the tables have at them, and where a number differs from the object's before.
use Rattle.std.proofs.Common.{◌∙◌}
use Rattle.evaluator_values.specs.passes.Tables.{looked_up}
use Rattle.evaluator_values.proofs.TablesLaws.{hit_in, place_in, first_in, first_is, interval_is, pattern-place_is, streak-place_is}
use Rattle.evaluator_values.proofs.StandingLaws.{start_first, change_first, same_standing}
use Rattle.evaluator_values.proofs.standing_at.Goals as goal

pub bounds-tables-at : goal.bounds-tables-at
bounds-tables-at c = hit_in c.requires c.numbers_at-at.ensures

pub bounds-tables-at-2 : goal.bounds-tables-at-2
bounds-tables-at-2 c = place_in c.requires c.numbers_at-at.ensures

pub bounds-tables-at-4 : goal.bounds-tables-at-4
bounds-tables-at-4 c = first_in c.requires c.numbers_at-at.ensures

pub returns-then-i-eq0 : goal.returns-then-i-eq0
unfolding looked_up
returns-then-i-eq0 c =
    let a = c.numbers_at-at.ensures in
    same_standing (record {
      interval = c.from-interval.ensures ∙ interval_is c.requires a;
      pattern_place = c.from-pattern_place.ensures ∙ pattern-place_is c.requires a;
      streak_place = c.from-streak_place.ensures ∙ streak-place_is c.requires a;
      streak = first_is c.requires a _ c.from-first.ensures;
      pattern = start_first _ _ c.if-i-eq0.true;
      hit = start_first _ _ c.if-i-eq0.true;
    })

pub returns : goal.returns
unfolding looked_up
returns c =
    let a = c.numbers_at-at.ensures in
    let b = c.numbers_at-before.ensures in
    same_standing (record {
      interval = c.from-interval.ensures ∙ interval_is c.requires a;
      pattern_place = c.from-pattern_place.ensures ∙ pattern-place_is c.requires a;
      streak_place = c.from-streak_place.ensures ∙ streak-place_is c.requires a;
      streak = first_is c.requires a _ c.from-first.ensures;
      pattern = change_first _ _ _ _ c.if-i-eq0.false a.patterns b.patterns;
      hit = change_first _ _ _ _ c.if-i-eq0.false a.hits b.hits;
    })
