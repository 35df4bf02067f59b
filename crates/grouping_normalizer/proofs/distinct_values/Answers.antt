-- A value that is alike the last one kept is passed over, and another is kept behind it.
use Rattle.std.proofs.Common.{◌≡◌, length, sym, ◌∙◌, rules, tests}
use Rattle.numeric_sort.proofs.OrderedLaws.{slice_numbers}
use Rattle.grouping_normalizer.proofs.DistinctLaws.{distinct_none, thinning_start, thinning_skip, thinning_keep, thinning_end}
use Rattle.grouping_normalizer.proofs.distinct_values.Goals as goal
use Rattle.grouping_normalizer.proofs.distinct_values.Goals.{then-not-is_alike, else-not-is_alike}

pub returns-then-is_empty : goal.returns-then-is_empty
returns-then-is_empty c =
    let h : length c.sort.new.values ≡ 0 = search (rules, tests) in
    distinct_none _ _ h c.sort.ensures

pub loop-i-init : goal.loop-i-init
loop-i-init c = thinning_start (search (rules, tests)) (slice_numbers c.requires (search rules)) c.sort.ensures

pub loop-i-preserved : goal.loop-i-preserved
loop-i-preserved c =
    elim c.if-not-is_alike.branch [
      | then-not-is_alike w ↦ rw (w.values-is, w.k-is) (thinning_keep c.loop-i.invariant c.loop-i-test.true (sym c.is_alike.ensures ∙ w.if-not-is_alike.true))
      | else-not-is_alike w ↦ rw (w.values-is, w.k-is) (thinning_skip c.loop-i.invariant c.loop-i-test.true (sym c.is_alike.ensures ∙ w.if-not-is_alike.false))
    ]

pub returns : goal.returns
returns c = thinning_end c.loop-i.invariant c.loop-i-test.false c.sort.ensures
