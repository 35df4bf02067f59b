-- Of an accepted record the penalty is bounded, so finite, and no NaN: the group's objects are the chart's, whose starts are at most 2 ^ 24 in size, so
-- its duration is at most 2 ^ 25 in size, and the window is at least 1.0.
use mathlib.Core.Path.{◌≡◌, ap}
use mathlib.Core.Bool.{true, not}
use mathlib.Core.List.{List}
use Prim.Native.Nat.{ℕ, ◌+◌, ◌-◌, ◌^◌, ◌<◌}
use native.Mathlib.Omega.{arith}
use lib.Dec.{T, lit≤}
use lib.ListN.{length, get_or}
use lib.Ieee.{Float, nan, is_nan}
use Rattle.numeric.specs.Constants.{one64, thousand64}
use Rattle.numeric.proofs.Bounded.{Bounded, sub_bounded, le_bounded}
use Rattle.numeric.proofs.range.Laws.{within_ends}
use Rattle.grouping_marks.proofs.PartedLaws.{parted_all, parted-some}
use Rattle.grouping_chart.specs.Chart.{Chart, size}
use Rattle.grouping_chart.specs.Refusal.{Check, accepted, verdict}
use Rattle.grouping_interval.specs.Notes.{note_objects}
use Rattle.grouping_chart.specs.Settings.{Settings}
use Rattle.grouping_chart.proofs.AcceptedLaws.{GoodChart, accepted_good}
use Rattle.grouping_interval.proofs.NoteLaws.{object-below}
use Rattle.grouping_chart.proofs.RangeLaws.{time_range}
use Rattle.grouping_same_rhythm.specs.SameRhythm.{rhythm_marks, group_objects}
use Rattle.grouping_same_rhythm.proofs.MadeLaws.{group_objects_made}
use Rattle.grouping_same_rhythm.proofs.GroupsLaws.{length-firsts}
use Rattle.call_rhythm.specs.Rhythm.{groups_in}
use Rattle.call_rhythm.proofs.TablesLaws.{length_first_objects}
use Rattle.evaluator_rhythm.proofs.PenaltyLaws as penalty
use Rattle.call_record.specs.Record.{objects_in, owns_at, duration_of, record_at}
use Rattle.call_record.specs.Call.{window_good}

start_bounded : {c : Chart} {beside : Check} → GoodChart c beside → (i : ℕ) → i < size c → Bounded (get_or c.starts i nan) (2 ^ 24)
start_bounded {c} good i h =
    let r = time_range (get_or c.starts i nan) (good.objects i nan h).start in
    le_bounded (get_or c.starts i nan) 24 r.0 r.1

module _ (s : Settings) (c : Chart) (beside : Check) (g : ℕ) (told : verdict c beside ≡ accepted) (there : g < groups_in s.margin c.kinds c.deltas) where
  -- group g is one of the groups
  group_there : g < length (group_objects s.margin c.kinds c.deltas)
  group_there =
      let l = length_first_objects s.margin c.kinds c.deltas (accepted_good c beside told).lengths.delta in
      omega (arith, l, length-firsts (group_objects s.margin c.kinds c.deltas))

  objects : List ℕ
  objects = objects_in s.margin c.kinds c.deltas g

  has_object : 0 < length objects
  unfolding objects objects_in
  has_object =
      let l = ap length (group_objects_made s.margin c.kinds c.deltas) in
      rw (group_objects_made s.margin c.kinds c.deltas)
      (parted-some (rhythm_marks s.margin c.kinds c.deltas) (note_objects c.kinds) g (omega (arith, l, group_there)))

  object-inside : (i : ℕ) → i < length objects → get_or objects i 0 < size c
  unfolding objects objects_in
  object-inside =
      let l = ap length (group_objects_made s.margin c.kinds c.deltas) in
      rw (group_objects_made s.margin c.kinds c.deltas)
      (λ (i : ℕ) h. parted_all (λ (x : ℕ). x < size c) (rhythm_marks s.margin c.kinds c.deltas) (note_objects c.kinds) 0
      (object-below c.kinds) g i (omega (arith, l, group_there)) h)

  duration_bounded : Bounded (duration_of c.starts objects) (2 ^ 25)
  unfolding duration_of
  duration_bounded =
      let good = accepted_good c beside told in
      sub_bounded (get_or c.starts (get_or objects (length objects - 1) 0) nan) (get_or c.starts (get_or objects 0 0) nan) (2 ^ 24) (2 ^ 24) (lit≤ tt)
      (start_bounded good (get_or objects (length objects - 1) 0) (object-inside (length objects - 1) (omega (arith, has_object))))
      (start_bounded good (get_or objects 0 0) (object-inside 0 has_object))

  -- 2 ^ 26 + 1 at most in size, so finite
  pub record_penalty_bounded : (window : Float) → window_good window ≡ true
      → Bounded (record_at s c.kinds c.starts c.deltas g window).penalty (2 ^ 26 + 1)
  unfolding record_at window_good objects
  record_penalty_bounded window w =
      let r = within_ends one64 thousand64 window (rw w tt) in
      penalty.penalty_bounded s.threshold (owns_at s.margin c.kinds c.deltas g) (length objects) (duration_of c.starts objects) window
      duration_bounded (penalty.window_at_least window r.0 r.1)

  pub penalty_no_nan : (window : Float) → window_good window ≡ true → T (not (is_nan (record_at s c.kinds c.starts c.deltas g window).penalty))
  unfolding record_at window_good objects
  penalty_no_nan window w =
      let r = within_ends one64 thousand64 window (rw w tt) in
      penalty.penalty_no_nan s.threshold (owns_at s.margin c.kinds c.deltas g) (length objects) (duration_of c.starts objects) window
      duration_bounded r.0 r.1
