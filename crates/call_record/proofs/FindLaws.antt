-- All of a group, over the promises of the passes that find it: the intervals are made from the first objects that lie in region 1 and cover the front of
-- the scratch slice; then both slices are cleared, and what is past the regions is as it was.
use mathlib.Core.Path.{◌≡◌, sym, ap, ◌∙◌}
use mathlib.Core.List.{List, [], ◌∷◌}
use Prim.Native.Nat.{ℕ, ◌+◌, ◌-◌, ◌*◌, ◌≤◌, ◌<◌}
use native.Mathlib.Omega.{arith}
use lib.ListN.{length, take, drop, get_or, replicate, length-replicate}
use lib.Seq.{get_or-take}
use lib.Ieee.{Float, nan, binary64, of_bits}
use Rattle.lent.specs.Over.{over, put, write, written}
use Rattle.lent.proofs.OverLaws.{length-over, front, drop-over, put_front, over-agree, lent-part, written-append}
use Rattle.grouping_chart.specs.Settings.{Settings}
use Rattle.grouping_chart.proofs.ObjectLaws.{notes-few}
use Rattle.grouping_same_rhythm.specs.Own.{ratio_of}
use Rattle.grouping_same_rhythm.specs.SameRhythm.{group_objects, firsts_of, starts_of, intervals_of, group_intervals}
use Rattle.grouping_same_rhythm.specs.SamePatterns.{pattern_of}
use Rattle.grouping_same_rhythm.specs.passes.Groups.{IntervalsRoom}
use Rattle.grouping_same_rhythm.specs.declared.patterns.Pattern.{Pattern}
use Rattle.grouping_same_rhythm.proofs.MadeLaws.{group_intervals_made}
use Rattle.call_rhythm.specs.Rhythm.{groups_in}
use Rattle.call_rhythm.specs.passes.Tables.{TablesRoom, notes_writes}
use Rattle.call_rhythm.proofs.TablesLaws.{groups-few, length_first_objects, length-group-intervals, first_object-below, notes_left}
use Rattle.evaluator_rhythm.specs.RepeatedInterval.{repeated_interval_penalty}
use Rattle.call_record.specs.Record.{record_at}
use Rattle.call_record.specs.Call.{memory, cleared}
use Rattle.call_record.specs.passes.Found.{GroupRoom, located_at, locate_writes, found_at, find_writes}
use Rattle.call_record.specs.declared.GroupRecord.{GroupRecord}
use Rattle.call_record.specs.declared.found.LocatedGroup.{LocatedGroup}
use Rattle.call_record.specs.declared.found.FoundGroup.{FoundGroup}

-- ---- the notes are located: what `locate` asks and promises, and the length of the slice, which it can't change
pub record LocatedIs (margin : Float) (kinds : List ℕ) (starts deltas : List Float) (g : ℕ) (work₀ work : List ℕ) (scratch₀ scratch : List Float)
    (r : LocatedGroup) : Type 0 where
  pub room : GroupRoom margin kinds starts deltas g work₀ scratch₀
  pub at : r ≡ located_at margin kinds starts deltas g
  pub noted : work ≡ written (notes_writes margin kinds deltas) work₀
  pub settled : scratch ≡ written (locate_writes margin kinds deltas g) scratch₀
  pub past : drop (length kinds) scratch ≡ drop (length kinds) scratch₀
  pub same : length scratch ≡ length scratch₀

-- from what `locate` asks and ensures
pub located_is : {margin : Float} {kinds : List ℕ} {starts deltas : List Float} {g : ℕ} {work₀ work : List ℕ} {scratch₀ scratch : List Float}
    {r : LocatedGroup} → GroupRoom margin kinds starts deltas g work₀ scratch₀ → r ≡ located_at margin kinds starts deltas g
    → work ≡ written (notes_writes margin kinds deltas) work₀ → scratch ≡ written (locate_writes margin kinds deltas g) scratch₀
    → drop (length kinds) scratch ≡ drop (length kinds) scratch₀ → length scratch ≡ length scratch₀
    → LocatedIs margin kinds starts deltas g work₀ work scratch₀ scratch r
located_is room at noted settled past same = record { room = room; at = at; noted = noted; settled = settled; past = past; same = same }

module _ {margin : Float} {kinds : List ℕ} {starts deltas : List Float} {g : ℕ} {work₀ work : List ℕ} {scratch₀ scratch₁ : List Float} {r : LocatedGroup}
    (x : LocatedIs margin kinds starts deltas g work₀ work scratch₀ scratch₁ r) where
  tables : TablesRoom kinds starts deltas work₀ scratch₀
  tables = x.room.tables

  groups_are : r.groups ≡ groups_in margin kinds deltas
  groups_are = rw x.at

  few : r.groups ≤ length kinds
  few = omega (arith, groups_are, groups-few margin kinds deltas tables.whole, notes-few kinds)

  pub groups-small : length kinds + r.groups ≤ 32768
  groups-small = omega (arith, few, tables.few)

  pub group-below : g < r.groups
  group-below = omega (arith, groups_are, x.room.there)

  pub region_inside : length kinds + r.groups ≤ length work
  region_inside = omega (arith, few, (notes_left tables x.noted).regions, tables.regions)

  lent : take (length kinds + r.groups - length kinds) (drop (length kinds) work) ≡ firsts_of (group_objects margin kinds deltas)
  lent = lent-part (length kinds) r.groups work ∙ rw groups_are (notes_left tables x.noted).firsts

  pub intervals_room : IntervalsRoom starts (take (length kinds + r.groups - length kinds) (drop (length kinds) work)) scratch₁
  intervals_room =
      rw lent (
      record {
        room = omega (arith, few, length_first_objects margin kinds deltas tables.whole, groups_are, x.same, tables.floats);
        inside = λ k h. omega (arith, first_object-below margin kinds deltas tables.whole k h, tables.started);
      }
      )

  -- ---- and the groups' intervals are filled
  module _ {scratch : List Float}
      (filled : scratch
      ≡ over (intervals_of margin (starts_of starts (take (length kinds + r.groups - length kinds) (drop (length kinds) work)))) scratch₁) where
    abbrev intervals : List Float
    intervals = group_intervals margin kinds starts deltas

    long : length intervals ≡ r.groups
    long = length-group-intervals margin kinds deltas tables.whole starts ∙ sym groups_are

    filled_is : scratch ≡ over intervals scratch₁
    filled_is = rw (lent, ← group_intervals_made margin kinds deltas starts) at filled

    pub intervals-inside : r.groups ≤ length scratch
    intervals-inside =
        omega (arith, few, ap length filled_is, length-over intervals scratch₁ (omega (arith, long, few, x.same, tables.floats)), x.same, tables.floats)

    intervals_front : take r.groups scratch ≡ intervals
    intervals_front = ap (take r.groups) filled_is ∙ front intervals scratch₁ r.groups long

    pub intervals-counted : r.groups ≡ length (take r.groups scratch)
    intervals-counted = sym long ∙ ap length (sym intervals_front)

    pub found : {p : Pattern} → p ≡ pattern_of margin (take r.groups scratch) g
        → ◌≡◌ {A = FoundGroup} (record { located = r; interval = get_or scratch g nan; pattern = p }) (found_at margin kinds starts deltas g)
    found e =
        let interval = rw intervals_front at (sym (get_or-take r.groups scratch g nan group-below)) in
        let pattern = rw intervals_front at e in
        λ t. record { located = x.at t; interval = interval t; pattern = pattern t }

    pub scratch-found : scratch ≡ written (find_writes margin kinds starts deltas g) scratch₀
    unfolding find_writes
    scratch-found =
        filled_is
        ∙ sym (put_front intervals scratch₁)
        ∙ ap (put 0 intervals) x.settled
        ∙ sym (written-append (locate_writes margin kinds deltas g) (write 0 intervals ∷ []) scratch₀)

    pub past_found : drop (length kinds) scratch ≡ drop (length kinds) scratch₀
    past_found = ap (drop (length kinds)) filled_is ∙ drop-over intervals scratch₁ (length kinds) (omega (arith, long, few)) ∙ x.past

-- ---- the group is found, and scored
pub recorded : (s : Settings) (kinds : List ℕ) (starts deltas : List Float) (g : ℕ) (window : Float) {f : FoundGroup}
    {ratio ratio' penalty patternratio : Float}
    → f ≡ found_at s.margin kinds starts deltas g
    → ratio ≡ ratio_of f.located.owns.newest f.located.owns.second
    → ratio' ≡ ratio
    → penalty ≡ repeated_interval_penalty s.threshold f.located.owns f.located.notes f.located.duration window
    → patternratio ≡ f.pattern.ratio
    → ◌≡◌ {A = GroupRecord} (
    record {
      first = f.located.first;
      notes = f.located.notes;
      own = f.located.owns.newest;
      ratio = ratio';
      interval = f.interval;
      penalty = penalty;
      pattern = f.pattern.number;
      patternratio = patternratio;
    }
    ) (record_at s kinds starts deltas g window)
unfolding record_at
recorded s kinds starts deltas g window x r r' p q =
    let ratios = r' ∙ r ∙ (λ t. ratio_of (x t).located.owns.newest (x t).located.owns.second) in
    let penalties = p ∙ (λ t. repeated_interval_penalty s.threshold (x t).located.owns (x t).located.notes (x t).located.duration window) in
    let patterns = q ∙ (λ t. (x t).pattern.ratio) in
    λ t. record {
      first = (x t).located.first;
      notes = (x t).located.notes;
      own = (x t).located.owns.newest;
      ratio = ratios t;
      interval = (x t).interval;
      penalty = penalties t;
      pattern = (x t).pattern.number;
      patternratio = patterns t;
    }

-- and both slices are cleared

pub cleared_is : {margin : Float} {kinds : List ℕ} {starts deltas : List Float} {g : ℕ} {work₀ work₁ work : List ℕ} {scratch₀ scratch : List Float}
    (scratch₁ : List Float)
    → GroupRoom margin kinds starts deltas g work₀ scratch₀
    → work₁ ≡ written (notes_writes margin kinds deltas) work₀
    → drop (length kinds) scratch₁ ≡ drop (length kinds) scratch₀
    → work ≡ over (replicate (8 * length kinds) 0) work₁
    → scratch ≡ over (replicate (length kinds) (of_bits binary64 0)) scratch₁
    → memory work scratch ≡ cleared (length kinds) (memory work₀ scratch₀)
unfolding cleared
cleared_is {kinds = kinds} {work₀ = work₀} {work₁} {scratch₀ = scratch₀} scratch₁ room noted past z f =
    let n : ℕ = length kinds in
    let zeros = z ∙ over-agree (replicate (8 * n) 0) work₁ work₀ (8 * n) (length-replicate (8 * n) 0) (notes_left room.tables noted).past in
    let floats = f ∙ over-agree (replicate n (of_bits binary64 0)) scratch₁ scratch₀ n (length-replicate n (of_bits binary64 0)) past in
    λ t. memory (zeros t) (floats t)
