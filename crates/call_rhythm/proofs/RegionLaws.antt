-- The two passes over regions of the work slice: of the notes the marks, then the firsts by them, then the numbers in the marks' places; of the groups what is
-- lent of the work slice, written whole and put back.
use mathlib.Core.Path.{◌≡◌, refl, sym, ap, ◌∙◌}
use mathlib.Core.List.{List, [], ◌∷◌, ◌++◌}
use Prim.Native.Nat.{ℕ, ◌+◌, ◌-◌, ◌*◌, ◌≤◌}
use native.Mathlib.Omega.{arith}
use lib.ListN.{length, take, drop, get_or, take-append-drop}
use lib.Seq.{length-take-le, drop-drop, take-take}
use lib.Ieee.{Float}
use Rattle.lent.specs.Over.{over, put, part, written}
use Rattle.grouping_marks.specs.Marks.{group_count, group_numbers, group_firsts}
use Rattle.grouping_marks.specs.Parted.{parted}
use Rattle.lent.proofs.OverLaws.{length-over, front, length-part, lent-part}
use Rattle.lent.proofs.OverLaws.{take-put, drop-put, part-put_same, part-put_before, put_nothing}
use Rattle.lent.proofs.PieceLaws.{put-back, put_piece, put_piece₂, over_whole, part_then, part_pieces}
use Rattle.grouping_marks.proofs.MarksLaws.{length-numbers, count_le, count_none}
use Rattle.grouping_marks.proofs.MarksLaws.{length-firsts as length-firsts-of}
use Rattle.grouping_marks.proofs.NumberLaws.{number_last}
use Rattle.grouping_interval.specs.IntervalGrouping.{interval_marks}
use Rattle.grouping_interval.specs.GroupByInterval.{GroupedByInterval}
use Rattle.grouping_interval.proofs.IntervalLaws.{length_marks}
use Rattle.grouping_same_rhythm.specs.SameRhythm.{firsts_of, starts_of, intervals_of}
use Rattle.grouping_same_rhythm.specs.passes.Groups.{IntervalsRoom}
use Rattle.grouping_same_rhythm.proofs.GroupsLaws.{length-starts, length-intervals}
use Rattle.grouping_same_rhythm.proofs.FirstLaws.{firsts-parted}
use Rattle.call_rhythm.specs.passes.Tables.{NumbersRoom, numbers_writes, FirstsThere, intervals_from, patterns_from}

-- a group's number for each value
pub length-group-numbers : (margin : Float) (values : List Float) → length (group_numbers (interval_marks margin values)) ≡ length values
length-group-numbers margin values = length-numbers (interval_marks margin values) ∙ length_marks margin values

-- ---- the notes' groups

module _ (margin : Float) (deltas : List Float) (n : ℕ) (work₀ : List ℕ) (r : NumbersRoom deltas n work₀) where
  abbrev marks : List ℕ
  marks = interval_marks margin deltas

  abbrev objects : List ℕ
  objects = take (length deltas) work₀

  abbrev firsts : List ℕ
  firsts = firsts_of (parted marks objects)

  marked_each : length marks ≡ length deltas
  marked_each = length_marks margin deltas

  firsts_long : length firsts ≡ group_count marks
  firsts_long =
      ap length (sym (firsts-parted marks objects))
      ∙ length-firsts-of marks objects (omega (arith, marked_each, length-take-le (length deltas) work₀ (omega (arith, r))))

  firsts-few : length firsts ≤ length deltas
  firsts-few = omega (arith, firsts_long, count_le marks, marked_each)

  -- no notes
  pub notes_none : length deltas ≡ 0 → (0 ≡ group_count marks) × (work₀ ≡ written (numbers_writes n marks objects) work₀)
  notes_none e = (
    sym (count_none marks (marked_each ∙ e)),
    sym (rw (
      nothing (group_numbers marks) (length-group-numbers margin deltas ∙ e),
      put_nothing (2 * n) (put n firsts work₀),
      nothing firsts (firsts_long ∙ count_none marks (marked_each ∙ e)),
    ) (put_nothing n work₀)),
  )
    where
      nothing : (l : List ℕ) → length l ≡ 0 → l ≡ []
      nothing [] h = refl
      nothing (x ∷ l) h = absurd (omega arith)

  -- the marks, put back into region 2
  pub marks_put : {region : List ℕ} → region ≡ over marks (take (2 * n + length deltas - 2 * n) (drop (2 * n) work₀))
      → take (2 * n) work₀ ++ (region ++ drop (2 * n + length deltas - 2 * n) (drop (2 * n) work₀)) ≡ put (2 * n) marks work₀
  marks_put e = put-back (2 * n) (2 * n + length deltas - 2 * n) marks work₀ _ (omega (arith, marked_each)) e

  -- ---- taken apart, with the marks in region 2: the objects, region 1, the marks and what follows
  module _ (work₁ : List ℕ) (marked : work₁ ≡ put (2 * n) marks work₀) (front back : List ℕ) (o : front ≡ take n work₁) (b : back ≡ drop n work₁)
      (region rest : List ℕ) (f : region ≡ take n back) (t : rest ≡ drop n back) where
    front_is : front ≡ take n work₀
    front_is = o ∙ ap (take n) marked ∙ take-put n (2 * n) marks work₀ (omega arith) (omega (arith, r))

    region_is : region ≡ part n n work₀
    region_is = rw (f, b, part_pieces, marked) (part-put_before n n (2 * n) marks work₀ (omega arith) (omega (arith, r)))

    rest_is : rest ≡ drop (2 * n) work₁
    rest_is = let k : n + n ≡ 2 * n = omega arith in rw (t, b, drop-drop, k)

    pub marks_are : take (length deltas) rest ≡ marks
    marks_are = rw (rest_is, part_pieces, marked) (part-put_same (2 * n) (length deltas) marks work₀ marked_each (omega (arith, r)))

    behind_is : drop (length deltas) rest ≡ drop (2 * n + length deltas) work₀
    behind_is = rw (rest_is, drop-drop, marked) (drop-put (2 * n + length deltas) (2 * n) marks work₀ (omega (arith, marked_each)))

    pub objects_are : take (length deltas) front ≡ objects
    objects_are = rw (front_is, take-take (length deltas) n work₀ (omega (arith, r)))

    -- ---- the firsts are listed in region 1, and the numbers are in the marks' places
    module _ (firsts₁ : List ℕ) (listed : firsts₁ ≡ over (group_firsts (take (length deltas) rest) (take (length deltas) front)) region) (numbers : List ℕ)
        (counted : numbers ≡ group_numbers (take (length deltas) rest)) where
      numbers_are : numbers ≡ group_numbers marks
      numbers_are = rw marks_are at counted

      firsts_are : firsts₁ ≡ over firsts (part n n work₀)
      firsts_are = rw (marks_are, objects_are, firsts-parted marks objects, region_is) at listed

      -- the work slice as it was, in the same pieces
      whole : work₀ ≡ take n work₀ ++ (part n n work₀ ++ (part (2 * n) (length deltas) work₀ ++ drop (2 * n + length deltas) work₀))
      whole =
          let k : n + n ≡ 2 * n = omega arith in
          let second : part n n work₀ ++ drop (2 * n) work₀ ≡ drop n work₀ = rw (← k) (part_then n n work₀) in
          rw (part_then (2 * n) (length deltas) work₀, second) (sym (take-append-drop n work₀))

      written_is : front ++ (firsts₁ ++ (numbers ++ drop (length deltas) rest)) ≡ written (numbers_writes n marks objects) work₀
      written_is =
          let fits : length firsts ≤ length (part n n work₀) = omega (arith, firsts-few, length-part n n work₀ (omega (arith, r)), r) in
          let each : length (group_numbers marks) ≡ length (part (2 * n) (length deltas) work₀) =
          length-group-numbers margin deltas ∙ sym (length-part (2 * n) (length deltas) work₀ (omega (arith, r))) in
          let two : length (take n work₀) + length (over firsts (part n n work₀)) ≡ 2 * n =
          omega (arith, length-take-le n work₀ (omega (arith, r)), length-over firsts (part n n work₀) fits, length-part n n work₀ (omega (arith, r))) in
          rw (front_is, firsts_are, numbers_are, behind_is)
          (sym (ap (λ (w : List ℕ). put (2 * n) (group_numbers marks) (put n firsts w)) whole
          ∙ ap (put (2 * n) (group_numbers marks)) (put_piece n _ _ _ firsts (length-take-le n work₀ (omega (arith, r))) fits)
          ∙ put_piece₂ (2 * n) _ _ _ _ (group_numbers marks) two (omega (arith, each))
          ∙ ap (λ (l : List ℕ). take n work₀ ++ (over firsts (part n n work₀) ++ (l ++ drop (2 * n + length deltas) work₀)))
          (over_whole (group_numbers marks) _ each)))

      -- the last number is one less than the count
      pub notes_numbered : (k : ℕ) → (length deltas ≡ 0 → ⊥) → k ≡ get_or numbers (length deltas - 1) 0
          → (k + 1 ≡ group_count marks) × (front ++ (firsts₁ ++ (numbers ++ drop (length deltas) rest)) ≡ written (numbers_writes n marks objects) work₀)
      notes_numbered k some e =
          let i : ℕ = length deltas - 1 in
          (rw (e, numbers_are) (number_last marks i (omega (arith, marked_each))), written_is)

-- ---- the groups' patterns

module _ {starts : List Float} {n groups : ℕ} {work : List ℕ} {scratch₀ : List Float} (r : FirstsThere starts n groups work scratch₀) where
  length-firsts : length (part n groups work) ≡ groups
  length-firsts = length-part n groups work (omega (arith, r.most, r.regions))

  pub intervals_room : IntervalsRoom starts (take (n + groups - n) (drop n work)) scratch₀
  intervals_room =
      rw (lent-part n groups work)
      (record { room = omega (arith, length-firsts, r.most, r.floats); inside = λ k h. r.inside k (omega (arith, length-firsts)) })

  -- ---- by the intervals, at a margin
  module _ (margin : Float) where
    abbrev intervals : List Float
    intervals = intervals_from margin starts n groups work

    length_all : length intervals ≡ groups
    length_all = length-intervals margin (starts_of starts (part n groups work)) ∙ length-starts starts (part n groups work) ∙ length-firsts

    module _ {scratch : List Float} (f : scratch ≡ over (intervals_of margin (starts_of starts (take (n + groups - n) (drop n work)))) scratch₀) where
      filled : scratch ≡ over intervals scratch₀
      filled = rw (lent-part n groups work) at f

      values_are : take groups scratch ≡ intervals
      values_are = ap (take groups) filled ∙ front intervals scratch₀ groups length_all

      pub values-lent : groups ≤ length scratch
      values-lent = omega (arith, ap length filled, length-over intervals scratch₀ (omega (arith, length_all, r.most, r.floats)), r.most, r.floats)

      pub groups_numbered : (region : List ℕ) (count : ℕ)
          → GroupedByInterval margin (take groups scratch) (take (3 * n + groups - 3 * n) (drop (3 * n) work)) region count
          → (count ≡ group_count (patterns_from margin starts n groups work))
          × ((take (3 * n) work ++ (region ++ drop (3 * n + groups - 3 * n) (drop (3 * n) work))
          ≡ put (3 * n) (group_numbers (patterns_from margin starts n groups work)) work)
          × (scratch ≡ over intervals scratch₀))
      groups_numbered region count g =
          let k : length (group_numbers (interval_marks margin (take groups scratch))) ≡ 3 * n + groups - 3 * n =
          omega (arith, length-group-numbers margin (take groups scratch), length-take-le groups scratch values-lent) in
          let tables = put-back (3 * n) (3 * n + groups - 3 * n) _ work region k g.numbers in
          (rw values_are at g.count, (rw values_are at tables, filled))
