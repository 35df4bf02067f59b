-- The answers, object by object, from the tables: the table of the notes' groups as it stands, and then each of its numbers looked up in that of the groups'
-- patterns.
use mathlib.Core.Path.{◌≡◌, refl, sym, ap, ◌∙◌}
use mathlib.Core.List.{List, ◌++◌, append_assoc}
use Prim.Native.Nat.{ℕ, ◌+◌, ◌-◌, ◌*◌, ◌≤◌}
use native.Mathlib.Omega.{arith}
use lib.ListN.{length, take, drop, replicate, length-replicate, length-drop, take-append-drop}
use lib.Seq.{length-take-le, take-append-le, drop-append-le}
use Rattle.std.proofs.lemmas.List.{drop-take, take-take}
use lib.Ieee.{Float, binary64, of_bits}
use Rattle.lent.specs.Over.{over, put, part, written}
use Rattle.lent.specs.Scan.{gathered}
use Rattle.grouping_marks.specs.Marks.{group_count, group_numbers}
use Rattle.lent.proofs.OverLaws.{length-part, drop-put, lent-part, over-agree}
use Rattle.lent.specs.passes.Bounds.{AllBelow}
use Rattle.lent.proofs.PieceLaws.{part_pieces, put_pieces}
use Rattle.lent.proofs.FillLaws.{length-gathered, get_or-gathered}
use Rattle.grouping_marks.proofs.MarksLaws.{length-numbers, numbers-below}
use Rattle.grouping_chart.specs.Object.{notes}
use Rattle.grouping_chart.specs.Settings.{Settings}
use Rattle.grouping_chart.proofs.ObjectLaws.{notes-few}
use Rattle.grouping_interval.specs.IntervalGrouping.{interval_marks}
use Rattle.grouping_same_rhythm.specs.SameRhythm.{rhythm_marks, group_intervals}
use Rattle.grouping_same_rhythm.proofs.MadeLaws.{pattern_number_made}
use Rattle.call_rhythm.specs.declared.tables.GroupCounts.{GroupCounts}
use Rattle.call_rhythm.specs.Rhythm.{note_group, group_of, pattern_group_of, groups_in, counts_of}
use Rattle.call_rhythm.specs.Call.{Memory, memory, filled}
use Rattle.call_rhythm.specs.passes.Tables.{work_writes, scratch_writes, GroupsRoom, by_object, note_groups, note_patterns, TablesThere}
use Rattle.call_rhythm.proofs.PerNoteLaws.{per_note_ext}
use Rattle.call_rhythm.proofs.TablesLaws.{length-rhythm_marks, groups-few, TablesLeft, tables_left}

-- what is put into the first of two pieces is put into both
put-append : (a : ℕ) (x u v : List ℕ) → a + length x ≤ length u → put a x u ++ v ≡ put a x (u ++ v)
put-append a x u v h =
    let p : put a x u ≡ take a u ++ (x ++ drop (length x) (drop a u)) = sym (put_pieces a (length x) x u refl) in
    let q : put a x (u ++ v) ≡ take a (u ++ v) ++ (x ++ drop (length x) (drop a (u ++ v))) = sym (put_pieces a (length x) x (u ++ v) refl) in
    let d : length x ≤ length (drop a u) = omega (arith, length-drop a u) in
    rw (p, q, take-append-le a u v (omega arith), drop-append-le a u v (omega arith), drop-append-le (length x) (drop a u) v d, append_assoc, append_assoc)

-- ---- from the tables to the answers

module _ {kinds : List ℕ} {k : GroupCounts} {work group₀ pattern₀ : List ℕ} (r : TablesThere kinds k work group₀ pattern₀) where
  pub notes-most : k.notes ≤ length kinds
  notes-most = omega (arith, r.noted, notes-few kinds)

  -- a region of the front is lent to be written, and what is behind it to be read
  module _ {front patterns : List ℕ} (f : front ≡ take (3 * length kinds) work) (b : patterns ≡ drop (3 * length kinds) work) where
    -- the groups, as lent
    pub groups-lent : take (2 * length kinds + k.notes - 2 * length kinds) (drop (2 * length kinds) front) ≡ note_groups kinds k work
    groups-lent =
        let e : 3 * length kinds ≡ 2 * length kinds + length kinds = omega arith in
        let h : 2 * length kinds + k.notes - 2 * length kinds ≤ length kinds = omega (arith, notes-most) in
        rw (f, e, drop-take, take-take _ _ _ h) (lent-part (2 * length kinds) k.notes work)

    -- the patterns' table, as lent
    pub table-lent : take k.groups patterns ≡ part (3 * length kinds) k.groups work
    table-lent = rw b (part_pieces (3 * length kinds) k.groups work)

    groups-long : length (note_groups kinds k work) ≡ k.notes
    groups-long = length-part (2 * length kinds) k.notes work (omega (arith, notes-most, r.regions))

    pub numbers_below : AllBelow (take (2 * length kinds + k.notes - 2 * length kinds) (drop (2 * length kinds) front)) (length (take k.groups patterns))
    numbers_below =
        let l : length (part (3 * length kinds) k.groups work) ≡ k.groups = length-part (3 * length kinds) k.groups work (omega (arith, r.most, r.regions)) in
        rw (groups-lent, table-lent, l) (λ i h. r.below i (omega (arith, groups-long)))

    module _ {region : List ℕ}
        (e : region ≡ gathered (take k.groups patterns) (take (2 * length kinds + k.notes - 2 * length kinds) (drop (2 * length kinds) front))) where
      -- once they are looked up
      pub region_is : region ≡ note_patterns kinds k work
      region_is = rw (table-lent, groups-lent) at e

      -- and put back
      pub region_back : (take (2 * length kinds)
          front ++ (region ++ drop (2 * length kinds + k.notes - 2 * length kinds) (drop (2 * length kinds) front))) ++ patterns
          ≡ put (2 * length kinds) (note_patterns kinds k work) work
      region_back =
          let n : ℕ = length kinds in
          let l : length region ≡ k.notes = ap length region_is ∙ length-gathered _ _ ∙ groups-long in
          let m : length region ≡ 2 * n + k.notes - 2 * n = omega arith in
          let u : length front ≡ 3 * n = ap length f ∙ length-take-le (3 * n) work (omega (arith, r.regions)) in
          let w : front ++ patterns ≡ work = rw (f, b) (take-append-drop (3 * n) work) in
          ap (λ x. x ++ patterns) (put_pieces (2 * n) (2 * n + k.notes - 2 * n) region front m)
          ∙ put-append (2 * n) region front patterns (omega (arith, notes-most))
          ∙ rw (w, region_is)

-- ---- the answers are the definition's

module _ (s : Settings) {kinds : List ℕ} {starts deltas : List Float} {m : Memory} {k : GroupCounts} {work₁ : List ℕ} {scratch₁ : List Float}
    (r : GroupsRoom kinds starts deltas m) (counts : k ≡ counts_of s.margin kinds starts deltas)
    (w : work₁ ≡ written (work_writes s.margin kinds starts deltas) m.work)
    (f : scratch₁ ≡ written (scratch_writes s.margin kinds starts deltas) m.scratch) where
  left : TablesLeft s.margin kinds starts deltas m.work work₁ m.scratch scratch₁
  left = tables_left r.tables w f

  groups_are : note_groups kinds k work₁ ≡ group_numbers (rhythm_marks s.margin kinds deltas)
  groups_are = rw counts left.note_groups_lem

  patterns_are : part (3 * length kinds) k.groups work₁ ≡ group_numbers (interval_marks s.margin (group_intervals s.margin kinds starts deltas))
  patterns_are = rw counts left.group-patterns

  pub tables_there : TablesThere kinds k work₁ m.group m.pattern
  unfolding groups_in
  tables_there =
      let marks : List ℕ = rhythm_marks s.margin kinds deltas in
      let l : length marks ≡ length (notes kinds) = length-rhythm_marks s.margin kinds deltas r.tables.whole in
      let noted : k.notes ≡ length (notes kinds) = rw counts in
      let grouped : k.groups ≡ group_count marks = rw counts in
      record {
        few = r.tables.few;
        noted = noted;
        most = omega (arith, groups-few s.margin kinds deltas r.tables.whole, notes-few kinds);
        regions = omega (arith, left.regions, r.tables.regions);
        below = λ i h. rw groups_are (omega (arith, numbers-below marks i (omega arith)));
        group_room = r.group_room;
        pattern_room = r.pattern_room;
      }

  -- each note's pattern, by its group
  by_objects : by_object (note_patterns kinds k work₁) kinds ≡ pattern_group_of s.margin kinds starts deltas
  unfolding pattern_group_of note_group
  by_objects =
      let marks : List ℕ = rhythm_marks s.margin kinds deltas in
      let values : List Float = group_intervals s.margin kinds starts deltas in
      (λ t. by_object (gathered (patterns_are t) (groups_are t)) kinds)
      ∙ per_note_ext 65535 _ _ kinds
      (λ j h. get_or-gathered (group_numbers (interval_marks s.margin values)) (group_numbers marks) j
      (omega (arith, length-numbers marks, length-rhythm_marks s.margin kinds deltas r.tables.whole))
      ∙ sym (pattern_number_made s.margin values _))

  pub filled_is : {work₂ work group pattern : List ℕ} {scratch : List Float} → group ≡ over (by_object (note_groups kinds k work₁) kinds) m.group
      → pattern ≡ over (by_object (note_patterns kinds k work₁) kinds) m.pattern → work₂ ≡ put (2 * length kinds) (note_patterns kinds k work₁) work₁
      → work ≡ over (replicate (8 * length kinds) 0) work₂ → scratch ≡ over (replicate (length kinds) (of_bits binary64 0)) scratch₁
      → memory group pattern work scratch ≡ filled s kinds starts deltas m
  unfolding filled group_of note_group
  filled_is {work₂} g p x z q =
      let there = tables_there in
      let n : ℕ = length kinds in
      let l : length (note_patterns kinds k work₁) ≡ k.notes =
      length-gathered _ _ ∙ length-part (2 * n) k.notes work₁ (omega (arith, notes-most there, there.regions)) in
      let past : drop (8 * n) work₂ ≡ drop (8 * n) m.work =
      ap (drop (8 * n)) x ∙ drop-put (8 * n) (2 * n) (note_patterns kinds k work₁) work₁ (omega (arith, notes-most there)) ∙ left.past in
      let groups = rw groups_are at g in
      let patterns = rw by_objects at p in
      let zeros = z ∙ over-agree (replicate (8 * n) 0) work₂ m.work (8 * n) (length-replicate (8 * n) 0) past in
      let floats = q ∙ over-agree (replicate n (of_bits binary64 0)) scratch₁ m.scratch n (length-replicate n (of_bits binary64 0)) left.past_floats in
      λ t. memory (groups t) (patterns t) (zeros t) (floats t)
