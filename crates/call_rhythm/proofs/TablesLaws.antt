-- The three passes over a chart's notes and groups, one after the other: each leaves the regions of those before it, so that at the end each note's group
-- and each group's pattern are there.
use mathlib.Core.Path.{◌≡◌, refl, sym, ap, ◌∙◌}
use mathlib.Core.List.{List, [], ◌∷◌}
use Prim.Native.Nat.{ℕ, ◌*◌, ◌≤◌, ◌<◌}
use native.Mathlib.Omega.{arith}
use lib.ListN.{length, take, drop, get_or}
use lib.Seq.{length-take-le}
use lib.Ieee.{Float}
use Rattle.lent.specs.Over.{over, put, part, write, written}
use Rattle.grouping_marks.specs.Marks.{group_count, group_numbers}
use Rattle.grouping_marks.specs.Parted.{parted}
use Rattle.lent.proofs.OverLaws.{length-over, front, put_front, length-put, take-put, drop-put, part-put_same, part-put_before, written-append}
use Rattle.grouping_marks.proofs.MarksLaws.{count_le, length-numbers}
use Rattle.grouping_marks.proofs.PartedLaws.{length-parted}
use Rattle.grouping_chart.specs.Chart.{Chart}
use Rattle.grouping_chart.specs.Object.{notes}
use Rattle.grouping_chart.specs.Settings.{Settings}
use Rattle.grouping_chart.proofs.OutcomeLaws.{Accommodated}
use Rattle.grouping_interval.specs.Notes.{note_objects, of_notes}
use Rattle.grouping_chart.proofs.ObjectLaws.{notes-few}
use Rattle.grouping_interval.proofs.NoteLaws.{length_note_objects, length_of_notes, object-below}
use Rattle.grouping_interval.specs.IntervalGrouping.{interval_marks}
use Rattle.grouping_interval.proofs.IntervalLaws.{length_marks}
use Rattle.grouping_interval.specs.passes.Rooms.{NotesListed}
use Rattle.grouping_same_rhythm.specs.SameRhythm.{firsts_of, starts_of, rhythm_marks, group_objects, group_intervals}
use Rattle.grouping_same_rhythm.proofs.MadeLaws.{rhythm_marks_made, group_objects_made, group_intervals_made}
use Rattle.grouping_same_rhythm.proofs.GroupsLaws.{length-starts, length-intervals, length-firsts, firsts-inside}
use Rattle.call_rhythm.specs.Rhythm.{groups_in, pattern_groups_in, counts_of}
use Rattle.call_rhythm.specs.passes.Tables.{NumbersRoom, numbers_writes, FirstsThere, intervals_from, patterns_from, TablesRoom}
use Rattle.call_rhythm.specs.passes.Tables.{notes_writes, work_writes, scratch_writes}
use Rattle.call_rhythm.specs.declared.tables.GroupCounts.{GroupCounts}
use Rattle.lent.proofs.WrittenLaws.{Ends, length-written, drop-written}
use Rattle.call_rhythm.proofs.RegionLaws.{length-group-numbers}

-- an accepted call has room for the tables
pub accepted-tables : {s : Settings} {c : Chart} {answers : List ℕ} (work : List ℕ) (scratch : List Float)
    → Accommodated s c answers (length work) (length scratch) → TablesRoom c.kinds c.starts c.deltas work scratch
accepted-tables work scratch r =
    let good = r.chart in
    record { few = good.few; started = good.lengths.start; whole = good.lengths.delta; regions = r.regions; floats = r.floats }

-- ---- how many there are

module _ (margin : Float) (kinds : List ℕ) (deltas : List Float) (e : length deltas ≡ length kinds) where
  pub length-rhythm_marks : length (rhythm_marks margin kinds deltas) ≡ length (notes kinds)
  length-rhythm_marks = ap length (rhythm_marks_made margin kinds deltas) ∙ length_marks margin (of_notes kinds deltas) ∙ length_of_notes kinds deltas e

  -- at most as many groups as notes
  pub groups-few : groups_in margin kinds deltas ≤ length (notes kinds)
  unfolding groups_in
  groups-few = omega (arith, count_le (rhythm_marks margin kinds deltas), length-rhythm_marks)

  -- by the notes' deltas
  pub groups-counted : groups_in margin kinds deltas ≡ group_count (interval_marks margin (of_notes kinds deltas))
  unfolding groups_in
  groups-counted = ap group_count (rhythm_marks_made margin kinds deltas)

  -- a first object for each group, one of the chart's
  pub length_first_objects : length (firsts_of (group_objects margin kinds deltas)) ≡ groups_in margin kinds deltas
  unfolding groups_in
  length_first_objects =
      rw (group_objects_made margin kinds deltas) (length-firsts (parted (rhythm_marks margin kinds deltas) (note_objects kinds))
      ∙ length-parted (rhythm_marks margin kinds deltas) (note_objects kinds) (omega (arith, length-rhythm_marks, length_note_objects kinds)))

  pub first_object-below : (k : ℕ) → k < length (firsts_of (group_objects margin kinds deltas))
      → get_or (firsts_of (group_objects margin kinds deltas)) k 0 < length kinds
  first_object-below =
      rw (group_objects_made margin kinds deltas)
      (firsts-inside (length kinds) (rhythm_marks margin kinds deltas) (note_objects kinds) (object-below kinds))

  pub length-group-intervals : (starts : List Float) → length (group_intervals margin kinds starts deltas) ≡ groups_in margin kinds deltas
  length-group-intervals starts =
      ap length (group_intervals_made margin kinds deltas starts)
      ∙ length-intervals margin (starts_of starts (firsts_of (group_objects margin kinds deltas)))
      ∙ length-starts starts (firsts_of (group_objects margin kinds deltas))
      ∙ length_first_objects

-- ---- what the passes leave: they write inside the regions, and what is read later stands there

-- the notes listed and numbered
pub record NotesLeft (margin : Float) (kinds : List ℕ) (deltas : List Float) (work₀ work : List ℕ) : Type 0 where
  pub objects : take (length (notes kinds)) work ≡ note_objects kinds
  pub firsts : part (length kinds) (groups_in margin kinds deltas) work ≡ firsts_of (group_objects margin kinds deltas)
  pub note_groups_lem : part (2 * length kinds) (length (notes kinds)) work ≡ group_numbers (rhythm_marks margin kinds deltas)
  pub regions : length work ≡ length work₀
  pub past : drop (8 * length kinds) work ≡ drop (8 * length kinds) work₀

-- and the groups numbered
pub record TablesLeft (margin : Float) (kinds : List ℕ) (starts deltas : List Float) (work₀ work : List ℕ) (scratch₀ scratch : List Float)
    : Type 0 where
  pub note_groups_lem : part (2 * length kinds) (length (notes kinds)) work ≡ group_numbers (rhythm_marks margin kinds deltas)
  pub group-patterns : part (3 * length kinds) (groups_in margin kinds deltas) work
      ≡ group_numbers (interval_marks margin (group_intervals margin kinds starts deltas))
  pub regions : length work ≡ length work₀
  pub past : drop (8 * length kinds) work ≡ drop (8 * length kinds) work₀
  pub past_floats : drop (length kinds) scratch ≡ drop (length kinds) scratch₀

module _ {kinds : List ℕ} {starts deltas : List Float} {work₀ : List ℕ} {scratch₀ : List Float} (r : TablesRoom kinds starts deltas work₀ scratch₀) where
  module _ (margin : Float) where
    length_note_groups : length (group_numbers (rhythm_marks margin kinds deltas)) ≡ length (notes kinds)
    length_note_groups = length-numbers (rhythm_marks margin kinds deltas) ∙ length-rhythm_marks margin kinds deltas r.whole

    length-group-patterns : length (group_numbers (interval_marks margin (group_intervals margin kinds starts deltas))) ≡ groups_in margin kinds deltas
    length-group-patterns =
        length-group-numbers margin (group_intervals margin kinds starts deltas) ∙ length-group-intervals margin kinds deltas r.whole starts

  pub notes_left : {margin : Float} {work : List ℕ} → work ≡ written (notes_writes margin kinds deltas) work₀ → NotesLeft margin kinds deltas work₀ work
  unfolding notes_writes
  notes_left {margin} w =
      let n : ℕ = length kinds in
      let m : ℕ = length (notes kinds) in
      let groups : ℕ = groups_in margin kinds deltas in
      let firsts : List ℕ = firsts_of (group_objects margin kinds deltas) in
      let numbers : List ℕ = group_numbers (rhythm_marks margin kinds deltas) in
      let lo : length (note_objects kinds) ≡ m = length_note_objects kinds in
      let lf : length firsts ≡ groups = length_first_objects margin kinds deltas r.whole in
      let ln : length numbers ≡ m = length_note_groups margin in
      let few : groups ≤ m = groups-few margin kinds deltas r.whole in
      let most : m ≤ n = notes-few kinds in
      let room : 8 * n ≤ length work₀ = r.regions in
      let work₁ : List ℕ = put 0 (note_objects kinds) work₀ in
      let work₂ : List ℕ = put n firsts work₁ in
      let l₁ : length work₁ ≡ length work₀ = length-put 0 (note_objects kinds) work₀ (omega arith) in
      let l₂ : length work₂ ≡ length work₀ = length-put n firsts work₁ (omega arith) ∙ l₁ in
      let inside : Ends (8 * n) (notes_writes margin kinds deltas) = (omega arith, (omega arith, (omega arith, tt))) in
      record {
        objects =
            ap (take m) w
            ∙ take-put m (2 * n) numbers work₂ (omega arith) (omega arith)
            ∙ take-put m n firsts work₁ (omega arith) (omega arith)
            ∙ ap (take m) (put_front (note_objects kinds) work₀)
            ∙ front (note_objects kinds) work₀ m lo;
        firsts =
            ap (part n groups) w
            ∙ part-put_before n groups (2 * n) numbers work₂ (omega arith) (omega arith)
            ∙ part-put_same n groups firsts work₁ lf (omega arith);
        note_groups_lem = ap (part (2 * n) m) w ∙ part-put_same (2 * n) m numbers work₂ ln (omega arith);
        regions = ap length w ∙ length-written (8 * n) (notes_writes margin kinds deltas) inside work₀ room;
        past = ap (drop (8 * n)) w ∙ drop-written (8 * n) (notes_writes margin kinds deltas) inside work₀;
      }

  pub tables_left : {margin : Float} {work : List ℕ} {scratch : List Float} → work ≡ written (work_writes margin kinds starts deltas) work₀
      → scratch ≡ written (scratch_writes margin kinds starts deltas) scratch₀ → TablesLeft margin kinds starts deltas work₀ work scratch₀ scratch
  unfolding work_writes scratch_writes
  tables_left {margin} {work} w f =
      let n : ℕ = length kinds in
      let m : ℕ = length (notes kinds) in
      let groups : ℕ = groups_in margin kinds deltas in
      let patterns : List ℕ = group_numbers (interval_marks margin (group_intervals margin kinds starts deltas)) in
      let work₁ : List ℕ = written (notes_writes margin kinds deltas) work₀ in
      let notes : NotesLeft margin kinds deltas work₀ work₁ = notes_left refl in
      let p : work ≡ put (3 * n) patterns work₁ = w ∙ written-append (notes_writes margin kinds deltas) (write (3 * n) patterns ∷ []) work₀ in
      let lp : length patterns ≡ groups = length-group-patterns margin in
      let lv : length (group_intervals margin kinds starts deltas) ≡ groups = length-group-intervals margin kinds deltas r.whole starts in
      let ld : length (of_notes kinds deltas) ≡ m = length_of_notes kinds deltas r.whole in
      let few : groups ≤ m = groups-few margin kinds deltas r.whole in
      let most : m ≤ n = notes-few kinds in
      let room : 8 * n ≤ length work₁ = omega (arith, notes.regions, r.regions) in
      record {
        note_groups_lem = ap (part (2 * n) m) p ∙ part-put_before (2 * n) m (3 * n) patterns work₁ (omega arith) (omega arith) ∙ notes.note_groups_lem;
        group-patterns = ap (part (3 * n) groups) p ∙ part-put_same (3 * n) groups patterns work₁ lp (omega arith);
        regions = ap length p ∙ length-put (3 * n) patterns work₁ (omega arith) ∙ notes.regions;
        past = ap (drop (8 * n)) p ∙ drop-put (8 * n) (3 * n) patterns work₁ (omega arith) ∙ notes.past;
        past_floats = ap (drop n) f ∙ drop-written n (scratch_writes margin kinds starts deltas) (omega arith, (omega arith, tt)) scratch₀;
      }

-- ---- the passes, one after the other

-- once the notes are listed and numbered
pub record Noted (margin : Float) (kinds : List ℕ) (deltas : List Float) (work₀ work : List ℕ) (scratch₀ scratch : List Float) (m groups : ℕ)
    : Type 0 where
  pub noted : m ≡ length (notes kinds)
  pub grouped : groups ≡ groups_in margin kinds deltas
  pub memory : work ≡ written (notes_writes margin kinds deltas) work₀
  pub scratch-memory : scratch ≡ put 0 (of_notes kinds deltas) scratch₀
  pub floats : length scratch ≡ length scratch₀

module _ {kinds : List ℕ} {starts deltas : List Float} {work₀ : List ℕ} {scratch₀ : List Float} (r : TablesRoom kinds starts deltas work₀ scratch₀) where
  module _ {work₁ : List ℕ} {scratch₁ : List Float} {m : ℕ} (l : NotesListed kinds deltas work₀ work₁ scratch₀ scratch₁ m) where
    noted-count : m ≡ length (notes kinds)
    noted-count = l.count ∙ length_note_objects kinds

    deltas_long : length (of_notes kinds deltas) ≡ length (notes kinds)
    deltas_long = length_of_notes kinds deltas r.whole

    floats_same : length scratch₁ ≡ length scratch₀
    floats_same = ap length l.floats ∙ length-over (of_notes kinds deltas) scratch₀ (omega (arith, deltas_long, notes-few kinds, r.floats))

    work_same : length work₁ ≡ length work₀
    work_same = ap length l.numbers ∙ length-over (note_objects kinds) work₀ (omega (arith, length_note_objects kinds, notes-few kinds, r.regions))

    pub notes-lent : m ≤ length scratch₁
    notes-lent = omega (arith, noted-count, notes-few kinds, floats_same, r.floats)

    pub values_are : take m scratch₁ ≡ of_notes kinds deltas
    values_are = ap (take m) l.floats ∙ front (of_notes kinds deltas) scratch₀ m (deltas_long ∙ sym noted-count)

    objects_are : take (length (take m scratch₁)) work₁ ≡ note_objects kinds
    objects_are =
        let k : length (take m scratch₁) ≡ m = length-take-le m scratch₁ notes-lent in
        (λ t. take (k t) (l.numbers t)) ∙ front (note_objects kinds) work₀ m (sym l.count)

    pub numbers_room : NumbersRoom (take m scratch₁) (length kinds) work₁
    numbers_room = record {
      few = r.few;
      notes = omega (arith, length-take-le m scratch₁ notes-lent, noted-count, notes-few kinds);
      regions = omega (arith, work_same, r.regions);
    }

    -- at a margin
    module _ (margin : Float) where
      pub marks_are : interval_marks margin (take m scratch₁) ≡ rhythm_marks margin kinds deltas
      marks_are = ap (interval_marks margin) values_are ∙ sym (rhythm_marks_made margin kinds deltas)

      pub noted : {work : List ℕ} {groups : ℕ} → (groups ≡ group_count (interval_marks margin (take m scratch₁)))
          × (work ≡ written (numbers_writes (length kinds) (interval_marks margin (take m scratch₁)) (take (length (take m scratch₁)) work₁)) work₁)
          → Noted margin kinds deltas work₀ work scratch₀ scratch₁ m groups
      unfolding groups_in notes_writes
      noted a =
          let n : ℕ = length kinds in
          record {
            noted = noted-count;
            grouped = a.0 ∙ ap group_count marks_are;
            memory =
                a.1
                ∙ (λ t. put (2 * n) (group_numbers (marks_are t)) (put n (firsts_of (parted (marks_are t) (objects_are t))) (l.numbers t)))
                ∙ (λ t. put (2 * n) (group_numbers (rhythm_marks margin kinds deltas))
                (put n (firsts_of (sym (group_objects_made margin kinds deltas) t)) (sym (put_front (note_objects kinds) work₀) t)));
            scratch-memory = l.floats ∙ sym (put_front (of_notes kinds deltas) scratch₀);
            floats = floats_same;
          }

  -- the groups numbered
  module _ {margin : Float} {work₁ : List ℕ} {scratch₁ : List Float} {m groups : ℕ} (a : Noted margin kinds deltas work₀ work₁ scratch₀ scratch₁ m groups) where
    firsts_are : part (length kinds) groups work₁ ≡ firsts_of (group_objects margin kinds deltas)
    firsts_are = rw a.grouped (notes_left r a.memory).firsts

    pub firsts_there : FirstsThere starts (length kinds) groups work₁ scratch₁
    firsts_there = record {
      few = r.few;
      most = omega (arith, groups-few margin kinds deltas r.whole, notes-few kinds, a.grouped);
      regions = omega (arith, (notes_left r a.memory).regions, r.regions);
      floats = omega (arith, a.floats, r.floats);
      inside = λ k h.
          let l = length_first_objects margin kinds deltas r.whole in
          rw firsts_are (omega (arith, first_object-below margin kinds deltas r.whole k (omega (arith, l, a.grouped)), r.started));
    }

    -- by the intervals that start at the firsts
    module _ {work : List ℕ} {scratch : List Float} {patterns : ℕ}
        (b : (patterns ≡ group_count (patterns_from margin starts (length kinds) groups work₁))
        × ((work ≡ put (3 * length kinds) (group_numbers (patterns_from margin starts (length kinds) groups work₁)) work₁)
        × (scratch ≡ over (intervals_from margin starts (length kinds) groups work₁) scratch₁))) where
      intervals_are : intervals_from margin starts (length kinds) groups work₁ ≡ group_intervals margin kinds starts deltas
      intervals_are = rw firsts_are (sym (group_intervals_made margin kinds deltas starts))

      pub counts_are : ◌≡◌ {A = GroupCounts} (record { notes = m; groups = groups; patterns = patterns }) (counts_of margin kinds starts deltas)
      unfolding pattern_groups_in
      counts_are =
          let p = rw intervals_are at b.0 in
          λ t. record { notes = a.noted t; groups = a.grouped t; patterns = p t }

      pub work-written : work ≡ written (work_writes margin kinds starts deltas) work₀
      unfolding work_writes
      work-written =
          b.1.0
          ∙ (λ t. put (3 * length kinds) (group_numbers (interval_marks margin (intervals_are t))) (a.memory t))
          ∙ sym (written-append (notes_writes margin kinds deltas) _ work₀)

      pub scratch-written : scratch ≡ written (scratch_writes margin kinds starts deltas) scratch₀
      unfolding scratch_writes
      scratch-written = b.1.1 ∙ sym (put_front _ scratch₁) ∙ (λ t. put 0 (intervals_are t) (a.scratch-memory t))
