-- Notes counted one by one make as many groups as their marks: the groups so far, with the marks of what is pending and of the deltas left, give the groups of
-- all.
use mathlib.Core.Path.{◌≡◌, refl, sym, ap, ◌∙◌}
use mathlib.Core.Bool.{Bool, true, false, cond}
use mathlib.Core.List.{List, [], ◌∷◌}
use Prim.Native.Nat.{ℕ, suc, ◌+◌, ◌≤◌, ◌<◌}
use native.Mathlib.Nat.{add-zero}
use native.Mathlib.Omega.{arith}
use lib.Dec.{ltb}
use lib.ListN.{length, drop, get_or}
use lib.Ieee.{Float, nan}
use Rattle.numeric.specs.Near.{is_near}
use Rattle.lent.specs.Scan.{end_state}
use Rattle.grouping_marks.specs.Marks.{group_count}
use Rattle.lent.proofs.WalkLaws.{after_none, after_first}
use Rattle.grouping_marks.proofs.MarksLaws.{count_none}
use Rattle.grouping_marks.proofs.NumberLaws.{count_from, count_all, count-over, count_same, count_new}
use Rattle.grouping_chart.specs.Object.{is_note}
use Rattle.grouping_interval.specs.Notes.{of_notes}
use Rattle.grouping_interval.proofs.NoteLaws.{of_notes-step, of_notes-over}
use Rattle.grouping_interval.specs.IntervalGrouping.{is_rise, pair_class, last_taken, marks_after, interval_marks}
use Rattle.grouping_interval.proofs.IntervalLaws.{marks_near, marks_rise, marks_neither, marks_one, marks_none, marks_first, length_marks}
use Rattle.grouping_interval.proofs.GroupLaws.{marks_all}
use Rattle.grouping_interval.specs.declared.notes.Counting.{Counting}
use Rattle.grouping_interval.specs.passes.Counting.{counted_first, counted_behind, counted_next, counted_further, counted}
use Rattle.grouping_interval.specs.passes.Counting.{counted_with, groups_counted, groups_in_all}
use Rattle.std.specs.Prelude.{Option, Some, None}

-- ---- the cases of a further note

module _ (margin : Float) (c : Counting) (d : Float) where
  pub counted-open : c.pending ≡ None → record { notes = c.notes + 1; groups = c.groups; last = c.last; pending = Some d } ≡ counted_further margin c d
  unfolding counted_further
  counted-open p = rw p

  pub counted-pending : {next : Float} → c.pending ≡ Some next → counted_behind margin c next d ≡ counted_further margin c d
  unfolding counted_further
  counted-pending p = rw p

module _ (margin : Float) (c : Counting) (next d : Float) where
  pub behind-near : is_near margin next d ≡ true
      → record { notes = c.notes + 1; groups = c.groups; last = next; pending = Some d } ≡ counted_behind margin c next d
  unfolding counted_behind
  behind-near e = rw e

  pub behind_rise : is_near margin next d ≡ false → is_rise margin next d ≡ true
      → record { notes = c.notes + 1; groups = c.groups + 1; last = d; pending = None } ≡ counted_behind margin c next d
  unfolding counted_behind
  behind_rise e r = rw (e, r)

  pub behind_neither : is_near margin next d ≡ false → is_rise margin next d ≡ false
      → record { notes = c.notes + 1; groups = c.groups + 1; last = next; pending = Some d } ≡ counted_behind margin c next d
  unfolding counted_behind
  behind_neither e r = rw (e, r)

-- ---- the cases of what is counted so far

module _ (margin : Float) {s : Option Counting} where
  pub note_first : {r : Counting} (d : Float) → s ≡ None → r ≡ counted_first d → Some r ≡ counted margin s d
  unfolding counted
  note_first d e h = rw (e, h)

  pub note_further : {r c : Counting} (d : Float) → s ≡ Some c → r ≡ counted_further margin c d → Some r ≡ counted margin s d
  unfolding counted
  note_further d e h = rw (e, h)

  pub none_in_all : s ≡ None → 0 ≡ groups_in_all margin s
  unfolding groups_in_all
  none_in_all e = rw e

  pub some_in_all : {c : Counting} → s ≡ Some c → groups_counted margin c ≡ groups_in_all margin s
  unfolding groups_in_all
  some_in_all e = rw e

-- ---- the marks of what is pending and left

-- some note is counted, so some group
abbrev Begun : Counting → Type 0
Begun c = 1 ≤ c.groups

-- what is pending stands before the deltas left
abbrev behind : Option Float → List Float → List Float
behind None ds = ds
behind (Some next) ds = next ∷ ds

-- counting on over the deltas left gives what their marks give
abbrev Meets : Float → Counting → List Float → Type 0
Meets margin c ds =
    groups_in_all margin (end_state (counted margin) (Some c) ds)
    ≡ count_from c.groups (marks_after (pair_class margin) (ltb 2 (c.notes + length ds)) c.last (behind c.pending ds))

meets_none : (margin : Float) (c : Counting) → Begun c → Meets margin c []
unfolding groups_in_all groups_counted
meets_none margin c h = rw (after_none (counted margin) (Some c), add-zero c.notes) (by c.pending)
  where
    last_by : (b : Bool) → cond b c.groups (c.groups + 1) ≡ count_from c.groups (cond b 0 1 ∷ [])
    last_by true = sym (count_same c.groups [] h ∙ count-over c.groups)
    last_by false = sym (count_new c.groups [] ∙ count-over (c.groups + 1))

    by : (p : Option Float) → counted_with margin c p ≡ count_from c.groups (marks_after (pair_class margin) (ltb 2 c.notes) c.last (behind p []))
    by (Some next) =
        let many : Bool = ltb 2 c.notes in
        last_by (last_taken many (pair_class margin c.last next)) ∙ ap (count_from c.groups) (sym (marks_one (pair_class margin) many c.last next))
    by None = sym (ap (count_from c.groups) (marks_none (pair_class margin) (ltb 2 c.notes) c.last) ∙ count-over c.groups)

module _ (margin : Float) (c : Counting) (d : Float) (ds : List Float) (h : Begun c) (u : (c' : Counting) → Begun c' → Meets margin c' ds) where
  many : Bool
  many = ltb 2 (c.notes + 1 + length ds)

  -- one note more
  meets_on : (c' : Counting) → c' ≡ counted_further margin c d → Begun c'
      → count_from c.groups (marks_after (pair_class margin) many c.last (behind c.pending (d ∷ ds)))
      ≡ count_from c'.groups (marks_after (pair_class margin) (ltb 2 (c'.notes + length ds)) c'.last (behind c'.pending ds))
      → Meets margin c (d ∷ ds)
  unfolding many counted
  meets_on c' e b k =
      let n : c.notes + 1 + length ds ≡ c.notes + suc (length ds) = omega arith in
      ap (groups_in_all margin) (after_first (counted margin) (Some c) d ds)
      ∙ ap (λ (x : Counting). groups_in_all margin (end_state (counted margin) (Some x) ds)) (sym e)
      ∙ u c' b
      ∙ sym k
      ∙ ap (λ (n : ℕ). count_from c.groups (marks_after (pair_class margin) (ltb 2 n) c.last (behind c.pending (d ∷ ds)))) n

  meets_open : c.pending ≡ None → Meets margin c (d ∷ ds)
  unfolding many
  meets_open p = meets_on _ (counted-open margin c d p) h (rw p)

  meets_behind : (next : Float) → c.pending ≡ Some next → (n r : Bool) → is_near margin next d ≡ n → is_rise margin next d ≡ r → Meets margin c (d ∷ ds)
  unfolding many
  meets_behind next p true r e f =
      meets_on _ (behind-near margin c next d e ∙ counted-pending margin c d p)
      h
      (rw p (ap (count_from c.groups) (marks_near margin many c.last next d ds e) ∙ count_same c.groups _ h))
  meets_behind next p false true e f =
      meets_on _ (behind_rise margin c next d e f ∙ counted-pending margin c d p)
      (omega arith)
      (rw p
      (ap (count_from c.groups) (marks_rise margin many c.last next d ds e f)
      ∙ count_same c.groups _ h
      ∙ count_new c.groups _))
  meets_behind next p false false e f =
      meets_on _ (behind_neither margin c next d e f ∙ counted-pending margin c d p)
      (omega arith)
      (rw p (ap (count_from c.groups) (marks_neither margin many c.last next d ds e f) ∙ count_new c.groups _))

  meets_more : (p : Option Float) → c.pending ≡ p → Meets margin c (d ∷ ds)
  meets_more None p = meets_open p
  meets_more (Some next) p = meets_behind next p (is_near margin next d) (is_rise margin next d) refl refl

meets : (margin : Float) (c : Counting) (ds : List Float) → Begun c → Meets margin c ds
meets margin c [] h = meets_none margin c h
meets margin c (d ∷ ds) h = meets_more margin c d ds h (λ c' b. meets margin c' ds b) c.pending refl

-- all the notes, counted from none
pub counted_all : (margin : Float) (ds : List Float) → groups_in_all margin (end_state (counted margin) None ds) ≡ group_count (interval_marks margin ds)
unfolding groups_in_all counted counted_first
counted_all margin [] =
    ap (groups_in_all margin) (after_none (counted margin) None) ∙ sym (count_none (interval_marks margin []) (length_marks margin []))
counted_all margin (d ∷ ds) =
    let one : 1 + length ds ≡ suc (length ds) = omega arith in
    ap (groups_in_all margin) (after_first (counted margin) None d ds)
    ∙ meets margin (counted_first d) ds (omega arith)
    ∙ ap (λ (n : ℕ). count_from 1 (marks_after (pair_class margin) (ltb 2 n) d ds)) one
    ∙ sym (count_new 0 (marks_after (pair_class margin) (ltb 2 (suc (length ds))) d ds))
    ∙ ap (count_from 0) (sym (marks_all margin (d ∷ ds) ∙ marks_first (pair_class margin) (ltb 2 (suc (length ds))) d ds))
    ∙ sym (count_all (interval_marks margin (d ∷ ds)))

-- ---- the loop of `count_groups`

-- a further note makes one group more at the most
record Grown (c c' : Counting) : Type 0 where
  notes : c'.notes ≤ c.notes + 1
  groups : c'.groups ≤ c'.notes

further_grows : (margin : Float) (c : Counting) (d : Float) → c.groups ≤ c.notes → Grown c (counted_further margin c d)
unfolding counted_further
further_grows margin c d h = by c.pending
  where
    behind_grows : (next : Float) (n r : Bool) → is_near margin next d ≡ n → is_rise margin next d ≡ r → Grown c (counted_behind margin c next d)
    behind_grows next true r e f = rw (← behind-near margin c next d e) (record { notes = omega arith; groups = omega arith })
    behind_grows next false true e f = rw (← behind_rise margin c next d e f) (record { notes = omega arith; groups = omega arith })
    behind_grows next false false e f = rw (← behind_neither margin c next d e f) (record { notes = omega arith; groups = omega arith })

    by : (p : Option Float) → Grown c (counted_next margin c p d)
    by None = record { notes = omega arith; groups = omega arith }
    by (Some next) = behind_grows next (is_near margin next d) (is_rise margin next d) refl refl

-- of the first i objects at most i are notes
pub record Few (c : Counting) (i : ℕ) : Type 0 where
  pub groups_le : c.groups ≤ c.notes
  pub notes_le : c.notes ≤ i

abbrev pub FewOf : Option Counting → ℕ → Type 0
FewOf None i = Unit {0}
FewOf (Some c) i = Few c i

-- the notes left, counted on from s, give what all of them give
pub record Counts (margin : Float) (ks : List ℕ) (ds : List Float) (s : Option Counting) (i : ℕ) : Type 0 where
  pub whole : length ds ≡ length ks
  pub left : end_state (counted margin) s (of_notes (drop i ks) (drop i ds)) ≡ end_state (counted margin) None (of_notes ks ds)
  pub few : FewOf s i
  pub upto : i ≤ length ks

more_few : (margin : Float) (s : Option Counting) (d : Float) (i : ℕ) → FewOf s i → FewOf (counted margin s d) (i + 1)
unfolding counted counted_first
more_few margin None d i f = record { groups_le = omega arith; notes_le = omega arith }
more_few margin (Some c) d i f =
    let g : Grown c (counted_further margin c d) = further_grows margin c d f.groups_le in
    record { groups_le = omega (arith, g); notes_le = omega (arith, g, f) }

later_few : (s : Option Counting) (i : ℕ) → FewOf s i → FewOf s (i + 1)
later_few None i f = _
later_few (Some c) i f = record { groups_le = f.groups_le; notes_le = omega (arith, f) }

module _ {margin : Float} {ks : List ℕ} {ds : List Float} {s : Option Counting} {i : ℕ} (x : Counts margin ks ds s i) where
  pub counts_note : (r : Option Counting) → i < length ks → is_note (get_or ks i 0) ≡ true → r ≡ counted margin s (get_or ds i nan)
      → Counts margin ks ds r (i + 1)
  counts_note r h n e = record {
    whole = x.whole;
    left =
        rw e
        (sym (ap (end_state (counted margin) s) (of_notes-step ks i true ds h x.whole n) ∙ after_first (counted margin) s (get_or ds i nan) _)
        ∙ x.left);
    few = rw e (more_few margin s (get_or ds i nan) i x.few);
    upto = omega arith;
  }

  pub counts_pass : i < length ks → is_note (get_or ks i 0) ≡ false → Counts margin ks ds s (i + 1)
  counts_pass h n = record {
    whole = x.whole;
    left = sym (ap (end_state (counted margin) s) (of_notes-step ks i false ds h x.whole n)) ∙ x.left;
    few = later_few s i x.few;
    upto = omega arith;
  }

  pub counts-end : length ks ≤ i → groups_in_all margin s ≡ group_count (interval_marks margin (of_notes ks ds))
  counts-end h =
      let e : s ≡ end_state (counted margin) None (of_notes ks ds) =
      sym (ap (end_state (counted margin) s) (of_notes-over ks i ds h) ∙ after_none (counted margin) s) ∙ x.left in
      ap (groups_in_all margin) e ∙ counted_all margin (of_notes ks ds)

-- what the search of `count_groups` is given
pub ruleset counting = (none_in_all, some_in_all, counts-end)
