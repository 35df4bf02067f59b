-- What the call leaves: the notes' objects are listed in front of the work slice and the marks behind them, both within its first 8 n places, which are
-- cleared, so that the rest is as lent.
use mathlib.Core.Path.{◌≡◌, sym, ap, ◌∙◌}
use mathlib.Core.List.{List, ◌++◌}
use Prim.Native.Nat.{ℕ, ◌+◌, ◌*◌, ◌≤◌}
use native.Mathlib.Omega.{arith}
use lib.ListN.{length, take, drop, replicate, length-replicate, length-drop}
use lib.Seq.{length-take-le, drop-drop, take-take}
use Rattle.std.proofs.Math.Seq.{drop-append-add}
use Rattle.std.proofs.lemmas.Slice.{drop-append-drop}
use lib.Ieee.{Float, binary64, of_bits}
use Rattle.std.specs.Prelude.{cond}
use Rattle.lent.specs.Over.{over}
use Rattle.lent.proofs.OverLaws.{length-over, drop-over, front, over-agree}
use Rattle.grouping_chart.specs.Object.{notes}
use Rattle.grouping_chart.specs.Settings.{Settings}
use Rattle.grouping_chart.proofs.ObjectLaws.{notes-few}
use Rattle.grouping_interval.specs.Notes.{note_objects, of_notes}
use Rattle.grouping_interval.specs.passes.Rooms.{NotesListed}
use Rattle.grouping_interval.proofs.NoteLaws.{length_note_objects, length_of_notes}
use Rattle.call_taps.specs.Taps.{TapChart, tap_size, is_open, pairs_of, tap_groups_of}
use Rattle.call_taps.specs.Call.{Memory, memory, filled}
use Rattle.call_taps.specs.passes.Rooms.{NotesKnown, TapsRoom}

module _ {t : TapChart} {m : Memory} (r : TapsRoom t m) {work₁ : List ℕ} {scratch₁ : List Float} {n : ℕ}
    (l : NotesListed t.kinds t.lowest m.work work₁ m.scratch scratch₁ n) where
  notes_are : n ≡ length (notes t.kinds)
  notes_are = l.count ∙ length_note_objects t.kinds

  pub notes_few : n ≤ tap_size t
  notes_few = omega (arith, notes_are, notes-few t.kinds)

  work_long : length work₁ ≡ length m.work
  work_long = ap length l.numbers ∙ length-over (note_objects t.kinds) m.work (omega (arith, length_note_objects t.kinds, notes-few t.kinds, r.regions))

  -- ---- in two pieces

  module _ {front₁ back : List ℕ} (f : front₁ ≡ take (tap_size t) work₁) (b : back ≡ drop (tap_size t) work₁) where
    front_long : length front₁ ≡ tap_size t
    front_long = ap length f ∙ length-take-le (tap_size t) work₁ (omega (arith, work_long, r.regions))

    back_long : 7 * tap_size t ≤ length back
    back_long = omega (arith, ap length b, length-drop (tap_size t) work₁, work_long, r.regions)

    pub within_front : n ≤ length front₁
    within_front = omega (arith, notes_few, front_long)

    pub within_back : n ≤ length back
    within_back = omega (arith, notes_few, back_long)

    pub objects_are : take n front₁ ≡ note_objects t.kinds
    objects_are =
        rw (f, take-take n (tap_size t) work₁ notes_few)
        (ap (take n) l.numbers ∙ front (note_objects t.kinds) m.work n (sym l.count))

    pub notes_known : NotesKnown t (take n front₁)
    notes_known = record { long = r.long; few = r.few; listed = objects_are }

    pub marks_room : length (take n back) ≡ length (take n front₁)
    marks_room = omega (arith, length-take-le n back within_back, length-take-le n front₁ within_front)

    -- what lies behind the places that the call may use is as lent
    work_past : (marks : List ℕ) → length marks ≡ length (take n back) → drop (8 * tap_size t) (front₁ ++ (marks ++ drop n back)) ≡ drop (8 * tap_size t) m.work
    work_past marks e =
        let k : ℕ = tap_size t in
        let seam : 8 * k ≡ length front₁ + 7 * k = omega (arith, front_long) in
        let both : 7 * k + k ≡ 8 * k = omega arith in
        let marked : length marks ≡ n = omega (arith, length-take-le n back within_back) in
        rw seam (drop-append-add front₁ (marks ++ drop n back) (7 * k))
        ∙ drop-append-drop n back marks (7 * k) (omega (arith, notes_few)) marked
        ∙ rw (b, drop-drop (7 * k) k work₁) (ap (λ i. drop i work₁) (omega arith))
        ∙ ap (drop (8 * k)) l.numbers
        ∙ drop-over (note_objects t.kinds) m.work (8 * k) (omega (arith, length_note_objects t.kinds, notes-few t.kinds))

    pub filled_is : (s : Settings) (marks : List ℕ) {pair group work : List ℕ} {scratch : List Float} → length marks ≡ length (take n back)
        → pair ≡ over (pairs_of s.margin t) m.pair
        → group ≡ cond (is_open s.margin t) m.group (over (tap_groups_of s.margin t) m.group)
        → work ≡ over (replicate (8 * tap_size t) 0) (front₁ ++ (marks ++ drop n back))
        → scratch ≡ over (replicate (tap_size t) (of_bits binary64 0)) scratch₁
        → memory pair group work scratch ≡ filled s t m
    unfolding filled
    filled_is s marks e p g z q =
        let k : ℕ = tap_size t in
        let floats : drop k scratch₁ ≡ drop k m.scratch =
        ap (drop k) l.floats
        ∙ drop-over (of_notes t.kinds t.lowest) m.scratch k (omega (arith, length_of_notes t.kinds t.lowest r.long.lowest, notes-few t.kinds)) in
        let works = z ∙ over-agree (replicate (8 * k) 0) _ m.work (8 * k) (length-replicate (8 * k) 0) (work_past marks e) in
        let scratches = q ∙ over-agree (replicate k (of_bits binary64 0)) scratch₁ m.scratch k (length-replicate k (of_bits binary64 0)) floats in
        λ i. memory (p i) (g i) (works i) (scratches i)
