-- A group's notes, over the promises of the passes that locate them: the notes' deltas lie in front of the scratch slice, their objects in front of the
-- work slice, so what is read at the group's ends is what the definition has there.
use mathlib.Core.Path.{◌≡◌, sym, ap, ◌∙◌}
use mathlib.Core.List.{List, ◌++◌}
use Prim.Native.Nat.{ℕ, suc, ◌+◌, ◌-◌, ◌≤◌, ◌<◌}
use native.Mathlib.Omega.{arith}
use lib.Dec.{T}
use lib.ListN.{length, take, drop, get_or}
use lib.Seq.{length-take-le}
use lib.Ieee.{Float, nan, binary64, sub}
use lib.Ieee.Scale.{finite}
use Rattle.lent.specs.Over.{over, put, part, written}
use Rattle.grouping_marks.specs.Parted.{parted}
use Rattle.lent.proofs.OverLaws.{drop-over, put_front, get_or-part}
use Rattle.lent.proofs.PieceLaws.{over_pieces, part_pieces}
use Rattle.std.proofs.lemmas.List.{drop-take, take-take}
use Rattle.grouping_chart.specs.Object.{notes}
use Rattle.grouping_interval.specs.Notes.{note_objects, of_notes}
use Rattle.grouping_chart.proofs.ObjectLaws.{notes-few}
use Rattle.grouping_interval.proofs.NoteLaws.{object-below, of_notes_all, length_note_objects}
use Rattle.grouping_interval.specs.IntervalGrouping.{interval_marks}
use Rattle.grouping_interval.specs.passes.Rooms.{NotesListed}
use Rattle.grouping_same_rhythm.specs.SameRhythm.{group_objects, group_deltas}
use Rattle.grouping_same_rhythm.specs.passes.Owns.{GroupThere, ReachedIs, settled_up_to}
use Rattle.grouping_same_rhythm.specs.declared.owns.Reached.{Reached}
use Rattle.grouping_same_rhythm.proofs.MadeLaws.{group_objects_made, group_deltas_made}
use Rattle.grouping_same_rhythm.proofs.ReachedLaws.{part-notes}
use Rattle.call_rhythm.proofs.TablesLaws.{groups-counted, NotesLeft, notes_left, Noted, notes-lent, values_are, marks_are}
use Rattle.call_record.specs.Record.{objects_in, owns_at, duration_of}
use Rattle.call_record.specs.passes.Found.{GroupRoom, located_at, locate_writes}
use Rattle.call_record.specs.declared.found.LocatedGroup.{LocatedGroup}

-- ---- the notes are listed
module _ {margin : Float} {kinds : List ℕ} {starts deltas : List Float} {g : ℕ} {work₀ work₁ : List ℕ} {scratch₀ scratch₁ : List Float} {m : ℕ}
    (room : GroupRoom margin kinds starts deltas g work₀ scratch₀) (listed : NotesListed kinds deltas work₀ work₁ scratch₀ scratch₁ m) where
  deltas_front : take m scratch₁ ≡ of_notes kinds deltas
  deltas_front = values_are room.tables listed

  front_long : length (take m scratch₁) ≡ m
  front_long = length-take-le m scratch₁ (notes-lent room.tables listed)

  pub front_counted : m ≡ length (take m scratch₁)
  front_counted = sym front_long

  pub group_there : GroupThere margin (take m scratch₁) g
  group_there =
      rw deltas_front (
      record {
        finite = record { each = of_notes_all (λ (x : Float). T (finite x)) kinds deltas room.numbers };
        there = rw (← groups-counted margin kinds deltas room.tables.whole) room.there;
      }
      )

  objects-grouped : group_objects margin kinds deltas ≡ parted (interval_marks margin (take m scratch₁)) (note_objects kinds)
  objects-grouped = rw (marks_are room.tables listed margin) (group_objects_made margin kinds deltas)

  deltas-grouped : parted (interval_marks margin (take m scratch₁)) (take m scratch₁) ≡ group_deltas margin kinds deltas
  deltas-grouped = (λ t. parted (marks_are room.tables listed margin t) (deltas_front t)) ∙ sym (group_deltas_made margin kinds deltas)

  -- ---- and numbered
  module _ {work₂ : List ℕ} {groups : ℕ} (x : Noted margin kinds deltas work₀ work₂ scratch₀ scratch₁ m groups) where
    kept : NotesLeft margin kinds deltas work₀ work₂
    kept = notes_left room.tables x.memory

    few : m ≤ length kinds
    few = omega (arith, x.noted, notes-few kinds)

    -- ---- and group g is reached
    module _ {left : List Float} {r : Reached} (reached : ReachedIs margin (take m scratch₁) left g r) where
      abbrev objects : List ℕ
      objects = objects_in margin kinds deltas g

      end-inside : r.end ≤ m
      end-inside = omega (arith, reached.upto, front_long)

      -- they are a part of the work slice
      pub objects_end : r.end ≤ length work₂
      objects_end = omega (arith, end-inside, few, kept.regions, room.tables.regions)

      group-notes : objects ≡ part r.at (r.end - r.at) (note_objects kinds)
      unfolding objects_in
      group-notes =
          rw objects-grouped (reached.notes (note_objects kinds) (omega (arith, length_note_objects kinds, x.noted, front_long)))

      noted_long : length objects ≡ r.end - r.at
      unfolding objects_in
      noted_long =
          rw objects-grouped (part-notes reached (note_objects kinds) (omega (arith, length_note_objects kinds, x.noted, front_long)))

      -- as lent
      objects-lent : take (r.end - r.at) (drop r.at work₂) ≡ objects
      objects-lent =
          let n : ℕ = length (notes kinds) in
          let e : n ≡ r.at + (n - r.at) = omega (arith, reached.from, end-inside, x.noted) in
          let h : r.end - r.at ≤ n - r.at = omega (arith, reached.from, end-inside, x.noted) in
          let cut : take (r.end - r.at) (drop r.at (take n work₂)) ≡ take (r.end - r.at) (drop r.at work₂) =
          ap (λ (k : ℕ). take (r.end - r.at) (drop r.at (take k work₂))) e
          ∙ rw (drop-take r.at (n - r.at) work₂) (take-take (r.end - r.at) (n - r.at) (drop r.at work₂) h) in
          sym cut
          ∙ ap (λ (l : List ℕ). take (r.end - r.at) (drop r.at l)) kept.objects
          ∙ part_pieces r.at (r.end - r.at) (note_objects kinds)
          ∙ sym group-notes

      below : (i : ℕ) → i < length objects → get_or objects i 0 < length kinds
      below i h =
          let k : i < r.end - r.at = omega (arith, noted_long) in
          rw (group-notes, get_or-part r.at (r.end - r.at) (note_objects kinds) i 0 k)
          (object-below kinds (r.at + i) (omega (arith, end-inside, x.noted, length_note_objects kinds)))

      abbrev lent : List ℕ
      lent = take (r.end - r.at) (drop r.at work₂)

      -- there is one, and each has a start
      pub objects_some : 0 < length lent
      objects_some = rw objects-lent (omega (arith, noted_long, reached.from))

      pub objects_started : (i : ℕ) → i < length lent → get_or lent i 0 < length starts
      objects_started = rw objects-lent (λ i h. omega (arith, below i h, room.tables.started))

      owns_is : r.owns ≡ owns_at margin kinds deltas g
      unfolding owns_at
      owns_is = rw deltas-grouped at reached.owns

      left_is : left ≡ settled_up_to (suc g) (group_deltas margin kinds deltas)
      left_is = reached.left ∙ ap (settled_up_to (suc g)) deltas-grouped

      pub located : ◌≡◌ {A = LocatedGroup} (
          record {
            first = record { 0 = get_or lent 0 0 };
            notes = length lent;
            owns = r.owns;
            duration = sub binary64 (get_or starts (get_or lent (length lent - 1) 0) nan) (get_or starts (get_or lent 0 0) nan);
            groups = groups;
          }
          ) (located_at margin kinds starts deltas g)
      unfolding duration_of
      located t = record {
        first = record { 0 = get_or (objects-lent t) 0 0 };
        notes = length (objects-lent t);
        owns = owns_is t;
        duration = sub binary64 (get_or starts (get_or (objects-lent t) (length (objects-lent t) - 1) 0) nan) (get_or starts (get_or (objects-lent t) 0 0) nan);
        groups = x.grouped t;
      }

      -- ---- of which the length is kept
      module _ (same : length left ≡ length (take m scratch₁)) where
        back : left ++ drop m scratch₁ ≡ over left scratch₁
        back = over_pieces left scratch₁ m (same ∙ front_long)

        pub scratch_located : left ++ drop m scratch₁ ≡ written (locate_writes margin kinds deltas g) scratch₀
        unfolding locate_writes
        scratch_located = back ∙ sym (put_front left scratch₁) ∙ (λ t. put 0 (left_is t) (x.scratch-memory t))

        pub past_located : drop (length kinds) (left ++ drop m scratch₁) ≡ drop (length kinds) scratch₀
        past_located =
            ap (drop (length kinds)) back
            ∙ drop-over left scratch₁ (length kinds) (omega (arith, same, front_long, few))
            ∙ ap (drop (length kinds)) listed.floats
            ∙ drop-over (of_notes kinds deltas) scratch₀ (length kinds) (omega (arith, ap length (sym deltas_front), front_long, few))
