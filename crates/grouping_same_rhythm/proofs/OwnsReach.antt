-- Reaching group g: after k turns k groups are behind, put in order, and the own intervals are those of the last four of them.
use mathlib.Core.Path.{◌≡◌, refl, sym, ap, ◌∙◌}
use mathlib.Core.List.{List, ◌∷◌, ◌++◌, append_assoc}
use Prim.Native.Nat.{ℕ, suc, ◌+◌, ◌-◌, ◌≤◌, ◌<◌}
use native.Mathlib.Omega.{arith}
use lib.ListN.{length, take, drop, take-append-drop}
use lib.Seq.{drop-drop}
use lib.Ieee.{Float, nan}
use borrow.Rule.Slice.PartMut.{put_mid, same_len_mid, mid_len, drop_put}
use Rattle.std.proofs.lemmas.Slice.{take-put_mid}
use Rattle.lent.specs.Over.{put, part}
use Rattle.grouping_marks.specs.Parted.{parted}
use Rattle.lent.proofs.OverLaws.{length-part, get_or-part}
use Rattle.lent.proofs.PieceLaws.{put_pieces, part_pieces}
use Rattle.numeric_sort.specs.Ordered.{AllFinite}
use Rattle.grouping_normalizer.specs.Normalizer.{distinct_in_front}
use Rattle.grouping_interval.specs.IntervalGrouping.{interval_marks}
use Rattle.grouping_interval.specs.GroupEnd.{group_end}
use Rattle.grouping_interval.proofs.EndLaws.{end_after_lem, end-within, end_same}
use Rattle.std.specs.Prelude.{Option, None}
use Rattle.grouping_same_rhythm.specs.declared.owns.Recent.{Recent}
use Rattle.grouping_same_rhythm.specs.Own.{modal_delta, snapped, owns_of}
use Rattle.grouping_same_rhythm.specs.passes.Owns.{Modal, settled_up_to, recent_with, GroupThere, ReachedIs}
use Rattle.grouping_same_rhythm.proofs.OwnsLaws.{Known, known-start, known_turn, known-end}
use Rattle.grouping_same_rhythm.proofs.OwnsWalk.{groups_from, groups_all, groups_next, as_they_are, Notes, Walk, walk_start, walk_open, walk_turn}

-- `deltas₀` were lent, and are `deltas` now
pub record Reaching (margin : Float) (deltas₀ deltas : List Float) (g : ℕ) (recent : Recent) (at end k : ℕ) : Type 0 where
  pub asked : GroupThere margin deltas₀ g
  pub walk : Walk margin deltas₀ at end k
  pub turns : k ≤ suc g
  pub long : length deltas ≡ length deltas₀
  pub same : drop end deltas ≡ drop end deltas₀
  pub known : Known margin (owns_of margin (parted (interval_marks margin deltas₀) deltas₀)) k recent (groups_from margin deltas₀ deltas₀ end)
  pub left : (j : ℕ)
      → settled_up_to (k + j) (parted (interval_marks margin deltas₀) deltas₀) ≡ take end deltas ++ settled_up_to j (groups_from margin deltas₀ deltas₀ end)
  pub alone : (j : ℕ) → k ≡ suc j
      → deltas ≡ put at (distinct_in_front (part at (end - at) deltas₀)) (settled_up_to j (parted (interval_marks margin deltas₀) deltas₀))

pub reaching_start : (margin : Float) (deltas : List Float) (g : ℕ) → GroupThere margin deltas g
    → Reaching margin deltas deltas g (record { newest = None; second = None; third = None; fourth = None }) 0 0 0
reaching_start margin deltas g p =
    let a : parted (interval_marks margin deltas) deltas ≡ groups_from margin deltas deltas 0 = groups_all margin deltas deltas in
    record {
      asked = p;
      walk = walk_start margin deltas;
      turns = omega arith;
      long = refl;
      same = refl;
      known = rw a (known-start margin (groups_from margin deltas deltas 0));
      left = λ j.
          let z : 0 + j ≡ j = omega arith in
          rw (z, a);
      alone = λ j e. absurd (omega arith);
    }

-- the next group lies from `end` to `new`, and its deltas are as they were lent
pub record Opened (margin : Float) (deltas₀ deltas : List Float) (end new : ℕ) : Type 0 where
  pub on : end < new
  pub upto : new ≤ length deltas
  pub is : new ≡ group_end margin deltas₀ end
  pub notes : take (new - end) (drop end deltas) ≡ part end (new - end) deltas₀
  pub finite : AllFinite (take (new - end) (drop end deltas))

part-finite : (deltas : List Float) (at n : ℕ) → at + n ≤ length deltas → AllFinite deltas → AllFinite (part at n deltas)
part-finite deltas at n h f = record {
  each = λ i b.
      let l : length (part at n deltas) ≡ n = length-part at n deltas h in
      rw (get_or-part at n deltas i nan (omega arith)) (f.each (at + i) (omega arith));
}

drop-later : (a b : ℕ) (xs ys : List Float) → a ≤ b → drop a xs ≡ drop a ys → drop b xs ≡ drop b ys
drop-later a b xs ys h e =
    let s : a + (b - a) ≡ b = omega arith in
    cc (drop-drop (b - a) a xs, drop-drop (b - a) a ys)

module _ {margin : Float} {deltas₀ deltas : List Float} {g : ℕ} {recent : Recent} {at end k : ℕ} (x : Reaching margin deltas₀ deltas g recent at end k) where
  -- the deltas are those of the groups, of which k are in order
  settled : settled_up_to k (parted (interval_marks margin deltas₀) deltas₀) ≡ deltas
  settled =
      let z : k ≡ k + 0 = omega arith in
      rw (z, x.left 0, as_they_are margin deltas₀ end, ← x.same) (take-append-drop end deltas)

  -- while k is at most g a group opens at `end`, whatever the walk calls this place
  pub reaching_open : {from new : ℕ} → k ≤ g → new ≡ group_end margin deltas from → from ≡ end → Opened margin deltas₀ deltas end new
  reaching_open {new} h e here =
      let o : end < length deltas₀ = walk_open x.walk (omega (arith, x.asked.there)) in
      let s : new ≡ group_end margin deltas₀ end = e ∙ ap (group_end margin deltas) here ∙ end_same margin deltas deltas₀ end x.long x.same in
      let a : end < new = rw s (end_after_lem margin deltas₀ end o) in
      let w : new ≤ length deltas₀ = rw s (end-within margin deltas₀ end o) in
      let n : take (new - end) (drop end deltas) ≡ part end (new - end) deltas₀ = ap (take (new - end)) x.same ∙ part_pieces end (new - end) deltas₀ in
      record {
        on = a;
        upto = omega (arith, x.long);
        is = s;
        notes = n;
        finite = rw n (part-finite deltas₀ end (new - end) (omega arith) x.asked.finite);
      }

  -- it is put in order
  pub reaching_turn : {from new : ℕ} {group : List Float} {own : Option Float} {newest : Recent} → k ≤ g → new ≡ group_end margin deltas from → from ≡ end
      → Modal margin (take (new - end) (drop end deltas)) group own → newest ≡ recent_with (snapped margin own recent.newest) recent
      → length group ≡ length (take (new - end) (drop end deltas))
      → Reaching margin deltas₀ (put_mid end (new - end) deltas group) g newest end new (suc k)
  unfolding settled_up_to
  reaching_turn {new} {group} {own} {newest} h e here m r l =
      let o : Opened margin deltas₀ deltas end new = reaching_open h e here in
      let rest : List (List Float) = groups_from margin deltas₀ deltas₀ new in
      let first : List Float = part end (new - end) deltas₀ in
      let b : end < length deltas₀ = omega (arith, x.long) in
      let u : groups_from margin deltas₀ deltas₀ end ≡ first ∷ rest = rw o.is (groups_next margin deltas₀ deltas₀ refl end b) in
      let size : length group ≡ new - end = l ∙ mid_len end new deltas o.upto in
      let f : distinct_in_front first ≡ group = sym (m.left ∙ ap distinct_in_front o.notes) in
      record {
        asked = x.asked;
        walk = rw o.is (walk_turn x.walk b);
        turns = omega arith;
        long = same_len_mid end (new - end) deltas group l ∙ x.long;
        same = drop_put end new deltas group (omega (arith, o.on)) o.upto size ∙ drop-later end new deltas deltas₀ (omega (arith, o.on)) x.same;
        known = known_turn (rw u at x.known) own (m.own ∙ ap (modal_delta margin) o.notes) newest r;
        left = λ j.
            let n : suc k + j ≡ k + suc j = omega arith in
            rw n (x.left (suc j) ∙ rw (
              u,
              f,
              take-put_mid end (new - end) deltas group new (omega (arith, o.on, size)) (omega (arith, o.on, o.upto)),
              append_assoc,
            ));
        alone = λ j e.
            let n : j ≡ k = omega arith in
            rw (n, f, settled) (put_pieces end (new - end) group deltas size);
      }

  -- group g was the last turn's
  pub reaching_end : g < k → ReachedIs margin deltas₀ deltas g (record { owns = recent; at = at; end = end })
  reaching_end h =
      let t : k ≡ suc g = omega (arith, x.turns) in
      let w : Notes margin deltas₀ at end g = x.walk.last g t in
      record {
        owns = known-end (rw t at x.known);
        from = w.from;
        upto = x.walk.upto;
        notes = w.here;
        left = sym (rw t at settled);
        alone = x.alone g t;
      }
