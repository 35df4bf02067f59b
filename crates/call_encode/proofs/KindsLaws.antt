-- From the encoder's tables to the six answers: each is the definition's list, and there is room for it.
use mathlib.Core.Path.{◌≡◌, ap, ◌∙◌}
use mathlib.Core.List.{List}
use Prim.Native.Nat.{ℕ, ◌*◌}
use native.Mathlib.Omega.{arith}
use lib.ListN.{length, replicate, length-replicate}
use Rattle.lent.specs.Over.{over}
use Rattle.lent.proofs.OverLaws.{over-agree}
use Rattle.grouping_preprocessor.specs.passes.Steps as steps
use Rattle.grouping_preprocessor.specs.passes.LookUps.{streaks, streak_places, patterns, pattern_places, hits, intervals, TablesOf}
use Rattle.grouping_preprocessor.specs.declared.Levels.{Levels}
use Rattle.grouping_preprocessor.specs.declared.tables.Tables.{Tables}
use Rattle.grouping_preprocessor.proofs.LookUpsLaws.{streak_places_are, patterns_are, pattern_places_are, hits_are, intervals_are, linked}
use Rattle.grouping_preprocessor.proofs.BoundLaws.{hit-interval_byte}
use Rattle.grouping_colour.proofs.StreakListLaws.{length-streak_of}
use Rattle.call_encode.specs.Call.{Memory, memory, encoded_kinds}
use Rattle.call_encode.specs.passes.Rooms.{SpreadRoom, KindsRoom}

module _ {limit : ℕ} {kinds : List ℕ} {t : Tables} (old : Memory) (e : TablesOf limit kinds t) where
  pub spread_room : KindsRoom (length kinds) limit old
      → SpreadRoom t old.streak old.streak_place old.pattern old.pattern_place old.hit old.interval
  spread_room r =
      let n = ap length e.streak ∙ length-streak_of kinds in
      record {
        linked = linked e;
        bytes = λ j. rw e.interval (hit-interval_byte kinds limit r.bytes j);
        streak_room = omega (arith, n, r.streak);
        streak_place_room = omega (arith, n, r.streak_place);
        pattern_room = omega (arith, n, r.pattern);
        pattern_place_room = omega (arith, n, r.pattern_place);
        hit_room = omega (arith, n, r.hit);
        interval_room = omega (arith, n, r.interval);
      }

  pub encoded : {streak place pattern pattern_place hit interval w work : List ℕ} {k : Levels}
      → streak ≡ over (streaks t) old.streak → place ≡ over (streak_places t) old.streak_place
      → pattern ≡ over (patterns t) old.pattern → pattern_place ≡ over (pattern_places t) old.pattern_place
      → hit ≡ over (hits t) old.hit → interval ≡ over (intervals t) old.interval
      → steps.Tables limit kinds old.work w k → work ≡ over (replicate (8 * length kinds) 0) w
      → memory streak place pattern pattern_place hit interval work old.scratch ≡ encoded_kinds limit kinds old
  unfolding encoded_kinds
  encoded {w} a b c d f g s z =
      let n = length kinds in
      let zeros = z ∙ over-agree (replicate (8 * n) 0) w old.work (8 * n) (length-replicate (8 * n) 0) s.outside.beyond in
      λ i.
      memory ((a ∙ ap (λ l. over l old.streak) e.streak) i) ((b ∙ ap (λ l. over l old.streak_place) (streak_places_are e)) i)
      ((c ∙ ap (λ l. over l old.pattern) (patterns_are e)) i) ((d ∙ ap (λ l. over l old.pattern_place) (pattern_places_are e)) i)
      ((f ∙ ap (λ l. over l old.hit) (hits_are e)) i) ((g ∙ ap (λ l. over l old.interval) (intervals_are e)) i)
      (zeros i) old.scratch
