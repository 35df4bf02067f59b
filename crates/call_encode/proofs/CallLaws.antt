-- The outcome of encode, case by case, over plain lists: a refusal leaves all as lent, and an accepted chart has room in every slice.
use mathlib.Core.Path.{◌≡◌, refl}
use mathlib.Core.Logic.{⊎_elim}
use mathlib.Core.List.{List, []}
use Prim.Native.Nat.{ℕ, ◌≤◌, ◌<◌}
use lib.ListN.{length, take, get_or, replicate}
use lib.Ieee.{Float, binary64, of_bits}
use native.Mathlib.Omega.{arith}
use Rattle.std.specs.Prelude.{Ok}
use Rattle.lent.specs.Over.{over}
use Rattle.lent.proofs.OverLaws.{front}
use Rattle.lent.proofs.PieceLaws.{get_or-over}
use Rattle.grouping_chart.specs.Chart.{Chart, size}
use Rattle.grouping_chart.specs.Outcome.{outcome}
use Rattle.grouping_chart.specs.Settings.{Settings}
use Rattle.grouping_chart.specs.Refusal.{accepted}
use Rattle.grouping_chart.proofs.SettingsLaws.{InRanges, in_ranges}
use Rattle.grouping_chart.proofs.OutcomeLaws.{answered-done, accommodated}
use Rattle.grouping_colour.specs.MonoStreak.{streak_of}
use Rattle.grouping_colour.proofs.StreakListLaws.{length-streak_of}
use Rattle.grouping_preprocessor.specs.Preprocessor.{alternating_of, hit_of, interval_of, hit_count}
use Rattle.grouping_hits.proofs.RangeLaws.{InReach}
use Rattle.grouping_preprocessor.proofs.BoundLaws.{length-alternating_of, length-hit_of, length-interval_of, interval_of_range}
use Rattle.call_encode.specs.Call.{Memory, answer_lengths, judged, encoded_kinds, with_scratch, filled, encode_outcome}
use Rattle.call_encode.specs.passes.Rooms.{KindsRoom}

-- ---- the first places of what is encoded
module _ (limit : ℕ) (kinds : List ℕ) (m : Memory) where
  pub streaks_front : take (length kinds) (encoded_kinds limit kinds m).streak ≡ streak_of kinds
  unfolding encoded_kinds
  streaks_front = front (streak_of kinds) m.streak (length kinds) (length-streak_of kinds)

  pub patterns_front : take (length kinds) (encoded_kinds limit kinds m).pattern ≡ alternating_of kinds
  unfolding encoded_kinds
  patterns_front = front (alternating_of kinds) m.pattern (length kinds) (length-alternating_of kinds)

  pub hits_front : take (length kinds) (encoded_kinds limit kinds m).hit ≡ hit_of kinds
  unfolding encoded_kinds
  hits_front = front (hit_of kinds) m.hit (length kinds) (length-hit_of kinds)

  pub intervals_front : take (length kinds) (encoded_kinds limit kinds m).interval ≡ interval_of limit kinds
  unfolding encoded_kinds
  intervals_front = front (interval_of limit kinds) m.interval (length kinds) (length-interval_of kinds limit)

-- ---- each case leaves its outcome

module _ (s : Settings) (c : Chart) (m : Memory) where
  pub done-outcome : {count : ℕ} {new : Memory} → judged s c m ≡ accepted → count ≡ hit_count c.kinds → new ≡ filled s c m
      → outcome (Ok count) new ≡ encode_outcome s c m
  unfolding encode_outcome
  done-outcome h e f = answered-done _ _ m h (λ t. outcome (Ok (e t)) (f t))

  -- the memory that the passes leave is the definition's
  pub filled_is : {new : Memory} {scratch : List Float} → new ≡ encoded_kinds s.search_limit c.kinds (with_scratch m [])
      → scratch ≡ over (replicate (size c) (of_bits binary64 0)) m.scratch → with_scratch new scratch ≡ filled s c m
  unfolding filled encoded_kinds
  filled_is e f t = with_scratch (e t) (f t)

  -- an accepted call has a search limit from 2 to 64, and room
  pub limit_small : judged s c m ≡ accepted → InRanges s
  limit_small h = in_ranges (accommodated s c (answer_lengths m) _ _ h).permitted

  pub kinds_room : judged s c m ≡ accepted → KindsRoom (size c) s.search_limit (with_scratch m [])
  kinds_room h =
      let r = accommodated s c (answer_lengths m) _ _ h in
      record {
        few = r.chart.few;
        streak = r.long.0;
        streak_place = r.long.1.0;
        pattern = r.long.1.1.0;
        pattern_place = r.long.1.1.1.0;
        hit = r.long.1.1.1.1.0;
        interval = r.long.1.1.1.1.1.0;
        work = r.regions;
        bytes = omega (arith, (limit_small h).most);
      }

  pub scratch_room : judged s c m ≡ accepted → size c ≤ length m.scratch
  scratch_room h = (accommodated s c (answer_lengths m) _ _ h).floats

-- ---- what an accepted call writes, place by place
module _ (s : Settings) (c : Chart) (lent : Memory) (good : judged s c lent ≡ accepted) where
  left : (encode_outcome s c lent).memory ≡ filled s c lent
  left = rw (← done-outcome s c lent good refl refl)

  pub hit-written : (i : ℕ) → i < size c → get_or (encode_outcome s c lent).memory.hit i 0 ≡ get_or (hit_of c.kinds) i 0
  unfolding filled encoded_kinds
  hit-written i h = rw left (get_or-over (hit_of c.kinds) lent.hit i 0 (omega (arith, length-hit_of c.kinds)))

  pub interval-written : (i : ℕ) → i < size c → get_or (encode_outcome s c lent).memory.interval i 0 ≡ get_or (interval_of s.search_limit c.kinds) i 0
  unfolding filled encoded_kinds
  interval-written i h =
      rw left (get_or-over (interval_of s.search_limit c.kinds) lent.interval i 0 (omega (arith, length-interval_of c.kinds s.search_limit)))

  -- each interval is from 1 to the search limit less 1, or the limit plus 1
  pub interval-in_reach : (i : ℕ) → i < size c → InReach s.search_limit (get_or (encode_outcome s c lent).memory.interval i 0)
  interval-in_reach i h = rw (interval-written i h) (interval_of_range c.kinds s.search_limit i h)

  -- so the largest that any settings allow is 65, which fits a byte
  pub interval-most : (i : ℕ) → i < size c → get_or (encode_outcome s c lent).memory.interval i 0 ≤ 65
  interval-most i h =
      let small = limit_small s c lent good in
      ⊎_elim (λ u. omega (arith, u, small)) (λ u. omega (arith, small)) (interval-in_reach i h)
