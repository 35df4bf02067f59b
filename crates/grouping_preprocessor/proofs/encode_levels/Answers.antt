-- The eight regions, with what the passes left in them.
use Rattle.std.proofs.Common.{◌≡◌, ◌≤◌, sym, ap, ◌∙◌, arith, List, ℕ, length, take, ◌++◌, drop}
use lib.ListN.{length-take, length-replicate}
use Rattle.lent.specs.Over.{over}
use Rattle.lent.proofs.OverLaws.{drop-over}
use Rattle.lent.proofs.PieceLaws.{over_whole}
use Rattle.grouping_marks.specs.Marks.{first_items, last_items}
use Rattle.grouping_marks.specs.passes.Numbered.{NumberedBy}
use Rattle.grouping_colour.specs.MonoStreak.{streak_marks, streak_lasts}
use Rattle.grouping_colour.proofs.StreakListLaws.{streak_of_made, length-streak_of}
use Rattle.grouping_colour.proofs.EndLaws.{streak_firsts_made, streak_lasts_made, length-streak_lasts}
use Rattle.grouping_preprocessor.proofs.RegionLaws.{length-types}
use Rattle.grouping_preprocessor.proofs.ComposeLaws.{length-lent, back-long, Ends, encoded}
use Rattle.grouping_preprocessor.proofs.encode_levels.Goals.{After-find_hits-hits}
use Rattle.grouping_preprocessor.proofs.encode_levels.Goals as goal

-- a region that the hit patterns' pass was lent has a place for each streak
module _ (c : After-find_hits-hits) where
  abbrev marks_region : List ℕ
  marks_region =
      take c.find_streaks-streaks.result (c.find_hits-hits.new.marks ++ drop c.find_patterns-patterns.result c.split_at_mut-hits_open.result.0.now)

  streaks_few : c.find_streaks-streaks.result ≤ length c.split_at_mut-hits_open.result.0.now
  streaks_few = omega (arith, c.find_streaks-streaks.ensures.few, c.split_at_mut-hits_open.ensures.front_len)

  patterns_few : c.find_patterns-patterns.result ≤ c.find_streaks-streaks.result
  patterns_few = omega (arith, c.find_patterns-patterns.ensures.few, length-take c.find_streaks-streaks.result c.find_streaks-streaks.new.lengths)

  marks-lent : length marks_region ≡ c.find_streaks-streaks.result
  marks-lent =
      length-lent c.find_streaks-streaks.result c.find_patterns-patterns.result c.split_at_mut-hits_open.result.0.now c.find_hits-hits.new.marks
      streaks_few (omega (arith, patterns_few, streaks_few)) (c.find_hits-hits.auto.marks)

  numbered : NumberedBy (streak_marks c.args.kind.now) c.find_streaks-streaks.new.streak (length marks_region)
  numbered = record {
    are = c.find_streaks-streaks.ensures.streak ∙ streak_of_made c.args.kind.now;
    many = sym c.find_streaks-streaks.ensures.count ∙ sym marks-lent;
  }

  -- the sizes' region, by what it held before the patterns' pass: only how long that is tells here
  module _ (counts : List ℕ) where
    abbrev counts_region : List ℕ
    counts_region =
        take c.find_streaks-streaks.result
        (c.find_hits-hits.new.counts
        ++ drop c.find_patterns-patterns.result (c.find_patterns-patterns.new.counts ++ drop c.find_streaks-streaks.result counts))

    ends : {lasts firsts : List ℕ}
        → ((marks : List ℕ) → NumberedBy marks c.find_streaks-streaks.new.streak (length marks_region) → lasts ≡ last_items marks)
        → ((marks : List ℕ) → NumberedBy marks c.find_streaks-streaks.new.streak (length marks_region) → firsts ≡ over (first_items marks) counts_region)
        → Ends c.args.kind.now marks_region lasts counts_region firsts
    ends f g = record {
      lasts_are =
          f (streak_marks c.args.kind.now) numbered ∙ sym (streak_lasts_made c.args.kind.now)
          ∙ sym (over_whole (streak_lasts c.args.kind.now) marks_region (length-streak_lasts c.args.kind.now ∙ numbered.many));
      firsts_are = g (streak_marks c.args.kind.now) numbered ∙ ap (λ (l : List ℕ). over l counts_region) (sym (streak_firsts_made c.args.kind.now));
    }

  module _ (counts : List ℕ) (long : length counts ≡ length c.args.kind.now)
      (patterns : length c.find_patterns-patterns.new.counts ≡ length (take c.find_streaks-streaks.result counts))
      (hits : length c.find_hits-hits.new.counts
      ≡ length (take c.find_patterns-patterns.result (c.find_patterns-patterns.new.counts ++ drop c.find_streaks-streaks.result counts))) where
    counts-room : length marks_region ≤ length (counts_region counts)
    counts-room =
        let before = back-long c.find_streaks-streaks.result counts c.find_patterns-patterns.new.counts patterns in
        let few : c.find_streaks-streaks.result ≤ length counts = omega (arith, long, c.find_streaks-streaks.ensures.few) in
        let lent =
        length-lent c.find_streaks-streaks.result c.find_patterns-patterns.result
        (c.find_patterns-patterns.new.counts ++ drop c.find_streaks-streaks.result counts) c.find_hits-hits.new.counts
        (omega (arith, before, few)) (omega (arith, before, patterns_few, few)) hits in
        omega (arith, marks-lent, lent)

pub group_ends-requires : goal.group_ends-requires
group_ends-requires c =
    let x = (goal.at.group_ends-requires c).After-find_hits-hits in
    record {
      few = omega (arith, ap length c.find_streaks-streaks.ensures.streak, length-streak_of c.args.kind.now, c.requires.few);
      numbered = record { marks = streak_marks c.args.kind.now; by = numbered x };
      room =
          counts-room x _ (omega (arith, c.split_at_mut-counts.ensures.front_len, c.find_streaks-streaks.auto.types)) x.find_patterns-patterns.auto.counts
          x.find_hits-hits.auto.counts;
    }

pub returns : goal.returns
returns c =
    encoded c.args.kind.now _ _ (search) c.split_at_mut-lengths.ensures.front_len c.split_at_mut-types.ensures.front_len
    _ (search) (omega (arith, c.split_at_mut-counts.ensures.front_len, c.find_streaks-streaks.auto.types)) c.args.limit.value (search)
    c.split_at_mut-hits_open.result.0.now (ends (goal.at.returns c).After-find_hits-hits _ c.group_ends.ensures.lasts c.group_ends.ensures.firsts)
    c.split_at_mut-streak.result.0.now c.split_at_mut-numbers.result.0.now c.split_at_mut-places.result.0.now
    c.split_at_mut-counts.result.0.now c.split_at_mut-found.result.0.now c.split_at_mut-found.result.1.now c.args.w.now
    (grind (arith, drop-over, length-types, length-replicate)) (record { is = cc; each = search })
