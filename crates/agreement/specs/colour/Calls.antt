-- The colour claim of what the calls encode, colour, stretch and lesson leave and answer on two accepted charts.
use Rattle.std.specs.Prelude.{ℕ, ◌≡◌, ◌<◌, get_or, pos, Ok}
use Rattle.std.specs.Float.{nan}
use Rattle.grouping_chart.specs.Chart.{Chart, size}
use Rattle.grouping_chart.specs.Settings.{Settings}
use Rattle.call_encode.specs.Call as encode
use Rattle.call_encode.specs.Call.{encode_outcome}
use Rattle.call_colour.specs.Stretch.{GoodStretch, chart_mean, chart_tenths}
use Rattle.call_colour.specs.Call.{Memory, stretch_mean, colour_outcome, stretch_outcome}
use Rattle.call_lesson.specs.Lesson.{Stretches, pair_count}
use Rattle.call_lesson.specs.Call as lesson
use Rattle.call_lesson.specs.Call.{lesson_outcome}
use Rattle.agreement.specs.CommonTail.{Counterparts}
use Rattle.agreement.specs.SameGroups.{groups}
use Rattle.agreement.specs.colour.Claim.{Settled, SettledSame, EncodedHits, HitsClaim, hit_patterns}
use Rattle.agreement.specs.colour.Claim.{SamePair}

-- hit patterns and intervals as encode writes them
abbrev pub hits_written : Settings → Chart → encode.Memory → EncodedHits
hits_written s c lent = record {
  patterns = groups (size c) (encode_outcome s c lent).memory.hit;
  intervals = (encode_outcome s c lent).memory.interval;
}

-- encode
abbrev pub EncodeClaim : Settings → Chart → Chart → encode.Memory → encode.Memory → ℕ → ℕ → Type 0
EncodeClaim s c c' lent lent' p p' = HitsClaim s.search_limit (hits_written s c lent) p (hits_written s c' lent') p'

-- colour and stretch
pub record CallsClaim (s : Settings) (c c' : Chart) (lent lent' : Memory) (p p' : ℕ) : Type 0 where
  -- the values that colour writes
  pub written : SettledSame s.search_limit (hit_patterns c) p (size c') nan
      (colour_outcome s c lent).memory.value (colour_outcome s c' lent').memory.value
  -- stretch answers a mean and its tenths, no refusal,
  pub done : (a b : ℕ) → GoodStretch c.kinds a b
      → (stretch_outcome s c a b lent).answer ≡ Ok (stretch_mean (chart_mean s c a b) (chart_tenths s c a b))
  -- and the same ones for the counterpart
  pub stretch : (a b a' b' : ℕ) → Settled s.search_limit (hit_patterns c) p a → GoodStretch c.kinds a b
      → Counterparts (size c) (size c') a a' → Counterparts (size c) (size c') b b'
      → (stretch_outcome s c a b lent).answer ≡ (stretch_outcome s c' a' b' lent').answer

-- pair i and pair i' are there, their stretches are counterparts, and begin at such objects
pub record SettledPair (limit : ℕ) (c : Chart) (l : Stretches) (i : ℕ) (c' : Chart) (l' : Stretches) (i' p : ℕ)
    : Type 0 where
  pub there : i < pair_count l
  pub there' : i' < pair_count l'
  pub same : SamePair c l i c' l' i'
  pub settled : Settled limit (hit_patterns c) p (get_or l.offsets i 0)

-- lesson: two such pairs have one mean and one number of tenths, whatever other pairs either lesson has
pub record LessonClaim (s : Settings) (c c' : Chart) (l l' : Stretches) (lent lent' : lesson.Memory) (p : ℕ)
    : Type 0 where
  pub mean : (i i' : ℕ) → SettledPair s.search_limit c l i c' l' i' p
      → get_or (lesson_outcome s c l lent).memory.mean i nan ≡ get_or (lesson_outcome s c' l' lent').memory.mean i' nan
  pub tenths : (i i' : ℕ) → SettledPair s.search_limit c l i c' l' i' p
      → get_or (lesson_outcome s c l lent).memory.tenths i (pos 0)
      ≡ get_or (lesson_outcome s c' l' lent').memory.tenths i' (pos 0)
