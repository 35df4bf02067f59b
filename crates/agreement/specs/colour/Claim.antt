-- What is claimed of two charts from a colour landmark on (scope: "Landmarks"): of hit patterns, intervals, colour
-- values, stretches and lessons. M is the search limit, 16 in the base.
use Rattle.std.specs.Prelude.{ℕ, ◌+◌, ◌≤◌, ◌<◌, ◌≡◌, ◌↔◌, List, length, get_or}
use Rattle.std.specs.Float.{nan}
use Rattle.grouping_chart.specs.Chart.{Chart, size}
use Rattle.grouping_chart.specs.Settings.{Settings}
use Rattle.grouping_preprocessor.specs.Preprocessor.{hit_of, interval_of}
use Rattle.evaluator_values.specs.Colour.{values_of}
use Rattle.call_colour.specs.Stretch.{GoodStretch, chart_mean, chart_tenths}
use Rattle.call_lesson.specs.Lesson.{Stretches, pair_count, GoodLesson}
use Rattle.agreement.specs.CommonTail.{Counterparts}
use Rattle.agreement.specs.SameGroups.{Groups, groups, group_at, OpensAt, SameGroups}

-- object i is of the M-th group from object p on, or of a later one: one opens at p, and groups are numbered in order
pub record Settled (limit : ℕ) (g : Groups) (p i : ℕ) : Type 0 where
  pub after : p ≤ i
  pub there : i < g.count
  pub late : group_at g p + limit ≤ group_at g i + 1

-- each of these has the entry in xs, the one chart's list, that its counterpart has in xs', the list of the other chart
-- and its n' objects; d stands for a missing entry
abbrev pub SettledSame : {A : Type 0} → ℕ → Groups → ℕ → ℕ → A → List A → List A → Type 0
SettledSame limit g p n' d xs xs' =
    (i i' : ℕ) → Settled limit g p i → Counterparts g.count n' i i' → get_or xs i d ≡ get_or xs' i' d

-- each object's hit pattern, and its interval
pub record EncodedHits : Type 0 where
  pub patterns : Groups
  pub intervals : List ℕ

-- two charts' hit patterns and intervals, from object p of the one and object p' of the other on
pub record HitsClaim (limit : ℕ) (h : EncodedHits) (p : ℕ) (h' : EncodedHits) (p' : ℕ) : Type 0 where
  -- hit patterns open at the same objects, and hold the same objects
  pub same : SameGroups h.patterns p h'.patterns p'
  -- one opens at p, if an object is left
  pub opens_there : p < h.patterns.count → OpensAt h.patterns p
  -- the M-th of these is the same one, read in either chart
  pub settled : (i i' : ℕ) → Counterparts h.patterns.count h'.patterns.count i i'
      → Settled limit h.patterns p i ↔ Settled limit h'.patterns p' i'
  -- and from it on the intervals are the same
  pub interval : SettledSame limit h.patterns p h'.patterns.count 0 h.intervals h'.intervals

-- a chart's hit patterns, and with their intervals
abbrev pub hit_patterns : Chart → Groups
hit_patterns c = groups (size c) (hit_of c.kinds)

abbrev pub hits_of : Settings → Chart → EncodedHits
hits_of s c = record { patterns = hit_patterns c; intervals = interval_of s.search_limit c.kinds }

-- the stretch from a to b, b not included, and its counterpart
pub record SameStretch (s : Settings) (c : Chart) (a b : ℕ) (c' : Chart) (a' b' : ℕ) : Type 0 where
  -- the counterpart is not refused either
  pub accepted : GoodStretch c'.kinds a' b'
  pub mean : chart_mean s c a b ≡ chart_mean s c' a' b'
  pub tenths : chart_tenths s c a b ≡ chart_tenths s c' a' b'

-- pair i of the one lesson and pair i' of the other: their stretches are counterparts
pub record SamePair (c : Chart) (l : Stretches) (i : ℕ) (c' : Chart) (l' : Stretches) (i' : ℕ) : Type 0 where
  pub offset : Counterparts (size c) (size c') (get_or l.offsets i 0) (get_or l'.offsets i' 0)
  pub length : get_or l.lengths i 0 ≡ get_or l'.lengths i' 0

-- two lessons of as many pairs, of which each two are such
pub record SameLesson (c : Chart) (l : Stretches) (c' : Chart) (l' : Stretches) : Type 0 where
  pub offsets : length l'.offsets ≡ length l.offsets
  pub lengths : length l'.lengths ≡ length l.lengths
  pub each : (i : ℕ) → i < pair_count l → SamePair c l i c' l' i

-- two charts, from a landmark on before which p objects stand in the one and p' in the other
pub record ColourClaim (s : Settings) (c c' : Chart) (p p' : ℕ) : Type 0 where
  pub hits : HitsClaim s.search_limit (hits_of s c) p (hits_of s c') p'
  -- from the M-th hit pattern on the colour values are the same
  pub value : SettledSame s.search_limit (hit_patterns c) p (size c') nan (values_of s c) (values_of s c')
  -- what follows such an object is such an object, so that for a stretch its first object decides
  pub onwards : (i j : ℕ) → Settled s.search_limit (hit_patterns c) p i → i ≤ j → j < size c
      → Settled s.search_limit (hit_patterns c) p j
  -- an accepted stretch of such objects is accepted in both charts, with one mean and one number of tenths
  pub stretch : (a b a' b' : ℕ) → Settled s.search_limit (hit_patterns c) p a → GoodStretch c.kinds a b
      → Counterparts (size c) (size c') a a' → Counterparts (size c) (size c') b b' → SameStretch s c a b c' a' b'
  -- and a lesson of such stretches alone is accepted in both
  pub lesson : (l l' : Stretches) → SameLesson c l c' l'
      → ((i : ℕ) → i < pair_count l → Settled s.search_limit (hit_patterns c) p (get_or l.offsets i 0))
      → GoodLesson c.kinds l → GoodLesson c'.kinds l'
