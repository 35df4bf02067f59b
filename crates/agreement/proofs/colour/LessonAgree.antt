-- Lessons behind a landmark: pairs that are counterparts have counterparts as stretches, and offsets that rise in the one chart rise in the other, since each
-- lies as far from the charts' ends.
use mathlib.Core.Path.{◌≡◌, sym, ap, ◌∙◌}
use Prim.Native.Nat.{ℕ, suc, ◌+◌, ◌<◌}
use native.Mathlib.Omega.{arith}
use lib.ListN.{length, get_or}
use Rattle.grouping_chart.specs.Chart.{Chart, size}
use Rattle.grouping_chart.specs.Settings.{Settings}
use Rattle.call_colour.specs.Stretch.{GoodStretch}
use Rattle.call_lesson.specs.Lesson.{Stretches, pair_count, GoodLesson}
use Rattle.call_lesson.proofs.RisingLaws.{rise_alike}
use Rattle.call_lesson.proofs.VerdictLaws.{LessonLies, good_lesson, lesson_good}
use Rattle.agreement.specs.CommonTail.{Counterparts}
use Rattle.agreement.specs.colour.Claim.{hit_patterns, Settled, SameStretch, SamePair, SameLesson}

-- what is claimed of stretches
abbrev pub StretchClaim : Settings → Chart → Chart → ℕ → Type 0
StretchClaim s c c' p =
    (a b a' b' : ℕ) → Settled s.search_limit (hit_patterns c) p a → GoodStretch c.kinds a b
    → Counterparts (size c) (size c') a a' → Counterparts (size c) (size c') b b' → SameStretch s c a b c' a' b'

module _ (s : Settings) (c c' : Chart) (p : ℕ) (stretch : StretchClaim s c c' p) (l l' : Stretches) where
  pub pair_stretch : (i i' : ℕ) → SamePair c l i c' l' i' → Settled s.search_limit (hit_patterns c) p (get_or l.offsets i 0)
      → GoodStretch c.kinds (get_or l.offsets i 0) (get_or l.offsets i 0 + get_or l.lengths i 0)
      → SameStretch s c (get_or l.offsets i 0) (get_or l.offsets i 0 + get_or l.lengths i 0)
      c' (get_or l'.offsets i' 0) (get_or l'.offsets i' 0 + get_or l'.lengths i' 0)
  pair_stretch i i' e x good = stretch _ _ _ _ x good e.offset (omega (arith, e.offset, e.length))

  pub same_lesson : SameLesson c l c' l' → ((i : ℕ) → i < pair_count l → Settled s.search_limit (hit_patterns c) p (get_or l.offsets i 0))
      → GoodLesson c.kinds l → GoodLesson c'.kinds l'
  same_lesson e x good =
      let g = good_lesson c.kinds l good in
      lesson_good c'.kinds l' (record {
        paired = e.lengths ∙ g.paired ∙ sym e.offsets;
        set = record {
          few = omega (arith, e.offsets, g.set.few);
          rise = rise_alike l.offsets l'.offsets e.offsets
              (λ i h below. omega (arith, (e.each i (omega arith)).offset, (e.each (suc i) h).offset, below)) g.set.rise;
        };
        each = λ i h.
            let k : i < pair_count l = omega (arith, e.offsets) in
            (pair_stretch i i (e.each i k) (x i k) (g.each i k)).accepted;
      })
