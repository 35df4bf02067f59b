-- What is refused of a stretch, test by test, and where a stretch lies of which nothing is refused.
use mathlib.Core.Path.{◌≡◌, refl, ap}
use mathlib.Core.Bool.{Bool, true, false, ◌||◌, cond}
use mathlib.Core.List.{List}
use Prim.Native.Nat.{ℕ, ◌+◌, ◌-◌, ◌≤◌, ◌<◌}
use native.Mathlib.Omega.{arith}
use borrow.Author.Tests.{lt-ltb, le-ltb, le-leb, lt-leb, ltb-false, leb-false}
use lib.Dec.{ltb, leb}
use lib.ListN.{length}
use Rattle.std.specs.Prelude.{Err}
use Rattle.grouping_chart.specs.Refusal.{passed}
use Rattle.lent.specs.Over.{part}
use Rattle.lent.proofs.NeverLaws.{never}
use Rattle.grouping_chart.specs.declared.refusal.Reason.TheVariants.{OutOfRange, NoNotes}
use Rattle.std.proofs.lemmas.Bool.{or_parts}
use Rattle.call_colour.specs.Stretch.{from_to, has_note, stretch_refusal, GoodStretch}

-- a stretch has an object, all of them are the chart's, and one is a note
pub record StretchLies (kinds : List ℕ) (a b : ℕ) : Type 0 where
  pub some : a < b
  pub inside : b ≤ length kinds
  pub noted : has_note (from_to a b kinds) ≡ true

-- a stretch by its first object and how many it has
pub from_to-sum : {A : Type 0} (a n : ℕ) (xs : List A) → from_to a (a + n) xs ≡ part a n xs
from_to-sum a n xs = let e : a + n - a ≡ n = omega arith in ap (λ (k : ℕ). part a k xs) e

-- for `stretch_refusal`, which has a stretch by its first object and how many it has
pub ruleset stretch_parts = (from_to-sum)

module _ (kinds : List ℕ) (a b : ℕ) where
  pub none_refused : b ≤ a → Err OutOfRange ≡ stretch_refusal kinds a b
  unfolding stretch_refusal
  none_refused h = rw (le-leb b a h)

  pub past_refused : length kinds < b → Err OutOfRange ≡ stretch_refusal kinds a b
  unfolding stretch_refusal
  past_refused h = rw (lt-ltb (length kinds) b h) (either_outside (leb b a))
    where
      either_outside : (none : Bool) → Err OutOfRange ≡ cond (none || true) (Err OutOfRange) (cond (has_note (from_to a b kinds)) passed (Err NoNotes))
      either_outside true = refl
      either_outside false = refl

  -- where it is the chart's, its notes decide
  inside-refused : a < b → b ≤ length kinds → (noted : Bool) → has_note (from_to a b kinds) ≡ noted
      → stretch_refusal kinds a b ≡ cond noted passed (Err NoNotes)
  unfolding stretch_refusal
  inside-refused h k noted e = rw (lt-leb b a h, le-ltb (length kinds) b k, e)

  pub noteless_refused : a < b → b ≤ length kinds → has_note (from_to a b kinds) ≡ false → stretch_refusal kinds a b ≡ Err NoNotes
  noteless_refused h k = inside-refused h k false

  none_of : (outside noted : Bool) → cond outside (Err OutOfRange) (cond noted passed (Err NoNotes)) ≡ passed → (outside ≡ false) × (noted ≡ true)
  none_of true noted e = never (cc)
  none_of false true e = (refl, refl)
  none_of false false e = never (cc)

  pub good_lies : GoodStretch kinds a b → StretchLies kinds a b
  unfolding stretch_refusal
  good_lies e =
      let z = none_of (leb b a || ltb (length kinds) b) (has_note (from_to a b kinds)) e in
      let t = or_parts _ _ z.0 in
      record { some = leb-false _ _ t.0; inside = ltb-false _ _ t.1; noted = z.1 }

  pub lies_good : StretchLies kinds a b → GoodStretch kinds a b
  lies_good x = inside-refused x.some x.inside true x.noted
