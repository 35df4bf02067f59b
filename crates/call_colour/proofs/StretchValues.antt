-- The values that a stretch's mean is made of: some, at most one for each object, each an object's, and all of them where all objects are notes.
use mathlib.Core.Path.{◌≡◌, ◌∙◌, sym}
use mathlib.Core.Bool.{true}
use mathlib.Core.List.{List}
use Prim.Native.Nat.{ℕ, ◌+◌, ◌-◌, ◌≤◌, ◌<◌}
use native.Mathlib.Omega.{arith}
use lib.Dec.{ltb→lt}
use lib.ListN.{length, get_or}
use lib.Ieee.{Float, nan}
use Rattle.lent.proofs.OverLaws.{length-part, get_or-part}
use Rattle.grouping_chart.specs.Chart.{Chart, size}
use Rattle.grouping_chart.specs.Object.{is_note, notes}
use Rattle.grouping_chart.specs.Settings.{Settings}
use Rattle.grouping_chart.proofs.ObjectLaws.{notes-few}
use Rattle.grouping_interval.proofs.NoteLaws.{length_of_notes, of_notes_all, of_notes-alone}
use Rattle.evaluator_values.specs.Colour.{colour_at, values_of}
use Rattle.evaluator_values.proofs.StandingLaws.{length-values}
use Rattle.call_colour.specs.Stretch.{from_to, has_note, stretch_values}
use Rattle.call_colour.proofs.StretchCases.{StretchLies}

-- object i's value
abbrev pub value_at : Settings → Chart → ℕ → Float
value_at s c i = colour_at s.search_limit s.tolerance c.kinds c.ratios i

module _ (s : Settings) (c : Chart) (a b : ℕ) (x : StretchLies c.kinds a b) where
  -- the kinds and the values of all its objects
  abbrev kinds : List ℕ
  kinds = from_to a b c.kinds

  abbrev values : List Float
  values = from_to a b (values_of s c)

  length-kinds : length kinds ≡ b - a
  length-kinds = length-part a (b - a) c.kinds (omega (arith, x.some, x.inside))

  length_all : length values ≡ b - a
  length_all =
      length-part a (b - a) (values_of s c) (omega (arith, x.some, x.inside, length-values s.search_limit s.tolerance c.kinds c.ratios))

  equally_many : length values ≡ length kinds
  equally_many = length_all ∙ sym length-kinds

  pub notes-alone : ((i : ℕ) → i < b - a → is_note (get_or c.kinds (a + i) 0) ≡ true) → stretch_values s c a b ≡ values
  unfolding stretch_values
  notes-alone g =
      of_notes-alone kinds values equally_many
      (λ i h. let k : i < b - a = omega (arith, length-kinds) in rw (get_or-part a (b - a) c.kinds i 0 k) (g i k))

  -- as many as there are notes
  length-stretch : length (stretch_values s c a b) ≡ length (notes kinds)
  unfolding stretch_values
  length-stretch = length_of_notes kinds values equally_many

  some_note : 0 < length (notes kinds)
  unfolding has_note
  some_note = ltb→lt 0 (length (notes kinds)) (rw x.noted tt)

  pub stretch-some : 0 < length (stretch_values s c a b)
  stretch-some = omega (arith, length-stretch, some_note)

  pub stretch-few : length (stretch_values s c a b) ≤ b - a
  stretch-few = omega (arith, length-stretch, notes-few kinds, length-kinds)

  -- what holds of each object's value holds of each of these
  pub stretch_all : (P : Float → Type 0) → ((i : ℕ) → i < size c → P (get_or (values_of s c) i nan))
      → (j : ℕ) → j < length (stretch_values s c a b) → P (get_or (stretch_values s c a b) j nan)
  unfolding stretch_values
  stretch_all P g =
      of_notes_all P kinds values
      (λ i h. let k : i < b - a = omega (arith, length_all) in rw (get_or-part a (b - a) (values_of s c) i nan k) (g (a + i) (omega (arith, x.inside))))
