-- How an object stands in its groups, put together from what was read in the tables; and the list of values, element by element.
use mathlib.Core.Path.{◌≡◌}
use mathlib.Core.Bool.{true, not}
use mathlib.Core.List.{List}
use Prim.Native.Nat.{ℕ, ◌-◌, ◌<◌}
use borrow.Author.Tests.{eq-eqb, ne_eqb}
use lib.Dec.{eqb}
use lib.ListN.{length, get_or}
use lib.Ieee.{Float, nan}
use Rattle.lent.proofs.FillLaws.{length-tabulate, get_or-tabulate}
use Rattle.evaluator_colour.specs.declared.Standing.{Standing}
use Rattle.evaluator_values.specs.Colour.{is_first, colour_at, colour_values}

-- ---- the first object of a group
pub start_first : (numbers : List ℕ) (i : ℕ) → i ≡ 0 → true ≡ is_first numbers i
unfolding is_first
start_first numbers i e = rw (eq-eqb i 0 e)

pub change_first : (numbers : List ℕ) (i x y : ℕ) → (i ≡ 0 → ⊥) → x ≡ get_or numbers i 0 → y ≡ get_or numbers (i - 1) 0 → not (eqb x y) ≡ is_first numbers i
unfolding is_first
change_first numbers i x y h p q = rw (ne_eqb i 0 h) (λ t. not (eqb (p t) (q t)))

-- ---- two standings, number by number
pub record SameStanding (o p : Standing) : Type 0 where
  pub interval : o.interval ≡ p.interval
  pub pattern_place : o.pattern_place ≡ p.pattern_place
  pub streak_place : o.streak_place ≡ p.streak_place
  pub streak : o.streak ≡ p.streak
  pub pattern : o.pattern ≡ p.pattern
  pub hit : o.hit ≡ p.hit

pub same_standing : {o p : Standing} → SameStanding o p → o ≡ p
same_standing e t = record {
  interval = e.interval t;
  pattern_place = e.pattern_place t;
  streak_place = e.streak_place t;
  streak = e.streak t;
  pattern = e.pattern t;
  hit = e.hit t;
}

-- ---- the values
module _ (limit : ℕ) (tolerance : Float) (kinds : List ℕ) (ratios : List Float) where
  pub length-values : length (colour_values limit tolerance kinds ratios) ≡ length kinds
  unfolding colour_values
  length-values = length-tabulate (colour_at limit tolerance kinds ratios) (length kinds)

  pub value_of : (i : ℕ) → i < length kinds → get_or (colour_values limit tolerance kinds ratios) i nan ≡ colour_at limit tolerance kinds ratios i
  unfolding colour_values
  value_of i h = get_or-tabulate (colour_at limit tolerance kinds ratios) (length kinds) i nan h
