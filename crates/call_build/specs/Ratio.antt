-- An object's ratio: the common ratio that lies nearest to the quotient of its delta and the delta before (change
-- requests: 1/12; `RhythmData::new` of rhythm_data.rs).
use Rattle.std.specs.Prelude.{ℕ, ◌<◌, ◌≡◌, true, false, cond, List, [], ◌∷◌, length, get_or, Float}
use Rattle.std.specs.Float.{nan, binary64}
use Rattle.std.specs.Float.Ieee.{round}
use Rattle.numeric.specs.Near.{is_nearer}

-- a ÷ b, rounded
unfoldable pub quotient : ℕ → ℕ → Float
quotient a b = round binary64 false a b

-- the source's COMMON_RATIOS, in its order: the first, and those after it
abbrev pub first_ratio : Float
first_ratio = quotient 1 1

abbrev pub later_ratios : List Float
later_ratios =
    quotient 2 1 ∷ quotient 1 2 ∷ quotient 3 1 ∷ quotient 1 3 ∷ quotient 3 2 ∷ quotient 2 3 ∷ quotient 5 4
    ∷ quotient 4 5 ∷ []

abbrev pub common_ratios : List Float
common_ratios = first_ratio ∷ later_ratios

-- r where it lies nearer to q than `best`, which else stays: so does the first of two that lie as near
unfoldable pub nearer_of : Float → Float → Float → Float
nearer_of q best r = cond (is_nearer q r best) r best

unfoldable pub nearest_of : Float → Float → List Float → Float
nearest_of q best [] = best
nearest_of q best (r ∷ rs) = nearest_of q (nearer_of q best r) rs

unfoldable pub nearest_ratio : Float → Float
nearest_ratio q = nearest_of q first_ratio later_ratios

-- what it is: the first of some ratios than which none lies nearer to q, each before it lying farther
pub record FirstNearest (q : Float) (ratios : List Float) (r : Float) : Type 0 where
  pub place : ℕ
  pub inside : place < length ratios
  pub is : r ≡ get_or ratios place nan
  pub before : (i : ℕ) → i < place → is_nearer q r (get_or ratios i nan) ≡ true
  pub least : (i : ℕ) → i < length ratios → is_nearer q (get_or ratios i nan) r ≡ false
