-- The common ratios by their bits; the nearest of them is one of them, and none is refused: a test that each of the nine passes all pass.
use mathlib.Core.Path.{◌≡◌, refl}
use mathlib.Core.Bool.{Bool, true, false, cond}
use mathlib.Core.List.{List, [], ◌∷◌}
use Prim.Native.Nat.{ℕ, suc, ◌<◌}
use native.Mathlib.Omega.{arith}
use native.Mathlib.Nat.{zero-lt-suc}
use lib.ListN.{length, get_or}
use lib.Ieee.{Float, nan, binary64, of_bits, round, le}
use lib.Ieee.Scale.{finite}
use Rattle.numeric.specs.Near.{is_nearer}
use Rattle.grouping_chart.specs.Refusal.{ratio_good}
use Rattle.grouping_chart.specs.passes.Good.{all}
use Rattle.grouping_chart.proofs.AllLaws.{all_none, all_more, all_each}
use Rattle.grouping_chart.proofs.RangeLaws.{good_ratio}
use Rattle.call_build.specs.Ratio.{quotient, later_ratios, common_ratios, nearer_of, nearest_of, nearest_ratio}

-- 1, 2, 0.5, 3, 0.333…, 1.5, 0.666…, 1.25 and 0.8, as the code has them
pub ratios_are : common_ratios
    ≡ of_bits binary64 0x3ff0_0000_0000_0000 ∷ of_bits binary64 0x4000_0000_0000_0000 ∷ of_bits binary64 0x3fe0_0000_0000_0000
    ∷ of_bits binary64 0x4008_0000_0000_0000 ∷ of_bits binary64 0x3fd5_5555_5555_5555 ∷ of_bits binary64 0x3ff8_0000_0000_0000
    ∷ of_bits binary64 0x3fe5_5555_5555_5555 ∷ of_bits binary64 0x3ff4_0000_0000_0000 ∷ of_bits binary64 0x3fe9_9999_9999_999a ∷ []
unfolding quotient round of_bits
ratios_are = refl

-- one of the nine
pub record Common (r : Float) : Type 0 where
  pub place : ℕ
  pub inside : place < 9
  pub is : r ≡ get_or common_ratios place nan

-- ---- what holds of `best` and of every ratio holds of the nearest

module _ (P : Float → Type 0) (q : Float) where
  nearer_keeps : (best r : Float) → P best → P r → P (nearer_of q best r)
  unfolding nearer_of
  nearer_keeps best r b p = go (is_nearer q r best)
    where
      go : (t : Bool) → P (cond t r best)
      go true = p
      go false = b

  nearest_keeps : (best : Float) (rs : List Float) → P best → ((i : ℕ) → i < length rs → P (get_or rs i nan)) → P (nearest_of q best rs)
  unfolding nearest_of
  nearest_keeps best [] b p = b
  nearest_keeps best (r ∷ rs) b p =
      nearest_keeps (nearer_of q best r) rs (nearer_keeps best r b (p 0 (zero-lt-suc _))) (λ i h. p (suc i) (omega arith))

pub nearest_common : (q : Float) → Common (nearest_ratio q)
unfolding nearest_ratio
nearest_common q =
    nearest_keeps Common q _ later_ratios (record { place = 0; inside = omega arith; is = refl })
    (λ i h. record { place = suc i; inside = omega arith; is = refl })

-- ---- none is refused

-- a test that each of the nine passes
nine_pass : (test : Float → Bool) → test (quotient 1 1) ≡ true → test (quotient 2 1) ≡ true → test (quotient 1 2) ≡ true → test (quotient 3 1) ≡ true
    → test (quotient 1 3) ≡ true → test (quotient 3 2) ≡ true → test (quotient 2 3) ≡ true → test (quotient 5 4) ≡ true → test (quotient 4 5) ≡ true
    → all test common_ratios ≡ true
nine_pass test a b c d e f g h i =
    all_more test _ _ a
    (all_more test _ _ b
    (all_more test _ _ c
    (all_more test _ _ d
    (all_more test _ _ e
    (all_more test _ _ f
    (all_more test _ _ g
    (all_more test _ _ h
    (all_more test _ _ i (all_none test)))))))))

all_good_lem : all ratio_good common_ratios ≡ true
unfolding quotient round le
all_good_lem =
    nine_pass ratio_good (good_ratio _ tt tt) (good_ratio _ tt tt) (good_ratio _ tt tt) (good_ratio _ tt tt) (good_ratio _ tt tt) (good_ratio _ tt tt)
    (good_ratio _ tt tt) (good_ratio _ tt tt) (good_ratio _ tt tt)

-- they are finite
pub all_finite : all finite common_ratios ≡ true
unfolding quotient round
all_finite = nine_pass finite refl refl refl refl refl refl refl refl refl

pub common_good : {r : Float} → Common r → ratio_good r ≡ true
common_good c = rw c.is (all_each ratio_good common_ratios all_good_lem c.place nan c.inside)
