-- A value in tenths: the whole number nearest to ten times it, at an exact half the even one (scope: stretch, as
-- request 4/12 has it). A finite x is m * up e / down e in size, so ten times x is an exact fraction.
use Rattle.std.specs.Prelude.{Bool, true, false, ◌≡◌, ℕ, ◌*◌, ◌%◌, ◌≤◌, T, ℤ, pos, neg_ℤ, nat_abs, ◌-ℤ◌, ◌*ℤ◌, Float}
use Rattle.std.specs.Float.{nan, inf, fin}
use Rattle.std.specs.Float.Ieee.{up, down, lt}
use Rattle.std.specs.Float.Ieee.Nearest.{closest}
use Rattle.std.specs.Float.Ieee.Positive.{den}
use Rattle.std.specs.Float.Ieee.Scale.{finite}

-- n with the sign s, which is true below zero
abbrev pub with_sign : Bool → ℕ → ℤ
with_sign false n = pos n
with_sign true n = neg_ℤ (pos n)

-- The kit's `closest a b` is the whole number nearest to the fraction a / b, at a tie the even one. A number and its
-- negative are both even or both odd, so the sign stands outside.
-- What a NaN or an infinity gives is not asked for: `InTenthsRange` rules them out.
unfoldable pub tenths_of : Float → ℤ
tenths_of nan = pos 0
tenths_of (inf s) = pos 0
tenths_of (fin s m e) = with_sign s (closest (10 * (m * up e)) (down e))

-- |10 x − t| is off_tenfold x t / den x
abbrev pub off_tenfold : Float → ℤ → ℕ
off_tenfold nan t = 0
off_tenfold (inf s) t = 0
off_tenfold (fin s m e) t = nat_abs (with_sign s (10 * (m * up e)) -ℤ t *ℤ pos (down e))

-- |10 x − t| ≤ 1/2, and t is even where they are equal. It holds of `tenths_of x` (`tenths_nearest`) and of no other
-- whole number (`tenths_only`, both in proofs/tenths/Nearest.antt).
pub record NearestTenths (x : Float) (t : ℤ) : Type 0 where
  pub is_finite : T (finite x)
  pub within : 2 * off_tenfold x t ≤ den x
  pub even : 2 * off_tenfold x t ≡ den x → nat_abs t % 2 ≡ 0

-- the values whose tenths can be asked: between -2 ^ 53 and 2 ^ 53
pub record InTenthsRange (x : Float) : Type 0 where
  pub above : T (lt (fin true 1 (pos 53)) x)
  pub below : T (lt x (fin false 1 (pos 53)))
