-- 0 − q on i64: it has room, and its value is minus q, for every q below 2 ^ 63.
use mathlib.Core.Path.{◌≡◌, ◌∙◌}
use Prim.Native.Nat.{ℕ, zero, suc, ◌^◌, ◌<◌}
use native.Mathlib.Omega.{arith}
use lib.IntN.{pos, neg_ℤ, ◌-ℤ◌, +ℤ_idl}
use lib.Pow.{pow_pos}
use mir.Facts.{to_z-of_z}
use mir.Syntax.{w64}
use mir.Val.{SFits, to_z, of_z}
use mir.ValLaws.{to_z_pos}

zero_minus : (q : ℕ) → q < 2 ^ 63 → pos 0 -ℤ to_z w64 q ≡ neg_ℤ (pos q)
zero_minus q h = rw (to_z_pos w64 q h) (+ℤ_idl (neg_ℤ (pos q)))

negative-fits : (q : ℕ) → q < 2 ^ 63 → SFits w64 (neg_ℤ (pos q))
negative-fits zero h = record { sfits = pow_pos 63 }
negative-fits (suc q) h = record { sfits = omega arith }

pub minus_fits : (q : ℕ) → q < 2 ^ 63 → SFits w64 (pos 0 -ℤ to_z w64 q)
minus_fits q h = rw (zero_minus q h) (negative-fits q h)

pub minus_is : (q : ℕ) → q < 2 ^ 63 → to_z w64 (of_z w64 (pos 0 -ℤ to_z w64 q)) ≡ neg_ℤ (pos q)
minus_is q h = to_z-of_z (minus_fits q h) ∙ zero_minus q h
