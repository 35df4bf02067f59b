-- Floats made of stored bits: a pattern above infinity's, its sign taken off, is a NaN's, and any other is not.
use mathlib.Core.Path.{◌≡◌, refl, sym, subst, ◌∙◌}
use mathlib.Core.Bool.{Bool, true, not}
use Prim.Native.Nat.{ℕ, ◌%◌, ◌≤◌, ◌<◌}
use borrow.Author.Tests.{lt-ltb, le-ltb}
use lib.Dec.{T}
use lib.Ieee.{Float, nan, inf, fin, binary64, is_nan, of_bits, nan_bits}
use lib.Ieee.Bits.{nan_bits_is, nan_bits_above}
use Rattle.lent.proofs.NeverLaws.{never}

only_nan : (x : Float) → is_nan x ≡ true → nan ≡ x
unfolding is_nan
only_nan nan h = refl
only_nan (inf s) h = never (cc)
only_nan (fin s m e) h = never (cc)

pub a_nan : (n : ℕ) → 0x7FF0_0000_0000_0000 < n % 0x8000_0000_0000_0000 → nan ≡ of_bits binary64 n
a_nan n h = only_nan (of_bits binary64 n) (sym (nan_bits_is binary64 n) ∙ nan_bits_above binary64 n ∙ lt-ltb _ _ h)

pub no_nan : (n : ℕ) → n % 0x8000_0000_0000_0000 ≤ 0x7FF0_0000_0000_0000 → T (not (nan_bits binary64 n))
no_nan n h = subst (λ (b : Bool). T (not b)) (sym (nan_bits_above binary64 n ∙ le-ltb _ _ h)) tt
