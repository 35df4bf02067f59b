-- The constant 0.8: the bits of the literal, and its size.
use mathlib.Core.Path.{◌≡◌, refl}
use Prim.Native.Nat.{◌^◌}
use native.Mathlib.Nat.{zero-lt-suc}
use lib.Dec.{leb→le}
use mathlib.Core.Bool.{false}
use lib.Ieee.{binary64, of_bits, round}
use Rattle.numeric.specs.Constants.{eight_tenths}
use Rattle.numeric.proofs.Bounded.{Bounded, round_bounded}

pub eight_tenths_bits : of_bits binary64 0x3fe9_9999_9999_999a ≡ eight_tenths
unfolding eight_tenths of_bits round
eight_tenths_bits = refl

pub eight_tenths_bounded : Bounded eight_tenths 1
unfolding eight_tenths
eight_tenths_bounded = round_bounded false 8 10 1 (zero-lt-suc 9) (leb→le 1 (2 ^ 53) tt) (leb→le 8 10 tt)
