-- Only nan is a NaN, and its pattern.
use Rattle.std.proofs.Common.{◌≡◌, refl, true}
use lib.Ieee.{Float, nan, inf, fin, binary64, is_nan, to_bits}

pub nan_alone : (x : Float) → is_nan x ≡ true → x ≡ nan
unfolding is_nan
nan_alone nan h = refl
nan_alone (inf s) h = cc
nan_alone (fin s m e) h = cc

pub nan-bits : to_bits binary64 nan ≡ 0x7FF8_0000_0000_0000
unfolding to_bits
nan-bits = refl
