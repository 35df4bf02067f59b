-- Bounds of 1 ÷ (1 + x^(n − 2)) that are tested at the two ends of the bracket hold at every x in it.
use mathlib.Core.Bool.{Bool, ◌&&◌}
use Prim.Native.Nat.{ℕ, ◌*◌}
use lib.Dec.{T, ltb, ltb→lt}
use lib.Ieee.Fits.{and_l, and_r}
use Rattle.numeric.specs.LogisticNearest.{scale, low_end, high_end, Around, value_num, value_den}
use Rattle.numeric.proofs.logistic.Between.{value_den_pos, value-between, Inside, inside}

module _ (k low high n : ℕ) where
  abbrev at_end : ℕ → Bool
  at_end end = ltb (low * value_den end scale n) (k * value_num end scale n) && ltb (k * value_num end scale n) (high * value_den end scale n)

  abbrev pub at_ends : Bool
  at_ends = at_end low_end && at_end high_end

  inside_at : (end : ℕ) → T (at_end end) → Inside k low high (value_num end scale n) (value_den end scale n)
  inside_at end t =
      let a = value_num end scale n in
      let c = value_den end scale n in
      let p = ltb (low * c) (k * a) in
      let q = ltb (k * a) (high * c) in
      (ltb→lt (low * c) (k * a) (and_l p q t), ltb→lt (k * a) (high * c) (and_r p q t))

  pub inside-bracket : {p q : ℕ} → Around p q → T at_ends → Inside k low high (value_num p q n) (value_den p q n)
  inside-bracket {p} {q} x t =
      inside k low high (value_num low_end scale n) (value_den low_end scale n) (value_num p q n) (value_den p q n)
      (value_num high_end scale n) (value_den high_end scale n)
      (value_den_pos p q n x.divides)
      (inside_at low_end (and_l (at_end low_end) (at_end high_end) t))
      (inside_at high_end (and_r (at_end low_end) (at_end high_end) t))
      (value-between n low_end scale p q high_end scale x.from x.to)
