-- Slices that are lent are fronts of longer lists, of one value throughout.
use mathlib.Core.Path.{◌≡◌, sym}
use mathlib.Core.List.{List}
use Prim.Native.Nat.{ℕ, ◌+◌, ◌*◌, ◌≤◌}
use native.Mathlib.Omega.{arith}
use lib.ListN.{length, take, replicate}
use lib.Seq.{length-take-le}
use lib.Ieee.{Float, binary64, of_bits}
use Rattle.std.proofs.lemmas.List.{take-replicate}
use Rattle.numeric.specs.Constants.{one64}
use Rattle.grouping_chart.specs.Chart.{largest}
use Rattle.vectors.specs.Sentinel.{number_sentinel, byte_sentinel, float_sentinel, numbers_lent, floats_lent, work_lent}
use Rattle.vectors.specs.passes.Room.{most_places, most_work, Few}

-- 1.0 as code has it
abbrev pub code_one : Float
code_one = of_bits binary64 0x3FF0_0000_0000_0000

module _ {n spare : ℕ} (few : Few n spare) where
  pub ones_lent : take n (replicate largest code_one) ≡ replicate n one64
  unfolding of_bits
  ones_lent = take-replicate n largest one64 few.objects

  pub numbers-lent : take (n + spare) (replicate most_places number_sentinel) ≡ numbers_lent n spare
  numbers-lent = take-replicate (n + spare) most_places number_sentinel (omega arith)

  pub bytes-lent : take (n + spare) (replicate most_places byte_sentinel) ≡ replicate (n + spare) byte_sentinel
  bytes-lent = take-replicate (n + spare) most_places byte_sentinel (omega arith)

  pub floats-lent : take (n + spare) (replicate most_places float_sentinel) ≡ floats_lent n spare
  floats-lent = take-replicate (n + spare) most_places float_sentinel (omega arith)

  pub work-lent : take (8 * n + spare) (replicate most_work number_sentinel) ≡ work_lent n spare
  work-lent = take-replicate (8 * n + spare) most_work number_sentinel (omega arith)

-- a front has as many places as are asked for, where there are so many
pub front_counts : {A : Type 0} (k : ℕ) (xs : List A) → k ≤ length xs → k ≡ length (take k xs)
front_counts k xs h = sym (length-take-le k xs h)
