-- What slices are lent with, and what a call must leave in them.
use Rattle.std.specs.Prelude.{List, map, ℕ, ◌+◌, ◌*◌, replicate, Float}
use Rattle.std.specs.Float.{binary64}
use Rattle.std.specs.Float.Ieee.{to_bits, of_bits}
use Rattle.vectors.specs.Held.{FrontHeld}

-- ---- sentinels, which are no answers

-- a number of a group or a note is below 16,384, and where there is none stands 65,535
abbrev pub number_sentinel : ℕ
number_sentinel = 48879

-- an interval is at most 17, and a kind at most 2
abbrev pub byte_sentinel : ℕ
byte_sentinel = 190

-- 1.0e300 below zero: a value is at most 83,886,085 in size, and a start, a delta or a ratio that is built at most
-- 2 ^ 24
abbrev pub float_sentinel : Float
float_sentinel = of_bits binary64 0xFE37_E43C_8800_759C

-- ---- what is lent for n objects, with so many places to spare

abbrev pub numbers_lent : ℕ → ℕ → List ℕ
numbers_lent n spare = replicate (n + spare) number_sentinel

abbrev pub floats_lent : ℕ → ℕ → List Float
floats_lent n spare = replicate (n + spare) float_sentinel

-- eight places for each object
abbrev pub work_lent : ℕ → ℕ → List ℕ
work_lent n spare = replicate (8 * n + spare) number_sentinel

-- ---- what is left

-- the work slices: 8n zeros and n times +0.0, and every place past them holds the sentinel
pub record Cleared (n : ℕ) (work : List ℕ) (scratch : List Float) : Type 0 where
  pub numbers : FrontHeld (replicate (8 * n) 0) number_sentinel work
  pub floats : FrontHeld (replicate n 0) (to_bits binary64 float_sentinel) (map (to_bits binary64) scratch)
