-- The digits that are printed say the number.
use mathlib.Core.Path.{◌≡◌, refl}
use mathlib.Core.List.{List, [], ◌∷◌, ◌++◌}
use Prim.Native.Nat.{ℕ, ◌+◌, ◌-◌, ◌*◌, ◌/◌, ◌%◌, ◌^◌, ◌≤◌, ◌<◌}
use native.Mathlib.Omega.{arith}
use Rattle.std.specs.Fmt.{decimal}
use Rattle.std.proofs.lemmas.Fmt.{decimal_by_steps}

-- the number that digits say, after those that say a
unfoldable pub value : ℕ → List ℕ → ℕ
value a [] = a
value a (d ∷ ds) = value (a * 10 + (d - 48)) ds

value-append : (a : ℕ) (ds : List ℕ) (d : ℕ) → value a (ds ++ d ∷ []) ≡ value a ds * 10 + (d - 48)
unfolding value
value-append a [] d = refl
value-append a (e ∷ ds) d = value-append (a * 10 + (e - 48)) ds d

pub decimal-value : (n : ℕ) → n < 2 ^ 64 → value 0 (decimal n) ≡ n
unfolding value
decimal-value n h = decimal_by_steps (λ m ds. value 0 ds ≡ m) one more n h
  where
    one : (m : ℕ) → m < 10 → value 0 ((48 + m) ∷ []) ≡ m
    one m h = omega arith

    more : (m : ℕ) (ds : List ℕ) → 10 ≤ m → value 0 ds ≡ m / 10 → value 0 (ds ++ ((48 + m % 10) ∷ [])) ≡ m
    more m ds h e = rw (value-append 0 ds (48 + m % 10), e) (omega arith)
