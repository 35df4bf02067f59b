-- Two lists whose last t items are alike: counterparts among these are the same, and have the same items behind them.
use mathlib.Core.Path.{◌≡◌, sym, ap}
use mathlib.Core.List.{List}
use Prim.Native.Nat.{ℕ, ◌+◌, ◌-◌, ◌≤◌}
use native.Mathlib.Numerals.{unary_clauses}
use native.Mathlib.Omega.{arith}
use lib.ListN.{length, drop, get_or}
use lib.Seq.{drop-drop, get_or-drop}
use Rattle.agreement.specs.CommonTail.{Counterparts, SameLast}

pub last_sym : {A : Type 0} {t : ℕ} {xs ys : List A} → SameLast t xs ys → SameLast t ys xs
last_sym s = record { inside = s.inside'; inside' = s.inside; alike = sym s.alike }

module _ {A : Type 0} {t : ℕ} {xs ys : List A} (s : SameLast t xs ys) (p q : ℕ) (h : length xs ≤ p + t) (c : Counterparts (length xs) (length ys) p q) where
  pub same_behind : drop p xs ≡ drop q ys
  same_behind =
      let k : ℕ = p + t - length xs in
      let a : p ≡ length xs - t + k = omega (arith, s.inside) in
      let b : q ≡ length ys - t + k = omega (arith, s.inside, s.inside') in
      rw (a, b, ← drop-drop k (length xs - t) xs, ← drop-drop k (length ys - t) ys) (ap (drop k) s.alike)

  pub same_at : (d : A) → get_or xs p d ≡ get_or ys q d
  same_at d =
      let first : get_or (drop p xs) 0 d ≡ get_or (drop q ys) 0 d = rw same_behind in
      simp (get_or-drop, unary_clauses) at first
