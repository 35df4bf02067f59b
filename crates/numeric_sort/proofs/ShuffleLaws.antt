-- A permutation of a list has its order: exchanges reach it, and each keeps the order.
use mathlib.Core.Path.{◌≡◌, refl, ◌∙◌}
use mathlib.Core.List.{List}
use Prim.Native.Nat.{ℕ}
use lib.Dec.{T}
use lib.ListN.{get_or}
use lib.Ieee.{Float, nan, binary64, fits}
use Rattle.std.specs.List.Sorted.{IsPermutation}
use Rattle.std.proofs.lemmas.List.Sorted.{IsPermutation-keeps}
use Rattle.numeric_sort.specs.Ordered.{ordered, AllFinite}
use Rattle.numeric_sort.proofs.InsertLaws.{Numbers}
use Rattle.numeric_sort.proofs.OrderedLaws.{numbers-swap, ordered-swap, slice_numbers}

record SameOrder (old new : List Float) : Type 0 where
  numbers : Numbers new
  same_order : ordered new ≡ ordered old

shuffled : {old new : List Float} → IsPermutation old new → Numbers old → SameOrder old new
shuffled {old} {new} s n =
    IsPermutation-keeps old (SameOrder old) (record { numbers = n; same_order = refl })
    (λ l i j h k x. record { numbers = numbers-swap i j x.numbers h k; same_order = ordered-swap i j x.numbers h k ∙ x.same_order })
    new s

pub numbers-shuffled : {old new : List Float} → IsPermutation old new → Numbers old → Numbers new
numbers-shuffled s n = (shuffled s n).numbers

pub ordered-shuffled : {old new : List Float} → IsPermutation old new → Numbers old → ordered new ≡ ordered old
ordered-shuffled s n = (shuffled s n).same_order

-- the like of finite values, as a slice has them
pub finite_ordered : {old new : List Float} → AllFinite old → ((i : ℕ) → T (fits binary64 (get_or old i nan))) → IsPermutation old new
    → ordered new ≡ ordered old
finite_ordered a f s = ordered-shuffled s (slice_numbers a f)
