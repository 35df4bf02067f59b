-- `comparison` compares by two keys in turn, the number with the NaN last and then the sign, and so it is a strict weak order. Of two finite values the one
-- that is not less stands at or behind the other.
use mathlib.Core.Path.{◌≡◌, refl, sym, ◌∙◌, subst}
use mathlib.Core.Logic.{◌⊎◌, ⊎_elim}
use mathlib.Core.Bool.{Bool, true, false, not, ◌||◌, cond, true≢false}
use lib.Dec.{T}
use lib.Ieee.{Float, nan, inf, fin, is_nan}
use Rattle.std.specs.Cmp.{IsStrictWeakOrder, bool_cmp_total}
use Rattle.std.specs.Ordering.{is_lt, bool_cmp, nan_last_cmp, then_cmp, on}
use Rattle.std.specs.declared.cmp.Ordering.{Ordering}
use Rattle.std.specs.declared.cmp.Ordering.TheVariants.{Less}
use Rattle.std.proofs.lemmas.Float.{nan_last}
use Rattle.std.proofs.lemmas.List.Sorted.{ranks_by, sorted_far}
use Rattle.std.specs.List.Sorted.{IsPermutation, IsSortedBy}
use mathlib.Core.List.{List}
use native.Mathlib.Omega.{arith}
use Rattle.numeric_sort.specs.Ordered.{ordered}
use Rattle.numeric_sort.proofs.InsertLaws.{Numbers}
use Rattle.numeric_sort.proofs.OrderedLaws.{number_at, ordered_same}
use Rattle.numeric_sort.proofs.ShuffleLaws.{numbers-shuffled, ordered-shuffled}
use Rattle.std.proofs.lemmas.Cmp.{then_total, on_total}
use Rattle.numeric.specs.TotalOrder.{total_order}
use Rattle.numeric.proofs.order.Keys.{plus, compared_by_keys, other_before}
use Rattle.numeric.proofs.Values.{Number, number_no_nan}
use Rattle.numeric.proofs.order.Laws.{total}
use Rattle.numeric_sort.specs.passes.Sort.{comparison}

-- the order by the two keys
abbrev by_keys : Float → Float → Ordering
by_keys = then_cmp nan_last_cmp (on plus bool_cmp)

comparison_by_keys : (x y : Float) → comparison x y ≡ by_keys x y
unfolding is_nan
comparison_by_keys nan nan = refl
comparison_by_keys nan (inf t) = refl
comparison_by_keys nan (fin t n d) = refl
comparison_by_keys (inf s) nan = refl
comparison_by_keys (inf s) (inf t) = compared_by_keys (inf s) (inf t) tt tt
comparison_by_keys (inf s) (fin t n d) = compared_by_keys (inf s) (fin t n d) tt tt
comparison_by_keys (fin s m e) nan = refl
comparison_by_keys (fin s m e) (inf t) = compared_by_keys (fin s m e) (inf t) tt tt
comparison_by_keys (fin s m e) (fin t n d) = compared_by_keys (fin s m e) (fin t n d) tt tt

-- of two numbers, where the second does not stand at or before the first
pub comparison-less : (x y : Float) → is_nan x ≡ false → is_nan y ≡ false → total_order y x ≡ false → Less ≡ comparison x y
unfolding is_nan
comparison-less nan y p q h = absurd (true≢false p)
comparison-less (inf s) nan p q h = absurd (true≢false q)
comparison-less (inf s) (inf t) p q h = rw (h, other_before (inf s) (inf t) tt tt h) refl
comparison-less (inf s) (fin t n d) p q h = rw (h, other_before (inf s) (fin t n d) tt tt h) refl
comparison-less (fin s m e) nan p q h = absurd (true≢false q)
comparison-less (fin s m e) (inf t) p q h = rw (h, other_before (fin s m e) (inf t) tt tt h) refl
comparison-less (fin s m e) (fin t n d) p q h = rw (h, other_before (fin s m e) (fin t n d) tt tt h) refl

pub comparison_ranks : IsStrictWeakOrder (λ x y. is_lt (comparison x y))
comparison_ranks =
    subst IsStrictWeakOrder (λ i x y. is_lt (sym (comparison_by_keys x y) i))
    (ranks_by (then_total nan_last (on_total plus bool_cmp_total)) (λ x. x))

-- of finite values
pub at_or_before : {x y : Float} → Number x → Number y → is_lt (comparison y x) ≡ false → T (total_order x y)
at_or_before {x} {y} p q e = by (total_order x y) (total_order y x) (total p q) (sym (compared (is_nan y) (is_nan x) _ (number_no_nan q) (number_no_nan p)) ∙ e)
  where
    compared : (a b : Bool) (o : Ordering) → T (not a) → T (not b) → is_lt (cond (a || b) (bool_cmp a b) o) ≡ is_lt o
    compared true b o h k = absurd h
    compared false true o h k = absurd k
    compared false false o h k = refl

    by : (a b : Bool) → T a ⊎ T b → is_lt (bool_cmp a b) ≡ false → T a
    by true b h e = tt
    by false true h e = absurd (true≢false e)
    by false false h e = ⊎_elim (λ t. t) (λ t. t) h

-- what a sort by it leaves
pub sorted_ordered : {old new : List Float} → Numbers old → IsPermutation old new → IsSortedBy (λ x y. is_lt (comparison x y)) new → new ≡ ordered old
sorted_ordered {new = new} n s up =
    let m : Numbers new = numbers-shuffled s n in
    sym
    (ordered_same m
    (λ i j h k.
    at_or_before (number_at i m (omega arith)) (number_at j m k)
    (sorted_far (λ x y. is_lt (comparison x y)) comparison_ranks new up i j nan (omega arith) k)))
    ∙ ordered-shuffled s n
