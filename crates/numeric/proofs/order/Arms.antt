-- What the answers of `total_order` cite: of equal values the signs tell.
use Rattle.std.proofs.Common.{◌≡◌, refl, sym, subst, Bool, true, false}
use mathlib.Core.Bool.{not, ◌||◌, false≢true}
use lib.Dec.{T}
use lib.Ieee.{Float, nan, inf, fin, lt, eq, is_nan}
use Rattle.std.specs.Float.{NotNan, is_sign_negative}
use Rattle.std.proofs.lemmas.Float.{eq-not_lt}
use Rattle.numeric.specs.TotalOrder.{negative, total_order}

pub right_number : (x y : Float) → eq x y ≡ true → NotNan y
unfolding eq is_nan
right_number nan y h = absurd (false≢true h)
right_number (inf s) nan h = absurd (false≢true h)
right_number (fin s m e) nan h = absurd (false≢true h)
right_number x (inf t) h = tt
right_number x (fin t n d) h = tt

negative_is : (x : Float) → is_sign_negative x ≡ negative x
unfolding is_sign_negative
negative_is nan = refl
negative_is (inf s) = refl
negative_is (fin s m e) = refl

not_less : (b : Bool) → (T b → ⊥) → b ≡ false
not_less true h = absurd (h tt)
not_less false h = refl

pub equal : (x y : Float) → eq x y ≡ true → (is_sign_negative x || not (is_sign_negative y)) ≡ total_order x y
unfolding total_order
equal x y h =
    rw (negative_is x, negative_is y, h, not_less (lt x y) (eq-not_lt x y (subst T (sym h) tt))) refl
