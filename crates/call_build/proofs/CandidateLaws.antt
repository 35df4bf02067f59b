-- The pass over the common ratios: the candidate that it carries is the best ratio so far with its gap.
use mathlib.Core.Path.{◌≡◌, refl, ◌∙◌}
use mathlib.Core.Bool.{Bool, true, false, cond}
use mathlib.Core.List.{List, [], ◌∷◌}
use Prim.Native.Nat.{ℕ, zero, suc, ◌+◌, ◌<◌}
use native.Mathlib.Numerals.{add-one}
use native.Mathlib.Omega.{arith}
use lib.ListN.{length, take, get_or}
use lib.Ieee.{Float, lt}
use Rattle.numeric.specs.Near.{is_nearer}
use Rattle.numeric.specs.passes.Gap.{gap_of}
use Rattle.numeric.proofs.near.Gaps.{gaps_tell}
use Rattle.call_build.specs.Ratio.{nearer_of, nearest_of}
use Rattle.call_build.specs.passes.Candidate.{candidate_of}
use Rattle.call_build.specs.declared.ratio.Candidate.{Candidate}

either : {A B : Type 0} (f : A → B) (t : Bool) (x y : A) → cond t (f x) (f y) ≡ f (cond t x y)
either f true x y = refl
either f false x y = refl

-- the better of the candidate of b and that of r is the candidate of the better
pub candidate_next : (q b r : Float) {best next : Candidate} → best ≡ candidate_of q b
    → next ≡ cond (lt (gap_of r q) best.gap) (candidate_of q r) best → next ≡ candidate_of q (nearer_of q b r)
unfolding candidate_of nearer_of
candidate_next q b r e f =
    rw (e, gaps_tell q r b) at f ∙ either (candidate_of q) (is_nearer q r b) r b

-- one ratio more
nearest_suc : (q best : Float) (rs : List Float) (i : ℕ) (d : Float) → i < length rs
    → nearest_of q best (take (suc i) rs) ≡ nearer_of q (nearest_of q best (take i rs)) (get_or rs i d)
unfolding nearest_of
nearest_suc q best [] i d h = absurd (omega arith)
nearest_suc q best (r ∷ rs) zero d h = refl
nearest_suc q best (r ∷ rs) (suc i) d h = nearest_suc q (nearer_of q best r) rs i d (omega arith)

pub nearest-more : (q best : Float) (rs : List Float) (i : ℕ) (d : Float) → i < length rs
    → nearest_of q best (take (i + 1) rs) ≡ nearer_of q (nearest_of q best (take i rs)) (get_or rs i d)
nearest-more q best rs i d h = rw (add-one i) (nearest_suc q best rs i d h)
