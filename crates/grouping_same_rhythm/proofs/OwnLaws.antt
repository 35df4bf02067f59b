-- The own interval case by case: of few notes and of more, and snapped. Each case is what a match or a test hands over.
use mathlib.Core.Path.{◌≡◌, refl, ap, ◌∙◌}
use mathlib.Core.Bool.{Bool, cond}
use mathlib.Core.List.{List, [], ◌∷◌}
use Prim.Native.Nat.{◌≤◌, ◌<◌}
use native.Mathlib.Omega.{arith}
use lib.ListN.{length, get_or}
use lib.Ieee.{Float, nan}
use Rattle.numeric.specs.Near.{is_near}
use Rattle.numeric.specs.RoundTiesEven.{round_ties_even}
use Rattle.grouping_normalizer.specs.Normalizer.{normal_of, NormalOf}
use Rattle.grouping_normalizer.proofs.DistinctLaws.{few_left}
use Rattle.std.specs.Prelude.{Option, None, Some}
use Rattle.grouping_same_rhythm.specs.Own.{modal_delta, snapped}
use Rattle.grouping_same_rhythm.specs.passes.Owns.{Modal}

-- ---- found

-- of at most one note there is none
pub modal_few : (margin : Float) (deltas : List Float) → length deltas < 2 → Modal margin deltas deltas None
unfolding modal_delta
modal_few margin [] h = record { own = refl; left = few_left [] h }
modal_few margin (d ∷ []) h = record { own = refl; left = few_left (d ∷ []) h }
modal_few margin (d ∷ e ∷ deltas) h = absurd (omega arith)

-- of more it is what the second one counts as, to whole
pub modal_more : (margin : Float) (deltas₀ deltas : List Float) (second normal r : Float) → 2 ≤ length deltas₀
    → NormalOf margin deltas₀ deltas second normal → second ≡ get_or deltas₀ 1 nan → r ≡ round_ties_even normal → Modal margin deltas₀ deltas (Some r)
unfolding modal_delta
modal_more margin [] deltas second normal r h n s e = absurd (omega arith)
modal_more margin (d ∷ []) deltas second normal r h n s e = absurd (omega arith)
modal_more margin (d₁ ∷ d₂ ∷ rest) deltas second normal r h n s e = record {
  own = ap Some (e ∙ ap round_ties_even (n.answer ∙ ap (normal_of margin (d₁ ∷ d₂ ∷ rest)) s));
  left = n.values;
}

-- ---- snapped

module _ (margin : Float) (own previous : Option Float) where
  pub snap_absent : own ≡ None → None ≡ snapped margin own previous
  unfolding snapped
  snap_absent p = rw p

  pub snap_first : (x : Float) → own ≡ Some x → previous ≡ None → Some x ≡ snapped margin own previous
  unfolding snapped
  snap_first x p q = rw (p, q)

  -- by what the test found
  pub snap_both : (x y : Float) (b : Bool) → own ≡ Some x → previous ≡ Some y → is_near margin x y ≡ b
      → cond b (Some y) (Some x) ≡ snapped margin own previous
  unfolding snapped
  snap_both x y b p q e = rw (p, q, e)
