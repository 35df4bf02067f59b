-- The own intervals of groups, one group at a time: the last four, and those of the groups left.
use mathlib.Core.Path.{◌≡◌, refl, sym, ap, ◌∙◌}
use mathlib.Core.List.{List, ◌∷◌}
use Prim.Native.Nat.{ℕ, suc, ◌+◌}
use native.Mathlib.Numerals.{add-one}
use native.Mathlib.Omega.{arith}
use lib.ListN.{drop, get_or}
use lib.Seq.{drop-drop, get_or-drop}
use lib.Ieee.{Float}
use Rattle.grouping_same_rhythm.specs.passes.Owns.{recent_with}
use Rattle.std.specs.Prelude.{Option, None}
use Rattle.grouping_same_rhythm.specs.declared.owns.Recent.{Recent}
use Rattle.grouping_same_rhythm.specs.Own.{modal_delta, snapped, owns_after, owns_of}
use Rattle.grouping_same_rhythm.specs.Own.{own_before, recent_of}

-- the own intervals of the four groups before group k
unfoldable pub recent_before : List (Option Float) → ℕ → Recent
recent_before owns k = record { newest = own_before owns k 1; second = own_before owns k 2; third = own_before owns k 3; fourth = own_before owns k 4 }

-- k groups are behind, and `groups` are those to come
pub record Known (margin : Float) (owns : List (Option Float)) (k : ℕ) (recent : Recent) (groups : List (List Float)) : Type 0 where
  pub four : recent ≡ recent_before owns k
  pub next : drop k owns ≡ owns_after margin recent.newest groups

pub known-start : (margin : Float) (groups : List (List Float))
    → Known margin (owns_of margin groups) 0 (record { newest = None; second = None; third = None; fourth = None }) groups
unfolding recent_before own_before owns_of
known-start margin groups = record { four = refl; next = refl }

pub known_turn : {margin : Float} {owns : List (Option Float)} {k : ℕ} {recent : Recent} {group : List Float} {groups : List (List Float)}
    → Known margin owns k recent (group ∷ groups) → (own : Option Float) → own ≡ modal_delta margin group
    → (new : Recent) → new ≡ recent_with (snapped margin own recent.newest) recent → Known margin owns (suc k) new groups
unfolding recent_before own_before owns_after
known_turn {margin} {owns} {k} {recent} {group} {groups} x own m new e =
    let first : Option Float → List (Option Float) = λ p. snapped margin p recent.newest ∷ owns_after margin (snapped margin p recent.newest) groups in
    by (snapped margin own recent.newest) (x.next ∙ ap first (sym m)) e
  where
    by : (o : Option Float) → drop k owns ≡ o ∷ owns_after margin o groups → new ≡ recent_with o recent → Known margin owns (suc k) new groups
    by o d e =
        let z : k + 0 ≡ k = omega arith in
        let n : o ≡ get_or owns k None =
        (rw d at (get_or-drop k owns 0 None)) ∙ rw z in
        record {
          four = e ∙ rw (n, x.four);
          next =
              rw (← add-one k, ← drop-drop 1 k owns, d, e);
        }

pub known-end : {margin : Float} {owns : List (Option Float)} {g : ℕ} {recent : Recent} {groups : List (List Float)}
    → Known margin owns (suc g) recent groups → recent ≡ recent_of owns g
unfolding recent_before recent_of own_before
known-end x = x.four
