-- Loops over a slice that write as they go. A walk that puts what it emits in place of what it reads: the laws of the start, of a turn
-- and of the end. A loop that stores the goal list from the front on, each element in as many turns as it likes: its invariant and laws.
use mathlib.Core.Path.{◌≡◌, refl, sym, ap, ◌∙◌}
use mathlib.Core.Logic.{inr}
use mathlib.Core.List.{List, [], ◌∷◌, ◌++◌, append_assoc}
use Prim.Native.Nat.{ℕ, suc, ◌+◌, ◌≤◌, ◌<◌}
use native.Mathlib.Numerals.{add-one}
use native.Mathlib.Omega.{arith}
use lib.ListN.{length, take, drop, get_or, set, length-set, length-append}
use lib.Seq.{take-suc-set, take-set-le, drop-set-lt, length-take-le, drop-drop, set_split}
use Rattle.lent.specs.Over.{over}
use Rattle.lent.specs.Scan.{scan}
use Rattle.lent.proofs.PieceLaws.{over_whole}
use Rattle.lent.proofs.FillLaws.{fill_unread}
use Rattle.lent.proofs.ScanLaws.{Walk, start, turn_front, ended_front, length-scan}

module _ {S : Type 0} (next : S → ℕ → S) (emit : S → ℕ → ℕ) (s₀ : S) (xs : List ℕ) where
  -- i elements of xs have given place to what is emitted for them, and s is the present state
  abbrev pub InPlace : List ℕ → S → ℕ → Type 0
  InPlace w s i = Walk next emit s₀ xs (length xs) 0 xs w s i

  pub place_start : InPlace xs s₀ 0
  place_start = start next emit s₀ xs (length xs) 0 xs refl (omega arith)

module _ {S : Type 0} {next : S → ℕ → S} {emit : S → ℕ → ℕ} {s₀ : S} {xs w : List ℕ} {s : S} {i : ℕ} (x : Walk next emit s₀ xs (length xs) 0 xs w s i) where
  -- what is read next is as it was
  pub place_read : get_or w i 0 ≡ get_or xs i 0
  place_read = fill_unread i 0 x.fill (inr (omega arith))

  pub place_turn : {s' : S} {v : ℕ} → i < length xs → v ≡ emit s (get_or w i 0) → s' ≡ next s (get_or w i 0)
      → Walk next emit s₀ xs (length xs) 0 xs (set w i v) s' (i + 1)
  place_turn h q e = turn_front 0 x h (q ∙ ap (emit s) place_read) (e ∙ ap (next s) place_read)

  pub place_end : length xs ≤ i → w ≡ scan next emit s₀ xs
  place_end h = ended_front x h ∙ over_whole (scan next emit s₀ xs) xs (length-scan next emit s₀ xs)

-- the goal g is written over w₀, now w: its first j elements stand, and `rest` of it is left. Place j may hold anything.
pub record Ahead {A : Type 0} (g w₀ w : List A) (j : ℕ) (rest : List A) : Type 0 where
  pub goal : take j w ++ rest ≡ g
  pub behind : drop (j + 1) w ≡ drop (j + 1) w₀
  pub long : length w ≡ length w₀
  pub within : j < length w₀

module _ {A : Type 0} where
  pub ahead_start : (g w : List A) → 0 < length w → Ahead g w w 0 g
  ahead_start g w h = record { goal = refl; behind = refl; long = refl; within = h }

module _ {A : Type 0} {g w₀ w : List A} {j : ℕ} {rest : List A} (x : Ahead g w₀ w j rest) where
  -- something is stored there, and may be stored over
  pub ahead_stay : (v : A) → Ahead g w₀ (set w j v) j rest
  ahead_stay v = record {
    goal = rw (take-set-le j w j v (omega arith)) x.goal;
    behind = drop-set-lt (j + 1) w j v (omega arith) ∙ x.behind;
    long = length-set w j v ∙ x.long;
    within = x.within;
  }

  -- the next element of the goal is stored there
  pub ahead_next : {v : A} {left : List A} → rest ≡ v ∷ left → j + 1 < length w₀ → Ahead g w₀ (set w j v) (j + 1) left
  ahead_next {v} {left} e h =
      let t : take (j + 1) (set w j v) ≡ take j w ++ (v ∷ []) = rw add-one (take-suc-set w j v (omega arith)) in
      let d : drop (j + 1 + 1) w ≡ drop (j + 1 + 1) w₀ = sym (drop-drop 1 (j + 1) w) ∙ ap (drop 1) x.behind ∙ drop-drop 1 (j + 1) w₀ in
      record {
        goal = rw (t, append_assoc, ← e) x.goal;
        behind = drop-set-lt (j + 1 + 1) w j v (omega arith) ∙ d;
        long = length-set w j v ∙ x.long;
        within = h;
      }

  -- and it is the last
  pub ahead_end : {v : A} → rest ≡ v ∷ [] → (length g ≡ j + 1) × (set w j v ≡ over g w₀)
  unfolding over
  ahead_end {v} e =
      let l : length g ≡ j + 1 =
      omega (arith, ap length x.goal, length-append (take j w) rest, length-take-le j w (omega arith), ap length e) in
      let b : drop (suc j) w ≡ drop (j + 1) w₀ = rw (← add-one) x.behind in
      (l, set_split w j v (omega arith) ∙ rw (l, ← x.goal, e, b, append_assoc))
