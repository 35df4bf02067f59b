-- Two walks over a chart's notes that stand alike, whatever they passed: the same note is the previous one of an object, and they stay
-- alike. A note makes any two alike.
use mathlib.Core.Path.{◌≡◌, refl, sym, ◌∙◌}
use mathlib.Core.List.{List, [], ◌∷◌}
use mathlib.Core.Bool.{Bool, true, false, cond}
use Prim.Native.Nat.{ℕ, ◌+◌}
use native.Mathlib.Omega.{arith}
use lib.Dec.{eqb}
use borrow.Author.Tests.{ne_eqb}
use Rattle.std.specs.Prelude.{Some, None}
use Rattle.grouping_chart.specs.Object.{is_note}
use Rattle.grouping_chart.proofs.ObjectLaws.{Seen, seen_next, seen_after, previous_seen}

-- ---- the walk, step by step

pub seen_after_none : (s : Seen) → seen_after s [] ≡ s
unfolding seen_after
seen_after_none s = refl

pub seen_after_first : (s : Seen) (k : ℕ) (ks : List ℕ) → seen_after s (k ∷ ks) ≡ seen_after (seen_next s k) ks
unfolding seen_after
seen_after_first s k ks = refl

pub previous_seen_by : (s : Seen) (k : ℕ) → previous_seen s k ≡ cond (is_note k) (cond (eqb s.notes 0) None (Some s.last)) None
unfolding previous_seen
previous_seen_by s k = refl

-- ---- two walks

-- the same last note, and the same answer to whether there is one
pub record Alike (s t : Seen) : Type 0 where
  pub last : s.last ≡ t.last
  pub any : eqb s.notes 0 ≡ eqb t.notes 0

pub previous_alike : (s t : Seen) (k : ℕ) → Alike s t → previous_seen s k ≡ previous_seen t k
unfolding previous_seen
previous_alike s t k a = rw (a.last, a.any)

counted : (n m : ℕ) → eqb (n + 1) 0 ≡ eqb (m + 1) 0
counted n m =
    let f : n + 1 ≡ 0 → ⊥ = λ e. omega arith in
    let g : m + 1 ≡ 0 → ⊥ = λ e. omega arith in
    ne_eqb (n + 1) 0 f ∙ sym (ne_eqb (m + 1) 0 g)

pub next_alike : (s t : Seen) (k : ℕ) → Alike s t → Alike (seen_next s k) (seen_next t k)
unfolding seen_next
next_alike s t k a = by (is_note k)
  where
    by : (b : Bool) → Alike (cond b (record { notes = s.notes + 1; last = k }) s) (cond b (record { notes = t.notes + 1; last = k }) t)
    by true = record { last = refl; any = counted s.notes t.notes }
    by false = a

-- a note hides what stood before it
pub note_alike : (s t : Seen) (k : ℕ) → is_note k ≡ true → Alike (seen_next s k) (seen_next t k)
unfolding seen_next
note_alike s t k e = rw e (record { last = refl; any = counted s.notes t.notes })
