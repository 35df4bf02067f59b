-- What is said of each note, object by object: one number an object, known by its place, and fixed by what is said of the numbers below the number of notes.
use mathlib.Core.Path.{◌≡◌, refl, sym, ◌∙◌}
use mathlib.Core.Bool.{Bool, true, false, cond}
use mathlib.Core.List.{List}
use Prim.Native.Nat.{ℕ, ◌<◌}
use native.Mathlib.Omega.{arith}
use lib.ListN.{length, get_or}
use lib.Seq.{ext_get_or}
use Rattle.lent.proofs.FillLaws.{length-tabulate, get_or-tabulate}
use Rattle.grouping_chart.specs.Object.{is_note, notes, note_idx}
use Rattle.grouping_interval.proofs.NoteLaws.{length_note_objects, note_within}
use Rattle.call_rhythm.specs.Rhythm.{per_note}

-- a note's number is below the number of notes
pub note_below : (kinds : List ℕ) (i : ℕ) → i < length kinds → is_note (get_or kinds i 0) ≡ true → note_idx kinds i < length (notes kinds)
note_below kinds i h n = omega (arith, note_within kinds i h n, length_note_objects kinds)

module _ {A : Type 0} (none : A) where
  pub length_per_note : (f : ℕ → A) (kinds : List ℕ) → length (per_note none f kinds) ≡ length kinds
  unfolding per_note
  length_per_note f kinds = length-tabulate (λ (i : ℕ). cond (is_note (get_or kinds i 0)) (f (note_idx kinds i)) none) (length kinds)

  pub per_note_at : (f : ℕ → A) (kinds : List ℕ) (i : ℕ) (z : A) → i < length kinds
      → get_or (per_note none f kinds) i z ≡ cond (is_note (get_or kinds i 0)) (f (note_idx kinds i)) none
  unfolding per_note
  per_note_at f kinds i z h = get_or-tabulate (λ (i : ℕ). cond (is_note (get_or kinds i 0)) (f (note_idx kinds i)) none) (length kinds) i z h

  -- two choices that agree where the first is made
  pub same_where : (b : Bool) (x y : A) → (b ≡ true → x ≡ y) → cond b x none ≡ cond b y none
  same_where true x y e = e refl
  same_where false x y e = refl

  pub per_note_ext : (f g : ℕ → A) (kinds : List ℕ) → ((j : ℕ) → j < length (notes kinds) → f j ≡ g j) → per_note none f kinds ≡ per_note none g kinds
  per_note_ext f g kinds e =
      ext_get_or none (per_note none f kinds) (per_note none g kinds) (length_per_note f kinds ∙ sym (length_per_note g kinds))
      (λ i p. let h : i < length kinds = omega (arith, length_per_note f kinds) in
      per_note_at f kinds i none h
      ∙ same_where (is_note (get_or kinds i 0)) (f (note_idx kinds i)) (g (note_idx kinds i)) (λ n. e (note_idx kinds i) (note_below kinds i h n))
      ∙ sym (per_note_at g kinds i none h))
