-- What is known where no slice is too short, and the tests of several slices joined. A call on a chart cites these.
use mathlib.Core.Path.{◌≡◌, refl, sym, ◌∙◌}
use mathlib.Core.Bool.{Bool, true, false, cond, ◌||◌, or-false, or_assoc}
use mathlib.Core.List.{List, [], ◌∷◌}
use Prim.Native.Nat.{ℕ, ◌*◌, ◌≤◌}
use borrow.Author.Tests.{ltb-false, le-ltb}
use lib.Dec.{ltb}
use Rattle.std.specs.Prelude.{Err}
use Rattle.std.proofs.lemmas.Bool.{or_parts}
use Rattle.lent.proofs.NeverLaws.{never}
use Rattle.grouping_chart.specs.declared.refusal.Reason.TheVariants.{ShortSlice}
use Rattle.grouping_chart.specs.Refusal.{passed}
use Rattle.grouping_chart.specs.Room.{any_short, short_refusal}

-- no slice is too short for n objects, by how many places the work slices have
pub record Roomy (answers : Bool) (n work scratch : ℕ) : Type 0 where
  pub answered : answers ≡ false
  pub regions : 8 * n ≤ work
  pub floats : n ≤ scratch

not_refused : (b : Bool) → cond b (Err ShortSlice) passed ≡ passed → b ≡ false
not_refused true e = never (cc)
not_refused false e = refl

pub roomy : (answers : Bool) (n work scratch : ℕ) → short_refusal answers n work scratch ≡ passed → Roomy answers n work scratch
unfolding short_refusal
roomy answers n work scratch e =
    let a = or_parts _ _ (not_refused (answers || (ltb work (8 * n) || ltb scratch n)) e) in
    let b = or_parts _ _ a.1 in
    record { answered = a.0; regions = ltb-false _ _ b.0; floats = ltb-false _ _ b.1 }

-- and where no slice is too short nothing is refused
pub room_passed : {answers : Bool} {n work scratch : ℕ} → Roomy answers n work scratch → short_refusal answers n work scratch ≡ passed
unfolding short_refusal
room_passed {n} {work} {scratch} r = rw (r.answered, le-ltb work (8 * n) r.regions, le-ltb scratch n r.floats)

-- ---- the answer slices, one after another

pub long_enough : (n l : ℕ) (ls : List ℕ) → any_short n (l ∷ ls) ≡ false → (n ≤ l) × (any_short n ls ≡ false)
unfolding any_short
long_enough n l ls e = let t = or_parts _ _ e in (ltb-false l n t.0, t.1)

-- each of some slices has a place for each of n objects
abbrev pub AllLong : ℕ → List ℕ → Type 0
AllLong n [] = Unit {0}
AllLong n (l ∷ ls) = (n ≤ l) × AllLong n ls

pub all_long : (n : ℕ) (ls : List ℕ) → any_short n ls ≡ false → AllLong n ls
all_long n [] e = tt
all_long n (l ∷ ls) e = let t = long_enough n l ls e in (t.0, all_long n ls t.1)

-- the tests of some slices joined from the first on, as the code of a call has them
abbrev pub joined : ℕ → Bool → List ℕ → Bool
joined n found [] = found
joined n found (l ∷ ls) = joined n (found || ltb l n) ls

joined_short : (n : ℕ) (found : Bool) (ls : List ℕ) → joined n found ls ≡ (found || any_short n ls)
unfolding any_short
joined_short n found [] = sym (or-false found)
joined_short n found (l ∷ ls) = joined_short n (found || ltb l n) ls ∙ or_assoc found (ltb l n) (any_short n ls)

pub short_joined : (n : ℕ) (ls : List ℕ) → joined n false ls ≡ any_short n ls
short_joined n ls = joined_short n false ls
