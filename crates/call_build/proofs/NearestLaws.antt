-- The nearest ratio is the first than which none lies nearer: what is kept of the ratios passed is that of them, one more ratio at a time.
use mathlib.Core.Path.{◌≡◌, refl, sym, ◌∙◌}
use mathlib.Core.Logic.{◌⊎◌, ⊎_elim}
use mathlib.Core.Bool.{Bool, true, false, cond}
use mathlib.Core.List.{List, [], ◌∷◌, ◌++◌, append_assoc, append-nil}
use Prim.Native.Nat.{ℕ, ◌+◌, ◌≤◌, ◌<◌}
use native.Mathlib.Nat.{eq-or-lt_of_le}
use native.Mathlib.Omega.{arith}
use lib.Dec.{T}
use lib.ListN.{length, get_or, length-append, get_or-append}
use lib.Seq.{get_or_at}
use lib.Ieee.{Float, nan}
use lib.Ieee.Scale.{finite}
use denote.Floats.{passes}
use Rattle.numeric.specs.Near.{is_nearer}
use Rattle.grouping_chart.proofs.AllLaws.{all_each}
use Rattle.numeric.proofs.near.Nearer.{nearer_other, nearer_past}
use Rattle.call_build.specs.Ratio.{first_ratio, later_ratios, common_ratios, nearer_of, nearest_of, nearest_ratio, FirstNearest}
use Rattle.call_build.proofs.RatioLaws.{all_finite}

abbrev Finite : List Float → Type 0
Finite rs = (i : ℕ) → i < length rs → T (finite (get_or rs i nan))

-- nothing lies nearer than itself
not_nearer : (q a : Float) → is_nearer q a a ≡ false
not_nearer q a = go (is_nearer q a a) refl
  where
    go : (b : Bool) → is_nearer q a a ≡ b → is_nearer q a a ≡ false
    go true e = nearer_other q a a e
    go false e = e

module _ (q : Float) (done : List Float) (r best : Float) (fits : Finite done) (f : FirstNearest q done best) where
  abbrev more : List Float
  more = done ++ (r ∷ [])

  longer : length more ≡ length done + 1
  longer = length-append done (r ∷ [])

  old : (i : ℕ) → i < length done → get_or more i nan ≡ get_or done i nan
  old i h = get_or-append done (r ∷ []) nan i h

  new : (i : ℕ) → i ≡ length done → get_or more i nan ≡ r
  new i e = get_or_at done r [] nan i (sym e)

  last_or_earlier : (i : ℕ) → i < length more → (i ≡ length done) ⊎ (i < length done)
  last_or_earlier i h =
      let upto : i ≤ length done = omega (arith, longer) in
      eq-or-lt_of_le upto

  -- the new one is nearer than the best, so than all before it
  taken : is_nearer q r best ≡ true → FirstNearest q more r
  taken t =
      let nearer : (i : ℕ) → i < length done → is_nearer q r (get_or done i nan) ≡ true =
      λ i h. nearer_past q r best (get_or done i nan) (fits i h) t (f.least i h) in
      record {
        place = length done;
        inside = omega (arith, longer);
        is = sym (new (length done) refl);
        before = λ i h. rw (old i h) (nearer i h);
        least = λ i h. ⊎_elim
            (λ e. rw (new i e) (not_nearer q r))
            (λ l. rw (old i l) (nearer_other q r (get_or done i nan) (nearer i l)))
            (last_or_earlier i h);
      }

  kept : is_nearer q r best ≡ false → FirstNearest q more best
  kept t = record {
    place = f.place;
    inside = omega (arith, longer, f.inside);
    is = f.is ∙ sym (old f.place f.inside);
    before = λ i h. rw (old i (omega (arith, f.inside))) (f.before i h);
    least = λ i h. ⊎_elim (λ e. rw (new i e) t) (λ l. rw (old i l) (f.least i l)) (last_or_earlier i h);
  }

  next : FirstNearest q more (nearer_of q best r)
  unfolding nearer_of
  next = go (is_nearer q r best) refl
    where
      go : (b : Bool) → is_nearer q r best ≡ b → FirstNearest q more (cond b r best)
      go true e = taken e
      go false e = kept e

steps : (q : Float) (done rest : List Float) (best : Float) → Finite (done ++ rest) → FirstNearest q done best
    → FirstNearest q (done ++ rest) (nearest_of q best rest)
unfolding nearest_of
steps q done [] best fits f = rw (append-nil done) f
steps q done (r ∷ rest) best fits f =
    let whole : (done ++ (r ∷ [])) ++ rest ≡ done ++ (r ∷ rest) = append_assoc done (r ∷ []) rest in
    let front : Finite done = λ i h. rw (← get_or-append done (r ∷ rest) nan i h) (fits i (omega (arith, length-append done (r ∷ rest)))) in
    rw (← whole) (steps q (done ++ (r ∷ [])) rest (nearer_of q best r) (rw whole fits) (next q done r best front f))

alone : (q r : Float) → FirstNearest q (r ∷ []) r
alone q r = record {
  place = 0;
  inside = omega arith;
  is = refl;
  before = λ i h. absurd (omega arith);
  least = λ i h. let e : i ≡ 0 = omega arith in rw (e) (not_nearer q r);
}

-- for every quotient, a NaN and the infinities among them
pub nearest_first : (q : Float) → FirstNearest q common_ratios (nearest_ratio q)
unfolding nearest_ratio
nearest_first q = steps q (first_ratio ∷ []) later_ratios first_ratio (λ i h. passes _ (all_each finite common_ratios all_finite i nan h)) (alone q first_ratio)
