-- When a comparison may answer: false at a slice that is too short or at the first place that differs, true once every place was passed.
use Rattle.std.proofs.Common.{◌≡◌, ℕ, ◌<◌, ◌≤◌, Bool, true, false, ltb, List, map, length, take, get_or, replicate, zero-add, refl, sym, ap, ◌∙◌, arith}
use Rattle.std.specs.Bool.{MatchBool}
use Rattle.std.specs.List.{AllWithin, HoldsAt, enumerate_from}
use Rattle.std.proofs.lemmas.List.FromFn.{length-enumerate_from, get_or-enumerate_from}
use Rattle.std.proofs.lemmas.List.{get_or_default}
use borrow.Author.Tests.{ltb-true, ltb-false}
use lib.ListN.{length-map, length-take, length-replicate, get_or-replicate, get_or-eq_default}
use lib.Seq.{get_or-take, ext_get_or}
use Rattle.lent.specs.Over.{over}
use Rattle.std.proofs.lemmas.List.{get_or-map}
use Rattle.lent.proofs.OverLaws.{front, length-over, put_front, get_or-put_after}
use Rattle.vectors.specs.Held.{Tells, FrontHeld}
use Rattle.vectors.proofs.TellsLaws.{denied, granted}

-- ---- `new` written over sentinels: each place holds a part of it or, past its end, the sentinel

module _ (new : List ℕ) (sentinel room i : ℕ) where
  written_front : i < length new → get_or (over new (replicate room sentinel)) i 0 ≡ get_or new i sentinel
  written_front h =
      sym (get_or-take (length new) (over new (replicate room sentinel)) i 0 h)
      ∙ ap (λ (xs : List ℕ). get_or xs i 0) (front new (replicate room sentinel) (length new) refl)
      ∙ get_or_default new i 0 sentinel h

  written_past : length new ≤ i → i < room → get_or (over new (replicate room sentinel)) i 0 ≡ get_or new i sentinel
  written_past l h =
      let old : length (replicate room sentinel) ≡ room = length-replicate room sentinel in
      ap (λ (xs : List ℕ). get_or xs i 0) (sym (put_front new (replicate room sentinel)))
      ∙ get_or-put_after 0 new (replicate room sentinel) i 0 (omega arith) (omega arith)
      ∙ get_or-replicate room i sentinel 0 h ∙ sym (get_or-eq_default new sentinel l)

  written : i < room → get_or (over new (replicate room sentinel)) i 0 ≡ get_or new i sentinel
  written h = by (ltb i (length new)) refl
    where
      by : (b : Bool) → ltb i (length new) ≡ b → get_or (over new (replicate room sentinel)) i 0 ≡ get_or new i sentinel
      by true e = written_front (ltb-true _ _ e)
      by false e = written_past (ltb-false _ _ e) h

length-written : (new : List ℕ) (sentinel room : ℕ) → length new ≤ room → length (over new (replicate room sentinel)) ≡ room
length-written new sentinel room h =
    let old : length (replicate room sentinel) ≡ room = length-replicate room sentinel in
    length-over new (replicate room sentinel) (omega arith) ∙ old

module _ (new got : List ℕ) (sentinel : ℕ) where
  -- what is held has room for what was written
  pub too_short : length got < length new → Tells false (FrontHeld new sentinel got)
  too_short h = denied (λ p.
      let e : take (length new) got ≡ new = ap (take (length new)) p.all ∙ front new (replicate (length got) sentinel) (length new) refl in
      omega (arith, length-take (length new) got, ap length e))

  pub differs : (i : ℕ) → i < length got → (get_or got i 0 ≡ get_or new i sentinel → ⊥) → Tells false (FrontHeld new sentinel got)
  differs i h f = denied (λ p. f (ap (λ (xs : List ℕ). get_or xs i 0) p.all ∙ written new sentinel (length got) i h))

  pub all_passed : length new ≤ length got → ((i : ℕ) → i < length got → get_or got i 0 ≡ get_or new i sentinel) → Tells true (FrontHeld new sentinel got)
  all_passed r f =
      granted
      (record {
        all = ext_get_or 0 got (over new (replicate (length got) sentinel)) (sym (length-written new sentinel (length got) r))
            (λ i h. f i h ∙ sym (written new sentinel (length got) i h));
      })

-- ---- what a slice holds, place by place

-- what is held at a place, with its number, is as it must be
abbrev pub Same : {A : Type 0} → (A → ℕ) → List ℕ → ℕ → ℕ × A → Type 0
Same bits new sentinel p = bits p.1 ≡ get_or new p.0 sentinel

module _ {A : Type 0} (bits : A → ℕ) (all : List A → List ℕ) (each : (xs : List A) → all xs ≡ map bits xs) (got : List A) where
  pub length-all : length (all got) ≡ length got
  length-all = ap length (each got) ∙ length-map got bits

  all_at : (i : ℕ) (d : A) → i < length got → get_or (all got) i 0 ≡ bits (get_or got i d)
  all_at i d h = ap (λ (xs : List ℕ). get_or xs i 0) (each got) ∙ get_or-map bits got i d 0 h

  -- the comparison of each place, with its number, and what it tells
  module _ (new : List ℕ) (sentinel : ℕ) (d : A) where
    place : (i : ℕ) → i < length got → get_or (enumerate_from 0 got) i (0, d) ≡ (i, get_or got i d)
    place i h = get_or-enumerate_from 0 got i (0, d) h ∙ ap (λ (k : ℕ). (k, get_or got i d)) (zero-add i)

    numbered : length (enumerate_from 0 got) ≡ length got
    numbered = length-enumerate_from 0 got

    pub all_told : (r : Bool) → length new ≤ length got
        → MatchBool r (AllWithin (Same bits new sentinel) (enumerate_from 0 got) 0 (length (enumerate_from 0 got)))
        ((k : ℕ) × (k < length (enumerate_from 0 got)) × HoldsAt (λ p. Same bits new sentinel p → ⊥) (enumerate_from 0 got) k)
        → Tells r (FrontHeld new sentinel (all got))
    all_told true room same =
        all_passed new (all got) sentinel (omega (arith, length-all))
        (λ i h.
        let l : i < length got = omega (arith, length-all) in
        let s : Same bits new sentinel (get_or (enumerate_from 0 got) i (0, d)) = same i (0, d) (omega arith) (omega (arith, numbered)) in
        all_at i d l ∙ (rw (place i l) at s))
    all_told false room other =
        let l : other.0 < length got = omega (arith, other.1, numbered) in
        let n : Same bits new sentinel (get_or (enumerate_from 0 got) other.0 (0, d)) → ⊥ = other.2 (0, d) in
        differs new (all got) sentinel other.0 (omega (arith, length-all)) (λ e. (rw (place other.0 l) at n) (sym (all_at other.0 d l) ∙ e))
