-- A count, or none, meets the reader's promise, case by case; and what is later than a later cursor.
use mathlib.Core.Path.{◌≡◌, sym, subst, ◌∙◌}
use mathlib.Core.List.{List}
use Prim.Native.Nat.{ℕ, zero, suc, ◌+◌, ◌-◌, ◌*◌, ◌≤◌, ◌<◌}
use native.Mathlib.Nat.{suc-mul, mul-le-mul_right}
use native.Mathlib.Omega.{arith}
use lib.ListN.{length, take}
use lib.Seq.{length-take-le}
use Rattle.letters_grammar.specs.Reading.{repeated}
use Rattle.letters_grammar.proofs.KindLaws.{length-repeated}
use Rattle.letters_count.specs.declared.Cursor.{Cursor}
use Rattle.std.proofs.Common.{Option, Some, None, Result, Ok, Err}
use Rattle.letters_count.specs.declared.Fault.TheVariants.{Crowded}
use Rattle.letters_count.specs.declared.Refusal.{Refusal}
use Rattle.letters_count.specs.declared.Times.{Times}
use Rattle.letters_grammar.specs.Reading.{most_objects}
use Rattle.letters_count.specs.passes.Counts.{Read, refusal, Room, Later, CountRead, count_at}
use Rattle.letters_count.proofs.CountLaws.{Written, Means, count-means}

-- ---- what is later than a later cursor

-- a reader that goes on from d, which is k bytes behind c, has come k + j bytes
pub onward : (s : List ℕ) (k j : ℕ) (c d : Cursor) (r : Read) → c.at + k ≤ d.at → c.count ≤ d.count → Later s j d r → Later s (k + j) c r
onward s k j c d (Ok e) h m x = record { later = omega arith; place = x.place; more = omega arith; few = x.few }
onward s k j c d (Err f) h m x = tt

pub nearer : (s : List ℕ) (k j : ℕ) (c : Cursor) (r : Read) → k ≤ j → Later s j c r → Later s k c r
nearer s k j c (Ok e) h x = record { later = omega arith; place = x.place; more = x.more; few = x.few }
nearer s k j c (Err f) h x = tt

-- ---- a count, or none

grows : (n d : ℕ) → 1 ≤ n → d ≤ n * d
grows zero d h = absurd (omega arith)
grows (suc n) d h = omega (arith, suc-mul n d)

-- a count of two digits times at most 1,024 objects fits a word
product_fits : (n d : ℕ) → n < 100 → d ≤ 1024 → n * d ≤ 102400
product_fits n d h l = omega (arith, mul-le-mul_right {m = n} {n = 100} d (omega arith))

module _ (s old : List ℕ) (c : Cursor) (i : ℕ) (w : Room s old c) {r : Result (Option Times) Refusal} (e : r ≡ count_at s c.at) where
  means : (t : Result (Option Times) Refusal) → r ≡ t → Means s c.at t
  means t h = subst (Means s c.at) (sym e ∙ h) (count-means s c.at)

  pub counted_once : r ≡ Ok None → CountRead s old old c i (Ok c)
  unfolding Means
  counted_once h = record {
    later = record { later = omega arith; place = w.place; more = omega arith; few = w.few };
    same = λ fs. means (Ok None) h i fs (take c.count old);
  }

  pub counted_bad : (f : Refusal) → r ≡ Err f → CountRead s old old c i (Err f)
  unfolding Means
  counted_bad f h = record { later = tt; same = λ fs. means (Err f) h i fs (take c.count old) }

  pub written : (t : Times) → r ≡ Ok (Some t) → Written s c.at t.count t.last
  unfolding Means
  written t h = means (Ok (Some t)) h

  module _ (t : Times) (h : r ≡ Ok (Some t)) (o : i ≤ c.count) where
    long : length (repeated t.count i (take c.count old)) ≡ i + t.count * (c.count - i)
    long =
        let l : length (take c.count old) ≡ c.count = length-take-le c.count old (omega arith) in
        length-repeated t.count i (take c.count old) (omega arith) ∙ rw l

    pub total_fits : t.count * (c.count - i) ≤ 102400
    total_fits = product_fits t.count (c.count - i) (written t h).small (omega arith)

    pub counted-full : most_objects < i + t.count * (c.count - i) → CountRead s old old c i (Err (refusal Crowded t.last))
    counted-full l = record { later = tt; same = λ fs. (written t h).many i fs (take c.count old) (rw long l) }

    pub counted-many : (new : List ℕ) → i + t.count * (c.count - i) ≤ most_objects
        → take (i + t.count * (c.count - i)) new ≡ repeated t.count i (take c.count old)
        → CountRead s old new c i (Ok (record { at = t.last + 1; count = i + t.count * (c.count - i) }))
    counted-many new l m =
        let v = written t h in
        record {
          later = record { later = omega arith; place = omega arith; more = omega (arith, grows t.count (c.count - i) v.some); few = l };
          same = λ fs. rw m (v.few i fs (take c.count old) (rw long l));
        }
