-- What agreement says is the same read from either chart.
use mathlib.Core.Path.{sym}
use mathlib.Core.List.{List}
use Prim.Native.Nat.{ℕ, ◌+◌, ◌<◌}
use native.Mathlib.Omega.{arith}
use lib.ListN.{length}
use Rattle.agreement.specs.passes.Agreement.{Agree, Agreement}

module _ {limit : ℕ} {kinds : List ℕ} {a g : ℕ} {kinds' : List ℕ} {b h : ℕ} (r : Agree limit kinds a g kinds' b h) where
  pub agree_sym : Agree limit kinds' b h kinds a g
  agree_sym = record {
    objects = sym r.objects;
    cut = r.cut';
    cut' = r.cut;
    count = sym r.count;
    sizes = sym r.sizes;
    firsts = sym r.firsts;
    seconds = sym r.seconds;
    hit = λ j l. sym (r.hit j (other j l));
    hit_first = λ j l. sym (r.hit_first j (other j l));
    pattern_first = λ j l. sym (r.pattern_first j (other j l));
    streak_first = λ j l. sym (r.streak_first j (other j l));
    pattern-place = λ j l. sym (r.pattern-place j (other j l));
    streak-place = λ j l. sym (r.streak-place j (other j l));
    interval = λ j l n. sym (r.interval j (other j l) (omega (arith, r.hit j (other j l))));
  }
    where
      other : (j : ℕ) → b + j < length kinds' → a + j < length kinds
      other j l = omega (arith, r.objects)

pub agreement_sym : {limit : ℕ} {kinds : List ℕ} {a : ℕ} {kinds' : List ℕ} {b : ℕ} → Agreement limit kinds a kinds' b → Agreement limit kinds' b kinds a
agreement_sym r = record { before = r.before'; before' = r.before; agree = agree_sym r.agree }
