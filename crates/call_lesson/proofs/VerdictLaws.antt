-- The verdict on a lesson, test by test, and what is known where all pass.
use mathlib.Core.Path.{◌≡◌, refl, sym, ap, ◌∙◌}
use mathlib.Core.Bool.{true}
use mathlib.Core.List.{List, [], ◌∷◌}
use Prim.Native.Nat.{ℕ, zero, suc, ◌+◌, ◌≤◌, ◌<◌}
use native.Mathlib.Numerals.{add-one}
use native.Mathlib.Omega.{arith}
use borrow.Author.Tests.{eqb-true, eq-eqb, leb-true, le-leb}
use lib.ListN.{length, drop, get_or, drop_of_length-le}
use lib.Seq.{drop-cons}
use Rattle.std.specs.Prelude.{Err}
use Rattle.std.proofs.lemmas.Bool.{and_parts}
use Rattle.grouping_chart.specs.Refusal.{Check, passed, Verdict, accepted, refused, and_then, refused_or}
use Rattle.grouping_chart.specs.Outcome.{refused_then}
use Rattle.grouping_chart.specs.passes.Good.{first_at}
use Rattle.grouping_chart.specs.declared.refusal.Reason.{Reason}
use Rattle.grouping_chart.specs.declared.refusal.Refusal.{Refusal}
use Rattle.grouping_chart.proofs.AcceptedLaws.{test_passed, none_refused, both_passed}
use Rattle.grouping_chart.proofs.OutcomeLaws.{chart-refused, nothing-refused, then-refused, neither-refused}
use Rattle.grouping_chart.proofs.RefusalLaws.{by-places}
use Rattle.call_colour.specs.Stretch.{GoodStretch}
use Rattle.call_lesson.specs.Lesson.{Stretches, Pair, pair_count, pairs, rising, count_refusal, set_refusal, pair_refusal, first_pair_refused}
use Rattle.call_lesson.specs.Lesson.{lesson_verdict, GoodLesson}
use Rattle.call_lesson.specs.passes.Rooms.{Paired, pair_at}
use Rattle.call_lesson.proofs.PairLaws.{length-pairs, get_or-pairs}

-- ---- the three parts of the verdict, one after another

module _ (v : Verdict) (kinds : List ℕ) (l : Stretches) where
  then_pairs : {u : Verdict} → refused_then v (set_refusal l) ≡ u → lesson_verdict v kinds l ≡ and_then u (first_pair_refused kinds 0 (pairs l))
  then_pairs e = ap (λ (u : Verdict). and_then u (first_pair_refused kinds 0 (pairs l))) e

  pub chart-first : {first : Refusal} → v ≡ Err first → lesson_verdict v kinds l ≡ Err first
  chart-first h = then_pairs (chart-refused (set_refusal l) h)

  pub set-next : {r : Reason} → v ≡ accepted → set_refusal l ≡ Err r → lesson_verdict v kinds l ≡ refused r
  set-next h e = then_pairs (then-refused (set_refusal l) h e)

  pub pairs-last : v ≡ accepted → set_refusal l ≡ passed → lesson_verdict v kinds l ≡ first_pair_refused kinds 0 (pairs l)
  pairs-last h e = then_pairs (nothing-refused (set_refusal l) h e)

-- ---- the set

pub counted : (l : Stretches) → count_refusal l ≡ passed → Paired l
unfolding count_refusal
counted l e = eqb-true _ _ (test_passed _ _ e)

pub count_good : (l : Stretches) → Paired l → count_refusal l ≡ passed
unfolding count_refusal
count_good l e = rw (eq-eqb _ _ e) refl

-- a set that is not refused
pub record GoodSet (l : Stretches) : Type 0 where
  pub few : pair_count l ≤ 32
  pub rise : rising l.offsets ≡ true

pub good_set : (l : Stretches) → set_refusal l ≡ passed → GoodSet l
unfolding set_refusal
good_set l e =
    let t = and_parts _ _ (test_passed _ _ e) in
    record { few = leb-true _ _ t.0; rise = t.1 }

pub set_good : (l : Stretches) → GoodSet l → set_refusal l ≡ passed
unfolding set_refusal
set_good l g = rw (le-leb (pair_count l) 32 g.few, g.rise)

-- ---- the first pair that is refused

module _ (kinds : List ℕ) where
  pub pairs_good : (j : ℕ) (ps : List Pair) → first_pair_refused kinds j ps ≡ accepted
      → (i : ℕ) (d : Pair) → i < length ps → pair_refusal kinds (get_or ps i d) ≡ passed
  unfolding first_pair_refused
  pairs_good j [] e i d h = absurd (omega arith)
  pairs_good j (p ∷ ps) e zero d h = (none_refused (pair_refusal kinds p) j _ e).0
  pairs_good j (p ∷ ps) e (suc i) d h = pairs_good (j + 1) ps (none_refused (pair_refusal kinds p) j _ e).1 i d (omega arith)

  pub good_pairs : (j : ℕ) (ps : List Pair) → ((i : ℕ) (d : Pair) → i < length ps → pair_refusal kinds (get_or ps i d) ≡ passed)
      → first_pair_refused kinds j ps ≡ accepted
  unfolding first_pair_refused
  good_pairs j [] g = refl
  good_pairs j (p ∷ ps) g = rw (g 0 p (omega arith)) (good_pairs (j + 1) ps (λ i d h. g (suc i) d (omega arith)))

  -- by the places
  module _ (ps : List Pair) (d : Pair) where
    abbrev from : ℕ → Verdict
    from i = first_pair_refused kinds i (drop i ps)

    turn : (i : ℕ) → i < length ps → from i ≡ refused_or (pair_refusal kinds (get_or ps i d)) i (from (i + 1))
    unfolding first_pair_refused
    turn i h = rw (drop-cons ps i d h, add-one i) refl

    end : accepted ≡ from (length ps)
    unfolding first_pair_refused
    end = rw (drop_of_length-le ps {i = length ps} (omega arith)) refl

    pub pair_places : first_at (λ i. pair_refusal kinds (get_or ps i d)) (length ps) ≡ first_pair_refused kinds 0 ps
    pair_places = by-places (λ i. pair_refusal kinds (get_or ps i d)) from (length ps) turn end

  pub lesson_places : (l : Stretches) → Paired l → {checks : ℕ → Check} → ((i : ℕ) → i < pair_count l → checks i ≡ pair_refusal kinds (pair_at l i))
      → first_at checks (pair_count l) ≡ first_pair_refused kinds 0 (pairs l)
  lesson_places l paired {checks} e =
      let from : ℕ → Verdict = λ i. first_pair_refused kinds i (drop i (pairs l)) in
      let many = length-pairs l paired in
      by-places checks from (pair_count l)
      (λ i h. turn (pairs l) (0, 0) i (omega (arith, many)) ∙ ap (λ (t : Check). refused_or t i (from (i + 1)))
      (ap (pair_refusal kinds) (get_or-pairs l paired i (0, 0) h) ∙ sym (e i h)))
      (end (pairs l) (0, 0) ∙ ap from many)

-- ---- the lesson alone

-- as many lengths as offsets, a good set, and good stretches
pub record LessonLies (kinds : List ℕ) (l : Stretches) : Type 0 where
  pub paired : Paired l
  pub set : GoodSet l
  pub each : (i : ℕ) → i < pair_count l → GoodStretch kinds (get_or l.offsets i 0) (get_or l.offsets i 0 + get_or l.lengths i 0)

module _ (kinds : List ℕ) (l : Stretches) where
  pub none_lies : Paired l → set_refusal l ≡ passed → first_pair_refused kinds 0 (pairs l) ≡ accepted → LessonLies kinds l
  none_lies paired set good = record {
    paired = paired;
    set = good_set l set;
    each = λ i k. rw (get_or-pairs l paired i (0, 0) k) at (pairs_good kinds 0 (pairs l) good i (0, 0) (omega (arith, length-pairs l paired)));
  }

  pub lies_none : LessonLies kinds l → first_pair_refused kinds 0 (pairs l) ≡ accepted
  lies_none x =
      good_pairs kinds 0 (pairs l)
      (λ i d h. let k : i < pair_count l = omega (arith, length-pairs l x.paired) in rw (get_or-pairs l x.paired i d k) (x.each i k))

  pub good_lesson : GoodLesson kinds l → LessonLies kinds l
  good_lesson g =
      let parts = both_passed (refused_then accepted (set_refusal l)) (first_pair_refused kinds 0 (pairs l)) g.1 in
      none_lies (counted l g.0) (neither-refused accepted (set_refusal l) parts.0).1 parts.1

  pub lesson_good : LessonLies kinds l → GoodLesson kinds l
  lesson_good x = (count_good l x.paired, pairs-last accepted kinds l refl (set_good l x.set) ∙ lies_none x)
