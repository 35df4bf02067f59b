-- What lesson hands back on the lent slices is what its definition gives on slices full of sentinels.
use mathlib.Core.Path.{◌≡◌, ap, ◌∙◌}
use mathlib.Core.List.{List}
use Rattle.std.specs.Prelude.{Some}
use mathlib.Core.Bool.{Bool}
use Prim.Native.Nat.{ℕ, ◌+◌, ◌*◌, ◌≤◌}
use native.Mathlib.Omega.{arith}
use lib.ListN.{length, take, replicate}
use Rattle.std.proofs.lemmas.List.{take-replicate}
use Rattle.grouping_chart.specs.Chart.{Chart}
use Rattle.grouping_chart.specs.Settings.{base_settings}
use Rattle.call_lesson.specs.Lesson.{Stretches, stretches, most_pairs}
use Rattle.call_lesson.specs.Call.{Memory, lesson_outcome}
use Rattle.lent.specs.Over.{over}
use Rattle.lent.proofs.OverLaws.{front}
use Rattle.vectors.specs.Case.{pair_at, column}
use Rattle.vectors.specs.Held.{Tells}
use Rattle.vectors.specs.Sentinel.{float_sentinel, floats_lent}
use Rattle.vectors.specs.declared.call.Call.TheVariants.{Lesson as LessonCall}
use Rattle.vectors.specs.declared.case.Head.{Head}
use Rattle.vectors.specs.passes.Room.{Few}
use Rattle.vectors.proofs.TellsLaws.{tells_of}
use Rattle.cases_colour.proofs.ColourLaws.{made_memory, memory_is}
use Rattle.cases_lesson.specs.Lesson.{stored_pairs, tenths_sentinel, tenths_lent, lesson_lent, LessonStored, LessonHolds}

-- ---- the slices, as fronts of what the code makes

-- a place for each of the most pairs, and 7 to spare
abbrev most_answers : ℕ
most_answers = 39

abbrev made_lesson : ℕ → ℕ → ℕ → Memory
made_lesson n pairs spare = record {
  colour = made_memory n spare;
  mean = take (pairs + spare) (replicate most_answers float_sentinel);
  tenths = take (pairs + spare) (replicate most_answers tenths_sentinel);
}

module _ {n pairs spare : ℕ} (few : Few n spare) (h : pairs ≤ most_pairs) where
  lesson-lent : made_lesson n pairs spare ≡ lesson_lent n pairs spare
  unfolding lesson_lent
  lesson-lent =
      let means : take (pairs + spare) (replicate most_answers float_sentinel) ≡ floats_lent pairs spare =
      take-replicate (pairs + spare) most_answers float_sentinel (omega (arith, few.places)) in
      let tenths : take (pairs + spare) (replicate most_answers tenths_sentinel) ≡ tenths_lent pairs spare =
      take-replicate (pairs + spare) most_answers tenths_sentinel (omega (arith, few.places)) in
      rw (memory_is few, means, tenths)

  pub made_told : (size : ℕ) (body part : List ℕ) (c : Chart) (l : Stretches) {r : Bool}
      → Tells r (LessonStored size n body part (lesson_outcome base_settings c l (made_lesson n pairs spare)))
      → Tells r (LessonStored size n body part (lesson_outcome base_settings c l (lesson_lent n pairs spare)))
  made_told size body part c l t = tells_of (LessonStored size n body part) (λ i. lesson_outcome base_settings c l (lesson-lent i)) t

-- ---- the pairs, as fronts of what is read

-- a column that was read stands in front
pub front_read : {column got said : List ℕ} {k : ℕ} (old : List ℕ) → length column ≡ k → column ≡ said → got ≡ over column old → take k got ≡ said
front_read {column} {got} {said} {k} old long is e = ap (take k) e ∙ front column old k long ∙ is

pub pairs_told : {offsets lengths : List ℕ} {k : ℕ} (part : List ℕ) → k ≡ pair_at part 0 → offsets ≡ column part 2 2 k → lengths ≡ column part (2 + 2 * k) 2 k
    → stretches offsets lengths ≡ stored_pairs part
unfolding stored_pairs
pairs_told part count first second = rw (first, second, count)

-- the chart and the pairs
pub read_told : {made chart : Chart} {marked stored : Stretches} (size n : ℕ) (body part : List ℕ) (m : Memory) {r : Bool} → made ≡ chart → marked ≡ stored
    → Tells r (LessonStored size n body part (lesson_outcome base_settings made marked m))
    → Tells r (LessonStored size n body part (lesson_outcome base_settings chart stored m))
read_told size n body part m c l t = tells_of (LessonStored size n body part) (λ i. lesson_outcome base_settings (c i) (l i) m) t

-- ---- the case

pub lesson_call : (chart : Head) (body : List ℕ) (h : Head) (part : List ℕ) (spare : ℕ) → LessonHolds chart body h part spare → h.call ≡ Some LessonCall
unfolding LessonHolds
lesson_call chart body h part spare p = p.form.1.form.form.asked
