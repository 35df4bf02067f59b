-- The outcome of lesson, case by case: a lesson is accepted exactly where colour accepts its chart, the set is good, each stretch is, and each pair has a
-- place in both answer slices.
use mathlib.Core.Path.{◌≡◌, refl, sym, ap, ◌∙◌}
use mathlib.Core.Bool.{false, ◌||◌}
use mathlib.Core.List.{List, [], ◌∷◌}
use Prim.Native.Nat.{ℕ, ◌≤◌}
use borrow.Author.Tests.{le-ltb}
use lib.ListN.{length}
use Rattle.std.specs.Prelude.{Ok}
use Rattle.std.proofs.lemmas.Bool.{or_parts}
use Rattle.grouping_chart.specs.Chart.{Chart, size}
use Rattle.grouping_chart.specs.Outcome.{outcome}
use Rattle.grouping_chart.specs.Room.{any_short, short_refusal}
use Rattle.grouping_chart.specs.Settings.{Settings, settings_refusal}
use Rattle.grouping_chart.specs.Refusal.{Check, Verdict, accepted, and_then, verdict}
use Rattle.grouping_chart.proofs.AcceptedLaws.{accepted_good, good_accepted, both_passed}
use Rattle.grouping_chart.proofs.OutcomeLaws.{neither-refused, answered-done, accommodated}
use Rattle.grouping_chart.proofs.RoomLaws.{joined, short_joined, roomy, room_passed, all_long}
use Rattle.call_colour.specs.Call as colour
use Rattle.call_lesson.specs.Lesson.{Stretches, pair_count, pairs, count_refusal, set_refusal, first_pair_refused, lesson_verdict}
use Rattle.call_lesson.specs.Call.{Memory, beside, judged, filled, lesson_outcome}
use Rattle.call_lesson.proofs.VerdictLaws.{set_good, counted, count_good, pairs-last, LessonLies, none_lies, lies_none}

-- an accepted lesson
pub record Taken (s : Settings) (c : Chart) (l : Stretches) (m : Memory) : Type 0 where
  pub chart : colour.judged s c m.colour ≡ accepted
  pub lies : LessonLies c.kinds l
  pub mean_room : pair_count l ≤ length m.mean
  pub tenths_room : pair_count l ≤ length m.tenths

module _ (s : Settings) (c : Chart) (l : Stretches) (m : Memory) where
  abbrev lengths : List ℕ
  lengths = length m.mean ∷ length m.tenths ∷ []

  -- the verdict, from what `judge` answered on the tests of the answer slices
  pub judged_told : {v u : Verdict}
      → v ≡ lesson_verdict (verdict c (and_then (count_refusal l)
      (and_then (short_refusal (joined (size c) false (colour.answer_lengths m.colour) || joined (pair_count l) false lengths) (size c)
      (length m.colour.work) (length m.colour.scratch)) (settings_refusal s)))) c.kinds l
      → v ≡ u → judged s c l m ≡ u
  judged_told e f = rw (← short_joined (size c) (colour.answer_lengths m.colour), ← short_joined (pair_count l) lengths) (sym e ∙ f)

  pub taken : judged s c l m ≡ accepted → Taken s c l m
  taken h =
      let parts = both_passed _ (first_pair_refused c.kinds 0 (pairs l)) h in
      let first = neither-refused (verdict c (beside s c l m)) (set_refusal l) parts.0 in
      let good = accepted_good c _ first.0 in
      let counts = both_passed _ _ good.room in
      let slices = both_passed _ _ counts.1 in
      let room = roomy _ (size c) (length m.colour.work) (length m.colour.scratch) slices.0 in
      let answers = or_parts _ _ room.answered in
      let long = all_long (pair_count l) lengths answers.1 in
      let roomy_chart = room_passed (record { answered = answers.0; regions = room.regions; floats = room.floats }) in
      record {
        chart = good_accepted (record {
          few = good.few;
          room = ap (λ (t : Check). and_then t (settings_refusal s)) roomy_chart ∙ slices.1;
          lengths = good.lengths;
          objects = good.objects;
        });
        lies = none_lies c.kinds l (counted l counts.0) first.1 parts.1;
        mean_room = long.0;
        tenths_room = long.1.0;
      }

  -- and only such a lesson is accepted
  pub untaken : Taken s c l m → judged s c l m ≡ accepted
  untaken x =
      let r = accommodated s c (colour.answer_lengths m.colour) (length m.colour.work) (length m.colour.scratch) x.chart in
      let values : any_short (size c) (colour.answer_lengths m.colour) ≡ false =
      sym (short_joined (size c) (colour.answer_lengths m.colour)) ∙ le-ltb (length m.colour.value) (size c) r.long.0 in
      let answers : any_short (pair_count l) lengths ≡ false =
      rw (
        ← short_joined (pair_count l) lengths,
        le-ltb (length m.mean) (pair_count l) x.mean_room,
        le-ltb (length m.tenths) (pair_count l) x.tenths_room,
      ) refl in
      let room = room_passed (record { answered = λ i. values i || answers i; regions = r.regions; floats = r.floats }) in
      let good = good_accepted (record {
        few = r.chart.few;
        room = rw (count_good l x.lies.paired, room) r.permitted;
        lengths = r.chart.lengths;
        objects = r.chart.objects;
      }) in
      pairs-last _ c.kinds l good (set_good l x.lies.set) ∙ lies_none c.kinds l x.lies

  pub done : judged s c l m ≡ accepted → {new : Memory} → new ≡ filled s c l m → outcome (Ok tt) new ≡ lesson_outcome s c l m
  unfolding lesson_outcome
  done h made = answered-done _ _ _ h (λ i. outcome (Ok tt) (made i))
