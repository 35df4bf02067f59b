-- What is counted over the cases of a file.
use Rattle.std.specs.Prelude.{◌≡◌, ℕ, ◌+◌, ◌-◌, ◌*◌, ◌%◌, ◌^◌, ◌<◌, Bool, false, cond, []}
use Rattle.vectors.specs.Call.{is_call}
use Rattle.vectors.specs.Case.{head_of}
use Rattle.vectors.specs.declared.call.Call.TheVariants.{Lesson}
use Rattle.vectors.specs.declared.case.Head.{Head}
use Rattle.replay_cases.specs.Tally.{no_cases, one_more}
use Rattle.replay_cases.specs.declared.tally.Tally.{Tally}
use Rattle.replay_cases.specs.declared.count.Replay.{Replay}
use Rattle.replay_cases.specs.declared.count.Replayed.{Replayed}
use Rattle.replay_cases.specs.declared.count.Replayed.TheVariants.{Chart, Part, Broken, End}

-- a million cases at most
unfoldable pub at_start : Replay
at_start = record {
  left = 1000000;
  objects = 0;
  charts = no_cases;
  parts = no_cases;
  lessons = no_cases;
  chart = head_of [];
}

-- no case may follow
unfoldable pub ended_with : Replay → Tally → Replay
ended_with r charts = record {
  left = 0;
  objects = r.objects;
  charts = charts;
  parts = r.parts;
  lessons = r.lessons;
  chart = r.chart;
}

-- after a case on a chart: lessons, which stand in a file beside stretches, are counted apart
unfoldable pub after_part : Replay → Head → Bool → Replay
after_part r h held =
    let lesson : Bool = is_call h.call Lesson in
    record {
      left = r.left - 1;
      objects = r.objects;
      charts = r.charts;
      parts = cond lesson r.parts (one_more r.parts held);
      lessons = cond lesson (one_more r.lessons held) r.lessons;
      chart = r.chart;
    }

-- after a case, or at the file's end; one that can't be read counts as one with a chart that differs, and ends it
unfoldable pub after_case : Replay → Replayed → Replay
after_case r (Chart h held) = record {
  left = r.left - 1;
  objects = (r.objects + h.objects) % 2 ^ 64;
  charts = one_more r.charts held;
  parts = r.parts;
  lessons = r.lessons;
  chart = h;
}
after_case r (Part h held) = after_part r h held
after_case r Broken = ended_with r (one_more r.charts false)
after_case r End = ended_with r r.charts

-- fewer cases are left
pub record After (r : Replay) (c : Replayed) (s : Replay) : Type 0 where
  pub counted : s ≡ after_case r c
  pub fewer : s.left < r.left

-- how many places the next case's slices have to spare, by the cases before it that are no lessons; a part counts
-- twice, so that charts with a part each, and their parts, take all eight in turn
unfoldable pub spare_of : Replay → ℕ
spare_of r = (r.charts.cases + 2 * r.parts.cases) % 8
