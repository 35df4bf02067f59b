-- The stretches that the lent slices hold.
use Rattle.call_lesson.specs.Lesson.{Stretches, stretches}
use Rattle.call_lesson.specs.declared.Stretches as lent

abbrev pub stretches_seen : lent.Stretches → Stretches
stretches_seen l = stretches l.offset.now l.length.now
