-- What a host gets for each answer (scope: "Calls and what they fill"): a record of plain numbers. `refusal` is 0 on
-- acceptance; on refusal every other field but `place` is 0.
use Rattle.std.specs.Prelude.{ℕ, pos, Option, None, Some, Result, Ok, Err, Float}
use Rattle.std.specs.Float.{binary64}
use Rattle.std.specs.Float.Ieee.{of_bits, to_bits}
use Rattle.grouping_chart.specs.Outcome.{Outcome, outcome}
use Rattle.grouping_chart.specs.Refusal.{reason_number}
use Rattle.grouping_chart.specs.declared.refusal.Refusal.{Refusal}
use Rattle.call_colour.specs.declared.StretchMean.{StretchMean}
use Rattle.call_rhythm.specs.declared.GroupTotals.{GroupTotals}
use Rattle.call_record.specs.declared.GroupRecord.{GroupRecord}
use Rattle.dresserduck.specs.declared.Built.{Built}
use Rattle.dresserduck.specs.declared.Encoded.{Encoded}
use Rattle.dresserduck.specs.declared.Coloured.{Coloured}
use Rattle.dresserduck.specs.declared.Stretched.{Stretched}
use Rattle.dresserduck.specs.declared.Grouped.{Grouped}
use Rattle.dresserduck.specs.declared.Recorded.{Recorded}
use Rattle.dresserduck.specs.declared.lesson.Lessoned.{Lessoned}
use Rattle.dresserduck.specs.declared.taps.Tapped.{Tapped}
use Rattle.dresserduck.specs.declared.turns.Turned.{Turned}

unfoldable pub built_of : Result ℕ Refusal → Built
built_of (Ok objects) = record { refusal = 0; place = 0; objects = objects }
built_of (Err first) = record { refusal = reason_number first.reason; place = first.place; objects = 0 }

unfoldable pub encoded_of : Result ℕ Refusal → Encoded
encoded_of (Ok count) = record { refusal = 0; place = 0; hitpatterns = count }
encoded_of (Err first) = record { refusal = reason_number first.reason; place = first.place; hitpatterns = 0 }

unfoldable pub coloured_of : Result (Unit {0}) Refusal → Coloured
coloured_of (Ok done) = record { refusal = 0; place = 0 }
coloured_of (Err first) = record { refusal = reason_number first.reason; place = first.place }

unfoldable pub stretched_of : Result StretchMean Refusal → Stretched
stretched_of (Ok found) = record { refusal = 0; place = 0; mean = found.mean; tenths = found.tenths }
stretched_of (Err first) = record {
  refusal = reason_number first.reason;
  place = first.place;
  mean = of_bits binary64 0;
  tenths = pos 0;
}

unfoldable pub grouped_of : Result GroupTotals Refusal → Grouped
grouped_of (Ok totals) = record { refusal = 0; place = 0; groups = totals.groups; patterngroups = totals.patterns }
grouped_of (Err first) =
    record { refusal = reason_number first.reason; place = first.place; groups = 0; patterngroups = 0 }

-- an own interval, absent or not, and its bits
unfoldable pub has_own : Option Float → ℕ
has_own None = 0
has_own (Some x) = 1

unfoldable pub own_bits : Option Float → ℕ
own_bits None = 0
own_bits (Some x) = to_bits binary64 x

-- a float leaves as its bits: a NaN as 7FF8000000000000
unfoldable pub recorded_of : Result GroupRecord Refusal → Recorded
recorded_of (Ok r) = record {
  refusal = 0;
  place = 0;
  firstnote = r.first.0;
  notecount = r.notes;
  hasown = has_own r.own;
  ownbits = own_bits r.own;
  ratiobits = to_bits binary64 r.ratio;
  intervalbits = to_bits binary64 r.interval;
  penaltybits = to_bits binary64 r.penalty;
  patterngroup = r.pattern;
  patternratiobits = to_bits binary64 r.patternratio;
}
recorded_of (Err first) = record {
  refusal = reason_number first.reason;
  place = first.place;
  firstnote = 0;
  notecount = 0;
  hasown = 0;
  ownbits = 0;
  ratiobits = 0;
  intervalbits = 0;
  penaltybits = 0;
  patterngroup = 0;
  patternratiobits = 0;
}

-- where the groups are known, how many there are; else they are open
unfoldable pub tapped_of : Result (Option ℕ) Refusal → Tapped
tapped_of (Ok (Some groups)) = record { refusal = 0; place = 0; «open» = 0; groups = groups }
tapped_of (Ok None) = record { refusal = 0; place = 0; «open» = 1; groups = 0 }
tapped_of (Err first) = record { refusal = reason_number first.reason; place = first.place; «open» = 0; groups = 0 }

unfoldable pub turned_of : Result (Unit {0}) Refusal → Turned
turned_of (Ok done) = record { refusal = 0; place = 0 }
turned_of (Err first) = record { refusal = reason_number first.reason; place = first.place }

unfoldable pub lessoned_of : Result (Unit {0}) Refusal → Lessoned
lessoned_of (Ok done) = record { refusal = 0; place = 0 }
lessoned_of (Err first) = record { refusal = reason_number first.reason; place = first.place }

-- a call's outcome, its answer turned into such a record
unfoldable pub for_host : {Answer Record Memory : Type 0} → (Answer → Record) → Outcome Answer Memory
    → Outcome Record Memory
for_host f o = outcome (f o.answer) o.memory
