-- The four numbers by which the calls on a chart group and score (scope: interval_grouping.rs,
-- repeating_hit_patterns.rs, evaluators/rhythm.rs, evaluators/color.rs), and which sets of them a call refuses (change
-- requests: 7/12). The definitions of what a call answers have them as a parameter.
use Rattle.std.specs.Prelude.{Bool, false, ◌&&◌, cond, ◌≡◌, leb, pos, Float, Err}
use Rattle.std.specs.Float.{fin, binary64}
use Rattle.std.specs.Float.Ieee.{of_bits}
use Rattle.numeric.specs.Constants.{zero64, one64}
use Rattle.numeric.specs.Near.{abs_of}
use Rattle.numeric.specs.Range.{within}
use Rattle.grouping_chart.specs.Refusal.{Check, passed}
use Rattle.grouping_chart.specs.declared.refusal.Reason.TheVariants.{BadSettings}
use Rattle.grouping_chart.specs.declared.settings.Settings as declared

-- margin: how far apart two times may lie and still be near, in milliseconds. search_limit: a hit pattern is compared
-- with those less than this far back, and the interval of one that is like none of these is the limit plus 1.
-- threshold: two own intervals count as repeated where their quotient differs from 1.0 by no more. tolerance: an
-- object's ratio counts as that of the object two before it where their quotient differs from 1.0 by no more
abbrev pub Settings : Type 0
Settings = declared.Settings

-- 5.0, 16, 0.1 and 0.01: `base_is`, in proofs/SettingsLaws.antt, says that the bits are these
abbrev pub base_settings : Settings
base_settings = record {
  margin = of_bits binary64 0x4014_0000_0000_0000;
  search_limit = 16;
  threshold = of_bits binary64 0x3fb9_9999_9999_999a;
  tolerance = of_bits binary64 0x3f84_7ae1_47ae_147b;
}

abbrev pub fifty64 : Float
fifty64 = fin false 25 (pos 1)

-- a limit from 2 to 64, whose intervals are bytes, and three numbers in their ranges, in none of which a NaN is
unfoldable pub settings_good : Settings → Bool
settings_good s =
    within zero64 fifty64 s.margin
    && ((leb 2 s.search_limit && leb s.search_limit 64)
    && (within zero64 one64 s.threshold && within zero64 one64 s.tolerance))

unfoldable pub settings_refusal : Settings → Check
settings_refusal s = cond (settings_good s) passed (Err BadSettings)

-- a set that is not refused
abbrev pub Permitted : Settings → Type 0
Permitted s = settings_refusal s ≡ passed

-- the same set with 0.0 for each −0.0: a permitted set has no negative number, and of each the sign bit is dropped
abbrev pub unsigned : Settings → Settings
unsigned s = record {
  margin = abs_of s.margin;
  search_limit = s.search_limit;
  threshold = abs_of s.threshold;
  tolerance = abs_of s.tolerance;
}
