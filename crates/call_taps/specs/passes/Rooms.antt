-- What the passes ask of their slices, and the test that all of a chart's objects are good.
use Rattle.std.specs.Prelude.{◌≡◌, ℕ, ◌*◌, ◌≤◌, Bool, ◌&&◌, List, length, get_or}
use Rattle.std.specs.Float.{nan}
use Rattle.std.specs.Float.Ieee.{le}
use Rattle.grouping_chart.specs.Chart.{largest}
use Rattle.grouping_chart.specs.Refusal.{kind_good, time_good, ratio_good}
use Rattle.grouping_chart.specs.passes.Good.{all, all_places}
use Rattle.grouping_interval.specs.Notes.{note_objects}
use Rattle.call_taps.specs.Taps.{TapChart, tap_size}
use Rattle.call_taps.specs.Call.{Memory}

-- the five lists are of one length
pub record SameLong (t : TapChart) : Type 0 where
  pub starts : length t.starts ≡ tap_size t
  pub lowest : length t.lowest ≡ tap_size t
  pub highest : length t.highest ≡ tap_size t
  pub ratios : length t.ratios ≡ tap_size t

-- whether no object is refused
unfoldable pub all_good : TapChart → Bool
all_good t =
    all kind_good t.kinds
    && (all time_good t.starts
    && (all time_good t.lowest
    && (all time_good t.highest
    && (all_places (λ (i : ℕ). le (get_or t.lowest i nan) (get_or t.highest i nan)) (tap_size t)
    && all ratio_good t.ratios))))

-- the notes' objects are listed
pub record NotesKnown (t : TapChart) (objects : List ℕ) : Type 0 where
  pub long : SameLong t
  pub few : tap_size t ≤ largest
  pub listed : objects ≡ note_objects t.kinds

-- a chart with room in every slice
pub record TapsRoom (t : TapChart) (m : Memory) : Type 0 where
  pub long : SameLong t
  pub few : tap_size t ≤ largest
  pub pair_room : tap_size t ≤ length m.pair
  pub group_room : tap_size t ≤ length m.group
  pub regions : 8 * tap_size t ≤ length m.work
  pub floats : tap_size t ≤ length m.scratch
