-- What is refused beside the chart, the same in every call (scope: "Calls and what they fill", "Refused by number";
-- change requests: 7/12): `verdict` of Refusal.antt takes it from here, and tests it straight after 2, before any
-- object. That is 3, a slice that is too short, and then 16, a setting. An answer slice has a place for each of the n
-- objects, and the two work slices have 8 n and n places.
use Rattle.std.specs.Prelude.{ℕ, ◌*◌, Bool, false, ◌||◌, cond, List, [], ◌∷◌, ltb, replicate, Float}
use Rattle.std.specs.Prelude.{Err}
use Rattle.std.specs.Float.{binary64}
use Rattle.std.specs.Float.Ieee.{of_bits}
use Rattle.lent.specs.Over.{over}
use Rattle.grouping_chart.specs.Refusal.{Check, passed, and_then}
use Rattle.grouping_chart.specs.Settings.{Settings, settings_refusal}
use Rattle.grouping_chart.specs.declared.refusal.Reason.TheVariants.{ShortSlice}

-- whether one of some slices has too few places for n objects, by how many places each has
unfoldable pub any_short : ℕ → List ℕ → Bool
any_short n [] = false
any_short n (l ∷ ls) = ltb l n || any_short n ls

-- whether no slice is too short; `answers` says that an answer slice is, `work` and `scratch` are how many places the
-- work slices have
unfoldable pub short_refusal : Bool → ℕ → ℕ → ℕ → Check
short_refusal answers n work scratch = cond (answers || (ltb work (8 * n) || ltb scratch n)) (Err ShortSlice) passed

-- the test of what is beside the chart: the settings, and how many places each answer slice, the work and the scratch
-- slice have
abbrev pub refusal_beside : Settings → ℕ → List ℕ → ℕ → ℕ → Check
refusal_beside s n answers work scratch =
    and_then (short_refusal (any_short n answers) n work scratch) (settings_refusal s)

-- the work slices after an accepted call on n objects: 0 and +0.0 in the places that it may use, old contents elsewhere
abbrev pub cleared_work : ℕ → List ℕ → List ℕ
cleared_work n work = over (replicate (8 * n) 0) work

abbrev pub cleared_scratch : ℕ → List Float → List Float
cleared_scratch n scratch = over (replicate n (of_bits binary64 0)) scratch
