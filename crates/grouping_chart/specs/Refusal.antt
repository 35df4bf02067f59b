-- Why a call refuses, where, and the order of the tests for refusals 1 to 7 (scope: "Refused by number"): 1, 2, what is
-- refused beside the chart, then 4 to 7 for one object after another. Room.antt alone says what is refused beside the
-- chart, and when. Where a delta is known to within a range (change requests: 6/12), 15 is refused between 6 and 7.
-- A refusal has a reason, whose number C is told, and a place: the object's for 4 to 7 and 15, the pair's for 9 and 11
-- of a lesson (change requests: 9/12), else 0.
use Rattle.std.specs.Prelude.{ℕ, ◌+◌, Bool, cond, List, [], ◌∷◌, leb, ltb, Float, Result, Ok, Err}
use Rattle.numeric.specs.Range.{within, earliest, latest, least_ratio, greatest_ratio}
use Rattle.grouping_chart.specs.Chart.{Chart, size, largest, equally_long}
use Rattle.grouping_chart.specs.declared.refusal.Reason.{Reason}
use Rattle.grouping_chart.specs.declared.refusal.Reason.TheVariants.{TooManyObjects, UnequalLengths, ShortSlice}
use Rattle.grouping_chart.specs.declared.refusal.Reason.TheVariants.{UnknownKind, BadStart, BadDelta, BadRatio}
use Rattle.grouping_chart.specs.declared.refusal.Reason.TheVariants.{BadWindow, OutOfRange, BadRate, NoNotes}
use Rattle.grouping_chart.specs.declared.refusal.Reason.TheVariants.{LowestAboveHighest, BadSettings, BadLesson}
use Rattle.grouping_chart.specs.declared.refusal.Refusal.{Refusal}

-- the number that C is told
abbrev pub reason_number : Reason → ℕ
reason_number TooManyObjects = 1
reason_number UnequalLengths = 2
reason_number ShortSlice = 3
reason_number UnknownKind = 4
reason_number BadStart = 5
reason_number BadDelta = 6
reason_number BadRatio = 7
reason_number BadWindow = 8
reason_number OutOfRange = 9
reason_number BadRate = 10
reason_number NoNotes = 11
reason_number LowestAboveHighest = 15
reason_number BadSettings = 16
reason_number BadLesson = 17

abbrev pub refusal : Reason → ℕ → Refusal
refusal reason place = record { reason = reason; place = place }

abbrev pub at_0 : Reason → Refusal
at_0 reason = refusal reason 0

-- whether one test passes; else why it refuses
abbrev pub Check : Type 0
Check = Result (Unit {0}) Reason

abbrev pub passed : Check
passed = Ok tt

-- whether a call is accepted; else the first refusal that applies
abbrev pub Verdict : Type 0
Verdict = Result (Unit {0}) Refusal

abbrev pub accepted : Verdict
accepted = Ok tt

abbrev pub refused : Reason → Verdict
refused reason = Err (at_0 reason)

-- Center, Rim and NonHit
abbrev pub kind_good : ℕ → Bool
kind_good k = leb k 2

unfoldable pub time_good : Float → Bool
time_good x = within earliest latest x

unfoldable pub ratio_good : Float → Bool
ratio_good x = within least_ratio greatest_ratio x

-- a test, or a verdict, where the one before it passes
abbrev pub and_then : {Why : Type 0} → Result (Unit {0}) Why → Result (Unit {0}) Why → Result (Unit {0}) Why
and_then (Ok done) later = later
and_then (Err why) later = Err why

unfoldable pub delta_refusal : Float → Check
delta_refusal delta = cond (time_good delta) passed (Err BadDelta)

-- the order of an object's tests, of which that of its delta, or of what is known of its delta, is given
unfoldable pub object_order : ℕ → Float → Check → Float → Check
object_order kind start delta ratio =
    cond (kind_good kind)
    (cond (time_good start)
    (and_then delta (cond (ratio_good ratio) passed (Err BadRatio)))
    (Err BadStart))
    (Err UnknownKind)

-- whether an object is good; else why it is refused
unfoldable pub object_refusal : ℕ → Float → Float → Float → Check
object_refusal kind start delta ratio = object_order kind start (delta_refusal delta) ratio

-- a refusal at this place where the test does not pass, else what comes later
abbrev pub refused_or : Check → ℕ → Verdict → Verdict
refused_or (Ok done) place later = later
refused_or (Err reason) place later = Err (refusal reason place)

-- the first object that is refused, where the lists begin at object i and this is the test of a delta
unfoldable pub first_refused : {A : Type 0} → (A → Check) → ℕ → List ℕ → List Float → List A → List Float → Verdict
first_refused test i [] starts deltas ratios = accepted
first_refused test i (k ∷ kinds) [] deltas ratios = accepted
first_refused test i (k ∷ kinds) (s ∷ starts) [] ratios = accepted
first_refused test i (k ∷ kinds) (s ∷ starts) (d ∷ deltas) [] = accepted
first_refused test i (k ∷ kinds) (s ∷ starts) (d ∷ deltas) (r ∷ ratios) =
    refused_or (object_order k s (test d) r) i (first_refused test (i + 1) kinds starts deltas ratios)

-- the order of the tests: whether there are too many objects, whether the slices are of one length, the test of what is
-- beside the chart, and the verdict on the objects
abbrev pub in_order : Bool → Bool → Check → Verdict → Verdict
in_order large equal beside objects =
    cond large (refused TooManyObjects) (cond equal (refused_or beside 0 objects) (refused UnequalLengths))

abbrev pub objects_verdict : Chart → Verdict
objects_verdict c = first_refused delta_refusal 0 c.kinds c.starts c.deltas c.ratios

-- refusals 1 to 7 of a call on a chart; `beside` is the test of what is beside it
unfoldable pub verdict : Chart → Check → Verdict
verdict c beside = in_order (ltb largest (size c)) (equally_long c) beside (objects_verdict c)
