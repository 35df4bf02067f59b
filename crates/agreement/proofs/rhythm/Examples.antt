-- Rhythm landmarks of short lists of deltas, each list as what stands before its tail and the tail, with the offsets in the tail at which the test finds a
-- landmark.
use mathlib.Core.Path.{◌≡◌, refl}
use mathlib.Core.Bool.{true, false}
use mathlib.Core.List.{List, [], ◌∷◌, map}
use Prim.Native.Nat.{ℕ}
use lib.IntN.{pos}
use lib.Ieee.{Float, fin, binary64, round, sub, le, of_int}
use Rattle.numeric.specs.Near.{abs_of, is_near}
use Rattle.grouping_chart.specs.Object.{is_note}
use Rattle.grouping_interval.specs.Notes.{of_notes}
use Rattle.agreement.specs.passes.Tests.{all_true}
use Rattle.agreement.specs.rhythm.Landmark.{RhythmLandmark}
use Rattle.agreement.specs.passes.RhythmLandmarkTest.{is_rhythm_landmark}
use Rattle.agreement.proofs.Readings.{Reading, LandmarkExample, offsets_below, offsets_found}
use Rattle.agreement.proofs.rhythm.LandmarkLaws.{test_landmark}

-- 5.0
unfoldable pub margin : Float
margin = fin false 5 (pos 0)

-- whole numbers of milliseconds
unfoldable pub wholes : List ℕ → List Float
wholes = map (λ (n : ℕ). of_int binary64 (pos n))

-- ---- landmarks

-- a landmark of a list of whole deltas
unfoldable is_whole_landmark : Reading ℕ
is_whole_landmark deltas t i = is_rhythm_landmark margin (wholes deltas) t i

examples : List LandmarkExample
examples =
    -- a rise behind two that are near, and a fall; the same after every opening
    record { before = []; tail = 100 ∷ 100 ∷ 200 ∷ 200 ∷ 100 ∷ []; offsets = 1 ∷ 3 ∷ [] }
    ∷ record { before = 100 ∷ []; tail = 100 ∷ 100 ∷ 200 ∷ 200 ∷ 100 ∷ []; offsets = 1 ∷ 3 ∷ [] }
    ∷ record { before = 300 ∷ 50 ∷ []; tail = 100 ∷ 100 ∷ 200 ∷ 200 ∷ 100 ∷ []; offsets = 1 ∷ 3 ∷ [] }
    -- the first of the three has to be of the tail
    ∷ record { before = 100 ∷ []; tail = 100 ∷ 200 ∷ []; offsets = [] }
    -- 5 apart is near, 6 is not
    ∷ record { before = []; tail = 100 ∷ 105 ∷ 111 ∷ []; offsets = 1 ∷ [] }
    ∷ record { before = []; tail = 100 ∷ 106 ∷ 111 ∷ []; offsets = [] }
    -- the notes of the guide's chart, whole
    ∷ record {
      before = [];
      tail = 300 ∷ 150 ∷ 150 ∷ 150 ∷ 150 ∷ 300 ∷ 150 ∷ 150 ∷ 300 ∷ 150 ∷ 150 ∷ 300 ∷ 150 ∷ 150 ∷ 150 ∷ 150 ∷ 300 ∷ 150 ∷ 150 ∷ [];
      offsets = 4 ∷ 7 ∷ 10 ∷ 15 ∷ [];
    }
    -- none at the last note, nor among notes that are all near
    ∷ record { before = []; tail = 100 ∷ 100 ∷ []; offsets = [] }
    ∷ record { before = []; tail = 100 ∷ 100 ∷ 100 ∷ []; offsets = [] }
    ∷ record { before = []; tail = []; offsets = [] }
    ∷ []

-- 100 before the tail 100 100 200
abbrev one : List ℕ
one = 100 ∷ 100 ∷ 100 ∷ 200 ∷ []

record Computed : Type 0 where
  -- every list comes out as it says
  examples_right : map (offsets_found is_whole_landmark) examples ≡ map (λ (x : LandmarkExample). x.offsets) examples
  one_found : is_rhythm_landmark margin (wholes one) 3 2 ≡ true
  -- the deltas of the notes of d n k d
  notes_only : of_notes (0 ∷ 2 ∷ 1 ∷ 0 ∷ []) (wholes (1 ∷ 2 ∷ 3 ∷ 4 ∷ [])) ≡ wholes (1 ∷ 3 ∷ 4 ∷ [])

computed : Computed
unfolding examples offsets_found offsets_below is_whole_landmark margin wholes is_rhythm_landmark all_true is_near abs_of sub le of_int round of_notes is_note
computed = record { examples_right = refl; one_found = refl; notes_only = refl }

-- so there are landmarks
one_landmark : RhythmLandmark margin (wholes one) 3 2
one_landmark = test_landmark margin (wholes one) 3 2 computed.one_found
