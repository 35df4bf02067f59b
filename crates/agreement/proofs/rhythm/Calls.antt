-- The rhythm half over the call rhythm. What it writes for a note is the number of the note's group, so that what is claimed of groups is claimed of what it
-- writes.
use mathlib.Core.Path.{◌≡◌, refl, ap, ◌∙◌}
use mathlib.Core.Logic.{◌⊎◌}
use mathlib.Core.Bool.{Bool, true, false, cond}
use mathlib.Core.List.{List, []}
use Prim.Native.Nat.{ℕ, zero, suc, ◌+◌, ◌<◌}
use native.Mathlib.Omega.{arith}
use lib.ListN.{length, take, drop, get_or}
use Rattle.lent.proofs.FillLaws.{get_or-gathered}
use Rattle.grouping_chart.specs.Object.{is_note, notes}
use Rattle.grouping_interval.specs.Notes.{notes_from, note_objects}
use Rattle.grouping_chart.specs.Chart.{Chart}
use Rattle.grouping_chart.specs.Settings.{Settings}
use Rattle.grouping_chart.specs.Refusal.{accepted}
use Rattle.grouping_chart.proofs.AcceptedLaws.{accepted_good}
use Rattle.grouping_chart.proofs.ObjectLaws.{seen₀, seen_after, seen_after_take, seen_next_notes, seen_count, notes-few}
use Rattle.grouping_interval.proofs.NoteLaws.{length_note_objects, length_of_notes, objects_all, objects-step, objects-over}
use Rattle.grouping_chart.proofs.CutLaws.{note_number}
use Rattle.call_rhythm.specs.Call.{Memory, judged, rhythm_outcome}
use Rattle.call_rhythm.proofs.CallLaws.{group-written}
use Rattle.agreement.specs.CommonTail.{Counterparts, SameLast}
use Rattle.agreement.specs.SameGroups.{group_at}
use Rattle.agreement.specs.rhythm.Claim.{note_count, rhythm_groups, LandmarkNote}
use Rattle.agreement.specs.rhythm.Calls.{groups_written, RhythmCallClaim}
use Rattle.agreement.proofs.GroupLaws.{SameNumbers, groups-alike}
use Rattle.agreement.proofs.rhythm.Claimed.{chart_claim}

-- ---- the object of note number j is a note, and its number is j

-- the notes before object i + 1
count_next : (ks : List ℕ) (i : ℕ) → i < length ks
    → length (notes (take (i + 1) ks)) ≡ cond (is_note (get_or ks i 0)) (length (notes (take i ks)) + 1) (length (notes (take i ks)))
count_next ks i h =
    rw (← seen_count (take (i + 1) ks), ← seen_count (take i ks), seen_after_take seen₀ ks i h) (seen_next_notes (seen_after seen₀ (take i ks)) (get_or ks i 0))

-- object o is the note before which j notes stand
record NoteAt (ks : List ℕ) (j o : ℕ) : Type 0 where
  there : o < length ks
  is_note_lem : is_note (get_or ks o 0) ≡ true
  before : length (notes (take o ks)) ≡ j

-- the notes from object i on
abbrev onwards : List ℕ → ℕ → List ℕ
onwards ks i = notes_from i (drop i ks)

-- the j-th of them, where `left` objects are left
note_from : (ks : List ℕ) (left i : ℕ) → left + i ≡ length ks → (j : ℕ) → j < length (onwards ks i)
    → NoteAt ks (length (notes (take i ks)) + j) (get_or (onwards ks i) j 0)
note_from ks zero i e j h = absurd (omega (arith, ap length (objects-over ks i (omega arith))))
note_from ks (suc left) i e j h = by (is_note (get_or ks i 0)) refl j h (note_from ks left (i + 1) (omega arith))
  where
    within : i < length ks
    within = omega arith

    by : (b : Bool) → is_note (get_or ks i 0) ≡ b → (j : ℕ) → j < length (onwards ks i)
        → ((j : ℕ) → j < length (onwards ks (i + 1)) → NoteAt ks (length (notes (take (i + 1) ks)) + j) (get_or (onwards ks (i + 1)) j 0))
        → NoteAt ks (length (notes (take i ks)) + j) (get_or (onwards ks i) j 0)
    by true n zero h later = rw (objects-step ks i true within n) (record { there = within; is_note_lem = n; before = omega arith })
    by true n (suc j) h later =
        let l = rw (objects-step ks i true within n) at h in
        let x = later j (omega arith) in
        let counted = rw n at (count_next ks i within) in
        rw (objects-step ks i true within n) (record { there = x.there; is_note_lem = x.is_note_lem; before = omega (arith, x.before, counted) })
    by false n j h later =
        let x = later j (rw (objects-step ks i false within n) at h) in
        let counted = rw n at (count_next ks i within) in
        rw (objects-step ks i false within n) (record { there = x.there; is_note_lem = x.is_note_lem; before = omega (arith, x.before, counted) })

note_at : (ks : List ℕ) (j : ℕ) → j < length (note_objects ks) → NoteAt ks j (get_or (note_objects ks) j 0)
note_at ks j h =
    let x = note_from ks (length ks) 0 (omega arith) j (rw (objects_all ks) at h) in
    rw (objects_all ks) (record { there = x.there; is_note_lem = x.is_note_lem; before = omega (arith, x.before, notes-few []) })

-- ---- the theorem

-- what an accepted call writes for the notes, in order
numbers-written : (s : Settings) (c : Chart) (lent : Memory) → judged s c lent ≡ accepted
    → SameNumbers (note_count c) (rhythm_groups s c).numbers (groups_written s c lent).numbers
numbers-written s c lent x = record { at = at }
  where
    objects : List ℕ
    objects = note_objects c.kinds

    at : (j : ℕ) → j < note_count c → group_at (groups_written s c lent) j ≡ group_at (rhythm_groups s c) j
    at j h =
        let l : j < length objects =
        omega (arith, length_note_objects c.kinds, length_of_notes c.kinds c.deltas (accepted_good c _ x).lengths.delta) in
        let n = note_at c.kinds j l in
        get_or-gathered (rhythm_outcome s c lent).memory.group objects j l ∙ group-written s c lent x (get_or objects j 0) n.there n.is_note_lem
        ∙ ap (group_at (rhythm_groups s c)) (note_number c.kinds (get_or objects j 0) n.is_note_lem ∙ n.before)

pub rhythm_call : (s : Settings) (c c' : Chart) (lent lent' : Memory) {m : ℕ} → judged s c lent ≡ accepted → judged s c' lent' ≡ accepted
    → SameLast m c.kinds c'.kinds → SameLast m c.deltas c'.deltas → (i i' : ℕ) → Counterparts (note_count c) (note_count c') i i'
    → LandmarkNote s c m i ⊎ LandmarkNote s c' m i' → RhythmCallClaim s c c' lent lent' i i'
rhythm_call s c c' lent lent' x x' k d i i' far landmark =
    groups-alike (numbers-written s c lent x) (numbers-written s c' lent' x')
    (chart_claim s c c' (accepted_good c _ x).lengths.delta (accepted_good c' _ x').lengths.delta k d i i' far landmark)
