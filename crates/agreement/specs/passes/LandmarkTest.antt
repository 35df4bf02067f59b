-- The landmark of colour/Landmark.antt as a test that computes: the object of (a), the streak of (b) and the pattern of
-- (c) are searched for. `test_landmark` and `landmark_test`, in proofs/colour/LandmarkLaws.antt, say that it finds
-- exactly these. What makes each of the three serve is a parameter, so that other conditions can be tried.
use Rattle.std.specs.Prelude.{ℕ, ◌+◌, ◌-◌, Bool, not, List, [], ◌∷◌, eqb, leb, ltb, length, get_or}
use Rattle.grouping_marks.specs.Marks.{group_count, group_numbers}
use Rattle.grouping_chart.specs.Object.{is_note}
use Rattle.grouping_colour.specs.MonoStreak.{streak_marks, streak_of, streak_lengths}
use Rattle.grouping_preprocessor.specs.Preprocessor.{patterns_open, coupled_patterns, alternating_of}
use Rattle.agreement.specs.passes.Tests.{all_true, any_below}

-- the lists that a landmark is read from
pub record LevelLists : Type 0 where
  pub kinds : List ℕ
  -- which objects open a streak, each object's streak, each streak's length
  pub marks : List ℕ
  pub streaks : List ℕ
  pub lengths : List ℕ
  -- which streaks open a pattern, each streak's pattern, which patterns are coupled, each object's pattern
  pub opens : List ℕ
  pub patterns : List ℕ
  pub flags : List ℕ
  pub object-patterns : List ℕ

unfoldable pub levels_of : List ℕ → LevelLists
levels_of kinds = record {
  kinds = kinds;
  marks = streak_marks kinds;
  streaks = streak_of kinds;
  lengths = streak_lengths kinds;
  opens = patterns_open kinds;
  patterns = group_numbers (patterns_open kinds);
  flags = coupled_patterns kinds;
  object-patterns = alternating_of kinds;
}

-- what makes an object serve for (a), where the last m objects are the tail; a streak for (b), by that object; a
-- pattern for (c), by that streak
pub record Conditions : Type 0 where
  pub object : LevelLists → ℕ → ℕ → Bool
  pub streak : LevelLists → ℕ → ℕ → Bool
  pub pattern : LevelLists → ℕ → ℕ → Bool

-- a note of the tail before the object
unfoldable pub tail_note_before : LevelLists → ℕ → ℕ → Bool
tail_note_before l m object =
    any_below object (λ note. all_true (is_note (get_or l.kinds note 0) ∷ leb (length l.kinds) (note + m) ∷ []))

unfoldable pub object_serves : LevelLists → ℕ → ℕ → Bool
object_serves l m object = all_true (eqb (get_or l.marks object 0) 1 ∷ tail_note_before l m object ∷ [])

unfoldable pub streak_serves : LevelLists → ℕ → ℕ → Bool
streak_serves l object streak =
    all_true (leb (get_or l.streaks object 0) streak
    ∷ ltb (streak + 1) (group_count l.marks)
    ∷ not (eqb (get_or l.lengths streak 0) (get_or l.lengths (streak + 1) 0))
    ∷ eqb (get_or l.opens (streak + 1) 0) 1
    ∷ [])

unfoldable pub pattern_serves : LevelLists → ℕ → ℕ → Bool
pattern_serves l streak pattern =
    all_true (leb (get_or l.patterns (streak + 1) 0) pattern
    ∷ ltb (pattern + 1) (group_count l.opens)
    ∷ eqb (get_or l.flags pattern 0) 0
    ∷ eqb (get_or l.flags (pattern + 1) 0) 0
    ∷ [])

-- the scope's reading
abbrev pub plain : Conditions
plain = record { object = object_serves; streak = streak_serves; pattern = pattern_serves }

-- the position is just after the last object of the pattern
unfoldable pub ends_at : LevelLists → ℕ → ℕ → Bool
ends_at l pattern position =
    all_true (ltb 0 position
    ∷ leb position (length l.kinds)
    ∷ eqb (get_or l.object-patterns (position - 1) 0) pattern
    ∷ not (any_below (length l.kinds) (λ i.
    all_true (leb position i ∷ eqb (get_or l.object-patterns i 0) pattern ∷ [])))
    ∷ [])

-- by a pattern, by a streak and by an object
unfoldable pub pattern_found : Conditions → LevelLists → ℕ → ℕ → Bool
pattern_found r l position streak =
    any_below (group_count l.opens) (λ pattern.
    all_true (r.pattern l streak pattern ∷ ends_at l (pattern + 1) position ∷ []))

unfoldable pub streak_found : Conditions → LevelLists → ℕ → ℕ → Bool
streak_found r l position object =
    any_below (group_count l.marks) (λ streak.
    all_true (r.streak l object streak ∷ pattern_found r l position streak ∷ []))

unfoldable pub landmark_found : Conditions → LevelLists → ℕ → ℕ → Bool
landmark_found r l m position =
    any_below (length l.kinds) (λ object.
    all_true (r.object l m object ∷ streak_found r l position object ∷ []))

unfoldable pub is_landmark : Conditions → List ℕ → ℕ → ℕ → Bool
is_landmark r kinds m position = landmark_found r (levels_of kinds) m position
