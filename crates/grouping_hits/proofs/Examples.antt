-- Worked examples of hit patterns: coupled flags, pattern by pattern, with the marks of those that open a hit pattern.
use mathlib.Core.Path.{◌≡◌, refl}
use mathlib.Core.List.{List, [], ◌∷◌, map}
use Prim.Native.Nat.{ℕ}
use Rattle.grouping_hits.specs.RepeatingHitPatterns.{coupled_run, hit_size, hit_marks_after, hit_marks}

record Example : Type 0 where
  flags : List ℕ
  marks : List ℕ

examples : List Example
examples =
    record { flags = []; marks = [] }
    -- uncoupled patterns stand alone: 0 | 0
    ∷ record { flags = 0 ∷ 0 ∷ []; marks = 1 ∷ 1 ∷ [] }
    -- from a coupled one the uncoupled one that ends the run, and the next: 0 | 1 0 0 | 0 | 1 1 0 0 | 0
    ∷ record {
      flags = 0 ∷ 1 ∷ 0 ∷ 0 ∷ 0 ∷ 1 ∷ 1 ∷ 0 ∷ 0 ∷ 0 ∷ [];
      marks = 1 ∷ 1 ∷ 0 ∷ 0 ∷ 1 ∷ 1 ∷ 0 ∷ 0 ∷ 0 ∷ 1 ∷ [];
    }
    -- the next is taken though it is coupled itself: 1 0 1 | 1 0 0
    ∷ record { flags = 1 ∷ 0 ∷ 1 ∷ 1 ∷ 0 ∷ 0 ∷ []; marks = 1 ∷ 0 ∷ 0 ∷ 1 ∷ 0 ∷ 0 ∷ [] }
    -- as far as there are patterns: 1 0, and 0 | 1 1
    ∷ record { flags = 1 ∷ 0 ∷ []; marks = 1 ∷ 0 ∷ [] }
    ∷ record { flags = 0 ∷ 1 ∷ 1 ∷ []; marks = 1 ∷ 1 ∷ 0 ∷ [] }
    ∷ []

examples_right : map (λ (e : Example). hit_marks e.flags) examples ≡ map (λ (e : Example). e.marks) examples
unfolding examples coupled_run hit_size hit_marks_after hit_marks
examples_right = refl
