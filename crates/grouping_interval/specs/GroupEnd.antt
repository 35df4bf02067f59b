-- Where the group that starts at a position ends (scope: interval_grouping.rs), for the walk from group to group.
-- The law that ties it to the marks is `marks_at`, in proofs/GroupLaws.antt.
use Rattle.std.specs.Prelude.{ℕ, suc, ◌+◌, ◌-◌, Bool, cond, List, [], ◌∷◌, eqb, ltb, length, drop, get_or, Float}
use Rattle.std.specs.Float.{nan}
use Rattle.grouping_interval.specs.IntervalGrouping.{pair_class, last_taken}

-- how many more values a group takes of those behind `last`, which it took
unfoldable pub grow : {A : Type 0} → (A → A → ℕ) → Bool → A → List A → ℕ
grow class many last [] = 0
grow class many last (v ∷ []) = cond (last_taken many (class last v)) 1 0
grow class many last (v ∷ w ∷ rest) =
    cond (eqb (class v w) 0) (suc (grow class many v (w ∷ rest))) (cond (eqb (class v w) 1) 1 0)

-- the position after the group that took the value just before position i
unfoldable pub end_after : Float → List Float → ℕ → ℕ
unfolding grow
end_after margin values i =
    i + grow (pair_class margin) (ltb 2 (length values)) (get_or values (i - 1) nan) (drop i values)

-- the position after the group that starts at position `at`: `at` itself at or past the end
unfoldable pub group_end : Float → List Float → ℕ → ℕ
unfolding end_after
group_end margin values at = cond (ltb at (length values)) (end_after margin values (at + 1)) at
