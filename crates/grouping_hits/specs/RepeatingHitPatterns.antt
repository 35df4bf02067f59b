-- Scope, repeating_hit_patterns.rs: hit patterns, when two of them match, and the interval at which one repeats.
-- The search limit M is a parameter, 16 in the original: k stays below M, and M + 1 says that none matches,
-- so M itself never occurs.
use Rattle.std.specs.Prelude.{ℕ, zero, suc, ◌+◌, ◌-◌, Bool, cond, List, [], ◌∷◌, eqb, ltb, leb, length, get_or}
use Rattle.lent.specs.Scan.{tabulate}
use Rattle.grouping_marks.specs.Alike.{alike_at}

-- how many coupled patterns stand at the front, by the patterns' coupled flags
unfoldable pub coupled_run : List ℕ → ℕ
coupled_run [] = 0
coupled_run (c ∷ cs) = cond (eqb c 0) 0 (suc (coupled_run cs))

-- how many patterns the hit pattern that opens at the front takes, as far as there are patterns:
-- an uncoupled one alone; else the run of coupled ones, the uncoupled one that ends it, and the next
unfoldable pub hit_size : List ℕ → ℕ
hit_size flags = cond (eqb (coupled_run flags) 0) 1 (coupled_run flags + 2)

-- the marks where the open hit pattern takes `more` patterns yet: 0 for each of these, then 1 for the one that opens
-- the next hit pattern
unfoldable pub hit_marks_after : ℕ → List ℕ → List ℕ
unfolding coupled_run hit_size
hit_marks_after more [] = []
hit_marks_after zero (c ∷ cs) = 1 ∷ hit_marks_after (hit_size (c ∷ cs) - 1) cs
hit_marks_after (suc more) (c ∷ cs) = 0 ∷ hit_marks_after more cs

-- which patterns open a hit pattern
unfoldable pub hit_marks : List ℕ → List ℕ
hit_marks flags = hit_marks_after 0 flags

-- the first-streak length of the pattern after pattern i, where that is in its hit pattern; else 0, which no streak has
unfoldable pub second_at : List ℕ → List ℕ → ℕ → ℕ
second_at lengths marks i =
    cond (ltb (i + 1) (length lengths)) (cond (eqb (get_or marks (i + 1) 0) 0) (get_or lengths (i + 1) 0) 0) 0

unfoldable pub second_lengths : List ℕ → List ℕ → List ℕ
second_lengths lengths marks = tabulate (second_at lengths marks) (length lengths)

-- whether the hit patterns a and b match, by how many patterns each holds and the first two's first-streak lengths
unfoldable pub matches : List ℕ → List ℕ → List ℕ → ℕ → ℕ → Bool
matches sizes firsts seconds a b = alike_at sizes firsts seconds a b

-- the smallest k, from the given one on and with at most `more` tries, whose k-th hit pattern before h matches h;
-- else `none`
unfoldable pub nearest_match : List ℕ → List ℕ → List ℕ → ℕ → ℕ → ℕ → ℕ → ℕ
nearest_match sizes firsts seconds none h zero k = none
nearest_match sizes firsts seconds none h (suc more) k =
    cond (leb k h)
    (cond (matches sizes firsts seconds (h - k) h) k (nearest_match sizes firsts seconds none h more (suc k))) none

unfoldable pub interval_at : ℕ → List ℕ → List ℕ → List ℕ → ℕ → ℕ
interval_at limit sizes firsts seconds h = nearest_match sizes firsts seconds (limit + 1) h (limit - 1) 1

unfoldable pub intervals : ℕ → List ℕ → List ℕ → List ℕ → List ℕ
intervals limit sizes firsts seconds = tabulate (interval_at limit sizes firsts seconds) (length sizes)
