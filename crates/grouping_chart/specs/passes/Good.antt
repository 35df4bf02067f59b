-- What the passes over a chart's objects ask of its lists, and what they answer: whether all objects are good. Only
-- where not is the first bad one looked for.
use Rattle.std.specs.Prelude.{ℕ, zero, suc, ◌≡◌, Bool, true, ◌&&◌, List, [], ◌∷◌, length, Float}
use Rattle.grouping_chart.specs.Chart.{Chart}
use Rattle.grouping_chart.specs.Refusal.{Check, Verdict, accepted, and_then, refused_or}
use Rattle.grouping_chart.specs.Refusal.{kind_good, time_good, ratio_good}

-- the lists of starts, deltas (or of what is known of them) and ratios are n long
pub record SameLengths {A : Type 0} (n : ℕ) (starts : List Float) (deltas : List A) (ratios : List Float) : Type 0 where
  pub start : length starts ≡ n
  pub delta : length deltas ≡ n
  pub ratio : length ratios ≡ n

-- whether every element passes the test
unfoldable pub all : {A : Type 0} → (A → Bool) → List A → Bool
all test [] = true
all test (x ∷ xs) = test x && all test xs

-- whether a test passes at each of the first n places
unfoldable pub all_places : (ℕ → Bool) → ℕ → Bool
all_places passes zero = true
all_places passes (suc n) = all_places passes n && passes n

-- the first of n objects, or pairs, that does not pass its test, by the places
unfoldable pub first_at : (ℕ → Check) → ℕ → Verdict
first_at checks zero = accepted
first_at checks (suc n) = and_then (first_at checks n) (refused_or (checks n) n accepted)

-- whether no object is refused, of four lists of one length
unfoldable pub all_good : Chart → Bool
all_good c =
    all kind_good c.kinds && (all time_good c.starts && (all time_good c.deltas && all ratio_good c.ratios))
