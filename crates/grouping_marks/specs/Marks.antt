-- Groups of neighbouring items, by marks: a number for each item, 1 where it opens a group and 0 where it continues it.
-- Streaks, alternating patterns, hit patterns and rhythm groups are all given so.
-- The first item opens a group whatever its mark.
use Rattle.std.specs.Prelude.{ℕ, ◌+◌, ◌-◌, cond, List, [], ◌∷◌, eqb, length}
use Rattle.lent.specs.Scan.{scan, end_state, tabulate}

-- how many groups were opened, an item with mark m included, where c were opened before it
unfoldable pub opened : ℕ → ℕ → ℕ
opened c m = cond (eqb m 0) (cond (eqb c 0) 1 c) (c + 1)

unfoldable pub group_count : List ℕ → ℕ
group_count marks = end_state opened 0 marks

-- an item's group, by its mark m, where c groups were opened before it: the groups count from 0
abbrev pub number_by_mark : ℕ → ℕ → ℕ
number_by_mark c m = opened c m - 1

-- each item's group
unfoldable pub group_numbers : List ℕ → List ℕ
group_numbers marks = scan opened number_by_mark 0 marks

-- an item's place in its group, by its mark m, where p items of the open group went before
unfoldable pub place_by_mark : ℕ → ℕ → ℕ
place_by_mark p m = cond (eqb m 0) p 0

-- each item's place in its group
unfoldable pub group_places : List ℕ → List ℕ
unfolding place_by_mark
group_places marks = scan (λ p m. place_by_mark p m + 1) place_by_mark 0 marks

-- the sizes of the groups, where the open one has p items so far
unfoldable pub sizes_from : ℕ → List ℕ → List ℕ
sizes_from p [] = p ∷ []
sizes_from p (m ∷ ms) = cond (eqb m 0) (sizes_from (p + 1) ms) (p ∷ sizes_from 1 ms)

-- each group's size
unfoldable pub group_sizes : List ℕ → List ℕ
unfolding sizes_from
group_sizes [] = []
group_sizes (m ∷ ms) = sizes_from 1 ms

-- what stands at each item that opens a group, past the first item
unfoldable pub firsts_from : List ℕ → List ℕ → List ℕ
firsts_from [] xs = []
firsts_from (m ∷ ms) [] = []
firsts_from (m ∷ ms) (x ∷ xs) = cond (eqb m 0) (firsts_from ms xs) (x ∷ firsts_from ms xs)

-- what stands at each group's first item
unfoldable pub group_firsts : List ℕ → List ℕ → List ℕ
unfolding firsts_from
group_firsts [] xs = []
group_firsts (m ∷ ms) [] = []
group_firsts (m ∷ ms) (x ∷ xs) = x ∷ firsts_from ms xs

-- what stands at the last item of the open group, which is x so far, and of each group behind it
unfoldable pub lasts_from : ℕ → List ℕ → List ℕ → List ℕ
lasts_from x [] ys = x ∷ []
lasts_from x (m ∷ ms) [] = x ∷ []
lasts_from x (m ∷ ms) (y ∷ ys) = cond (eqb m 0) (lasts_from y ms ys) (x ∷ lasts_from y ms ys)

-- what stands at each group's last item
unfoldable pub group_lasts : List ℕ → List ℕ → List ℕ
unfolding lasts_from
group_lasts [] xs = []
group_lasts (m ∷ ms) [] = []
group_lasts (m ∷ ms) (x ∷ xs) = lasts_from x ms xs

-- the items by their numbers, which count from 0
abbrev pub items : List ℕ → List ℕ
items marks = tabulate (λ (i : ℕ). i) (length marks)

-- each group's first item and its last
unfoldable pub first_items : List ℕ → List ℕ
first_items marks = group_firsts marks (items marks)

unfoldable pub last_items : List ℕ → List ℕ
last_items marks = group_lasts marks (items marks)
