-- When two groupings agree, counted from the end (scope: "Landmarks"): of hit patterns, and of rhythm groups, whose
-- objects are notes.
use Rattle.std.specs.Prelude.{ℕ, ◌≤◌, ◌<◌, ◌≡◌, ◌↔◌, List, get_or}
use Rattle.agreement.specs.CommonTail.{Counterparts}

-- a grouping: how many objects there are, and a list that begins with the number of each one's group
pub record Groups : Type 0 where
  pub count : ℕ
  pub numbers : List ℕ

abbrev pub groups : ℕ → List ℕ → Groups
groups count numbers = record { count = count; numbers = numbers }

-- the number of object i's group
abbrev pub group_at : Groups → ℕ → ℕ
group_at g i = get_or g.numbers i 0

-- a group opens at object i: no object before it is of its group
pub record OpensAt (g : Groups) (i : ℕ) : Type 0 where
  pub there : i < g.count
  pub first : (j : ℕ) → j < i → group_at g j ≡ group_at g i → ⊥

-- the group of object i and that of object i' hold the same objects: what is of the one has a counterpart, and that is
-- of the other
pub record SameObjects (g : Groups) (i : ℕ) (g' : Groups) (i' : ℕ) : Type 0 where
  pub forth : (j : ℕ) → j < g.count → group_at g j ≡ group_at g i
      → (j' : ℕ) × (Counterparts g.count g'.count j j' × (group_at g' j' ≡ group_at g' i'))
  pub back : (j' : ℕ) → j' < g'.count → group_at g' j' ≡ group_at g' i'
      → (j : ℕ) × (Counterparts g.count g'.count j j' × (group_at g j ≡ group_at g i))

-- from object p of the one grouping and object p' of the other on
pub record SameGroups (g : Groups) (p : ℕ) (g' : Groups) (p' : ℕ) : Type 0 where
  -- the two are counterparts themselves
  pub start : Counterparts g.count g'.count p p'
  -- further on, an object begins a group in both groupings or in neither
  pub opens : (i i' : ℕ) → p ≤ i → Counterparts g.count g'.count i i' → OpensAt g i ↔ OpensAt g' i'
  -- and where it begins one, neither group has an object that the other lacks
  pub same : (i i' : ℕ) → p ≤ i → Counterparts g.count g'.count i i' → OpensAt g i → SameObjects g i g' i'
