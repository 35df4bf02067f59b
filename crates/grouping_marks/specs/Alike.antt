-- When two items are alike, by three lists with a number for each item: so are alternating patterns compared, and hit
-- patterns.
use Rattle.std.specs.Prelude.{ℕ, Bool, ◌&&◌, List, eqb, get_or}

-- whether items a and b have the same three numbers
abbrev pub alike_at : List ℕ → List ℕ → List ℕ → ℕ → ℕ → Bool
alike_at xs ys zs a b =
    eqb (get_or xs a 0) (get_or xs b 0) && (eqb (get_or ys a 0) (get_or ys b 0) && eqb (get_or zs a 0) (get_or zs b 0))
