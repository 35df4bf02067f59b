-- Two items that are compared by three lists: read in the work slice, and behind a cut of the lists.
use mathlib.Core.Path.{◌≡◌, refl}
use mathlib.Core.Bool.{Bool, ◌&&◌}
use mathlib.Core.List.{List, ◌++◌}
use Prim.Native.Nat.{ℕ, ◌+◌, ◌<◌}
use lib.Dec.{eqb}
use lib.ListN.{length, get_or}
use lib.Seq.{get_or-append-add}
use Rattle.lent.specs.Over.{part}
use Rattle.lent.proofs.OverLaws.{get_or-part}
use Rattle.grouping_marks.specs.Alike.{alike_at}

module _ (w : List ℕ) (x y z m a b : ℕ) (in-a : a < m) (in_b : b < m) where
  read_a : (r : ℕ) → get_or (part r m w) a 0 ≡ get_or w (r + a) 0
  read_a r = get_or-part r m w a 0 in-a

  read_b : (r : ℕ) → get_or (part r m w) b 0 ≡ get_or w (r + b) 0
  read_b r = get_or-part r m w b 0 in_b

  abbrev same : ℕ → Bool
  same r = eqb (get_or w (r + a) 0) (get_or w (r + b) 0)

  pub alike_read : (same x && (same y && same z)) ≡ alike_at (part x m w) (part y m w) (part z m w) a b
  alike_read = rw (read_a x, read_a y, read_a z, read_b x, read_b y, read_b z)

-- counted from the cut, two items behind it are compared as in the backs alone
module _ (xs xs' ys ys' zs zs' : List ℕ) (e : length ys ≡ length xs) (f : length zs ≡ length xs) where
  behind : (front back : List ℕ) (i : ℕ) → length front ≡ length xs → get_or (front ++ back) (length xs + i) 0 ≡ get_or back i 0
  behind front back i q = rw (← q) (get_or-append-add front back i 0)

  pub alike-back : (i j : ℕ) → alike_at (xs ++ xs') (ys ++ ys') (zs ++ zs') (length xs + i) (length xs + j) ≡ alike_at xs' ys' zs' i j
  alike-back i j = rw (behind xs xs' i refl, behind xs xs' j refl, behind ys ys' i e, behind ys ys' j e, behind zs zs' i f, behind zs zs' j f)
