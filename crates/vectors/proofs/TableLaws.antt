-- The floats that are read into a slice: they are its front.
use mathlib.Core.Path.{◌≡◌, ◌∙◌}
use mathlib.Core.List.{List}
use Prim.Native.Nat.{ℕ}
use lib.Ieee.{Float}
use lib.ListN.{length, take}
use Rattle.lent.specs.Over.{over}
use Rattle.lent.proofs.OverLaws.{front}
use Rattle.lent.proofs.FillLaws.{length-tabulate}
use Rattle.vectors.specs.Case.{column, words, number_at, column_word}
use Rattle.vectors.specs.Table.{float_at, floats, entry_at, entries}

module _ (s : List ℕ) (at n : ℕ) (old : List Float) where
  pub floats_front : take n (over (floats (words s at n)) old) ≡ floats (words s at n)
  unfolding floats words
  floats_front = front _ old n (length-tabulate (float_at (words s at n)) (length (words s at n)) ∙ length-tabulate (column_word s at) n)

  pub entries_front : (table : List ℕ) (width : ℕ) → take n (over (entries table (column s at width n)) old) ≡ entries table (column s at width n)
  unfolding entries column
  entries_front table width =
      front _ old n (length-tabulate (entry_at table (column s at width n)) (length (column s at width n)) ∙ length-tabulate (number_at s at width) n)
