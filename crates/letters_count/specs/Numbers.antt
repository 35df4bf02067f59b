-- The numbers by which refusals are told.
use Rattle.std.specs.Prelude.{ℕ}
use Rattle.letters_count.specs.declared.Fault.{Fault}
use Rattle.letters_count.specs.declared.Fault.TheVariants.{Misplaced, Crowded, TooDeep}

abbrev pub number_of : Fault → ℕ
number_of Misplaced = 12
number_of Crowded = 13
number_of TooDeep = 14
