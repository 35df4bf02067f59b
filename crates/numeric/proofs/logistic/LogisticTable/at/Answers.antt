-- The values are the list of the bit patterns, each read as a float.
use Rattle.std.proofs.Common.{sym, ap, rules}
use lib.ListN.{get_or-eq_default}
use lib.Ieee.{nan, binary64, of_bits}
use Rattle.numeric.specs.Logistic.{table_bits, logistic_table, logistic_at}
use Rattle.std.proofs.lemmas.List.{get_or-map}
use Rattle.numeric.proofs.logistic.LogisticTable.at.Goals as goal

pub returns-in-0-to-263 : goal.returns-in-0-to-263
unfolding logistic_table logistic_at table_bits
returns-in-0-to-263 c = rw c.args.self.now.is_table (get_or-map (of_bits binary64) table_bits c.args.n 0 nan (search rules))

pub returns-in_default : goal.returns-in_default
unfolding logistic_at table_bits
returns-in_default c = sym (ap (of_bits binary64) (get_or-eq_default table_bits 0 {n = c.args.n} (search rules)))
