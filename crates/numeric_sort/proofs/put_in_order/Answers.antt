-- The sort's clause, at the order that `compare` answers by.
use Rattle.std.proofs.Common.{rules}
use Rattle.std.specs.Ordering.{is_lt}
use Rattle.std.proofs.lemmas.List.Sorted.{answers_always}
use Rattle.numeric_sort.specs.passes.Sort.{comparison}
use Rattle.numeric_sort.proofs.OrderedLaws.{slice_numbers}
use Rattle.numeric_sort.proofs.CompareLaws.{comparison_ranks, sorted_ordered}
use Rattle.numeric_sort.proofs.put_in_order.Goals as goal

pub returns : goal.returns
returns c =
    sorted_ordered (slice_numbers c.requires (search rules)) c.sort_unstable_by.ensures.permutation
    (c.sort_unstable_by.ensures.sorted (λ x y. is_lt (comparison x y)) comparison_ranks (answers_always _ _ _ (λ f a r f' k. search rules)))
