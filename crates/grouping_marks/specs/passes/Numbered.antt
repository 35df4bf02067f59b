-- Numbers that are the items' groups by some marks.
use Rattle.std.specs.Prelude.{ℕ, ◌≡◌, List}
use Rattle.grouping_marks.specs.Marks.{group_count, group_numbers}

-- by these marks, which make k groups
pub record NumberedBy (marks numbers : List ℕ) (k : ℕ) : Type 0 where
  pub are : numbers ≡ group_numbers marks
  pub many : group_count marks ≡ k

pub record Numbered (numbers : List ℕ) (k : ℕ) : Type 0 where
  pub marks : List ℕ
  pub by : NumberedBy marks numbers k
