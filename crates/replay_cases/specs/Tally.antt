-- What is counted over the cases of one call.
use Rattle.std.specs.Prelude.{ℕ, ◌+◌, ◌%◌, ◌^◌, Bool, cond, Option, Some, None, unwrap_or}
use Rattle.replay_cases.specs.declared.tally.Tally.{Tally}

unfoldable pub no_cases : Tally
no_cases = record { cases = 0; differ = 0; first = None }

-- the number of the first case that differs, where the next one does
unfoldable pub first_differing : Tally → Option ℕ
first_differing t = Some (unwrap_or t.first t.cases)

-- after one case more; the counts wrap
unfoldable pub one_more : Tally → Bool → Tally
one_more t held = record {
  cases = (t.cases + 1) % 2 ^ 64;
  differ = cond held t.differ ((t.differ + 1) % 2 ^ 64);
  first = cond held t.first (first_differing t);
}
