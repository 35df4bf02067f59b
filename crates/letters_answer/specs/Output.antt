-- The letters program, by the scope's paragraph of that name and request 5/12: for each hit pattern of a drill's
-- objects (the kinds 0, 1 and 2 of d, k and n) a line with its interval and its letters, or one line on what is wrong
-- with the text. `dkkddk`, and `dk2~k2k` too, gives `17 d`, `17 kk,dd`, `2 k`.
use Rattle.std.specs.Prelude.{◌≡◌, ℕ, ◌≤◌, List, length, take}
use Rattle.grouping_colour.specs.MonoStreak.{streak_of}
use Rattle.grouping_preprocessor.specs.Preprocessor.{alternating_of, hit_of, interval_of}
use Rattle.grouping_chart.specs.Settings.{base_settings}
use Rattle.letters_grammar.specs.Letters.{trimmed}
use Rattle.letters_grammar.specs.Reading.{good, refused}
use Rattle.letters_shorthand.specs.Input.{Input, long, read, input_of, input_bytes}
use Rattle.letters_text.specs.Lines.{Columns, lines, refused_line, long_line}

-- the numbers of encode that the lines show
unfoldable pub columns : List ℕ → Columns
columns kinds = record {
  kinds = kinds;
  streaks = streak_of kinds;
  patterns = alternating_of kinds;
  hits = hit_of kinds;
  intervals = interval_of base_settings.search_limit kinds;
}

-- what is printed for what an input is
unfoldable pub printed : Input → List ℕ
printed long = long_line
printed (read (refused n p)) = refused_line n p
printed (read (good kinds)) = lines (columns kinds)

-- all that is printed for a whole input
unfoldable pub letters_output : List ℕ → List ℕ
letters_output text = printed (input_of (trimmed text))

-- so many bytes were read to the front of `input`, which has places enough to tell all; `answer` is all that is printed
-- for every text that begins with these, and has no more of them unless `input` is full
pub record InputAnswered (input answer : List ℕ) : Type 0 where
  pub places : length input ≡ input_bytes
  pub read : ℕ
  pub within : read ≤ length input
  pub output : (text : List ℕ) → take (length input) text ≡ take read input → answer ≡ letters_output text
