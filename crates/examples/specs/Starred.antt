-- The chart examples of the scope that have a star, as one list of input and outcome. `StarredRight`, in proofs/, is
-- the theorem over the list.
use Rattle.std.specs.Prelude.{ℕ, ◌*◌, List, [], ◌∷◌, ◌++◌, replicate}
use Rattle.examples.specs.Question.{Question, encoded, coloured, rhythmed, grouped, normal, wholes, walked}

pub record Example : Type 0 where
  pub question : Question
  pub outcome : List (List ℕ)

-- the bits of 1.0, which a float slice is lent full of
abbrev pub bits_of_one : ℕ
bits_of_one = 0x3ff0_0000_0000_0000

-- six answers, each with a place to spare, and the work slices cleared as far as n objects need
unfoldable pub encoding : ℕ → ℕ → List ℕ → List ℕ → List ℕ → List ℕ → List ℕ → List ℕ → List (List ℕ)
encoding n hits streak streak_place pattern pattern_place hit interval =
    (0 ∷ hits ∷ []) ∷ spare streak ∷ spare streak_place ∷ spare pattern ∷ spare pattern_place ∷ spare hit ∷ spare
    interval
    ∷ (replicate (8 * n) 0 ++ (77 ∷ [])) ∷ (replicate n 0 ++ (bits_of_one ∷ [])) ∷ []
  where
    spare : List ℕ → List ℕ
    spare xs = xs ++ (77 ∷ [])

unfoldable pub starred : List Example
starred =
    -- an empty chart: Done, and every slice is left as it was lent
    record { question = encoded []; outcome = encoding 0 0 [] [] [] [] [] [] }
    ∷ record { question = coloured []; outcome = (0 ∷ []) ∷ (bits_of_one ∷ []) ∷ (77 ∷ []) ∷ (bits_of_one ∷ []) ∷ [] }
    ∷ record {
      question = rhythmed [];
      outcome = (0 ∷ 0 ∷ 0 ∷ []) ∷ (77 ∷ []) ∷ (77 ∷ []) ∷ (77 ∷ []) ∷ (bits_of_one ∷ []) ∷ [];
    }
    -- d: one hit pattern, interval 17; the value is mono, alt and hit with T at 0, each step rounded
    ∷ record {
      question = encoded (0 ∷ []);
      outcome = encoding 1 1 (0 ∷ []) (0 ∷ []) (0 ∷ []) (0 ∷ []) (0 ∷ []) (17 ∷ []);
    }
    ∷ record {
      question = coloured (0 ∷ []);
      outcome = (0 ∷ []) ∷ (0x4013_ee42_c838_4268 ∷ bits_of_one ∷ [])
          ∷ (replicate 8 0 ++ (77 ∷ [])) ∷ (0 ∷ bits_of_one ∷ []) ∷ [];
    }
    -- d n d: the object that is no note goes with the streak after it
    ∷ record {
      question = encoded (0 ∷ 2 ∷ 0 ∷ []);
      outcome = encoding 3 2
          (0 ∷ 1 ∷ 1 ∷ []) (0 ∷ 0 ∷ 0 ∷ [])
          (0 ∷ 1 ∷ 1 ∷ []) (0 ∷ 0 ∷ 0 ∷ [])
          (0 ∷ 1 ∷ 1 ∷ []) (17 ∷ 17 ∷ 17 ∷ []);
    }
    -- d d k: the k opens a hit pattern
    ∷ record {
      question = encoded (0 ∷ 0 ∷ 1 ∷ []);
      outcome = encoding 3 2
          (0 ∷ 0 ∷ 1 ∷ []) (0 ∷ 0 ∷ 0 ∷ [])
          (0 ∷ 0 ∷ 1 ∷ []) (0 ∷ 0 ∷ 0 ∷ [])
          (0 ∷ 0 ∷ 1 ∷ []) (17 ∷ 17 ∷ 17 ∷ []);
    }
    -- d k d k: four streaks of one length, so they alternate
    ∷ record {
      question = encoded (0 ∷ 1 ∷ 0 ∷ 1 ∷ []);
      outcome = encoding 4 1
          (0 ∷ 1 ∷ 2 ∷ 3 ∷ []) (0 ∷ 1 ∷ 2 ∷ 3 ∷ [])
          (0 ∷ 0 ∷ 0 ∷ 0 ∷ []) (0 ∷ 0 ∷ 0 ∷ 0 ∷ [])
          (0 ∷ 0 ∷ 0 ∷ 0 ∷ []) (17 ∷ 17 ∷ 17 ∷ 17 ∷ []);
    }
    -- d kk d: all in a single hit pattern
    ∷ record {
      question = encoded (0 ∷ 1 ∷ 1 ∷ 0 ∷ []);
      outcome = encoding 4 1
          (0 ∷ 1 ∷ 1 ∷ 2 ∷ []) (0 ∷ 0 ∷ 0 ∷ 0 ∷ [])
          (0 ∷ 1 ∷ 1 ∷ 2 ∷ []) (0 ∷ 1 ∷ 1 ∷ 2 ∷ [])
          (0 ∷ 0 ∷ 0 ∷ 0 ∷ []) (17 ∷ 17 ∷ 17 ∷ 17 ∷ []);
    }
    -- d kk dd k: the third hit pattern repeats the first
    ∷ record {
      question = encoded (0 ∷ 1 ∷ 1 ∷ 0 ∷ 0 ∷ 1 ∷ []);
      outcome = encoding 6 3
          (0 ∷ 1 ∷ 1 ∷ 2 ∷ 2 ∷ 3 ∷ []) (0 ∷ 0 ∷ 0 ∷ 1 ∷ 1 ∷ 0 ∷ [])
          (0 ∷ 1 ∷ 1 ∷ 1 ∷ 1 ∷ 2 ∷ []) (0 ∷ 0 ∷ 0 ∷ 0 ∷ 0 ∷ 0 ∷ [])
          (0 ∷ 1 ∷ 1 ∷ 1 ∷ 1 ∷ 2 ∷ []) (17 ∷ 17 ∷ 17 ∷ 17 ∷ 17 ∷ 2 ∷ []);
    }
    -- one rhythm group, two, and three
    ∷ record { question = grouped (100 ∷ 100 ∷ 100 ∷ []); outcome = (0 ∷ 0 ∷ 0 ∷ []) ∷ [] }
    ∷ record { question = grouped (100 ∷ 100 ∷ 200 ∷ []); outcome = (0 ∷ 0 ∷ 1 ∷ []) ∷ [] }
    ∷ record { question = grouped (100 ∷ 200 ∷ 100 ∷ []); outcome = (0 ∷ 1 ∷ 2 ∷ []) ∷ [] }
    -- 102.5 twice, and rounded to whole 102
    ∷ record { question = normal (100 ∷ 105 ∷ []); outcome = (0x4059_a000_0000_0000 ∷ 0x4059_a000_0000_0000 ∷ []) ∷ [] }
    ∷ record { question = wholes (100 ∷ 105 ∷ []); outcome = (0x4059_8000_0000_0000 ∷ 0x4059_8000_0000_0000 ∷ []) ∷ [] }
    -- 101.5, 101.5 and 107
    ∷ record {
      question = normal (100 ∷ 103 ∷ 107 ∷ []);
      outcome = (0x4059_6000_0000_0000 ∷ 0x4059_6000_0000_0000 ∷ 0x405a_c000_0000_0000 ∷ []) ∷ [];
    }
    -- own intervals of which no two that are compared are alike, and some of which two are: 1.0 and 0.8
    ∷ record { question = walked (110 ∷ 150 ∷ 100 ∷ []); outcome = (bits_of_one ∷ []) ∷ [] }
    ∷ record { question = walked (100 ∷ 150 ∷ 110 ∷ []); outcome = (0x3fe9_9999_9999_999a ∷ []) ∷ [] }
    ∷ []
