-- An input as numbers: 0, 1 for one that is too long, or the refusal; its place; and how many objects were read.
use Rattle.letters_shorthand.specs.Input.{Answer, too_long, refused_at, so_many}
use Rattle.test_host.specs.declared.LettersRead.{LettersRead}

unfoldable pub told_of : Answer → LettersRead
told_of too_long = record { number = 1; place = 0; objects = 0 }
told_of (refused_at n p) = record { number = n; place = p; objects = 0 }
told_of (so_many n) = record { number = 0; place = 0; objects = n }
