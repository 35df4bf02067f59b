-- The text of the lines, object by object, and how long it is; the invariant of the loop that writes it.
use mathlib.Core.Path.{◌≡◌, refl, ap, ◌∙◌}
use mathlib.Core.List.{List, [], ◌∷◌, ◌++◌, append_assoc, append-nil}
use mathlib.Core.Bool.{Bool, true, false, cond}
use Prim.Native.Nat.{ℕ, suc, ◌+◌, ◌*◌, ◌≤◌, ◌<◌, suc-le-suc}
use native.Mathlib.Numerals.{add-one}
use native.Mathlib.Omega.{arith}
use lib.Dec.{eqb}
use lib.ListN.{length, drop, get_or, length-append, drop_of_length-le}
use lib.Seq.{drop-cons}
use lib.Utf8.{encode}
use Rattle.std.specs.Fmt.{decimal}
use Rattle.std.proofs.lemmas.Fmt.{length-decimal-le}
use Rattle.std.proofs.lemmas.Str.{encode_ascii}
use Rattle.lent.proofs.FillLaws.{length-tabulate, get_or-tabulate}
use Rattle.letters_grammar.specs.Letters.{letter_of}
use Rattle.letters_grammar.proofs.LetterLaws.{letter_ascii}
use Rattle.letters_count.specs.declared.Fault.{Fault}
use Rattle.letters_count.specs.declared.Fault.TheVariants.{Misplaced, Crowded, TooDeep}
use Rattle.letters_count.specs.Numbers.{number_of}
use Rattle.letters_text.specs.declared.columns.Object.{Object}
use Rattle.letters_text.specs.Lines.{Columns, object_at, objects, line_head, parting, first_letter, next_letter, lines_after, lines_of, lines}
use Rattle.letters_text.specs.passes.Memory.{LinesFit}

-- ---- how long the lines are

head_length : (o : Object) → length (line_head o) ≡ length (decimal o.interval) + 1
unfolding line_head
head_length o = length-append (decimal o.interval) (32 ∷ [])

first_length : (o : Object) → length (first_letter o) ≡ length (line_head o) + 1
unfolding first_letter
first_length o = length-append (line_head o) (letter_of o.kind ∷ [])

next_length : (p o : Object) → length (next_letter p o) ≡ length (parting p o) + 1
unfolding next_letter
next_length p o = length-append (parting p o) (letter_of o.kind ∷ [])

head_short : (o : Object) → o.interval < 100 → length (line_head o) ≤ 3
head_short o h = omega (arith, head_length o, length-decimal-le 2 o.interval (omega arith) h (omega arith))

parting_short : (p o : Object) → o.interval < 100 → length (parting p o) ≤ 4
unfolding parting
parting_short p o h = go (eqb o.hit p.hit) (eqb o.pattern p.pattern) (eqb o.streak p.streak)
  where
    go : (a b c : Bool) → length (cond a (cond b (cond c [] (44 ∷ [])) (124 ∷ [])) (10 ∷ line_head o)) ≤ 4
    go true true true = omega arith
    go true true false = omega arith
    go true false c = omega arith
    go false b c = omega (arith, head_short o h)

pub decimal_four : (n : ℕ) → n < 10000 → length (decimal n) ≤ 4
decimal_four n h = length-decimal-le 4 n (omega arith) h (omega arith)

pub number_two : (f : Fault) → length (decimal (number_of f)) ≤ 2
number_two f = length-decimal-le 2 (number_of f) (omega arith) (small f) (omega (arith, small f))
  where
    small : (f : Fault) → number_of f < 100
    small Misplaced = omega arith
    small Crowded = omega arith
    small TooDeep = omega arith

-- each object's interval has at most two digits
abbrev Small : List Object → Type 0
Small os = (i : ℕ) (d : Object) → i < length os → (get_or os i d).interval < 100

after_short : (p : Object) (os : List Object) → Small os → length (lines_after p os) ≤ 5 * length os + 1
unfolding lines_after
after_short p [] h = omega arith
after_short p (o ∷ os) h =
    omega (
      arith,
      length-append (next_letter p o) (lines_after o os),
      next_length p o,
      parting_short p o (h 0 o (omega arith)),
      after_short o os (λ i d l. h (suc i) d (suc-le-suc l)),
    )

of_short : (os : List Object) → Small os → length (lines_of os) ≤ 5 * length os
unfolding lines_of
of_short [] h = omega arith
of_short (o ∷ os) h =
    omega (
      arith,
      length-append (first_letter o) (lines_after o os),
      first_length o,
      head_short o (h 0 o (omega arith)),
      after_short o os (λ i d l. h (suc i) d (suc-le-suc l)),
    )

module _ (c : Columns) where
  length-objects : length (objects c) ≡ length c.kinds
  unfolding objects
  length-objects = length-tabulate (object_at c) (length c.kinds)

  get_or-objects : (i : ℕ) (d : Object) → i < length c.kinds → get_or (objects c) i d ≡ object_at c i
  unfolding objects
  get_or-objects i d h = get_or-tabulate (object_at c) (length c.kinds) i d h

  objects_here : (i : ℕ) → i < length c.kinds → drop i (objects c) ≡ object_at c i ∷ drop (i + 1) (objects c)
  objects_here i h =
      let k : i < length (objects c) = omega (arith, length-objects) in
      drop-cons (objects c) i (object_at c i) k ∙ rw (get_or-objects i (object_at c i) h, add-one)

  objects-over : (i : ℕ) → length c.kinds ≤ i → drop i (objects c) ≡ []
  objects-over i h = let k : length (objects c) ≤ i = omega (arith, length-objects) in drop_of_length-le (objects c) k

  -- five bytes an object are enough
  pub lines_short : ((i : ℕ) → i < length c.kinds → get_or c.intervals i 0 < 100) → length (lines c) ≤ 5 * length c.kinds
  unfolding lines object_at
  lines_short h =
      omega (
        arith,
        length-objects,
        of_short (objects c) (λ i d l. let k : i < length c.kinds = omega (arith, length-objects) in rw (get_or-objects i d k) (h i k)),
      )

-- ---- the loop that writes the lines

-- behind what was printed before, the letters of the objects before object i stand, `last` the last of them; what is left makes up the whole
pub record LinesWalk (c : Columns) (before out : List ℕ) (last : Object) (i : ℕ) : Type 0 where
  pub upto : i ≤ length c.kinds
  pub whole : out ++ lines_after last (drop i (objects c)) ≡ before ++ lines c

pub lines_none : (c : Columns) → length c.kinds ≡ 0 → lines c ≡ []
unfolding lines lines_of
lines_none c h = rw (objects-over c 0 (omega arith)) refl

module _ (c : Columns) {o : Object} (some : 0 < length c.kinds) (first : o ≡ object_at c 0) where
  lines_split : lines c ≡ first_letter o ++ lines_after o (drop 1 (objects c))
  unfolding lines lines_of
  lines_split = rw first (ap lines_of (objects_here c 0 some))

  pub first_room : {used room : ℕ} → LinesFit c used room → used + length (first_letter o) ≤ room
  first_room fit =
      omega (arith, ap length lines_split, length-append (first_letter o) (lines_after o (drop 1 (objects c))), lines_short c fit.small, fit.enough)

  pub walk_start : {before out : List ℕ} → out ≡ before ++ first_letter o → LinesWalk c before out o 1
  walk_start {before} e = record { upto = some; whole = rw (e, append_assoc, lines_split) refl }

module _ {c : Columns} {before out : List ℕ} {last : Object} {i : ℕ} (x : LinesWalk c before out last i) where
  -- so all that is printed has room
  walk_room : {room : ℕ} → LinesFit c (length before) room → length out + length (lines_after last (drop i (objects c))) ≤ room
  walk_room fit =
      omega (
        arith,
        ap length x.whole,
        length-append out (lines_after last (drop i (objects c))),
        length-append before (lines c),
        lines_short c fit.small,
        fit.enough,
      )

  module _ {next : Object} (more : i < length c.kinds) (here : next ≡ object_at c i) where
    going : lines_after last (drop i (objects c)) ≡ next_letter last next ++ lines_after next (drop (i + 1) (objects c))
    unfolding lines_after
    going = rw here (ap (lines_after last) (objects_here c i more))

    pub next_room : {room : ℕ} → LinesFit c (length before) room → length out + length (next_letter last next) ≤ room
    next_room fit =
        omega (arith, walk_room fit, ap length going, length-append (next_letter last next) (lines_after next (drop (i + 1) (objects c))))

    pub walk_turn : {out' : List ℕ} → out' ≡ out ++ next_letter last next → LinesWalk c before out' next (i + 1)
    walk_turn e = record { upto = omega arith; whole = rw (e, append_assoc, ← going) x.whole }

  module _ (over : length c.kinds ≤ i) where
    ending : lines_after last (drop i (objects c)) ≡ 10 ∷ []
    unfolding lines_after
    ending = rw (objects-over c i over) refl

    pub last_room : {room : ℕ} → LinesFit c (length before) room → length out + length (encode 10) ≤ room
    unfolding encode
    last_room fit = omega (arith, walk_room fit, ap length ending)

    pub walk_end : {out' : List ℕ} → out' ≡ out ++ 10 ∷ [] → out' ≡ before ++ lines c
    walk_end e = e ∙ rw ending at x.whole

-- ---- what the functions that print need

pub ruleset steps = (letter_ascii, encode_ascii, decimal_four, number_two, length-append, append_assoc)
