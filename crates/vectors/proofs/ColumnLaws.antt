-- The values of a column, by how many bytes each has: they are the numbers, the bytes, the words or the zeros that stand there.
use Rattle.std.proofs.Common.{◌≡◌, ℕ, ◌+◌, ◌<◌, ◌≤◌, ◌*◌, ◌^◌, List, [], length, get_or, replicate, sym, ap, refl, ◌∙◌, arith}
use Rattle.std.proofs.Common.{eqb, cond, Bool, true, false, Some, None, slice_get}
use lib.ListN.{length-replicate, get_or-replicate}
use Rattle.std.proofs.lemmas.Option.{slice_get-get_or, slice_get_past}
use lib.Seq.{ext_get_or}
use Rattle.lent.specs.Over.{part}
use Rattle.lent.specs.Scan.{tabulate}
use Rattle.lent.proofs.OverLaws.{length-part, get_or-part}
use Rattle.lent.proofs.FillLaws.{length-tabulate, get_or-tabulate}
use Rattle.vectors.specs.Case.{pair_at, number_at, column, column_word, words}
use Rattle.vectors.specs.passes.Values.{bytes_of, width_of, value_at, values}
use Rattle.vectors.specs.declared.column.Width.{Width}
use Rattle.vectors.specs.declared.column.Width.TheVariants.{One, Two, Eight}

module _ (s : List ℕ) (at : ℕ) (width : Width) (n : ℕ) where
  pub long : length (values s at width n) ≡ n
  unfolding values
  long = length-tabulate (value_at s at width) n

  pub get_or-values : (i d : ℕ) → i < n → get_or (values s at width n) i d ≡ value_at s at width i
  unfolding values
  get_or-values i d h = get_or-tabulate (value_at s at width) n i d h

  -- any list of so many values
  same_values : (xs : List ℕ) → length xs ≡ n → ((i : ℕ) → i < n → value_at s at width i ≡ get_or xs i 0) → values s at width n ≡ xs
  same_values xs e f =
      ext_get_or 0 (values s at width n) xs (long ∙ sym e)
      (λ i h. let l : i < n = omega (arith, long) in get_or-values i 0 l ∙ f i l)

pub values_bytes : (s : List ℕ) (at n : ℕ) → at + n ≤ length s → values s at One n ≡ part at n s
unfolding value_at
values_bytes s at n h = same_values s at One n (part at n s) (length-part at n s h) (λ i l. sym (get_or-part at n s i 0 l))

pub values_numbers : (s : List ℕ) (at width n : ℕ) → values s at (width_of width) n ≡ column s at width n
unfolding column value_at number_at width_of
values_numbers s at width n =
    same_values s at (width_of width) n (tabulate (number_at s at width) n) (length-tabulate (number_at s at width) n)
    (λ i l. sym (get_or-tabulate (number_at s at width) n i 0 l ∙ by (eqb width 1) i))
  where
    by : (b : Bool) (i : ℕ) → cond b (get_or s (at + i) 0) (pair_at s (at + 2 * i)) ≡ value_at s at (cond b One Two) i
    by true i = refl
    by false i = refl

pub numbers_room : {width : Width} (at said n : ℕ) → width ≡ width_of said → at + 2 * n < 2 ^ 64 → at + bytes_of width * n < 2 ^ 64
unfolding width_of
numbers_room {width} at said n e h = rw e (by (eqb said 1))
  where
    by : (b : Bool) → at + bytes_of (cond b One Two) * n < 2 ^ 64
    by true = omega arith
    by false = h

pub values_words : (s : List ℕ) (at n : ℕ) → values s at Eight n ≡ words s at n
unfolding words value_at column_word
values_words s at n =
    same_values s at Eight n (tabulate (column_word s at) n) (length-tabulate (column_word s at) n) (λ i l. sym (get_or-tabulate (column_word s at) n i 0 l))

pub values_zeros : (n : ℕ) → values [] 0 One n ≡ replicate n 0
unfolding value_at
values_zeros n = same_values [] 0 One n (replicate n 0) (length-replicate n 0) (λ i l. sym (get_or-replicate n i 0 0 l))

-- what a caller sees of a column, as the list of its values
module _ (s : List ℕ) (at : ℕ) (width : Width) (n : ℕ) (xs : List ℕ) (e : values s at width n ≡ xs) where
  pub counted : n ≡ length xs
  counted = sym (long s at width n) ∙ ap length e

  pub read : {v : ℕ} (i : ℕ) → i < n → v ≡ value_at s at width i → Some v ≡ slice_get xs i
  read {v} i h q =
      let here : v ≡ get_or xs i 0 = q ∙ sym (get_or-values s at width n i 0 h) ∙ ap (λ (l : List ℕ). get_or l i 0) e in
      ap Some here ∙ sym (slice_get-get_or xs i 0 (omega (arith, counted)))

  pub past : (i : ℕ) → n ≤ i → None ≡ slice_get xs i
  past i h = sym (slice_get_past xs i (omega (arith, counted)))
