-- `previous_kind` by a walk with two numbers, how many notes were passed and the kind of the last: the form in which later crates compute it.
use mathlib.Core.Path.{◌≡◌, refl, sym, ap, ◌∙◌}
use mathlib.Core.List.{List, [], ◌∷◌, ◌++◌}
use mathlib.Core.Bool.{Bool, true, false, cond}
use Prim.Native.Nat.{ℕ, zero, suc, ◌+◌, ◌≤◌, ◌<◌}
use native.Mathlib.Numerals.{add-one}
use native.Mathlib.Omega.{arith}
use lib.Dec.{eqb, eqb-suc-zero}
use lib.ListN.{length, take, drop, get_or, take-append-drop, get_or-append}
use lib.Seq.{take-suc}
use Rattle.std.specs.Prelude.{Option, Some, None, option_map}
use Rattle.grouping_chart.specs.Object.{is_note, notes, note_idx, note_before, previous_note, previous_kind}

-- how many notes so far, and the kind of the last (any value if there is none)
pub record Seen : Type 0 where
  pub notes : ℕ
  pub last : ℕ

abbrev pub seen₀ : Seen
seen₀ = record { notes = 0; last = 0 }

unfoldable pub seen_next : Seen → ℕ → Seen
seen_next s k = cond (is_note k) (record { notes = s.notes + 1; last = k }) s

unfoldable pub seen_after : Seen → List ℕ → Seen
seen_after s [] = s
seen_after s (k ∷ ks) = seen_after (seen_next s k) ks

unfoldable pub previous_seen : Seen → ℕ → Option ℕ
previous_seen s k = cond (is_note k) (cond (eqb s.notes 0) None (Some s.last)) None

-- ---- one step of the walk, in the words of the contracts of `note_after` and `note_index`

pub seen_next_notes : (s : Seen) (k : ℕ) → (seen_next s k).notes ≡ cond (is_note k) (s.notes + 1) s.notes
unfolding seen_next
seen_next_notes s k = by (is_note k)
  where
    by : (b : Bool) → (cond b (record { notes = s.notes + 1; last = k }) s).notes ≡ cond b (s.notes + 1) s.notes
    by true = refl
    by false = refl

-- ---- the walk over two lists, and over one object more

pub seen_after_append : (s : Seen) (xs ys : List ℕ) → seen_after s (xs ++ ys) ≡ seen_after (seen_after s xs) ys
unfolding seen_after
seen_after_append s [] ys = refl
seen_after_append s (x ∷ xs) ys = seen_after_append (seen_next s x) xs ys

pub seen_after_take : (s : Seen) (ks : List ℕ) (i : ℕ) → i < length ks → seen_after s (take (i + 1) ks) ≡ seen_next (seen_after s (take i ks)) (get_or ks i 0)
unfolding seen_after
seen_after_take s ks i h = rw (add-one i, take-suc ks i 0 h, seen_after_append s (take i ks) (get_or ks i 0 ∷ []))

-- a turn of a loop that keeps the two numbers, n of the notes and l of the last kind: r is what comes after object i
module _ (ks : List ℕ) (i : ℕ) (h : i < length ks) where
  pub notes_turn : (n r : ℕ) → n ≡ (seen_after seen₀ (take i ks)).notes → r ≡ cond (is_note (get_or ks i 0)) (n + 1) n
      → r ≡ (seen_after seen₀ (take (i + 1) ks)).notes
  notes_turn n r e f = rw (seen_after_take seen₀ ks i h, seen_next_notes (seen_after seen₀ (take i ks)) (get_or ks i 0), ← e) f

-- ---- the notes of a list

pub notes-append : (xs ys : List ℕ) → notes (xs ++ ys) ≡ notes xs ++ notes ys
unfolding notes
notes-append [] ys = refl
notes-append (x ∷ xs) ys = by (is_note x) (notes-append xs ys)
  where
    by : (b : Bool) → notes (xs ++ ys) ≡ notes xs ++ notes ys
        → cond b (x ∷ notes (xs ++ ys)) (notes (xs ++ ys)) ≡ cond b (x ∷ notes xs) (notes xs) ++ notes ys
    by true e = rw e
    by false e = e

pub notes-few : (ks : List ℕ) → length (notes ks) ≤ length ks
unfolding notes
notes-few [] = omega arith
notes-few (k ∷ ks) = by (is_note k) (notes-few ks)
  where
    by : (b : Bool) → length (notes ks) ≤ length ks → length (cond b (k ∷ notes ks) (notes ks)) ≤ suc (length ks)
    by true h = omega arith
    by false h = omega arith

-- ---- the walk counts the notes and keeps the last

seen_notes : (s : Seen) (ks : List ℕ) → (seen_after s ks).notes ≡ s.notes + length (notes ks)
unfolding seen_after seen_next notes
seen_notes s [] = omega arith
seen_notes s (k ∷ ks) = seen_notes (seen_next s k) ks ∙ by (is_note k)
  where
    by : (b : Bool) → (cond b (record { notes = s.notes + 1; last = k }) s).notes + length (notes ks) ≡ s.notes + length (cond b (k ∷ notes ks) (notes ks))
    by true = omega arith
    by false = refl

pub seen_count : (ks : List ℕ) → (seen_after seen₀ ks).notes ≡ length (notes ks)
seen_count ks = omega (arith, seen_notes seen₀ ks)

pub seen_few : (ks : List ℕ) → (seen_after seen₀ ks).notes ≤ length ks
seen_few ks = omega (arith, seen_count ks, notes-few ks)

-- the last of a list, d if there is none
unfoldable last_or : ℕ → List ℕ → ℕ
last_or d [] = d
last_or d (x ∷ xs) = last_or x xs

last_or_at : (d : ℕ) (xs : List ℕ) (j : ℕ) → length xs ≡ suc j → get_or xs j 0 ≡ last_or d xs
unfolding last_or
last_or_at d [] j e = absurd (omega arith)
last_or_at d (x ∷ []) zero e = refl
last_or_at d (x ∷ y ∷ xs) zero e = absurd (omega arith)
last_or_at d (x ∷ xs) (suc j) e = last_or_at x xs j (omega arith)

seen_last : (s : Seen) (ks : List ℕ) → (seen_after s ks).last ≡ last_or s.last (notes ks)
unfolding seen_after seen_next notes last_or
seen_last s [] = refl
seen_last s (k ∷ ks) = seen_last (seen_next s k) ks ∙ by (is_note k)
  where
    by : (b : Bool) → last_or (cond b (record { notes = s.notes + 1; last = k }) s).last (notes ks) ≡ last_or s.last (cond b (k ∷ notes ks) (notes ks))
    by true = refl
    by false = refl

-- ---- the laws for later crates

-- note_idx is the walk's count
pub note_idx_seen : (ks : List ℕ) (i : ℕ) → note_idx ks i ≡ cond (is_note (get_or ks i 0)) (seen_after seen₀ (take i ks)).notes 0
unfolding note_idx
note_idx_seen ks i = rw (seen_count (take i ks))

-- the kind of the note before the one that follows the notes of xs
before_next : (xs ys : List ℕ) (s : Seen) (j : ℕ) → length xs ≡ j → s.notes ≡ j → s.last ≡ last_or 0 xs
    → option_map (λ j. get_or (xs ++ ys) j 0) (note_before j) ≡ cond (eqb s.notes 0) None (Some s.last)
unfolding note_before
before_next xs ys s zero e n l = rw n
before_next xs ys s (suc j) e n l =
    rw (n, l, eqb-suc-zero j) (ap (λ k. Some k) (get_or-append xs ys 0 j (omega arith) ∙ last_or_at 0 xs j e))

-- previous_kind of object i is what the walk over the objects before it gives
pub previous_kind_seen : (ks : List ℕ) (i : ℕ) → previous_kind ks i ≡ previous_seen (seen_after seen₀ (take i ks)) (get_or ks i 0)
unfolding previous_note note_idx previous_seen note_before
previous_kind_seen ks i = by (is_note (get_or ks i 0))
  where
    whole : notes ks ≡ notes (take i ks) ++ notes (drop i ks)
    whole = ap notes (sym (take-append-drop i ks)) ∙ notes-append (take i ks) (drop i ks)

    by : (b : Bool) → option_map (λ j. get_or (notes ks) j 0) (note_before (cond b (length (notes (take i ks))) 0))
        ≡ cond b (cond (eqb (seen_after seen₀ (take i ks)).notes 0) None (Some (seen_after seen₀ (take i ks)).last)) None
    by true =
        rw whole
        (before_next (notes (take i ks)) (notes (drop i ks)) (seen_after seen₀ (take i ks)) _ refl (seen_count (take i ks)) (seen_last seen₀ (take i ks)))
    by false = refl
