-- Items stored at their groups' places, one after the other: where the items before are stored, the last of each closed group stands at its place, and that of
-- the open group is stored over.
use mathlib.Core.Path.{◌≡◌, refl, sym, ap, ◌∙◌}
use mathlib.Core.List.{List, [], ◌∷◌, ◌++◌, append_assoc}
use Prim.Native.Nat.{ℕ, zero, suc, ◌+◌, ◌≤◌, ◌<◌}
use native.Mathlib.Numerals.{add-one}
use native.Mathlib.Omega.{arith}
use lib.ListN.{length, drop, get_or, set, length-append, length-set, drop_of_length-le}
use lib.Seq.{drop-cons}
use Rattle.lent.specs.Over.{over}
use Rattle.lent.proofs.OverLaws.{put_nothing, put_front}
use Rattle.lent.proofs.PieceLaws.{over_whole, set_last, set_next}
use Rattle.lent.proofs.WalkLaws.{scan_none}
use Rattle.lent.specs.passes.Bounds.{AllBelow}
use Rattle.grouping_marks.specs.Marks.{opened, number_by_mark, group_count, group_numbers, last_items}
use Rattle.grouping_marks.specs.passes.Numbered.{NumberedBy}
use Rattle.grouping_marks.proofs.MarksLaws.{length-numbers, numbers-below}
use Rattle.grouping_marks.proofs.NumberLaws.{number_last}
use Rattle.grouping_marks.proofs.ItemLaws.{numbers_left, numbers_same, numbers_new, numbers_start, lasts_left, lasts_none, lasts_same, lasts_new}
use Rattle.grouping_marks.proofs.ItemLaws.{last_items_none, last_items_start, length-last_items, last-below}

-- the open group has a last item
lasts_some : (x : ℕ) (ms : List ℕ) → 1 ≤ length (lasts_left x ms)
lasts_some x [] = rw (lasts_none x) (omega arith)
lasts_some x (zero ∷ ms) = rw (lasts_same x ms) (lasts_some (suc x) ms)
lasts_some x (suc m ∷ ms) = rw (lasts_new x m ms) (omega arith)

-- ---- the items from i on are stored

unfoldable pub stored : ℕ → List ℕ → List ℕ → List ℕ
stored i [] w = w
stored i (g ∷ gs) w = stored (suc i) gs (set w g i)

stored_none : (i : ℕ) (w : List ℕ) → stored i [] w ≡ w
unfolding stored
stored_none i w = refl

stored_first : (i g : ℕ) (gs w : List ℕ) → stored i (g ∷ gs) w ≡ stored (suc i) gs (set w g i)
unfolding stored
stored_first i g gs w = refl

-- where the groups `done` are closed and item x is the last so far
stored_left : (done : List ℕ) (c x : ℕ) (ms w : List ℕ) → length done ≡ c → length done + length (lasts_left x ms) ≤ length w
    → stored (suc x) (numbers_left c ms) (over (done ++ x ∷ []) w) ≡ over (done ++ lasts_left x ms) w
stored_left done c x [] w l h =
    rw (lasts_none x, scan_none opened number_by_mark (suc c)) (stored_none (suc x) (over (done ++ x ∷ []) w))
stored_left done c x (zero ∷ ms) w l h =
    rw (numbers_same c ms, lasts_same x ms, stored_first (suc x) c (numbers_left c ms) (over (done ++ x ∷ []) w), ← l, set_last done w x (suc x))
    (stored_left done (length done) (suc x) ms w refl (rw (lasts_same x ms) at h))
stored_left done c x (suc m ∷ ms) w l h =
    let most : length done + suc (length (lasts_left (suc x) ms)) ≤ length w = rw (lasts_new x m ms) at h in
    let more : length (done ++ x ∷ []) ≡ suc c = omega (arith, length-append done (x ∷ []), l) in
    let room : length (done ++ x ∷ []) + length (lasts_left (suc x) ms) ≤ length w = omega (arith, more, l, most) in
    let some : length (done ++ x ∷ []) < length w = omega (arith, room, lasts_some (suc x) ms) in
    rw (numbers_new c m ms, lasts_new x m ms, stored_first (suc x) (suc c) (numbers_left (suc c) ms) (over (done ++ x ∷ []) w), ← more)
    (ap (stored (suc (suc x)) (numbers_left (length (done ++ x ∷ [])) ms)) (set_next (done ++ x ∷ []) w (suc x) some)
    ∙ stored_left (done ++ x ∷ []) (length (done ++ x ∷ [])) (suc x) ms w refl room
    ∙ ap (λ (l : List ℕ). over l w) (append_assoc done (x ∷ []) (lasts_left (suc x) ms)))

over_nothing : (w : List ℕ) → w ≡ over [] w
over_nothing w = sym (put_nothing 0 w) ∙ put_front [] w

-- every item is stored at its group's place
pub stored_lasts : (marks w : List ℕ) → length (last_items marks) ≤ length w → stored 0 (group_numbers marks) w ≡ over (last_items marks) w
unfolding group_numbers
stored_lasts [] w h =
    let none_left : group_numbers [] ≡ [] = scan_none opened number_by_mark 0 in
    rw (none_left, last_items_none) (stored_none 0 w ∙ over_nothing w)
stored_lasts (m ∷ ms) w h =
    let room : length (lasts_left 0 ms) ≤ length w = rw (last_items_start m ms) at h in
    let first : set w 0 0 ≡ over (0 ∷ []) w = ap (λ (l : List ℕ). set l 0 0) (over_nothing w) ∙ set_next [] w 0 (omega (arith, lasts_some 0 ms)) in
    rw (numbers_start m ms, last_items_start m ms, stored_first 0 0 (numbers_left 0 ms) w)
    (ap (stored 1 (numbers_left 0 ms)) first ∙ stored_left [] 0 0 ms w refl (omega arith))

-- ---- the loop: what remains, stored from here, gives what all of it gives

pub record Storing (numbers w₀ w : List ℕ) (i : ℕ) : Type 0 where
  pub gives : stored i (drop i numbers) w ≡ stored 0 numbers w₀
  pub long : length w ≡ length w₀

pub storing_start : (numbers w : List ℕ) → Storing numbers w w 0
storing_start numbers w = record { gives = refl; long = refl }

pub storing_turn : {numbers w₀ w : List ℕ} {i : ℕ} → Storing numbers w₀ w i → i < length numbers → Storing numbers w₀ (set w (get_or numbers i 0) i) (i + 1)
storing_turn {numbers} {w = w} {i = i} x h = record {
  gives =
      rw (add-one i, ← stored_first i (get_or numbers i 0) (drop (suc i) numbers) w, ← drop-cons numbers i 0 h) x.gives;
  long = length-set w (get_or numbers i 0) i ∙ x.long;
}

-- with each item's group for the numbers, the last items stand in front
pub storing_end : {numbers w₀ w : List ℕ} {i : ℕ} → Storing numbers w₀ w i → length numbers ≤ i → AllBelow numbers (length w₀) → (marks : List ℕ)
    → numbers ≡ group_numbers marks → w ≡ over (last_items marks) w₀
storing_end {numbers} {w₀} {w} {i} x h b marks e =
    let none : drop i numbers ≡ [] = drop_of_length-le numbers h in
    let all : w ≡ stored 0 numbers w₀ = sym (stored_none i w) ∙ (rw none at x.gives) in
    all ∙ ap (λ (l : List ℕ). stored 0 l w₀) e ∙ stored_lasts marks w₀ (fits marks (rw e at b))
  where
    fits : (marks : List ℕ) → AllBelow (group_numbers marks) (length w₀) → length (last_items marks) ≤ length w₀
    fits [] b = omega (arith, ap length last_items_none)
    fits (m ∷ ms) b =
        let last : get_or (group_numbers (m ∷ ms)) (length ms) 0 + 1 ≡ group_count (m ∷ ms) = number_last (m ∷ ms) (length ms) refl in
        omega (arith, last, length-last_items (m ∷ ms), b (length ms) (omega (arith, length-numbers (m ∷ ms))))

-- ---- where there is a place for each group, and no more

module _ {marks numbers : List ℕ} {k : ℕ} (b : NumberedBy marks numbers k) where
  pub numbers_inside : AllBelow numbers k
  numbers_inside i h = rw (b.are, ← b.many) (numbers-below marks i (omega (arith, ap length b.are, length-numbers marks)))

  pub lasts_whole : (lasts₀ : List ℕ) {lasts : List ℕ} → length lasts₀ ≡ k → lasts ≡ over (last_items marks) lasts₀ → lasts ≡ last_items marks
  lasts_whole lasts₀ l e = e ∙ over_whole (last_items marks) lasts₀ (length-last_items marks ∙ b.many ∙ sym l)

  pub lasts_small : {lasts : List ℕ} → length numbers ≤ 65535 → lasts ≡ last_items marks → AllBelow lasts 65535
  lasts_small f e j h =
      let inside : j < group_count marks = omega (arith, ap length e, length-last_items marks) in
      rw e (omega (arith, last-below marks j inside, ap length b.are, length-numbers marks))
