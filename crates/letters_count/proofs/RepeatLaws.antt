-- A block of objects that stands k times: its last copy, written behind itself, makes one more.
use mathlib.Core.Path.{◌≡◌, refl, sym, ap, ◌∙◌}
use mathlib.Core.List.{List, ◌++◌}
use Prim.Native.Nat.{ℕ, zero, suc, ◌+◌, ◌-◌, ◌*◌, ◌≤◌, ◌<◌}
use native.Mathlib.Nat.{suc-mul}
use native.Mathlib.Numerals.{add-one}
use native.Mathlib.Omega.{arith}
use lib.ListN.{length, take, drop, length-drop}
use lib.Seq.{length-take-le, take-length, take-append-add, drop_at}
use Rattle.lent.specs.Over.{over}
use Rattle.lent.proofs.OverLaws.{front}
use Rattle.letters_grammar.specs.Reading.{repeated}
use Rattle.letters_grammar.proofs.KindLaws.{length-repeated, repeated_once, repeated-more}
use Rattle.letters_count.specs.passes.Counts.{Repeating}

-- what a slice has from a place on
rest_of : (n : ℕ) (xs : List ℕ) → take (length xs - n) (drop n xs) ≡ drop n xs
rest_of n xs = rw (← length-drop n xs) (take-length (drop n xs))

block_turn : (ks stored out free : List ℕ) (start size k to : ℕ) → length ks ≡ start + size → 1 ≤ k → to ≡ start + k * size → stored ≡ repeated k start ks
    → out ≡ over (take (length stored - (to - size)) (drop (to - size) stored)) free → take (to + size) (stored ++ out) ≡ repeated (k + 1) start ks
block_turn ks stored out free start size zero to l one t s o = absurd (omega arith)
block_turn ks stored out free start size (suc k) to l one t s o =
    let before : List ℕ = repeated k start ks in
    let block : List ℕ = drop start ks in
    let at : ℕ = to - size in
    let wide : length ks - start ≡ size = omega arith in
    let behind : length before ≡ at = length-repeated k start ks (omega arith) ∙ rw wide (omega (arith, suc-mul k size)) in
    let last : drop at stored ≡ block = ap (drop at) (s ∙ repeated-more k start ks) ∙ drop_at before block at behind in
    let written : out ≡ over block free = o ∙ ap (λ (b : List ℕ). over b free) (rest_of at stored ∙ last) in
    let copied : take size out ≡ block = ap (take size) written ∙ front block free size (length-drop start ks ∙ wide) in
    let all : length stored ≡ to = ap length s ∙ length-repeated (suc k) start ks (omega arith) ∙ rw wide (sym t) in
    ap (λ (m : ℕ). take (m + size) (stored ++ out)) (sym all)
    ∙ take-append-add stored out size
    ∙ ap (λ (b : List ℕ). stored ++ b) copied
    ∙ ap (λ (b : List ℕ). b ++ block) s
    ∙ sym (repeated-more (suc k) start ks)
    ∙ ap (λ (m : ℕ). repeated m start ks) (sym (add-one (suc k)))

-- ---- the loop

one_fits : (start end n room : ℕ) → Repeating start end n room → end ≤ room
one_fits start end zero room r = absurd (omega arith)
one_fits start end (suc n) room r = omega (arith, r.fits, suc-mul n (end - start))

module _ (d : List ℕ) {start end n : ℕ} (r : Repeating start end n (length d)) where
  pub blocks_start : take (start + 1 * (end - start)) d ≡ repeated 1 start (take end d)
  blocks_start = let whole : start + 1 * (end - start) ≡ end = omega arith in rw whole (sym (repeated_once start (take end d)))

  pub blocks_turn : (e stored free : List ℕ) {out : List ℕ} (k : ℕ) → 1 ≤ k → k < n → stored ≡ take (start + k * (end - start)) e
      → out ≡ over (take (length stored - (start + k * (end - start) - (end - start))) (drop (start + k * (end - start) - (end - start)) stored)) free
      → take (start + k * (end - start)) e ≡ repeated k start (take end d)
      → take (start + (k + 1) * (end - start)) (stored ++ out) ≡ repeated (k + 1) start (take end d)
  blocks_turn e stored free {out} k one more s o same =
      let size : ℕ = end - start in
      let whole : length (take end d) ≡ end = length-take-le end d (one_fits start end n (length d) r) in
      let next : start + (k + 1) * size ≡ (start + k * size) + size = omega (arith, suc-mul k size, ap (λ (z : ℕ). z * size) (add-one k)) in
      rw next (block_turn (take end d) stored out free start size k (start + k * size) (omega (arith, r.order)) one refl (s ∙ same) o)
