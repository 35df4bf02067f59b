-- How large what the reading finds can be: by the state in which it ends.
use mathlib.Core.Path.{◌≡◌}
use mathlib.Core.Bool.{Bool}
use mathlib.Core.List.{List}
use Prim.Native.Nat.{ℕ, ◌≤◌}
use native.Mathlib.Omega.{arith}
use lib.ListN.{length}
use Rattle.lent.proofs.NeverLaws.{never}
use Rattle.letters_grammar.specs.Reading.{Bracket, Mode, Finding, good, refused, shorthand}
use Rattle.letters_grammar.proofs.MoveLaws.{Refusing, by12, by13, by14}
use Rattle.letters_grammar.proofs.ReachedLaws.{Ending, whole, short, stops, ending, reached_few, refusing}

-- a good text has at most so many objects
pub good_few : (M D : ℕ) (t ks : List ℕ) → shorthand M D t ≡ good ks → length ks ≤ M
good_few M D t ks e = go (ending M D t) e
  where
    go : {o : Finding} → Ending M D t o → o ≡ good ks → length ks ≤ M
    go (whole fs m ls r) x = let y : ls ≡ ks = cc in rw y at (reached_few M D t r)
    go (short fs m ls r z) x = never (cc)
    go (stops n p fs m ls l r z) x = never (cc)

number_small : {M D : ℕ} {more : Bool} {b : ℕ} {fs : List Bracket} {m : Mode} {ks : List ℕ} {n : ℕ} → Refusing M D more b fs m ks n → n ≤ 14
number_small (by12 e f) = omega arith
number_small (by13 e k ls a h f g) = omega arith
number_small (by14 e a h g q f) = omega arith

-- a refusal is 12, 13 or 14, at a place of the text or at its end
pub refused_bounds : (M D : ℕ) (t : List ℕ) (n p : ℕ) → shorthand M D t ≡ refused n p → (n ≤ 14) × (p ≤ length t)
refused_bounds M D t n p e = go (ending M D t) e
  where
    small : {o b : ℕ} → o ≡ n → b ≡ p → o ≤ 14 → b ≤ length t → (n ≤ 14) × (p ≤ length t)
    small x y u v = (omega arith, omega arith)

    go : {o : Finding} → Ending M D t o → o ≡ refused n p → (n ≤ 14) × (p ≤ length t)
    go (whole fs m ls r) x = never (cc)
    go (short fs m ls r z) x = let u : 12 ≡ n = cc in let v : length t ≡ p = cc in small u v (omega arith) (omega arith)
    go (stops o b fs m ls l r z) x = let u : o ≡ n = cc in let v : b ≡ p = cc in small u v (number_small (refusing M D t b fs m ls z)) (omega arith)
