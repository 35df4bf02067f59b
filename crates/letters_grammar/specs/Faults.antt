-- Where a text is at fault, in the words of request 5/12: by the grammar alone, not by how a text is read.
use Rattle.std.specs.Prelude.{ℕ, suc, ◌+◌, ◌-◌, ◌≤◌, ◌<◌, ◌≡◌, true, false, eqb, cond}
use Rattle.std.specs.Prelude.{List, [], ◌∷◌, ◌++◌, length, take, get_or, replicate}
use Rattle.letters_grammar.specs.Letters.{opening_byte, closing_byte, is_digit, is_letter}
use Rattle.letters_grammar.specs.Grammar.{Drill, Viable}

-- how often the byte stands in t
unfoldable pub occurrences : ℕ → List ℕ → ℕ
occurrences b [] = 0
occurrences b (x ∷ t) = cond (eqb x b) (suc (occurrences b t)) (occurrences b t)

-- how many brackets t leaves open
unfoldable pub open_brackets : List ℕ → ℕ
unfolding occurrences
open_brackets t = occurrences opening_byte t - occurrences closing_byte t

-- t with a closing bracket for each that it leaves open
unfoldable pub closed_text : List ℕ → List ℕ
unfolding open_brackets
closed_text t = t ++ replicate (open_brackets t) closing_byte

-- byte p of t is a letter, or the last digit of a count: one that no digit follows, or that follows a digit. (No count
-- can stand at place 0, so it is no matter that p - 1 is 0 there too.)
pub data AddsObjects (t : List ℕ) (p : ℕ) : Type 0 where
  letter : is_letter (get_or t p 0) ≡ true → AddsObjects t p
  last : is_digit (get_or t p 0) ≡ true → is_digit (get_or t (p + 1) 0) ≡ false → AddsObjects t p
  second : is_digit (get_or t p 0) ≡ true → is_digit (get_or t (p - 1) 0) ≡ true → AddsObjects t p

-- 12 inside t: the bytes before p begin a text of the grammar, those up to and with p begin none
pub record Misplaced (t : List ℕ) (p : ℕ) : Type 0 where
  pub within : p < length t
  pub before : Viable (take p t)
  pub upto : Viable (take (p + 1) t) → ⊥

-- 12 at the end of t: it begins a text of the grammar, and is none
pub record Unfinished (t : List ℕ) (p : ℕ) : Type 0 where
  pub end : p ≡ length t
  pub begins : Viable t
  pub none : (kinds : List ℕ) → Drill t kinds → ⊥

-- 13: with the objects that byte p adds there are too many, the open brackets taken as closed behind it
pub record Crowded (objects : ℕ) (t : List ℕ) (p : ℕ) : Type 0 where
  pub within : p < length t
  pub adds : AddsObjects t p
  pub kinds : List ℕ
  pub drill : Drill (closed_text (take (p + 1) t)) kinds
  pub many : objects < length kinds

-- 14: a bracket opens at p, where a text of the grammar can open one, and `depth` are open before it
pub record TooDeep (depth : ℕ) (t : List ℕ) (p : ℕ) : Type 0 where
  pub within : p < length t
  pub opens : get_or t p 0 ≡ opening_byte
  pub upto : Viable (take (p + 1) t)
  pub full : open_brackets (take p t) ≡ depth

-- t is at fault at p, by refusal n
pub data Fault (objects depth : ℕ) (t : List ℕ) (n p : ℕ) : Type 0 where
  misplaced : n ≡ 12 → Misplaced t p → Fault objects depth t n p
  unfinished : n ≡ 12 → Unfinished t p → Fault objects depth t n p
  crowded : n ≡ 13 → Crowded objects t p → Fault objects depth t n p
  deep : n ≡ 14 → TooDeep depth t p → Fault objects depth t n p

-- the earliest byte at fault, and at that byte the smallest number
pub record FirstFault (objects depth : ℕ) (t : List ℕ) (n p : ℕ) : Type 0 where
  pub fault : Fault objects depth t n p
  pub earliest : (m q : ℕ) → Fault objects depth t m q → p ≤ q
  pub smallest : (m : ℕ) → Fault objects depth t m p → n ≤ m
