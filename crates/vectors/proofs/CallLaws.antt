-- Calls and their numbers: a number stands for one call only, so that numbers tell calls apart.
use Rattle.std.proofs.Common.{◌≡◌, ◌∙◌, sym, ap, refl, true, false, Option, Some, None, eq-eqb, ne_eqb}
use Rattle.vectors.specs.Call.{call_number, call_of, is_call}
use Rattle.vectors.specs.declared.call.Call.{Call}
use Rattle.vectors.specs.declared.call.Call.TheVariants.{Encode, Colour, Stretch, Rhythm, Record, Build, Turns, Lesson}

-- the number of a call gives the call back
pub call_of-call_number : (call : Call) → call_of (call_number call) ≡ Some call
call_of-call_number Encode = refl
call_of-call_number Colour = refl
call_of-call_number Stretch = refl
call_of-call_number Rhythm = refl
call_of-call_number Record = refl
call_of-call_number Build = refl
call_of-call_number Turns = refl
call_of-call_number Lesson = refl

pub asked : (own : Option Call) (call : Call) → own ≡ Some call → is_call own call ≡ true
unfolding is_call
asked own call e = rw e (eq-eqb _ _ refl)

pub not_asked : (own : Option Call) (call : Call) → (own ≡ Some call → ⊥) → is_call own call ≡ false
unfolding is_call
not_asked None call f = refl
not_asked (Some own) call f =
    ne_eqb _ _ (λ e. f (sym (call_of-call_number own) ∙ ap call_of e ∙ call_of-call_number call))
