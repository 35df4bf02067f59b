-- The calls whose answers are stored, and their numbers.
use Rattle.std.specs.Prelude.{◌≡◌, ℕ, Bool, false, ◌==◌, if◌then◌else◌, Option, Some, None, Result, Ok, Err}
use Rattle.vectors.specs.declared.call.Call.{Call}
use Rattle.vectors.specs.declared.call.Call.TheVariants.{Encode, Colour, Stretch, Rhythm, Record, Build, Turns, Lesson}
use Rattle.vectors.specs.declared.call.UnknownCall.{UnknownCall}

-- the number that stands for a call in a stored case
abbrev pub call_number : Call → ℕ
call_number Encode = 1
call_number Colour = 2
call_number Stretch = 3
call_number Rhythm = 4
call_number Record = 5
call_number Build = 6
call_number Turns = 7
call_number Lesson = 8

-- the call that a number stands for, if there is one
abbrev pub call_of : ℕ → Option Call
call_of number =
    if number == 1 then Some Encode else
    (if number == 2 then Some Colour else
    (if number == 3 then Some Stretch else
    (if number == 4 then Some Rhythm else
    (if number == 5 then Some Record else
    (if number == 6 then Some Build else
    (if number == 7 then Some Turns else
    (if number == 8 then Some Lesson else None)))))))

-- a number gives the call that it stands for, or itself where it stands for none
abbrev pub Named : ℕ → Result Call UnknownCall → Type 0
Named number (Ok call) = call_of number ≡ Some call
Named number (Err e) = (call_of number ≡ None) × (e.0 ≡ number)

-- whether a call, if there is one, is this one
unfoldable pub is_call : Option Call → Call → Bool
is_call (Some own) call = call_number own == call_number call
is_call None call = false
