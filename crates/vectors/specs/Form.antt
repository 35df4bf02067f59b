-- What the head of a stored case must say, and what a case is to hold.
use Rattle.std.specs.Prelude.{◌≡◌, ℕ, ◌≤◌, Some}
use Rattle.grouping_chart.specs.Chart.{largest}
use Rattle.vectors.specs.declared.call.Call.{Call}
use Rattle.vectors.specs.declared.case.Head.{Head}

-- the case is of this call, its numbers have so many bytes, and the `room` bytes that follow the head are `size`
pub record Formed (call : Call) (low high size : ℕ) (h : Head) (room : ℕ) : Type 0 where
  pub asked : h.call ≡ Some call
  pub least : low ≤ h.width
  pub most : h.width ≤ high
  pub whole : room ≡ size

-- a case that is a part of another one, of n objects: its numbers have so many bytes
pub record PartFormed (call : Call) (width size n : ℕ) (h : Head) (room : ℕ) : Type 0 where
  pub form : Formed call width width size h room
  pub same : h.objects ≡ n

-- a case of n objects: they are not too many, its bytes have their form, and the call answers as they say
pub record Holds (n : ℕ) (Form Answers : Type 0) : Type 0 where
  pub few : n ≤ largest
  pub form : Form
  pub answers : Answers
