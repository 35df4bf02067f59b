-- What became of a case, and what is counted over a file, by the bytes that were read.
-- Whether a file has a byte more is no promise's to say, so a case may be broken and a file may end at any time.
use Rattle.std.specs.Prelude.{◌≡◌, Bool, List, ℕ, ◌≤◌, length, take}
use Rattle.vectors.specs.Case.{head_of}
use Rattle.vectors.specs.Held.{Tells}
use Rattle.vectors.specs.declared.call.Call.{Call}
use Rattle.vectors.specs.declared.case.Head.{Head}
use Rattle.replay_cases.specs.Cases.{follows_in, ChartHolds, PartHolds}
use Rattle.replay_cases.specs.Count.{at_start, after_case, spare_of}
use Rattle.replay_cases.specs.declared.Next.TheVariants.{Body, Part as PartNext}
use Rattle.replay_cases.specs.declared.count.Replay.{Replay}
use Rattle.replay_cases.specs.declared.count.Replayed.{Replayed}
use Rattle.replay_cases.specs.declared.count.Replayed.TheVariants.{Chart, Part, Broken, End}

-- a case with a chart, whose body was read to the front of `body`
pub data ChartRead (h : Head) (spare : ℕ) (body : List ℕ) : Replayed → Type 0 where
  told : {held : Bool} → h.size ≤ length body → Tells held (ChartHolds h (take h.size body) spare)
      → ChartRead h spare body (Chart h held)
  broken : ChartRead h spare body Broken

-- a case on the chart whose body stands at the front of `body`; its own bytes were read to the front of `part`
pub data PartRead (chart : Head) (body : List ℕ) (h : Head) (spare : ℕ) (part : List ℕ) : Replayed → Type 0 where
  told : {held : Bool} → chart.size ≤ length body → h.size ≤ length part
      → Tells held (PartHolds chart (take chart.size body) h (take h.size part) spare)
      → PartRead chart body h spare part (Part h held)
  broken : PartRead chart body h spare part Broken

-- the next case of the file of this call's charts: `head` was read, then `body`, or `part` while `body` stayed
pub data CaseRead (call : Call) (r : Replay) (head old body part : List ℕ) : Replayed → Type 0 where
  of_chart : {c : Replayed} → follows_in call (head_of head) ≡ Body → ChartRead (head_of head) (spare_of r) body c
      → CaseRead call r head old body part c
  of_part : {c : Replayed} → follows_in call (head_of head) ≡ PartNext → body ≡ old
      → PartRead r.chart body (head_of head) (spare_of r) part c → CaseRead call r head old body part c
  broken : CaseRead call r head old body part Broken
  ended : CaseRead call r head old body part End

-- the replay stands at r after cases that were read one after another; `body` has the last chart's
pub data Counted (call : Call) : Replay → List ℕ → Type 0 where
  none : {body : List ℕ} → Counted call at_start body
  more : {r : Replay} {c : Replayed} {head old body part : List ℕ} → Counted call r old
      → CaseRead call r head old body part c → Counted call (after_case r c) body

-- the replay of a file, up to where no case may follow
pub record FileRead (call : Call) (r : Replay) : Type 0 where
  pub body : List ℕ
  pub counted : Counted call r body
  pub done : r.left ≡ 0
