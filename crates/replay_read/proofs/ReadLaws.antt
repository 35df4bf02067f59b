-- A case that was read is what its head says, and each case that was read is counted.
use mathlib.Core.Path.{◌≡◌, refl, sym, ◌∙◌}
use mathlib.Core.List.{List, []}
use Prim.Native.Nat.{ℕ, ◌≤◌}
use native.Mathlib.Omega.{arith}
use Rattle.vectors.specs.Case.{head_of}
use Rattle.vectors.specs.declared.call.Call.{Call}
use Rattle.vectors.specs.declared.case.Head.{Head}
use Rattle.replay_cases.specs.Cases.{follows_in}
use Rattle.replay_cases.specs.Count.{at_start, After, spare_of}
use Rattle.replay_cases.specs.declared.Next.{Next}
use Rattle.replay_cases.specs.declared.Next.TheVariants.{Body, Part}
use Rattle.replay_cases.specs.declared.count.Replay.{Replay}
use Rattle.replay_cases.specs.declared.count.Replayed.{Replayed}
use Rattle.replay_cases.specs.declared.count.Replayed.TheVariants.{End}
use Rattle.replay_cases.proofs.CountLaws.{end_none}
use Rattle.replay_read.specs.Read.{ChartRead, PartRead, CaseRead, Counted, FileRead}
use Rattle.replay_read.specs.Read.CaseRead.{of_chart, of_part, ended}
use Rattle.replay_read.specs.Read.Counted.{none, more}

-- the head was read, and by it what follows and how many places to spare
module _ {call : Call} {r : Replay} {head : List ℕ} {h : Head} {spare : ℕ} {next : Next} {c : Replayed}
    (e : h ≡ head_of head) (s : spare ≡ spare_of r) (f : next ≡ follows_in call h) {old : List ℕ} where
  pub chart_is_read : {body lent : List ℕ} → next ≡ Body → ChartRead h spare body c → CaseRead call r head old body lent c
  chart_is_read n x = of_chart (rw (← e) (sym f ∙ n)) (rw (e, s) at x)

  pub part_is_read : {lent : List ℕ} → next ≡ Part → PartRead r.chart old h spare lent c → CaseRead call r head old old lent c
  part_is_read n x = of_part (rw (← e) (sym f ∙ n)) refl (rw (e, s) at x)

module _ {call : Call} {r : Replay} {body : List ℕ} where
  pub counted_none : r ≡ at_start → Counted call r body
  counted_none e = rw e none

  pub counted-more : {head old lent : List ℕ} {s : Replay} {c : Replayed} → Counted call r old → CaseRead call r head old body lent c → After r c s
      → Counted call s body
  counted-more x y z = rw z.counted (more x y)

  pub counted_all : Counted call r body → r.left ≤ 0 → FileRead call r
  counted_all x l = record { body = body; counted = x; done = omega arith }

-- a file of which nothing was read: it ended where it began
pub nothing_read : {r s : Replay} (call : Call) → r ≡ at_start → After r End s → FileRead call s
nothing_read call e z =
    let first : CaseRead call _ [] [] [] [] End = ended in
    counted_all (counted-more (counted_none e) first z) (end_none _ z.counted)
