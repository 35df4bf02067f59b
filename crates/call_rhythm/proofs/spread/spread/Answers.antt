-- A turn gives one object what is said of its note.
use Rattle.std.proofs.Common.{arith, sym, ◌∙◌}
use Rattle.lent.proofs.FillLaws.{fill_start_front, fill_end_front}
use Rattle.call_rhythm.proofs.PerNoteLaws.{length_per_note}
use Rattle.call_rhythm.proofs.SpreadLaws.{passed_start, next_below, next_few, passed_turn, spread_turn}
use Rattle.call_rhythm.proofs.spread.spread.Goals.{then-is_note, else-is_note}
use Rattle.call_rhythm.proofs.spread.spread.Goals as goal

pub loop-i-init : goal.loop-i-init
loop-i-init g c = (passed_start _, λ value gives. fill_start_front _ _ _ (length_per_note _ value _) c.requires.room)

pub of_note-requires : goal.of_note-requires
of_note-requires g c = c.requires.callable _ (next_below c.loop-i.invariant.0 c.loop-i-test.true (sym c.is_note.ensures ∙ c.if-is_note.true))

pub note_after-next-requires : goal.note_after-next-requires
note_after-next-requires g c = omega (arith, next_few c.loop-i.invariant.0 c.loop-i-test.true, c.loop-i-test.true, c.requires)

pub loop-i-preserved : goal.loop-i-preserved
loop-i-preserved g c =
    let passed = c.loop-i.invariant.0 in
    let inside = c.loop-i-test.true in (
      passed_turn passed _ inside c.note_after-next.ensures,
      λ value gives. elim c.if-is_note.branch [
        | then-is_note w ↦
            let note = sym c.is_note.ensures ∙ w.if-is_note.true in
            let said = gives _ _ (next_below passed inside note) w.of_note.ensures in
            spread_turn passed c.args.none value _ (c.loop-i.invariant.1 value gives) inside note (w.out-is ∙ said)
        | else-is_note w ↦
            spread_turn passed c.args.none value _ (c.loop-i.invariant.1 value gives) inside (sym c.is_note.ensures ∙ w.if-is_note.false) w.out-is
      ],
    )

pub returns : goal.returns
returns g c value gives = fill_end_front (c.loop-i.invariant.1 value gives) c.loop-i-test.false
