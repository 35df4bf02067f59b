-- The loop's invariant: the notes before `note` are listed, and what is left of both lists is what the objects from i on give.
use Rattle.grouping_interval.proofs.ListLaws.{Listing}
use Rattle.grouping_interval.proofs.notes.list_notes.Given as goal

abbrev pub invariant-loop-i : goal.invariant-loop-i
invariant-loop-i l = Listing l.kind l.delta l.initial.objects l.objects l.initial.values l.values l.note.0 l.i
