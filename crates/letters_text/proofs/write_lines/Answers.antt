-- `write_lines` meets its contract: by the laws of a walk over the objects.
use Rattle.std.proofs.Common.{sym, append-nil, rules, arith}
use Rattle.letters_text.specs.Lines.{columns_of}
use Rattle.letters_text.proofs.LinesLaws.{lines_none, first_room, walk_start, next_room, walk_turn, last_room, walk_end}
use Rattle.letters_text.proofs.write_lines.Goals as goal

pub returns-then-n-eq0 : goal.returns-then-n-eq0
returns-then-n-eq0 g c = rw (lines_none (columns_of c.args.columns.now) c.if-n-eq0.true) (sym (append-nil _))

pub put_first-requires : goal.put_first-requires
put_first-requires g c = (search rules, first_room _ (omega arith) c.object-last.ensures c.requires)

pub loop-i-init : goal.loop-i-init
loop-i-init g c = walk_start _ (omega arith) c.object-last.ensures c.put_first.ensures

pub put_next-requires : goal.put_next-requires
put_next-requires g c = (search rules, next_room c.loop-i.invariant c.loop-i-test.true c.object-next.ensures c.requires)

pub loop-i-preserved : goal.loop-i-preserved
loop-i-preserved g c = walk_turn c.loop-i.invariant c.loop-i-test.true c.object-next.ensures c.put_next.ensures

pub push-requires : goal.push-requires
push-requires g c = (search rules, last_room c.loop-i.invariant c.loop-i-test.false c.requires)

pub returns : goal.returns
returns g c = walk_end c.loop-i.invariant c.loop-i-test.false (c.push.ensures.ascii (omega arith))
