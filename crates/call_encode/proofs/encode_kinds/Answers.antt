-- `encode_kinds` meets its contract: the encoder's tables, spread over the objects, and then cleared.
use Rattle.grouping_preprocessor.proofs.LookUpsLaws.{tables_of}
use Rattle.call_encode.specs.Call.{kinds_memory}
use Rattle.call_encode.proofs.KindsLaws.{spread_room, encoded}
use Rattle.call_encode.proofs.encode_kinds.Goals as goal

pub spread-requires : goal.spread-requires
spread-requires c =
    let a = c.args in
    let old = kinds_memory a.streak.now a.streak_place.now a.pattern.now a.pattern_place.now a.hit.now a.interval.now a.work.now in
    spread_room old (tables_of c.encode_levels-levels.ensures.tables c.of-tables.ensures) c.requires

pub returns-clause-filled : goal.returns-clause-filled
returns-clause-filled c =
    let a = c.args in
    let old = kinds_memory a.streak.now a.streak_place.now a.pattern.now a.pattern_place.now a.hit.now a.interval.now a.work.now in
    let tables = c.encode_levels-levels.ensures.tables in
    let s = c.spread.ensures in
    encoded old (tables_of {t = c.of-tables.result} tables c.of-tables.ensures) s.streak s.streak_place s.pattern s.pattern_place s.hit s.interval
    tables c.front.ensures
