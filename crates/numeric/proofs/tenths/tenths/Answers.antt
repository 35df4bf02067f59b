-- What is nearest to ten times the size, with the sign of x.
use Rattle.std.proofs.Common.{ℕ, ◌^◌, ◌<◌, ap, ◌∙◌, arith}
use lib.IntN.{pos}
use lib.Ieee.{of_bits}
use mir.Syntax.{w64}
use mir.ValLaws.{to_z_pos}
use Rattle.numeric.proofs.tenths.Size.{range_within}
use Rattle.numeric.proofs.Minus.{minus_is}
use Rattle.numeric.proofs.tenths.Tens.{from_zero, below_zero}
use Rattle.numeric.proofs.tenths.tenths.Goals as goal

-- a result below 2 ^ 58 is one below 2 ^ 63
room : (q : ℕ) → q < 2 ^ 58 → q < 2 ^ 63
room q h = omega arith

pub returns-then-x : goal.returns-then-x
unfolding of_bits
returns-then-x c =
    let q = c.ten_nearest-t.result in
    minus_is q (room q c.ten_nearest-t.ensures.small)
    ∙ rw c.ten_nearest-t.ensures.equal
    (below_zero c.size_of-s.result.digits c.size_of-s.result.shift c.args.x (range_within c.args.x c.requires) c.size_of-s.ensures c.if-x.true)

pub returns : goal.returns
unfolding of_bits
returns c =
    let q = c.ten_nearest-t.result in
    to_z_pos w64 q (room q c.ten_nearest-t.ensures.small)
    ∙ ap pos c.ten_nearest-t.ensures.equal
    ∙ from_zero c.size_of-s.result.digits c.size_of-s.result.shift c.args.x (range_within c.args.x c.requires) c.size_of-s.ensures c.if-x.false
