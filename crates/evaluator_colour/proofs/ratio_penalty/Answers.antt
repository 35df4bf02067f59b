-- Each path is the case that its tests found.
use mathlib.Core.Path.{◌∙◌}
use borrow.Author.Tests.{lt-ltb, le-ltb}
use lib.Ieee.{of_bits}
use Rattle.evaluator_colour.specs.RatioPenalty.{ratio_penalty}
use Rattle.evaluator_colour.proofs.ratio_penalty.Goals as goal

pub returns-then-i-lt2 : goal.returns-then-i-lt2
unfolding ratio_penalty of_bits
returns-then-i-lt2 c = rw (lt-ltb _ _ c.if-i-lt2.true)

pub returns-then-near : goal.returns-then-near
unfolding ratio_penalty of_bits
returns-then-near c = c.lower.ensures ∙ rw (le-ltb _ _ c.if-i-lt2.false, ← c.near.ensures, c.if-near.true)

pub returns-then-i-lt4 : goal.returns-then-i-lt4
unfolding ratio_penalty of_bits
returns-then-i-lt4 c = rw (le-ltb _ _ c.if-i-lt2.false, ← c.near.ensures, c.if-near.false, lt-ltb _ _ c.if-i-lt4.true)

pub returns : goal.returns
unfolding ratio_penalty of_bits
returns c = c.lower-2.ensures ∙ rw (le-ltb _ _ c.if-i-lt2.false, ← c.near.ensures, c.if-near.false, le-ltb _ _ c.if-i-lt4.false)
