-- `read_full` meets its contract: what a read gave stands behind what the reads before it gave.
use Rattle.std.proofs.Common.{◌≡◌, ℕ, ◌+◌, ◌-◌, ◌≤◌, List, ◌++◌, rules, length, take, drop, ap, ◌∙◌, sym, subst, le_refl, drop_at, length-take-le}
use Rattle.std.proofs.lemmas.Slice.{take-put_mid_below}
use Rattle.std.specs.Io.KnownBytes.{Consumes}
use Rattle.std.proofs.KnownBytes.{Consumes-trans}
use borrow.Rule.Slice.PartMut.{put_mid, post_of}
use lib.Seq.{take-add, take-append-le}
use Rattle.reading.proofs.read_full.Goals as goal

-- the first a + n bytes, where ys stand from place a on
take-put_mid : (a k n : ℕ) (xs ys : List ℕ) → a ≤ length xs → n ≤ length ys → take a xs ++ take n ys ≡ take (a + n) (put_mid a k xs ys)
take-put_mid a k n xs ys within fits =
    let after = post_of a k xs in
    let behind : drop a (put_mid a k xs ys) ≡ ys ++ after = drop_at (take a xs) (ys ++ after) a (length-take-le a xs within) in
    let given : take n (drop a (put_mid a k xs ys)) ≡ take n ys = ap (take n) behind ∙ take-append-le n ys after fits in
    let before : take a (put_mid a k xs ys) ≡ take a xs = take-put_mid_below _ _ _ _ _ (le_refl a) within in
    sym (take-add a n (put_mid a k xs ys) ∙ cc)

pub loop-done-preserved : goal.loop-done-preserved
loop-done-preserved g c =
    let from = c.loop-done.done in
    let room = length c.loop-done.buf - from in
    let within = c.loop-done.invariant.1 in
    let joined = take-put_mid from room c.in-Ok.n c.loop-done.buf c.read.new.buf within c.in-Ok.ensures.bound.0 in
    (search rules, search rules, subst (Consumes _ _) joined (Consumes-trans _ _ _ _ _ c.loop-done.invariant.2 c.in-Ok.ensures.bytes.0))
