-- Streaks by a walk that carries how many notes were passed and the kind of the last: which objects open a streak is what this walk emits.
-- The pass needs less: the kind of the last note, if there is one.
use mathlib.Core.Path.{◌≡◌, refl, sym, ap, ◌∙◌}
use mathlib.Core.Bool.{Bool, true, false, cond}
use mathlib.Core.List.{List, [], ◌∷◌}
use Prim.Native.Nat.{ℕ, ◌+◌, ◌<◌}
use native.Mathlib.Omega.{arith}
use lib.Dec.{eqb}
use lib.ListN.{length, take, get_or}
use lib.Seq.{ext_get_or}
use Rattle.lent.specs.Over.{over}
use Rattle.lent.specs.Scan.{scan, end_state, tabulate}
use Rattle.lent.proofs.ScanLaws.{length-scan, scan-alike}
use Rattle.lent.proofs.WalkLaws.{after_none, after_first, get_or-scan}
use Rattle.lent.proofs.FillLaws.{length-tabulate, get_or-tabulate}
use Rattle.grouping_chart.specs.Object.{is_note}
use Rattle.grouping_chart.proofs.ObjectLaws.{Seen, seen₀, seen_next, seen_after, previous_seen, previous_kind_seen}
use Rattle.grouping_chart.proofs.SeenLaws.{seen_after_none, seen_after_first, previous_seen_by}
use Rattle.std.specs.Prelude.{Option, Some, None}
use borrow.Author.Tests.{ne_eqb}
use Rattle.grouping_colour.specs.MonoStreak.{continues, opens_streak, streak_marks}
use Rattle.grouping_colour.specs.passes.Streaks.{opens_after, last_after}

-- 1 where an object of kind k opens a streak, by what was seen before it
unfoldable pub opens_seen : Seen → ℕ → ℕ
opens_seen s k = cond (continues (previous_seen s k) k) 0 1

after_seen : (s : Seen) (ks : List ℕ) → end_state seen_next s ks ≡ seen_after s ks
after_seen s [] = after_none seen_next s ∙ sym (seen_after_none s)
after_seen s (k ∷ ks) = after_first seen_next s k ks ∙ after_seen (seen_next s k) ks ∙ sym (seen_after_first s k ks)

get_or_seen : (s : Seen) (ks : List ℕ) (i : ℕ) → i < length ks
    → get_or (scan seen_next opens_seen s ks) i 0 ≡ opens_seen (seen_after s (take i ks)) (get_or ks i 0)
get_or_seen s ks i h = rw (get_or-scan seen_next opens_seen s ks i 0 0 h, after_seen s (take i ks))

opens_seen_lem : (kinds : List ℕ) (i : ℕ) → opens_streak kinds i ≡ opens_seen (seen_after seen₀ (take i kinds)) (get_or kinds i 0)
unfolding opens_streak opens_seen
opens_seen_lem kinds i = rw (previous_kind_seen kinds i)

-- the marks are what a walk over the kinds emits
pub streak_marks_scan : (kinds : List ℕ) → streak_marks kinds ≡ scan seen_next opens_seen seen₀ kinds
unfolding streak_marks
streak_marks_scan kinds =
    let l : length (tabulate (opens_streak kinds) (length kinds)) ≡ length kinds = length-tabulate (opens_streak kinds) (length kinds) in
    ext_get_or 0 _ _ (l ∙ sym (length-scan seen_next opens_seen seen₀ kinds))
    (λ i h.
    let r : i < length kinds = omega arith in
    get_or-tabulate (opens_streak kinds) (length kinds) i 0 r ∙ opens_seen_lem kinds i ∙ sym (get_or_seen seen₀ kinds i r))

-- ---- the pass, which keeps of what was seen only the kind of the last note

-- what was seen, and the kind that the pass has of it
record Kept (s : Seen) (last : Option ℕ) : Type 0 where
  last_is : last ≡ cond (eqb s.notes 0) None (Some s.last)
  note : eqb s.notes 0 ≡ false → is_note s.last ≡ true

opens-kept : (s : Seen) (last : Option ℕ) (k : ℕ) → Kept s last → opens_after last k ≡ opens_seen s k
unfolding opens_seen opens_after continues
opens-kept s last k x =
    ap (λ l. opens_after l k) x.last_is ∙ by (eqb s.notes 0) (is_note k) x.note refl
    ∙ ap (λ (p : Option ℕ). cond (continues p k) 0 1) (sym (previous_seen_by s k))
  where
    by : (none_yet note : Bool) → (none_yet ≡ false → is_note s.last ≡ true) → is_note k ≡ note
        → opens_after (cond none_yet None (Some s.last)) k ≡ cond (continues (cond note (cond none_yet None (Some s.last)) None) k) 0 1
    by true true n e = refl
    by true false n e = refl
    by false true n e = refl
    by false false n e = rw (ne_eqb s.last k (λ q. grind (arith, n refl, e, q))) refl

kept_next : (s : Seen) (last : Option ℕ) (k : ℕ) → Kept s last → Kept (seen_next s k) (last_after last k)
unfolding seen_next last_after
kept_next s last k x = by (is_note k) refl
  where
    by : (b : Bool) → is_note k ≡ b → Kept (cond b (record { notes = s.notes + 1; last = k }) s) (cond b (Some k) last)
    by true e =
        let some : eqb (s.notes + 1) 0 ≡ false = ne_eqb (s.notes + 1) 0 (λ q. omega arith) in
        record { last_is = rw some refl; note = λ _. e }
    by false e = x

same_marks : (s : Seen) (last : Option ℕ) (ks : List ℕ) → Kept s last → scan last_after opens_after last ks ≡ scan seen_next opens_seen s ks
same_marks s last ks x =
    scan-alike last_after opens_after seen_next opens_seen (λ l t. Kept t l) (λ l t k y. opens-kept t l k y) (λ l t k y. kept_next t l k y) last s ks x

-- the marks are what the pass emits
pub streak_marks_passed : (kinds : List ℕ) → streak_marks kinds ≡ scan last_after opens_after None kinds
streak_marks_passed kinds = streak_marks_scan kinds ∙ sym (same_marks seen₀ None kinds (record { last_is = refl; note = λ e. grind (arith, e) }))

-- the marks that the pass stored
pub marks_stored : (kinds w₀ w : List ℕ) → w ≡ over (scan last_after opens_after None kinds) w₀ → w ≡ over (streak_marks kinds) w₀
marks_stored kinds w₀ w e = rw (streak_marks_passed kinds) e
