-- From (a) to (c) of a landmark: a cut before a streak gives one before a pattern, and two uncoupled patterns behind that give one before a hit pattern.
-- All that stands behind a cut is made of what stands behind the cut before, so it is the same in every chart.
use mathlib.Core.Path.{◌≡◌, refl, sym, ap, ◌∙◌}
use mathlib.Core.List.{List, [], ◌∷◌, ◌++◌, append_assoc}
use Prim.Native.Nat.{ℕ, suc, ◌+◌, ◌-◌, ◌≤◌, ◌<◌}
use native.Mathlib.Numerals.{add-one}
use native.Mathlib.Omega.{arith}
use lib.ListN.{length, get_or, take, drop, length-append, length-drop, take-append-drop}
use lib.Seq.{get_or-take, get_or-drop, get_or-append-add, length-take-le, drop-cons}
use Rattle.lent.specs.Scan.{tabulate}
use Rattle.grouping_marks.specs.Marks.{group_count, group_sizes, group_firsts}
use Rattle.lent.proofs.FillLaws.{length-tabulate}
use Rattle.grouping_marks.proofs.MarksLaws.{length-sizes, length-firsts, count_le}
use Rattle.grouping_marks.proofs.CutLaws.{Opening, opening_front, count-cut}
use Rattle.grouping_marks.proofs.SplitLaws.{CutAt, cut_at}
use Rattle.grouping_hits.specs.RepeatingHitPatterns.{hit_marks}
use Rattle.grouping_hits.proofs.LengthLaws.{length-hit_marks}
use Rattle.grouping_hits.proofs.HitCutLaws.{hit_marks-cut, hit_marks-opening}
use Rattle.grouping_colour.specs.MonoStreak.{streak_marks, streak_lengths, streak_types}
use Rattle.grouping_colour.specs.AlternatingMonoPattern.{pattern_marks, coupled_at, coupled}
use Rattle.grouping_preprocessor.specs.Preprocessor.{patterns_open, first_lengths, streak_counts, pattern_types, coupled_patterns, hits_open}
use Rattle.grouping_colour.proofs.LengthLaws.{length-streak_marks, length-pattern_marks, length-coupled}
use Rattle.grouping_colour.proofs.StreakListLaws.{streak_lengths_made, streak_types_made}
use Rattle.grouping_preprocessor.proofs.MadeLaws.{patterns_open_made, first_lengths_made, streak_counts_made, pattern_types_made}
use Rattle.grouping_preprocessor.proofs.MadeLaws.{coupled_patterns_made, hits_open_made}
use Rattle.grouping_colour.proofs.StreakCutLaws.{streak_marks_after, length-marks_after, streak_marks-cut, streak_lengths-cut, streak_types-cut}
use Rattle.grouping_colour.proofs.PatternCutLaws.{Uneven, pattern_marks-cut, pattern_marks-opening, counts-cut, listed_cut, coupled-cut}
use Rattle.agreement.proofs.colour.PartLaws.{Back, Parted}

-- a list that is cut, cut once more in its back
cut_again : {xs d : List ℕ} (a b c : List ℕ) → xs ≡ a ++ d → d ≡ b ++ c → xs ≡ (a ++ b) ++ c
cut_again a b c e f = rw (e, f, append_assoc)

cut_taken : {xs : List ℕ} (a d : List ℕ) (q : ℕ) → xs ≡ a ++ d → xs ≡ (a ++ take q d) ++ drop q d
cut_taken a d q e = cut_again a (take q d) (drop q d) e (sym (take-append-drop q d))

-- how long the part before that second cut is
taken_long : (a d : List ℕ) (n q : ℕ) → length a ≡ n → q ≤ length d → length (a ++ take q d) ≡ n + q
taken_long a d n q e h = omega (arith, length-append a (take q d), length-take-le q d h)

-- ---- (a) a cut before a streak, after `position` objects: `marks` and `types` are the objects' marks and the streaks' types behind it

pub record StreaksCut (kinds : List ℕ) (position : ℕ) (marks types : List ℕ) : Type 0 where
  pub front : List ℕ
  pub front_lengths : List ℕ
  pub front_types : List ℕ
  pub whole : streak_marks kinds ≡ front ++ marks
  pub lengths : streak_lengths kinds ≡ front_lengths ++ group_sizes marks
  pub types-whole : streak_types kinds ≡ front_types ++ types
  pub size : length front ≡ position
  pub count : length front_lengths ≡ group_count front
  pub count-types : length front_types ≡ group_count front
  pub back-types : length types ≡ group_count marks
  pub opening : Opening marks

pub streaks-cut : (front back marks : List ℕ) → streak_marks_after front back ≡ marks → Opening marks
    → StreaksCut (front ++ back) (length front) marks (group_firsts marks back)
streaks-cut front back marks e o = record {
  front = streak_marks front;
  front_lengths = streak_lengths front;
  front_types = streak_types front;
  whole = rw (← e) (streak_marks-cut front back);
  lengths = rw (← e) (streak_lengths-cut front back (rw e o));
  types-whole = rw (← e) (streak_types-cut front back (rw e o));
  size = length-streak_marks front;
  count = ap length (streak_lengths_made front) ∙ length-sizes (streak_marks front);
  count-types = ap length (streak_types_made front) ∙ length-firsts (streak_marks front) front (omega (arith, length-streak_marks front));
  back-types = length-firsts marks back (omega (arith, length-marks_after front back, ap length e));
  opening = o;
}

-- ---- (b) what is behind the cut before a pattern, q streaks on from (a)

-- the streaks' lengths, which of them open a pattern, and of these patterns the first lengths and the coupled flags
unfoldable pub back_lengths : List ℕ → ℕ → List ℕ
back_lengths marks q = drop q (group_sizes marks)

unfoldable pub back_marks : List ℕ → ℕ → List ℕ
back_marks marks q = pattern_marks (back_lengths marks q)

unfoldable pub back_firsts : List ℕ → ℕ → List ℕ
back_firsts marks q = group_firsts (back_marks marks q) (back_lengths marks q)

unfoldable pub back_flags : List ℕ → List ℕ → ℕ → List ℕ
back_flags marks types q = coupled (back_firsts marks q) (group_sizes (back_marks marks q)) (group_firsts (back_marks marks q) (drop q types))

-- the streaks q − 1 and q, counted from (a), have unequal lengths
pub record Unequal (marks : List ℕ) (q : ℕ) : Type 0 where
  pub some : 0 < q
  pub inside : q < group_count marks
  pub differs : get_or (group_sizes marks) q 0 ≡ get_or (group_sizes marks) (q - 1) 0 → ⊥

-- a cut before a pattern, after `position` streaks
pub record PatternsCut (kinds : List ℕ) (position : ℕ) (marks firsts flags : List ℕ) : Type 0 where
  pub front : List ℕ
  pub front_firsts : List ℕ
  pub front_flags : List ℕ
  pub whole : patterns_open kinds ≡ front ++ marks
  pub firsts-whole : first_lengths kinds ≡ front_firsts ++ firsts
  pub flags-whole : coupled_patterns kinds ≡ front_flags ++ flags
  pub size : length front ≡ position
  pub count-firsts : length front_firsts ≡ group_count front
  pub count-flags : length front_flags ≡ group_count front
  pub opening : Opening marks

module _ {kinds : List ℕ} {position : ℕ} {marks types : List ℕ} (c : StreaksCut kinds position marks types) (q : ℕ) (u : Unequal marks q) where
  before : List ℕ
  before = c.front_lengths ++ take q (group_sizes marks)

  before_types : List ℕ
  before_types = c.front_types ++ take q types

  back_long : length (group_sizes marks) ≡ group_count marks
  back_long = length-sizes marks

  before_long : length before ≡ group_count c.front + q
  unfolding before
  before_long = taken_long c.front_lengths (group_sizes marks) (group_count c.front) q c.count (omega (arith, back_long, u.inside))

  before_types_long : length before_types ≡ group_count c.front + q
  unfolding before_types
  before_types_long = taken_long c.front_types types (group_count c.front) q c.count-types (omega (arith, c.back-types, u.inside))

  behind_long : length (back_lengths marks q) ≡ length (drop q types)
  unfolding back_lengths
  behind_long = omega (arith, length-drop q (group_sizes marks), length-drop q types, back_long, c.back-types)

  lengths_split : streak_lengths kinds ≡ before ++ back_lengths marks q
  unfolding before back_lengths
  lengths_split = cut_taken c.front_lengths (group_sizes marks) q c.lengths

  types_split : streak_types kinds ≡ before_types ++ drop q types
  unfolding before_types
  types_split = cut_taken c.front_types types q c.types-whole

  uneven : Uneven before (back_lengths marks q)
  unfolding before back_lengths
  uneven = record { some = omega (arith, before_long, u.some); differs = λ e. u.differs (sym first ∙ e ∙ last) }
    where
      first : get_or (drop q (group_sizes marks)) 0 0 ≡ get_or (group_sizes marks) q 0
      first = get_or-drop q (group_sizes marks) 0 0 ∙ ap (λ (i : ℕ). get_or (group_sizes marks) i 0) (omega arith)

      last : get_or before (length before - 1) 0 ≡ get_or (group_sizes marks) (q - 1) 0
      last =
          ap (λ (i : ℕ). get_or before i 0) (omega (arith, before_long, u.some, c.count))
          ∙ get_or-append-add c.front_lengths (take q (group_sizes marks)) (q - 1) 0
          ∙ get_or-take q (group_sizes marks) (q - 1) 0 (omega (arith, u.some))

  front_marks : List ℕ
  front_marks = pattern_marks before

  marks_whole : patterns_open kinds ≡ front_marks ++ back_marks marks q
  unfolding front_marks back_marks
  marks_whole = patterns_open_made kinds ∙ ap pattern_marks lengths_split ∙ pattern_marks-cut before (back_lengths marks q) uneven

  first_whole : first_lengths kinds ≡ group_firsts front_marks before ++ back_firsts marks q
  unfolding front_marks back_marks back_firsts
  first_whole =
      rw (first_lengths_made kinds, patterns_open_made kinds, lengths_split)
      (listed_cut before (back_lengths marks q) uneven before (back_lengths marks q) refl refl)

  counts-whole : streak_counts kinds ≡ group_sizes front_marks ++ group_sizes (back_marks marks q)
  unfolding front_marks back_marks
  counts-whole =
      rw (streak_counts_made kinds, patterns_open_made kinds, lengths_split) (counts-cut before (back_lengths marks q) uneven)

  pattern-types-whole : pattern_types kinds ≡ group_firsts front_marks before_types ++ group_firsts (back_marks marks q) (drop q types)
  unfolding front_marks back_marks
  pattern-types-whole =
      pattern_types_made kinds ∙ ap (λ (l : List ℕ). group_firsts l (streak_types kinds)) (patterns_open_made kinds)
      ∙ (λ i. group_firsts (pattern_marks (lengths_split i)) (types_split i))
      ∙ listed_cut before (back_lengths marks q) uneven before_types (drop q types) (before_long ∙ sym before_types_long) behind_long

  front_long : length front_marks ≡ length before
  unfolding front_marks
  front_long = length-pattern_marks before

  firsts-count : length (group_firsts front_marks before) ≡ group_count front_marks
  firsts-count = length-firsts front_marks before (omega (arith, front_long))

  types-count : length (group_firsts front_marks before_types) ≡ group_count front_marks
  types-count = length-firsts front_marks before_types (omega (arith, front_long, before_long, before_types_long))

  flags_before : List ℕ
  flags_before =
      tabulate (coupled_at (group_firsts front_marks before ++ back_firsts marks q) (group_sizes front_marks ++ group_sizes (back_marks marks q))
      (group_firsts front_marks before_types ++ group_firsts (back_marks marks q) (drop q types)))
      (length (group_firsts front_marks before))

  back-opening : Opening (back_marks marks q)
  unfolding back_marks
  back-opening = pattern_marks-opening (back_lengths marks q)

  pub patterns-cut : PatternsCut kinds (group_count c.front + q) (back_marks marks q) (back_firsts marks q) (back_flags marks types q)
  unfolding back_flags flags_before
  patterns-cut = record {
    front = front_marks;
    front_firsts = group_firsts front_marks before;
    front_flags = flags_before;
    whole = marks_whole;
    firsts-whole = first_whole;
    flags-whole =
        coupled_patterns_made kinds ∙ (λ i. coupled (first_whole i) (counts-whole i) (pattern-types-whole i))
        ∙ coupled-cut (group_firsts front_marks before) (back_firsts marks q) (group_sizes front_marks) (group_sizes (back_marks marks q))
        (group_firsts front_marks before_types) (group_firsts (back_marks marks q) (drop q types))
        (length-sizes front_marks ∙ sym firsts-count) (types-count ∙ sym firsts-count);
    size = front_long ∙ before_long;
    count-firsts = firsts-count;
    count-flags = length-tabulate _ _ ∙ firsts-count;
    opening = back-opening;
  }

-- ---- (c) what is behind the cut before a hit pattern

-- the patterns p and p + 1, counted from (b), are uncoupled
pub record Uncoupled (marks types : List ℕ) (q p : ℕ) : Type 0 where
  pub inside : p + 1 < group_count (back_marks marks q)
  pub this : get_or (back_flags marks types q) p 0 ≡ 0
  pub next : get_or (back_flags marks types q) (p + 1) 0 ≡ 0

back_firsts_long : (marks : List ℕ) (q : ℕ) → length (back_firsts marks q) ≡ group_count (back_marks marks q)
unfolding back_firsts back_marks
back_firsts_long marks q = length-firsts (pattern_marks (back_lengths marks q)) (back_lengths marks q)
    (omega (arith, length-pattern_marks (back_lengths marks q)))

back_marks_long : (marks : List ℕ) (q : ℕ) → length (back_marks marks q) ≡ group_count marks - q
unfolding back_marks back_lengths
back_marks_long marks q = omega (arith, length-pattern_marks (drop q (group_sizes marks)), length-drop q (group_sizes marks), length-sizes marks)

back_flags_long : (marks types : List ℕ) (q : ℕ) → length (back_flags marks types q) ≡ group_count (back_marks marks q)
unfolding back_flags
back_flags_long marks types q =
    length-coupled (back_firsts marks q) (group_sizes (back_marks marks q)) (group_firsts (back_marks marks q) (drop q types)) ∙ back_firsts_long marks q

module _ {marks types : List ℕ} {q p : ℕ} (u : Unequal marks q) (v : Uncoupled marks types q p) where
  -- the patterns behind (b), cut after p + 2 of them, and the objects behind (a), cut after the streaks of these
  pub pattern-cut : CutAt (back_marks marks q) (p + 2)
  pattern-cut = cut_at (back_marks marks q) (p + 2) (omega arith) (omega (arith, v.inside))

  pub streak-cut : CutAt marks (q + length pattern-cut.front)
  streak-cut =
      cut_at marks (q + length pattern-cut.front) (omega (arith, u.some))
      (omega (arith, u.inside, back_marks_long marks q, ap length pattern-cut.whole, length-append pattern-cut.front pattern-cut.back))

  pub back : Back
  back = record {
    streaks = streak-cut.back;
    patterns = pattern-cut.back;
    hits = hit_marks (drop (p + 2) (back_flags marks types q));
    lengths = drop (p + 2) (back_firsts marks q);
  }

  flags_split : back_flags marks types q ≡ take p (back_flags marks types q) ++ 0 ∷ 0 ∷ drop (p + 2) (back_flags marks types q)
  flags_split =
      let l : List ℕ = back_flags marks types q in
      let h : p + 1 < length l = omega (arith, back_flags_long marks types q, v.inside) in
      sym (take-append-drop p l)
      ∙ ap (λ (r : List ℕ). take p l ++ r)
      (drop-cons l p 0 (omega arith) ∙ (λ i. v.this i ∷ drop (sym (add-one p) i) l)
      ∙ ap (λ (r : List ℕ). 0 ∷ r) (drop-cons l (p + 1) 0 h ∙ (λ i. v.next i ∷ drop (two i) l)))
    where
      two : suc (p + 1) ≡ p + 2
      two = omega arith

  module _ {kinds : List ℕ} {position : ℕ} (c : StreaksCut kinds position marks types) where
    level : PatternsCut kinds (group_count c.front + q) (back_marks marks q) (back_firsts marks q) (back_flags marks types q)
    level = patterns-cut c q u

    flags_front : List ℕ
    flags_front = level.front_flags ++ take p (back_flags marks types q)

    flags_all : coupled_patterns kinds ≡ flags_front ++ 0 ∷ 0 ∷ drop (p + 2) (back_flags marks types q)
    unfolding flags_front
    flags_all = cut_again level.front_flags (take p (back_flags marks types q)) _ level.flags-whole flags_split

    hits_all : hits_open kinds ≡ hit_marks (flags_front ++ 0 ∷ 0 ∷ []) ++ hit_marks (drop (p + 2) (back_flags marks types q))
    hits_all = hits_open_made kinds ∙ ap hit_marks flags_all ∙ hit_marks-cut flags_front (drop (p + 2) (back_flags marks types q))

    hits_long : length (hit_marks (flags_front ++ 0 ∷ 0 ∷ [])) ≡ group_count level.front + (p + 2)
    unfolding flags_front
    hits_long =
        omega (
          arith,
          length-hit_marks (flags_front ++ 0 ∷ 0 ∷ []),
          length-append flags_front (0 ∷ 0 ∷ []),
          taken_long level.front_flags (back_flags marks types q) (group_count level.front) p level.count-flags enough,
        )
      where
        enough : p ≤ length (back_flags marks types q)
        enough = omega (arith, back_flags_long marks types q, v.inside)

    patterns-counted : group_count (level.front ++ pattern-cut.front) ≡ group_count level.front + (p + 2)
    patterns-counted =
        count-cut level.front pattern-cut.front (opening_front pattern-cut.front pattern-cut.back (rw pattern-cut.whole at level.opening))
        ∙ rw pattern-cut.count

    streaks-counted : group_count (c.front ++ streak-cut.front) ≡ group_count c.front + (q + length pattern-cut.front)
    streaks-counted =
        count-cut c.front streak-cut.front (opening_front streak-cut.front streak-cut.back (rw streak-cut.whole at c.opening))
        ∙ rw streak-cut.count

    pub parted : Parted kinds back
    unfolding back
    parted = record {
      streaks = c.front ++ streak-cut.front;
      patterns = level.front ++ pattern-cut.front;
      hits = hit_marks (flags_front ++ 0 ∷ 0 ∷ []);
      lengths = level.front_firsts ++ take (p + 2) (back_firsts marks q);
      streaks-whole = cut_again c.front streak-cut.front streak-cut.back c.whole streak-cut.whole;
      patterns-whole = cut_again level.front pattern-cut.front pattern-cut.back level.whole pattern-cut.whole;
      hits-whole = hits_all;
      lengths-whole = cut_taken level.front_firsts (back_firsts marks q) (p + 2) level.firsts-whole;
      streaks_open = streak-cut.opening;
      patterns_open_lem = pattern-cut.opening;
      hits_open_lem = hit_marks-opening (drop (p + 2) (back_flags marks types q));
      streaks-count = streaks-counted ∙ omega (arith, length-append level.front pattern-cut.front, level.size);
      patterns-count = patterns-counted ∙ sym hits_long;
      lengths-count =
          taken_long level.front_firsts (back_firsts marks q) (group_count level.front) (p + 2) level.count-firsts
          (omega (arith, back_firsts_long marks q, v.inside))
          ∙ sym hits_long;
      some = omega (arith, length-append c.front streak-cut.front, streak-cut.count, count_le streak-cut.front, u.some);
    }

    -- where the cut is
    pub parted-objects : length parted.streaks ≡ position + length streak-cut.front
    unfolding parted
    parted-objects = omega (arith, length-append c.front streak-cut.front, c.size)

    pub parted-patterns : length parted.hits ≡ group_count (patterns-cut c q u).front + (p + 2)
    unfolding parted level
    parted-patterns = hits_long
