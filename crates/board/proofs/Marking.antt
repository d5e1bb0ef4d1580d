-- The marks: those of the sizes first, then the pass over the numbers of the side.
use Prim.Native.Nat.{ℕ, ◌+◌, ◌≤◌, ◌<◌}
use mathlib.Core.Bool.{Bool, true, false, ◌||◌}
use mathlib.Core.Path.{◌≡◌, refl, sym, ap, subst, ◌∙◌}
use mathlib.Core.List.{List, [], ◌∷◌, ◌++◌}
use mathlib.Core.Logic.{◌⊎◌, inl, inr, ⊎_elim}
use native.Mathlib.Omega.{arith}
use native.Mathlib.Decide.{ℕ_discrete}
use lib.ListN.{length, set, replicate, length-replicate, get_or-replicate, length-append, get_or-append}
use lib.Seq.{get_or-append_seam}
use Rattle.laws.proofs.Order.{last_or_below}
use Rattle.cutting.specs.Limits.{side_max}
use Rattle.board.specs.Inner.{mark_at, mark_count, step_at, Rising, mark_row, is_size, size_marks, is_point, reaches, leads, marks_of}
use Rattle.board.proofs.Marks.{is_mark_row, mark_row_at, mark_row_same, mark_row_set}
use Rattle.board.proofs.Steps.{Stepped, steps_none, IsReached, reaches_closed}
use Rattle.board.proofs.Passing.{is_within_says, is_size_none, is_size_other, is_size_new, passed, passed_none, passed_all, passed_upto, passed_other, passed_more, steps_same, steps_more}

module _ (size : ℕ → ℕ) (side : ℕ) (few : side ≤ side_max) where
  -- The sizes: none yet, and the code's k + 1.
  pub sizes_none : replicate mark_count false ≡ mark_row (is_size size 0 side)
  sizes_none =
      is_mark_row (is_size size 0 side) (replicate mark_count false) (length-replicate mark_count false)
      (λ c h. get_or-replicate mark_count c false false (omega arith) ∙ sym (is_size_none size side c))

  module _ {marks : List Bool} {s : ℕ} (k : ℕ) (was : marks ≡ mark_row (is_size size k side)) (is : s ≡ size k) where
    pub sizes_set : 1 ≤ s → s ≤ side → set marks s true ≡ mark_row (is_size size (k + 1) side)
    sizes_set l m =
        ap (λ (r : List Bool). set r s true) was
        ∙ mark_row_set (is_size size k side) (is_size size (k + 1) side) s (omega (arith, m, few))
        (λ c d. is_size_other size side k c (λ i. absurd (d (i ∙ sym is))))
        (sym (ap (is_size size (k + 1) side) is ∙ (is_size_new size side k ∙ (is_within_says side (size k)).found (omega (arith, is), omega (arith, is)))))

    pub sizes_skip : (1 ≤ s → s ≤ side → ⊥) → marks ≡ mark_row (is_size size (k + 1) side)
    sizes_skip none =
        was
        ∙ mark_row_same (is_size size k side) (is_size size (k + 1) side)
        (λ c. is_size_other size side k c (λ i r. none (omega (arith, i, is, r.0)) (omega (arith, i, is, r.1))))

-- The pass at `last`: the marks, and the steps so far.
pub record PassAt (size : ℕ → ℕ) (n side last : ℕ) (marks : List Bool) (steps : List ℕ) : Type 0 where
  pub marked : marks ≡ mark_row (passed size n side last)
  pub stepped : Stepped (IsReached size n) last (step_at steps) (length steps)

-- As the loop goes: the pass before the number `next`.
pub record PassBefore (size : ℕ → ℕ) (n side next : ℕ) (marks : List Bool) (steps : List ℕ) : Type 0 where
  pub last : ℕ
  pub before : next ≡ last + 1
  pub pass : PassAt size n side last marks steps

-- What the loop knows of the steps whatever the sizes are: they rise, and are numbers before `next`.
pub record Ascending (next : ℕ) (steps : List ℕ) : Type 0 where
  pub few : length steps < next
  pub rising : Rising (step_at steps) (length steps)
  pub below : (j : ℕ) → j < length steps → step_at steps j < next

pub ascending_none : Ascending 1 []
ascending_none =
    record { few = omega arith; rising = record { rises = λ i j l h. absurd (omega arith) }; below = λ j h. absurd (omega arith) }

module _ {next : ℕ} {steps steps' : List ℕ} (a : Ascending next steps) where
  pub ascending_same : steps' ≡ steps → Ascending (next + 1) steps'
  ascending_same e =
      rw e (record { few = omega (arith, a.few); rising = a.rising; below = λ j h. omega (arith, a.below j h) })

  pub ascending_more : steps' ≡ steps ++ next ∷ [] → Ascending (next + 1) steps'
  ascending_more e = rw e (record { few = omega (arith, long, a.few); rising = record { rises = rises }; below = λ j h. below j (at j h) })
    where
      more : List ℕ
      more = steps ++ next ∷ []

      long : length more ≡ length steps + 1
      long = length-append steps (next ∷ [])

      at : (j : ℕ) → j < length more → ((j ≡ length steps) × (step_at more j ≡ next)) ⊎ ((j < length steps) × (step_at more j ≡ step_at steps j))
      at j h =
          ⊎_elim (λ e. inl (e, ap (step_at more) e ∙ get_or-append_seam steps next [] 0)) (λ l. inr (l, get_or-append steps (next ∷ []) 0 j l))
          (last_or_below {k = j} {n = length steps} (omega (arith, long)))

      below : (j : ℕ) → ((j ≡ length steps) × (step_at more j ≡ next)) ⊎ ((j < length steps) × (step_at more j ≡ step_at steps j)) → step_at more j < next + 1
      below j (inl (e, q)) = omega (arith, q)
      below j (inr (l, q)) = omega (arith, q, a.below j l)

      rises : (i j : ℕ) → i < j → j < length more → step_at more i < step_at more j
      rises i j l h =
          let i_at : step_at more i ≡ step_at steps i = get_or-append steps (next ∷ []) 0 i (omega (arith, long)) in
          ⊎_elim (λ p. omega (arith, i_at, p.1, a.below i (omega (arith, p.0)))) (λ p. omega (arith, i_at, p.1, a.rising.rises i j l p.0)) (at j h)

-- The pass goes on, with marks' and steps' as a turn leaves them: where a step leads to `next`, else where it is a size, else.
pub record Further (sizes : ℕ → ℕ) (n side next : ℕ) (marks : List Bool) (steps : List ℕ) (b : Bool) : Type 0 where
  pub led : {marks' : List Bool} {steps' : List ℕ} → b ≡ true → marks' ≡ set marks next true → steps' ≡ steps
      → PassBefore sizes n side (next + 1) marks' steps'
  pub size : {marks' : List Bool} {steps' : List ℕ} → b ≡ false → mark_at marks next ≡ true → marks' ≡ marks → steps' ≡ steps ++ next ∷ []
      → PassBefore sizes n side (next + 1) marks' steps'
  pub none : {marks' : List Bool} {steps' : List ℕ} → b ≡ false → mark_at marks next ≡ false → marks' ≡ marks → steps' ≡ steps
      → PassBefore sizes n side (next + 1) marks' steps'

module _ {size : ℕ → ℕ} {n side : ℕ} where
  pub passing_start : {marks : List Bool} → marks ≡ size_marks size n side → PassBefore size n side 1 marks []
  unfolding size_marks
  passing_start e =
      record {
        last = 0;
        before = refl;
        pass = record {
          marked = e ∙ mark_row_same (is_size size n side) (passed size n side 0) (passed_none size n side);
          stepped = steps_none (reaches_closed size n) (step_at []);
        };
      }

  module _ {next : ℕ} {marks : List Bool} {steps : List ℕ} (p : PassBefore size n side next marks steps) where
    pub passing_end : next ≡ side + 1 → marks ≡ marks_of size n side
    unfolding marks_of
    passing_end e =
        let q : p.last ≡ side = omega (arith, p.before) in
        rw q at p.pass.marked ∙ mark_row_same (passed size n side side) (is_point size n side) (passed_all size n side)

  -- One turn, for last + 1: b is whether a step leads to it, and the mark so far whether it is a size.
  module _ {last : ℕ} {marks : List Bool} {steps : List ℕ} {b : Bool} (few : side ≤ side_max) (p : PassAt size n side last marks steps) (h : last < side)
      (search : b ≡ leads (mark_at marks) (step_at steps) (length steps) (last + 1)) where
    mark_is : (m : ℕ) → m ≤ side_max → mark_at marks m ≡ passed size n side last m
    mark_is m l = ap (λ (r : List Bool). mark_at r m) p.marked ∙ mark_row_at (passed size n side last) m l

    made : (m : ℕ) → m ≤ last → mark_at marks m ≡ reaches size n m
    made m l = mark_is m (omega (arith, few)) ∙ passed_upto size n side last m l

    own_is : mark_at marks (last + 1) ≡ passed size n side last (last + 1)
    own_is = mark_is (last + 1) (omega (arith, few))

    further : b || mark_at marks (last + 1) ≡ passed size n side (last + 1) (last + 1)
    further = passed_more size n side h p.stepped made search own_is

    stays : (b ≡ true) ⊎ (mark_at marks (last + 1) ≡ false) → Stepped (IsReached size n) (last + 1) (step_at steps) (length steps)
    stays = steps_same size n side h p.stepped made search own_is

    -- No mark changes.
    kept : b ≡ false → marks ≡ mark_row (passed size n side (last + 1))
    kept e = p.marked ∙ mark_row_same (passed size n side last) (passed size n side (last + 1)) (λ c. each c (ℕ_discrete c (last + 1)))
      where
        each : (c : ℕ) → Dec (c ≡ last + 1) → passed size n side last c ≡ passed size n side (last + 1) c
        each c (yes q) = rw q (sym own_is ∙ (ap (λ (d : Bool). d || mark_at marks (last + 1)) (sym e) ∙ further))
        each c (no d) = passed_other size n side last c d

    turn_led : b ≡ true → PassAt size n side (last + 1) (set marks (last + 1) true) steps
    turn_led e =
        record {
          marked =
              ap (λ (r : List Bool). set r (last + 1) true) p.marked
              ∙ mark_row_set (passed size n side last) (passed size n side (last + 1)) (last + 1) (omega (arith, few)) (passed_other size n side last)
              (sym (ap (λ (d : Bool). d || mark_at marks (last + 1)) e) ∙ further);
          stepped = stays (inl e);
        }

    turn_size : b ≡ false → mark_at marks (last + 1) ≡ true → PassAt size n side (last + 1) marks (steps ++ (last + 1) ∷ [])
    turn_size e own =
        record {
          marked = kept e;
          stepped =
              subst (Stepped (IsReached size n) (last + 1) (step_at (steps ++ (last + 1) ∷ []))) (sym (length-append steps ((last + 1) ∷ [])))
              (steps_more size n side h p.stepped made search own_is own
              (λ j i. get_or-append steps ((last + 1) ∷ []) 0 j i)
              (get_or-append_seam steps (last + 1) [] 0));
        }

    turn_none : b ≡ false → mark_at marks (last + 1) ≡ false → PassAt size n side (last + 1) marks steps
    turn_none e own = record { marked = kept e; stepped = stays (inr own) }

  -- The same as the loop has it: the slice that `led` reads are the steps.
  module _ {next : ℕ} {marks : List Bool} {steps slice : List ℕ} {b : Bool} (few : side ≤ side_max) (p : PassBefore size n side next marks steps)
      (h : next ≤ side) (lent : slice ≡ steps) (search : b ≡ leads (mark_at marks) (step_at slice) (length slice) next) where
    becomes : {marks' : List Bool} {steps' : List ℕ} (m : ℕ → List Bool) (s : ℕ → List ℕ) → marks' ≡ m next → steps' ≡ s next
        → PassAt size n side (p.last + 1) (m (p.last + 1)) (s (p.last + 1)) → PassBefore size n side (next + 1) marks' steps'
    becomes m s f g t = rw (f, g) (record { last = next; before = refl; pass = subst (λ (k : ℕ). PassAt size n side k (m k) (s k)) (sym p.before) t })

    below : p.last < side
    below = omega (arith, p.before)

    found : b ≡ leads (mark_at marks) (step_at steps) (length steps) (p.last + 1)
    found =
        search
        ∙ (ap (λ (l : List ℕ). leads (mark_at marks) (step_at l) (length l) next) lent
        ∙ ap (leads (mark_at marks) (step_at steps) (length steps)) p.before)

    mark_here : mark_at marks (p.last + 1) ≡ mark_at marks next
    mark_here = sym (ap (mark_at marks) p.before)

    pub pass_on : Further size n side next marks steps b
    pass_on =
        record {
          led = λ e f g. becomes (λ k. set marks k true) (λ k. steps) f g (turn_led few p.pass below found e);
          size = λ e own f g. becomes (λ k. marks) (λ k. steps ++ k ∷ []) f g (turn_size few p.pass below found e (mark_here ∙ own));
          none = λ e own f g. becomes (λ k. marks) (λ k. steps) f g (turn_none few p.pass below found e (mark_here ∙ own));
        }
