-- A job entered on any table that has room for its sheet: every piece was added and no cell is filled, or a piece out of its range got 4.
use Prim.Native.Nat.{ℕ, zero, suc, ◌≤◌, ◌<◌}
use mathlib.Core.Bool.{Bool, true, false}
use mathlib.Core.List.{List, [], ◌∷◌, ◌++◌}
use mathlib.Core.Logic.{◌⊎◌, inl, inr, ⊎_elim}
use mathlib.Core.Path.{◌≡◌, refl, sym, ap, ◌∙◌, subst}
use native.Mathlib.Omega.{arith}
use native.Mathlib.Numerals.{add-one}
use lib.ListN.{length, get_or}
use Rattle.laws.specs.ByIndex.{by_index}
use Rattle.laws.specs.Inner.{Says}
use Rattle.laws.specs.Refusal.{Gives}
use Rattle.laws.proofs.ByIndex.{by_index-length, by_index_more}
use Rattle.laws.proofs.Says.{says_false}
use Rattle.cutting.specs.Limits.{side_max, pieces_max}
use Rattle.cutting.specs.Piece.{Piece, Inside, InRange}
use Rattle.cutting.specs.Change.{added}
use Rattle.cells.specs.Cells.{empty, cell_of}
use Rattle.cells.specs.Emptied.{Empties}
use Rattle.cells.specs.Inner.{fits}
use Rattle.cells.proofs.Emptied.{fits_says}
use Rattle.job.specs.declared.Piece.{Piece as Record}
use Rattle.job.specs.declared.Job.{Job}
use Rattle.job.specs.Job.{piece_of, no_record, pieces_of, job_of, lay_of}
use Rattle.job.specs.Change.{with_added}
use Rattle.job.proofs.Pieces.{pieces-length, pieces_at, pieces-job_of}
use Rattle.job.proofs.Range.{PieceIn, RecordIn, in_range_each, new_in_range}
use Rattle.job.proofs.Changed.{added_in_range}
use Rattle.desk.specs.Changing.{Changed}
use Rattle.refusals.specs.Refusals.{bad_piece}
use Rattle.desk.specs.Refusals.{cells_of, Usable, open_refusals, add_refusals, AddRefusal}
use Rattle.desk.specs.Changing.{Changes, SizeFits, Opens, Adds}
use Rattle.desk.specs.Inner.{added_job, added_cells}
use Rattle.desk.proofs.Exactly.{add_number}
use Rattle.desk.proofs.Granted.{add_granted}
use Rattle.desk.proofs.Words.{open_exactly, add_exactly}
use Rattle.desk.proofs.Answers.{given}
use Rattle.program.specs.Entry.{Stand, added_to, added_to_cells, added_all, begun}
use Rattle.program.proofs.Entered.{still}

-- No cell of the job's sheet is filled.
abbrev pub NoneFilled : Job → List ℕ → Type 0
NoneFilled job t = (u w : ℕ) → Inside u w job.width job.height → cell_of job.width t u w ≡ empty

pub all_still : (start : Changed) (t : List ℕ) (pieces : List Record) (k : ℕ) → (start.refusal ≡ 0 → ⊥) → (added_all start t pieces k).answer ≡ start
unfolding added_all
all_still start t pieces zero h = refl
all_still start t pieces (suc k) h =
    let before = all_still start t pieces k h in
    ap (λ (s : Stand). s.answer) (still (added_all start t pieces k) _ (λ e. h (sym (ap (λ (c : Changed). c.refusal) before) ∙ e))) ∙ before

-- Entering a job: open accepted its sheet, then k pieces were added.

-- Every number was 0, the job has the first k pieces, and no cell is filled.
pub record Begun (from : Job) (k : ℕ) (s : Stand) : Type 0 where
  pub none : s.answer.refusal ≡ 0
  pub is : s.answer.job ≡ job_of from.width from.height (by_index (λ i. piece_of (get_or from.pieces i no_record)) k)
  pub usable : Usable s.answer.job s.cells
  pub cells : NoneFilled s.answer.job s.cells

-- Or a piece was out of its range: add refused it with 4.
pub record BadPiece (from : Job) (s : Stand) : Type 0 where
  pub four : s.answer.refusal ≡ bad_piece
  pub why : InRange (lay_of from) → ⊥

module _ (from : Job) where
  abbrev piece : ℕ → Record
  piece k = get_or from.pieces k no_record

  abbrev first : ℕ → List Piece
  first k = by_index (λ i. piece_of (piece i)) k

  first-length : (k : ℕ) → length (first k) ≡ k
  first-length = by_index-length (λ i. piece_of (piece i))

  -- The job with one more piece.
  one_more : {job : Job} (k : ℕ) → k ≤ pieces_max → job ≡ job_of from.width from.height (first k)
      → with_added job (piece k) ≡ job_of from.width from.height (first (suc k))
  unfolding with_added job_of added
  one_more k h e =
      ap (λ (j : Job). with_added j (piece k)) e
      ∙ ap (job_of from.width from.height)
      (ap (λ (l : List Piece). l ++ (piece_of (piece k) ∷ [])) (pieces-job_of from.width from.height (first k) (omega (arith, first-length k)))
      ∙ sym (rw add-one at (by_index_more (λ i. piece_of (piece i)) k)))

  -- A piece that is in its range is added, any other gets 4 and nothing else.
  module _ (k : ℕ) (below : k < from.count) (most : from.count ≤ pieces_max) where
    piece_range : InRange (lay_of from) → RecordIn (piece k)
    piece_range h = subst PieceIn (pieces_at from k below) (in_range_each (pieces_of from) h k (omega (arith, pieces-length from)))

    add_four : {job : Job} {t : List ℕ} {n : ℕ} → Usable job t → job.count < pieces_max → AddRefusal job t (piece k) (suc n)
        → (suc n ≡ bad_piece) × (RecordIn (piece k) → ⊥)
    unfolding Gives add_refusals
    add_four u few =
        ⊎_elim (λ z. absurd (z.0 u.range)) (λ z.
        ⊎_elim (λ y. absurd (y.0 u.room)) (λ y.
        ⊎_elim (λ x. (x.1, x.0)) (λ x.
        ⊎_elim (λ w. absurd (omega (arith, w.0))) (λ w. absurd (omega (arith, w.1))) x.1) y.1) z.1)

    module _ (s : Stand) (g : Begun from k s) where
      abbrev job : Job
      job = s.answer.job

      abbrev t : List ℕ
      t = s.cells

      abbrev next : Stand
      next = record { answer = added_job job t (piece k); cells = added_cells job t (piece k) }

      count : job.count < pieces_max
      unfolding job_of
      count = omega (arith, ap (λ (j : Job). j.count) g.is, first-length k)

      empties : {t' : List ℕ} → Empties job.width job.height (SizeFits (piece k)) t t' → NoneFilled job t'
      empties {t'} e u w i = by (fits (piece k).width (piece k).height u w) (fits_says (piece k).width (piece k).height u w)
        where
          by : (b : Bool) → Says b (SizeFits (piece k) u w) → cell_of job.width t' u w ≡ empty
          by true h = e.emptied u w i (h.means refl)
          by false h = e.kept u w i (says_false h refl) ∙ g.cells u w i

      added_next : Begun from (suc k) next ⊎ BadPiece from next
      unfolding with_added job_of
      added_next = by ((add_exactly job t (piece k)).0 (refl, refl))
        where
          by : {c : Changed} {l : List ℕ} → Adds job t (piece k) c l
              → Begun from (suc k) (record { answer = c; cells = l }) ⊎ BadPiece from (record { answer = c; cells = l })
          by (Changes.accepted z e) =
              let good = (add_granted job t (piece k) ((add_number job t (piece k)).0 z) refl).range in
              inl (record {
                none = refl;
                is = one_more k (omega arith) g.is;
                usable = record { range = added_in_range job g.usable.range (piece k) count good; room = omega (arith, g.usable.room, e.long) };
                cells = empties e;
              })
          by (Changes.refused q) = let four = add_four g.usable count q in inr (record { four = four.0; why = λ h. four.1 (piece_range h) })

      -- The same, as entering goes.
      next_is : ◌≡◌ {A = Stand} next (record { answer = added_to s.answer t (piece k); cells = added_to_cells s.answer t (piece k) })
      unfolding added_to added_to_cells
      next_is = λ i. record { answer = given next.answer s.answer refl g.none i; cells = given next.cells t refl g.none i }

  -- The sheet is opened and the pieces are added one by one.
  module _ (t : List ℕ) (sides : Inside from.width from.height side_max side_max) (table : cells_of from ≤ length t)
      (most : from.count ≤ pieces_max) where
    abbrev after : ℕ → Stand
    after k = begun from t k

    begins : Begun from 0 (after 0)
    unfolding added_all job_of by_index Gives open_refusals
    begins = by ((open_exactly from.width from.height t).0 (refl, refl))
      where
        by : {c : Changed} {l : List ℕ} → Opens from.width from.height t c l → Begun from 0 (record { answer = c; cells = l })
        by (Changes.accepted z e) =
            record {
              none = refl;
              is = refl;
              usable = record {
                range = new_in_range from.width from.height
                    (record { least = sides.width_least; most = sides.width_most }) (record { least = sides.height_least; most = sides.height_most });
                room = omega (arith, table, e.long);
              };
              cells = λ u w i. e.emptied u w i tt;
            }
        by (Changes.refused q) = absurd (⊎_elim (λ z. z.0 sides) (λ z. ⊎_elim (λ y. y.0 table) (λ y. omega (arith, y.1)) z.1) q)

    pub enters : (k : ℕ) → k ≤ from.count → Begun from k (after k) ⊎ BadPiece from (after k)
    unfolding added_all
    enters zero h = inl begins
    enters (suc k) h =
        ⊎_elim (λ g. subst (λ (s : Stand). Begun from (suc k) s ⊎ BadPiece from s) (next_is k (omega arith) most (after k) g)
        (added_next k (omega arith) most (after k) g))
        (λ b. inr (record { four = ap (λ (s : Stand). s.answer.refusal) (still (after k) _ (λ e. omega (arith, b.four))) ∙ b.four; why = b.why }))
        (enters k (omega arith))
