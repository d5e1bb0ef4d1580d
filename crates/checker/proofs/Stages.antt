-- Each stage of the check: what its test says, and the answer where it refuses and where it passes.
use Prim.Native.Nat.{ℕ, ◌+◌, ◌-◌, ◌*◌, ◌≤◌}
use mathlib.Core.Bool.{Bool, true, false}
use mathlib.Core.Path.{◌≡◌, refl, sym, ap, ap₂, subst, ◌∙◌}
use Rattle.std.proofs.Common.{Option, MatchOption, cond, Some, None}
use Rattle.std.specs.Bool.{then_some}
use Rattle.std.proofs.lemmas.Option.{cond_some, none-some}
use mathlib.Core.List.{List}
use native.Mathlib.Omega.{arith}
use native.Mathlib.Nat.{mul-le-mul}
use lib.Dec.{leb, eqb}
use lib.ListN.{length, take, drop, length-take}
use Rattle.laws.specs.Inner.{Says}
use Rattle.laws.proofs.Says.{says_no, says_and, says_le, says_eq, says_iff}
use Rattle.laws.proofs.Tests.{fact_yes}
use Rattle.cutting.specs.Limits.{side_max}
use Rattle.cutting.specs.Piece.{Piece}
use Rattle.fields.specs.Number.{number4_of}
use Rattle.fields.specs.Sum.{sum_of}
use Rattle.job.specs.declared.Job.{Job}
use Rattle.job.specs.Job.{pieces_of}
use Rattle.job.specs.Range.{JobInRange}
use Rattle.job.specs.Inner.{job_in_range, from_block, block_shape}
use Rattle.job.specs.Block.{job_in, BlockShape}
use Rattle.job.proofs.Range.{job_says}
use Rattle.job.proofs.Blocks.{shape_says}
use Rattle.board.specs.declared.Board.{Board}
use Rattle.board.specs.Inner.{pieces_on, pieces_board}
use Rattle.board.proofs.Holds.{pieces_read}
use Rattle.nodes.specs.declared.Tally.{Tally}
use Rattle.nodes.specs.Reads.{frame}
use Rattle.nodes.specs.Inner.{Part, part_at, no_leaves, read_of, MayRead}
use Rattle.nodes.specs.declared.Reading.{Reading}
use Rattle.nodes.proofs.Answers.{read_back, broken_back}
use Rattle.refusals.specs.Refusals.{not_framed, sum_differs, job_out_of_range, nodes_broken, value_differs}
use Rattle.fields.specs.Format.{file_least, file_most, distance_least}
use Rattle.checker.specs.Fields.{trailer_at, block_distance, nodes_distance, stated_value, stated_sum, note_length, nodes_at, summed_bytes, block_bytes}
use Rattle.checker.specs.Checked.{Checked, Framed}
use Rattle.checker.specs.Inner.{framed, sum_agrees, agreed, nodes_read, leaves_of, valued, judged, judged_job, checked}

-- 9
pub framed_says : (file : List ℕ) → Says (framed file) (Framed file)
unfolding framed
framed_says file =
    says_iff (λ h. record { least = h.0; most = h.1.0; distance = h.1.1.0; inside = h.1.1.1 }, λ f. (f.least, (f.most, (f.distance, f.inside))))
    (says_and (says_le file_least (length file)) (says_and (says_le (length file) file_most)
    (says_and (says_le distance_least (block_distance file)) (says_le (block_distance file) (trailer_at file)))))

pub framed_last : (file : List ℕ) {d at : ℕ} → file_least ≤ length file → length file ≤ file_most → distance_least ≤ d → d ≡ block_distance file
    → at ≡ trailer_at file → leb d at ≡ framed file
unfolding framed
framed_last file least most h e f =
    let near : distance_least ≤ block_distance file = omega arith in
    fact_yes (says_le _ _) least (fact_yes (says_le _ _) most (fact_yes (says_le _ _) near (ap₂ leb e f)))

-- 10
pub sum_says : (file : List ℕ) → Says (sum_agrees file) (sum_of (summed_bytes file) ≡ stated_sum file)
unfolding sum_agrees
sum_says file = says_eq _ _

pub sum_done : (file : List ℕ) {start end s t : ℕ} → Framed file → start ≡ note_length file → end ≡ length file - 4
    → s ≡ sum_of (take (end - start) (drop start file)) → t ≡ number4_of file end → eqb s t ≡ sum_agrees file
unfolding sum_agrees summed_bytes
sum_done file {start} {end} f e d g h =
    let part : end - start ≡ block_distance file + 12 = omega arith in
    let place : end ≡ trailer_at file + 12 = omega arith in
    ap₂ eqb (g ∙ ap₂ (λ (n k : ℕ). sum_of (take n (drop k file))) part e) (h ∙ ap (number4_of file) place)

-- 11
pub block_done : (file : List ℕ) {start end : ℕ} → start ≡ note_length file → end ≡ note_length file + (block_distance file - nodes_distance file)
    → take (end - start) (drop start file) ≡ block_bytes file
unfolding block_bytes
block_done file {start} {end} e d =
    let part : end - start ≡ block_distance file - nodes_distance file = omega arith in
    ap₂ (λ (n k : ℕ). take n (drop k file)) part e

-- What stage 11 passes on.
pub record Agreed (file : List ℕ) (job : Job) : Type 0 where
  pub shape : BlockShape (block_bytes file)
  pub same : job ≡ job_in (block_bytes file)
  pub range : JobInRange job
  pub behind : Framed file → nodes_distance file ≤ trailer_at file

pub agreed_tells : (file : List ℕ) {job : Job} → agreed (from_block (block_bytes file)) ≡ Some job → Agreed file job
unfolding agreed from_block block_bytes
agreed_tells file {job} h = go (block_shape (block_bytes file)) refl
  where
    go : (b : Bool) → block_shape (block_bytes file) ≡ b → Agreed file job
    go true e =
        let s = block_bytes file in
        let both = cond_some (job_in_range (job_in s)) (job_in s) job (rw e at h) in
        let shape = (shape_says s).means e in
        record {
          shape = shape;
          same = sym both.1;
          range = subst JobInRange both.1 ((job_says (job_in s)).means both.0);
          behind = λ f. omega (arith, shape.head, f.inside, length-take (block_distance file - nodes_distance file) (drop (note_length file) file));
        }
    go false e = absurd (none-some job (rw e at h))

pub filtered : (o r : Option Job) {P : Job → Bool → Type 0} → ((x : Job) (b : Bool) → P x b → b ≡ job_in_range x)
    → MatchOption o (r ≡ None) (λ x. (b : Bool) × P x b × (r ≡ then_some b x)) → r ≡ agreed o
unfolding agreed
filtered None r h e = e
filtered (Some job) r h (b, p, e) = e ∙ (ap (λ (t : Bool). then_some t job) (h job b p) ∙ by (job_in_range job))
  where
    by : (t : Bool) → then_some t job ≡ cond t (Some job) None
    by true = refl
    by false = refl

pub agreed_found : (s : List ℕ) → block_shape s ≡ true → JobInRange (job_in s) → agreed (from_block s) ≡ Some (job_in s)
unfolding agreed from_block
agreed_found s e r = rw (e, (job_says (job_in s)).found r)

-- 12: on the board of a job in range stand its pieces, and the reader's premises hold.
pub on_board : (job : Job) {board : Board} → JobInRange job → board ≡ pieces_board job → pieces_on board ≡ pieces_of job
on_board job r e = ap pieces_on e ∙ pieces_read job r.count_most

pub may_read : (job : Job) {board : Board} {w h : ℕ} → JobInRange job → board ≡ pieces_board job → w ≡ job.width → h ≡ job.height
    → MayRead (pieces_on board) w h no_leaves
may_read job {board} {w} {h} r e f g =
    let wide : w ≤ side_max = omega (arith, r.width_most) in
    let high : h ≤ side_max = omega (arith, r.height_most) in
    let area : w * h ≤ side_max * side_max = mul-le-mul wide high in
    subst (λ (l : List Piece). MayRead l w h no_leaves) (sym (on_board job r e))
    (record {
      range = r.pieces;
      wide = omega (arith, r.width_least);
      high = omega (arith, r.height_least);
      room = record { value = omega (arith, area); pieces = omega (arith, area); scrap = omega (arith, area) };
    })

pub nodes_done : (file : List ℕ) (job : Job) {pieces : List Piece} {at start w h : ℕ} → pieces ≡ pieces_of job → at ≡ trailer_at file → start ≡ nodes_at file
    → w ≡ job.width → h ≡ job.height → part_at pieces (take at file) (frame start w h) ≡ nodes_read file job
unfolding nodes_read
nodes_done file job e f g i j = λ k. part_at (e k) (take (f k) file) (frame (g k) (i k) (j k))

-- The same, as `leaves` comes to it.
pub nodes_told : (file : List ℕ) (job : Job) {board : Board} {at near start w h : ℕ} → JobInRange job → board ≡ pieces_board job → at ≡ trailer_at file
    → near ≡ nodes_distance file → start ≡ at - near → w ≡ job.width → h ≡ job.height
    → part_at (pieces_on board) (take at file) (frame start w h) ≡ nodes_read file job
nodes_told file job r set e f g = nodes_done file job (on_board job r set) e (g ∙ ap₂ ◌-◌ e f)

-- 12 and 13, by what was read.
pub leaves_none : (file : List ℕ) (q : Part) → None ≡ read_of q → None ≡ leaves_of file q
unfolding leaves_of
leaves_none file q e = ap (leaves_of file) (broken_back q e)

pub leaves_left : (file : List ℕ) (q : Part) {r : Reading} → Some r ≡ read_of q → (r.at ≡ trailer_at file → ⊥) → None ≡ leaves_of file q
unfolding leaves_of
leaves_left file q e h = rw (← read_back q e, says_no (says_eq _ _) h)

pub leaves_some : (file : List ℕ) (q : Part) {r : Reading} → Some r ≡ read_of q → r.at ≡ trailer_at file → Some r.leaves ≡ leaves_of file q
unfolding leaves_of
leaves_some file q e h = rw (← read_back q e, (says_eq _ _).found h)

pub leaves_read : (file : List ℕ) {q : Part} {t : Tally} → q ≡ Part.Read (trailer_at file) t → leaves_of file q ≡ Some t
unfolding leaves_of
leaves_read file e = rw (e, (says_eq (trailer_at file) (trailer_at file)).found refl)

pub judged_none : (file : List ℕ) (q : Part) → leaves_of file q ≡ None → Checked.Refused nodes_broken ≡ judged file q
unfolding valued
judged_none file q e = rw e

pub judged_value : (file : List ℕ) (q : Part) {t : Tally} → leaves_of file q ≡ Some t → (t.value ≡ stated_value file → ⊥)
    → Checked.Refused value_differs ≡ judged file q
unfolding valued
judged_value file q e h = rw (e, says_no (says_eq _ _) h)

pub judged_yes : (file : List ℕ) (q : Part) {note : ℕ} {t : Tally} → leaves_of file q ≡ Some t → t.value ≡ stated_value file
    → note ≡ note_length file → Checked.Accepted t.value note t.pieces t.scrap ≡ judged file q
unfolding valued
judged_yes file q {t = t} e h k = rw (e, (says_eq _ _).found h, k)

-- The chain, by its stages.
pub refuses_9 : (file : List ℕ) → (Framed file → ⊥) → Checked.Refused not_framed ≡ checked file
unfolding checked
refuses_9 file n = rw (says_no (framed_says file) n)

pub refuses_10 : (file : List ℕ) → Framed file → false ≡ sum_agrees file → Checked.Refused sum_differs ≡ checked file
unfolding checked
refuses_10 file f d = rw ((framed_says file).found f, ← d)

pub refuses_11 : (file : List ℕ) → Framed file → true ≡ sum_agrees file → agreed (from_block (block_bytes file)) ≡ None
    → Checked.Refused job_out_of_range ≡ checked file
unfolding checked judged_job
refuses_11 file f d g = rw ((framed_says file).found f, ← d, g)

pub judges : (file : List ℕ) {job : Job} {r : Checked} → Framed file → true ≡ sum_agrees file
    → agreed (from_block (block_bytes file)) ≡ Some job → r ≡ judged file (nodes_read file job) → r ≡ checked file
unfolding checked judged_job
judges file f d g i = rw ((framed_says file).found f, ← d, g) i
