-- Each number is given exactly when the list says, and a file is accepted exactly when no number is.
use Prim.Native.Nat.{ℕ, ◌+◌, ◌-◌, ◌≤◌, ◌<◌}
use mathlib.Core.Bool.{true}
use mathlib.Core.Path.{◌≡◌, refl, sym, ap, subst, ◌∙◌}
use Rattle.std.proofs.Common.{Option, Some, None}
use Rattle.std.proofs.lemmas.Option.{none-some}
use mathlib.Core.Logic.{◌⊎◌, inl, inr, ◌↔◌}
use mathlib.Core.List.{List}
use native.Mathlib.Omega.{arith}
use lib.ListN.{length, get_or, take, drop, length-take, length-drop, get_or-eq_default}
use lib.Seq.{get_or-take, get_or-drop}
use Rattle.laws.proofs.Says.{says_no, says_eq}
use Rattle.laws.proofs.Choice.{either_way}
use Rattle.laws.proofs.ByIndex.{by_index-length}
use Rattle.laws.proofs.Order.{le_or_lt}
use Rattle.fields.specs.Number.{number2_of, Bytes}
use Rattle.job.specs.declared.Job.{Job}
use Rattle.job.specs.Job.{pieces_of, job_of}
use Rattle.job.specs.Range.{JobInRange}
use Rattle.job.specs.Block.{job_in, piece_in, count_in}
use Rattle.job.specs.Inner.{from_block, block_shape}
use Rattle.job.proofs.Pieces.{pieces-length}
use Rattle.job.proofs.Blocks.{shape_says}
use Rattle.nodes.specs.declared.Tally.{Tally}
use Rattle.nodes.specs.Reads.{ReadAs}
use Rattle.nodes.specs.Inner.{Part, read_of}
use Rattle.nodes.proofs.Exactly.{exactly}
use Rattle.nodes.proofs.Own.{never_read, place_same}
use Rattle.checker.specs.Fields.{trailer_at, block_distance, nodes_distance, stated_value, note_length, nodes_at, block_bytes, before_trailer, job_at, count_at}
use Rattle.checker.specs.Checked.{Checked, Framed, whole_sheet}
use Rattle.checker.specs.Inner.{sum_agrees, agreed, nodes_read, leaves_of, valued, judged, judged_job, checked}
use Rattle.checker.specs.Given.{SumTrue, JobFits, NodesObey, Given}
use Rattle.checker.proofs.Stages.{framed_says, sum_says, agreed_tells, agreed_found, leaves_none, leaves_left, leaves_read, judged_none, judged_value, judged_yes, refuses_9, refuses_10, refuses_11, judges}

pub bytes_take : (n : ℕ) (s : List ℕ) → Bytes s → Bytes (take n s)
bytes_take n s b k = go (le_or_lt n k)
  where
    go : (n ≤ k) ⊎ (k < n) → get_or (take n s) k 0 < 256
    go (inl h) = omega (arith, get_or-eq_default (take n s) 0 {n = k} (omega (arith, length-take n s)))
    go (inr h) = omega (arith, get_or-take n s k 0 h, b k)

pub bytes_drop : (n : ℕ) (s : List ℕ) → Bytes s → Bytes (drop n s)
bytes_drop n s b k = omega (arith, get_or-drop n s k 0, b (n + k))

-- n, as the block's bytes and as the file have it.
count_same : (file : List ℕ) → 6 ≤ block_distance file - nodes_distance file → count_in (block_bytes file) ≡ count_at file
unfolding block_bytes count_at number2_of
count_same file h =
    let n = block_distance file - nodes_distance file in
    let m = note_length file in
    let low : get_or (take n (drop m file)) 4 0 ≡ get_or file (m + 4) 0 = get_or-take n (drop m file) 4 0 (omega arith) ∙ get_or-drop m file 4 0 in
    let high : get_or (take n (drop m file)) 5 0 ≡ get_or file (m + 4 + 1) 0 =
    get_or-take n (drop m file) 5 0 (omega arith) ∙ (get_or-drop m file 5 0 ∙ ap (λ (k : ℕ). get_or file k 0) (omega arith)) in
    omega arith

pub block_bytes-length : (file : List ℕ) → Framed file → length (block_bytes file) ≡ block_distance file - nodes_distance file
unfolding block_bytes
block_bytes-length file f =
    omega (arith, length-take (block_distance file - nodes_distance file) (drop (note_length file) file), length-drop (note_length file) file, f.inside, f.least)

job_in_count : (s : List ℕ) → (job_in s).count ≡ count_in s
unfolding job_in job_of
job_in_count s = by_index-length (piece_in s) (count_in s)

-- Stage 11 passes on the job exactly when the job block is in range and D1 is 6 + 6n + D2.
module _ (file : List ℕ) (f : Framed file) where
  fits_tells : {job : Job} → agreed (from_block (block_bytes file)) ≡ Some job → JobFits file × (job ≡ job_at file)
  unfolding job_at
  fits_tells e =
      let a = agreed_tells file e in
      let n = block_bytes-length file f in
      let c = count_same file (omega (arith, a.shape.head)) in
      (record { range = subst JobInRange a.same a.range; distances = omega (arith, a.shape.whole, a.shape.head) }, a.same)

  pub fits_shape : JobFits file → block_shape (block_bytes file) ≡ true
  unfolding job_at
  fits_shape j =
      let n = block_bytes-length file f in
      let c = count_same file (omega (arith, j.distances)) in
      let count = job_in_count (block_bytes file) ∙ c in
      (shape_says (block_bytes file)).found (record { head = omega arith; most = omega (arith, count, j.range.count_most); whole = omega (arith, j.distances) })

  pub fits_found : JobFits file → agreed (from_block (block_bytes file)) ≡ Some (job_at file)
  unfolding job_at
  fits_found j = agreed_found (block_bytes file) (fits_shape j) j.range

  fits_no : (JobFits file → ⊥) → agreed (from_block (block_bytes file)) ≡ None
  fits_no n = go (agreed (from_block (block_bytes file))) refl
    where
      go : (o : Option Job) → agreed (from_block (block_bytes file)) ≡ o → o ≡ None
      go None e = refl
      go (Some job) e = absurd (n (fits_tells e).0)

-- Stage 12's reader accepts exactly the nodes that obey.
module _ (file : List ℕ) (bytes : Bytes file) (j : JobFits file) where
  abbrev job : Job
  job = job_at file

  pub nodes_exactly : (next : ℕ) (t : Tally)
      → (nodes_read file job ≡ Part.Read next t) ↔ ReadAs (pieces_of job) (before_trailer file) (whole_sheet job (nodes_at file)) next t
  unfolding nodes_read
  nodes_exactly next t =
      exactly (pieces_of job) (before_trailer file) (whole_sheet job (nodes_at file)) (omega (arith, pieces-length job, j.range.count_most))
      (omega (arith, j.range.width_most)) (omega (arith, j.range.height_most)) (bytes_take (trailer_at file) file bytes) next t

-- The answer is given by the list.
module _ (file : List ℕ) (bytes : Bytes file) where
  judged_given : Framed file → SumTrue file → (j : JobFits file) → (q : Part) → nodes_read file (job_at file) ≡ q → Given file (judged file q)
  unfolding leaves_of valued
  judged_given f s j Part.Broken e =
      Given.twelve f s j (λ t o. never_read (sym e ∙ (nodes_exactly file bytes j (trailer_at file) t).1 o))
  judged_given f s j (Part.Read n t) e =
      either_way (λ (o : Option Tally). Given file (valued file o)) (says_eq n (trailer_at file)) _ _
      (λ d.
      let o = (nodes_exactly file bytes j (trailer_at file) t).0 (e ∙ ap (λ (k : ℕ). Part.Read k t) d) in
      either_way (Given file) (says_eq t.value (stated_value file)) _ _ (λ v. Given.accepted f s j o v) (λ v. Given.thirteen f s j o v))
      (λ d. Given.twelve f s j (λ u o. d (place_same (sym e ∙ (nodes_exactly file bytes j (trailer_at file) u).1 o))))

  job_given : Framed file → SumTrue file → (o : Option Job) → agreed (from_block (block_bytes file)) ≡ o → Given file (judged_job file o)
  unfolding judged_job
  job_given f s None e = Given.eleven f s (λ j. none-some (job_at file) (sym e ∙ fits_found file f j))
  job_given f s (Some job) e =
      let j = fits_tells file f e in
      judged_given f s j.0 (nodes_read file job) (ap (nodes_read file) (sym j.1))

  pub given : Given file (checked file)
  unfolding checked
  given =
      either_way (Given file) (framed_says file) _ _ (λ f. either_way (Given file) (sum_says file) _ _ (λ s. job_given f s _ refl) (λ n. Given.ten f n))
      (λ n. Given.nine n)

  sum_true : SumTrue file → true ≡ sum_agrees file
  sum_true s = sym ((sum_says file).found s)

  -- What was read, where it is refused with 12: not up to the trailer.
  broken : (j : JobFits file) → ((t : Tally) → NodesObey file t → ⊥) → (q : Part) → nodes_read file (job_at file) ≡ q → leaves_of file q ≡ None
  unfolding read_of
  broken j n Part.Broken e = sym (leaves_none file Part.Broken refl)
  broken j n (Part.Read k t) e =
      sym (leaves_left file (Part.Read k t) refl (λ d. n t ((nodes_exactly file bytes j (trailer_at file) t).0 (e ∙ ap (λ (m : ℕ). Part.Read m t) d))))

  -- Where the list gives an answer, it is check's.
  pub only : {r : Checked} → Given file r → r ≡ checked file
  only (Given.nine n) = refuses_9 file n
  only (Given.ten f n) = refuses_10 file f (sym (says_no (sum_says file) n))
  only (Given.eleven f s n) = refuses_11 file f (sum_true s) (fits_no file f n)
  only (Given.twelve f s j n) =
      judges file f (sum_true s) (fits_found file f j) (judged_none file _ (broken j n (nodes_read file (job_at file)) refl))
  only (Given.thirteen {t} f s j o v) =
      judges file f (sum_true s) (fits_found file f j)
      (judged_value file _ (leaves_read file ((nodes_exactly file bytes j (trailer_at file) t).1 o)) v)
  only (Given.accepted {t} f s j o v) =
      judges file f (sum_true s) (fits_found file f j)
      (judged_yes file _ (leaves_read file ((nodes_exactly file bytes j (trailer_at file) t).1 o)) v refl)

  -- When each answer is given, exactly: the refusals (rules 7.9 to 7.13) and the accepted ones (rule 8.11).
  pub given_exactly : (r : Checked) → (checked file ≡ r) ↔ Given file r
  given_exactly r = (λ e. subst (Given file) e given, λ g. sym (only g))
