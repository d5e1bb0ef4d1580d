-- Where the parts of a plan file lie: a file put together has its fields, and a file that is framed is put together of its parts.
use Prim.Native.Nat.{ℕ, ◌+◌, ◌-◌, ◌≤◌, ◌<◌}
use mathlib.Core.Path.{◌≡◌, refl, sym, ap, ◌∙◌}
use mathlib.Core.List.{List, [], ◌++◌, append_assoc, append-nil}
use native.Mathlib.Omega.{arith}
use native.Mathlib.Nat.{add-zero}
use lib.ListN.{length, take, drop, length-append, take-append-drop}
use lib.Seq.{take_at, drop_at, drop-drop, drop-length}
use Rattle.fields.specs.Number.{number4_of, bytes4, Bytes}
use Rattle.fields.proofs.Number.{bytes4-length, number4_behind, bytes4_number}
use Rattle.nodes.specs.Reads.{Found}
use Rattle.checker.specs.Fields.{trailer_at, field_at, block_distance, nodes_distance, stated_value, stated_sum, note_length, nodes_at, summed_bytes, block_bytes, before_trailer}
use Rattle.checker.specs.Checked.{Framed}

-- The front of a list and the rest.
pub taken : (l p q : List ℕ) (n : ℕ) → l ≡ p ++ q → length p ≡ n → take n l ≡ p
taken l p q n e h = ap (take n) e ∙ take_at p q n h

pub dropped : (l p q : List ℕ) (n : ℕ) → l ≡ p ++ q → length p ≡ n → drop n l ≡ q
dropped l p q n e h = ap (drop n) e ∙ drop_at p q n h

-- A note, a block, nodes, and a trailer of four numbers.
abbrev pub pointers_of : ℕ → ℕ → ℕ → List ℕ
pointers_of far near value = bytes4 far ++ (bytes4 near ++ bytes4 value)

abbrev pub layout : List ℕ → List ℕ → List ℕ → ℕ → ℕ → ℕ → ℕ → List ℕ
layout note block nodes far near value sum = note ++ (((block ++ nodes) ++ pointers_of far near value) ++ bytes4 sum)

module _ (note block nodes : List ℕ) (far near value sum : ℕ) where
  abbrev laid : List ℕ
  laid = layout note block nodes far near value sum

  abbrev front : List ℕ
  front = note ++ (block ++ nodes)

  pointers-length : length (pointers_of far near value) ≡ 12
  pointers-length = simp length-append (omega (arith, bytes4-length far, bytes4-length near, bytes4-length value))

  pub laid-length : length laid ≡ length note + (length block + length nodes) + 16
  laid-length = simp length-append (omega (arith, bytes4-length far, bytes4-length near, bytes4-length value, bytes4-length sum))

  front_length : length front ≡ length note + (length block + length nodes)
  front_length = simp length-append

  pub laid_trailer : trailer_at laid ≡ length note + (length block + length nodes)
  laid_trailer = omega (arith, laid-length)

  -- A number of the trailer, behind those that come before it.
  laid_number : (before after : List ℕ) (n place : ℕ) → laid ≡ (front ++ before) ++ (bytes4 n ++ after) → length before ≡ place → n < 4_294_967_296
      → field_at laid place ≡ n
  laid_number before after n place e h small =
      ap (λ (l : List ℕ). number4_of l (trailer_at laid + place)) e
      ∙ number4_behind (front ++ before) n _ _ (omega (arith, length-append front before, front_length, laid_trailer)) small

  module _ (small_far : far < 4_294_967_296) (small_near : near < 4_294_967_296) (small_value : value < 4_294_967_296) (small_sum : sum < 4_294_967_296) where
    pub laid_far : block_distance laid ≡ far
    laid_far = laid_number [] (bytes4 near ++ (bytes4 value ++ bytes4 sum)) far 0 (simp (append_assoc, append-nil)) refl small_far

    pub laid_near : nodes_distance laid ≡ near
    laid_near = laid_number (bytes4 far) (bytes4 value ++ bytes4 sum) near 4 (simp append_assoc) (bytes4-length far) small_near

    pub laid_value : stated_value laid ≡ value
    laid_value =
        let eight : length (bytes4 far ++ bytes4 near) ≡ 8 = omega (arith, length-append (bytes4 far) (bytes4 near), bytes4-length far, bytes4-length near) in
        laid_number (bytes4 far ++ bytes4 near) (bytes4 sum) value 8 (simp append_assoc) eight small_value

    pub laid-sum : stated_sum laid ≡ sum
    laid-sum = laid_number (pointers_of far near value) [] sum 12 (simp (append_assoc, append-nil)) pointers-length small_sum

    -- The places that they point back to.
    module _ (true-far : far ≡ length (block ++ nodes)) (true-near : near ≡ length nodes) where
      far-length : far ≡ length block + length nodes
      far-length = true-far ∙ length-append block nodes

      pub laid_note : note_length laid ≡ length note
      laid_note = omega (arith, laid_trailer, laid_far, far-length)

      pub laid_nodes : nodes_at laid ≡ length note + length block
      laid_nodes = omega (arith, laid_trailer, laid_near, true-near)

      behind_note : drop (note_length laid) laid ≡ ((block ++ nodes) ++ pointers_of far near value) ++ bytes4 sum
      behind_note = dropped laid note (((block ++ nodes) ++ pointers_of far near value) ++ bytes4 sum) (note_length laid) refl (sym laid_note)

      pub laid_summed : summed_bytes laid ≡ (block ++ nodes) ++ pointers_of far near value
      unfolding summed_bytes
      laid_summed =
          taken (drop (note_length laid) laid) ((block ++ nodes) ++ pointers_of far near value) (bytes4 sum) (block_distance laid + 12) behind_note
          (omega (arith, length-append (block ++ nodes) (pointers_of far near value), laid_far, true-far, pointers-length))

      pub laid_block : block_bytes laid ≡ block
      unfolding block_bytes
      laid_block =
          let after = nodes ++ (pointers_of far near value ++ bytes4 sum) in
          taken (drop (note_length laid) laid) block after (block_distance laid - nodes_distance laid) (behind_note ∙ simp append_assoc)
          (omega (arith, laid_far, laid_near, far-length, true-near))

      laid_before : before_trailer laid ≡ (note ++ block) ++ nodes
      laid_before =
          let e : laid ≡ front ++ (pointers_of far near value ++ bytes4 sum) = simp append_assoc in
          taken laid front (pointers_of far near value ++ bytes4 sum) (trailer_at laid) e (front_length ∙ sym laid_trailer) ∙ sym (append_assoc note block nodes)

      pub laid_found : Found (before_trailer laid) (nodes_at laid) nodes (trailer_at laid)
      laid_found =
          let both : length ((note ++ block) ++ nodes) ≡ trailer_at laid =
          omega (arith, length-append (note ++ block) nodes, length-append note block, laid_trailer) in
          let all = laid_before ∙ sym (append-nil ((note ++ block) ++ nodes)) in
          let last : drop (trailer_at laid) (before_trailer laid) ≡ [] = dropped (before_trailer laid) ((note ++ block) ++ nodes) [] (trailer_at laid) all both in
          record {
            place = omega (arith, laid_trailer, laid_nodes);
            bytes = dropped (before_trailer laid) (note ++ block) nodes (nodes_at laid) laid_before (length-append note block ∙ sym laid_nodes)
                ∙ (sym (append-nil nodes) ∙ ap (λ (l : List ℕ). nodes ++ l) (sym last));
          }

-- A file whose two distances lie in order is put together of its parts.
module _ (file : List ℕ) (bytes : Bytes file) (framed : Framed file) (order : nodes_distance file ≤ block_distance file) where
  -- The bytes from the first node up to the trailer.
  abbrev node_bytes : List ℕ
  node_bytes = take (nodes_distance file) (drop (nodes_at file) file)

  -- A part of the file, and what follows.
  follows : (at n next : ℕ) → next ≡ at + n → drop at file ≡ take n (drop at file) ++ drop next file
  follows at n next e =
      sym (take-append-drop n (drop at file))
      ∙ ap (λ (l : List ℕ). take n (drop at file) ++ l) (drop-drop n at file ∙ ap (λ (k : ℕ). drop k file) (sym e))

  -- A number of the trailer, and what follows.
  field_follows : (place next : ℕ) → next ≡ place + 4 → next ≤ 16
      → drop (trailer_at file + place) file ≡ bytes4 (field_at file place) ++ drop (trailer_at file + next) file
  field_follows place next e h =
      let least : 25 ≤ length file = framed.least in
      follows (trailer_at file + place) 4 (trailer_at file + next) (omega arith)
      ∙ ap (λ (l : List ℕ). l ++ drop (trailer_at file + next) file) (sym (bytes4_number file (trailer_at file + place) bytes (omega arith)))

  trailer_parts : drop (trailer_at file) file
      ≡ bytes4 (block_distance file) ++ (bytes4 (nodes_distance file) ++ (bytes4 (stated_value file) ++ (bytes4 (stated_sum file) ++ [])))
  trailer_parts =
      let least : 25 ≤ length file = framed.least in
      let all : trailer_at file + 16 ≡ length file = omega arith in
      let end : drop (trailer_at file + 16) file ≡ [] = ap (λ (k : ℕ). drop k file) all ∙ drop-length file in
      sym (ap (λ (k : ℕ). drop k file) (add-zero (trailer_at file)))
      ∙ (field_follows 0 4 refl (omega arith)
      ∙ rw (field_follows 4 8 refl (omega arith), field_follows 8 12 refl (omega arith), field_follows 12 16 refl (omega arith), end))

  pub laid_out_lem : file
      ≡ layout (take (note_length file) file) (block_bytes file) node_bytes (block_distance file) (nodes_distance file) (stated_value file) (stated_sum file)
  unfolding block_bytes
  laid_out_lem =
      let note = take (note_length file) file in
      let block = take (block_distance file - nodes_distance file) (drop (note_length file) file) in
      let b : drop (note_length file) file ≡ block ++ drop (nodes_at file) file =
      follows (note_length file) (block_distance file - nodes_distance file) (nodes_at file) (omega (arith, framed.inside)) in
      let n : drop (nodes_at file) file ≡ node_bytes ++ drop (trailer_at file) file =
      follows (nodes_at file) (nodes_distance file) (trailer_at file) (omega (arith, framed.inside)) in
      let nodes = n ∙ ap (λ (l : List ℕ). node_bytes ++ l) trailer_parts in
      (sym (take-append-drop (note_length file) file) ∙ ap (λ (l : List ℕ). note ++ l) (b ∙ ap (λ (l : List ℕ). block ++ l) nodes))
      ∙ simp (append_assoc, append-nil)
