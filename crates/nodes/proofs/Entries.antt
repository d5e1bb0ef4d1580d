-- The pieces that stand on a board, by their numbers.
use Prim.Native.Nat.{ℕ, ◌-◌, ◌≤◌}
use mathlib.Core.Path.{◌≡◌, refl, sym, ap, ◌∙◌}
use native.Mathlib.Omega.{arith}
use lib.ListN.{length}
use Rattle.laws.proofs.ByIndex.{by_index_at, by_index-length}
use Rattle.cutting.specs.Piece.{Piece, sized, no_piece, piece_at, Numbered}
use Rattle.board.specs.declared.Board.{Board}
use Rattle.board.specs.Inner.{count_on, width_at, height_at, value_at, pieces_on}

module _ (board : Board) where
  pub entries-length : length (pieces_on board) ≡ count_on board
  unfolding pieces_on
  entries-length = by_index-length _ (count_on board)

  pub few_on : {most : ℕ} → length (pieces_on board) ≤ most → count_on board ≤ most
  few_on h = omega (arith, entries-length)

  entry_at : {k : ℕ} → 1 ≤ k → k ≤ count_on board
      → piece_at (pieces_on board) k ≡ sized (width_at board (k - 1)) (height_at board (k - 1)) (value_at board (k - 1))
  unfolding pieces_on piece_at
  entry_at {k} h l = by_index_at _ (count_on board) (k - 1) no_piece (omega arith)

  -- A number's piece, by what was read at its index.
  pub entry_numbered : {k i j p q r s : ℕ} → 1 ≤ k → k ≤ count_on board → r ≡ width_at board i → i ≡ k - 1 → r ≡ p → s ≡ height_at board j → j ≡ k - 1 → s ≡ q
      → Numbered (pieces_on board) k p q (piece_at (pieces_on board) k).value
  entry_numbered h l a i b d j e =
      let at = entry_at h l in
      record {
        first = h;
        last = omega (arith, entries-length);
        width = ap (λ (w : Piece). w.width) at ∙ (sym (a ∙ ap (width_at board) i) ∙ b);
        height = ap (λ (w : Piece). w.height) at ∙ (sym (d ∙ ap (height_at board) j) ∙ e);
        value = refl;
      }

  module _ {k p q v : ℕ} (n : Numbered (pieces_on board) k p q v) where
    pub entry_last : k ≤ count_on board
    entry_last = omega (arith, entries-length, n.last)

    pub entry_width : {i r : ℕ} → r ≡ width_at board i → i ≡ k - 1 → r ≡ p
    entry_width e j = e ∙ (ap (width_at board) j ∙ (sym (ap (λ (w : Piece). w.width) (entry_at n.first entry_last)) ∙ n.width))

    pub entry_height : {i r : ℕ} → r ≡ height_at board i → i ≡ k - 1 → r ≡ q
    entry_height e j = e ∙ (ap (height_at board) j ∙ (sym (ap (λ (w : Piece). w.height) (entry_at n.first entry_last)) ∙ n.height))

    pub entry_value : {i r w : ℕ} → w ≡ r → r ≡ value_at board i → i ≡ k - 1 → w ≡ (piece_at (pieces_on board) k).value
    entry_value d e j = d ∙ (e ∙ (ap (value_at board) j ∙ sym (ap (λ (p : Piece). p.value) (entry_at n.first entry_last))))
