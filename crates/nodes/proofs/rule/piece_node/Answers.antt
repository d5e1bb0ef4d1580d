use mathlib.Core.Path.{sym}
use native.Mathlib.Omega.{arith}
use Rattle.laws.proofs.Choice.{chosen, not_chosen}
use Rattle.nodes.proofs.Rules.{is_piece_says}
use Rattle.nodes.proofs.Entries.{entry_numbered, entry_last, entry_width, entry_height}
use Rattle.nodes.proofs.rule.piece_node.Goals as goal

-- `piece_node`: kept where the number's entry is of this size.
pub returns-then-k-eq0 : goal.returns-then-k-eq0
returns-then-k-eq0 c = sym (not_chosen (is_piece_says _ _ _ _) _ _ (λ n. omega arith))

pub returns-then-k-last : goal.returns-then-k-last
returns-then-k-last c = sym (not_chosen (is_piece_says _ _ _ _) _ _ (λ n. omega (arith, entry_last _ n)))

pub returns-then-from-width : goal.returns-then-from-width
returns-then-from-width c = sym (not_chosen (is_piece_says _ _ _ _) _ _ (λ n. omega (arith, entry_width _ n c.piece-piece.ensures.width (omega arith))))

pub returns-then-from-height : goal.returns-then-from-height
returns-then-from-height c = sym (not_chosen (is_piece_says _ _ _ _) _ _ (λ n. omega (arith, entry_height _ n c.piece-piece.ensures.height (omega arith))))

pub returns : goal.returns
returns c =
    let wide = c.piece-piece.ensures.width in
    sym (chosen (is_piece_says _ _ _ _) _ _
    (entry_numbered _ (omega arith) (omega arith) wide (omega arith) (omega arith) c.piece-piece.ensures.height (omega arith) (omega arith)))
