use mathlib.Core.Bool.{true, false}
use mathlib.Core.Path.{◌∙◌}
use native.Mathlib.Omega.{arith}
use Rattle.nodes.proofs.Rules.{on_line, on_P, on_S, on_other}
use Rattle.nodes.proofs.rule.by_letter.Goals as goal

-- `by_letter`: each letter has its rule.
pub returns-in-86 : goal.returns-in-86
returns-in-86 c = c.line_node.ensures ∙ on_line _ _ _ _ _ false c.crossed.ensures (omega arith)

pub returns-in-72 : goal.returns-in-72
returns-in-72 c = c.line_node-in-72.ensures ∙ on_line _ _ _ _ _ true c.crossed-in-72.ensures (omega arith)

pub returns-in-80 : goal.returns-in-80
returns-in-80 c = c.piece_node.ensures ∙ on_P _ _ _ _ _ (omega arith)

pub returns-in-83 : goal.returns-in-83
returns-in-83 c = c.scrap_node.ensures ∙ on_S _ _ _ _ _ (omega arith)

pub returns-in_default : goal.returns-in_default
returns-in_default c = on_other _ _ _ _ _ (λ e. omega arith) (λ e. omega arith) (λ e. omega arith) (λ e. omega arith)
