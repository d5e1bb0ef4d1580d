use mathlib.Core.Path.{refl, ◌∙◌}
use native.Mathlib.Omega.{arith}
use Rattle.nodes.proofs.Rules.{node_short, node_whole}
use Rattle.nodes.proofs.Nodes.node_at.Goals as goal

-- `node_at`: whole, and judged by its letter.
pub returns-then-self-lt-NODE_LENGTH : goal.returns-then-self-lt-NODE_LENGTH
returns-then-self-lt-NODE_LENGTH c = node_short _ _ _ (omega arith)

pub returns-then-self-at : goal.returns-then-self-at
returns-then-self-at c = node_short _ _ _ (omega arith)

pub returns : goal.returns
returns c =
    c.by_letter.ensures ∙ node_whole _ _ _ (record { whole = omega arith; letter = refl; number = c.read.ensures })
