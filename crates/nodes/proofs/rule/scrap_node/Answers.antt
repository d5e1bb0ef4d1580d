use Rattle.std.proofs.Common.{arith}
use Rattle.laws.proofs.Says.{says_eq}
use Rattle.nodes.proofs.Rules.{kept}
use Rattle.nodes.proofs.rule.scrap_node.Goals as goal

-- `scrap_node`: kept with the number 0.
pub returns : goal.returns
returns c = kept _ (says_eq c.args.number 0) (λ e. let z = (says_eq _ 0).means e in omega arith) (λ z. (says_eq _ 0).found (omega arith)) c.then_some.ensures
