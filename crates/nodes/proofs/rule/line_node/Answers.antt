use Rattle.std.proofs.Common.{refl, arith}
use Rattle.nodes.proofs.Rules.{is_inside_says, kept}
use Rattle.nodes.proofs.rule.line_node.Goals as goal

-- `line_node`: kept inside the side.
pub returns : goal.returns
returns c =
    let inside = c.contains.ensures.cases in
    kept _ (is_inside_says _ _)
    (λ e. record { least = grind (arith, inside, e); most = grind (arith, inside, e); leaves = refl })
    (λ l. grind (arith, inside)) c.then_some.ensures
