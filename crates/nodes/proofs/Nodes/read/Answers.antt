use mathlib.Core.Path.{◌∙◌}
use Rattle.nodes.specs.Inner.{tally}
use Rattle.nodes.proofs.Answers.{was_first, none_first}
use Rattle.nodes.proofs.Nodes.read.Goals as goal

-- `read`: what the reader answers, from no leaf on.
pub returns-in_err-read_part : goal.returns-in_err-read_part
returns-in_err-read_part c = c.from_residual.ensures ∙ none_first _ c.in_err-read_part.ensures

pub returns : goal.returns
returns c =
    let none = c.default.ensures in
    was_first _ (λ i. tally (none.0 i) (none.1.0 i) (none.1.1 i)) c.in_ok-read_part.ensures
