use Rattle.std.proofs.Common.{rules, ◌≡◌, ◌∙◌, true, false, arith}
use Rattle.std.proofs.lemmas.Iterator.{cases_from_all, YieldsList-from_slice}
use Rattle.job.specs.Inner.{piece_in_range}
use Rattle.job.proofs.Range.{all_pieces}
use Rattle.job.proofs.Job.pieces_in_range.Goals as goal

-- `Job::pieces_in_range` meets its contract.
pub returns : goal.returns
returns c =
    all_pieces c.args.self.now (omega (arith, c.requires))
    (cases_from_all _ _ _ (λ p. piece_in_range p ≡ true) (λ p. piece_in_range p ≡ false) c.all.ensures.ran
    (YieldsList-from_slice _ (c.iter.ensures.rest ∙ c.pieces.ensures.records)) (λ x q k. search rules) (λ x q k. search rules))
