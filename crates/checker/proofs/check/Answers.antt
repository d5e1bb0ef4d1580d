use Rattle.std.proofs.Common.{arith, sym, ◌∙◌, ap}
use Rattle.std.proofs.lemmas.Option.{MatchOption-at_none, MatchOption-at_some}
use Rattle.std.proofs.lemmas.Result.{err_from_is_err_and}
use Rattle.refusals.proofs.Numbers.{refused_with}
use Rattle.checker.specs.Inner.{checked}
use Rattle.checker.proofs.Stages.{agreed_tells, refuses_9, refuses_10, refuses_11, judges, judged_none, judged_value, judged_yes}
use Rattle.checker.proofs.check.Goals as goal

-- `check` meets its contract.
pub returns-in_err-trailer : goal.returns-in_err-trailer
returns-in_err-trailer c =
    let p = err_from_is_err_and c.from_residual.result c.from_residual.ensures.1 in
    let no = c.in_err-trailer.ensures in
    rw (p.1, p.2, refused_with _ no.value) (refuses_9 _ (MatchOption-at_none _ _ no.ok_part c.of.ensures))

pub returns-then-not-sum_agrees : goal.returns-then-not-sum_agrees
returns-then-not-sum_agrees c =
    let trailer = c.in_ok-trailer.trailer in
    refuses_10 _ trailer.framed c.if-not-sum_agrees.ensures ∙ ap checked (MatchOption-at_some _ _ _ c.in_ok-trailer.ensures.ok_part c.of.ensures)

pub returns-in_err-job : goal.returns-in_err-job
returns-in_err-job c =
    let p = err_from_is_err_and c.from_residual-in_err-job.result c.from_residual-in_err-job.ensures.1 in
    let no = c.in_err-job.ensures in
    let same = MatchOption-at_some _ _ _ c.in_ok-trailer.ensures.ok_part c.of.ensures in
    rw (p.1, p.2, refused_with _ no.value)
    (refuses_11 _ c.in_ok-trailer.trailer.framed c.if-not-sum_agrees.ensures (sym c.job.ensures ∙ no.ok_part) ∙ ap checked same)

pub leaves-requires : goal.leaves-requires
leaves-requires c = (agreed_tells _ (sym c.job.ensures ∙ c.in_ok-job.ensures.ok_part)).range

pub returns-in_err-leaves : goal.returns-in_err-leaves
returns-in_err-leaves c =
    let p = err_from_is_err_and c.from_residual-in_err-leaves.result c.from_residual-in_err-leaves.ensures.1 in
    let no = c.in_err-leaves.ensures in
    let same = MatchOption-at_some _ _ _ c.in_ok-trailer.ensures.ok_part c.of.ensures in
    rw (p.1, p.2, refused_with _ no.value)
    (judges _ c.in_ok-trailer.trailer.framed c.if-not-sum_agrees.ensures (sym c.job.ensures ∙ c.in_ok-job.ensures.ok_part)
    (judged_none _ _ (sym c.leaves.ensures ∙ no.ok_part)) ∙ ap checked same)

pub returns-then-leaves-trailer : goal.returns-then-leaves-trailer
returns-then-leaves-trailer c =
    let trailer = c.in_ok-trailer.trailer in
    let same = MatchOption-at_some _ _ _ c.in_ok-trailer.ensures.ok_part c.of.ensures in
    judges _ trailer.framed c.if-not-sum_agrees.ensures (sym c.job.ensures ∙ c.in_ok-job.ensures.ok_part)
    (judged_value _ _ (sym c.leaves.ensures ∙ c.in_ok-leaves.ensures.ok_part) (λ e. omega (arith, trailer.value_is))) ∙ ap checked same

pub returns : goal.returns
returns c =
    let trailer = c.in_ok-trailer.trailer in
    let same = MatchOption-at_some _ _ _ c.in_ok-trailer.ensures.ok_part c.of.ensures in
    judges _ trailer.framed c.if-not-sum_agrees.ensures (sym c.job.ensures ∙ c.in_ok-job.ensures.ok_part)
    (judged_yes _ _ (sym c.leaves.ensures ∙ c.in_ok-leaves.ensures.ok_part) (omega (arith, trailer.value_is)) c.note_length.ensures)
    ∙ ap checked same
