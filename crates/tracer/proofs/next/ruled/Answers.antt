use Rattle.std.proofs.Common.{rules}
use Rattle.board.specs.Inner.{rows_on}
use Rattle.tracer.proofs.Steps.{rule1, rule2, rule3, rule4, rule5, rule6, piece_among}
use Rattle.tracer.proofs.next.ruled.Goals as goal

-- `ruled`: each return is a rule that strikes where those before it did not.
pub returns-then-number-eq0 : goal.returns-then-number-eq0
returns-then-number-eq0 c = rule1 _ _ _ _ c.number_of-number.ensures.value c.if-number-eq0.true

pub returns-in-Some : goal.returns-in-Some
unfolding rows_on
returns-in-Some c =
    rule2 _ _ _ _ c.number_of-number.ensures.value c.if-number-eq0.false
    c.exact_piece.ensures c.in-Some.is

pub returns-in-Some-least_line : goal.returns-in-Some-least_line
unfolding rows_on
returns-in-Some-least_line c =
    rule3 _ _ _ _ c.number_of-number.ensures.value c.if-number-eq0.false
    c.exact_piece.ensures c.in_default.is c.least_line.ensures c.in-Some-least_line.is

pub returns-in-Some-least_line-2 : goal.returns-in-Some-least_line-2
unfolding rows_on
returns-in-Some-least_line-2 c =
    rule4 _ _ _ _ c.number_of-number.ensures.value c.if-number-eq0.false
    c.exact_piece.ensures c.in_default.is c.least_line.ensures c.in_default-least_line.is c.least_line-2.ensures c.in-Some-least_line-2.is

pub returns-in_err-fitting : goal.returns-in_err-fitting
unfolding rows_on
returns-in_err-fitting c =
    rule6 _ _ _ _ c.number_of-number.ensures.value c.if-number-eq0.false
    c.exact_piece.ensures c.in_default.is c.least_line.ensures c.in_default-least_line.is c.least_line-2.ensures c.in_default-least_line-2.is
    c.fitting_piece.ensures c.in_err-fitting.was (search rules)

pub cut_out-requires : goal.cut_out-requires
unfolding rows_on
cut_out-requires c =
    piece_among _ _ _
    c.fitting_piece.ensures c.in_ok-fitting.was

pub returns : goal.returns
unfolding rows_on
returns c =
    rule5 _ _ _ _ c.number_of-number.ensures.value c.if-number-eq0.false
    c.exact_piece.ensures c.in_default.is c.least_line.ensures c.in_default-least_line.is c.least_line-2.ensures c.in_default-least_line-2.is
    c.fitting_piece.ensures c.in_ok-fitting.was c.cut_out.ensures
