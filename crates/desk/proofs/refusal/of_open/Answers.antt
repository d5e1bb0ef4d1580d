use Rattle.std.proofs.Common.{◌*◌, ◌<◌, length, arith}
use Rattle.laws.specs.Inner.{number_given}
use Rattle.desk.specs.Refusals.{open_refusals}
use Rattle.desk.specs.Inner.{open_refused, open_tests}
use Rattle.desk.proofs.refusal.of_open.Goals as goal

-- Where it answers 2 the table is short: said first, so that a refused check shows numbers.
pub returns-then-t-a : goal.returns-then-t-a
unfolding open_refused open_refusals open_tests number_given
returns-then-t-a c =
    let short : length c.args.t.now < c.args.a * c.args.b = omega arith in
    grind (arith, short)
