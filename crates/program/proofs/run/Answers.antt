use Rattle.std.proofs.Common.{arith}
use Rattle.printing.specs.Inner.{Writes}
use Rattle.program.specs.Program.{program_text}
use Rattle.program.proofs.Promise.{kept, refused_after}
use Rattle.program.proofs.run.Goals as goal
use Rattle.program.proofs.run.Goals.{in-Err, in_default}

-- `run` meets its contract: the text has room.
pub returns : goal.returns
returns c =
    let printed : Writes c.new-out.result (program_text c.args.block.now) c.match-print_sheet.out = elim c.match-print_sheet.branch [
      | in-Err w ↦ rw w.out-is (refused_after w.in-Err.ensures w.from.ensures w.put_refused.ensures)
      | in_default w ↦ rw w.out-is w.in_default.ensures
    ] in
    kept _ c.new-out.ensures.bytes c.new-out.ensures.at_start (omega arith) printed
