-- What `main` writes out lies in the text buffer.
use Rattle.std.proofs.Common.{arith, length-take}
use Rattle.program.proofs.Promise.{program_within}
use Rattle.guillotine.proofs.main.Goals as goal

pub slice_bounds-text-end : goal.slice_bounds-text-end
slice_bounds-text-end c = omega (arith, program_within _ _ c.run-length.ensures, length-take c.run-length.result c.run-length.new.text)

pub slice_bounds-write_all-end : goal.slice_bounds-write_all-end
slice_bounds-write_all-end c = program_within _ _ c.run-length.ensures
