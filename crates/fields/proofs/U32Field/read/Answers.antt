use Rattle.std.proofs.Common.{◌≡◌, ◌+◌, get_or, ap, arith}
use Rattle.fields.specs.Number.{number2_of, number4_of}
use Rattle.fields.proofs.U32Field.read.Goals as goal

-- `u32::read` meets its contract.
pub returns : goal.returns
unfolding number2_of number4_of
returns c =
    let s = c.args.s.now in
    let at = c.args.at in
    let last : get_or s (at + 2 + 1) 0 ≡ get_or s (at + 3) 0 = ap (λ k. get_or s k 0) (omega arith) in
    omega (arith, last, c.from_le_bytes.ensures)
