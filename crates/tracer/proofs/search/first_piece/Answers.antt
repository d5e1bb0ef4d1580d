use Rattle.std.proofs.Common.{◌≡◌, ◌∙◌, rules, true, arith}
use Rattle.board.specs.declared.Board.{Board}
use Rattle.board.specs.Inner.{rows_on, width_at, height_at, value_at}
use Rattle.board.proofs.Laid.{record_on}
use Rattle.tracer.specs.Inner.{suits}
use Rattle.tracer.proofs.Found.{piece_found}
use Rattle.tracer.proofs.search.first_piece.Goals as goal

pub returns-then-suits : goal.returns-then-suits
unfolding suits rows_on
returns-then-suits g c test says =
    let board : Board = c.args.table.now.board.now in
    let read = record_on board c.loop-k.k c.pieces-pieces.ensures.records (omega arith) in
    let worth : c.from.result ≡ value_at board c.loop-k.k = (search rules) ∙ (λ i. (read i).value) in
    let wide : c.from-then-from-number.result ≡ width_at board c.loop-k.k = (search rules) ∙ (λ i. (read i).width) in
    let tall : c.from-then-from-number-2.result ≡ height_at board c.loop-k.k = (search rules) ∙ (λ i. (read i).height) in
    let passed = says c.loop-k.k true (omega arith) (rw (← wide, ← tall) (search rules)) in
    piece_found (rows_on board) test c.args.number (omega arith) (grind arith) (c.loop-k.invariant.1 test says)
