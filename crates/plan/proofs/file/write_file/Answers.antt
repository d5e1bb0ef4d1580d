use Rattle.std.proofs.Common.{refl, arith}
use Rattle.plan.proofs.Answers.{cell_read, length_fits}
use Rattle.plan.proofs.Filing.{block_fits, nodes_fit, pointers_fit, sum_fits, filed}
use Rattle.plan.proofs.Tracing.{traceable, nodes_room, nodes_wrote}
use Rattle.plan.proofs.file.write_file.Goals as goal

-- `write_file` writes the parts of the file, one behind the other.
pub put_block-requires-clause-room : goal.put_block-requires-clause-room
put_block-requires-clause-room c = (block_fits _ _ _ _ _ c.requires.ready).1

pub write-at-requires-clause-traceable : goal.write-at-requires-clause-traceable
write-at-requires-clause-traceable c = traceable _ _ _ _ c.requires.ready.readable c.requires.laid refl

pub write-at-requires-clause-room : goal.write-at-requires-clause-room
write-at-requires-clause-room c =
    nodes_room _ _ _ _ c.requires.ready.readable c.requires.laid
    (nodes_fit _ _ _ _ _ c.requires.ready c.put_block.ensures c.from-2.ensures c.block_length-nodes_at.ensures)

pub put_pointers-requires : goal.put_pointers-requires
put_pointers-requires c =
    let ready = c.requires.ready in
    pointers_fit _ _ _ _ _ ready c.put_block.ensures c.from-2.ensures c.block_length-nodes_at.ensures
    (nodes_wrote _ _ _ _ ready.readable c.requires.laid c.write-at.ensures)

pub overflow_add-at : goal.overflow_add-at
overflow_add-at c =
    let ready = c.requires.ready in
    omega (
      arith,
      pointers_fit _ _ _ _ _ ready c.put_block.ensures c.from-2.ensures c.block_length-nodes_at.ensures
          (nodes_wrote _ _ _ _ ready.readable c.requires.laid c.write-at.ensures),
    )

pub put_sum-length-requires : goal.put_sum-length-requires
put_sum-length-requires c =
    let ready = c.requires.ready in
    let value = cell_read c.args.job.now _ _ _ c.cell-value.ensures c.from.ensures in
    sum_fits _ _ _ _ _ ready c.put_block.ensures c.from-2.ensures c.block_length-nodes_at.ensures
    (nodes_wrote _ _ _ _ ready.readable c.requires.laid c.write-at.ensures) c.put_pointers.ensures value

pub overflow_cast-length : goal.overflow_cast-length
overflow_cast-length c =
    let ready = c.requires.ready in
    let value = cell_read c.args.job.now _ _ _ c.cell-value.ensures c.from.ensures in
    let file = filed _ _ _ _ _ ready c.put_block.ensures c.from-2.ensures c.block_length-nodes_at.ensures
    (nodes_wrote _ _ _ _ ready.readable c.requires.laid c.write-at.ensures) c.put_pointers.ensures value c.put_sum-length.ensures in
    omega (arith, length_fits _ _ _ _ ready file)

pub returns-clause-file : goal.returns-clause-file
returns-clause-file c =
    let ready = c.requires.ready in
    let value = cell_read c.args.job.now _ _ _ c.cell-value.ensures c.from.ensures in
    filed _ _ _ _ _ ready c.put_block.ensures c.from-2.ensures c.block_length-nodes_at.ensures
    (nodes_wrote _ _ _ _ ready.readable c.requires.laid c.write-at.ensures) c.put_pointers.ensures value c.put_sum-length.ensures
