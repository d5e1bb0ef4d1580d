use Rattle.std.proofs.Common.{sym, ap, ◌∙◌, arith, unwrap_or}
use Rattle.tracer.specs.declared.Step.{Step}
use Rattle.laws.proofs.Wrote.{wrote_as}
use Rattle.tracer.proofs.Traced.{nodes_leaf}
use Rattle.tracer.proofs.Wrote.{node_room}
use Rattle.tracer.proofs.Walked.{line_or_scrap, line_inside, near_write, far_write, line_written}
use Rattle.tracer.proofs.walk.+write.Goals as goal

pub write_step-after-requires : goal.write_step-after-requires
write_step-after-requires t c = node_room _ c.requires.room

pub returns-in_default : goal.returns-in_default
returns-in_default t c =
    wrote_as (nodes_leaf _ _ _ _ c.in_default.not-Line (ap (λ s. unwrap_or s Step.Scrap) (sym c.next_step.ensures) ∙ sym c.unwrap_or-next.ensures))
    c.write_step-after.ensures

pub write-middle-requires : goal.write-middle-requires
write-middle-requires t c =
    let step = line_or_scrap c.next_step.ensures c.unwrap_or-next.ensures c.in-Line.is in
    near_write c.requires.traceable step c.in-Line.is
    (record { place = c.from-c.ensures; width = c.part_width.ensures; height = c.part_height.ensures })
    c.requires.room c.write_step-after.ensures c.decreases

pub rest-r-requires : goal.rest-r-requires
rest-r-requires t c =
    let step = line_or_scrap c.next_step.ensures c.unwrap_or-next.ensures c.in-Line.is in
    omega (arith, line_inside c.requires.traceable step, c.from-c.ensures, c.crossed.ensures)

pub write-requires : goal.write-requires
write-requires t c =
    let step = line_or_scrap c.next_step.ensures c.unwrap_or-next.ensures c.in-Line.is in
    far_write c.requires.traceable step c.in-Line.is
    (record { place = c.from-c.ensures; width = c.part_width.ensures; height = c.part_height.ensures })
    c.requires.room c.write_step-after.ensures (record {
      place = c.from-c.ensures;
      across = c.crossed.ensures;
      leaves = c.rest-r.ensures;
      width = c.part_width-2.ensures;
      height = c.part_height-2.ensures;
      is = c.beyond.ensures;
    }) c.write-middle.ensures
    c.decreases

pub returns : goal.returns
returns t c =
    let step = line_or_scrap c.next_step.ensures c.unwrap_or-next.ensures c.in-Line.is in
    line_written c.requires.traceable step c.in-Line.is
    (record { place = c.from-c.ensures; width = c.part_width.ensures; height = c.part_height.ensures })
    c.requires.room c.write_step-after.ensures (record {
      place = c.from-c.ensures;
      across = c.crossed.ensures;
      leaves = c.rest-r.ensures;
      width = c.part_width-2.ensures;
      height = c.part_height-2.ensures;
      is = c.beyond.ensures;
    }) c.write-middle.ensures
    c.write.ensures
