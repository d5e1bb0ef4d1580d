use Rattle.std.proofs.Common.{sym, ◌∙◌, arith}
use Rattle.tracer.proofs.Traced.{measured_struck, measured_leaf}
use Rattle.tracer.proofs.Walked.{some_line, part_short, line_inside, near_call, far_call, near_measures, parts_measure}
use Rattle.tracer.proofs.walk.+measure.Goals as goal

pub returns-in_err-at : goal.returns-in_err-at
returns-in_err-at t c = c.from_residual.ensures ∙ measured_struck _ _ _ (sym c.next_step.ensures ∙ c.in_err-at.was)

pub returns-in_default : goal.returns-in_default
returns-in_default t c = measured_leaf _ _ _ _ c.in_default.not-Line (sym c.next_step.ensures ∙ c.in_ok-at.was)

pub measure-requires : goal.measure-requires
measure-requires t c =
    let step = some_line c.next_step.ensures c.in_ok-at.was c.in-Line.is in
    near_call c.requires step
    (record { place = c.from-c.ensures; width = c.part_width.ensures; height = c.part_height.ensures })
    c.decreases

pub returns-in_err-first : goal.returns-in_err-first
returns-in_err-first t c =
    let step = some_line c.next_step.ensures c.in_ok-at.was c.in-Line.is in
    c.from_residual-in_err-first.ensures ∙ (near_measures c.requires step
    (record { place = c.from-c.ensures; width = c.part_width.ensures; height = c.part_height.ensures })).no_near (sym c.measure.ensures ∙ c.in_err-first.was)

pub rest-r-requires : goal.rest-r-requires
rest-r-requires t c =
    let step = some_line c.next_step.ensures c.in_ok-at.was c.in-Line.is in
    omega (arith, line_inside c.requires step, c.from-c.ensures, c.crossed.ensures)

pub measure-requires-2 : goal.measure-requires-2
measure-requires-2 t c =
    let step = some_line c.next_step.ensures c.in_ok-at.was c.in-Line.is in
    far_call c.requires step (record {
      place = c.from-c.ensures;
      across = c.crossed.ensures;
      leaves = c.rest-r.ensures;
      width = c.part_width-2.ensures;
      height = c.part_height-2.ensures;
      is = c.beyond.ensures;
    }) c.decreases

pub returns-in_err-second : goal.returns-in_err-second
returns-in_err-second t c =
    let step = some_line c.next_step.ensures c.in_ok-at.was c.in-Line.is in
    c.from_residual-in_err-second.ensures
    ∙ (parts_measure c.requires step
    (record { place = c.from-c.ensures; width = c.part_width.ensures; height = c.part_height.ensures })
    (record {
      place = c.from-c.ensures;
      across = c.crossed.ensures;
      leaves = c.rest-r.ensures;
      width = c.part_width-2.ensures;
      height = c.part_height-2.ensures;
      is = c.beyond.ensures;
    })).no_far (sym c.measure-2.ensures ∙ c.in_err-second.was)

pub overflow_add-result : goal.overflow_add-result
overflow_add-result t c =
    let step = some_line c.next_step.ensures c.in_ok-at.was c.in-Line.is in
    let near = part_short (near_call c.requires step
    (record { place = c.from-c.ensures; width = c.part_width.ensures; height = c.part_height.ensures })
    c.decreases).1 c.measure.ensures c.in_ok-first.was in
    omega (arith, near)

pub overflow_add-result-2 : goal.overflow_add-result-2
overflow_add-result-2 t c =
    let step = some_line c.next_step.ensures c.in_ok-at.was c.in-Line.is in
    let near = part_short (near_call c.requires step
    (record { place = c.from-c.ensures; width = c.part_width.ensures; height = c.part_height.ensures })
    c.decreases).1 c.measure.ensures c.in_ok-first.was in
    let far = part_short (far_call c.requires step (record {
      place = c.from-c.ensures;
      across = c.crossed.ensures;
      leaves = c.rest-r.ensures;
      width = c.part_width-2.ensures;
      height = c.part_height-2.ensures;
      is = c.beyond.ensures;
    }) c.decreases).1 c.measure-2.ensures c.in_ok-second.was in
    omega (arith, near, far)

pub returns : goal.returns
returns t c =
    let step = some_line c.next_step.ensures c.in_ok-at.was c.in-Line.is in
    (parts_measure c.requires step
    (record { place = c.from-c.ensures; width = c.part_width.ensures; height = c.part_height.ensures })
    (record {
      place = c.from-c.ensures;
      across = c.crossed.ensures;
      leaves = c.rest-r.ensures;
      width = c.part_width-2.ensures;
      height = c.part_height-2.ensures;
      is = c.beyond.ensures;
    })).both (sym c.measure.ensures ∙ c.in_ok-first.was) (sym c.measure-2.ensures ∙ c.in_ok-second.was)
