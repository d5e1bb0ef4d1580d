-- Each answer laid out as the header's struct, field by field, from the one definition that gives number and values for its cases.
use Rattle.desk.specs.Changing.{Changed}
use Rattle.desk.specs.Asking.{Asked, asked_numbers}
use Rattle.plan.specs.Planning.{Planned, planned_numbers}
use Rattle.checker.specs.Checked.{Checked, Answer, answer}
use Rattle.khonvertseg.specs.declared.KhonChanged.{KhonChanged}
use Rattle.khonvertseg.specs.declared.KhonAsked.{KhonAsked}
use Rattle.khonvertseg.specs.declared.KhonPlanned.{KhonPlanned}
use Rattle.khonvertseg.specs.declared.KhonChecked.{KhonChecked}

-- khon_changed
abbrev pub flat_changed : Changed → KhonChanged
flat_changed a = record { refusal = a.refusal; job = a.job }

-- khon_asked
abbrev pub flat_asked : Asked → KhonAsked
flat_asked a = record { refusal = (asked_numbers a).refusal; value = (asked_numbers a).value; worked = (asked_numbers a).worked }

-- khon_planned
abbrev pub flat_planned : Planned → KhonPlanned
flat_planned a = record { refusal = (planned_numbers a).refusal; length = (planned_numbers a).length; value = (planned_numbers a).value }

-- khon_checked
abbrev pub laid_out : Answer → KhonChecked
laid_out a = record { refusal = a.number; value = a.value; note = a.note; piece_area = a.piece_area_of; scrap_area = a.scrap_area_of }

-- The answer of check, laid out.
abbrev pub flat_checked : Checked → KhonChecked
flat_checked a = laid_out (answer a)
