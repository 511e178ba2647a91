use Rattle.pm_scenario.proofs.Worked.{worked_row, version_row, strange_row, element_row, order_row, path_row}
use Rattle.pm_scenario.proofs.laws.worked_texts.Goals as goal

pub returns : goal.returns
returns c = record {
  worked = worked_row c.some_texts.ensures.worked;
  version = version_row;
  strange = strange_row;
  element = element_row;
  in_order = order_row;
  path = path_row;
}
