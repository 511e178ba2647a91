use Rattle.pm_calm.proofs.Computed.{nine_row, pruned_window_row, three_row, two_row}
use Rattle.pm_calm.proofs.rows.a_query_after_a_write.Goals as goal

pub returns : goal.returns
returns c = record { run = pruned_window_row; two = two_row; three = three_row; nine = nine_row }
