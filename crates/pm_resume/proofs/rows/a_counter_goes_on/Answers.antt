use Rattle.pm_resume.proofs.RowLaws.{later-trace, over, over-trace, spent, third}
use Rattle.pm_resume.proofs.rows.a_counter_goes_on.Goals as goal

pub returns : goal.returns
returns c = record { third = third; trace = later-trace; over = over; nothing = over-trace; spent = spent }
