use Rattle.pm_replay.proofs.Illegal.{no_journal, one_first}
use Rattle.pm_replay.proofs.laws.one_line_is_first.Goals as goal

pub returns : goal.returns
returns c = record { no_journal = no_journal; one = one_first }
