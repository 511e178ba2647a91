use Rattle.pm_sim.proofs.Kernel.{played_all, played_law, played_sequential}
use Rattle.pm_sim.proofs.journal_laws.playing_stops_at_the_first_illegal_event.Goals as goal

pub returns : goal.returns
returns c = record { law = played_law; all = played_all; sequential = played_sequential }
