use Rattle.pm_sim.proofs.ReachedWorlds.{all_low, all_taken, made_sums, some_ready_in, world_tells}
use Rattle.pm_sim.proofs.reached.reached_worlds.Goals as goal

pub returns : goal.returns
returns c = record { tells = world_tells; taken = all_taken; low = all_low; sum = made_sums; done = some_ready_in }
