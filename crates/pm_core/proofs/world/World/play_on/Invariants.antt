use Rattle.std.proofs.Common.{◌≡◌, ◌+◌, drop, take}
use Rattle.pm_sim.specs.Journals.{made}
use Rattle.pm_sim.specs.Played.{before, play_from}
use Rattle.pm_core.proofs.world.World.play_on.Given as goal

abbrev pub invariant-loop-i : goal.invariant-loop-i
invariant-loop-i l = record {
  plan : l.self.plan ≡ l.fn.self.plan;
  played : before l.fn.entries.items (play_from l.fn.self.plan l.fn.self.world 0 l.events)
      ≡ before l.entries.items (play_from l.fn.self.plan l.self.world l.i (drop l.i l.events));
  made : l.self.made ≡ l.fn.self.made + made (take l.i l.events);
  spoilt : l.self.spoilt ≡ l.fn.self.spoilt;
}
