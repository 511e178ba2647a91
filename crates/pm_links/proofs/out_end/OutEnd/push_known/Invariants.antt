use Rattle.std.proofs.Common.{◌≤◌, ◌⊎◌, ◌<◌}
use Rattle.rtrb.specs.Ring as ring
use Rattle.std.specs.VecDeque.{deque_len}
use Rattle.pm_links.specs.Links.{SentSame}
use Rattle.pm_links.proofs.out_end.OutEnd.push_known.Given as goal

abbrev pub invariant-loop-self : goal.invariant-loop-self
invariant-loop-self g l =
    SentSame l.initial.self l.self
    × (deque_len l.self.backlog ≤ deque_len l.initial.self.backlog)
    × (0 < ring.known_free l.initial.self.pipe →
    (0 < ring.known_free l.self.pipe) ⊎ (deque_len l.self.backlog < deque_len l.initial.self.backlog))

abbrev pub decreases-loop-self : goal.decreases-loop-self
decreases-loop-self g l = ring.known_free l.self.pipe
