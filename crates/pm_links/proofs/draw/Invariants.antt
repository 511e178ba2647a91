use Rattle.std.proofs.Common.{◌≡◌}
use Rattle.std.specs.VecDeque.{deque_len}
use Rattle.rtrb.specs.Ring as ring
use Rattle.pm_links.specs.Links.{SentSame, IsLink, Grew}
use Rattle.pm_links.proofs.draw.Given as goal

abbrev pub invariant-loop-out : goal.invariant-loop-out
invariant-loop-out g l =
    SentSame l.fn.out l.out × Grew l.fn.inn l.inn × IsLink l.out l.inn
    × (ring.received l.inn.pipe ≡ ring.sent l.out.pipe)

abbrev pub decreases-loop-out : goal.decreases-loop-out
decreases-loop-out g l = deque_len l.out.backlog
