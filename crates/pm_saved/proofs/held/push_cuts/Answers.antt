use Rattle.std.proofs.Common.{rules, length, ◌≤◌}
use Rattle.pm_saved.proofs.Cutting.{cuts-past, sending-done}
use Rattle.pm_saved.proofs.held.push_cuts.Goals as goal

pub returns-in-None-clause-ok : goal.returns-in-None-clause-ok
returns-in-None-clause-ok c =
    let past : length c.args.writes.now ≤ c.loop-at.at = search rules in
    sending-done _ _ _ _ c.loop-at.invariant
    (cuts-past c.args.stamp c.args.nums.now c.args.writes.now c.loop-at.at past)
