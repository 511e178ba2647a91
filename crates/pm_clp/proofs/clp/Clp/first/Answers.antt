use Rattle.std.proofs.Common.{◌≡◌, ◌+◌, ◌<◌, ◌^◌, length, arith, ap}
use Rattle.pm_base.specs.Layouts.{var_count}
use Rattle.pm_base.proofs.Classes.{last_under}
use Rattle.pm_clp.proofs.clp.Clp.first.Goals as goal

pub first-requires-clause-few : goal.first-requires-clause-few
first-requires-clause-few c =
    let parts = c.args.parts in
    let low : 0 + var_count parts.layout.classes < 2 ^ 32 = last_under 0 parts.layout.classes c.requires.layout.follow in
    let each : length c.as_slice-ways.result.now ≡ length parts.ways = ap length c.as_slice-ways.ensures in
    let ways : length parts.ways ≡ var_count parts.layout.classes = c.requires.ways in
    omega (arith, low, each, ways)
