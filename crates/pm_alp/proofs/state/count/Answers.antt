use Rattle.std.proofs.Common.{subst, ◌<◌, ◌^◌}
use Rattle.pm_alp.proofs.Few.{few}
use Rattle.pm_alp.proofs.state.count.Goals as goal

pub returns-clause-few : goal.returns-clause-few
returns-clause-few c = few c.args.writes.now c.in-Some.last.now c.requires c.in-Some.ensures.value (subst
    (λ n. n < 2 ^ 32) c.var_of-greatest.ensures.var c.var_of-greatest.ensures.range)
