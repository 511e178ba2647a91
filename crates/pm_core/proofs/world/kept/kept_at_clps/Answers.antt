use Rattle.std.proofs.Common.{◌+◌, ◌-◌, ◌^◌, ◌∙◌, ap, arith, drop, min, refl}
use Rattle.pm_core.proofs.Keeping.{at_clps, clp_more}
use Rattle.pm_core.proofs.world.kept.kept_at_clps.Goals as goal

pub loop-clp-preserved : goal.loop-clp-preserved
loop-clp-preserved c =
    let xs = c.args.clps.now in
    let i = c.loop-clp.clp-index in
    record {
      few = omega (arith, c.saturating_add-kept.ensures);
      sum = ap (λ z. min (z + at_clps (drop (i + 1) xs)) (2 ^ 64 - 1)) c.saturating_add-kept.ensures
          ∙ clp_more xs i c.loop-clp.kept (2 ^ 64 - 1) (min (at_clps xs) (2 ^ 64 - 1)) c.kept.result c.clp-item.result
          c.loop-clp-test.true c.clp-item.is refl c.kept.ensures c.loop-clp.invariant.sum;
    }
