use Rattle.std.proofs.Common.{◌≤◌, ◌∙◌, sym, subst, arith, length}
use Rattle.std.specs.List.{AllByRecursion}
use Rattle.pm_model.specs.Runs.{sequential_run}
use Rattle.pm_plan.proofs.Valid.{valid_kept}
use Rattle.pm_place.proofs.Costs.{IsFound, counts-cheap, counts-long, distances-long, found-cost, found-least, found-parts, found-placement, found-ties, run_counts}
use Rattle.pm_place.specs.Bests.{HasBestOfEach, IsCheap}
use Rattle.pm_place.specs.Tallies.{distances}
use Rattle.pm_place.proofs.placement.place.Goals as goal

pub best_of_all-requires : goal.best_of_all-requires
best_of_all-requires c =
    let plan = c.args.plan.now in
    let short : length (sequential_run plan) ≤ 20000000 = omega (arith, c.in_ok-rows.ensures.within, c.requires.budget) in
    let rows = c.as_slice.ensures.value ∙ c.in_ok-rows.ensures.counts in
    let far = c.as_slice-2.ensures ∙ c.in_ok-distances.ensures in
    let kept = valid_kept plan c.requires.valid in
    rw (rows, far) (record {
      some = omega (arith, kept, distances-long plan);
      few = omega (arith, kept, distances-long plan);
      vars = omega (arith, kept, counts-long plan);
      small = counts-cheap plan c.requires.valid short;
    })

pub returns : goal.returns
returns c =
    let plan = c.args.plan.now in
    let short : length (sequential_run plan) ≤ 20000000 = omega (arith, c.in_ok-rows.ensures.within, c.requires.budget) in
    let rows = c.as_slice.ensures.value ∙ c.in_ok-rows.ensures.counts in
    let far = c.as_slice-2.ensures ∙ c.in_ok-distances.ensures in
    let found : IsFound plan c.in_ok-best_of_all.field-0 = rw (rows, far) at c.in_ok-best_of_all.ensures in
    record {
      placement = found-placement plan c.in_ok-best_of_all.field-0 found;
      costs = found-parts plan c.in_ok-best_of_all.field-0 c.requires.valid short found;
      total = found.total;
      cost = found-cost plan c.in_ok-best_of_all.field-0 c.requires.valid short found;
      least = found-least plan c.in_ok-best_of_all.field-0 c.requires.valid short found;
      ties = found-ties plan c.in_ok-best_of_all.field-0 c.requires.valid short found;
      within = c.in_ok-rows.ensures.within;
      spent = λ never. absurd (cc never);
    }
