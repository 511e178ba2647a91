use Rattle.std.proofs.Common.{◌++◌, [], drop, length, subst, sym, take}
use Rattle.pm_cell.specs.Firsts.{AreFirst}
use Rattle.pm_cell.specs.Helds.{views}
use Rattle.pm_cell.specs.Stands.{CellLooked}
use Rattle.pm_ends.specs.Numbers.{Pairs}
use Rattle.pm_threads.proofs.Staying.{first_stays}
use Rattle.pm_threads.proofs.Writing.{as_many, written}
use Rattle.pm_threads.specs.Crews.{Stays}
use Rattle.pm_threads.proofs.crew.Crew.begin.Goals as goal

pub invariant_of-result : goal.invariant_of-result
invariant_of-result g c =
    let p = c.args.plan.now in
    let all = c.into_vec-cells.result in
    let new = c.settle.new.cells in
    let looked = subst (λ z. Pairs CellLooked (views z) (views new)) c.as_mut_slice.ensures.value c.settle.ensures.looked in
    let first = subst (λ z. AreFirst p (views z)) (sym c.into_vec-cells.ensures) c.in_ok-cells.ensures in
    let whole = written all.len all.items new all.ok.0 (as_many CellLooked all.items new looked) in
    let final = take all.len (new ++ drop (length new) all.items) in
    record {
      valid = c.requires.valid;
      some = c.requires.workers;
      has = c.requires.workers;
      stays = λ _. subst (λ j. Stays p j final) (sym c.new.ensures.items)
          (subst (Stays p []) (sym whole) (first_stays p all.items new first looked c.in_ok-settle.ensures.settled));
    }
