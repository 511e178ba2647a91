use Rattle.std.proofs.Common.{◌≡◌, true, List, length, take, drop, ◌++◌, sym, ap, subst, ◌∙◌}
use Rattle.std.specs.Prelude.{Any, IsTrue, ◌↔◌}
use Rattle.std.proofs.lemmas.List.{take_at}
use Rattle.pm_workers.proofs.by_loans.epoch_loans.Goals as goal

-- the list after a write through its slice is what the slice then had
pub returns-clause-memory : goal.returns-clause-memory
returns-clause-memory g c =
    let S : Type 0 = g.row.S.Denot in
    let P : S → Type 0 = λ s. g.S.Station.is_spoilt s ≡ true in
    let xs : List S = c.args.stations.now in
    let ys : List S = c.finish.new.stations in
    let long : length ys ≡ length xs =
    c.finish.ensures.order.0 ∙ c.run_counted-made.ensures.moved.0
    ∙ ap length c.as_mut_slice-stations.ensures.value in
    let same : take (length xs) (ys ++ drop (length ys) xs) ≡ ys = take_at ys (drop (length ys) xs) (length xs) long in
    subst (λ (zs : List S). IsTrue c.finish.result.memory ↔ Any P zs) (sym same) c.finish.ensures.memory
