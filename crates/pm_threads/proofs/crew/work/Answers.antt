use Rattle.std.proofs.Common.{◌∙◌, ap, subst, sym}
use denote.Param.Send.{arg_send, param_send}
use Rattle.pm_threads.proofs.Sending.{cell_send}
use Rattle.pm_threads.proofs.Working.{worked_is}
use Rattle.pm_threads.specs.Crews.{Worked}
use Rattle.pm_threads.proofs.crew.work.Goals as goal

pub epoch_turns-requires-send-S : goal.epoch_turns-requires-send-S
epoch_turns-requires-send-S g c κs within = search (param_send, arg_send, cell_send)

pub returns : goal.returns
returns g c =
    let q = c.args.quota in
    let n = c.in_ok-stations.count.made in
    let before = c.from_vec-stations.ensures ∙ ap (λ v. v.items) c.replace.ensures.value in
    record {
      worked = subst (λ z. Worked q n z c.into_vec.result.items) before
          (subst (λ z. Worked q n c.from_vec-stations.result z) (sym c.into_vec.ensures)
          (worked_is q n c.in_ok-stations.count.memory c.from_vec-stations.result c.in_ok-stations.stations
          c.in_ok-stations.ensures.order c.in_ok-stations.ensures.made c.in_ok-stations.ensures.most
          c.in_ok-stations.ensures.memory c.if-count.false c.in_ok-stations.ensures.idle));
    }
