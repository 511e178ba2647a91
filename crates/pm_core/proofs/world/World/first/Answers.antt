use Rattle.std.proofs.Common.{◌≡◌, ◌∙◌, ap}
use Rattle.pm_plan.proofs.Valid.{valid_limits}
use Rattle.pm_sim.specs.Worlds.{clps_of}
use Rattle.pm_core.specs.Mails.{first_mail, opened_agents, opened_tree}
use Rattle.pm_core.specs.declared.arrivals.Processes.{Processes}
use Rattle.pm_core.proofs.FirstLaws.{is_first, view_first}
use Rattle.pm_core.proofs.world.World.first.Goals as goal

pub open_tree-requires : goal.open_tree-requires
open_tree-requires c = valid_limits c.args.plan.now c.requires

pub invariant_of-result : goal.invariant_of-result
invariant_of-result c =
    let p = c.args.plan.now in
    let s : Processes = record { plan = c.args.plan; clps = c.in_ok-clps.clps; alps = c.in_ok-alps.alps } in
    let first : c.first_alps.new.mail ≡ first_mail p =
    c.in_ok-alps.ensures.mail ∙ ap (opened_agents p 0 p.agents) (c.in_ok-open_tree.ensures
    ∙ ap (opened_tree p 0 (clps_of p)) c.new-mail.ensures) in
    is_first s c.first_alps.new.mail c.requires c.in_ok-clps.ensures c.in_ok-alps.ensures.processes first

pub returns : goal.returns
returns c =
    let p = c.args.plan.now in
    let s : Processes = record { plan = c.args.plan; clps = c.in_ok-clps.clps; alps = c.in_ok-alps.alps } in
    let first : c.first_alps.new.mail ≡ first_mail p =
    c.in_ok-alps.ensures.mail ∙ ap (opened_agents p 0 p.agents) (c.in_ok-open_tree.ensures
    ∙ ap (opened_tree p 0 (clps_of p)) c.new-mail.ensures) in
    view_first s c.first_alps.new.mail c.requires c.in_ok-clps.ensures c.in_ok-alps.ensures.processes first
