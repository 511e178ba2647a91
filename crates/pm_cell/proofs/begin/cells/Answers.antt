use Rattle.std.proofs.Common.{◌≡◌, ◌∙◌, [], ap, arith, get_or, length, subst, subst₂, sym}
use Rattle.pm_core.specs.Firsts.{first_alps, first_processes, first_wakes}
use Rattle.pm_core.specs.Links.{links}
use Rattle.pm_core.proofs.LinkLaws.{links_are}
use Rattle.pm_ends.specs.Ends.{tos}
use Rattle.pm_ends.specs.Numbers.{LinksBelow, LinksRise, tos_from}
use Rattle.pm_ends.specs.Wires.{AreWires}
use Rattle.pm_plan.proofs.Valid.{valid_limits}
use Rattle.pm_sim.specs.Worlds.{clps_of}
use Rattle.pm_cell.specs.Firsts.{AreFirst, AreProcessesOf, all_woken, first_helds}
use Rattle.pm_cell.specs.Helds.{views}
use Rattle.pm_cell.proofs.Firsts.{all_woken_long, first_cells_are, first_processes_are, if_ok, links_below, links_rise, processes_many, wakes_many, woken_tos}
use Rattle.pm_cell.proofs.begin.cells.Goals as goal

pub links-requires : goal.links-requires
links-requires c = valid_limits c.args.plan.now c.requires

pub wires-requires-clause-rises : goal.wires-requires-clause-rises
wires-requires-clause-rises c = subst LinksRise (sym (c.as_slice.ensures ∙ c.in_ok-links.ensures))
    (links_rise (links c.args.plan.now) (links_are c.args.plan.now c.requires).ascending)

pub wires-requires-clause-below : goal.wires-requires-clause-below
wires-requires-clause-below c = subst₂ LinksBelow
    (sym (c.len.ensures ∙ ap length c.in_ok-processes.ensures.processes))
    (sym (c.as_slice.ensures ∙ c.in_ok-links.ensures))
    (links_below c.args.plan.now c.requires)

pub overflow_cast-len : goal.overflow_cast-len
overflow_cast-len c = (let l = (valid_limits c.args.plan.now c.requires).clps in omega (arith, l, c.len-2.ensures))

pub send_wakes-requires-clause-there : goal.send_wakes-requires-clause-there
send_wakes-requires-clause-there c =
    let w = ap length c.in_ok-processes.ensures.wakes in
    let m = wakes_many c.args.plan.now 0 c.args.plan.now.agents in
    let n = ap length c.in_ok-processes.ensures.processes in
    let k = processes_many c.args.plan.now in
    let s = c.in_ok-inns.ensures.senders in
    omega (arith, w, m, n, k, s, c.len-2.ensures, c.len.ensures)

pub send_wakes-requires-clause-few : goal.send_wakes-requires-clause-few
send_wakes-requires-clause-few c =
    let w = ap length c.in_ok-processes.ensures.wakes in
    let m = wakes_many c.args.plan.now 0 c.args.plan.now.agents in
    let h = valid_limits c.args.plan.now c.requires in
    let a = h.agents in
    let b = h.clps in
    omega (arith, w, m, a, b, c.len-2.ensures)

pub first_cells-requires-clause-all : goal.first_cells-requires-clause-all
first_cells-requires-clause-all c = subst (AreProcessesOf c.args.plan.now) (sym c.in_ok-processes.ensures.processes)
    (first_processes_are c.args.plan.now)

pub first_cells-requires-clause-count : goal.first_cells-requires-clause-count
first_cells-requires-clause-count c = ap length c.in_ok-processes.ensures.processes ∙ processes_many c.args.plan.now

pub first_cells-requires-clause-outs : goal.first_cells-requires-clause-outs
first_cells-requires-clause-outs c =
    ap length c.in_ok-send_wakes.ensures
    ∙ (all_woken_long c.len-2.result c.in_ok-processes.wakes c.in_ok-inns.outs.items
    ∙ (c.in_ok-inns.ensures.senders ∙ c.len.ensures))

pub first_cells-requires-clause-receivers : goal.first_cells-requires-clause-receivers
first_cells-requires-clause-receivers c = λ k lt.
    ap (λ os. tos (get_or os k [])) c.in_ok-send_wakes.ensures
    ∙ (woken_tos c.len-2.result c.in_ok-processes.wakes c.in_ok-inns.outs.items k
    ∙ (c.in_ok-inns.ensures.tos_are k (let e = c.len.ensures in omega (arith, lt, e))
    ∙ ap (tos_from k) (c.as_slice.ensures ∙ c.in_ok-links.ensures)))

pub returns : goal.returns
returns c =
    let p = c.args.plan.now in
    let inns = c.in_ok-inns.inns.items in
    let outs = c.in_ok-inns.outs.items in
    let wires : AreWires (links p) (length (first_processes p)) inns outs =
    subst₂ (λ ls n. AreWires ls n inns outs) (c.as_slice.ensures ∙ c.in_ok-links.ensures)
    (c.len.ensures ∙ ap length c.in_ok-processes.ensures.processes) c.in_ok-inns.ensures in
    let same : c.send_wakes.new.outs.items ≡ all_woken (clps_of p) (first_wakes (first_alps p 0 p.agents)) outs =
    c.in_ok-send_wakes.ensures ∙ (ap (λ n. all_woken n c.in_ok-processes.wakes outs) c.len-2.ensures
    ∙ ap (λ ws. all_woken (clps_of p) ws outs) c.in_ok-processes.ensures.wakes) in
    if_ok c.first_cells.result _ _
    (λ hs e. subst (λ z. AreFirst p (views z)) (sym (e
    ∙ (ap (λ xs. first_helds p 0 xs inns c.send_wakes.new.outs.items) c.in_ok-processes.ensures.processes
    ∙ ap (first_helds p 0 (first_processes p) inns) same)))
    (first_cells_are p c.requires inns outs wires))
    c.first_cells.ensures
