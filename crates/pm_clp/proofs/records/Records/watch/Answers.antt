use Rattle.std.proofs.Common.{◌≡◌, ◌<◌, ◌≤◌, ◌+◌, ◌^◌, suc, arith, length, get_or, None, Option, refl, subst, sym, ap}
use Rattle.std.specs.Option.{option_to_list}
use Rattle.pm_clp.specs.Clps.{take_watch}
use Rattle.pm_clp.specs.Kept.{IsRecordOf, Kept}
use Rattle.pm_clp.proofs.Keeping.{Found, found-of, gives_ok, have_turns, view_ok}
use Rattle.pm_clp.specs.Laid.{in_set}
use Rattle.pm_clp.proofs.Slots.{laid-found, laid-letter}
use Rattle.pm_clp.proofs.records.Records.watch.Goals as goal

pub invariant_of-self-2 : goal.invariant_of-self-2
invariant_of-self-2 c =
    let i = c.self.inside in
    let f : Found i.each.items i.limit c.args.var c.index_mut.result.now =
    laid-found i.each.items i.limit c.args.var c.index_mut.result.now (in_set i.here) (in_set i.busy) c.self.invariant (omega arith) c.index_mut.ensures.value in
    let high : 2 ^ 32 ≤ i.limit = c.self.invariant.high in
    laid-letter i.each.items i.limit i.limit c.args.var c.index_mut.result.now c.watch_in.new.kept (in_set i.here) (in_set i.busy) (in_set c.add.new.self) c.self.invariant
    (omega arith) f c.in_ok-add.ensures.ok (c.watch_in.ensures.turns c.args.var i.limit (omega arith) (found-of _ _ _ _ f)) c.watch_in.ensures.none

pub returns-clause-ok : goal.returns-clause-ok
returns-clause-ok c =
    let f : Found c.self.inside.each.items c.self.inside.limit c.args.var c.index_mut.result.now =
    laid-found c.self.inside.each.items c.self.inside.limit c.args.var c.index_mut.result.now (in_set c.self.inside.here) (in_set c.self.inside.busy) c.self.invariant
    (omega arith) c.index_mut.ensures.value in
    view_ok c.watch_in.result (λ v. take_watch v c.args.num c.args.stamp c.args.window) c.args.var c.self.inside.each.items
    c.index_mut.result.now c.watch_in.new.kept c.self.inside.limit c.self.inside.limit c.args.self.now.limit c.args.self.now c.self.view_is
    f (ap (λ (k : Kept). k.limit) c.self.view_is) c.watch_in.ensures.ok

pub returns-clause-gives : goal.returns-clause-gives
returns-clause-gives c =
    let f : Found c.self.inside.each.items c.self.inside.limit c.args.var c.index_mut.result.now =
    laid-found c.self.inside.each.items c.self.inside.limit c.args.var c.index_mut.result.now (in_set c.self.inside.here) (in_set c.self.inside.busy) c.self.invariant
    (omega arith) c.index_mut.ensures.value in
    gives_ok (λ g. option_to_list g) c.watch_in.result (λ v. take_watch v c.args.num c.args.stamp c.args.window) c.args.var
    c.self.inside.each.items c.index_mut.result.now c.self.inside.limit c.args.self.now c.self.view_is f c.watch_in.ensures.gives
