use Rattle.std.proofs.Common.{◌≡◌, ◌<◌, ◌≤◌, ◌+◌, ◌^◌, suc, arith, length, get_or, None, Option, refl, subst, sym, ap}
use Rattle.std.specs.Option.{option_to_list}
use Rattle.pm_clp.specs.Clps.{take_cut}
use Rattle.pm_clp.specs.Kept.{IsRecordOf, Kept}
use Rattle.pm_clp.proofs.Keeping.{Found, found-of, gives_ok, have_turns, view_ok}
use Rattle.pm_clp.specs.Laid.{in_set}
use Rattle.pm_clp.proofs.Slots.{laid-found, laid-letter}
use Rattle.pm_clp.proofs.records.Records.cut.Goals as goal

pub cut_in-requires : goal.cut_in-requires
cut_in-requires c =
    let f : Found c.self.inside.each.items c.self.inside.limit c.args.var c.index_mut.result.now =
    laid-found c.self.inside.each.items c.self.inside.limit c.args.var c.index_mut.result.now (in_set c.self.inside.here) (in_set c.self.inside.busy) c.self.invariant
    (omega arith) c.index_mut.ensures.value in
    let same = ap (λ (k : Kept). k.limit) c.self.view_is in
    have_turns c.self.inside.limit (omega arith) c.index_mut.result.now c.args.var (found-of _ _ _ _ f)

pub invariant_of-self-2 : goal.invariant_of-self-2
invariant_of-self-2 c =
    let i = c.self.inside in
    let f : Found i.each.items i.limit c.args.var c.index_mut.result.now =
    laid-found i.each.items i.limit c.args.var c.index_mut.result.now (in_set i.here) (in_set i.busy) c.self.invariant (omega arith) c.index_mut.ensures.value in
    let more : suc i.limit ≡ i.limit + 1 = omega arith in
    laid-letter i.each.items i.limit (i.limit + 1) c.args.var c.index_mut.result.now c.cut_in.new.kept (in_set i.here) (in_set i.busy) (in_set c.add.new.self) c.self.invariant
    (omega arith) f c.in_ok-add.ensures.ok (subst (λ n. IsRecordOf n c.args.var c.cut_in.new.kept) more (c.cut_in.ensures.turns c.args.var i.limit (found-of _ _ _ _ f)))
    c.cut_in.ensures.none

pub returns-clause-ok : goal.returns-clause-ok
returns-clause-ok c =
    let f : Found c.self.inside.each.items c.self.inside.limit c.args.var c.index_mut.result.now =
    laid-found c.self.inside.each.items c.self.inside.limit c.args.var c.index_mut.result.now (in_set c.self.inside.here) (in_set c.self.inside.busy) c.self.invariant
    (omega arith) c.index_mut.ensures.value in
    let same = ap (λ (k : Kept). k.limit) c.self.view_is in
    view_ok c.cut_in.result (λ v. take_cut v c.args.row) c.args.var c.self.inside.each.items c.index_mut.result.now
    c.cut_in.new.kept c.self.inside.limit (c.self.inside.limit + 1) (suc c.args.self.now.limit) c.args.self.now c.self.view_is f
    (omega arith) c.cut_in.ensures.ok

pub returns-clause-gives : goal.returns-clause-gives
returns-clause-gives c =
    let f : Found c.self.inside.each.items c.self.inside.limit c.args.var c.index_mut.result.now =
    laid-found c.self.inside.each.items c.self.inside.limit c.args.var c.index_mut.result.now (in_set c.self.inside.here) (in_set c.self.inside.busy) c.self.invariant
    (omega arith) c.index_mut.ensures.value in
    gives_ok (λ g. g) c.cut_in.result (λ v. take_cut v c.args.row) c.args.var c.self.inside.each.items
    c.index_mut.result.now c.self.inside.limit c.args.self.now c.self.view_is f c.cut_in.ensures.gives
