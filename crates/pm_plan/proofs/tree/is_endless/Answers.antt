use Rattle.std.proofs.Common.{sym, subst, arith}
use Rattle.std.proofs.lemmas.List.{length-map}
use Rattle.pm_plan.specs.Plans.{parents}
use Rattle.pm_plan.proofs.Chains.{ChainFrom, chain_begin, chain_more, chain_ends, chain_never}
use Rattle.pm_plan.proofs.tree.is_endless.Goals as goal

pub loop-init : goal.loop-init
loop-init c = chain_begin _ _

pub loop-preserved : goal.loop-preserved
loop-preserved c =
    let ps = parents c.args.clps.now in
    let h = subst (ChainFrom ps c.args.clp c.loop.counter) c.in-Some.is c.loop.invariant in
    let m = chain_more ps c.args.clp c.loop.counter c.in-Some.c (let l = length-map c.args.clps.now (λ r. r.parent) in omega (arith, l)) h in
    subst (ChainFrom ps c.args.clp _) (sym c.parent_of-at.ensures) m

pub returns-in-None : goal.returns-in-None
returns-in-None c =
    let ps = parents c.args.clps.now in
    chain_ends ps c.args.clp c.loop.counter (let l = length-map c.args.clps.now (λ r. r.parent) in omega (arith, l)) (subst (ChainFrom ps c.args.clp c.loop.counter) c.in-None.is c.loop.invariant)

pub returns : goal.returns
returns c = chain_never _ _ _ _ (let l = length-map c.args.clps.now (λ r. r.parent) in omega (arith, l)) c.loop.invariant
