use Rattle.std.proofs.Common.{◌≡◌, Some, subst, sym}
use Rattle.pm_clp.specs.Clps.{take_put}
use Rattle.pm_clp.proofs.Acts.{put_did}
use Rattle.pm_clp.proofs.Stays.{told_ways}
use Rattle.pm_clp.proofs.Steps.{on_ok}
use Rattle.pm_routes.specs.Routings.{Routing, way_at}
use Rattle.pm_routes.specs.declared.way.Way.TheVariants as way
use Rattle.pm_clp.proofs.clp.Clp.put_here.Goals as goal

pub counting-requires-clause-here : goal.counting-requires-clause-here
counting-requires-clause-here c =
    let h = c.args.self.now.hub in
    let stay = told_ways c.args.self.now c.put_told.new.self c.args.out.now c.put_told.new.out h h c.args.var c.args.var
    (take_put c.args.var c.args.row) c.args.row.stamp c.in_ok-put_told.ensures.did in
    subst (λ (r : Routing). way_at r c.args.var ≡ Some way.Here) (sym stay) c.requires.here

pub returns-clause-did : goal.returns-clause-did
returns-clause-did c =
    on_ok c.counting.result
    (λ counted. put_did c.args.self.now c.put_told.new.self c.counting.new.self c.args.out.now c.put_told.new.out
    c.counting.new.out
    c.args.from c.args.var c.args.row c.requires.here c.in_ok-put_told.ensures.did counted)
    c.counting.ensures.did
