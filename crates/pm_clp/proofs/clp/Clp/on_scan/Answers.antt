use Rattle.std.proofs.Common.{◌≡◌, ◌∙◌, List, false, subst, sym}
use Rattle.pm_queries.specs.Queries.{has_reg}
use Rattle.pm_queries.specs.declared.registered.Registered.{Registered}
use Rattle.pm_clp.proofs.Stays.{watched_queries}
use Rattle.pm_clp.proofs.clp.Clp.on_scan.Goals as goal

pub register-requires : goal.register-requires
register-requires c =
    let now = c.args.self.now in
    let row = c.members-row.result in
    let same = watched_queries now c.watch_class.new.self c.args.out.now c.watch_class.new.out now.hub c.args.num
    c.args.stamp c.args.window
    row.first row.count c.in_ok-watch_class.ensures.did in
    let new : has_reg c.args.num now.clp.queries ≡ false = sym c.knows.ensures ∙ c.if-knows.false in
    subst (λ (qs : List Registered). has_reg c.args.num qs ≡ false) (sym same) new
