use Rattle.std.proofs.Common.{◌∙◌, ap, not, subst, sym}
use Rattle.std.specs.BTreeMap.{get}
use Rattle.pm_base.specs.Stamps.{is_below}
use Rattle.pm_queries.specs.Laid.{IsLaid, merged, num_cmp}
use Rattle.pm_queries.specs.Queries.{not_below}
use Rattle.pm_queries.specs.declared.registered.Registered.{Registered}
use Rattle.pm_queries.proofs.Layouts.{laid-trimmed}
use Rattle.pm_queries.proofs.Merges.{filter-merged}
use Rattle.pm_queries.proofs.queries.Queries.trim.Goals as goal

pub drop_below-requires : goal.drop_below-requires
drop_below-requires c = c.self.invariant.rising

pub invariant_of-self : goal.invariant_of-self
invariant_of-self c =
    let cs = c.self.inside.classes.items in
    subst (λ z. IsLaid z (get num_cmp c.drop_below.new.spots)) (sym c.drop_below.ensures.classes)
    (laid-trimmed cs (get num_cmp c.self.inside.spots)
    (get num_cmp c.drop_below.new.spots) c.args.line c.self.invariant c.drop_below.ensures.spots)

pub returns : goal.returns
returns c =
    ap merged c.drop_below.ensures.classes
    ∙ (sym (filter-merged (λ (r : Registered). not (is_below r.stamp c.args.line)) c.self.inside.classes.items)
    ∙ ap (not_below c.args.line) c.self.view_is)
