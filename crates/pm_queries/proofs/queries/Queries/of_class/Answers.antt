use Rattle.std.proofs.Common.{◌∙◌, [], ap, arith, get_or, sym}
use Rattle.std.proofs.lemmas.List.{get_or_past}
use Rattle.pm_queries.specs.Queries.{class_queries}
use Rattle.pm_queries.proofs.Merges.{class-merged}
use Rattle.pm_queries.proofs.queries.Queries.of_class.Goals as goal

pub returns-in-Some : goal.returns-in-Some
returns-in-Some c =
    let look = c.in-Some.ensures.lookup in
    let here = look.4 (omega arith) [] in
    let cs = c.self.inside.classes.items in
    c.as_slice.ensures
    ∙ (here ∙ (ap (λ t. get_or t c.args.class []) c.deref.ensures.value
    ∙ (sym (class-merged c.args.class cs c.self.invariant.own c.self.invariant.rising)
    ∙ ap (class_queries c.args.class) c.self.view_is)))

pub returns-in-None : goal.returns-in-None
returns-in-None c =
    let look = c.in-None.ensures.lookup in
    let cs = c.self.inside.classes.items in
    sym (get_or_past c.deref.result.now c.args.class [] look.3)
    ∙ (ap (λ t. get_or t c.args.class []) c.deref.ensures.value
    ∙ (sym (class-merged c.args.class cs c.self.invariant.own c.self.invariant.rising)
    ∙ ap (class_queries c.args.class) c.self.view_is))
