use Rattle.std.proofs.Common.{◌∙◌, ap, rules, filter, not, ◌==◌}
use Rattle.std.proofs.lemmas.Fn.{filter_same}
use Rattle.pm_queries.proofs.ports.without.Goals as goal

pub returns : goal.returns
returns c =
    c.from_vec.ensures
    ∙ (filter_same _ (λ e. not (c.args.port == e)) _ (λ x b f r. search rules) _ _ c.retain.ensures.filtered
    ∙ ap (filter (λ e. not (c.args.port == e))) c.into_vec-ports.ensures)
