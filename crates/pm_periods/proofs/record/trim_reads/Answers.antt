use Rattle.std.proofs.Common.{filter, rules, ap, ◌∙◌}
use Rattle.std.proofs.lemmas.Fn.{filter_same}
use Rattle.pm_periods.specs.Records.{read_stays}
use Rattle.pm_periods.proofs.record.trim_reads.Goals as goal

pub returns : goal.returns
returns c = c.from_vec.ensures ∙ (filter_same _ (read_stays c.args.line) _ (λ x b f' k. search rules) _ _ c.retain.ensures.filtered ∙ ap (filter (read_stays c.args.line)) (c.into_vec-left.ensures ∙ c.replace.ensures.value))
