use Rattle.std.proofs.Common.{rules, ◌<◌, arith, length}
use Rattle.std.proofs.lemmas.List.{length-map}
use Rattle.pm_tokens.specs.Tokens.{tok}
use Rattle.pm_rules.proofs.StatementLaws.{change-more}
use Rattle.pm_rules.proofs.statements.change.Goals as goal

pub returns-then-not-is_empty : goal.returns-then-not-is_empty
returns-then-not-is_empty c =
    let rest = c.in_ok-y.rest.now in
    let more : 0 < length rest = search rules in
    let len = length-map rest tok in
    change-more _ _ _ _ _ _ _ c.in_ok-place.ensures (search rules) c.in_ok-x.ensures (search rules) c.in_ok-y.ensures (omega (arith, len, more))
