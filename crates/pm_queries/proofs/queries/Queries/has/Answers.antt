use Rattle.std.proofs.Common.{◌∙◌, ap}
use Rattle.std.specs.Option.{is_some}
use Rattle.pm_queries.specs.Laid.{merged}
use Rattle.pm_queries.specs.Queries.{has_reg}
use Rattle.pm_queries.proofs.Spots.{spot_of-has}
use Rattle.pm_queries.proofs.queries.Queries.has.Goals as goal

pub returns : goal.returns
returns c =
    c.contains_key.ensures
    ∙ (ap is_some (c.self.invariant.known c.args.num)
    ∙ (spot_of-has c.args.num (merged c.self.inside.classes.items) ∙ ap (has_reg c.args.num) c.self.view_is))
