use Rattle.std.proofs.Common.{◌∙◌, ap, map}
use Rattle.pm_ends.specs.Ends.{first_at}
use Rattle.pm_ends.specs.Numbers.{nth}
use Rattle.pm_ends.specs.Sides.{inn_of}
use Rattle.pm_ends.proofs.in_ends.InEnds.first.Goals as goal

pub returns : goal.returns
returns c =
    c.front_at.ensures ∙ ap (λ l. first_at (nth (map inn_of l) c.args.at)) c.as_slice.ensures.value
    ∙ ap (λ l. first_at (nth l c.args.at)) c.self.view_is
