use Rattle.std.proofs.Common.{ap, ◌∙◌}
use Rattle.pm_saved.specs.Steps.{Kept, opened, with_step}
use Rattle.pm_saved.proofs.saved.Saved.begin.Goals as goal

pub returns-clause-ok : goal.returns-clause-ok
returns-clause-ok c =
    let i = c.self.inside in
    ap (λ z. record { base = i.base; steps = z; used = i.next }) c.in_ok-begin_last.ensures.ok
    ∙ ap (with_step (opened c.args.stamp)) c.self.view_is
