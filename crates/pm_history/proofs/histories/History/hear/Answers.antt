use Rattle.std.proofs.Common.{◌<◌, List, sym, subst}
use Rattle.std.specs.List.{AllByRecursion}
use Rattle.pm_history.specs.declared.histories.Heard.{Heard}
use Rattle.pm_history.specs.Stories.{Story}
use Rattle.pm_history.proofs.Rising.{still_rising}
use Rattle.pm_history.proofs.histories.History.hear.Goals as goal

pub invariant_of-self : goal.invariant_of-self
invariant_of-self c =
    let all : List Heard → Type 0 = AllByRecursion (λ x. x.clock < c.args.heard.clock) in
    let below : all c.self.inside.heard = subst (λ (s : Story). all s.heard) (sym c.self.view_is) c.requires.rises in
    still_rising c.push.result c.self.inside.heard c.push.new.self c.args.heard c.push.ensures.ok c.push.ensures.err
    c.self.invariant below
