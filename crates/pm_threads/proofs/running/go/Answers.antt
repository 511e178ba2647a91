use Rattle.std.proofs.Common.{ap, refl}
use Rattle.pm_kernel.specs.Engines.{RunView}
use Rattle.pm_kernel.proofs.Running.{ran_on}
use Rattle.pm_threads.proofs.running.go.Goals as goal

pub returns-in-All-clause-text : goal.returns-in-All-clause-text
returns-in-All-clause-text g c =
    let t = c.in-All.ensures.text in
    ran_on c.args.plan.now c.args.settings.now c.args.crew.now c.start.new.crew _ _ _ _ t.0 c.stages.result
    (ap (λ (v : RunView). v.journal) c.requires.first) t.1 (t.4 refl) c.stages.ensures.text
