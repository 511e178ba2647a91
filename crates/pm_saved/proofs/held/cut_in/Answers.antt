use Rattle.std.proofs.Common.{ap, ◌∙◌, subst, sym, List, ◌+◌, None}
use Rattle.pm_saved.specs.Inner.{SensesRise}
use Rattle.pm_saved.specs.declared.kept.KeptSense.{KeptSense}
use Rattle.pm_saved.specs.declared.kept.KeptStep.{KeptStep}
use Rattle.pm_saved.proofs.Numbers.{rise-take}
use Rattle.pm_saved.proofs.SpotLemmas.{cut_step_is, sense_at-in}
use Rattle.pm_saved.proofs.held.cut_in.Goals as goal

pub returns-clause-step : goal.returns-clause-step
returns-clause-step c = λ i e.
    cut_step_is c.args.held.now.stamp _ _ (c.keep_first.ensures
    ∙ (sense_at-in c.args.at c.args.held.now.senses.items i e).cut)

pub returns-clause-fits : goal.returns-clause-fits
returns-clause-fits c = λ n f.
    let h = c.args.held.now in
    subst (λ (z : List KeptSense). SensesRise n z h.next) (sym c.keep_first.ensures)
    (rise-take n h.senses.items h.next (c.args.at + 1) f)
