use Rattle.std.proofs.Common.{arith, refl, subst, sym, List}
use Rattle.pm_saved.specs.Inner.{NumbersRise}
use Rattle.pm_saved.specs.declared.held.Held.{Held}
use Rattle.pm_saved.proofs.Numbers.{empty_rise, steps-push}
use Rattle.pm_saved.proofs.steps.begin_last.Goals as goal

pub returns-clause-rise : goal.returns-clause-rise
returns-clause-rise c = λ h.
    subst (λ (z : List Held). NumbersRise 0 z c.args.next) (sym c.in_ok-push_back.ensures.items)
    (steps-push 0 c.args.steps.now.items c.args.next _ h (empty_rise c.args.next _ c.new.ensures.items) refl)
