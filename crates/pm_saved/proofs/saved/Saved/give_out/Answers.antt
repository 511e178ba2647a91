use Rattle.std.proofs.Common.{subst, sym, List}
use Rattle.pm_saved.specs.Inner.{NumbersRise}
use Rattle.pm_saved.specs.declared.held.Held.{Held}
use Rattle.pm_saved.proofs.Numbers.{steps-rest}
use Rattle.pm_saved.proofs.saved.Saved.give_out.Goals as goal

pub invariant_of-self-2 : goal.invariant_of-self-2
invariant_of-self-2 c =
    let i = c.self.inside in
    subst (λ (z : List Held). NumbersRise 0 z i.next) (sym c.pop_front.ensures.rest)
    (steps-rest i.steps.items i.next c.self.invariant)
