use Rattle.std.proofs.Common.{◌≡◌, ap, ◌∙◌, List}
use Rattle.pm_saved.specs.Inner.{steps_of}
use Rattle.pm_saved.specs.Senses.{add_kept}
use Rattle.pm_saved.specs.Spots.{step_at}
use Rattle.pm_saved.specs.Steps.{Kept, with_sense}
use Rattle.pm_saved.specs.declared.kept.KeptStep.{KeptStep}
use Rattle.pm_saved.proofs.Failing.{on_err}
use Rattle.pm_saved.proofs.saved.Saved.keep.Goals as goal

pub keep_at-requires : goal.keep_at-requires
keep_at-requires c = (c.self.inside.next, c.self.invariant)

pub returns-in_err-keep_at-clause-err : goal.returns-in_err-keep_at-clause-err
returns-in_err-keep_at-clause-err c =
    let i = c.self.inside in
    let same : ◌≡◌ {A = Kept} (record { base = i.base; steps = steps_of c.keep_at.new.steps.items; used = i.next })
    c.args.self.now =
    ap (λ (z : List KeptStep). record { base = i.base; steps = z; used = i.next }) c.in_err-keep_at.ensures.same
    ∙ c.self.view_is in
    on_err c.from_residual.result _ same

pub invariant_of-self-2 : goal.invariant_of-self-2
invariant_of-self-2 c = c.in_ok-keep_at.ensures.rise c.self.inside.next c.self.invariant

pub returns-clause-ok : goal.returns-clause-ok
returns-clause-ok c = λ s e.
    let i = c.self.inside in
    let there = ap (λ (k : Kept). step_at c.args.at.step c.args.at.sense k.steps) c.self.view_is ∙ e in
    ap (λ z. record { base = i.base; steps = z; used = i.next }) (c.in_ok-keep_at.ensures.step s there)
    ∙ ap (with_sense s (record s.sense {
      hits = add_kept
          (record { var = c.args.var; turn = c.args.turn; hit = c.args.hit }) s.sense.hits;
    })) c.self.view_is
