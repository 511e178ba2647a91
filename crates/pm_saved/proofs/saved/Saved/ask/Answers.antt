use Rattle.std.proofs.Common.{◌≡◌, arith, false, ap, ◌∙◌, subst, sym, [], ◌∷◌, ◌++◌, ◌+◌, ◌≤◌, List}
use Rattle.pm_saved.specs.Inner.{HitsRise, steps_of}
use Rattle.pm_saved.specs.Steps.{Kept, with_asked}
use Rattle.pm_saved.specs.declared.kept.KeptHit.{KeptHit}
use Rattle.pm_saved.specs.declared.kept.KeptStep.{KeptStep}
use Rattle.pm_saved.proofs.Failing.{on_err}
use Rattle.pm_saved.proofs.saved.Saved.ask.Goals as goal

pub returns-in_err-ask_last-clause-err : goal.returns-in_err-ask_last-clause-err
returns-in_err-ask_last-clause-err c =
    let i = c.self.inside in
    let same : ◌≡◌ {A = Kept} (record { base = i.base; steps = steps_of c.ask_last.new.steps.items; used = i.next })
    c.args.self.now =
    ap (λ (z : List KeptStep). record { base = i.base; steps = z; used = i.next }) c.in_err-ask_last.ensures.err
    ∙ c.self.view_is in
    on_err c.from_residual.result _ same

pub invariant_of-self-2 : goal.invariant_of-self-2
invariant_of-self-2 c =
    let i = c.self.inside in
    let le : i.next ≤ c.args.num.seq = omega (arith, c.requires.after, ap (λ (k : Kept). k.used) c.self.view_is) in
    c.in_ok-ask_last.ensures.rise i.next c.self.invariant le (subst HitsRise (sym c.new.ensures) tt)

pub returns-clause-ok : goal.returns-clause-ok
returns-clause-ok c = λ front last e.
    let i = c.self.inside in
    let there = ap (λ (k : Kept). k.steps) c.self.view_is ∙ e in
    ap (λ z. record { base = i.base; steps = z; used = c.args.num.seq + 1 })
    (c.in_ok-ask_last.ensures.ok front last there
    ∙ ap (λ (hs : List KeptHit). front ++ record last {
      senses = last.senses ++ record {
        num = c.args.num;
        query =
            c.args.query;
        complete = false;
        hits = hs;
      } ∷ [];
    } ∷ []) c.new.ensures)
    ∙ ap (with_asked front last (record { num = c.args.num; query = c.args.query; complete = false; hits = [] }))
    c.self.view_is
