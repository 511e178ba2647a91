use Rattle.std.proofs.Common.{refl, sym, ◌∙◌, ◌+◌, ◌^◌, subst, arith}
use Rattle.std.proofs.lemmas.Option.{same_Some}
use Rattle.pm_step.specs.Steps.{ForAct, IsRising}
use Rattle.pm_step.proofs.StepLaws.{step-rises}
use Rattle.pm_saved.specs.Senses.{answers}
use Rattle.pm_saved.specs.Steps.{regs_after}
use Rattle.pm_saved.proofs.Failing.{on_ok}
use Rattle.pm_alp.specs.States.{actor_of, agent_of}
use Rattle.pm_step.specs.declared.Next.TheVariants as next
use Rattle.pm_alp.proofs.Going.{moved-as, moved-from, next-is, ready-told, went-act, went-ask}
use Rattle.pm_alp.proofs.Places.{last-time}
use Rattle.pm_alp.proofs.Told.{told-filled}
use Rattle.pm_alp.proofs.state.go_on.Goals as goal

pub next-requires-clause-time : goal.next-requires-clause-time
next-requires-clause-time c = last-time c.args.state.now.saved.steps c.last.result c.requires.ready.timely
    c.last.ensures.step c.last.ensures.none c.in-Some.stamp c.in-Some.is

pub ask-requires-clause-ready : goal.ask-requires-clause-ready
ask-requires-clause-ready c = ready-told c.args.state.now c.answer_on.new.all c.requires.ready
    c.in_ok-answer_on.ensures

pub act-requires-clause-ready : goal.act-requires-clause-ready
act-requires-clause-ready c = ready-told c.args.state.now c.answer_on.new.all c.requires.ready
    c.in_ok-answer_on.ensures

pub act-requires-clause-rising : goal.act-requires-clause-rising
act-requires-clause-rising c = subst (ForAct (λ act. IsRising act.writes)) (sym c.in_ok-then.ensures
    ∙ c.in-Act.is) (step-rises _ _)

pub returns-in-Ask-clause-moved : goal.returns-in-Ask-clause-moved
returns-in-Ask-clause-moved c = on_ok c.ask.result _ _
    (λ moved. λ front last e none.
    let old = c.args.state.now in
    let p = actor_of c.args.parts.now in
    let all = c.answer_on.new.all in
    let told = told-filled old.saved.steps old.told all c.requires.ready.told c.in_ok-answer_on.ensures
    front last e in
    let stamp = same_Some c.in-Some.stamp last.stamp (c.in-Some.ensures.step front last e) in
    let same = next-is p.acts c.in-Some.stamp last.stamp c.regs.result.now
    (regs_after old.saved.base front) all (answers last.senses) c.in_ok-then.then (next.Ask c.in-Ask.query)
    stamp (c.regs.ensures.step front last e) told c.in_ok-then.ensures c.in-Ask.is in
    moved-as 1 (2 ^ 32 + 1) _ _ old c.ask.new.state c.args.out.now c.ask.new.out (omega arith)
    (went-ask p c.in-Some.stamp c.in-Ask.query front last (agent_of old) none stamp same)
    (moved-from 1 _ _ old c.ask.new.state old.saved all c.args.out.now c.ask.new.out refl (moved front last e)))
    c.ask.ensures.moved

pub returns-in-Act-clause-moved : goal.returns-in-Act-clause-moved
returns-in-Act-clause-moved c = on_ok c.act.result _ _
    (λ moved. λ front last e none.
    let old = c.args.state.now in
    let p = actor_of c.args.parts.now in
    let all = c.answer_on.new.all in
    let told = told-filled old.saved.steps old.told all c.requires.ready.told c.in_ok-answer_on.ensures
    front last e in
    let same = next-is p.acts c.in-Some.stamp last.stamp c.regs.result.now
    (regs_after old.saved.base front) all (answers last.senses) c.in_ok-then.then
    (next.Act c.in-Act.done)
    (same_Some c.in-Some.stamp last.stamp (c.in-Some.ensures.step front last e))
    (c.regs.ensures.step front last e) told c.in_ok-then.ensures c.in-Act.is in
    moved-as (2 ^ 32 + 1) (2 ^ 32 + 1) _ _ old c.act.new.state c.args.out.now c.act.new.out (omega arith)
    (went-act p c.in-Act.done front last (agent_of old) same)
    (moved-from (2 ^ 32 + 1) _ _ old c.act.new.state old.saved all c.args.out.now c.act.new.out refl
    (moved front last e told)))
    c.act.ensures.moved
