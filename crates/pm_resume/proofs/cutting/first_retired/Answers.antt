use Rattle.std.proofs.Common.{◌≡◌, ◌∙◌, ℕ, ap, arith, Bool, false, Option, None, Some, refl, sym, true}
use Rattle.std.specs.Prelude.{is_none, is_some, not}
use Rattle.pm_plan.proofs.Leasts.{least_begin, least_end, least_here, least_skip}
use Rattle.pm_resume.specs.Cuts.{first_retired, is_retired}
use Rattle.pm_resume.proofs.cutting.first_retired.Goals as goal

none_test : (o : Option ℕ) (b : Bool) → is_some o ≡ not b → is_none o ≡ b
none_test None true e = refl
none_test None false e = cc
none_test (Some t) true e = cc
none_test (Some t) false e = refl

pub loop-agent-init : goal.loop-agent-init
loop-agent-init c = least_begin _ _

pub loop-agent-preserved : goal.loop-agent-preserved
loop-agent-preserved c =
    let t : is_retired c.args.seq.now.state c.loop-agent.agent ≡ false =
    ap is_none (sym c.next_time.ensures) ∙ (none_test c.next_time.result c.is_none.result c.is_none.ensures ∙ c.if-is_none.false) in
    least_skip _ _ _ (omega arith) t c.loop-agent.invariant

pub returns-then-is_none : goal.returns-then-is_none
unfolding first_retired
returns-then-is_none c =
    let t : is_retired c.args.seq.now.state c.loop-agent.agent ≡ true =
    ap is_none (sym c.next_time.ensures) ∙ (none_test c.next_time.result c.is_none.result c.is_none.ensures ∙ c.if-is_none.true) in
    least_here _ _ _ (omega arith) t c.loop-agent.invariant

pub returns : goal.returns
unfolding first_retired
returns c = least_end _ _ _ (omega arith) c.loop-agent.invariant
