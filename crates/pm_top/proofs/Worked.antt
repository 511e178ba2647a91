-- The worked outputs and refusals, computed.
use Rattle.std.proofs.Common.{◌≡◌, length, take, refl, ap, ◌∙◌}
use Rattle.std.specs.Fmt.{digits}
use Rattle.std.specs.Prelude.{codes}
use Rattle.pm_model.proofs.ExampleLaws.{counter-run}
use Rattle.pm_model.specs.Examples.{counter, tie_write_first}
use Rattle.pm_model.specs.Runs.{sequential_run}
use Rattle.pm_model.specs.Traces.{trace_text}
use Rattle.pm_plan.specs.declared.fault.PlanFault.TheVariants as plan
use Rattle.pm_plan.specs.declared.plan.Kind.TheVariants as kind
use Rattle.pm_rules.specs.declared.fault.RuleFault.TheVariants as rule
use Rattle.pm_scenario.specs.declared.fault.ScenarioFault.TheVariants as fault
use Rattle.pm_top.specs.Outputs.{check_line, first_lines}
use Rattle.pm_top.specs.Refusals.{refusal}

pub counter-parts : check_line counter ≡ codes "ok clps 1 classes 1 vars 1 agents 1\n"
unfolding digits
counter-parts = refl

pub pair-parts : check_line tie_write_first ≡ codes "ok clps 1 classes 1 vars 1 agents 2\n"
unfolding digits
pair-parts = refl

pub counter-steps : length (sequential_run counter) ≡ 3
counter-steps = ap length counter-run

pub counter-first : first_lines 2 counter ≡ codes "0 ant [c0=0,0] c0:=1,0\n1 ant [c0=1,0] c0:=2,0\n"
unfolding digits
counter-first = ap (λ es. trace_text counter (take 2 es)) counter-run ∙ refl

pub rule-said : refusal (fault.Rule 3 (rule.Unknown 12)) ≡ codes "rule of agent 3: line 12: an unknown name\n"
unfolding digits
rule-said = refl

pub twice-said : refusal (fault.Plan (plan.Twice kind.Class 2)) ≡ codes "class 2: the name stands twice\n"
unfolding digits
twice-said = refl

pub tree-said : refusal (fault.Plan (plan.Tree 10)) ≡ codes "clp 10: not in the tree\n"
unfolding digits
tree-said = refl
