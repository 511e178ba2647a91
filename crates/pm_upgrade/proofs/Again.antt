-- What was printed reads as the plan.
use Rattle.std.proofs.Common.{◌≡◌, refl, ap, ap₂, sym, subst, ◌∙◌, ℕ, ◌+◌, true, List, [], ◌∷◌, map, Some, Ok}
use Rattle.std.specs.List.{AllByRecursion}
use Rattle.std.specs.Str.{is_utf8}
use Rattle.toml.specs.Parse.{parse_document}
use Rattle.pm_plan.proofs.Own.{own_made}
use Rattle.pm_plan.specs.Plans.{IsValid, own_agent, own_parts}
use Rattle.pm_plan.specs.Plans as plans
use Rattle.pm_plan.specs.declared.parts.AgentPart.{AgentPart}
use Rattle.pm_plan.specs.declared.plan.AgentRow.{AgentRow}
use Rattle.pm_plan.specs.declared.plan.Plan.{Plan}
use Rattle.pm_print.specs.Printed.{printed}
use Rattle.pm_rules.specs.Reading.{Table}
use Rattle.pm_rules.specs.Rules.{parsed}
use Rattle.pm_scenario.specs.Scenarios.{agent_part, agent_parts, draft_of, draft_of_document, draft_of_root, parts_of, plan_of, plan_or, table_of, with_agents, with_rule}
use Rattle.pm_scenario.specs.declared.draft.Draft.{Draft}
use Rattle.pm_upgrade.proofs.NamedPlans.{names-are}
use Rattle.pm_upgrade.proofs.Walked.{root_reads}
use Rattle.pm_upgrade.specs.Documents.{root_members}
use Rattle.pm_upgrade.specs.Drafts.{clp_names, draft_of_plan, names_of, with_text}
use Rattle.pm_upgrade.specs.Rows.{IsReadBack}

-- the agents are read with their rules
agents-again : (t : Table) (names : List (List ℕ)) (i : ℕ) (rows : List AgentRow) → AllByRecursion (IsReadBack t) rows
    → agent_parts t 2 i (map (λ (a : AgentRow). with_text t (own_agent names a)) rows) ≡ Ok (map (own_agent names) rows)
unfolding agent_parts
agents-again t names i [] all = refl
agents-again t names i (r ∷ rows) all =
    let first : agent_part t 2 i (with_text t (own_agent names r)) ≡ Ok (own_agent names r) = ap (with_rule i (with_text t (own_agent names r))) all.0 in
    rw (first, agents-again t names (i + 1) rows all.1) refl

parts-again : (plan : Plan) → IsValid plan → AllByRecursion (IsReadBack (names_of plan)) plan.agents → parts_of (draft_of_plan plan) ≡ Ok (own_parts plan)
unfolding parts_of own_parts
parts-again plan valid all =
    rw (subst (λ (t : Table). agent_parts t 2 0 (draft_of_plan plan).agents ≡ Ok (own_parts plan).agents) (names-are plan valid)
    (agents-again (names_of plan) (clp_names plan) 0 plan.agents all)) refl

pub plan-again : (plan : Plan) (text : List ℕ) → IsValid plan → AllByRecursion (IsReadBack (names_of plan)) plan.agents
    → is_utf8 text ≡ true → parse_document text ≡ Some (root_members (draft_of_plan plan)) → plan_of text ≡ Ok plan
unfolding plan_of draft_of
plan-again plan text valid all utf8 document =
    let d = draft_of_plan plan in
    let read : draft_of_root (root_members d) ≡ Ok d = root_reads d.horizon d.move_after d.clps d.classes d.agents in
    rw (utf8, document, read, parts-again plan valid all, own_made plan valid) refl
