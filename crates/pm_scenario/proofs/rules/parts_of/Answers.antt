use Rattle.std.proofs.Common.{rules, ◌≡◌, ◌∙◌, ap, sym, arith, length, List}
use Rattle.std.specs.List.{list_all}
use Rattle.pm_base.specs.Fits.{fits}
use Rattle.pm_base.specs.declared.layout.ClassRow.{ClassRow}
use Rattle.pm_plan.specs.declared.parts.AgentPart.{AgentPart}
use Rattle.pm_rules.specs.Reading.{class_rows}
use Rattle.pm_scenario.specs.Scenarios.{named_rows, table_of}
use Rattle.pm_scenario.proofs.NamedRows.{table_rows, table_vars, table_count}
use Rattle.pm_scenario.proofs.rules.parts_of.Goals as goal

pub make-requires-clause-classes : goal.make-requires-clause-classes
make-requires-clause-classes c =
    let rows : c.in_ok-classes.classes ≡ named_rows 0 c.args.draft.classes = search rules in
    let few = c.requires.few.classes in
    let count = ap length rows ∙ table_count c.args.draft.classes in
    omega (arith, count, few)

pub agent_parts-requires : goal.agent_parts-requires
agent_parts-requires c =
    let same : c.in_ok-names.names ≡ table_of c.args.draft.classes = search rules in
    record { vars = rw same (table_vars c.args.draft.classes); few = c.requires.few.agents }

pub returns-clause-fit : goal.returns-clause-fit
returns-clause-fit c =
    let same : c.in_ok-names.names ≡ table_of c.args.draft.classes = search rules in
    let rows = ap class_rows same ∙ table_rows c.args.draft.classes in
    ap (λ (rs : List ClassRow). list_all (λ (a : AgentPart). fits a.program (record { classes = rs })) c.in_ok-agents.agents) (sym rows) ∙ c.in_ok-agents.ensures.fit
