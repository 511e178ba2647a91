use Rattle.std.proofs.Common.{◌≡◌, ◌∙◌, ℕ, List, ap, ap₂, sym, subst, arith, length, map}
use Rattle.std.specs.List.{AllByRecursion}
use Rattle.std.proofs.lemmas.List.{length-map}
use Rattle.pm_base.specs.declared.layout.ClassRow.{ClassRow}
use Rattle.pm_plan.proofs.Valid.{valid_kept}
use Rattle.pm_plan.specs.declared.plan.VarRow.{VarRow}
use Rattle.pm_print.specs.Printing.{IsNamed}
use Rattle.pm_rules.specs.Grammar.{IsTable}
use Rattle.pm_rules.specs.Reading.{Table}
use Rattle.pm_upgrade.proofs.Listed.{zip-short}
use Rattle.pm_upgrade.proofs.NamedPlans.{names-named, names-table, printable}
use Rattle.pm_upgrade.specs.Drafts.{names_of}
use Rattle.pm_upgrade.specs.Rows.{IsPrintable}
use Rattle.pm_upgrade.proofs.print.agents.Goals as goal

abbrev the_table : List (List ℕ × ClassRow) → List (List ℕ) → Table
the_table classes vars = record { classes = classes; vars = vars }

pub make-requires-clause-classes : goal.make-requires-clause-classes
make-requires-clause-classes c =
    let long = ap length c.in_ok-classes.ensures in
    let short = zip-short c.args.plan.now.classes c.args.plan.now.layout.classes in
    let kept = valid_kept c.args.plan.now c.requires in
    omega (arith, long, short, kept)

pub make-requires-clause-vars : goal.make-requires-clause-vars
make-requires-clause-vars c =
    let long = ap length c.in_ok-vars.ensures in
    let same = length-map c.args.plan.now.vars (λ (v : VarRow). v.name) in
    let kept = valid_kept c.args.plan.now c.requires in
    omega (arith, long, same, kept)

pub agent_tables-requires-clause-table : goal.agent_tables-requires-clause-table
agent_tables-requires-clause-table c =
    let same : c.in_ok-names.names ≡ names_of c.args.plan.now = c.in_ok-names.ensures ∙ ap₂ the_table c.in_ok-classes.ensures c.in_ok-vars.ensures in
    subst IsTable (sym same) (names-table c.args.plan.now c.requires)

pub agent_tables-requires-clause-named : goal.agent_tables-requires-clause-named
agent_tables-requires-clause-named c =
    let same : c.in_ok-names.names ≡ names_of c.args.plan.now = c.in_ok-names.ensures ∙ ap₂ the_table c.in_ok-classes.ensures c.in_ok-vars.ensures in
    subst IsNamed (sym same) (names-named c.args.plan.now c.requires)

pub agent_tables-requires-clause-ready : goal.agent_tables-requires-clause-ready
agent_tables-requires-clause-ready c =
    let same : c.in_ok-names.names ≡ names_of c.args.plan.now = c.in_ok-names.ensures ∙ ap₂ the_table c.in_ok-classes.ensures c.in_ok-vars.ensures in
    subst (λ (t : Table). AllByRecursion (IsPrintable t) c.args.plan.now.agents) (sym same) (printable c.args.plan.now c.requires)

pub returns-clause-tables : goal.returns-clause-tables
returns-clause-tables c =
    let same : c.in_ok-names.names ≡ names_of c.args.plan.now = c.in_ok-names.ensures ∙ ap₂ the_table c.in_ok-classes.ensures c.in_ok-vars.ensures in
    rw same at c.agent_tables.ensures.tables
