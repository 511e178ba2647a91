use Rattle.std.proofs.Common.{◌∙◌, ◌<◌, ap, length}
use Rattle.toml.proofs.Views.{view-Table}
use Rattle.toml.specs.Data.{table}
use Rattle.pm_plan.specs.Plans.{own_agent}
use Rattle.pm_upgrade.proofs.Listed.{all-at, all-more, items-more}
use Rattle.pm_upgrade.specs.Documents.{agent_members}
use Rattle.pm_upgrade.specs.Drafts.{clp_names, with_text}
use Rattle.pm_upgrade.specs.Rows.{IsPrintable, IsReadBack}
use Rattle.pm_upgrade.proofs.rows.agent_tables.Goals as goal

pub agent_table-requires : goal.agent_table-requires
agent_table-requires c =
    let all = c.as_slice-row-items.ensures in
    let lt : c.loop-row.row-index < length c.args.plan.now.agents = rw all at c.loop-row-test.true in
    let is = rw all at c.row-item.is in
    record {
      table = c.requires.table;
      named = c.requires.named;
      ready = all-at (IsPrintable c.args.names.now) c.args.plan.now.agents c.loop-row.row-index c.row-item.result lt is c.requires.ready;
    }

pub loop-row-preserved : goal.loop-row-preserved
loop-row-preserved c =
    let all = c.as_slice-row-items.ensures in
    let lt : c.loop-row.row-index < length c.args.plan.now.agents = rw all at c.loop-row-test.true in
    let is = rw all at c.row-item.is in
    let seen = view-Table c.in_ok-agent_table.field-0 ∙ ap table c.in_ok-agent_table.ensures.table in
    record {
      tables = rw c.in_ok-push.ensures.items
          (items-more agent_members (λ a. with_text c.args.names.now (own_agent (clp_names c.args.plan.now) a)) c.loop-row.tables.items _ c.args.plan.now.agents
          c.loop-row.row-index c.row-item.result lt is c.loop-row.invariant.tables seen);
      read = all-more (IsReadBack c.args.names.now) c.args.plan.now.agents c.loop-row.row-index c.row-item.result lt is
          c.loop-row.invariant.read c.in_ok-agent_table.ensures.reads;
    }
