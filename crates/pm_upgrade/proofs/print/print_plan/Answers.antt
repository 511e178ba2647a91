use Rattle.std.proofs.Common.{◌≡◌, ◌≤◌, ◌∙◌, ap, Some, string_bytes}
use Rattle.std.proofs.lemmas.Str.{is_utf8-from_IsUtf8}
use Rattle.toml.specs.Data.{Members, members_depth}
use Rattle.toml.specs.Parse.{parse_document}
use Rattle.toml.specs.View.{table_view}
use Rattle.pm_upgrade.proofs.Again.{plan-again}
use Rattle.pm_upgrade.proofs.Walked.{root_low}
use Rattle.pm_upgrade.specs.Documents.{root_members}
use Rattle.pm_upgrade.specs.Drafts.{draft_of_plan}
use Rattle.pm_upgrade.proofs.print.print_plan.Goals as goal

pub returns-in-Ok : goal.returns-in-Ok
returns-in-Ok c =
    let d = draft_of_plan c.args.plan.now in
    let low : members_depth (table_view c.in_ok-table.table) ≤ 80 = rw c.in_ok-table.ensures.table (root_low d.horizon d.move_after d.clps d.classes d.agents) in
    let document : parse_document (string_bytes c.in-Ok.text) ≡ Some (root_members d) = c.in-Ok.ensures.reads_back low ∙ ap (λ (m : Members). Some m) c.in_ok-table.ensures.table in
    record {
      document = document;
      again = plan-again c.args.plan.now (string_bytes c.in-Ok.text) c.requires.valid c.in_ok-table.ensures.read
          (is_utf8-from_IsUtf8 (string_bytes c.in-Ok.text) (rw (← c.as_str.ensures.value) c.as_str.utf8)) document;
    }
