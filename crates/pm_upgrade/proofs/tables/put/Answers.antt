use Rattle.pm_upgrade.proofs.Inserts.{insert_shows_at}
use Rattle.pm_upgrade.proofs.tables.put.Goals as goal

pub returns-in-Ok : goal.returns-in-Ok
returns-in-Ok c = rw c.in-Ok.ensures.entries (insert_shows_at c.in_ok-key.key c.args.key.now c.args.value c.args.table.now.entries c.in_ok-key.ensures.ok)
