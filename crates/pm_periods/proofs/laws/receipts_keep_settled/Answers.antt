use Rattle.pm_periods.proofs.Receipts.{after_cut-settled, after_put-settled, after_watch-settled}
use Rattle.pm_periods.proofs.Trimming.{trimmed-settled}
use Rattle.pm_periods.proofs.laws.receipts_keep_settled.Goals as goal

pub returns-clause-put : goal.returns-clause-put
returns-clause-put c s = after_put-settled c.args.put c.args.parts.now s

pub returns-clause-cut : goal.returns-clause-cut
returns-clause-cut c s = after_cut-settled c.args.cut c.args.parts.now s

pub returns-clause-watch : goal.returns-clause-watch
returns-clause-watch c s = after_watch-settled c.args.read c.args.parts.now s

pub returns-clause-trim : goal.returns-clause-trim
returns-clause-trim c s = trimmed-settled c.args.parts.now c.args.line s
