use Rattle.pm_periods.proofs.Spans.{periods_cover}
use Rattle.pm_periods.proofs.laws.periods_cover.Goals as goal

pub returns : goal.returns
returns c s = periods_cover c.args.parts.now s.puts c.args.from c.args.s
