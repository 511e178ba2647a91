use Rattle.pm_periods.proofs.Trimming.{trim_keeps}
use Rattle.pm_periods.proofs.laws.trimming_keeps_values.Goals as goal

pub returns : goal.returns
returns c s e = trim_keeps c.args.parts.now c.args.line c.args.s s.puts e
