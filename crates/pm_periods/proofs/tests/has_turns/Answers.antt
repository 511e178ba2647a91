use Rattle.std.proofs.Common.{subst}
use Rattle.pm_periods.specs.Laid.{reads_of}
use Rattle.pm_periods.specs.Records.{HaveTurns, Record}
use Rattle.pm_periods.proofs.tests.has_turns.Goals as goal

pub returns : goal.returns
returns c h = subst (λ (z : Record). HaveTurns z.parts.reads) c.one.view_is (subst (λ z. HaveTurns (reads_of z)) c.as_slice.ensures.value (c.have_all_turns.ensures h))
