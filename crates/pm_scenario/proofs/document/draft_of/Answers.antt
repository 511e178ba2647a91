use Rattle.std.proofs.Common.{refl}
use Rattle.pm_scenario.specs.Scenarios.{draft_of}
use Rattle.pm_scenario.proofs.Walks.{not_text}
use Rattle.pm_scenario.proofs.document.draft_of.Goals as goal

pub returns-in-Err : goal.returns-in-Err
unfolding draft_of
returns-in-Err c = rw (not_text c.args.bytes.now c.in-Err.ensures.cases.0) refl
