use Rattle.std.proofs.Common.{refl}
use Rattle.std.specs.Fmt.{digits}
use Rattle.pm_history.specs.Scans.{after, at_most, commit_at, deliver_at, event_at, number_at, pair_at}
use Rattle.pm_history.proofs.laws.worked_lines.Goals as goal

pub returns-clause-deliver : goal.returns-clause-deliver
unfolding digits
returns-clause-deliver c = refl

pub returns-clause-commit : goal.returns-clause-commit
unfolding digits
returns-clause-commit c = refl

pub returns-clause-needless_zero : goal.returns-clause-needless_zero
unfolding after at_most commit_at deliver_at event_at number_at pair_at
returns-clause-needless_zero c = refl

pub returns-clause-no_feed : goal.returns-clause-no_feed
unfolding after at_most commit_at deliver_at event_at number_at pair_at
returns-clause-no_feed c = refl

pub returns-clause-carriage_return : goal.returns-clause-carriage_return
unfolding after at_most commit_at deliver_at event_at number_at pair_at
returns-clause-carriage_return c = refl

pub returns-clause-two_spaces : goal.returns-clause-two_spaces
unfolding after at_most commit_at deliver_at event_at number_at pair_at
returns-clause-two_spaces c = refl

pub returns-clause-too_great : goal.returns-clause-too_great
unfolding after at_most commit_at deliver_at event_at number_at pair_at
returns-clause-too_great c = refl
