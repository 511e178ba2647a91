use Rattle.std.proofs.Common.{◌≡◌}
use Rattle.pm_core.specs.Mails.{told_all}
use Rattle.pm_core.proofs.posts.post_told.Given as goal

abbrev pub invariant-loop-message : goal.invariant-loop-message
invariant-loop-message l = l.mail ≡ told_all l.own l.home l.yielded l.fn.mail
