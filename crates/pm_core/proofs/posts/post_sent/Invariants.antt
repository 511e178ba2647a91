use Rattle.std.proofs.Common.{◌≡◌}
use Rattle.pm_core.specs.Mails.{posted_all}
use Rattle.pm_core.proofs.posts.post_sent.Given as goal

abbrev pub invariant-loop-one : goal.invariant-loop-one
invariant-loop-one l = l.mail ≡ posted_all l.from l.yielded l.fn.mail
