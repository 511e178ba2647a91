use Rattle.std.proofs.Common.{◌≡◌, drop}
use Rattle.pm_core.specs.Mails.{opened_all}
use Rattle.pm_core.proofs.posts.open_from.Given as goal

abbrev pub invariant-loop-sender : goal.invariant-loop-sender
invariant-loop-sender l = opened_all l.to (drop l.sender-index l.from) l.mail ≡ opened_all l.to l.from l.initial.mail
