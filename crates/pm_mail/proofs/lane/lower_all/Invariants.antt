use Rattle.std.proofs.Common.{◌≡◌, map, take}
use Rattle.pm_message.specs.Messages.{stamp_of}
use Rattle.pm_mail.specs.Inner.{lowered}
use Rattle.pm_mail.proofs.lane.lower_all.Given as goal

abbrev pub invariant-loop-message : goal.invariant-loop-message
invariant-loop-message l = l.least ≡ lowered l.fn.line (map stamp_of (take l.message-index l.messages))
