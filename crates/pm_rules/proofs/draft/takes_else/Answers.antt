use Rattle.std.proofs.Common.{arith}
use Rattle.pm_rules.proofs.DraftLaws.{first-none, last_frame-at}
use Rattle.pm_rules.proofs.draft.takes_else.Goals as goal

pub returns-in-len1-up : goal.returns-in-len1-up
returns-in-len1-up c =
    rw (last_frame-at c.args.frames.now c.last-item.result (omega arith), ← c.last-item.is)
    (first-none c.last-item.result.first c.is_none.result c.is_none.ensures)
