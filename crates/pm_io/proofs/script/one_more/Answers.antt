use Rattle.std.proofs.Common.{sym}
use Rattle.std.proofs.lemmas.List.{drop-drop}
use Rattle.pm_io.proofs.script.one_more.Goals as goal

pub returns-then-followed-cues : goal.returns-then-followed-cues
returns-then-followed-cues c = sym (drop-drop 1 c.args.followed c.args.cues.now)
