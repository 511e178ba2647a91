use Rattle.std.proofs.Common.{refl}
use Rattle.pm_rules.proofs.DirectoryLaws.{no_text}
use Rattle.pm_rules.proofs.names.number_in.Goals as goal

pub returns-in-Err : goal.returns-in-Err
returns-in-Err c = rw (no_text c.args.word.now c.in-Err.ensures.cases.0 c.args.numbers.now.entries) refl
