use Rattle.pm_words.proofs.Digits.{read_err}
use Rattle.pm_words.proofs.values.number_of.Goals as goal

pub returns-in-Err : goal.returns-in-Err
returns-in-Err c = read_err c.args.text.now c.parse.result _ c.in-Err.is c.requires c.parse.ensures.value.0
