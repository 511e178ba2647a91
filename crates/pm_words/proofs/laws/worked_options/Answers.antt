use Rattle.pm_words.proofs.OnWords as rows
use Rattle.pm_words.proofs.laws.worked_options.Goals as goal

pub returns : goal.returns
returns c = record {
  digits = rows.digits;
  workers = rows.workers;
  epoch = rows.epoch;
  window = rows.window;
  seed = rows.seed;
  from = rows.from;
}
