use Rattle.pm_words.proofs.OnWords as rows
use Rattle.pm_words.proofs.laws.worked_words.Goals as goal

pub returns : goal.returns
returns c = record {
  alone = rows.alone;
  check = rows.check;
  run = rows.run;
  demo = rows.demo;
  upgrade = rows.upgrade;
  place = rows.place;
  cut = rows.cut;
  replay = rows.replay;
  lowest = rows.lowest;
  option_before = rows.option_before;
  option_behind = rows.option_behind;
  behind_hyphens = rows.behind_hyphens;
  flag = rows.flag;
  no_words = rows.no_words;
  no_mode = rows.no_mode;
  two_modes = rows.two_modes;
  empty_word = rows.empty_word;
  hyphen = rows.hyphen;
  help = rows.help;
  help_for_short = rows.help_for_short;
  help_word = rows.help_word;
  version = rows.version;
}
