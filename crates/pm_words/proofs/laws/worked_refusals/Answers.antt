use Rattle.pm_words.proofs.OnWords as rows
use Rattle.pm_words.proofs.laws.worked_refusals.Goals as goal

pub returns : goal.returns
returns c = record {
  past_most = rows.past_most;
  below_least = rows.below_least;
  no_digits = rows.no_digits;
  signed = rows.signed;
  too_long = rows.too_long;
  too_great = rows.too_great;
  twice = rows.twice;
  no_value = rows.no_value;
  hyphens_as_value = rows.hyphens_as_value;
  flag_value = rows.flag_value;
  second_hyphens = rows.second_hyphens;
}
