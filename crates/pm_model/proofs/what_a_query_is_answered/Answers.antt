use Rattle.pm_model.proofs.HitLaws.{hits-class, hits-one}
use Rattle.pm_model.proofs.what_a_query_is_answered.Goals as goal

pub returns : goal.returns
returns c = record { one = hits-one; class = hits-class }
