use Rattle.std.proofs.Common.{ap, ◌∙◌, sym}
use Rattle.pm_saved.proofs.HitLemmas.{hit-kept, hit_in}
use Rattle.pm_saved.proofs.hits.hit_of.Goals as goal

pub returns-in-Some : goal.returns-in-Some
returns-in-Some c = sym (hit-kept c.args.var c.args.hits.now ∙ sym (ap hit_in c.in-Some.ensures))

pub returns-in-None : goal.returns-in-None
returns-in-None c = sym (hit-kept c.args.var c.args.hits.now ∙ sym (ap hit_in c.in-None.ensures))
