use Rattle.std.proofs.Common.{◌∙◌, sym, ap}
use Rattle.pm_model.proofs.HitLaws.{hits-one}
use Rattle.pm_model.specs.Hits.{shown}
use Rattle.pm_seq.proofs.hits.one_hit.Goals as goal

pub returns : goal.returns
returns c =
    c.in_ok-hits.ensures ∙ ap (shown c.args.var) c.value_at.ensures
    ∙ sym (hits-one c.args.layout.now.classes c.args.values.now c.args.var)
