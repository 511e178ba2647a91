use Rattle.std.proofs.Common.{◌∙◌, ap, sym}
use Rattle.std.specs.Option.{option_map}
use Rattle.std.proofs.lemmas.Option.{slice_get-map}
use Rattle.pm_ends.specs.Ends.{first_at}
use Rattle.pm_ends.specs.Sides.{inn_of}
use Rattle.pm_ends.proofs.Held.{first_is}
use Rattle.pm_ends.proofs.in_ends.front_at.Goals as goal

pub returns-in-Some : goal.returns-in-Some
returns-in-Some c =
    c.item.ensures.value ∙ first_is _
    ∙ ap (λ o. first_at (option_map inn_of o)) c.in-Some.ensures
    ∙ ap first_at (sym (slice_get-map inn_of c.args.ends.now c.args.at))

pub returns-in-None : goal.returns-in-None
returns-in-None c =
    ap (λ o. first_at (option_map inn_of o)) c.in-None.ensures
    ∙ ap first_at (sym (slice_get-map inn_of c.args.ends.now c.args.at))
