use Rattle.std.proofs.Common.{◌∙◌, [], ap, arith, get_or}
use Rattle.std.specs.Option.{unwrap_or}
use Rattle.std.proofs.lemmas.Option.{unwrap_or-slice_get}
use Rattle.pm_ranges.specs.Known.{nothing_known}
use Rattle.pm_tables.proofs.table.Table.at.Goals as goal

pub returns-in-Some : goal.returns-in-Some
returns-in-Some c =
    let look = c.in-Some.ensures.lookup in
    let here = look.4 (omega arith) [] in
    ap (λ o. unwrap_or o nothing_known) c.at.ensures
    ∙ (unwrap_or-slice_get c.in-Some.row.now c.args.class nothing_known
    ∙ ap (λ r. get_or r c.args.class nothing_known)
    (here ∙ ap (λ t. get_or t c.args.place []) (c.deref.ensures.value ∙ c.self.view_is)))
