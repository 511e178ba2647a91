use Rattle.std.proofs.Common.{◌∷◌, [], ◌++◌, ◌∙◌, ap, ap₂, sym, map, take, get_or}
use Rattle.std.proofs.lemmas.List.{map-append, take_more}
use Rattle.pm_tables.specs.Tables.{first_classes}
use Rattle.pm_tables.proofs.table.first_rows.Goals as goal

pub loop-port-preserved : goal.loop-port-preserved
loop-port-preserved c =
    let f = first_classes c.args.behind c.args.classes.now c.args.ways.now c.args.values.now in
    let i = c.loop-port.port-index in
    c.in_ok-push.ensures.items
    ∙ (ap₂ (λ rows row. rows ++ row ∷ []) c.loop-port.invariant c.in_ok-first.ensures
    ∙ sym (ap (map f) (take_more c.args.ports.now i 0 c.loop-port-test.true)
    ∙ map-append f (take i c.args.ports.now) (get_or c.args.ports.now i 0 ∷ [])))
