use Rattle.std.proofs.Common.{◌≡◌, ◌+◌, take, get_or, arith, sym, ◌∙◌, ap}
use Rattle.std.proofs.lemmas.Grind.{common_steps}
use Rattle.std.proofs.lemmas.List.{take_more}
use Rattle.pm_base.specs.declared.stamp.Stamp.{Stamp}
use Rattle.pm_base.specs.Stamps.{least_line_of, or_lower}
use Rattle.pm_base.proofs.Orders.{least_line_of-snoc, least_line_of-least}
use Rattle.pm_base.proofs.stamp.Line.least.Goals as goal

pub loop-s-preserved : goal.loop-s-preserved
loop-s-preserved c =
    let stamps = c.args.stamps.now in
    let i = c.loop-s.s-index in
    let none : Stamp = record { time = 0; agent = 0 } in
    let more : least_line_of (take (i + 1) stamps) ≡ or_lower (get_or stamps i none) (least_line_of (take i stamps)) =
    ap least_line_of (take_more stamps i none c.loop-s-test.true) ∙ least_line_of-snoc (take i stamps) (get_or stamps i none) in
    c.or_lower-least.ensures ∙ ap (or_lower (get_or stamps i none)) c.loop-s.invariant ∙ sym more

pub returns-clause-least : goal.returns-clause-least
returns-clause-least c =
    let value : c.loop-s.least ≡ least_line_of c.args.stamps.now = grind (arith, common_steps) in
    rw value (least_line_of-least c.args.stamps.now)
