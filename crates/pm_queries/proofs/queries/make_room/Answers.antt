use Rattle.std.proofs.Common.{◌∷◌, [], ◌++◌, ◌∙◌, ap, subst, sym}
use Rattle.pm_queries.specs.Laid.{HasRoom}
use Rattle.pm_queries.proofs.Layouts.{room-more, room-self}
use Rattle.pm_queries.proofs.queries.make_room.Goals as goal

pub loop-alloc-init : goal.loop-alloc-init
loop-alloc-init c = room-self c.args.classes.now.items

pub loop-alloc-preserved : goal.loop-alloc-preserved
loop-alloc-preserved c =
    subst (HasRoom c.args.classes.now.items)
    (sym (c.in_ok-push.ensures.items ∙ ap (λ z. c.loop-alloc.classes.items ++ z ∷ []) c.new.ensures))
    (room-more c.args.classes.now.items c.loop-alloc.classes.items c.loop-alloc.invariant)
