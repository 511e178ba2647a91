use Rattle.std.proofs.Common.{◌+◌, ◌^◌}
use Rattle.pm_saved.proofs.Failing.{on_ok}
use Rattle.pm_alp.specs.States.{actor_of}
use Rattle.pm_alp.proofs.Places.{found-there}
use Rattle.pm_alp.proofs.Taking.{newer-moved, older-stays}
use Rattle.pm_alp.proofs.takes.on_give.Goals as goal

pub returns-then-turn-turn_of-clause-moved : goal.returns-then-turn-turn_of-clause-moved
returns-then-turn-turn_of-clause-moved c =
    older-stays (2 ^ 32 + 1) (actor_of c.args.parts.now) c.args.row.now c.args.state.now c.in-Some.at c.turn_of.result
    c.args.out.now c.requires.ready c.in-Some.ensures.place
    (found-there c.args.row.now.num c.args.state.now.saved.steps c.in-Some.at c.in-Some.ensures.place
    c.in-Some.ensures.variant)
    c.turn_of.ensures c.if-turn-turn_of.true

pub returns-else-turn-turn_of-clause-moved : goal.returns-else-turn-turn_of-clause-moved
returns-else-turn-turn_of-clause-moved c = on_ok c.give_at.result _ _
    (λ moved.
    newer-moved (2 ^ 32 + 1) (actor_of c.args.parts.now) c.args.row.now c.args.state.now c.give_at.new.state c.in-Some.at
    c.turn_of.result c.args.out.now c.give_at.new.out c.in-Some.ensures.place
    (found-there c.args.row.now.num c.args.state.now.saved.steps c.in-Some.at c.in-Some.ensures.place
    c.in-Some.ensures.variant)
    c.turn_of.ensures c.if-turn-turn_of.false moved)
    c.give_at.ensures.moved
