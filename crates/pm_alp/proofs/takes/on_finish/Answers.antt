use Rattle.std.proofs.Common.{◌+◌, ◌^◌}
use Rattle.pm_saved.proofs.Failing.{on_ok}
use Rattle.pm_alp.specs.States.{actor_of}
use Rattle.pm_alp.proofs.Places.{found-there}
use Rattle.pm_alp.proofs.Taking.{finish-moved}
use Rattle.pm_alp.proofs.takes.on_finish.Goals as goal

pub returns-in-Class-clause-moved : goal.returns-in-Class-clause-moved
returns-in-Class-clause-moved c = on_ok c.resume.result _ _
    (λ moved.
    finish-moved (2 ^ 32 + 1) (actor_of c.args.parts.now) c.args.num c.args.state.now c.resume.new.state c.in-Some.at
    c.complete.result c.query.result c.in-Class.class c.in-Class.window c.args.out.now c.resume.new.out
    c.in-Some.ensures.place
    (found-there c.args.num c.args.state.now.saved.steps c.in-Some.at c.in-Some.ensures.place c.in-Some.ensures.variant)
    c.complete.ensures c.if-complete.false c.query.ensures c.in-Class.is moved)
    c.resume.ensures.moved
