use Rattle.std.proofs.Common.{true, ◌^◌, ◌+◌}
use Rattle.pm_saved.proofs.Failing.{on_ok}
use Rattle.pm_alp.specs.States.{actor_of}
use Rattle.pm_alp.proofs.Going.{cut-back, ready-back, resumed}
use Rattle.pm_alp.proofs.state.resume.Goals as goal

pub go_on-requires-clause-ready : goal.go_on-requires-clause-ready
go_on-requires-clause-ready c =
    let old = c.args.state.now in
    let p = c.requires.there.0 in
    let e = c.requires.there.1 in
    let x = record p.sense { complete = true } in
    ready-back old c.cut_back.new.self c.forget.new.told c.args.at p x c.requires.ready e
    (cut-back c.args.at p x old.saved c.finish.new.self c.cut_back.new.self e (c.finish.ensures p e) c.cut_back.ensures)
    c.forget.ensures

pub returns-clause-moved : goal.returns-clause-moved
returns-clause-moved c = on_ok c.go_on.result _ _
    (λ moved. λ p e.
    let old = c.args.state.now in
    let x = record p.sense { complete = true } in
    resumed (2 ^ 32 + 1) (actor_of c.args.parts.now) old c.go_on.new.state c.cut_back.new.self c.forget.new.told p x
    c.args.out.now c.go_on.new.out
    (cut-back c.args.at p x old.saved c.finish.new.self c.cut_back.new.self e
    (c.finish.ensures p e) c.cut_back.ensures) moved)
    c.go_on.ensures.moved
