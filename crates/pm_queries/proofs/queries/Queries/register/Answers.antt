use Rattle.std.proofs.Common.{ap}
use Rattle.std.specs.BTreeMap.{get, is_at}
use Rattle.std.specs.Map.{lookup}
use Rattle.pm_queries.specs.Laid.{num_cmp}
use Rattle.pm_queries.proofs.Registers.{back-laid, back-same, laid-alike, new-laid, new-order, new-queries, on_err, room-laid, room-same}
use Rattle.pm_queries.proofs.queries.Queries.register.Goals as goal

pub invariant_of-self : goal.invariant_of-self
invariant_of-self c =
    room-laid c.self.inside.classes.items (get num_cmp c.self.inside.spots)
    c.self.invariant c.args.self.now c.self.view_is c.make_room.new.classes.items c.make_room.ensures.same

pub returns-in_err-make_room-clause-err : goal.returns-in_err-make_room-clause-err
returns-in_err-make_room-clause-err c =
    on_err c.from_residual.result
    (room-same c.self.inside.classes.items (get num_cmp c.self.inside.spots)
    c.self.invariant c.args.self.now c.self.view_is c.make_room.new.classes.items c.make_room.ensures.same)

pub invariant_of-self-in_err-insert : goal.invariant_of-self-in_err-insert
invariant_of-self-in_err-insert c =
    laid-alike c.make_room.new.classes.items (get num_cmp c.self.inside.spots) (get num_cmp c.insert.new.self)
    (room-laid c.self.inside.classes.items (get num_cmp c.self.inside.spots)
    c.self.invariant c.args.self.now c.self.view_is c.make_room.new.classes.items c.make_room.ensures.same)
    (λ n. ap (λ es. lookup (is_at (num_cmp n)) es) c.in_err-insert.ensures.err)

pub returns-in_err-insert-clause-err : goal.returns-in_err-insert-clause-err
returns-in_err-insert-clause-err c =
    on_err c.from_residual-in_err-insert.result
    (room-same c.self.inside.classes.items (get num_cmp c.self.inside.spots)
    c.self.invariant c.args.self.now c.self.view_is c.make_room.new.classes.items c.make_room.ensures.same)

pub add-requires : goal.add-requires
add-requires c =
    new-order c.self.inside.classes.items (get num_cmp c.self.inside.spots)
    c.self.invariant c.args.self.now c.self.view_is c.make_room.new.classes.items c.make_room.ensures.same
    c.args.row c.requires c.in_ok-make_room.ensures.room c.index_mut-rows.result.now c.index_mut-rows.ensures.value

pub invariant_of-self-in-Ok : goal.invariant_of-self-in-Ok
invariant_of-self-in-Ok c =
    new-laid c.self.inside.classes.items (get num_cmp c.self.inside.spots)
    c.self.invariant c.args.self.now c.self.view_is c.make_room.new.classes.items c.make_room.ensures.same
    c.args.row c.requires c.in_ok-make_room.ensures.room c.index_mut-rows.result.now c.index_mut-rows.ensures.value
    c.add.new.self (get num_cmp c.insert.new.self) c.in-Ok.ensures.ok c.in_ok-insert.ensures.updates.0

pub invariant_of-self-in-Err : goal.invariant_of-self-in-Err
invariant_of-self-in-Err c =
    back-laid c.self.inside.classes.items (get num_cmp c.self.inside.spots)
    c.self.invariant c.args.self.now c.self.view_is c.make_room.new.classes.items c.make_room.ensures.same
    c.args.row c.requires c.in_ok-make_room.ensures.room c.index_mut-rows.result.now c.index_mut-rows.ensures.value
    c.add.new.self (get num_cmp c.insert.new.self)
    (get num_cmp c.remove.new.self) c.in-Err.ensures.err c.in_ok-insert.ensures.updates.0 c.remove.ensures.updates.0

pub returns-in-Ok-clause-ok : goal.returns-in-Ok-clause-ok
returns-in-Ok-clause-ok c =
    new-queries c.self.inside.classes.items (get num_cmp c.self.inside.spots)
    c.self.invariant c.args.self.now c.self.view_is c.make_room.new.classes.items c.make_room.ensures.same
    c.args.row c.requires c.in_ok-make_room.ensures.room
    c.index_mut-rows.result.now c.index_mut-rows.ensures.value c.add.new.self c.in-Ok.ensures.ok

pub returns-in-Err-clause-err : goal.returns-in-Err-clause-err
returns-in-Err-clause-err c =
    back-same c.self.inside.classes.items (get num_cmp c.self.inside.spots)
    c.self.invariant c.args.self.now c.self.view_is c.make_room.new.classes.items c.make_room.ensures.same
    c.args.row c.requires c.in_ok-make_room.ensures.room
    c.index_mut-rows.result.now c.index_mut-rows.ensures.value c.add.new.self c.in-Err.ensures.err
