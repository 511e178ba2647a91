use Rattle.std.proofs.Common.{◌≡◌, ◌++◌, ◌∙◌, Some, ap, arith, length, refl, subst, sym, true}
use Rattle.std.specs.Prelude.{slice_get}
use Rattle.std.specs.List.Sorted.{IsPermutation}
use Rattle.pm_model.specs.Entries.{run_below}
use Rattle.pm_plan.proofs.Valid.{valid_limits}
use Rattle.pm_sim.specs.Worlds.{commit, handed, may_commit}
use Rattle.pm_trace.specs.Merges.{StandsOnce}
use Rattle.pm_core.specs.Commits.{handed_by}
use Rattle.pm_core.specs.Views.{WorldView, committed, world_of}
use Rattle.pm_core.specs.declared.arrivals.Processes.{Processes}
use Rattle.pm_core.proofs.Committing.{commit_stands, commit_world, handed_once, handed_same, sequential, steps_few}
use Rattle.pm_core.proofs.Delivering.{alps_all, view_same}
use Rattle.pm_core.proofs.world.World.commit.Goals as goal

pub count_ready-room-requires-clause-few : goal.count_ready-room-requires-clause-few
count_ready-room-requires-clause-few c =
    let s = c.self.inside in
    let all = alps_all s.processes s.mail s.line s.made c.self.invariant.valid (c.self.invariant.stands c.if-self.false) in
    let few = (valid_limits s.processes.plan.now c.self.invariant.valid).agents in
    let e = ap length c.as_slice.ensures.value in
    omega (arith, all, few, e)

pub count_ready-room-requires-clause-steps : goal.count_ready-room-requires-clause-steps
count_ready-room-requires-clause-steps c = λ i v e.
    let s = c.self.inside in
    steps_few s.processes s.mail s.line c.args.line s.made c.self.invariant.valid (c.self.invariant.stands c.if-self.false)
    i v (subst (λ z. slice_get z i ≡ Some v) c.as_slice.ensures.value e)

pub in_stamp_order-requires : goal.in_stamp_order-requires
in_stamp_order-requires c =
    let s = c.self.inside in
    let may : may_commit (world_of s.processes s.mail s.line) c.args.line ≡ true =
    subst (λ (v : WorldView). may_commit v.world c.args.line ≡ true) (sym c.self.view_is) c.requires in
    let all : c.commit_alps.new.entries.items ≡ handed_by c.args.line s.processes.alps.items =
    c.commit_alps.ensures.entries ∙ ap (λ z. z ++ handed_by c.args.line s.processes.alps.items) c.in_ok-entries.ensures.items in
    subst StandsOnce (sym all) (handed_once s.processes s.mail s.line c.args.line s.made c.self.invariant.valid
    (c.self.invariant.stands c.if-self.false) may)

pub invariant_of-self : goal.invariant_of-self
invariant_of-self c =
    let s = c.self.inside in
    let may : may_commit (world_of s.processes s.mail s.line) c.args.line ≡ true =
    subst (λ (v : WorldView). may_commit v.world c.args.line ≡ true) (sym c.self.view_is) c.requires in
    record {
      valid = c.self.invariant.valid;
      stands = λ b. commit_stands s.processes
          (record { plan = s.processes.plan; clps = c.commit_clps.new.clps; alps = c.commit_alps.new.alps })
          s.mail s.line c.args.line s.made c.self.invariant.valid refl c.commit_clps.ensures c.commit_alps.ensures.processes
          (c.self.invariant.stands b) may;
    }

pub returns-clause-world : goal.returns-clause-world
returns-clause-world c =
    let s = c.self.inside in
    let s' : Processes = record { plan = s.processes.plan; clps = c.commit_clps.new.clps; alps = c.commit_alps.new.alps } in
    view_same s.processes.plan.now s.processes.plan.now (world_of s' s.mail c.args.line)
    (commit (world_of s.processes s.mail s.line) c.args.line) s.made s.made s.spoilt s.spoilt refl
    (commit_world s.processes s' s.mail s.line c.args.line s.made c.self.invariant.valid refl c.commit_clps.ensures
    c.commit_alps.ensures.processes) refl refl
    ∙ ap (λ v. committed v c.args.line) c.self.view_is

pub returns-clause-entries : goal.returns-clause-entries
returns-clause-entries c =
    let s = c.self.inside in
    let may : may_commit (world_of s.processes s.mail s.line) c.args.line ≡ true =
    subst (λ (v : WorldView). may_commit v.world c.args.line ≡ true) (sym c.self.view_is) c.requires in
    let all : c.commit_alps.new.entries.items ≡ handed_by c.args.line s.processes.alps.items =
    c.commit_alps.ensures.entries ∙ ap (λ z. z ++ handed_by c.args.line s.processes.alps.items) c.in_ok-entries.ensures.items in
    handed_same s.processes s.mail s.line c.args.line s.made c.self.invariant.valid
    (c.self.invariant.stands c.if-self.false) c.in_stamp_order.result may
    (subst (λ z. IsPermutation z c.in_stamp_order.result) all c.in_stamp_order.ensures.all) c.in_stamp_order.ensures.order
    ∙ ap (λ (v : WorldView). handed v.world c.args.line) c.self.view_is

pub returns-clause-sequential : goal.returns-clause-sequential
returns-clause-sequential c =
    let s = c.self.inside in
    let may : may_commit (world_of s.processes s.mail s.line) c.args.line ≡ true =
    subst (λ (v : WorldView). may_commit v.world c.args.line ≡ true) (sym c.self.view_is) c.requires in
    subst (λ (v : WorldView). run_below v.plan c.args.line ≡ run_below v.plan v.world.line ++ c.in_stamp_order.result)
    c.self.view_is (sequential s.processes s.mail s.line c.args.line s.made c.self.invariant.valid
    (c.self.invariant.stands c.if-self.false) may ∙ ap (λ z. run_below s.processes.plan.now s.line ++ z)
    (sym (returns-clause-entries c ∙ ap (λ (v : WorldView). handed v.world c.args.line) (sym c.self.view_is))))
