-- The worlds that legal runs lead to.
use Rattle.std.proofs.Common.{Option, [], ap, arith, length, refl, subst, sym, true, ℕ, ◌++◌, ◌+◌, ◌<◌, ◌∙◌, ◌∷◌, ◌≡◌, ◌≤◌}
use Rattle.pm_base.specs.declared.stamp.Line.{Line}
use Rattle.pm_plan.specs.Plans.{IsValid}
use Rattle.pm_plan.specs.declared.plan.Plan.{Plan}
use Rattle.pm_sim.proofs.Heads.{legal_append, made_append, run_append}
use Rattle.pm_sim.proofs.Kernel.{commit_law, deliveries_add, idle_is_done, least_law, links_same, messages_taken, nothing_below, numbers_low, waits_woken}
use Rattle.pm_sim.specs.Journals.{made_at}
use Rattle.pm_sim.specs.Reached.{AllTaken, Reached, ReachedOn, WorldTells}
use Rattle.pm_sim.specs.Ready.{IsIdle, WindowOk}
use Rattle.pm_sim.specs.Taken.{Limits, sum_to}
use Rattle.pm_sim.specs.Worlds.{Process, World, after_event, after_events, clps_of, commit, first_world, handed, is_legal, mail, may_commit, process}
use Rattle.pm_base.specs.declared.run.Event.TheVariants as event

pub reached_on : (p : Plan) → ReachedOn p
reached_on p = record {
  first = record { events = []; legal = refl; made = refl; world = refl };
  delivered = λ n w to from r e. record {
    events = r.events ++ event.Deliver to from ∷ [];
    legal = legal_append p (first_world p) r.events (event.Deliver to from ∷ [])
        r.legal (let g : is_legal p (after_events p (first_world p) r.events) (event.Deliver to from) ≡ true =
        subst (λ z. is_legal p z (event.Deliver to from) ≡ true) r.world e in rw g refl);
    made = made_append r.events (event.Deliver to from ∷ []) ∙ (let a = r.made in omega arith);
    world = ap (λ z. after_event p z (event.Deliver to from)) r.world
        ∙ sym (run_append p (first_world p) r.events (event.Deliver to from ∷ []));
  };
  committed = λ n w l r e. record {
    events = r.events ++ event.Commit l ∷ [];
    legal = legal_append p (first_world p) r.events (event.Commit l ∷ []) r.legal (let g : may_commit
        (after_events p (first_world p) r.events) l ≡ true = subst (λ z. may_commit z l ≡ true) r.world e in rw g refl);
    made = made_append r.events (event.Commit l ∷ []) ∙ (let a = r.made in omega arith);
    world = ap (λ z. commit z l) r.world ∙ sym (run_append p (first_world p) r.events (event.Commit l ∷ []));
  };
}

pub world_tells : (p : Plan) (n : ℕ) (w : World) → IsValid p → Reached p n w → WorldTells p w
world_tells p n w h r = subst (WorldTells p) (sym r.world) (record {
  least = least_law p r.events h r.legal;
  links = links_same p r.events h r.legal;
  kept = nothing_below p r.events h r.legal;
  woken = waits_woken p r.events h r.legal;
  handed = λ k may. commit_law p r.events k h r.legal may;
})

pub all_taken : (p : Plan) (n : ℕ) (w : World) → IsValid p → (r : Reached p n w) → n < 20000000 → AllTaken p r.events w
all_taken p n w h r few =
    subst (AllTaken p r.events) (sym r.world) (messages_taken p r.events h r.legal (let a = r.made in omega arith))

pub all_low : (p : Plan) (n : ℕ) (w : World) → IsValid p → Reached p n w → n ≤ 20000000 → Limits p w
all_low p n w h r few =
    subst (Limits p) (sym r.world) (numbers_low p r.events h r.legal (let a = r.made in omega arith))

pub made_sums : (p : Plan) (n : ℕ) (w : World)
    → IsValid p → (r : Reached p n w) → sum_to (λ i. made_at p (process p i) r.events) (clps_of p + length p.agents) ≡ n
made_sums p n w h r = deliveries_add p r.events h r.legal ∙ r.made

pub some_ready_in : (p : Plan) (n : ℕ) (w : World) → IsValid p → Reached p n w → (windows : Process → Option Line)
    → ((k : Process) → WindowOk w (windows k)) → IsIdle w windows → mail w.links ≡ []
some_ready_in p n w h r windows = subst (λ z. ((k : Process) → WindowOk z (windows k))
    → IsIdle z windows → mail z.links ≡ []) (sym r.world) (idle_is_done p r.events h r.legal windows)
