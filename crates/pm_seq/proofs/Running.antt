-- What a run keeps at a turn.
use Rattle.std.proofs.Common.{◌≡◌, ℕ, ◌<◌, List, set, Bool, true, false, Option, Some, None, IfSome, cond, nat_le, length, sym, ap, ◌∙◌, subst, arith}
use Rattle.std.specs.Prelude.{slice_get}
use Rattle.std.specs.List.{AllByRecursion}
use Rattle.std.specs.BTreeSet.{BTreeSet}
use Rattle.pm_base.specs.declared.stamp.Stamp.{Stamp}
use Rattle.pm_plan.specs.declared.plan.AgentRow.{AgentRow}
use Rattle.pm_plan.specs.declared.plan.Plan.{Plan}
use Rattle.pm_model.proofs.Deeds.{deed-waits}
use Rattle.pm_model.proofs.Turns.{later-rises, least-due, turn-falls}
use Rattle.pm_model.proofs.Rises.{own-time}
use Rattle.pm_model.specs.Entries.{IsOwnTime}
use Rattle.pm_model.specs.declared.AgentState.{AgentState}
use Rattle.pm_model.specs.declared.Deed.{Deed}
use Rattle.pm_model.specs.declared.State.{State}
use Rattle.pm_model.specs.Runs.{IsDue, IsTimely, deed, due, later, least_stamp, moved, scene_of}
use Rattle.pm_seq.proofs.QueueLaws.{queue-moves, queue-same}
use Rattle.pm_seq.proofs.Turns.{turn-is}
use Rattle.pm_seq.specs.Queues.{has, with_next, without, IsQueue, IsRunning}

due-later : (t x : ℕ) (b : Bool) → t < x → IfSome (cond b (Some x) None) (λ u. t < u)
due-later t x true lt = lt
due-later t x false lt = tt

-- the next time of an agent that is there
abbrev next_of : Option AgentState → Option ℕ
next_of None = None
next_of (Some a) = a.next

timely-with : (plan : Plan) (s r : State) → r.agents ≡ s.agents → IsTimely plan s → IsTimely plan r
timely-with plan s r e ok = record {
  horizon = ok.horizon;
  agents = subst (λ (agents : List AgentState). AllByRecursion (IsDue plan) agents) (sym e) ok.agents;
  count = ap length e ∙ ok.count;
}

pub running-moves : (plan : Plan) (s r : State) (queue new : BTreeSet Stamp) (st : Stamp) (row : AgentRow) (agent : AgentState) (d : Deed) (next : Option ℕ)
    → IsRunning plan s queue → least_stamp 0 s.agents ≡ Some st → slice_get plan.agents st.agent ≡ Some row → slice_get s.agents st.agent ≡ Some agent
    → deed (scene_of plan s st row agent) ≡ Some d → next ≡ due plan (later st.time d.act.wait)
    → r.agents ≡ set s.agents st.agent (record { regs = d.act.regs; next = next })
    → ((q : Stamp) → has new q ≡ without st (with_next st.agent next (has queue)) q) → IsRunning plan r new
running-moves plan s r queue new st row agent d next run least row_is agent_is deed_is next_is agents_are moves =
    let turn = turn-is plan s st row agent d least row_is agent_is deed_is in
    let ok : IsTimely plan (moved plan s st d).state = (turn-falls plan s (moved plan s st d) turn run.timely).1 in
    let own : IsOwnTime plan s st = own-time plan s (moved plan s st d) turn in
    let same : agent.next ≡ Some st.time = ap (λ (o : Option AgentState). next_of o) (sym agent_is ∙ own.was) ∙ own.at in
    let by = least-due plan s st run.timely least in
    let up : st.time < later st.time d.act.wait = later-rises st.time d.act.wait (deed-waits (scene_of plan s st row agent) d deed_is) (omega (arith, run.timely.horizon, by)) in
    let after : IfSome next (λ t. st.time < t) = rw next_is (due-later st.time (later st.time d.act.wait) (nat_le (later st.time d.act.wait) plan.horizon) up) in
    let new_agents : r.agents ≡ (moved plan s st d).state.agents =
    agents_are ∙ ap (λ n. set s.agents st.agent (record { regs = d.act.regs; next = n })) next_is in
    record {
      limits = run.limits;
      timely = timely-with plan (moved plan s st d).state r new_agents ok;
      queue = subst (λ (agents : List AgentState). IsQueue agents new) (sym agents_are)
          (queue-moves s.agents queue new st agent (record { regs = d.act.regs; next = next }) run.queue agent_is same after moves);
    }

-- a queue with the same stamps
pub running-same : (plan : Plan) (s : State) (queue new : BTreeSet Stamp) → new.keys ≡ queue.keys → IsRunning plan s queue → IsRunning plan s new
running-same plan s queue new e run = record { limits = run.limits; timely = run.timely; queue = queue-same s.agents queue new e run.queue }
