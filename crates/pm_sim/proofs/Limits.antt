-- While at most 20,000,000 deliveries were made no number is above its type's end.
use Rattle.std.proofs.Common.{List, [], arith, get_or, ℕ, ◌*◌, ◌+◌, ◌≤◌}
use Rattle.pm_base.specs.declared.rows.Parts.{Parts}
use Rattle.pm_base.specs.declared.run.Event.{Event}
use Rattle.pm_message.specs.declared.Message.{Message}
use Rattle.pm_plan.specs.declared.plan.Plan.{Plan}
use Rattle.pm_alp.specs.Agents.{no_agent}
use Rattle.pm_sim.proofs.Firsts.{PlanFits}
use Rattle.pm_sim.proofs.Horizons.{run_times}
use Rattle.pm_sim.proofs.Letters.{map_in, message_of}
use Rattle.pm_sim.proofs.Made.{run_turns}
use Rattle.pm_sim.proofs.Places.{Sim}
use Rattle.pm_sim.proofs.Seqs.{Numbers, made_most, run_numbers}
use Rattle.pm_sim.proofs.Wholes.{Whole, first_whole, whole_run}
use Rattle.pm_sim.specs.Journals.{made, made_at}
use Rattle.pm_sim.specs.Sims.{In, MailOk, num_of, vars_of}
use Rattle.pm_sim.specs.Taken.{NumbersStayLow, TurnOf}
use Rattle.pm_sim.specs.Worlds.{Mail, World, after_events, committed, first_world, mail}
use Rattle.pm_sim.specs.Worlds.Process.{AtAgent}
use Rattle.pm_message.specs.declared.Message.TheVariants as message

turn_more : (k m : ℕ) (x : Message) → k ≤ m → TurnOf k x → TurnOf m x
turn_more k m (message.Give g) le h = (let a : g.turn ≤ k = h in omega arith)
turn_more k m (message.Move v z r) le h = λ y i. (let a = h y i in omega arith)
turn_more k m (message.Wake n z) le h = tt
turn_more k m (message.Ask n z y) le h = tt
turn_more k m (message.Put r_n r_t v r_c) le h = tt
turn_more k m (message.Cut r_n r_t v) le h = tt
turn_more k m (message.Finish n z) le h = tt
turn_more k m (message.Grow j z u y) le h = tt

-- what was issued is older than its agent's next number
pub letter_seq : (p : Plan) (q : _) (w : World) (recs : ℕ → Parts) (sim : Sim p q w recs) (x : Mail)
    → In x (mail w.links) → (a : ℕ) × ((num_of x.message).seq ≤ (get_or w.agents a no_agent).seq)
letter_seq p q w recs sim x i = by x.message (sim.core.mail x.message (map_in message_of (mail w.links) x i)).0
  where
    by : (m : Message) → MailOk p sim.issued m → (a : ℕ) × ((num_of m).seq ≤ (get_or w.agents a no_agent).seq)
    by (message.Wake n s) ok = (n.agent, (let h = (sim.core.fresh _ ok).1 in omega arith))
    by (message.Ask n s y) ok = (n.agent, (let h = (sim.core.fresh _ ok).1 in omega arith))
    by (message.Put r_n r_t v r_c) ok = (r_n.agent, (let h = (sim.core.fresh _ ok).1 in omega arith))
    by (message.Cut r_n r_t v) ok = (r_n.agent, (let h = (sim.core.fresh _ ok.1).1 in omega arith))
    by (message.Give g) ok = (g.num.agent, (let h = (sim.core.fresh _ ok.1).1 in omega arith))
    by (message.Finish n s) ok = (n.agent, (let h = (sim.core.fresh _ ok.2).1 in omega arith))
    by (message.Move v s r) ok = (0, omega arith)
    by (message.Grow k s u y) ok = (0, omega arith)

times_up : (a b k : ℕ) → a ≤ b → a * k ≤ b * k
times_up a b k le = grind arith

times_right : (a j k : ℕ) → j ≤ k → a * j ≤ a * k
times_right a j k le = grind arith

pub run_limits : (p : Plan) → PlanFits p → vars_of p ≤ 4096 → (es : List Event) → NumbersStayLow p es
run_limits p fit vars es l few =
    let w : World = after_events p (first_world p) es in
    let h : Whole p w (committed p es) = whole_run p (first_world p) [] es (first_whole p fit) l in
    let low = run_turns p fit es l in
    let nums : (a : ℕ) → Numbers (vars_of p) (made_at p (AtAgent a) es) (get_or w.agents a no_agent) =
    run_numbers p fit es l in
    let bound : (a : ℕ) → (get_or w.agents a no_agent).seq ≤ 81940000001 =
    λ a. most (vars_of p) (made_at p (AtAgent a) es)
    (get_or w.agents a no_agent).seq vars (let b = made_most p (AtAgent a) es in omega arith) (nums a).seq in
    record {
      turns = λ x i. turn_more (made es) 20000000 x.message few (low.mail x i);
      records = λ c v r e y i. (let a = low.records c v r e y i in omega arith);
      numbers = bound;
      messages = λ x i.
          (let o = letter_seq p h.q w h.full.recs h.full.sim x i in let b = bound o.0 in let a = o.1 in omega arith);
      steps = λ a. (let b = (nums a).steps in let d = made_most p (AtAgent a) es in omega arith);
      times = run_times p fit es l;
    }
  where
    most : (n m s : ℕ) → n ≤ 4096 → m ≤ 20000000 → s ≤ 1 + m * (n + 1) → s ≤ 81940000001
    most n m s a b c = (let d =
        times_up m 20000000 (n + 1) b in let e = times_right 20000000 (n + 1) 4097 (omega arith) in omega arith)
