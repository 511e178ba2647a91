-- What an agent sends.
use Rattle.pm_base.specs.Stamps.{num_eq}
use Rattle.pm_saved.specs.Senses.{add_kept, answer, answers, hits_eq, kept_turn}
use Rattle.pm_saved.specs.Steps.{act_cuts, cuts_of, regs_after, withdrawn}
use Rattle.pm_saved.specs.Spots.{Spot}
use Rattle.pm_saved.specs.declared.kept.KeptStep.{KeptStep}
use Rattle.pm_saved.specs.declared.kept.KeptSense.{KeptSense}
use Rattle.pm_saved.specs.declared.kept.KeptAct.{KeptAct}
use Rattle.pm_alp.specs.declared.agent.Awaited.{Awaited}
use Rattle.pm_alp.specs.declared.agent.Agent.{Agent}
use Rattle.std.proofs.Common.{◌≡◌, ℕ, ◌+◌, ◌≤◌, Bool, true, false, cond, List, [], ◌∷◌, ◌++◌, nat_le, refl, arith, ◌∙◌, Option, Some, None, ℤ}
use Rattle.pm_base.specs.declared.rows.GiveRow.{GiveRow}
use Rattle.pm_base.specs.declared.stamp.Num.{Num}
use Rattle.pm_base.specs.declared.stamp.Stamp.{Stamp}
use Rattle.pm_base.specs.declared.value.Query.{Query}
use Rattle.pm_base.specs.declared.value.Write.{Write}
use Rattle.pm_message.specs.declared.Message.{Message}
use Rattle.pm_model.specs.Runs.{later}
use Rattle.pm_plan.specs.declared.plan.Plan.{Plan}
use Rattle.pm_step.specs.declared.Next.{Next}
use Rattle.pm_alp.specs.Agents.{act_sends, at_open, finished, go_on, kept_in, next_wake, no_sends, on_finish, on_give, on_wake, puts_of, rolled_back, step_of, wake_of, went_on}
use Rattle.pm_sim.specs.Worlds.{actor_of, rule_at}
use Rattle.pm_sim.specs.Sims.{Each, tally}
use Rattle.pm_sim.proofs.Goes.{QueryIn, PlanOk}
use Rattle.pm_sim.proofs.Going.{tally_append}
use Rattle.pm_sim.proofs.Lists.{each_append}
use Rattle.pm_base.specs.declared.value.Query.TheVariants as query
use Rattle.pm_message.specs.declared.Message.TheVariants as message
use Rattle.pm_step.specs.declared.Next.TheVariants as outcome

-- agent i may send this, its next number's seq being seq; n variables
abbrev pub Out : ℕ → ℕ → ℕ → Message → Type 0
Out i seq n (message.Wake k s) = k.agent ≡ i
Out i seq n (message.Ask k s q) = (k ≡ record { agent = i; seq = seq }) × QueryIn n q
Out i seq n (message.Put r_n r_t v r_c) = Unit {0}
Out i seq n (message.Cut r_n r_t v) = Unit {0}
Out i seq n (message.Give g) = ⊥
Out i seq n (message.Finish k s) = ⊥
Out i seq n (message.Move v s r) = ⊥
Out i seq n (message.Grow k s u w) = ⊥

abbrev pub any_ask : Message → Bool
any_ask (message.Ask k s q) = true
any_ask (message.Wake k s) = false
any_ask (message.Put r_n r_t v r_c) = false
any_ask (message.Cut r_n r_t v) = false
any_ask (message.Give g) = false
any_ask (message.Finish k s) = false
any_ask (message.Move v s r) = false
any_ask (message.Grow k s u w) = false

pub record SentOk (i seq n : ℕ) (sent : List Message) : Type 0 where
  pub each : Each (Out i seq n) sent
  pub one : tally any_ask sent ≤ 1

puts_out : (i seq n : ℕ) (s : Stamp) (k : ℕ) (ws : List Write)
    → Each (Out i seq n) (puts_of i s k ws) × (tally any_ask (puts_of i s k ws) ≡ 0)
puts_out i seq n s k [] = (tt, refl)
puts_out i seq n s k (w ∷ ws) = (let r = puts_out i seq n s (k + 1) ws in ((tt, r.0), r.1))

cuts_out : (i seq n : ℕ) (s : Stamp) (ms : List Num) (ws : List Write)
    → Each (Out i seq n) (cuts_of s ms ws) × (tally any_ask (cuts_of s ms ws) ≡ 0)
cuts_out i seq n s [] ws = (tt, refl)
cuts_out i seq n s (m ∷ ms) [] = (tt, refl)
cuts_out i seq n s (m ∷ ms) (w ∷ ws) = (let r = cuts_out i seq n s ms ws in ((tt, r.0), r.1))

withdrawn_out : (i seq n : ℕ) (ss : List KeptStep)
    → Each (Out i seq n) (withdrawn ss) × (tally any_ask (withdrawn ss) ≡ 0)
withdrawn_out i seq n [] = (tt, refl)
withdrawn_out i seq n (s ∷ ss) =
    let r = withdrawn_out i seq n ss in
    let o = one s.act in (
      each_append (Out i seq n) (act_cuts s.stamp s.act) (withdrawn ss) o.0 r.0,
      tally_append any_ask (act_cuts s.stamp s.act) (withdrawn ss) ∙ (let a = o.1 in let b = r.1 in omega arith),
    )
  where
    one : (o : Option KeptAct) → Each (Out i seq n) (act_cuts s.stamp o) × (tally any_ask (act_cuts s.stamp o) ≡ 0)
    one None = (tt, refl)
    one (Some a) = cuts_out i seq n s.stamp a.nums a.entry.writes

none_out : (i seq n : ℕ) → SentOk i seq n []
none_out i seq n = record { each = tt; one = omega arith }

module _ (p : Plan) (n i : ℕ) (ok : PlanOk p n i) where
  went_out : (base : List ℤ) (front : List KeptStep)
      (s : Stamp) (senses : List KeptSense) (seq : ℕ) (regs : List ℤ) (done : List _) (out : Next)
      → step_of (rule_at p i) s regs done ≡ out
      → SentOk i seq n (went_on (actor_of p i) base front s senses seq out).sent
  went_out base front s senses seq regs done (outcome.Ask q) e =
      record { each = ((refl, ok.asks s regs done q e), tt); one = omega arith }
  went_out base front s senses seq regs done (outcome.Act d) e = go (nat_le (later s.time d.wait) p.horizon)
    where
      go : (b : Bool) → SentOk i seq n (act_sends i base front s senses seq d b).sent
      go true = (let r = puts_out i seq n s seq d.writes in record {
        each = each_append (Out i seq n) (puts_of i s seq d.writes) (wake_of (next_wake true i s seq d)) r.0 (refl, tt);
        one = (let a = r.1 in let b =
            tally_append any_ask (puts_of i s seq d.writes) (wake_of (next_wake true i s seq d)) in omega arith);
      })
      go false = (let r = puts_out i seq n s seq d.writes in record {
        each = each_append (Out i seq n) (puts_of i s seq d.writes) [] r.0 tt;
        one = (let a = r.1 in let b = tally_append any_ask (puts_of i s seq d.writes) [] in omega arith);
      })

  module _ (a : Agent) where
    go_out : (front : List KeptStep) (s : Stamp) (done : List KeptSense)
        → SentOk i a.seq n (go_on (actor_of p i) a.base front s done a.seq).sent
    go_out front s done = went_out a.base front s done a.seq
        (regs_after a.base front) (answers done) (step_of (rule_at p i) s (regs_after a.base front) (answers done)) refl

    open_out : (spot : Spot) (y : Query) (x : KeptSense) → SentOk i a.seq n (at_open (actor_of p i) a spot y x).sent
    open_out spot (query.One v) x = go_out spot.front spot.here.stamp _
    open_out spot (query.Class k w) x = none_out i a.seq n

    back_out : (spot : Spot) (x : KeptSense) → SentOk i a.seq n (rolled_back (actor_of p i) a spot x).sent
    back_out spot x =
        let r = go_out spot.front spot.here.stamp (spot.before ++ x ∷ []) in
        let c = withdrawn_out i a.seq n (spot.here ∷ spot.rest) in
        record {
          each = each_append (Out i a.seq n) (withdrawn (spot.here ∷ spot.rest)) _ c.0 r.each;
          one = (let y = c.1 in let z = r.one in let t = tally_append any_ask (withdrawn (spot.here ∷ spot.rest)) (go_on
              (actor_of p i) a.base spot.front spot.here.stamp (spot.before ++ x ∷ []) a.seq).sent in omega arith);
        }

    pub give_out : (g : GiveRow) (o : Option Spot) → SentOk i a.seq n (on_give (actor_of p i) a g o).sent
    give_out g None = none_out i a.seq n
    give_out g (Some spot) = go (nat_le g.turn (kept_turn g.var spot.sense.hits))
        spot.sense.complete (hits_eq (answer x.hits) (answer spot.sense.hits))
      where
        x : KeptSense
        x = record {
          num = spot.sense.num;
          query = spot.sense.query;
          complete = spot.sense.complete;
          hits = add_kept (record { var = g.var; turn = g.turn; hit = g.hit }) spot.sense.hits;
        }

        go : (b c d : Bool) → SentOk i a.seq n (cond b (no_sends a) (cond c (cond d (no_sends (kept_in a spot x))
            (rolled_back (actor_of p i) a spot x)) (at_open (actor_of p i) a spot spot.sense.query x))).sent
        go true c d = none_out i a.seq n
        go false true true = none_out i a.seq n
        go false true false = back_out spot x
        go false false d = open_out spot spot.sense.query x

    pub wake_out : (k : Num) (o : Option Awaited) → SentOk i a.seq n (on_wake (actor_of p i) a k o).sent
    wake_out k None = none_out i a.seq n
    wake_out k (Some w) = go (num_eq k w.num)
      where
        go : (b : Bool)
            → SentOk i a.seq n (cond b (go_on (actor_of p i) a.base a.steps w.stamp [] a.seq) (no_sends a)).sent
        go true = go_out a.steps w.stamp []
        go false = none_out i a.seq n

    pub finish_out : (o : Option Spot) → SentOk i a.seq n (on_finish (actor_of p i) a o).sent
    finish_out None = none_out i a.seq n
    finish_out (Some spot) = go spot.sense.complete spot.sense.query
      where
        go : (b : Bool) (y : Query) → SentOk i a.seq n (finished b (actor_of p i) a spot y).sent
        go true y = none_out i a.seq n
        go false (query.One v) = none_out i a.seq n
        go false (query.Class k w) = go_out spot.front spot.here.stamp _
