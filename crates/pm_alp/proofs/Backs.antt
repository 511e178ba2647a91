-- Numbers rise, and a changed answer is a rollback.
use Rattle.std.proofs.Common.{◌≡◌, refl, sym, ap, ◌∙◌, subst, ℕ, ◌+◌, ◌≤◌, nat_le, Bool, true, false}
use Rattle.std.proofs.Common.{if◌then◌else◌}
use Rattle.std.proofs.Common.{ℤ, List, [], ◌∷◌, ◌++◌, length, Option, Some, None, arith, append_assoc}
use Rattle.std.proofs.lemmas.Bool.Decides.{nat_tests}
use Rattle.pm_base.specs.Stamps.{num_eq}
use Rattle.pm_base.specs.declared.rows.GiveRow.{GiveRow}
use Rattle.pm_base.specs.declared.stamp.Num.{Num}
use Rattle.pm_base.specs.declared.stamp.Stamp.{Stamp}
use Rattle.pm_base.specs.declared.value.Query.{Query}
use Rattle.pm_base.specs.declared.value.Query.TheVariants as query
use Rattle.pm_message.specs.declared.Message.{Message}
use Rattle.pm_message.specs.declared.Message.TheVariants as message
use Rattle.pm_model.specs.Runs.{later}
use Rattle.pm_step.specs.declared.Next.{Next}
use Rattle.pm_step.specs.declared.Next.TheVariants as next
use Rattle.pm_saved.specs.Senses.{answer, answers, hits_eq, kept_turn}
use Rattle.pm_saved.specs.Spots.{Spot, find}
use Rattle.pm_saved.specs.Steps.{regs_after, withdrawn}
use Rattle.pm_saved.specs.declared.kept.KeptSense.{KeptSense}
use Rattle.pm_saved.specs.declared.kept.KeptStep.{KeptStep}
use Rattle.pm_alp.specs.Agents.{Actor, Sends, acted_step, agent_after, asking, at_open, finished, go_on}
use Rattle.pm_alp.specs.Agents.{on_finish, on_give, on_wake, rolled_back, went_on, with_hit}
use Rattle.pm_alp.specs.Laws.{HitsBack, IsBackAt, with_row}
use Rattle.pm_alp.specs.declared.agent.Agent.{Agent}
use Rattle.pm_alp.specs.declared.agent.Awaited.{Awaited}
use Rattle.pm_alp.proofs.Going.{seq-low}

went_rises : (p : Actor) (base : List ℤ) (front : List KeptStep) (s : Stamp) (senses : List KeptSense) (seq : ℕ)
    (n : Next)
    → seq ≤ (went_on p base front s senses seq n).agent.seq
went_rises p base front s senses seq (next.Ask q) = omega arith
went_rises p base front s senses seq (next.Act d) =
    let low = seq-low (nat_le (later s.time d.wait) p.horizon) (seq + length d.writes) in
    omega (arith, low)

goes_rises : (p : Actor) (base : List ℤ) (front : List KeptStep) (s : Stamp) (senses : List KeptSense) (seq : ℕ)
    → seq ≤ (go_on p base front s senses seq).agent.seq
goes_rises p base front s senses seq = went_rises p base front s senses seq (p.acts s (regs_after base front)
    (answers senses))

either : (n : ℕ) (b : Bool) (x y : Sends) → n ≤ x.agent.seq → n ≤ y.agent.seq → n ≤ (if b then x else y).agent.seq
either n true x y h k = h
either n false x y h k = k

wake_rises : (p : Actor) (a : Agent) (n : Num) (w : Option Awaited) → a.seq ≤ (on_wake p a n w).agent.seq
wake_rises p a n None = omega arith
wake_rises p a n (Some w) = either a.seq (num_eq n w.num) _ _ (goes_rises p a.base a.steps w.stamp [] a.seq)
    (omega arith)

open_rises : (p : Actor) (a : Agent) (s : Spot) (q : Query) (x : KeptSense) → a.seq ≤ (at_open p a s q x).agent.seq
open_rises p a s (query.One v) x = goes_rises p a.base s.front s.here.stamp _ a.seq
open_rises p a s (query.Class k w) x = omega arith

hit_rises : (p : Actor) (a : Agent) (s : Spot) (x : KeptSense) → a.seq ≤ (with_hit p a s x).agent.seq
hit_rises p a s x = either a.seq s.sense.complete _ _
    (either a.seq (hits_eq (answer x.hits) (answer s.sense.hits)) _ _ (omega arith)
    (goes_rises p a.base s.front s.here.stamp _ a.seq))
    (open_rises p a s s.sense.query x)

give_rises : (p : Actor) (a : Agent) (r : GiveRow) (o : Option Spot) → a.seq ≤ (on_give p a r o).agent.seq
give_rises p a r None = omega arith
give_rises p a r (Some s) = either a.seq (nat_le r.turn (kept_turn r.var s.sense.hits)) _ _ (omega arith)
    (hit_rises p a s (with_row r s.sense))

finished_rises : (b : Bool) (p : Actor) (a : Agent) (s : Spot) (q : Query) → a.seq ≤ (finished b p a s q).agent.seq
finished_rises true p a s q = omega arith
finished_rises false p a s (query.One v) = omega arith
finished_rises false p a s (query.Class k w) = goes_rises p a.base s.front s.here.stamp _ a.seq

finish_rises : (p : Actor) (a : Agent) (o : Option Spot) → a.seq ≤ (on_finish p a o).agent.seq
finish_rises p a None = omega arith
finish_rises p a (Some s) = finished_rises s.sense.complete p a s s.sense.query

-- an agent's next number never falls
pub numbers-rise : (p : Actor) (a : Agent) (m : Message) → a.seq ≤ (agent_after p a m).agent.seq
numbers-rise p a (message.Wake n s) = wake_rises p a n a.awaited
numbers-rise p a (message.Give r) = give_rises p a r (find r.num a.steps)
numbers-rise p a (message.Ask n s q) = omega arith
numbers-rise p a (message.Put n s v c) = omega arith
numbers-rise p a (message.Cut n s v) = omega arith
numbers-rise p a (message.Finish n s) = finish_rises p a (find n a.steps)
numbers-rise p a (message.Move v s r) = omega arith
numbers-rise p a (message.Grow k s u w) = omega arith

went_back : (p : Actor) (a : Agent) (s : Spot) (x : KeptSense) (n : Next)
    → IsBackAt a s x (record (went_on p a.base s.front s.here.stamp (s.before ++ x ∷ []) a.seq n) {
      sent = withdrawn (s.here ∷ s.rest) ++ (went_on p a.base s.front s.here.stamp (s.before ++ x ∷ []) a.seq n).sent;
    })
went_back p a s x (next.Ask q) = record {
  base = refl;
  last = record { stamp = s.here.stamp; senses = (s.before ++ x ∷ []) ++ asking p.agent a.seq q ∷ []; act = None };
  steps = refl;
  stamp = refl;
  anew = asking p.agent a.seq q ∷ [];
  senses = append_assoc s.before (x ∷ []) (asking p.agent a.seq q ∷ []);
  new = (went_on p a.base s.front s.here.stamp (s.before ++ x ∷ []) a.seq (next.Ask q)).sent;
  sent = refl;
}
went_back p a s x (next.Act d) = record {
  base = refl;
  last = acted_step p.agent s.here.stamp (s.before ++ x ∷ []) a.seq d;
  steps = refl;
  stamp = refl;
  anew = [];
  senses = refl;
  new = (went_on p a.base s.front s.here.stamp (s.before ++ x ∷ []) a.seq (next.Act d)).sent;
  sent = refl;
}

back_is : (p : Actor) (a : Agent) (s : Spot) (x : KeptSense) → IsBackAt a s x (rolled_back p a s x)
back_is p a s x =
    went_back p a s x (p.acts s.here.stamp (regs_after a.base s.front) (answers (s.before ++ x ∷ [])))

gives_back : (p : Actor) (a : Agent) (r : GiveRow) (s : Spot) → HitsBack a r s
    → rolled_back p a s (with_row r s.sense) ≡ on_give p a r (Some s)
gives_back p a r s h =
    let newer : nat_le r.turn (kept_turn r.var s.sense.hits)
    ≡ false = (let less = h.newer in grind (arith, nat_tests, less)) in
    rw newer (rw h.complete (rw h.changes refl))

-- a hit that changes an answer is a rollback to its sense
pub changes-back : (p : Actor) (a : Agent) (r : GiveRow) (s : Spot) → HitsBack a r s
    → IsBackAt a s (with_row r s.sense) (agent_after p a (message.Give r))
changes-back p a r s h =
    subst (IsBackAt a s (with_row r s.sense)) (gives_back p a r s h
    ∙ ap (on_give p a r) (sym h.there)) (back_is p a s (with_row r s.sense))
