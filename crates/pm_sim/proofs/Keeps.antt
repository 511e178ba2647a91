-- What is kept is not below the line: so after a Commit at End nothing is.
use Rattle.pm_queries.specs.declared.registered.Registered.{Registered}
use Rattle.std.proofs.Common.{List, None, Option, Some, [], ap, arith, get_or, inl, inr, length, refl, subst, suc, sym, true, ℕ, ◌∙◌, ◌∷◌, ◌≡◌}
use Rattle.std.proofs.lemmas.Bool.{cases_lt}
use Rattle.pm_base.specs.declared.rows.CutRow.{CutRow}
use Rattle.pm_base.specs.declared.rows.Entry.{Entry}
use Rattle.pm_base.specs.declared.rows.Parts.{Parts}
use Rattle.pm_base.specs.declared.rows.PutRow.{PutRow}
use Rattle.pm_base.specs.declared.rows.ReadRow.{ReadRow}
use Rattle.pm_base.specs.declared.run.Event.{Event}
use Rattle.pm_base.specs.declared.stamp.Line.{Line}
use Rattle.pm_plan.specs.declared.plan.Plan.{Plan}
use Rattle.pm_model.specs.declared.State.{State}
use Rattle.pm_saved.specs.declared.kept.KeptStep.{KeptStep}
use Rattle.pm_alp.specs.Agents.{no_agent}
use Rattle.pm_alp.specs.declared.agent.Agent.{Agent}
use Rattle.pm_clp.specs.Clps.{ClpState, rec_at}
use Rattle.pm_sim.proofs.Firsts.{PlanFits}
use Rattle.pm_sim.proofs.Lines.{get_past}
use Rattle.pm_sim.proofs.Places.{Sim, clp_at}
use Rattle.pm_sim.proofs.Wholes.{Whole, commit_whole, first_whole, whole_run}
use Rattle.pm_sim.specs.Kept.{Kept, kept, kept_agents, kept_clps, kept_rec, kept_recs}
use Rattle.pm_sim.specs.Sims.{In}
use Rattle.pm_sim.specs.Worlds.{World, after_events, commit, committed, first_world, is_legal_run, may_commit, no_clp}
use Rattle.pm_base.specs.declared.stamp.Line.TheVariants as line

pub kept_high : (p : Plan) (q : State) (w : World) (recs : ℕ → Parts) (sim : Sim p q w recs) → Kept w.line w
kept_high p q w recs sim = record {
  steps = λ a s i. elim (cases_lt a (length w.agents)) [
    | inl lt ↦ (sim.core.agent a lt).low s i
    | inr ge ↦ absurd (subst (In s) (ap (λ (z : Agent). z.steps) (get_past w.agents a no_agent ge)) i)
  ];
  puts = λ c v r e x i. ((sim.core.rec v).puts x (subst (λ (z : Parts). In x z.puts) (is c v r e) i)).1;
  cuts = λ c v r e x i. ((sim.core.rec v).cuts x (subst (λ (z : Parts). In x z.cuts) (is c v r e) i)).1;
  reads = λ c v r e x i. ((sim.core.rec v).reads x (subst (λ (z : Parts). In x z.reads) (is c v r e) i)).4;
  queries = λ c r i. elim (cases_lt c (length w.clps)) [
    | inl lt ↦ (sim.queries.reg c r (let o = sim.size in omega arith) i).1
    | inr ge ↦ absurd (subst (In r) (ap (λ (z : ClpState). z.queries) (get_past w.clps c no_clp ge)) i)
  ];
}
  where
    is : (c v : ℕ) (r : Parts) → rec_at (clp_at w c).records v ≡ Some r → r ≡ recs v
    is c v r e = elim (cases_lt c (length w.clps)) [
      | inl lt ↦ (sim.places.at c v r (let o = sim.size in omega arith) e).1
      | inr ge ↦ absurd (let f = get_past w.clps c no_clp ge in let g : None ≡ Some r =
          sym (ap (λ (z : ClpState). rec_at z.records v) f) ∙ e in cc)
    ]

empty : {X : Type 0} (xs : List X) → ((x : X) → In x xs → ⊥) → length xs ≡ 0
empty [] h = refl
empty (x ∷ xs) h = absurd (h x (inl refl))

pub kept_none : (w : World) → Kept line.End w → kept w ≡ 0
kept_none w h = (let a = clps w.clps (λ c. h.puts c) (λ c. h.cuts c) (λ c. h.reads c) (λ c. h.queries c) in let b =
    agents w.agents (λ i. h.steps i) in omega arith)
  where
    recs : (rs : List (Option Parts))
        → ((v : ℕ) (r : Parts) → rec_at rs v ≡ Some r → kept_rec (Some r) ≡ 0) → kept_recs rs ≡ 0
    recs [] f = refl
    recs (r ∷ rs) f = (let a = one r (λ y e. f 0 y e) in let b = recs rs (λ v y e. f (suc v) y e) in omega arith)
      where
        one : (o : Option Parts) → ((y : Parts) → o ≡ Some y → kept_rec (Some y) ≡ 0) → kept_rec o ≡ 0
        one None g = refl
        one (Some y) g = g y refl

    clps : (cs : List ClpState)
        → ((c v : ℕ) (r : Parts) → rec_at (get_or cs c no_clp).records v ≡ Some r → (x : PutRow) → In x r.puts → ⊥)
        → ((c v : ℕ) (r : Parts) → rec_at (get_or cs c no_clp).records v ≡ Some r → (x : CutRow) → In x r.cuts → ⊥)
        → ((c v : ℕ) (r : Parts) → rec_at (get_or cs c no_clp).records v ≡ Some r → (x : ReadRow) → In x r.reads → ⊥)
        → ((c : ℕ) (r : Registered) → In r (get_or cs c no_clp).queries → ⊥) → kept_clps cs ≡ 0
    clps [] f g i j = refl
    clps (c ∷ cs) f g i j =
        let a = recs c.records (λ v r e. let x = empty r.puts (f 0 v r e) in let y =
        empty r.cuts (g 0 v r e) in let z = empty r.reads (i 0 v r e) in omega arith) in
        let b = empty c.queries (j 0) in
        let d = clps cs (λ k. f (suc k)) (λ k. g (suc k)) (λ k. i (suc k)) (λ k. j (suc k)) in
        omega arith

    agents : (xs : List Agent) → ((i : ℕ) (s : KeptStep) → In s (get_or xs i no_agent).steps → ⊥) → kept_agents xs ≡ 0
    agents [] f = refl
    agents (x ∷ xs) f = (let a = empty x.steps (f 0) in let b = agents xs (λ i. f (suc i)) in omega arith)

-- in each world of a legal run nothing that is kept is below the line
pub run_kept : (p : Plan) → PlanFits p → (es : List Event) → is_legal_run p (first_world p) es ≡ true
    → Kept (after_events p (first_world p) es).line (after_events p (first_world p) es)
run_kept p fit es l =
    (let h : Whole p (after_events p (first_world p) es) (committed p es) = whole_run p (first_world p)
    [] es (first_whole p fit) l in kept_high p h.q (after_events p (first_world p) es) h.full.recs h.full.sim)

-- a legal Commit leaves nothing below its line, and at End nothing
pub commit_kept : (p : Plan) (w : World) (done : List Entry) (k : Line)
    → Whole p w done → may_commit w k ≡ true → Kept k (commit w k)
commit_kept p w done k h may =
    (let c = commit_whole p w done k h may in kept_high p c.q (commit w k) c.full.recs c.full.sim)

pub end_kept : (p : Plan) (w : World) (done : List Entry)
    → Whole p w done → may_commit w line.End ≡ true → kept (commit w line.End) ≡ 0
end_kept p w done h may = kept_none (commit w line.End) (commit_kept p w done line.End h may)
