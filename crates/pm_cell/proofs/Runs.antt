-- A machine's run over the plan's world is a run of the plan.
use Rattle.std.proofs.Common.{◌≡◌, ℕ, ◌+◌, ◌-◌, ◌<◌, ◌≤◌, Bool, true, false, cond, List, [], ◌∷◌, map, length, refl, arith, sym, ◌∙◌, subst, Option, inl, inr}
use Rattle.std.proofs.lemmas.Bool.{and_parts, and_from, cases_Bool}
use Rattle.std.proofs.lemmas.Bool.Decides.{nat_tests}
use Rattle.std.specs.Prelude.{nat_lt}
use Rattle.pm_base.specs.declared.run.Event.{Event}
use Rattle.pm_base.specs.declared.stamp.Line.{Line}
use Rattle.pm_history.specs.Merged.{Tagged}
use Rattle.pm_history.specs.Merged as merged
use Rattle.pm_message.specs.declared.Message.{Message}
use Rattle.pm_plan.specs.declared.plan.Plan.{Plan}
use Rattle.pm_sim.specs.Bounds.{between}
use Rattle.pm_sim.specs.Journals.{Delivers}
use Rattle.pm_sim.specs.Links.{LinksAre}
use Rattle.pm_sim.specs.Ready.{held_back}
use Rattle.pm_sim.specs.Worlds.{Process, World, after_events, clps_of, deliver, has_mail, is_legal_run, process, take_from}
use Rattle.pm_sim.specs.Worlds.Process.{AtAgent, AtClp}
use Rattle.pm_sim.proofs.Nexts.{taken_between}
use Rattle.pm_cell.specs.Cores.{core, holds_at, is_there, state_at}
use Rattle.pm_cell.specs.Stands.{LetsThrough}
use Rattle.pm_cell.proofs.Machines.{AllThere, Laws, Through, is_some_first, legal, run}
use Rattle.pm_cell.proofs.Lists.{each_with}

abbrev pub events : List Tagged → List Event
events es = map merged.deliver es

pub run_is : (p : Plan) (w : World) (es : List Tagged) → run (core p) w es ≡ after_events p w (events es)
run_is p w [] = refl
run_is p w (e ∷ es) = run_is p (deliver p w (process p e.1) (process p e.2)) es

pub delivers_are : (es : List Tagged) → Delivers (events es)
delivers_are [] = tt
delivers_are (e ∷ es) = delivers_are es

mail_there : (p : Plan) (w : World) (to from : ℕ) → is_some_first (between (process p to) (process p from) w.links) ≡ true → has_mail (take_from (process p to) (process p from) w.links) ≡ true
mail_there p w to from h = go (between (process p to) (process p from) w.links) refl h
  where
    go : (ms : List Message) → between (process p to) (process p from) w.links ≡ ms → is_some_first ms ≡ true → has_mail (take_from (process p to) (process p from) w.links) ≡ true
    go [] e h = absurd (cc)
    go (m ∷ ms) e h = taken_between (process p to) (process p from) w.links m ms e

pub legal_is : (p : Plan) (w : World) (es : List Tagged) → legal (core p) w es ≡ true → is_legal_run p w (events es) ≡ true
legal_is p w [] h = refl
legal_is p w (e ∷ es) h =
    let w' : World = deliver p w (process p e.1) (process p e.2) in
    let parts = and_parts (is_some_first (between (process p e.1) (process p e.2) w.links)) (legal (core p) w' es) h in
    and_from (has_mail (take_from (process p e.1) (process p e.2) w.links)) (is_legal_run p w' (events es)) (mail_there p w e.1 e.2 parts.0) (legal_is p w' es parts.1)

-- what a window holds back of an agent is what a world's does
pub held_is : (w : World) (windows : Process → Option Line) (q : Process) (m : Message) → held_back w windows q m ≡ holds_at (windows q) q (state_at w q) m
held_is w windows (AtClp c) m = refl
held_is w windows (AtAgent a) m = refl

pub through_is : (p : Plan) (Inv : ℕ → World → Type 0) (laws : Laws (core p) Inv) (windows : ℕ → Option Line) (k : Option Line) (w : World) (es : List Tagged) → AllThere (core p) w es
    → ((j : ℕ) → (core p).has w j ≡ true → windows j ≡ k) → Through (core p) windows w es → LetsThrough p k w (events es)
through_is p Inv laws windows k w [] there all t = tt
through_is p Inv laws windows k w (e ∷ es) there all t =
    let w' : World = deliver p w (process p e.1) (process p e.2) in (
      λ m rest is. held_is w (λ _. k) (process p e.1) m ∙ subst (λ (o : Option Line). holds_at o (process p e.1) (state_at w (process p e.1)) m ≡ false) (all e.1 there.0) (t.0 m rest is),
      through_is p Inv laws windows k w' es
          (each_with (λ (d : Tagged). (core p).has w d.1 ≡ true) (λ (d : Tagged). (core p).has w' d.1 ≡ true) es (λ d i. laws.same_has w e.1 e.2 d.1 ∙ i) there.1)
          (λ j h. all j (sym (laws.same_has w e.1 e.2 j) ∙ h)) t.1,
    )

-- the processes of a world are those of its plan's numbers
pub has_low : (p : Plan) (w : World) (k : ℕ) → LinksAre p w → k < clps_of p + length p.agents → (core p).has w k ≡ true
has_low p w k links lt = (let a = links.agents in let c = links.clps in elim (cases_Bool (nat_lt k (clps_of p))) [
  | inl e ↦ rw e (grind (arith, nat_tests, e, c))
  | inr e ↦ rw e (grind (arith, nat_tests, e, a, lt))
])

pub low_has : (p : Plan) (w : World) (k : ℕ) → LinksAre p w → (core p).has w k ≡ true → k < clps_of p + length p.agents
low_has p w k links h = go (nat_lt k (clps_of p)) refl h
  where
    a : length w.agents ≡ length p.agents
    a = links.agents

    c : length w.clps ≡ clps_of p
    c = links.clps

    go : (b : Bool) → nat_lt k (clps_of p) ≡ b → is_there w (cond b (AtClp k) (AtAgent (k - clps_of p))) ≡ true → k < clps_of p + length p.agents
    go true e h = (let lt : k < clps_of p = grind (arith, nat_tests, e) in omega (arith, lt))
    go false e h = (let ge : clps_of p ≤ k = grind (arith, nat_tests, e) in let lt : k - clps_of p < length w.agents = grind (arith, nat_tests, h) in omega (arith, ge, lt, a))
