-- A stage on one thread: an epoch, and the Commit behind it.
use Rattle.std.proofs.Common.{◌≡◌, ◌∙◌, ◌+◌, ◌-◌, ◌<◌, ◌≤◌, Bool, List, None, Option, Some, [], ◌++◌, ◌∷◌, append_assoc, ap, arith, cond, inl, inr, length, refl, subst, sym, take, true, false, ℕ}
use Rattle.std.specs.Prelude.{IfSome}
use Rattle.std.proofs.lemmas.Bool.{and_parts, cases_Bool}
use Rattle.std.proofs.lemmas.List.{take_at}
use Rattle.pm_base.specs.declared.rows.Entry.{Entry}
use Rattle.pm_base.specs.declared.run.Event.{Event}
use Rattle.pm_base.specs.declared.stamp.Line.{Line}
use Rattle.pm_core.specs.Views.{WorldView, committed as world_committed}
use Rattle.pm_message.specs.declared.Message.{Message}
use Rattle.pm_plan.specs.Plans.{IsValid}
use Rattle.pm_plan.specs.declared.plan.Plan.{Plan}
use Rattle.pm_kernel.proofs.Going.{no_events}
use Rattle.pm_kernel.proofs.Journaling.{epoch_leaves, epoch_made}
use Rattle.pm_kernel.specs.Courses.{AreHeld, Extends, Stood, WentOn, run_of}
use Rattle.pm_kernel.specs.Engines.{HasStaged, IsMoved}
use Rattle.pm_kernel.specs.Runs.{LeadTo, left_by}
use Rattle.pm_kernel.specs.declared.course.Course.{Course}
use Rattle.pm_sim.proofs.Firsts.{agents_len}
use Rattle.pm_sim.proofs.Heads.{legal_append, run_append}
use Rattle.pm_sim.proofs.Kernel.{idle_is_done, least_law, links_same}
use Rattle.pm_sim.proofs.Lanes.{InPlan, keys}
use Rattle.pm_sim.proofs.Letters.{process_same}
use Rattle.pm_sim.proofs.Nexts.{key_ok, number_process}
use Rattle.pm_sim.proofs.Promised.{plan_fits}
use Rattle.pm_sim.specs.Bounds.{between}
use Rattle.pm_sim.specs.Journals.{LeastLine, epoch, made}
use Rattle.pm_sim.specs.Links.{LinksAre}
use Rattle.pm_sim.specs.Ready.{IsAbove, IsIdle, WindowOk, held_back}
use Rattle.pm_sim.specs.Sims.{In}
use Rattle.pm_sim.specs.Worlds.{Link, Process, World, after_events, clps_of, first_world, handed, is_legal_run, is_link, is_process, least_line, mail, may_commit, number, process}
use Rattle.pm_sim.specs.Worlds.Process.{AtAgent, AtClp}
use Rattle.pm_base.specs.declared.run.Event.TheVariants as event

-- ---- where the window holds all messages for the plan's processes back, it holds all back

link_key : (to from : Process) (ls : List Link) (m : Message) (rest : List Message)
    → between to from ls ≡ m ∷ rest → In (to, from) (keys ls)
link_key to from [] m rest e = absurd (cc)
link_key to from (l ∷ ls) m rest e = elim (cases_Bool (is_link to from l)) [
  | inl f ↦ (let q = and_parts (is_process l.to to) (is_process l.from from) f in
      let a = process_same l.to to q.0 in
      let b = process_same l.from from q.1 in
      inl (ap (λ z. (z, from)) (sym a) ∙ ap (λ z. (l.to, z)) (sym b)))
  | inr f ↦ inr (link_key to from ls m rest (subst (λ b. cond b l.messages (between to from ls) ≡ m ∷ rest) f e))
]

number_low : (p : Plan) (A : ℕ) (k : Process) → A ≡ length p.agents → InPlan (clps_of p) A k
    → number p k < clps_of p + length p.agents
number_low p A (AtClp c) e lt = omega (arith, lt)
number_low p A (AtAgent a) e lt = omega (arith, e, lt)

pub held_idle : (p : Plan) (w : World) (k : Option Line) → IsValid p → LinksAre p w
    → ((i : ℕ) → i < clps_of p + length p.agents → (from : Process) (m : Message) (rest : List Message)
    → between (process p i) from w.links ≡ m ∷ rest → held_back w (λ _. k) (process p i) m ≡ true)
    → IsIdle w (λ _. k)
held_idle p w k ok are held = λ to from m rest e.
    let A = length (first_world p).agents in
    let key = subst (In (to, from)) are.keys (link_key to from w.links m rest e) in
    let in_plan = (key_ok p (plan_fits p ok).tree to from key).1 in
    let same = number_process p A to in_plan in
    let low = number_low p A to (agents_len p 0 p.agents) in_plan in
    subst (λ z. held_back w (λ _. k) z m ≡ true) same
    (held (number p to) low from m rest (subst (λ z. between z from w.links ≡ m ∷ rest) (sym same) e))

-- ---- an epoch, and the Commit behind it

module _ (old mid : Course) (ok : IsValid old.world.plan) (k : Option Line) (n : ℕ)
    (stood : Stood old.world old.journal.items) (went : WentOn k n old mid)
    (all : old.count ≡ clps_of old.world.plan + length old.world.plan.agents) where
  abbrev p : Plan
  p = old.world.plan

  abbrev j : List Event
  j = old.journal.items

  abbrev ds : List Event
  ds = went.events

  lead : LeadTo p k (left_by p j) ds mid.world.world
  lead = subst (λ w. LeadTo p k w ds mid.world.world) stood.world went.gone.lead

  legal : is_legal_run p (first_world p) (j ++ ds) ≡ true
  legal = legal_append p (first_world p) j ds stood.legal lead.legal

  world_is : mid.world.world ≡ after_events p (first_world p) (j ++ ds)
  world_is = lead.world ∙ sym (run_append p (first_world p) j ds)

  pub epoch_may : may_commit mid.world.world (least_line mid.world.world) ≡ true
  epoch_may = (subst LeastLine (sym world_is) (least_law p (j ++ ds) ok legal)).may

  -- where nothing was delivered nothing is left
  pub epoch_moves : n ≡ 0 → AreHeld k old.count mid → IsMoved k (run_of old false)
  epoch_moves none held above =
      let empty : ds ≡ [] = no_events ds (went.count ∙ none) in
      let back : mid.world.world ≡ left_by p j = lead.world ∙ ap (after_events p (left_by p j)) empty in
      let links : LinksAre p mid.world.world = subst (LinksAre p) (sym world_is) (links_same p (j ++ ds) ok legal) in
      let plan : mid.world.plan ≡ p = went.gone.plan in
      let idle : IsIdle mid.world.world (λ _. k) = held_idle p mid.world.world k ok links
      (λ i lt from m rest e. subst (λ q. held_back mid.world.world (λ _. k) (process q i) m ≡ true) plan
      (held i (subst (λ z. i < z) (sym all) lt) from m rest
      (subst (λ q. between (process q i) from mid.world.world.links ≡ m ∷ rest) (sym plan) e))) in
      let may : WindowOk mid.world.world k =
      window_may k (subst (λ (w : World). IfSome k (λ l. IsAbove l (least_line w))) (sym back) above) in
      let done : mail mid.world.world.links ≡ [] =
      subst (λ (w : World). mail w.links ≡ []) (sym world_is) (idle_is_done p (j ++ ds) ok legal (λ _. k)
      (λ _. subst (λ w. WindowOk w k) world_is may) (subst (λ w. IsIdle w (λ _. k)) world_is idle)) in
      ap (λ (w : World). mail w.links) (sym back) ∙ done
    where
      window_may : (o : Option Line) → IfSome o (λ l. IsAbove l (least_line mid.world.world))
          → WindowOk mid.world.world o
      window_may None h = tt
      window_may (Some l) h = h

  module _ (new : Course) (es : List Entry) (world : new.world ≡ world_committed mid.world (least_line mid.world.world))
      (journal : new.journal.items ≡ mid.journal.items ++ event.Commit (least_line mid.world.world) ∷ [])
      (entries : es ≡ handed mid.world.world (least_line mid.world.world)) where
    journal_is : new.journal.items ≡ j ++ epoch p (left_by p j) ds
    journal_is =
        journal
        ∙ (ap (λ z. z ++ event.Commit (least_line mid.world.world) ∷ []) went.gone.journal
        ∙ (append_assoc j ds (event.Commit (least_line mid.world.world) ∷ [])
        ∙ ap (λ (w : World). j ++ (ds ++ event.Commit (least_line w) ∷ [])) lead.world))

    plan_is : new.world.plan ≡ p
    plan_is = ap (λ (v : WorldView). v.plan) world ∙ went.gone.plan

    pub epoch_staged : HasStaged k n es (run_of old false) (run_of new false)
    epoch_staged = record {
      events = ds;
      count = went.count;
      lead = subst (LeadTo p k (left_by p j) ds) lead.world lead;
      journal = journal_is;
      plan = plan_is;
      well = refl;
      entries = entries ∙ ap (λ (w : World). handed w (least_line w)) lead.world;
    }

    pub epoch_stood : Stood new.world new.journal.items
    epoch_stood = record {
      legal = subst (λ q. is_legal_run q (first_world q) new.journal.items ≡ true) (sym plan_is)
          (subst (λ z. is_legal_run p (first_world p) z ≡ true) (sym long)
          (legal_append p (first_world p) (j ++ ds) (event.Commit (least_line mid.world.world) ∷ []) legal commit_legal));
      world = ap (λ (v : WorldView). v.world) world
          ∙ (sym (epoch_leaves p j ds mid.world.world lead.world)
          ∙ (ap (left_by p) (sym journal_is) ∙ ap (λ q. left_by q new.journal.items) (sym plan_is)));
      made_all = let a = ap (λ (v : WorldView). v.made) world in let b = went.gone.made in
          let c = stood.made_all in let d = epoch_made p j ds lead.delivers in let e = ap made journal_is in
          omega (arith, a, b, c, d, e);
      well = ap (λ (v : WorldView). v.spoilt) world ∙ (went.gone.spoilt ∙ stood.well);
    }
      where
        long : new.journal.items ≡ (j ++ ds) ++ event.Commit (least_line mid.world.world) ∷ []
        long = journal ∙ ap (λ z. z ++ event.Commit (least_line mid.world.world) ∷ []) went.gone.journal

        commit_legal : is_legal_run p (after_events p (first_world p) (j ++ ds))
            (event.Commit (least_line mid.world.world) ∷ []) ≡ true
        commit_legal = subst (λ w. is_legal_run p w (event.Commit (least_line mid.world.world) ∷ []) ≡ true) world_is
            (rw epoch_may refl)

-- the events before an epoch are left where it is cut off
pub cut_back : (old new : Course) (left : List Event) → Extends old new
    → left ≡ take (length old.journal.items) new.journal.items → left ≡ old.journal.items
cut_back old new left more e =
    e ∙ (ap (take (length old.journal.items)) more.1 ∙ take_at old.journal.items more.0 (length old.journal.items) refl)
