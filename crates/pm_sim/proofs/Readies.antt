-- Where a letter is on its way, some link's first letter may be delivered, also with windows.
use Rattle.std.proofs.Common.{List, None, Option, Some, [], ap, false, get_or, inl, inr, map, not, refl, subst, sym, true, ℕ, ◌&&◌, ◌++◌, ◌∙◌, ◌∷◌, ◌≡◌}
use Rattle.std.proofs.lemmas.Bool.{cases_Bool}
use Rattle.pm_base.specs.Stamps.{least_line_of, num_eq, or_lower, stamp_lt}
use Rattle.pm_base.specs.declared.run.Event.{Event}
use Rattle.pm_base.specs.declared.stamp.Line.{Line}
use Rattle.pm_base.specs.declared.stamp.Num.{Num}
use Rattle.pm_base.specs.declared.stamp.Stamp.{Stamp}
use Rattle.pm_message.specs.Messages.{stamp_of}
use Rattle.pm_message.specs.declared.Message.{Message}
use Rattle.pm_plan.specs.Rows.{idle}
use Rattle.pm_plan.specs.declared.plan.Plan.{Plan}
use Rattle.pm_alp.specs.Agents.{no_agent}
use Rattle.pm_alp.specs.declared.agent.Awaited.{Awaited}
use Rattle.pm_sim.proofs.Awakes.{Awake, run_awake}
use Rattle.pm_sim.proofs.Firsts.{PlanFits}
use Rattle.pm_sim.proofs.Lanes.{mail_between}
use Rattle.pm_sim.proofs.Stamps.{nums_same, past_true}
use Rattle.pm_sim.proofs.Takings.{LinkOk, Suits}
use Rattle.pm_sim.proofs.Wires.{between_mail}
use Rattle.pm_sim.specs.Bounds.{between}
use Rattle.pm_sim.specs.Ready.{IdleIsDone, IsAbove, Ready, SomeIsReady, WindowOk, awaits, held_back, kept_back}
use Rattle.pm_sim.specs.Routings.{mail_to}
use Rattle.pm_sim.specs.Sims.{In, is_past, num_of, vars_of}
use Rattle.pm_sim.specs.Waking.{Last}
use Rattle.pm_sim.specs.Worlds.{Mail, Process, World, after_events, first_world, least_line, mail, mail_stamp}
use Rattle.pm_sim.specs.Worlds.Process.{AtAgent, AtClp}
use Rattle.pm_base.specs.declared.stamp.Line.TheVariants as line
use Rattle.pm_message.specs.declared.Message.TheVariants as message

-- the least stamp of mail
abbrev pub least_of : List Mail → Line
least_of ms = least_line_of (map mail_stamp ms)

-- a letter of least stamp
pub least_in : (ms : List Mail) → (ms ≡ [] → ⊥) → (x : Mail) × In x ms × (least_of ms ≡ line.At (stamp_of x.message))
least_in [] ne = absurd (ne refl)
least_in (m ∷ []) ne = (m, inl refl, refl)
least_in (m ∷ (y ∷ ys)) ne = (let r = least_in (y ∷ ys) (λ e. cc) in
    elim (cases_Bool (stamp_lt (stamp_of m.message) (stamp_of r.0.message))) [
      | inl e ↦ (m, inl refl, ap (or_lower (stamp_of m.message)) r.2 ∙ (rw e refl))
      | inr e ↦ (r.0, inr r.1, ap (or_lower (stamp_of m.message)) r.2 ∙ (rw e refl))
    ])

-- Wakes go from an agent to itself
pub wake_own : (n a : ℕ) (p : Plan) (f : Process) (k : Num) (s : Stamp)
    → LinkOk p (AtAgent a) f → Suits n f (message.Wake k s) → f ≡ AtAgent a
wake_own n a p (AtClp c) k s l o = absurd o
wake_own n a p (AtAgent b) k s l o = ap AtAgent (sym l)

module _ (p : Plan) (w : World) (awake : Awake p w) (windows : Process → Option Line) where
  -- the first letter of a link with one of least stamp
  free : (to from : Process) (x m : Message) (rest : List Message) → between to from w.links ≡ m ∷ rest → In
      x (m ∷ rest) → least_line w ≡ line.At (stamp_of x) → WindowOk w (windows to) → held_back w windows to m ≡ false
  free (AtClp c) from x m rest e i l ok = refl
  free (AtAgent a) from x m rest e i l ok = by (windows (AtAgent a)) m ok e i
    where
      past : (k : Line) (s : Stamp) → IsAbove k (least_line w) → least_line w ≡ line.At s → is_past k s ≡ true
      past k s above ls = subst (IsAbove k) ls above

      -- an awaited Wake is alone there
      alone : (y : Awaited) (n : Num) (s : Stamp)
          → n ≡ y.num → Last y (message.Wake n s ∷ rest) → In x (message.Wake n s ∷ rest) → stamp_of x ≡ s
      alone y n s en o i = go o.pre o.is o.others
        where
          go : (pre : List Message) → message.Wake n s ∷ rest ≡ pre ++ message.Wake y.num y.stamp ∷ []
              → ((z : Message) → In z pre → num_of z ≡ y.num → ⊥) → stamp_of x ≡ s
          go [] g others =
              (let r : rest ≡ [] = cc in elim i [ inl f ↦ ap stamp_of f | inr j ↦ absurd (subst (In x) r j) ])
          go (z ∷ pre) g others = absurd (others (message.Wake n s) (inl (cc)) en)

      wake : (k : Line) (n : Num) (s : Stamp) → IsAbove k (least_line w)
          → between (AtAgent a) from w.links ≡ message.Wake n s ∷ rest → In x (message.Wake n s ∷ rest)
          → (o : Option Awaited) → (get_or w.agents a no_agent).awaited ≡ o → (awaits n o && not (is_past k s)) ≡ false
      wake k n s ok e i None eo = refl
      wake k n s ok e i (Some y) eo = elim (cases_Bool (num_eq n y.num)) [
        | inr f ↦ rw f refl
        | inl f ↦ (let en = nums_same n y.num f in
            let lk = awake.linked.mail (mail_to (AtAgent a) from (message.Wake n s)) (between_mail
            (AtAgent a) from w.links (message.Wake n s) (subst (In (message.Wake n s)) (sym e) (inl refl))) in
            let own : from ≡ AtAgent a = wake_own (vars_of p) a p from n s lk.0 lk.1 in
            let last : Last y (message.Wake n s ∷ rest) =
            subst (Last y) (sym (ap (λ z. between (AtAgent a) z w.links) own) ∙ e) (awake.last a y eo) in
            let st : stamp_of x ≡ s = alone y n s en last i in
            let g : is_past k s ≡ true = past k s ok (l ∙ ap line.At st) in
            rw (f, g) refl)
      ]

      by : (o : Option Line) (m : Message) → WindowOk w o → between (AtAgent a) from w.links ≡ m ∷ rest
          → In x (m ∷ rest) → kept_back o (get_or w.agents a no_agent).awaited m ≡ false
      by None m ok e i = refl
      by (Some k) (message.Wake n s) ok e i = wake k n s ok e i (get_or w.agents a no_agent).awaited refl
      by (Some k) (message.Ask n s q) ok e i = refl
      by (Some k) (message.Put r_n r_t v r_c) ok e i = refl
      by (Some k) (message.Cut r_n r_t v) ok e i = refl
      by (Some k) (message.Give g) ok e i = refl
      by (Some k) (message.Finish n s) ok e i = refl
      by (Some k) (message.Move v s r) ok e i = refl
      by (Some k) (message.Grow k' s u z) ok e i = refl

  -- the core sentence
  pub ready : (mail w.links ≡ [] → ⊥) → ((k : Process) → WindowOk w (windows k)) → Ready w windows
  ready ne ok = (let r = least_in (mail w.links) ne in
      by (between r.0.to r.0.from w.links) refl (mail_between w.links awake.lanes r.0 r.1))
    where
      x : Mail
      x = (least_in (mail w.links) ne).0

      by : (ms : List Message) → between x.to x.from w.links ≡ ms → In x.message ms → Ready w windows
      by [] e i = absurd i
      by (m ∷ rest) e i = record {
        to = x.to;
        from = x.from;
        message = m;
        rest =
            rest;
        first = e;
        free = free x.to x.from x.message m rest e i (least_in (mail w.links) ne).2 (ok x.to);
      }

-- in each world of a legal run in which a letter is on its way
pub some_ready : (p : Plan) → PlanFits p → (es : List Event) → SomeIsReady p es
some_ready p fit es l ne windows ok = ready p (after_events p (first_world p) es) (run_awake p fit es l) windows ne ok

-- so where nothing may be delivered, nothing is on its way
pub idle_done : (p : Plan) → PlanFits p → (es : List Event) → IdleIsDone p es
idle_done p fit es l windows ok idle = by (mail (after_events p (first_world p) es).links) refl
  where
    by : (ms : List Mail)
        → mail (after_events p (first_world p) es).links ≡ ms → mail (after_events p (first_world p) es).links ≡ []
    by [] e = e
    by (x ∷ xs) e = absurd (let r = some_ready p fit es l (λ f. cons_nil (sym e ∙ f)) windows ok in let g =
        idle r.to r.from r.message r.rest r.first in let k = r.free in cc)
      where
        cons_nil : x ∷ xs ≡ [] → ⊥
        cons_nil f = cc
