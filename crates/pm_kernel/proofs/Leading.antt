-- Deliveries that lead from one world to another.
use Rattle.std.proofs.Common.{◌≡◌, ◌∙◌, Bool, List, None, Option, Some, [], ◌++◌, ◌&&◌, ◌∷◌, ap, refl, rules, sym, subst, true, false, not, ℕ}
use Rattle.std.proofs.lemmas.Bool.{and_parts}
use Rattle.pm_base.specs.declared.run.Event.{Event}
use Rattle.pm_base.specs.declared.stamp.Line.{Line}
use Rattle.pm_base.specs.declared.stamp.Num.{Num}
use Rattle.pm_base.specs.declared.stamp.Stamp.{Stamp}
use Rattle.pm_alp.specs.declared.agent.Awaited.{Awaited}
use Rattle.pm_message.specs.declared.Message.{Message}
use Rattle.pm_plan.specs.declared.plan.Plan.{Plan}
use Rattle.pm_kernel.specs.Runs.{AreLetThrough, IsWithin, LeadTo}
use Rattle.pm_sim.proofs.Heads.{legal_append, run_append}
use Rattle.pm_sim.specs.Bounds.{between}
use Rattle.pm_sim.specs.Journals.{Delivers}
use Rattle.pm_sim.specs.Ready.{InWindow, awaits, held_back, kept_back, window_at}
use Rattle.pm_sim.specs.Sims.{is_past}
use Rattle.pm_sim.specs.Worlds.{Process, Taken, World, after_event, after_events, delivered, is_legal, is_legal_run, process, take_from}
use Rattle.pm_sim.specs.Worlds.Process.{AtAgent, AtClp}
use Rattle.pm_base.specs.declared.run.Event.TheVariants as event
use Rattle.pm_message.specs.declared.Message.TheVariants as message

pub lead_none : (p : Plan) (k : Option Line) (w : World) → LeadTo p k w [] w
lead_none p k w = record { delivers = tt; legal = refl; through = tt; world = refl }

pub lead_one : (p : Plan) (k : Option Line) (w : World) (to from : ℕ) → is_legal p w (event.Deliver to from) ≡ true
    → ((m : Message) (rest : List Message) → between (process p to) (process p from) w.links ≡ m ∷ rest
    → held_back w (λ _. k) (process p to) m ≡ false)
    → LeadTo p k w (event.Deliver to from ∷ []) (after_event p w (event.Deliver to from))
lead_one p k w to from legal free = record {
  delivers = tt;
  legal = rw legal refl;
  through = (free, tt);
  world = refl;
}

delivers_append : (xs ys : List Event) → Delivers xs → Delivers ys → Delivers (xs ++ ys)
delivers_append [] ys h k = k
delivers_append (event.Deliver to from ∷ xs) ys h k = delivers_append xs ys h k
delivers_append (event.Commit l ∷ xs) ys h k = absurd h

through_append : (p : Plan) (k : Option Line) (w : World) (xs ys : List Event)
    → AreLetThrough p k w xs → AreLetThrough p k (after_events p w xs) ys → AreLetThrough p k w (xs ++ ys)
through_append p k w [] ys a b = b
through_append p k w (event.Deliver to from ∷ xs) ys a b =
    (a.0, through_append p k (after_event p w (event.Deliver to from)) xs ys a.1 b)
through_append p k w (event.Commit l ∷ xs) ys a b = through_append p k (after_event p w (event.Commit l)) xs ys a b

pub lead_append : (p : Plan) (k : Option Line) (w v u : World) (xs ys : List Event)
    → LeadTo p k w xs v → LeadTo p k v ys u → LeadTo p k w (xs ++ ys) u
lead_append p k w v u xs ys a b = record {
  delivers = delivers_append xs ys a.delivers b.delivers;
  legal = legal_append p w xs ys a.legal (subst (λ z. is_legal_run p z ys ≡ true) a.world b.legal);
  through = through_append p k w xs ys a.through (subst (λ z. AreLetThrough p k z ys) a.world b.through);
  world = b.world ∙ (ap (λ z. after_events p z ys) a.world ∙ sym (run_append p w xs ys));
}

-- ---- a window within another

kept_more : (k l : Line) (o : Option Awaited) (m : Message)
    → IsWithin k l → kept_back (Some k) o m ≡ false → kept_back (Some l) o m ≡ false
kept_more k l o (message.Wake n s) h e = by (awaits n o) (is_past k s) refl e
  where
    by : (a b : Bool) → is_past k s ≡ b → (a && not b) ≡ false → (a && not (is_past l s)) ≡ false
    by false b f g = refl
    by true true f g = (let q = h s f in rw q refl)
    by true false f g = absurd (cc)
kept_more k l o (message.Ask n s q) h e = refl
kept_more k l o (message.Put n s v c) h e = refl
kept_more k l o (message.Cut n s v) h e = refl
kept_more k l o (message.Give g) h e = refl
kept_more k l o (message.Finish n s) h e = refl
kept_more k l o (message.Move v s r) h e = refl
kept_more k l o (message.Grow c s u z) h e = refl

held_more : (w : World) (k l : Line) (to : Process) (m : Message)
    → IsWithin k l → held_back w (λ _. Some k) to m ≡ false → held_back w (λ _. Some l) to m ≡ false
held_more w k l (AtClp c) m h e = refl
held_more w k l (AtAgent a) m h e = kept_more k l _ m h e

-- a delivery leaves the line
deliver_line : (p : Plan) (w : World) (to from : ℕ) → (after_event p w (event.Deliver to from)).line ≡ w.line
deliver_line p w to from = by (process p to) (take_from (process p to) (process p from) w.links)
  where
    by : (t : Process) (o : Option Taken) → (delivered p w t (process p from) o).line ≡ w.line
    by t None = refl
    by (AtClp c) (Some r) = refl
    by (AtAgent a) (Some r) = refl

-- what a window lets through stays in a wider one
pub through_window : (width : ℕ) (p : Plan) (k l : Line) (w : World) (ds : List Event) → window_at width w.line ≡ l
    → IsWithin k l → Delivers ds → AreLetThrough p (Some k) w ds → InWindow width p w ds
through_window width p k l w [] e h d a = tt
through_window width p k l w (event.Deliver to from ∷ ds) e h d a = (
  (λ m rest f. subst (λ z. held_back w (λ _. Some z) (process p to) m ≡ false) (sym e)
      (held_more w k l (process p to) m h (a.0 m rest f))),
  through_window width p k l (after_event p w (event.Deliver to from)) ds
      (ap (window_at width) (deliver_line p w to from) ∙ e) h d a.1,
)
through_window width p k l w (event.Commit z ∷ ds) e h d a = absurd d
