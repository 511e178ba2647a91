-- One event more, and how far the run then is.
use Rattle.std.proofs.Common.{◌≡◌, ◌∙◌, ◌⊎◌, ◌+◌, ◌<◌, ◌≤◌, inl, inr, ℕ, suc, Bool, false, true, List, [], ◌∷◌, ◌++◌, Option, Some, None, Result, Ok, Err, map, ap, append-nil, arith, refl, subst, sym}
use Rattle.std.specs.Result.{IsErrAnd}
use Rattle.pm_base.specs.Stamps.{least_line_of}
use Rattle.pm_base.specs.declared.run.Event.{Event}
use Rattle.pm_base.specs.declared.run.Event.TheVariants as event
use Rattle.pm_base.specs.declared.stamp.Line.{Line}
use Rattle.pm_base.specs.declared.stamp.Line.TheVariants as line
use Rattle.pm_calm.proofs.Goings.{lowest_steps}
use Rattle.pm_calm.specs.Lowest.{LowestRun, PartOfLowest, Underway, commits, is_begun, least_link}
use Rattle.pm_core.specs.Views.{WorldView, committed as world_committed, delivered, first_view, has_mail}
use Rattle.pm_kernel.specs.Runs.{IsDone, left_by}
use Rattle.pm_kernel.specs.declared.ran.Outcome.{Outcome}
use Rattle.pm_kernel.specs.declared.ran.Outcome.TheVariants as outcome
use Rattle.pm_lowest.proofs.Links.{link_has, link_is, link_mail}
use Rattle.pm_core.specs.Leasts.{IsLeastLink}
use Rattle.pm_lowest.specs.Courses.{HasClosed, HasCome, IsNext, IsUnderway, ended}
use Rattle.pm_lowest.specs.Runs.{IsBudgetSpent}
use Rattle.pm_lowest.specs.declared.course.Course.{Course}
use Rattle.pm_plan.specs.Plans.{IsValid}
use Rattle.pm_plan.specs.declared.plan.Plan.{Plan}
use Rattle.pm_sim.proofs.Heads.{line_self, run_append}
use Rattle.pm_sim.proofs.Kernel.{least_law}
use Rattle.pm_sim.specs.Journals.{LeastLine, made}
use Rattle.pm_sim.specs.Reached.{Reached}
use Rattle.pm_sim.specs.Worlds.{World, commit, first_world, least_line, mail, mail_stamp, may_commit}

begun_more : (j : List Event) (e : Event) → is_begun (j ++ e ∷ []) ≡ true
begun_more [] e = refl
begun_more (x ∷ j) e = refl

-- where no message is left the least line is the end
none_end : (w : World) → mail w.links ≡ [] → least_line w ≡ line.End
none_end w none = ap (λ ms. least_line_of (map mail_stamp ms)) none

fault_done : Path (Option Outcome) (Some outcome.WriteFault) (Some outcome.Done) → ⊥
fault_done e = cc

memory_done : Path (Option Outcome) (Some outcome.Memory) (Some outcome.Done) → ⊥
memory_done e = cc

fault_spent : Path (Option Outcome) (Some outcome.WriteFault) (Some outcome.BudgetSpent) → ⊥
fault_spent e = cc

memory_spent : Path (Option Outcome) (Some outcome.Memory) (Some outcome.BudgetSpent) → ⊥
memory_spent e = cc

none_done : Path (Option Outcome) None (Some outcome.Done) → ⊥
none_done e = cc

none_spent : Path (Option Outcome) None (Some outcome.BudgetSpent) → ⊥
none_spent e = cc

-- a run that failed didn't end by itself
pub undone : (f : Outcome) → (f ≡ outcome.WriteFault) ⊎ (f ≡ outcome.Memory) → Some f ≡ Some outcome.Done → ⊥
undone f (inl e) h = fault_done (ap (λ z. Some z) (sym e) ∙ h)
undone f (inr e) h = memory_done (ap (λ z. Some z) (sym e) ∙ h)

pub unspent : (f : Outcome) → (f ≡ outcome.WriteFault) ⊎ (f ≡ outcome.Memory) → Some f ≡ Some outcome.BudgetSpent → ⊥
unspent f (inl e) h = fault_spent (ap (λ z. Some z) (sym e) ∙ h)
unspent f (inr e) h = memory_spent (ap (λ z. Some z) (sym e) ∙ h)

-- how a run ended is passed on
pub passed_on : {T : Type 0} (P : Option Outcome → Type 0) (r : Result T Outcome) (f : Outcome)
    → IsErrAnd r (λ g. g ≡ f) → P (Some f) → P (ended r)
passed_on P (Ok x) f e p = absurd e
passed_on P (Err g) f e p = subst (λ z. P (Some z)) (sym e) p

pub first_underway : (p : Plan) (c : Course) → IsValid p → c.world ≡ first_view p → c.journal.items ≡ []
    → IsUnderway p c.budget c
first_underway p c ok is none = record {
  plan = ap (λ (v : WorldView). v.plan) is;
  budget = refl;
  well = ap (λ (v : WorldView). v.spoilt) is;
  going = subst (λ (v : WorldView). Underway c.budget p v.made v.world c.journal.items) (sym is)
      (subst (λ j. Underway c.budget p 0 (first_world p) j) (sym none) (lowest_steps c.budget p ok).first);
}

module _ (p : Plan) (b : ℕ) (ok : IsValid p) (c : Course) (u : IsUnderway p b c) where
  abbrev j : List Event
  j = c.journal.items

  abbrev w : World
  w = c.world.world

  reached : Reached p c.world.made w
  reached = (lowest_steps b p ok).reached c.world.made w j u.going

  pub underway_part : PartOfLowest b p j
  underway_part = (lowest_steps b p ok).part c.world.made w j u.going

  pub underway_may : may_commit w (least_line w) ≡ true
  underway_may = (subst LeastLine (sym u.going.world) (least_law p j ok u.going.legal)).may

  -- how far it is where it goes on, or ended for another cause
  pub come_still : (k : List Event) (o : Option Outcome) → k ≡ j → (o ≡ Some outcome.Done → ⊥)
      → (o ≡ Some outcome.BudgetSpent → ⊥) → HasCome p b k o
  come_still k o same undone unspent = record {
    part = subst (PartOfLowest b p) (sym same) underway_part;
    done_run = λ h. absurd (undone h);
    done = λ h. absurd (undone h);
    spent_run = λ h. absurd (unspent h);
    spent = λ h. absurd (unspent h);
  }

  pub come_goes : HasCome p b j None
  come_goes = come_still j None refl none_done none_spent

  -- ---- the least link

  pub next_link : (to from : ℕ) → IsLeastLink c.world to from → least_link p w ≡ Some (to, from)
  next_link to from l = link_is p c.world to from u.plan l c.world.made ok reached

  pub next_here : (to from : ℕ) → IsLeastLink c.world to from → commits (is_begun j) w ≡ false → IsNext p c to from
  next_here to from l undue = record {
    not_due = undue;
    link = next_link to from l;
    mail = link_has p c.world to from u.plan l;
  }

  some_left : (to from : ℕ) → least_link p w ≡ Some (to, from) → mail w.links ≡ [] → ⊥
  some_left to from is = link_mail p c.world.made w to from ok reached is

  -- ---- a Commit

  module _ (new : Course) (same : new.budget ≡ c.budget) (closed : HasClosed c new) where
    pub closed_underway : (to from : ℕ) → IsLeastLink c.world to from → commits (is_begun j) w ≡ true
        → IsUnderway p b new
    closed_underway to from l due = record {
      plan = ap (λ (v : WorldView). v.plan) closed.world ∙ u.plan;
      budget = same ∙ u.budget;
      well = ap (λ (v : WorldView). v.spoilt) closed.world ∙ u.well;
      going = subst (λ (v : WorldView). Underway b p v.made v.world new.journal.items) (sym closed.world)
          (subst (λ k. Underway b p c.world.made (commit w (least_line w)) k) (sym closed.journal)
          ((lowest_steps b p ok).committed c.world.made w j u.going (some_left to from (next_link to from l)) due));
    }

    once : commits (is_begun new.journal.items) (commit w (least_line w)) ≡ false
    once =
        ap (λ k. commits (is_begun k) (commit w (least_line w))) closed.journal
        ∙ (ap (λ z. commits z (commit w (least_line w))) (begun_more j (event.Commit (least_line w)))
        ∙ (let e = line_self (least_line w) in rw e refl))

    pub closed_next : (to from : ℕ) → IsLeastLink c.world to from → IsNext p new to from
    closed_next to from l = record {
      not_due = subst (λ (v : WorldView). commits (is_begun new.journal.items) v.world ≡ false) (sym closed.world) once;
      link = subst (λ (v : WorldView). least_link p v.world ≡ Some (to, from)) (sym closed.world) (next_link to from l);
      mail = subst (λ v. has_mail v to from ≡ true) (sym closed.world) (link_has p c.world to from u.plan l);
    }

    pub closed_made : new.world.made ≡ c.world.made
    closed_made = ap (λ (v : WorldView). v.made) closed.world

    -- nothing is left: the run is whole
    module _ (none : mail w.links ≡ []) where
      at_end : new.journal.items ≡ j ++ event.Commit line.End ∷ []
      at_end = closed.journal ∙ ap (λ l. j ++ event.Commit l ∷ []) (none_end w none)

      pub closed_run : LowestRun b p new.journal.items
      closed_run = at_end ∙ (lowest_steps b p ok).done c.world.made w j u.going none

      left : left_by p new.journal.items ≡ commit w line.End
      left = ap (left_by p) at_end ∙ (run_append p (first_world p) j (event.Commit line.End ∷ [])
          ∙ ap (λ z. commit z line.End) (sym u.going.world))

      pub closed_done : IsDone p new.journal.items
      closed_done = record {
        none = ap (λ (z : World). mail z.links) left ∙ none;
        line = ap (λ (z : World). z.line) left;
      }

      pub come_done : HasCome p b new.journal.items (Some outcome.Done)
      come_done = record {
        part = ([], append-nil new.journal.items ∙ closed_run);
        done_run = λ h. closed_run;
        done = λ h. closed_done;
        spent_run = λ h. absurd (cc);
        spent = λ h. absurd (cc);
      }

  -- where a Commit's lines failed, or there was no memory for it
  pub come_failed : (new : Course) (o : Option Outcome) → new.budget ≡ c.budget
      → (new.journal.items ≡ j) ⊎ HasClosed c new → (o ≡ Some outcome.Done → ⊥) → (o ≡ Some outcome.BudgetSpent → ⊥)
      → (mail w.links ≡ []) ⊎ ((to : ℕ) × (from : ℕ) × IsLeastLink c.world to from × (commits (is_begun j) w ≡ true))
      → HasCome p b new.journal.items o
  come_failed new o same (inl e) undone unspent x = come_still new.journal.items o e undone unspent
  come_failed new o same (inr closed) undone unspent (inl none) = record {
    part = ([], append-nil new.journal.items ∙ closed_run new same closed none);
    done_run = λ h. absurd (undone h);
    done = λ h. absurd (undone h);
    spent_run = λ h. absurd (unspent h);
    spent = λ h. absurd (unspent h);
  }
  come_failed new o same (inr closed) undone unspent (inr x) = record {
    part = (lowest_steps b p ok).part new.world.made new.world.world new.journal.items
        (closed_underway new same closed x.0 x.1 x.2 x.3).going;
    done_run = λ h. absurd (undone h);
    done = λ h. absurd (undone h);
    spent_run = λ h. absurd (unspent h);
    spent = λ h. absurd (unspent h);
  }

  -- ---- a delivery

  module _ (to from : ℕ) (next : IsNext p c to from) where
    pub delivered_underway : (new : Course) → new.budget ≡ c.budget → c.world.made < b
        → new.world ≡ delivered c.world to from → new.journal.items ≡ j ++ event.Deliver to from ∷ []
        → IsUnderway p b new
    delivered_underway new same few is noted = record {
      plan = ap (λ (v : WorldView). v.plan) is ∙ u.plan;
      budget = same ∙ u.budget;
      well = ap (λ (v : WorldView). v.spoilt) is ∙ u.well;
      going = subst (λ (v : WorldView). Underway b p v.made v.world new.journal.items) (sym is)
          (subst (λ k. Underway b p (suc c.world.made) (delivered c.world to from).world k) (sym noted)
          (subst (λ q. Underway b p (suc c.world.made) (delivered (record c.world { plan = q }) to from).world
          (j ++ event.Deliver to from ∷ [])) (sym u.plan)
          ((lowest_steps b p ok).delivered c.world.made w j to from u.going next.not_due few next.link)));
    }

    -- the budget is spent
    pub come_spent : b ≤ c.world.made → HasCome p b j (Some outcome.BudgetSpent)
    come_spent all =
        let within = u.going.within in
        let is : c.world.made ≡ b = omega (arith, all, within) in
        let run : LowestRun b p j = (lowest_steps b p ok).spent w j (subst (λ n. Underway b p n w j) is u.going)
        (some_left to from next.link) next.not_due in
        record {
          part = underway_part;
          done_run = λ h. absurd (cc);
          done = λ h. absurd (cc);
          spent_run = λ h. run;
          spent = λ h. record {
            made_all = u.going.made ∙ is;
            more = λ e. some_left to from next.link (ap (λ (z : World). mail z.links) u.going.world ∙ e);
          };
        }
