-- The lowest run is legal, and goes on one event after another.
use Rattle.std.proofs.Common.{◌≡◌, ℕ, zero, suc, Bool, true, false, ◌&&◌, List, [], ◌∷◌, ◌++◌, length, refl, ap, sym, ◌∙◌, subst, Option, Some, None, append-nil}
use Rattle.std.proofs.lemmas.Bool.{and_parts}
use Rattle.pm_base.specs.declared.rows.Entry.{Entry}
use Rattle.pm_base.specs.declared.run.Event.{Event}
use Rattle.pm_base.specs.declared.run.Event.TheVariants as event
use Rattle.pm_base.specs.declared.stamp.Line.{Line}
use Rattle.pm_base.specs.declared.stamp.Line.TheVariants as line
use Rattle.pm_plan.specs.declared.plan.Plan.{Plan}
use Rattle.pm_sim.proofs.Awakes.{Awake, commit_awake, deliver_awake, first_awake, run_awake}
use Rattle.pm_sim.proofs.Firsts.{PlanFits}
use Rattle.pm_sim.proofs.Heads.{may_least}
use Rattle.pm_sim.proofs.Lanes.{InPlan}
use Rattle.pm_sim.proofs.Nexts.{key_ok, number_process}
use Rattle.pm_sim.proofs.Wholes.{Whole, commit_whole, deliver_whole, first_whole, whole_run}
use Rattle.pm_sim.specs.Reached.{Reached}
use Rattle.pm_sim.specs.Sims.{In}
use Rattle.pm_sim.specs.Worlds.{Mail, Process, World, after_event, after_events, clps_of, commit, committed, deliver, first_world, handed, has_mail, is_legal, is_legal_run, least_line, mail, may_commit, number, process, take_from}
use Rattle.pm_calm.specs.Lowest.{commits, least_mail, lowest, lowest_from, opened, opening}
use Rattle.pm_calm.proofs.Firsts.{between_key, head_between, none_left, taken_head}
use Rattle.pm_calm.proofs.Orders.{IsLowest, heads, some_lowest}

-- what every legal run keeps, as far as the lowest run asks for it
pub record Kept (p : Plan) (w : World) : Type 0 where
  pub done : List Entry
  pub whole : Whole p w done
  pub awake : Awake p w

pub first_kept : (p : Plan) → PlanFits p → Kept p (first_world p)
first_kept p fit = record { done = []; whole = first_whole p fit; awake = first_awake p fit }

pub run_kept : (p : Plan) → PlanFits p → (es : List Event) → is_legal_run p (first_world p) es ≡ true
    → Kept p (after_events p (first_world p) es)
run_kept p fit es l = record {
  done = committed p es;
  whole = whole_run p (first_world p) [] es (first_whole p fit) l;
  awake = run_awake p fit es l;
}

pub reached_kept : (p : Plan) → PlanFits p → (n : ℕ) (w : World) → Reached p n w → Kept p w
reached_kept p fit n w r = subst (Kept p) (sym r.world) (run_kept p fit r.events r.legal)

pub opened_links : (b : Bool) (w : World) → (opened b w).links ≡ w.links
opened_links true w = refl
opened_links false w = refl

module _ (p : Plan) (w : World) (k : Kept p w) where
  pub deliver_kept : (to from : Process) → Kept p (deliver p w to from)
  deliver_kept to from = record {
    done = k.done;
    whole = deliver_whole p w k.done to from k.whole;
    awake = deliver_awake p k.whole.q w k.whole.full k.awake to from;
  }

  pub commit_kept : (l : Line) → may_commit w l ≡ true → Kept p (commit w l)
  commit_kept l may = record {
    done = k.done ++ handed w l;
    whole = commit_whole p w k.done l k.whole may;
    awake = commit_awake p k.whole.q w k.whole.full k.awake l;
  }

  -- a Commit at the least line is legal
  pub least_may : may_commit w (least_line w) ≡ true
  least_may = may_least p k.whole.q w k.whole.full.recs k.whole.full.sim

  pub opened_kept : (b : Bool) → Kept p (opened b w)
  opened_kept true = commit_kept (least_line w) least_may
  opened_kept false = k

  -- the ends of a first message are processes of the plan, named by their numbers
  pub ends_in : (x : Mail) → In x (heads w.links)
      → InPlan (clps_of p) (length (first_world p).agents) x.to
      × InPlan (clps_of p) (length (first_world p).agents) x.from
  ends_in x i =
      let b = head_between w.links k.awake.lanes x i in
      let key = between_key x.to x.from w.links x.message b.0 b.1 in
      let r = key_ok p k.whole.full.sim.tree x.to x.from (subst (In (x.to, x.from)) k.awake.links key) in
      (r.1, r.2)

  pub names : (x : Mail) → In x (heads w.links)
      → (process p (number p x.to) ≡ x.to) × (process p (number p x.from) ≡ x.from)
  names x i = (let e = ends_in x i in (
    number_process p (length (first_world p).agents) x.to e.0,
    number_process p (length (first_world p).agents) x.from e.1,
  ))

  -- a Deliver of a first message is legal, and is the delivery between its processes
  pub deliver_is : (x : Mail) → In x (heads w.links)
      → after_event p w (event.Deliver (number p x.to) (number p x.from)) ≡ deliver p w x.to x.from
  deliver_is x i = (let n = names x i in
      ap (λ z. deliver p w z (process p (number p x.from))) n.0 ∙ ap (λ z. deliver p w x.to z) n.1)

  pub deliver_legal : (x : Mail) → In x (heads w.links)
      → is_legal p w (event.Deliver (number p x.to) (number p x.from)) ≡ true
  deliver_legal x i =
      let n = names x i in
      let t = taken_head w.links k.awake.lanes x i in
      ap (λ z. has_mail (take_from z (process p (number p x.from)) w.links)) n.0
      ∙ (ap (λ z. has_mail (take_from x.to z w.links)) n.1 ∙ ap has_mail t.1)

-- ---- the run is legal

and_both : (a b : Bool) → a ≡ true → b ≡ true → (a && b) ≡ true
and_both true true e f = refl
and_both true false e f = absurd (cc)
and_both false b e f = absurd (cc)

opening_legal : (b : Bool) (p : Plan) (w : World) (es : List Event) → Kept p w
    → is_legal_run p (opened b w) es ≡ true → is_legal_run p w (opening b w ++ es) ≡ true
opening_legal true p w es k h = and_both (may_commit w (least_line w)) _ (least_may p w k) h
opening_legal false p w es k h = h

-- where no message is left a Commit at the end is legal
end_may : (w : World) → mail w.links ≡ [] → may_commit w line.End ≡ true
end_may w none = rw none refl

pub opened_lowest : (b : Bool) (p : Plan) (w : World) (x : Mail) → IsLowest p (heads w.links) x
    → IsLowest p (heads (opened b w).links) x
opened_lowest b p w x low = subst (λ ls. IsLowest p (heads ls) x) (sym (opened_links b w)) low

pub legal_from : (budget : ℕ) (p : Plan) (w : World) (begun : Bool) (o : Option Mail) → least_mail p w ≡ o → Kept p w
    → is_legal_run p w (lowest_from budget p w begun o) ≡ true
legal_from budget p w begun None e k =
    and_both (may_commit w line.End) true (end_may w (none_left p w.links e)) refl
legal_from zero p w begun (Some x) e k =
    subst (λ z. is_legal_run p w z ≡ true) (append-nil (opening (commits begun w) w))
    (opening_legal (commits begun w) p w [] k refl)
legal_from (suc budget) p w begun (Some x) e k =
    let b : Bool = commits begun w in
    let u : World = opened b w in
    let low = opened_lowest b p w x (some_lowest p w.links x e) in
    let ku = opened_kept p w k b in
    let next : World = deliver p u x.to x.from in
    let rest : List Event = lowest_from budget p next true (least_mail p next) in
    let again = legal_from budget p next true (least_mail p next) refl (deliver_kept p u ku x.to x.from) in
    opening_legal b p w (event.Deliver (number p x.to) (number p x.from) ∷ rest) k
    (and_both (is_legal p u (event.Deliver (number p x.to) (number p x.from))) _
    (deliver_legal p u ku x low.there)
    (subst (λ v. is_legal_run p v rest ≡ true) (sym (deliver_is p u ku x low.there)) again))

pub lowest_legal : (budget : ℕ) (p : Plan) → PlanFits p → is_legal_run p (first_world p) (lowest budget p) ≡ true
lowest_legal budget p fit =
    legal_from budget p (first_world p) false (least_mail p (first_world p)) refl (first_kept p fit)

pub legal_left : (p : Plan) (w : World) (es fs : List Event) → is_legal_run p w (es ++ fs) ≡ true
    → is_legal_run p w es ≡ true
legal_left p w [] fs l = refl
legal_left p w (e ∷ es) fs l =
    let q = and_parts (is_legal p w e) (is_legal_run p (after_event p w e) (es ++ fs)) l in
    and_both (is_legal p w e) (is_legal_run p (after_event p w e) es) q.0
    (legal_left p (after_event p w e) es fs q.1)
