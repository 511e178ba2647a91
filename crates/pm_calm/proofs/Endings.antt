-- How the lowest run ends.
use Rattle.std.proofs.Common.{◌≡◌, ℕ, zero, suc, inl, inr, Bool, true, false, List, [], ◌∷◌, ◌++◌, filter, refl, arith, ap, sym, ◌∙◌, subst, Option, Some, None}
use Rattle.pm_base.specs.declared.run.Event.{Event}
use Rattle.pm_base.specs.declared.run.Event.TheVariants as event
use Rattle.pm_base.specs.declared.stamp.Line.TheVariants as line
use Rattle.pm_plan.specs.Plans.{IsValid}
use Rattle.pm_plan.specs.declared.plan.Plan.{Plan}
use Rattle.pm_model.specs.Entries.{run_below}
use Rattle.pm_model.specs.Runs.{sequential_run}
use Rattle.pm_base.specs.declared.rows.Entry.{Entry}
use Rattle.pm_sim.proofs.Promised.{committed-sequential, plan_fits}
use Rattle.pm_sim.specs.Journals.{made}
use Rattle.pm_sim.specs.Sims.{In}
use Rattle.pm_sim.specs.Worlds.{Mail, World, after_events, deliver, first_world, is_legal_run, mail, number}
use Rattle.pm_calm.specs.Calm.{EndsAt, LowestCommits, LowestEnds, LowestIsLegal}
use Rattle.pm_calm.specs.Lowest.{commits, least_mail, lowest_from, opened, opening}
use Rattle.pm_calm.proofs.Firsts.{head_mail, none_left}
use Rattle.pm_calm.proofs.Orders.{some_lowest}
use Rattle.pm_calm.proofs.Rounds.{Kept, deliver_is, deliver_kept, first_kept, legal_left, lowest_legal, opened_kept, opened_lowest}

run_opening : (b : Bool) (p : Plan) (w : World) (es : List Event)
    → after_events p w (opening b w ++ es) ≡ after_events p (opened b w) es
run_opening true p w es = refl
run_opening false p w es = refl

made_opening : (b : Bool) (w : World) (es : List Event) → made (opening b w ++ es) ≡ made es
made_opening true w es = refl
made_opening false w es = refl

made_none : (b : Bool) (w : World) → made (opening b w) ≡ 0
made_none true w = refl
made_none false w = refl

run_none : (b : Bool) (p : Plan) (w : World) → after_events p w (opening b w) ≡ opened b w
run_none true p w = refl
run_none false p w = refl

abbrev Ends : Plan → ℕ → World → List Event → Type 0
Ends p budget w es = EndsAt budget es (after_events p w es)

still_mail : (x : Mail) (w : World) → In x (mail w.links) → mail w.links ≡ [] → ⊥
still_mail x w i e = subst (In x) e i

ends_from : (budget : ℕ) (p : Plan) (w : World) (begun : Bool) (o : Option Mail) → least_mail p w ≡ o → Kept p w
    → Ends p budget w (lowest_from budget p w begun o)
ends_from budget p w begun None e k = inl (omega arith, none_left p w.links e, refl)
ends_from zero p w begun (Some x) e k =
    let b : Bool = commits begun w in
    let i : In x (mail (opened b w).links) =
    head_mail (opened b w).links x (opened_lowest b p w x (some_lowest p w.links x e)).there in
    inr (
      made_none b w,
      subst (λ (u : World). mail u.links ≡ [] → ⊥) (sym (run_none b p w))
          (still_mail x (opened b w) i),
    )
ends_from (suc budget) p w begun (Some x) e k =
    let b : Bool = commits begun w in
    let u : World = opened b w in
    let ku = opened_kept p w k b in
    let next : World = deliver p u x.to x.from in
    let rest : List Event = lowest_from budget p next true (least_mail p next) in
    let all : List Event = opening b w ++ event.Deliver (number p x.to) (number p x.from) ∷ rest in
    let low = opened_lowest b p w x (some_lowest p w.links x e) in
    let same : after_events p w all ≡ after_events p next rest =
    run_opening b p w (event.Deliver (number p x.to) (number p x.from) ∷ rest)
    ∙ ap (λ v. after_events p v rest) (deliver_is p u ku x low.there) in
    let one : made all ≡ suc (made rest) =
    made_opening b w (event.Deliver (number p x.to) (number p x.from) ∷ rest) in
    elim (ends_from budget p next true (least_mail p next) refl (deliver_kept p u ku x.to x.from)) [
      | inl o ↦ inl (
        (let a = o.0 in omega arith),
        ap (λ (v : World). mail v.links) same ∙ o.1,
        ap (λ (v : World). v.line) same ∙ o.2,
      )
      | inr o ↦ inr (
        (let a = o.0 in omega arith),
        subst (λ (v : World). mail v.links ≡ [] → ⊥) (sym same) o.1,
      )
    ]

pub lowest_ends : (budget : ℕ) (p : Plan) → IsValid p → LowestEnds budget p
lowest_ends budget p valid =
    ends_from budget p (first_world p) false (least_mail p (first_world p)) refl (first_kept p (plan_fits p valid))

pub part_legal : (budget : ℕ) (p : Plan) (j : List Event) → IsValid p → LowestIsLegal budget p j
part_legal budget p j valid part = legal_left p (first_world p) j part.0
    (subst (λ z. is_legal_run p (first_world p) z ≡ true) (sym part.1) (lowest_legal budget p (plan_fits p valid)))

-- nothing of the sequential run is above the end
below_end : (p : Plan) → run_below p line.End ≡ sequential_run p
unfolding run_below
below_end p = all_kept (sequential_run p)
  where
    all_kept : (xs : List Entry) → filter (λ e. true) xs ≡ xs
    all_kept [] = refl
    all_kept (x ∷ xs) = ap (λ z. x ∷ z) (all_kept xs)

pub part_commits : (budget : ℕ) (p : Plan) (j : List Event) → IsValid p → LowestCommits budget p j
part_commits budget p j valid part =
    let below = committed-sequential p j valid (part_legal budget p j valid part) in
    record { below = below; all = λ e. below ∙ (ap (run_below p) e ∙ below_end p) }
