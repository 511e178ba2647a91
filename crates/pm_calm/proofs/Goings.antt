-- The lowest run, one event after another.
use Rattle.std.proofs.Common.{◌≡◌, ℕ, zero, suc, ◌+◌, ◌-◌, ◌<◌, ◌≤◌, inl, inr, Bool, true, false, nat_lt, List, [], ◌∷◌, ◌++◌, refl, arith, ap, sym, ◌∙◌, subst, Option, Some, None, append-nil, append_assoc}
use Rattle.std.proofs.lemmas.Bool.{cases_Bool}
use Rattle.std.proofs.lemmas.Bool.Decides.{nat_tests}
use Rattle.pm_base.specs.declared.run.Event.{Event}
use Rattle.pm_base.specs.declared.run.Event.TheVariants as event
use Rattle.pm_base.specs.declared.stamp.Line.TheVariants as line
use Rattle.pm_plan.specs.Plans.{IsValid}
use Rattle.pm_plan.specs.declared.plan.Plan.{Plan}
use Rattle.pm_sim.proofs.Heads.{legal_append, line_self, made_append, run_append}
use Rattle.pm_sim.proofs.Promised.{plan_fits}
use Rattle.pm_sim.specs.Bounds.{between}
use Rattle.pm_sim.specs.Journals.{made}
use Rattle.pm_sim.specs.Reached.{Reached}
use Rattle.pm_sim.specs.Routings.{mail_to}
use Rattle.pm_sim.specs.Sims.{In}
use Rattle.pm_sim.specs.Worlds.{Mail, World, after_event, after_events, clps_of, commit, deliver, first_world, is_legal, least_line, mail, number, process}
use Rattle.pm_calm.specs.Lowest.{IsFirstOfAll, LeastLinkOf, LowestSteps, Underway, commits, ends_of, is_begun, least_link, least_mail, lowest, lowest_from, lowest_on, opened, opening, taken_before}
use Rattle.pm_calm.proofs.Firsts.{between_head, head_between, left_none, none_left}
use Rattle.pm_calm.proofs.Orders.{LowestIs, heads, lowest_is, same_link, some_lowest}
use Rattle.pm_calm.proofs.Rounds.{Kept, deliver_is, deliver_legal, least_may, names, reached_kept}

-- a round of the run, by whether a Commit comes first
abbrev Round : ℕ → Plan → World → Mail → Bool → List Event
Round n p w x b =
    opening b w ++ event.Deliver (number p x.to) (number p x.from)
    ∷ lowest_from n p (deliver p (opened b w) x.to x.from) true (least_mail p (deliver p (opened b w) x.to x.from))

-- behind a Commit at the least line none comes first
once_open : (w : World) → commits true (commit w (least_line w)) ≡ false
once_open w = (let e = line_self (least_line w) in rw e refl)

begins_open : (n : ℕ) (p : Plan) (w : World) (begun : Bool) (x : Mail) → commits begun w ≡ true
    → lowest_from n p w begun (Some x)
    ≡ event.Commit (least_line w) ∷ lowest_from n p (commit w (least_line w)) true (Some x)
begins_open zero p w begun x e =
    ap (λ b. opening b w) e
    ∙ ap (λ b. event.Commit (least_line w) ∷ opening b (commit w (least_line w))) (sym (once_open w))
begins_open (suc n) p w begun x e =
    ap (Round n p w x) e
    ∙ ap (λ b. event.Commit (least_line w) ∷ Round n p (commit w (least_line w)) x b) (sym (once_open w))

begins_taking : (n : ℕ) (p : Plan) (w : World) (begun : Bool) (x : Mail) → commits begun w ≡ false
    → lowest_from (suc n) p w begun (Some x) ≡ Round n p w x false
begins_taking n p w begun x e = ap (Round n p w x) e

stops_spent : (p : Plan) (w : World) (begun : Bool) (x : Mail) → commits begun w ≡ false
    → lowest_from 0 p w begun (Some x) ≡ []
stops_spent p w begun x e = ap (λ b. opening b w) e

begun_more : (j : List Event) (e : Event) → is_begun (j ++ e ∷ []) ≡ true
begun_more [] e = refl
begun_more (x ∷ j) e = refl

some_pair : (q r : ℕ × ℕ) → Some q ≡ Some r → q ≡ r
some_pair q r e = ap (pair_in q) e
  where
    pair_in : ℕ × ℕ → Option (ℕ × ℕ) → ℕ × ℕ
    pair_in z None = z
    pair_in z (Some x) = x

none_some : (q : ℕ × ℕ) → None ≡ Some q → ⊥
none_some q e = cc

-- a message is on its way
some_mail : (p : Plan) (w : World) → (mail w.links ≡ [] → ⊥) → (x : Mail) × (least_mail p w ≡ Some x)
some_mail p w ne = go (least_mail p w) refl
  where
    go : (o : Option Mail) → least_mail p w ≡ o → (x : Mail) × (o ≡ Some x)
    go None e = absurd (ne (none_left p w.links e))
    go (Some x) e = (x, refl)

-- the mail of the least link
link_mail : (p : Plan) (w : World) (to from : ℕ) → least_link p w ≡ Some (to, from)
    → (x : Mail) × (least_mail p w ≡ Some x) × (number p x.to ≡ to) × (number p x.from ≡ from)
link_mail p w to from l = go (least_mail p w) l
  where
    go : (o : Option Mail) → ends_of p o ≡ Some (to, from)
        → (x : Mail) × (o ≡ Some x) × (number p x.to ≡ to) × (number p x.from ≡ from)
    go None e = absurd (none_some (to, from) e)
    go (Some x) e = (let k = some_pair (number p x.to, number p x.from) (to, from) e in (
      x,
      refl,
      ap (λ (z : ℕ × ℕ). z.0) k,
      ap (λ (z : ℕ × ℕ). z.1) k,
    ))

module _ (budget : ℕ) (p : Plan) (valid : IsValid p) where
  under_reached : (n : ℕ) (w : World) (j : List Event) → Underway budget p n w j → Reached p n w
  under_reached n w j u = record { events = j; legal = u.legal; made = u.made; world = u.world }

  under_kept : (n : ℕ) (w : World) (j : List Event) → Underway budget p n w j → Kept p w
  under_kept n w j u = reached_kept p (plan_fits p valid) n w (under_reached n w j u)

  -- one event more, which the rest of the run begins with
  one_more : (n k : ℕ) (w : World) (j : List Event) (e : Event) → Underway budget p n w j
      → is_legal p w e ≡ true → n + made (e ∷ []) ≡ k → k ≤ budget
      → lowest_on (budget - n) p w (is_begun j) ≡ e ∷ lowest_on (budget - k) p (after_event p w e) true
      → Underway budget p k (after_event p w e) (j ++ e ∷ [])
  one_more n k w j e u ok m le goes = record {
    legal = legal_append p (first_world p) j (e ∷ []) u.legal
        (let g : is_legal p (after_events p (first_world p) j) e ≡ true =
        subst (λ z. is_legal p z e ≡ true) u.world ok in rw g refl);
    world = ap (λ z. after_event p z e) u.world ∙ sym (run_append p (first_world p) j (e ∷ []));
    made = made_append j (e ∷ []) ∙ (ap (λ z. z + made (e ∷ [])) u.made ∙ m);
    within = le;
    goes_on = append_assoc j (e ∷ []) (lowest_on (budget - k) p (after_event p w e) (is_begun (j ++ e ∷ [])))
        ∙ (ap (λ b. j ++ e ∷ lowest_on (budget - k) p (after_event p w e) b) (begun_more j e)
        ∙ (ap (λ z. j ++ z) (sym goes) ∙ u.goes_on));
  }

  pub committed_on : (n : ℕ) (w : World) (j : List Event) → Underway budget p n w j → (mail w.links ≡ [] → ⊥)
      → commits (is_begun j) w ≡ true
      → Underway budget p n (commit w (least_line w)) (j ++ event.Commit (least_line w) ∷ [])
  committed_on n w j u ne c =
      let x = some_mail p w ne in
      let k = under_kept n w j u in
      one_more n n w j (event.Commit (least_line w)) u (least_may p w k)
      (let z : n + 0 ≡ n = omega arith in z) u.within
      (subst (λ o. lowest_from (budget - n) p w (is_begun j) o
      ≡ event.Commit (least_line w) ∷ lowest_from (budget - n) p (commit w (least_line w)) true o)
      (sym x.1) (begins_open (budget - n) p w (is_begun j) x.0 c))

  pub delivered_on : (n : ℕ) (w : World) (j : List Event) (to from : ℕ) → Underway budget p n w j
      → commits (is_begun j) w ≡ false → n < budget → least_link p w ≡ Some (to, from)
      → Underway budget p (suc n) (after_event p w (event.Deliver to from)) (j ++ event.Deliver to from ∷ [])
  delivered_on n w j to from u c lt l =
      let x = link_mail p w to from l in
      let k = under_kept n w j u in
      let i : In x.0 (heads w.links) = (some_lowest p w.links x.0 x.1).there in
      let e : event.Deliver (number p x.0.to) (number p x.0.from) ≡ event.Deliver to from =
      (λ q. event.Deliver (x.2 q) (x.3 q)) in
      let ok = subst (λ z. is_legal p w z ≡ true) e (deliver_legal p w k x.0 i) in
      let next : after_event p w (event.Deliver to from) ≡ deliver p w x.0.to x.0.from =
      ap (after_event p w) (sym e) ∙ deliver_is p w k x.0 i in
      let goes : lowest_on (suc (budget - suc n)) p w (is_begun j)
      ≡ event.Deliver to from ∷ lowest_on (budget - suc n) p (after_event p w (event.Deliver to from)) true =
      ap (lowest_from (suc (budget - suc n)) p w (is_begun j)) x.1
      ∙ (begins_taking (budget - suc n) p w (is_begun j) x.0 c
      ∙ (ap (λ z. z ∷ lowest_on (budget - suc n) p (deliver p w x.0.to x.0.from) true) e
      ∙ ap (λ z. event.Deliver to from ∷ lowest_on (budget - suc n) p z true) (sym next))) in
      one_more n (suc n) w j (event.Deliver to from) u ok
      (let z : n + 1 ≡ suc n = omega arith in z) (omega arith)
      (let s : budget - n ≡ suc (budget - suc n) = omega arith in
      subst (λ z. lowest_on z p w (is_begun j)
      ≡ event.Deliver to from ∷ lowest_on (budget - suc n) p (after_event p w (event.Deliver to from)) true) (sym s)
      goes)

  pub done_on : (n : ℕ) (w : World) (j : List Event) → Underway budget p n w j → mail w.links ≡ []
      → j ++ event.Commit line.End ∷ [] ≡ lowest budget p
  done_on n w j u none =
      subst (λ o. j ++ lowest_from (budget - n) p w (is_begun j) o ≡ lowest budget p)
      (left_none p w.links none) u.goes_on

  pub spent_on : (w : World) (j : List Event) → Underway budget p budget w j → (mail w.links ≡ [] → ⊥)
      → commits (is_begun j) w ≡ false → j ≡ lowest budget p
  spent_on w j u ne c =
      let x = some_mail p w ne in
      let z : budget - budget ≡ 0 = omega arith in
      let goes : lowest_on (budget - budget) p w (is_begun j) ≡ [] =
      ap (λ n. lowest_on n p w (is_begun j)) z
      ∙ (ap (lowest_from 0 p w (is_begun j)) x.1 ∙ stops_spent p w (is_begun j) x.0 c) in
      sym (append-nil j) ∙ (ap (λ q. j ++ q) (sym goes) ∙ u.goes_on)

  pub lowest_steps : LowestSteps budget p
  lowest_steps = record {
    first = record {
      legal = refl;
      world = refl;
      made = refl;
      within = omega arith;
      goes_on = (let z : budget - 0 ≡ budget = omega arith in ap (λ n. lowest_on n p (first_world p) false) z);
    };
    committed = committed_on;
    delivered = delivered_on;
    done = done_on;
    spent = spent_on;
    part = λ n w j u. (lowest_on (budget - n) p w (is_begun j), u.goes_on);
    reached = under_reached;
  }

-- ---- the least link

number_of_process : (p : Plan) (k : ℕ) → number p (process p k) ≡ k
number_of_process p k = elim (cases_Bool (nat_lt k (clps_of p))) [
  | inl e ↦ rw e refl
  | inr e ↦ (let g : clps_of p + (k - clps_of p) ≡ k = grind (arith, nat_tests, e) in rw e g)
]

least_is : (p : Plan) (w : World) → Kept p w → (to from : ℕ) → IsFirstOfAll p w to from
    → least_link p w ≡ Some (to, from)
least_is p w k to from f = go (least_mail p w) (lowest_is p w.links)
  where
    y : Mail
    y = mail_to (process p to) (process p from) f.message

    iy : In y (heads w.links)
    iy = between_head (process p to) (process p from) w.links f.message f.rest f.first

    et : number p (process p to) ≡ to
    et = number_of_process p to

    ef : number p (process p from) ≡ from
    ef = number_of_process p from

    go : (o : Option Mail) → LowestIs p (heads w.links) o → ends_of p o ≡ Some (to, from)
    go None h = absurd (subst (In y) h iy)
    go (Some x) h =
        let b = head_between w.links k.awake.lanes x h.there in
        let n = names p w k x h.there in
        let at : between (process p (number p x.to)) (process p (number p x.from)) w.links ≡ x.message ∷ b.0 =
        subst (λ z. between z (process p (number p x.from)) w.links ≡ x.message ∷ b.0) (sym n.0)
        (subst (λ z. between x.to z w.links ≡ x.message ∷ b.0) (sym n.1) b.1) in
        let g = f.least (number p x.to) (number p x.from) x.message b.0 at in
        let g2 : taken_before (number p x.to) (number p x.from) x.message
        (number p (process p to)) (number p (process p from)) f.message ≡ false =
        subst (λ z. taken_before (number p x.to) (number p x.from) x.message z (number p (process p from)) f.message
        ≡ false) (sym et)
        (subst (λ z. taken_before (number p x.to) (number p x.from) x.message to z f.message ≡ false) (sym ef) g) in
        let s = same_link p x y g2 (h.least y iy) in
        (λ i. Some ((s.0 ∙ et) i, (s.1 ∙ ef) i))

pub least_link_is : (p : Plan) (n : ℕ) (w : World) → IsValid p → LeastLinkOf n p w
least_link_is p n w valid r = record {
  some = least_is p w (reached_kept p (plan_fits p valid) n w r);
  none = λ e. ap (ends_of p) (left_none p w.links e);
  only_none = λ e. go (least_mail p w) refl e;
}
  where
    go : (o : Option Mail) → least_mail p w ≡ o → ends_of p o ≡ None → mail w.links ≡ []
    go None e f = none_left p w.links e
    go (Some x) e f = absurd (none_some (number p x.to, number p x.from) (sym f))
