-- The lowest run never rolls back: no Cut comes, no Give is late, and each delivery takes a message of the least stamp.
use Rattle.std.proofs.Common.{◌≡◌, ℕ, zero, suc, inl, inr, Bool, true, false, cond, not, List, [], ◌∷◌, ◌++◌, refl, arith, ap, sym, ◌∙◌, subst, Option, Some, None, append-nil}
use Rattle.std.proofs.lemmas.Bool.Decides.{nat_tests}
use Rattle.pm_base.specs.Stamps.{or_lower, stamp_lt}
use Rattle.pm_base.specs.declared.run.Event.{Event}
use Rattle.pm_base.specs.declared.run.Event.TheVariants as event
use Rattle.pm_base.specs.declared.stamp.Line.{Line}
use Rattle.pm_base.specs.declared.stamp.Line.TheVariants as line
use Rattle.pm_base.specs.declared.stamp.Num.{Num}
use Rattle.pm_base.specs.declared.stamp.Stamp.{Stamp}
use Rattle.pm_base.specs.declared.value.Window.{Window}
use Rattle.pm_message.specs.Messages.{stamp_of}
use Rattle.pm_message.specs.declared.Message.{Message}
use Rattle.pm_message.specs.declared.Message.TheVariants as message
use Rattle.pm_plan.specs.Plans.{IsValid}
use Rattle.pm_plan.specs.declared.plan.Plan.{Plan}
use Rattle.pm_sim.proofs.Firsts.{PlanFits}
use Rattle.pm_sim.proofs.Fulls.{Full}
use Rattle.pm_sim.proofs.Heads.{line_self}
use Rattle.pm_sim.proofs.Letters.{map_in, message_of}
use Rattle.pm_sim.proofs.Promised.{plan_fits}
use Rattle.pm_sim.proofs.Readies.{least_in, least_of}
use Rattle.pm_sim.proofs.Stamps.{false_lt, lt_tells, stamps_same, true_lt}
use Rattle.pm_sim.specs.Journals.{AtLeast}
use Rattle.pm_sim.specs.Sims.{AtMost, In, NotPast}
use Rattle.pm_sim.specs.Worlds.{Mail, Process, Taken, World, after_event, commit, deliver, first_world, least_line, line_le, mail, number, process, take_from}
use Rattle.pm_sim.specs.Worlds.Process.{AtAgent}
use Rattle.pm_calm.specs.Calm.{CalmDelivery, CalmWorld, EachDelivery, EachWorld, IsCalm, LowestIsCalm}
use Rattle.pm_calm.specs.Lowest.{commits, least_mail, lowest, lowest_from, opened, opening}
use Rattle.pm_calm.specs.Phases.{Calm, MailAt, OrderIn, Over, Phase, is_over}
use Rattle.pm_calm.specs.Phases.Phase.{Idle}
use Rattle.pm_calm.proofs.Commits.{Old, calm_commit, calm_old, first_old}
use Rattle.pm_calm.proofs.Firsts.{head_mail, none_left, taken_head}
use Rattle.pm_calm.proofs.Orders.{IsLowest, heads, some_lowest}
use Rattle.pm_calm.proofs.Rounds.{Kept, commit_kept, deliver_is, deliver_kept, first_kept, least_may, names, opened_lowest}
use Rattle.pm_calm.proofs.Steps.{give_opens, least_some, next_calm, stamp_at, stamp_x}

-- before the first Commit, and behind it
abbrev Begins : Bool → Plan → World → Type 0
Begins true p w = (s : Stamp) × (os : List Over) × (ph : Phase) × Calm p w s os ph × OrderIn ph p w
Begins false p w = (k : Stamp) → Old p k w

cut_none : (p : Plan) (s : Stamp) (over : Num → ℕ → Window → Type 0) (ph : Phase) (to from : Process) (m : Message)
    (n : Num) (z : Stamp) (v : ℕ) → MailAt p s over ph to from m → m ≡ message.Cut n z v → ⊥
cut_none p s over ph to from m n z v h e =
    (let a : MailAt p s over ph to from (message.Cut n z v) = subst (MailAt p s over ph to from) e h in a)

fine : (b : Bool) (p : Plan) (w : World) → Begins b p w → CalmWorld w
fine true p w (s, os, ph, calm, order) = (
  λ x i n z v e. cut_none p s (is_over os) ph x.to x.from x.message n z v (calm.letters x i) e,
  λ x i. elim (stamp_at p s (is_over os) ph x.to x.from x.message (calm.letters x i)) [
    | inl wk ↦ inl wk.0
    | inr es ↦ inr (calm.line ∙ ap line.At (sym es))
  ],
)
fine false p w old = (
  λ x i n z v e.
      (let o = ((old (record { time = 0; agent = 0 })).wakes x i).0 in no_cut o.0 o.1 n z v (sym o.2 ∙ e)),
  λ x i. inl ((old (record { time = 0; agent = 0 })).wakes x i).0,
)
  where
    no_cut : (k : Num) (y : Stamp) (n : Num) (z : Stamp) (v : ℕ) → message.Wake k y ≡ message.Cut n z v → ⊥
    no_cut k y n z v f = cc

not_none : (ms : List Mail) (x : Mail) → In x ms → ms ≡ [] → ⊥
not_none ms x i e = subst (In x) e i

-- the least line is a moment where a message is on its way
least_at : (ms : List Mail) (x : Mail) → In x ms → (k : Stamp) × (least_of ms ≡ line.At k)
least_at ms x i = (let r = least_in ms (not_none ms x i) in (stamp_of r.0.message, r.2))

-- a line that is at most the least one is at most each message's stamp
least_parts : (k : Stamp) (s : Stamp) (m : Line) → line_le (line.At k) (or_lower s m) ≡ true
    → AtMost k s × (line_le (line.At k) m ≡ true)
least_parts t s line.End e = (let g = e in grind (arith, nat_tests, g), refl)
least_parts t s (line.At u) e = elim (lt_tells s u) [
  | inl w ↦ (let a : line_le (line.At t) (line.At s) ≡ true =
      subst (λ b. line_le (line.At t) (cond b (line.At s) (line.At u)) ≡ true) w.0 e in
      let b = w.1 in (grind (arith, nat_tests, a), grind (arith, nat_tests, a, b)))
  | inr w ↦ (let a : line_le (line.At t) (line.At u) ≡ true =
      subst (λ b. line_le (line.At t) (cond b (line.At s) (line.At u)) ≡ true) w.0 e in
      let b = w.1 in (grind (arith, nat_tests, a, b), a))
]

least_low : (k : Stamp) (ms : List Mail) (x : Mail) → line_le (line.At k) (least_of ms) ≡ true → In x ms
    → AtMost k (stamp_of x.message)
least_low k [] x e i = absurd i
least_low k (m ∷ ms) x e (inl f) = subst (λ (z : Mail). AtMost k (stamp_of z.message)) (sym f)
    (least_parts k (stamp_of m.message) (least_of ms) e).0
least_low k (m ∷ ms) x e (inr i) = least_low k ms x (least_parts k (stamp_of m.message) (least_of ms) e).1 i

-- the opening of a round: the line is the least line, and the world is calm
record Opened (p : Plan) (u : World) : Type 0 where
  kept : Kept p u
  s : Stamp
  os : List Over
  ph : Phase
  calm : Calm p u s os ph
  order : OrderIn ph p u
  least_is : least_line u ≡ line.At s

twice_true : (b : Bool) → not (not b) ≡ true → b ≡ true
twice_true true f = refl
twice_true false f = absurd (cc)

twice_false : (b : Bool) → not (not b) ≡ false → b ≡ false
twice_false true f = absurd (cc)
twice_false false f = refl

opens : (b : Bool) (p : Plan) (w : World) (begun : Bool) (x : Mail) → commits begun w ≡ b → In x (mail w.links)
    → Kept p w
    → Begins begun p w → Opened p (opened b w)
opens true p w begun x eb ix r bg =
    let k = least_at (mail w.links) x ix in
    let low : (y : Mail) → In y (mail w.links) → NotPast (line.At k.0) (stamp_of y.message) = λ y i.
    least_low k.0 (mail w.links) y
    (subst (λ l. line_le (line.At k.0) l ≡ true) (sym k.1) (line_self (line.At k.0))) i in
    let old : Old p k.0 w = by begun bg eb k.0 k.1 low in
    let r' = commit_kept p w r (least_line w) (least_may p w r) in
    let full : Full p r'.whole.q (commit w (line.At k.0)) =
    subst (λ l. Full p r'.whole.q (commit w l)) k.1 r'.whole.full in
    record {
      kept = r';
      s = k.0;
      os = [];
      ph = Idle;
      calm = subst (λ l. Calm p (commit w l) k.0 [] Idle) (sym k.1) (calm_commit p r'.whole.q w k.0 full old);
      order = tt;
      least_is = k.1;
    }
  where
    by : (g : Bool) → Begins g p w → commits g w ≡ true → (k : Stamp) → least_line w ≡ line.At k
        → ((y : Mail) → In y (mail w.links) → NotPast (line.At k) (stamp_of y.message)) → Old p k w
    by false old e k ek low = old k
    by true (s, os, ph, calm, order) e k ek low =
        let f : not (line_le (line.At k) (line.At s)) ≡ true =
        subst (λ l. not (line_le (line.At k) l) ≡ true) calm.line
        (subst (λ l. not (line_le l w.line) ≡ true) ek e) in
        calm_old p w s k os ph calm r.whole.full.sim.size (true_lt s k (twice_true (stamp_lt s k) f)) low
opens false p w begun x eb ix r bg = by begun bg eb
  where
    by : (g : Bool) → Begins g p w → commits g w ≡ false → Opened p w
    by false old e = absurd (cc)
    by true (s, os, ph, calm, order) e =
        let k = least_at (mail w.links) x ix in
        let f : not (line_le (line.At k.0) (line.At s)) ≡ false =
        subst (λ l. not (line_le (line.At k.0) l) ≡ false) calm.line
        (subst (λ l. not (line_le l w.line) ≡ false) k.1 e) in
        let up : AtMost k.0 s = false_lt s k.0 (twice_false (stamp_lt s k.0) f) in
        let y = least_some (mail w.links) k.0 k.1 in
        let dn : AtMost s k.0 = subst (AtMost s) y.2 (subst (λ l. NotPast l (stamp_of y.0.message)) calm.line
        (r.whole.full.sim.core.mail y.0.message (map_in message_of (mail w.links) y.0 y.1)).1) in
        let es : k.0 ≡ s = stamps_same k.0 s (grind (arith, up, dn)) (grind (arith, up, dn)) in
        record {
          kept = r;
          s = s;
          os = os;
          ph = ph;
          calm = calm;
          order = order;
          least_is = k.1 ∙ ap line.At es;
        }

-- the opening and then the rest
then_rest : (b : Bool) (p : Plan) (w : World) (es : List Event) → CalmWorld w → IsCalm p (opened b w) es
    → IsCalm p w (opening b w ++ es)
then_rest true p w es f h =
    record { worlds = (f, h.worlds); deliveries = h.deliveries; commits = (refl, h.commits) }
then_rest false p w es f h = h

still_there : (p : Plan) (w : World) → CalmWorld w → IsCalm p w []
still_there p w f = record { worlds = f; deliveries = tt; commits = tt }

some_taken : (a b : Taken) → Some a ≡ Some b → a ≡ b
some_taken a b f = cc

-- one delivery and then the rest
then_deliver : (p : Plan) (u : World) (o : Opened p u) (x : Mail) → IsLowest p (heads u.links) x → (es : List Event)
    → IsCalm p (deliver p u x.to x.from) es → IsCalm p u (event.Deliver (number p x.to) (number p x.from) ∷ es)
then_deliver p u o x low es h =
    let n = names p u o.kept x low.there in
    let t = taken_head u.links o.kept.awake.lanes x low.there in
    let next : IsCalm p (after_event p u (event.Deliver (number p x.to) (number p x.from))) es =
    subst (λ v. IsCalm p v es) (sym (deliver_is p u o.kept x low.there)) h in
    record {
      worlds = (fine true p u (o.s, o.os, o.ph, o.calm, o.order), next.worlds);
      deliveries = (
        λ t' e'. (let e2 : take_from x.to x.from u.links ≡ Some t' =
            subst (λ v. take_from v x.from u.links ≡ Some t') n.0
            (subst (λ v. take_from (process p (number p x.to)) v u.links ≡ Some t') n.1 e') in
            let em : t'.message ≡ x.message =
            ap (λ (z : Taken). z.message) (some_taken t' t.0 (sym e2 ∙ t.1)) ∙ t.2 in
            let es' : stamp_of x.message ≡ o.s = stamp_x p u o.kept o.s o.os o.ph o.calm o.order x low o.least_is in
            let ls : o.s ≡ stamp_of t'.message = sym es' ∙ ap stamp_of (sym em) in (
              (o.least_is ∙ ap line.At ls, o.calm.line ∙ ap line.At ls),
              λ a g ea eg. (let ex : x.to ≡ AtAgent a = sym n.0 ∙ ea in
                  give_opens p u o.kept o.s o.os o.ph o.calm o.order x low o.least_is a ex t'
                  (subst (λ v. take_from v x.from u.links ≡ Some t') ex e2) em g (sym em ∙ eg)),
            )),
        next.deliveries,
      );
      commits = next.commits;
    }

runs : (budget : ℕ) (p : Plan) (w : World) (begun : Bool) (o : Option Mail) → least_mail p w ≡ o → Kept p w
    → Begins begun p w → IsCalm p w (lowest_from budget p w begun o)
runs budget p w begun None e r b =
    let none = none_left p w.links e in
    let gone : (x : Mail) → In x (mail w.links) → ⊥ = λ x i. subst (In x) none i in
    record {
      worlds = (fine begun p w b, (λ x i. absurd (gone x i), λ x i. absurd (gone x i)));
      deliveries = tt;
      commits = (sym (ap least_of none), tt);
    }
runs zero p w begun (Some x) e r b =
    let o = opens (commits begun w) p w begun x refl (head_mail w.links x (some_lowest p w.links x e).there) r b in
    subst (IsCalm p w) (append-nil (opening (commits begun w) w))
    (then_rest (commits begun w) p w [] (fine begun p w b) (still_there p (opened (commits begun w) w)
    (fine true p (opened (commits begun w) w) (o.s, o.os, o.ph, o.calm, o.order))))
runs (suc budget) p w begun (Some x) e r b =
    let c : Bool = commits begun w in
    let u : World = opened c w in
    let low0 = some_lowest p w.links x e in
    let o = opens c p w begun x refl (head_mail w.links x low0.there) r b in
    let low = opened_lowest c p w x low0 in
    let n = next_calm p u o.kept o.s o.os o.ph o.calm o.order x low o.least_is in
    let next : World = deliver p u x.to x.from in
    let rest : List Event = lowest_from budget p next true (least_mail p next) in
    then_rest c p w (event.Deliver (number p x.to) (number p x.from) ∷ rest) (fine begun p w b)
    (then_deliver p u o x low rest
    (runs budget p next true (least_mail p next) refl (deliver_kept p u o.kept x.to x.from) (o.s, n.0, n.1, n.2, n.3)))

-- of the lowest run of any plan, with any budget
lowest_run : (budget : ℕ) (p : Plan) → PlanFits p → IsCalm p (first_world p) (lowest budget p)
lowest_run budget p fit =
    let r = first_kept p fit in
    runs budget p (first_world p) false (least_mail p (first_world p)) refl r
    (λ k. first_old p fit r.whole.full.sim.size k)

-- ---- and of each list of events that it begins with

worlds_left : (p : Plan) (w : World) (es fs : List Event) → EachWorld CalmWorld p w (es ++ fs)
    → EachWorld CalmWorld p w es
worlds_left p w [] [] h = h
worlds_left p w [] (f ∷ fs) h = h.0
worlds_left p w (e ∷ es) fs h = (h.0, worlds_left p (after_event p w e) es fs h.1)

deliveries_left : (p : Plan) (w : World) (es fs : List Event) → EachDelivery CalmDelivery p w (es ++ fs)
    → EachDelivery CalmDelivery p w es
deliveries_left p w [] fs h = tt
deliveries_left p w (event.Deliver to from ∷ es) fs h =
    (h.0, deliveries_left p (after_event p w (event.Deliver to from)) es fs h.1)
deliveries_left p w (event.Commit l ∷ es) fs h = deliveries_left p (commit w l) es fs h

commits_left : (p : Plan) (w : World) (es fs : List Event) → AtLeast p w (es ++ fs) → AtLeast p w es
commits_left p w [] fs h = tt
commits_left p w (event.Deliver to from ∷ es) fs h =
    commits_left p (after_event p w (event.Deliver to from)) es fs h
commits_left p w (event.Commit l ∷ es) fs h = (h.0, commits_left p (commit w l) es fs h.1)

pub part_calm : (budget : ℕ) (p : Plan) (j : List Event) → IsValid p → LowestIsCalm budget p j
part_calm budget p j valid part =
    let all : IsCalm p (first_world p) (j ++ part.0) =
    subst (IsCalm p (first_world p)) (sym part.1) (lowest_run budget p (plan_fits p valid)) in
    record {
      worlds = worlds_left p (first_world p) j part.0 all.worlds;
      deliveries = deliveries_left p (first_world p) j part.0 all.deliveries;
      commits = commits_left p (first_world p) j part.0 all.commits;
    }
