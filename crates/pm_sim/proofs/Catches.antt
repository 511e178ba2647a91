-- Catching up at a port: registered queries are sent there late, and what is kept of queries stays.
use Rattle.pm_queries.specs.Queries.{has, has_reg, ask_of}
use Rattle.pm_queries.specs.declared.registered.Registered.{Registered}
use Rattle.pm_tables.specs.Tables.{may_hold}
use Rattle.pm_base.specs.Stamps.{num_eq}
use Rattle.pm_clp.specs.Clps.{caught, catches, catch_up, ClpState}
use Rattle.pm_ranges.specs.Known.{Known}
use Rattle.pm_sim.proofs.Places.{process_clp, lift, HubSends, clp_at, queries_at, Sim}
use Rattle.pm_sim.specs.Worlds.{hub_of, process, ports, posted, Mail, Posted, Process, World, home, mail, clps_of}
use Rattle.std.specs.Prelude.{nat_lt, ◌-◌}
use Rattle.std.proofs.Common.{ap₂, ◌≡◌, ℕ, zero, suc, ◌+◌, ◌<◌, ◌≤◌, ◌⊎◌, inl, inr, ◌==◌, Bool, true, false, cond, not, ◌&&◌, ◌||◌, List, [], ◌∷◌, ◌++◌, map, filter, length, refl, arith, ap, sym, ◌∙◌, subst, subst₂}
use Rattle.pm_sim.proofs.Queries.{reg_of, has_reg_in, one_reg, ask_is, mail_same, ask_parts, clp_parts, toward_away}
use Rattle.std.proofs.lemmas.Bool.{cases_eq, cases_Bool, cond_both, and_parts}
use Rattle.std.proofs.lemmas.Bool.Decides.{nat_tests}
use Rattle.pm_base.specs.declared.rows.Parts.{Parts}
use Rattle.pm_base.specs.declared.stamp.Num.{Num}
use Rattle.pm_base.specs.declared.stamp.Stamp.{Stamp}
use Rattle.pm_base.specs.declared.value.Window.{Window}
use Rattle.pm_message.specs.Messages.{stamp_of}
use Rattle.pm_model.specs.declared.State.{State}
use Rattle.pm_plan.specs.Plans.{parents}
use Rattle.pm_plan.specs.Trees.{hop}
use Rattle.pm_plan.specs.declared.plan.Plan.{Plan}
use Rattle.pm_sim.specs.Worlds.Process.{AtClp, AtAgent}
use Rattle.pm_sim.specs.Sims.{In, MailOk, NotPast, one_if, tally}
use Rattle.pm_sim.specs.Routings.{Begun, FitsAt, Goes, NoTwiceReg, QueriesOk, Up, ask_to, mail_to, toward, unmoved}
use Rattle.pm_sim.proofs.Acts.{acts, acts_bag, acts_here, acts_there, acts_build}
use Rattle.pm_sim.proofs.Letters.{Bag, sent_mail, in_map, map_in}
use Rattle.pm_sim.proofs.Lists.{in_left, in_right, in_cases}
use Rattle.pm_sim.proofs.Quiets.{tally_none, tally_some}
use Rattle.pm_sim.proofs.Routed.{neutral}
use Rattle.pm_sim.proofs.Stamps.{nums_same}
use Rattle.pm_sim.proofs.Trims.{in_filter, filter_in}
use Rattle.pm_base.specs.declared.value.Query.TheVariants as query
use Rattle.pm_message.specs.declared.Message.TheVariants as message

pub in_has : (d : ℕ) (xs : List ℕ) → In d xs → has d xs ≡ true
in_has d [] i = absurd i
in_has d (x ∷ xs) (inl e) = (let g : (d == x) ≡ true = grind (arith, nat_tests, e) in rw g)
in_has d (x ∷ xs) (inr i) = (let g = in_has d xs i in go (d == x) (has d xs) g)
  where
    go : (a b : Bool) → b ≡ true → (a || b) ≡ true
    go true b e = refl
    go false b e = e

pub has_in : (d : ℕ) (xs : List ℕ) → has d xs ≡ true → In d xs
has_in d [] e = absurd (cc)
has_in d (x ∷ xs) e =
    elim (cases_eq d x) [ inl f ↦ inl f | inr ne ↦ inr (has_in d xs (grind (arith, nat_tests, e, ne))) ]

module _ (p : Plan) (c : ℕ) (b : List (List Known)) (d k : ℕ) where
  abbrev pub cg : Registered → Registered
  cg r = caught (hub_of p c) b d k r

  abbrev pub ct : Registered → Bool
  ct r = catches (hub_of p c) b d k r

  -- what catching up leaves of a query
  pub caught_same : (r : Registered) → ((cg r).num ≡ r.num) × ((cg r).from ≡ r.from)
      × ((cg r).stamp ≡ r.stamp) × ((cg r).window ≡ r.window) × ((cg r).class ≡ r.class) × ((cg r).waits ≡ r.waits)
  caught_same r = cond_both (ct r) (record r { sent = r.sent ++ d ∷ [] }) r (λ (z : Registered). (z.num ≡ r.num)
      × (z.from ≡ r.from) × (z.stamp ≡ r.stamp) × (z.window ≡ r.window) × (z.class ≡ r.class) × (z.waits ≡ r.waits))
      (λ _. (refl, refl, refl, refl, refl, refl)) (λ _. (refl, refl, refl, refl, refl, refl))

  pub caught_ask : (r : Registered) → ask_of (cg r) ≡ ask_of r
  caught_ask r = cond_both
      (ct r) (record r { sent = r.sent ++ d ∷ [] }) r (λ (z : Registered). ask_of z ≡ ask_of r) (λ _. refl) (λ _. refl)

  pub caught_sent : (r : Registered) (e : ℕ) → In e r.sent → In e (cg r).sent
  caught_sent r e i = cond_both (ct r) (record r { sent = r.sent ++ d ∷ [] })
      r (λ (z : Registered). In e z.sent) (λ _. in_left r.sent (d ∷ []) e i) (λ _. i)

  pub caught_here : (r : Registered) → ct r ≡ true → In d (cg r).sent
  caught_here r e = rw e (in_right r.sent (d ∷ []) d (inl refl))

  pub sent_caught : (r : Registered) (e : ℕ) → In e (cg r).sent → In e r.sent ⊎ ((e ≡ d) × (ct r ≡ true))
  sent_caught r e i = elim (cases_Bool (ct r)) [
    | inl f ↦ elim (in_cases r.sent (d ∷ []) e (subst (λ z. In e (cond z (record r { sent = r.sent ++ d ∷ [] }) r).sent)
        f i)) [ inl j ↦ inl j | inr j ↦ elim j [ inl g ↦ inr (g, f) | inr n ↦ absurd n ] ]
    | inr f ↦ inl (subst (λ z. In e (cond z (record r { sent = r.sent ++ d ∷ [] }) r).sent) f i)
  ]

  pub has_caught : (n : Num) (rs : List Registered) → has_reg n (map cg rs) ≡ has_reg n rs
  has_caught n [] = refl
  has_caught n (r ∷ rs) = (let a = (caught_same r).0 in let again = has_caught n rs in λ i. num_eq n (a i) || again i)

  alone_caught : (rs : List Registered) → NoTwiceReg rs → NoTwiceReg (map cg rs)
  alone_caught [] h = tt
  alone_caught (r ∷ rs) h =
      (has_caught (cg r).num rs ∙ (ap (λ z. has_reg z rs) (caught_same r).0 ∙ h.0), alone_caught rs h.1)

  abbrev late : Registered → Posted
  late r = record { to = AtClp d; message = ask_of r }

  abbrev lates : List Registered → List Mail
  lates rs = sent_mail (AtClp c) (map late (filter ct rs))

  late_in : (rs : List Registered) (x : Mail)
      → In x (lates rs) → (r : Registered) × In r rs × (ct r ≡ true) × (x ≡ mail_to (AtClp d) (AtClp c) (ask_of r))
  late_in rs x i =
      let a = in_map (λ (y : Posted). mail_to y.to (AtClp c) y.message) (map late (filter ct rs)) x i in
      let o = in_map late (filter ct rs) a.0 a.1 in
      let f = in_filter ct rs o.0 o.1 in
      (o.0, f.0, f.1, a.2 ∙ ap (λ (y : Posted). mail_to y.to (AtClp c) y.message) o.2)

  pub in_late : (rs : List Registered) (r : Registered)
      → In r rs → ct r ≡ true → In (mail_to (AtClp d) (AtClp c) (ask_of r)) (lates rs)
  in_late rs r i e = map_in (λ (y : Posted). mail_to y.to (AtClp c) y.message)
      (map late (filter ct rs)) (late r) (map_in late (filter ct rs) r (filter_in ct rs r i e))

  none_late : (n : Num) (e : ℕ) (rs : List Registered) → has_reg n rs ≡ false → tally (ask_to n e) (lates rs) ≡ 0
  none_late n e rs h = tally_none (ask_to n e) (lates rs) (λ x i. elim (cases_Bool (ask_to n e x)) [
    | inr f ↦ f
    | inl f ↦ absurd (let a = ask_is n e x f in let o = late_in rs x i in
        let m : n ≡ o.0.num = (ask_parts
        n o.0.num a.0 o.0.stamp a.1 o.0.class a.2 o.0.window (ap (λ (z : Mail). z.message) (sym a.3 ∙ o.3))).0 in
        let g = has_reg_in n rs o.0 o.1 (sym m) in cc)
  ])

  one_late : (n : Num) (e : ℕ) (rs : List Registered) → NoTwiceReg rs → tally (ask_to n e) (lates rs) ≤ 1
  one_late n e [] h = omega arith
  one_late n e (r ∷ rs) h = elim (cases_Bool (ct r)) [
    | inr f ↦ (let again = one_late n e rs h.1 in rw f again)
    | inl f ↦ elim (cases_Bool (num_eq n r.num)) [
      | inl g ↦ (let none = none_late n e rs (ap (λ z. has_reg z rs) (nums_same n r.num g) ∙ h.0) in
          rw f (small (e_is (d == e) (num_eq n r.num)) none))
      | inr g ↦ (let again = one_late n e rs h.1 in rw f (skip (d == e) g again))
    ]
  ]
    where
      e_is : Bool → Bool → Bool
      e_is a b = a && b

      small : (a : Bool) → tally (ask_to n e) (lates rs) ≡ 0 → one_if a (tally (ask_to n e) (lates rs)) ≤ 1
      small true z = omega arith
      small false z = omega arith

      skip : (a : Bool) → num_eq n r.num ≡ false
          → tally (ask_to n e) (lates rs) ≤ 1 → one_if (a && num_eq n r.num) (tally (ask_to n e) (lates rs)) ≤ 1
      skip true z le = rw z le
      skip false z le = le

-- a number of a CLP
pub clp_number : (p : Plan) (x d : ℕ) → process p x ≡ AtClp d → x ≡ d
clp_number p x d e = go (nat_lt x (clps_of p)) e
  where
    go : (b : Bool) → cond b (AtClp x) (AtAgent (x - clps_of p)) ≡ AtClp d → x ≡ d
    go true f = cc
    go false f = absurd (cc)

-- what catching up sends, to a process
abbrev pub late_sends : Plan → ℕ → ℕ → ℕ → ClpState → HubSends
late_sends p c d k s = record {
  clp = (catch_up (hub_of p c) d k s).clp;
  sent = map (λ (y : Registered).
      record { to = AtClp d; message = ask_of y }) (filter (catches (hub_of p c) s.bound d k) s.queries);
}

pub late_is : (p : Plan) (c d k : ℕ) (s : ClpState)
    → d < clps_of p → lift p (catch_up (hub_of p c) d k s) ≡ late_sends p c d k s
late_is p c d k s ld = ap (λ ss. record { clp = (catch_up (hub_of p c) d k s).clp; sent = ss })
    (all (filter (catches (hub_of p c) s.bound d k) s.queries))
  where
    all : (rs : List Registered) → map (posted p) (map (λ (y : Registered). record { to = d; message = ask_of y }) rs)
        ≡ map (λ (y : Registered). record { to = AtClp d; message = ask_of y }) rs
    all [] = refl
    all (y ∷ rs) = ap₂ (λ z zs. record { to = z; message = ask_of y } ∷ zs) (process_clp p d ld) (all rs)

-- ---- in the world

module _ (p : Plan) (q : State) (w : World)
    (recs : ℕ → Parts) (sim : Sim p q w recs) (c : ℕ) (lc : c < clps_of p) (d k : ℕ) (port : In d (ports p c)) where
  abbrev N : ℕ
  N = clps_of p

  abbrev pub s : ClpState
  s = clp_at w c

  abbrev pub r : HubSends
  r = late_sends p c d k s

  abbrev pub w' : World
  w' = acts w c r

  abbrev g : Registered → Registered
  g x = caught (hub_of p c) s.bound d k x

  pub here : queries_at w' c ≡ map g (queries_at w c)
  here = ap (λ (z : ClpState). z.queries) (acts_here p q w recs sim c lc r)

  pub there : (e : ℕ) → (e ≡ c → ⊥) → queries_at w' e ≡ queries_at w e
  there e ne = ap (λ (z : ClpState). z.queries) (acts_there p q w recs sim c lc r e ne)

  bag : Bag (mail w.links) (mail w'.links) [] (lates p c s.bound d k s.queries)
  bag = acts_bag p q w recs sim c lc r

  pub has_same : (e : ℕ) (n : Num) → has_reg n (queries_at w' e) ≡ has_reg n (queries_at w e)
  has_same e n = elim (cases_eq e c) [
    | inl f ↦ subst (λ z. has_reg n (queries_at w' z) ≡ has_reg n (queries_at w z))
        (sym f) (ap (has_reg n) here ∙ has_caught p c s.bound d k n s.queries)
    | inr ne ↦ ap (has_reg n) (there e ne)
  ]

  -- a query that is here now is one that was, and the other way round
  now_old : (e : ℕ) (u : Registered)
      → In u (queries_at w' e) → (u0 : Registered) × In u0 (queries_at w e) × ((u ≡ u0) ⊎ ((e ≡ c) × (u ≡ g u0)))
  now_old e u i = elim (cases_eq e c) [
    | inl f ↦ (let o = in_map g s.queries u (subst (In u) here (subst (λ z. In u (queries_at w' z)) f i)) in
        (o.0, subst (λ z. In o.0 (queries_at w z)) (sym f) o.1, inr (f, o.2)))
    | inr ne ↦ (u, subst (In u) (there e ne) i, inl refl)
  ]

  same_parts : (e : ℕ) (u u0 : Registered) → (u ≡ u0) ⊎ ((e ≡ c) × (u ≡ g u0))
      → (ask_of u ≡ ask_of u0) × (u.from ≡ u0.from) × (u.stamp ≡ u0.stamp) × (u.num ≡ u0.num) × (u.waits ≡ u0.waits)
  same_parts e u u0 (inl f) = (
    ap ask_of f,
    ap (λ (z : Registered). z.from) f,
    ap (λ (z : Registered). z.stamp) f,
    ap (λ (z : Registered). z.num) f,
    ap (λ (z : Registered). z.waits) f,
  )
  same_parts e u u0 (inr (ec, f)) = (let a = caught_same p c s.bound d k u0 in (
    ap ask_of f ∙ caught_ask p c s.bound d k u0,
    ap (λ (z : Registered). z.from) f ∙ a.1,
    ap (λ (z : Registered).
        z.stamp) f ∙ a.2,
    ap (λ (z : Registered). z.num) f ∙ a.0,
    ap (λ (z : Registered). z.waits) f ∙ a.5,
  ))

  old_now : (e : ℕ) (u : Registered) → In u (queries_at w e) → (u' : Registered)
      × In u' (queries_at w' e) × (u'.num ≡ u.num) × (u'.waits ≡ u.waits) × ((f : ℕ) → In f u.sent → In f u'.sent)
  old_now e u i = elim (cases_eq e c) [
    | inl f ↦ (let a = caught_same p c s.bound d k u in (
      g u,
      subst (λ z. In (g u) (queries_at w' z))
          (sym f) (subst (In (g u)) (sym here) (map_in g s.queries u (subst (λ z. In u (queries_at w z)) f i))),
      a.0,
      a.5,
      λ h j. caught_sent p c s.bound d k u h j,
    ))
    | inr ne ↦ (u, subst (In u) (sym (there e ne)) i, refl, refl, λ h j. j)
  ]

  up_keeps : (f : ℕ) (n : Num) (e : ℕ) → Up (queries_at w) f n e → Up (queries_at w') f n e
  up_keeps f n e (u, i, en, j) = (let o = old_now f u i in (o.0, o.1, o.2 ∙ en, o.4 e j))

  pub goes_keeps : (n : Num) (e : ℕ) (f : Process)
      → Goes (queries_at w) (mail w.links) n e f → Goes (queries_at w') (mail w'.links) n e f
  goes_keeps n e f (inl (t, j, u, i)) = inl (t, j, u, elim (bag.kept _ i) [ inl h ↦ absurd h | inr h ↦ h ])
  goes_keeps n e f (inr (inl (u, i, en, ne))) =
      (let o = old_now e u i in inr (inl (o.0, o.1, o.2 ∙ en, λ h. ne (sym o.3 ∙ h))))
  goes_keeps n e f (inr (inr (t, i))) = inr (inr (t, elim (bag.kept _ i) [ inl h ↦ absurd h | inr h ↦ h ]))

  -- a query that is sent late goes away from its home, and isn't known there
  pub away : (u : Registered) → In u s.queries → catches (hub_of p c) s.bound d k u ≡ true
      → (d ≡ home p u.num.agent → ⊥) × (hop (parents p.clps) d (home p u.num.agent) ≡ c)
  away u i e = elim (sim.tree.either c d (home p u.num.agent) lc (sim.tree.homes u.num.agent) port) [
    | inl a ↦ a
    | inr a ↦ absurd (
        let o = (sim.queries.reg c u lc i).2 in
        let f : process p u.from ≡ AtClp d = o ∙ (toward_away p w.line sim.tree c u.num.agent a.0 ∙ ap AtClp a.1) in
        let h = (and_parts (k == u.class)
        (not (u.from == d) && (not (has d u.sent) && may_hold (ports p c) s.bound d k u.stamp u.window)) e).1 in
        let h2 = (and_parts
        (not (u.from == d)) (not (has d u.sent) && may_hold (ports p c) s.bound d k u.stamp u.window) h).0 in
        let h3 : (u.from == d) ≡ true = (let x = clp_number p u.from d f in grind (arith, nat_tests, x)) in cc)
  ]

  not_sent : (u : Registered) → catches (hub_of p c) s.bound d k u ≡ true → In d u.sent → ⊥
  not_sent u e j =
      let h = (and_parts (k == u.class)
      (not (u.from == d) && (not (has d u.sent) && may_hold (ports p c) s.bound d k u.stamp u.window)) e).1 in
      let h2 = (and_parts
      (not (u.from == d)) (not (has d u.sent) && may_hold (ports p c) s.bound d k u.stamp u.window) h).1 in
      let h3 = (and_parts (not (has d u.sent)) (may_hold (ports p c) s.bound d k u.stamp u.window) h2).0 in
      let h4 = in_has d u.sent j in cc

  not_up : (u : Registered)
      → In u s.queries → catches (hub_of p c) s.bound d k u ≡ true → Up (queries_at w) c u.num d → ⊥
  not_up u i e (u2, j, en, k2) =
      not_sent u e (subst (λ (z : Registered). In d z.sent) (one_reg s.queries u2 u (sim.queries.alone c lc) j i en) k2)

  ld : d < N
  ld = sim.tree.inside c d port

  unknown : (u : Registered)
      → In u s.queries → catches (hub_of p c) s.bound d k u ≡ true → has_reg u.num (queries_at w d) ≡ false
  unknown u i e = elim (cases_Bool (has_reg u.num (queries_at w d))) [
    | inr f ↦ f
    | inl f ↦ absurd (let o = reg_of u.num (queries_at w d) f in let a = away u i e in
        not_up u i e (subst (λ (z : Num). Up (queries_at w) c z d) o.2 (subst
        (λ z. Up (queries_at w) z o.0.num d) (ap (λ (z : Num). hop (parents p.clps) d (home p z.agent)) o.2 ∙ a.1)
        (sim.queries.up d o.0 ld o.1 (λ h. a.0 (h ∙ ap (λ (z : Num). home p z.agent) o.2))))))
  ]

  unasked : (u : Registered)
      → In u s.queries → catches (hub_of p c) s.bound d k u ≡ true → tally (ask_to u.num d) (mail w.links) ≡ 0
  unasked u i e = tally_none (ask_to u.num d) (mail w.links) (λ x j. elim (cases_Bool (ask_to u.num d x)) [
    | inr f ↦ f
    | inl f ↦ absurd (let a = ask_is u.num d x f in
        let m : In (mail_to (AtClp d) x.from (message.Ask u.num a.0 (query.Class a.1 a.2))) (mail w.links) =
        subst (λ z. In z (mail w.links)) a.3 j in
        let t = (sim.queries.asks d x.from u.num a.0 a.1 a.2 m).1 in
        let b = away u i e in
        let fc : x.from ≡ AtClp c = t ∙ (toward_away p w.line sim.tree d u.num.agent b.0 ∙ ap AtClp b.1) in
        not_up u i e (sim.queries.asked d c u.num a.0 a.1 a.2
        (subst (λ z. In (mail_to (AtClp d) z (message.Ask u.num a.0 (query.Class a.1 a.2))) (mail w.links)) fc m)))
  ])

  cases_ask : (e : ℕ) (f : Process) (n : Num) (t : Stamp) (j : ℕ) (u : Window)
      → In (mail_to (AtClp e) f (message.Ask n t (query.Class j u))) (mail w'.links)
      → In (mail_to (AtClp e) f (message.Ask n t (query.Class j u))) (mail w.links) ⊎ ((x : Registered)
      × In x s.queries × (catches (hub_of p c) s.bound d k x ≡ true) × (e ≡ d) × (f ≡ AtClp c) × (n ≡ x.num))
  cases_ask e f n t j u i = elim (bag.from _ i) [
    | inl h ↦ inl h
    | inr h ↦ (let o = late_in p c s.bound d k s.queries _ h in let a =
        mail_same (AtClp e) f (AtClp d) (AtClp c) (message.Ask n t (query.Class j u)) (ask_of o.0) o.3 in
        inr (o.0, o.1, o.2, clp_parts e d a.0, a.1, (ask_parts n o.0.num t o.0.stamp j o.0.class u o.0.window a.2).0))
  ]

  pub catch_queries : QueriesOk p w.line sim.issued (queries_at w') (mail w'.links)
  catch_queries = record {
    reg =
        λ e u le i.
        (let o = now_old e u i in let a = same_parts e u o.0 o.2 in let b = sim.queries.reg e o.0 le o.1 in (
          subst (λ z. In z sim.issued) (sym a.0) b.0,
          subst (NotPast w.line) (sym a.2) b.1,
          ap (process p) a.1
              ∙ (b.2 ∙ ap (λ (z : Num). toward p e z.agent) (sym a.3)),
        ));
    asks = λ e f n t j u i. elim (cases_ask e f n t j u i) [
      | inl h ↦ sim.queries.asks e f n t j u h
      | inr h ↦ (let a = away h.0 h.1 h.2 in (
        subst (λ z. z < N) (sym h.3) ld,
        h.4 ∙ sym (ap (λ (z : Num). toward p e z.agent) h.5 ∙ (ap (λ z.
            toward p z h.0.num.agent) h.3 ∙ (toward_away p w.line sim.tree d h.0.num.agent a.0 ∙ ap AtClp a.1))),
      ))
    ];
    once = λ n e le. by_late n e le (tally (ask_to n e) (lates p c s.bound d k s.queries)) refl;
    alone = λ e le. elim (cases_eq e c) [
      | inl f ↦ subst (λ z. NoTwiceReg (queries_at w' z))
          (sym f) (subst NoTwiceReg (sym here) (alone_caught p c s.bound d k s.queries (sim.queries.alone c lc)))
      | inr ne ↦ subst NoTwiceReg (sym (there e ne)) (sim.queries.alone e le)
    ];
    asked = λ e f n t j u i. elim (cases_ask e (AtClp f) n t j u i) [
      | inl h ↦ up_keeps f n e (sim.queries.asked e f n t j u h)
      | inr h ↦ subst (λ z. Up (queries_at w') z n e)
          (sym (clp_parts f c h.4)) (subst₂ (λ (x : Num) y. Up (queries_at w') c x y) (sym h.5) (sym h.3) (
            g h.0,
            subst (In (g h.0)) (sym here) (map_in g s.queries h.0 h.1),
            (caught_same p c s.bound d k h.0).0,
            caught_here p c s.bound d k h.0 h.2,
          ))
    ];
    up = λ e u le i ne. (let o = now_old e u i in let a = same_parts e u o.0 o.2 in
        up_keeps (hop (parents p.clps) e (home p u.num.agent))
        u.num e (subst (λ (z : Num). Up (queries_at w) (hop (parents p.clps) e (home p z.agent)) z e) (sym a.3)
        (sim.queries.up e o.0 le o.1 (λ h. ne (h ∙ ap (λ (z : Num). home p z.agent) (sym a.3))))));
    outward = λ e u f le i j. (let o = now_old e u i in let a = same_parts e u o.0 o.2 in
        subst (λ (z : Num). In f (ports p e) × (f ≡ home p z.agent → ⊥) × (hop (parents p.clps) f (home p z.agent) ≡ e))
        (sym a.3) (sim.queries.outward e o.0 f le o.1 (subst (In f) a.4 j)));
    waits = λ e u f le i j. (let o = now_old e u i in let a = same_parts e u o.0 o.2 in
        goes_keeps u.num f (AtClp e) (subst (λ (z : Num). Goes (queries_at w) (mail w.links) z f (AtClp e))
        (sym a.3) (sim.queries.waits e o.0 f le o.1 (subst (In f) a.4 j))));
  }
    where
      by_late : (n : Num) (e : ℕ) → e < N → (t : ℕ) → tally (ask_to n e) (lates p c s.bound d k s.queries) ≡ t
          → tally (ask_to n e) (mail w'.links) + one_if (has_reg n (queries_at w' e)) 0 ≤ 1
      by_late n e le zero f = (let o = sim.queries.once n e le in
          let h : one_if (has_reg n (queries_at w' e)) 0 ≡ one_if (has_reg n (queries_at w e)) 0 =
          ap (λ z. one_if z 0) (has_same e n) in omega (arith, bag.tallies (ask_to n e)))
      by_late n e le (suc t) f =
          let y = tally_some (ask_to n e) (lates p c s.bound d k s.queries) (omega arith) in
          let a = ask_is n e y.0 y.2 in
          let o = late_in p c s.bound d k s.queries y.0 y.1 in
          let m = mail_same (AtClp e)
          y.0.from (AtClp d) (AtClp c) (message.Ask n a.0 (query.Class a.1 a.2)) (ask_of o.0) (sym a.3 ∙ o.3) in
          let ed : e ≡ d = clp_parts e d m.0 in
          let nu : n ≡ o.0.num = (ask_parts n o.0.num a.0 o.0.stamp a.1 o.0.class a.2 o.0.window m.2).0 in
          let z1 : tally (ask_to n e) (mail w.links) ≡ 0 = ap (λ z. tally (ask_to z e) (mail w.links)) nu
          ∙ (ap (λ z. tally (ask_to o.0.num z) (mail w.links)) ed ∙ unasked o.0 o.1 o.2) in
          let z2 : has_reg n (queries_at w' e) ≡ false = has_same e n ∙ (ap (λ z. has_reg z (queries_at w e)) nu
          ∙ (ap (λ z. has_reg o.0.num (queries_at w z)) ed ∙ unknown o.0 o.1 o.2)) in
          let z3 : one_if (has_reg n (queries_at w' e)) 0 ≡ 0 = ap (λ z. one_if z 0) z2 in
          let z4 = one_late p c s.bound d k n e s.queries (sim.queries.alone c lc) in
          omega (arith, bag.tallies (ask_to n e))

  pub catch_act : Sim p q w' recs
  catch_act = acts_build p q w recs sim c lc r refl refl refl refl catch_queries
      (record {
        asks = λ n t x u v i lt ec h. inl (begun n h);
        ends = λ n h. goes_keeps n (home p n.agent) (AtAgent n.agent) h;
      })
      (λ x i. (let o = in_map (λ (y : Registered). record { to = AtClp d; message = ask_of y })
      (filter (λ y. catches (hub_of p c) s.bound d k y) s.queries) x i in
      let f = in_filter (λ y. catches (hub_of p c) s.bound d k y) s.queries o.0 o.1 in
      let b = sim.queries.reg c o.0 lc f.0 in
      subst (λ (z : Posted). (neutral z.message ≡ true) × MailOk p sim.issued z.message
      × NotPast w.line (stamp_of z.message) × FitsAt N (length q.values) z.to (AtClp c) z.message) (sym o.2)
      (refl, b.0, b.1, (ld, tt))))
      (λ x i. (let o = in_map (λ (y : Registered). record { to = AtClp d; message = ask_of y }) (filter
      (λ y. catches (hub_of p c) s.bound d k y) s.queries) x i in ap (λ (z : Posted). unmoved z.message) o.2))
    where
      begun : (n : Num) → Begun p (queries_at w) (mail w.links) n → Begun p (queries_at w') (mail w'.links) n
      begun n (inl h) = inl (has_same (home p n.agent) n ∙ h)
      begun n (inr (t, j, u, i)) = inr (t, j, u, elim (bag.kept _ i) [ inl h ↦ absurd h | inr h ↦ h ])
