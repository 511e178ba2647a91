-- A delivery at a communication process sends no read and no write of a variable back.
use Rattle.std.proofs.Common.{◌≡◌, ℕ, suc, ◌-◌, ◌<◌, ◌≤◌, ◌⊎◌, inl, inr, Bool, true, false, cond, nat_lt, List, get_or, map, set, refl, arith, ap, sym, ◌∙◌, subst, Some, get_or-set_other, get_or-set_same}
use Rattle.std.proofs.lemmas.Bool.{cases_Bool, cases_eq}
use Rattle.std.proofs.lemmas.Bool.Decides.{nat_tests}
use Rattle.pm_base.specs.declared.rows.Parts.{Parts}
use Rattle.pm_base.specs.declared.stamp.Stamp.{Stamp}
use Rattle.pm_base.specs.declared.value.Query.TheVariants as query
use Rattle.pm_message.specs.declared.Message.{Message}
use Rattle.pm_message.specs.declared.Message.TheVariants as message
use Rattle.pm_model.specs.declared.State.{State}
use Rattle.pm_plan.specs.Plans.{IsValid}
use Rattle.pm_plan.specs.declared.plan.Plan.{Plan}
use Rattle.pm_routes.specs.declared.way.Way.TheVariants as way
use Rattle.pm_clp.specs.Clps.{ClpSends, clp_after, way_of}
use Rattle.pm_sim.proofs.Letters.{More, OneMore, all_posted, in_map, map_in, sent_mail, taken, tally_map}
use Rattle.pm_sim.proofs.Places.{Sim, clp_at, process_clp}
use Rattle.pm_sim.proofs.Promised.{plan_fits}
use Rattle.pm_sim.proofs.Quiets.{tally_in}
use Rattle.pm_sim.proofs.Takings.{LinkOk, Linked}
use Rattle.pm_sim.specs.Routings.{mail_to}
use Rattle.pm_sim.specs.Sims.{In, one_if, tally}
use Rattle.pm_sim.specs.Worlds.{Mail, Posted, Process, Taken, World, arrives, clps_of, hub_of, mail, no_clp, number, post_all, posted, process, take_from}
use Rattle.pm_sim.specs.Worlds.Process.{AtAgent, AtClp}
use Rattle.pm_calm.proofs.Rounds.{reached_kept}
use Rattle.pm_cost.specs.Falls.{Onwards}
use Rattle.pm_cost.specs.Straight.{DeliveriesStayStraight, Straight, TurnsWay, goes, touches}
use Rattle.pm_cost.proofs.Turning.{all_turn, goes_touches, move_here}

-- a number whose process is a communication process is that one's
clp_number : (p : Plan) (k c : ℕ) → process p k ≡ AtClp c → k ≡ c
clp_number p k c e = elim (cases_Bool (nat_lt k (clps_of p))) [
  | inl f ↦ (let g : cond true (AtClp k) (AtAgent (k - clps_of p)) ≡ AtClp c =
      subst (λ b. cond b (AtClp k) (AtAgent (k - clps_of p)) ≡ AtClp c) f e in cc)
  | inr f ↦ absurd (let g : cond false (AtClp k) (AtAgent (k - clps_of p)) ≡ AtClp c =
      subst (λ b. cond b (AtClp k) (AtAgent (k - clps_of p)) ≡ AtClp c) f e in cc)
]

module _ (p : Plan) (q : State) (w : World) (recs : ℕ → Parts) (sim : Sim p q w recs) (linked : Linked p w)
    (st : Straight p w) (c : ℕ) (from : Process) (t : Taken) (e : take_from (AtClp c) from w.links ≡ Some t) where
  abbrev r : ClpSends
  r = clp_after (hub_of p c) (number p from) t.message (clp_at w c)

  abbrev sends : List Posted
  sends = map (posted p) (clp_after (hub_of p c) (number p from) t.message (clp_at w c)).sent

  abbrev after : World
  after = arrives p w (AtClp c) from t.message t.links

  one : OneMore (mail t.links) (mail_to (AtClp c) from t.message) (mail w.links)
  one = taken (AtClp c) from w.links t e

  more : More (mail t.links) (sent_mail (AtClp c) sends) (mail (post_all (AtClp c) sends t.links))
  more = all_posted (AtClp c) sends t.links

  there : In (mail_to (AtClp c) from t.message) (mail w.links)
  there = one.into _ (inl refl)

  lc : c < clps_of p
  lc = (sim.fits _ there).0

  turn : (v : ℕ) → TurnsWay v t.message (clp_at w c) r
  turn v = all_turn (hub_of p c) v (number p from) t.message (clp_at w c)
      (sim.places.records_len c lc ∙ sym (sim.places.ways_len c lc))

  here : get_or (set w.clps c r.clp) c no_clp ≡ r.clp
  here = get_or-set_same w.clps c r.clp no_clp (let o = sim.size in let l = lc in omega (arith, o, l))

  -- another message that touches the variable was there: the one that is taken doesn't
  apart : (v : ℕ) (x : Mail) → In x (mail t.links) → touches v x.message ≡ true → touches v t.message ≡ false
  apart v x i g = elim (cases_Bool (touches v t.message)) [
    | inr f ↦ f
    | inl f ↦ absurd (let a = tally_in (λ (y : Mail). touches v y.message) (mail t.links) x i g in
        let b = one.count (λ (y : Mail). touches v y.message) in let d = st.once v in
        let k : one_if (touches v t.message) 0 ≡ 1 = ap (λ z. one_if z 0) f in omega (arith, a, b, d, k))
  ]

  once : (v : ℕ) → tally (λ (x : Mail). touches v x.message) (mail (post_all (AtClp c) sends t.links)) ≤ 1
  once v =
      let a = more.count (λ (x : Mail). touches v x.message) in
      let b = one.count (λ (x : Mail). touches v x.message) in
      let s = tally_map (λ (y : Posted). mail_to y.to (AtClp c) y.message) (λ (x : Mail). touches v x.message) sends
      ∙ tally_map (posted p) (λ (y : Posted). touches v y.message) r.sent in
      let f = (turn v).few in let o = st.once v in omega (arith, a, b, s, f, o)

  -- a way at a process in the next world
  way_same : (v d : ℕ) → (d ≡ c → ⊥) → way_of v (get_or (set w.clps c r.clp) d no_clp) ≡ way_of v (clp_at w d)
  way_same v d ne = ap (way_of v) (get_or-set_other w.clps c d r.clp no_clp ne)

  way_at : (v d : ℕ) → d ≡ c → way_of v (get_or (set w.clps c r.clp) d no_clp) ≡ way_of v r.clp
  way_at v d f = ap (λ z. way_of v (get_or (set w.clps c r.clp) z no_clp)) f ∙ ap (way_of v) here

  ways : (v c' d : ℕ) (m : Message) → In (mail_to (AtClp c') (AtClp d) m) (mail (post_all (AtClp c) sends t.links))
      → goes v m ≡ true → way_of v (get_or (set w.clps c r.clp) d no_clp) ≡ way.Port c'
  ways v c' d m i g = elim (more.out _ i) [
    | inr j ↦ elim (cases_eq d c) [
      | inr ne ↦ way_same v d ne ∙ st.ways v c' d m (one.into _ (inr j)) g
      | inl f ↦ way_at v d f ∙ ((turn v).same (apart v _ j (goes_touches v m g))
          ∙ (ap (λ z. way_of v (clp_at w z)) (sym f) ∙ st.ways v c' d m (one.into _ (inr j)) g))
    ]
    | inl j ↦ (let o = in_map (λ (y : Posted). mail_to y.to (AtClp c) y.message) sends _ j in
        let o2 = in_map (posted p) r.sent o.0 o.1 in
        let x : mail_to (AtClp c') (AtClp d) m ≡ mail_to (process p o2.0.to) (AtClp c) o2.0.message =
        o.2 ∙ ap (λ (y : Posted). mail_to y.to (AtClp c) y.message) o2.2 in
        let ed : d ≡ c = clp_same d c (ap (λ (y : Mail). y.from) x) in
        let et : o2.0.to ≡ c' = clp_number p o2.0.to c' (sym (ap (λ (y : Mail). y.to) x)) in
        let gm : goes v o2.0.message ≡ true = subst (λ z. goes v z ≡ true) (ap (λ (y : Mail). y.message) x) g in
        way_at v d ed ∙ ((turn v).sent o2.0 o2.1 gm ∙ ap way.Port et))
  ]
    where
      clp_same : (a b : ℕ) → AtClp a ≡ AtClp b → a ≡ b
      clp_same a b f = cc

  -- a way to a port is an old one, or that of a Move that was sent
  Led : ℕ → ℕ → ℕ → Type 0
  Led v x y = (way_of v (clp_at w x) ≡ way.Port y)
      ⊎ ((x ≡ c) × (z : Stamp) × (m : Parts)
      × In (mail_to (AtClp y) (AtClp x) (message.Move v z m)) (mail (post_all (AtClp c) sends t.links)))

  led : (v x y : ℕ) → y < clps_of p → way_of v (get_or (set w.clps c r.clp) x no_clp) ≡ way.Port y
      → (way_of v (clp_at w x) ≡ way.Port y)
      ⊎ ((z : Stamp) × (m : Parts)
      × In (mail_to (AtClp y) (AtClp x) (message.Move v z m)) (mail (post_all (AtClp c) sends t.links)))
  led v x y ly h = elim (cases_eq x c) [
    | inr ne ↦ inl (sym (way_same v x ne) ∙ h)
    | inl f ↦ elim ((turn v).turns y (sym (way_at v x f) ∙ h)) [
      | inl o ↦ inl (ap (λ z. way_of v (clp_at w z)) f ∙ o)
      | inr o ↦ inr (
        o.0,
        o.1,
        subst (λ z. In (mail_to z (AtClp x) (message.Move v o.0 o.1))
            (mail (post_all (AtClp c) sends t.links))) (process_clp p y ly)
            (subst (λ z. In (mail_to (process p y) (AtClp z) (message.Move v o.0 o.1))
            (mail (post_all (AtClp c) sends t.links))) (sym f)
            (more.into _ (inl (map_in (λ (k : Posted). mail_to k.to (AtClp c) k.message) sends _
            (map_in (posted p) r.sent _ o.2))))),
      )
    ]
  ]

  -- a Move that was on its way still is, or it came and its way is here
  moved : (v x y a b : ℕ) (z : Stamp) (m : Parts) → (a ≡ x) ⊎ (a ≡ y)
      → way_of v (get_or (set w.clps c r.clp) x no_clp) ≡ way.Port y
      → way_of v (get_or (set w.clps c r.clp) y no_clp) ≡ way.Port x
      → In (mail_to (AtClp a) (AtClp b) (message.Move v z m)) (mail w.links)
      → In (mail_to (AtClp a) (AtClp b) (message.Move v z m)) (mail (post_all (AtClp c) sends t.links))
  moved v x y a b z m at hx hy i = elim (one.out _ i) [
    | inr j ↦ more.into _ (inr j)
    | inl f ↦ absurd (
        let ea : a ≡ c = clp_same a c (ap (λ (k : Mail). k.to) f) in
        let em : t.message ≡ message.Move v z m = sym (ap (λ (k : Mail). k.message) f) in
        let wh : way_of v r.clp ≡ way.Here = subst (λ k. way_of v (clp_after (hub_of p c) (number p from) k
        (clp_at w c)).clp ≡ way.Here) (sym em) (move_here (hub_of p c) v (number p from) z m (clp_at w c)) in
        elim at [
          | inl g ↦ here_port y (sym wh ∙ (sym (way_at v x (sym g ∙ ea)) ∙ hx))
          | inr g ↦ here_port x (sym wh ∙ (sym (way_at v y (sym g ∙ ea)) ∙ hy))
        ])
  ]
    where
      clp_same : (k l : ℕ) → AtClp k ≡ AtClp l → k ≡ l
      clp_same k l g = cc

      here_port : (d : ℕ) → way.Here ≡ way.Port d → ⊥
      here_port d g = cc

  facing : (v x y : ℕ) → x < clps_of p → y < clps_of p
      → way_of v (get_or (set w.clps c r.clp) x no_clp) ≡ way.Port y
      → way_of v (get_or (set w.clps c r.clp) y no_clp) ≡ way.Port x
      → (z : Stamp) × (m : Parts)
      × (In (mail_to (AtClp y) (AtClp x) (message.Move v z m)) (mail (post_all (AtClp c) sends t.links))
      ⊎ In (mail_to (AtClp x) (AtClp y) (message.Move v z m)) (mail (post_all (AtClp c) sends t.links)))
  facing v x y lx ly hx hy = elim (led v x y ly hx) [
    | inr o ↦ (o.0, o.1, inl o.2)
    | inl ox ↦ elim (led v y x lx hy) [
      | inr o ↦ (o.0, o.1, inr o.2)
      | inl oy ↦ (let f = st.facing v x y lx ly ox oy in (
        f.0,
        f.1,
        elim f.2 [
          | inl i ↦ inl (moved v x y y x f.0 f.1 (inr refl) hx hy i)
          | inr i ↦ inr (moved v x y x y f.0 f.1 (inl refl) hx hy i)
        ],
      ))
    ]
  ]

  pub straight_clp : Straight p (arrives p w (AtClp c) from t.message t.links)
  straight_clp = record { once = once; ways = ways; facing = facing }

  -- ---- nothing goes back

  back : (v d : ℕ) → goes v t.message ≡ true → way_of v (clp_at w c) ≡ way.Port d → from ≡ AtClp d → ⊥
  back v d g h f =
      let i : In (mail_to (AtClp c) (AtClp d) t.message) (mail w.links) =
      subst (λ z. In (mail_to (AtClp c) z t.message) (mail w.links)) f there in
      let ld : d < clps_of p = sim.tree.inside c d (subst (LinkOk p (AtClp c)) f (linked.mail _ there).0) in
      let o = st.facing v c d lc ld h (st.ways v c d t.message i g) in
      elim o.2 [ inl j ↦ no_move o.0 o.1 (AtClp d) (AtClp c) j | inr j ↦ no_move o.0 o.1 (AtClp c) (AtClp d) j ]
    where
      self : touches v (message.Move v (record { time = 0; agent = 0 }) (recs v)) ≡ true
      self = grind (arith, nat_tests)

      -- no Move of it is on its way beside it
      no_move : (z : Stamp) (m : Parts) (a b : Process) → In (mail_to a b (message.Move v z m)) (mail w.links) → ⊥
      no_move z m a b j = elim (one.out _ j) [
        | inr k ↦ (let s : touches v t.message ≡ false = apart v _ k self in
            let s2 = goes_touches v t.message g in cc)
        | inl k ↦ (let em : t.message ≡ message.Move v z m = sym (ap (λ (y : Mail). y.message) k) in
            let s : goes v (message.Move v z m) ≡ true = subst (λ y. goes v y ≡ true) em g in cc)
      ]

  pub straight_on : Onwards from t.message (clp_at w c)
  straight_on = go t.message refl
    where
      yes : (v : ℕ) (m : Message) → t.message ≡ m → goes v m ≡ true → goes v t.message ≡ true
      yes v m f g = ap (goes v) f ∙ g

      same : (v : ℕ) → (let b : Bool = nat_lt v (suc v) in b) ≡ true
      same v = grind (arith, nat_tests)

      go : (m : Message) → t.message ≡ m → Onwards from m (clp_at w c)
      go (message.Put n z v g) f = λ d h k. back v d (yes v (message.Put n z v g) f (grind (arith, nat_tests))) h k
      go (message.Ask n z (query.One v)) f =
          λ d h k. back v d (yes v (message.Ask n z (query.One v)) f (grind (arith, nat_tests))) h k
      go (message.Ask n z (query.Class j u)) f = tt
      go (message.Wake n z) f = tt
      go (message.Cut n z v) f = tt
      go (message.Give g) f = tt
      go (message.Finish n z) f = tt
      go (message.Move v z m) f = tt
      go (message.Grow n z u v) f = tt

pub all_straight : (p : Plan) (n : ℕ) (w : World) → IsValid p → DeliveriesStayStraight p n w
all_straight p n w valid reached st c from t e =
    let k = reached_kept p (plan_fits p valid) n w reached in
    record {
      onward = straight_on p k.whole.q w k.whole.full.recs k.whole.full.sim k.awake.linked st c from t e;
      next = straight_clp p k.whole.q w k.whole.full.recs k.whole.full.sim k.awake.linked st c from t e;
    }
