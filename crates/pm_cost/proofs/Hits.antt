-- What the hits of a range query cost: at most one for each record that didn't have the read, and each hit at most as
-- many deliveries as there are communication processes.
use Rattle.std.proofs.Common.{◌≡◌, ℕ, zero, suc, ◌+◌, ◌*◌, ◌<◌, ◌≤◌, inl, inr, ◌==◌, Bool, true, false, cond, not, ◌||◌, List, [], ◌∷◌, map, length, get_or, set, refl, arith, ap, sym, ◌∙◌, subst, Option, Some, None, get_or-set_other, get_or-set_same}
use Rattle.std.proofs.lemmas.Bool.{cases_eq}
use Rattle.std.proofs.lemmas.Bool.Decides.{nat_tests}
use Rattle.pm_base.specs.declared.rows.GiveRow.{GiveRow}
use Rattle.pm_base.specs.declared.rows.Parts.{Parts}
use Rattle.pm_base.specs.declared.stamp.Num.{Num}
use Rattle.pm_base.specs.declared.stamp.Stamp.{Stamp}
use Rattle.pm_base.specs.declared.value.Window.{Window}
use Rattle.pm_message.specs.declared.Message.TheVariants as message
use Rattle.pm_periods.specs.Records.{changed_unless, first_read, refreshed_unless, with_read}
use Rattle.pm_periods.specs.Rows.{has_num, read_key}
use Rattle.pm_plan.specs.Plans.{IsValid, parents}
use Rattle.pm_plan.specs.Trees.{hop}
use Rattle.pm_plan.specs.declared.plan.Plan.{Plan}
use Rattle.pm_clp.specs.Clps.{ClpSends, ClpState, at_record, on_record, rec_at, take_watch, to_agent, watch_all}
use Rattle.pm_sim.proofs.Places.{in_range, process_agent, process_clp, towards_at}
use Rattle.pm_sim.proofs.Stamps.{num_eq_self}
use Rattle.pm_sim.proofs.Tellings.{add_read_has, given_has}
use Rattle.pm_sim.specs.Routings.{TreeOk, toward}
use Rattle.pm_sim.specs.Sims.{In, has_read, one_if}
use Rattle.pm_sim.specs.Worlds.{clps_of, home, hub_of, ports, process, to_agents, towards}
use Rattle.pm_sim.specs.Worlds.Process.{AtAgent, AtClp}
use Rattle.pm_calm.specs.Phases.{RecAt}
use Rattle.pm_calm.proofs.Records.{watch_at, watch_once}
use Rattle.pm_cost.specs.Weights.{HitsCost, hit_weight, homewards, is_unread, none_over, side, unread, weight, weights}
use Rattle.pm_cost.proofs.GrowCosts.{no_self, tree_of, weights_append}
use Rattle.pm_cost.proofs.TreeSides.{side_first, side_less, side_next}

module _ (p : Plan) (tree : TreeOk p) where
  -- behind a port there is its neighbour at least
  pub side_some : (d e : ℕ) → d < clps_of p → In e (ports p d) → 1 ≤ side p d e
  side_some d e ld i = (let a = side_next p tree d e ld i (no_self p tree d e ld i) in omega (arith, a))

  module _ (c : ℕ) (lc : c < clps_of p) where
    -- the process that a hit goes to is the one towards its agent
    pub toward_is : (a : ℕ) → a < length p.agents → process p (get_or (to_agents p c 0 p.agents) a 0) ≡ toward p c a
    toward_is a lt =
        ap (process p) (towards_at p c 0 p.agents a lt
        ∙ (let z0 : 0 + a ≡ a = omega arith in ap (λ z. towards p c z (home p a)) z0))
        ∙ elim (cases_eq c (home p a)) [
          | inl f ↦ (let e : (c == home p a) ≡ true = grind (arith, nat_tests, f) in rw e (process_agent p a))
          | inr ne ↦ (let e : (c == home p a) ≡ false = grind (arith, nat_tests, ne) in
              rw e (process_clp p _ (tree.inside c _ (tree.hop_port c (home p a) lc (tree.homes a) ne))))
        ]

    -- on the way home each hop leaves fewer behind
    away_hit : (a : ℕ) → (c ≡ home p a → ⊥)
        → 2 + homewards p (hop (parents p.clps) c (home p a)) a ≤ 1 + side p c (hop (parents p.clps) c (home p a))
    away_hit a ne = elim (cases_eq f (home p a)) [
      | inl e ↦ (let b : (f == home p a) ≡ true = grind (arith, nat_tests, e) in
          subst (λ t. 2 + cond t 0 (side p f (hop (parents p.clps) f (home p a))) ≤ 1 + side p c f) (sym b)
          (let s = side_some c f lc port in omega (arith, s)))
      | inr ne' ↦ (let b : (f == home p a) ≡ false = grind (arith, nat_tests, ne') in
          let g : ℕ = hop (parents p.clps) f (home p a) in
          let port' : In g (ports p f) = tree.hop_port f (home p a) lf (tree.homes a) ne' in
          let s = side_less p tree c f g lc port (no_self p tree c f lc port) port' (back ne') in
          subst (λ t. 2 + cond t 0 (side p f (hop (parents p.clps) f (home p a))) ≤ 1 + side p c f) (sym b)
          (omega (arith, s)))
    ]
      where
        f : ℕ
        f = hop (parents p.clps) c (home p a)

        port : In (hop (parents p.clps) c (home p a)) (ports p c)
        port = tree.hop_port c (home p a) lc (tree.homes a) ne

        lf : hop (parents p.clps) c (home p a) < clps_of p
        lf = tree.inside c (hop (parents p.clps) c (home p a)) (tree.hop_port c (home p a) lc (tree.homes a) ne)

        -- a hop back would not come nearer
        back : (hop (parents p.clps) c (home p a) ≡ home p a → ⊥)
            → c ≡ hop (parents p.clps) (hop (parents p.clps) c (home p a)) (home p a) → ⊥
        back ne' e =
            let x = tree.nearer c (home p a) lc (tree.homes a) ne in
            let y = tree.nearer (hop (parents p.clps) c (home p a)) (home p a) lf (tree.homes a) ne' in
            let z : suc (tree.dist c (home p a)) ≡ tree.dist (hop (parents p.clps) c (home p a)) (home p a) =
            subst (λ k. suc (tree.dist k (home p a)) ≡ tree.dist (hop (parents p.clps) c (home p a)) (home p a))
            (sym e) y in omega (arith, x, z)

    -- a hit that goes on costs one delivery less than here
    pub hit_goes : (a : ℕ) → hit_weight p (toward p c a) a ≤ 1 + homewards p c a
    hit_goes a = elim (cases_eq c (home p a)) [
      | inl f ↦ (let e : (c == home p a) ≡ true = grind (arith, nat_tests, f) in
          subst (λ b. hit_weight p (cond b (AtAgent a) (AtClp (hop (parents p.clps) c (home p a)))) a
          ≤ 1 + cond b 0 (side p c (hop (parents p.clps) c (home p a)))) (sym e) (omega arith))
      | inr ne ↦ (let e : (c == home p a) ≡ false = grind (arith, nat_tests, ne) in
          subst (λ b. hit_weight p (cond b (AtAgent a) (AtClp (hop (parents p.clps) c (home p a)))) a
          ≤ 1 + cond b 0 (side p c (hop (parents p.clps) c (home p a)))) (sym e) (away_hit a ne))
    ]

    pub homewards_less : (a : ℕ) → 1 + homewards p c a ≤ clps_of p
    homewards_less a = elim (cases_eq c (home p a)) [
      | inl f ↦ (let e : (c == home p a) ≡ true = grind (arith, nat_tests, f) in
          subst (λ b. 1 + cond b 0 (side p c (hop (parents p.clps) c (home p a))) ≤ clps_of p) (sym e)
          (omega (arith, lc)))
      | inr ne ↦ (let e : (c == home p a) ≡ false = grind (arith, nat_tests, ne) in
          let s = side_first p tree c (hop (parents p.clps) c (home p a)) lc
          (tree.hop_port c (home p a) lc (tree.homes a) ne) in
          subst (λ b. 1 + cond b 0 (side p c (hop (parents p.clps) c (home p a))) ≤ clps_of p) (sym e)
          (omega (arith, s)))
    ]

    -- a hit on its way home
    pub give_goes : (g : GiveRow) → g.num.agent < length p.agents
        → weights p c (to_agent (hub_of p c) g ∷ []) ≤ 1 + homewards p c g.num.agent
    give_goes g lt =
        let a : weight p (process p (get_or (to_agents p c 0 p.agents) g.num.agent 0)) (AtClp c) (message.Give g)
        ≡ hit_weight p (toward p c g.num.agent) g.num.agent =
        ap (λ z. hit_weight p z g.num.agent) (toward_is g.num.agent lt) in
        let b = hit_goes g.num.agent in omega (arith, a, b)

    pub gives_cost : (gs : List GiveRow) → length gs ≤ 1
        → ((g : GiveRow) → In g gs → g.num.agent < length p.agents)
        → weights p c (map (to_agent (hub_of p c)) gs) ≤ clps_of p
    gives_cost [] le h = omega arith
    gives_cost (g ∷ []) le h =
        (let a = give_goes g (h g (inl refl)) in let b = homewards_less g.num.agent in omega (arith, a, b))
    gives_cost (g ∷ (x ∷ gs)) le h = absurd (omega (arith, le))

unread_set : (m : Num) (rs : List (Option Parts)) (v : ℕ) (r y : Parts) → rec_at rs v ≡ Some r
    → unread m (set rs v (Some y)) + one_if (is_unread m (Some r)) 0
    ≡ unread m rs + one_if (is_unread m (Some y)) 0
unread_set m [] v r y e = absurd (cc)
unread_set m (x ∷ rs) zero r y e = subst (λ z. one_if (is_unread m (Some y)) (unread m rs)
    + one_if (is_unread m (Some r)) 0 ≡ one_if (is_unread m z) (unread m rs) + one_if (is_unread m (Some y)) 0)
    (sym e) (swap (is_unread m (Some y)) (is_unread m (Some r)) (unread m rs))
  where
    swap : (a b : Bool) (n : ℕ) → one_if a n + one_if b 0 ≡ one_if b n + one_if a 0
    swap true true n = omega arith
    swap true false n = omega arith
    swap false true n = omega arith
    swap false false n = omega arith
unread_set m (x ∷ rs) (suc v) r y e =
    more (is_unread m x) (unread m (set rs v (Some y))) (unread m rs) (one_if (is_unread m (Some r)) 0)
    (one_if (is_unread m (Some y)) 0) (unread_set m rs v r y e)
  where
    more : (b : Bool) (k l i j : ℕ) → k + i ≡ l + j → one_if b k + i ≡ one_if b l + j
    more true k l i j h = omega (arith, h)
    more false k l i j h = h

times_sum : (n a x b y : ℕ) → a + x ≡ b + y → n * a + n * x ≡ n * b + n * y
times_sum n a x b y e = sym (times_add n a x) ∙ (ap (λ k. n * k) e ∙ times_add n b y)
  where
    times_add : (n a x : ℕ) → n * (a + x) ≡ n * a + n * x
    times_add n a x = grind (arith)

module _ (p : Plan) (tree : TreeOk p) (c : ℕ) (lc : c < clps_of p) (s : Stamp) (over : Num → ℕ → Window → Type 0)
    (k : Num) (u : Window) (la : k.agent < length p.agents) where
  abbrev pub Recs : ClpState → Type 0
  Recs x = (v : ℕ) (r : Parts) → rec_at x.records v ≡ Some r → RecAt p s over v r

  -- what the hits cost, and what is left of the records that don't have the read
  abbrev pub Cost : ClpState → ClpSends → Type 0
  Cost x r = weights p c r.sent + clps_of p * unread k r.clp.records ≤ clps_of p * unread k x.records

  -- one record's first hit
  one_cost : (v : ℕ) (r : Parts) → RecAt p s over v r
      → weights p c (map (to_agent (hub_of p c)) (take_watch v k s u r).gives)
      + clps_of p * one_if (is_unread k (Some (take_watch v k s u r).rec)) 0
      ≤ clps_of p * one_if (is_unread k (Some r)) 0
  one_cost v r h = by (has_num read_key k r.reads) refl (watch_once p s over v k s u r h)
      (λ g i. (watch_at p s over v k s u r refl h).1.0 g i)
    where
      r0 : Parts
      r0 = with_read (first_read k s u) r

      now : has_read k (refreshed_unless false r (with_read (first_read k s u) r)).reads ≡ true
      now = given_has (with_read (first_read k s u) r) k (with_read (first_read k s u) r).reads
          ∙ (add_read_has (first_read k s u) r.reads k ∙ ap (λ b. b || has_read k r.reads) (num_eq_self k))

      by : (b : Bool) → has_num read_key k r.reads ≡ b
          → length (changed_unless b v (with_read (first_read k s u) r)) ≤ 1
          → ((g : GiveRow) → In g (changed_unless b v (with_read (first_read k s u) r))
          → (g.num ≡ k) × (g.stamp ≡ s))
          → weights p c (map (to_agent (hub_of p c)) (changed_unless b v (with_read (first_read k s u) r)))
          + clps_of p * one_if (is_unread k (Some (refreshed_unless b r (with_read (first_read k s u) r)))) 0
          ≤ clps_of p * one_if (is_unread k (Some r)) 0
      by true e le is = omega arith
      by false e le is =
          let a = gives_cost p tree c lc (changed_unless false v (with_read (first_read k s u) r)) le
          (λ g i. subst (λ (n : Num). n.agent < length p.agents) (sym (is g i).0) la) in
          let f : one_if (is_unread k (Some r)) 0 ≡ 1 = ap (λ b. one_if (not b) 0) e in
          let g : one_if (is_unread k (Some (refreshed_unless false r (with_read (first_read k s u) r)))) 0 ≡ 0 =
          ap (λ b. one_if (not b) 0) now in
          subst (λ n. weights p c (map (to_agent (hub_of p c)) (changed_unless false v
          (with_read (first_read k s u) r))) + clps_of p * one_if (is_unread k
          (Some (refreshed_unless false r (with_read (first_read k s u) r)))) 0 ≤ clps_of p * n) (sym f)
          (subst (λ n. weights p c (map (to_agent (hub_of p c)) (changed_unless false v
          (with_read (first_read k s u) r))) + clps_of p * n ≤ clps_of p * 1) (sym g) (omega (arith, a)))

  record_cost : (v : ℕ) (x : ClpState) → Recs x
      → Cost x (at_record (hub_of p c) v (take_watch v k s u) x)
      × Recs (at_record (hub_of p c) v (take_watch v k s u) x).clp
  record_cost v x h = go (rec_at x.records v) refl
    where
      some_rec : (a b : Parts) → Some a ≡ Some b → a ≡ b
      some_rec a b g = cc

      go : (o : Option Parts) → rec_at x.records v ≡ o
          → Cost x (on_record (hub_of p c) v (take_watch v k s u) o x)
          × Recs (on_record (hub_of p c) v (take_watch v k s u) o x).clp
      go None e = (omega arith, h)
      go (Some r) e =
          let y : Parts = (take_watch v k s u r).rec in
          let a = one_cost v r (h v r e) in
          let b = times_sum (clps_of p) (unread k (set x.records v (Some y))) (one_if (is_unread k (Some r)) 0)
          (unread k x.records) (one_if (is_unread k (Some y)) 0) (unread_set k x.records v r y e) in (
            omega (arith, a, b),
            λ w z f. elim (cases_eq w v) [
              | inl g ↦ subst (λ i. RecAt p s over i z) (sym g) (subst (RecAt p s over v) (some_rec y z
                  (sym (get_or-set_same x.records v (Some y) None (in_range x.records v r e))
                  ∙ (ap (rec_at (set x.records v (Some y))) (sym g) ∙ f)))
                  (watch_at p s over v k s u r refl (h v r e)).0)
              | inr ne ↦ h w z (sym (get_or-set_other x.records v w (Some y) None ne) ∙ f)
            ],
          )

  -- all hits at a process
  pub watch_cost : (i m : ℕ) (x : ClpState) → Recs x → Cost x (watch_all (hub_of p c) k s u i m x)
  watch_cost i zero x h = omega arith
  watch_cost i (suc m) x h =
      let first : ClpSends = at_record (hub_of p c) i (take_watch i k s u) x in
      let one = record_cost i x h in
      let rest = watch_cost (suc i) m first.clp one.1 in
      let a = one.0 in
      let b = weights_append p c first.sent (watch_all (hub_of p c) k s u (suc i) m first.clp).sent in
      omega (arith, a, b, rest)

pub all_hits : (p : Plan) → IsValid p → HitsCost p
all_hits p valid c s k u i m x lc la h =
    watch_cost p (tree_of p valid) c lc s none_over k u la i m x h
