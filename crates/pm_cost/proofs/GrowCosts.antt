-- What telling costs: a Grow goes over each edge away from where it began at most once.
use Rattle.std.proofs.Common.{◌≡◌, ℕ, ◌+◌, ◌*◌, ◌<◌, ◌≤◌, inl, inr, ◌==◌, Bool, true, false, cond, not, ◌&&◌, ◌||◌, List, [], ◌∷◌, ◌++◌, map, filter, refl, arith, ap, sym, ◌∙◌, subst, Option, Some, None}
use Rattle.std.proofs.lemmas.Bool.{and_parts, cond_both}
use Rattle.std.proofs.lemmas.Bool.Decides.{nat_tests}
use Rattle.pm_base.specs.Stamps.{is_after, stamp_lt}
use Rattle.pm_base.specs.Windows.{point_of}
use Rattle.pm_base.specs.declared.rows.Parts.{Parts}
use Rattle.pm_base.specs.declared.rows.PutRow.{PutRow}
use Rattle.pm_base.specs.declared.stamp.Interval.{Interval}
use Rattle.pm_base.specs.declared.stamp.Line.TheVariants as line
use Rattle.pm_base.specs.declared.stamp.Stamp.{Stamp}
use Rattle.pm_base.specs.declared.value.Window.{Window}
use Rattle.pm_message.specs.declared.Message.TheVariants as message
use Rattle.pm_periods.specs.Periods.{periods_of}
use Rattle.pm_periods.specs.Records.{is_live, record_value, value_below}
use Rattle.pm_plan.specs.Plans.{IsValid}
use Rattle.pm_plan.specs.declared.plan.Plan.{Plan}
use Rattle.pm_ranges.specs.Known.{Known, covers}
use Rattle.pm_tables.specs.Tables.{grow_at, known_at, may_hold}
use Rattle.pm_queries.specs.Queries.{ask_of, has, without}
use Rattle.pm_queries.specs.declared.registered.Registered.{Registered}
use Rattle.pm_queries.specs.declared.registered.Sent.{Sent}
use Rattle.pm_clp.specs.Clps.{ClpSends, ClpState, catches, catching, caught, class_at, clp_after, grow_bound, no_clp_sends, rec_at, tell, tell_one, tell_periods, tell_record, telling}
use Rattle.pm_sim.proofs.Places.{process_clp}
use Rattle.pm_sim.proofs.Promised.{plan_fits}
use Rattle.pm_sim.proofs.Stamps.{lt_false}
use Rattle.pm_sim.proofs.Trims.{in_filter}
use Rattle.pm_sim.proofs.Wholes.{first_whole}
use Rattle.pm_sim.specs.Routings.{TreeOk}
use Rattle.pm_sim.specs.Sims.{In}
use Rattle.pm_sim.specs.Worlds.{clps_of, hub_of, ports, process}
use Rattle.pm_sim.specs.Worlds.Process.{AtClp}
use Rattle.pm_cost.specs.Weights.{GrowCosts, PutsAt, TellingCosts, late, reg_weight, regs_weight, side, sides, weight, weights}
use Rattle.pm_cost.proofs.TreeSides.{all_sides, side_next}

-- a valid plan's communication processes are a tree
pub tree_of : (p : Plan) → IsValid p → TreeOk p
tree_of p valid = (first_whole p (plan_fits p valid)).full.sim.tree

-- none is its own neighbour
pub no_self : (p : Plan) → TreeOk p → (d e : ℕ) → d < clps_of p → In e (ports p d) → d ≡ e → ⊥
no_self p tree d e ld i f = elim (tree.either d d d ld ld (subst (λ z. In z (ports p d)) (sym f) i)) [
  | inl o ↦ o.0 refl
  | inr o ↦ o.0 refl
]

module _ (p : Plan) (c : ℕ) where
  pub weights_append : (xs ys : List Sent) → weights p c (xs ++ ys) ≡ weights p c xs + weights p c ys
  weights_append [] ys = omega arith
  weights_append (x ∷ xs) ys = (let a = weights_append xs ys in omega (arith, a))

  -- ---- a query is sent to one port more

  has_more : (e d : ℕ) (xs : List ℕ) → has e (xs ++ d ∷ []) ≡ (has e xs || (e == d || false))
  has_more e d [] = refl
  has_more e d (x ∷ xs) = (let a = has_more e d xs in
      ap (λ b. e == x || b) a ∙ sym (or_assoc (e == x) (has e xs) (e == d || false)))
    where
      or_assoc : (a b g : Bool) → ((a || b) || g) ≡ (a || (b || g))
      or_assoc true b g = refl
      or_assoc false b g = refl

  part_less : (a b g : Bool) (x k y z : ℕ) → k + y ≤ z
      → k + (cond (a || (b || g)) 0 x + y) ≤ cond (a || b) 0 x + z
  part_less true b g x k y z le = omega (arith, le)
  part_less false true g x k y z le = omega (arith, le)
  part_less false false true x k y z le = omega (arith, le)
  part_less false false false x k y z le = omega (arith, le)

  abbrev sent_to : ℕ → Registered → Registered
  sent_to d r = record r { sent = r.sent ++ d ∷ [] }

  late_less : (d : ℕ) (r : Registered) (ds : List ℕ) → late p c (sent_to d r) ds ≤ late p c r ds
  late_less d r [] = omega arith
  late_less d r (e ∷ ds) = (let a = late_less d r ds in
      subst (λ b. cond (r.from == e || b) 0 (2 * side p c e) + late p c (sent_to d r) ds ≤ late p c r (e ∷ ds))
      (sym (has_more e d r.sent))
      (let z = part_less (r.from == e) (has e r.sent) (e == d || false) (2 * side p c e) 0
      (late p c (sent_to d r) ds) (late p c r ds) (omega (arith, a)) in omega (arith, z)))

  same_yes : (d : ℕ) → (d == d) ≡ true
  same_yes d = grind (arith, nat_tests)

  late_gone : (d : ℕ) (r : Registered) → (r.from == d) ≡ false → has d r.sent ≡ false → (ds : List ℕ) → In d ds
      → 2 * side p c d + late p c (sent_to d r) ds ≤ late p c r ds
  late_gone d r f g [] i = absurd i
  late_gone d r f g (e ∷ ds) (inl h) =
      let a = late_less d r ds in
      let now : late p c r (d ∷ ds) ≡ 2 * side p c d + late p c r ds =
      ap (λ b. cond b 0 (2 * side p c d) + late p c r ds) (both_false (r.from == d) (has d r.sent) f g) in
      let then : late p c (sent_to d r) (d ∷ ds) ≡ 0 + late p c (sent_to d r) ds =
      ap (λ b. cond b 0 (2 * side p c d) + late p c (sent_to d r) ds)
      (last_true (r.from == d) (has d (r.sent ++ d ∷ []))
      (has_more d d r.sent ∙ last_true (has d r.sent) (d == d || false) (ap (λ b. b || false) (same_yes d)))) in
      subst (λ z. 2 * side p c d + late p c (sent_to d r) (z ∷ ds) ≤ late p c r (z ∷ ds)) h
      (omega (arith, a, now, then))
    where
      both_false : (a b : Bool) → a ≡ false → b ≡ false → (a || b) ≡ false
      both_false false b s t = t
      both_false true b s t = absurd (cc)

      last_true : (a b : Bool) → b ≡ true → (a || b) ≡ true
      last_true true b s = refl
      last_true false b s = s
  late_gone d r f g (e ∷ ds) (inr i) = (let a = late_gone d r f g ds i in
      subst (λ b. 2 * side p c d + (cond (r.from == e || b) 0 (2 * side p c e) + late p c (sent_to d r) ds)
      ≤ late p c r (e ∷ ds)) (sym (has_more e d r.sent))
      (part_less (r.from == e) (has e r.sent) (e == d || false) (2 * side p c e) (2 * side p c d)
      (late p c (sent_to d r) ds) (late p c r ds) a))

module _ (p : Plan) (tree : TreeOk p) (c : ℕ) (lc : c < clps_of p) where
  at_port : (d : ℕ) → In d (ports p c) → process p d ≡ AtClp d
  at_port d i = process_clp p d (tree.inside c d i)

  -- ---- catching up

  abbrev asked : ℕ → Registered → Sent
  asked d r = record { to = d; message = ask_of r }

  catch_regs : (d k : ℕ) → In d (ports p c) → (b : List (List Known)) (rs : List Registered)
      → weights p c (map (asked d) (filter (catches (hub_of p c) b d k) rs))
      + regs_weight p c (map (caught (hub_of p c) b d k) rs) ≤ regs_weight p c rs
  catch_regs d k i b [] = omega arith
  catch_regs d k i b (r ∷ rs) = by (catch_regs d k i b rs) (catches (hub_of p c) b d k r) refl
    where
      not_true : (a : Bool) → not a ≡ true → a ≡ false
      not_true false f = refl
      not_true true f = absurd (cc)

      gone : catches (hub_of p c) b d k r ≡ true
          → 2 * side p c d + reg_weight p c (sent_to p c d r) ≤ reg_weight p c r
      gone e =
          let e1 = and_parts (k == r.class) _ e in
          let e2 = and_parts (not (r.from == d)) _ e1.1 in
          let e3 = and_parts (not (has d r.sent)) (may_hold (ports p c) b d k r.stamp r.window) e2.1 in
          let a = late_gone p c d r (not_true (r.from == d) e2.0) (not_true (has d r.sent) e3.0) (ports p c) i in
          omega (arith, a)

      cost : weight p (process p d) (AtClp c) (ask_of r) ≡ 2 * side p c d
      cost = ap (λ z. weight p z (AtClp c) (ask_of r)) (at_port d i)

      by : weights p c (map (asked d) (filter (catches (hub_of p c) b d k) rs))
          + regs_weight p c (map (caught (hub_of p c) b d k) rs) ≤ regs_weight p c rs
          → (o : Bool) → catches (hub_of p c) b d k r ≡ o
          → weights p c (map (asked d) (cond o (r ∷ filter (catches (hub_of p c) b d k) rs)
          (filter (catches (hub_of p c) b d k) rs)))
          + regs_weight p c (cond o (sent_to p c d r) r ∷ map (caught (hub_of p c) b d k) rs)
          ≤ regs_weight p c (r ∷ rs)
      by a true e = (let g = gone e in let x = cost in omega (arith, a, g, x))
      by a false e = omega (arith, a)

  pub catch_cost : (d k : ℕ) → In d (ports p c) → (x : ClpState)
      → weights p c (catching (hub_of p c) d k x).sent + regs_weight p c (catching (hub_of p c) d k x).clp.queries
      ≤ regs_weight p c x.queries
  catch_cost d k i x = catch_regs d k i x.bound x.queries

  -- ---- telling

  tell_one_cost : (k : ℕ) (from : Stamp) (until : Option Stamp) (w : Window) (d : ℕ) → In d (ports p c)
      → (x : ClpState) → (weights p c (tell_one (hub_of p c) k from until w d x).sent ≤ side p c d)
      × ((tell_one (hub_of p c) k from until w d x).clp.queries ≡ x.queries)
      × ((tell_one (hub_of p c) k from until w d x).clp.routing ≡ x.routing)
  tell_one_cost k from until w d i x =
      let when : Interval = record { from = Some from; until = until } in
      let told : ClpSends = record {
        clp = record x { told = grow_at (ports p c) d k when w x.told };
        sent = record { to = d; message = message.Grow k from until w } ∷ [];
      } in
      let a : weight p (process p d) (AtClp c) (message.Grow k from until w) ≡ side p c d =
      ap (λ z. weight p z (AtClp c) (message.Grow k from until w)) (at_port d i) in
      cond_both (covers (known_at (ports p c) d k x.told) when w) (no_clp_sends x) told
      (λ (r : ClpSends). (weights p c r.sent ≤ side p c d) × (r.clp.queries ≡ x.queries)
      × (r.clp.routing ≡ x.routing))
      (λ _. (omega arith, refl, refl)) (λ _. (omega (arith, a), refl, refl))

  pub tell_cost : (k : ℕ) (from : Stamp) (until : Option Stamp) (w : Window) (ds : List ℕ)
      → ((d : ℕ) → In d ds → In d (ports p c)) → (x : ClpState)
      → (weights p c (tell (hub_of p c) k from until w ds x).sent ≤ sides p c ds)
      × ((tell (hub_of p c) k from until w ds x).clp.queries ≡ x.queries)
      × ((tell (hub_of p c) k from until w ds x).clp.routing ≡ x.routing)
  tell_cost k from until w [] is x = (omega arith, refl, refl)
  tell_cost k from until w (d ∷ ds) is x =
      let first : ClpSends = tell_one (hub_of p c) k from until w d x in
      let one = tell_one_cost k from until w d (is d (inl refl)) x in
      let rest = tell_cost k from until w ds (λ e i. is e (inr i)) first.clp in
      let a = weights_append p c first.sent (tell (hub_of p c) k from until w ds first.clp).sent in
      let b = one.0 in let d' = rest.0 in
      (omega (arith, a, b, d'), rest.1 ∙ one.1, rest.2 ∙ one.2)

  -- a Grow costs one delivery more than all that comes of it
  pub grow_cost : (d k : ℕ) (z : Stamp) (until : Option Stamp) (u : Window) (x : ClpState) → d < clps_of p
      → In c (ports p d) → weights p c (clp_after (hub_of p c) d (message.Grow k z until u) x).sent
      + regs_weight p c (clp_after (hub_of p c) d (message.Grow k z until u) x).clp.queries
      < weight p (AtClp c) (AtClp d) (message.Grow k z until u) + regs_weight p c x.queries
  grow_cost d k z until u x ld port =
      let s1 : ClpState = grow_bound (hub_of p c) d k (record { from = Some z; until = until }) u x in
      let s2 : ClpState = (catching (hub_of p c) d k s1).clp in
      let others : List ℕ = without d (ports p c) in
      let t = tell_cost k z until u others (λ e i. (in_filter (λ y. not (d == y)) (ports p c) e i).0) s2 in
      let a = t.0 in
      let b = catch_cost d k (tree.back d c ld port) s1 in
      let e = weights_append p c (catching (hub_of p c) d k s1).sent (tell (hub_of p c) k z until u others s2).sent in
      let q : regs_weight p c (tell (hub_of p c) k z until u others s2).clp.queries ≡ regs_weight p c s2.queries =
      ap (regs_weight p c) t.1 in
      let n = side_next p tree d c ld port (no_self p tree d c ld port) in
      omega (arith, a, b, e, q, n)

  -- a record whose puts are of one stamp tells of one period after it
  one_period : (s : Stamp) (r : Parts) (ps : List PutRow) → ((x : PutRow) → In x ps → x.stamp ≡ s)
      → periods_of r (Some s) ps
      ≡ record { when = record { from = Some s; until = None }; value = value_below r line.End } ∷ []
  one_period s r [] h = refl
  one_period s r (y ∷ ps) h =
      let e : is_after (Some s) y.stamp ≡ false =
      ap (λ z. stamp_lt s z) (h y (inl refl)) ∙ lt_false s s (grind arith) in
      let f : (is_live r.cuts y && is_after (Some s) y.stamp) ≡ false =
      none (is_live r.cuts y) (is_after (Some s) y.stamp) e in
      ap (λ b. cond b (record {
        when = record { from = Some s; until = Some y.stamp };
        value = record_value r y.stamp;
      } ∷ periods_of r (Some y.stamp) ps) (periods_of r (Some s) ps)) f
      ∙ one_period s r ps (λ z j. h z (inr j))
    where
      none : (a b : Bool) → b ≡ false → (a && b) ≡ false
      none true b g = g
      none false b g = refl

  pub telling_cost : (v : ℕ) (s : Stamp) (x : ClpState) → PutsAt s v x
      → (weights p c (telling (hub_of p c) v s x).sent < clps_of p)
      × ((telling (hub_of p c) v s x).clp.queries ≡ x.queries)
      × ((telling (hub_of p c) v s x).clp.routing ≡ x.routing)
  telling_cost v s x h = go (rec_at x.records v) refl
    where
      go : (o : Option Parts) → rec_at x.records v ≡ o
          → (weights p c (tell_record (hub_of p c) v s o x).sent < clps_of p)
          × ((tell_record (hub_of p c) v s o x).clp.queries ≡ x.queries)
          × ((tell_record (hub_of p c) v s o x).clp.routing ≡ x.routing)
      go None e = (omega (arith, lc), refl, refl)
      go (Some r) e =
          let k : ℕ = class_at (hub_of p c) v in
          let w : Window = point_of (value_below r line.End) in
          let t = tell_cost k s None w (ports p c) (λ d i. i) x in
          let a = t.0 in
          let n = all_sides p tree c lc in
          let b = weights_append p c (tell (hub_of p c) k s None w (ports p c) x).sent [] in
          subst (λ ps. (weights p c (tell_periods (hub_of p c) k ps x).sent < clps_of p)
          × ((tell_periods (hub_of p c) k ps x).clp.queries ≡ x.queries)
          × ((tell_periods (hub_of p c) k ps x).clp.routing ≡ x.routing)) (sym (one_period s r r.puts (h r e)))
          (omega (arith, a, n, b), t.1, t.2)

pub all_telling : (p : Plan) → IsValid p → TellingCosts p
all_telling p valid c v s x lc h = (telling_cost p (tree_of p valid) c lc v s x h).0

pub all_growing : (p : Plan) → IsValid p → GrowCosts p
all_growing p valid c d k z until u x ld port =
    grow_cost p (tree_of p valid) c ((tree_of p valid).inside d c port) d k z until u x ld port
