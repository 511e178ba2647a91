-- A delivery at a communication process lowers what is left to pay by one at least, where no read and no write of a
-- variable is sent back.
use Rattle.std.proofs.Common.{◌≡◌, ℕ, zero, suc, ◌+◌, ◌*◌, ◌<◌, ◌≤◌, inl, inr, ◌==◌, Bool, true, false, cond, not, ◌||◌, List, [], ◌∷◌, ◌++◌, map, filter, length, set, refl, arith, ap, sym, ◌∙◌, subst, Option, Some, None, get_or-set_other, get_or-set_same, length-set}
use Rattle.std.proofs.lemmas.Bool.{and_parts, cases_eq, cond_both}
use Rattle.std.proofs.lemmas.Bool.Decides.{nat_tests}
use Rattle.pm_base.specs.Layouts.{class_row}
use Rattle.pm_base.specs.Stamps.{num_eq}
use Rattle.pm_base.specs.Windows.{whole}
use Rattle.pm_base.specs.declared.rows.GiveRow.{GiveRow}
use Rattle.pm_base.specs.declared.rows.Parts.{Parts}
use Rattle.pm_base.specs.declared.rows.PutRow.{PutRow}
use Rattle.pm_base.specs.declared.stamp.Num.{Num}
use Rattle.pm_base.specs.declared.stamp.Stamp.{Stamp}
use Rattle.pm_base.specs.declared.value.Change.{Change}
use Rattle.pm_base.specs.declared.value.Query.TheVariants as query
use Rattle.pm_base.specs.declared.value.Window.{Window}
use Rattle.pm_message.specs.declared.Message.{Message}
use Rattle.pm_message.specs.declared.Message.TheVariants as message
use Rattle.pm_periods.proofs.Settling.{settled-same}
use Rattle.pm_periods.specs.Records.{settled}
use Rattle.pm_periods.specs.Rows.{key_lt}
use Rattle.pm_plan.specs.Plans.{IsValid}
use Rattle.pm_plan.specs.declared.plan.Plan.{Plan}
use Rattle.pm_routes.specs.Routings.{counted, is_drawn}
use Rattle.pm_routes.specs.declared.way.Way.{Way}
use Rattle.pm_routes.specs.declared.way.Way.TheVariants as way
use Rattle.pm_tables.specs.Tables.{may_hold}
use Rattle.pm_queries.specs.Queries.{add_reg, ask_of, behind_reg, finish_if, finish_in, finish_one, has, has_reg, registered_key, without}
use Rattle.pm_queries.specs.declared.registered.Registered.{Registered}
use Rattle.pm_queries.specs.declared.registered.Sent.{Sent}
use Rattle.pm_clp.specs.Clps.{ClpSends, ClpState, and_then, at_record, clp_after, counting, forwards, installed, leaves, leaving, no_clp_sends, on_record, on_way, queries_watch, rec_at, reg_of, registered, sent_on, take_put, take_watch, telling, to_agent, watch_all, watch_if, way_of, with_count}
use Rattle.pm_sim.proofs.Movings.{drawn_port}
use Rattle.pm_sim.proofs.Places.{in_range, process_clp}
use Rattle.pm_sim.proofs.Promised.{plan_fits}
use Rattle.pm_sim.proofs.Takings.{LinkOk}
use Rattle.pm_sim.proofs.Trims.{filter_in}
use Rattle.pm_sim.proofs.Wholes.{first_whole}
use Rattle.pm_sim.specs.Routings.{ForClp, IsClp, TreeOk}
use Rattle.pm_sim.specs.Sims.{In, class_at, vars_of}
use Rattle.pm_sim.specs.Worlds.{Process, clps_of, hub_of, number, ports, process}
use Rattle.pm_sim.specs.Worlds.Process.{AtAgent, AtClp}
use Rattle.pm_calm.specs.Phases.{ClpAt, MailAt, MoveAt, Phase, RecAt, WriteAt, is_over}
use Rattle.pm_calm.specs.Phases.Phase.{Idle, Single, Range}
use Rattle.pm_calm.proofs.Acts.{OfRange, reg_late}
use Rattle.pm_calm.proofs.Records.{put_at, watch_at, watch_once}
use Rattle.pm_cost.specs.Spending.{waits_rest}
use Rattle.pm_cost.specs.Falls.{DeliveriesCost, NamesAgent, Neighbour, Onwards, hits_left, left_of}
use Rattle.pm_cost.specs.Weights.{away, late, reg_weight, regs_weight, side, sides, unread, weight, weights}
use Rattle.pm_cost.proofs.GrowCosts.{catch_cost, grow_cost, no_self, telling_cost, tree_of, weights_append}
use Rattle.pm_cost.proofs.Hits.{give_goes, gives_cost, side_some, watch_cost}
use Rattle.pm_cost.proofs.QueryCosts.{watch_queries}
use Rattle.pm_cost.proofs.TreeSides.{all_sides, side_first, side_less, side_next}

some_rec : (a b : Parts) → Some a ≡ Some b → a ≡ b
some_rec a b g = cc

has_in : (e : ℕ) (ds : List ℕ) → In e ds → has e ds ≡ true
has_in e [] i = absurd i
has_in e (d ∷ ds) (inl f) = (let b : (e == d) ≡ true = grind (arith, nat_tests, f) in ap (λ z. z || has e ds) b)
has_in e (d ∷ ds) (inr i) = last (e == d) (has e ds) (has_in e ds i)
  where
    last : (a b : Bool) → b ≡ true → (a || b) ≡ true
    last true b f = refl
    last false b f = f

sides_without : (p : Plan) (c d : ℕ) (ds : List ℕ) → sides p c (without d ds) ≤ sides p c ds
sides_without p c d [] = omega arith
sides_without p c d (e ∷ ds) = by (d == e) (sides_without p c d ds)
  where
    by : (b : Bool) → sides p c (without d ds) ≤ sides p c ds
        → sides p c (cond (not b) (e ∷ without d ds) (without d ds)) ≤ sides p c (e ∷ ds)
    by true a = omega (arith, a)
    by false a = omega (arith, a)

-- ---- how far a message comes

module _ (p : Plan) (tree : TreeOk p) (c : ℕ) (lc : c < clps_of p) where
  pub away_some : (f : Process) → LinkOk p (AtClp c) f → 1 ≤ away p (AtClp c) f
  away_some (AtClp d) i = side_some p tree d c (tree.inside c d i) (tree.back c d lc i)
  away_some (AtAgent a) e = omega (arith, lc)

  away_next : (f : Process) → LinkOk p (AtClp c) f → (e : ℕ) → In e (ports p c) → (f ≡ AtClp e → ⊥)
      → suc (side p c e) ≤ away p (AtClp c) f
  away_next (AtClp d) i e j n =
      let ld = tree.inside c d i in
      let port = tree.back c d lc i in
      side_less p tree d c e ld port (no_self p tree d c ld port) j (λ g. n (ap AtClp g))
  away_next (AtAgent a) h e j n = side_first p tree c e lc j

  away_others : (f : Process) → LinkOk p (AtClp c) f
      → suc (sides p c (without (number p f) (ports p c))) ≤ away p (AtClp c) f
  away_others (AtClp d) i =
      let ld = tree.inside c d i in
      let port = tree.back c d lc i in
      let a = side_next p tree d c ld port (no_self p tree d c ld port) in omega (arith, a)
  away_others (AtAgent a) h =
      let x = all_sides p tree c lc in let y = sides_without p c (clps_of p + a) (ports p c) in omega (arith, x, y)

  -- ---- registered queries

  add_regs : (r : Registered) (qs : List Registered)
      → regs_weight p c (add_reg r qs) ≡ reg_weight p c r + regs_weight p c qs
  add_regs r [] = refl
  add_regs r (x ∷ xs) =
      let again = add_regs r xs in
      cond_both (key_lt (registered_key r) (registered_key x)) (r ∷ (x ∷ xs)) (x ∷ add_reg r xs)
      (λ ys. regs_weight p c ys ≡ reg_weight p c r + regs_weight p c (x ∷ xs)) (λ _. refl)
      (λ _. omega (arith, again))

  abbrev asks : Registered → ℕ → Sent
  asks r e = record { to = e; message = ask_of r }

  -- the Asks that are sent, and what is left of the other ports
  asks_sum : (P : ℕ → Bool) (r : Registered) → ((e : ℕ) → P e ≡ true → (r.from == e) ≡ false) → (ps : List ℕ)
      → ((e : ℕ) → In e ps → In e (ports p c)) → ((e : ℕ) → In e ps → P e ≡ true → has e r.sent ≡ true)
      → weights p c (map (asks r) (filter P ps)) + late p c r ps ≤ 2 * sides p c (without r.from ps)
  asks_sum P r hp [] is hs = omega arith
  asks_sum P r hp (e ∷ ps) is hs =
      by (P e) (r.from == e) (has e r.sent) refl refl (λ g. hs e (inl refl) g)
      (asks_sum P r hp ps (λ d i. is d (inr i)) (λ d i. hs d (inr i)))
    where
      cost : weight p (process p e) (AtClp c) (ask_of r) ≡ 2 * side p c e
      cost = ap (λ z. weight p z (AtClp c) (ask_of r)) (process_clp p e (tree.inside c e (is e (inl refl))))

      by : (a b g : Bool) → P e ≡ a → (r.from == e) ≡ b → (P e ≡ true → g ≡ true)
          → weights p c (map (asks r) (filter P ps)) + late p c r ps ≤ 2 * sides p c (without r.from ps)
          → weights p c (map (asks r) (cond a (e ∷ filter P ps) (filter P ps)))
          + (cond (b || g) 0 (2 * side p c e) + late p c r ps)
          ≤ 2 * sides p c (cond (not b) (e ∷ without r.from ps) (without r.from ps))
      by true true g ea eb hg le = absurd (let z = hp e ea in cc)
      by false true g ea eb hg le = omega (arith, le)
      by true false true ea eb hg le = (let x = cost in omega (arith, le, x))
      by true false false ea eb hg le = absurd (let z = hg ea in cc)
      by false false true ea eb hg le = omega (arith, le)
      by false false false ea eb hg le = omega (arith, le)

  forwards_cost : (from : ℕ) (r : Registered) (ds : List ℕ)
      → weights p c (forwards (hub_of p c) from r ds) + waits_rest ds ≤ 1 + weights p c (map (asks r) ds)
  forwards_cost from r [] = omega arith
  forwards_cost from r (d ∷ ds) = omega arith

  -- a query that is registered costs a Finish, and two deliveries for each process behind its other ports
  registered_cost : (from : ℕ) (k : Num) (z : Stamp) (j : ℕ) (u : Window) (x : ClpState)
      → weights p c (registered (hub_of p c) from k z j u x).sent
      + regs_weight p c (registered (hub_of p c) from k z j u x).clp.queries
      ≤ 1 + 2 * sides p c (without from (ports p c)) + regs_weight p c x.queries
  registered_cost from k z j u x =
      let P : ℕ → Bool = sent_on (hub_of p c) x.bound from j z u in
      let ds : List ℕ = filter (sent_on (hub_of p c) x.bound from j z u) (ports p c) in
      let r : Registered = reg_of (hub_of p c) from k z j u ds in
      let a = add_regs r x.queries in
      let b = forwards_cost from r ds in
      let g = asks_sum (sent_on (hub_of p c) x.bound from j z u) r
      (λ e h. not_true (from == e) (and_parts (not (from == e)) (may_hold (ports p c) x.bound e j z u) h).0)
      (ports p c) (λ e i. i)
      (λ e i h. has_in e ds (filter_in (sent_on (hub_of p c) x.bound from j z u) (ports p c) e i h)) in
      omega (arith, a, b, g)
    where
      not_true : (b : Bool) → not b ≡ true → b ≡ false
      not_true false f = refl
      not_true true f = absurd (cc)

  -- a Finish pays for what it makes
  late_waits : (r : Registered) (ws ds : List ℕ) → late p c (record r { waits = ws }) ds ≡ late p c r ds
  late_waits r ws [] = refl
  late_waits r ws (d ∷ ds) = ap (λ n. cond (r.from == d || has d r.sent) 0 (2 * side p c d) + n) (late_waits r ws ds)

  finish_cost : (k : Num) (d : ℕ) (rs : List Registered)
      → weights p c (finish_in k d rs).sent + regs_weight p c (finish_in k d rs).queries ≤ regs_weight p c rs
  finish_cost k d [] = omega arith
  finish_cost k d (r ∷ rs) =
      let again = finish_cost k d rs in
      cond_both (num_eq k r.num) (finish_one d r rs (has d r.waits)) (behind_reg r (finish_in k d rs))
      (λ z. weights p c z.sent + regs_weight p c z.queries ≤ regs_weight p c (r ∷ rs))
      (λ _. one (has d r.waits) refl) (λ _. omega (arith, again))
    where
      some : (ws : List ℕ) → has d ws ≡ true → waits_rest ws ≡ 1
      some [] f = absurd (cc)
      some (y ∷ ws) f = refl

      ended : (ws : List ℕ) → weights p c (finish_if ws r) + waits_rest ws ≤ 1
      ended [] = omega arith
      ended (y ∷ ws) = omega arith

      one : (b : Bool) → has d r.waits ≡ b → weights p c (finish_one d r rs b).sent
          + regs_weight p c (finish_one d r rs b).queries ≤ regs_weight p c (r ∷ rs)
      one true e = (let a = some r.waits e in let b = ended (without d r.waits) in
          let l = late_waits r (without d r.waits) (ports p c) in omega (arith, a, b, l))
      one false e = omega arith

  -- ---- a variable is counted

  counting_cost : (v from : ℕ) (x : ClpState) → x.routing.ports ≡ ports p c
      → weights p c (counting (hub_of p c) v from x).sent
      + regs_weight p c (counting (hub_of p c) v from x).clp.queries ≤ 1 + regs_weight p c x.queries
  counting_cost v from x ps = go (is_drawn (counted x.routing v from) v from) refl (rec_at x.records v)
    where
      go : (b : Bool) → is_drawn (counted x.routing v from) v from ≡ b → (o : Option Parts)
          → weights p c (leaves (hub_of p c) b v from o (with_count (hub_of p c) v from x)).sent
          + regs_weight p c (leaves (hub_of p c) b v from o (with_count (hub_of p c) v from x)).clp.queries
          ≤ 1 + regs_weight p c x.queries
      go false e o = omega arith
      go true e None = omega arith
      go true e (Some r) =
          let z : ClpState = (leaving (hub_of p c) v from r (with_count (hub_of p c) v from x)).clp in
          let i : In from (ports p c) = subst (In from) ps (drawn_port (counted x.routing v from) v from e) in
          let a = catch_cost p tree c lc from (class_at p v) i z in omega (arith, a)

  module _ (s : Stamp) (over : Num → ℕ → Window → Type 0) where
    abbrev Recs : ClpState → Type 0
    Recs x = (v : ℕ) (r : Parts) → rec_at x.records v ≡ Some r → RecAt p s over v r

    set_recs : (x : ClpState) (v : ℕ) (r y : Parts) → rec_at x.records v ≡ Some r → Recs x → RecAt p s over v y
        → Recs (record x { records = set x.records v (Some y) })
    set_recs x v r y e h a w z f = elim (cases_eq w v) [
      | inl g ↦ subst (λ i. RecAt p s over i z) (sym g) (subst (RecAt p s over v) (some_rec y z
          (sym (get_or-set_same x.records v (Some y) None (in_range x.records v r e))
          ∙ (ap (rec_at (set x.records v (Some y))) (sym g) ∙ f))) a)
      | inr ne ↦ h w z (sym (get_or-set_other x.records v w (Some y) None ne) ∙ f)
    ]

    -- ---- a write

    record Put (v : ℕ) (x : ClpState) (r : ClpSends) : Type 0 where
      recs : Recs r.clp
      none : weights p c r.sent ≡ 0
      regs : r.clp.queries ≡ x.queries
      ports : r.clp.routing ≡ x.routing

    put_record : (v : ℕ) (y : PutRow) → y.stamp ≡ s → (x : ClpState) → Recs x
        → Put v x (at_record (hub_of p c) v (take_put v y) x)
    put_record v y es x h = go (rec_at x.records v) refl
      where
        go : (o : Option Parts) → rec_at x.records v ≡ o → Put v x (on_record (hub_of p c) v (take_put v y) o x)
        go None e = record { recs = h; none = refl; regs = refl; ports = refl }
        go (Some r) e = (let a = put_at p s over v y r es (h v r e) in record {
          recs = set_recs x v r (take_put v y r).rec e h a.0;
          none = ap (λ gs. weights p c (map (to_agent (hub_of p c)) gs)) a.1;
          regs = refl;
          ports = refl;
        })

    -- a write that comes to its record
    put_here : (v from : ℕ) (y : PutRow) → y.stamp ≡ s → (x : ClpState) → Recs x → x.routing.ports ≡ ports p c
        → weights p c (and_then (and_then (at_record (hub_of p c) v (take_put v y) x) (telling (hub_of p c) v y.stamp))
        (counting (hub_of p c) v from)).sent
        + regs_weight p c (and_then (and_then (at_record (hub_of p c) v (take_put v y) x)
        (telling (hub_of p c) v y.stamp)) (counting (hub_of p c) v from)).clp.queries
        ≤ clps_of p + regs_weight p c x.queries
    put_here v from y es x h ps =
        let r : ClpSends = at_record (hub_of p c) v (take_put v y) x in
        let a = put_record v y es x h in
        let t : ClpSends = telling (hub_of p c) v y.stamp r.clp in
        let b = telling_cost p tree c lc v y.stamp r.clp (λ z e q i. (a.recs v z e).puts q i ∙ sym es) in
        let g = counting_cost v from t.clp (ap (λ z. z.ports) b.2 ∙ (ap (λ z. z.ports) a.ports ∙ ps)) in
        let w1 = weights_append p c r.sent t.sent in
        let w2 = weights_append p c (r.sent ++ t.sent) (counting (hub_of p c) v from t.clp).sent in
        let q : regs_weight p c t.clp.queries ≡ regs_weight p c x.queries =
        ap (regs_weight p c) b.1 ∙ ap (regs_weight p c) a.regs in
        let n = a.none in
        let m = b.0 in
        omega (arith, n, m, g, w1, w2, q)

    -- ---- a read of one variable that comes to its record

    one_here : (v from : ℕ) (k : Num) (z : Stamp) (u : Window) → z ≡ s → k.agent < length p.agents → (x : ClpState)
        → Recs x → x.routing.ports ≡ ports p c
        → weights p c (and_then (at_record (hub_of p c) v (take_watch v k z u) x) (counting (hub_of p c) v from)).sent
        + regs_weight p c (and_then (at_record (hub_of p c) v (take_watch v k z u) x)
        (counting (hub_of p c) v from)).clp.queries
        ≤ clps_of p + 1 + regs_weight p c x.queries
    one_here v from k z u es la x h ps = go (rec_at x.records v) refl
      where
        Few : ClpSends → Type 0
        Few r = weights p c (and_then r (counting (hub_of p c) v from)).sent
            + regs_weight p c (and_then r (counting (hub_of p c) v from)).clp.queries
            ≤ clps_of p + 1 + regs_weight p c x.queries

        then_count : (r : ClpSends) → weights p c r.sent ≤ clps_of p → r.clp.queries ≡ x.queries
            → r.clp.routing ≡ x.routing → Few r
        then_count r le q e =
            let g = counting_cost v from r.clp (ap (λ z. z.ports) e ∙ ps) in
            let w1 = weights_append p c r.sent (counting (hub_of p c) v from r.clp).sent in
            let q' : regs_weight p c r.clp.queries ≡ regs_weight p c x.queries = ap (regs_weight p c) q in
            omega (arith, le, g, w1, q')

        go : (o : Option Parts) → rec_at x.records v ≡ o → Few (on_record (hub_of p c) v (take_watch v k z u) o x)
        go None e = then_count (no_clp_sends x) (omega arith) refl refl
        go (Some r) e =
            let a = watch_at p s over v k z u r es (h v r e) in
            then_count (on_record (hub_of p c) v (take_watch v k z u) (Some r) x)
            (gives_cost p tree c lc (take_watch v k z u r).gives (watch_once p s over v k z u r (h v r e))
            (λ g i. subst (λ (n : Num). n.agent < length p.agents) (sym (a.1.0 g i).0) la)) refl refl

    -- ---- records where a query finds nothing new

    record Silence (x : ClpState) (r : ClpSends) : Type 0 where
      recs : Recs r.clp
      none : weights p c r.sent ≡ 0
      regs : r.clp.queries ≡ x.queries

    silent_chain : (x : ClpState) (r : ClpSends) (f : ClpState → ClpSends) → Silence x r
        → ((y : ClpState) → Recs y → Silence y (f y)) → Silence x (and_then r f)
    silent_chain x r f a e = (let o = e r.clp a.recs in let n = a.none in let m = o.none in record {
      recs = o.recs;
      none = (let w = weights_append p c r.sent (f r.clp).sent in omega (arith, n, m, w));
      regs = o.regs ∙ a.regs;
    })

    silent_record : (k : Num) (z : Stamp) (j : ℕ) (u : Window) → z ≡ s → over k j u → (v : ℕ) → class_at p v ≡ j
        → (x : ClpState) → Recs x → Silence x (at_record (hub_of p c) v (take_watch v k z u) x)
    silent_record k z j u es ov v ec x h = go (rec_at x.records v) refl
      where
        go : (o : Option Parts) → rec_at x.records v ≡ o
            → Silence x (on_record (hub_of p c) v (take_watch v k z u) o x)
        go None e = record { recs = h; none = refl; regs = refl }
        go (Some r) e = (let a = watch_at p s over v k z u r es (h v r e) in record {
          recs = set_recs x v r (take_watch v k z u r).rec e h a.0;
          none = ap (λ gs. weights p c (map (to_agent (hub_of p c)) gs)) (a.1.1 ((h v r e).silent k j u ov ec));
          regs = refl;
        })

    silent_all : OfRange p → (k : Num) (z : Stamp) (j : ℕ) (u : Window) → z ≡ s → over k j u → (i m : ℕ)
        → (class_row p.layout.classes j).first ≤ i
        → i + m ≤ (class_row p.layout.classes j).first + (class_row p.layout.classes j).count
        → (x : ClpState) → Recs x → Silence x (watch_all (hub_of p c) k z u i m x)
    silent_all rg k z j u es ov i zero lo hi x h = record { recs = h; none = refl; regs = refl }
    silent_all rg k z j u es ov i (suc m) lo hi x h =
        silent_chain x (at_record (hub_of p c) i (take_watch i k z u) x) (watch_all (hub_of p c) k z u (suc i) m)
        (silent_record k z j u es ov i (rg j i lo (omega (arith, hi))) x h)
        (silent_all rg k z j u es ov (suc i) m (omega (arith, lo)) (omega (arith, hi)))

    silent_joins : (v : ℕ) (rs : List Registered)
        → ((r : Registered) → In r rs → (r.stamp ≡ s) × over r.num r.class r.window) → (x : ClpState) → Recs x
        → Silence x (queries_watch (hub_of p c) v rs x)
    silent_joins v [] hr x h = record { recs = h; none = refl; regs = refl }
    silent_joins v (r ∷ rs) hr x h =
        silent_chain x (watch_if (hub_of p c) (class_at p v == r.class) v r x) (queries_watch (hub_of p c) v rs)
        (one (class_at p v == r.class) refl) (silent_joins v rs (λ y i. hr y (inr i)))
      where
        one : (b : Bool) → (class_at p v == r.class) ≡ b → Silence x (watch_if (hub_of p c) b v r x)
        one false e = record { recs = h; none = refl; regs = refl }
        one true e = (let a = hr r (inl refl) in
            silent_record r.num r.stamp r.class r.window a.0 a.1 v
            (let f : class_at p v ≡ r.class = grind (arith, nat_tests, e) in f) x h)

-- ---- a delivery

hits_same : (p : Plan) (ph : Phase) (x y : ClpState) → y.records ≡ x.records → hits_left p ph y ≡ hits_left p ph x
hits_same p Idle x y e = refl
hits_same p (Single n v) x y e = refl
hits_same p (Range n i u) x y e = ap (λ rs. clps_of p * unread n rs) e

no_hits : (p : Plan) (ph : Phase) → MoveAt ph → (x : ClpState) → hits_left p ph x ≡ 0
no_hits p Idle l x = refl
no_hits p (Single n v) l x = refl
no_hits p (Range n i u) l x = absurd l

write_moves : (ph : Phase) → WriteAt ph → MoveAt ph
write_moves Idle l = tt
write_moves (Single n x) l = tt
write_moves (Range n i w) l = absurd l

module _ (p : Plan) (tree : TreeOk p) (c : ℕ) (lc : c < clps_of p) (s : Stamp) (over : Num → ℕ → Window → Type 0)
  where
    abbrev Falls : Phase → Process → Message → ClpState → Type 0
    Falls ph f m x = suc (left_of p c ph (clp_after (hub_of p c) (number p f) m x))
        ≤ weight p (AtClp c) f m + regs_weight p c x.queries + hits_left p ph x

    -- where no hits are to come
    plainly : (ph : Phase) → MoveAt ph → (n : ℕ) (x : ClpState) (r : ClpSends)
        → suc (weights p c r.sent + regs_weight p c r.clp.queries) ≤ n + regs_weight p c x.queries
        → suc (left_of p c ph r) ≤ n + regs_weight p c x.queries + hits_left p ph x
    plainly ph l n x r le =
        (let a = no_hits p ph l x in let b = no_hits p ph l r.clp in omega (arith, le, a, b))

    abbrev Lead : ClpState → Type 0
    Lead x = (v e : ℕ) → way_of v x ≡ way.Port e → In e (ports p c)

    put_falls : (ph : Phase) → WriteAt ph → (f : Process) → LinkOk p (AtClp c) f → (n : Num) (z : Stamp) (v : ℕ)
        (g : Change) → z ≡ s → (x : ClpState) → Recs p tree c lc s over x → x.routing.ports ≡ ports p c → Lead x
        → Onwards f (message.Put n z v g) x → Falls ph f (message.Put n z v g) x
    put_falls ph wr f link n z v g es x h ps lead on =
        plainly ph (write_moves ph wr) (away p (AtClp c) f + clps_of p) x
        (clp_after (hub_of p c) (number p f) (message.Put n z v g) x) (go (way_of v x) refl)
      where
        y : PutRow
        y = record { num = n; stamp = z; change = g }

        Few : ClpSends → Type 0
        Few r = suc (weights p c r.sent + regs_weight p c r.clp.queries)
            ≤ away p (AtClp c) f + clps_of p + regs_weight p c x.queries

        go : (o : Way) → way_of v x ≡ o → Few (on_way (hub_of p c) o (message.Put n z v g) x (λ w.
            and_then (and_then (at_record (hub_of p c) v (take_put v (record { num = n; stamp = z; change = g })) w)
            (telling (hub_of p c) v z)) (counting (hub_of p c) v (number p f))))
        go (way.Port e) q =
            let i = lead v e q in
            let a = away_next p tree c lc f link e i (λ k. on e q k) in
            let b : weight p (process p e) (AtClp c) (message.Put n z v g) ≡ side p c e + clps_of p =
            ap (λ k. weight p k (AtClp c) (message.Put n z v g)) (process_clp p e (tree.inside c e i)) in
            omega (arith, a, b)
        go way.Here q =
            let a = put_here p tree c lc s over v (number p f) y es x h ps in
            let b = away_some p tree c lc f link in omega (arith, a, b)

    one_falls : (ph : Phase) → MoveAt ph → (f : Process) → LinkOk p (AtClp c) f → (k : Num) (z : Stamp) (v : ℕ)
        → z ≡ s → k.agent < length p.agents → (x : ClpState) → Recs p tree c lc s over x
        → x.routing.ports ≡ ports p c → Lead x
        → Onwards f (message.Ask k z (query.One v)) x → Falls ph f (message.Ask k z (query.One v)) x
    one_falls ph l f link k z v es la x h ps lead on =
        plainly ph l (away p (AtClp c) f + clps_of p + 1) x
        (clp_after (hub_of p c) (number p f) (message.Ask k z (query.One v)) x) (go (way_of v x) refl)
      where
        Few : ClpSends → Type 0
        Few r = suc (weights p c r.sent + regs_weight p c r.clp.queries)
            ≤ away p (AtClp c) f + clps_of p + 1 + regs_weight p c x.queries

        go : (o : Way) → way_of v x ≡ o → Few (on_way (hub_of p c) o (message.Ask k z (query.One v)) x (λ w.
            and_then (at_record (hub_of p c) v (take_watch v k z whole) w) (counting (hub_of p c) v (number p f))))
        go (way.Port e) q =
            let i = lead v e q in
            let a = away_next p tree c lc f link e i (λ k'. on e q k') in
            let b : weight p (process p e) (AtClp c) (message.Ask k z (query.One v)) ≡ side p c e + clps_of p + 1 =
            ap (λ k'. weight p k' (AtClp c) (message.Ask k z (query.One v))) (process_clp p e (tree.inside c e i)) in
            omega (arith, a, b)
        go way.Here q =
            let a = one_here p tree c lc s over v (number p f) k z whole es la x h ps in
            let b = away_some p tree c lc f link in omega (arith, a, b)

    -- a query that is registered already costs its delivery alone; else what watching costs and leaves is given
    class_falls : (ph : Phase) (f : Process) → LinkOk p (AtClp c) f → (k : Num) (z : Stamp) (j : ℕ) (u : Window)
        → (x : ClpState)
        → (weights p c (watch_all (hub_of p c) k z u (class_row p.layout.classes j).first
        (class_row p.layout.classes j).count x).sent
        + hits_left p ph (watch_all (hub_of p c) k z u (class_row p.layout.classes j).first
        (class_row p.layout.classes j).count x).clp ≤ hits_left p ph x)
        → Falls ph f (message.Ask k z (query.Class j u)) x
    class_falls ph f link k z j u x le =
        let row = class_row p.layout.classes j in
        let s1 : ClpSends = watch_all (hub_of p c) k z u row.first row.count x in
        let r : ClpSends = registered (hub_of p c) (number p f) k z j u s1.clp in
        let qs : regs_weight p c s1.clp.queries ≡ regs_weight p c x.queries =
        ap (regs_weight p c) (watch_queries (hub_of p c) k k z u row.first row.count x) in
        let a = registered_cost p tree c lc (number p f) k z j u s1.clp in
        let b = away_others p tree c lc f link in
        let d = away_some p tree c lc f link in
        let w = weights_append p c s1.sent r.sent in
        let hs = hits_same p ph s1.clp r.clp refl in
        cond_both (has_reg k x.queries) (no_clp_sends x)
        (and_then s1 (registered (hub_of p c) (number p f) k z j u))
        (λ (y : ClpSends). suc (left_of p c ph y) ≤ 2 * away p (AtClp c) f + regs_weight p c x.queries
        + hits_left p ph x)
        (λ _. omega (arith, d)) (λ _. omega (arith, le, a, b, w, qs, hs))

    -- the query is over
    over_falls : (ph : Phase) → MoveAt ph → OfRange p → (f : Process) → LinkOk p (AtClp c) f → (k : Num) (z : Stamp)
        (j : ℕ) (u : Window) → z ≡ s → over k j u → (x : ClpState) → Recs p tree c lc s over x
        → Falls ph f (message.Ask k z (query.Class j u)) x
    over_falls ph l rg f link k z j u es ov x h =
        let row = class_row p.layout.classes j in
        let s1 : ClpSends = watch_all (hub_of p c) k z u row.first row.count x in
        let a = silent_all p tree c lc s over rg k z j u es ov row.first row.count (omega arith) (omega arith) x h in
        let n = a.none in
        let b = no_hits p ph l x in
        let d = no_hits p ph l s1.clp in
        class_falls ph f link k z j u x (omega (arith, n, b, d))

    -- the query is open
    open_falls : (f : Process) → LinkOk p (AtClp c) f → (k : Num) (z : Stamp) (j : ℕ) (u : Window) (n : Num) (i : ℕ)
        (w : Window) → z ≡ s → k ≡ n → k.agent < length p.agents → (x : ClpState) → Recs p tree c lc s over x
        → Falls (Range n i w) f (message.Ask k z (query.Class j u)) x
    open_falls f link k z j u n i w es ek la x h =
        subst (λ t. Falls (Range n i w) f (message.Ask k t (query.Class j u)) x) (sym es)
        (subst (λ m. Falls (Range m i w) f (message.Ask k s (query.Class j u)) x) ek
        (let row = class_row p.layout.classes j in
        let a = watch_cost p tree c lc s over k u la row.first row.count x h in
        class_falls (Range k i w) f link k s j u x a))

    finish_falls : (ph : Phase) (f : Process) (k : Num) (z : Stamp) (x : ClpState) → Falls ph f (message.Finish k z) x
    finish_falls ph f k z x =
        let a = finish_cost p tree c lc k (number p f) x.queries in
        let hs = hits_same p ph x (clp_after (hub_of p c) (number p f) (message.Finish k z) x).clp refl in
        omega (arith, a, hs)

    give_falls : (ph : Phase) (f : Process) (g : GiveRow) → g.num.agent < length p.agents → (x : ClpState)
        → Falls ph f (message.Give g) x
    give_falls ph f g la x = (let a = give_goes p tree c lc g la in omega (arith, a))

    grow_falls : (ph : Phase) → WriteAt ph → (f : Process) → IsClp f → LinkOk p (AtClp c) f → (k : ℕ) (z : Stamp)
        (until : Option Stamp) (u : Window) (x : ClpState) → Falls ph f (message.Grow k z until u) x
    grow_falls ph wr (AtAgent a) h link k z until u x = absurd h
    grow_falls ph wr (AtClp d) h link k z until u x =
        let a = grow_cost p tree c lc d k z until u x (tree.inside c d link) (tree.back c d lc link) in
        plainly ph (write_moves ph wr) (side p d c) x (clp_after (hub_of p c) d (message.Grow k z until u) x)
        (omega (arith, a))

    move_falls : (ph : Phase) → MoveAt ph → (f : Process) (v : ℕ) (z : Stamp) (r : Parts) → RecAt p s over v r
        → (x : ClpState) → Recs p tree c lc s over x
        → ((y : Registered) → In y x.queries → (y.stamp ≡ s) × over y.num y.class y.window)
        → Falls ph f (message.Move v z r) x
    move_falls ph l f v z r a x h hq =
        let y : ClpState = installed (hub_of p c) (number p f) v (settled r) x in
        let b = silent_joins p tree c lc s over v x.queries hq y here in
        let n = b.none in
        let q = ap (regs_weight p c) b.regs in
        plainly ph l 1 x (queries_watch (hub_of p c) v x.queries y) (omega (arith, n, q))
      where
        here : Recs p tree c lc s over (installed (hub_of p c) (number p f) v (settled r) x)
        here w y e = elim (cases_eq w v) [
          | inr ne ↦ h w y (sym (get_or-set_other x.records v w (Some (settled r)) None ne) ∙ e)
          | inl g ↦ (let e' : rec_at (set x.records v (Some (settled r))) v ≡ Some y =
              ap (rec_at (set x.records v (Some (settled r)))) (sym g) ∙ e in
              let lt : v < length x.records = (let b = in_range (set x.records v (Some (settled r))) v y e' in
              let n = length-set x.records v (Some (settled r)) in omega (arith, b, n)) in
              subst (λ k. RecAt p s over k y) (sym g) (subst (RecAt p s over v) (some_rec (settled r) y
              (sym (get_or-set_same x.records v (Some (settled r)) None lt) ∙ e'))
              (subst (RecAt p s over v) (sym (settled-same r a.solid)) a)))
        ]

-- a delivery at a communication process of the lowest run
pub clp_falls : (p : Plan) (tree : TreeOk p) → OfRange p → (c : ℕ) (s : Stamp) (over : Num → ℕ → Window → Type 0)
    (ph : Phase) (f : Process) (m : Message) (x : ClpState) → c < clps_of p → LinkOk p (AtClp c) f → (n : ℕ)
    → ForClp n f m → NamesAgent p m → MailAt p s over ph (AtClp c) f m → ClpAt p s over ph x
    → x.routing.ports ≡ ports p c → ((v e : ℕ) → way_of v x ≡ way.Port e → In e (ports p c)) → Onwards f m x
    → suc (left_of p c ph (clp_after (hub_of p c) (number p f) m x))
    ≤ weight p (AtClp c) f m + regs_weight p c x.queries + hits_left p ph x
clp_falls p tree rg c s over ph f (message.Wake k z) x lc link n fit na m h ps lead on = absurd fit
clp_falls p tree rg c s over ph f (message.Cut k z v) x lc link n fit na m h ps lead on = absurd m
clp_falls p tree rg c s over ph f (message.Give g) x lc link n fit na m h ps lead on =
    give_falls p tree c lc s over ph f g na x
clp_falls p tree rg c s over ph f (message.Finish k z) x lc link n fit na m h ps lead on =
    finish_falls p tree c lc s over ph f k z x
clp_falls p tree rg c s over ph f (message.Put k z v g) x lc link n fit na m h ps lead on =
    put_falls p tree c lc s over ph m.1 f link k z v g m.0 x h.records ps lead on
clp_falls p tree rg c s over ph f (message.Grow k z until u) x lc link n fit na m h ps lead on =
    grow_falls p tree c lc s over ph m.1 f fit link k z until u x
clp_falls p tree rg c s over ph f (message.Move v z r) x lc link n fit na m h ps lead on =
    move_falls p tree c lc s over ph m.1 f v z r m.2 x h.records
    (λ y i. (h.stamps y i, (reg_late p over ph y m.1 (h.regs y i)).0))
clp_falls p tree rg c s over Idle f (message.Ask k z (query.One v)) x lc link n fit na m h ps lead on = absurd m.1
clp_falls p tree rg c s over (Range i j w) f (message.Ask k z (query.One v)) x lc link n fit na m h ps lead on =
    absurd m.1
clp_falls p tree rg c s over (Single i j) f (message.Ask k z (query.One v)) x lc link n fit na m h ps lead on =
    one_falls p tree c lc s over (Single i j) tt f link k z v m.0 na x h.records ps lead on
clp_falls p tree rg c s over Idle f (message.Ask k z (query.Class j u)) x lc link n fit na m h ps lead on =
    over_falls p tree c lc s over Idle tt rg f link k z j u m.0 m.1.0 x h.records
clp_falls p tree rg c s over (Single i v) f (message.Ask k z (query.Class j u)) x lc link n fit na m h ps lead on =
    over_falls p tree c lc s over (Single i v) tt rg f link k z j u m.0 m.1.0 x h.records
clp_falls p tree rg c s over (Range i t w) f (message.Ask k z (query.Class j u)) x lc link n fit na m h ps lead on =
    open_falls p tree c lc s over f link k z j u i t w m.0 m.1.0 na x h.records

pub all_deliveries : (p : Plan) → IsValid p → DeliveriesCost p
all_deliveries p valid c s os ph f m x a =
    clp_falls p (tree_of p valid) (first_whole p (plan_fits p valid)).full.sim.shape.of_range c s (is_over os) ph f m x
    a.inside (linked f a.neighbour) (vars_of p) a.fits a.names a.letter a.state a.ports_are a.leads a.onwards
  where
    linked : (f : Process) → Neighbour p c f → LinkOk p (AtClp c) f
    linked (AtClp d) n = n
    linked (AtAgent b) n = n
