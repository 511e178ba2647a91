-- What is kept of bounds and of registered queries where a record leaves a CLP and where it comes to one, from what is
-- known of places.
use Rattle.pm_queries.specs.Queries.{ask_of, has_reg}
use Rattle.pm_queries.specs.declared.registered.Registered.{Registered}
use Rattle.pm_queries.specs.declared.registered.Sent.{Sent}
use Rattle.pm_tables.specs.Tables.{known_at, grow_periods, may_hold, TableOk}
use Rattle.pm_sim.specs.Bounds.{between, item_of, items, sent_to, BoundsOk}
use Rattle.pm_sim.specs.Bounds.Item.{Moves}
use Rattle.pm_ranges.specs.Known.{Known}
use Rattle.pm_base.specs.Windows.{inside}
use Rattle.pm_clp.specs.Clps.{catches, floor_of, watch_if, Answered, ClpState, rec_at, take_watch, to_agent, on_record, at_record, leaves, catching, leaving, with_count, counting, and_then, ClpSends, clp_after, queries_watch}
use Rattle.pm_sim.specs.Covers.{Placed, AskedOk, Door}
use Rattle.pm_sim.proofs.Leavings.{gone_to, gone_is, left_sim}
use Rattle.pm_sim.proofs.Sides.{Alike, periods_alike, side_periods, side_periods_else, eq_self, eq_not}
use Rattle.pm_sim.proofs.Changes.{rows_from, all_in, in_all}
use Rattle.pm_sim.proofs.Bounding.{bounds_leave, bounds_arrive}
use Rattle.pm_sim.proofs.Wires.{Took, took, items_taken, no_items, items_append}
use Rattle.pm_sim.proofs.Fulls.{Full, Itemless, sent_grows, item_grow, idle_full, watch_reads, set_reads, set_values, placed}
use Rattle.pm_sim.proofs.Asking.{asked_step, asked_catch}
use Rattle.pm_sim.proofs.Catches.{has_caught, late_sends, late_is}
use Rattle.pm_sim.proofs.Acts.{acts, acts_bag, acts_here, acts_there, class_low}
use Rattle.pm_periods.specs.Periods.{periods_from}
use Rattle.pm_periods.specs.Rows.{IsInOrder, put_key, add_row, read_key}
use Rattle.pm_base.specs.declared.value.Period.{Period}
use Rattle.pm_sim.proofs.Queries.{not_own_port}
use Rattle.std.specs.Prelude.{Option, ◌++◌, filter, nat_lt, nat_le, suc}
use Rattle.pm_sim.proofs.Trims.{filter_in}
use Rattle.pm_sim.proofs.Letters.{map_in, in_map, sent_mail}
use Rattle.std.proofs.Common.{ap₂, ◌≡◌, ℕ, ◌<◌, inl, inr, ◌==◌, Bool, true, false, cond, List, [], ◌∷◌, map, length, set, refl, ap, sym, ◌∙◌, subst, Some, None, get_or-set_other, get_or-set_same, length-set, arith, ◌&&◌}
use Rattle.pm_sim.specs.Worlds.{posted, ports, hub_of, number, Mail, Posted, Process, Taken, World, mail, take_from, clps_of}
use Rattle.std.proofs.lemmas.Bool.{cases_eq, cases_Bool, and_parts}
use Rattle.pm_base.specs.declared.rows.GiveRow.{GiveRow}
use Rattle.pm_base.specs.declared.rows.Parts.{Parts}
use Rattle.pm_base.specs.declared.rows.ReadRow.{ReadRow}
use Rattle.pm_base.specs.declared.stamp.Num.{Num}
use Rattle.pm_base.specs.declared.stamp.Stamp.{Stamp}
use Rattle.pm_base.specs.declared.value.Window.{Window}
use Rattle.pm_message.specs.declared.Message.{Message}
use Rattle.pm_model.specs.declared.State.{State}
use Rattle.pm_periods.specs.Records.{record_value, settled, first_read, with_read}
use Rattle.pm_plan.specs.declared.plan.Plan.{Plan}
use Rattle.pm_sim.specs.Worlds.Process.{AtClp}
use Rattle.pm_sim.specs.Sims.{In, NotPast, class_at, has_read}
use Rattle.pm_sim.specs.Routings.{mail_to, stands_at}
use Rattle.pm_sim.proofs.Lists.{in_cases}
use Rattle.pm_sim.proofs.Places.{clp_at, Sim, in_range, HubSends, set_rec, set_here, landed, bag, mail_in, clp_here, clp_there, lift, lift_then, hub_then, hub_idle}
use Rattle.pm_sim.proofs.Stamps.{num_eq_self}
use Rattle.pm_sim.proofs.Tellings.{given_has, add_read_has}
use Rattle.pm_sim.proofs.Watches.{watch_value}
use Rattle.pm_routes.specs.Routings.{Routing, arrived, counted, place_of, is_drawn, count_at, others_at}
use Rattle.pm_sim.proofs.Takes.{refreshed_answer}
use Rattle.std.proofs.lemmas.Bool.Decides.{nat_tests}
use Rattle.pm_message.specs.declared.Message.TheVariants as message

pub record MoveKept (p : Plan) (q : State) (w : World) (recs : ℕ → Parts) : Type 0 where
  pub asked : AskedOk p (length q.values) recs (clp_at w) (mail w.links)
  pub bounds : BoundsOk p w.line recs (clp_at w) w.links

-- a port at a place that is none of the list's end is one of the list
place_in : (ds : List ℕ) (f : ℕ) → place_of ds f < length ds → In f ds
place_in [] f lt = absurd (omega arith)
place_in (d ∷ ds) f lt = elim (cases_Bool (d == f)) [
  | inl e ↦ inl (let g : d ≡ f = grind (arith, nat_tests, e) in sym g)
  | inr e ↦ inr (place_in ds f (let h : cond (d == f) 0 (suc (place_of ds f)) ≡ suc (place_of ds f) =
      ap (λ b. cond b 0 (suc (place_of ds f))) e in omega (arith, lt, h)))
]

-- a count draws a record to a port only
pub drawn_port : (r : Routing) (v f : ℕ) → is_drawn r v f ≡ true → In f r.ports
drawn_port r v f e = (let a = and_parts (nat_lt (place_of r.ports f) (length r.ports))
    (nat_lt 0 r.move_after && (nat_le r.move_after (count_at r v f) && nat_lt (others_at r v f) (count_at r v f))) e in
    place_in r.ports f (grind (arith, nat_tests, a)))

-- each of these queries has watched the record of v at c; y0 has become y
pub record Watches (p : Plan) (c v : ℕ) (s0 : ClpState) (y0 : Parts) (rs : List Registered) (r : ClpSends) :
    Type 0 where
  pub y : Parts
  pub at : rec_at r.clp.records v ≡ Some y
  pub other : (u : ℕ) → (u ≡ v → ⊥) → rec_at r.clp.records u ≡ rec_at s0.records u
  pub len : length r.clp.records ≡ length s0.records
  pub told : r.clp.told ≡ s0.told
  pub bound : r.clp.bound ≡ s0.bound
  pub queries : r.clp.queries ≡ s0.queries
  pub line : r.clp.line ≡ s0.line
  pub routing : r.clp.routing ≡ s0.routing
  pub values : (z : Stamp) → record_value y z ≡ record_value y0 z
  pub keeps : (m : Num) → has_read m y0.reads ≡ true → has_read m y.reads ≡ true
  pub reads : (x : Registered) → In x rs → class_at p v ≡ x.class → has_read x.num y.reads ≡ true
  pub gives : (x : Sent) → In x r.sent → (g : GiveRow) × (x ≡ to_agent (hub_of p c) g)

watch_new : (v : ℕ) (n : Num) (z : Stamp) (u : Window) (r : Parts) → has_read n (take_watch v n z u r).rec.reads ≡ true
watch_new v n z u r =
    let row : ReadRow = first_read n z u in
    elim (cases_Bool (has_read n r.reads)) [
      | inl e ↦ watch_reads v n z u r n e
      | inr e ↦ (let is : take_watch v n z u r ≡ refreshed_answer v (with_read row r) = rw e refl in
          ap (λ (x : Answered). has_read n x.rec.reads) is ∙ (given_has (with_read row r)
          n (add_row read_key row r.reads) ∙ (add_read_has row r.reads n ∙ (let g = num_eq_self n in rw g))))
    ]

pub watch_queries : (p : Plan) (c v : ℕ) (rs : List Registered) (s0 : ClpState) (y0 : Parts)
    → rec_at s0.records v ≡ Some y0 → Watches p c v s0 y0 rs (queries_watch (hub_of p c) v rs s0)
watch_queries p c v [] s0 y0 e =
    record {
      y = y0;
      at = e;
      other = λ u n. refl;
      len = refl;
      told = refl;
      bound = refl;
      queries = refl;
      line = refl;
      routing = refl;
      values = λ z. refl;
      keeps = λ m h. h;
      reads = λ x i. absurd i;
      gives = λ x i. absurd i;
    }
watch_queries p c v (r ∷ rs) s0 y0 e = elim (cases_Bool (class_at p v == r.class)) [
  | inr f ↦ (let again = watch_queries p c v rs s0 y0 e in
      subst (λ b. Watches p c v s0
      y0 (r ∷ rs) (and_then (watch_if (hub_of p c) b v r s0) (queries_watch (hub_of p c) v rs))) (sym f) (record {
        y = again.y;
        at = again.at;
        other = again.other;
        len = again.len;
        told = again.told;
        bound = again.bound;
        queries = again.queries;
        line = again.line;
        routing = again.routing;
        values = again.values;
        keeps = again.keeps;
        reads = λ x i ek. elim i [
          | inl g ↦ absurd (let h : (class_at p v == r.class) ≡ true = subst (λ z. (class_at p v == z) ≡ true)
              (ek ∙ ap (λ (z : Registered). z.class) g) (eq_self (class_at p v)) in cc)
          | inr j ↦ again.reads x j ek
        ];
        gives = again.gives;
      }))
  | inl f ↦ (let a : Answered = take_watch v r.num r.stamp r.window y0 in
      let r1 : ClpSends = on_record (hub_of p c) v (take_watch v r.num r.stamp r.window) (Some y0) s0 in
      let now : rec_at r1.clp.records v ≡ Some a.rec =
      get_or-set_same s0.records v (Some a.rec) None (in_range s0.records v y0 e) in
      let again = watch_queries p c v rs r1.clp a.rec now in
      let is : at_record (hub_of p c) v (take_watch v r.num r.stamp r.window) s0 ≡ r1 =
      ap (λ o. on_record (hub_of p c) v (take_watch v r.num r.stamp r.window) o s0) e in
      subst (λ b. Watches
      p c v s0 y0 (r ∷ rs) (and_then (watch_if (hub_of p c) b v r s0) (queries_watch (hub_of p c) v rs))) (sym f)
      (subst (λ z. Watches p c v s0 y0 (r ∷ rs) (and_then z (queries_watch (hub_of p c) v rs))) (sym is) (record {
        y = again.y;
        at = again.at;
        other = λ u n. again.other u n ∙ get_or-set_other s0.records v u (Some a.rec) None n;
        len = again.len ∙ length-set s0.records v (Some a.rec);
        told = again.told;
        bound = again.bound;
        queries = again.queries;
        line = again.line;
        routing = again.routing;
        values = λ z. again.values z ∙ watch_value v r.num r.stamp r.window y0 z;
        keeps = λ m h. again.keeps m (watch_reads v r.num r.stamp r.window y0 m h);
        reads = λ x i ek. elim i [
          | inl g ↦ subst (λ (z : Registered). has_read z.num again.y.reads ≡ true)
              (sym g) (again.keeps r.num (watch_new v r.num r.stamp r.window y0))
          | inr j ↦ again.reads x j ek
        ];
        gives = λ x i.
            elim (in_cases (map (to_agent (hub_of p c)) a.gives) (queries_watch (hub_of p c) v rs r1.clp).sent x i) [
              | inl j ↦ (let o = in_map (to_agent (hub_of p c)) a.gives x j in (o.0, o.2))
              | inr j ↦ again.gives x j
            ];
      })))
]

module _ (p : Plan) (q : State) (w : World) (recs : ℕ → Parts) (sim : Sim p q w recs) (asked :
    AskedOk p (length q.values) recs (clp_at w) (mail w.links)) (bounds : BoundsOk p w.line recs (clp_at w) w.links)
    (pl : Placed p recs (clp_at w) (mail w.links)) (c : ℕ) (lc : c < clps_of p) where
  abbrev s : ClpState
  s = clp_at w c

  -- a record leaves, and the queries catch up behind it
  abbrev pub left : ℕ → ℕ → Parts → List (List ℕ) → HubSends
  left v d y cs = hub_then
      (gone_to p c v d y (record s { routing = record s.routing { counts = cs } })) (late_sends p c d (class_at p v))

  pub leave_kept : (v d : ℕ) (y : Parts) (cs : List (List ℕ))
      → In d (ports p c) → rec_at s.records v ≡ Some y → MoveKept p q (acts w c (left v d y cs)) recs
  leave_kept v d y cs port at = record {
    asked = asked_catch
        p (length q.values) c lc (clp_at w) (clp_at w') (mail w.links) (mail w'.links) [] (sent_mail (AtClp c) r.sent)
        recs recs (acts_there p q w recs sim c lc r) (acts_bag p q w recs sim c lc r) asked (λ u n h. h)
        (sent_grows p c lc r.sent (λ x i k z u b g. absurd (not_grow x i k z u b g))) (λ e f n z k u i. absurd i)
        (λ n h. ap (λ (z : ClpState). has_reg n z.queries) here ∙ (has_caught p c b' d k n s.queries ∙ h))
        (λ x i. sim.tree.inside c x i) d k b' (ap (λ (z : ClpState). z.queries) here) (ap (λ (z : ClpState). z.bound)
        here) (λ e j n. side_periods_else (ports p c) K e j d k ps s.bound port lk okb n)
        (λ x i h. (acts_bag p q w recs sim c lc r).added _ (map_in
        (λ (z : Posted). mail_to z.to (AtClp c) z.message) r.sent (record { to = AtClp d; message = ask_of x })
        (inr (map_in late (filter (λ z. catches (hub_of p c) b' d k z) s.queries)
        x (filter_in (λ z. catches (hub_of p c) b' d k z) s.queries x i h)))))
        (λ u z h. elim (cases_eq u v) [
          | inl e ↦ absurd (let f : rec_at (set s.records v None) u ≡ Some z = ap (λ (x : ClpState). rec_at x.records u)
              (sym here) ∙ h in let g : None ≡ Some z = sym (ap (rec_at (set s.records v None)) e ∙ gone) ∙ f in cc)
          | inr n ↦ (
            z,
            sym (get_or-set_other s.records v u None None n)
                ∙ (ap (λ (x : ClpState). rec_at x.records u) (sym here) ∙ h),
          )
        ]);
    bounds = bounds_leave p sim.tree w.line c lc (clp_at w) (clp_at w') w.links w.links
        recs recs r.sent (acts_there p q w recs sim c lc r) bounds v d (rows_from y None) (λ j a b. refl) (lc, port)
        (items_append p k d (move ∷ []) lates
        ∙ ap₂ (λ x z. x ++ z) mine (no_items p k d lates (λ x i. lates_itemless x i k)))
        (λ e j n. items_append p j e (move ∷ []) lates
        ∙ ap₂ (λ x z. x ++ z) (other e j n) (no_items p j e lates (λ x i. lates_itemless x i j)))
        (ap (λ (z : ClpState). z.told) here) (ap (λ (z : ClpState). known_at (ports p c) d k z.bound) here
        ∙ side_periods (ports p c) K d k ps s.bound port lk okb) (λ e j n. ap (λ (z : ClpState).
        known_at (ports p c) e j z.bound) here ∙ side_periods_else (ports p c) K e j d k ps s.bound port lk okb n)
        (subst (λ z. Alike (ports p c) K s.bound z)
        (sym (ap (λ (z : ClpState). z.bound) here)) (periods_alike (ports p c) K d k ps s.bound port lk okb))
        (ap stands_at at) (ap (λ (z : ClpState). stands_at (rec_at z.records v)) here ∙ ap stands_at gone)
        (λ u n. ap (λ (z : ClpState). stands_at (rec_at z.records u)) here
        ∙ ap stands_at (get_or-set_other s.records v u None None n)) (λ u z. refl)
        (λ z np u f. subst (λ (x : Parts). inside (record_value x z) u ≡ true) same (all_in y z u rising f))
        (λ z np u i. in_all y z u rising (subst (λ (x : Parts). inside (record_value x z) u ≡ true) (sym same) i));
  }
    where
      k : ℕ
      k = class_at p v

      r : HubSends
      r = left v d y cs

      w' : World
      w' = acts w c r

      K : ℕ
      K = length p.layout.classes

      lv : v < length q.values
      lv = (let x = in_range s.records v y at in let z = sim.places.records_len c lc in omega arith)

      lk : class_at p v < length p.layout.classes
      lk = class_low p (length q.values) sim.shape v lv

      okb : TableOk (length (ports p c)) K s.bound
      okb = bounds.bound_table c lc

      ps : List Period
      ps = periods_from y None

      b' : List (List Known)
      b' = grow_periods (ports p c) d k ps s.bound

      here : clp_at w' c ≡ r.clp
      here = acts_here p q w recs sim c lc r

      gone : rec_at (set s.records v None) v ≡ None
      gone = get_or-set_same s.records v None None (in_range s.records v y at)

      same : y ≡ recs v
      same = pl.here v c y at

      rising : IsInOrder put_key y.puts
      rising = subst (λ (z : Parts). IsInOrder put_key z.puts) (sym same) (sim.core.rec v).solid.puts

      move : Posted
      move = record { to = AtClp d; message = message.Move v (floor_of s.line) y }

      late : Registered → Posted
      late x = record { to = AtClp d; message = ask_of x }

      lates : List Posted
      lates = map late (filter (λ x. catches (hub_of p c) b' d k x) s.queries)

      lates_itemless : (x : Posted) → In x lates → Itemless p x.message
      lates_itemless x i j = (let o = in_map late (filter (λ z. catches (hub_of p c) b' d k z) s.queries) x i in
          ap (λ (z : Posted). item_of p j z.message) o.2)

      not_grow : (x : Posted)
          → In x r.sent → (j : ℕ) (z : Stamp) (u : Option Stamp) (b : Window) → x.message ≡ message.Grow j z u b → ⊥
      not_grow x (inl e) j z u b g = (let f : message.Move v (floor_of s.line) y ≡ message.Grow j z u b =
          ap (λ (h : Posted). h.message) (sym e) ∙ g in cc)
      not_grow x (inr i) j z u b g = item_grow p j z u b x.message g (lates_itemless x i)

      mine : items p k (sent_to d (move ∷ [])) ≡ Moves v ∷ []
      mine = (let a = eq_self d in let b = eq_self (class_at p v) in rw a (rw b))

      other : (e j : ℕ) → (e ≡ d → j ≡ k → ⊥) → items p j (sent_to e (move ∷ [])) ≡ []
      other e j n = elim (cases_eq e d) [
        | inr m ↦ (let a : (d == e) ≡ false = eq_not d e (λ h. m (sym h)) in rw a)
        | inl f ↦ (let a : (d == e) ≡ true = subst (λ z. (d == z) ≡ true) (sym f) (eq_self d) in
            let b : (class_at p v == j) ≡ false = eq_not (class_at p v) j (λ h. n f (sym h)) in rw a (rw b))
      ]

  -- a Move comes
  module _ (from : Process) (v : ℕ) (z : Stamp) (r0 : Parts) (t : Taken) (e : take_from (AtClp c) from w.links ≡ Some t)
      (em : t.message ≡ message.Move v z r0) (size : v < length s.records) where
    abbrev m : Message
    m = message.Move v z r0

    -- the CLP with the record, before its queries watch it
    abbrev pub come : ClpState
    come = record s {
      records = set s.records v (Some (settled r0));
      routing = arrived s.routing v;
      told = grow_periods (ports p c) (number p from) (class_at p v) (periods_from (settled r0) None) s.told;
    }

    pub watched : Watches p c v come (settled r0) s.queries (clp_after (hub_of p c) (number p from) m s)
    watched =
        watch_queries p c v s.queries come (settled r0) (get_or-set_same s.records v (Some (settled r0)) None size)

    pub move_kept : MoveKept p q (landed p q
        w recs sim c lc from m t e em (lift p (clp_after (hub_of p c) (number p from) m s))) (set_rec recs v watched.y)
    unfolding watched
    move_kept = record {
      asked = asked_step p (length q.values) c lc (clp_at w)
          (clp_at w') (mail w.links) (mail w'.links) (mail_to (AtClp c) from m ∷ []) (sent_mail (AtClp c) r.sent) recs
          recs' (clp_there p q w recs sim c lc from m t e em r) (bag p q w recs sim c lc from m t e em r) asked reads_up
          (sent_grows p c lc r.sent (λ x i k y u b g. absurd (item_grow p k y u b x.message g (itemless x i))))
          (λ d f n y k u i. absurd (elim i [ inl g ↦ (let a = ap (λ (x : Mail). x.message) g in cc) | inr b ↦ b ]))
          (λ n h. ap (λ (x : ClpState). has_reg n x.queries) here ∙ (ap (has_reg n) wt.queries ∙ h))
          (λ d x i j. inl (x, subst (In x) here_q i, refl, j))
          (λ u x y lu i ec er. elim (cases_eq u v) [
            | inl f ↦ subst (λ k. has_read x.num (recs' k).reads ≡ true)
                (sym f) (subst (λ (k : Parts). has_read x.num k.reads ≡ true)
                (sym (set_here recs v wt.y)) (wt.reads x (subst (In x) here_q i) (ap (class_at p) (sym f) ∙ ec)))
            | inr n ↦ reads_up u x.num (asked.watched c u x y lc lu (subst (In x) here_q i)
                ec (sym (else_same u n) ∙ (ap (λ (k : ClpState). rec_at k.records u) (sym here) ∙ er)))
          ])
          (λ d x i port nf h. ap (λ b. may_hold (ports p c) b d x.class x.stamp x.window) (ap
          (λ (k : ClpState). k.bound) here ∙ wt.bound) ∙ asked.pruned c d x lc (subst (In x) here_q i) port nf h);
      bounds = bounds_arrive p sim.tree w.line c lc (clp_at w) (clp_at w') w.links t.links recs
          recs' r.sent (clp_there p q w recs sim c lc from m t e em r) bounds v y (rows_from (settled r0) None) m yc
          (tk.head ∙ ap (λ x. x ∷ between (AtClp c) (AtClp y) t.links) em)
          tk.others item (λ k n. items_taken p k (AtClp c) from w.links t e (ap (item_of p k) em ∙ off k n))
          (lc, sim.tree.back y c edge.0 edge.1) edge (λ f k. no_items p k f r.sent (λ x i. itemless x i k))
          (told_is y (class_at p v)
          ∙ side_periods (ports p c) K y (class_at p v) (periods_from (settled r0) None) s.told py lk okt)
          (λ f k n. told_is f k ∙ side_periods_else
          (ports p c) K f k y (class_at p v) (periods_from (settled r0) None) s.told py lk okt n)
          (ap (λ (x : ClpState). x.bound) here ∙ wt.bound)
          (subst (λ z. Alike (ports p c) K s.told z) (sym told_eq)
          (periods_alike (ports p c) K y (class_at p v) (periods_from (settled r0) None) s.told py lk okt))
          (λ u n. ap (λ (x : ClpState). stands_at (rec_at x.records u)) here ∙ ap stands_at (else_same u n))
          (set_values recs v wt.y (λ x. wt.values x ∙ ap (λ (k : Parts). record_value k x) same))
          (λ x np u f. subst
          (λ (k : Parts). inside (record_value k x) u ≡ true) same (all_in (settled r0) x u rising f)) (λ x np u i.
          in_all (settled r0) x u rising (subst (λ (k : Parts). inside (record_value k x) u ≡ true) (sym same) i));
    }
      where
        r : HubSends
        r = lift p (clp_after (hub_of p c) (number p from) m s)

        wt : Watches p c v come (settled r0) s.queries (clp_after (hub_of p c) (number p from) m s)
        wt = watch_queries p c v s.queries come (settled r0) (get_or-set_same s.records v (Some (settled r0)) None size)

        recs' : ℕ → Parts
        recs' = set_rec recs v wt.y

        w' : World
        w' = landed p q w recs sim c lc from m t e em r

        mail0 : In (mail_to (AtClp c) from m) (mail w.links)
        mail0 = mail_in p q w recs sim c lc from m t e em

        back : (a d : ℕ) → AtClp a ≡ AtClp d → a ≡ d
        back a d f = cc

        y : ℕ
        y = (pl.move_edge (AtClp c) from v z r0 mail0).1

        from_is : from ≡ AtClp y
        from_is = (pl.move_edge (AtClp c) from v z r0 mail0).3

        edge : Door p y c
        edge = (let o = pl.move_edge (AtClp c) from v z r0 mail0 in subst (Door p o.1) (sym (back c o.0 o.2)) o.4)

        yc : y ≡ c → ⊥
        yc f = not_own_port p w.line sim.tree c c lc lc (subst (λ x. In c (ports p x)) f edge.1)

        rising : IsInOrder put_key (settled r0).puts
        rising = subst (λ (x : Parts). IsInOrder put_key x.puts)
            (sym (pl.moving (AtClp c) from v z r0 mail0)) (sim.core.rec v).solid.puts

        tk : Took (AtClp c) (AtClp y) w.links t
        tk = subst (λ f. Took (AtClp c) f w.links t) from_is (took (AtClp c) from w.links t e)

        K : ℕ
        K = length p.layout.classes

        lk : class_at p v < length p.layout.classes
        lk = class_low p (length q.values) sim.shape v (sim.moves.moves (AtClp c) from v z r0 mail0).0

        okt : TableOk (length (ports p c)) K s.told
        okt = bounds.told_table c lc

        py : In y (ports p c)
        py = sim.tree.back y c edge.0 edge.1

        same : settled r0 ≡ recs v
        same = pl.moving (AtClp c) from v z r0 mail0

        here : clp_at w' c ≡ r.clp
        here = clp_here p q w recs sim c lc from m t e em r

        here_q : (clp_at w' c).queries ≡ s.queries
        here_q = ap (λ (x : ClpState). x.queries) here ∙ wt.queries

        else_same : (u : ℕ) → (u ≡ v → ⊥) → rec_at r.clp.records u ≡ rec_at s.records u
        else_same u n = wt.other u n ∙ get_or-set_other s.records v u (Some (settled r0)) None n

        reads_up : (u : ℕ) (n : Num) → has_read n (recs u).reads ≡ true → has_read n (recs' u).reads ≡ true
        reads_up =
            set_reads recs v wt.y (λ n h. wt.keeps n (subst (λ (x : Parts). has_read n x.reads ≡ true) (sym same) h))

        itemless : (x : Posted) → In x r.sent → Itemless p x.message
        itemless x i k = (let b = in_map (posted p) (clp_after (hub_of p c) (number p from) m s).sent x i in let g =
            wt.gives b.0 b.1 in ap (λ (h : Posted). item_of p k h.message) (b.2 ∙ ap (posted p) g.1))

        item : item_of p (class_at p v) m ≡ Moves v ∷ []
        item = (let a = eq_self (class_at p v) in rw a refl)

        off : (k : ℕ) → (k ≡ class_at p v → ⊥) → item_of p k m ≡ []
        off k n = (let a = eq_not (class_at p v) k (λ g. n (sym g)) in rw a refl)

        told_eq : (clp_at w' c).told ≡ grow_periods (ports p c) y (class_at p v) (periods_from (settled r0) None) s.told
        told_eq = ap (λ (x : ClpState). x.told) here ∙ (wt.told ∙ ap (λ x.
            grow_periods (ports p c) x (class_at p v) (periods_from (settled r0) None) s.told) (ap (number p) from_is))

        told_is : (f k : ℕ) → known_at (ports p c) f k (clp_at w' c).told ≡ known_at
            (ports p c) f k (grow_periods (ports p c) y (class_at p v) (periods_from (settled r0) None) s.told)
        told_is f k = ap (known_at (ports p c) f k) told_eq

-- Counted: nothing moves, or the record leaves
pub counted_full : (p : Plan) (q : State) (w : World) (full : Full p q w) (c : ℕ) → c < clps_of p
    → (v fn : ℕ) (x : Stamp) → NotPast w.line x → Full p q (acts w c (lift p (counting (hub_of p c) v fn (clp_at w c))))
counted_full p q w full c lc v fn x low =
    go (is_drawn (counted (clp_at w c).routing v fn) v fn) refl (rec_at (clp_at w c).records v) refl
  where
    cs : List (List ℕ)
    cs = (counted (clp_at w c).routing v fn).counts

    z : ClpState
    z = with_count (hub_of p c) v fn (clp_at w c)

    L : Bool → Option Parts → HubSends
    L b o = lift p (leaves (hub_of p c) b v fn o z)

    idle : (r : HubSends) → r ≡ hub_idle z → Full p q (acts w c r)
    idle r e = subst (λ k. Full p q (acts w c k)) (sym e) (idle_full p
        q w full.recs full.sim full.asked full.bounds c lc (hub_idle z) (record {
          line = refl;
          ways = refl;
          ports_are = refl;
          records = refl;
          queries = refl;
          bound = refl;
          grows = λ x i. absurd i;
        }) refl (λ x i. absurd i))

    go : (b : Bool)
        → is_drawn (counted (clp_at w c).routing v fn) v fn ≡ b → (y : Option Parts) → rec_at (clp_at w c).records v ≡ y
        → Full p q (acts w c (L (is_drawn (counted (clp_at w c).routing v fn) v fn) (rec_at (clp_at w c).records v)))
    go false e y f = idle _ (ap (λ b. L b (rec_at (clp_at w c).records v)) e)
    go true e None f = idle _ (ap (λ b. L b (rec_at (clp_at w c).records v)) e ∙ ap (L true) f)
    go true e (Some y) f =
        let port : In fn (ports p c) =
        subst (In fn) (full.sim.places.ports_are c lc) (drawn_port (counted (clp_at w c).routing v fn) v fn e) in
        let lf : fn < clps_of p = full.sim.tree.inside c fn port in
        let kept = leave_kept
        p q w full.recs full.sim full.asked full.bounds (placed p q w full.recs full.sim) c lc v fn y cs port f in
        let K : ClpState → HubSends = λ k. lift p (catching (hub_of p c) fn (class_at p v) k) in
        let g1 : HubSends = gone_to p c v fn y z in
        let is : L true (Some y) ≡ hub_then g1 (late_sends p c fn (class_at p v)) =
        lift_then p (leaving (hub_of p c) v fn y z) (catching (hub_of p c) fn (class_at p v))
        ∙ (ap (λ k. hub_then k K) (gone_is p c v fn y z lf) ∙ ap (λ (k : HubSends).
        record { clp = k.clp; sent = g1.sent ++ k.sent }) (late_is p c fn (class_at p v) g1.clp lf)) in
        subst
        (λ k. Full p q (acts w c k)) (sym (ap (λ b. L b (rec_at (clp_at w c).records v)) e ∙ (ap (L true) f ∙ is)))
        (record {
          recs = full.recs;
          sim = left_sim p q w full.recs full.sim c lc v fn y cs port f x low;
          asked = kept.asked;
          bounds = kept.bounds;
        })
