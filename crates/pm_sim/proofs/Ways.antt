-- The ways of a CLP always lead over its tree ports: they are set where a variable leaves for a port, and where it
-- comes.
use Rattle.pm_queries.specs.declared.registered.Registered.{Registered}
use Rattle.pm_queries.specs.Queries.{has_reg, without}
use Rattle.std.proofs.Common.{Bool, List, None, Option, Some, [], ap, arith, false, get_or, get_or-set_other, get_or-set_same, inl, inr, length, length-set, refl, set, subst, suc, sym, true, zero, ℕ, ◌==◌, ◌∙◌, ◌∷◌, ◌≡◌}
use Rattle.std.proofs.lemmas.Bool.{cases_eq, cases_lt, cond_both}
use Rattle.pm_base.specs.Layouts.{class_of, class_row}
use Rattle.pm_base.specs.Windows.{point_of, whole}
use Rattle.pm_base.specs.declared.layout.ClassRow.{ClassRow}
use Rattle.pm_base.specs.declared.rows.CutRow.{CutRow}
use Rattle.pm_base.specs.declared.rows.Parts.{Parts}
use Rattle.pm_base.specs.declared.rows.PutRow.{PutRow}
use Rattle.pm_base.specs.declared.stamp.Interval.{Interval}
use Rattle.pm_base.specs.declared.stamp.Num.{Num}
use Rattle.pm_base.specs.declared.stamp.Stamp.{Stamp}
use Rattle.pm_base.specs.declared.value.Period.{Period}
use Rattle.pm_base.specs.declared.value.Window.{Window}
use Rattle.pm_message.specs.declared.Message.{Message}
use Rattle.pm_periods.specs.Periods.{periods_from}
use Rattle.pm_periods.specs.Records.{cut_row, settled}
use Rattle.pm_ranges.specs.Known.{covers}
use Rattle.pm_routes.specs.Routings.{Routing, arrived, counted, is_drawn, left}
use Rattle.pm_routes.specs.declared.way.Way.{Way}
use Rattle.pm_tables.specs.Tables.{grow_at, known_at}
use Rattle.pm_clp.specs.Clps.{Answered, ClpSends, ClpState, Hub, and_then, at_record, clp_after, counting, installed, leaves, no_clp_sends, on_record, on_way, queries_watch, rec_at, registered, take_cut, take_put, take_watch, tell, tell_from, tell_periods, tell_record, telling, watch_all, watch_if, way_of, with_count}
use Rattle.pm_sim.proofs.Lines.{get_past}
use Rattle.pm_sim.proofs.Movings.{drawn_port}
use Rattle.pm_sim.specs.Sims.{In}
use Rattle.pm_message.specs.declared.Message.TheVariants as message
use Rattle.pm_base.specs.declared.value.Query.TheVariants as query
use Rattle.pm_routes.specs.declared.way.Way.TheVariants as way

-- the routing is over these ports, and each way is Here or one of them
pub record WaysIn (ports : List ℕ) (r : Routing) : Type 0 where
  pub ports_are : r.ports ≡ ports
  pub leads : (v d : ℕ) → get_or r.ways v way.Here ≡ way.Port d → In d ports

-- a way is set
set_leads : (ports : List ℕ) (ways : List Way) (v : ℕ) (y : Way)
    → ((d : ℕ) → y ≡ way.Port d → In d ports) → ((u d : ℕ) → get_or ways u way.Here ≡ way.Port d → In d ports)
    → (u d : ℕ) → get_or (set ways v y) u way.Here ≡ way.Port d → In d ports
set_leads ports ways v y h g u d e = elim (cases_eq u v) [
  | inr ne ↦ g u d (sym (get_or-set_other ways v u y way.Here ne) ∙ e)
  | inl f ↦ elim (cases_lt v (length ways)) [
    | inl lt ↦
        h d (sym (get_or-set_same ways v y way.Here lt) ∙ (ap (λ z. get_or (set ways v y) z way.Here) (sym f) ∙ e))
    | inr ge ↦ absurd (let k =
        get_past (set ways v y) u way.Here (omega (arith, ge, f, length-set ways v y)) in here_port d (sym k ∙ e))
  ]
]
  where
    here_port : (d : ℕ) → way.Here ≡ way.Port d → ⊥
    here_port d e = cc

left_ways : (ports : List ℕ) (r : Routing) (v d : ℕ) → In d ports → WaysIn ports r → WaysIn ports (left r v d)
left_ways ports r v d i g = record {
  ports_are = g.ports_are;
  leads =
      set_leads ports r.ways v (way.Port d) (λ e f. subst (λ x. In x ports) (port_same d e f) i) g.leads;
}
  where
    port_same : (x y : ℕ) → way.Port x ≡ way.Port y → x ≡ y
    port_same x y f = cc

arrived_ways : (ports : List ℕ) (r : Routing) (v : ℕ) → WaysIn ports r → WaysIn ports (arrived r v)
arrived_ways ports r v g = record {
  ports_are =
      g.ports_are;
  leads = set_leads ports r.ways v way.Here (λ d e. absurd (here_port d e)) g.leads;
}
  where
    here_port : (d : ℕ) → way.Here ≡ way.Port d → ⊥
    here_port d e = cc

module _ (h : Hub) where
  record_routing : (v : ℕ) (f : Parts → Answered) (s : ClpState) → (at_record h v f s).clp.routing ≡ s.routing
  record_routing v f s = go (rec_at s.records v)
    where
      go : (o : Option Parts) → (on_record h v f o s).clp.routing ≡ s.routing
      go None = refl
      go (Some r) = refl

  tell_routing : (k : ℕ) (from : Stamp) (until : Option Stamp) (w : Window) (ds : List ℕ) (s : ClpState)
      → (tell h k from until w ds s).clp.routing ≡ s.routing
  tell_routing k from until w [] s = refl
  tell_routing k from until w (d ∷ ds) s =
      let when : Interval = record { from = Some from; until = until } in
      let told : ClpSends = record {
        clp = record s { told = grow_at h.ports d k when w s.told };
        sent =
            record { to = d; message = message.Grow k from until w } ∷ [];
      } in
      tell_routing k from until w ds _ ∙ cond_both (covers (known_at h.ports d k s.told) when w)
      (no_clp_sends s) told (λ (r : ClpSends). r.clp.routing ≡ s.routing) (λ _. refl) (λ _. refl)

  periods_routing : (k : ℕ) (rs : List Period) (s : ClpState) → (tell_periods h k rs s).clp.routing ≡ s.routing
  periods_routing k [] s = refl
  periods_routing k (r ∷ rs) s = periods_routing k rs _ ∙ go r.when.from
    where
      go : (o : Option Stamp) → (tell_from h k o r s).clp.routing ≡ s.routing
      go None = refl
      go (Some from) = tell_routing k from r.when.until (point_of r.value) h.ports s

  telling_routing : (v : ℕ) (from : Stamp) (s : ClpState) → (telling h v from s).clp.routing ≡ s.routing
  telling_routing v from s = go (rec_at s.records v)
    where
      go : (o : Option Parts) → (tell_record h v from o s).clp.routing ≡ s.routing
      go None = refl
      go (Some r) = periods_routing (class_of h.classes v) (periods_from r (Some from)) s

  watch_routing : (k : Num) (z : Stamp) (w : Window) (i m : ℕ) (s : ClpState)
      → (watch_all h k z w i m s).clp.routing ≡ s.routing
  watch_routing k z w i zero s = refl
  watch_routing k z w i (suc m) s =
      watch_routing k z w (suc i) m (at_record h i (take_watch i k z w) s).clp ∙ record_routing i (take_watch i k z w) s

  joins_routing : (v : ℕ) (rs : List Registered) (s : ClpState) → (queries_watch h v rs s).clp.routing ≡ s.routing
  joins_routing v [] s = refl
  joins_routing v (r ∷ rs) s =
      joins_routing v rs (watch_if h (class_of h.classes v == r.class) v r s).clp ∙ go (class_of h.classes v == r.class)
    where
      go : (b : Bool) → (watch_if h b v r s).clp.routing ≡ s.routing
      go false = refl
      go true = record_routing v (take_watch v r.num r.stamp r.window) s

  abbrev pub Good : ClpState → Type 0
  Good s = WaysIn h.ports s.routing

  same : (r r' : Routing) → r' ≡ r → WaysIn h.ports r → WaysIn h.ports r'
  same r r' e g = subst (WaysIn h.ports) (sym e) g

  counting_ways : (v from : ℕ) (s : ClpState) → Good s → Good (counting h v from s).clp
  counting_ways v from s g = go (is_drawn (counted s.routing v from) v from) refl (rec_at s.records v)
    where
      more : WaysIn h.ports (counted s.routing v from)
      more = record { ports_are = g.ports_are; leads = g.leads }

      go : (b : Bool) → is_drawn (counted s.routing v from) v from ≡ b
          → (o : Option Parts) → Good (leaves h b v from o (with_count h v from s)).clp
      go false e o = more
      go true e None = more
      go true e (Some r) = left_ways h.ports (counted s.routing v from)
          v from (subst (In from) g.ports_are (drawn_port (counted s.routing v from) v from e)) more

  way_ways : (y : Way) (m : Message) (s : ClpState) (f : ClpState → ClpSends)
      → Good s → Good (f s).clp → Good (on_way h y m s f).clp
  way_ways way.Here m s f g k = k
  way_ways (way.Port d) m s f g k = g

  pub clp_ways : (from : ℕ) (m : Message) (s : ClpState) → Good s → Good (clp_after h from m s).clp
  clp_ways from (message.Wake k z) s g = g
  clp_ways from (message.Give y) s g = g
  clp_ways from (message.Finish k z) s g = g
  clp_ways from (message.Put r_n r_t v r_c) s g =
      let r : PutRow = record { num = r_n; stamp = r_t; change = r_c } in
      let a : ClpState = (at_record h v (take_put v r) s).clp in
      way_ways (way_of v s) (message.Put r_n r_t v r_c) s _ g (counting_ways v from
      (telling h v r_t a).clp (same s.routing _ (telling_routing v r_t a ∙ record_routing v (take_put v r) s) g))
  clp_ways from (message.Cut r_n r_t v) s g =
      let r : CutRow = cut_row r_n r_t in
      let a : ClpState = (at_record h v (take_cut v r) s).clp in
      way_ways (way_of v s) (message.Cut r_n r_t v)
      s _ g (same s.routing _ (telling_routing v r_t a ∙ record_routing v (take_cut v r) s) g)
  clp_ways from (message.Ask k z (query.One v)) s g =
      way_ways (way_of v s) (message.Ask k z (query.One v)) s _ g (counting_ways v from
      (at_record h v (take_watch v k z whole) s).clp (same s.routing _ (record_routing v (take_watch v k z whole) s) g))
  clp_ways from (message.Ask k z (query.Class j w)) s g =
      let row : ClassRow = class_row h.classes j in
      cond_both (has_reg k s.queries) (no_clp_sends s) (and_then
      (watch_all h k z w row.first row.count s) (registered h from k z j w)) (λ (r : ClpSends). Good r.clp) (λ _. g)
      (λ _. same s.routing _ (watch_routing k z w row.first row.count s) g)
  clp_ways from (message.Move v z r) s g = same (arrived s.routing v)
      _ (joins_routing v s.queries (installed h from v (settled r) s)) (arrived_ways h.ports s.routing v g)
  clp_ways from (message.Grow j z u w) s g = same s.routing _ (tell_routing j z u w (without from h.ports) _) g
