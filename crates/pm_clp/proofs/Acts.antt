-- What a process does with a message, from the actions that this is made of.
use Rattle.std.proofs.Common.{◌≡◌, ℕ, zero, suc, ◌<◌, ◌≤◌, Bool, true, false, ◌==◌, if◌then◌else◌, List, [], ◌∷◌}
use Rattle.std.proofs.Common.{◌++◌, map, filter, drop, length, Some, slice_get, refl, arith, ap, sym, ◌∙◌, subst}
use Rattle.std.proofs.lemmas.List.{append-nil}
use Rattle.std.proofs.lemmas.Option.{get_or_from_slice_get}
use Rattle.pm_base.specs.Layouts.{class_row}
use Rattle.pm_base.specs.Windows.{whole}
use Rattle.pm_base.specs.declared.layout.ClassRow.{ClassRow}
use Rattle.pm_base.specs.declared.rows.CutRow.{CutRow}
use Rattle.pm_base.specs.declared.rows.Parts.{Parts}
use Rattle.pm_base.specs.declared.rows.PutRow.{PutRow}
use Rattle.pm_base.specs.declared.stamp.Num.{Num}
use Rattle.pm_base.specs.declared.stamp.Stamp.{Stamp}
use Rattle.pm_base.specs.declared.value.Query.TheVariants as query
use Rattle.pm_base.specs.declared.value.Window.{Window}
use Rattle.pm_message.specs.declared.Message.{Message}
use Rattle.pm_message.specs.declared.Message.TheVariants as message
use Rattle.pm_periods.specs.Records.{settled}
use Rattle.pm_queries.specs.Queries.{add_reg, class_queries, has_reg}
use Rattle.pm_queries.specs.declared.registered.Registered.{Registered}
use Rattle.pm_queries.specs.declared.registered.Sent.{Sent}
use Rattle.pm_routes.specs.Routings.{way_at}
use Rattle.pm_routes.specs.declared.way.Way.{Way}
use Rattle.pm_routes.specs.declared.way.Way.TheVariants as way
use Rattle.pm_clp.specs.Clps.{ClpSends, ClpState, Hub, and_then, at_record, class_at, counting, forwards, installed}
use Rattle.pm_clp.specs.Clps.{no_clp_sends, on_ask, on_cut, on_move, on_put}
use Rattle.pm_clp.specs.Clps.{on_way, queries_watch, registered, registered_at, sent_on, take_cut, take_put}
use Rattle.pm_clp.specs.Clps.{take_watch, telling, watch_all, watch_if, way_of}
use Rattle.pm_clp.specs.Views.{ClpView, Did, DidAny, DidRaise, Leads, asked_at, watch_at, watch_each}
use Rattle.pm_clp.proofs.Steps.{did-then, leads-end, leads-step, raise-then}

-- which way a variable is, by its two names
way_is : (s : ClpState) (v : ℕ) (w : Way) → way_at s.routing v ≡ Some w → way_of v s ≡ w
way_is s v w e = get_or_from_slice_get s.routing.ways v w way.Here e

-- a letter goes on to where its variable is
went : (a : ClpView) (x y : List Sent) (h : Hub) (v d : ℕ) (m : Message) (f : ClpState → ClpSends)
    → way_at a.clp.routing v ≡ Some (way.Port d)
    → y ≡ x ++ record { to = d; message = m } ∷ [] → Did a a x y (λ s. on_way h (way_of v s) m s f)
went a x y h v d m f e o = record {
  state = subst (λ w. a ≡ record a { clp = (on_way h w m a.clp f).clp }) (sym (way_is a.clp v (way.Port d) e)) refl;
  sent = subst (λ w. y ≡ x ++ (on_way h w m a.clp f).sent) (sym (way_is a.clp v (way.Port d) e)) o;
}

-- or is taken here
here : (a b : ClpView) (x y : List Sent) (h : Hub) (v : ℕ) (m : Message) (f : ClpState → ClpSends)
    → way_at a.clp.routing v ≡ Some way.Here
    → DidAny a b x y f → DidAny a b x y (λ s. on_way h (way_of v s) m s f)
here a b x y h v m f e d = record {
  state = subst (λ w. b ≡ record a { clp = (on_way h w m a.clp f).clp; limit = b.limit })
      (sym (way_is a.clp v way.Here e)) d.state;
  sent = subst (λ w. y ≡ x ++ (on_way h w m a.clp f).sent) (sym (way_is a.clp v way.Here e)) d.sent;
}

-- with no word on the turns
any_raised : (a b : ClpView) (x y : List Sent) (f : ClpState → ClpSends) → DidRaise a b x y f → DidAny a b x y f
any_raised a b x y f d = record {
  state = subst (λ (v : ClpView). b
      ≡ record a { clp = (f a.clp).clp; limit = v.limit }) (sym d.state) d.state;
  sent = d.sent;
}

-- a read
pub read_went : (a : ClpView) (x y : List Sent) (from v d : ℕ) (n : Num) (t : Stamp)
    → way_at a.clp.routing v ≡ Some (way.Port d)
    → y ≡ x ++ record { to = d; message = message.Ask n t (query.One v) } ∷ []
    → Did a a x y (on_ask a.hub from (message.Ask n t (query.One v)) n t (query.One v))
read_went a x y from v d n t e o =
    let r = went a x y a.hub v d (message.Ask n t (query.One v))
    (λ z. and_then (at_record a.hub v (take_watch v n t whole) z) (counting a.hub v from)) e o in
    record { state = r.state; sent = r.sent }

pub read_did : (a b c : ClpView) (x y z : List Sent) (from v : ℕ) (n : Num) (t : Stamp) (w : Window)
    → way_at a.clp.routing v ≡ Some way.Here → w ≡ whole
    → Did a b x y (at_record a.hub v (take_watch v n t w)) → Did b c y z (counting b.hub v from)
    → Did a c x z (on_ask a.hub from (message.Ask n t (query.One v)) n t (query.One v))
read_did a b c x y z from v n t w e i d g = record {
  state = subst (λ u. c ≡ record a { clp = (on_way a.hub u (message.Ask n t (query.One v)) a.clp f).clp })
      (sym (way_is a.clp v way.Here e)) both.state;
  sent = subst (λ u. z ≡ x ++ (on_way a.hub u (message.Ask n t (query.One v)) a.clp f).sent)
      (sym (way_is a.clp v way.Here e)) both.sent;
}
  where
    f : ClpState → ClpSends
    f s = and_then (at_record a.hub v (take_watch v n t whole) s) (counting a.hub v from)

    both : Did a c x z f
    both = subst (λ u. Did a c x z (λ s. and_then (at_record a.hub v (take_watch v n t u) s) (counting a.hub v from))) i
        (did-then a b c x y z (at_record a.hub v (take_watch v n t w)) (λ k. counting k v from) d g)

-- a write
pub put_went : (a : ClpView) (x y : List Sent) (from v d : ℕ) (r : PutRow) → way_at a.clp.routing v ≡ Some (way.Port d)
    → y ≡ x ++ record { to = d; message = message.Put r.num r.stamp v r.change } ∷ []
    → DidAny a a x y (on_put a.hub from (message.Put r.num r.stamp v r.change) v r)
put_went a x y from v d r e o =
    let g = went a x y a.hub v d (message.Put r.num r.stamp v r.change)
    (λ z. and_then (and_then (at_record a.hub v (take_put v r) z) (telling a.hub v r.stamp))
    (counting a.hub v from)) e o in
    record { state = g.state; sent = g.sent }

pub put_did : (a b c : ClpView) (x y z : List Sent) (from v : ℕ) (r : PutRow) → way_at a.clp.routing v ≡ Some way.Here
    → DidRaise a b x y (λ s. and_then (at_record a.hub v (take_put v r) s) (telling a.hub v r.stamp))
    → Did b c y z (counting b.hub v from)
    → DidAny a c x z (on_put a.hub from (message.Put r.num r.stamp v r.change) v r)
put_did a b c x y z from v r e d g = record { state = taken.state; sent = taken.sent }
  where
    f : ClpState → ClpSends
    f s = and_then (and_then (at_record a.hub v (take_put v r) s) (telling a.hub v r.stamp)) (counting a.hub v from)

    all : DidRaise a c x z f
    all = raise-then a b c x y z (λ s. and_then (at_record a.hub v (take_put v r) s) (telling a.hub v r.stamp))
        (λ k. counting k v from) d g

    taken : DidAny a c x z (λ s. on_way a.hub (way_of v s) (message.Put r.num r.stamp v r.change) s f)
    taken = here a c x z a.hub v (message.Put r.num r.stamp v r.change) f e (any_raised a c x z f all)

-- a withdrawal
pub cut_went : (a : ClpView) (x y : List Sent) (v d : ℕ) (r : CutRow) → way_at a.clp.routing v ≡ Some (way.Port d)
    → y ≡ x ++ record { to = d; message = message.Cut r.num r.stamp v } ∷ []
    → DidAny a a x y (on_cut a.hub (message.Cut r.num r.stamp v) v r)
cut_went a x y v d r e o =
    let g = went a x y a.hub v d (message.Cut r.num r.stamp v)
    (λ z. and_then (at_record a.hub v (take_cut v r) z) (telling a.hub v r.stamp)) e o in
    record { state = g.state; sent = g.sent }

pub cut_did : (a b c : ClpView) (x y z : List Sent) (v : ℕ) (r : CutRow) → way_at a.clp.routing v ≡ Some way.Here
    → DidRaise a b x y (at_record a.hub v (take_cut v r)) → Did b c y z (telling b.hub v r.stamp)
    → DidAny a c x z (on_cut a.hub (message.Cut r.num r.stamp v) v r)
cut_did a b c x y z v r e d g = record { state = taken.state; sent = taken.sent }
  where
    f : ClpState → ClpSends
    f s = and_then (at_record a.hub v (take_cut v r) s) (telling a.hub v r.stamp)

    all : DidRaise a c x z f
    all = raise-then a b c x y z (at_record a.hub v (take_cut v r)) (λ k. telling k v r.stamp) d g

    taken : DidAny a c x z (λ s. on_way a.hub (way_of v s) (message.Cut r.num r.stamp v) s f)
    taken = here a c x z a.hub v (message.Cut r.num r.stamp v) f e (any_raised a c x z f all)

-- a class query that is registered already, and one that is not
pub known_did : (a : ClpView) (x : List Sent) (from k : ℕ) (n : Num) (t : Stamp) (w : Window)
    → has_reg n a.clp.queries ≡ true
    → Did a a x x (on_ask a.hub from (message.Ask n t (query.Class k w)) n t (query.Class k w))
known_did a x from k n t w e = record { state = all.state; sent = all.sent }
  where
    f : Bool → ClpState → ClpSends
    f q s = if q then no_clp_sends s
        else and_then (watch_all a.hub n t w (class_row a.hub.classes k).first (class_row a.hub.classes k).count s)
        (registered a.hub from n t k w)

    all : Did a a x x (f (has_reg n a.clp.queries))
    all = subst (λ q. Did a a x x (f q)) (sym e) (record { state = refl; sent = sym (append-nil x) })

pub scanned_did : (a b c : ClpView) (x y z : List Sent) (from k : ℕ) (n : Num) (t : Stamp) (w : Window)
    (r : ClassRow) → has_reg n a.clp.queries ≡ false
    → r ≡ class_row a.hub.classes k → Did a b x y (watch_all a.hub n t w r.first r.count)
    → Did b c y z (registered b.hub from n t k w)
    → Did a c x z (on_ask a.hub from (message.Ask n t (query.Class k w)) n t (query.Class k w))
scanned_did a b c x y z from k n t w r e i d g = record { state = all.state; sent = all.sent }
  where
    f : Bool → ClpState → ClpSends
    f q s = if q then no_clp_sends s
        else and_then (watch_all a.hub n t w (class_row a.hub.classes k).first (class_row a.hub.classes k).count s)
        (registered a.hub from n t k w)

    both : Did a c x z (f false)
    both = subst (λ (u : ClassRow). Did a c x z (λ s. and_then (watch_all a.hub n t w u.first u.count s)
        (registered a.hub from n t k w))) i
        (did-then a b c x y z (watch_all a.hub n t w r.first r.count) (λ j. registered j from n t k w) d g)

    all : Did a c x z (f (has_reg n a.clp.queries))
    all = subst (λ q. Did a c x z (f q)) (sym e) both

-- a query goes on, and is one of those registered
pub registered_did : (a b : ClpView) (x y : List Sent) (from : ℕ) (n : Num) (t : Stamp) (k : ℕ) (w : Window)
    (ds es : List ℕ)
    → ds ≡ filter (sent_on a.hub a.clp.bound from k t w) a.hub.ports → es ≡ ds
    → y ≡ x ++ forwards a.hub from (record {
      num = n;
      stamp = t;
      class = k;
      window = w;
      from = from;
      sent = es;
      waits = ds;
    }) ds
    → b ≡ record a {
      clp = record a.clp {
        queries = add_reg (record
            { num = n; stamp = t; class = k; window = w; from = from; sent = es; waits = ds }) a.clp.queries;
      };
    }
    → Did a b x y (registered a.hub from n t k w)
registered_did a b x y from n t k w ds es i j o e = record {
  state = subst (λ l. b ≡ record a { clp = (registered_at a.hub from n t k w l a.clp).clp }) i
      (subst (λ l. b ≡ record a {
        clp = record a.clp {
          queries = add_reg
              (record { num = n; stamp = t; class = k; window = w; from = from; sent = l; waits = ds }) a.clp.queries;
        };
      }) j e);
  sent = subst (λ l. y ≡ x ++ (registered_at a.hub from n t k w l a.clp).sent) i
      (subst (λ l. y ≡ x ++ forwards a.hub from (record {
        num = n;
        stamp = t;
        class = k;
        window = w;
        from = from;
        sent = l;
        waits = ds;
      }) ds) j o);
}

-- to no port, and to some
pub forwards_none : (h : Hub) (r : Registered) (ds : List ℕ) → length ds ≡ 0
    → forwards h r.from r ds ≡ record { to = r.from; message = message.Finish r.num r.stamp } ∷ []
forwards_none h r [] e = refl
forwards_none h r (d ∷ ds) e = absurd (omega arith)

pub forwards_some : (h : Hub) (r : Registered) (ds : List ℕ) → (length ds ≡ 0 → ⊥)
    → forwards h r.from r ds ≡ map (asked_at r) ds
forwards_some h r [] e = absurd (e refl)
forwards_some h r (d ∷ ds) e = refl

-- the queries of the class watch a record
pub class_watch : (h : Hub) (v : ℕ) (qs : List Registered) (s : ClpState)
    → watch_each h v (class_queries (class_at h v) qs) s ≡ queries_watch h v qs s
class_watch h v [] s = refl
class_watch h v (r ∷ rs) s = by (class_at h v == r.class) (λ z. class_watch h v rs z)
  where
    by : (q : Bool) → ((z : ClpState) → watch_each h v (class_queries (class_at h v) rs) z ≡ queries_watch h v rs z)
        → watch_each h v (if q then r ∷ class_queries (class_at h v) rs else class_queries (class_at h v) rs) s
        ≡ and_then (watch_if h q v r s) (queries_watch h v rs)
    by true e =
        ap (λ (z : ClpSends). and_then (at_record h v (take_watch v r.num r.stamp r.window) s) (λ _. z))
        (e (at_record h v (take_watch v r.num r.stamp r.window) s).clp)
    by false e = e s

-- one more of them
pub watched_on : (a b s : ClpView) (x y z : List Sent) (h : Hub) (v : ℕ) (qs : List Registered) (at : ℕ)
    (f : ClpState → ClpSends) → at < length qs
    → Did a b x y (watch_at h v (slice_get qs at)) → Leads a x (watch_each h v (drop at qs)) s z f
    → Leads b y (watch_each h v (drop (suc at) qs)) s z f
watched_on a b s x y z h v [] at f i d l = absurd (omega arith)
watched_on a b s x y z h v (r ∷ rs) zero f i d l =
    leads-step a b s x y z (watch_at h v (Some r)) (watch_each h v rs) f d (record { state = l.state; sent = l.sent })
watched_on a b s x y z h v (r ∷ rs) (suc at) f i d l = watched_on a b s x y z h v rs at f (omega arith) d l

-- all of them
none_left : {X : Type 0} (xs : List X) (n : ℕ) → length xs ≤ n → drop n xs ≡ []
none_left [] zero i = refl
none_left [] (suc n) i = refl
none_left (x ∷ xs) zero i = absurd (omega arith)
none_left (x ∷ xs) (suc n) i = none_left xs n (omega arith)

pub watched_did : (a s : ClpView) (x z : List Sent) (v k at : ℕ) → k ≡ class_at s.hub v
    → length (class_queries k s.clp.queries) ≤ at
    → Leads a x (watch_each s.hub v (drop at (class_queries k s.clp.queries))) s z
    (watch_each s.hub v (class_queries k s.clp.queries))
    → Did s a z x (queries_watch s.hub v s.clp.queries)
watched_did a s x z v k at e i l = record {
  state = each.state ∙ ap (λ (r : ClpSends). record s { clp = r.clp }) (class_watch s.hub v s.clp.queries s.clp);
  sent = each.sent ∙ ap (λ (r : ClpSends). z ++ r.sent) (class_watch s.hub v s.clp.queries s.clp);
}
  where
    qs : List Registered
    qs = class_queries k s.clp.queries

    last : Leads a x (watch_each s.hub v []) s z (watch_each s.hub v qs)
    last = subst (λ l. Leads a x (watch_each s.hub v l) s z (watch_each s.hub v qs)) (none_left qs at i) l

    each : Did s a z x (watch_each s.hub v (class_queries (class_at s.hub v) s.clp.queries))
    each = subst (λ j. Did s a z x (watch_each s.hub v (class_queries j s.clp.queries))) e
        (leads-end a s x z (watch_each s.hub v qs) (record { state = last.state; sent = last.sent }))

-- a record that comes
pub moved_did : (a b c : ClpView) (x y : List Sent) (from v : ℕ) (r : Parts)
    → b ≡ record a { clp = installed a.hub from v (settled r) a.clp }
    → Did b c x y (queries_watch b.hub v b.clp.queries) → Did a c x y (on_move a.hub from v r)
moved_did a b c x y from v r e d =
    let g = subst (λ (u : ClpView). Did u c x y (queries_watch u.hub v u.clp.queries)) e d in
    record { state = g.state; sent = g.sent }
