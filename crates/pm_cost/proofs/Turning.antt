-- What a delivery at a communication process does to the way of a variable.
use Rattle.std.proofs.Common.{◌≡◌, ℕ, zero, suc, ◌⊎◌, inl, inr, ◌==◌, Bool, true, false, List, [], ◌∷◌, ◌++◌, map, filter, length, get_or, set, refl, arith, ap, sym, ◌∙◌, subst, Option, Some, None, get_or-set_other, get_or-set_same, length-set}
use Rattle.std.proofs.lemmas.Bool.{cases_eq, cond_both}
use Rattle.std.proofs.lemmas.Bool.Decides.{nat_tests}
use Rattle.pm_base.specs.Layouts.{class_row}
use Rattle.pm_base.specs.Stamps.{num_eq}
use Rattle.pm_base.specs.Windows.{point_of, whole}
use Rattle.pm_base.specs.declared.rows.GiveRow.{GiveRow}
use Rattle.pm_base.specs.declared.rows.Parts.{Parts}
use Rattle.pm_base.specs.declared.rows.PutRow.{PutRow}
use Rattle.pm_base.specs.declared.stamp.Interval.{Interval}
use Rattle.pm_base.specs.declared.stamp.Num.{Num}
use Rattle.pm_base.specs.declared.stamp.Stamp.{Stamp}
use Rattle.pm_base.specs.declared.value.Change.{Change}
use Rattle.pm_base.specs.declared.value.Period.{Period}
use Rattle.pm_base.specs.declared.value.Query.TheVariants as query
use Rattle.pm_base.specs.declared.value.Window.{Window}
use Rattle.pm_message.specs.declared.Message.{Message}
use Rattle.pm_message.specs.declared.Message.TheVariants as message
use Rattle.pm_periods.specs.Periods.{periods_from}
use Rattle.pm_periods.specs.Records.{cut_row, settled}
use Rattle.pm_ranges.specs.Known.{covers}
use Rattle.pm_routes.specs.Routings.{counted, is_drawn}
use Rattle.pm_routes.specs.declared.way.Way.{Way}
use Rattle.pm_routes.specs.declared.way.Way.TheVariants as way
use Rattle.pm_tables.specs.Tables.{grow_at, known_at}
use Rattle.pm_queries.specs.Queries.{ask_of, behind_reg, finish_if, finish_in, finish_one, has, has_reg, without}
use Rattle.pm_queries.specs.declared.registered.Registered.{Registered}
use Rattle.pm_queries.specs.declared.registered.Sent.{Sent}
use Rattle.pm_clp.specs.Clps.{Answered, ClpSends, ClpState, Hub, and_then, at_record, catches, catching, class_at, clp_after, counting, floor_of, forwards, grow_bound, installed, leaves, leaving, no_clp_sends, on_record, on_way, queries_watch, rec_at, reg_of, registered, sent_on, take_cut, take_put, take_watch, tell, tell_from, tell_one, tell_periods, tell_record, telling, to_agent, watch_all, watch_if, way_of, with_count}
use Rattle.pm_sim.proofs.Going.{tally_append}
use Rattle.pm_sim.proofs.Lists.{in_cases}
use Rattle.pm_sim.proofs.Places.{in_range}
use Rattle.pm_sim.proofs.Quiets.{tally_in}
use Rattle.pm_sim.specs.Sims.{In, one_if}
use Rattle.pm_cost.specs.Straight.{DeliveriesTurn, TurnsWay, goes, touched, touches}

-- what goes on touches the variable
pub goes_touches : (v : ℕ) (m : Message) → goes v m ≡ true → touches v m ≡ true
goes_touches v (message.Put n z u g) e = e
goes_touches v (message.Ask k z (query.One u)) e = e
goes_touches v (message.Ask k z (query.Class j w)) e = absurd (cc)
goes_touches v (message.Move u z r) e = absurd (cc)
goes_touches v (message.Wake k z) e = absurd (cc)
goes_touches v (message.Cut n z u) e = absurd (cc)
goes_touches v (message.Give g) e = absurd (cc)
goes_touches v (message.Finish k z) e = absurd (cc)
goes_touches v (message.Grow k z u w) e = absurd (cc)

module _ (h : Hub) (v : ℕ) where
  -- the ways stay, no record goes or comes, and nothing that is sent touches the variable
  abbrev Still : ClpState → ClpSends → Type 0
  Still x r = (r.clp.routing ≡ x.routing) × (touched v r.sent ≡ 0) × (length r.clp.records ≡ length x.records)

  still : (x : ClpState) → Still x (no_clp_sends x)
  still x = (refl, refl, refl)

  chain : (x : ClpState) (r : ClpSends) (f : ClpState → ClpSends) → Still x r → ((y : ClpState) → Still y (f y))
      → Still x (and_then r f)
  chain x r f a e = (let o = e r.clp in (
    o.0 ∙ a.0,
    tally_append (λ (y : Sent). touches v y.message) r.sent (f r.clp).sent
        ∙ (let b = a.1 in let d = o.1 in omega (arith, b, d)),
    o.2 ∙ a.2,
  ))

  gives_still : (gs : List GiveRow) → touched v (map (to_agent h) gs) ≡ 0
  gives_still [] = refl
  gives_still (g ∷ gs) = gives_still gs

  recorded : (u : ℕ) (f : Parts → Answered) (x : ClpState) → Still x (at_record h u f x)
  recorded u f x = go (rec_at x.records u)
    where
      go : (o : Option Parts) → Still x (on_record h u f o x)
      go None = (refl, refl, refl)
      go (Some r) = (refl, gives_still (f r).gives, length-set x.records u (Some (f r).rec))

  asks_still : (d : ℕ) (rs : List Registered)
      → touched v (map (λ (r : Registered). record { to = d; message = ask_of r }) rs) ≡ 0
  asks_still d [] = refl
  asks_still d (r ∷ rs) = asks_still d rs

  catch_still : (d k : ℕ) (x : ClpState) → Still x (catching h d k x)
  catch_still d k x = (refl, asks_still d (filter (catches h x.bound d k) x.queries), refl)

  tell_one_still : (k : ℕ) (from : Stamp) (until : Option Stamp) (w : Window) (d : ℕ) (x : ClpState)
      → Still x (tell_one h k from until w d x)
  tell_one_still k from until w d x =
      let when : Interval = record { from = Some from; until = until } in
      let told : ClpSends = record {
        clp = record x { told = grow_at h.ports d k when w x.told };
        sent = record { to = d; message = message.Grow k from until w } ∷ [];
      } in
      cond_both (covers (known_at h.ports d k x.told) when w) (no_clp_sends x) told (Still x)
      (λ _. still x) (λ _. (refl, refl, refl))

  tell_still : (k : ℕ) (from : Stamp) (until : Option Stamp) (w : Window) (ds : List ℕ) (x : ClpState)
      → Still x (tell h k from until w ds x)
  tell_still k from until w [] x = still x
  tell_still k from until w (d ∷ ds) x =
      chain x (tell_one h k from until w d x) (tell h k from until w ds) (tell_one_still k from until w d x)
      (tell_still k from until w ds)

  periods_still : (k : ℕ) (rs : List Period) (x : ClpState) → Still x (tell_periods h k rs x)
  periods_still k [] x = still x
  periods_still k (r ∷ rs) x =
      chain x (tell_from h k r.when.from r x) (tell_periods h k rs) (go r.when.from) (periods_still k rs)
    where
      go : (o : Option Stamp) → Still x (tell_from h k o r x)
      go None = still x
      go (Some from) = tell_still k from r.when.until (point_of r.value) h.ports x

  telling_still : (u : ℕ) (from : Stamp) (x : ClpState) → Still x (telling h u from x)
  telling_still u from x = go (rec_at x.records u)
    where
      go : (o : Option Parts) → Still x (tell_record h u from o x)
      go None = still x
      go (Some r) = periods_still (class_at h u) (periods_from r (Some from)) x

  all_still : (k : Num) (z : Stamp) (u : Window) (i n : ℕ) (x : ClpState) → Still x (watch_all h k z u i n x)
  all_still k z u i zero x = still x
  all_still k z u i (suc n) x =
      chain x (at_record h i (take_watch i k z u) x) (watch_all h k z u (suc i) n)
      (recorded i (take_watch i k z u) x) (all_still k z u (suc i) n)

  joins_still : (u : ℕ) (rs : List Registered) (x : ClpState) → Still x (queries_watch h u rs x)
  joins_still u [] x = still x
  joins_still u (r ∷ rs) x =
      chain x (watch_if h (class_at h u == r.class) u r x) (queries_watch h u rs) (go (class_at h u == r.class))
      (joins_still u rs)
    where
      go : (b : Bool) → Still x (watch_if h b u r x)
      go false = still x
      go true = recorded u (take_watch u r.num r.stamp r.window) x

  sent_still : (r : Registered) (es : List ℕ) → touched v (map (λ e. record { to = e; message = ask_of r }) es) ≡ 0
  sent_still r [] = refl
  sent_still r (y ∷ es) = sent_still r es

  registered_still : (from : ℕ) (k : Num) (z : Stamp) (j : ℕ) (u : Window) (x : ClpState)
      → Still x (registered h from k z j u x)
  registered_still from k z j u x = (refl, go (filter (sent_on h x.bound from j z u) h.ports), refl)
    where
      go : (ds : List ℕ) → touched v (forwards h from
          (reg_of h from k z j u (filter (sent_on h x.bound from j z u) h.ports)) ds) ≡ 0
      go [] = refl
      go (d ∷ ds) = sent_still (reg_of h from k z j u (filter (sent_on h x.bound from j z u) h.ports)) (d ∷ ds)

  finish_still : (k : Num) (d : ℕ) (rs : List Registered) → touched v (finish_in k d rs).sent ≡ 0
  finish_still k d [] = refl
  finish_still k d (r ∷ rs) =
      let again = finish_still k d rs in
      cond_both (num_eq k r.num) (finish_one d r rs (has d r.waits)) (behind_reg r (finish_in k d rs))
      (λ z. touched v z.sent ≡ 0) (λ _. one (has d r.waits)) (λ _. again)
    where
      ended : (ws : List ℕ) → touched v (finish_if ws r) ≡ 0
      ended [] = refl
      ended (y ∷ ws) = refl

      one : (b : Bool) → touched v (finish_one d r rs b).sent ≡ 0
      one true = ended (without d r.waits)
      one false = refl

  -- ---- the ways

  of_still : (m : Message) (x : ClpState) (r : ClpSends) → Still x r → TurnsWay v m x r
  of_still m x r a = record {
    few = (let e = a.1 in omega (arith, e));
    same = λ _. ap (λ z. get_or z.ways v way.Here) a.0;
    sent = λ y i g. absurd (let t = tally_in (λ (s : Sent). touches v s.message) r.sent y i
        (goes_touches v y.message g) in let e = a.1 in omega (arith, t, e));
    turns = λ e f. inl (sym (ap (λ z. get_or z.ways v way.Here) a.0) ∙ f);
  }

  -- something that changes no way, and then what turns it
  then_turn : (m : Message) (x : ClpState) (r : ClpSends) (f : ClpState → ClpSends) → Still x r
      → TurnsWay v m r.clp (f r.clp) → TurnsWay v m x (and_then r f)
  then_turn m x r f a t =
      let w : way_of v r.clp ≡ way_of v x = ap (λ z. get_or z.ways v way.Here) a.0 in record {
        few = (let e = a.1 in let g = t.few in
            let s = tally_append (λ (y : Sent). touches v y.message) r.sent (f r.clp).sent in omega (arith, e, g, s));
        same = λ n. t.same n ∙ w;
        sent = λ y i g. elim (in_cases r.sent (f r.clp).sent y i) [
          | inl j ↦ absurd (let k = tally_in (λ (s : Sent). touches v s.message) r.sent y j
              (goes_touches v y.message g) in let e = a.1 in omega (arith, k, e))
          | inr j ↦ t.sent y j g
        ];
        turns = λ e g. elim (t.turns e g) [
          | inl o ↦ inl (sym w ∙ o)
          | inr o ↦ inr (o.0, o.1, right r.sent (f r.clp).sent _ o.2)
        ];
      }
    where
      right : (xs ys : List Sent) (y : Sent) → In y ys → In y (xs ++ ys)
      right [] ys y i = i
      right (x ∷ xs) ys y i = inr (right xs ys y i)

  -- a message goes on
  onward : (m : Message) (x : ClpState) (d : ℕ) → (goes v m ≡ true → way_of v x ≡ way.Port d)
      → TurnsWay v m x (record { clp = x; sent = record { to = d; message = m } ∷ [] })
  onward m x d g = record {
    few = omega arith;
    same = λ _. refl;
    sent = λ y i k. elim i [
      | inr n ↦ absurd n
      | inl e ↦ g (subst (λ (z : Sent). goes v z.message ≡ true) e k) ∙ ap way.Port (sym (ap (λ (z : Sent). z.to) e))
    ];
    turns = λ e f. inl f;
  }

  same_of : (u : ℕ) → (v == u) ≡ true → v ≡ u
  same_of u e = grind (arith, nat_tests, e)

  -- a variable is counted, and may leave
  counting_turn : (m : Message) (u from : ℕ) → touches v m ≡ (v == u) → (x : ClpState)
      → length x.records ≡ length x.routing.ways → TurnsWay v m x (counting h u from x)
  counting_turn m u from tm x len = go (is_drawn (counted x.routing u from) u from) (rec_at x.records u) refl
    where
      go : (b : Bool) (o : Option Parts) → rec_at x.records u ≡ o
          → TurnsWay v m x (leaves h b u from o (with_count h u from x))
      go false o e = record { few = omega arith; same = λ _. refl; sent = λ y i. absurd i; turns = λ d f. inl f }
      go true None e = record { few = omega arith; same = λ _. refl; sent = λ y i. absurd i; turns = λ d f. inl f }
      go true (Some r) e = by (cases_eq v u)
        where
          z : ClpState
          z = (leaving h u from r (with_count h u from x)).clp

          y : Sent
          y = record { to = from; message = message.Move u (floor_of x.line) r }

          none : touched v (catching h from (class_at h u) z).sent ≡ 0
          none = (catch_still from (class_at h u) z).1

          no_goes : (s : Sent) → In s (y ∷ (catching h from (class_at h u) z).sent) → goes v s.message ≡ true → ⊥
          no_goes s (inl f) g = (let k : goes v (message.Move u (floor_of x.line) r) ≡ true =
              subst (λ (q : Sent). goes v q.message ≡ true) f g in cc)
          no_goes s (inr i) g = (let t = tally_in (λ (q : Sent). touches v q.message)
              (catching h from (class_at h u) z).sent s i (goes_touches v s.message g) in let n = none in
              omega (arith, t, n))

          by : (v ≡ u) ⊎ (v ≡ u → ⊥) → TurnsWay v m x (and_then (leaving h u from r (with_count h u from x))
              (catching h from (class_at h u)))
          by (inl f) = record {
            few = (let b : (v == u) ≡ true = grind (arith, nat_tests, f) in
                let k : one_if (touches v m) 0 ≡ 1 = ap (λ t. one_if t 0) (tm ∙ b) in let n = none in
                let l : one_if (v == u) 0 ≡ 1 = ap (λ t. one_if t 0) b in
                let j : one_if (v == u) (touched v (catching h from (class_at h u) z).sent) ≡ suc
                (touched v (catching h from (class_at h u) z).sent) =
                ap (λ t. one_if t (touched v (catching h from (class_at h u) z).sent)) b in
                omega (arith, k, n, l, j));
            same = λ n. absurd (let b : (v == u) ≡ true = grind (arith, nat_tests, f) in
                let k : touches v m ≡ true = tm ∙ b in cc);
            sent = λ s i g. absurd (no_goes s i g);
            turns = λ d k. inr (
              floor_of x.line,
              r,
              inl (let w : way.Port d ≡ way.Port from = sym k ∙ now f in
                  let q : d ≡ from = port_same d from w in λ i. record {
                    to = q i;
                    message = message.Move (f i)
                        (floor_of x.line) r;
                  }),
            );
          }
            where
              port_same : (a b : ℕ) → way.Port a ≡ way.Port b → a ≡ b
              port_same a b g = cc

              now : v ≡ u → get_or (set x.routing.ways u (way.Port from)) v way.Here ≡ way.Port from
              now f = ap (λ t. get_or (set x.routing.ways u (way.Port from)) t way.Here) f
                  ∙ get_or-set_same x.routing.ways u (way.Port from) way.Here
                  (let i = in_range x.records u r e in omega (arith, i, len))
          by (inr ne) = record {
            few = (let b : (v == u) ≡ false = grind (arith, nat_tests, ne) in let n = none in
                let j : one_if (v == u) (touched v (catching h from (class_at h u) z).sent)
                ≡ touched v (catching h from (class_at h u) z).sent =
                ap (λ t. one_if t (touched v (catching h from (class_at h u) z).sent)) b in
                omega (arith, n, j));
            same = λ _. get_or-set_other x.routing.ways u v (way.Port from) way.Here ne;
            sent = λ s i g. absurd (no_goes s i g);
            turns = λ d k. inl (sym (get_or-set_other x.routing.ways u v (way.Port from) way.Here ne) ∙ k);
          }

  -- ---- a delivery

  put_turn : (from : ℕ) (n : Num) (t : Stamp) (u : ℕ) (g : Change) (x : ClpState)
      → length x.records ≡ length x.routing.ways
      → TurnsWay v (message.Put n t u g) x (clp_after h from (message.Put n t u g) x)
  put_turn from n t u g x len = go (way_of u x) refl
    where
      y : PutRow
      y = record { num = n; stamp = t; change = g }

      first : ClpSends
      first = and_then (at_record h u (take_put u (record { num = n; stamp = t; change = g })) x) (telling h u t)

      go : (o : Way) → way_of u x ≡ o → TurnsWay v (message.Put n t u g) x (on_way h o (message.Put n t u g) x (λ z.
          and_then (and_then (at_record h u (take_put u (record { num = n; stamp = t; change = g })) z)
          (telling h u t)) (counting h u from)))
      go (way.Port d) e = onward (message.Put n t u g) x d (λ k. ap (λ i. way_of i x) (same_of u k) ∙ e)
      go way.Here e =
          let s : Still x first = chain x (at_record h u (take_put u y) x) (telling h u t) (recorded u (take_put u y) x)
          (telling_still u t) in
          then_turn (message.Put n t u g) x first (counting h u from) s
          (counting_turn (message.Put n t u g) u from refl first.clp (lens s))
        where
          lens : Still x first → length first.clp.records ≡ length first.clp.routing.ways
          lens s = s.2 ∙ (len ∙ sym (ap (λ z. length z.ways) s.0))

  one_turn : (from : ℕ) (k : Num) (z : Stamp) (u : ℕ) (x : ClpState) → length x.records ≡ length x.routing.ways
      → TurnsWay v (message.Ask k z (query.One u)) x (clp_after h from (message.Ask k z (query.One u)) x)
  one_turn from k z u x len = go (way_of u x) refl
    where
      first : ClpSends
      first = at_record h u (take_watch u k z whole) x

      go : (o : Way) → way_of u x ≡ o → TurnsWay v (message.Ask k z (query.One u)) x
          (on_way h o (message.Ask k z (query.One u)) x (λ y.
          and_then (at_record h u (take_watch u k z whole) y) (counting h u from)))
      go (way.Port d) e =
          onward (message.Ask k z (query.One u)) x d (λ g. ap (λ i. way_of i x) (same_of u g) ∙ e)
      go way.Here e =
          let s : Still x first = recorded u (take_watch u k z whole) x in
          then_turn (message.Ask k z (query.One u)) x first (counting h u from) s
          (counting_turn (message.Ask k z (query.One u)) u from refl first.clp
          (s.2 ∙ (len ∙ sym (ap (λ z. length z.ways) s.0))))

  cut_turn : (from : ℕ) (n : Num) (t : Stamp) (u : ℕ) (x : ClpState)
      → TurnsWay v (message.Cut n t u) x (clp_after h from (message.Cut n t u) x)
  cut_turn from n t u x = go (way_of u x)
    where
      go : (o : Way) → TurnsWay v (message.Cut n t u) x (on_way h o (message.Cut n t u) x (λ z.
          and_then (at_record h u (take_cut u (cut_row n t)) z) (telling h u t)))
      go (way.Port d) = onward (message.Cut n t u) x d (λ g. absurd (cc))
      go way.Here = of_still (message.Cut n t u) x
          (and_then (at_record h u (take_cut u (cut_row n t)) x) (telling h u t))
          (chain x (at_record h u (take_cut u (cut_row n t)) x) (telling h u t)
          (recorded u (take_cut u (cut_row n t)) x) (telling_still u t))

  class_turn : (from : ℕ) (k : Num) (z : Stamp) (j : ℕ) (u : Window) (x : ClpState)
      → Still x (clp_after h from (message.Ask k z (query.Class j u)) x)
  class_turn from k z j u x =
      let row = class_row h.classes j in
      cond_both (has_reg k x.queries) (no_clp_sends x)
      (and_then (watch_all h k z u row.first row.count x) (registered h from k z j u)) (Still x)
      (λ _. still x)
      (λ _. chain x (watch_all h k z u row.first row.count x) (registered h from k z j u)
      (all_still k z u row.first row.count x) (registered_still from k z j u))

  -- a record comes
  move_turn : (from u : ℕ) (z : Stamp) (r : Parts) (x : ClpState)
      → TurnsWay v (message.Move u z r) x (clp_after h from (message.Move u z r) x)
  move_turn from u z r x = record {
    few = (let e = s.1 in omega (arith, e));
    same = λ n. ap (λ t. get_or t.ways v way.Here) s.0
        ∙ get_or-set_other x.routing.ways u v way.Here way.Here (apart n);
    sent = λ y i g. absurd (let t = tally_in (λ (q : Sent). touches v q.message)
        (queries_watch h u x.queries (installed h from u (settled r) x)).sent y i (goes_touches v y.message g) in
        let e = s.1 in omega (arith, t, e));
    turns = λ d f. inl (by (cases_eq v u) d (sym (ap (λ t. get_or t.ways v way.Here) s.0) ∙ f));
  }
    where
      s : Still (installed h from u (settled r) x) (queries_watch h u x.queries (installed h from u (settled r) x))
      s = joins_still u x.queries (installed h from u (settled r) x)

      apart : (v == u) ≡ false → v ≡ u → ⊥
      apart n e = (let b : (v == u) ≡ true = grind (arith, nat_tests, e) in cc)

      here_port : (d : ℕ) → way.Here ≡ way.Port d → ⊥
      here_port d e = cc

      past : (ws : List Way) → get_or (set ws u way.Here) u way.Here ≡ way.Here
      past ws = set_here ws u
        where
          set_here : (ws : List Way) (n : ℕ) → get_or (set ws n way.Here) n way.Here ≡ way.Here
          set_here [] n = refl
          set_here (w ∷ ws) zero = refl
          set_here (w ∷ ws) (suc n) = set_here ws n

      by : (v ≡ u) ⊎ (v ≡ u → ⊥) → (d : ℕ) → get_or (set x.routing.ways u way.Here) v way.Here ≡ way.Port d
          → way_of v x ≡ way.Port d
      by (inr ne) d f = sym (get_or-set_other x.routing.ways u v way.Here way.Here ne) ∙ f
      by (inl e) d f = absurd (here_port d (sym (past x.routing.ways)
          ∙ (ap (λ t. get_or (set x.routing.ways u way.Here) t way.Here) (sym e) ∙ f)))

pub all_turn : (h : Hub) → DeliveriesTurn h
all_turn h v from (message.Wake k z) x len = of_still h v (message.Wake k z) x (no_clp_sends x) (refl, refl, refl)
all_turn h v from (message.Give g) x len =
    of_still h v (message.Give g) x (record { clp = x; sent = to_agent h g ∷ [] }) (refl, refl, refl)
all_turn h v from (message.Put n t u g) x len = put_turn h v from n t u g x len
all_turn h v from (message.Cut n t u) x len = cut_turn h v from n t u x
all_turn h v from (message.Ask k z (query.One u)) x len = one_turn h v from k z u x len
all_turn h v from (message.Ask k z (query.Class j u)) x len =
    of_still h v (message.Ask k z (query.Class j u)) x (clp_after h from (message.Ask k z (query.Class j u)) x)
    (class_turn h v from k z j u x)
all_turn h v from (message.Finish k z) x len =
    of_still h v (message.Finish k z) x (clp_after h from (message.Finish k z) x)
    (refl, finish_still h v k from x.queries, refl)
all_turn h v from (message.Move u z r) x len = move_turn h v from u z r x
all_turn h v from (message.Grow k z until u) x len =
    let s1 : ClpState = grow_bound h from k (record { from = Some z; until = until }) u x in
    let c = chain h v s1 (catching h from k s1) (tell h k z until u (without from h.ports)) (catch_still h v from k s1)
    (tell_still h v k z until u (without from h.ports)) in
    of_still h v (message.Grow k z until u) x (clp_after h from (message.Grow k z until u) x) (c.0, c.1, c.2)

-- where a record comes the way is here
pub move_here : (h : Hub) (v from : ℕ) (z : Stamp) (r : Parts) (x : ClpState)
    → way_of v (clp_after h from (message.Move v z r) x).clp ≡ way.Here
move_here h v from z r x =
    ap (λ t. get_or t.ways v way.Here) (joins_still h v v x.queries (installed h from v (settled r) x)).0
    ∙ past x.routing.ways v
  where
    past : (ws : List Way) (n : ℕ) → get_or (set ws n way.Here) n way.Here ≡ way.Here
    past [] n = refl
    past (w ∷ ws) zero = refl
    past (w ∷ ws) (suc n) = past ws n
