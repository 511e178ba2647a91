-- What a range query costs at one communication process: an Ask and a Finish, whatever comes.
use Rattle.std.proofs.Common.{◌≡◌, ℕ, zero, suc, ◌+◌, ◌≤◌, inl, inr, ◌==◌, Bool, true, false, cond, ◌||◌, List, [], ◌∷◌, ◌++◌, map, filter, refl, arith, ap, sym, ◌∙◌, subst, Option, Some, None}
use Rattle.std.proofs.lemmas.Bool.{cases_Bool, cond_both}
use Rattle.pm_base.specs.Layouts.{class_row}
use Rattle.pm_base.specs.Stamps.{num_eq}
use Rattle.pm_base.specs.Windows.{point_of, whole}
use Rattle.pm_base.specs.declared.rows.GiveRow.{GiveRow}
use Rattle.pm_base.specs.declared.rows.Parts.{Parts}
use Rattle.pm_base.specs.declared.rows.PutRow.{PutRow}
use Rattle.pm_base.specs.declared.stamp.Interval.{Interval}
use Rattle.pm_base.specs.declared.stamp.Num.{Num}
use Rattle.pm_base.specs.declared.stamp.Stamp.{Stamp}
use Rattle.pm_base.specs.declared.value.Change.{Change}
use Rattle.pm_base.specs.declared.value.Period.{Period}
use Rattle.pm_base.specs.declared.value.Query.TheVariants as query
use Rattle.pm_base.specs.declared.value.Window.{Window}
use Rattle.pm_message.specs.declared.Message.{Message}
use Rattle.pm_message.specs.declared.Message.TheVariants as message
use Rattle.pm_periods.specs.Periods.{periods_from}
use Rattle.pm_periods.specs.Records.{cut_row, settled}
use Rattle.pm_periods.specs.Rows.{key_lt}
use Rattle.pm_ranges.specs.Known.{Known, covers}
use Rattle.pm_routes.specs.Routings.{counted, is_drawn}
use Rattle.pm_routes.specs.declared.way.Way.{Way}
use Rattle.pm_routes.specs.declared.way.Way.TheVariants as way
use Rattle.pm_tables.specs.Tables.{grow_at, known_at}
use Rattle.pm_queries.specs.Queries.{add_reg, ask_of, behind_reg, finish_if, finish_in, finish_one, has, has_reg, registered_key, without}
use Rattle.pm_queries.specs.declared.registered.Registered.{Registered}
use Rattle.pm_queries.specs.declared.registered.Sent.{Sent}
use Rattle.pm_clp.specs.Clps.{Answered, ClpSends, ClpState, Hub, and_then, at_record, catches, catching, caught, class_at, clp_after, counting, forwards, grow_bound, installed, leaves, leaving, no_clp_sends, on_record, on_way, queries_watch, rec_at, reg_of, registered, sent_on, take_cut, take_put, take_watch, tell, tell_from, tell_one, tell_periods, tell_record, telling, to_agent, watch_all, watch_if, way_of, with_count}
use Rattle.pm_sim.proofs.Going.{tally_append}
use Rattle.pm_sim.proofs.Stamps.{nums_same}
use Rattle.pm_sim.specs.Sims.{one_if, tally}
use Rattle.pm_cost.specs.Spending.{is_asked, is_end, reg_rest, waits_rest}

none_of : (a b : Bool) → (a || b) ≡ false → (a ≡ false) × (b ≡ false)
none_of false b f = (refl, f)
none_of true b f = absurd (cc)

module _ (h : Hub) (m : Num) where
  -- how many Finishes of the query these are
  abbrev pub ends : List Sent → ℕ
  ends ss = tally (λ (y : Sent). is_end m y.message) ss

  -- what the query may still cost here
  abbrev pub left : ClpState → ℕ
  left x = reg_rest m x.queries

  -- nothing of it changes, and no Finish of it is sent
  abbrev pub Same : ClpState → ClpSends → Type 0
  Same x r = (left r.clp ≡ left x) × (ends r.sent ≡ 0)

  still : (x : ClpState) → Same x (no_clp_sends x)
  still x = (refl, refl)

  chain : (x : ClpState) (r : ClpSends) (f : ClpState → ClpSends) → Same x r → ((y : ClpState) → Same y (f y))
      → Same x (and_then r f)
  chain x r f a e = (let o = e r.clp in (
    o.0 ∙ a.0,
    tally_append (λ (y : Sent). is_end m y.message) r.sent (f r.clp).sent
        ∙ (let b = a.1 in let d = o.1 in omega arith),
  ))

  gives_ends : (gs : List GiveRow) → ends (map (to_agent h) gs) ≡ 0
  gives_ends [] = refl
  gives_ends (g ∷ gs) = gives_ends gs

  recorded : (v : ℕ) (f : Parts → Answered) (x : ClpState) → Same x (at_record h v f x)
  recorded v f x = go (rec_at x.records v)
    where
      go : (o : Option Parts) → Same x (on_record h v f o x)
      go None = (refl, refl)
      go (Some r) = (refl, gives_ends (f r).gives)

  caught_rest : (b : List (List Known)) (d k : ℕ) (qs : List Registered)
      → reg_rest m (map (caught h b d k) qs) ≡ reg_rest m qs
  caught_rest b d k [] = refl
  caught_rest b d k (r ∷ rs) =
      let again = caught_rest b d k rs in
      cond_both (catches h b d k r) (record r { sent = r.sent ++ d ∷ [] }) r
      (λ (y : Registered). cond (num_eq m y.num) (waits_rest y.waits) (reg_rest m (map (caught h b d k) rs))
      ≡ cond (num_eq m r.num) (waits_rest r.waits) (reg_rest m rs))
      (λ _. ap (cond (num_eq m r.num) (waits_rest r.waits)) again)
      (λ _. ap (cond (num_eq m r.num) (waits_rest r.waits)) again)

  asks_ends : (d : ℕ) (rs : List Registered)
      → ends (map (λ (r : Registered). record { to = d; message = ask_of r }) rs) ≡ 0
  asks_ends d [] = refl
  asks_ends d (r ∷ rs) = asks_ends d rs

  catch_same : (d k : ℕ) (x : ClpState) → Same x (catching h d k x)
  catch_same d k x = (caught_rest x.bound d k x.queries, asks_ends d (filter (catches h x.bound d k) x.queries))

  tell_one_same : (k : ℕ) (from : Stamp) (until : Option Stamp) (w : Window) (d : ℕ) (x : ClpState)
      → Same x (tell_one h k from until w d x)
  tell_one_same k from until w d x =
      let when : Interval = record { from = Some from; until = until } in
      let told : ClpSends = record {
        clp = record x { told = grow_at h.ports d k when w x.told };
        sent = record { to = d; message = message.Grow k from until w } ∷ [];
      } in
      cond_both (covers (known_at h.ports d k x.told) when w) (no_clp_sends x) told (Same x)
      (λ _. still x) (λ _. (refl, refl))

  tell_same : (k : ℕ) (from : Stamp) (until : Option Stamp) (w : Window) (ds : List ℕ) (x : ClpState)
      → Same x (tell h k from until w ds x)
  tell_same k from until w [] x = still x
  tell_same k from until w (d ∷ ds) x =
      chain x (tell_one h k from until w d x) (tell h k from until w ds) (tell_one_same k from until w d x)
      (tell_same k from until w ds)

  periods_same : (k : ℕ) (rs : List Period) (x : ClpState) → Same x (tell_periods h k rs x)
  periods_same k [] x = still x
  periods_same k (r ∷ rs) x =
      chain x (tell_from h k r.when.from r x) (tell_periods h k rs) (go r.when.from) (periods_same k rs)
    where
      go : (o : Option Stamp) → Same x (tell_from h k o r x)
      go None = still x
      go (Some from) = tell_same k from r.when.until (point_of r.value) h.ports x

  telling_same : (v : ℕ) (from : Stamp) (x : ClpState) → Same x (telling h v from x)
  telling_same v from x = go (rec_at x.records v)
    where
      go : (o : Option Parts) → Same x (tell_record h v from o x)
      go None = still x
      go (Some r) = periods_same (class_at h v) (periods_from r (Some from)) x

  counted_same : (v from : ℕ) (x : ClpState) → Same x (counting h v from x)
  counted_same v from x = go (is_drawn (counted x.routing v from) v from) (rec_at x.records v)
    where
      go : (b : Bool) (o : Option Parts) → Same x (leaves h b v from o (with_count h v from x))
      go false o = (refl, refl)
      go true None = (refl, refl)
      go true (Some r) = chain x (leaving h v from r (with_count h v from x)) (catching h from (class_at h v))
          (refl, refl) (catch_same from (class_at h v))

  all_same : (k : Num) (z : Stamp) (u : Window) (i n : ℕ) (x : ClpState) → Same x (watch_all h k z u i n x)
  all_same k z u i zero x = still x
  all_same k z u i (suc n) x =
      chain x (at_record h i (take_watch i k z u) x) (watch_all h k z u (suc i) n)
      (recorded i (take_watch i k z u) x) (all_same k z u (suc i) n)

  joins_same : (v : ℕ) (rs : List Registered) (x : ClpState) → Same x (queries_watch h v rs x)
  joins_same v [] x = still x
  joins_same v (r ∷ rs) x =
      chain x (watch_if h (class_at h v == r.class) v r x) (queries_watch h v rs) (go (class_at h v == r.class))
      (joins_same v rs)
    where
      go : (b : Bool) → Same x (watch_if h b v r x)
      go false = still x
      go true = recorded v (take_watch v r.num r.stamp r.window) x

  -- ---- a query is registered

  add_else : (r : Registered) (qs : List Registered) → num_eq m r.num ≡ false
      → reg_rest m (add_reg r qs) ≡ reg_rest m qs
  add_else r [] e = rw e refl
  add_else r (x ∷ xs) e =
      let again = add_else r xs e in
      cond_both (key_lt (registered_key r) (registered_key x)) (r ∷ (x ∷ xs)) (x ∷ add_reg r xs)
      (λ ys. reg_rest m ys ≡ reg_rest m (x ∷ xs)) (λ _. rw e refl)
      (λ _. ap (cond (num_eq m x.num) (waits_rest x.waits)) again)

  none_rest : (qs : List Registered) → has_reg m qs ≡ false → reg_rest m qs ≡ 2
  none_rest [] e = refl
  none_rest (r ∷ rs) e =
      let a = none_of (num_eq m r.num) (has_reg m rs) e in
      ap (λ b. cond b (waits_rest r.waits) (reg_rest m rs)) a.0 ∙ none_rest rs a.1

  add_own : (r : Registered) (qs : List Registered) → num_eq m r.num ≡ true → has_reg m qs ≡ false
      → reg_rest m (add_reg r qs) ≡ waits_rest r.waits
  add_own r [] e f = rw e refl
  add_own r (x ∷ xs) e f =
      let a = none_of (num_eq m x.num) (has_reg m xs) f in
      let again = add_own r xs e a.1 in
      cond_both (key_lt (registered_key r) (registered_key x)) (r ∷ (x ∷ xs)) (x ∷ add_reg r xs)
      (λ ys. reg_rest m ys ≡ waits_rest r.waits) (λ _. rw e refl)
      (λ _. ap (λ b. cond b (waits_rest x.waits) (reg_rest m (add_reg r xs))) a.0 ∙ again)

  sent_ends : (r : Registered) (es : List ℕ) → ends (map (λ e. record { to = e; message = ask_of r }) es) ≡ 0
  sent_ends r [] = refl
  sent_ends r (y ∷ es) = sent_ends r es

  one_end : (b : Bool) → 0 + one_if b 0 ≤ 1
  one_end true = omega arith
  one_end false = omega arith

  forwards_ends : (from : ℕ) (r : Registered) (ds : List ℕ) → waits_rest ds + ends (forwards h from r ds) ≤ 1
  forwards_ends from r [] = one_end (num_eq m r.num)
  forwards_ends from r (d ∷ ds) = (let e = sent_ends r (d ∷ ds) in omega (arith, e))

  forwards_else : (from : ℕ) (r : Registered) (ds : List ℕ) → num_eq m r.num ≡ false
      → ends (forwards h from r ds) ≡ 0
  forwards_else from r [] e = ap (λ b. one_if b 0) e
  forwards_else from r (d ∷ ds) e = sent_ends r (d ∷ ds)

  -- ---- a Finish comes

  ended_else : (r : Registered) (ws : List ℕ) → num_eq m r.num ≡ false → ends (finish_if ws r) ≡ 0
  ended_else r [] f = ap (λ b. one_if b 0) f
  ended_else r (y ∷ ws) f = refl

  finish_else : (k : Num) (d : ℕ) → num_eq m k ≡ false → (rs : List Registered)
      → (reg_rest m (finish_in k d rs).queries ≡ reg_rest m rs) × (ends (finish_in k d rs).sent ≡ 0)
  finish_else k d e [] = (refl, refl)
  finish_else k d e (r ∷ rs) =
      let again = finish_else k d e rs in
      cond_both (num_eq k r.num) (finish_one d r rs (has d r.waits)) (behind_reg r (finish_in k d rs))
      (λ z. (reg_rest m z.queries ≡ reg_rest m (r ∷ rs)) × (ends z.sent ≡ 0))
      (λ f. one (ap (num_eq m) (sym (nums_same k r.num f)) ∙ e) (has d r.waits))
      (λ _. (ap (cond (num_eq m r.num) (waits_rest r.waits)) again.0, again.1))
    where
      one : num_eq m r.num ≡ false → (b : Bool)
          → (reg_rest m (finish_one d r rs b).queries ≡ reg_rest m (r ∷ rs)) × (ends (finish_one d r rs b).sent ≡ 0)
      one f true = (
        ap (λ b. cond b (waits_rest (without d r.waits)) (reg_rest m rs)) f
            ∙ sym (ap (λ b. cond b (waits_rest r.waits) (reg_rest m rs)) f),
        ended_else r (without d r.waits) f,
      )
      one f false = (refl, refl)

  some_waits : (d : ℕ) (ws : List ℕ) → has d ws ≡ true → waits_rest ws ≡ 1
  some_waits d [] f = absurd (cc)
  some_waits d (y ∷ ws) f = refl

  ended_own : (r : Registered) (ws : List ℕ) → waits_rest ws + ends (finish_if ws r) ≤ 1
  ended_own r [] = one_end (num_eq m r.num)
  ended_own r (y ∷ ws) = omega arith

  finish_own : (d : ℕ) (rs : List Registered)
      → reg_rest m (finish_in m d rs).queries + ends (finish_in m d rs).sent ≤ reg_rest m rs
  finish_own d [] = omega arith
  finish_own d (r ∷ rs) =
      let again = finish_own d rs in
      cond_both (num_eq m r.num) (finish_one d r rs (has d r.waits)) (behind_reg r (finish_in m d rs))
      (λ z. reg_rest m z.queries + ends z.sent ≤ reg_rest m (r ∷ rs))
      (λ f. one f (has d r.waits) refl)
      (λ f. subst (λ b. cond b (waits_rest r.waits) (reg_rest m (finish_in m d rs).queries)
      + ends (finish_in m d rs).sent ≤ cond b (waits_rest r.waits) (reg_rest m rs)) (sym f) again)
    where
      one : num_eq m r.num ≡ true → (b : Bool) → has d r.waits ≡ b
          → reg_rest m (finish_one d r rs b).queries + ends (finish_one d r rs b).sent ≤ reg_rest m (r ∷ rs)
      one f true e =
          let a : reg_rest m (r ∷ rs) ≡ 1 =
          ap (λ b. cond b (waits_rest r.waits) (reg_rest m rs)) f ∙ some_waits d r.waits e in
          let g : reg_rest m (record r { waits = without d r.waits } ∷ rs) ≡ waits_rest (without d r.waits) =
          ap (λ b. cond b (waits_rest (without d r.waits)) (reg_rest m rs)) f in
          let k = ended_own r (without d r.waits) in omega arith
      one f false e = omega arith

  -- ---- a delivery

  -- what the query may cost falls by what is sent and taken of it
  abbrev Falls : ClpState → ClpSends → ℕ → Type 0
  Falls x r n = left r.clp + ends r.sent + n ≤ left x

  of_same : (x : ClpState) (r : ClpSends) → Same x r → Falls x r 0
  of_same x r g = (let a = g.0 in let b = g.1 in omega arith)

  put_same : (from : ℕ) (n : Num) (t : Stamp) (v : ℕ) (g : Change) (x : ClpState)
      → Same x (clp_after h from (message.Put n t v g) x)
  put_same from n t v g x = go (way_of v x)
    where
      y : PutRow
      y = record { num = n; stamp = t; change = g }

      go : (o : Way) → Same x (on_way h o (message.Put n t v g) x (λ z.
          and_then (and_then (at_record h v (take_put v (record { num = n; stamp = t; change = g })) z)
          (telling h v t)) (counting h v from)))
      go (way.Port d) = (refl, refl)
      go way.Here = chain x (and_then (at_record h v (take_put v y) x) (telling h v t)) (counting h v from)
          (chain x (at_record h v (take_put v y) x) (telling h v t) (recorded v (take_put v y) x)
          (telling_same v t)) (counted_same v from)

  cut_same : (from : ℕ) (n : Num) (t : Stamp) (v : ℕ) (x : ClpState)
      → Same x (clp_after h from (message.Cut n t v) x)
  cut_same from n t v x = go (way_of v x)
    where
      go : (o : Way) → Same x (on_way h o (message.Cut n t v) x (λ z.
          and_then (at_record h v (take_cut v (cut_row n t)) z) (telling h v t)))
      go (way.Port d) = (refl, refl)
      go way.Here = chain x (at_record h v (take_cut v (cut_row n t)) x) (telling h v t)
          (recorded v (take_cut v (cut_row n t)) x) (telling_same v t)

  one_same : (from : ℕ) (k : Num) (z : Stamp) (v : ℕ) (x : ClpState)
      → Same x (clp_after h from (message.Ask k z (query.One v)) x)
  one_same from k z v x = go (way_of v x)
    where
      go : (o : Way) → Same x (on_way h o (message.Ask k z (query.One v)) x (λ y.
          and_then (at_record h v (take_watch v k z whole) y) (counting h v from)))
      go (way.Port d) = (refl, refl)
      go way.Here = chain x (at_record h v (take_watch v k z whole) x) (counting h v from)
          (recorded v (take_watch v k z whole) x) (counted_same v from)

  grow_same : (from k : ℕ) (z : Stamp) (until : Option Stamp) (u : Window) (x : ClpState)
      → Same x (clp_after h from (message.Grow k z until u) x)
  grow_same from k z until u x =
      let s1 : ClpState = grow_bound h from k (record { from = Some z; until = until }) u x in
      chain s1 (catching h from k s1) (tell h k z until u (without from h.ports)) (catch_same from k s1)
      (tell_same k z until u (without from h.ports))

  class_else : (from : ℕ) (k : Num) (z : Stamp) (j : ℕ) (u : Window) → num_eq m k ≡ false → (x : ClpState)
      → Same x (clp_after h from (message.Ask k z (query.Class j u)) x)
  class_else from k z j u f x =
      let row = class_row h.classes j in
      cond_both (has_reg k x.queries) (no_clp_sends x)
      (and_then (watch_all h k z u row.first row.count x) (registered h from k z j u)) (Same x)
      (λ _. still x)
      (λ _. chain x (watch_all h k z u row.first row.count x) (registered h from k z j u)
      (all_same k z u row.first row.count x) reg_same)
    where
      reg_same : (y : ClpState) → Same y (registered h from k z j u y)
      reg_same y =
          let ds : List ℕ = filter (sent_on h y.bound from j z u) h.ports in
          (add_else (reg_of h from k z j u ds) y.queries f, forwards_else from (reg_of h from k z j u ds) ds f)

  pub watch_queries : (k : Num) (z : Stamp) (u : Window) (i n : ℕ) (x : ClpState)
      → (watch_all h k z u i n x).clp.queries ≡ x.queries
  watch_queries k z u i zero x = refl
  watch_queries k z u i (suc n) x =
      watch_queries k z u (suc i) n (at_record h i (take_watch i k z u) x).clp ∙ one (rec_at x.records i)
    where
      one : (r : Option Parts) → (on_record h i (take_watch i k z u) r x).clp.queries ≡ x.queries
      one None = refl
      one (Some r) = refl

  class_own : (from : ℕ) (k : Num) (z : Stamp) (j : ℕ) (u : Window) → num_eq m k ≡ true → (x : ClpState)
      → has_reg k x.queries ≡ false → Falls x (clp_after h from (message.Ask k z (query.Class j u)) x) 1
  class_own from k z j u f x fresh =
      let row = class_row h.classes j in
      let s1 : ClpSends = watch_all h k z u row.first row.count x in
      let ds : List ℕ = filter (sent_on h s1.clp.bound from j z u) h.ports in
      let r0 : Registered = reg_of h from k z j u ds in
      let qs = watch_queries k z u row.first row.count x in
      let own : has_reg m x.queries ≡ false = subst (λ n. has_reg n x.queries ≡ false) (sym (nums_same m k f)) fresh in
      let a : reg_rest m (add_reg r0 s1.clp.queries) ≡ waits_rest ds =
      add_own r0 s1.clp.queries f (ap (has_reg m) qs ∙ own) in
      let w0 = (all_same k z u row.first row.count x).1 in
      let b = forwards_ends from r0 ds in
      let t = tally_append (λ (y : Sent). is_end m y.message) s1.sent (forwards h from r0 ds) in
      let two : left x ≡ 2 = none_rest x.queries own in
      subst (λ b. Falls x (cond b (no_clp_sends x) (and_then s1 (registered h from k z j u))) 1) (sym fresh)
      (omega arith)

  -- what a delivery at a communication process costs
  pub clp_cost : (from : ℕ) (y : Message) (x : ClpState)
      → ((k : Num) (z : Stamp) (j : ℕ) (u : Window) → y ≡ message.Ask k z (query.Class j u)
      → has_reg k x.queries ≡ false)
      → Falls x (clp_after h from y x) (one_if (is_asked m y) 0)
  clp_cost from (message.Wake k z) x new = of_same x (no_clp_sends x) (still x)
  clp_cost from (message.Give g) x new = of_same x (record { clp = x; sent = to_agent h g ∷ [] }) (refl, refl)
  clp_cost from (message.Put n t v g) x new =
      of_same x (clp_after h from (message.Put n t v g) x) (put_same from n t v g x)
  clp_cost from (message.Cut n t v) x new =
      of_same x (clp_after h from (message.Cut n t v) x) (cut_same from n t v x)
  clp_cost from (message.Ask k z (query.One v)) x new =
      of_same x (clp_after h from (message.Ask k z (query.One v)) x) (one_same from k z v x)
  clp_cost from (message.Ask k z (query.Class j u)) x new = elim (cases_Bool (num_eq m k)) [
    | inr f ↦ subst (λ b. Falls x (clp_after h from (message.Ask k z (query.Class j u)) x) (one_if b 0)) (sym f)
        (of_same x (clp_after h from (message.Ask k z (query.Class j u)) x) (class_else from k z j u f x))
    | inl f ↦ subst (λ b. Falls x (clp_after h from (message.Ask k z (query.Class j u)) x) (one_if b 0)) (sym f)
        (class_own from k z j u f x (new k z j u refl))
  ]
  clp_cost from (message.Finish k z) x new = elim (cases_Bool (num_eq m k)) [
    | inr f ↦ of_same x (clp_after h from (message.Finish k z) x) (finish_else k from f x.queries)
    | inl f ↦ (let s = subst (λ n. reg_rest m (finish_in n from x.queries).queries
        + ends (finish_in n from x.queries).sent ≤ reg_rest m x.queries) (nums_same m k f)
        (finish_own from x.queries) in omega arith)
  ]
  clp_cost from (message.Move v z r) x new =
      of_same x (clp_after h from (message.Move v z r) x)
      (joins_same v x.queries (installed h from v (settled r) x))
  clp_cost from (message.Grow k z until u) x new =
      of_same x (clp_after h from (message.Grow k z until u) x) (grow_same from k z until u x)
