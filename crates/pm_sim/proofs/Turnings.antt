-- A delivery at a CLP raises turns by one at most.
use Rattle.pm_queries.specs.declared.registered.Sent.{Sent}
use Rattle.pm_queries.specs.declared.registered.Registered.{Registered}
use Rattle.pm_queries.specs.Queries.{ask_of, behind_reg, finish_if, finish_in, finish_one, has_reg, without}
use Rattle.std.proofs.Common.{Bool, List, None, Option, Some, [], ap, arith, cond, false, filter, get_or-set_other, get_or-set_same, inl, inr, length, length-set, map, not, refl, set, subst, suc, sym, true, zero, ℕ, ◌++◌, ◌+◌, ◌<◌, ◌==◌, ◌∙◌, ◌∷◌, ◌≡◌, ◌≤◌}
use Rattle.std.proofs.lemmas.Bool.{cases_eq, cond_both}
use Rattle.pm_base.specs.Layouts.{class_of, class_row}
use Rattle.pm_base.specs.Windows.{point_of, whole}
use Rattle.pm_base.specs.declared.layout.ClassRow.{ClassRow}
use Rattle.pm_base.specs.declared.rows.CutRow.{CutRow}
use Rattle.pm_base.specs.declared.rows.GiveRow.{GiveRow}
use Rattle.pm_base.specs.declared.rows.Parts.{Parts}
use Rattle.pm_base.specs.declared.rows.PutRow.{PutRow}
use Rattle.pm_base.specs.declared.rows.ReadRow.{ReadRow}
use Rattle.pm_base.specs.declared.stamp.Interval.{Interval}
use Rattle.pm_base.specs.declared.stamp.Num.{Num}
use Rattle.pm_base.specs.declared.stamp.Stamp.{Stamp}
use Rattle.pm_base.specs.declared.value.Period.{Period}
use Rattle.pm_base.specs.declared.value.Value.{Value}
use Rattle.pm_base.specs.declared.value.Window.{Window}
use Rattle.pm_message.specs.declared.Message.{Message}
use Rattle.pm_periods.proofs.Hits.{hit_eq-self}
use Rattle.pm_periods.proofs.Settling.{settled-settled}
use Rattle.pm_periods.specs.Periods.{periods_from}
use Rattle.pm_periods.specs.Records.{changed_unless, cut_row, first_read, given_when, hit_eq, hit_in, is_stale, next_give, parts_in_order, record_hit, record_value, refreshed, refreshed_unless, settled, with_cut, with_hit, with_put, with_read}
use Rattle.pm_periods.specs.Rows.{cut_key, has_num, put_key, read_key, rows_in_order}
use Rattle.pm_ranges.specs.Known.{covers}
use Rattle.pm_routes.specs.Routings.{counted, is_drawn}
use Rattle.pm_routes.specs.declared.way.Way.{Way}
use Rattle.pm_tables.specs.Tables.{grow_at, known_at}
use Rattle.pm_clp.specs.Clps.{Answered, ClpSends, ClpState, Hub, and_then, at_record, catches, catching, clp_after, counting, floor_of, forwards, grow_bound, installed, leaves, leaving, no_clp_sends, on_record, on_way, queries_watch, rec_at, reg_of, registered, sent_on, take_cut, take_put, take_watch, tell, tell_from, tell_one, tell_periods, tell_record, telling, to_agent, watch_all, watch_if, way_of, with_count}
use Rattle.pm_sim.proofs.Edges.{rows_in}
use Rattle.pm_sim.proofs.Letters.{in_map}
use Rattle.pm_sim.proofs.Lists.{each_in, in_cases}
use Rattle.pm_sim.proofs.Places.{in_range}
use Rattle.pm_sim.proofs.Tellings.{add_read_in, given_hit, given_in, given_stamp, given_window}
use Rattle.pm_sim.specs.Sims.{In, changed_gives, given}
use Rattle.pm_sim.specs.Taken.{TurnOf, Turns, TurnsIn}
use Rattle.pm_message.specs.declared.Message.TheVariants as message
use Rattle.pm_base.specs.declared.value.Query.TheVariants as query
use Rattle.pm_routes.specs.declared.way.Way.TheVariants as way

-- each read's hit is the record's own
abbrev pub Own : Parts → Type 0
Own r = (x : ReadRow) → In x r.reads → x.hit ≡ record_hit r x

-- no turn of these hits is above k
abbrev pub GivesLow : ℕ → List GiveRow → Type 0
GivesLow k gs = (g : GiveRow) → In g gs → g.turn ≤ k

-- the hits of these records are their own
abbrev pub OwnIn : List (Option Parts) → Type 0
OwnIn rs = (v : ℕ) (r : Parts) → rec_at rs v ≡ Some r → Own r

given_up : (q : ReadRow) (h : Option Value) (m : ℕ) → q.turn + 1 ≤ m → (given q h).turn ≤ m
given_up q h m le = go (not (hit_eq h q.hit))
  where
    go : (b : Bool) → (given_when b h q).turn ≤ m
    go false = omega arith
    go true = le

given_kept : (q : ReadRow) (h : Option Value) (m : ℕ) → q.hit ≡ h → q.turn ≤ m → (given q h).turn ≤ m
given_kept q h m e le = (let f : hit_eq h q.hit ≡ true = ap (hit_eq h) e ∙ hit_eq-self h in rw f le)

changed_from : (v : ℕ) (r : Parts) (qs : List ReadRow) (g : GiveRow)
    → In g (changed_gives v r qs) → (q : ReadRow) × In q qs × (g.turn ≡ (given q (record_hit r q)).turn)
changed_from v r [] g i = absurd i
changed_from v r (q ∷ qs) g i = (let again = changed_from v r qs g in go (hit_eq (record_hit r q) q.hit) refl again i)
  where
    go : (b : Bool) → hit_eq (record_hit r q) q.hit ≡ b
        → (In g (changed_gives v r qs) → (q' : ReadRow) × In q' qs × (g.turn ≡ (given q' (record_hit r q')).turn))
        → In g (map (next_give v (record_value r))
        (cond (not b) (q ∷ filter (is_stale (record_value r)) qs) (filter (is_stale (record_value r)) qs)))
        → (q' : ReadRow) × In q' (q ∷ qs) × (g.turn ≡ (given q' (record_hit r q')).turn)
    go true f rec i = (let o = rec i in (o.0, inr o.1, o.2))
    go false f rec (inl e) =
        (q, inl refl, ap (λ (y : GiveRow). y.turn) e ∙ sym (ap (λ b. (given_when (not b) (record_hit r q) q).turn) f))
    go false f rec (inr j) = (let o = rec j in (o.0, inr o.1, o.2))

refreshed_low : (v : ℕ) (r : Parts) (m : ℕ) → ((q : ReadRow) → In q r.reads → (given q (record_hit r q)).turn ≤ m)
    → Turns m (refreshed r) × GivesLow m (changed_gives v r r.reads)
refreshed_low v r m h = (
  λ x i. (let o = given_in r r.reads x i in subst (λ (z : ReadRow). z.turn ≤ m) (sym o.2) (h o.0 o.1)),
  λ g i. (let o = changed_from v r r.reads g i in subst (λ z. z ≤ m) (sym o.2) (h o.0 o.1)),
)

abbrev Low : ℕ → Answered → Type 0
Low m a = Turns m a.rec × GivesLow m a.gives

-- a record that takes a row, or had it
row_low : (v k : ℕ) (known : Bool) (r r0 : Parts) → Turns k r
    → Turns k r0 → Low (suc k) (record { rec = refreshed_unless known r r0; gives = changed_unless known v r0 })
row_low v k true r r0 h h0 = (λ y i. (let a = h y i in omega arith), λ g i. absurd i)
row_low v k false r r0 h h0 =
    refreshed_low v r0 (suc k) (λ q i. given_up q (record_hit r0 q) (suc k) (let a = h0 q i in omega arith))

put_low : (v : ℕ) (x : PutRow) (r : Parts) (k : ℕ) → Turns k r → Low (suc k) (take_put v x r)
put_low v x r k h = row_low v k (has_num put_key x.num r.puts) r (with_put x r) h h

cut_low : (v : ℕ) (x : CutRow) (r : Parts) (k : ℕ) → Turns k r → Low (suc k) (take_cut v x r)
cut_low v x r k h = row_low v k (has_num cut_key x.num r.cuts) r (with_cut x r) h h

hit_of_given : (r : Parts) (q : ReadRow) (h : Option Value) → record_hit r (given q h) ≡ record_hit r q
hit_of_given r q h = (let a = given_stamp q h in let b = given_window q h in
    ap (λ z. hit_in (record_value r z) (given q h).window) a ∙ ap (λ z. hit_in (record_value r q.stamp) z) b)

-- a record whose hits are its own raises no turn but the new read's
watch_low : (v : ℕ) (n : Num) (s : Stamp) (w : Window) (r : Parts) (m : ℕ)
    → 1 ≤ m → Own r → Turns m r → Low m (take_watch v n s w r) × Own (take_watch v n s w r).rec
watch_low v n s w r m one own h = go (has_num read_key n r.reads)
  where
    row : ReadRow
    row = first_read n s w

    r0 : Parts
    r0 = with_read (first_read n s w) r

    go : (b : Bool) → Low m (record {
      rec = refreshed_unless b r (with_read (first_read n s w) r);
      gives =
          changed_unless b v (with_read (first_read n s w) r);
    })
        × Own (refreshed_unless b r (with_read (first_read n s w) r))
    go true = ((h, λ g i. absurd i), own)
    go false = (
      refreshed_low v r0 m (λ q i. elim (add_read_in row r.reads q i) [
        | inl e ↦ given_up q (record_hit r0 q) m (let f = ap (λ (z : ReadRow). z.turn) e in omega arith)
        | inr j ↦ given_kept q (record_hit r0 q) m (own q j) (h q j)
      ]),
      λ x i. (let o = given_in r0 r0.reads x i in
          ap (λ (z : ReadRow). z.hit) o.2 ∙ (given_hit o.0 (record_hit r0 o.0)
          ∙ sym (ap (record_hit r0) o.2 ∙ hit_of_given r0 o.0 (record_hit r0 o.0)))),
    )

set_in : (P : Parts → Type 0) (rs : List (Option Parts)) (v : ℕ) (r0 r : Parts)
    → rec_at rs v ≡ Some r0 → P r → ((u : ℕ) (x : Parts) → rec_at rs u ≡ Some x → P x)
    → (u : ℕ) (x : Parts) → rec_at (set rs v (Some r)) u ≡ Some x → P x
set_in P rs v r0 r e p h u x f = elim (cases_eq u v) [
  | inl g ↦ subst P (some_same r x
      (sym (get_or-set_same rs v (Some r) None (in_range rs v r0 e)) ∙ (ap (rec_at (set rs v (Some r))) (sym g) ∙ f))) p
  | inr ne ↦ h u x (sym (get_or-set_other rs v u (Some r) None ne) ∙ f)
]
  where
    some_same : (a b : Parts) → Some a ≡ Some b → a ≡ b
    some_same a b g = cc

set_none : (P : Parts → Type 0) (rs : List (Option Parts)) (v : ℕ) (r0 : Parts) → rec_at rs v ≡ Some r0
    → ((u : ℕ) (x : Parts) → rec_at rs u ≡ Some x → P x) → (u : ℕ) (x : Parts) → rec_at (set rs v None) u ≡ Some x → P x
set_none P rs v r0 e h u x f = elim (cases_eq u v) [
  | inl g ↦ absurd (let k : None ≡ Some x =
      sym (get_or-set_same rs v None None (in_range rs v r0 e)) ∙ (ap (rec_at (set rs v None)) (sym g) ∙ f) in cc)
  | inr ne ↦ h u x (sym (get_or-set_other rs v u None None ne) ∙ f)
]

module _ (h : Hub) (m : ℕ) where
  abbrev AllLow : List Sent → Type 0
  AllLow ss = (y : Sent) → In y ss → TurnOf m y.message

  abbrev pub Good : ClpSends → Type 0
  Good r = TurnsIn m r.clp.records × AllLow r.sent

  none : AllLow []
  none y i = absurd i

  both : (xs ys : List Sent) → AllLow xs → AllLow ys → AllLow (xs ++ ys)
  both xs ys a e y i = elim (in_cases xs ys y i) [ inl j ↦ a y j | inr j ↦ e y j ]

  one : (y : Sent) → TurnOf m y.message → AllLow (y ∷ [])
  one y o x i = elim i [ inl e ↦ subst (λ (z : Sent). TurnOf m z.message) (sym e) o | inr z ↦ absurd z ]

  still : (s : ClpState) → TurnsIn m s.records → Good (no_clp_sends s)
  still s h = (h, none)

  chain : (r : ClpSends) (f : ClpState → ClpSends)
      → Good r → ((s : ClpState) → TurnsIn m s.records → Good (f s)) → Good (and_then r f)
  chain r f a e = (let o = e r.clp a.0 in (o.0, both r.sent (f r.clp).sent a.1 o.1))

  gives_low : (gs : List GiveRow) → GivesLow m gs → AllLow (map (to_agent h) gs)
  gives_low gs g y i =
      (let o = in_map (to_agent h) gs y i in subst (λ (z : Sent). TurnOf m z.message) (sym o.2) (g o.0 o.1))

  -- a record takes a letter: its turns rise from k to m
  raised : (k v : ℕ) (f : Parts → Answered) → k ≤ m
      → ((r : Parts) → Turns k r → Low m (f r)) → (s : ClpState) → TurnsIn k s.records → Good (at_record h v f s)
  raised k v f le low s g = go (rec_at s.records v) refl
    where
      more : TurnsIn m s.records
      more u x e y i = (let a = g u x e y i in omega arith)

      go : (o : Option Parts) → rec_at s.records v ≡ o → Good (on_record h v f o s)
      go None e = still s more
      go (Some r) e =
          (let a = low r (g v r e) in (set_in (Turns m) s.records v r (f r).rec e a.0 more, gives_low (f r).gives a.1))

  -- a record watches
  watched : 1 ≤ m → (v : ℕ) (k : Num) (z : Stamp) (w : Window) (s : ClpState) → TurnsIn m s.records → OwnIn s.records
      → Good (at_record h v (take_watch v k z w) s) × OwnIn (at_record h v (take_watch v k z w) s).clp.records
  watched le v k z w s g own = go (rec_at s.records v) refl
    where
      go : (o : Option Parts) → rec_at s.records v ≡ o
          → Good (on_record h v (take_watch v k z w) o s) × OwnIn (on_record h v (take_watch v k z w) o s).clp.records
      go None e = (still s g, own)
      go (Some r) e = (let a = watch_low v k z w r m le (own v r e) (g v r e) in (
        (
          set_in (Turns m) s.records v r (take_watch v k z w r).rec e a.0.0 g,
          gives_low
              (take_watch v k z w r).gives a.0.1,
        ),
        set_in Own s.records v r (take_watch v k z w r).rec e a.1 own,
      ))

  -- bounds
  catch_low : (d k : ℕ) (s : ClpState) → TurnsIn m s.records → Good (catching h d k s)
  catch_low d k s g = (
    g,
    λ y j. (let o = in_map (λ (r : Registered). record { to = d; message = ask_of r })
        (filter (catches h s.bound d k) s.queries) y j in subst (λ (z : Sent). TurnOf m z.message) (sym o.2) tt),
  )

  tell_low : (k : ℕ) (from : Stamp) (until : Option Stamp) (w : Window) (ds : List ℕ) (s : ClpState)
      → TurnsIn m s.records → Good (tell h k from until w ds s)
  tell_low k from until w [] s g = still s g
  tell_low k from until w (d ∷ ds) s g =
      let when : Interval = record { from = Some from; until = until } in
      let told : ClpSends = record {
        clp = record s { told = grow_at h.ports d k when w s.told };
        sent =
            record { to = d; message = message.Grow k from until w } ∷ [];
      } in
      chain (tell_one h k from until w d s) (tell h k from until w ds)
      (cond_both (covers (known_at h.ports d k s.told) when w) (no_clp_sends s)
      told Good (λ _. still s g) (λ _. (g, one (record { to = d; message = message.Grow k from until w }) tt)))
      (tell_low k from until w ds)

  periods_low : (k : ℕ) (rs : List Period) (s : ClpState) → TurnsIn m s.records → Good (tell_periods h k rs s)
  periods_low k [] s g = still s g
  periods_low k (r ∷ rs) s g =
      chain (tell_from h k r.when.from r s) (tell_periods h k rs) (go r.when.from) (periods_low k rs)
    where
      go : (o : Option Stamp) → Good (tell_from h k o r s)
      go None = still s g
      go (Some from) = tell_low k from r.when.until (point_of r.value) h.ports s g

  telling_low : (v : ℕ) (from : Stamp) (s : ClpState) → TurnsIn m s.records → Good (telling h v from s)
  telling_low v from s g = go (rec_at s.records v)
    where
      go : (o : Option Parts) → Good (tell_record h v from o s)
      go None = still s g
      go (Some r) = periods_low (class_of h.classes v) (periods_from r (Some from)) s g

  counted_low : (v : ℕ) (from : ℕ) (s : ClpState) → TurnsIn m s.records → Good (counting h v from s)
  counted_low v from s g = go (is_drawn (counted s.routing v from) v from) (rec_at s.records v) refl
    where
      z : ClpState
      z = with_count h v from s

      go : (b : Bool) (o : Option Parts) → rec_at s.records v ≡ o → Good (leaves h b v from o (with_count h v from s))
      go false o e = still z g
      go true None e = still z g
      go true (Some r) e = chain (leaving h v from r z) (catching h from (class_of h.classes v)) (
        set_none (Turns m)
            s.records v r e g,
        one (record { to = from; message = message.Move v (floor_of z.line) r }) (g v r e),
      )
          (catch_low from (class_of h.classes v))

  -- class queries
  watch_good : 1 ≤ m → (k : Num) (z : Stamp) (w : Window) (i n : ℕ) (s : ClpState)
      → TurnsIn m s.records → OwnIn s.records → Good (watch_all h k z w i n s)
  watch_good le k z w i zero s g own = still s g
  watch_good le k z w i (suc n) s g own =
      let r : ClpSends = at_record h i (take_watch i k z w) s in
      let a = watched le i k z w s g own in
      let o = watch_good le k z w (suc i) n r.clp a.0.0 a.1 in
      (o.0, both r.sent (watch_all h k z w (suc i) n r.clp).sent a.0.1 o.1)

  forwards_low : (from : ℕ) (r : Registered) (ds : List ℕ) → AllLow (forwards h from r ds)
  forwards_low from r [] = one (record { to = from; message = message.Finish r.num r.stamp }) tt
  forwards_low from r (d ∷ ds) = λ y i. (let o = in_map (λ e. record { to = e; message = ask_of r }) (d ∷ ds) y i in
      subst (λ (z : Sent). TurnOf m z.message) (sym o.2) tt)

  registered_low : (from : ℕ) (k : Num) (z : Stamp) (j : ℕ) (w : Window) (s : ClpState)
      → TurnsIn m s.records → Good (registered h from k z j w s)
  registered_low from k z j w s g = (
    g,
    forwards_low from (reg_of h from k z j w (filter (sent_on h s.bound from j z w) h.ports))
        (filter (sent_on h s.bound from j z w) h.ports),
  )

  finish_low : (k : Num) (d : ℕ) (rs : List Registered) → AllLow (finish_in k d rs).sent
  finish_low k d [] = none
  finish_low k d (r ∷ rs) = cond_both _ (finish_one d r rs _)
      (behind_reg r (finish_in k d rs)) (λ e. AllLow e.sent) (λ _. ends _) (λ _. finish_low k d rs)
    where
      done : (ws : List ℕ) → AllLow (finish_if ws r)
      done [] = one (record { to = r.from; message = message.Finish r.num r.stamp }) tt
      done (y ∷ ws) = none

      ends : (x : Bool) → AllLow (finish_one d r rs x).sent
      ends true = done (without d r.waits)
      ends false = none

  joins_low : 1 ≤ m → (v : ℕ) (rs : List Registered) (s : ClpState)
      → TurnsIn m s.records → OwnIn s.records → Good (queries_watch h v rs s)
  joins_low le v [] s g own = still s g
  joins_low le v (r ∷ rs) s g own = go (class_of h.classes v == r.class) (joins_low le v rs)
    where
      go : (b : Bool) → ((z : ClpState) → TurnsIn m z.records → OwnIn z.records → Good (queries_watch h v rs z))
          → Good (and_then (watch_if h b v r s) (queries_watch h v rs))
      go false again = again s g own
      go true again = (let first : ClpSends = at_record h v (take_watch v r.num r.stamp r.window) s in
          let a = watched le v r.num r.stamp r.window s g own in
          let o = again first.clp a.0.0 a.1 in
          (o.0, both first.sent (queries_watch h v rs first.clp).sent a.0.1 o.1))

  way_low : (y : Way) (x : Message) (s : ClpState) (f : ClpState → ClpSends)
      → TurnsIn m s.records → TurnOf m x → Good (f s) → Good (on_way h y x s f)
  way_low way.Here x s f g o a = a
  way_low (way.Port d) x s f g o a = (g, one (record { to = d; message = x }) o)

-- a delivery at a CLP raises turns by one at most
module _ (h : Hub) (k : ℕ) where
  abbrev G : ClpSends → Type 0
  G = Good h (suc k)

  pub clp_low : (from : ℕ) (x : Message) (s : ClpState)
      → TurnsIn k s.records → OwnIn s.records → TurnOf k x → G (clp_after h from x s)
  clp_low from x s g own t = by from x t
    where
      more : TurnsIn (suc k) s.records
      more u y e z i = (let a = g u y e z i in omega arith)

      le : 1 ≤ suc k
      le = omega arith

      up : k ≤ suc k
      up = omega arith

      settled_turns : (r : Parts) → Turns k r → Turns (suc k) (settled r)
      settled_turns r hr y i =
          (let o = in_map (with_hit (record_value (parts_in_order r))) (rows_in_order read_key r.reads) y i in
          let a = hr o.0 (rows_in read_key r.reads o.0 o.1) in let e = ap (λ (z : ReadRow). z.turn) o.2 in omega arith)

      settled_own : (r : Parts) → Own (settled r)
      settled_own r y i = each_in (λ q. q.hit ≡ record_hit (settled r) q) (settled r).reads y (settled-settled r).hits i

      moved : (f : ℕ) (v : ℕ) (z : Stamp) (r : Parts) → Turns k r → G (clp_after h f (message.Move v z r) s)
      moved f v z r u = joins_low h (suc k) le v s.queries
          (installed h f v (settled r) s) (each (Turns (suc k)) (settled_turns r u) more) (each Own (settled_own r) own)
        where
          -- the record is set, where there is a place for it
          rs : List (Option Parts)
          rs = set s.records v (Some (settled r))

          each : (P : Parts → Type 0) → P (settled r) → ((w : ℕ) (y : Parts) → rec_at s.records w ≡ Some y → P y)
              → (w : ℕ) (y : Parts) → rec_at (set s.records v (Some (settled r))) w ≡ Some y → P y
          each P ps hs w y e = elim (cases_eq w v) [
            | inr ne ↦ hs w y (sym (get_or-set_other s.records v w (Some (settled r)) None ne) ∙ e)
            | inl g ↦ (let e' : rec_at rs v ≡ Some y = ap (rec_at rs) (sym g) ∙ e in
                let lt : v < length s.records =
                (let a = in_range rs v y e' in let l = length-set s.records v (Some (settled r)) in omega arith) in
                subst
                P (some_same (settled r) y (sym (get_or-set_same s.records v (Some (settled r)) None lt) ∙ e')) ps)
          ]
            where
              some_same : (x y : Parts) → Some x ≡ Some y → x ≡ y
              some_same x y h = cc

      by : (f : ℕ) (y : Message) → TurnOf k y → G (clp_after h f y s)
      by f (message.Wake n z) u = (more, none h (suc k))
      by f (message.Give y) u = (more, one h (suc k) (to_agent h y) (let a : y.turn ≤ k = u in omega arith))
      by f (message.Put r_n r_t v r_c) u =
          let r : PutRow = record { num = r_n; stamp = r_t; change = r_c } in
          way_low h (suc k) (way_of v s) (message.Put r_n r_t v r_c) s _ more tt
          (chain h (suc k) (and_then (at_record h v (take_put v r) s) (telling h v r_t)) (counting h v f)
          (chain h (suc k) (at_record h v (take_put v r) s) (telling h v r_t) (raised h (suc k) k v (take_put v r)
          up (λ y hy. put_low v r y k hy) s g) (telling_low h (suc k) v r_t)) (counted_low h (suc k) v f))
      by f (message.Cut r_n r_t v) u =
          let r : CutRow = cut_row r_n r_t in
          way_low h (suc k) (way_of v s) (message.Cut r_n r_t v) s _ more tt
          (chain h (suc k) (at_record h v (take_cut v r) s) (telling h v r_t)
          (raised h (suc k) k v (take_cut v r) up (λ y hy. cut_low v r y k hy) s g) (telling_low h (suc k) v r_t))
      by f (message.Ask n z (query.One v)) u =
          way_low h (suc k) (way_of v s) (message.Ask n z (query.One v)) s _ more tt
          (chain h (suc k) (at_record h v (take_watch v n z whole) s)
          (counting h v f) (watched h (suc k) le v n z whole s more own).0 (counted_low h (suc k) v f))
      by f (message.Ask n z (query.Class j w)) u =
          let row : ClassRow = class_row h.classes j in
          cond_both (has_reg n s.queries) (no_clp_sends s) (and_then
          (watch_all h n z w row.first row.count s) (registered h f n z j w)) G (λ _. still h (suc k) s more)
          (λ _. chain h (suc k) (watch_all h n z w row.first row.count s) (registered h f n z j w)
          (watch_good h (suc k) le n z w row.first row.count s more own) (registered_low h (suc k) f n z j w))
      by f (message.Finish n z) u = (more, finish_low h (suc k) n f s.queries)
      by f (message.Move v z r) u = moved f v z r u
      by f (message.Grow j z y w) u =
          let s1 : ClpState = grow_bound h f j (record { from = Some z; until = y }) w s in
          chain h (suc k) (catching h f j s1) (tell h j z y w (without f h.ports))
          (catch_low h (suc k) f j s1 more) (tell_low h (suc k) j z y w (without f h.ports))
