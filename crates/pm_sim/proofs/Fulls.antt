-- The whole fact, and a CLP's events.
use Rattle.pm_queries.specs.Queries.{has_reg}
use Rattle.pm_tables.specs.Tables.{known_at}
use Rattle.pm_base.specs.Stamps.{num_eq}
use Rattle.pm_sim.specs.Bounds.{grow_all, Item, tells, between, item_of, items, sent_to, table_ok, BoundsOk}
use Rattle.pm_sim.specs.Bounds.Item.{Grows, Moves}
use Rattle.pm_ranges.specs.Joins.{AllIn}
use Rattle.pm_base.specs.Windows.{inside}
use Rattle.pm_clp.specs.Clps.{telling, tell_periods, tell_record, Answered, ClpState, rec_at, take_put, take_cut, take_watch}
use Rattle.pm_sim.proofs.Sides.{Alike, told_alike, periods_here, periods_else, EachBegins}
use Rattle.pm_sim.proofs.Changes.{rows_from}
use Rattle.pm_sim.proofs.Acts.{acts, acts_here, acts_there, acts_bag, Quiet, quiet_act, quiet_telling, periods_begin, class_low}
use Rattle.pm_sim.proofs.Places.{to_agent_of, lift, HubSends, clp_at, Sim, in_range, set_rec, set_here, set_there, landed, bag, clp_here, clp_there}
use Rattle.pm_sim.specs.Covers.{Placed, Stands, AskedOk, Door}
use Rattle.pm_sim.proofs.Wires.{items_taken, no_items, between_mail, items_append}
use Rattle.pm_sim.proofs.Bounding.{bounds_plain, bounds_told}
use Rattle.pm_sim.specs.Worlds.{hub_of, ports, Link, Mail, Posted, Process, Taken, World, mail, take_from, clps_of, no_clp}
use Rattle.pm_base.specs.declared.value.Period.{Period}
use Rattle.pm_periods.specs.Periods.{periods_from}
use Rattle.std.specs.Prelude.{◌++◌, ◌⊎◌}
use Rattle.std.proofs.lemmas.Bool.{cases_eq, cases_Bool, cond_both}
use Rattle.std.proofs.Common.{◌≡◌, ℕ, ◌<◌, ◌≤◌, inl, inr, ◌==◌, Bool, true, false, cond, ◌||◌, List, [], ◌∷◌, map, length, set, refl, arith, ap, sym, ◌∙◌, subst, subst₂, Option, Some, None, get_or-set_other, get_or-set_same}
use Rattle.std.proofs.lemmas.Bool.Decides.{nat_tests}
use Rattle.pm_base.specs.declared.rows.CutRow.{CutRow}
use Rattle.pm_base.specs.declared.rows.GiveRow.{GiveRow}
use Rattle.pm_base.specs.declared.rows.Parts.{Parts}
use Rattle.pm_base.specs.declared.rows.PutRow.{PutRow}
use Rattle.pm_base.specs.declared.rows.ReadRow.{ReadRow}
use Rattle.pm_base.specs.declared.stamp.Num.{Num}
use Rattle.pm_base.specs.declared.stamp.Stamp.{Stamp}
use Rattle.pm_base.specs.declared.value.Window.{Window}
use Rattle.pm_message.specs.declared.Message.{Message}
use Rattle.pm_model.specs.declared.State.{State}
use Rattle.pm_periods.specs.Records.{record_value, refreshed, with_put, with_cut, with_read, first_read}
use Rattle.pm_periods.specs.Rows.{add_row, read_key}
use Rattle.pm_plan.specs.declared.plan.Plan.{Plan}
use Rattle.pm_sim.specs.Worlds.Process.{AtClp}
use Rattle.pm_sim.specs.Sims.{In, NotPast, class_at, has_cut, has_put, has_read, told}
use Rattle.pm_sim.specs.Routings.{is_move, mail_to, stands_at}
use Rattle.pm_sim.proofs.Asking.{asked_plain}
use Rattle.pm_sim.proofs.Catches.{in_has}
use Rattle.pm_sim.proofs.Letters.{sent_mail, in_map}
use Rattle.pm_sim.proofs.Lines.{get_past}
use Rattle.pm_sim.proofs.Lists.{in_cases}
use Rattle.pm_sim.proofs.Quiets.{tally_in, val}
use Rattle.pm_sim.proofs.Tellings.{given_has, add_read_has}
use Rattle.pm_sim.proofs.Hubs.{taken_r}
use Rattle.pm_base.specs.declared.value.Query.TheVariants as query
use Rattle.pm_message.specs.declared.Message.TheVariants as message
use Rattle.pm_sim.proofs.Hubs.{told_r}

pub record Full (p : Plan) (q : State) (w : World) : Type 0 where
  pub recs : ℕ → Parts
  pub sim : Sim p q w recs
  pub asked : AskedOk p (length q.values) recs (clp_at w) (mail w.links)
  pub bounds : BoundsOk p w.line recs (clp_at w) w.links

pub some_of : (o : Option Parts) → stands_at o ≡ true → (y : Parts) × (o ≡ Some y)
some_of None e = absurd (cc)
some_of (Some y) e = (y, refl)

pub there_of : (o : Option Parts) (y : Parts) → o ≡ Some y → stands_at o ≡ true
there_of o y e = ap stands_at e

pub set_there_same : (rs : List (Option Parts)) (v : ℕ) (y r : Parts)
    → rec_at rs v ≡ Some y → (u : ℕ) → stands_at (rec_at (set rs v (Some r)) u) ≡ stands_at (rec_at rs u)
set_there_same rs v y r e u = elim (cases_eq u v) [
  | inl f ↦ subst (λ z. stands_at (rec_at (set rs v (Some r)) z) ≡ stands_at (rec_at rs z))
      (sym f) (ap stands_at (get_or-set_same rs v (Some r) None (in_range rs v y e)) ∙ sym (ap stands_at e))
  | inr ne ↦ ap stands_at (get_or-set_other rs v u (Some r) None ne)
]

-- a letter of no class
abbrev pub Itemless : Plan → Message → Type 0
Itemless p m = (k : ℕ) → item_of p k m ≡ []

-- an item that is a Move is of a Move
pub moves_in : (p : Plan) (k v : ℕ) (ms : List Message)
    → In (Moves v) (items p k ms) → (s : Stamp) × (r : Parts) × In (message.Move v s r) ms
moves_in p k v [] i = absurd i
moves_in p k v (m ∷ ms) i = elim (in_cases (item_of p k m) (items p k ms) (Moves v) i) [
  | inr j ↦ (let o = moves_in p k v ms j in (o.0, o.1, inr o.2))
  | inl j ↦ one m j
]
  where
    one : (x : Message) → In (Moves v) (item_of p k x) → (s : Stamp) × (r : Parts) × In (message.Move v s r) (x ∷ ms)
    one (message.Wake n s) j = absurd j
    one (message.Ask n s y) j = absurd j
    one (message.Put y_n y_t u y_c) j = absurd j
    one (message.Cut y_n y_t u) j = absurd j
    one (message.Give g) j = absurd j
    one (message.Finish n s) j = absurd j
    one (message.Move u s r) j = elim (cases_Bool (class_at p u == k)) [
      | inl f ↦ elim (subst (λ z. In (Moves v) (cond z (Moves u ∷ []) [])) f j) [
        | inl g ↦ (s, r, inl (ap (λ z. message.Move z s r) (same v u g)))
        | inr b ↦ absurd b
      ]
      | inr f ↦ absurd (subst (λ z. In (Moves v) (cond z (Moves u ∷ []) [])) f j)
    ]
      where
        same : (a b : ℕ) → Moves a ≡ Moves b → a ≡ b
        same a b h = cc
    one (message.Grow a s y u) j = elim (cases_Bool (a == k)) [
      | inl f ↦ elim (subst (λ z. In (Moves v)
          (cond z (Grows (record { when = record { from = Some s; until = y }; window = u }) ∷ []) [])) f j) [
            | inl g ↦ absurd (cc)
            | inr b ↦ absurd b
          ]
      | inr f ↦ absurd (subst (λ z. In
          (Moves v) (cond z (Grows (record { when = record { from = Some s; until = y }; window = u }) ∷ []) [])) f j)
    ]

-- what bounds need of places
pub placed : (p : Plan) (q : State) (w : World) (recs : ℕ → Parts)
    → Sim p q w recs → Placed p recs (clp_at w) (mail w.links)
placed p q w recs sim = record {
  only = λ v c d h k. (let o = in_clp c v h in let o2 =
      in_clp d v k in sym (sim.places.at c v o.1 o.0 o.2).0 ∙ (sim.places.at d v o2.1 o2.0 o2.2).0);
  still = λ v c h a b s r i. (let o = in_clp c v h in
      let m = sim.moves.moves a b v s r i in
      let t = tally_in (is_move v) (mail w.links) _ i (let e : (v == v) ≡ true = grind (arith, nat_tests) in e) in
      let pc = (sim.places.at c v o.1 o.0 o.2).0 in
      elim (sim.moves.placed v m.0).1 [
        | inl x ↦ (let z = x.1 in omega arith)
        | inr x ↦ (let y : stands_at (rec_at (clp_at w c).records v) ≡ false =
            subst (λ z. stands_at (rec_at (clp_at w z).records v) ≡ false) pc x.0 in cc)
      ]);
  move_edge = λ a b v s r i. (let m = sim.moves.moves a b v s r i in (sim.place v, m.3, m.4, m.5, (m.6, m.7)));
  here = λ v c r e. (let o = in_clp c v (there_of _ r e) in (sim.places.at c v r o.0 e).1);
  moving = λ a b v s r i. (sim.moves.moves a b v s r i).1;
}
  where
    in_clp : (d v : ℕ) → stands_at (rec_at (clp_at w d).records v) ≡ true
        → (d < clps_of p) × (y : Parts) × (rec_at (clp_at w d).records v ≡ Some y)
    in_clp d v h = elim (in_or_out d) [
      | inl ld ↦ (let o = some_of _ h in (ld, o.0, o.1))
      | inr n ↦ absurd (let f : stands_at (rec_at (clp_at w d).records v) ≡ false = ap (λ (z : ClpState).
          stands_at (rec_at z.records v)) (get_past w.clps d no_clp (let o = sim.size in omega arith)) in cc)
    ]
      where
        in_or_out : (d : ℕ) → (d < clps_of p) ⊎ (clps_of p ≤ d)
        in_or_out d = grind arith

pub stands : (p : Plan) (recs : ℕ → Parts) (cs : ℕ → ClpState) (ms : List Mail)
    → Placed p recs cs ms → (c v : ℕ) (y : Parts) → rec_at (cs c).records v ≡ Some y → Stands cs ms v c
stands p recs cs ms pl c v y e =
    record { only = λ d h. pl.only v d c h (there_of _ y e); still = pl.still v c (there_of _ y e) }

pub no_moving : (p : Plan) (cs : ℕ → ClpState) (ls : List Link) (v c : ℕ)
    → Stands cs (mail ls) v c → (k d e : ℕ) → In (Moves v) (items p k (between (AtClp e) (AtClp d) ls)) → ⊥
no_moving p cs ls v c st k d e i = (let o = moves_in p k v (between (AtClp e) (AtClp d) ls) i in
    st.still (AtClp e) (AtClp d) o.0 o.1 (between_mail (AtClp e) (AtClp d) ls _ o.2))

-- ---- reads

pub put_reads : (v : ℕ) (row : PutRow) (r : Parts) (m : Num)
    → has_read m (take_put v row r).rec.reads ≡ has_read m r.reads
put_reads v row r m = cond_both (has_put row.num r.puts) r (refreshed (with_put row r))
    (λ (z : Parts). has_read m z.reads ≡ has_read m r.reads) (λ _. refl) (λ _. given_has (with_put row r) m r.reads)

pub cut_reads : (v : ℕ) (row : CutRow) (r : Parts) (m : Num)
    → has_read m (take_cut v row r).rec.reads ≡ has_read m r.reads
cut_reads v row r m = cond_both (has_cut row.num r.cuts) r (refreshed (with_cut row r))
    (λ (z : Parts). has_read m z.reads ≡ has_read m r.reads) (λ _. refl) (λ _. given_has (with_cut row r) m r.reads)

pub watch_reads : (v : ℕ) (n : Num) (s : Stamp) (w : Window) (r : Parts) (m : Num)
    → has_read m r.reads ≡ true → has_read m (take_watch v n s w r).rec.reads ≡ true
watch_reads v n s w r m e =
    let row : ReadRow = first_read n s w in
    cond_both (has_read n r.reads) r (refreshed (with_read row r)) (λ (z : Parts). has_read m z.reads ≡ true) (λ _. e)
    (λ _. given_has (with_read row r) m (add_row read_key row r.reads)
    ∙ (add_read_has row r.reads m ∙ right (num_eq m n) (has_read m r.reads) e))
  where
    right : (a b : Bool) → b ≡ true → (a || b) ≡ true
    right true b h = refl
    right false b h = h

pub set_reads : (recs : ℕ → Parts) (v : ℕ) (r : Parts)
    → ((m : Num) → has_read m (recs v).reads ≡ true → has_read m r.reads ≡ true)
    → (u : ℕ) (m : Num) → has_read m (recs u).reads ≡ true → has_read m (set_rec recs v r u).reads ≡ true
set_reads recs v r h u m e = elim (cases_eq u v) [
  | inl f ↦ subst (λ z. has_read m (set_rec recs v r z).reads ≡ true) (sym f) (subst (λ (z : Parts). has_read m z.reads
      ≡ true) (sym (set_here recs v r)) (h m (subst (λ z. has_read m (recs z).reads ≡ true) f e)))
  | inr ne ↦ subst (λ (z : Parts). has_read m z.reads ≡ true) (sym (set_there recs v r u ne)) e
]

pub set_values : (recs : ℕ → Parts) (v : ℕ) (r : Parts) → ((s : Stamp) → record_value r s ≡ record_value (recs v) s)
    → (u : ℕ) (s : Stamp) → record_value (set_rec recs v r u) s ≡ record_value (recs u) s
set_values recs v r h u s = elim (cases_eq u v) [
  | inl f ↦ subst (λ z. record_value (set_rec recs v r z) s ≡ record_value (recs z) s)
      (sym f) (ap (λ (z : Parts). record_value z s) (set_here recs v r) ∙ h s)
  | inr ne ↦ ap (λ (z : Parts). record_value z s) (set_there recs v r u ne)
]

-- Grows that are sent go over edges
pub sent_grows : (p : Plan) (c : ℕ)
    → c < clps_of p → (ss : List Posted) → ((x : Posted) → In x ss → (k : ℕ) (s : Stamp) (u : Option Stamp) (w : Window)
    → x.message ≡ message.Grow k s u w → (d : ℕ) × (x.to ≡ AtClp d) × In d (ports p c) × (k < length p.layout.classes))
    → (e d k : ℕ) (s : Stamp) (u : Option Stamp) (w : Window) → In (mail_to (AtClp e) (AtClp d) (message.Grow k s u w))
    (sent_mail (AtClp c) ss) → Door p d e × (k < length p.layout.classes)
sent_grows p c lc ss h e d k s u w i =
    let o = in_map (λ (x : Posted). mail_to x.to (AtClp c) x.message) ss _ i in
    let g = h o.0 o.1 k s u w (sym (ap (λ (z : Mail). z.message) o.2)) in
    let dc : d ≡ c = clp_same d c (ap (λ (z : Mail). z.from) o.2) in
    let eg : e ≡ g.0 = clp_same e g.0 (ap (λ (z : Mail). z.to) o.2 ∙ g.1) in
    ((subst (λ z. z < clps_of p) (sym dc) lc, subst₂ (λ x y. In x (ports p y)) (sym eg) (sym dc) g.2), g.3)
  where
    clp_same : (a b : ℕ) → AtClp a ≡ AtClp b → a ≡ b
    clp_same a b f = cc

pub item_grow : (p : Plan) (k : ℕ) (s : Stamp) (u : Option Stamp) (w : Window) (m : Message)
    → m ≡ message.Grow k s u w → Itemless p m → ⊥
item_grow p k s u w m e h = (let a : item_of p k (message.Grow k s u w) ≡ [] =
    subst (λ z. item_of p k z ≡ []) e (h k) in let b : (k == k) ≡ true = grind (arith, nat_tests) in
    let c : Grows (record { when = record { from = Some s; until = u }; window = w }) ∷ [] ≡ [] =
    sym (ap (λ z. cond z (Grows (record { when = record { from = Some s; until = u }; window = w }) ∷ []) []) b)
    ∙ a in cc)

module _ (p : Plan) (q : State) (w : World) (recs : ℕ → Parts) (sim : Sim p q w recs) (asked :
    AskedOk p (length q.values) recs (clp_at w) (mail w.links)) (bounds : BoundsOk p w.line recs (clp_at w) w.links)
    (c : ℕ) (lc : c < clps_of p) where
  abbrev s : ClpState
  s = clp_at w c

  -- an act that neither touches a bound nor a query
  pub idle_asked : (r : HubSends) → Quiet p c w.line s r → ((x : Posted) → In x r.sent → Itemless p x.message)
      → AskedOk p (length q.values) recs (clp_at (acts w c r)) (mail (acts w c r).links)
  idle_asked r qt none = asked_plain p (length q.values)
      c lc (clp_at w) (clp_at (acts w c r)) (mail w.links) (mail (acts w c r).links) [] (sent_mail (AtClp c) r.sent)
      recs recs (acts_there p q w recs sim c lc r) (acts_bag p q w recs sim c lc r) asked (λ v m h. h)
      (sent_grows p c lc r.sent (λ x i k z u y g. absurd (item_grow p k z u y x.message g (none x i))))
      (λ d e m z k u i. absurd i) (λ m h. ap
      (λ (z : ClpState). has_reg m z.queries) (acts_here p q w recs sim c lc r) ∙ (ap (has_reg m) qt.queries ∙ h))
      (ap (λ (z : ClpState). z.queries) (acts_here p q w recs sim c lc r) ∙ qt.queries)
      (ap (λ (z : ClpState). z.bound) (acts_here p q w recs sim c lc r) ∙ qt.bound)
      (λ v y h. (
        y,
        sym (ap (λ (z : ClpState). rec_at z.records v) (acts_here p q w recs sim c lc r)
            ∙ ap (λ z. rec_at z v) qt.records) ∙ h,
      ))

  pub idle_bounds : (r : HubSends)
      → Quiet p c w.line s r → r.clp.told ≡ s.told → ((x : Posted) → In x r.sent → Itemless p x.message)
      → BoundsOk p w.line recs (clp_at (acts w c r)) (acts w c r).links
  idle_bounds r qt told none =
      bounds_plain p sim.tree w.line c lc (clp_at w) (clp_at (acts w c r)) w.links w.links recs recs r.sent
      (acts_there p q w recs sim c lc r) bounds (λ k a b. refl) (λ e k. no_items p k e r.sent (λ x i. none x i k))
      (ap (λ (z : ClpState). z.told) (acts_here p q w recs sim c lc r) ∙ told)
      (ap (λ (z : ClpState). z.bound) (acts_here p q w recs sim c lc r) ∙ qt.bound)
      (λ v. ap (λ (z : ClpState). stands_at (rec_at z.records v)) (acts_here p q w recs sim c lc r)
      ∙ ap (λ z. stands_at (rec_at z v)) qt.records) (λ v z. refl)

  pub idle_full : (r : HubSends) → Quiet p c w.line s r
      → r.clp.told ≡ s.told → ((x : Posted) → In x r.sent → Itemless p x.message) → Full p q (acts w c r)
  idle_full r qt told none = record {
    recs = recs;
    sim = quiet_act p q w recs sim c lc r qt;
    asked = idle_asked r qt none;
    bounds = idle_bounds r qt told none;
  }

  -- a letter is taken
  module _ (from : Process)
      (m : Message) (t : Taken) (e : take_from (AtClp c) from w.links ≡ Some t) (em : t.message ≡ m) where
    abbrev pub W : HubSends → World
    W r = landed p q w recs sim c lc from m t e em r

    pub untaken : (k : ℕ)
        → item_of p k m ≡ [] → (a b : Process) → items p k (between a b t.links) ≡ items p k (between a b w.links)
    untaken k none a b = items_taken p k (AtClp c) from w.links t e (ap (item_of p k) em ∙ none) a b

    -- where it is no class query, and neither a bound nor a query changes
    pub plain_full : (r : HubSends) (recs' : ℕ → Parts) → Sim p q (W r) recs'
        → Itemless p m → ((n : Num) (z : Stamp) (k : ℕ) (u : Window) → message.Ask n z (query.Class k u) ≡ m → ⊥)
        → ((x : Posted) → In x r.sent → Itemless p x.message)
        → r.clp.told ≡ s.told → r.clp.bound ≡ s.bound
        → r.clp.queries ≡ s.queries → ((v : ℕ) → stands_at (rec_at r.clp.records v) ≡ stands_at (rec_at s.records v))
        → ((v : ℕ) (z : Stamp) → record_value (recs' v) z ≡ record_value (recs v) z)
        → ((v : ℕ) (n : Num) → has_read n (recs v).reads ≡ true → has_read n (recs' v).reads ≡ true)
        → Full p q (W r)
    plain_full r recs' sim' none_m not_ask none told bound queries at val reads = record {
      recs = recs';
      sim = sim';
      asked = asked_plain p (length q.values) c lc (clp_at w) (clp_at (W r))
          (mail w.links) (mail (W r).links) (mail_to (AtClp c) from m ∷ []) (sent_mail (AtClp c) r.sent) recs
          recs' (clp_there p q w recs sim c lc from m t e em r) (bag p q w recs sim c lc from m t e em r) asked reads
          (sent_grows p c lc r.sent (λ x i k z u y g. absurd (item_grow p k z u y x.message g (none x i))))
          (λ d e' n z k u i.
          absurd (elim i [ inl f ↦ not_ask n z k u (ap (λ (y : Mail). y.message) f) | inr b ↦ b ]))
          (λ n h. ap (λ (z : ClpState). has_reg n z.queries) here ∙ (ap (has_reg n) queries ∙ h))
          (ap (λ (z : ClpState). z.queries) here ∙ queries) (ap (λ (z : ClpState). z.bound) here ∙ bound)
          (λ v y h. some_of (rec_at s.records v)
          (sym (at v) ∙ (sym (ap (λ (z : ClpState). stands_at (rec_at z.records v)) here) ∙ there_of _ y h)));
      bounds = bounds_plain p sim.tree w.line c
          lc (clp_at w) (clp_at (W r)) w.links t.links recs recs' r.sent (clp_there p q w recs sim c lc from m t e em r)
          bounds (λ k. untaken k (none_m k)) (λ e' k. no_items p k e' r.sent (λ x i. none x i k))
          (ap (λ (z : ClpState). z.told) here ∙ told) (ap (λ (z : ClpState). z.bound) here ∙ bound)
          (λ v. ap (λ (z : ClpState). stands_at (rec_at z.records v)) here ∙ at v) val;
    }
      where
        here : clp_at (W r) c ≡ r.clp
        here = clp_here p q w recs sim c lc from m t e em r

    gives_itemless : (gs : List GiveRow) (x : Posted) → In x (map (to_agent_of p c) gs) → Itemless p x.message
    gives_itemless gs x i k =
        (let o = in_map (to_agent_of p c) gs x i in ap (λ (y : Posted). item_of p k y.message) o.2)

    -- the record of v takes it, and nothing is told: an Ask of a single read
    pub taken_full : (v : ℕ) (f : Parts → Answered) → rec_at s.records v ≡ Some (recs v)
        → Sim p q (W (taken_r p q w recs sim c lc from t v f)) (set_rec recs v (f (recs v)).rec)
        → Itemless p m → ((n : Num) (z : Stamp) (k : ℕ) (u : Window) → message.Ask n z (query.Class k u) ≡ m → ⊥)
        → ((z : Stamp) → record_value (f (recs v)).rec z ≡ record_value (recs v) z)
        → ((n : Num) → has_read n (recs v).reads ≡ true → has_read n (f (recs v)).rec.reads ≡ true)
        → Full p q (W (taken_r p q w recs sim c lc from t v f))
    taken_full v f at sim' none_m not_ask val reads =
        plain_full (taken_r p q w recs sim c lc from t v f) (set_rec recs v (f (recs v)).rec) sim' none_m not_ask
        (gives_itemless (f (recs v)).gives) refl refl refl (set_there_same s.records v (recs v) (f (recs v)).rec at)
        (set_values recs v (f (recs v)).rec val) (set_reads recs v (f (recs v)).rec reads)

    -- the record of v takes it, and tells of its value from z on: a Put or a Cut
    pub told_full : (v : ℕ) (f : Parts → Answered) (z : Stamp) → rec_at s.records v ≡ Some (recs v)
        → NotPast w.line z → Sim p q (W (told_r p q w recs sim c lc from t v f z)) (set_rec recs v (f (recs v)).rec)
        → Itemless p m → ((n : Num) (y : Stamp) (k : ℕ) (u : Window) → message.Ask n y (query.Class k u) ≡ m → ⊥)
        → ((n : Num) → has_read n (recs v).reads ≡ true → has_read n (f (recs v)).rec.reads ≡ true)
        → ((y : Stamp) (u : Window) → (record_value (f (recs v)).rec y ≡ record_value (recs v) y)
        ⊎ (AllIn (rows_from (f (recs v)).rec (Some z)) y u → inside (record_value (f (recs v)).rec y) u ≡ true))
        → Full p q (W (told_r p q w recs sim c lc from t v f z))
    told_full v f z at low sim' none_m not_ask reads val = record {
      recs = recs';
      sim = sim';
      asked = asked_plain p (length q.values) c lc (clp_at w) (clp_at (W r)) (mail w.links)
          (mail (W r).links) (mail_to (AtClp c) from m ∷ []) (sent_mail (AtClp c) r.sent) recs recs' (clp_there p q w
          recs sim c lc from m t e em r) (bag p q w recs sim c lc from m t e em r) asked (set_reads recs v a.rec reads)
          (sent_grows p c lc r.sent grown) (λ d e' n y k u i.
          absurd (elim i [ inl g ↦ not_ask n y k u (ap (λ (x : Mail). x.message) g) | inr b ↦ b ]))
          (λ n h. ap (λ (x : ClpState). has_reg n x.queries) here ∙ (ap (has_reg n) qt.queries ∙ h))
          (ap (λ (x : ClpState). x.queries) here ∙ qt.queries) (ap (λ (x : ClpState). x.bound) here ∙ qt.bound)
          (λ u y h. some_of (rec_at s.records u)
          (sym (at_same u) ∙ (sym (ap (λ (x : ClpState). stands_at (rec_at x.records u)) here) ∙ there_of _ y h)));
      bounds = bounds_told p sim.tree w.line c lc (clp_at w) (clp_at (W r)) w.links t.links recs recs' r.sent (clp_there
          p q w recs sim c lc from m t e em r) bounds v (rows_from a.rec (Some z)) (λ k. untaken k (none_m k))
          (λ e' port. ap (λ (x : ClpState). known_at (ports p c) e' (class_at p v) x.told) here
          ∙ (ap (λ (x : HubSends). known_at (ports p c) e' (class_at p v) x.clp.told) T_is ∙ (at_port e' port).0))
          (λ e' k n. ap (λ (x : ClpState). known_at (ports p c) e' k x.told) here
          ∙ (ap (λ (x : HubSends). known_at (ports p c) e' k x.clp.told) T_is ∙ (off e' k n).0))
          (λ e' port. out (class_at p v)
          e' (tells (rows_from a.rec (Some z)) (known_at (ports p c) e' (class_at p v) s.told)) (at_port e' port).1)
          (λ e' k n. out k e' [] (off e' k n).1)
          (subst (λ x. Alike (ports p c) (length p.layout.classes) s.told x)
          (sym (ap (λ (x : ClpState). x.told) here ∙ ap (λ (x : HubSends). x.clp.told) T_is))
          (told_alike p c (class_at p v) lk (λ d i. sim.tree.inside c d i) w.line ps s1 begins ok))
          (ap (λ (x : ClpState). x.bound) here ∙ qt.bound)
          (λ u. ap (λ (x : ClpState). stands_at (rec_at x.records u)) here ∙ at_same u)
          st.only (no_moving p (clp_at w) w.links v c st)
          (λ u ne y. ap (λ (x : Parts). record_value x y) (set_there recs v a.rec u ne))
          (λ y u. subst (λ x. (record_value x y ≡ record_value (recs v) y) ⊎ (AllIn (rows_from a.rec (Some z)) y u
          → inside (record_value x y) u ≡ true)) (sym (set_here recs v a.rec)) (val y u));
    }
      where
        a : Answered
        a = f (recs v)

        recs' : ℕ → Parts
        recs' = set_rec recs v a.rec

        r : HubSends
        r = told_r p q w recs sim c lc from t v f z

        s1 : ClpState
        s1 = (taken_r p q w recs sim c lc from t v f).clp

        TT : HubSends
        TT = lift p (telling (hub_of p c) v z s1)

        lv : v < length q.values
        lv = (let x = in_range s.records v (recs v) at in let y = sim.places.records_len c lc in omega arith)

        lk : class_at p v < length p.layout.classes
        lk = class_low p (length q.values) sim.shape v lv

        ok : table_ok p c s.told
        ok = bounds.told_table c lc

        ps : List Period
        ps = periods_from a.rec (Some z)

        TP : HubSends
        TP = lift p (tell_periods (hub_of p c) (class_at p v) ps s1)

        here : clp_at (W r) c ≡ r.clp
        here = clp_here p q w recs sim c lc from m t e em r

        begins : EachBegins w.line ps
        begins = periods_begin w.line a.rec z a.rec.puts low

        now : rec_at s1.records v ≡ Some a.rec
        now = get_or-set_same s.records v (Some a.rec) None (in_range s.records v (recs v) at)

        T_is : TT ≡ TP
        T_is = ap (λ o. lift p (tell_record (hub_of p c) v z o s1)) now

        qt : Quiet p c w.line s1 TT
        qt = quiet_telling p c w.line v z a.rec s1 lk (λ d i. sim.tree.inside c d i) low now

        st : Stands (clp_at w) (mail w.links) v c
        st = stands p recs (clp_at w) (mail w.links) (placed p q w recs sim) c v (recs v) at

        at_same : (u : ℕ) → stands_at (rec_at r.clp.records u) ≡ stands_at (rec_at s.records u)
        at_same u = ap (λ x. stands_at (rec_at x u)) qt.records ∙ set_there_same s.records v (recs v) a.rec at u

        at_port : (e' : ℕ) → Door p c e' → (known_at (ports p c) e' (class_at p v) TP.clp.told
            ≡ grow_all (rows_from a.rec (Some z)) (known_at (ports p c) e' (class_at p v) s1.told))
            × (items p (class_at p v) (sent_to e' TP.sent)
            ≡ tells (rows_from a.rec (Some z)) (known_at (ports p c) e' (class_at p v) s1.told))
        at_port e' port = periods_here p c (class_at p v) lk
            (λ d i. sim.tree.inside c d i) w.line e' ps s1 begins ok (in_has e' (ports p c) port.1) (sim.tree.once c e')

        off : (e' k : ℕ)
            → (k ≡ class_at p v → ⊥) → (known_at (ports p c) e' k TP.clp.told ≡ known_at (ports p c) e' k s1.told)
            × (items p k (sent_to e' TP.sent) ≡ [])
        off e' k n = periods_else
            p c (class_at p v) lk (λ d i. sim.tree.inside c d i) w.line e' k ps s1 begins ok (λ g. absurd (n g))

        out : (k e' : ℕ) (x : List Item) → items p k (sent_to e' TP.sent) ≡ x → items p k (sent_to e' r.sent) ≡ x
        out k e' x h = items_append p k e' (map (to_agent_of p c) a.gives) TT.sent
            ∙ (ap (λ y. y ++ items p k (sent_to e' TT.sent))
            (no_items p k e' (map (to_agent_of p c) a.gives) (λ y i. gives_itemless a.gives y i k))
            ∙ (ap (λ (y : HubSends). items p k (sent_to e' y.sent)) T_is ∙ h))

        grown : (x : Posted) → In x r.sent → (k : ℕ) (y : Stamp) (u : Option Stamp) (b : Window) → x.message
            ≡ message.Grow k y u b → (d : ℕ) × (x.to ≡ AtClp d) × In d (ports p c) × (k < length p.layout.classes)
        grown x i k y u b g = elim (in_cases (map (to_agent_of p c) a.gives) TT.sent x i) [
          | inl j ↦ absurd (item_grow p k y u b x.message g (gives_itemless a.gives x j))
          | inr j ↦ (let o =
              qt.grows x j in (
                o.0,
                ap (λ (h : Posted). h.to) o.5,
                o.6,
                subst (λ h. h < length p.layout.classes)
                    (class_same o.1 k o.2 y o.3 u o.4 b (sym (ap (λ (h : Posted). h.message) o.5) ∙ g)) o.8,
              ))
        ]
          where
            class_same : (a b' : ℕ) (a1 b1 : Stamp) (a2 b2 : Option Stamp) (a3 b3 : Window)
                → message.Grow a a1 a2 a3 ≡ message.Grow b' b1 b2 b3 → a ≡ b'
            class_same a b' a1 b1 a2 b2 a3 b3 h = cc
