-- A CLP's further events, over the whole fact: what goes on, the end of a query, a class query, a Grow.
use Rattle.pm_queries.specs.Queries.{finish_if, finish_one, without, has_reg, ask_of, add_reg, finish_in, has}
use Rattle.pm_queries.specs.declared.registered.Registered.{Registered}
use Rattle.pm_tables.specs.Tables.{known_at, may_hold, grow_at, TableOk}
use Rattle.pm_base.specs.Stamps.{num_eq}
use Rattle.pm_sim.proofs.Forwards.{out_is, fwd, fw, fwd_is, process_toward, fw_ask}
use Rattle.pm_sim.specs.Bounds.{Item, tells, between, item_of, items, sent_to, table_ok, BoundsOk}
use Rattle.pm_sim.specs.Bounds.Item.{Grows}
use Rattle.pm_ranges.specs.Joins.{Row}
use Rattle.pm_ranges.specs.Known.{Known, grown}
use Rattle.pm_clp.specs.Clps.{catching, tell, caught, catches, ClpState, rec_at, watch_all, forwards, registered, sent_on, clp_after, ClpSends, no_clp_sends, and_then, after_finish}
use Rattle.pm_sim.specs.Covers.{AskedOk, Door}
use Rattle.pm_sim.proofs.Sides.{Alike, tell_alike, tell_here, tell_else, grow_alike, side_same, side_else, eq_self, eq_not}
use Rattle.pm_sim.proofs.Bounding.{bounds_plain, bounds_grow}
use Rattle.pm_sim.proofs.Wires.{Took, took, no_items, items_append}
use Rattle.pm_sim.proofs.Fulls.{Full, Itemless, untaken, sent_grows, item_grow, plain_full, some_of}
use Rattle.pm_sim.proofs.Asking.{asked_step, asked_catch}
use Rattle.pm_sim.proofs.Catches.{in_has, has_caught, late_sends, late_is}
use Rattle.pm_sim.proofs.Acts.{Quiet, quiet_tell}
use Rattle.pm_sim.proofs.Hubs.{grow_part, ask_part, unregistered, finish_part}
use Rattle.pm_base.specs.declared.stamp.Interval.{Interval}
use Rattle.pm_sim.proofs.Queries.{not_own_port, add_reg_in, add_reg_has, mail_same, ask_parts, clp_parts}
use Rattle.pm_sim.proofs.Places.{HubSends, lift, lift_then, hub_then, hub_idle, clp_at, Sim, landed, bag, mail_in, letter_in, clp_here, clp_there, pend_of, wait_of, process_clp}
use Rattle.std.specs.Prelude.{Option, Some, not, ◌||◌, ◌++◌}
use Rattle.std.proofs.lemmas.Bool.{or_parts, cond_both, or_right, cases_Bool}
use Rattle.std.proofs.Common.{◌≡◌, ℕ, ◌+◌, ◌<◌, ◌≤◌, inl, inr, ◌==◌, Bool, true, false, cond, List, [], ◌∷◌, map, filter, length, refl, arith, ap, sym, ◌∙◌, subst, None}
use Rattle.std.proofs.lemmas.Bool.Decides.{nat_tests}
use Rattle.pm_base.specs.declared.rows.Parts.{Parts}
use Rattle.pm_base.specs.declared.stamp.Num.{Num}
use Rattle.pm_base.specs.declared.stamp.Stamp.{Stamp}
use Rattle.pm_base.specs.declared.value.Window.{Window}
use Rattle.pm_message.specs.declared.Message.{Message}
use Rattle.pm_model.specs.declared.State.{State}
use Rattle.pm_plan.specs.declared.plan.Plan.{Plan}
use Rattle.pm_sim.specs.Worlds.{Mail, Posted, Process, Taken, World, mail, take_from, clps_of, ports, process, number, hub_of, posted}
use Rattle.pm_sim.specs.Worlds.Process.{AtClp}
use Rattle.pm_sim.specs.Sims.{In, has_read, one_if, tally}
use Rattle.pm_sim.specs.Routings.{mail_to, toward, stands_at}
use Rattle.pm_sim.proofs.Ends.{FinishIs, finish_is}
use Rattle.pm_sim.proofs.Letters.{message_of, sent_mail, in_map, map_in}
use Rattle.pm_sim.proofs.Lists.{in_left, in_right, in_cases}
use Rattle.pm_sim.proofs.Stamps.{num_eq_self}
use Rattle.pm_sim.proofs.Trims.{in_filter, filter_in}
use Rattle.pm_sim.proofs.Watches.{Watched}
use Rattle.std.proofs.lemmas.List.{map-append}
use Rattle.pm_base.specs.Layouts.{class_row}
use Rattle.pm_base.specs.declared.value.Query.TheVariants as query
use Rattle.pm_message.specs.declared.Message.TheVariants as message

-- the end of a query changes but what it waits for
finish_back : (p : Plan) (c : ℕ) (n : Num) (d : ℕ) (rs : List Registered) (r : Registered)
    → In r (finish_in n d rs).queries
    → (r0 : Registered) × In r0 rs × (r.num ≡ r0.num)
    × (r.sent ≡ r0.sent) × (r.from ≡ r0.from) × (r.class ≡ r0.class) × (r.stamp ≡ r0.stamp) × (r.window ≡ r0.window)
finish_back p c n d [] r i = absurd i
finish_back p c n d (x ∷ rs) r i = elim (cases_Bool (num_eq n x.num)) [
  | inl e ↦ go (has d x.waits) (subst (λ z. In r (cond z (finish_one d x rs (has d x.waits))
      (record { queries = x ∷ (finish_in n d rs).queries; sent = (finish_in n d rs).sent })).queries) e i)
  | inr e ↦ elim (subst (λ z. In r (cond z (finish_one d x rs (has d x.waits))
      (record { queries = x ∷ (finish_in n d rs).queries; sent = (finish_in n d rs).sent })).queries) e i) [
        | inl f ↦ same r x f (inl refl)
        | inr j ↦ (let o = finish_back p c n d rs r j in (o.0, inr o.1, o.2, o.3, o.4, o.5, o.6, o.7))
      ]
]
  where
    Back : Type 0
    Back = (r0 : Registered) × In r0 (x ∷ rs) × (r.num ≡ r0.num)
        × (r.sent ≡ r0.sent) × (r.from ≡ r0.from) × (r.class ≡ r0.class) × (r.stamp ≡ r0.stamp) × (r.window ≡ r0.window)

    same : (a b : Registered) → a ≡ b → In b (x ∷ rs) → (r0 : Registered) × In r0 (x ∷ rs) × (a.num ≡ r0.num)
        × (a.sent ≡ r0.sent) × (a.from ≡ r0.from) × (a.class ≡ r0.class) × (a.stamp ≡ r0.stamp) × (a.window ≡ r0.window)
    same a b e j = (
      b,
      j,
      ap (λ (z : Registered). z.num) e,
      ap (λ (z : Registered). z.sent) e,
      ap (λ (z : Registered). z.from) e,
      ap (λ (z : Registered). z.class) e,
      ap (λ (z : Registered). z.stamp) e,
      ap (λ (z : Registered). z.window) e,
    )

    go : (b : Bool) → In r (finish_one d x rs b).queries → Back
    go true (inl f) = (
      x,
      inl refl,
      ap (λ (z : Registered). z.num) f,
      ap (λ (z : Registered). z.sent) f,
      ap (λ (z : Registered). z.from) f,
      ap (λ (z : Registered). z.class) f,
      ap (λ (z : Registered). z.stamp) f,
      ap (λ (z : Registered). z.window) f,
    )
    go true (inr j) = (r, inr j, refl, refl, refl, refl, refl, refl)
    go false (inl f) = same r x f (inl refl)
    go false (inr j) = (r, inr j, refl, refl, refl, refl, refl, refl)

finish_itemless : (p : Plan) (n : Num) (d : ℕ) (rs : List Registered) (x : Posted)
    → In x (map (posted p) (finish_in n d rs).sent) → Itemless p x.message
finish_itemless p n d [] x i = absurd i
finish_itemless p n d (y ∷ rs) x i = elim (cases_Bool (num_eq n y.num)) [
  | inl e ↦ go (has d y.waits) (subst (λ z. In x (map (posted p) (cond z (finish_one d y rs (has d y.waits))
      (record { queries = y ∷ (finish_in n d rs).queries; sent = (finish_in n d rs).sent })).sent)) e i)
  | inr e ↦ finish_itemless p n d rs x (subst (λ z. In x (map (posted p) (cond z (finish_one d y rs (has d y.waits))
      (record { queries = y ∷ (finish_in n d rs).queries; sent = (finish_in n d rs).sent })).sent)) e i)
]
  where
    ends : (ws : List ℕ) → In x (map (posted p) (finish_if ws y)) → Itemless p x.message
    ends [] (inl f) k = ap (λ (z : Posted). item_of p k z.message) f
    ends [] (inr b) k = absurd b
    ends (w ∷ ws) j k = absurd j

    go : (b : Bool) → In x (map (posted p) (finish_one d y rs b).sent) → Itemless p x.message
    go true j k = ends (without d y.waits) j k
    go false j k = absurd j

has_not : (d e : ℕ) (xs : List ℕ) → (d ≡ e → ⊥) → has e xs ≡ has e (filter (λ x. not (d == x)) xs)
has_not d e [] n = refl
has_not d e (x ∷ xs) n = (let again = has_not d e xs n in elim (cases_Bool (d == x)) [
  | inl f ↦ (let g : (e == x) ≡ false = eq_not e
      x (λ h. n (let k : d ≡ x = grind (arith, nat_tests, f) in k ∙ sym h)) in rw f (ap (λ z. z || has e xs) g ∙ again))
  | inr f ↦ rw f (ap (λ z. e == x || z) again)
])

has_gone : (d : ℕ) (xs : List ℕ) → has d (filter (λ x. not (d == x)) xs) ≡ false
has_gone d [] = refl
has_gone d (x ∷ xs) =
    (let again = has_gone d xs in elim (cases_Bool (d == x)) [ inl f ↦ rw f again | inr f ↦ rw f (rw f again) ])

filter_few : (P : ℕ → Bool) (d : ℕ) (xs : List ℕ) → tally (λ e. d == e) (filter P xs) ≤ tally (λ e. d == e) xs
filter_few P d [] = omega arith
filter_few P d (x ∷ xs) = (let again = filter_few P d xs in cond_both (P x) (x ∷ filter P xs) (filter P xs) (λ z. tally
    (λ e. d == e) z ≤ one_if (d == x) (tally (λ e. d == e) xs)) (λ _. up (d == x) again) (λ _. up' (d == x) again))
  where
    up : (b : Bool) → tally (λ e. d == e) (filter P xs) ≤ tally (λ e. d == e) xs
        → one_if b (tally (λ e. d == e) (filter P xs)) ≤ one_if b (tally (λ e. d == e) xs)
    up true le = omega arith
    up false le = le

    up' : (b : Bool) → tally (λ e. d == e) (filter P xs) ≤ tally (λ e. d == e) xs
        → tally (λ e. d == e) (filter P xs) ≤ one_if b (tally (λ e. d == e) xs)
    up' true le = omega arith
    up' false le = le

has_end : (d e : ℕ) (xs : List ℕ) → has e (xs ++ d ∷ []) ≡ false → (has e xs ≡ false) × ((e == d) ≡ false)
has_end d e [] h = (refl, (or_parts (e == d) false h).0)
has_end d e (x ∷ xs) h = (let a = or_parts (e == x) (has e (xs ++ d ∷ [])) h in let b =
    has_end d e xs a.1 in (let f = a.0 in let g = b.0 in rw (f, g), b.1))

module _ (p : Plan) (q : State) (w : World) (recs : ℕ → Parts) (sim : Sim p q w recs) (asked :
    AskedOk p (length q.values) recs (clp_at w) (mail w.links)) (bounds : BoundsOk p w.line recs (clp_at w) w.links)
    (c : ℕ) (lc : c < clps_of p) (from : Process) (t : Taken) where
  abbrev s : ClpState
  s = clp_at w c

  abbrev fn : ℕ
  fn = number p from

  abbrev Goal : (m : Message) (e : take_from (AtClp c) from w.links ≡ Some t) (em : t.message ≡ m) → Type 0
  Goal m e em =
      Full p q (landed p q w recs sim c lc from m t e em (lift p (clp_after (hub_of p c) (number p from) m s)))

  -- a letter goes on to another process
  pub forward_full : (m : Message) (e : take_from (AtClp c) from w.links ≡ Some t) (em : t.message ≡ m) (to : Process)
      → Sim p
      q (landed p q w recs sim c lc from m t e em (record { clp = s; sent = record { to = to; message = m } ∷ [] }))
      recs → Itemless p m → ((n : Num) (z : Stamp) (k : ℕ) (u : Window) → message.Ask n z (query.Class k u) ≡ m → ⊥)
      → Full p
      q (landed p q w recs sim c lc from m t e em (record { clp = s; sent = record { to = to; message = m } ∷ [] }))
  forward_full m e em to sim' none not_ask = plain_full p q w recs sim asked
      bounds c lc from m t e em (record { clp = s; sent = record { to = to; message = m } ∷ [] }) recs sim' none not_ask
      (λ x i k. elim i [ inl f ↦ ap (λ (z : Posted). item_of p k z.message) f ∙ none k | inr b ↦ absurd b ])
      refl refl refl (λ v. refl) (λ v z. refl) (λ v n h. h)

  -- the end of a query
  pub finish_full : (k : Num) (z : Stamp) (d0 : ℕ) (e : take_from (AtClp c) from w.links ≡ Some t)
      (em : t.message ≡ message.Finish k z) → from ≡ AtClp d0 → Goal (message.Finish k z) e em
  finish_full k z d0 e em ef =
      subst (λ x. Full p q (landed p q w recs sim c lc from (message.Finish k z) t e em x)) (sym is) (record {
        recs = recs;
        sim = subst (λ x. Sim p q (landed p q w recs sim c lc from (message.Finish k z) t e em x) recs)
            is (finish_part p q w recs sim c lc from t k z d0 e em ef);
        asked = asked_step p (length q.values)
            c lc
            (clp_at w) (clp_at w') (mail w.links) (mail w'.links) (mail_to (AtClp c) from (message.Finish k z) ∷ [])
            (sent_mail (AtClp c) r.sent) recs recs (clp_there p q w recs sim c lc from (message.Finish k z) t e em r)
            (bag p q w recs sim c lc from (message.Finish k z) t e em r) asked (λ v n h. h)
            (sent_grows p c lc r.sent (λ x i k' z' u y g. absurd (not_grow x i k' z' u y g)))
            (λ d e' n z' k' u i. absurd (elim i [ inl f ↦ (let a = ap (λ (y : Mail). y.message) f in cc) | inr b ↦ b ]))
            (λ n h. ap (has_reg n) here_q ∙ (by_has n (finish_is true p c k d0 s.queries (sim.queries.alone c lc)) ∙ h))
            (λ d r' i j. (let o =
            finish_back p c k d0 s.queries r' (subst (In r') here_q i) in inl (o.0, o.1, sym o.2, subst (In d) o.3 j)))
            (λ v r' y lv i ec er. (let o = finish_back p c k d0 s.queries r' (subst (In r') here_q i) in
            subst (λ n. has_read n (recs v).reads ≡ true) (sym o.2)
            (asked.watched c v o.0 y lc lv o.1 (ec ∙ o.5) (ap (λ (x : ClpState). rec_at x.records v) (sym here) ∙ er))))
            (λ d r' i port nf h. (let o = finish_back p c k d0 s.queries r' (subst (In r') here_q i) in
            ap (λ (x : ClpState). may_hold (ports p c) x.bound d r'.class r'.stamp r'.window) here
            ∙ (ap (λ x. may_hold (ports p c) s.bound d x r'.stamp r'.window) o.5 ∙ (ap (λ x. may_hold (ports p c)
            s.bound d o.0.class x r'.window) o.6 ∙ (ap (λ x. may_hold (ports p c) s.bound d o.0.class o.0.stamp x) o.7
            ∙ asked.pruned c d o.0 lc o.1 port (λ g. nf (ap (process p) o.4 ∙ g)) (ap (has d) (sym o.3) ∙ h))))));
        bounds = bounds_plain p sim.tree w.line c lc (clp_at w)
            (clp_at w')
            w.links t.links recs recs r.sent (clp_there p q w recs sim c lc from (message.Finish k z) t e em r)
            bounds (λ k'. untaken p q w recs sim asked bounds c lc from (message.Finish k z) t e em k' refl)
            (λ e' k'. no_items p k' e' r.sent (λ x i. finish_itemless p k d0 s.queries x i k'))
            (ap (λ (x : ClpState). x.told) here) (ap (λ (x : ClpState). x.bound) here)
            (λ v. ap (λ (x : ClpState). stands_at (rec_at x.records v)) here) (λ v z'. refl);
      })
    where
      r : HubSends
      r = lift p (after_finish d0 k s)

      is : lift p (clp_after (hub_of p c) (number p from) (message.Finish k z) s) ≡ r
      is = ap (λ f. lift p (after_finish (number p f) k s)) ef

      w' : World
      w' = landed p q w recs sim c lc from (message.Finish k z) t e em r

      here : clp_at w' c ≡ r.clp
      here = clp_here p q w recs sim c lc from (message.Finish k z) t e em r

      here_q : (clp_at w' c).queries ≡ (finish_in k d0 s.queries).queries
      here_q = ap (λ (x : ClpState). x.queries) here

      by_has : (n : Num) → FinishIs true p c k d0 s.queries (finish_in k d0 s.queries).queries
          (finish_in k d0 s.queries).sent → has_reg n (finish_in k d0 s.queries).queries ≡ has_reg n s.queries
      by_has n (inl a) = ap (has_reg n) a.0
      by_has n (inr a) = a.2.same_has n

      not_grow : (x : Posted)
          → In x r.sent → (k' : ℕ) (z' : Stamp) (u : Option Stamp) (y : Window) → x.message ≡ message.Grow k' z' u y → ⊥
      not_grow x i k' z' u y g = item_grow p k' z' u y x.message g (finish_itemless p k d0 s.queries x i)

  -- a class query
  pub ask_full : (k : Num) (z : Stamp) (x : ℕ) (u : Window) (e : take_from (AtClp c) from w.links ≡ Some t)
      (em : t.message ≡ message.Ask k z (query.Class x u)) → Goal (message.Ask k z (query.Class x u)) e em
  ask_full k z x u e em = subst (λ y. Full p q (landed p q w recs sim c lc from m t e em y)) (sym is) (record {
    recs = wt.recs';
    sim = subst (λ y. Sim p q (landed p q w recs sim c lc from m t e em y) wt.recs') is part.1;
    asked = asked_step p (length q.values) c lc (clp_at w) (clp_at w')
        (mail w.links) (mail w'.links) (mail_to (AtClp c) from m ∷ []) (sent_mail (AtClp c) r.sent) recs wt.recs'
        (clp_there p q w recs sim c lc from m t e em r) (bag p q w recs sim c lc from m t e em r) asked wt.keeps
        (sent_grows p c lc r.sent (λ y i k' z' u' b g. absurd (not_grow y i k' z' u' b g)))
        (λ d e' n z' k' u' i. elim i [
          | inl f ↦
              (let a = mail_same (AtClp d) (AtClp e') (AtClp c) from (message.Ask n z' (query.Class k' u')) m f in (
                clp_parts d c a.0,
                ap (has_reg n) here_q
                    ∙ (add_reg_has R s.queries n ∙ (let nk : n ≡ k = (ask_parts n k z' z k' x u' u a.2).0 in
                    let g : num_eq n k ≡ true = ap (λ y. num_eq y k) nk ∙ num_eq_self k in rw g)),
              ))
          | inr b ↦ absurd b
        ])
        (λ n h. ap (has_reg n) here_q ∙ (add_reg_has R s.queries n ∙ or_right (num_eq n k) (has_reg n s.queries) h))
        (λ d r' i j. elim (add_reg_in R s.queries r' (subst (In r') here_q i)) [
          | inl f ↦ inr (
            z,
            x,
            u,
            subst (λ (y : Num). In (mail_to (AtClp d) (AtClp c) (message.Ask y z (query.Class x u))) (mail w'.links))
                (sym (ap (λ (y : Registered). y.num) f))
                ((bag p q w recs sim c lc from m t e em r).added
                _ (sent_right _ (fw_ask p c from R ds d (subst (λ (y : Registered). In d y.sent) f j)))),
          )
          | inr f ↦ inl (r', f, refl, j)
        ])
        (λ v r' y lv i ec er. (let o = wt.back v y (ap (λ (y' : ClpState). rec_at y'.records v) (sym here) ∙ er) in
        elim (add_reg_in R s.queries r' (subst (In r') here_q i)) [
          | inl f ↦ subst (λ n. has_read n (wt.recs' v).reads ≡ true) (sym (ap (λ (y' : Registered). y'.num) f))
              (wt.reads v o.0 (sim.shape.inside x v lv (ec ∙ ap (λ (y' : Registered). y'.class) f)).0 (sim.shape.inside
              x v lv (ec ∙ ap (λ (y' : Registered). y'.class) f)).1 (ec ∙ ap (λ (y' : Registered). y'.class) f) o.1)
          | inr f ↦ wt.keeps v r'.num (asked.watched c v r' o.0 lc lv f ec o.1)
        ]))
        (λ d r' i port nf h. ap (λ y. may_hold (ports p c) y d r'.class r'.stamp r'.window) (ap
        (λ (y : ClpState). y.bound) here ∙ wt.bound) ∙ elim (add_reg_in R s.queries r' (subst (In r') here_q i)) [
          | inl f ↦ subst (λ (y : Registered). may_hold (ports p c) s.bound d y.class y.stamp y.window ≡ false)
              (sym f) (unsent d port (λ g. nf (ap (λ (y : Registered). process p y.from) f ∙ (fn_is ∙ g)))
              (ap (λ (y : Registered). has d y.sent) (sym f) ∙ h))
          | inr f ↦ asked.pruned c d r' lc f port nf h
        ]);
    bounds = bounds_plain p sim.tree w.line
        c lc (clp_at w) (clp_at w') w.links t.links recs wt.recs' r.sent (clp_there p q w recs sim c lc from m t e em r)
        bounds (λ k'. untaken p q w recs sim asked bounds c lc from m t e em k' refl)
        (λ e' k'. no_items p k' e' r.sent (λ y i. itemless y i k'))
        (ap (λ (y : ClpState). y.told) here ∙ wt.told) (ap (λ (y : ClpState). y.bound) here ∙ wt.bound)
        (λ v. ap (λ (y : ClpState). stands_at (rec_at y.records v)) here ∙ same_there v) wt.values;
  })
    where
      m : Message
      m = message.Ask k z (query.Class x u)

      first : ℕ
      first = (class_row p.layout.classes x).first

      count : ℕ
      count = (class_row p.layout.classes x).count

      r1 : ClpSends
      r1 = watch_all (hub_of p c) k z u first count s

      ds : List ℕ
      ds = filter (sent_on (hub_of p c) r1.clp.bound fn x z u) ((ports p c))

      R : Registered
      R = record { num = k; stamp = z; class = x; window = u; from = fn; sent = ds; waits = ds }

      mail0 : In (mail_to (AtClp c) from m) (mail w.links)
      mail0 = mail_in p q w recs sim c lc from m t e em

      from_is : from ≡ toward p c k.agent
      from_is = (sim.queries.asks c from k z x u mail0).1

      fn_is : process p fn ≡ from
      fn_is = subst (λ f. process p (number p f) ≡ f) (sym from_is) (process_toward p w.line sim.tree c lc k.agent)

      ds_in : (d : ℕ) → In d ds → In d (ports p c) × (from ≡ AtClp d → ⊥)
      ds_in d i = (let f = in_filter (sent_on (hub_of p c) r1.clp.bound fn x z u) (ports p c) d i in
          (f.0, λ g. not_it d f.1 (ap (number p) g)))
        where
          not_it : (d : ℕ) → sent_on (hub_of p c) r1.clp.bound fn x z u d ≡ true → fn ≡ d → ⊥
          not_it d a b = (let g : (fn == d) ≡ true = grind (arith, nat_tests, b) in
              let y : sent_on (hub_of p c) r1.clp.bound fn x z u d ≡ false = rw g refl in cc)

      gone : List Posted
      gone = map (posted p) r1.sent

      r : HubSends
      r = record { clp = record r1.clp { queries = add_reg R r1.clp.queries }; sent = gone ++ fwd p c from R ds }

      split_is : lift p (and_then r1 (registered (hub_of p c) fn k z x u)) ≡ r
      split_is = ap (λ ss. record { clp = record r1.clp { queries = add_reg R r1.clp.queries }; sent = ss })
          (map-append (posted p) r1.sent (forwards (hub_of p c) fn R ds)
          ∙ ap (λ ss. gone ++ ss) (fwd_is p c from R fn fn_is ds (λ d i. sim.tree.inside c d (ds_in d i).0)))

      part : (wt : Watched p w.line q sim.issued w.agents (pend_of p q w recs sim c lc from m t e em w) (wait_of p
          q w recs sim c lc from m t e em w) c k z x u (sim.core.mail m (letter_in p q w recs sim c lc from m t e em)).0
          (sim.core.mail m (letter_in p q w recs sim c lc from m t e em)).1
          recs (map message_of (mail w.links)) s first (first + count) r1)
          × Sim p q (landed p q w recs sim c lc from m t e em (lift p (clp_after (hub_of p c) fn m s))) wt.recs'
      part = ask_part p q w recs sim c lc from t k z x u e em

      wt : Watched p w.line q sim.issued w.agents (pend_of p q w recs sim c lc from m t e em w) (wait_of p
          q w recs sim c lc from m t e em w) c k z x u (sim.core.mail m (letter_in p q w recs sim c lc from m t e em)).0
          (sim.core.mail m (letter_in p q w recs sim c lc from m t e em)).1
          recs (map message_of (mail w.links)) s first (first + count) r1
      wt = part.0

      w' : World
      w' = landed p q w recs sim c lc from m t e em r

      is : lift p (clp_after (hub_of p c) fn m s) ≡ r
      is = ap (λ b. lift p (cond b (no_clp_sends s) (and_then r1 (registered (hub_of p c) fn k z x u))))
          (unregistered p q w recs sim c lc from t k z x u mail0) ∙ split_is

      here : clp_at w' c ≡ r.clp
      here = clp_here p q w recs sim c lc from m t e em r

      here_q : (clp_at w' c).queries ≡ add_reg R s.queries
      here_q = ap (λ (y : ClpState). y.queries) here ∙ ap (add_reg R) wt.queries

      sent_right : (y : Mail) → In y (fw p c from R ds) → In y (sent_mail (AtClp c) r.sent)
      sent_right y i = (let o = in_map (λ (y' : Posted). mail_to y'.to (AtClp c) y'.message) (fwd p c from R ds) y i in
          subst (λ y'. In y' (sent_mail (AtClp c) r.sent)) (sym o.2) (map_in (λ (y' : Posted).
          mail_to y'.to (AtClp c) y'.message) r.sent o.0 (in_right gone (fwd p c from R ds) o.0 o.1)))

      itemless : (y : Posted) → In y r.sent → Itemless p y.message
      itemless y i k' = elim (in_cases gone (fwd p c from R ds) y i) [
        | inl j ↦ (let b = in_map (posted p) r1.sent y j in let g =
            wt.gives b.0 b.1 in ap (λ (y' : Posted). item_of p k' y'.message) (b.2 ∙ ap (posted p) g.1))
        | inr j ↦ elim (out_is p c from R ds y j) [
          | inl f ↦ ap (λ (y' : Posted). item_of p k' y'.message) f.2
          | inr f ↦ ap (λ (y' : Posted). item_of p k' y'.message) f
        ]
      ]

      not_grow : (y : Posted) → In y r.sent
          → (k' : ℕ) (z' : Stamp) (u' : Option Stamp) (b : Window) → y.message ≡ message.Grow k' z' u' b → ⊥
      not_grow y i k' z' u' b g = item_grow p k' z' u' b y.message g (itemless y i)

      unsent : (d : ℕ)
          → In d (ports p c) → (from ≡ AtClp d → ⊥) → has d ds ≡ false → may_hold (ports p c) s.bound d x z u ≡ false
      unsent d port nf h = elim (cases_Bool (may_hold (ports p c) s.bound d x z u)) [
        | inr f ↦ f
        | inl f ↦ absurd (let a : (fn == d) ≡ false = elim (cases_Bool (fn == d)) [
          | inl g ↦ absurd (nf (sym fn_is ∙ (ap (process p) (let g' : fn ≡ d = grind (arith, nat_tests, g) in g')
              ∙ process_clp p d (sim.tree.inside c d port))))
          | inr g ↦ g
        ] in
            let b : may_hold (ports p c) r1.clp.bound d x z u ≡ true =
            ap (λ y. may_hold (ports p c) y d x z u) wt.bound ∙ f in
            let on : sent_on (hub_of p c) r1.clp.bound fn x z u d ≡ true = rw (a, b) refl in
            let i = in_has d ds (filter_in (sent_on (hub_of p c) r1.clp.bound fn x z u) (ports p c) d port on) in cc)
      ]

      same_there : (v : ℕ) → stands_at (rec_at r1.clp.records v) ≡ stands_at (rec_at s.records v)
      same_there v = go (rec_at s.records v) refl
        where
          go : (o : Option Parts)
              → rec_at s.records v ≡ o → stands_at (rec_at r1.clp.records v) ≡ stands_at (rec_at s.records v)
          go (Some y) f = (let o = wt.goes v y f in ap stands_at o.1 ∙ sym (ap stands_at f))
          go None f = elim (cases_Bool (stands_at (rec_at r1.clp.records v))) [
            | inr g ↦ g ∙ sym (ap stands_at f)
            | inl g ↦
                absurd (let y = some_of _ g in let o = wt.back v y.0 y.1 in let h : None ≡ Some o.0 = sym f ∙ o.1 in cc)
          ]

  -- a Grow
  pub grow_full : (k : ℕ) (z : Stamp) (until : Option Stamp) (u : Window) (d : ℕ) (e : take_from (AtClp c) from w.links
      ≡ Some t) (em : t.message ≡ message.Grow k z until u) → from ≡ AtClp d → Goal (message.Grow k z until u) e em
  grow_full k z until u d e em ef =
      subst (λ y. Full p q (landed p q w recs sim c lc from m t e em y)) (sym is) (record {
        recs = recs;
        sim = subst (λ y. Sim p q (landed p q w recs sim c lc from m t e em y) recs)
            is (grow_part p q w recs sim c lc from t k lk z until u d e em ef port);
        asked = asked_catch p (length q.values) c lc (clp_at w) (clp_at w')
            (mail w.links) (mail w'.links) (mail_to (AtClp c) from m ∷ []) (sent_mail (AtClp c) r.sent) recs recs
            (clp_there p q w recs sim c lc from m t e em r) (bag p q w recs sim c lc from m t e em r) asked (λ v n h. h)
            (sent_grows p c lc r.sent grown_all)
            (λ d' e' n z' k' u' i.
            absurd (elim i [ inl f ↦ (let a = ap (λ (y : Mail). y.message) f in cc) | inr b ↦ b ]))
            (λ n h. ap (has_reg n) here_q ∙ (has_caught p c b' d k n s.queries ∙ h))
            (λ x i. sim.tree.inside c x i)
            d k b' here_q here_b (λ e' k' n. side_else (ports p c) K d k when u s.bound port lk okb e' k' n)
            (λ y i h. (bag p q w recs sim c lc from m t e em r).added _ (late_sent y i h))
            (λ v y h. (y, sym (here_r v) ∙ h));
        bounds = bounds_grow p sim.tree w.line c lc (clp_at w)
            (clp_at w')
            w.links t.links recs recs r.sent (clp_there p q w recs sim c lc from m t e em r) bounds d k row m dc
            (tk.head ∙ ap (λ y. y ∷ between (AtClp c) (AtClp d) t.links) em) tk.others item
            (λ k' n. untaken p q w recs sim asked bounds c lc from m t e em k' (other k' n))
            (λ e' n pe. out k e' (tells (row ∷ []) (known_at (ports p c) e' k s.told)) (at_other e' n pe).1)
            (out k d [] (tell_else p c
            k lk (λ x i. sim.tree.inside c x i) z until u d k others s2 in_others okt (λ _. has_gone d (ports p c))).1)
            (λ e' k' n. out k' e' [] (tell_else
            p c k lk (λ x i. sim.tree.inside c x i) z until u e' k' others s2 in_others okt (λ g. absurd (n g))).1)
            (λ e' n pe. ap (λ (y : ClpState). known_at (ports p c) e' k y.told) here ∙ (at_other e' n pe).0)
            (ap (λ (y : ClpState). known_at (ports p c) d k y.told) here ∙ (tell_else p c
            k lk (λ x i. sim.tree.inside c x i) z until u d k others s2 in_others okt (λ _. has_gone d (ports p c))).0)
            (λ e' k' n. ap (λ (y : ClpState). known_at (ports p c) e' k' y.told) here ∙ (tell_else
            p c k lk (λ x i. sim.tree.inside c x i) z until u e' k' others s2 in_others okt (λ g. absurd (n g))).0)
            (ap (known_at (ports p c) d k) here_b ∙ side_same (ports p c) K d k when u s.bound port lk okb)
            (λ e' k' n. ap (known_at (ports p c) e' k') here_b
            ∙ side_else (ports p c) K d k when u s.bound port lk okb e' k' n)
            (subst (λ x. Alike (ports p c) K s.told x) (sym (ap (λ (y : ClpState). y.told) here))
            (tell_alike p c k lk (λ x i. sim.tree.inside c x i) z until u others s2 in_others okt))
            (subst
            (λ x. Alike (ports p c) K s.bound x) (sym here_b) (grow_alike (ports p c) K d k when u s.bound port lk okb))
            (λ v. ap stands_at (here_r v)) (λ v z'. refl);
      })
    where
      m : Message
      m = message.Grow k z until u

      when : Interval
      when = record { from = Some z; until = until }

      row : Row
      row = record { when = when; window = u }

      K : ℕ
      K = length p.layout.classes

      port1 : Door p d c × (k < length p.layout.classes)
      port1 = asked.grows c d k z until
          u (subst (λ f. In (mail_to (AtClp c) f m) (mail w.links)) ef (mail_in p q w recs sim c lc from m t e em))

      port0 : Door p d c
      port0 = port1.0

      lk : k < length p.layout.classes
      lk = port1.1

      okb : TableOk (length (ports p c)) K s.bound
      okb = bounds.bound_table c lc

      okt : table_ok p c s.told
      okt = bounds.told_table c lc

      port : In d (ports p c)
      port = sim.tree.back d c port0.0 port0.1

      dc : d ≡ c → ⊥
      dc g = not_own_port p w.line sim.tree c c lc lc (subst (λ y. In y (ports p c)) g port)

      b' : List (List Known)
      b' = grow_at (ports p c) d k when u s.bound

      r0 : HubSends
      r0 = hub_idle (record s { bound = b' })

      C : ClpState → HubSends
      C = late_sends p c d k

      s2 : ClpState
      s2 = (hub_then r0 C).clp

      others : List ℕ
      others = filter (λ y. not (d == y)) (ports p c)

      in_others : (x : ℕ) → In x others → In x (ports p c)
      in_others y i = (in_filter (λ y. not (d == y)) (ports p c) y i).0

      T : ClpState → HubSends
      T y = lift p (tell (hub_of p c) k z until u others y)

      s0 : ClpState
      s0 = record s { bound = b' }

      r : HubSends
      r = hub_then (hub_then r0 C) T

      is : lift p (clp_after (hub_of p c) fn m s) ≡ r
      is = ap (λ y. lift p (clp_after (hub_of p c) (number p y) m s)) ef
          ∙ (lift_then p (catching (hub_of p c) d k s0) (tell (hub_of p c) k z until u others)
          ∙ ap (λ y. hub_then y T) (late_is p c d k s0 (sim.tree.inside c d port)))

      w' : World
      w' = landed p q w recs sim c lc from m t e em r

      cg : Registered → Registered
      cg y = caught (hub_of p c) b' d k y

      qt : Quiet p c w.line s2 (T s2)
      qt = quiet_tell p c w.line k
          lk (λ x i. sim.tree.inside c x i) z until u (sim.core.mail m (letter_in p q w recs sim c lc from m t e em)).1
          others (λ y i. (in_filter (λ y. not (d == y)) (ports p c) y i).0) s2

      here : clp_at w' c ≡ r.clp
      here = clp_here p q w recs sim c lc from m t e em r

      here_q : (clp_at w' c).queries ≡ map cg s.queries
      here_q = ap (λ (y : ClpState). y.queries) here ∙ qt.queries

      here_b : (clp_at w' c).bound ≡ b'
      here_b = ap (λ (y : ClpState). y.bound) here ∙ qt.bound

      here_r : (v : ℕ) → rec_at (clp_at w' c).records v ≡ rec_at s.records v
      here_r v = ap (λ (y : ClpState). rec_at y.records v) here ∙ ap (λ y. rec_at y v) qt.records

      tk : Took (AtClp c) (AtClp d) w.links t
      tk = subst (λ f. Took (AtClp c) f w.links t) ef (took (AtClp c) from w.links t e)

      item : item_of p k m ≡ Grows row ∷ []
      item = (let a = eq_self k in rw a)

      other : (k' : ℕ) → (k' ≡ k → ⊥) → item_of p k' m ≡ []
      other k' n = (let a = eq_not k k' (λ g. n (sym g)) in rw a)

      lates : List Posted
      lates = map (λ (y : Registered). record { to = AtClp d; message = ask_of y })
          (filter (λ y. catches (hub_of p c) b' d k y) s.queries)

      lates_itemless : (y : Posted) → In y lates → Itemless p y.message
      lates_itemless y i k' = (let o = in_map (λ (y : Registered). record { to = AtClp d; message = ask_of y }) (filter
          (λ y. catches (hub_of p c) b' d k y) s.queries) y i in ap (λ (y' : Posted). item_of p k' y'.message) o.2)

      out : (k' e' : ℕ) (x : List Item) → items p k' (sent_to e' (T s2).sent) ≡ x → items p k' (sent_to e' r.sent) ≡ x
      out k' e' x h = items_append p k' e' lates (T s2).sent
          ∙ (ap (λ y. y ++ items p k' (sent_to e' (T s2).sent)) (no_items p k' e' lates (λ y i. lates_itemless y i k'))
          ∙ h)

      at_other : (e' : ℕ) → (e' ≡ d → ⊥)
          → Door p c e' → (known_at (ports p c) e' k (T s2).clp.told ≡ grown when u (known_at (ports p c) e' k s.told))
          × (items p k (sent_to e' (T s2).sent) ≡ tells (row ∷ []) (known_at (ports p c) e' k s.told))
      at_other e' n pe = tell_here p c k lk (λ x i. sim.tree.inside c x i) z until
          u e' others s2 in_others okt (sym (has_not d e' (ports p c) (λ g. n (sym g))) ∙ in_has e' (ports p c) pe.1)
          (let a = filter_few (λ y. not (d == y)) e' (ports p c) in let b = sim.tree.once c e' in omega arith)

      grown_all : (x : Posted) → In x r.sent → (k' : ℕ) (y : Stamp) (u' : Option Stamp) (b : Window) → x.message
          ≡ message.Grow k' y u' b → (d : ℕ) × (x.to ≡ AtClp d) × In d (ports p c) × (k' < length p.layout.classes)
      grown_all x i k' y u' b g = elim (in_cases lates (T s2).sent x i) [
        | inl j ↦ absurd (item_grow p k' y u' b x.message g (lates_itemless x j))
        | inr j ↦
            (let o = qt.grows x j in (
              o.0,
              ap (λ (h : Posted). h.to) o.5,
              o.6,
              subst (λ h. h < length p.layout.classes)
                  (class_same o.1 k' o.2 y o.3 u' o.4 b (sym (ap (λ (h : Posted). h.message) o.5) ∙ g)) o.8,
            ))
      ]
        where
          class_same : (a b' : ℕ) (a1 b1 : Stamp) (a2 b2 : Option Stamp) (a3 b3 : Window)
              → message.Grow a a1 a2 a3 ≡ message.Grow b' b1 b2 b3 → a ≡ b'
          class_same a b' a1 b1 a2 b2 a3 b3 h = cc

      late_sent : (y : Registered) → In y s.queries → catches (hub_of p c) b' d k y ≡ true
          → In (mail_to (AtClp d) (AtClp c) (ask_of y)) (sent_mail (AtClp c) r.sent)
      late_sent y i h =
          map_in (λ (x : Posted). mail_to x.to (AtClp c) x.message) r.sent (record { to = AtClp d; message = ask_of y })
          (in_left lates (T s2).sent _ (map_in (λ (y : Registered). record { to = AtClp d; message = ask_of y })
          (filter (λ y. catches (hub_of p c) b' d k y) s.queries)
          y (filter_in (λ y. catches (hub_of p c) b' d k y) s.queries y i h)))
