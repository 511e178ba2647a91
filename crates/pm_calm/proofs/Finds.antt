-- Where nothing at or below a stamp is on the way to a communication process, a query is found at each record that it
-- may find something at, whatever is on the way to agents.
use Rattle.pm_queries.specs.Queries.{has, has_reg}
use Rattle.pm_queries.specs.declared.registered.Registered.{Registered}
use Rattle.pm_tables.specs.Tables.{may_hold, meets_at}
use Rattle.pm_sim.specs.Bounds.{Net, GrowsFit, CoveredAt, between, net_of, BoundsOk}
use Rattle.pm_ranges.specs.Fits.{Fits}
use Rattle.pm_ranges.specs.Known.{Known, bound_at}
use Rattle.pm_base.specs.Windows.{inside}
use Rattle.pm_clp.specs.Clps.{rec_at}
use Rattle.pm_sim.proofs.Ranges.{bound_none, bound_up, common_meets}
use Rattle.std.proofs.lemmas.Int.{ints}
use Rattle.std.proofs.lemmas.Bool.{and_parts, cases_Bool, cases_eq}
use Rattle.std.specs.Prelude.{int_le, pos, ℤ, ◌&&◌}
use Rattle.pm_sim.specs.Covers.{AskedOk, Door}
use Rattle.pm_sim.proofs.Wires.{between_mail}
use Rattle.pm_base.specs.declared.value.Value.{Value}
use Rattle.pm_sim.proofs.Queries.{reg_of, clp_parts, toward_away, toward_home, no_turn_back}
use Rattle.std.proofs.Common.{◌≡◌, ℕ, zero, suc, ◌<◌, ◌≤◌, ◌⊎◌, inl, inr, ◌==◌, true, false, length, refl, arith, ap, sym, ◌∙◌, subst, Option, Some, None}
use Rattle.std.proofs.lemmas.Bool.Decides.{nat_tests}
use Rattle.pm_base.specs.declared.rows.Parts.{Parts}
use Rattle.pm_base.specs.declared.stamp.Line.{Line}
use Rattle.pm_base.specs.declared.stamp.Num.{Num}
use Rattle.pm_base.specs.declared.stamp.Stamp.{Stamp}
use Rattle.pm_base.specs.declared.value.Window.{Window}
use Rattle.pm_message.specs.Messages.{stamp_of}
use Rattle.pm_message.specs.declared.Message.{Message}
use Rattle.pm_model.specs.declared.State.{State}
use Rattle.pm_periods.specs.Records.{hit_in, record_value}
use Rattle.pm_plan.specs.Plans.{parents}
use Rattle.pm_plan.specs.Trees.{hop}
use Rattle.pm_plan.specs.declared.plan.Plan.{Plan}
use Rattle.pm_sim.specs.Worlds.{Mail, Process, World, home, mail, clps_of, ports}
use Rattle.pm_sim.specs.Worlds.Process.{AtClp, AtAgent}
use Rattle.pm_sim.specs.Sims.{In, NotPast, Past, class_at, has_read}
use Rattle.pm_sim.specs.Routings.{Begun, is_move, mail_to, moves_var, stands_at, toward}
use Rattle.pm_sim.proofs.Catches.{has_in}
use Rattle.pm_sim.proofs.Letters.{message_of, letters, map_in}
use Rattle.pm_sim.proofs.Places.{clp_at, queries_at, Sim}
use Rattle.pm_sim.proofs.Quiets.{tally_some}
use Rattle.pm_sim.proofs.Stamps.{past_not, not_past_up}
use Rattle.pm_base.specs.declared.value.Query.TheVariants as query
use Rattle.pm_message.specs.declared.Message.TheVariants as message
use Rattle.pm_sim.proofs.Reaches.{quiet_fits}

module _ (p : Plan) (q : State) (w : World) (recs : ℕ → Parts) (sim : Sim p q w recs) (asked :
    AskedOk p (length q.values) recs (clp_at w) (mail w.links)) (bounds : BoundsOk p w.line recs (clp_at w) w.links)
    (k : Line) (quiet : (e : ℕ) (f : Process) (m : Message) → In (mail_to (AtClp e) f m) (mail w.links)
    → NotPast k (stamp_of m))
    (n : Num) (s : Stamp) (j : ℕ) (u : Window)
    (issue : In (message.Ask n s (query.Class j u)) sim.issued) (low : NotPast w.line s) (past : Past k s) where
  abbrev N : ℕ
  N = clps_of p

  abbrev h : ℕ
  h = home p n.agent

  abbrev hp : ℕ → ℕ
  hp d = hop (parents p.clps) d h

  abbrev net : Net
  net = net_of p j (clp_at w) w.links recs

  same_ask : (z : Stamp) (i : ℕ) (b : Window)
      → In (message.Ask n z (query.Class i b)) sim.issued → (z ≡ s) × (i ≡ j) × (b ≡ u)
  same_ask z i b a = (let e : message.Ask n z (query.Class i b) ≡ message.Ask n s (query.Class j u) =
      sim.core.unique _ _ a issue refl in (cc, cc, cc))

  -- no Ask of it is on the way to a communication process
  no_ask : (a : ℕ) (b : Process) (z : Stamp) (i : ℕ) (x : Window)
      → In (mail_to (AtClp a) b (message.Ask n z (query.Class i x))) (mail w.links) → ⊥
  no_ask a b z i x f =
      let l : In (message.Ask n z (query.Class i x)) (letters w.links) = map_in message_of (mail w.links) _ f in
      let e = (same_ask z i x (sim.core.mail _ l).0).0 in
      past_not k s past (subst (NotPast k) e (quiet a b _ f))

  link_fits : (d e : ℕ) (b : Window) → GrowsFit s b (net.link d e)
  link_fits d e b = quiet_fits p j k s b past (between (AtClp e) (AtClp d) w.links)
      (λ m i. quiet e (AtClp d) m (between_mail (AtClp e) (AtClp d) w.links m i))

  covered : (b : Window) → CoveredAt (Door p) s b net
  covered b = bounds.covered j s low b

  hop_in : (d : ℕ) → d < N → (d ≡ h → ⊥) → In (hp d) (ports p d)
  hop_in d ld ne = sim.tree.hop_port d h ld (sim.tree.homes n.agent) ne

  -- the value is in what the next CLP towards home knows of this one
  abbrev Behind : Value → ℕ → Type 0
  Behind x d = (b : Window) → Fits s b (net.bound (hp d) d) → inside x b ≡ true

  behind_next : (x : Value) (d : ℕ) → d < N → (d ≡ h → ⊥) → Behind x d → (hp d ≡ h → ⊥) → Behind x (hp d)
  behind_next x d ld ne bh nf b f =
      let lf : hp d < N = sim.tree.inside d (hp d) (hop_in d ld ne) in
      let g : Fits s b (net.told (hp d) (hp (hp d))) =
      (covered b).heard (hp d) (hp (hp d)) (lf, hop_in (hp d) lf nf) f (link_fits (hp d) (hp (hp d)) b) in
      bh b ((covered b).through
      (hp d) (hp (hp d)) d (lf, hop_in (hp d) lf nf) (lf, sim.tree.back d (hp d) ld (hop_in d ld ne))
      (λ e. no_turn_back p w.line sim.tree d (hp d) h ld lf (sim.tree.homes n.agent) ne nf refl e) g)

  -- no value is in all windows
  not_all : (x : Value) → ((b : Window) → inside x b ≡ true) → ⊥
  not_all x all =
      let a : int_le (pos 1) x.x ≡ true = (and_parts (int_le (pos 1) x.x) (int_le x.x (pos 1))
      (and_parts (int_le (pos 1) x.x && int_le x.x (pos 1)) (int_le (pos 0) x.y && int_le x.y (pos 0))
      (all (record { x0 = pos 1; x1 = pos 1; y0 = pos 0; y1 = pos 0 }))).0).0 in
      let b : int_le x.x (pos 0) ≡ true = (and_parts (int_le (pos 0) x.x) (int_le x.x (pos 0))
      (and_parts (int_le (pos 0) x.x && int_le x.x (pos 0)) (int_le (pos 0) x.y && int_le x.y (pos 0))
      (all (record { x0 = pos 0; x1 = pos 0; y0 = pos 0; y1 = pos 0 }))).0).1 in
      apart x.x a b
    where
      apart : (i : ℤ) → int_le (pos 1) i ≡ true → int_le i (pos 0) ≡ true → ⊥
      apart i a b = grind (arith, ints, a, b)

  -- where the bound misses the window the value is outside
  outside : (x : Value) (bd : Known)
      → ((b : Window) → Fits s b bd → inside x b ≡ true) → meets_at u (bound_at bd s) ≡ false → hit_in x u ≡ None
  outside x bd all miss = elim (cases_Bool (inside x u)) [
    | inr e ↦ rw e refl
    | inl e ↦ absurd (go (bound_at bd s) refl miss e)
  ]
    where
      go : (o : Option Window) → bound_at bd s ≡ o → meets_at u o ≡ false → inside x u ≡ true → ⊥
      go None f g i = not_all x (λ b. all b (bound_none s b bd f))
      go (Some y) f g i = (let a = common_meets x y u (all y (bound_up s bd y f)) i in cc)

  -- from the place of a record to the home, and back
  reach : (x : Value) (fuel d : ℕ) → d < N → sim.tree.dist d h ≤ fuel → (has_reg n (queries_at w h) ≡ true)
      → ((d ≡ h → ⊥) → Behind x d) → (has_reg n (queries_at w d) ≡ true) ⊎ (hit_in x u ≡ None)
  reach x zero d ld le at_home bh = elim (cases_eq d h) [
    | inl e ↦ inl (subst (λ z. has_reg n (queries_at w z) ≡ true) (sym e) at_home)
    | inr ne ↦ absurd (let a = sim.tree.nearer d h ld (sim.tree.homes n.agent) ne in omega arith)
  ]
  reach x (suc fuel) d ld le at_home bh = elim (cases_eq d h) [
    | inl e ↦ inl (subst (λ z. has_reg n (queries_at w z) ≡ true) (sym e) at_home)
    | inr ne ↦ (let lf : hp d < N = sim.tree.inside d (hp d) (hop_in d ld ne) in
        elim (reach x fuel (hp d) lf (let a = sim.tree.nearer d h ld (sim.tree.homes n.agent) ne in omega arith)
        at_home (λ nf. behind_next x d ld ne (bh ne) nf)) [
          | inr none ↦ inr none
          | inl f ↦ back d ld ne lf (bh ne) (reg_of n (queries_at w (hp d)) f)
        ])
  ]
    where
      back : (d : ℕ) → d < N → (d ≡ h → ⊥) → hp d < N → Behind x d → (r : Registered)
          × In r (queries_at w (hp d)) × (r.num ≡ n) → (has_reg n (queries_at w d) ≡ true) ⊎ (hit_in x u ≡ None)
      back d ld ne lf b (r, i, en) = elim (cases_Bool (has d r.sent)) [
        | inl f ↦ elim (asked.sent (hp d) d r lf i (has_in d r.sent f)) [
          | inl g ↦ inl (subst (λ z. has_reg z (queries_at w d) ≡ true) en g)
          | inr g ↦ absurd (no_ask d (AtClp (hp d)) g.0 g.1 g.2 (subst (λ z.
              In (mail_to (AtClp d) (AtClp (hp d)) (message.Ask z g.0 (query.Class g.1 g.2))) (mail w.links)) en g.3))
        ]
        | inr f ↦ (let o = sim.queries.reg (hp d) r lf i in
            let same = same_ask r.stamp r.class
            r.window (subst (λ z. In (message.Ask z r.stamp (query.Class r.class r.window)) sim.issued) en o.0) in
            let miss : may_hold (ports p (hp d)) (clp_at w (hp d)).bound d r.class r.stamp r.window ≡ false =
            asked.pruned (hp d) d r lf i (sim.tree.back d (hp d) ld (hop_in d ld ne))
            (λ g. from_not (sym (o.2 ∙ ap (λ (z : Num). toward p (hp d) z.agent) en) ∙ g)) f in
            let miss2 : may_hold (ports p (hp d)) (clp_at w (hp d)).bound d j s u ≡ false =
            subst (λ z. may_hold (ports p (hp d)) (clp_at w (hp d)).bound d z s u ≡ false) same.1
            (subst (λ z. may_hold (ports p (hp d)) (clp_at w (hp d)).bound d r.class z u ≡ false) same.0 (subst
            (λ z. may_hold (ports p (hp d)) (clp_at w (hp d)).bound d r.class r.stamp z ≡ false) same.2 miss)) in
            inr (outside x (net.bound (hp d) d) b miss2))
      ]
        where
          from_not : toward p (hp d) n.agent ≡ AtClp d → ⊥
          from_not g = elim (cases_eq (hp d) h) [
            | inl e ↦ (let a : toward p (hp d) n.agent ≡ AtAgent n.agent = ap (λ z. toward p z n.agent) e
                ∙ toward_home p w.line sim.tree n.agent in let b : AtAgent n.agent ≡ AtClp d = sym a ∙ g in cc)
            | inr nf ↦ no_turn_back p w.line sim.tree d (hp d) h ld lf (sim.tree.homes n.agent)
                ne nf refl (clp_parts (hp (hp d)) d (sym (toward_away p w.line sim.tree (hp d) n.agent nf) ∙ g))
          ]

  -- the record of v has the read, or would have no hit
  pub found : (v : ℕ) → v < length q.values → class_at p v ≡ j → Begun p (queries_at w) (mail w.links) n
      → (has_read n (recs v).reads ≡ true) ⊎ (hit_in (record_value (recs v) s) u ≡ None)
  found v lv ec bg =
      let mv = sim.moves.placed v lv in
      let pl : (sim.place v < N) × (rec_at (clp_at w (sim.place v)).records v ≡ Some (recs v)) = (
        mv.0,
        elim mv.1 [
          | inl a ↦ at_place v mv.0 (rec_at (clp_at w (sim.place v)).records v) refl a.0
          | inr a ↦ absurd (let t = tally_some (is_move v) (mail w.links) (let z = a.1 in omega arith) in
              no_move v t.0 t.1 t.0.message refl t.2)
        ],
      ) in
      let at_home : has_reg n (queries_at w h) ≡ true =
      elim bg [ inl a ↦ a | inr a ↦ absurd (no_ask h (AtAgent n.agent) a.0 a.1 a.2 a.3) ] in
      elim (reach (record_value (recs v) s)
      (sim.tree.dist (sim.place v) h) (sim.place v) pl.0 (omega arith) at_home (λ ne. first v ec pl.0 pl.1 ne)) [
        | inr a ↦ inr a
        | inl a ↦ (let r = reg_of n (queries_at w (sim.place v)) a in
            let o = sim.queries.reg (sim.place v) r.0 pl.0 r.1 in
            let same = same_ask r.0.stamp r.0.class r.0.window
            (subst (λ z. In (message.Ask z r.0.stamp (query.Class r.0.class r.0.window)) sim.issued) r.2 o.0) in
            inl (subst (λ z. has_read z (recs v).reads ≡ true)
            r.2 (asked.watched (sim.place v) v r.0 (recs v) pl.0 lv r.1 (ec ∙ sym same.1) pl.1)))
      ]
    where
      at_place : (v : ℕ) → sim.place v < N → (o : Option Parts)
          → rec_at (clp_at w (sim.place v)).records v ≡ o → stands_at (rec_at (clp_at w (sim.place v)).records v) ≡ true
          → rec_at (clp_at w (sim.place v)).records v ≡ Some (recs v)
      at_place v lp None e h = absurd (let g = ap stands_at e in cc)
      at_place v lp (Some y) e h = e ∙ ap Some (sim.places.at (sim.place v) v y lp e).1

      -- a Move is no later than s
      no_move : (v : ℕ) (x : Mail)
          → In x (mail w.links) → (m : Message) → x.message ≡ m → moves_var v x.message ≡ true → ⊥
      no_move v x i (message.Move u z r) e h =
          let i2 : In (mail_to x.to x.from (message.Move u z r)) (mail w.links) =
          subst (λ (y : Message). In (mail_to x.to x.from y) (mail w.links)) e i in
          let o = sim.moves.moves x.to x.from u z r i2 in
          past_not k s past (not_past_up k z s (o.2 s low) (quiet (sim.place u) x.from (message.Move u z r)
          (subst (λ y. In (mail_to y x.from (message.Move u z r)) (mail w.links)) o.4 i2)))
      no_move v x i (message.Wake a b) e h = (let g = ap (moves_var v) e in cc)
      no_move v x i (message.Ask a b y) e h = (let g = ap (moves_var v) e in cc)
      no_move v x i (message.Put b_n b_t a b_c) e h = (let g = ap (moves_var v) e in cc)
      no_move v x i (message.Cut b_n b_t a) e h = (let g = ap (moves_var v) e in cc)
      no_move v x i (message.Give a) e h = (let g = ap (moves_var v) e in cc)
      no_move v x i (message.Finish a b) e h = (let g = ap (moves_var v) e in cc)
      no_move v x i (message.Grow a b y u') e h = (let g = ap (moves_var v) e in cc)

      first : (v : ℕ) → class_at p v ≡ j → sim.place v < N → rec_at (clp_at w (sim.place v)).records v ≡ Some (recs v)
          → (sim.place v ≡ h → ⊥) → Behind (record_value (recs v) s) (sim.place v)
      first v ec lp at ne b f =
          let d : ℕ = sim.place v in
          let a : (class_at p v == j) ≡ true = grind (arith, nat_tests, ec) in
          let here : net.at v d ≡ true = (let e = ap stands_at at in rw (a, e)) in
          let i = (covered b).here d (hp d)
          v (lp, hop_in d lp ne) here ((covered b).heard d (hp d) (lp, hop_in d lp ne) f (link_fits d (hp d) b)) in
          subst (λ z. inside z b ≡ true) (rw a) i
