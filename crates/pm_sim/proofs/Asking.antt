-- What each event of a CLP keeps of its registered queries.
use Rattle.pm_queries.specs.Queries.{has_reg, ask_of, has}
use Rattle.pm_queries.specs.declared.registered.Registered.{Registered}
use Rattle.pm_tables.specs.Tables.{may_hold, meets_at, known_at}
use Rattle.std.proofs.lemmas.Bool.Decides.{nat_tests}
use Rattle.pm_clp.specs.Clps.{caught, catches, ClpState, rec_at}
use Rattle.pm_ranges.specs.Known.{Known, bound_at}
use Rattle.pm_sim.proofs.Sides.{eq_self}
use Rattle.pm_sim.proofs.Places.{process_clp}
use Rattle.pm_sim.specs.Covers.{Door, AskedOk}
use Rattle.pm_sim.specs.Worlds.{hub_of, process, ports, Mail, clps_of}
use Rattle.std.proofs.lemmas.Bool.{cases_eq, cases_Bool}
use Rattle.std.proofs.Common.{◌≡◌, ℕ, ◌<◌, ◌⊎◌, inl, inr, ◌==◌, true, false, List, map, length, refl, ap, sym, ◌∙◌, subst, subst₂, Option, Some}
use Rattle.pm_base.specs.declared.rows.Parts.{Parts}
use Rattle.pm_base.specs.declared.stamp.Num.{Num}
use Rattle.pm_base.specs.declared.stamp.Stamp.{Stamp}
use Rattle.pm_base.specs.declared.value.Window.{Window}
use Rattle.pm_plan.specs.declared.plan.Plan.{Plan}
use Rattle.pm_sim.specs.Worlds.Process.{AtClp}
use Rattle.pm_sim.specs.Sims.{In, class_at, has_read}
use Rattle.pm_sim.specs.Routings.{mail_to}
use Rattle.pm_sim.proofs.Letters.{Bag, in_map}
use Rattle.pm_base.specs.declared.value.Query.TheVariants as query
use Rattle.pm_message.specs.declared.Message.TheVariants as message
use Rattle.pm_sim.proofs.Catches.{caught_same}
use Rattle.pm_sim.proofs.Catches.{in_has}
use Rattle.pm_sim.proofs.Catches.{caught_sent}
use Rattle.pm_sim.proofs.Catches.{has_in}
use Rattle.std.proofs.Common.{arith}
use Rattle.pm_sim.proofs.Catches.{caught_here}
use Rattle.pm_sim.proofs.Catches.{sent_caught}

module _ (p : Plan)
    (n c : ℕ) (lc : c < clps_of p) (cs cs' : ℕ → ClpState) (old new gone sent : List Mail) (recs recs' : ℕ → Parts)
    (there : (d : ℕ) → (d ≡ c → ⊥) → cs' d ≡ cs d) (bag : Bag old new gone sent) (ok : AskedOk p n recs cs old)
    (reads_up : (v : ℕ) (m : Num) → has_read m (recs v).reads ≡ true → has_read m (recs' v).reads ≡ true)
    (grows : (e d k : ℕ) (s : Stamp) (u : Option Stamp) (w : Window)
    → In (mail_to (AtClp e) (AtClp d) (message.Grow k s u w)) sent → Door p d e × (k < length p.layout.classes))
    (taken : (d e : ℕ) (m : Num) (s : Stamp) (k : ℕ) (w : Window) → In (mail_to
    (AtClp d) (AtClp e) (message.Ask m s (query.Class k w))) gone → (d ≡ c) × (has_reg m (cs' c).queries ≡ true))
    (still : (m : Num) → has_reg m (cs c).queries ≡ true → has_reg m (cs' c).queries ≡ true) where
  abbrev Found : ℕ → ℕ → Num → Type 0
  Found e d m = (has_reg m (cs' d).queries ≡ true) ⊎ ((s : Stamp)
      × (k : ℕ) × (w : Window) × In (mail_to (AtClp d) (AtClp e) (message.Ask m s (query.Class k w))) new)

  has_up : (d : ℕ) (m : Num) → has_reg m (cs d).queries ≡ true → has_reg m (cs' d).queries ≡ true
  has_up d m h = elim (cases_eq d c) [
    | inl f ↦ subst
        (λ z. has_reg m (cs' z).queries ≡ true) (sym f) (still m (subst (λ z. has_reg m (cs z).queries ≡ true) f h))
    | inr ne ↦ subst (λ (z : ClpState). has_reg m z.queries ≡ true) (sym (there d ne)) h
  ]

  goes_on : (e d : ℕ) (m : Num) → (has_reg m (cs d).queries ≡ true) ⊎ ((s : Stamp)
      × (k : ℕ) × (w : Window) × In (mail_to (AtClp d) (AtClp e) (message.Ask m s (query.Class k w))) old) → Found e d m
  goes_on e d m (inl h) = inl (has_up d m h)
  goes_on e d m (inr (s, k, w, i)) = elim (bag.kept _ i) [
    | inl j ↦ (let o = taken d e m s k w j in inl (subst (λ z. has_reg m (cs' z).queries ≡ true) (sym o.0) o.1))
    | inr j ↦ inr (s, k, w, j)
  ]

  pub asked_step :
      ((d : ℕ) (r : Registered) → In r (cs' c).queries
      → In d r.sent → ((r0 : Registered) × In r0 (cs c).queries × (r0.num ≡ r.num) × In d r0.sent) ⊎ ((s : Stamp)
      × (k : ℕ) × (w : Window) × In (mail_to (AtClp d) (AtClp c) (message.Ask r.num s (query.Class k w))) new))
      → ((v : ℕ) (r : Registered) (y : Parts) → v < n → In r (cs' c).queries
      → class_at p v ≡ r.class → rec_at (cs' c).records v ≡ Some y → has_read r.num (recs' v).reads ≡ true)
      → ((d : ℕ) (r : Registered) → In r (cs' c).queries → In d (ports p c) → (process p r.from ≡ AtClp d → ⊥)
      → has d r.sent ≡ false → may_hold (ports p c) (cs' c).bound d r.class r.stamp r.window ≡ false)
      → AskedOk p n recs' cs' new
  asked_step sent_at watched pruned = record {
    sent = λ e d r le i j. elim (cases_eq e c) [
      | inl f ↦ elim (sent_at d r (subst (λ z. In r (cs' z).queries) f i) j) [
        | inl h ↦ goes_on e d r.num (subst (λ z. (has_reg z (cs d).queries ≡ true) ⊎ ((s : Stamp)
            × (k : ℕ) × (w : Window) × In (mail_to (AtClp d) (AtClp e) (message.Ask z s (query.Class k w))) old)) h.2
            (subst (λ z. (has_reg h.0.num (cs d).queries ≡ true) ⊎ ((s : Stamp) × (k : ℕ)
            × (w : Window) × In (mail_to (AtClp d) (AtClp z) (message.Ask h.0.num s (query.Class k w))) old))
            (sym f) (ok.sent c d h.0 lc h.1 h.3)))
        | inr h ↦ inr (
          h.0,
          h.1,
          h.2,
          subst (λ z. In (mail_to (AtClp d) (AtClp z) (message.Ask r.num h.0 (query.Class h.1 h.2))) new) (sym f) h.3,
        )
      ]
      | inr ne ↦ goes_on e d r.num (ok.sent e d r le (subst (λ (z : ClpState). In r z.queries) (there e ne) i) j)
    ];
    watched = λ e v r y le lv i ec er. elim (cases_eq e c) [
      | inl f ↦ watched
          v r y lv (subst (λ z. In r (cs' z).queries) f i) ec (subst (λ z. rec_at (cs' z).records v ≡ Some y) f er)
      | inr ne ↦ reads_up v r.num (ok.watched e v r y le lv (subst (λ (z : ClpState). In r z.queries) (there e ne) i)
          ec (subst (λ (z : ClpState). rec_at z.records v ≡ Some y) (there e ne) er))
    ];
    pruned = λ e d r le i port nf h. elim (cases_eq e c) [
      | inl f ↦ subst (λ z. may_hold (ports p z) (cs' z).bound d r.class r.stamp r.window ≡ false)
          (sym f) (pruned d r (subst (λ z. In r (cs' z).queries) f i) (subst (λ z. In d (ports p z)) f port) nf h)
      | inr ne ↦ subst (λ (z : ClpState). may_hold (ports p e) z.bound d r.class r.stamp r.window ≡ false)
          (sym (there e ne)) (ok.pruned e d r le (subst (λ (z : ClpState). In r z.queries) (there e ne) i) port nf h)
    ];
    grows = λ e d k s u w i. elim (bag.from _ i) [ inl j ↦ ok.grows e d k s u w j | inr j ↦ grows e d k s u w j ];
  }

  -- the queries and the bounds stay, and no record comes
  pub asked_plain : (cs' c).queries ≡ (cs c).queries → (cs' c).bound ≡ (cs c).bound
      → ((v : ℕ) (y : Parts) → rec_at (cs' c).records v ≡ Some y → (y0 : Parts) × (rec_at (cs c).records v ≡ Some y0))
      → AskedOk p n recs' cs' new
  asked_plain eq eb back = asked_step
      (λ d r i j. inl (r, subst (In r) eq i, refl, j))
      (λ v r y lv i ec er.
      (let o = back v y er in reads_up v r.num (ok.watched c v r o.0 lc lv (subst (In r) eq i) ec o.1)))
      (λ d r i port nf h. ap (λ z. may_hold (ports p c) z d r.class r.stamp r.window) eb
      ∙ ok.pruned c d r lc (subst (In r) eq i) port nf h)

  -- the bound of d has grown for class k, and what then meets it was sent there
  pub asked_catch : ((e : ℕ) → In e (ports p c) → e < clps_of p) → (d k : ℕ) (b' : List (List Known))
      → (cs' c).queries ≡ map (λ (r : Registered). caught (hub_of p c) b' d k r) (cs c).queries → (cs' c).bound ≡ b'
      → ((e j : ℕ) → (e ≡ d → j ≡ k → ⊥) → known_at (ports p c) e j b' ≡ known_at (ports p c) e j (cs c).bound)
      → ((r : Registered) → In r (cs c).queries
      → catches (hub_of p c) b' d k r ≡ true → In (mail_to (AtClp d) (AtClp c) (ask_of r)) new)
      → ((v : ℕ) (y : Parts) → rec_at (cs' c).records v ≡ Some y → (y0 : Parts) × (rec_at (cs c).records v ≡ Some y0))
      → AskedOk p n recs' cs' new
  asked_catch low d k b' eq eb same late back = asked_step
      (λ d' r' i j. (let o = in_map cg (cs c).queries r' (subst (In r') eq i) in let a = caught_same p c b' d k o.0 in
      elim (sent_caught p c b' d k o.0 d' (subst (λ (y : Registered). In d' y.sent) o.2 j)) [
        | inl f ↦ inl (o.0, o.1, sym (ap (λ (y : Registered). y.num) o.2 ∙ a.0), f)
        | inr f ↦ inr (
          o.0.stamp,
          o.0.class,
          o.0.window,
          subst₂ (λ (x : Num) y.
              In (mail_to (AtClp y) (AtClp c) (message.Ask x o.0.stamp (query.Class o.0.class o.0.window))) new)
              (sym (ap (λ (y : Registered). y.num) o.2 ∙ a.0)) (sym f.0) (late o.0 o.1 f.1),
        )
      ]))
      (λ v r' y lv i ec er. (let o = in_map cg (cs c).queries r' (subst (In r') eq i) in let a =
      caught_same p c b' d k o.0 in let y0 = back v y er in
      subst (λ m. has_read m (recs' v).reads ≡ true) (sym (ap (λ (y' : Registered). y'.num) o.2 ∙ a.0)) (reads_up
      v o.0.num (ok.watched c v o.0 y0.0 lc lv o.1 (ec ∙ (ap (λ (y' : Registered). y'.class) o.2 ∙ a.4)) y0.1))))
      (λ d' r' i port nf h. (let o = in_map cg (cs c).queries r' (subst (In r') eq i) in
      ap (λ y. may_hold (ports p c) y d' r'.class r'.stamp r'.window) eb
      ∙ subst (λ (y : Registered). may_hold (ports p c) b' d' y.class y.stamp y.window ≡ false) (sym o.2)
      (late_pruned d' o.0 o.1 port (λ g. nf (ap (λ (y : Registered). process p y.from) o.2 ∙ (ap
      (process p) (caught_same p c b' d k o.0).1 ∙ g))) (ap (λ (y : Registered). has d' y.sent) (sym o.2) ∙ h))))
    where
      cg : Registered → Registered
      cg y = caught (hub_of p c) b' d k y

      late_pruned : (d' : ℕ) (y : Registered)
          → In y (cs c).queries → In d' (ports p c) → (process p y.from ≡ AtClp d' → ⊥)
          → has d' (cg y).sent ≡ false → may_hold (ports p c) b' d' (cg y).class (cg y).stamp (cg y).window ≡ false
      late_pruned d' y i port nf h =
          let a = caught_same p c b' d k y in
          let h0 : has d' y.sent ≡ false = elim (cases_Bool (has d' y.sent)) [
            | inr f ↦ f
            | inl f ↦ absurd (let j = in_has d' (cg y).sent (caught_sent p c b' d k y d' (has_in d' y.sent f)) in cc)
          ] in
          let old_ : (known_at (ports p c) d' y.class b' ≡ known_at (ports p c) d' y.class (cs c).bound)
          → may_hold (ports p c) b' d' y.class y.stamp y.window ≡ false =
          λ g. ap (λ x. meets_at y.window (bound_at x y.stamp)) g ∙ ok.pruned c d' y lc i port nf h0 in
          ap (λ x. may_hold (ports p c) b' d' x (cg y).stamp (cg y).window) a.4
          ∙ (ap (λ x. may_hold (ports p c) b' d' y.class x (cg y).window) a.2
          ∙ (ap (λ x. may_hold (ports p c) b' d' y.class y.stamp x) a.3
          ∙ elim (cases_eq d' d) [
            | inr ne ↦ old_ (same d' y.class (λ g _. ne g))
            | inl f ↦ elim (cases_eq y.class k) [
              | inr ne ↦ old_ (same d' y.class (λ _ g. ne g))
              | inl g ↦ elim (cases_Bool (may_hold (ports p c) b' d' y.class y.stamp y.window)) [
                | inr hh ↦ hh
                | inl hh ↦ absurd (
                    let c1 : (k == y.class) ≡ true = subst (λ x. (k == x) ≡ true) (sym g) (eq_self k) in
                    let c2 : (y.from == d) ≡ false =
                    elim (cases_Bool (y.from == d)) [
                      | inl x ↦ absurd (nf (ap (process p) (let x' : y.from ≡ d =
                          grind (arith, nat_tests, x) in x' ∙ sym f) ∙ process_clp p d' (low d' port)))
                      | inr x ↦ x
                    ] in
                    let c3 : has d y.sent ≡ false = ap (λ x. has x y.sent) (sym f) ∙ h0 in
                    let c4 : may_hold (ports p c) b' d k y.stamp y.window ≡ true =
                    ap (λ x. may_hold (ports p c) b' d x y.stamp y.window) (sym g)
                    ∙ (ap (λ x. may_hold (ports p c) b' x y.class y.stamp y.window) (sym f) ∙ hh) in
                    let ct : catches (hub_of p c) b' d k y ≡ true = rw (c1, c2, c3, c4) refl in
                    let j = in_has d (cg y).sent (caught_here p c b' d k y ct) in
                    let h' : has d (cg y).sent ≡ false = ap (λ x. has x (cg y).sent) (sym f) ∙ h in cc)
              ]
            ]
          ]))
