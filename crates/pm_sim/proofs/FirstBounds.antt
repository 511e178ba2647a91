-- The first bounds hold the first values.
use Rattle.pm_sim.specs.Routings.{stands_at}
use Rattle.pm_tables.specs.Tables.{known_at, always, first_row, grown_first, is_towards, no_value}
use Rattle.pm_sim.specs.Bounds.{Going, Comes, between, items, table_ok, BoundsOk}
use Rattle.pm_ranges.specs.Fits.{Fits}
use Rattle.pm_ranges.specs.Joins.{Row}
use Rattle.pm_ranges.specs.Known.{Known, grown, nothing_known}
use Rattle.pm_base.specs.Windows.{inside, point_of}
use Rattle.pm_clp.specs.Clps.{ClpState, rec_at}
use Rattle.pm_sim.proofs.Firsts.{first_place, PlanFits, first_sim, no_queries, recs, place, clp_is, way_at, mail_is}
use Rattle.pm_routes.specs.Routings.{place_of}
use Rattle.pm_routes.specs.declared.way.Way.{Way}
use Rattle.pm_base.specs.declared.layout.ClassRow.{ClassRow}
use Rattle.pm_base.specs.Layouts.{class_row}
use Rattle.pm_base.specs.declared.value.Value.{Value}
use Rattle.pm_base.specs.declared.value.Window.{Window}
use Rattle.pm_base.specs.declared.stamp.Stamp.{Stamp}
use Rattle.pm_plan.specs.declared.plan.Plan.{Plan}
use Rattle.pm_plan.specs.Plans.{parents}
use Rattle.pm_plan.specs.Trees.{hop}
use Rattle.pm_sim.specs.Worlds.{Mail, World, first_way, first_world, ports}
use Rattle.pm_sim.specs.Worlds.Process.{AtClp}
use Rattle.pm_sim.specs.Sims.{In, NotPast, class_at}
use Rattle.pm_sim.specs.Covers.{Door}
use Rattle.pm_sim.proofs.Ranges.{grow_fits, grow_back, grow_line}
use Rattle.pm_sim.proofs.Sides.{eq_self, eq_not}
use Rattle.pm_sim.proofs.Places.{Sim, clp_at, in_range}
use Rattle.pm_sim.proofs.Fulls.{Full, some_of}
use Rattle.pm_sim.proofs.Acts.{class_low}
use Rattle.pm_sim.proofs.Wires.{between_mail}
use Rattle.pm_model.specs.Runs.{sequential_start}
use Rattle.pm_periods.specs.Records.{record_value}
use Rattle.pm_message.specs.declared.Message.{Message}
use Rattle.std.proofs.Common.{◌≡◌, ◌⊎◌, inl, inr, ℕ, zero, suc, ◌+◌, ◌<◌, ◌≤◌, ◌==◌, Bool, true, false, cond, not, ◌&&◌, List, [], ◌∷◌, map, length, get_or, refl, arith, ap, sym, ◌∙◌, subst}
use Rattle.std.proofs.lemmas.Bool.{cases_eq, cond_both, and_parts}
use Rattle.std.proofs.lemmas.Bool.Decides.{nat_tests}
use Rattle.std.proofs.lemmas.List.{length-map}
use Rattle.pm_routes.specs.declared.way.Way.TheVariants as way

module _ (test : Way → Bool) (ways : List Way) (values : List Value) where
  abbrev row : ℕ → Row
  row i = record { when = always; window = point_of (get_or values i no_value) }

  first_line : (m i : ℕ) (b : Known) → (grown_first test ways values i m b).line ≡ b.line
  first_line zero i b = refl
  first_line (suc m) i b =
      let b' : Known = cond (test (get_or ways i way.Here)) (grown always (point_of (get_or values i no_value)) b) b in
      first_line m (suc i) b'
      ∙ cond_both (test (get_or ways i way.Here)) (grown always (point_of (get_or values i no_value)) b)
      b (λ (z : Known). z.line ≡ b.line) (λ _. grow_line (row i) b) (λ _. refl)

  module _ (s : Stamp) (u : Window) where
    abbrev Has : ℕ → Type 0
    Has v = test (get_or ways v way.Here) ≡ true → inside (get_or values v no_value) u ≡ true

    np_next : (i : ℕ) (b : Known)
        → NotPast b.line s → NotPast (grown always (point_of (get_or values i no_value)) b).line s
    np_next i b np = subst (λ l. NotPast l s) (sym (grow_line (row i) b)) np

    pub first_in : (m i : ℕ) (b : Known) → NotPast b.line s
        → Fits s u (grown_first test ways values i m b) → Fits s u b × ((v : ℕ) → i ≤ v → v < i + m → Has v)
    first_in zero i b np f = (f, λ v lo hi. absurd (omega (arith, lo, hi)))
    first_in (suc m) i b np f = go (first_in m (suc i)) (test (get_or ways i way.Here)) refl f
      where
        w : Window
        w = point_of (get_or values i no_value)

        go : ((b' : Known) → NotPast b'.line s → Fits s u (grown_first test ways values (suc i) m b') → Fits s u b'
            × ((v : ℕ) → suc i ≤ v → v < suc i + m → Has v)) → (t : Bool) → test (get_or ways i way.Here) ≡ t
            → Fits s u (grown_first test ways values (suc i) m (cond t (grown always w b) b))
            → Fits s u b × ((v : ℕ) → i ≤ v → v < i + suc m → Has v)
        go again true e g =
            let a = again (grown always w b) (np_next i b np) g in
            let one = grow_fits (row i) b s u np a.0 in (
              one.0,
              λ v lo hi h. elim (cases_eq v i) [
                | inl x ↦ subst (λ z. inside (get_or values z no_value) u ≡ true)
                    (sym x) (one.1 refl)
                | inr n ↦ a.1 v (omega (arith, lo, n)) (omega (arith, hi)) h
              ],
            )
        go again false e g =
            let a = again b np g in (
              a.0,
              λ v lo hi h. elim (cases_eq v i) [
                | inl x ↦ absurd
                    (let y : test (get_or ways v way.Here) ≡ false =
                    ap (λ z. test (get_or ways z way.Here)) x ∙ e in cc)
                | inr n ↦ a.1 v (omega (arith, lo, n)) (omega (arith, hi)) h
              ],
            )

    pub in_first : (m i : ℕ) (b : Known) → NotPast b.line s
        → Fits s u b → ((v : ℕ) → i ≤ v → v < i + m → Has v) → Fits s u (grown_first test ways values i m b)
    in_first zero i b np f h = f
    in_first (suc m) i b np f h = go (in_first m (suc i)) (test (get_or ways i way.Here)) refl
      where
        w : Window
        w = point_of (get_or values i no_value)

        go : ((b' : Known) → NotPast b'.line s → Fits s u b' → ((v : ℕ) → suc i ≤ v → v < suc i + m → Has v)
            → Fits s u (grown_first test ways values (suc i) m b')) → (t : Bool) → test (get_or ways i way.Here) ≡ t
            → Fits s u (grown_first test ways values (suc i) m (cond t (grown always w b) b))
        go again true e = again (grown always w b) (np_next i b np) (grow_back (row i) b
            s u np f (λ _. h i (omega arith) (omega arith) e)) (λ v lo hi. h v (omega (arith, lo)) (omega (arith, hi)))
        go again false e = again b np f (λ v lo hi. h v (omega (arith, lo)) (omega (arith, hi)))

-- ---- places of a first table

row_at : (R : ClassRow → Known) (cs : List ClassRow) (k : ℕ)
    → k < length cs → get_or (map R cs) k nothing_known ≡ R (class_row cs k)
row_at R [] k lt = absurd (omega arith)
row_at R (c ∷ cs) zero lt = refl
row_at R (c ∷ cs) (suc k) lt = row_at R cs k (omega arith)

row_none : (R : ClassRow → Known) (cs : List ClassRow) (k : ℕ)
    → length cs ≤ k → get_or (map R cs) k nothing_known ≡ nothing_known
row_none R [] k le = refl
row_none R (c ∷ cs) zero le = absurd (omega arith)
row_none R (c ∷ cs) (suc k) le = row_none R cs k (omega arith)

row_any : (s : Stamp) (R : ClassRow → Known) (cs : List ClassRow) (k : ℕ) → NotPast nothing_known.line s
    → ((x : ClassRow) → NotPast (R x).line s) → NotPast (get_or (map R cs) k nothing_known).line s
row_any s R [] k z h = z
row_any s R (c ∷ cs) zero z h = h c
row_any s R (c ∷ cs) (suc k) z h = row_any s R cs k z h

port_at : (f : ℕ → List Known) (ps : List ℕ) (d : ℕ) → In d ps → get_or (map f ps) (place_of ps d) [] ≡ f d
port_at f [] d i = absurd i
port_at f (x ∷ ps) d i = go (port_at f ps d) (x == d) refl
  where
    go : (In d ps → get_or (map f ps) (place_of ps d) [] ≡ f d)
        → (b : Bool) → (x == d) ≡ b → get_or (map f (x ∷ ps)) (cond b 0 (suc (place_of ps d))) [] ≡ f d
    go again true e = ap f (let g : x ≡ d = grind (arith, nat_tests, e) in g)
    go again false e =
        again (elim i [ inl g ↦ absurd (let h : (x == d) ≡ true = grind (arith, nat_tests, g) in cc) | inr j ↦ j ])

port_any : (s : Stamp) (f : ℕ → List Known) (ps : List ℕ) (i k : ℕ)
    → NotPast nothing_known.line s → ((d : ℕ) → NotPast (get_or (f d) k nothing_known).line s)
    → NotPast (get_or (get_or (map f ps) i []) k nothing_known).line s
port_any s f [] i k z h = z
port_any s f (d ∷ ps) zero k z h = h d
port_any s f (d ∷ ps) (suc i) k z h = port_any s f ps i k z h

map_len : (f : ℕ → List Known) (K : ℕ) (ps : List ℕ) (i : ℕ)
    → i < length ps → ((d : ℕ) → length (f d) ≡ K) → length (get_or (map f ps) i []) ≡ K
map_len f K [] i lt h = absurd (omega arith)
map_len f K (d ∷ ps) zero lt h = h d
map_len f K (d ∷ ps) (suc i) lt h = map_len f K ps i (omega arith) h

not_towards : (c e : ℕ) (y : Way) → (c ≡ e → ⊥) → is_towards e y ≡ true → not (is_towards c y) ≡ true
not_towards c e way.Here n h = absurd (cc)
not_towards c e (way.Port x) n h = (let a : e ≡ x =
    grind (arith, nat_tests, h) in let b : (c == x) ≡ false = eq_not c x (λ g. n (g ∙ sym a)) in ap not b)

module _ (p : Plan) (fit : PlanFits p) where
  abbrev W : World
  W = first_world p

  abbrev cls : List ClassRow
  cls = p.layout.classes

  abbrev vals : List Value
  vals = (sequential_start p).values

  abbrev ways : ℕ → List Way
  ways c = map (first_way p c) p.vars

  abbrev behind : ℕ → Way → Bool
  behind d y = is_towards d y

  abbrev before : ℕ → Way → Bool
  before d y = not (is_towards d y)

  abbrev first_sim' : Sim p (sequential_start p) W (recs p fit)
  first_sim' = first_sim p fit

  zero_low : (s : Stamp) → NotPast nothing_known.line s
  zero_low s = grind arith

  bound_is : (d c k : ℕ) → Door p d c → k < length cls
      → known_at (ports p d) c k (clp_at W d).bound ≡ first_row (behind c) (ways d) vals (class_row cls k)
  bound_is d c k pr lk = ap (λ (z : ClpState). known_at (ports p d) c k z.bound) (clp_is p fit d pr.0)
      ∙ (ap (λ z. get_or z k nothing_known) (port_at (λ e. map (first_row (behind e) (ways d) vals) cls)
      (ports p d) c pr.1) ∙ row_at (first_row (behind c) (ways d) vals) cls k lk)

  told_is : (d c k : ℕ) → Door p d c → k < length cls
      → known_at (ports p d) c k (clp_at W d).told ≡ first_row (before c) (ways d) vals (class_row cls k)
  told_is d c k pr lk = ap (λ (z : ClpState). known_at (ports p d) c k z.told) (clp_is p fit d pr.0)
      ∙ (ap (λ z. get_or z k nothing_known) (port_at (λ e. map (first_row (before e) (ways d) vals) cls)
      (ports p d) c pr.1) ∙ row_at (first_row (before c) (ways d) vals) cls k lk)

  bound_none : (d c k : ℕ) → Door p d c → length cls ≤ k → known_at (ports p d) c k (clp_at W d).bound ≡ nothing_known
  bound_none d c k pr le = ap (λ (z : ClpState). known_at (ports p d) c k z.bound) (clp_is p fit d pr.0)
      ∙ (ap (λ z. get_or z k nothing_known) (port_at (λ e. map (first_row (behind e) (ways d) vals) cls)
      (ports p d) c pr.1) ∙ row_none (first_row (behind c) (ways d) vals) cls k le)

  told_none : (d c k : ℕ) → Door p d c → length cls ≤ k → known_at (ports p d) c k (clp_at W d).told ≡ nothing_known
  told_none d c k pr le = ap (λ (z : ClpState). known_at (ports p d) c k z.told) (clp_is p fit d pr.0)
      ∙ (ap (λ z. get_or z k nothing_known) (port_at (λ e. map (first_row (before e) (ways d) vals) cls)
      (ports p d) c pr.1) ∙ row_none (first_row (before c) (ways d) vals) cls k le)

  row_low : (test : Way → Bool) (c : ℕ) (s : Stamp) (x : ClassRow) → NotPast (first_row test (ways c) vals x).line s
  row_low test c s x =
      subst (λ l. NotPast l s) (sym (first_line test (ways c) vals x.count x.first nothing_known)) (zero_low s)

  lt_or : (a b : ℕ) → (a < b) ⊎ (b ≤ a)
  lt_or a b = grind arith

  way_port : (c v : ℕ) → v < length vals
      → (c ≡ place p fit v → ⊥) → get_or (ways c) v way.Here ≡ way.Port (hop (parents p.clps) c (place p fit v))
  way_port c v lv ne =
      way_at p fit c v lv ∙ ap (λ b. cond b way.Here (way.Port (hop (parents p.clps) c (place p fit v))))
      (eq_not (place p fit v) c (λ e. ne (sym e)))

  way_here : (c v : ℕ) → v < length vals → place p fit v ≡ c → get_or (ways c) v way.Here ≡ way.Here
  way_here c v lv e =
      way_at p fit c v lv ∙ ap (λ b. cond b way.Here (way.Port (hop (parents p.clps) c (place p fit v))))
      (let g : (place p fit v == c) ≡ true = grind (arith, nat_tests, e) in g)

  in_class : (k v : ℕ) → v < (class_row cls k).first + (class_row cls k).count → v < length vals
  in_class k v hi = (let r = fit.shape.range k in omega (arith, hi, r))

  -- nothing is on its way between CLPs
  no_mail : (c d : ℕ) (ms : List Message) → between (AtClp c) (AtClp d) W.links ≡ ms → ms ≡ []
  no_mail c d [] e = refl
  no_mail c d (m ∷ ms) e = absurd (
      let i = between_mail (AtClp c) (AtClp d) W.links m (subst (λ z. In m z) (sym e) (inl refl)) in
      let o = mail_is p fit _ i in
      let g = ap (λ (z : Mail). z.to) o.4 in cc)

  no_link : (k c d : ℕ) → items p k (between (AtClp c) (AtClp d) W.links) ≡ []
  no_link k c d = ap (items p k) (no_mail c d (between (AtClp c) (AtClp d) W.links) refl)

  module _ (k : ℕ) (s : Stamp) (u : Window) where
    abbrev cr : ClassRow
    cr = class_row cls k

    heard_at : (d c : ℕ) → Door p d c
        → Fits s u (known_at (ports p c) d k (clp_at W c).bound) → Fits s u (known_at (ports p d) c k (clp_at W d).told)
    heard_at d c pr f = elim (lt_or k (length cls)) [
      | inr le ↦ subst (λ (z : Known). Fits s u z) (sym (told_none d c k pr le)) tt
      | inl lk ↦ (let back : Door p c d = (fit.tree.inside d c pr.1, fit.tree.back d c pr.0 pr.1) in
          let g : Fits s u (first_row (behind d) (ways c) vals cr) =
          subst (λ (z : Known). Fits s u z) (bound_is c d k back lk) f in
          let all = (first_in (behind d) (ways c) vals s u cr.count cr.first nothing_known (zero_low s) g).1 in
          subst (λ (z : Known). Fits s u z) (sym (told_is d c k pr lk)) (in_first (before c) (ways d) vals s u cr.count
          cr.first nothing_known (zero_low s) tt (λ v lo hi h. all v lo hi (turned v (in_class k v hi) h))))
    ]
      where
        turned : (v : ℕ) → v < length vals
            → not (is_towards c (get_or (ways d) v way.Here)) ≡ true → is_towards d (get_or (ways c) v way.Here) ≡ true
        turned v lv h = elim (fit.tree.either
            c d (place p fit v) (fit.tree.inside d c pr.1) (fit.place_in v lv) (fit.tree.back d c pr.0 pr.1)) [
              | inl a ↦ absurd (let e : not (is_towards c (get_or (ways d) v way.Here)) ≡ false =
                  ap (λ z. not (is_towards c z)) (way_port d v lv a.0 ∙ ap way.Port a.1) ∙ ap not (eq_self c) in cc)
              | inr a ↦ ap (is_towards d) (way_port c v lv a.0 ∙ ap way.Port a.1) ∙ eq_self d
            ]

    here_at : (d c v : ℕ) → Door p d c → (class_at p v == k && stands_at (rec_at (clp_at W d).records v)) ≡ true
        → Fits s u (known_at (ports p d) c k (clp_at W d).told)
        → inside (cond (class_at p v == k) (record_value (recs p fit v) s) no_value) u ≡ true
    here_at d c v pr a f =
        let parts = and_parts (class_at p v == k) (stands_at (rec_at (clp_at W d).records v)) a in
        let ec : class_at p v ≡ k = (let x = parts.0 in grind (arith, nat_tests, x)) in
        let o = some_of (rec_at (clp_at W d).records v) parts.1 in
        let lv : v < length vals = (let x =
        in_range (clp_at W d).records v o.0 o.1 in let y = first_sim'.places.records_len d pr.0 in omega arith) in
        let pd : place p fit v ≡ d = sym (first_place p fit v) ∙ (first_sim'.places.at d v o.0 pr.0 o.1).0 in
        let lk : k < length cls = subst (λ z. z < length cls) ec (class_low p (length vals) fit.shape v lv) in
        let g : Fits s u (first_row (before c) (ways d) vals cr) =
        subst (λ (z : Known). Fits s u z) (told_is d c k pr lk) f in
        let all = (first_in (before c) (ways d) vals s u cr.count cr.first nothing_known (zero_low s) g).1 in
        let r = fit.shape.inside k v lv ec in
        subst (λ b. inside (cond b (record_value (recs p fit v) s) no_value) u ≡ true)
        (sym parts.0) (all v r.0 r.1 (ap (λ z. not (is_towards c z)) (way_here d v lv pd)))

    through_at : (d c e : ℕ) → Door p d c → Door p d e → (c ≡ e → ⊥)
        → Fits s u (known_at (ports p d) c k (clp_at W d).told) → Fits s u (known_at (ports p d) e k (clp_at W d).bound)
    through_at d c e pc pe n f = elim (lt_or k (length cls)) [
      | inr le ↦ subst (λ (z : Known). Fits s u z) (sym (bound_none d e k pe le)) tt
      | inl lk ↦ (let g : Fits s u (first_row (before c) (ways d) vals cr) =
          subst (λ (z : Known). Fits s u z) (told_is d c k pc lk) f in
          let all = (first_in (before c) (ways d) vals s u cr.count cr.first nothing_known (zero_low s) g).1 in
          subst (λ (z : Known). Fits s u z)
          (sym (bound_is d e k pe lk)) (in_first (behind e) (ways d) vals s u cr.count cr.first nothing_known
          (zero_low s) tt (λ v lo hi h. all v lo hi (not_towards c e (get_or (ways d) v way.Here) n h))))
    ]

  pub first_bounds : BoundsOk p W.line (recs p fit) (clp_at W) W.links
  first_bounds = record {
    told_table = λ c lc. subst (λ (z : ClpState). table_ok p c z.told) (sym (clp_is p fit c lc)) (record {
      by_port = length-map (ports p c) _;
      by_class = λ i lt. map_len
          (λ e. map (first_row (before e) (ways c) vals) cls) (length cls) (ports p c) i lt (λ e. length-map cls _);
    });
    bound_table = λ c lc. subst (λ (z : ClpState). table_ok p c z.bound) (sym (clp_is p fit c lc)) (record {
      by_port = length-map (ports p c) _;
      by_class = λ i lt. map_len
          (λ e. map (first_row (behind e) (ways c) vals) cls) (length cls) (ports p c) i lt (λ e. length-map cls _);
    });
    told_line = λ c d k s lc np.
        subst (λ (z : ClpState). NotPast (known_at (ports p c) d k z.told).line s) (sym (clp_is p fit c lc))
        (port_any s (λ e. map (first_row (before e) (ways c) vals) cls) (ports p c) (place_of (ports p c) d) k (zero_low
        s) (λ e. row_any s (first_row (before e) (ways c) vals) cls k (zero_low s) (row_low (before e) c s)));
    bound_line = λ c d k s lc np.
        subst (λ (z : ClpState). NotPast (known_at (ports p c) d k z.bound).line s) (sym (clp_is p fit c lc))
        (port_any s (λ e. map (first_row (behind e) (ways c) vals) cls) (ports p c) (place_of (ports p c) d) k (zero_low
        s) (λ e. row_any s (first_row (behind e) (ways c) vals) cls k (zero_low s) (row_low (behind e) c s)));
    covered = λ k s np u. record {
      heard = λ d c pr f g. heard_at k s u d c pr f;
      here = λ d c v pr a f. here_at k s u d c v pr a f;
      through = λ d c e pc pe n f. through_at k s u d c e pc pe n f;
      going =
          λ d c pr f. subst (λ z. Going u (λ v. cond (class_at p v == k) (record_value (recs p fit v) s) no_value) z)
          (sym (no_link k c d)) tt;
      coming =
          λ d c pr f. subst (λ z. Comes s u (λ v. cond (class_at p v == k) (record_value (recs p fit v) s) no_value) z)
          (sym (no_link k c d)) tt;
    };
  }

pub first_full : (p : Plan) (fit : PlanFits p) → Full p (sequential_start p) (first_world p)
first_full p fit = record {
  recs = recs p fit;
  sim = first_sim p fit;
  asked = record {
    sent = λ c d r le i. absurd (subst (In r) (no_queries p fit c le) i);
    watched = λ c v r y le lv i. absurd (subst (In r) (no_queries p fit c le) i);
    pruned = λ c d r le i. absurd (subst (In r) (no_queries p fit c le) i);
    grows = λ c d k s u w i. absurd (let o = mail_is p fit _ i in let e = ap (λ (z : Mail). z.to) o.4 in cc);
  };
  bounds = first_bounds p fit;
}
