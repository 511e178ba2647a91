-- Tables of bounds, and telling at a port, seen at one side: what told becomes, and what is sent there.
use Rattle.pm_queries.specs.Queries.{has}
use Rattle.pm_queries.specs.declared.registered.Sent.{Sent}
use Rattle.pm_tables.specs.Tables.{grow_at, grow_periods, known_at, TableOk}
use Rattle.std.proofs.Common.{◌≡◌, ℕ, suc, ◌<◌, ◌≤◌, inl, inr, ◌==◌, Bool, true, false, cond, ◌||◌, List, [], ◌∷◌, ◌++◌, map, length, get_or, set, refl, arith, ap, ap₂, sym, ◌∙◌, subst, Option, Some, append-nil, get_or-set_other, get_or-set_same, length-set}
use Rattle.std.proofs.lemmas.Bool.{cases_eq, cases_Bool, cond_both, or_parts}
use Rattle.std.proofs.lemmas.Bool.Decides.{nat_tests}
use Rattle.std.proofs.lemmas.List.{map-append}
use Rattle.pm_base.specs.Windows.{point_of}
use Rattle.pm_base.specs.declared.stamp.Interval.{Interval}
use Rattle.pm_base.specs.declared.stamp.Line.{Line}
use Rattle.pm_base.specs.declared.stamp.Stamp.{Stamp}
use Rattle.pm_base.specs.declared.value.Period.{Period}
use Rattle.pm_base.specs.declared.value.Window.{Window}
use Rattle.pm_message.specs.declared.Message.TheVariants as message
use Rattle.pm_plan.specs.declared.plan.Plan.{Plan}
use Rattle.pm_ranges.specs.Joins.{Row}
use Rattle.pm_ranges.specs.Known.{Known, covers, grown, grown_pieces, nothing_known, raised_rest}
use Rattle.pm_ranges.proofs.Grows.{grown-line}
use Rattle.pm_routes.specs.Routings.{place_of}
use Rattle.pm_clp.specs.Clps.{ClpSends, ClpState, no_clp_sends, tell, tell_from, tell_one, tell_periods}
use Rattle.pm_sim.specs.Worlds.{clps_of, hub_of, ports, posted}
use Rattle.pm_sim.specs.Sims.{In, tally, one_if, NotPast}
use Rattle.pm_sim.specs.Bounds.{Item, grow_all, items, row_of, sent_to, table_ok, tells}
use Rattle.pm_sim.specs.Bounds.Item.{Grows}
use Rattle.pm_sim.proofs.Places.{process_clp}
use Rattle.pm_sim.proofs.Wires.{items_append}

pub eq_self : (a : ℕ) → (a == a) ≡ true
eq_self a = grind (arith, nat_tests)

pub eq_not : (a b : ℕ) → (a ≡ b → ⊥) → (a == b) ≡ false
eq_not a b n = elim (cases_Bool (a == b)) [ inl e ↦ absurd (n (grind (arith, nat_tests, e))) | inr e ↦ e ]

-- ---- places of ports

pub place_low : (ps : List ℕ) (d : ℕ) → In d ps → place_of ps d < length ps
place_low [] d i = absurd i
place_low (x ∷ ps) d i = elim (cases_Bool (x == d)) [
  | inl e ↦ (let g : cond (x == d) 0 (suc (place_of ps d)) ≡ 0 =
      ap (λ b. cond b 0 (suc (place_of ps d))) e in omega (arith, g))
  | inr e ↦ (let g : cond (x == d) 0 (suc (place_of ps d)) ≡ suc (place_of ps d) =
      ap (λ b. cond b 0 (suc (place_of ps d))) e in
      let j : In d ps =
      elim i [ inl f ↦ absurd (let h : (x == d) ≡ true = grind (arith, nat_tests, f) in cc) | inr k ↦ k ] in
      let again = place_low ps d j in omega (arith, g, again))
]

pub place_same : (ps : List ℕ) (d e : ℕ) → In d ps → place_of ps d ≡ place_of ps e → d ≡ e
place_same [] d e i h = absurd i
place_same (x ∷ ps) d e i h = go (place_same ps d e) (x == d) refl (x == e) refl h
  where
    go : (In d ps → place_of ps d ≡ place_of ps e → d ≡ e) → (a : Bool) → (x == d) ≡ a
        → (b : Bool) → (x == e) ≡ b → cond a 0 (suc (place_of ps d)) ≡ cond b 0 (suc (place_of ps e)) → d ≡ e
    go again true f true g k =
        (let a : x ≡ d = grind (arith, nat_tests, f) in let b : x ≡ e = grind (arith, nat_tests, g) in sym a ∙ b)
    go again true f false g k = absurd (omega arith)
    go again false f true g k = absurd (omega arith)
    go again false f false g k =
        again (elim i [ inl m ↦ absurd (let q : (x == d) ≡ true = grind (arith, nat_tests, m) in cc) | inr m ↦ m ])
        (omega arith)

-- ---- a place of a table grows

module _ (ps : List ℕ) (K : ℕ) where
  -- a table became another one: its shape and lines stayed
  abbrev pub Alike : List (List Known) → List (List Known) → Type 0
  Alike b b' = TableOk (length ps) K b' × ((e j : ℕ) → (known_at ps e j b').line ≡ (known_at ps e j b).line)

  pub alike_same : (b : List (List Known)) → TableOk (length ps) K b → Alike b b
  alike_same b ok = (ok, λ e j. refl)

  pub alike_then : (a b c : List (List Known)) → Alike a b → Alike b c → Alike a c
  alike_then a b c f g = (g.0, λ e j. g.1 e j ∙ f.1 e j)

  module _ (d k : ℕ) (when : Interval)
      (w : Window) (b : List (List Known)) (inp : In d ps) (lk : k < K) (ok : TableOk (length ps) K b) where
    abbrev pl : ℕ
    pl = place_of ps d

    abbrev row : List Known
    row = set (get_or b pl []) k (grown when w (known_at ps d k b))

    in_table : pl < length b
    in_table = (let a = place_low ps d inp in let e = ok.by_port in omega arith)

    in_row : k < length (get_or b pl [])
    in_row = (let a = ok.by_class pl (place_low ps d inp) in omega arith)

    pub side_same : known_at ps d k (grow_at ps d k when w b) ≡ grown when w (known_at ps d k b)
    side_same = ap (λ z. get_or z k nothing_known) (get_or-set_same b pl row [] in_table)
        ∙ get_or-set_same (get_or b pl []) k (grown when w (known_at ps d k b)) nothing_known in_row

    pub side_else : (e j : ℕ) → (e ≡ d → j ≡ k → ⊥) → known_at ps e j (grow_at ps d k when w b) ≡ known_at ps e j b
    side_else e j n = elim (cases_eq (place_of ps e) pl) [
      | inr ne ↦ ap (λ z. get_or z j nothing_known) (get_or-set_other b pl (place_of ps e) row [] ne)
      | inl f ↦ (let de : e ≡ d = sym (place_same ps d e inp (sym f)) in
          subst (λ z. known_at ps z j (grow_at ps d k when w b) ≡ known_at ps z j b) (sym de)
          (ap (λ z. get_or z j nothing_known) (get_or-set_same b pl row [] in_table)
          ∙ get_or-set_other (get_or b pl []) k j (grown when w (known_at ps d k b)) nothing_known (n de)))
    ]

    pub grow_alike : Alike b (grow_at ps d k when w b)
    grow_alike = (
      record {
        by_port = length-set b pl row ∙ ok.by_port;
        by_class = λ i lt. elim (cases_eq i pl) [
          | inl e ↦ subst (λ z. length (get_or (set b pl row) z []) ≡ K)
              (sym e) (ap length (get_or-set_same b pl row [] in_table) ∙ (length-set
              (get_or b pl []) k (grown when w (known_at ps d k b)) ∙ ok.by_class pl (place_low ps d inp)))
          | inr ne ↦ ap length (get_or-set_other b pl i row [] ne) ∙ ok.by_class i lt
        ];
      },
      λ e j. elim (cases_eq e d) [
        | inr n ↦ ap (λ (z : Known). z.line) (side_else e j (λ h _. n h))
        | inl h ↦ elim (cases_eq j k) [
          | inr n ↦ ap (λ (z : Known). z.line) (side_else e j (λ _ g. n g))
          | inl g ↦ subst (λ z. (known_at ps z j (grow_at ps d k when w b)).line ≡ (known_at ps z j b).line)
              (sym h) (subst (λ z. (known_at ps d z (grow_at ps d k when w b)).line ≡ (known_at ps d z b).line) (sym g)
              (ap (λ (z : Known). z.line) side_same ∙ grown-line when w (known_at ps d k b)))
        ]
      ],
    )

  -- growing by all periods
  pub periods_alike : (d k : ℕ) (rs : List Period) (b : List (List Known))
      → In d ps → k < K → TableOk (length ps) K b → Alike b (grow_periods ps d k rs b)
  periods_alike d k [] b i lk ok = alike_same b ok
  periods_alike d k (r ∷ rs) b i lk ok =
      let one = grow_alike d k r.when (point_of r.value) b i lk ok in
      alike_then b (grow_at ps d k r.when (point_of r.value) b)
      (grow_periods ps d k rs (grow_at ps d k r.when (point_of r.value) b))
      one (periods_alike d k rs (grow_at ps d k r.when (point_of r.value) b) i lk one.0)

  pub side_periods : (d k : ℕ) (rs : List Period) (b : List (List Known)) → In d ps → k < K → TableOk (length ps) K b
      → known_at ps d k (grow_periods ps d k rs b) ≡ grow_all (map row_of rs) (known_at ps d k b)
  side_periods d k [] b i lk ok = refl
  side_periods d k (r ∷ rs) b i lk ok =
      let one = grow_alike d k r.when (point_of r.value) b i lk ok in
      side_periods d k rs (grow_at ps d k r.when (point_of r.value) b) i lk one.0
      ∙ ap (grow_all (map row_of rs)) (side_same d k r.when (point_of r.value) b i lk ok)

  pub side_periods_else : (e j d k : ℕ) (rs : List Period) (b : List (List Known)) → In d ps → k < K
      → TableOk (length ps) K b → (e ≡ d → j ≡ k → ⊥) → known_at ps e j (grow_periods ps d k rs b) ≡ known_at ps e j b
  side_periods_else e j d k [] b i lk ok n = refl
  side_periods_else e j d k (r ∷ rs) b i lk ok n =
      let one = grow_alike d k r.when (point_of r.value) b i lk ok in
      side_periods_else e j d k rs (grow_at ps d k r.when (point_of r.value) b) i lk one.0 n
      ∙ side_else d k r.when (point_of r.value) b i lk ok e j n

-- ---- what a CLP sends to CLP e, as class j sees it

abbrev pub seen_at : Plan → ℕ → ℕ → List Sent → List Item
seen_at p j e ss = items p j (sent_to e (map (posted p) ss))

pub seen_append : (p : Plan) (j e : ℕ) (a b : List Sent) → seen_at p j e (a ++ b) ≡ seen_at p j e a ++ seen_at p j e b
seen_append p j e a b = ap (λ z. items p j (sent_to e z)) (map-append (posted p) a b)
    ∙ items_append p j e (map (posted p) a) (map (posted p) b)

module
    _ (p : Plan) (c k : ℕ) (lk : k < length p.layout.classes) (low : (d : ℕ) → In d (ports p c) → d < clps_of p) where
  abbrev ps : List ℕ
  ps = ports p c

  abbrev K : ℕ
  K = length p.layout.classes

  module _ (from : Stamp) (until : Option Stamp) (u : Window) where
    abbrev when : Interval
    when = record { from = Some from; until = until }

    abbrev rw1 : Row
    rw1 = record { when = when; window = u }

    abbrev T : List ℕ → ClpState → ClpSends
    T ds s = tell (hub_of p c) k from until u ds s

    abbrev one : ℕ → ClpState → ClpSends
    one d s = record {
      clp = record s { told = grow_at ps d k when u s.told };
      sent = record { to = d; message = message.Grow k from until u } ∷ [];
    }

    abbrev first : ℕ → ClpState → ClpSends
    first d s = tell_one (hub_of p c) k from until u d s

    first_alike : (d : ℕ) (s : ClpState) → In d ps → table_ok p c s.told → Alike ps K s.told (first d s).clp.told
    first_alike d s i ok = cond_both (covers (known_at ps d k s.told) when u) (no_clp_sends s) (one d s) (λ z.
        Alike ps K s.told z.clp.told) (λ _. alike_same ps K s.told ok) (λ _. grow_alike ps K d k when u s.told i lk ok)

    pub tell_alike : (ds : List ℕ) (s : ClpState)
        → ((d : ℕ) → In d ds → In d ps) → table_ok p c s.told → Alike ps K s.told (T ds s).clp.told
    tell_alike [] s inp ok = alike_same ps K s.told ok
    tell_alike (d ∷ ds) s inp ok =
        let a = first_alike d s (inp d (inl refl)) ok in
        alike_then ps K s.told (first d s).clp.told
        (T ds (first d s).clp).clp.told a (tell_alike ds (first d s).clp (λ x j. inp x (inr j)) a.0)

    -- another port or another class
    first_else : (e j d : ℕ) (s : ClpState) → In d ps → table_ok p c s.told → (e ≡ d → j ≡ k → ⊥)
        → (known_at ps e j (first d s).clp.told ≡ known_at ps e j s.told) × (seen_at p j e (first d s).sent ≡ [])
    first_else e j d s i ok n = cond_both (covers (known_at ps d k s.told) when u) (no_clp_sends s)
        (one d s) (λ z. (known_at ps e j z.clp.told ≡ known_at ps e j s.told) × (seen_at p j e z.sent ≡ []))
        (λ _. (refl, refl)) (λ _. (side_else ps K d k when u s.told i lk ok e j n, none))
      where
        none : seen_at p j e (record { to = d; message = message.Grow k from until u } ∷ []) ≡ []
        none = subst (λ z. items p j (sent_to e (record { to = z; message = message.Grow k from until u } ∷ [])) ≡ [])
            (sym (process_clp p d (low d i))) (elim (cases_eq e d) [
              | inl h ↦ (let a : (d == e) ≡ true = subst (λ z. (d == z) ≡ true) (sym h) (eq_self d) in
                  let b : (k == j) ≡ false = eq_not k j (λ g. n h (sym g)) in rw a (rw b refl))
              | inr h ↦ (let a : (d == e) ≡ false = eq_not d e (λ g. h (sym g)) in rw a refl)
            ])

    first_here : (d : ℕ) (s : ClpState)
        → In d ps → table_ok p c s.told → (known_at ps d k (first d s).clp.told ≡ grown when u (known_at ps d k s.told))
        × (seen_at p k d (first d s).sent ≡ tells (rw1 ∷ []) (known_at ps d k s.told))
    first_here d s i ok =
        let X : Known = known_at ps d k s.told in
        let C : Bool → ClpSends = λ b. cond b (no_clp_sends s) (one d s) in
        elim (cases_Bool (covers X when u)) [
          | inl h ↦ (
            ap (λ b. known_at ps d k (C b).clp.told) h ∙ sym (ap (λ b. cond
                b X (record X { pieces = grown_pieces when u X.pieces X.rest; rest = raised_rest when u X.rest })) h),
            ap (λ b. seen_at p k d (C b).sent) h ∙ sym (ap (λ b. cond b [] (Grows rw1 ∷ [])) h),
          )
          | inr h ↦ (
            ap (λ b. known_at ps d k (C b).clp.told) h ∙ side_same ps K d k when u s.told i lk ok,
            ap (λ b. seen_at p k d (C b).sent) h ∙ (sent_one d i ∙ sym (ap (λ b. cond b [] (Grows rw1 ∷ [])) h)),
          )
        ]
      where
        sent_one : (d : ℕ)
            → In d ps → seen_at p k d (record { to = d; message = message.Grow k from until u } ∷ []) ≡ Grows rw1 ∷ []
        sent_one d i =
            subst (λ z. items p k (sent_to d (record { to = z; message = message.Grow k from until u } ∷ [])) ≡ Grows
            rw1 ∷ []) (sym (process_clp p d (low d i))) (let a = eq_self d in let b = eq_self k in rw a (rw b refl))

    -- a port that isn't told, or another class
    pub tell_else : (e j : ℕ) (ds : List ℕ) (s : ClpState)
        → ((d : ℕ) → In d ds → In d ps) → table_ok p c s.told → (j ≡ k → has e ds ≡ false)
        → (known_at ps e j (T ds s).clp.told ≡ known_at ps e j s.told) × (seen_at p j e (T ds s).sent ≡ [])
    tell_else e j [] s inp ok n = (refl, refl)
    tell_else e j (d ∷ ds) s inp ok n =
        let a = first_else e j d s (inp d (inl refl)) ok (λ h g. let x = (or_parts (e == d) (has e ds) (n g)).0 in
        let y : (e == d) ≡ true = subst (λ z. (e == z) ≡ true) h (eq_self e) in cc) in
        let b = tell_else e j ds (first d s).clp (λ x i. inp x (inr i))
        (first_alike d s (inp d (inl refl)) ok).0 (λ g. (or_parts (e == d) (has e ds) (n g)).1) in
        (b.0 ∙ a.0, seen_append p j e (first d s).sent (T ds (first d s).clp).sent ∙ ap₂ (λ x y. x ++ y) a.1 b.1)

    -- a port that is told, once
    pub tell_here : (e : ℕ) (ds : List ℕ) (s : ClpState)
        → ((d : ℕ) → In d ds → In d ps) → table_ok p c s.told → has e ds ≡ true → tally (λ x. e == x) ds ≤ 1
        → (known_at ps e k (T ds s).clp.told ≡ grown when u (known_at ps e k s.told))
        × (seen_at p k e (T ds s).sent ≡ tells (rw1 ∷ []) (known_at ps e k s.told))
    tell_here e [] s inp ok h t = absurd (cc)
    tell_here e (d ∷ ds) s inp ok h t = (let ok2 = (first_alike d s (inp d (inl refl)) ok).0 in elim (cases_eq e d) [
      | inl g ↦ (let x : (e == d) ≡ true = subst (λ z. (e == z) ≡ true) g (eq_self e) in
          let t2 : one_if true (tally (λ x. e == x) ds) ≤ 1 = subst (λ z. one_if z (tally (λ x. e == x) ds) ≤ 1) x t in
          let none : has e ds ≡ false = none_has e ds (omega arith) in
          let a : (known_at ps e k (first d s).clp.told ≡ grown when u (known_at ps e k s.told))
          × (seen_at p k e (first d s).sent ≡ tells (rw1 ∷ []) (known_at ps e k s.told)) =
          subst (λ z. (known_at ps z k (first d s).clp.told ≡ grown when u (known_at ps z k s.told))
          × (seen_at p k z (first d s).sent ≡ tells (rw1 ∷ []) (known_at ps z k s.told)))
          (sym g) (first_here d s (inp d (inl refl)) ok) in
          let b = tell_else e k ds (first d s).clp (λ y i. inp y (inr i)) ok2 (λ _. none) in (
            b.0 ∙ a.0,
            seen_append p k e (first d s).sent (T ds (first d s).clp).sent
                ∙ (ap₂ (λ x y. x ++ y) a.1 b.1 ∙ append-nil (tells (rw1 ∷ []) (known_at ps e k s.told))),
          ))
      | inr g ↦ (let x : (e == d) ≡ false = eq_not e d g in
          let h2 : has e ds ≡ true = subst (λ z. (z || has e ds) ≡ true) x h in
          let t2 : tally (λ x. e == x) ds ≤ 1 = subst (λ z. one_if z (tally (λ x. e == x) ds) ≤ 1) x t in
          let a = first_else e k d s (inp d (inl refl)) ok (λ i _. g i) in
          let b = tell_here e ds (first d s).clp (λ y i. inp y (inr i)) ok2 h2 t2 in (
            b.0 ∙ ap (λ z. grown when u z) a.0,
            seen_append p k e (first d s).sent (T ds (first d s).clp).sent
                ∙ (ap₂ (λ x y. x ++ y) a.1 b.1 ∙ ap (tells (rw1 ∷ [])) a.0),
          ))
    ])
      where
        none_has : (e : ℕ) (ds : List ℕ) → tally (λ x. e == x) ds ≤ 0 → has e ds ≡ false
        none_has e [] h = refl
        none_has e (y ∷ ys) h = elim (cases_Bool (e == y)) [
          | inl f ↦ absurd (let g : one_if true (tally (λ x. e == x) ys) ≤ 0 =
              subst (λ z. one_if z (tally (λ x. e == x) ys) ≤ 0) f h in omega arith)
          | inr f ↦ (let g : tally (λ x. e == x) ys ≤ 0 =
              subst (λ z. one_if z (tally (λ x. e == x) ys) ≤ 0) f h in rw f (none_has e ys g))
        ]

-- each period begins at a stamp not below the line
abbrev pub Begins : Line → Period → Type 0
Begins l r = (t : Stamp) × (r.when.from ≡ Some t) × NotPast l t

abbrev pub EachBegins : Line → List Period → Type 0
EachBegins l [] = Unit {0}
EachBegins l (r ∷ rs) = Begins l r × EachBegins l rs

tells_split : (r : Row) (rs : List Row) (b : Known)
    → tells (r ∷ []) b ++ tells rs (grown r.when r.window b) ≡ tells (r ∷ rs) b
tells_split r rs b = go (covers b r.when r.window) (tells rs (grown r.when r.window b))
  where
    go : (x : Bool) (m : List Item) → cond x [] (Grows r ∷ []) ++ m ≡ cond x m (Grows r ∷ m)
    go true m = refl
    go false m = refl

-- periods in order, and for each of them the ports
module _ (p : Plan)
    (c k : ℕ) (lk : k < length p.layout.classes) (low : (d : ℕ) → In d (ports p c) → d < clps_of p) (l : Line) where
  abbrev P : List Period → ClpState → ClpSends
  P rs s = tell_periods (hub_of p c) k rs s

  abbrev F : Period → ClpState → ClpSends
  F r s = tell_from (hub_of p c) k r.when.from r s

  abbrev all_ports : (d : ℕ) → In d (ports p c) → In d (ports p c)
  all_ports d i = i

  from_alike : (r : Period) (s : ClpState)
      → Begins l r → table_ok p c s.told → Alike (ports p c) (length p.layout.classes) s.told (F r s).clp.told
  from_alike r s h ok =
      subst (λ z. Alike (ports p c) (length p.layout.classes) s.told (tell_from (hub_of p c) k z r s).clp.told)
      (sym h.1) (tell_alike p c k lk low h.0 r.when.until (point_of r.value) (ports p c) s all_ports ok)

  pub told_alike : (rs : List Period) (s : ClpState)
      → EachBegins l rs → table_ok p c s.told → Alike (ports p c) (length p.layout.classes) s.told (P rs s).clp.told
  told_alike [] s h ok = alike_same (ports p c) (length p.layout.classes) s.told ok
  told_alike (r ∷ rs) s h ok =
      let a = from_alike r s h.0 ok in
      alike_then (ports p c) (length p.layout.classes)
      s.told (F r s).clp.told (P rs (F r s).clp).clp.told a (told_alike rs (F r s).clp h.1 a.0)

  pub periods_else : (e j : ℕ) (rs : List Period) (s : ClpState)
      → EachBegins l rs → table_ok p c s.told → (j ≡ k → has e (ports p c) ≡ false)
      → (known_at (ports p c) e j (P rs s).clp.told ≡ known_at (ports p c) e j s.told)
      × (seen_at p j e (P rs s).sent ≡ [])
  periods_else e j [] s h ok n = (refl, refl)
  periods_else e j (r ∷ rs) s h ok n =
      let a : (known_at (ports p c) e j (F r s).clp.told ≡ known_at (ports p c) e j s.told)
      × (seen_at p j e (F r s).sent ≡ []) =
      subst (λ z. (known_at (ports p c) e j (tell_from (hub_of p c) k z r s).clp.told ≡ known_at (ports p c) e j s.told)
      × (seen_at p j e (tell_from (hub_of p c) k z r s).sent ≡ [])) (sym h.0.1)
      (tell_else p c k lk low h.0.0 r.when.until (point_of r.value) e j (ports p c) s all_ports ok n) in
      let b = periods_else e j rs (F r s).clp h.1 (from_alike r s h.0 ok).0 n in
      (b.0 ∙ a.0, seen_append p j e (F r s).sent (P rs (F r s).clp).sent ∙ ap₂ (λ x y. x ++ y) a.1 b.1)

  pub periods_here : (e : ℕ) (rs : List Period) (s : ClpState)
      → EachBegins l rs → table_ok p c s.told → has e (ports p c) ≡ true → tally (λ x. e == x) (ports p c) ≤ 1
      → (known_at (ports p c) e k (P rs s).clp.told ≡ grow_all (map row_of rs) (known_at (ports p c) e k s.told))
      × (seen_at p k e (P rs s).sent ≡ tells (map row_of rs) (known_at (ports p c) e k s.told))
  periods_here e [] s h ok i t = (refl, refl)
  periods_here e (r ∷ rs) s h ok i t =
      let a : (known_at (ports p c) e k (F r s).clp.told
      ≡ grown r.when (point_of r.value) (known_at (ports p c) e k s.told))
      × (seen_at p k e (F r s).sent ≡ tells (row_of r ∷ []) (known_at (ports p c) e k s.told)) =
      subst (λ z. (known_at (ports p c) e k (tell_from (hub_of p c) k z r s).clp.told
      ≡ grown (record { from = z; until = r.when.until }) (point_of r.value) (known_at (ports p c) e k s.told))
      × (seen_at p k e (tell_from (hub_of p c) k z r s).sent ≡ tells (record {
        when = record {
          from = z;
          until = r.when.until;
        };
        window = point_of r.value;
      } ∷ []) (known_at (ports p c) e k s.told))) (sym h.0.1)
      (tell_here p c k lk low h.0.0 r.when.until (point_of r.value) e (ports p c) s all_ports ok i t) in
      let b = periods_here e rs (F r s).clp h.1 (from_alike r s h.0 ok).0 i t in (
        b.0 ∙ ap (grow_all (map row_of rs)) a.0,
        seen_append p k e (F r s).sent (P rs (F r s).clp).sent
            ∙ (ap₂ (λ x y. x ++ y) a.1 (b.1 ∙ ap (tells (map row_of rs)) a.0)
            ∙ tells_split (row_of r) (map row_of rs) (known_at (ports p c) e k s.told)),
      )
