-- One record whose puts and reads all have one moment: a put of it changes no read of it, and a read finds the base.
use Rattle.std.proofs.Common.{◌≡◌, ℕ, suc, ◌≤◌, inl, inr, Bool, true, false, cond, not, ◌&&◌, ◌||◌, List, [], ◌∷◌, map, filter, length, refl, arith, ap, sym, ◌∙◌, subst, Some}
use Rattle.std.proofs.lemmas.Bool.{cond_both}
use Rattle.pm_base.specs.Stamps.{is_after, num_eq, stamp_lt}
use Rattle.pm_base.specs.declared.rows.CutRow.{CutRow}
use Rattle.pm_base.specs.declared.rows.GiveRow.{GiveRow}
use Rattle.pm_base.specs.declared.rows.Parts.{Parts}
use Rattle.pm_base.specs.declared.rows.PutRow.{PutRow}
use Rattle.pm_base.specs.declared.rows.ReadRow.{ReadRow}
use Rattle.pm_base.specs.declared.stamp.Line.TheVariants as line
use Rattle.pm_base.specs.declared.stamp.Num.{Num}
use Rattle.pm_base.specs.declared.stamp.Stamp.{Stamp}
use Rattle.pm_base.specs.declared.value.Period.{Period}
use Rattle.pm_base.specs.declared.value.Window.{Window}
use Rattle.pm_periods.specs.Periods.{periods_of}
use Rattle.pm_periods.specs.Records.{IsSettled, changed_of, changed_unless, first_read, hit_eq, hit_in, in_value_order, is_live, is_seen, is_stale, next_give, record_hit, record_value, refreshed, refreshed_unless, value_after, with_put, with_read}
use Rattle.pm_periods.specs.Rows.{add_row, has_num, key_lt, put_key, read_key}
use Rattle.pm_plan.specs.declared.plan.Plan.{Plan}
use Rattle.pm_clp.specs.Clps.{take_put, take_watch}
use Rattle.pm_periods.proofs.Hits.{hit_eq-self}
use Rattle.pm_periods.proofs.Receipts.{after_put-settled, after_watch-settled}
use Rattle.pm_sim.proofs.Letters.{in_map}
use Rattle.pm_sim.proofs.Lists.{each_in}
use Rattle.pm_sim.proofs.Stamps.{lt_false}
use Rattle.pm_sim.proofs.Takes.{add_row_in}
use Rattle.pm_sim.proofs.Tellings.{add_read_has, add_read_in, given_has, given_in, given_stamp}
use Rattle.pm_sim.proofs.Trims.{in_filter}
use Rattle.pm_sim.specs.Sims.{In, has_read}
use Rattle.pm_calm.specs.Phases.{RecAt, Silent}

-- ---- values

same_lt : (s : Stamp) → stamp_lt s s ≡ false
same_lt s = lt_false s s (grind arith)

none_seen : (cuts : List CutRow) (s : Stamp) (ps : List PutRow) → ((x : PutRow) → In x ps → x.stamp ≡ s)
    → filter (is_seen cuts (line.At s)) ps ≡ []
none_seen cuts s [] h = refl
none_seen cuts s (x ∷ ps) h =
    let e : stamp_lt x.stamp s ≡ false = ap (λ z. stamp_lt z s) (h x (inl refl)) ∙ same_lt s in
    let f : is_seen cuts (line.At s) x ≡ false = both (is_live cuts x) (stamp_lt x.stamp s) e in
    rw f (none_seen cuts s ps (λ y i. h y (inr i)))
  where
    both : (a b : Bool) → b ≡ false → (a && b) ≡ false
    both true b g = g
    both false b g = refl

-- a read at s sees no put of s
pub value_base : (s : Stamp) (r : Parts) → ((x : PutRow) → In x r.puts → x.stamp ≡ s) → record_value r s ≡ r.base
value_base s r h = ap (λ ps. value_after (in_value_order ps) r.base) (none_seen r.cuts s r.puts h)

-- ---- hits

-- reads that have their hits are given nothing
pub quiet : (v : ℕ) (r : Parts) (qs : List ReadRow) → ((x : ReadRow) → In x qs → x.hit ≡ record_hit r x)
    → changed_of v (record_value r) qs ≡ []
quiet v r qs h = ap (map (next_give v (record_value r))) (none qs h)
  where
    none : (qs : List ReadRow) → ((x : ReadRow) → In x qs → x.hit ≡ record_hit r x)
        → filter (is_stale (record_value r)) qs ≡ []
    none [] h = refl
    none (x ∷ qs) h =
        let e : hit_eq (record_hit r x) x.hit ≡ true =
        ap (λ z. hit_eq z x.hit) (sym (h x (inl refl))) ∙ hit_eq-self x.hit in
        rw e (none qs (λ y i. h y (inr i)))

-- what is given is of a read whose hit changed
changed_is : (v : ℕ) (r : Parts) (qs : List ReadRow) (g : GiveRow) → In g (changed_of v (record_value r) qs)
    → (q : ReadRow) × In q qs × (g ≡ next_give v (record_value r) q) × (is_stale (record_value r) q ≡ true)
changed_is v r qs g i =
    let o = in_map (next_give v (record_value r)) (filter (is_stale (record_value r)) qs) g i in
    let f = in_filter (is_stale (record_value r)) qs o.0 o.1 in
    (o.0, f.0, o.2, f.1)

-- the hits of a settled record's reads
pub own_hit : (r : Parts) → IsSettled r → (x : ReadRow) → In x r.reads → x.hit ≡ record_hit r x
own_hit r st x i = each_in (λ q. q.hit ≡ record_hit r q) r.reads x st.hits i

fresh_stamp : (r : Parts) (s : Stamp) → ((x : ReadRow) → In x r.reads → x.stamp ≡ s)
    → (x : ReadRow) → In x (refreshed r).reads → x.stamp ≡ s
fresh_stamp r s h x i =
    let o = given_in r r.reads x i in
    ap (λ (z : ReadRow). z.stamp) o.2 ∙ (given_stamp o.0 (record_hit r o.0) ∙ h o.0 o.1)

not_both : (b : Bool) → b ≡ true → not b ≡ true → ⊥
not_both true e f = cc
not_both false e f = cc

right : (a b : Bool) → b ≡ true → (a || b) ≡ true
right true b h = refl
right false b h = h

module _ (p : Plan) (s : Stamp) (over : Num → ℕ → Window → Type 0) where
  -- a put of s changes no read of s
  pub put_at : (v : ℕ) (x : PutRow) (r : Parts) → x.stamp ≡ s → RecAt p s over v r
      → RecAt p s over v (take_put v x r).rec × ((take_put v x r).gives ≡ [])
  put_at v x r es h = go (has_num put_key x.num r.puts) (after_put-settled x r h.solid)
    where
      r0 : Parts
      r0 = with_put x r

      puts0 : (y : PutRow) → In y (add_row put_key x r.puts) → y.stamp ≡ s
      puts0 y i = elim (add_row_in put_key x r.puts y i) [
        | inl e ↦ ap (λ (z : PutRow). z.stamp) e ∙ es
        | inr j ↦ h.puts y j
      ]

      same : (q : ReadRow) → q.stamp ≡ s → record_hit r q ≡ record_hit (with_put x r) q
      same q e = ap (λ z. hit_in z q.window) (ap (record_value r) e ∙ (value_base s r h.puts
          ∙ sym (ap (record_value (with_put x r)) e ∙ value_base s (with_put x r) puts0)))

      go : (b : Bool) → IsSettled (refreshed_unless b r (with_put x r))
          → RecAt p s over v (refreshed_unless b r (with_put x r)) × (changed_unless b v (with_put x r) ≡ [])
      go true st = (h, refl)
      go false st = (
        record {
          puts = puts0;
          reads = fresh_stamp (with_put x r) s h.reads;
          solid = st;
          silent = λ k j u o e. elim (h.silent k j u o e) [
            | inr n ↦ inr n
            | inl i ↦ inl (given_has (with_put x r) k r.reads ∙ i)
          ];
        },
        quiet v (with_put x r) r.reads (λ q i. own_hit r h.solid q i ∙ same q (h.reads q i)),
      )

  abbrev pub GivesOf : Num → List GiveRow → Type 0
  GivesOf n gs = (g : GiveRow) → In g gs → (g.num ≡ n) × (g.stamp ≡ s)

  -- a read of s is answered alone, and not even that where it would find nothing new
  pub watch_at : (v : ℕ) (n : Num) (z : Stamp) (w : Window) (r : Parts) → z ≡ s → RecAt p s over v r
      → RecAt p s over v (take_watch v n z w r).rec
      × (GivesOf n (take_watch v n z w r).gives × (Silent n w r → (take_watch v n z w r).gives ≡ []))
  watch_at v n z w r es h = go (has_num read_key n r.reads) refl (after_watch-settled (first_read n z w) r h.solid)
    where
      row : ReadRow
      row = first_read n z w

      others : (x : ReadRow) → In x r.reads → x.hit ≡ record_hit (with_read (first_read n z w) r) x
      others x i = own_hit r h.solid x i

      go : (b : Bool) → has_num read_key n r.reads ≡ b
          → IsSettled (refreshed_unless b r (with_read (first_read n z w) r))
          → RecAt p s over v (refreshed_unless b r (with_read (first_read n z w) r))
          × (GivesOf n (changed_unless b v (with_read (first_read n z w) r))
          × (Silent n w r → changed_unless b v (with_read (first_read n z w) r) ≡ []))
      go true e st = (h, (λ g i. absurd i, λ sl. refl))
      go false e st = (
        record {
          puts = h.puts;
          reads = fresh_stamp (with_read (first_read n z w) r) s
              (λ x i. elim (add_read_in (first_read n z w) r.reads x i) [
                | inl f ↦ ap (λ (y : ReadRow). y.stamp) f ∙ es
                | inr j ↦ h.reads x j
              ]);
          solid = st;
          silent = λ k j u o f. elim (h.silent k j u o f) [
            | inr m ↦ inr m
            | inl i ↦ inl (given_has (with_read (first_read n z w) r) k (add_row read_key (first_read n z w) r.reads)
                ∙ (add_read_has (first_read n z w) r.reads k ∙ right (num_eq k n) (has_read k r.reads) i))
          ];
        },
        (
          λ g i. given_of g i,
          λ sl. elim sl [
            | inl f ↦ absurd (let k : has_num read_key n r.reads ≡ true = f in cc)
            | inr none ↦ quiet v (with_read (first_read n z w) r) (add_row read_key (first_read n z w) r.reads) (λ x i.
                elim (add_read_in (first_read n z w) r.reads x i) [
                  | inr j ↦ others x j
                  | inl f ↦ ap (λ (y : ReadRow). y.hit) f
                      ∙ sym (ap (record_hit (with_read (first_read n z w) r)) f
                      ∙ (ap (λ y. hit_in (record_value r y) w) es
                      ∙ (ap (λ y. hit_in y w) (value_base s r h.puts) ∙ none)))
                ])
          ],
        ),
      )
        where
          given_of : (g : GiveRow)
              → In g (changed_of v (record_value (with_read (first_read n z w) r))
              (add_row read_key (first_read n z w) r.reads))
              → (g.num ≡ n) × (g.stamp ≡ s)
          given_of g i =
              let r0 : Parts = with_read (first_read n z w) r in
              let o = changed_is v r0 r0.reads g i in
              elim (add_read_in (first_read n z w) r.reads o.0 o.1) [
                | inl f ↦ (
                  ap (λ (y : GiveRow). y.num) o.2 ∙ ap (λ (y : ReadRow). y.num) f,
                  ap (λ (y : GiveRow). y.stamp) o.2 ∙ (ap (λ (y : ReadRow). y.stamp) f ∙ es),
                )
                | inr j ↦ absurd (not_both (hit_eq (record_hit r0 o.0) o.0.hit)
                    (ap (λ y. hit_eq y o.0.hit) (sym (others o.0 j)) ∙ hit_eq-self o.0.hit) o.3)
              ]

  -- and once
  pub watch_once : (v : ℕ) (n : Num) (z : Stamp) (w : Window) (r : Parts) → RecAt p s over v r
      → length (take_watch v n z w r).gives ≤ 1
  watch_once v n z w r h = go (has_num read_key n r.reads)
    where
      r0 : Parts
      r0 = with_read (first_read n z w) r

      Few : List ReadRow → Type 0
      Few qs = length (changed_of v (record_value (with_read (first_read n z w) r)) qs) ≤ 1

      front : (q : ReadRow) (qs : List ReadRow) → changed_of v (record_value (with_read (first_read n z w) r)) qs ≡ []
          → length (changed_of v (record_value (with_read (first_read n z w) r)) (q ∷ qs)) ≤ 1
      front q qs e = by (is_stale (record_value (with_read (first_read n z w) r)) q)
        where
          by : (b : Bool) → length (map (next_give v (record_value (with_read (first_read n z w) r)))
              (cond b (q ∷ filter (is_stale (record_value (with_read (first_read n z w) r))) qs)
              (filter (is_stale (record_value (with_read (first_read n z w) r))) qs))) ≤ 1
          by true = subst (λ (gs : List GiveRow). suc (length gs) ≤ 1) (sym e) (omega arith)
          by false = subst (λ (gs : List GiveRow). length gs ≤ 1) (sym e) (omega arith)

      skip : (q : ReadRow) (qs : List ReadRow) → q.hit ≡ record_hit r q
          → length (changed_of v (record_value (with_read (first_read n z w) r)) qs) ≤ 1
          → length (changed_of v (record_value (with_read (first_read n z w) r)) (q ∷ qs)) ≤ 1
      skip q qs e le =
          let a : hit_eq (record_hit (with_read (first_read n z w) r) q) q.hit ≡ true =
          ap (λ y. hit_eq y q.hit) (sym e) ∙ hit_eq-self q.hit in rw a le

      once : (qs : List ReadRow) → ((q : ReadRow) → In q qs → q.hit ≡ record_hit r q)
          → length (changed_of v (record_value (with_read (first_read n z w) r))
          (add_row read_key (first_read n z w) qs)) ≤ 1
      once [] own = front (first_read n z w) [] refl
      once (q ∷ qs) own =
          let again = once qs (λ y i. own y (inr i)) in
          cond_both (key_lt (read_key (first_read n z w)) (read_key q)) (first_read n z w ∷ (q ∷ qs))
          (q ∷ add_row read_key (first_read n z w) qs)
          (λ y. length (changed_of v (record_value (with_read (first_read n z w) r)) y) ≤ 1)
          (λ _. front (first_read n z w) (q ∷ qs) (quiet v (with_read (first_read n z w) r) (q ∷ qs) own))
          (λ _. skip q (add_row read_key (first_read n z w) qs) (own q (inl refl)) again)

      go : (b : Bool) → length (changed_unless b v (with_read (first_read n z w) r)) ≤ 1
      go true = omega arith
      go false = once r.reads (own_hit r h.solid)

-- the periods behind s of a record whose puts are of s begin at s
pub periods_at : (s : Stamp) (r : Parts) (ps : List PutRow) → ((x : PutRow) → In x ps → x.stamp ≡ s)
    → (x : Period) → In x (periods_of r (Some s) ps) → x.when.from ≡ Some s
periods_at s r [] h x i = elim i [ inl e ↦ ap (λ (z : Period). z.when.from) e | inr b ↦ absurd b ]
periods_at s r (y ∷ ps) h x i =
    let e : is_after (Some s) y.stamp ≡ false = ap (λ z. stamp_lt s z) (h y (inl refl)) ∙ same_lt s in
    let f : (is_live r.cuts y && is_after (Some s) y.stamp) ≡ false =
    none (is_live r.cuts y) (is_after (Some s) y.stamp) e in
    periods_at s r ps (λ z j. h z (inr j)) x (subst (λ b. In x (cond b
    (record { when = record { from = Some s; until = Some y.stamp }; value = record_value r y.stamp }
    ∷ periods_of r (Some y.stamp) ps) (periods_of r (Some s) ps))) f i)
  where
    none : (a b : Bool) → b ≡ false → (a && b) ≡ false
    none true b g = g
    none false b g = refl
