-- What each event of a CLP keeps of bounds.
use Rattle.pm_tables.specs.Tables.{known_at, no_value}
use Rattle.pm_sim.specs.Bounds.{grow_all, tells, Net, CoveredAt, between, item_of, items, net_of, sent_to, table_ok, BoundsOk}
use Rattle.pm_sim.specs.Bounds.Item.{Grows, Moves}
use Rattle.pm_ranges.specs.Joins.{Row, AllIn}
use Rattle.pm_ranges.specs.Known.{grown}
use Rattle.pm_base.specs.Windows.{inside}
use Rattle.pm_clp.specs.Clps.{ClpState, rec_at}
use Rattle.pm_sim.specs.Covers.{Door}
use Rattle.pm_sim.proofs.Sides.{Alike, alike_same, eq_self, eq_not}
use Rattle.pm_sim.specs.Worlds.{ports, Link, Posted, Process, post_all, clps_of}
use Rattle.pm_sim.proofs.Queries.{not_own_port}
use Rattle.std.proofs.lemmas.Bool.{cases_eq}
use Rattle.std.proofs.Common.{◌≡◌, ℕ, suc, ◌<◌, ◌⊎◌, inl, inr, ◌==◌, Bool, true, false, cond, ◌&&◌, List, [], ◌∷◌, length, refl, ap, sym, ◌∙◌, subst}
use Rattle.pm_base.specs.declared.rows.Parts.{Parts}
use Rattle.pm_base.specs.declared.stamp.Line.{Line}
use Rattle.pm_base.specs.declared.stamp.Stamp.{Stamp}
use Rattle.pm_base.specs.declared.value.Window.{Window}
use Rattle.pm_message.specs.declared.Message.{Message}
use Rattle.pm_periods.specs.Records.{record_value}
use Rattle.pm_plan.specs.declared.plan.Plan.{Plan}
use Rattle.pm_sim.specs.Worlds.Process.{AtClp}
use Rattle.pm_sim.specs.Sims.{In, NotPast, class_at, told}
use Rattle.pm_sim.specs.Routings.{TreeOk, stands_at}
use Rattle.pm_sim.proofs.Frames.{plain_frame, item_frame}
use Rattle.pm_sim.proofs.Tells.{value_step, plain_step, grow_step, leave_step, arrive_step}

module _ (p : Plan) (tree : TreeOk p) (l : Line) (c : ℕ)
    (lc : c < clps_of p) (cs cs' : ℕ → ClpState) (ls mid : List Link) (recs recs' : ℕ → Parts) (ss : List Posted)
    (there : (d : ℕ) → (d ≡ c → ⊥) → cs' d ≡ cs d) (ok : BoundsOk p l recs cs ls) where
  abbrev old : ℕ → Net
  old k = net_of p k cs ls recs

  abbrev new : ℕ → Net
  new k = net_of p k cs' (post_all (AtClp c) ss mid) recs'

  self : (d : ℕ) → Door p d d → ⊥
  self d i = not_own_port p l tree d d i.0 i.0 i.1

  -- of each class nothing was taken
  abbrev pub Untaken : ℕ → Type 0
  Untaken k = (a b : Process) → items p k (between a b mid) ≡ items p k (between a b ls)

  at_all : ((v : ℕ) → stands_at (rec_at (cs' c).records v) ≡ stands_at (rec_at (cs c).records v))
      → (k v d : ℕ) → (new k).at v d ≡ (old k).at v d
  at_all h k v d = elim (cases_eq d c) [
    | inl e ↦ subst (λ z. (new k).at v z ≡ (old k).at v z) (sym e) (ap (λ z. class_at p v == k && z) (h v))
    | inr n ↦ ap (λ (z : ClpState). class_at p v == k && stands_at (rec_at z.records v)) (there d n)
  ]

  vals : ((v : ℕ) (s : Stamp) → record_value (recs' v) s ≡ record_value (recs v) s)
      → (k v : ℕ) (s : Stamp) → (new k).val v s ≡ (old k).val v s
  vals h k v s = ap (λ z. cond (class_at p v == k) z no_value) (h v s)

  val_in : (rs : ℕ → Parts) (k v : ℕ) (s : Stamp)
      → class_at p v ≡ k → cond (class_at p v == k) (record_value (rs v) s) no_value ≡ record_value (rs v) s
  val_in rs k v s e =
      (let a : (class_at p v == k) ≡ true = subst (λ z. (class_at p v == z) ≡ true) e (eq_self (class_at p v)) in rw a)

  -- a variable of another class
  val_out : (k v : ℕ) (s : Stamp) → (k ≡ class_at p v → ⊥) → (new k).val v s ≡ (old k).val v s
  val_out k v s n = (let a = eq_not (class_at p v) k (λ e. n (sym e)) in rw a)

  line_told : Alike (ports p c) (length p.layout.classes) (cs c).told (cs' c).told
      → (d e k : ℕ) (s : Stamp) → d < clps_of p → NotPast l s → NotPast (known_at (ports p d) e k (cs' d).told).line s
  line_told h d e k s ld np = elim (cases_eq d c) [
    | inl f ↦ subst (λ z. NotPast (known_at (ports p z) e k (cs' z).told).line s)
        (sym f) (subst (λ z. NotPast z s) (sym (h.1 e k)) (ok.told_line c e k s lc np))
    | inr n ↦ subst (λ (z : ClpState). NotPast (known_at (ports p d) e k z.told).line s)
        (sym (there d n)) (ok.told_line d e k s ld np)
  ]

  line_bound : Alike (ports p c) (length p.layout.classes) (cs c).bound (cs' c).bound
      → (d e k : ℕ) (s : Stamp) → d < clps_of p → NotPast l s → NotPast (known_at (ports p d) e k (cs' d).bound).line s
  line_bound h d e k s ld np = elim (cases_eq d c) [
    | inl f ↦ subst (λ z. NotPast (known_at (ports p z) e k (cs' z).bound).line s)
        (sym f) (subst (λ z. NotPast z s) (sym (h.1 e k)) (ok.bound_line c e k s lc np))
    | inr n ↦ subst (λ (z : ClpState). NotPast (known_at (ports p d) e k z.bound).line s)
        (sym (there d n)) (ok.bound_line d e k s ld np)
  ]

  alike_told : (cs' c).told ≡ (cs c).told → Alike (ports p c) (length p.layout.classes) (cs c).told (cs' c).told
  alike_told e = subst (λ z. Alike (ports p c) (length p.layout.classes) (cs c).told z)
      (sym e) (alike_same (ports p c) (length p.layout.classes) (cs c).told (ok.told_table c lc))

  table_told : Alike (ports p c) (length p.layout.classes) (cs c).told (cs' c).told
      → (d : ℕ) → d < clps_of p → table_ok p d (cs' d).told
  table_told h d ld = elim (cases_eq d c) [
    | inl f ↦ subst (λ z. table_ok p z (cs' z).told) (sym f) h.0
    | inr n ↦ subst (λ (z : ClpState). table_ok p d z.told) (sym (there d n)) (ok.told_table d ld)
  ]

  alike_bound : (cs' c).bound ≡ (cs c).bound → Alike (ports p c) (length p.layout.classes) (cs c).bound (cs' c).bound
  alike_bound e = subst (λ z. Alike (ports p c) (length p.layout.classes) (cs c).bound z)
      (sym e) (alike_same (ports p c) (length p.layout.classes) (cs c).bound (ok.bound_table c lc))

  table_bound : Alike (ports p c) (length p.layout.classes) (cs c).bound (cs' c).bound
      → (d : ℕ) → d < clps_of p → table_ok p d (cs' d).bound
  table_bound h d ld = elim (cases_eq d c) [
    | inl f ↦ subst (λ z. table_ok p z (cs' z).bound) (sym f) h.0
    | inr n ↦ subst (λ (z : ClpState). table_ok p d z.bound) (sym (there d n)) (ok.bound_table d ld)
  ]

  -- an event that touches no bound
  pub bounds_plain : ((k : ℕ) → Untaken k)
      → ((e k : ℕ) → items p k (sent_to e ss) ≡ []) → (cs' c).told ≡ (cs c).told → (cs' c).bound ≡ (cs c).bound
      → ((v : ℕ) → stands_at (rec_at (cs' c).records v) ≡ stands_at (rec_at (cs c).records v))
      → ((v : ℕ) (s : Stamp) → record_value (recs' v) s ≡ record_value (recs v) s)
      → BoundsOk p l recs' cs' (post_all (AtClp c) ss mid)
  bounds_plain same none told bound at val = record {
    told_table = table_told (alike_told told);
    bound_table = table_bound (alike_bound bound);
    told_line = line_told (alike_told told);
    bound_line = line_bound (alike_bound bound);
    covered = λ k s np u. plain_step
        (Door p) self s u c (suc c) [] ((old k).link (suc c) c) (λ e. items p k (sent_to e ss)) (old k) (new k)
        (plain_frame p c cs cs' ls mid recs recs' ss there k (same k))
        (ok.covered k s np u) refl (λ e _. none e k) (λ e _. ap (known_at (ports p c) e k) told)
        (λ e. ap (known_at (ports p c) e k) bound) (at_all at k) (λ v. vals val k v s);
  }

  -- rows of class j are told, and the value of v has changed
  pub bounds_told : (v : ℕ) (rows : List Row) → ((k : ℕ) → Untaken k)
      → ((e : ℕ) → Door p c e → known_at (ports p c) e (class_at p v) (cs' c).told
      ≡ grow_all rows (known_at (ports p c) e (class_at p v) (cs c).told)) → ((e k : ℕ)
      → (k ≡ class_at p v → ⊥) → known_at (ports p c) e k (cs' c).told ≡ known_at (ports p c) e k (cs c).told)
      → ((e : ℕ) → Door p c e
      → items p (class_at p v) (sent_to e ss) ≡ tells rows (known_at (ports p c) e (class_at p v) (cs c).told))
      → ((e k : ℕ) → (k ≡ class_at p v → ⊥) → items p k (sent_to e ss) ≡ [])
      → Alike (ports p c) (length p.layout.classes) (cs c).told (cs' c).told → (cs' c).bound ≡ (cs c).bound
      → ((w : ℕ) → stands_at (rec_at (cs' c).records w) ≡ stands_at (rec_at (cs c).records w))
      → ((d : ℕ) → stands_at (rec_at (cs d).records v) ≡ true → d ≡ c)
      → ((k d e : ℕ) → In (Moves v) (items p k (between (AtClp e) (AtClp d) ls)) → ⊥)
      → ((w : ℕ) → (w ≡ v → ⊥) → (s : Stamp) → record_value (recs' w) s ≡ record_value (recs w) s)
      → ((s : Stamp) (u : Window) → (record_value (recs' v) s ≡ record_value (recs v) s)
      ⊎ (AllIn rows s u → inside (record_value (recs' v) s) u ≡ true))
      → BoundsOk p l recs' cs' (post_all (AtClp c) ss mid)
  bounds_told v rows same told told_else out out_else lines bound at only still others value_v = record {
    told_table = table_told lines;
    bound_table = table_bound (alike_bound bound);
    told_line = line_told lines;
    bound_line = line_bound (alike_bound bound);
    covered = λ k s np u. elim (cases_eq k (class_at p v)) [
      | inl e ↦ subst (λ z. CoveredAt (Door p) s u (new z)) (sym e) (mine s np u)
      | inr n ↦ plain_step
          (Door p) self s u c (suc c) [] ((old k).link (suc c) c) (λ e. items p k (sent_to e ss)) (old k) (new k)
          (plain_frame p c cs cs' ls mid recs recs' ss there k (same k)) (ok.covered k s np u) refl
          (λ e _. out_else e k n) (λ e _. told_else e k n) (λ e. ap (known_at (ports p c) e k) bound) (at_all at k)
          (λ w. elim (cases_eq w v) [
            | inl f ↦ subst (λ z. (new k).val z s ≡ (old k).val z s) (sym f) (val_out k v s n)
            | inr m ↦ ap (λ z. cond (class_at p w == k) z no_value) (others w m s)
          ])
    ];
  }
    where
      j : ℕ
      j = class_at p v

      mine : (s : Stamp) → NotPast l s → (u : Window) → CoveredAt (Door p) s u (new j)
      mine s np u = value_step
          (Door p) self s u c (suc c) [] ((old j).link (suc c) c) (λ e. items p j (sent_to e ss)) (old j) (new j)
          (plain_frame p c cs cs' ls mid recs recs' ss there j (same j)) (ok.covered j s np u) v rows
          refl out told (λ e. ap (known_at (ports p c) e j) bound) (λ e i. ok.told_line c e j s lc np) (at_all at j)
          (λ d a. only d (right (class_at p v == j) (stands_at (rec_at (cs d).records v)) a)) (λ d e i. still j d e i)
          (λ w n. ap (λ z. cond (class_at p w == j) z no_value) (others w n s))
          (elim (value_v s u) [
            | inl e ↦ inl (val_in recs' j v s refl ∙ (e ∙ sym (val_in recs j v s refl)))
            | inr h ↦ inr (λ f. subst (λ z. inside z u ≡ true) (sym (val_in recs' j v s refl)) (h f))
          ])
        where
          right : (a b : Bool) → (a && b) ≡ true → b ≡ true
          right true b h = h
          right false b h = absurd (cc)

  -- a Grow of y of class j is taken, the bound of y grows, it is told at the other ports
  pub bounds_grow : (y j : ℕ) (r : Row) (m : Message)
      → (y ≡ c → ⊥) → between (AtClp c) (AtClp y) ls ≡ m ∷ between (AtClp c) (AtClp y) mid
      → ((a b : Process) → ((a ≡ AtClp c) × (b ≡ AtClp y) → ⊥) → between a b mid ≡ between a b ls)
      → item_of p j m ≡ Grows r ∷ [] → ((k : ℕ) → (k ≡ j → ⊥) → Untaken k)
      → ((e : ℕ)
      → (e ≡ y → ⊥) → Door p c e → items p j (sent_to e ss) ≡ tells (r ∷ []) (known_at (ports p c) e j (cs c).told))
      → items p j (sent_to y ss) ≡ [] → ((e k : ℕ) → (k ≡ j → ⊥) → items p k (sent_to e ss) ≡ [])
      → ((e : ℕ) → (e ≡ y → ⊥) → Door p c e
      → known_at (ports p c) e j (cs' c).told ≡ grow_all (r ∷ []) (known_at (ports p c) e j (cs c).told))
      → known_at (ports p c) y j (cs' c).told ≡ known_at (ports p c) y j (cs c).told
      → ((e k : ℕ) → (k ≡ j → ⊥) → known_at (ports p c) e k (cs' c).told ≡ known_at (ports p c) e k (cs c).told)
      → known_at (ports p c) y j (cs' c).bound ≡ grown r.when r.window (known_at (ports p c) y j (cs c).bound)
      → ((e k : ℕ)
      → (e ≡ y → k ≡ j → ⊥) → known_at (ports p c) e k (cs' c).bound ≡ known_at (ports p c) e k (cs c).bound)
      → Alike (ports p c) (length p.layout.classes) (cs c).told (cs' c).told
      → Alike (ports p c) (length p.layout.classes) (cs c).bound (cs' c).bound
      → ((v : ℕ) → stands_at (rec_at (cs' c).records v) ≡ stands_at (rec_at (cs c).records v))
      → ((v : ℕ) (s : Stamp) → record_value (recs' v) s ≡ record_value (recs v) s)
      → BoundsOk p l recs' cs' (post_all (AtClp c) ss mid)
  bounds_grow y j r m ny
      head others item same out out_y out_else told told_y told_else bound_y bound_else lines linesb at val = record {
        told_table = table_told lines;
        bound_table = table_bound linesb;
        told_line = line_told lines;
        bound_line = line_bound linesb;
        covered = λ k s np u. elim (cases_eq k j) [
          | inl e ↦ subst (λ z. CoveredAt (Door p) s u (new z)) (sym e)
              (grow_step (Door p) self s u c y (item_of p j m)
              (items p j (between (AtClp c) (AtClp y) mid)) (λ e. items p j (sent_to e ss)) (old j) (new j)
              (item_frame p c cs cs' ls mid recs recs' ss there j y m ny head others)
              (ok.covered j s np u) r item out out_y told told_y bound_y (λ e n. bound_else e j (λ f _. n f))
              (λ e i. ok.told_line c e j s lc np) (ok.bound_line c y j s lc np) (at_all at j) (λ v. vals val j v s))
          | inr n ↦ plain_step
              (Door p) self s u c (suc c) [] ((old k).link (suc c) c) (λ e. items p k (sent_to e ss)) (old k) (new k)
              (plain_frame p c cs cs' ls mid recs recs' ss there k (same k n))
              (ok.covered k s np u) refl (λ e _. out_else
              e k n) (λ e _. told_else e k n) (λ e. bound_else e k (λ _ g. n g)) (at_all at k) (λ v. vals val k v s)
        ];
      }

  at_but : (v : ℕ)
      → ((w : ℕ) → (w ≡ v → ⊥) → stands_at (rec_at (cs' c).records w) ≡ stands_at (rec_at (cs c).records w))
      → (k w d : ℕ) → (k ≡ class_at p v → ⊥) → (new k).at w d ≡ (old k).at w d
  at_but v h k w d n = elim (cases_eq d c) [
    | inr m ↦ ap (λ (z : ClpState). class_at p w == k && stands_at (rec_at z.records w)) (there d m)
    | inl e ↦ subst (λ z. (new k).at w z ≡ (old k).at w z) (sym e) (elim (cases_eq w v) [
      | inl f ↦ (let a : (class_at p w == k) ≡ false =
          ap (λ z. class_at p z == k) f ∙ eq_not (class_at p v) k (λ g. n (sym g)) in rw a)
      | inr m ↦ ap (λ z. class_at p w == k && z) (h w m)
    ])
  ]

  -- the record of v leaves for q: Counted
  pub bounds_leave : (v q : ℕ) (rows : List Row) → ((k : ℕ) → Untaken k) → Door p c q
      → items p (class_at p v) (sent_to q ss) ≡ Moves v ∷ []
      → ((e k : ℕ) → (e ≡ q → k ≡ class_at p v → ⊥) → items p k (sent_to e ss) ≡ [])
      → (cs' c).told ≡ (cs c).told → known_at (ports p c) q (class_at p v) (cs' c).bound ≡ grow_all
      rows (known_at (ports p c) q (class_at p v) (cs c).bound) → ((e k : ℕ) → (e ≡ q → k ≡ class_at p v → ⊥)
      → known_at (ports p c) e k (cs' c).bound ≡ known_at (ports p c) e k (cs c).bound)
      → Alike (ports p c) (length p.layout.classes) (cs c).bound (cs' c).bound
      → stands_at (rec_at (cs c).records v) ≡ true → stands_at (rec_at (cs' c).records v) ≡ false
      → ((w : ℕ) → (w ≡ v → ⊥) → stands_at (rec_at (cs' c).records w) ≡ stands_at (rec_at (cs c).records w))
      → ((w : ℕ) (s : Stamp) → record_value (recs' w) s ≡ record_value (recs w) s)
      → ((s : Stamp) → NotPast l s → (u : Window) → AllIn rows s u → inside (record_value (recs v) s) u ≡ true)
      → ((s : Stamp) → NotPast l s → (u : Window) → inside (record_value (recs v) s) u ≡ true → AllIn rows s u)
      → BoundsOk p l recs' cs' (post_all (AtClp c) ss mid)
  bounds_leave v q rows same pq out_q out_else told bound_q bound_else linesb av gone at val rows_in in_rows = record {
    told_table = table_told (alike_told told);
    bound_table = table_bound linesb;
    told_line = line_told (alike_told told);
    bound_line = line_bound linesb;
    covered = λ k s np u. elim (cases_eq k j) [
      | inl e ↦ subst (λ z. CoveredAt (Door p) s u (new z)) (sym e)
          (leave_step
          (Door p) self s u c (suc c) [] ((old j).link (suc c) c) (λ e. items p j (sent_to e ss)) (old j) (new j)
          (plain_frame p c cs cs' ls mid recs recs' ss there j (same j)) (ok.covered j s np u)
          v q rows refl pq out_q (λ e _ n. out_else e j (λ f _. n f)) (λ e _. ap (known_at (ports p c) e j) told)
          bound_q (λ e n. bound_else e j (λ f _. n f)) (ok.bound_line c q j s lc np)
          (let a = eq_self (class_at p v) in rw a av) (at_less j) (λ w. vals val j w s)
          (λ f. subst (λ z. inside z u ≡ true) (sym (now s)) (rows_in s np u f))
          (λ i. in_rows s np u (subst (λ z. inside z u ≡ true) (now s) i)))
      | inr n ↦ plain_step
          (Door p) self s u c (suc c) [] ((old k).link (suc c) c) (λ e. items p k (sent_to e ss)) (old k) (new k)
          (plain_frame p c cs cs' ls mid recs recs' ss there k (same k))
          (ok.covered k s np u) refl (λ e _. out_else e k (λ _ g. n g)) (λ e _. ap (known_at (ports p c) e k) told)
          (λ e. bound_else e k (λ _ g. n g)) (λ w d. at_but v at k w d n) (λ w. vals val k w s)
    ];
  }
    where
      j : ℕ
      j = class_at p v

      now : (s : Stamp) → (new j).val v s ≡ record_value (recs v) s
      now s = val_in recs' j v s refl ∙ val v s

      at_less : (k w d : ℕ) → (new k).at w d ≡ true → (old k).at w d ≡ true
      at_less k w d a = elim (cases_eq d c) [
        | inr m ↦ subst (λ (z : ClpState). (class_at p w == k && stands_at (rec_at z.records w)) ≡ true) (there d m) a
        | inl e ↦ subst (λ z. (old k).at w z ≡ true) (sym e) (at_c (subst (λ z. (new k).at w z ≡ true) e a))
      ]
        where
          at_c : (new k).at w c ≡ true → (old k).at w c ≡ true
          at_c b = elim (cases_eq w v) [
            | inl f ↦ absurd (no (class_at p w == k) (stands_at (rec_at (cs' c).records w))
                (subst (λ z. stands_at (rec_at (cs' c).records z) ≡ false) (sym f) gone) b)
            | inr m ↦ subst (λ z. (class_at p w == k && z) ≡ true) (at w m) b
          ]
            where
              no : (x y : Bool) → y ≡ false → (x && y) ≡ true → ⊥
              no true y e h = cc
              no false y e h = cc

  -- the record of v comes from y: Move
  pub bounds_arrive : (v y : ℕ) (rows : List Row) (m : Message)
      → (y ≡ c → ⊥) → between (AtClp c) (AtClp y) ls ≡ m ∷ between (AtClp c) (AtClp y) mid
      → ((a b : Process) → ((a ≡ AtClp c) × (b ≡ AtClp y) → ⊥) → between a b mid ≡ between a b ls)
      → item_of p (class_at p v) m ≡ Moves v ∷ [] → ((k : ℕ) → (k ≡ class_at p v → ⊥) → Untaken k)
      → Door p c y → Door p y c → ((e k : ℕ) → items p k (sent_to e ss) ≡ [])
      → known_at (ports p c) y (class_at p v) (cs' c).told ≡ grow_all
      rows (known_at (ports p c) y (class_at p v) (cs c).told) → ((e k : ℕ) → (e ≡ y → k ≡ class_at p v → ⊥)
      → known_at (ports p c) e k (cs' c).told ≡ known_at (ports p c) e k (cs c).told) → (cs' c).bound ≡ (cs c).bound
      → Alike (ports p c) (length p.layout.classes) (cs c).told (cs' c).told
      → ((w : ℕ) → (w ≡ v → ⊥) → stands_at (rec_at (cs' c).records w) ≡ stands_at (rec_at (cs c).records w))
      → ((w : ℕ) (s : Stamp) → record_value (recs' w) s ≡ record_value (recs w) s)
      → ((s : Stamp) → NotPast l s → (u : Window) → AllIn rows s u → inside (record_value (recs v) s) u ≡ true)
      → ((s : Stamp) → NotPast l s → (u : Window) → inside (record_value (recs v) s) u ≡ true → AllIn rows s u)
      → BoundsOk p l recs' cs' (post_all (AtClp c) ss mid)
  bounds_arrive v y rows m ny head others item same pcy pyc out told_y told_else bound lines at val rows_in in_rows =
      record {
        told_table = table_told lines;
        bound_table = table_bound (alike_bound bound);
        told_line = line_told lines;
        bound_line = line_bound (alike_bound bound);
        covered = λ k s np u. elim (cases_eq k j) [
          | inl e ↦ subst (λ z. CoveredAt (Door p) s u (new z)) (sym e)
              (arrive_step (Door p) self s u c y (item_of p j m)
              (items p j (between (AtClp c) (AtClp y) mid)) (λ e. items p j (sent_to e ss)) (old j) (new j)
              (item_frame p c cs cs' ls mid recs recs' ss there j y m ny head others)
              (ok.covered j s np u) v rows item pcy pyc (λ e _. out e j) told_y (λ e n. told_else e j (λ f _. n f))
              (λ e. ap (known_at (ports p c) e j) bound) (ok.told_line c y j s lc np)
              at_here at_there (λ w. vals val j w s)
              (λ f. subst (λ z. inside z u ≡ true) (sym (val_in recs j v s refl)) (rows_in s np u f))
              (λ i. in_rows s np u (subst (λ z. inside z u ≡ true) (val_in recs j v s refl) i)))
          | inr n ↦ plain_step
              (Door p) self s u c (suc c) [] ((old k).link (suc c) c) (λ e. items p k (sent_to e ss)) (old k) (new k)
              (plain_frame p c cs cs' ls mid recs recs' ss there k (same k n))
              (ok.covered k s np u) refl (λ e _. out e k) (λ e _. told_else e k (λ _ g. n g))
              (λ e. ap (known_at (ports p c) e k) bound) (λ w d. at_but v at k w d n) (λ w. vals val k w s)
        ];
      }
    where
      j : ℕ
      j = class_at p v

      at_here : (w : ℕ) → (new j).at w c ≡ true → (w ≡ v) ⊎ ((old j).at w c ≡ true)
      at_here w a =
          elim (cases_eq w v) [ inl f ↦ inl f | inr n ↦ inr (subst (λ z. (class_at p w == j && z) ≡ true) (at w n) a) ]

      at_there : (w d : ℕ) → (d ≡ c → ⊥) → (new j).at w d ≡ true → (old j).at w d ≡ true
      at_there w d n a =
          subst (λ (z : ClpState). (class_at p w == j && stands_at (rec_at z.records w)) ≡ true) (there d n) a
