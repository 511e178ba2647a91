-- The whole fact at an agent's delivery and at a Commit.
use Rattle.pm_queries.specs.Queries.{has_reg}
use Rattle.pm_queries.specs.declared.registered.Registered.{Registered}
use Rattle.pm_tables.specs.Tables.{known_at, bounds_trim, may_hold, meets_at, no_value, TableOk}
use Rattle.pm_base.specs.Stamps.{num_eq}
use Rattle.pm_sim.specs.Bounds.{CoveredAt, between, items, table_ok, BoundsOk}
use Rattle.pm_ranges.specs.Fits.{Fits}
use Rattle.pm_ranges.specs.Known.{Known, bound_at, nothing_known}
use Rattle.pm_ranges.specs.Known as known
use Rattle.pm_base.specs.Windows.{inside}
use Rattle.pm_clp.specs.Clps.{ClpState, rec_at, clp_committed, option_trim}
use Rattle.pm_sim.proofs.Locals.{after, bag}
use Rattle.pm_routes.specs.Routings.{place_of}
use Rattle.pm_sim.proofs.Ranges.{trim_fits, fits_trim, trim_bound}
use Rattle.pm_sim.proofs.Wires.{Took, took, posted_else}
use Rattle.pm_sim.specs.Covers.{AskedOk, Door}
use Rattle.pm_sim.proofs.Nets.{goes_same, comes_same}
use Rattle.pm_sim.specs.Worlds.{ports, post_all, addressed, Posted, Mail, Process, Taken, World, commit, home, mail, take_from, clps_of, no_clp}
use Rattle.pm_sim.proofs.Queries.{reg_of, has_reg_in}
use Rattle.std.proofs.lemmas.Bool.{cases_lt}
use Rattle.std.proofs.Common.{◌≡◌, ℕ, zero, suc, ◌<◌, ◌≤◌, ◌⊎◌, inl, inr, ◌==◌, Bool, true, false, cond, not, ◌&&◌, ◌||◌, List, [], ◌∷◌, map, length, refl, arith, ap, sym, ◌∙◌, subst, Option, Some, None}
use Rattle.std.proofs.lemmas.Bool.Decides.{nat_tests}
use Rattle.std.proofs.lemmas.List.{length-map, get_or-map}
use Rattle.pm_base.specs.declared.rows.Parts.{Parts}
use Rattle.pm_base.specs.declared.rows.ReadRow.{ReadRow}
use Rattle.pm_base.specs.declared.stamp.Line.{Line}
use Rattle.pm_base.specs.declared.stamp.Num.{Num}
use Rattle.pm_base.specs.declared.stamp.Stamp.{Stamp}
use Rattle.pm_base.specs.declared.value.Window.{Window}
use Rattle.pm_message.specs.Messages.{stamp_of}
use Rattle.pm_message.specs.declared.Message.{Message}
use Rattle.pm_model.specs.declared.State.{State}
use Rattle.pm_periods.specs.Records.{hit_in, record_value, trimmed}
use Rattle.pm_plan.specs.declared.plan.Plan.{Plan}
use Rattle.pm_alp.specs.Agents.{Sends}
use Rattle.pm_sim.specs.Worlds.Process.{AtClp, AtAgent}
use Rattle.pm_sim.specs.Sims.{In, NotPast, Past, class_at, has_read, is_past}
use Rattle.pm_sim.specs.Routings.{mail_to, stands_at}
use Rattle.pm_sim.proofs.Letters.{letters, in_map}
use Rattle.pm_sim.proofs.Lines.{get_past, end, commit_sim}
use Rattle.pm_sim.proofs.Places.{clp_at, queries_at, Pending, Sim}
use Rattle.pm_sim.proofs.Quiets.{told_in}
use Rattle.pm_sim.proofs.Stamps.{num_eq_self, past_false}
use Rattle.pm_sim.proofs.Trims.{in_filter, filter_in, value_trim}
use Rattle.pm_sim.proofs.Reaches.{found}
use Rattle.pm_base.specs.declared.stamp.Line.TheVariants as line
use Rattle.pm_base.specs.declared.value.Query.TheVariants as query
use Rattle.pm_message.specs.declared.Message.TheVariants as message
use Rattle.pm_sim.proofs.Fulls.{Full}
use Rattle.std.proofs.Common.{get_or}

-- ---- an agent

module _ (p : Plan) (q : State) (w : World) (recs : ℕ → Parts) (sim : Sim p q w recs) (asked :
    AskedOk p (length q.values) recs (clp_at w) (mail w.links)) (bounds : BoundsOk p w.line recs (clp_at w) w.links)
    (a : ℕ) (from : Process)
    (m : Message) (t : Taken) (e : take_from (AtAgent a) from w.links ≡ Some t) (em : t.message ≡ m) where
  pub agent_full : (r : Sends)
      → Sim p q (after p q w recs sim a from m t e em r) recs → Full p q (after p q w recs sim a from m t e em r)
  agent_full r sim' = record {
    recs = recs;
    sim = sim';
    asked = record {
      sent = λ c d x le i j.
          elim (asked.sent c d x le i j) [ inl h ↦ inl h | inr h ↦ inr (h.0, h.1, h.2, kept d _ _ h.3) ];
      watched = asked.watched;
      pruned = asked.pruned;
      grows = λ c d k s u y i. asked.grows c d k s u y (elim ((bag p q w recs sim a from m t e em r).from _ i) [
        | inl j ↦ j
        | inr j ↦ absurd (let o = in_map (λ (x : Posted). mail_to x.to (AtAgent a) x.message)
            (map (addressed a (home p a)) r.sent) _ j in let g = ap (λ (x : Mail). x.from) o.2 in cc)
      ]);
    };
    bounds = record {
      told_table = bounds.told_table;
      bound_table = bounds.bound_table;
      told_line = bounds.told_line;
      bound_line = bounds.bound_line;
      covered = λ k s np u. subst (CoveredAt (Door p) s u) (λ i. record {
        told = λ d c. known_at (ports p d) c k (clp_at w d).told;
        bound = λ d c. known_at (ports p d) c k (clp_at w d).bound;
        link = λ d c. items p k (sym (same c d) i);
        at = λ v d. class_at p v == k && stands_at (rec_at (clp_at w d).records v);
        val = λ v z. cond (class_at p v == k) (record_value (recs v) z) no_value;
      }) (bounds.covered k s np u);
    };
  }
    where
      kept : (d : ℕ) (f : Process) (x : Message) → In (mail_to (AtClp d) f x) (mail w.links)
          → In (mail_to (AtClp d) f x) (mail (after p q w recs sim a from m t e em r).links)
      kept d f x i = elim ((bag p q w recs sim a from m t e em r).kept _ i) [
        | inr h ↦ h
        | inl h ↦ absurd (elim h [ inl g ↦ (let y = ap (λ (z : Mail). z.to) g in cc) | inr b ↦ b ])
      ]

      tk : Took (AtAgent a) from w.links t
      tk = took (AtAgent a) from w.links t e

      same : (c d : ℕ) → between (AtClp c) (AtClp d)
          (post_all (AtAgent a) (map (addressed a (home p a)) r.sent) t.links) ≡ between (AtClp c) (AtClp d) w.links
      same c d = posted_else (AtAgent a) (AtClp c) (AtClp d) (map (addressed a (home p a)) r.sent) t.links (λ g. cc)
          ∙ tk.others (AtClp c) (AtClp d) (λ g. let y = g.0 in cc)

-- ---- a Commit

-- a place of a trimmed table: trimmed, or nothing known as before
row_trim : (k : Line) (bs : List Known) (j : ℕ)
    → (get_or (map (known.trimmed k) bs) j nothing_known ≡ known.trimmed k (get_or bs j nothing_known))
    ⊎ ((get_or bs j nothing_known ≡ nothing_known)
    × (get_or (map (known.trimmed k) bs) j nothing_known ≡ nothing_known))
row_trim k [] j = inr (refl, refl)
row_trim k (b ∷ bs) zero = inl refl
row_trim k (b ∷ bs) (suc j) = row_trim k bs j

table_trim : (k : Line) (b : List (List Known)) (i : ℕ)
    → get_or (bounds_trim k b) i [] ≡ map (known.trimmed k) (get_or b i [])
table_trim k [] i = refl
table_trim k (r ∷ b) zero = refl
table_trim k (r ∷ b) (suc i) = table_trim k b i

trimmed_side : (ps : List ℕ) (k : Line) (d j : ℕ) (b : List (List Known))
    → (known_at ps d j (bounds_trim k b) ≡ known.trimmed k (known_at ps d j b))
    ⊎ ((known_at ps d j b ≡ nothing_known) × (known_at ps d j (bounds_trim k b) ≡ nothing_known))
trimmed_side ps k d j b = subst (λ z. (get_or z j nothing_known ≡ known.trimmed k (known_at ps d j b))
    ⊎ ((known_at ps d j b ≡ nothing_known) × (get_or z j nothing_known ≡ nothing_known)))
    (sym (table_trim k b (place_of ps d))) (row_trim k (get_or b (place_of ps d) []) j)

trim_table : (P K : ℕ) (k : Line) (b : List (List Known)) → TableOk P K b → TableOk P K (bounds_trim k b)
trim_table P K k b ok = record {
  by_port = length-map b (map (known.trimmed k)) ∙ ok.by_port;
  by_class = λ i lt. ap length (table_trim k b i) ∙ (length-map (get_or b i []) (known.trimmed k) ∙ ok.by_class i lt);
}

trim_line : (ps : List ℕ) (k : Line) (d j : ℕ) (b : List (List Known)) (s : Stamp)
    → NotPast k s → NotPast (known_at ps d j (bounds_trim k b)).line s
trim_line ps k d j b s np = elim (trimmed_side ps k d j b) [
  | inl e ↦ subst (λ (z : Known). NotPast z.line s) (sym e) np
  | inr e ↦ subst (λ (z : Known). NotPast z.line s) (sym e.1) (grind arith)
]

side_old : (ps : List ℕ) (k : Line) (d j : ℕ) (b : List (List Known)) (s : Stamp) (u : Window)
    → NotPast k s → Fits s u (known_at ps d j (bounds_trim k b)) → Fits s u (known_at ps d j b)
side_old ps k d j b s u np f = elim (trimmed_side ps k d j b) [
  | inl e ↦ trim_fits k (known_at ps d j b) s u np (subst (λ (z : Known). Fits s u z) e f)
  | inr e ↦ subst (λ (z : Known). Fits s u z) (sym e.0) tt
]

side_new : (ps : List ℕ) (k : Line) (d j : ℕ) (b : List (List Known)) (s : Stamp) (u : Window)
    → NotPast k s → Fits s u (known_at ps d j b) → Fits s u (known_at ps d j (bounds_trim k b))
side_new ps k d j b s u np f = elim (trimmed_side ps k d j b) [
  | inl e ↦ subst (λ (z : Known). Fits s u z) (sym e) (fits_trim k (known_at ps d j b) s u np f)
  | inr e ↦ subst (λ (z : Known). Fits s u z) (sym e.1) tt
]

side_holds : (ps : List ℕ) (k : Line) (d j : ℕ) (b : List (List Known)) (s : Stamp) (u : Window)
    → NotPast k s → may_hold ps (bounds_trim k b) d j s u ≡ may_hold ps b d j s u
side_holds ps k d j b s u np = elim (trimmed_side ps k d j b) [
  | inl e ↦ ap (λ (z : Known). meets_at u (bound_at z s)) e ∙ ap (meets_at u) (trim_bound k (known_at ps d j b) s np)
  | inr e ↦ ap (λ (z : Known). meets_at u (bound_at z s)) (e.1 ∙ sym e.0)
]

trim_get : (k : Line) (rs : List (Option Parts)) (v : ℕ)
    → rec_at (map (option_trim k) rs) v ≡ option_trim k (rec_at rs v)
trim_get k [] v = refl
trim_get k (r ∷ rs) zero = refl
trim_get k (r ∷ rs) (suc v) = trim_get k rs v

trim_there : (k : Line) (o : Option Parts) → stands_at (option_trim k o) ≡ stands_at o
trim_there k None = refl
trim_there k (Some r) = refl

read_has : (n : Num) (rs : List ReadRow) (x : ReadRow) → In x rs → x.num ≡ n → has_read n rs ≡ true
read_has n [] x i e = absurd i
read_has n (r ∷ rs) x (inl f) e =
    (let g : num_eq n r.num ≡ true = ap (num_eq n) (sym (ap (λ (z : ReadRow). z.num) f) ∙ e) ∙ num_eq_self n in rw g)
read_has n (r ∷ rs) x (inr i) e = (let again = read_has n rs x i e in go (num_eq n r.num) (has_read n rs) again)
  where
    go : (a b : Bool) → b ≡ true → (a || b) ≡ true
    go true b h = refl
    go false b h = h

module _ (p : Plan) (q : State) (w : World) (recs : ℕ → Parts) (sim : Sim p q w recs) (asked :
    AskedOk p (length q.values) recs (clp_at w) (mail w.links)) (bounds : BoundsOk p w.line recs (clp_at w) w.links)
    (k : Line) (quiet : (x : Mail) → In x (mail w.links) → NotPast k (stamp_of x.message))
    (above : (s : Stamp) → NotPast k s → NotPast w.line s) where
  abbrev pub fnd : (k' : Line) → ((m : Message) → In m (letters w.links) → NotPast k' (stamp_of m))
      → (m : Num) (v : ℕ) (s : Stamp) (c : ℕ) (u : Window) → In (message.Ask m s (query.Class c u)) sim.issued
      → NotPast w.line s → Past k' s → v < length q.values → class_at p v ≡ c
      → Pending p (queries_at w) (mail w.links) m v
      → (has_read m (recs v).reads ≡ true) ⊎ (hit_in (record_value (recs v) s) u ≡ None)
  fnd k' qt m v s c u i low past lv ec b = found p q w recs sim asked bounds k' qt m s c u i low past v lv ec b

  abbrev w' : World
  w' = commit w k

  abbrev recs' : ℕ → Parts
  recs' v = trimmed k (recs v)

  in_clps : (d : ℕ) → d < clps_of p → clp_at w' d ≡ clp_committed k (clp_at w d)
  in_clps d lt = get_or-map (clp_committed k) w.clps d no_clp no_clp (let o = sim.size in omega arith)

  beyond : (d : ℕ) → clps_of p ≤ d → (clp_at w' d ≡ no_clp) × (clp_at w d ≡ no_clp)
  beyond d ge = (
    get_past (map (clp_committed k) w.clps) d no_clp (let o = sim.size in omega
        (arith, ge, length-map w.clps (clp_committed k))),
    get_past w.clps d no_clp (let o = sim.size in omega arith),
  )

  rec_is : (d v : ℕ) → d < clps_of p → rec_at (clp_at w' d).records v ≡ option_trim k (rec_at (clp_at w d).records v)
  rec_is d v lt = ap (λ (z : ClpState). rec_at z.records v) (in_clps d lt) ∙ trim_get k (clp_at w d).records v

  there_is : (d v : ℕ) → stands_at (rec_at (clp_at w' d).records v) ≡ stands_at (rec_at (clp_at w d).records v)
  there_is d v = elim (cases_lt d (clps_of p)) [
    | inl lt ↦ ap stands_at (rec_is d v lt) ∙ trim_there k (rec_at (clp_at w d).records v)
    | inr ge ↦ (let o = beyond d ge in ap (λ (z : ClpState). stands_at (rec_at z.records v)) (o.0 ∙ sym o.1))
  ]

  val_is : (v : ℕ) (s : Stamp) → NotPast k s → record_value (recs' v) s ≡ record_value (recs v) s
  val_is v s np = value_trim k (recs v) s (sim.core.rec v).solid.puts np

  -- a query that is kept, and was
  kept_reg : (d : ℕ) (r : Registered)
      → d < clps_of p → In r (clp_at w' d).queries → In r (clp_at w d).queries × NotPast k r.stamp
  kept_reg d r lt i = (let f = in_filter (λ (x : Registered). not (is_past k x.stamp)) (clp_at w d).queries
      r (subst (λ (z : ClpState). In r z.queries) (in_clps d lt) i) in (f.0, not_past k r.stamp f.1))
    where
      not_past : (l : Line) (s : Stamp) → not (is_past l s) ≡ true → NotPast l s
      not_past (line.At l) s h = grind (arith, nat_tests, h)
      not_past line.End s h = absurd (cc)

  reg_kept : (d : ℕ) (r : Registered)
      → d < clps_of p → In r (clp_at w d).queries → NotPast k r.stamp → In r (clp_at w' d).queries
  reg_kept d r lt i np = subst (λ (z : ClpState). In r z.queries) (sym (in_clps d lt)) (filter_in
      (λ (x : Registered). not (is_past k x.stamp)) (clp_at w d).queries r i (ap not (past_false k r.stamp np)))

  commit_asked : AskedOk p (length q.values) recs' (clp_at w') (mail w.links)
  commit_asked = record {
    sent = λ c d r le i j. (let o = kept_reg c r le i in elim (asked.sent c d r le o.0 j) [
      | inr h ↦ inr h
      | inl h ↦ elim (cases_lt d (clps_of p)) [
        | inl lt ↦ (let g = reg_of r.num (queries_at w d) h in
            let same : g.0.stamp ≡ r.stamp =
            ap stamp_of (sim.core.unique _ _ (sim.queries.reg d g.0 lt g.1).0 (sim.queries.reg c r le o.0).0 g.2) in
            inl (has_reg_in
            r.num (clp_at w' d).queries g.0 (reg_kept d g.0 lt g.1 (subst (NotPast k) (sym same) o.1)) g.2))
        | inr ge ↦ absurd (let f : has_reg r.num (queries_at w d) ≡ false =
            ap (λ (z : ClpState). has_reg r.num z.queries) (beyond d ge).1 in cc)
      ]
    ]);
    watched = λ c v r y le lv i ec er. (let o = kept_reg c r le i in
        let y0 = some_trim (rec_at (clp_at w c).records v) y (sym (rec_is c v le) ∙ er) in
        let h = asked.watched c v r y0.0 le lv o.0 ec y0.1 in
        let t = told_in r.num (recs v).reads h in
        let x = (sim.core.rec v).reads t.0 t.1 in
        let same : t.0.stamp ≡ r.stamp = ap stamp_of (sim.core.unique _ _ x.1 (sim.queries.reg c r le o.0).0 t.2) in
        read_has r.num (trimmed k (recs v)).reads t.0 (filter_in (λ (z : ReadRow). not (is_past k z.stamp))
        (recs v).reads t.0 t.1 (ap not (past_false k t.0.stamp (subst (NotPast k) (sym same) o.1)))) t.2);
    pruned = λ c d r le i port nf h. (let o = kept_reg c r le i in
        ap (λ (z : ClpState). may_hold (ports p c) z.bound d r.class r.stamp r.window) (in_clps c le) ∙ (side_holds
        (ports p c) k d r.class (clp_at w c).bound r.stamp r.window o.1 ∙ asked.pruned c d r le o.0 port nf h));
    grows = asked.grows;
  }
    where
      some_trim : (o : Option Parts) (y : Parts) → option_trim k o ≡ Some y → (y0 : Parts) × (o ≡ Some y0)
      some_trim None y e = absurd (cc)
      some_trim (Some x) y e = (x, refl)

  commit_bounds : BoundsOk p k recs' (clp_at w') w.links
  commit_bounds = record {
    told_table = λ c lc. subst (λ (z : ClpState). table_ok p c z.told) (sym (in_clps c lc))
        (trim_table (length (ports p c)) (length p.layout.classes) k (clp_at w c).told (bounds.told_table c lc));
    bound_table = λ c lc. subst (λ (z : ClpState). table_ok p c z.bound) (sym (in_clps c lc))
        (trim_table (length (ports p c)) (length p.layout.classes) k (clp_at w c).bound (bounds.bound_table c lc));
    told_line = λ c d j s lc np. subst (λ (z : ClpState). NotPast (known_at (ports p c) d j z.told).line s)
        (sym (in_clps c lc)) (trim_line (ports p c) k d j (clp_at w c).told s np);
    bound_line = λ c d j s lc np. subst (λ (z : ClpState). NotPast (known_at (ports p c) d j z.bound).line s)
        (sym (in_clps c lc)) (trim_line (ports p c) k d j (clp_at w c).bound s np);
    covered = λ j s np u. (let core = bounds.covered j s (above s np) u in
        let told_old : (d c : ℕ) → d < clps_of p → Fits s u (known_at (ports p d) c j (clp_at w' d).told)
        → Fits s u (known_at (ports p d) c j (clp_at w d).told) =
        λ d c ld f. side_old (ports p d) k c j (clp_at w d).told
        s u np (subst (λ (z : ClpState). Fits s u (known_at (ports p d) c j z.told)) (in_clps d ld) f) in
        let told_new : (d c : ℕ) → d < clps_of p → Fits s u (known_at (ports p d) c j (clp_at w d).told)
        → Fits s u (known_at (ports p d) c j (clp_at w' d).told) =
        λ d c ld f. subst (λ (z : ClpState). Fits s u (known_at (ports p d) c j z.told))
        (sym (in_clps d ld)) (side_new (ports p d) k c j (clp_at w d).told s u np f) in
        let bound_old : (d c : ℕ) → d < clps_of p → Fits s u (known_at (ports p d) c j (clp_at w' d).bound)
        → Fits s u (known_at (ports p d) c j (clp_at w d).bound) =
        λ d c ld f. side_old (ports p d) k c j (clp_at w d).bound
        s u np (subst (λ (z : ClpState). Fits s u (known_at (ports p d) c j z.bound)) (in_clps d ld) f) in
        let bound_new : (d c : ℕ) → d < clps_of p → Fits s u (known_at (ports p d) c j (clp_at w d).bound)
        → Fits s u (known_at (ports p d) c j (clp_at w' d).bound) =
        λ d c ld f. subst (λ (z : ClpState). Fits s u (known_at (ports p d) c j z.bound))
        (sym (in_clps d ld)) (side_new (ports p d) k c j (clp_at w d).bound s u np f) in
        let vals : (v : ℕ) → cond (class_at p v == j) (record_value (recs' v) s) no_value ≡ cond (class_at p v == j)
        (record_value (recs v) s) no_value = λ v. ap (λ z. cond (class_at p v == j) z no_value) (val_is v s np) in
        record {
          heard = λ d c pr f g. told_new d c pr.0 (core.heard d c pr (bound_old c d (sim.tree.inside d c pr.1) f) g);
          here = λ d c v pr a f. subst (λ z. inside z u ≡ true) (sym (vals v))
              (core.here d c v pr (ap (λ z. class_at p v == j && z) (sym (there_is d v)) ∙ a) (told_old d c pr.0 f));
          through = λ d c e pr pe n f. bound_new d e pe.0 (core.through d c e pr pe n (told_old d c pr.0 f));
          going = λ d c pr f. goes_same u (λ v. cond (class_at p v == j) (record_value (recs v) s) no_value)
              (λ v. cond (class_at p v == j) (record_value (recs' v) s) no_value) (items
              p j (between (AtClp c) (AtClp d) w.links)) (λ v i. vals v) (core.going d c pr (bound_old d c pr.0 f));
          coming = λ d c pr f. comes_same s u (λ v. cond (class_at p v == j) (record_value (recs v) s) no_value)
              (λ v. cond (class_at p v == j) (record_value (recs' v) s) no_value)
              (items p j (between (AtClp c) (AtClp d) w.links))
              (λ v i. vals v) (core.coming d c pr (bound_old c d (sim.tree.inside d c pr.1) f));
        });
  }

  pub commit_full : Full p (end p q w recs sim fnd k quiet above).end w'
  commit_full = record {
    recs = recs';
    sim = commit_sim p q w recs sim fnd k quiet above;
    asked = subst (λ n. AskedOk p n recs' (clp_at w') (mail w.links))
        (sym (end p q w recs sim fnd k quiet above).size) commit_asked;
    bounds = commit_bounds;
  }
