-- All records of a class at a CLP watch a query.
use Rattle.pm_queries.specs.declared.registered.Sent.{Sent}
use Rattle.pm_alp.specs.declared.agent.Agent.{Agent}
use Rattle.std.proofs.Common.{◌≡◌, ℕ, suc, ◌+◌, ◌<◌, ◌≤◌, ◌⊎◌, inl, inr, true, List, [], ◌∷◌, ◌++◌, map, length, get_or, set, refl, arith, ap, sym, ◌∙◌, subst, Option, Some, None, get_or-set_other, get_or-set_same, length-set, append_assoc}
use Rattle.std.proofs.lemmas.Bool.{cond_both, cases_eq}
use Rattle.std.proofs.lemmas.List.{map-append}
use Rattle.pm_routes.specs.Routings.{Routing}
use Rattle.std.specs.Prelude.{zero}
use Rattle.pm_periods.specs.Records.{first_read, with_read, refreshed, record_value}
use Rattle.std.proofs.lemmas.Bool.{cond_both}
use Rattle.pm_base.specs.declared.rows.GiveRow.{GiveRow}
use Rattle.pm_base.specs.declared.rows.Parts.{Parts}
use Rattle.pm_base.specs.declared.stamp.Line.{Line}
use Rattle.pm_base.specs.declared.stamp.Num.{Num}
use Rattle.pm_base.specs.declared.stamp.Stamp.{Stamp}
use Rattle.pm_base.specs.declared.value.Window.{Window}
use Rattle.pm_message.specs.declared.Message.{Message}
use Rattle.pm_model.specs.declared.State.{State}
use Rattle.pm_periods.specs.Records.{record_value, refreshed}
use Rattle.pm_plan.specs.declared.plan.Plan.{Plan}
use Rattle.pm_clp.specs.Clps.{Answered, ClpSends, ClpState, rec_at, take_watch, to_agent, no_clp_sends, and_then, on_record, at_record, watch_all}
use Rattle.pm_sim.specs.Worlds.{hub_of}
use Rattle.pm_sim.specs.Sims.{Core, In, NotPast, class_at, has_read, vars_of}
use Rattle.pm_sim.specs.Routings.{PlacesOk}
use Rattle.pm_sim.proofs.Letters.{Bag, in_map, bag_split}
use Rattle.pm_sim.proofs.Lists.{in_cases}
use Rattle.pm_sim.proofs.Places.{in_range, set_rec, set_here, set_there, n}
use Rattle.pm_sim.proofs.Routed.{core_watch, watched_has, watched_keeps}
use Rattle.pm_base.specs.declared.value.Query.TheVariants as query
use Rattle.pm_message.specs.declared.Message.TheVariants as message
use Rattle.pm_routes.specs.declared.way.Way.TheVariants as way
use Rattle.pm_sim.specs.Worlds.{clps_of}
use Rattle.pm_sim.specs.Worlds.{ports}

abbrev pub sent_letters : List Sent → List Message
sent_letters ss = map (λ (x : Sent). x.message) ss

pub watch_value : (v : ℕ) (n : Num) (s : Stamp) (w : Window) (r : Parts) (a : Stamp)
    → record_value (take_watch v n s w r).rec a ≡ record_value r a
watch_value v n s w r a = cond_both (has_read n r.reads) r (refreshed (with_read (first_read n s w) r))
    (λ (z : Parts). record_value z a ≡ record_value r a) (λ _. refl) (λ _. refl)

pub watch_puts : (v : ℕ) (n : Num) (s : Stamp) (w : Window) (r : Parts) → (take_watch v n s w r).rec.puts ≡ r.puts
watch_puts v n s w r = cond_both (has_read n r.reads)
    r (refreshed (with_read (first_read n s w) r)) (λ (z : Parts). z.puts ≡ r.puts) (λ _. refl) (λ _. refl)

module _ (p : Plan) (l : Line)
    (q : State) (issued : List Message) (agents : List Agent) (pend : Num → ℕ → Type 0) (wait : Num → Type 0) (c : ℕ)
    (k : Num) (z : Stamp)
    (x : ℕ) (u : Window) (issue : In (message.Ask k z (query.Class x u)) issued) (low : NotPast l z) where
  -- s0 became r.clp, its records of class x from lo up to hi having watched
  pub record Watched (recs : ℕ → Parts) (old : List Message) (s0 : ClpState) (lo hi : ℕ) (r : ClpSends) : Type 0 where
    pub recs' : ℕ → Parts
    pub old' : List Message
    pub core : Core p l q issued agents recs' old' pend wait
    pub bag : (new gone fw : List Message) → Bag old new gone (sent_letters r.sent ++ fw) → Bag old' new gone fw
    pub here : (v : ℕ) (y : Parts) → rec_at r.clp.records v ≡ Some y → y ≡ recs' v
    pub goes : (v : ℕ) (y : Parts) → rec_at s0.records v ≡ Some y → (y' : Parts) × (rec_at r.clp.records v ≡ Some y')
    pub back : (v : ℕ) (y : Parts) → rec_at r.clp.records v ≡ Some y → (y' : Parts) × (rec_at s0.records v ≡ Some y')
    pub same : (v : ℕ) → ((y : Parts) → rec_at s0.records v ≡ Some y → ⊥) → recs' v ≡ recs v
    pub keeps : (v : ℕ) (m : Num) → has_read m (recs v).reads ≡ true → has_read m (recs' v).reads ≡ true
    pub reads : (v : ℕ) (y : Parts)
        → lo ≤ v → v < hi → class_at p v ≡ x → rec_at s0.records v ≡ Some y → has_read k (recs' v).reads ≡ true
    pub routing : r.clp.routing ≡ s0.routing
    pub line : r.clp.line ≡ s0.line
    pub queries : r.clp.queries ≡ s0.queries
    pub len : length r.clp.records ≡ length s0.records
    pub bound : r.clp.bound ≡ s0.bound
    pub told : r.clp.told ≡ s0.told
    pub values : (v : ℕ) (a : Stamp) → record_value (recs' v) a ≡ record_value (recs v) a
    pub puts : (v : ℕ) → (recs' v).puts ≡ (recs v).puts
    pub gives : (y : Sent) → In y r.sent → (g : GiveRow) × (y ≡ to_agent (hub_of p c) g)

  idle : (recs : ℕ → Parts) (old : List Message) (s0 : ClpState) (lo hi : ℕ)
      → Core p l q issued agents recs old pend wait → ((v : ℕ) (y : Parts) → rec_at s0.records v ≡ Some y → y ≡ recs v)
      → ((v : ℕ) (y : Parts) → lo ≤ v → v < hi → class_at p v ≡ x → rec_at s0.records v ≡ Some y → ⊥)
      → Watched recs old s0 lo hi (no_clp_sends s0)
  idle recs old s0 lo hi core here none = record {
    recs' = recs;
    old' = old;
    core = core;
    bag = λ new gone fw b. b;
    here = here;
    goes = λ v y e. (y, e);
    back = λ v y e. (y, e);
    same = λ v h. refl;
    keeps = λ v m e. e;
    reads = λ v y a b e f. absurd (none v y a b e f);
    routing = refl;
    line = refl;
    queries = refl;
    len = refl;
    bound = refl;
    told = refl;
    values = λ v a. refl;
    puts = λ v. refl;
    gives = λ y i. absurd i;
  }

  -- one record watches
  pub one : (recs : ℕ → Parts) (old : List Message) (s0 : ClpState) (i : ℕ) → i < vars_of p → class_at p i ≡ x
      → Core p l q issued agents recs old pend wait → ((v : ℕ) (y : Parts) → rec_at s0.records v ≡ Some y → y ≡ recs v)
      → (o : Option Parts)
      → rec_at s0.records i ≡ o → Watched recs old s0 i (suc i) (on_record (hub_of p c) i (take_watch i k z u) o s0)
  one recs old s0 i lt ec core here None e = idle recs old s0 i (suc i) core here (λ v y a b ev f. let vi : v ≡ i =
      omega arith in let g : Some y ≡ None = sym f ∙ (ap (rec_at s0.records) vi ∙ e) in cc)
  one recs old s0 i lt ec core here (Some r0) e =
      let same : r0 ≡ recs i = here i r0 e in
      let a : Answered = take_watch i k z u r0 in
      let new : ℕ → Parts = set_rec recs i a.rec in
      let is_new : new i ≡ (take_watch i k z u (recs i)).rec =
      set_here recs i a.rec ∙ ap (λ y. (take_watch i k z u y).rec) same in
      let others : (v : ℕ) → (v ≡ i → ⊥) → new v ≡ recs v = set_there recs i a.rec in
      let now : rec_at (set s0.records i (Some a.rec)) i ≡ Some a.rec =
      get_or-set_same s0.records i (Some a.rec) None (in_range s0.records i r0 e) in
      let other : (v : ℕ) → (v ≡ i → ⊥) → rec_at (set s0.records i (Some a.rec)) v ≡ rec_at s0.records v =
      λ v ne. get_or-set_other s0.records i v (Some a.rec) None ne in
      record {
        recs' = new;
        old' = map message.Give a.gives ++ old;
        core =
            subst (λ y. Core p l q issued agents new (map message.Give (take_watch i k z u y).gives ++ old) pend wait)
            (sym same)
            (core_watch p l q issued agents recs new old pend wait core i k z x u issue low (lt, ec) is_new others);
        bag = λ nw gone fw b. bag_split
            old nw gone (map message.Give a.gives) fw (subst (λ y. Bag old nw gone (y ++ fw)) (letters a.gives) b);
        here = λ v y f. elim (cases_eq v i) [
          | inl h ↦ some_same y a.rec (sym f ∙ (ap (rec_at (set s0.records i (Some a.rec))) h ∙ now))
              ∙ sym (ap new h ∙ set_here recs i a.rec)
          | inr ne ↦ here v y (sym (other v ne) ∙ f) ∙ sym (others v ne)
        ];
        goes = λ v y f. elim (cases_eq v i) [
          | inl h ↦ (a.rec, ap (rec_at (set s0.records i (Some a.rec))) h ∙ now)
          | inr ne ↦ (y, other v ne ∙ f)
        ];
        back = λ v y f.
            elim (cases_eq v i) [ inl h ↦ (r0, ap (rec_at s0.records) h ∙ e) | inr ne ↦ (y, sym (other v ne) ∙ f) ];
        same = λ v h. others v (λ f. h r0 (ap (rec_at s0.records) f ∙ e));
        keeps = λ v m f. watched_keeps
            p l q issued agents recs new old pend wait core i k z x u issue low (lt, ec) is_new others v m f;
        reads =
            λ v y lo hi ev f. (let vi : v ≡ i = omega arith in subst (λ y'. has_read k (new y').reads ≡ true) (sym vi)
            (watched_has p l q issued agents recs new old pend wait core i k z x u issue low (lt, ec) is_new others));
        routing = refl;
        line = refl;
        queries = refl;
        len = length-set s0.records i (Some a.rec);
        bound = refl;
        told = refl;
        values = λ v a'. elim (cases_eq v i) [
          | inl h ↦ subst (λ y. record_value (new y) a' ≡ record_value (recs y) a')
              (sym h) (ap (λ (y : Parts). record_value y a') is_new ∙ watch_value i k z u (recs i) a')
          | inr ne ↦ ap (λ (y : Parts). record_value y a') (others v ne)
        ];
        puts = λ v. elim (cases_eq v i) [
          | inl h ↦ subst (λ y. (new y).puts ≡ (recs y).puts)
              (sym h) (ap (λ (y : Parts). y.puts) is_new ∙ watch_puts i k z u (recs i))
          | inr ne ↦ ap (λ (y : Parts). y.puts) (others v ne)
        ];
        gives = λ y j. (let r = in_map (to_agent (hub_of p c)) a.gives y j in (r.0, r.2));
      }
    where
      some_same : (y y' : Parts) → Some y ≡ Some y' → y ≡ y'
      some_same y y' f = cc

      letters : (gs : List GiveRow) → sent_letters (map (to_agent (hub_of p c)) gs) ≡ map message.Give gs
      letters [] = refl
      letters (g ∷ gs) = ap (λ y. message.Give g ∷ y) (letters gs)

  then : (recs : ℕ → Parts) (old : List Message)
      (s0 : ClpState) (lo mid hi : ℕ) (r : ClpSends) (f : ClpState → ClpSends) (a : Watched recs old s0 lo mid r)
      → Watched a.recs' a.old' r.clp mid hi (f r.clp) → Watched recs old s0 lo hi (and_then r f)
  then recs old s0 lo mid hi r f a b = record {
    recs' = b.recs';
    old' = b.old';
    core = b.core;
    bag = λ new gone fw bg. b.bag new gone fw (a.bag new gone (sent_letters (f r.clp).sent ++ fw)
        (subst (Bag old new gone) (ap (λ y. y ++ fw) (map-append (λ (y : Sent). y.message) r.sent (f r.clp).sent)
        ∙ append_assoc (sent_letters r.sent) (sent_letters (f r.clp).sent) fw) bg));
    here = b.here;
    goes = λ v y e. (let o = a.goes v y e in b.goes v o.0 o.1);
    back = λ v y e. (let o = b.back v y e in a.back v o.0 o.1);
    same = λ v h. b.same v (λ y e. let o = a.back v y e in h o.0 o.1) ∙ a.same v h;
    keeps = λ v m e. b.keeps v m (a.keeps v m e);
    reads = λ v y le lt ec e. by_place v y le lt ec e (mid_or v mid);
    routing = b.routing ∙ a.routing;
    line = b.line ∙ a.line;
    queries = b.queries ∙ a.queries;
    len = b.len ∙ a.len;
    bound = b.bound ∙ a.bound;
    told = b.told ∙ a.told;
    values = λ v a'. b.values v a' ∙ a.values v a';
    puts = λ v. b.puts v ∙ a.puts v;
    gives = λ y i. elim (in_cases r.sent (f r.clp).sent y i) [ inl j ↦ a.gives y j | inr j ↦ b.gives y j ];
  }
    where
      mid_or : (v m : ℕ) → (v < m) ⊎ (m ≤ v)
      mid_or v m = grind arith

      by_place : (v : ℕ) (y : Parts) → lo ≤ v → v < hi → class_at p v ≡ x
          → rec_at s0.records v ≡ Some y → (v < mid) ⊎ (mid ≤ v) → has_read k (b.recs' v).reads ≡ true
      by_place v y le lt ec e (inl h) = b.keeps v k (a.reads v y le h ec e)
      by_place v y le lt ec e (inr h) = (let o = a.goes v y e in b.reads v o.0 h lt ec o.1)

  pub watch_fold : (m i : ℕ) (s0 : ClpState) (recs : ℕ → Parts) (old : List Message)
      → ((v : ℕ) → i ≤ v → v < i + m → (v < vars_of p) × (class_at p v ≡ x))
      → Core p l q issued agents recs old pend wait → ((v : ℕ) (y : Parts) → rec_at s0.records v ≡ Some y → y ≡ recs v)
      → Watched recs old s0 i (i + m) (watch_all (hub_of p c) k z u i m s0)
  watch_fold zero i s0 recs old at core here = idle recs old s0 i (i + 0) core here (λ v y a b e f. omega (arith, a, b))
  watch_fold (suc m) i s0 recs old at core here =
      let mine = at i (omega arith) (omega arith) in
      let first : Watched recs old s0 i (suc i) (at_record (hub_of p c) i (take_watch i k z u) s0) =
      one recs old s0 i mine.0 mine.1 core here (rec_at s0.records i) refl in
      let rest = watch_fold m (suc i) (at_record (hub_of p c) i (take_watch i k z u) s0).clp
      first.recs' first.old' (λ v lo hi. at v (omega (arith, lo)) (omega (arith, hi))) first.core first.here in
      subst (λ h. Watched recs old s0 i h (watch_all (hub_of p c) k z u i (suc m) s0)) (omega arith)
      (then recs old s0 i (suc i) (suc i + m)
      (at_record (hub_of p c) i (take_watch i k z u) s0) (watch_all (hub_of p c) k z u (suc i) m) first rest)

  -- and each record is where it was
  pub places_watched : (n : ℕ) (place : ℕ → ℕ) (cs cs' : ℕ → ClpState) (recs : ℕ → Parts) (old : List Message)
      (lo hi : ℕ) (r : ClpSends) → c < clps_of p → PlacesOk p n l recs place cs → (w : Watched recs old (cs c) lo hi r)
      → (cs' c).line ≡ (cs c).line → (cs' c).routing ≡ (cs c).routing
      → (cs' c).records ≡ r.clp.records → ((d : ℕ) → (d ≡ c → ⊥) → cs' d ≡ cs d) → PlacesOk p n l w.recs' place cs'
  places_watched n place cs cs' recs old lo hi r lc ok w el ew er there = record {
    line = λ d lt. elim (cases_eq d c) [
      | inl e ↦ subst (λ y. (cs' y).line ≡ l) (sym e) (el ∙ ok.line c lc)
      | inr ne ↦ ap (λ (y : ClpState). y.line) (there d ne) ∙ ok.line d lt
    ];
    ports_are = λ d lt. elim (cases_eq d c) [
      | inl e ↦
          subst (λ y. (cs' y).routing.ports ≡ ports p y) (sym e) (ap (λ (y : Routing). y.ports) ew ∙ ok.ports_are c lc)
      | inr ne ↦ ap (λ (y : ClpState). y.routing.ports) (there d ne) ∙ ok.ports_are d lt
    ];
    here = λ d v lt lv e. elim (cases_eq d c) [
      | inl f ↦ subst (λ y. rec_at (cs' y).records v ≡ Some (w.recs' v))
          (sym f) (at_c v (recs v) (ok.here c v lc lv (ap (λ (y : Routing). get_or y.ways v way.Here) (sym ew)
          ∙ (ap (λ y. get_or (cs' y).routing.ways v way.Here) (sym f) ∙ e))))
      | inr nd ↦
          (let h = ok.here d v lt lv (ap (λ (y : ClpState). get_or y.routing.ways v way.Here) (sym (there d nd)) ∙ e) in
          ap (λ (y : ClpState). rec_at y.records v) (there d nd) ∙ (h ∙ ap Some (sym (away v d (recs v) lt nd h))))
    ];
    port = λ d v e lt lv h. elim (cases_eq d c) [
      | inl f ↦ ok.port c v e lc lv (ap (λ (y : Routing). get_or y.ways v way.Here) (sym ew)
          ∙ (ap (λ y. get_or (cs' y).routing.ways v way.Here) (sym f) ∙ h))
      | inr nd ↦ ok.port d v e lt lv (ap (λ (y : ClpState). get_or y.routing.ways v way.Here) (sym (there d nd)) ∙ h)
    ];
    at = λ d v y lt e. elim (cases_eq d c) [
      | inl f ↦ (let e' : rec_at r.clp.records v ≡ Some y =
          ap (λ y'. rec_at y' v) (sym er) ∙ (ap (λ y'. rec_at (cs' y').records v) (sym f) ∙ e) in
          let o = w.back v y e' in ((ok.at c v o.0 lc o.1).0 ∙ sym f, w.here v y e'))
      | inr nd ↦ (let e' = ap (λ (y' : ClpState). rec_at y'.records v) (sym (there d nd)) ∙ e in let o =
          ok.at d v y lt e' in (o.0, o.1 ∙ sym (away v d y lt nd e')))
    ];
    records_len = λ d lt. elim (cases_eq d c) [
      | inl f ↦ subst (λ y. length (cs' y).records ≡ n) (sym f) (ap length er ∙ (w.len ∙ ok.records_len c lc))
      | inr nd ↦ ap (λ (y : ClpState). length y.records) (there d nd) ∙ ok.records_len d lt
    ];
    ways_len = λ d lt. elim (cases_eq d c) [
      | inl f ↦ subst
          (λ y. length (cs' y).routing.ways ≡ n) (sym f) (ap (λ (y : Routing). length y.ways) ew ∙ ok.ways_len c lc)
      | inr nd ↦ ap (λ (y : ClpState). length y.routing.ways) (there d nd) ∙ ok.ways_len d lt
    ];
  }
    where
      at_c : (v : ℕ) (y : Parts) → rec_at (cs c).records v ≡ Some y → rec_at (cs' c).records v ≡ Some (w.recs' v)
      at_c v y e = (let o = w.goes v y e in ap (λ y'. rec_at y' v) er ∙ (o.1 ∙ ap Some (w.here v o.0 o.1)))

      away : (v d : ℕ) (y : Parts) → d < clps_of p → (d ≡ c → ⊥) → rec_at (cs d).records v ≡ Some y → w.recs' v ≡ recs v
      away v d y lt nd e = w.same v (λ y' e'. nd (sym (ok.at d v y lt e).0 ∙ (ok.at c v y' lc e').0))
