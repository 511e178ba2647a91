-- A Commit in the world.
use Rattle.pm_queries.specs.declared.registered.Registered.{Registered}
use Rattle.pm_alp.specs.declared.agent.Agent.{Agent}
use Rattle.pm_sim.proofs.Queries.{reg_of}
use Rattle.std.proofs.Common.{◌≡◌, ℕ, zero, suc, ◌<◌, ◌≤◌, ◌⊎◌, inl, inr, not, true, List, [], ◌∷◌, map, filter, length, get_or, refl, arith, ap, sym, ◌∙◌, subst, Option, Some, None, Bool, ◌||◌}
use Rattle.std.proofs.lemmas.Bool.{cases_lt}
use Rattle.std.proofs.lemmas.List.{length-map, get_or-map}
use Rattle.pm_periods.proofs.Receipts.{and_false}
use Rattle.pm_periods.specs.Records.{is_live}
use Rattle.pm_base.specs.declared.rows.CutRow.{CutRow}
use Rattle.pm_base.specs.declared.rows.Parts.{Parts}
use Rattle.pm_base.specs.declared.rows.PutRow.{PutRow}
use Rattle.pm_base.specs.declared.rows.ReadRow.{ReadRow}
use Rattle.pm_base.specs.declared.stamp.Line.{Line}
use Rattle.pm_base.specs.declared.stamp.Num.{Num}
use Rattle.pm_base.specs.declared.stamp.Stamp.{Stamp}
use Rattle.pm_base.specs.declared.value.Query.{Query}
use Rattle.pm_base.specs.declared.value.Window.{Window}
use Rattle.pm_base.specs.Stamps.{stamp_lt}
use Rattle.pm_message.specs.Messages.{stamp_of}
use Rattle.pm_message.specs.declared.Message.{Message}
use Rattle.pm_model.specs.declared.State.{State}
use Rattle.pm_periods.specs.Records.{hit_in, record_value, trimmed}
use Rattle.pm_plan.specs.declared.plan.Plan.{Plan}
use Rattle.pm_alp.specs.Agents.{agent_committed}
use Rattle.pm_clp.specs.Clps.{ClpState, rec_at, clp_committed, option_trim}
use Rattle.pm_sim.specs.Worlds.{Mail, World, commit, home, mail, clps_of, no_clp}
use Rattle.pm_sim.specs.Worlds.Process.{AtAgent}
use Rattle.pm_sim.specs.Sims.{AtMost, In, MailOk, NotPast, Past, class_at, has_put, has_read, is_past}
use Rattle.pm_sim.specs.Routings.{Fits, PlacesOk, QueriesOk, Wait}
use Rattle.pm_sim.proofs.Commitments.{reached, core_commit}
use Rattle.pm_sim.proofs.Commits.{Reached}
use Rattle.pm_sim.proofs.Ends.{qs_cut, commit_goes, queries_commit, goes_low}
use Rattle.pm_sim.proofs.Goes.{PlanOk}
use Rattle.pm_sim.proofs.Letters.{message_of, letters, in_map, map_in}
use Rattle.pm_sim.proofs.Places.{clp_at, queries_at, Pending, Sim}
use Rattle.pm_sim.proofs.Queries.{has_reg_in}
use Rattle.pm_sim.proofs.Quiets.{Lively, val, last, Live}
use Rattle.pm_sim.proofs.Stamps.{past_false, not_past_up}
use Rattle.pm_sim.proofs.Trims.{filter_in}
use Rattle.pm_sim.proofs.Values.{seen, value_none}
use Rattle.pm_base.specs.declared.stamp.Line.TheVariants as line
use Rattle.pm_base.specs.declared.value.Query.TheVariants as query
use Rattle.pm_message.specs.declared.Message.TheVariants as message
use Rattle.pm_routes.specs.declared.way.Way.TheVariants as way
use Rattle.pm_sim.specs.Routings.{stands_at}
use Rattle.pm_sim.specs.Routings.{MovesOk}
use Rattle.pm_sim.specs.Sims.{PlanIs}

pub get_past : {X : Type 0} (xs : List X) (i : ℕ) (d : X) → length xs ≤ i → get_or xs i d ≡ d
get_past [] i d h = refl
get_past (x ∷ xs) zero d h = absurd (omega arith)
get_past (x ∷ xs) (suc i) d h = get_past xs i d (omega arith)

pub trim_at : (k : Line) (rs : List (Option Parts)) (v : ℕ)
    → rec_at (map (option_trim k) rs) v ≡ option_trim k (rec_at rs v)
trim_at k [] v = refl
trim_at k (r ∷ rs) zero = refl
trim_at k (r ∷ rs) (suc v) = trim_at k rs v

pub trim_some : (k : Line) (o : Option Parts) (r : Parts)
    → option_trim k o ≡ Some r → (r0 : Parts) × (o ≡ Some r0) × (r ≡ trimmed k r0)
trim_some k None r e = absurd (cc)
trim_some k (Some r0) r e = (r0, refl, some_same r (trimmed k r0) (sym e))
  where
    some_same : (x y : Parts) → Some x ≡ Some y → x ≡ y
    some_same x y f = cc

keep_all : {X : Type 0} (P : X → Bool) (xs : List X) → ((x : X) → In x xs → P x ≡ true) → filter P xs ≡ xs
keep_all P [] h = refl
keep_all P (x ∷ xs) h =
    (let again = keep_all P xs (λ y i. h y (inr i)) in let e = h x (inl refl) in rw e (ap (λ z. x ∷ z) again))

-- where all rows stand at or above the line, trimming changes nothing
trim_late : (k : Line) (r : Parts)
    → ((x : PutRow) → In x r.puts → NotPast k x.stamp) → ((x : CutRow) → In x r.cuts → NotPast k x.stamp)
    → ((x : ReadRow) → In x r.reads → NotPast k x.stamp) → (s : Stamp) → NotPast k s → trimmed k r ≡ r
trim_late line.End r hp hc hr s np = absurd np
trim_late (line.At k) r hp hc hr s np =
    let puts : filter (λ (p : PutRow). not (is_past (line.At k) p.stamp)) r.puts ≡ r.puts =
    keep_all (λ (p : PutRow). not (is_past (line.At k) p.stamp))
    r.puts (λ x i. ap not (past_false (line.At k) x.stamp (hp x i))) in
    let base : record_value r k ≡ r.base = value_none (seen r.cuts k) r.puts r.base (λ x i.
    and_false (is_live r.cuts x) (stamp_lt x.stamp k) (past_false (line.At k) x.stamp (hp x i))) in
    let cuts : filter (λ (c : CutRow). not (is_past (line.At k) c.stamp)
    || has_put c.num (filter (λ (p : PutRow). not (is_past (line.At k) p.stamp)) r.puts)) r.cuts ≡ r.cuts =
    keep_all (λ (c : CutRow). not (is_past (line.At k) c.stamp)
    || has_put c.num (filter (λ (p : PutRow). not (is_past (line.At k) p.stamp)) r.puts))
    r.cuts (λ x i. (let e = past_false (line.At k) x.stamp (hc x i) in
    ap (λ z. not z || has_put x.num (filter (λ (p : PutRow). not (is_past (line.At k) p.stamp)) r.puts)) e)) in
    let reads : filter (λ (x : ReadRow). not (is_past (line.At k) x.stamp)) r.reads ≡ r.reads =
    keep_all (λ (x : ReadRow). not (is_past (line.At k) x.stamp))
    r.reads (λ x i. ap not (past_false (line.At k) x.stamp (hr x i))) in
    λ i. record { base = base i; puts = puts i; cuts = cuts i; reads = reads i }

module _ (p : Plan) (q : State) (w : World) (recs : ℕ → Parts) (sim : Sim p q w recs)
    (found : (k : Line) → ((m : Message) → In m (letters w.links) → NotPast k (stamp_of m))
    → (m : Num) (v : ℕ) (s : Stamp) (c : ℕ) (u : Window) → In (message.Ask m s (query.Class c u)) sim.issued
    → NotPast w.line s → Past k s → v < length q.values → class_at p v ≡ c
    → Pending p (queries_at w) (mail w.links) m v
    → (has_read m (recs v).reads ≡ true) ⊎ (hit_in (record_value (recs v) s) u ≡ None))
    (k : Line) (quiet : (x : Mail) → In x (mail w.links) → NotPast k (stamp_of x.message))
    (above : (s : Stamp) → NotPast k s → NotPast w.line s) where
  abbrev N : ℕ
  N = clps_of p

  abbrev w' : World
  w' = commit w k

  sure : (x : Mail) → In x (mail w.links) → MailOk p sim.issued x.message
  sure x i = (sim.core.mail x.message (map_in message_of (mail w.links) x i)).0

  pub lively : Lively p w.line (length q.values)
      sim.issued (letters w.links) recs (Pending p (queries_at w) (mail w.links)) (Wait p (queries_at w) (mail w.links))
  lively = record {
    asks = found;
    ends = λ n s y i np h.
        (let r = goes_low p w.line sim.tree sim.issued sim.core.unique (queries_at w) (mail w.links) sim.queries
        sure sim.tree.far n s y (home p n.agent) (AtAgent n.agent) (sim.tree.homes n.agent) (omega arith) i h in
        (r.0, r.1, subst (AtMost (stamp_of r.0)) r.2 (inr (refl, omega arith))));
  }

  pub quiet_letters : (m : Message) → In m (letters w.links) → NotPast k (stamp_of m)
  quiet_letters m i =
      (let o = in_map message_of (mail w.links) m i in subst (λ z. NotPast k (stamp_of z)) (sym o.2) (quiet o.0 o.1))

  clp_is : (d : ℕ) → (clp_at w' d ≡ clp_committed k (clp_at w d))
      ⊎ ((length w.clps ≤ d) × (clp_at w' d ≡ no_clp) × (clp_at w d ≡ no_clp))
  clp_is d = elim (cases_lt d (length w.clps)) [
    | inl lt ↦ inl (get_or-map (clp_committed k) w.clps d no_clp no_clp lt)
    | inr ge ↦ inr (
      ge,
      get_past (map (clp_committed k) w.clps)
          d no_clp (omega (arith, ge, length-map w.clps (clp_committed k))),
      get_past w.clps d no_clp ge,
    )
  ]

  in_clps : (d : ℕ) → d < N → clp_at w' d ≡ clp_committed k (clp_at w d)
  in_clps d lt = elim (clp_is d) [ inl e ↦ e | inr e ↦ absurd (let o = sim.size in let a = e.0 in omega arith) ]

  queries_are : (d : ℕ) → qs_cut p w.line
      sim.tree sim.issued sim.core.unique (queries_at w) (mail w.links) sim.queries sure k quiet d ≡ queries_at w' d
  queries_are d = elim (clp_is d) [
    | inl e ↦ sym (ap (λ (z : ClpState). z.queries) e)
    | inr e ↦ ap (λ (z : ClpState). filter (λ (r : Registered). not (is_past k r.stamp)) z.queries) e.2
        ∙ sym (ap (λ (z : ClpState). z.queries) e.1)
  ]

  queries_fun : qs_cut p
      w.line sim.tree sim.issued sim.core.unique (queries_at w) (mail w.links) sim.queries sure k quiet ≡ queries_at w'
  queries_fun = λ i d. (queries_are d) i

  abbrev pend' : Num → ℕ → Type 0
  pend' = Pending p (queries_at w') (mail w.links)

  abbrev wait' : Num → Type 0
  wait' = Wait p (queries_at w') (mail w.links)

  -- what is begun and not below the line stays so
  begun_up : (n : Num) (v : ℕ) (s : Stamp) (y : Query)
      → In (message.Ask n s y) sim.issued → NotPast k s → Pending p (queries_at w) (mail w.links) n v → pend' n v
  begun_up n v s y i np (inr h) = inr h
  begun_up n v s y i np (inl h) =
      let g = reg_of n (queries_at w (home p n.agent)) h in
      let o = sim.queries.reg (home p n.agent) g.0 (sim.tree.homes n.agent) g.1 in
      let same : g.0.stamp ≡ s = ap stamp_of (sim.core.unique _ _ o.0 i g.2) in
      let j : In g.0 (filter (λ (r : Registered). not (is_past k r.stamp)) (queries_at w (home p n.agent))) =
      filter_in (λ (r : Registered). not (is_past k r.stamp))
      (queries_at w (home p n.agent)) g.0 g.1 (ap not (past_false k g.0.stamp (subst (NotPast k) (sym same) np))) in
      inl (has_reg_in
      n (queries_at w' (home p n.agent)) g.0 (subst (λ z. In g.0 (z (home p n.agent))) queries_fun j) g.2)

  pub end : Reached p k (length q.values) (val p w.line q sim.issued w.agents recs (letters w.links)
      (Pending p (queries_at w) (mail w.links)) (Wait p (queries_at w) (mail w.links)) sim.core lively k quiet_letters
      sim.shape) (last p w.line q sim.issued w.agents recs (letters w.links) (Pending p (queries_at w) (mail w.links))
      (Wait p (queries_at w) (mail w.links)) sim.core lively k quiet_letters sim.shape) (Live p w.line q sim.issued
      w.agents recs (letters w.links) (Pending p (queries_at w) (mail w.links)) (Wait p (queries_at w) (mail w.links))
      sim.core lively k quiet_letters sim.shape) q (map (λ (a : Agent). a.steps) w.agents)
  end = reached p w.line
      q sim.issued w.agents recs (letters w.links) _ pend' _ wait' sim.core lively k quiet_letters sim.shape above
      begun_up
      (λ n s y i np h. subst (λ z. Wait p z (mail w.links) n)
      queries_fun (commit_goes p w.line sim.tree sim.issued sim.core.unique (queries_at w) (mail w.links)
      sim.queries sure k quiet n s y (home p n.agent) (AtAgent n.agent) (sim.tree.homes n.agent) i np h))

  pub commit_sim : Sim p end.end w' (λ v. trimmed k (recs v))
  unfolding end
  commit_sim = record {
    tree = sim.tree;
    shape = subst (PlanIs p) (sym end.size) sim.shape;
    issued = sim.issued;
    place = sim.place;
    core = core_commit p w.line
        q sim.issued w.agents recs (letters w.links) _ pend' _ wait' sim.core lively k quiet_letters sim.shape above
        begun_up
        (λ n s y i np h. subst (λ z. Wait p z (mail w.links) n)
        queries_fun (commit_goes p w.line sim.tree sim.issued sim.core.unique (queries_at w) (mail w.links)
        sim.queries sure k quiet n s y (home p n.agent) (AtAgent n.agent) (sim.tree.homes n.agent) i np h));
    queries = subst (λ z. QueriesOk p k sim.issued z (mail w.links)) queries_fun (queries_commit
        p w.line sim.tree sim.issued sim.core.unique (queries_at w) (mail w.links) sim.queries sure k quiet);
    places = subst (λ n. PlacesOk p n k (λ v. trimmed k (recs v)) sim.place (clp_at w')) (sym end.size) places;
    moves =
        subst (λ n. MovesOk p n k sim.place (λ v. trimmed k (recs v)) (clp_at w') (mail w.links)) (sym end.size) moves;
    fits = subst (λ n. (x : Mail) → In x (mail w.links) → Fits N n x) (sym end.size) sim.fits;
    size = length-map w.clps (clp_committed k) ∙ sim.size;
    plan = λ i lt. subst
        (λ n. PlanOk p n i) (sym end.size) (sim.plan i (omega (arith, lt, length-map w.agents (agent_committed k))));
  }
    where
      rec_is : (d v : ℕ) → d < N → rec_at (clp_at w' d).records v ≡ option_trim k (rec_at (clp_at w d).records v)
      rec_is d v lt = ap (λ (z : ClpState). rec_at z.records v) (in_clps d lt) ∙ trim_at k (clp_at w d).records v

      places : PlacesOk p (length q.values) k (λ v. trimmed k (recs v)) sim.place (clp_at w')
      places = record {
        line = λ d lt. ap (λ (z : ClpState). z.line) (in_clps d lt);
        ports_are = λ d lt. ap (λ (z : ClpState). z.routing.ports) (in_clps d lt) ∙ sim.places.ports_are d lt;
        here = λ d v lt lv e. rec_is d v lt ∙ ap (option_trim k) (sim.places.here
            d v lt lv (ap (λ (z : ClpState). get_or z.routing.ways v way.Here) (sym (in_clps d lt)) ∙ e));
        port = λ d v e lt lv h. sim.places.port
            d v e lt lv (ap (λ (z : ClpState). get_or z.routing.ways v way.Here) (sym (in_clps d lt)) ∙ h);
        at = λ d v r lt e. (let o = trim_some k (rec_at (clp_at w d).records v) r (sym (rec_is d v lt) ∙ e) in let a =
            sim.places.at d v o.0 lt o.1 in (a.0, o.2 ∙ ap (trimmed k) a.1));
        records_len = λ d lt. ap (λ (z : ClpState). length z.records) (in_clps d lt)
            ∙ (length-map (clp_at w d).records (option_trim k) ∙ sim.places.records_len d lt);
        ways_len = λ d lt. ap (λ (z : ClpState). length z.routing.ways) (in_clps d lt) ∙ sim.places.ways_len d lt;
      }

      there_is : (d v : ℕ) → stands_at (rec_at (clp_at w' d).records v) ≡ stands_at (rec_at (clp_at w d).records v)
      there_is d v = elim (clp_is d) [
        | inl e ↦ ap (λ (z : ClpState). stands_at (rec_at z.records v)) e
            ∙ (ap stands_at (trim_at k (clp_at w d).records v) ∙ same (rec_at (clp_at w d).records v))
        | inr e ↦ ap (λ (z : ClpState). stands_at (rec_at z.records v)) (e.1 ∙ sym e.2)
      ]
        where
          same : (o : Option Parts) → stands_at (option_trim k o) ≡ stands_at o
          same None = refl
          same (Some r) = refl

      -- a moving record has nothing below the new line
      moves : MovesOk p (length q.values) k sim.place (λ v. trimmed k (recs v)) (clp_at w') (mail w.links)
      moves = record {
        placed = λ v lv. (let o = sim.moves.placed v lv in (
          o.0,
          elim o.1 [
            | inl a ↦ inl (there_is (sim.place v) v ∙ a.0, a.1)
            | inr a ↦ inr (there_is (sim.place v) v ∙ a.0, a.1)
          ],
        ));
        moves = λ a f v s r i. (let o = sim.moves.moves a f v s r i in
            let late : (x : Stamp) → NotPast w.line x → NotPast k x =
            λ x np. not_past_up k s x (o.2 x np) (quiet _ i) in (
              o.0,
              o.1 ∙ sym (trim_late k (recs v) (λ x j. late x.stamp ((sim.core.rec v).puts x j).1)
                  (λ x j. late x.stamp ((sim.core.rec v).cuts x j).1)
                  (λ x j. late x.stamp ((sim.core.rec v).reads x j).4)
                  s (quiet _ i)),
              λ x np. o.2 x (above x np),
              o.3,
              o.4,
              o.5,
              o.6,
              o.7,
            ));
      }
