-- What a CLP does of itself, after it has taken a letter: it tells, counts and catches up.
use Rattle.pm_tables.specs.Tables.{grow_at, known_at}
use Rattle.pm_clp.specs.Clps.{ClpSends, no_clp_sends, tell, tell_one, tell_from, tell_periods, tell_record, telling, ClpState, rec_at}
use Rattle.pm_ranges.specs.Known.{covers}
use Rattle.pm_base.specs.declared.stamp.Interval.{Interval}
use Rattle.pm_base.specs.declared.value.Period.{Period}
use Rattle.pm_base.specs.Windows.{point_of}
use Rattle.pm_periods.specs.Periods.{periods_from, periods_of}
use Rattle.pm_periods.specs.Records.{is_live}
use Rattle.pm_sim.proofs.Sides.{EachBegins}
use Rattle.pm_base.specs.Layouts.{class_row}
use Rattle.pm_base.specs.declared.layout.ClassRow.{ClassRow}
use Rattle.std.specs.Prelude.{Option, Some, ◌&&◌, ◌+◌, ◌≤◌, ◌⊎◌}
use Rattle.pm_sim.specs.Worlds.{hub_of, ports, Link, Mail, Posted, Process, World, home, mail, post, post_all, clps_of, no_clp}
use Rattle.pm_sim.proofs.Places.{lift, lift_then, hub_then, hub_idle, process_clp, moves_keep, clp_at, queries_at, Pending, Sim, begun_plain, HubSends, places_same}
use Rattle.pm_base.specs.declared.rows.PutRow.{PutRow}
use Rattle.std.proofs.lemmas.Bool.{cases_Bool, cond_both, and_parts, cases_eq}
use Rattle.pm_sim.proofs.Stamps.{not_past_up, true_lt}
use Rattle.pm_sim.proofs.Lists.{in_cases}
use Rattle.pm_sim.specs.Sims.{PlanIs, class_at, vars_of, Core, In, MailOk, NotPast}
use Rattle.pm_base.specs.Stamps.{stamp_lt}
use Rattle.pm_sim.proofs.Queries.{special, goes_plain, queries_plain}
use Rattle.std.proofs.Common.{◌≡◌, ℕ, zero, suc, ◌<◌, inl, inr, true, false, List, [], ◌∷◌, ◌++◌, map, length, set, refl, arith, ap, sym, ◌∙◌, subst, get_or-set_other, get_or-set_same, length-set}
use Rattle.pm_base.specs.declared.rows.Parts.{Parts}
use Rattle.pm_base.specs.declared.stamp.Line.{Line}
use Rattle.pm_base.specs.declared.stamp.Stamp.{Stamp}
use Rattle.pm_base.specs.declared.value.Window.{Window}
use Rattle.pm_message.specs.Messages.{stamp_of}
use Rattle.pm_message.specs.declared.Message.{Message}
use Rattle.pm_model.specs.declared.State.{State}
use Rattle.pm_plan.specs.declared.plan.Plan.{Plan}
use Rattle.pm_sim.specs.Worlds.Process.{AtClp, AtAgent}
use Rattle.pm_sim.specs.Routings.{Begun, Fits, FitsAt, QueriesOk, Wait, mail_to, stands_at, unmoved}
use Rattle.pm_sim.proofs.Letters.{message_of, letters, Bag, sent_mail, all_posted, in_map, bag_map}
use Rattle.pm_sim.proofs.Routed.{neutral, Hopes, core_neutral}
use Rattle.pm_message.specs.declared.Message.TheVariants as message

abbrev pub acts : World → ℕ → HubSends → World
acts w c r = record w { clps = set w.clps c r.clp; links = post_all (AtClp c) r.sent w.links }

-- ---- one action after another is the second in the world after the first

pub set_set : {X : Type 0} (xs : List X) (i : ℕ) (a b : X) → set (set xs i a) i b ≡ set xs i b
set_set [] i a b = refl
set_set (x ∷ xs) zero a b = refl
set_set (x ∷ xs) (suc i) a b = ap (λ z. x ∷ z) (set_set xs i a b)

pub post_all_append : (from : Process) (a b : List Posted) (ls : List Link)
    → post_all from (a ++ b) ls ≡ post_all from b (post_all from a ls)
post_all_append from [] b ls = refl
post_all_append from (x ∷ a) b ls = post_all_append from a b (post x.to from x.message ls)

pub acts_then : (w : World) (c : ℕ) (ls : List Link) (r : HubSends) (f : ClpState → HubSends) (w1 : World)
    → w1 ≡ record w { clps = set w.clps c r.clp; links = post_all (AtClp c) r.sent ls }
    → record w { clps = set w.clps c (hub_then r f).clp; links = post_all (AtClp c) (hub_then r f).sent ls }
    ≡ acts w1 c (f r.clp)
acts_then w c ls r f w1 e =
    let a = sym (set_set w.clps c r.clp (f r.clp).clp) in
    let b = post_all_append (AtClp c) r.sent (f r.clp).sent ls in
    (λ i. record w { clps = a i; links = b i }) ∙ ap (λ z. acts z c (f r.clp)) (sym e)

-- ---- actions that change neither records, ways nor queries, and send Grows alone

pub record Quiet (p : Plan) (c : ℕ) (l : Line) (s : ClpState) (r : HubSends) : Type 0 where
  pub line : r.clp.line ≡ s.line
  pub ways : r.clp.routing.ways ≡ s.routing.ways
  pub ports_are : r.clp.routing.ports ≡ s.routing.ports
  pub records : r.clp.records ≡ s.records
  pub queries : r.clp.queries ≡ s.queries
  pub bound : r.clp.bound ≡ s.bound
  pub grows : (x : Posted) → In x r.sent → (d : ℕ) × (k : ℕ) × (from : Stamp)
      × (until : Option Stamp) × (u : Window) × (x ≡ record { to = AtClp d; message = message.Grow k from until u })
      × In d (ports p c) × NotPast l from × (k < length p.layout.classes)

pub quiet_nothing : (p : Plan) (c : ℕ) (l : Line) (s : ClpState) → Quiet p c l s (hub_idle s)
quiet_nothing p c l s = record {
  line = refl;
  ways = refl;
  ports_are = refl;
  records = refl;
  queries = refl;
  bound = refl;
  grows = λ x i. absurd i;
}

pub quiet_then : (p : Plan) (c : ℕ) (l : Line) (s : ClpState) (r : HubSends) (f : ClpState → HubSends)
    → Quiet p c l s r → Quiet p c l r.clp (f r.clp) → Quiet p c l s (hub_then r f)
quiet_then p c l s r f a b = record {
  line = b.line ∙ a.line;
  ways = b.ways ∙ a.ways;
  ports_are = b.ports_are ∙ a.ports_are;
  records = b.records ∙ a.records;
  queries = b.queries ∙ a.queries;
  bound = b.bound ∙ a.bound;
  grows = λ x i. elim (in_cases r.sent (f r.clp).sent x i) [ inl j ↦ a.grows x j | inr j ↦ b.grows x j ];
}

module _ (p : Plan) (c : ℕ)
    (l : Line) (k : ℕ) (lk : k < length p.layout.classes) (low : (d : ℕ) → In d (ports p c) → d < clps_of p) where
  pub quiet_tell : (from : Stamp) (until : Option Stamp) (u : Window)
      → NotPast l from → (ds : List ℕ) → ((d : ℕ) → In d ds → In d (ports p c))
      → (s : ClpState) → Quiet p c l s (lift p (tell (hub_of p c) k from until u ds s))
  quiet_tell from until u np [] inp s = quiet_nothing p c l s
  quiet_tell from until u np (d ∷ ds) inp s =
      let when : Interval = record { from = Some from; until = until } in
      let one : ClpSends = record {
        clp = record s { told = grow_at (ports p c) d k when u s.told };
        sent = record { to = d; message = message.Grow k from until u } ∷ [];
      } in
      let first : ClpSends = tell_one (hub_of p c) k from until u d s in
      let q1 : Quiet p c l s (lift p first) = cond_both (covers (known_at (ports p c) d k s.told) when u)
      (no_clp_sends s) one (λ z. Quiet p c l s (lift p z)) (λ _. quiet_nothing p c l s) (λ _. record {
        line = refl;
        ways = refl;
        ports_are = refl;
        records = refl;
        queries = refl;
        bound = refl;
        grows = λ x i. elim i [
          | inl e ↦ (
            d,
            k,
            from,
            until,
            u,
            e ∙ ap (λ z. record { to = z; message = message.Grow k from until u })
                (process_clp p d (low d (inp d (inl refl)))),
            inp d (inl refl),
            np,
            lk,
          )
          | inr b ↦ absurd b
        ];
      }) in
      subst (λ z. Quiet p c l s z) (sym (lift_then p first (tell (hub_of p c) k from until u ds)))
      (quiet_then p c l s (lift p first) (λ s'. lift p (tell (hub_of p c) k from until u ds s'))
      q1 (quiet_tell from until u np ds (λ e i. inp e (inr i)) first.clp))

  pub quiet_periods : (rs : List Period)
      → EachBegins l rs → (s : ClpState) → Quiet p c l s (lift p (tell_periods (hub_of p c) k rs s))
  quiet_periods [] h s = quiet_nothing p c l s
  quiet_periods (r ∷ rs) h s =
      let first : ClpSends = tell_from (hub_of p c) k r.when.from r s in
      let q1 : Quiet p c l s (lift p first) = subst (λ z. Quiet p c l s (lift p (tell_from (hub_of p c) k z r s)))
      (sym h.0.1) (quiet_tell h.0.0 r.when.until (point_of r.value) h.0.2 (ports p c) (λ d i. i) s) in
      subst (λ z. Quiet p c l s z) (sym (lift_then p first (tell_periods (hub_of p c) k rs)))
      (quiet_then
      p c l s (lift p first) (λ s'. lift p (tell_periods (hub_of p c) k rs s')) q1 (quiet_periods rs h.1 first.clp))

pub periods_begin : (l : Line) (r : Parts) (t : Stamp) (ps : List PutRow)
    → NotPast l t → EachBegins l (periods_of r (Some t) ps)
periods_begin l r t [] np = ((t, refl, np), tt)
periods_begin l r t (p ∷ ps) np = elim (cases_Bool (is_live r.cuts p && stamp_lt t p.stamp)) [
  | inl e ↦ rw e (
    (t, refl, np),
    periods_begin l r p.stamp ps (not_past_up l
        t p.stamp
        (let k = true_lt t p.stamp (and_parts (is_live r.cuts p) (stamp_lt t p.stamp) e).1 in grind arith) np),
  )
  | inr e ↦ rw e (periods_begin l r t ps np)
]

row_past : (cs : List ClassRow) (k : ℕ) → length cs ≤ k → class_row cs k ≡ record { first = 0; count = 0 }
row_past [] k h = refl
row_past (c ∷ cs) zero h = absurd (omega arith)
row_past (c ∷ cs) (suc k) h = row_past cs k (omega arith)

-- the class of a variable is one of the classes
pub class_low : (p : Plan) (n : ℕ) → PlanIs p n → (v : ℕ) → v < n → class_at p v < length p.layout.classes
class_low p n plan v lt = elim (lt_or (class_at p v) (length p.layout.classes)) [
  | inl h ↦ h
  | inr h ↦ absurd (let lv : v < vars_of p = (let e = plan.vars in omega (arith, e, lt)) in
      let o = plan.inside (class_at p v) v lt refl in
      let e : class_row p.layout.classes (class_at p v) ≡ record { first = 0; count = 0 } =
      row_past p.layout.classes (class_at p v) h in
      let lo : v < (class_row p.layout.classes (class_at p v)).first
      + (class_row p.layout.classes (class_at p v)).count = o.1 in
      no_low v (subst (λ (z : ClassRow). v < z.first + z.count) e lo))
]
  where
    lt_or : (a b : ℕ) → (a < b) ⊎ (b ≤ a)
    lt_or a b = grind arith

    no_low : (v : ℕ) → v < 0 + 0 → ⊥
    no_low v h = omega arith

pub quiet_telling : (p : Plan) (c : ℕ) (l : Line) (v : ℕ) (t : Stamp) (r : Parts) (s : ClpState)
    → class_at p v < length p.layout.classes → ((d : ℕ) → In d (ports p c) → d < clps_of p)
    → NotPast l t → rec_at s.records v ≡ Some r → Quiet p c l s (lift p (telling (hub_of p c) v t s))
quiet_telling p c l v t r s lk low np e = subst (λ o. Quiet p c l s (lift p (tell_record (hub_of p c) v t o s)))
    (sym e) (quiet_periods p c l (class_at p v) lk low (periods_from r (Some t)) (periods_begin l r t r.puts np) s)

-- ---- what is kept where a CLP acts of itself

module _ (p : Plan) (q : State) (w : World) (recs : ℕ → Parts) (sim : Sim p q w recs) (c : ℕ) (lc : c < clps_of p) where
  abbrev N : ℕ
  N = clps_of p

  abbrev n : ℕ
  n = length q.values

  abbrev s : ClpState
  s = clp_at w c

  pub acts_bag : (r : HubSends) → Bag (mail w.links) (mail (acts w c r).links) [] (sent_mail (AtClp c) r.sent)
  acts_bag r = (let m = all_posted (AtClp c) r.sent w.links in record {
    tallies = λ P. omega (arith, m.count P);
    kept = λ x i. inr (m.into x (inr i));
    from = λ x i. elim (m.out x i) [ inl j ↦ inr j | inr j ↦ inl j ];
    added = λ x i. m.into x (inl i);
    first = λ x i. absurd i;
  })

  pub acts_here : (r : HubSends) → clp_at (acts w c r) c ≡ r.clp
  acts_here r = get_or-set_same w.clps c r.clp no_clp (let o = sim.size in omega arith)

  pub acts_there : (r : HubSends) (d : ℕ) → (d ≡ c → ⊥) → clp_at (acts w c r) d ≡ clp_at w d
  acts_there r d ne = get_or-set_other w.clps c d r.clp no_clp ne

  letters_sent : (ss : List Posted) → map message_of (sent_mail (AtClp c) ss) ≡ map (λ (x : Posted). x.message) ss
  letters_sent [] = refl
  letters_sent (x ∷ ss) = ap (λ z. x.message ∷ z) (letters_sent ss)

  -- the world after it, where queries and records stay or are given
  pub acts_build : (r : HubSends) → r.clp.line ≡ s.line
      → r.clp.routing.ways ≡ s.routing.ways → r.clp.routing.ports ≡ s.routing.ports → r.clp.records ≡ s.records
      → QueriesOk p w.line sim.issued (queries_at (acts w c r)) (mail (acts w c r).links)
      → Hopes p q sim.issued
      recs (Pending p (queries_at w) (mail w.links)) (Pending p (queries_at (acts w c r)) (mail (acts w c r).links))
      (Wait p (queries_at w) (mail w.links)) (Wait p (queries_at (acts w c r)) (mail (acts w c r).links))
      → ((x : Posted) → In x r.sent → (neutral x.message ≡ true)
      × MailOk p sim.issued x.message × NotPast w.line (stamp_of x.message) × FitsAt N n x.to (AtClp c) x.message)
      → ((x : Posted) → In x r.sent → unmoved x.message ≡ true) → Sim p q (acts w c r) recs
  acts_build r el ew ep er queries hopes each us = record {
    tree = sim.tree;
    shape = sim.shape;
    issued = sim.issued;
    place = sim.place;
    core = core_neutral p w.line q sim.issued w.agents recs (letters w.links)
        (letters (acts w c r).links) _ _ _ _ sim.core hopes [] (map (λ (x : Posted). x.message) r.sent)
        (subst (λ z. Bag (letters w.links) (letters (acts w c r).links) [] z)
        (letters_sent r.sent) (bag_map message_of (mail w.links) (mail (acts w c r).links) _ _ (acts_bag r)))
        (λ m i. absurd i)
        (λ m i. (let o = in_map (λ (x : Posted). x.message) r.sent m i in let g = each o.0 o.1 in
        subst (λ (u : Message). (neutral u ≡ true) × MailOk p sim.issued u × NotPast w.line (stamp_of u))
        (sym o.2) (g.0, g.1, g.2)));
    queries = queries;
    places =
        places_same p n w.line recs sim.place (clp_at w) (clp_at (acts w c r)) sim.places (λ d. elim (cases_eq d c) [
          | inl f ↦ subst (λ z. ((clp_at (acts w c r) z).line ≡ (clp_at w z).line)
              × ((clp_at (acts w c r) z).routing.ways ≡ (clp_at w z).routing.ways)
              × ((clp_at (acts w c r) z).routing.ports
              ≡ (clp_at w z).routing.ports) × ((clp_at (acts w c r) z).records ≡ (clp_at w z).records)) (sym f) (
                ap (λ (z : ClpState). z.line) (acts_here r) ∙ el,
                ap (λ (z : ClpState). z.routing.ways) (acts_here r)
                    ∙ ew,
                ap (λ (z : ClpState). z.routing.ports) (acts_here r)
                    ∙ ep,
                ap (λ (z : ClpState). z.records) (acts_here r) ∙ er,
              )
          | inr ne ↦ (
            ap (λ (z : ClpState). z.line) (acts_there r d ne),
            ap (λ (z : ClpState). z.routing.ways) (acts_there r d ne),
            ap
                (λ (z : ClpState). z.routing.ports) (acts_there r d ne),
            ap (λ (z : ClpState). z.records) (acts_there r d ne),
          )
        ]);
    moves = moves_keep p n w.line sim.place recs recs (clp_at w) (clp_at (acts w c r))
        (mail w.links) (mail (acts w c r).links) [] (sent_mail (AtClp c) r.sent) (acts_bag r) (λ x i. absurd i)
        (λ x i. (let o = in_map (λ (z : Posted). mail_to z.to (AtClp c) z.message) r.sent x i in
        ap (λ (z : Mail). unmoved z.message) o.2 ∙ us o.0 o.1))
        (λ d v. elim (cases_eq d c) [
          | inl f ↦ subst (λ z. stands_at (rec_at (clp_at (acts w c r) z).records v)
              ≡ stands_at (rec_at (clp_at w z).records v)) (sym f) (ap
              (λ (z : ClpState). stands_at (rec_at z.records v)) (acts_here r) ∙ ap (λ z. stands_at (rec_at z v)) er)
          | inr ne ↦ ap (λ (z : ClpState). stands_at (rec_at z.records v)) (acts_there r d ne)
        ])
        (λ v lv h. refl) sim.moves;
    fits = λ x i. elim ((acts_bag r).from x i) [
      | inl j ↦ sim.fits x j
      | inr j ↦ (let o = in_map (λ (z : Posted). mail_to z.to (AtClp c) z.message) r.sent x j in
          subst (λ z. Fits N n z) (sym o.2) (each o.0 o.1).3)
    ];
    size = length-set w.clps c r.clp ∙ sim.size;
    plan = sim.plan;
  }

  -- telling and counting
  pub quiet_act : (r : HubSends) → Quiet p c w.line s r → Sim p q (acts w c r) recs
  quiet_act r qt = acts_build r qt.line qt.ways qt.ports_are qt.records
      (subst (λ z. QueriesOk p w.line sim.issued z (mail (acts w c r).links)) queries_fun
      (queries_plain p w.line sim.tree sim.issued
      (queries_at w) (mail w.links) (mail (acts w c r).links) _ _ (acts_bag r) (λ x i. absurd i) came sim.queries))
      (record {
        asks = λ k t x u v i lt ec h. inl (subst (λ z. Begun p z (mail (acts w c r).links) k) queries_fun (begun_plain
            p (queries_at w) (mail w.links) (mail (acts w c r).links) _ _ (acts_bag r) (λ x i. absurd i) k h));
        ends = λ k h. subst (λ z. Wait p z (mail (acts w c r).links) k)
            queries_fun (goes_plain p w.line sim.tree (queries_at w) (mail w.links)
            (mail (acts w c r).links) _ _ (acts_bag r) (λ x i. absurd i) k (home p k.agent) (AtAgent k.agent) h);
      })
      (λ x i. (let g = qt.grows x i in subst (λ (z : Posted). (neutral z.message ≡ true) × MailOk p sim.issued z.message
      × NotPast w.line (stamp_of z.message) × FitsAt N n z.to (AtClp c) z.message) (sym g.5)
      (refl, tt, g.7, (sim.tree.inside c g.0 g.6, tt))))
      (λ x i. (let g = qt.grows x i in ap (λ (z : Posted). unmoved z.message) g.5))
    where
      each_same : (d : ℕ) → queries_at w d ≡ queries_at (acts w c r) d
      each_same d = elim (cases_eq d c) [
        | inl f ↦ subst (λ z. queries_at w z ≡ queries_at (acts w c r) z)
            (sym f) (sym (ap (λ (z : ClpState). z.queries) (acts_here r) ∙ qt.queries))
        | inr ne ↦ sym (ap (λ (z : ClpState). z.queries) (acts_there r d ne))
      ]

      queries_fun : queries_at w ≡ queries_at (acts w c r)
      queries_fun = λ i d. (each_same d) i

      came : (x : Mail) → In x (sent_mail (AtClp c) r.sent) → special x.message ≡ false
      came x i = (let o = in_map (λ (z : Posted). mail_to z.to (AtClp c) z.message) r.sent x i in let g =
          qt.grows o.0 o.1 in ap (λ (z : Mail). special z.message) o.2 ∙ ap (λ (z : Posted). special z.message) g.5)

  -- the same queries, and nothing special is sent
  module _ (r : HubSends)
      (same : r.clp.queries ≡ s.queries) (plain : (x : Posted) → In x r.sent → special x.message ≡ false) where
    same_queries : (d : ℕ) → queries_at w d ≡ queries_at (acts w c r) d
    same_queries d = elim (cases_eq d c) [
      | inl f ↦ subst (λ z. queries_at w z ≡ queries_at (acts w c r) z)
          (sym f) (sym (ap (λ (z : ClpState). z.queries) (acts_here r) ∙ same))
      | inr ne ↦ sym (ap (λ (z : ClpState). z.queries) (acts_there r d ne))
    ]

    fun_queries : queries_at w ≡ queries_at (acts w c r)
    fun_queries = λ i d. (same_queries d) i

    came_plain : (x : Mail) → In x (sent_mail (AtClp c) r.sent) → special x.message ≡ false
    came_plain x i = (let o = in_map (λ (z : Posted). mail_to z.to (AtClp c) z.message) r.sent x i in
        ap (λ (z : Mail). special z.message) o.2 ∙ plain o.0 o.1)

    pub act_queries : QueriesOk p w.line sim.issued (queries_at (acts w c r)) (mail (acts w c r).links)
    act_queries = subst (λ z. QueriesOk p w.line sim.issued z (mail (acts w c r).links)) fun_queries
        (queries_plain p w.line sim.tree sim.issued (queries_at w)
        (mail w.links) (mail (acts w c r).links) _ _ (acts_bag r) (λ x i. absurd i) came_plain sim.queries)

    pub act_core : ((x : Posted) → In x r.sent
        → (neutral x.message ≡ true) × MailOk p sim.issued x.message × NotPast w.line (stamp_of x.message))
        → Core p w.line q sim.issued w.agents recs (letters (acts w c r).links) (Pending p (queries_at (acts w c r))
        (mail (acts w c r).links)) (Wait p (queries_at (acts w c r)) (mail (acts w c r).links))
    act_core each = core_neutral
        p w.line q sim.issued w.agents recs (letters w.links) (letters (acts w c r).links) _ _ _ _ sim.core (record {
          asks = λ k t x u v i lt ec h. inl (subst (λ z. Begun p z (mail (acts w c r).links) k) fun_queries (begun_plain
              p (queries_at w) (mail w.links) (mail (acts w c r).links) _ _ (acts_bag r) (λ x i. absurd i) k h));
          ends = λ k h. subst (λ z. Wait p z (mail (acts w c r).links) k)
              fun_queries (goes_plain p w.line sim.tree (queries_at w) (mail w.links)
              (mail (acts w c r).links) _ _ (acts_bag r) (λ x i. absurd i) k (home p k.agent) (AtAgent k.agent) h);
        }) [] (map (λ (x : Posted). x.message) r.sent)
        (subst (λ z. Bag (letters w.links) (letters (acts w c r).links) [] z)
        (letters_sent r.sent) (bag_map message_of (mail w.links) (mail (acts w c r).links) _ _ (acts_bag r)))
        (λ m i. absurd i)
        (λ m i. (let o = in_map (λ (x : Posted). x.message) r.sent m i in let g = each o.0 o.1 in
        subst (λ (u : Message). (neutral u ≡ true) × MailOk p sim.issued u × NotPast w.line (stamp_of u))
        (sym o.2) (g.0, g.1, g.2)))
