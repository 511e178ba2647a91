-- The core where letters are routed, and where a record watches a registered query.
use Rattle.pm_saved.specs.declared.kept.KeptSense.{KeptSense}
use Rattle.pm_alp.specs.declared.agent.Agent.{Agent}
use Rattle.std.proofs.Common.{◌≡◌, ℕ, ◌+◌, ◌<◌, ◌⊎◌, inl, inr, Bool, true, false, List, [], ◌∷◌, ◌++◌, map, length, refl, arith, ap, sym, ◌∙◌, subst, None}
use Rattle.std.proofs.lemmas.Bool.{cases_Bool, cases_eq}
use Rattle.pm_periods.proofs.Receipts.{after_watch-settled}
use Rattle.pm_periods.specs.Records.{IsSettled}
use Rattle.pm_base.specs.declared.rows.GiveRow.{GiveRow}
use Rattle.pm_base.specs.declared.rows.Parts.{Parts}
use Rattle.pm_base.specs.declared.rows.ReadRow.{ReadRow}
use Rattle.pm_base.specs.declared.stamp.Line.{Line}
use Rattle.pm_base.specs.declared.stamp.Num.{Num}
use Rattle.pm_base.specs.declared.stamp.Stamp.{Stamp}
use Rattle.pm_base.specs.declared.value.Query.{Query}
use Rattle.pm_base.specs.declared.value.Window.{Window}
use Rattle.pm_base.specs.Windows.{whole}
use Rattle.pm_message.specs.Messages.{stamp_of}
use Rattle.pm_message.specs.declared.Message.{Message}
use Rattle.pm_model.specs.declared.State.{State}
use Rattle.pm_periods.specs.Records.{IsSettled, with_read}
use Rattle.pm_plan.specs.declared.plan.Plan.{Plan}
use Rattle.pm_clp.specs.Clps.{Answered, take_watch}
use Rattle.pm_sim.specs.Sims.{Agree, Core, In, MailOk, Names, NotPast, QueryOk, Told, class_at, has_read, is_cut, is_put, one_if, tally, window_of}
use Rattle.pm_sim.proofs.Arrivals.{Mailed, core_record}
use Rattle.pm_sim.proofs.Going.{tally_append}
use Rattle.pm_sim.proofs.Letters.{Bag}
use Rattle.pm_sim.proofs.Lists.{in_left, in_right, in_cases}
use Rattle.pm_sim.proofs.Quiets.{tally_none, n}
use Rattle.pm_sim.proofs.Stamps.{num_eq_self}
use Rattle.pm_sim.proofs.Takes.{unchanged_answer, refreshed_answer}
use Rattle.pm_sim.proofs.Tellings.{given_has, add_read_told, add_read_has, add_read_in, add_read_once}
use Rattle.pm_base.specs.declared.value.Query.TheVariants as query
use Rattle.pm_message.specs.declared.Message.TheVariants as message

-- letters of which the core says little: class queries, their ends, moving records and grown bounds
abbrev pub neutral : Message → Bool
neutral (message.Wake n s) = false
neutral (message.Ask n s (query.One v)) = false
neutral (message.Ask n s (query.Class k w)) = true
neutral (message.Put r_n r_t v r_c) = false
neutral (message.Cut r_n r_t v) = false
neutral (message.Give g) = false
neutral (message.Finish n s) = true
neutral (message.Move v s r) = true
neutral (message.Grow k s u w) = true

neutral_put : (n : Num) (m : Message) → neutral m ≡ true → is_put n m ≡ false
neutral_put n (message.Wake k s) e = refl
neutral_put n (message.Ask k s q) e = refl
neutral_put n (message.Put r_n r_t v r_c) e = absurd (cc)
neutral_put n (message.Cut r_n r_t v) e = refl
neutral_put n (message.Give g) e = refl
neutral_put n (message.Finish k s) e = refl
neutral_put n (message.Move v s r) e = refl
neutral_put n (message.Grow k s u w) e = refl

neutral_cut : (n : Num) (m : Message) → neutral m ≡ true → is_cut n m ≡ false
neutral_cut n (message.Wake k s) e = refl
neutral_cut n (message.Ask k s q) e = refl
neutral_cut n (message.Put r_n r_t v r_c) e = refl
neutral_cut n (message.Cut r_n r_t v) e = absurd (cc)
neutral_cut n (message.Give g) e = refl
neutral_cut n (message.Finish k s) e = refl
neutral_cut n (message.Move v s r) e = refl
neutral_cut n (message.Grow k s u w) e = refl

-- what the pending Asks and ends become
pub record Hopes (p : Plan) (q : State) (issued : List Message)
    (recs : ℕ → Parts) (pend pend' : Num → ℕ → Type 0) (wait wait' : Num → Type 0) : Type 0 where
  pub asks : (n : Num) (s : Stamp) (k : ℕ) (w : Window) (v : ℕ) → In (message.Ask n s (query.Class k w)) issued
      → v < length q.values → class_at p v ≡ k → pend n v → pend' n v ⊎ (has_read n (recs v).reads ≡ true)
  pub ends : (n : Num) → wait n → wait' n

module _ (p : Plan) (l : Line) (q : State) (issued : List Message) (agents : List Agent)
    (recs : ℕ → Parts) (old new : List Message) (pend pend' : Num → ℕ → Type 0) (wait wait' : Num → Type 0)
    (core : Core p l q issued agents recs old pend wait) (hopes : Hopes p q issued recs pend pend' wait wait') where
  -- letters after which the core says the same
  pub record Rerouted : Type 0 where
    pub puts : (n : Num) → tally (is_put n) new ≡ tally (is_put n) old
    pub cuts : (n : Num) → tally (is_cut n) new ≡ tally (is_cut n) old
    pub gives : (g : GiveRow) → In (message.Give g) old → In (message.Give g) new
    pub given : (g : GiveRow) → In (message.Give g) new → In (message.Give g) old
    pub wakes : (n : Num) (s : Stamp) → In (message.Wake n s) old → In (message.Wake n s) new
    pub ones : (n : Num) (s : Stamp) (v : ℕ)
        → In (message.Ask n s (query.One v)) old → In (message.Ask n s (query.One v)) new
    pub mail : (m : Message) → In m new → MailOk p issued m × NotPast l (stamp_of m)

  module _ (r : Rerouted) where
    agree_same : (k : Num) (v : ℕ) (top here : Told) → Agree old k v top here → Agree new k v top here
    agree_same k v top here a = record {
      under = a.under;
      gives = λ g i en ev. a.gives g (r.given g i) en ev;
      there = elim a.there [ inl e ↦ inl e | inr e ↦ inr (e.0, r.gives e.0 e.1, e.2, e.3, e.4) ];
    }

    query_same : (s : Stamp) (x : KeptSense) (y : Query) → In (message.Ask x.num s y) issued
        → QueryOk p old recs pend wait (length q.values) s x y → QueryOk p new recs pend' wait' (length q.values) s x y
    query_same s x (query.One v) i o = (
      o.0,
      o.1,
      record {
        asked = elim o.2.asked [ inl j ↦ inl (r.ones x.num s v j) | inr e ↦ inr e ];
        agree = agree_same x.num v _ _ o.2.agree;
      },
    )
    query_same s x (query.Class k w) i o = (
      o.0,
      λ e. hopes.ends x.num (o.1 e),
      λ v lt ec. (let t = o.2 v lt ec in record {
        asked = elim t.asked [ inl h ↦ hopes.asks x.num s k w v i lt ec h | inr e ↦ inr e ];
        agree = agree_same x.num v _ _ t.agree;
      }),
    )

    pub core_routed : Core p l q issued agents recs new pend' wait'
    core_routed = record {
      same_agents = core.same_agents;
      same_plan = core.same_plan;
      same_vars = core.same_vars;
      base = core.base;
      agent = λ i lt. (let ok = core.agent i lt in record {
        base = ok.base;
        low = ok.low;
        chain = ok.chain;
        rises = ok.rises;
        senses = λ s j x k. (let c =
            ok.senses s j x k in record { issue = c.issue; query = query_same s.stamp x x.query c.issue c.query });
        wake = λ w e. r.wakes w.num w.stamp (ok.wake w e);
      });
      pairs = core.pairs;
      wide = core.wide;
      own = core.own;
      times = core.times;
      fresh = core.fresh;
      unique = core.unique;
      mail = r.mail;
      rec = core.rec;
      put_once =
          λ v x i np. (let o = core.put_once v x i np in let e = r.puts x.num in (o.0, let k = o.1 in omega arith));
      cut_once = λ v x i np. (let o = core.cut_once v x i np in let e = r.cuts x.num in omega arith);
    }

  -- only neutral letters came and went
  pub core_neutral : (gone sent : List Message) → Bag old new gone sent → ((m : Message) → In m gone → neutral m ≡ true)
      → ((m : Message) → In m sent → (neutral m ≡ true) × MailOk p issued m × NotPast l (stamp_of m))
      → Core p l q issued agents recs new pend' wait'
  core_neutral gone sent bag away came = core_routed (record {
    puts = λ n. omega (
      arith,
      bag.tallies (is_put n),
      tally_none (is_put n) gone (λ m i. neutral_put n m (away m i)),
      tally_none (is_put n) sent (λ m i. neutral_put n m (came m i).0),
    );
    cuts = λ n. omega (
      arith,
      bag.tallies (is_cut n),
      tally_none (is_cut n) gone (λ m i. neutral_cut n m (away m i)),
      tally_none (is_cut n) sent (λ m i. neutral_cut n m (came m i).0),
    );
    gives = λ g i. stays (message.Give g) refl i;
    given = λ g i.
        elim (bag.from (message.Give g) i) [ inl j ↦ j | inr j ↦ absurd (let e = (came (message.Give g) j).0 in cc) ];
    wakes = λ n s i. stays (message.Wake n s) refl i;
    ones = λ n s v i. stays (message.Ask n s (query.One v)) refl i;
    mail = λ m i. elim (bag.from m i) [ inl j ↦ core.mail m j | inr j ↦ ((came m j).1, (came m j).2) ];
  })
    where
      stays : (m : Message) → neutral m ≡ false → In m old → In m new
      stays m e i = elim (bag.kept m i) [ inl j ↦ absurd (let f = away m j in cc) | inr j ↦ j ]

  -- a letter went from one link to another
  pub core_forward : (m : Message) → Bag old new (m ∷ []) (m ∷ []) → Core p l q issued agents recs new pend' wait'
  core_forward m bag = core_routed (record {
    puts = λ n. omega (arith, bag.tallies (is_put n));
    cuts = λ n. omega (arith, bag.tallies (is_cut n));
    gives = λ g i. to (message.Give g) i;
    given = λ g i. back (message.Give g) i;
    wakes = λ n s i. to (message.Wake n s) i;
    ones = λ n s v i. to (message.Ask n s (query.One v)) i;
    mail = λ x i. core.mail x (back x i);
  })
    where
      to : (x : Message) → In x old → In x new
      to x i = elim (bag.kept x i) [ inl j ↦ bag.added x j | inr j ↦ j ]

      back : (x : Message) → In x new → In x old
      back x i = elim (bag.from x i) [ inl j ↦ j | inr j ↦ bag.first x j ]

pub hopes_same : (p : Plan) (q : State) (issued : List Message)
    (recs : ℕ → Parts) (pend : Num → ℕ → Type 0) (wait : Num → Type 0) → Hopes p q issued recs pend pend wait wait
hopes_same p q issued recs pend wait = record { asks = λ n s k w v i lt ec h. inl h; ends = λ n h. h }

-- a record watches a class query
module _ (p : Plan) (l : Line) (q : State) (issued : List Message)
    (agents : List Agent) (recs recs' : ℕ → Parts) (old : List Message) (pend : Num → ℕ → Type 0) (wait : Num → Type 0)
    (core : Core p l q issued agents recs old pend wait) (v : ℕ) (n : Num) (s : Stamp) (k : ℕ) (w : Window) (issue :
    In (message.Ask n s (query.Class k w)) issued) (low : NotPast l s) (named : Names p (query.Class k w) v)
    (here : recs' v ≡ (take_watch v n s w (recs v)).rec) (there : (u : ℕ) → (u ≡ v → ⊥) → recs' u ≡ recs u) where
  dummy : Message
  dummy = message.Grow 0 s None whole

  with_dummy : Core p l q issued agents recs (dummy ∷ old) pend wait
  unfolding dummy
  with_dummy = core_neutral p l q issued agents recs old (message.Grow 0 s None whole ∷ old)
      pend pend wait wait core (hopes_same p q issued recs pend wait) [] (message.Grow 0 s None whole ∷ []) (record {
        tallies = λ P. one (P (message.Grow 0 s None whole)) (tally P old);
        kept = λ x i. inr (inr i);
        from = λ x i. elim i [ inl e ↦ inr (inl e) | inr j ↦ inl j ];
        added = λ x i. elim i [ inl e ↦ inl e | inr j ↦ absurd j ];
        first = λ x i. absurd i;
      })
      (λ m i. absurd i)
      (λ m i. elim i [
        | inl e ↦ subst (λ z. (neutral z ≡ true) × MailOk p issued z × NotPast l (stamp_of z)) (sym e) (refl, tt, low)
        | inr j ↦ absurd j
      ])
    where
      one : (b : Bool) (t : ℕ) → one_if b t + 0 ≡ t + one_if b 0
      one true t = omega arith
      one false t = omega arith

  gives : List Message
  gives = map message.Give (take_watch v n s w (recs v)).gives

  taken : Mailed (dummy ∷ old) (gives ++ old) dummy gives
  unfolding dummy
  taken = record {
    tallies = λ P. (let t = tally_append P gives old in
        sums (P (message.Grow 0 s None whole)) (tally P old) (tally P gives) (tally P (gives ++ old)) t);
    kept = λ x i. elim i [ inl e ↦ inl e | inr j ↦ inr (in_right gives old x j) ];
    from = λ x i. elim (in_cases gives old x i) [ inl j ↦ inr j | inr j ↦ inl (inr j) ];
    added = λ x i. in_left gives old x i;
    first = inl refl;
  }
    where
      sums : (b : Bool) (o g t : ℕ) → t ≡ g + o → t + one_if b 0 ≡ one_if b o + g
      sums true o g t e = omega arith
      sums false o g t e = omega arith

  pub core_watch :
      Core p l q issued agents recs' (map message.Give (take_watch v n s w (recs v)).gives ++ old) pend wait
  unfolding gives dummy
  core_watch = elim (cases_Bool (has_read n (recs v).reads)) [
    | inl f ↦ (let is : take_watch v n s w (recs v) ≡ unchanged_answer (recs v) = rw f refl in
        let each : (u : ℕ) → recs' u ≡ recs u = λ u. elim (cases_eq u v) [
          | inl e ↦ subst (λ z. recs' z ≡ recs z) (sym e) (here ∙ ap (λ (z : Answered). z.rec) is)
          | inr ne ↦ there u ne
        ] in
        let all : recs' ≡ recs = λ j u. each u j in
        subst (λ z. Core p l q issued agents z (map message.Give (take_watch v n s w (recs v)).gives ++ old) pend wait)
        (sym all)
        (subst (λ (z : Answered). Core p l q issued agents recs (map message.Give z.gives ++ old) pend wait)
        (sym is) core))
    | inr f ↦ (let row : ReadRow = record { num = n; stamp = s; window = w; turn = 0; hit = None } in
        let r : Parts = recs v in
        let r0 : Parts = with_read row r in
        let is : take_watch v n s w r ≡ refreshed_answer v r0 = rw f refl in
        let ok = core.rec v in
        core_record p l q issued agents recs recs' (message.Grow 0 s None whole ∷ old) (map
        message.Give (take_watch v n s w r).gives ++ old) pend wait with_dummy v r0 (message.Grow 0 s None whole)
        (subst (λ (z : Answered). Mailed (message.Grow 0 s None whole ∷ old) (map message.Give (take_watch
        v n s w r).gives ++ old) (message.Grow 0 s None whole) (map message.Give z.gives)) is taken) (record {
          base = refl;
          puts = ok.puts;
          cuts = ok.cuts;
          reads = λ x i. elim (add_read_in row r.reads x i) [
            | inl e ↦ subst (λ (z : ReadRow). (y : Query) × In (message.Ask z.num z.stamp y) issued × Names p y v
                × (z.window ≡ window_of y) × NotPast l z.stamp) (sym e) (query.Class k w, issue, named, refl, low)
            | inr j ↦ ok.reads x j
          ];
          solid = subst IsSettled (ap (λ (z : Answered). z.rec) is) (after_watch-settled row r ok.solid);
          once = add_read_once row r.reads f ok.solid.reads_once;
          same_told = λ m. add_read_told row r.reads m refl refl f;
          has = λ m e. add_read_has row r.reads m ∙ (let g = e in grind (arith, g));
          put_tally = λ m. omega arith;
          cut_tally = λ m. omega arith;
          ask = λ m t u e. absurd (cc);
          no_give = λ g e. cc;
          no_wake = λ m t e. cc;
          put_var = λ u x i e. absurd (cc);
          cut_var = λ u x i e. absurd (cc);
        })
        (here ∙ ap (λ (z : Answered). z.rec) is) there)
  ]

  -- and then it has the read
  pub watched_has : has_read n (recs' v).reads ≡ true
  watched_has = elim (cases_Bool (has_read n (recs v).reads)) [
    | inl f ↦ (let is : take_watch v n s w (recs v) ≡ unchanged_answer (recs v) =
        rw f refl in subst (λ (z : Parts). has_read n z.reads ≡ true) (sym (here ∙ ap (λ (z : Answered). z.rec) is)) f)
    | inr f ↦ (let row : ReadRow = record { num = n; stamp = s; window = w; turn = 0; hit = None } in
        let r : Parts = recs v in
        let r0 : Parts = with_read row r in
        let is : take_watch v n s w r ≡ refreshed_answer v r0 = rw f refl in
        subst (λ (z : Parts). has_read n z.reads ≡ true) (sym (here ∙ ap (λ (z : Answered). z.rec) is))
        (given_has r0 n r0.reads ∙ (add_read_has row r.reads n ∙ (let h = num_eq_self n in rw h))))
  ]

  -- as has each record what it had
  pub watched_keeps : (u : ℕ) (m : Num) → has_read m (recs u).reads ≡ true → has_read m (recs' u).reads ≡ true
  watched_keeps u m e = elim (cases_eq u v) [
    | inr ne ↦ subst (λ (z : Parts). has_read m z.reads ≡ true) (sym (there u ne)) e
    | inl g ↦ subst
        (λ z. has_read m (recs' z).reads ≡ true) (sym g) (at_v (subst (λ z. has_read m (recs z).reads ≡ true) g e))
  ]
    where
      at_v : has_read m (recs v).reads ≡ true → has_read m (recs' v).reads ≡ true
      at_v e' = elim (cases_Bool (has_read n (recs v).reads)) [
        | inl f ↦ (let is : take_watch v n s w (recs v) ≡ unchanged_answer (recs v) = rw f refl in
            subst (λ (z : Parts). has_read m z.reads ≡ true) (sym (here ∙ ap (λ (z : Answered). z.rec) is)) e')
        | inr f ↦ (let row : ReadRow = record { num = n; stamp = s; window = w; turn = 0; hit = None } in
            let r : Parts = recs v in
            let r0 : Parts = with_read row r in
            let is : take_watch v n s w r ≡ refreshed_answer v r0 = rw f refl in
            subst (λ (z : Parts). has_read m z.reads ≡ true) (sym (here ∙ ap (λ (z : Answered). z.rec) is))
            (given_has r0 m r0.reads ∙ (add_read_has row r.reads m ∙ (let g = e' in grind (arith, g)))))
      ]
