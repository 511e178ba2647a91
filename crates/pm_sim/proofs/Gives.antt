-- A Give at its agent: nothing, a hit kept, going on, or a rollback.
use Rattle.pm_base.specs.Stamps.{num_eq}
use Rattle.pm_saved.specs.Steps.{withdrawn}
use Rattle.pm_saved.specs.Senses.{add_kept, answer, hits_eq, kept_turn}
use Rattle.pm_saved.specs.Spots.{Spot, find}
use Rattle.pm_saved.specs.declared.kept.KeptStep.{KeptStep}
use Rattle.pm_saved.specs.declared.kept.KeptSense.{KeptSense}
use Rattle.pm_saved.specs.declared.kept.KeptHit.{KeptHit}
use Rattle.pm_alp.specs.declared.agent.Agent.{Agent}
use Rattle.std.proofs.Common.{◌≡◌, ℕ, suc, ◌<◌, ◌≤◌, inl, inr, ◌==◌, Bool, true, false, cond, List, [], ◌∷◌, ◌++◌, length, get_or, set, nat_le, nat_lt, refl, arith, ap, sym, ◌∙◌, subst, subst₂, Option, Some, None, append-nil}
use Rattle.std.proofs.lemmas.Bool.{cases_Bool, cond_both, cases_eq}
use Rattle.std.proofs.lemmas.Bool.Decides.{nat_tests}
use Rattle.pm_base.specs.declared.rows.GiveRow.{GiveRow}
use Rattle.pm_base.specs.declared.rows.Parts.{Parts}
use Rattle.pm_base.specs.declared.stamp.Line.{Line}
use Rattle.pm_base.specs.declared.stamp.Num.{Num}
use Rattle.pm_base.specs.declared.stamp.Stamp.{Stamp}
use Rattle.pm_base.specs.declared.value.Query.{Query}
use Rattle.pm_message.specs.declared.Message.{Message}
use Rattle.pm_model.specs.declared.State.{State}
use Rattle.pm_plan.specs.declared.plan.Plan.{Plan}
use Rattle.pm_alp.specs.Agents.{Sends, at_open, go_on, kept_in, no_agent, no_sends, on_give, rolled_back, with_hit}
use Rattle.pm_sim.specs.Worlds.{actor_of}
use Rattle.pm_sim.specs.Sims.{Agree, AgentOk, Core, In, KeptOk, MailOk, Names, QueryOk, SenseOk, ShapeOk, Told, class_at, held, no_turn, told, told_of, vars_of}
use Rattle.pm_sim.proofs.Arrivals.{Mailed}
use Rattle.pm_sim.proofs.Goes.{PlanOk}
use Rattle.pm_sim.proofs.Lists.{in_right}
use Rattle.pm_sim.proofs.Resumes.{in_mid, none_sent, no_cuts_open, resumed_core, kept_core}
use Rattle.pm_sim.proofs.Spots.{NotIn, Found, FindIs, find_is, sense_one, hits_same}
use Rattle.pm_sim.proofs.Stamps.{nums_same, num_eq_self}
use Rattle.pm_sim.proofs.Wakes.{survive, went_no_give, AsksUp, quiet_core}
use Rattle.pm_base.specs.declared.value.Query.TheVariants as query
use Rattle.pm_message.specs.declared.Message.TheVariants as message

-- the hits of a single read after a Give of its variable
one_kept : (v : ℕ) (b : Bool) (ks : List KeptHit) (k : KeptHit) → k.var ≡ v → ShapeOk v b ks → add_kept k ks ≡ k ∷ []
one_kept v false ks k e h = ap (add_kept k) h
one_kept v true ks k e (t, x, h) = ap (add_kept k) h ∙ (let f : nat_lt k.var v ≡ false =
    grind (arith, nat_tests) in let g : (k.var == v) ≡ true = grind (arith, nat_tests) in rw (f, g))

held_one : (v : ℕ) (k : KeptHit) → k.var ≡ v → held v (k ∷ []) ≡ record { turn = k.turn; hit = k.hit }
held_one v k e = (let g : (k.var == v) ≡ true = grind (arith, nat_tests) in rw g)

give_eq : (g h : GiveRow) → message.Give g ≡ message.Give h → g ≡ h
give_eq g h e = cc

ask_parts : (n : Num) (s t : Stamp) (x y : Query) → message.Ask n s x ≡ message.Ask n t y → (s ≡ t) × (x ≡ y)
ask_parts n s t x y e = (cc, cc)

-- the hits of a class query after a Give
pub add_kept_ok : (p : Plan) (k lo : ℕ) (h : KeptHit) (hs : List KeptHit)
    → lo ≤ h.var → h.var < vars_of p → class_at p h.var ≡ k → KeptOk p k lo hs → KeptOk p k lo (add_kept h hs)
add_kept_ok p k lo h [] le lt e o = (le, lt, e, tt)
add_kept_ok p k lo h (x ∷ xs) le lt e o =
    let again = add_kept_ok p k (suc x.var) h xs in
    cond_both (nat_lt h.var x.var) (h ∷ (x ∷ xs)) (cond (h.var == x.var) (h ∷ xs) (x ∷ add_kept h xs)) (KeptOk p k lo)
    (λ f. (le, lt, e, ((let f' = f in grind (arith, nat_tests, f')), o.1, o.2, o.3)))
    (λ f. cond_both (h.var == x.var) (h ∷ xs) (x ∷ add_kept h xs) (KeptOk p k lo)
    (λ u. (
      le,
      lt,
      e,
      subst
          (λ z. KeptOk p k (suc z) xs) (let u' = u in let v : x.var ≡ h.var = grind (arith, nat_tests, u') in v) o.3,
    ))
    (λ u. (o.0, o.1, o.2, again (let f' = f in let u' = u in grind (arith, nat_tests, f', u')) lt e o.3)))

abbrev held_of : KeptHit → Told
held_of h = record { turn = h.turn; hit = h.hit }

held_here : (h : KeptHit) (hs : List KeptHit) (v : ℕ) → h.var ≡ v → held v (h ∷ hs) ≡ held_of h
held_here h hs v e = (let f : (h.var == v) ≡ true = grind (arith, nat_tests, e) in rw f)

held_behind : (h : KeptHit) (hs : List KeptHit) (v : ℕ) → (h.var ≡ v → ⊥) → held v (h ∷ hs) ≡ held v hs
held_behind h hs v ne = (let f : (h.var == v) ≡ false = grind (arith, nat_tests, ne) in rw f)

pub add_kept_here : (h : KeptHit) (hs : List KeptHit) → held h.var (add_kept h hs) ≡ held_of h
add_kept_here h [] = held_here h [] h.var refl
add_kept_here h (x ∷ xs) =
    let again = add_kept_here h xs in
    cond_both (nat_lt h.var x.var)
    (h ∷ (x ∷ xs)) (cond (h.var == x.var) (h ∷ xs) (x ∷ add_kept h xs)) (λ z. held h.var z ≡ held_of h)
    (λ f. held_here h (x ∷ xs) h.var refl)
    (λ f. cond_both (h.var == x.var) (h ∷ xs) (x ∷ add_kept h xs) (λ z. held h.var z ≡ held_of h)
    (λ u. held_here h xs h.var refl)
    (λ u. held_behind x (add_kept h xs) h.var (let u' = u in grind (arith, nat_tests, u')) ∙ again))

pub add_kept_there : (h : KeptHit) (hs : List KeptHit) (v : ℕ) → (h.var ≡ v → ⊥) → held v (add_kept h hs) ≡ held v hs
add_kept_there h [] v ne = held_behind h [] v ne
add_kept_there h (x ∷ xs) v ne =
    let again = add_kept_there h xs v ne in
    cond_both (nat_lt h.var x.var)
    (h ∷ (x ∷ xs)) (cond (h.var == x.var) (h ∷ xs) (x ∷ add_kept h xs)) (λ z. held v z ≡ held v (x ∷ xs))
    (λ f. held_behind h (x ∷ xs) v ne)
    (λ f. cond_both (h.var == x.var) (h ∷ xs) (x ∷ add_kept h xs) (λ z. held v z ≡ held v (x ∷ xs))
    (λ u. held_behind h xs v ne ∙ sym
    (held_behind x xs v (let u' = u in let e : h.var ≡ x.var = grind (arith, nat_tests, u') in λ y. ne (e ∙ y))))
    (λ u. cond_held x xs (add_kept h xs) v again))
  where
    cond_held : (x : KeptHit) (xs ys : List KeptHit) (v : ℕ) → held v ys ≡ held v xs → held v (x ∷ ys) ≡ held v (x ∷ xs)
    cond_held x xs ys v e = elim (cases_eq x.var v) [
      | inl f ↦ held_here x ys v f ∙ sym (held_here x xs v f)
      | inr f ↦ held_behind x ys v f ∙ (e ∙ sym (held_behind x xs v f))
    ]

module _ (p : Plan)
    (l : Line) (q : State) (issued : List Message) (agents : List Agent) (recs : ℕ → Parts) (old : List Message)
    (pend pend' : Num → ℕ → Type 0) (wait wait' : Num → Type 0) (core : Core p l q issued agents recs old pend wait)
    (i : ℕ) (in' : i < length agents) (plan : PlanOk p (length q.values) i)
    (pends : (n : Num) (v : ℕ) → pend n v → pend' n v) (waits : (n : Num) → wait n → wait' n)
    (new : List Message) (g : GiveRow) (for_it : g.num.agent ≡ i) (g_in : In (message.Give g) old) where
  abbrev a : Agent
  a = get_or agents i no_agent

  abbrev n : ℕ
  n = length q.values

  ok : AgentOk p l issued old recs pend wait n i (get_or q.agents i no_turn) a
  ok = core.agent i in'

  -- a sense with another number keeps what it has
  apart : (sent : List Message) (s : Stamp) (x : KeptSense) → Mailed old new (message.Give g) sent
      → ((h : GiveRow) → In (message.Give h) sent → ⊥) → num_eq g.num x.num ≡ false
      → QueryOk p old recs pend wait n s x x.query → QueryOk p new recs pend' wait' n s x x.query
  apart sent s x mailed none ne o =
      survive p recs old new sent pend pend' wait wait' (message.Give g) n s x x.query mailed none (λ k z y e. cc)
      (λ h e f. let same : num_eq g.num x.num ≡ true =
      subst (λ z. num_eq g.num z ≡ true) (ap (λ (z : GiveRow). z.num) (give_eq g h e) ∙ f) (num_eq_self g.num) in
      cc) (pends x.num) (λ _ _ _ _ h. waits x.num h) o

  -- the Give was old: the sense has had as late a hit
  agree_old : (sent : List Message) (k : Num) (v : ℕ) (top here : Told)
      → Mailed old new (message.Give g) sent → ((h : GiveRow) → In (message.Give h) sent → ⊥)
      → g.num ≡ k → g.var ≡ v → g.turn ≤ here.turn → Agree old k v top here → Agree new k v top here
  agree_old sent k v top here mailed none en ev le o = record {
    under = o.under;
    gives = λ h j e f. elim (mailed.from (message.Give h) j) [ inl c ↦ o.gives h c e f | inr c ↦ absurd (none h c) ];
    there = elim o.there [
      | inl e ↦ inl e
      | inr e ↦ elim (mailed.kept (message.Give e.0) e.1) [
        | inr c ↦ inr (e.0, c, e.2, e.3, e.4)
        | inl c ↦ inl (let f : told_of g ≡ top = ap told_of (sym (give_eq e.0 g c)) ∙ e.4 in
            let tu : g.turn ≡ top.turn = ap (λ (z : Told). z.turn) f in
            elim o.under [ inl u ↦ absurd (omega arith) | inr u ↦ (λ j. record { turn = u.0 j; hit = u.1 j }) ])
      ]
    ];
  }

  -- the Give is later than what the sense had
  agree_new : (sent : List Message) (k : Num) (v : ℕ) (top here : Told)
      → Mailed old new (message.Give g) sent → ((h : GiveRow) → In (message.Give h) sent → ⊥)
      → g.num ≡ k → g.var ≡ v → here.turn < g.turn → Agree old k v top here → Agree new k v top (told_of g)
  agree_new sent k v top here mailed none en ev lt o =
      let up = o.gives g mailed.first en ev in
      record {
        under = up;
        gives =
            λ h j e f. elim (mailed.from (message.Give h) j) [ inl c ↦ o.gives h c e f | inr c ↦ absurd (none h c) ];
        there = elim o.there [
          | inl e ↦ absurd (let f : here.turn ≡ top.turn =
              ap (λ (z : Told). z.turn) e in elim up [ inl u ↦ omega arith | inr u ↦ (let w = u.0 in omega arith) ])
          | inr e ↦ elim (mailed.kept (message.Give e.0) e.1) [
            | inr c ↦ inr (e.0, c, e.2, e.3, e.4)
            | inl c ↦ inl (ap told_of (sym (give_eq e.0 g c)) ∙ e.4)
          ]
        ];
      }

  -- and one of another variable says nothing
  agree_else : (sent : List Message) (k : Num) (v : ℕ) (top here : Told)
      → Mailed old new (message.Give g) sent → ((h : GiveRow) → In (message.Give h) sent → ⊥)
      → (g.var ≡ v → ⊥) → Agree old k v top here → Agree new k v top here
  agree_else sent k v top here mailed none ne o = record {
    under = o.under;
    gives = λ h j e f. elim (mailed.from (message.Give h) j) [ inl c ↦ o.gives h c e f | inr c ↦ absurd (none h c) ];
    there = elim o.there [
      | inl e ↦ inl e
      | inr e ↦ elim (mailed.kept (message.Give e.0) e.1) [
        | inr c ↦ inr (e.0, c, e.2, e.3, e.4)
        | inl c ↦ absurd (ne (ap (λ (z : GiveRow). z.var) (sym (give_eq e.0 g c)) ∙ e.3))
      ]
    ];
  }

  -- nothing is kept of a Give of a number that no kept sense has
  none_core : Mailed old new (message.Give g) []
      → ((z : KeptStep) → In z a.steps → NotIn g.num z.senses) → Core p l q issued (set agents i a) recs new pend' wait'
  none_core mailed none =
      quiet_core p l q issued agents recs old pend pend' wait wait' core i in' pends new (message.Give g)
      a mailed for_it (λ k. refl) (λ k. refl) (λ k z y e. cc) refl (λ k. refl) (λ k _ h. waits k h) (record {
        base = ok.base;
        low = ok.low;
        chain = ok.chain;
        rises = ok.rises;
        senses = λ s j x k. (let c = ok.senses s j x k in
            record { issue = c.issue; query = apart [] s.stamp x mailed (λ h b. b) (none s j x k) c.query });
        wake = λ w e. elim (mailed.kept (message.Wake w.num w.stamp) (ok.wake w e)) [
          | inl f ↦ absurd (let h : message.Wake w.num w.stamp ≡ message.Give g = f in cc)
          | inr k ↦ k
        ];
      })

  module _ (spot : Spot) (f : Found g.num a.steps spot) where
    abbrev x : KeptSense
    x = spot.sense

    x_num : g.num ≡ x.num
    x_num = nums_same g.num x.num f.num

    here_in : In spot.here a.steps
    here_in = subst (In spot.here) (sym f.steps) (in_mid spot.front spot.here spot.rest)

    x_in : In x spot.here.senses
    x_in = subst (In x) (sym f.senses) (in_mid spot.before x spot.later)

    ok_x : SenseOk p issued old recs pend wait n spot.here.stamp x
    ok_x = ok.senses spot.here here_in x x_in

    names : Names p x.query g.var
    names = by_mail (core.mail (message.Give g) g_in).0
      where
        by_mail : MailOk p issued (message.Give g) → Names p x.query g.var
        by_mail o = (let e = ask_parts x.num g.stamp spot.here.stamp o.0
            x.query (core.unique _ _ (subst (λ z. In (message.Ask z g.stamp o.0) issued) x_num o.1) ok_x.issue refl) in
            subst (λ z. Names p z g.var) e.1 o.2)

    abbrev row : KeptHit
    row = record { var = g.var; turn = g.turn; hit = g.hit }

    -- the sense with the hit, complete or as it was
    abbrev with' : Bool → KeptSense
    with' b = record { num = x.num; query = x.query; complete = b; hits = add_kept row x.hits }

    abbrev Allowed : Bool → Query → Type 0
    Allowed b (query.One v) = b ≡ true
    Allowed b (query.Class k w) = b ≡ false → x.complete ≡ false

    new_query : (sent : List Message) (b : Bool) (y : Query) → x.query ≡ y → Allowed b y → Mailed
        old new (message.Give g) sent → ((h : GiveRow) → In (message.Give h) sent → ⊥) → kept_turn g.var x.hits < g.turn
        → QueryOk p old recs pend wait n spot.here.stamp x y
        → QueryOk p new recs pend' wait' n spot.here.stamp (with' b) y
    new_query sent b (query.Class k w) e eb mailed none lt o =
        let named = subst (λ z. Names p z g.var) e names in (
          add_kept_ok p k 0 row x.hits (omega arith) named.0 named.1 o.0,
          λ eb'. waits x.num (o.1 (eb eb')),
          λ v lt' ec. (let r = o.2 v lt' ec in record {
            asked = elim r.asked [ inl h ↦ inl (pends x.num v h) | inr h ↦ inr h ];
            agree = elim (cases_eq g.var v) [
              | inl ev ↦ subst (λ z. Agree new x.num v (told x.num (recs v).reads) z)
                  (sym (ap (λ z. held z (add_kept row x.hits)) (sym ev) ∙ add_kept_here row x.hits))
                  (agree_new sent x.num v (told x.num (recs v).reads)
                  (held v x.hits) mailed none x_num ev (subst (λ z. kept_turn z x.hits < g.turn) ev lt) r.agree)
              | inr ne ↦
                  subst (λ z. Agree new x.num v (told x.num (recs v).reads) z) (sym (add_kept_there row x.hits v ne))
                  (agree_else sent x.num v (told x.num (recs v).reads) (held v x.hits) mailed none ne r.agree)
            ];
          }),
        )
    new_query sent b (query.One v) e eb mailed none lt o =
        let var : g.var ≡ v = sym (subst (λ z. Names p z g.var) e names) in
        let hits : (with' b).hits ≡ row ∷ [] = one_kept v x.complete x.hits row var o.1 in
        let lt' : kept_turn v x.hits < g.turn = subst (λ z. kept_turn z x.hits < g.turn) var lt in (
          o.0,
          subst (λ c. ShapeOk v c (with' b).hits)
              (sym eb) (g.turn, g.hit, hits ∙ ap (λ z. record { var = z; turn = g.turn; hit = g.hit } ∷ []) var),
          record {
            asked = elim o.2.asked [
              | inl k ↦ elim (mailed.kept (message.Ask x.num spot.here.stamp (query.One v)) k) [
                | inl c ↦ absurd
                    (let h : message.Ask x.num spot.here.stamp (query.One v) ≡ message.Give g = c in cc)
                | inr j ↦ inl j
              ]
              | inr k ↦ inr k
            ];
            agree = subst (Agree new x.num v (told x.num (recs v).reads)) (sym (ap (held v) hits ∙ held_one v row var))
                (agree_new
                sent x.num v (told x.num (recs v).reads) (held v x.hits) mailed none x_num var lt' o.2.agree);
          },
        )

    old_query : (y : Query) → x.query ≡ y → Mailed old new (message.Give g) [] → g.turn ≤ kept_turn g.var x.hits
        → QueryOk p old recs pend wait n spot.here.stamp x y → QueryOk p new recs pend' wait' n spot.here.stamp x y
    old_query (query.Class k w) e mailed le o = (
      o.0,
      λ ex. waits x.num (o.1 ex),
      λ v lt' ec. (let r = o.2 v lt' ec in record {
        asked = elim r.asked [ inl h ↦ inl (pends x.num v h) | inr h ↦ inr h ];
        agree = elim (cases_eq g.var v) [
          | inl ev ↦ agree_old [] x.num v (told x.num (recs v).reads)
              (held v x.hits) mailed (λ h b. b) x_num ev (subst (λ z. g.turn ≤ kept_turn z x.hits) ev le) r.agree
          | inr ne ↦ agree_else [] x.num v (told x.num (recs v).reads) (held v x.hits) mailed (λ h b. b) ne r.agree
        ];
      }),
    )
    old_query (query.One v) e mailed le o =
        let var : g.var ≡ v = sym (subst (λ z. Names p z g.var) e names) in
        let le' : g.turn ≤ kept_turn v x.hits = subst (λ z. g.turn ≤ kept_turn z x.hits) var le in (
          o.0,
          o.1,
          record {
            asked = elim o.2.asked [
              | inl k ↦ elim (mailed.kept (message.Ask x.num spot.here.stamp (query.One v)) k) [
                | inl c ↦ absurd
                    (let h : message.Ask x.num spot.here.stamp (query.One v) ≡ message.Give g = c in cc)
                | inr j ↦ inl j
              ]
              | inr k ↦ inr k
            ];
            agree = agree_old
                [] x.num v (told x.num (recs v).reads) (held v x.hits) mailed (λ h b. b) x_num var le' o.2.agree;
          },
        )

    -- a Give that is no later than what is kept
    old_core : Mailed old new (message.Give g) []
        → g.turn ≤ kept_turn g.var x.hits → Core p l q issued (set agents i a) recs new pend' wait'
    old_core mailed le =
        quiet_core p l q issued agents recs old pend pend' wait wait' core i in' pends new (message.Give g)
        a mailed for_it (λ k. refl) (λ k. refl) (λ k z y e. cc) refl (λ k. refl) (λ k _ h. waits k h) (record {
          base = ok.base;
          low = ok.low;
          chain = ok.chain;
          rises = ok.rises;
          senses = λ s j y k. (let c = ok.senses s j y k in record {
            issue = c.issue;
            query = elim (cases_Bool (num_eq g.num y.num)) [
              | inr e ↦ apart [] s.stamp y mailed (λ h b. b) e c.query
              | inl e ↦ (let same : x ≡ y =
                  sense_one 0 a.steps spot.here s x y ok.rises here_in x_in j k (sym x_num ∙ nums_same g.num y.num e) in
                  let at : spot.here.stamp ≡ s.stamp =
                  (ask_parts x.num spot.here.stamp s.stamp x.query x.query (core.unique _ _ ok_x.issue (subst
                  (λ (z : KeptSense). In (message.Ask z.num s.stamp z.query) issued) (sym same) c.issue) refl)).0 in
                  subst₂ (λ (z : KeptSense) (w : Stamp). QueryOk p new recs pend' wait' n w z z.query)
                  same at (old_query x.query refl mailed le ok_x.query))
            ];
          });
          wake = λ w e. elim (mailed.kept (message.Wake w.num w.stamp) (ok.wake w e)) [
            | inl h ↦ absurd (let h' : message.Wake w.num w.stamp ≡ message.Give g = h in cc)
            | inr k ↦ k
          ];
        })

    -- a Give of a kept sense
    abbrev Goal : Sends → Type 0
    Goal r = AsksUp p l q issued agents recs old pend pend' wait wait' core i in' pends r.sent
        → Mailed old new (message.Give g) r.sent
        → (more : List Message) × Core p l q (issued ++ more) (set agents i r.agent) recs new pend' wait'

    -- where it goes on, or keeps the hit
    goes : (b : Bool) → Allowed b x.query → b ≡ true → kept_turn g.var x.hits < g.turn
        → (r : Sends) → r ≡ go_on (actor_of p i) a.base spot.front spot.here.stamp (spot.before ++ with' b ∷ []) a.seq
        → AsksUp p l q issued agents recs old pend pend' wait wait' core i in' pends r.sent
        → Mailed old new (message.Give g) (withdrawn (spot.here ∷ spot.rest) ++ r.sent)
        → Core p l q (issued ++ r.sent) (set agents i r.agent) recs new pend' wait'
    goes b al eb lt r is up mailed =
        let none =
        none_sent p i a (spot.here ∷ spot.rest) r spot.front spot.here.stamp (spot.before ++ with' b ∷ []) is in
        resumed_core p l q issued agents recs old pend pend' wait wait' core i in' plan pends new (message.Give g)
        g.num for_it (λ k. refl) (λ k. refl) (λ k z y e. cc) (λ k z e. cc) spot f (with' b) refl refl
        (new_query _ b x.query refl al mailed none lt ok_x.query)
        (λ z y j k e. apart _ z.stamp y mailed none e (ok.senses z j y k).query) (λ k _ h. waits k h) eb r is mailed up

    keeps : Allowed x.complete x.query → kept_turn g.var x.hits < g.turn
        → (x.complete ≡ true → answer (with' x.complete).hits ≡ answer x.hits) → Mailed old new (message.Give g) []
        → Core p l q issued (set agents i (kept_in a spot (with' x.complete))) recs new pend' wait'
    keeps al lt ea mailed =
        kept_core p l q issued agents recs old pend pend' wait wait' core i in' plan pends new (message.Give g)
        g.num for_it (λ k. refl) (λ k. refl) (λ k z y e. cc) (λ k z e. cc) spot f (with' x.complete) refl refl
        (new_query [] x.complete x.query refl al mailed (λ h b. b) lt ok_x.query)
        (λ z y j k e. apart [] z.stamp y mailed (λ h b. b) e (ok.senses z j y k).query)
        (λ k _ h. waits k h) mailed refl ea

    allowed_true : (y : Query) (b : Bool) → b ≡ true → Allowed b y
    allowed_true (query.One v) b e = e
    allowed_true (query.Class k w) b e = λ f. absurd (cc)

    spot_core : Goal (on_give (actor_of p i) a g (Some spot))
    spot_core = by_turn (nat_le g.turn (kept_turn g.var x.hits)) refl
      where
        X : KeptSense
        X = with' x.complete

        nothing : (b : Agent) → Core p l q issued (set agents i b) recs new pend' wait'
            → (more : List Message) × Core p l q (issued ++ more) (set agents i b) recs new pend' wait'
        nothing b c = ([], subst (λ z. Core p l q z (set agents i b) recs new pend' wait') (sym (append-nil issued)) c)

        by_query : (y : Query) → x.query ≡ y
            → x.complete ≡ false → kept_turn g.var x.hits < g.turn → Goal (at_open (actor_of p i) a spot y X)
        by_query (query.Class k w) e ec lt up m =
            nothing _ (keeps (subst (Allowed x.complete) (sym e) (λ h. h)) lt (λ h. absurd (cc)) m)
        by_query (query.One v) e ec lt up m =
            let r : Sends =
            go_on (actor_of p i) a.base spot.front spot.here.stamp (spot.before ++ with' true ∷ []) a.seq in
            let same : withdrawn (spot.here ∷ spot.rest) ++ r.sent ≡ r.sent =
            ap (λ z. z ++ r.sent)
            (no_cuts_open p l q issued agents recs old pend pend' wait wait' core i in' plan pends new (message.Give
            g) g.num for_it (λ k. refl) (λ k. refl) (λ k z y e. cc) (λ k z e. cc) spot f (with' true) refl refl
            (new_query _ true x.query refl (allowed_true x.query true refl) m (λ h j. went_no_give (actor_of p i)
            a.base spot.front spot.here.stamp (spot.before ++ with' true ∷ []) a.seq _ h j) lt ok_x.query)
            (λ z y' j k e'. apart _ z.stamp y' m (λ h j'. went_no_give (actor_of p i) a.base
            spot.front spot.here.stamp (spot.before ++ with' true ∷ []) a.seq _ h j') e' (ok.senses z j y' k).query)
            (λ k _ h. waits k h) ec) in (
              r.sent,
              goes true (allowed_true x.query true refl)
                  refl lt r refl up (subst (Mailed old new (message.Give g)) (sym same) m),
            )

        by_answer : (c : Bool) → hits_eq (answer X.hits) (answer x.hits) ≡ c → x.complete ≡ true → kept_turn
            g.var x.hits < g.turn → Goal (cond c (no_sends (kept_in a spot X)) (rolled_back (actor_of p i) a spot X))
        by_answer true e ec lt up m = nothing
            _ (keeps (allowed_true x.query x.complete ec) lt (λ _. hits_same (answer X.hits) (answer x.hits) e) m)
        by_answer false e ec lt up m =
            let r : Sends = go_on (actor_of p i) a.base spot.front spot.here.stamp (spot.before ++ X ∷ []) a.seq in (
              r.sent,
              goes x.complete (allowed_true x.query x.complete ec)
                  ec lt r refl (λ k z c w j. up k z c w (in_right (withdrawn (spot.here ∷ spot.rest)) r.sent _ j)) m,
            )

        by_complete : (c : Bool) → x.complete ≡ c → kept_turn g.var x.hits < g.turn
            → Goal (cond c (cond (hits_eq (answer X.hits) (answer x.hits)) (no_sends (kept_in a spot X))
            (rolled_back (actor_of p i) a spot X)) (at_open (actor_of p i) a spot x.query X))
        by_complete true e lt up m = by_answer (hits_eq (answer X.hits) (answer x.hits)) refl e lt up m
        by_complete false e lt up m = by_query x.query refl e lt up m

        by_turn : (c : Bool)
            → nat_le g.turn (kept_turn g.var x.hits) ≡ c → Goal (cond c (no_sends a) (with_hit (actor_of p i) a spot X))
        by_turn true e up m = nothing _ (old_core m (let h = e in grind (arith, nat_tests, h)))
        by_turn false e up m = by_complete x.complete refl (let h = e in grind (arith, nat_tests, h)) up m

  pub give_core : AsksUp p l q issued
      agents recs old pend pend' wait wait' core i in' pends (on_give (actor_of p i) a g (find g.num a.steps)).sent
      → Mailed old new (message.Give g) (on_give (actor_of p i) a g (find g.num a.steps)).sent
      → (more : List Message) × Core p l
      q (issued ++ more) (set agents i (on_give (actor_of p i) a g (find g.num a.steps)).agent) recs new pend' wait'
  give_core up mailed = by_find (find g.num a.steps) (find_is g.num a.steps) up mailed
    where
      by_find : (o : Option Spot)
          → FindIs g.num a.steps o → AsksUp p l q issued agents recs old pend pend' wait wait' core i in' pends
          (on_give (actor_of p i) a g o).sent → Mailed old new (message.Give g) (on_give (actor_of p i) a g o).sent
          → (more : List Message)
          × Core p l q (issued ++ more) (set agents i (on_give (actor_of p i) a g o).agent) recs new pend' wait'
      by_find None h up m = (
        [],
        subst (λ z. Core p l q z (set agents i a) recs new pend' wait') (sym (append-nil issued)) (none_core m h),
      )
      by_find (Some spot) h up m = spot_core spot h up m
