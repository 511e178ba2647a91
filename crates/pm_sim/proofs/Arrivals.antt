-- A record takes a letter: a row is added, and the changed hits are sent.
use Rattle.pm_base.specs.Stamps.{num_eq}
use Rattle.pm_saved.specs.declared.kept.KeptSense.{KeptSense}
use Rattle.pm_alp.specs.declared.agent.Agent.{Agent}
use Rattle.std.proofs.Common.{◌≡◌, ℕ, ◌+◌, ◌⊎◌, inl, inr, Bool, true, false, List, [], ◌∷◌, map, length, refl, arith, ap, sym, ◌∙◌, subst, subst₂}
use Rattle.std.proofs.lemmas.Bool.{cases_Bool, cases_eq}
use Rattle.pm_base.specs.declared.rows.CutRow.{CutRow}
use Rattle.pm_base.specs.declared.rows.GiveRow.{GiveRow}
use Rattle.pm_base.specs.declared.rows.Parts.{Parts}
use Rattle.pm_base.specs.declared.rows.PutRow.{PutRow}
use Rattle.pm_base.specs.declared.rows.ReadRow.{ReadRow}
use Rattle.pm_base.specs.declared.stamp.Line.{Line}
use Rattle.pm_base.specs.declared.stamp.Num.{Num}
use Rattle.pm_base.specs.declared.stamp.Stamp.{Stamp}
use Rattle.pm_base.specs.declared.value.Query.{Query}
use Rattle.pm_message.specs.Messages.{stamp_of}
use Rattle.pm_message.specs.declared.Message.{Message}
use Rattle.pm_model.specs.declared.AgentState.{AgentState}
use Rattle.pm_model.specs.declared.State.{State}
use Rattle.pm_periods.specs.Records.{IsSettled, record_hit, refreshed}
use Rattle.pm_plan.specs.declared.plan.Plan.{Plan}
use Rattle.pm_sim.specs.Sims.{Agree, AgentOk, Core, In, MailOk, Names, NoTwice, NotPast, QueryOk, ReadOk, RecOk, Told, Under, cut_msg, changed_gives, has_read, held, is_cut, is_put, one_if, put_msg, tally, told, told_of, window_of}
use Rattle.pm_sim.proofs.Tellings.{given_num, given_stamp, given_window, given_in, given_has, Later, told_later, changed_in, under_trans, later_under, same_under}
use Rattle.pm_base.specs.declared.value.Query.TheVariants as query
use Rattle.pm_message.specs.declared.Message.TheVariants as message

-- one letter m left, and these were sent
pub record Mailed (old new : List Message) (m : Message) (sent : List Message) : Type 0 where
  pub tallies : (P : Message → Bool) → tally P new + one_if (P m) 0 ≡ tally P old + tally P sent
  pub kept : (x : Message) → In x old → (x ≡ m) ⊎ In x new
  pub from : (x : Message) → In x new → In x old ⊎ In x sent
  pub added : (x : Message) → In x sent → In x new
  pub first : In m old

gives_in : (gs : List GiveRow) (m : Message)
    → In m (map message.Give gs) → (g : GiveRow) × In g gs × (m ≡ message.Give g)
gives_in [] m i = absurd i
gives_in (g ∷ gs) m (inl e) = (g, inl refl, e)
gives_in (g ∷ gs) m (inr i) = (let r = gives_in gs m i in (r.0, inr r.1, r.2))

in_gives : (gs : List GiveRow) (g : GiveRow) → In g gs → In (message.Give g) (map message.Give gs)
in_gives [] g i = absurd i
in_gives (x ∷ gs) g (inl e) = inl (ap message.Give e)
in_gives (x ∷ gs) g (inr i) = inr (in_gives gs g i)

no_puts : (n : Num) (gs : List GiveRow) → tally (is_put n) (map message.Give gs) ≡ 0
no_puts n [] = refl
no_puts n (g ∷ gs) = no_puts n gs

no_cuts : (n : Num) (gs : List GiveRow) → tally (is_cut n) (map message.Give gs) ≡ 0
no_cuts n [] = refl
no_cuts n (g ∷ gs) = no_cuts n gs

give_same : (g h : GiveRow) → message.Give g ≡ message.Give h → g ≡ h
give_same g h e = cc

-- r0 is a record with its new row, and r as it was before; letters as they change
module _ (v : ℕ) (r r0 : Parts)
    (old new : List Message) (m : Message) (mailed : Mailed old new m (map message.Give (changed_gives v r0 r0.reads)))
    (no_give : (g : GiveRow) → m ≡ message.Give g → ⊥)
    (once : NoTwice r0.reads) (same_told : (n : Num) → told n r0.reads ≡ told n r.reads) where
  -- what a sense has of this record agrees as before
  agree_here : (n : Num) (here : Told)
      → Agree old n v (told n r.reads) here → Agree new n v (told n (refreshed r0).reads) here
  agree_here n here a =
      let step : Later v r0 r0.reads n (told n r.reads) (told n (refreshed r0).reads) = subst
      (λ z. Later v r0 r0.reads n z (told n (refreshed r0).reads)) (same_told n) (told_later v r0 r0.reads n) in
      let up : Under (told n r.reads) (told n (refreshed r0).reads) = later_under v r0 r0.reads n _ _ step in
      record {
        under = under_trans here (told n r.reads) (told n (refreshed r0).reads) a.under up;
        gives = λ g i en ev. elim (mailed.from (message.Give g) i) [
          | inl j ↦ under_trans (told_of g) (told n r.reads) (told n (refreshed r0).reads) (a.gives g j en ev) up
          | inr j ↦ (let k = gives_in (changed_gives v r0 r0.reads) (message.Give g) j in
              let e : g ≡ k.0 = give_same g k.0 k.2 in
              let c = changed_in v r0 r0.reads k.0 once k.1 in
              same_under (told_of g) (told n (refreshed r0).reads) (ap told_of e
              ∙ (c.5 ∙ ap (λ z. told z (refreshed r0).reads) (sym (ap (λ (z : GiveRow). z.num) e) ∙ en))))
        ];
        there = elim step [
          | inl e ↦ elim a.there [
            | inl f ↦ inl (f ∙ sym e)
            | inr f ↦ inr (
              f.0,
              elim (mailed.kept (message.Give f.0) f.1) [
                | inl x ↦ absurd (no_give f.0 (sym x))
                | inr x ↦ x
              ],
              f.2,
              f.3,
              f.4 ∙ sym e,
            )
          ]
          | inr f ↦
              inr (f.1, mailed.added (message.Give f.1) (in_gives (changed_gives v r0 r0.reads) f.1 f.2), f.3, f.4, f.5)
        ];
      }

  -- and so does what it has of another record
  agree_there : (n : Num) (u : ℕ) (top here : Told) → (u ≡ v → ⊥) → Agree old n u top here → Agree new n u top here
  agree_there n u top here ne a = record {
    under = a.under;
    gives = λ g i en ev. elim (mailed.from (message.Give g) i) [
      | inl j ↦ a.gives g j en ev
      | inr j ↦ absurd (let k = gives_in (changed_gives v r0 r0.reads) (message.Give g) j in
          let c = changed_in v r0 r0.reads k.0 once k.1 in
          ne (sym ev ∙ (ap (λ (z : GiveRow). z.var) (give_same g k.0 k.2) ∙ c.4)))
    ];
    there = elim a.there [
      | inl f ↦ inl f
      | inr f ↦ inr (
        f.0,
        elim (mailed.kept (message.Give f.0) f.1) [ inl x ↦ absurd (no_give f.0 (sym x)) | inr x ↦ x ],
        f.2,
        f.3,
        f.4,
      )
    ];
  }

-- a record with a new row, before its reads are given their hits
pub record NewRow (p : Plan) (issued : List Message) (l : Line) (v : ℕ) (m : Message) (r r0 : Parts) : Type 0 where
  pub base : r0.base ≡ r.base
  pub puts : (x : PutRow) → In x r0.puts → In (put_msg v x) issued × NotPast l x.stamp
  pub cuts : (c : CutRow) → In c r0.cuts → MailOk p issued (cut_msg v c) × NotPast l c.stamp
  pub reads : (x : ReadRow) → In x r0.reads → (k : Query)
      × In (message.Ask x.num x.stamp k) issued × Names p k v × (x.window ≡ window_of k) × NotPast l x.stamp
  pub solid : IsSettled (refreshed r0)
  pub once : NoTwice r0.reads
  pub same_told : (n : Num) → told n r0.reads ≡ told n r.reads
  pub has : (n : Num) → has_read n r.reads ≡ true → has_read n r0.reads ≡ true
  pub put_tally : (n : Num) → tally (λ (k : PutRow). num_eq n k.num) r0.puts
      ≡ tally (λ (k : PutRow). num_eq n k.num) r.puts + one_if (is_put n m) 0
  pub cut_tally : (n : Num) → tally (λ (k : CutRow). num_eq n k.num) r0.cuts
      ≡ tally (λ (k : CutRow). num_eq n k.num) r.cuts + one_if (is_cut n m) 0
  pub ask : (n : Num) (s : Stamp) (u : ℕ) → m ≡ message.Ask n s (query.One u) → (u ≡ v) × (has_read n r0.reads ≡ true)
  pub no_give : (g : GiveRow) → m ≡ message.Give g → ⊥
  pub no_wake : (n : Num) (s : Stamp) → m ≡ message.Wake n s → ⊥
  pub put_var : (u : ℕ) (x : PutRow) → In (put_msg u x) issued → is_put x.num m ≡ true → u ≡ v
  pub cut_var : (u : ℕ) (x : PutRow) → In (put_msg u x) issued → is_cut x.num m ≡ true → u ≡ v

rec_fresh : (p : Plan) (issued : List Message) (l : Line) (v : ℕ) (m : Message) (r r0 : Parts)
    → NewRow p issued l v m r r0 → RecOk p issued l v (refreshed r0)
rec_fresh p issued l v m r r0 new = record {
  puts = new.puts;
  cuts = new.cuts;
  solid = new.solid;
  reads = λ q i. (let o = given_in r0 r0.reads q i in let k = new.reads o.0 o.1 in
      let en : q.num ≡ o.0.num = ap (λ (z : ReadRow). z.num) o.2 ∙ given_num o.0 (record_hit r0 o.0) in
      let es : q.stamp ≡ o.0.stamp = ap (λ (z : ReadRow). z.stamp) o.2 ∙ given_stamp o.0 (record_hit r0 o.0) in (
        k.0,
        subst₂ (λ a b. In (message.Ask a b k.0) issued) (sym en) (sym es) k.1,
        k.2,
        ap (λ (z : ReadRow). z.window)
            o.2 ∙ (given_window o.0 (record_hit r0 o.0) ∙ k.3),
        subst (NotPast l) (sym es) k.4,
      ));
}

-- all stays true where a record takes its letter
module _ (p : Plan) (l : Line)
    (q : State) (issued : List Message) (agents : List Agent) (recs recs' : ℕ → Parts) (old new : List Message)
    (pend : Num → ℕ → Type 0) (wait : Num → Type 0) (core : Core p l q issued agents recs old pend wait)
    (v : ℕ) (r0 : Parts) (m : Message) (mailed : Mailed old new m (map message.Give (changed_gives v r0 r0.reads)))
    (row : NewRow p issued l v m (recs v) r0)
    (here : recs' v ≡ refreshed r0) (there : (u : ℕ) → (u ≡ v → ⊥) → recs' u ≡ recs u) where
  kept_letter : (x : Message) → (x ≡ m → ⊥) → In x old → In x new
  kept_letter x ne i = elim (mailed.kept x i) [ inl e ↦ absurd (ne e) | inr j ↦ j ]

  has_here : (n : Num) → has_read n r0.reads ≡ true → has_read n (recs' v).reads ≡ true
  has_here n e = subst (λ (z : Parts). has_read n z.reads ≡ true) (sym here) (given_has r0 n r0.reads ∙ e)

  has_kept : (u : ℕ) (n : Num) → has_read n (recs u).reads ≡ true → has_read n (recs' u).reads ≡ true
  has_kept u n e = elim (cases_eq u v) [
    | inl f ↦ subst (λ k. has_read n (recs' k).reads ≡ true)
        (sym f) (has_here n (row.has n (subst (λ k. has_read n (recs k).reads ≡ true) f e)))
    | inr ne ↦ subst (λ (z : Parts). has_read n z.reads ≡ true) (sym (there u ne)) e
  ]

  agree_kept : (n : Num) (u : ℕ) (h : Told)
      → Agree old n u (told n (recs u).reads) h → Agree new n u (told n (recs' u).reads) h
  agree_kept n u h o = elim (cases_eq u v) [
    | inl e ↦ subst (λ k. Agree old n k (told n (recs k).reads) h → Agree new n k (told n (recs' k).reads) h) (sym e)
        (λ o'. subst (λ (z : Parts). Agree new n v (told n z.reads) h)
        (sym here) (agree_here v (recs v) r0 old new m mailed row.no_give row.once row.same_told n h o')) o
    | inr ne ↦ (let same : recs u ≡ recs' u = sym (there u ne) in
        agree_there v (recs v) r0 old new m mailed row.no_give row.once row.same_told n u (told n (recs' u).reads) h ne
        (subst (λ (z : Parts). Agree old n u (told n z.reads) h) same o))
  ]

  read_kept : (x : KeptSense) (u : ℕ) (before now : Type 0)
      → (before → now ⊎ (has_read x.num (recs' u).reads ≡ true)) → ReadOk old recs before x u → ReadOk new recs' now x u
  read_kept x u before now up o = record {
    asked = elim o.asked [ inl i ↦ up i | inr f ↦ inr (has_kept u x.num f) ];
    agree = agree_kept x.num u (held u x.hits) o.agree;
  }

  query_kept : (n : ℕ) (s : Stamp) (x : KeptSense) (y : Query)
      → QueryOk p old recs pend wait n s x y → QueryOk p new recs' pend wait n s x y
  query_kept n s x (query.One u) o = (
    o.0,
    o.1,
    read_kept x u _ _ (λ i. elim (mailed.kept (message.Ask x.num s (query.One u)) i) [
      | inl e ↦ (let a = row.ask x.num s u (sym e) in
          inr (subst (λ k. has_read x.num (recs' k).reads ≡ true) (sym a.0) (has_here x.num a.1)))
      | inr j ↦ inl j
    ]) o.2,
  )
  query_kept n s x (query.Class k w) o = (o.0, o.1, λ u lt ec. read_kept x u _ _ (λ i. inl i) (o.2 u lt ec))

  agent_kept : (n i : ℕ) (t : AgentState) (a : Agent)
      → AgentOk p l issued old recs pend wait n i t a → AgentOk p l issued new recs' pend wait n i t a
  agent_kept n i t a o = record {
    base = o.base;
    low = o.low;
    chain = o.chain;
    rises = o.rises;
    senses = λ s j x k.
        (let e = o.senses s j x k in record { issue = e.issue; query = query_kept n s.stamp x x.query e.query });
    wake = λ w e. kept_letter (message.Wake w.num w.stamp) (λ f. row.no_wake w.num w.stamp (sym f)) (o.wake w e);
  }

  recs_kept : (u : ℕ) → RecOk p issued l u (recs' u)
  recs_kept u = elim (cases_eq u v) [
    | inl e ↦ subst (λ k. RecOk p issued l k (recs' k))
        (sym e) (subst (RecOk p issued l v) (sym here) (rec_fresh p issued l v m (recs v) r0 row))
    | inr ne ↦ subst (RecOk p issued l u) (sym (there u ne)) (core.rec u)
  ]

  pub core_record : Core p l q issued agents recs' new pend wait
  core_record = record {
    same_agents = core.same_agents;
    same_plan = core.same_plan;
    same_vars = core.same_vars;
    pairs = core.pairs;
    wide = core.wide;
    own = core.own;
    times = core.times;
    fresh = core.fresh;
    unique = core.unique;
    base = λ u lt. elim (cases_eq u v) [
      | inl e ↦ core.base u lt ∙ (ap (λ k. (recs k).base) e
          ∙ (sym row.base ∙ (ap (λ (z : Parts). z.base) (sym here) ∙ ap (λ k. (recs' k).base) (sym e))))
      | inr ne ↦ core.base u lt ∙ ap (λ (z : Parts). z.base) (sym (there u ne))
    ];
    agent = λ i lt. agent_kept (length q.values) i _ _ (core.agent i lt);
    mail = λ x i. elim (mailed.from x i) [
      | inl j ↦ core.mail x j
      | inr j ↦ (let k = gives_in (changed_gives v r0 r0.reads) x j in
          let c = changed_in v r0 r0.reads k.0 row.once k.1 in
          let o = row.reads c.0 c.1 in
          subst (λ z. MailOk p issued z × NotPast l (stamp_of z)) (sym k.2) (
            (
              o.0,
              subst₂ (λ a b. In (message.Ask a b o.0) issued) (sym c.2) (sym c.3) o.1,
              subst (Names p o.0) (sym c.4) o.2,
            ),
            subst (NotPast l) (sym c.3) o.4,
          ))
    ];
    rec = recs_kept;
    put_once = λ u x i low.
        let o = core.put_once u x i low in
        let t = mailed.tallies (is_put x.num) in
        let z = no_puts x.num (changed_gives v r0 r0.reads) in (
          o.0,
          elim (cases_eq u v) [
            | inl e ↦ (let a : tally (λ (k : PutRow). num_eq x.num k.num) (recs' u).puts
                ≡ tally (λ (k : PutRow). num_eq x.num k.num) (recs u).puts + one_if (is_put x.num m) 0 =
                ap (λ k. tally (λ (k' : PutRow). num_eq x.num k'.num) (recs' k).puts) e
                ∙ (ap (λ (w : Parts). tally (λ (k' : PutRow). num_eq x.num k'.num) w.puts) here
                ∙ (row.put_tally x.num ∙ ap (λ k.
                tally (λ (k' : PutRow). num_eq x.num k'.num) (recs k).puts + one_if (is_put x.num m) 0) (sym e))) in
                let b = o.1 in omega arith)
            | inr ne ↦ (let a : tally (λ (k : PutRow). num_eq x.num k.num) (recs' u).puts
                ≡ tally (λ (k : PutRow). num_eq x.num k.num) (recs u).puts =
                ap (λ (w : Parts). tally (λ (k' : PutRow). num_eq x.num k'.num) w.puts) (there u ne) in
                let f : is_put x.num m ≡ false =
                elim (cases_Bool (is_put x.num m)) [ inl g ↦ absurd (ne (row.put_var u x i g)) | inr g ↦ g ] in
                let c : one_if (is_put x.num m) 0 ≡ 0 = ap (λ y. one_if y 0) f in
                let b = o.1 in omega arith)
          ],
        );
    cut_once = λ u x i low.
        let o = core.cut_once u x i low in
        let t = mailed.tallies (is_cut x.num) in
        let z = no_cuts x.num (changed_gives v r0 r0.reads) in
        elim (cases_eq u v) [
          | inl e ↦ (let a : tally (λ (k : CutRow). num_eq x.num k.num) (recs' u).cuts
              ≡ tally (λ (k : CutRow). num_eq x.num k.num) (recs u).cuts + one_if (is_cut x.num m) 0 =
              ap (λ k. tally (λ (k' : CutRow). num_eq x.num k'.num) (recs' k).cuts) e
              ∙ (ap (λ (w : Parts). tally (λ (k' : CutRow). num_eq x.num k'.num) w.cuts) here
              ∙ (row.cut_tally x.num ∙ ap (λ k.
              tally (λ (k' : CutRow). num_eq x.num k'.num) (recs k).cuts + one_if (is_cut x.num m) 0) (sym e))) in
              omega arith)
          | inr ne ↦ (let a : tally (λ (k : CutRow). num_eq x.num k.num) (recs' u).cuts
              ≡ tally (λ (k : CutRow). num_eq x.num k.num) (recs u).cuts =
              ap (λ (w : Parts). tally (λ (k' : CutRow). num_eq x.num k'.num) w.cuts) (there u ne) in
              let f : is_cut x.num m ≡ false =
              elim (cases_Bool (is_cut x.num m)) [ inl g ↦ absurd (ne (row.cut_var u x i g)) | inr g ↦ g ] in
              let c : one_if (is_cut x.num m) 0 ≡ 0 = ap (λ y. one_if y 0) f in
              omega arith)
        ];
  }
