-- The Finish of a class query at a CLP, a Commit, and why a query that waits has a letter on its way.
use Rattle.pm_queries.specs.Queries.{has_reg, ask_of, finish_if, finish_one, finish_in, without, has}
use Rattle.pm_queries.specs.declared.registered.Registered.{Registered}
use Rattle.pm_queries.specs.declared.registered.Sent.{Sent}
use Rattle.pm_base.specs.Stamps.{num_eq}
use Rattle.std.proofs.Common.{◌≡◌, ℕ, zero, suc, ◌+◌, ◌<◌, ◌≤◌, ◌⊎◌, inl, inr, ◌==◌, Bool, true, false, not, ◌&&◌, ◌||◌, List, [], ◌∷◌, filter, refl, arith, ap, sym, ◌∙◌, subst, subst₂}
use Rattle.std.proofs.lemmas.Bool.{cases_Bool, cond_both, cases_eq, or_parts}
use Rattle.std.proofs.lemmas.Bool.Decides.{nat_tests}
use Rattle.pm_base.specs.declared.stamp.Line.{Line}
use Rattle.pm_base.specs.declared.stamp.Num.{Num}
use Rattle.pm_base.specs.declared.stamp.Stamp.{Stamp}
use Rattle.pm_base.specs.declared.value.Query.{Query}
use Rattle.pm_base.specs.declared.value.Window.{Window}
use Rattle.pm_message.specs.Messages.{stamp_of}
use Rattle.pm_message.specs.declared.Message.{Message}
use Rattle.pm_plan.specs.Plans.{parents}
use Rattle.pm_plan.specs.Trees.{hop}
use Rattle.pm_plan.specs.declared.plan.Plan.{Plan}
use Rattle.pm_sim.specs.Worlds.{Mail, Process, home, clps_of, ports, process}
use Rattle.pm_sim.specs.Worlds.Process.{AtClp, AtAgent}
use Rattle.pm_sim.specs.Sims.{In, MailOk, NotPast, is_past, num_of, one_if, tally}
use Rattle.pm_sim.specs.Routings.{Goes, NoTwiceReg, QueriesOk, TreeOk, Up, ask_to, mail_to, toward}
use Rattle.pm_sim.proofs.Letters.{message_of, letters_of, Bag, map_in}
use Rattle.pm_sim.proofs.Queries.{has_reg_in, clp_parts}
use Rattle.pm_sim.proofs.Quiets.{tally_none, n}
use Rattle.pm_sim.proofs.Stamps.{nums_same, num_eq_self, past_tells, past_false}
use Rattle.pm_sim.proofs.Trims.{in_filter, filter_in}
use Rattle.pm_base.specs.declared.value.Query.TheVariants as query
use Rattle.pm_message.specs.declared.Message.TheVariants as message

-- one registered query r has become r'
pub record OneEnd (n : Num) (rs rs' : List Registered) (r r' : Registered) : Type 0 where
  pub there : (u : Registered) → In u rs → (u ≡ r) ⊎ In u rs'
  pub back : (u : Registered) → In u rs' → (u ≡ r') ⊎ (In u rs × (u.num ≡ n → ⊥))
  pub old : In r rs
  pub now : In r' rs'
  pub same_has : (m : Num) → has_reg m rs' ≡ has_reg m rs
  pub alone : NoTwiceReg rs'

module _ (b : Bool) (p : Plan) (c : ℕ) where
  abbrev pub shorter : ℕ → Registered → Registered
  shorter d r = record r { waits = without d r.waits }

  abbrev pub FinishIs : Num → ℕ → List Registered → List Registered → List Sent → Type 0
  FinishIs n d rs rs' sent =
      ((rs' ≡ rs) × (sent ≡ []) × ((u : Registered) → In u rs → u.num ≡ n → has d u.waits ≡ false))
      ⊎ ((r : Registered) × (r.num ≡ n) × OneEnd n rs rs' r (shorter d r) × (sent ≡ finish_if (without d r.waits) r))

  num_not : (n m : Num) → num_eq n m ≡ false → m ≡ n → ⊥
  num_not n m e f = (let g : num_eq n m ≡ true = ap (num_eq n) f ∙ num_eq_self n in cc)

  none_else : (n : Num) (r : Registered) (rs : List Registered) (u : Registered)
      → r.num ≡ n → has_reg r.num rs ≡ false → In u rs → u.num ≡ n → ⊥
  none_else n r rs u e f i g = (let h = has_reg_in r.num rs u i (g ∙ sym e) in cc)

  at_head : (n : Num) (d : ℕ) (r : Registered) (rs : List Registered) (x : Bool) → NoTwiceReg (r ∷ rs)
      → r.num ≡ n → has d r.waits ≡ x → FinishIs n d (r ∷ rs) (finish_one d r rs x).queries (finish_one d r rs x).sent
  at_head n d r rs false a e h = inl (
    refl,
    refl,
    λ u i g.
        elim i [ inl f ↦ ap (λ (z : Registered). has d z.waits) f ∙ h | inr j ↦ absurd (none_else n r rs u e a.0 j g) ],
  )
  at_head n d r rs true a e h = inr (
    r,
    e,
    record {
      there = λ u i. elim i [ inl f ↦ inl f | inr j ↦ inr (inr j) ];
      back = λ u i. elim i [ inl f ↦ inl f | inr j ↦ inr (inr j, none_else n r rs u e a.0 j) ];
      old = inl refl;
      now = inl refl;
      same_has = λ m. refl;
      alone = a;
    },
    refl,
  )

  in_front_of : (n : Num) (d : ℕ) (r : Registered) (rs rs' : List Registered) (sent : List Sent)
      → NoTwiceReg (r ∷ rs) → num_eq n r.num ≡ false → FinishIs n d rs rs' sent → FinishIs n d (r ∷ rs) (r ∷ rs') sent
  in_front_of n d r rs rs' sent a e (inl (x, y, z)) = inl (
    ap (λ q. r ∷ q) x,
    y,
    λ u i g.
        elim i [ inl f ↦ absurd (num_not n r.num e (ap (λ (q : Registered). q.num) (sym f) ∙ g)) | inr j ↦ z u j g ],
  )
  in_front_of n d r rs rs' sent a e (inr (r0, en, o, es)) = inr (
    r0,
    en,
    record {
      there =
          λ u i. elim i [ inl f ↦ inr (inl f) | inr j ↦ elim (o.there u j) [ inl g ↦ inl g | inr k ↦ inr (inr k) ] ];
      back = λ u i. elim i [
        | inl f ↦ inr (inl f, λ g. num_not n r.num e (ap (λ (q : Registered). q.num) (sym f) ∙ g))
        | inr j ↦ elim (o.back u j) [ inl g ↦ inl g | inr k ↦ inr (inr k.0, k.1) ]
      ];
      old = inr o.old;
      now = inr o.now;
      same_has = λ m. ap (λ z. num_eq m r.num || z) (o.same_has m);
      alone = (o.same_has r.num ∙ a.0, o.alone);
    },
    es,
  )

  pub finish_is : (n : Num) (d : ℕ) (rs : List Registered)
      → NoTwiceReg rs → FinishIs n d rs (finish_in n d rs).queries (finish_in n d rs).sent
  finish_is n d [] a = inl (refl, refl, λ u i. absurd i)
  finish_is n d (r ∷ rs) a = elim (cases_Bool (num_eq n r.num)) [
    | inl e ↦ rw e (at_head n d r rs (has d r.waits) a (sym (nums_same n r.num e)) refl)
    | inr e ↦ rw e (in_front_of n d r rs (finish_in n d rs).queries (finish_in n d rs).sent a e (finish_is n d rs a.1))
  ]

has_in : (d : ℕ) (xs : List ℕ) → In d xs → has d xs ≡ true
has_in d [] i = absurd i
has_in d (x ∷ xs) (inl e) = (let g : (d == x) ≡ true = grind (arith, nat_tests, e) in rw g)
has_in d (x ∷ xs) (inr i) = (let g = has_in d xs i in cond_right (d == x) (has d xs) g)
  where
    cond_right : (a b : Bool) → b ≡ true → (a || b) ≡ true
    cond_right true b e = refl
    cond_right false b e = e

module _ (p : Plan) (l : Line) (tree : TreeOk p) (issued : List Message) where
  abbrev N : ℕ
  N = clps_of p

  -- a Finish at CLP c from d0
  module _ (qs qs' : ℕ → List Registered) (old new : List Mail)
      (ok : QueriesOk p l issued qs old) (c d0 : ℕ) (lc : c < N) (n : Num) (s : Stamp) (sent : List Mail)
      (bag : Bag old new (mail_to (AtClp c) (AtClp d0) (message.Finish n s) ∷ []) sent)
      (there : (d : ℕ) → (d ≡ c → ⊥) → qs' d ≡ qs d) where
    kept_but : (x : Mail) → (x ≡ mail_to (AtClp c) (AtClp d0) (message.Finish n s) → ⊥) → In x old → In x new
    kept_but x ne i = elim (bag.kept x i) [ inr j ↦ j | inl j ↦ absurd (elim j [ inl e ↦ ne e | inr z ↦ z ]) ]

    finish_parts : (g : Process) (e : ℕ) (m : Num) (t : Stamp) → mail_to g (AtClp e) (message.Finish m t)
        ≡ mail_to (AtClp c) (AtClp d0) (message.Finish n s) → (g ≡ AtClp c) × (e ≡ d0) × (m ≡ n)
    finish_parts g e m t q = (
      ap (λ (z : Mail). z.to) q,
      clp_parts e d0 (ap (λ (z : Mail). z.from) q),
      same_num m n t s (ap (λ (z : Mail). z.message) q),
    )
      where
        same_num : (m n : Num) (t s : Stamp) → message.Finish m t ≡ message.Finish n s → m ≡ n
        same_num m n t s q = cc

    -- nothing waited for it
    module _ (here : qs' c ≡ qs c)
        (nothing : sent ≡ []) (no_wait : (u : Registered) → In u (qs c) → u.num ≡ n → has d0 u.waits ≡ false) where
      same_all : (d : ℕ) → qs' d ≡ qs d
      same_all d = elim (cases_eq d c) [ inl e ↦ subst (λ z. qs' z ≡ qs z) (sym e) here | inr ne ↦ there d ne ]

      idle_goes : (m : Num) (e : ℕ) (g : Process)
          → ((g ≡ AtClp c) → (e ≡ d0) → (m ≡ n) → ⊥) → Goes qs old m e g → Goes qs new m e g
      idle_goes m e g ne (inl (t, j, u, i)) =
          inl (t, j, u, kept_but _ (λ q. (let a = ap (λ (z : Mail). z.message) q in cc)) i)
      idle_goes m e g ne (inr (inl r)) = inr (inl r)
      idle_goes m e g ne (inr (inr (t, i))) =
          inr (inr (t, kept_but _ (λ q. (let a = finish_parts g e m t q in ne a.0 a.1 a.2)) i))

      queries_idle : QueriesOk p l issued qs new
      queries_idle = record {
        reg = ok.reg;
        asks = λ d f m t k w i. ok.asks d f m t k w (back _ i);
        once = λ m d lt. (let o = ok.once m d lt in let e : tally (ask_to m d) sent ≡ 0 =
            ap (tally (ask_to m d)) nothing in omega (arith, bag.tallies (ask_to m d)));
        alone = ok.alone;
        asked = λ d e m t k w i. ok.asked d e m t k w (back _ i);
        up = ok.up;
        outward = ok.outward;
        waits = λ d r e lt i j. idle_goes r.num e (AtClp d) (λ a q m. (let dc : d ≡ c = clp_parts d c a in
            let f = no_wait r (subst (λ z. In r (qs z)) dc i) m in
            let g = has_in d0 r.waits (subst (λ z. In z r.waits) q j) in cc)) (ok.waits d r e lt i j);
      }
        where
          back : (x : Mail) → In x new → In x old
          back x i = elim (bag.from x i) [ inl j ↦ j | inr j ↦ absurd (subst (In x) nothing j) ]

      pub finish_idle : QueriesOk p l issued qs' new
      finish_idle = subst (λ z. QueriesOk p l issued z new) (λ i d. (sym (same_all d)) i) queries_idle

      pub idle_goes' : (m : Num) (e : ℕ) (g : Process)
          → ((g ≡ AtClp c) → (e ≡ d0) → (m ≡ n) → ⊥) → Goes qs old m e g → Goes qs' new m e g
      idle_goes' m e g ne h = subst (λ z. Goes z new m e g) (λ i d. (sym (same_all d)) i) (idle_goes m e g ne h)

    -- a query waited for it
    module _ (r : Registered) (rn : r.num ≡ n) (b : Bool) (one : OneEnd n (qs c) (qs' c) r (shorter b p c d0 r))
        (ends : without d0 r.waits ≡ [] → In (mail_to (process p r.from) (AtClp c) (message.Finish n r.stamp)) new)
        (sent_is : (x : Mail)
        → In x sent → (t : Stamp) × (x ≡ mail_to (process p r.from) (AtClp c) (message.Finish n t))) where
      abbrev r' : Registered
      r' = shorter b p c d0 r

      from_is : process p r.from ≡ toward p c n.agent
      from_is = (ok.reg c r lc one.old).2 ∙ ap (λ (z : Num). toward p c z.agent) rn

      -- each query is there, or is r
      there_or : (d : ℕ) (u : Registered) → In u (qs d) → ((d ≡ c) × (u ≡ r)) ⊎ In u (qs' d)
      there_or d u i = elim (cases_eq d c) [
        | inl e ↦ elim (one.there u (subst (λ z. In u (qs z)) e i)) [
          | inl f ↦ inl (e, f)
          | inr j ↦ inr (subst (λ z. In u (qs' z)) (sym e) j)
        ]
        | inr ne ↦ inr (subst (In u) (sym (there d ne)) i)
      ]

      back_or : (d : ℕ) (u : Registered) → In u (qs' d) → ((d ≡ c) × (u ≡ r')) ⊎ In u (qs d)
      back_or d u i = elim (cases_eq d c) [
        | inl e ↦ elim (one.back u (subst (λ z. In u (qs' z)) e i)) [
          | inl f ↦ inl (e, f)
          | inr j ↦ inr (subst (λ z. In u (qs z)) (sym e) j.0)
        ]
        | inr ne ↦ inr (subst (In u) (there d ne) i)
      ]

      up_keeps : (d : ℕ) (m : Num) (e : ℕ) → Up qs d m e → Up qs' d m e
      up_keeps d m e (u, i, en, j) = elim (there_or d u i) [
        | inr k ↦ (u, k, en, j)
        | inl k ↦ (
          r',
          subst (λ z. In r' (qs' z)) (sym k.0) one.now,
          ap (λ (z : Registered). z.num) (sym k.1)
              ∙ en,
          subst (λ (z : Registered). In e z.sent) k.1 j,
        )
      ]

      pub finish_goes : (m : Num) (e : ℕ) (g : Process)
          → g ≡ toward p e m.agent → ((g ≡ AtClp c) → (e ≡ d0) → (m ≡ n) → ⊥) → Goes qs old m e g → Goes qs' new m e g
      finish_goes m e g eg ne (inl (t, j, u, i)) =
          inl (t, j, u, kept_but _ (λ q. (let a = ap (λ (z : Mail). z.message) q in cc)) i)
      finish_goes m e g eg ne (inr (inr (t, i))) =
          inr (inr (t, kept_but _ (λ q. (let a = finish_parts g e m t q in ne a.0 a.1 a.2)) i))
      finish_goes m e g eg ne (inr (inl (u, i, en, nw))) = elim (there_or e u i) [
        | inr k ↦ inr (inl (u, k, en, nw))
        | inl k ↦ (let mn : m ≡ n = sym en ∙ (ap (λ (z : Registered). z.num) k.1 ∙ rn) in
            let gf : g ≡ process p r.from =
            eg ∙ (ap (λ z. toward p z m.agent) k.0 ∙ (ap (λ (z : Num). toward p c z.agent) mn ∙ sym from_is)) in
            by_waits (without d0 r.waits) refl mn k.0 gf)
      ]
        where
          by_waits : (ws : List ℕ) → without d0 r.waits ≡ ws → m ≡ n → e ≡ c → g ≡ process p r.from → Goes qs' new m e g
          by_waits [] ew mn ec gf = inr (inr (
            r.stamp,
            subst₂ (λ (q : Process) (z : ℕ).
                In (mail_to q (AtClp z) (message.Finish m r.stamp)) new) (sym gf) (sym ec) (subst
                (λ z. In (mail_to (process p r.from) (AtClp c) (message.Finish z r.stamp)) new) (sym mn) (ends ew)),
          ))
          by_waits (w ∷ ws) ew mn ec gf =
              inr (inl (r', subst (λ z. In r' (qs' z)) (sym ec) one.now, rn ∙ sym mn, λ q. not_nil w ws (sym ew ∙ q)))
            where
              not_nil : (y : ℕ) (ys : List ℕ) → y ∷ ys ≡ [] → ⊥
              not_nil y ys q = cc

      pub finish_waited : QueriesOk p l issued qs' new
      finish_waited = record {
        reg = λ d u lt i. elim (back_or d u i) [
          | inr j ↦ ok.reg d u lt j
          | inl k ↦ subst₂ (λ z (y : Registered). In (ask_of y) issued × NotPast l y.stamp
              × (process p y.from ≡ toward p z y.num.agent)) (sym k.0) (sym k.1) (ok.reg c r lc one.old)
        ];
        asks = λ d f m t k w i. ok.asks d f m t k w (back_ask d f m t k w i);
        once = λ m d lt. (let o = ok.once m d lt in
            let z : tally (ask_to m d) sent ≡ 0 = plain_end m d in
            let y : one_if (has_reg m (qs' d)) 0 ≡ one_if (has_reg m (qs d)) 0 = ap (λ q. one_if q 0) (same_has d m) in
            omega (arith, bag.tallies (ask_to m d)));
        alone = λ d lt. elim (cases_eq d c) [
          | inl e ↦ subst (λ z. NoTwiceReg (qs' z)) (sym e) one.alone
          | inr ne ↦ subst NoTwiceReg (sym (there d ne)) (ok.alone d lt)
        ];
        asked = λ d e m t k w i. up_keeps e m d (ok.asked d e m t k w (back_ask d (AtClp e) m t k w i));
        up = λ d u lt i ne. elim (back_or d u i) [
          | inr j ↦ up_keeps _ u.num d (ok.up d u lt j ne)
          | inl k ↦ (let un : u.num ≡ r.num = ap (λ (z : Registered). z.num) k.1 in
              subst₂ (λ (y : Num) z. Up qs' (hop (parents p.clps) z (home p y.agent)) y z) (sym un) (sym k.0)
              (up_keeps
              _ r.num c (ok.up c r lc one.old (λ q. ne (k.0 ∙ (q ∙ ap (λ (z : Num). home p z.agent) (sym un)))))))
        ];
        outward = λ d u e lt i j. elim (back_or d u i) [
          | inr i' ↦ ok.outward d u e lt i' j
          | inl k ↦ (let un : u.num ≡ r.num = ap (λ (z : Registered). z.num) k.1 in
              subst₂ (λ (y : Num) z. In e (ports p z)
              × (e ≡ home p y.agent → ⊥) × (hop (parents p.clps) e (home p y.agent) ≡ z)) (sym un) (sym k.0)
              (ok.outward c r e lc one.old
              (in_filter (λ z. not (d0 == z)) r.waits e (subst (λ (z : Registered). In e z.waits) k.1 j)).0))
        ];
        waits = λ d u e lt i j. elim (back_or d u i) [
          | inr i' ↦ (let o = ok.outward d u e lt i' j in
              finish_goes u.num e (AtClp d) (ap AtClp (sym o.2) ∙ sym (away e u.num.agent o.1))
              (λ a q m. not_other d u i (clp_parts d c a) m e q j) (ok.waits d u e lt i' j))
          | inl k ↦ (let un : u.num ≡ r.num = ap (λ (z : Registered). z.num) k.1 in
              let f = in_filter (λ z. not (d0 == z)) r.waits e (subst (λ (z : Registered). In e z.waits) k.1 j) in
              let o = ok.outward c r e lc one.old f.0 in
              subst₂ (λ (y : Num) z. Goes qs' new y e (AtClp z)) (sym un) (sym k.0)
              (finish_goes r.num e (AtClp c) (ap AtClp (sym o.2) ∙ sym (away e r.num.agent o.1))
              (λ a q m. (let g = f.1 in let q' : (d0 == e) ≡ true = grind (arith, nat_tests, q) in cc))
              (ok.waits c r e lc one.old f.0)))
        ];
      }
        where
          away : (d a : ℕ) → (d ≡ home p a → ⊥) → toward p d a ≡ AtClp (hop (parents p.clps) d (home p a))
          away d a ne = (let e : (d == home p a) ≡ false = grind (arith, nat_tests, ne) in rw e)

          -- the query of that number at c is the new one
          not_other : (d : ℕ) (u : Registered) → In u (qs' d) → d ≡ c → u.num ≡ n → (e : ℕ) → e ≡ d0 → In e u.waits → ⊥
          not_other d u i dc m e q j = elim (one.back u (subst (λ z. In u (qs' z)) dc i)) [
            | inr k ↦ k.1 m
            | inl k ↦
                (let f = (in_filter (λ z. not (d0 == z)) r.waits e (subst (λ (z : Registered). In e z.waits) k j)).1 in
                let q' : (d0 == e) ≡ true = grind (arith, nat_tests, q) in cc)
          ]

          same_has : (d : ℕ) (m : Num) → has_reg m (qs' d) ≡ has_reg m (qs d)
          same_has d m =
              elim (cases_eq d c) [
                | inl e ↦ subst (λ z. has_reg m (qs' z) ≡ has_reg m (qs z)) (sym e) (one.same_has m)
                | inr ne ↦ ap (has_reg m) (there d ne)
              ]

          no_ask_end : (g : Process) (t : Stamp) (m : Num) (d : ℕ)
              → ask_to m d (mail_to g (AtClp c) (message.Finish n t)) ≡ false
          no_ask_end (AtClp e) t m d = go (e == d)
            where
              go : (q : Bool) → (q && false) ≡ false
              go true = refl
              go false = refl
          no_ask_end (AtAgent e) t m d = refl

          plain_end : (m : Num) (d : ℕ) → tally (ask_to m d) sent ≡ 0
          plain_end m d = tally_none (ask_to m d)
              sent (λ x i. (let e = sent_is x i in ap (ask_to m d) e.1 ∙ no_ask_end (process p r.from) e.0 m d))

          back_ask : (d : ℕ) (f : Process) (m : Num) (t : Stamp) (k : ℕ) (w : Window)
              → In (mail_to (AtClp d) f (message.Ask m t (query.Class k w))) new
              → In (mail_to (AtClp d) f (message.Ask m t (query.Class k w))) old
          back_ask d f m t k w i = elim (bag.from _ i) [
            | inl j ↦ j
            | inr j ↦ absurd (let e = sent_is _ j in let q = ap (λ (z : Mail). z.message) e.1 in cc)
          ]

  -- a Commit
  module _ (unique : (m k : Message) → In m issued → In k issued → num_of m ≡ num_of k → m ≡ k)
      (qs : ℕ → List Registered) (ms : List Mail) (ok : QueriesOk p l issued qs ms)
      (sure : (x : Mail) → In x ms → MailOk p issued x.message) where
    same_stamp : (n : Num) (s t : Stamp) (x y : Query)
        → In (message.Ask n s x) issued → In (message.Ask n t y) issued → s ≡ t
    same_stamp n s t x y i j = ap stamp_of (unique (message.Ask n s x) (message.Ask n t y) i j refl)

    reg_stamp : (u : Registered) (n : Num) (s : Stamp) (x : Query)
        → In (ask_of u) issued → u.num ≡ n → In (message.Ask n s x) issued → u.stamp ≡ s
    reg_stamp u n s x i e j = same_stamp n u.stamp s (query.Class u.class u.window)
        x (subst (λ z. In (message.Ask z u.stamp (query.Class u.class u.window)) issued) e i) j

    module _ (k : Line) (quiet : (x : Mail) → In x ms → NotPast k (stamp_of x.message)) where
      abbrev pub qs_cut : ℕ → List Registered
      qs_cut d = filter (λ (r : Registered). not (is_past k r.stamp)) (qs d)

      stays : (d : ℕ) (u : Registered) → In u (qs d) → NotPast k u.stamp → In u (qs_cut d)
      stays d u i np =
          filter_in (λ (r : Registered). not (is_past k r.stamp)) (qs d) u i (ap not (past_false k u.stamp np))

      not_past : (u : Registered) → not (is_past k u.stamp) ≡ true → NotPast k u.stamp
      not_past u e = elim (past_tells k u.stamp) [ inl f ↦ absurd (let g = f.0 in grind (arith, e, g)) | inr f ↦ f.1 ]

      pub commit_goes : (n : Num) (s : Stamp) (x : Query) (d : ℕ) (g : Process)
          → d < N → In (message.Ask n s x) issued → NotPast k s → Goes qs ms n d g → Goes qs_cut ms n d g
      commit_goes n s x d g lt i np (inl a) = inl a
      commit_goes n s x d g lt i np (inr (inr a)) = inr (inr a)
      commit_goes n s x d g lt i np (inr (inl (u, j, en, nw))) =
          inr (inl (u, stays d u j (subst (NotPast k) (sym (reg_stamp u n s x (ok.reg d u lt j).0 en i)) np), en, nw))

      hop_in : (c a : ℕ) → c < N → (c ≡ home p a → ⊥) → hop (parents p.clps) c (home p a) < N
      hop_in c a lt ne = tree.inside c _ (tree.hop_port c (home p a) lt (tree.homes a) ne)

      up_cut : (d : ℕ) (n : Num) (c : ℕ) (s : Stamp) (x : Query)
          → d < N → In (message.Ask n s x) issued → NotPast k s → Up qs d n c → Up qs_cut d n c
      up_cut d n c s x lt i np (u, j, en, h) =
          (u, stays d u j (subst (NotPast k) (sym (reg_stamp u n s x (ok.reg d u lt j).0 en i)) np), en, h)

      pub queries_commit : QueriesOk p k issued qs_cut ms
      queries_commit = record {
        reg = λ c r lt i. (let f = in_filter (λ (z : Registered). not (is_past k z.stamp)) (qs c) r i in let o =
            ok.reg c r lt f.0 in (o.0, not_past r f.1, o.2));
        asks = ok.asks;
        once = λ n c lt. (let o = ok.once n c lt in let e = fewer n (qs c) in omega arith);
        alone = λ c lt. alone_cut (qs c) (ok.alone c lt);
        asked = λ c d n s j w i. (let o = ok.asks c (AtClp d) n s j w i in
            let ld : d < N = from_in c d n o.0 o.1 in
            up_cut d n c s (query.Class j w) ld (sure _ i) (quiet _ i) (ok.asked c d n s j w i));
        up = λ c r lt i ne.
            (let f = in_filter (λ (z : Registered). not (is_past k z.stamp)) (qs c) r i in let o = ok.reg c r lt f.0 in
            up_cut _ r.num c r.stamp
            (query.Class r.class r.window) (hop_in c r.num.agent lt ne) o.0 (not_past r f.1) (ok.up c r lt f.0 ne));
        outward = λ c r d lt i j.
            ok.outward c r d lt (in_filter (λ (z : Registered). not (is_past k z.stamp)) (qs c) r i).0 j;
        waits = λ c r d lt i j. (let f = in_filter (λ (z : Registered). not (is_past k z.stamp)) (qs c) r i in let o =
            ok.reg c r lt f.0 in let b = ok.outward c r d lt f.0 j in
            commit_goes r.num r.stamp (query.Class r.class r.window)
            d (AtClp c) (tree.inside c d b.0) o.0 (not_past r f.1) (ok.waits c r d lt f.0 j));
      }
        where
          from_in : (c d : ℕ) (n : Num) → c < N → AtClp d ≡ toward p c n.agent → d < N
          from_in c d n lc e = elim (cases_eq c (home p n.agent)) [
            | inl h ↦ absurd (let t : (c == home p n.agent) ≡ true =
                grind (arith, nat_tests, h) in let e' : AtClp d ≡ AtAgent n.agent = e ∙ rw t in cc)
            | inr ne ↦ (let t : (c == home p n.agent) ≡ false = grind (arith, nat_tests, ne) in
                let e' : AtClp d ≡ AtClp (hop (parents p.clps) c (home p n.agent)) = e ∙ rw t in
                subst (λ z. z < N) (sym (clp_parts d _ e')) (hop_in c n.agent lc ne))
          ]

          has_less : (n : Num) (rs : List Registered)
              → has_reg n rs ≡ false → has_reg n (filter (λ (r : Registered). not (is_past k r.stamp)) rs) ≡ false
          has_less n [] e = refl
          has_less n (r ∷ rs) e =
              (let o = or_parts (num_eq n r.num) (has_reg n rs) e in let again = has_less n rs o.1 in
              cond_both (not (is_past k r.stamp)) (r ∷ filter (λ (z : Registered). not (is_past k z.stamp)) rs)
              (filter (λ (z : Registered). not (is_past k z.stamp)) rs)
              (λ z. has_reg n z ≡ false) (λ _. (let a = o.0 in rw (a, again))) (λ _. again))

          fewer : (n : Num) (rs : List Registered)
              → one_if (has_reg n (filter (λ (r : Registered). not (is_past k r.stamp)) rs)) 0 ≤ one_if (has_reg n rs) 0
          fewer n rs = elim (cases_Bool (has_reg n rs)) [
            | inl e ↦ subst (λ z. one_if (has_reg n (filter (λ (r : Registered). not (is_past k r.stamp)) rs)) 0
                ≤ one_if z 0) (sym e) (at_most (has_reg n (filter (λ (r : Registered). not (is_past k r.stamp)) rs)))
            | inr e ↦ (let f = has_less n rs e in subst₂ (λ y z. one_if y 0 ≤ one_if z 0) (sym f) (sym e) (omega arith))
          ]
            where
              at_most : (q : Bool) → one_if q 0 ≤ 1
              at_most true = omega arith
              at_most false = omega arith

          alone_cut : (rs : List Registered)
              → NoTwiceReg rs → NoTwiceReg (filter (λ (r : Registered). not (is_past k r.stamp)) rs)
          alone_cut [] a = tt
          alone_cut (r ∷ rs) a = (let again = alone_cut rs a.1 in
              cond_both (not (is_past k r.stamp)) (r ∷ filter (λ (z : Registered). not (is_past k z.stamp)) rs)
              (filter (λ (z : Registered). not (is_past k z.stamp)) rs)
              NoTwiceReg (λ _. (has_less r.num rs a.0, again)) (λ _. again))

    -- where a query's end is missing, a letter of its stamp is on its way
    pub goes_low : (m : ℕ) (n : Num) (s : Stamp) (x : Query) (d : ℕ) (g : Process)
        → d < N → tree.far ≤ m + tree.dist d (home p n.agent)
        → In (message.Ask n s x) issued → Goes qs ms n d g → (y : Message) × In y (letters_of ms) × (stamp_of y ≡ s)
    goes_low m n s x d g lt fuel i (inl (t, j, w, h)) =
        (message.Ask n t (query.Class j w), map_in message_of ms _ h, same_stamp n t s (query.Class j w) x (sure _ h) i)
    goes_low m n s x d g lt fuel i (inr (inr (t, h))) = (let o =
        sure _ h in (message.Finish n t, map_in message_of ms _ h, same_stamp n t s (query.Class o.0 o.1) x o.2 i))
    goes_low zero n s x d g lt fuel i (inr (inl (u, h, en, nw))) =
        absurd (let near = tree.near d (home p n.agent) lt (tree.homes n.agent) in omega arith)
    goes_low (suc m) n s x d g lt fuel i (inr (inl (u, h, en, nw))) =
        by_waits u.waits refl (λ e g' lt' fuel' z. goes_low m n s x e g' lt' fuel' i z)
      where
        by_waits : (ws : List ℕ) → u.waits ≡ ws
            → ((e : ℕ) (g' : Process) → e < N → tree.far ≤ m + tree.dist e (home p n.agent)
            → Goes qs ms n e g' → (y : Message) × In y (letters_of ms) × (stamp_of y ≡ s))
            → (y : Message) × In y (letters_of ms) × (stamp_of y ≡ s)
        by_waits [] ew rec = absurd (nw ew)
        by_waits (e ∷ es) ew rec =
            let j : In e u.waits = subst (In e) (sym ew) (inl refl) in
            let o = ok.outward d u e lt h j in
            let h' : ℕ = home p n.agent in
            let ne : e ≡ h' → ⊥ = λ q. o.1 (q ∙ ap (λ (z : Num). home p z.agent) (sym en)) in
            let at : hop (parents p.clps) e h' ≡ d =
            ap (λ (z : Num). hop (parents p.clps) e (home p z.agent)) (sym en) ∙ o.2 in
            let le = tree.inside d e o.0 in
            let far : suc (tree.dist d h') ≡ tree.dist e h' =
            subst (λ z. suc (tree.dist z h') ≡ tree.dist e h') at (tree.nearer e h' le (tree.homes n.agent) ne) in
            rec e (AtClp d) le (omega arith) (subst (λ z. Goes qs ms z e (AtClp d)) en (ok.waits d u e lt h j))
