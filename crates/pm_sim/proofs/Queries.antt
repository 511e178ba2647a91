-- Registered class queries: what each event does to them.
use Rattle.pm_queries.specs.Queries.{has_reg, ask_of, add_reg, registered_key}
use Rattle.pm_queries.specs.declared.registered.Registered.{Registered}
use Rattle.pm_base.specs.Stamps.{num_eq}
use Rattle.std.proofs.Common.{◌≡◌, ℕ, zero, suc, ◌+◌, ◌<◌, ◌≤◌, ◌⊎◌, inl, inr, ◌==◌, Bool, true, false, cond, ◌&&◌, ◌||◌, List, [], ◌∷◌, ◌++◌, refl, arith, ap, sym, ◌∙◌, subst, subst₂}
use Rattle.std.proofs.lemmas.Bool.{cases_Bool, cond_both, cases_eq, and_parts, or_parts, or_cases}
use Rattle.std.proofs.lemmas.Bool.Decides.{nat_tests}
use Rattle.pm_base.specs.declared.stamp.Line.{Line}
use Rattle.pm_base.specs.declared.stamp.Num.{Num}
use Rattle.pm_base.specs.declared.stamp.Stamp.{Stamp}
use Rattle.pm_base.specs.declared.value.Window.{Window}
use Rattle.pm_message.specs.declared.Message.{Message}
use Rattle.pm_periods.specs.Rows.{key_lt}
use Rattle.pm_plan.specs.Plans.{parents}
use Rattle.pm_plan.specs.Trees.{hop}
use Rattle.pm_plan.specs.declared.plan.Plan.{Plan}
use Rattle.pm_sim.specs.Worlds.{Mail, Process, home, is_process, clps_of, ports, process}
use Rattle.pm_sim.specs.Worlds.Process.{AtClp, AtAgent}
use Rattle.pm_sim.specs.Sims.{In, NotPast, num_of, one_if, tally}
use Rattle.pm_sim.specs.Routings.{Goes, NoTwiceReg, QueriesOk, TreeOk, Up, ask_to, is_ask, mail_to, toward}
use Rattle.pm_sim.proofs.Letters.{Bag, process_same}
use Rattle.pm_sim.proofs.Lists.{in_left}
use Rattle.pm_sim.proofs.Quiets.{tally_none, tally_some, tally_in, n}
use Rattle.pm_sim.proofs.Stamps.{nums_same, num_eq_self}
use Rattle.pm_base.specs.declared.value.Query.TheVariants as query
use Rattle.pm_message.specs.declared.Message.TheVariants as message

-- lists of registered queries
pub add_reg_in : (r : Registered) (xs : List Registered) (x : Registered) → In x (add_reg r xs) → (x ≡ r) ⊎ In x xs
add_reg_in r [] x i = i
add_reg_in r (y ∷ ys) x i = (let again = add_reg_in r ys x in go (key_lt (registered_key r) (registered_key y)) again i)
  where
    go : (b : Bool) → (In x (add_reg r ys) → (x ≡ r) ⊎ In x ys)
        → In x (cond b (r ∷ (y ∷ ys)) (y ∷ add_reg r ys)) → (x ≡ r) ⊎ In x (y ∷ ys)
    go true rec i = i
    go false rec (inl e) = inr (inl e)
    go false rec (inr j) = elim (rec j) [ inl e ↦ inl e | inr k ↦ inr (inr k) ]

pub in_add_reg : (r : Registered) (xs : List Registered) (x : Registered) → (x ≡ r) ⊎ In x xs → In x (add_reg r xs)
in_add_reg r [] x i = i
in_add_reg r (y ∷ ys) x i = (let again = in_add_reg r ys x in
    cond_both (key_lt (registered_key r) (registered_key y)) (r ∷ (y ∷ ys)) (y ∷ add_reg r ys) (In x) (λ _. i)
    (λ _. elim i [ inl e ↦ inr (again (inl e)) | inr j ↦ elim j [ inl e ↦ inl e | inr k ↦ inr (again (inr k)) ] ]))

pub add_reg_has : (r : Registered) (xs : List Registered) (n : Num)
    → has_reg n (add_reg r xs) ≡ (num_eq n r.num || has_reg n xs)
add_reg_has r [] n = refl
add_reg_has r (x ∷ xs) n = (let again = add_reg_has r xs n in
    cond_both (key_lt (registered_key r) (registered_key x)) (r ∷ (x ∷ xs))
    (x ∷ add_reg r xs) (λ (z : List Registered). has_reg n z ≡ (num_eq n r.num || has_reg n (x ∷ xs)))
    (λ _. refl) (λ _. swap (num_eq n x.num) (num_eq n r.num) (has_reg n (add_reg r xs)) (has_reg n xs) again))
  where
    swap : (a b c d : Bool) → c ≡ (b || d) → (a || c) ≡ (b || (a || d))
    swap true true c d e = refl
    swap true false c d e = refl
    swap false b c d e = e

add_reg_alone : (r : Registered) (xs : List Registered)
    → has_reg r.num xs ≡ false → NoTwiceReg xs → NoTwiceReg (add_reg r xs)
add_reg_alone r [] f h = (refl, tt)
add_reg_alone r (x ∷ xs) f h =
    let p = or_parts (num_eq r.num x.num) (has_reg r.num xs) f in
    let g : num_eq x.num r.num ≡ false = (let a = p.0 in flip x.num r.num a) in
    let again = add_reg_alone r xs p.1 h.1 in
    cond_both (key_lt (registered_key r) (registered_key x))
    (r ∷ (x ∷ xs)) (x ∷ add_reg r xs) NoTwiceReg (λ _. (f, h)) (λ _. (add_reg_has r xs x.num ∙ rw (g, h.0), again))
  where
    flip : (m n : Num) → num_eq n m ≡ false → num_eq m n ≡ false
    flip m n e = grind (arith, nat_tests, e)

or_right : (x y : Bool) → y ≡ true → (x || y) ≡ true
or_right true y e = refl
or_right false y e = e

pub has_reg_in : (n : Num) (rs : List Registered) (r : Registered) → In r rs → r.num ≡ n → has_reg n rs ≡ true
has_reg_in n [] r i e = absurd i
has_reg_in n (x ∷ rs) r (inl f) e =
    (let g : num_eq n x.num ≡ true = ap (num_eq n) (sym (ap (λ (z : Registered). z.num) f) ∙ e) ∙ num_eq_self n in rw g)
has_reg_in n (x ∷ rs) r (inr i) e = or_right (num_eq n x.num) (has_reg n rs) (has_reg_in n rs r i e)

pub reg_of : (n : Num) (rs : List Registered) → has_reg n rs ≡ true → (r : Registered) × In r rs × (r.num ≡ n)
reg_of n [] e = absurd (cc)
reg_of n (x ∷ rs) e = elim (or_cases (num_eq n x.num) (has_reg n rs) e) [
  | inl f ↦ (x, inl refl, sym (nums_same n x.num f))
  | inr f ↦ (let r = reg_of n rs f in (r.0, inr r.1, r.2))
]

-- of a number that is registered once there is one query
pub one_reg : (rs : List Registered) (r u : Registered) → NoTwiceReg rs → In r rs → In u rs → r.num ≡ u.num → r ≡ u
one_reg [] r u a i j e = absurd i
one_reg (x ∷ rs) r u a (inl f) (inl g) e = f ∙ sym g
one_reg (x ∷ rs) r u a (inl f) (inr j) e =
    absurd (let h = has_reg_in x.num rs u j (sym e ∙ ap (λ (z : Registered). z.num) f) in let k = a.0 in cc)
one_reg (x ∷ rs) r u a (inr i) (inl g) e =
    absurd (let h = has_reg_in x.num rs r i (e ∙ ap (λ (z : Registered). z.num) g) in let k = a.0 in cc)
one_reg (x ∷ rs) r u a (inr i) (inr j) e = one_reg rs r u a.1 i j e

-- an Ask that passes the test
pub ask_is : (n : Num) (c : ℕ) (x : Mail) → ask_to n c x ≡ true
    → (s : Stamp) × (k : ℕ) × (w : Window) × (x ≡ mail_to (AtClp c) x.from (message.Ask n s (query.Class k w)))
ask_is n c x e =
    let p = and_parts (is_process x.to (AtClp c)) (is_ask n x.message) e in
    let t : x.to ≡ AtClp c = process_same x.to (AtClp c) p.0 in
    of_message x.message refl p.1 t
  where
    of_message : (m : Message) → x.message ≡ m → is_ask n m ≡ true → x.to ≡ AtClp c
        → (s : Stamp) × (k : ℕ) × (w : Window) × (x ≡ mail_to (AtClp c) x.from (message.Ask n s (query.Class k w)))
    of_message (message.Ask m s (query.Class k w)) em e' t = (let f : n ≡ m = nums_same n m e' in
        (s, k, w, (λ i. mail_to (t i) x.from ((em ∙ ap (λ z. message.Ask z s (query.Class k w)) (sym f)) i))))
    of_message (message.Ask m s (query.One v)) em e' t = absurd (cc)
    of_message (message.Wake m s) em e' t = absurd (cc)
    of_message (message.Put r_n r_t v r_c) em e' t = absurd (cc)
    of_message (message.Cut r_n r_t v) em e' t = absurd (cc)
    of_message (message.Give g) em e' t = absurd (cc)
    of_message (message.Finish m s) em e' t = absurd (cc)
    of_message (message.Move v s r) em e' t = absurd (cc)
    of_message (message.Grow k s u w) em e' t = absurd (cc)

-- class queries and their ends
abbrev pub special : Message → Bool
special (message.Ask n s (query.Class k w)) = true
special (message.Ask n s (query.One v)) = false
special (message.Wake n s) = false
special (message.Put r_n r_t v r_c) = false
special (message.Cut r_n r_t v) = false
special (message.Give g) = false
special (message.Finish n s) = true
special (message.Move v s r) = false
special (message.Grow k s u w) = false

pub plain_ask : (n : Num) (m : Message) → special m ≡ false → is_ask n m ≡ false
plain_ask n (message.Ask m s (query.Class k w)) e = absurd (cc)
plain_ask n (message.Ask m s (query.One v)) e = refl
plain_ask n (message.Wake m s) e = refl
plain_ask n (message.Put r_n r_t v r_c) e = refl
plain_ask n (message.Cut r_n r_t v) e = refl
plain_ask n (message.Give g) e = refl
plain_ask n (message.Finish m s) e = refl
plain_ask n (message.Move v s r) e = refl
plain_ask n (message.Grow k s u w) e = refl

pub plain_asks : (n : Num) (c : ℕ) (xs : List Mail)
    → ((x : Mail) → In x xs → special x.message ≡ false) → tally (ask_to n c) xs ≡ 0
plain_asks n c xs h = tally_none (ask_to n c)
    xs (λ x i. (let e = plain_ask n x.message (h x i) in both (is_process x.to (AtClp c)) (is_ask n x.message) e))
  where
    both : (a b : Bool) → b ≡ false → (a && b) ≡ false
    both true b e = e
    both false b e = refl

pub mail_same : (a b c d : Process) (m k : Message) → mail_to a b m ≡ mail_to c d k → (a ≡ c) × (b ≡ d) × (m ≡ k)
mail_same a b c d m k e = (ap (λ (z : Mail). z.to) e, ap (λ (z : Mail). z.from) e, ap (λ (z : Mail). z.message) e)

pub ask_parts : (m n : Num) (s t : Stamp) (k j : ℕ) (w u : Window)
    → message.Ask m s (query.Class k w) ≡ message.Ask n t (query.Class j u) → (m ≡ n) × (s ≡ t) × (k ≡ j) × (w ≡ u)
ask_parts m n s t k j w u e = (cc, cc, cc, cc)

pub clp_parts : (c d : ℕ) → AtClp c ≡ AtClp d → c ≡ d
clp_parts c d e = cc

module _ (p : Plan) (l : Line) (tree : TreeOk p) where
  abbrev N : ℕ
  N = clps_of p

  abbrev hp : ℕ → ℕ → ℕ
  hp c h = hop (parents p.clps) c h

  abbrev pt : ℕ → List ℕ
  pt c = ports p c

  -- towards an agent from a CLP that isn't its home
  pub toward_away : (c : ℕ) (a : ℕ) → (c ≡ home p a → ⊥) → toward p c a ≡ AtClp (hp c (home p a))
  toward_away c a ne = (let e : (c == home p a) ≡ false = grind (arith, nat_tests, ne) in rw e)

  pub toward_home : (a : ℕ) → toward p (home p a) a ≡ AtAgent a
  toward_home a = (let e : (home p a == home p a) ≡ true = grind (arith, nat_tests) in rw e)

  -- no two neighbours are nearer than one another
  pub no_turn_back : (c d h : ℕ) → c < N → d < N → h < N → (c ≡ h → ⊥) → (d ≡ h → ⊥) → hp c h ≡ d → hp d h ≡ c → ⊥
  no_turn_back c d h lc ld lh nc nd e f =
      let a = tree.nearer c h lc lh nc in
      let b = tree.nearer d h ld lh nd in
      let a' : suc (tree.dist d h) ≡ tree.dist c h = subst (λ z. suc (tree.dist z h) ≡ tree.dist c h) e a in
      let b' : suc (tree.dist c h) ≡ tree.dist d h = subst (λ z. suc (tree.dist z h) ≡ tree.dist d h) f b in omega arith

  pub not_own_port : (c h : ℕ) → c < N → h < N → In c (pt c) → ⊥
  not_own_port c h lc lh i = elim (tree.either c c h lc lh i) [
    | inl a ↦ no_turn_back c c h lc lc lh a.0 a.0 a.1 a.1
    | inr a ↦ no_turn_back c c h lc lc lh a.0 a.0 a.1 a.1
  ]

  -- letters that are no class query and no end
  pub goes_plain : (qs : ℕ → List Registered) (old new gone sent : List Mail)
      → Bag old new gone sent → ((x : Mail) → In x gone → special x.message ≡ false)
      → (n : Num) (d : ℕ) (f : Process) → Goes qs old n d f → Goes qs new n d f
  goes_plain qs old new gone sent bag away n d f (inl (s, k, w, i)) =
      inl (s, k, w, elim (bag.kept _ i) [ inl j ↦ absurd (let e = away _ j in cc) | inr j ↦ j ])
  goes_plain qs old new gone sent bag away n d f (inr (inl r)) = inr (inl r)
  goes_plain qs old new gone sent bag away n d f (inr (inr (s, i))) =
      inr (inr (s, elim (bag.kept _ i) [ inl j ↦ absurd (let e = away _ j in cc) | inr j ↦ j ]))

  pub queries_plain : (issued : List Message) (qs : ℕ → List Registered) (old new gone sent : List Mail)
      → Bag old new gone sent
      → ((x : Mail) → In x gone → special x.message ≡ false) → ((x : Mail) → In x sent → special x.message ≡ false)
      → QueriesOk p l issued qs old → QueriesOk p l issued qs new
  queries_plain issued qs old new gone sent bag away came ok = record {
    reg = ok.reg;
    asks = λ c f n s k w i. ok.asks c f n s k w (back c f n s k w i);
    once = λ n c lt. (let o =
        ok.once n c lt in omega (arith, bag.tallies (ask_to n c), plain_asks n c gone away, plain_asks n c sent came));
    alone = ok.alone;
    asked = λ c d n s k w i. ok.asked c d n s k w (back c (AtClp d) n s k w i);
    up = ok.up;
    outward = ok.outward;
    waits = λ c r d lt i j. goes_plain qs old new gone sent bag away r.num d (AtClp c) (ok.waits c r d lt i j);
  }
    where
      back : (c : ℕ) (f : Process) (n : Num) (s : Stamp) (k : ℕ) (w : Window)
          → In (mail_to (AtClp c) f (message.Ask n s (query.Class k w))) new
          → In (mail_to (AtClp c) f (message.Ask n s (query.Class k w))) old
      back c f n s k w i = elim (bag.from _ i) [ inl j ↦ j | inr j ↦ absurd (let e = came _ j in cc) ]

  -- an agent was given a letter, and may ask a new class query
  pub record AgentMail (issued : List Message) (gone sent : List Mail) : Type 0 where
    pub away : (x : Mail) → In x gone → (special x.message ≡ false)
        ⊎ ((a : ℕ) × (n : Num) × (s : Stamp) × (f : Process) × (x ≡ mail_to (AtAgent a) f (message.Finish n s)))
    pub came : (x : Mail) → In x sent → (special x.message ≡ false) ⊎ ((n : Num) × (s : Stamp) × (k : ℕ)
        × (w : Window) × (x ≡ mail_to (AtClp (home p n.agent)) (AtAgent n.agent) (message.Ask n s (query.Class k w)))
        × ((m : Message) → In m issued → num_of m ≡ n → ⊥))
    pub one : (n : Num) (c : ℕ) → tally (ask_to n c) sent ≤ 1

  pub goes_agent : (qs : ℕ → List Registered) (issued : List Message) (old new gone sent : List Mail)
      → Bag old new gone sent → AgentMail issued gone sent → (n : Num) (d : ℕ) (f : Process)
      → ((a : ℕ) (s : Stamp) (g : Process) → f ≡ AtAgent a → In (mail_to (AtAgent a) g (message.Finish n s)) gone → ⊥)
      → Goes qs old n d f → Goes qs new n d f
  goes_agent qs issued old new gone sent bag am n d f ne (inl (s, k, w, i)) = inl (
    s,
    k,
    w,
    elim (bag.kept _ i) [
      | inr j ↦ j
      | inl j ↦ absurd (elim (am.away _ j) [ inl e ↦ cc | inr e ↦ not_finish e.0 e.1 e.2 e.3 e.4 ])
    ],
  )
    where
      not_finish : (a : ℕ) (m : Num) (t : Stamp) (g : Process)
          → mail_to (AtClp d) f (message.Ask n s (query.Class k w)) ≡ mail_to (AtAgent a) g (message.Finish m t) → ⊥
      not_finish a m t g e = (let h = ap (λ (z : Mail). z.to) e in cc)
  goes_agent qs issued old new gone sent bag am n d f ne (inr (inl r)) = inr (inl r)
  goes_agent qs issued old new gone sent bag am n d f ne (inr (inr (s, i))) = inr (inr (
    s,
    elim (bag.kept _ i) [
      | inr j ↦ j
      | inl j ↦ absurd (elim (am.away _ j) [
        | inl e ↦ cc
        | inr e ↦ (let t : f ≡ AtAgent e.0 = ap (λ (z : Mail). z.to) e.4 in
            ne e.0 s (AtClp d) t (subst (λ z. In (mail_to z (AtClp d) (message.Finish n s)) gone) t j))
      ])
    ],
  ))

  pub queries_agent : (issued more : List Message) (qs : ℕ → List Registered) (old new gone sent : List Mail)
      → Bag old new gone sent → AgentMail issued gone sent
      → ((c : ℕ) (f : Process) (n : Num) (s : Stamp) (k : ℕ) (w : Window) → In
      (mail_to (AtClp c) f (message.Ask n s (query.Class k w))) old → In (message.Ask n s (query.Class k w)) issued)
      → QueriesOk p l issued qs old → QueriesOk p l (issued ++ more) qs new
  queries_agent issued more qs old new gone sent bag am sure ok = record {
    reg = λ c r lt i. (let o = ok.reg c r lt i in (in_left issued more _ o.0, o.1, o.2));
    asks = λ c f n s k w i. elim (cases c f n s k w i) [
      | inl j ↦ ok.asks c f n s k w j
      | inr j ↦ (let e = mail_same (AtClp c) f (AtClp (home p n.agent))
          (AtAgent n.agent) (message.Ask n s (query.Class k w)) (message.Ask n s (query.Class k w)) j.0 in
          let h : c ≡ home p n.agent = clp_parts c (home p n.agent) e.0 in (
            subst (λ z. z < N) (sym h) (tree.homes n.agent),
            e.1
                ∙ (sym (toward_home n.agent) ∙ ap (λ z. toward p z n.agent) (sym h)),
          ))
    ];
    once = λ n c lt.
        (let o = ok.once n c lt in let b = bag.tallies (ask_to n c) in by_fresh n c lt (tally (ask_to n c) sent) refl);
    alone = ok.alone;
    asked = λ c d n s k w i. elim (cases c (AtClp d) n s k w i) [
      | inl j ↦ ok.asked c d n s k w j
      | inr j ↦ absurd (let e = (mail_same (AtClp c) (AtClp d) (AtClp (home p n.agent))
          (AtAgent n.agent) (message.Ask n s (query.Class k w)) (message.Ask n s (query.Class k w)) j.0).1 in cc)
    ];
    up = ok.up;
    outward = ok.outward;
    waits = λ c r d lt i j.
        goes_agent qs issued old new gone sent bag am r.num d (AtClp c) (λ a s g e _. cc) (ok.waits c r d lt i j);
  }
    where
      cases : (c : ℕ) (f : Process) (n : Num) (s : Stamp) (k : ℕ) (w : Window)
          → In (mail_to (AtClp c) f (message.Ask n s (query.Class k w))) new
          → In (mail_to (AtClp c) f (message.Ask n s (query.Class k w))) old
          ⊎ ((mail_to (AtClp c) f (message.Ask n s (query.Class k w)) ≡ mail_to (AtClp (home p n.agent))
          (AtAgent n.agent) (message.Ask n s (query.Class k w))) × ((m : Message) → In m issued → num_of m ≡ n → ⊥))
      cases c f n s k w i = elim (bag.from _ i) [
        | inl j ↦ inl j
        | inr j ↦ elim (am.came _ j) [
          | inl e ↦ absurd (cc)
          | inr e ↦ (let a = ask_parts n e.0 s e.1 k e.2 w e.3 (ap (λ (z : Mail). z.message) e.4) in
              inr (
                subst (λ (z : Num). mail_to (AtClp c) f (message.Ask n s (query.Class k w))
                    ≡ mail_to (AtClp (home p z.agent)) (AtAgent z.agent) (message.Ask n s (query.Class k w)))
                    (sym a.0) (to_of c f n s k w e.0 e.1 e.2 e.3 e.4),
                subst (λ z. (m : Message) → In m issued → num_of m ≡ z → ⊥) (sym a.0) e.5,
              ))
        ]
      ]
        where
          to_of : (c : ℕ) (f : Process) (n : Num) (s : Stamp) (k : ℕ) (w : Window)
              (n' : Num) (s' : Stamp) (k' : ℕ) (w' : Window) → mail_to (AtClp c) f (message.Ask n s (query.Class k w))
              ≡ mail_to (AtClp (home p n'.agent)) (AtAgent n'.agent) (message.Ask n' s' (query.Class k' w'))
              → mail_to (AtClp c) f (message.Ask n s (query.Class k w))
              ≡ mail_to (AtClp (home p n'.agent)) (AtAgent n'.agent) (message.Ask n s (query.Class k w))
          to_of c f n s k w n' s' k' w' e = λ i. mail_to
              ((ap (λ (z : Mail). z.to) e) i) ((ap (λ (z : Mail). z.from) e) i) (message.Ask n s (query.Class k w))

      by_fresh : (n : Num) (c : ℕ)
          → c < N → (t : ℕ) → tally (ask_to n c) sent ≡ t → tally (ask_to n c) new + one_if (has_reg n (qs c)) 0 ≤ 1
      by_fresh n c lt zero e = (let o = ok.once n c lt in omega (arith, bag.tallies (ask_to n c)))
      by_fresh n c lt (suc t) e =
          let y = tally_some (ask_to n c) sent (omega arith) in
          let a = ask_is n c y.0 y.2 in
          let new_num : (m : Message) → In m issued → num_of m ≡ n → ⊥ = elim (am.came y.0 y.1) [
            | inl f ↦ absurd (let g : special y.0.message ≡ true =
                subst (λ (z : Mail). special z.message ≡ true) (sym a.3) refl in cc)
            | inr f ↦ subst (λ z. (m : Message) → In m issued → num_of m ≡ z → ⊥)
                (sym (ask_parts n f.0 a.0 f.1 a.1 f.2 a.2 f.3 (ap (λ (z : Mail). z.message) (sym a.3 ∙ f.4))).0) f.5
          ] in
          let none : tally (ask_to n c) old ≡ 0 = tally_none (ask_to n c) old (λ x i. elim (cases_Bool (ask_to n c x)) [
            | inr f ↦ f
            | inl f ↦ absurd
                (let b = ask_is n c x f in new_num _ (sure c x.from n b.0 b.1 b.2 (subst (λ z. In z old) b.3 i)) refl)
          ]) in
          let free : has_reg n (qs c) ≡ false = elim (cases_Bool (has_reg n (qs c))) [
            | inr f ↦ f
            | inl f ↦ absurd (let r = reg_of n (qs c) f in new_num _ (ok.reg c r.0 lt r.1).0 r.2)
          ] in
          let z : one_if (has_reg n (qs c)) 0 ≡ 0 = ap (λ b. one_if b 0) free in
          (let o = am.one n c in omega (arith, bag.tallies (ask_to n c)))

  -- the end of n at a CLP other than c, where c's queries change
  -- an Ask of a class query at CLP c
  module _ (issued : List Message)
      (qs qs' : ℕ → List Registered) (old new : List Mail) (ok : QueriesOk p l issued qs old) (c : ℕ) (lc : c < N)
      (f : Process) (fn : ℕ) (fn_is : process p fn ≡ f) (n : Num) (s : Stamp) (k : ℕ) (w : Window) (ds : List ℕ)
      (ds_in : (d : ℕ) → In d ds → In d (pt c) × (f ≡ AtClp d → ⊥)) (ds_once : (d : ℕ) → tally (λ e. d == e) ds ≤ 1)
      (fw : List Mail) (here : qs' c
      ≡ add_reg (record { num = n; stamp = s; class = k; window = w; from = fn; sent = ds; waits = ds }) (qs c))
      (there : (d : ℕ) → (d ≡ c → ⊥) → qs' d ≡ qs d)
      (bag : Bag old new (mail_to (AtClp c) f (message.Ask n s (query.Class k w)) ∷ []) fw)
      (fw_ask : (d : ℕ) → In d ds → In (mail_to (AtClp d) (AtClp c) (message.Ask n s (query.Class k w))) fw)
      (fw_end : ds ≡ [] → In (mail_to f (AtClp c) (message.Finish n s)) fw)
      (fw_is : (y : Mail)
      → In y fw → ((d : ℕ) × In d ds × (y ≡ mail_to (AtClp d) (AtClp c) (message.Ask n s (query.Class k w))))
      ⊎ (y ≡ mail_to f (AtClp c) (message.Finish n s)))
      (fw_tally : (m : Num) (e : ℕ) → tally (ask_to m e) fw ≤ tally (λ d. e == d) ds)
      (issue : In (message.Ask n s (query.Class k w)) issued) (low : NotPast l s) where
    abbrev r : Registered
    r = record { num = n; stamp = s; class = k; window = w; from = fn; sent = ds; waits = ds }

    abbrev x : Mail
    x = mail_to (AtClp c) f (message.Ask n s (query.Class k w))

    abbrev h : ℕ
    h = home p n.agent

    from_is : f ≡ toward p c n.agent
    from_is = (ok.asks c f n s k w (bag.first x (inl refl))).1

    ask_x : ask_to n c x ≡ true
    ask_x = (let a : (c == c) ≡ true = grind (arith, nat_tests) in let b = num_eq_self n in rw (a, b))

    one_x : tally (ask_to n c) old ≡ 1
    one_x =
        (let o = ok.once n c lc in let i = tally_in (ask_to n c) old x (bag.first x (inl refl)) ask_x in omega arith)

    pub not_known : has_reg n (qs c) ≡ false
    not_known = elim (cases_Bool (has_reg n (qs c))) [
      | inr e ↦ e
      | inl e ↦ absurd (let o = ok.once n c lc in
          let g : one_if (has_reg n (qs c)) 0 ≡ 1 = ap (λ b. one_if b 0) e in let i = one_x in omega arith)
    ]

    r_in : In r (qs' c)
    r_in = subst (In r) (sym here) (in_add_reg r (qs c) r (inl refl))

    keeps : (d : ℕ) (u : Registered) → In u (qs d) → In u (qs' d)
    keeps d u i = elim (cases_eq d c) [
      | inl e ↦ subst (λ z. In u (qs' z))
          (sym e) (subst (In u) (sym here) (in_add_reg r (qs c) u (inr (subst (λ z. In u (qs z)) e i))))
      | inr ne ↦ subst (In u) (sym (there d ne)) i
    ]

    cases : (d : ℕ) (u : Registered) → In u (qs' d) → ((d ≡ c) × (u ≡ r)) ⊎ In u (qs d)
    cases d u i = elim (cases_eq d c) [
      | inl e ↦ elim (add_reg_in r (qs c) u (subst (In u) here (subst (λ z. In u (qs' z)) e i))) [
        | inl g ↦ inl (e, g)
        | inr j ↦ inr (subst (λ z. In u (qs z)) (sym e) j)
      ]
      | inr ne ↦ inr (subst (In u) (there d ne) i)
    ]

    -- a port that the query goes to is away from its home
    outside : (d : ℕ) → In d ds → In d (pt c) × (d ≡ h → ⊥) × (hp d h ≡ c)
    outside d i = (let a = ds_in d i in elim (tree.either c d h lc (tree.homes n.agent) a.0) [
      | inl b ↦ (a.0, b.0, b.1)
      | inr b ↦ absurd (a.1 (from_is ∙ (toward_away c n.agent b.0 ∙ ap AtClp b.1)))
    ])

    up_keeps : (d : ℕ) (m : Num) (e : ℕ) → Up qs d m e → Up qs' d m e
    up_keeps d m e (u, i, en, j) = (u, keeps d u i, en, j)

    -- the end of a query at d, as before
    pub ask_goes : (m : Num) (d : ℕ) (g : Process) → g ≡ toward p d m.agent → Goes qs old m d g → Goes qs' new m d g
    ask_goes m d g eg (inr (inl (u, i, en, ne))) = inr (inl (u, keeps d u i, en, ne))
    ask_goes m d g eg (inr (inr (t, i))) = inr (inr (
      t,
      elim (bag.kept _ i) [
        | inr j ↦ j
        | inl j ↦ absurd (elim j [ inl e ↦ (let a = ap (λ (z : Mail). z.message) e in cc) | inr b ↦ b ])
      ],
    ))
    ask_goes m d g eg (inl (t, j, u, i)) = elim (bag.kept _ i) [
      | inr i' ↦ inl (t, j, u, i')
      | inl i' ↦ elim i' [
        | inr b ↦ absurd b
        | inl e ↦ (let a = mail_same
            (AtClp d) g (AtClp c) f (message.Ask m t (query.Class j u)) (message.Ask n s (query.Class k w)) e in
            let dc : d ≡ c = clp_parts d c a.0 in
            let mn : m ≡ n = (ask_parts m n t s j k u w a.2).0 in
            subst₂ (λ (y : Num) z. Goes qs' new y z g) (sym mn) (sym dc) (at_c ds refl a.1))
      ]
    ]
      where
        at_c : (es : List ℕ) → ds ≡ es → g ≡ f → Goes qs' new n c g
        at_c [] e gf = inr
            (inr (s, bag.added _ (subst (λ z. In (mail_to z (AtClp c) (message.Finish n s)) fw) (sym gf) (fw_end e))))
        at_c (e0 ∷ es) e gf = inr (inl (r, r_in, refl, λ z. not_nil e0 es (sym e ∙ z)))
          where
            not_nil : (y : ℕ) (ys : List ℕ) → y ∷ ys ≡ [] → ⊥
            not_nil y ys q = cc

    pub queries_ask : QueriesOk p l issued qs' new
    queries_ask = record {
      reg = λ d u lt i. elim (cases d u i) [
        | inr j ↦ ok.reg d u lt j
        | inl e ↦ subst₂ (λ z (y : Registered). In (ask_of y) issued × NotPast l y.stamp
            × (process p y.from ≡ toward p z y.num.agent)) (sym e.0) (sym e.1) (issue, low, fn_is ∙ from_is)
      ];
      asks = λ d g m t j u i. elim (bag.from _ i) [
        | inl i' ↦ ok.asks d g m t j u i'
        | inr i' ↦ elim (fw_is _ i') [
          | inr e ↦ absurd (let a = ap (λ (z : Mail). z.message) e in cc)
          | inl e ↦ (let a = mail_same (AtClp d)
              g (AtClp e.0) (AtClp c) (message.Ask m t (query.Class j u)) (message.Ask n s (query.Class k w)) e.2 in
              let dd : d ≡ e.0 = clp_parts d e.0 a.0 in
              let mn : m ≡ n = (ask_parts m n t s j k u w a.2).0 in
              let o = outside e.0 e.1 in (
                subst (λ z. z < N) (sym dd) (tree.inside c e.0 o.0),
                a.1
                    ∙ (ap AtClp (sym o.2) ∙ (sym (toward_away e.0 n.agent o.1)
                    ∙ (ap (λ z. toward p z n.agent) (sym dd) ∙ ap (λ (z : Num). toward p d z.agent) (sym mn)))),
              ))
        ]
      ];
      once = λ m d lt. elim (cases_eq d c) [
        | inl e ↦ subst (λ z. tally (ask_to m z) new + one_if (has_reg m (qs' z)) 0 ≤ 1) (sym e) (once_here m)
        | inr ne ↦ once_there m d lt ne
      ];
      alone = λ d lt. elim (cases_eq d c) [
        | inl e ↦ subst (λ z. NoTwiceReg (qs' z))
            (sym e) (subst NoTwiceReg (sym here) (add_reg_alone r (qs c) not_known (ok.alone c lc)))
        | inr ne ↦ subst NoTwiceReg (sym (there d ne)) (ok.alone d lt)
      ];
      asked = λ d e m t j u i. elim (bag.from _ i) [
        | inl i' ↦ up_keeps e m d (ok.asked d e m t j u i')
        | inr i' ↦ elim (fw_is _ i') [
          | inr g ↦ absurd (let a = ap (λ (z : Mail). z.message) g in cc)
          | inl g ↦ (let a = mail_same (AtClp d) (AtClp e)
              (AtClp g.0) (AtClp c) (message.Ask m t (query.Class j u)) (message.Ask n s (query.Class k w)) g.2 in
              let dd : d ≡ g.0 = clp_parts d g.0 a.0 in
              let ec : e ≡ c = clp_parts e c a.1 in
              let mn : m ≡ n = (ask_parts m n t s j k u w a.2).0 in
              (r, subst (λ z. In r (qs' z)) (sym ec) r_in, sym mn, subst (λ z. In z ds) (sym dd) g.1))
        ]
      ];
      up = λ d u lt i ne. elim (cases d u i) [
        | inr j ↦ up_keeps _ u.num d (ok.up d u lt j ne)
        | inl e ↦ (let un : u.num ≡ n = ap (λ (z : Registered). z.num) e.1 in
            let ne' : c ≡ h → ⊥ = λ q. ne (e.0 ∙ (q ∙ ap (λ (z : Num). home p z.agent) (sym un))) in
            let fx : f ≡ AtClp (hp c h) = from_is ∙ toward_away c n.agent ne' in
            let a = ok.asked c (hp c h) n s k w (subst
            (λ z. In (mail_to (AtClp c) z (message.Ask n s (query.Class k w))) old) fx (bag.first x (inl refl))) in
            subst₂ (λ (y : Num) z. Up qs' (hp z (home p y.agent)) y z) (sym un) (sym e.0) (up_keeps (hp c h) n c a))
      ];
      outward = λ d u e lt i j. elim (cases d u i) [
        | inr i' ↦ ok.outward d u e lt i' j
        | inl g ↦ (let un : u.num ≡ n = ap (λ (z : Registered). z.num) g.1 in
            let o = outside e (subst (λ (z : Registered). In e z.waits) g.1 j) in
            subst₂ (λ (y : Num) z. In e (pt z) × (e ≡ home p y.agent → ⊥) × (hp e (home p y.agent) ≡ z))
            (sym un) (sym g.0) o)
      ];
      waits = λ d u e lt i j. elim (cases d u i) [
        | inr i' ↦ (let o = ok.outward d u e lt i' j in
            ask_goes
            u.num e (AtClp d) (ap AtClp (sym o.2) ∙ sym (toward_away e u.num.agent o.1)) (ok.waits d u e lt i' j))
        | inl g ↦ (let un : u.num ≡ n = ap (λ (z : Registered). z.num) g.1 in
            subst₂ (λ (y : Num) z. Goes qs' new y e (AtClp z)) (sym un)
            (sym g.0) (inl (s, k, w, bag.added _ (fw_ask e (subst (λ (z : Registered). In e z.waits) g.1 j)))))
      ];
    }
      where
        F0 : (m : Num) → num_eq m n ≡ false → (e : ℕ) → tally (ask_to m e) fw ≡ 0
        F0 m ne e = tally_none (ask_to m e) fw (λ y i. elim (cases_Bool (ask_to m e y)) [
          | inr g ↦ g
          | inl g ↦ absurd (let a = ask_is m e y g in elim (fw_is y i) [
            | inr b ↦ (let z = ap (λ (z : Mail). z.message) (sym a.3 ∙ b) in cc)
            | inl b ↦ (let z = (ask_parts m n a.0 s a.1 k a.2 w (ap (λ (z : Mail). z.message) (sym a.3 ∙ b.2))).0 in
                let t : num_eq m n ≡ true = subst (λ y'. num_eq m y' ≡ true) z (num_eq_self m) in cc)
          ])
        ])

        Fc : tally (λ d. c == d) ds ≡ 0
        Fc = tally_none (λ d. c == d) ds (λ d i. elim (cases_Bool (c == d)) [
          | inr g ↦ g
          | inl g ↦ absurd (let e : c ≡ d = grind (arith, nat_tests, g) in
              not_own_port c h lc (tree.homes n.agent) (subst (λ z. In z (pt c)) (sym e) (ds_in d i).0))
        ])

        only_x : (m : Num) (e : ℕ) → tally (ask_to m e) (x ∷ []) ≡ one_if (ask_to m e x) 0
        only_x m e = refl

        once_here : (m : Num) → tally (ask_to m c) new + one_if (has_reg m (qs' c)) 0 ≤ 1
        once_here m = elim (cases_Bool (num_eq m n)) [
          | inl g ↦ (let mn : m ≡ n = nums_same m n g in
              subst (λ y. tally (ask_to y c) new + one_if (has_reg y (qs' c)) 0 ≤ 1) (sym mn)
              (let z = fw_tally n c in let y : one_if (ask_to n c x) 0 ≡ 1 = ap (λ b. one_if b 0) ask_x in let q =
              le_one (has_reg n (qs' c)) in omega (arith, bag.tallies (ask_to n c), one_x, Fc, only_x n c)))
          | inr g ↦ (let o = ok.once m c lc in
              let y : ask_to m c x ≡ false = both (c == c) (num_eq m n) g in
              let y' : one_if (ask_to m c x) 0 ≡ 0 = ap (λ b. one_if b 0) y in
              let same : has_reg m (qs' c) ≡ has_reg m (qs c) = ap (has_reg m) here ∙ (add_reg_has r (qs c) m ∙ rw g) in
              let same' : one_if (has_reg m (qs' c)) 0 ≡ one_if (has_reg m (qs c)) 0 = ap (λ b. one_if b 0) same in
              omega (arith, bag.tallies (ask_to m c), F0 m g c, only_x m c))
        ]
          where
            le_one : (b : Bool) → one_if b 0 ≤ 1
            le_one true = omega arith
            le_one false = omega arith

            both : (a b : Bool) → b ≡ false → (a && b) ≡ false
            both true b e = e
            both false b e = refl

        once_there : (m : Num) (d : ℕ) → d < N → (d ≡ c → ⊥) → tally (ask_to m d) new + one_if (has_reg m (qs' d)) 0 ≤ 1
        once_there m d lt ne =
            let o = ok.once m d lt in
            let same' : one_if (has_reg m (qs' d)) 0 ≡ one_if (has_reg m (qs d)) 0 =
            ap (λ (z : List Registered). one_if (has_reg m z) 0) (there d ne) in
            elim (cases_Bool (num_eq m n)) [
              | inr g ↦ omega (arith, bag.tallies (ask_to m d), F0 m g d)
              | inl g ↦ (let mn : m ≡ n = nums_same m n g in by_count mn (tally (λ e. d == e) ds) refl)
            ]
          where
            by_count : m ≡ n
                → (t : ℕ) → tally (λ e. d == e) ds ≡ t → tally (ask_to m d) new + one_if (has_reg m (qs' d)) 0 ≤ 1
            by_count mn zero e = (let o = ok.once m d lt in let z = fw_tally m d in
                let same' : one_if (has_reg m (qs' d)) 0 ≡ one_if (has_reg m (qs d)) 0 =
                ap (λ (z : List Registered). one_if (has_reg m z) 0) (there d ne) in
                omega (arith, bag.tallies (ask_to m d)))
            by_count mn (suc t) e =
                let y = tally_some (λ e'. d == e') ds (omega arith) in
                let dy : d ≡ y.0 = (let q = y.2 in grind (arith, nat_tests, q)) in
                let out = outside y.0 y.1 in
                let free : Up qs c n d → ⊥ =
                λ u. (let q = has_reg_in n (qs c) u.0 u.1 u.2 in let q' = not_known in cc) in
                let none : tally (ask_to m d) old ≡ 0 =
                tally_none (ask_to m d) old (λ z i. elim (cases_Bool (ask_to m d z)) [
                  | inr g ↦ g
                  | inl g ↦ absurd (
                      let a = ask_is m d z g in
                      let i' : In (mail_to (AtClp d) z.from (message.Ask m a.0 (query.Class a.1 a.2))) old =
                      subst (λ q. In q old) a.3 i in
                      let b = ok.asks d z.from m a.0 a.1 a.2 i' in
                      let fromc : z.from ≡ AtClp c = b.1 ∙ (ap (λ (q : Num). toward p d q.agent) mn
                      ∙ (ap (λ q. toward p q n.agent) dy ∙ (toward_away y.0 n.agent out.1 ∙ ap AtClp out.2))) in
                      free (subst (λ (q : Num). Up qs c q d) mn (ok.asked d c m a.0 a.1 a.2 (subst
                      (λ q. In (mail_to (AtClp d) q (message.Ask m a.0 (query.Class a.1 a.2))) old) fromc i'))))
                ]) in
                let unreg : has_reg m (qs d) ≡ false = elim (cases_Bool (has_reg m (qs d))) [
                  | inr g ↦ g
                  | inl g ↦ absurd (
                      let u = reg_of m (qs d) g in
                      let un : u.0.num ≡ n = u.2 ∙ mn in
                      let away : d ≡ home p u.0.num.agent → ⊥ =
                      λ q. out.1 (sym dy ∙ (q ∙ ap (λ (z : Num). home p z.agent) un)) in
                      let b = ok.up d u.0 lt u.1 away in
                      let at : hp d (home p u.0.num.agent) ≡ c =
                      ap (λ (z : Num). hp d (home p z.agent)) un ∙ (ap (λ z. hp z h) dy ∙ out.2) in
                      free (subst₂ (λ z (q : Num). Up qs z q d) at un b))
                ] in
                let same' : one_if (has_reg m (qs' d)) 0 ≡ 0 =
                ap (λ (z : List Registered). one_if (has_reg m z) 0) (there d ne) ∙ ap (λ b. one_if b 0) unreg in
                (let z = fw_tally m d in let q = ds_once d in omega (arith, bag.tallies (ask_to m d)))
