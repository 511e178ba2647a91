-- Kept steps cut in two, what is withdrawn of them, and the numbers of what is sent.
use Rattle.pm_base.specs.Stamps.{num_eq}
use Rattle.pm_saved.specs.Senses.{answer, answers}
use Rattle.pm_saved.specs.Steps.{act_cuts, cuts_of, regs_after, regs_of, withdrawn}
use Rattle.pm_saved.specs.declared.kept.KeptStep.{KeptStep}
use Rattle.pm_saved.specs.declared.kept.KeptSense.{KeptSense}
use Rattle.pm_saved.specs.declared.kept.KeptAct.{KeptAct}
use Rattle.pm_alp.specs.declared.agent.Awaited.{Awaited}
use Rattle.std.proofs.Common.{◌≡◌, ℕ, suc, ◌+◌, ◌<◌, ◌≤◌, inl, inr, Bool, true, false, List, [], ◌∷◌, ◌++◌, map, length, refl, arith, ap, sym, ◌∙◌, subst, subst₂, Option, Some, ℤ, append_assoc, append-nil}
use Rattle.std.proofs.lemmas.Bool.Decides.{nat_tests}
use Rattle.pm_base.specs.declared.rows.CutRow.{CutRow}
use Rattle.pm_base.specs.declared.rows.PutRow.{PutRow}
use Rattle.pm_base.specs.declared.stamp.Num.{Num}
use Rattle.pm_base.specs.declared.stamp.Stamp.{Stamp}
use Rattle.pm_base.specs.declared.value.Hit.{Hit}
use Rattle.pm_base.specs.declared.value.Write.{Write}
use Rattle.pm_message.specs.declared.Message.{Message}
use Rattle.pm_model.specs.Runs.{rest}
use Rattle.pm_plan.specs.declared.plan.Plan.{Plan}
use Rattle.pm_alp.specs.Agents.{Rule, nums_of, puts_of, step_of}
use Rattle.pm_sim.specs.Sims.{Acted, Asked, Chain, Each, In, LastOpen, MailOk, Rises, Waits, WritesOk, act_nums, cut_msg, is_cut, is_put, num_of, one_if, put_msg, sense_nums, st, tally, within, write_nums}
use Rattle.pm_sim.proofs.Lists.{in_cases}
use Rattle.pm_sim.proofs.Stamps.{num_eq_self}
use Rattle.pm_step.specs.declared.Next.TheVariants as outcome

-- steps that all acted, from these registers and next time to those
abbrev pub Front : List Message → ℕ → Rule → ℕ → List ℤ → Option ℕ → List KeptStep → List ℤ → Option ℕ → Type 0
Front issued h prog i regs next [] regs' next' = (regs ≡ regs') × (next ≡ next')
Front issued h prog i regs next (s ∷ ss) regs' next' =
    (t : ℕ) × (next ≡ Some t) × (s.stamp ≡ st t i) × Asked prog s.stamp regs [] s.senses ×
    (a : KeptAct) × (s.act ≡ Some a)
    × Acted issued prog regs s a × Front issued h prog i a.regs (within h (t + a.wait)) ss regs' next'

not_nil : {X : Type 0} (xs : List X) (y : X) (ys : List X) → xs ++ y ∷ ys ≡ [] → ⊥
not_nil [] y ys e = cc
not_nil (x ∷ xs) y ys e = cc

pub split_here : (issued : List Message) (h : ℕ) (prog : Rule) (i : ℕ) (regs : List ℤ)
    (next : Option ℕ) (front : List KeptStep) (here : KeptStep) (rest : List KeptStep) (w : Option Awaited)
    → Chain issued h prog i regs next (front ++ here ∷ rest) w → (regs' : List ℤ) × (next' : Option ℕ)
    × Front issued h prog i regs next front regs' next' × Chain issued h prog i regs' next' (here ∷ rest) w
split_here issued h prog i regs next [] here rest w c = (regs, next, (refl, refl), c)
split_here issued h prog i regs next (s ∷ ss) here rest w (t, en, es, asked, inl (none, nil, aw, open')) =
    absurd (not_nil ss here rest nil)
split_here issued h prog i regs next (s ∷ ss) here rest w (t, en, es, asked, inr (a, act, acted, c)) =
    let r = split_here issued h prog i a.regs (within h (t + a.wait)) ss here rest w c in
    (r.0, r.1, (t, en, es, asked, a, act, acted, r.2), r.3)

pub split_all : (issued : List Message)
    (h : ℕ) (prog : Rule) (i : ℕ) (regs : List ℤ) (next : Option ℕ) (front : List KeptStep) (w : Awaited)
    → Chain issued h prog i regs next front (Some w) → (regs' : List ℤ)
    × (next' : Option ℕ) × Front issued h prog i regs next front regs' next' × Waits i next' (Some w)
split_all issued h prog i regs next [] w c = (regs, next, (refl, refl), c)
split_all issued h prog i regs next (s ∷ ss) w (t, en, es, asked, inl (none, nil, aw, open')) = absurd (cc)
split_all issued h prog i regs next (s ∷ ss) w (t, en, es, asked, inr (a, act, acted, c)) =
    let r = split_all issued h prog i a.regs (within h (t + a.wait)) ss w c in
    (r.0, r.1, (t, en, es, asked, a, act, acted, r.2), r.3)

pub join : (issued : List Message) (h : ℕ) (prog : Rule) (i : ℕ) (regs : List ℤ)
    (next : Option ℕ) (front ss : List KeptStep) (w : Option Awaited) (regs' : List ℤ) (next' : Option ℕ)
    → Front issued h prog i regs next front regs' next'
    → Chain issued h prog i regs' next' ss w → Chain issued h prog i regs next (front ++ ss) w
join issued h prog i regs next [] ss w regs' next' f c =
    subst₂ (λ x y. Chain issued h prog i x y ss w) (sym f.0) (sym f.1) c
join issued h prog i regs next (s ∷ front) ss w regs' next' (t, en, es, asked, a, act, acted, f) c = (
  t,
  en,
  es,
  asked,
  inr (a, act, acted, join issued h prog i a.regs (within h (t + a.wait)) front ss w regs' next' f c),
)

pub regs_at : (issued : List Message) (h : ℕ)
    (prog : Rule) (i : ℕ) (regs : List ℤ) (next : Option ℕ) (front : List KeptStep) (regs' : List ℤ) (next' : Option ℕ)
    → Front issued h prog i regs next front regs' next' → regs_after regs front ≡ regs'
regs_at issued h prog i regs next [] regs' next' f = f.0
regs_at issued h prog i regs next (s ∷ front) regs' next' (t, en, es, asked, a, act, acted, f) =
    ap (λ o. regs_after (regs_of regs o) front) act
    ∙ regs_at issued h prog i a.regs (within h (t + a.wait)) front regs' next' f

-- cuts are sent for just the kept writes' numbers
cuts_tally : (issued : List Message) (s : Stamp) (n : Num) (ms : List Num) (ws : List Write)
    → WritesOk issued s ms ws → tally (is_cut n) (cuts_of s ms ws) ≡ tally (num_eq n) ms
cuts_tally issued s n [] [] o = refl
cuts_tally issued s n [] (w ∷ ws) o = absurd o
cuts_tally issued s n (m ∷ ms) [] o = absurd o
cuts_tally issued s n (m ∷ ms) (w ∷ ws) o = ap (one_if (num_eq n m)) (cuts_tally issued s n ms ws o.1)

pub tally_append : {X : Type 0} (P : X → Bool) (xs ys : List X) → tally P (xs ++ ys) ≡ tally P xs + tally P ys
tally_append P [] ys = omega arith
tally_append P (x ∷ xs) ys = (let again = tally_append P xs ys in go (P x) again)
  where
    go : (b : Bool) → tally P (xs ++ ys) ≡ tally P xs + tally P ys
        → one_if b (tally P (xs ++ ys)) ≡ one_if b (tally P xs) + tally P ys
    go true e = omega arith
    go false e = e

pub withdrawn_tally : (issued : List Message)
    (h : ℕ) (prog : Rule) (i : ℕ) (regs : List ℤ) (next : Option ℕ) (ss : List KeptStep) (w : Option Awaited) (n : Num)
    → Chain issued h prog i regs next ss w → tally (is_cut n) (withdrawn ss) ≡ tally (num_eq n) (write_nums ss)
withdrawn_tally issued h prog i regs next [] w n c = refl
withdrawn_tally issued h prog i regs next (s ∷ ss) w n (t, en, es, asked, inl (none, nil, aw, open')) = rw (none, nil)
withdrawn_tally issued h prog i regs next (s ∷ ss) w n (t, en, es, asked, inr (a, act, acted, c)) =
    let again = withdrawn_tally issued h prog i a.regs (within h (t + a.wait)) ss w n c in
    let one : tally (is_cut n) (act_cuts s.stamp s.act) ≡ tally (num_eq n) (act_nums s.act) =
    subst (λ o. tally (is_cut n) (act_cuts s.stamp o) ≡ tally (num_eq n) (act_nums o))
    (sym act) (cuts_tally issued s.stamp n a.nums a.entry.writes acted.writes) in
    omega (
      arith,
      tally_append (is_cut n) (act_cuts s.stamp s.act) (withdrawn ss),
      tally_append (num_eq n) (act_nums s.act) (write_nums ss),
      one,
      again,
    )

cuts_in : (p : Plan) (issued : List Message) (s : Stamp) (ms : List Num) (ws : List Write) (x : Message)
    → WritesOk issued s ms ws → In x (cuts_of s ms ws)
    → (v : ℕ) × (c : CutRow) × (x ≡ cut_msg v c) × (c.stamp ≡ s) × MailOk p issued (cut_msg v c)
cuts_in p issued s [] [] x o k = absurd k
cuts_in p issued s [] (w ∷ ws) x o k = absurd o
cuts_in p issued s (m ∷ ms) [] x o k = absurd o
cuts_in p issued s (m ∷ ms) (w ∷ ws) x o (inl e) = (w.var, record { num = m; stamp = s }, e, refl, (w.change, o.0))
cuts_in p issued s (m ∷ ms) (w ∷ ws) x o (inr k) = cuts_in p issued s ms ws x o.1 k

-- a cut that is sent is of a kept step's write
pub withdrawn_in : (p : Plan) (issued : List Message) (h : ℕ)
    (prog : Rule) (i : ℕ) (regs : List ℤ) (next : Option ℕ) (ss : List KeptStep) (w : Option Awaited) (x : Message)
    → Chain issued h prog i regs next ss w → In x (withdrawn ss) → (s : KeptStep)
    × In s ss × (v : ℕ) × (c : CutRow) × (x ≡ cut_msg v c) × (c.stamp ≡ s.stamp) × MailOk p issued (cut_msg v c)
withdrawn_in p issued h prog i regs next [] w x c k = absurd k
withdrawn_in p issued h prog i regs next (s ∷ ss) w x (t, en, es, asked, inl (none, nil, aw, open')) k =
    absurd (subst₂ (λ o z. In x (act_cuts s.stamp o ++ withdrawn z)) none nil k)
withdrawn_in p issued h prog i regs next (s ∷ ss) w x (t, en, es, asked, inr (a, act, acted, c)) k =
    elim (in_cases (act_cuts s.stamp s.act) (withdrawn ss) x k) [
      | inl j ↦ (let r = cuts_in p issued s.stamp a.nums a.entry.writes
          x acted.writes (subst (λ o. In x (act_cuts s.stamp o)) act j) in (s, inl refl, r.0, r.1, r.2, r.3, r.4))
      | inr j ↦ (let r = withdrawn_in p issued h prog i a.regs (within h (t + a.wait)) ss w x c j in
          (r.0, inr r.1, r.2, r.3, r.4, r.5, r.6))
    ]

-- the puts of one step have the numbers from n on
pub puts_in : (a : ℕ) (s : Stamp) (n : ℕ) (ws : List Write) (x : Message) → In x (puts_of a s n ws)
    → (w : Write) × In w ws
    × (k : ℕ) × (x ≡ put_msg w.var (record { num = record { agent = a; seq = k }; stamp = s; change = w.change }))
    × (n ≤ k) × (k < n + length ws)
puts_in a s n [] x j = absurd j
puts_in a s n (w ∷ ws) x (inl e) = (w, inl refl, n, e, omega arith, omega arith)
puts_in a s n (w ∷ ws) x (inr j) = (let r =
    puts_in a s (n + 1) ws x j in (r.0, inr r.1, r.2, r.3, (let k = r.4 in omega arith), (let k = r.5 in omega arith)))

pub puts_early : (a : ℕ) (s : Stamp) (n : ℕ) (ws : List Write) (m : Num)
    → m.seq < n → tally (is_put m) (puts_of a s n ws) ≡ 0
puts_early a s n [] m lt = refl
puts_early a s n (w ∷ ws) m lt = (let e : num_eq m (record { agent = a; seq = n }) ≡ false = grind (arith, nat_tests) in
    ap (λ b. one_if b (tally (is_put m) (puts_of a s (n + 1) ws))) e ∙ puts_early a s (n + 1) ws m (omega arith))

pub puts_once : (a : ℕ) (s : Stamp) (n : ℕ) (ws : List Write) (v : ℕ) (r : PutRow)
    → In (put_msg v r) (puts_of a s n ws) → tally (is_put r.num) (puts_of a s n ws) ≡ 1
puts_once a s n [] v r j = absurd j
puts_once a s n (w ∷ ws) v r (inl e) =
    let row : PutRow = record { num = record { agent = a; seq = n }; stamp = s; change = w.change } in
    let same : r.num ≡ row.num = ap num_of e in
    let here : num_eq r.num row.num ≡ true = ap (λ z. num_eq z row.num) same ∙ num_eq_self row.num in
    let none : tally (is_put r.num) (puts_of a s (n + 1) ws) ≡ 0 =
    puts_early a s (n + 1) ws r.num (let k = ap (λ (z : Num). z.seq) same in omega arith) in
    ap (λ b. one_if b (tally (is_put r.num) (puts_of a s (n + 1) ws))) here ∙ ap suc none
puts_once a s n (w ∷ ws) v r (inr j) =
    let k = puts_in a s (n + 1) ws (put_msg v r) j in
    let same : r.num ≡ record { agent = a; seq = k.2 } = ap num_of k.3 in
    let e : num_eq r.num (record { agent = a; seq = n }) ≡ false =
    (let u = ap (λ (z : Num). z.seq) same in let lo = k.4 in grind (arith, nat_tests, u, lo)) in
    ap (λ b. one_if b (tally (is_put r.num) (puts_of a s (n + 1) ws))) e ∙ puts_once a s (n + 1) ws v r j

pub nums_puts : (a : ℕ) (s : Stamp) (n : ℕ) (ws : List Write) (m : Num)
    → tally (num_eq m) (nums_of a n ws) ≡ tally (is_put m) (puts_of a s n ws)
nums_puts a s n [] m = refl
nums_puts a s n (w ∷ ws) m = ap (one_if (num_eq m (record { agent = a; seq = n }))) (nums_puts a s (n + 1) ws m)

pub puts_no_cut : (a : ℕ) (s : Stamp) (n : ℕ) (ws : List Write) (m : Num) → tally (is_cut m) (puts_of a s n ws) ≡ 0
puts_no_cut a s n [] m = refl
puts_no_cut a s n (w ∷ ws) m = puts_no_cut a s (n + 1) ws m

pub writes_ok : (issued : List Message) (a : ℕ) (s : Stamp) (n : ℕ) (ws : List Write)
    → ((x : Message) → In x (puts_of a s n ws) → In x issued) → WritesOk issued s (nums_of a n ws) ws
writes_ok issued a s n [] h = tt
writes_ok issued a s n (w ∷ ws) h = (h _ (inl refl), writes_ok issued a s (n + 1) ws (λ x j. h x (inr j)))

pub write_nums_append : (xs ys : List KeptStep) → write_nums (xs ++ ys) ≡ write_nums xs ++ write_nums ys
write_nums_append [] ys = refl
write_nums_append (x ∷ xs) ys = ap (λ z. act_nums x.act ++ z) (write_nums_append xs ys)
    ∙ sym (append_assoc (act_nums x.act) (write_nums xs) (write_nums ys))

pub sense_nums_append : (xs ys : List KeptStep) → sense_nums (xs ++ ys) ≡ sense_nums xs ++ sense_nums ys
sense_nums_append [] ys = refl
sense_nums_append (x ∷ xs) ys = ap (λ z. map (λ (y : KeptSense). y.num) x.senses ++ z) (sense_nums_append xs ys)
    ∙ sym (append_assoc (map (λ (y : KeptSense). y.num) x.senses) (sense_nums xs) (sense_nums ys))

pub rises_left : (lo : ℕ) (xs ys : List Num) → Rises lo (xs ++ ys) → Rises lo xs
rises_left lo [] ys r = tt
rises_left lo (x ∷ xs) ys r = (r.0, rises_left (x.seq + 1) xs ys r.1)

pub rises_push : (lo : ℕ) (xs : List Num) (y : Num)
    → Rises lo xs → ((x : Num) → In x xs → x.seq < y.seq) → lo ≤ y.seq → Rises lo (xs ++ y ∷ [])
rises_push lo [] y r h le = (le, tt)
rises_push lo (x ∷ xs) y r h le =
    (r.0, rises_push (x.seq + 1) xs y r.1 (λ z j. h z (inr j)) (let k = h x (inl refl) in omega arith))

pub last_open : (xs : List KeptSense) (x : KeptSense)
    → Each (λ (y : KeptSense). y.complete ≡ true) xs → x.complete ≡ false → LastOpen (xs ++ x ∷ [])
last_open [] x e f = f
last_open (y ∷ []) x e f = (e.0, f)
last_open (y ∷ (z ∷ zs)) x e f = (e.0, last_open (z ∷ zs) x e.1 f)

pub asked_more : (p : Rule) (s : Stamp) (regs : List ℤ) (done : List (List Hit)) (xs : List KeptSense) (x : KeptSense)
    → Asked p s regs done xs
    → step_of p s regs (done ++ answers xs) ≡ outcome.Ask x.query → Asked p s regs done (xs ++ x ∷ [])
asked_more p s regs done [] x a e = (subst (λ z. step_of p s regs z ≡ outcome.Ask x.query) (append-nil done) e, tt)
asked_more p s regs done (y ∷ ys) x a e = (
  a.0,
  asked_more p s regs (done ++ answer y.hits ∷ []) ys x a.1 (subst
      (λ z. step_of p s regs z ≡ outcome.Ask x.query) (sym (append_assoc done (answer y.hits ∷ []) (answers ys))) e),
)

-- two puts of one step with one number are one
pub puts_same : (a : ℕ) (s : Stamp) (n : ℕ) (ws : List Write) (x y : Message)
    → In x (puts_of a s n ws) → In y (puts_of a s n ws) → num_of x ≡ num_of y → x ≡ y
puts_same a s n [] x y j k e = absurd j
puts_same a s n (w ∷ ws) x y (inl f) (inl g) e = f ∙ sym g
puts_same a s n (w ∷ ws) x y (inl f) (inr k) e = absurd (
    let r = puts_in a s (n + 1) ws y k in
    let u : n ≡ r.2 = ap (λ (z : Num). z.seq) (sym (ap num_of f) ∙ (e ∙ ap num_of r.3)) in
    let lo = r.4 in omega arith)
puts_same a s n (w ∷ ws) x y (inr j) (inl g) e = absurd (
    let r = puts_in a s (n + 1) ws x j in
    let u : n ≡ r.2 = ap (λ (z : Num). z.seq) (sym (ap num_of g) ∙ (sym e ∙ ap num_of r.3)) in
    let lo = r.4 in omega arith)
puts_same a s n (w ∷ ws) x y (inr j) (inr k) e = puts_same a s (n + 1) ws x y j k e
