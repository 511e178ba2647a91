-- Where no letter stands below a line, what is kept below it is good: its hits are the records' values, its writes are
-- live.
use Rattle.pm_saved.specs.Steps.{hand_one, hand_out}
use Rattle.pm_saved.specs.Senses.{answer, answers, kept_hit}
use Rattle.pm_saved.specs.declared.kept.KeptStep.{KeptStep}
use Rattle.pm_saved.specs.declared.kept.KeptSense.{KeptSense}
use Rattle.pm_saved.specs.declared.kept.KeptHit.{KeptHit}
use Rattle.pm_saved.specs.declared.kept.KeptAct.{KeptAct}
use Rattle.pm_alp.specs.declared.agent.Awaited.{Awaited}
use Rattle.pm_alp.specs.declared.agent.Agent.{Agent}
use Rattle.std.proofs.lemmas.Int.{ints}
use Rattle.std.proofs.Common.{◌≡◌, ℕ, ◌+◌, ◌<◌, ◌≤◌, ◌⊎◌, inl, inr, ◌==◌, Bool, true, false, cond, List, [], ◌∷◌, map, length, get_or, nat_le, refl, arith, ap, sym, ◌∙◌, subst, Option, Some, None, ℤ}
use Rattle.std.proofs.lemmas.Bool.Decides.{nat_tests}
use Rattle.std.proofs.lemmas.Bool.{cases_Bool, or_parts}
use Rattle.std.proofs.lemmas.List.{length-map, get_or-map}
use Rattle.pm_periods.proofs.Receipts.{and_false}
use Rattle.pm_base.specs.Windows.{inside, IsPair}
use Rattle.pm_base.specs.declared.rows.CutRow.{CutRow}
use Rattle.pm_base.specs.declared.rows.Entry.{Entry}
use Rattle.pm_base.specs.declared.rows.Parts.{Parts}
use Rattle.pm_base.specs.declared.rows.PutRow.{PutRow}
use Rattle.pm_base.specs.declared.rows.ReadRow.{ReadRow}
use Rattle.pm_base.specs.declared.stamp.Line.{Line}
use Rattle.pm_base.specs.declared.stamp.Num.{Num}
use Rattle.pm_base.specs.declared.stamp.Stamp.{Stamp}
use Rattle.pm_base.specs.declared.value.Change.{Change}
use Rattle.pm_base.specs.declared.value.Query.{Query}
use Rattle.pm_base.specs.declared.value.Value.{Value}
use Rattle.pm_base.specs.declared.value.Window.{Window}
use Rattle.pm_base.specs.declared.value.Write.{Write}
use Rattle.pm_base.specs.Layouts.{class_row}
use Rattle.pm_base.specs.Stamps.{stamp_lt, num_eq}
use Rattle.pm_message.specs.Messages.{stamp_of}
use Rattle.pm_message.specs.declared.Message.{Message}
use Rattle.pm_model.specs.Hits.{hits}
use Rattle.pm_model.specs.Runs.{rest}
use Rattle.pm_model.specs.declared.State.{State}
use Rattle.pm_periods.specs.Records.{cut_row, hit_in, is_live, record_hit, record_value, value_below}
use Rattle.pm_plan.specs.declared.plan.Plan.{Plan}
use Rattle.pm_alp.specs.Agents.{Rule, no_agent, step_of}
use Rattle.pm_sim.specs.Worlds.{rule_at}
use Rattle.pm_sim.specs.Sims.{Acted, Asked, AtMost, Chain, Core, In, KeptOk, LastOpen, MailOk, NotPast, Past, QueryOk, ReadOk, SenseOk, ShapeOk, Told, Under, Waits, WritesOk, act_nums, class_at, cut_msg, has_cut, has_read, held, is_cut, is_past, is_put, kept_writes, no_turn, one_if, put_msg, st, tally, told, window_of, within, write_nums, PlanIs}
use Rattle.pm_sim.proofs.Answers.{answer_is}
use Rattle.pm_sim.proofs.Commits.{hits_at, InPlan, Good, all_out, Ready, Reached, Records, reach}
use Rattle.pm_sim.proofs.Lists.{each_in, each_from, in_left, in_right, in_cases, in_flat, flat_in}
use Rattle.pm_sim.proofs.Stamps.{lt_false, nums_same, num_eq_self, past_tells, past_true, past_down, past_not, not_past_up, under_zero}
use Rattle.pm_sim.proofs.Turns.{step_waits, WritesRise, rises_low, step_writes_rise}
use Rattle.pm_sim.proofs.Values.{seen, value_none, LiveIn, steady_in, at_last_in, after_put_in, value_pair}
use Rattle.pm_base.specs.declared.stamp.Line.TheVariants as line
use Rattle.pm_base.specs.declared.value.Query.TheVariants as query
use Rattle.pm_message.specs.declared.Message.TheVariants as message
use Rattle.pm_step.specs.declared.Next.TheVariants as outcome
use Rattle.std.proofs.Common.{ap₂}
use Rattle.std.proofs.Common.{subst₂}
use Rattle.pm_base.specs.Windows.{whole}
use Rattle.pm_base.specs.Windows.{Inside}

pub told_in : (n : Num) (rs : List ReadRow)
    → has_read n rs ≡ true → (q : ReadRow) × In q rs × (q.num ≡ n) × (told n rs ≡ record { turn = q.turn; hit = q.hit })
told_in n [] e = absurd (cc)
told_in n (r ∷ rs) e = elim (cases_Bool (num_eq n r.num)) [
  | inl f ↦ (r, inl refl, sym (nums_same n r.num f), rw f)
  | inr f ↦ (let k = told_in n rs (grind (arith, e, f)) in (k.0, inr k.1, k.2, rw f (k.3)))
]

-- a tally is nought where no element passes, and else some element does
pub tally_none : {X : Type 0} (p : X → Bool) (xs : List X) → ((x : X) → In x xs → p x ≡ false) → tally p xs ≡ 0
tally_none p [] h = refl
tally_none p (x ∷ xs) h = ap (λ b. one_if b (tally p xs)) (h x (inl refl)) ∙ tally_none p xs (λ y i. h y (inr i))

pub tally_some : {X : Type 0} (p : X → Bool) (xs : List X) → 1 ≤ tally p xs → (x : X) × In x xs × (p x ≡ true)
tally_some p [] h = absurd (omega arith)
tally_some p (x ∷ xs) h = elim (cases_Bool (p x)) [
  | inl e ↦ (x, inl refl, e)
  | inr e ↦ (let r = tally_some p xs (subst (λ b. 1 ≤ one_if b (tally p xs)) e h) in (r.0, inr r.1, r.2))
]

pub tally_in : {X : Type 0} (p : X → Bool) (xs : List X) (x : X) → In x xs → p x ≡ true → 1 ≤ tally p xs
tally_in p [] x i e = absurd i
tally_in p (y ∷ ys) x (inl f) e = subst (λ b. 1 ≤ one_if b (tally p ys)) (sym (sym (ap p f) ∙ e)) (omega arith)
tally_in p (y ∷ ys) x (inr i) e = more (p y) (tally_in p ys x i e)
  where
    more : (b : Bool) → 1 ≤ tally p ys → 1 ≤ one_if b (tally p ys)
    more true h = omega arith
    more false h = h

pub is_put_is : (n : Num) (m : Message) → is_put n m ≡ true → (v : ℕ) × (r : PutRow) × (m ≡ put_msg v r) × (r.num ≡ n)
is_put_is n (message.Put r_n r_t v r_c) e =
    (v, (record { num = r_n; stamp = r_t; change = r_c }), refl, sym (nums_same n r_n e))
is_put_is n (message.Wake m s) e = absurd (cc)
is_put_is n (message.Ask m s q) e = absurd (cc)
is_put_is n (message.Cut r_n r_t v) e = absurd (cc)
is_put_is n (message.Give r) e = absurd (cc)
is_put_is n (message.Finish m s) e = absurd (cc)
is_put_is n (message.Move u s r) e = absurd (cc)
is_put_is n (message.Grow k s u w) e = absurd (cc)

pub is_cut_is : (n : Num) (m : Message) → is_cut n m ≡ true → (v : ℕ) × (r : CutRow) × (m ≡ cut_msg v r) × (r.num ≡ n)
is_cut_is n (message.Cut r_n r_t v) e = (v, (cut_row r_n r_t), refl, sym (nums_same n r_n e))
is_cut_is n (message.Wake m s) e = absurd (cc)
is_cut_is n (message.Ask m s q) e = absurd (cc)
is_cut_is n (message.Put r_n r_t v r_c) e = absurd (cc)
is_cut_is n (message.Give r) e = absurd (cc)
is_cut_is n (message.Finish m s) e = absurd (cc)
is_cut_is n (message.Move u s r) e = absurd (cc)
is_cut_is n (message.Grow k s u w) e = absurd (cc)

open_in : (xs : List KeptSense) → LastOpen xs → (x : KeptSense) × In x xs × (x.complete ≡ false)
open_in [] h = absurd h
open_in (x ∷ []) h = (x, inl refl, h)
open_in (x ∷ (y ∷ ys)) h = (let r = open_in (y ∷ ys) h.1 in (r.0, inr r.1, r.2))

pub hand_in : (k : Line) (ss : List KeptStep) (e : Entry) → In e (hand_out k ss)
    → (s : KeptStep) × In s ss × (a : KeptAct) × (s.act ≡ Some a) × (e ≡ a.entry) × Past k s.stamp
hand_in k [] e h = absurd h
hand_in k (s ∷ ss) e h =
    go (past_tells k s.stamp) s.act refl (λ j. let r = hand_in k ss e j in (r.0, inr r.1, r.2, r.3, r.4, r.5))
  where
    Found : Type 0
    Found = (z : KeptStep) × In z (s ∷ ss) × (a : KeptAct) × (z.act ≡ Some a) × (e ≡ a.entry) × Past k z.stamp

    go : ((is_past k s.stamp ≡ true) × Past k s.stamp) ⊎ ((is_past k s.stamp ≡ false) × NotPast k s.stamp)
        → (o : Option KeptAct) → s.act ≡ o → (In e (hand_out k ss) → Found) → Found
    go (inl w) None f rec = absurd (subst (λ z. In e (hand_one (is_past k s.stamp) s z (hand_out k ss))) f h)
    go (inl w) (Some a) f rec = elim (subst₂ (λ b z. In e (hand_one b s z (hand_out k ss))) w.0 f h) [
      | inl g ↦ (s, inl refl, a, f, g, w.1)
      | inr j ↦ rec j
    ]
    go (inr w) None f rec = absurd (subst (λ z. In e (hand_one (is_past k s.stamp) s z (hand_out k ss))) f h)
    go (inr w) (Some a) f rec = absurd (subst₂ (λ b z. In e (hand_one b s z (hand_out k ss))) w.0 f h)

pub writes_in : (issued : List Message) (s : Stamp) (ms : List Num) (ws : List Write) (w : Write) → WritesOk issued s
    ms ws → In w ws → (m : Num) × In m ms × In (put_msg w.var (record { num = m; stamp = s; change = w.change })) issued
writes_in issued s [] [] w o i = absurd i
writes_in issued s [] (x ∷ ws) w o i = absurd o
writes_in issued s (m ∷ ms) [] w o i = absurd i
writes_in issued s (m ∷ ms) (x ∷ ws) w o (inl e) = (
  m,
  inl refl,
  subst (λ (z : Write). In (put_msg z.var (record { num = m; stamp = s; change = z.change })) issued) (sym e) o.0,
)
writes_in issued s (m ∷ ms) (x ∷ ws) w o (inr i) = (let r = writes_in issued s ms ws w o.1 i in (r.0, inr r.1, r.2))

-- the number and the write stand at one place
abbrev pub Paired : Num → Write → List Num → List Write → Type 0
Paired m w [] ws = ⊥
Paired m w (x ∷ ms) [] = ⊥
Paired m w (x ∷ ms) (y ∷ ws) = ((m ≡ x) × (w ≡ y)) ⊎ Paired m w ms ws

paired_in : (m : Num) (w : Write) (ms : List Num) (ws : List Write) → Paired m w ms ws → In w ws
paired_in m w [] ws h = absurd h
paired_in m w (x ∷ ms) [] h = absurd h
paired_in m w (x ∷ ms) (y ∷ ws) (inl e) = inl e.1
paired_in m w (x ∷ ms) (y ∷ ws) (inr h) = inr (paired_in m w ms ws h)

-- writes of one variable have one number, where the variables rise
paired_one : (lo : ℕ) (m n : Num) (w u : Write) (ms : List Num) (ws : List Write)
    → WritesRise lo ws → Paired m w ms ws → Paired n u ms ws → w.var ≡ u.var → m ≡ n
paired_one lo m n w u [] ws r h k e = absurd h
paired_one lo m n w u (x ∷ ms) [] r h k e = absurd h
paired_one lo m n w u (x ∷ ms) (y ∷ ws) r (inl a) (inl b) e = a.0 ∙ sym b.0
paired_one lo m n w u (x ∷ ms) (y ∷ ws) r (inl a) (inr k) e = absurd (let c =
    rises_low (y.var + 1) ws u r.1 (paired_in n u ms ws k) in let d = ap (λ (z : Write). z.var) a.1 in omega arith)
paired_one lo m n w u (x ∷ ms) (y ∷ ws) r (inr h) (inl b) e = absurd (let c =
    rises_low (y.var + 1) ws w r.1 (paired_in m w ms ws h) in let d = ap (λ (z : Write). z.var) b.1 in omega arith)
paired_one lo m n w u (x ∷ ms) (y ∷ ws) r (inr h) (inr k) e = paired_one (y.var + 1) m n w u ms ws r.1 h k e

pub nums_in : (issued : List Message) (s : Stamp) (ms : List Num) (ws : List Write) (m : Num)
    → WritesOk issued s ms ws → In m ms → (w : Write)
    × In w ws × In (put_msg w.var (record { num = m; stamp = s; change = w.change })) issued × Paired m w ms ws
nums_in issued s [] [] m o i = absurd i
nums_in issued s [] (x ∷ ws) m o i = absurd o
nums_in issued s (n ∷ ms) [] m o i = absurd o
nums_in issued s (n ∷ ms) (x ∷ ws) m o (inl e) = (
  x,
  inl refl,
  subst (λ (z : Num). In (put_msg x.var (record { num = z; stamp = s; change = x.change })) issued)
      (sym e) o.0,
  inl (e, refl),
)
nums_in issued s (n ∷ ms) (x ∷ ws) m o (inr i) =
    (let r = nums_in issued s ms ws m o.1 i in (r.0, inr r.1, r.2, inr r.3))

-- a kept write's number is of a step that acted
pub write_nums_in : (ss : List KeptStep) (m : Num)
    → In m (write_nums ss) → (s : KeptStep) × In s ss × (a : KeptAct) × (s.act ≡ Some a) × In m a.nums
write_nums_in [] m i = absurd i
write_nums_in (s ∷ ss) m i = elim (in_cases (act_nums s.act) (write_nums ss) m i) [
  | inl j ↦ (let r = of_act s.act refl j in (s, inl refl, r.0, r.1, r.2))
  | inr j ↦ (let r = write_nums_in ss m j in (r.0, inr r.1, r.2, r.3, r.4))
]
  where
    of_act : (o : Option KeptAct) → s.act ≡ o → In m (act_nums o) → (a : KeptAct) × (s.act ≡ Some a) × In m a.nums
    of_act None e j = absurd j
    of_act (Some a) e j = (a, e, j)

pub in_write_nums : (ss : List KeptStep) (s : KeptStep) (a : KeptAct) (m : Num)
    → In s ss → s.act ≡ Some a → In m a.nums → In m (write_nums ss)
in_write_nums [] s a m i e j = absurd i
in_write_nums (x ∷ ss) s a m (inl f) e j = in_left (act_nums x.act)
    (write_nums ss) m (subst (λ o. In m (act_nums o)) (sym (ap (λ (z : KeptStep). z.act) (sym f) ∙ e)) j)
in_write_nums (x ∷ ss) s a m (inr i) e j = in_right (act_nums x.act) (write_nums ss) m (in_write_nums ss s a m i e j)

within_some : (h x t : ℕ) → within h x ≡ Some t → t ≡ x
within_some h x t e = go (nat_le x h) e
  where
    go : (b : Bool) → cond b (Some x) None ≡ Some t → t ≡ x
    go true f = cc
    go false f = absurd (cc)

-- a kept step is not before the next time
pub chain_later : (issued : List Message) (h : ℕ)
    (prog : Rule) (i : ℕ) (regs : List ℤ) (next : Option ℕ) (ss : List KeptStep) (w : Option Awaited) (s : KeptStep)
    → Chain issued h prog i regs next ss w → In s ss → (t : ℕ) × (next ≡ Some t) × AtMost (st t i) s.stamp
chain_later issued h prog i regs next [] w s c j = absurd j
chain_later issued h prog i regs next (x ∷ ss) w s (t, en, es, asked, rest) (inl e) =
    (t, en, subst (AtMost (st t i)) (sym (ap (λ (z : KeptStep). z.stamp) e ∙ es)) (inr (refl, omega arith)))
chain_later issued h prog i regs next (x ∷ ss) w s (t, en, es, asked, inl (none, nil, aw, open')) (inr j) =
    absurd (subst (In s) nil j)
chain_later issued h prog i regs next (x ∷ ss) w s (t, en, es, asked, inr (a, act, acted, c)) (inr j) =
    let r = chain_later issued h prog i a.regs (within h (t + a.wait)) ss w s c j in
    let u : r.0 ≡ t + a.wait = within_some h (t + a.wait) r.0 r.1 in
    let m = r.2 in
    (t, en, grind (arith, u, m))

-- a kept step that acted is the program's
pub chain_acted : (issued : List Message) (h : ℕ) (prog : Rule)
    (i : ℕ) (regs : List ℤ) (next : Option ℕ) (ss : List KeptStep) (w : Option Awaited) (s : KeptStep) (a : KeptAct)
    → Chain issued h prog i regs next ss w
    → In s ss → s.act ≡ Some a → (before : List ℤ) × Acted issued prog before s a × (s.stamp.agent ≡ i)
chain_acted issued h prog i regs next [] w s a c j f = absurd j
chain_acted issued h prog i regs next (x ∷ ss) w s a (t, en, es, asked, inl (none, nil, aw, open')) (inl e) f =
    absurd (let g : x.act ≡ Some a = sym (ap (λ (z : KeptStep). z.act) e) ∙ f in cc)
chain_acted issued h prog i regs next (x ∷ ss) w s a (t, en, es, asked, inl (none, nil, aw, open')) (inr j) f =
    absurd (subst (In s) nil j)
chain_acted issued h prog i regs next (x ∷ ss) w s a (t, en, es, asked, inr (b, act, acted, c)) (inl e) f =
    let g : b ≡ a = (let g' : x.act ≡ Some a = sym (ap (λ (z : KeptStep). z.act) e) ∙ f in cc) in (
      regs,
      subst₂ (λ (z : KeptStep) (y : KeptAct). Acted issued prog regs z y) (sym e) g acted,
      ap (λ (z : KeptStep). z.stamp.agent) e ∙ ap (λ (z : Stamp). z.agent) es,
    )
chain_acted issued h prog i regs next (x ∷ ss) w s a (t, en, es, asked, inr (b, act, acted, c)) (inr j) f =
    chain_acted issued h prog i b.regs (within h (t + b.wait)) ss w s a c j f

pub steps_agent : (issued : List Message) (h : ℕ)
    (prog : Rule) (i : ℕ) (regs : List ℤ) (next : Option ℕ) (ss : List KeptStep) (w : Option Awaited) (s : KeptStep)
    → Chain issued h prog i regs next ss w → In s ss → s.stamp.agent ≡ i
steps_agent issued h prog i regs next [] w s c k = absurd k
steps_agent issued h prog i regs next (x ∷ ss) w s (t, en, es, asked, rest) (inl e) =
    ap (λ (z : KeptStep). z.stamp.agent) e ∙ ap (λ (z : Stamp). z.agent) es
steps_agent issued h prog i regs next (x ∷ ss) w s (t, en, es, asked, inl (none, nil, aw, open')) (inr k) =
    absurd (subst (In s) nil k)
steps_agent issued h prog i regs next (x ∷ ss) w s (t, en, es, asked, inr (a, act', acted, c)) (inr k) =
    steps_agent issued h prog i a.regs (within h (t + a.wait)) ss w s c k

-- two kept steps have two stamps
pub chain_one : (issued : List Message) (h : ℕ)
    (prog : Rule) (i : ℕ) (regs : List ℤ) (next : Option ℕ) (ss : List KeptStep) (w : Option Awaited) (s u : KeptStep)
    → Chain issued h prog i regs next ss w → In s ss → In u ss → s.stamp ≡ u.stamp → s ≡ u
chain_one issued h prog i regs next [] w s u c j k e = absurd j
chain_one issued h prog i regs next (x ∷ ss) w s u (t, en, es, asked, inl (none, nil, aw, open')) j k e =
    (elim j [ inl f ↦ f | inr j' ↦ absurd (subst (In s) nil j') ])
    ∙ sym (elim k [ inl f ↦ f | inr k' ↦ absurd (subst (In u) nil k') ])
chain_one issued h prog i regs next (x ∷ ss) w s u (t, en, es, asked, inr (b, act, acted, c)) (inl f) (inl g) e =
    f ∙ sym g
chain_one issued h prog i regs next (x ∷ ss) w s u (t, en, es, asked, inr (b, act, acted, c)) (inl f) (inr k) e =
    absurd (
    let r = chain_later issued h prog i b.regs (within h (t + b.wait)) ss w u c k in
    let m = r.2 in let v : r.0 ≡ t + b.wait = within_some h (t + b.wait) r.0 r.1 in
    let y : s.stamp ≡ st t i = ap (λ (z : KeptStep). z.stamp) f ∙ es in let y' =
    ap (λ (d : Stamp). d.time) (sym e ∙ y) in let q = step_waits prog x.stamp regs (answers x.senses)
    (record { writes = b.entry.writes; regs = b.regs; wait = b.wait }) acted.acts in grind (arith, m, v, y', q))
chain_one issued h prog i regs next (x ∷ ss) w s u (t, en, es, asked, inr (b, act, acted, c)) (inr j) (inl g) e =
    absurd (
    let r = chain_later issued h prog i b.regs (within h (t + b.wait)) ss w s c j in
    let m = r.2 in let v : r.0 ≡ t + b.wait = within_some h (t + b.wait) r.0 r.1 in
    let y : u.stamp ≡ st t i = ap (λ (z : KeptStep). z.stamp) g ∙ es in let y' =
    ap (λ (d : Stamp). d.time) (e ∙ y) in let q = step_waits prog x.stamp regs (answers x.senses)
    (record { writes = b.entry.writes; regs = b.regs; wait = b.wait }) acted.acts in grind (arith, m, v, y', q))
chain_one issued h prog i regs next (x ∷ ss) w s u (t, en, es, asked, inr (b, act, acted, c)) (inr j) (inr k) e =
    chain_one issued h prog i b.regs (within h (t + b.wait)) ss w s u c j k e

-- a kept step below the line is handed out
pub in_hand : (k : Line) (issued : List Message) (h : ℕ) (prog : Rule)
    (i : ℕ) (regs : List ℤ) (next : Option ℕ) (ss : List KeptStep) (w : Option Awaited) (s : KeptStep) (a : KeptAct)
    → Chain issued h prog i regs next ss w → In s ss → s.act ≡ Some a → Past k s.stamp → In a.entry (hand_out k ss)
in_hand k issued h prog i regs next [] w s a c j f past = absurd j
in_hand k issued h prog i regs next (x ∷ ss) w s a (t, en, es, asked, inl (none, nil, aw, open')) (inl e) f past =
    absurd (let g : x.act ≡ Some a = sym (ap (λ (z : KeptStep). z.act) e) ∙ f in cc)
in_hand k issued h prog i regs next (x ∷ ss) w s a (t, en, es, asked, inl (none, nil, aw, open')) (inr j) f past =
    absurd (subst (In s) nil j)
in_hand k issued h prog i regs next (x ∷ ss) w s a (t, en, es, asked, inr (b, act, acted, c)) (inl e) f past =
    let g : x.act ≡ Some a = sym (ap (λ (z : KeptStep). z.act) e) ∙ f in
    let u : is_past k x.stamp ≡ true = past_true k x.stamp (subst (λ (z : KeptStep). Past k z.stamp) e past) in
    rw (u, g) (inl refl)
in_hand k issued h prog i regs next (x ∷ ss) w s a (t, en, es, asked, inr (b, act, acted, c)) (inr j) f past =
    let r = chain_later issued h prog i b.regs (within h (t + b.wait)) ss w s c j in
    let m = r.2 in
    let v : r.0 ≡ t + b.wait = within_some h (t + b.wait) r.0 r.1 in
    let u : is_past k x.stamp ≡ true = past_true k x.stamp (past_down k x.stamp s.stamp (let y = es in let z =
    ap (λ (d : Stamp). d.time) y in let z' = ap (λ (d : Stamp). d.agent) y in grind (arith, m, v, z, z')) past) in
    rw (u, act) (inr (in_hand k issued h prog i b.regs (within h (t + b.wait)) ss w s a c j f past))

pub has_cut_in : (n : Num) (rs : List CutRow) (c : CutRow) → In c rs → num_eq n c.num ≡ true → has_cut n rs ≡ true
has_cut_in n [] c i e = absurd i
has_cut_in n (r ∷ rs) c (inl f) e =
    rw (let g : num_eq n r.num ≡ true = subst (λ (z : CutRow). num_eq n z.num ≡ true) f e in g)
has_cut_in n (r ∷ rs) c (inr i) e = (let g = has_cut_in n rs c i e in grind (arith, nat_tests, g))

pub cut_none : (n : Num) (rs : List CutRow) → has_cut n rs ≡ false → tally (λ (k : CutRow). num_eq n k.num) rs ≡ 0
cut_none n rs e = tally_none (λ (k : CutRow). num_eq n k.num) rs (λ c i. elim (cases_Bool (num_eq n c.num)) [
  | inl f ↦ absurd (let g = has_cut_in n rs c i f in cc)
  | inr f ↦ f
])

pub cut_some : (n : Num) (rs : List CutRow) → tally (λ (k : CutRow). num_eq n k.num) rs ≡ 0 → has_cut n rs ≡ false
cut_some n [] e = refl
cut_some n (r ∷ rs) e = elim (cases_Bool (num_eq n r.num)) [
  | inl f ↦ absurd (let g = subst (λ b. one_if b (tally (λ (k : CutRow). num_eq n k.num) rs) ≡ 0) f e in omega arith)
  | inr f ↦ (let g =
      subst (λ b. one_if b (tally (λ (k : CutRow). num_eq n k.num) rs) ≡ 0) f e in let h = cut_some n rs g in rw (f, h))
]

pub one_hit : (v t : ℕ) (y : Option Value) → kept_hit v (record { var = v; turn = t; hit = y } ∷ []) ≡ y
one_hit v t y = (let e : (v == v) ≡ true = grind (arith, nat_tests) in rw e)

pub some_same : {X : Type 0} (x y : X) → Some x ≡ Some y → x ≡ y
some_same x y e = cc

pub put_same : (v u : ℕ) (r s : PutRow)
    → put_msg v r ≡ put_msg u s → (v ≡ u) × (r.stamp ≡ s.stamp) × (r.change ≡ s.change)
put_same v u r s e = (cc, cc, cc)

none_told : (n : Num) (rs : List ReadRow) → has_read n rs ≡ false → told n rs ≡ record { turn = 0; hit = None }
none_told n [] e = refl
none_told n (r ∷ rs) e =
    (let a = or_parts (num_eq n r.num) (has_read n rs) e in let b = a.0 in rw b (none_told n rs a.1))

pub put_none : (n : Num) (ps : List PutRow)
    → ((r : PutRow) → In r ps → num_eq n r.num ≡ true → ⊥) → tally (λ (k : PutRow). num_eq n k.num) ps ≡ 0
put_none n ps h = tally_none (λ (k : PutRow). num_eq n k.num)
    ps (λ r i. elim (cases_Bool (num_eq n r.num)) [ inl f ↦ absurd (h r i f) | inr f ↦ f ])

-- a value of 64 bits is in the whole window
inside_whole : (v : Value) → IsPair v → inside v whole ≡ true
inside_whole v h = tests_tell v whole (record {
  left = omega (arith, ints, h.x);
  right = omega (arith, ints, h.x);
  low = omega (arith, ints, h.y);
  high = omega (arith, ints, h.y);
})
  where
    tests_tell : (v : Value) (w : Window) → Inside v w → inside v w ≡ true
    tests_tell v w i =
        (let a = i.left in let b = i.right in let c = i.low in let d = i.high in grind (arith, ints, a, b, c, d))

pub whole_hit : (v : Value) → IsPair v → hit_in v whole ≡ Some v
whole_hit v h = ap (λ b. cond b (Some v) None) (inside_whole v h)

-- where nothing below a line is on the way: a read that is missing below it would have no hit; and where the end of a
-- class
-- query is missing, a letter is on its way that is no later than its stamp
pub record Lively (p : Plan) (l : Line) (n : ℕ)
    (issued letters : List Message) (recs : ℕ → Parts) (pend : Num → ℕ → Type 0) (wait : Num → Type 0) : Type 0 where
  pub asks : (k : Line)
      → ((m : Message) → In m letters → NotPast k (stamp_of m)) → (m : Num) (v : ℕ) (s : Stamp) (c : ℕ) (w : Window)
      → In (message.Ask m s (query.Class c w)) issued → NotPast l s → Past k s → v < n → class_at p v ≡ c → pend m v
      → (has_read m (recs v).reads ≡ true) ⊎ (hit_in (record_value (recs v) s) w ≡ None)
  pub ends : (n : Num) (s : Stamp) (q : Query)
      → In (message.Ask n s q) issued → NotPast l s → wait n → (m : Message) × In m letters × AtMost (stamp_of m) s

module _ (p : Plan)
    (l : Line) (q : State) (issued : List Message) (agents : List Agent) (recs : ℕ → Parts) (letters : List Message)
    (pend : Num → ℕ → Type 0) (wait : Num → Type 0) (core : Core p l q issued agents recs letters pend wait)
    (lively : Lively p l (length q.values) issued letters recs pend wait) (k : Line)
    (quiet : (m : Message) → In m letters → NotPast k (stamp_of m)) (plan : PlanIs p (length q.values)) where
  abbrev pub n : ℕ
  n = length q.values

  abbrev pub val : ℕ → Stamp → Value
  val v s = record_value (recs v) s

  abbrev pub last : ℕ → Value
  last v = value_below (recs v) k

  abbrev pub Live : ℕ → Stamp → Change → Type 0
  Live v s x = LiveIn (recs v) s x

  same_ask : (m : Num) (s t : Stamp) (x y : Query)
      → In (message.Ask m s x) issued → In (message.Ask m t y) issued → (s ≡ t) × (x ≡ y)
  same_ask m s t x y i j = let e : message.Ask m s x ≡ message.Ask m t y =
      core.unique (message.Ask m s x) (message.Ask m t y) i j refl in (cc, cc)

  ask_again : (m m' : Num) (t : Stamp) (y : Query)
      → m' ≡ m → In (message.Ask m' t y) issued → In (message.Ask m t y) issued
  ask_again m m' t y e i = subst (λ z. In (message.Ask z t y) issued) e i

  -- nothing at or below s is on the way
  none_low : (s : Stamp) → Past k s → (m : Message) → In m letters → AtMost (stamp_of m) s → ⊥
  none_low s past m i le = past_not k s past (not_past_up k (stamp_of m) s le (quiet m i))

  -- where the record has no read the agent has no hit
  no_read : (x : KeptSense) (v : ℕ) (missing : Type 0)
      → ReadOk letters recs missing x v → has_read x.num (recs v).reads ≡ false → kept_hit v x.hits ≡ None
  no_read x v missing r e =
      elim (subst (Under (held v x.hits)) (none_told x.num (recs v).reads e) r.agree.under) [
        | inl lt ↦ absurd (omega arith)
        | inr a ↦ a.1
      ]

  -- the read of a kept sense below the line is at the record, and the agent has its hit
  read_has : (s : Stamp) (x : KeptSense) (v : ℕ) (missing : Type 0)
      → has_read x.num (recs v).reads ≡ true → Past k s → In (message.Ask x.num s x.query) issued
      → ReadOk letters recs missing x v → kept_hit v x.hits ≡ hit_in (val v s) (window_of x.query)
  read_has s x v missing e past issue r =
      let t = told_in x.num (recs v).reads e in
      let o = (core.rec v).reads t.0 t.1 in
      let same = same_ask x.num t.0.stamp s o.0 x.query (ask_again x.num t.0.num t.0.stamp o.0 t.2 o.1) issue in
      let hit : t.0.hit ≡ hit_in (val v s) (window_of x.query) =
      each_in (λ (z : ReadRow). z.hit ≡ record_hit (recs v) z) (recs v).reads t.0 (core.rec v).solid.hits t.1
      ∙ ap₂ (λ (w : Window) (z : Stamp). hit_in (val v z) w) (o.3 ∙ ap window_of same.1) same.0 in
      elim r.agree.there [
        | inl f ↦ ap (λ (z : Told). z.hit) (f ∙ t.3) ∙ hit
        | inr g ↦ absurd (
            let c = core.mail (message.Give g.0) g.1 in
            let c' : MailOk p issued (message.Give g.0) = c.0 in
            let a : g.0.stamp ≡ s =
            (same_ask x.num g.0.stamp s c'.0 x.query (ask_again x.num g.0.num g.0.stamp c'.0 g.2 c'.1) issue).0 in
            past_not k s past (subst (NotPast k) a (quiet (message.Give g.0) g.1)))
      ]

  either : (x : KeptSense) (v : ℕ) (s : Stamp) (missing : Type 0)
      → (missing → (has_read x.num (recs v).reads ≡ true) ⊎ (hit_in (val v s) (window_of x.query) ≡ None))
      → missing ⊎ (has_read x.num (recs v).reads ≡ true)
      → (has_read x.num (recs v).reads ≡ true) ⊎ (hit_in (val v s) (window_of x.query) ≡ None)
  either x v s missing absent (inl i) = absent i
  either x v s missing absent (inr e) = inl e

  read_is : (s : Stamp) (x : KeptSense) (v : ℕ) (missing : Type 0)
      → (missing → (has_read x.num (recs v).reads ≡ true) ⊎ (hit_in (val v s) (window_of x.query) ≡ None))
      → Past k s → In (message.Ask x.num s x.query) issued → ReadOk letters recs missing x v
      → kept_hit v x.hits ≡ hit_in (val v s) (window_of x.query)
  read_is s x v missing absent past issue r = elim (either x v s missing absent r.asked) [
    | inl e ↦ read_has s x v missing e past issue r
    | inr none ↦ elim (cases_Bool (has_read x.num (recs v).reads)) [
      | inl e ↦ read_has s x v missing e past issue r
      | inr e ↦ no_read x v missing r e ∙ sym none
    ]
  ]

  one_answer : (v : ℕ) (x : Value) (hits : List KeptHit)
      → ShapeOk v true hits → kept_hit v hits ≡ Some x → answer hits ≡ record { var = v; value = x } ∷ []
  one_answer v x hits (t, y, e) h =
      let a : kept_hit v (record { var = v; turn = t; hit = y } ∷ []) ≡ Some x =
      subst (λ z. kept_hit v z ≡ Some x) e h in
      let b : y ≡ Some x = sym (one_hit v t y) ∙ a in
      ap answer e ∙ ap (λ z. answer (record { var = v; turn = t; hit = z } ∷ [])) b

  not_open : (v : ℕ) (x : Value) (hits : List KeptHit) → ShapeOk v false hits → kept_hit v hits ≡ Some x → ⊥
  not_open v x hits e h = let a : kept_hit v [] ≡ Some x = subst (λ z. kept_hit v z ≡ Some x) e h in cc

  one_missing : (s : Stamp) (n : Num) (v : ℕ) → Past k s → In (message.Ask n s (query.One v)) letters → ⊥
  one_missing s n v past i = none_low s past (message.Ask n s (query.One v)) i (inr (refl, omega arith))

  pair_at : (v : ℕ) (s : Stamp) → v < n → IsPair (val v s)
  pair_at v s lt = value_pair (recs v) (line.At s) (subst IsPair (core.base v lt) (core.pairs v lt))
      (λ u i. core.wide u.num u.stamp v u.change ((core.rec v).puts u i).0)

  one_read : (s : Stamp) (x : KeptSense) (v : ℕ)
      → v < n → Past k s → In (message.Ask x.num s x.query) issued → x.query ≡ query.One v
      → ReadOk letters recs (In (message.Ask x.num s (query.One v)) letters) x v → kept_hit v x.hits ≡ Some (val v s)
  one_read s x v lt past issue ey o =
      read_is s x v (In (message.Ask x.num s (query.One v)) letters) (λ i. absurd (one_missing s x.num v past i))
      past issue o ∙ (ap (λ z. hit_in (val v s) (window_of z)) ey ∙ whole_hit (val v s) (pair_at v s lt))

  kept_from : (c : ℕ) (hs : List KeptHit) → KeptOk p c 0 hs → KeptOk p c (class_row p.layout.classes c).first hs
  kept_from c [] o = tt
  kept_from c (h ∷ hs) o =
      ((plan.inside c h.var (let e = plan.vars in let a = o.1 in omega (arith, e, a)) o.2).0, o.1, o.2, o.3)

  -- a kept sense below the line is complete, and its answer is what the values say
  sense_is : (s : Stamp) (x : KeptSense) (y : Query) (b : Bool) → x.query ≡ y → x.complete ≡ b
      → Past k s → NotPast l s → In (message.Ask x.num s x.query) issued → QueryOk p letters recs pend wait n s x y
      → (b ≡ true) × InPlan p k n val last Live y × (hits_at p k n val last Live s y ≡ answer x.hits)
  sense_is s x (query.Class c w) false ey eb past low issue o =
      absurd (let m = lively.ends x.num s x.query issue low (o.1 eb) in none_low s past m.0 m.1 m.2)
  sense_is s x (query.Class c w) true ey eb past low issue o = (
    refl,
    tt,
    answer_is p c w (λ v. val v s) (class_row p.layout.classes c).first (class_row p.layout.classes c).count x.hits
        (λ v lo hi. (let r = plan.range c in let e = plan.vars in omega (arith, r, e, hi), plan.of_range c v lo hi))
        (λ v lt ec. (plan.inside c v (let e = plan.vars in omega (arith, e, lt)) ec).1)
        (kept_from c x.hits o.0) (λ v lt ec lo.
        read_is s x v (pend x.num v) (λ h. elim (lively.asks k quiet x.num v s c
        w (subst (λ z. In (message.Ask x.num s z) issued) ey issue) low past (let e = core.same_vars in omega arith)
        ec h) [ inl e ↦ inl e | inr e ↦ inr (ap (λ z. hit_in (val v s) (window_of z)) ey ∙ e) ])
        past issue (o.2 v (let e = core.same_vars in omega arith) ec)
        ∙ ap (λ z. hit_in (val v s) (window_of z)) ey),
  )
  sense_is s x (query.One v) true ey eb past low issue o = (
    refl,
    o.0,
    sym (one_answer
        v (val v s) x.hits (subst (λ z. ShapeOk v z x.hits) eb o.1) (one_read s x v o.0 past issue ey o.2)),
  )
  sense_is s x (query.One v) false ey eb past low issue o = absurd
      (not_open v (val v s) x.hits (subst (λ z. ShapeOk v z x.hits) eb o.1) (one_read s x v o.0 past issue ey o.2))

  pub chain_good : (i : ℕ) (regs : List ℤ) (next : Option ℕ) (ss : List KeptStep) (w : Option Awaited)
      → Chain issued p.horizon (rule_at p i) i regs next ss w
      → ((s : KeptStep) → In s ss → (x : KeptSense) → In x s.senses
      → SenseOk p issued letters recs pend wait n s.stamp x) → ((s : KeptStep) → In s ss → NotPast l s.stamp)
      → ((u : Awaited) → w ≡ Some u → In (message.Wake u.num u.stamp) letters)
      → Good p k n val last Live i regs next ss
  chain_good i regs next [] w c senses low wake = λ t e.
      let o : Waits i (Some t) w = subst (λ z. Waits i z w) e c in
      quiet (message.Wake o.0 (st t i)) (wake (record { num = o.0; stamp = st t i }) o.2)
  chain_good i regs next (s ∷ ss) w (t, en, es, asked, rest) senses low wake = (
    t,
    en,
    es,
    elim (past_tells k (st t i)) [
      | inr f ↦ inl f.1
      | inl f ↦ (let past : Past k s.stamp = subst (Past k) (sym es) f.1 in elim rest [
        | inl o ↦ absurd (
            let x = open_in s.senses o.3 in
            let ok = senses s (inl refl) x.0 x.1 in
            let y =
            (sense_is s.stamp x.0 x.0.query x.0.complete refl refl past (low s (inl refl)) ok.issue ok.query).0 in
            let z = x.2 in cc)
        | inr o ↦ inr (
          o.0,
          record {
            act = o.1;
            past = f.1;
            asked = subst (λ z. Asked (rule_at p i) z regs [] s.senses) es asked;
            in_plan = each_from (λ (x : KeptSense). InPlan p k n val last Live x.query)
                s.senses (λ x j. (let ok = senses s (inl refl) x j in
                (sense_is s.stamp x x.query x.complete refl refl past (low s (inl refl)) ok.issue ok.query).1));
            same = each_from (λ (x : KeptSense). hits_at p k n val last Live (st t i) x.query ≡ answer x.hits)
                s.senses (λ x j. (let ok = senses s (inl refl) x j in
                subst (λ z. hits_at p k n val last Live z x.query ≡ answer x.hits)
                es (sense_is s.stamp x x.query x.complete refl refl past (low s (inl refl)) ok.issue ok.query).2));
            acts = subst (λ z. step_of (rule_at p i) z regs (answers s.senses)
                ≡ outcome.Act (record { writes = o.0.entry.writes; regs = o.0.regs; wait = o.0.wait })) es o.2.acts;
            entry = subst (λ z. o.0.entry ≡ record { stamp = z; answers = answers s.senses; writes = o.0.entry.writes })
                es o.2.entry;
            wait = step_waits (rule_at p i) s.stamp regs
                (answers s.senses) (record { writes = o.0.entry.writes; regs = o.0.regs; wait = o.0.wait }) o.2.acts;
          },
          chain_good i o.0.regs
              (within p.horizon (t + o.0.wait)) ss w o.3 (λ s' j. senses s' (inr j)) (λ s' j. low s' (inr j)) wake,
        )
      ])
    ],
  )

  agent_i : ℕ → Agent
  agent_i i = get_or agents i no_agent

  -- a put that is live below the line is kept: its step, its act and its write
  live_kept : (v : ℕ) (r : PutRow) → In r (recs v).puts → has_cut r.num (recs v).cuts ≡ false → Past k r.stamp
      → (r.num.agent < length agents) × (s : KeptStep) × In s (get_or agents r.num.agent no_agent).steps
      × (a : KeptAct) × (s.act ≡ Some a) × (before : List ℤ) × Acted issued (rule_at p r.num.agent) before s a
      × (w : Write) × In w a.entry.writes
      × (w.var ≡ v) × (w.change ≡ r.change) × (s.stamp ≡ r.stamp) × Paired r.num w a.nums a.entry.writes
  live_kept v r i live past =
      let o = (core.rec v).puts r i in
      let none : tally (is_cut r.num) letters ≡ 0 =
      tally_none (is_cut r.num) letters (λ m j. elim (cases_Bool (is_cut r.num m)) [
        | inr f ↦ f
        | inl f ↦ absurd (
            let c = is_cut_is r.num m f in
            let g : MailOk p issued (cut_msg c.0 c.1) = subst (MailOk p issued) c.2 (core.mail m j).0 in
            let h : put_msg c.0 (record { num = c.1.num; stamp = c.1.stamp; change = g.0 }) ≡ put_msg v r =
            core.unique _ _ g.1 o.0 c.3 in
            let at_s : c.1.stamp ≡ r.stamp = ap (λ z. stamp_of z) h in
            past_not k r.stamp past (subst (NotPast k) (ap stamp_of c.2 ∙ at_s) (quiet m j)))
      ]) in
      let none' : tally (λ (c : CutRow). num_eq r.num c.num) (recs v).cuts ≡ 0 = cut_none r.num (recs v).cuts live in
      let one = core.cut_once v r o.0 o.1 in
      let kept = tally_some (num_eq r.num) (write_nums (get_or agents r.num.agent no_agent).steps) (omega arith) in
      let same : kept.0 ≡ r.num = sym (nums_same r.num kept.0 kept.2) in
      let w = write_nums_in (get_or agents r.num.agent no_agent).steps
      r.num (subst (λ z. In z (write_nums (get_or agents r.num.agent no_agent).steps)) same kept.1) in
      let in' = (core.fresh (put_msg v r) o.0).0 in
      let ok = core.agent r.num.agent in' in
      let acted = chain_acted issued p.horizon (rule_at p r.num.agent) r.num.agent _ _ _ _ w.0 w.2 ok.chain w.1 w.3 in
      let u = nums_in issued w.0.stamp w.2.nums w.2.entry.writes r.num acted.1.writes w.4 in
      let h : put_msg u.0.var (record { num = r.num; stamp = w.0.stamp; change = u.0.change }) ≡ put_msg v r =
      core.unique _ _ u.2 o.0 refl in
      let e = put_same u.0.var v (record { num = r.num; stamp = w.0.stamp; change = u.0.change }) r h in
      (in', w.0, w.1, w.2, w.3, acted.0, acted.1, u.0, u.1, e.0, e.2, e.1, u.3)

  -- two writes of one variable at one stamp are one
  same_write : (i : ℕ) (s s' : KeptStep) (a a' : KeptAct) (before : List ℤ) (m m' : Num) (w w' : Write)
      → i < length agents → In s (get_or agents i no_agent).steps → In s' (get_or agents i no_agent).steps
      → s.act ≡ Some a → s'.act ≡ Some a' → Acted issued (rule_at p i) before s a → Paired m w a.nums a.entry.writes
      → Paired m' w' a'.nums a'.entry.writes → s.stamp ≡ s'.stamp → w.var ≡ w'.var → m' ≡ m
  same_write i s s' a a' before m m' w w' lt in' in'' act act' acted j j' e f =
      let ok = core.agent i lt in
      let one : s ≡ s' = chain_one issued p.horizon (rule_at p i) i _ _ _ _ s s' ok.chain in' in'' e in
      let acts : a' ≡ a = some_same a' a (sym act' ∙ (ap (λ (z : KeptStep). z.act) (sym one) ∙ act)) in
      let j2 : Paired m' w' a.nums a.entry.writes =
      subst (λ (z : KeptAct). Paired m' w' z.nums z.entry.writes) acts j' in
      sym (paired_one 0 m m' w w'
      a.nums a.entry.writes (step_writes_rise (rule_at p i) s.stamp before (answers s.senses) _ acted.acts) j j2 f)

  two_live : (v : ℕ) (r u : PutRow) → In r (recs v).puts → has_cut r.num (recs v).cuts ≡ false
      → In u (recs v).puts → has_cut u.num (recs v).cuts ≡ false → u.stamp ≡ r.stamp → Past k r.stamp → u.num ≡ r.num
  two_live v r u i live j live' e past =
      let a = live_kept v r i live past in
      let b = live_kept v u j live' (subst (Past k) (sym e) past) in
      let own : r.num.agent ≡ u.num.agent = core.own (put_msg v r) ((core.rec v).puts r i).0
      ∙ (ap (λ (z : Stamp). z.agent) (sym e) ∙ sym (core.own (put_msg v u) ((core.rec v).puts u j).0)) in
      same_write r.num.agent a.1 b.1 a.3 b.3 a.5 r.num u.num
      a.7 b.7 a.0 a.2 (subst (λ z. In b.1 (get_or agents z no_agent).steps) (sym own) b.2) a.4 b.4 a.6 a.12 b.12
      (a.11 ∙ (sym e ∙ sym b.11)) (a.9 ∙ sym b.9)

  records : Records p k n val last Live
  records = record {
    after_put = λ v s x live past.
        after_put_in (recs v) s x (core.rec v).solid.puts (core.rec v).solid.puts_once live (λ u j lv e.
        two_live v live.0 u live.1 live.2 j lv (e ∙ sym live.3) (subst (Past k) (sym live.3) past));
    steady = λ v c d le none. steady_in (recs v) c d le none;
    at_last = λ v c u none. at_last_in (recs v) k c u none;
  }

  -- a kept write below the line is live
  kept_live : (i : ℕ) (s : KeptStep) (a : KeptAct) (before : List ℤ) (w : Write) → i < length agents → In
      s (get_or agents i no_agent).steps → s.act ≡ Some a → Acted issued (rule_at p i) before s a → s.stamp.agent ≡ i
      → In w a.entry.writes → Past k s.stamp → Live w.var s.stamp w.change
  kept_live i s a before w lt in' act acted own j past =
      let m = writes_in issued s.stamp a.nums a.entry.writes w acted.writes j in
      let row : PutRow = record { num = m.0; stamp = s.stamp; change = w.change } in
      let low : NotPast l s.stamp = (core.agent i lt).low s in' in
      let mine : m.0.agent ≡ i = core.own (put_msg w.var row) m.2 ∙ own in
      let kept : 1 ≤ kept_writes m.0 (get_or agents m.0.agent no_agent) =
      subst (λ z. 1 ≤ kept_writes m.0 (get_or agents z no_agent))
      (sym mine) (tally_in (num_eq m.0) (write_nums (get_or agents i no_agent).steps)
      m.0 (in_write_nums (get_or agents i no_agent).steps s a m.0 in' act m.1) (num_eq_self m.0)) in
      let cuts : tally (λ (c : CutRow). num_eq m.0 c.num) (recs w.var).cuts ≡ 0 =
      (let one = core.cut_once w.var row m.2 low in omega arith) in
      let none : tally (is_put m.0) letters ≡ 0 =
      tally_none (is_put m.0) letters (λ x h. elim (cases_Bool (is_put m.0 x)) [
        | inr f ↦ f
        | inl f ↦ absurd (
            let c = is_put_is m.0 x f in
            let g : In (put_msg c.0 c.1) issued = subst (MailOk p issued) c.2 (core.mail x h).0 in
            let e = put_same c.0 w.var c.1 row (core.unique _ _ g m.2 c.3) in
            past_not k s.stamp past (subst (NotPast k) (ap stamp_of c.2 ∙ e.1) (quiet x h)))
      ]) in
      let here = tally_some (λ (c : PutRow). num_eq m.0 c.num)
      (recs w.var).puts (let one = (core.put_once w.var row m.2 low).1 in omega arith) in
      let same : here.0.num ≡ m.0 = sym (nums_same m.0 here.0.num here.2) in
      let e = put_same w.var w.var here.0 row (core.unique _ _ ((core.rec w.var).puts here.0 here.1).0 m.2 same) in (
        here.0,
        here.1,
        cut_some here.0.num (recs w.var).cuts
            (subst (λ z. tally (λ (c : CutRow). num_eq z c.num) (recs w.var).cuts ≡ 0) (sym same) cuts),
        e.1,
        e.2,
      )

  abbrev pub rests : List (List KeptStep)
  rests = map (λ (a : Agent). a.steps) agents

  pub len_rests : length rests ≡ length agents
  len_rests = length-map agents (λ (a : Agent). a.steps)

  pub rest_i : (i : ℕ) → i < length agents → get_or rests i [] ≡ (get_or agents i no_agent).steps
  rest_i i lt = get_or-map (λ (a : Agent). a.steps) agents i no_agent [] lt

  zero_stamp : Stamp
  zero_stamp = record { time = 0; agent = 0 }

  value_at_zero : (r : Parts) → record_value r zero_stamp ≡ r.base
  unfolding zero_stamp
  value_at_zero r = value_none (seen r.cuts (record { time = 0; agent = 0 })) r.puts r.base (λ u i.
      and_false (is_live r.cuts u) (stamp_lt u.stamp (record { time = 0; agent = 0 }))
      (lt_false u.stamp (record { time = 0; agent = 0 }) (grind arith)))

  ready : Ready p k n val last Live q rests zero_stamp
  unfolding zero_stamp
  ready = record {
    turns = len_rests ∙ core.same_agents;
    under = under_zero k;
    size = refl;
    rows = core.same_plan;
    plan = plan;
    good = λ i lt. (let lt' : i < length agents = omega (arith, lt, len_rests) in let ok = core.agent i lt' in
        subst (λ z. Good p k n val last Live i (get_or q.agents i no_turn).regs (get_or q.agents i no_turn).next z)
        (sym (rest_i i lt'))
        (chain_good i _ _ (get_or agents i no_agent).steps _ ok.chain ok.senses ok.low ok.wake));
    values = λ v lt. core.base v lt ∙ sym (value_at_zero (recs v));
    from = λ i t lt e. grind arith;
    puts = λ e h w j.
        let f = in_flat (λ (ss : List KeptStep). hand_out k ss) rests [] e h in
        let lt' : f.0 < length agents = (let g = f.1 in omega (arith, g, len_rests)) in
        let ok = core.agent f.0 lt' in
        let o =
        hand_in k (get_or agents f.0 no_agent).steps e (subst (λ z. In e (hand_out k z)) (rest_i f.0 lt') f.2) in
        let c = chain_acted issued p.horizon (rule_at p f.0) f.0 _ _ _ _ o.0 o.2 ok.chain o.1 o.3 in
        let at_s : o.0.stamp ≡ e.stamp = sym (ap (λ (z : Entry). z.stamp) (o.4 ∙ c.1.entry)) in
        subst (λ z. Live w.var z w.change)
        at_s (kept_live f.0 o.0 o.2 c.0 w lt' o.1 o.3 c.1 c.2 (subst (λ (z : Entry). In w z.writes) o.4 j) o.5);
    live = λ v s x live past le.
        let o = live_kept v live.0 live.1 live.2 (subst (Past k) (sym live.3) past) in
        let i : ℕ = live.0.num.agent in
        let ok = core.agent i o.0 in
        let h = in_hand k issued
        p.horizon (rule_at p i) i _ _ _ _ o.1 o.3 ok.chain o.2 o.4 (subst (Past k) (sym (o.11 ∙ live.3)) past) in (
          o.3.entry,
          flat_in (λ (ss : List KeptStep). hand_out k ss) rests [] o.3.entry
              i (omega (arith, o.0, len_rests)) (subst (λ z. In o.3.entry (hand_out k z)) (sym (rest_i i o.0)) h),
          ap (λ (z : Entry). z.stamp) o.6.entry ∙ (o.11 ∙ live.3),
          o.7,
          o.8,
          o.9,
        );
  }

  -- the steps below the line are the sequential turns from q on
  pub committed_turns : Reached p k n val last Live q rests
  committed_turns =
      reach p k n val last Live (length (all_out p k n val last Live rests)) q rests zero_stamp records ready refl
