-- What an agent that goes on asks or writes, where nothing but Wakes is on its way.
use Rattle.std.proofs.Common.{◌≡◌, ℕ, ◌+◌, ◌≤◌, inl, inr, true, false, List, [], ◌∷◌, ◌++◌, map, refl, arith, ap, ◌∙◌, subst, Option, None, ℤ}
use Rattle.pm_base.specs.declared.stamp.Num.{Num}
use Rattle.pm_base.specs.declared.stamp.Stamp.{Stamp}
use Rattle.pm_base.specs.declared.value.Change.{Change}
use Rattle.pm_base.specs.declared.value.Query.{Query}
use Rattle.pm_base.specs.declared.value.Query.TheVariants as query
use Rattle.pm_base.specs.declared.value.Window.{Window}
use Rattle.pm_base.specs.declared.value.Write.{Write}
use Rattle.pm_message.specs.declared.Message.{Message}
use Rattle.pm_message.specs.declared.Message.TheVariants as message
use Rattle.pm_plan.specs.declared.plan.Plan.{Plan}
use Rattle.pm_saved.specs.declared.kept.KeptSense.{KeptSense}
use Rattle.pm_saved.specs.declared.kept.KeptStep.{KeptStep}
use Rattle.pm_alp.specs.Agents.{Rule, puts_of}
use Rattle.pm_alp.specs.declared.agent.Awaited.{Awaited}
use Rattle.pm_queries.specs.declared.registered.Registered.{Registered}
use Rattle.pm_clp.specs.Clps.{ClpState}
use Rattle.pm_sim.proofs.Lanes.{sent_for}
use Rattle.pm_sim.proofs.Lists.{each_in}
use Rattle.pm_sim.specs.Sims.{Chain, In, one_if, tally, within}
use Rattle.pm_sim.specs.Worlds.{Mail, Posted, Process, addressed}
use Rattle.pm_sim.specs.Worlds.Process.{AtAgent}
use Rattle.pm_calm.specs.Phases.{AskAt, ClpAt, OverAt, Phase, RegAt, SenseAt, token}
use Rattle.pm_calm.specs.Phases.Phase.{Idle, Range, Single}

abbrev pub IsWake : Message → Type 0
IsWake m = (k : Num) × (z : Stamp) × (m ≡ message.Wake k z)

-- ---- what a chain of steps says

pub chain_agent : (issued : List Message) (h : ℕ) (prog : Rule) (i : ℕ) (regs : List ℤ) (next : Option ℕ)
    (ss : List KeptStep) (w : Option Awaited) → Chain issued h prog i regs next ss w
    → (z : KeptStep) → In z ss → z.stamp.agent ≡ i
chain_agent issued h prog i regs next [] w c z j = absurd j
chain_agent issued h prog i regs next (s ∷ ss) w (t, e, es, asked, rest) z (inl f) =
    ap (λ (y : KeptStep). y.stamp.agent) f ∙ ap (λ (y : Stamp). y.agent) es
chain_agent issued h prog i regs next (s ∷ ss) w (t, e, es, asked, inl r) z (inr j) = absurd (subst (In z) r.1 j)
chain_agent issued h prog i regs next (s ∷ ss) w (t, e, es, asked, inr r) z (inr j) =
    chain_agent issued h prog i r.0.regs (within h (t + r.0.wait)) ss w r.3 z j

-- where a sense is open, no Wake is awaited
pub open_alone : (issued : List Message) (h : ℕ) (prog : Rule) (i : ℕ) (regs : List ℤ) (next : Option ℕ)
    (ss : List KeptStep) (w : Option Awaited) → Chain issued h prog i regs next ss w
    → (z : KeptStep) (x : KeptSense) → In z ss → In x z.senses → x.complete ≡ false → w ≡ None
open_alone issued h prog i regs next [] w c z x j k o = absurd j
open_alone issued h prog i regs next (s ∷ ss) w (t, e, es, asked, inl r) z x j k o = r.2
open_alone issued h prog i regs next (s ∷ ss) w (t, e, es, asked, inr r) z x (inl f) k o =
    absurd (let a = each_in (λ (y : KeptSense). y.complete ≡ true) s.senses x r.2.complete
    (subst (λ (y : KeptStep). In x y.senses) f k) in cc)
open_alone issued h prog i regs next (s ∷ ss) w (t, e, es, asked, inr r) z x (inr j) k o =
    open_alone issued h prog i r.0.regs (within h (t + r.0.wait)) ss w r.3 z x j k o

-- ---- phases

-- the phase in which a query is asked
abbrev pub asks : Num → Query → Phase
asks n (query.One v) = Single n v
asks n (query.Class k w) = Range n k w

reg_up : (p : Plan) (over : Num → ℕ → Window → Type 0) (ph : Phase) (r : Registered) → OverAt p over r
    → RegAt p over ph r
reg_up p over Idle r h = h
reg_up p over (Single n x) r h = h
reg_up p over (Range n i w) r h = inl h

pub clp_up : (p : Plan) (s : Stamp) (over : Num → ℕ → Window → Type 0) (ph : Phase) (c : ClpState)
    → ClpAt p s over Idle c → ClpAt p s over ph c
clp_up p s over ph c h = record {
  records = h.records;
  stamps = h.stamps;
  regs = λ r i. reg_up p over ph r (h.regs r i);
  line = h.line;
}

wake_token : (ph : Phase) (k : Num) (z : Stamp) → token ph (message.Wake k z) ≡ false
wake_token Idle k z = refl
wake_token (Single n v) k z = refl
wake_token (Range n i w) k z = refl

pub wakes_none : (ph : Phase) (xs : List Mail) → ((x : Mail) → In x xs → IsWake x.message)
    → tally (λ (x : Mail). token ph x.message) xs ≡ 0
wakes_none ph [] h = refl
wakes_none ph (x ∷ xs) h =
    let o = h x (inl refl) in
    let e : token ph x.message ≡ false = ap (token ph) o.2 ∙ wake_token ph o.0 o.1 in
    rw e (wakes_none ph xs (λ y i. h y (inr i)))

-- a complete sense with another number
pub done_at : (n : Num) (q : Query) (x : KeptSense) → x.complete ≡ true → (x.num ≡ n → ⊥) → SenseAt (asks n q) x
done_at n (query.One v) x e ne = inl (e, ne)
done_at n (query.Class k w) x e ne = inl (e, ne)

pub asked_at : (n : Num) (q : Query) (x : KeptSense) → x.num ≡ n → x.complete ≡ false → x.query ≡ q
    → SenseAt (asks n q) x
asked_at n (query.One v) x a b c = inr (a, b, c)
asked_at n (query.Class k w) x a b c = inr (a, b, c)

pub ask_at : (over : Num → ℕ → Window → Type 0) (n : Num) (q : Query) (f : Process) → AskAt (asks n q) over f n q
ask_at over n (query.One v) f = refl
ask_at over n (query.Class k w) f = (refl, refl, refl)

-- at most one token is sent
pub ask_one : (n : Num) (z : Stamp) (q : Query) → one_if (token (asks n q) (message.Ask n z q)) 0 ≤ 1
ask_one n z (query.One v) = omega arith
ask_one n z (query.Class k w) = omega arith

-- a letter of an agent's act is a Put or its Wake
pub puts_are : (a : ℕ) (s : Stamp) (n : ℕ) (ws : List Write) (m : Message) → In m (puts_of a s n ws)
    → (k : Num) × (v : ℕ) × (g : Change) × (m ≡ message.Put k s v g)
puts_are a s n [] m i = absurd i
puts_are a s n (w ∷ ws) m (inl e) = (record { agent = a; seq = n }, w.var, w.change, e)
puts_are a s n (w ∷ ws) m (inr j) = puts_are a s (n + 1) ws m j

pub puts_none : (a h : ℕ) (s : Stamp) (n : ℕ) (ws : List Write) (rest : List Posted)
    → sent_for (AtAgent a) (map (addressed a h) (puts_of a s n ws) ++ rest) ≡ sent_for (AtAgent a) rest
puts_none a h s n [] rest = refl
puts_none a h s n (w ∷ ws) rest = puts_none a h s (n + 1) ws rest
