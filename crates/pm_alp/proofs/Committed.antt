-- A line's steps are never touched again.
use Rattle.std.proofs.Common.{◌≡◌, refl, sym, ap, ◌∙◌, subst, ℕ, zero, ◌+◌, ◌-◌, ◌<◌, ◌≤◌, ◌^◌, nat_le, Bool, true, false}
use Rattle.std.proofs.Common.{◌⊎◌, inl, inr, if◌then◌else◌, ℤ, List, [], ◌∷◌, ◌++◌, map, min, Option, Some, None, IfSome}
use Rattle.std.proofs.Common.{length, arith}
use Rattle.std.proofs.Math.Nat.{min-eq_left, min-le_right, min_comm}
use Rattle.std.proofs.lemmas.Bool.{false≢true, cases_Bool}
use Rattle.std.proofs.lemmas.Bool.Decides.{nat_tests}
use Rattle.std.specs.List.{AllByRecursion}
use Rattle.pm_base.specs.Stamps.{is_below, num_eq, stamp_lt}
use Rattle.pm_base.specs.declared.rows.Act.{Act}
use Rattle.pm_base.specs.declared.rows.Entry.{Entry}
use Rattle.pm_base.specs.declared.rows.GiveRow.{GiveRow}
use Rattle.pm_base.specs.declared.stamp.Line.{Line}
use Rattle.pm_base.specs.declared.stamp.Line.TheVariants as line
use Rattle.pm_base.specs.declared.stamp.Num.{Num}
use Rattle.pm_base.specs.declared.stamp.Stamp.{Stamp}
use Rattle.pm_base.specs.declared.value.Query.{Query}
use Rattle.pm_base.specs.declared.value.Query.TheVariants as query
use Rattle.pm_base.specs.declared.value.Write.{Write}
use Rattle.pm_message.specs.Messages.{stamp_of}
use Rattle.pm_message.specs.declared.Message.{Message}
use Rattle.pm_message.specs.declared.Message.TheVariants as message
use Rattle.pm_model.specs.Runs.{later}
use Rattle.pm_step.specs.declared.Next.{Next}
use Rattle.pm_step.specs.declared.Next.TheVariants as next
use Rattle.pm_saved.specs.Laws.{StandsAt}
use Rattle.pm_saved.specs.Senses.{answer, answers, hits_eq, kept_turn}
use Rattle.pm_saved.specs.Spots.{Spot, find}
use Rattle.pm_saved.specs.Steps.{act_cuts, cuts_of, hand_one, hand_out, keep_one, left_of, regs_after, withdrawn}
use Rattle.pm_saved.specs.declared.kept.KeptAct.{KeptAct}
use Rattle.pm_saved.specs.declared.kept.KeptSense.{KeptSense}
use Rattle.pm_saved.specs.declared.kept.KeptStep.{KeptStep}
use Rattle.pm_saved.proofs.KeptLaws.{find-stands}
use Rattle.pm_alp.specs.Agents.{Actor, Sends, agent_after, agent_committed, at_open, first_sends, finished, go_on}
use Rattle.pm_alp.specs.Agents.{kept_in, next_wake, no_sends, on_finish, on_give, on_wake, puts_of, rolled_back}
use Rattle.pm_alp.specs.Agents.{wake_of, went_on, with_hit}
use Rattle.pm_alp.specs.Committed.{AreInOrder, IsOrderly, IsOwn, IsOwnStep, Stay, WaitsFrom, all_touches, happens}
use Rattle.pm_alp.specs.Committed.{touches}
use Rattle.pm_alp.specs.Laws.{with_row}
use Rattle.pm_alp.specs.States.{Fixed, awaited_at}
use Rattle.pm_alp.specs.Views.{first_agent}
use Rattle.pm_alp.specs.declared.agent.Agent.{Agent}
use Rattle.pm_alp.specs.declared.agent.Awaited.{Awaited}

-- of all of a list
all-append : {X : Type 0} (P : X → Type 0) (xs ys : List X) → AllByRecursion P xs → AllByRecursion P ys
    → AllByRecursion P (xs ++ ys)
all-append P [] ys h k = k
all-append P (x ∷ xs) ys h k = (h.0, all-append P xs ys h.1 k)

all-front : {X : Type 0} (P : X → Type 0) (xs ys : List X) → AllByRecursion P (xs ++ ys) → AllByRecursion P xs
all-front P [] ys h = tt
all-front P (x ∷ xs) ys h = (h.0, all-front P xs ys h.1)

all-back : {X : Type 0} (P : X → Type 0) (xs ys : List X) → AllByRecursion P (xs ++ ys) → AllByRecursion P ys
all-back P [] ys h = h
all-back P (x ∷ xs) ys h = all-back P xs ys h.1

all-map : {X Y : Type 0} (P : Y → Type 0) (f : X → Y) (xs : List X) → AllByRecursion (λ x. P (f x)) xs
    → AllByRecursion P (map f xs)
all-map P f [] h = tt
all-map P f (x ∷ xs) h = (h.0, all-map P f xs h.1)

-- a moment of the agent from the line on
record Ok (n : ℕ) (l : Line) (s : Stamp) : Type 0 where
  own : IsOwn n s
  from : is_below s l ≡ false

-- no earlier moment of the same agent is below the line either
not-below : (s t : Stamp) (l : Line) → s.agent ≡ t.agent → s.time ≤ t.time → is_below s l ≡ false
    → is_below t l ≡ false
not-below s t (line.At u) e le h = grind (arith, nat_tests)
not-below s t line.End e le h = absurd (false≢true (sym h))

later-small : (t w : ℕ) → later t w < 2 ^ 64
later-small t w = let h : min (t + w) (2 ^ 64 - 1) ≤ 2 ^ 64 - 1 = min-le_right (t + w) (2 ^ 64 - 1) in omega (arith, h)

min-low : (t a b : ℕ) → t ≤ a → t ≤ b → t ≤ min a b
min-low t a b h k = elim (cases_Bool (nat_le a b)) [
  | inl e ↦ (let le : a ≤ b = grind (arith, nat_tests, e) in subst (λ z. t ≤ z) (sym (min-eq_left le)) h)
  | inr e ↦ (let le : b ≤ a = grind (arith, nat_tests, e) in subst (λ z. t ≤ z) (sym (min_comm a b ∙ min-eq_left le)) k)
]

later-low : (t w : ℕ) → t < 2 ^ 64 → t ≤ later t w
later-low t w h = min-low t (t + w) (2 ^ 64 - 1) (omega arith) (omega (arith, h))

-- a kept step of the agent from the line on
record OkStep (n : ℕ) (l : Line) (k : KeptStep) : Type 0 where
  own : IsOwnStep n k
  from : is_below k.stamp l ≡ false

abbrev SoAre : ℕ → Line → List KeptStep → Type 0
SoAre n l ks = AllByRecursion (OkStep n l) ks

abbrev OkWake : ℕ → Line → Option Awaited → Type 0
OkWake n l w = IfSome w (λ (x : Awaited). Ok n l x.stamp)

-- the same of all that an agent keeps and awaits
record Stands (n : ℕ) (l : Line) (a : Agent) : Type 0 where
  steps : SoAre n l a.steps
  awaited : OkWake n l a.awaited

abbrev Sent : Line → List Message → Type 0
Sent l ms = AllByRecursion (λ m. is_below (stamp_of m) l ≡ false) ms

-- and of what it sends
record Holds (n : ℕ) (l : Line) (r : Sends) : Type 0 where
  stands : Stands n l r.agent
  sent : Sent l r.sent

puts-ok : (l : Line) (a : ℕ) (s : Stamp) (n : ℕ) (ws : List Write) → is_below s l ≡ false → Sent l (puts_of a s n ws)
puts-ok l a s n [] h = tt
puts-ok l a s n (w ∷ ws) h = (h, puts-ok l a s (n + 1) ws h)

cuts-ok : (l : Line) (s : Stamp) (ns : List Num) (ws : List Write) → is_below s l ≡ false → Sent l (cuts_of s ns ws)
cuts-ok l s [] ws h = tt
cuts-ok l s (n ∷ ns) [] h = tt
cuts-ok l s (n ∷ ns) (w ∷ ws) h = (h, cuts-ok l s ns ws h)

act-ok : (l : Line) (s : Stamp) (o : Option KeptAct) → is_below s l ≡ false → Sent l (act_cuts s o)
act-ok l s None h = tt
act-ok l s (Some a) h = cuts-ok l s a.nums a.entry.writes h

withdrawn-ok : (n : ℕ) (l : Line) (ks : List KeptStep) → SoAre n l ks → Sent l (withdrawn ks)
withdrawn-ok n l [] h = tt
withdrawn-ok n l (k ∷ ks) h =
    all-append _ (act_cuts k.stamp k.act) (withdrawn ks) (act-ok l k.stamp k.act h.0.from) (withdrawn-ok n l ks h.1)

ok-later : (n : ℕ) (l : Line) (s : Stamp) (w : ℕ) → Ok n l s
    → Ok n l (record { time = later s.time w; agent = n })
ok-later n l s w h = record {
  own = record { agent = refl; small = later-small s.time w };
  from = not-below s (record { time = later s.time w; agent = n }) l h.own.agent
      (later-low s.time w h.own.small) h.from;
}

wake-ok : (b : Bool) (n : ℕ) (l : Line) (s : Stamp) (seq : ℕ) (d : Act) → Ok n l s → OkWake n l (next_wake b n s seq d)
wake-ok true n l s seq d h = ok-later n l s d.wait h
wake-ok false n l s seq d h = tt

wake-sent : (n : ℕ) (l : Line) (w : Option Awaited) → OkWake n l w → Sent l (wake_of w)
wake-sent n l None h = tt
wake-sent n l (Some w) h = (h.from, tt)

went-ok : (p : Actor) (l : Line) (base : List ℤ) (front : List KeptStep) (s : Stamp) (senses : List KeptSense) (seq : ℕ)
    (x : Next) → SoAre p.agent l front → Ok p.agent l s → Holds p.agent l (went_on p base front s senses seq x)
went-ok p l base front s senses seq (next.Ask q) h k = record {
  stands = record {
    steps = all-append _ front _ h (record { own = record { moment = k.own; entry = tt }; from = k.from }, tt);
    awaited = tt;
  };
  sent = (k.from, tt);
}
went-ok p l base front s senses seq (next.Act d) h k =
    let b = nat_le (later s.time d.wait) p.horizon in
    let wake = wake-ok b p.agent l s seq d k in
    record {
      stands = record {
        steps = all-append _ front _ h (record { own = record { moment = k.own; entry = refl }; from = k.from }, tt);
        awaited = wake;
      };
      sent = all-append _ (puts_of p.agent s seq d.writes) _ (puts-ok l p.agent s seq d.writes k.from)
          (wake-sent p.agent l (next_wake b p.agent s seq d) wake);
    }

goes-ok : (p : Actor) (l : Line) (base : List ℤ) (front : List KeptStep) (s : Stamp) (senses : List KeptSense) (seq : ℕ)
    → SoAre p.agent l front → Ok p.agent l s → Holds p.agent l (go_on p base front s senses seq)
goes-ok p l base front s senses seq h k =
    went-ok p l base front s senses seq (p.acts s (regs_after base front) (answers senses)) h k

-- what a place among the kept steps is made of
record OkAt (n : ℕ) (l : Line) (p : Spot) : Type 0 where
  front : SoAre n l p.front
  here : OkStep n l p.here
  rest : SoAre n l p.rest

spot-ok : (n : ℕ) (l : Line) (ks : List KeptStep) (p : Spot) → ks ≡ p.front ++ p.here ∷ p.rest → SoAre n l ks
    → OkAt n l p
spot-ok n l ks p e h =
    let all = subst (SoAre n l) e h in
    let back = all-back (OkStep n l) p.front (p.here ∷ p.rest) all in
    record { front = all-front (OkStep n l) p.front (p.here ∷ p.rest) all; here = back.0; rest = back.1 }

step-ok : (n : ℕ) (l : Line) (k : KeptStep) → OkStep n l k → Ok n l k.stamp
step-ok n l k h = record { own = h.own.moment; from = h.from }

still-ok : (n : ℕ) (l : Line) (a : Agent) → Stands n l a → Holds n l (no_sends a)
still-ok n l a h = record { stands = h; sent = tt }

kept-ok : (n : ℕ) (l : Line) (a : Agent) (p : Spot) (x : KeptSense) → Stands n l a → OkAt n l p
    → Holds n l (no_sends (kept_in a p x))
kept-ok n l a p x h k = record {
  stands = record {
    steps = all-append _ p.front _ k.front (
      record {
        own = record { moment = k.here.own.moment; entry = k.here.own.entry };
        from = k.here.from;
      },
      k.rest,
    );
    awaited = h.awaited;
  };
  sent = tt;
}

back-ok : (p : Actor) (l : Line) (a : Agent) (s : Spot) (x : KeptSense) → OkAt p.agent l s
    → Holds p.agent l (rolled_back p a s x)
back-ok p l a s x k =
    let goes = goes-ok p l a.base s.front s.here.stamp (s.before ++ x ∷ []) a.seq k.front
    (step-ok p.agent l s.here k.here) in
    record {
      stands = goes.stands;
      sent = all-append _ (withdrawn (s.here ∷ s.rest)) _ (withdrawn-ok p.agent l (s.here ∷ s.rest) (k.here, k.rest))
          goes.sent;
    }

either : (n : ℕ) (l : Line) (b : Bool) (x y : Sends) → Holds n l x → Holds n l y → Holds n l (if b then x else y)
either n l true x y h k = h
either n l false x y h k = k

open-ok : (p : Actor) (l : Line) (a : Agent) (s : Spot) (q : Query) (x : KeptSense) → Stands p.agent l a
    → OkAt p.agent l s → Holds p.agent l (at_open p a s q x)
open-ok p l a s (query.One v) x h k =
    goes-ok p l a.base s.front s.here.stamp _ a.seq k.front (step-ok p.agent l s.here k.here)
open-ok p l a s (query.Class c w) x h k = kept-ok p.agent l a s x h k

hit-ok : (p : Actor) (l : Line) (a : Agent) (s : Spot) (x : KeptSense) → Stands p.agent l a → OkAt p.agent l s
    → Holds p.agent l (with_hit p a s x)
hit-ok p l a s x h k = either p.agent l s.sense.complete _ _
    (either p.agent l (hits_eq (answer x.hits) (answer s.sense.hits)) _ _ (kept-ok p.agent l a s x h k)
    (back-ok p l a s x k))
    (open-ok p l a s s.sense.query x h k)

give-ok : (p : Actor) (l : Line) (a : Agent) (r : GiveRow) (o : Option Spot) → Stands p.agent l a
    → IfSome o (StandsAt r.num a.steps) → Holds p.agent l (on_give p a r o)
give-ok p l a r None h k = still-ok p.agent l a h
give-ok p l a r (Some s) h k = either p.agent l (nat_le r.turn (kept_turn r.var s.sense.hits)) _ _
    (still-ok p.agent l a h)
    (hit-ok p l a s (with_row r s.sense) h (spot-ok p.agent l a.steps s k.steps_are h.steps))

wakes-ok : (p : Actor) (l : Line) (a : Agent) (n : Num) (w : Option Awaited) → Stands p.agent l a
    → OkWake p.agent l w → Holds p.agent l (on_wake p a n w)
wakes-ok p l a n None h k = still-ok p.agent l a h
wakes-ok p l a n (Some w) h k = either p.agent l (num_eq n w.num) _ _
    (goes-ok p l a.base a.steps w.stamp [] a.seq h.steps k) (still-ok p.agent l a h)

ended-ok : (b : Bool) (p : Actor) (l : Line) (a : Agent) (s : Spot) (q : Query) → Stands p.agent l a
    → OkAt p.agent l s → Holds p.agent l (finished b p a s q)
ended-ok true p l a s q h k = still-ok p.agent l a h
ended-ok false p l a s (query.One v) h k = still-ok p.agent l a h
ended-ok false p l a s (query.Class c w) h k =
    goes-ok p l a.base s.front s.here.stamp _ a.seq k.front (step-ok p.agent l s.here k.here)

finish-ok : (p : Actor) (l : Line) (a : Agent) (n : Num) (o : Option Spot) → Stands p.agent l a
    → IfSome o (StandsAt n a.steps) → Holds p.agent l (on_finish p a o)
finish-ok p l a n None h k = still-ok p.agent l a h
finish-ok p l a n (Some s) h k =
    ended-ok s.sense.complete p l a s s.sense.query h (spot-ok p.agent l a.steps s k.steps_are h.steps)

-- a delivery touches no moment below the line, and leaves none
after-ok : (p : Actor) (l : Line) (a : Agent) (m : Message) → Stands p.agent l a → Holds p.agent l (agent_after p a m)
after-ok p l a (message.Wake n s) h = wakes-ok p l a n a.awaited h h.awaited
after-ok p l a (message.Give r) h = give-ok p l a r (find r.num a.steps) h (find-stands r.num a.steps)
after-ok p l a (message.Ask n s q) h = still-ok p.agent l a h
after-ok p l a (message.Put n s v c) h = still-ok p.agent l a h
after-ok p l a (message.Cut n s v) h = still-ok p.agent l a h
after-ok p l a (message.Finish n s) h = finish-ok p l a n (find n a.steps) h (find-stands n a.steps)
after-ok p l a (message.Move v s r) h = still-ok p.agent l a h
after-ok p l a (message.Grow k s u w) h = still-ok p.agent l a h

-- what another line leaves, and what it gives out
left-one : (n : ℕ) (l : Line) (b : Bool) (k : KeptStep) (o : Option KeptAct) (ks rest : List KeptStep)
    → SoAre n l (k ∷ ks) → SoAre n l rest → SoAre n l (keep_one b k o ks rest)
left-one n l b k None ks rest h g = h
left-one n l false k (Some a) ks rest h g = h
left-one n l true k (Some a) ks rest h g = g

left-ok : (n : ℕ) (l u : Line) (ks : List KeptStep) → SoAre n l ks → SoAre n l (left_of u ks)
left-ok n l u [] h = tt
left-ok n l u (k ∷ ks) h =
    left-one n l (is_below k.stamp u) k k.act ks (left_of u ks) h (left-ok n l u ks h.1)

abbrev Entered : Line → List Entry → Type 0
Entered l es = AllByRecursion (λ (e : Entry). is_below e.stamp l ≡ false) es

given-one : (l : Line) (b : Bool) (k : KeptStep) (o : Option KeptAct) (es : List Entry)
    → IfSome o (λ (a : KeptAct). a.entry.stamp ≡ k.stamp) → is_below k.stamp l ≡ false → Entered l es
    → Entered l (hand_one b k o es)
given-one l b k None es e h g = tt
given-one l false k (Some a) es e h g = tt
given-one l true k (Some a) es e h g = (ap (λ s. is_below s l) e ∙ h, g)

given-ok : (n : ℕ) (l u : Line) (ks : List KeptStep) → SoAre n l ks → Entered l (hand_out u ks)
given-ok n l u [] h = tt
given-ok n l u (k ∷ ks) h =
    given-one l (is_below k.stamp u) k k.act (hand_out u ks) h.0.own.entry h.0.from (given-ok n l u ks h.1)

abbrev Stamps : Line → List Stamp → Type 0
Stamps l ss = AllByRecursion (λ (s : Stamp). is_below s l ≡ false) ss

happens-ok : (p : Actor) (l : Line) (a : Agent) (x : Message ⊎ Line) → Stands p.agent l a
    → Stands p.agent l (happens p a x) × Stamps l (touches p a x)
happens-ok p l a (inl m) h =
    let k = after-ok p l a m h in (k.stands, all-map (λ s. is_below s l ≡ false) stamp_of (agent_after p a m).sent k.sent)
happens-ok p l a (inr u) h = (
  record { steps = left-ok p.agent l u a.steps h.steps; awaited = h.awaited },
  all-map (λ s. is_below s l ≡ false) (λ (e : Entry). e.stamp) (hand_out u a.steps)
      (given-ok p.agent l u a.steps h.steps),
)

all-ok : (p : Actor) (l : Line) (a : Agent) (xs : List (Message ⊎ Line)) → Stands p.agent l a
    → Stamps l (all_touches p a xs)
all-ok p l a [] h = tt
all-ok p l a (x ∷ xs) h =
    let k = happens-ok p l a x h in
    all-append _ (touches p a x) (all_touches p (happens p a x) xs) k.1 (all-ok p l (happens p a x) xs k.0)

-- after a step from the line on all others are
order-from : (n : ℕ) (l : Line) (s : Stamp) (ks : List KeptStep) (w : Option Awaited) → Ok n l s
    → AreInOrder n s.time ks w → SoAre n l ks
order-from n l s [] w h k = tt
order-from n l s (k ∷ ks) w h (own, (le, rest)) =
    let from = not-below s k.stamp l (h.own.agent ∙ sym own.moment.agent) le h.from in
    (record { own = own; from = from }, order-from n l k.stamp ks w (record { own = own.moment; from = from }) rest)

first-from : (n t : ℕ) (l : Line) (k : KeptStep) (ks : List KeptStep) (w : Option Awaited)
    → AreInOrder n t (k ∷ ks) w → is_below k.stamp l ≡ false → SoAre n l (k ∷ ks)
first-from n t l k ks w h e = (
  record { own = h.0; from = e },
  order-from n l k.stamp ks w (record { own = h.0.moment; from = e }) h.1.1,
)

-- a line leaves the steps from it on
leaves-one : (n t : ℕ) (l : Line) (b : Bool) (k : KeptStep) (o : Option KeptAct) (ks rest : List KeptStep)
    (w : Option Awaited) → is_below k.stamp l ≡ b → k.act ≡ o → (k.act ≡ None → is_below k.stamp l ≡ false)
    → AreInOrder n t (k ∷ ks) w → SoAre n l rest → SoAre n l (keep_one b k o ks rest)
leaves-one n t l b k None ks rest w e f g h r = first-from n t l k ks w h (g f)
leaves-one n t l false k (Some a) ks rest w e f g h r = first-from n t l k ks w h e
leaves-one n t l true k (Some a) ks rest w e f g h r = r

leaves-from : (n t : ℕ) (l : Line) (ks : List KeptStep) (w : Option Awaited) → AreInOrder n t ks w
    → AllByRecursion (λ (k : KeptStep). k.act ≡ None → is_below k.stamp l ≡ false) ks → SoAre n l (left_of l ks)
leaves-from n t l [] w h g = tt
leaves-from n t l (k ∷ ks) w h g =
    leaves-one n t l (is_below k.stamp l) k k.act ks (left_of l ks) w refl refl g.0 h
    (leaves-from n k.stamp.time l ks w h.1.1 g.1)

awaits-own : (n t : ℕ) (ks : List KeptStep) (w : Option Awaited) → AreInOrder n t ks w
    → IfSome w (λ (x : Awaited). IsOwn n x.stamp)
awaits-own n t [] None h = tt
awaits-own n t [] (Some w) h = h.0
awaits-own n t (k ∷ ks) w h = awaits-own n k.stamp.time ks w h.1.1

awaits-from : (n : ℕ) (l : Line) (w : Option Awaited) → IfSome w (λ (x : Awaited). IsOwn n x.stamp)
    → IfSome w (λ (x : Awaited). is_below x.stamp l ≡ false) → OkWake n l w
awaits-from n l None h k = tt
awaits-from n l (Some w) h k = record { own = h; from = k }

-- it gives out entries of moments below it
below-one : (l : Line) (b : Bool) (k : KeptStep) (o : Option KeptAct) (es : List Entry)
    → is_below k.stamp l ≡ b → IfSome o (λ (a : KeptAct). a.entry.stamp ≡ k.stamp)
    → AllByRecursion (λ (e : Entry). is_below e.stamp l ≡ true) es
    → AllByRecursion (λ (e : Entry). is_below e.stamp l ≡ true) (hand_one b k o es)
below-one l b k None es e f h = tt
below-one l false k (Some a) es e f h = tt
below-one l true k (Some a) es e f h = (ap (λ s. is_below s l) f ∙ e, h)

gives-below : (n t : ℕ) (l : Line) (ks : List KeptStep) (w : Option Awaited) → AreInOrder n t ks w
    → AllByRecursion (λ (e : Entry). is_below e.stamp l ≡ true) (hand_out l ks)
gives-below n t l [] w h = tt
gives-below n t l (k ∷ ks) w h =
    below-one l (is_below k.stamp l) k k.act (hand_out l ks) refl h.0.entry (gives-below n k.stamp.time l ks w h.1.1)

-- what a line gives out is never touched again
pub committed-stay : (p : Actor) (a : Agent) (l : Line) (xs : List (Message ⊎ Line)) → IsOrderly p.agent a
    → WaitsFrom l a → Stay p a l xs
committed-stay p a l xs h k = record {
  given = gives-below p.agent 0 l a.steps a.awaited h;
  untouched = all-ok p l (agent_committed l a) xs (record {
    steps = leaves-from p.agent 0 l a.steps a.awaited h k.unended;
    awaited = awaits-from p.agent l a.awaited (awaits-own p.agent 0 a.steps a.awaited h) k.awaited;
  });
}

-- at first there is no step
first-wake : (n horizon t : ℕ) (b : Bool) → t < 2 ^ 64
    → AreInOrder n 0 [] (if b then Some (record {
      num = record { agent = n; seq = 0 };
      stamp = record { time = t; agent = n };
    }) else None)
first-wake n horizon t true h = (record { agent = refl; small = h }, omega arith)
first-wake n horizon t false h = tt

pub first-order : (f : Fixed) (start : ℕ) → start < 2 ^ 64 → IsOrderly f.number (first_agent f start)
first-order f start h = first-wake f.number f.horizon start (nat_le start f.horizon) h

-- other steps from one on, in the same order
order-tail : (n t : ℕ) (front xs ys : List KeptStep) (v w : Option Awaited) → AreInOrder n t (front ++ xs) v
    → ((u : ℕ) → AreInOrder n u xs v → AreInOrder n u ys w) → AreInOrder n t (front ++ ys) w
order-tail n t [] xs ys v w h f = f t h
order-tail n t (k ∷ front) xs ys v w h f =
    (h.0, (h.1.0, order-tail n k.stamp.time front xs ys v w h.1.1 f))

wake-order : (b : Bool) (n : ℕ) (s : Stamp) (seq : ℕ) (d : Act) → IsOwn n s
    → AreInOrder n s.time [] (next_wake b n s seq d)
wake-order true n s seq d h =
    (record { agent = refl; small = later-small s.time d.wait }, later-low s.time d.wait h.small)
wake-order false n s seq d h = tt

went-order : (p : Actor) (base : List ℤ) (front : List KeptStep) (s : Stamp) (senses : List KeptSense) (seq : ℕ)
    (x : Next) (xs : List KeptStep) (v : Option Awaited) → AreInOrder p.agent 0 (front ++ xs) v
    → ((u : ℕ) → AreInOrder p.agent u xs v → IsOwn p.agent s × (u ≤ s.time))
    → IsOrderly p.agent (went_on p base front s senses seq x).agent
went-order p base front s senses seq (next.Ask q) xs v h f =
    order-tail p.agent 0 front xs _ v None h
    (λ u k. (record { moment = (f u k).0; entry = tt }, ((f u k).1, tt)))
went-order p base front s senses seq (next.Act d) xs v h f =
    let b = nat_le (later s.time d.wait) p.horizon in
    order-tail p.agent 0 front xs _ v (next_wake b p.agent s seq d) h
    (λ u k. (record { moment = (f u k).0; entry = refl }, ((f u k).1, wake-order b p.agent s seq d (f u k).0)))

goes-order : (p : Actor) (base : List ℤ) (front : List KeptStep) (s : Stamp) (senses : List KeptSense) (seq : ℕ)
    (xs : List KeptStep) (v : Option Awaited) → AreInOrder p.agent 0 (front ++ xs) v
    → ((u : ℕ) → AreInOrder p.agent u xs v → IsOwn p.agent s × (u ≤ s.time))
    → IsOrderly p.agent (go_on p base front s senses seq).agent
goes-order p base front s senses seq xs v h f =
    went-order p base front s senses seq (p.acts s (regs_after base front) (answers senses)) xs v h f

at-order : (p : Actor) (a : Agent) (s : Spot) (senses : List KeptSense) → IsOrderly p.agent a
    → a.steps ≡ s.front ++ s.here ∷ s.rest
    → IsOrderly p.agent (go_on p a.base s.front s.here.stamp senses a.seq).agent
at-order p a s senses h e =
    goes-order p a.base s.front s.here.stamp senses a.seq (s.here ∷ s.rest) a.awaited
    (subst (λ z. AreInOrder p.agent 0 z a.awaited) e h) (λ u k. (k.0.moment, k.1.0))

kept-order : (n : ℕ) (a : Agent) (s : Spot) (x : KeptSense) → IsOrderly n a → a.steps ≡ s.front ++ s.here ∷ s.rest
    → IsOrderly n (kept_in a s x)
kept-order n a s x h e =
    order-tail n 0 s.front (s.here ∷ s.rest) _ a.awaited a.awaited (subst (λ z. AreInOrder n 0 z a.awaited) e h)
    (λ u k. (record { moment = k.0.moment; entry = k.0.entry }, (k.1.0, k.1.1)))

either-order : (n : ℕ) (b : Bool) (x y : Sends) → IsOrderly n x.agent → IsOrderly n y.agent
    → IsOrderly n (if b then x else y).agent
either-order n true x y h k = h
either-order n false x y h k = k

open-order : (p : Actor) (a : Agent) (s : Spot) (q : Query) (x : KeptSense) → IsOrderly p.agent a
    → a.steps ≡ s.front ++ s.here ∷ s.rest → IsOrderly p.agent (at_open p a s q x).agent
open-order p a s (query.One v) x h e = at-order p a s _ h e
open-order p a s (query.Class c w) x h e = kept-order p.agent a s x h e

hit-order : (p : Actor) (a : Agent) (s : Spot) (x : KeptSense) → IsOrderly p.agent a
    → a.steps ≡ s.front ++ s.here ∷ s.rest → IsOrderly p.agent (with_hit p a s x).agent
hit-order p a s x h e = either-order p.agent s.sense.complete _ _
    (either-order p.agent (hits_eq (answer x.hits) (answer s.sense.hits)) _ _ (kept-order p.agent a s x h e)
    (at-order p a s (s.before ++ x ∷ []) h e))
    (open-order p a s s.sense.query x h e)

give-order : (p : Actor) (a : Agent) (r : GiveRow) (o : Option Spot) → IsOrderly p.agent a
    → IfSome o (StandsAt r.num a.steps) → IsOrderly p.agent (on_give p a r o).agent
give-order p a r None h k = h
give-order p a r (Some s) h k = either-order p.agent (nat_le r.turn (kept_turn r.var s.sense.hits)) _ _ h
    (hit-order p a s (with_row r s.sense) h k.steps_are)

wakes-order : (p : Actor) (a : Agent) (n : Num) → IsOrderly p.agent a → (w : Option Awaited) → a.awaited ≡ w
    → IsOrderly p.agent (on_wake p a n w).agent
wakes-order p a n h None e = h
wakes-order p a n h (Some w) e = either-order p.agent (num_eq n w.num) _ _
    (goes-order p a.base a.steps w.stamp [] a.seq [] (Some w)
    (subst (λ z. AreInOrder p.agent 0 z (Some w)) (sym (no-more a.steps))
    (subst (λ z. AreInOrder p.agent 0 a.steps z) e h)) (λ u k. k)) h
  where
    no-more : (ks : List KeptStep) → ks ++ [] ≡ ks
    no-more [] = refl
    no-more (k ∷ ks) = ap (λ z. k ∷ z) (no-more ks)

ended-order : (b : Bool) (p : Actor) (a : Agent) (s : Spot) (q : Query) → IsOrderly p.agent a
    → a.steps ≡ s.front ++ s.here ∷ s.rest → IsOrderly p.agent (finished b p a s q).agent
ended-order true p a s q h e = h
ended-order false p a s (query.One v) h e = h
ended-order false p a s (query.Class c w) h e = at-order p a s _ h e

finish-order : (p : Actor) (a : Agent) (n : Num) (o : Option Spot) → IsOrderly p.agent a
    → IfSome o (StandsAt n a.steps) → IsOrderly p.agent (on_finish p a o).agent
finish-order p a n None h k = h
finish-order p a n (Some s) h k = ended-order s.sense.complete p a s s.sense.query h k.steps_are

after-order : (p : Actor) (a : Agent) (m : Message) → IsOrderly p.agent a → IsOrderly p.agent (agent_after p a m).agent
after-order p a (message.Wake n s) h = wakes-order p a n h a.awaited refl
after-order p a (message.Give r) h = give-order p a r (find r.num a.steps) h (find-stands r.num a.steps)
after-order p a (message.Ask n s q) h = h
after-order p a (message.Put n s v c) h = h
after-order p a (message.Cut n s v) h = h
after-order p a (message.Finish n s) h = finish-order p a n (find n a.steps) h (find-stands n a.steps)
after-order p a (message.Move v s r) h = h
after-order p a (message.Grow k s u w) h = h

-- an earlier time to begin with
order-earlier : (n t u : ℕ) (ks : List KeptStep) (w : Option Awaited) → u ≤ t → AreInOrder n t ks w
    → AreInOrder n u ks w
order-earlier n t u [] None le h = tt
order-earlier n t u [] (Some w) le h = (h.0, let low = h.1 in omega (arith, le, low))
order-earlier n t u (k ∷ ks) w le h = (h.0, (let low = h.1.0 in omega (arith, le, low), h.1.1))

left-order-one : (n t : ℕ) (b : Bool) (k : KeptStep) (o : Option KeptAct) (ks rest : List KeptStep)
    (w : Option Awaited) → AreInOrder n t (k ∷ ks) w → AreInOrder n t rest w
    → AreInOrder n t (keep_one b k o ks rest) w
left-order-one n t b k None ks rest w h g = h
left-order-one n t false k (Some a) ks rest w h g = h
left-order-one n t true k (Some a) ks rest w h g = g

left-order : (n t : ℕ) (l : Line) (ks : List KeptStep) (w : Option Awaited) → AreInOrder n t ks w
    → AreInOrder n t (left_of l ks) w
left-order n t l [] w h = h
left-order n t l (k ∷ ks) w h =
    left-order-one n t (is_below k.stamp l) k k.act ks (left_of l ks) w h
    (order-earlier n k.stamp.time t (left_of l ks) w h.1.0 (left-order n k.stamp.time l ks w h.1.1))

-- whatever happens
pub order-stays : (p : Actor) (a : Agent) (x : Message ⊎ Line) → IsOrderly p.agent a
    → IsOrderly p.agent (happens p a x)
order-stays p a (inl m) h = after-order p a m h
order-stays p a (inr l) h = left-order p.agent 0 l a.steps a.awaited h
