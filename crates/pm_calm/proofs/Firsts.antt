-- First messages of links, where no link stands twice with messages.
use Rattle.std.proofs.Common.{◌≡◌, inl, inr, true, cond, List, [], ◌∷◌, ◌++◌, map, refl, ap, sym, ◌∙◌, subst, Option, Some, None}
use Rattle.std.proofs.lemmas.Bool.{cases_Bool}
use Rattle.pm_message.specs.declared.Message.{Message}
use Rattle.pm_plan.specs.declared.plan.Plan.{Plan}
use Rattle.pm_sim.proofs.Lanes.{Lanes, keys}
use Rattle.pm_sim.proofs.Letters.{in_map, process_self}
use Rattle.pm_sim.proofs.Lists.{in_cases, in_left, in_right}
use Rattle.pm_sim.proofs.Nexts.{taken_between}
use Rattle.pm_sim.proofs.Wires.{same_link, took}
use Rattle.pm_sim.specs.Bounds.{between}
use Rattle.pm_sim.specs.Routings.{mail_to}
use Rattle.pm_sim.specs.Sims.{In}
use Rattle.pm_sim.specs.Worlds.{Link, Mail, Process, Taken, has_mail, is_link, is_process, mail, mail_of, take_from}
use Rattle.pm_calm.specs.Lowest.{lowest_in}
use Rattle.pm_calm.proofs.Orders.{LowestIs, first_in, heads, lowest_is}

link_of : (to from : Process) (l : Link) → l.to ≡ to → l.from ≡ from → is_link to from l ≡ true
link_of to from l e f =
    let a : is_process l.to to ≡ true = ap (is_process l.to) (sym e) ∙ process_self l.to in
    let b : is_process l.from from ≡ true = ap (is_process l.from) (sym f) ∙ process_self l.from in
    rw (a, b)

-- a link's first message is the first that stands between its processes
pub head_between : (ls : List Link) → Lanes ls → (x : Mail) → In x (heads ls)
    → (ms : List Message) × (between x.to x.from ls ≡ x.message ∷ ms)
head_between [] h x i = absurd i
head_between (l ∷ ls) h x i = elim (in_cases (first_in l.to l.from l.messages) (heads ls) x i) [
  | inl j ↦ here l.messages refl j
  | inr j ↦ (let again = head_between ls h.1 x j in elim (cases_Bool (is_link x.to x.from l)) [
    | inr e ↦ (again.0, rw e again.1)
    | inl e ↦ absurd (let s = same_link x.to x.from l e in
        let a : between x.to x.from ls ≡ [] =
        subst (λ z. between z x.from ls ≡ []) s.0 (subst (λ z. between l.to z ls ≡ []) s.1 h.0) in
        cons_nil x.message again.0 (sym again.1 ∙ a))
  ])
]
  where
    cons_nil : (m : Message) (ms : List Message) → m ∷ ms ≡ [] → ⊥
    cons_nil m ms f = cc

    here : (ms : List Message) → l.messages ≡ ms → In x (first_in l.to l.from ms)
        → (rest : List Message) × (between x.to x.from (l ∷ ls) ≡ x.message ∷ rest)
    here [] f j = absurd j
    here (m ∷ ms) f (inl e) =
        let t : l.to ≡ x.to = sym (ap (λ (z : Mail). z.to) e) in
        let u : l.from ≡ x.from = sym (ap (λ (z : Mail). z.from) e) in
        let g = link_of x.to x.from l t u in (
          ms,
          rw g (f ∙ ap (λ z. z ∷ ms) (sym (ap (λ (z : Mail). z.message) e))),
        )
    here (m ∷ ms) f (inr j) = absurd j

-- and the other way round
pub between_head : (to from : Process) (ls : List Link) (m : Message) (ms : List Message)
    → between to from ls ≡ m ∷ ms → In (mail_to to from m) (heads ls)
between_head to from [] m ms e = absurd (cc)
between_head to from (l ∷ ls) m ms e = elim (cases_Bool (is_link to from l)) [
  | inl f ↦ (let s = same_link to from l f in
      in_left (first_in l.to l.from l.messages) (heads ls) (mail_to to from m)
      (here s.0 s.1 l.messages (subst (λ b. cond b l.messages (between to from ls) ≡ m ∷ ms) f e)))
  | inr f ↦ in_right (first_in l.to l.from l.messages) (heads ls) (mail_to to from m)
      (between_head to from ls m ms (subst (λ b. cond b l.messages (between to from ls) ≡ m ∷ ms) f e))
]
  where
    here : l.to ≡ to → l.from ≡ from → (xs : List Message) → xs ≡ m ∷ ms
        → In (mail_to to from m) (first_in l.to l.from xs)
    here t u [] g = absurd (cc)
    here t u (x ∷ xs) g = inl (let k : m ≡ x = cc in λ i. mail_to (sym t i) (sym u i) (k i))

-- it can be taken
pub between_taken : (to from : Process) (ls : List Link) (m : Message) (ms : List Message)
    → between to from ls ≡ m ∷ ms → (t : Taken) × (take_from to from ls ≡ Some t) × (t.message ≡ m)
between_taken to from ls m ms e = go (take_from to from ls) refl (taken_between to from ls m ms e)
  where
    head : (a b : Message) (as' bs : List Message) → a ∷ as' ≡ b ∷ bs → a ≡ b
    head a b as' bs f = cc

    go : (o : Option Taken) → take_from to from ls ≡ o → has_mail o ≡ true
        → (t : Taken) × (o ≡ Some t) × (t.message ≡ m)
    go None f g = absurd (cc)
    go (Some t) f g =
        (t, refl, head t.message m (between to from t.links) ms (sym (took to from ls t f).head ∙ e))

pub taken_head : (ls : List Link) → Lanes ls → (x : Mail) → In x (heads ls)
    → (t : Taken) × (take_from x.to x.from ls ≡ Some t) × (t.message ≡ x.message)
taken_head ls h x i = (let b = head_between ls h x i in between_taken x.to x.from ls x.message b.0 b.1)

-- what stands between two processes stands in their link
pub between_key : (to from : Process) (ls : List Link) (m : Message) (ms : List Message)
    → between to from ls ≡ m ∷ ms → In (to, from) (keys ls)
between_key to from [] m ms e = absurd (cc)
between_key to from (l ∷ ls) m ms e = elim (cases_Bool (is_link to from l)) [
  | inl f ↦ (let s = same_link to from l f in inl (λ i. (sym s.0 i, sym s.1 i)))
  | inr f ↦ inr (between_key to from ls m ms (subst (λ b. cond b l.messages (between to from ls) ≡ m ∷ ms) f e))
]

-- a first message is on its way; and where one is on its way its link has a first message
pub head_mail : (ls : List Link) (x : Mail) → In x (heads ls) → In x (mail ls)
head_mail [] x i = absurd i
head_mail (l ∷ ls) x i = elim (in_cases (first_in l.to l.from l.messages) (heads ls) x i) [
  | inr j ↦ in_right (mail_of l) (mail ls) x (head_mail ls x j)
  | inl j ↦ in_left (mail_of l) (mail ls) x (by l.messages j)
]
  where
    by : (ms : List Message) → In x (first_in l.to l.from ms) → In x (map (λ (m : Message). mail_to l.to l.from m) ms)
    by [] j = absurd j
    by (m ∷ ms) (inl e) = inl e
    by (m ∷ ms) (inr j) = absurd j

pub mail_head : (ls : List Link) (x : Mail) → In x (mail ls)
    → (y : Mail) × In y (heads ls) × (y.to ≡ x.to) × (y.from ≡ x.from)
mail_head [] x i = absurd i
mail_head (l ∷ ls) x i = elim (in_cases (mail_of l) (mail ls) x i) [
  | inr j ↦ (let o = mail_head ls x j in
      (o.0, in_right (first_in l.to l.from l.messages) (heads ls) o.0 o.1, o.2, o.3))
  | inl j ↦ by l.messages j
]
  where
    by : (ms : List Message) → In x (map (λ (m : Message). mail_to l.to l.from m) ms)
        → (y : Mail) × In y (first_in l.to l.from ms ++ heads ls) × (y.to ≡ x.to) × (y.from ≡ x.from)
    by [] j = absurd j
    by (m ∷ ms) j = (let o = in_map (λ (z : Message). mail_to l.to l.from z) (m ∷ ms) x j in (
      mail_to l.to l.from m,
      inl refl,
      ap (λ (z : Mail). z.to) (sym o.2),
      ap (λ (z : Mail). z.from) (sym o.2),
    ))

no_members : (ms : List Mail) → ((x : Mail) → In x ms → ⊥) → ms ≡ []
no_members [] h = refl
no_members (m ∷ ms) h = absurd (h m (inl refl))

-- where no link has a first message nothing is on its way, and the other way round
pub none_left : (p : Plan) (ls : List Link) → lowest_in p ls ≡ None → mail ls ≡ []
none_left p ls e =
    let a : heads ls ≡ [] = subst (LowestIs p (heads ls)) e (lowest_is p ls) in
    no_members (mail ls) (λ x i. (let o = mail_head ls x i in subst (In o.0) a o.1))

pub left_none : (p : Plan) (ls : List Link) → mail ls ≡ [] → lowest_in p ls ≡ None
left_none p ls e = go (lowest_in p ls) (lowest_is p ls)
  where
    go : (o : Option Mail) → LowestIs p (heads ls) o → o ≡ None
    go None h = refl
    go (Some x) h = absurd (subst (In x) e (head_mail ls x h.there))
