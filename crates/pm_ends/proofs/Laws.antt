-- What the ends of a process are, by the number of the process at the other side.
use Rattle.std.proofs.Common.{ℕ, zero, suc, ◌≡◌, ◌<◌, ◌≢◌, ◌⊎◌, inl, inr, Bool, true, false, cond, ◌==◌, ◌&&◌, ◌||◌}
use Rattle.std.proofs.Common.{List, [], ◌∷◌, ◌++◌, get_or, set, map, refl, sym, ap, ap₂, ◌∙◌, subst, arith}
use Rattle.std.proofs.Common.{append-nil}
use Rattle.std.proofs.Common.{Some}
use Rattle.std.specs.List.{AllByRecursion}
use Rattle.std.proofs.Math.Seq.{map-set_same}
use Rattle.std.proofs.lemmas.Bool.Decides.{nat_tests}
use Rattle.pm_ends.specs.declared.post.Post.{Post}
use Rattle.pm_ends.specs.Numbers.{AreRising, Begins, has_number, nth}
use Rattle.pm_ends.specs.Ends.{AllGrew, Grew, Inn, Out, Took, froms, out_wire, received_in, sent_in, sent_to, tos}
use Rattle.pm_ends.specs.Ends.{waiting_in}
use Rattle.pm_ends.proofs.Lists.{begins_on, begins_same, nth_is, nth_set, pairs_map, pairs_on, pairs_same, pairs_set}
use Rattle.pm_ends.proofs.Lists.{some_same}

-- two numbers and their test
pub same_or : (a b : ℕ) → ((a ≡ b) × ((a == b) ≡ true)) ⊎ ((a ≢ b) × ((a == b) ≡ false))
same_or a b = grind (arith, nat_tests)

-- an end that stayed
pub grew_same : (x : Inn) → Grew x x
grew_same x = record { from = refl; slot = refl; link = refl; received = refl; waiting = begins_same x.waiting }

-- twice
pub grew_on : (x y z : Inn) → Grew x y → Grew y z → Grew x z
grew_on x y z p q = record {
  from = q.from ∙ p.from;
  slot = q.slot ∙ p.slot;
  link = q.link ∙ p.link;
  received = q.received ∙ p.received;
  waiting = begins_on x.waiting y.waiting z.waiting p.waiting q.waiting;
}

-- ends that stayed
pub all_grew_same : (xs : List Inn) → AllGrew xs xs
all_grew_same xs = pairs_same Grew grew_same xs

-- twice
pub all_grew_on : (xs ys zs : List Inn) → AllGrew xs ys → AllGrew ys zs → AllGrew xs zs
all_grew_on xs ys zs p q = pairs_on Grew grew_on xs ys zs p q

-- one end grew
pub grew_set : (xs : List Inn) (i : ℕ) (d y : Inn) → Grew (get_or xs i d) y → AllGrew xs (set xs i y)
grew_set xs i d y g = pairs_set Grew grew_same xs i d y g

-- the senders stay
pub grew_froms : (xs ys : List Inn) → AllGrew xs ys → froms ys ≡ froms xs
grew_froms xs ys p = pairs_map Grew (λ (x : Inn). x.from) (λ x y g. g.from) xs ys p

-- what was received stays
pub grew_received : (xs ys : List Inn) → AllGrew xs ys → (b : ℕ) → received_in ys b ≡ received_in xs b
grew_received [] [] p b = refl
grew_received [] (y ∷ ys) p b = absurd p
grew_received (x ∷ xs) [] p b = absurd p
grew_received (x ∷ xs) (y ∷ ys) p b =
    let rest : received_in ys b ≡ received_in xs b = grew_received xs ys p.1 b in
    ap (λ (n : ℕ). cond (b == n) y.received (received_in ys b)) p.0.from
    ∙ ap₂ (λ (l r : List Post). cond (b == x.from) l r) p.0.received rest

begins_cond : {X : Type 0} (t : Bool) (a b c d : List X) → Begins a c → Begins b d → Begins (cond t a b) (cond t c d)
begins_cond true a b c d p q = p
begins_cond false a b c d p q = q

-- what waits grows at its end
pub grew_waiting : (xs ys : List Inn) → AllGrew xs ys → (b : ℕ) → Begins (waiting_in xs b) (waiting_in ys b)
grew_waiting [] [] p b = begins_same []
grew_waiting [] (y ∷ ys) p b = absurd p
grew_waiting (x ∷ xs) [] p b = absurd p
grew_waiting (x ∷ xs) (y ∷ ys) p b =
    subst (λ (n : ℕ). Begins (cond (b == x.from) x.waiting (waiting_in xs b))
    (cond (b == n) y.waiting (waiting_in ys b))) (sym p.0.from)
    (begins_cond (b == x.from) x.waiting (waiting_in xs b) y.waiting (waiting_in ys b) p.0.waiting
    (grew_waiting xs ys p.1 b))

-- an end that stands behind another has a higher number
pub below_nth : (P : ℕ → Type 0) (xs : List Inn) (i : ℕ) (x : Inn) → AllByRecursion P (froms xs) → nth xs i ≡ Some x
    → P x.from
below_nth P [] i x p e = absurd (cc)
below_nth P (y ∷ xs) zero x p e = subst (λ (z : Inn). P z.from) (some_same y x e) p.0
below_nth P (y ∷ xs) (suc i) x p e = below_nth P xs i x p.1 e

apart : (xs : List Inn) (i : ℕ) (y x : Inn) → AreRising (froms (y ∷ xs)) → nth xs i ≡ Some x → x.from ≢ y.from
apart xs i y x up e s = (let lt : y.from < x.from = below_nth (λ (k : ℕ). y.from < k) xs i x up.0 e in
    absurd (omega (arith, lt, s)))

-- what was received at an end is what was received from its sender
pub received_at : (xs : List Inn) (i : ℕ) (x : Inn) → AreRising (froms xs) → nth xs i ≡ Some x
    → received_in xs x.from ≡ x.received
received_at [] i x up e = absurd (cc)
received_at (y ∷ xs) zero x up e = elim (same_or x.from y.from) [
  | inl is ↦ ap (λ (c : Bool). cond c y.received (received_in xs x.from)) is.1
      ∙ ap (λ (z : Inn). z.received) (some_same y x e)
  | inr ne ↦ absurd (ne.0 (ap (λ (z : Inn). z.from) (sym (some_same y x e))))
]
received_at (y ∷ xs) (suc i) x up e = elim (same_or x.from y.from) [
  | inl is ↦ absurd (apart xs i y x up e is.0)
  | inr ne ↦ ap (λ (c : Bool). cond c y.received (received_in xs x.from)) ne.1 ∙ received_at xs i x up.1 e
]

-- what waits at an end is what waits from its sender
pub waiting_at : (xs : List Inn) (i : ℕ) (x : Inn) → AreRising (froms xs) → nth xs i ≡ Some x
    → waiting_in xs x.from ≡ x.waiting
waiting_at [] i x up e = absurd (cc)
waiting_at (y ∷ xs) zero x up e = elim (same_or x.from y.from) [
  | inl is ↦ ap (λ (c : Bool). cond c y.waiting (waiting_in xs x.from)) is.1
      ∙ ap (λ (z : Inn). z.waiting) (some_same y x e)
  | inr ne ↦ absurd (ne.0 (ap (λ (z : Inn). z.from) (sym (some_same y x e))))
]
waiting_at (y ∷ xs) (suc i) x up e = elim (same_or x.from y.from) [
  | inl is ↦ absurd (apart xs i y x up e is.0)
  | inr ne ↦ ap (λ (c : Bool). cond c y.waiting (waiting_in xs x.from)) ne.1 ∙ waiting_at xs i x up.1 e
]

-- another end is written
received_else : (xs : List Inn) (i : ℕ) (was now : Inn) (b : ℕ) → nth xs i ≡ Some was → now.from ≡ was.from
    → b ≢ was.from → received_in (set xs i now) b ≡ received_in xs b
received_else [] i was now b e f ne = refl
received_else (y ∷ xs) zero was now b e f ne = elim (same_or b was.from) [
  | inl is ↦ absurd (ne is.0)
  | inr other ↦ ap (λ (c : Bool). cond c now.received (received_in xs b)) (ap (λ (n : ℕ). b == n) f ∙ other.1)
      ∙ ap (λ (c : Bool). cond c y.received (received_in xs b))
      (sym (ap (λ (z : Inn). b == z.from) (some_same y was e) ∙ other.1))
]
received_else (y ∷ xs) (suc i) was now b e f ne = ap (cond (b == y.from) y.received)
    (received_else xs i was now b e f ne)

waiting_else : (xs : List Inn) (i : ℕ) (was now : Inn) (b : ℕ) → nth xs i ≡ Some was → now.from ≡ was.from
    → b ≢ was.from → waiting_in (set xs i now) b ≡ waiting_in xs b
waiting_else [] i was now b e f ne = refl
waiting_else (y ∷ xs) zero was now b e f ne = elim (same_or b was.from) [
  | inl is ↦ absurd (ne is.0)
  | inr other ↦ ap (λ (c : Bool). cond c now.waiting (waiting_in xs b)) (ap (λ (n : ℕ). b == n) f ∙ other.1)
      ∙ ap (λ (c : Bool). cond c y.waiting (waiting_in xs b))
      (sym (ap (λ (z : Inn). b == z.from) (some_same y was e) ∙ other.1))
]
waiting_else (y ∷ xs) (suc i) was now b e f ne = ap (cond (b == y.from) y.waiting) (waiting_else xs i was now b e f ne)

-- one end is written, of the same sender
pub set_froms : (xs : List Inn) (i : ℕ) (was now : Inn) → nth xs i ≡ Some was → now.from ≡ was.from
    → froms (set xs i now) ≡ froms xs
set_froms xs i was now e f = map-set_same (λ (x : Inn). x.from) xs i now was
    (f ∙ ap (λ (x : Inn). x.from) (sym (nth_is xs i was was e).1))

-- an item was handed out at a place
module _ (i : ℕ) (x : Post) (xs ys : List Inn) (t : Took i x xs ys) where
  -- the senders stay
  pub took_froms : froms ys ≡ froms xs
  took_froms = ap froms t.list ∙ set_froms xs i t.was t.now t.at t.from

  there : nth ys i ≡ Some t.now
  there = ap (λ (l : List Inn). nth l i) t.list ∙ nth_set xs i t.now (nth_is xs i t.was t.was t.at).0

  -- from others nothing more was received
  pub took_received_else : (b : ℕ) → b ≢ t.was.from → received_in ys b ≡ received_in xs b
  took_received_else b ne = ap (λ (l : List Inn). received_in l b) t.list
      ∙ received_else xs i t.was t.now b t.at t.from ne

  -- and what waits from them stays
  pub took_waiting_else : (b : ℕ) → b ≢ t.was.from → waiting_in ys b ≡ waiting_in xs b
  took_waiting_else b ne = ap (λ (l : List Inn). waiting_in l b) t.list ∙ waiting_else xs i t.was t.now b t.at t.from ne

  -- so it goes on as itself
  pub took_others : (b : ℕ) → b ≢ t.was.from → Begins (waiting_in xs b) (waiting_in ys b)
  took_others b ne = subst (Begins (waiting_in xs b)) (sym (took_waiting_else b ne)) (begins_same (waiting_in xs b))

  module _ (up : AreRising (froms xs)) where
    up_then : AreRising (froms ys)
    up_then = subst AreRising (sym took_froms) up

    -- from its sender the item was received, and from others nothing
    pub took_received : (b : ℕ) → received_in ys b ≡ cond (b == t.was.from) (received_in xs b ++ x ∷ [])
        (received_in xs b)
    took_received b = elim (same_or b t.was.from) [
      | inr ne ↦ took_received_else b ne.0 ∙ ap (λ (c : Bool). cond c (received_in xs b ++ x ∷ []) (received_in xs b))
          (sym ne.1)
      | inl is ↦
          ap (received_in ys) (is.0 ∙ sym t.from) ∙ received_at ys i t.now up_then there ∙ t.received
          ∙ ap (λ (l : List Post). l ++ x ∷ []) (sym (received_at xs i t.was up t.at) ∙ ap (received_in xs) (sym is.0))
          ∙ ap (λ (c : Bool). cond c (received_in xs b ++ x ∷ []) (received_in xs b)) (sym is.1)
    ]

    -- the item was the first of what waited from its sender
    pub took_first : Begins (waiting_in xs t.was.from) (x ∷ waiting_in ys t.was.from)
    took_first =
        let before : waiting_in xs t.was.from ≡ t.was.waiting = waiting_at xs i t.was up t.at in
        let after : waiting_in ys t.was.from ≡ t.now.waiting = ap (waiting_in ys) (sym t.from)
        ∙ waiting_at ys i t.now up_then there in
        subst (λ (l : List Post). Begins l (x ∷ waiting_in ys t.was.from)) (sym before)
        (subst (λ (l : List Post). Begins t.was.waiting (x ∷ l)) (sym after) t.first)

-- the receivers stay
pub sent_tos : (t : ℕ) (x : Post) (os : List Out) → tos (sent_to t x os) ≡ tos os
sent_tos t x [] = refl
sent_tos t x (o ∷ os) = go (t == o.to) (sent_tos t x os)
  where
    go : (c : Bool) → tos (sent_to t x os) ≡ tos os → tos (cond c (record o { sent = o.sent ++ x ∷ [] } ∷ os)
        (o ∷ sent_to t x os)) ≡ o.to ∷ tos os
    go true rest = refl
    go false rest = ap (λ (l : List ℕ). o.to ∷ l) rest

-- to whom the ends send, and their links, stay
pub sent_wires : (t : ℕ) (x : Post) (os : List Out) → map out_wire (sent_to t x os) ≡ map out_wire os
sent_wires t x [] = refl
sent_wires t x (o ∷ os) = go (t == o.to) (sent_wires t x os)
  where
    go : (c : Bool) → map out_wire (sent_to t x os) ≡ map out_wire os
        → map out_wire (cond c (record o { sent = o.sent ++ x ∷ [] } ∷ os) (o ∷ sent_to t x os))
        ≡ out_wire o ∷ map out_wire os
    go true rest = refl
    go false rest = ap (λ l. out_wire o ∷ l) rest

and_true : (c : Bool) → (c && true) ≡ c
and_true true = refl
and_true false = refl

none_more : (c : Bool) (x : Post) → [] ≡ cond (c && false) (x ∷ []) []
none_more true x = refl
none_more false x = refl

one_more : (c : Bool) (l r : List Post) (x : Post) → cond c (l ++ x ∷ []) r ≡ cond c l r ++ cond c (x ∷ []) []
one_more true l r x = refl
one_more false l r x = sym (append-nil r)

-- what was sent to each process: to that one the item more, where an end goes there
pub sent_sent : (t : ℕ) (x : Post) (os : List Out) (a : ℕ) → sent_in (sent_to t x os) a ≡ sent_in os a
    ++ cond (a == t && has_number t (tos os)) (x ∷ []) []
sent_sent t x [] a = none_more (a == t) x
sent_sent t x (o ∷ os) a = elim (same_or t o.to) [
  | inl is ↦
      ap (λ (c : Bool). sent_in (cond c (record o { sent = o.sent ++ x ∷ [] } ∷ os) (o ∷ sent_to t x os)) a) is.1
      ∙ one_more (a == o.to) o.sent (sent_in os a) x
      ∙ ap (λ (c : Bool). sent_in (o ∷ os) a ++ cond c (x ∷ []) [])
      (sym (ap (λ (c : Bool). a == t && (c || has_number t (tos os))) is.1 ∙ and_true (a == t)
      ∙ ap (λ (n : ℕ). a == n) is.0))
  | inr ne ↦
      ap (λ (c : Bool). sent_in (cond c (record o { sent = o.sent ++ x ∷ [] } ∷ os) (o ∷ sent_to t x os)) a) ne.1
      ∙ past (same_or a o.to) ne.0 (sent_sent t x os a)
      ∙ ap (λ (c : Bool). sent_in (o ∷ os) a ++ cond (a == t && (c || has_number t (tos os))) (x ∷ []) []) (sym ne.1)
]
  where
    past : ((a ≡ o.to) × ((a == o.to) ≡ true)) ⊎ ((a ≢ o.to) × ((a == o.to) ≡ false)) → t ≢ o.to
        → sent_in (sent_to t x os) a ≡ sent_in os a ++ cond (a == t && has_number t (tos os)) (x ∷ []) []
        → cond (a == o.to) o.sent (sent_in (sent_to t x os) a) ≡ cond (a == o.to) o.sent (sent_in os a)
        ++ cond (a == t && has_number t (tos os)) (x ∷ []) []
    past (inl at) apart rest = elim (same_or a t) [
      | inl same ↦ absurd (apart (sym same.0 ∙ at.0))
      | inr other ↦
          ap (λ (c : Bool). cond c o.sent (sent_in (sent_to t x os) a)) at.1 ∙ sym (append-nil o.sent)
          ∙ ap (λ (c : Bool). o.sent ++ cond (c && has_number t (tos os)) (x ∷ []) []) (sym other.1)
          ∙ ap (λ (c : Bool). cond c o.sent (sent_in os a) ++ cond (a == t && has_number t (tos os)) (x ∷ []) [])
          (sym at.1)
    ]
    past (inr none) apart rest =
        ap (λ (c : Bool). cond c o.sent (sent_in (sent_to t x os) a)) none.1 ∙ rest
        ∙ ap (λ (c : Bool). cond c o.sent (sent_in os a) ++ cond (a == t && has_number t (tos os)) (x ∷ []) [])
        (sym none.1)
