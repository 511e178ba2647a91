-- One more link between several processes.
use Rattle.std.proofs.Common.{ℕ, zero, suc, ◌≡◌, ◌<◌, ◌≤◌, ◌+◌, ◌≢◌, inl, inr, Bool, cond, ◌==◌, List, [], ◌∷◌, ◌++◌}
use Rattle.std.proofs.Common.{length, get_or, set, take, refl, sym, ap, ◌∙◌, subst, arith, append-nil}
use Rattle.std.proofs.Common.{Some, true, false, get_or-set_other, get_or-set_same, length-set}
use Rattle.std.specs.List.{AllByRecursion}
use Rattle.std.proofs.lemmas.List.{map-append}
use Rattle.pm_ends.specs.Numbers.{AreRising, IsLinkBefore, LinksRise, froms_to, nth, tos_from}
use Rattle.pm_ends.specs.Ends.{Inn, Out, froms, tos}
use Rattle.pm_ends.specs.Wires.{AreWires, IsConnected, IsFreshIn, IsWiredTo}
use Rattle.pm_ends.proofs.Lists.{all_append, all_get, all_weaker, nth_either, nth_front, nth_last}
use Rattle.pm_ends.proofs.Laws.{same_or}

-- numbers that rise below n are n at most
pub count_below : (m n : ℕ) (ns : List ℕ) → AreRising ns → AllByRecursion (λ (k : ℕ). m ≤ k) ns
    → AllByRecursion (λ (k : ℕ). k < n) ns → m ≤ n → m + length ns ≤ n
count_below m n [] up low high le = omega (arith, le)
count_below m n (k ∷ ns) up low high le =
    let a : m ≤ k = low.0 in
    let b : k < n = high.0 in
    let rest : (k + 1) + length ns ≤ n = count_below (k + 1) n ns up.1
    (all_weaker (λ (j : ℕ). k < j) (λ (j : ℕ). k + 1 ≤ j) (λ j lt. omega (arith, lt)) ns up.0) high.1
    (omega (arith, b)) in
    omega (arith, a, rest)

all_no_less : (ns : List ℕ) → AllByRecursion (λ (k : ℕ). 0 ≤ k) ns
all_no_less [] = tt
all_no_less (k ∷ ns) = (omega arith, all_no_less ns)

pub few : (n : ℕ) (ns : List ℕ) → AreRising ns → AllByRecursion (λ (k : ℕ). k < n) ns → length ns ≤ n
few n ns up high = (let le : 0 + length ns ≤ n = count_below 0 n ns up (all_no_less ns) high (omega arith) in
    omega (arith, le))

-- all links before a place come before the one there
pub links_before : (ls : List (ℕ × ℕ)) (i : ℕ) (d : ℕ × ℕ) → LinksRise ls → i < length ls
    → AllByRecursion (λ (x : ℕ × ℕ). IsLinkBefore x (get_or ls i d)) (take i ls)
links_before [] i d up lt = absurd (omega (arith, lt))
links_before (l ∷ ls) zero d up lt = tt
links_before (l ∷ ls) (suc i) d up lt = (
  all_get (IsLinkBefore l) ls i d up.0
      (omega (arith, lt)),
  links_before ls i d up.1 (omega (arith, lt)),
)

-- so its sender is above those that send to its receiver
pub froms_below : (l : ℕ × ℕ) (xs : List (ℕ × ℕ)) → AllByRecursion (λ (x : ℕ × ℕ). IsLinkBefore x l) xs
    → AllByRecursion (λ (k : ℕ). k < l.1) (froms_to l.0 xs)
froms_below l [] p = tt
froms_below l (x ∷ xs) p = elim (same_or x.0 l.0) [
  | inl is ↦ subst (λ (c : Bool). AllByRecursion (λ (k : ℕ). k < l.1)
      (cond c (x.1 ∷ froms_to l.0 xs) (froms_to l.0 xs))) (sym is.1)
      (elim p.0 [ inl lt ↦ absurd (omega (arith, lt, is.0)) | inr both ↦ both.1 ], froms_below l xs p.1)
  | inr ne ↦ subst (λ (c : Bool). AllByRecursion (λ (k : ℕ). k < l.1)
      (cond c (x.1 ∷ froms_to l.0 xs) (froms_to l.0 xs))) (sym ne.1) (froms_below l xs p.1)
]

-- and its receiver above those that its sender sends to
pub tos_below : (l : ℕ × ℕ) (xs : List (ℕ × ℕ)) → AllByRecursion (λ (x : ℕ × ℕ). IsLinkBefore x l) xs
    → AllByRecursion (λ (k : ℕ). k < l.0) (tos_from l.1 xs)
tos_below l [] p = tt
tos_below l (x ∷ xs) p = elim (same_or x.1 l.1) [
  | inl is ↦ subst (λ (c : Bool). AllByRecursion (λ (k : ℕ). k < l.0)
      (cond c (x.0 ∷ tos_from l.1 xs) (tos_from l.1 xs))) (sym is.1) (
        elim p.0 [ inl lt ↦ lt | inr both ↦ (let lt : x.1 < l.1 = both.1 in absurd (omega (arith, lt, is.0))) ],
        tos_below l xs p.1,
      )
  | inr ne ↦ subst (λ (c : Bool). AllByRecursion (λ (k : ℕ). k < l.0)
      (cond c (x.0 ∷ tos_from l.1 xs) (tos_from l.1 xs))) (sym ne.1) (tos_below l xs p.1)
]

push_cond : {X : Type 0} (c : Bool) (x : X) (xs ys : List X)
    → cond c (x ∷ (xs ++ ys)) (xs ++ ys) ≡ cond c (x ∷ xs) xs ++ ys
push_cond true x xs ys = refl
push_cond false x xs ys = refl

-- one link more
pub froms_more : (k : ℕ) (xs : List (ℕ × ℕ)) (l : ℕ × ℕ) → froms_to k (xs ++ l ∷ []) ≡ froms_to k xs
    ++ cond (l.0 == k) (l.1 ∷ []) []
froms_more k [] l = refl
froms_more k (x ∷ xs) l = ap (λ (r : List ℕ). cond (x.0 == k) (x.1 ∷ r) r) (froms_more k xs l)
    ∙ push_cond (x.0 == k) x.1 (froms_to k xs) (cond (l.0 == k) (l.1 ∷ []) [])

pub tos_more : (k : ℕ) (xs : List (ℕ × ℕ)) (l : ℕ × ℕ) → tos_from k (xs ++ l ∷ []) ≡ tos_from k xs
    ++ cond (l.1 == k) (l.0 ∷ []) []
tos_more k [] l = refl
tos_more k (x ∷ xs) l = ap (λ (r : List ℕ). cond (x.1 == k) (x.0 ∷ r) r) (tos_more k xs l)
    ∙ push_cond (x.1 == k) x.0 (tos_from k xs) (cond (l.1 == k) (l.0 ∷ []) [])

-- a list of lists, one of which got one item more
module _ {X : Type 0} (xs : List (List X)) (at : ℕ) (x : X) (lt : at < length xs) where
  abbrev pushed : List (List X)
  pushed = set xs at (get_or xs at [] ++ x ∷ [])

  pub pushed_here : (k : ℕ) → k ≡ at → get_or pushed k [] ≡ get_or xs k [] ++ x ∷ []
  pushed_here k is = ap (λ (i : ℕ). get_or pushed i []) is ∙ get_or-set_same xs at (get_or xs at [] ++ x ∷ []) [] lt
      ∙ ap (λ (i : ℕ). get_or xs i [] ++ x ∷ []) (sym is)

  pub pushed_else : (k : ℕ) → k ≢ at → get_or pushed k [] ≡ get_or xs k []
  pushed_else k ne = get_or-set_other xs at k (get_or xs at [] ++ x ∷ []) [] ne

module _ (xs : List (ℕ × ℕ)) (n to from : ℕ) (inns : List (List Inn)) (outs : List (List Out))
    (inns' : List (List Inn)) (outs' : List (List Out))
    (w : AreWires xs n inns outs) (c : IsConnected to from inns outs inns' outs') (below : (to < n) × (from < n)) where
  abbrev inn : Inn
  inn = record { from = from; slot = length (get_or outs from []); link = c.link; received = []; waiting = [] }

  abbrev out : Out
  out = record { to = to; link = c.link; sent = [] }

  to_in : to < length inns
  to_in = (let e = w.receivers in omega (arith, e, below.0))

  from_in : from < length outs
  from_in = (let e = w.senders in omega (arith, e, below.1))

  inns_here : (k : ℕ) → k ≡ to → get_or inns' k [] ≡ get_or inns k [] ++ inn ∷ []
  inns_here k is = ap (λ (l : List (List Inn)). get_or l k []) c.ins_are ∙ pushed_here inns to inn to_in k is

  inns_else : (k : ℕ) → k ≢ to → get_or inns' k [] ≡ get_or inns k []
  inns_else k ne = ap (λ (l : List (List Inn)). get_or l k []) c.ins_are ∙ pushed_else inns to inn to_in k ne

  outs_here : (k : ℕ) → k ≡ from → get_or outs' k [] ≡ get_or outs k [] ++ out ∷ []
  outs_here k is = ap (λ (l : List (List Out)). get_or l k []) c.outs_are ∙ pushed_here outs from out from_in k is

  outs_else : (k : ℕ) → k ≢ from → get_or outs' k [] ≡ get_or outs k []
  outs_else k ne = ap (λ (l : List (List Out)). get_or l k []) c.outs_are ∙ pushed_else outs from out from_in k ne

  froms_then : (k : ℕ) → k < n → froms (get_or inns' k []) ≡ froms_to k (xs ++ (to, from) ∷ [])
  froms_then k lt = elim (same_or to k) [
    | inl is ↦ ap froms (inns_here k (sym is.0)) ∙ map-append (λ (x : Inn). x.from) (get_or inns k []) (inn ∷ [])
        ∙ ap (λ (l : List ℕ). l ++ from ∷ []) (w.froms_are k lt)
        ∙ ap (λ (b : Bool). froms_to k xs ++ cond b (from ∷ []) []) (sym is.1) ∙ sym (froms_more k xs (to, from))
    | inr ne ↦ ap froms (inns_else k (λ e. ne.0 (sym e))) ∙ w.froms_are k lt ∙ sym (append-nil (froms_to k xs))
        ∙ ap (λ (b : Bool). froms_to k xs ++ cond b (from ∷ []) []) (sym ne.1) ∙ sym (froms_more k xs (to, from))
  ]

  tos_then : (k : ℕ) → k < n → tos (get_or outs' k []) ≡ tos_from k (xs ++ (to, from) ∷ [])
  tos_then k lt = elim (same_or from k) [
    | inl is ↦ ap tos (outs_here k (sym is.0)) ∙ map-append (λ (x : Out). x.to) (get_or outs k []) (out ∷ [])
        ∙ ap (λ (l : List ℕ). l ++ to ∷ []) (w.tos_are k lt)
        ∙ ap (λ (b : Bool). tos_from k xs ++ cond b (to ∷ []) []) (sym is.1) ∙ sym (tos_more k xs (to, from))
    | inr ne ↦ ap tos (outs_else k (λ e. ne.0 (sym e))) ∙ w.tos_are k lt ∙ sym (append-nil (tos_from k xs))
        ∙ ap (λ (b : Bool). tos_from k xs ++ cond b (to ∷ []) []) (sym ne.1) ∙ sym (tos_more k xs (to, from))
  ]

  still : (a : ℕ) (x : Inn) → IsWiredTo outs a x → IsWiredTo outs' a x
  still a x h = record {
    out = h.out;
    at = elim (same_or x.from from) [
      | inl is ↦ ap (λ (l : List Out). nth l x.slot) (outs_here x.from is.0)
          ∙ nth_front (get_or outs x.from []) (out ∷ []) x.slot h.out h.at
      | inr ne ↦ ap (λ (l : List Out). nth l x.slot) (outs_else x.from ne.0) ∙ h.at
    ];
    to = h.to;
    link = h.link;
  }

  new : (a : ℕ) → a ≡ to → IsWiredTo outs' a inn
  new a is = record {
    out = out;
    at = ap (λ (l : List Out). nth l inn.slot) (outs_here from refl) ∙ nth_last (get_or outs from []) out;
    to = sym is;
    link = refl;
  }

  wired_then : (a j : ℕ) (x : Inn) → nth (get_or inns' a []) j ≡ Some x → IsWiredTo outs' a x
  wired_then a j x e = elim (same_or a to) [
    | inr ne ↦ still a x (w.wired a j x (ap (λ (l : List Inn). nth l j) (sym (inns_else a ne.0)) ∙ e))
    | inl is ↦ elim (nth_either (get_or inns a []) inn j x (ap (λ (l : List Inn). nth l j) (sym (inns_here a is.0))
        ∙ e)) [
          | inl old ↦ still a x (w.wired a j x old)
          | inr last ↦ subst (IsWiredTo outs' a) last (new a is.0)
        ]
  ]

  -- the ends of one link more
  pub wires_more : AreWires (xs ++ (to, from) ∷ []) n inns' outs'
  wires_more = record {
    receivers = ap length c.ins_are ∙ length-set inns to _ ∙ w.receivers;
    senders = ap length c.outs_are ∙ length-set outs from _ ∙ w.senders;
    froms_are = froms_then;
    tos_are = tos_then;
    wired = wired_then;
    fresh_ins = λ k. elim (same_or k to) [
      | inl is ↦ subst (AllByRecursion IsFreshIn) (sym (inns_here k is.0))
          (all_append IsFreshIn (get_or inns k []) (inn ∷ []) (w.fresh_ins k)
          (record { received = refl; waiting = refl }, tt))
      | inr ne ↦ subst (AllByRecursion IsFreshIn) (sym (inns_else k ne.0)) (w.fresh_ins k)
    ];
    fresh_outs = λ k. elim (same_or k from) [
      | inl is ↦ subst (AllByRecursion (λ (o : Out). o.sent ≡ [])) (sym (outs_here k is.0))
          (all_append (λ (o : Out). o.sent ≡ []) (get_or outs k []) (out ∷ []) (w.fresh_outs k) (refl, tt))
      | inr ne ↦ subst (AllByRecursion (λ (o : Out). o.sent ≡ [])) (sym (outs_else k ne.0)) (w.fresh_outs k)
    ];
  }
