-- The first messages of links after one is posted or taken.
use Rattle.std.proofs.Common.{◌≡◌, ℕ, ◌==◌, inl, inr, Bool, true, false, not, ◌||◌, ◌&&◌, cond, List, [], ◌∷◌, ◌++◌, drop, Option, Some, None, refl, sym, ap, arith, ◌∙◌}
use Rattle.std.specs.Prelude.{option_map, Result, Ok, Err, OnOk, OnErr}
use Rattle.std.specs.Option.{IsSome}
use Rattle.std.proofs.lemmas.Bool.{cases_Bool, false≢true}
use Rattle.std.proofs.lemmas.Bool.Decides.{nat_tests}
use Rattle.pm_base.specs.declared.stamp.Stamp.{Stamp}
use Rattle.pm_message.specs.Messages.{stamp_of}
use Rattle.pm_message.specs.declared.Message.{Message}
use Rattle.pm_mail.specs.Headed.{leads}
use Rattle.pm_mail.specs.Heads.{goes_before, is_in, same}
use Rattle.pm_mail.specs.Links.{Link, empty_link, first_moment, first_of, has_link, is_before, is_before_at, is_link, opened, posted, taken, waiting}
use Rattle.pm_mail.specs.declared.heads.Head.{Head}

-- of a link of these ends, the test of other ends is that of the ends
ends-of : (t f u g : ℕ) (l : Link) → is_link t f l ≡ true → (t == u && f == g) ≡ is_link u g l
ends-of t f u g l e = grind (arith, nat_tests, e)

-- and a link of other ends isn't one of these
ends-differ : (t f u g : ℕ) (l : Link) → is_link t f l ≡ false → is_link u g l ≡ true → (t == u && f == g) ≡ false
ends-differ t f u g l e h = grind (arith, nat_tests, e, h)

abbrev no_messages : List Message
no_messages = []

pub waiting-posted : (t f u g : ℕ) (m : Message) (ls : List Link)
    → waiting u g (posted t f m ls) ≡ cond (t == u && f == g) (waiting u g ls ++ m ∷ []) (waiting u g ls)
waiting-posted t f u g m [] = refl
waiting-posted t f u g m (l ∷ ls) = elim (cases_Bool (is_link t f l)) [
  | inl e ↦
      ap (λ b. waiting u g (cond b (record l { messages = l.messages ++ m ∷ [] } ∷ ls) (l ∷ posted t f m ls))) e
      ∙ (by (is_link u g l)
      ∙ ap (λ b. cond b (waiting u g (l ∷ ls) ++ m ∷ []) (waiting u g (l ∷ ls))) (sym (ends-of t f u g l e)))
  | inr e ↦
      ap (λ b. waiting u g (cond b (record l { messages = l.messages ++ m ∷ [] } ∷ ls) (l ∷ posted t f m ls))) e
      ∙ pass (is_link u g l) (t == u && f == g) (waiting-posted t f u g m ls) (λ h. ends-differ t f u g l e h)
]
  where
    by : (b : Bool) → cond b (l.messages ++ m ∷ []) (waiting u g ls)
        ≡ cond b (cond b l.messages (waiting u g ls) ++ m ∷ []) (cond b l.messages (waiting u g ls))
    by true = refl
    by false = refl

    pass : (b c : Bool) → waiting u g (posted t f m ls) ≡ cond c (waiting u g ls ++ m ∷ []) (waiting u g ls)
        → (b ≡ true → c ≡ false) → cond b l.messages (waiting u g (posted t f m ls))
        ≡ cond c (cond b l.messages (waiting u g ls) ++ m ∷ []) (cond b l.messages (waiting u g ls))
    pass true c again h = ap (λ z. cond z (l.messages ++ m ∷ []) l.messages) (sym (h refl))
    pass false c again h = again

pub waiting-taken : (t f u g : ℕ) (ls : List Link)
    → waiting u g (taken t f ls) ≡ cond (t == u && f == g) (drop 1 (waiting u g ls)) (waiting u g ls)
waiting-taken t f u g [] = by (t == u && f == g)
  where
    by : (b : Bool) → no_messages ≡ cond b (drop 1 no_messages) no_messages
    by true = refl
    by false = refl
waiting-taken t f u g (l ∷ ls) = elim (cases_Bool (is_link t f l)) [
  | inl e ↦
      ap (λ b. waiting u g (cond b (record l { messages = drop 1 l.messages } ∷ ls) (l ∷ taken t f ls))) e
      ∙ (by (is_link u g l)
      ∙ ap (λ b. cond b (drop 1 (waiting u g (l ∷ ls))) (waiting u g (l ∷ ls))) (sym (ends-of t f u g l e)))
  | inr e ↦
      ap (λ b. waiting u g (cond b (record l { messages = drop 1 l.messages } ∷ ls) (l ∷ taken t f ls))) e
      ∙ pass (is_link u g l) (t == u && f == g) (waiting-taken t f u g ls) (λ h. ends-differ t f u g l e h)
]
  where
    by : (b : Bool) → cond b (drop 1 l.messages) (waiting u g ls)
        ≡ cond b (drop 1 (cond b l.messages (waiting u g ls))) (cond b l.messages (waiting u g ls))
    by true = refl
    by false = refl

    pass : (b c : Bool) → waiting u g (taken t f ls) ≡ cond c (drop 1 (waiting u g ls)) (waiting u g ls)
        → (b ≡ true → c ≡ false) → cond b l.messages (waiting u g (taken t f ls))
        ≡ cond c (drop 1 (cond b l.messages (waiting u g ls))) (cond b l.messages (waiting u g ls))
    pass true c again h = ap (λ z. cond z (drop 1 l.messages) l.messages) (sym (h refl))
    pass false c again h = again

waiting-empty : (t f u g : ℕ) (ls : List Link) → waiting u g (ls ++ empty_link t f ∷ []) ≡ waiting u g ls
waiting-empty t f u g [] = by (is_link u g (empty_link t f))
  where
    by : (b : Bool) → cond b no_messages no_messages ≡ no_messages
    by true = refl
    by false = refl
waiting-empty t f u g (l ∷ ls) = ap (cond (is_link u g l) l.messages) (waiting-empty t f u g ls)

pub waiting-opened : (t f u g : ℕ) (ls : List Link) → waiting u g (opened t f ls) ≡ waiting u g ls
waiting-opened t f u g ls = by (has_link t f ls)
  where
    by : (b : Bool) → waiting u g (cond b ls (ls ++ empty_link t f ∷ [])) ≡ waiting u g ls
    by true = refl
    by false = waiting-empty t f u g ls

-- the moment of the first of these messages
abbrev moment : List Message → Option Stamp
moment ms = option_map stamp_of (first_of ms)

first-more : (ms : List Message) (x m : Message) → first_of ms ≡ Some x → moment (ms ++ m ∷ []) ≡ moment ms
first-more [] x m e = absurd (cc e)
first-more (y ∷ ys) x m e = refl

-- behind other messages one more changes no first one
pub posted-behind : (t f : ℕ) (m x : Message) (ls : List Link) (u g : ℕ)
    → first_of (waiting t f ls) ≡ Some x → first_moment u g (posted t f m ls) ≡ first_moment u g ls
posted-behind t f m x ls u g e = ap moment (waiting-posted t f u g m ls) ∙ by (t == u && f == g) refl
  where
    by : (b : Bool) → (t == u && f == g) ≡ b
        → moment (cond b (waiting u g ls ++ m ∷ []) (waiting u g ls)) ≡ moment (waiting u g ls)
    by false h = refl
    by true h =
        let a : t ≡ u = grind (arith, nat_tests, h) in
        let b : f ≡ g = grind (arith, nat_tests, h) in
        first-more (waiting u g ls) x m
        (ap (λ z. first_of (waiting z g ls)) (sym a) ∙ (ap (λ z. first_of (waiting t z ls)) (sym b) ∙ e))

-- ---- heads

abbrev pub head : ℕ → Stamp → Head
head f s = record { stamp = s; from = f }

-- a head of these ends is that of the link's moment
here : (a b p q : Bool) → (p && q) ≡ true → (a && b) ≡ ((p && (a && (b && q))) || false)
here true true true true e = refl
here true false true true e = refl
here false b true true e = refl
here a b true false e = absurd (cc e)
here a b false q e = absurd (cc e)

elsewhere : (a b p q c : Bool) → (p && q) ≡ false → c ≡ ((p && (a && (b && q))) || c)
elsewhere a b false q c e = refl
elsewhere true true true false c e = refl
elsewhere true false true false c e = refl
elsewhere false b true false c e = refl
elsewhere a b true true c e = absurd (cc e)

taken-off : (a b p q c : Bool) → (p && q) ≡ true → c ≡ (a && b) → (not (p && (a && (b && q))) && c) ≡ false
taken-off true true true true c e h = refl
taken-off true false true true c e h = h
taken-off false b true true c e h = h
taken-off a b true false c e h = absurd (cc e)
taken-off a b false q c e h = absurd (cc e)

left : (a b p q c : Bool) → (p && q) ≡ false → c ≡ (not (p && (a && (b && q))) && c)
left a b false q c e = refl
left true true true false c e = refl
left true false true false c e = refl
left false b true false c e = refl
left a b true true c e = absurd (cc e)

none-empty : (ms : List Message) → first_of ms ≡ None → ms ≡ []
none-empty [] e = refl
none-empty (m ∷ ms) e = absurd (cc e)

module _ (t f : ℕ) (u : ℕ) (k : Head) where
  -- the tests of a moment against that head's
  abbrev time-of : Stamp → Bool
  time-of s = s.time == k.stamp.time

  abbrev agent-of : Stamp → Bool
  agent-of s = s.agent == k.stamp.agent

  abbrev other : Bool
  other = f == k.from

  module _ (is : (t == u && other) ≡ true) where
    to-is : u ≡ t
    to-is = grind (arith, nat_tests, is)

    from-is : k.from ≡ f
    from-is = grind (arith, nat_tests, is)

    at-ends : (ls : List Link) → first_moment u k.from ls ≡ first_moment t f ls
    at-ends ls = ap (λ z. first_moment z k.from ls) to-is ∙ ap (λ z. first_moment t z ls) from-is

  pub lead-posted : (m : Message) (ls : List Link) → first_of (waiting t f ls) ≡ None
      → leads k (first_moment u k.from (posted t f m ls))
      ≡ ((t == u && same (head f (stamp_of m)) k) || leads k (first_moment u k.from ls))
  lead-posted m ls none = elim (cases_Bool (t == u && other)) [
    | inl e ↦
        let empty : waiting t f ls ≡ [] = none-empty (waiting t f ls) none in
        let new : first_moment t f (posted t f m ls) ≡ Some (stamp_of m) =
        ap moment (waiting-posted t f t f m ls ∙ (ap (λ b. cond b (waiting t f ls ++ m ∷ []) (waiting t f ls)) (self t f)
        ∙ ap (λ ms. ms ++ m ∷ []) empty)) in
        ap (leads k) (at-ends e (posted t f m ls) ∙ new)
        ∙ (here (time-of (stamp_of m)) (agent-of (stamp_of m)) (t == u) other e
        ∙ ap (λ o. (t == u && same (head f (stamp_of m)) k) || leads k o)
        (sym (at-ends e ls ∙ ap moment empty)))
    | inr e ↦
        ap (λ ms. leads k (moment ms)) (waiting-posted t f u k.from m ls
        ∙ ap (λ b. cond b (waiting u k.from ls ++ m ∷ []) (waiting u k.from ls)) e)
        ∙ elsewhere
        (time-of (stamp_of m)) (agent-of (stamp_of m)) (t == u) other (leads k (first_moment u k.from ls)) e
  ]
    where
      self : (a b : ℕ) → (a == a && b == b) ≡ true
      self a b = grind (arith, nat_tests)

  module _ (m : Message) (ls : List Link) (first : first_of (waiting t f ls) ≡ Some m) where
    abbrev had : Bool
    had = leads k (first_moment u k.from ls)

    -- what the heads have without that one
    abbrev without : Bool
    without = not (t == u && same (head f (stamp_of m)) k) && had

    no-more : (t == u && other) ≡ true → without ≡ false
    no-more e =
        taken-off (time-of (stamp_of m)) (agent-of (stamp_of m)) (t == u) other had e
        (ap (leads k) (at-ends e ls ∙ ap (option_map stamp_of) first))

    as-before : (t == u && other) ≡ false → leads k (first_moment u k.from (taken t f ls)) ≡ without
    as-before e =
        ap (λ ms. leads k (moment ms)) (waiting-taken t f u k.from ls
        ∙ ap (λ b. cond b (drop 1 (waiting u k.from ls)) (waiting u k.from ls)) e)
        ∙ left (time-of (stamp_of m)) (agent-of (stamp_of m)) (t == u) other had e

    pub lead-left : first_moment t f (taken t f ls) ≡ None → leads k (first_moment u k.from (taken t f ls)) ≡ without
    lead-left none = elim (cases_Bool (t == u && other)) [
      | inl e ↦ ap (leads k) (at-ends e (taken t f ls) ∙ none) ∙ sym (no-more e)
      | inr e ↦ as-before e
    ]

    pub lead-followed : (s : Stamp) → first_moment t f (taken t f ls) ≡ Some s
        → leads k (first_moment u k.from (taken t f ls)) ≡ ((t == u && same (head f s) k) || without)
    lead-followed s next = elim (cases_Bool (t == u && other)) [
      | inl e ↦
          ap (leads k) (at-ends e (taken t f ls) ∙ next)
          ∙ (here (time-of s) (agent-of s) (t == u) other e
          ∙ ap (λ z. (t == u && same (head f s) k) || z) (sym (no-more e)))
      | inr e ↦ as-before e ∙ elsewhere (time-of s) (agent-of s) (t == u) other without e
    ]

-- ---- the head that is taken next

leads-is : (k : Head) (o : Option Stamp) → leads k o ≡ true → o ≡ Some k.stamp
leads-is k None e = absurd (false≢true e)
leads-is k (Some s) e = grind (arith, nat_tests, e)

leads-self : (k : Head) → leads k (Some k.stamp) ≡ true
leads-self k = grind (arith, nat_tests)

has-first : (ms : List Message) (s : Stamp) → moment ms ≡ Some s → IsSome (first_of ms)
has-first [] s e = absurd (cc e)
has-first (m ∷ ms) s e = refl

module _ (to : ℕ) (hs : List Head) (ls : List Link)
    (are : (k : Head) → is_in k hs ≡ leads k (first_moment to k.from ls)) where
  module _ (h : Head) (there : is_in h hs ≡ true) where
    at : first_moment to h.from ls ≡ Some h.stamp
    at = leads-is h (first_moment to h.from ls) (sym (are h) ∙ there)

    pub next-there : IsSome (first_of (waiting to h.from ls))
    next-there = has-first (waiting to h.from ls) h.stamp at

    pub next-least : ((k : Head) → is_in k hs ≡ true → goes_before k h ≡ false)
        → (g : ℕ) → is_before to g h.from ls ≡ false
    next-least least g =
        ap (λ o. is_before_at (first_moment to g ls) g o h.from) at ∙ by (first_moment to g ls) refl
      where
        by : (o : Option Stamp) → first_moment to g ls ≡ o → is_before_at o g (Some h.stamp) h.from ≡ false
        by None e = refl
        by (Some s) e = least (head g s) (are (head g s) ∙ (ap (leads (head g s)) e ∙ leads-self (head g s)))

  pub next-none : hs ≡ [] → (g : ℕ) → waiting to g ls ≡ []
  next-none empty g = by (waiting to g ls) refl
    where
      by : (ms : List Message) → waiting to g ls ≡ ms → ms ≡ []
      by [] e = refl
      by (m ∷ ms) e =
          let k = head g (stamp_of m) in
          absurd (false≢true (ap (is_in k) (sym empty) ∙ (are k ∙ (ap (λ z. leads k (moment z)) e ∙ leads-self k))))

-- opening a link changes no first message
pub opened-same : {E : Type 0} (t f u g : ℕ) (r : Result (Unit {0}) E) (old new : List Link)
    → OnOk r (new ≡ opened t f old) → OnErr r (new ≡ old) → first_moment u g new ≡ first_moment u g old
opened-same t f u g (Ok x) old new ok err = ap (first_moment u g) ok ∙ ap moment (waiting-opened t f u g old)
opened-same t f u g (Err e) old new ok err = ap (first_moment u g) err

pub taken-none : (t f u g : ℕ) (ls : List Link)
    → first_of (waiting t f ls) ≡ None → first_moment u g (taken t f ls) ≡ first_moment u g ls
taken-none t f u g ls none = ap moment (waiting-taken t f u g ls) ∙ by (t == u && f == g) refl
  where
    by : (b : Bool) → (t == u && f == g) ≡ b
        → moment (cond b (drop 1 (waiting u g ls)) (waiting u g ls)) ≡ moment (waiting u g ls)
    by false h = refl
    by true h =
        let a : t ≡ u = grind (arith, nat_tests, h) in
        let b : f ≡ g = grind (arith, nat_tests, h) in
        let empty : waiting u g ls ≡ [] =
        ap (λ z. waiting z g ls) (sym a) ∙ (ap (λ z. waiting t z ls) (sym b) ∙ none-empty (waiting t f ls) none) in
        ap (λ ms. moment (drop 1 ms)) empty ∙ sym (ap moment empty)
