-- The merge law: local histories make one legal run, and what it leaves is what the processes have become.
use Rattle.std.proofs.Common.{◌≡◌, ℕ, suc, ◌+◌, ◌<◌, ◌≤◌, ◌≢◌, inl, inr, Bool, true, false, cond, ◌==◌, ◌&&◌, List, [], ◌∷◌, ◌++◌, map, length, refl, arith, ap, ap₂, sym, ◌∙◌, subst, append_assoc, Option}
use Rattle.std.proofs.lemmas.Bool.{and_from}
use Rattle.std.specs.List.{AllByRecursion}
use Rattle.pm_base.specs.declared.stamp.Line.{Line}
use Rattle.pm_history.specs.Merged.{Tagged, in_order, tags}
use Rattle.pm_history.specs.Stories.{Story}
use Rattle.pm_history.specs.declared.histories.Heard.{Heard}
use Rattle.pm_message.specs.declared.Message.{Message}
use Rattle.pm_cell.specs.Machines.{Machine}
use Rattle.pm_cell.specs.Sides.{ClocksBelow, Flies, Replays, Side, StandFor, after, messages, raised, stamped}
use Rattle.pm_ends.specs.declared.post.Post.{Post}
use Rattle.pm_cell.proofs.Lists.{FromClock, HeardFrom, InOrder, Rising, each_append, each_in_order, each_map, each_part, each_right, each_with, heard_of, in_order_is, part, part_in_order, same_or}
use Rattle.pm_cell.proofs.Machines.{AllThere, Laws, Through, is_some_first, legal, run}

-- each link's received list is a prefix of its sent list
abbrev pub Prefixed : {S : Type 0} → (ℕ → Side S) → Type 0
Prefixed {S} sides = (a b : ℕ) → (waits : List Post) × Flies (sides a) (sides b) a b waits

append_none : {X : Type 0} (xs : List X) → xs ≡ xs ++ []
append_none [] = refl
append_none (x ∷ xs) = ap (λ z. x ∷ z) (append_none xs)

tail_same : {X : Type 0} (x y : X) (xs ys : List X) → x ∷ xs ≡ y ∷ ys → xs ≡ ys
tail_same x y xs ys e = cc

pub head_same : {X : Type 0} (x y : X) (xs ys : List X) → x ∷ xs ≡ y ∷ ys → x ≡ y
head_same x y xs ys e = cc

pub cancel : {X : Type 0} (r xs ys : List X) → r ++ xs ≡ r ++ ys → xs ≡ ys
cancel [] xs ys e = e
cancel (x ∷ r) xs ys e = cancel r xs ys (tail_same x x (r ++ xs) (r ++ ys) e)

map_append : {X Y : Type 0} (f : X → Y) (xs ys : List X) → map f (xs ++ ys) ≡ map f xs ++ map f ys
map_append f [] ys = refl
map_append f (x ∷ xs) ys = ap (λ z. f x ∷ z) (map_append f xs ys)

unstamp : (c : ℕ) (ms : List Message) → ms ≡ map (λ (x : Post). x.message) (map (stamped c) ms)
unstamp c [] = refl
unstamp c (m ∷ ms) = ap (λ z. m ∷ z) (unstamp c ms)

-- x is the first in flight where all that comes later has a greater clock
first_in_flight : (n : ℕ) (flight out rest : List Post) (x : Post) → x.clock < n → AllByRecursion (λ y. n ≤ y.clock) out → flight ++ out ≡ x ∷ rest → (ys : List Post) × (flight ≡ x ∷ ys)
first_in_flight n [] [] rest x lt late e = absurd (cc)
first_in_flight n [] (y ∷ out) rest x lt late e = absurd (let same : y ≡ x = head_same y x out rest e in let low : n ≤ x.clock = subst (λ (z : Post). n ≤ z.clock) same late.0 in omega arith)
first_in_flight n (y ∷ ys) out rest x lt late e = (ys, ap (λ z. z ∷ ys) (head_same y x (ys ++ out) rest e))

module _ {W S : Type 0} (core : Machine W S) (window : Option Line) where
  pub replays_above : (p : ℕ) (hs : List Heard) (s t : Side S) → Replays core window p hs s t → AllByRecursion (HeardFrom (suc s.clock)) hs
  replays_above p [] s t r = tt
  replays_above p (h ∷ hs) s t (x, e, l, r) =
      (omega (arith, e), each_with (HeardFrom (suc (raised x.clock s.clock))) (HeardFrom (suc s.clock)) hs (λ y k. omega (arith, k)) (replays_above p hs (after core p h.from x s) t r))

  pub replays_rising : (p : ℕ) (hs : List Heard) (s t : Side S) → Replays core window p hs s t → Rising hs
  replays_rising p [] s t r = tt
  replays_rising p (h ∷ hs) s t (x, e, l, r) =
      (each_with (HeardFrom (suc (raised x.clock s.clock))) (HeardFrom (suc h.clock)) hs (λ y k. omega (arith, k, e)) (replays_above p hs (after core p h.from x s) t r), replays_rising p hs (after core p h.from x s) t r)

  -- what was received only grows
  pub received_since : (p : ℕ) (hs : List Heard) (s t : Side S) (b : ℕ) → Replays core window p hs s t → (news : List Post) × (t.received b ≡ s.received b ++ news)
  received_since p [] s t b r = ([], ap (λ (z : Side S). z.received b) r ∙ append_none (s.received b))
  received_since p (h ∷ hs) s t b (x, e, l, r) = go (b == h.from) (received_since p hs (after core p h.from x s) t b r)
    where
      go : (is : Bool) → ((news : List Post) × (t.received b ≡ cond is (s.received b ++ x ∷ []) (s.received b) ++ news)) → (news : List Post) × (t.received b ≡ s.received b ++ news)
      go true (news, k) = (x ∷ news, k ∙ append_assoc (s.received b) (x ∷ []) news)
      go false k = k

  -- what is sent in the story has a clock of the story
  pub sent_since : (n p : ℕ) (hs : List Heard) (s t : Side S) (a : ℕ) → AllByRecursion (HeardFrom n) hs → Replays core window p hs s t → (out : List Post) × (t.sent a ≡ s.sent a ++ out) × AllByRecursion (λ y. n ≤ y.clock) out
  sent_since n p [] s t a late r = ([], ap (λ (z : Side S). z.sent a) r ∙ append_none (s.sent a), tt)
  sent_since n p (h ∷ hs) s t a late (x, e, l, r) =
      let more = sent_since n p hs (after core p h.from x s) t a late.1 r in
      let new : List Post = map (stamped (raised x.clock s.clock)) (core.sends p s.state h.from x.message a) in
      let high : n ≤ raised x.clock s.clock = subst (λ (z : ℕ). n ≤ z) e late.0 in
      (new ++ more.0, more.1 ∙ append_assoc (s.sent a) new more.0, each_append (λ y. n ≤ y.clock) new more.0 (each_map (stamped (raised x.clock s.clock)) (λ (y : Post). n ≤ y.clock) (core.sends p s.state h.from x.message a) (λ m. high)) more.2)

module _ {W S : Type 0} (core : Machine W S) (windows : ℕ → Option Line) (e : Tagged) (es : List Tagged) (w : W) (sides ends : ℕ → Side S)
    (late : AllByRecursion (FromClock e.0) es) (there : core.has w e.1 ≡ true)
    (all : (k : ℕ) → Replays core (windows k) k (part k (e ∷ es)) (sides k) (ends k)) (prefixed : Prefixed ends) (stand : StandFor core sides w) where
  -- the receipt at its process: the post that it hears, and the rest of that story
  pub record Hears : Type 0 where
    pub post : Post
    pub clock : e.0 ≡ raised post.clock (sides e.1).clock
    pub through : core.holds (windows e.1) e.1 (sides e.1).state post.message ≡ false
    pub rest : Replays core (windows e.1) e.1 (part e.1 es) (after core e.1 e.2 post (sides e.1)) (ends e.1)
    pub later : List Post
    pub flies : Flies (sides e.1) (sides e.2) e.1 e.2 (post ∷ later)
    pub link : core.link w e.1 e.2 ≡ post.message ∷ map (λ (x : Post). x.message) later

  late_at : (k : ℕ) → AllByRecursion (HeardFrom e.0) (part k (e ∷ es))
  late_at k = go (e.1 == k) (each_part e.0 k es late)
    where
      go : (b : Bool) → AllByRecursion (HeardFrom e.0) (part k es) → AllByRecursion (HeardFrom e.0) (cond b (heard_of e ∷ part k es) (part k es))
      go true r = (omega arith, r)
      go false r = r

  at_process : Replays core (windows e.1) e.1 (heard_of e ∷ part e.1 es) (sides e.1) (ends e.1)
  at_process = elim (same_or e.1 e.1) [
    | inl same ↦ subst (λ (b : Bool). Replays core (windows e.1) e.1 (cond b (heard_of e ∷ part e.1 es) (part e.1 es)) (sides e.1) (ends e.1)) same.1 (all e.1)
    | inr other ↦ absurd (other.0 refl)
  ]

  first_got : (x : Post) → Replays core (windows e.1) e.1 (part e.1 es) (after core e.1 e.2 x (sides e.1)) (ends e.1)
      → (news : List Post) × ((ends e.1).received e.2 ≡ (sides e.1).received e.2 ++ x ∷ news)
  first_got x r = (let since = received_since core (windows e.1) e.1 (part e.1 es) (after core e.1 e.2 x (sides e.1)) (ends e.1) e.2 r in elim (same_or e.2 e.2) [
    | inl same ↦ (
      since.0,
      subst (λ (b : Bool). (ends e.1).received e.2 ≡ cond b ((sides e.1).received e.2 ++ x ∷ []) ((sides e.1).received e.2) ++ since.0) same.1 since.1
          ∙ append_assoc ((sides e.1).received e.2) (x ∷ []) since.0,
    )
    | inr other ↦ absurd (other.0 refl)
  ])

  pub hears : Hears
  hears =
      let x : Post = at_process.0 in
      let got = first_got x at_process.3 in
      let known = stand.links e.1 e.2 in
      let flight : List Post = known.0 in
      let had : List Post = (sides e.1).received e.2 in
      let more = sent_since core (windows e.2) e.0 e.2 (part e.2 (e ∷ es)) (sides e.2) (ends e.2) e.1 (late_at e.2) (all e.2) in
      let waits = prefixed e.1 e.2 in
      let whole : had ++ (flight ++ more.0) ≡ had ++ (x ∷ (got.0 ++ waits.0)) =
      sym (append_assoc had flight more.0) ∙ ap (λ z. z ++ more.0) (sym known.1) ∙ sym more.1 ∙ waits.1 ∙ ap (λ (z : List Post). z ++ waits.0) {y = had ++ x ∷ got.0} got.1 ∙ append_assoc had (x ∷ got.0) waits.0 in
      let here = first_in_flight e.0 flight more.0 (got.0 ++ waits.0) x (omega (arith, at_process.1)) more.2 (cancel had (flight ++ more.0) (x ∷ (got.0 ++ waits.0)) whole) in
      record {
        post = x;
        clock = at_process.1;
        through = at_process.2;
        rest = at_process.3;
        later = here.0;
        flies = known.1 ∙ ap (λ z. had ++ z) here.1;
        link = known.2 ∙ ap (map (λ (x : Post). x.message)) here.1;
      }

module _ {W S : Type 0} (core : Machine W S) (e : Tagged) (x : Post) (sides : ℕ → Side S) where
  -- all sides after the receipt
  abbrev pub next : ℕ → Side S
  next k = cond (e.1 == k) (after core k e.2 x (sides k)) (sides k)

  next_here : next e.1 ≡ after core e.1 e.2 x (sides e.1)
  next_here = elim (same_or e.1 e.1) [
    | inl same ↦ ap (λ (b : Bool). cond b (after core e.1 e.2 x (sides e.1)) (sides e.1)) same.1
    | inr other ↦ absurd (other.0 refl)
  ]

  next_else : (k : ℕ) → e.1 ≢ k → next k ≡ sides k
  next_else k ne = elim (same_or e.1 k) [
    | inl same ↦ absurd (ne same.0)
    | inr other ↦ ap (λ (b : Bool). cond b (after core k e.2 x (sides k)) (sides k)) other.1
  ]

  -- what holds of the receiver after the receipt and of every other process as it was, holds of all
  next_all : (P : ℕ → Side S → Type 0) → P e.1 (after core e.1 e.2 x (sides e.1)) → ((k : ℕ) → e.1 ≢ k → P k (sides k)) → (k : ℕ) → P k (next k)
  next_all P here else k = elim (same_or e.1 k) [
    | inl same ↦ subst (λ (j : ℕ). P j (next j)) same.0 (subst (P e.1) (sym next_here) here)
    | inr other ↦ subst (P k) (sym (next_else k other.0)) (else k other.0)
  ]

module _ {W S : Type 0} (core : Machine W S) (windows : ℕ → Option Line) (Inv : ℕ → W → Type 0) (laws : Laws core Inv) (number : ℕ) (e : Tagged) (es : List Tagged) (w : W) (sides ends : ℕ → Side S)
    (inv : Inv number w) (there : core.has w e.1 ≡ true) (all : (k : ℕ) → Replays core (windows k) k (part k (e ∷ es)) (sides k) (ends k)) (stand : StandFor core sides w)
    (x : Post) (later : List Post) (flies : Flies (sides e.1) (sides e.2) e.1 e.2 (x ∷ later))
    (link : core.link w e.1 e.2 ≡ x.message ∷ map (λ (x : Post). x.message) later) where
  abbrev then : W
  then = core.deliver w e.1 e.2

  next_replays : Replays core (windows e.1) e.1 (part e.1 es) (after core e.1 e.2 x (sides e.1)) (ends e.1) → (k : ℕ) → Replays core (windows k) k (part k es) (next core e x sides k) (ends k)
  next_replays rest = next_all core e x sides (λ k s. Replays core (windows k) k (part k es) s (ends k)) rest
      (λ k ne. elim (same_or e.1 k) [
        | inl same ↦ absurd (ne same.0)
        | inr other ↦ subst (λ (b : Bool). Replays core (windows k) k (cond b (heard_of e ∷ part k es) (part k es)) (sides k) (ends k)) other.1 (all k)
      ])

  was : (k : ℕ) → core.has then k ≡ true → core.has w k ≡ true
  was k h = sym (laws.same_has w e.1 e.2 k) ∙ h

  next_states : (k : ℕ) → core.has then k ≡ true → core.state then k ≡ (next core e x sides k).state
  next_states = next_all core e x sides (λ k s. core.has then k ≡ true → core.state then k ≡ s.state)
      (λ h. laws.receiver w e.1 e.2 x.message (messages later) there link ∙ ap (λ z. core.act e.1 z e.2 x.message) (stand.states e.1 there))
      (λ k ne h. laws.others w e.1 e.2 k (λ i. ne (sym i)) ∙ stand.states k (was k h))

  -- the link (a, b) without the message that was taken
  abbrev TakenIs : ℕ → ℕ → Side S → Type 0
  TakenIs a b s = (flight : List Post) × ((sides b).sent a ≡ s.received b ++ flight) × ((cond (a == e.1 && b == e.2) (messages later) (core.link w a b)) ≡ messages flight)

  taken_else : (a b : ℕ) → (s : Side S) → s.received b ≡ (sides a).received b → ((a == e.1 && b == e.2) ≡ false) → TakenIs a b s
  taken_else a b s same not =
      let known = stand.links a b in
      (known.0, known.1 ∙ ap (λ z. z ++ known.0) (sym same), ap (λ (c : Bool). cond c (messages later) (core.link w a b)) not ∙ known.2)

  taken : (b a : ℕ) → TakenIs a b (next core e x sides a)
  taken b = next_all core e x sides (λ a s. TakenIs a b s)
      (elim (same_or b e.2) [
        | inl same ↦ subst (λ (j : ℕ). TakenIs e.1 j (after core e.1 e.2 x (sides e.1))) (sym same.0) taken_here
        | inr other ↦ taken_else e.1 b (after core e.1 e.2 x (sides e.1))
            (ap (λ (c : Bool). cond c ((sides e.1).received b ++ x ∷ []) ((sides e.1).received b)) other.1)
            (and_second (e.1 == e.1) (b == e.2) other.1)
      ])
      (λ a ne. taken_else a b (sides a) refl (elim (same_or a e.1) [ inl same ↦ absurd (ne (sym same.0)) | inr other ↦ ap (λ (c : Bool). c && b == e.2) other.1 ]))
    where
      and_second : (c d : Bool) → d ≡ false → (c && d) ≡ false
      and_second true d h = h
      and_second false d h = refl

      taken_here : TakenIs e.1 e.2 (after core e.1 e.2 x (sides e.1))
      taken_here = elim (same_or e.2 e.2) [
        | inr other ↦ absurd (other.0 refl)
        | inl same ↦ elim (same_or e.1 e.1) [
          | inr other ↦ absurd (other.0 refl)
          | inl same' ↦ (
            later,
            flies ∙ sym (append_assoc ((sides e.1).received e.2) (x ∷ []) later)
                ∙ ap (λ (c : Bool). cond c ((sides e.1).received e.2 ++ x ∷ []) ((sides e.1).received e.2) ++ later) (sym same.1),
            ap (λ (c : Bool). cond c (messages later) (core.link w e.1 e.2)) (and_from (e.1 == e.1) (e.2 == e.2) same'.1 same.1),
          )
        ]
      ]

  -- the link (a, b) with what b sends
  abbrev SentIs : ℕ → ℕ → Side S → Type 0
  SentIs a b s = (new : List Post) × (s.sent a ≡ (sides b).sent a ++ new) × ((cond (b == e.1) (core.sends e.1 (core.state w e.1) e.2 x.message a) []) ≡ messages new)

  sent : (a b : ℕ) → SentIs a b (next core e x sides b)
  sent a = next_all core e x sides (λ b s. SentIs a b s)
      (let sends : List Message = core.sends e.1 (sides e.1).state e.2 x.message a in (
        map (stamped (raised x.clock (sides e.1).clock)) sends,
        refl,
        elim (same_or e.1 e.1) [
          | inr other ↦ absurd (other.0 refl)
          | inl same ↦ ap (λ (c : Bool). cond c (core.sends e.1 (core.state w e.1) e.2 x.message a) []) same.1
              ∙ ap (λ z. core.sends e.1 z e.2 x.message a) (stand.states e.1 there) ∙ unstamp (raised x.clock (sides e.1).clock) sends
        ],
      ))
      (λ b ne. (
        [],
        append_none ((sides b).sent a),
        elim (same_or b e.1) [
          | inl same ↦ absurd (ne (sym same.0))
          | inr other ↦ ap (λ (c : Bool). cond c (core.sends e.1 (core.state w e.1) e.2 x.message a) []) other.1
        ],
      ))

  next_links : (a b : ℕ) → (flight : List Post) × Flies (next core e x sides a) (next core e x sides b) a b flight × (core.link then a b ≡ messages flight)
  next_links a b =
      let less = taken b a in
      let more = sent a b in
      let had : List Post = (next core e x sides a).received b in (
        less.0 ++ more.0,
        more.1 ∙ ap (λ z. z ++ more.0) less.1 ∙ append_assoc had less.0 more.0,
        laws.links number w e.1 e.2 x.message (messages later) a b inv there link ∙ ap₂ (λ y z. y ++ z) less.2 more.2 ∙ sym (map_append (λ (y : Post). y.message) less.0 more.0),
      )

  pub next_stands : StandFor core (next core e x sides) then
  next_stands = record { states = next_states; links = next_links }

  pub next_clocks : (n : ℕ) → ((k : ℕ) → ClocksBelow n (sides k)) → (k : ℕ) → ClocksBelow (suc n) (next core e x sides k)
  next_clocks n low = next_all core e x sides (λ k s. ClocksBelow (suc n) s)
      (let first : AllByRecursion (λ (y : Post). y.clock ≤ n) (x ∷ later) = each_right (λ (y : Post). y.clock ≤ n) ((sides e.1).received e.2) (x ∷ later)
      (subst (λ (ys : List Post). AllByRecursion (λ (y : Post). y.clock ≤ n) ys) flies ((low e.2).sent e.1)) in
      let carried : x.clock ≤ n = first.0 in
      let own : (sides e.1).clock ≤ n = (low e.1).own in
      let c : raised x.clock (sides e.1).clock ≤ suc n = omega (arith, carried, own) in record {
        own = c;
        sent = λ a. each_append (λ (y : Post). y.clock ≤ suc n) ((sides e.1).sent a) (map (stamped (raised x.clock (sides e.1).clock)) (core.sends e.1 (sides e.1).state e.2 x.message a))
            (each_with (λ (y : Post). y.clock ≤ n) (λ (y : Post). y.clock ≤ suc n) ((sides e.1).sent a) (λ y h. omega (arith, h)) ((low e.1).sent a))
            (each_map (stamped (raised x.clock (sides e.1).clock)) (λ (y : Post). y.clock ≤ suc n) (core.sends e.1 (sides e.1).state e.2 x.message a) (λ m. c));
      })
      (λ k ne. record {
        own = let own = (low k).own in omega (arith, own);
        sent = λ a. each_with (λ (y : Post). y.clock ≤ n) (λ (y : Post). y.clock ≤ suc n) ((sides k).sent a) (λ y h. omega (arith, h)) ((low k).sent a);
      })

  -- the window let the first message of the link through
  pub next_through : core.holds (windows e.1) e.1 (sides e.1).state x.message ≡ false → (m : Message) (ms : List Message) → core.link w e.1 e.2 ≡ m ∷ ms → core.holds (windows e.1) e.1 (core.state w e.1) m ≡ false
  next_through let_through m ms is =
      let same : x.message ≡ m = head_same x.message m (messages later) ms (sym link ∙ is) in
      ap₂ (λ (z : S) (y : Message). core.holds (windows e.1) e.1 z y) (stand.states e.1 there) (sym same) ∙ let_through

-- the merge law's conclusion over receipts in the order of their clocks
pub record MergedOf {W S : Type 0} (core : Machine W S) (windows : ℕ → Option Line) (Inv : ℕ → W → Type 0) (number : ℕ) (w : W) (es : List Tagged) (sides ends : ℕ → Side S) : Type 0 where
  pub is_legal : legal core w es ≡ true
  pub through : Through core windows w es
  pub leads : Inv (number + length es) (run core w es)
  pub stand : StandFor core ends (run core w es)
  pub clocks : (n : ℕ) → ((k : ℕ) → ClocksBelow n (sides k)) → (k : ℕ) → ClocksBelow (n + length es) (ends k)

module _ {W S : Type 0} (core : Machine W S) (windows : ℕ → Option Line) (Inv : ℕ → W → Type 0) (laws : Laws core Inv) where
  pub merges : (es : List Tagged) (number : ℕ) (w : W) (sides ends : ℕ → Side S) → InOrder es → Inv number w → AllThere core w es
      → ((k : ℕ) → Replays core (windows k) k (part k es) (sides k) (ends k)) → Prefixed ends → StandFor core sides w → MergedOf core windows Inv number w es sides ends
  merges [] number w sides ends order inv there all prefixed stand =
      let same : ends ≡ sides = λ i k. (all k) i in
      record {
        is_legal = refl;
        through = tt;
        leads = subst (λ (m : ℕ). Inv m w) (omega arith) inv;
        stand = subst (λ (z : ℕ → Side S). StandFor core z w) (sym same) stand;
        clocks = λ n low k. subst (λ (s : Side S). ClocksBelow (n + 0) s) (sym (all k)) (raise n low k);
      }
    where
      raise : (n : ℕ) → ((k : ℕ) → ClocksBelow n (sides k)) → (k : ℕ) → ClocksBelow (n + 0) (sides k)
      raise n low k = subst (λ (m : ℕ). ClocksBelow m (sides k)) (omega arith) (low k)
  merges (e ∷ es) number w sides ends order inv there all prefixed stand =
      let h = hears core windows e es w sides ends order.0 there.0 all prefixed stand in
      let w' : W = core.deliver w e.1 e.2 in
      let next_sides : ℕ → Side S = next core e h.post sides in
      let again : MergedOf core windows Inv (suc number) w' es next_sides ends = merges es (suc number) w' next_sides ends order.1
      (laws.leads number w e.1 e.2 h.post.message (messages h.later) inv h.link)
      (each_with (λ (d : Tagged). core.has w d.1 ≡ true) (λ (d : Tagged). core.has w' d.1 ≡ true) es (λ d i. laws.same_has w e.1 e.2 d.1 ∙ i) there.1)
      (next_replays core windows Inv laws number e es w sides ends inv there.0 all stand h.post h.later h.flies h.link h.rest) prefixed
      (next_stands core windows Inv laws number e es w sides ends inv there.0 all stand h.post h.later h.flies h.link) in
      record {
        is_legal = and_from (is_some_first (core.link w e.1 e.2)) (legal core w' es) (ap is_some_first h.link) again.is_legal;
        through = (next_through core windows Inv laws number e es w sides ends inv there.0 all stand h.post h.later h.flies h.link h.through, again.through);
        leads = subst (λ (m : ℕ). Inv m (run core w' es)) (omega arith) again.leads;
        stand = again.stand;
        clocks = λ n low k. subst (λ (m : ℕ). ClocksBelow m (ends k)) (omega arith) (again.clocks (suc n) (next_clocks core windows Inv laws number e es w sides ends inv there.0 all stand h.post h.later h.flies h.link n low) k);
      }

  -- the merge law
  pub merge_law : (ss : List Story) (number : ℕ) (w : W) (starts sides : ℕ → Side S) → Inv number w → AllThere core w (tags ss)
      → ((k : ℕ) → Replays core (windows k) k (part k (tags ss)) (starts k) (sides k)) → Prefixed sides → StandFor core starts w
      → MergedOf core windows Inv number w (in_order (tags ss)) starts sides
  merge_law ss number w starts sides inv there all prefixed stand =
      merges (in_order (tags ss)) number w starts sides (in_order_is (tags ss)) inv (each_in_order (λ (e : Tagged). core.has w e.1 ≡ true) (tags ss) there)
      (λ k. subst (λ (hs : List Heard). Replays core (windows k) k hs (starts k) (sides k)) (sym (part_in_order k (tags ss) (replays_rising core (windows k) k (part k (tags ss)) (starts k) (sides k) (all k)))) (all k))
      prefixed stand
