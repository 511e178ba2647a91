-- The mail of all links, as one letter is taken and others are posted.
use Rattle.std.proofs.Common.{◌≡◌, ℕ, ◌+◌, ◌⊎◌, inl, inr, Bool, true, false, cond, List, [], ◌∷◌, ◌++◌, map, refl, arith, ap, sym, ◌∙◌, subst, Option, Some, None}
use Rattle.std.proofs.lemmas.Bool.{cases_Bool, and_parts}
use Rattle.std.proofs.lemmas.Bool.Decides.{nat_tests}
use Rattle.std.proofs.lemmas.List.{map-append}
use Rattle.pm_message.specs.declared.Message.{Message}
use Rattle.pm_sim.specs.Worlds.{Link, Mail, Posted, Process, Taken, is_process, is_link, mail, mail_of, post, post_all, take_first, take_from, link_in_front}
use Rattle.pm_sim.specs.Worlds.Process.{AtClp, AtAgent}
use Rattle.pm_sim.specs.Sims.{In, one_if, tally}
use Rattle.pm_sim.specs.Routings.{mail_to}
use Rattle.pm_sim.proofs.Arrivals.{Mailed}
use Rattle.pm_sim.proofs.Going.{tally_append}
use Rattle.pm_sim.proofs.Lists.{in_left, in_right, in_cases}

abbrev pub message_of : Mail → Message
message_of x = x.message

abbrev pub letters_of : List Mail → List Message
letters_of xs = map message_of xs

abbrev pub letters : List Link → List Message
letters ls = letters_of (mail ls)

-- new is old without gone and with sent, in any order
pub record Bag {X : Type 0} (old new gone sent : List X) : Type 0 where
  pub tallies : (P : X → Bool) → tally P new + tally P gone ≡ tally P old + tally P sent
  pub kept : (x : X) → In x old → In x gone ⊎ In x new
  pub from : (x : X) → In x new → In x old ⊎ In x sent
  pub added : (x : X) → In x sent → In x new
  pub first : (x : X) → In x gone → In x old

one_split : (b : Bool) (n : ℕ) → one_if b n ≡ n + one_if b 0
one_split true n = omega arith
one_split false n = omega arith

-- ys has x and all that xs has, and no more
pub record OneMore {X : Type 0} (xs : List X) (x : X) (ys : List X) : Type 0 where
  pub count : (P : X → Bool) → tally P ys ≡ tally P xs + one_if (P x) 0
  pub into : (m : X) → (m ≡ x) ⊎ In m xs → In m ys
  pub out : (m : X) → In m ys → (m ≡ x) ⊎ In m xs

more_at_end : {X : Type 0} (x : X) (xs ys : List X) → OneMore (xs ++ ys) x ((xs ++ x ∷ []) ++ ys)
more_at_end x xs ys = record {
  count = λ P. omega (arith, tally_append P (xs ++ x ∷ []) ys, tally_append P xs (x ∷ []), tally_append P xs ys);
  into = λ m h. elim h [
    | inl e ↦ in_left (xs ++ x ∷ []) ys m (in_right xs (x ∷ []) m (inl e))
    | inr i ↦ elim (in_cases xs ys m i) [
      | inl j ↦ in_left (xs ++ x ∷ []) ys m (in_left xs (x ∷ []) m j)
      | inr j ↦ in_right (xs ++ x ∷ []) ys m j
    ]
  ];
  out = λ m h. elim (in_cases (xs ++ x ∷ []) ys m h) [
    | inl i ↦ elim (in_cases xs (x ∷ []) m i) [
      | inl j ↦ inr (in_left xs ys m j)
      | inr j ↦ elim j [ inl e ↦ inl e | inr n ↦ absurd n ]
    ]
    | inr i ↦ inr (in_right xs ys m i)
  ];
}

more_behind : {X : Type 0} (x : X) (zs xs ys : List X) → OneMore xs x ys → OneMore (zs ++ xs) x (zs ++ ys)
more_behind x zs xs ys o = record {
  count = λ P. omega (arith, tally_append P zs xs, tally_append P zs ys, o.count P);
  into = λ m h. elim h [
    | inl e ↦ in_right zs ys m (o.into m (inl e))
    | inr i ↦ elim (in_cases zs xs m i) [ inl j ↦ in_left zs ys m j | inr j ↦ in_right zs ys m (o.into m (inr j)) ]
  ];
  out = λ m h. elim (in_cases zs ys m h) [
    | inl i ↦ inr (in_left zs xs m i)
    | inr i ↦ elim (o.out m i) [ inl e ↦ inl e | inr j ↦ inr (in_right zs xs m j) ]
  ];
}

pub process_same : (a b : Process) → is_process a b ≡ true → a ≡ b
process_same (AtClp c) (AtClp d) e = (let f : c ≡ d = grind (arith, nat_tests, e) in ap AtClp f)
process_same (AtClp c) (AtAgent a) e = absurd (cc)
process_same (AtAgent a) (AtClp c) e = absurd (cc)
process_same (AtAgent a) (AtAgent b) e = (let f : a ≡ b = grind (arith, nat_tests, e) in ap AtAgent f)

pub process_self : (a : Process) → is_process a a ≡ true
process_self (AtClp c) = grind (arith, nat_tests)
process_self (AtAgent a) = grind (arith, nat_tests)

link_is : (to from : Process) (l : Link) → is_link to from l ≡ true → (l.to ≡ to) × (l.from ≡ from)
link_is to from l e = (let a = and_parts (is_process l.to to) (is_process l.from from) e in
    (process_same l.to to a.0, process_same l.from from a.1))

abbrev tagged : Process → Process → List Message → List Mail
tagged to from ms = map (λ (m : Message). mail_to to from m) ms

pub post_more : (to from : Process) (x : Message) (ls : List Link)
    → OneMore (mail ls) (mail_to to from x) (mail (post to from x ls))
post_more to from x [] = more_at_end (mail_to to from x) [] []
post_more to from x (l ∷ ls) = (let again = post_more to from x ls in elim (cases_Bool (is_link to from l)) [
  | inl e ↦ rw e (let k = link_is to from l e in
      subst (λ z. OneMore (mail_of l ++ mail ls) (mail_to to from x) (z ++ mail ls))
      (sym (map-append (λ (m : Message). mail_to l.to l.from m) l.messages (x ∷ [])))
      (subst (λ z. OneMore (mail_of l ++ mail ls) z ((mail_of l ++ mail_to l.to l.from x ∷ []) ++ mail ls))
      (same k.0 k.1) (more_at_end (mail_to l.to l.from x) (mail_of l) (mail ls))))
  | inr e ↦ rw e (more_behind (mail_to to from x) (mail_of l) (mail ls) (mail (post to from x ls)) again)
])
  where
    same : l.to ≡ to → l.from ≡ from → mail_to l.to l.from x ≡ mail_to to from x
    same a b = λ i. mail_to (a i) (b i) x

first_taken : (l : Link) (ls : List Link) (ms : List Message) (t : Taken) → l.messages ≡ ms
    → take_first l ls ms ≡ Some t → OneMore (mail t.links) (mail_to l.to l.from t.message) (mail (l ∷ ls))
first_taken l ls [] t e f = absurd (cc)
first_taken l ls (m ∷ ms) t e f =
    let g : t ≡ record { message = m; links = record l { messages = ms } ∷ ls } = some_taken _ _ f in
    subst (λ (z : Taken). OneMore (mail z.links) (mail_to l.to l.from z.message) (mail (l ∷ ls))) (sym g)
    (subst (λ z. OneMore (tagged l.to l.from ms ++ mail ls) (mail_to l.to l.from m) (tagged l.to l.from z ++ mail ls))
    (sym e) (front (mail_to l.to l.from m) (tagged l.to l.from ms) (mail ls)))
  where
    some_taken : (a b : Taken) → Some a ≡ Some b → b ≡ a
    some_taken a b h = cc

    front : (x : Mail) (xs ys : List Mail) → OneMore (xs ++ ys) x (x ∷ (xs ++ ys))
    front x xs ys = record { count = λ P. one_split (P x) (tally P (xs ++ ys)); into = λ k h. h; out = λ k h. h }

pub taken : (to from : Process) (ls : List Link) (t : Taken)
    → take_from to from ls ≡ Some t → OneMore (mail t.links) (mail_to to from t.message) (mail ls)
taken to from [] t e = absurd (cc)
taken to from (l ∷ ls) t e = elim (cases_Bool (is_link to from l)) [
  | inl f ↦ (let k = link_is to from l f in subst (λ z. OneMore (mail t.links) z (mail (l ∷ ls))) (same k.0 k.1)
      (first_taken l ls l.messages t refl
      (subst (λ b. cond b (take_first l ls l.messages) (link_in_front l (take_from to from ls)) ≡ Some t) f e)))
  | inr f ↦ behind (take_from to from ls)
      refl (subst (λ b. cond b (take_first l ls l.messages) (link_in_front l (take_from to from ls)) ≡ Some t) f e)
      (taken to from ls)
]
  where
    same : l.to ≡ to → l.from ≡ from → mail_to l.to l.from t.message ≡ mail_to to from t.message
    same a b = λ i. mail_to (a i) (b i) t.message

    behind : (o : Option Taken) → take_from to from ls ≡ o → link_in_front l o ≡ Some t
        → ((u : Taken) → take_from to from ls ≡ Some u → OneMore (mail u.links) (mail_to to from u.message) (mail ls))
        → OneMore (mail t.links) (mail_to to from t.message) (mail (l ∷ ls))
    behind None e' f rec = absurd (cc)
    behind (Some u) e' f rec =
        let g : record u { links = l ∷ u.links } ≡ t = cc in
        subst (λ (z : Taken). OneMore (mail z.links) (mail_to to from z.message) (mail (l ∷ ls)))
        g (more_behind (mail_to to from u.message) (mail_of l) (mail u.links) (mail ls) (rec u e'))

-- several are posted
pub record More {X : Type 0} (xs : List X) (new : List X) (ys : List X) : Type 0 where
  pub count : (P : X → Bool) → tally P ys ≡ tally P xs + tally P new
  pub into : (m : X) → In m new ⊎ In m xs → In m ys
  pub out : (m : X) → In m ys → In m new ⊎ In m xs

abbrev pub sent_mail : Process → List Posted → List Mail
sent_mail from ss = map (λ (s : Posted). mail_to s.to from s.message) ss

pub all_posted : (from : Process) (ss : List Posted) (ls : List Link)
    → More (mail ls) (sent_mail from ss) (mail (post_all from ss ls))
all_posted from [] ls =
    record { count = λ P. omega arith; into = λ m h. elim h [ inl n ↦ absurd n | inr i ↦ i ]; out = λ m i. inr i }
all_posted from (s ∷ ss) ls =
    let one = post_more s.to from s.message ls in
    let rest = all_posted from ss (post s.to from s.message ls) in
    record {
      count = λ P. rest.count P ∙ (ap (λ k. k + tally P (sent_mail from ss)) (one.count P)
          ∙ sum (P (mail_to s.to from s.message)) (tally P (mail ls)) (tally P (sent_mail from ss)));
      into = λ m h. elim h [
        | inl i ↦ elim i [ inl e ↦ rest.into m (inr (one.into m (inl e))) | inr j ↦ rest.into m (inl j) ]
        | inr i ↦ rest.into m (inr (one.into m (inr i)))
      ];
      out = λ m i. elim (rest.out m i) [
        | inl j ↦ inl (inr j)
        | inr j ↦ elim (one.out m j) [ inl e ↦ inl (inl e) | inr k ↦ inr k ]
      ];
    }
  where
    sum : (b : Bool) (a c : ℕ) → (a + one_if b 0) + c ≡ a + one_if b c
    sum true a c = omega arith
    sum false a c = omega arith

-- a whole delivery, as far as mail goes
pub delivered_bag : (to from : Process) (ls : List Link) (t : Taken) (ss : List Posted) → take_from to from ls ≡ Some t
    → Bag (mail ls) (mail (post_all to ss t.links)) (mail_to to from t.message ∷ []) (sent_mail to ss)
delivered_bag to from ls t ss e =
    let one = taken to from ls t e in
    let more = all_posted to ss t.links in
    record {
      tallies = λ P. omega (arith, one.count P, more.count P);
      kept = λ x i. elim (one.out x i) [ inl f ↦ inl (inl f) | inr j ↦ inr (more.into x (inr j)) ];
      from = λ x i. elim (more.out x i) [ inl j ↦ inr j | inr j ↦ inl (one.into x (inr j)) ];
      added = λ x i. more.into x (inl i);
      first = λ x i. elim i [ inl f ↦ one.into x (inl f) | inr n ↦ absurd n ];
    }

-- maps of bags
pub tally_map : {X Y : Type 0} (f : X → Y) (P : Y → Bool) (xs : List X) → tally P (map f xs) ≡ tally (λ x. P (f x)) xs
tally_map f P [] = refl
tally_map f P (x ∷ xs) = ap (one_if (P (f x))) (tally_map f P xs)

pub in_map : {X Y : Type 0} (f : X → Y) (xs : List X) (y : Y) → In y (map f xs) → (x : X) × In x xs × (y ≡ f x)
in_map f [] y i = absurd i
in_map f (x ∷ xs) y (inl e) = (x, inl refl, e)
in_map f (x ∷ xs) y (inr i) = (let r = in_map f xs y i in (r.0, inr r.1, r.2))

pub map_in : {X Y : Type 0} (f : X → Y) (xs : List X) (x : X) → In x xs → In (f x) (map f xs)
map_in f [] x i = absurd i
map_in f (z ∷ xs) x (inl e) = inl (ap f e)
map_in f (z ∷ xs) x (inr i) = inr (map_in f xs x i)

pub bag_map : {X Y : Type 0} (f : X → Y) (old new gone sent : List X)
    → Bag old new gone sent → Bag (map f old) (map f new) (map f gone) (map f sent)
bag_map f old new gone sent b = record {
  tallies = λ P. (let t = b.tallies (λ x. P (f x)) in
      omega (arith, tally_map f P old, tally_map f P new, tally_map f P gone, tally_map f P sent));
  kept = λ y i. (let r = in_map f old y i in
      elim (b.kept r.0 r.1) [
        | inl j ↦ inl (subst (λ z. In z (map f gone)) (sym r.2) (map_in f gone r.0 j))
        | inr j ↦ inr (subst (λ z. In z (map f new)) (sym r.2) (map_in f new r.0 j))
      ]);
  from = λ y i. (let r = in_map f new y i in
      elim (b.from r.0 r.1) [
        | inl j ↦ inl (subst (λ z. In z (map f old)) (sym r.2) (map_in f old r.0 j))
        | inr j ↦ inr (subst (λ z. In z (map f sent)) (sym r.2) (map_in f sent r.0 j))
      ]);
  added = λ y i.
      (let r = in_map f sent y i in subst (λ z. In z (map f new)) (sym r.2) (map_in f new r.0 (b.added r.0 r.1)));
  first = λ y i.
      (let r = in_map f gone y i in subst (λ z. In z (map f old)) (sym r.2) (map_in f old r.0 (b.first r.0 r.1)));
}

-- the letters alone, where one was taken
pub bag_mailed : (old new sent : List Message) (m : Message) → Bag old new (m ∷ []) sent → Mailed old new m sent
bag_mailed old new sent m b = record {
  tallies = λ P. b.tallies P;
  kept = λ x i. elim (b.kept x i) [ inl j ↦ elim j [ inl e ↦ inl e | inr n ↦ absurd n ] | inr j ↦ inr j ];
  from = b.from;
  added = b.added;
  first = b.first m (inl refl);
}

-- the first part of what was sent is there already
pub bag_split : {X : Type 0} (old new gone xs ys : List X) → Bag old new gone (xs ++ ys) → Bag (xs ++ old) new gone ys
bag_split old new gone xs ys b = record {
  tallies = λ P. omega (arith, b.tallies P, tally_append P xs ys, tally_append P xs old);
  kept = λ x i. elim (in_cases xs old x i) [ inl j ↦ inr (b.added x (in_left xs ys x j)) | inr j ↦ b.kept x j ];
  from = λ x i. elim (b.from x i) [
    | inl j ↦ inl (in_right xs old x j)
    | inr j ↦ elim (in_cases xs ys x j) [ inl k ↦ inl (in_left xs old x k) | inr k ↦ inr k ]
  ];
  added = λ x i. b.added x (in_right xs ys x i);
  first = λ x i. in_right xs old x (b.first x i);
}
