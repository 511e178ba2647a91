-- Links by their places: what posting and taking do to the link of a place, and where links stand afterwards.
use Rattle.std.proofs.Common.{◌≡◌, ℕ, zero, suc, ◌+◌, ◌<◌, ◌==◌, ◌&&◌, ◌||◌, ◌∙◌, Bool, true, false, cond, List, [], ◌∷◌, ◌++◌, length, map, get_or, set, drop, Option, Some, None, refl, sym, ap, arith}
use Rattle.std.specs.Prelude.{option_map, is_some, ◌↔◌, IfSome, OnErr, OnOk, Result, Ok, Err, option_copied}
use Rattle.std.specs.Option.{IsSome, MatchOption, option_to_list}
use Rattle.std.proofs.Common.{Bor, take}
use Rattle.std.proofs.lemmas.List.{map-append, take_more}
use Rattle.pm_base.specs.Stamps.{least_line_of, or_lower}
use Rattle.pm_base.specs.declared.stamp.Line.{Line}
use Rattle.pm_base.specs.declared.stamp.Stamp.{Stamp}
use Rattle.pm_base.proofs.Orders.{least_line_of-snoc}
use Rattle.pm_message.specs.Messages.{stamp_of}
use Rattle.std.specs.BTreeMap.{is_at}
use Rattle.std.proofs.lemmas.Bool.{false≢true}
use Rattle.std.proofs.lemmas.Bool.Decides.{nat_tests}
use Rattle.std.proofs.lemmas.Option.{same_Some}
use Rattle.pm_message.specs.declared.Message.{Message}
use Rattle.pm_mail.specs.Inner.{ends_cmp, link_of, lowered, messages_at, place_of, posted_at, taken_at}
use Rattle.pm_mail.specs.Links.{Link, first_of, has_link, is_link, moments, posted, taken, waiting}
use Rattle.pm_mail.specs.declared.lane.Ends.{Ends}
use Rattle.pm_mail.specs.declared.lane.Lane.{Lane}

-- what is at a place that was found behind the first link
not_zero : (o : Option ℕ) → option_map suc o ≡ Some zero → ⊥
not_zero None e = cc e
not_zero (Some n) e = let h : suc n ≡ zero = same_Some _ _ e in omega (arith, h)

one_less : (o : Option ℕ) (n : ℕ) → option_map suc o ≡ Some (suc n) → o ≡ Some n
one_less None n e = absurd (cc e)
one_less (Some m) n e = let h : suc m ≡ suc n = same_Some _ _ e in ap Some (omega (arith, h))

none_less : (o : Option ℕ) → option_map suc o ≡ None → o ≡ None
none_less None e = refl
none_less (Some m) e = absurd (cc e)

-- by induction along the links up to the place that was found
module _ (t f : ℕ) (P : ℕ → List Link → Type 0)
    (here : (l : Link) (ls : List Link) → is_link t f l ≡ true → P zero (l ∷ ls))
    (next : (l : Link) (ls : List Link) (n : ℕ) → is_link t f l ≡ false → P n ls → P (suc n) (l ∷ ls)) where
  pub found : (n : ℕ) (ls : List Link) → place_of t f ls ≡ Some n → P n ls
  found n [] e = absurd (cc e)
  found n (l ∷ ls) e = by n (is_link t f l) refl (λ k h. found k ls h) e
    where
      by : (k : ℕ) (b : Bool) → is_link t f l ≡ b → ((j : ℕ) → place_of t f ls ≡ Some j → P j ls)
          → cond b (Some 0) (option_map suc (place_of t f ls)) ≡ Some k → P k (l ∷ ls)
      by zero true is again h = here l ls is
      by (suc k) true is again h = absurd (let z : zero ≡ suc k = same_Some _ _ h in omega (arith, z))
      by zero false is again h = absurd (not_zero (place_of t f ls) h)
      by (suc k) false is again h = next l ls k is (again k (one_less (place_of t f ls) k h))

-- and along all of them, where there is no such link
module _ (t f : ℕ) (P : List Link → Type 0) (none : P [])
    (next : (l : Link) (ls : List Link) → is_link t f l ≡ false → P ls → P (l ∷ ls)) where
  pub missing : (ls : List Link) → place_of t f ls ≡ None → P ls
  missing [] e = none
  missing (l ∷ ls) e = by (is_link t f l) refl (λ h. missing ls h) e
    where
      by : (b : Bool) → is_link t f l ≡ b → (place_of t f ls ≡ None → P ls)
          → cond b (Some 0) (option_map suc (place_of t f ls)) ≡ None → P (l ∷ ls)
      by true is again h = absurd (cc h)
      by false is again h = next l ls is (again (none_less (place_of t f ls) h))

pub place-low : (t f n : ℕ) (ls : List Link) → place_of t f ls ≡ Some n → n < length ls
place-low t f = found t f (λ n ls. n < length ls) (λ l ls is. omega arith) (λ l ls n is h. omega (arith, h))

pub posted-there : (t f : ℕ) (m : Message) (n : ℕ) (ls : List Link)
    → place_of t f ls ≡ Some n → posted t f m ls ≡ posted_at n m ls
posted-there t f m = found t f (λ n ls. posted t f m ls ≡ posted_at n m ls)
    (λ l ls is. rw is refl) (λ l ls n is h. rw is (ap (λ z. l ∷ z) h))

pub posted-new : (t f : ℕ) (m : Message) (ls : List Link) → place_of t f ls ≡ None
    → posted t f m ls ≡ ls ++ (record { to = t; from = f; messages = m ∷ [] }) ∷ []
posted-new t f m =
    missing t f (λ ls. posted t f m ls ≡ ls ++ (record { to = t; from = f; messages = m ∷ [] }) ∷ []) refl
    (λ l ls is h. rw is (ap (λ z. l ∷ z) h))

pub waiting-there : (t f n : ℕ) (ls : List Link) → place_of t f ls ≡ Some n → waiting t f ls ≡ messages_at n ls
waiting-there t f =
    found t f (λ n ls. waiting t f ls ≡ messages_at n ls) (λ l ls is. rw is refl) (λ l ls n is h. rw is h)

pub waiting-new : (t f : ℕ) (ls : List Link) → place_of t f ls ≡ None → waiting t f ls ≡ []
waiting-new t f = missing t f (λ ls. waiting t f ls ≡ []) refl (λ l ls is h. rw is h)

pub taken-there : (t f n : ℕ) (ls : List Link) → place_of t f ls ≡ Some n → taken t f ls ≡ taken_at n ls
taken-there t f = found t f (λ n ls. taken t f ls ≡ taken_at n ls)
    (λ l ls is. rw is refl) (λ l ls n is h. rw is (ap (λ z. l ∷ z) h))

pub taken-new : (t f : ℕ) (ls : List Link) → place_of t f ls ≡ None → taken t f ls ≡ ls
taken-new t f = missing t f (λ ls. taken t f ls ≡ ls) refl (λ l ls is h. rw is (ap (λ z. l ∷ z) h))

-- there is a link exactly where it has a place
pub has-place : (t f : ℕ) (ls : List Link) → has_link t f ls ≡ is_some (place_of t f ls)
has-place t f [] = refl
has-place t f (l ∷ ls) = by (is_link t f l) (place_of t f ls) (has-place t f ls)
  where
    by : (b : Bool) (o : Option ℕ)
        → has_link t f ls ≡ is_some o → (b || has_link t f ls) ≡ is_some (cond b (Some 0) (option_map suc o))
    by true o e = refl
    by false None e = e
    by false (Some n) e = e

-- posting and taking move no link
pub place-posted : (t f n : ℕ) (m : Message) (ls : List Link) → place_of t f (posted_at n m ls) ≡ place_of t f ls
place-posted t f n m [] = refl
place-posted t f zero m (l ∷ ls) = refl
place-posted t f (suc n) m (l ∷ ls) =
    ap (λ o. cond (is_link t f l) (Some 0) (option_map suc o)) (place-posted t f n m ls)

pub place-taken : (t f n : ℕ) (ls : List Link) → place_of t f (taken_at n ls) ≡ place_of t f ls
place-taken t f n [] = refl
place-taken t f zero (l ∷ ls) = refl
place-taken t f (suc n) (l ∷ ls) = ap (λ o. cond (is_link t f l) (Some 0) (option_map suc o)) (place-taken t f n ls)

-- a link behind the others: found where none of them was
abbrev pub or_last : Option ℕ → ℕ → Bool → Option ℕ
or_last (Some n) last b = Some n
or_last None last b = cond b (Some last) None

pub place-append : (t f : ℕ) (ls : List Link) (l : Link)
    → place_of t f (ls ++ l ∷ []) ≡ or_last (place_of t f ls) (length ls) (is_link t f l)
place-append t f [] l = by (is_link t f l)
  where
    by : (b : Bool) → cond b (Some 0) None ≡ or_last None 0 b
    by true = refl
    by false = refl
place-append t f (x ∷ ls) l = ap (λ o. cond (is_link t f x) (Some 0) (option_map suc o)) (place-append t f ls l)
    ∙ by (is_link t f x) (place_of t f ls) (is_link t f l)
  where
    by : (b : Bool) (o : Option ℕ) (c : Bool) → cond b (Some 0) (option_map suc (or_last o (length ls) c))
        ≡ or_last (cond b (Some 0) (option_map suc o)) (suc (length ls)) c
    by true o c = refl
    by false (Some n) c = refl
    by false None true = refl
    by false None false = refl

-- lanes and the links that they keep
abbrev pub with_messages : Ends → List Message → Link
with_messages e ms = record { to = e.to; from = e.from; messages = ms }

pub lanes-posted : (n : ℕ) (m : Message) (xs : List Lane) (x y : Lane) → n < length xs → x ≡ get_or xs n x
    → link_of y ≡ record (link_of x) { messages = (link_of x).messages ++ m ∷ [] }
    → map link_of (set xs n y) ≡ posted_at n m (map link_of xs)
lanes-posted n m [] x y lt e h = absurd (omega (arith, lt))
lanes-posted zero m (z ∷ xs) x y lt e h =
    ap (λ l. l ∷ map link_of xs)
    (h ∙ ap (λ (w : Lane). record (link_of w) { messages = (link_of w).messages ++ m ∷ [] }) e)
lanes-posted (suc n) m (z ∷ xs) x y lt e h = ap (λ ls. link_of z ∷ ls) (lanes-posted n m xs x y (omega (arith, lt)) e h)

pub lanes-taken : (n : ℕ) (xs : List Lane) (x y : Lane) → n < length xs → x ≡ get_or xs n x
    → link_of y ≡ record (link_of x) { messages = drop 1 (link_of x).messages }
    → map link_of (set xs n y) ≡ taken_at n (map link_of xs)
lanes-taken n [] x y lt e h = absurd (omega (arith, lt))
lanes-taken zero (z ∷ xs) x y lt e h =
    ap (λ l. l ∷ map link_of xs)
    (h ∙ ap (λ (w : Lane). record (link_of w) { messages = drop 1 (link_of w).messages }) e)
lanes-taken (suc n) (z ∷ xs) x y lt e h = ap (λ ls. link_of z ∷ ls) (lanes-taken n xs x y (omega (arith, lt)) e h)

pub lanes-same : (n : ℕ) (xs : List Lane) (x y : Lane) → n < length xs → x ≡ get_or xs n x → link_of y ≡ link_of x
    → map link_of (set xs n y) ≡ map link_of xs
lanes-same n [] x y lt e h = absurd (omega (arith, lt))
lanes-same zero (z ∷ xs) x y lt e h = ap (λ l. l ∷ map link_of xs) (h ∙ ap link_of e)
lanes-same (suc n) (z ∷ xs) x y lt e h = ap (λ ls. link_of z ∷ ls) (lanes-same n xs x y (omega (arith, lt)) e h)

pub lane-messages : (n : ℕ) (xs : List Lane) (x : Lane)
    → n < length xs → x ≡ get_or xs n x → messages_at n (map link_of xs) ≡ x.waiting.items
lane-messages n [] x lt e = absurd (omega (arith, lt))
lane-messages zero (z ∷ xs) x lt e = ap (λ (w : Lane). w.waiting.items) (sym e)
lane-messages (suc n) (z ∷ xs) x lt e = lane-messages n xs x (omega (arith, lt)) e

-- comparing tells whether two pairs of ends are one
pub same-ends : (a b : Ends) → is_at (ends_cmp a) b ≡ (a.to == b.to && a.from == b.from)
same-ends a b = grind (arith, nat_tests)

-- a new link behind the others stands at the end, and moves no other
pub place-new : (b : Bool) (o : Option ℕ) (last : ℕ) → (b ≡ true → o ≡ None) → cond b (Some last) o ≡ or_last o last b
place-new true None last h = refl
place-new true (Some n) last h = absurd (let e = h refl in cc e)
place-new false None last h = refl
place-new false (Some n) last h = refl

pub ends-same : (t f u g : ℕ) (ls : List Link)
    → (t == u && f == g) ≡ true → place_of t f ls ≡ None → place_of u g ls ≡ None
ends-same t f u g ls e h =
    let a : t ≡ u = grind (arith, nat_tests, e) in
    let b : f ≡ g = grind (arith, nat_tests, e) in
    ap (λ z. place_of z g ls) (sym a) ∙ (ap (λ z. place_of t z ls) (sym b) ∙ h)

pub no-place : (o : Option ℕ) → is_some o ≡ false → o ≡ None
no-place None e = refl
no-place (Some n) e = absurd (false≢true (sym e))

pub on_ok : {T E : Type 0} (r : Result T E) (P Q : Type 0) → (P → Q) → OnOk r P → OnOk r Q
on_ok (Ok x) P Q f p = f p
on_ok (Err y) P Q f p = tt

pub on_err : {T E : Type 0} (r : Result T E) (P : Type 0) → P → OnErr r P
on_err (Ok x) P p = tt
on_err (Err y) P p = p

-- what is taken off the front of a queue is its first message
pub popped-first : (o : Option Message) (xs ys : List Message) (n k : ℕ) → n ≡ length xs
    → MatchOption o ((n ≡ 0) × (k ≡ 0)) (λ _. k + 1 ≡ n) → xs ≡ option_to_list o ++ ys → o ≡ first_of xs
popped-first None [] ys n k same cases e = refl
popped-first None (x ∷ xs) ys n k same cases e = absurd (let z = cases.0 in omega (arith, same, z))
popped-first (Some m) xs ys n k same cases e = sym (ap first_of e)

pub front-first : (o : Option (Bor Message)) (xs : List Message) (n : ℕ) → n ≡ length xs → (IsSome o ↔ (0 < n))
    → IfSome o (λ x. x.now ≡ get_or xs 0 x.now) → option_copied o ≡ first_of xs
front-first None [] n same some is = refl
front-first None (x ∷ xs) n same some is = absurd (false≢true (some.1 (omega (arith, same))))
front-first (Some m) [] n same some is = absurd (let z = some.0 refl in omega (arith, same, z))
front-first (Some m) (x ∷ xs) n same some is = ap Some is

-- the least of a line and the moments of two lists
pub lowered-append : (l : Line) (xs ys : List Stamp) → lowered l (xs ++ ys) ≡ lowered (lowered l xs) ys
lowered-append l [] ys = refl
lowered-append l (x ∷ xs) ys = lowered-append (or_lower x l) xs ys

pub moments-more : (xs : List Link) (y : Link) → moments (xs ++ y ∷ []) ≡ moments xs ++ map stamp_of y.messages
moments-more [] y = sym (append-none (map stamp_of y.messages))
  where
    append-none : (ss : List Stamp) → ss ≡ ss ++ []
    append-none [] = refl
    append-none (s ∷ ss) = ap (λ z. s ∷ z) (append-none ss)
moments-more (x ∷ xs) y = ap (λ z. map stamp_of x.messages ++ z) (moments-more xs y)
    ∙ assoc (map stamp_of x.messages) (moments xs) (map stamp_of y.messages)
  where
    assoc : (a b c : List Stamp) → a ++ (b ++ c) ≡ (a ++ b) ++ c
    assoc [] b c = refl
    assoc (s ∷ a) b c = ap (λ z. s ∷ z) (assoc a b c)

pub lowered-least : (done ss : List Stamp) → lowered (least_line_of done) ss ≡ least_line_of (done ++ ss)
lowered-least done [] = sym (ap least_line_of (append-none done))
  where
    append-none : (ss : List Stamp) → ss ++ [] ≡ ss
    append-none [] = refl
    append-none (s ∷ ss) = ap (λ z. s ∷ z) (append-none ss)
lowered-least done (s ∷ ss) =
    ap (λ l. lowered l ss) (sym (least_line_of-snoc done s))
    ∙ (lowered-least (done ++ s ∷ []) ss ∙ ap least_line_of (sym (assoc done (s ∷ []) ss)))
  where
    assoc : (a b c : List Stamp) → a ++ (b ++ c) ≡ (a ++ b) ++ c
    assoc [] b c = refl
    assoc (x ∷ a) b c = ap (λ z. x ∷ z) (assoc a b c)

pub links_appended : (xs old ys : List Lane) (lane : Lane)
    → xs ≡ old → ys ≡ xs ++ lane ∷ [] → map link_of ys ≡ map link_of old ++ link_of lane ∷ []
links_appended xs old ys lane same more =
    ap (map link_of) (more ∙ ap (λ z. z ++ lane ∷ []) same) ∙ map-append link_of old (lane ∷ [])

-- the least of a line and one more moment
pub lowered-more : (l : Line) (ms : List Message) (i : ℕ) (m : Message) → i < length ms → m ≡ get_or ms i m
    → or_lower (stamp_of m) (lowered l (map stamp_of (take i ms))) ≡ lowered l (map stamp_of (take (i + 1) ms))
lowered-more l ms i m lt is =
    sym (ap (λ xs. lowered l (map stamp_of xs)) (take_more ms i m lt)
    ∙ (ap (λ x. lowered l (map stamp_of (take i ms ++ x ∷ []))) (sym is)
    ∙ (ap (lowered l) (map-append stamp_of (take i ms) (m ∷ []))
    ∙ lowered-append l (map stamp_of (take i ms)) (stamp_of m ∷ []))))

-- and of the messages of one more link
pub least-more : (xs : List Lane) (i : ℕ) (x : Lane) → i < length xs → x ≡ get_or xs i x
    → lowered (least_line_of (moments (map link_of (take i xs)))) (map stamp_of x.waiting.items)
    ≡ least_line_of (moments (map link_of (take (i + 1) xs)))
least-more xs i x lt is =
    lowered-least (moments (map link_of (take i xs))) (map stamp_of x.waiting.items)
    ∙ sym (ap (λ ys. least_line_of (moments (map link_of ys))) (take_more xs i x lt)
    ∙ (ap (λ y. least_line_of (moments (map link_of (take i xs ++ y ∷ [])))) (sym is)
    ∙ (ap (λ ls. least_line_of (moments ls)) (map-append link_of (take i xs) (x ∷ []))
    ∙ ap least_line_of (moments-more (map link_of (take i xs)) (link_of x)))))
