-- What a delivery does to each link, in order.
use Rattle.pm_sim.specs.Bounds.{between, item_of, items, sent_to}
use Rattle.std.proofs.lemmas.Bool.{cases_Bool, and_parts}
use Rattle.std.proofs.Common.{◌≡◌, inl, inr, ℕ, true, false, cond, ◌&&◌, List, [], ◌∷◌, ◌++◌, flat_map, refl, ap, sym, ◌∙◌, subst, Option, Some, None, append_assoc, append-nil}
use Rattle.pm_message.specs.declared.Message.{Message}
use Rattle.pm_plan.specs.declared.plan.Plan.{Plan}
use Rattle.pm_sim.specs.Worlds.{Link, Posted, Process, Taken, is_process, is_link, mail, mail_of, post, post_all, take_first, take_from, link_in_front}
use Rattle.pm_sim.specs.Worlds.Process.{AtClp}
use Rattle.pm_sim.specs.Sims.{In}
use Rattle.pm_sim.specs.Routings.{mail_to}
use Rattle.pm_sim.proofs.Letters.{process_same, process_self, map_in}
use Rattle.pm_sim.proofs.Lists.{in_left, in_right}

pub process_not : (a b : Process) → (a ≡ b → ⊥) → is_process a b ≡ false
process_not a b n = elim (cases_Bool (is_process a b)) [ inl e ↦ absurd (n (process_same a b e)) | inr e ↦ e ]

pub same_link : (to from : Process) (l : Link) → is_link to from l ≡ true → (l.to ≡ to) × (l.from ≡ from)
same_link to from l h = (let p = and_parts (is_process l.to to) (is_process l.from from) h in
    (process_same l.to to p.0, process_same l.from from p.1))

-- one pair names one link
other_link : (to from t f : Process) (l : Link)
    → is_link to from l ≡ true → ((t ≡ to) × (f ≡ from) → ⊥) → is_link t f l ≡ false
other_link to from t f l h n = elim (cases_Bool (is_link t f l)) [
  | inl e ↦ absurd (let a = same_link to from l h in let b = same_link t f l e in n (sym b.0 ∙ a.0, sym b.1 ∙ a.1))
  | inr e ↦ e
]

pub post_here : (to from : Process) (m : Message) (ls : List Link)
    → between to from (post to from m ls) ≡ between to from ls ++ m ∷ []
post_here to from m [] = (let a = process_self to in let b = process_self from in rw (a, b))
post_here to from m (l ∷ ls) = (let again =
    post_here to from m ls in elim (cases_Bool (is_link to from l)) [ inl e ↦ rw e (rw e) | inr e ↦ rw e (rw e again) ])

pub post_else : (to from t f : Process) (m : Message) (ls : List Link)
    → ((t ≡ to) × (f ≡ from) → ⊥) → between t f (post to from m ls) ≡ between t f ls
post_else to from t f m [] n =
    (let g : (is_process to t && is_process from f) ≡ false = elim (cases_Bool (is_process to t && is_process from f)) [
      | inl e ↦ absurd (let p = and_parts (is_process to t) (is_process from f) e in
          n (sym (process_same to t p.0), sym (process_same from f p.1)))
      | inr e ↦ e
    ] in rw g)
post_else to from t f m (l ∷ ls) n =
    (let again = post_else to from t f m ls n in elim (cases_Bool (is_link to from l)) [
      | inl e ↦ (let g = other_link to from t f l e n in rw e (rw g))
      | inr e ↦ rw e (ap (λ z. cond (is_link t f l) l.messages z) again)
    ])

pub post_more : (from : Process) (e : ℕ) (ss : List Posted) (ls : List Link)
    → between (AtClp e) from (post_all from ss ls) ≡ between (AtClp e) from ls ++ sent_to e ss
post_more from e [] ls = sym (append-nil (between (AtClp e) from ls))
post_more from e (s ∷ ss) ls =
    (let again = post_more from e ss (post s.to from s.message ls) in elim (cases_Bool (is_process s.to (AtClp e))) [
      | inl f ↦ (let te = process_same s.to (AtClp e) f in
          let a : between (AtClp e) from (post s.to from s.message ls) ≡ between (AtClp e) from ls ++ s.message ∷ [] =
          subst (λ z. between z from (post s.to from s.message ls) ≡ between z from ls ++ s.message ∷ [])
          te (post_here s.to from s.message ls) in
          again ∙ ap (λ z. z ++ sent_to e ss) a
          ∙ append_assoc (between (AtClp e) from ls) (s.message ∷ []) (sent_to e ss) ∙ sym (rw f))
      | inr f ↦ (let a = post_else s.to from (AtClp e) from s.message
          ls (λ p. let g : is_process s.to (AtClp e) ≡ true = ap (is_process s.to) p.0 ∙ process_self s.to in cc) in
          again ∙ ap (λ z. z ++ sent_to e ss) a ∙ sym (rw f))
    ])

pub posted_else : (from t f : Process) (ss : List Posted) (ls : List Link)
    → (f ≡ from → ⊥) → between t f (post_all from ss ls) ≡ between t f ls
posted_else from t f [] ls n = refl
posted_else from t f (s ∷ ss) ls n =
    posted_else from t f ss (post s.to from s.message ls) n ∙ post_else s.to from t f s.message ls (λ p. n p.1)

-- the link that a message was taken from has lost its first, and no other has changed
pub record Took (to from : Process) (ls : List Link) (t : Taken) : Type 0 where
  pub head : between to from ls ≡ t.message ∷ between to from t.links
  pub others : (a b : Process) → ((a ≡ to) × (b ≡ from) → ⊥) → between a b t.links ≡ between a b ls

pub took : (to from : Process) (ls : List Link) (t : Taken) → take_from to from ls ≡ Some t → Took to from ls t
took to from [] t e = absurd (cc)
took to from (l ∷ ls) t e = elim (cases_Bool (is_link to from l)) [
  | inl h ↦ first h l.messages
      refl (subst (λ z. cond z (take_first l ls l.messages) (link_in_front l (take_from to from ls)) ≡ Some t) h e)
  | inr h ↦ behind h (take_from to from ls) (λ r g. took to from ls r g)
      refl (subst (λ z. cond z (take_first l ls l.messages) (link_in_front l (take_from to from ls)) ≡ Some t) h e)
]
  where
    first : is_link to from l ≡ true
        → (ms : List Message) → l.messages ≡ ms → take_first l ls ms ≡ Some t → Took to from (l ∷ ls) t
    first h [] f g = absurd (cc)
    first h (m ∷ ms) f g =
        let k : record { message = m; links = record l { messages = ms } ∷ ls } ≡ t = cc in
        subst (Took to from (l ∷ ls))
        k (record { head = rw h f; others = λ a b n. (let o = other_link to from a b l h n in rw o) })

    behind : is_link to from l ≡ false → (o : Option Taken) → ((r : Taken) → o ≡ Some r → Took to from ls r)
        → take_from to from ls ≡ o → link_in_front l o ≡ Some t → Took to from (l ∷ ls) t
    behind h None again f g = absurd (cc)
    behind h (Some r) again f g =
        let k : record { message = r.message; links = l ∷ r.links } ≡ t = cc in
        let w = again r refl in
        subst (Took to from (l ∷ ls)) k (record {
          head = rw h w.head;
          others = λ a b n. ap (λ z. cond (is_link a b l) l.messages z) (w.others a b n);
        })

-- what stands in a link is mail
pub between_mail : (to from : Process) (ls : List Link) (m : Message)
    → In m (between to from ls) → In (mail_to to from m) (mail ls)
between_mail to from [] m i = absurd i
between_mail to from (l ∷ ls) m i = elim (cases_Bool (is_link to from l)) [
  | inl e ↦ (let s = same_link to from l e in
      let j : In m l.messages = subst (λ z. In m (cond z l.messages (between to from ls))) e i in
      in_left (mail_of l) (mail ls) (mail_to to from m) (subst (λ z. In z (mail_of l))
      (λ k. mail_to (s.0 k) (s.1 k) m) (map_in (λ (x : Message). mail_to l.to l.from x) l.messages m j)))
  | inr e ↦ in_right (mail_of l) (mail ls)
      (mail_to to from m) (between_mail to from ls m (subst (λ z. In m (cond z l.messages (between to from ls))) e i))
]

-- items
pub flat_append : {X Y : Type 0} (f : X → List Y) (a b : List X) → flat_map f (a ++ b) ≡ flat_map f a ++ flat_map f b
flat_append f [] b = refl
flat_append f (x ∷ a) b =
    ap (λ z. f x ++ z) (flat_append f a b) ∙ sym (append_assoc (f x) (flat_map f a) (flat_map f b))

pub sent_append : (e : ℕ) (a b : List Posted) → sent_to e (a ++ b) ≡ sent_to e a ++ sent_to e b
sent_append e [] b = refl
sent_append e (x ∷ a) b = (let again = sent_append e a b in
    elim (cases_Bool (is_process x.to (AtClp e))) [ inl f ↦ rw f (ap (λ z. x.message ∷ z) again) | inr f ↦ rw f again ])

pub items_append : (p : Plan) (k e : ℕ) (a b : List Posted)
    → items p k (sent_to e (a ++ b)) ≡ items p k (sent_to e a) ++ items p k (sent_to e b)
items_append p k e a b = ap (items p k) (sent_append e a b) ∙ flat_append (item_of p k) (sent_to e a) (sent_to e b)

-- where nothing that is sent is of the class
pub no_items : (p : Plan) (k e : ℕ) (ss : List Posted)
    → ((x : Posted) → In x ss → item_of p k x.message ≡ []) → items p k (sent_to e ss) ≡ []
no_items p k e [] h = refl
no_items p k e (x ∷ ss) h = (let again = no_items p k e ss (λ y i. h y (inr i)) in let one =
    h x (inl refl) in elim (cases_Bool (is_process x.to (AtClp e))) [
      | inl f ↦ rw f (ap (λ z. z ++ items p k (sent_to e ss)) one ∙ again)
      | inr f ↦ rw f again
    ])

-- a letter that isn't of the class is taken
pub items_taken : (p : Plan) (k : ℕ) (to from : Process) (ls : List Link) (t : Taken) → take_from to from ls ≡ Some t
    → item_of p k t.message ≡ [] → (a b : Process) → items p k (between a b t.links) ≡ items p k (between a b ls)
items_taken p k to from ls t e none a b =
    (let tk = took to from ls t e in elim (cases_Bool (is_process a to && is_process b from)) [
      | inl f ↦ (let pr = and_parts (is_process a to) (is_process b from) f in
          let ea = process_same a to pr.0 in
          let eb = process_same b from pr.1 in
          subst (λ z. items p k (between z b t.links) ≡ items p k (between z b ls))
          (sym ea) (subst (λ z. items p k (between to z t.links) ≡ items p k (between to z ls)) (sym eb)
          (sym (ap (items p k) tk.head ∙ ap (λ z. z ++ items p k (between to from t.links)) none))))
      | inr f ↦ ap (items p k) (tk.others a b (λ pr. let g : (is_process a to && is_process b from) ≡ true =
          (let x : is_process a to ≡ true = ap (is_process a) (sym pr.0) ∙ process_self a in
          let y : is_process b from ≡ true = ap (is_process b) (sym pr.1) ∙ process_self b in rw (x, y)) in cc))
    ])
