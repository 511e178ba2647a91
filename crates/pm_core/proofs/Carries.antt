-- The messages on their way by number are those of the links between processes.
use Rattle.std.proofs.Common.{ℕ, ◌+◌, ◌<◌, ◌≡◌, ◌==◌, ◌∙◌, cond, List, [], ◌∷◌, ◌++◌, Option, Some, None, ap, sym, subst, refl, inl, inr, arith, drop, map}
use Rattle.std.specs.Prelude.{nat_lt}
use Rattle.std.specs.List.{list_any}
use Rattle.std.proofs.lemmas.Bool.{cases_Bool}
use Rattle.std.proofs.lemmas.Bool.Decides.{nat_tests}
use Rattle.std.proofs.lemmas.List.{map-append}
use Rattle.pm_message.specs.Messages.{stamp_of}
use Rattle.pm_message.specs.declared.Message.{Message}
use Rattle.pm_message.specs.declared.Message.TheVariants as message
use Rattle.pm_mail.specs.Links.{first_of, moments, posted, taken, waiting}
use Rattle.pm_mail.specs.Links as lane
use Rattle.pm_mail.specs.Links.{Link as Lane}
use Rattle.pm_plan.specs.declared.plan.Plan.{Plan}
use Rattle.pm_queries.specs.declared.registered.Sent.{Sent}
use Rattle.pm_sim.specs.Sims.{In}
use Rattle.pm_sim.specs.Worlds.{Link, Mail, Posted, Process, Taken, World, addressed, clps_of, is_link, is_process, least_line, link_in_front, mail, mail_of, mail_stamp, post, post_all, process, take_first, take_from}
use Rattle.pm_sim.specs.Worlds as sim
use Rattle.pm_sim.specs.Worlds.Process.{AtAgent, AtClp}
use Rattle.pm_sim.proofs.Lists.{in_left, in_right}
use Rattle.pm_sim.proofs.Letters.{map_in}
use Rattle.pm_sim.proofs.Places.{process_agent, process_clp}
use Rattle.pm_core.specs.Mails.{link_of, links_of, posted_all, receiver, told_all}

-- processes are told apart by their numbers
pub same_process : (p : Plan) (a b : ℕ) → is_process (process p a) (process p b) ≡ (a == b)
same_process p a b = elim (cases_Bool (nat_lt a (clps_of p))) [
  | inl x ↦ elim (cases_Bool (nat_lt b (clps_of p))) [
    | inl y ↦ rw (x, y) refl
    | inr y ↦ rw (x, y) (grind (arith, nat_tests, x, y))
  ]
  | inr x ↦ elim (cases_Bool (nat_lt b (clps_of p))) [
    | inl y ↦ rw (x, y) (grind (arith, nat_tests, x, y))
    | inr y ↦ rw (x, y) (grind (arith, nat_tests, x, y))
  ]
]

pub same_link : (p : Plan) (t f : ℕ) (l : Lane)
    → is_link (process p t) (process p f) (link_of p l) ≡ lane.is_link t f l
same_link p t f l = let a = same_process p l.to t in let b = same_process p l.from f in rw (a, b) refl

pub same_links : (p : Plan) (t f : ℕ) (ls : List Lane)
    → list_any (is_link (process p t) (process p f)) (links_of p ls) ≡ lane.has_link t f ls
same_links p t f [] = refl
same_links p t f (l ∷ ls) =
    let a = same_link p t f l in let b = same_links p t f ls in rw (a, b) refl

pub posted_link : (p : Plan) (t f : ℕ) (m : Message) (ls : List Lane)
    → links_of p (posted t f m ls) ≡ post (process p t) (process p f) m (links_of p ls)
posted_link p t f m [] = refl
posted_link p t f m (l ∷ ls) =
    let a = same_link p t f l in let again = posted_link p t f m ls in
    elim (cases_Bool (lane.is_link t f l)) [
      | inl e ↦ rw (a, e) refl
      | inr e ↦ rw (a, e) (ap (λ z. link_of p l ∷ z) again)
    ]

pub posted_links : (p : Plan) (from : ℕ) (ss : List Sent) (ls : List Lane)
    → links_of p (posted_all from ss ls) ≡ post_all (process p from) (map (sim.posted p) ss) (links_of p ls)
posted_links p from [] ls = refl
posted_links p from (s ∷ ss) ls =
    posted_links p from ss (posted s.to from s.message ls)
    ∙ ap (post_all (process p from) (map (sim.posted p) ss)) (posted_link p s.to from s.message ls)

-- an agent's message is for the process of its receiver's number
receiver_is : (p : Plan) (a h : ℕ) (m : Message) → h < clps_of p
    → process p (receiver (clps_of p + a) h m) ≡ (addressed a h m).to
receiver_is p a h (message.Wake n s) lt = process_agent p a
receiver_is p a h (message.Ask n s q) lt = process_clp p h lt
receiver_is p a h (message.Put n s v c) lt = process_clp p h lt
receiver_is p a h (message.Cut n s v) lt = process_clp p h lt
receiver_is p a h (message.Give r) lt = process_clp p h lt
receiver_is p a h (message.Finish n s) lt = process_clp p h lt
receiver_is p a h (message.Move v s r) lt = process_clp p h lt
receiver_is p a h (message.Grow k s u w) lt = process_clp p h lt

message_is : (a h : ℕ) (m : Message) → (addressed a h m).message ≡ m
message_is a h (message.Wake n s) = refl
message_is a h (message.Ask n s q) = refl
message_is a h (message.Put n s v c) = refl
message_is a h (message.Cut n s v) = refl
message_is a h (message.Give r) = refl
message_is a h (message.Finish n s) = refl
message_is a h (message.Move v s r) = refl
message_is a h (message.Grow k s u w) = refl

pub told_links : (p : Plan) (a h : ℕ) (ms : List Message) (ls : List Lane) → h < clps_of p
    → links_of p (told_all (clps_of p + a) h ms ls) ≡ post_all (AtAgent a) (map (addressed a h) ms) (links_of p ls)
told_links p a h [] ls lt = refl
told_links p a h (m ∷ ms) ls lt =
    let own = clps_of p + a in
    let next = posted (receiver own h m) own m ls in
    told_links p a h ms next lt
    ∙ ap (post_all (AtAgent a) (map (addressed a h) ms)) (posted_link p (receiver own h m) own m ls
    ∙ (ap (λ z. post z (process p own) m (links_of p ls)) (receiver_is p a h m lt)
    ∙ (ap (λ z. post (addressed a h m).to z m (links_of p ls)) (process_agent p a)
    ∙ ap (λ z. post (addressed a h m).to (AtAgent a) z (links_of p ls)) (sym (message_is a h m)))))

-- what is taken: the first message, where there is one, and the links without it
abbrev pub took : Plan → List Lane → Option Message → Option Taken
took p ls None = None
took p ls (Some m) = Some (record { message = m; links = links_of p ls })

took_first : (p : Plan) (l : Lane) (ls : List Lane) (ms : List Message) → l.messages ≡ ms
    → take_first (link_of p l) (links_of p ls) ms
    ≡ took p (record l { messages = drop 1 ms } ∷ ls) (first_of ms)
took_first p l ls [] e = refl
took_first p l ls (m ∷ ms) e = refl

took_behind : (p : Plan) (l : Lane) (ls : List Lane) (o : Option Message)
    → link_in_front (link_of p l) (took p ls o) ≡ took p (l ∷ ls) o
took_behind p l ls None = refl
took_behind p l ls (Some m) = refl

pub taken_link : (p : Plan) (t f : ℕ) (ls : List Lane)
    → take_from (process p t) (process p f) (links_of p ls) ≡ took p (taken t f ls) (first_of (waiting t f ls))
taken_link p t f [] = refl
taken_link p t f (l ∷ ls) =
    let a = same_link p t f l in let again = taken_link p t f ls in
    elim (cases_Bool (lane.is_link t f l)) [
      | inl e ↦ rw (a, e) (took_first p l ls l.messages refl)
      | inr e ↦ rw (a, e) (ap (link_in_front (link_of p l)) again
          ∙ took_behind p l (taken t f ls) (first_of (waiting t f ls)))
    ]

-- the messages of a link, and their stamps
by_list : (A B : Process) (ms : List Message)
    → map mail_stamp (map (λ (m : Message). record { to = A; from = B; message = m }) ms) ≡ map stamp_of ms
by_list A B [] = refl
by_list A B (m ∷ ms) = ap (λ z. stamp_of m ∷ z) (by_list A B ms)

pub stamps_are : (p : Plan) (ls : List Lane) → map mail_stamp (mail (links_of p ls)) ≡ moments ls
stamps_are p [] = refl
stamps_are p (l ∷ ls) =
    map-append mail_stamp (mail_of (link_of p l)) (mail (links_of p ls))
    ∙ (ap (λ z. z ++ map mail_stamp (mail (links_of p ls))) (by_list (process p l.to) (process p l.from) l.messages)
    ∙ ap (λ z. map stamp_of l.messages ++ z) (stamps_are p ls))

-- the first message of a link is on its way
first_in : (ms : List Message) (m : Message) → first_of ms ≡ Some m → In m ms
first_in [] m e = absurd (cc)
first_in (x ∷ ms) m e = inl (sym (some_is e))
  where
    some_is : Some x ≡ Some m → x ≡ m
    some_is g = cc

pub first_mailed : (p : Plan) (t f : ℕ) (ls : List Lane) (m : Message) → first_of (waiting t f ls) ≡ Some m
    → In (record { to = process p t; from = process p f; message = m }) (mail (links_of p ls))
first_mailed p t f [] m e = absurd (cc)
first_mailed p t f (l ∷ ls) m e = elim (cases_Bool (lane.is_link t f l)) [
  | inl g ↦ (let h : first_of l.messages ≡ Some m =
      subst (λ z. first_of (cond z l.messages (waiting t f ls)) ≡ Some m) g e in
      let a : l.to ≡ t = grind (arith, nat_tests, g) in
      let b : l.from ≡ f = grind (arith, nat_tests, g) in
      in_left (mail_of (link_of p l)) (mail (links_of p ls)) _
      (subst (λ z. In (record { to = process p z; from = process p f; message = m }) (mail_of (link_of p l))) a
      (subst (λ z. In (record { to = process p l.to; from = process p z; message = m }) (mail_of (link_of p l))) b
      (map_in (λ (x : Message). record { to = process p l.to; from = process p l.from; message = x })
      l.messages m (first_in l.messages m h)))))
  | inr g ↦ in_right (mail_of (link_of p l)) (mail (links_of p ls)) _
      (first_mailed p t f ls m (subst (λ z. first_of (cond z l.messages (waiting t f ls)) ≡ Some m) g e))
]

-- where nothing is taken, the links stay
pub taken_none : (t f : ℕ) (ls : List Lane) → first_of (waiting t f ls) ≡ None → taken t f ls ≡ ls
taken_none t f [] e = refl
taken_none t f (l ∷ ls) e = elim (cases_Bool (lane.is_link t f l)) [
  | inl g ↦ rw g (none l.messages refl (subst (λ z. first_of (cond z l.messages (waiting t f ls)) ≡ None) g e))
  | inr g ↦ rw g (ap (λ z. l ∷ z)
      (taken_none t f ls (subst (λ z. first_of (cond z l.messages (waiting t f ls)) ≡ None) g e)))
]
  where
    none : (ms : List Message) → l.messages ≡ ms → first_of ms ≡ None
        → (record l { messages = drop 1 l.messages }) ∷ ls ≡ l ∷ ls
    none [] is h = ap (λ z. record l { messages = z } ∷ ls) (ap (drop 1) is ∙ sym is)
    none (m ∷ ms) is h = absurd (cc)
