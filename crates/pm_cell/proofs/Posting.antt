-- What a process sends stands at the ends of its links, and where no link is added, all of it goes over links that are
-- there.
use Rattle.std.proofs.Common.{ℕ, suc, ◌+◌, ◌<◌, ◌≤◌, ◌≡◌, ◌==◌, ◌⊎◌, ◌∙◌, Bool, true, cond, List, [], ◌∷◌, ◌++◌, ap, sym, subst, refl, inl, inr, arith, map, length}
use Rattle.std.proofs.lemmas.Bool.{cases_Bool}
use Rattle.pm_message.specs.declared.Message.{Message}
use Rattle.pm_message.specs.declared.Message.TheVariants as message
use Rattle.pm_plan.specs.declared.plan.Plan.{Plan}
use Rattle.pm_queries.specs.declared.registered.Sent.{Sent}
use Rattle.pm_sim.specs.Sims.{In}
use Rattle.pm_sim.specs.Worlds.{Link, Posted, Process, addressed, clps_of, is_link, is_process, post, post_all, posted, process}
use Rattle.pm_sim.proofs.Lanes.{Key, keys, sent_for}
use Rattle.pm_sim.proofs.Letters.{process_same, process_self}
use Rattle.pm_sim.proofs.Places.{process_agent, process_clp}
use Rattle.pm_sim.proofs.Wires.{same_link}
use Rattle.pm_core.specs.Mails.{receiver}
use Rattle.pm_core.proofs.Carries.{same_process}
use Rattle.pm_cell.specs.Cores.{sent_to, told_to}

-- ---- by number

pub clp_sent : (p : Plan) (a : ℕ) (ss : List Sent) → sent_for (process p a) (map (posted p) ss) ≡ sent_to a ss
clp_sent p a [] = refl
clp_sent p a (s ∷ ss) =
    let same = same_process p s.to a in
    let again = clp_sent p a ss in
    ap (λ (c : Bool). cond c (s.message ∷ sent_for (process p a) (map (posted p) ss)) (sent_for (process p a) (map (posted p) ss))) same
    ∙ ap (λ (ms : List Message). cond (s.to == a) (s.message ∷ ms) ms) again

-- an agent's message is for the process of its receiver's number
receiver_is : (p : Plan) (i h : ℕ) (m : Message) → h < clps_of p
    → (addressed i h m).to ≡ process p (receiver (clps_of p + i) h m)
receiver_is p i h (message.Wake n s) lt = sym (process_agent p i)
receiver_is p i h (message.Ask n s q) lt = sym (process_clp p h lt)
receiver_is p i h (message.Put n s v c) lt = sym (process_clp p h lt)
receiver_is p i h (message.Cut n s v) lt = sym (process_clp p h lt)
receiver_is p i h (message.Give r) lt = sym (process_clp p h lt)
receiver_is p i h (message.Finish n s) lt = sym (process_clp p h lt)
receiver_is p i h (message.Move v s r) lt = sym (process_clp p h lt)
receiver_is p i h (message.Grow k s u w) lt = sym (process_clp p h lt)

message_is : (i h : ℕ) (m : Message) → (addressed i h m).message ≡ m
message_is i h (message.Wake n s) = refl
message_is i h (message.Ask n s q) = refl
message_is i h (message.Put n s v c) = refl
message_is i h (message.Cut n s v) = refl
message_is i h (message.Give r) = refl
message_is i h (message.Finish n s) = refl
message_is i h (message.Move v s r) = refl
message_is i h (message.Grow k s u w) = refl

pub agent_sent : (p : Plan) (i h a : ℕ) (ms : List Message) → h < clps_of p
    → sent_for (process p a) (map (addressed i h) ms) ≡ told_to (clps_of p + i) h a ms
agent_sent p i h a [] lt = refl
agent_sent p i h a (m ∷ ms) lt =
    let to = receiver_is p i h m lt in
    let same = same_process p (receiver (clps_of p + i) h m) a in
    let again = agent_sent p i h a ms lt in
    ap (λ (q : Process). cond (is_process q (process p a)) ((addressed i h m).message ∷ sent_for (process p a) (map (addressed i h) ms)) (sent_for (process p a) (map (addressed i h) ms))) to
    ∙ ap (λ (c : Bool). cond c ((addressed i h m).message ∷ sent_for (process p a) (map (addressed i h) ms)) (sent_for (process p a) (map (addressed i h) ms))) same
    ∙ ap (λ (x : Message). cond (receiver (clps_of p + i) h m == a) (x ∷ sent_for (process p a) (map (addressed i h) ms)) (sent_for (process p a) (map (addressed i h) ms))) (message_is i h m)
    ∙ ap (λ (xs : List Message). cond (receiver (clps_of p + i) h m == a) (m ∷ xs) xs) again

-- ---- links that are added

post_longer : (to from : Process) (m : Message) (ls : List Link) → length ls ≤ length (post to from m ls)
post_longer to from m [] = omega arith
post_longer to from m (l ∷ ls) = let again = post_longer to from m ls in elim (cases_Bool (is_link to from l)) [
  | inl e ↦ rw e (omega arith)
  | inr e ↦ rw e (omega (arith, again))
]

all_longer : (from : Process) (ss : List Posted) (ls : List Link) → length ls ≤ length (post_all from ss ls)
all_longer from [] ls = omega arith
all_longer from (s ∷ ss) ls =
    let one = post_longer s.to from s.message ls in
    let more = all_longer from ss (post s.to from s.message ls) in
    omega (arith, one, more)

-- a link that wasn't there is added
post_new : (to from : Process) (m : Message) (ls : List Link) → (In (to, from) (keys ls) → ⊥)
    → length (post to from m ls) ≡ suc (length ls)
post_new to from m [] new = refl
post_new to from m (l ∷ ls) new = elim (cases_Bool (is_link to from l)) [
  | inl e ↦ absurd (let s = same_link to from l e in new (inl (λ k. (sym s.0 k, sym s.1 k))))
  | inr e ↦ (let again = post_new to from m ls (λ i. new (inr i)) in rw e (ap suc again))
]

post_keys : (to from : Process) (m : Message) (ls : List Link) (k : Key) → In k (keys (post to from m ls))
    → In k (keys ls) ⊎ (k ≡ (to, from))
post_keys to from m [] k (inl e) = inr e
post_keys to from m [] k (inr i) = absurd i
post_keys to from m (l ∷ ls) k i = elim (cases_Bool (is_link to from l)) [
  | inl e ↦ inl
      (subst (λ c. In k (keys (cond c (record l { messages = l.messages ++ m ∷ [] } ∷ ls) (l ∷ post to from m ls)))) e i)
  | inr e ↦ elim (subst
      (λ c. In k (keys (cond c (record l { messages = l.messages ++ m ∷ [] } ∷ ls) (l ∷ post to from m ls)))) e i) [
        | inl f ↦ inl (inl f)
        | inr j ↦ elim (post_keys to from m ls k j) [ inl a ↦ inl (inr a) | inr b ↦ inr b ]
      ]
]

-- where no link is added, nothing is sent over one that isn't there
pub none_sent : (to from : Process) (ss : List Posted) (ls : List Link) → (In (to, from) (keys ls) → ⊥)
    → length (post_all from ss ls) ≤ length ls → sent_for to ss ≡ []
none_sent to from [] ls new le = refl
none_sent to from (s ∷ ss) ls new le = elim (cases_Bool (is_process s.to to)) [
  | inl e ↦ absurd (
      let same : to ≡ s.to = sym (process_same s.to to e) in
      let long : length (post s.to from s.message ls) ≡ suc (length ls) =
      post_new s.to from s.message ls (subst (λ (q : Process). In (q, from) (keys ls) → ⊥) same new) in
      let more = all_longer from ss (post s.to from s.message ls) in
      omega (arith, le, long, more))
  | inr e ↦ (
      let one = post_longer s.to from s.message ls in
      let again = none_sent to from ss (post s.to from s.message ls) (λ i. elim (post_keys s.to from s.message ls (to, from) i) [
        | inl j ↦ new j
        | inr f ↦ (let same : s.to ≡ to = λ k. (sym f k).0 in
            let self : is_process s.to to ≡ true = ap (is_process s.to) (sym same) ∙ process_self s.to in cc)
      ]) (omega (arith, le, one)) in
      rw e again)
]
