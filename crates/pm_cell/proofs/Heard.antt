-- What a message that is heard makes of a process and its out-ends.
use Rattle.std.proofs.Common.{◌≡◌, ℕ, ◌+◌, ◌<◌, ◌≤◌, ◌≢◌, inl, inr, Bool, true, false, cond, ◌==◌, ◌&&◌, List, []}
use Rattle.std.proofs.Common.{◌∷◌, ◌++◌, ◌-◌, map, refl, arith, ap, ap₂, sym, ◌∙◌, append_assoc, append-nil}
use Rattle.pm_alp.specs.Agents.{agent_after}
use Rattle.pm_alp.specs.States.{Fixed, actor}
use Rattle.pm_alp.specs.Views.{delivered, sent_by}
use Rattle.pm_alp.specs.Views.{Process as AlpView}
use Rattle.pm_clp.specs.Clps.{Hub, clp_after}
use Rattle.pm_clp.specs.Views.{ClpView}
use Rattle.pm_core.specs.Mails.{receiver}
use Rattle.pm_core.specs.declared.process.Process.TheVariants as process
use Rattle.pm_ends.proofs.Laws.{sent_sent, sent_tos}
use Rattle.pm_ends.specs.Ends.{Out, sent_in, tos}
use Rattle.pm_ends.specs.Ends.{sent_to as sent_over_end}
use Rattle.pm_ends.specs.Numbers.{has_number}
use Rattle.pm_ends.specs.declared.post.Post.{Post}
use Rattle.pm_message.specs.declared.Message.{Message}
use Rattle.pm_plan.specs.declared.plan.Plan.{Plan}
use Rattle.pm_queries.specs.declared.registered.Sent.{Sent}
use Rattle.pm_sim.proofs.Places.{process_agent, process_clp}
use Rattle.pm_sim.specs.Worlds.{actor_of, clps_of, home, hub_of}
use Rattle.pm_sim.specs.Worlds.{Process as Place, process as place}
use Rattle.pm_sim.specs.Worlds.Process.{AtAgent, AtClp}
use Rattle.pm_cell.specs.Cores.{acts, all_sent, receivers_of, sent_to, told_to}
use Rattle.pm_cell.specs.Cores.State.{OfAgent, OfClp}
use Rattle.pm_cell.specs.Helds.{IsProcessOf, out_wire}
use Rattle.pm_cell.specs.Sides.{stamped}
use Rattle.pm_cell.specs.Turns.{Acted, sent_all, told_all}
use Rattle.pm_cell.specs.Views.{OutWire}
use Rattle.pm_cell.proofs.Lists.{each_append, each_with, same_or}
use Rattle.pm_history.specs.declared.histories.Heard.{Heard}
use Rattle.std.specs.List.{AllByRecursion}
use Rattle.std.proofs.Common.{Result, Ok, Err, OnOk, OnErr, is_err, true≢false}

-- one message more
pub sent_more : (c : ℕ) (ss : List Sent) (s : Sent) (os : List Out)
    → sent_over_end s.to (stamped c s.message) (sent_all c ss os) ≡ sent_all c (ss ++ s ∷ []) os
sent_more c [] s os = refl
sent_more c (x ∷ ss) s os = sent_more c ss s (sent_over_end x.to (stamped c x.message) os)

pub told_more : (c own home : ℕ) (ms : List Message) (m : Message) (os : List Out)
    → sent_over_end (receiver own home m) (stamped c m) (told_all c own home ms os) ≡ told_all c own home
    (ms ++ m ∷ []) os
told_more c own home [] m os = refl
told_more c own home (x ∷ ms) m os = told_more c own home ms m (sent_over_end (receiver own home x) (stamped c x) os)

-- the ends stay
pub wires_sent : (t : ℕ) (x : Post) (os : List Out) → map out_wire (sent_over_end t x os) ≡ map out_wire os
wires_sent t x [] = refl
wires_sent t x (o ∷ os) = go (t == o.to) (wires_sent t x os)
  where
    go : (c : Bool) → map out_wire (sent_over_end t x os) ≡ map out_wire os
        → map out_wire (cond c (record o { sent = o.sent ++ x ∷ [] } ∷ os) (o ∷ sent_over_end t x os))
        ≡ out_wire o ∷ map out_wire os
    go true rest = refl
    go false rest = ap (λ l. out_wire o ∷ l) rest

pub wires_all : (c : ℕ) (ss : List Sent) (os : List Out) → map out_wire (sent_all c ss os) ≡ map out_wire os
wires_all c [] os = refl
wires_all c (s ∷ ss) os = wires_all c ss (sent_over_end s.to (stamped c s.message) os)
    ∙ wires_sent s.to (stamped c s.message) os

pub wires_told : (c own home : ℕ) (ms : List Message) (os : List Out)
    → map out_wire (told_all c own home ms os) ≡ map out_wire os
wires_told c own home [] os = refl
wires_told c own home (m ∷ ms) os = wires_told c own home ms (sent_over_end (receiver own home m) (stamped c m) os)
    ∙ wires_sent (receiver own home m) (stamped c m) os

-- to an end that is there
same_there : (t n : ℕ) (ks : List ℕ) → (t == n && has_number n ks) ≡ (n == t && has_number t ks)
same_there t n ks = elim (same_or t n) [
  | inl is ↦ ap (λ (c : Bool). c && has_number n ks) is.1 ∙ ap (λ (k : ℕ). has_number k ks) (sym is.0)
      ∙ ap (λ (c : Bool). c && has_number t ks) (sym (ap (λ (k : ℕ). n == k) is.0 ∙ itself n))
  | inr ne ↦ ap (λ (c : Bool). c && has_number n ks) ne.1 ∙ ap (λ (c : Bool). c && has_number t ks)
      (sym (apart n t (λ e. ne.0 (sym e))))
]
  where
    itself : (n : ℕ) → (n == n) ≡ true
    itself n = elim (same_or n n) [ inl is ↦ is.1 | inr ne ↦ absurd (ne.0 refl) ]

    apart : (a b : ℕ) → a ≢ b → (a == b) ≡ false
    apart a b no_way = elim (same_or a b) [ inl is ↦ absurd (no_way is.0) | inr ne ↦ ne.1 ]

joined : (c : ℕ) (S : List Post) (m : Message) (r : List Message) (e h : Bool)
    → (S ++ cond (e && h) (stamped c m ∷ []) []) ++ cond h (map (stamped c) r) [] ≡ S
    ++ cond h (map (stamped c) (cond e (m ∷ r) r)) []
joined c S m r true true = append_assoc S (stamped c m ∷ []) (map (stamped c) r)
joined c S m r true false = append-nil (S ++ [])
joined c S m r false true = ap (λ l. l ++ map (stamped c) r) (append-nil S)
joined c S m r false false = append-nil (S ++ [])

none_joined : (h : Bool) (S : List Post) → S ≡ S ++ cond h [] []
none_joined true S = sym (append-nil S)
none_joined false S = sym (append-nil S)

-- what is sent to each process
pub sent_each : (c : ℕ) (ss : List Sent) (os : List Out) (t : ℕ)
    → sent_in (sent_all c ss os) t ≡ sent_in os t ++ cond (has_number t (tos os)) (map (stamped c) (sent_to t ss)) []
sent_each c [] os t = none_joined (has_number t (tos os)) (sent_in os t)
sent_each c (s ∷ ss) os t =
    sent_each c ss (sent_over_end s.to (stamped c s.message) os) t
    ∙ ap₂ (λ (l : List Post) (ks : List ℕ). l ++ cond (has_number t ks) (map (stamped c) (sent_to t ss)) [])
    (sent_sent s.to (stamped c s.message) os t) (sent_tos s.to (stamped c s.message) os)
    ∙ ap (λ (b : Bool). (sent_in os t ++ cond b (stamped c s.message ∷ []) []) ++ cond (has_number t (tos os))
    (map (stamped c) (sent_to t ss)) []) (same_there t s.to (tos os))
    ∙ joined c (sent_in os t) s.message (sent_to t ss) (s.to == t) (has_number t (tos os))

pub told_each : (c own home : ℕ) (ms : List Message) (os : List Out) (t : ℕ)
    → sent_in (told_all c own home ms os) t ≡ sent_in os t ++ cond (has_number t (tos os))
    (map (stamped c) (told_to own home t ms)) []
told_each c own home [] os t = none_joined (has_number t (tos os)) (sent_in os t)
told_each c own home (m ∷ ms) os t =
    told_each c own home ms (sent_over_end (receiver own home m) (stamped c m) os) t
    ∙ ap₂ (λ (l : List Post) (ks : List ℕ). l ++ cond (has_number t ks) (map (stamped c) (told_to own home t ms)) [])
    (sent_sent (receiver own home m) (stamped c m) os t) (sent_tos (receiver own home m) (stamped c m) os)
    ∙ ap (λ (b : Bool). (sent_in os t ++ cond b (stamped c m ∷ []) []) ++ cond (has_number t (tos os))
    (map (stamped c) (told_to own home t ms)) []) (same_there t (receiver own home m) (tos os))
    ∙ joined c (sent_in os t) m (told_to own home t ms) (receiver own home m == t) (has_number t (tos os))

mapped : (c : ℕ) (h : Bool) (l : List Message) → cond h (map (stamped c) l) [] ≡ map (stamped c) (cond h l [])
mapped c true l = refl
mapped c false l = refl

-- a communication process took a message
module _ (p : Plan) (k from : ℕ) (x : Post) (a b : ClpView) (os us : List Out) (fits : IsProcessOf p k (process.Clp a))
    (tos_are : tos os ≡ receivers_of p k)
    (state : b.clp ≡ (clp_after a.hub from x.message a.clp).clp) (hub : b.hub ≡ a.hub) (made : b.made ≡ a.made + 1)
    (well : b.spoilt ≡ false)
    (sent : us ≡ sent_all x.clock (clp_after a.hub from x.message a.clp).sent os) where
  here : place p k ≡ AtClp k
  here = process_clp p k fits.0

  pub clp_acted : Acted p k from x (process.Clp a) (process.Clp b) os us
  clp_acted = record {
    fits = (fits.0, hub ∙ fits.1, well);
    state = ap OfClp (state ∙ ap (λ (h : Hub). (clp_after h from x.message a.clp).clp) fits.1)
        ∙ ap (λ (q : Place). acts p q (OfClp a.clp) from x.message) (sym here);
    made = made;
    sent = λ t.
        ap (λ (l : List Out). sent_in l t) sent
        ∙ sent_each x.clock (clp_after a.hub from x.message a.clp).sent os t
        ∙ ap (λ (l : List Post). sent_in os t ++ l)
        (ap (λ (ks : List ℕ). cond (has_number t ks) (map (stamped x.clock)
        (sent_to t (clp_after a.hub from x.message a.clp).sent)) []) tos_are
        ∙ ap (λ (h : Hub). cond (has_number t (receivers_of p k))
        (map (stamped x.clock) (sent_to t (clp_after h from x.message a.clp).sent)) []) fits.1
        ∙ mapped x.clock (has_number t (receivers_of p k)) (sent_to t
        (clp_after (hub_of p k) from x.message a.clp).sent)
        ∙ ap (λ (q : Place). map (stamped x.clock) (cond (has_number t (receivers_of p k))
        (all_sent p k q (OfClp a.clp) from x.message t) [])) (sym here));
  }

-- an agent's process took a message
module _ (p : Plan) (k from home_is : ℕ) (x : Post) (a b : AlpView) (os us : List Out)
    (fits : IsProcessOf p k (process.Alp a)) (tos_are : tos os ≡ receivers_of p k)
    (at_home : (i : ℕ) → k ≡ clps_of p + i → home_is ≡ home p i)
    (now : b ≡ delivered x.message a) (sent : us ≡ told_all x.clock k home_is (sent_by x.message a) os) where
  own : k ≡ clps_of p + (k - clps_of p)
  own = (let le : clps_of p ≤ k = fits.0 in omega (arith, le))

  there : place p k ≡ AtAgent (k - clps_of p)
  there = ap (place p) own ∙ process_agent p (k - clps_of p)

  pub alp_acted : Acted p k from x (process.Alp a) (process.Alp b) os us
  alp_acted = record {
    fits = (fits.0, ap (λ (v : AlpView). v.fixed) now ∙ fits.1, ap (λ (v : AlpView). v.spoilt) now);
    state = ap (λ (v : AlpView). OfAgent v.agent) now
        ∙ ap (λ (f : Fixed). OfAgent (agent_after (actor f) a.agent x.message).agent) fits.1
        ∙ ap (λ (q : Place). acts p q (OfAgent a.agent) from x.message) (sym there);
    made = ap (λ (v : AlpView). v.made) now;
    sent = λ t.
        ap (λ (l : List Out). sent_in l t) sent
        ∙ told_each x.clock k home_is (sent_by x.message a) os t
        ∙ ap (λ (l : List Post). sent_in os t ++ l)
        (ap (λ (ks : List ℕ). cond (has_number t ks) (map (stamped x.clock)
        (told_to k home_is t (sent_by x.message a))) []) tos_are
        ∙ ap (λ (h : ℕ). cond (has_number t (receivers_of p k))
        (map (stamped x.clock) (told_to k h t (sent_by x.message a))) []) (at_home (k - clps_of p) own)
        ∙ ap (λ (f : Fixed). cond (has_number t (receivers_of p k))
        (map (stamped x.clock) (told_to k (home p (k - clps_of p)) t
        (agent_after (actor f) a.agent x.message).sent)) []) fits.1
        ∙ mapped x.clock (has_number t (receivers_of p k)) (told_to k (home p (k - clps_of p)) t
        (agent_after (actor_of p (k - clps_of p)) a.agent x.message).sent)
        ∙ ap (λ (q : Place). map (stamped x.clock) (cond (has_number t (receivers_of p k))
        (all_sent p k q (OfAgent a.agent) from x.message t) [])) (sym there));
  }

-- where a call was well, what all its clauses say
pub ok_both : {T E : Type 0} (r : Result T E) (A B Z : Type 0) → OnOk r A → OnOk r B → (A → B → Z) → OnOk r Z
ok_both (Ok y) A B Z a b f = f a b
ok_both (Err e) A B Z a b f = a

pub ok_all : {T E : Type 0} (r : Result T E) (A B C D F Z : Type 0) → OnOk r A → OnOk r B → OnOk r C → OnOk r D
    → OnOk r F → (A → B → C → D → F → Z) → OnOk r Z
ok_all (Ok y) A B C D F Z a b c d e f = f a b c d e
ok_all (Err x) A B C D F Z a b c d e f = a

-- to whom the ends send stays where the ends do
pub tos_wires : (os us : List Out) → map out_wire us ≡ map out_wire os → tos us ≡ tos os
tos_wires os us e = sym (go us) ∙ ap (map (λ (w : OutWire). w.to)) e ∙ go os
  where
    go : (os : List Out) → map (λ (w : OutWire). w.to) (map out_wire os) ≡ tos os
    go [] = refl
    go (o ∷ os) = ap (λ l. o.to ∷ l) (go os)

-- no receipt is above a clock that was raised
pub clocks_rise : (n m : ℕ) (hs : List Heard) → n ≤ m → AllByRecursion (λ (h : Heard). h.clock ≤ n) hs
    → AllByRecursion (λ (h : Heard). h.clock ≤ m) hs
clocks_rise n m hs le all = each_with (λ (h : Heard). h.clock ≤ n) (λ (h : Heard). h.clock ≤ m) hs
    (λ h low. omega (arith, le, low)) all

pub clocks_below : (n m : ℕ) (hs : List Heard) → n < m → AllByRecursion (λ (h : Heard). h.clock ≤ n) hs
    → AllByRecursion (λ (h : Heard). h.clock < m) hs
clocks_below n m hs lt all = each_with (λ (h : Heard). h.clock ≤ n) (λ (h : Heard). h.clock < m) hs
    (λ h low. omega (arith, lt, low)) all

pub clocks_more : (n m from : ℕ) (hs : List Heard) → n ≤ m → AllByRecursion (λ (h : Heard). h.clock ≤ n) hs
    → AllByRecursion (λ (h : Heard). h.clock ≤ m) (hs ++ record { clock = m; from = from } ∷ [])
clocks_more n m from hs le all = each_append (λ (h : Heard). h.clock ≤ m) hs (record { clock = m; from = from } ∷ [])
    (clocks_rise n m hs le all) (omega arith, tt)

-- a call was well
pub ok_when : {T E : Type 0} (r : Result T E) (P : Type 0) → is_err r ≡ false → OnOk r P → P
ok_when (Ok y) P e h = h
ok_when (Err x) P e h = absurd (true≢false e)

-- or it wasn't
pub err_when : {T E : Type 0} (r : Result T E) (P : Type 0) → is_err r ≡ true → OnErr r P → P
err_when (Ok y) P e h = absurd (true≢false (sym e))
err_when (Err x) P e h = h
