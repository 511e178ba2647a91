-- What waits at settled cells is what the world's links have.
use Rattle.std.proofs.Common.{◌≡◌, ℕ, ◌<◌, ◌⊎◌, inl, inr, Bool, true, false, cond, List, [], ◌∷◌, length, get_or, refl, arith, ap, sym, ◌∙◌, subst}
use Rattle.std.specs.Prelude.{nat_lt, not, ◌&&◌}
use Rattle.std.proofs.lemmas.Bool.{cases_Bool}
use Rattle.std.proofs.lemmas.Bool.Decides.{nat_tests}
use Rattle.pm_base.specs.Stamps.{is_below, stamp_lt}
use Rattle.pm_base.specs.declared.stamp.Line.{Line}
use Rattle.pm_base.specs.declared.stamp.Line.TheVariants as line
use Rattle.pm_base.specs.declared.stamp.Stamp.{Stamp}
use Rattle.pm_clp.specs.Clps.{ClpState, Hub}
use Rattle.pm_clp.specs.Takes.{fits, is_linked, takes}
use Rattle.pm_message.specs.Messages.{stamp_of}
use Rattle.pm_message.specs.declared.Message.{Message}
use Rattle.pm_plan.specs.Plans.{IsValid}
use Rattle.pm_plan.specs.declared.plan.Plan.{Plan}
use Rattle.pm_sim.specs.Bounds.{between}
use Rattle.pm_sim.specs.Links.{LinksAre}
use Rattle.pm_sim.specs.Routings.{mail_to}
use Rattle.pm_sim.specs.Sims.{In}
use Rattle.pm_sim.specs.Taken.{IsTaken}
use Rattle.pm_sim.specs.Worlds.{Link, Mail, Process, World, first_world, hub_of, is_link, least_line, line_le, mail, mail_stamp, no_clp, number, process}
use Rattle.pm_sim.specs.Worlds.Process.{AtAgent, AtClp}
use Rattle.pm_sim.proofs.Lanes.{keys}
use Rattle.pm_sim.proofs.Nexts.{key_ok, number_process}
use Rattle.pm_sim.proofs.Readies.{least_in, least_of}
use Rattle.pm_sim.proofs.ReachedWorlds.{world_tells}
use Rattle.pm_sim.proofs.Shapes.{tree_ok}
use Rattle.pm_sim.proofs.Stamps.{stamps_same}
use Rattle.pm_sim.proofs.Wires.{between_mail, same_link}
use Rattle.pm_cell.specs.Cores.{core, state_at, takes_at}
use Rattle.pm_cell.specs.Sides.{StandFor, messages}
use Rattle.pm_cell.specs.Stands.{CellView, IsLeastOf, StandAt, WaitsAt}
use Rattle.pm_cell.specs.Views.{Settled, nobody, nows, view_at}
use Rattle.pm_cell.proofs.Merges.{cancel}

-- where the links are settled, what waits is what the world's links have
pub settled_links : (p : Plan) (w : World) (vs : List CellView) → StandFor (core p) (nows nobody vs) w → Settled nobody vs
    → (a b : ℕ) → between (process p a) (process p b) w.links ≡ messages ((view_at nobody vs a).waiting b)
settled_links p w vs stand settled a b =
    let known = stand.links a b in
    known.2 ∙ ap messages (cancel ((nows nobody vs a).received b) known.0 ((view_at nobody vs a).waiting b) (sym known.1 ∙ settled a b))

-- what stands between two processes stands in a link of theirs
pub between_key : (to from : Process) (ls : List Link) (m : Message) → In m (between to from ls) → In (to, from) (keys ls)
between_key to from [] m i = absurd i
between_key to from (l ∷ ls) m i = elim (cases_Bool (is_link to from l)) [
  | inl e ↦ inl (let s = same_link to from l e in λ k. (sym s.0 k, sym s.1 k))
  | inr e ↦ inr (between_key to from ls m (subst (λ c. In m (cond c l.messages (between to from ls))) e i))
]

-- the numbers of two processes with a message between them
pub record Numbers (p : Plan) (to from : Process) : Type 0 where
  pub to_is : process p (number p to) ≡ to
  pub from_is : process p (number p from) ≡ from

pub numbers_of : (p : Plan) (w : World) → IsValid p → LinksAre p w → (to from : Process) (m : Message) → In m (between to from w.links) → Numbers p to from
numbers_of p w valid links to from m i =
    let key = key_ok p (tree_ok p valid) to from (subst (In (to, from)) links.keys (between_key to from w.links m i)) in
    record { to_is = number_process p (length (first_world p).agents) to key.1; from_is = number_process p (length (first_world p).agents) from key.2 }

-- ---- the least line

line_same : (l k : Line) (Has : Message → Type 0) → ((m : Message) → Has m → line_le l (line.At (stamp_of m)) ≡ true) → ((l ≡ line.End) ⊎ ((m : Message) × Has m × (l ≡ line.At (stamp_of m))))
    → ((m : Message) → Has m → line_le k (line.At (stamp_of m)) ≡ true) → ((k ≡ line.End) ⊎ ((m : Message) × Has m × (k ≡ line.At (stamp_of m)))) → l ≡ k
line_same l k Has low (inl e) low' (inl f) = e ∙ sym f
line_same l k Has low (inl e) low' (inr (m, has, f)) = absurd (let h : line_le line.End (line.At (stamp_of m)) ≡ true = subst (λ z. line_le z (line.At (stamp_of m)) ≡ true) e (low m has) in past_end h)
  where
    past_end : false ≡ true → ⊥
    past_end e = cc
line_same l k Has low (inr (m, has, e)) low' (inl f) = absurd (let h : line_le line.End (line.At (stamp_of m)) ≡ true = subst (λ z. line_le z (line.At (stamp_of m)) ≡ true) f (low' m has) in past_end h)
  where
    past_end : false ≡ true → ⊥
    past_end e = cc
line_same l k Has low (inr (m, has, e)) low' (inr (m', has', f)) =
    e ∙ ap line.At (stamp_same (stamp_of m) (stamp_of m') (subst (λ z. line_le z (line.At (stamp_of m')) ≡ true) e (low m' has')) (subst (λ z. line_le z (line.At (stamp_of m)) ≡ true) f (low' m has))) ∙ sym f
  where
    stamp_same : (s t : Stamp) → not (stamp_lt t s) ≡ true → not (stamp_lt s t) ≡ true → s ≡ t
    stamp_same s t a b = stamps_same s t (grind (arith, nat_tests, a, b)) (grind (arith, nat_tests, a, b))

pub le_self : (s : Stamp) → not (stamp_lt s s) ≡ true
le_self s = grind (arith, nat_tests)

pub le_under : (l : Line) (s t : Stamp) → is_below s l ≡ true → line_le l (line.At t) ≡ true → not (stamp_lt t s) ≡ true
le_under (line.At u) s t a b = grind (arith, nat_tests, a, b)
le_under line.End s t a b = absurd (cc)

pub le_above : (l : Line) (s : Stamp) → is_below s l ≡ false → line_le l (line.At s) ≡ true
le_above (line.At u) s a = grind (arith, nat_tests, a)
le_above line.End s a = absurd (cc)

least_low : (ms : List Mail) (x : Mail) → In x ms → line_le (least_of ms) (line.At (mail_stamp x)) ≡ true
least_low [] x i = absurd i
least_low (m ∷ ms) x (inl same) = subst (λ (z : Mail). line_le (least_of (m ∷ ms)) (line.At (mail_stamp z)) ≡ true) (sym same) (elim (cases_Bool (is_below (mail_stamp m) (least_of ms))) [
  | inl e ↦ rw e (le_self (mail_stamp m))
  | inr e ↦ rw e (le_above (least_of ms) (mail_stamp m) e)
])
least_low (m ∷ ms) x (inr j) = (let again = least_low ms x j in elim (cases_Bool (is_below (mail_stamp m) (least_of ms))) [
  | inl e ↦ rw e (le_under (least_of ms) (mail_stamp m) (mail_stamp x) e again)
  | inr e ↦ rw e again
])

-- the law of the least line
pub least_is : (p : Plan) (n : ℕ) (w : World) (vs : List CellView) (l : Line) → IsValid p → StandAt p n w vs → Settled nobody vs → IsLeastOf l vs → l ≡ least_line w
least_is p n w vs l valid at settled is = line_same l (least_line w) (WaitsAt vs) is.low is.found
    (λ m h. least_low (mail w.links) (mail_to (process p h.to) (process p h.from) m)
    (between_mail (process p h.to) (process p h.from) w.links m (subst (In m) (sym (settled_links p w vs at.stand settled h.to h.from)) h.waits)))
    (found (mail w.links) refl)
  where
    found : (ms : List Mail) → mail w.links ≡ ms → (least_line w ≡ line.End) ⊎ ((m : Message) × WaitsAt vs m × (least_line w ≡ line.At (stamp_of m)))
    found [] e = inl (ap least_of e)
    found (y ∷ ys) e =
        let r = least_in (mail w.links) (λ f. not_both y ys (sym e ∙ f)) in
        let links = (world_tells p n w valid at.reached).links in
        let there : In r.0.message (between r.0.to r.0.from w.links) = links.between r.0 r.1 in
        let ends = numbers_of p w valid links r.0.to r.0.from r.0.message there in
        let by : In r.0.message (between (process p (number p r.0.to)) (process p (number p r.0.from)) w.links) =
        subst (λ (q : Process). In r.0.message (between q (process p (number p r.0.from)) w.links)) (sym ends.to_is)
        (subst (λ (q : Process). In r.0.message (between r.0.to q w.links)) (sym ends.from_is) there) in
        inr (
          r.0.message,
          record { to = number p r.0.to; from = number p r.0.from; waits = subst (In r.0.message) (settled_links p w vs at.stand settled (number p r.0.to) (number p r.0.from)) by },
          r.2,
        )
      where
        not_both : (x : Mail) (xs : List Mail) → x ∷ xs ≡ [] → ⊥
        not_both x xs f = cc

-- ---- idle cells

both : (a b c : Bool) → ((a && b) && c) ≡ true → (b && c) ≡ true
both true b c e = e
both false b c e = absurd (cc)

takes_few : (h : Hub) (k n : ℕ) (s : ClpState) (f : ℕ) (m : Message) → takes h k s f m ≡ true → n < 20000000 → takes h n s f m ≡ true
takes_few h k n s f m e lt =
    let g : nat_lt n 20000000 ≡ true = grind (arith, nat_tests, lt) in
    rw g (both (nat_lt k 20000000) (is_linked h f) (not (is_below (stamp_of m) s.line) && fits h s f m) e)

-- what is taken after some deliveries is taken after any few
pub taken_at : (p : Plan) (w : World) (q : Process) (f k made : ℕ) (r : Process) (m : Message) → number p r ≡ f → IsTaken p w k q r m → made < 20000000 → takes_at p q made (state_at w q) f m ≡ true
taken_at p w (AtClp c) f k made r m is t lt =
    takes_few (hub_of p c) k made (get_or w.clps c no_clp) f m (subst (λ (j : ℕ). takes (hub_of p c) k (get_or w.clps c no_clp) j m ≡ true) is t.1) lt
taken_at p w (AtAgent a) f k made r m is t lt = grind (arith, nat_tests, lt)
