-- Every message in a link is one that its receiver takes.
use Rattle.pm_queries.specs.Queries.{has}
use Rattle.std.proofs.Common.{Bool, List, [], ap, arith, cond, false, get_or, inl, inr, length, nat_lt, not, refl, subst, suc, sym, true, zero, ℕ, ◌&&◌, ◌+◌, ◌<◌, ◌==◌, ◌^◌, ◌||◌, ◌∙◌, ◌∷◌, ◌≡◌, ◌≤◌, ◌⊎◌}
use Rattle.std.proofs.lemmas.Bool.{and_from, cases_Bool}
use Rattle.std.proofs.lemmas.Bool.Decides.{nat_tests}
use Rattle.std.specs.List.{list_all}
use Rattle.pm_base.specs.Layouts.{var_count}
use Rattle.pm_base.specs.Stamps.{is_below, num_eq}
use Rattle.pm_base.specs.Windows.{is_inverted}
use Rattle.pm_base.specs.declared.rows.CutRow.{CutRow}
use Rattle.pm_base.specs.declared.rows.Parts.{Parts}
use Rattle.pm_base.specs.declared.rows.PutRow.{PutRow}
use Rattle.pm_base.specs.declared.rows.ReadRow.{ReadRow}
use Rattle.pm_base.specs.declared.run.Event.{Event}
use Rattle.pm_base.specs.declared.stamp.Num.{Num}
use Rattle.pm_base.specs.declared.stamp.Stamp.{Stamp}
use Rattle.pm_message.specs.Messages.{stamp_of}
use Rattle.pm_message.specs.declared.Message.{Message}
use Rattle.pm_periods.specs.Records.{parts_in_order, record_value, settled, with_hit}
use Rattle.pm_periods.specs.Rows.{add_row, add_rows, cut_key, differs_from, first_rows, key_lt, put_key, read_key, rows_in_order}
use Rattle.pm_periods.specs.declared.rows.RowKey.{RowKey}
use Rattle.pm_routes.specs.declared.way.Way.{Way}
use Rattle.pm_plan.specs.declared.plan.AgentRow.{AgentRow}
use Rattle.pm_plan.specs.declared.plan.Plan.{Plan}
use Rattle.pm_model.specs.declared.State.{State}
use Rattle.pm_clp.specs.Clps.{ClpState, Hub, rec_at, way_of}
use Rattle.pm_clp.specs.Takes.{fits, has_agent, has_agents, has_class, has_low_turns, has_var, is_here, is_linked, is_port, takes}
use Rattle.pm_sim.proofs.Awakes.{Awake, agent_letter, run_awake}
use Rattle.pm_sim.proofs.ClassesIn.{AllKinds, InKinds, run_kinds}
use Rattle.pm_sim.proofs.Firsts.{PlanFits, agents_len}
use Rattle.pm_sim.proofs.Lanes.{InPlan, keys}
use Rattle.pm_sim.proofs.Letters.{in_map, map_in, message_of}
use Rattle.pm_sim.proofs.Lists.{in_cases}
use Rattle.pm_sim.proofs.Made.{TurnsLow, run_turns}
use Rattle.pm_sim.proofs.Nexts.{key_ok}
use Rattle.pm_sim.proofs.Places.{Sim, clp_at, towards_at}
use Rattle.pm_sim.proofs.Quiets.{tally_in}
use Rattle.pm_sim.proofs.Readies.{wake_own}
use Rattle.pm_sim.proofs.Seqs.{made_most}
use Rattle.pm_sim.proofs.Stamps.{nums_same, past_false}
use Rattle.pm_sim.proofs.Takings.{LinkOk, Suits, agent_low, suits_give, suits_grow}
use Rattle.pm_sim.proofs.Trims.{filter_in}
use Rattle.pm_sim.proofs.Wholes.{Whole, first_whole, whole_run}
use Rattle.pm_sim.specs.Journals.{made, made_at}
use Rattle.pm_sim.specs.Routings.{ForAgent, ForClp, IsClp, is_move, mail_to, stands_at}
use Rattle.pm_sim.specs.Sims.{AtMost, In, MailOk, NotPast, is_past, num_of, vars_of}
use Rattle.pm_sim.specs.Taken.{AgentTakes, IsTaken, MessagesAreTaken}
use Rattle.pm_sim.specs.Worlds.{Link, Mail, Process, World, after_events, clps_of, committed, first_world, home, hub_of, mail, mail_of, number, ports, to_agents, towards}
use Rattle.pm_sim.specs.Worlds.Process.{AtAgent, AtClp}
use Rattle.pm_message.specs.declared.Message.TheVariants as message
use Rattle.pm_base.specs.declared.value.Query.TheVariants as query
use Rattle.pm_routes.specs.declared.way.Way.TheVariants as way

-- ---- lists

or_right : (a b : Bool) → b ≡ true → (a || b) ≡ true
or_right true b e = refl
or_right false b e = e

in_has : (d : ℕ) (xs : List ℕ) → In d xs → has d xs ≡ true
in_has d [] i = absurd i
in_has d (x ∷ xs) (inl e) = (let g : (d == x) ≡ true = grind (arith, nat_tests, e) in rw g refl)
in_has d (x ∷ xs) (inr i) = or_right (d == x) (has d xs) (in_has d xs i)

not_false : (b : Bool) → b ≡ false → not b ≡ true
not_false true e = absurd (cc)
not_false false e = refl

low_true : (a b : ℕ) → a < b → nat_lt a b ≡ true
low_true a b lt = grind (arith, nat_tests, lt)

all_so : {X : Type 0} (f : X → Bool) (xs : List X) → ((x : X) → In x xs → f x ≡ true) → list_all f xs ≡ true
all_so f [] h = refl
all_so f (x ∷ xs) h = and_from (f x) (list_all f xs) (h x (inl refl)) (all_so f xs (λ y i. h y (inr i)))

in_get : (xs : List ℕ) (a : ℕ) → a < length xs → In (get_or xs a 0) xs
in_get [] a lt = absurd (omega arith)
in_get (x ∷ xs) zero lt = inl refl
in_get (x ∷ xs) (suc a) lt = inr (in_get xs a (omega arith))

pub towards_len : (p : Plan) (c i : ℕ) (rs : List AgentRow) → length (to_agents p c i rs) ≡ length rs
towards_len p c i [] = refl
towards_len p c i (r ∷ rs) = ap suc (towards_len p c (suc i) rs)

-- mail stands in a link
pub mail_key : (ls : List Link) (x : Mail) → In x (mail ls) → In (x.to, x.from) (keys ls)
mail_key [] x i = absurd i
mail_key (l ∷ ls) x i = elim (in_cases (mail_of l) (mail ls) x i) [
  | inl j ↦ (let o =
      in_map (λ (m : Message). mail_to l.to l.from m) l.messages x j in inl (ap (λ (z : Mail). (z.to, z.from)) o.2))
  | inr j ↦ inr (mail_key ls x j)
]

-- ---- rows that are brought into order

row_stays : {X : Type 0} (key : X → RowKey) (r : X) (xs : List X) (x : X) → In x (r ∷ xs) → In x (add_row key r xs)
row_stays key r [] x i = i
row_stays key r (y ∷ ys) x i = (let again = row_stays key r ys x in go (key_lt (key r) (key y)) again i)
  where
    go : (b : Bool) → (In x (r ∷ ys) → In x (add_row key r ys))
        → In x (r ∷ (y ∷ ys)) → In x (cond b (r ∷ (y ∷ ys)) (y ∷ add_row key r ys))
    go true again j = j
    go false again (inl e) = inr (again (inl e))
    go false again (inr (inl e)) = inl e
    go false again (inr (inr j)) = inr (again (inr j))

rows_stay : {X : Type 0} (key : X → RowKey) (done rs : List X) (x : X)
    → In x done ⊎ In x rs → In x (add_rows key done rs)
rows_stay key done [] x (inl i) = i
rows_stay key done [] x (inr i) = absurd i
rows_stay key done (y ∷ ys) x (inl i) = rows_stay key (add_row key y done) ys x (inl (row_stays key y done x (inr i)))
rows_stay key done (y ∷ ys) x (inr (inl e)) =
    rows_stay key (add_row key y done) ys x (inl (row_stays key y done x (inl e)))
rows_stay key done (y ∷ ys) x (inr (inr i)) = rows_stay key (add_row key y done) ys x (inr i)

first_stays : {X : Type 0} (key : X → RowKey) (xs : List X) (x : X)
    → In x xs → (y : X) × In y (first_rows key xs) × ((key y).num ≡ (key x).num)
first_stays key [] x i = absurd i
first_stays key (y ∷ ys) x (inl e) = (y, inl refl, sym (ap (λ z. (key z).num) e))
first_stays key (y ∷ ys) x (inr i) =
    (let o = first_stays key ys x i in elim (cases_Bool (num_eq (key o.0).num (key y).num)) [
      | inl e ↦ (y, inl refl, sym (nums_same (key o.0).num (key y).num e) ∙ o.2)
      | inr e ↦ (
        o.0,
        inr (filter_in
            (differs_from key y) (first_rows key ys) o.0 o.1 (not_false (num_eq (key o.0).num (key y).num) e)),
        o.2,
      )
    ])

-- each number stays
number_stays : {X : Type 0} (key : X → RowKey) (rs : List X) (x : X)
    → In x rs → (y : X) × In y (rows_in_order key rs) × ((key y).num ≡ (key x).num)
number_stays key rs x i = first_stays key (add_rows key [] rs) x (rows_stay key [] rs x (inr i))

-- ---- an agent

-- every letter to an agent is taken by it: a Wake of its own, or a Give or a Finish from its home
pub agent_takes : (p : Plan) (q : State) (w : World) (recs : ℕ → Parts) (sim : Sim p q w recs)
    → Awake p w → var_count p.layout.classes ≡ vars_of p → (a : ℕ) (f : Process) (m : Message)
    → In (mail_to (AtAgent a) f m) (mail w.links) → (a < length p.agents) × AgentTakes p a f m
agent_takes p q w recs sim awake counted a f m i = (
  (let lt = (agent_letter p q w recs sim a f m i).0 in let e =
      sim.core.same_agents in let g = sim.core.same_plan in omega arith),
  by m f (sim.fits _ i) (awake.linked.mail _ i).0 (awake.linked.mail _ i).1,
)
  where
    by : (m : Message) (f : Process)
        → ForAgent a m → LinkOk p (AtAgent a) f → Suits (vars_of p) f m → AgentTakes p a f m
    by (message.Wake k s) f fit l o = wake_own (vars_of p) a p f k s l o
    by (message.Give g) (AtClp c) fit l o = (ap AtClp (sym l), subst (λ z. g.var < z) (sym counted) o)
    by (message.Give g) (AtAgent b) fit l o = absurd o
    by (message.Finish k s) (AtClp c) fit l o = ap AtClp (sym l)
    by (message.Finish k s) (AtAgent b) fit l o = absurd o
    by (message.Ask k s q) f fit l o = absurd fit
    by (message.Put r_n r_t v r_c) f fit l o = absurd fit
    by (message.Cut r_n r_t v) f fit l o = absurd fit
    by (message.Move v s r) f fit l o = absurd fit
    by (message.Grow k s u z) f fit l o = absurd fit

-- ---- a CLP

-- d is the number of deliveries made at the CLP, k of those made in the world
module _ (p : Plan) (q : State) (w : World) (recs : ℕ → Parts) (sim : Sim p q w recs) (awake : Awake p w)
    (counted : var_count p.layout.classes ≡ vars_of p) (all : AllKinds (length p.layout.classes) (mail w.links))
    (k d : ℕ) (low : TurnsLow k w) (few : k < 20000000) (less : d < 20000000)
    (c : ℕ) (f : Process) (m : Message) (i : In (mail_to (AtClp c) f m) (mail w.links)) where
  abbrev h : Hub
  h = hub_of p c

  abbrev s : ClpState
  s = clp_at w c

  lc : c < clps_of p
  lc = (sim.fits (mail_to (AtClp c) f m) i).0

  linked_from : LinkOk p (AtClp c) f
  linked_from = (awake.linked.mail _ i).0

  agent_here : (n : Num) → n.agent < length p.agents → has_agent h n ≡ true
  agent_here n lt = low_true n.agent (length h.to_agents) (let e = towards_len p c 0 p.agents in omega arith)

  issued_here : (x : Message) → In x sim.issued → has_agent h (num_of x) ≡ true
  issued_here x j = agent_here (num_of x) (agent_low p q w recs sim awake.linked x j)

  var_here : (v : ℕ) → v < length q.values → has_var h v ≡ true
  var_here v lt = low_true v (var_count p.layout.classes) (let e = sim.core.same_vars in omega arith)

  port_here : (e : ℕ) → In e (ports p c) → is_port h e ≡ true
  port_here e j = in_has e (ports p c) j

  -- the sender is linked to the CLP
  is_sender : is_linked h (number p f) ≡ true
  is_sender =
      by f linked_from (key_ok p sim.tree (AtClp c) f (subst (In (AtClp c, f)) awake.links (mail_key w.links _ i))).2
    where
      by : (f : Process) → LinkOk p (AtClp c) f
          → InPlan (clps_of p) (length (first_world p).agents) f → is_linked h (number p f) ≡ true
      by (AtClp e) l lt = (let g = port_here e l in rw g refl)
      by (AtAgent a) l lt =
          let la : a < length p.agents = (let g = agents_len p 0 p.agents in omega arith) in
          let at : get_or (to_agents p c 0 p.agents) a 0 ≡ clps_of p + a = towards_at p c 0 p.agents a la
          ∙ (let z0 : 0 + a ≡ a = omega arith in ap (λ z. towards p c z (home p a)) z0) ∙ here a l in
          or_right
          (is_port h (clps_of p + a)) (has (clps_of p + a) h.to_agents) (in_has (clps_of p + a) h.to_agents (subst
          (λ z. In z h.to_agents) at (in_get h.to_agents a (let g = towards_len p c 0 p.agents in omega arith))))
        where
          here : (a : ℕ) → home p a ≡ c → towards p c a (home p a) ≡ clps_of p + a
          here a e = (let g : (c == home p a) ≡ true = grind (arith, nat_tests, e) in rw g refl)

  -- a Move is of a record that isn't here
  move_fits : (v : ℕ) (z : Stamp) (r : Parts)
      → In (mail_to (AtClp c) f (message.Move v z r)) (mail w.links) → fits h s (number p f) (message.Move v z r) ≡ true
  move_fits v z r j =
      let o = sim.moves.moves (AtClp c) f v z r j in
      and_from
      (has_var h v && not (is_here (way_of v s))) (is_port h (number p f) && (has_agents h r && has_low_turns r))
      (and_from (has_var h v) (not (is_here (way_of v s))) (var_here v o.0) (not_here (way_of v s) refl))
      (and_from (is_port h (number p f))
      (has_agents h r && has_low_turns r) from_port (and_from (has_agents h r) (has_low_turns r) agents turns))
    where
      o : (v < length q.values) × (settled r ≡ recs v) × ((x : Stamp) → NotPast w.line x → AtMost z x)
          × (e : ℕ) × (AtClp c ≡ AtClp (sim.place v)) × (f ≡ AtClp e) × (e < clps_of p) × In (sim.place v) (ports p e)
      o = sim.moves.moves (AtClp c) f v z r j

      place_is : sim.place v ≡ c
      place_is = (let g = (sim.moves.moves (AtClp c) f v z r j).4 in same (sim.place v) c (sym g))
        where
          same : (x y : ℕ) → AtClp x ≡ AtClp y → x ≡ y
          same x y e = cc

      from_port : is_port h (number p f) ≡ true
      from_port = subst (λ y. is_port h (number p y) ≡ true)
          (sym o.5) (port_here o.3 (sim.tree.back o.3 c o.6 (subst (λ y. In y (ports p o.3)) place_is o.7)))

      not_here : (y : Way) → way_of v s ≡ y → not (is_here y) ≡ true
      not_here (way.Port e) g = refl
      not_here way.Here g = absurd (elim (sim.moves.placed v o.0).1 [
        | inl a ↦ (let t = tally_in (is_move v)
            (mail w.links) _ j (let e : (v == v) ≡ true = grind (arith, nat_tests) in e) in let b = a.1 in omega arith)
        | inr a ↦ (let b : stands_at (rec_at s.records v) ≡ false =
            subst (λ y. stands_at (rec_at (clp_at w y).records v) ≡ false) place_is a.0 in
            let e : stands_at (rec_at s.records v) ≡ true = ap stands_at (sim.places.here c v lc o.0 g) in cc)
      ])

      -- the rows' agents: a row of the same number is in the record
      agents : has_agents h r ≡ true
      agents =
          let rc = sim.core.rec v in
          let puts : list_all (λ (x : PutRow). has_agent h x.num) r.puts ≡ true =
          all_so (λ (x : PutRow). has_agent h x.num) r.puts (λ x a. let y = number_stays put_key r.puts x a in
          let g : In y.0 (recs v).puts = subst (λ (u : Parts). In y.0 u.puts) o.1 y.1 in
          subst (λ n. has_agent h n ≡ true) y.2 (issued_here _ (rc.puts y.0 g).0)) in
          let cuts : list_all (λ (x : CutRow). has_agent h x.num) r.cuts ≡ true =
          all_so (λ (x : CutRow). has_agent h x.num) r.cuts (λ x a. let y = number_stays cut_key r.cuts x a in
          let g : In y.0 (recs v).cuts = subst (λ (u : Parts). In y.0 u.cuts) o.1 y.1 in
          subst (λ n. has_agent h n ≡ true) y.2 (issued_here _ (rc.cuts y.0 g).0.1)) in
          let reads : list_all (λ (x : ReadRow). has_agent h x.num) r.reads ≡ true =
          all_so (λ (x : ReadRow). has_agent h x.num) r.reads (λ x a. let y = number_stays read_key r.reads x a in
          let b : In (with_hit (record_value (parts_in_order r)) y.0) (settled r).reads =
          map_in (with_hit (record_value (parts_in_order r))) (rows_in_order read_key r.reads) y.0 y.1 in
          let g : In (with_hit (record_value (parts_in_order r)) y.0) (recs v).reads =
          subst (λ (u : Parts). In (with_hit (record_value (parts_in_order r)) y.0) u.reads) o.1 b in
          subst (λ n. has_agent h n ≡ true) y.2 (issued_here _ (rc.reads _ g).1)) in
          and_from (list_all (λ (x : PutRow). has_agent h x.num) r.puts) (list_all
          (λ (x : CutRow). has_agent h x.num) r.cuts && list_all (λ (x : ReadRow). has_agent h x.num) r.reads) puts
          (and_from (list_all (λ (x : CutRow). has_agent h x.num) r.cuts)
          (list_all (λ (x : ReadRow). has_agent h x.num) r.reads) cuts reads)

      turns : has_low_turns r ≡ true
      turns = all_so (λ (x : ReadRow). nat_lt x.turn (2 ^ 32)) r.reads (λ x a. low_true x.turn
          (2 ^ 32) (let t : x.turn ≤ k = low.mail (mail_to (AtClp c) f (message.Move v z r)) j x a in omega arith))

  fits_here : (m : Message) → In (mail_to (AtClp c) f m) (mail w.links)
      → ForClp (length q.values) f m → MailOk p sim.issued m → fits h s (number p f) m ≡ true
  fits_here (message.Wake n z) j fit ok = absurd fit
  fits_here (message.Ask n z (query.One v)) j fit ok =
      and_from (has_agent h n) (has_var h v) (issued_here _ ok) (var_here v fit)
  fits_here (message.Ask n z (query.Class a u)) j fit ok =
      and_from (has_agent h n) (has_class h a) (issued_here _ ok) (low_true a (length p.layout.classes) (all _ j))
  fits_here (message.Put r_n r_t v r_c) j fit ok =
      and_from (has_agent h r_n) (has_var h v) (issued_here _ ok) (var_here v fit)
  fits_here (message.Cut r_n r_t v) j fit ok =
      and_from (has_agent h r_n) (has_var h v) (issued_here _ ok.1) (var_here v fit)
  fits_here (message.Give g) j fit ok = and_from (has_agent h g.num) (has_var h g.var) (issued_here _ ok.1) (var_here
      g.var (let e = sim.core.same_vars in let b = suits_give (vars_of p) f g (awake.linked.mail _ j).1 in omega arith))
  fits_here (message.Finish n z) j fit ok = issued_here _ ok.2
  fits_here (message.Move v z r) j fit ok = move_fits v z r j
  fits_here (message.Grow a z u x) j fit ok =
      and_from (has_class h a)
      (is_port h (number p f) && not (is_inverted x)) (low_true a (length p.layout.classes) (all _ j))
      (and_from (is_port h (number p f)) (not (is_inverted x)) (by f fit linked_from)
      (not_false (is_inverted x) (suits_grow (vars_of p) f a z u x (awake.linked.mail _ j).1)))
    where
      by : (f : Process) → IsClp f → LinkOk p (AtClp c) f → is_port h (number p f) ≡ true
      by (AtClp e) is l = port_here e l
      by (AtAgent b) is l = absurd is

  pub clp_takes : (c < clps_of p) × (takes (hub_of p c) d (clp_at w c) (number p f) m ≡ true)
  clp_takes =
      let ok = sim.core.mail m (map_in message_of (mail w.links) _ i) in
      let line : not (is_below (stamp_of m) s.line) ≡ true = not_false (is_below (stamp_of m) s.line) (subst
      (λ l. is_past l (stamp_of m) ≡ false) (sym (sim.places.line c lc)) (past_false w.line (stamp_of m) ok.1)) in (
        lc,
        and_from (nat_lt d 20000000 && is_linked h (number p f))
            (not (is_below (stamp_of m) s.line) && fits h s (number p f) m)
            (and_from (nat_lt d 20000000) (is_linked h (number p f)) (low_true d 20000000 less) is_sender)
            (and_from (not (is_below (stamp_of m) s.line))
            (fits h s (number p f) m) line (fits_here m i (sim.fits (mail_to (AtClp c) f m) i).1 ok.0)),
      )

-- in each world of a legal run
pub run_taken : (p : Plan) → PlanFits p → var_count p.layout.classes ≡ vars_of p
    → InKinds (length p.layout.classes) p → (es : List Event) → MessagesAreTaken p es
run_taken p fit counted kinds es l few x i = by x.to x.from x.message i
  where
    w : World
    w = after_events p (first_world p) es

    whole : Whole p (after_events p (first_world p) es) (committed p es)
    whole = whole_run p (first_world p) [] es (first_whole p fit) l

    by : (to from : Process) (m : Message) → In (mail_to to from m) (mail (after_events p (first_world p) es).links)
        → IsTaken p (after_events p (first_world p) es) (made_at p to es) to from m
    by (AtClp c) f m j = clp_takes p whole.q w whole.full.recs
        whole.full.sim (run_awake p fit es l) counted (run_kinds (length p.layout.classes) p kinds fit es l) (made es)
        (made_at p (AtClp c) es) (run_turns p fit es l) few (let a = made_most p (AtClp c) es in omega arith) c f m j
    by (AtAgent a) f m j = agent_takes p whole.q w whole.full.recs whole.full.sim (run_awake p fit es l) counted a f m j
