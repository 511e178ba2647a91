-- The whole fact over the tree, and the CLP's simple events.
use Rattle.pm_queries.specs.declared.registered.Registered.{Registered}
use Rattle.std.proofs.Common.{◌≡◌, ℕ, zero, suc, ◌<◌, inl, inr, ◌==◌, true, false, cond, List, [], ◌∷◌, map, length, get_or, set, refl, arith, ap, sym, ◌∙◌, subst, Option, Some, None, get_or-set_other, get_or-set_same, length-set}
use Rattle.std.proofs.lemmas.Bool.{cases_eq, cases_Bool}
use Rattle.std.proofs.lemmas.Bool.Decides.{nat_tests}
use Rattle.std.specs.Prelude.{nat_lt, ◌+◌, ◌≤◌, ◌⊎◌}
use Rattle.pm_routes.specs.Routings.{Routing}
use Rattle.pm_clp.specs.Clps.{ClpSends, Answered, ClpState, rec_at, to_agent}
use Rattle.std.proofs.lemmas.List.{map-append}
use Rattle.std.specs.Prelude.{◌++◌}
use Rattle.pm_clp.specs.Clps.{and_then}
use Rattle.pm_base.specs.declared.rows.GiveRow.{GiveRow}
use Rattle.pm_base.specs.declared.rows.Parts.{Parts}
use Rattle.pm_base.specs.declared.stamp.Line.{Line}
use Rattle.pm_base.specs.declared.stamp.Num.{Num}
use Rattle.pm_message.specs.declared.Message.{Message}
use Rattle.pm_model.specs.declared.State.{State}
use Rattle.pm_plan.specs.declared.plan.AgentRow.{AgentRow}
use Rattle.pm_plan.specs.declared.plan.Plan.{Plan}
use Rattle.pm_sim.specs.Worlds.{Mail, Posted, Process, Taken, World, home, mail, post_all, take_from, clps_of, towards, process, posted, hub_of, to_agents, no_row, no_clp}
use Rattle.pm_sim.specs.Worlds.Process.{AtClp, AtAgent}
use Rattle.pm_sim.specs.Sims.{Core, In, st}
use Rattle.pm_sim.specs.Routings.{Begun, MovesOk, stands_at, is_move, moves_var, unmoved, Fits, FitsAt, PlacesOk, QueriesOk, TreeOk, Wait, mail_to}
use Rattle.pm_sim.proofs.Arrivals.{Mailed}
use Rattle.pm_sim.proofs.Goes.{PlanOk}
use Rattle.pm_sim.proofs.Letters.{message_of, letters, Bag, sent_mail, delivered_bag, in_map, map_in, bag_map, bag_mailed}
use Rattle.pm_sim.proofs.Queries.{special, goes_plain, queries_plain}
use Rattle.pm_sim.proofs.Quiets.{tally_in, tally_none}
use Rattle.pm_base.specs.declared.stamp.Stamp.{Stamp}
use Rattle.pm_sim.specs.Sims.{tally}
use Rattle.pm_sim.proofs.Routed.{Hopes, core_neutral, core_forward}
use Rattle.pm_message.specs.declared.Message.TheVariants as message
use Rattle.pm_routes.specs.declared.way.Way.TheVariants as way
use Rattle.pm_sim.specs.Sims.{PlanIs}
use Rattle.pm_sim.specs.Worlds.{ports}

abbrev pub clp_at : World → ℕ → ClpState
clp_at w c = get_or w.clps c no_clp

abbrev pub queries_at : World → ℕ → List Registered
queries_at w c = (clp_at w c).queries

-- pend, from where the queries and the mail are
abbrev pub Pending : Plan → (ℕ → List Registered) → List Mail → Num → ℕ → Type 0
Pending p qs ms n v = Begun p qs ms n

-- what is kept true, but for what bounds say; recs are the records, wherever they are
pub record Sim (p : Plan) (q : State) (w : World) (recs : ℕ → Parts) : Type 0 where
  pub tree : TreeOk p
  pub shape : PlanIs p (length q.values)
  pub issued : List Message
  pub place : ℕ → ℕ
  pub core : Core p w.line q issued
      w.agents recs (letters w.links) (Pending p (queries_at w) (mail w.links)) (Wait p (queries_at w) (mail w.links))
  pub queries : QueriesOk p w.line issued (queries_at w) (mail w.links)
  pub places : PlacesOk p (length q.values) w.line recs place (clp_at w)
  pub moves : MovesOk p (length q.values) w.line place recs (clp_at w) (mail w.links)
  pub fits : (x : Mail) → In x (mail w.links) → Fits (clps_of p) (length q.values) x
  pub size : length w.clps ≡ clps_of p
  pub plan : (i : ℕ) → i < length w.agents → PlanOk p (length q.values) i

pub begun_plain : (p : Plan) (qs : ℕ → List Registered) (old new gone sent : List Mail) → Bag old new gone sent
    → ((x : Mail) → In x gone → special x.message ≡ false) → (n : Num) → Begun p qs old n → Begun p qs new n
begun_plain p qs old new gone sent bag away n (inl h) = inl h
begun_plain p qs old new gone sent bag away n (inr (s, k, w, i)) =
    inr (s, k, w, elim (bag.kept _ i) [ inl j ↦ absurd (let e = away _ j in cc) | inr j ↦ j ])

-- the core with other hopes
pub core_hope : (p : Plan) (l : Line) (q : State) (issued : List Message)
    (agents : List _) (recs : ℕ → Parts) (ms : List Message) (pend pend' : Num → ℕ → Type 0) (wait wait' : Num → Type 0)
    → Core p l q issued agents recs ms pend wait
    → Hopes p q issued recs pend pend' wait wait' → Core p l q issued agents recs ms pend' wait'
core_hope p l q issued agents recs ms pend pend' wait wait' core hopes =
    core_neutral p l q issued agents recs ms ms pend pend' wait wait' core hopes [] []
    (record {
      tallies = λ P. refl;
      kept = λ x i. inr i;
      from = λ x i. inl i;
      added = λ x i. absurd i;
      first = λ x i. absurd i;
    }) (λ m i. absurd i) (λ m i. absurd i)

pub in_range : {X : Type 0} (xs : List (Option X)) (v : ℕ) (x : X) → get_or xs v None ≡ Some x → v < length xs
in_range [] v x e = absurd (cc)
in_range (y ∷ ys) zero x e = omega arith
in_range (y ∷ ys) (suc v) x e = (let r = in_range ys v x e in omega arith)

-- a CLP's answer, sent to processes
pub record HubSends : Type 0 where
  pub clp : ClpState
  pub sent : List Posted

abbrev pub lift : Plan → ClpSends → HubSends
lift p r = record { clp = r.clp; sent = map (posted p) r.sent }

-- one action after another, and none
abbrev pub hub_then : HubSends → (ClpState → HubSends) → HubSends
hub_then r f = record { clp = (f r.clp).clp; sent = r.sent ++ (f r.clp).sent }

abbrev pub hub_idle : ClpState → HubSends
hub_idle s = record { clp = s; sent = [] }

pub lift_then : (p : Plan) (r : ClpSends) (f : ClpState → ClpSends)
    → lift p (and_then r f) ≡ hub_then (lift p r) (λ s. lift p (f s))
lift_then p r f = ap (λ ss. record { clp = (f r.clp).clp; sent = ss }) (map-append (posted p) r.sent (f r.clp).sent)

abbrev pub to_agent_of : Plan → ℕ → GiveRow → Posted
to_agent_of p c g = posted p (to_agent (hub_of p c) g)

pub process_clp : (p : Plan) (d : ℕ) → d < clps_of p → process p d ≡ AtClp d
process_clp p d lt = (let e : nat_lt d (clps_of p) ≡ true = grind (arith, nat_tests, lt) in rw e refl)

pub process_agent : (p : Plan) (a : ℕ) → process p (clps_of p + a) ≡ AtAgent a
process_agent p a =
    (let e : nat_lt (clps_of p + a) (clps_of p) ≡ false = grind (arith, nat_tests) in rw e (ap AtAgent (omega arith)))

pub towards_at : (p : Plan) (c i : ℕ) (rs : List AgentRow) (a : ℕ)
    → a < length rs → get_or (to_agents p c i rs) a 0 ≡ towards p c (i + a) (get_or rs a no_row).home
towards_at p c i [] a lt = absurd (omega arith)
towards_at p c i (r ∷ rs) zero lt = ap (λ z. towards p c z r.home) (omega arith)
towards_at p c i (r ∷ rs) (suc a) lt =
    towards_at p c (suc i) rs a (omega arith) ∙ ap (λ z. towards p c z (get_or rs a no_row).home) (omega arith)

towards_none : (p : Plan) (c i : ℕ) (rs : List AgentRow) (a : ℕ) → length rs ≤ a → get_or (to_agents p c i rs) a 0 ≡ 0
towards_none p c i [] a le = refl
towards_none p c i (r ∷ rs) zero le = absurd (omega arith)
towards_none p c i (r ∷ rs) (suc a) le = towards_none p c (suc i) rs a (omega arith)

abbrev pub set_rec : (ℕ → Parts) → ℕ → Parts → ℕ → Parts
set_rec recs v r u = cond (u == v) r (recs u)

pub set_here : (recs : ℕ → Parts) (v : ℕ) (r : Parts) → set_rec recs v r v ≡ r
set_here recs v r = (let e : (v == v) ≡ true = grind (arith, nat_tests) in rw e)

pub set_there : (recs : ℕ → Parts) (v : ℕ) (r : Parts) (u : ℕ) → (u ≡ v → ⊥) → set_rec recs v r u ≡ recs u
set_there recs v r u ne = (let e : (u == v) ≡ false = grind (arith, nat_tests, ne) in rw e)

-- CLP c's record of v has become r
pub places_set : (p : Plan) (n : ℕ) (l : Line) (recs : ℕ → Parts) (place : ℕ → ℕ) (cs cs' : ℕ → ClpState)
    (c v : ℕ) (r0 r : Parts) → c < clps_of p → PlacesOk p n l recs place cs → rec_at (cs c).records v ≡ Some r0
    → (cs' c).line ≡ (cs c).line → (cs' c).routing.ways ≡ (cs c).routing.ways
    → (cs' c).routing.ports ≡ (cs c).routing.ports → (cs' c).records ≡ set (cs c).records v (Some r)
    → ((d : ℕ) → (d ≡ c → ⊥) → cs' d ≡ cs d) → PlacesOk p n l (set_rec recs v r) place cs'
places_set p n l recs place cs cs' c v r0 r lc ok old eline eways eports erecs there =
    let lv = in_range (cs c).records v r0 old in
    let now : rec_at (cs' c).records v ≡ Some r =
    ap (λ z. get_or z v None) erecs ∙ get_or-set_same (cs c).records v (Some r) None lv in
    let other : (u : ℕ) → (u ≡ v → ⊥) → rec_at (cs' c).records u ≡ rec_at (cs c).records u =
    λ u ne. ap (λ z. get_or z u None) erecs ∙ get_or-set_other (cs c).records v u (Some r) None ne in
    let pv = (ok.at c v r0 lc old).0 in
    record {
      line = λ d lt. elim (cases_eq d c) [
        | inl e ↦ subst (λ z. (cs' z).line ≡ l) (sym e) (eline ∙ ok.line c lc)
        | inr ne ↦ subst (λ (z : ClpState). z.line ≡ l) (sym (there d ne)) (ok.line d lt)
      ];
      ports_are = λ d lt. elim (cases_eq d c) [
        | inl e ↦ subst (λ z. (cs' z).routing.ports ≡ ports p z) (sym e) (eports ∙ ok.ports_are c lc)
        | inr ne ↦ subst (λ (z : ClpState). z.routing.ports ≡ ports p d) (sym (there d ne)) (ok.ports_are d lt)
      ];
      here = λ d u lt lu e. elim (cases_eq d c) [
        | inl f ↦ subst (λ z. rec_at (cs' z).records u ≡ Some (set_rec recs v r u)) (sym f) (elim (cases_eq u v) [
          | inl g ↦ subst (λ z. rec_at (cs' c).records z ≡ Some (set_rec recs v r z))
              (sym g) (now ∙ ap Some (sym (set_here recs v r)))
          | inr ne ↦ other u ne ∙ (ok.here c u lc lu (ap (λ z. get_or z u way.Here) (sym eways) ∙ (ap
              (λ z. get_or (cs' z).routing.ways u way.Here) (sym f) ∙ e)) ∙ ap Some (sym (set_there recs v r u ne)))
        ])
        | inr nd ↦ (let same = there d nd in
            let h = ok.here d u lt lu (ap (λ (z : ClpState). get_or z.routing.ways u way.Here) (sym same) ∙ e) in
            ap (λ (z : ClpState). rec_at z.records u) same ∙ (h
            ∙ ap Some (sym (set_there recs v r u (λ g. nd (sym (ok.at d u (recs u) lt h).0 ∙ (ap place g ∙ pv)))))))
      ];
      port = λ d u e lt lu h. elim (cases_eq d c) [
        | inl f ↦ ok.port c u e lc lu
            (ap (λ z. get_or z u way.Here) (sym eways) ∙ (ap (λ z. get_or (cs' z).routing.ways u way.Here) (sym f) ∙ h))
        | inr nd ↦ ok.port d u e lt lu (ap (λ (z : ClpState). get_or z.routing.ways u way.Here) (sym (there d nd)) ∙ h)
      ];
      at = λ d u x lt e. elim (cases_eq d c) [
        | inl f ↦ (let e' : rec_at (cs' c).records u ≡ Some x =
            ap (λ z. rec_at (cs' z).records u) (sym f) ∙ e in elim (cases_eq u v) [
              | inl g ↦ (
                ap place g ∙ (pv ∙ sym f),
                some_same x r (sym e' ∙ (ap (λ z. rec_at (cs' c).records z) g ∙ now))
                    ∙ sym (ap (set_rec recs v r) g ∙ set_here recs v r),
              )
              | inr ne ↦
                  (let o = ok.at c u x lc (sym (other u ne) ∙ e') in (o.0 ∙ sym f, o.1 ∙ sym (set_there recs v r u ne)))
            ])
        | inr nd ↦ (let o = ok.at d u x lt (ap (λ (z : ClpState). rec_at z.records u) (sym (there d nd)) ∙ e) in
            (o.0, o.1 ∙ sym (set_there recs v r u (λ g. nd (sym o.0 ∙ (ap place g ∙ pv))))))
      ];
      records_len = λ d lt. elim (cases_eq d c) [
        | inl f ↦ subst (λ z. length (cs' z).records ≡ n)
            (sym f) (ap length erecs ∙ (length-set (cs c).records v (Some r) ∙ ok.records_len c lc))
        | inr nd ↦ ap (λ (z : ClpState). length z.records) (there d nd) ∙ ok.records_len d lt
      ];
      ways_len = λ d lt. elim (cases_eq d c) [
        | inl f ↦ subst (λ z. length (cs' z).routing.ways ≡ n) (sym f) (ap length eways ∙ ok.ways_len c lc)
        | inr nd ↦ ap (λ (z : ClpState). length z.routing.ways) (there d nd) ∙ ok.ways_len d lt
      ];
    }
  where
    some_same : (x y : Parts) → Some x ≡ Some y → x ≡ y
    some_same x y e = cc

-- the records, ways and lines are as before
pub places_same : (p : Plan) (n : ℕ) (l : Line) (recs : ℕ → Parts) (place : ℕ → ℕ) (cs cs' : ℕ → ClpState) → PlacesOk
    p n l recs place cs → ((d : ℕ) → ((cs' d).line ≡ (cs d).line) × ((cs' d).routing.ways ≡ (cs d).routing.ways)
    × ((cs' d).routing.ports ≡ (cs d).routing.ports) × ((cs' d).records ≡ (cs d).records))
    → PlacesOk p n l recs place cs'
places_same p n l recs place cs cs' ok same = record {
  line = λ c lt. (same c).0 ∙ ok.line c lt;
  ports_are = λ c lt. (same c).2 ∙ ok.ports_are c lt;
  here = λ c v lt lv e. ap (λ z. rec_at z v) (same c).3
      ∙ ok.here c v lt lv (ap (λ z. get_or z v way.Here) (sym (same c).1) ∙ e);
  port = λ c v d lt lv e. ok.port c v d lt lv (ap (λ z. get_or z v way.Here) (sym (same c).1) ∙ e);
  at = λ c v r lt e. ok.at c v r lt (ap (λ z. rec_at z v) (sym (same c).3) ∙ e);
  records_len = λ c lt. ap length (same c).3 ∙ ok.records_len c lt;
  ways_len = λ c lt. ap length (same c).1 ∙ ok.ways_len c lt;
}

-- a letter that is no Move isn't one of v
pub unmoved_not : (v : ℕ) (m : Message) → unmoved m ≡ true → moves_var v m ≡ false
unmoved_not v (message.Move u s r) e = absurd (cc)
unmoved_not v (message.Wake n s) e = refl
unmoved_not v (message.Ask n s q) e = refl
unmoved_not v (message.Put n t u x) e = refl
unmoved_not v (message.Cut n t u) e = refl
unmoved_not v (message.Give g) e = refl
unmoved_not v (message.Finish n s) e = refl
unmoved_not v (message.Grow k s u w) e = refl

-- moving records, where no Move came or went and no record left or came
pub moves_keep : (p : Plan) (n : ℕ) (l : Line) (place : ℕ → ℕ)
    (recs recs' : ℕ → Parts) (cs cs' : ℕ → ClpState) (old new gone sent : List Mail) → Bag old new gone sent
    → ((x : Mail) → In x gone → unmoved x.message ≡ true) → ((x : Mail) → In x sent → unmoved x.message ≡ true)
    → ((d v : ℕ) → stands_at (rec_at (cs' d).records v) ≡ stands_at (rec_at (cs d).records v))
    → ((v : ℕ) → v < n → stands_at (rec_at (cs (place v)).records v) ≡ false → recs' v ≡ recs v)
    → MovesOk p n l place recs cs old → MovesOk p n l place recs' cs' new
moves_keep p n l place recs recs' cs cs' old new gone sent bag away came there same ok = record {
  placed = λ v lv. (let o = ok.placed v lv in
      let t : tally (is_move v) new ≡ tally (is_move v) old = omega (
        arith,
        bag.tallies (is_move v),
        tally_none (is_move v) gone (λ x i. unmoved_not v x.message (away x i)),
        tally_none (is_move v) sent (λ x i. unmoved_not v x.message (came x i)),
      ) in (
        o.0,
        elim o.1 [
          | inl a ↦ inl (there (place v) v ∙ a.0, t ∙ a.1)
          | inr a ↦ inr (there (place v) v ∙ a.0, t ∙ a.1)
        ],
      ));
  moves = λ a f v s r i. elim (bag.from _ i) [
    | inr j ↦ absurd (let e = came _ j in cc)
    | inl j ↦ (let o =
        ok.moves a f v s r j in (o.0, o.1 ∙ sym (same v o.0 (moving v o.0 a f s r j)), o.2, o.3, o.4, o.5, o.6, o.7))
  ];
}
  where
    moving : (v : ℕ) → v < n → (a f : Process) (s : Stamp) (r : Parts)
        → In (mail_to a f (message.Move v s r)) old → stands_at (rec_at (cs (place v)).records v) ≡ false
    moving v lv a f s r j = elim (ok.placed v lv).1 [
      | inr h ↦ h.0
      | inl h ↦ absurd (let t = tally_in
          (is_move v) old _ j (let e : (v == v) ≡ true = grind (arith, nat_tests) in e) in let z = h.1 in omega arith)
    ]

-- a delivery at CLP c
module _ (p : Plan)
    (q : State) (w : World) (recs : ℕ → Parts) (sim : Sim p q w recs) (c : ℕ) (lc : c < clps_of p) (from : Process)
    (m : Message) (t : Taken) (e : take_from (AtClp c) from w.links ≡ Some t) (em : t.message ≡ m) where
  abbrev pub N : ℕ
  N = clps_of p

  abbrev pub n : ℕ
  n = length q.values

  abbrev pub s : ClpState
  s = clp_at w c

  abbrev pub landed : HubSends → World
  landed r = record w { clps = set w.clps c r.clp; links = post_all (AtClp c) r.sent t.links }

  pub bag : (r : HubSends)
      → Bag (mail w.links) (mail (landed r).links) (mail_to (AtClp c) from m ∷ []) (sent_mail (AtClp c) r.sent)
  bag r = subst (λ z. Bag (mail w.links) (mail (landed r).links)
      (mail_to (AtClp c) from z ∷ []) (sent_mail (AtClp c) r.sent)) em (delivered_bag (AtClp c) from w.links t r.sent e)

  pub mail_in : In (mail_to (AtClp c) from m) (mail w.links)
  mail_in = (bag (record { clp = s; sent = [] })).first _ (inl refl)

  pub letter_in : In m (letters w.links)
  letter_in = map_in message_of (mail w.links) _ mail_in

  pub clp_here : (r : HubSends) → clp_at (landed r) c ≡ r.clp
  clp_here r = get_or-set_same w.clps c r.clp no_clp (let o = sim.size in omega arith)

  pub clp_there : (r : HubSends) (d : ℕ) → (d ≡ c → ⊥) → clp_at (landed r) d ≡ clp_at w d
  clp_there r d ne = get_or-set_other w.clps c d r.clp no_clp ne

  -- what was sent fits
  pub fits_after : (r : HubSends) → ((x : Posted) → In x r.sent → FitsAt N n x.to (AtClp c) x.message)
      → (x : Mail) → In x (mail (landed r).links) → Fits N n x
  fits_after r ok x i = elim ((bag r).from x i) [
    | inl j ↦ sim.fits x j
    | inr j ↦ (let o = in_map (λ (z : Posted). mail_to z.to (AtClp c) z.message) r.sent x j in
        subst (λ z. Fits N n z) (sym o.2) (ok o.0 o.1))
  ]

  abbrev pub pend_of : World → Num → ℕ → Type 0
  pend_of v = Pending p (queries_at v) (mail v.links)

  abbrev pub wait_of : World → Num → Type 0
  wait_of v = Wait p (queries_at v) (mail v.links)

  some_there : (o : Option Parts) → stands_at o ≡ true → (y : Parts) × (o ≡ Some y)
  some_there None e = absurd (cc)
  some_there (Some y) e = (y, refl)

  pub build : (r : HubSends) (recs' : ℕ → Parts)
      → Core p w.line q sim.issued w.agents recs' (letters (landed r).links) (pend_of (landed r)) (wait_of (landed r))
      → QueriesOk p w.line sim.issued (queries_at (landed r)) (mail (landed r).links) → PlacesOk p n w.line
      recs' sim.place (clp_at (landed r)) → ((x : Posted) → In x r.sent → FitsAt N n x.to (AtClp c) x.message)
      → unmoved m ≡ true → ((x : Posted) → In x r.sent → unmoved x.message ≡ true)
      → ((v : ℕ) → stands_at (rec_at r.clp.records v) ≡ stands_at (rec_at s.records v))
      → ((v : ℕ) → stands_at (rec_at s.records v) ≡ false → recs' v ≡ recs v)
      → Sim p q (landed r) recs'
  build r recs' core queries places fits um us st same = record {
    tree = sim.tree;
    shape = sim.shape;
    issued = sim.issued;
    place = sim.place;
    core = core;
    queries = queries;
    places = places;
    moves = moves_keep p n w.line sim.place recs recs' (clp_at w) (clp_at (landed r))
        (mail w.links) (mail (landed r).links) (mail_to (AtClp c) from m ∷ []) (sent_mail (AtClp c) r.sent) (bag r)
        (λ x i. elim i [ inl f ↦ ap (λ (z : Mail). unmoved z.message) f ∙ um | inr b ↦ absurd b ])
        (λ x i. (let o = in_map (λ (z : Posted). mail_to z.to (AtClp c) z.message) r.sent x i in
        ap (λ (z : Mail). unmoved z.message) o.2 ∙ us o.0 o.1))
        (λ d v. elim (cases_eq d c) [
          | inl f ↦ subst
              (λ z. stands_at (rec_at (clp_at (landed r) z).records v) ≡ stands_at (rec_at (clp_at w z).records v))
              (sym f) (ap (λ (z : ClpState). stands_at (rec_at z.records v)) (clp_here r) ∙ st v)
          | inr ne ↦ ap (λ (z : ClpState). stands_at (rec_at z.records v)) (clp_there r d ne)
        ])
        (λ v lv none. same v (elim (cases_Bool (stands_at (rec_at s.records v))) [
          | inr f ↦ f
          | inl f ↦ absurd (let o = some_there (rec_at s.records v) f in let pc =
              (sim.places.at c v o.0 lc o.1).0 in let g : stands_at (rec_at s.records v) ≡ false =
              subst (λ z. stands_at (rec_at (clp_at w z).records v) ≡ false) pc none in cc)
        ]))
        sim.moves;
    fits = fits_after r fits;
    size = length-set w.clps c r.clp ∙ sim.size;
    plan = sim.plan;
  }

  -- the queries stay, and neither m nor what is sent is special
  module _ (r : HubSends) (same : r.clp.queries ≡ s.queries)
      (plain : special m ≡ false) (plains : (x : Posted) → In x r.sent → special x.message ≡ false) where
    queries_same : (d : ℕ) → queries_at (landed r) d ≡ queries_at w d
    queries_same d = elim (cases_eq d c) [
      | inl f ↦ subst
          (λ z. queries_at (landed r) z ≡ queries_at w z) (sym f) (ap (λ (z : ClpState). z.queries) (clp_here r) ∙ same)
      | inr ne ↦ ap (λ (z : ClpState). z.queries) (clp_there r d ne)
    ]

    queries_fun : queries_at w ≡ queries_at (landed r)
    queries_fun = λ i d. (sym (queries_same d)) i

    away : (x : Mail) → In x (mail_to (AtClp c) from m ∷ []) → special x.message ≡ false
    away x i = elim i [ inl f ↦ ap (λ (z : Mail). special z.message) f ∙ plain | inr j ↦ absurd j ]

    came : (x : Mail) → In x (sent_mail (AtClp c) r.sent) → special x.message ≡ false
    came x i = (let o = in_map (λ (z : Posted). mail_to z.to (AtClp c) z.message) r.sent x i in
        ap (λ (z : Mail). special z.message) o.2 ∙ plains o.0 o.1)

    pub plain_queries : QueriesOk p w.line sim.issued (queries_at (landed r)) (mail (landed r).links)
    plain_queries = subst (λ z. QueriesOk p w.line sim.issued z (mail (landed r).links)) queries_fun
        (queries_plain p w.line
        sim.tree sim.issued (queries_at w) (mail w.links) (mail (landed r).links) _ _ (bag r) away came sim.queries)

    pub plain_hopes : (recs' : ℕ → Parts)
        → Hopes p q sim.issued recs' (pend_of w) (pend_of (landed r)) (wait_of w) (wait_of (landed r))
    plain_hopes recs' = record {
      asks = λ k t x u v i lt ec h. inl (subst (λ z. Begun p z (mail (landed r).links) k)
          queries_fun (begun_plain p (queries_at w) (mail w.links) (mail (landed r).links) _ _ (bag r) away k h));
      ends = λ k h.
          subst (λ z. Wait p z (mail (landed r).links) k) queries_fun (goes_plain p w.line sim.tree (queries_at w)
          (mail w.links) (mail (landed r).links) _ _ (bag r) away k (home p k.agent) (AtAgent k.agent) h);
    }

  -- m goes on to another process
  pub forwarded : (to : Process) → special m ≡ false → unmoved m ≡ true → FitsAt N n to (AtClp c) m
      → Sim p q (landed (record { clp = s; sent = record { to = to; message = m } ∷ [] })) recs
  forwarded to plain um fit =
      let r : HubSends = record { clp = s; sent = record { to = to; message = m } ∷ [] } in
      let only : (x : Posted) → In x r.sent → x ≡ record { to = to; message = m } =
      λ x i. elim i [ inl f ↦ f | inr j ↦ absurd j ] in
      let plains : (x : Posted) → In x r.sent → special x.message ≡ false =
      λ x i. ap (λ (z : Posted). special z.message) (only x i) ∙ plain in
      build r recs
      (core_forward p w.line q sim.issued w.agents recs (letters w.links) (letters (landed r).links) (pend_of w)
      (pend_of (landed r)) (wait_of w) (wait_of (landed r)) sim.core (plain_hopes r refl plain plains recs) m
      (bag_map message_of (mail w.links) (mail (landed r).links) _ _ (bag r)))
      (plain_queries r refl plain plains)
      (places_same p n w.line recs sim.place (clp_at w) (clp_at (landed r)) sim.places (λ d. elim (cases_eq d c) [
        | inl f ↦ subst (λ z. ((clp_at (landed r) z).line ≡ (clp_at w z).line)
            × ((clp_at (landed r) z).routing.ways ≡ (clp_at w z).routing.ways) × ((clp_at (landed r) z).routing.ports
            ≡ (clp_at w z).routing.ports) × ((clp_at (landed r) z).records ≡ (clp_at w z).records)) (sym f) (
              ap (λ (z : ClpState). z.line) (clp_here r),
              ap (λ (z : ClpState). z.routing.ways) (clp_here r),
              ap (λ (z : ClpState). z.routing.ports) (clp_here r),
              ap (λ (z : ClpState). z.records) (clp_here r),
            )
        | inr ne ↦ (
          ap (λ (z : ClpState). z.line) (clp_there r d ne),
          ap (λ (z : ClpState). z.routing.ways) (clp_there r d ne),
          ap
              (λ (z : ClpState). z.routing.ports) (clp_there r d ne),
          ap (λ (z : ClpState). z.records) (clp_there r d ne),
        )
      ]))
      (λ x i. subst (λ (z : Posted). FitsAt N n z.to (AtClp c) z.message) (sym (only x i)) fit)
      um (λ x i. ap (λ (z : Posted). unmoved z.message) (only x i) ∙ um) (λ v. refl) (λ v h. refl)

  -- towards an agent it fits
  pub toward_fits : (g : GiveRow) → FitsAt N n (to_agent_of p c g).to (AtClp c) (message.Give g)
  toward_fits g = by (cases_lt g.num.agent (length p.agents))
    where
      a : ℕ
      a = g.num.agent

      cases_lt : (x y : ℕ) → (x < y) ⊎ (y ≤ x)
      cases_lt x y = grind arith

      by : (g.num.agent < length p.agents) ⊎ (length p.agents ≤ g.num.agent)
          → FitsAt N n (to_agent_of p c g).to (AtClp c) (message.Give g)
      by (inr le) = subst
          (λ z. FitsAt N n (process p z) (AtClp c) (message.Give g)) (sym (towards_none p c 0 p.agents g.num.agent le))
          (subst (λ z. FitsAt N n z (AtClp c) (message.Give g))
          (sym (process_clp p 0 (omega (arith, lc)))) (omega (arith, lc), tt))
      by (inl lt) = subst
          (λ z. FitsAt N n (process p z) (AtClp c) (message.Give g)) (sym (towards_at p c 0 p.agents g.num.agent lt
          ∙ (let z0 : 0 + g.num.agent ≡ g.num.agent = omega arith in ap (λ z. towards p c z (home p g.num.agent)) z0)))
          (elim (cases_eq c (home p g.num.agent)) [
            | inl f ↦ (let b : (c == home p g.num.agent) ≡ true = grind (arith, nat_tests, f) in
                rw b (subst (λ z. FitsAt N n z (AtClp c) (message.Give g)) (sym (process_agent p g.num.agent)) refl))
            | inr ne ↦ (let b : (c == home p g.num.agent) ≡ false = grind (arith, nat_tests, ne) in
                let lt' =
                sim.tree.inside c _ (sim.tree.hop_port c (home p g.num.agent) lc (sim.tree.homes g.num.agent) ne) in
                rw b (subst (λ z. FitsAt N n z (AtClp c) (message.Give g)) (sym (process_clp p _ lt')) (lt', tt)))
          ])

  -- the record of v is here, and takes m
  module _ (v : ℕ)
      (f : Parts → Answered) (rt : Routing) (rt_ways : rt.ways ≡ s.routing.ways) (rt_ports : rt.ports ≡ s.routing.ports)
      (here : rec_at s.records v ≡ Some (recs v)) (plain : special m ≡ false) (um : unmoved m ≡ true) where
    abbrev pub ans : Answered
    ans = f (recs v)

    -- what happens: the record is set, its gives are sent
    abbrev pub result : HubSends
    result = record {
      clp = record {
        records = set s.records v (Some ans.rec);
        routing = rt;
        line = s.line;
        queries = s.queries;
        bound = s.bound;
        told = s.told;
      };
      sent = map (to_agent_of p c) ans.gives;
    }

    gives_of : (gs : List GiveRow) (x : Posted)
        → In x (map (to_agent_of p c) gs) → (g : GiveRow) × (x ≡ to_agent_of p c g)
    gives_of gs x i = (let r = in_map (to_agent_of p c) gs x i in (r.0, r.2))

    letters_given : (gs : List GiveRow)
        → map message_of (sent_mail (AtClp c) (map (to_agent_of p c) gs)) ≡ map message.Give gs
    letters_given [] = refl
    letters_given (g ∷ gs) = ap (λ z. message.Give g ∷ z) (letters_given gs)

    plains : (x : Posted) → In x result.sent → special x.message ≡ false
    plains x i = (let g = gives_of ans.gives x i in ap (λ (z : Posted). special z.message) g.1)

    pub mailed : Mailed (letters w.links) (letters (landed result).links) m (map message.Give ans.gives)
    mailed = bag_mailed _ _ _ m (subst (λ z. Bag (letters w.links) (letters (landed result).links) (m ∷ []) z)
        (letters_given ans.gives) (bag_map message_of (mail w.links) (mail (landed result).links) _ _ (bag result)))

    pub record_taken : Core p w.line q sim.issued w.agents (set_rec recs v ans.rec)
        (letters (landed result).links) (pend_of w) (wait_of w) → Sim p q (landed result) (set_rec recs v ans.rec)
    record_taken core = build result (set_rec recs v ans.rec)
        (core_hope p w.line q sim.issued
        w.agents (set_rec recs v ans.rec) (letters (landed result).links) (pend_of w) (pend_of (landed result))
        (wait_of w) (wait_of (landed result)) core (plain_hopes result refl plain plains (set_rec recs v ans.rec)))
        (plain_queries result refl plain plains)
        (places_set
        p n w.line recs sim.place (clp_at w) (clp_at (landed result)) c v (recs v) ans.rec lc sim.places here
        (ap (λ (z : ClpState). z.line) (clp_here result)) (ap (λ (z : ClpState). z.routing.ways) (clp_here result)
        ∙ rt_ways) (ap (λ (z : ClpState). z.routing.ports) (clp_here result) ∙ rt_ports)
        (ap (λ (z : ClpState). z.records) (clp_here result)) (clp_there result))
        (λ x i. (let g = gives_of ans.gives x i in
        subst (λ (z : Posted). FitsAt N n z.to (AtClp c) z.message) (sym g.1) (toward_fits g.0)))
        um (λ x i. (let g = gives_of ans.gives x i in ap (λ (z : Posted). unmoved z.message) g.1))
        (λ u. elim (cases_eq u v) [
          | inl e' ↦ subst
              (λ z. stands_at (rec_at (set s.records v (Some ans.rec)) z) ≡ stands_at (rec_at s.records z)) (sym e')
              (ap stands_at (get_or-set_same s.records v (Some ans.rec) None (in_range s.records v (recs v) here))
              ∙ sym (ap stands_at here))
          | inr ne ↦ ap stands_at (get_or-set_other s.records v u (Some ans.rec) None ne)
        ])
        (λ u none. set_there recs v ans.rec u (λ e'. let g : stands_at (rec_at s.records v) ≡ false =
        subst (λ z. stands_at (rec_at s.records z) ≡ false) e' none in let h = ap stands_at here in cc))
