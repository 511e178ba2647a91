-- A record comes to a CLP.
use Rattle.pm_queries.specs.Queries.{ask_of}
use Rattle.pm_queries.specs.declared.registered.Sent.{Sent}
use Rattle.pm_queries.specs.declared.registered.Registered.{Registered}
use Rattle.pm_tables.specs.Tables.{grow_periods}
use Rattle.pm_alp.specs.declared.agent.Agent.{Agent}
use Rattle.pm_sim.proofs.Forwards.{letters_posted}
use Rattle.pm_clp.specs.Clps.{and_then, ClpSends, to_agent, watch_if, Answered, ClpState, rec_at, take_watch, on_record, at_record, clp_after}
use Rattle.pm_sim.proofs.Places.{HubSends, lift, to_agent_of, clp_at, Sim, in_range, set_rec, set_here, set_there, landed, mail_in, clp_here, clp_there, fits_after, pend_of, wait_of, plain_queries, plain_hopes, toward_fits, bag}
use Rattle.pm_routes.specs.Routings.{Routing, arrived}
use Rattle.pm_sim.specs.Worlds.{number, hub_of, posted, ports, Mail, Posted, Process, Taken, World, mail, take_from, clps_of}
use Rattle.pm_sim.proofs.Movings.{Watches}
use Rattle.pm_sim.proofs.Queries.{special}
use Rattle.std.proofs.lemmas.Bool.{cases_eq, cases_Bool}
use Rattle.std.proofs.Common.{◌≡◌, ℕ, ◌+◌, ◌<◌, ◌⊎◌, inl, inr, ◌==◌, true, false, List, [], ◌∷◌, ◌++◌, map, length, get_or, set, refl, arith, ap, sym, ◌∙◌, subst, Some, None, get_or-set_other, get_or-set_same, length-set, append_assoc, append-nil}
use Rattle.std.proofs.lemmas.Bool.Decides.{nat_tests}
use Rattle.std.proofs.lemmas.List.{map-append}
use Rattle.pm_base.specs.declared.rows.GiveRow.{GiveRow}
use Rattle.pm_base.specs.declared.rows.Parts.{Parts}
use Rattle.pm_base.specs.declared.stamp.Line.{Line}
use Rattle.pm_base.specs.declared.stamp.Num.{Num}
use Rattle.pm_base.specs.declared.stamp.Stamp.{Stamp}
use Rattle.pm_message.specs.declared.Message.{Message}
use Rattle.pm_model.specs.declared.State.{State}
use Rattle.pm_periods.specs.Records.{settled}
use Rattle.pm_plan.specs.declared.plan.Plan.{Plan}
use Rattle.pm_sim.specs.Worlds.Process.{AtClp}
use Rattle.pm_sim.specs.Sims.{Core, In, NotPast, class_at, one_if, tally, vars_of}
use Rattle.pm_sim.specs.Routings.{FitsAt, MovesOk, PlacesOk, is_move, mail_to, stands_at, unmoved}
use Rattle.pm_sim.proofs.Letters.{message_of, letters, Bag, sent_mail, in_map, bag_map, bag_split}
use Rattle.pm_sim.proofs.Quiets.{tally_none, tally_in}
use Rattle.pm_sim.proofs.Routed.{neutral, core_neutral, core_watch}
use Rattle.pm_sim.proofs.Watches.{sent_letters}
use Rattle.pm_message.specs.declared.Message.TheVariants as message
use Rattle.pm_routes.specs.declared.way.Way.TheVariants as way
use Rattle.pm_clp.specs.Clps.{queries_watch}
use Rattle.pm_sim.proofs.Places.{unmoved_not}
use Rattle.pm_periods.specs.Periods.{periods_from}

-- the core, where the record of v watches these queries
module _ (p : Plan) (l : Line) (q : State) (issued : List Message)
    (agents : List Agent) (pend : Num → ℕ → Type 0) (wait : Num → Type 0) (c v : ℕ) (lv : v < vars_of p) where
  pub record Cored (recs : ℕ → Parts) (old : List Message) (r : ClpSends) : Type 0 where
    pub recs' : ℕ → Parts
    pub old' : List Message
    pub core : Core p l q issued agents recs' old' pend wait
    pub bag : (new gone fw : List Message) → Bag old new gone (sent_letters r.sent ++ fw) → Bag old' new gone fw
    pub at : rec_at r.clp.records v ≡ Some (recs' v)
    pub same : (u : ℕ) → (u ≡ v → ⊥) → recs' u ≡ recs u

  give_letters : (gs : List GiveRow) → sent_letters (map (to_agent (hub_of p c)) gs) ≡ map message.Give gs
  give_letters [] = refl
  give_letters (g ∷ gs) = ap (λ y. message.Give g ∷ y) (give_letters gs)

  pub core_queries : (rs : List Registered) → ((r : Registered) → In r rs → In (ask_of r) issued × NotPast l r.stamp)
      → (recs : ℕ → Parts) (old : List Message)
      → Core p l q issued agents recs old pend wait → (s0 : ClpState) → rec_at s0.records v ≡ Some (recs v)
      → Cored recs old (queries_watch (hub_of p c) v rs s0)
  core_queries [] known recs old core s0 e =
      record { recs' = recs; old' = old; core = core; bag = λ new gone fw b. b; at = e; same = λ u n. refl }
  core_queries (r ∷ rs) known recs old core s0 e = elim (cases_Bool (class_at p v == r.class)) [
    | inr f ↦ (let again = core_queries rs (λ x i. known x (inr i)) recs old core s0 e in
        subst
        (λ b. Cored recs old (and_then (watch_if (hub_of p c) b v r s0) (queries_watch (hub_of p c) v rs))) (sym f)
        (record {
          recs' = again.recs';
          old' = again.old';
          core = again.core;
          bag = again.bag;
          at = again.at;
          same = again.same;
        }))
    | inl f ↦ (let a : Answered = take_watch v r.num r.stamp r.window (recs v) in
        let r1 : ClpSends = on_record (hub_of p c) v (take_watch v r.num r.stamp r.window) (Some (recs v)) s0 in
        let new : ℕ → Parts = set_rec recs v a.rec in
        let kn = known r (inl refl) in
        let ek : class_at p v ≡ r.class = grind (arith, nat_tests, f) in
        let one : Core p l q issued agents new (map message.Give a.gives ++ old) pend wait =
        core_watch p l q issued agents recs new old pend wait
        core v r.num r.stamp r.class r.window kn.0 kn.1 (lv, ek) (set_here recs v a.rec) (set_there recs v a.rec) in
        let now : rec_at r1.clp.records v ≡ Some (new v) = get_or-set_same
        s0.records v (Some a.rec) None (in_range s0.records v (recs v) e) ∙ ap Some (sym (set_here recs v a.rec)) in
        let again = core_queries rs (λ x i. known x (inr i)) new (map message.Give a.gives ++ old) one r1.clp now in
        let is : at_record (hub_of p c) v (take_watch v r.num r.stamp r.window) s0 ≡ r1 =
        ap (λ o. on_record (hub_of p c) v (take_watch v r.num r.stamp r.window) o s0) e in
        subst
        (λ b. Cored recs old (and_then (watch_if (hub_of p c) b v r s0) (queries_watch (hub_of p c) v rs))) (sym f)
        (subst (λ z. Cored recs old (and_then z (queries_watch (hub_of p c) v rs))) (sym is) (record {
          recs' = again.recs';
          old' = again.old';
          core = again.core;
          bag = λ nw gone fw b. again.bag nw gone fw (bag_split
              old nw gone (map message.Give a.gives) (sent_letters (queries_watch (hub_of p c) v rs r1.clp).sent ++ fw)
              (subst (λ y. Bag old nw gone (y ++ (sent_letters (queries_watch (hub_of p c) v rs r1.clp).sent ++ fw)))
              (give_letters a.gives)
              (subst (Bag old nw gone) (ap (λ y. y ++ fw) (map-append (λ (y : Sent). y.message)
              (map (to_agent (hub_of p c)) a.gives) (queries_watch (hub_of p c) v rs r1.clp).sent)
              ∙ append_assoc (sent_letters (map (to_agent (hub_of p c)) a.gives))
              (sent_letters (queries_watch (hub_of p c) v rs r1.clp).sent) fw) b)));
          at = again.at;
          same = λ u n. again.same u n ∙ set_there recs v a.rec u n;
        })))
  ]

-- the CLP with the record, before its queries watch it
abbrev pub come_to : Plan → ℕ → Process → ℕ → Parts → ClpState → ClpState
come_to p c from v r0 s = record s {
  records = set s.records v (Some (settled r0));
  routing = arrived s.routing v;
  told = grow_periods (ports p c) (number p from) (class_at p v) (periods_from (settled r0) None) s.told;
}

-- there is room for the record that a Move brings
pub move_size : (p : Plan) (q : State) (w : World) (recs : ℕ → Parts) (sim : Sim p q w recs) (c : ℕ)
    → c < clps_of p → (from : Process) (v : ℕ) (z : Stamp) (r0 : Parts)
    → In (mail_to (AtClp c) from (message.Move v z r0)) (mail w.links) → v < length (clp_at w c).records
move_size p q w recs sim c lc from v z r0 i =
    (let a = (sim.moves.moves (AtClp c) from v z r0 i).0 in let b = sim.places.records_len c lc in omega arith)

module _ (p : Plan) (q : State) (w : World)
    (recs : ℕ → Parts) (sim : Sim p q w recs) (c : ℕ) (lc : c < clps_of p) (from : Process) (v : ℕ) (z : Stamp)
    (r0 : Parts) (t : Taken) (e : take_from (AtClp c) from w.links ≡ Some t) (em : t.message ≡ message.Move v z r0)
    (wt : Watches p c v (come_to p c from v r0 (clp_at w c)) (settled r0)
    (clp_at w c).queries (clp_after (hub_of p c) (number p from) (message.Move v z r0) (clp_at w c))) where
  abbrev N : ℕ
  N = clps_of p

  abbrev n : ℕ
  n = length q.values

  abbrev s : ClpState
  s = clp_at w c

  abbrev m : Message
  m = message.Move v z r0

  abbrev r0s : ClpSends
  r0s = clp_after (hub_of p c) (number p from) m s

  abbrev r : HubSends
  r = lift p r0s

  abbrev w' : World
  w' = landed p q w recs sim c lc from m t e em r

  abbrev recs' : ℕ → Parts
  recs' = set_rec recs v wt.y

  mail0 : In (mail_to (AtClp c) from m) (mail w.links)
  mail0 = mail_in p q w recs sim c lc from m t e em

  lv : v < n
  lv = (sim.moves.moves (AtClp c) from v z r0 mail0).0

  size : v < length s.records
  size = (let a = lv in let b = sim.places.records_len c lc in omega arith)

  lway : v < length s.routing.ways
  lway = (let a = lv in let b = sim.places.ways_len c lc in omega arith)

  same : settled r0 ≡ recs v
  same = (sim.moves.moves (AtClp c) from v z r0 mail0).1

  place_c : sim.place v ≡ c
  place_c = back (sim.place v) c (sym (sim.moves.moves (AtClp c) from v z r0 mail0).4)
    where
      back : (a b : ℕ) → AtClp a ≡ AtClp b → a ≡ b
      back a b f = cc

  here : clp_at w' c ≡ r.clp
  here = clp_here p q w recs sim c lc from m t e em r

  there : (d : ℕ) → (d ≡ c → ⊥) → clp_at w' d ≡ clp_at w d
  there d ne = clp_there p q w recs sim c lc from m t e em r d ne

  self : (v == v) ≡ true
  self = grind (arith, nat_tests)

  tally_old : tally (is_move v) (mail w.links) ≡ 1
  tally_old = (let a = tally_in (is_move v) (mail w.links) _ mail0 self in
      elim (sim.moves.placed v lv).1 [ inl x ↦ absurd (let b = x.1 in omega arith) | inr x ↦ x.1 ])

  -- no CLP had it
  absent : (d : ℕ) (y : Parts) → d < N → rec_at (clp_at w d).records v ≡ Some y → ⊥
  absent d y ld h = elim (sim.moves.placed v lv).1 [
    | inl x ↦ (let b = x.1 in let a = tally_old in omega arith)
    | inr x ↦ (let pd = (sim.places.at d v y ld h).0 in let g : stands_at (rec_at (clp_at w d).records v) ≡ false =
        subst (λ k. stands_at (rec_at (clp_at w k).records v) ≡ false) pd x.0 in let f = ap stands_at h in cc)
  ]

  bag0 : Bag (mail w.links) (mail w'.links) (mail_to (AtClp c) from m ∷ []) (sent_mail (AtClp c) r.sent)
  bag0 = bag p q w recs sim c lc from m t e em r

  sent_is : (x : Posted) → In x r.sent → (g : GiveRow) × (x ≡ to_agent_of p c g)
  sent_is x i = (let b = in_map (posted p) r0s.sent x i in let g = wt.gives b.0 b.1 in (g.0, b.2 ∙ ap (posted p) g.1))

  unmoved_sent : (x : Mail) → In x (sent_mail (AtClp c) r.sent) → unmoved x.message ≡ true
  unmoved_sent x i = (let o = in_map (λ (k : Posted). mail_to k.to (AtClp c) k.message) r.sent x i in let g =
      sent_is o.0 o.1 in ap (λ (k : Mail). unmoved k.message) o.2 ∙ ap (λ (k : Posted). unmoved k.message) g.1)

  tally_new : (u : ℕ) → tally (is_move u) (mail w'.links) + one_if (u == v) 0 ≡ tally (is_move u) (mail w.links)
  tally_new u = (let a = bag0.tallies (is_move u) in let b = tally_none
      (is_move u) (sent_mail (AtClp c) r.sent) (λ x i. unmoved_not u x.message (unmoved_sent x i)) in omega arith)

  tally_v : tally (is_move v) (mail w'.links) ≡ 0
  tally_v = (let a =
      tally_new v in let b = tally_old in let d : one_if (v == v) 0 ≡ 1 = ap (λ k. one_if k 0) self in omega arith)

  plains : (x : Posted) → In x r.sent → special x.message ≡ false
  plains x i = (let g = sent_is x i in ap (λ (k : Posted). special k.message) g.1)

  else_rec : (u : ℕ) → (u ≡ v → ⊥) → rec_at r.clp.records u ≡ rec_at s.records u
  else_rec u ne = wt.other u ne ∙ get_or-set_other s.records v u (Some (settled r0)) None ne

  way_v : get_or (clp_at w' c).routing.ways v way.Here ≡ way.Here
  way_v = ap (λ (k : ClpState). get_or k.routing.ways v way.Here) here ∙ (ap
      (λ (k : Routing). get_or k.ways v way.Here) wt.routing ∙ get_or-set_same s.routing.ways v way.Here way.Here lway)

  way_else : (u : ℕ) → (u ≡ v → ⊥) → get_or (clp_at w' c).routing.ways u way.Here ≡ get_or s.routing.ways u way.Here
  way_else u ne = ap (λ (k : ClpState). get_or k.routing.ways u way.Here) here ∙ (ap
      (λ (k : Routing). get_or k.ways u way.Here) wt.routing ∙ get_or-set_other s.routing.ways v u way.Here way.Here ne)

  places : PlacesOk p n w.line recs' sim.place (clp_at w')
  places = record {
    line = λ d ld. elim (cases_eq d c) [
      | inl f ↦ subst (λ k. (clp_at w' k).line ≡ w.line)
          (sym f) (ap (λ (k : ClpState). k.line) here ∙ (wt.line ∙ sim.places.line c lc))
      | inr ne ↦ ap (λ (k : ClpState). k.line) (there d ne) ∙ sim.places.line d ld
    ];
    ports_are = λ d ld. elim (cases_eq d c) [
      | inl f ↦ subst (λ k. (clp_at w' k).routing.ports ≡ ports p k) (sym f) (ap (λ (k : ClpState). k.routing.ports)
          here ∙ (ap (λ (k : Routing). k.ports) wt.routing ∙ sim.places.ports_are c lc))
      | inr ne ↦ ap (λ (k : ClpState). k.routing.ports) (there d ne) ∙ sim.places.ports_are d ld
    ];
    here = λ d u ld lu h. elim (cases_eq d c) [
      | inr ne ↦ (let g =
          sim.places.here d u ld lu (ap (λ (k : ClpState). get_or k.routing.ways u way.Here) (sym (there d ne)) ∙ h) in
          ap (λ (k : ClpState). rec_at k.records u) (there d ne) ∙ (g ∙ ap Some (sym (set_there recs
          v wt.y u (λ f. absent d (recs u) ld (subst (λ k. rec_at (clp_at w d).records k ≡ Some (recs u)) f g))))))
      | inl f ↦ subst (λ k. rec_at (clp_at w' k).records u ≡ Some (recs' u)) (sym f) (elim (cases_eq u v) [
        | inl g ↦ subst (λ k. rec_at (clp_at w' c).records k ≡ Some (recs' k))
            (sym g) (ap (λ (k : ClpState). rec_at k.records v) here ∙ (wt.at ∙ ap Some (sym (set_here recs v wt.y))))
        | inr ne ↦ ap (λ (k : ClpState). rec_at k.records u) here ∙ (else_rec u ne ∙ (sim.places.here
            c u lc lu (sym (way_else u ne) ∙ (ap (λ k. get_or (clp_at w' k).routing.ways u way.Here) (sym f) ∙ h))
            ∙ ap Some (sym (set_there recs v wt.y u ne))))
      ])
    ];
    port = λ d u b ld lu h. elim (cases_eq d c) [
      | inr ne ↦
          sim.places.port d u b ld lu (ap (λ (k : ClpState). get_or k.routing.ways u way.Here) (sym (there d ne)) ∙ h)
      | inl f ↦ elim (cases_eq u v) [
        | inl g ↦
            absurd (let a : way.Here ≡ way.Port b = sym way_v ∙ (ap (λ k. get_or (clp_at w' c).routing.ways k way.Here)
            (sym g) ∙ (ap (λ k. get_or (clp_at w' k).routing.ways u way.Here) (sym f) ∙ h)) in cc)
        | inr ne ↦ sim.places.port
            c u b lc lu (sym (way_else u ne) ∙ (ap (λ k. get_or (clp_at w' k).routing.ways u way.Here) (sym f) ∙ h))
      ]
    ];
    at = λ d u y ld h. elim (cases_eq d c) [
      | inr ne ↦ (let h2 : rec_at (clp_at w d).records u ≡ Some y =
          ap (λ (k : ClpState). rec_at k.records u) (sym (there d ne)) ∙ h in let o = sim.places.at d u y ld h2 in (
            o.0,
            o.1 ∙ sym (set_there
                recs v wt.y u (λ f. absent d y ld (subst (λ k. rec_at (clp_at w d).records k ≡ Some y) f h2))),
          ))
      | inl f ↦ (let h2 : rec_at r.clp.records u ≡ Some y = ap (λ (k : ClpState). rec_at k.records u) (sym here)
          ∙ (ap (λ k. rec_at (clp_at w' k).records u) (sym f) ∙ h) in elim (cases_eq u v) [
            | inl g ↦ (
              ap sim.place g ∙ (place_c ∙ sym f),
              some_same y wt.y (sym h2 ∙ (ap (rec_at r.clp.records) g ∙ wt.at))
                  ∙ sym (ap recs' g ∙ set_here recs v wt.y),
            )
            | inr ne ↦ (let o =
                sim.places.at c u y lc (sym (else_rec u ne) ∙ h2) in
                (o.0 ∙ sym f, o.1 ∙ sym (set_there recs v wt.y u ne)))
          ])
    ];
    records_len = λ d ld. elim (cases_eq d c) [
      | inl f ↦ subst (λ k. length (clp_at w' k).records ≡ n) (sym f) (ap (λ (k : ClpState). length k.records) here
          ∙ (wt.len ∙ (length-set s.records v (Some (settled r0)) ∙ sim.places.records_len c lc)))
      | inr ne ↦ ap (λ (k : ClpState). length k.records) (there d ne) ∙ sim.places.records_len d ld
    ];
    ways_len = λ d ld. elim (cases_eq d c) [
      | inl f ↦ subst (λ k. length (clp_at w' k).routing.ways ≡ n)
          (sym f) (ap (λ (k : ClpState). length k.routing.ways) here ∙ (ap (λ (k : Routing). length k.ways) wt.routing
          ∙ (length-set s.routing.ways v way.Here ∙ sim.places.ways_len c lc)))
      | inr ne ↦ ap (λ (k : ClpState). length k.routing.ways) (there d ne) ∙ sim.places.ways_len d ld
    ];
  }
    where
      some_same : (a b : Parts) → Some a ≡ Some b → a ≡ b
      some_same a b f = cc

  stands_u : (d u : ℕ)
      → (u ≡ v → ⊥) → stands_at (rec_at (clp_at w' d).records u) ≡ stands_at (rec_at (clp_at w d).records u)
  stands_u d u nu = elim (cases_eq d c) [
    | inl f ↦ subst (λ k. stands_at (rec_at (clp_at w' k).records u) ≡ stands_at (rec_at (clp_at w k).records u))
        (sym f) (ap (λ (k : ClpState). stands_at (rec_at k.records u)) here ∙ ap stands_at (else_rec u nu))
    | inr ne ↦ ap (λ (k : ClpState). stands_at (rec_at k.records u)) (there d ne)
  ]

  moves : MovesOk p n w.line sim.place recs' (clp_at w') (mail w'.links)
  moves = record {
    placed = λ u lu. elim (cases_eq u v) [
      | inl g ↦ subst (λ k. (sim.place k < N) × (((stands_at (rec_at (clp_at w' (sim.place k)).records k) ≡ true)
          × (tally (is_move k) (mail w'.links) ≡ 0)) ⊎ ((stands_at (rec_at (clp_at w' (sim.place k)).records k) ≡ false)
          × (tally (is_move k) (mail w'.links) ≡ 1)))) (sym g) (
            subst (λ k. k < N) (sym place_c) lc,
            inl (
              subst (λ k. stands_at (rec_at (clp_at w' k).records v) ≡ true)
                  (sym place_c) (ap (λ (k : ClpState). stands_at (rec_at k.records v)) here ∙ ap stands_at wt.at),
              tally_v,
            ),
          )
      | inr ne ↦ (let o = sim.moves.placed u lu in
          let t' : tally (is_move u) (mail w'.links) ≡ tally (is_move u) (mail w.links) =
          (let a = tally_new u in let b : (u == v) ≡ false =
          grind (arith, nat_tests, ne) in let d : one_if (u == v) 0 ≡ 0 = ap (λ k. one_if k 0) b in omega arith) in (
            o.0,
            elim o.1 [
              | inl a ↦ inl (stands_u (sim.place u) u ne ∙ a.0, t' ∙ a.1)
              | inr a ↦ inr (stands_u (sim.place u) u ne ∙ a.0, t' ∙ a.1)
            ],
          ))
    ];
    moves = λ a f u x y i. (let ne : u ≡ v → ⊥ = λ g. (let k = tally_in (is_move v) (mail w'.links)
        _ i (let b : (v == u) ≡ true = grind (arith, nat_tests, g) in b) in let k0 = tally_v in omega arith) in
        elim (bag0.from _ i) [
          | inl j ↦ (let o = sim.moves.moves a f u x y j in
              (o.0, o.1 ∙ sym (set_there recs v wt.y u ne), o.2, o.3, o.4, o.5, o.6, o.7))
          | inr j ↦ absurd (let b = unmoved_sent _ j in cc)
        ]);
  }

  letters_sent : (ss : List Posted) → map message_of (sent_mail (AtClp c) ss) ≡ map (λ (x : Posted). x.message) ss
  letters_sent [] = refl
  letters_sent (x ∷ ss) = ap (λ k. x.message ∷ k) (letters_sent ss)

  cored : Cored p w.line q sim.issued w.agents (pend_of p q w recs sim c lc from m t e em w) (wait_of p q w recs
      sim c lc from m t e em w) c v (let a = lv in let b = sim.shape.vars in omega arith) recs (letters w.links) r0s
  cored = core_queries p w.line q sim.issued w.agents (pend_of p q w recs sim c lc from m t e em w)
      (wait_of p q w recs sim c lc from m t e em w) c v (let a = lv in let b = sim.shape.vars in omega arith)
      s.queries (λ x i. let o = sim.queries.reg c x lc i in (o.0, o.1))
      recs (letters w.links)
      sim.core (come_to p c from v r0 s) (get_or-set_same s.records v (Some (settled r0)) None size ∙ ap Some same)

  recs_are : cored.recs' ≡ recs'
  recs_are = λ i u. (each u) i
    where
      some_same : (a b : Parts) → Some a ≡ Some b → a ≡ b
      some_same a b f = cc

      each : (u : ℕ) → cored.recs' u ≡ recs' u
      each u = elim (cases_eq u v) [
        | inl g ↦ subst (λ k. cored.recs' k ≡ recs' k)
            (sym g) (some_same (cored.recs' v) wt.y (sym cored.at ∙ wt.at) ∙ sym (set_here recs v wt.y))
        | inr ne ↦ cored.same u ne ∙ sym (set_there recs v wt.y u ne)
      ]

  pub move_sim : Sim p q w' recs'
  move_sim = record {
    tree = sim.tree;
    shape = sim.shape;
    issued = sim.issued;
    place = sim.place;
    core = subst (λ k. Core p w.line q sim.issued w.agents k (letters w'.links)
        (pend_of p q w recs sim c lc from m t e em w') (wait_of p q w recs sim c lc from m t e em w')) recs_are
        (core_neutral p w.line q sim.issued w.agents cored.recs' cored.old' (letters w'.links) _ _ _ _
        cored.core (plain_hopes p q w recs sim c lc from m t e em r wt.queries refl plains cored.recs') (m ∷ []) []
        (cored.bag (letters w'.links) (m ∷ []) [] (subst (Bag (letters w.links) (letters w'.links) (m ∷ []))
        (letters_sent r.sent ∙ (letters_posted p r0s.sent ∙ sym (append-nil (sent_letters r0s.sent))))
        (bag_map message_of (mail w.links) (mail w'.links) _ _ bag0)))
        (λ y i. elim i [ inl f ↦ ap neutral f | inr b ↦ absurd b ]) (λ y i. absurd i));
    queries = plain_queries p q w recs sim c lc from m t e em r wt.queries refl plains;
    places = places;
    moves = moves;
    fits = fits_after p q w recs sim c lc from m t e em r (λ x i. let g = sent_is x i in subst (λ (k : Posted).
        FitsAt N n k.to (AtClp c) k.message) (sym g.1) (toward_fits p q w recs sim c lc from m t e em g.0));
    size = length-set w.clps c r.clp ∙ sim.size;
    plan = sim.plan;
  }
