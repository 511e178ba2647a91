-- A record leaves a CLP.
use Rattle.pm_sim.proofs.Catches.{catch_act, late_sends}
use Rattle.pm_sim.proofs.Acts.{acts, acts_bag, acts_here, acts_there, acts_then, act_queries, act_core}
use Rattle.pm_sim.proofs.Places.{hub_then, clp_at, Sim, in_range, HubSends, lift, process_clp}
use Rattle.pm_sim.specs.Sims.{class_at, AtMost, In, MailOk, NotPast, one_if, tally}
use Rattle.pm_clp.specs.Clps.{ClpState, rec_at, floor_of, leaving}
use Rattle.pm_sim.proofs.Queries.{special, not_own_port}
use Rattle.std.proofs.lemmas.Bool.{cases_eq, cases_Bool}
use Rattle.std.proofs.Common.{◌≡◌, ℕ, ◌+◌, ◌<◌, ◌⊎◌, inl, inr, ◌==◌, true, false, cond, List, length, get_or, set, refl, arith, ap, sym, ◌∙◌, subst, Option, Some, None, get_or-set_other, get_or-set_same, length-set, [], ◌∷◌}
use Rattle.std.proofs.lemmas.Bool.Decides.{nat_tests}
use Rattle.pm_base.specs.declared.rows.Parts.{Parts}
use Rattle.pm_base.specs.declared.stamp.Line.{Line}
use Rattle.pm_base.specs.declared.stamp.Stamp.{Stamp}
use Rattle.pm_message.specs.Messages.{stamp_of}
use Rattle.pm_model.specs.declared.State.{State}
use Rattle.pm_periods.specs.Records.{settled}
use Rattle.pm_plan.specs.declared.plan.Plan.{Plan}
use Rattle.pm_sim.specs.Worlds.{Mail, Posted, World, mail, clps_of, ports, hub_of}
use Rattle.pm_sim.specs.Worlds.Process.{AtClp}
use Rattle.pm_sim.specs.Routings.{Fits, MovesOk, PlacesOk, is_move, stands_at}
use Rattle.pm_sim.proofs.Quiets.{tally_in}
use Rattle.pm_sim.proofs.Routed.{neutral}
use Rattle.pm_periods.proofs.Settling.{settled-same}
use Rattle.pm_base.specs.declared.stamp.Line.TheVariants as line
use Rattle.pm_message.specs.declared.Message.TheVariants as message
use Rattle.pm_routes.specs.declared.way.Way.TheVariants as way

floor_low : (l : Line) (x : Stamp) → NotPast l x → AtMost (floor_of l) x
floor_low (line.At s) x np = np
floor_low line.End x np = absurd np

pub floor_not : (l : Line) (x : Stamp) → NotPast l x → NotPast l (floor_of l)
floor_not (line.At s) x np = inr (refl, omega arith)
floor_not line.End x np = absurd np

-- what a CLP sends where a record leaves it
abbrev pub gone_to : Plan → ℕ → ℕ → ℕ → Parts → ClpState → HubSends
gone_to p c v d y s = record {
  clp = (leaving (hub_of p c) v d y s).clp;
  sent = record { to = AtClp d; message = message.Move v (floor_of s.line) y } ∷ [];
}

pub gone_is : (p : Plan) (c v d : ℕ) (y : Parts) (s : ClpState)
    → d < clps_of p → lift p (leaving (hub_of p c) v d y s) ≡ gone_to p c v d y s
gone_is p c v d y s lt = ap (λ z. record {
  clp = (leaving (hub_of p c) v d y s).clp;
  sent = record { to = z; message = message.Move v (floor_of s.line) y } ∷ [];
}) (process_clp p d lt)

abbrev pub set_place : (ℕ → ℕ) → ℕ → ℕ → ℕ → ℕ
set_place place v d u = cond (u == v) d (place u)

place_here : (place : ℕ → ℕ) (v d : ℕ) → set_place place v d v ≡ d
place_here place v d = (let e : (v == v) ≡ true = grind (arith, nat_tests) in rw e)

place_there : (place : ℕ → ℕ) (v d u : ℕ) → (u ≡ v → ⊥) → set_place place v d u ≡ place u
place_there place v d u n = (let e : (u == v) ≡ false = grind (arith, nat_tests, n) in rw e)

module _ (p : Plan) (q : State) (w : World) (recs : ℕ → Parts) (sim : Sim p q w recs) (c : ℕ) (lc : c < clps_of p)
    (v d : ℕ) (y : Parts) (cs : List (List ℕ)) (port : In d (ports p c)) (at : rec_at (clp_at w c).records v ≡ Some y)
    (x : Stamp) (low : NotPast w.line x) where
  abbrev N : ℕ
  N = clps_of p

  abbrev n : ℕ
  n = length q.values

  abbrev s : ClpState
  s = clp_at w c

  abbrev r : HubSends
  r = gone_to p c v d y (record s { routing = record s.routing { counts = cs } })

  abbrev w1 : World
  w1 = acts w c r

  abbrev place' : ℕ → ℕ
  place' = set_place sim.place v d

  at_v : (sim.place v ≡ c) × (y ≡ recs v)
  at_v = sim.places.at c v y lc at

  lv : v < n
  lv = (let a = in_range s.records v y at in let b = sim.places.records_len c lc in omega arith)

  lway : v < length s.routing.ways
  lway = (let a = lv in let b = sim.places.ways_len c lc in omega arith)

  dc : d ≡ c → ⊥
  dc e = not_own_port p w.line sim.tree c c lc lc (subst (λ z. In z (ports p c)) e port)

  line_is : s.line ≡ w.line
  line_is = sim.places.line c lc

  here : clp_at w1 c ≡ r.clp
  here = acts_here p q w recs sim c lc r

  there : (e : ℕ) → (e ≡ c → ⊥) → clp_at w1 e ≡ clp_at w e
  there e ne = acts_there p q w recs sim c lc r e ne

  gone : rec_at (set s.records v None) v ≡ None
  gone = get_or-set_same s.records v None None (in_range s.records v y at)

  other : (u : ℕ) → (u ≡ v → ⊥) → rec_at (set s.records v None) u ≡ rec_at s.records u
  other u ne = get_or-set_other s.records v u None None ne

  some_none : (z : Parts) → None ≡ Some z → ⊥
  some_none z e = cc

  -- where another CLP's records stand they stood
  rec_of : (e u : ℕ) (z : Parts)
      → rec_at (clp_at w1 e).records u ≡ Some z → (u ≡ v → e ≡ c → ⊥) × (rec_at (clp_at w e).records u ≡ Some z)
  rec_of e u z h = elim (cases_eq e c) [
    | inr ne ↦ (λ _ f. ne f, sym (ap (λ (k : ClpState). rec_at k.records u) (there e ne)) ∙ h)
    | inl f ↦ (let h2 : rec_at (set s.records v None) u ≡ Some z = ap (λ (k : ClpState). rec_at k.records u) (sym here)
        ∙ (ap (λ k. rec_at (clp_at w1 k).records u) (sym f) ∙ h) in elim (cases_eq u v) [
          | inl g ↦ absurd (some_none z (sym (ap (rec_at (set s.records v None)) g ∙ gone) ∙ h2))
          | inr ne ↦ (λ g _. ne g, subst (λ k. rec_at (clp_at w k).records u ≡ Some z) (sym f) (sym (other u ne) ∙ h2))
        ])
  ]

  no_v : (e : ℕ) (z : Parts) → e < N → rec_at (clp_at w1 e).records v ≡ Some z → ⊥
  no_v e z le h = (let o = rec_of e v z h in o.0 refl (sym (sim.places.at e v z le o.1).0 ∙ at_v.0))

  way_c : (u : ℕ) → (u ≡ v → ⊥) → get_or (clp_at w1 c).routing.ways u way.Here ≡ get_or s.routing.ways u way.Here
  way_c u ne = ap (λ (k : ClpState). get_or k.routing.ways u way.Here) here
      ∙ get_or-set_other s.routing.ways v u (way.Port d) way.Here ne

  way_v : get_or (clp_at w1 c).routing.ways v way.Here ≡ way.Port d
  way_v = ap (λ (k : ClpState). get_or k.routing.ways v way.Here) here
      ∙ get_or-set_same s.routing.ways v (way.Port d) way.Here lway

  tally_v : tally (is_move v) (mail w.links) ≡ 0
  tally_v = elim (sim.moves.placed v lv).1 [
    | inl a ↦ a.1
    | inr a ↦ absurd (let g : stands_at (rec_at s.records v) ≡ false =
        subst (λ z. stands_at (rec_at (clp_at w z).records v) ≡ false) at_v.0 a.0 in let h = ap stands_at at in cc)
  ]

  tally_new : (u : ℕ) → tally (is_move u) (mail w1.links) ≡ tally (is_move u) (mail w.links) + one_if (u == v) 0
  tally_new u = (let b = (acts_bag p q w recs sim c lc r).tallies (is_move u) in omega (arith, b))

  places : PlacesOk p n w.line recs place' (clp_at w1)
  places = record {
    line = λ e le. elim (cases_eq e c) [
      | inl f ↦ subst (λ z. (clp_at w1 z).line ≡ w.line) (sym f) (ap (λ (k : ClpState). k.line) here ∙ line_is)
      | inr ne ↦ ap (λ (k : ClpState). k.line) (there e ne) ∙ sim.places.line e le
    ];
    ports_are = λ e le. elim (cases_eq e c) [
      | inl f ↦ subst (λ z. (clp_at w1 z).routing.ports ≡ ports p z)
          (sym f) (ap (λ (k : ClpState). k.routing.ports) here ∙ sim.places.ports_are c lc)
      | inr ne ↦ ap (λ (k : ClpState). k.routing.ports) (there e ne) ∙ sim.places.ports_are e le
    ];
    here = λ e u le lu h. elim (cases_eq e c) [
      | inr ne ↦ ap (λ (k : ClpState). rec_at k.records u) (there e ne)
          ∙ sim.places.here e u le lu (ap (λ (k : ClpState). get_or k.routing.ways u way.Here) (sym (there e ne)) ∙ h)
      | inl f ↦ subst (λ z. rec_at (clp_at w1 z).records u ≡ Some (recs u)) (sym f) (elim (cases_eq u v) [
        | inl g ↦
            absurd (let a : way.Port d ≡ way.Here = sym way_v ∙ (ap (λ z. get_or (clp_at w1 c).routing.ways z way.Here)
            (sym g) ∙ (ap (λ z. get_or (clp_at w1 z).routing.ways u way.Here) (sym f) ∙ h)) in cc)
        | inr ne ↦ ap (λ (k : ClpState). rec_at k.records u) here ∙ (other u ne ∙ sim.places.here
            c u lc lu (sym (way_c u ne) ∙ (ap (λ z. get_or (clp_at w1 z).routing.ways u way.Here) (sym f) ∙ h)))
      ])
    ];
    port = λ e u b le lu h. elim (cases_eq e c) [
      | inr ne ↦
          sim.places.port e u b le lu (ap (λ (k : ClpState). get_or k.routing.ways u way.Here) (sym (there e ne)) ∙ h)
      | inl f ↦ elim (cases_eq u v) [
        | inl g ↦ (let a : way.Port d ≡ way.Port b = sym way_v ∙ (ap (λ z. get_or (clp_at w1 c).routing.ways z way.Here)
            (sym g) ∙ (ap (λ z. get_or (clp_at w1 z).routing.ways u way.Here) (sym f) ∙ h)) in
            subst (λ z. z < N) (same_port d b a) (sim.tree.inside c d port))
        | inr ne ↦ sim.places.port
            c u b lc lu (sym (way_c u ne) ∙ (ap (λ z. get_or (clp_at w1 z).routing.ways u way.Here) (sym f) ∙ h))
      ]
    ];
    at = λ e u z le h. elim (cases_eq u v) [
      | inl g ↦ absurd (no_v e z le (subst (λ k. rec_at (clp_at w1 e).records k ≡ Some z) g h))
      | inr ne ↦ (let o = sim.places.at e u z le (rec_of e u z h).1 in (place_there sim.place v d u ne ∙ o.0, o.1))
    ];
    records_len = λ e le. elim (cases_eq e c) [
      | inl f ↦ subst (λ z. length (clp_at w1 z).records ≡ n) (sym f)
          (ap (λ (k : ClpState). length k.records) here ∙ (length-set s.records v None ∙ sim.places.records_len c lc))
      | inr ne ↦ ap (λ (k : ClpState). length k.records) (there e ne) ∙ sim.places.records_len e le
    ];
    ways_len = λ e le. elim (cases_eq e c) [
      | inl f ↦ subst (λ z. length (clp_at w1 z).routing.ways ≡ n) (sym f) (ap (λ (k : ClpState). length k.routing.ways)
          here ∙ (length-set s.routing.ways v (way.Port d) ∙ sim.places.ways_len c lc))
      | inr ne ↦ ap (λ (k : ClpState). length k.routing.ways) (there e ne) ∙ sim.places.ways_len e le
    ];
  }
    where
      same_port : (a b : ℕ) → way.Port a ≡ way.Port b → a ≡ b
      same_port a b f = cc

  stands_u : (e u : ℕ)
      → (u ≡ v → ⊥) → stands_at (rec_at (clp_at w1 e).records u) ≡ stands_at (rec_at (clp_at w e).records u)
  stands_u e u nu = elim (cases_eq e c) [
    | inl f ↦ subst (λ z. stands_at (rec_at (clp_at w1 z).records u) ≡ stands_at (rec_at (clp_at w z).records u))
        (sym f) (ap (λ (k : ClpState). stands_at (rec_at k.records u)) here ∙ ap stands_at (other u nu))
    | inr ne ↦ ap (λ (k : ClpState). stands_at (rec_at k.records u)) (there e ne)
  ]

  moves : MovesOk p n w.line place' recs (clp_at w1) (mail w1.links)
  moves = record {
    placed = λ u lu. elim (cases_eq u v) [
      | inl g ↦ subst (λ k. (place' k < N)
          × (((stands_at (rec_at (clp_at w1 (place' k)).records k) ≡ true) × (tally (is_move k) (mail w1.links) ≡ 0))
          ⊎ ((stands_at (rec_at (clp_at w1 (place' k)).records k) ≡ false) × (tally (is_move k) (mail w1.links) ≡ 1))))
          (sym g)
          (subst (λ k. (k < N)
          × (((stands_at (rec_at (clp_at w1 k).records v) ≡ true) × (tally (is_move v) (mail w1.links) ≡ 0))
          ⊎ ((stands_at (rec_at (clp_at w1 k).records v) ≡ false) × (tally (is_move v) (mail w1.links) ≡ 1))))
          (sym (place_here sim.place v d))
          (sim.tree.inside c d port, inr (absent, tally_new v ∙ one)))
      | inr ne ↦ subst (λ k. (k < N)
          × (((stands_at (rec_at (clp_at w1 k).records u) ≡ true) × (tally (is_move u) (mail w1.links) ≡ 0))
          ⊎ ((stands_at (rec_at (clp_at w1 k).records u) ≡ false) × (tally (is_move u) (mail w1.links) ≡ 1))))
          (sym (place_there sim.place v d u ne))
          (let o = sim.moves.placed u lu in
          let t : tally (is_move u) (mail w1.links) ≡ tally (is_move u) (mail w.links) =
          (let a = tally_new u in let b : (u == v) ≡ false =
          grind (arith, nat_tests, ne) in let e : one_if (u == v) 0 ≡ 0 = ap (λ z. one_if z 0) b in omega arith) in (
            o.0,
            elim o.1 [
              | inl a ↦ inl (stands_u (sim.place u) u ne ∙ a.0, t ∙ a.1)
              | inr a ↦ inr (stands_u (sim.place u) u ne ∙ a.0, t ∙ a.1)
            ],
          ))
    ];
    moves = λ a f u z r0 i. elim ((acts_bag p q w recs sim c lc r).from _ i) [
      | inl j ↦ (let o = sim.moves.moves a f u z r0 j in
          let ne : u ≡ v → ⊥ = λ g. (let t = tally_in (is_move v) (mail w.links)
          _ j (let e : (v == u) ≡ true = grind (arith, nat_tests, g) in e) in let t0 = tally_v in omega arith) in (
            o.0,
            o.1,
            o.2,
            o.3,
            o.4 ∙ ap AtClp (sym (place_there sim.place v d u ne)),
            o.5,
            o.6,
            subst (λ k. In k (ports p o.3)) (sym (place_there sim.place v d u ne)) o.7,
          ))
      | inr j ↦ elim j [
        | inr b ↦ absurd b
        | inl g ↦ (let m = move_parts u z r0 (ap (λ (k : Mail). k.message) g) in
            let eu : place' u ≡ d = ap place' m.0 ∙ place_here sim.place v d in (
              subst (λ k. k < n) (sym m.0) lv,
              ap settled (m.2 ∙ at_v.1) ∙ (settled-same (recs v) (sim.core.rec v).solid ∙ ap recs (sym m.0)),
              λ b np. subst (λ k. AtMost k b) (sym (m.1 ∙ ap (floor_of) line_is)) (floor_low w.line b np),
              c,
              ap (λ (k : Mail). k.to) g ∙ ap AtClp (sym eu),
              ap (λ (k : Mail). k.from) g,
              lc,
              subst (λ k. In k (ports p c)) (sym eu) port,
            ))
      ]
    ];
  }
    where
      move_parts : (u : ℕ) (z : Stamp) (r0 : Parts)
          → message.Move u z r0 ≡ message.Move v (floor_of s.line) y → (u ≡ v) × (z ≡ floor_of s.line) × (r0 ≡ y)
      move_parts u z r0 e = (cc, cc, cc)

      one : tally (is_move v) (mail w.links) + one_if (v == v) 0 ≡ 1
      one = (let t = tally_v in let b : (v == v) ≡ true =
          grind (arith, nat_tests) in let e : one_if (v == v) 0 ≡ 1 = ap (λ z. one_if z 0) b in omega arith)

      absent : stands_at (rec_at (clp_at w1 d).records v) ≡ false
      absent = elim (cases_Bool (stands_at (rec_at (clp_at w1 d).records v))) [
        | inr h ↦ h
        | inl h ↦
            absurd (let o = rec_some (rec_at (clp_at w1 d).records v) h in no_v d o.0 (sim.tree.inside c d port) o.1)
      ]
        where
          rec_some : (o : Option Parts) → stands_at o ≡ true → (z : Parts) × (o ≡ Some z)
          rec_some None h = absurd (cc)
          rec_some (Some z) h = (z, refl)

  only : (m : Posted) → In m r.sent → m ≡ record { to = AtClp d; message = message.Move v (floor_of s.line) y }
  only m i = elim i [ inl f ↦ f | inr b ↦ absurd b ]

  pub leave_sim : Sim p q w1 recs
  leave_sim = record {
    tree = sim.tree;
    shape = sim.shape;
    issued = sim.issued;
    place = place';
    core = act_core p q w recs sim c lc r refl (λ m i. ap (λ (k : Posted). special k.message) (only m i))
        (λ m i. subst (λ (k : Posted). (neutral k.message ≡ true)
        × MailOk p sim.issued k.message × NotPast w.line (stamp_of k.message)) (sym (only m i))
        (refl, tt, subst (λ k. NotPast w.line (floor_of k)) (sym line_is) (floor_not w.line x low)));
    queries = act_queries p q w recs sim c lc r refl (λ m i. ap (λ (k : Posted). special k.message) (only m i));
    places = places;
    moves = moves;
    fits = λ m i. elim ((acts_bag p q w recs sim c lc r).from m i) [
      | inl j ↦ sim.fits m j
      | inr j ↦ elim j [ inl g ↦ subst (Fits N n) (sym g) (sim.tree.inside c d port, tt) | inr b ↦ absurd b ]
    ];
    size = length-set w.clps c r.clp ∙ sim.size;
    plan = sim.plan;
  }

  -- and the queries catch up behind it
  pub left_sim : Sim p q (acts w c (hub_then r (late_sends p c d (class_at p v)))) recs
  left_sim =
      let k : ℕ = class_at p v in
      subst (λ z. Sim p q z recs) (sym (acts_then w c w.links r (late_sends p c d k) w1 refl))
      (subst
      (λ y. Sim p q (acts w1 c (late_sends p c d k y)) recs) here (catch_act p q w1 recs leave_sim c lc d k port))
