-- A CLP's part of a delivery.
use Rattle.pm_queries.specs.Queries.{without, has_reg, add_reg, finish_if, finish_in, has}
use Rattle.pm_queries.specs.declared.registered.Registered.{Registered}
use Rattle.pm_queries.specs.declared.registered.Sent.{Sent}
use Rattle.pm_base.specs.Stamps.{num_eq}
use Rattle.pm_sim.proofs.Forwards.{process_toward, map_twice, letters_posted, fwd, fwd_is, fw, fw_ask, fw_end, out_is, fw_is, fw_tally, filter_tally}
use Rattle.pm_sim.proofs.Acts.{Quiet, acts, acts_then, quiet_act, quiet_tell, quiet_telling, class_low}
use Rattle.pm_sim.proofs.Catches.{catch_act, late_sends, late_is}
use Rattle.pm_clp.specs.Clps.{Hub, grow_bound, catching, tell, Answered, ClpState, rec_at, take_put, take_cut, take_watch, way_of, to_agent, on_record, at_record, on_way, watch_all, forwards, registered, telling, sent_on, ClpSends, no_clp_sends, and_then, after_finish, clp_after, counting}
use Rattle.std.specs.Prelude.{Option, not}
use Rattle.pm_sim.proofs.Places.{plain_queries, plain_hopes, in_range, hub_idle, hub_then, lift_then, clp_at, queries_at, Sim, HubSends, set_rec, set_here, set_there, places_same, landed, bag, mail_in, letter_in, clp_here, clp_there, pend_of, wait_of, build, forwarded, toward_fits, mailed, record_taken, lift, process_clp, to_agent_of}
use Rattle.pm_sim.proofs.Queries.{add_reg_has, special, mail_same, ask_parts, clp_parts, toward_home, goes_plain, queries_plain, ask_goes, queries_ask}
use Rattle.std.proofs.lemmas.Bool.{or_right, cases_Bool, cases_eq}
use Rattle.std.proofs.Common.{◌≡◌, ℕ, ◌+◌, ◌<◌, ◌≤◌, inl, inr, ◌==◌, true, false, cond, List, [], ◌∷◌, ◌++◌, map, filter, length, set, refl, arith, ap, sym, ◌∙◌, subst, Some, None, get_or-set_same}
use Rattle.std.proofs.lemmas.Bool.Decides.{nat_tests}
use Rattle.std.proofs.lemmas.List.{map-append}
use Rattle.pm_base.specs.declared.rows.CutRow.{CutRow}
use Rattle.pm_base.specs.declared.rows.Parts.{Parts}
use Rattle.pm_base.specs.declared.rows.PutRow.{PutRow}
use Rattle.pm_base.specs.declared.stamp.Num.{Num}
use Rattle.pm_base.specs.declared.stamp.Stamp.{Stamp}
use Rattle.pm_base.specs.declared.value.Window.{Window}
use Rattle.pm_base.specs.Windows.{whole}
use Rattle.pm_message.specs.Messages.{stamp_of}
use Rattle.pm_message.specs.declared.Message.{Message}
use Rattle.pm_model.specs.declared.State.{State}
use Rattle.pm_plan.specs.declared.plan.Plan.{Plan}
use Rattle.pm_sim.specs.Worlds.{Mail, Posted, Process, Taken, World, home, mail, take_from, clps_of, ports, number, process, posted, hub_of}
use Rattle.pm_sim.specs.Worlds.Process.{AtClp, AtAgent}
use Rattle.pm_sim.specs.Sims.{Core, In, MailOk, NotPast, class_at, cut_msg, has_read, one_if, put_msg, tally, vars_of}
use Rattle.pm_sim.specs.Routings.{Begun, FitsAt, Goes, PlacesOk, QueriesOk, ask_to, mail_to, stands_at, toward, unmoved, ForClp}
use Rattle.pm_sim.proofs.Arrivals.{Mailed}
use Rattle.pm_sim.proofs.Ends.{OneEnd, shorter, FinishIs, finish_is, finish_idle, idle_goes', finish_goes, finish_waited}
use Rattle.pm_sim.proofs.Going.{tally_append}
use Rattle.pm_sim.proofs.Letters.{message_of, letters, Bag, sent_mail, in_map, bag_map, bag_split}
use Rattle.pm_sim.proofs.Lists.{in_left, in_right, in_cases}
use Rattle.pm_sim.proofs.Quiets.{tally_in}
use Rattle.pm_sim.proofs.Routed.{neutral, Hopes, core_neutral}
use Rattle.pm_sim.proofs.Stamps.{num_eq_self}
use Rattle.pm_sim.proofs.Takes.{unchanged_answer, core_put, core_cut, core_ask, core_known}
use Rattle.pm_sim.proofs.Trims.{in_filter}
use Rattle.pm_sim.proofs.Watches.{Watched, watch_fold, places_watched}
use Rattle.pm_routes.specs.Routings.{Routing}
use Rattle.pm_base.specs.Layouts.{class_row}
use Rattle.pm_base.specs.declared.value.Query.TheVariants as query
use Rattle.pm_message.specs.declared.Message.TheVariants as message
use Rattle.pm_routes.specs.declared.way.Way.TheVariants as way

module _ (p : Plan) (q : State) (w : World)
    (recs : ℕ → Parts) (sim : Sim p q w recs) (c : ℕ) (lc : c < clps_of p) (from : Process) (t : Taken) where
  abbrev pub s : ClpState
  s = clp_at w c

  abbrev pub N : ℕ
  N = clps_of p

  abbrev pub n : ℕ
  n = length q.values

  abbrev pub Goal : (m : Message) (e : take_from (AtClp c) from w.links ≡ Some t) (em : t.message ≡ m)
      → (ℕ → Parts) → Type 0
  Goal m e em recs' =
      Sim p q (landed p q w recs sim c lc from m t e em (lift p (clp_after (hub_of p c) (number p from) m s))) recs'

  moving : (m : Message) (e : take_from (AtClp c) from w.links ≡ Some t) (em : t.message ≡ m)
      (recs' : ℕ → Parts) (r r' : HubSends) → r' ≡ r → Sim p q (landed p q w recs sim c lc from m t e em r) recs'
      → Sim p q (landed p q w recs sim c lc from m t e em r') recs'
  moving m e em recs' r r' eq h = subst (λ z. Sim p q (landed p q w recs sim c lc from m t e em z) recs') (sym eq) h

  abbrev pub fn : ℕ
  fn = number p from

  -- and then the CLP tells or counts
  then_quiet : (m : Message) (e : take_from (AtClp c) from w.links ≡ Some t)
      (em : t.message ≡ m) (recs' : ℕ → Parts) (r : HubSends) (f : ClpState → HubSends)
      → Sim p q (landed p q w recs sim c lc from m t e em r) recs' → Quiet p c w.line r.clp (f r.clp)
      → Sim p q (landed p q w recs sim c lc from m t e em (hub_then r f)) recs'
  then_quiet m e em recs' r f h qt =
      let w1 : World = landed p q w recs sim c lc from m t e em r in
      subst (λ z. Sim p q z recs') (sym (acts_then w c t.links r f w1 refl))
      (quiet_act p q w1 recs' h c lc
      (f r.clp) (subst (λ z. Quiet p c w.line z (f r.clp)) (sym (clp_here p q w recs sim c lc from m t e em r)) qt))

  -- the record of v stands here
  here_at : (v : ℕ) → v < n → way_of v s ≡ way.Here → rec_at s.records v ≡ Some (recs v)
  here_at v lv ey = sim.places.here c v lc lv ey

  low_letter : (m : Message) (e : take_from (AtClp c) from w.links ≡ Some t) (em : t.message ≡ m)
      → NotPast w.line (stamp_of m)
  low_letter m e em = (sim.core.mail m (letter_in p q w recs sim c lc from m t e em)).1

  rec_now : (v : ℕ) (r : Parts) → v < length s.records → rec_at (set s.records v (Some r)) v ≡ Some r
  rec_now v r lt = get_or-set_same s.records v (Some r) None lt

  -- a letter for a port goes on there
  pub port_part : (m : Message) (e : take_from (AtClp c) from w.links ≡ Some t) (em : t.message ≡ m) (d : ℕ)
      → special m ≡ false → unmoved m ≡ true → d < N → ForClp n (AtClp c) m
      → Sim p q (landed p q
      w recs sim c lc from m t e em (lift p (record { clp = s; sent = record { to = d; message = m } ∷ [] }))) recs
  port_part m e em d plain um ld fit = forwarded p q w recs sim c lc
      from m t e em (process p d) plain um (subst (λ z. FitsAt N n z (AtClp c) m) (sym (process_clp p d ld)) (ld, fit))

  -- the record of v takes it, its gives are sent
  abbrev pub taken_r : ℕ → (Parts → Answered) → HubSends
  taken_r v f = record {
    clp = record {
      records = set s.records v (Some (f (recs v)).rec);
      routing = s.routing;
      line = s.line;
      queries = s.queries;
      bound = s.bound;
      told = s.told;
    };
    sent = map (to_agent_of p c) (f (recs v)).gives;
  }

  taken_is : (v : ℕ) (f : Parts → Answered) → lift p (on_record (hub_of p c) v f (Some (recs v)) s) ≡ taken_r v f
  taken_is v f = ap (λ ss. record { clp = record s { records = set s.records v (Some (f (recs v)).rec) }; sent = ss })
      (map_twice (posted p) (to_agent (hub_of p c)) (f (recs v)).gives)

  -- and tells of it
  abbrev pub tells : ℕ → Stamp → ClpState → HubSends
  tells v z y = lift p (telling (hub_of p c) v z y)

  abbrev pub counts : ℕ → ClpState → HubSends
  counts v y = lift p (counting (hub_of p c) v fn y)

  abbrev pub told_r : ℕ → (Parts → Answered) → Stamp → HubSends
  told_r v f z = hub_then (taken_r v f) (tells v z)

  pub put_away : (v : ℕ) (row : PutRow) (e : take_from (AtClp c) from w.links ≡ Some t)
      (em : t.message ≡ (put_msg v row)) → v < n → (d : ℕ) → way_of v s ≡ way.Port d → Goal (put_msg v row) e em recs
  put_away v row e em lv d ey = moving
      (put_msg v row) e em recs _ _ (ap (λ x. lift p (on_way (hub_of p c) x (put_msg v row) s (λ z'. and_then (and_then
      (at_record (hub_of p c) v (take_put v row) z') (telling (hub_of p c) v row.stamp)) (counting (hub_of p c) v fn))))
      ey) (port_part (put_msg v row) e em d refl refl (sim.places.port c v d lc lv ey) lv)

  pub put_is : (v : ℕ) (row : PutRow) → v < n → way_of v s ≡ way.Here
      → lift p (clp_after (hub_of p c) fn (put_msg v row) s) ≡ hub_then (told_r v (take_put v row) row.stamp) (counts v)
  put_is v row lv ey = ap (λ x. lift p (on_way (hub_of p c) x (put_msg v row) s (λ z'. and_then (and_then (at_record
      (hub_of p c) v (take_put v row) z') (telling (hub_of p c) v row.stamp)) (counting (hub_of p c) v fn)))) ey
      ∙ (ap (λ o. lift p (and_then (and_then (on_record (hub_of p c) v (take_put v row) o s)
      (telling (hub_of p c) v row.stamp)) (counting (hub_of p c) v fn))) (sim.places.here c v lc lv ey)
      ∙ (lift_then p (and_then (on_record (hub_of p c) v (take_put v row) (Some (recs v)) s)
      (telling (hub_of p c) v row.stamp)) (counting (hub_of p c) v fn)
      ∙ ap (λ y. hub_then y (counts v)) (lift_then p (on_record (hub_of p c) v (take_put v row) (Some (recs v)) s)
      (telling (hub_of p c) v row.stamp) ∙ ap (λ y. hub_then y (tells v row.stamp)) (taken_is v (take_put v row)))))

  pub put_here : (v : ℕ) (row : PutRow) (e : take_from (AtClp c) from w.links ≡ Some t) (em : t.message ≡ put_msg v row)
      → v < n → way_of v s ≡ way.Here
      → Sim p q (landed p q w recs sim c lc from (put_msg v row) t e em (told_r v (take_put v row) row.stamp))
      (set_rec recs v (take_put v row (recs v)).rec)
  put_here v row e em lv ey =
      let at : rec_at s.records v ≡ Some (recs v) = sim.places.here c v lc lv ey in
      let f : Parts → Answered = take_put v row in
      let a : Answered = f (recs v) in
      let recs' : ℕ → Parts = set_rec recs v a.rec in
      let core = core_put p w.line q sim.issued w.agents recs (set_rec recs v a.rec) (letters w.links) _ _
      _ sim.core v row (mailed p q w recs sim c lc from (put_msg v row) t e em v f s.routing refl refl at refl refl)
      (set_here recs v a.rec) (set_there recs v a.rec) in
      let one : Sim p q (landed p q w recs sim c lc from (put_msg v row) t e em (taken_r v f)) recs' =
      record_taken p q w recs sim c lc from (put_msg v row) t e em v f s.routing refl refl at refl refl core in
      then_quiet (put_msg v row) e em recs' (taken_r v f) (tells v row.stamp)
      one (quiet_telling p c w.line v row.stamp a.rec (taken_r v f).clp (class_low p n sim.shape v lv) (λ d i.
      sim.tree.inside c d i) (low_letter (put_msg v row) e em) (rec_now v a.rec (in_range s.records v (recs v) at)))

  pub cut_away : (v : ℕ) (row : CutRow) (e : take_from (AtClp c) from w.links ≡ Some t)
      (em : t.message ≡ (cut_msg v row)) → v < n → (d : ℕ) → way_of v s ≡ way.Port d → Goal (cut_msg v row) e em recs
  cut_away v row e em lv d ey =
      moving (cut_msg v row) e em recs _ _ (ap (λ x. lift p (on_way (hub_of p c) x (cut_msg v row)
      s (λ z'. and_then (at_record (hub_of p c) v (take_cut v row) z') (telling (hub_of p c) v row.stamp)))) ey)
      (port_part (cut_msg v row) e em d refl refl (sim.places.port c v d lc lv ey) lv)

  pub cut_is : (v : ℕ) (row : CutRow) → v < n → way_of v s ≡ way.Here
      → lift p (clp_after (hub_of p c) fn (cut_msg v row) s) ≡ told_r v (take_cut v row) row.stamp
  cut_is v row lv ey = ap (λ x. lift p (on_way (hub_of p c) x (cut_msg v row)
      s (λ z'. and_then (at_record (hub_of p c) v (take_cut v row) z') (telling (hub_of p c) v row.stamp)))) ey
      ∙ (ap (λ o. lift p (and_then (on_record (hub_of p c) v (take_cut v row) o s) (telling (hub_of p c) v row.stamp)))
      (sim.places.here c v lc lv ey)
      ∙ (lift_then p (on_record (hub_of p c) v (take_cut v row) (Some (recs v)) s) (telling (hub_of p c) v row.stamp)
      ∙ ap (λ y. hub_then y (tells v row.stamp)) (taken_is v (take_cut v row))))

  pub cut_here : (v : ℕ) (row : CutRow) (e : take_from (AtClp c) from w.links ≡ Some t) (em : t.message ≡ cut_msg v row)
      → v < n → way_of v s ≡ way.Here
      → Sim p q (landed p q w recs sim c lc from (cut_msg v row) t e em (told_r v (take_cut v row) row.stamp))
      (set_rec recs v (take_cut v row (recs v)).rec)
  cut_here v row e em lv ey =
      let at : rec_at s.records v ≡ Some (recs v) = sim.places.here c v lc lv ey in
      let f : Parts → Answered = take_cut v row in
      let a : Answered = f (recs v) in
      let recs' : ℕ → Parts = set_rec recs v a.rec in
      let core = core_cut p w.line q sim.issued w.agents recs (set_rec recs v a.rec) (letters w.links) _ _
      _ sim.core v row (mailed p q w recs sim c lc from (cut_msg v row) t e em v f s.routing refl refl at refl refl)
      (set_here recs v a.rec) (set_there recs v a.rec) in
      let one : Sim p q (landed p q w recs sim c lc from (cut_msg v row) t e em (taken_r v f)) recs' =
      record_taken p q w recs sim c lc from (cut_msg v row) t e em v f s.routing refl refl at refl refl core in
      then_quiet (cut_msg v row) e em recs' (taken_r v f) (tells v row.stamp)
      one (quiet_telling p c w.line v row.stamp a.rec (taken_r v f).clp (class_low p n sim.shape v lv) (λ d i.
      sim.tree.inside c d i) (low_letter (cut_msg v row) e em) (rec_now v a.rec (in_range s.records v (recs v) at)))

  pub one_away : (k : Num) (z : Stamp)
      (v : ℕ) (e : take_from (AtClp c) from w.links ≡ Some t) (em : t.message ≡ (message.Ask k z (query.One v)))
      → v < n → (d : ℕ) → way_of v s ≡ way.Port d → Goal (message.Ask k z (query.One v)) e em recs
  one_away k z v e em lv d ey = moving (message.Ask k z (query.One v))
      e em recs _ _ (ap (λ x. lift p (on_way (hub_of p c) x (message.Ask k z (query.One v))
      s (λ z'. and_then (at_record (hub_of p c) v (take_watch v k z whole) z') (counting (hub_of p c) v fn)))) ey)
      (port_part (message.Ask k z (query.One v)) e em d refl refl (sim.places.port c v d lc lv ey) lv)

  pub one_is : (k : Num) (z : Stamp) (v : ℕ)
      → v < n → way_of v s ≡ way.Here → lift p (clp_after (hub_of p c) fn (message.Ask k z (query.One v)) s)
      ≡ hub_then (taken_r v (take_watch v k z whole)) (counts v)
  one_is k z v lv ey = ap (λ x. lift p (on_way (hub_of p c) x (message.Ask k z (query.One v))
      s (λ z'. and_then (at_record (hub_of p c) v (take_watch v k z whole) z') (counting (hub_of p c) v fn)))) ey
      ∙ (ap (λ o. lift p (and_then (on_record (hub_of p c) v (take_watch v k z whole) o s)
      (counting (hub_of p c) v fn))) (sim.places.here c v lc lv ey)
      ∙ (lift_then p (on_record (hub_of p c) v (take_watch v k z whole) (Some (recs v)) s) (counting (hub_of p c) v fn)
      ∙ ap (λ y. hub_then y (counts v)) (taken_is v (take_watch v k z whole))))

  pub one_here : (k : Num) (z : Stamp) (v : ℕ) (e : take_from (AtClp c) from w.links ≡ Some t)
      (em : t.message ≡ message.Ask k z (query.One v)) → v < n → way_of v s ≡ way.Here
      → Sim p q (landed p q w recs sim c lc from (message.Ask k z (query.One v))
      t e em (taken_r v (take_watch v k z whole))) (set_rec recs v (take_watch v k z whole (recs v)).rec)
  one_here k z v e em lv ey =
      let at : rec_at s.records v ≡ Some (recs v) = sim.places.here c v lc lv ey in
      let f : Parts → Answered = take_watch v k z whole in
      let a : Answered = f (recs v) in
      let recs' : ℕ → Parts = set_rec recs v a.rec in
      let ml =
      mailed p q w recs sim c lc from (message.Ask k z (query.One v)) t e em v f s.routing refl refl at refl refl in
      let r1 : HubSends = taken_r v f in
      record_taken p q w recs sim c lc from (message.Ask k z (query.One v))
      t e em v f s.routing refl refl at refl refl (elim (cases_Bool (has_read k (recs v).reads)) [
        | inr g ↦ core_ask p w.line q sim.issued w.agents recs (set_rec recs v a.rec)
            (letters w.links) _ _ _ sim.core v k z g ml (set_here recs v a.rec) (set_there recs v a.rec)
        | inl g ↦ (let same : a ≡ unchanged_answer (recs v) = rw g refl in
            let each : (u : ℕ) → set_rec recs v a.rec u ≡ recs u = λ u. elim (cases_eq u v) [
              | inl h ↦ subst (λ y. set_rec recs v a.rec y ≡ recs y)
                  (sym h) (set_here recs v a.rec ∙ ap (λ (y : Answered). y.rec) same)
              | inr ne ↦ set_there recs v a.rec u ne
            ] in
            subst (λ y. Core p w.line q sim.issued
            w.agents y (letters (landed p q w recs sim c lc from (message.Ask k z (query.One v)) t e em r1).links)
            (pend_of p q w recs sim c lc from (message.Ask k z (query.One v)) t e em w)
            (wait_of p q w recs sim c lc from (message.Ask k z (query.One v)) t e em w)) (λ i u. (sym (each u)) i)
            (core_known p w.line q sim.issued w.agents recs (letters w.links) _ _ _ sim.core v k z g (subst
            (λ (y : Answered). Mailed (letters w.links) (letters (landed p q w recs sim c lc from (message.Ask k z
            (query.One v)) t e em r1).links) (message.Ask k z (query.One v)) (map message.Give y.gives)) same ml)))
      ])

  -- queries change at c alone
  qs_there : (m : Message) (e : take_from (AtClp c) from w.links ≡ Some t) (em : t.message ≡ m) (r : HubSends) (d : ℕ)
      → (d ≡ c → ⊥) → queries_at (landed p q w recs sim c lc from m t e em r) d ≡ queries_at w d
  qs_there m e em r d ne = ap (λ (z : ClpState). z.queries) (clp_there p q w recs sim c lc from m t e em r d ne)

  qs_here : (m : Message) (e : take_from (AtClp c) from w.links ≡ Some t) (em : t.message ≡ m) (r : HubSends)
      → queries_at (landed p q w recs sim c lc from m t e em r) c ≡ r.clp.queries
  qs_here m e em r = ap (λ (z : ClpState). z.queries) (clp_here p q w recs sim c lc from m t e em r)

  same_places : (m : Message) (e : take_from (AtClp c) from w.links ≡ Some t) (em : t.message ≡ m) (r : HubSends)
      → r.clp.line ≡ s.line → r.clp.routing ≡ s.routing → r.clp.records ≡ s.records
      → PlacesOk p n w.line recs sim.place (clp_at (landed p q w recs sim c lc from m t e em r))
  same_places m e em r el ew er = places_same p n w.line recs
      sim.place (clp_at w) (clp_at (landed p q w recs sim c lc from m t e em r)) sim.places (λ d. elim (cases_eq d c) [
        | inl f ↦ subst (λ z. ((clp_at (landed p q w recs sim c lc from m t e em r) z).line ≡ (clp_at w z).line)
            × ((clp_at (landed p q w recs sim c lc from m t e em r) z).routing.ways ≡ (clp_at w z).routing.ways)
            × ((clp_at (landed p q w recs sim c lc from m t e em r) z).routing.ports ≡ (clp_at w z).routing.ports)
            × ((clp_at (landed p q w recs sim c lc from m t e em r) z).records ≡ (clp_at w z).records)) (sym f) (
              ap (λ (z : ClpState). z.line) (clp_here p q w recs sim c lc from m t e em r)
                  ∙ el,
              ap (λ (z : ClpState). z.routing.ways) (clp_here p q w recs sim c lc from m t e em r)
                  ∙ ap (λ (y : Routing). y.ways) ew,
              ap (λ (z : ClpState). z.routing.ports)
                  (clp_here p q w recs sim c lc from m t e em r) ∙ ap (λ (y : Routing). y.ports) ew,
              ap (λ (z : ClpState). z.records) (clp_here p q w recs sim c lc from m t e em r) ∙ er,
            )
        | inr ne ↦ (
          ap (λ (z : ClpState). z.line) (clp_there p q w recs sim c lc from m t e em r d ne),
          ap (λ (z : ClpState). z.routing.ways) (clp_there p q w recs sim c lc from m t e em r d ne),
          ap (λ (z : ClpState). z.routing.ports) (clp_there p q w recs sim c lc from m t e em r d ne),
          ap (λ (z : ClpState). z.records) (clp_there p q w recs sim c lc from m t e em r d ne),
        )
      ])

  -- towards an agent an end fits
  end_fits : (k : Num) (z : Stamp) → FitsAt N n (toward p c k.agent) (AtClp c) (message.Finish k z)
  end_fits k z = elim (cases_eq c (home p k.agent)) [
    | inl f ↦ (let b : (c == home p k.agent) ≡ true = grind (arith, nat_tests, f) in rw b refl)
    | inr ne ↦ (let b : (c == home p k.agent) ≡ false = grind (arith, nat_tests, ne) in
        rw b (sim.tree.inside c _ (sim.tree.hop_port c (home p k.agent) lc (sim.tree.homes k.agent) ne), tt))
  ]

  -- what a special event has to give
  record Special (m : Message) (e : take_from (AtClp c) from w.links ≡ Some t)
      (em : t.message ≡ m) (recs' : ℕ → Parts) (r : HubSends) (sent : List Posted) : Type 0 where
    queries : QueriesOk p w.line sim.issued (queries_at (landed p q w recs sim c lc from m t e em r))
        (mail (landed p q w recs sim c lc from m t e em r).links)
    hopes : Hopes p q sim.issued recs' (pend_of p q w recs sim c lc from m t e em w)
        (pend_of p q w recs sim c lc from m t e em (landed p q w recs sim c lc from m t e em r)) (wait_of p q w recs sim
        c lc from m t e em w) (wait_of p q w recs sim c lc from m t e em (landed p q w recs sim c lc from m t e em r))
    each : (x : Posted) → In x sent → (neutral x.message ≡ true)
        × MailOk p sim.issued x.message × NotPast w.line (stamp_of x.message) × FitsAt N n x.to (AtClp c) x.message

  letters_sent : (ss : List Posted) → map message_of (sent_mail (AtClp c) ss) ≡ map (λ (x : Posted). x.message) ss
  letters_sent [] = refl
  letters_sent (x ∷ ss) = ap (λ z. x.message ∷ z) (letters_sent ss)

  pub finish_part : (k : Num) (z : Stamp) (d0 : ℕ) (e : take_from (AtClp c) from w.links ≡ Some t)
      (em : t.message ≡ message.Finish k z) → from ≡ AtClp d0 → Goal (message.Finish k z) e em recs
  finish_part k z d0 e em ef =
      moving (message.Finish k z) e em recs r _ (ap (λ f. lift p (after_finish (number p f) k s)) ef)
      (build p q w recs sim c lc from (message.Finish k z)
      t e em r recs core special'.queries (same_places (message.Finish k z) e em r refl refl refl)
      (λ x i. (special'.each x i).3) refl (λ x i. unmoved_end x i) (λ v. refl) (λ v h. refl))
    where
      r : HubSends
      r = lift p (after_finish d0 k s)

      w' : World
      w' = landed p q w recs sim c lc from (message.Finish k z) t e em r

      unmoved_end : (x : Posted) → In x r.sent → unmoved x.message ≡ true
      unmoved_end x i = by_end (finish_is true p c k d0 s.queries (sim.queries.alone c lc))
        where
          ends_if : (ws : List ℕ) (r0 : Registered) → In x (map (posted p) (finish_if ws r0)) → unmoved x.message ≡ true
          ends_if [] r0 (inl f) = ap (λ (z : Posted). unmoved z.message) f
          ends_if [] r0 (inr b) = absurd b
          ends_if (y ∷ ws) r0 j = absurd j

          by_end : FinishIs true p c k d0 s.queries (finish_in k d0 s.queries).queries (finish_in k d0 s.queries).sent
              → unmoved x.message ≡ true
          by_end (inl (eq, es, idle)) = absurd (subst (λ z. In x (map (posted p) z)) es i)
          by_end (inr (r0, rn, one, es)) = ends_if (without d0 r0.waits) r0 (subst (λ z. In x (map (posted p) z)) es i)

      bag' : Bag (mail w.links)
          (mail w'.links) (mail_to (AtClp c) (AtClp d0) (message.Finish k z) ∷ []) (sent_mail (AtClp c) r.sent)
      bag' = subst (λ f. Bag (mail w.links) (mail w'.links) (mail_to (AtClp c) f (message.Finish k z) ∷ [])
          (sent_mail (AtClp c) r.sent)) ef (bag p q w recs sim c lc from (message.Finish k z) t e em r)

      th : (d : ℕ) → (d ≡ c → ⊥) → queries_at w' d ≡ queries_at w d
      th d ne = qs_there (message.Finish k z) e em r d ne

      hr : queries_at w' c ≡ (finish_in k d0 s.queries).queries
      hr = qs_here (message.Finish k z) e em r

      begun : (m : Num) → ((m' : Num) → has_reg m' (finish_in k d0 s.queries).queries ≡ has_reg m' s.queries)
          → Begun p (queries_at w) (mail w.links) m → Begun p (queries_at w') (mail w'.links) m
      begun m has (inl h) = inl (elim (cases_eq (home p m.agent) c) [
        | inl f ↦ subst (λ d. has_reg m (queries_at w' d) ≡ true)
            (sym f) (ap (has_reg m) hr ∙ (has m ∙ subst (λ d. has_reg m (queries_at w d) ≡ true) f h))
        | inr ne ↦ ap (has_reg m) (th (home p m.agent) ne) ∙ h
      ])
      begun m has (inr (y, u, v, i)) = inr (
        y,
        u,
        v,
        elim (bag'.kept _ i) [
          | inr h ↦ h
          | inl h ↦ absurd (elim h [ inl f ↦ (let a = ap (λ (q : Mail). q.message) f in cc) | inr b ↦ b ])
        ],
      )

      not_clp : (a : ℕ) → AtAgent a ≡ AtClp c → ⊥
      not_clp a f = cc

      at_home : (m : Num) → AtAgent m.agent ≡ toward p (home p m.agent) m.agent
      at_home m = sym (toward_home p w.line sim.tree m.agent)

      by_is : FinishIs true p c k d0 s.queries (finish_in k d0 s.queries).queries (finish_in k d0 s.queries).sent
          → Special (message.Finish k z) e em recs r r.sent
      by_is (inl (eq, es, idle)) = record {
        queries = finish_idle p w.line sim.tree sim.issued (queries_at w) (queries_at w') (mail w.links) (mail w'.links)
            sim.queries c d0 lc k z _ bag' th (hr ∙ eq) (ap (λ z. sent_mail (AtClp c) (map (posted p) z)) es) idle;
        hopes = record {
          asks = λ m y j u v i lt ec h. inl (begun m (λ m'. ap (has_reg m') eq) h);
          ends = λ m h.
              idle_goes' p w.line sim.tree sim.issued (queries_at w) (queries_at w') (mail w.links) (mail w'.links)
              sim.queries c d0 lc k z _ bag' th (hr ∙ eq) (ap (λ z. sent_mail (AtClp c) (map (posted p) z)) es)
              idle m (home p m.agent) (AtAgent m.agent) (λ a _ _. not_clp m.agent a) h;
        };
        each = λ x i. absurd (subst (λ z. In x (map (posted p) z)) es i);
      }
      by_is (inr (r0, rn, one, es)) = record {
        queries = finish_waited p w.line sim.tree sim.issued (queries_at w) (queries_at w')
            (mail w.links) (mail w'.links) sim.queries c d0 lc k z _ bag' th r0 rn false one' ends ends_are;
        hopes = record {
          asks = λ m y j u v i lt ec h. inl (begun m one.same_has h);
          ends = λ m h. finish_goes p w.line sim.tree sim.issued
              (queries_at w) (queries_at w') (mail w.links) (mail w'.links) sim.queries c d0 lc k z _ bag' th r0 rn
              false one' ends ends_are m (home p m.agent) (AtAgent m.agent) (at_home m) (λ a _ _. not_clp m.agent a) h;
        };
        each = λ x i. (let o = sim.queries.reg c r0 lc one.old in
            subst (λ (y : Posted). (neutral y.message ≡ true) × MailOk p sim.issued y.message
            × NotPast w.line (stamp_of y.message) × FitsAt N n y.to (AtClp c) y.message) (sym (only x i)) (
              refl,
              (r0.class, r0.window, o.0),
              o.1,
              subst
                  (λ y. FitsAt N n y (AtClp c) (message.Finish r0.num r0.stamp)) (sym o.2) (end_fits r0.num r0.stamp),
            ));
      }
        where
          one' : OneEnd k (queries_at w c) (queries_at w' c) r0 (shorter true p c d0 r0)
          one' = subst (λ y. OneEnd k (queries_at w c) y r0 (shorter true p c d0 r0)) (sym hr) one

          only_of : (ws : List ℕ) (x : Posted) → In x (map (posted p) (finish_if ws r0))
              → x ≡ record { to = process p r0.from; message = message.Finish r0.num r0.stamp }
          only_of [] x (inl f) = f
          only_of [] x (inr j) = absurd j
          only_of (y ∷ ws) x i = absurd i

          only : (x : Posted)
              → In x r.sent → x ≡ record { to = process p r0.from; message = message.Finish r0.num r0.stamp }
          only x i = only_of (without d0 r0.waits) x (subst (λ z. In x (map (posted p) z)) es i)

          ends : without d0 r0.waits ≡ []
              → In (mail_to (process p r0.from) (AtClp c) (message.Finish k r0.stamp)) (mail w'.links)
          ends f = bag'.added _ (subst (λ y. In (mail_to (process p r0.from) (AtClp c) (message.Finish k r0.stamp))
              (sent_mail (AtClp c) (map (posted p) y))) (sym (es ∙ ap (λ y. finish_if y r0) f))
              (inl (ap (λ y. mail_to (process p r0.from) (AtClp c) (message.Finish y r0.stamp)) (sym rn))))

          ends_are : (x : Mail) → In x (sent_mail (AtClp c) r.sent)
              → (y : Stamp) × (x ≡ mail_to (process p r0.from) (AtClp c) (message.Finish k y))
          ends_are x i = (let o = in_map (λ (y : Posted). mail_to y.to (AtClp c) y.message) r.sent x i in (
            r0.stamp,
            o.2 ∙ (ap (λ (y : Posted). mail_to y.to (AtClp c) y.message) (only o.0 o.1)
                ∙ ap (λ y. mail_to (process p r0.from) (AtClp c) (message.Finish y r0.stamp)) rn),
          ))

      special' : Special (message.Finish k z) e em recs r r.sent
      special' = by_is (finish_is true p c k d0 s.queries (sim.queries.alone c lc))

      core : Core p w.line q sim.issued w.agents recs (letters w'.links) (pend_of p q w recs sim
          c lc from (message.Finish k z) t e em w') (wait_of p q w recs sim c lc from (message.Finish k z) t e em w')
      core = core_neutral p w.line
          q sim.issued w.agents recs (letters w.links) (letters w'.links) _ _ _ _ sim.core special'.hopes _ _ (bag_map
          message_of (mail w.links) (mail w'.links) _ _ (bag p q w recs sim c lc from (message.Finish k z) t e em r))
          (λ y i. elim i [ inl f ↦ ap neutral f | inr j ↦ absurd j ])
          (λ y i. (let o = in_map (λ (u : Posted). u.message) r.sent y (subst (In y) (letters_sent r.sent) i) in let g =
          special'.each o.0 o.1 in
          subst (λ (u : Message). (neutral u ≡ true) × MailOk p sim.issued u × NotPast w.line (stamp_of u))
          (sym o.2) (g.0, g.1, g.2)))

  -- a Grow: the bound of that port grows, catching up there, telling at the other ports
  pub grow_part : (k : ℕ) (lk : k < length p.layout.classes) (z : Stamp) (until : Option Stamp)
      (u : Window) (d : ℕ) (e : take_from (AtClp c) from w.links ≡ Some t) (em : t.message ≡ message.Grow k z until u)
      → from ≡ AtClp d → In d (ports p c) → Goal (message.Grow k z until u) e em recs
  grow_part k lk z until u d e em ef port =
      let m : Message = message.Grow k z until u in
      let h : Hub = hub_of p c in
      let s0 : ClpState = grow_bound h d k (record { from = Some z; until = until }) u s in
      let r0 : HubSends = hub_idle s0 in
      let none : (x : Posted) → In x r0.sent → special x.message ≡ false = λ x i. absurd i in
      let one : Sim p q (landed p q w recs sim c lc from m t e em r0) recs =
      build p q w recs sim c lc from m t e em r0 recs
      (core_neutral p w.line
      q sim.issued w.agents recs (letters w.links) (letters (landed p q w recs sim c lc from m t e em r0).links)
      _ _ _ _ sim.core (plain_hopes p q w recs sim c lc from m t e em r0 refl refl none recs) (m ∷ []) []
      (bag_map message_of (mail w.links) (mail (landed p q w recs sim c lc from m t e em r0).links) _ _ (bag p q w recs
      sim c lc from m t e em r0)) (λ y i. elim i [ inl f ↦ ap neutral f | inr j ↦ absurd j ]) (λ y i. absurd i))
      (plain_queries p q w recs sim c lc from m t e em r0 refl refl none)
      (same_places m e em r0 refl refl refl) (λ x i. absurd i) refl (λ x i. absurd i) (λ v. refl) (λ v h. refl) in
      let w1 : World = landed p q w recs sim c lc from m t e em r0 in
      let C : ClpState → HubSends = late_sends p c d k in
      let two : Sim p q (landed p q w recs sim c lc from m t e em (hub_then r0 C)) recs =
      subst (λ y. Sim p q y recs) (sym (acts_then w c t.links r0 C w1 refl))
      (subst (λ y. Sim p q (acts w1 c (late_sends p c d k y)) recs)
      (clp_here p q w recs sim c lc from m t e em r0) (catch_act p q w1 recs one c lc d k port)) in
      let others : List ℕ = without d (ports p c) in
      let T : ClpState → HubSends = λ y. lift p (tell h k z until u others y) in
      moving m e em recs (hub_then (hub_then r0 C) T) _ (ap (λ y. lift p (clp_after h (number p y) m s)) ef
      ∙ (lift_then p (catching h d k s0) (tell h k z until u others)
      ∙ ap (λ y. hub_then y T) (late_is p c d k s0 (sim.tree.inside c d port))))
      (then_quiet m e em recs (hub_then r0 C) T two
      (quiet_tell p c w.line k lk (λ x i. sim.tree.inside c x i) z until
      u (low_letter m e em) others (λ y i. (in_filter (λ y. not (d == y)) (ports p c) y i).0) (hub_then r0 C).clp))

  -- a query that arrives is not registered
  pub unregistered : (k : Num) (z : Stamp) (x : ℕ) (u : Window)
      → In (mail_to (AtClp c) from (message.Ask k z (query.Class x u))) (mail w.links) → has_reg k s.queries ≡ false
  unregistered k z x u i = elim (cases_Bool (has_reg k s.queries)) [
    | inr f ↦ f
    | inl f ↦ absurd (let o = sim.queries.once k c lc in
        let a : ask_to k c (mail_to (AtClp c) from (message.Ask k z (query.Class x u))) ≡ true =
        (let b : (c == c) ≡ true = grind (arith, nat_tests) in let d = num_eq_self k in rw (b, d)) in
        let y = tally_in (ask_to k c) (mail w.links) _ i a in
        let g : one_if (has_reg k s.queries) 0 ≡ 1 = ap (λ b. one_if b 0) f in omega arith)
  ]

  -- a class query
  pub ask_part : (k : Num) (z : Stamp) (x : ℕ)
      (u : Window) (e : take_from (AtClp c) from w.links ≡ Some t) (em : t.message ≡ message.Ask k z (query.Class x u))
      → (wt : Watched p w.line q sim.issued w.agents (pend_of p q w recs sim c lc from (message.Ask k
      z (query.Class x u)) t e em w) (wait_of p q w recs sim c lc from (message.Ask k z (query.Class x u)) t e em w)
      c k z x u (sim.core.mail (message.Ask k z (query.Class x u)) (letter_in p q w recs sim c lc from
      (message.Ask k z (query.Class x u)) t e em)).0 (sim.core.mail (message.Ask k z (query.Class x u)) (letter_in
      p q w recs sim c lc from (message.Ask k z (query.Class x u)) t e em)).1 recs (letters w.links) s (class_row
      p.layout.classes x).first ((class_row p.layout.classes x).first + (class_row p.layout.classes x).count)
      (watch_all (hub_of p c) k z u (class_row p.layout.classes x).first (class_row p.layout.classes x).count s))
      × Goal (message.Ask k z (query.Class x u)) e em wt.recs'
  ask_part k z x u e em = (
    wt,
    moving m e em wt.recs' r _
        (ap (λ b. lift p (cond b (no_clp_sends s) (and_then r1 (registered (hub_of p c) fn k z x u)))) known ∙ split_is)
        (build p q w recs sim c lc from m t e em r wt.recs' core queries places
        (λ y i. (each y i).3) refl unmoved_all there_all (λ v h. wt.same v (λ y f. let g = ap stands_at f in cc))),
  )
    where
      m : Message
      m = message.Ask k z (query.Class x u)

      first : ℕ
      first = (class_row p.layout.classes x).first

      count : ℕ
      count = (class_row p.layout.classes x).count

      r1 : ClpSends
      r1 = watch_all (hub_of p c) k z u first count s

      ds : List ℕ
      ds = filter (sent_on (hub_of p c) r1.clp.bound fn x z u) ((ports p c))

      R : Registered
      R = record { num = k; stamp = z; class = x; window = u; from = fn; sent = ds; waits = ds }

      mail0 : In (mail_to (AtClp c) from m) (mail w.links)
      mail0 = mail_in p q w recs sim c lc from m t e em

      from_is : from ≡ toward p c k.agent
      from_is = (sim.queries.asks c from k z x u mail0).1

      fn_is : process p fn ≡ from
      fn_is = subst (λ f. process p (number p f) ≡ f) (sym from_is) (process_toward p w.line sim.tree c lc k.agent)

      ds_in : (d : ℕ) → In d ds → In d (ports p c) × (from ≡ AtClp d → ⊥)
      ds_in d i = (let f = in_filter (sent_on (hub_of p c) r1.clp.bound fn x z u) (ports p c) d i in
          (f.0, λ g. not_it d f.1 (ap (number p) g)))
        where
          not_it : (d : ℕ) → sent_on (hub_of p c) r1.clp.bound fn x z u d ≡ true → fn ≡ d → ⊥
          not_it d a b = (let g : (fn == d) ≡ true = grind (arith, nat_tests, b) in
              let y : sent_on (hub_of p c) r1.clp.bound fn x z u d ≡ false = rw g refl in cc)

      gone : List Posted
      gone = map (posted p) r1.sent

      r : HubSends
      r = record { clp = record r1.clp { queries = add_reg R r1.clp.queries }; sent = gone ++ fwd p c from R ds }

      split_is : lift p (and_then r1 (registered (hub_of p c) fn k z x u)) ≡ r
      split_is = ap (λ ss. record { clp = record r1.clp { queries = add_reg R r1.clp.queries }; sent = ss })
          (map-append (posted p) r1.sent (forwards (hub_of p c) fn R ds)
          ∙ ap (λ ss. gone ++ ss) (fwd_is p c from R fn fn_is ds (λ d i. sim.tree.inside c d (ds_in d i).0)))

      w' : World
      w' = landed p q w recs sim c lc from m t e em r

      h : ℕ
      h = home p k.agent

      letter : MailOk p sim.issued m × NotPast w.line z
      letter = sim.core.mail m (letter_in p q w recs sim c lc from m t e em)

      at0 : (v : ℕ) → first ≤ v → v < first + count → (v < vars_of p) × (class_at p v ≡ x)
      at0 v lo hi = (
        (let g = sim.shape.range x in let e' = sim.shape.vars in omega (arith, g, e', hi)),
        sim.shape.of_range x v lo hi,
      )

      wt : Watched p w.line q sim.issued w.agents (pend_of p q w recs sim c lc from m t e em w) (wait_of p q
          w recs sim c lc from m t e em w) c k z x u letter.0 letter.1 recs (letters w.links) s first (first + count) r1
      wt = watch_fold p w.line q sim.issued
          w.agents (pend_of p q w recs sim c lc from m t e em w) (wait_of p q w recs sim c lc from m t e em w) c k z x
          u letter.0 letter.1 count first s recs (letters w.links) at0 sim.core (λ v y f. (sim.places.at c v y lc f).1)

      unmoved_all : (y : Posted) → In y r.sent → unmoved y.message ≡ true
      unmoved_all y i = elim (in_cases gone (fwd p c from R ds) y i) [
        | inl j ↦ (let b = in_map (posted p) r1.sent y j in let g =
            wt.gives b.0 b.1 in ap (λ (y' : Posted). unmoved y'.message) (b.2 ∙ ap (posted p) g.1))
        | inr j ↦ elim (out_is p c from R ds y j) [
          | inl o ↦ ap (λ (y' : Posted). unmoved y'.message) o.2
          | inr o ↦ ap (λ (y' : Posted). unmoved y'.message) o
        ]
      ]

      there_all : (v : ℕ) → stands_at (rec_at r1.clp.records v) ≡ stands_at (rec_at s.records v)
      there_all v = go (rec_at s.records v) refl (rec_at r1.clp.records v) refl
        where
          go : (o : Option Parts) → rec_at s.records v ≡ o → (o' : Option Parts)
              → rec_at r1.clp.records v ≡ o' → stands_at (rec_at r1.clp.records v) ≡ stands_at (rec_at s.records v)
          go (Some y) f o' g = (let x = wt.goes v y f in ap stands_at x.1 ∙ sym (ap stands_at f))
          go None f None g = ap stands_at g ∙ sym (ap stands_at f)
          go None f (Some y) g = absurd (let x = wt.back v y g in let h : None ≡ Some x.0 = sym f ∙ x.1 in cc)

      gives : List Mail
      gives = sent_mail (AtClp c) gone

      split : Bag (gives ++ mail w.links) (mail w'.links) (mail_to (AtClp c) from m ∷ []) (fw p c from R ds)
      split = bag_split (mail w.links) (mail w'.links) (mail_to (AtClp c) from m ∷ []) gives (fw p c from R ds)
          (subst (Bag (mail w.links) (mail w'.links) (mail_to (AtClp c) from m ∷ [])) (map-append (λ (y : Posted).
          mail_to y.to (AtClp c) y.message) gone (fwd p c from R ds)) (bag p q w recs sim c lc from m t e em r))

      give_plain : (y : Mail) → In y gives → special y.message ≡ false
      give_plain y i = (let o = in_map (λ (y' : Posted). mail_to y'.to (AtClp c) y'.message) gone y i in let b =
          in_map (posted p) r1.sent o.0 o.1 in let g = wt.gives b.0 b.1 in ap (λ (y' : Mail). special y'.message) o.2
          ∙ (ap (λ (y' : Posted). special y'.message) b.2 ∙ ap (λ (y' : Sent). special y'.message) g.1))

      more : Bag (mail w.links) (gives ++ mail w.links) [] gives
      more = record {
        tallies = λ P. omega (arith, tally_append P gives (mail w.links));
        kept = λ y i. inr (in_right gives (mail w.links) y i);
        from = λ y i. elim (in_cases gives (mail w.links) y i) [ inl j ↦ inr j | inr j ↦ inl j ];
        added = λ y i. in_left gives (mail w.links) y i;
        first = λ y i. absurd i;
      }

      queries0 : QueriesOk p w.line sim.issued (queries_at w) (gives ++ mail w.links)
      queries0 = queries_plain p w.line sim.tree sim.issued
          (queries_at w) (mail w.links) (gives ++ mail w.links) [] gives more (λ y i. absurd i) give_plain sim.queries

      known : has_reg k s.queries ≡ false
      known = unregistered k z x u mail0

      hr : queries_at w' c ≡ add_reg R s.queries
      hr = qs_here m e em r ∙ ap (add_reg R) wt.queries

      th : (d : ℕ) → (d ≡ c → ⊥) → queries_at w' d ≡ queries_at w d
      th d ne = qs_there m e em r d ne

      ds_once : (d : ℕ) → tally (λ e'. d == e') ds ≤ 1
      ds_once d = (let a = filter_tally (sent_on (hub_of p c) r1.clp.bound fn x z u) d (ports p c) in let b =
          sim.tree.once c d in omega arith)

      queries : QueriesOk p w.line sim.issued (queries_at w') (mail w'.links)
      queries = queries_ask p w.line sim.tree sim.issued (queries_at w) (queries_at w') (gives ++ mail w.links)
          (mail w'.links) queries0 c lc from fn fn_is k z x u ds ds_in ds_once (fw p c from R ds) hr th split
          (fw_ask p c from R ds) (fw_end p c from R ds) (fw_is p c from R ds) (fw_tally p c from R ds) letter.0 letter.1

      goes_on : (n' : Num) (d : ℕ) (f : Process) → f ≡ toward p d n'.agent
          → Goes (queries_at w) (mail w.links) n' d f → Goes (queries_at w') (mail w'.links) n' d f
      goes_on n' d f ef g = ask_goes p w.line sim.tree sim.issued (queries_at w) (queries_at w') (gives ++ mail w.links)
          (mail w'.links) queries0 c lc from fn fn_is k z x u ds ds_in ds_once (fw p c from R ds) hr th split
          (fw_ask p c from R ds)
          (fw_end p c from R ds) (fw_is p c from R ds) (fw_tally p c from R ds) letter.0 letter.1 n' d f ef
          (goes_plain p w.line
          sim.tree (queries_at w) (mail w.links) (gives ++ mail w.links) [] gives more (λ y i. absurd i) n' d f g)

      hopes : Hopes p q sim.issued wt.recs' (pend_of p q w recs sim c lc from m t e em w) (pend_of p q w recs sim c lc
          from m t e em w') (wait_of p q w recs sim c lc from m t e em w) (wait_of p q w recs sim c lc from m t e em w')
      hopes = record {
        ends = λ n' g. goes_on n' (home p n'.agent) (AtAgent n'.agent) (sym (toward_home p w.line sim.tree n'.agent)) g;
        asks = λ n' s' k' u' v i lt ec g. inl (begun n' g);
      }
        where
          begun : (n' : Num) → Begun p (queries_at w) (mail w.links) n' → Begun p (queries_at w') (mail w'.links) n'
          begun n' (inl g) = inl (elim (cases_eq (home p n'.agent) c) [
            | inl f ↦ subst
                (λ d. has_reg n' (queries_at w' d) ≡ true) (sym f) (ap (has_reg n') hr ∙ (add_reg_has R s.queries n'
                ∙ or_right (num_eq n' k) (has_reg n' s.queries) (subst (λ d. has_reg n' (queries_at w d) ≡ true) f g)))
            | inr ne ↦ ap (has_reg n') (th (home p n'.agent) ne) ∙ g
          ])
          begun n' (inr (t', y, u2, g)) = elim (split.kept _ (in_right gives (mail w.links) _ g)) [
            | inr g' ↦ inr (t', y, u2, g')
            | inl g' ↦ elim g' [
              | inr b ↦ absurd b
              | inl f ↦ (let a = mail_same (AtClp (home p n'.agent)) (AtAgent n'.agent)
                  (AtClp c) from (message.Ask n' t' (query.Class y u2)) (message.Ask k z (query.Class x u)) f in
                  let hc : home p n'.agent ≡ c = clp_parts (home p n'.agent) c a.0 in
                  let nk : n' ≡ k = (ask_parts n' k t' z y x u2 u a.2).0 in
                  inl (subst (λ d. has_reg n' (queries_at w' d) ≡ true)
                  (sym hc) (ap (has_reg n') hr ∙ (add_reg_has R s.queries n'
                  ∙ (let g2 : num_eq n' k ≡ true = ap (λ z'. num_eq z' k) nk ∙ num_eq_self k in rw g2)))))
            ]
          ]

      each : (y : Posted) → In y r.sent → (special y.message ≡ special y.message)
          × (neutral y.message ≡ neutral y.message) × (y.message ≡ y.message) × FitsAt N n y.to (AtClp c) y.message
      each y i = (
        refl,
        refl,
        refl,
        elim (in_cases gone (fwd p c from R ds) y i) [
          | inl j ↦ (let b = in_map (posted p) r1.sent y j in let g =
              wt.gives b.0 b.1 in subst (λ (y' : Posted). FitsAt N n y'.to (AtClp c) y'.message)
              (sym (b.2 ∙ ap (posted p) g.1)) (toward_fits p q w recs sim c lc from m t e em g.0))
          | inr j ↦ elim (out_is p c from R ds y j) [
            | inl o ↦ subst (λ (y' : Posted). FitsAt N n y'.to (AtClp c) y'.message)
                (sym o.2) (sim.tree.inside c o.0 (ds_in o.0 o.1).0, tt)
            | inr o ↦ subst (λ (y' : Posted). FitsAt N n y'.to (AtClp c) y'.message)
                (sym o) (subst (λ y'. FitsAt N n y' (AtClp c) (message.Finish k z)) (sym from_is) (end_fits k z))
          ]
        ],
      )

      places : PlacesOk p n w.line wt.recs' sim.place (clp_at w')
      places = places_watched p w.line q sim.issued w.agents
          (pend_of p q w recs sim c lc from m t e em w) (wait_of p q w recs sim c lc from m t e em w) c k z x u letter.0
          letter.1 n sim.place (clp_at w) (clp_at w') recs (letters w.links) first (first + count) r1 lc sim.places wt
          (ap (λ (y : ClpState). y.line) (clp_here p q w recs sim c lc from m t e em r) ∙ wt.line)
          (ap (λ (y : ClpState). y.routing) (clp_here p q w recs sim c lc from m t e em r) ∙ wt.routing)
          (ap (λ (y : ClpState). y.records) (clp_here p q w recs sim c lc from m t e em r))
          (λ d ne. clp_there p q w recs sim c lc from m t e em r d ne)

      core : Core p w.line q sim.issued w.agents wt.recs' (letters w'.links)
          (pend_of p q w recs sim c lc from m t e em w') (wait_of p q w recs sim c lc from m t e em w')
      core = core_neutral p w.line q sim.issued w.agents wt.recs' wt.old'
          (letters w'.links) _ _ _ _ wt.core hopes (m ∷ []) (map (λ (y : Posted). y.message) (fwd p c from R ds))
          (wt.bag (letters w'.links) (m ∷ []) (map (λ (y : Posted). y.message) (fwd p c from R ds))
          (subst (Bag (letters w.links) (letters w'.links) (m ∷ []))
          (letters_sent r.sent ∙ (map-append (λ (y : Posted). y.message) gone (fwd p c from R ds)
          ∙ ap (λ z. z ++ map (λ (y : Posted). y.message) (fwd p c from R ds)) (letters_posted p r1.sent)))
          (bag_map message_of (mail w.links) (mail w'.links) _ _ (bag p q w recs sim c lc from m t e em r))))
          (λ y i. elim i [ inl f ↦ ap neutral f | inr j ↦ absurd j ])
          (λ y i. (let o =
          in_map (λ (y' : Posted). y'.message) (fwd p c from R ds) y i in elim (out_is p c from R ds o.0 o.1) [
            | inl a ↦
                subst (λ (y' : Message). (neutral y' ≡ true) × MailOk p sim.issued y' × NotPast w.line (stamp_of y'))
                (sym (o.2 ∙ ap (λ (y' : Posted). y'.message) a.2)) (refl, letter.0, letter.1)
            | inr a ↦
                subst (λ (y' : Message). (neutral y' ≡ true) × MailOk p sim.issued y' × NotPast w.line (stamp_of y'))
                (sym (o.2 ∙ ap (λ (y' : Posted). y'.message) a)) (refl, (x, u, letter.0), letter.1)
          ]))
