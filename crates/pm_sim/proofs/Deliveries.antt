-- A delivery in the world.
use Rattle.pm_saved.specs.Spots.{find}
use Rattle.pm_sim.specs.Bounds.{item_of}
use Rattle.pm_sim.proofs.Fulls.{Full, taken_full, told_full, put_reads, cut_reads, watch_reads, placed}
use Rattle.pm_sim.proofs.FullRoutes.{forward_full, finish_full, ask_full, grow_full}
use Rattle.pm_sim.proofs.Changes.{NamesAt, put_told, cut_told}
use Rattle.pm_periods.specs.Rows.{IsInOrder, put_key}
use Rattle.pm_sim.proofs.Watches.{watch_value}
use Rattle.pm_sim.proofs.Stamps.{nums_same}
use Rattle.pm_clp.specs.Clps.{ClpState, rec_at, take_put, take_cut, take_watch, way_of, and_then, at_record, on_way, telling, clp_after, counting}
use Rattle.std.proofs.Common.{◌≡◌, ℕ, ◌<◌, inl, [], ◌∷◌, length, get_or, refl, ap, sym, ◌∙◌, subst, Option, Some, None}
use Rattle.pm_base.specs.declared.rows.CutRow.{CutRow}
use Rattle.pm_base.specs.declared.rows.Parts.{Parts}
use Rattle.pm_base.specs.declared.rows.PutRow.{PutRow}
use Rattle.pm_base.specs.declared.stamp.Num.{Num}
use Rattle.pm_base.specs.declared.stamp.Stamp.{Stamp}
use Rattle.pm_base.specs.declared.value.Window.{Window}
use Rattle.pm_base.specs.Windows.{whole}
use Rattle.pm_message.specs.Messages.{stamp_of}
use Rattle.pm_message.specs.declared.Message.{Message}
use Rattle.pm_model.specs.declared.State.{State}
use Rattle.pm_periods.specs.Records.{cut_row}
use Rattle.pm_plan.specs.declared.plan.Plan.{Plan}
use Rattle.pm_alp.specs.Agents.{no_agent, on_finish, on_give, on_wake}
use Rattle.pm_sim.specs.Worlds.{Process, Taken, World, actor_of, deliver, take_from, clps_of, arrives, delivered, number, hub_of, process}
use Rattle.pm_sim.specs.Worlds.Process.{AtClp, AtAgent}
use Rattle.pm_sim.specs.Sims.{NotPast, cut_msg, put_msg}
use Rattle.pm_sim.specs.Routings.{FitsAt, ForAgent, ForClp, IsClp, mail_to}
use Rattle.pm_sim.proofs.Letters.{taken}
use Rattle.pm_sim.proofs.Locals.{wake_part, give_part, finish_agent}
use Rattle.pm_sim.proofs.Places.{clp_at, Sim, HubSends, set_rec, set_here, landed, mail_in, letter_in, clp_here, forwarded, toward_fits, lift, hub_then, to_agent_of}
use Rattle.pm_sim.proofs.Hubs.{port_part, counts, told_r, taken_r, put_here, cut_here, one_here, put_is, cut_is, one_is}
use Rattle.pm_routes.specs.declared.way.Way.{Way}
use Rattle.pm_sim.proofs.Comings.{move_size, move_sim}
use Rattle.pm_sim.proofs.Movings.{counted_full, watched, move_kept}
use Rattle.pm_sim.proofs.Acts.{acts_then, acts}
use Rattle.pm_sim.proofs.FullCommits.{agent_full}
use Rattle.pm_base.specs.declared.value.Query.TheVariants as query
use Rattle.pm_message.specs.declared.Message.TheVariants as message
use Rattle.pm_routes.specs.declared.way.Way.TheVariants as way

module _ (p : Plan)
    (q : State) (w : World) (full : Full p q w) (c : ℕ) (lc : c < clps_of p) (from : Process) (t : Taken) where
  abbrev recs : ℕ → Parts
  recs = full.recs

  abbrev sim : Sim p q w recs
  sim = full.sim

  abbrev s : ClpState
  s = clp_at w c

  abbrev n : ℕ
  n = length q.values

  abbrev Into : (m : Message) (e : take_from (AtClp c) from w.links ≡ Some t) (em : t.message ≡ m) → HubSends → World
  Into m e em r = landed p q w recs sim c lc from m t e em r

  abbrev Goal : (m : Message) (e : take_from (AtClp c) from w.links ≡ Some t) (em : t.message ≡ m) → Type 0
  Goal m e em = Full p q (Into m e em (lift p (clp_after (hub_of p c) (number p from) m s)))

  abbrev fn : ℕ
  fn = number p from

  -- and then it is counted
  then_counted : (m : Message) (e : take_from (AtClp c) from w.links ≡ Some t)
      (em : t.message ≡ m) (r : HubSends) (v : ℕ) → Full p q (Into m e em r)
      → lift p (clp_after (hub_of p c) fn m s) ≡ hub_then r (counts p q w recs sim c lc from t v) → Goal m e em
  then_counted m e em r v f is =
      let w1 : World = Into m e em r in
      subst (λ y. Full p q (Into m e em y))
      (sym is) (subst (Full p q) (sym (acts_then w c t.links r (counts p q w recs sim c lc from t v) w1 refl))
      (subst (λ y. Full p q (acts w1 c (counts p q w recs sim c lc from t v y)))
      (clp_here p q w recs sim c lc from m t e em r) (counted_full
      p q w1 f c lc v fn (stamp_of m) (sim.core.mail m (letter_in p q w recs sim c lc from m t e em)).1)))

  -- it goes on over a port
  away : (m : Message) (e : take_from (AtClp c) from w.links ≡ Some t) (em : t.message ≡ m) (d : ℕ)
      → lift p (clp_after (hub_of p c) fn m s) ≡ lift p (record { clp = s; sent = record { to = d; message = m } ∷ [] })
      → Sim p q (Into m e em (lift p (record { clp = s; sent = record { to = d; message = m } ∷ [] }))) recs
      → ((k : ℕ) → item_of p k m ≡ [])
      → ((k : Num) (z : Stamp) (j : ℕ) (u : Window) → message.Ask k z (query.Class j u) ≡ m → ⊥) → Goal m e em
  away m e em d is sim' none other = subst (λ y. Full p q (Into m e em y))
      (sym is) (forward_full p q w recs sim full.asked full.bounds c lc from t m e em (process p d) sim' none other)

  low : (m : Message) (e : take_from (AtClp c) from w.links ≡ Some t) (em : t.message ≡ m) → NotPast w.line (stamp_of m)
  low m e em = (sim.core.mail m (letter_in p q w recs sim c lc from m t e em)).1

  put_part : (v : ℕ) (row : PutRow) (e : take_from (AtClp c) from w.links ≡ Some t) (em : t.message ≡ put_msg v row)
      → v < n → (y : Way) → way_of v s ≡ y → Goal (put_msg v row) e em
  put_part v row e em lv (way.Port d) ey = away (put_msg v row)
      e em d (ap (λ y. lift p (on_way (hub_of p c) y (put_msg v row) s (λ z'. and_then (and_then (at_record
      (hub_of p c) v (take_put v row) z') (telling (hub_of p c) v row.stamp)) (counting (hub_of p c) v fn)))) ey)
      (port_part p q w recs sim c lc from t (put_msg v row) e em d refl refl (sim.places.port c v d lc lv ey) lv)
      (λ h. refl) (λ k z j u f. cc)
  put_part v row e em lv way.Here ey =
      let at : rec_at s.records v ≡ Some (recs v) = sim.places.here c v lc lv ey in
      let sim' = put_here p q w recs sim c lc from t v row e em lv ey in
      then_counted (put_msg v row) e em (told_r p q w recs sim c lc from t v (take_put v row) row.stamp) v
      (told_full p q w recs sim full.asked full.bounds c lc from (put_msg v row) t e em v (take_put v row) row.stamp
      at (low (put_msg v row) e em) sim' (λ k. refl) (λ k z j u f. cc) (λ m h. put_reads v row (recs v) m ∙ h)
      (λ y u. put_told v row (recs v) y u (subst (λ (r : Parts). IsInOrder put_key r.puts)
      (set_here recs v (take_put v row (recs v)).rec) (sim'.core.rec v).solid.puts)))
      (put_is p q w recs sim c lc from t v row lv ey)

  -- the put that a Cut names has its stamp
  names : (v : ℕ) (row : CutRow) (e : take_from (AtClp c) from w.links ≡ Some t) (em : t.message ≡ cut_msg v row)
      → NamesAt row (recs v).puts
  names v row e em x i f =
      let o = (sim.core.mail (cut_msg v row) (letter_in p q w recs sim c lc from (cut_msg v row) t e em)).0 in
      let a = (sim.core.rec v).puts x i in
      let b : put_msg v x ≡ put_msg v (record { num = row.num; stamp = row.stamp; change = o.0 }) =
      sim.core.unique _ _ a.0 o.1 (nums_same x.num row.num f) in
      ap stamp_of b

  cut_part : (v : ℕ) (row : CutRow) (e : take_from (AtClp c) from w.links ≡ Some t) (em : t.message ≡ cut_msg v row)
      → v < n → (y : Way) → way_of v s ≡ y → Goal (cut_msg v row) e em
  cut_part v row e em lv (way.Port d) ey =
      away (cut_msg v row) e em d (ap (λ y. lift p (on_way (hub_of p c) y (cut_msg v row)
      s (λ z'. and_then (at_record (hub_of p c) v (take_cut v row) z') (telling (hub_of p c) v row.stamp)))) ey)
      (port_part p q w recs sim c lc from t (cut_msg v row) e em d refl refl (sim.places.port c v d lc lv ey) lv)
      (λ h. refl) (λ k z j u f. cc)
  cut_part v row e em lv way.Here ey =
      let at : rec_at s.records v ≡ Some (recs v) = sim.places.here c v lc lv ey in
      let sim' = cut_here p q w recs sim c lc from t v row e em lv ey in
      subst (λ y. Full p q (Into (cut_msg v row) e em y)) (sym (cut_is p q w recs sim c lc from t v row lv ey))
      (told_full p q w recs sim full.asked full.bounds c lc from (cut_msg v row) t e em v (take_cut v row) row.stamp
      at (low (cut_msg v row) e em) sim' (λ k. refl) (λ k z j u f. cc) (λ m h. cut_reads v row (recs v) m ∙ h)
      (λ y u. cut_told v row (recs v) y u (subst (λ (r : Parts). IsInOrder put_key r.puts)
      (set_here recs v (take_cut v row (recs v)).rec) (sim'.core.rec v).solid.puts) (names v row e em)))

  one_part : (k : Num) (z : Stamp) (v : ℕ) (e : take_from (AtClp c) from w.links ≡ Some t) (em : t.message
      ≡ message.Ask k z (query.One v)) → v < n → (y : Way) → way_of v s ≡ y → Goal (message.Ask k z (query.One v)) e em
  one_part k z v e em lv (way.Port d) ey = away
      (message.Ask k z (query.One v)) e em d (ap (λ y. lift p (on_way (hub_of p c) y (message.Ask k z (query.One v))
      s (λ z'. and_then (at_record (hub_of p c) v (take_watch v k z whole) z') (counting (hub_of p c) v fn)))) ey)
      (port_part p q w recs sim c lc from t (message.Ask k z (query.One v))
      e em d refl refl (sim.places.port c v d lc lv ey) lv) (λ h. refl) (λ m z' j u f. cc)
  one_part k z v e em lv way.Here ey =
      let at : rec_at s.records v ≡ Some (recs v) = sim.places.here c v lc lv ey in
      then_counted
      (message.Ask k z (query.One v)) e em (taken_r p q w recs sim c lc from t v (take_watch v k z whole)) v
      (taken_full p q w recs sim full.asked full.bounds c lc from (message.Ask k z (query.One v))
      t e em v (take_watch v k z whole) at (one_here p q w recs sim c lc from t k z v e em lv ey) (λ j. refl)
      (λ m z' j u f. cc) (λ y. watch_value v k z whole (recs v) y) (λ m h. watch_reads v k z whole (recs v) m h))
      (one_is p q w recs sim c lc from t k z v lv ey)

  pub clp_part : (m : Message) (e : take_from (AtClp c) from w.links ≡ Some t) (em : t.message ≡ m)
      → ForClp n from m → Full p q (arrives p w (AtClp c) from m t.links)
  clp_part (message.Put r_n r_t v r_c) e em fit =
      put_part v (record { num = r_n; stamp = r_t; change = r_c }) e em fit (way_of v s) refl
  clp_part (message.Cut r_n r_t v) e em fit = cut_part v (cut_row r_n r_t) e em fit (way_of v s) refl
  clp_part (message.Ask k z (query.One v)) e em fit = one_part k z v e em fit (way_of v s) refl
  clp_part (message.Ask k z (query.Class x u)) e em fit =
      ask_full p q w recs sim full.asked full.bounds c lc from t k z x u e em
  clp_part (message.Give g) e em fit = forward_full p q w recs sim full.asked full.bounds c lc from t (message.Give g)
      e em (to_agent_of p c g).to (forwarded p q w recs sim c lc from (message.Give g) t e em (to_agent_of p c g).to
      refl refl (toward_fits p q w recs sim c lc from (message.Give g) t e em g)) (λ k. refl) (λ k z j u f. cc)
  clp_part (message.Finish k z) e em fit = go from refl fit
    where
      go : (f : Process) → from ≡ f → IsClp f → Full p q (arrives p w (AtClp c) from (message.Finish k z) t.links)
      go (AtClp d0) ef h = finish_full p q w recs sim full.asked full.bounds c lc from t k z d0 e em ef
      go (AtAgent a) ef h = absurd h
  clp_part (message.Grow k z y u) e em fit = go from refl fit
    where
      go : (f : Process) → from ≡ f → IsClp f → Full p q (arrives p w (AtClp c) from (message.Grow k z y u) t.links)
      go (AtClp d) ef h = grow_full p q w recs sim full.asked full.bounds c lc from t k z y u d e em ef
      go (AtAgent a) ef h = absurd h
  clp_part (message.Wake k z) e em fit = absurd fit
  clp_part (message.Move v z r) e em fit =
      let pl = placed p q w recs sim in
      let size =
      move_size p q w recs sim c lc from v z r (mail_in p q w recs sim c lc from (message.Move v z r) t e em) in
      let wt = watched p q w recs sim full.asked full.bounds pl c lc from v z r t e em size in
      let kept = move_kept p q w recs sim full.asked full.bounds pl c lc from v z r t e em size in
      record {
        recs = set_rec recs v wt.y;
        sim = move_sim p q w recs sim c lc from v z r t e em wt;
        asked = kept.asked;
        bounds = kept.bounds;
      }

agent_part : (p : Plan) (q : State) (w : World) (a : ℕ) (from : Process) (t : Taken) (m : Message)
    → Full p q w → take_from (AtAgent a) from w.links ≡ Some t
    → t.message ≡ m → ForAgent a m → Full p q (arrives p w (AtAgent a) from m t.links)
agent_part p q w a from t (message.Wake k s) f e em fit =
    agent_full p q w f.recs f.sim f.asked f.bounds a from (message.Wake k s)
    t e em (on_wake (actor_of p a) (get_or w.agents a no_agent) k (get_or w.agents a no_agent).awaited)
    (wake_part p q w f.recs f.sim a from k s t e em fit)
agent_part p q w a from t (message.Give g) f e em fit =
    agent_full p q w f.recs f.sim f.asked f.bounds a from (message.Give g)
    t e em (on_give (actor_of p a) (get_or w.agents a no_agent) g (find g.num (get_or w.agents a no_agent).steps))
    (give_part p q w f.recs f.sim a from g t e em fit)
agent_part p q w a from t (message.Finish k s) f e em fit =
    agent_full p q w f.recs f.sim f.asked f.bounds a from (message.Finish k s)
    t e em (on_finish (actor_of p a) (get_or w.agents a no_agent) (find k (get_or w.agents a no_agent).steps))
    (finish_agent p q w f.recs f.sim a from k s t e em fit)
agent_part p q w a from t (message.Ask k s y) f e em fit = absurd fit
agent_part p q w a from t (message.Put r_n r_t v r_c) f e em fit = absurd fit
agent_part p q w a from t (message.Cut r_n r_t v) f e em fit = absurd fit
agent_part p q w a from t (message.Move v z r) f e em fit = absurd fit
agent_part p q w a from t (message.Grow j z y u) f e em fit = absurd fit

-- a delivery keeps the whole fact
pub deliver_full : (p : Plan) (q : State) (w : World) (to from : Process) → Full p q w → Full p q (deliver p w to from)
deliver_full p q w to from full = go (take_from to from w.links) refl
  where
    by : (to' : Process) (t : Taken) → take_from to' from w.links ≡ Some t
        → FitsAt (clps_of p) (length q.values) to' from t.message → Full p q (arrives p w to' from t.message t.links)
    by (AtClp c) t e fit = clp_part p q w full c fit.0 from t t.message e refl fit.1
    by (AtAgent a) t e fit = agent_part p q w a from t t.message full e refl fit

    go : (o : Option Taken) → take_from to from w.links ≡ o → Full p q (delivered p w to from o)
    go None e = full
    go (Some t) e =
        by to t e (full.sim.fits (mail_to to from t.message) ((taken to from w.links t e).into _ (inl refl)))
