-- What an action leaves as it is.
use Rattle.std.proofs.Common.{◌≡◌, ℕ, zero, suc, List, [], ◌∷◌, Option, Some, None, refl, ap, ◌∙◌, set}
use Rattle.std.proofs.lemmas.Bool.{cond_both}
use Rattle.pm_base.specs.Windows.{point_of}
use Rattle.pm_base.specs.declared.rows.Parts.{Parts}
use Rattle.pm_base.specs.declared.stamp.Interval.{Interval}
use Rattle.pm_base.specs.declared.stamp.Num.{Num}
use Rattle.pm_base.specs.declared.stamp.Stamp.{Stamp}
use Rattle.pm_base.specs.declared.value.Period.{Period}
use Rattle.pm_base.specs.declared.value.Window.{Window}
use Rattle.pm_message.specs.declared.Message.TheVariants as message
use Rattle.pm_periods.specs.Periods.{periods_from}
use Rattle.pm_queries.specs.declared.registered.Registered.{Registered}
use Rattle.pm_queries.specs.declared.registered.Sent.{Sent}
use Rattle.pm_ranges.specs.Known.{Known, covers}
use Rattle.pm_tables.specs.Tables.{grow_at, known_at}
use Rattle.pm_clp.specs.Clps.{Answered, ClpSends, ClpState, Hub, and_then, at_record, class_at, no_clp_sends}
use Rattle.pm_clp.specs.Clps.{on_record, rec_at, take_watch, tell, tell_from, tell_one}
use Rattle.pm_clp.specs.Clps.{tell_periods, tell_record, telling, watch_all}
use Rattle.pm_clp.specs.Views.{ClpView, Did, DidRaise, watch_at}

-- a part of the state that no record tells of
pub record_keeps : {X : Type 0} (p : ClpState → X)
    → ((s : ClpState) (rs : List (Option Parts)) → p (record s { records = rs }) ≡ p s)
    → (h : Hub) (v : ℕ) (f : Parts → Answered) (s : ClpState) → p (at_record h v f s).clp ≡ p s
record_keeps p e h v f s = by (rec_at s.records v)
  where
    by : (r : Option Parts) → p (on_record h v f r s).clp ≡ p s
    by None = refl
    by (Some r) = e s (set s.records v (Some (f r).rec))

-- a part of the state that doesn't tell what was told
module _ {X : Type 0} (p : ClpState → X) (e : (s : ClpState) (t : List (List Known))
    → p (record s { told = t }) ≡ p s) (h : Hub) where
  tell_one-keeps : (k : ℕ) (from : Stamp) (until : Option Stamp) (w : Window) (d : ℕ) (s : ClpState)
      → p (tell_one h k from until w d s).clp ≡ p s
  tell_one-keeps k from until w d s =
      let when : Interval = record { from = Some from; until = until } in
      let told : ClpSends = record {
        clp = record s { told = grow_at h.ports d k when w s.told };
        sent = record { to = d; message = message.Grow k from until w } ∷ [];
      } in
      cond_both (covers (known_at h.ports d k s.told) when w) (no_clp_sends s) told (λ (r : ClpSends). p r.clp ≡ p s)
      (λ _. refl) (λ _. e s (grow_at h.ports d k when w s.told))

  tell-keeps : (k : ℕ) (from : Stamp) (until : Option Stamp) (w : Window) (ds : List ℕ) (s : ClpState)
      → p (tell h k from until w ds s).clp ≡ p s
  tell-keeps k from until w [] s = refl
  tell-keeps k from until w (d ∷ ds) s =
      tell-keeps k from until w ds (tell_one h k from until w d s).clp ∙ tell_one-keeps k from until w d s

  tell_from-keeps : (k : ℕ) (from : Option Stamp) (r : Period) (s : ClpState) → p (tell_from h k from r s).clp ≡ p s
  tell_from-keeps k None r s = refl
  tell_from-keeps k (Some from) r s = tell-keeps k from r.when.until (point_of r.value) h.ports s

  tell_periods-keeps : (k : ℕ) (rs : List Period) (s : ClpState) → p (tell_periods h k rs s).clp ≡ p s
  tell_periods-keeps k [] s = refl
  tell_periods-keeps k (r ∷ rs) s = tell_periods-keeps k rs (tell_from h k r.when.from r s).clp
      ∙ tell_from-keeps k r.when.from r s

  pub telling-keeps : (v : ℕ) (from : Stamp) (s : ClpState) → p (telling h v from s).clp ≡ p s
  telling-keeps v from s = by (rec_at s.records v)
    where
      by : (r : Option Parts) → p (tell_record h v from r s).clp ≡ p s
      by None = refl
      by (Some r) = tell_periods-keeps (class_at h v) (periods_from r (Some from)) s

-- the records of a class take a read
watch_all-keeps : {X : Type 0} (p : ClpState → X) → ((s : ClpState) (rs : List (Option Parts))
    → p (record s { records = rs }) ≡ p s)
    → (h : Hub) (n : Num) (t : Stamp) (w : Window) (i m : ℕ) (s : ClpState) → p (watch_all h n t w i m s).clp ≡ p s
watch_all-keeps p e h n t w i zero s = refl
watch_all-keeps p e h n t w i (suc m) s =
    watch_all-keeps p e h n t w (suc i) m (at_record h i (take_watch i n t w) s).clp
    ∙ record_keeps p e h i (take_watch i n t w) s

-- a read leaves the ways
pub record_ways : (a b : ClpView) (x y : List Sent) (h : Hub) (v : ℕ) (f : Parts → Answered)
    → Did a b x y (at_record h v f) → b.clp.routing ≡ a.clp.routing
record_ways a b x y h v f d = ap (λ (z : ClpView). z.clp.routing) d.state
    ∙ record_keeps (λ (s : ClpState). s.routing) (λ s rs. refl) h v f a.clp

-- so does a letter of which the ports are told
pub told_ways : (a b : ClpView) (x y : List Sent) (h g : Hub) (v u : ℕ) (f : Parts → Answered) (from : Stamp)
    → DidRaise a b x y (λ s. and_then (at_record h v f s) (telling g u from)) → b.clp.routing ≡ a.clp.routing
told_ways a b x y h g v u f from d =
    ap (λ (z : ClpView). z.clp.routing) d.state
    ∙ telling-keeps (λ (s : ClpState). s.routing) (λ s t. refl) g u from (at_record h v f a.clp).clp
    ∙ record_keeps (λ (s : ClpState). s.routing) (λ s rs. refl) h v f a.clp

-- reads leave the queries
pub watched_queries : (a b : ClpView) (x y : List Sent) (h : Hub) (n : Num) (t : Stamp) (w : Window) (i m : ℕ)
    → Did a b x y (watch_all h n t w i m)
    → b.clp.queries ≡ a.clp.queries
watched_queries a b x y h n t w i m d =
    ap (λ (z : ClpView). z.clp.queries) d.state ∙ watch_all-keeps (λ (s : ClpState). s.queries) (λ s rs. refl) h n t
    w i m a.clp

pub watch_queries-keep : (a b : ClpView) (x y : List Sent) (h : Hub) (v : ℕ) (q : Option Registered)
    → Did a b x y (watch_at h v q) → b.clp.queries ≡ a.clp.queries
watch_queries-keep a b x y h v q d = ap (λ (z : ClpView). z.clp.queries) d.state ∙ by q
  where
    by : (q : Option Registered) → (watch_at h v q a.clp).clp.queries ≡ a.clp.queries
    by None = refl
    by (Some r) = record_keeps (λ (s : ClpState). s.queries) (λ s rs. refl) h v
        (take_watch v r.num r.stamp r.window) a.clp
