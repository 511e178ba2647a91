-- One action of a process after another.
use Rattle.pm_queries.specs.declared.registered.Sent.{Sent}
use Rattle.std.proofs.Common.{◌≡◌, ℕ, suc, Bool, List, ◌++◌, map, set, Option, Some, None, Result, Ok, Err, ap, ap₂}
use Rattle.std.proofs.Common.{sym, ◌∙◌, subst, append_assoc}
use Rattle.std.specs.Result.{OnOk}
use Rattle.std.proofs.lemmas.List.{append-nil}
use Rattle.pm_base.specs.declared.rows.GiveRow.{GiveRow}
use Rattle.pm_base.specs.declared.rows.Parts.{Parts}
use Rattle.pm_base.specs.declared.value.Period.{Period}
use Rattle.pm_ranges.specs.Known.{Known}
use Rattle.pm_base.specs.declared.stamp.Line.{Line}
use Rattle.pm_periods.specs.Periods.{periods_from}
use Rattle.pm_queries.specs.declared.registered.Registered.{Registered}
use Rattle.pm_routes.specs.Routings.{Routing, arrived, place_of}
use Rattle.pm_tables.specs.Tables.{grow_periods, grow_periods_in}
use Rattle.pm_tables.proofs.Shapes.{grow_periods-in}
use Rattle.pm_clp.specs.Clps.{Answered, ClpSends, ClpState, Hub, and_then, at_record, class_at, installed}
use Rattle.pm_clp.specs.Clps.{no_clp_sends, on_record, rec_at, to_agent}
use Rattle.pm_clp.specs.Kept.{Kept, gives_after, kept_after, recs_after}
use Rattle.pm_clp.specs.Views.{ClpView, Did, DidRaise, Leads, state_of}

-- what follows from what a call promises where it succeeds
pub on_ok : {X E : Type 0} (res : Result X E) {P Q : Type 0} → (P → Q) → OnOk res P → OnOk res Q
on_ok (Ok x) f p = f p
on_ok (Err x) f p = tt

pub did-hub : (a b : ClpView) (x y : List Sent) (f : ClpState → ClpSends) → Did a b x y f → b.hub ≡ a.hub
did-hub a b x y f d = ap (λ (v : ClpView). v.hub) d.state

-- one action, then another
pub did-then : (a b c : ClpView) (x y z : List Sent) (f : ClpState → ClpSends) (g : Hub → ClpState → ClpSends)
    → Did a b x y f → Did b c y z (g b.hub)
    → Did a c x z (λ s. and_then (f s) (g a.hub))
did-then a b c x y z f g d e = record {
  state = subst (λ (v : ClpView). c ≡ record v { clp = (g v.hub v.clp).clp }) d.state e.state;
  sent = (subst (λ (v : ClpView). z ≡ y ++ (g v.hub v.clp).sent) d.state e.sent)
      ∙ ap (λ l. l ++ (g a.hub (f a.clp).clp).sent) d.sent ∙ append_assoc x (f a.clp).sent (g a.hub (f a.clp).clp).sent;
}

-- the same, where the first raises the turns
pub raise-then : (a b c : ClpView) (x y z : List Sent) (f : ClpState → ClpSends) (g : Hub → ClpState → ClpSends)
    → DidRaise a b x y f → Did b c y z (g b.hub)
    → DidRaise a c x z (λ s. and_then (f s) (g a.hub))
raise-then a b c x y z f g d e = record {
  state = subst (λ (v : ClpView). c ≡ record v { clp = (g v.hub v.clp).clp }) d.state e.state;
  sent = (subst (λ (v : ClpView). z ≡ y ++ (g v.hub v.clp).sent) d.state e.sent)
      ∙ ap (λ l. l ++ (g a.hub (f a.clp).clp).sent) d.sent ∙ append_assoc x (f a.clp).sent (g a.hub (f a.clp).clp).sent;
}

-- a walk of actions: where it begins, a step, and where it ends
pub leads-step : (a b s : ClpView) (x y z : List Sent) (f g w : ClpState → ClpSends) → Did a b x y f
    → Leads a x (λ s. and_then (f s) g) s z w → Leads b y g s z w
leads-step a b s x y z f g w d l = record {
  state = ap (λ (v : ClpView). record v { clp = (g v.clp).clp }) d.state ∙ l.state;
  sent = ap₂ (λ (o : List Sent) (v : ClpView). o ++ (g v.clp).sent) d.sent d.state
      ∙ append_assoc x (f a.clp).sent (g (f a.clp).clp).sent ∙ l.sent;
}

pub leads-end : (a s : ClpView) (x z : List Sent) (w : ClpState → ClpSends) → Leads a x no_clp_sends s z w
    → Did s a z x w
leads-end a s x z w l = record { state = l.state; sent = sym (append-nil x) ∙ l.sent }

-- a letter to a record that may raise its turns
pub raised-did : (h : Hub) (s : ClpState) (limit made : ℕ) (spoilt : Bool) (f : Parts → Answered) (v : ℕ) (k : Kept)
    (gives : List GiveRow) (before after : List Sent)
    → k ≡ kept_after f v (record { recs = s.records; limit = limit }) → gives ≡ gives_after f (rec_at s.records v)
    → after ≡ before ++ map (to_agent h) gives
    → DidRaise (record { hub = h; clp = s; limit = limit; made = made; spoilt = spoilt })
    (record { hub = h; clp = record s { records = k.recs }; limit = k.limit; made = made; spoilt = spoilt })
    before after (at_record h v f)
raised-did h s limit made spoilt f v k gives before after e g o =
    record { state = is (rec_at s.records v) e; sent = went (rec_at s.records v) g }
  where
    view : ClpState → ℕ → ClpView
    view z n = record { hub = h; clp = z; limit = n; made = made; spoilt = spoilt }

    is : (r : Option Parts) → k ≡ record { recs = recs_after f v r s.records; limit = suc limit }
        → view (record s { records = k.recs }) k.limit ≡ view (on_record h v f r s).clp (suc limit)
    is None e = ap (λ (z : Kept). view (record s { records = z.recs }) z.limit) e
    is (Some r) e = ap (λ (z : Kept). view (record s { records = z.recs }) z.limit) e

    went : (r : Option Parts) → gives ≡ gives_after f r → after ≡ before ++ (on_record h v f r s).sent
    went None g = o ∙ ap (λ z. before ++ map (to_agent h) z) g
    went (Some r) g = o ∙ ap (λ z. before ++ map (to_agent h) z) g

-- what is grown at a place is grown at its port
pub grown_off : (ports : List ℕ) (d k class place : ℕ) (rs periods : List Period) (b new : List (List Known))
    → new ≡ grow_periods_in place k rs b
    → place ≡ place_of ports d → k ≡ class → rs ≡ periods → new ≡ grow_periods ports d class periods b
grown_off ports d k class place rs periods b new e p c q =
    e ∙ ap (λ z. grow_periods_in z k rs b) p ∙ ap₂ (λ x y. grow_periods_in (place_of ports d) x y b) c q
    ∙ sym (grow_periods-in ports d class periods b)

-- what is seen of a process at which a record was put in
pub put_in : (h : Hub) (records : Kept) (routes : Routing) (line : Line) (queries : List Registered)
    (bound told : List (List Known)) (k : Kept) (way : Routing) (grown : List (List Known))
    (made : ℕ) (spoilt : Bool) (from v : ℕ) (held r : Parts) (now : ClpView)
    → record {
      hub = h;
      clp = state_of records routes line queries bound told;
      limit = records.limit;
      made = made;
      spoilt = spoilt;
    } ≡ now
    → k ≡ record { recs = set records.recs v (Some held); limit = records.limit } → way ≡ arrived routes v
    → grown ≡ grow_periods h.ports from (class_at h v) (periods_from r None) told → held ≡ r
    → record {
      hub = h;
      clp = state_of k way line queries bound grown;
      limit = k.limit;
      made = made;
      spoilt = spoilt;
    } ≡ record now { clp = installed now.hub from v r now.clp }
put_in h records routes line queries bound told k way grown made spoilt from v held r now is e w g p =
    subst (λ (z : ClpView). view k way grown ≡ record z { clp = installed z.hub from v r z.clp }) is
    (ap (λ q. view q way grown) e ∙ ap₂ (view (record {
      recs = set records.recs v (Some held);
      limit = records.limit;
    })) w g
    ∙ ap (λ q. view (record { recs = set records.recs v (Some q); limit = records.limit }) (arrived routes v)
    (grow_periods h.ports from (class_at h v) (periods_from r None) told)) p)
  where
    view : Kept → Routing → List (List Known) → ClpView
    view q y z = record {
      hub = h;
      clp = state_of q y line queries bound z;
      limit = q.limit;
      made = made;
      spoilt = spoilt;
    }
