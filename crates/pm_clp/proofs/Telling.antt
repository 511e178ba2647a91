-- A port that is told.
use Rattle.std.proofs.Common.{◌≡◌, ℕ, Bool, true, false, not, if◌then◌else◌, List, [], ◌∷◌, ◌++◌, Option, Some, ap, ◌∙◌, subst}
use Rattle.pm_base.specs.declared.stamp.Interval.{Interval}
use Rattle.pm_base.specs.declared.stamp.Stamp.{Stamp}
use Rattle.pm_base.specs.declared.value.Window.{Window}
use Rattle.pm_message.specs.declared.Message.TheVariants as message
use Rattle.pm_queries.specs.declared.registered.Sent.{Sent}
use Rattle.pm_ranges.specs.Known.{Known, covers}
use Rattle.pm_routes.specs.Routings.{place_of}
use Rattle.pm_tables.specs.Tables.{grow_at, grow_in, known_at, known_in}
use Rattle.pm_clp.specs.Clps.{ClpSends, ClpState, Hub, no_clp_sends, tell_one}
use Rattle.pm_clp.specs.Views.{ClpView, Did, sent_if}

-- what was told grows at the port's place, and where it grew the port is told
pub told_did : (h : Hub) (s : ClpState) (limit made : ℕ) (spoilt : Bool) (k : ℕ) (from : Stamp) (until : Option Stamp)
    (w : Window) (d place : ℕ) (new : List (List Known)) (grew : Bool) (before after : List Sent)
    → place ≡ place_of h.ports d
    → new ≡ grow_in place k (record { from = Some from; until = until }) w s.told
    → grew ≡ not (covers (known_in place k s.told) (record { from = Some from; until = until }) w)
    → (grew ≡ false → new ≡ s.told)
    → after ≡ before ++ sent_if grew d (message.Grow k from until w)
    → Did (record { hub = h; clp = s; limit = limit; made = made; spoilt = spoilt })
    (record { hub = h; clp = record s { told = new }; limit = limit; made = made; spoilt = spoilt })
    before after (tell_one h k from until w d)
told_did h s limit made spoilt k from until w d place new grew before after p t g same o = record {
  state = state (covers (known_at h.ports d k s.told) when w) (subst (λ z. grew ≡ not (covers (known_in z k s.told)
      when w)) p g);
  sent = sent (covers (known_at h.ports d k s.told) when w) (subst (λ z. grew ≡ not (covers (known_in z k s.told)
      when w)) p g);
}
  where
    when : Interval
    when = record { from = Some from; until = until }

    view : ClpState → ClpView
    view z = record { hub = h; clp = z; limit = limit; made = made; spoilt = spoilt }

    told : ClpSends
    told = record {
      clp = record s { told = grow_at h.ports d k when w s.told };
      sent = record { to = d; message = message.Grow k from until w } ∷ [];
    }

    state : (c : Bool) → grew ≡ not c
        → view (record s { told = new }) ≡ view (if c then no_clp_sends s else told).clp
    state true e = ap (λ z. view (record s { told = z })) (same e)
    state false e = ap (λ z. view (record s { told = z })) (subst (λ z. new ≡ grow_in z k when w s.told) p t)

    sent : (c : Bool) → grew ≡ not c → after ≡ before ++ (if c then no_clp_sends s else told).sent
    sent true e = o ∙ ap (λ q. before ++ sent_if q d (message.Grow k from until w)) e
    sent false e = o ∙ ap (λ q. before ++ sent_if q d (message.Grow k from until w)) e
