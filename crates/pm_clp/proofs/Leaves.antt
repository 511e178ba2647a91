-- What leaves a process, and what it catches up.
use Rattle.std.proofs.Common.{◌≡◌, ℕ, Bool, true, false, List, ◌++◌, map, Option, Some, None, Result, Ok, Err, refl}
use Rattle.std.proofs.Common.{ap, sym, ◌∙◌, subst, filter, set}
use Rattle.std.specs.Result.{OnOk}
use Rattle.std.proofs.lemmas.List.{append-nil, set-get_or}
use Rattle.pm_base.specs.declared.rows.Parts.{Parts}
use Rattle.pm_base.specs.declared.stamp.Stamp.{Stamp}
use Rattle.pm_base.specs.declared.value.Window.{Window}
use Rattle.pm_queries.specs.Queries.{asks_at, catches_by, caught_by, without}
use Rattle.pm_queries.specs.declared.registered.Registered.{Registered}
use Rattle.pm_queries.specs.declared.registered.Sent.{Sent}
use Rattle.pm_routes.specs.Routings.{counted, is_drawn, place_of}
use Rattle.pm_tables.specs.Tables.{known_in}
use Rattle.pm_clp.specs.Clps.{ClpState, Hub, and_then, catch_up, class_at, counting, grow_bound, leaves, on_grow}
use Rattle.pm_clp.specs.Clps.{rec_at, tell, with_count}
use Rattle.pm_clp.specs.Views.{ClpView, Did, leave, others, sent_off}
use Rattle.pm_clp.proofs.Steps.{did-then}

-- the same with two promises
pub on_ok_both : {X E : Type 0} (res : Result X E) {P Q R : Type 0} → (P → Q → R) → OnOk res P → OnOk res Q → OnOk res R
on_ok_both (Ok x) f p q = f p q
on_ok_both (Err x) f p q = tt

-- the queries of the class caught up at the port, of which that place of the bounds tells
pub caught-did : (h : Hub) (s : ClpState) (limit made : ℕ) (spoilt : Bool) (d k place : ℕ) (qs : List Registered)
    (before after : List Sent) → place ≡ place_of h.ports d
    → qs ≡ map (caught_by (known_in place k s.bound) d k) s.queries
    → after ≡ before ++ asks_at d (filter (catches_by (known_in place k s.bound) d k) s.queries)
    → Did (record { hub = h; clp = s; limit = limit; made = made; spoilt = spoilt })
    (record { hub = h; clp = record s { queries = qs }; limit = limit; made = made; spoilt = spoilt })
    before after (catch_up h d k)
caught-did h s limit made spoilt d k place qs before after p e o = record {
  state = ap (λ z. record { hub = h; clp = record s { queries = z }; limit = limit; made = made; spoilt = spoilt })
      (subst (λ z. qs ≡ map (caught_by (known_in z k s.bound) d k) s.queries) p e);
  sent = subst (λ z. after ≡ before ++ asks_at d (filter (catches_by (known_in z k s.bound) d k) s.queries)) p o;
}

-- no record leaves where none is here
pub stayed_did : (a b : ClpView) (x : List Sent) (h : Hub) (v d : ℕ) → None ≡ rec_at a.clp.records v
    → b ≡ record a { clp = record a.clp { records = set a.clp.records v None } }
    → Did a b x x (leave h v d)
stayed_did a b x h v d none e = record {
  state = e ∙ is (rec_at a.clp.records v) none refl;
  sent = went (rec_at a.clp.records v) none;
}
  where
    is : (r : Option Parts) → None ≡ r → rec_at a.clp.records v ≡ r
        → record a { clp = record a.clp { records = set a.clp.records v None } }
        ≡ record a { clp = (leaves h true v d r a.clp).clp }
    is None n q = ap (λ z. record a { clp = record a.clp { records = z } })
        (ap (set a.clp.records v) (sym q) ∙ set-get_or a.clp.records v None)
    is (Some r) n q = absurd (cc n)

    went : (r : Option Parts) → None ≡ r → x ≡ x ++ (leaves h true v d r a.clp).sent
    went None n = sym (append-nil x)
    went (Some r) n = absurd (cc n)

-- a record that is taken off, sent away, and the port that catches up
pub left_did : (a b c e : ClpView) (x y z : List Sent) (v d k : ℕ) (r : Parts) → Some r ≡ rec_at a.clp.records v
    → b ≡ record a { clp = record a.clp { records = set a.clp.records v None } }
    → Did b c x y (sent_off b.hub v d r) → k ≡ class_at a.hub v → Did c e y z (catch_up c.hub d k)
    → Did a e x z (leave a.hub v d)
left_did a b c e x y z v d k r some taken off class caught = record { state = whole.state; sent = whole.sent }
  where
    both : Did b e x z (λ s. and_then (sent_off b.hub v d r s) (catch_up b.hub d k))
    both = did-then b c e x y z (sent_off b.hub v d r) (λ g. catch_up g d k) off caught

    then : Did (record a { clp = record a.clp { records = set a.clp.records v None } }) e x z
        (λ s. and_then (sent_off a.hub v d r s) (catch_up a.hub d (class_at a.hub v)))
    then = subst (λ i. Did (record a { clp = record a.clp { records = set a.clp.records v None } }) e x z
        (λ s. and_then (sent_off a.hub v d r s) (catch_up a.hub d i))) class
        (subst (λ (w : ClpView). Did w e x z (λ s. and_then (sent_off w.hub v d r s) (catch_up w.hub d k))) taken both)

    is : (q : Option Parts) → Some r ≡ q → Did a e x z (λ s. leaves a.hub true v d q s)
    is None n = absurd (cc n)
    is (Some q) n = subst (λ i. Did a e x z (λ s. leaves a.hub true v d i s)) n
        (record { state = then.state; sent = then.sent })

    whole : Did a e x z (λ s. leaves a.hub true v d (rec_at a.clp.records v) s)
    whole = is (rec_at a.clp.records v) some

-- a count that draws no record, and one that does
pub counted_did : (a b : ClpView) (x : List Sent) (v from : ℕ) → is_drawn (counted a.clp.routing v from) v from ≡ false
    → b ≡ record a { clp = with_count a.hub v from a.clp } → Did a b x x (counting a.hub v from)
counted_did a b x v from stay e = record {
  state = subst (λ q. b ≡ record a {
    clp = (leaves a.hub q v from (rec_at a.clp.records v)
        (with_count a.hub v from a.clp)).clp;
  }) (sym stay) e;
  sent = subst (λ q. x ≡ x ++ (leaves a.hub q v from (rec_at a.clp.records v) (with_count a.hub v from a.clp)).sent)
      (sym stay) (sym (append-nil x));
}

pub drawn_did : (a b c : ClpView) (x y : List Sent) (v from : ℕ) → is_drawn (counted a.clp.routing v from) v from ≡ true
    → b ≡ record a { clp = with_count a.hub v from a.clp } → Did b c x y (leave b.hub v from)
    → Did a c x y (counting a.hub v from)
drawn_did a b c x y v from drawn e did = record { state = whole.state; sent = whole.sent }
  where
    then : Did (record a { clp = with_count a.hub v from a.clp }) c x y (leave a.hub v from)
    then = subst (λ (w : ClpView). Did w c x y (leave w.hub v from)) e did

    whole : Did a c x y (λ s. leaves a.hub (is_drawn (counted a.clp.routing v from) v from) v from
        (rec_at a.clp.records v) (with_count a.hub v from a.clp))
    whole = subst (λ q. Did a c x y (λ s. leaves a.hub q v from (rec_at a.clp.records v)
        (with_count a.hub v from a.clp))) (sym drawn)
        (record { state = then.state; sent = then.sent })

-- more may stand behind a port, queries catch up there, and the other ports are told
pub grew_did : (a b c e : ClpView) (x y z : List Sent) (d k : ℕ) (from : Stamp) (until : Option Stamp) (w : Window)
    → b ≡ record a { clp = grow_bound a.hub d k (record { from = Some from; until = until }) w a.clp }
    → Did b c x y (catch_up b.hub d k)
    → Did c e y z (tell c.hub k from until w (others (Some d) c.hub.ports))
    → Did a e x z (on_grow a.hub d k from until w)
grew_did a b c e x y z d k from until w grown caught told = record { state = then.state; sent = then.sent }
  where
    both : Did b e x z (λ s. and_then (catch_up b.hub d k s) (tell b.hub k from until w (without d b.hub.ports)))
    both = did-then b c e x y z (catch_up b.hub d k) (λ g. tell g k from until w (without d g.ports)) caught told

    then : Did (record a { clp = grow_bound a.hub d k (record { from = Some from; until = until }) w a.clp }) e x z
        (λ s. and_then (catch_up a.hub d k s) (tell a.hub k from until w (without d a.hub.ports)))
    then = subst (λ (v : ClpView). Did v e x z (λ s. and_then (catch_up v.hub d k s)
        (tell v.hub k from until w (without d v.hub.ports)))) grown both
