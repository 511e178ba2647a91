-- A class query goes to the records that are here, past the variables that are elsewhere.
use Rattle.std.proofs.Common.{◌≡◌, ℕ, zero, suc, ◌+◌, ◌-◌, ◌<◌, ◌≤◌, List, [], ◌∷◌, ◌++◌, Option, Some, None, refl, arith, ap, ap₂, sym, ◌∙◌, subst}
use Rattle.pm_base.specs.declared.rows.Parts.{Parts}
use Rattle.pm_base.specs.declared.stamp.Num.{Num}
use Rattle.pm_base.specs.declared.stamp.Stamp.{Stamp}
use Rattle.pm_base.specs.declared.value.Window.{Window}
use Rattle.pm_queries.specs.declared.registered.Sent.{Sent}
use Rattle.pm_clp.specs.Clps.{ClpSends, ClpState, Hub, and_then, at_record, no_clp_sends, on_record, rec_at, take_watch, watch_all}
use Rattle.pm_clp.specs.Views.{ClpView, Leads}

module _ (h : Hub) (n : Num) (t : Stamp) (w : Window) where
  -- nothing happens at a variable that is elsewhere
  pass : (i m : ℕ) (s : ClpState) (r : Option Parts) → r ≡ None
      → and_then (on_record h i (take_watch i n t w) r s) (watch_all h n t w (suc i) m) ≡ watch_all h n t w (suc i) m s
  pass i m s r e = rw e refl

  watch_skip : (k i m : ℕ) (s : ClpState) → ((v : ℕ) → i ≤ v → v < i + k → rec_at s.records v ≡ None)
      → watch_all h n t w i (k + m) s ≡ watch_all h n t w (i + k) m s
  watch_skip zero i m s none =
      (let e : i ≡ i + 0 = omega arith in let f : 0 + m ≡ m = omega arith in ap₂ (λ a b. watch_all h n t w a b s) e f)
  watch_skip (suc k) i m s none =
      let e : suc i + k ≡ i + suc k = omega arith in
      let f : suc k + m ≡ suc (k + m) = omega arith in
      ap (λ z. watch_all h n t w i z s) f
      ∙ pass i (k + m) s (rec_at s.records i) (none i (omega arith) (omega arith))
      ∙ watch_skip k (suc i) m s (λ v a b. none v (omega (arith, a)) (omega (arith, b)))
      ∙ ap (λ z. watch_all h n t w z m s) e

  -- so a walk from i on to e goes on from j
  pub skipped : (i j e : ℕ) (s : ClpState) → i ≤ j → j ≤ e → ((v : ℕ) → i ≤ v → v < j → rec_at s.records v ≡ None)
      → watch_all h n t w i (e - i) s ≡ watch_all h n t w j (e - j) s
  skipped i j e s a b none =
      let more : e - i ≡ (j - i) + (e - j) = omega arith in
      let on : i + (j - i) ≡ j = omega arith in
      ap (λ z. watch_all h n t w i z s) more
      ∙ watch_skip (j - i) i (e - j) s (λ v c d. none v c (omega (arith, d, a)))
      ∙ ap (λ z. watch_all h n t w z (e - j) s) on

-- what is left of a walk, said otherwise
pub leads-same : (a s : ClpView) (x z : List Sent) (f g w : ClpState → ClpSends) → f a.clp ≡ g a.clp → Leads a x f s z w → Leads a x g s z w
leads-same a s x z f g w e l = record {
  state = ap (λ (r : ClpSends). record a { clp = r.clp }) (sym e) ∙ l.state;
  sent = ap (λ (r : ClpSends). x ++ r.sent) (sym e) ∙ l.sent;
}

-- a walk that has not begun
pub leads-start : (a : ClpView) (x : List Sent) (f : ClpState → ClpSends) → Leads a x f a x f
leads-start a x f = record { state = refl; sent = refl }
