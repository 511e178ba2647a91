-- The first world is straight, and a Commit leaves it so.
use Rattle.std.proofs.Common.{◌≡◌, ℕ, zero, suc, ◌<◌, inl, inr, ◌==◌, true, false, cond, List, [], ◌∷◌, get_or, length, map, refl, arith, ap, sym, ◌∙◌, subst}
use Rattle.std.proofs.lemmas.Bool.{cases_eq, cases_lt}
use Rattle.std.proofs.lemmas.Bool.Decides.{nat_tests}
use Rattle.std.proofs.lemmas.List.{get_or-map, length-map}
use Rattle.pm_base.specs.declared.stamp.Line.{Line}
use Rattle.pm_message.specs.declared.Message.{Message}
use Rattle.pm_message.specs.declared.Message.TheVariants as message
use Rattle.pm_plan.specs.Plans.{IsValid, parents}
use Rattle.pm_plan.specs.Trees.{hop}
use Rattle.pm_plan.specs.declared.plan.Plan.{Plan}
use Rattle.pm_plan.specs.declared.plan.VarRow.{VarRow}
use Rattle.pm_routes.specs.declared.way.Way.TheVariants as way
use Rattle.pm_clp.specs.Clps.{ClpState, clp_committed, way_of}
use Rattle.pm_sim.proofs.Firsts.{PlanFits, clp_is, no_var}
use Rattle.pm_sim.proofs.Lines.{get_past}
use Rattle.pm_sim.proofs.Places.{clp_at}
use Rattle.pm_sim.proofs.Promised.{plan_fits}
use Rattle.pm_sim.proofs.Quiets.{tally_none}
use Rattle.pm_sim.proofs.Wholes.{first_whole}
use Rattle.pm_sim.specs.Routings.{mail_to}
use Rattle.pm_sim.specs.Sims.{In}
use Rattle.pm_sim.specs.Worlds.{Mail, World, clps_of, commit, first_way, first_world, mail, no_clp}
use Rattle.pm_sim.specs.Worlds.Process.{AtClp}
use Rattle.pm_calm.proofs.Commits.{Old, first_old}
use Rattle.pm_cost.specs.Straight.{Straight, StraightStarts, goes, touches}

commit_way : (l : Line) (v : ℕ) (cs : List ClpState) (d : ℕ)
    → way_of v (get_or (map (clp_committed l) cs) d no_clp) ≡ way_of v (get_or cs d no_clp)
commit_way l v [] d = refl
commit_way l v (c ∷ cs) zero = refl
commit_way l v (c ∷ cs) (suc d) = commit_way l v cs d

pub straight_commit : (p : Plan) (w : World) (l : Line) → Straight p w → Straight p (commit w l)
straight_commit p w l st = record {
  once = st.once;
  ways = λ v c d m i g. commit_way l v w.clps d ∙ st.ways v c d m i g;
  facing = λ v c d lc ld h k. st.facing v c d lc ld (sym (commit_way l v w.clps c) ∙ h)
      (sym (commit_way l v w.clps d) ∙ k);
}

module _ (p : Plan) (fit : PlanFits p) where
  old : Old p (record { time = 0; agent = 0 }) (first_world p)
  old = first_old p fit (first_whole p fit).full.sim.size (record { time = 0; agent = 0 })

  -- a Wake touches no variable
  no_touch : (v : ℕ) (x : Mail) → In x (mail (first_world p).links) → touches v x.message ≡ false
  no_touch v x i = (let o = (old.wakes x i).0 in ap (touches v) o.2)

  here_port : (d : ℕ) → way.Here ≡ way.Port d → ⊥
  here_port d e = cc

  port_same : (x y : ℕ) → way.Port x ≡ way.Port y → x ≡ y
  port_same x y f = cc

  -- a first way to a port leads towards the variable's place
  leads : (c : ℕ) (r : VarRow) (d : ℕ) → first_way p c r ≡ way.Port d
      → (r.at ≡ c → ⊥) × (hop (parents p.clps) c r.at ≡ d)
  leads c r d e = elim (cases_eq r.at c) [
    | inl f ↦ absurd (let g : (r.at == c) ≡ true = grind (arith, nat_tests, f) in
        here_port d (sym (ap (λ z. cond z way.Here (way.Port (hop (parents p.clps) c r.at))) g) ∙ e))
    | inr ne ↦ (let g : (r.at == c) ≡ false = grind (arith, nat_tests, ne) in (
      ne,
      port_same (hop (parents p.clps) c r.at) d
          (sym (ap (λ z. cond z way.Here (way.Port (hop (parents p.clps) c r.at))) g) ∙ e),
    ))
  ]

  first_is : (v c d : ℕ) → c < clps_of p → way_of v (clp_at (first_world p) c) ≡ way.Port d
      → (v < length p.vars) × (first_way p c (get_or p.vars v no_var) ≡ way.Port d)
  first_is v c d lc h = elim (cases_lt v (length p.vars)) [
    | inr ge ↦ absurd (here_port d (sym (get_past (map (first_way p c) p.vars) v way.Here
        (omega (arith, ge, length-map p.vars (first_way p c)))) ∙ at))
    | inl lt ↦ (lt, sym (get_or-map (first_way p c) p.vars v no_var way.Here lt) ∙ at)
  ]
    where
      at : get_or (map (first_way p c) p.vars) v way.Here ≡ way.Port d
      at = sym (ap (way_of v) (clp_is p fit c lc)) ∙ h

  apart : (v c d : ℕ) → c < clps_of p → d < clps_of p → way_of v (clp_at (first_world p) c) ≡ way.Port d
      → way_of v (clp_at (first_world p) d) ≡ way.Port c → ⊥
  apart v c d lc ld h k =
      let r : VarRow = get_or p.vars v no_var in
      let a = first_is v c d lc h in
      let b = first_is v d c ld k in
      let x = leads c r d a.1 in
      let y = leads d r c b.1 in
      let lr : r.at < clps_of p = fit.place_in v (let l = length-map p.vars (λ (x : VarRow). x.value) in
      let lt = a.0 in omega (arith, l, lt)) in
      let n1 : suc (fit.tree.dist d r.at) ≡ fit.tree.dist c r.at =
      subst (λ z. suc (fit.tree.dist z r.at) ≡ fit.tree.dist c r.at) x.1
      (fit.tree.nearer c r.at lc lr (λ q. x.0 (sym q))) in
      let n2 : suc (fit.tree.dist c r.at) ≡ fit.tree.dist d r.at =
      subst (λ z. suc (fit.tree.dist z r.at) ≡ fit.tree.dist d r.at) y.1
      (fit.tree.nearer d r.at ld lr (λ q. y.0 (sym q))) in
      omega (arith, n1, n2)

  first_straight : Straight p (first_world p)
  first_straight = record {
    once = λ v. (let n = tally_none (λ (x : Mail). touches v x.message) (mail (first_world p).links) (no_touch v) in
        omega (arith, n));
    ways = λ v c d m i g. absurd (none v c d m i g);
    facing = λ v c d lc ld h k. absurd (apart v c d lc ld h k);
  }
    where
      none : (v c d : ℕ) (m : Message) → In (mail_to (AtClp c) (AtClp d) m) (mail (first_world p).links)
          → goes v m ≡ true → ⊥
      none v c d m i g = (let o = (old.wakes _ i).0 in
          let e : goes v (message.Wake o.0 o.1) ≡ true = subst (λ z. goes v z ≡ true) o.2 g in cc)

pub straight_starts : (p : Plan) → IsValid p → StraightStarts p
straight_starts p valid = record { first = first_straight p (plan_fits p valid); committed = straight_commit p }
