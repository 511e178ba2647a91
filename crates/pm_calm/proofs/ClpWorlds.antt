-- A communication process's delivery in the lowest run.
use Rattle.std.proofs.Common.{◌≡◌, ℕ, ◌<◌, inl, inr, List, [], ◌∷◌, get_or, map, set, refl, arith, sym, ◌∙◌, subst, Some, get_or-set_other, get_or-set_same}
use Rattle.std.proofs.lemmas.Bool.{cases_eq}
use Rattle.pm_base.specs.declared.rows.Parts.{Parts}
use Rattle.pm_base.specs.declared.stamp.Stamp.{Stamp}
use Rattle.pm_model.specs.declared.State.{State}
use Rattle.pm_plan.specs.declared.plan.Plan.{Plan}
use Rattle.pm_clp.specs.Clps.{ClpSends, ClpState, clp_after}
use Rattle.pm_sim.proofs.Letters.{Bag, delivered_bag, in_map, sent_mail, tally_map}
use Rattle.pm_sim.proofs.Places.{Sim, clp_at}
use Rattle.pm_sim.proofs.Takings.{Linked, number_linked}
use Rattle.pm_sim.proofs.Wires.{posted_else, took}
use Rattle.pm_sim.specs.Routings.{mail_to}
use Rattle.pm_sim.specs.Sims.{In, one_if}
use Rattle.pm_sim.specs.Worlds.{Link, Mail, Posted, Process, Taken, World, clps_of, hub_of, mail, no_clp, number, post_all, posted, take_from}
use Rattle.pm_sim.specs.Worlds.Process.{AtAgent, AtClp}
use Rattle.pm_calm.specs.Phases.{Calm, ClpAt, MailAt, OpenIn, Over, Phase, is_over, token}
use Rattle.pm_calm.specs.Phases.Phase.{Idle, Single, Range}
use Rattle.pm_calm.proofs.Acts.{Good, clp_good}

-- where only communication processes and links changed, the open sense is still there
pub open_same : (ph : Phase) (w : World) (cs : List ClpState) (ls : List Link) → OpenIn ph w
    → OpenIn ph (record w { clps = cs; links = ls })
open_same Idle w cs ls h = tt
open_same (Single n v) w cs ls h = h
open_same (Range n i u) w cs ls h = h

module _ (p : Plan) (q : State) (w : World) (recs : ℕ → Parts) (sim : Sim p q w recs) (linked : Linked p w) (s : Stamp)
    (os : List Over) (ph : Phase) (calm : Calm p w s os ph) (c : ℕ) (lc : c < clps_of p) (from : Process) (t : Taken)
    (e : take_from (AtClp c) from w.links ≡ Some t) where
  abbrev pub done : ClpSends
  done = clp_after (hub_of p c) (number p from) t.message (clp_at w c)

  -- what it sends, to processes
  abbrev pub sends : List Posted
  sends = map (posted p) (clp_after (hub_of p c) (number p from) t.message (clp_at w c)).sent

  abbrev pub after : World
  after = record w { clps = set w.clps c done.clp; links = post_all (AtClp c) sends t.links }

  pub bag : Bag (mail w.links) (mail after.links) (mail_to (AtClp c) from t.message ∷ []) (sent_mail (AtClp c) sends)
  bag = delivered_bag (AtClp c) from w.links t sends e

  pub there : In (mail_to (AtClp c) from t.message) (mail w.links)
  there = bag.first _ (inl refl)

  pub good : Good p c s (is_over os) ph (one_if (token ph t.message) 0) done
  good = clp_good p c s (is_over os) ph from t.message sim.shape.of_range
      (number_linked p sim.tree c from (linked.mail _ there).0) (calm.letters _ there) (clp_at w c) (calm.clps c lc)

  pub calm_clp : Calm p after s os ph
  calm_clp = record {
    line = calm.line;
    clps = λ d ld. elim (cases_eq d c) [
      | inl f ↦ subst (λ z. ClpAt p s (is_over os) ph (get_or (set w.clps c done.clp) z no_clp)) (sym f)
          (subst (ClpAt p s (is_over os) ph)
          (sym (get_or-set_same w.clps c done.clp no_clp (let o = sim.size in omega arith))) good.0)
      | inr ne ↦ subst (ClpAt p s (is_over os) ph) (sym (get_or-set_other w.clps c d done.clp no_clp ne))
          (calm.clps d ld)
    ];
    letters = λ x i. elim (bag.from x i) [
      | inl j ↦ calm.letters x j
      | inr j ↦ (let o = in_map (λ (y : Posted). mail_to y.to (AtClp c) y.message) sends x j in
          let o2 = in_map (posted p) done.sent o.0 o.1 in
          subst (λ (y : Mail). MailAt p s (is_over os) ph y.to y.from y.message) (sym o.2)
          (subst (λ (y : Posted). MailAt p s (is_over os) ph y.to (AtClp c) y.message) (sym o2.2) (good.1.0 o2.0 o2.1)))
    ];
    tokens = (let a = bag.tallies (λ (x : Mail). token ph x.message) in
        let b = tally_map (λ (y : Posted). mail_to y.to (AtClp c) y.message) (λ (x : Mail). token ph x.message) sends in
        let b2 = tally_map (posted p) (λ (y : Posted). token ph y.message) done.sent in
        let g = good.1.1 in let o = calm.tokens in omega arith);
    agents = calm.agents;
    opens = open_same ph w (set w.clps c done.clp) (post_all (AtClp c) sends t.links) calm.opens;
    own = λ i li. posted_else (AtClp c) (AtAgent i) (AtAgent i) sends t.links (λ g. cc)
        ∙ ((took (AtClp c) from w.links t e).others (AtAgent i) (AtAgent i) (λ g. let y = g.0 in cc) ∙ calm.own i li);
  }
