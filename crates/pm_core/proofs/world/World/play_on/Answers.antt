use Rattle.std.proofs.Common.{◌≡◌, ◌+◌, ◌++◌, ◌∙◌, true, ap, arith, drop, get_or, subst, sym}
use Rattle.std.proofs.lemmas.Option.{get_or_from_slice_get, slice_get-get_or}
use Rattle.pm_base.specs.declared.run.Event.{Event}
use Rattle.pm_base.specs.declared.run.Event.TheVariants as event
use Rattle.pm_sim.specs.Played.{before, play_from}
use Rattle.pm_sim.specs.Worlds.{after_event, hands, is_legal}
use Rattle.pm_core.specs.Views.{WorldView, happened}
use Rattle.pm_core.proofs.Playing.{happened_made, happened_spoilt, happened_world, made_few, made_more, play_more}
use Rattle.pm_core.proofs.world.World.play_on.Goals as goal

pub happens-requires : goal.happens-requires
happens-requires c =
    made_few c.args.events.now c.loop-i.i c.args.self.now.made c.loop-i.self.made c.loop-i-test.true c.requires
    c.loop-i.invariant.made

pub loop-i-preserved : goal.loop-i-preserved
loop-i-preserved c =
    let es = c.args.events.now in
    let i = c.loop-i.i in
    let e : Event = get_or es i (event.Deliver 0 0) in
    let lt = c.loop-i-test.true in
    let is : e ≡ get_or es i e =
    sym (get_or_from_slice_get es i e e (slice_get-get_or es i (event.Deliver 0 0) lt)) in
    let v : WorldView = c.loop-i.self in
    let p = c.args.self.now.plan in
    let inv = c.loop-i.invariant in
    let legal : is_legal v.plan v.world e ≡ true = sym c.in_ok-happens.ensures.told ∙ c.if-not-branch.false in
    let done : c.happens.new.self ≡ happened v e = c.in_ok-happens.ensures.done legal in
    let ents : c.happens.new.entries.items ≡ c.loop-i.entries.items ++ hands v.world e =
    c.in_ok-happens.ensures.entries legal in
    let legal' : is_legal p v.world e ≡ true = subst (λ q. is_legal q v.world e ≡ true) inv.plan legal in
    let world : c.happens.new.self.world ≡ after_event p v.world e =
    ap (λ (z : WorldView). z.world) done ∙ (happened_world v e ∙ ap (λ q. after_event q v.world e) inv.plan) in
    let a = ap (λ (z : WorldView). z.made) done in
    let b = happened_made v e in
    let m = made_more es i e lt is in
    record {
      plan = c.in_ok-happens.ensures.plan ∙ inv.plan;
      played = inv.played ∙ (play_more p v.world i es e c.loop-i.entries.items lt is legal'
          ∙ (ap (λ z. before z (play_from p (after_event p v.world e) (i + 1) (drop (i + 1) es))) (sym ents)
          ∙ ap (λ z. before c.happens.new.entries.items (play_from p z (i + 1) (drop (i + 1) es))) (sym world)));
      made = omega (arith, a, b, m, inv.made);
      spoilt = ap (λ (z : WorldView). z.spoilt) done ∙ (happened_spoilt v e ∙ inv.spoilt);
    }
