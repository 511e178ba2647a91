-- What the kernel and the cells need of runs of a valid plan.
use Rattle.std.proofs.Common.{List, None, [], ap, refl, subst, true, ℕ, ◌∙◌, ◌≡◌, ◌≤◌}
use Rattle.std.proofs.lemmas.List.{length-map}
use Rattle.pm_base.specs.Layouts.{var_count}
use Rattle.pm_base.specs.declared.run.Event.{Event}
use Rattle.pm_base.specs.declared.stamp.Line.{Line}
use Rattle.pm_plan.proofs.Valid.{valid_limits}
use Rattle.pm_plan.specs.Plans.{IsValid}
use Rattle.pm_plan.specs.declared.plan.Plan.{Plan}
use Rattle.pm_plan.specs.declared.plan.VarRow.{VarRow}
use Rattle.pm_sim.proofs.Awakes.{run_awake}
use Rattle.pm_sim.proofs.Firsts.{agents_len}
use Rattle.pm_sim.proofs.Heads.{closed_line, done_all, done_line, done_mail, least_stamp, may_least, never_back, sequential, window_low, window_ok}
use Rattle.pm_sim.proofs.Horizons.{window_high}
use Rattle.pm_sim.proofs.Keeps.{kept_none, run_kept}
use Rattle.pm_sim.proofs.Lanes.{mail_between}
use Rattle.pm_sim.proofs.Limits.{run_limits}
use Rattle.pm_sim.proofs.Nexts.{commit_hands, journal_more, journal_window, least_end}
use Rattle.pm_sim.proofs.Plays.{play_law, play_legal, play_sequential}
use Rattle.pm_sim.proofs.Promised.{plan_fits}
use Rattle.pm_sim.proofs.Readies.{idle_done, some_ready}
use Rattle.pm_sim.proofs.Receipts.{run_taken}
use Rattle.pm_sim.proofs.RuleClasses.{rule_classes}
use Rattle.pm_sim.proofs.Shapes.{timely, vars_counted}
use Rattle.pm_sim.proofs.Stirs.{run_awaking}
use Rattle.pm_sim.proofs.Sums.{run_made}
use Rattle.pm_sim.proofs.Wholes.{Whole, first_whole, whole_run}
use Rattle.pm_sim.specs.Journals.{CommitHands, Journal, JournalGrows, JournalLaw, LeastLineIs}
use Rattle.pm_sim.specs.Kept.{Kept, NothingBelowIsKept}
use Rattle.pm_sim.specs.Links.{LinksStay}
use Rattle.pm_sim.specs.Played.{PlayLaw, Played, PlayedIsSequential, play}
use Rattle.pm_sim.specs.Ready.{IdleIsDone, SomeIsReady, WindowsAdd, WindowsAreOk}
use Rattle.pm_sim.specs.Sims.{vars_of}
use Rattle.pm_sim.specs.Taken.{DeliveriesAdd, MessagesAreTaken, NumbersStayLow}
use Rattle.pm_sim.specs.Waking.{WhoWaitsIsWoken}
use Rattle.pm_sim.specs.Worlds.{World, after_events, committed, first_world, is_legal_run, mail}

limits_of : (p : Plan) → IsValid p → vars_of p ≤ 4096
limits_of p h = (valid_limits p h).vars

counted_of : (p : Plan) → IsValid p → var_count p.layout.classes ≡ vars_of p
counted_of p h = vars_counted p h ∙ length-map p.vars (λ (x : VarRow). x.value)

pub messages_taken : (p : Plan) (es : List Event) → IsValid p → MessagesAreTaken p es
messages_taken p es h = run_taken p (plan_fits p h) (counted_of p h) (rule_classes p h) es

pub numbers_low : (p : Plan) (es : List Event) → IsValid p → NumbersStayLow p es
numbers_low p es h = run_limits p (plan_fits p h) (limits_of p h) es

pub deliveries_add : (p : Plan) (es : List Event) → IsValid p → DeliveriesAdd p es
deliveries_add p es h l = run_made p (plan_fits p h) es l

pub waits_woken : (p : Plan) (es : List Event) → IsValid p → WhoWaitsIsWoken p es
waits_woken p es h l = (let r = run_awaking p (plan_fits p h) es l in (r.0.q, r.1))

pub ready_somewhere : (p : Plan) (es : List Event) → IsValid p → SomeIsReady p es
ready_somewhere p es h = some_ready p (plan_fits p h) es

pub idle_is_done : (p : Plan) (es : List Event) → IsValid p → IdleIsDone p es
idle_is_done p es h = idle_done p (plan_fits p h) es

pub windows_ok : (p : Plan) (es : List Event) → IsValid p → WindowsAreOk p es
windows_ok p es h l e ne = record {
  ahead = λ width one. window_ok width (after_events p (first_world p) es) one e ne;
  past = λ s lt. window_high p (plan_fits p h) es l ne s lt;
}

pub journal_grows : (p : Plan) (e n : ℕ) (j ds : List Event) → IsValid p → JournalGrows p e n j ds
journal_grows p e n j ds h = journal_more p (plan_fits p h) e n j ds

pub journal_law : (p : Plan) (e n : ℕ) (j : List Event) → IsValid p → Journal p e n (first_world p) j → JournalLaw p j
journal_law p e n j h k =
    let fit = plan_fits p h in
    let t = timely p h in
    record {
      sequential = sequential p fit t e n j k;
      line_is = closed_line p fit t e n j k;
      done_line = done_line p fit t e n j k;
      done_mail = done_mail p fit t e n j k;
      done_all = done_all p fit t e n j k;
      stays = never_back p fit t e n j k;
    }

pub commit_law : (p : Plan) (es : List Event) (k : Line) → IsValid p → CommitHands p es k
commit_law p es k h l may = (let r : Whole p (after_events p (first_world p) es) (committed p es) =
    whole_run p (first_world p) [] es (first_whole p (plan_fits p h)) l in
    commit_hands p (timely p h) (after_events p (first_world p) es) (committed p es) k r may)

pub least_law : (p : Plan) (es : List Event) → IsValid p → LeastLineIs p es
least_law p es h l =
    let w : World = after_events p (first_world p) es in
    let r : Whole p w (committed p es) = whole_run p (first_world p) [] es (first_whole p (plan_fits p h)) l in
    record {
      may = may_least p r.q w r.full.recs r.full.sim;
      at_end = least_end (mail w.links);
      stamp = least_stamp p r.q w r.full.recs r.full.sim;
    }

pub nothing_below : (p : Plan) (es : List Event) → IsValid p → NothingBelowIsKept p es
nothing_below p es h l =
    let k = run_kept p (plan_fits p h) es l in
    record {
      above = k;
      none = λ e.
          kept_none (after_events p (first_world p) es) (subst (λ z. Kept z (after_events p (first_world p) es)) e k);
    }

pub played_sequential : (p : Plan) (es : List Event) → IsValid p → PlayedIsSequential p es
played_sequential p es h = play_sequential p (plan_fits p h) (timely p h) es

pub links_same : (p : Plan) (es : List Event) → IsValid p → LinksStay p es
links_same p es h l =
    let w : World = after_events p (first_world p) es in
    let r : Whole p w (committed p es) = whole_run p (first_world p) [] es (first_whole p (plan_fits p h)) l in
    let a = run_awake p (plan_fits p h) es l in
    record {
      keys = a.links;
      between = mail_between w.links a.lanes;
      agents = a.count ∙ agents_len p 0 p.agents;
      clps = r.full.sim.size;
    }

pub windows_stay : (width : ℕ) (p : Plan) (j ds : List Event) → WindowsAdd width p j ds
windows_stay width p j ds =
    record { added = journal_window width p j ds; low = λ w a l s x. window_low width w a l s x }

pub no_journal : (p : Plan) (e : ℕ) → Journal p e 0 (first_world p) []
no_journal p e = record { legal = refl; least = tt; made = refl; spans = tt; closed = tt }

pub played_all : (p : Plan) (w : World) (es : List Event) → is_legal_run p w es ≡ true → (play p w es).stopped ≡ None
played_all p w es l = ap (λ (r : Played). r.stopped) (play_legal p w es l)

pub played_law : (p : Plan) (w : World) (es : List Event) → PlayLaw p w es (play p w es)
played_law p w es = play_law p w 0 es
