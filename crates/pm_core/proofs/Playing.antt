-- Events that are played one after another.
use Rattle.std.proofs.Common.{ℕ, zero, suc, ◌+◌, ◌<◌, ◌≤◌, ◌≡◌, ◌∙◌, true, false, cond, List, [], ◌∷◌, ◌++◌, Some, ap, sym, refl, arith, length, get_or, take, drop, append_assoc, append-nil}
use Rattle.std.proofs.lemmas.List.{drop_more, take_more}
use Rattle.pm_base.specs.declared.rows.Entry.{Entry}
use Rattle.pm_base.specs.declared.run.Event.{Event}
use Rattle.pm_base.specs.declared.run.Event.TheVariants as event
use Rattle.pm_plan.specs.declared.plan.Plan.{Plan}
use Rattle.pm_sim.specs.Journals.{made}
use Rattle.pm_sim.specs.Played.{before, play_from}
use Rattle.pm_sim.specs.Worlds.{World, after_event, hands, is_legal}
use Rattle.pm_sim.proofs.Heads.{made_append}
use Rattle.pm_core.specs.Views.{WorldView, happened}

-- what an event adds to the deliveries
pub made_more : (es : List Event) (i : ℕ) (e : Event) → i < length es → e ≡ get_or es i e
    → made (take (i + 1) es) ≡ made (take i es) + made (e ∷ [])
made_more es i e lt is =
    ap made (take_more es i e lt ∙ ap (λ z. take i es ++ z ∷ []) (sym is)) ∙ made_append (take i es) (e ∷ [])

pub happened_made : (v : WorldView) (e : Event) → (happened v e).made ≡ v.made + made (e ∷ [])
happened_made v (event.Deliver to from) = omega arith
happened_made v (event.Commit l) = omega arith

pub happened_world : (v : WorldView) (e : Event) → (happened v e).world ≡ after_event v.plan v.world e
happened_world v (event.Deliver to from) = refl
happened_world v (event.Commit l) = refl

pub happened_spoilt : (v : WorldView) (e : Event) → (happened v e).spoilt ≡ v.spoilt
happened_spoilt v (event.Deliver to from) = refl
happened_spoilt v (event.Commit l) = refl

-- one event more was done
pub play_more : (p : Plan) (w : World) (i : ℕ) (es : List Event) (e : Event) (xs : List Entry) → i < length es
    → e ≡ get_or es i e → is_legal p w e ≡ true
    → before xs (play_from p w i (drop i es))
    ≡ before (xs ++ hands w e) (play_from p (after_event p w e) (i + 1) (drop (i + 1) es))
play_more p w i es e xs lt is legal =
    let d : drop i es ≡ e ∷ drop (i + 1) es = drop_more es i e lt ∙ ap (λ z. z ∷ drop (i + 1) es) (sym is) in
    let f : suc i ≡ i + 1 = omega arith in
    let r = play_from p (after_event p w e) (suc i) (drop (i + 1) es) in
    ap (λ z. before xs (play_from p w i z)) d
    ∙ (ap (λ b. before xs (cond b (before (hands w e) r) (record { world = w; entries = []; stopped = Some i }))) legal
    ∙ (ap (λ z. record r { entries = z }) (sym (append_assoc xs (hands w e) r.entries))
    ∙ ap (λ k. before (xs ++ hands w e) (play_from p (after_event p w e) k (drop (i + 1) es))) f))

-- an event isn't legal
pub play_stops : (p : Plan) (w : World) (i : ℕ) (es : List Event) (e : Event) (xs : List Entry) → i < length es
    → e ≡ get_or es i e → is_legal p w e ≡ false
    → before xs (play_from p w i (drop i es)) ≡ record { world = w; entries = xs; stopped = Some i }
play_stops p w i es e xs lt is legal =
    let d : drop i es ≡ e ∷ drop (i + 1) es = drop_more es i e lt ∙ ap (λ z. z ∷ drop (i + 1) es) (sym is) in
    let r = play_from p (after_event p w e) (suc i) (drop (i + 1) es) in
    ap (λ z. before xs (play_from p w i z)) d
    ∙ (ap (λ b. before xs (cond b (before (hands w e) r) (record { world = w; entries = []; stopped = Some i }))) legal
    ∙ ap (λ z. record { world = w; entries = z; stopped = Some i }) (append-nil xs))

made_low : (es : List Event) (i : ℕ) → made (take i es) ≤ i
made_low [] zero = omega arith
made_low [] (suc i) = omega arith
made_low (e ∷ es) zero = omega arith
made_low (event.Deliver to from ∷ es) (suc i) = (let a = made_low es i in omega arith)
made_low (event.Commit l ∷ es) (suc i) = (let a = made_low es i in omega arith)

pub made_few : (es : List Event) (i n k : ℕ) → i < length es → n + length es ≤ 20000000 → k ≡ n + made (take i es)
    → k < 20000000
made_few es i n k lt few e = (let a = made_low es i in omega arith)
