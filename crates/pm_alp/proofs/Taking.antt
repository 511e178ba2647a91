-- What a hit does to the sense that it is for.
use Rattle.std.proofs.Common.{◌≡◌, refl, sym, ap, ◌∙◌, ℕ, ◌-◌, ◌==◌, Bool, true, false, not, List, [], ◌∷◌, ◌++◌}
use Rattle.std.proofs.Common.{◌<◌, ◌≤◌, nat_le, subst, length, Some, arith}
use Rattle.std.proofs.lemmas.Bool.Decides.{nat_tests}
use Rattle.pm_base.specs.declared.rows.GiveRow.{GiveRow}
use Rattle.pm_base.specs.declared.stamp.Num.{Num}
use Rattle.pm_base.specs.declared.value.Hit.{Hit}
use Rattle.pm_base.specs.declared.value.Query.{Query}
use Rattle.pm_base.specs.declared.value.Query.TheVariants as query
use Rattle.pm_base.specs.declared.value.Window.{Window}
use Rattle.pm_message.specs.declared.Message.{Message}
use Rattle.pm_saved.specs.Senses.{add_kept, answer, hits_eq, kept_turn}
use Rattle.pm_saved.specs.Spots.{AtSpot, Spot, find, spot_at}
use Rattle.pm_saved.specs.Steps.{Kept, with_sense, withdrawn}
use Rattle.pm_saved.specs.declared.kept.KeptSense.{KeptSense}
use Rattle.pm_saved.specs.declared.spot.Spot.{Spot as Place}
use Rattle.pm_alp.specs.Agents.{Actor, at_open, finished, go_on, kept_in, no_sends, on_finish, on_give, rolled_back}
use Rattle.pm_alp.specs.Agents.{with_hit}
use Rattle.pm_alp.specs.States.{HasMoved, IsReady, IsThere, agent_of, told_before, written_at}
use Rattle.pm_alp.specs.declared.agent.Agent.{Agent}
use Rattle.pm_alp.specs.declared.state.State.{State}
use Rattle.pm_alp.proofs.AgentLaws.{give-older}
use Rattle.pm_alp.proofs.Going.{keeping, moved-after, moved-as, moved-from, moved-kept, stayed}
use Rattle.pm_alp.proofs.Places.{spot-written}
use Rattle.pm_alp.proofs.Told.{told-kept, told-written}

pub not-false : (b : Bool) → not b ≡ false → b ≡ true
not-false true e = refl
not-false false e = sym e

pub not-true : (b : Bool) → not b ≡ true → b ≡ false
not-true true e = sym e
not-true false e = refl

-- the place after its sense changed
pub there-written : (at : Place) (s : Spot) (x : KeptSense) (k one : Kept) → spot_at at k.steps ≡ Some s
    → one ≡ with_sense s x k → spot_at at one.steps ≡ Some (written_at s x)
there-written at s x k one e f = ap (λ (z : Kept). spot_at at z.steps) f ∙ spot-written at k.steps s x e

hit_same : (p : Actor) (a : Agent) (s : Spot) (x : KeptSense) → s.sense.complete ≡ true
    → hits_eq (answer x.hits) (answer s.sense.hits) ≡ true → no_sends (kept_in a s x) ≡ with_hit p a s x
hit_same p a s x e f = rw e (rw f refl)

hit_changed : (p : Actor) (a : Agent) (s : Spot) (x : KeptSense) → s.sense.complete ≡ true
    → hits_eq (answer x.hits) (answer s.sense.hits) ≡ false → rolled_back p a s x ≡ with_hit p a s x
hit_changed p a s x e f = rw e (rw f refl)

hit_open : (p : Actor) (a : Agent) (s : Spot) (x : KeptSense) (q : Query) → s.sense.complete ≡ false
    → q ≡ s.sense.query → at_open p a s q x ≡ with_hit p a s x
hit_open p a s x q e f = ap (λ z. at_open p a s z x) f ∙ rw e refl

-- the answer stays
pub answer-stays : (n : ℕ) (p : Actor) (old : State) (kept : Kept) (at : Place) (s : Spot) (x : KeptSense)
    (out : List Message) → IsReady old → spot_at at old.saved.steps ≡ Some s
    → kept ≡ with_sense s x old.saved → s.sense.complete ≡ true → hits_eq (answer x.hits) (answer s.sense.hits) ≡ true
    → HasMoved n (with_hit p (agent_of old) s x) old (record old { saved = kept }) out out
answer-stays n p old kept at s x out h e k c f =
    moved-as n n _ _ old (record old { saved = kept }) out out (omega arith) (hit_same p (agent_of old) s x c f)
    (moved-kept old kept old.told at s x out n h e k (told-kept old.saved.steps at s x old.told h.told e f))

-- the answer changes
pub answer-changes : (n : ℕ) (p : Actor) (old new : State) (kept : Kept) (told : List (List Hit)) (s : Spot)
    (x : KeptSense) (out mid out' : List Message) → kept ≡ with_sense s x old.saved
    → s.sense.complete ≡ true → true ≡ x.complete → hits_eq (answer x.hits) (answer s.sense.hits) ≡ false
    → mid ≡ out ++ withdrawn (s.here ∷ s.rest)
    → HasMoved n (go_on p kept.base s.front s.here.stamp (s.before ++ record x { complete = true } ∷ []) old.seq)
    (keeping old kept told) new mid out'
    → HasMoved n (with_hit p (agent_of old) s x) old new out out'
answer-changes n p old new kept told s x out mid out' k c c' f m h =
    let base = ap (λ (z : Kept). go_on p z.base s.front s.here.stamp
    (s.before ++ record x { complete = true } ∷ []) old.seq) k in
    let whole = ap (λ b. go_on p old.saved.base s.front s.here.stamp
    (s.before ++ record x { complete = b } ∷ []) old.seq) c' in
    moved-as n n _ _ old new out out' (omega arith) (hit_changed p (agent_of old) s x c f)
    (moved-after n (go_on p old.saved.base s.front s.here.stamp (s.before ++ x ∷ []) old.seq) old new kept told
    (withdrawn (s.here ∷ s.rest)) out mid out' m
    (moved-as n n _ _ (keeping old kept told) new mid out' (omega arith) (base ∙ whole) h))

-- a single read has its hit
pub read-answered : (n : ℕ) (p : Actor) (old new : State) (kept : Kept) (told : List (List Hit)) (s : Spot)
    (x : KeptSense) (v : ℕ) (out out' : List Message) → kept ≡ with_sense s x old.saved
    → s.sense.complete ≡ false → query.One v ≡ s.sense.query
    → HasMoved n (go_on p kept.base s.front s.here.stamp (s.before ++ record x { complete = true } ∷ []) old.seq)
    (keeping old kept told) new out out'
    → HasMoved n (with_hit p (agent_of old) s x) old new out out'
read-answered n p old new kept told s x v out out' k c q h =
    let base = ap (λ (z : Kept). go_on p z.base s.front s.here.stamp
    (s.before ++ record x { complete = true } ∷ []) old.seq) k in
    moved-from n _ _ old new kept told out out' (base ∙ hit_open p (agent_of old) s x (query.One v) c q) h

-- a query of a class waits for more
pub query-waits : (n : ℕ) (p : Actor) (old : State) (kept : Kept) (told : List (List Hit)) (at : Place) (s : Spot)
    (x : KeptSense) (k : ℕ) (w : Window) (out : List Message) → IsReady old → spot_at at old.saved.steps ≡ Some s
    → kept ≡ with_sense s x old.saved → told ≡ told_before (at.step == length old.saved.steps - 1) at.sense old.told
    → s.sense.complete ≡ false → query.Class k w ≡ s.sense.query
    → HasMoved n (with_hit p (agent_of old) s x) old (keeping old kept told) out out
query-waits n p old kept told at s x k w out h e f t c q =
    moved-as n n _ _ old (keeping old kept told) out out (omega arith)
    (hit_open p (agent_of old) s x (query.Class k w) c q)
    (moved-kept old kept told at s x out n h e f (told-written old.saved.steps at s x old.told told h.told e t))

-- a query of a class has ended
pub finish-moved : (n : ℕ) (p : Actor) (num : Num) (old new : State) (at : Place) (complete : Bool) (q : Query) (k : ℕ)
    (w : Window) (out out' : List Message) → find num old.saved.steps ≡ spot_at at old.saved.steps
    → IsThere old.saved.steps at → AtSpot old.saved.steps at (λ s. complete ≡ s.sense.complete) → complete ≡ false
    → AtSpot old.saved.steps at (λ s. q ≡ s.sense.query) → q ≡ query.Class k w
    → AtSpot old.saved.steps at (λ s. HasMoved n (go_on p old.saved.base s.front s.here.stamp
    (s.before ++ record s.sense { complete = true } ∷ []) old.seq) old new out out')
    → HasMoved n (on_finish p (agent_of old) (find num old.saved.steps)) old new out out'
finish-moved n p num old new at complete q k w out out' f there hc c hq e m =
    let s = there.0 in
    let here = there.1 in
    let a = agent_of old in
    moved-as n n _ _ old new out out' (omega arith) (sym (ap (on_finish p a) (f ∙ here)
    ∙ (ap (λ b. finished b p a s s.sense.query) (sym (hc s here) ∙ c)
    ∙ ap (finished false p a s) (sym (hq s here) ∙ e)))) (m s here)

-- a hit with an older turn
pub older-stays : (n : ℕ) (p : Actor) (r : GiveRow) (old : State) (at : Place) (t : ℕ) (out : List Message)
    → IsReady old → find r.num old.saved.steps ≡ spot_at at old.saved.steps → IsThere old.saved.steps at
    → AtSpot old.saved.steps at (λ s. t ≡ kept_turn r.var s.sense.hits) → r.turn ≤ t
    → HasMoved n (on_give p (agent_of old) r (find r.num old.saved.steps)) old old out out
older-stays n p r old at t out h f there ht le =
    let s = there.0 in
    let here = there.1 in
    let low : r.turn ≤ kept_turn r.var s.sense.hits = subst (λ k. r.turn ≤ k) (ht s here) le in
    moved-as n n _ _ old old out out (omega arith) (sym (give-older p (agent_of old) r s (f ∙ here) low))
    (stayed old out n h)

-- a hit with a newer turn
pub newer-moved : (n : ℕ) (p : Actor) (r : GiveRow) (old new : State) (at : Place) (t : ℕ) (out out' : List Message)
    → find r.num old.saved.steps ≡ spot_at at old.saved.steps → IsThere old.saved.steps at
    → AtSpot old.saved.steps at (λ s. t ≡ kept_turn r.var s.sense.hits) → t < r.turn
    → AtSpot old.saved.steps at (λ s. HasMoved n (with_hit p (agent_of old) s (record s.sense {
      hits = add_kept (record { var = r.var; turn = r.turn; hit = r.hit }) s.sense.hits;
    })) old new out out')
    → HasMoved n (on_give p (agent_of old) r (find r.num old.saved.steps)) old new out out'
newer-moved n p r old new at t out out' f there ht lt m =
    let s = there.0 in
    let here = there.1 in
    let less : kept_turn r.var s.sense.hits < r.turn = subst (λ k. k < r.turn) (ht s here) lt in
    let newer : nat_le r.turn (kept_turn r.var s.sense.hits) ≡ false = grind (arith, nat_tests, less) in
    moved-as n n _ _ old new out out' (omega arith) (sym (ap (on_give p (agent_of old) r) (f ∙ here) ∙ rw newer refl))
    (m s here)
