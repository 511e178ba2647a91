-- What agents' processes hand out, one after another.
use Rattle.std.proofs.Common.{ℕ, zero, suc, ◌+◌, ◌≤◌, ◌<◌, ◌≡◌, ◌∙◌, Bool, true, false, cond, List, [], ◌∷◌, ◌++◌, Option, Some, None, ap, sym, refl, arith, map, length, get_or, take, drop, append-nil}
use Rattle.std.specs.List.{flat_map}
use Rattle.std.proofs.lemmas.Grind.{flat_map-append}
use Rattle.std.proofs.lemmas.List.{drop_more, take_more}
use Rattle.pm_base.specs.Stamps.{is_below}
use Rattle.pm_base.specs.declared.rows.Entry.{Entry}
use Rattle.pm_base.specs.declared.stamp.Line.{Line}
use Rattle.pm_alp.specs.declared.agent.Agent.{Agent}
use Rattle.pm_saved.specs.Steps.{first_ready, hand_one, hand_out}
use Rattle.pm_saved.specs.declared.kept.KeptAct.{KeptAct}
use Rattle.pm_saved.specs.declared.kept.KeptStep.{KeptStep}
use Rattle.pm_alp.specs.Views.{Process as AlpView}
use Rattle.pm_core.specs.Commits.{handed_by}

one_few : (b : Bool) (s : KeptStep) (o : Option KeptAct) (rest : List Entry) (n : ℕ) → length rest ≤ n
    → length (hand_one b s o rest) ≤ suc n
one_few b s None rest n h = omega arith
one_few false s (Some a) rest n h = omega arith
one_few true s (Some a) rest n h = omega arith

pub handed_few : (l : Line) (ss : List KeptStep) → length (hand_out l ss) ≤ length ss
handed_few l [] = omega arith
handed_few l (s ∷ ss) = one_few (is_below s.stamp l) s s.act (hand_out l ss) (length ss) (handed_few l ss)

none_one : (b : Bool) (s : KeptStep) (o : Option KeptAct) (rest : List Entry) → cond b o None ≡ None
    → hand_one b s o rest ≡ []
none_one b s None rest e = refl
none_one false s (Some a) rest e = refl
none_one true s (Some a) rest e = absurd (cc)

-- where the first step isn't ready, nothing is handed out
pub none_ready : (l : Line) (ss : List KeptStep) → first_ready l ss ≡ None → hand_out l ss ≡ []
none_ready l [] e = refl
none_ready l (s ∷ ss) e = none_one (is_below s.stamp l) s s.act (hand_out l ss) e

pub handed_more : (l : Line) (xs : List AlpView) (i : ℕ) (v : AlpView) → i < length xs → v ≡ get_or xs i v
    → handed_by l (take (i + 1) xs) ≡ handed_by l (take i xs) ++ hand_out l v.agent.steps
handed_more l xs i v lt is =
    ap (handed_by l) (take_more xs i v lt)
    ∙ (flat_map-append (λ (x : AlpView). hand_out l x.agent.steps) (take i xs) (get_or xs i v ∷ [])
    ∙ ap (λ z. handed_by l (take i xs) ++ z) (ap (λ (z : AlpView). handed_by l (z ∷ [])) (sym is)
    ∙ append-nil (hand_out l v.agent.steps)))

pub handed_left : (l : Line) (xs : List AlpView) (i : ℕ) (v : AlpView) → i < length xs → v ≡ get_or xs i v
    → handed_by l (drop i xs) ≡ hand_out l v.agent.steps ++ handed_by l (drop (i + 1) xs)
handed_left l xs i v lt is =
    ap (handed_by l) (drop_more xs i v lt)
    ∙ ap (λ (z : AlpView). hand_out l z.agent.steps ++ handed_by l (drop (i + 1) xs)) (sym is)

-- the same by the agents' states
pub handed_agents : (l : Line) (xs : List AlpView)
    → handed_by l xs ≡ flat_map (λ (a : Agent). hand_out l a.steps) (map (λ (v : AlpView). v.agent) xs)
handed_agents l [] = refl
handed_agents l (v ∷ xs) = ap (λ z. hand_out l v.agent.steps ++ z) (handed_agents l xs)

-- the element that a loop comes to is still the one that was there
pub item_left : {X : Type 0} (f : X → X) (xs : List X) (i : ℕ) (d : X) → i < length xs
    → get_or (map f (take i xs) ++ drop i xs) i d ≡ get_or xs i d
item_left f [] i d lt = absurd (omega arith)
item_left f (x ∷ xs) zero d lt = refl
item_left f (x ∷ xs) (suc i) d lt = item_left f xs i d (omega arith)
