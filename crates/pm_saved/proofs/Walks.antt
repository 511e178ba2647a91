-- Walks along the kept steps.
use Rattle.std.proofs.Common.{◌≡◌, refl, sym, ◌∙◌, ap, ℕ, suc, ◌+◌, ◌<◌, ◌&&◌, Bool, true, false, is_some, ℤ, List}
use Rattle.std.proofs.Common.{[], ◌∷◌, ◌++◌, map, length, get_or, take, drop, arith, Option, Some, None}
use Rattle.std.proofs.lemmas.List.{drop_more, map-append, take_more}
use Rattle.pm_base.specs.Stamps.{is_below}
use Rattle.pm_base.specs.declared.rows.Entry.{Entry}
use Rattle.pm_base.specs.declared.stamp.Line.{Line}
use Rattle.pm_saved.specs.Inner.{is_ready, step_of, steps_of}
use Rattle.pm_saved.specs.Steps.{hand_one, hand_out, regs_after, regs_of}
use Rattle.pm_saved.specs.declared.held.Held.{Held}
use Rattle.pm_saved.specs.declared.kept.KeptAct.{KeptAct}
use Rattle.pm_saved.specs.declared.kept.KeptStep.{KeptStep}

one_more : (s : KeptStep) (b : Bool) (o : Option KeptAct) (es : List Entry) → (b && is_some o) ≡ true
    → length (hand_one b s o es) ≡ suc (length es)
one_more s true (Some a) es e = refl
one_more s true None es e = absurd cc
one_more s false (Some a) es e = absurd cc
one_more s false None es e = absurd cc

no_more : (s : KeptStep) (b : Bool) (o : Option KeptAct) (es : List Entry) → (b && is_some o) ≡ false
    → hand_one b s o es ≡ []
no_more s b None es e = refl
no_more s true (Some a) es e = absurd cc
no_more s false (Some a) es e = refl

pub ready-more : (l : Line) (hs : List Held) (i : ℕ) (h : Held) → i < length hs → h ≡ get_or hs i h
    → is_ready l h ≡ true
    → length (hand_out l (steps_of (drop i hs))) ≡ suc (length (hand_out l (steps_of (drop (i + 1) hs))))
ready-more l hs i h lt e r =
    ap (λ z. length (hand_out l (steps_of z))) (drop_more hs i h lt ∙ ap (λ z. z ∷ drop (i + 1) hs) (sym e))
    ∙ one_more (step_of h) (is_below h.stamp l) h.act _ r

pub ready-stop : (l : Line) (hs : List Held) (i : ℕ) (h : Held) → i < length hs → h ≡ get_or hs i h
    → is_ready l h ≡ false → hand_out l (steps_of (drop i hs)) ≡ []
ready-stop l hs i h lt e r =
    ap (λ z. hand_out l (steps_of z)) (drop_more hs i h lt ∙ ap (λ z. z ∷ drop (i + 1) hs) (sym e))
    ∙ no_more (step_of h) (is_below h.stamp l) h.act _ r

regs_append : (b : List ℤ) (xs ys : List KeptStep) → regs_after b (xs ++ ys) ≡ regs_after (regs_after b xs) ys
regs_append b [] ys = refl
regs_append b (x ∷ xs) ys = regs_append (regs_of b x.act) xs ys

-- the registers after one more step
pub regs-more : (b : List ℤ) (hs : List Held) (k : ℕ) (h : Held) → k < length hs → h ≡ get_or hs k h
    → regs_after b (steps_of (take (k + 1) hs)) ≡ regs_of (regs_after b (steps_of (take k hs))) h.act
regs-more b hs k h lt e =
    ap (λ z. regs_after b (steps_of z)) (take_more hs k h lt ∙ ap (λ z. take k hs ++ z ∷ []) (sym e))
    ∙ (ap (regs_after b) (map-append step_of (take k hs) (h ∷ []))
    ∙ regs_append b (steps_of (take k hs)) (step_of h ∷ []))
