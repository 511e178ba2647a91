-- The last of the open `if`s.
use Rattle.std.proofs.Common.{◌≡◌, refl, ap, sym, ◌∙◌, arith, ◌+◌, ◌-◌, ◌<◌, List, [], ◌∷◌, ◌++◌, length, take, get_or, Bool, true, false, Option, Some, None}
use Rattle.std.proofs.lemmas.List.{take_all, take_more}
use Rattle.std.specs.Prelude.{is_some, not}
use Rattle.pm_base.specs.declared.program.Stmt.{Stmt}
use Rattle.pm_rules.specs.Rules.{has_no_first, last_frame}
use Rattle.pm_rules.specs.declared.draft.Frame.{Frame}

pub last_frame-push : (fs : List Frame) (f : Frame) → last_frame (fs ++ f ∷ []) ≡ Some (fs, f)
last_frame-push [] f = refl
last_frame-push (g ∷ fs) f = rw (last_frame-push fs f) refl

pub last_frame-none : (fs : List Frame) → last_frame fs ≡ None → fs ≡ []
last_frame-none [] e = refl
last_frame-none (f ∷ fs) e = cc

-- it stands at the end
pub last_frame-at : (fs : List Frame) (d : Frame) → 0 < length fs → last_frame fs ≡ Some (take (length fs - 1) fs, get_or fs (length fs - 1) d)
last_frame-at fs d h =
    let i = length fs - 1 in
    let all : fs ≡ take i fs ++ get_or fs i d ∷ [] = sym (take_all (i + 1) fs (omega (arith, h))) ∙ take_more fs i d (omega (arith, h)) in
    ap last_frame all ∙ last_frame-push (take i fs) (get_or fs i d)

pub first-none : (first : Option (List Stmt)) (b : Bool) → is_some first ≡ not b → b ≡ has_no_first first
first-none None true e = refl
first-none None false e = cc
first-none (Some stmts) true e = cc
first-none (Some stmts) false e = refl
