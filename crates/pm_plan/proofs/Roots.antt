-- Whether a root was passed.
use Rattle.std.proofs.lemmas.List.{get_or-map}
use Rattle.pm_plan.specs.Plans.{parents}
use Rattle.pm_plan.specs.declared.plan.ClpRow.{ClpRow}
use Rattle.std.proofs.Common.{◌≡◌, ℕ, ◌+◌, ◌<◌, get_or, Bool, ◌||◌, List, length, take, Option, None, ap, sym, ◌∙◌}
use Rattle.std.specs.List.{list_any}
use Rattle.std.specs.Prelude.{is_none}
use Rattle.std.proofs.lemmas.List.Folds.{list_any_more}
use Rattle.pm_plan.specs.Trees.{parent}

pub root_more : (ps : List (Option ℕ)) (i : ℕ) (b : Bool) → i < length ps → b ≡ list_any is_none (take i ps) → (b || is_none (parent ps i)) ≡ list_any is_none (take (i + 1) ps)
root_more ps i b lt e = ap (λ x. x || is_none (parent ps i)) e ∙ sym (list_any_more is_none ps i None lt)

pub parent_at : (clps : List ClpRow) (i : ℕ) (row : ClpRow) → i < length clps → row ≡ get_or clps i row → parent (parents clps) i ≡ row.parent
parent_at clps i row lt e = get_or-map (λ r. r.parent) clps i row None lt ∙ ap (λ r. r.parent) (sym e)
