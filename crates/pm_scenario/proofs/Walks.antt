-- Laws of a walk.
use Rattle.std.proofs.Common.{◌≡◌, refl, ap, sym, ℕ, ◌+◌, ◌<◌, drop, get_or, length, Bool, true, false, List, [], ◌∷◌, ◌++◌, append_assoc, Ok, Err, Result}
use Rattle.std.proofs.lemmas.Str.{is_utf8-from_IsUtf8, IsUtf8-from_is_utf8}
use Rattle.std.specs.Str.{is_utf8, IsUtf8}
use Rattle.pm_scenario.specs.declared.fault.ScenarioFault.{ScenarioFault}
use Rattle.pm_scenario.specs.Forms.{with_front, ◌>>=◌}
use Rattle.std.proofs.lemmas.List.{drop_more}
use Rattle.pm_plan.specs.declared.parts.AgentPart.{AgentPart}
use Rattle.pm_rules.specs.Reading.{Table}
use Rattle.pm_scenario.specs.Scenarios.{agent_part, agent_parts}
use Rattle.pm_scenario.specs.declared.draft.AgentText.{AgentText}

pub with_front-one : {A : Type 0} (front : List A) (x : A) (read : Result (List A) ScenarioFault) →
    with_front front (read >>= λ more. Ok (x ∷ more)) ≡ with_front (front ++ x ∷ []) read
with_front-one front x (Ok more) = ap (λ (l : List _). Ok l) (sym (append_assoc front (x ∷ []) more))
with_front-one front x (Err e) = refl

pub ruleset walk_laws = (is_utf8-from_IsUtf8, with_front-one)

not_true : (b : Bool) → ¬ (b ≡ true) → b ≡ false
not_true true h = absurd (h refl)
not_true false h = refl

pub not_text : (bs : List ℕ) → ¬ (IsUtf8 bs) → is_utf8 bs ≡ false
not_text bs h = not_true (is_utf8 bs) (λ e. h (IsUtf8-from_is_utf8 bs e))

-- one more agent with its rule
pub agents_more : (names : Table) (version i : ℕ) (agents : List AgentText) (agent : AgentText) (part : AgentPart) (parts : List AgentPart) →
    i < length agents → agent ≡ get_or agents i agent → agent_part names version i agent ≡ Ok part →
    with_front parts (agent_parts names version i (drop i agents)) ≡ with_front (parts ++ part ∷ []) (agent_parts names version (i + 1) (drop (i + 1) agents))
unfolding agent_parts
agents_more names version i agents agent part parts h is e =
    rw (drop_more agents i agent h, ← is, e) (with_front-one parts part (agent_parts names version (i + 1) (drop (i + 1) agents)))
