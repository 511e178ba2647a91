-- The counts of a plan that was read fit an integer of a document.
use Rattle.std.proofs.Common.{◌≡◌, refl, subst, ℕ, ◌<◌, arith, Bool, true, false, List, [], Option, Some, None, Result, Ok, Err, pos, negsuc, codes}
use Rattle.std.specs.Prelude.{◌^◌, if◌then◌else◌}
use Rattle.std.specs.Str.{is_utf8}
use Rattle.toml.specs.Data.{Data, Members, string, integer, float, boolean, datetime, array, table, get_member}
use Rattle.toml.specs.Parse.{parse_document}
use Rattle.pm_plan.specs.Plans.{numbered, refusal, unless_refused}
use Rattle.pm_plan.specs.Plans as plans
use Rattle.pm_plan.specs.declared.fault.PlanFault.{PlanFault}
use Rattle.pm_plan.specs.declared.parts.AgentPart.{AgentPart}
use Rattle.pm_plan.specs.declared.parts.ClassPart.{ClassPart}
use Rattle.pm_plan.specs.declared.parts.ClpPart.{ClpPart}
use Rattle.pm_plan.specs.declared.parts.PlanParts.{PlanParts}
use Rattle.pm_plan.specs.declared.plan.Plan.{Plan}
use Rattle.pm_scenario.specs.Forms.{◌>>=◌, ◌◃◌, Field, Form, Path, count, default, field_at, made_by, required, tables, value_of, walk}
use Rattle.pm_scenario.specs.Scenarios.{agent_form, class_form, clp_form, draft, draft_of, draft_of_document, draft_of_root, parts_of, plan_of, plan_or, root_form, version, with_agents}
use Rattle.pm_scenario.specs.declared.draft.AgentText.{AgentText}
use Rattle.pm_scenario.specs.declared.draft.Draft.{Draft}
use Rattle.pm_scenario.specs.declared.draft.Version.{Version}
use Rattle.pm_scenario.specs.declared.fault.ScenarioFault.{ScenarioFault}
use Rattle.pm_upgrade.proofs.SmallRoots.{AreSmall, document-small, got-small}
use Rattle.pm_upgrade.proofs.SmallText.{IsSmall}

-- this is so of what was read, where it was not refused
unfoldable Holds : {A : Type 0} → (A → Type 0) → Result A ScenarioFault → Type 0
Holds P (Ok x) = P x
Holds P (Err f) = Unit {0}

abbrev Any : {A : Type 0} → A → Type 0
Any x = Unit {0}

holds-any : {A : Type 0} (r : Result A ScenarioFault) → Holds Any r
unfolding Holds
holds-any (Ok x) = tt
holds-any (Err f) = tt

holds-then : {A B : Type 0} (Q : A → Type 0) (P : B → Type 0) (r : Result A ScenarioFault) (k : A → Result B ScenarioFault)
    → Holds Q r → ((x : A) → Q x → Holds P (k x)) → Holds P (r >>= k)
unfolding Holds
holds-then Q P (Ok x) k h g = g x h
holds-then Q P (Err f) k h g = tt

holds-ok : {A : Type 0} (P : A → Type 0) (x : A) → P x → Holds P (Ok x)
unfolding Holds
holds-ok P x h = h

holds-more : {A B : Type 0} (Q : (A → B) → Type 0) (R : A → Type 0) (P : B → Type 0) (form : Form (A → B)) (field : Field A) (prefix : Path) (ms : Members)
    → Holds Q (form.values prefix ms) → Holds R (field_at field prefix ms) → ((f : A → B) (x : A) → Q f → R x → P (f x)) → Holds P ((form ◃ field).values prefix ms)
holds-more Q R P form field prefix ms h g k =
    holds-then Q P (form.values prefix ms) _ h (λ f q. holds-then R P (field_at field prefix ms) _ g (λ x r. holds-ok P (f x) (k f x q r)))

abbrev Low : ℕ → Type 0
Low n = n < 2 ^ 63

count-low : (path : Path) (d : Data) → IsSmall d → Holds Low (count path d)
unfolding Holds
count-low path (integer (pos n)) h = h
count-low path (integer (negsuc n)) h = tt
count-low path (string s) h = tt
count-low path (float x) h = tt
count-low path (boolean b) h = tt
count-low path (datetime t) h = tt
count-low path (array ds) h = tt
count-low path (table ms) h = tt

value-low : (path : Path) (o : Option Data) → ((d : Data) → o ≡ Some d → IsSmall d) → Holds Low (value_of (default (codes "move_after") count 0) path o)
value-low path None small = holds-ok Low 0 (omega arith)
value-low path (Some d) small = count-low path d (small d refl)

field-low : (prefix : Path) (ms : Members) → AreSmall ms → Holds Low (field_at (default (codes "move_after") count 0) prefix ms)
field-low prefix ms small = value-low _ (get_member (codes "move_after") ms) (λ d e. got-small (codes "move_after") ms d e small)

abbrev LowDraft : Draft → Type 0
LowDraft d = d.move_after < 2 ^ 63

-- the root's values
root-low : (prefix : Path) (ms : Members) → AreSmall ms → Holds LowDraft (root_form.values prefix ms)
unfolding root_form
root-low prefix ms small =
    let none = made_by draft in
    let one = none ◃ version in
    let two = one ◃ required (codes "horizon") count in
    let three = two ◃ default (codes "move_after") count 0 in
    let four = three ◃ default (codes "clp") (tables clp_form) [] in
    let five = four ◃ default (codes "class") (tables class_form) [] in
    let at0 : Holds (λ (f : Version → ℕ → ℕ → List ClpPart → List ClassPart → List AgentText → Draft). (v : Version) (h m : ℕ) → m < 2 ^ 63 → (a : List ClpPart) (b : List ClassPart) (c : List AgentText) → LowDraft (f v h m a b c)) (none.values prefix ms) =
    holds-ok _ draft (λ v h m low a b c. low) in
    let at1 : Holds (λ (f : ℕ → ℕ → List ClpPart → List ClassPart → List AgentText → Draft). (h m : ℕ) → m < 2 ^ 63 → (a : List ClpPart) (b : List ClassPart) (c : List AgentText) → LowDraft (f h m a b c)) (one.values prefix ms) =
    holds-more _ Any _ none version prefix ms at0 (holds-any _) (λ f x q _. q x) in
    let at2 : Holds (λ (f : ℕ → List ClpPart → List ClassPart → List AgentText → Draft). (m : ℕ) → m < 2 ^ 63 → (a : List ClpPart) (b : List ClassPart) (c : List AgentText) → LowDraft (f m a b c)) (two.values prefix ms) =
    holds-more _ Any _ one (required (codes "horizon") count) prefix ms at1 (holds-any _) (λ f x q _. q x) in
    let at3 : Holds (λ (f : List ClpPart → List ClassPart → List AgentText → Draft). (a : List ClpPart) (b : List ClassPart) (c : List AgentText) → LowDraft (f a b c)) (three.values prefix ms) =
    holds-more _ Low _ two (default (codes "move_after") count 0) prefix ms at2 (field-low prefix ms small) (λ f x q r. q x r) in
    let at4 : Holds (λ (f : List ClassPart → List AgentText → Draft). (b : List ClassPart) (c : List AgentText) → LowDraft (f b c)) (four.values prefix ms) =
    holds-more _ Any _ three (default (codes "clp") (tables clp_form) []) prefix ms at3 (holds-any _) (λ f x q _. q x) in
    let at5 : Holds (λ (f : List AgentText → Draft). (c : List AgentText) → LowDraft (f c)) (five.values prefix ms) =
    holds-more _ Any _ four (default (codes "class") (tables class_form) []) prefix ms at4 (holds-any _) (λ f x q _. q x) in
    holds-more _ Any LowDraft five (default (codes "agent") (tables agent_form) []) prefix ms at5 (holds-any _) (λ f x q _. q x)

document-low : (o : Option Members) → ((root : Members) → o ≡ Some root → AreSmall root) → Holds LowDraft (draft_of_document o)
unfolding draft_of_root Holds
document-low None small = tt
document-low (Some root) small =
    holds-then Any LowDraft (field_at version [] root) _ (holds-any _) (λ _ _.
    holds-then Any LowDraft _ _ (holds-any _) (λ _ _. root-low [] root (small root refl)))

either-draft : (b : Bool) (r s : Result Draft ScenarioFault) → Holds LowDraft r → Holds LowDraft s → Holds LowDraft (if b then r else s)
either-draft true r s h g = h
either-draft false r s h g = g

draft-low : (text : List ℕ) → Holds LowDraft (draft_of text)
unfolding draft_of Holds
draft-low text = either-draft (is_utf8 text) _ _ (document-low (parse_document text) (λ root e. document-small text root e)) tt

abbrev LowParts : PlanParts → Type 0
LowParts ps = ps.move_after < 2 ^ 63

parts-low : (d : Draft) → LowDraft d → Holds LowParts (parts_of d)
unfolding parts_of
parts-low d low = holds-then Any LowParts _ _ (holds-any _) (λ agents _. holds-ok LowParts (with_agents d agents) low)

abbrev LowPlan : Plan → Type 0
LowPlan p = p.move_after < 2 ^ 63

unless-low : (o : Option PlanFault) (p : Plan) → LowPlan p → Holds LowPlan (plan_or (unless_refused o p))
unfolding Holds
unless-low None p low = low
unless-low (Some f) p low = tt

numbered-low : (ps : PlanParts) → LowParts ps → LowPlan (numbered ps)
unfolding numbered
numbered-low ps low = low

plan-low : (ps : PlanParts) → LowParts ps → Holds LowPlan (plan_or (plans.plan_of ps))
unfolding plans.plan_of
plan-low ps low = unless-low (refusal (numbered ps)) (numbered ps) (numbered-low ps low)

all-low : (text : List ℕ) → Holds LowPlan (plan_of text)
unfolding plan_of
all-low text =
    holds-then LowDraft LowPlan (draft_of text) _ (draft-low text) (λ d low.
    holds-then LowParts LowPlan (parts_of d) _ (parts-low d low) (λ ps less. plan-low ps less))

told : (r : Result Plan ScenarioFault) (plan : Plan) → r ≡ Ok plan → Holds LowPlan r → LowPlan plan
unfolding Holds
told (Ok p) plan e h = (let same : p ≡ plan = cc in subst LowPlan same h)
told (Err f) plan e h = absurd (cc)

-- variables move after fewer than 2 ^ 63 uses in a plan that was read
pub read-low : (text : List ℕ) (plan : Plan) → plan_of text ≡ Ok plan → plan.move_after < 2 ^ 63
read-low text plan e = told (plan_of text) plan e (all-low text)
