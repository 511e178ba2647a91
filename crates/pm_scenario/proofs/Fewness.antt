-- A text of fewer than 2 ^ 32 bytes has few classes, variables and agents.
use Rattle.std.proofs.Common.{◌≡◌, refl, arith, ℕ, ◌<◌, ◌^◌, Bool, true, false, List, length, Option, Some, None, Ok, Err}
use Rattle.std.specs.Str.{is_utf8}
use Rattle.toml.specs.Data.{Members}
use Rattle.toml.specs.Parse.{parse_document}
use Rattle.pm_scenario.specs.Fewness.{IsFew}
use Rattle.pm_scenario.specs.Scenarios.{draft_of, draft_of_document}
use Rattle.pm_scenario.specs.declared.draft.Draft.{Draft}
use Rattle.pm_scenario.specs.declared.fault.ScenarioFault.TheVariants as fault
use Rattle.std.specs.Prelude.{if◌then◌else◌}
use Rattle.pm_scenario.proofs.DraftSizes.{HasSize, draft_size}
use Rattle.pm_scenario.proofs.DocumentSizes.{document_size}

few_from : (d : Draft) (n : ℕ) → n < 2 ^ 32 → HasSize d n → IsFew d
few_from d n few h = record {
  classes = (let k = h.classes in omega (arith, few, k));
  vars = (let k = h.vars in omega (arith, few, k));
  agents = (let k = h.agents in omega (arith, few, k));
}

in_document : (bytes : List ℕ) (o : Option Members) (d : Draft) → parse_document bytes ≡ o → draft_of_document o ≡ Ok d → HasSize d (length bytes)
in_document bytes None d there e = absurd (cc)
in_document bytes (Some root) d there e =
    let h = draft_size root d e in
    let most = document_size bytes root there in
    record {
      classes = (let k = h.classes in omega (arith, most, k));
      vars = (let k = h.vars in omega (arith, most, k));
      agents = (let k = h.agents in omega (arith, most, k));
    }

in_text : (b : Bool) (bytes : List ℕ) (d : Draft) → (if b then draft_of_document (parse_document bytes) else Err fault.NotToml) ≡ Ok d → HasSize d (length bytes)
in_text true bytes d e = in_document bytes (parse_document bytes) d refl e
in_text false bytes d e = absurd (cc)

pub few_of : (bytes : List ℕ) (d : Draft) → length bytes < 2 ^ 32 → draft_of bytes ≡ Ok d → IsFew d
unfolding draft_of
few_of bytes d few e = few_from d (length bytes) few (in_text (is_utf8 bytes) bytes d e)
