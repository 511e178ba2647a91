-- One use of one of our arguments.
use Rattle.std.proofs.Common.{◌≡◌, ◌∙◌, ◌&&◌, ◌||◌, ◌⊎◌, inl, inr, Bool, cond, codes, true, false, not, refl, sym, ap, subst, List, [], ◌∷◌, ◌++◌, Option, Some, None, true≢false, append-nil}
use Rattle.std.specs.Prelude.{⊤}
use Rattle.std.specs.Option.{option_map_or}
use Rattle.std.specs.Str.{bytes_eq}
use Rattle.clap.specs.Walk.{Held, Row, Rule, at_row, has_row, used, used_by_id, settled_rows, without, more_values}
use Rattle.clap.specs.declared.parser.matches.ValueSource.TheVariants.{CommandLine}
use Rattle.clap.specs.Kinds.{Kinds, or_else}
use Rattle.clap.specs.Faults.{settle_fault, use_fault}
use Rattle.clap.specs.declared.error.kind.ErrorKind.TheVariants as kind
use Rattle.pm_words.specs.Line.{shape}
use Rattle.pm_words.specs.Words.{Text, Part, is_option, flag_name, mode_name, flag_part}
use Rattle.pm_words.proofs.Rules.{option_rule, mode_rule, flag_rule, option_by_id, mode_by_id, no_repeats}
use Rattle.pm_words.proofs.Taken.{part_row, once}

abbrev pub has_fault : Kinds → Bool
has_fault [] = false
has_fault (k ∷ ks) = true

abbrev pub repeat : Bool → Kinds
repeat true = kind.ArgumentConflict ∷ []
repeat false = []

abbrev pub again : Bool
again = shape.args_override_self

repeats : (h a : Bool) → a ≡ false → or_else (cond (h && not a) (kind.ArgumentConflict ∷ []) []) [] ≡ repeat h
repeats h true is = absurd (true≢false is)
repeats true false is = refl
repeats false false is = refl

pub use_option : (name v : Text) (rows : List Row) → use_fault again (option_rule name) (v ∷ []) rows
    ≡ repeat (has_row name rows)
use_option name v rows = repeats (has_row name rows) again no_repeats

pub use_mode : (v : Text) (rows : List Row) → use_fault again mode_rule (v ∷ []) rows ≡ repeat (has_row mode_name rows)
use_mode v rows = repeats (has_row mode_name rows) again no_repeats

pub use_flag : (rows : List Row) → use_fault again flag_rule [] rows ≡ repeat (has_row flag_name rows)
use_flag rows = repeats (has_row flag_name rows) again no_repeats

-- ---- the rows after it

pub fresh : (id : Text) (change : Row → List Row) (missing : List Row) (rows : List Row) → has_row id rows ≡ false
    → at_row id change missing rows ≡ rows ++ missing
fresh id change missing [] h = refl
fresh id change missing (r ∷ rs) h = go (bytes_eq r.id id) h (fresh id change missing rs)
  where
    go : (b : Bool) → (b || has_row id rs) ≡ false → (has_row id rs ≡ false → at_row id change missing rs ≡ rs
        ++ missing) → cond b (change r ++ rs) (r ∷ at_row id change missing rs) ≡ r ∷ (rs ++ missing)
    go true h next = absurd (true≢false h)
    go false h next = ap (λ xs. r ∷ xs) (next h)

fresh_use : (id : Text) (change : Row → List Row) (row : Row) (rows : List Row) → has_row id rows ≡ false
    → at_row id change (row ∷ []) (without id rows) ≡ rows ++ row ∷ []
fresh_use id change row rows h =
    ap (at_row id change (row ∷ [])) (fresh id (λ _. []) [] rows h ∙ append-nil rows) ∙ fresh id change (row ∷ []) rows
    h

pub used_option : (name v : Text) (rows : List Row) → has_row name rows ≡ false → used (option_rule name) (v ∷ []) rows
    ≡ rows ++ part_row (name, v) ∷ []
used_option name v rows h = fresh_use name (more_values CommandLine (v ∷ [])) (part_row (name, v)) rows h

pub used_mode : (v : Text) (rows : List Row) → has_row mode_name rows ≡ false → used mode_rule (v ∷ []) rows ≡ rows
    ++ part_row (mode_name, v) ∷ []
used_mode v rows h = fresh_use mode_name (more_values CommandLine (v ∷ [])) (part_row (mode_name, v)) rows h

pub used_flag : (rows : List Row) → has_row flag_name rows ≡ false → used flag_rule [] rows ≡ rows ++ part_row flag_part
    ∷ []
used_flag rows h = fresh_use flag_name (more_values CommandLine (codes "true" ∷ [])) (part_row flag_part) rows h

-- ---- what is pending

abbrev pub held : List Row → Option (Text × List Text) → Held
held rows pending = record { rows = rows; pending = pending; skip = 0 }

abbrev pub pend_parts : Option Part → List Part
pend_parts None = []
pend_parts (Some p) = p ∷ []

abbrev pub pend_held : Option Part → Option (Text × List Text)
pend_held None = None
pend_held (Some p) = Some (p.0, p.1 ∷ [])

abbrev pub IsValued : Text → Type 0
IsValued name = (name ≡ mode_name) ⊎ (is_option name ≡ true)

abbrev pub AllValued : Option Part → Type 0
AllValued None = ⊤
AllValued (Some p) = IsValued p.0

-- b says whether the positional word was met
abbrev pub MeetsMode : List Row → Option Part → Bool → Type 0
MeetsMode rows None b = b ≡ has_row mode_name rows
MeetsMode rows (Some p) b = has_row p.0 rows ≡ false → b ≡ has_row mode_name (rows ++ part_row p ∷ [])

abbrev pub fault_at : List Row → Option (Text × List Text) → Kinds
fault_at rows p = settle_fault shape.rules again (held rows p)

abbrev pub Refuses : List Row → Option Part → Type 0
Refuses rows pend = (has_fault (fault_at rows (pend_held pend)) ≡ true)
    × ((ps : List Part) → once rows (pend_parts pend ++ ps) ≡ None)

abbrev pub Settles : List Row → Option Part → Bool → Type 0
Settles rows pend b = (now : List Row) × (fault_at rows (pend_held pend) ≡ [])
    × (settled_rows shape.rules (pend_held pend) rows ≡ now)
    × (b ≡ has_row mode_name now) × ((ps : List Part) → once rows (pend_parts pend ++ ps) ≡ once now ps)

pending_fault : (name v : Text) (rows : List Row) → IsValued name → fault_at rows (Some (name, v ∷ []))
    ≡ repeat (has_row name rows)
pending_fault name v rows (inl is) =
    subst (λ n. fault_at rows (Some (n, v ∷ [])) ≡ repeat (has_row n rows)) (sym is)
    (ap (λ (o : Option Rule). option_map_or (λ a. use_fault again a (v ∷ []) rows) o []) mode_by_id ∙ use_mode v rows)
pending_fault name v rows (inr h) =
    ap (λ (o : Option Rule). option_map_or (λ a. use_fault again a (v ∷ []) rows) o []) (option_by_id name h)
    ∙ use_option name v rows

pending_rows : (name v : Text) (rows : List Row) → IsValued name → has_row name rows ≡ false → settled_rows shape.rules
    (Some (name, v ∷ [])) rows ≡ rows ++ part_row (name, v) ∷ []
pending_rows name v rows (inl is) =
    subst (λ n. has_row n rows ≡ false → settled_rows shape.rules (Some (n, v ∷ [])) rows ≡ rows ++ part_row (n, v) ∷
    []) (sym is)
    (λ h. ap (λ (o : Option Rule). used_by_id o (v ∷ []) rows) mode_by_id ∙ used_mode v rows h)
pending_rows name v rows (inr is) = λ h.
    ap (λ (o : Option Rule). used_by_id o (v ∷ []) rows) (option_by_id name is) ∙ used_option name v rows h

pub settles : (rows : List Row) (pend : Option Part) (b : Bool) → AllValued pend → MeetsMode rows pend b
    → Refuses rows pend ⊎ Settles rows pend b
unfolding once
settles rows None b valued place = inr (rows, refl, refl, place, λ ps. refl)
settles rows (Some p) b valued place = go (has_row p.0 rows) refl
  where
    go : (t : Bool) → has_row p.0 rows ≡ t → Refuses rows (Some p) ⊎ Settles rows (Some p) b
    go true is = inl (
      ap has_fault (pending_fault p.0 p.1 rows valued ∙ ap repeat is),
      λ ps.
          ap (λ t. cond t None (once (rows ++ part_row p ∷ []) ps)) is,
    )
    go false is = inr (
      rows ++ part_row p ∷ [],
      pending_fault p.0 p.1 rows valued ∙ ap repeat is,
      pending_rows p.0 p.1 rows valued is,
      place is,
      λ ps. ap (λ t. cond t None (once (rows ++ part_row p ∷ []) ps)) is,
    )
