-- From the parser's faults and rows to the settings.
use Rattle.std.proofs.Common.{◌≡◌, ◌∙◌, ◌&&◌, ◌||◌, ℕ, Bool, cond, codes, true, false, not, refl, sym, ap, ap₂, List, [], ◌∷◌, ◌++◌, map, append-nil, append_assoc, Option, Some, None, is_some, true≢false}
use Rattle.std.proofs.lemmas.List.{map-append}
use Rattle.std.specs.Prelude.{option_map, option_and_then, find, slice_get, unwrap_or}
use Rattle.std.specs.List.{fold, list_all}
use Rattle.std.specs.Option.{option_map_or}
use Rattle.std.specs.Str.{bytes_eq}
use Rattle.std.specs.Str.Parse.{digits_value}
use Rattle.clap.specs.Walk.{Held, Row, Rule, nothing_held, walk, walk_from, settled, finished, with_default, has_row, first_of, more_values, default_rows, at_row}
use Rattle.clap.specs.Kinds.{Kinds, or_else, check_kinds}
use Rattle.clap.specs.Takes.{is_given}
use Rattle.clap.specs.Facts.{explicit_source}
use Rattle.clap.specs.Simple.{built, entered}
use Rattle.clap.specs.Faults.{level_fault, entered_fault, walk_fault, settle_fault, defaults_fault, default_fault, given_default_fault, check_fault}
use Rattle.clap.specs.declared.error.kind.ErrorKind.TheVariants as kind
use Rattle.clap.specs.declared.parser.matches.ValueSource.TheVariants.{DefaultValue}
use Rattle.clap.specs.declared.builder.value_parser.Reading.TheVariants as reading
use Rattle.clap.proofs.WalkLemmas.{find-map, list_any-map}
use Rattle.pm_words.specs.Line.{shape, line, rows, faults}
use Rattle.pm_words.specs.Words.{Text, Part, flag_name, mode_name, has, first, each_once, mode_named, is_true_text, is_value, is_in_range, is_mode, number_or, read_parts, settings, settled_from, settings_of, options, workers, budget, epoch, window, seed, from}
use Rattle.pm_words.specs.Rows.{between, number_in, optional_in, row_settings, value_in, ◌>>=◌}
use Rattle.pm_words.specs.declared.settings.Settings.{Settings}
use Rattle.pm_words.specs.declared.settings.Mode.{Mode}
use Rattle.pm_words.specs.declared.settings.Mode.TheVariants.{Seq}
use Rattle.pm_words.proofs.Agrees.{settings_by_taken}
use Rattle.pm_words.proofs.Rules.{option_rule, mode_rule, flag_rule}
use Rattle.pm_words.proofs.Taken.{taken_from, part_row, once}
use Rattle.pm_words.proofs.Uses.{again, fresh}
use Rattle.pm_words.proofs.Turns.{result, end_of, at}
use Rattle.pm_words.proofs.Walks.{walk_is}

same : {X : Type 0} (t : Bool) (x : X) → cond t x x ≡ x
same true x = refl
same false x = refl

-- ---- after the walk: defaults, and what is required

abbrev pub with_flag : List Row → List Row
with_flag rows = with_default rows flag_rule

abbrev pub is_kept : Rule → Type 0
is_kept a = ((rows : List Row) → with_default rows a ≡ rows) × ((rows : List Row) → default_fault rows a ≡ [])

or_true : (t : Bool) → (t || true) ≡ true
or_true true = refl
or_true false = refl

option_kept : (name : Text) → is_kept (option_rule name)
option_kept name = (
  λ rows. same (has_row name rows) rows,
  λ rows.
      ap (λ (t : Bool). cond t [] (given_default_fault (option_rule name) [])) (or_true (has_row name rows)),
)

mode_kept : is_kept mode_rule
mode_kept = (
  λ rows. same (has_row mode_name rows) rows,
  λ rows.
      ap (λ (t : Bool). cond t [] (given_default_fault mode_rule [])) (or_true (has_row mode_name rows)),
)

one_kept : (a : Rule) (rest : List Rule) → is_kept a → ((rows : List Row) → fold with_default rows rest
    ≡ with_flag rows) → (rows : List Row) → fold with_default rows (a ∷ rest) ≡ with_flag rows
one_kept a rest k next rows = ap (λ r. fold with_default r rest) (k.0 rows) ∙ next rows

one_passes : (a : Rule) (rest : List Rule) → is_kept a → ((rows : List Row) → defaults_fault rows rest ≡ [])
    → (rows : List Row) → defaults_fault rows (a ∷ rest) ≡ []
unfolding defaults_fault
one_passes a rest k next rows = ap₂ (λ (f : Kinds) (r : List Row). or_else f (defaults_fault r rest)) (k.1 rows)
    (k.0 rows) ∙ next rows

abbrev from_on : List Rule
from_on = option_rule (codes "from") ∷ flag_rule ∷ []

abbrev seed_on : List Rule
seed_on = option_rule (codes "seed") ∷ from_on

abbrev window_on : List Rule
window_on = option_rule (codes "window") ∷ seed_on

abbrev epoch_on : List Rule
epoch_on = option_rule (codes "epoch") ∷ window_on

abbrev budget_on : List Rule
budget_on = option_rule (codes "budget") ∷ epoch_on

abbrev workers_on : List Rule
workers_on = option_rule (codes "workers") ∷ budget_on

rows_kept : (rows : List Row) → fold with_default rows shape.rules ≡ with_flag rows
unfolding shape
rows_kept = one_kept mode_rule workers_on mode_kept (one_kept (option_rule (codes "workers")) budget_on
    (option_kept (codes "workers"))
    (one_kept (option_rule (codes "budget")) epoch_on (option_kept (codes "budget"))
    (one_kept (option_rule (codes "epoch")) window_on (option_kept (codes "epoch"))
    (one_kept (option_rule (codes "window")) seed_on (option_kept (codes "window"))
    (one_kept (option_rule (codes "seed")) from_on (option_kept (codes "seed"))
    (one_kept (option_rule (codes "from")) (flag_rule ∷ []) (option_kept (codes "from")) (λ rows. refl)))))))

flag_passes : (rows : List Row) → defaults_fault rows (flag_rule ∷ []) ≡ []
unfolding defaults_fault
flag_passes rows = by (has_row flag_name rows)
  where
    by : (t : Bool) → or_else (cond (t || false) [] []) [] ≡ []
    by true = refl
    by false = refl

defaults_pass : (rows : List Row) → defaults_fault rows shape.rules ≡ []
unfolding shape
defaults_pass = one_passes mode_rule workers_on mode_kept (one_passes (option_rule (codes "workers")) budget_on
    (option_kept (codes "workers"))
    (one_passes (option_rule (codes "budget")) epoch_on (option_kept (codes "budget"))
    (one_passes (option_rule (codes "epoch")) window_on (option_kept (codes "epoch"))
    (one_passes (option_rule (codes "window")) seed_on (option_kept (codes "window"))
    (one_passes (option_rule (codes "seed")) from_on (option_kept (codes "seed"))
    (one_passes (option_rule (codes "from")) (flag_rule ∷ []) (option_kept (codes "from")) flag_passes))))))

abbrev pub missing : Bool → Kinds
missing true = []
missing false = kind.MissingRequiredArgument ∷ []

mode_wanted : (rows : List Row) → check_fault shape rows false ≡ missing (is_given mode_name rows)
unfolding shape
mode_wanted rows = by (is_given mode_name rows)
  where
    by : (t : Bool) → check_kinds false false (not t || false) ≡ missing t
    by true = refl
    by false = refl

-- ---- the parser's definition, by the walk

none_entered : (stop : Option (Text × List Text)) → is_some (entered (built line) stop) ≡ false
none_entered None = refl
none_entered (Some p) = refl

none_below : (stop : Option (Text × List Text)) → entered_fault (built line) stop ≡ []
none_below None = refl
none_below (Some p) = refl

abbrev start : List Text → Held
start words = end_of (at [] None Rattle.clap.specs.Walk.idle false false) words

abbrev walk_kinds : List Text → Kinds
walk_kinds words = walk_fault shape [] (at [] None Rattle.clap.specs.Walk.idle false false) words

abbrev settle_kinds : List Text → Kinds
settle_kinds words = settle_fault shape.rules again (start words)

abbrev final : List Text → List Row
final words = (settled shape.rules (start words)).rows

faults_are : (words : List Text) → faults words ≡ or_else (walk_kinds words) (or_else (settle_kinds words)
    (missing (is_given mode_name (with_flag (final words)))))
unfolding faults shape
faults_are words = ap₂ (λ (t : Bool) (below : Kinds). level_fault (built line).top [] nothing_held words t below)
    (none_entered _) (none_below _)
    ∙ ap₂ (λ (f g : Kinds). or_else (walk_kinds words) (or_else (settle_kinds words) (or_else f g)))
    (defaults_pass (final words))
    (mode_wanted (finished shape.rules (start words)) ∙ ap (λ r. missing (is_given mode_name r))
    (rows_kept (final words)))

rows_are : (words : List Text) → rows words ≡ with_flag (final words)
unfolding rows shape
rows_are words = rows_kept (final words)

abbrev pub checked : List Row → Option (List Row)
checked rows = cond (is_given mode_name (with_flag rows)) (Some (with_flag rows)) None

checked_after : (f g : Kinds) (r : List Row) → result (or_else f
    (or_else g (missing (is_given mode_name (with_flag r))))) (with_flag r) ≡ option_and_then checked
    (result (or_else f g) r)
checked_after [] [] r = by (is_given mode_name (with_flag r))
  where
    by : (t : Bool) → result (missing t) (with_flag r) ≡ cond t (Some (with_flag r)) None
    by true = refl
    by false = refl
checked_after [] (k ∷ ks) r = refl
checked_after (k ∷ ks) g r = refl

abbrev pub outcome : List Text → Option (List Row)
outcome words = result (faults words) (rows words)

outcome_is : (words : List Text) → outcome words ≡ option_and_then checked (option_and_then (once [])
    (taken_from None words))
outcome_is words = ap₂ result (faults_are words) (rows_are words) ∙ checked_after (walk_kinds words)
    (settle_kinds words) (final words) ∙ ap (option_and_then checked) (walk_is words)

-- ---- the rows of parts

pub once_is : (before ps : List Part) → once (map part_row before) ps ≡ cond (each_once before ps)
    (Some (map part_row (before ++ ps))) None
unfolding once
once_is before [] = ap (λ qs. Some (map part_row qs)) (sym (append-nil before))
once_is before (p ∷ ps) = ap₂ (λ (t : Bool) (rs : List Row). cond t None (once rs ps))
    (sym (list_any-map (λ (r : Row). bytes_eq r.id p.0) part_row before)) (sym (map-append part_row before (p ∷ [])))
    ∙ ap (cond (has p.0 before) None) (once_is (before ++ p ∷ []) ps ∙ ap (λ (qs : List Part).
    cond (each_once (before ++ p ∷ []) ps) (Some (map part_row qs)) None) (append_assoc before (p ∷ []) ps))
    ∙ by (has p.0 before)
  where
    by : (t : Bool) → cond t None (cond (each_once (before ++ p ∷ []) ps) (Some (map part_row (before ++ p ∷ ps))) None)
        ≡ cond (not t && each_once (before ++ p ∷ []) ps) (Some (map part_row (before ++ p ∷ ps))) None
    by true = refl
    by false = refl

abbrev pub default_row : Row
default_row = record {
  id = flag_name;
  values = codes "false" ∷ [];
  count = None;
  source = Some DefaultValue;
  reading =
      reading.AsWritten;
}

-- the first row of a name, after the default of the flag
abbrev pub row_first : Text → List Row → Option Row
row_first id rows = find (λ r. bytes_eq r.id id) rows

other_first : (id : Text) (rows : List Row) → bytes_eq flag_name id ≡ false → row_first id (rows ++ default_row ∷ [])
    ≡ row_first id rows
other_first id [] is = ap (λ t. cond t (Some default_row) None) is
other_first id (r ∷ rows) is = ap (cond (bytes_eq r.id id) (Some r)) (other_first id rows is)

flag_kept : (id : Text) (rows : List Row) → bytes_eq flag_name id ≡ false → row_first id (with_flag rows)
    ≡ row_first id rows
flag_kept id rows is = by (has_row flag_name rows) refl
  where
    by : (t : Bool) → has_row flag_name rows ≡ t → row_first id (cond t rows (default_rows flag_name reading.AsWritten
        (codes "false" ∷ []) rows)) ≡ row_first id rows
    by true h = refl
    by false h = ap (row_first id) (fresh flag_name (more_values DefaultValue (codes "false" ∷ [])) (default_row ∷ [])
        rows h) ∙ other_first id rows is

part_first : (id : Text) (ps : List Part) → row_first id (map part_row ps) ≡ option_map part_row
    (find (λ (p : Part). bytes_eq p.0 id) ps)
part_first id ps = sym (find-map (λ (r : Row). bytes_eq r.id id) part_row ps)

pub first_is : (id : Text) (ps : List Part) → bytes_eq flag_name id ≡ false → first_of id (with_flag (map part_row ps))
    ≡ first id ps
first_is id ps is = ap (option_and_then (λ (r : Row). slice_get r.values 0)) (flag_kept id (map part_row ps) is
    ∙ part_first id ps) ∙ by (find (λ (p : Part). bytes_eq p.0 id) ps)
  where
    by : (o : Option Part) → option_and_then (λ (r : Row). slice_get r.values 0) (option_map part_row o)
        ≡ option_map (λ (p : Part). p.1) o
    by None = refl
    by (Some p) = refl

pub given_is : (ps : List Part) → is_given mode_name (with_flag (map part_row ps)) ≡ is_some (first mode_name ps)
given_is ps = ap (λ (o : Option Row). option_map_or (λ (r : Row). explicit_source r.source) o false)
    (flag_kept mode_name (map part_row ps) refl ∙ part_first mode_name ps)
    ∙ by (find (λ (p : Part). bytes_eq p.0 mode_name) ps)
  where
    by : (o : Option Part) → option_map_or (λ (r : Row). explicit_source r.source) (option_map part_row o) false
        ≡ is_some (option_map (λ (p : Part). p.1) o)
    by None = refl
    by (Some p) = refl

pub outcome_by_parts : (words : List Text) → outcome words ≡ option_and_then
    (λ ps. cond (each_once [] ps && is_some (first mode_name ps)) (Some (with_flag (map part_row ps))) None)
    (taken_from None words)
outcome_by_parts words = outcome_is words ∙ by (taken_from None words)
  where
    inner : (ps : List Part) (t : Bool) → option_and_then checked (cond t (Some (map part_row ps)) None)
        ≡ cond (t && is_some (first mode_name ps)) (Some (with_flag (map part_row ps))) None
    inner ps true = ap (λ t. cond t (Some (with_flag (map part_row ps))) None) (given_is ps)
    inner ps false = refl

    by : (o : Option (List Part)) → option_and_then checked (option_and_then (once []) o)
        ≡ option_and_then (λ ps. cond (each_once [] ps && is_some (first mode_name ps))
        (Some (with_flag (map part_row ps))) None) o
    by None = refl
    by (Some ps) = ap (option_and_then checked) (once_is [] ps) ∙ inner ps (each_once [] ps)

-- ---- the settings

text_is : (o : Option Part) → option_and_then (λ (r : Row). slice_get r.values 0) (option_map part_row o)
    ≡ option_map (λ (p : Part). p.1) o
text_is None = refl
text_is (Some p) = refl

none_found : (rows : List Row) → has_row flag_name rows ≡ false → row_first flag_name rows ≡ None
none_found [] h = refl
none_found (r ∷ rows) h = one (bytes_eq r.id flag_name) h (none_found rows)
  where
    one : (t : Bool) → (t || has_row flag_name rows) ≡ false → (has_row flag_name rows ≡ false → row_first flag_name
        rows ≡ None) → cond t (Some r) (row_first flag_name rows) ≡ None
    one true h go = absurd (true≢false h)
    one false h go = go h

default_found : (rows : List Row) → has_row flag_name rows ≡ false → row_first flag_name (rows ++ default_row ∷ [])
    ≡ Some default_row
default_found [] h = refl
default_found (r ∷ rows) h = one (bytes_eq r.id flag_name) h (default_found rows)
  where
    one : (t : Bool) → (t || has_row flag_name rows) ≡ false → (has_row flag_name rows ≡ false → row_first flag_name
        (rows ++ default_row ∷ []) ≡ Some default_row) → cond t (Some r)
        (row_first flag_name (rows ++ default_row ∷ [])) ≡ Some default_row
    one true h go = absurd (true≢false h)
    one false h go = go h

abbrev row_text : Option Row → Option Text
row_text = option_and_then (λ r. slice_get r.values 0)

-- the flag is on where it stands: its default is `false`
flag_text : (ps : List Part) → is_true_text (first_of flag_name (with_flag (map part_row ps)))
    ≡ is_true_text (first flag_name ps)
flag_text ps = by (has_row flag_name (map part_row ps)) refl
  where
    found : row_text (row_first flag_name (map part_row ps)) ≡ first flag_name ps
    found = ap row_text (part_first flag_name ps) ∙ text_is (find (λ (p : Part). bytes_eq p.0 flag_name) ps)

    by : (t : Bool) → has_row flag_name (map part_row ps) ≡ t
        → is_true_text (row_text (row_first flag_name (cond t (map part_row ps)
        (default_rows flag_name reading.AsWritten (codes "false" ∷ []) (map part_row ps)))))
        ≡ is_true_text (first flag_name ps)
    by true h = ap is_true_text found
    by false h = ap (λ (rs : List Row). is_true_text (row_text (row_first flag_name rs)))
        (fresh flag_name (more_values DefaultValue (codes "false" ∷ [])) (default_row ∷ []) (map part_row ps) h)
        ∙ ap (λ (o : Option Row). is_true_text (row_text o)) (default_found (map part_row ps) h)
        ∙ ap is_true_text (ap row_text (sym (none_found (map part_row ps) h)) ∙ found)

bind_step : {A B : Type 0} (o : Option A) (f : A → Option B) (c d : Bool) (x : A) (y : B) → o ≡ cond c (Some x) None
    → f x ≡ cond d (Some y) None → option_and_then f o ≡ cond (c && d) (Some y) None
bind_step o f true d x y is next = ap (option_and_then f) is ∙ next
bind_step o f false d x y is next = ap (option_and_then f) is

value_cond : (least most : ℕ) (text : Text) → value_in least most text ≡ cond (is_value (between least most) text)
    (Some (digits_value 10 text)) None
unfolding value_in
value_cond least most text = refl

number_cond : (least most default : ℕ) (text : Option Text) → number_in least most default text
    ≡ cond (is_in_range (between least most) text) (Some (number_or default text)) None
number_cond least most default None = refl
number_cond least most default (Some text) = value_cond least most text

optional_cond : (least most : ℕ) (text : Option Text) → optional_in least most text
    ≡ cond (is_in_range (between least most) text) (Some (option_map (digits_value 10) text)) None
optional_cond least most None = refl
optional_cond least most (Some text) = ap (option_map Some) (value_cond least most text)
    ∙ by (is_value (between least most) text)
  where
    by : (t : Bool) → option_map Some (cond t (Some (digits_value 10 text)) None)
        ≡ cond t (Some (Some (digits_value 10 text))) None
    by true = refl
    by false = refl

some_cond : (m : Option Mode) → m ≡ cond (is_some m) (Some (unwrap_or m Seq)) None
some_cond None = refl
some_cond (Some m) = refl

rows_give : (ps : List Part) → row_settings (with_flag (map part_row ps)) ≡ read_parts ps
unfolding row_settings
rows_give ps = texts ∙
    bind_step _ _ _ _ _ (settings ps) (some_cond (option_and_then mode_named (first mode_name ps)))
    (bind_step _ _ _ _ _ (settings ps) (number_cond 0 64 4 (first workers.name ps))
    (bind_step _ _ _ _ _ (settings ps) (number_cond 0 20000000 1000000 (first budget.name ps))
    (bind_step _ _ _ _ _ (settings ps) (number_cond 1 1000000 4096 (first epoch.name ps))
    (bind_step _ _ _ _ _ (settings ps) (optional_cond 1 1000000000000 (first window.name ps))
    (bind_step _ _ _ _ _ (settings ps) (number_cond 0 18446744073709551615 1 (first seed.name ps))
    (bind_step _ _ _ true _ (settings ps) (number_cond 0 1000000000000 0 (first from.name ps)) refl))))))
  where
    by_texts : Option Text → Option Text → Option Text → Option Text → Option Text → Option Text → Option Text → Bool
        → Option Settings
    by_texts m a b c d e f on = option_and_then mode_named m >>= λ mode.
        number_in 0 64 4 a >>= λ workers.
        number_in 0 20000000 1000000 b >>= λ budget.
        number_in 1 1000000 4096 c >>= λ epoch.
        optional_in 1 1000000000000 d >>= λ window.
        number_in 0 18446744073709551615 1 e >>= λ seed.
        number_in 0 1000000000000 0 f >>= λ from.
        Some (record {
          mode = mode;
          run = record {
            workers = workers;
            budget = budget;
            epoch = epoch;
            window =
                window;
            turns = true;
          };
          seed = seed;
          journal = on;
          from = from;
        })

    texts : row_settings (with_flag (map part_row ps)) ≡ by_texts (first mode_name ps) (first workers.name ps)
        (first budget.name ps) (first epoch.name ps) (first window.name ps) (first seed.name ps) (first from.name ps)
        (is_true_text (first flag_name ps))
    texts = λ i. by_texts (first_is mode_name ps refl i) (first_is workers.name ps refl i) (first_is budget.name ps refl
        i) (first_is epoch.name ps refl i)
        (first_is window.name ps refl i) (first_is seed.name ps refl i) (first_is from.name ps refl i) (flag_text ps i)

-- ---- the central law

-- what the parser refuses is refused, and its rows give the settings of the words
pub law : (words : List Text) → option_and_then row_settings (outcome words) ≡ settings_of words
law words = ap (option_and_then row_settings) (outcome_by_parts words) ∙ by (taken_from None words) ∙ settings_by_taken
    words
  where
    no_mode_read : (ps : List Part) (o : Option Text) → first mode_name ps ≡ o → is_some o ≡ false → None
        ≡ read_parts ps
    no_mode_read ps None is h = ap (λ (o : Option Text). cond (is_mode o
        && list_all (λ o. is_in_range o (first o.name ps)) options) (Some (settings ps)) None) (sym is)
    no_mode_read ps (Some x) is h = absurd (true≢false h)

    one : (ps : List Part) (t : Bool) (u : Bool) → is_some (first mode_name ps) ≡ u → option_and_then row_settings
        (cond (t && u) (Some (with_flag (map part_row ps))) None) ≡ cond t (read_parts ps) None
    one ps true true h = rows_give ps
    one ps true false h = no_mode_read ps (first mode_name ps) refl h
    one ps false u h = refl

    by : (o : Option (List Part)) → option_and_then row_settings
        (option_and_then (λ ps. cond (each_once [] ps && is_some (first mode_name ps))
        (Some (with_flag (map part_row ps))) None) o) ≡ option_and_then (settled_from []) o
    by None = refl
    by (Some ps) = one ps (each_once [] ps) (is_some (first mode_name ps)) refl

-- the parser takes the words
pub accepted : (words : List Text) (r : List Row) → faults words ≡ [] → r ≡ rows words → settings_of words
    ≡ row_settings r
accepted words r none is = sym (law words) ∙ ap (λ (f : Kinds). option_and_then row_settings (result f (rows words)))
    none ∙ ap row_settings (sym is)

-- the parser refuses them
pub refused : (words : List Text) → (faults words ≡ [] → ⊥) → settings_of words ≡ None
refused words some = sym (law words) ∙ by (faults words) some
  where
    by : (f : Kinds) → (f ≡ [] → ⊥) → option_and_then row_settings (result f (rows words)) ≡ None
    by [] h = absurd (h refl)
    by (k ∷ ks) h = refl
