-- What the parser takes the words for gives the settings that the words mean.
use Rattle.std.proofs.Common.{◌≡◌, ◌∙◌, ◌&&◌, ◌||◌, inl, inr, ℕ, Bool, cond, codes, true, false, not, refl, sym, ap, ap₂, subst, List, [], ◌∷◌, ◌++◌, map, append_assoc, Option, Some, None, true≢false}
use Rattle.std.specs.Prelude.{option_map, option_and_then, find, nat_le}
use Rattle.std.specs.Str.Parse.{digits_value}
use Rattle.std.specs.List.{list_all, list_any}
use Rattle.std.specs.Str.{bytes_eq}
use Rattle.std.proofs.lemmas.Slice.Eq.{bytes_eq-Decides}
use Rattle.std.proofs.lemmas.Bool.{eqb-true}
use Rattle.clap.specs.Lexer.{long_of, short_of}
use Rattle.pm_words.specs.Words.{Text, Part, NumberOption, options, is_option, flag_name, mode_name, flag_part, positional, with_part, named_parts, word_parts, parts_from, long_word, begins_with_hyphen, has, first, each_once, is_digits, is_in_range, is_mode, is_right, read_parts, settings, settled_from, settings_of, mode_named}
use Rattle.pm_words.specs.declared.settings.Settings.{Settings}
use Rattle.pm_words.proofs.Taken.{taken_from, word_taken, value_taken, unless_short, short_in, bind_none, bind_with}
use Rattle.pm_words.proofs.Uses.{IsValued}
use Rattle.pm_words.proofs.Cuts.{long_same, no_dash, no_long, no_short_word}

-- ---- one part more

cond_same : {X : Type 0} (t : Bool) (x : X) → cond t x x ≡ x
cond_same true x = refl
cond_same false x = refl

settled_part : (before : List Part) (p : Part) (n : Option (List Part))
    → option_and_then (settled_from before) (with_part p n) ≡ cond (has p.0 before) None
    (option_and_then (settled_from (before ++ p ∷ [])) n)
settled_part before p None = sym (cond_same (has p.0 before) None)
settled_part before p (Some ps) = by (has p.0 before) ∙ ap (λ (qs : List Part). cond (has p.0 before) None
    (cond (each_once (before ++ p ∷ []) ps) (read_parts qs) None)) (sym (append_assoc before (p ∷ []) ps))
  where
    by : (t : Bool) → cond (not t && each_once (before ++ p ∷ []) ps) (read_parts (before ++ p ∷ ps)) None
        ≡ cond t None (cond (each_once (before ++ p ∷ []) ps) (read_parts (before ++ p ∷ ps)) None)
    by true = refl
    by false = refl

-- ---- a value that begins with a hyphen is refused

hyphen_digits : (v : Text) → begins_with_hyphen v ≡ true → is_digits v ≡ false
hyphen_digits [] h = absurd (true≢false (sym h))
hyphen_digits (b ∷ rest) h = subst (λ k. is_digits (k ∷ rest) ≡ false) (sym (eqb-true b 45 h)) refl

hyphen_mode : (v : Text) → begins_with_hyphen v ≡ true → is_mode (Some v) ≡ false
unfolding mode_named
hyphen_mode [] h = absurd (true≢false (sym h))
hyphen_mode (b ∷ rest) h = subst (λ k. is_mode (Some (k ∷ rest)) ≡ false) (sym (eqb-true b 45 h)) refl

first_here : (before : List Part) (p : Part) (ps : List Part) → has p.0 before ≡ false → first p.0 (before ++ p ∷ ps)
    ≡ Some p.1
first_here [] p ps h = ap (λ t. option_map (λ (q : Part). q.1) (cond t (Some p) (find (λ (q : Part). bytes_eq q.0 p.0)
    ps))) ((bytes_eq-Decides p.0 p.0).1 refl)
first_here (q ∷ before) p ps h = by (bytes_eq q.0 p.0) h (first_here before p ps)
  where
    by : (t : Bool) → (t || has p.0 before) ≡ false → (has p.0 before ≡ false → first p.0 (before ++ p ∷ ps) ≡ Some p.1)
        → option_map (λ (q : Part). q.1) (cond t (Some q) (find (λ (q : Part). bytes_eq q.0 p.0) (before ++ p ∷ ps)))
        ≡ Some p.1
    by true h next = absurd (true≢false h)
    by false h next = next h

and_false : (t : Bool) → (t && false) ≡ false
and_false true = refl
and_false false = refl

fails_at : (name v : Text) (qs : List Part) (os : List NumberOption) → list_any (λ o. bytes_eq o.name name) os ≡ true
    → first name qs ≡ Some v → begins_with_hyphen v ≡ true
    → list_all (λ o. is_in_range o (first o.name qs)) os ≡ false
fails_at name v qs [] h f b = absurd (true≢false (sym h))
fails_at name v qs (o ∷ os) h f b = by (bytes_eq o.name name) refl h (λ k. fails_at name v qs os k f b)
  where
    by : (t : Bool) → bytes_eq o.name name ≡ t → (t || list_any (λ o. bytes_eq o.name name) os) ≡ true
        → (list_any (λ o. bytes_eq o.name name) os ≡ true → list_all (λ o. is_in_range o (first o.name qs)) os ≡ false)
        → (is_in_range o (first o.name qs) && list_all (λ o. is_in_range o (first o.name qs)) os) ≡ false
    by true is h next = ap (λ (x : Option Text). is_in_range o x && list_all (λ o. is_in_range o (first o.name qs)) os)
        (ap (λ n. first n qs) ((bytes_eq-Decides o.name name).0 is) ∙ f)
        ∙ ap (λ (t : Bool). (t && (nat_le o.least (digits_value 10 v) && nat_le (digits_value 10 v) o.most))
        && list_all (λ o. is_in_range o (first o.name qs)) os) (hyphen_digits v b)
    by false is h next = ap (λ (t : Bool). is_in_range o (first o.name qs) && t) (next h)
        ∙ and_false (is_in_range o (first o.name qs))

not_right : (p : Part) (qs : List Part) → IsValued p.0 → begins_with_hyphen p.1 ≡ true → first p.0 qs ≡ Some p.1
    → is_right qs ≡ false
not_right p qs (inl is) b f = ap (λ (x : Option Text). is_mode x && list_all (λ o. is_in_range o (first o.name qs))
    options) (ap (λ n. first n qs) (sym is) ∙ f)
    ∙ ap (λ (t : Bool). t && list_all (λ o. is_in_range o (first o.name qs)) options) (hyphen_mode p.1 b)
not_right p qs (inr is) b f = ap (λ (t : Bool). is_mode (first mode_name qs) && t) (fails_at p.0 p.1 qs options is f b)
    ∙ and_false (is_mode (first mode_name qs))

bad_refused : (before : List Part) (p : Part) (ps : List Part) → IsValued p.0 → begins_with_hyphen p.1 ≡ true
    → settled_from before (p ∷ ps) ≡ None
bad_refused before p ps valued b = by (has p.0 before) refl
  where
    by : (t : Bool) → has p.0 before ≡ t → cond (not (has p.0 before) && each_once (before ++ p ∷ []) ps)
        (read_parts (before ++ p ∷ ps)) None ≡ None
    by true is = ap (λ (t : Bool). cond (not t && each_once (before ++ p ∷ []) ps) (read_parts (before ++ p ∷ ps)) None)
        is
    by false is = ap (λ (t : Bool). cond (not (has p.0 before) && each_once (before ++ p ∷ []) ps)
        (cond t (Some (settings (before ++ p ∷ ps))) None) None)
        (not_right p (before ++ p ∷ ps) valued b (first_here before p ps is)) ∙ cond_same _ None

bad_none : (before : List Part) (p : Part) (n : Option (List Part)) → IsValued p.0 → begins_with_hyphen p.1 ≡ true
    → option_and_then (settled_from before) (with_part p n) ≡ None
bad_none before p n valued b = bind_with (settled_from before) p n ∙ bind_none _ n (λ ps. bad_refused before p ps valued
    b)

-- ---- over all words

abbrev Same : Option Text → List Text → Type 0
Same o words = (before : List Part) → option_and_then (settled_from before) (taken_from o words) ≡ option_and_then
    (settled_from before) (parts_from o words)

abbrev WaitSame : List Text → Type 0
WaitSame words = (name : Text) → is_option name ≡ true → Same (Some name) words

module _ (word : Text) (rest : List Text) (idle_next : Same None rest) (wait_next : WaitSame rest) (before : List Part)
  where
    abbrev meant : Option (List Part) → Option Settings
    meant = option_and_then (settled_from before)

    part_same : (p : Part) → meant (with_part p (taken_from None rest)) ≡ meant (with_part p (parts_from None rest))
    part_same p = settled_part before p (taken_from None rest) ∙ ap (cond (has p.0 before) None)
        (idle_next (before ++ p ∷ [])) ∙ sym (settled_part before p (parts_from None rest))

    named_same : (name : Text) (v : Option Text) (t : Bool) → is_option name ≡ t → (f : Bool) → bytes_eq flag_name name
        ≡ f
        → meant (named_parts name v (taken_from None rest) (taken_from (Some name) rest))
        ≡ meant (named_parts name v (parts_from None rest) (parts_from (Some name) rest))
    named_same name (Some x) true is f isf = rw is (part_same (name, x))
    named_same name (Some x) false is f isf = rw is refl
    named_same name None t is true isf = rw isf (part_same flag_part)
    named_same name None true is false isf = rw (isf, is) (wait_next name is before)
    named_same name None false is false isf = rw (isf, is) refl

    other_same : (h : Bool) → begins_with_hyphen word ≡ h
        → meant (unless_short (short_in (short_of word)) (with_part (positional word) (taken_from None rest)))
        ≡ meant (cond h None (with_part (positional word) (parts_from None rest)))
    other_same true h = by (short_in (short_of word))
      where
        by : (x : Option ℕ) → meant (unless_short x (with_part (positional word) (taken_from None rest))) ≡ None
        by (Some x) = refl
        by None = bad_none before (positional word) (taken_from None rest) (inl refl) h
    other_same false h = ap (λ (s : Option Text). meant (unless_short (short_in s) (with_part (positional word)
        (taken_from None rest)))) (no_short_word word h) ∙ part_same (positional word)

    word_same : (long : Option (Text × Option Text))
        → meant (word_taken long word (taken_from None rest) (λ name. taken_from (Some name) rest))
        ≡ meant (word_parts long word (parts_from None rest) (λ name. parts_from (Some name) rest))
    word_same (Some p) = named_same p.0 p.1 (is_option p.0) refl (bytes_eq flag_name p.0) refl
    word_same None = other_same (begins_with_hyphen word) refl

    idle_same : meant (taken_from None (word ∷ rest)) ≡ meant (parts_from None (word ∷ rest))
    unfolding taken_from parts_from
    idle_same = by (bytes_eq word (codes "--")) refl
      where
        by : (dash : Bool) → bytes_eq word (codes "--") ≡ dash
            → meant (cond dash (Some (map positional rest)) (word_taken (long_of word) word (taken_from None rest)
            (λ name. taken_from (Some name) rest)))
            ≡ meant (cond dash (Some (map positional rest)) (word_parts (long_word word) word (parts_from None rest)
            (λ name. parts_from (Some name) rest)))
        by true d = refl
        by false d = word_same (long_of word) ∙ ap (λ (l : Option (Text × Option Text)).
            meant (word_parts l word (parts_from None rest) (λ name. parts_from (Some name) rest)))
            (sym (long_same word d))

    wait_same : (name : Text) → is_option name ≡ true → meant (taken_from (Some name) (word ∷ rest))
        ≡ meant (parts_from (Some name) (word ∷ rest))
    unfolding taken_from parts_from
    wait_same name is = by (begins_with_hyphen word) refl
      where
        short : (x : Option ℕ) → begins_with_hyphen word ≡ true
            → meant (unless_short x (with_part (name, word) (taken_from None rest))) ≡ None
        short (Some x) h = refl
        short None h = bad_none before (name, word) (taken_from None rest) (inr is) h

        long : (l : Option (Text × Option Text)) → begins_with_hyphen word ≡ true
            → meant (value_taken l word (with_part (name, word) (taken_from None rest))) ≡ None
        long (Some p) h = refl
        long None h = short (short_in (short_of word)) h

        dash : (d : Bool) → begins_with_hyphen word ≡ true → meant
            (cond d None (value_taken (long_of word) word (with_part (name, word) (taken_from None rest)))) ≡ None
        dash true h = refl
        dash false h = long (long_of word) h

        by : (t : Bool) → begins_with_hyphen word ≡ t → meant (cond (bytes_eq word (codes "--")) None
            (value_taken (long_of word) word (with_part (name, word) (taken_from None rest))))
            ≡ meant (with_part (name, word) (parts_from None rest))
        by true h = dash (bytes_eq word (codes "--")) h ∙ sym (bad_none before (name, word) (parts_from None rest)
            (inr is) h)
        by false h = ap₂ (λ (d : Bool) (l : Option (Text × Option Text)).
            meant (cond d None (value_taken l word (with_part (name, word) (taken_from None rest))))) (no_dash word h)
            (no_long word h)
            ∙ ap (λ (s : Option Text). meant (unless_short (short_in s) (with_part (name, word) (taken_from None rest))))
            (no_short_word word h) ∙ part_same (name, word)

both_same : (words : List Text) → Same None words × WaitSame words
unfolding taken_from parts_from
both_same [] = (λ before. refl, λ name is before. refl)
both_same (word ∷ rest) = (
  idle_same word rest (both_same rest).0 (both_same rest).1,
  λ name is before.
      wait_same word rest (both_same rest).0 (both_same rest).1 before name is,
)

pub settings_by_taken : (words : List Text) → option_and_then (settled_from []) (taken_from None words)
    ≡ settings_of words
unfolding settings_of
settings_by_taken words = (both_same words).0 []
