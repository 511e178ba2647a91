-- What fine lines keep of a draft, and what they add to its names.
use Rattle.std.proofs.Common.{◌≡◌, ◌∙◌, ap, refl, sym, subst, arith, ℕ, ℤ, ◌+◌, ◌≤◌, Bool, true, false, List, [], ◌∷◌, ◌++◌, Option, Some, None, length, append_assoc}
use Rattle.std.specs.List.{AllByRecursion}
use Rattle.std.specs.Prelude.{map, not, nat_le, ◌||◌}
use Rattle.std.specs.Str.{bytes_eq}
use Rattle.std.proofs.lemmas.Bool.Decides.{nat_tests}
use Rattle.std.proofs.lemmas.List.{append-nil, length-append}
use Rattle.pm_base.specs.Fits.{has_name, names_fit, reg_names, sense_names}
use Rattle.pm_base.specs.declared.program.RegRow.{RegRow}
use Rattle.pm_base.specs.declared.program.Sense.{Sense}
use Rattle.pm_base.specs.declared.program.SenseRow.{SenseRow}
use Rattle.pm_base.specs.declared.program.Stmt.{Stmt}
use Rattle.pm_rules.specs.Grammar.{IsShort, IsTable, Row}
use Rattle.pm_rules.specs.Nesting.{AreFine, AreRead, IsFine, IsOneLine, all_said, are_taken, is_taken}
use Rattle.pm_rules.specs.Reading.{Scope, Table}
use Rattle.pm_rules.specs.Rules.{ended, is_begun, is_empty, last_frame, scope_of, turned, with_said}
use Rattle.pm_rules.specs.Sayable.{IsScope, does_sayable, extended, is_sayable}
use Rattle.pm_rules.specs.Spelling.{says, spell_said}
use Rattle.pm_rules.specs.Statements.{is_free, statement}
use Rattle.pm_tokens.specs.Tokens.{Tok}
use Rattle.pm_rules.specs.declared.draft.Draft.{Draft}
use Rattle.pm_rules.specs.declared.draft.Frame.{Frame}
use Rattle.pm_rules.specs.declared.said.Said.{Said}
use Rattle.pm_rules.specs.declared.said.Said.TheVariants as said
use Rattle.pm_rules.proofs.BackwardLaws.{both, neither, nothing_in, turned_false}
use Rattle.pm_rules.proofs.IdleLaws.{taken_parts}
use Rattle.pm_rules.proofs.KnownParts.{if_unsayable}
use Rattle.pm_rules.proofs.LinesReadAgain.{line_read}
use Rattle.pm_rules.proofs.LinesWereSpelled.{line_spelled}
use Rattle.pm_rules.proofs.NestingLaws.{says-Add, says-Let, says-Set, says-Wait}
use Rattle.pm_rules.proofs.ScopeLaws.{said_kept}
use Rattle.pm_rules.proofs.ScopesMade.{differ, first_fits, names_made, scope_made}
use Rattle.pm_rules.proofs.Variants.{every_statement}

pub reg_names-append : (a b : List RegRow) → reg_names (a ++ b) ≡ reg_names a ++ reg_names b
reg_names-append [] b = refl
reg_names-append (r ∷ a) b = ap (λ (ns : List (List ℕ)). r.name ∷ ns) (reg_names-append a b)

pub sense_names-append : (a b : List SenseRow) → sense_names (a ++ b) ≡ sense_names a ++ sense_names b
sense_names-append [] b = refl
sense_names-append (r ∷ a) b = ap (λ (ns : List (List ℕ)). r.name ∷ ns) (sense_names-append a b)

pub reg_names-length : (a : List RegRow) → length (reg_names a) ≡ length a
reg_names-length [] = refl
reg_names-length (r ∷ a) = omega (arith, reg_names-length a)

pub sense_names-length : (a : List SenseRow) → length (sense_names a) ≡ length a
sense_names-length [] = refl
sense_names-length (r ∷ a) = omega (arith, sense_names-length a)

pub has_name-append : (w : List ℕ) (a b : List (List ℕ)) → has_name w (a ++ b) ≡ (has_name w a || has_name w b)
has_name-append w [] b = refl
has_name-append w (n ∷ a) b = ap (λ (x : Bool). bytes_eq n w || x) (has_name-append w a b) ∙ or_assoc (bytes_eq n w) (has_name w a) (has_name w b)
  where
    or_assoc : (x y z : Bool) → (x || (y || z)) ≡ ((x || y) || z)
    or_assoc true y z = refl
    or_assoc false y z = refl

pub or_false : (x y : Bool) → x ≡ false → y ≡ false → (x || y) ≡ false
or_false false false a b = refl
or_false false true a b = b
or_false true y a b = a

-- one name more, which is free and stands nowhere
pub names_more : (w : List ℕ) (ns : List (List ℕ)) → names_fit ns ≡ true → is_free w ≡ true → has_name w ns ≡ false → names_fit (ns ++ w ∷ []) ≡ true
names_more w [] fit free none = names_made w [] (record { free = free; absent = refl; rest = refl })
names_more w (n ∷ ns) fit free none =
    let first = first_fits n ns fit in
    let apart = neither (bytes_eq n w) (has_name w ns) none in
    names_made n (ns ++ w ∷ []) (record {
      free = first.free;
      absent = has_name-append n ns (w ∷ []) ∙ or_false (has_name n ns) (bytes_eq w n || false) first.absent (or_false (bytes_eq w n) false (differ n w (bytes_eq w n) refl apart.0) refl);
      rest = names_more w ns first.rest free apart.1;
    })

-- what a draft keeps
pub record IsSound (d : Draft) : Type 0 where
  pub names : names_fit (reg_names d.regs ++ sense_names d.senses) ≡ true
  pub regs : length d.regs ≤ 16
  pub senses : length d.senses ≤ 16

not_full : (n : ℕ) → nat_le 16 n ≡ false → n + 1 ≤ 16
not_full n e = grind (arith, nat_tests)

reg_sound : (t : Table) (version : ℕ) (d : Draft) (w : List ℕ) (z : ℤ) → IsFine t version d (said.Reg w z) → IsSound d → IsSound (with_said (said.Reg w z) d)
unfolding with_said
reg_sound t version d w z fine sound =
    let parts = taken_parts d (said.Reg w z) fine.taken in
    let none = nothing_in d.senses (turned_false _ (neither (not (is_empty d.senses)) (is_begun d) parts.0).0) in
    let old : names_fit (reg_names d.regs) ≡ true = sym (ap (λ (ns : List (List ℕ)). names_fit ns) (ap (λ (ss : List SenseRow). reg_names d.regs ++ sense_names ss) none ∙ append-nil (reg_names d.regs))) ∙ sound.names in
    let more = names_more w (reg_names d.regs) old fine.sayable (neither (has_name w (reg_names d.regs)) (has_name w (sense_names d.senses)) parts.3).0 in
    record {
      names = ap (λ (ns : List (List ℕ)). names_fit ns) (ap (λ (ss : List SenseRow). reg_names (d.regs ++ record { name = w; start = z } ∷ []) ++ sense_names ss) none ∙ append-nil (reg_names (d.regs ++ record { name = w; start = z } ∷ [])) ∙ reg_names-append d.regs (record { name = w; start = z } ∷ [])) ∙ more;
      regs = omega (arith, not_full (length d.regs) parts.2, length-append d.regs (record { name = w; start = z } ∷ []));
      senses = sound.senses;
    }

sense_sound : (t : Table) (version : ℕ) (d : Draft) (w : List ℕ) (s : Sense) → IsFine t version d (said.Sense w s) → IsSound d → IsSound (with_said (said.Sense w s) d)
unfolding with_said
sense_sound t version d w s fine sound =
    let parts = taken_parts d (said.Sense w s) fine.taken in
    let apart = neither (has_name w (reg_names d.regs)) (has_name w (sense_names d.senses)) parts.3 in
    let row : SenseRow = record { name = w; sense = s } in
    let more = names_more w (reg_names d.regs ++ sense_names d.senses) sound.names (both (is_free w) _ fine.sayable).0
    (has_name-append w (reg_names d.regs) (sense_names d.senses) ∙ or_false _ _ apart.0 apart.1) in
    record {
      names = ap (λ (ns : List (List ℕ)). names_fit ns) (ap (λ (ns : List (List ℕ)). reg_names d.regs ++ ns) (sense_names-append d.senses (row ∷ [])) ∙ sym (append_assoc (reg_names d.regs) (sense_names d.senses) (w ∷ []))) ∙ more;
      regs = sound.regs;
      senses = omega (arith, not_full (length d.senses) parts.2, length-append d.senses (row ∷ []));
    }

-- `else` and `end` leave registers and senses
abbrev pub SameNames : Draft → Draft → Type 0
SameNames d e = (e.regs ≡ d.regs) × (e.senses ≡ d.senses)

else_names : (o : Option (List Frame × Frame)) (d : Draft) → SameNames d (turned o d)
else_names None d = (refl, refl)
else_names (Some (fs, f)) d = (refl, refl)

end_names : (o : Option (List Frame × Frame)) (d : Draft) → SameNames d (ended o d)
end_names None d = (refl, refl)
end_names (Some (fs, f)) d = (refl, refl)

same_sound : (d e : Draft) → SameNames d e → IsSound d → IsSound e
same_sound d e same sound = record {
  names = rw (same.0, same.1) sound.names;
  regs = rw same.0 sound.regs;
  senses = rw same.1 sound.senses;
}

-- a fine line keeps the draft sound
pub sound_step : (t : Table) (version : ℕ) (d : Draft) (s : Said) → IsFine t version d s → IsSound d → IsSound (with_said s d)
unfolding with_said
sound_step t version d (said.Reg w z) fine sound = reg_sound t version d w z fine sound
sound_step t version d (said.Sense w s) fine sound = sense_sound t version d w s fine sound
sound_step t version d (said.Does s) fine sound = same_sound d (with_said (said.Does s) d) (refl, refl) sound
sound_step t version d (said.If test) fine sound = same_sound d (with_said (said.If test) d) (refl, refl) sound
sound_step t version d said.Else fine sound = same_sound d (with_said said.Else d) (else_names (last_frame d.frames) d) sound
sound_step t version d said.End fine sound = same_sound d (with_said said.End d) (end_names (last_frame d.frames) d) sound

pub sound_all : (t : Table) (version : ℕ) (ss : List Said) (d : Draft) → AreFine t version d ss → IsSound d → IsSound (all_said ss d)
sound_all t version [] d fine sound = sound
sound_all t version (s ∷ ss) d fine sound = sound_all t version ss (with_said s d) fine.1 (sound_step t version d s fine.0 sound)

-- a later draft has more registers and senses at the end
pub record Grown (d e : Draft) : Type 0 where
  pub more_regs : List RegRow
  pub more_senses : List SenseRow
  pub regs : e.regs ≡ d.regs ++ more_regs
  pub senses : e.senses ≡ d.senses ++ more_senses

same_grown : (d e : Draft) → SameNames d e → Grown d e
same_grown d e same = record { more_regs = []; more_senses = []; regs = same.0 ∙ sym (append-nil d.regs); senses = same.1 ∙ sym (append-nil d.senses) }

grown_step : (d : Draft) (s : Said) → Grown d (with_said s d)
unfolding with_said
grown_step d (said.Reg w z) = record { more_regs = record { name = w; start = z } ∷ []; more_senses = []; regs = refl; senses = sym (append-nil d.senses) }
grown_step d (said.Sense w s) = record { more_regs = []; more_senses = record { name = w; sense = s } ∷ []; regs = sym (append-nil d.regs); senses = refl }
grown_step d (said.Does s) = same_grown d (with_said (said.Does s) d) (refl, refl)
grown_step d (said.If test) = same_grown d (with_said (said.If test) d) (refl, refl)
grown_step d said.Else = same_grown d (with_said said.Else d) (else_names (last_frame d.frames) d)
grown_step d said.End = same_grown d (with_said said.End d) (end_names (last_frame d.frames) d)

grown_on : (d e c : Draft) → Grown d e → Grown e c → Grown d c
grown_on d e c a b = record {
  more_regs = a.more_regs ++ b.more_regs;
  more_senses = a.more_senses ++ b.more_senses;
  regs = b.regs ∙ ap (λ (rs : List RegRow). rs ++ b.more_regs) a.regs ∙ append_assoc d.regs a.more_regs b.more_regs;
  senses = b.senses ∙ ap (λ (ns : List SenseRow). ns ++ b.more_senses) a.senses ∙ append_assoc d.senses a.more_senses b.more_senses;
}

pub grown_all : (ss : List Said) (d : Draft) → Grown d (all_said ss d)
grown_all [] d = same_grown d d (refl, refl)
grown_all (s ∷ ss) d = grown_on d (with_said s d) (all_said ss (with_said s d)) (grown_step d s) (grown_all ss (with_said s d))

abbrev with_names : Table → List (List ℕ) → List (List ℕ) → Scope
with_names t regs senses = record { table = t; regs = regs; senses = senses }

-- the scope of a later draft has more names at the end
grown_scope : (t : Table) (d e : Draft) → (g : Grown d e) → scope_of t e ≡ extended (scope_of t d) (reg_names g.more_regs) (sense_names g.more_senses)
grown_scope t d e g =
    ap (λ (rs : List (List ℕ)). with_names t rs (sense_names e.senses)) (ap (λ (rs : List RegRow). reg_names rs) g.regs ∙ reg_names-append d.regs g.more_regs)
    ∙ ap (λ (ns : List (List ℕ)). with_names t (reg_names d.regs ++ reg_names g.more_regs) ns)
    (ap (λ (ns : List SenseRow). sense_names ns) g.senses ∙ sense_names-append d.senses g.more_senses)

-- a line is spelled the same in the scope of a later draft
pub spelled_later : (t : Table) (version : ℕ) (d e : Draft) (s : Said) → Grown d e → is_sayable (scope_of t d) version s ≡ true →
    spell_said (scope_of t e) s ≡ spell_said (scope_of t d) s
spelled_later t version d e s g known =
    ap (λ (sc : Scope). spell_said sc s) (grown_scope t d e g)
    ∙ said_kept (scope_of t d) (reg_names g.more_regs) (sense_names g.more_senses) version s known

-- fine lines of one line each
does_one : (sc : Scope) (version : ℕ) (c : Stmt) → does_sayable sc version c ≡ true → says c ≡ said.Does c ∷ []
does_one sc version = every_statement (λ c. does_sayable sc version c ≡ true → says c ≡ said.Does c ∷ []) (record {
  let_ = λ reg e known. says-Let reg e;
  if_ = λ test first second known. absurd (if_unsayable sc version test _ _ known);
  set = λ place x y known. says-Set place x y;
  add = λ place x y known. says-Add place x y;
  wait = λ e known. says-Wait e;
})

one_line : (t : Table) (version : ℕ) (d : Draft) (s : Said) → IsFine t version d s → IsOneLine s
one_line t version d (said.Reg w z) fine = tt
one_line t version d (said.Sense w s) fine = tt
one_line t version d (said.Does c) fine = append-nil (says c) ∙ does_one (scope_of t d) version c fine.sayable
one_line t version d (said.If test) fine = tt
one_line t version d said.Else fine = tt
one_line t version d said.End fine = tt

pub fine_parts : (t : Table) (version : ℕ) (ss : List Said) (d : Draft) → AreFine t version d ss → (are_taken d ss ≡ true) × AllByRecursion IsOneLine ss
fine_parts t version [] d fine = (refl, tt)
fine_parts t version (s ∷ ss) d fine =
    let more = fine_parts t version ss (with_said s d) fine.1 in
    (rw (fine.0.taken, more.0) refl, (one_line t version d s fine.0, more.1))

-- rows that are read, taken and short are fine, and spell what they say
pub read_fine : (t : Table) (version : ℕ) (rows : List Row) (ss : List Said) (d : Draft) → AreRead t version d rows ss → are_taken d ss ≡ true →
    AllByRecursion IsShort rows → AreFine t version d ss
read_fine t version [] [] d read taken short = tt
read_fine t version (r ∷ rs) (s ∷ ss) d read taken short =
    let parts = both (is_taken d s) (are_taken (with_said s d) ss) taken in
    let spelled = line_spelled (scope_of t d) version r.tokens s read.0 in (
      record { taken = parts.0; sayable = spelled.1; short = subst (λ (ts : List Tok). length ts ≤ 64) spelled.0 short.0.tokens },
      read_fine t version rs ss (with_said s d) read.1 parts.1 short.1,
    )
read_fine t version [] (s ∷ ss) d read taken short = absurd read
read_fine t version (r ∷ rs) [] d read taken short = absurd read

pub read_spelled : (t : Table) (version : ℕ) (rows : List Row) (ss : List Said) (d : Draft) → AreRead t version d rows ss → AreFine t version d ss →
    map (λ (r : Row). r.tokens) rows ≡ map (spell_said (scope_of t (all_said ss d))) ss
read_spelled t version [] [] d read fine = refl
read_spelled t version (r ∷ rs) (s ∷ ss) d read fine =
    let spelled = line_spelled (scope_of t d) version r.tokens s read.0 in
    let later = spelled_later t version d (all_said (s ∷ ss) d) s (grown_all (s ∷ ss) d) fine.0.sayable in
    rw (spelled.0 ∙ sym later, read_spelled t version rs ss (with_said s d) read.1 fine.1) refl
read_spelled t version [] (s ∷ ss) d read fine = absurd read
read_spelled t version (r ∷ rs) [] d read fine = absurd read

-- the scope of a sound draft
sound_scope : (t : Table) (d : Draft) → IsTable t → IsSound d → IsScope (scope_of t d)
sound_scope t d is sound =
    scope_made t (reg_names d.regs) (sense_names d.senses) is sound.names
    (omega (arith, sound.regs, reg_names-length d.regs)) (omega (arith, sound.senses, sense_names-length d.senses))

same_head : (a b : List Tok) (xs ys : List (List Tok)) → a ∷ xs ≡ b ∷ ys → a ≡ b
same_head a b xs ys e = cc

same_tail : (a b : List Tok) (xs ys : List (List Tok)) → a ∷ xs ≡ b ∷ ys → xs ≡ ys
same_tail a b xs ys e = cc

-- rows that spell fine lines are read as these
pub fine_read : (t : Table) (version : ℕ) (rows : List Row) (ss : List Said) (d : Draft) → IsTable t → IsSound d → AreFine t version d ss →
    map (λ (r : Row). r.tokens) rows ≡ map (spell_said (scope_of t (all_said ss d))) ss → AreRead t version d rows ss
fine_read t version [] [] d is sound fine same = tt
fine_read t version (r ∷ rs) (s ∷ ss) d is sound fine same =
    let later = spelled_later t version d (all_said (s ∷ ss) d) s (grown_all (s ∷ ss) d) fine.0.sayable in (
      ap (λ (ts : List Tok). statement (scope_of t d) version ts) (same_head _ _ _ _ same ∙ later)
          ∙ line_read (scope_of t d) version (sound_scope t d is sound) s fine.0.sayable fine.0.short,
      fine_read t version rs ss (with_said s d) is (sound_step t version d s fine.0 sound) fine.1 (same_tail _ _ _ _ same),
    )
fine_read t version [] (s ∷ ss) d is sound fine same = cc
fine_read t version (r ∷ rs) [] d is sound fine same = cc
