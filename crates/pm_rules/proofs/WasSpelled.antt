-- What is read was spelled: expressions and places.
use Rattle.std.proofs.Common.{◌≡◌, refl, ap, sym, ◌∙◌, subst, ℕ, zero, suc, Bool, true, List, [], ◌∷◌, ◌++◌, Option, Some, None, append_assoc, codes}
use Rattle.std.specs.Prelude.{◌&&◌}
use Rattle.std.specs.Str.{bytes_eq}
use Rattle.std.proofs.lemmas.Option.{same_Some}
use Rattle.pm_base.specs.Fits.{is_known, place_known}
use Rattle.pm_base.specs.Names.{is_reserved}
use Rattle.pm_base.specs.declared.program.Expr.{Expr}
use Rattle.pm_base.specs.declared.program.Expr.TheVariants.{Num, Now, Me, Part, Bin}
use Rattle.pm_base.specs.declared.program.Field.{Field}
use Rattle.pm_base.specs.declared.program.Op.{Op}
use Rattle.pm_base.specs.declared.program.Place.{Place}
use Rattle.pm_base.specs.declared.program.Place.TheVariants.{Member}
use Rattle.pm_rules.specs.Reading.{Found, Scope, after, bracketed, class_names, class_rows, closed, dotted, expr, expression, field_at, has_members, indexed, is_close, is_dot, is_left, is_open, is_right, joined, member_at, name_at, named, number_in, operator, part, place, register, variable}
use Rattle.pm_rules.specs.Sayable.{known_in}
use Rattle.pm_rules.specs.Spelling.{field_word, op_token, spell, spell_place}
use Rattle.pm_tokens.specs.Tokens.{Tok, name, number, symbol}
use Rattle.pm_tokens.specs.declared.token.Symbol.TheVariants as symbols
use Rattle.pm_rules.proofs.Found.{IsNumberIn, bind_ok, branch, close_found, dot_found, field_found, left_found, name_found, none, number_in_found, only_open, operator_found, right_found, same_text}
use Rattle.pm_rules.proofs.KnownParts.{both}
use Rattle.pm_rules.proofs.ReadAgain.{regroup}
use Rattle.pm_rules.proofs.SpellingEquations.{spell-Num, spell-Now, spell-Me, spell-Reg, spell-Part, spell-Bin, known-Num, known-Now, known-Me, known-Reg, known-Part, known-Bin}

-- the tokens are the expression's own and those behind it, and all that it uses is there
abbrev pub WasSpelled : Scope → List Tok → Expr → List Tok → Type 0
WasSpelled sc ts e rest = (ts ≡ spell sc e ++ rest) × (is_known (known_in sc) e ≡ true)

-- so it is where all names were there
abbrev pub IsFound : Scope → List Tok → Found Expr → Type 0
IsFound sc ts r = r.0.1 ≡ true → WasSpelled sc ts r.0.0 r.1

-- what is found is this
at_found : (sc : Scope) (ts : List Tok) (x r : Found Expr) → Some x ≡ Some r → IsFound sc ts x → IsFound sc ts r
at_found sc ts x r e h = subst (IsFound sc ts) (same_Some x r e) h

part_spelled : (sc : Scope) (w : List ℕ) (k : ℕ) (f : Field) (ts behind rest : List Tok) → IsNumberIn sc.senses w k →
    ts ≡ symbol symbols.Dot ∷ behind →
    behind ≡ name (field_word f) ∷ rest → WasSpelled sc (name w ∷ ts) (Part k f) rest
part_spelled sc w k f ts behind rest is dot word =
    (rw (spell-Part sc k f, ← is.name, dot, word) refl, known-Part (known_in sc) k f ∙ is.there)

part_found : (sc : Scope) (w : List ℕ) (ts after_dot : List Tok) (r : Found Expr) →
    ts ≡ symbol symbols.Dot ∷ after_dot → part sc w after_dot ≡ Some r →
    IsFound sc (name w ∷ ts) r
unfolding part
part_found sc w ts after_dot r dot e =
    let f = bind_ok (field_at after_dot) _ r e in
    at_found sc (name w ∷ ts) _ r f.2 (λ there. part_spelled sc w (number_in sc.senses w).0 f.0.0 ts after_dot f.0.1
    (number_in_found sc.senses w there) dot (field_found after_dot f.0 f.1))

reg_found : (sc : Scope) (w : List ℕ) (ts : List Tok) (r : Found Expr) → Some (register sc w, ts) ≡ Some r →
    IsFound sc (name w ∷ ts) r
unfolding register
reg_found sc w ts r e = at_found sc (name w ∷ ts) _ r e (λ there.
    let is = number_in_found sc.regs w there in
    let k = (number_in sc.regs w).0 in
    (rw (spell-Reg sc k, ← is.name) refl, known-Reg (known_in sc) k ∙ is.there))

dotted_found : (sc : Scope) (w : List ℕ) (ts : List Tok) (o : Option (List Tok)) (r : Found Expr) →
    after is_dot ts ≡ o → dotted sc w ts o ≡ Some r →
    IsFound sc (name w ∷ ts) r
dotted_found sc w ts None r dot e = reg_found sc w ts r e
dotted_found sc w ts (Some rest) r dot e = part_found sc w ts rest r (dot_found ts rest dot) e

named_found : (sc : Scope) (w : List ℕ) (ts : List Tok) (r : Found Expr) → named sc w ts ≡ Some r →
    IsFound sc (name w ∷ ts) r
unfolding named
named_found sc w ts r = branch (IsFound sc (name w ∷ ts) r) (bytes_eq w (codes "now")) _ _ r
    (λ is e. at_found sc (name w ∷ ts) ((Now, true), ts) r e
    (λ there. (rw (spell-Now sc, same_text w (codes "now") is) refl, known-Now (known_in sc))))
    (λ not_now. branch (IsFound sc (name w ∷ ts) r) (bytes_eq w (codes "me")) _ _ r
    (λ is e. at_found sc (name w ∷ ts) ((Me, true), ts) r e
    (λ there. (rw (spell-Me sc, same_text w (codes "me") is) refl, known-Me (known_in sc))))
    (λ not_me. branch (IsFound sc (name w ∷ ts) r) (is_reserved w) _ _ r
    (λ reserved e. none _ r e)
    (λ free e. dotted_found sc w ts (after is_dot ts) r refl e)))

closed_found : (o : Op) (a b : Expr × Bool) (ts : List Tok) (r : Found Expr) → closed o a b ts ≡ Some r →
    (ts ≡ symbol symbols.Close ∷ r.1) × (((Bin o a.0 b.0, a.1 && b.1)) ≡ r.0)
unfolding closed joined
closed_found o a b ts r e =
    let rest = bind_ok (after is_close ts) _ r e in
    let is : ((Bin o a.0 b.0, a.1 && b.1), rest.0) ≡ r = same_Some _ _ rest.2 in (
      close_found ts rest.0 rest.1 ∙ ap (λ (r : Found Expr). symbol symbols.Close ∷ r.1) is,
      ap
          (λ (r : Found Expr). r.0) is,
    )

bin_spelled : (sc : Scope) (o : Op) (a b : Expr) (ts left right rest : List Tok) → WasSpelled sc ts a left →
    left ≡ op_token o ∷ right →
    WasSpelled sc right b (symbol symbols.Close ∷ rest) → WasSpelled sc (symbol symbols.Open ∷ ts) (Bin o a b) rest
bin_spelled sc o a b ts left right rest sa middle sb = (
  rw (spell-Bin sc o a b, regroup (spell sc a) (spell sc b) rest (op_token o), sa.0, middle, sb.0) refl,
  rw (known-Bin (known_in sc) o a b, sa.1, sb.1) refl,
)

bin_found : (sc : Scope) (o : Op) (a b : Expr × Bool) (ts left right last : List Tok) (r : Found Expr) →
    IsFound sc ts (a, left) → left ≡ op_token o ∷ right →
    IsFound sc right (b, last) → closed o a b last ≡ Some r → IsFound sc (symbol symbols.Open ∷ ts) r
bin_found sc o a b ts left right last r fa middle fb e there =
    let end = closed_found o a b last r e in
    let parts = both a.1 b.1 (ap (λ (p : Expr × Bool). p.1) end.1 ∙ there) in
    let sb = fb parts.1 in
    subst (λ (p : Expr × Bool). WasSpelled sc (symbol symbols.Open ∷ ts) p.0 r.1) end.1
    (bin_spelled sc o a.0 b.0 ts left right r.1 (fa parts.0) middle
    (sb.0 ∙ ap (λ (t : List Tok). spell sc b.0 ++ t) end.0, sb.1))

-- what is read was spelled
pub expression_found : (sc : Scope) (n : ℕ) (ts : List Tok) (r : Found Expr) → expression sc n ts ≡ Some r →
    IsFound sc ts r
unfolding expression
expression_found sc zero ts r e = none _ r e
expression_found sc (suc n) [] r e = none _ r e
expression_found sc (suc n) (number z ∷ ts) r e =
    at_found sc (number z ∷ ts) ((Num z, true), ts) r e (λ there. (rw (spell-Num sc z) refl, known-Num (known_in sc) z))
expression_found sc (suc n) (name w ∷ ts) r e = named_found sc w ts r e
expression_found sc (suc n) (symbol s ∷ ts) r e = branch (IsFound sc (symbol s ∷ ts) r) (is_open s) _ _ r
    (λ opens found.
    let a = bind_ok (expression sc n ts) _ r found in
    let o = bind_ok (operator a.0.1) _ r a.2 in
    let b = bind_ok (expression sc n o.0.1) _ r o.2 in
    rw (only_open s opens) (bin_found sc o.0.0 a.0.0 b.0.0 ts a.0.1 o.0.1 b.0.1 r
    (expression_found sc n ts a.0 a.1) (operator_found a.0.1 o.0 o.1) (expression_found sc n o.0.1 b.0 b.1) b.2))
    (λ shut never. none _ r never) e

pub expression_spelled : (sc : Scope) (n : ℕ) (ts : List Tok) (e : Expr) (rest : List Tok) →
    expression sc n ts ≡ Some ((e, true), rest) →
    (ts ≡ spell sc e ++ rest) × (is_known (known_in sc) e ≡ true)
expression_spelled sc n ts e rest h = expression_found sc n ts ((e, true), rest) h refl

-- the same of a place
abbrev pub PlaceWasSpelled : Scope → List Tok → Place → List Tok → Type 0
PlaceWasSpelled sc ts p rest =
    (ts ≡ spell_place sc p ++ rest) × (place_known (class_rows sc.table) (known_in sc) p ≡ true)

abbrev pub IsPlaceFound : Scope → List Tok → Found Place → Type 0
IsPlaceFound sc ts r = r.0.1 ≡ true → PlaceWasSpelled sc ts r.0.0 r.1

at_place : (sc : Scope) (ts : List Tok) (x r : Found Place) → Some x ≡ Some r → IsPlaceFound sc ts x →
    IsPlaceFound sc ts r
at_place sc ts x r e h = subst (IsPlaceFound sc ts) (same_Some x r e) h

variable_found : (sc : Scope) (w : List ℕ) (ts : List Tok) (r : Found Place) → Some (variable sc w, ts) ≡ Some r →
    IsPlaceFound sc (name w ∷ ts) r
unfolding variable
variable_found sc w ts r e = at_place sc (name w ∷ ts) _ r e (λ there.
    let is = number_in_found sc.table.vars w there in
    (rw (← is.name) refl, is.there))

member_spelled : (sc : Scope) (w : List ℕ) (class : ℕ) (at : Expr) (ts inner behind rest : List Tok) →
    IsNumberIn (class_names sc.table) w class →
    has_members sc.table class ≡ true → ts ≡ symbol symbols.LeftBracket ∷ inner → WasSpelled sc inner at behind →
    behind ≡ symbol symbols.RightBracket ∷ rest → PlaceWasSpelled sc (name w ∷ ts) (Member class at) rest
member_spelled sc w class at ts inner behind rest is members left index right = (
  rw (append_assoc (spell sc at) (symbol symbols.RightBracket ∷ []) rest, ← is.name, left, index.0, right) refl,
  rw (members, index.1) refl,
)

indexed_found : (sc : Scope) (w : List ℕ) (ts inner : List Tok) (r : Found Place) →
    ts ≡ symbol symbols.LeftBracket ∷ inner → indexed sc w inner ≡ Some r →
    IsPlaceFound sc (name w ∷ ts) r
unfolding indexed
indexed_found sc w ts inner r left e =
    let at = bind_ok (expr sc inner) _ r e in
    let rest = bind_ok (after is_right at.0.1) _ r at.2 in
    at_place sc (name w ∷ ts) (member_at sc.table (number_in (class_names sc.table) w) at.0.0, rest.0) r rest.2
    (λ there.
    let class = number_in (class_names sc.table) w in
    let outer = both (class.1 && has_members sc.table class.0) at.0.0.1 there in
    let row = both class.1 (has_members sc.table class.0) outer.0 in
    member_spelled sc w class.0 at.0.0.0 ts inner at.0.1 rest.0
    (number_in_found (class_names sc.table) w row.0) row.1 left
    (expression_found sc 64 inner at.0 at.1 outer.1) (right_found at.0.1 rest.0 rest.1))

bracketed_found : (sc : Scope) (w : List ℕ) (ts : List Tok) (o : Option (List Tok)) (r : Found Place) →
    after is_left ts ≡ o → bracketed sc w ts o ≡ Some r →
    IsPlaceFound sc (name w ∷ ts) r
bracketed_found sc w ts None r left e = variable_found sc w ts r e
bracketed_found sc w ts (Some inner) r left e = indexed_found sc w ts inner r (left_found ts inner left) e

pub place_found : (sc : Scope) (ts : List Tok) (r : Found Place) → place sc ts ≡ Some r → IsPlaceFound sc ts r
unfolding place
place_found sc ts r e =
    let w = bind_ok (name_at ts) _ r e in
    subst (λ (ts : List Tok). IsPlaceFound sc ts r) (sym (name_found ts w.0 w.1))
    (bracketed_found sc w.0.0 w.0.1 (after is_left w.0.1) r refl w.2)

pub place_spelled : (sc : Scope) (ts : List Tok) (p : Place) (rest : List Tok) →
    place sc ts ≡ Some ((p, true), rest) →
    (ts ≡ spell_place sc p ++ rest) × (place_known (class_rows sc.table) (known_in sc) p ≡ true)
place_spelled sc ts p rest h = place_found sc ts ((p, true), rest) h refl
