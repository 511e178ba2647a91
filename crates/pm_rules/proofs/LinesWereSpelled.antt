-- What is read was spelled: whole lines.
use Rattle.std.proofs.Common.{◌≡◌, refl, ap, sym, ◌∙◌, subst, ℕ, Bool, true, List, [], ◌∷◌, ◌++◌, length, nat_lt, Some, append_assoc, append-nil, codes}
use Rattle.std.specs.Prelude.{◌==◌, ◌&&◌}
use Rattle.std.specs.Str.{bytes_eq}
use Rattle.std.proofs.lemmas.Option.{same_Some}
use Rattle.pm_base.specs.Fits.{change_known, is_known, sense_known}
use Rattle.pm_base.specs.declared.program.Expr.{Expr}
use Rattle.pm_base.specs.declared.program.Place.{Place}
use Rattle.pm_base.specs.declared.program.Sense.{Sense}
use Rattle.pm_base.specs.declared.program.Sense.TheVariants as sense
use Rattle.pm_base.specs.declared.program.Stmt.TheVariants.{Let}
use Rattle.pm_rules.specs.Reading.{Found, Scope, after, class_names, class_rows, expr, is_assign, is_comma, name_at, number_in, place}
use Rattle.pm_rules.specs.Sayable.{is_sayable, known_in}
use Rattle.pm_rules.specs.Spelling.{spell, spell_change, spell_place, spell_said, spell_sense}
use Rattle.pm_rules.specs.Statements.{Change, Read, add_line, after_word, assigned, change, declared, if_line, is_free, let_line, number_at, only, read_line, reg_line, scan_line, set_line, statement, two, wait_line, whole, window}
use Rattle.pm_tokens.specs.Tokens.{Tok, name, number, symbol}
use Rattle.pm_rules.specs.declared.said.Said.{Said}
use Rattle.pm_rules.specs.declared.said.Said.TheVariants as said
use Rattle.pm_tokens.specs.declared.token.Symbol.TheVariants as symbols
use Rattle.pm_rules.proofs.Found.{IsNumberIn, assign_found, assigned_found, bind_ok, branch, comma_found, declared_found, name_found, none, number_found, number_in_found, same_text, whole_found}
use Rattle.pm_rules.proofs.KnownParts.{both}
use Rattle.pm_rules.proofs.ReadAgain.{same_length}
use Rattle.pm_rules.proofs.SpellingEquations.{does-Let, does-Set, does-Add, does-Wait, sayable-Let, sayable-Set, sayable-Add, sayable-Wait}
use Rattle.pm_rules.proofs.WasSpelled.{PlaceWasSpelled, WasSpelled, expression_found, place_found}

-- the tokens are the line's own, and it may be said
abbrev pub LineWasSpelled : Scope → ℕ → List Tok → Said → Type 0
LineWasSpelled sc version ts s = (ts ≡ spell_said sc s) × (is_sayable sc version s ≡ true)

-- so it is where all names were there
abbrev pub IsLineFound : Scope → ℕ → List Tok → Read → Type 0
IsLineFound sc version ts r = r.1 ≡ true → LineWasSpelled sc version ts r.0

at_line : (sc : Scope) (version : ℕ) (ts : List Tok) (x r : Read) → x ≡ r → IsLineFound sc version ts x →
    IsLineFound sc version ts r
at_line sc version ts x r e h = subst (IsLineFound sc version ts) e h

ends : (sc : Scope) (e : Expr) (ts rest : List Tok) → WasSpelled sc ts e rest → rest ≡ [] → ts ≡ spell sc e
ends sc e ts rest spelled end = spelled.0 ∙ ap (λ (t : List Tok). spell sc e ++ t) end ∙ append-nil (spell sc e)

reg_found : (sc : Scope) (version : ℕ) (ts : List Tok) (r : Read) → reg_line ts ≡ Some r →
    IsLineFound sc version (name (codes "reg") ∷ ts) r
unfolding reg_line
reg_found sc version ts r e =
    let w = bind_ok (declared ts) _ r e in
    let z = bind_ok (number_at w.0.1) _ r w.2 in
    let end = whole_found (said.Reg w.0.0 z.0.0, true) z.0.1 r z.2 in
    let head = declared_found ts w.0 w.1 in
    at_line sc version (name (codes "reg") ∷ ts) _ r end.1 (λ there. (
      ap (λ (t : List Tok). name (codes "reg") ∷ t) (head.0
          ∙ ap (λ (t : List Tok). name w.0.0 ∷ t) (number_found w.0.1 z.0 z.1
          ∙ ap (λ (t : List Tok). number z.0.0 ∷ t) end.0)),
      head.1,
    ))

read_spelled : (sc : Scope) (version : ℕ) (w : List ℕ) (p : Place) (ts inner rest : List Tok) →
    ts ≡ name w ∷ symbol symbols.Assign ∷ inner → is_free w ≡ true →
    PlaceWasSpelled sc inner p rest → rest ≡ [] →
    LineWasSpelled sc version (name (codes "read") ∷ ts) (said.Sense w (sense.Read p))
read_spelled sc version w p ts inner rest head free at end =
    (rw (head, at.0, end, append-nil (spell_place sc p)) refl, rw (free, at.1) refl)

read_found : (sc : Scope) (version : ℕ) (ts : List Tok) (r : Read) → read_line sc ts ≡ Some r →
    IsLineFound sc version (name (codes "read") ∷ ts) r
unfolding read_line
read_found sc version ts r e =
    let w = bind_ok (assigned ts) _ r e in
    let p = bind_ok (place sc w.0.1) _ r w.2 in
    let end = whole_found (said.Sense w.0.0 (sense.Read p.0.0.0), p.0.0.1) p.0.1 r p.2 in
    let head = assigned_found ts w.0 w.1 in
    at_line sc version (name (codes "read") ∷ ts) _ r end.1 (λ there.
    read_spelled sc version w.0.0 p.0.0.0 ts w.0.1 p.0.1 head.0 head.1 (place_found sc w.0.1 p.0 p.1 there) end.0)

-- two expressions, one after the other
record TwoSpelled (sc : Scope) (ts : List Tok) (a b : Expr) (rest : List Tok) : Type 0 where
  tokens : ts ≡ spell sc a ++ (spell sc b ++ rest)
  first : is_known (known_in sc) a ≡ true
  second : is_known (known_in sc) b ≡ true

abbrev IsTwoFound : Scope → List Tok → Found (Expr × Expr) → Type 0
IsTwoFound sc ts r = r.0.1 ≡ true → TwoSpelled sc ts r.0.0.0 r.0.0.1 r.1

two_spelled : (sc : Scope) (ts middle rest : List Tok) (a b : Expr) → WasSpelled sc ts a middle →
    WasSpelled sc middle b rest → TwoSpelled sc ts a b rest
two_spelled sc ts middle rest a b sa sb = record {
  tokens = sa.0 ∙ ap (λ (t : List Tok). spell sc a ++ t) sb.0;
  first = sa.1;
  second = sb.1;
}

two_found : (sc : Scope) (ts : List Tok) (r : Found (Expr × Expr)) → two sc ts ≡ Some r → IsTwoFound sc ts r
unfolding two
two_found sc ts r e =
    let a = bind_ok (expr sc ts) _ r e in
    let b = bind_ok (expr sc a.0.1) _ r a.2 in
    subst (IsTwoFound sc ts) (same_Some _ _ b.2) (λ there.
    let parts = both a.0.0.1 b.0.0.1 there in
    two_spelled sc ts a.0.1 b.0.1 a.0.0.0 b.0.0.0 (expression_found sc 64 ts a.0 a.1 parts.0)
    (expression_found sc 64 a.0.1 b.0 b.1 parts.1))

-- a window's tokens, after those that begin its line
record WindowSpelled (sc : Scope) (ts : List Tok) (s : Sense) (rest : List Tok) : Type 0 where
  tokens : (w : List ℕ) → name (codes "scan") ∷ name w ∷ symbol symbols.Assign ∷ ts ≡ spell_sense sc w s ++ rest
  known : sense_known (class_rows sc.table) (known_in sc) s ≡ true

window_spelled : (sc : Scope) (w : List ℕ) (class : ℕ) (x0 x1 y0 y1 : Expr) (ts behind middle rest : List Tok) →
    ts ≡ name w ∷ behind →
    IsNumberIn (class_names sc.table) w class → TwoSpelled sc behind x0 x1 middle → TwoSpelled sc middle y0 y1 rest →
    WindowSpelled sc ts (sense.Scan class x0 x1 y0 y1) rest
window_spelled sc w class x0 x1 y0 y1 ts behind middle rest head is across along =
    let there : nat_lt class (length (class_rows sc.table)) ≡ true =
    subst (λ (n : ℕ). nat_lt class n ≡ true) (same_length sc.table) is.there in
    record {
      tokens = λ v. rw (
        append_assoc (spell sc x0) (spell sc x1 ++ (spell sc y0 ++ spell sc y1)) rest,
        append_assoc (spell sc x1) (spell sc y0 ++ spell sc y1) rest,
        append_assoc (spell sc y0) (spell sc y1) rest,
        ← is.name,
        head,
        across.tokens,
        along.tokens,
      ) refl;
      known = rw (there, across.first, across.second, along.first, along.second) refl;
    }

abbrev IsWindowFound : Scope → List Tok → Found Sense → Type 0
IsWindowFound sc ts r = r.0.1 ≡ true → WindowSpelled sc ts r.0.0 r.1

window_found : (sc : Scope) (ts : List Tok) (r : Found Sense) → window sc ts ≡ Some r → IsWindowFound sc ts r
unfolding window
window_found sc ts r e =
    let w = bind_ok (name_at ts) _ r e in
    let across = bind_ok (two sc w.0.1) _ r w.2 in
    let along = bind_ok (two sc across.0.1) _ r across.2 in
    subst (IsWindowFound sc ts) (same_Some _ _ along.2) (λ there.
    let class = number_in (class_names sc.table) w.0.0 in
    let front = both class.1 (across.0.0.1 && along.0.0.1) there in
    let parts = both across.0.0.1 along.0.0.1 front.1 in
    window_spelled sc w.0.0 class.0 across.0.0.0.0 across.0.0.0.1 along.0.0.0.0 along.0.0.0.1 ts w.0.1 across.0.1
    along.0.1
    (name_found ts w.0 w.1) (number_in_found (class_names sc.table) w.0.0 front.0)
    (two_found sc w.0.1 across.0 across.1 parts.0)
    (two_found sc across.0.1 along.0 along.1 parts.1))

scan_spelled : (sc : Scope) (version : ℕ) (w : List ℕ) (s : Sense) (ts inner rest : List Tok) →
    ts ≡ name w ∷ symbol symbols.Assign ∷ inner → is_free w ≡ true →
    WindowSpelled sc inner s rest → rest ≡ [] → LineWasSpelled sc version (name (codes "scan") ∷ ts) (said.Sense w s)
scan_spelled sc version w s ts inner rest head free spelled end = (
  ap (λ (t : List Tok). name (codes "scan") ∷ t) head ∙ spelled.tokens w ∙ ap
      (λ (t : List Tok). spell_sense sc w s ++ t) end ∙ append-nil (spell_sense sc w s),
  rw (free, spelled.known) refl,
)

scan_found : (sc : Scope) (version : ℕ) (ts : List Tok) (r : Read) → scan_line sc ts ≡ Some r →
    IsLineFound sc version (name (codes "scan") ∷ ts) r
unfolding scan_line
scan_found sc version ts r e =
    let w = bind_ok (assigned ts) _ r e in
    let s = bind_ok (window sc w.0.1) _ r w.2 in
    let end = whole_found (said.Sense w.0.0 s.0.0.0, s.0.0.1) s.0.1 r s.2 in
    let head = assigned_found ts w.0 w.1 in
    at_line sc version (name (codes "scan") ∷ ts) _ r end.1 (λ there.
    scan_spelled sc version w.0.0 s.0.0.0 ts w.0.1 s.0.1 head.0 head.1 (window_found sc w.0.1 s.0 s.1 there) end.0)

let_spelled : (sc : Scope) (version : ℕ) (w : List ℕ) (reg : ℕ) (e : Expr) (ts behind inner rest : List Tok) →
    ts ≡ name w ∷ behind →
    behind ≡ symbol symbols.Assign ∷ inner → IsNumberIn sc.regs w reg → WasSpelled sc inner e rest → rest ≡ [] →
    LineWasSpelled sc version (name (codes "let") ∷ ts) (said.Does (Let reg e))
let_spelled sc version w reg e ts behind inner rest head sign is spelled end = (
  rw (does-Let sc reg e, ← is.name, head, sign, ends sc e inner rest spelled end) refl,
  rw (sayable-Let sc version reg e, is.there, spelled.1) refl,
)

let_found : (sc : Scope) (version : ℕ) (ts : List Tok) (r : Read) → let_line sc ts ≡ Some r →
    IsLineFound sc version (name (codes "let") ∷ ts) r
unfolding let_line
let_found sc version ts r e =
    let w = bind_ok (name_at ts) _ r e in
    let inner = bind_ok (after is_assign w.0.1) _ r w.2 in
    let value = bind_ok (expr sc inner.0) _ r inner.2 in
    let reg = number_in sc.regs w.0.0 in
    let end = whole_found (said.Does (Let reg.0 value.0.0.0), reg.1 && value.0.0.1) value.0.1 r value.2 in
    at_line sc version (name (codes "let") ∷ ts) _ r end.1 (λ there.
    let parts = both reg.1 value.0.0.1 there in
    let_spelled sc version w.0.0 reg.0 value.0.0.0 ts w.0.1 inner.0 value.0.1 (name_found ts w.0 w.1)
    (assign_found w.0.1 inner.0 inner.1)
    (number_in_found sc.regs w.0.0 parts.0) (expression_found sc 64 inner.0 value.0 value.1 parts.1) end.0)

-- PLACE = EXPR , EXPR, after its word
record ChangeSpelled (sc : Scope) (ts : List Tok) (p : Place) (x y : Expr) : Type 0 where
  tokens : (w : List ℕ) → name w ∷ ts ≡ spell_change sc w p x y
  known : change_known (class_rows sc.table) (known_in sc) p x y ≡ true

change_spelled : (sc : Scope) (p : Place) (x y : Expr) (ts after_place first after_first second rest : List Tok) →
    PlaceWasSpelled sc ts p after_place →
    after_place ≡ symbol symbols.Assign ∷ first → WasSpelled sc first x after_first →
    after_first ≡ symbol symbols.Comma ∷ second →
    WasSpelled sc second y rest → rest ≡ [] → ChangeSpelled sc ts p x y
change_spelled sc p x y ts after_place first after_first second rest at sign sx comma sy end = record {
  tokens = λ w. rw (at.0, sign, sx.0, comma, ends sc y second rest sy end) refl;
  known = rw (at.1, sx.1, sy.1) refl;
}

abbrev IsChangeFound : Scope → List Tok → Change → Type 0
IsChangeFound sc ts r = r.1 ≡ true → ChangeSpelled sc ts r.0.0 r.0.1.0 r.0.1.1

change_found : (sc : Scope) (ts : List Tok) (r : Change) → change sc ts ≡ Some r → IsChangeFound sc ts r
unfolding change
change_found sc ts r e =
    let p = bind_ok (place sc ts) _ r e in
    let first = bind_ok (after is_assign p.0.1) _ r p.2 in
    let x = bind_ok (expr sc first.0) _ r first.2 in
    let second = bind_ok (after is_comma x.0.1) _ r x.2 in
    let y = bind_ok (expr sc second.0) _ r second.2 in
    let end = whole_found ((p.0.0.0, (x.0.0.0, y.0.0.0)), p.0.0.1 && (x.0.0.1 && y.0.0.1)) y.0.1 r y.2 in
    subst (IsChangeFound sc ts) end.1 (λ there.
    let front = both p.0.0.1 (x.0.0.1 && y.0.0.1) there in
    let parts = both x.0.0.1 y.0.0.1 front.1 in
    change_spelled sc p.0.0.0 x.0.0.0 y.0.0.0 ts p.0.1 first.0 x.0.1 second.0 y.0.1 (place_found sc ts p.0 p.1 front.0)
    (assign_found p.0.1 first.0 first.1) (expression_found sc 64 first.0 x.0 x.1 parts.0)
    (comma_found x.0.1 second.0 second.1)
    (expression_found sc 64 second.0 y.0 y.1 parts.1) end.0)

set_found : (sc : Scope) (version : ℕ) (ts : List Tok) (r : Read) → set_line sc ts ≡ Some r →
    IsLineFound sc version (name (codes "set") ∷ ts) r
unfolding set_line
set_found sc version ts r e =
    let c = bind_ok (change sc ts) _ r e in
    at_line sc version (name (codes "set") ∷ ts) _ r (same_Some _ _ c.2) (λ there.
    let spelled = change_found sc ts c.0 c.1 there in (
      spelled.tokens (codes "set") ∙ sym (does-Set sc c.0.0.0 c.0.0.1.0 c.0.0.1.1),
      sayable-Set sc version c.0.0.0 c.0.0.1.0 c.0.0.1.1 ∙ spelled.known,
    ))

add_found : (sc : Scope) (version : ℕ) (ts : List Tok) (r : Read) → (version == 2) ≡ true → add_line sc ts ≡ Some r →
    IsLineFound sc version (name (codes "add") ∷ ts) r
unfolding add_line
add_found sc version ts r two e =
    let c = bind_ok (change sc ts) _ r e in
    at_line sc version (name (codes "add") ∷ ts) _ r (same_Some _ _ c.2) (λ there.
    let spelled = change_found sc ts c.0 c.1 there in (
      spelled.tokens (codes "add") ∙ sym (does-Add sc c.0.0.0 c.0.0.1.0 c.0.0.1.1),
      sayable-Add sc version c.0.0.0 c.0.0.1.0 c.0.0.1.1 ∙ rw (two, spelled.known) refl,
    ))

abbrev IsOnlyFound : Scope → List Tok → Expr × Bool → Type 0
IsOnlyFound sc ts r = r.1 ≡ true → (ts ≡ spell sc r.0) × (is_known (known_in sc) r.0 ≡ true)

only_found : (sc : Scope) (ts : List Tok) (r : Expr × Bool) → only sc ts ≡ Some r → IsOnlyFound sc ts r
unfolding only
only_found sc ts r e =
    let value = bind_ok (expr sc ts) _ r e in
    let end = whole_found value.0.0 value.0.1 r value.2 in
    subst (IsOnlyFound sc ts) end.1 (λ there.
    let spelled = expression_found sc 64 ts value.0 value.1 there in
    (ends sc value.0.0.0 ts value.0.1 spelled end.0, spelled.1))

wait_found : (sc : Scope) (version : ℕ) (ts : List Tok) (r : Read) → wait_line sc ts ≡ Some r →
    IsLineFound sc version (name (codes "wait") ∷ ts) r
unfolding wait_line
wait_found sc version ts r e =
    let value = bind_ok (only sc ts) _ r e in
    at_line sc version (name (codes "wait") ∷ ts) _ r (same_Some _ _ value.2) (λ there.
    let spelled = only_found sc ts value.0 value.1 there in (
      ap (λ (t : List Tok). name (codes "wait") ∷ t) spelled.0 ∙ sym (does-Wait sc value.0.0),
      sayable-Wait sc version value.0.0 ∙ spelled.1,
    ))

if_found : (sc : Scope) (version : ℕ) (ts : List Tok) (r : Read) → if_line sc ts ≡ Some r →
    IsLineFound sc version (name (codes "if") ∷ ts) r
unfolding if_line
if_found sc version ts r e =
    let test = bind_ok (only sc ts) _ r e in
    at_line sc version (name (codes "if") ∷ ts) _ r (same_Some _ _ test.2) (λ there.
    let spelled = only_found sc ts test.0 test.1 there in
    (ap (λ (t : List Tok). name (codes "if") ∷ t) spelled.0, spelled.1))

else_found : (sc : Scope) (version : ℕ) (ts : List Tok) (r : Read) → whole (said.Else, true) ts ≡ Some r →
    IsLineFound sc version (name (codes "else") ∷ ts) r
else_found sc version ts r e =
    let end = whole_found (said.Else, true) ts r e in
    at_line sc version (name (codes "else") ∷ ts) _ r end.1
    (λ there. (ap (λ (t : List Tok). name (codes "else") ∷ t) end.0, refl))

end_found : (sc : Scope) (version : ℕ) (ts : List Tok) (r : Read) → whole (said.End, true) ts ≡ Some r →
    IsLineFound sc version (name (codes "end") ∷ ts) r
end_found sc version ts r e =
    let end = whole_found (said.End, true) ts r e in
    at_line sc version (name (codes "end") ∷ ts) _ r end.1
    (λ there. (ap (λ (t : List Tok). name (codes "end") ∷ t) end.0, refl))

word_found : (sc : Scope) (version : ℕ) (w : List ℕ) (ts : List Tok) (r : Read) →
    after_word sc version w ts ≡ Some r → IsLineFound sc version (name w ∷ ts) r
unfolding after_word
word_found sc version w ts r =
    let P : Type 0 = IsLineFound sc version (name w ∷ ts) r in
    let at : (v : List ℕ) → IsLineFound sc version (name v ∷ ts) r → bytes_eq w v ≡ true → P =
    λ v found is. subst (λ (w : List ℕ). IsLineFound sc version (name w ∷ ts) r) (sym (same_text w v is)) found in
    branch P (bytes_eq w (codes "reg")) _ _ r (λ is e. at (codes "reg") (reg_found sc version ts r e) is)
    (λ not_reg. branch P (bytes_eq w (codes "read")) _ _ r (λ is e. at (codes "read") (read_found sc version ts r e) is)
    (λ not_read. branch P (bytes_eq w (codes "scan")) _ _ r
    (λ is e. at (codes "scan") (scan_found sc version ts r e) is)
    (λ not_scan. branch P (bytes_eq w (codes "let")) _ _ r (λ is e. at (codes "let") (let_found sc version ts r e) is)
    (λ not_let. branch P (bytes_eq w (codes "set")) _ _ r (λ is e. at (codes "set") (set_found sc version ts r e) is)
    (λ not_set. branch P (bytes_eq w (codes "wait")) _ _ r (λ is e. at (codes "wait") (wait_found sc version ts r e) is)
    (λ not_wait. branch P (bytes_eq w (codes "if")) _ _ r (λ is e. at (codes "if") (if_found sc version ts r e) is)
    (λ not_if. branch P (bytes_eq w (codes "else")) _ _ r (λ is e. at (codes "else") (else_found sc version ts r e) is)
    (λ not_else. branch P (bytes_eq w (codes "end")) _ _ r (λ is e. at (codes "end") (end_found sc version ts r e) is)
    (λ not_end. branch P (bytes_eq w (codes "add") && version == 2) _ _ r
    (λ is e. let parts = both (bytes_eq w (codes "add")) (version == 2) is in at (codes "add")
    (add_found sc version ts r parts.1 e) parts.0)
    (λ not_add e. none P r e))))))))))

line_found : (sc : Scope) (version : ℕ) (ts : List Tok) (r : Read) → statement sc version ts ≡ Some r →
    IsLineFound sc version ts r
unfolding statement
line_found sc version [] r e = none _ r e
line_found sc version (name w ∷ ts) r e = word_found sc version w ts r e
line_found sc version (number z ∷ ts) r e = none _ r e
line_found sc version (symbol s ∷ ts) r e = none _ r e

-- what is read was spelled
pub line_spelled : (sc : Scope) (version : ℕ) (ts : List Tok) (s : Said) → statement sc version ts ≡ Some (s, true) →
    (ts ≡ spell_said sc s) × (is_sayable sc version s ≡ true)
line_spelled sc version ts s h = line_found sc version ts (s, true) h refl
