-- One text after another.
use Rattle.std.proofs.Common.{◌≡◌, ◌∙◌, ap, sym, subst, ℕ, ◌+◌, ◌≤◌, ◌<◌, [], ◌∷◌, length, take, drop, get_or, inl, inr, List, ◌++◌, Result, Ok, Err, arith, OnOk, OnErr}
use Rattle.std.proofs.lemmas.Bool.{false≢true}
use Rattle.std.proofs.lemmas.List.{map-append, take-append-drop, take_more}
use Rattle.std.specs.Result.{IsErr}
use Rattle.pm_top.specs.Refusals.{shown, shown_byte}
use Rattle.std.specs.Io.KnownBytes.{Appends}
use Rattle.pm_io.specs.Causes.{AppendsPart, Rose}
use Rattle.pm_io.proofs.Known.{appends-append, prefix-after, prefix-more, prefix-part}
use Rattle.pm_top.specs.Speech.{Fails, SinkSight, Speaks}

rose-later : (a b c : ℕ) → Rose a b → b ≤ c → Rose a c
rose-later a b c r h = omega (arith, r, h)

rose-earlier : (a b c : ℕ) → a ≤ b → Rose b c → Rose a c
rose-earlier a b c h r = omega (arith, r, h)

fails-later : (a b c : SinkSight) → Fails a b → b.faults ≤ c.faults → b.stalls ≤ c.stalls → Fails a c
fails-later a b c (inl r) f s = inl (rose-later a.faults b.faults c.faults r f)
fails-later a b c (inr r) f s = inr (rose-later a.stalls b.stalls c.stalls r s)

fails-earlier : (a b c : SinkSight) → a.faults ≤ b.faults → a.stalls ≤ b.stalls → Fails b c → Fails a c
fails-earlier a b c f s (inl r) = inl (rose-earlier a.faults b.faults c.faults f r)
fails-earlier a b c f s (inr r) = inr (rose-earlier a.stalls b.stalls c.stalls s r)

-- all of the first text, and then the second
pub speaks-on : {X Y E F : Type 0} (x : X) (r : Result Y F) (a b c : SinkSight) (s t : List ℕ) → Speaks {X = X} {E = E} (Ok x) a b s → Speaks r b c t →
    Speaks r a c (s ++ t)
speaks-on x (Ok y) a b c s t first second = record {
  all = appends-append a.holds b.holds c.holds s t first.all second.all;
  part = tt;
  cause = tt;
  faults = omega (arith, first.faults, second.faults);
  stalls = omega (arith, first.stalls, second.stalls);
}
speaks-on x (Err e) a b c s t first second = record {
  all = tt;
  part = prefix-after a.holds b.holds c.holds s t first.all second.part;
  cause = fails-earlier a b c first.faults first.stalls second.cause;
  faults = omega (arith, first.faults, second.faults);
  stalls = omega (arith, first.stalls, second.stalls);
}

-- a failure in the first text
pub speaks-stop : {X Y E F : Type 0} (e : E) (f : F) (a b : SinkSight) (s t : List ℕ) → Speaks {X = X} {E = E} (Err e) a b s → Speaks {X = Y} {E = F} (Err f) a b (s ++ t)
speaks-stop e f a b s t first = record {
  all = tt;
  part = prefix-more a.holds b.holds s t first.part;
  cause = first.cause;
  faults = first.faults;
  stalls = first.stalls;
}

-- a failure that is handed on
pub speaks-ended : {X Y E F : Type 0} (e : E) (q : Result Y F) (a b : SinkSight) (s t : List ℕ) → IsErr q → Speaks {X = X} {E = E} (Err e) a b s →
    Speaks q a b (s ++ t)
speaks-ended e (Ok y) a b s t is first = absurd (false≢true is)
speaks-ended e (Err f) a b s t is first = speaks-stop e f a b s t first

-- a whole write
pub speaks-whole : {X E : Type 0} (r : Result X E) (a b : SinkSight) (s : List ℕ) → OnOk r (Appends a.holds b.holds s) → OnErr r (AppendsPart a.holds b.holds s) →
    OnErr r (Fails a b) → a.faults ≤ b.faults → a.stalls ≤ b.stalls → Speaks r a b s
speaks-whole (Ok x) a b s all part cause f t = record { all = all; part = tt; cause = tt; faults = f; stalls = t }
speaks-whole (Err e) a b s all part cause f t = record { all = tt; part = prefix-part a.holds b.holds s part; cause = cause; faults = f; stalls = t }

key-split : (key : List ℕ) (i d : ℕ) → i < length key → (shown (take i key) ++ shown_byte (get_or key i d) ∷ []) ++ shown (drop (i + 1) key) ≡ shown key
key-split key i d h =
    ap (λ (bs : List ℕ). bs ++ shown (drop (i + 1) key)) (sym (map-append shown_byte (take i key) (get_or key i d ∷ [])))
    ∙ ap (λ (bs : List ℕ). shown bs ++ shown (drop (i + 1) key)) (sym (take_more key i d h))
    ∙ sym (map-append shown_byte (take (i + 1) key) (drop (i + 1) key))
    ∙ ap (λ (bs : List ℕ). shown bs) (take-append-drop (i + 1) key)

-- a byte of a key that fails
pub key-failed : {E F : Type 0} (e : E) (q : Result (Unit {0}) F) (a b c : SinkSight) (key : List ℕ) (i d : ℕ) → i < length key → IsErr q →
    Appends a.holds b.holds (shown (take i key)) → a.faults ≤ b.faults → a.stalls ≤ b.stalls →
    Speaks {X = Unit {0}} {E = E} (Err e) b c (shown_byte (get_or key i d) ∷ []) → Speaks q a c (shown key)
key-failed {E = E} e q a b c key i d h is so faults stalls byte =
    let before : Speaks {X = Unit {0}} {E = E} (Ok tt) a b (shown (take i key)) = record { all = so; part = tt; cause = tt; faults = faults; stalls = stalls } in
    subst (λ (bs : List ℕ). Speaks q a c bs) (key-split key i d h)
    (speaks-ended e q a c (shown (take i key) ++ shown_byte (get_or key i d) ∷ []) (shown (drop (i + 1) key)) is
    (speaks-on {X = Unit {0}} {Y = Unit {0}} {E = E} {F = E} tt (Err e) a b c (shown (take i key)) (shown_byte (get_or key i d) ∷ []) before byte))
