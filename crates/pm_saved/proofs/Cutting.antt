-- Anti-messages that are sent one after another.
use Rattle.std.proofs.Common.{◌≡◌, refl, sym, ◌∙◌, ap, ap₂, ℕ, ◌+◌, ◌<◌, ◌≤◌, List, [], ◌∷◌, ◌++◌, map, length}
use Rattle.std.proofs.Common.{get_or, drop, append-nil, append_assoc, arith}
use Rattle.std.proofs.lemmas.List.{drop_all, drop_more}
use Rattle.pm_base.specs.declared.stamp.Num.{Num}
use Rattle.pm_base.specs.declared.stamp.Stamp.{Stamp}
use Rattle.pm_base.specs.declared.value.Write.{Write}
use Rattle.pm_message.specs.declared.Message.{Message}
use Rattle.pm_saved.specs.Inner.{step_of, steps_of}
use Rattle.pm_saved.specs.Steps.{HasGrown, act_cuts, cuts_of, withdrawn}
use Rattle.pm_saved.specs.declared.held.Held.{Held}

-- some of these messages were sent, and the others are left
pub record IsSending (all left old new : List Message) : Type 0 where
  pub given : List Message
  pub grown : new ≡ old ++ given
  pub rest : given ++ left ≡ all

pub sending-first : (all old : List Message) → IsSending all all old old
sending-first all old = record { given = []; grown = sym (append-nil old); rest = refl }

pub sending-more : (all left left' old new new' piece : List Message) → IsSending all left old new
    → left ≡ piece ++ left' → new' ≡ new ++ piece → IsSending all left' old new'
sending-more all left left' old new new' piece s e f = record {
  given = s.given ++ piece;
  grown = f ∙ (ap (λ z. z ++ piece) s.grown ∙ append_assoc old s.given piece);
  rest = append_assoc s.given piece left' ∙ (ap (λ z. s.given ++ z) (sym e) ∙ s.rest);
}

pub sending-done : (all left old new : List Message) → IsSending all left old new → left ≡ [] → new ≡ old ++ all
sending-done all left old new s e = s.grown ∙ ap (λ z. old ++ z) (sym (append-nil s.given)
    ∙ (ap (λ z. s.given ++ z) (sym e) ∙ s.rest))

pub sending-grown : (all left old new new' : List Message) → IsSending all left old new → HasGrown new new'
    → HasGrown old new'
sending-grown all left old new new' s g = (
  s.given ++ g.0,
  g.1 ∙ (ap (λ z. z ++ g.0) s.grown
      ∙ append_assoc old s.given g.0),
)

-- the cuts from a place on
pub cuts-more : (s : Stamp) (ns : List Num) (ws : List Write) (i : ℕ) (n : Num) (w : Write) → i < length ns
    → i < length ws → n ≡ get_or ns i n → w ≡ get_or ws i w
    → cuts_of s (drop i ns) (drop i ws) ≡ cuts_of s (n ∷ []) (w ∷ []) ++ cuts_of s (drop (i + 1) ns) (drop (i + 1) ws)
cuts-more s ns ws i n w lt lt' e f =
    ap₂ (cuts_of s) (drop_more ns i n lt ∙ ap (λ z. z ∷ drop (i + 1) ns) (sym e)) (drop_more ws i w lt'
    ∙ ap (λ z. z ∷ drop (i + 1) ws) (sym f))

no_writes : (s : Stamp) (ns : List Num) → cuts_of s ns [] ≡ []
no_writes s [] = refl
no_writes s (n ∷ ns) = refl

pub cuts-past : (s : Stamp) (ns : List Num) (ws : List Write) (i : ℕ) → length ws ≤ i
    → cuts_of s (drop i ns) (drop i ws) ≡ []
cuts-past s ns ws i le = ap (cuts_of s (drop i ns)) (drop_all i ws le) ∙ no_writes s (drop i ns)

pub cuts-end : (s : Stamp) (ns : List Num) (ws : List Write) (i : ℕ) → length ns ≤ i
    → cuts_of s (drop i ns) (drop i ws) ≡ []
cuts-end s ns ws i le = ap (λ z. cuts_of s z (drop i ws)) (drop_all i ns le)

-- what is withdrawn from a step on
pub withdrawn-more : (hs : List Held) (i : ℕ) (h : Held) → i < length hs → h ≡ get_or hs i h
    → withdrawn (steps_of (drop i hs)) ≡ act_cuts h.stamp h.act ++ withdrawn (steps_of (drop (i + 1) hs))
withdrawn-more hs i h lt e = ap (λ z. withdrawn (steps_of z)) (drop_more hs i h lt
    ∙ ap (λ z. z ∷ drop (i + 1) hs) (sym e))

pub withdrawn-end : (hs : List Held) (i : ℕ) → length hs ≤ i → withdrawn (steps_of (drop i hs)) ≡ []
withdrawn-end hs i le = ap (λ z. withdrawn (steps_of z)) (drop_all i hs le)
