-- What playing the events of a text's lines tells of the text.
use Rattle.std.proofs.Common.{ℕ, ◌+◌, ◌≤◌, ◌≡◌, ◌∙◌, Bool, true, false, List, [], ◌∷◌, ◌++◌, Option, Some, None, ap, sym, subst, refl, inl, inr, arith, length, append_assoc, append-nil, length-append}
use Rattle.std.proofs.lemmas.List.Concat.{flat_map-append}
use Rattle.std.specs.List.{AllByRecursion}
use Rattle.pm_base.specs.declared.rows.Entry.{Entry}
use Rattle.pm_base.specs.declared.run.Event.{Event}
use Rattle.pm_history.specs.Journals.{IsWritable, event_line, journal_text}
use Rattle.pm_plan.specs.declared.plan.Plan.{Plan}
use Rattle.pm_sim.specs.Played.{Played, PlayedUpTo, play}
use Rattle.pm_sim.specs.Worlds.{World, after_events, committed, first_world, is_legal, is_legal_run}
use Rattle.pm_sim.proofs.Plays.{play_law, play_legal, play_none}
use Rattle.pm_replay.specs.Replays.{AreLines, IsFirstIllegal, IsLegalText, is_end, replayed, world_after}
use Rattle.pm_replay.specs.declared.replayed.Replayed.{Replayed}
use Rattle.pm_core.specs.Views.{PlayedWell, WorldView, first_view}
use Rattle.pm_replay.proofs.Illegal.{not_empty, same_event, text_cons, text_long}

split : (xs ys : List Event) → AllByRecursion IsWritable (xs ++ ys)
    → AllByRecursion IsWritable xs × AllByRecursion IsWritable ys
split [] ys w = (tt, w)
split (x ∷ xs) ys w = (let q = split xs ys w.1 in ((w.0, q.0), q.1))

text_append : (xs ys : List Event) (rest : List ℕ)
    → journal_text (xs ++ ys) ++ rest ≡ journal_text xs ++ (journal_text ys ++ rest)
text_append xs ys rest = ap (λ t. t ++ rest) (flat_map-append event_line xs ys)
    ∙ append_assoc (journal_text xs) (journal_text ys) rest

module _ (p : Plan) (j : List Event) (whole : Bool) (text : List ℕ) (lines : AreLines j whole text) where
  abbrev w : World
  w = first_world p

  -- few events are in a text that isn't too long
  pub few : length text ≤ 67108864 → length j ≤ 20000000
  few le =
      let a = text_long j in
      let b : length text ≡ length (journal_text j) + length lines.rest =
      ap length lines.cut ∙ length-append (journal_text j) lines.rest in
      omega arith

  -- an event isn't legal
  pub stopped : (d : ℕ) → (play p w j).stopped ≡ Some d → IsFirstIllegal p (d + 1) text
  stopped d e = by (play_law p w 0 j)
    where
      by : PlayedUpTo p w 0 j (play p w j) → IsFirstIllegal p (d + 1) text
      by h = elim h.stops [
        | inl g ↦ absurd (let k : None ≡ Some d = sym g.0 ∙ e in cc)
        | inr g ↦ (
            let parts : j ≡ h.done ++ g.0 ∷ g.1 = h.parts ∙ ap (λ z. h.done ++ z) g.2 in
            let written = split h.done (g.0 ∷ g.1) (subst (AllByRecursion IsWritable) parts lines.written) in
            let count : Some d ≡ Some (0 + length h.done) = sym e ∙ g.4 in
            let number : d ≡ 0 + length h.done = cc in record {
              before = h.done;
              rest = journal_text (g.0 ∷ g.1) ++ lines.rest;
              cut = lines.cut ∙ (ap (λ z. journal_text z ++ lines.rest) parts
                  ∙ text_append h.done (g.0 ∷ g.1) lines.rest);
              written = written.0;
              legal = h.legal;
              number = omega (arith, number);
              more = λ k. not_empty g.0 (journal_text g.1 ++ lines.rest) (sym (text_cons g.0 g.1 lines.rest) ∙ k);
              illegal = λ f after v k. subst (λ z. is_legal p (world_after p h.done) z ≡ false)
                  (same_event g.0 f (journal_text g.1 ++ lines.rest) after written.1.0 v
                  (sym (text_cons g.0 g.1 lines.rest) ∙ k)) g.3;
            })
      ]

  pub stops_low : (d : ℕ) → (play p w j).stopped ≡ Some d → d ≤ length j
  stops_low d e = by (play_law p w 0 j)
    where
      by : PlayedUpTo p w 0 j (play p w j) → d ≤ length j
      by h = elim h.stops [
        | inl g ↦ absurd (let k : None ≡ Some d = sym g.0 ∙ e in cc)
        | inr g ↦ (
            let count : Some d ≡ Some (0 + length h.done) = sym e ∙ g.4 in
            let number : d ≡ 0 + length h.done = cc in
            let all : length j ≡ length h.done + length h.rest = ap length h.parts ∙ length-append h.done h.rest in
            omega arith)
      ]

  -- all events are legal, and a line is none
  pub faulty : (play p w j).stopped ≡ None → whole ≡ false → IsFirstIllegal p (length j + 1) text
  faulty none e = record {
    before = j;
    rest = lines.rest;
    cut = lines.cut;
    written = lines.written;
    legal = play_none p w j none;
    number = refl;
    more = lines.more e;
    illegal = λ f after v k. absurd (lines.faulty e f after v k);
  }

  -- all events are legal, and there is no other line
  pub legal : (play p w j).stopped ≡ None → whole ≡ true → IsLegalText p j text
  legal none e = record {
    written = lines.written;
    text = lines.cut ∙ (ap (λ z. journal_text j ++ z) (lines.ended e) ∙ append-nil (journal_text j));
    legal = play_none p w j none;
  }

  abbrev pub make : List Entry → Bool → Replayed
  make es ended = record { journal = j; entries = es; ended = ended }

  came : (a b : List Entry) (c d : Bool) → a ≡ b → c ≡ d → make a c ≡ make b d
  came a b c d e f = λ i. make (e i) (f i)

  pub comes_to : (x : World) (es : List Entry) (ended : Bool) → (play p w j).stopped ≡ None
      → record { world = x; entries = es; stopped = None } ≡ play p w j → ended ≡ is_end x.line
      → make es ended ≡ replayed p j
  comes_to x es ended none e f =
      let g = e ∙ play_legal p w j (play_none p w j none) in
      came es (committed p j) ended (is_end (world_after p j).line) (ap (λ (r : Played). r.entries) g)
      (f ∙ ap (λ (r : Played). is_end r.world.line) g)

  -- ---- after `World::play`

  module _ (old new : WorldView) (es : List Entry) (stop : Option ℕ) (start : old ≡ first_view p)
      (well : PlayedWell old new j es stop) where
    played : record { world = new.world; entries = es; stopped = stop } ≡ play p w j
    played = subst (λ (z : WorldView). record { world = new.world; entries = es; stopped = stop }
        ≡ play z.plan z.world j) start well.played

    stop_is : (o : Option ℕ) → stop ≡ o → (play p w j).stopped ≡ o
    stop_is o e = sym (ap (λ (r : Played). r.stopped) played) ∙ e

    pub stopped_there : (d : ℕ) → stop ≡ Some d → IsFirstIllegal p (d + 1) text
    stopped_there d e = stopped d (stop_is (Some d) e)

    pub stopped_low : (d : ℕ) → stop ≡ Some d → d ≤ length j
    stopped_low d e = stops_low d (stop_is (Some d) e)

    pub faulty_then : stop ≡ None → whole ≡ false → IsFirstIllegal p (length j + 1) text
    faulty_then e f = faulty (stop_is None e) f

    pub legal_all : stop ≡ None → whole ≡ true → IsLegalText p j text
    legal_all e f = legal (stop_is None e) f

    pub came_to : stop ≡ None → (ended : Bool) → ended ≡ is_end new.world.line
        → make es ended ≡ replayed p j
    came_to e ended f = comes_to new.world es ended (stop_is None e)
        (subst (λ z. record { world = new.world; entries = es; stopped = z } ≡ play p w j) e played) f
