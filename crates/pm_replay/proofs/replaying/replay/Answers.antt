use Rattle.std.proofs.Common.{◌+◌, ◌≡◌, ◌∙◌, Err, Ok, ap, arith, length, subst, sym}
use Rattle.pm_history.proofs.Texts.{same_journal}
use Rattle.pm_core.specs.Views.{PlayedWell, WorldView}
use Rattle.pm_replay.specs.Replays.{IsFirstIllegal, IsLegalText, is_end, replayed}
use Rattle.pm_replay.specs.declared.fault.ReplayFault.TheVariants as fault
use Rattle.pm_replay.proofs.Cases.{came_to, faulty_then, few, legal_all, stopped_low, stopped_there}
use Rattle.pm_replay.proofs.Illegal.{no_journal, one_first}
use Rattle.pm_replay.proofs.replaying.replay.Goals as goal

pub play-requires : goal.play-requires
play-requires c =
    let p = c.args.plan.now in
    let text = c.args.text.now in
    let j = c.in_ok-lines.lines.journal in
    let whole = c.in_ok-lines.lines.whole in
    let lines = c.in_ok-lines.ensures in
    let low = few p j whole text lines c.requires.short in
    let made = ap (λ (z : WorldView). z.made) c.in_ok-world.ensures in
    let all = ap length c.as_slice.ensures in
    omega (arith, low, made, all)

pub overflow_add-result : goal.overflow_add-result
overflow_add-result c =
    let p = c.args.plan.now in
    let text = c.args.text.now in
    let j = c.in_ok-lines.lines.journal in
    let whole = c.in_ok-lines.lines.whole in
    let lines = c.in_ok-lines.ensures in
    let old = c.in_ok-world.world in
    let new = c.play.new.self in
    let es = c.in_ok-played.played.entries in
    let stop = c.in_ok-played.played.stopped in
    let well : PlayedWell old new j es stop =
    subst (λ z. PlayedWell old new z es stop) c.as_slice.ensures c.in_ok-played.ensures.played in
    let low = few p j whole text lines c.requires.short in
    let at = stopped_low p j whole text lines old new es stop c.in_ok-world.ensures well c.in-Some.done c.in-Some.is in
    omega (arith, low, at)

pub returns-in-Some-clause-fault : goal.returns-in-Some-clause-fault
returns-in-Some-clause-fault c = λ n e.
    let p = c.args.plan.now in
    let text = c.args.text.now in
    let j = c.in_ok-lines.lines.journal in
    let whole = c.in_ok-lines.lines.whole in
    let lines = c.in_ok-lines.ensures in
    let old = c.in_ok-world.world in
    let new = c.play.new.self in
    let es = c.in_ok-played.played.entries in
    let stop = c.in_ok-played.played.stopped in
    let well : PlayedWell old new j es stop =
    subst (λ z. PlayedWell old new z es stop) c.as_slice.ensures c.in_ok-played.ensures.played in
    let d = c.in-Some.done in
    let first : IsFirstIllegal p (d + 1) text =
    stopped_there p j whole text lines old new es stop c.in_ok-world.ensures well d c.in-Some.is in
    let number : d + 1 ≡ n = cc in
    subst (λ k. IsFirstIllegal p k text) number first

pub returns-in-Some-clause-accepts : goal.returns-in-Some-clause-accepts
returns-in-Some-clause-accepts c = λ k l given.
    let p = c.args.plan.now in
    let text = c.args.text.now in
    let j = c.in_ok-lines.lines.journal in
    let whole = c.in_ok-lines.lines.whole in
    let lines = c.in_ok-lines.ensures in
    let old = c.in_ok-world.world in
    let new = c.play.new.self in
    let es = c.in_ok-played.played.entries in
    let stop = c.in_ok-played.played.stopped in
    let well : PlayedWell old new j es stop =
    subst (λ z. PlayedWell old new z es stop) c.as_slice.ensures c.in_ok-played.ensures.played in
    let d = c.in-Some.done in
    let first : IsFirstIllegal p (d + 1) text =
    stopped_there p j whole text lines old new es stop c.in_ok-world.ensures well d c.in-Some.is in
    absurd (no_journal p (d + 1) text k first l)

pub returns-in-Some-clause-refuses : goal.returns-in-Some-clause-refuses
returns-in-Some-clause-refuses c = λ n wanted given.
    let p = c.args.plan.now in
    let text = c.args.text.now in
    let j = c.in_ok-lines.lines.journal in
    let whole = c.in_ok-lines.lines.whole in
    let lines = c.in_ok-lines.ensures in
    let old = c.in_ok-world.world in
    let new = c.play.new.self in
    let es = c.in_ok-played.played.entries in
    let stop = c.in_ok-played.played.stopped in
    let well : PlayedWell old new j es stop =
    subst (λ z. PlayedWell old new z es stop) c.as_slice.ensures c.in_ok-played.ensures.played in
    let d = c.in-Some.done in
    let first : IsFirstIllegal p (d + 1) text =
    stopped_there p j whole text lines old new es stop c.in_ok-world.ensures well d c.in-Some.is in
    ap (λ k. Err (fault.Line k)) (one_first p (d + 1) n text first wanted)

pub returns-then-not-lines-clause-fault : goal.returns-then-not-lines-clause-fault
returns-then-not-lines-clause-fault c = λ n e.
    let p = c.args.plan.now in
    let text = c.args.text.now in
    let j = c.in_ok-lines.lines.journal in
    let whole = c.in_ok-lines.lines.whole in
    let lines = c.in_ok-lines.ensures in
    let old = c.in_ok-world.world in
    let new = c.play.new.self in
    let es = c.in_ok-played.played.entries in
    let stop = c.in_ok-played.played.stopped in
    let well : PlayedWell old new j es stop =
    subst (λ z. PlayedWell old new z es stop) c.as_slice.ensures c.in_ok-played.ensures.played in
    let first : IsFirstIllegal p (length j + 1) text =
    faulty_then p j whole text lines old new es stop c.in_ok-world.ensures well c.in_default.is c.if-not-lines.true in
    let number : c.len.result + 1 ≡ n = cc in
    let same : length j + 1 ≡ n = omega (arith, number, c.len.ensures) in
    subst (λ k. IsFirstIllegal p k text) same first

pub returns-then-not-lines-clause-accepts : goal.returns-then-not-lines-clause-accepts
returns-then-not-lines-clause-accepts c = λ k l given.
    let p = c.args.plan.now in
    let text = c.args.text.now in
    let j = c.in_ok-lines.lines.journal in
    let whole = c.in_ok-lines.lines.whole in
    let lines = c.in_ok-lines.ensures in
    let old = c.in_ok-world.world in
    let new = c.play.new.self in
    let es = c.in_ok-played.played.entries in
    let stop = c.in_ok-played.played.stopped in
    let well : PlayedWell old new j es stop =
    subst (λ z. PlayedWell old new z es stop) c.as_slice.ensures c.in_ok-played.ensures.played in
    let first : IsFirstIllegal p (length j + 1) text =
    faulty_then p j whole text lines old new es stop c.in_ok-world.ensures well c.in_default.is c.if-not-lines.true in
    absurd (no_journal p (length j + 1) text k first l)

pub returns-then-not-lines-clause-refuses : goal.returns-then-not-lines-clause-refuses
returns-then-not-lines-clause-refuses c = λ n wanted given.
    let p = c.args.plan.now in
    let text = c.args.text.now in
    let j = c.in_ok-lines.lines.journal in
    let whole = c.in_ok-lines.lines.whole in
    let lines = c.in_ok-lines.ensures in
    let old = c.in_ok-world.world in
    let new = c.play.new.self in
    let es = c.in_ok-played.played.entries in
    let stop = c.in_ok-played.played.stopped in
    let well : PlayedWell old new j es stop =
    subst (λ z. PlayedWell old new z es stop) c.as_slice.ensures c.in_ok-played.ensures.played in
    let first : IsFirstIllegal p (length j + 1) text =
    faulty_then p j whole text lines old new es stop c.in_ok-world.ensures well c.in_default.is c.if-not-lines.true in
    let same = one_first p (length j + 1) n text first wanted in
    let number : c.len.result + 1 ≡ n = omega (arith, same, c.len.ensures) in
    ap (λ k. Err (fault.Line k)) number

pub returns-clause-text : goal.returns-clause-text
returns-clause-text c =
    let p = c.args.plan.now in
    let text = c.args.text.now in
    let j = c.in_ok-lines.lines.journal in
    let whole = c.in_ok-lines.lines.whole in
    let lines = c.in_ok-lines.ensures in
    let old = c.in_ok-world.world in
    let new = c.play.new.self in
    let es = c.in_ok-played.played.entries in
    let stop = c.in_ok-played.played.stopped in
    let well : PlayedWell old new j es stop =
    subst (λ z. PlayedWell old new z es stop) c.as_slice.ensures c.in_ok-played.ensures.played in
    let legal : IsLegalText p j text =
    legal_all p j whole text lines old new es stop c.in_ok-world.ensures well c.in_default.is c.if-not-lines.false in
    legal

pub returns-clause-replayed : goal.returns-clause-replayed
returns-clause-replayed c =
    let p = c.args.plan.now in
    let text = c.args.text.now in
    let j = c.in_ok-lines.lines.journal in
    let whole = c.in_ok-lines.lines.whole in
    let lines = c.in_ok-lines.ensures in
    let old = c.in_ok-world.world in
    let new = c.play.new.self in
    let es = c.in_ok-played.played.entries in
    let stop = c.in_ok-played.played.stopped in
    let well : PlayedWell old new j es stop =
    subst (λ z. PlayedWell old new z es stop) c.as_slice.ensures c.in_ok-played.ensures.played in
    let ended : c.is_end.result ≡ is_end new.world.line = c.is_end.ensures ∙ ap is_end c.line.ensures in
    let came = came_to p j whole text lines old new es stop c.in_ok-world.ensures well c.in_default.is c.is_end.result
    ended in
    came

pub returns-clause-accepts : goal.returns-clause-accepts
returns-clause-accepts c = λ k l given.
    let p = c.args.plan.now in
    let text = c.args.text.now in
    let j = c.in_ok-lines.lines.journal in
    let whole = c.in_ok-lines.lines.whole in
    let lines = c.in_ok-lines.ensures in
    let old = c.in_ok-world.world in
    let new = c.play.new.self in
    let es = c.in_ok-played.played.entries in
    let stop = c.in_ok-played.played.stopped in
    let well : PlayedWell old new j es stop =
    subst (λ z. PlayedWell old new z es stop) c.as_slice.ensures c.in_ok-played.ensures.played in
    let legal : IsLegalText p j text =
    legal_all p j whole text lines old new es stop c.in_ok-world.ensures well c.in_default.is c.if-not-lines.false in
    let ended : c.is_end.result ≡ is_end new.world.line = c.is_end.ensures ∙ ap is_end c.line.ensures in
    let came = came_to p j whole text lines old new es stop c.in_ok-world.ensures well c.in_default.is c.is_end.result
    ended in
    let same : j ≡ k = same_journal j k lines.written l.written (sym legal.text ∙ l.text) in
    ap (λ z. Ok z) (came ∙ ap (replayed p) same)

pub returns-clause-refuses : goal.returns-clause-refuses
returns-clause-refuses c = λ n wanted given.
    let p = c.args.plan.now in
    let text = c.args.text.now in
    let j = c.in_ok-lines.lines.journal in
    let whole = c.in_ok-lines.lines.whole in
    let lines = c.in_ok-lines.ensures in
    let old = c.in_ok-world.world in
    let new = c.play.new.self in
    let es = c.in_ok-played.played.entries in
    let stop = c.in_ok-played.played.stopped in
    let well : PlayedWell old new j es stop =
    subst (λ z. PlayedWell old new z es stop) c.as_slice.ensures c.in_ok-played.ensures.played in
    let legal : IsLegalText p j text =
    legal_all p j whole text lines old new es stop c.in_ok-world.ensures well c.in_default.is c.if-not-lines.false in
    absurd (no_journal p n text j wanted legal)
